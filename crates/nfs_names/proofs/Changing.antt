-- Operations that change the tree ask it last: what they come to by what was found before, and by what the tree refuses, which their last checks say.
use Rattle.std.proofs.Common.{◌≡◌, ℕ, List, ◌∷◌, Option, Some, None, refl, sym, ◌∙◌, ap}
use Rattle.std.specs.Prelude.{Bool, Result, Ok, Err, not, is_some, option_map}
use Rattle.nfs_xdr.specs.{Checks.{first_fault, judged}, declared.time.Time.Time, declared.status.Status.Status}
use Rattle.nfs_xdr.specs.declared.status.Status.TheVariants.{Exist, Inval}
use Rattle.nfs_compound.specs.{declared.op_num.OpNum.OpNum, declared.name_args.Create.Create, declared.name_args.Rename.Rename}
use Rattle.nfs_compound.specs.declared.op_num.OpNum.TheVariants as Num
use Rattle.nfs_tree.specs.{declared.fault.TreeFault.TreeFault, Create.create_checks, Files.has_name, Names.{link_checks, moves, remove_checks, rename_checks}}
use Rattle.nfs_attrs.specs.{declared.wanted.Wanted.Wanted, Setting.make_checks}
use Rattle.nfs_opens.specs.Steps.{◌>>=◌, ◌>>◌, in_order, require}
use Rattle.nfs_names.specs.{declared.context.Context.Context, declared.making.Making.Making, declared.node.Node.Node, State.State}
use Rattle.nfs_names.specs.Faults.{tree_fault_status, by_tree}
use Rattle.nfs_names.specs.{Outcome.{Outcome, refuses, or_refusal}, Checks.{current, both}, Create.{attributes_in, create, new_of, place_checks, room_checks}}
use Rattle.nfs_names.specs.{Fronts.{creating, linking, removing, renaming}, Link.link, Remove.remove, Rename.{move_of, renamed, rename}}
use Rattle.nfs_names.specs.Link as of_link
use Rattle.nfs_names.specs.Remove as of_remove
use Rattle.nfs_names.specs.Rename as of_rename
use Rattle.nfs_names.proofs.{Found.{came, judged_ok, ok_is}, LastChecks.{create_last, link_last, remove_last, rename_last}}
use Rattle.nfs_names.proofs.{Rows.fault_map, Refusing.{Refuses, refuses_then, order_refuses, held_refuses, ok_refuses}, Steps.through}
use Rattle.nfs_names.proofs.NameLaws.{current_refuses, both_refuses, wanted_refuses, link_places, remove_places, removed, linked, created}

-- What is found before the tree is asked.

pub linking_refuses : (s : State) (x : Context) (name : List ℕ) → Refuses (linking s x name)
linking_refuses s x name = refuses_then (both s x) _ (both_refuses s x) (λ p.
    refuses_then (in_order (link_places x name p)) _ (order_refuses (link_places x name p) refl) (λ u. ok_refuses p))

pub renaming_refuses : (s : State) (x : Context) (a : Rename) → Refuses (renaming s x a)
renaming_refuses s x a = refuses_then (both s x) _ (both_refuses s x) (λ p.
    refuses_then (in_order (of_rename.place_checks x a p)) _ (order_refuses (of_rename.place_checks x a p) refl) (λ u. ok_refuses p))

pub creating_refuses : (s : State) (x : Context) (c : Create) → Refuses (creating s x c)
creating_refuses s x c = refuses_then (current s x) _ (current_refuses s x) (λ d.
    refuses_then (in_order (place_checks x c d)) _ (order_refuses (place_checks x c d) refl) (λ u.
    refuses_then (attributes_in c.createattrs) _ (wanted_refuses c.createattrs) (λ w.
    refuses_then (in_order (make_checks w x.who)) _ (order_refuses (make_checks w x.who) refl) (λ u.
    refuses_then (require (not (is_some w.size)) Inval) _ (held_refuses (not (is_some w.size)) Inval refl) (λ u.
    (let m : Making = record { place = d; wanted = w } in ok_refuses m))))))

-- An operation of which the tree is asked last.

pub record Asks {A : Type 0} (s : State) (x : Context) (op : OpNum) (found : Result A Status) (checks : A → List (Bool × TreeFault)) (does : A → Outcome)
    (o : Outcome) : Type 0 where
  pub last : A → List (Bool × Status)
  pub is : o ≡ or_refusal s x op (found >>= λ a. in_order (last a) >> Ok (does a))
  pub same : (a : A) → found ≡ Ok a → first_fault (by_tree (checks a)) ≡ first_fault (last a)

module _ {A : Type 0} {s : State} {x : Context} {op : OpNum} {found : Result A Status} {checks : A → List (Bool × TreeFault)} {does : A → Outcome}
    {o : Outcome} (asks : Asks s x op found checks does o) where
  by_tree_fault : (a : A) (fault : Option TreeFault) → found ≡ Ok a → first_fault (checks a) ≡ fault
      → o ≡ or_refusal s x op (judged (option_map tree_fault_status fault) >> Ok (does a))
  by_tree_fault a fault there e = asks.is ∙ ap (λ v. or_refusal s x op (v >>= λ a. in_order (asks.last a) >> Ok (does a))) there
      ∙ ap (λ o. or_refusal s x op (judged o >> Ok (does a)))
      (sym (fault_map tree_fault_status (checks a) ∙ asks.same a there) ∙ ap (option_map tree_fault_status) e)

  pub goes : (a : A) → found ≡ Ok a → first_fault (checks a) ≡ None → o ≡ does a
  goes a there none = by_tree_fault a None there none

  pub stops : (a : A) (f : TreeFault) → found ≡ Ok a → first_fault (checks a) ≡ Some f → o ≡ refuses s x op (tree_fault_status f)
  stops a f there some = by_tree_fault a (Some f) there some

  pub errs : (f : Status) → found ≡ Err f → o ≡ refuses s x op f
  errs f err = asks.is ∙ ap (λ v. or_refusal s x op (v >>= λ a. in_order (asks.last a) >> Ok (does a))) err

-- what was found where it passed its checks
passed_by : {A : Type 0} (v : Result A Status) (checks : A → List (Bool × Status)) (a : A)
    → (v >>= λ a. in_order (checks a) >> Ok a) ≡ Ok a → (v ≡ Ok a) × (first_fault (checks a) ≡ None)
passed_by v checks a e =
    let f = came v _ a e in
    let u = came (in_order (checks f.found)) _ a f.then in
    let same : f.found ≡ a = ok_is refl u.then in
    (f.is ∙ ap Ok same, ap (λ a. first_fault (checks a)) (sym same) ∙ judged_ok _ u.found u.is)

pub remove_asks : (s : State) (x : Context) (now : Time) (name : List ℕ)
    → Asks s x Num.Remove (removing s x name) (λ d. remove_checks s.tree d.number name) (λ d. removed s x now name d) (remove s x now name)
unfolding remove
remove_asks s x now name = record {
  last = λ d. of_remove.last_checks s.tree d.number name;
  is = ap (or_refusal s x Num.Remove) (through (current s x) _ Ok _);
  same = λ d found. (let f = passed_by (current s x) (remove_places x name) d found in remove_last s x name d f.0 f.1);
}

pub link_asks : (s : State) (x : Context) (now : Time) (name : List ℕ)
    → Asks s x Num.Link (linking s x name) (λ p. link_checks s.tree p.saved.number p.current.number name) (λ p. linked s x now name p) (link s x now name)
unfolding link
link_asks s x now name = record {
  last = λ p. of_link.last_checks s.tree p.saved.number p.current.number name;
  is = ap (or_refusal s x Num.Link) (through (both s x) _ Ok _);
  same = λ p found. (let f = passed_by (both s x) (link_places x name) p found in link_last s x name p f.0 f.1);
}

pub rename_asks : (s : State) (x : Context) (now : Time) (a : Rename)
    → Asks s x Num.Rename (renaming s x a) (λ p. rename_checks s.tree (move_of a p)) (λ p. renamed s x now a p (moves s.tree (move_of a p))) (rename s x now a)
unfolding rename
rename_asks s x now a = record {
  last = λ p. of_rename.last_checks s.tree (move_of a p);
  is = ap (or_refusal s x Num.Rename) (through (both s x) _ Ok _);
  same = λ p found. (let f = passed_by (both s x) (of_rename.place_checks x a) p found in rename_last s x a p f.0 f.1);
}

pub create_asks : (s : State) (x : Context) (now : Time) (c : Create)
    → Asks s x Num.Create (creating s x c) (λ m. create_checks s.tree m.place.number c.objname (new_of c.objtype)) (λ m. created s x now c m.place m.wanted) (create s x now c)
unfolding create
create_asks s x now c = record {
  last = λ m. (has_name s.tree m.place.number c.objname, Exist) ∷ room_checks s.tree m.place.number;
  is = ap (or_refusal s x Num.Create) (in_steps (current s x) _ (attributes_in c.createattrs) _ _ _);
  same = λ m found. (let f = placed_by m found in create_last s x c m.place f.0 f.1);
}
  where
    placed_by : (m : Making) → creating s x c ≡ Ok m → (current s x ≡ Ok m.place) × (first_fault (place_checks x c m.place) ≡ None)
    placed_by m e =
        let d = came (current s x) _ m e in
        let placed = came (in_order (place_checks x c d.found)) _ m d.then in
        let w = came (attributes_in c.createattrs) _ m placed.then in
        let may = came (in_order (make_checks w.found x.who)) _ m w.then in
        let unsized = came (require (not (is_some w.found.size)) Inval) _ m may.then in
        let same : d.found ≡ m.place = ap (λ (m : Making). m.place) (ok_is refl unsized.then) in
        (d.is ∙ ap Ok same, ap (λ d. first_fault (place_checks x c d)) (sym same) ∙ judged_ok _ placed.found placed.is)

    in_steps : (v : Result Node Status) (place : Node → Result (Unit {0}) Status) (read : Result Wanted Status) (may unsized : Wanted → Result (Unit {0}) Status)
        (next : Making → Result Outcome Status)
        → (v >>= λ d. place d >> (read >>= λ w. may w >> (unsized w >> next (record { place = d; wanted = w }))))
        ≡ ((v >>= λ d. place d >> (read >>= λ w. may w >> (unsized w >> Ok (record { place = d; wanted = w })))) >>= next)
    in_steps (Err f) place read may unsized next = refl
    in_steps (Ok d) place read may unsized next = by_place (place d)
      where
        by_last : (w : Wanted) (a b : Result (Unit {0}) Status) → (a >> (b >> next (record { place = d; wanted = w })))
            ≡ ((a >> (b >> Ok (record { place = d; wanted = w }))) >>= next)
        by_last w (Err f) b = refl
        by_last w (Ok u) (Err f) = refl
        by_last w (Ok u) (Ok t) = refl

        by_read : (read : Result Wanted Status) → (read >>= λ w. may w >> (unsized w >> next (record { place = d; wanted = w })))
            ≡ ((read >>= λ w. may w >> (unsized w >> Ok (record { place = d; wanted = w }))) >>= next)
        by_read (Err f) = refl
        by_read (Ok w) = by_last w (may w) (unsized w)

        by_place : (p : Result (Unit {0}) Status) → (p >> (read >>= λ w. may w >> (unsized w >> next (record { place = d; wanted = w }))))
            ≡ ((p >> (read >>= λ w. may w >> (unsized w >> Ok (record { place = d; wanted = w })))) >>= next)
        by_place (Err f) = refl
        by_place (Ok u) = by_read read
