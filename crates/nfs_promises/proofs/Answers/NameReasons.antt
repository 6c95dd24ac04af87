-- Operations on names and attributes: what they are refused with has its reason, and what was answered NFS4_OK was granted.
use Rattle.std.proofs.Common.{◌≡◌, ◌≢◌, ◌⊎◌, ℕ, Bool, true, false, cond, not, List, [], ◌∷◌, length, Option, Some, None, refl, sym, ◌∙◌, ap, subst, inl, inr}
use Rattle.std.proofs.lemmas.{Bool.Decides.leb_tells, Bool.{and_parts, false≢true, not-false, not-true, eq-eqb, and_cases, or_cases}, Option.same_Some}
use Rattle.std.specs.{Prelude.{◌==◌, ◌||◌, ◌&&◌, option_map, Ok, ok_or, if◌then◌else◌}, Option.option_map_or}
use Rattle.nfs_xdr.specs.{Checks.first_fault, declared.status.Status.Status, declared.time.Time.Time}
use Rattle.nfs_xdr.specs.declared.status.Status.TheVariants as S
use Rattle.nfs_xdr.proofs.Checks.{all_passed}
use Rattle.nfs_compound.specs.{declared.name_args.Rename.Rename, declared.op.Item.Item, declared.op.Item.TheVariants.Operation}
use Rattle.nfs_compound.specs.declared.op.Op.TheVariants as Op
use Rattle.nfs_compound.specs.declared.op_num.OpNum.TheVariants as Num
use Rattle.nfs_tree.specs.{Object.{is_directory, is_link}, Files.{Files, stored_in, object_at, object_named, number_named, is_there, is_directory_at, can_change, has_name, has_entries}}
use Rattle.nfs_tree.specs.{Names.{Move, moves, can_move, is_near_root, is_too_deep, is_below_itself, is_unlike, is_in_the_way, way_fault, moved_object, replaced_object}, Profile.is_unix}
use Rattle.nfs_tree.specs.{declared.{object.Object.Object, stored.Stored.Stored}, TreeInvariants.IsTree}
use Rattle.nfs_tree.proofs.Below.{below_is_reached, near_root}
use Rattle.nfs_tree.specs.{declared.profile.Profile.Profile, declared.profile.Profile.TheVariants.{Exact, Unix}}
use Rattle.nfs_tree.specs.declared.fault.TreeFault.TheVariants as F
use Rattle.nfs_attrs.specs.{declared.permission.Want.Want, Mask.{has, mask_of, asks_set_only}, Permissions.{execute, change_entries}}
use Rattle.nfs_opens.specs.Steps.{in_order, require}
use Rattle.nfs_names.specs.{Checks.{current, both, no_directory, no_access, name_checks}, Faults.tree_fault_status, GetAttr.get_attr, GetFh.get_fh, State.State}
use Rattle.nfs_names.specs.{Lookup.lookup, Outcome.Outcome, ReadLink.read_link, Remove.{remove, last_checks}, SaveFh.save_fh, declared.context.Context.Context}
use Rattle.nfs_names.specs.{Rename.{rename, renamed, move_of, place_checks as rename_places, last_checks as rename_lasts}, declared.node.Node.Node}
use Rattle.nfs_files.proofs.{TreeFiles.IsWhole, WrittenOps.current_number}
use Rattle.nfs_promises.specs.Permission.Permitted.{Writes, Executes, Grants, rights_of, rights_at}
use Rattle.nfs_promises.specs.Answers.Asked.{ByName, ByOldName, ByNewName, InCurrent, InSaved, Source, Searched, ToAdd, ToFind, ToRemove, ToTake, ToPut}
use Rattle.nfs_promises.specs.Answers.{Invalid.{MovesDirectory, IsBelow, IsTooDeep, Below, Unreadable, IsSpent}, Reasons.{HasEntry, IsInTheWay, IsGranted, Reason}}
use Rattle.nfs_promises.proofs.Answers.Blaming.{all_blame, held_blames, there_blames, ends_then, ends_checks, answers_blame, passed_all}
use Rattle.nfs_promises.proofs.Answers.InvalidReasons.{never_both, spent_at, spent_there, no_cookie_left}
use Rattle.nfs_promises.proofs.Answers.Placed.{Answers, refused_so, done_so, found_now, current_blames, both_blames, saved_found, rights_is, unnamed, named_at, named_there}
use Rattle.nfs_promises.proofs.Answers.Placed.{has_entry, has_kind, denied_by, no_directory_blames, no_finding, missing, names_blame}
use Rattle.nfs_promises.proofs.Permission.{Granting.{executes, changes, may_change}, PermittedNames.{gets, one_of, two_of, both_current}}

-- What passed grants what it needs.

-- of the place of a name, and of the name
abbrev placing : Context → Node → Want → List ℕ → List (Bool × Status)
placing x d want name = no_directory d ∷ no_access x d want ∷ name_checks name

found_granted : (s : State) (x : Context) (d : Node) (name : List ℕ) → current s x ≡ Ok d → first_fault ((is_link d.object.kind, S.Symlink) ∷ placing x d execute name) ≡ None
    → IsGranted s x (Operation (Op.Lookup name))
found_granted s x d name e none m rights (ToAdd n i given made_so at) right asks r has = absurd cc
found_granted s x d name e none m rights (ToFind n i given named_so at) right asks r has =
    let checks = all_passed ((is_link d.object.kind, S.Symlink) ∷ placing x d execute name) none in
    one_of right Executes (Grants r x.who) asks (gets s x n r d Executes at has e (executes x d (not-false _ checks.1.1.0)))

remove_granted : (s : State) (x : Context) (d : Node) (name : List ℕ) → current s x ≡ Ok d → first_fault (placing x d change_entries name) ≡ None
    → IsGranted s x (Operation (Op.Remove name))
remove_granted s x d name e none m rights (ToAdd n i given made_so at) right asks r has = absurd cc
remove_granted s x d name e none m rights (ToRemove n k at) right asks r has =
    let both = changes x d (not-false _ (all_passed (placing x d change_entries name) none).1.0) in
    two_of right Writes Executes (Grants r x.who) asks (gets s x n r d Writes at has e both.0, gets s x n r d Executes at has e both.1)
remove_granted s x d name e none m rights (ToFind n i given named_so at) right asks r has =
    one_of right Executes (Grants r x.who) asks (gets s x n r d Executes at has e (changes x d (not-false _ (all_passed (placing x d change_entries name) none).1.0)).1)

rename_granted : (s : State) (x : Context) (a : Rename) (p : _) → both s x ≡ Ok p → first_fault (rename_places x a p) ≡ None → IsGranted s x (Operation (Op.Rename a))
rename_granted s x a p e none m rights (ToTake n b saved at same) right asks r has =
    let may = changes x p.saved (not-false _ (all_passed (rename_places x a p) none).1.1.0) in
    let its = saved_found s x p e in
    let one : saved ≡ its.saved = same_Some saved its.saved (sym at ∙ its.is) in
    let number : n ≡ p.saved.number = sym same ∙ (ap (λ k. k.object) one ∙ its.names) in
    let is : rights_of p.saved.object ≡ r = same_Some (rights_of p.saved.object) r (sym (rights_is s p.saved its.there) ∙ (ap (rights_at s.tree) (sym number) ∙ has)) in
    subst (λ r. Grants r x.who right) is (two_of right Writes Executes (Grants (rights_of p.saved.object) x.who) asks may)
rename_granted s x a p e none m rights (ToPut n b at) right asks r has =
    let may = changes x p.current (not-false _ (all_passed (rename_places x a p) none).1.1.1.0) in
    let there = both_current s x p e in
    two_of right Writes Executes (Grants r x.who) asks (gets s x n r p.current Writes at has there may.0, gets s x n r p.current Executes at has there may.1)
rename_granted s x a p e none m rights (ToAdd n i given made_so at) right asks r has = absurd cc
rename_granted s x a p e none m rights (ToFind n i given named_so at) right asks r has = absurd cc

-- What is in the way of a RENAME.

unlike : (t : Files) (m : Move) → is_unlike t m ≡ true → is_directory_at t (moved_object t m) ≢ is_directory_at t (replaced_object t m)
unlike t m is same = by (is_directory_at t (moved_object t m)) (is_directory_at t (replaced_object t m)) is same
  where
    by : (p q : Bool) → (if p then not q else q) ≡ true → p ≡ q → ⊥
    by true true is same = false≢true is
    by true false is same = false≢true (sym same)
    by false true is same = false≢true same
    by false false is same = false≢true is

blocked : (t : Files) (m : Move) → is_unlike t m || has_entries t.rows (replaced_object t m) ≡ true
    → (is_directory_at t (moved_object t m) ≢ is_directory_at t (replaced_object t m)) ⊎ HasEntry t (replaced_object t m)
blocked t m is = by (is_unlike t m) (has_entries t.rows (replaced_object t m)) refl refl is
  where
    by : (p q : Bool) → is_unlike t m ≡ p → has_entries t.rows (replaced_object t m) ≡ q → p || q ≡ true
        → (is_directory_at t (moved_object t m) ≢ is_directory_at t (replaced_object t m)) ⊎ HasEntry t (replaced_object t m)
    by true q un has is = inl (unlike t m un)
    by false true un has is = inr (has_entry t (replaced_object t m) has)
    by false false un has is = absurd (false≢true is)

in_the_way : (s : State) (x : Context) (a : Rename) (p : _) → both s x ≡ Ok p → has_name s.tree p.saved.number a.oldname ≡ true
    → moves s.tree (move_of a p) && is_in_the_way s.tree (move_of a p) ≡ true → IsInTheWay s x (Operation (Op.Rename a))
in_the_way s x a p e has is =
    let m : Move = move_of a p in
    let its = saved_found s x p e in
    let parts = and_parts (moves s.tree m) (is_in_the_way s.tree m) is in
    let way = and_parts (has_name s.tree p.current.number a.newname) _ parts.1 in
    record {
      asked = a;
      is = refl;
      saved = its.saved;
      directory = p.current.number;
      source = its.is;
      target = current_number s x p.current (both_current s x p e);
      moved = moved_object s.tree m;
      other = replaced_object s.tree m;
      old = ap (λ n. object_named s.tree n a.oldname) its.names ∙ named_at s.tree p.saved.number a.oldname has;
      new = named_at s.tree p.current.number a.newname way.0;
      two = λ same. false≢true (sym (not-true _ parts.0) ∙ eq-eqb (moved_object s.tree m) (replaced_object s.tree m) same);
      blocks = blocked s.tree m way.1;
    }

-- and by which status
is_the_one : (p : Profile) → is_unix p ≡ true → p ≡ Unix
is_the_one Exact e = absurd (false≢true e)
is_the_one Unix e = refl

or_else : (p q : Bool) → p || q ≡ true → p ≡ false → q ≡ true
or_else true q is none = absurd (false≢true (sym none))
or_else false q is none = is

way_blamed : (s : State) (x : Context) (a : Rename) (p : _) → both s x ≡ Ok p → has_name s.tree p.saved.number a.oldname ≡ true
    → moves s.tree (move_of a p) && is_in_the_way s.tree (move_of a p) ≡ true
    → Reason s x (Operation (Op.Rename a)) (tree_fault_status (way_fault s.tree (move_of a p)))
unfolding in_the_way
way_blamed s x a p e has is = by (is_unix s.tree.profile && not (is_unlike s.tree (move_of a p))) refl
  where
    by : (b : Bool) → is_unix s.tree.profile && not (is_unlike s.tree (move_of a p)) ≡ b
        → Reason s x (Operation (Op.Rename a)) (tree_fault_status (cond b F.NotEmpty F.Exist))
    by true on =
        let m : Move = move_of a p in
        let parts = and_parts (is_unix s.tree.profile) _ on in
        let blocks = and_parts (has_name s.tree p.current.number a.newname) _ (and_parts (moves s.tree m) (is_in_the_way s.tree m) is).1 in
        inr (record {
          way = in_the_way s x a p e has is;
          unix = is_the_one s.tree.profile parts.0;
          has = has_entry s.tree (replaced_object s.tree m)
              (or_else (is_unlike s.tree m) (has_entries s.tree.rows (replaced_object s.tree m)) blocks.1 (not-true _ parts.1));
        })
    by false on = inr (inl (in_the_way s x a p e has is))

-- What would come to lie below itself, or too deep.

directory_at : (s : State) (d : Node) → object_at s.tree d.number ≡ Some d.object → not (is_directory d.object.kind) ≡ false → is_directory_at s.tree d.number ≡ true
directory_at s d is dir = by (stored_in s.tree.objects d.number) is
  where
    by : (o : Option Stored) → option_map (λ (k : Stored). k.object) o ≡ Some d.object → option_map_or (λ (k : Stored). is_directory k.object.kind) o false ≡ true
    by None e = absurd cc
    by (Some k) e = let same : k.object ≡ d.object = cc in ap (λ (o : Object). is_directory o.kind) same ∙ not-false _ dir

into : (s : State) (x : Context) (a : Rename) (p : _) → both s x ≡ Ok p → in_order (rename_places x a p) ≡ Ok tt → is_directory_at s.tree p.current.number ≡ true
into s x a p e placed =
    let checks = all_passed (rename_places x a p) (passed_all (rename_places x a p) placed) in
    directory_at s p.current (found_now s x p.current (both_current s x p e)).1 checks.1.0

moving : (s : State) (x : Context) (a : Rename) (p : _) → both s x ≡ Ok p → has_name s.tree p.saved.number a.oldname ≡ true
    → is_directory_at s.tree (moved_object s.tree (move_of a p)) ≡ true → MovesDirectory s x (Operation (Op.Rename a))
moving s x a p e has dir =
    let its = saved_found s x p e in
    record {
      asked = a;
      is = refl;
      saved = its.saved;
      directory = p.current.number;
      source = its.is;
      target = current_number s x p.current (both_current s x p e);
      moved = moved_object s.tree (move_of a p);
      old = ap (λ n. object_named s.tree n a.oldname) its.names ∙ named_at s.tree p.saved.number a.oldname has;
      kind = dir;
    }

is_below : (s : State) → IsTree s.tree → (x : Context) (a : Rename) (p : _) → both s x ≡ Ok p → in_order (rename_places x a p) ≡ Ok tt
    → has_name s.tree p.saved.number a.oldname ≡ true → moves s.tree (move_of a p) && is_below_itself s.tree (move_of a p) ≡ true → IsBelow s x (Operation (Op.Rename a))
unfolding moving
is_below s tree x a p e placed has below =
    let m : Move = move_of a p in
    let parts = and_parts (is_directory_at s.tree (moved_object s.tree m)) _ (and_parts (moves s.tree m) (is_below_itself s.tree m) below).1 in
    let led = (below_is_reached s.tree (moved_object s.tree m) p.current.number tree (into s x a p e placed)).0 parts.1 in
    record { moves = moving s x a p e has parts.0; names = led.0; leads = led.1 }

is_deep : (s : State) → IsTree s.tree → (x : Context) (a : Rename) (p : _) → both s x ≡ Ok p → in_order (rename_places x a p) ≡ Ok tt
    → has_name s.tree p.saved.number a.oldname ≡ true → moves s.tree (move_of a p) && is_too_deep s.tree (move_of a p) ≡ true → IsTooDeep s x (Operation (Op.Rename a))
unfolding moving
is_deep s tree x a p e placed has deep =
    let m : Move = move_of a p in
    let unix = and_parts (is_unix s.tree.profile) _ (and_parts (moves s.tree m) (is_too_deep s.tree m) deep).1 in
    let kind = and_parts (is_directory_at s.tree (moved_object s.tree m)) _ unix.1 in
    let apart = and_parts (not (m.source == m.target)) (not (is_near_root s.tree.rows m.target)) kind.1 in
    record {
      moves = moving s x a p e has kind.0;
      unix = is_the_one s.tree.profile unix.0;
      other = λ same. false≢true (sym (not-true _ apart.0) ∙ eq-eqb m.source m.target (sym (saved_found s x p e).names ∙ same));
      far = λ names led. elim (leb_tells (length names) 2048) [
        | inl few ↦ absurd (false≢true (sym (not-true _ apart.1) ∙ near_root s.tree p.current.number tree (into s x a p e placed) names few.1 led))
        | inr many ↦ many.1
      ];
    }

-- What cannot be counted.

none_is_removed : (s : State) (d : Node) → object_at s.tree d.number ≡ Some d.object → (n : ℕ) → is_there s.tree n ≡ true
    → not (can_change s.tree d.number && can_change s.tree n) ≡ true → IsSpent s
none_is_removed s d is n there off = elim (never_both (can_change s.tree d.number) (can_change s.tree n) off) [
  | inl place ↦ spent_there s d is place
  | inr object ↦ spent_at s n there object
]

-- where one of two holds and both would not do
or_off : (a b : Bool) → not a || b ≡ false → (a ≡ true) × (b ≡ false)
or_off true b e = (refl, e)
or_off false b e = absurd (false≢true (sym e))

none_is_moved : (s : State) → IsWhole s → (x : Context) (p : _) → both s x ≡ Ok p → object_at s.tree p.saved.number ≡ Some p.saved.object → object_at s.tree p.current.number ≡ Some p.current.object → (a : Rename)
    → has_name s.tree p.saved.number a.oldname ≡ true → can_move s.tree (move_of a p) ≡ false → IsSpent s
none_is_moved s whole x p e saved target a named off =
    let m : Move = move_of a p in
    let t : Files = s.tree in
    elim (and_cases (can_change t m.source) _ off) [
      | inl source ↦ spent_there s p.saved saved source
      | inr more ↦ elim (and_cases (can_change t m.target) _ more) [
        | inl place ↦ spent_there s p.current target place
        | inr more ↦ elim (and_cases (not (has_name t m.target m.name) || can_change t (replaced_object t m)) _ more) [
          | inl replaced ↦ (let q = or_off (has_name t m.target m.name) (can_change t (replaced_object t m)) replaced in
              spent_at s (replaced_object t m) (named_there s p.current.number (replaced_object t m) a.newname whole (named_at t p.current.number a.newname q.0)) q.1)
          | inr more ↦ elim (and_cases (not (is_unix t.profile) || can_change t (moved_object t m)) _ more) [
            | inl moved ↦ spent_at s (moved_object t m) (named_there s p.saved.number (moved_object t m) a.oldname whole (named_at t p.saved.number a.oldname named))
                (or_off (is_unix t.profile) (can_change t (moved_object t m)) moved).1
            | inr cookie ↦ no_cookie_left s cookie
          ]
        ]
      ]
    ]

module _ (s : State) (whole : IsWhole s) (x : Context) where
  -- LOOKUP
  pub lookup_blames : (name : List ℕ) → Answers s x (Operation (Op.Lookup name)) (lookup s x name)
  unfolding lookup
  lookup_blames name =
      let i : Item = Operation (Op.Lookup name) in
      let B : Status → Type 0 = Reason s x i in
      let Y : Outcome → Type 0 = Answers s x i in
      answers_blame B Y s x Num.Lookup _ (refused_so s x i Num.Lookup) (ends_then B Y (current s x) _ (current_blames s whole x i refl) (λ d e.
      ends_checks B Y ((is_link d.object.kind, S.Symlink) ∷ placing x d execute name) _ (
        λ link. (d.number, Searched name refl (current_number s x d e), has_kind s x i d is_link e link),
        λ u. (no_directory_blames s x i d refl e, λ u. (no_finding s x i d name refl e, λ u. names_blame s x i name (ByName refl))),
      ) (λ placed. ends_then B Y (ok_or (object_named s.tree d.number name) S.NoEnt) _
      (there_blames B (object_named s.tree d.number name) S.NoEnt (missing s x i d name (InCurrent (current_number s x d e) refl)))
      (λ n there. done_so s x i (found_granted s x d name e (passed_all ((is_link d.object.kind, S.Symlink) ∷ placing x d execute name) placed))))))

  -- REMOVE
  pub remove_blames : (now : Time) (name : List ℕ) → Answers s x (Operation (Op.Remove name)) (remove s x now name)
  unfolding remove
  remove_blames now name =
      let i : Item = Operation (Op.Remove name) in
      let B : Status → Type 0 = Reason s x i in
      let Y : Outcome → Type 0 = Answers s x i in
      answers_blame B Y s x Num.Remove _ (refused_so s x i Num.Remove) (ends_then B Y (current s x) _ (current_blames s whole x i refl) (λ d e.
      ends_checks B Y (placing x d change_entries name) _ (
        no_directory_blames s x i d refl e,
        λ u. (
          λ lacks. denied_by s x i d (Writes ∷ Executes ∷ []) e (ToRemove d.number name (current_number s x d e)) (λ all.
              false≢true (sym (not-true _ lacks) ∙ may_change x d (all Writes (inl refl)) (all Executes (inr (inl refl))))),
          λ u. names_blame s x i name (ByName refl),
        ),
      ) (λ placed. ends_checks B Y (last_checks s.tree d.number name) _ (
        λ no_name. missing s x i d name (InCurrent (current_number s x d e) refl) (unnamed s.tree d.number name no_name),
        λ has. (
          λ entries. inl (record {
            name = name;
            is = refl;
            directory = d.number;
            object = number_named s.tree d.number name;
            at = current_number s x d e;
            there = named_at s.tree d.number name (not-false _ has);
            has = has_entry s.tree (number_named s.tree d.number name) entries;
          }),
          λ u. (
            none_is_removed s d (found_now s x d e).1 (number_named s.tree d.number name)
                (named_there s d.number (number_named s.tree d.number name) name whole (named_at s.tree d.number name (not-false _ has))),
            λ u. tt,
          ),
        ),
      ) (λ last. done_so s x i (remove_granted s x d name e (passed_all (placing x d change_entries name) placed))))))

  -- RENAME
  pub rename_blames : (now : Time) (a : Rename) → Answers s x (Operation (Op.Rename a)) (rename s x now a)
  unfolding rename
  rename_blames now a =
      let i : Item = Operation (Op.Rename a) in
      let B : Status → Type 0 = Reason s x i in
      let Y : Outcome → Type 0 = Answers s x i in
      answers_blame B Y s x Num.Rename _ (refused_so s x i Num.Rename) (ends_then B Y (both s x) _ (both_blames s whole x i refl refl) (λ p e.
      (let its = saved_found s x p e in
      let there = both_current s x p e in
      ends_checks B Y (rename_places x a p) _ (
        λ no_dir. (p.saved.number, Source a its.saved refl its.is its.names, (p.saved.object, its.there, no_dir)),
        λ u. (
          no_directory_blames s x i p.current refl there,
          λ u. (
            λ lacks. record {
              number = p.saved.number;
              rights = Writes ∷ Executes ∷ [];
              needs = ToTake p.saved.number a its.saved its.is its.names;
              denies = λ all.
                  (let at = rights_is s p.saved its.there in
                  false≢true (sym (not-true _ lacks) ∙ may_change x p.saved (all Writes (inl refl) _ at) (all Executes (inr (inl refl)) _ at)));
            },
            λ u. (
              λ lacks. denied_by s x i p.current (Writes ∷ Executes ∷ []) there (ToPut p.current.number a (current_number s x p.current there)) (λ all.
                  false≢true (sym (not-true _ lacks) ∙ may_change x p.current (all Writes (inl refl)) (all Executes (inr (inl refl))))),
              λ u. all_blame B (name_checks a.oldname) (name_checks a.newname) (names_blame s x i a.oldname (ByOldName a refl refl)) (names_blame s x i a.newname (ByNewName a refl refl)),
            ),
          ),
        ),
      ) (λ placed. ends_checks B Y (rename_lasts s.tree (move_of a p)) _ (
        λ no_name. missing s x i p.saved a.oldname (InSaved a its.saved refl refl its.is its.names) (unnamed s.tree p.saved.number a.oldname no_name),
        λ has. (
          λ deep. inr (inr (is_deep s whole.tree x a p e placed (not-false _ has) deep)),
          λ u. (
            λ below. Below (is_below s whole.tree x a p e placed (not-false _ has) below),
            λ u. (
              λ way. way_blamed s x a p e (not-false _ has) way,
              λ u. (
                λ spent. none_is_moved s whole x p e its.there (found_now s x p.current there).1 a (not-false _ has)
                    (not-true _ (and_parts (moves s.tree (move_of a p)) (not (can_move s.tree (move_of a p))) spent).1),
                λ u. tt,
              ),
            ),
          ),
        ),
      ) (λ last. by_moves p e (passed_all (rename_places x a p) placed) (moves s.tree (move_of a p)))))))
    where
      by_moves : (p : _) → both s x ≡ Ok p → first_fault (rename_places x a p) ≡ None → (b : Bool) → Answers s x (Operation (Op.Rename a)) (renamed s x now a p b)
      by_moves p e none true = done_so s x (Operation (Op.Rename a)) (rename_granted s x a p e none)
      by_moves p e none false = done_so s x (Operation (Op.Rename a)) (rename_granted s x a p e none)

  -- Those that look at the current object alone.

  pub get_attr_blames : (words : List ℕ) → Answers s x (Operation (Op.GetAttr words)) (get_attr s x words)
  unfolding get_attr
  get_attr_blames words =
      let i : Item = Operation (Op.GetAttr words) in
      answers_blame (Reason s x i) (Answers s x i) s x Num.GetAttr _ (refused_so s x i Num.GetAttr) (ends_then (Reason s x i) (Answers s x i) (current s x) _
      (current_blames s whole x i refl) (λ d e. ends_then (Reason s x i) (Answers s x i) (require (not (asks_set_only (mask_of words))) S.Inval) _
      (held_blames (Reason s x i) (not (asks_set_only (mask_of words))) S.Inval (λ some.
      Unreadable words refl (or_cases (has (mask_of words) 48) (has (mask_of words) 54) (not-false _ some)))) (λ u e. done_so s x i tt)))

  pub get_fh_blames : Answers s x (Operation Op.GetFh) (get_fh s x)
  unfolding get_fh
  get_fh_blames =
      let i : Item = Operation Op.GetFh in
      answers_blame (Reason s x i) (Answers s x i) s x Num.GetFh _ (refused_so s x i Num.GetFh) (ends_then (Reason s x i) (Answers s x i) (current s x) _
      (current_blames s whole x i refl) (λ d e. done_so s x i tt))

  pub save_fh_blames : Answers s x (Operation Op.SaveFh) (save_fh s x)
  unfolding save_fh
  save_fh_blames =
      let i : Item = Operation Op.SaveFh in
      answers_blame (Reason s x i) (Answers s x i) s x Num.SaveFh _ (refused_so s x i Num.SaveFh) (ends_then (Reason s x i) (Answers s x i) (current s x) _
      (current_blames s whole x i refl) (λ d e. done_so s x i tt))

  pub read_link_blames : Answers s x (Operation Op.ReadLink) (read_link s x)
  unfolding read_link
  read_link_blames =
      let i : Item = Operation Op.ReadLink in
      answers_blame (Reason s x i) (Answers s x i) s x Num.ReadLink _ (refused_so s x i Num.ReadLink) (ends_then (Reason s x i) (Answers s x i) (current s x) _
      (current_blames s whole x i refl) (λ d e. ends_then (Reason s x i) (Answers s x i) (require (is_link d.object.kind) S.WrongType) _
      (held_blames (Reason s x i) (is_link d.object.kind) S.WrongType (λ other. (d.number, refl, current_number s x d e, has_kind s x i d (λ k. not (is_link k)) e (ap not other))))
      (λ u e. done_so s x i tt)))
