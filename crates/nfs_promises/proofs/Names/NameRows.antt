-- What each operation does to the rows of the tree, by what was asked and what was answered; and that one on names changes the tree once or not at all.
use Rattle.std.proofs.Common.{◌≡◌, ◌⊎◌, ℕ, ◌+◌, Bool, true, false, not, List, [], ◌∷◌, ◌++◌, Option, Some, None, refl, sym, ◌∙◌, ap, subst, inl, inr}
use Rattle.std.proofs.lemmas.Bool.{cases_Bool, true≢false}
use Rattle.std.specs.{Prelude.{◌&&◌, IfSome, Ok}, Option.ForSome}
use Rattle.nfs_xdr.specs.{declared.time.Time.Time}
use Rattle.nfs_xdr.proofs.Lists.{find_in, find_kept, find_none_kept, find_push_some, find_push_other}
use Rattle.nfs_compound.specs.{Arguments.arguments, declared.name_args.Rename.Rename}
use Rattle.nfs_compound.specs.declared.open_args.Open.{Open}
use Rattle.nfs_compound.specs.declared.op.Op.{Op}
use Rattle.nfs_compound.specs.declared.op.Item.{Item, TheVariants.{Operation, Fault}}
use Rattle.nfs_compound.specs.declared.op_num.OpNum.TheVariants as Num
use Rattle.nfs_results.specs.{declared.res.Res.Res, Results.spell_result}
use Rattle.nfs_tree.specs.{declared.row.Row.Row, Files.{Files, next_count, is_entry, entry, object_named, number_named, without_entry}}
use Rattle.nfs_tree.specs.Names.{Move, moves, moved_object, with_row, without_name}
use Rattle.nfs_tree.proofs.RowsKept.{entry_parts}
use Rattle.nfs_opens.specs.Closing as closing
use Rattle.nfs_names.specs.{declared.context.Context.Context, State.{State, is_used, with_tree, without_unused, time_at}}
use Rattle.nfs_names.specs.{Ending.with_opens, Checks.{saved_object, both}, Outcome.{Outcome, checked}, PutPubFh.put_pub_fh}
use Rattle.nfs_names.specs.{PutRootFh.put_root_fh, Rename.{without_replaced, move_of, renamed}}
use Rattle.nfs_names.specs.Operation as names
use Rattle.nfs_names.proofs.{Found.checked_ok, Ones.{if_delayed, each_of, by_delay}}
use Rattle.nfs_names.proofs.NameLaws as law
use Rattle.nfs_files.specs.Operation.{grows}
use Rattle.nfs_files.specs.OpenParts as open_parts
use Rattle.nfs_files.specs.Open as of_open
use Rattle.nfs_files.proofs.Effected.{caused_item}
use Rattle.nfs_files.proofs.Effects as effects
use Rattle.nfs_files.proofs.Outcomes as files
use Rattle.nfs_files.proofs.{Outcomes.for_each, OpenRows.{OpensRows, Kept, Put, opened_rows}, WrittenOps.{by_found, current_number}}
use Rattle.nfs_exec.specs.{Step.{Machine.Machine, Behind.{Step, step, on_store}}, Runs.Ops.RanOp}
use Rattle.nfs_exec.proofs.{Step.Behind.by_step, Runs.KeptByRuns.otherwise_store, Runs.WhatWasDone.{in_room_is, IsRun}}
use Rattle.nfs_promises.specs.Names.NameStays.{IsDone, Makes, ByCreate, ByOpen, ByLink, ByRename, Takes, TakesIt, Removed, MovedAway, MovedOver}
use Rattle.nfs_files.proofs.InSteps as in_steps
use Rattle.nfs_promises.proofs.{Answers.Placed.{node_found, both_saved}, Permission.PermittedNames.both_current}

-- The rows are the same, or one more is there, or those of a name are gone, or an entry moved.
pub data DidRows (t : Files) (rows : List Row) (x : Context) (i : Item) (result : List ℕ) : Type 0 where
  Same : rows ≡ t.rows → DidRows t rows x i result
  Added : (r : Row) → rows ≡ t.rows ++ r ∷ [] → Makes r.directory r.name x i result → DidRows t rows x i result
  Dropped : (d : ℕ) (name : List ℕ) → rows ≡ without_entry d name t.rows → Takes d name x i result → DidRows t rows x i result
  Moved : (m : Move) (n cookie : ℕ) → rows ≡ with_row (without_entry m.source m.old (without_entry m.target m.name t.rows)) m.target m.name n cookie
      → Takes m.source m.old x i result → Takes m.target m.name x i result → Makes m.target m.name x i result → DidRows t rows x i result

abbrev pub Did : State → Context → Item → Outcome → Type 0
Did s x i o = DidRows s.tree o.state.tree.rows x i (spell_result o.result)

pub unused_rows : (s : State) (n : ℕ) → (without_unused s n).tree.rows ≡ s.tree.rows
unused_rows s n = elim (cases_Bool (is_used s n)) [ inl stays ↦ rw stays refl | inr goes ↦ rw goes refl ]

pub replaced_rows : (s : State) (o : Option ℕ) → (without_replaced s o).tree.rows ≡ s.tree.rows
replaced_rows s None = refl
replaced_rows s (Some n) = unused_rows s n

-- The count of changes is the same, or one more.

abbrev pub Once : State → Outcome → Type 0
Once s o = (o.state.tree.changes ≡ s.tree.changes) ⊎ (o.state.tree.changes ≡ next_count s.tree.changes)

abbrev pub DidOnce : State → Context → Item → Outcome → Type 0
DidOnce s x i o = Did s x i o × Once s o

pub unused_count : (s : State) (n : ℕ) → (without_unused s n).tree.changes ≡ s.tree.changes
unused_count s n = elim (cases_Bool (is_used s n)) [ inl stays ↦ rw stays refl | inr goes ↦ rw goes refl ]

replaced_count : (s : State) (o : Option ℕ) → (without_replaced s o).tree.changes ≡ s.tree.changes
replaced_count s None = refl
replaced_count s (Some n) = unused_count s n

-- The objects of the current filehandle and of the saved one.

pub record AreAt (x : Context) (current saved : ℕ) : Type 0 where
  pub current_is : x.current ≡ Some current
  pub saved_is : saved_object x.saved ≡ Some saved

pub both_at : (s : State) (x : Context) (p : _) → both s x ≡ Ok p → AreAt x p.current.number p.saved.number
both_at s x p e = record {
  current_is = current_number s x p.current (both_current s x p e);
  saved_is = (node_found s (saved_object x.saved) p.saved (both_saved s x p e)).0;
}

-- Operations on names.

did_rename : (s : State) (x : Context) (now : Time) (a : Rename) (p : _) (b : Bool) → both s x ≡ Ok p → DidOnce s x (Operation (Op.Rename a)) (renamed s x now a p b)
did_rename s x now a p true at = (
  Moved (move_of a p) (moved_object s.tree (move_of a p)) (s.tree.last_cookie + 1) (replaced_rows _ (object_named s.tree p.current.number a.newname))
      (MovedAway a refl refl (both_at s x p at).saved_is (_, refl)) (MovedOver a refl refl (both_at s x p at).current_is (_, refl))
      (ByRename a refl refl (both_at s x p at).current_is (_, refl)),
  inr (replaced_count _ (object_named s.tree p.current.number a.newname)),
)
did_rename s x now a p false at = (Same refl, inl refl)

did_name : (s : State) (x : Context) (now : Time) (op : Op) → IfSome (names.one s x now op) (DidOnce s x (Operation op))
unfolding put_pub_fh put_root_fh
did_name s x now (Op.Access asked) = law.by_access (DidOnce s x (Operation (Op.Access asked))) s x asked (λ f h. (Same refl, inl refl)) (λ d there. (Same refl, inl refl))
did_name s x now (Op.Create c) = law.by_create (DidOnce s x (Operation (Op.Create c))) s x now c (λ f h. (Same refl, inl refl)) (λ d wanted there placed read row. (
  Added (record { directory = d.number; name = c.objname; object = s.tree.last_object + 1; cookie = s.tree.last_cookie + 1 }) refl
      (ByCreate c refl refl (current_number s x d there) (_, refl)),
  inr refl,
))
did_name s x now (Op.GetAttr words) = law.by_get_attr (DidOnce s x (Operation (Op.GetAttr words))) s x words (λ f h. (Same refl, inl refl)) (λ d there plain. (Same refl, inl refl))
did_name s x now Op.GetFh = law.by_get_fh (DidOnce s x (Operation Op.GetFh)) s x (λ f h. (Same refl, inl refl)) (λ d there. (Same refl, inl refl))
did_name s x now (Op.Link name) = law.by_link (DidOnce s x (Operation (Op.Link name))) s x now name (λ f h. (Same refl, inl refl)) (λ p there placed row. (
  Added (record { directory = p.current.number; name = name; object = p.saved.number; cookie = s.tree.last_cookie + 1 }) refl
      (ByLink refl (both_at s x p there).current_is (_, refl)),
  inr refl,
))
did_name s x now (Op.Lookup name) = law.by_lookup (DidOnce s x (Operation (Op.Lookup name))) s x name (λ f h. (Same refl, inl refl)) (λ d n there placed named. (Same refl, inl refl))
did_name s x now Op.LookupP = law.by_lookup_p (DidOnce s x (Operation Op.LookupP)) s x (λ f h. (Same refl, inl refl)) (λ d n there placed stands. (Same refl, inl refl))
did_name s x now (Op.NVerify a) = law.by_nverify (DidOnce s x (Operation (Op.NVerify a))) s x a (λ f h. (Same refl, inl refl)) (λ equal e unequal. (Same refl, inl refl))
did_name s x now (Op.PutFh object) = law.by_put_fh (DidOnce s x (Operation (Op.PutFh object))) s x object (λ f h. (Same refl, inl refl)) (λ h read placed. (Same refl, inl refl))
did_name s x now Op.PutPubFh = (Same refl, inl refl)
did_name s x now Op.PutRootFh = (Same refl, inl refl)
did_name s x now (Op.ReadDir a) = law.by_read_dir (DidOnce s x (Operation (Op.ReadDir a))) s x a (λ f h. (Same refl, inl refl)) (λ d there placed some. (Same refl, inl refl))
did_name s x now Op.ReadLink = law.by_read_link (DidOnce s x (Operation Op.ReadLink)) s x (λ f h. (Same refl, inl refl)) (λ d there linked. (Same refl, inl refl))
did_name s x now (Op.Remove name) = law.by_remove (DidOnce s x (Operation (Op.Remove name))) s x now name (λ f h. (Same refl, inl refl)) (λ d there placed row. (
  Dropped d.number name (unused_rows _ _) (Removed refl (current_number s x d there) (_, refl)),
  inr (unused_count (with_tree s (without_name s.tree d.number name now)) (number_named s.tree d.number name)),
))
did_name s x now (Op.Rename a) = law.by_rename (DidOnce s x (Operation (Op.Rename a))) s x now a (λ f h. (Same refl, inl refl)) (λ p there row.
    did_rename s x now a p (moves s.tree (move_of a p)) there)
did_name s x now Op.RestoreFh = law.by_restore_fh (DidOnce s x (Operation Op.RestoreFh)) s x (λ f h. (Same refl, inl refl)) (λ saved there stands. (Same refl, inl refl))
did_name s x now Op.SaveFh = law.by_save_fh (DidOnce s x (Operation Op.SaveFh)) s x (λ f h. (Same refl, inl refl)) (λ d there. (Same refl, inl refl))
did_name s x now (Op.SecinfoNoName style) =
    law.by_secinfo_no_name (DidOnce s x (Operation (Op.SecinfoNoName style))) s x style (λ f h. (Same refl, inl refl)) (λ d there placed. (Same refl, inl refl))
did_name s x now (Op.Verify a) = law.by_verify (DidOnce s x (Operation (Op.Verify a))) s x a (λ f h. (Same refl, inl refl)) (λ equal e same. (Same refl, inl refl))
did_name s x now op = tt

pub did_names : (refused : Bool) (s : State) (x : Context) (now : Time) (i : Item) → ForSome (names.comes_to refused s x now i) (DidOnce s x i)
did_names refused s x now (Operation op) =
    each_of (DidOnce s x (Operation op)) (names.comes_to refused s x now (Operation op))
    (if_delayed (DidOnce s x (Operation op)) (names.grows s x op && refused) s x (arguments op).op (names.one s x now op) (Same refl, inl refl) (did_name s x now op))
did_names refused s x now (Fault n status) = λ o e. absurd cc

-- Operations on open files: an OPEN may make a name.

did_opened : (s : State) (x : Context) (o : Open) (rows : List Row) (result : List ℕ) → IsDone Num.Open result → OpensRows s x o rows
    → DidRows s.tree rows x (Operation (Op.Open o)) result
did_opened s x o rows result is (Kept same) = Same same
did_opened s x o rows result is (Put r more claim at) = Added r more (ByOpen o refl claim at is)

did_open : (s : State) (x : Context) (now : Time) (o : Open) → Did s x (Operation (Op.Open o)) (of_open.open_file s x now o)
did_open s x now o =
    rw (in_steps.open_is s x now o)
    (by_found (Did s x (Operation (Op.Open o))) s x Num.Open (checked (open_parts.asked_for s x o) (of_open.last_checks s x o)) (of_open.opened s x now o)
    (λ status. Same refl) (λ f granted.
    did_opened s x o _ _ (_, refl) (opened_rows s x now o f (checked_ok (open_parts.asked_for s x o) (of_open.last_checks s x o) f granted).0)))

-- the others leave the rows
abbrev opens : Op → Bool
opens (Op.Open o) = true
opens op = false

leaves_rows : (s t : State) (x : Context) (op : Op) (r : Res) (e : effects.Effect) (rows : List Row) → opens op ≡ false → effects.Caused s x op r t e → t.tree.rows ≡ rows
    → (effects.behind t e).tree.rows ≡ rows
leaves_rows s t x op r (effects.Names e) rows other caused is = absurd (true≢false (sym (ap opens caused.cause.1.is) ∙ other))
leaves_rows s t x op r (effects.Closes n file) rows other caused is = unused_rows (with_opens t (closing.without_open t.opens n)) file ∙ is
leaves_rows s t x op r e rows other caused is = is

did_files : (refused : Bool) (s : State) (x : Context) (now : Time) (i : Item) → Did s x i (files.comes_to refused s x now i)
did_files refused s x now (Operation (Op.Open o)) =
    by_delay (Did s x (Operation (Op.Open o))) (grows s x (Op.Open o) && refused) s x Num.Open (of_open.open_file s x now o) (Same refl) (did_open s x now o)
did_files refused s x now (Operation op) = Same (caused_item (λ t. t.tree.rows ≡ s.tree.rows) refused s x now (Operation op) (λ one same t e caused is.
    leaves_rows s t x one _ e s.tree.rows (let its : Operation op ≡ Operation one = same in (let at : op ≡ one = cc in ap opens (sym at))) caused is) refl)
did_files refused s x now (Fault n status) = Same refl

-- One operation of a compound.

abbrev DidStep : Machine → Context → Item → Step → Type 0
DidStep m x i s = DidRows m.store.tree s.outcome.machine.store.tree.rows x i s.outcome.result

step_rows : (m : Machine) (x : Context) (now : ℕ) (refused : Bool) (i : Item) → DidStep m x i (step m x now refused i)
step_rows m x now refused i =
    by_step (DidStep m x i) m x now refused i (λ o e. (did_names refused m.store x (time_at m.store now) i o e).0)
    (for_each (λ o. DidStep m x i (on_store m o)) refused m.store x (time_at m.store now) i (did_files refused m.store x (time_at m.store now) i))
    (λ none other. Same (ap (λ (s : State). s.tree.rows) (otherwise_store m x i)))

pub run_rows : (d : RanOp) → IsRun d → DidRows d.before.store.tree d.behind.store.tree.rows d.context d.item d.result
run_rows d r =
    subst (λ (d : RanOp). DidRows d.before.store.tree d.behind.store.tree.rows d.context d.item d.result) (sym r.is)
    (in_room_is (DidStep d.before d.context d.item) r.limit r.sofar r.now r.refused d.before d.context d.item (Same refl)
    (step_rows d.before d.context r.now r.refused d.item))

-- What that leaves of a name.

pub entry_at : (rows : List Row) (d : ℕ) (name : List ℕ) (r : Row) → entry rows d name ≡ Some r → (r.directory ≡ d) × (r.name ≡ name)
entry_at rows d name r e = entry_parts d name r (find_in (is_entry d name) rows r e).1

-- it is found where another one is taken away
without_other : (rows : List Row) (d e : ℕ) (name called : List ℕ) (r : Row) → entry rows d name ≡ Some r → (e ≡ d → called ≡ name → ⊥)
    → entry (without_entry e called rows) d name ≡ Some r
without_other rows d e name called r found other = elim (cases_Bool (is_entry e called r)) [
  | inl is ↦ (let parts = entry_parts e called r is in
      let at = entry_at rows d name r found in
      absurd (other (sym parts.0 ∙ at.0) (sym parts.1 ∙ at.1)))
  | inr out ↦ find_kept (is_entry d name) (λ (r : Row). not (is_entry e called r)) rows r found (ap not out)
]

-- what spares it leaves it
pub kept_rows : (t : Files) (rows : List Row) (x : Context) (i : Item) (result : List ℕ) (d : ℕ) (name : List ℕ) (r : Row) → DidRows t rows x i result
    → entry t.rows d name ≡ Some r → (Takes d name x i result → ⊥) → entry rows d name ≡ Some r
kept_rows t rows x i result d name r (Same e) found spares = ap (λ rows. entry rows d name) e ∙ found
kept_rows t rows x i result d name r (Added new e makes) found spares =
    ap (λ rows. entry rows d name) e ∙ find_push_some (is_entry d name) t.rows new r found
kept_rows t rows x i result d name r (Dropped at called e takes) found spares =
    ap (λ rows. entry rows d name) e
    ∙ without_other t.rows d at name called r found (λ same named. spares (subst (λ d. Takes d name x i result) same (subst (λ n. Takes at n x i result) named takes)))
kept_rows t rows x i result d name r (Moved m n cookie e away over makes) found spares =
    let Other : (at : ℕ) (called : List ℕ) → Takes at called x i result → at ≡ d → called ≡ name → ⊥ =
    λ at called takes same named. spares (subst (λ d. Takes d name x i result) same (subst (λ n. Takes at n x i result) named takes)) in
    ap (λ rows. entry rows d name) e
    ∙ find_push_some (is_entry d name) _ _ r
    (without_other (without_entry m.target m.name t.rows) d m.source name m.old r
    (without_other t.rows d m.target name m.name r found (Other m.target m.name over)) (Other m.source m.old away))

-- it is not found behind another row
pushed_none : (rows : List Row) (new : Row) (d : ℕ) (name : List ℕ) → entry rows d name ≡ None → (new.directory ≡ d → new.name ≡ name → ⊥)
    → entry (rows ++ new ∷ []) d name ≡ None
pushed_none rows new d name none other = elim (cases_Bool (is_entry d name new)) [
  | inl is ↦ (let parts = entry_parts d name new is in absurd (other parts.0 parts.1))
  | inr out ↦ find_push_other (is_entry d name) rows new out ∙ none
]

without_none : (rows : List Row) (d e : ℕ) (name called : List ℕ) → entry rows d name ≡ None → entry (without_entry e called rows) d name ≡ None
without_none rows d e name called none = find_none_kept (is_entry d name) (λ (r : Row). not (is_entry e called r)) rows none

-- what does not make it leaves it gone
pub gone_rows : (t : Files) (rows : List Row) (x : Context) (i : Item) (result : List ℕ) (d : ℕ) (name : List ℕ) → DidRows t rows x i result
    → entry t.rows d name ≡ None → (Makes d name x i result → ⊥) → entry rows d name ≡ None
gone_rows t rows x i result d name (Same e) none spares = ap (λ rows. entry rows d name) e ∙ none
gone_rows t rows x i result d name (Added new e makes) none spares =
    ap (λ rows. entry rows d name) e
    ∙ pushed_none t.rows new d name none (λ same named. spares (subst (λ d. Makes d name x i result) same (subst (λ n. Makes new.directory n x i result) named makes)))
gone_rows t rows x i result d name (Dropped at called e takes) none spares = ap (λ rows. entry rows d name) e ∙ without_none t.rows d at name called none
gone_rows t rows x i result d name (Moved m n cookie e away over makes) none spares =
    ap (λ rows. entry rows d name) e
    ∙ pushed_none (without_entry m.source m.old (without_entry m.target m.name t.rows)) _ d name
    (without_none (without_entry m.target m.name t.rows) d m.source name m.old (without_none t.rows d m.target name m.name none))
    (λ same named. spares (subst (λ d. Makes d name x i result) same (subst (λ n. Makes m.target n x i result) named makes)))

-- What is neither a REMOVE nor a RENAME spares each name.

abbrev pub takes_names : Item → Bool
takes_names (Operation (Op.Remove name)) = true
takes_names (Operation (Op.Rename a)) = true
takes_names i = false

pub spared : (directory : ℕ) (name : List ℕ) (d : RanOp) → takes_names d.item ≡ false → TakesIt directory name d → ⊥
spared directory name d e (Removed is at done) = true≢false (sym (ap takes_names is) ∙ e)
spared directory name d e (MovedAway a is old saved done) = true≢false (sym (ap takes_names is) ∙ e)
spared directory name d e (MovedOver a is new at done) = true≢false (sym (ap takes_names is) ∙ e)
