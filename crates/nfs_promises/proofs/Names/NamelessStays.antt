-- An object that no name leads to is not named again.
use Rattle.std.proofs.Common.{◌≡◌, ◌≢◌, ℕ, ◌+◌, ◌≤◌, Bool, true, false, List, [], ◌∷◌, ◌++◌, Option, Some, None, refl, sym, ◌∙◌, ap, subst, arith, inl, inr}
use Rattle.std.proofs.lemmas.Bool.{cases_Bool, eq-eqb, eqb-true, not-false, false≢true}
use Rattle.std.specs.{Prelude.{◌==◌, option_map, unwrap_or}, Option.ForSome}
use Rattle.nfs_xdr.specs.{Tables.In, declared.time.Time.Time}
use Rattle.nfs_xdr.proofs.{Checks.all_passed, Lists.{any_in, in_any, in_filter, in_push, find_in}}
use Rattle.nfs_compound.specs.declared.op.Item.{Item}
use Rattle.nfs_tree.specs.{declared.row.Row.Row, Files.{Files, root, is_there, has_row, is_entry, entry, object_named, number_named, without_entry}}
use Rattle.nfs_tree.specs.Names.{link_checks, moved_object}
use Rattle.nfs_tree.proofs.Objects.{stored_within}
use Rattle.nfs_opens.specs.{Closing.without_open, TableInvariants.IsTable}
use Rattle.nfs_names.specs.{declared.context.Context.Context, Ending.{with_opens, staying}, Rename.without_replaced, State.{is_used, without_unused, time_at}}
use Rattle.nfs_names.specs.Operation as names
use Rattle.nfs_names.specs.State as store
use Rattle.nfs_names.proofs.{Ones.each_of, Effects.{Makes, Links, Removes, Moves}}
use Rattle.nfs_names.proofs.Effects as names_effects
use Rattle.nfs_names.proofs.Effected as names_effected
use Rattle.nfs_files.proofs.Effects as files_effects
use Rattle.nfs_files.proofs.Effects.{Names, Writes, Resizes, Changes, Closes}
use Rattle.nfs_files.proofs.Effected as files_effected
use Rattle.nfs_files.proofs.Outcomes as files
use Rattle.nfs_exec.specs.Runs.Ops.{RanOp}
use Rattle.nfs_exec.proofs.{Runs.OneRun.{IsRun, by_run}, Runs.OneWalk.IsKept}
use Rattle.nfs_serve.specs.{Step.ServerState}
use Rattle.nfs_promises.specs.{Network.Endpoint.Arrival, Names.{FileStays.{IsNameless, NamelessStays}, NameStays.{next_of, HoldsWhile, HoldsThrough, row_of}}}
use Rattle.nfs_promises.specs.Runs.Points.{state_after, reached, before, asked_by, ops_of}
use Rattle.nfs_promises.proofs.{Bytes.ChangeTells.{follows_itself, run_follows, low_there}, Runs.LaterRecords.{before_keeps, next_keeps, asked_keeps}}
use Rattle.nfs_promises.proofs.{Runs.{LaterRecords.asked_back, Points.{next_is, IsSound, whole_before, sound_next}}, Names.NameStays.{AreLinked, RunsTo}}
use Rattle.nfs_promises.proofs.Names.NameStays.{asked_runs, linked_at, runs_at, sound_at, says_leads, stands_by}

-- No row is of the object.

abbrev NoRow : ℕ → List Row → Type 0
NoRow n rows = (r : Row) → In r rows → r.object ≢ n

none_of : (n : ℕ) (rows : List Row) → has_row rows n ≡ false → NoRow n rows
none_of n rows none r there is = absurd (false≢true (sym none ∙ any_in (λ (r : Row). r.object == n) rows r there (eq-eqb r.object n is)))

no_row : (n : ℕ) (rows : List Row) → NoRow n rows → has_row rows n ≡ false
no_row n rows none = elim (cases_Bool (has_row rows n)) [
  | inl some ↦ (let r = in_any (λ (r : Row). r.object == n) rows some in absurd (none r.0 r.1 (eqb-true r.0.object n r.2)))
  | inr is ↦ is
]

push_none : (n : ℕ) (rows : List Row) (new : Row) → NoRow n rows → new.object ≢ n → NoRow n (rows ++ new ∷ [])
push_none n rows new none other r there is = elim (in_push rows new r there) [
  | inl last ↦ absurd (other (ap (λ (r : Row). r.object) (sym last) ∙ is))
  | inr before ↦ absurd (none r before is)
]

without_none : (n : ℕ) (rows : List Row) (d : ℕ) (name : List ℕ) → NoRow n rows → NoRow n (without_entry d name rows)
without_none n rows d name none r there = none r (in_filter _ rows r there).0

found_none : (n : ℕ) (rows : List Row) (d : ℕ) (name : List ℕ) → NoRow n rows → 1 ≤ n → unwrap_or (option_map (λ (r : Row). r.object) (entry rows d name)) 0 ≢ n
found_none n rows d name none low = go (entry rows d name) refl
  where
    go : (o : Option Row) → entry rows d name ≡ o → unwrap_or (option_map (λ (r : Row). r.object) o) 0 ≢ n
    go None e is = absurd (omega arith)
    go (Some r) e is = none r (find_in (is_entry d name) rows r e).0 is

-- That stays in a tree in which the object's number was given.

record Nameless (n : ℕ) (t : Files) : Type 0 where
  pub none : NoRow n t.rows
  pub low : 1 ≤ n
  pub given : n ≤ t.last_object

unused_nameless : (n : ℕ) (s : store.State) (m : ℕ) → Nameless n s.tree → Nameless n (without_unused s m).tree
unused_nameless n s m is = elim (cases_Bool (is_used s m)) [
  | inl stays ↦ rw stays is
  | inr goes ↦ rw goes (record { none = is.none; low = is.low; given = is.given })
]

replaced_nameless : (n : ℕ) (s : store.State) (o : Option ℕ) → Nameless n s.tree → Nameless n (without_replaced s o).tree
replaced_nameless n s None is = is
replaced_nameless n s (Some m) is = unused_nameless n s m is

linked_other : (n m : ℕ) (t : Files) (d : ℕ) (name : List ℕ) → NoRow n t.rows → has_row t.rows m ≡ true → m ≢ n
linked_other n m t d name none some is = absurd (false≢true (sym (no_row n t.rows none) ∙ (ap (has_row t.rows) (sym is) ∙ some)))

names_behind : (n : ℕ) (s : store.State) (e : names_effects.Effect) → names_effects.Fits s e → Nameless n s.tree → Nameless n (names_effects.behind s e).tree
names_behind n s (Makes d name new sets now) fits is =
    let given = is.given in
    let other : s.tree.last_object + 1 ≢ n = λ same. absurd (omega arith) in
    record {
      none = push_none n s.tree.rows (record { directory = d; name = name; object = s.tree.last_object + 1; cookie = s.tree.last_cookie + 1 }) is.none other;
      low = is.low;
      given = omega arith;
    }
names_behind n s (Links m d name now) fits is = (let checks = all_passed (link_checks s.tree m d name) fits in record {
  none = push_none n s.tree.rows (record { directory = d; name = name; object = m; cookie = s.tree.last_cookie + 1 }) is.none
      (linked_other n m s.tree d name is.none (not-false _ checks.1.1.1.1.1.0));
  low = is.low;
  given = is.given;
})
names_behind n s (Removes d name now) fits is =
    unused_nameless n _ (number_named s.tree d name) (record { none = without_none n s.tree.rows d name is.none; low = is.low; given = is.given })
names_behind n s (Moves m now) fits is =
    let t = s.tree in
    let rest = without_none n (without_entry m.target m.name t.rows) m.source m.old (without_none n t.rows m.target m.name is.none) in
    replaced_nameless n _ (object_named t m.target m.name) (record {
      none = push_none n (without_entry m.source m.old (without_entry m.target m.name t.rows))
          (record { directory = m.target; name = m.name; object = moved_object t m; cookie = t.last_cookie + 1 }) rest (found_none n t.rows m.source m.old is.none is.low);
      low = is.low;
      given = is.given;
    })

as_before : (n : ℕ) (t u : Files) → u.rows ≡ t.rows → u.last_object ≡ t.last_object → Nameless n t → Nameless n u
as_before n t u rows last is = record { none = subst (NoRow n) (sym rows) is.none; low = is.low; given = subst (λ k. n ≤ k) (sym last) is.given }

files_behind : (n client : ℕ) (s : store.State) (e : files_effects.Effect) → files_effects.Fits s client e → Nameless n s.tree → Nameless n (files_effects.behind s e).tree
files_behind n client s (Names e) fits is = names_behind n s e fits is
files_behind n client s (Writes m offset text sets now) fits is = as_before n s.tree _ refl refl is
files_behind n client s (Resizes m size sets now) fits is = as_before n s.tree _ refl refl is
files_behind n client s (Changes m sets now) fits is = as_before n s.tree _ refl refl is
files_behind n client s (Closes m file) fits is = unused_nameless n (with_opens s (without_open s.opens m)) file is
files_behind n client s e fits is = is

-- Operations.

names_item : (n : ℕ) (refused : Bool) (s : store.State) (x : Context) (now : Time) (i : Item) → Nameless n s.tree
    → ForSome (names.comes_to refused s x now i) (λ o. Nameless n o.state.tree)
names_item n refused s x now i is =
    each_of (λ o. Nameless n o.state.tree) (names.comes_to refused s x now i)
    (names_effected.kept_item (λ s x. Nameless n s.tree)
    (names_effects.of_states (λ s. Nameless n s.tree) (λ s e fits is. names_behind n s e fits is)) refused s x now i is)

file_item : (n : ℕ) (refused : Bool) (s : store.State) (x : Context) (now : Time) (i : Item) → IsTable s.opens → Nameless n s.tree
    → Nameless n (files.comes_to refused s x now i).state.tree
file_item n refused s x now i table is =
    files_effected.kept_item (λ s. Nameless n s.tree) refused s x now i (λ s e fits is. files_behind n x.client s e (fits table) is) is

run_nameless : (n : ℕ) (d : RanOp) → IsRun d → Nameless n d.before.store.tree → Nameless n d.behind.store.tree
run_nameless n d r is =
    by_run (λ status text s. Nameless n s.tree) d r is (names_item n r.refused d.before.store d.context (time_at d.before.store r.now) d.item is)
    (file_item n r.refused d.before.store d.context (time_at d.before.store r.now) d.item r.whole.table is) (λ other. is)

abbrev Here : ℕ → store.State → Type 0
Here n s = Nameless n s.tree

nameless_kept : (n : ℕ) → IsKept (Here n)
nameless_kept n = record { run = λ d r is. run_nameless n d r is; end = λ stays s is. as_before n s.tree (staying stays s).tree refl refl is }

-- What is said of such an object.

unsaid_here : (n : ℕ) (d : RanOp) (next : Option Context) → RunsTo d next → Here n d.before.store → IsNameless n d next
unsaid_here n d next to is = record {
  unnamed = no_row n d.before.store.tree.rows is.none;
  unsaid = λ k at says. (let row = stands_by k d.behind.store.tree (says_leads k d next to says) in
      let there = find_in (is_entry k.directory k.name) d.behind.store.tree.rows (row_of k row.0) row.1 in
      (run_nameless n d to.run is).none (row_of k row.0) there.0 at);
}

while_nameless : (n : ℕ) (ds : List RanOp) → AreLinked ds → ((d : RanOp) → In d ds → Here n d.before.store) → HoldsWhile (IsNameless n) (λ e. Unit {0}) ds
while_nameless n [] linked each = tt
while_nameless n (d ∷ more) linked each =
    (unsaid_here n d (next_of more) linked.0 (each d (inl refl)), λ spares. while_nameless n more linked.1 (λ e there. each e (inr there)))

linked_of : (s : ServerState) (c : Arrival) → IsSound s → AreLinked (ops_of s c)
linked_of s c sound = (asked_runs (before s c) (asked_by s c) (whole_before s c sound.whole)).linked

through_nameless : (n : ℕ) (s : ServerState) (records : List Arrival) → IsSound s → Here n s.machine.store → HoldsThrough (IsNameless n) (λ e. Unit {0}) s records
through_nameless n s [] sound is = tt
through_nameless n s (c ∷ more) sound is =
    let within = asked_keeps (Here n) (nameless_kept n) (before s c) (asked_by s c) (whole_before s c sound.whole) (before_keeps (Here n) (nameless_kept n) s c is) in (
      while_nameless n (ops_of s c) (linked_of s c sound) within,
      λ all. through_nameless n (state_after s c) more (sound_next s c sound) (next_keeps (Here n) (nameless_kept n) s c sound is),
    )

numbered : (n : ℕ) (d : RanOp) → IsRun d → is_there d.before.store.tree n ≡ true → has_row d.behind.store.tree.rows n ≡ false → Here n d.behind.store
numbered n d r there none =
    let t = d.before.store.tree in
    let within = stored_within root (t.last_object + 1) t.objects n r.whole.tree.objects there in
    let low = within.0 in
    let follows = run_follows n t d r (follows_itself n t (low_there n d.before r.whole there)) in
    record { none = none_of n d.behind.store.tree.rows none; low = omega arith; given = follows.given }

pub nameless_stays : NamelessStays
nameless_stays start earlier c n front d back same there none =
    let s = reached start earlier in
    let sound = sound_at start earlier in
    let here : Here n d.behind.store = numbered n d (runs_at s c front d back sound same).run there none in
    let did = asked_back (Here n) (nameless_kept n) (before s c) (asked_by s c) front d back (whole_before s c sound.whole) same here in
    let linked = linked_at front d back (subst AreLinked same (linked_of s c sound)) in (
      while_nameless n back linked.1 did.within,
      λ all more. through_nameless n (state_after s c) more (sound_next s c sound)
          (subst (λ (s : ServerState). Here n s.machine.store) (sym (next_is s c)) did.behind),
    )
