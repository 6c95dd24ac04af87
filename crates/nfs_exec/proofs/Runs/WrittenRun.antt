-- A byte that was told, through the operations of an event.
use Rattle.std.proofs.Common.{◌≡◌, ℕ, Bool, true, false, List, ◌∷◌, ◌++◌, get_or, Option, Some, None, refl, sym, ◌∙◌, ap, subst, arith, inl, inr}
use Rattle.std.proofs.lemmas.Bool.{cases_Bool, cases_eq, eqb-true, eq-eqb, false≢true}
use Rattle.std.specs.{Prelude.{◌==◌, ◌||◌, is_some, option_map}, Option.option_map_or}
use Rattle.nfs_xdr.specs.{declared.status.Status.TheVariants.{RepTooBig, Stale}, Spelling.number}
use Rattle.nfs_xdr.proofs.Lists.{in_any}
use Rattle.nfs_compound.specs.declared.op_num.OpNum.TheVariants as Num
use Rattle.nfs_compound.specs.declared.op.Item.TheVariants.{Operation}
use Rattle.nfs_compound.specs.declared.op.Op.TheVariants as Op
use Rattle.nfs_results.specs.declared.res.Res.TheVariants as Res
use Rattle.nfs_results.specs.Results.{spell_result}
use Rattle.nfs_tree.specs.{declared.object.FileType.FileType, declared.row.Row.Row, declared.stored.Stored.Stored, Object.{is_directory, is_regular}}
use Rattle.nfs_tree.specs.Files.{root, stored_in, object_at, is_there, has_row}
use Rattle.nfs_attrs.specs.Handle.{handle_of}
use Rattle.nfs_names.specs.{declared.context.Context.Context, Context.at_object, PutFh.put_fh, State.{State, time_at, is_open, is_used}}
use Rattle.nfs_names.specs.Outcome as outcome
use Rattle.nfs_files.specs.Written.{Byte, Lasts, Writes, Spares, Reads, GivesIt}
use Rattle.nfs_files.proofs.{TreeFiles.IsWhole, WrittenSpared.{lasts_staying, spared_bytes_last, names_leave_bytes}}
use Rattle.nfs_files.proofs.WrittenTold.{short, writes_leave_bytes, reads_give_bytes}
use Rattle.nfs_exec.specs.{Step.Machine.{Machine, starts}, Step.Laws.{MachineEvent, stepped, all_stepped}, Runs.Ops.{RanOp, ops_by}}
use Rattle.nfs_exec.specs.Runs.WrittenRun.{WritesIt, SparesIt, the_byte, AreSpared, StandsBefore, StandsWhile, StandsInRuns}
use Rattle.nfs_exec.proofs.{Runs.OneRun.{IsRun, by_item, by_run}, Runs.OneWalk.{Stays, event_walked, told_walked, kept_ended}}
use Rattle.nfs_exec.proofs.Runs.KeptByRuns.{Is, whole_events, start_whole}

abbrev pub LastsIn : Byte → Machine → Type 0
LastsIn b m = Lasts b m.store.tree

-- One operation.

-- what spares it leaves it
left_run : (b : Byte) (d : RanOp) → IsRun d → LastsIn b d.before → SparesIt b d → LastsIn b d.behind
left_run b d r is =
    by_run (λ status text s. Spares b d.before.store d.context d.item text → Lasts b s.tree) d r (λ spares. is)
    (λ o e spares. names_leave_bytes b r.refused d.before.store d.context (time_at d.before.store r.now) d.item is o e)
    (λ spares. spared_bytes_last b r.refused d.before.store d.context (time_at d.before.store r.now) d.item is spares) (λ other spares. is)

-- a WRITE that told it leaves it
pub told_run : (b : Byte) (d : RanOp) → IsRun d → WritesIt b d → LastsIn b d.behind
told_run b d r writes =
    let i = Operation (Op.Write writes.over.asked) in
    let same = writes.over.is in
    by_item (λ status text s. Writes b d.context i text → Lasts b s.tree) d r i same
    (λ w. absurd (short Num.Write RepTooBig w.over.count w.over.more w.over.long w.over.answers))
    (λ w. writes_leave_bytes b r.refused d.before.store d.context (time_at d.before.store r.now) i r.whole.tree w) (subst (λ j. Writes b d.context j d.result) same writes)

-- a READ is given it
read_run : (b : Byte) (d : RanOp) → IsRun d → LastsIn b d.before → (r : Reads b.file b.place d.context d.item d.result) → GivesIt b d.context d.item d.result r
read_run b d run is r =
    let i = Operation (Op.Read r.asked) in
    by_item (λ status text s. (k : Reads b.file b.place d.context i text) → GivesIt b d.context i text k) d run i r.is
    (λ k. absurd (short Num.Read RepTooBig k.eof k.text k.long k.answers))
    (λ k. reads_give_bytes b run.refused d.before.store d.context (time_at d.before.store run.now) i is k) (record {
      asked = r.asked;
      is = refl;
      at = r.at;
      eof = r.eof;
      long = r.long;
      text = r.text;
      answers = r.answers;
      from = r.from;
      below = r.below;
    })

-- what is used is there
some_kind : (test : FileType → Bool) (o : Option Stored) → option_map_or (λ (s : Stored). test s.object.kind) o false ≡ true → is_some o ≡ true
some_kind test None e = absurd (false≢true e)
some_kind test (Some s) e = refl

pub used_there : (s : State) (n : ℕ) → IsWhole s → is_used s n ≡ true → is_there s.tree n ≡ true
used_there s n is used = elim (cases_eq n root) [
  | inl here ↦ subst (λ k. is_there s.tree k ≡ true) (sym here) (some_kind is_directory (stored_in s.tree.objects root) is.tree.root)
  | inr other ↦ elim (cases_Bool (has_row s.tree.rows n)) [
    | inl row ↦ (let r = in_any (λ (r : Row). r.object == n) s.tree.rows row in
        subst (λ k. is_there s.tree k ≡ true) (eqb-true r.0.object n r.2) (is.tree.rows.names r.0 r.1))
    | inr none ↦ some_kind is_regular (stored_in s.tree.objects n) (is.store.files n (open_left (n == root) (has_row s.tree.rows n) (is_open s n)
        (ne_root n other) none used))
  ]
]
  where
    open_left : (a r o : Bool) → a ≡ false → r ≡ false → a || (r || o) ≡ true → o ≡ true
    open_left true r o e f used = absurd (false≢true (sym e))
    open_left false true o e f used = absurd (false≢true (sym f))
    open_left false false o e f used = used

    ne_root : (n : ℕ) → (n ≡ root → ⊥) → (n == root) ≡ false
    ne_root n other = elim (cases_Bool (n == root)) [ inl same ↦ absurd (other (eqb-true n root same)) | inr differs ↦ differs ]

-- so a PUTFH of it finds it
some_object : (o : Option Stored) → is_some o ≡ true → is_some (option_map (λ (s : Stored). s.object) o) ≡ true
some_object None e = absurd (false≢true e)
some_object (Some s) e = refl

not_stale : spell_result Res.PutFh ≡ spell_result (Res.Refused 22 Stale) → ⊥
unfolding number
not_stale e = let bad : ◌≡◌ {A = ℕ} 0 70 = ap (λ (text : List ℕ). get_or text 7 0) e in absurd (omega arith)

big_not_stale : spell_result (Res.Refused 22 RepTooBig) ≡ spell_result (Res.Refused 22 Stale) → ⊥
unfolding number
big_not_stale e = let bad : ◌≡◌ {A = ℕ} 82 70 = ap (λ (text : List ℕ). get_or text 7 0) e in absurd (omega arith)

put_found : (s : State) (x : Context) (h : List ℕ) (n : ℕ) → handle_of h ≡ Some (record { instance = s.opens.instance; number = n }) → is_there s.tree n ≡ true
    → spell_result (put_fh s x h).result ≡ spell_result (Res.Refused 22 Stale) → ⊥
unfolding put_fh
put_found s x h n is there e =
    let held : is_some (object_at s.tree n) ≡ true = some_object (stored_in s.tree.objects n) there in
    let passes : put_fh s x h ≡ outcome.done s (at_object x n) Res.PutFh = rw (is, eq-eqb s.opens.instance s.opens.instance refl, held) refl in
    not_stale (ap (λ (o : outcome.Outcome). spell_result o.result) (sym passes) ∙ e)

pub put_run : (d : RanOp) (r : IsRun d) (n : ℕ) → is_there d.before.store.tree n ≡ true → (h : List ℕ) → d.item ≡ Operation (Op.PutFh h)
    → handle_of h ≡ Some (record { instance = d.before.store.opens.instance; number = n }) → d.result ≡ spell_result (Res.Refused 22 Stale) → ⊥
put_run d r n there h item is = by_item (λ status text s. text ≡ spell_result (Res.Refused 22 Stale) → ⊥) d r (Operation (Op.PutFh h)) item
    big_not_stale (put_found d.before.store d.context h n is there)

before_run : (b : Byte) (d : RanOp) → IsRun d → LastsIn b d.before → StandsBefore b d
before_run b d r is = record {
  stands = λ used. is.stands (used_there d.before.store b.file r.whole used);
  found = λ used h item handle told. put_run d r b.file (used_there d.before.store b.file r.whole used) h item handle told;
  read = λ k. read_run b d r is k;
}

-- An event, whoever ends by it.

pub byte_stays : (b : Byte) → Stays (the_byte b) (λ m e. Unit {0})
byte_stays b = record {
  step = λ way d r is. (before_run b d r is, left_run b d r is);
  idle = λ way m e is idle alone lasts. subst (λ (s : State). Lasts b s.tree) (sym idle.left)
      (kept_ended (λ s. Lasts b s.tree) (λ stays s is. lasts_staying b stays s is) m.store idle.ends lasts);
}

pub event_told : (b : Byte) (m : Machine) (e : MachineEvent) (front : List RanOp) (write : RanOp) (back : List RanOp) → Is m → ops_by m e ≡ front ++ write ∷ back → WritesIt b write
    → StandsWhile b back × (AreSpared b back → LastsIn b (stepped m e))
event_told b m e front write back is same writes =
    let told = told_walked (the_byte b) (λ m e. Unit {0}) (byte_stays b) write.context.client m e front write back is same refl tt (λ run. told_run b write run writes) in
    (told.within, told.behind)

pub stands_in_runs : StandsInRuns
stands_in_runs start events e b =
    let m = all_stepped (starts start) events in
    let is : Is m = whole_events (starts start) events (start_whole start) in (
      λ lasts. (let did = event_walked (the_byte b) (λ m e. Unit {0}) (byte_stays b) m e is tt lasts in (did.0, λ all. did.1 all tt)),
      λ front write back same writes. event_told b m e front write back is same writes,
    )
