-- The operations behind a SEQUENCE: what the loop over them has come to.
use Rattle.std.proofs.Common.{◌≡◌, ℕ, zero, suc, ◌+◌, ◌-◌, ◌≤◌, Bool, true, false, List, [], ◌∷◌, ◌++◌, length, Option, Some, None, refl, sym, ◌∙◌, ap, subst}
use Rattle.std.proofs.{Common.{arith, inr}, lemmas.List.{length-append, append_assoc, append-nil}}
use Rattle.nfs_xdr.specs.{Tables.In, SheetState.{SheetState, Puts}, declared.status.Status.Status, declared.status.Status.TheVariants.Nfs4Ok}
use Rattle.nfs_compound.specs.{declared.op.Item.Item, Request.Request}
use Rattle.nfs_names.specs.{declared.context.Context.Context, StoreInvariants.IsStore, Outcome.{is_lack, is_ok}}
use Rattle.nfs_exec.specs.{Step.Machine.{Machine, MachineOutcome}, Step.Behind.Step, Step.Run.{Ran, run, in_room, follow, only, is_here, behind_here}}
use Rattle.nfs_exec.specs.{Step.View.{RunsTo, Steps, CanBear}, declared.run.Ran.{Ran as Told}}

-- The place at which memory was refused: here, or one place further than from behind.

pub choice_of : Bool → Option ℕ
choice_of true = Some zero
choice_of false = None

pub chosen : (refused : Bool) → is_here (choice_of refused) ≡ refused
unfolding choice_of
chosen true = refl
chosen false = refl

pub later : Option ℕ → Option ℕ
later None = None
later (Some k) = Some (suc k)

pub later_not_here : (choice : Option ℕ) → is_here (later choice) ≡ false
unfolding later
later_not_here None = refl
later_not_here (Some k) = refl

pub later_behind : (choice : Option ℕ) → behind_here (later choice) ≡ choice
unfolding later
later_behind None = refl
later_behind (Some k) = refl

-- what the whole run comes to is what stands on the sheet and what the rest comes to
pub record Joins (whole rest : Ran) (done : ℕ) (before here : List ℕ) : Type 0 where
  pub status : whole.status ≡ rest.status
  pub count : whole.count ≡ done + rest.count
  pub machine : whole.machine ≡ rest.machine
  pub results : before ++ whole.results ≡ here ++ rest.results

-- where a run stands: the tables, the context and the sheet
pub record Stand : Type 0 where
  pub machine : Machine
  pub context : Context
  pub sheet : SheetState

-- the bytes of a reply that had some at a place of the sheet
abbrev pub so_far : (begun at : ℕ) → SheetState → ℕ
so_far begun at sheet = begun + (length sheet.bytes - at)

abbrev pub run_at : (limit begun at now : ℕ) → Option ℕ → Stand → List Item → Ran
run_at limit begun at now choice s items = run limit (so_far begun at s.sheet) now choice s.machine s.context items

-- one operation where the run stands
abbrev pub step_at : (limit begun at now : ℕ) → Bool → Stand → Item → Step
step_at limit begun at now refused s item = in_room limit (so_far begun at s.sheet) now refused s.machine s.context item

pub record Going (limit begun at now : ℕ) (first here : Stand) (all left : List Item) (done : ℕ) : Type 0 where
  pub bears : (i : Item) → In i left → CanBear i
  pub few : done + length left ≤ 64
  pub start : at ≤ length here.sheet.bytes
  pub fits : length here.sheet.bytes + (begun + 12) ≤ at + limit
  pub room : here.sheet.room ≡ first.sheet.room
  pub ran : (choice : Option ℕ)
      → (whole : Option ℕ) × Joins (run_at limit begun at now whole first all) (run_at limit begun at now choice here left) done first.sheet.bytes here.sheet.bytes

pub record Loop (limit begun at now : ℕ) (first here : Stand) (all left : Request) (done : ℕ) : Type 0 where
  pub going : Going limit begun at now first here all.left left.left done
  pub same : left ≡ record all { left = left.left }
  pub store : IsStore here.machine.store

pub begins : (limit begun at now : ℕ) (first : Stand) (all : List Item) → ((i : Item) → In i all → CanBear i) →
    length all ≤ 64 → at ≤ length first.sheet.bytes → length first.sheet.bytes + (begun + 12) ≤ at + limit →
    Going limit begun at now first first all all 0
begins limit begun at now first all bears few start fits = record {
  bears = bears;
  few = omega (arith, few);
  start = start;
  fits = fits;
  room = refl;
  ran = λ choice. (choice, record { status = refl; count = omega arith; machine = refl; results = refl });
}

-- the operation was run where the run stood, and left it there
abbrev pub Stepped : (limit begun at now : ℕ) (here next : Stand) → Item → Status → Type 0
Stepped limit begun at now here next item s = Steps (step_at limit begun at now (is_lack s) here item) s next.machine next.context here.sheet next.sheet

grown : (old new : SheetState) (text : List ℕ) → Puts old new text → length new.bytes ≡ length old.bytes + length text
grown old new text put = ap length put.bytes ∙ length-append old.bytes text

followed : (o : MachineOutcome) (rest : Ran) → o.status ≡ Nfs4Ok
    → follow o rest ≡ record { status = rest.status; count = suc rest.count; results = o.result ++ rest.results; machine = rest.machine }
followed o rest ok = rw ok refl

stopped : (o : MachineOutcome) (rest : Ran) → is_ok o.status ≡ false → follow o rest ≡ only o
stopped o rest bad = rw bad refl

joined : (o : MachineOutcome) (whole rest : Ran) (done : ℕ) (before here new : List ℕ) → o.status ≡ Nfs4Ok
    → Joins whole (follow o rest) done before here → new ≡ here ++ o.result → Joins whole rest (done + 1) before new
joined o whole rest done before here new ok joins put =
    let j = subst (λ (ran : Ran). Joins whole ran done before here) (followed o rest ok) joins in
    record {
      status = j.status;
      count = (let c = j.count in omega (arith, c));
      machine = j.machine;
      results = j.results ∙ sym (append_assoc here o.result rest.results) ∙ ap (λ xs. xs ++ rest.results) (sym put);
    }

-- what a run comes to by its first operation, and by where that left it
abbrev unrolled : (limit now : ℕ) → Step → (sofar : ℕ) → Option ℕ → Machine → Context → List Item → Ran
unrolled limit now s sofar choice m x left = follow s.outcome (run limit sofar now choice m x left)

unrolls : (limit begun at now : ℕ) (here next : Stand) (left : List Item) (item : Item) (s : Status) (choice : Option ℕ) →
    Stepped limit begun at now here next item s → is_here choice ≡ is_lack s → at ≤ length here.sheet.bytes →
    run_at limit begun at now choice here (item ∷ left)
    ≡ follow (step_at limit begun at now (is_lack s) here item).outcome (run_at limit begun at now (behind_here choice) next left)
unrolls limit begun at now here next left item s choice did place start =
    let o = step_at limit begun at now (is_lack s) here item in
    let long = grown here.sheet next.sheet o.outcome.result did.put in
    let sofar : so_far begun at here.sheet + length o.outcome.result ≡ so_far begun at next.sheet = omega (arith, long, start) in
    ap (λ (b : Bool). unrolled limit now (step_at limit begun at now b here item)
    (so_far begun at here.sheet + length (step_at limit begun at now b here item).outcome.result) (behind_here choice)
    (step_at limit begun at now b here item).outcome.machine (step_at limit begun at now b here item).context left) place
    ∙ ap (λ (n : ℕ). unrolled limit now o n (behind_here choice) o.outcome.machine o.context left) sofar
    ∙ ap (λ (m : Machine). unrolled limit now o (so_far begun at next.sheet) (behind_here choice) m o.context left) (sym did.machine)
    ∙ ap (λ (x : Context). unrolled limit now o (so_far begun at next.sheet) (behind_here choice) next.machine x left) (sym did.context)

-- one more was run, and the run goes on
pub goes_on : (limit begun at now : ℕ) (first here next : Stand) (all left : List Item) (item : Item) (done : ℕ) (s : Status) →
    Going limit begun at now first here all (item ∷ left) done →
    Stepped limit begun at now here next item s → s ≡ Nfs4Ok →
    length next.sheet.bytes + so_far begun at here.sheet + 12 ≤ length here.sheet.bytes + limit → Going limit begun at now first next all left (done + 1)
goes_on limit begun at now first here next all left item done s going did ok short =
    let start = going.start in
    let o = (step_at limit begun at now (is_lack s) here item).outcome in
    let long = grown here.sheet next.sheet o.result did.put in
    record {
      bears = λ i there. going.bears i (inr there);
      few = (let few = going.few in omega (arith, few));
      start = omega (arith, long, start);
      fits = omega (arith, long, start, short);
      room = did.put.room ∙ going.room;
      ran = λ choice.
          (let whole = going.ran (later choice) in
          let place : is_here (later choice) ≡ is_lack s = later_not_here choice ∙ sym (ap is_lack ok) in
          let rest : run_at limit begun at now (later choice) here (item ∷ left) ≡ follow o (run_at limit begun at now choice next left) =
          unrolls limit begun at now here next left item s (later choice) did place start
          ∙ ap (λ (c : Option ℕ). follow o (run_at limit begun at now c next left)) (later_behind choice) in (
            whole.0,
            joined o (run_at limit begun at now whole.0 first all)
                (run_at limit begun at now choice next left) done first.sheet.bytes here.sheet.bytes next.sheet.bytes (sym did.status ∙ ok)
                (subst (λ (ran : Ran). Joins (run_at limit begun at now whole.0 first all) ran done first.sheet.bytes here.sheet.bytes) rest whole.1) did.put.bytes,
          ));
    }

-- one more was run, and the run ends with it
pub ends_with : (limit begun at now : ℕ) (first here next : Stand) (all left : List Item) (item : Item) (done : ℕ) (s : Status) →
    Going limit begun at now first here all (item ∷ left) done →
    Stepped limit begun at now here next item s → is_ok s ≡ false →
    (choice : Option ℕ) × RunsTo (run_at limit begun at now choice first all) (record { status = s; count = done + 1 }) next.machine first.sheet next.sheet
ends_with limit begun at now first here next all left item done s going did bad =
    let choice = choice_of (is_lack s) in
    let o = (step_at limit begun at now (is_lack s) here item).outcome in
    let w = going.ran choice in
    let whole = run_at limit begun at now w.0 first all in
    let rest = run_at limit begun at now (behind_here choice) next left in
    let refused : is_ok o.status ≡ false = ap is_ok (sym did.status) ∙ bad in
    let last : run_at limit begun at now choice here (item ∷ left) ≡ only o =
    unrolls limit begun at now here next left item s choice did (chosen (is_lack s)) going.start ∙ stopped o rest refused in
    let j : Joins whole (only o) done first.sheet.bytes here.sheet.bytes =
    subst (λ (ran : Ran). Joins whole ran done first.sheet.bytes here.sheet.bytes) last w.1 in (
      w.0,
      record {
        status = did.status ∙ sym j.status;
        count = sym j.count;
        machine = did.machine ∙ sym j.machine;
        put = record { bytes = did.put.bytes ∙ sym j.results; room = did.put.room ∙ going.room };
      },
    )

pub ends_within : (limit begun at now : ℕ) (first here : Stand) (next : SheetState) (all left : List Item) (item : Item) (done : ℕ) →
    Going limit begun at now first here all (item ∷ left) done →
    length next.bytes + so_far begun at here.sheet ≤ length here.sheet.bytes + limit → length next.bytes + begun ≤ at + limit
ends_within limit begun at now first here next all left item done going short = (let start = going.start in omega (arith, start, short))

pub ends : (limit begun at now : ℕ) (first here : Stand) (all : List Item) (done : ℕ) → Going limit begun at now first here all [] done →
    (choice : Option ℕ) × RunsTo (run_at limit begun at now choice first all) (record { status = Nfs4Ok; count = done }) here.machine first.sheet here.sheet
ends limit begun at now first here all done going =
    let w = going.ran None in
    let j = w.1 in (
      w.0,
      record {
        status = sym j.status;
        count = (let c = j.count in omega (arith, c));
        machine = sym j.machine;
        put = record { bytes = sym (append-nil here.sheet.bytes) ∙ sym j.results; room = going.room };
      },
    )

pub not_ok : (s : Status) → (s ≡ Nfs4Ok → ⊥) → is_ok s ≡ false
not_ok Nfs4Ok other = absurd (other refl)
not_ok s other = refl

-- the bytes so far as the code counts them
pub counted : (P : ℕ → Type 0) (begun at : ℕ) (here : SheetState) (begin len : ℕ)
    → begin ≡ at → len ≡ length here.bytes → P (begun + (len - begin)) → P (so_far begun at here)
counted P begun at here begin len first long p = subst (λ n. P (begun + (n - at))) long (subst (λ n. P (begun + (len - n))) first p)

-- nothing was put when the run began
pub whole : (limit begun now : ℕ) (first : Stand) (all : List Item) (done : Told) (left : Machine) (new : SheetState)
    → (choice : Option ℕ) × RunsTo (run_at limit begun (length first.sheet.bytes) now choice first all) done left first.sheet new
    → (choice : Option ℕ) × RunsTo (run limit begun now choice first.machine first.context all) done left first.sheet new
whole limit begun now first all done left new runs =
    let none : so_far begun (length first.sheet.bytes) first.sheet ≡ begun = omega arith in
    (runs.0, subst (λ n. RunsTo (run limit n now runs.0 first.machine first.context all) done left first.sheet new) none runs.1)
