-- Close-to-open, in every run: a WRITE before the READ stays, and one behind it would have raised the change.
use Rattle.std.proofs.Common.{◌≡◌, ◌⊎◌, inl, inr, ℕ, zero, suc, ◌<◌, ◌≤◌, Bool, true, Some, List, [], ◌∷◌, ◌++◌, length, drop, take, append_assoc, refl, sym}
use Rattle.std.proofs.{Common.{◌∙◌, ap, subst, arith}, lemmas.List.{take_at, drop_at}}
use Rattle.std.specs.{Prelude.◌&&◌, Int.{w32, from_be_bytes}}
use Rattle.nfs_xdr.specs.{Spelling.number, Tables.In, declared.{time.Time.Time, status.Status.{Status, TheVariants.{Nfs4Ok, RepTooBig}}}}
use Rattle.nfs_xdr.proofs.Putting.{length_number}
use Rattle.nfs_compound.specs.{declared.file_args.Write.Write, declared.op.Item.TheVariants.Operation, OpNum.op_number}
use Rattle.nfs_compound.specs.declared.op.Op.TheVariants as Op
use Rattle.nfs_compound.specs.declared.op_num.OpNum.TheVariants as Num
use Rattle.nfs_results.proofs.Lengths.{length_head}
use Rattle.nfs_results.specs.Results.{spell_result, done_head, status_of_result}
use Rattle.nfs_tree.specs.Files.{Files, is_there, change_of}
use Rattle.nfs_names.specs.{declared.start.Start.Start, declared.context.Context.Context, Checks.current, Outcome.{Outcome, checked, is_ok, lacks}, State.time_at}
use Rattle.nfs_names.specs.State as store
use Rattle.nfs_names.proofs.{Found.{checked_ok, current_is}, Ones.by_delay}
use Rattle.nfs_files.specs.{Operation.grows, Parts.{writable, was_written}, Written.{Byte, GivesIt}}
use Rattle.nfs_files.specs.Write as of_write
use Rattle.nfs_files.proofs.{InSteps.write_is, Outcomes.one_or_delay, WrittenOps.{by_found, current_number, writable_at, number_back, write_spelled}, WrittenTold.short}
use Rattle.nfs_files.proofs.ChangesTold.{some_same}
use Rattle.nfs_exec.specs.{Runs.Ops.RanOp, Runs.WrittenRun.{WritesIt, SparesIt, AreSpared, StandsBefore, StandsWhile}}
use Rattle.nfs_exec.proofs.{Runs.OneRun.{IsRun, by_item}, Runs.OneWalk.none_at}
use Rattle.nfs_serve.specs.{Step.{ServerState, new_state}}
use Rattle.nfs_promises.specs.Bytes.{ChangeTells.{GetsOf, RunsIn}, ChangeSeen.Writes, CloseToOpen.{TellsChange, Keeps, IsWritten, CloseToOpen}}
use Rattle.nfs_promises.specs.{Bytes.WrittenStays.StaysWritten, Network.Endpoint.Arrival, Names.ListsAll.all_ops, Runs.Points.{state_after, state_after_all}}
use Rattle.nfs_promises.specs.Runs.Points.{reached, ops_of}
use Rattle.nfs_promises.proofs.Bytes.{ChangeAttributes.{gets_run, stored_there}, ChangeSeen.changes_are_new, ChangesFit.change_is_read, ChangeTells.Follows}
use Rattle.nfs_promises.proofs.Bytes.{ChangeTells.{follows_itself, run_follows, follows_kept, low_there, told}, WrittenStays.bytes_stay}
use Rattle.nfs_promises.proofs.{Names.{ListsAll.{HoldsFor, in_all}, PageLists.{in_both, first_in, second_in}}, Runs.LaterRecords.{IsDone, op_done, first_there}}
use Rattle.nfs_promises.proofs.Runs.{LaterRecords.later_keeps, Points.{IsSound, sound_all, sound_new}}

-- An operation in a list is in its front or in its back.
split : {A : Type 0} (xs ys u : List A) (d : A) (v : List A) → xs ++ ys ≡ u ++ d ∷ v
    → ((back : List A) × (xs ≡ u ++ d ∷ back) × (v ≡ back ++ ys)) ⊎ ((w : List A) × (u ≡ xs ++ w) × (ys ≡ w ++ d ∷ v))
split [] ys u d v e = inr (u, refl, e)
split (x ∷ xs) ys [] d v e =
    let same : x ∷ (xs ++ ys) ≡ d ∷ v = e in
    let head : x ≡ d = cc in
    let tail : xs ++ ys ≡ v = cc in
    inl (xs, ap (λ y. y ∷ xs) head, sym tail)
split (x ∷ xs) ys (a ∷ u) d v e =
    let head : x ≡ a = (let same : x ∷ (xs ++ ys) ≡ a ∷ (u ++ d ∷ v) = e in cc) in
    let tail : xs ++ ys ≡ u ++ d ∷ v = cc in
    elim (split xs ys u d v tail) [
      | inl is ↦ inl (is.0, ap (λ y. y ∷ xs) head ∙ ap (λ zs. a ∷ zs) is.1, is.2)
      | inr is ↦ inr (is.0, ap (λ y. y ∷ u) (sym head) ∙ ap (λ zs. x ∷ zs) is.1, is.2)
    ]

-- An operation of a run: in which record's compound it is, and what is behind it.
record Seat (s : ServerState) (d : RanOp) (v : List RanOp) : Type 0 where
  pub earlier : List Arrival
  pub c : Arrival
  pub front : List RanOp
  pub back : List RanOp
  pub more : List Arrival
  pub ops : ops_of (state_after_all s earlier) c ≡ front ++ d ∷ back
  pub rest : v ≡ back ++ all_ops (state_after (state_after_all s earlier) c) more

seat : (s : ServerState) (records : List Arrival) (u : List RanOp) (d : RanOp) (v : List RanOp) → all_ops s records ≡ u ++ d ∷ v → Seat s d v
seat s [] u d v e = absurd (none_at u d v e)
seat s (c ∷ more) u d v e = elim (split (ops_of s c) (all_ops (state_after s c) more) u d v e) [
  | inl is ↦ record { earlier = []; c = c; front = u; back = is.0; more = more; ops = is.1; rest = is.2 }
  | inr is ↦ (let k = seat (state_after s c) more is.0 d v is.2 in
      record { earlier = c ∷ k.earlier; c = k.c; front = k.front; back = k.back; more = k.more; ops = k.ops; rest = k.rest })
]

later : (s : ServerState) (d : RanOp) (v : List RanOp) (k : Seat s d v) (e : RanOp) → In e v → In e k.back ⊎ RunsIn (state_after (state_after_all s k.earlier) k.c) k.more e
later s d v k e there = elim (in_both k.back (all_ops (state_after (state_after_all s k.earlier) k.c) k.more) e (subst (In e) k.rest there)) [
  | inl here ↦ inl here
  | inr behind ↦ inr (in_all (state_after (state_after_all s k.earlier) k.c) k.more e behind)
]

-- A WRITE that told a byte was answered NFS4_OK, and brought some.

told_count : (count more also rest : List ℕ) → length count ≡ 4 → length also ≡ 4 → done_head Num.Write ++ (count ++ more) ≡ done_head Num.Write ++ (also ++ rest) → count ≡ also
told_count count more also rest four too e =
    let head = length_head (op_number Num.Write) Nfs4Ok in
    let same : count ++ more ≡ also ++ rest = sym (drop_at (done_head Num.Write) (count ++ more) 8 head) ∙ (ap (drop 8) e ∙ drop_at (done_head Num.Write) (also ++ rest) 8 head) in
    sym (take_at count more 4 four) ∙ (ap (take 4) same ∙ take_at also rest 4 too)

some_told : (n : ℕ) (count : List ℕ) → number n ≡ count → 0 < from_be_bytes w32 count → 0 < n
some_told zero count same some = (let none : from_be_bytes w32 count ≡ 0 = ap (from_be_bytes w32) (sym same) ∙ number_back 0 (omega arith) in absurd (omega arith))
some_told (suc n) count same some = omega arith

abbrev Wrote : (n : ℕ) (t : Files) → Write → (count more : List ℕ) → Status → List ℕ → Type 0
Wrote n t w count more status text =
    text ≡ done_head Num.Write ++ (count ++ more) → (is_ok status ≡ true) × (0 < length w.bytes) × (is_there t n ≡ true)

write_told : (n : ℕ) (refused : Bool) (s : store.State) (x : Context) (now : Time) (w : Write) (count more : List ℕ) → x.current ≡ Some n → length count ≡ 4
    → 0 < from_be_bytes w32 count → (let o = one_or_delay refused s x now (Op.Write w) in Wrote n s.tree w count more (status_of_result o.result) (spell_result o.result))
write_told n refused s x now w count more at long some =
    let P : Outcome → Type 0 = λ o. Wrote n s.tree w count more (status_of_result o.result) (spell_result o.result) in
    by_delay P (grows s x (Op.Write w) && refused) s x Num.Write (of_write.write s x now w) (λ told. absurd (short Num.Write (lacks s Num.Write) count more long told))
    (subst P (sym (write_is s x now w)) (by_found P s x Num.Write (checked (writable s x w.stateid (current s x)) (of_write.last_checks s w)) (was_written s x now w)
    (λ status told. absurd (short Num.Write status count more long told))
    (λ d granted told.
    (let here = writable_at s x w.stateid d (checked_ok (writable s x w.stateid (current s x)) (of_write.last_checks s w) d granted).0 in
    let spelled = write_spelled (of_write.write_ok s w) in
    let same = told_count (number (length w.bytes)) spelled.0 count more (length_number (length w.bytes)) long (sym spelled.1 ∙ told) in (
      refl,
      some_told (length w.bytes) count same some,
      subst (λ n. is_there s.tree n ≡ true) (some_same x.current d.number n (current_number s x d here) at) (current_is s x d here).there,
    )))))

wrote : (b : Byte) (d : RanOp) → IsRun d → (w : WritesIt b d) → (is_ok d.status ≡ true) × (0 < length w.over.asked.bytes) × (is_there d.before.store.tree b.file ≡ true)
wrote b d run w =
    let o = w.over in
    let s = d.before.store in
    let from = o.from in
    let below = o.below in
    by_item (λ status text t. Wrote b.file s.tree o.asked o.count o.more status text) d run (Operation (Op.Write o.asked)) o.is
    (λ told. absurd (short Num.Write RepTooBig o.count o.more o.long told))
    (write_told b.file run.refused s d.context (time_at s run.now) o.asked o.count o.more o.at o.long (omega arith)) o.answers

got_there : (n : ℕ) (words : List ℕ) (d : RanOp) → IsRun d → GetsOf n words d → is_there d.before.store.tree n ≡ true
got_there n words d run gets = let is = gets_run n words d run gets in stored_there d.before.store.tree n is.kept is.there

-- What stays through a list of operations that spare it.

holds_at : (P Spares : RanOp → Type 0) (u : List RanOp) (d : RanOp) (v : List RanOp) → HoldsFor P Spares (u ++ d ∷ v) → ((e : RanOp) → In e u → Spares e) → P d
holds_at P Spares [] d v holds all = holds.0
holds_at P Spares (x ∷ u) d v holds all = holds_at P Spares u d v (holds.1 (all x (inl refl))) (λ e there. all e (inr there))

module _ (b : Byte) where
  stands_for : (ds after : List RanOp) → StandsWhile b ds → (AreSpared b ds → HoldsFor (StandsBefore b) (SparesIt b) after) → HoldsFor (StandsBefore b) (SparesIt b) (ds ++ after)
  stands_for [] after stands rest = rest (λ d there. absurd there)
  stands_for (d ∷ ds) after stands rest = (
    stands.0,
    λ spares. stands_for ds after (stands.1 spares).1 (λ all. rest (λ e there. elim there [ inl is ↦ subst (SparesIt b) (sym is) spares | inr more ↦ all e more ])),
  )

  stays_for : (s : ServerState) (records : List Arrival) → StaysWritten b s records → HoldsFor (StandsBefore b) (SparesIt b) (all_ops s records)
  stays_for s [] stays = tt
  stays_for s (c ∷ more) stays = stands_for (ops_of s c) (all_ops (state_after s c) more) stays.0 (λ all. stays_for (state_after s c) more (stays.1 all))

-- The law.

module _ (start : Start) (b : Byte) where
  abbrev outset : ServerState
  outset = new_state start

  abbrev at : {d : RanOp} {v : List RanOp} → Seat outset d v → ServerState
  at k = reached start k.earlier

  sound_at : (d : RanOp) (v : List RanOp) (k : Seat outset d v) → IsSound (at k)
  sound_at d v k = sound_all outset k.earlier (sound_new start)

  run_at : (d : RanOp) (v : List RanOp) → Seat outset d v → IsDone d
  run_at d v k = op_done (at k) k.c (sound_at d v k) d (first_there (at k) k.c k.front d k.back k.ops)

  -- each READ of it behind the WRITE is given the byte, while all before it spare the byte
  stays : (write : RanOp) (v : List RanOp) → Seat outset write v → WritesIt b write → HoldsFor (StandsBefore b) (SparesIt b) v
  stays write v k writes =
      let told = bytes_stay start k.earlier k.c b k.front write k.back k.ops writes in
      subst (HoldsFor (StandsBefore b) (SparesIt b)) (sym k.rest)
      (stands_for b k.back (all_ops (state_after (at k) k.c) k.more) told.0 (λ all. stays_for b (state_after (at k) k.c) k.more (told.1 all k.more)))

  -- behind an operation the change does not fall
  rises_behind : (n : ℕ) (d : RanOp) (v : List RanOp) (k : Seat outset d v) (e : RanOp) → In e v → is_there d.before.store.tree n ≡ true → is_there e.before.store.tree n ≡ true
      → change_of d.behind.store.tree n ≤ change_of e.before.store.tree n
  rises_behind n d v k e there here behind =
      let run = (run_at d v k).run in
      let t = d.before.store.tree in
      let u = d.behind.store.tree in
      let low = (run_follows n t d run (follows_itself n t (low_there n d.before run.whole here))).given in
      let follows : Follows n u e.before.store.tree =
      later_keeps (λ s. Follows n u s.tree) (follows_kept n u) (at k) k.c k.front d k.back k.more (sound_at d v k) k.ops (follows_itself n u low) e (later outset d v k e there) in
      (told n u e.before.store.tree follows behind).rises

  -- what a GETATTR gave is the change of the file, which is there
  told_change : (n change : ℕ) (d : RanOp) (v : List RanOp) → Seat outset d v → TellsChange n change d → (change ≡ change_of d.before.store.tree n) × (is_there d.before.store.tree n ≡ true)
  told_change n change d v k tells = (
    change_is_read start k.earlier k.c d n tells.words change (first_there (at k) k.c k.front d k.back k.ops) tells.gets tells.asks tells.small tells.told,
    got_there n tells.words d (run_at d v k).run tells.gets,
  )

  -- so a WRITE between two GETATTRs leaves the second one another change
  raised : (change : ℕ) (got : RanOp) (v : List RanOp) (k : Seat outset got v) (write : RanOp) (w : List RanOp) (l : Seat outset write w) (asks : RanOp) (rest : List RanOp)
      → Seat outset asks rest → In write v → In asks w → WritesIt b write → TellsChange b.file change got → TellsChange b.file change asks → ⊥
  raised change got v k write w l asks rest m between last writes first second =
      let n = b.file in
      let its = wrote b write (run_at write w l).run writes in
      let here = told_change n change got v k first in
      let there = told_change n change asks rest m second in
      let more = changes_are_new start k.earlier k.c k.front got k.back k.more write n k.ops (elim (later outset got v k write between) [
        | inl within ↦ inl (inr within)
        | inr late ↦ inr late
      ]) here.1 its.2 its.0 (Writes writes.over.asked writes.over.is writes.over.at its.1) in
      let rises = rises_behind n write w l asks last its.2 there.1 in
      let old = here.0 in
      let new = there.0 in
      absurd (omega arith)

  module _ (change : ℕ) (records : List Arrival) (until : List RanOp) (asks : RanOp) (rest : List RanOp) (all : all_ops outset records ≡ until ++ asks ∷ rest)
      (kept : Keeps b change until) (written : IsWritten b until) (asked : TellsChange b.file change asks) where
    abbrev before : List RanOp
    before = kept.front ++ kept.got ∷ kept.between

    abbrev behind_got : List RanOp
    behind_got = (kept.between ++ kept.read ∷ kept.back) ++ asks ∷ rest

    abbrev behind_write : List RanOp
    behind_write = written.since ++ asks ∷ rest

    order : before ++ kept.read ∷ kept.back ≡ written.front ++ written.write ∷ written.since
    order = append_assoc kept.front (kept.got ∷ kept.between) (kept.read ∷ kept.back) ∙ (sym kept.order ∙ written.order)

    got_at : Seat outset kept.got behind_got
    got_at = seat outset records kept.front kept.got behind_got
        (all ∙ (ap (λ ds. ds ++ asks ∷ rest) kept.order ∙ append_assoc kept.front (kept.got ∷ (kept.between ++ kept.read ∷ kept.back)) (asks ∷ rest)))

    wrote_at : Seat outset written.write behind_write
    wrote_at = seat outset records written.front written.write behind_write
        (all ∙ (ap (λ ds. ds ++ asks ∷ rest) written.order ∙ append_assoc written.front (written.write ∷ written.since) (asks ∷ rest)))

    -- the READ behind the WRITE
    read_behind : (w : List RanOp) → written.since ≡ w ++ kept.read ∷ kept.back → StandsBefore b kept.read
    read_behind w same =
        let behind : behind_write ≡ w ++ kept.read ∷ (kept.back ++ asks ∷ rest) = ap (λ ds. ds ++ asks ∷ rest) same ∙ append_assoc w (kept.read ∷ kept.back) (asks ∷ rest) in
        holds_at (StandsBefore b) (SparesIt b) w kept.read (kept.back ++ asks ∷ rest)
        (subst (HoldsFor (StandsBefore b) (SparesIt b)) behind (stays written.write behind_write wrote_at written.writes))
        (λ e there. written.spared e (subst (In e) (sym same) (first_in w (kept.read ∷ kept.back) e there)))

    -- the WRITE behind it
    write_behind : (w : List RanOp) → kept.read ∷ kept.back ≡ w ++ written.write ∷ written.since → ⊥
    write_behind w same =
        let within : In written.write (kept.read ∷ kept.back) = subst (In written.write) (sym same) (second_in w (written.write ∷ written.since) written.write (inl refl)) in
        raised change kept.got behind_got got_at written.write behind_write wrote_at asks rest (seat outset records until asks rest all)
        (first_in (kept.between ++ kept.read ∷ kept.back) (asks ∷ rest) written.write (second_in kept.between (kept.read ∷ kept.back) written.write within))
        (second_in written.since (asks ∷ rest) asks (inl refl)) written.writes kept.tells asked

    given_it : GivesIt b kept.read.context kept.read.item kept.read.result kept.reads
    given_it = elim (split before (kept.read ∷ kept.back) written.front written.write written.since order) [
      | inl first ↦ (read_behind first.0 first.2).read kept.reads
      | inr second ↦ absurd (write_behind second.0 second.2)
    ]

pub close_to_open : CloseToOpen
close_to_open start records b change until asks rest all kept written asked = given_it start b change records until asks rest all kept written asked
