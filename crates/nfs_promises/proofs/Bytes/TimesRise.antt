-- Of two changes the later gives the later time, in whatever run.
use Rattle.std.proofs.Common.{◌≡◌, ◌≢◌, ◌⊎◌, inl, inr, ℕ, suc, ◌+◌, ◌<◌, ◌≤◌, pos, List, [], ◌∷◌, ◌++◌, length, Option, Some, None, refl, sym, ◌∙◌, ap, subst, arith}
use Rattle.std.proofs.lemmas.List.{append-nil}
use Rattle.std.specs.{Prelude.{option_map, if◌then◌else◌}, Option.option_map_or}
use Rattle.nfs_xdr.specs.{Wire.nfstime4, declared.time.Time.Time, Tables.In}
use Rattle.nfs_results.specs.declared.res.Res.TheVariants as Res
use Rattle.nfs_results.specs.Results.{spell_result}
use Rattle.nfs_tree.specs.{declared.limits.Limits.Limits, declared.object.Object.Object, declared.profile.Profile.Profile, declared.profile.Profile.TheVariants.{Exact, Unix}}
use Rattle.nfs_tree.specs.{declared.stored.Stored.Stored, Files.{Files, next_count, stored_in, change_of}, Profile.is_unix}
use Rattle.nfs_attrs.specs.Attributes.{attributes, values}
use Rattle.nfs_names.specs.{declared.start.Start.Start, Ending.staying, State.{moment, time_at}}
use Rattle.nfs_names.specs.State as store
use Rattle.nfs_exec.specs.{Runs.Kept.after_all, Runs.Ops.RanOp}
use Rattle.nfs_serve.specs.Step.{ServerState, new_state}
use Rattle.nfs_promises.specs.{Network.Endpoint.Arrival, Runs.{Points.{state_after, reached, taken, ops_of}, Followed.{TellsWhile, TellsThrough}}, Bytes.ChangeTells.RunsIn}
use Rattle.nfs_promises.specs.Bytes.TimesRise.{Rises, TimesOf, many, IsChange, TimesRise, both_times, TimesAreTold}
use Rattle.nfs_promises.proofs.Bytes.{ChangeSeen.changes_raise, ChangeAttributes.{Free, attributes_text, gets_run}, Dated.{stamps, modifies}}
use Rattle.nfs_promises.proofs.Runs.{ChangesCounted.{Counts, at_first, same_counts, ran_counts, next_is, next_small}, Followed.from, LimitsKept.profile_kept}
use Rattle.nfs_promises.proofs.Runs.{LaterRecords.{op_done, first_there, later_keeps}, Points.{IsSound, sound_all, sound_new}, RunAt.{op_at, later_at}}
use Rattle.nfs_promises.proofs.Permission.RightsTold.{profile_here}

-- How many operations ran before one, and what the count came to.

abbrev CountsIf : ℕ → ℕ → store.State → Type 0
CountsIf base w s = w < 1000000000 → Counts base w s

abbrev Tells : ℕ → ℕ → RanOp → Type 0
Tells base w d = CountsIf base w d.before.store

abbrev one_more : ℕ → RanOp → ℕ
one_more w d = w + 1

record Before (base most : ℕ) (e : RanOp) : Type 0 where
  ran : ℕ
  few : ran < most
  tells : Tells base ran e

first_few : (w n : ℕ) → w < w + suc n
first_few w n = omega arith

next_few : (r w n : ℕ) → r < (w + 1) + n → r < w + suc n
next_few r w n few = omega arith

here_few : (r w n m : ℕ) → r < w + n → r < w + (n + m)
here_few r w n m few = omega arith

there_few : (r w n m a : ℕ) → a ≡ w + n → r < a + m → r < w + (n + m)
there_few r w n m a same few = omega arith

while_before : (base w : ℕ) (ds : List RanOp) → TellsWhile (Tells base) one_more w ds → (e : RanOp) → In e ds → Before base (w + length ds) e
while_before base w [] all e there = absurd there
while_before base w (d ∷ more) all e (inl same) = record { ran = w; few = first_few w (length more); tells = subst (Tells base w) (sym same) all.0 }
while_before base w (d ∷ more) all e (inr later) =
    let it = while_before base (w + 1) more all.1 e later in
    record { ran = it.ran; few = next_few it.ran w (length more) it.few; tells = it.tells }

next_all : (w n : ℕ) → (w + 1) + n ≡ w + suc n
next_all w n = omega arith

none_all : (w : ℕ) → w ≡ w + 0
none_all w = omega arith

counted_all : (w : ℕ) (ds : List RanOp) → after_all one_more w ds ≡ w + length ds
counted_all w [] = none_all w
counted_all w (d ∷ more) = counted_all (w + 1) more ∙ next_all w (length more)

through_before : (base w : ℕ) (s : ServerState) (records : List Arrival) → TellsThrough (Tells base) one_more w s records → (e : RanOp) → RunsIn s records e
    → Before base (w + many s records) e
through_before base w s [] all e there = absurd there
through_before base w s (c ∷ more) all e (inl here) =
    let it = while_before base w (ops_of s c) all.0 e here in
    record { ran = it.ran; few = here_few it.ran w (length (ops_of s c)) (many (state_after s c) more) it.few; tells = it.tells }
through_before base w s (c ∷ more) all e (inr later) =
    let it = through_before base (after_all one_more w (ops_of s c)) (state_after s c) more all.1 e later in
    record {
      ran = it.ran;
      few = there_few it.ran w (length (ops_of s c)) (many (state_after s c) more) (after_all one_more w (ops_of s c)) (counted_all w (ops_of s c)) it.few;
      tells = it.tells;
    }

-- Times of two changes.

stamped : (s : store.State) (now : ℕ) → s.tree.profile ≡ Unix → time_at s now ≡ record { seconds = pos now; nanoseconds = next_count s.tree.changes }
stamped s now unix =
    ap (λ (p : Profile). if is_unix p then record (moment now) { nanoseconds = next_count s.tree.changes } else moment now) unix

later_count : (base w between count : ℕ) (s : store.State) → w < between → CountsIf base w s → count ≡ next_count s.tree.changes → base + between < 1000000000 → base < count
later_count base w between count s few tells is fits =
    let it = tells (omega arith) in
    let small = it.small in
    let fewer = it.few in
    elim it.either [
      | inl here ↦ elim (next_is s.tree.changes it.small) [ inl up ↦ (let one : count ≡ s.tree.changes + 1 = is ∙ up.0 in omega arith) | inr back ↦ (let last = back.1 in absurd (omega arith)) ]
      | inr past ↦ absurd (omega arith)
    ]

other_count : (base w between count : ℕ) (s : store.State) → w < between → CountsIf base w s → count ≡ next_count s.tree.changes → between < 1000000000 → count ≢ base
other_count base w between count s few tells is fits same =
    let it = tells (omega arith) in
    let low = it.low in
    let small = it.small in
    let fewer = it.few in
    elim (next_is s.tree.changes it.small) [
      | inl up ↦ (let one : count ≡ s.tree.changes + 1 = is ∙ up.0 in elim it.either [ inl here ↦ absurd (omega arith) | inr past ↦ absurd (omega arith) ])
      | inr back ↦ (let zero : count ≡ 0 = is ∙ back.0 in
          let last = back.1 in
          elim it.either [ inl here ↦ absurd (omega arith) | inr past ↦ absurd (omega arith) ])
    ]

rises : (base was is w between : ℕ) (s : store.State) (first second : Time) → first ≡ record { seconds = pos was; nanoseconds = base }
    → second ≡ record { seconds = pos is; nanoseconds = next_count s.tree.changes } → was ≤ is → w < between → CountsIf base w s → Rises between first second
rises base was is w between s first second one two forward few tells = record {
  was = was;
  is = is;
  from = ap (λ (t : Time). t.seconds) one;
  to = ap (λ (t : Time). t.seconds) two;
  forward = forward;
  later = λ fits. inr (
      let here : first.nanoseconds ≡ base = ap (λ (t : Time). t.nanoseconds) one in
      let there : second.nanoseconds ≡ next_count s.tree.changes = ap (λ (t : Time). t.nanoseconds) two in
      let more = later_count base w between second.nanoseconds s few tells there (omega arith) in
      omega arith
      );
  other = λ fits. inr (λ same.
      (let here : first.nanoseconds ≡ base = ap (λ (t : Time). t.nanoseconds) one in
      let there : second.nanoseconds ≡ next_count s.tree.changes = ap (λ (t : Time). t.nanoseconds) two in
      other_count base w between second.nanoseconds s few tells there (omega arith) (same ∙ here)));
}

-- What is there has the time.

there_by : (t u : Files) (n : ℕ) → change_of t n < change_of u n → (k : Stored) × (stored_in u.objects n ≡ Some k)
there_by t u n more = go (stored_in u.objects n) refl
  where
    go : (o : Option Stored) → stored_in u.objects n ≡ o → (k : Stored) × (stored_in u.objects n ≡ Some k)
    go None e = (let none : change_of u n ≡ 0 = ap (λ (o : Option Stored). option_map_or (λ (s : Stored). s.object.change) o 0) e in absurd (omega arith))
    go (Some k) e = (k, e)

module _ (time : Object → Time) (n : ℕ) (u : Files) (now : Time) where
  timed : (k : Stored) → stored_in u.objects n ≡ Some k → ((k : Stored) → stored_in u.objects n ≡ Some k → time k.object ≡ now)
      → option_map (λ (s : Stored). time s.object) (stored_in u.objects n) ≡ Some now
  timed k there each = ap (option_map (λ (s : Stored). time s.object)) there ∙ ap Some (each k there)

module _ (start : Start) (earlier : List Arrival) (c : Arrival) (front : List RanOp) (d : RanOp) (back : List RanOp) (more : List Arrival) (e : RanOp) (n m : ℕ) where
  abbrev s : ServerState
  s = reached start earlier

  abbrev base : ℕ
  base = next_count d.before.store.tree.changes

  abbrev between : ℕ
  between = length back + many (state_after s c) more

  sound : IsSound s
  sound = sound_all (new_state start) earlier (sound_new start)

  counted : ops_of s c ≡ front ++ d ∷ back → d.behind.store.tree.changes ≡ base → In e back ⊎ RunsIn (state_after s c) more e → Before base between e
  counted same first place =
      let all = from (Tells base) one_more (CountsIf base) (record {
        run = λ w d r is. (is, λ fits. ran_counts base w d r (omega arith) (is (omega arith)));
        end = λ w stays s is fits. same_counts base w w s (staying stays s) (omega arith) refl (is fits);
      }) start earlier c front d back 0 same (λ r fits. at_first base d.behind.store (next_small d.before.store.tree.changes) first) in
      elim place [
        | inl behind ↦ (let it = while_before base 0 back all.0 e behind in
            let few = here_few it.ran 0 (length back) (many (state_after s c) more) it.few in
            record { ran = it.ran; few = omega arith; tells = it.tells })
        | inr later ↦ (let it = through_before base (after_all one_more 0 back) (state_after s c) more (all.1 more) e later in
            let few = there_few it.ran 0 (length back) (many (state_after s c) more) (after_all one_more 0 back) (counted_all 0 back) it.few in
            record { ran = it.ran; few = omega arith; tells = it.tells })
      ]

  pub both_rise : ops_of s c ≡ front ++ d ∷ back → In e back ⊎ RunsIn (state_after s c) more e → start.profile ≡ Unix → IsChange n d → IsChange m e → TimesOf between n m d e
  both_rise same place unix first second =
      let here = first_there s c front d back same in
      let one = op_at s c sound d here in
      let two = later_at s c front d back more sound same e place in
      let plain : d.before.store.tree.profile ≡ Unix = profile_here start earlier c d here ∙ unix in
      let held = profile_kept Unix in
      let still : e.before.store.tree.profile ≡ Unix =
      later_keeps (λ s. s.tree.profile ≡ Unix) held s c front d back more sound same (held.run d one.run plain) e place in
      let stamp = stamps n d one.run first.ok first.changes in
      let stamp_behind = stamps m e two.ran.run second.ok second.changes in
      let it = counted same stamp.counted place in
      let k = there_by d.before.store.tree d.behind.store.tree n (changes_raise n d one.run first.there first.ok first.changes) in
      let l = there_by e.before.store.tree e.behind.store.tree m (changes_raise m e two.ran.run second.there second.ok second.changes) in
      let up : Rises between (time_at d.before.store one.run.now) (time_at e.before.store two.ran.run.now) =
      rises base (taken s c) two.now it.ran between e.before.store (time_at d.before.store one.run.now) (time_at e.before.store two.ran.run.now)
      (ap (time_at d.before.store) one.at ∙ stamped d.before.store (taken s c) plain) (ap (time_at e.before.store) two.ran.at ∙ stamped e.before.store two.now still)
      two.forward it.few it.tells in
      record {
        metadata = (
          time_at d.before.store one.run.now,
          time_at e.before.store two.ran.run.now,
          timed (λ (o : Object). o.metadata) n d.behind.store.tree _ k.0 k.1 stamp.each,
          timed (λ (o : Object). o.metadata) m e.behind.store.tree _ l.0 l.1 stamp_behind.each,
          up,
        );
        modify = λ sets_none sets_nothing. (
          time_at d.before.store one.run.now,
          time_at e.before.store two.ran.run.now,
          timed (λ (o : Object). o.modify) n d.behind.store.tree _ k.0 k.1 (λ k there. ((modifies n d one.run first.ok first.changes sets_none).each k there).1),
          timed (λ (o : Object). o.modify) m e.behind.store.tree _ l.0 l.1 (λ k there. ((modifies m e two.ran.run second.ok second.changes sets_nothing).each k there).1),
          up,
        );
      }

pub times_rise : TimesRise
times_rise start earlier c front d back more e n m same place unix first second = both_rise start earlier c front d back more e n m same place unix first second

-- What GETATTR tells.

both_text : (n links instance lease : ℕ) (limits : Limits) (profile : Profile) (free : Free) (k : Stored)
    → attributes_text both_times n links instance lease limits profile free k
    ≡ spell_result (Res.GetAttr (record { attrmask = both_times; attr_vals = (nfstime4 k.object.metadata).bytes ++ ((nfstime4 k.object.modify).bytes ++ []) }))
unfolding attributes_text values attributes
both_text n links instance lease limits Exact free k = refl
both_text n links instance lease limits Unix free k = refl

told_time : (time : Object → Time) (n : ℕ) (t : Files) (k : Stored) (is : Time) → stored_in t.objects n ≡ Some k
    → option_map (λ (s : Stored). time s.object) (stored_in t.objects n) ≡ Some is → time k.object ≡ is
told_time time n t k is there told =
    let same : Some (time k.object) ≡ Some is = sym (ap (option_map (λ (s : Stored). time s.object)) there) ∙ told in cc

pub times_are_told : TimesAreTold
times_are_told start records c d n metadata modify there gets first second =
    let s = reached start records in
    let b = d.before.store in
    let it = gets_run n both_times d (op_done s c (sound_all (new_state start) records (sound_new start)) d there).run gets in
    let is : it.kept.object.metadata ≡ metadata = told_time (λ (o : Object). o.metadata) n b.tree it.kept metadata it.there first in
    let also : it.kept.object.modify ≡ modify = told_time (λ (o : Object). o.modify) n b.tree it.kept modify it.there second in
    it.answers
    ∙ (both_text n _ _ _ _ _ _ it.kept
    ∙ (ap (λ (rest : List ℕ). spell_result (Res.GetAttr (record { attrmask = both_times; attr_vals = (nfstime4 it.kept.object.metadata).bytes ++ rest })))
    (append-nil (nfstime4 it.kept.object.modify).bytes)
    ∙ (ap (λ (t : Time). spell_result (Res.GetAttr (record { attrmask = both_times; attr_vals = (nfstime4 t).bytes ++ (nfstime4 it.kept.object.modify).bytes }))) is
    ∙ ap (λ (t : Time). spell_result (Res.GetAttr (record { attrmask = both_times; attr_vals = (nfstime4 metadata).bytes ++ (nfstime4 t).bytes }))) also)))
