-- The run of two changes within a second, and the wrong times, computed.
use Rattle.std.proofs.{Common.{◌≡◌, ℕ, ◌+◌, ◌<◌, pos, [], ◌∷◌, take, Some, refl, sym, ap, subst, arith, inl, inr}, lemmas.Bool.{false≢true, ltb-true}}
use Rattle.nfs_xdr.specs.declared.time.Time.{Time}
use Rattle.nfs_compound.specs.declared.file_args.StableHow.TheVariants.{Unstable}
use Rattle.nfs_results.specs.Items as results
use Rattle.nfs_attrs.specs.Attributes.{values}
use Rattle.nfs_names.specs.{Context.anonymous, GetAttr.get_attr}
use Rattle.nfs_exec.specs.Runs.Ops.{RanOp}
use Rattle.nfs_promises.specs.{Runs.{Requests.words, Points.ops_of}, Locks.LockKeptWorked.last_of, Bytes.{ChangeSeen.Writes, WrittenStaysWorked.writes}}
use Rattle.nfs_promises.specs.Bytes.TimesRise.{Rises, BothRise}
use Rattle.nfs_promises.specs.Bytes.TimesRiseWorked.{made_in_unix, writes_again, asked, at, TimesAreTwo, TimesAreRefused}
use Rattle.nfs_promises.proofs.{Bytes.Dated.sets, Runs.{LastOperation.{nothing, three, last_there}, Computing.computing}}

abbrev write : RanOp
write = last_of nothing (ops_of made_in_unix writes)

abbrev again : RanOp
again = last_of nothing (ops_of asked writes_again)

pub times_are_two : TimesAreTwo
unfolding computing get_attr values results.fattr
times_are_two = record {
  front = take 2 (ops_of made_in_unix writes);
  write = write;
  ops = three nothing (ops_of made_in_unix writes) refl;
  again = again;
  late = inr (inl (last_there nothing (ops_of asked writes_again) 2 refl));
  first = record {
    there = refl;
    ok = refl;
    changes = Writes (record { stateid = anonymous; offset = 0; stable = Unstable; bytes = words (0x7365_656e ∷ []) }) refl refl (ltb-true 0 _ refl);
  };
  second = record {
    there = refl;
    ok = refl;
    changes = Writes (record { stateid = anonymous; offset = 0; stable = Unstable; bytes = words (0x7365_656e ∷ []) }) refl refl (ltb-true 0 _ refl);
  };
  between = refl;
  told = λ d. refl;
  later = λ d. refl;
  gets = λ d. record { is = refl; at = refl; ok = refl };
}

-- The wrong times.

rises_of : (between : ℕ) (first second : Time) → BothRise between (Some first) (Some second) → Rises between first second
rises_of between first second is =
    let one : Some first ≡ Some is.0 = is.2 in
    let same : first ≡ is.0 = cc in
    let two : Some second ≡ Some is.1 = is.3 in
    let also : second ≡ is.1 = cc in
    subst (λ (t : Time). Rises between t second) (sym same) (subst (λ (t : Time). Rises between is.0 t) (sym also) is.4)

in_second : (between a b : ℕ) → a + between < 1000000000 → Rises between (at a) (at b) → a < b
in_second between a b fits r =
    let one : pos 103 ≡ pos r.was = r.from in
    let was : 103 ≡ r.was = cc in
    let two : pos 103 ≡ pos r.is = r.to in
    let is : 103 ≡ r.is = cc in
    elim (r.later (omega arith)) [ inl less ↦ absurd (omega arith) | inr less ↦ less ]

pub times_are_refused : TimesAreRefused
unfolding computing get_attr values results.fattr
times_are_refused = record {
  same = λ d e is. (let less = in_second 6 2 2 (omega arith) (rises_of 6 (at 2) (at 2) is.metadata) in omega arith);
  whole = λ d e is. (let less = in_second 6 2 0 (omega arith) (rises_of 6 (at 2) (at 0) is.metadata) in omega arith);
  modify = λ d e is.
      let both = is.modify (λ a bad. false≢true (ap sets bad)) (λ a bad. false≢true (ap sets bad)) in
      let less = in_second 6 2 2 (omega arith) (rises_of 6 (at 2) (at 2) both) in
      omega arith;
}
