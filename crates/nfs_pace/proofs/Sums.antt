-- By how much a clock rises over sweeps.
use Rattle.std.proofs.Common.{◌≡◌, ℕ, zero, suc, ◌+◌, ◌-◌, ◌*◌, ◌/◌, ◌≤◌, List, [], ◌∷◌, Bool, true, false, if◌then◌else◌, refl, ap, subst, ◌∙◌, arith, max, nat_lt}
use Rattle.std.proofs.lemmas.Bool.{le-ltb}
use Rattle.nfs_pace.specs.{declared.paced.Paced.Paced, Paced.{second, step, made_up, risen, is_idle, sweeps_from, takes, tells, begins}}
use Rattle.nfs_pace.specs.Laws.{Call, Sweep, Tell, Read, Ascends, sweeps, made_more, does, after, IsPaced, AlwaysAddsUp, KeepsWhoRenews}

made_up_most : (n : ℕ) → made_up n ≤ n / 16
made_up_most n = by (nat_lt n second)
  where
    by : (b : Bool) → (if b then n / 16 else 0) ≤ n / 16
    by true = omega arith
    by false = omega arith

more_both : (a b : ℕ) → made_more a + made_more b ≤ made_more (a + b)
more_both a b = omega arith

more_later : (a b : ℕ) → a ≤ b → made_more a ≤ made_more b
more_later a b le = omega (arith, le)

-- what it shows stands within the bounds of the sweep
module _ (p : Paced) (ok : IsPaced risen p) where
  grows : p.last ≤ risen p
  grows = omega arith

  within_step : risen p ≤ p.begun + step p
  within_step = omega (arith, ok.step)

  within_passed : risen p ≤ p.begun + made_more (p.read - p.since)
  within_passed = omega (arith, ok.passed, made_up_most (p.read - p.since))

taken : (p : Paced) (read : ℕ) → p.read ≤ read → IsPaced risen p → IsPaced risen (takes p read)
taken p read le ok = record {
  since = omega (arith, ok.since, le);
  begun = ok.begun;
  told = ok.told;
  step = ok.step;
  passed = omega (arith, ok.passed, more_later (p.read - p.since) (read - p.since) (omega (arith, le)));
}

swept : (p : Paced) (read shown : ℕ) → p.told ≤ shown → IsPaced risen (sweeps_from p read shown)
swept p read shown told = record {
  since = omega arith;
  begun = omega arith;
  told = told;
  step = omega arith;
  passed = omega arith;
}

kept : (p : Paced) (call : Call) → Ascends p.read (call ∷ []) → IsPaced risen p → IsPaced risen (does risen p call)
kept p (Sweep read) h ok =
    let c = taken p read h.0 ok in
    by (is_idle p (risen (takes p read))) (omega (arith, ok.told, grows (takes p read) c))
  where
    by : (b : Bool) → p.told ≤ risen (takes p read)
        → IsPaced risen (sweeps_from p read (if b then max (risen (takes p read)) read else risen (takes p read)))
    by true le = swept p read (max (risen (takes p read)) read) (omega (arith, le))
    by false le = swept p read (risen (takes p read)) le
kept p Tell h ok = record {
  since = ok.since;
  begun = omega (arith, ok.begun, grows p ok);
  told = omega arith;
  step = within_step p ok;
  passed = within_passed p ok;
}
kept p (Read read) h ok = taken p read h.0 ok

not_idle : (p : Paced) (shown : ℕ) → shown ≤ p.told + p.lease → is_idle p shown ≡ false
not_idle p shown le = le-ltb (p.told + p.lease) shown le

-- a sweep begins while what was told last may still be renewed
begun_as : (p : Paced) (read : ℕ) → risen (takes p read) ≤ p.told + p.lease → begins risen p read ≡ sweeps_from p read (risen (takes p read))
begun_as p read le = ap (λ b. sweeps_from p read (if b then max (risen (takes p read)) read else risen (takes p read))) (not_idle p (risen (takes p read)) le)

since_later : (p : Paced) (calls : List Call) → p.since ≤ p.read → Ascends p.read calls → p.since ≤ (after risen p calls).since
since_later p [] le up = omega arith
since_later p (Sweep read ∷ calls) le up =
    let later : read ≤ (after risen (begins risen p read) calls).since = since_later (begins risen p read) calls (omega arith) up.1 in
    omega (arith, le, up.0, later)
since_later p (Tell ∷ calls) le up = since_later (tells risen p) calls le up
since_later p (Read read ∷ calls) le up = since_later (takes p read) calls (omega (arith, le, up.0)) up.1

kept_all : (p : Paced) (calls : List Call) → IsPaced risen p → Ascends p.read calls → IsPaced risen (after risen p calls)
kept_all p [] ok up = ok
kept_all p (Sweep read ∷ calls) ok up = kept_all (begins risen p read) calls (kept p (Sweep read) (up.0, tt) ok) up.1
kept_all p (Tell ∷ calls) ok up = kept_all (tells risen p) calls (kept p Tell tt ok) up
kept_all p (Read read ∷ calls) ok up = kept_all (takes p read) calls (kept p (Read read) (up.0, tt) ok) up.1

told_later : (p : Paced) (calls : List Call) → IsPaced risen p → Ascends p.read calls → p.told ≤ (after risen p calls).told
told_later p [] ok up = omega arith
told_later p (Sweep read ∷ calls) ok up = told_later (begins risen p read) calls (kept p (Sweep read) (up.0, tt) ok) up.1
told_later p (Tell ∷ calls) ok up =
    let later : risen p ≤ (after risen (tells risen p) calls).told = told_later (tells risen p) calls (kept p Tell tt ok) up in
    omega (arith, ok.told, grows p ok, later)
told_later p (Read read ∷ calls) ok up = told_later (takes p read) calls (kept p (Read read) (up.0, tt) ok) up.1

same_lease : (p : Paced) (calls : List Call) → (after risen p calls).lease ≡ p.lease
same_lease p [] = refl
same_lease p (Sweep read ∷ calls) = same_lease (begins risen p read) calls
same_lease p (Tell ∷ calls) = same_lease (tells risen p) calls
same_lease p (Read read ∷ calls) = same_lease (takes p read) calls

by_passed : (p : Paced) (calls : List Call) → IsPaced risen p → Ascends p.read calls
    → p.begun + made_more ((after risen p calls).since - p.since) ≤ p.told + p.lease
    → (after risen p calls).begun ≤ p.begun + made_more ((after risen p calls).since - p.since)
by_passed p [] ok up within = omega arith
by_passed p (Sweep read ∷ calls) ok up within =
    let c = takes p read in
    let fine = taken p read up.0 ok in
    let next = begins risen p read in
    let q = after risen next calls in
    let later : read ≤ q.since = since_later next calls (omega arith) up.1 in
    let first : risen c ≤ p.begun + made_more (read - p.since) = within_passed c fine in
    let wider : made_more (read - p.since) ≤ made_more (q.since - p.since) = more_later (read - p.since) (q.since - p.since) (omega (arith, later)) in
    let own : risen c ≤ p.told + p.lease = omega (arith, first, wider, within) in
    let is : next.begun ≡ risen c = ap (λ x. x.begun) (begun_as p read own) in
    let parts : made_more (read - p.since) + made_more (q.since - read) ≤ made_more ((read - p.since) + (q.since - read)) = more_both (read - p.since) (q.since - read) in
    let whole : (read - p.since) + (q.since - read) ≡ q.since - p.since = omega (arith, later, up.0, ok.since) in
    let sum : made_more (read - p.since) + made_more (q.since - read) ≤ made_more (q.since - p.since) =
    subst (λ n. made_more (read - p.since) + made_more (q.since - read) ≤ made_more n) whole parts in
    let further : q.begun ≤ next.begun + made_more (q.since - read) =
    by_passed next calls (kept p (Sweep read) (up.0, tt) ok) up.1 (omega (arith, is, first, sum, within)) in
    omega (arith, further, is, first, sum)
by_passed p (Tell ∷ calls) ok up within = by_passed (tells risen p) calls (kept p Tell tt ok) up (omega (arith, within, ok.told, grows p ok))
by_passed p (Read read ∷ calls) ok up within = by_passed (takes p read) calls (kept p (Read read) (up.0, tt) ok) up.1 within

one_more : (n s : ℕ) → (1 + n) * s ≡ s + n * s
one_more n s = omega arith

by_steps : (p : Paced) (calls : List Call) → IsPaced risen p → Ascends p.read calls
    → p.begun + sweeps calls * step p ≤ p.told + p.lease → (after risen p calls).begun ≤ p.begun + sweeps calls * step p
by_steps p [] ok up within = omega arith
by_steps p (Sweep read ∷ calls) ok up within =
    let c = takes p read in
    let next = begins risen p read in
    let first : risen c ≤ p.begun + step p = within_step c (taken p read up.0 ok) in
    let count : (1 + sweeps calls) * step p ≡ step p + sweeps calls * step p = one_more (sweeps calls) (step p) in
    let own : risen c ≤ p.told + p.lease = omega (arith, first, count, within) in
    let is : next.begun ≡ risen c = ap (λ x. x.begun) (begun_as p read own) in
    let further : (after risen next calls).begun ≤ next.begun + sweeps calls * step p =
    by_steps next calls (kept p (Sweep read) (up.0, tt) ok) up.1 (omega (arith, is, first, count, within)) in
    omega (arith, further, is, first, count)
by_steps p (Tell ∷ calls) ok up within = by_steps (tells risen p) calls (kept p Tell tt ok) up (omega (arith, within, ok.told, grows p ok))
by_steps p (Read read ∷ calls) ok up within = by_steps (takes p read) calls (kept p (Read read) (up.0, tt) ok) up.1 within

pub always_adds_up : AlwaysAddsUp risen
always_adds_up p calls ok up = (record { passed = by_passed p calls ok up; steps = by_steps p calls ok up }, kept_all p calls ok up)

few_steps : (n s : ℕ) → n ≤ 1 → n * s ≤ s
few_steps zero s le = omega arith
few_steps (suc zero) s le = omega arith
few_steps (suc (suc n)) s le = absurd (omega (arith, le))

pub keeps_who_renews : KeepsWhoRenews risen
keeps_who_renews lease p rest between until ok h up_rest up_between up_until =
    let q = after risen p rest in
    let u = after risen q between in
    let v = after risen u until in
    let q_ok = kept_all p rest ok up_rest in
    let u_ok = kept_all q between q_ok up_between in
    let v_ok = kept_all u until u_ok up_until in
    let q_lease : q.lease ≡ p.lease = same_lease p rest in
    let u_lease : u.lease ≡ p.lease = same_lease q between ∙ q_lease in
    let v_lease : v.lease ≡ p.lease = same_lease u until ∙ u_lease in
    let q_told : p.told ≤ q.told = told_later p rest ok up_rest in
    let u_told : q.told ≤ u.told = told_later q between q_ok up_between in
    let one : sweeps rest * step p ≤ step p = few_steps (sweeps rest) (step p) h.answered in
    let first : q.begun ≤ p.begun + sweeps rest * step p = by_steps p rest ok up_rest (omega (arith, one, ok.begun, h.told)) in
    let long : made_more (u.since - q.since) ≤ made_more (3 * p.lease / 4) = more_later (u.since - q.since) (3 * p.lease / 4) h.soon in
    let second_one : u.begun ≤ q.begun + made_more (u.since - q.since) =
    by_passed q between q_ok up_between (omega (arith, first, one, ok.begun, h.told, long, q_told, q_lease)) in
    let last_one : sweeps until * step u ≤ step u = few_steps (sweeps until) (step u) h.heard in
    let third : v.begun ≤ u.begun + sweeps until * step u =
    by_steps u until u_ok up_until (omega (arith, first, one, ok.begun, h.told, long, second_one, last_one, q_told, u_told, u_lease)) in
    let shown : risen v ≤ v.begun + step v = within_step v v_ok in
    let whole : risen v ≤ p.told + p.lease = omega (arith, first, one, ok.begun, h.told, long, second_one, last_one, third, shown, u_lease, v_lease) in
    omega (arith, whole, h.lasts)
