-- The number of a client's record: each result that is kept moves it on by one, and nothing else changes it or what is kept.
use Rattle.std.proofs.Common.{◌≡◌, ◌≢◌, ℕ, ◌+◌, ◌%◌, ◌^◌, ◌-◌, ◌<◌, ◌≤◌, Bool, true, false, cond, not, List, Option, Some, None, refl, sym, ◌∙◌, ap, subst, arith, inl, inr}
use Rattle.std.proofs.lemmas.Bool.{cases_Bool, cases_eq, eqb-true, eq-eqb, ne_eqb}
use Rattle.std.specs.{Prelude.{◌==◌, ◌⊎◌, filter}, Option.option_map_or}
use Rattle.nfs_xdr.specs.{declared.status.Status.Status, Tables.In}
use Rattle.nfs_xdr.proofs.{Lists.{in_filter, in_push, in_map, find_in}, Tables.{in_bounds, at_of_in}}
use Rattle.nfs_xdr.specs.Numbers.{next_number}
use Rattle.nfs_clients.specs.declared.created.CreateResult.{CreateResult}
use Rattle.nfs_clients.specs.Roster.{ClientRecord, Roster, IsRoster, first_id, next_id, client_at, is_unconfirmed_of, with_changed}
use Rattle.nfs_clients.specs.ExchangeId.{Ask, Case, Refuses, Stays, Adds, does, with_new}
use Rattle.nfs_clients.specs.CreateSession.{Again, Misordered, InUse, Runs, verdict_by, status_uses_up, uses_up, keeps, with_kept, leaving, with_confirmed}
use Rattle.nfs_clients.specs.declared.created.CreateResult.TheVariants as results
use Rattle.nfs_clients.proofs.Terms.{new_client, without_any, confirms}
use Rattle.nfs_slots.proofs.TableLemmas.{next_small}

-- Each record of the client's id has the number that is k behind the one that follows this one; and if that is none, the result of this one is kept.
pub record IsAfter (n number k : ℕ) (body : List ℕ) (t : Roster) : Type 0 where
  pub given : n < next_id t
  pub counts : (c : ClientRecord) → In c t.records → c.id ≡ n → c.number ≡ (number + 1 + k) % 2 ^ 32
  pub keeps : (c : ClientRecord) → In c t.records → c.id ≡ n → k ≡ 0 → c.kept ≡ Some (results.Done body)

-- it is at most so many behind
pub record After (n number : ℕ) (body : List ℕ) (most : ℕ) (t : Roster) : Type 0 where
  pub k : ℕ
  pub few : k ≤ most
  pub is : IsAfter n number k body t

pub more : (n number most least : ℕ) (body : List ℕ) (t : Roster) → least ≤ most → After n number body least t → After n number body most t
more n number most least body t le a = record { k = a.k; few = (let few = a.few in omega arith); is = a.is }

-- records go
pub after_fewer : (n number most : ℕ) (body : List ℕ) (t : Roster) (p : ClientRecord → Bool) → After n number body most t
    → After n number body most (record t { records = filter p t.records })
after_fewer n number most body t p a = record {
  k = a.k;
  few = a.few;
  is = record {
    given = a.is.given;
    counts = λ c there same. a.is.counts c (in_filter p t.records c there).0 same;
    keeps = λ c there same none. a.is.keeps c (in_filter p t.records c there).0 same none;
  };
}

-- a change that leaves id, owner, verifier, number and what is kept
pub record IsQuiet (f : ClientRecord → ClientRecord) : Type 0 where
  pub id : (c : ClientRecord) → (f c).id ≡ c.id
  pub owner : (c : ClientRecord) → (f c).owner ≡ c.owner
  pub verifier : (c : ClientRecord) → (f c).verifier ≡ c.verifier
  pub number : (c : ClientRecord) → (f c).number ≡ c.number
  pub kept : (c : ClientRecord) → (f c).kept ≡ c.kept

pub quiet_at : (f : ClientRecord → ClientRecord) (n : ℕ) → IsQuiet f → IsQuiet (λ c. cond (c.id == n) (f c) c)
quiet_at f n q = record {
  id = λ c. elim (c.id == n) as (λ v. (cond v (f c) c).id ≡ c.id) [ true ↦ q.id c | false ↦ refl ];
  owner = λ c. elim (c.id == n) as (λ v. (cond v (f c) c).owner ≡ c.owner) [ true ↦ q.owner c | false ↦ refl ];
  verifier = λ c. elim (c.id == n) as (λ v. (cond v (f c) c).verifier ≡ c.verifier) [ true ↦ q.verifier c | false ↦ refl ];
  number = λ c. elim (c.id == n) as (λ v. (cond v (f c) c).number ≡ c.number) [ true ↦ q.number c | false ↦ refl ];
  kept = λ c. elim (c.id == n) as (λ v. (cond v (f c) c).kept ≡ c.kept) [ true ↦ q.kept c | false ↦ refl ];
}

-- the mark of a confirmation
quiet_mark : IsQuiet confirms
quiet_mark = record { id = λ c. refl; owner = λ c. refl; verifier = λ c. refl; number = λ c. refl; kept = λ c. refl }

-- What holds of the records whatever comes that asks for no session of the client.
pub record IsCarried (n : ℕ) (P : Roster → Type 0) : Type 0 where
  pub fewer : (t : Roster) (p : ClientRecord → Bool) → P t → P (record t { records = filter p t.records })
  pub quiet : (t : Roster) (at : ℕ) (f : ClientRecord → ClientRecord) → IsQuiet f → P t → P (with_changed t at f)
  pub other : (t : Roster) (at : ℕ) (result : CreateResult) → at ≢ n → P t → P (with_kept t at result)
  pub new : (t : Roster) (ask : Ask) → P t → P (with_new t ask.owner ask.verifier ask.uid)

pub after_quiet : (n number most at : ℕ) (body : List ℕ) (t : Roster) (f : ClientRecord → ClientRecord) → IsQuiet f → After n number body most t
    → After n number body most (with_changed t at f)
after_quiet n number most at body t f quiet a =
    let q = quiet_at f at quiet in
    record {
      k = a.k;
      few = a.few;
      is = record {
        given = a.is.given;
        counts = λ c there same. (let was = in_map (λ c. cond (c.id == at) (f c) c) t.records c there in
            ap (λ (c : ClientRecord). c.number) was.2 ∙ (q.number was.0
            ∙ a.is.counts was.0 was.1 (sym (q.id was.0) ∙ (ap (λ (c : ClientRecord). c.id) (sym was.2) ∙ same))));
        keeps = λ c there same none. (let was = in_map (λ c. cond (c.id == at) (f c) c) t.records c there in
            ap (λ (c : ClientRecord). c.kept) was.2 ∙ (q.kept was.0
            ∙ a.is.keeps was.0 was.1 (sym (q.id was.0) ∙ (ap (λ (c : ClientRecord). c.id) (sym was.2) ∙ same)) none));
      };
    }

-- a result of another's number
keeps_id : (at : ℕ) (result : CreateResult) (c : ClientRecord) → (cond (c.id == at) (keeps result c) c).id ≡ c.id
keeps_id at result c = elim (c.id == at) as (λ v. (cond v (keeps result c) c).id ≡ c.id) [
  | true ↦ elim (uses_up result) as (λ v. (cond v (record c { number = next_number c.number; kept = Some result }) c).id ≡ c.id) [ true ↦ refl | false ↦ refl ]
  | false ↦ refl
]

pub after_other : (n number most at : ℕ) (body : List ℕ) (t : Roster) (result : CreateResult) → at ≢ n → After n number body most t
    → After n number body most (with_kept t at result)
after_other n number most at body t result other a = record {
  k = a.k;
  few = a.few;
  is = record {
    given = a.is.given;
    counts = λ c there same. (let was = in_map (λ c. cond (c.id == at) (keeps result c) c) t.records c there in
        let id : was.0.id ≡ n = sym (keeps_id at result was.0) ∙ (ap (λ (c : ClientRecord). c.id) (sym was.2) ∙ same) in
        let still : c ≡ was.0 = was.2 ∙ ap (λ v. cond v (keeps result was.0) was.0) (ne_eqb was.0.id at (λ e. other (sym e ∙ id))) in
        ap (λ (c : ClientRecord). c.number) still ∙ a.is.counts was.0 was.1 id);
    keeps = λ c there same none. (let was = in_map (λ c. cond (c.id == at) (keeps result c) c) t.records c there in
        let id : was.0.id ≡ n = sym (keeps_id at result was.0) ∙ (ap (λ (c : ClientRecord). c.id) (sym was.2) ∙ same) in
        let still : c ≡ was.0 = was.2 ∙ ap (λ v. cond v (keeps result was.0) was.0) (ne_eqb was.0.id at (λ e. other (sym e ∙ id))) in
        ap (λ (c : ClientRecord). c.kept) still ∙ a.is.keeps was.0 was.1 id none);
  };
}

-- a result of its own
own_kept : (n number k : ℕ) (body : List ℕ) (t : Roster) (result : CreateResult) (used : Bool) → uses_up result ≡ used → IsAfter n number k body t
    → IsAfter n number (k + cond used 1 0) body (with_kept t n result)
own_kept n number k body t result false e is = record {
  given = is.given;
  counts = λ c there same. (let was = in_map (λ c. cond (c.id == n) (keeps result c) c) t.records c there in
      let still : c ≡ was.0 = was.2 ∙ nothing was.0 (was.0.id == n) in
      let count = is.counts was.0 was.1 (ap (λ (c : ClientRecord). c.id) (sym still) ∙ same) in
      ap (λ (c : ClientRecord). c.number) still ∙ (count ∙ ap (λ n. (number + 1 + n) % 2 ^ 32) (omega arith)));
  keeps = λ c there same none. (let was = in_map (λ c. cond (c.id == n) (keeps result c) c) t.records c there in
      let still : c ≡ was.0 = was.2 ∙ nothing was.0 (was.0.id == n) in
      ap (λ (c : ClientRecord). c.kept) still ∙ is.keeps was.0 was.1 (ap (λ (c : ClientRecord). c.id) (sym still) ∙ same) (omega arith));
}
  where
    nothing : (c : ClientRecord) (v : Bool) → cond v (keeps result c) c ≡ c
    nothing c true = rw e refl
    nothing c false = refl
own_kept n number k body t result true e is = record {
  given = is.given;
  counts = λ c there same. (let was = in_map (λ c. cond (c.id == n) (keeps result c) c) t.records c there in
      let id : was.0.id ≡ n = sym (keeps_id n result was.0) ∙ (ap (λ (c : ClientRecord). c.id) (sym was.2) ∙ same) in
      let moved : c ≡ keeps result was.0 = was.2 ∙ ap (λ v. cond v (keeps result was.0) was.0) (eq-eqb was.0.id n id) in
      let next : c.number ≡ next_number was.0.number = ap (λ (c : ClientRecord). c.number) moved ∙ used_number was.0 in
      let count = is.counts was.0 was.1 id in
      next ∙ (ap next_number count ∙ step number k));
  keeps = λ c there same none. absurd (omega arith);
}
  where
    used_number : (c : ClientRecord) → (keeps result c).number ≡ next_number c.number
    used_number c = ap (λ v. (cond v (record c { number = next_number c.number; kept = Some result }) c).number) e

    step : (number k : ℕ) → next_number ((number + 1 + k) % 2 ^ 32) ≡ (number + 1 + (k + 1)) % 2 ^ 32
    step number k = omega arith

pub after_own : (n number most : ℕ) (body : List ℕ) (t : Roster) (at : ℕ) (result : CreateResult) → After n number body most t
    → After n number body (most + 1) (with_kept t at result)
after_own n number most body t at result a = elim (cases_eq at n) [
  | inl here ↦ (let k = a.k + cond (uses_up result) 1 0 in
      subst (λ m. After n number body (most + 1) (with_kept t m result)) (sym here)
      (record { k = k; few = at_most (uses_up result); is = own_kept n number a.k body t result (uses_up result) refl a.is }))
  | inr other ↦ more n number (most + 1) most body (with_kept t at result) (omega arith) (after_other n number most at body t result other a)
]
  where
    at_most : (v : Bool) → a.k + cond v 1 0 ≤ most + 1
    at_most true = let few = a.few in omega arith
    at_most false = let few = a.few in omega arith

-- a new client
pub after_new : (n number most : ℕ) (body : List ℕ) (t : Roster) (ask : Ask) → After n number body most t → After n number body most (with_new t ask.owner ask.verifier ask.uid)
after_new n number most body t ask a =
    let p : ClientRecord → Bool = λ c. not (is_unconfirmed_of ask.owner c) in
    let low = a.is.given in
    record {
      k = a.k;
      few = a.few;
      is = record {
        given = omega arith;
        counts = λ c there same. elim (in_push (filter p t.records) (new_client t ask.owner ask.verifier ask.uid) c there) [
          | inl new ↦ (let id = ap (λ (c : ClientRecord). c.id) new in absurd (omega arith))
          | inr old ↦ a.is.counts c (in_filter p t.records c old).0 same
        ];
        keeps = λ c there same none. elim (in_push (filter p t.records) (new_client t ask.owner ask.verifier ask.uid) c there) [
          | inl new ↦ (let id = ap (λ (c : ClientRecord). c.id) new in absurd (omega arith))
          | inr old ↦ a.is.keeps c (in_filter p t.records c old).0 same none
        ];
      };
    }

pub after_carried : (n number most : ℕ) (body : List ℕ) → IsCarried n (After n number body most)
after_carried n number most body = record {
  fewer = after_fewer n number most body;
  quiet = λ t at f quiet a. after_quiet n number most at body t f quiet a;
  other = λ t at result other a. after_other n number most at body t result other a;
  new = λ t ask a. after_new n number most body t ask a;
}

module _ (n : ℕ) (P : Roster → Type 0) (held : IsCarried n P) where
  pub carried_case : (t : Roster) (ask : Ask) (k : Case) → P t → P (does t ask k).after
  carried_case t ask (Refuses fault) a = a
  carried_case t ask (Stays c) a = a
  carried_case t ask Adds a = held.new t ask a

  -- a confirmation, behind which another record of its owner may be gone
  carried_gone : (t : Roster) (o : Option ℕ) → P t → P (without_any t o)
  carried_gone t None a = a
  carried_gone t (Some gone) a = held.fewer t (λ c. not (c.id == gone)) a

  pub carried_confirmed : (t : Roster) (at : ℕ) → P t → P (with_confirmed t at)
  carried_confirmed t at a =
      held.quiet (without_any t (leaving t at)) at confirms quiet_mark (carried_gone t (leaving t at) a)

-- What a number comes to.

pub record IsAgain (t : Roster) (n number : ℕ) (result : CreateResult) : Type 0 where
  pub client : ClientRecord
  pub found : client_at t n ≡ Some client
  pub before : next_number number ≡ client.number
  pub kept : client.kept ≡ Some result

pub record IsNext (t : Roster) (n number : ℕ) : Type 0 where
  pub client : ClientRecord
  pub found : client_at t n ≡ Some client
  pub expected : number ≡ client.number

again_by : (k : Option CreateResult) (result : CreateResult) → option_map_or Again k Misordered ≡ Again result → k ≡ Some result
again_by None result e = absurd cc
again_by (Some r) result e = (let same : r ≡ result = cc in ap (λ r. Some r) same)

user_again : (v : Bool) (result : CreateResult) → cond v Runs InUse ≡ Again result → ⊥
user_again true result e = absurd cc
user_again false result e = absurd cc

pub verdict_again : (t : Roster) (n number uid : ℕ) (result : CreateResult) (o : Option ClientRecord) → client_at t n ≡ o → verdict_by o number uid ≡ Again result
    → IsAgain t n number result
verdict_again t n number uid result None at e = absurd cc
verdict_again t n number uid result (Some c) at e = elim (cases_Bool (number == c.number)) [
  | inl here ↦ absurd (user_again (c.uid == uid) result (rw here at e))
  | inr other ↦ elim (cases_Bool (next_number number == c.number)) [
    | inl before ↦ record { client = c; found = at; before = eqb-true _ _ before; kept = again_by c.kept result (rw (other, before) at e) }
    | inr none ↦ absurd (let bad : Misordered ≡ Again result = rw (other, none) at e in cc)
  ]
]

none_runs : (k : Option CreateResult) → option_map_or Again k Misordered ≡ Runs → ⊥
none_runs None e = absurd cc
none_runs (Some r) e = absurd cc

pub verdict_next : (t : Roster) (n number uid : ℕ) (o : Option ClientRecord) → client_at t n ≡ o → verdict_by o number uid ≡ Runs → IsNext t n number
verdict_next t n number uid None at e = absurd cc
verdict_next t n number uid (Some c) at e = elim (cases_Bool (number == c.number)) [
  | inl here ↦ record { client = c; found = at; expected = eqb-true _ _ here }
  | inr other ↦ elim (cases_Bool (next_number number == c.number)) [
    | inl before ↦ absurd (none_runs c.kept (rw (other, before) at e))
    | inr none ↦ absurd (let bad : Misordered ≡ Runs = rw (other, none) at e in cc)
  ]
]

-- Behind a number that was answered, and behind its repeat.

one_record : (t : Roster) (n : ℕ) (c d : ClientRecord) → IsRoster t → client_at t n ≡ Some c → In d t.records → d.id ≡ n → d ≡ c
one_record t n c d is found there same =
    (let at : client_at t d.id ≡ Some d = at_of_in (λ (c : ClientRecord). c.id) (first_id t) (next_id t) t.records d is.rising there in
    let both : Some d ≡ Some c = sym at ∙ (ap (client_at t) same ∙ found) in cc)

was_given : (t : Roster) (n : ℕ) (c : ClientRecord) → IsRoster t → client_at t n ≡ Some c → n < next_id t
was_given t n c is found =
    let there = find_in (λ (c : ClientRecord). c.id == n) t.records c found in
    let within = in_bounds (λ (c : ClientRecord). c.id) (first_id t) (next_id t) t.records c is.rising there.0 in
    let same = eqb-true c.id n there.1 in let high = within.1 in omega arith

pub after_again : (t : Roster) (n number : ℕ) (body : List ℕ) → IsRoster t → IsAgain t n number (results.Done body) → After n number body 0 t
after_again t n number body is again = record {
  k = 0;
  few = omega arith;
  is = record {
    given = was_given t n again.client is again.found;
    counts = λ c there same. (let one = one_record t n again.client c is again.found there same in
        ap (λ (c : ClientRecord). c.number) one ∙ (sym again.before ∙ ap (λ n. n % 2 ^ 32) (omega arith)));
    keeps = λ c there same none. ap (λ (c : ClientRecord). c.kept) (one_record t n again.client c is again.found there same) ∙ again.kept;
  };
}

confirm_number : (at : ℕ) (c : ClientRecord) → (cond (c.id == at) (confirms c) c).number ≡ c.number
confirm_number at c = elim (c.id == at) as (λ v. (cond v (confirms c) c).number ≡ c.number) [ true ↦ refl | false ↦ refl ]

confirm_id : (at : ℕ) (c : ClientRecord) → (cond (c.id == at) (confirms c) c).id ≡ c.id
confirm_id at c = elim (c.id == at) as (λ v. (cond v (confirms c) c).id ≡ c.id) [ true ↦ refl | false ↦ refl ]

in_rest : (t : Roster) (o : Option ℕ) (c : ClientRecord) → In c (without_any t o).records → In c t.records
in_rest t None c there = there
in_rest t (Some gone) c there = (in_filter (λ (c : ClientRecord). not (c.id == gone)) t.records c there).0

rest_given : (t : Roster) (o : Option ℕ) (n : ℕ) → n < next_id t → n < next_id (without_any t o)
rest_given t None n lt = lt
rest_given t (Some gone) n lt = lt

-- a record behind the confirmation that keeps a result was one before it
record WasBefore (t : Roster) (n : ℕ) (body : List ℕ) (c : ClientRecord) : Type 0 where
  pub before : ClientRecord
  pub there : In before t.records
  pub id : before.id ≡ n
  pub number : c.number ≡ next_number before.number
  pub kept : c.kept ≡ Some (results.Done body)

was_before : (t : Roster) (n : ℕ) (body : List ℕ) (c : ClientRecord) → In c (with_kept (with_confirmed t n) n (results.Done body)).records → c.id ≡ n → WasBefore t n body c
was_before t n body c there same =
    let kept = in_map (λ c. cond (c.id == n) (keeps (results.Done body) c) c) (with_confirmed t n).records c there in
    let mine : kept.0.id ≡ n = sym (keeps_id n (results.Done body) kept.0) ∙ (ap (λ (c : ClientRecord). c.id) (sym kept.2) ∙ same) in
    let is : c ≡ keeps (results.Done body) kept.0 = kept.2 ∙ rw (eq-eqb kept.0.id n mine) refl in
    let was = in_map (λ c. cond (c.id == n) (confirms c) c) (without_any t (leaving t n)).records kept.0 kept.1 in
    record {
      before = was.0;
      there = in_rest t (leaving t n) was.0 was.1;
      id = sym (confirm_id n was.0) ∙ (ap (λ (c : ClientRecord). c.id) (sym was.2) ∙ mine);
      number = ap (λ (c : ClientRecord). c.number) is ∙ ap next_number (ap (λ (c : ClientRecord). c.number) was.2 ∙ confirm_number n was.0);
      kept = ap (λ (c : ClientRecord). c.kept) is;
    }

pub after_next : (t : Roster) (n number : ℕ) (body : List ℕ) → IsRoster t → IsNext t n number
    → After n number body 0 (with_kept (with_confirmed t n) n (results.Done body))
after_next t n number body is next = record {
  k = 0;
  few = omega arith;
  is = record {
    given = rest_given t (leaving t n) n (was_given t n next.client is next.found);
    counts = λ c there same. (let was = was_before t n body c there same in
        let one = one_record t n next.client was.before is next.found was.there was.id in
        was.number ∙ (ap next_number (ap (λ (c : ClientRecord). c.number) one ∙ sym next.expected) ∙ ap (λ n. n % 2 ^ 32) (omega arith)));
    keeps = λ c there same none. (was_before t n body c there same).kept;
  };
}

-- It is not expected again before 2^32 - 1 others were, and what is kept under it is its own.

pub not_next : (t : Roster) (n number most : ℕ) (body : List ℕ) → After n number body most t → most < 2 ^ 32 - 1 → IsNext t n number → ⊥
not_next t n number most body a few next =
    let there = find_in (λ (c : ClientRecord). c.id == n) t.records next.client next.found in
    let count = a.is.counts next.client there.0 (eqb-true next.client.id n there.1) in
    apart number a.k next.client.number (let le = a.few in omega arith) next.expected count
  where
    apart : (number k at : ℕ) → k < 2 ^ 32 - 1 → number ≡ at → at ≡ (number + 1 + k) % 2 ^ 32 → ⊥
    apart number k at lt same count = absurd (omega arith)

pub same_kept : (t : Roster) (n number most : ℕ) (body : List ℕ) (result : CreateResult) → After n number body most t → most < 2 ^ 32 - 1
    → IsAgain t n number result → result ≡ results.Done body
same_kept t n number most body result a few again =
    let there = find_in (λ (c : ClientRecord). c.id == n) t.records again.client again.found in
    let mine = eqb-true again.client.id n there.1 in
    let count = a.is.counts again.client there.0 mine in
    let none : a.k ≡ 0 = zero_of number a.k again.client.number (let le = a.few in omega arith) again.before count in
    let both : Some result ≡ Some (results.Done body) = sym again.kept ∙ a.is.keeps again.client there.0 mine none in
    cc
  where
    zero_of : (number k at : ℕ) → k < 2 ^ 32 - 1 → next_number number ≡ at → at ≡ (number + 1 + k) % 2 ^ 32 → k ≡ 0
    zero_of number k at lt same count = omega arith

-- the next number is no repeat
pub next_is_new : (t : Roster) (n number : ℕ) (body : List ℕ) (result : CreateResult) → After n number body 0 t → IsAgain t n (next_number number) result → ⊥
next_is_new t n number body result a again =
    let there = find_in (λ (c : ClientRecord). c.id == n) t.records again.client again.found in
    let count = a.is.counts again.client there.0 (eqb-true again.client.id n there.1) in
    apart number a.k again.client.number a.few again.before count
  where
    apart : (number k at : ℕ) → k ≤ 0 → next_number (next_number number) ≡ at → at ≡ (number + 1 + k) % 2 ^ 32 → ⊥
    apart number k at none next count = absurd (omega arith)

-- Where a record of the client has this number and keeps this result, X.

pub record ToldBy (n at : ℕ) (body : List ℕ) (X : Type 0) (t : Roster) : Type 0 where
  pub small : (c : ClientRecord) → In c t.records → c.id ≡ n → c.number < 2 ^ 32
  pub told : (c : ClientRecord) → In c t.records → c.id ≡ n → c.number ≡ at → c.kept ≡ Some (results.Done body) → X

pub tells_more : (n at : ℕ) (body : List ℕ) (X Y : Type 0) (t : Roster) → (X → Y) → ToldBy n at body X t → ToldBy n at body Y t
tells_more n at body X Y t to is = record { small = is.small; told = λ c there same number kept. to (is.told c there same number kept) }

-- a record of the client in a table before, with the number and the result of this one
abbrev Was : ℕ → Roster → ClientRecord → Type 0
Was n t c = (b : ClientRecord) × In b t.records × (b.id ≡ n) × (c.number ≡ b.number) × (c.kept ≡ b.kept)

tells_as : (n at : ℕ) (body : List ℕ) (X : Type 0) (t left : Roster) → ((c : ClientRecord) → In c left.records → c.id ≡ n → Was n t c)
    → ToldBy n at body X t → ToldBy n at body X left
tells_as n at body X t left was is = record {
  small = λ c there same. (let b = was c there same in subst (λ k. k < 2 ^ 32) (sym b.3) (is.small b.0 b.1 b.2));
  told = λ c there same number kept. (let b = was c there same in is.told b.0 b.1 b.2 (sym b.3 ∙ number) (sym b.4 ∙ kept));
}

was_quiet : (n place : ℕ) (t : Roster) (f : ClientRecord → ClientRecord) → IsQuiet f → (c : ClientRecord) → In c (with_changed t place f).records → c.id ≡ n → Was n t c
was_quiet n place t f quiet c there same =
    let q = quiet_at f place quiet in
    let was = in_map (λ c. cond (c.id == place) (f c) c) t.records c there in (
      was.0,
      was.1,
      sym (q.id was.0) ∙ (ap (λ (c : ClientRecord). c.id) (sym was.2) ∙ same),
      ap (λ (c : ClientRecord). c.number) was.2 ∙ q.number was.0,
      ap (λ (c : ClientRecord). c.kept) was.2 ∙ q.kept was.0,
    )

was_other : (n place : ℕ) (t : Roster) (result : CreateResult) → place ≢ n → (c : ClientRecord) → In c (with_kept t place result).records → c.id ≡ n → Was n t c
was_other n place t result other c there same =
    let was = in_map (λ c. cond (c.id == place) (keeps result c) c) t.records c there in
    let id : was.0.id ≡ n = sym (keeps_id place result was.0) ∙ (ap (λ (c : ClientRecord). c.id) (sym was.2) ∙ same) in
    let still : c ≡ was.0 = was.2 ∙ ap (λ v. cond v (keeps result was.0) was.0) (ne_eqb was.0.id place (λ e. other (sym e ∙ id))) in
    (was.0, was.1, id, ap (λ (c : ClientRecord). c.number) still, ap (λ (c : ClientRecord). c.kept) still)

pub tells_carried : (n at : ℕ) (body : List ℕ) (X : Type 0) → IsCarried n (ToldBy n at body X)
tells_carried n at body X = record {
  fewer = λ t p is. tells_as n at body X t (record t { records = filter p t.records }) (λ c there same. (c, (in_filter p t.records c there).0, same, refl, refl)) is;
  quiet = λ t place f quiet is. tells_as n at body X t (with_changed t place f) (was_quiet n place t f quiet) is;
  other = λ t place result other is. tells_as n at body X t (with_kept t place result) (was_other n place t result other) is;
  new = λ t ask is. record {
    small = λ c there same. elim (in_push (filter (λ c. not (is_unconfirmed_of ask.owner c)) t.records) (new_client t ask.owner ask.verifier ask.uid) c there) [
      | inl new ↦ (let one = ap (λ (c : ClientRecord). c.number) new in omega arith)
      | inr old ↦ is.small c (in_filter (λ c. not (is_unconfirmed_of ask.owner c)) t.records c old).0 same
    ];
    told = λ c there same number kept. elim (in_push (filter (λ c. not (is_unconfirmed_of ask.owner c)) t.records) (new_client t ask.owner ask.verifier ask.uid) c there) [
      | inl new ↦ absurd (let none : None ≡ Some (results.Done body) = ap (λ (c : ClientRecord). c.kept) (sym new) ∙ kept in cc)
      | inr old ↦ is.told c (in_filter (λ c. not (is_unconfirmed_of ask.owner c)) t.records c old).0 same number kept
    ];
  };
}

-- its own number, refused ..
by_refused : (status : Status) (c b : ClientRecord) (v used : Bool)
    → c ≡ cond v (cond used (record b { number = next_number b.number; kept = Some (results.Refused status) }) b) b
    → (c ≡ b) ⊎ ((c.number ≡ next_number b.number) × (c.kept ≡ Some (results.Refused status)))
by_refused status c b true true e = inr (ap (λ (c : ClientRecord). c.number) e, ap (λ (c : ClientRecord). c.kept) e)
by_refused status c b true false e = inl e
by_refused status c b false used e = inl e

pub tells_refused : (n at : ℕ) (body : List ℕ) (X : Type 0) (t : Roster) (status : Status) → ToldBy n at body X t → ToldBy n at body X (with_kept t n (results.Refused status))
tells_refused n at body X t status is = record {
  small = λ c there same. (let was = in_map (λ c. cond (c.id == n) (keeps (results.Refused status) c) c) t.records c there in
      elim (by_refused status c was.0 (was.0.id == n) (status_uses_up status) was.2) [
        | inl still ↦ subst (λ (c : ClientRecord). c.number < 2 ^ 32) (sym still) (is.small was.0 was.1 (ap (λ (c : ClientRecord). c.id) (sym still) ∙ same))
        | inr used ↦ subst (λ k. k < 2 ^ 32) (sym used.0) (next_small was.0.number)
      ]);
  told = λ c there same number kept. (let was = in_map (λ c. cond (c.id == n) (keeps (results.Refused status) c) c) t.records c there in
      elim (by_refused status c was.0 (was.0.id == n) (status_uses_up status) was.2) [
        | inl still ↦ is.told was.0 was.1 (ap (λ (c : ClientRecord). c.id) (sym still) ∙ same) (ap (λ (c : ClientRecord). c.number) (sym still) ∙ number)
            (ap (λ (c : ClientRecord). c.kept) (sym still) ∙ kept)
        | inr used ↦ absurd (let bad : Some (results.Refused status) ≡ Some (results.Done body) = sym used.1 ∙ kept in cc)
      ]);
}

-- .. or done
same_number : (a b : ℕ) → a < 2 ^ 32 → b < 2 ^ 32 → next_number a ≡ next_number b → a ≡ b
same_number a b low lower e = omega arith

pub tells_made : (n number asked : ℕ) (body made : List ℕ) (X Y : Type 0) (t : Roster) → IsRoster t → IsNext t n asked → number < 2 ^ 32
    → (asked ≡ number → made ≡ body → Y) → ToldBy n (next_number number) body X t
    → ToldBy n (next_number number) body Y (with_kept (with_confirmed t n) n (results.Done made))
tells_made n number asked body made X Y t is next low give tells = record {
  small = λ c there same. (let was = was_before t n made c there same in subst (λ k. k < 2 ^ 32) (sym was.number) (next_small was.before.number));
  told = λ c there same at kept. (let was = was_before t n made c there same in
      let one = one_record t n next.client was.before is next.found was.there was.id in
      let as_asked : was.before.number ≡ number =
      same_number was.before.number number (tells.small was.before was.there was.id) low (sym was.number ∙ at) in
      let both : Some (results.Done made) ≡ Some (results.Done body) = sym was.kept ∙ kept in
      give (next.expected ∙ (ap (λ (c : ClientRecord). c.number) (sym one) ∙ as_asked)) cc);
}
