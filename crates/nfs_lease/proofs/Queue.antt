-- What each change of the queue does to the map that it stands for, and who is out at its end.
use Rattle.std.proofs.Common.{◌≡◌, ℕ, suc, ◌+◌, ◌-◌, ◌<◌, ◌≤◌, Bool, true, false, cond, eqb, List, [], ◌∷◌, length, take, get_or, Option, Some, None, refl, sym}
use Rattle.std.proofs.{Common.{◌∙◌, ap, arith, inl, inr}, Math.Path.fun_ext, lemmas.Option.{none-some, slice_get-get_or}, lemmas.List.take_all}
use Rattle.std.proofs.lemmas.Bool.{cases_Bool, cases_eq, ne_eqb, eq-eqb, eqb-true, le-ltb}
use Rattle.std.specs.{Prelude.{◌==◌, if◌then◌else◌, is_some, slice_get, nat_lt}, Option.option_map_or, Map.{lookup_entry, remove_entry, set_value}}
use Rattle.lru.specs.LruCache.{lru_cache, promoted, put_entries, last_entry}
use Rattle.nfs_lease.specs.Renewals.{KeptLeases, leases_of, with_lease, with_renewal, without_lease, is_out}
use Rattle.nfs_lease.specs.Queue.{IsNextOut, IsLatest, IsUpTo, IsQueue}

-- the test of a client's entry
abbrev pub is_of : ℕ → ℕ → Bool
is_of client = λ c. eqb client c

-- An entry that goes.

at_removed : (client c : ℕ) (es : List (ℕ × ℕ)) → IsQueue es → leases_of (remove_entry (is_of client) es) c ≡ (if c == client then None else leases_of es c)
at_removed client c [] q = elim (eqb c client) as (λ v. ◌≡◌ {A = Option ℕ} None (cond v None None)) [ true ↦ refl | false ↦ refl ]
at_removed client c (e ∷ es) q =
    elim (cases_eq client e.0) [
      | inl here ↦ elim (cases_eq c e.0) [
        | inl same ↦ rw (eq-eqb client e.0 here, eq-eqb c client (same ∙ sym here), same) q.0
        | inr other ↦ rw (eq-eqb client e.0 here, ne_eqb c e.0 other, ne_eqb c client (λ is. other (is ∙ here))) refl
      ]
      | inr apart ↦ elim (cases_eq c e.0) [
        | inl same ↦ rw (ne_eqb client e.0 apart, eq-eqb c e.0 same, ne_eqb c client (λ is. apart (sym is ∙ same))) refl
        | inr other ↦ rw (ne_eqb client e.0 apart, ne_eqb c e.0 other) (at_removed client c es q.2)
      ]
    ]

none_removed : (client c : ℕ) (es : List (ℕ × ℕ)) → IsQueue es → leases_of es c ≡ None → leases_of (remove_entry (is_of client) es) c ≡ None
none_removed client c es q none = at_removed client c es q
    ∙ rw none (elim (eqb c client) as (λ v. ◌≡◌ {A = Option ℕ} (cond {A = Option ℕ} v None None) None) [ true ↦ refl | false ↦ refl ])

up_to_more : (low high : ℕ) (es : List (ℕ × ℕ)) → low ≤ high → IsUpTo low es → IsUpTo high es
up_to_more low high [] le u = tt
up_to_more low high (e ∷ es) le u = omega arith

up_to_removed : (client latest : ℕ) (es : List (ℕ × ℕ)) → IsQueue es → IsUpTo latest es → IsUpTo latest (remove_entry (is_of client) es)
up_to_removed client latest [] q u = tt
up_to_removed client latest (e ∷ es) q u =
    elim (cases_Bool (eqb client e.0)) [
      | inl here ↦ rw here (up_to_more e.1 latest es u q.1)
      | inr other ↦ rw other u
    ]

pub queue_removed : (client : ℕ) (es : List (ℕ × ℕ)) → IsQueue es → IsQueue (remove_entry (is_of client) es)
queue_removed client [] q = tt
queue_removed client (e ∷ es) q =
    elim (cases_Bool (eqb client e.0)) [
      | inl here ↦ rw here q.2
      | inr other ↦ rw other (none_removed client e.0 es q.2 q.0, up_to_removed client e.1 es q.2 q.1, queue_removed client es q.2)
    ]

pub maps_removed : (client : ℕ) (k : KeptLeases) → IsQueue k → leases_of (remove_entry (is_of client) k) ≡ without_lease (leases_of k) client
maps_removed client k q = fun_ext (λ c. at_removed client c k q)

pub count_removed : (client : ℕ) (es : List (ℕ × ℕ)) → length (remove_entry (is_of client) es) + (if is_some (leases_of es client) then 1 else 0) ≡ length es
count_removed client [] = refl
count_removed client (e ∷ es) =
    let rest = count_removed client es in
    elim (cases_Bool (eqb client e.0)) [
      | inl here ↦ rw here (omega arith)
      | inr other ↦ rw other (omega arith)
    ]

-- An entry that goes to the front.

up_to_latest : (k : KeptLeases) (now : ℕ) → IsLatest (leases_of k) now → IsUpTo now k
up_to_latest k now is = by k refl
  where
    by : (es : List (ℕ × ℕ)) → es ≡ k → IsUpTo now es
    by [] e = tt
    by (x ∷ xs) e = is.each x.0 x.1 (ap (λ es. leases_of es x.0) (sym e) ∙ rw (eq-eqb x.0 x.0 refl) refl)

pub queue_front : (client now : ℕ) (k : KeptLeases) → IsQueue k
    → IsLatest (leases_of k) now → IsQueue ((client, now) ∷ remove_entry (is_of client) k)
queue_front client now k q latest = (
  at_removed client client k q ∙ rw (eq-eqb client client refl) refl,
  up_to_removed client now k q (up_to_latest k now latest),
  queue_removed client k q,
)

at_front : (client now c : ℕ) (es : List (ℕ × ℕ)) → IsQueue es
    → leases_of ((client, now) ∷ remove_entry (is_of client) es) c ≡ (if c == client then Some now else leases_of es c)
at_front client now c es q =
    elim (cases_Bool (eqb c client)) [
      | inl here ↦ rw here refl
      | inr other ↦ rw other (at_removed client c es q ∙ rw other refl)
    ]

pub maps_front : (client now : ℕ) (k : KeptLeases) → IsQueue k
    → leases_of ((client, now) ∷ remove_entry (is_of client) k) ≡ with_lease (leases_of k) client now
maps_front client now k q = fun_ext (λ c. at_front client now c k q)

-- what a search of the entries says of the map
none_renewed : (client : ℕ) (es : List (ℕ × ℕ)) → lookup_entry (is_of client) es ≡ None
    → (leases_of es client ≡ None) × (remove_entry (is_of client) es ≡ es) × ((w : ℕ) → set_value (is_of client) es w ≡ es)
none_renewed client [] none = (refl, refl, λ w. refl)
none_renewed client (e ∷ es) none =
    elim (cases_Bool (eqb client e.0)) [
      | inl here ↦ absurd (let bad : Some e ≡ None = rw here at none in cc)
      | inr other ↦ (let rest = none_renewed client es (rw other at none) in
          rw other (rest.0, ap (λ (xs : List (ℕ × ℕ)). e ∷ xs) rest.1, λ w. ap (λ (xs : List (ℕ × ℕ)). e ∷ xs) (rest.2 w)))
    ]

some_renewed : (client : ℕ) (es : List (ℕ × ℕ)) (x : ℕ × ℕ) → lookup_entry (is_of client) es ≡ Some x → (leases_of es client ≡ Some x.1) × (client ≡ x.0)
some_renewed client [] x some = absurd cc
some_renewed client (e ∷ es) x some =
    elim (cases_Bool (eqb client e.0)) [
      | inl here ↦ (let found : Some e ≡ Some x = rw here at some in let is : e ≡ x = cc in
          rw here (ap (λ (y : ℕ × ℕ). Some y.1) is, eqb-true client e.0 here ∙ ap (λ (y : ℕ × ℕ). y.0) is))
      | inr other ↦ rw other (some_renewed client es x (rw other at some))
    ]

pub put_front : (client now cap : ℕ) (es : List (ℕ × ℕ)) → length es < cap
    → put_entries eqb (lru_cache es cap) client now ≡ (client, now) ∷ remove_entry (is_of client) es
put_front client now cap es few = by (lookup_entry (is_of client) es) refl
  where
    by : (o : Option (ℕ × ℕ)) → lookup_entry (is_of client) es ≡ o
        → option_map_or (λ e. (e.0, now) ∷ remove_entry (is_of client) es) o ((client, now) ∷ take (cap - 1) es)
        ≡ (client, now) ∷ remove_entry (is_of client) es
    by None none = rw (none_renewed client es none).1 (ap (λ (xs : List (ℕ × ℕ)). (client, now) ∷ xs) (take_all (cap - 1) es (omega arith)))
    by (Some x) some = rw (← (some_renewed client es x some).1) refl

-- A renewal.

-- the entry of a client that renews, at the front; where it has none nothing moves
abbrev pub renewed_to : ℕ → ℕ → List (ℕ × ℕ) → List (ℕ × ℕ)
renewed_to client now es = set_value (is_of client) (promoted (is_of client) es) now

pub record Renewed (client now : ℕ) (k es : KeptLeases) : Type 0 where
  pub queue : IsQueue es
  pub map : leases_of es ≡ with_renewal (leases_of k) client now

-- where there is no lease nothing moves
pub rests : (client now : ℕ) (k : KeptLeases) → leases_of k client ≡ None → leases_of k ≡ with_renewal (leases_of k) client now
rests client now k none = fun_ext (λ c. elim (cases_eq c client) [
  | inl is ↦ rw (eq-eqb c client is, is, none) refl
  | inr other ↦ rw (ne_eqb c client other) refl
])

renewal_some : (client now moment : ℕ) (k : KeptLeases) → leases_of k client ≡ Some moment
    → with_lease (leases_of k) client now ≡ with_renewal (leases_of k) client now
renewal_some client now moment k some = fun_ext (λ c. elim (cases_eq c client) [
  | inl is ↦ rw (eq-eqb c client is, is, some) refl
  | inr other ↦ rw (ne_eqb c client other) refl
])

pub renews : (client now : ℕ) (k : KeptLeases) → IsQueue k → IsLatest (leases_of k) now → Renewed client now k (renewed_to client now k)
renews client now k q latest = by (lookup_entry (is_of client) k) refl
  where
    front : ℕ × ℕ → List (ℕ × ℕ)
    front e = e ∷ remove_entry (is_of client) k

    by : (o : Option (ℕ × ℕ)) → lookup_entry (is_of client) k ≡ o
        → Renewed client now k (set_value (is_of client) (option_map_or (λ e. e ∷ remove_entry (is_of client) k) o k) now)
    by None none = let is = none_renewed client k none in rw (is.2 now) (record { queue = q; map = rests client now k is.0 })
    by (Some x) some = let is = some_renewed client k x some in
        rw (eq-eqb client x.0 is.1, ← is.1)
        (record { queue = queue_front client now k q latest; map = maps_front client now k q ∙ renewal_some client now x.1 k is.0 })

-- Who is out at the end.

last_found : (es : List (ℕ × ℕ)) (e : ℕ × ℕ) → IsQueue es → last_entry es ≡ Some e → leases_of es e.0 ≡ Some e.1
last_found [] e q last = absurd cc
last_found (x ∷ []) e q last = let is : x ≡ e = cc in rw (eq-eqb e.0 x.0 (ap (λ (y : ℕ × ℕ). y.0) (sym is))) (ap (λ (y : ℕ × ℕ). Some y.1) is)
last_found (x ∷ y ∷ ys) e q last =
    let rest = last_found (y ∷ ys) e q.2
    (sym (ap (slice_get (x ∷ y ∷ ys)) (let p : suc (length (y ∷ ys)) - 1 ≡ suc (length (y ∷ ys) - 1) = omega arith in p)) ∙ last) in
    rw (ne_eqb e.0 x.0 (λ same. absurd (let bad : Some e.1 ≡ None = sym rest ∙ ap (leases_of (y ∷ ys)) same ∙ q.0 in cc))) rest

oldest : (es : List (ℕ × ℕ)) (e : ℕ × ℕ) → IsQueue es → last_entry es ≡ Some e → (c moment : ℕ) → leases_of es c ≡ Some moment → e.1 ≤ moment
oldest [] e q last c moment there = absurd cc
oldest (x ∷ []) e q last c moment there =
    let is : x ≡ e = cc in
    elim (cases_Bool (eqb c x.0)) [
      | inl here ↦ (let found : Some x.1 ≡ Some moment = rw here at there in
          let m : x.1 ≡ moment = cc in let same : x.1 ≡ e.1 = ap (λ (y : ℕ × ℕ). y.1) is in omega arith)
      | inr other ↦ absurd (let bad : None ≡ Some moment = rw other at there in cc)
    ]
oldest (x ∷ y ∷ ys) e q last c moment there =
    let ends : last_entry (y ∷ ys) ≡ Some e =
    sym (ap (slice_get (x ∷ y ∷ ys)) (let p : suc (length (y ∷ ys)) - 1 ≡ suc (length (y ∷ ys) - 1) = omega arith in p)) ∙ last in
    elim (cases_Bool (eqb c x.0)) [
      | inl here ↦ (let found : Some x.1 ≡ Some moment = rw here at there in let m : x.1 ≡ moment = cc in
          let below = oldest (y ∷ ys) e q.2 ends y.0 y.1 (rw (eq-eqb y.0 y.0 refl) refl) in let up : y.1 ≤ x.1 = q.1 in omega arith)
      | inr other ↦ oldest (y ∷ ys) e q.2 ends c moment (rw other at there)
    ]

-- the queue is empty
pub none_out : (lease : ℕ) (k : KeptLeases) (now : ℕ) → last_entry k ≡ None → IsNextOut lease (leases_of k) now None
none_out lease k now none = by k none
  where
    by : (es : List (ℕ × ℕ)) → last_entry es ≡ None → (c : ℕ) → is_out lease now (leases_of es c) ≡ false
    by [] e = λ c. refl
    by (x ∷ xs) e = absurd (none-some (get_or (x ∷ xs) (length (x ∷ xs) - 1) x) (sym e ∙ slice_get-get_or (x ∷ xs) (length (x ∷ xs) - 1) x (omega arith)))

-- the oldest is out
pub some_out : (lease : ℕ) (k : KeptLeases) (now client moment : ℕ) → IsQueue k → last_entry k ≡ Some (client, moment)
    → nat_lt lease (now - moment) ≡ true → IsNextOut lease (leases_of k) now (Some client)
some_out lease k now client moment q last out = ap (is_out lease now) (last_found k (client, moment) q last) ∙ out

-- the oldest is not, and no other
pub not_out : (lease : ℕ) (k : KeptLeases) (now client moment : ℕ) → IsQueue k
    → last_entry k ≡ Some (client, moment) → now - moment ≤ lease → IsNextOut lease (leases_of k) now None
not_out lease k now client moment q last within c = by (leases_of k c) refl
  where
    by : (o : Option ℕ) → leases_of k c ≡ o → is_out lease now o ≡ false
    by None e = refl
    by (Some m) e = let old = oldest k (client, moment) q last c m e in le-ltb lease (now - m) (omega arith)
