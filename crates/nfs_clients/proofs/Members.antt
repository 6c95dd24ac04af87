-- What keeps every fact of a roster.
use Rattle.std.proofs.Common.{◌≡◌, ℕ, ◌+◌, ◌<◌, ◌≤◌, Bool, true, false, cond, not, eqb, ltb, List, [], ◌∷◌, ◌++◌, map, length, Option, Some, None, refl, sym}
use Rattle.std.proofs.Common.{◌∙◌, ap, subst, arith, inl, inr, length-append}
use Rattle.std.proofs.{lemmas.Bool.{cases_Bool, cases_eq, ne_eqb, eq-eqb, ltb-true, not-true, and_parts, false≢true}, lemmas.Slice.Eq.bytes_eq-Decides}
use Rattle.std.proofs.lemmas.List.{length-map}
use Rattle.std.specs.Prelude.{◌==◌, if◌then◌else◌, find, filter, is_some, ◌||◌, bytes_eq, option_map, option_and_then}
use Rattle.nfs_xdr.specs.Tables.{IsRising, In}
use Rattle.nfs_xdr.proofs.Lists.{in_filter, in_push, in_map, find_in, none_in, map_same, filter_in, filter_all, length_filter, length_left}
use Rattle.nfs_xdr.proofs.Tables.{IsRising-push, IsRising-map, IsRising-filter, in_once, at_of_in, at_above}
use Rattle.nfs_xdr.specs.Numbers.{next_number}
use Rattle.nfs_clients.specs.declared.created.CreateResult.{CreateResult}
use Rattle.nfs_clients.specs.Roster.{ClientRecord, Roster, IsRoster, first_id, next_id, client_at, is_unconfirmed_of, unconfirmed_of, with_changed, without}
use Rattle.nfs_clients.specs.{Roster.last_counter, ExchangeId.{Ask, has_room, with_new}}
use Rattle.nfs_clients.specs.CreateSession.{uses_up, keeps, with_kept, is_other_confirmed_of, leaving}
use Rattle.nfs_clients.specs.CreateSession.{with_confirmed}
use Rattle.nfs_clients.proofs.Terms.{counter_of, new_client, without_any, confirms}

-- the record that a client's confirmation removes
abbrev pub leaving_by : Roster → Option ClientRecord → Option ℕ
leaving_by t found = option_and_then (λ c. option_map (λ d. d.id) (find (is_other_confirmed_of c) t.records)) found

abbrev pub the_id : ClientRecord → ℕ
the_id c = c.id

abbrev pub change_at : ℕ → (ClientRecord → ClientRecord) → ClientRecord → ClientRecord
change_at n f c = if c.id == n then f c else c

pub roster_filter : (t : Roster) (p : ClientRecord → Bool) → IsRoster t → IsRoster (record t { records = filter p t.records })
roster_filter t p is = record {
  rising = IsRising-filter the_id p (first_id t) (next_id t) t.records is.rising;
  alone = λ c d a b owner mark. is.alone c d (in_filter p t.records c a).0 (in_filter p t.records d b).0 owner mark;
  few = (let le = length_filter p t.records in let few = is.few in omega arith);
  instance = is.instance;
}

-- a change that leaves id, owner and mark
pub record IsMild (f : ClientRecord → ClientRecord) : Type 0 where
  pub id : (c : ClientRecord) → (f c).id ≡ c.id
  pub owner : (c : ClientRecord) → (f c).owner ≡ c.owner
  pub mark : (c : ClientRecord) → (f c).confirmed ≡ c.confirmed

pub mild_map : (f : ClientRecord → ClientRecord) → IsMild f → (t : Roster) → IsRoster t → IsRoster (record t { records = map f t.records })
mild_map f mild t is = record {
  rising = IsRising-map the_id f mild.id (first_id t) (next_id t) t.records is.rising;
  alone = λ c d a b owner mark.
      (let x = in_map f t.records c a in let y = in_map f t.records d b in
      let one : x.0 ≡ y.0 = is.alone x.0 y.0 x.1 y.1
      (sym (mild.owner x.0) ∙ ap (λ (c : ClientRecord). c.owner) (sym x.2) ∙ owner ∙ ap (λ (c : ClientRecord). c.owner) y.2 ∙ mild.owner y.0)
      (sym (mild.mark x.0) ∙ ap (λ (c : ClientRecord). c.confirmed) (sym x.2) ∙ mark ∙ ap (λ (c : ClientRecord). c.confirmed) y.2 ∙ mild.mark y.0) in
      x.2 ∙ ap f one ∙ sym y.2);
  few = (let same = length-map t.records f in let few = is.few in omega arith);
  instance = is.instance;
}

pub mild_at : (f : ClientRecord → ClientRecord) (n : ℕ) → IsMild f → IsMild (change_at n f)
mild_at f n mild = record {
  id = λ c. elim (eqb c.id n) as (λ v. (cond v (f c) c).id ≡ c.id) [ true ↦ mild.id c | false ↦ refl ];
  owner = λ c. elim (eqb c.id n) as (λ v. (cond v (f c) c).owner ≡ c.owner) [ true ↦ mild.owner c | false ↦ refl ];
  mark = λ c. elim (eqb c.id n) as (λ v. (cond v (f c) c).confirmed ≡ c.confirmed) [ true ↦ mild.mark c | false ↦ refl ];
}

pub roster_changed : (f : ClientRecord → ClientRecord) (t : Roster) (n : ℕ) → IsMild f → IsRoster t → IsRoster (with_changed t n f)
roster_changed f t n mild is = mild_map (change_at n f) (mild_at f n mild) t is

pub mild_reclaims : IsMild (λ c. record c { reclaimed = true })
mild_reclaims = record { id = λ _. refl; owner = λ _. refl; mark = λ _. refl }

-- Without a record.

pub roster_without : (t : Roster) (n : ℕ) → IsRoster t → IsRoster (without t n)
roster_without t n is = roster_filter t (λ c. not (eqb c.id n)) is

pub roster_without_any : (t : Roster) (o : Option ℕ) → IsRoster t → IsRoster (without_any t o)
roster_without_any t None is = is
roster_without_any t (Some n) is = roster_without t n is

-- A result that is kept.

pub mild_keeps : (result : CreateResult) → IsMild (keeps result)
mild_keeps result = record {
  id = λ c. elim (uses_up result) as (λ v. (cond v (record c { number = next_number c.number; kept = Some result }) c).id ≡ c.id) [ true ↦ refl | false ↦ refl ];
  owner = λ c. elim (uses_up result) as (λ v. (cond v (record c { number = next_number c.number; kept = Some result }) c).owner ≡ c.owner)
      [ true ↦ refl | false ↦ refl ];
  mark = λ c. elim (uses_up result) as (λ v. (cond v (record c { number = next_number c.number; kept = Some result }) c).confirmed ≡ c.confirmed)
      [ true ↦ refl | false ↦ refl ];
}

pub not_kept : (t : Roster) (n : ℕ) (result : CreateResult) → uses_up result ≡ false → t ≡ with_kept t n result
not_kept t n result not_up = sym (ap (λ xs. record t { records = xs })
    (map_same (change_at n (keeps result)) (λ c. elim (eqb c.id n) as (λ v. cond v (keeps result c) c ≡ c) [ true ↦ rw not_up refl | false ↦ refl ]) t.records))

-- A confirmation.

bytes_same : (xs ys : List ℕ) → xs ≡ ys → bytes_eq xs ys ≡ true
bytes_same xs ys e = (bytes_eq-Decides xs ys).1 e

is_other : (x y : ClientRecord) → y.owner ≡ x.owner → y.confirmed ≡ true → (y.id ≡ x.id → ⊥) → is_other_confirmed_of x y ≡ true
is_other x y owner mark other = rw (bytes_same y.owner x.owner owner, mark, ne_eqb y.id x.id other) refl

pub in_left : (t : Roster) (o : Option ℕ) (y : ClientRecord) → In y (without_any t o).records → In y t.records
in_left t None y there = there
in_left t (Some n) y there = (in_filter (λ c. not (eqb c.id n)) t.records y there).0

not_left : (t : Roster) (n : ℕ) (y : ClientRecord) → In y (without t n).records → y.id ≡ n → ⊥
not_left t n y there same = false≢true (sym (ap not (eq-eqb y.id n same)) ∙ (in_filter (λ c. not (eqb c.id n)) t.records y there).1)

-- what is left has no other confirmed record of the owner
pub only_one_left : (t : Roster) (n : ℕ) → IsRoster t → (x y : ClientRecord) → In x t.records
    → In y (without_any t (leaving t n)).records → x.id ≡ n → y.owner ≡ x.owner → y.confirmed ≡ true → y.id ≡ n
only_one_left t n is x y a b here owner mark =
    elim (cases_eq y.id x.id) [
      | inl same ↦ same ∙ here
      | inr other ↦ by_found (find (is_other_confirmed_of x) t.records) refl other
    ]
  where
    it_is : client_at t n ≡ Some x
    it_is = ap (client_at t) (sym here) ∙ at_of_in the_id (first_id t) (next_id t) t.records x is.rising a

    by_found : (o : Option ClientRecord) → find (is_other_confirmed_of x) t.records ≡ o → (y.id ≡ x.id → ⊥) → y.id ≡ n
    by_found None e other =
        absurd (false≢true (sym (none_in (is_other_confirmed_of x) t.records y e (in_left t (leaving t n) y b)) ∙ is_other x y owner mark other))
    by_found (Some d) e other =
        let leaves : leaving t n ≡ Some d.id = ap (leaving_by t) it_is ∙ ap (option_map the_id) e in
        let b' : In y (without t d.id).records = subst (λ o. In y (without_any t o).records) leaves b in
        let found = find_in (is_other_confirmed_of x) t.records d e in
        let tests = and_parts _ _ found.1 in
        let marked = and_parts _ _ tests.0 in
        let same : y ≡ d = is.alone y d (in_left t (Some d.id) y b') found.0
        (owner ∙ sym ((bytes_eq-Decides d.owner x.owner).0 marked.0)) (mark ∙ sym marked.1) in
        absurd (not_left t d.id y b' (ap the_id same))

pub confirmed_id : (n : ℕ) (c : ClientRecord) → (change_at n confirms c).id ≡ c.id
confirmed_id n c = elim (eqb c.id n) as (λ v. (cond v (confirms c) c).id ≡ c.id) [ true ↦ refl | false ↦ refl ]

-- one record is confirmed, and no other confirmed one has its owner
alone_confirmed : (t : Roster) (n : ℕ) → IsRoster t
    → ((x y : ClientRecord) → In x t.records → In y t.records → x.id ≡ n → y.owner ≡ x.owner → y.confirmed ≡ true → y.id ≡ n)
    → (x y : ClientRecord) → In x t.records → In y t.records → (change_at n confirms x).owner ≡ (change_at n confirms y).owner
    → (change_at n confirms x).confirmed ≡ (change_at n confirms y).confirmed
    → change_at n confirms x ≡ change_at n confirms y
alone_confirmed t n is only x y a b owner mark =
    elim (cases_eq x.id n) [
      | inl x_is ↦ elim (cases_eq y.id n) [
        | inl y_is ↦ ap (change_at n confirms) (in_once the_id (first_id t) (next_id t) t.records x y is.rising a b (x_is ∙ sym y_is))
        | inr y_not ↦ absurd (y_not
            (only x y a b x_is (sym (rw (eq-eqb x.id n x_is, ne_eqb y.id n y_not) at owner)) (sym (rw (eq-eqb x.id n x_is, ne_eqb y.id n y_not) at mark))))
      ]
      | inr x_not ↦ elim (cases_eq y.id n) [
        | inl y_is ↦
            absurd (x_not (only y x b a y_is (rw (ne_eqb x.id n x_not, eq-eqb y.id n y_is) at owner) (rw (ne_eqb x.id n x_not, eq-eqb y.id n y_is) at mark)))
        | inr y_not ↦ rw (ne_eqb x.id n x_not, ne_eqb y.id n y_not)
            (is.alone x y a b (rw (ne_eqb x.id n x_not, ne_eqb y.id n y_not) at owner) (rw (ne_eqb x.id n x_not, ne_eqb y.id n y_not) at mark))
      ]
    ]

pub roster_confirmed : (t : Roster) (n : ℕ) → IsRoster t → IsRoster (with_confirmed t n)
roster_confirmed t n is =
    let rest : Roster = without_any t (leaving t n) in
    let is' : IsRoster rest = roster_without_any t (leaving t n) is in
    let only = λ (x y : ClientRecord) (a : In x rest.records) (b : In y rest.records) (here : x.id ≡ n) (owner : y.owner ≡ x.owner) (mark : y.confirmed ≡ true).
    only_one_left t n is x y (in_left t (leaving t n) x a) b here owner mark in
    record {
      rising = IsRising-map the_id (change_at n confirms) (confirmed_id n) (first_id rest) (next_id rest) rest.records is'.rising;
      alone = λ c d a b owner mark.
          (let x = in_map (change_at n confirms) rest.records c a in let y = in_map (change_at n confirms) rest.records d b in
          x.2 ∙ alone_confirmed rest n is' only x.0 y.0 x.1 y.1
          (ap (λ (c : ClientRecord). c.owner) (sym x.2) ∙ owner ∙ ap (λ (c : ClientRecord). c.owner) y.2)
          (ap (λ (c : ClientRecord). c.confirmed) (sym x.2) ∙ mark ∙ ap (λ (c : ClientRecord). c.confirmed) y.2) ∙ sym y.2);
      few = (let same = length-map rest.records (change_at n confirms) in let few = is'.few in omega arith);
      instance = is'.instance;
    }

-- A new record.

-- no record has the next id
pub fresh : (t : Roster) → IsRoster t → client_at t (next_id t) ≡ None
fresh t is = at_above the_id (first_id t) (next_id t) (next_id t) t.records is.rising (omega arith)

room_few : (some few : Bool) (a b limit : ℕ) → (some || few) ≡ true → (some ≡ true → a < b) → (few ≡ true → b < limit) → a ≤ b → b ≤ limit → a + 1 ≤ limit
room_few true few a b limit e one free le within = let lt = one refl in omega arith
room_few false few a b limit e one free le within = let lt = free e in omega arith

is_unconfirmed : (owner : List ℕ) (d : ClientRecord) → d.owner ≡ owner → d.confirmed ≡ false → is_unconfirmed_of owner d ≡ true
is_unconfirmed owner d same mark = rw (bytes_same d.owner owner same, mark) refl

pub roster_new : (t : Roster) (a : Ask) → IsRoster t → has_room t a.owner ≡ true → IsRoster (with_new t a.owner a.verifier a.uid)
roster_new t a is room =
    let parts = and_parts _ _ room in
    let rest = filter (λ c. not (is_unconfirmed_of a.owner c)) t.records in
    let counter = ltb-true (counter_of t.last) last_counter parts.0 in
    let same : first_id t ≡ first_id (with_new t a.owner a.verifier a.uid) = omega arith in
    record {
      rising = subst (λ low. IsRising the_id low (with_new t a.owner a.verifier a.uid).records (next_id (with_new t a.owner a.verifier a.uid))) same
          (IsRising-push the_id (first_id t) (next_id t) (next_id (with_new t a.owner a.verifier a.uid)) rest (new_client t a.owner a.verifier a.uid) refl (omega arith)
          (IsRising-filter the_id (λ c. not (is_unconfirmed_of a.owner c)) (first_id t) (next_id t) t.records is.rising));
      alone = λ c d there there' owner mark. elim (in_push rest (new_client t a.owner a.verifier a.uid) c there) [
        | inl c_new ↦ elim (in_push rest (new_client t a.owner a.verifier a.uid) d there') [
          | inl d_new ↦ c_new ∙ sym d_new
          | inr d_old ↦
              absurd (still_there t a d d_old (sym owner ∙ ap (λ (c : ClientRecord). c.owner) c_new) (sym mark ∙ ap (λ (c : ClientRecord). c.confirmed) c_new))
        ]
        | inr c_old ↦ elim (in_push rest (new_client t a.owner a.verifier a.uid) d there') [
          | inl d_new ↦
              absurd (still_there t a c c_old (owner ∙ ap (λ (c : ClientRecord). c.owner) d_new) (mark ∙ ap (λ (c : ClientRecord). c.confirmed) d_new))
          | inr d_old ↦ is.alone c d (in_filter (λ c. not (is_unconfirmed_of a.owner c)) t.records c c_old).0
              (in_filter (λ c. not (is_unconfirmed_of a.owner c)) t.records d d_old).0 owner mark
        ]
      ];
      few = (let long : length (rest ++ new_client t a.owner a.verifier a.uid ∷ []) ≡ length rest + 1 = length-append rest (new_client t a.owner a.verifier a.uid ∷ []) in
          let fits = room_few (is_some (unconfirmed_of t a.owner)) (ltb (length t.records) t.most) (length rest) (length t.records) t.most parts.1
          (length_left (is_unconfirmed_of a.owner) t.records) (ltb-true (length t.records) t.most)
          (length_filter (λ c. not (is_unconfirmed_of a.owner c)) t.records) is.few in omega arith);
      instance = (let small = is.instance in omega arith);
    }
  where
    still_there : (t : Roster) (a : Ask) (d : ClientRecord)
        → In d (filter (λ c. not (is_unconfirmed_of a.owner c)) t.records) → d.owner ≡ a.owner → d.confirmed ≡ false → ⊥
    still_there t a d there same mark =
        false≢true (sym (ap not (is_unconfirmed a.owner d same mark)) ∙ (in_filter (λ c. not (is_unconfirmed_of a.owner c)) t.records d there).1)

-- the owner's unconfirmed record goes by its id: it has no other
pub without_unconfirmed : (t : Roster) (owner : List ℕ) → IsRoster t → (o : Option ClientRecord) → unconfirmed_of t owner ≡ o
    → (without_any t (option_map the_id o)).records ≡ filter (λ c. not (is_unconfirmed_of owner c)) t.records
without_unconfirmed t owner is None e =
    sym (filter_all (λ c. not (is_unconfirmed_of owner c)) t.records (λ c there. ap not (none_in (is_unconfirmed_of owner) t.records c e there)))
without_unconfirmed t owner is (Some d) e =
    filter_in (λ c. not (eqb c.id d.id)) (λ c. not (is_unconfirmed_of owner c)) t.records (λ c there. ap not (same_test c there))
  where
    found : In d t.records × (is_unconfirmed_of owner d ≡ true)
    found = find_in (is_unconfirmed_of owner) t.records d e

    same_test : (c : ClientRecord) → In c t.records → eqb c.id d.id ≡ is_unconfirmed_of owner c
    same_test c there = elim (cases_Bool (is_unconfirmed_of owner c)) [
      | inl passes ↦ (let p = and_parts _ _ passes in let q = and_parts _ _ found.1 in
          let one : c ≡ d = is.alone c d there found.0 ((bytes_eq-Decides c.owner owner).0 p.0 ∙ sym ((bytes_eq-Decides d.owner owner).0 q.0))
          (not-true c.confirmed p.1 ∙ sym (not-true d.confirmed q.1)) in
          eq-eqb c.id d.id (ap the_id one) ∙ sym passes)
      | inr fails ↦ ne_eqb c.id d.id (λ same. false≢true (sym fails
          ∙ ap (is_unconfirmed_of owner) (in_once the_id (first_id t) (next_id t) t.records c d is.rising there found.0 same) ∙ found.1)) ∙ sym fails
    ]
