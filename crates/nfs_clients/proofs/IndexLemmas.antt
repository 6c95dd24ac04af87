-- What changes of the records make of the ids of each owner's.
use Rattle.std.proofs.Common.{◌≡◌, ℕ, Bool, true, false, cond, not, eqb, List, [], ◌∷◌, ◌++◌, map, Option, Some, None, refl, sym, ◌∙◌, ap, subst, arith, inl, inr}
use Rattle.std.proofs.{lemmas.Bool.{cases_Bool, cases_eq, ne_eqb, eq-eqb, eqb-true, not-true, and_parts, false≢true}, lemmas.Slice.Eq.bytes_eq-Decides}
use Rattle.std.specs.{Prelude.{◌==◌, if◌then◌else◌, ◌&&◌, filter, find, bytes_eq, option_map, option_and_then, OnErr, Result, Ok, Err, is_err}, Option.option_map_or}
use Rattle.nfs_xdr.specs.Tables.{In, IsRising, record_at, without_record, with_record}
use Rattle.nfs_xdr.proofs.Lists.{in_map, map_in, find_in, none_in, find_none, find_out, find_past, find_push_other, find_push_none, filter_in, filter_all, some_or_none}
use Rattle.nfs_xdr.proofs.Tables.{in_once, in_bounds, at_of_in}
use Rattle.nfs_clients.specs.{declared.owners.Ids.Ids, Filed.{ids_in, ids_without, no_ids, AreIndexed, OwnersAnew}}
use Rattle.nfs_clients.specs.Roster.{ClientRecord, Roster, IsRoster, first_id, next_id, client_at, is_confirmed_of, is_unconfirmed_of, unconfirmed_of, with_changed}
use Rattle.nfs_clients.specs.{ExchangeId.with_new, CreateSession.{is_other_confirmed_of, leaving}}
use Rattle.nfs_clients.proofs.{Members.{the_id, change_at, IsMild, mild_at}, Terms.{new_client, confirms}}

-- Two pairs of ids.
pub ids_same : (a b c d : Option ℕ) → a ≡ b → c ≡ d → ◌≡◌ {A = Ids} (record { confirmed = a; unconfirmed = c }) (record { confirmed = b; unconfirmed = d })
ids_same a b c d e f = ap (λ (x : Option ℕ). record { confirmed = x; unconfirmed = c }) e ∙ ap (λ (x : Option ℕ). record { confirmed = b; unconfirmed = x }) f

pub anew : (xs ys : List ClientRecord) (at bt : List ℕ → Ids) (owner : List ℕ) (ids : Ids) → AreIndexed xs at → OwnersAnew at bt owner ids
    → ids ≡ ids_in ys owner → ((other : List ℕ) → bytes_eq owner other ≡ false → ids_in ys other ≡ ids_in xs other) → AreIndexed ys bt
anew xs ys at bt owner ids is now here others = λ other. elim (cases_Bool (bytes_eq owner other)) [
  | inl same ↦ now other ∙ rw same (here ∙ ap (ids_in ys) ((bytes_eq-Decides owner other).0 same))
  | inr differ ↦ now other ∙ rw differ (is other ∙ sym (others other differ))
]

-- What passes a test.

found_one : (p : ClientRecord → Bool) (xs : List ClientRecord) (d : ClientRecord) → In d xs → p d ≡ true → ((x : ClientRecord) → In x xs → p x ≡ true → x ≡ d) → find p xs ≡ Some d
found_one p xs d there passes all = elim (some_or_none (find p xs)) [
  | inl it ↦ (let f = find_in p xs it.0 it.1 in it.1 ∙ ap (λ (x : ClientRecord). Some x) (all it.0 f.0 f.1))
  | inr none ↦ absurd (false≢true (sym (none_in p xs d none there) ∙ passes))
]

owners_is : (owner : List ℕ) (x : ClientRecord) → bytes_eq x.owner owner ≡ true → x.owner ≡ owner
owners_is owner x e = (bytes_eq-Decides x.owner owner).0 e

is_owner : (owner : List ℕ) (x : ClientRecord) → x.owner ≡ owner → bytes_eq x.owner owner ≡ true
is_owner owner x e = (bytes_eq-Decides x.owner owner).1 e

confirmed_not_un : (o p : List ℕ) (x : ClientRecord) → is_confirmed_of o x ≡ true → not (is_unconfirmed_of p x) ≡ true
confirmed_not_un o p x e = elim (cases_Bool (is_unconfirmed_of p x)) [
  | inl un ↦ absurd (false≢true (sym (not-true x.confirmed (and_parts _ _ un).1) ∙ (and_parts _ _ e).1))
  | inr fails ↦ ap not fails
]

unconfirmed_not : (o p : List ℕ) (x : ClientRecord) → is_unconfirmed_of o x ≡ true → not (is_confirmed_of p x) ≡ true
unconfirmed_not o p x e = elim (cases_Bool (is_confirmed_of p x)) [
  | inl con ↦ absurd (false≢true (sym (not-true x.confirmed (and_parts _ _ e).1) ∙ (and_parts _ _ con).1))
  | inr fails ↦ ap not fails
]

other_owner : (owner other : List ℕ) (x : ClientRecord) → bytes_eq owner other ≡ false → bytes_eq x.owner other ≡ true → bytes_eq x.owner owner ≡ false
other_owner owner other x differ here = elim (cases_Bool (bytes_eq x.owner owner)) [
  | inl same ↦ absurd (false≢true (sym differ ∙ (bytes_eq-Decides owner other).1 (sym (owners_is owner x same) ∙ owners_is other x here)))
  | inr fails ↦ fails
]

spared : (owner other : List ℕ) (p q : Bool) (x : ClientRecord) → bytes_eq owner other ≡ false → (bytes_eq x.owner other && p) ≡ true → not (bytes_eq x.owner owner && q) ≡ true
spared owner other p q x differ here = rw (other_owner owner other x differ (and_parts (bytes_eq x.owner other) p here).0) refl

-- A change that leaves id, owner and mark leaves the ids.

ids_map : (p : ClientRecord → Bool) (f : ClientRecord → ClientRecord) (xs : List ClientRecord)
    → ((x : ClientRecord) → In x xs → (p (f x) ≡ p x) × ((f x).id ≡ x.id)) → option_map the_id (find p (map f xs)) ≡ option_map the_id (find p xs)
ids_map p f [] same = refl
ids_map p f (x ∷ xs) same =
    let here = same x (inl refl) in
    elim (cases_Bool (p x)) [
      | inl holds ↦ rw (here.0 ∙ holds, holds) (ap (λ (n : ℕ). Some n) here.1)
      | inr fails ↦ rw (here.0 ∙ fails, fails) (ids_map p f xs (λ y there. same y (inr there)))
    ]

pub mild_index : (f : ClientRecord → ClientRecord) → IsMild f → (n : ℕ) (xs : List ClientRecord) (at : List ℕ → Ids) → AreIndexed xs at → AreIndexed (with_record the_id xs n f) at
mild_index f mild n xs at is = λ owner.
    let m = mild_at f n mild in
    is owner ∙ sym (ids_same _ _ _ _
    (ids_map (is_confirmed_of owner) (change_at n f) xs (λ x there. (rw (m.owner x, m.mark x) refl, m.id x)))
    (ids_map (is_unconfirmed_of owner) (change_at n f) xs (λ x there. (rw (m.owner x, m.mark x) refl, m.id x))))

-- an id, but for this one
abbrev pub unless_own : ℕ → Option ℕ → Option ℕ
unless_own n None = None
unless_own n (Some other) = if other == n then None else Some other

module _ (t : Roster) (is : IsRoster t) where
  one_confirmed : (owner : List ℕ) (c d : ClientRecord) → In c t.records → In d t.records → is_confirmed_of owner c ≡ true → is_confirmed_of owner d ≡ true → c ≡ d
  one_confirmed owner c d a b p q =
      let x = and_parts _ _ p in let y = and_parts _ _ q in
      is.alone c d a b (owners_is owner c x.0 ∙ sym (owners_is owner d y.0)) (x.1 ∙ sym y.1)

  one_unconfirmed : (owner : List ℕ) (c d : ClientRecord) → In c t.records → In d t.records → is_unconfirmed_of owner c ≡ true → is_unconfirmed_of owner d ≡ true → c ≡ d
  one_unconfirmed owner c d a b p q =
      let x = and_parts _ _ p in let y = and_parts _ _ q in
      is.alone c d a b (owners_is owner c x.0 ∙ sym (owners_is owner d y.0)) (not-true c.confirmed x.1 ∙ sym (not-true d.confirmed y.1))

  -- the only record that passes a test goes by its id
  without_one : (p : ClientRecord → Bool) → ((c d : ClientRecord) → In c t.records → In d t.records → p c ≡ true → p d ≡ true → c ≡ d)
      → (d : ClientRecord) → In d t.records → p d ≡ true → without_record the_id t.records d.id ≡ filter (λ c. not (p c)) t.records
  without_one p one d there passes = filter_in (λ c. not (eqb c.id d.id)) (λ c. not (p c)) t.records (λ c within. ap not (same c within))
    where
      same : (c : ClientRecord) → In c t.records → eqb c.id d.id ≡ p c
      same c within = elim (cases_Bool (p c)) [
        | inl holds ↦ eq-eqb c.id d.id (ap the_id (one c d within there holds passes)) ∙ sym holds
        | inr fails ↦ ne_eqb c.id d.id (λ e. false≢true (sym fails ∙ ap p (in_once the_id (first_id t) (next_id t) t.records c d is.rising within there e) ∙ passes)) ∙ sym fails
      ]

  -- The ids behind a removal.

  pub removed_confirmed : (c : ClientRecord) → In c t.records → c.confirmed ≡ true
      → record { confirmed = None; unconfirmed = (ids_in t.records c.owner).unconfirmed } ≡ ids_in (without_record the_id t.records c.id) c.owner
  removed_confirmed c there mark =
      let left = without_one (is_confirmed_of c.owner) (one_confirmed c.owner) c there (rw (is_owner c.owner c refl, mark) refl) in
      ids_same _ _ _ _
      (sym (ap (option_map the_id) (find_out (is_confirmed_of c.owner) (λ x. not (is_confirmed_of c.owner x)) t.records (λ x e. ap not e))))
      (sym (ap (option_map the_id) (find_past (is_unconfirmed_of c.owner) (λ x. not (is_confirmed_of c.owner x)) t.records (unconfirmed_not c.owner c.owner))))
      ∙ ap (λ xs. ids_in xs c.owner) (sym left)

  pub removed_unconfirmed : (c : ClientRecord) → In c t.records → c.confirmed ≡ false
      → record { confirmed = (ids_in t.records c.owner).confirmed; unconfirmed = None } ≡ ids_in (without_record the_id t.records c.id) c.owner
  removed_unconfirmed c there mark =
      let left = without_one (is_unconfirmed_of c.owner) (one_unconfirmed c.owner) c there (rw (is_owner c.owner c refl, mark) refl) in
      ids_same _ _ _ _
      (sym (ap (option_map the_id) (find_past (is_confirmed_of c.owner) (λ x. not (is_unconfirmed_of c.owner x)) t.records (confirmed_not_un c.owner c.owner))))
      (sym (ap (option_map the_id) (find_out (is_unconfirmed_of c.owner) (λ x. not (is_unconfirmed_of c.owner x)) t.records (λ x e. ap not e))))
      ∙ ap (λ xs. ids_in xs c.owner) (sym left)

  pub removed_ids : (c : ClientRecord) → In c t.records → ids_without (ids_in t.records c.owner) c.confirmed ≡ ids_in (without_record the_id t.records c.id) c.owner
  removed_ids c there = go c.confirmed refl
    where
      go : (b : Bool) → c.confirmed ≡ b → ids_without (ids_in t.records c.owner) b ≡ ids_in (without_record the_id t.records c.id) c.owner
      go true e = removed_confirmed c there e
      go false e = removed_unconfirmed c there e

  spared_all : (owner other : List ℕ) (p : ClientRecord → Bool) → bytes_eq owner other ≡ false
      → ((x : ClientRecord) → is_confirmed_of other x ≡ true → not (p x) ≡ true) → ((x : ClientRecord) → is_unconfirmed_of other x ≡ true → not (p x) ≡ true)
      → ids_in (filter (λ x. not (p x)) t.records) other ≡ ids_in t.records other
  spared_all owner other p differ a b = ids_same _ _ _ _
      (ap (option_map the_id) (find_past (is_confirmed_of other) (λ x. not (p x)) t.records a))
      (ap (option_map the_id) (find_past (is_unconfirmed_of other) (λ x. not (p x)) t.records b))

  pub removed_others : (c : ClientRecord) → In c t.records → (other : List ℕ) → bytes_eq c.owner other ≡ false
      → ids_in (without_record the_id t.records c.id) other ≡ ids_in t.records other
  removed_others c there other differ = elim (cases_Bool c.confirmed) [
    | inl mark ↦ (let left = without_one (is_confirmed_of c.owner) (one_confirmed c.owner) c there (rw (is_owner c.owner c refl, mark) refl) in
        ap (λ xs. ids_in xs other) left ∙ spared_all c.owner other (is_confirmed_of c.owner) differ
        (λ x e. spared c.owner other x.confirmed x.confirmed x differ e) (λ x e. spared c.owner other (not x.confirmed) x.confirmed x differ e))
    | inr mark ↦ (let left = without_one (is_unconfirmed_of c.owner) (one_unconfirmed c.owner) c there (rw (is_owner c.owner c refl, mark) refl) in
        ap (λ xs. ids_in xs other) left ∙ spared_all c.owner other (is_unconfirmed_of c.owner) differ
        (λ x e. spared c.owner other x.confirmed (not x.confirmed) x differ e) (λ x e. spared c.owner other (not x.confirmed) (not x.confirmed) x differ e))
  ]

  -- a record has ids of its owner
  pub has_ids : (c : ClientRecord) → In c t.records → ids_in t.records c.owner ≡ no_ids → ⊥
  has_ids c there none = elim (cases_Bool c.confirmed) [
    | inl mark ↦ (let at = found_one (is_confirmed_of c.owner) t.records c there (rw (is_owner c.owner c refl, mark) refl)
        (λ x a p. one_confirmed c.owner x c a there p (rw (is_owner c.owner c refl, mark) refl)) in
        let bad : Some c.id ≡ None = sym (ap (option_map the_id) at) ∙ ap (λ (i : Ids). i.confirmed) none in absurd cc)
    | inr mark ↦ (let at = found_one (is_unconfirmed_of c.owner) t.records c there (rw (is_owner c.owner c refl, mark) refl)
        (λ x a p. one_unconfirmed c.owner x c a there p (rw (is_owner c.owner c refl, mark) refl)) in
        let bad : Some c.id ≡ None = sym (ap (option_map the_id) at) ∙ ap (λ (i : Ids). i.unconfirmed) none in absurd cc)
  ]

  -- The ids behind a confirmation of a record whose owner has no other confirmed one.

  pub confirmed_ids : (c : ClientRecord) → In c t.records → c.confirmed ≡ false → find (is_confirmed_of c.owner) t.records ≡ None
      → record { confirmed = Some c.id; unconfirmed = None } ≡ ids_in (with_record the_id t.records c.id confirms) c.owner
  confirmed_ids c there mark none =
      let f = change_at c.id confirms in
      let at_c : f c ≡ confirms c = rw (eq-eqb c.id c.id refl) refl in
      let ys = map f t.records in
      let in_ys : In (confirms c) ys = subst (λ (x : ClientRecord). In x ys) at_c (map_in f t.records c there) in
      let con = found_one (is_confirmed_of c.owner) ys (confirms c) in_ys (rw (is_owner c.owner c refl) refl) (only_con c there mark none) in
      let un = find_none (is_unconfirmed_of c.owner) ys (no_un c there mark) in
      ids_same _ _ _ _ (sym (ap (option_map the_id) con)) (sym (ap (option_map the_id) un))
    where
      only_con : (c : ClientRecord) → In c t.records → c.confirmed ≡ false → find (is_confirmed_of c.owner) t.records ≡ None
          → (x : ClientRecord) → In x (map (change_at c.id confirms) t.records) → is_confirmed_of c.owner x ≡ true → x ≡ confirms c
      only_con c there mark none x within passes =
          let from = in_map (change_at c.id confirms) t.records x within in
          elim (cases_eq from.0.id c.id) [
            | inl same ↦ (let is_c = in_once the_id (first_id t) (next_id t) t.records from.0 c is.rising from.1 there same in
                from.2 ∙ rw (eq-eqb from.0.id c.id same) (ap confirms is_c))
            | inr other ↦ (let is_x : x ≡ from.0 = from.2 ∙ rw (ne_eqb from.0.id c.id other) refl in
                absurd (false≢true (sym (none_in (is_confirmed_of c.owner) t.records from.0 none from.1) ∙ ap (is_confirmed_of c.owner) (sym is_x) ∙ passes)))
          ]

      no_un : (c : ClientRecord) → In c t.records → c.confirmed ≡ false → (x : ClientRecord) → In x (map (change_at c.id confirms) t.records) → is_unconfirmed_of c.owner x ≡ false
      no_un c there mark x within =
          let from = in_map (change_at c.id confirms) t.records x within in
          elim (cases_Bool (is_unconfirmed_of c.owner x)) [
            | inl passes ↦ elim (cases_eq from.0.id c.id) [
              | inl same ↦ (let is_x : x ≡ confirms from.0 = from.2 ∙ rw (eq-eqb from.0.id c.id same) refl in
                  absurd (false≢true (sym (not-true x.confirmed (and_parts _ _ passes).1) ∙ ap (λ (x : ClientRecord). x.confirmed) is_x)))
              | inr other ↦ (let is_x : x ≡ from.0 = from.2 ∙ rw (ne_eqb from.0.id c.id other) refl in
                  let one = one_unconfirmed c.owner from.0 c from.1 there (ap (is_unconfirmed_of c.owner) (sym is_x) ∙ passes) (rw (is_owner c.owner c refl, mark) refl) in
                  absurd (other (ap the_id one)))
            ]
            | inr fails ↦ fails
          ]

  pub confirmed_others : (c : ClientRecord) → In c t.records → (other : List ℕ) → bytes_eq c.owner other ≡ false
      → ids_in (with_record the_id t.records c.id confirms) other ≡ ids_in t.records other
  confirmed_others c there other differ = ids_same _ _ _ _
      (ids_map (is_confirmed_of other) (change_at c.id confirms) t.records (λ x a. (test is_confirmed_of x a (λ y e. rw e refl), number x)))
      (ids_map (is_unconfirmed_of other) (change_at c.id confirms) t.records (λ x a. (test is_unconfirmed_of x a (λ y e. rw e refl), number x)))
    where
      number : (x : ClientRecord) → (change_at c.id confirms x).id ≡ x.id
      number x = elim (eqb x.id c.id) as (λ v. (cond v (confirms x) x).id ≡ x.id) [ true ↦ refl | false ↦ refl ]

      test : (p : List ℕ → ClientRecord → Bool) (x : ClientRecord) → In x t.records → ((y : ClientRecord) → bytes_eq y.owner other ≡ false → p other y ≡ false)
          → p other (change_at c.id confirms x) ≡ p other x
      test p x a never = elim (cases_eq x.id c.id) [
        | inl same ↦ (let is_c = in_once the_id (first_id t) (next_id t) t.records x c is.rising a there same in
            let off : bytes_eq x.owner other ≡ false = ap (λ (y : ClientRecord). bytes_eq y.owner other) is_c ∙ differ in
            rw (eq-eqb x.id c.id same) (never (confirms x) off ∙ sym (never x off)))
        | inr apart ↦ rw (ne_eqb x.id c.id apart) refl
      ]

  -- The ids behind a new record.

  pub new_ids : (owner verifier : List ℕ) (uid : ℕ)
      → record { confirmed = (ids_in t.records owner).confirmed; unconfirmed = Some (next_id t) } ≡ ids_in (with_new t owner verifier uid).records owner
  new_ids owner verifier uid =
      let new = new_client t owner verifier uid in
      let rest = filter (λ c. not (is_unconfirmed_of owner c)) t.records in
      ids_same _ _ _ _
      (sym (ap (option_map the_id) (find_push_other (is_confirmed_of owner) rest new (rw (is_owner owner new refl) refl)
      ∙ find_past (is_confirmed_of owner) (λ c. not (is_unconfirmed_of owner c)) t.records (confirmed_not_un owner owner))))
      (sym (ap (option_map the_id) (find_push_none (is_unconfirmed_of owner) rest new
      (find_out (is_unconfirmed_of owner) (λ c. not (is_unconfirmed_of owner c)) t.records (λ x e. ap not e)) (rw (is_owner owner new refl) refl))))

  pub new_others : (owner verifier : List ℕ) (uid : ℕ) (other : List ℕ) → bytes_eq owner other ≡ false
      → ids_in (with_new t owner verifier uid).records other ≡ ids_in t.records other
  new_others owner verifier uid other differ =
      let new = new_client t owner verifier uid in
      let rest = filter (λ c. not (is_unconfirmed_of owner c)) t.records in
      ids_same _ _ _ _
      (ap (option_map the_id) (find_push_other (is_confirmed_of other) rest new (rw differ refl)
      ∙ find_past (is_confirmed_of other) (λ c. not (is_unconfirmed_of owner c)) t.records (λ x e. spared owner other x.confirmed (not x.confirmed) x differ e)))
      (ap (option_map the_id) (find_push_other (is_unconfirmed_of other) rest new (rw differ refl)
      ∙ find_past (is_unconfirmed_of other) (λ c. not (is_unconfirmed_of owner c)) t.records (λ x e. spared owner other (not x.confirmed) (not x.confirmed) x differ e)))

  -- the owner's unconfirmed record goes where a new one came
  pub filed_new : (owner verifier : List ℕ) (uid : ℕ) (o : Option ClientRecord) → unconfirmed_of t owner ≡ o
      → option_map_or (without_record the_id (t.records ++ new_client t owner verifier uid ∷ [])) (option_map the_id o) (t.records ++ new_client t owner verifier uid ∷ [])
      ≡ (with_new t owner verifier uid).records
  filed_new owner verifier uid None e =
      ap (λ xs. xs ++ new_client t owner verifier uid ∷ [])
      (sym (filter_all (λ c. not (is_unconfirmed_of owner c)) t.records (λ c there. ap not (none_in (is_unconfirmed_of owner) t.records c e there))))
  filed_new owner verifier uid (Some d) e =
      let there = find_in (is_unconfirmed_of owner) t.records d e in
      let new = new_client t owner verifier uid in
      let high = in_bounds the_id (first_id t) (next_id t) t.records d is.rising there.0 in
      let apart : not (eqb new.id d.id) ≡ true = ap not (ne_eqb new.id d.id (λ same. absurd (omega arith))) in
      filter_last (λ c. not (eqb c.id d.id)) t.records new apart
      ∙ ap (λ xs. xs ++ new ∷ []) (without_one (is_unconfirmed_of owner) (one_unconfirmed owner) d there.0 there.1)
    where
      filter_last : (p : ClientRecord → Bool) (xs : List ClientRecord) (y : ClientRecord) → p y ≡ true → filter p (xs ++ y ∷ []) ≡ filter p xs ++ y ∷ []
      filter_last p [] y holds = rw holds refl
      filter_last p (x ∷ xs) y holds = elim (cases_Bool (p x)) [
        | inl here ↦ rw here (ap (λ zs. x ∷ zs) (filter_last p xs y holds))
        | inr off ↦ rw off (filter_last p xs y holds)
      ]

  -- The record that a confirmation removes, as the owner's ids have it.

  leaving_none : (c : ClientRecord) → ((x : ClientRecord) → In x t.records → is_confirmed_of c.owner x ≡ true → x.id ≡ c.id) → find (is_other_confirmed_of c) t.records ≡ None
  leaving_none c only = find_none (is_other_confirmed_of c) t.records (λ x there. elim (cases_Bool (is_confirmed_of c.owner x)) [
    | inl holds ↦ rw (holds, eq-eqb x.id c.id (only x there holds)) refl
    | inr fails ↦ rw fails refl
  ])

  pub leaving_is : (n : ℕ) (c : ClientRecord) → client_at t n ≡ Some c → (o : Option ClientRecord) → find (is_confirmed_of c.owner) t.records ≡ o
      → leaving t n ≡ unless_own n (option_map the_id o)
  leaving_is n c at o e =
      let there = find_in (λ x. eqb x.id n) t.records c at in
      let here : c.id ≡ n = eqb-true c.id n there.1 in
      ap (λ (o : Option ClientRecord). leaving_of o) at ∙ by c here o e
    where
      leaving_of : Option ClientRecord → Option ℕ
      leaving_of found = option_and_then (λ c. option_map (λ d. d.id) (find (is_other_confirmed_of c) t.records)) found

      by : (c : ClientRecord) → c.id ≡ n → (o : Option ClientRecord) → find (is_confirmed_of c.owner) t.records ≡ o
          → option_map the_id (find (is_other_confirmed_of c) t.records) ≡ unless_own n (option_map the_id o)
      by c here None e = ap (option_map the_id) (leaving_none c (λ x a holds. absurd (false≢true (sym (none_in (is_confirmed_of c.owner) t.records x e a) ∙ holds))))
      by c here (Some d) e =
          let d_in = find_in (is_confirmed_of c.owner) t.records d e in
          elim (cases_eq d.id n) [
            | inl own ↦ rw (eq-eqb d.id n own) (ap (option_map the_id)
                (leaving_none c (λ x a holds. ap the_id (one_confirmed c.owner x d a d_in.0 holds d_in.1) ∙ own ∙ sym here)))
            | inr other ↦ rw (ne_eqb d.id n other) (ap (option_map the_id) (found_one (is_other_confirmed_of c) t.records d d_in.0
                (rw (d_in.1, ne_eqb d.id c.id (λ same. other (same ∙ here))) refl)
                (λ x a holds. one_confirmed c.owner x d a d_in.0 (and_parts _ _ holds).0 d_in.1)))
          ]

  -- Whole changes.

  named : (n : ℕ) (c : ClientRecord) → client_at t n ≡ Some c → In c t.records × (c.id ≡ n)
  named n c at = let there = find_in (λ x. eqb x.id n) t.records c at in (there.0, eqb-true c.id n there.1)

  pub named_ids : (n : ℕ) (c : ClientRecord) (at : List ℕ → Ids) → client_at t n ≡ Some c → AreIndexed t.records at → at c.owner ≡ no_ids → ⊥
  named_ids n c at here ix none = has_ids c (named n c here).0 (sym (ix c.owner) ∙ none)

  pub removed_index : (n : ℕ) (c : ClientRecord) (at bt : List ℕ → Ids) → client_at t n ≡ Some c → AreIndexed t.records at
      → OwnersAnew at bt c.owner (ids_without (at c.owner) c.confirmed) → AreIndexed (without_record the_id t.records n) bt
  removed_index n c at bt here ix now =
      let there = named n c here in
      subst (λ (k : ℕ). AreIndexed (without_record the_id t.records k) bt) there.1
      (anew t.records (without_record the_id t.records c.id) at bt c.owner (ids_without (at c.owner) c.confirmed) ix now
      (ap (λ (i : Ids). ids_without i c.confirmed) (ix c.owner) ∙ removed_ids c there.0) (removed_others c there.0))

  pub confirmed_index : (n : ℕ) (c : ClientRecord) (at bt : List ℕ → Ids) → client_at t n ≡ Some c → c.confirmed ≡ false → find (is_confirmed_of c.owner) t.records ≡ None
      → AreIndexed t.records at → OwnersAnew at bt c.owner (record { confirmed = Some n; unconfirmed = None }) → AreIndexed (with_record the_id t.records n confirms) bt
  confirmed_index n c at bt here mark none ix now =
      let there = named n c here in
      subst (λ (k : ℕ). AreIndexed (with_record the_id t.records k confirms) bt) there.1
      (anew t.records (with_record the_id t.records c.id confirms) at bt c.owner (record { confirmed = Some n; unconfirmed = None }) ix now
      (ap (λ (k : ℕ). record { confirmed = Some k; unconfirmed = None }) (sym there.1) ∙ confirmed_ids c there.0 mark none) (confirmed_others c there.0))

  pub confirmed_already : (n : ℕ) (c : ClientRecord) → client_at t n ≡ Some c → c.confirmed ≡ true → t ≡ with_changed t n confirms
  confirmed_already n c here mark =
      let there = named n c here in
      sym (ap (λ xs. record t { records = xs }) (all_same (change_at n confirms) t.records (λ x a. elim (cases_eq x.id n) [
        | inl same ↦ (let is_c = in_once the_id (first_id t) (next_id t) t.records x c is.rising a there.0 (same ∙ sym there.1) in
            rw (eq-eqb x.id n same) (ap (λ (b : Bool). record x { confirmed = b }) (sym (ap (λ (y : ClientRecord). y.confirmed) is_c ∙ mark))))
        | inr other ↦ rw (ne_eqb x.id n other) refl
      ])))
    where
      all_same : (f : ClientRecord → ClientRecord) (xs : List ClientRecord) → ((x : ClientRecord) → In x xs → f x ≡ x) → map f xs ≡ xs
      all_same f [] same = refl
      all_same f (x ∷ xs) same = rw (same x (inl refl), all_same f xs (λ y there. same y (inr there))) refl

  pub new_index : (owner verifier : List ℕ) (uid : ℕ) (at bt : List ℕ → Ids) (ids : Option ℕ) → AreIndexed t.records at → ids ≡ (at owner).confirmed
      → OwnersAnew at bt owner (record { confirmed = ids; unconfirmed = Some (next_id t) }) → AreIndexed (with_new t owner verifier uid).records bt
  new_index owner verifier uid at bt ids ix con now =
      anew t.records (with_new t owner verifier uid).records at bt owner (record { confirmed = ids; unconfirmed = Some (next_id t) }) ix now
      (ids_same _ _ _ _ (con ∙ ap (λ (i : Ids). i.confirmed) (ix owner)) refl ∙ new_ids owner verifier uid) (new_others owner verifier uid)

  -- the owner's confirmed record, by its id
  pub confirmed_at : (owner : List ℕ) (n : ℕ) (o : Option ClientRecord) → find (is_confirmed_of owner) t.records ≡ o → Some n ≡ option_map the_id o → record_at the_id t.records n ≡ o
  confirmed_at owner n None e is_n = absurd cc
  confirmed_at owner n (Some d) e is_n =
      let there = find_in (is_confirmed_of owner) t.records d e in
      let same : n ≡ d.id = cc in
      ap (record_at the_id t.records) same ∙ at_of_in the_id (first_id t) (next_id t) t.records d is.rising there.0

-- a record that came goes
pub taken_back : (xs : List ClientRecord) (x : ClientRecord) → IsRising the_id 0 xs x.id → without_record the_id (xs ++ x ∷ []) x.id ≡ xs
taken_back xs x rise =
    let test = λ (y : ClientRecord). not (y.id == x.id) in
    last test xs x (ap not (eq-eqb x.id x.id refl))
    ∙ filter_all test xs (λ y there. (let lower = in_bounds the_id 0 x.id xs y rise there in ap not (ne_eqb y.id x.id (λ same. absurd (omega arith)))))
  where
    last : (p : ClientRecord → Bool) (ys : List ClientRecord) (y : ClientRecord) → p y ≡ false → filter p (ys ++ y ∷ []) ≡ filter p ys
    last p [] y fails = rw fails refl
    last p (z ∷ zs) y fails = elim (cases_Bool (p z)) [ inl here ↦ rw here (ap (λ ws. z ∷ ws) (last p zs y fails)) | inr off ↦ rw off (last p zs y fails) ]

-- what is ensured of a failure holds where there was one
pub put_failed : {A E : Type 0} (r : Result A E) (P : Type 0) → is_err r ≡ true → OnErr r P → P
put_failed (Ok a) P e h = cc
put_failed (Err f) P e h = h
