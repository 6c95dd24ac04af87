-- The end of a client: the objects go that only its opens keep, each at the first open of its file, and then its opens.
use Rattle.std.proofs.Common.{◌≡◌, ℕ, ◌<◌, ◌≤◌, suc, ◌-◌, Bool, true, false, not, List, [], ◌∷◌, Option, Some, None, refl, sym, ◌∙◌, ap, subst, arith, inl, inr}
use Rattle.std.proofs.lemmas.Bool.{cases_Bool, cases_eq, cases_lt, eqb-true, eq-eqb, ne_eqb, lt-ltb, false≢true}
use Rattle.std.specs.{Prelude.{◌==◌, ◌||◌, ◌&&◌, nat_lt, filter, find, is_some}, List.list_any, Option.option_map_or}
use Rattle.nfs_xdr.specs.Tables.{In}
use Rattle.nfs_xdr.proofs.{Lists.{stays_in, find_in, none_in, any_in, filter_all, find_out, none_found, some_or_none}, Tables.{in_once, in_bounds}}
use Rattle.nfs_tree.specs.{declared.stored.Stored.Stored, Files.{root, stored_in, is_there, has_row}, Names.forget}
use Rattle.nfs_tree.proofs.Objects.{stored_dropped}
use Rattle.nfs_opens.specs.{declared.records.OpenState.OpenState, Table.Table, TableInvariants.IsTable}
use Rattle.nfs_opens.proofs.IndexLemmas.{first_least, come_bounds}
use Rattle.nfs_names.specs.{State.{State, with_tree, is_open, is_used}, StoreInvariants.{IsRooted, IsStore}}
use Rattle.nfs_names.specs.Ending.{table_staying, with_opens, without_opens, without_own, staying}
use Rattle.nfs_names.proofs.{StoreInvariants.{rooted, rooted_without}, Staying.{there_in, used_open, used_without, with_objects}}

abbrev pub others : ℕ → ℕ → Bool
others client c = not (c == client)

abbrev pub next_own : ℕ → ℕ → OpenState → Bool
next_own client after o = (o.client == client) && nat_lt after o.number

-- of the files whose first open is the client's and was looked at, those are there that are used without it
abbrev pub IsLeft : ℕ → ℕ → State → Type 0
IsLeft client after s = (n : ℕ) (x : OpenState) → find (λ o. o.file == n) s.opens.opens ≡ Some x → x.client ≡ client → x.number ≤ after
    → is_there s.tree n ≡ true → is_used (without_opens s client) n ≡ true

pub record IsOnItsWay (client after : ℕ) (before s : State) : Type 0 where
  pub opens : s.opens ≡ before.opens
  pub rest : staying (others client) s ≡ staying (others client) before
  pub used : (n : ℕ) → is_there s.tree n ≡ true → is_used s n ≡ true
  pub rooted : IsRooted s.tree
  pub left : IsLeft client after s

pub way_begins : (client : ℕ) (s : State) → IsStore s → IsTable s.opens → IsOnItsWay client 0 s s
way_begins client s is table = record {
  opens = refl;
  rest = refl;
  used = is.used;
  rooted = rooted s is;
  left = λ n x found own le there.
      let low = (in_bounds (λ (o : OpenState). o.number) 1 (suc s.opens.last) s.opens.opens x table.opens (find_in (λ (o : OpenState). o.file == n) s.opens.opens x found).0).0 in
      absurd (omega arith);
}

-- the next open of the client is the only one between
next_is : (client after : ℕ) (s : State) (y x : OpenState) → IsTable s.opens → find (next_own client after) s.opens.opens ≡ Some y → In x s.opens.opens
    → x.client ≡ client → after < x.number → x.number ≤ y.number → x ≡ y
next_is client after s y x table next there own above le =
    let is = find_in (next_own client after) s.opens.opens y next in
    let own_x : (x.client == client) ≡ true = eq-eqb x.client client own in
    let above_x : nat_lt after x.number ≡ true = lt-ltb after x.number above in
    let least = first_least (λ (o : OpenState). o.client) (λ o. o.number) (λ o. o.client == client) client (λ o e. eqb-true o.client client e) 1 (suc s.opens.last)
    s.opens.opens table.opens after 1 s.opens.opens y x table.opens next there (rw (own_x, above_x) refl) in
    in_once (λ (o : OpenState). o.number) 1 (suc s.opens.last) s.opens.opens x y table.opens there is.0 (omega arith)

further : (client after : ℕ) (s : State) (y : OpenState) → IsTable s.opens → IsLeft client after s → find (next_own client after) s.opens.opens ≡ Some y
    → (find (λ o. o.file == y.file) s.opens.opens ≡ Some y → is_there s.tree y.file ≡ true → is_used (without_opens s client) y.file ≡ true)
    → IsLeft client y.number s
further client after s y table left next here n x found own le there =
    elim (cases_lt after x.number) [
      | inr before ↦ left n x found own before there
      | inl above ↦
          (let is = find_in (λ (o : OpenState). o.file == n) s.opens.opens x found in
          let same = next_is client after s y x table next is.0 own above le in
          let file : y.file ≡ n = ap (λ (o : OpenState). o.file) (sym same) ∙ eqb-true x.file n is.1 in
          let first : find (λ (o : OpenState). o.file == y.file) s.opens.opens ≡ Some y =
          ap (λ (k : ℕ). find (λ (o : OpenState). o.file == k) s.opens.opens) file ∙ (found ∙ ap (λ (o : OpenState). Some o) same) in
          subst (λ (k : ℕ). is_used (without_opens s client) k ≡ true) file (here first (ap (is_there s.tree) file ∙ there)))
    ]

gone : (xs : List Stored) (m : ℕ) → is_some (stored_in (filter (λ s. not (s.number == m)) xs) m) ≡ false
gone xs m = ap is_some (find_out (λ (s : Stored). s.number == m) (λ s. not (s.number == m)) xs (λ s e. ap not e))

there_before : (xs : List Stored) (m n : ℕ) → is_some (stored_in (filter (λ s. not (s.number == m)) xs) n) ≡ true → is_some (stored_in xs n) ≡ true
there_before xs m n there =
    elim (cases_eq n m) [
      | inl same ↦ absurd (false≢true (sym (gone xs m) ∙ (ap (λ (k : ℕ). is_some (stored_in (filter (λ s. not (s.number == m)) xs) k)) (sym same) ∙ there)))
      | inr other ↦ ap is_some (sym (stored_dropped xs m n other)) ∙ there
    ]

-- the file of the next open is looked at
pub way_drops : (client after : ℕ) (before s : State) (y : OpenState) → IsTable s.opens → IsOnItsWay client after before s
    → find (next_own client after) s.opens.opens ≡ Some y → IsOnItsWay client y.number before (without_own s client y.file)
way_drops client after before s y table way next =
    elim (cases_Bool (is_used (without_opens s client) y.file)) [
      | inl stays ↦ rw stays (record {
        opens = way.opens;
        rest = way.rest;
        used = way.used;
        rooted = way.rooted;
        left = further client after s y table way.left next (λ first there. stays);
      })
      | inr goes ↦ rw goes (record {
        opens = way.opens;
        rest = rw goes at (used_without s (table_staying (others client) s.opens) (table_staying (others client) s.opens) y.file (λ n e. e)) ∙ way.rest;
        used = λ n there. way.used n (there_before s.tree.objects y.file n there);
        rooted = rw goes at (rooted_without (without_opens s client) y.file way.rooted);
        left = further client after (with_tree s (forget s.tree y.file)) y table
            (λ n x found own le there. way.left n x found own le (there_before s.tree.objects y.file n there)) next
            (λ first there. absurd (false≢true (sym (gone s.tree.objects y.file) ∙ there)));
      })
    ]

-- it is not the first of its file
pub way_passes : (client after : ℕ) (before s : State) (y : OpenState) → IsTable s.opens → IsOnItsWay client after before s
    → find (next_own client after) s.opens.opens ≡ Some y
    → option_map_or (λ o. o.number == y.number) (find (λ o. o.file == y.file) s.opens.opens) false ≡ false → IsOnItsWay client y.number before s
way_passes client after before s y table way next later = record {
  opens = way.opens;
  rest = way.rest;
  used = way.used;
  rooted = way.rooted;
  left = further client after s y table way.left next (λ first there. absurd
      (false≢true (sym later ∙ (ap (λ (o : Option OpenState). option_map_or (λ (o : OpenState). o.number == y.number) o false) first ∙ eq-eqb y.number y.number refl))));
}

by_open : (a r o u : Bool) → a || (r || o) ≡ true → a || (r || u) ≡ false → o ≡ true
by_open true r o u e f = absurd cc
by_open false true o u e f = absurd cc
by_open false false o u e f = e

-- all were looked at
pub way_ends : (client after : ℕ) (before s : State) → IsTable s.opens → IsOnItsWay client after before s → find (next_own client after) s.opens.opens ≡ None
    → s ≡ with_opens (staying (others client) before) before.opens
way_ends client after before s table way none =
    ap (λ (z : State). with_opens z s.opens) (sym (ap (with_objects s (table_staying (others client) s.opens))
    (filter_all (λ (o : Stored). is_used (without_opens s client) o.number) s.tree.objects (λ x there. is_left x.number (there_in s.tree.objects x there)))))
    ∙ (ap (λ (z : State). with_opens z s.opens) way.rest ∙ ap (with_opens (staying (others client) before)) way.opens)
  where
    behind : (x : OpenState) → In x s.opens.opens → x.client ≡ client → x.number ≤ after
    behind x there own = elim (cases_lt after x.number) [
      | inr le ↦ le
      | inl above ↦
          (let own_x : (x.client == client) ≡ true = eq-eqb x.client client own in
          let above_x : nat_lt after x.number ≡ true = lt-ltb after x.number above in
          let next : next_own client after x ≡ true = rw (own_x, above_x) refl in
          absurd (false≢true (sym (none_in (next_own client after) s.opens.opens x none there) ∙ next)))
    ]

    opened : (n : ℕ) (x : OpenState) → find (λ o. o.file == n) s.opens.opens ≡ Some x → is_there s.tree n ≡ true → is_used (without_opens s client) n ≡ true
    opened n x found there =
        let is = find_in (λ (o : OpenState). o.file == n) s.opens.opens x found in
        elim (cases_eq x.client client) [
          | inl own ↦ way.left n x found own (behind x is.0 own) there
          | inr other ↦ used_open (n == root) (has_row s.tree.rows n) (is_open (without_opens s client) n)
              (any_in (λ (o : OpenState). o.file == n) (filter (λ o. not (o.client == client)) s.opens.opens) x
              (stays_in (λ (o : OpenState). not (o.client == client)) s.opens.opens x is.0 (ap not (ne_eqb x.client client other))) is.1)
        ]

    is_left : (n : ℕ) → is_there s.tree n ≡ true → is_used (without_opens s client) n ≡ true
    is_left n there = elim (cases_Bool (is_used (without_opens s client) n)) [
      | inl used ↦ used
      | inr unused ↦
          (let stands = by_open (n == root) (has_row s.tree.rows n) (is_open s n) (is_open (without_opens s client) n) (way.used n there) unused in
          elim (some_or_none (find (λ (o : OpenState). o.file == n) s.opens.opens)) [
            | inl found ↦ opened n found.0 found.1 there
            | inr nowhere ↦ absurd (false≢true (sym (none_found (λ (o : OpenState). o.file == n) s.opens.opens nowhere) ∙ stands))
          ])
    ]

-- each step goes on
pub own_bounds : (client after : ℕ) (t : Table) (y : OpenState) → IsTable t → find (next_own client after) t.opens ≡ Some y
    → suc t.last - y.number < suc t.last - after
own_bounds client after t y is next =
    let bounds = come_bounds (λ (o : OpenState). o.client) (λ o. o.number) (λ o. o.client == client) client (λ o e. eqb-true o.client client e)
    1 (suc t.last) t.opens is.opens after y next in
    let above = bounds.0 in let below = bounds.1 in omega arith

-- an open of the file that is not the client's
pub other_open : (file client : ℕ) (os : List OpenState) → list_any (λ o. (o.file == file) && not (o.client == client)) os
    ≡ list_any (λ o. o.file == file) (filter (λ o. not (o.client == client)) os)
other_open file client [] = refl
other_open file client (o ∷ os) =
    let rest = other_open file client os in
    elim (cases_Bool (not (o.client == client))) [
      | inl other ↦ rw (other, rest) (ap (λ (b : Bool). b || list_any (λ o. o.file == file) (filter (λ o. not (o.client == client)) os)) (both (o.file == file)))
      | inr own ↦ rw (own, rest) (ap (λ (b : Bool). b || list_any (λ o. o.file == file) (filter (λ o. not (o.client == client)) os)) (neither (o.file == file)))
    ]
  where
    both : (b : Bool) → (b && true) ≡ b
    both true = refl
    both false = refl

    neither : (b : Bool) → (b && false) ≡ false
    neither true = refl
    neither false = refl
