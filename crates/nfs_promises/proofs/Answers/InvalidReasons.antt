-- What is invalid whatever is there, and counters that are at their end.
use Rattle.std.proofs.Common.{◌≡◌, ◌⊎◌, ◌<◌, ◌≤◌, ℕ, suc, Bool, true, false, cond, not, List, Option, Some, None, refl, sym, ◌∙◌, ap, arith, inl, inr}
use Rattle.std.proofs.lemmas.Bool.{and_parts, cases_Bool, eq-eqb, eqb-true, false≢true, ltb-true, ltb-false, not-true, and_cases, not-false, or_cases}
use Rattle.std.specs.{Prelude.{◌==◌, ◌+◌, ◌&&◌, ◌||◌, nat_lt, is_none, is_some, option_map, Ok, ok_or}, Option.option_map_or}
use Rattle.nfs_xdr.specs.declared.status.Status.{Status}
use Rattle.nfs_compound.specs.{declared.attributes.Attributes.Attributes, declared.op.Item.Item}
use Rattle.nfs_tree.specs.{declared.{profile.Profile.TheVariants.Exact, stored.Stored.Stored}, Files.{last_count, stored_in, object_at, is_there, can_change}}
use Rattle.nfs_attrs.specs.{declared.{set_time.SetTime.{SetTime, TheVariants.{Now, Given}}, mask.Mask.Mask}, Attributes.{Settings, settable, supported}}
use Rattle.nfs_attrs.specs.{Mask.{mask_of, within}, Owner.owner_of, Reading.{exceeds, judged_settings, names_nobody, overflows}, SettingsCodec.settings_of}
use Rattle.nfs_opens.specs.{declared.share.Share.Share, Share.{is_neither, is_part, neither, share_of}}
use Rattle.nfs_names.specs.{declared.context.Context.Context, declared.node.Node.Node, Create.attributes_in, State.State}
use Rattle.nfs_files.specs.Ranges.{all_ones}
use Rattle.nfs_promises.specs.Answers.{Asked.Range, Reasons.Reason}
use Rattle.nfs_promises.specs.Answers.Invalid.{ranged, IsNoRange, given_in, IsNoValue, Accessed, Modified, Mode, NamesNobody, Fixed, NoValue, IsSpent, Change, Objects, Cookies}
use Rattle.nfs_promises.proofs.Answers.{Blaming.{Blames, bool_blames}}

-- one of two does not hold
pub never_both : (a b : Bool) → not (a && b) ≡ true → (a ≡ false) ⊎ (b ≡ false)
never_both a b e = and_cases a b (not-true (a && b) e)

-- what is taken out of an option is there
pub ok_some : {A : Type 0} (o : Option A) (f : Status) (a : A) → ok_or o f ≡ Ok a → o ≡ Some a
ok_some None f a e = absurd cc
ok_some (Some b) f a e = (let same : b ≡ a = cc in ap Some same)

-- Ranges and shares.

pub no_range : (i : Item) (a : Range) → ranged i ≡ Some a → (a.size == 0) ≡ true → IsNoRange i
no_range i a is none = record { range = a; is = is; none = inl (eqb-true a.size 0 none) }

pub beyond_last : (i : Item) (a : Range) → ranged i ≡ Some a → not (a.size == all_ones) && nat_lt all_ones (a.offset + a.size) ≡ true → IsNoRange i
beyond_last i a is past =
    let p = and_parts (not (a.size == all_ones)) (nat_lt all_ones (a.offset + a.size)) past in
    record {
      range = a;
      is = is;
      none = inr (λ same. false≢true (sym (not-true _ p.0) ∙ eq-eqb a.size all_ones same), ltb-true all_ones (a.offset + a.size) p.1);
    }

above : (n k : ℕ) → (n == k) ≡ false → k ≤ n → suc k ≤ n
above n k other low = elim (cases_Bool (nat_lt k n)) [
  | inl more ↦ ltb-true k n more
  | inr few ↦ (let most : n ≤ k = ltb-false k n few in let same : n ≡ k = omega arith in absurd (false≢true (sym other ∙ eq-eqb n k same)))
]

-- four numbers say a share
pub no_share : (n : ℕ) → is_none (share_of n) ≡ true → 3 < n
no_share n none = by (n == 0) (n == 1) (n == 2) (n == 3) refl refl refl refl none
  where
    by : (a b c d : Bool) → (n == 0) ≡ a → (n == 1) ≡ b → (n == 2) ≡ c → (n == 3) ≡ d
        → is_none (cond a (Some neither) (cond b (Some (record { reads = true; writes = false })) (cond c (Some (record { reads = false; writes = true }))
        (cond d (Some (record { reads = true; writes = true })) None)))) ≡ true → 3 < n
    by true b c d at0 at1 at2 at3 none = absurd (false≢true none)
    by false true c d at0 at1 at2 at3 none = absurd (false≢true none)
    by false false true d at0 at1 at2 at3 none = absurd (false≢true none)
    by false false false true at0 at1 at2 at3 none = absurd (false≢true none)
    by false false false false at0 at1 at2 at3 none =
        let zero : 0 ≤ n = omega arith in
        above n 3 at3 (above n 2 at2 (above n 1 at1 (above n 0 at0 zero)))

-- a share that an open does not have
pub not_narrower : (access deny : Share) (has_access has_deny : Share) → not (is_neither access) && (is_part access has_access && is_part deny has_deny) ≡ false
    → (is_neither access ≡ true) ⊎ ((is_part access has_access ≡ false) ⊎ (is_part deny has_deny ≡ false))
not_narrower access deny has_access has_deny off = elim (and_cases (not (is_neither access)) (is_part access has_access && is_part deny has_deny) off) [
  | inl none ↦ inl (not-false (is_neither access) none)
  | inr other ↦ inr (and_cases (is_part access has_access) (is_part deny has_deny) other)
]

-- Attributes.

no_time : (o : Option SetTime) {X : Type 0} → overflows o ≡ true → ((t : _) → o ≡ Some (Given t) → 999999999 < t.nanoseconds → X) → X
no_time None e is = absurd (false≢true e)
no_time (Some Now) e is = absurd (false≢true e)
no_time (Some (Given t)) e is = is t refl (ltb-true 999999999 t.nanoseconds e)

no_mode : (o : Option ℕ) {X : Type 0} → exceeds o ≡ true → ((mode : ℕ) → o ≡ Some mode → 4095 < mode → X) → X
no_mode None e is = absurd (false≢true e)
no_mode (Some mode) e is = is mode refl (ltb-true 4095 mode e)

no_value : (v : Settings) → overflows v.access || overflows v.modify || exceeds v.mode ≡ true → IsNoValue v
no_value v e = by (overflows v.access) (overflows v.modify) (exceeds v.mode) refl refl refl e
  where
    by : (a b c : Bool) → overflows v.access ≡ a → overflows v.modify ≡ b → exceeds v.mode ≡ c → a || b || c ≡ true → IsNoValue v
    by true b c access modify mode e = no_time v.access access (λ t is more. Accessed t is more)
    by false true c access modify mode e = no_time v.modify modify (λ t is more. Modified t is more)
    by false false true access modify mode e = no_mode v.mode mode (λ m is more. Mode m is more)
    by false false false access modify mode e = absurd (false≢true e)

nobody_named : (o : Option (List ℕ)) → names_nobody o ≡ true → (text : List ℕ) × (o ≡ Some text) × (owner_of text ≡ None)
nobody_named None e = absurd (false≢true e)
nobody_named (Some text) e = (text, refl, by (owner_of text) e)
  where
    by : (o : Option ℕ) → not (is_some o) ≡ true → o ≡ None
    by None e = refl
    by (Some n) e = absurd (false≢true e)

-- those that are given and cannot be read
pub given_blames : (s : State) (x : Context) (i : Item) (a : Attributes) → given_in i ≡ Some a → Blames (Reason s x i) (attributes_in a)
unfolding attributes_in
given_blames s x i a is =
    let m : Mask = mask_of a.attrmask in
    bool_blames (Reason s x i) (not (within m (supported Exact))) _ _ (λ unknown. inl (a, is, not-true _ unknown)) (λ known.
    bool_blames (Reason s x i) (not (within m settable)) _ _ (λ fixed. Fixed a is (not-true _ fixed)) (λ set. by (settings_of m a.attr_vals) refl))
  where
    nobody : (v : Settings) → settings_of (mask_of a.attrmask) a.attr_vals ≡ Some v → names_nobody v.owner || names_nobody v.group ≡ true → NamesNobody i
    nobody v read e = elim (or_cases (names_nobody v.owner) (names_nobody v.group) e) [
      | inl owner ↦ (let n = nobody_named v.owner owner in record { given = a; is = is; set = v; read = read; text = n.0; of = inl n.1; nobody = n.2 })
      | inr group ↦ (let n = nobody_named v.group group in record { given = a; is = is; set = v; read = read; text = n.0; of = inr n.1; nobody = n.2 })
    ]

    by : (o : Option Settings) → settings_of (mask_of a.attrmask) a.attr_vals ≡ o → Blames (Reason s x i) (judged_settings (mask_of a.attrmask) o)
    by None read = (a, is, read)
    by (Some v) read = bool_blames (Reason s x i) (names_nobody v.owner || names_nobody v.group) _ _ (nobody v read) (λ all.
        bool_blames (Reason s x i) (overflows v.access || overflows v.modify || exceeds v.mode) _ _ (λ odd. NoValue a v is read (no_value v odd)) (λ u. tt))

-- Counters at their end.

module _ (s : State) where
  pub spent_at : (n : ℕ) → is_there s.tree n ≡ true → can_change s.tree n ≡ false → IsSpent s
  spent_at n there off = by (stored_in s.tree.objects n) refl there off
    where
      by : (o : Option Stored) → stored_in s.tree.objects n ≡ o → is_some o ≡ true → option_map_or (λ (k : Stored). nat_lt k.object.change last_count) o false ≡ false → IsSpent s
      by None is there off = absurd (false≢true there)
      by (Some k) is there off = Change n k.object (ap (option_map (λ (k : Stored). k.object)) is) (ltb-false k.object.change last_count off)

  pub spent_there : (d : Node) → object_at s.tree d.number ≡ Some d.object → can_change s.tree d.number ≡ false → IsSpent s
  spent_there d is off = spent_at d.number (by (stored_in s.tree.objects d.number) is) off
    where
      by : (o : Option Stored) → option_map (λ (k : Stored). k.object) o ≡ Some d.object → is_some o ≡ true
      by None e = absurd cc
      by (Some k) e = refl

  pub no_object_left : nat_lt s.tree.last_object last_count ≡ false → IsSpent s
  no_object_left off = Objects (ltb-false s.tree.last_object last_count off)

  pub no_cookie_left : nat_lt s.tree.last_cookie last_count ≡ false → IsSpent s
  no_cookie_left off = Cookies (ltb-false s.tree.last_cookie last_count off)

  -- a directory can get no more object
  pub none_is_made : (d : Node) → object_at s.tree d.number ≡ Some d.object
      → not (can_change s.tree d.number && (nat_lt s.tree.last_object last_count && nat_lt s.tree.last_cookie last_count)) ≡ true → IsSpent s
  none_is_made d is off = elim (never_both (can_change s.tree d.number) (nat_lt s.tree.last_object last_count && nat_lt s.tree.last_cookie last_count) off) [
    | inl change ↦ spent_there d is change
    | inr count ↦ elim (and_cases (nat_lt s.tree.last_object last_count) (nat_lt s.tree.last_cookie last_count) count) [
      | inl object ↦ no_object_left object
      | inr cookie ↦ no_cookie_left cookie
    ]
  ]

  -- an object can get no more names there
  pub none_is_linked : (d n : Node) → object_at s.tree d.number ≡ Some d.object → object_at s.tree n.number ≡ Some n.object
      → not (can_change s.tree d.number && (can_change s.tree n.number && nat_lt s.tree.last_cookie last_count)) ≡ true → IsSpent s
  none_is_linked d n is there off = elim (never_both (can_change s.tree d.number) (can_change s.tree n.number && nat_lt s.tree.last_cookie last_count) off) [
    | inl place ↦ spent_there d is place
    | inr more ↦ elim (and_cases (can_change s.tree n.number) (nat_lt s.tree.last_cookie last_count) more) [
      | inl change ↦ spent_there n there change
      | inr cookie ↦ no_cookie_left cookie
    ]
  ]
