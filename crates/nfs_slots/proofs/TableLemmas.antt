-- A table of slots along a list of requests.
use Rattle.std.proofs.Common.{◌≡◌, inl, inr, ℕ, ◌+◌, ◌-◌, ◌<◌, ◌≤◌, ◌%◌, ◌^◌, suc, zero, Bool, true, false, cond, List, [], ◌∷◌, map, set, Option, Some, None}
use Rattle.std.proofs.{Common.{refl, sym, ◌∙◌, ap, arith, zero-add}, lemmas.Bool.{cases_eq, ne_eqb, eq-eqb, eqb-true}, lemmas.List.map-set}
use Rattle.std.proofs.{lemmas.List.Elements.{All-head, All-tail}, lemmas.List.Sums.sum_by-cons, lemmas.Slice.Eq.bytes_eq-Decides}
use Rattle.std.specs.{Prelude.{◌==◌, if◌then◌else◌, not, ◌&&◌, slice_get, count_by, bytes_eq, length, All}, Option.option_map_or}
use Rattle.nfs_xdr.specs.Numbers.{next_number}
use Rattle.nfs_slots.specs.{declared.slot.Slot.Slot, declared.slot.Verdict.TheVariants.{Fresh, Again, FalseRetry, Misordered, NoSlot}}
use Rattle.nfs_slots.specs.{Slot.{SlotState, judge_slot, judge, keep}, SlotTables.IsBounded, Buffers.{state_of, IsWithinRoom}}
use Rattle.nfs_slots.specs.Laws.{Request, is_on, Keeps, OnePlace, RepeatsAreAnswered}

-- what a slot's buffers stand for, put into the table
pub kept_in : (states : List SlotState) (slots : List Slot) (slot : ℕ) (s : Slot) (state : SlotState)
    → map state_of slots ≡ states → state_of s ≡ state → map state_of (set slots slot s) ≡ set states slot state
kept_in states slots slot s state before here = map-set state_of slots slot s
    ∙ (ap (λ (xs : List SlotState). set xs slot (state_of s)) before ∙ ap (λ (x : SlotState). set states slot x) here)

pub slice_get-set_same : {X : Type 0} (xs : List X) (i : ℕ) (x y : X) → slice_get xs i ≡ Some x → slice_get (set xs i y) i ≡ Some y
slice_get-set_same [] i x y e = absurd cc
slice_get-set_same (z ∷ zs) zero x y e = refl
slice_get-set_same (z ∷ zs) (suc i) x y e = slice_get-set_same zs i x y e

pub slice_get-set_other : {X : Type 0} (xs : List X) (i j : ℕ) (y : X) → (j ≡ i → ⊥) → slice_get (set xs i y) j ≡ slice_get xs j
slice_get-set_other [] i j y ne = refl
slice_get-set_other (z ∷ zs) zero zero y ne = absurd (ne refl)
slice_get-set_other (z ∷ zs) zero (suc j) y ne = refl
slice_get-set_other (z ∷ zs) (suc i) zero y ne = refl
slice_get-set_other (z ∷ zs) (suc i) (suc j) y ne = slice_get-set_other zs i j y (λ e. ne (ap suc e))

verdict_fresh : (fresh apart same : Bool) → (if fresh then Fresh else if apart then Misordered else if same then Again else FalseRetry) ≡ Fresh → fresh ≡ true
verdict_fresh true apart same e = refl
verdict_fresh false true same e = absurd cc
verdict_fresh false false true e = absurd cc
verdict_fresh false false false e = absurd cc

-- a number that is fresh stands behind the slot's
pub fresh_number : (s : SlotState) (number uid : ℕ) (args : List ℕ) → judge_slot s number uid args ≡ Fresh → number ≡ next_number s.number
fresh_number s number uid args e =
    eqb-true _ _ (verdict_fresh (number == next_number s.number) (not (s.used && (number == s.number))) ((uid == s.uid) && bytes_eq args s.args) e)

-- a request is fresh only on a slot that is there
fresh_found : (found : Option SlotState) (number uid : ℕ) (args : List ℕ)
    → option_map_or (λ s. judge_slot s number uid args) found NoSlot ≡ Fresh → (s : SlotState) × (found ≡ Some s) × (number ≡ next_number s.number)
fresh_found None number uid args e = absurd cc
fresh_found (Some s) number uid args e = (s, refl, fresh_number s number uid args e)

pub fresh_at : (t : List SlotState) (slot number uid : ℕ) (args : List ℕ) (s : SlotState)
    → slice_get t slot ≡ Some s → judge t slot number uid args ≡ Fresh → number ≡ next_number s.number
fresh_at t slot number uid args s here e =
    fresh_number s number uid args (ap (λ (found : Option SlotState). option_map_or (λ s. judge_slot s number uid args) found NoSlot) (sym here) ∙ e)

pub next_small : (n : ℕ) → next_number n < 2 ^ 32
next_small n = omega arith

further : (n c : ℕ) → (next_number n + c) % 2 ^ 32 ≡ (n + (1 + c)) % 2 ^ 32
further n c = omega arith

behind_all : (n : ℕ) → n < 2 ^ 32 → n ≡ (n + 0) % 2 ^ 32
behind_all n small = omega arith

pub count_here : (slot : ℕ) (r : Request) (more : List Request) → r.slot ≡ slot → count_by (is_on slot) (r ∷ more) ≡ 1 + count_by (is_on slot) more
count_here slot r more same =
    sum_by-cons (λ (x : Request). cond (is_on slot x) 1 0) r more
    ∙ ap (λ (b : Bool). cond b 1 0 + count_by (is_on slot) more) (eq-eqb r.slot slot same)

pub count_apart : (slot : ℕ) (r : Request) (more : List Request) → (r.slot ≡ slot → ⊥) → count_by (is_on slot) (r ∷ more) ≡ count_by (is_on slot) more
count_apart slot r more other =
    sum_by-cons (λ (x : Request). cond (is_on slot x) 1 0) r more
    ∙ (ap (λ (b : Bool). cond b 1 0 + count_by (is_on slot) more) (ne_eqb r.slot slot other) ∙ zero-add (count_by (is_on slot) more))

-- a slot's number moves on by one for each request that is kept there
pub moves_on : (slot : ℕ) (old new : List SlotState) (more : List Request) (s : SlotState) → s.number < 2 ^ 32 → slice_get old slot ≡ Some s
    → Keeps old more new → (r : SlotState) × (slice_get new slot ≡ Some r) × (r.number ≡ (s.number + count_by (is_on slot) more) % 2 ^ 32)
moves_on slot old new [] s small here keeps = (s, ap (λ (t : List SlotState). slice_get t slot) (sym keeps) ∙ here, behind_all s.number small)
moves_on slot old new (r ∷ more) s small here keeps =
    let next = keep old r.slot r.number r.uid r.args r.reply in
    let state : SlotState = record { number = r.number; used = true; uid = r.uid; args = r.args; reply = r.reply } in
    elim (cases_eq r.slot slot) [
      | inl same ↦ (
          let before : slice_get old r.slot ≡ Some s = ap (slice_get old) same ∙ here in
          let after : slice_get next slot ≡ Some state = ap (slice_get next) (sym same) ∙ slice_get-set_same old r.slot s state before in
          let number : r.number ≡ next_number s.number = fresh_at old r.slot r.number r.uid r.args s before keeps.0 in
          let (end, there, moved) = moves_on slot next new more state (omega (arith, next_small s.number)) after keeps.1 in
          let count = count_by (is_on slot) more in (
            end,
            there,
            moved ∙ (ap (λ (n : ℕ). (n + count) % 2 ^ 32) number
                ∙ (further s.number count ∙ ap (λ (n : ℕ). (s.number + n) % 2 ^ 32) (sym (count_here slot r more same)))),
          ))
      | inr other ↦ (
          let after : slice_get next slot ≡ Some s = slice_get-set_other old r.slot slot state (λ e. other (sym e)) ∙ here in
          let (end, there, moved) = moves_on slot next new more s small after keeps.1 in
          (end, there, moved ∙ ap (λ (n : ℕ). (s.number + n) % 2 ^ 32) (sym (count_apart slot r more other))))
    ]

-- a slot stays as it is where no request is kept on it
pub stays : (slot : ℕ) (old new : List SlotState) (more : List Request) → Keeps old more new → count_by (is_on slot) more ≡ 0 → slice_get new slot ≡ slice_get old slot
stays slot old new [] keeps none = ap (λ (t : List SlotState). slice_get t slot) (sym keeps)
stays slot old new (r ∷ more) keeps none =
    let next = keep old r.slot r.number r.uid r.args r.reply in
    elim (cases_eq r.slot slot) [
      | inl same ↦ (let one : 1 + count_by (is_on slot) more ≡ 0 = sym (count_here slot r more same) ∙ none in absurd (omega arith))
      | inr other ↦ stays slot next new more keeps.1 (sym (count_apart slot r more other) ∙ none)
          ∙ slice_get-set_other old r.slot slot _ (λ e. other (sym e))
    ]

bytes_same : (xs : List ℕ) → bytes_eq xs xs ≡ true
bytes_same xs = (bytes_eq-Decides xs xs).1 refl

full_round : (n c : ℕ) → n < 2 ^ 32 → n ≡ next_number ((n + c) % 2 ^ 32) → 2 ^ 32 - 1 ≤ c
full_round n c small e = omega arith

not_next : (n : ℕ) → n ≡ next_number n → ⊥
not_next n e = omega arith

pub one_place : OnePlace
one_place old new r more uid args keeps fresh =
    let next = keep old r.slot r.number r.uid r.args r.reply in
    let state : SlotState = record { number = r.number; used = true; uid = r.uid; args = r.args; reply = r.reply } in
    let (s, found, number) = fresh_found (slice_get old r.slot) r.number r.uid r.args keeps.0 in
    let small : r.number < 2 ^ 32 = omega (arith, next_small s.number) in
    let (end, there, moved) = moves_on r.slot next new more state small (slice_get-set_same old r.slot s state found) keeps.1 in
    full_round r.number (count_by (is_on r.slot) more) small (fresh_at new r.slot r.number uid args end there fresh ∙ ap next_number moved)

again : (r : Request) → judge_slot (record { number = r.number; used = true; uid = r.uid; args = r.args; reply = r.reply }) r.number r.uid r.args ≡ Again
again r = simp (ne_eqb r.number (next_number r.number) (not_next r.number), eq-eqb r.number r.number refl, eq-eqb r.uid r.uid refl, bytes_same r.args)

pub repeats_are_answered : RepeatsAreAnswered
repeats_are_answered old new r more keeps none =
    let next = keep old r.slot r.number r.uid r.args r.reply in
    let state : SlotState = record { number = r.number; used = true; uid = r.uid; args = r.args; reply = r.reply } in
    let (s, found, number) = fresh_found (slice_get old r.slot) r.number r.uid r.args keeps.0 in
    let there : slice_get new r.slot ≡ Some state = stays r.slot next new more keeps.1 none ∙ slice_get-set_same old r.slot s state found in (
      ap (λ (x : Option SlotState). option_map_or (λ s. judge_slot s r.number r.uid r.args) x NoSlot) there ∙ again r,
      ap (λ (x : Option SlotState). option_map_or (λ s. s.reply) x []) there,
    )

reply_at : (size request : ℕ) (slots : List Slot) (slot : ℕ) → All (IsWithinRoom size request) slots
    → length (option_map_or (λ s. s.reply) (slice_get (map state_of slots) slot) []) ≤ size
reply_at size request [] slot all = omega arith
reply_at size request (s ∷ slots) zero all = (All-head (IsWithinRoom size request) s slots all).1
reply_at size request (s ∷ slots) (suc i) all = reply_at size request slots i (All-tail (IsWithinRoom size request) s slots all)

args_at : (size request : ℕ) (slots : List Slot) (slot : ℕ) → All (IsWithinRoom size request) slots
    → length (option_map_or (λ s. s.args) (slice_get (map state_of slots) slot) []) ≤ request
args_at size request [] slot all = omega arith
args_at size request (s ∷ slots) zero all = (All-head (IsWithinRoom size request) s slots all).2
args_at size request (s ∷ slots) (suc i) all = args_at size request slots i (All-tail (IsWithinRoom size request) s slots all)

pub bounded : (size request : ℕ) (slots : List Slot) → All (IsWithinRoom size request) slots
    → IsBounded (record { slots = map state_of slots; size = size; request = request })
bounded size request slots all = record { reply = λ slot. reply_at size request slots slot all; args = λ slot. args_at size request slots slot all }

pub none_kept : (slots : List Slot) (slot : ℕ) → length slots ≤ slot → [] ≡ option_map_or (λ s. s.reply) (slice_get (map state_of slots) slot) []
none_kept [] slot past = refl
none_kept (s ∷ slots) zero past = absurd (omega arith)
none_kept (s ∷ slots) (suc i) past = none_kept slots i (omega arith)
