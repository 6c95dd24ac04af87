-- What is read of a body is in the grammar, and what is in the grammar is read.
use Rattle.std.proofs.Common.{◌≡◌, ◌≢◌, ◌<◌, ◌⊎◌, ℕ, zero, suc, false, eqb, leb, ◌&&◌, cond, List, [], ◌∷◌, ◌++◌, length, Option, Some, None, refl}
use Rattle.std.proofs.Common.{sym, ap, subst, ◌∙◌, inl, inr, arith}
use Rattle.std.proofs.{lemmas.Bool.{cases_Bool, and_parts, and_right, eqb-true, ne_eqb, le-leb, lt-leb, leb-true, leb-false}, lemmas.Option.same_Some}
use Rattle.std.proofs.lemmas.List.{nil_from_length}
use Rattle.nfs_xdr.specs.{Reading.{◌>>=◌, number_at, fixed_at}, Lawful.IsCodec, declared.status.Status.TheVariants.BadXdr, Text.{IsBytes, Text, uint32, Lacks}}
use Rattle.nfs_xdr.proofs.{CodecLaws.{bind_some, test_some, is_number}, WordLaws.listed_number, TextLaws.read_as}
use Rattle.nfs_compound.specs.{declared.op_num.OpNum.OpNum, OpNum.{op_number, op_nums, op_num}, declared.op.Op.Op, declared.op.Item.Item}
use Rattle.nfs_compound.specs.{declared.op.Item.TheVariants.{Operation, Fault}, ArgCodecs.protected, OpCodec.{op_codec, op_at, flaw, fault_of, fault_at}}
use Rattle.nfs_compound.specs.{Wire.{protected4, nfs_argop4}, Request.{Answers, Unserved, Unreadable, Unsupported, Illegal, IsFault, Lists, Spoils}}
use Rattle.nfs_compound.specs.ReadRequest.{op_or_fault, in_front, item_at, items_at}
use Rattle.nfs_compound.specs.declared.op_num.OpNum.TheVariants as Num
use Rattle.nfs_compound.proofs.{OpNumLaws.is_op_listing, WireLaws.{is_protected_text, is_op_text}}

pub none≢some : {A : Type 0} (x : A) → None ≡ Some x → ⊥
none≢some x e = cc

none_of : {A : Type 0} (r : Option A) → ((x : A) → r ≡ Some x → ⊥) → r ≡ None
none_of None never = refl
none_of (Some x) never = absurd (never x refl)

-- nothing is spelled exactly where nothing is read
pub lacks_from : {A : Type 0} (text : A → Text) (read : List ℕ → Option (A × List ℕ)) (bytes : List ℕ) → IsCodec (read_as text read)
    → read bytes ≡ None → Lacks text bytes
lacks_from text read bytes is e begins =
    none≢some (begins.value, begins.rest) (sym e ∙ ap read begins.stands ∙ is.again begins.value begins.rest begins.fits)

pub lacks_again : {A : Type 0} (text : A → Text) (read : List ℕ → Option (A × List ℕ)) (bytes : List ℕ) → IsCodec (read_as text read)
    → IsBytes bytes → Lacks text bytes → read bytes ≡ None
lacks_again text read bytes is fits lacks = none_of (read bytes)
    (λ x e. let t = is.takes bytes x.0 x.1 fits e in lacks (record { value = x.0; rest = x.1; stands = t.0; fits = t.2 }))

-- An operation has a number of its own.

named : (n : ℕ) (op : OpNum) → n ≡ op_number op → op_num n ≡ Some op
named n op is = ap op_num is ∙ is_op_listing.found op

unnamed : (n : ℕ) → ((op : OpNum) → n ≢ op_number op) → op_num n ≡ None
unnamed n never = none_of (op_num n) (λ op e. never op (listed_number op_number op_nums n op e))

names_none : (n : ℕ) → op_num n ≡ None → (op : OpNum) → n ≢ op_number op
names_none n none op is = none≢some op (sym none ∙ named n op is)

-- The fault of a number.

other_flaw : (op : OpNum) (bytes : List ℕ) → (op ≡ Num.ExchangeId → protected.read bytes ≡ None) → flaw op bytes ≡ BadXdr
other_flaw Num.ExchangeId bytes none = rw (none refl) refl
other_flaw op bytes none = refl

out_of_range : (n : ℕ) → (n < 3) ⊎ (58 < n) → (leb 3 n && leb n 58) ≡ false
out_of_range n (inl low) = rw (lt-leb 3 n low) refl
out_of_range n (inr high) = and_right (leb 3 n) _ (lt-leb n 58 high)

-- the fault is that of the number with these bytes behind it, where each is a byte
pub answer_is : (n : ℕ) (behind : List ℕ) (fault : Item) → IsBytes behind → Answers n behind fault → fault ≡ fault_at n behind
unfolding fault_at
answer_is n behind fault fits (Unserved at begins e) =
    rw (e, named n Num.ExchangeId at, ap protected.read begins.stands ∙ is_protected_text.again begins.value begins.rest begins.fits) refl
answer_is n behind fault fits (Unreadable op at lacks e) =
    rw (e, named n op at, other_flaw op behind (λ same. lacks_again protected4 protected.read behind is_protected_text fits (lacks same))) refl
answer_is n behind fault fits (Unsupported at low high e) = rw (e, unnamed n at, le-leb 3 n low, le-leb n 58 high) refl
answer_is n behind fault fits (Illegal at out e) = rw (e, unnamed n at, out_of_range n out) refl

nothing_protected : protected.read [] ≡ None
unfolding protected fixed_at
nothing_protected = refl

-- the fault is that of the number with some bytes behind it
pub some_answer : (n : ℕ) (behind : List ℕ) (fault : Item) → Answers n behind fault → (other : List ℕ) × (fault ≡ fault_at n other)
unfolding fault_at
some_answer n behind fault (Unserved at begins e) =
    (behind, rw (e, named n Num.ExchangeId at, ap protected.read begins.stands ∙ is_protected_text.again begins.value begins.rest begins.fits) refl)
some_answer n behind fault (Unreadable op at lacks e) = ([], rw (e, named n op at, other_flaw op [] (λ same. nothing_protected)) refl)
some_answer n behind fault (Unsupported at low high e) = ([], rw (e, unnamed n at, le-leb 3 n low, le-leb n 58 high) refl)
some_answer n behind fault (Illegal at out e) = ([], rw (e, unnamed n at, out_of_range n out) refl)

flaw_answers : (op : OpNum) (n : ℕ) (behind : List ℕ) (r : Option (_ × List ℕ)) → IsBytes behind → n ≡ op_number op → protected.read behind ≡ r
    → Answers n behind (Fault n (flaw op behind))
flaw_answers Num.ExchangeId n behind (Some x) fits at e =
    let t = is_protected_text.takes behind x.0 x.1 fits e in
    Unserved at (record { value = x.0; rest = x.1; stands = t.0; fits = t.2 }) (rw e refl)
flaw_answers Num.ExchangeId n behind None fits at e =
    Unreadable Num.ExchangeId at (λ same. lacks_from protected4 protected.read behind is_protected_text e) (rw e refl)
flaw_answers op n behind r fits at e = Unreadable op at (λ same. absurd cc) refl

answers_by : (o : Option OpNum) (n : ℕ) (behind : List ℕ) → IsBytes behind → op_num n ≡ o → Answers n behind (fault_of o n behind)
answers_by (Some op) n behind fits at = flaw_answers op n behind (protected.read behind) fits (listed_number op_number op_nums n op at) refl
answers_by None n behind fits at = elim (cases_Bool (leb 3 n && leb n 58)) [
  | inl inside ↦ (
      let parts = and_parts (leb 3 n) (leb n 58) inside in
      Unsupported (names_none n at) (leb-true 3 n parts.0) (leb-true n 58 parts.1) (rw inside refl)
      )
  | inr outside ↦ Illegal (names_none n at) (outside_of n outside) (rw outside refl)
]
  where
    outside_of : (n : ℕ) → (leb 3 n && leb n 58) ≡ false → (n < 3) ⊎ (58 < n)
    outside_of n e = elim (cases_Bool (leb 3 n)) [
      | inl low ↦ inr (leb-false n 58 (rw low at e))
      | inr low ↦ inl (leb-false 3 n low)
    ]

pub fault_answers : (n : ℕ) (behind : List ℕ) → IsBytes behind → Answers n behind (fault_at n behind)
unfolding fault_at
fault_answers n behind fits = answers_by (op_num n) n behind fits refl

no_answer : (n : ℕ) (behind : List ℕ) (o : Op) → Answers n behind (Operation o) → ⊥
no_answer n behind o (Unserved at begins e) = cc
no_answer n behind o (Unreadable op at lacks e) = cc
no_answer n behind o (Unsupported at low high e) = cc
no_answer n behind o (Illegal at out e) = cc

-- what stands at a place is an operation that is spelled there, or a fault
abbrev Stands : List ℕ → Item → List ℕ → Type 0
Stands bytes (Operation o) rest = (bytes ≡ (nfs_argop4 o).bytes ++ rest) × IsBytes rest × (nfs_argop4 o).Fits
Stands bytes (Fault k status) rest = IsFault bytes (Fault k status)

is_the_fault : (bytes : List ℕ) (x : Item) → IsFault bytes x → Stands bytes x []
is_the_fault bytes (Operation o) f = absurd (no_answer f.number f.behind o f.answers)
is_the_fault bytes (Fault k status) f = f

at_place : (bytes : List ℕ) (n : ℕ) (left : List ℕ) (fault item : Item) (r : Option (Op × List ℕ)) (rest : List ℕ)
    → IsBytes bytes → number_at bytes ≡ Some (n, left) → (op_num n >>= λ op. op_at op left) ≡ r
    → fault ≡ fault_at n left → op_or_fault fault r ≡ (item, rest) → Stands bytes item rest
at_place bytes n left fault item (Some x) rest fits read h told e =
    subst (λ (p : Item × List ℕ). Stands bytes p.0 p.1) e (is_op_text.takes bytes x.0 x.1 fits (rw (read, h) refl))
at_place bytes n left fault item None rest fits read h told e =
    let t = is_number.takes bytes n left fits read in
    subst (λ (p : Item × List ℕ). Stands bytes p.0 p.1) e (is_the_fault bytes fault (record {
      number = n;
      behind = left;
      number_fits = t.2;
      stands = t.0;
      none = lacks_from nfs_argop4 op_codec.read bytes is_op_text (rw (read, h) refl);
      answers = subst (λ (x : Item). Answers n left x) (sym told) (fault_answers n left t.1);
    }))

stands_from : (bytes : List ℕ) (item : Item) (rest : List ℕ) → IsBytes bytes → item_at bytes ≡ Some (item, rest) → Stands bytes item rest
unfolding item_at
stands_from bytes item rest fits e =
    let m = bind_some (number_at bytes) (λ k. Some (op_or_fault (fault_at k.0 k.1) (op_num k.0 >>= λ op. op_at op k.1))) (item, rest) e in
    at_place bytes m.0.0 m.0.1 _ item _ rest fits m.1 refl refl (same_Some _ (item, rest) m.2)

fault_stands : (bytes : List ℕ) (x : Item) → IsBytes bytes → IsFault bytes x → item_at bytes ≡ Some (x, [])
unfolding item_at
fault_stands bytes x fits f =
    let read : number_at bytes ≡ Some (f.number, f.behind) = ap number_at f.stands ∙ is_number.again f.number f.behind f.number_fits in
    let left = is_number.takes bytes f.number f.behind fits read in
    let refused : (op_num f.number >>= λ op. op_at op f.behind) ≡ None =
    sym (rw read refl) ∙ lacks_again nfs_argop4 op_codec.read bytes is_op_text fits f.none in
    rw (read, refused, answer_is f.number f.behind x left.1 f.answers) refl

op_stands : (o : Op) (rest : List ℕ) → (nfs_argop4 o).Fits → item_at ((nfs_argop4 o).bytes ++ rest) ≡ Some (Operation o, rest)
unfolding item_at
op_stands o rest fits =
    let s = bind_some (number_at ((nfs_argop4 o).bytes ++ rest)) (λ n. op_num n.0 >>= λ op. op_at op n.1) (o, rest) (is_op_text.again o rest fits) in
    rw (s.1, s.2) refl

no_item : (bytes : List ℕ) → number_at bytes ≡ None → item_at bytes ≡ None
unfolding item_at
no_item bytes e = rw e refl

no_number : (bytes : List ℕ) (n : Option (ℕ × List ℕ)) → number_at bytes ≡ n → item_at bytes ≡ None → n ≡ None
unfolding item_at
no_number bytes None e h = refl
no_number bytes (Some n) e h = absurd (none≢some (op_or_fault (fault_at n.0 n.1) (op_num n.0 >>= λ op. op_at op n.1)) (sym h ∙ rw e refl))

-- The list.

lists_step : (n : ℕ) (bytes : List ℕ) (item : Item) (rest : List ℕ) (items : List Item) → Stands bytes item rest
    → ((xs : List Item) → IsBytes rest → items_at n rest ≡ Some xs → Lists n rest xs) → in_front item (items_at n rest) ≡ Some items → Lists (suc n) bytes items
lists_step n bytes (Operation o) rest items s more e =
    let t = bind_some (items_at n rest) (λ ys. Some (Operation o ∷ ys)) items e in
    subst (λ (xs : List Item). Lists (suc n) bytes xs) (same_Some (Operation o ∷ t.0) items t.2) (rest, s.0, s.2, more t.0 s.1 t.1)
lists_step n bytes (Fault k status) rest items s more e = subst (λ (xs : List Item). Lists (suc n) bytes xs) (same_Some (Fault k status ∷ []) items e) s

pub lists_from : (n : ℕ) (bytes : List ℕ) (items : List Item) → IsBytes bytes → items_at n bytes ≡ Some items → Lists n bytes items
unfolding items_at
lists_from zero bytes items fits e =
    let g = test_some (eqb (length bytes) 0) (Some []) items e in
    subst (λ (xs : List Item). Lists 0 bytes xs) (same_Some [] items g.1) (nil_from_length bytes (eqb-true _ _ g.0))
lists_from (suc n) bytes items fits e =
    let s = bind_some (item_at bytes) (λ x. in_front x.0 (items_at n x.1)) items e in
    lists_step n bytes s.0.0 s.0.1 items (stands_from bytes s.0.0 s.0.1 fits s.1) (λ xs f h. lists_from n s.0.1 xs f h) s.2

pub lists_again : (n : ℕ) (bytes : List ℕ) (items : List Item) → IsBytes bytes → Lists n bytes items → items_at n bytes ≡ Some items
unfolding items_at
lists_again zero bytes [] fits h = rw h refl
lists_again zero bytes (item ∷ items) fits h = absurd h
lists_again (suc n) bytes [] fits h = absurd h
lists_again (suc n) bytes (Operation o ∷ items) fits h =
    let t = is_op_text.takes bytes o h.0 fits (ap op_codec.read h.1 ∙ is_op_text.again o h.0 h.2) in
    rw (h.1, op_stands o h.0 h.2, lists_again n h.0 items t.1 h.3) refl
lists_again (suc n) bytes (Fault k status ∷ []) fits h = rw (fault_stands bytes (Fault k status) fits h) refl
lists_again (suc n) bytes (Fault k status ∷ item ∷ items) fits h = absurd h

no_more : (o : Op) (r : Option (List Item)) → in_front (Operation o) r ≡ None → r ≡ None
no_more o None e = refl
no_more o (Some xs) e = absurd (none≢some (Operation o ∷ xs) (sym e))

spoils_step : (n : ℕ) (bytes : List ℕ) (item : Item) (rest : List ℕ) → Stands bytes item rest
    → (IsBytes rest → items_at n rest ≡ None → Spoils n rest) → in_front item (items_at n rest) ≡ None → Spoils (suc n) bytes
spoils_step n bytes (Operation o) rest s more e = inr (o, rest, s.0, s.2, more s.1 (no_more o (items_at n rest) e))
spoils_step n bytes (Fault k status) rest s more e = absurd (none≢some (Fault k status ∷ []) (sym e))

spoils_at : (n : ℕ) (bytes : List ℕ) (r : Option (Item × List ℕ)) → IsBytes bytes
    → ((rest : List ℕ) → IsBytes rest → items_at n rest ≡ None → Spoils n rest) → item_at bytes ≡ r
    → (r >>= λ x. in_front x.0 (items_at n x.1)) ≡ None → Spoils (suc n) bytes
spoils_at n bytes None fits more h e = inl (lacks_from uint32 number_at bytes is_number (no_number bytes (number_at bytes) refl h))
spoils_at n bytes (Some x) fits more h e = spoils_step n bytes x.0 x.1 (stands_from bytes x.0 x.1 fits h) (more x.1) e

bytes_left : (bytes : List ℕ) → cond {A = Option (List Item)} (eqb (length bytes) 0) (Some []) None ≡ None → bytes ≢ []
bytes_left [] e same = none≢some [] (sym e)
bytes_left (b ∷ bytes) e same = cc

pub spoils_from : (n : ℕ) (bytes : List ℕ) → IsBytes bytes → items_at n bytes ≡ None → Spoils n bytes
unfolding items_at
spoils_from zero bytes fits e = bytes_left bytes e
spoils_from (suc n) bytes fits e = spoils_at n bytes (item_at bytes) fits (λ rest f h. spoils_from n rest f h) refl e

some_left : (bytes : List ℕ) → bytes ≢ [] → cond {A = Option (List Item)} (eqb (length bytes) 0) (Some []) None ≡ None
some_left [] never = absurd (never refl)
some_left (b ∷ bytes) never = rw (ne_eqb (suc (length bytes)) 0 (omega arith)) refl

pub spoils_again : (n : ℕ) (bytes : List ℕ) → IsBytes bytes → Spoils n bytes → items_at n bytes ≡ None
unfolding items_at
spoils_again zero bytes fits h = some_left bytes h
spoils_again (suc n) bytes fits (inl lacks) = rw (no_item bytes (lacks_again uint32 number_at bytes is_number fits lacks)) refl
spoils_again (suc n) bytes fits (inr h) =
    let t = is_op_text.takes bytes h.0 h.1 fits (ap op_codec.read h.2 ∙ is_op_text.again h.0 h.1 h.3) in
    rw (h.2, op_stands h.0 h.1 h.3, spoils_again n h.1 t.1 h.4) refl
