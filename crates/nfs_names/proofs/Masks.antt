-- What is reported of masks, and room for what is put part by part.
use Rattle.std.proofs.Common.{◌≡◌, ℕ, suc, inl, inr, ◌+◌, ◌≤◌, true, false, cond, List, [], ◌∷◌, length, get_or, drop, refl, ◌∙◌, ap, arith}
use Rattle.std.proofs.{lemmas.Bool.{ne_eqb, and_right, cases_Bool}, lemmas.List.{length-append, length-take}}
use Rattle.std.specs.Prelude.{◌==◌, ◌&&◌, ◌||◌, Bool, if◌then◌else◌}
use Rattle.nfs_tree.specs.{Files.{Files, data_at}, Bytes.part, declared.object.Object.Object}
use Rattle.nfs_xdr.specs.SheetState.{SheetState, HasRoom, Puts}
use Rattle.nfs_results.specs.{AttrSet.{before, trimmed}, Items.{attr_set, fattr}}
use Rattle.nfs_attrs.specs.{declared.about.About.About, declared.mask.Mask.Mask, Mask.{has, asks_room, without_last_zeros, trimmed_words, common}}
use Rattle.nfs_attrs.specs.Attributes.{readable, values, spell_attrs}
use Rattle.nfs_attrs.proofs.Unasked.{values_without_free, values_without_totals}
use Rattle.nfs_names.specs.declared.attributes.Room.{Room}

-- a word in front of the words behind it, if it is not the last of the zeros
abbrev before_zero : ℕ → List ℕ → List ℕ
before_zero word words = if word == 0 && length words == 0 then [] else word ∷ words

same_before : (word : ℕ) (words : List ℕ) → before word words ≡ before_zero word words
same_before word [] = elim (word == 0) as (λ b. cond b [] (word ∷ []) ≡ cond (b && true) [] (word ∷ [])) [ true ↦ refl | false ↦ refl ]
same_before word (next ∷ words) =
    let some : (length (next ∷ words) == 0) ≡ false = ne_eqb (length (next ∷ words)) 0 (λ e. omega arith) in
    let off : ((word == 0) && (length (next ∷ words) == 0)) ≡ false = and_right (word == 0) _ some in
    rw off refl

same_trimmed : (words : List ℕ) → trimmed words ≡ without_last_zeros words
same_trimmed [] = refl
same_trimmed (word ∷ words) = same_before word (trimmed words) ∙ ap (before_zero word) (same_trimmed words)

-- three words of a mask, as a result has them
pub three_words_trimmed : (words : List ℕ) → length words ≡ 3 → trimmed (get_or words 0 0 ∷ get_or words 1 0 ∷ get_or words 2 0 ∷ []) ≡ without_last_zeros words
three_words_trimmed [] e = absurd cc
three_words_trimmed (a ∷ []) e = absurd (omega arith)
three_words_trimmed (a ∷ b ∷ []) e = absurd (omega arith)
three_words_trimmed (a ∷ b ∷ c ∷ []) e = same_trimmed (a ∷ b ∷ c ∷ [])
three_words_trimmed (a ∷ b ∷ c ∷ d ∷ more) e = absurd (omega arith)

-- where it is not asked how many objects and bytes there may be, or how many more, the values are the same whatever these are
pub values_without_room : (asked : Mask) (a : About) (o : Object) (r : Room) → asks_room asked ≡ false
    → values asked (record a { files_free = r.files_free; files_total = r.files_total; space_free = r.space_free; space_total = r.space_total }) o ≡ values asked a o
values_without_room asked a o r off =
    let to43 = neither _ (has asked 44) off in
    let to42 = neither _ (has asked 43) to43.0 in
    let to23 = neither _ (has asked 42) to42.0 in
    let to22 = neither _ (has asked 23) to23.0 in
    let first = neither (has asked 21) (has asked 22) to22.0 in
    values_without_free asked (record a { files_total = r.files_total; space_total = r.space_total }) o r.files_free r.space_free first.0 first.1 to23.1 to42.1
    ∙ values_without_totals asked a o r.files_total r.space_total to22.1 to43.1
  where
    neither : (a b : Bool) → a || b ≡ false → (a ≡ false) × (b ≡ false)
    neither true b e = absurd cc
    neither false b e = (refl, e)

-- room for the next part
pub room_then : (old mid : SheetState) (a b : List ℕ) (n : ℕ) → Puts old mid a → length a + length b ≤ n → length old.bytes + n ≤ old.room → HasRoom mid b
room_then old mid a b n put short room = omega (arith, put.room, ap length put.bytes ∙ length-append old.bytes a)

fewer : (word : ℕ) (words : List ℕ) (n : ℕ) → length words ≤ n → length (before_zero word words) ≤ suc n
fewer word words n le = elim (cases_Bool ((word == 0) && (length words == 0))) [ inl off ↦ rw off (omega arith) | inr on ↦ rw on (omega arith) ]

pub few_words : (words : List ℕ) → length (without_last_zeros words) ≤ length words
few_words [] = omega arith
few_words (word ∷ words) = fewer word (without_last_zeros words) (length words) (few_words words)

-- a mask that is reported has at most three words
pub at_most_three_words : (a b : Mask) → length (trimmed_words (common a b)) ≤ 3
at_most_three_words a b = few_words (common a b).words

-- attributes are spelled like those of a result
pub attributes_spelled : (asked : Mask) (a : About) (o : Object)
    → spell_attrs asked a o ≡ fattr.spell (record { attrmask = trimmed_words (common asked (readable a.profile)); attr_vals = values asked a o })
unfolding fattr attr_set
attributes_spelled asked a o = refl

-- no more bytes than asked for
pub part_few : (t : Files) (n count : ℕ) → length (part t n 0 count) ≤ count
part_few t n count = omega (arith, length-take count (drop 0 (data_at t n)))
