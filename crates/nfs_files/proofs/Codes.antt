-- The statuses of stateids, put one behind the other.
use Rattle.std.proofs.Common.{◌≡◌, ℕ, ◌+◌, ◌*◌, ◌/◌, ◌%◌, ◌<◌, ◌≤◌, List, [], ◌∷◌, ◌++◌, length, map, take, get_or, refl, sym, ◌∙◌, ap, subst, arith}
use Rattle.std.proofs.{lemmas.List.{length-append, length-map, take_all}, lemmas.List.Folds.length-flat_map-take}
use Rattle.std.specs.List.{flat_map}
use Rattle.nfs_xdr.specs.{Spelling.number, SheetState.{SheetState, HasRoom, Puts}, declared.status.Status.TheVariants.Nfs4Ok}
use Rattle.nfs_xdr.proofs.Putting.{length_number, puts_then}
use Rattle.nfs_compound.specs.declared.op_num.OpNum.TheVariants as Num
use Rattle.nfs_compound.specs.{OpNum.op_number, declared.stateid.Stateid.Stateid, Stateid.stateid_of}
use Rattle.nfs_results.specs.declared.res.Res.TheVariants as Res
use Rattle.nfs_results.specs.{Results.{spell_result, head}, Straight.test_stateid_head}
use Rattle.nfs_results.proofs.{Lengths.length_head, StraightLaws.test_stateid_in_parts}
use Rattle.nfs_names.specs.{declared.context.Context.Context, State.State}
use Rattle.nfs_files.specs.TestStateid.{code}

-- the codes of stateids as they are spelled
abbrev pub code_words : State → Context → List Stateid → List ℕ
code_words s x pieces = flat_map (λ piece. number (code s x piece)) pieces

pub same_words : (s : State) (x : Context) (pieces : List Stateid) → code_words s x pieces ≡ flat_map number (map (code s x) pieces)
same_words s x [] = refl
same_words s x (piece ∷ pieces) = ap (λ (w : List ℕ). number (code s x piece) ++ w) (same_words s x pieces)

length_words : (s : State) (x : Context) (pieces : List Stateid) → length (code_words s x pieces) ≡ 4 * length pieces
length_words s x [] = refl
length_words s x (piece ∷ pieces) =
    let one = number (code s x piece) in
    omega (arith, length-append one (code_words s x pieces), length_number (code s x piece), length_words s x pieces)

-- room for the code of the next one
pub room_for_code : (s : State) (x : Context) (old now : SheetState) (pieces : List Stateid) (i next : ℕ) → i < length pieces
    → length old.bytes + 4 * length pieces ≤ old.room → Puts old now (code_words s x (take i pieces)) → HasRoom now (number next)
room_for_code s x old now pieces i next lt room put =
    let before = length-flat_map-take (λ (piece : Stateid). number (code s x piece)) pieces i (stateid_of []) lt in
    let one = length_number (code s x (get_or pieces i (stateid_of []))) in
    omega (
      arith,
      put.room,
      ap length put.bytes,
      length-append old.bytes (code_words s x (take i pieces)),
      length_words s x pieces,
      before,
      one,
      length_number next,
    )

pub all_codes : (s : State) (x : Context) (old new : SheetState) (pieces : List Stateid) (i : ℕ) → length pieces ≤ i
    → Puts old new (code_words s x (take i pieces)) → Puts old new (flat_map number (map (code s x) pieces))
all_codes s x old new pieces i over put = subst (λ (w : List ℕ). Puts old new w) (ap (code_words s x) (take_all i pieces over) ∙ same_words s x pieces) put

-- the head and the codes are the result
pub told_codes : (s : State) (x : Context) (old mid new : SheetState) (pieces : List Stateid) (count : ℕ) → number count ≡ number (length pieces)
    → Puts old mid (test_stateid_head count) → Puts mid new (flat_map number (map (code s x) pieces))
    → Puts old new (spell_result (Res.TestStateid (map (code s x) pieces)))
told_codes s x old mid new pieces count is front codes =
    let all = map (code s x) pieces in
    let many : number count ≡ number (length all) = is ∙ ap number (sym (length-map pieces (code s x))) in
    let spelled : test_stateid_head count ++ flat_map number all ≡ spell_result (Res.TestStateid all) =
    ap (λ (w : List ℕ). (head (op_number Num.TestStateid) Nfs4Ok ++ w) ++ flat_map number all) many ∙ sym (test_stateid_in_parts all) in
    subst (λ (w : List ℕ). Puts old new w) spelled (puts_then front codes)

pub length_test_head : (count : ℕ) → length (test_stateid_head count) ≡ 12
length_test_head count =
    omega (arith, length-append (head (op_number Num.TestStateid) Nfs4Ok) (number count), length_head (op_number Num.TestStateid) Nfs4Ok, length_number count)

-- a word holds what is left of a number
pub same_word : (n : ℕ) → number (n % 4294967296) ≡ number n
unfolding number
same_word n =
    let m = n % 4294967296 in
    let a : m / 16777216 % 256 ≡ n / 16777216 % 256 = omega arith in
    let b : m / 65536 % 256 ≡ n / 65536 % 256 = omega arith in
    let c : m / 256 % 256 ≡ n / 256 % 256 = omega arith in
    let d : m % 256 ≡ n % 256 = omega arith in
    λ i. a i ∷ b i ∷ c i ∷ d i ∷ []
