-- A listing is put whole, or refused where no entry fits.
use Rattle.std.proofs.Common.{◌≡◌, ℕ, ◌+◌, ◌<◌, ◌≤◌, Bool, true, false, List, [], ◌∷◌, ◌++◌, length, take, refl, sym, ◌∙◌, ap, subst, inl, inr, arith}
use Rattle.std.proofs.lemmas.List.{length-append}
use Rattle.std.proofs.lemmas.Bool.{cases_Bool, leb-true, le-leb, lt-ltb, eq-eqb, eqb-true, and_right, and_left, and_from, false_from_ne_true, false≢true}
use Rattle.std.proofs.{lemmas.Bool.eqb-false, Math.Seq.take-append_seam}
use Rattle.std.specs.{Prelude.{nat_lt, ◌==◌, Result, Ok, not}, List.flat_map}
use Rattle.nfs_opens.specs.Steps.{◌>>=◌, ◌>>◌, require}
use Rattle.nfs_xdr.specs.{SheetState.{SheetState, Puts}, declared.status.Status.Status, declared.status.Status.TheVariants.{Nfs4Ok, TooSmall}}
use Rattle.nfs_xdr.specs.Spelling.{number, fixed}
use Rattle.nfs_compound.specs.declared.name_args.ReadDir.{ReadDir}
use Rattle.nfs_results.specs.{Largest.given, declared.res.Entry.Entry, declared.res.ReadDirOk.ReadDirOk}
use Rattle.nfs_results.specs.{Straight.{entry_head, entry_text, read_dir_head, list_end}, Items.fattr, Results.{spell_result, refusal, head}, Parts.parts}
use Rattle.nfs_results.specs.declared.res.Res.TheVariants as Res
use Rattle.nfs_results.proofs.{Lengths.{length_head, length_spelled}, StraightLaws.read_dir_in_parts}
use Rattle.nfs_xdr.proofs.Putting.{length_number, puts_then}
use Rattle.nfs_compound.specs.declared.op_num.OpNum.TheVariants as Num
use Rattle.nfs_names.specs.{declared.context.Context.Context, Comes.Comes, Outcome.{Outcome, done, or_refusal}, Checks.current, declared.node.Node.Node}
use Rattle.nfs_names.specs.{State.State, Fronts.reading_dir, ReadDir.{longest, fitting, left, zeros, fits_none, listed, read_dir}, Lists.Lists}
use Rattle.nfs_names.proofs.{Steps.through, Entering.{length_entry_head, given_least}}
use Rattle.nfs_names.proofs.Terms.{fits}

longest_passes : {A : Type 0} (test : List A → Bool) (xs : List A) → test [] ≡ true → test (longest test xs) ≡ true
longest_passes test [] e = e
longest_passes test (x ∷ xs) e = elim (cases_Bool (test (x ∷ []))) [
  | inl one ↦ rw one (longest_passes (λ more. test (x ∷ more)) xs one)
  | inr none ↦ rw none e
]

-- what fits is within the bytes that are given
pub fitting_within : (s : State) (a : ReadDir) (d : Node) → 16 ≤ a.maxcount → length (flat_map entry_text (fitting s a d)) + 16 ≤ given a.maxcount
unfolding fitting
fitting_within s a d le =
    let least = given_least a.maxcount le in
    leb-true _ _ (longest_passes (fits (given a.maxcount)) (left s a d) (le-leb 16 (given a.maxcount) least))

-- an entry has bytes
pub no_text : (es : List Entry) → length (flat_map entry_text es) ≡ 0 → length es ≡ 0
no_text [] e = refl
no_text (x ∷ es) e =
    let head = length_entry_head x.cookie x.name in
    let whole = length-append (entry_text x) (flat_map entry_text es) in
    let one = length-append (entry_head x.cookie x.name) (fattr.spell x.attrs) in
    absurd (omega arith)

pub too_small : (s : State) (a : ReadDir) (d : Node) → false ≡ (length (fitting s a d) == length (left s a d))
    → length (flat_map entry_text (fitting s a d)) ≡ 0 → fits_none s a d ≡ true
too_small s a d part none =
    let empty = no_text (fitting s a d) none in
    let some : 0 < length (left s a d) = elim (cases_Bool (length (left s a d) == 0)) [
      | inl zero ↦ absurd
          (let z : length (left s a d) ≡ 0 = eqb-true _ _ zero in false≢true (part ∙ eq-eqb (length (fitting s a d)) (length (left s a d)) (empty ∙ sym z)))
      | inr more ↦ (let m = eqb-false _ _ more in omega arith)
    ] in
    and_from _ _ (lt-ltb 0 _ some) (eq-eqb _ _ empty)

pub all_small : (s : State) (a : ReadDir) (d : Node) → true ≡ (length (fitting s a d) == length (left s a d)) → fits_none s a d ≡ false
all_small s a d whole =
    let same : length (fitting s a d) ≡ length (left s a d) = eqb-true _ _ (sym whole) in
    elim (cases_Bool (length (fitting s a d) == 0)) [
      | inl zero ↦ (let z : length (fitting s a d) ≡ 0 = eqb-true _ _ zero in let l : length (left s a d) ≡ 0 = sym same ∙ z in and_left _ _ (ap (nat_lt 0) l))
      | inr more ↦ and_right _ _ more
    ]

pub some_small : (s : State) (a : ReadDir) (d : Node) → (length (flat_map entry_text (fitting s a d)) ≡ 0 → ⊥) → fits_none s a d ≡ false
some_small s a d some = and_right _ _ (false_from_ne_true _ (λ e. some (empty_text (fitting s a d) (eqb-true _ _ e))))
  where
    empty_text : (es : List Entry) → length es ≡ 0 → length (flat_map entry_text es) ≡ 0
    empty_text [] e = refl
    empty_text (x ∷ es) e = absurd (omega arith)

pub lists_none : (answer : Status) (none : Bool) (entries : ReadDirOk) (old new : SheetState)
    → none ≡ true → answer ≡ TooSmall → Puts old new (spell_result (refusal 26 TooSmall)) → Lists answer none entries old new
lists_none answer none entries old new is same put = subst (λ b. Lists answer b entries old new) (sym is) (same, put)

pub lists_some : (answer : Status) (none : Bool) (entries : ReadDirOk) (old new : SheetState) → none ≡ false
    → answer ≡ Nfs4Ok → Puts old new (spell_result (Res.ReadDir entries)) → Lists answer none entries old new
lists_some answer none entries old new is same put = subst (λ b. Lists answer b entries old new) (sym is) (same, put)

pub front_length : length (read_dir_head zeros) ≡ 16
front_length = length-append (head 26 Nfs4Ok) (fixed zeros) ∙ ap (λ n. n + length (fixed zeros)) (length_head 26 Nfs4Ok)

pub end_length : (eof : Bool) → length (list_end eof) ≡ 8
end_length true = omega (arith, length-append (number 0) (number 1), length_number 0, length_number 1)
end_length false = omega (arith, length-append (number 0) (number 0), length_number 0)

-- what was put behind the old bytes is taken back
pub taken_back : (old mid last : SheetState) (a b : List ℕ) (start : ℕ) → Puts old mid a → Puts mid last b
    → start ≡ length old.bytes → record { bytes = take start last.bytes; room = last.room } ≡ old
taken_back old mid last a b start p q is =
    let whole : last.bytes ≡ old.bytes ++ (a ++ b) = (puts_then p q).bytes in
    let bytes : take start last.bytes ≡ old.bytes = ap (λ n. take n last.bytes) is ∙ ap (take (length old.bytes)) whole ∙ take-append_seam old.bytes (a ++ b) in
    let with_bytes : List ℕ → ℕ → SheetState = λ bytes room. record { bytes = bytes; room = room } in
    ap (λ bytes. with_bytes bytes last.room) bytes ∙ ap (with_bytes old.bytes) (q.room ∙ p.room)

pub listed_whole : (s : State) (a : ReadDir) (d : Node) (old mid out new : SheetState) (whole : Bool)
    → Puts old mid (read_dir_head zeros) → Puts mid out (flat_map entry_text (fitting s a d)) → Puts out new (list_end whole)
    → whole ≡ (length (fitting s a d) == length (left s a d)) → Puts old new (spell_result (Res.ReadDir (listed s a d)))
listed_whole s a d old mid out new whole p q r eof =
    subst (Puts old new)
    (ap (λ e. read_dir_head zeros ++ (flat_map entry_text (fitting s a d) ++ list_end e)) eof ∙ sym (read_dir_in_parts (listed s a d)))
    (puts_then p (puts_then q r))

abbrev put_listing : State → Context → ReadDir → Node → Result Outcome Status
put_listing s x a d = require (not (fits_none s a d)) TooSmall >> Ok (done s x (Res.ReadDir (listed s a d)))

pub read_dir_by : (s : State) (x : Context) (a : ReadDir) (v : Result Node Status) → v ≡ reading_dir s x a
    → read_dir s x a ≡ or_refusal s x Num.ReadDir (v >>= put_listing s x a)
unfolding read_dir
read_dir_by s x a v e =
    ap (or_refusal s x Num.ReadDir) (through (current s x) _ Ok (put_listing s x a) ∙ ap (λ v. v >>= put_listing s x a) (sym e))

-- a listing that was put is what READDIR comes to
pub listing_comes : (s : State) (x : Context) (a : ReadDir) (d : Node) (answer : Status) (old new : SheetState)
    → reading_dir s x a ≡ Ok d → Lists answer (fits_none s a d) (listed s a d) old new → Comes (read_dir s x a) old new answer s x
listing_comes s x a d answer old new v lists =
    subst (λ o. Comes o old new answer s x) (sym (read_dir_by s x a (Ok d) (sym v))) (by_fit (fits_none s a d) lists)
  where
    by_fit : (none : Bool) → Lists answer none (listed s a d) old new
        → Comes (or_refusal s x Num.ReadDir (require (not none) TooSmall >> Ok (done s x (Res.ReadDir (listed s a d))))) old new answer s x
    by_fit true l = record { put = l.1; status = l.0; state = refl; context = refl }
    by_fit false l = record { put = l.1; status = l.0; state = refl; context = refl }

-- all behind the status is within the bytes that are given
pub listed_within : (s : State) (a : ReadDir) (d : Node) → 16 ≤ a.maxcount → length (parts (Res.ReadDir (listed s a d))).behind ≤ given a.maxcount
listed_within s a d le =
    let text = flat_map entry_text (fitting s a d) in
    let eof = length (fitting s a d) == length (left s a d) in
    let whole = ap length (read_dir_in_parts (listed s a d)) ∙ length-append (read_dir_head zeros) (text ++ list_end eof) in
    let behind = length-append text (list_end eof) in
    let spelled = length_spelled (Res.ReadDir (listed s a d)) in
    let few = fitting_within s a d le in
    omega (arith, front_length, end_length eof)
