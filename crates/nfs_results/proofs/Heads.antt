-- A word that is written over another, and the head of a compound's result with another status and count.
use Rattle.std.proofs.Common.{◌≡◌, ℕ, ◌+◌, ◌≤◌, List, ◌++◌, length, take, drop, append_assoc, sym, ap, ◌∙◌, arith}
use Rattle.std.proofs.lemmas.List.{length-append, take_at, drop_at, drop-drop, length-drop, length-take-le}
use Rattle.nfs_xdr.specs.{Spelling.{number, opaque}, declared.status.Status.Status, Status.status_number}
use Rattle.nfs_xdr.proofs.Putting.{length_number}
use Rattle.nfs_results.specs.{Results.spell_compound_head, OpenHead.HeadsAt}

-- what `set_u32` makes of bytes
abbrev pub set_at : (at : ℕ) (word bytes : List ℕ) → List ℕ
set_at at word bytes = take at bytes ++ word ++ drop (at + 4) bytes

set_word : (front old new behind : List ℕ) (at : ℕ) → length front ≡ at → length old ≡ 4 → set_at at new (front ++ (old ++ behind)) ≡ front ++ (new ++ behind)
set_word front old new behind at before four =
    let past : drop (at + 4) (front ++ (old ++ behind)) ≡ behind =
    sym (drop-drop 4 at (front ++ (old ++ behind))) ∙ ap (drop 4) (drop_at front (old ++ behind) at before) ∙ drop_at old behind 4 four in
    rw (take_at front (old ++ behind) at before, past) (append_assoc front new behind)

-- a head with its status in front, and with its count behind
status_first : (before : List ℕ) (status : Status) (count : ℕ) (tag behind : List ℕ)
    → (before ++ spell_compound_head status tag count) ++ behind ≡ before ++ (number (status_number status) ++ ((opaque tag ++ number count) ++ behind))
status_first before status count tag behind =
    append_assoc before (number (status_number status) ++ (opaque tag ++ number count)) behind
    ∙ ap (λ (w : List ℕ). before ++ w) (append_assoc (number (status_number status)) (opaque tag ++ number count) behind)

count_last : (before : List ℕ) (status : Status) (count : ℕ) (tag behind : List ℕ)
    → (before ++ spell_compound_head status tag count) ++ behind ≡ ((before ++ number (status_number status)) ++ opaque tag) ++ (number count ++ behind)
count_last before status count tag behind =
    status_first before status count tag behind
    ∙ ap (λ (w : List ℕ). before ++ (number (status_number status) ++ w)) (append_assoc (opaque tag) (number count) behind)
    ∙ sym (append_assoc before (number (status_number status)) (opaque tag ++ (number count ++ behind)))
    ∙ sym (append_assoc (before ++ number (status_number status)) (opaque tag) (number count ++ behind))

pub set_head : (before : List ℕ) (s : Status) (tag : List ℕ) (n : ℕ) (behind : List ℕ) (status : Status) (count status_at count_at : ℕ)
    → HeadsAt status_at count_at before tag
    → set_at count_at (number count) (set_at status_at (number (status_number status)) ((before ++ spell_compound_head s tag n) ++ behind))
    ≡ (before ++ spell_compound_head status tag count) ++ behind
set_head before s tag n behind status count status_at count_at at =
    let first : set_at status_at (number (status_number status)) ((before ++ spell_compound_head s tag n) ++ behind)
    ≡ (before ++ spell_compound_head status tag n) ++ behind =
    ap (set_at status_at (number (status_number status))) (status_first before s n tag behind) ∙ set_word before (number (status_number s))
    (number (status_number status)) ((opaque tag ++ number n) ++ behind) status_at (sym at.status) (length_number (status_number s))
    ∙ sym (status_first before status n tag behind) in
    let front : length ((before ++ number (status_number status)) ++ opaque tag) ≡ count_at =
    omega (
      arith,
      at.count,
      length-append (before ++ number (status_number status)) (opaque tag),
      length-append before (number (status_number status)),
      length_number (status_number status),
    ) in
    ap (set_at count_at (number count)) (first ∙ count_last before status n tag behind)
    ∙ set_word ((before ++ number (status_number status)) ++ opaque tag) (number n) (number count) behind count_at front (length_number n)
    ∙ sym (count_last before status count tag behind)

pub length_head : (status : Status) (tag : List ℕ) (count : ℕ) → length (spell_compound_head status tag count) ≡ 8 + length (opaque tag)
length_head status tag count = omega (
  arith,
  length-append (number (status_number status)) (opaque tag ++ number count),
  length-append (opaque tag) (number count),
  length_number (status_number status),
  length_number count,
)

pub length_headed : (before : List ℕ) (status : Status) (count : ℕ) (tag behind : List ℕ)
    → length ((before ++ spell_compound_head status tag count) ++ behind) ≡ length before + 8 + length (opaque tag) + length behind
length_headed before status count tag behind =
    omega (
      arith,
      length-append (before ++ spell_compound_head status tag count) behind,
      length-append before (spell_compound_head status tag count),
      length_head status tag count,
    )

pub length_set_at : (at n : ℕ) (bytes : List ℕ) → at + 4 ≤ length bytes → length (set_at at (number n) bytes) ≡ length bytes
length_set_at at n bytes within =
    omega (
      arith,
      within,
      length-append (take at bytes ++ number n) (drop (at + 4) bytes),
      length-append (take at bytes) (number n),
      length_number n,
      length-take-le at bytes (omega arith),
      length-drop (at + 4) bytes,
    )
