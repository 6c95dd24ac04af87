use Rattle.std.proofs.{Common.{ℕ, ◌+◌, ◌≤◌, ◌++◌, List, length, take, get_or, ap, arith}, lemmas.List.length-append}
use Rattle.std.specs.List.{flat_map}
use Rattle.nfs_xdr.specs.Spelling.{number}
use Rattle.nfs_xdr.proofs.Putting.{length_number}
use Rattle.nfs_attrs.specs.Mask.{trimmed_words}
use Rattle.nfs_attrs.proofs.{MaskWords.further_word, Room.room_within}
use Rattle.nfs_attrs.proofs.mask.Mask.put.Goals as goal

pub put_u32-requires-in-loop-word : goal.put_u32-requires-in-loop-word
put_u32-requires-in-loop-word c =
    let words = c.trimmed_words-words.result.now in
    let part = take c.loop-word.word-index words in
    let next = get_or words c.loop-word.word-index 0 in
    let same = ap (λ (w : List ℕ). length (flat_map number w)) c.trimmed_words-words.ensures.words in
    let short : length (number (length words) ++ flat_map number part) + length (number next) ≤ length (number (length (trimmed_words
    c.args.self.now)) ++ flat_map number (trimmed_words c.args.self.now)) =
    omega (
      arith,
      further_word words c.loop-word.word-index c.loop-word-test.true,
      same,
      length_number next,
      length_number (length words),
      length_number (length (trimmed_words c.args.self.now)),
      length-append (number (length words)) (flat_map number part),
      length-append (number (length (trimmed_words c.args.self.now))) (flat_map number (trimmed_words c.args.self.now)),
    ) in
    record { room = room_within c.args.out.now c.loop-word.out _ _ _ c.loop-word.invariant short c.requires.room }
