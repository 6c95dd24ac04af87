use Rattle.std.proofs.Common.{◌≡◌, flat_map, take, ◌++◌}
use Rattle.std.specs.Int.{w32, to_be_bytes}
use Rattle.nfs_testing.proofs.bytes_of.Given as goal

abbrev pub invariant-loop-word : goal.invariant-loop-word
invariant-loop-word l = l.bytes.items ≡ l.initial.bytes.items ++ flat_map (to_be_bytes w32) (take l.word-index l.word-items)

abbrev pub invariant-loop-words : goal.invariant-loop-words
invariant-loop-words l = l.bytes.items ≡ flat_map (to_be_bytes w32) (flat_map (λ words. words.now) (take l.words-index l.lists))
