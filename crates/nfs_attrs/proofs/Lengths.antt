-- How long the spellings of values are.
use Rattle.std.proofs.{Common.{◌≡◌, ◌+◌, ◌*◌, ◌%◌, length, arith}, lemmas.List.{length-append, length-replicate}}
use Rattle.std.specs.List.{flat_map}
use Rattle.nfs_xdr.specs.{Spelling.number, Time.time, declared.time.Time.Time}
use Rattle.nfs_xdr.proofs.Putting.{length_number, length_hyper}
use Rattle.nfs_attrs.specs.{Mask.{trimmed_words, spell_mask}, Wire.nfs_fh4, declared.handle.Handle.Handle, declared.mask.Mask.Mask}
use Rattle.nfs_attrs.proofs.MaskWords.{length_numbers}

pub length_handle : (h : Handle) → length (nfs_fh4 h).bytes ≡ 16
length_handle h = simp (length-append, length_number, length_hyper)

pub length_time : (t : Time) → length (time.spell t) ≡ 12
unfolding time
length_time t = simp (length-append, length_number, length_hyper)

pub length_mask : (mask : Mask) → length (spell_mask mask) ≡ 4 + 4 * length (trimmed_words mask)
length_mask mask =
    let words = trimmed_words mask in
    let parts : length (spell_mask mask) ≡ length (number (length words)) + length (flat_map number words) =
    length-append (number (length words)) (flat_map number words) in
    omega (arith, parts, length_number (length words), length_numbers words)

pub whole_words_of_mask : (mask : Mask) → length (spell_mask mask) % 4 ≡ 0
whole_words_of_mask mask = omega (arith, length_mask mask)

pub ruleset measuring = (length_number, length_hyper, length-append, length-replicate, length_handle, length_time, length_numbers)
