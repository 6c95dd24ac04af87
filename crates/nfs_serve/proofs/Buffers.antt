-- What a reader has left, when bytes of its buffer are taken.
use Rattle.std.proofs.Common.{◌≡◌, ℕ, Bool, true, false, List, ◌++◌, take, drop, Option, None, Some, sym, ap, ◌∙◌}
use Rattle.std.proofs.Common.{append_assoc, take-append-drop, ◌==◌, if◌then◌else◌}
use Rattle.std.specs.{Io.KnownBytes.{Consumes, prepend_known}, Io.Buffered.{reader_buffer, reader_inner, reader_capacity, reader_remaining}}
use Rattle.std.specs.declared.io.buffered.BufReader.{BufReader}

loses_front : (empty : Bool) (behind : Option (List ℕ)) (buffer front rest : List ℕ) → front ++ rest ≡ buffer
    → Consumes (if empty then None else prepend_known buffer behind) (if empty then None else prepend_known rest behind) front
loses_front true behind buffer front rest whole = tt
loses_front false None buffer front rest whole = tt
loses_front false (Some bytes) buffer front rest whole = ap (λ l. l ++ bytes) (sym whole) ∙ append_assoc front rest bytes

pub reader_consumed : {T A : Type 0} (remaining : T → Option (List ℕ)) (old new : BufReader T A) (amount : ℕ)
    → reader_buffer new ≡ drop amount (reader_buffer old) → reader_inner new ≡ reader_inner old → reader_capacity new ≡ reader_capacity old
    → Consumes (reader_remaining remaining old) (reader_remaining remaining new) (take amount (reader_buffer old))
reader_consumed remaining old new amount buffer inner capacity =
    rw capacity (rw inner (rw buffer (loses_front (reader_capacity old == 0) (remaining (reader_inner old)) (reader_buffer old)
    (take amount (reader_buffer old)) (drop amount (reader_buffer old)) (take-append-drop amount (reader_buffer old)))))
