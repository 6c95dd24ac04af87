use Rattle.std.proofs.Common.{ℕ, ◌≡◌, ◌<◌, take, drop, length, get_or, ap, ◌∙◌, rules, arith, refl}
use Rattle.std.specs.Int.{w64, from_be_bytes}
use Rattle.nfs_xdr.specs.Spelling.{hyper}
use Rattle.nfs_sessions.proofs.IdLemmas.{halves}
use Rattle.nfs_sessions.proofs.id.SessionId.from_bytes.Goals as goal

pub returns-clause-spelled : goal.returns-clause-spelled
unfolding hyper
returns-clause-spelled c =
    let first : c.from_be_bytes.result ≡ from_be_bytes w64 (take 8 c.args.bytes.now) =
    c.from_be_bytes.ensures ∙ ap (from_be_bytes w64) (c.copy_from_slice.ensures.after ∙ c.split_at.ensures.front) in
    let second : c.from_be_bytes-2.result ≡ from_be_bytes w64 (drop 8 c.args.bytes.now) =
    c.from_be_bytes-2.ensures ∙ ap (from_be_bytes w64) (c.copy_from_slice-2.ensures.after ∙ c.split_at.ensures.back) in
    let all : length c.args.bytes.now ≡ 16 = omega (arith, ap length c.copy_from_slice-2.ensures.after, c.split_at.ensures.back_len) in
    let small : (i : ℕ) → get_or c.args.bytes.now i 0 < 256 = λ i. search (rules, c.fits-bytes) in
    halves c.args.bytes.now _ _ all small first second

pub returns-clause-read : goal.returns-clause-read
returns-clause-read c =
    let first : c.from_be_bytes.result ≡ from_be_bytes w64 (take 8 c.args.bytes.now) =
    c.from_be_bytes.ensures ∙ ap (from_be_bytes w64) (c.copy_from_slice.ensures.after ∙ c.split_at.ensures.front) in
    let second : c.from_be_bytes-2.result ≡ from_be_bytes w64 (drop 8 c.args.bytes.now) =
    c.from_be_bytes-2.ensures ∙ ap (from_be_bytes w64) (c.copy_from_slice-2.ensures.after ∙ c.split_at.ensures.back) in
    rw (first, second) refl
