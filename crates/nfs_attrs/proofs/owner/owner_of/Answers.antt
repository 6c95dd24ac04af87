use Rattle.std.proofs.{Common.{◌≡◌, ◌∙◌, sym, ap, arith}, lemmas.Slice.Eq.bytes_eq-Decides, lemmas.Fmt.{IsAscii-decimal, parse-decimal}}
use Rattle.std.proofs.lemmas.Str.{IsUtf8-from_ascii}
use Rattle.std.specs.Fmt.{decimal}
use Rattle.nfs_attrs.proofs.Owners.{owner_some, owner_none}
use Rattle.nfs_attrs.proofs.owner.owner_of.Goals as goal

pub returns-in_default : goal.returns-in_default
returns-in_default c = sym (owner_none c.args.text.now (λ n small e. c.in_default.ensures.cases.0
    (rw e (IsUtf8-from_ascii _ (IsAscii-decimal n (omega arith))))))

pub returns-in_default-parse : goal.returns-in_default-parse
returns-in_default-parse c =
    sym (owner_none c.args.text.now (λ n small e.
    let r = parse-decimal 32 n c.in-Ok.digits.now c.parse.result small (omega arith) (c.in-Ok.ensures.cases.0 ∙ e) c.parse.ensures.value.0 in
    absurd (cc (r, c.in_default-parse.is))))

pub returns-then-eq : goal.returns-then-eq
returns-then-eq c =
    let same = (bytes_eq-Decides c.as_bytes.result.now c.args.text.now).0 (sym c.if-eq.ensures) in
    let parsed = c.in-Ok-parse.ensures.value in
    sym (owner_some c.args.text.now c.in-Ok-parse.number (omega (arith, parsed.0.0.1, parsed.0.1)) (sym same ∙ c.as_bytes.ensures.value
    ∙ c.format.ensures.text))

pub returns-else-eq : goal.returns-else-eq
returns-else-eq c =
    sym (owner_none c.args.text.now (λ n small e.
    let r = parse-decimal 32 n c.in-Ok.digits.now c.parse.result small (omega arith) (c.in-Ok.ensures.cases.0 ∙ e) c.parse.ensures.value.0 in
    let number : c.in-Ok-parse.number ≡ n = cc (r, c.in-Ok-parse.is) in
    let same : c.as_bytes.result.now ≡ c.args.text.now = c.as_bytes.ensures.value ∙ c.format.ensures.text ∙ ap decimal number ∙ sym e in
    absurd (cc ((bytes_eq-Decides c.as_bytes.result.now c.args.text.now).1 same, c.if-eq.ensures))))
