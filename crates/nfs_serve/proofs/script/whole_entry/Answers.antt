use Rattle.std.proofs.Common.{◌≡◌, None, is_some, rules, arith, refl, sym, ap, ◌∙◌}
use Rattle.nfs_xdr.proofs.{Bytes.IsBytes-drop, CodecLaws.IsBytes-take}
use Rattle.nfs_serve.specs.Script.{refusal}
use Rattle.nfs_serve.proofs.{Entries.{front_entry, entry_within}, OneReading.front_is_entry}
use Rattle.nfs_serve.proofs.script.whole_entry.Goals.{then-is_some-via-then-is_some, then-is_some-via-else-is_some+then-len-rest}
use Rattle.nfs_serve.proofs.script.whole_entry.Goals as goal

pub returns-clause-bytes : goal.returns-clause-bytes
returns-clause-bytes c = rw c.in_ok-head.ensures.cases.1
    (IsBytes-take c.head_of-moment.result.2 _ (IsBytes-drop 16 c.args.bytes.now (record { each = λ i. omega (arith, c.type_inv.bytes i) })))

pub returns-clause-whole : goal.returns-clause-whole
returns-clause-whole c =
    let none : refusal c.head_of-moment.result.0 c.head_of-moment.result.1 c.head_of-moment.result.2 ≡ None = search rules in
    front_entry c.args.bytes.now c.in_ok-head.head.now c.in_ok-head.rest.now _ _ _ c.in_ok-head.ensures.cases.0 c.in_ok-head.ensures.cases.1
    c.head_of-moment.ensures.0 none (search rules)

pub returns-in_err-head-clause-none : goal.returns-in_err-head-clause-none
returns-in_err-head-clause-none c = rw c.from_residual.ensures (λ e begins. omega (arith, entry_within e refl begins, c.in_err-head.ensures.cases))

pub returns-then-is_some-clause-none : goal.returns-then-is_some-clause-none
returns-then-is_some-clause-none c = λ e begins.
    let (granted, there) = front_is_entry c.args.bytes.now c.in_ok-head.head.now c.in_ok-head.rest.now _ _ _
    c.in_ok-head.ensures.cases.0 c.in_ok-head.ensures.cases.1 c.head_of-moment.ensures e begins in
    elim c.then-is_some.branch [
      | then-is_some-via-then-is_some w ↦ (let bad = ap is_some (sym (c.refusal_of.ensures ∙ granted)) ∙ sym c.is_some.ensures ∙ w.if-is_some.true in cc)
      | then-is_some-via-else-is_some+then-len-rest w ↦ omega (arith, there, w.if-len-rest.true)
    ]
