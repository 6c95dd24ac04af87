use Rattle.nfs_opens.specs.{Table.table, declared.share.Share.Share}
use Rattle.nfs_names.specs.{Ending.with_opens, State.state_of, Outcome.{Outcome, answers}}
use Rattle.nfs_results.specs.declared.res.Res.TheVariants as Res
use Rattle.nfs_compound.specs.declared.stateid.Stateid.{Stateid}
use Rattle.nfs_files.specs.{Target.with_stateid, OpenDowngrade.bits, Parts.narrowed}
use Rattle.std.proofs.Common.{◌∙◌, ap}
use Rattle.nfs_compound.specs.declared.op_num.OpNum.TheVariants as Num
use Rattle.nfs_opens.specs.Opening as opens
use Rattle.nfs_files.proofs.Refused.{by_refusal, by_grant}
use Rattle.nfs_files.proofs.closing.narrow_open.Goals as goal

pub returns-in-Err : goal.returns-in-Err
returns-in-Err c =
    let s = state_of c.args.store.now in
    let x = c.args.context.now in
    let t = c.args.target in
    let a = c.args.asked.now in
    let access = c.bits-access.result in
    let deny = c.bits-deny.result in
    let by_shares : Share → Share → Outcome =
    λ access deny. answers s x Num.OpenDowngrade (opens.downgrade s.opens t.id x.client t.file access deny) (λ did. narrowed s x did.0 did.1) in
    by_refusal s x Num.OpenDowngrade (opens.downgrade s.opens t.id x.client t.file access deny) (λ did. narrowed s x did.0 did.1) c.in-Err.status _ _
    c.in-Err.ensures.answer c.in-Err.ensures.after c.refuse.ensures
    ∙ ap (λ v. by_shares v deny) c.bits-access.ensures ∙ ap (by_shares (bits a.share_access)) c.bits-deny.ensures

pub returns-in-Ok : goal.returns-in-Ok
returns-in-Ok c =
    let s = state_of c.args.store.now in
    let x = c.args.context.now in
    let t = c.args.target in
    let a = c.args.asked.now in
    let access = c.bits-access.result in
    let deny = c.bits-deny.result in
    let by_shares : Share → Share → Outcome =
    λ access deny. answers s x Num.OpenDowngrade (opens.downgrade s.opens t.id x.client t.file access deny) (λ did. narrowed s x did.0 did.1) in
    ap (λ (w : Stateid). record { result = Res.OpenDowngrade w; state = with_opens s (table c.downgrade.new.self); context = with_stateid x w }) c.wire_id-id.ensures
    ∙ by_grant s x Num.OpenDowngrade (opens.downgrade s.opens t.id x.client t.file access deny) (λ did. narrowed s x did.0 did.1) c.in-Ok.id _
    c.in-Ok.ensures.answer c.in-Ok.ensures.after
    ∙ ap (λ v. by_shares v deny) c.bits-access.ensures ∙ ap (by_shares (bits a.share_access)) c.bits-deny.ensures
