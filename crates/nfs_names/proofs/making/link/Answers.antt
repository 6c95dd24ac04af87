use Rattle.std.proofs.Common.{◌≡◌, true, refl, sym, ap, ◌∙◌}
use Rattle.std.specs.Prelude.{Ok, Err}
use Rattle.nfs_compound.specs.declared.op_num.OpNum.TheVariants as Num
use Rattle.nfs_results.specs.declared.res.Res.TheVariants as Res
use Rattle.nfs_tree.specs.{Files.raised, Names.with_link, Calls.link_fault}
use Rattle.nfs_names.specs.{State.{state_of, with_tree}, Create.change_info, Faults.tree_fault_status, Link.link, Fronts.linking}
use Rattle.nfs_names.proofs.{NameLaws.linked, Changing.{linking_refuses, link_asks, goes, stops, errs}, Faulted.{told_done, told_fault, told_stop, plain_fault}}
use Rattle.nfs_names.proofs.making.link.Goals as goal

pub returns-in-Ok-link : goal.returns-in-Ok-link
returns-in-Ok-link c =
    let s = state_of c.args.store.now in
    let x = c.args.context.now in
    let p = c.in-Ok.p in
    let name = c.args.name.now in
    ap (λ info. record { result = Res.Link info; state = with_tree s c.link.new.self; context = x }) c.change_info.ensures
    ∙ told_done true true s x Num.Link (link s x c.args.now name) (λ k. Res.Link (change_info k)) (λ k. x)
    (link_fault s.tree p.saved.number p.current.number name) (raised s.tree p.current.number) c.in-Ok-link.change
    (with_link s.tree p.saved.number p.current.number name c.args.now) c.link.new.self
    (λ none. goes (link_asks s x c.args.now name) p (sym c.judge_link.ensures ∙ c.in-Ok.is) none) c.in-Ok-link.ensures

pub returns-in-Err-link : goal.returns-in-Err-link
returns-in-Err-link c =
    let s = state_of c.args.store.now in
    let x = c.args.context.now in
    let p = c.in-Ok.p in
    let name = c.args.name.now in
    let f = c.in-Err-link.fault in
    let v : linking s x name ≡ Ok p = sym c.judge_link.ensures ∙ c.in-Ok.is in
    told_fault true true s x Num.Link (link s x c.args.now name) (linked s x c.args.now name p) _
    (link_fault s.tree p.saved.number p.current.number name) (raised s.tree p.current.number)
    (with_link s.tree p.saved.number p.current.number name c.args.now) c.link.new.self f (tree_fault_status f) refl (plain_fault s Num.Link f refl)
    (c.refuse.ensures ∙ ap (Res.Refused 11) c.status_of.ensures)
    (λ none. goes (link_asks s x c.args.now name) p v none)
    (λ other. stops (link_asks s x c.args.now name) p f v other.0) refl c.in-Err-link.ensures

pub returns-in-Err : goal.returns-in-Err
returns-in-Err c =
    let s = state_of c.args.store.now in
    let x = c.args.context.now in
    let name = c.args.name.now in
    let is : linking s x name ≡ Err c.in-Err.status = sym c.judge_link.ensures ∙ c.in-Err.is in
    told_stop true s x Num.Link (link s x c.args.now name) _ c.in-Err.status ((linking_refuses s x name).each _ is)
    (errs (link_asks s x c.args.now name) _ is) c.refuse-in-Err.ensures
