use Rattle.std.proofs.Common.{sym, refl, subst, ◌∙◌}
use Rattle.std.specs.Prelude.{Ok, Err}
use Rattle.nfs_xdr.specs.{SheetState.Puts, declared.status.Status.TheVariants.Nfs4Ok}
use Rattle.nfs_compound.specs.declared.op_num.OpNum.TheVariants as Num
use Rattle.nfs_results.specs.declared.res.Res.TheVariants as Res
use Rattle.nfs_results.specs.Results.{spell_result}
use Rattle.nfs_attrs.specs.declared.mask.Mask.{Mask}
use Rattle.nfs_names.specs.{State.state_of, Outcome.Outcome, Attributes.attributes_of, Comes.Comes, Fronts.getting_attr}
use Rattle.nfs_names.proofs.{Found.{sized_ok, sized_err}, Fronted.{get_attr_by, refusal_comes}}
use Rattle.nfs_names.proofs.attributes.get_attr.Goals as goal

pub put_attributes-requires-clause-size : goal.put_attributes-requires-clause-size
put_attributes-requires-clause-size c =
    let s = state_of c.args.store.now in
    (sized_ok s (getting_attr s c.args.context.now c.args.asked.now) (c.in-Ok.d, c.in-Ok.size) (sym c.judge_mask.ensures ∙ c.in-Ok.is)).1

pub returns-in-Ok : goal.returns-in-Ok
returns-in-Ok c =
    let s = state_of c.args.store.now in
    let x = c.args.context.now in
    let d = c.in-Ok.d in
    let found = sized_ok s (getting_attr s x c.args.asked.now) (d, c.in-Ok.size) (sym c.judge_mask.ensures ∙ c.in-Ok.is) in
    let old = c.args.out.now in
    let new = c.put_attributes.new.out in
    subst (λ (o : Outcome). Comes o old new Nfs4Ok s x) (sym (get_attr_by s x c.args.asked.now (Ok d) (sym found.0)))
    (record {
      put = subst (λ (m : Mask). Puts old new (spell_result (Res.GetAttr (attributes_of s m d)))) c.mask_in.ensures c.put_attributes.ensures;
      status = refl;
      state = refl;
      context = refl;
    })

pub returns-in-Err : goal.returns-in-Err
returns-in-Err c =
    let s = state_of c.args.store.now in
    let x = c.args.context.now in
    refusal_comes s x Num.GetAttr _ c.in-Err.status _ _ _
    (get_attr_by s x c.args.asked.now (Err c.in-Err.status)
    (sym (sized_err s (getting_attr s x c.args.asked.now) c.in-Err.status (sym c.judge_mask.ensures ∙ c.in-Err.is)))) c.put_refusal.ensures.status c.put_refusal.ensures.put
