use Rattle.std.proofs.Common.{List, ◌∷◌, length, inr, ap, sym, subst, ◌∙◌, arith}
use Rattle.nfs_xdr.specs.{Caller.caller, Tables.In, declared.status.Status.TheVariants.{Nfs4Ok, MinorVersMismatch}}
use Rattle.nfs_compound.specs.{declared.op.Item.Item, Request.Request}
use Rattle.nfs_names.specs.{StoreInvariants.IsStore, Outcome.is_lack}
use Rattle.nfs_exec.specs.Step.Machine.{Machine, machine_of}
use Rattle.nfs_exec.proofs.{Step.LeaseMoments.first_stores, Step.RefusalsFit.{opened_all, opened_bears, opened_few}}
use Rattle.nfs_exec.proofs.{Step.RepliesKept.{any_head_fits, head_fits, alone_fits, has_one}, Step.CompoundCases.{for_sequence, for_other}}
use Rattle.nfs_exec.proofs.tables.Tables.compound.Goals as goal

pub write_compound_head-requires-clause-room : goal.write_compound_head-requires-clause-room
write_compound_head-requires-clause-room c = any_head_fits c.args.out.now MinorVersMismatch c.tag-tag.result.now 0 c.tag-tag.ensures.bound c.requires.room

pub write_compound_head-requires-in_default-clause-room : goal.write_compound_head-requires-in_default-clause-room
write_compound_head-requires-in_default-clause-room c = any_head_fits c.args.out.now Nfs4Ok c.tag-tag.result.now 0 c.tag-tag.ensures.bound c.requires.room

pub in_session-requires-clause-bears : goal.in_session-requires-clause-bears
in_session-requires-clause-bears c = λ i there. opened_all c.args.args.now c.requires.opened
    (sym c.minor.ensures ∙ c.if-minor-ne-MINOR_VERSION.false) i (subst (λ (xs : List Item). In i xs) (sym c.in-Some.ensures.item) (inr there))

pub in_session-requires-clause-few : goal.in_session-requires-clause-few
in_session-requires-clause-few c =
    let few = opened_few c.args.args.now c.requires.opened (sym c.minor.ensures ∙ c.if-minor-ne-MINOR_VERSION.false) in
    let long = ap (λ (xs : List Item). length xs) c.in-Some.ensures.item in
    let same = ap (λ (r : Request). r.declared) c.in-Some.ensures.head in
    omega (arith, few, long, same)

pub put-head-requires : goal.put-head-requires
put-head-requires c = record { tag = c.tag-tag.ensures.bound; room = head_fits c.args.out.now c.tag-tag.result.now c.tag-tag.ensures.bound c.requires.room }

pub alone-status-requires : goal.alone-status-requires
alone-status-requires c = record {
  bears = opened_bears c.args.args.now c.in-Some.item c.next.new.self.left c.requires.opened
      (sym c.minor.ensures ∙ c.if-minor-ne-MINOR_VERSION.false) c.in-Some.ensures.item;
  machine = c.requires.kept.machine;
  store = c.requires.kept.store;
  latest = c.requires.latest;
  room = alone_fits c.args.out.now c.put-head.new.out c.tag-tag.result.now c.tag-tag.ensures.bound c.requires.room c.put-head.ensures.puts;
}

pub close-requires : goal.close-requires
close-requires c = record {
  stands = has_one c.args.out.now c.put-head.new.out c.alone-status.new.out c.put-head.result.status_at
      c.put-head.result.count_at c.tag-tag.result.now _ c.put-head.ensures.places c.put-head.ensures.puts c.alone-status.ensures.put;
}

pub returns-in-Some-sequence_in : goal.returns-in-Some-sequence_in
returns-in-Some-sequence_in c = record {
  answer = (
    c.in_session.ensures.answer.0,
    for_sequence (machine_of c.args.self.now) c.args.args.now c.next.new.self (caller c.args.who.now) c.args.size c.args.now
        c.in_session.ensures.answer.0 c.in-Some-sequence_in.asked.now c.args.out.now c.in_session.new.out (machine_of c.in_session.new.self)
        (sym c.minor.ensures ∙ c.if-minor-ne-MINOR_VERSION.false) (c.in-Some.ensures.item ∙ ap (λ i. i ∷ c.next.new.self.left) c.in-Some-sequence_in.ensures)
        c.in-Some.ensures.head c.in_session.ensures.answer.1,
  );
  store = c.in_session.ensures.store;
}

pub returns-in-None : goal.returns-in-None
returns-in-None c = record {
  answer =
      for_other (machine_of c.args.self.now) c.args.args.now (caller c.args.who.now) c.args.size c.args.now c.declared.result
      c.in-Some.item c.next.new.self.left c.alone-status.result c.put-head.result.status_at c.put-head.result.count_at
      c.tag-tag.result.now
      c.args.out.now c.put-head.new.out c.alone-status.new.out c.close.new.out (machine_of c.alone-status.new.self)
      (sym c.minor.ensures ∙ c.if-minor-ne-MINOR_VERSION.false) c.in-Some.ensures.item c.in-None.ensures
      (c.declared.ensures ∙ ap (λ (r : Request). r.declared) c.in-Some.ensures.head) c.tag-tag.ensures.value
      c.put-head.ensures.places c.put-head.ensures.puts c.alone-status.ensures c.close.ensures;
  store =
      subst (λ (m : Machine). IsStore m.store) (sym c.alone-status.ensures.machine)
      (first_stores (machine_of c.args.self.now) c.declared.result (caller c.args.who.now) c.args.now
      (is_lack c.alone-status.result) c.in-Some.item c.requires.kept.store);
}
