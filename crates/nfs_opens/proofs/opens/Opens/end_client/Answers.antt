use Rattle.std.proofs.Common.{sym, ap, ◌∙◌}
use Rattle.std.specs.{Prelude.{◌==◌}, Option.option_copied}
use Rattle.nfs_opens.specs.{Table.{Table, table}, Calls.without_client}
use Rattle.nfs_opens.proofs.{LockedLemmas.its_file, EndLemmas.{ended_none, ended_step, fewer_opens}}
use Rattle.nfs_opens.proofs.opens.Opens.end_client.Goals as goal

pub remove_open-requires : goal.remove_open-requires
remove_open-requires c = its_file (table c.loop-open.self) (λ o. o.client == c.args.client) c.in-Some.open.now c.first_of.ensures.kept
    (sym c.first_of.ensures.found ∙ ap option_copied c.in-Some.is)

pub loop-open-smaller : goal.loop-open-smaller
loop-open-smaller c = fewer_opens (table c.loop-open.self) (table c.remove_open.new.self) c.args.client c.in-Some.open.now
    (sym c.first_of.ensures.found ∙ ap option_copied c.in-Some.is) c.remove_open.ensures.after

pub loop-open-preserved : goal.loop-open-preserved
loop-open-preserved c = (
  ap (λ (t : Table). without_client t c.args.client) c.remove_open.ensures.after
      ∙ (ended_step (table c.loop-open.self) c.args.client c.in-Some.open.now c.first_of.ensures.kept
      (sym c.first_of.ensures.found ∙ ap option_copied c.in-Some.is)
      ∙ c.loop-open.invariant.0),
  c.remove_open.ensures.room ∙ c.loop-open.invariant.1,
)

pub returns-clause-after : goal.returns-clause-after
returns-clause-after c = ended_none (table c.loop-open.self) c.args.client c.first_of.ensures.kept
    (sym c.first_of.ensures.found ∙ ap option_copied c.in_default.is) ∙ c.loop-open.invariant.0
