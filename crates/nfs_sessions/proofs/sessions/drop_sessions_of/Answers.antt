use Rattle.std.proofs.{Common.{rules, tests}, lemmas.Fn.filter_same}
use Rattle.nfs_sessions.proofs.sessions.drop_sessions_of.Goals as goal

pub returns : goal.returns
returns c = filter_same _ _ _ (λ x b f' k. search (rules, tests)) _ _ c.retain.ensures.filtered
