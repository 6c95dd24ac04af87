use Rattle.std.proofs.Common.{◌≡◌, ap, ◌∙◌}
use Rattle.std.specs.Prelude.{◌==◌, ◌&&◌}
use Rattle.nfs_opens.specs.{declared.share.Share.Share, declared.records.OpenState.OpenState, Counts.{count_of, share_denied}, Table.{Kept, table}}
use Rattle.nfs_opens.proofs.CountLemmas.{many_any}
use Rattle.nfs_opens.proofs.opens.Opens.denies.Goals as goal
use Rattle.nfs_opens.proofs.opens.Opens.denies.Goals.{After-denied}

told : (c : After-denied) → c.denied.result ≡ share_denied (count_of (λ o. o.file == c.args.file) (table c.args.self.now).opens)
told c = c.denied.ensures
    ∙ ap share_denied (c.count_on.ensures ∙ ap (λ (k : Kept). count_of (λ (o : OpenState). o.file == c.args.file) k.opens) c.self.view_is)

pub returns-clause-reads : goal.returns-clause-reads
returns-clause-reads c =
    let at = goal.at.returns-clause-reads c in
    ap (λ (s : Share). s.reads) (told at.After-denied)
    ∙ many_any (λ (o : OpenState). (o.file == c.args.file) && o.deny.reads) (table c.args.self.now).opens

pub returns-clause-writes : goal.returns-clause-writes
returns-clause-writes c =
    let at = goal.at.returns-clause-writes c in
    ap (λ (s : Share). s.writes) (told at.After-denied)
    ∙ many_any (λ (o : OpenState). (o.file == c.args.file) && o.deny.writes) (table c.args.self.now).opens
