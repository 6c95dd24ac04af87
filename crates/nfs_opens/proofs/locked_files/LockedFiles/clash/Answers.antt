use Rattle.std.proofs.Common.{sym, ◌∙◌, ap}
use Rattle.nfs_opens.proofs.FileLemmas.{holders_of, held_found, nobody_clashes}
use Rattle.nfs_opens.proofs.locked_files.LockedFiles.clash.Goals as goal

pub returns-in-Some : goal.returns-in-Some
returns-in-Some c =
    let held = held_found c.args.file c.self.inside.files.entries ∙ ap holders_of (sym c.in-Some.ensures.value) in
    rw (← c.self.view_is, held) c.clash.ensures

pub returns-in-None : goal.returns-in-None
returns-in-None c =
    let held = held_found c.args.file c.self.inside.files.entries ∙ ap holders_of (sym c.in-None.ensures.value) in
    rw (← c.self.view_is, held) (nobody_clashes c.args.state c.args.kind c.args.first c.args.last)
