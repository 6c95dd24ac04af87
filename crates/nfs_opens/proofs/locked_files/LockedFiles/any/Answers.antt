use Rattle.std.proofs.Common.{sym, ◌∙◌, ap}
use Rattle.nfs_ranges.specs.Holders.{Holders, holds_any}
use Rattle.nfs_opens.proofs.FileLemmas.{holders_of, held_found, nobody_holds}
use Rattle.nfs_opens.proofs.locked_files.LockedFiles.any.Goals as goal

pub returns-in-Some : goal.returns-in-Some
returns-in-Some c =
    let held = held_found c.args.file c.self.inside.files.entries ∙ ap holders_of (sym c.in-Some.ensures.value) in
    rw (← c.self.view_is) (c.any.ensures ∙ sym (ap (λ (h : Holders). holds_any h c.args.state) held))

pub returns-in-None : goal.returns-in-None
returns-in-None c =
    let held = held_found c.args.file c.self.inside.files.entries ∙ ap holders_of (sym c.in-None.ensures.value) in
    rw (← c.self.view_is) (sym (ap (λ (h : Holders). holds_any h c.args.state) held ∙ nobody_holds c.args.state))
