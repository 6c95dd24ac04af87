use Rattle.std.proofs.Common.{sym, ◌∙◌, ap}
use Rattle.nfs_ranges.specs.Holders.{Holders, dropped}
use Rattle.nfs_opens.specs.Holding.{held_by}
use Rattle.nfs_opens.proofs.FileLemmas.{holders_of, held_found, held_written, on_file_same, nobody_dropped, lists_same}
use Rattle.nfs_opens.proofs.locked_files.LockedFiles.drop_state.Goals as goal

pub returns-in-Some-clause-held : goal.returns-in-Some-clause-held
returns-in-Some-clause-held c =
    rw (← c.self.view_is) (held_written c.args.file (λ (h : Holders). dropped h c.args.state) c.self.inside.files (c.get_mut.follows.lender c.drop_owner.new.self)
    c.in-Some.ranges.now c.drop_owner.new.self (sym c.in-Some.ensures.value) (c.get_mut.follows.holds c.drop_owner.new.self) c.drop_owner.ensures)

pub returns-clause-held : goal.returns-clause-held
returns-clause-held c =
    let none = held_found c.args.file c.self.inside.files.entries ∙ ap holders_of (sym c.in_default.ensures.value) in
    rw (← c.self.view_is, c.get_mut.follows.holds-at-none) (on_file_same (held_by c.self.inside.files.entries) c.args.file (λ (h : Holders). dropped h c.args.state)
    (ap (λ (h : Holders). dropped h c.args.state) none ∙ (nobody_dropped c.args.state ∙ sym none)))

pub returns-in-Some-clause-listed : goal.returns-in-Some-clause-listed
returns-in-Some-clause-listed c = rw (← c.self.view_is) (lists_same c.args.file c.self.inside.files (c.get_mut.follows.lender c.drop_owner.new.self) c.in-Some.ranges.now
    c.drop_owner.new.self (sym c.in-Some.ensures.value) (c.get_mut.follows.holds c.drop_owner.new.self))

pub returns-clause-listed : goal.returns-clause-listed
returns-clause-listed c = rw (← c.self.view_is, c.get_mut.follows.holds-at-none) (λ f some. some)
