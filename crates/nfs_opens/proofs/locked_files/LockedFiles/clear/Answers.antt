use Rattle.std.proofs.{Common.{sym, ◌∙◌, ap}, lemmas.Result.{on_ok_weaker, on_err_weaker}}
use Rattle.nfs_ranges.specs.Holders.{Holders, cleared}
use Rattle.nfs_opens.specs.Holding.{held_by}
use Rattle.nfs_opens.proofs.FileLemmas.{holders_of, held_found, held_written, written_same, on_file_same, nobody_cleared, lists_same}
use Rattle.nfs_opens.proofs.locked_files.LockedFiles.clear.Goals as goal

pub returns-in-Some-clause-ok : goal.returns-in-Some-clause-ok
returns-in-Some-clause-ok c =
    rw (← c.self.view_is) (on_ok_weaker c.clear.result
    (λ made. held_written c.args.file (λ (h : Holders). cleared h c.args.state c.args.first c.args.last) c.self.inside.files
    (c.get_mut.follows.lender c.clear.new.self) c.in-Some.ranges.now c.clear.new.self (sym c.in-Some.ensures.value) (c.get_mut.follows.holds c.clear.new.self) made)
    c.clear.ensures.ok)

pub returns-in-Some-clause-err : goal.returns-in-Some-clause-err
returns-in-Some-clause-err c =
    rw (← c.self.view_is) (on_err_weaker c.clear.result
    (λ same. written_same c.args.file c.self.inside.files (c.get_mut.follows.lender c.clear.new.self) c.in-Some.ranges.now c.clear.new.self
    (sym c.in-Some.ensures.value) (c.get_mut.follows.holds c.clear.new.self) same)
    c.clear.ensures.err)

pub returns-clause-ok : goal.returns-clause-ok
returns-clause-ok c =
    let none = held_found c.args.file c.self.inside.files.entries ∙ ap holders_of (sym c.in_default.ensures.value) in
    rw (← c.self.view_is, c.get_mut.follows.holds-at-none) (on_file_same (held_by c.self.inside.files.entries) c.args.file (λ (h : Holders). cleared h c.args.state c.args.first c.args.last)
    (ap (λ (h : Holders). cleared h c.args.state c.args.first c.args.last) none ∙ (nobody_cleared c.args.state c.args.first c.args.last ∙ sym none)))

pub returns-in-Some-clause-listed : goal.returns-in-Some-clause-listed
returns-in-Some-clause-listed c = rw (← c.self.view_is) (lists_same c.args.file c.self.inside.files (c.get_mut.follows.lender c.clear.new.self) c.in-Some.ranges.now c.clear.new.self
    (sym c.in-Some.ensures.value) (c.get_mut.follows.holds c.clear.new.self))

pub returns-clause-listed : goal.returns-clause-listed
returns-clause-listed c = rw (← c.self.view_is, c.get_mut.follows.holds-at-none) (λ f some. some)
