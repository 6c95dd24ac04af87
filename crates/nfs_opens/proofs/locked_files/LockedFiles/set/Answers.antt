use Rattle.std.proofs.{Common.{ℕ, inr, sym, ◌∙◌, ap, Some}, lemmas.Result.{on_ok_weaker, on_err_weaker}}
use Rattle.std.specs.BTreeMap.{BTreeMap}
use Rattle.nfs_ranges.specs.Holders.{Holders, LockedBytes, holding}
use Rattle.nfs_opens.specs.Holding.{held_by}
use Rattle.nfs_opens.proofs.FileLemmas.{holders_of, held_found, held_updated, held_written, written_same, lists_same, lists_one}
use Rattle.nfs_opens.proofs.locked_files.LockedFiles.set.Goals as goal

pub returns-in-Some-clause-ok : goal.returns-in-Some-clause-ok
returns-in-Some-clause-ok c =
    rw (← c.self.view_is) (on_ok_weaker c.set.result
    (λ made. held_written c.args.file (λ (h : Holders). holding h c.args.state c.args.kind c.args.first c.args.last) c.self.inside.files
    (c.get_mut.follows.lender c.set.new.self) c.in-Some.ranges.now c.set.new.self (sym c.in-Some.ensures.value) (c.get_mut.follows.holds c.set.new.self) made)
    c.set.ensures.ok)

pub returns-in-Some-clause-err : goal.returns-in-Some-clause-err
returns-in-Some-clause-err c =
    rw (← c.self.view_is) (on_err_weaker c.set.result
    (λ same. written_same c.args.file c.self.inside.files (c.get_mut.follows.lender c.set.new.self) c.in-Some.ranges.now c.set.new.self
    (sym c.in-Some.ensures.value) (c.get_mut.follows.holds c.set.new.self) same)
    c.set.ensures.err)

pub returns-clause-ok : goal.returns-clause-ok
returns-clause-ok c =
    let g = λ (h : Holders). holding h c.args.state c.args.kind c.args.first c.args.last in
    let none = ap (λ (m : BTreeMap ℕ LockedBytes). held_by m.entries c.args.file) c.get_mut.follows.holds-at-none ∙ held_found c.args.file c.self.inside.files.entries ∙ ap holders_of (sym c.in_default.ensures.value) in
    rw (← c.self.view_is, ← c.get_mut.follows.holds-at-none) (held_updated c.args.file g c.get_mut.follows.lender-at-none c.insert.new.self (Some c.in_ok-locked.locked) c.in_ok-insert.ensures.updates
    (c.in_ok-locked.ensures ∙ ap g (sym none)))

pub returns-in-Some-clause-listed : goal.returns-in-Some-clause-listed
returns-in-Some-clause-listed c f some = inr (rw (← c.self.view_is) (lists_same c.args.file c.self.inside.files (c.get_mut.follows.lender c.set.new.self) c.in-Some.ranges.now c.set.new.self
    (sym c.in-Some.ensures.value) (c.get_mut.follows.holds c.set.new.self) f some))

pub returns-clause-listed : goal.returns-clause-listed
returns-clause-listed c f some = rw (← c.self.view_is, ← c.get_mut.follows.holds-at-none)
    (lists_one c.args.file c.get_mut.follows.lender-at-none c.insert.new.self (Some c.in_ok-locked.locked) c.in_ok-insert.ensures.updates f some)
