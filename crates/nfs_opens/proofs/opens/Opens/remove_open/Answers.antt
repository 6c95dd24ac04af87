use Rattle.std.proofs.Common.{◌≡◌, sym, subst, ap, ◌∙◌}
use Rattle.std.specs.Prelude.{◌==◌, IfSome}
use Rattle.nfs_opens.specs.{contracts.opens.Opens.the_view, Holding.held_by, Table.{Kept, table, open_at}, TableInvariants.IsTable, Closing.without_open}
use Rattle.nfs_opens.proofs.{TableLemmas.table_closed, LockLemmas.{left_holders, left_held, same_table}, LockedLemmas.{listed_left, under_file}}
use Rattle.nfs_opens.proofs.opens.Opens.remove_open.Goals as goal

pub forget_unlocked-requires : goal.forget_unlocked-requires
forget_unlocked-requires c =
    left_holders (table (the_view c.self.inside)) (λ l. l.opened == c.args.number) c.leave_open.new.locks.items (held_by c.leave_open.new.files) c.self.invariant.table c.leave_open.ensures.locks c.leave_open.ensures.held

pub invariant_of-self : goal.invariant_of-self
invariant_of-self c =
    let t = table (the_view c.self.inside) in
    let held = c.forget_unlocked.ensures.held ∙ left_held t (λ l. l.opened == c.args.number) (held_by c.leave_open.new.files) c.self.invariant.table c.leave_open.ensures.held in
    let same = same_table c.remove.new.self.items _ c.leave_open.new.locks.items _
    (held_by c.forget_unlocked.new.files) _ c.self.inside.last c.self.inside.instance c.remove.ensures.items c.leave_open.ensures.locks held in
    record {
      table = subst IsTable (sym same) (table_closed t c.args.number c.self.invariant.table);
      listed = listed_left (λ l. l.opened == c.args.number) c.args.file c.self.inside.locks.items c.leave_open.new.locks.items c.self.inside.files c.forget_unlocked.new.files
          c.self.invariant.listed
          (under_file t c.args.number c.args.file c.self.invariant.table
          (subst (λ (k : Kept). IfSome (open_at (table k) c.args.number) (λ o. o.file ≡ c.args.file)) (sym c.self.view_is) c.requires))
          c.leave_open.ensures.locks (λ f some. c.leave_open.ensures.listed f (c.forget_unlocked.ensures.listed f some)) c.forget_unlocked.ensures.gone;
      room = λ yes. c.remove.ensures.ready (c.self.invariant.room yes);
    }

pub returns-clause-after : goal.returns-clause-after
returns-clause-after c =
    let t = table (the_view c.self.inside) in
    let held = c.forget_unlocked.ensures.held ∙ left_held t (λ l. l.opened == c.args.number) (held_by c.leave_open.new.files) c.self.invariant.table c.leave_open.ensures.held in
    let same = same_table c.remove.new.self.items _ c.leave_open.new.locks.items _
    (held_by c.forget_unlocked.new.files) _ c.self.inside.last c.self.inside.instance c.remove.ensures.items c.leave_open.ensures.locks held in
    same ∙ ap (λ (k : Kept). without_open (table k) c.args.number) c.self.view_is
