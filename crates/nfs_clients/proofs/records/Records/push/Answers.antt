use Rattle.std.proofs.Common.{sym, ◌∙◌, ap, subst, ℕ, List}
use Rattle.std.specs.{Ordering.nat_cmp, BTreeMap.insert_entry}
use Rattle.nfs_xdr.specs.Tables.{IsRising}
use Rattle.nfs_clients.specs.Roster.{ClientRecord}
use Rattle.nfs_clients.proofs.{Members.the_id, FiledLemmas.push_filed}
use Rattle.nfs_clients.proofs.records.Records.push.Goals as goal

pub invariant_of-self-2 : goal.invariant_of-self-2
invariant_of-self-2 c = (push_filed c.self.inside.by_id.entries c.insert.new.self.entries c.args.client c.self.invariant
    (subst (λ (cs : List ClientRecord). IsRising the_id 0 cs c.args.client.id) (sym c.self.view_is) c.requires)
    (c.in_ok-insert.ensures.entries ∙ ap (λ (n : ℕ). insert_entry nat_cmp c.self.inside.by_id.entries n c.args.client) c.id.ensures)).is

pub returns-clause-ok : goal.returns-clause-ok
returns-clause-ok c = rw (← c.self.view_is) (push_filed c.self.inside.by_id.entries c.insert.new.self.entries c.args.client c.self.invariant
    (subst (λ (cs : List ClientRecord). IsRising the_id 0 cs c.args.client.id) (sym c.self.view_is) c.requires)
    (c.in_ok-insert.ensures.entries ∙ ap (λ (n : ℕ). insert_entry nat_cmp c.self.inside.by_id.entries n c.args.client) c.id.ensures)).view
