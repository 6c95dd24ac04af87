use Rattle.std.proofs.Common.{ℕ, List, sym, ◌∙◌, ap, rules}
use Rattle.std.specs.{Ordering.nat_cmp, BTreeMap.Range.entries_between, declared.ops.Bound.TheVariants.{Excluded, Unbounded}}
use Rattle.nfs_clients.specs.Roster.{ClientRecord}
use Rattle.nfs_clients.proofs.FiledLemmas.{first_of, first_behind}
use Rattle.nfs_clients.proofs.records.Records.next.Goals as goal

pub returns-in-Some : goal.returns-in-Some
returns-in-Some c =
    let is = c.range-rest.ensures.between (search rules) in
    rw (← c.self.view_is) (ap first_of (sym c.in-Some.ensures.steps) ∙ ap first_of is
    ∙ ap (λ (es : List (ℕ × ClientRecord)). first_of (entries_between nat_cmp (Excluded c.args.after) Unbounded es)) c.self.invariant.filed
    ∙ first_behind c.args.after _)

pub returns-in-None : goal.returns-in-None
returns-in-None c =
    let is = c.range-rest.ensures.between (search rules) in
    rw (← c.self.view_is) (ap first_of (sym c.in-None.ensures.steps.0) ∙ ap first_of is
    ∙ ap (λ (es : List (ℕ × ClientRecord)). first_of (entries_between nat_cmp (Excluded c.args.after) Unbounded es)) c.self.invariant.filed
    ∙ first_behind c.args.after _)
