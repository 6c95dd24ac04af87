use Rattle.std.proofs.Common.{◌≡◌, Bool, sym, ap, ◌∙◌}
use Rattle.std.specs.{Prelude.{◌||◌}, List.list_any}
use Rattle.nfs_opens.specs.{Counts.{count_of, share_denied, had}, Share.meets, Table.{table, clashes_with}, Calls.asked}
use Rattle.nfs_opens.proofs.ClashLemmas.{clash_counted, is_others}
use Rattle.nfs_opens.proofs.opens.Opens.has_clash.Goals as goal
use Rattle.nfs_opens.proofs.opens.Opens.has_clash.Goals.{After-meets-denies}

-- what both comparisons come to
told : (c : After-meets-denies) → (c.meets-is_denied.result || c.meets-denies.result) ≡ list_any (clashes_with (asked c.args.ask.now)) (table c.args.self.now).opens
told c =
    let a = asked c.args.ask.now in
    let first = c.meets-is_denied.ensures ∙ ap (meets a.access) (c.denied.ensures ∙ ap share_denied c.others_on-others.ensures) in
    let second = c.meets-denies.ensures ∙ ap (meets a.deny) (c.had.ensures ∙ ap had c.others_on-others.ensures) in
    ap (λ (b : Bool). b || c.meets-denies.result) first ∙ (ap (λ (b : Bool). meets a.access (share_denied (count_of (is_others a) (table c.args.self.now).opens)) || b) second ∙ clash_counted a (table c.args.self.now).opens)

pub returns-then-is_denied : goal.returns-then-is_denied
returns-then-is_denied c =
    let at = goal.at.returns-then-is_denied c in
    c.if-is_denied.true ∙ (ap (λ (b : Bool). b || c.meets-denies.result) (sym c.if-is_denied.true) ∙ told at.After-meets-denies)

pub returns-else-is_denied : goal.returns-else-is_denied
returns-else-is_denied c =
    let at = goal.at.returns-else-is_denied c in
    ap (λ (b : Bool). b || c.meets-denies.result) (sym c.if-is_denied.false) ∙ told at.After-meets-denies
