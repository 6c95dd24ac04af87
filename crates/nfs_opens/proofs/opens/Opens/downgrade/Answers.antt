use Rattle.std.proofs.Common.{◌≡◌, Bool, Option, Some, None, ℕ, suc, sym, subst, ap, ◌∙◌, refl, false, true, arith}
use Rattle.std.specs.{Prelude.{Ok, Result, ok_or}, Option.option_copied}
use Rattle.nfs_xdr.specs.{declared.status.Status.Status, declared.status.Status.TheVariants.{BadStateId, Inval}}
use Rattle.nfs_opens.specs.{contracts.opens.Opens.the_view, declared.share.Share.Share, declared.judging.Sort.TheVariants.OpenOnly}
use Rattle.nfs_opens.specs.{declared.stateid.StateId.StateId, declared.records.OpenState.OpenState, Holding.held_by, Judging.judge, StateId.next_seqid}
use Rattle.nfs_opens.specs.{Steps.{◌>>=◌, ◌>>◌, require}, Table.{Kept, Table, with_open, table, table_after, answer_of, open_at}, TableInvariants.IsTable}
use Rattle.nfs_opens.specs.Opening.{downgrade, is_narrower, narrows}
use Rattle.nfs_opens.proofs.{CallLaws.goes_on, CountLemmas.rising_few, LockLemmas.same_table, StepLemmas.table_narrow}
use Rattle.nfs_opens.proofs.opens.Opens.downgrade.Goals as goal
use Rattle.nfs_opens.proofs.opens.Opens.downgrade.Goals.{After-get, After-is_narrower, After-change}

-- what is found under the number
found : (c : After-get) (o : Option OpenState) → option_copied c.get.result ≡ o → open_at (table (the_view c.self.inside)) c.args.id.number ≡ o
found c o is = sym c.get.ensures ∙ is

-- what a downgrade comes to by what is found, and by whether it has what is left
abbrev by_bits : Table → StateId → Share → Share → OpenState → Bool → Result (StateId × Table) Status
by_bits t id access deny o b = do
  require b Inval
  Ok (record { seqid = next_seqid o.seqid; instance = t.instance; number = id.number }, with_open t id.number (narrows access deny))

abbrev by_state : Table → StateId → Share → Share → Option OpenState → Result (StateId × Table) Status
by_state t id access deny o = do
  o ← ok_or o BadStateId
  by_bits t id access deny o (is_narrower access deny o)

judged : (c : After-get) (o : Option OpenState) → option_copied c.get.result ≡ o
    → downgrade (table c.args.self.now) c.args.id c.args.client c.args.file c.args.access c.args.deny
    ≡ by_state (table c.args.self.now) c.args.id c.args.access c.args.deny o
judged c o is =
    let t = table c.args.self.now in
    goes_on (judge t c.args.id c.args.client (Some c.args.file) OpenOnly) (λ seat. by_state t c.args.id c.args.access c.args.deny (open_at t c.args.id.number))
    c.in_ok-judge.field-0 (sym c.judge.ensures ∙ c.in_ok-judge.was)
    ∙ ap (by_state t c.args.id c.args.access c.args.deny) (ap (λ (k : Kept). open_at (table k) c.args.id.number) (sym c.self.view_is) ∙ found c o is)

some : (c : After-is_narrower) (b : Bool)
    → downgrade (table c.args.self.now) c.args.id c.args.client c.args.file c.args.access c.args.deny
    ≡ by_state (table c.args.self.now) c.args.id c.args.access c.args.deny (Some c.in-Some.open.now)
    → c.is_narrower.result ≡ b
    → downgrade (table c.args.self.now) c.args.id c.args.client c.args.file c.args.access c.args.deny
    ≡ by_bits (table (the_view c.self.inside)) c.args.id c.args.access c.args.deny c.in-Some.open.now b
some c b found is =
    found
    ∙ ap (by_bits (table c.args.self.now) c.args.id c.args.access c.args.deny c.in-Some.open.now) (sym c.is_narrower.ensures ∙ is)
    ∙ ap (λ (k : Kept). by_bits (table k) c.args.id c.args.access c.args.deny c.in-Some.open.now b) (sym c.self.view_is)

-- the opens alone have changed
changed : (c : After-change)
    → table (record (the_view c.self.inside) { opens = c.change.new.self.items })
    ≡ with_open (table (the_view c.self.inside)) c.args.id.number (narrows c.args.access c.args.deny)
changed c = same_table c.change.new.self.items _ c.self.inside.locks.items _
    (held_by c.self.inside.files) _ c.self.inside.last c.self.inside.instance c.change.ensures.items refl refl

pub returns-in-None-clause-after : goal.returns-in-None-clause-after
returns-in-None-clause-after c =
    sym (ap (table_after (table c.args.self.now)) (judged (goal.at.returns-in-None-clause-after c).After-get None (ap option_copied c.in-None.is)))

pub returns-in-Some-clause-answer : goal.returns-in-Some-clause-answer
returns-in-Some-clause-answer c =
    let at = goal.at.returns-in-Some-clause-answer c in
    let found = judged at.After-get (Some c.in-Some.open.now) (ap option_copied c.in-Some.is) in
    sym (ap answer_of (some at.After-is_narrower false found c.if-not-is_narrower.true))

pub returns-in-Some-clause-after : goal.returns-in-Some-clause-after
returns-in-Some-clause-after c =
    let at = goal.at.returns-in-Some-clause-after c in
    let found = judged at.After-get (Some c.in-Some.open.now) (ap option_copied c.in-Some.is) in
    sym (ap (table_after (table c.args.self.now)) (some at.After-is_narrower false found c.if-not-is_narrower.true))

pub invariant_of-self : goal.invariant_of-self
invariant_of-self c =
    let at = goal.at.invariant_of-self c in
    let one = found at.After-get (Some c.in-Some.open.now) (ap option_copied c.in-Some.is) in
    record {
      table = subst IsTable (sym (changed at.After-change))
          (table_narrow (table (the_view c.self.inside)) c.args.id.number c.args.access c.args.deny c.in-Some.open.now c.self.invariant.table one
          (sym c.is_narrower.ensures ∙ c.if-not-is_narrower.false));
      listed = c.self.invariant.listed;
      room = λ yes. c.change.ensures.ready ∙ c.self.invariant.room yes;
    }

pub returns-clause-answer : goal.returns-clause-answer
returns-clause-answer c =
    let at = goal.at.returns-clause-answer c in
    let found = judged at.After-get (Some c.in-Some.open.now) (ap option_copied c.in-Some.is) in
    ap (λ (s : ℕ). Ok (record { seqid = s; instance = c.self.inside.instance; number = c.args.id.number })) c.next_seqid-seqid.ensures
    ∙ sym (ap answer_of (some at.After-is_narrower true found c.if-not-is_narrower.false))

pub returns-clause-after : goal.returns-clause-after
returns-clause-after c =
    let at = goal.at.returns-clause-after c in
    let found = judged at.After-get (Some c.in-Some.open.now) (ap option_copied c.in-Some.is) in
    changed at.After-change ∙ sym (ap (table_after (table c.args.self.now)) (some at.After-is_narrower true found c.if-not-is_narrower.false))

pub change-requires : goal.change-requires
change-requires c =
    let few = rising_few (λ (o : OpenState). o.number) 1 (suc c.self.inside.last) c.self.inside.opens.items c.self.invariant.table.opens in
    record { few = omega arith }
