use Rattle.std.proofs.{Common.{◌≡◌, ℕ, Some, None, suc, ◌+◌, ◌++◌, ◌∷◌, [], List, sym, subst, ap, ◌∙◌, arith, refl, false}, lemmas.Grind.common_steps}
use Rattle.std.proofs.lemmas.Bool.{false≢true, eq-eqb}
use Rattle.std.specs.{List.list_any, Option.option_copied, Prelude.{◌==◌, ◌≢◌, is_none}}
use Rattle.nfs_opens.specs.{StateId.last_number, contracts.opens.Opens.the_view, declared.records.OpenState.OpenState, Holding.held_by}
use Rattle.nfs_opens.specs.{Table.{Kept, table, clashes_with}, TableInvariants.IsTable, Opening.{own_open, new_open}, Calls.{asked, open_fault}}
use Rattle.nfs_xdr.proofs.Tables.{in_bounds}
use Rattle.nfs_opens.proofs.{CountLemmas.rising_few, LockLemmas.same_table, TableLemmas.table_opened, StepLemmas.{table_join, no_clash_asked, number_left}}
use Rattle.nfs_opens.proofs.SingleLemmas.{none_owned}
use Rattle.nfs_opens.proofs.opens.Opens.open.Goals as goal

pub invariant_of-self : goal.invariant_of-self
invariant_of-self c =
    let own : own_open (table (the_view c.self.inside)) (asked c.args.ask.now) ≡ Some c.in-Some.open.now =
    ap (λ (k : Kept). own_open (table k) (asked c.args.ask.now)) c.self.view_is ∙ (sym c.own_open.ensures ∙ ap option_copied c.in-Some.is) in
    let free : list_any (clashes_with (asked c.args.ask.now)) c.self.inside.opens.items ≡ false =
    ap (λ (k : Kept). list_any (clashes_with (asked c.args.ask.now)) k.opens) c.self.view_is ∙ no_clash_asked _ _ c.requires.judged in
    let same = same_table c.change.new.self.items _ c.self.inside.locks.items _ (held_by c.self.inside.files) _ c.self.inside.last c.self.inside.instance
    c.change.ensures.items refl refl in
    record {
      table = subst IsTable (sym same) (table_join (table (the_view c.self.inside)) (asked c.args.ask.now) c.in-Some.open.now c.self.invariant.table own free);
      listed = c.self.invariant.listed;
      room = λ yes. c.change.ensures.ready ∙ c.self.invariant.room yes;
    }

pub invariant_of-self-in-None : goal.invariant_of-self-in-None
invariant_of-self-in-None c =
    let free : list_any (clashes_with (asked c.args.ask.now)) c.self.inside.opens.items ≡ false =
    ap (λ (k : Kept). list_any (clashes_with (asked c.args.ask.now)) k.opens) c.self.view_is ∙ no_clash_asked _ _ c.requires.judged in
    let items : c.push.new.self.items ≡ c.self.inside.opens.items ++ new_open (table (the_view c.self.inside)) (asked c.args.ask.now) ∷ [] = grind
    (arith, common_steps) in
    let same = ap (λ (xs : List OpenState). record (table (the_view c.self.inside)) { opens = xs; last = c.self.inside.last + 1 }) items in
    record {
      table = subst IsTable (sym same) (table_opened (table (the_view c.self.inside)) (asked c.args.ask.now) c.self.invariant.table free);
      listed = c.self.invariant.listed;
      room = λ yes. absurd (false≢true yes);
    }

pub push-requires-clause-ready : goal.push-requires-clause-ready
push-requires-clause-ready c = c.self.invariant.room (ap (λ (k : Kept). k.ready) c.self.view_is ∙ c.requires.room)

pub push-requires-clause-behind : goal.push-requires-clause-behind
push-requires-clause-behind c = λ o there.
    let up = (in_bounds (λ (o : OpenState). o.number) 1 (suc c.self.inside.last) c.self.inside.opens.items o c.self.invariant.table.opens there).1 in omega arith

pub push-requires-clause-owner : goal.push-requires-clause-owner
push-requires-clause-owner c =
    let none : own_open (table (the_view c.self.inside)) (asked c.args.ask.now) ≡ None =
    ap (λ (k : Kept). own_open (table k) (asked c.args.ask.now)) c.self.view_is ∙ (sym c.own_open.ensures ∙ ap option_copied c.in-None.is) in
    none_owned (asked c.args.ask.now) c.self.inside.opens.items _
    (ap (λ (xs : List ℕ). (c.args.ask.now.file, c.args.ask.now.client, xs)) (c.ready.view_is ∙ c.requires.owner)) none

pub change-requires : goal.change-requires
change-requires c =
    let few = rising_few (λ (o : OpenState). o.number) 1 (suc c.self.inside.last) c.self.inside.opens.items c.self.invariant.table.opens in
    record { few = omega arith }

pub push-requires-clause-few : goal.push-requires-clause-few
push-requires-clause-few c =
    let t = table (the_view c.self.inside) in
    let few = rising_few (λ (o : OpenState). o.number) 1 (suc c.self.inside.last) c.self.inside.opens.items c.self.invariant.table.opens in
    let none : own_open t (asked c.args.ask.now) ≡ None =
    ap (λ (k : Kept). own_open (table k) (asked c.args.ask.now)) c.self.view_is ∙ (sym c.own_open.ensures ∙ ap option_copied c.in-None.is) in
    let granted : open_fault t (asked c.args.ask.now) ≡ None = ap (λ (k : Kept). open_fault (table k) (asked c.args.ask.now)) c.self.view_is ∙ c.requires.judged in
    let free : (c.self.inside.last == last_number) ≡ false = number_left _ _ _ granted (ap is_none none) in
    let left : c.self.inside.last ≢ last_number = λ e. false≢true (sym free ∙ eq-eqb c.self.inside.last last_number e) in
    omega arith
