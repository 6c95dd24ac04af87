use Rattle.std.proofs.{Common.{◌≡◌, ℕ, true, sym, ◌∙◌, ap}, lemmas.Bool.{false≢true}}
use Rattle.std.specs.{Prelude.{◌==◌}, Option.option_copied}
use Rattle.nfs_xdr.proofs.Lists.{find_in}
use Rattle.nfs_opens.specs.{Table.{table, is_own}, Calls.asked, Keys.{open_key, key_of}}
use Rattle.nfs_opens.proofs.{IndexedLemmas.own_key, KeyLemmas.{found_by, none_by}}
use Rattle.nfs_opens.proofs.opens.Opens.own_open.Goals as goal
use Rattle.nfs_opens.proofs.opens.Opens.own_open.Goals.{in_default-via-in-Some+else-is_own, in_default-via-in_default}

pub returns-in-Some : goal.returns-in-Some
returns-in-Some c = sym (found_by open_key (is_own (asked c.args.ask.now)) (key_of c.key.result)
    (own_key (asked c.args.ask.now) (key_of c.key.result) c.key.ensures.key) (table c.args.self.now).opens c.in-Some.open.now
    (sym c.owned_open.ensures ∙ ap option_copied c.in-Some.is) (sym c.is_own.ensures.own ∙ c.if-is_own.true))

pub returns-in_default : goal.returns-in_default
returns-in_default c = elim c.in_default.branch [
  | in_default-via-in-Some+else-is_own w ↦ (let k = key_of c.key.result in
      let keyed : (open_key w.in-Some.open.now == k) ≡ true =
      (find_in (λ o. open_key o == k) (table c.args.self.now).opens w.in-Some.open.now (sym c.owned_open.ensures ∙ ap option_copied w.in-Some.is)).1 in
      absurd (false≢true (sym w.if-is_own.false ∙ (w.is_own.ensures.key ∙ (ap (λ (n : ℕ). open_key w.in-Some.open.now == n) (sym c.key.ensures.key) ∙ keyed)))))
  | in_default-via-in_default w ↦ sym (none_by open_key (is_own (asked c.args.ask.now)) (key_of c.key.result)
      (own_key (asked c.args.ask.now) (key_of c.key.result) c.key.ensures.key) (table c.args.self.now).opens
      (sym c.owned_open.ensures ∙ ap option_copied w.in_default.is))
]
