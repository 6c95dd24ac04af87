-- Permissions hold, in every run: what is refused by NFS4ERR_ACCESS has its reason, which grants of all that is needed would refute.
use Rattle.std.proofs.{Common.{◌≡◌, ℕ, Bool, true, false, List, [], ◌∷◌, Some, None, refl, sym, ◌∙◌, ap, subst, inl, inr}, lemmas.Option.same_Some}
use Rattle.nfs_xdr.specs.{Caller.Caller, Tables.In, declared.status.Status.TheVariants.Access}
use Rattle.nfs_compound.specs.declared.{op.{Item.{Item, TheVariants.Operation}, Op.Op}, open_args.{Open.Open, OpenClaim.TheVariants.{Null, Fh}}}
use Rattle.nfs_tree.specs.{declared.profile.Profile.Profile, Files.object_named}
use Rattle.nfs_opens.specs.declared.share.Share.{Share}
use Rattle.nfs_names.specs.{declared.context.Context.Context, State.State}
use Rattle.nfs_files.specs.{Open.access_of, OpenTold.{named_in, claimed}}
use Rattle.nfs_exec.specs.Runs.Ops.{RanOp}
use Rattle.nfs_exec.proofs.Runs.OneRun.{IsRun}
use Rattle.nfs_promises.specs.Permission.Permitted.{Right, Reads, Writes, Executes, Rights, Grants, GrantsBytes, GrantsUse, rights_at, wants, has_right, IsAt}
use Rattle.nfs_promises.specs.{Permission.Permitted.{IsGranted, IsRefused, PermissionsHold}, Answers.{Reasons.MayDo, Asked.{named, made, named_by, shared}}}
use Rattle.nfs_promises.specs.Answers.Asked.{Needs, ToFind, ToList, ToLeave, ToTouch, ToSize, ToAdd, ToRemove, ToTake, ToPut, ToMake, ToOpen, ToRead, ToWrite}
use Rattle.nfs_promises.proofs.{Answers.ReasonOf.reason_of, Locks.OneStateEach.{HasOneEach, each_in}, Runs.LaterRecords.ran_in, Permission.PermittedBytes.{read_granted, write_granted}}
use Rattle.nfs_promises.proofs.Permission.{PermittedNames.{named_granted, one_of, two_of}, PermittedOpens.{open_granted, enter_granted}, RightsTold.profile_here}

asks_it : (access : Share) (right : Right) → In right (shared access.reads access.writes) → has_right access right ≡ true
asks_it access right there = by access.reads access.writes refl refl there
  where
    by : (p q : Bool) → access.reads ≡ p → access.writes ≡ q → In right (shared p q) → has_right access right ≡ true
    by true true reads writes there = two_of right Reads Writes (λ right. has_right access right ≡ true) there (reads, writes)
    by true false reads writes there = one_of right Reads (λ right. has_right access right ≡ true) there reads
    by false true reads writes there = one_of right Writes (λ right. has_right access right ≡ true) there writes
    by false false reads writes there = absurd there

-- what an OPEN is given of the file
may_open : (a : Open) (p : Profile) (r : Rights) (who : Caller) (right : Right) → GrantsUse right p r who → MayDo right (Operation (Op.Open a)) p r who
may_open a p r who Reads grants = grants
may_open a p r who Writes grants = grants
may_open a p r who Executes grants = grants

-- Of the current filehandle's object.
module _ (s : State) (x : Context) (n : ℕ) (r : Rights) where
  -- what an OPEN may need
  record OpenGranted (a : Open) : Type 0 where
    pub enter : (name : List ℕ) → named_by a.claim ≡ Some name → Grants r x.who Executes
    pub make : (name : List ℕ) → a.claim ≡ Null name → claimed s.tree x a.claim ≡ None → Grants r x.who Writes
    pub find : (m : ℕ) (q : Rights) → claimed s.tree x a.claim ≡ Some m → rights_at s.tree m ≡ Some q → (right : Right) → has_right (access_of a) right ≡ true
        → GrantsUse right s.tree.profile q x.who

  abbrev AllGranted : Item → Type 0
  AllGranted (Operation (Op.Open a)) = OpenGranted a
  AllGranted (Operation (Op.Read a)) = GrantsBytes s.tree.profile r x.who
  AllGranted (Operation (Op.Write a)) = Grants r x.who Writes
  AllGranted i = ((first : Right) × In first (wants i)) × ((right : Right) → In right (wants i) → Grants r x.who right)

  finds : (i : Item) (name : List ℕ) → named i ≡ Some name → AllGranted i → Grants r x.who Executes
  finds (Operation (Op.Create c)) name is all = all.1 Executes (inr (inl refl))
  finds (Operation (Op.Link new)) name is all = all.1 Executes (inr (inl refl))
  finds (Operation (Op.Lookup own)) name is all = all.1 Executes (inl refl)
  finds (Operation (Op.Remove own)) name is all = all.1 Executes (inr (inl refl))
  finds (Operation (Op.Open a)) name is all = all.enter name is
  finds i name is all = absurd cc

  adds : (i : Item) (name : List ℕ) → made i ≡ Some name → AllGranted i → (right : Right) → In right (Writes ∷ Executes ∷ []) → Grants r x.who right
  adds (Operation (Op.Create c)) name is all = all.1
  adds (Operation (Op.Link new)) name is all = all.1
  adds i name is all = absurd cc

  module _ (at : x.current ≡ Some n) (is : rights_at s.tree n ≡ Some r) where
    same_rights : (m : ℕ) (q : Rights) → x.current ≡ Some m → rights_at s.tree m ≡ Some q → r ≡ q
    same_rights m q there has = (let number = same_Some n m (sym at ∙ there) in same_Some r q (sym is ∙ (ap (rights_at s.tree) number ∙ has)))

    here : (m : ℕ) (q : Rights) (right : Right) → x.current ≡ Some m → rights_at s.tree m ≡ Some q → Grants r x.who right → Grants q x.who right
    here m q right there has grants = subst (λ q. Grants q x.who right) (same_rights m q there has) grants

    both : (i : Item) (m : ℕ) (q : Rights) → x.current ≡ Some m → rights_at s.tree m ≡ Some q → ((right : Right) → In right (Writes ∷ Executes ∷ []) → Grants r x.who right)
        → (right : Right) → In right (Writes ∷ Executes ∷ []) → MayDo right i s.tree.profile q x.who
    both i m q there has all right asks =
        two_of right Writes Executes (λ right. MayDo right i s.tree.profile q x.who) asks
        (here m q Writes there has (all Writes (inl refl)), here m q Executes there has (all Executes (inr (inl refl))))

    all_needs : (i : Item) → AllGranted i → (m : ℕ) (rights : List Right) → Needs s x i m rights → (right : Right) → In right rights → (q : Rights) → rights_at s.tree m ≡ Some q
        → MayDo right i s.tree.profile q x.who
    all_needs i all m rights (ToFind k j name is there) right asks q has =
        one_of right Executes (λ right. MayDo right i s.tree.profile q x.who) asks (here m q Executes there has (finds i name is all))
    all_needs i all m rights (ToAdd k j name is there) right asks q has = both i m q there has (adds i name is all) right asks
    all_needs i all m rights (ToList k a there) right asks q has =
        one_of right Reads (λ right. MayDo right (Operation (Op.ReadDir a)) s.tree.profile q x.who) asks (here m q Reads there has (all.1 Reads (inl refl)))
    all_needs i all m rights (ToLeave k there) right asks q has =
        one_of right Executes (λ right. MayDo right (Operation Op.LookupP) s.tree.profile q x.who) asks (here m q Executes there has (all.1 Executes (inl refl)))
    all_needs i all m rights (ToRemove k name there) right asks q has = both (Operation (Op.Remove name)) m q there has all.1 right asks
    all_needs i all m rights (ToTake k a saved there same) right asks q has = absurd all.0.1
    all_needs i all m rights (ToPut k a there) right asks q has = absurd all.0.1
    all_needs i all m rights (ToTouch k a own w there rights_are given touches other) right asks q has = absurd all.0.1
    all_needs i all m rights (ToSize k a asked) right asks q has = absurd all.0.1
    all_needs i all m rights (ToMake k a name claim creates there none) right asks q has =
        one_of right Writes (λ right. MayDo right (Operation (Op.Open a)) s.tree.profile q x.who) asks (here m q Writes there has (all.make name claim (ap (claimed s.tree x) claim ∙ (ap (named_in s.tree name) there ∙ none))))
    all_needs i all m rights (ToOpen k a leads) right asks q has =
        may_open a s.tree.profile q x.who right (all.find m q leads has right (asks_it (access_of a) right asks))
    all_needs i all m rights (ToRead k a asked) right asks q has =
        one_of right Reads (λ right. MayDo right (Operation (Op.Read a)) s.tree.profile q x.who) asks (subst (λ q. GrantsBytes s.tree.profile q x.who) (same_rights m q asked.at has) all)
    all_needs i all m rights (ToWrite k a asked) right asks q has =
        one_of right Writes (λ right. MayDo right (Operation (Op.Write a)) s.tree.profile q x.who) asks (here m q Writes asked.at has all)

-- Who is granted all that is needed is not refused so.
not_refused : (d : RanOp) → IsRun d → HasOneEach d.before.store.opens → (n : ℕ) (r : Rights) → IsAt n r d → d.status ≡ Access → (op : Op) → d.item ≡ Operation op
    → AllGranted d.before.store d.context n r (Operation op) → ⊥
not_refused d run each n r at refused op is all =
    let denied = reason_of d run each op is Access refused refl refl in
    denied.denies (λ right asks q has.
    all_needs d.before.store d.context n r at.at at.is (Operation op) all denied.number denied.rights denied.needs right asks q has)

named_refused : (d : RanOp) → IsRun d → HasOneEach d.before.store.opens → (n : ℕ) (r : Rights) → IsAt n r d → d.status ≡ Access → (i : Item) → d.item ≡ i → (first : Right) → In first (wants i)
    → ((right : Right) → In right (wants i) → Grants r d.context.who right) → ⊥
named_refused d run each n r at refused (Operation (Op.Lookup name)) is first there all = not_refused d run each n r at refused (Op.Lookup name) is ((first, there), all)
named_refused d run each n r at refused (Operation Op.LookupP) is first there all = not_refused d run each n r at refused Op.LookupP is ((first, there), all)
named_refused d run each n r at refused (Operation (Op.ReadDir a)) is first there all = not_refused d run each n r at refused (Op.ReadDir a) is ((first, there), all)
named_refused d run each n r at refused (Operation (Op.Create c)) is first there all = not_refused d run each n r at refused (Op.Create c) is ((first, there), all)
named_refused d run each n r at refused (Operation (Op.Link name)) is first there all = not_refused d run each n r at refused (Op.Link name) is ((first, there), all)
named_refused d run each n r at refused (Operation (Op.Remove name)) is first there all = not_refused d run each n r at refused (Op.Remove name) is ((first, there), all)
named_refused d run each n r at refused i is first there all = absurd there

refused : (d : RanOp) → IsRun d → HasOneEach d.before.store.opens → IsRefused d.before.store.tree.profile d
refused d run each = record {
  named = λ n r at is. named_refused d run each n r at is d.item refl;
  read = λ n r at is a same grants. not_refused d run each n r at is (Op.Read a) same grants;
  written = λ n r at is a same grants. not_refused d run each n r at is (Op.Write a) same grants;
  opened = λ n r at is a name same claim enter make find.
      (let leads : claimed d.before.store.tree d.context a.claim ≡ object_named d.before.store.tree n name =
      ap (claimed d.before.store.tree d.context) claim ∙ ap (named_in d.before.store.tree name) at.at in
      not_refused d run each n r at is (Op.Open a) same (record {
        enter = λ own named. enter;
        make = λ own named none. make (sym leads ∙ none);
        find = λ m q found has. find m q (sym leads ∙ found) has;
      }));
  opened_again = λ n r at is a same claim all.
      (let s = d.before.store in
      let leads : claimed s.tree d.context a.claim ≡ d.context.current = ap (claimed s.tree d.context) claim in
      not_refused d run each n r at is (Op.Open a) same (record {
        enter = λ own named. absurd (let none : None ≡ Some own = ap named_by (sym claim) ∙ named in cc);
        make = λ own named none. absurd (let other : Null own ≡ Fh = sym named ∙ claim in cc);
        find = λ m q found has right asks. subst (λ q. GrantsUse right s.tree.profile q d.context.who) (same_rights s d.context n r at.at at.is m q (sym leads ∙ found) has) (all right asks);
      }));
}

pub permissions_hold : PermissionsHold
permissions_hold start records c d there =
    let run = ran_in start records c d there in
    subst (λ p. IsGranted p d × IsRefused p d) (profile_here start records c d there) (
      record {
        named = named_granted d run;
        read = read_granted d run;
        written = write_granted d run;
        entered = enter_granted d run;
        opened = open_granted d run;
      },
      refused d run (each_in start records c d there),
    )
