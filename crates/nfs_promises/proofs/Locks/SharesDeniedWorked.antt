-- The runs of refusals for an open's sake that are true, and the refusals that are refused, computed.
use Rattle.std.proofs.Common.{◌≡◌, ℕ, ◌+◌, ◌*◌, Bool, true, false, List, ◌∷◌, ◌++◌, length, take, refl, sym, ◌∙◌, ap, subst, arith, inl}
use Rattle.std.proofs.{lemmas.Bool.{and_parts, eq-eqb, false≢true}, lemmas.Slice.Eq.bytes_eq-Decides}
use Rattle.std.specs.Prelude.{◌^◌, ◌&&◌, bytes_eq, filter, Ok}
use Rattle.nfs_xdr.specs.Tables.{In}
use Rattle.nfs_xdr.proofs.Lists.{stays_in}
use Rattle.nfs_compound.specs.{declared.op.Item.Item, declared.op.Item.TheVariants.Operation, declared.open_args.Open.Open}
use Rattle.nfs_compound.specs.declared.op.Op.TheVariants as Op
use Rattle.nfs_compound.specs.declared.op_num.OpNum.TheVariants as Num
use Rattle.nfs_results.specs.Results.{done_head}
use Rattle.nfs_opens.specs.{declared.stateid.CurrentSeqid.TheVariants.Any, declared.stateid.StateId.StateId}
use Rattle.nfs_names.specs.declared.context.Context.{Context}
use Rattle.nfs_files.specs.{OpenTold.{OpenTold, Bits, forbids, names_open}, StateIds.{state_id, meant}}
use Rattle.nfs_exec.specs.Runs.Ops.{RanOp}
use Rattle.nfs_exec.proofs.Runs.OneWalk.{in_back}
use Rattle.nfs_serve.specs.{Step.new_state}
use Rattle.nfs_promises.specs.Locks.{LockKeptWorked.{earlier, outset, last_of}, NoIsTrue.IsInLease, OpenKeptWorked.{opens, asks}, WrongOpens.reads_too}
use Rattle.nfs_promises.specs.{Locks.OpenGranted.{GrantsOpen, IsOpenSince, IsGrantedOpen, Before, Within}, Network.Endpoint.Arrival, Runs.Started.usual}
use Rattle.nfs_promises.specs.Locks.SharesDeniedWorked.{before_asks, writes, before_writes, to_write, AreRefusedTruly, silence, asks_late, writes_late}
use Rattle.nfs_promises.specs.{Locks.SharesDeniedWorked.{asks_again, of_open, SharesRefused}, Permission.Permitted.is_special, Runs.Points.{reached, ops_of}}
use Rattle.nfs_promises.proofs.{Runs.{Computing.computing, LastOperation.{nothing, three, two}}, Locks.NoIsTrueWorked.{all_ops, in_records, none_in, one_in}}
use Rattle.nfs_promises.proofs.Locks.NoIsTrueWorked.{late}

-- An OPEN that granted an open says NFS4_OK, and is among the operations of the records or of the compound.

abbrev is_open : Item → Bool
is_open (Operation (Op.Open a)) = true
is_open item = false

abbrev opened : RanOp → Bool
opened d = is_open d.item && bytes_eq (take 8 d.result) (done_head Num.Open)

named_open : (text : List ℕ) (n : ℕ) → names_open Num.Open text n ≡ true → bytes_eq (take 8 text) (done_head Num.Open) ≡ true
named_open text n e = (and_parts _ _ (and_parts _ _ e).1).0

it_opened : (k : OpenTold) (b : Bits) (d : RanOp) → GrantsOpen k b d → opened d ≡ true
it_opened k b d g =
    ap (λ i. is_open i && bytes_eq (take 8 d.result) (done_head Num.Open)) g.opens.is ∙ named_open d.result k.number g.opens.names

abbrev granting : List RanOp → List RanOp
granting ds = filter opened ds

given_in : (k : OpenTold) (b : Bits) (records : List Arrival) (g : IsOpenSince usual k b records) → In g.first (granting (all_ops (new_state usual) records))
given_in k b records g =
    let there : In g.first (ops_of (reached usual g.earlier) g.arrival) = subst (In g.first) (sym g.ops) (in_back g.first g.front (g.first ∷ g.back) (inl refl)) in
    stays_in opened (all_ops (new_state usual) records) g.first
    (subst (λ rs. In g.first (all_ops (new_state usual) rs)) (sym g.all) (in_records (new_state usual) g.earlier g.arrival g.between g.first there))
    (it_opened k g.asked g.first g.grants)

-- none in the compound
not_within : (k : OpenTold) (b : Bits) (until front back : List RanOp) (first : RanOp) → length (granting until) ≡ 0 → until ≡ front ++ first ∷ back → GrantsOpen k b first → ⊥
not_within k b until front back first none same g =
    none_in (granting until) first none (stays_in opened until first (subst (In first) (sym same) (in_back first front (first ∷ back) (inl refl))) (it_opened k b first g))

-- nobody opened a file
by_nobody : (k : OpenTold) (b : Bits) (records : List Arrival) (c : Arrival) (until : List RanOp) → length (granting (all_ops (new_state usual) records)) ≡ 0
    → length (granting until) ≡ 0 → IsGrantedOpen usual k b records c until → ⊥
by_nobody k b records c until none here (Before had g lease unclosed bits) = none_in (granting (all_ops (new_state usual) records)) g.first none (given_in k had records g)
by_nobody k b records c until none here (Within front first back asked same g unclosed bits) = not_within k asked until front back first here same g

-- one client did, once
record IsOnes (k : OpenTold) (records : List Arrival) (c : Arrival) (client : ℕ) (owner : List ℕ) : Type 0 where
  pub its : k.client ≡ client
  pub owned : k.owner ≡ owner
  pub lease : IsInLease usual k.client records c

same_open : (i : Item) (a b : Open) → i ≡ Operation (Op.Open a) → i ≡ Operation (Op.Open b) → a ≡ b
same_open i a b one two = let same : Operation (Op.Open a) ≡ Operation (Op.Open b) = sym one ∙ two in cc

by_one : (k : OpenTold) (b : Bits) (records : List Arrival) (c : Arrival) (until : List RanOp) (client : ℕ) (a : Open)
    → length (granting (all_ops (new_state usual) records)) ≡ 1 → (last_of nothing (granting (all_ops (new_state usual) records))).context.client ≡ client
    → (last_of nothing (granting (all_ops (new_state usual) records))).item ≡ Operation (Op.Open a) → length (granting until) ≡ 0
    → IsGrantedOpen usual k b records c until → IsOnes k records c client a.owner.owner
by_one k b records c until client a one its is here (Before had g lease unclosed bits) =
    let first = one_in (granting (all_ops (new_state usual) records)) nothing g.first one (given_in k had records g) in
    record {
      its = g.grants.client ∙ (ap (λ (d : RanOp). d.context.client) first ∙ its);
      owned = g.grants.owner ∙ ap (λ (a : Open). a.owner.owner) (same_open g.first.item g.grants.opens.asked a g.grants.opens.is (ap (λ (d : RanOp). d.item) first ∙ is));
      lease = lease;
    }
by_one k b records c until client a one its is here (Within front first back asked same g unclosed bits) = absurd (not_within k asked until front back first here same g)

-- not of the owner that asks
not_own : (k : OpenTold) (b : Bits) (x : Context) (a : Open) → k.client ≡ x.client → k.owner ≡ a.owner.owner → forbids k b x a ≡ true → ⊥
not_own k b x a client owner e =
    let none : forbids k b x a ≡ false = rw (eq-eqb k.client x.client client, (bytes_eq-Decides k.owner a.owner.owner).1 owner) refl in
    false≢true (sym none ∙ e)

-- what A asks for first
abbrev wanted : Open
wanted = record reads_too { share_access = 3; share_deny = 2 }

-- the stateid of an open is not special
not_special : (x : Context) (id : StateId) → meant x Any of_open ≡ Ok id → is_special id ≡ true → ⊥
unfolding computing
not_special x id means special =
    let one : state_id of_open ≡ id = (let same : Ok (state_id of_open) ≡ Ok id = means in cc) in
    let none : is_special (state_id of_open) ≡ false = refl in
    false≢true (sym none ∙ (ap is_special one ∙ special))

pub are_refused_truly : AreRefusedTruly
unfolding computing
are_refused_truly = record {
  until = take 1 (ops_of (reached usual before_asks) asks);
  opening = last_of nothing (ops_of (reached usual before_asks) asks);
  ops = two nothing (ops_of (reached usual before_asks) asks) refl;
  asked = refl;
  denied = refl;
  before = take 2 (ops_of (reached usual before_writes) writes);
  write = last_of nothing (ops_of (reached usual before_writes) writes);
  wrote = three nothing (ops_of (reached usual before_writes) writes) refl;
  given = _;
  by = refl;
  locked = refl;
}

pub shares_refused : SharesRefused
unfolding computing
shares_refused = record {
  nobody = λ d a f. by_nobody f.held f.bits earlier opens (take 1 (ops_of outset opens)) refl refl f.granted;
  run_out = λ d a f.
      (let ones = by_one f.held f.bits silence asks_late (take 1 (ops_of (reached usual silence) asks_late)) (7 * 2 ^ 32 + 1) wanted refl refl refl refl f.granted in
      late silence asks_late (7 * 2 ^ 32 + 1) 202 102 refl refl (omega arith) (subst (λ client. IsInLease usual client silence asks_late) ones.its ones.lease));
  own = λ d f.
      (let ones = by_one f.held f.bits before_writes asks_again (take 1 (ops_of (reached usual before_writes) asks_again)) (7 * 2 ^ 32 + 1) wanted refl refl refl refl f.granted in
      not_own f.held f.bits (last_of d (ops_of (reached usual before_writes) asks_again)).context to_write ones.its ones.owned f.forbidden);
  unopened = λ d given wanted f. by_nobody f.held f.bits earlier opens (take 1 (ops_of outset opens)) refl refl f.granted;
  late = λ d given wants f.
      (let ones = by_one f.held f.bits silence writes_late (take 2 (ops_of (reached usual silence) writes_late)) (7 * 2 ^ 32 + 1) wanted refl refl refl refl f.granted in
      late silence writes_late (7 * 2 ^ 32 + 1) 202 102 refl refl (omega arith) (subst (λ client. IsInLease usual client silence writes_late) ones.its ones.lease));
  by_open = λ records c until d wants f. not_special d.context f.id f.means f.special;
}
