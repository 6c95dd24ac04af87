-- The open that a lock stands under, in the run of `LockKeptWorked`, computed.
use Rattle.std.proofs.{Common.{◌≡◌, ℕ, false, List, [], ◌∷◌, refl, sym, ◌∙◌, ap, subst, arith, inl, inr}, lemmas.Bool.{false≢true}}
use Rattle.std.specs.Prelude.{replicate, Result, Ok, Err}
use Rattle.nfs_xdr.specs.{declared.status.Status.Status, Tables.In}
use Rattle.nfs_compound.specs.{declared.op.Item.Item, declared.op.Item.TheVariants.Operation, declared.stateid.Stateid.Stateid}
use Rattle.nfs_compound.specs.declared.op.Op.TheVariants as Op
use Rattle.nfs_opens.specs.{declared.stateid.CurrentSeqid.TheVariants.Any, declared.stateid.StateId.StateId}
use Rattle.nfs_names.specs.Context.{anonymous}
use Rattle.nfs_files.specs.{Lock.stateid_in, StateIds.meant}
use Rattle.nfs_exec.specs.Runs.Ops.{RanOp}
use Rattle.nfs_promises.specs.Locks.LockKeptWorked as worked
use Rattle.nfs_promises.specs.{Locks.{LockKeptWorked.{outset, locks}, LockMade.MakesUnder, LockMadeWorked.MadeUnderItsOwn}, Runs.Points.ops_of}
use Rattle.nfs_promises.proofs.{Runs.Computing.computing, Locks.{LockKeptWorked.asking, StatesBegun.is_lock_item}}

abbrev AllSo : (RanOp → Type 0) → List RanOp → Type 0
AllSo P [] = Unit {0}
AllSo P (d ∷ ds) = P d × AllSo P ds

among : (P : RanOp → Type 0) (ds : List RanOp) → AllSo P ds → (d : RanOp) → In d ds → P d
among P [] all d there = absurd there
among P (e ∷ ds) all d (inl is) = subst P (sym is) all.0
among P (e ∷ ds) all d (inr later) = among P ds all.1 d later

-- what is no LOCK makes no lock state
no_maker : (d : RanOp) → is_lock_item d.item ≡ false → MakesUnder 2 3 d → ⊥
no_maker d other is = false≢true (sym other ∙ ap is_lock_item is.locks.is)

-- and this one names open 1
abbrev open_of : Item → Stateid
open_of (Operation (Op.Lock a)) = stateid_in a.locker
open_of i = anonymous

abbrev number_of : Result StateId Status → ℕ
number_of (Ok id) = id.number
number_of (Err status) = 0

misplaced : (d : RanOp) → number_of (meant d.context Any (open_of d.item)) ≡ 1 → MakesUnder 2 3 d → ⊥
misplaced d one is =
    let same : open_of d.item ≡ is.owner.open_stateid = ap open_of is.locks.is ∙ ap stateid_in is.new in
    let named : number_of (meant d.context Any (open_of d.item)) ≡ 3 = ap (λ given. number_of (meant d.context Any given)) same ∙ (ap number_of is.means ∙ is.names) in
    let bad : ◌≡◌ {A = ℕ} 1 3 = sym one ∙ named in
    absurd (omega arith)

pub made_under_its_own : MadeUnderItsOwn
unfolding computing
made_under_its_own = record {
  its = λ d. record {
    wish = worked.wish 1 0;
    locks = record {
      asked = asking 0;
      is = refl;
      wish = refl;
      names = record { id = worked.stateid_of_lock 2; answers = refl; long = refl; number = refl };
    };
    owner = record {
      open_seqid = 0;
      open_stateid = record { seqid = 1; other = replicate 12 0 };
      lock_seqid = 0;
      lock_owner = record { clientid = 0; owner = 0x6c ∷ [] };
    };
    new = refl;
    id = record { seqid = 0; instance = 7; number = 1 };
    means = refl;
    names = refl;
  };
  another = among (λ d. MakesUnder 2 3 d → ⊥) (ops_of outset locks) (no_maker _ refl, (no_maker _ refl, (misplaced _ refl, tt)));
}
