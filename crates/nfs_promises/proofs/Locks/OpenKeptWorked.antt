-- The run of an open that is kept, computed.
use Rattle.std.proofs.Common.{◌≡◌, ℕ, Bool, true, false, List, [], ◌∷◌, ◌++◌, take, refl, sym, ◌∙◌, ap}
use Rattle.std.proofs.lemmas.Bool.{not-true, true≢false}
use Rattle.std.specs.{Prelude.not, List.list_all}
use Rattle.nfs_compound.specs.{declared.op.Item.Item, declared.op.Item.TheVariants.Operation, declared.open_args.Open.Open}
use Rattle.nfs_compound.specs.declared.op.Op.TheVariants as Op
use Rattle.nfs_files.specs.OpenTold.{OpenTold, Bits}
use Rattle.nfs_exec.specs.Runs.{LockHeld.ClosesOf, Ops.RanOp}
use Rattle.nfs_promises.specs.Runs.OpenHeld.{NoneCloses, the_open}
use Rattle.nfs_serve.specs.{Step.ServerState}
use Rattle.nfs_promises.specs.{Network.Endpoint.Arrival, Runs.Points.{state_after_all, ops_of}}
use Rattle.nfs_promises.specs.Locks.{OpenKept.LeaveOpen, LockKeptWorked.last_of, OpenKeptWorked.IsOpenTo, WrongOpens.reads_too}
use Rattle.nfs_promises.specs.Locks.LockKeptWorked as locks
use Rattle.nfs_promises.specs.Locks.OpenKeptWorked as worked
use Rattle.nfs_promises.proofs.{Runs.{LastOperation.{two, nothing, each_of}, Computing.computing}, Locks.LockKeptWorked.{in_time, last_of_all, way_of_all, are_in_time}}

-- No operation is a CLOSE.

abbrev pub is_close : Item → Bool
is_close (Operation (Op.Close a)) = true
is_close i = false

abbrev pub is_none : RanOp → Bool
is_none d = not (is_close d.item)

none_closes : (k : OpenTold) (ds : List RanOp) → list_all is_none ds ≡ true → NoneCloses k ds
none_closes k = each_of (λ d. ClosesOf d k.number → ⊥) is_none (λ d e closes. true≢false (sym (ap is_close closes.is) ∙ not-true _ e))

-- So the premises can be tested.
pub leave_open : (k : OpenTold) (b : Bits) (lease last : ℕ) (s : ServerState) (cs : List Arrival) (Then : Bits → ℕ → ServerState → Type 0)
    → in_time k.client (list_all is_none) lease last s cs ≡ true → Then (way_of_all (the_open k) b s cs) (last_of_all k.client last s cs) (state_after_all s cs)
    → LeaveOpen k b lease last s cs Then
leave_open k b lease last s cs Then e holds = are_in_time (the_open k) k.client (list_all is_none) lease last b s cs Then (none_closes k) e holds

-- what A asks for first
abbrev wanted : Open
wanted = record reads_too { share_access = 3; share_deny = 2 }

pub is_open_to : IsOpenTo
unfolding computing
is_open_to = record {
  front = take 1 (ops_of locks.outset worked.opens);
  told = last_of nothing (ops_of locks.outset worked.opens);
  ops = two nothing (ops_of locks.outset worked.opens) refl;
  tells = record { opens = record { asked = wanted; is = refl; names = refl; leads = refl }; client = refl; owner = refl; bits = refl };
  kept = leave_open worked.its_open worked.first_bits 90 102 worked.opened
      (locks.waits ++ worked.asks ∷ worked.opens_again ∷ worked.asks_again ∷ worked.downgrades ∷ []) (λ b last s. b ≡ worked.last_bits) refl refl;
  denied = refl;
  joined = refl;
  again = refl;
  narrowed = refl;
  granted = refl;
}
