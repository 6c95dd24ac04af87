-- Laws of one operation on open files: what OPEN leaves of the tree, and what a LOCK tells by its answer (RFC 8881 sections 18.10 and 18.16).
use Rattle.std.specs.{Prelude.{◌≡◌, ◌≢◌, ℕ, ◌≤◌, Bool, Some, Ok}, Option.ForSome}
use Rattle.nfs_xdr.specs.declared.time.Time.{Time}
use Rattle.nfs_compound.specs.declared.lock_args.Lock as args
use Rattle.nfs_compound.specs.{declared.open_args.Open.Open, declared.op.Item.Item}
use Rattle.nfs_compound.specs.declared.op_num.OpNum.TheVariants as Num
use Rattle.nfs_results.specs.Results.{spell_result}
use Rattle.nfs_tree.specs.TreeInvariants.{IsTree}
use Rattle.nfs_opens.specs.{declared.locking.Wish.Wish, TableInvariants.IsTable, StateId.last_number}
use Rattle.nfs_names.specs.{declared.context.Context.Context, Outcome.or_lack, State.State, StoreInvariants.IsStore}
use Rattle.nfs_files.specs.{Open.open_file, Lock.lock, Operation.comes_to, Ranges.wished, Own.HasAsBefore, LockTold.{Names, LockTold, Stands, Clashes}}

-- OPEN leaves a tree that is one.
abbrev pub OpensLeaveTrees : Type 0
OpensLeaveTrees = (s : State) (x : Context) (now : Time) (a : Open) → IsTree s.tree → IsStore s → IsTree (open_file s x now a).state.tree

-- While a lock stands, no LOCK that clashes with it answers NFS4_OK and a stateid.
abbrev pub ClashesAreRefused : Type 0
ClashesAreRefused = (k : LockTold) (s : State) (x : Context) (now : Time) (refused : Bool) (a : args.Lock) (n : ℕ) (w : Wish)
    → IsTable s.opens → s.opens.last ≤ last_number → k.first ≤ k.last → Stands k s.opens → wished s x a.locktype a.offset a.length ≡ Ok w
    → Names Num.Lock (spell_result (or_lack refused s x Num.Lock (lock s x a)).result) n → Clashes k n w → ⊥

-- Behind a LOCK that answers NFS4_OK and the stateid of a lock state, this holds each byte that was asked for.
abbrev pub ToldLocksAreHeld : Type 0
ToldLocksAreHeld = (s : State) (x : Context) (now : Time) (refused : Bool) (a : args.Lock) (n : ℕ) (w : Wish)
    → IsTable s.opens → s.opens.last ≤ last_number → wished s x a.locktype a.offset a.length ≡ Ok w
    → Names Num.Lock (spell_result (or_lack refused s x Num.Lock (lock s x a)).result) n
    → (b : ℕ) → w.first ≤ b → b ≤ w.last → (or_lack refused s x Num.Lock (lock s x a)).state.opens.held w.file n b ≡ Some w.kind

-- Whatever an operation of one client comes to, another has what it had.
abbrev pub OthersKeepTheirs : Type 0
OthersKeepTheirs = (client : ℕ) (refused : Bool) (s : State) (x : Context) (now : Time) (i : Item) → IsTable s.opens → x.client ≢ client
    → ForSome (comes_to refused s x now i) (λ o. HasAsBefore client s.opens o.state.opens)
