-- What operations on open files do to a store, as data: beside the effects of operations on names those on bytes, attributes, opens and locks;
-- where each fits, what caused it, and which an operation had. A law over all operations is cases of effects.
use Rattle.std.proofs.Common.{◌≡◌, ◌≢◌, ℕ, ◌+◌, ◌⊎◌, true, false, List, [], ◌∷◌, ◌++◌, Option, Some, None, refl, sym, subst}
use Rattle.std.specs.Prelude.{Ok}
use Rattle.nfs_xdr.specs.{Checks.first_fault, Tables.In, declared.time.Time.Time, declared.status.Status.TheVariants.Nfs4Ok}
use Rattle.nfs_compound.specs.{declared.file_args.SetAttr.SetAttr, declared.file_args.Write.Write, declared.op.Op.Op, declared.open_args.Open.Open}
use Rattle.nfs_compound.specs.declared.open_args.OpenDowngrade.{OpenDowngrade}
use Rattle.nfs_results.specs.{declared.res.OpenOk.OpenOk, declared.res.Res.Res, Results.status_of_result}
use Rattle.nfs_tree.specs.{declared.sets.Sets.Sets, Bytes.{has_bytes, with_written, with_resized, with_sets}}
use Rattle.nfs_tree.specs.{Calls.{is_regular_at, write_fault, resize_fault}, TreeInvariants.IsTree}
use Rattle.nfs_ranges.specs.Holders.{holding, cleared, holds_any}
use Rattle.nfs_opens.specs.{declared.share.Share.Share, declared.records.LockState.LockState, declared.records.OpenState.OpenState, declared.locking.Wish.Wish}
use Rattle.nfs_opens.specs.{StateId.last_number, Holding.on_file, Table.{Table, Asked, open_at, lock_at, with_open, with_lock}, TableInvariants.IsTable}
use Rattle.nfs_opens.specs.{Calls.open_fault, Opening.{opens, narrows, is_narrower}, Closing.{without_open, without_lock}, Locking.{lock_judged, raised}}
use Rattle.nfs_names.specs.{declared.context.Context.Context, declared.node.Node.Node, Checks.current, Ending.with_opens, Outcome.{Outcome, is_ok}}
use Rattle.nfs_names.specs.State.{State, with_tree, without_unused}
use Rattle.nfs_names.proofs.Effects as names
use Rattle.nfs_names.proofs.Untouched.{unused_opens, opens_kept}
use Rattle.nfs_files.specs.{declared.opening.Found.Found, declared.opening.Found.TheVariants.There, declared.setting.Setting.Setting, Parts.writable, Bytes.behind_sets}
use Rattle.nfs_files.specs.OpenParts as open_parts
use Rattle.nfs_files.specs.Open as of_open
use Rattle.nfs_files.specs.SetAttrParts as set_parts
use Rattle.nfs_files.specs.Write as of_write
use Rattle.nfs_files.proofs.Inside as inside
use Rattle.nfs_files.proofs.{OthersTables.{OpensAreOf, LocksAreOf}, Wishes.IsRange}

-- Bytes are written, cut or lengthened; attributes are set. An open comes or is joined, is narrowed, or goes with its locks and with a file that
-- nothing else uses. A lock state holds more bytes, comes with its first ones, holds fewer, or goes.
pub data Effect : Type 0 where
  Names : names.Effect → Effect
  Writes : ℕ → ℕ → List ℕ → Sets → Time → Effect
  Resizes : ℕ → ℕ → Sets → Time → Effect
  Changes : ℕ → Sets → Time → Effect
  Opens : Asked → Effect
  Narrows : ℕ → Share → Share → Effect
  Closes : ℕ → ℕ → Effect
  Locks : ℕ → Wish → Effect
  Begins : ℕ → List ℕ → Wish → Effect
  Unlocks : ℕ → Wish → Effect
  Frees : ℕ → Effect

abbrev pub table_behind : Table → Effect → Table
table_behind t (Opens a) = (opens t a).after
table_behind t (Narrows n access deny) = with_open t n (narrows access deny)
table_behind t (Closes n file) = without_open t n
table_behind t (Locks n w) = record (with_lock t n raised) { held = on_file t.held w.file (λ h. holding h n w.kind w.first w.last) }
table_behind t (Begins opened owner w) = record t {
  locks = t.locks ++ record { number = t.last + 1; client = w.client; owner = owner; file = w.file; opened = opened; seqid = 1 } ∷ [];
  held = on_file t.held w.file (λ h. holding h (t.last + 1) w.kind w.first w.last);
  last = t.last + 1;
}
table_behind t (Unlocks n w) = record (with_lock t n raised) { held = on_file t.held w.file (λ h. cleared h n w.first w.last) }
table_behind t (Frees n) = without_lock t n
table_behind t e = t

abbrev pub behind : State → Effect → State
behind s (Names e) = names.behind s e
behind s (Writes n offset text sets now) = with_tree s (with_written s.tree n offset text sets now)
behind s (Resizes n size sets now) = with_tree s (with_resized s.tree n size sets now)
behind s (Changes n sets now) = with_tree s (with_sets s.tree n sets now)
behind s (Closes n file) = without_unused (with_opens s (without_open s.opens n)) file
behind s e = with_opens s (table_behind s.opens e)

pub opens_behind : (s : State) (e : Effect) → (behind s e).opens ≡ table_behind s.opens e
opens_behind s (Names e) = opens_kept s e
opens_behind s (Closes n file) = unused_opens (with_opens s (without_open s.opens n)) file
opens_behind s e = refl

abbrev pub behind_all : State → List Effect → State
behind_all s [] = s
behind_all s (e ∷ more) = behind_all (behind s e) more

-- Where each fits.

-- what is opened is a file, of the client, and a number is left where one is wanted
pub record IsOpening (s : State) (client : ℕ) (a : Asked) : Type 0 where
  pub mine : a.client ≡ client
  pub regular : IsTree s.tree → is_regular_at s.tree a.file ≡ true
  pub free : open_fault s.opens a ≡ None
  pub table : IsTable s.opens

-- what has less is an open of the client that has what is left of it
pub record IsNarrowing (t : Table) (client n : ℕ) (access deny : Share) : Type 0 where
  pub state : OpenState
  pub found : open_at t n ≡ Some state
  pub narrower : is_narrower access deny state ≡ true
  pub mine : OpensAreOf t n client

-- what is closed is an open of the client and of the file
pub record IsClosing (t : Table) (client n file : ℕ) : Type 0 where
  pub mine : OpensAreOf t n client
  pub of_file : (o : OpenState) → In o t.opens → o.number ≡ n → o.file ≡ file
  pub table : IsTable t

-- what holds more is a lock state of the client and of the file, and nobody else's lock is in the way
pub record IsLocking (t : Table) (client n : ℕ) (w : Wish) : Type 0 where
  pub range : IsRange w.first w.last
  pub access : Share
  pub judged : lock_judged t n access w ≡ Ok tt
  pub state : LockState
  pub found : lock_at t n ≡ Some state
  pub of_file : state.file ≡ w.file
  pub mine : LocksAreOf t n client

-- what comes is a lock state of the client under an open of it, and a number is left for it
pub record IsBeginning (t : Table) (client opened : ℕ) (w : Wish) : Type 0 where
  pub mine : w.client ≡ client
  pub left : t.last ≢ last_number
  pub range : IsRange w.first w.last
  pub access : Share
  pub judged : lock_judged t 0 access w ≡ Ok tt
  pub state : OpenState
  pub found : open_at t opened ≡ Some state
  pub same : state.client ≡ w.client
  pub of_file : state.file ≡ w.file
  pub table : IsTable t

-- what goes is a lock state of the client that holds nothing
pub record IsFreeing (t : Table) (client n : ℕ) : Type 0 where
  pub state : LockState
  pub found : lock_at t n ≡ Some state
  pub empty : holds_any (t.held state.file) n ≡ false
  pub mine : LocksAreOf t n client
  pub table : IsTable t

-- The tree refuses nothing of it; and the opens and lock states are the client's.
abbrev pub Fits : State → ℕ → Effect → Type 0
Fits s client (Names e) = names.Fits s e
Fits s client (Writes n offset text sets now) = (write_fault s.tree n offset text ≡ None) × (has_bytes text ≡ true)
Fits s client (Resizes n size sets now) = resize_fault s.tree n size ≡ None
Fits s client (Changes n sets now) = Unit {0}
Fits s client (Opens a) = IsOpening s client a
Fits s client (Narrows n access deny) = IsNarrowing s.opens client n access deny
Fits s client (Closes n file) = IsClosing s.opens client n file
Fits s client (Locks n w) = IsLocking s.opens client n w
Fits s client (Begins opened owner w) = IsBeginning s.opens client opened w
Fits s client (Unlocks n w) = LocksAreOf s.opens n client
Fits s client (Frees n) = IsFreeing s.opens client n

-- What caused it, by the operation and its result.

-- a WRITE of these bytes to the file of the current filehandle, with what it sets beside them
pub record WritesTo (s : State) (x : Context) (op : Op) (r : Res) (n offset : ℕ) (text : List ℕ) (sets : Sets) : Type 0 where
  pub asked : Write
  pub is : op ≡ Op.Write asked
  pub from : asked.offset ≡ offset
  pub bytes : asked.bytes ≡ text
  pub file : Node
  pub found : writable s x asked.stateid (current s x) ≡ Ok file
  pub checked : first_fault (of_write.last_checks s asked file) ≡ None
  pub some : has_bytes asked.bytes ≡ true
  pub number : file.number ≡ n
  pub set : behind_sets s.tree x file ≡ sets
  pub answers : r ≡ Res.Write (of_write.write_ok s asked)

-- a SETATTR of the object of the current filehandle, with a size or none
pub record SetsOf (s : State) (x : Context) (op : Op) (r : Res) (n : ℕ) (size : Option ℕ) : Type 0 where
  pub asked : SetAttr
  pub is : op ≡ Op.SetAttr asked
  pub setting : Setting
  pub found : set_parts.asked_for s x asked ≡ Ok setting
  pub number : setting.node.number ≡ n
  pub sets : setting.wanted.size ≡ size
  pub words : List ℕ
  pub answers : r ≡ Res.SetAttr Nfs4Ok words

-- an OPEN that found this
pub record OpensAs (s : State) (x : Context) (op : Op) (r : Res) (f : Found) : Type 0 where
  pub asked : Open
  pub is : op ≡ Op.Open asked
  pub found : open_parts.asked_for s x asked ≡ Ok f
  pub ok : OpenOk
  pub sets : ok.attrset ≡ of_open.set_of asked f
  pub answers : r ≡ Res.Open ok

-- an OPEN with size 0 of a file that was there
pub record OpensEmpty (s : State) (x : Context) (op : Op) (r : Res) (n size : ℕ) (sets : Sets) : Type 0 where
  pub place : ℕ
  pub file : Node
  pub opens : OpensAs s x op r (There place file true)
  pub number : file.number ≡ n
  pub empty : size ≡ 0
  pub set : behind_sets s.tree x file ≡ sets

abbrev pub Cause : State → Context → Op → Res → Effect → Type 0
Cause s x op r (Names e) = (f : Found) × OpensAs s x op r f
Cause s x op r (Writes n offset text sets now) = WritesTo s x op r n offset text sets
Cause s x op r (Resizes n size sets now) = SetsOf s x op r n (Some size) ⊎ OpensEmpty s x op r n size sets
Cause s x op r (Changes n sets now) = SetsOf s x op r n None
Cause s x op r (Opens a) = (f : Found) × OpensAs s x op r f
Cause s x op r (Narrows n access deny) = (asked : OpenDowngrade) × (op ≡ Op.OpenDowngrade asked)
Cause s x op r (Closes n file) = inside.Closes s x op n
Cause s x op r (Locks n w) = inside.Locks s x op n w
Cause s x op r (Begins opened owner w) = inside.Locks s x op (s.opens.last + 1) w
Cause s x op r (Unlocks n w) = inside.Unlocks s x op n w
Cause s x op r (Frees n) = Unit {0}

-- Which effects an operation had, in their order.

-- an effect on a state on the way: it fits, if the operation began with a table that is one; something caused it; and what did answers NFS4_OK
pub record Caused (s : State) (x : Context) (op : Op) (r : Res) (t : State) (e : Effect) : Type 0 where
  pub fits : IsTable s.opens → Fits t x.client e
  pub cause : Cause s x op r e
  pub ok : is_ok (status_of_result r) ≡ true

abbrev pub AllCaused : State → Context → Op → Res → State → List Effect → Type 0
AllCaused s x op r t [] = Unit {0}
AllCaused s x op r t (e ∷ more) = Caused s x op r t e × AllCaused s x op r (behind t e) more

pub record Did (s : State) (x : Context) (op : Op) (o : Outcome) : Type 0 where
  pub effects : List Effect
  pub caused : AllCaused s x op o.result s effects
  pub state : o.state ≡ behind_all s effects
  pub client : o.context.client ≡ x.client

-- what each effect keeps, what was done keeps
pub kept : (P : State → Type 0) (s : State) (x : Context) (op : Op) (o : Outcome) → Did s x op o
    → ((t : State) (e : Effect) → Caused s x op o.result t e → P t → P (behind t e)) → P s → P o.state
kept P s x op o did each is = subst P (sym did.state) (go did.effects s did.caused is)
  where
    go : (es : List Effect) (t : State) → AllCaused s x op o.result t es → P t → P (behind_all t es)
    go [] t caused is = is
    go (e ∷ es) t caused is = go es (behind t e) caused.1 (each t e caused.0 is)
