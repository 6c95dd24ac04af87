-- What is refused by NFS4ERR_SHARE_DENIED or by NFS4ERR_LOCKED is forbidden by an open that was granted and has not ended: that of which its reason speaks.
use Rattle.std.proofs.Common.{◌≡◌, ◌⊎◌, Bool, true, false, cond, not, Some, None, refl, sym, ◌∙◌, ap, subst, arith, inl, inr}
use Rattle.std.proofs.lemmas.{Bool.{and_parts, eq-eqb, eqb-true, false≢true, or_left, or_right}, Option.same_Some, Slice.Eq.bytes_eq-Decides}
use Rattle.std.specs.Prelude.{◌==◌, ◌&&◌, ◌||◌, bytes_eq, is_some, Result, Ok, Err}
use Rattle.nfs_xdr.specs.{Tables.In, declared.status.Status.Status}
use Rattle.nfs_xdr.specs.declared.status.Status.TheVariants as S
use Rattle.nfs_compound.specs.declared.{file_args.SetAttr.SetAttr, open_args.Open.Open, stateid.Stateid.Stateid, op.{Item.{Item, TheVariants.Operation}, Op.Op}}
use Rattle.nfs_attrs.specs.declared.wanted.Wanted.{Wanted}
use Rattle.nfs_opens.specs.{declared.judging.Sort.TheVariants.Either, declared.records.OpenState.OpenState, declared.share.Share.Share, Share.meets}
use Rattle.nfs_opens.specs.{declared.stateid.{CurrentSeqid.TheVariants.Any, StateId.StateId}, StateId.{is_current, is_anonymous, is_bypass, has_zeros, has_ones, with_seqid}}
use Rattle.nfs_opens.specs.Table.{Table}
use Rattle.nfs_names.specs.{declared.context.Context.Context, Create.attributes_in, State.State}
use Rattle.nfs_files.specs.{Bytes.{reading, writing}, Open.{access_of, deny_of}, OpenTold.{OpenTold, Bits, IsOpenWith, claimed, forbids}, StateIds.{state_id, meant}}
use Rattle.nfs_promises.specs.Answers.Asked.{StateGiven, by_state, used, size_in, sets_size, IsCurrent, IsSpecial, AllZeros, AllOnes, StandsFor, Itself}
use Rattle.nfs_promises.specs.{Answers.{Asked.TheCurrent, Reasons.IsLockedOut}, Locks.SharesDenied.{ShareDenialsAreTrue, by_stateid, LockedIsTrue}}
use Rattle.nfs_promises.specs.{Permission.Permitted.{Right, Reads, Writes, has_right, is_special}, Runs.Points.reached}
use Rattle.nfs_promises.proofs.Answers.{ReasonOf.reason_of, StateReasons.{current_so, current_not, none_so, special_not, with_as}}
use Rattle.nfs_promises.proofs.{Locks.{OneStateEach.each_in, OpenGranted.open_granted}, Runs.LaterRecords.{ran_in, first_there}}

-- an open as it was told, and its bits
abbrev told_of : OpenState → OpenTold
told_of o = record { number = o.number; client = o.client; owner = o.owner; file = o.file }

abbrev bits_of : OpenState → Bits
bits_of o = record { access = o.access; deny = o.deny }

its_open : (t : Table) (o : OpenState) → In o t.opens → IsOpenWith (told_of o) (bits_of o) t
its_open t o there = record { state = o; there = there; number = refl; client = refl; owner = refl; file = refl; access = refl; deny = refl }

-- OPEN

forbidden : (x : Context) (o : OpenState) (a : Open) → ((o.client ≡ x.client) × (o.owner ≡ a.owner.owner) → ⊥)
    → (meets (access_of a) o.deny ≡ true) ⊎ (meets (deny_of a) o.access ≡ true) → forbids (told_of o) (bits_of o) x a ≡ true
forbidden x o a other clash = go ((o.client == x.client) && bytes_eq o.owner a.owner.owner) refl
  where
    go : (own : Bool) → (o.client == x.client) && bytes_eq o.owner a.owner.owner ≡ own → not own && (meets (access_of a) o.deny || meets (deny_of a) o.access) ≡ true
    go true own = (let p = and_parts (o.client == x.client) (bytes_eq o.owner a.owner.owner) own in
        absurd (other (eqb-true o.client x.client p.0, (bytes_eq-Decides o.owner a.owner.owner).0 p.1)))
    go false own = elim clash [ inl reads ↦ or_left (meets (access_of a) o.deny) _ reads | inr denies ↦ or_right (meets (access_of a) o.deny) _ denies ]

same_open : (a b : Open) → Operation (Op.Open a) ≡ Operation (Op.Open b) → b ≡ a
same_open a b e = cc

pub share_denials_are_true : ShareDenialsAreTrue
share_denials_are_true start records c until d behind a small same item status =
    let there = first_there (reached start records) c until d behind same in
    let denied = reason_of d (ran_in start records c d there) (each_in start records c d there) (Op.Open a) item S.ShareDenied status refl refl in
    let o = denied.state in
    let one = same_open a denied.asked denied.is in
    record {
      held = told_of o;
      bits = bits_of o;
      file = subst (λ (b : Open). claimed d.before.store.tree d.context b.claim ≡ Some o.file) one denied.at;
      forbidden = subst (λ (b : Open). forbids (told_of o) (bits_of o) d.context b ≡ true) one (forbidden d.context o denied.asked denied.other denied.clash);
      granted = open_granted start small (told_of o) (bits_of o) records c until d behind same (its_open d.before.store.opens o denied.there);
    }

-- READ, WRITE and SETATTR, by special stateids.

current_is : (id : StateId) → IsCurrent id → is_current id ≡ true
current_is id is = by (is_current id) refl
  where
    by : (b : Bool) → is_current id ≡ b → is_current id ≡ true
    by true e = e
    by false e = absurd (current_not id e is)

meant_so : (x : Context) (k : StateGiven) (id : StateId) → StandsFor x k id → meant x k.form k.given ≡ Ok id
meant_so x k id (Itself other same) = by (is_current (state_id k.given)) refl
  where
    by : (at : Bool) → is_current (state_id k.given) ≡ at
        → ◌≡◌ {A = Result StateId Status} (cond at (cond (has_zeros (state_id x.stateid) || has_ones (state_id x.stateid)) (Err S.BadStateId) (Ok (with_seqid k.form (state_id x.stateid)))) (Ok (state_id k.given))) (Ok id)
    by true is = absurd (other (current_so (state_id k.given) is))
    by false is = ap Ok (sym same)
meant_so x k id (TheCurrent is some same) = rw (current_is (state_id k.given) is) (by (has_zeros (state_id x.stateid)) (has_ones (state_id x.stateid)) refl refl)
  where
    by : (z o : Bool) → has_zeros (state_id x.stateid) ≡ z → has_ones (state_id x.stateid) ≡ o
        → ◌≡◌ {A = Result StateId Status} (cond (z || o) (Err S.BadStateId) (Ok (with_seqid k.form (state_id x.stateid)))) (Ok id)
    by false false zeros ones = ap Ok (with_as k.form (state_id x.stateid) ∙ sym same)
    by true o zeros ones = absurd (some (none_so (state_id x.stateid) true o zeros ones refl))
    by false true zeros ones = absurd (some (none_so (state_id x.stateid) false true zeros ones refl))

special_is : (id : StateId) → IsSpecial id → is_special id ≡ true
special_is id special = by (is_anonymous id) (is_bypass id) refl refl
  where
    by : (a b : Bool) → is_anonymous id ≡ a → is_bypass id ≡ b → a || b ≡ true
    by true b is other = refl
    by false true is other = refl
    by false false is other = absurd (special_not id is other special)

anonymous_is : (id : StateId) → IsSpecial id → id.seqid ≡ 0 → is_anonymous id ≡ true
anonymous_is id (AllZeros a b c) zero = rw (eq-eqb id.seqid 0 a, eq-eqb id.instance 0 b, eq-eqb id.number 0 c) refl
anonymous_is id (AllOnes a b c) zero = absurd (omega (arith, zero, a))

abbrev of_bytes : Stateid → StateGiven
of_bytes given = record { given = given; sort = Either; form = Any; here = true }

-- what was found of bytes that are denied
record IsDeniedBy (s : State) (x : Context) (given : Stateid) (right : Right) : Type 0 where
  pub id : StateId
  pub means : meant x Any given ≡ Ok id
  pub special : is_special id ≡ true
  pub read : right ≡ Reads → is_anonymous id ≡ true
  pub state : OpenState
  pub there : In state s.opens.opens
  pub at : x.current ≡ Some state.file
  pub denies : has_right state.deny right ≡ true

denied_by : (s : State) (x : Context) (i : Item) (given : Stateid) (right : Right) → by_state i ≡ Some (of_bytes given) → used i ≡ Some right → IsLockedOut s x i → IsDeniedBy s x given right
denied_by s x i given right by uses out =
    let one : out.given ≡ of_bytes given = same_Some out.given (of_bytes given) (sym out.is ∙ by) in
    let which : out.right ≡ right = same_Some out.right right (sym out.uses ∙ uses) in
    record {
      id = out.id;
      means = meant_so x (of_bytes given) out.id (subst (λ k. StandsFor x k out.id) one out.means);
      special = special_is out.id out.special;
      read = λ reads. anonymous_is out.id out.special (out.bypasses (which ∙ reads));
      state = out.state;
      there = out.there;
      at = out.at;
      denies = subst (λ right. has_right out.state.deny right ≡ true) which out.denies;
    }

-- a size is given
abbrev GivesSize : SetAttr → Type 0
GivesSize a = (w : Wanted) × (attributes_in a.obj_attributes ≡ Ok w) × (is_some w.size ≡ true)

size_of : (v : Result Wanted Status) → is_some (size_in v) ≡ true → (w : Wanted) × (v ≡ Ok w) × (is_some w.size ≡ true)
size_of (Err f) e = absurd (false≢true e)
size_of (Ok w) e = (w, refl, e)

sizes : (a : SetAttr) (k : StateGiven) → by_state (Operation (Op.SetAttr a)) ≡ Some k → sets_size a ≡ true
sizes a k e = by (sets_size a) refl e
  where
    by : (b : Bool) → sets_size a ≡ b → cond b (Some (of_bytes a.stateid)) None ≡ Some k → sets_size a ≡ true
    by true is e = is
    by false is e = absurd cc

-- which of the two, and whether a size is given
record Uses (i : Item) (given : Stateid) (wanted : Share) : Type 0 where
  pub right : Right
  pub by : by_state i ≡ Some (of_bytes given)
  pub uses : used i ≡ Some right
  pub reads : wanted ≡ reading → right ≡ Reads
  pub meets : (deny : Share) → has_right deny right ≡ true → meets wanted deny ≡ true
  pub size : (a : SetAttr) → i ≡ Operation (Op.SetAttr a) → GivesSize a

no_reading : ◌≡◌ {A = Share} writing reading → ⊥
no_reading e = false≢true (sym (ap (λ (w : Share). w.writes) e))

uses_of : (s : State) (x : Context) (op : Op) (given : Stateid) (wanted : Share) → by_stateid (Operation op) ≡ Some (given, wanted) → IsLockedOut s x (Operation op)
    → Uses (Operation op) given wanted
uses_of s x (Op.Read a) given wanted e out =
    let one : Some (a.stateid, reading) ≡ Some (given, wanted) = e in
    subst (λ (p : Stateid × Share). Uses (Operation (Op.Read a)) p.0 p.1) (same_Some (a.stateid, reading) (given, wanted) one) (record {
      right = Reads;
      by = refl;
      uses = refl;
      reads = λ is. refl;
      meets = λ deny has. rw has refl;
      size = λ b is. absurd cc;
    })
uses_of s x (Op.Write a) given wanted e out =
    let one : Some (a.stateid, writing) ≡ Some (given, wanted) = e in
    subst (λ (p : Stateid × Share). Uses (Operation (Op.Write a)) p.0 p.1) (same_Some (a.stateid, writing) (given, wanted) one) (record {
      right = Writes;
      by = refl;
      uses = refl;
      reads = λ is. absurd (no_reading is);
      meets = λ deny has. has;
      size = λ b is. absurd cc;
    })
uses_of s x (Op.SetAttr a) given wanted e out =
    let one : Some (a.stateid, writing) ≡ Some (given, wanted) = e in
    let some = sizes a out.given out.is in
    subst (λ (p : Stateid × Share). Uses (Operation (Op.SetAttr a)) p.0 p.1) (same_Some (a.stateid, writing) (given, wanted) one) (record {
      right = Writes;
      by = ap (λ b. cond b (Some (of_bytes a.stateid)) None) some;
      uses = refl;
      reads = λ is. absurd (no_reading is);
      meets = λ deny has. has;
      size = λ b is. (let same : a ≡ b = cc in subst GivesSize same (size_of (attributes_in a.obj_attributes) some));
    })
uses_of s x op given wanted e out = absurd cc

bytes_op : (i : Item) (k : Stateid × Share) → by_stateid i ≡ Some k → (op : Op) × (i ≡ Operation op)
bytes_op (Operation op) k e = (op, refl)
bytes_op i k e = absurd cc

pub locked_is_true : LockedIsTrue
locked_is_true start records c until d behind given wanted small same asks status =
    let there = first_there (reached start records) c until d behind same in
    let op = bytes_op d.item (given, wanted) asks in
    let out = reason_of d (ran_in start records c d there) (each_in start records c d there) op.0 op.1 S.Locked status refl refl in
    let u = uses_of d.before.store d.context op.0 given wanted (ap by_stateid (sym op.1) ∙ asks) out in
    let its = denied_by d.before.store d.context (Operation op.0) given u.right u.by u.uses out in
    let o = its.state in
    record {
      id = its.id;
      means = its.means;
      special = its.special;
      read = λ reads. its.read (u.reads reads);
      size = λ a is. u.size a (sym op.1 ∙ is);
      held = told_of o;
      bits = bits_of o;
      file = its.at;
      denied = u.meets o.deny its.denies;
      granted = open_granted start small (told_of o) (bits_of o) records c until d behind same (its_open d.before.store.opens o its.there);
    }
