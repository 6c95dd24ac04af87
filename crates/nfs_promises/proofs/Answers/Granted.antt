-- What has no reason to be refused is granted.
use Rattle.std.proofs.Common.{◌≡◌, ◌≢◌, ◌⊎◌, ℕ, ◌<◌, ◌≤◌, Bool, true, false, List, [], Some, None, refl, sym, ◌∙◌, ap, subst, arith, inl, inr}
use Rattle.std.proofs.lemmas.{Bool.{cases_Bool, false≢true}, Option.same_Some}
use Rattle.std.specs.Prelude.{◌+◌}
use Rattle.nfs_xdr.specs.declared.status.Status.{Status}
use Rattle.nfs_xdr.specs.declared.status.Status.TheVariants as S
use Rattle.nfs_compound.specs.{declared.lock_args.Lock.Lock, declared.op.{Op.Op, Item.Item, Item.TheVariants.{Operation, Fault}}}
use Rattle.nfs_compound.specs.declared.op.Op.TheVariants as Ops
use Rattle.nfs_tree.specs.{declared.object.FileType.{FileType, TheVariants.Regular}, declared.object.Object.Object, Files.object_at, Object.{is_directory, is_link}}
use Rattle.nfs_attrs.specs.declared.wanted.Wanted.{Wanted}
use Rattle.nfs_opens.specs.{declared.share.Share.Share, declared.stateid.StateId.StateId}
use Rattle.nfs_names.specs.{declared.context.Context.Context, Outcome.is_ok, State.{State, is_used}}
use Rattle.nfs_files.specs.{Ranges.kind_of, StateIds.state_id}
use Rattle.nfs_exec.specs.Runs.Ops.{RanOp}
use Rattle.nfs_exec.proofs.Runs.OneRun.{IsRun}
use Rattle.nfs_promises.specs.Permission.Permitted.{Right, Rights, has_right}
use Rattle.nfs_promises.specs.Answers.Asked.{LooksAt, AtCurrent, AtSaved, DirectoryOf, Target, Source, NoDirectoryOf, AFile, Linked, NoLinkOf, TheFile, Searched, Used, Opened, NamedOf, Left, Kept}
use Rattle.nfs_promises.specs.Answers.Asked.{Seeks, InCurrent, InSaved, Gives, ByName, ByOldName, ByNewName, Needs, ToFind, ToAdd, Sets, ToSet, ToCreate, ToMakeAs, Range}
use Rattle.nfs_promises.specs.Answers.Asked.{StateGiven, by_state, of_locker, of_type, IsSpecial, IsCurrent, StandsFor, Itself, TheCurrent, InRange, LiesBeside}
use Rattle.nfs_promises.specs.Answers.Invalid.{IsNoShare, ToOpen, ToNarrow, Widens, IsInvalid, NoName, NoText, NoRange, NoShare, ByHandle, Sized, Below, Fixed, NoValue, Unreadable, Uncompared}
use Rattle.nfs_promises.specs.Answers.Reasons.{StateTold, access_under, IsOld, IsBad, NoCurrent, Special, NoState, state_of, IsOwn, BySize, Made, Written, stands_alone, Reason, SaysSo, IsSaid, is_cut, LacksRoom, HasKind}
use Rattle.nfs_promises.specs.Answers.Granted.{EachIsGranted, HasNoReason, IsAsTold, MayLock}
use Rattle.nfs_promises.proofs.Answers.{Placed.cut_so, Reasons.answered, ReasonOf.reason_of, StateReasons.stands_one}
use Rattle.nfs_promises.proofs.{Locks.OneStateEach.{HasOneEach, each_in}, Runs.LaterRecords.ran_in}

-- no row holds
granted : (d : RanOp) → IsRun d → HasOneEach d.before.store.opens → (op : Op) → d.item ≡ Operation op → HasNoReason d op → is_ok d.status ≡ true
granted d r each op is none = elim (cases_Bool (is_ok d.status)) [
  | inl ok ↦ ok
  | inr fails ↦ absurd (elim (cases_Bool (is_cut d.before.store (Operation op) d.status)) [
    | inl cut ↦ elim (cut_so d.before.store (Operation op) d.status cut) [
      | inl big ↦ none.room (said.room big)
      | inr delay ↦ false≢true (sym none.memory ∙ said.memory delay)
    ]
    | inr tried ↦ none.none d.status fails ((said.answered tried).refused fails)
  ])
]
  where
    said : IsSaid d op
    said = subst (SaysSo d) is (answered d r each)

-- A stateid as it was told.

module _ (s : State) (x : Context) (i : Item) (k : StateGiven) (id : StateId) (m : StateTold) (is : by_state i ≡ Some k) (told : IsAsTold s x k id m) where
  means_one : (j : StateGiven) (other : StateId) → by_state i ≡ Some j → StandsFor x j other → id ≡ other
  means_one j other at means = stands_one x k id other told.means (subst (λ k. StandsFor x k other) (sym (same_Some k j (sym is ∙ at))) means)

  not_old : IsOld s x i → ⊥
  not_old why =
      let one : id ≡ why.id = means_one why.given why.id why.is why.means in
      let state : m ≡ why.state = same_Some m why.state (sym told.names ∙ (ap (state_of s.opens) one ∙ why.names)) in
      let seqid : id.seqid ≡ why.id.seqid = ap (λ (i : StateId). i.seqid) one in
      let its : m.seqid ≡ why.state.seqid = ap (λ (m : StateTold). m.seqid) state in
      elim told.seqid [
        | inl zero ↦ why.some (sym seqid ∙ zero)
        | inr same ↦ (let less : why.id.seqid < why.state.seqid = why.old in absurd (omega (arith, seqid, its, same, less)))
      ]

  not_bad : IsBad s x i → ⊥
  not_bad (NoCurrent j at current none) = by told.means
    where
      one : k ≡ j
      one = same_Some k j (sym is ∙ at)

      by : StandsFor x k id → ⊥
      by (Itself fresh same) = fresh (subst (λ (k : StateGiven). IsCurrent (state_id k.given)) (sym one) current)
      by (TheCurrent here some same) = some none
  not_bad (Special j other at means special wanted) = told.plain (subst IsSpecial (sym (means_one j other at means)) special)
  not_bad (NoState j other at means some none) =
      let one : id ≡ other = means_one j other at means in
      let given : k ≡ j = same_Some k j (sym is ∙ at) in
      none m (ap (state_of s.opens) (sym one) ∙ told.names) (subst (λ k. IsOwn x k m) given told.own) (late (ap (λ (i : StateId). i.seqid) one) told.seqid)
    where
      late : id.seqid ≡ other.seqid → (id.seqid ≡ 0) ⊎ (id.seqid ≡ m.seqid) → other.seqid ≤ m.seqid
      late same (inl zero) = omega (arith, same, zero)
      late same (inr its) = omega (arith, same, its)

taken : (d : RanOp) → IsRun d → HasOneEach d.before.store.opens → (k : StateGiven) (id : StateId) (m : StateTold) → by_state d.item ≡ Some k → IsAsTold d.before.store d.context k id m
    → (d.status ≢ S.OldStateId) × (d.status ≢ S.BadStateId)
taken d r each k id m is told = by d.item refl is
  where
    by : (i : Item) → d.item ≡ i → by_state i ≡ Some k → (d.status ≢ S.OldStateId) × (d.status ≢ S.BadStateId)
    by (Operation op) same given = (
      λ old. not_old d.before.store d.context (Operation op) k id m given told (reason_of d r each op same S.OldStateId old refl refl),
      λ bad. not_bad d.before.store d.context (Operation op) k id m given told (reason_of d r each op same S.BadStateId bad refl refl),
    )
    by (Fault n f) same given = absurd (let bad : None ≡ Some k = given in cc)

-- LOCK

abbrev sets_some : Item → Bool
sets_some (Operation (Ops.SetAttr a)) = true
sets_some (Operation (Ops.Create c)) = true
sets_some (Operation (Ops.Open a)) = true
sets_some item = false

sets_by : (s : State) (x : Context) (i : Item) (r : Rights) (w : Wanted) → Sets s x i r w → sets_some i ≡ true
sets_by s x i r w (ToSet n a q v at has gives) = refl
sets_by s x i r w (ToCreate c v gives) = refl
sets_by s x i r w (ToMakeAs n a name v claim at gone gives) = refl

module _ (s : State) (x : Context) (a : Lock) (may : MayLock s x a) where
  abbrev i : Item
  i = Operation (Ops.Lock a)

  its : (n : ℕ) → x.current ≡ Some n → may.file ≡ n
  its n at = same_Some may.file n (sym may.at ∙ at)

  -- it is a file
  no_kind : (n : ℕ) → may.file ≡ n → (will : FileType → Bool) → will Regular ≡ false → HasKind s n will → ⊥
  no_kind n same will off (o, at, is) =
      let one : may.object ≡ o = same_Some may.object o (sym may.there ∙ (ap (object_at s.tree) same ∙ at)) in
      false≢true (sym off ∙ (ap will (sym may.kind ∙ ap (λ (o : Object). o.kind) one) ∙ is))

  no_name : (name : List ℕ) → Gives i name → ⊥
  no_name name (ByName is) = (let bad : None ≡ Some name = is in cc)
  no_name name (ByOldName b is same) = (let bad : Operation (Ops.Lock a) ≡ Operation (Ops.Rename b) = is in cc)
  no_name name (ByNewName b is same) = (let bad : Operation (Ops.Lock a) ≡ Operation (Ops.Rename b) = is in cc)

  not_invalid : IsInvalid s x i → ⊥
  not_invalid (NoName gives) = no_name [] gives
  not_invalid (NoText c is none) = (let bad : Operation (Ops.Lock a) ≡ Operation (Ops.Create c) = is in cc)
  not_invalid (NoRange why) = by (same_Some _ why.range why.is) why.none
    where
      by : record { type = a.locktype; offset = a.offset; size = a.length } ≡ why.range
          → (why.range.size ≡ 0) ⊎ ((why.range.size ≢ 0xffff_ffff_ffff_ffff) × (0xffff_ffff_ffff_ffff < why.range.offset + why.range.size)) → ⊥
      by same (inl none) = may.some (ap (λ (r : Range). r.size) same ∙ none)
      by same (inr (part, past)) = elim may.within [
        | inl all ↦ part (ap (λ (r : Range). r.size) (sym same) ∙ all)
        | inr most ↦ (let less : 0xffff_ffff_ffff_ffff < a.offset + a.length = subst (λ (r : Range). 0xffff_ffff_ffff_ffff < r.offset + r.size) (sym same) past in absurd (omega (arith, most, less)))
      ]
  not_invalid (NoShare why) = by why
    where
      by : IsNoShare s x i → ⊥
      by (ToOpen b is odd) = (let bad : Operation (Ops.Lock a) ≡ Operation (Ops.Open b) = is in cc)
      by (ToNarrow b is odd) = (let bad : Operation (Ops.Lock a) ≡ Operation (Ops.OpenDowngrade b) = is in cc)
      by (Widens b k id o is given means there wider) = (let bad : Operation (Ops.Lock a) ≡ Operation (Ops.OpenDowngrade b) = is in cc)
  not_invalid (ByHandle b is claim some) = (let bad : Operation (Ops.Lock a) ≡ Operation (Ops.Open b) = is in cc)
  not_invalid (Sized c is some) = (let bad : Operation (Ops.Lock a) ≡ Operation (Ops.Create c) = is in cc)
  not_invalid (Below why) = (let bad : Operation (Ops.Lock a) ≡ Operation (Ops.Rename why.moves.asked) = why.moves.is in cc)
  not_invalid (Fixed b is fixed) = (let bad : None ≡ Some b = is in cc)
  not_invalid (NoValue b v is read odd) = (let bad : None ≡ Some b = is in cc)
  not_invalid (Unreadable words is some) = (let bad : None ≡ Some words = is in cc)
  not_invalid (Uncompared b is some) = (let bad : None ≡ Some b = is in cc)

  own_id : (k : StateGiven) (other : StateId) → by_state i ≡ Some k → StandsFor x k other → may.id ≡ other
  own_id k other is means = means_one s x i (of_locker a.locker) may.id may.state refl may.told k other is means

  none : (f : Status) → is_ok f ≡ false → Reason s x i f → ⊥
  none S.NoFileHandle fails (inl (on, gone)) = (let bad : Some may.file ≡ None = sym may.at ∙ gone in cc)
  none S.NoFileHandle fails (inr (on, gone)) = false≢true on
  none S.BadHandle fails (given, is, e) = (let bad : Operation (Ops.Lock a) ≡ Operation (Ops.PutFh given) = is in cc)
  none S.Stale fails (inl (n, looks, gone)) = by looks
    where
      by : LooksAt x i n → ⊥
      by (AtCurrent on at) = false≢true (sym gone ∙ (ap (is_used s) (sym (its n at)) ∙ may.used))
      by (AtSaved saved on is same) = false≢true on
  none S.Stale fails (inr why) = (let bad : Operation (Ops.Lock a) ≡ Operation (Ops.PutFh why.given) = why.is in cc)
  none S.NotDir fails (n, of, kind) = by of
    where
      by : DirectoryOf x i n → ⊥
      by (Target on at) = false≢true on
      by (Source b saved is at same) = (let bad : Operation (Ops.Lock a) ≡ Operation (Ops.Rename b) = is in cc)
  none S.IsDir fails (n, of, kind) = by of
    where
      by : NoDirectoryOf s x i n → ⊥
      by (AFile (Used on at)) = no_kind n (its n at) is_directory refl kind
      by (AFile (Opened b is leads)) = (let bad : Operation (Ops.Lock a) ≡ Operation (Ops.Open b) = is in cc)
      by (Linked name saved is at same) = (let bad : Operation (Ops.Lock a) ≡ Operation (Ops.Link name) = is in cc)
  none S.Symlink fails (n, of, kind) = by of
    where
      by : NoLinkOf s x i n → ⊥
      by (TheFile (Used on at)) = no_kind n (its n at) is_link refl kind
      by (TheFile (Opened b is leads)) = (let bad : Operation (Ops.Lock a) ≡ Operation (Ops.Open b) = is in cc)
      by (Searched name is at) = (let bad : Operation (Ops.Lock a) ≡ Operation (Ops.Lookup name) = is in cc)
  none S.WrongType fails (n, is, at, kind) = (let bad : Operation (Ops.Lock a) ≡ Operation Ops.ReadLink = is in cc)
  none S.BadType fails (c, is, off) = (let bad : Operation (Ops.Lock a) ≡ Operation (Ops.Create c) = is in cc)
  none S.NoEnt fails (inl why) = by why.seeks
    where
      by : Seeks x i why.directory why.name → ⊥
      by (InCurrent at so) = (let bad : None ≡ Some why.name = so in cc)
      by (InSaved b saved is old at same) = (let bad : Operation (Ops.Lock a) ≡ Operation (Ops.Rename b) = is in cc)
  none S.NoEnt fails (inr why) = by why.of
    where
      by : NamedOf x i why.number → ⊥
      by (Left on at) = false≢true on
      by (Kept name saved is at same) = (let bad : Operation (Ops.Lock a) ≡ Operation (Ops.Link name) = is in cc)
  none S.Exist fails (inl why) = (let bad : Operation (Ops.Lock a) ≡ Operation (Ops.Open why.asked) = why.is in cc)
  none S.Exist fails (inr (inl why)) = (let bad : Operation (Ops.Lock a) ≡ Operation (Ops.Rename why.asked) = why.is in cc)
  none S.Exist fails (inr (inr why)) = (let bad : None ≡ Some why.name = why.is in cc)
  none S.NotEmpty fails (inl why) = (let bad : Operation (Ops.Lock a) ≡ Operation (Ops.Remove why.name) = why.is in cc)
  none S.NotEmpty fails (inr why) = (let bad : Operation (Ops.Lock a) ≡ Operation (Ops.Rename why.way.asked) = why.way.is in cc)
  none S.NameTooLong fails (inl (name, gives, long)) = no_name name gives
  none S.NameTooLong fails (inr (inl (c, is, text, of, long))) = (let bad : Operation (Ops.Lock a) ≡ Operation (Ops.Create c) = is in cc)
  none S.NameTooLong fails (inr (inr why)) = (let bad : Operation (Ops.Lock a) ≡ Operation (Ops.Rename why.moves.asked) = why.moves.is in cc)
  none S.BadChar fails (name, gives, byte, there, odd) = no_name name gives
  none S.BadName fails (name, gives, dots) = no_name name gives
  none S.BadCookie fails (b, is, odd) = (let bad : Operation (Ops.Lock a) ≡ Operation (Ops.ReadDir b) = is in cc)
  none S.Access fails why = by why.number why.rights why.needs
    where
      by : (n : ℕ) (rights : List Right) → Needs s x (Operation (Ops.Lock a)) n rights → ⊥
      by n rights (ToFind m j name is at) = (let bad : None ≡ Some name = is in cc)
      by n rights (ToAdd m j name is at) = (let bad : None ≡ Some name = is in cc)
  none S.Perm fails why = false≢true (sets_by s x i why.rights why.wanted why.sets)
  none S.OldStateId fails why = not_old s x i (of_locker a.locker) may.id may.state refl may.told why
  none S.BadStateId fails why = not_bad s x i (of_locker a.locker) may.id may.state refl may.told why
  none S.LocksHeld fails why = (let bad : Operation (Ops.Lock a) ≡ Operation (Ops.FreeStateid why.given) = why.is in cc)
  none S.Locked fails why = may.told.plain (subst IsSpecial (sym (own_id why.given why.id why.is why.means)) why.special)
  none S.OpenMode fails why =
      let one : may.id ≡ why.id = own_id why.given why.id why.is why.means in
      let access : may.access ≡ why.access = same_Some may.access why.access (sym may.has ∙ (ap (λ (i : StateId). access_under s.opens i.number) one ∙ why.has)) in
      let right : of_type a.locktype ≡ why.right = same_Some (of_type a.locktype) why.right why.uses in
      false≢true (sym why.lacks ∙ (ap (λ (b : Share). has_right b why.right) (sym access) ∙ (ap (has_right may.access) (sym right) ∙ may.may)))
  none S.ShareDenied fails why = (let bad : Operation (Ops.Lock a) ≡ Operation (Ops.Open why.asked) = why.is in cc)
  none S.Denied fails why =
      let range : record { type = a.locktype; offset = a.offset; size = a.length } ≡ why.range = same_Some _ why.range why.is in
      why.clash (subst (λ n. LiesBeside (kind_of why.range.type) (s.opens.held n why.holder.number why.byte)) (its why.holder.file why.at)
      (subst (λ (r : Range). LiesBeside (kind_of r.type) (s.opens.held may.file why.holder.number why.byte)) range
      (may.free why.holder why.byte why.there why.other (subst (λ (r : Range). InRange r.offset r.size why.byte) (sym range) why.within))))
  none S.FBig fails (BySize b size is gives long) = (let bad : Operation (Ops.Lock a) ≡ Operation (Ops.SetAttr b) = is in cc)
  none S.FBig fails (Made b size is gives long) = (let bad : Operation (Ops.Lock a) ≡ Operation (Ops.Open b) = is in cc)
  none S.FBig fails (Written b is long) = (let bad : Operation (Ops.Lock a) ≡ Operation (Ops.Write b) = is in cc)
  none S.NoSpc fails (on, full) = false≢true on
  none S.MLink fails (name, is, saved, at, many) = (let bad : Operation (Ops.Lock a) ≡ Operation (Ops.Link name) = is in cc)
  none S.NoGrace fails (inl (b, is, on)) = (let bad : Operation (Ops.Lock a) ≡ Operation (Ops.Open b) = is in cc)
  none S.NoGrace fails (inr (b, is, on)) =
      let same : Operation (Ops.Lock a) ≡ Operation (Ops.Lock b) = is in
      let one : a ≡ b = cc in
      false≢true (sym may.fresh ∙ (ap (λ (a : Lock). a.reclaim) one ∙ on))
  none S.NotSupp fails (inl (b, is, on)) = (let bad : Operation (Ops.Lock a) ≡ Operation (Ops.Open b) = is in cc)
  none S.NotSupp fails (inr (op, is, alone)) =
      let one : Ops.Lock a ≡ op = (let same : Operation (Ops.Lock a) ≡ Operation op = is in cc) in
      false≢true (ap stands_alone one ∙ alone)
  none S.NotSame fails (inl (b, is, text, are, differs)) = (let bad : Operation (Ops.Lock a) ≡ Operation (Ops.Verify b) = is in cc)
  none S.NotSame fails (inr (b, is, differs)) = (let bad : Operation (Ops.Lock a) ≡ Operation (Ops.ReadDir b) = is in cc)
  none S.Same fails (b, is, are) = (let bad : Operation (Ops.Lock a) ≡ Operation (Ops.NVerify b) = is in cc)
  none S.SequencePos fails (b, is) = (let bad : Operation (Ops.Lock a) ≡ Operation (Ops.Sequence b) = is in cc)
  none S.CompleteAlready fails is = (let bad : Operation (Ops.Lock a) ≡ Operation (Ops.ReclaimComplete false) = is in cc)
  none S.Inval fails why = not_invalid why
  none S.ServerFault fails why = may.counted why
  none S.AttrNotSupp fails (inl (b, is, off)) = (let bad : None ≡ Some b = is in cc)
  none S.AttrNotSupp fails (inr (b, is, off)) = (let bad : None ≡ Some b = is in cc)
  none S.BadOwner fails why = (let bad : None ≡ Some why.given = why.is in cc)
  none S.BadXdr fails (b, is, gone) = (let bad : None ≡ Some b = is in cc)
  none S.TooSmall fails (inl (b, is, small)) = (let bad : Operation (Ops.Lock a) ≡ Operation (Ops.ReadDir b) = is in cc)
  none S.TooSmall fails (inr why) = (let bad : Operation (Ops.Lock a) ≡ Operation (Ops.ReadDir why.asked) = why.is in cc)
  none f fails reason = reason

locked : (d : RanOp) → IsRun d → HasOneEach d.before.store.opens → (a : Lock) → d.item ≡ Operation (Ops.Lock a) → MayLock d.before.store d.context a → (LacksRoom d → ⊥) → d.refused ≡ false → is_ok d.status ≡ true
locked d r each a is may room memory = granted d r each (Ops.Lock a) is (record { none = none d.before.store d.context a may; room = room; memory = memory })

pub each_is_granted : EachIsGranted
each_is_granted start records c d there =
    let r = ran_in start records c d there in
    let each = each_in start records c d there in
    record { granted = granted d r each; taken = taken d r each; locked = locked d r each }
