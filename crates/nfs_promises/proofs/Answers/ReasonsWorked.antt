-- Refusals with a reason and without one, computed.
use Rattle.std.proofs.Common.{◌≡◌, ◌≢◌, ℕ, ◌<◌, ◌≤◌, true, false, List, [], ◌∷◌, Option, Some, None, refl, sym, ◌∙◌, ap, subst, arith, inl, inr}
use Rattle.std.proofs.lemmas.{Bool.{false≢true, ltb-false, not-true}, Option.same_Some}
use Rattle.std.specs.Prelude.{nat_lt, Result, Ok, ◌+◌, ◌*◌, ◌^◌}
use Rattle.nfs_xdr.specs.declared.status.Status.TheVariants as S
use Rattle.nfs_xdr.specs.{Tables.In, declared.status.Status.Status}
use Rattle.nfs_compound.specs.declared.{name_args.{CreateType.TheVariants.Other, Rename.Rename}, file_args.{Read.Read, SetAttr.SetAttr}, open_args.Open.Open}
use Rattle.nfs_compound.specs.declared.{op.Item.{Item, TheVariants.Operation}, open_args.{OpenHow.{OpenHow, TheVariants.NoCreate}, OpenClaim.TheVariants.Null}}
use Rattle.nfs_compound.specs.ArgCodecs.{rename_args, create_args, create_type, set_attr_args}
use Rattle.nfs_compound.specs.declared.name_args.Create as args
use Rattle.nfs_attrs.specs.{declared.wanted.Wanted.Wanted, Mask.mask_of}
use Rattle.nfs_compound.specs.declared.op.Op.TheVariants as Op
use Rattle.nfs_tree.specs.{declared.object.Object.Object, declared.profile.Profile.TheVariants.{Exact, Unix}, Files.{object_at, object_named}, Object.is_directory}
use Rattle.nfs_opens.specs.{declared.records.LockState.LockState, declared.stateid.StateId.StateId, declared.stateid.CurrentSeqid.TheVariants.{Any, Own}, declared.judging.Sort.TheVariants.{OpenOnly, LockOnly}}
use Rattle.nfs_names.specs.{Context.anonymous, declared.context.Context.Context, declared.context.Saved.Saved, State.State, Remove.remove, Rename.rename, SaveFh.save_fh, GetFh.get_fh, Create.{attributes_in, create}, Checks.both}
use Rattle.nfs_files.specs.{OpenTold.claimed, SetAttr.set_attr, StateIds.state_id}
use Rattle.nfs_promises.specs.{Runs.{Points.ops_of, Requests.{unchecked, stateid, words}}, Locks.LockKeptWorked.{asked, gives_up, last_of}, Bytes.WrittenStaysWorked.made}
use Rattle.nfs_promises.specs.Permission.Permitted.{Right, Reads, Writes, Executes, Rights, rights_at, Grants, GrantsBytes, ToRoot, ToOwner, ToGroup, ToOthers}
use Rattle.nfs_promises.specs.Answers.Asked.{StateGiven, by_state, IsAskers, IsCurrent, IsSpecial, AllZeros, AllOnes, StandsFor, Itself, TheCurrent, sought, InCurrent, InSaved, makes_by}
use Rattle.nfs_promises.specs.Answers.Asked.{DirectoryOf, Target, Source, NoDirectoryOf, AFile, Linked, Used, Opened, NamedOf, Left, Kept, leaves, Needs, ToFind, ToAdd, ToRead, ToPut, Owns, MaySet, Sets, ToSet}
use Rattle.nfs_promises.specs.Answers.Reasons.{StateTold, state_of, IsOwn, IsOld, IsBad, NoCurrent, Special, NoState, IsNameless, IsForbidden, IsDenied, IsHeld, MayDo, Reason}
use Rattle.nfs_promises.specs.Answers.ReasonsWorked.{AreAnsweredSo, AnswersRefused, CutsRefused, opens, removes, creates, moves, locks_again}
use Rattle.nfs_promises.specs.{Names.FileStaysWorked.{missed, closes}, Permission.PermittedWorked.{to_group, runs, asks}}
use Rattle.nfs_promises.proofs.{Permission.PermittedNames.one_of, Runs.{Computing.computing, LastOperation.only}}

-- What has no reason, whatever the server.

pub stands_itself : (x : Context) (k : StateGiven) (id : StateId) → (IsCurrent (state_id k.given) → ⊥) → StandsFor x k id → id ≡ state_id k.given
stands_itself x k id other (Itself fresh same) = same
stands_itself x k id other (TheCurrent is some same) = absurd (other is)

module _ (s : State) (x : Context) (i : Item) (k : StateGiven) (m : StateTold) (is : by_state i ≡ Some k) (other : IsCurrent (state_id k.given) → ⊥)
    (names : state_of s.opens (state_id k.given) ≡ Some m) where
  -- a stateid that has the seqid of its state
  not_old : (state_id k.given).seqid ≡ m.seqid → IsOld s x i → ⊥
  not_old same why =
      let one : k ≡ why.given = same_Some k why.given (sym is ∙ why.is) in
      let id_is : why.id ≡ state_id k.given = stands_itself x k why.id other (subst (λ k. StandsFor x k why.id) (sym one) why.means) in
      let m_is : m ≡ why.state = same_Some m why.state (sym names ∙ (ap (state_of s.opens) (sym id_is) ∙ why.names)) in
      let a : why.id.seqid ≡ (state_id k.given).seqid = ap (λ (i : StateId). i.seqid) id_is in
      let b : m.seqid ≡ why.state.seqid = ap (λ (m : StateTold). m.seqid) m_is in
      let less : why.id.seqid < why.state.seqid = why.old in
      omega arith

  not_bad : IsOwn x k m → (IsSpecial (state_id k.given) → ⊥) → (state_id k.given).seqid ≤ m.seqid → IsBad s x i → ⊥
  not_bad own plain late (NoCurrent j at current none) = other (subst (λ (k : StateGiven). IsCurrent (state_id k.given)) (sym (same_Some k j (sym is ∙ at))) current)
  not_bad own plain late (Special j id at means special wanted) =
      let one : k ≡ j = same_Some k j (sym is ∙ at) in
      plain (subst IsSpecial (stands_itself x k id other (subst (λ k. StandsFor x k id) (sym one) means)) special)
  not_bad own plain late (NoState j id at means some none) =
      let one : k ≡ j = same_Some k j (sym is ∙ at) in
      let id_is : id ≡ state_id k.given = stands_itself x k id other (subst (λ k. StandsFor x k id) (sym one) means) in
      let low : id.seqid ≤ m.seqid = subst (λ (i : StateId). i.seqid ≤ m.seqid) (sym id_is) late in
      none m (ap (state_of s.opens) id_is ∙ names) (subst (λ k. IsOwn x k m) one own) low

module _ (s : State) (x : Context) where
  not_nameless : (i : Item) → leaves i ≡ false → ((name : List ℕ) → i ≡ Operation (Op.Link name) → ⊥) → IsNameless s x i → ⊥
  not_nameless i off other why = by why.of
    where
      by : NamedOf x i why.number → ⊥
      by (Left on at) = false≢true (sym off ∙ on)
      by (Kept name saved is at same) = other name is

  -- a name that is there
  not_missing : (i : Item) (n k : ℕ) (name : List ℕ) → x.current ≡ Some n → sought i ≡ Some name → object_named s.tree n name ≡ Some k
      → ((a : Rename) → i ≡ Operation (Op.Rename a) → ⊥) → leaves i ≡ false → ((name : List ℕ) → i ≡ Operation (Op.Link name) → ⊥) → Reason s x i S.NoEnt → ⊥
  not_missing i n k name at is there other off one (inr why) = not_nameless i off one why
  not_missing i n k name at is there other off one (inl why) = elim why.seeks [
    | InCurrent here so ↦ (let bad : Some k ≡ None = sym there ∙ (ap (λ m. object_named s.tree m name) (same_Some n why.directory (sym at ∙ here))
        ∙ (ap (object_named s.tree why.directory) (same_Some name why.name (sym is ∙ so)) ∙ why.gone)) in cc)
    | InSaved a saved so old here same ↦ other a so
  ]

  not_missing_old : (a : Rename) (saved : Saved) (k : ℕ) → x.saved ≡ Some saved → object_named s.tree saved.object a.oldname ≡ Some k → Reason s x (Operation (Op.Rename a)) S.NoEnt → ⊥
  not_missing_old a saved k at there (inr why) = not_nameless (Operation (Op.Rename a)) refl (λ name so. cc) why
  not_missing_old a saved k at there (inl why) = elim why.seeks [
    | InCurrent here so ↦ (let bad : None ≡ Some why.name = so in cc)
    | InSaved b other so old here same ↦
        (let one : Operation (Op.Rename a) ≡ Operation (Op.Rename b) = so in
        let asked : a ≡ b = cc in
        let where_is : saved ≡ other = same_Some saved other (sym at ∙ here) in
        let bad : Some k ≡ None = sym there ∙ (ap (λ (q : Saved). object_named s.tree q.object a.oldname) where_is ∙ (ap (λ m. object_named s.tree m a.oldname) same
        ∙ (ap (λ (a : Rename). object_named s.tree why.directory a.oldname) asked ∙ (ap (object_named s.tree why.directory) old ∙ why.gone)))) in cc)
  ]

  -- an OPEN that may open what is there
  not_taken : (a : Open) → makes_by a.openhow ≡ None → Reason s x (Operation (Op.Open a)) S.Exist → ⊥
  not_taken a plain (inl why) =
      let same : Operation (Op.Open a) ≡ Operation (Op.Open why.asked) = why.is in
      let one : a ≡ why.asked = cc in
      let bad : None ≡ Some why.verifier = sym plain ∙ (ap (λ (a : Open). makes_by a.openhow) one ∙ why.makes) in
      cc
  not_taken a plain (inr (inl why)) = let same : Operation (Op.Open a) ≡ Operation (Op.Rename why.asked) = why.is in cc
  not_taken a plain (inr (inr why)) = let none : None ≡ Some why.name = why.is in cc

  -- an OPEN of what is no directory
  not_directory : (a : Open) (n : ℕ) (o : Object) → claimed s.tree x a.claim ≡ Some n → object_at s.tree n ≡ Some o → is_directory o.kind ≡ false
      → Reason s x (Operation (Op.Open a)) S.IsDir → ⊥
  not_directory a n o at is plain (m, place, kind) =
      let same : n ≡ m = by place in
      let one : o ≡ kind.0 = same_Some o kind.0 (sym is ∙ (ap (object_at s.tree) same ∙ kind.1)) in
      false≢true (sym plain ∙ (ap (λ (o : Object). is_directory o.kind) one ∙ kind.2))
    where
      by : NoDirectoryOf s x (Operation (Op.Open a)) m → n ≡ m
      by (Linked name saved so from both) = absurd cc
      by (AFile (Used of_file here)) = absurd (false≢true of_file)
      by (AFile (Opened b so here)) = (let it : Operation (Op.Open a) ≡ Operation (Op.Open b) = so in
          let asked : a ≡ b = cc in same_Some n m (sym at ∙ (ap (λ (a : Open). claimed s.tree x a.claim) asked ∙ here)))

  -- a RENAME from and to a directory
  not_placed : (a : Rename) (saved : Saved) (n : ℕ) (o : Object) → x.current ≡ Some n → x.saved ≡ Some saved → saved.object ≡ n → object_at s.tree n ≡ Some o
      → is_directory o.kind ≡ true → Reason s x (Operation (Op.Rename a)) S.NotDir → ⊥
  not_placed a saved n o at from both is plain (m, place, kind) =
      let same : n ≡ m = by place in
      let one : o ≡ kind.0 = same_Some o kind.0 (sym is ∙ (ap (object_at s.tree) same ∙ kind.1)) in
      false≢true (sym (not-true _ kind.2) ∙ (sym (ap (λ (o : Object). is_directory o.kind) one) ∙ plain))
    where
      by : DirectoryOf x (Operation (Op.Rename a)) m → n ≡ m
      by (Target on here) = same_Some n m (sym at ∙ here)
      by (Source b other so here same) = sym both ∙ (ap (λ (q : Saved). q.object) (same_Some saved other (sym from ∙ here)) ∙ same)

  -- a SETATTR of what is the caller's to set
  not_forbidden : (a : SetAttr) (n : ℕ) (r : Rights) (w : Wanted) → x.current ≡ Some n → rights_at s.tree n ≡ Some r → attributes_in a.obj_attributes ≡ Ok w → MaySet s.tree.profile x.who r w
      → IsForbidden s x (Operation (Op.SetAttr a)) → ⊥
  not_forbidden a n r w at is gives may why = by why.rights why.wanted why.sets why.forbids
    where
      by : (q : Rights) (v : Wanted) → Sets s x (Operation (Op.SetAttr a)) q v → (MaySet s.tree.profile x.who q v → ⊥) → ⊥
      by q v (ToSet m b k u here has given) forbids =
          let rights : r ≡ q = same_Some r q (sym is ∙ (ap (rights_at s.tree) (same_Some n m (sym at ∙ here)) ∙ has)) in
          let one : w ≡ v = (let two : ◌≡◌ {A = Result Wanted Status} (Ok w) (Ok v) = sym gives ∙ given in cc) in
          forbids (subst (λ q. MaySet s.tree.profile x.who q v) rights (subst (λ v. MaySet s.tree.profile x.who r v) one may))

  -- a CREATE of a name that is free
  not_occupied : (c : args.Create) (n : ℕ) → x.current ≡ Some n → object_named s.tree n c.objname ≡ None → Reason s x (Operation (Op.Create c)) S.Exist → ⊥
  not_occupied c n at free (inl why) = let same : Operation (Op.Create c) ≡ Operation (Op.Open why.asked) = why.is in cc
  not_occupied c n at free (inr (inl why)) = let same : Operation (Op.Create c) ≡ Operation (Op.Rename why.asked) = why.is in cc
  not_occupied c n at free (inr (inr why)) =
      let bad : None ≡ Some why.object = sym free ∙ (ap (λ m. object_named s.tree m c.objname) (same_Some n why.directory (sym at ∙ why.at))
      ∙ (ap (object_named s.tree why.directory) (same_Some c.objname why.name why.is) ∙ why.there)) in
      cc

  -- in `unix`, a READ of what the caller may execute
  not_withheld : (a : Read) (n : ℕ) (r : Rights) → s.tree.profile ≡ Unix → x.current ≡ Some n → rights_at s.tree n ≡ Some r → Grants r x.who Executes
      → IsDenied s x (Operation (Op.Read a)) → ⊥
  not_withheld a n r unix at is runs why = why.denies (λ right asks q has. by why.number why.rights why.needs right asks q has)
    where
      by : (m : ℕ) (rights : List Right) → Needs s x (Operation (Op.Read a)) m rights → (right : Right) → In right rights → (q : Rights) → rights_at s.tree m ≡ Some q
          → MayDo right (Operation (Op.Read a)) s.tree.profile q x.who
      by m rights (ToFind k j name is_named there) right asks q has = absurd (let bad : None ≡ Some name = is_named in cc)
      by m rights (ToAdd k j name is_made there) right asks q has = absurd (let bad : None ≡ Some name = is_made in cc)
      by m rights (ToRead k b asked) right asks q has =
          let same : r ≡ q = same_Some r q (sym is ∙ (ap (rights_at s.tree) (same_Some n m (sym at ∙ asked.at)) ∙ has)) in
          one_of right Reads (λ right. MayDo right (Operation (Op.Read a)) s.tree.profile q x.who) asks
          (subst (λ p. GrantsBytes p q x.who) (sym unix) (inr (subst (λ q. Grants q x.who Executes) same runs)))

-- The runs.

pub no_current : ◌≢◌ {A = ℕ} 7 0
no_current e = absurd (omega arith)

not_all_ones : ◌≢◌ {A = ℕ} 7 0xffff_ffff
not_all_ones e = absurd (omega arith)

pub no_user : ◌≢◌ {A = ℕ} 5 0
no_user e = absurd (omega arith)

pub no_bit : ◌≢◌ {A = ℕ} 0 1
no_bit e = absurd (omega arith)

-- 555 lets nobody but user 0 write
not_writable : Grants (record { mode = 365; owner = 0; group = 0 }) (record { uid = 5; gid = 6; gids = [] }) Writes → ⊥
not_writable (ToRoot root) = no_user root
not_writable (ToOwner own bit) = no_user own
not_writable (ToGroup other within bit) = no_bit bit
not_writable (ToOthers other out bit) = no_bit bit

pub are_answered_so : AreAnsweredSo
unfolding computing get_fh remove create create_args create_type set_attr_args set_attr save_fh both rename rename_args
are_answered_so = record {
  locked_again = refl;
  unlocked = refl;
  opened = refl;
  made_before = refl;
  closed = refl;
  made_now = refl;
  set = refl;
  forbidden = refl;
  denied = refl;
}

-- The wrong answers.

-- the LOCKU's stateid, and the state that it names
abbrev pub lock_given : StateGiven
lock_given = record { given = stateid 1 2; sort = LockOnly; form = Any; here = true }

abbrev pub lock_told : StateTold
lock_told = record { sort = LockOnly; client = 7 * 2 ^ 32 + 1; file = 2; seqid = 1 }

pub not_special : IsSpecial (record { seqid = 1; instance = 7; number = 2 }) → ⊥
not_special (AllZeros a b c) = no_current b
not_special (AllOnes a b c) = not_all_ones b

-- the OPENs, and the RENAME
abbrev pub asking : OpenHow → Open
asking how = record { seqid = 0; share_access = 1; share_deny = 0; owner = record { clientid = 0; owner = 0x70 ∷ [] }; openhow = how; claim = Null (0x66 ∷ []) }

abbrev moving : Rename
moving = record { oldname = 0x66 ∷ []; newname = 0x67 ∷ [] }

abbrev root_saved : Saved
root_saved = record { object = 1; stateid = anonymous }

abbrev pub open_given : StateGiven
open_given = record { given = stateid 1 1; sort = OpenOnly; form = Own; here = true }

abbrev open_told : StateTold
open_told = record { sort = OpenOnly; client = 7 * 2 ^ 32 + 1; file = 2; seqid = 1 }

pub no_special : IsSpecial (record { seqid = 1; instance = 7; number = 1 }) → ⊥
no_special (AllZeros a b c) = no_current b
no_special (AllOnes a b c) = not_all_ones b

-- the mode that the owner sets, and another user
abbrev mode_set : Wanted
mode_set = record { mask = mask_of (0 ∷ 2 ∷ []); size = None; mode = Some 32; owner = None; group = None; access = None; modify = None }

abbrev setting : SetAttr
setting = record { stateid = anonymous; obj_attributes = record { attrmask = 0 ∷ 2 ∷ []; attr_vals = words (32 ∷ []) } }

abbrev creating : args.Create
creating = record { objtype = Other 2; objname = 0x64 ∷ []; createattrs = record { attrmask = []; attr_vals = [] } }

its_own : MaySet Exact (record { uid = 5; gid = 6; gids = [] }) (record { mode = 420; owner = 5; group = 6 }) mode_set
its_own = record {
  as_it_is = λ unix some. absurd cc;
  owner = λ new e. cc;
  group = λ new e. cc;
  mode = λ new e. inr refl;
  accessed = λ t e. cc;
  modified = λ t e. cc;
}

no_owner : Owns (record { uid = 5; gid = 6; gids = [] }) (record { mode = 511; owner = 0; group = 0 }) → ⊥
no_owner (inl root) = no_user root
no_owner (inr own) = no_user own

abbrev reading : Read
reading = record { stateid = anonymous; offset = 0; count = 8 }

-- the only lock state is the asker's
own_alone : (s : State) (x : Context) (i : Item) (l : LockState) → s.opens.locks ≡ l ∷ [] → IsAskers x i l → IsHeld s x i → ⊥
own_alone s x i l one mine why = why.other (only (IsAskers x i) s.opens.locks l one mine why.holder why.there)

pub answers_refused : AnswersRefused
unfolding computing get_fh remove create create_args create_type set_attr_args set_attr save_fh both rename rename_args
answers_refused = record {
  old = λ d is. (let e = last_of d (ops_of asked gives_up) in
      not_old e.before.store e.context e.item lock_given lock_told refl (λ c. no_current c.1) refl refl ((is.answered refl).refused refl));
  bad = λ d is. (let e = last_of d (ops_of asked gives_up) in
      not_bad e.before.store e.context e.item lock_given lock_told refl (λ c. no_current c.1) refl (record { client = refl; file = λ on. refl; sort = refl })
      not_special (omega arith) ((is.answered refl).refused refl));
  old_open = λ d is. (let e = last_of d (ops_of missed closes) in
      not_old e.before.store e.context e.item open_given open_told refl (λ c. no_current c.1) refl refl ((is.answered refl).refused refl));
  bad_open = λ d is. (let e = last_of d (ops_of missed closes) in
      not_bad e.before.store e.context e.item open_given open_told refl (λ c. no_current c.1) refl (record { client = refl; file = λ on. refl; sort = refl })
      no_special (omega arith) ((is.answered refl).refused refl));
  occupied = λ d is. (let e = last_of d (ops_of made creates) in not_occupied e.before.store e.context creating 1 refl refl ((is.answered refl).refused refl));
  unset = λ d is. (let e = last_of d (ops_of made to_group) in
      not_forbidden e.before.store e.context setting 2 (record { mode = 420; owner = 5; group = 6 }) mode_set refl refl refl its_own ((is.answered refl).refused refl));
  set_by_all = λ d is. no_owner (((is.answered refl).granted refl 1 (record { mode = 511; owner = 0; group = 0 }) mode_set refl refl refl).0.mode 32 refl);
  taken = λ d is. (let e = last_of d (ops_of made (opens NoCreate)) in not_taken e.before.store e.context (asking NoCreate) refl ((is.answered refl).refused refl));
  retaken = λ d is. (let e = last_of d (ops_of made (opens unchecked)) in not_taken e.before.store e.context (asking unchecked) refl ((is.answered refl).refused refl));
  missing = λ d is. (let e = last_of d (ops_of made (opens NoCreate)) in
      not_missing e.before.store e.context e.item 1 2 (0x66 ∷ []) refl refl refl (λ a so. cc) refl (λ name so. cc) ((is.answered refl).refused refl));
  directory = λ d is. (let e = last_of d (ops_of made (opens NoCreate)) in not_directory e.before.store e.context (asking NoCreate) 2 _ refl refl refl ((is.answered refl).refused refl));
  unremoved = λ d is. (let e = last_of d (ops_of made removes) in
      not_missing e.before.store e.context e.item 1 2 (0x66 ∷ []) refl refl refl (λ a so. cc) refl (λ name so. cc) ((is.answered refl).refused refl));
  unrenamed = λ d is. (let e = last_of d (ops_of made (moves 4 2)) in not_missing_old e.before.store e.context moving root_saved 2 refl refl ((is.answered refl).refused refl));
  unplaced = λ d is. (let e = last_of d (ops_of made (moves 4 2)) in not_placed e.before.store e.context moving root_saved 1 _ refl refl refl refl refl ((is.answered refl).refused refl));
  found = λ d is. (let there : ◌≡◌ {A = Option ℕ} (Some 2) None = (is.answered refl).granted refl 1 (0x66 ∷ []) refl refl refl in cc);
  moved = λ d is. not_writable ((is.answered refl).granted refl 1 (Writes ∷ Executes ∷ []) (ToPut 1 moving refl) Writes (inl refl) (record { mode = 365; owner = 0; group = 0 }) refl);
  unread = λ d is. (let e = last_of d (ops_of runs asks) in
      not_withheld e.before.store e.context reading 2 (record { mode = 64; owner = 5; group = 6 }) refl refl refl (ToOwner refl refl) ((is.answered refl).refused refl));
  own = λ d is. (let e = last_of d (ops_of asked locks_again) in own_alone e.before.store e.context e.item _ refl (refl, refl) ((is.answered refl).refused refl));
}

pub no_less : (a b : ℕ) → nat_lt a b ≡ false → a < b → ⊥
no_less a b off less = (let most : b ≤ a = ltb-false a b off in omega arith)

pub cuts_refused : CutsRefused
unfolding computing remove set_attr_args set_attr
cuts_refused = record {
  big = λ d is. no_less _ _ refl (is.room refl);
  big_unlock = λ d is. no_less _ _ refl (is.room refl);
  big_read = λ d is. no_less _ _ refl (is.room refl);
  delayed = λ d is. false≢true (is.memory refl);
  full = λ d is. false≢true (is.memory refl);
  waits = λ d is. (is.answered refl).refused refl;
}
