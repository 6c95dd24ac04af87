-- Answers that are true and answers that are not, computed.
use Rattle.std.proofs.Common.{◌≡◌, ◌≢◌, ℕ, true, false, List, [], ◌∷◌, Option, Some, None, get_or, refl, sym, ◌∙◌, ap, subst, arith, inl, inr}
use Rattle.std.proofs.lemmas.{Bool.{cases_Bool, false≢true}, Option.same_Some}
use Rattle.std.specs.Prelude.{◌+◌, ◌*◌, ◌^◌, replicate, bit_and, take, option_map}
use Rattle.nfs_xdr.specs.{Caller.Caller, Tables.In, Spelling.{number, hyper}}
use Rattle.nfs_xdr.specs.declared.status.Status.TheVariants as S
use Rattle.nfs_compound.specs.{ArgCodecs.{read_dir_args, lock_t_args, create_args, create_type, commit_args}, declared.{stateid.Stateid.Stateid, lock_args.{Lock.Lock, LockT.LockT, LockU.LockU, Locker.TheVariants.OpenOwner}, open_args.{Open.Open, OpenDowngrade.OpenDowngrade, OpenHow.TheVariants.NoCreate}}}
use Rattle.nfs_compound.specs.declared.lock_args.LockType.TheVariants as LockTypes
use Rattle.nfs_compound.specs.Stateid as wire_ids
use Rattle.nfs_results.specs.Items as results
use Rattle.nfs_results.specs.Listing as listing
use Rattle.nfs_results.specs.{declared.res.Fattr.Fattr, ResultCodec.FitsResult, Results.spell_result}
use Rattle.nfs_tree.specs.declared.{profile.Profile.TheVariants.Exact, row.Row.Row}
use Rattle.nfs_names.specs.ReadDir.{entry_of, fitting, read_dir}
use Rattle.nfs_promises.proofs.{Names.ListsAllWorked.are_bytes, Answers.ReasonsWorked.{asking, no_special, no_bit, no_current, no_user, lock_given, open_given}}
use Rattle.nfs_promises.proofs.Runs.{Computing.computing, LastOperation.only}
use Rattle.nfs_results.specs.declared.res.Res.TheVariants as Res
use Rattle.nfs_ranges.specs.declared.Kind.{Kind, TheVariants.Write}
use Rattle.nfs_tree.specs.{declared.object.Object.Object, declared.object.FileType.TheVariants.Regular, Files.{most_text, data_at, object_at, object_named}}
use Rattle.nfs_attrs.specs.{Mask.{common, mask_of, trimmed_words}, Attributes.{readable, values}}
use Rattle.nfs_opens.specs.{declared.{records.{LockState.LockState, OpenState.OpenState}, share.Share.Share, judging.Sort.TheVariants.OpenOnly}, Share.share_of}
use Rattle.nfs_names.specs.{declared.context.Context.Context, State.State, Access.access, Create.create, GetAttr.get_attr, GetFh.get_fh, ReadLink.read_link, Remove.remove}
use Rattle.nfs_files.specs.{Commit.commit, Ranges.kind_of, LockT.lock_t, TestStateid.{code, test_stateid}}
use Rattle.nfs_exec.specs.Runs.Ops.{RanOp}
use Rattle.nfs_promises.specs.{Runs.{Requests.{current_stateid, stateid}, Points.ops_of}, Locks.{LockKeptWorked.{asked, gives_up, last_of, locks, outset, statuses}, OpenKeptWorked.opened}, Bytes.WrittenStaysWorked.{made, writes}, Names.FileStaysWorked.{with_status, missed}}
use Rattle.nfs_promises.specs.Permission.Permitted.{Reads, Writes, Executes, Rights, rights_of, Grants, ToRoot, ToOwner, ToGroup, ToOthers}
use Rattle.nfs_promises.specs.Answers.Asked.{InRange, LiesBeside}
use Rattle.nfs_promises.specs.Answers.YesIsTrue.{TellsSo, IsFree, AreTold, IsEntry, IsText, IsJudged, bits, Stands, AreTested, stateid_of, OpensTruly, NarrowsTruly, LocksTruly, UnlocksTruly}
use Rattle.nfs_promises.specs.Answers.{Asked.Itself, YesIsTrueWorked.{AreAsked, YesesRefused, telling, opens_as, shifted, narrows, lists, page, entry, tests, fileid, mode, may_read, reads_link, tests_stateid, misses}}
use Rattle.nfs_promises.specs.Answers.ReasonsWorked.{opens}

told : statuses (ops_of made fileid) ≡ S.Nfs4Ok ∷ S.Nfs4Ok ∷ S.Nfs4Ok ∷ []
unfolding computing get_attr values results.fattr
told = refl

-- The wrong answers.

other_client : ◌≢◌ {A = ℕ} (7 * 2 ^ 32 + 1) (7 * 2 ^ 32 + 2)
other_client e = absurd (omega arith)

clashing : LiesBeside Write (Some Write) → ⊥
clashing (inl none) = cc
clashing (inr both) = cc

-- a lock state of another owner holds a byte of the range to write
free_not : (s : State) (x : Context) (a : LockT) (l : LockState) (b : ℕ) → x.current ≡ Some 2 → In l s.opens.locks → ((l.client ≡ x.client) × (l.owner ≡ a.owner.owner) → ⊥)
    → InRange a.offset a.length b → kind_of a.locktype ≡ Write → s.opens.held 2 l.number b ≡ Some Write → IsFree s x a → ⊥
free_not s x a l b at there other within kind held why =
    let two : why.file ≡ 2 = same_Some why.file 2 (sym why.at ∙ at) in
    let beside = subst (λ file. LiesBeside (kind_of a.locktype) (s.opens.held file l.number b)) two (why.free l b there other within) in
    clashing (subst (λ kind. LiesBeside kind (Some Write)) kind (subst (LiesBeside (kind_of a.locktype)) held beside))

abbrev its_lock : LockState
its_lock = record { number = 2; client = 7 * 2 ^ 32 + 1; owner = 0x6c ∷ []; file = 2; opened = 1; seqid = 1 }

abbrev testing : LockT
testing = record { locktype = LockTypes.Write; offset = 0; length = 1; owner = record { clientid = 0; owner = 0x6c ∷ [] } }

free : (d : RanOp) → TellsSo (with_status S.Nfs4Ok (last_of d (ops_of asked tests))) → ⊥
unfolding computing lock_t lock_t_args
free d is = let e = last_of d (ops_of asked tests) in
    free_not e.before.store e.context testing its_lock 0 refl (inl refl) (λ same. other_client same.0) (omega arith, omega arith, inr (omega arith)) refl refl (is refl)

-- GETATTR

abbrev mode_of : Option Object → Option ℕ
mode_of o = option_map (λ (o : Object). o.mode) o

fileid_not : (s : State) (x : Context) → s.tree.profile ≡ Exact → x.current ≡ Some 2
    → AreTold s x (mask_of (0x10_0000 ∷ [])) (spell_result (Res.GetAttr (record { attrmask = 0x10_0000 ∷ []; attr_vals = hyper 1 }))) → ⊥
unfolding number hyper results.fattr results.attr_set
fileid_not s x exact at why =
    let two : why.number ≡ 2 = same_Some why.number 2 (sym why.here.at ∙ at) in
    let first = subst (λ p. spell_result (Res.GetAttr (record { attrmask = 0x10_0000 ∷ []; attr_vals = hyper 1 }))
    ≡ spell_result (Res.GetAttr (record { attrmask = trimmed_words (common (mask_of (0x10_0000 ∷ [])) (readable p)); attr_vals = hyper why.number }))) exact why.told in
    let told = subst (λ n. spell_result (Res.GetAttr (record { attrmask = 0x10_0000 ∷ []; attr_vals = hyper 1 }))
    ≡ spell_result (Res.GetAttr (record { attrmask = 0x10_0000 ∷ []; attr_vals = hyper n }))) two first in
    let bad : ◌≡◌ {A = ℕ} 1 2 = ap (λ (t : List ℕ). get_or t 27 0) told in
    absurd (omega arith)

mode_not : (s : State) (x : Context) → s.tree.profile ≡ Exact → x.current ≡ Some 2 → mode_of (object_at s.tree 2) ≡ Some 420
    → AreTold s x (mask_of (0 ∷ 2 ∷ [])) (spell_result (Res.GetAttr (record { attrmask = 0 ∷ 2 ∷ []; attr_vals = number 384 }))) → ⊥
unfolding number hyper results.fattr results.attr_set
mode_not s x exact at is why =
    let two : why.number ≡ 2 = same_Some why.number 2 (sym why.here.at ∙ at) in
    let mode : why.object.mode ≡ 420 = same_Some why.object.mode 420 (ap mode_of (sym why.here.is) ∙ (ap (λ n. mode_of (object_at s.tree n)) two ∙ is)) in
    let first = subst (λ p. spell_result (Res.GetAttr (record { attrmask = 0 ∷ 2 ∷ []; attr_vals = number 384 }))
    ≡ spell_result (Res.GetAttr (record { attrmask = trimmed_words (common (mask_of (0 ∷ 2 ∷ [])) (readable p)); attr_vals = number why.object.mode }))) exact why.told in
    let told = subst (λ m. spell_result (Res.GetAttr (record { attrmask = 0 ∷ 2 ∷ []; attr_vals = number 384 }))
    ≡ spell_result (Res.GetAttr (record { attrmask = 0 ∷ 2 ∷ []; attr_vals = number m }))) mode first in
    let bad : ◌≡◌ {A = ℕ} 128 164 = ap (λ (t : List ℕ). get_or t 27 0) told in
    absurd (omega arith)

-- READDIR

entry_fits : results.entry.Fits (entry 1)
unfolding number hyper results.entry results.fattr results.attr_set
entry_fits = (refl, (omega arith, ((omega arith, are_bytes (0x66 ∷ []) refl), (refl, ((refl, (omega arith, (omega arith, tt))), (omega arith, are_bytes (hyper 1) refl))))))

page_fits : FitsResult (Res.ReadDir (page 1))
unfolding listing.read_dir
page_fits = (refl, ((refl, are_bytes (replicate 8 0) refl), ((entry_fits, tt), tt)))

-- an entry of the one row
entry_not : (s : State) (r : Row) → s.tree.rows ≡ r ∷ [] → r.object ≡ 2 → IsEntry s 1 (mask_of (0x10_0000 ∷ [])) (entry 1) → ⊥
unfolding number hyper
entry_not s r rows object why =
    let one : why.row.object ≡ 2 = only (λ (r : Row). r.object ≡ 2) s.tree.rows r rows object why.row why.there in
    let told = subst (λ n. hyper 1 ≡ hyper n) one (ap (λ (f : Fattr). f.attr_vals) why.attrs) in
    let bad : ◌≡◌ {A = ℕ} 1 2 = ap (λ (t : List ℕ). get_or t 7 0) told in
    absurd (omega arith)

-- ACCESS

abbrev owner : Caller
owner = record { uid = 5; gid = 6; gids = [] }

abbrev file_rights : Rights
file_rights = record { mode = 420; owner = 5; group = 6 }

not_executes : Grants file_rights owner Executes → ⊥
not_executes (ToRoot root) = no_user root
not_executes (ToOwner own bit) = no_bit bit
not_executes (ToGroup other within bit) = other refl
not_executes (ToOthers other out bit) = other refl

access_not : (s : State) (x : Context) (o : Object) → x.current ≡ Some 2 → object_at s.tree 2 ≡ Some o → o.kind ≡ Regular → rights_of o ≡ file_rights → x.who ≡ owner
    → IsJudged s x 1 (spell_result (Res.Access (record { supported = 1; access = 0 }))) → ⊥
unfolding number hyper results.access
access_not s x o at is kind rights who why =
    let two : why.number ≡ 2 = same_Some why.number 2 (sym why.here.at ∙ at) in
    let one : o ≡ why.object = same_Some o why.object (sym is ∙ (ap (object_at s.tree) (sym two) ∙ why.here.is)) in
    let same : file_rights ≡ rights_of why.object = sym rights ∙ ap rights_of one in
    let r : why.reads ≡ true = why.may_read.1 (subst (λ q. Grants q x.who Reads) same (subst (λ w. Grants file_rights w Reads) (sym who) (ToOwner refl refl))) in
    let w : why.writes ≡ true = why.may_write.1 (subst (λ q. Grants q x.who Writes) same (subst (λ w. Grants file_rights w Writes) (sym who) (ToOwner refl refl))) in
    let k : why.object.kind ≡ Regular = ap (λ (o : Object). o.kind) (sym one) ∙ kind in
    let e : why.executes ≡ false = elim (cases_Bool why.executes) [
      | inr off ↦ off
      | inl on ↦ absurd (not_executes (subst (λ w. Grants file_rights w Executes) who (subst (λ q. Grants q x.who Executes) (sym same) (why.may_execute.0 on))))
    ] in
    let lie = spell_result (Res.Access (record { supported = 1; access = 0 })) in
    let a = subst (λ k. lie ≡ spell_result (Res.Access (record { supported = bit_and 1 (bits k true true true); access = bit_and 1 (bits k why.reads why.writes why.executes) }))) k why.told in
    let b = subst (λ r. lie ≡ spell_result (Res.Access (record { supported = bit_and 1 (bits Regular true true true); access = bit_and 1 (bits Regular r why.writes why.executes) }))) r a in
    let c = subst (λ w. lie ≡ spell_result (Res.Access (record { supported = bit_and 1 (bits Regular true true true); access = bit_and 1 (bits Regular true w why.executes) }))) w b in
    let f = subst (λ e. lie ≡ spell_result (Res.Access (record { supported = bit_and 1 (bits Regular true true true); access = bit_and 1 (bits Regular true true e) }))) e c in
    let bad : ◌≡◌ {A = ℕ} 0 1 = ap (λ (t : List ℕ). get_or t 15 0) f in
    absurd (omega arith)

-- READLINK

text_not : (s : State) (x : Context) → x.current ≡ Some 3 → data_at s.tree 3 ≡ 0x66 ∷ [] → IsText s x (spell_result (Res.ReadLink [])) → ⊥
unfolding number hyper
text_not s x at is why =
    let three : why.number ≡ 3 = same_Some why.number 3 (sym why.here.at ∙ at) in
    let bytes : data_at s.tree why.number ≡ 0x66 ∷ [] = ap (data_at s.tree) three ∙ is in
    let told = subst (λ b. spell_result (Res.ReadLink []) ≡ spell_result (Res.ReadLink (take most_text b))) bytes why.told in
    let bad : ◌≡◌ {A = ℕ} 0 1 = ap (λ (t : List ℕ). get_or t 11 0) told in
    absurd (omega arith)

-- TEST_STATEID

code_not : (s : State) (x : Context) (g : Stateid) (codes : List ℕ) → Stands s x g → AreTested s x (g ∷ []) codes
    → spell_result (Res.TestStateid (10025 ∷ [])) ≡ spell_result (Res.TestStateid codes) → ⊥
unfolding number hyper results.status_codes
code_not s x g [] stands are told = absurd are
code_not s x g (c ∷ []) stands are told =
    let zero = subst (λ c. spell_result (Res.TestStateid (10025 ∷ [])) ≡ spell_result (Res.TestStateid (c ∷ []))) (are.1 stands) told in
    let bad : ◌≡◌ {A = ℕ} 41 0 = ap (λ (t : List ℕ). get_or t 15 0) zero in
    absurd (omega arith)
code_not s x g (c ∷ b ∷ more) stands are told = absurd are.2

bad : (d : RanOp) → TellsSo (telling (Res.TestStateid (10025 ∷ [])) (last_of d (ops_of made tests_stateid))) → ⊥
unfolding computing test_stateid code wire_ids.stateids results.status_codes
bad d is = let e = last_of d (ops_of made tests_stateid) in let w = is refl in code_not e.before.store e.context (stateid 1 1) w.0 (record {
  current = λ is. no_current is.1;
  special = no_special;
  state = record { sort = OpenOnly; client = 7 * 2 ^ 32 + 1; file = 2; seqid = 1 };
  names = refl;
  client = refl;
  seqid = inr refl;
}) w.1 w.2

-- OPEN and OPEN_DOWNGRADE

other_name : ◌≡◌ {A = List ℕ} (0x6f ∷ []) (0x70 ∷ []) → ⊥
other_name e = (let bad : ◌≡◌ {A = ℕ} 111 112 = ap (λ (t : List ℕ). get_or t 0 0) e in absurd (omega arith))

-- the one open is another owner's
opened_not : (s : State) (x : Context) (a : Open) (result : List ℕ) (t : State) (o : OpenState) → t.opens.opens ≡ o ∷ [] → o.owner ≡ 0x6f ∷ [] → a.owner.owner ≡ 0x70 ∷ []
    → OpensTruly s x a result t → ⊥
opened_not s x a result t o one has asks why =
    other_name (sym (only (λ (o : OpenState). o.owner ≡ 0x6f ∷ []) t.opens.opens o one has why.state why.there) ∙ (why.owner ∙ asks))

-- of two opens the second is the owner's, and has number 2
told_not : (s : State) (x : Context) (a : Open) (t : State) (o p : OpenState) → t.opens.opens ≡ o ∷ p ∷ [] → o.owner ≡ 0x6f ∷ [] → p.number ≡ 2 → a.owner.owner ≡ 0x70 ∷ []
    → OpensTruly s x a (spell_result (opens_as (stateid 1 1))) t → ⊥
unfolding number hyper results.open_ok wire_ids.stateid
told_not s x a t o p two has second asks why = by (subst (In why.state) two why.there)
  where
    tells : why.state.number ≡ 2 → ⊥
    tells is =
        let lie = spell_result (opens_as (stateid 1 1)) in
        let first = subst (λ id. lie ≡ spell_result (Res.Open (record why.answer { stateid = id }))) why.stateid why.told in
        let told = subst (λ n. lie ≡ spell_result (Res.Open (record why.answer { stateid = stateid_of t why.state.seqid n }))) is first in
        let bad : ◌≡◌ {A = ℕ} 1 2 = ap (λ (t : List ℕ). get_or t 23 0) told in
        absurd (omega arith)

    by : In why.state (o ∷ p ∷ []) → ⊥
    by (inl same) = other_name (sym has ∙ (ap (λ (o : OpenState). o.owner) (sym same) ∙ (why.owner ∙ asks)))
    by (inr (inl same)) = tells (ap (λ (o : OpenState). o.number) same ∙ second)
    by (inr (inr none)) = none

-- the one open may still write
narrowed_not : (s : State) (x : Context) (a : OpenDowngrade) (result : List ℕ) (t : State) (o : OpenState) → t.opens.opens ≡ o ∷ [] → o.access.writes ≡ true → a.share_access ≡ 1
    → NarrowsTruly s x a result t → ⊥
narrowed_not s x a result t o one writes asks why = false≢true (sym narrow ∙ only (λ (o : OpenState). o.access.writes ≡ true) t.opens.opens o one writes why.state why.there)
  where
    narrow : why.state.access.writes ≡ false
    narrow = sym (ap (λ (k : Share). k.writes) (same_Some (record { reads = true; writes = false }) why.state.access (sym (ap share_of asks) ∙ why.access)))

abbrev narrowing : OpenDowngrade
narrowing = record { open_stateid = stateid 1 1; seqid = 0; share_access = 1; share_deny = 0 }

-- LOCK

abbrev pub locked_byte : Lock
locked_byte = record {
  locktype = LockTypes.Write;
  reclaim = false;
  offset = 0;
  length = 1;
  locker = OpenOwner (record { open_seqid = 0; open_stateid = current_stateid; lock_seqid = 0; lock_owner = record { clientid = 0; owner = 0x6c ∷ [] } });
}

-- the one lock state does not hold the byte
held_not : (s : State) (x : Context) (a : Lock) (result : List ℕ) (t : State) (l : LockState) → t.opens.locks ≡ l ∷ [] → InRange a.offset a.length 0 → kind_of a.locktype ≡ Write
    → t.opens.held l.file l.number 0 ≡ None → LocksTruly s x a result t → ⊥
held_not s x a result t l one within kind free why =
    let none = only (λ (l : LockState). t.opens.held l.file l.number 0 ≡ None) t.opens.locks l one free why.state why.there in
    let bad : None ≡ Some Write = sym none ∙ (why.holds 0 within ∙ ap Some kind) in
    cc

-- the one lock state has another seqid
seqid_not : (t : State) (l k : LockState) (n told : ℕ) → t.opens.locks ≡ l ∷ [] → In k t.opens.locks → l.seqid ≡ n → (k.seqid ≡ n → told ≡ n) → told ≢ n → ⊥
seqid_not t l k n told one there has says other = other (says (only (λ (l : LockState). l.seqid ≡ n) t.opens.locks l one has k there))

early_not : (s : State) (x : Context) (a : Lock) (t : State) (l : LockState) → t.opens.locks ≡ l ∷ [] → l.seqid ≡ 1 → LocksTruly s x a (spell_result (Res.Lock (stateid 2 2))) t → ⊥
unfolding number hyper wire_ids.stateid
early_not s x a t l one first why = seqid_not t l why.state 1 2 one why.there first (λ is.
    ap (λ (t : List ℕ). get_or t 11 0) (subst (λ q. spell_result (Res.Lock (stateid 2 2)) ≡ spell_result (Res.Lock (stateid_of t q why.state.number))) is why.told)) (λ e. absurd (omega arith))

late_not : (s : State) (x : Context) (a : LockU) (t : State) (l : LockState) → t.opens.locks ≡ l ∷ [] → l.seqid ≡ 2 → UnlocksTruly s x a (spell_result (Res.LockU (stateid 1 2))) t → ⊥
unfolding number hyper wire_ids.stateid
late_not s x a t l one second why = seqid_not t l why.state 2 1 one why.there second (λ is.
    ap (λ (t : List ℕ). get_or t 11 0) (subst (λ q. spell_result (Res.LockU (stateid 1 2)) ≡ spell_result (Res.LockU (stateid_of t q why.state.number))) is why.told)) (λ e. absurd (omega arith))

abbrev unlocked_byte : LockU
unlocked_byte = record { locktype = LockTypes.Write; seqid = 0; lock_stateid = stateid 1 2; offset = 0; length = 1 }

-- LOCKU, CLOSE, WRITE and COMMIT

-- LOOKUP

name_not : (s : State) (x : Context) (name : List ℕ) (n : ℕ) → x.current ≡ Some n → object_named s.tree n name ≡ None
    → (directory : ℕ) × (m : ℕ) × (x.current ≡ Some directory) × (object_named s.tree directory name ≡ Some m) → ⊥
name_not s x name n at none why =
    let bad : None ≡ Some why.1 = sym none ∙ (ap (λ d. object_named s.tree d name) (same_Some n why.0 (sym at ∙ why.2)) ∙ why.3) in
    cc

pub yeses_refused : YesesRefused
unfolding computing get_attr values results.fattr read_dir_args entry_of fitting read_dir results.entry listing.read_dir access results.access create
    create_args create_type read_link results.create get_fh remove commit commit_args
yeses_refused = record {
  free = free;
  another = λ d is. (let e = last_of d (ops_of made fileid) in fileid_not e.before.store e.context refl refl (is refl));
  unset = λ d is. (let e = last_of d (ops_of made mode) in mode_not e.before.store e.context refl refl refl (is refl));
  other_entry = λ d is. (let e = last_of d (ops_of made lists) in entry_not e.before.store _ refl refl (is refl (page 1) 1 page_fits refl refl (entry 1) (inl refl)));
  nothing = λ d is. (let e = last_of d (ops_of made may_read) in access_not e.before.store e.context _ refl refl refl refl refl (is refl));
  empty = λ d is. (let e = last_of d (ops_of made reads_link) in text_not e.before.store e.context refl refl (is refl));
  bad = bad;
  unopened = λ d is. (let e = last_of d (ops_of made (opens NoCreate)) in opened_not e.before.store e.context (asking NoCreate) e.result e.before.store _ refl refl refl (is refl));
  other_open = λ d is. (let e = last_of d (ops_of made (opens NoCreate)) in told_not e.before.store e.context (asking NoCreate) e.behind.store _ _ refl refl refl refl (is refl));
  unnarrowed = λ d is. (let e = last_of d (ops_of opened narrows) in narrowed_not e.before.store e.context narrowing e.result e.before.store _ refl refl refl (is refl));
  free_still = λ d is. (is refl).there;
  beside = λ d is. (let e = shifted (last_of d (ops_of outset locks)) in
      held_not e.before.store e.context locked_byte e.result e.behind.store _ refl (omega arith, omega arith, inr (omega arith)) refl refl (is refl));
  early = λ d is. (let e = last_of d (ops_of outset locks) in early_not e.before.store e.context locked_byte e.behind.store _ refl refl (is refl));
  late = λ d is. (let e = last_of d (ops_of asked gives_up) in late_not e.before.store e.context unlocked_byte e.behind.store _ refl refl (is refl));
  again = λ d is. (let bad : ◌≡◌ {A = ℕ} 1 255 = ap (λ (t : List ℕ). get_or t 11 0) (is refl).1 in absurd (omega arith));
  still_locked = λ d is. (let held : ◌≡◌ {A = Option Kind} (Some Write) None =
      (is refl).free lock_given (record { seqid = 1; instance = 7; number = 2 }) 2 0 refl (Itself (λ c. no_current c.1) refl) refl (omega arith, omega arith, inr (omega arith)) in cc);
  still_open = λ d is. (is refl).0 open_given (record { seqid = 1; instance = 7; number = 1 }) refl (Itself (λ c. no_current c.1) refl) _ (inl refl) refl;
  unstable = λ d is. (let bad : ◌≡◌ {A = ℕ} 0 2 = ap (λ (t : List ℕ). get_or t 15 0) (is refl) in absurd (omega arith));
  restarted = λ d is. (let bad : ◌≡◌ {A = ℕ} 0 7 = ap (λ (t : List ℕ). get_or t 11 0) (is refl) in absurd (omega arith));
  found = λ d is. (let e = last_of d (ops_of made misses) in name_not e.before.store e.context (0x67 ∷ []) 1 refl refl (is refl));
}

pub are_asked : AreAsked
unfolding computing lock_t lock_t_args access results.access create create_args create_type read_link results.create test_stateid code wire_ids.stateids
    results.status_codes read_dir_args values entry_of fitting read_dir results.entry results.fattr listing.read_dir commit commit_args
are_asked = record {
  denied = refl;
  told = told;
  judged = refl;
  read = refl;
  tested = refl;
  committed = refl;
  listed = λ d. refl;
  missed = refl;
  narrowed = refl;
}
