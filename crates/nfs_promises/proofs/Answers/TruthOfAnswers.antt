-- What operations answer with NFS4_OK is so.
use Rattle.std.proofs.Common.{◌≡◌, ◌≢◌, ◌⊎◌, ℕ, ◌≤◌, suc, Bool, true, false, cond, not, List, [], ◌∷◌, Option, Some, None, refl, sym, ◌∙◌, ap, subst, arith, inl, inr}
use Rattle.std.proofs.lemmas.{Bool.{and_parts, cases_Bool, eqb-true, eq-eqb, false≢true, ne_eqb, ltb-false, le-ltb, not-true}, Option.same_Some, Slice.Eq.bytes_eq-Decides}
use Rattle.std.specs.{Int.bit_at, Prelude.{◌==◌, ◌||◌, ◌&&◌, ◌+◌, ◌-◌, nat_lt, bit_and, bytes_eq, Result, Ok, Err, ok_or, map}, Option.option_map_or}
use Rattle.nfs_xdr.specs.{Status.status_number, Tables.In, declared.status.Status.Status}
use Rattle.nfs_xdr.specs.declared.status.Status.TheVariants as S
use Rattle.nfs_xdr.proofs.{Lists.find_in, Tables.{in_bounds, in_once}}
use Rattle.nfs_compound.specs.{declared.{lock_args.{LockT.LockT, LockType.LockType}, stateid.Stateid.Stateid, op_num.OpNum.OpNum}, OpNum.op_number}
use Rattle.nfs_compound.specs.declared.{op.Item.TheVariants.Operation, name_args.ReadDir.ReadDir}
use Rattle.nfs_compound.specs.declared.op.Op.TheVariants as Op
use Rattle.nfs_compound.specs.declared.op_num.OpNum.TheVariants as Num
use Rattle.nfs_results.specs.declared.res.Res.TheVariants as Res
use Rattle.nfs_results.specs.{Results.{status_of_result, spell_result}, declared.res.Entry.Entry}
use Rattle.nfs_ranges.specs.{declared.Held.Held, declared.Kind.{Kind, TheVariants.{Read, Write}}, Told.{meets}, Facts.Tells}
use Rattle.nfs_ranges.proofs.ToldLemmas.{told_is_unique}
use Rattle.nfs_tree.specs.{declared.object.Object.Object, declared.object.FileType.{FileType, TheVariants.{Regular, Directory, Link}}, Object.is_link, Files.{object_at, object_named}}
use Rattle.nfs_attrs.specs.{Mask.mask_of, Attributes.{attributes, values}, Permissions.{read as to_read, write as to_write, execute as to_execute, may, class_bits, bits_if, granted_access, supported_access}}
use Rattle.nfs_opens.specs.{declared.judging.Seat.Seat, declared.judging.Seat.TheVariants.{Anonymous, ReadBypass, Open as AnOpen}, declared.judging.Sort.TheVariants.Either}
use Rattle.nfs_opens.specs.{declared.locking.Wish.Wish, declared.records.{LockState.LockState, OpenState.OpenState}, declared.stateid.StateId.StateId, TableInvariants.IsTable}
use Rattle.nfs_opens.specs.{Table.{Table, open_at, lock_at}, Steps.{◌>>=◌, ◌>>◌, require, in_order}, Locking.{is_locker, state_of as lock_state_of, test_lock}, StateId.{is_current, is_anonymous, is_bypass}}
use Rattle.nfs_opens.specs.Judging.{named_by as state_by, lock_named}
use Rattle.nfs_opens.proofs.Terms.{judge_named}
use Rattle.nfs_names.specs.{declared.context.Context.Context, declared.node.Node.Node, State.State, Outcome.{Outcome, is_ok, done, refuses, or_refusal}}
use Rattle.nfs_names.specs.{Access.access, Checks.{node_as, node_at, current, permits, no_directory, no_access, name_checks}, GetFh.get_fh, Lookup.lookup, ReadLink.read_link}
use Rattle.nfs_names.proofs.{Faulted.status_of_refusal, Found.{came, ok_is}}
use Rattle.nfs_files.specs.{LockT.lock_t, Denied.lock_denied, Target.the_file, Ranges.{range, wished, all_ones, kind_of}, StateIds.state_id, TestStateid.{seat_status, code, test_stateid}}
use Rattle.nfs_files.proofs.{Prompt.all_pass, TreeFiles.IsWhole, Wishes.{wish_range, wish_is}, WrittenOps.current_number, StateAnswers.wished_refuses}
use Rattle.nfs_exec.specs.Runs.Ops.{RanOp}
use Rattle.nfs_exec.proofs.Runs.OneRun.{IsRun}
use Rattle.nfs_promises.specs.Answers.{Reasons.{StateTold, one_of, state_of}, Asked.{InRange, LiesBeside}}
use Rattle.nfs_promises.specs.Answers.YesIsTrue.{IsTrueOf, IsFree, IsHere, IsEntry, attributes_told, AreTold, bits, Stands, AreTested}
use Rattle.nfs_promises.proofs.{Names.{PageLists.first_in, PageRows.{entry_at, page_told}}, Runs.AttributesTold.told}
use Rattle.nfs_names.specs.ReadDir.{attributes_at, entry_of, read_dir}
use Rattle.nfs_tree.specs.{declared.row.Row.Row, declared.stored.Stored.Stored, Files.{stored_in, is_there}}
use Rattle.nfs_attrs.specs.declared.mask.Mask.{Mask}
use Rattle.std.specs.Prelude.{option_map, is_some}
use Rattle.nfs_promises.proofs.Permission.Granting.{reads, writes, executes, may_read, may_write, may_execute}
use Rattle.nfs_promises.proofs.Answers.{Blaming.{Blames, AllBlame, held_blames, there_blames, ends_then, ends_checks, answers_blame}, FileReasons.wished_is, Placed.found_now, StateReasons.{current_so, current_not, special_so, special_not}}
use Rattle.std.proofs.lemmas.Bool.{or_right}

-- What is refused is not answered NFS4_OK.

abbrev pub Off : Status → Type 0
Off f = is_ok f ≡ false

abbrev pub Yes : (List ℕ → State → Type 0) → Outcome → Type 0
Yes P o = is_ok (status_of_result o.result) ≡ true → P (spell_result o.result) o.state

pub refused_off : (P : List ℕ → State → Type 0) (s : State) (x : Context) (op : OpNum) (f : Status) → Off f → Yes P (refuses s x op f)
refused_off P s x op f off ok = absurd (false≢true (sym off ∙ (ap is_ok (sym (status_of_refusal (op_number op) f)) ∙ ok)))

pub current_off : (s : State) (x : Context) → Blames Off (current s x)
unfolding current
current_off s x = by x.current
  where
    there : (n : ℕ) (o : Option Object) → Blames Off (node_as n o)
    there n None = refl
    there n (Some o) = tt

    by : (o : Option ℕ) → Blames Off (node_at s o)
    by None = refl
    by (Some n) = there n (object_at s.tree n)

pub all_off : (checks : List (Bool × Status)) → all_pass (λ f. not (is_ok f)) checks ≡ true → AllBlame Off checks
all_off [] all = tt
all_off (c ∷ more) all = (let p = and_parts (not (is_ok c.1)) (all_pass (λ f. not (is_ok f)) more) all in (λ v. not-true _ p.0, λ u. all_off more p.1))

here_of : (s : State) (x : Context) (d : Node) → current s x ≡ Ok d → IsHere s x d.number d.object
here_of s x d e = record { at = current_number s x d e; is = (found_now s x d e).1 }

-- Objects.

pub get_attr_true : (d : RanOp) → IsRun d → (words : List ℕ) → d.item ≡ Operation (Op.GetAttr words) → is_ok d.status ≡ true
    → AreTold d.before.store d.context (mask_of words) d.result
unfolding values attributes
get_attr_true d r words is ok = told (AreTold d.before.store d.context (mask_of words)) d r words is ok (λ k there. record {
  number = k.number;
  object = k.object;
  here = here_of d.before.store d.context k there;
  told = refl;
})

pub get_fh_true : (s : State) (x : Context) → Yes (IsTrueOf s x (Operation Op.GetFh)) (get_fh s x)
unfolding get_fh
get_fh_true s x =
    let P : List ℕ → State → Type 0 = IsTrueOf s x (Operation Op.GetFh) in
    answers_blame Off (Yes P) s x Num.GetFh _ (refused_off P s x Num.GetFh) (ends_then Off (Yes P) (current s x) _ (current_off s x) (λ d e ok.
    (d.number, current_number s x d e, refl)))

pub lookup_true : (s : State) (x : Context) (name : List ℕ) → Yes (IsTrueOf s x (Operation (Op.Lookup name))) (lookup s x name)
unfolding lookup
lookup_true s x name =
    let P : List ℕ → State → Type 0 = IsTrueOf s x (Operation (Op.Lookup name)) in
    answers_blame Off (Yes P) s x Num.Lookup _ (refused_off P s x Num.Lookup) (ends_then Off (Yes P) (current s x) _ (current_off s x) (λ d e.
    ends_checks Off (Yes P) ((is_link d.object.kind, S.Symlink) ∷ no_directory d ∷ no_access x d to_execute ∷ name_checks name) _
    (all_off ((is_link d.object.kind, S.Symlink) ∷ no_directory d ∷ no_access x d to_execute ∷ name_checks name) refl) (λ u.
    ends_then Off (Yes P) (ok_or (object_named s.tree d.number name) S.NoEnt) _ (there_blames Off (object_named s.tree d.number name) S.NoEnt (λ none. refl)) (λ n there ok.
    (d.number, n, current_number s x d e, named (object_named s.tree d.number name) n there)))))
  where
    named : (o : Option ℕ) (n : ℕ) → ok_or o S.NoEnt ≡ Ok n → o ≡ Some n
    named None n e = absurd cc
    named (Some k) n e = (let same : k ≡ n = cc in ap Some same)

pub read_link_true : (s : State) (x : Context) → Yes (IsTrueOf s x (Operation Op.ReadLink)) (read_link s x)
unfolding read_link
read_link_true s x =
    let P : List ℕ → State → Type 0 = IsTrueOf s x (Operation Op.ReadLink) in
    answers_blame Off (Yes P) s x Num.ReadLink _ (refused_off P s x Num.ReadLink) (ends_then Off (Yes P) (current s x) _ (current_off s x) (λ d e.
    ends_then Off (Yes P) (require (is_link d.object.kind) S.WrongType) _ (held_blames Off (is_link d.object.kind) S.WrongType (λ other. refl)) (λ u held ok.
    record { number = d.number; object = d.object; here = here_of s x d e; link = link_is (is_link d.object.kind) held; told = refl })))
  where
    link_is : (b : Bool) → ◌≡◌ {A = Result (Unit {0}) Status} (require b S.WrongType) (Ok tt) → b ≡ true
    link_is true e = refl
    link_is false e = absurd cc

-- an entry, with the attributes of its row's object
attributes_so : (s : State) (asked : Mask) (n : ℕ) (o : Option Object) → is_some o ≡ true → (k : Object) × (o ≡ Some k) × (attributes_at s asked n o ≡ attributes_told s n k asked)
unfolding values attributes
attributes_so s asked n None there = absurd (false≢true there)
attributes_so s asked n (Some k) there = (k, refl, refl)

some_object : (s : State) (n : ℕ) → is_there s.tree n ≡ true → is_some (object_at s.tree n) ≡ true
some_object s n there = by (stored_in s.tree.objects n) there
  where
    by : (o : Option Stored) → is_some o ≡ true → is_some (option_map (λ (k : Stored). k.object) o) ≡ true
    by None there = there
    by (Some k) there = refl

is_entry : (s : State) (n : ℕ) (asked : Mask) (e : Entry) (r : Row) → IsWhole s → In r s.tree.rows → r.directory ≡ n → e ≡ entry_at s asked r → IsEntry s n asked e
unfolding entry_of
is_entry s n asked e r whole there within same =
    let its = attributes_so s asked r.object (object_at s.tree r.object) (some_object s r.object (whole.tree.rows.names r there)) in
    record {
      row = r;
      there = there;
      within = within;
      name = ap (λ (e : Entry). e.name) same;
      cookie = ap (λ (e : Entry). e.cookie) same;
      object = its.0;
      is = its.1;
      attrs = ap (λ (e : Entry). e.attrs) same ∙ its.2;
    }

pub read_dir_true : (s : State) → IsWhole s → (x : Context) (a : ReadDir) → Yes (IsTrueOf s x (Operation (Op.ReadDir a))) (read_dir s x a)
read_dir_true s whole x a ok told n valid same at e there =
    let page = page_told s x a n told whole.tree at valid same in
    let its = page.from e (first_in told.entries page.rest e there) in
    is_entry s n (mask_of a.attr_request) e its.0 whole its.1 its.2 its.4

-- ACCESS

change_both : (q r : Bool) → q && r ≡ (q && true) && r
change_both true r = refl
change_both false r = refl

access_bits : (s : State) (x : Context) (d : Node) (k : FileType) → granted_access k d.object x.who ≡ bits k (permits x d to_read) (permits x d to_write) (permits x d to_execute)
unfolding permits
access_bits s x d Regular = refl
access_bits s x d Link = refl
access_bits s x d Directory =
    ap (λ b. bits_if (may d.object x.who to_read) 1 + bits_if (may d.object x.who to_execute) 2 + bits_if b 0x1c)
    (change_both (bit_at (class_bits d.object x.who) 1 == 1) (bit_at (class_bits d.object x.who) 0 == 1))

full_bits : (k : FileType) → supported_access k ≡ bits k true true true
full_bits Regular = refl
full_bits Directory = refl
full_bits Link = refl

pub access_true : (s : State) (x : Context) (asked : ℕ) → Yes (IsTrueOf s x (Operation (Op.Access asked))) (access s x asked)
unfolding access
access_true s x asked =
    let P : List ℕ → State → Type 0 = IsTrueOf s x (Operation (Op.Access asked)) in
    answers_blame Off (Yes P) s x Num.Access _ (refused_off P s x Num.Access) (ends_then Off (Yes P) (current s x) _ (current_off s x) (λ d e ok. record {
      number = d.number;
      object = d.object;
      here = here_of s x d e;
      reads = permits x d to_read;
      writes = permits x d to_write;
      executes = permits x d to_execute;
      may_read = (reads x d, may_read x d);
      may_write = (writes x d, may_write x d);
      may_execute = (executes x d, may_execute x d);
      told = ap (λ n. spell_result (Res.Access (record { supported = bit_and asked n; access = bit_and asked (granted_access d.object.kind d.object x.who) }))) (full_bits d.object.kind)
          ∙ ap (λ n. spell_result (Res.Access (record { supported = bit_and asked (bits d.object.kind true true true); access = bit_and asked n }))) (access_bits s x d d.object.kind);
    }))

-- LOCKT

-- the asker's own state is none of another's
not_own : (t : Table) (client : ℕ) (owner : List ℕ) (file : ℕ) (l : LockState) → IsTable t → In l t.locks → is_locker client owner file l ≡ false
    → l.number ≢ option_map_or (λ (k : LockState). k.number) (lock_state_of t client owner file) 0
not_own t client owner file l table there other = by (lock_state_of t client owner file) refl
  where
    by : (o : Option LockState) → lock_state_of t client owner file ≡ o → l.number ≢ option_map_or (λ (k : LockState). k.number) o 0
    by None found same = (let low = (in_bounds (λ (k : LockState). k.number) 1 (suc t.last) t.locks l table.locks there).0 in absurd (omega arith))
    by (Some k) found same =
        let its = find_in (is_locker client owner file) t.locks k found in
        let one : l ≡ k = in_once (λ (k : LockState). k.number) 1 (suc t.last) t.locks l k table.locks there its.0 same in
        false≢true (sym other ∙ (ap (is_locker client owner file) one ∙ its.1))

others_free : (b c : Bool) → b ≡ false → not b && c ≡ false → c ≡ false
others_free false c e is = is
others_free true c e is = absurd (false≢true (sym e))

lies_beside : (kind : Kind) (held : Option Kind) → meets kind held ≡ false → LiesBeside kind held
lies_beside kind None free = inl refl
lies_beside Read (Some Read) free = inr (refl, refl)
lies_beside Read (Some Write) free = absurd (false≢true (sym free))
lies_beside Write (Some k) free = absurd (false≢true (sym free))

stranger : (client file : ℕ) (owner : List ℕ) (l : LockState) → ((l.client ≡ client) × (l.owner ≡ owner) → ⊥) → is_locker client owner file l ≡ false
stranger client file owner l other = elim (cases_Bool (is_locker client owner file l)) [
  | inr is ↦ is
  | inl its ↦ (let p = and_parts (l.file == file) ((l.client == client) && bytes_eq l.owner owner) its in
      let q = and_parts (l.client == client) (bytes_eq l.owner owner) p.1 in
      absurd (other (eqb-true _ _ q.0, (bytes_eq-Decides l.owner owner).0 q.1)))
]

-- the bytes of a range lie between its first and its last one
pub up_to : (offset size last b : ℕ) → range offset size ≡ Ok last → InRange offset size b → b ≤ last
unfolding range
up_to offset size last b e within = by (size == all_ones) (size == 0) refl refl (came (in_order ((size == 0, S.Inval) ∷ (not (size == all_ones) && nat_lt all_ones (offset + size), S.Inval) ∷ [])) _ last e).then
  where
    by : (all none : Bool) → (size == all_ones) ≡ all → (size == 0) ≡ none → ◌≡◌ {A = Result ℕ Status} (Ok (cond all all_ones (offset + size - 1))) (Ok last) → b ≤ last
    by true none is empty e = (let same : all_ones ≡ last = ok_is refl e in let top : b ≤ 0xffff_ffff_ffff_ffff = within.1 in omega (arith, same))
    by false none is empty e = (let same : offset + size - 1 ≡ last = ok_is refl e in elim within.2 [
      | inl full ↦ absurd (false≢true (sym is ∙ eq-eqb size all_ones full))
      | inr less ↦ omega (arith, same)
    ])

wished_kind : (s : State) (x : Context) (how : LockType) (offset size : ℕ) (w : Wish) → wished s x how offset size ≡ Ok w → w.kind ≡ kind_of how
unfolding wished
wished_kind s x how offset size w e =
    let d = came (the_file s x) _ w e in
    let n = came (range offset size) _ w d.then in
    ap (λ (w : Wish). w.kind) (sym (ok_is refl n.then))

free_where : (s : State) (x : Context) (a : LockT) (w : Wish) → IsWhole s → wished s x a.locktype a.offset a.length ≡ Ok w → (x.current ≡ Some w.file) → (w.kind ≡ kind_of a.locktype)
    → test_lock s.opens a.owner.owner w ≡ None → IsFree s x a
free_where s x a w whole e at kind none =
    let its = wish_is s x a.locktype a.offset a.length w e in
    record {
      file = w.file;
      at = at;
      free = λ l b there other within. elim (wish_range s x a.locktype a.offset a.length w e) [
        | inl range ↦ (let own = option_map_or (λ (k : LockState). k.number) (lock_state_of s.opens w.client a.owner.owner w.file) 0 in
            let tells : Tells (s.opens.held w.file) own w.kind w.first w.last None =
            (told_is_unique (s.opens.held w.file) (suc s.opens.last) own w.kind w.first w.last None range.0 range.1 (whole.table.below w.file)).1 none in
            let free = others_free (l.number == own) (meets w.kind (s.opens.held w.file l.number b)) (ne_eqb l.number own
            (not_own s.opens w.client a.owner.owner w.file l whole.table there (stranger w.client w.file a.owner.owner l (λ same. other (same.0 ∙ its.client, same.1)))))
            (tells b l.number (subst (λ first. first ≤ b) (sym its.first) within.0) (up_to a.offset a.length w.last b its.last within)) in
            subst (λ kind. LiesBeside kind (s.opens.held w.file l.number b)) kind (lies_beside w.kind (s.opens.held w.file l.number b) free))
        | inr past ↦ absurd (omega arith)
      ];
    }

pub test_true : (s : State) (x : Context) (a : LockT) → IsWhole s → is_ok (status_of_result (lock_t s x a).result) ≡ true → IsFree s x a
unfolding lock_t
test_true s x a whole ok = by (wished s x a.locktype a.offset a.length) refl ok
  where
    tested_free : (w : Wish) (o : Option Held) → wished s x a.locktype a.offset a.length ≡ Ok w → test_lock s.opens a.owner.owner w ≡ o
        → is_ok (status_of_result (option_map_or (λ h. Res.LockTDenied (lock_denied s.opens h)) o Res.LockT)) ≡ true → IsFree s x a
    tested_free w None e none ok = free_where s x a w whole e (wished_is s x a.locktype a.offset a.length w e).1 (wished_kind s x a.locktype a.offset a.length w e) none
    tested_free w (Some h) e some ok = absurd (false≢true ok)

    by : (v : Result Wish Status) → wished s x a.locktype a.offset a.length ≡ v → is_ok (status_of_result (or_refusal s x Num.LockT (v >>= λ w.
        Ok (done s x (option_map_or (λ h. Res.LockTDenied (lock_denied s.opens h)) (test_lock s.opens a.owner.owner w) Res.LockT)))).result) ≡ true → IsFree s x a
    by (Err f) e ok = absurd (false≢true (sym ((wished_refuses s x a.locktype a.offset a.length).each f e).done ∙ (ap is_ok (sym (status_of_refusal 13 f)) ∙ ok)))
    by (Ok w) e ok = tested_free w (test_lock s.opens a.owner.owner w) e refl ok

-- TEST_STATEID

abbrev judged_as : (a b lt gt : Bool) → Seat → Status
judged_as a b lt gt k = seat_status (in_order ((not a, S.BadStateId) ∷ (false, S.BadStateId) ∷ (false, S.BadStateId) ∷ (not b && lt, S.OldStateId) ∷ (gt, S.BadStateId) ∷ []) >> Ok k)

abbrev IsSeat : Seat → Type 0
IsSeat k = seat_status (Ok k) ≡ S.Nfs4Ok

bad_code : ◌≢◌ {A = ℕ} 10025 0
bad_code e = absurd (omega arith)

old_code : ◌≢◌ {A = ℕ} 10024 0
old_code e = absurd (omega arith)

zero_so : (k : Seat) (a b lt gt : Bool) → status_number (judged_as a b lt gt k) ≡ 0 → (a ≡ true) × ((b ≡ true) ⊎ (lt ≡ false)) × (gt ≡ false)
zero_so k false b lt gt e = absurd (bad_code e)
zero_so k true true lt true e = absurd (bad_code e)
zero_so k true true lt false e = (refl, inl refl, refl)
zero_so k true false true gt e = absurd (old_code e)
zero_so k true false false true e = absurd (bad_code e)
zero_so k true false false false e = (refl, inr refl, refl)

so_zero : (k : Seat) → IsSeat k → (a b lt gt : Bool) → a ≡ true → (b ≡ true) ⊎ (lt ≡ false) → gt ≡ false → status_number (judged_as a b lt gt k) ≡ 0
so_zero k seat true true lt false e f g = ap status_number seat
so_zero k seat true false false false e f g = ap status_number seat
so_zero k seat true false true false e (inl f) g = absurd (false≢true f)
so_zero k seat true false true false e (inr f) g = absurd (false≢true (sym f))
so_zero k seat true b lt true e f g = absurd (false≢true (sym g))
so_zero k seat false b lt gt e f g = absurd (false≢true e)

-- the seqids of the two
seqids : (given has : ℕ) → ((given == 0) ≡ true) ⊎ (nat_lt given has ≡ false) → nat_lt has given ≡ false → (given ≡ 0) ⊎ (given ≡ has)
seqids given has (inl zero) later = inl (eqb-true _ _ zero)
seqids given has (inr early) later = inr (let a = ltb-false given has early in let b = ltb-false has given later in omega arith)

seqids_so : (given has : ℕ) → (given ≡ 0) ⊎ (given ≡ has) → (((given == 0) ≡ true) ⊎ (nat_lt given has ≡ false)) × (nat_lt has given ≡ false)
seqids_so given has (inl zero) = (inl (eq-eqb given 0 zero), subst (λ n. nat_lt has n ≡ false) (sym zero) (le-ltb has 0 (omega arith)))
seqids_so given has (inr same) = (inr (subst (λ n. nat_lt n has ≡ false) (sym same) (not_below has)), subst (λ n. nat_lt has n ≡ false) (sym same) (not_below has))
  where
    not_below : (n : ℕ) → nat_lt n n ≡ false
    not_below n = le-ltb n n (omega arith)

module _ (s : State) (x : Context) (given : Stateid) where
  abbrev id : StateId
  id = state_id given

  named_zero : (is_current id ≡ false) → (is_anonymous id ≡ false) → (is_bypass id ≡ false) → (same : Bool) (o : Option OpenState) (l : Option LockState)
      → state_of s.opens id ≡ cond same (one_of o l) None
      → status_number (seat_status (judge_named x.client None Either id.seqid (cond same (state_by s.opens o l) None))) ≡ 0 → Stands s x given
  named_zero plain zeros ones false o l at e = absurd (bad_code e)
  named_zero plain zeros ones true None None at e = absurd (bad_code e)
  named_zero plain zeros ones true (Some o) l at e =
      let p = zero_so (AnOpen o.number o.access) (o.client == x.client) (id.seqid == 0) (nat_lt id.seqid o.seqid) (nat_lt o.seqid id.seqid) e in
      record { current = current_not id plain; special = special_not id zeros ones; state = _; names = at; client = eqb-true _ _ p.0; seqid = seqids id.seqid o.seqid p.1 p.2 }
  named_zero plain zeros ones true None (Some l) at e =
      let p = zero_so (lock_named s.opens l).seat (l.client == x.client) (id.seqid == 0) (nat_lt id.seqid l.seqid) (nat_lt l.seqid id.seqid) e in
      record { current = current_not id plain; special = special_not id zeros ones; state = _; names = at; client = eqb-true _ _ p.0; seqid = seqids id.seqid l.seqid p.1 p.2 }

  zero_named : (k : Stands s x given) → (same : Bool) (o : Option OpenState) (l : Option LockState) → state_of s.opens id ≡ cond same (one_of o l) None
      → status_number (seat_status (judge_named x.client None Either id.seqid (cond same (state_by s.opens o l) None))) ≡ 0
  zero_named k false o l at = (let bad : Some k.state ≡ None = sym k.names ∙ at in cc)
  zero_named k true None None at = (let bad : Some k.state ≡ None = sym k.names ∙ at in cc)
  zero_named k true (Some o) l at =
      let one = same_Some k.state _ (sym k.names ∙ at) in
      let p = seqids_so id.seqid o.seqid (subst (λ (m : StateTold). (id.seqid ≡ 0) ⊎ (id.seqid ≡ m.seqid)) one k.seqid) in
      so_zero (AnOpen o.number o.access) refl (o.client == x.client) (id.seqid == 0) (nat_lt id.seqid o.seqid) (nat_lt o.seqid id.seqid)
      (eq-eqb _ _ (sym (ap (λ (m : StateTold). m.client) one) ∙ k.client)) p.0 p.1
  zero_named k true None (Some l) at =
      let one = same_Some k.state _ (sym k.names ∙ at) in
      let p = seqids_so id.seqid l.seqid (subst (λ (m : StateTold). (id.seqid ≡ 0) ⊎ (id.seqid ≡ m.seqid)) one k.seqid) in
      so_zero (lock_named s.opens l).seat refl (l.client == x.client) (id.seqid == 0) (nat_lt id.seqid l.seqid) (nat_lt l.seqid id.seqid)
      (eq-eqb _ _ (sym (ap (λ (m : StateTold). m.client) one) ∙ k.client)) p.0 p.1

  abbrev code_by : (current zeros ones : Bool) → ℕ
  code_by current zeros ones = status_number (cond current S.BadStateId (seat_status (cond zeros (Ok Anonymous) (cond ones (Ok ReadBypass)
      (judge_named x.client None Either id.seqid (cond (id.instance == s.opens.instance) (state_by s.opens (open_at s.opens id.number) (lock_at s.opens id.number)) None))))))

  by_zero : (current zeros ones : Bool) → is_current id ≡ current → is_anonymous id ≡ zeros → is_bypass id ≡ ones → code_by current zeros ones ≡ 0 → Stands s x given
  by_zero true zeros ones c z o e = absurd (bad_code e)
  by_zero false true ones c z o e = absurd (bad_code e)
  by_zero false false true c z o e = absurd (bad_code e)
  by_zero false false false c z o e = named_zero c z o (id.instance == s.opens.instance) (open_at s.opens id.number) (lock_at s.opens id.number) refl e

  zero_by : Stands s x given → (current zeros ones : Bool) → is_current id ≡ current → is_anonymous id ≡ zeros → is_bypass id ≡ ones → code_by current zeros ones ≡ 0
  zero_by k true zeros ones c z o = absurd (k.current (current_so id c))
  zero_by k false true ones c z o = absurd (k.special (special_so id (ap (λ b. b || is_bypass id) z)))
  zero_by k false false true c z o = absurd (k.special (special_so id (or_right (is_anonymous id) (is_bypass id) o)))
  zero_by k false false false c z o = zero_named k (id.instance == s.opens.instance) (open_at s.opens id.number) (lock_at s.opens id.number) refl

  code_so : code s x given ≡ 0 → Stands s x given
  unfolding code
  code_so e = by_zero (is_current id) (is_anonymous id) (is_bypass id) refl refl refl e

  so_code : Stands s x given → code s x given ≡ 0
  unfolding code
  so_code k = zero_by k (is_current id) (is_anonymous id) (is_bypass id) refl refl refl

are_tested : (s : State) (x : Context) (given : List Stateid) → AreTested s x given (map (code s x) given)
are_tested s x [] = tt
are_tested s x (g ∷ more) = (code_so s x g, so_code s x g, are_tested s x more)

pub test_stateid_true : (s : State) (x : Context) (given : List Stateid) → Yes (IsTrueOf s x (Operation (Op.TestStateid given))) (test_stateid s x given)
unfolding test_stateid
test_stateid_true s x given ok = (map (code s x) given, are_tested s x given, refl)
