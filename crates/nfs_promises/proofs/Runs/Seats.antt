-- What an operation did that was answered NFS4_OK, as data: of which objects the filehandles are behind it, and where names lead; and that each operation did so.
use Rattle.std.proofs.Common.{◌≡◌, ◌≢◌, ℕ, ◌+◌, Bool, true, false, not, List, [], ◌∷◌, Option, Some, None, refl, sym, ◌∙◌, ap, subst}
use Rattle.std.proofs.lemmas.Bool.{eqb-true, not-false, false≢true}
use Rattle.std.specs.Prelude.{◌==◌, ◌&&◌, IfSome, is_some, option_map}
use Rattle.nfs_xdr.specs.{declared.time.Time.Time, declared.status.Status.TheVariants.Stale}
use Rattle.nfs_xdr.proofs.Checks.{all_passed}
use Rattle.nfs_compound.specs.{Arguments.arguments, declared.name_args.Create.Create, declared.name_args.Rename.Rename}
use Rattle.nfs_compound.specs.declared.open_args.OpenClaim.{OpenClaim}
use Rattle.nfs_compound.specs.{declared.open_args.OpenClaim.TheVariants.Null, declared.op.Op.Op, declared.op.Item.Item}
use Rattle.nfs_compound.specs.{declared.op.Item.TheVariants.{Operation, Fault}, OpNum.op_number}
use Rattle.nfs_compound.specs.declared.op_num.OpNum.TheVariants as Num
use Rattle.nfs_results.specs.Results.{refusal}
use Rattle.nfs_ranges.specs.declared.Held.{Held}
use Rattle.nfs_tree.specs.{declared.row.Row.Row, Create.create_checks, Files.{Files, root, object_at, entry, object_named, parent_in, is_directory_at}}
use Rattle.nfs_tree.specs.{Names.{moves, link_checks}, TreeInvariants.IsTree}
use Rattle.nfs_tree.specs.Object.{is_directory}
use Rattle.nfs_attrs.specs.{declared.handle.Handle.Handle, Handle.handle_of, Permissions.execute}
use Rattle.nfs_opens.specs.Locking as locking
use Rattle.nfs_names.specs.{declared.context.Context.Context, Checks.{saved_object, no_directory, no_access}, Create.{new_of, create}, Link.link}
use Rattle.nfs_names.specs.{Outcome.{Outcome, checked, is_ok, lacks, refuses}, PutPubFh.put_pub_fh, PutRootFh.put_root_fh, Rename.{move_of, renamed, rename}}
use Rattle.nfs_names.specs.State.{State, time_at}
use Rattle.nfs_names.specs.Operation as names
use Rattle.nfs_names.proofs.{Found.{current_is, checked_ok}, Faulted.{status_of_refusal, lacks_fail}, Ones.{each_of, if_delayed, by_delay}}
use Rattle.nfs_names.proofs.NameLaws as law
use Rattle.nfs_files.specs.{OpenTold.{named_in, claimed}, Operation.grows, TestStateid.test_stateid}
use Rattle.nfs_files.specs.OpenParts as open_parts
use Rattle.nfs_files.specs.Open as of_open
use Rattle.nfs_files.proofs.Terms.{tested}
use Rattle.nfs_files.proofs.{ChangesTold.{Done, some_same}, FileOps.by_granted, OpenAnswers.open_refuses, OpensMoved.{by_close, by_free, by_downgrade, by_lock, by_unlock}}
use Rattle.nfs_files.proofs.{Outcomes.for_each, ToldOpens.asked_leads, WrittenOps.{by_found, current_number}}
use Rattle.nfs_files.proofs.Outcomes as files
use Rattle.nfs_exec.specs.{Step.{Machine.Machine, Behind.{Step, step, otherwise}, Run.in_room}, Runs.Ops.{RanOp, done}}
use Rattle.nfs_exec.proofs.{Step.Behind.by_step, Runs.OneRun.{IsRun, in_room_is, too_big}}
use Rattle.nfs_promises.proofs.Names.{NameRows.{both_at, unused_rows}, NameSaid.{IsGone, pushed_found, removed_gone, moved_leads, moved_gone}}
use Rattle.nfs_files.proofs.InSteps as in_steps
use Rattle.nfs_tree.proofs.Put.{vacant_of}

-- What an item would come to in the place of an operation that was run, and that its own item came to that.

abbrev pub ran_as : (d : RanOp) → IsRun d → Item → Step
ran_as d r i = in_room r.limit r.sofar r.now r.refused d.before d.context i

pub as_step : (d : RanOp) (r : IsRun d) (i : Item) → d.item ≡ i → d ≡ done r.limit r.sofar r.refused d.before d.context i (ran_as d r i)
as_step d r i same = r.is ∙ ap (λ i. done r.limit r.sofar r.refused d.before d.context i (ran_as d r i)) same

-- Most operations leave both filehandles.

abbrev pub Same : Context → Context → Type 0
Same x y = (y.current ≡ x.current) × (y.saved ≡ x.saved)

-- PUTFH
pub record PutTo (instance : ℕ) (h : List ℕ) (x y : Context) : Type 0 where
  pub handle : Handle
  pub read : handle_of h ≡ Some handle
  pub own : handle.instance ≡ instance
  pub current : y.current ≡ Some handle.number
  pub saved : y.saved ≡ x.saved

-- PUTROOTFH and PUTPUBFH
abbrev pub AtRoot : Context → Context → Type 0
AtRoot x y = (y.current ≡ Some root) × (y.saved ≡ x.saved)

-- SAVEFH and RESTOREFH
abbrev pub Saves : Context → Context → Type 0
Saves x y = (y.current ≡ x.current) × (saved_object y.saved ≡ x.current)

abbrev pub Restores : Context → Context → Type 0
Restores x y = (y.current ≡ saved_object x.saved) × (y.saved ≡ x.saved)

-- LOOKUP, CREATE and OPEN by a name: the object that the name leads to behind it
pub record LedTo (name : List ℕ) (t : Files) (x y : Context) : Type 0 where
  pub directory : ℕ
  pub object : ℕ
  pub from : x.current ≡ Some directory
  pub to : y.current ≡ Some object
  pub leads : object_named t directory name ≡ Some object
  pub saved : y.saved ≡ x.saved

-- so the object that is current is that of the name
pub led_on : (name : List ℕ) (t : Files) (x y : Context) (directory : ℕ) → x.current ≡ Some directory → LedTo name t x y → y.current ≡ object_named t directory name
led_on name t x y directory at led =
    led.to ∙ (sym led.leads ∙ ap (λ d. object_named t d name) (some_same x.current led.directory directory led.from at))

-- OPEN, by what its claim names
abbrev pub OpenedTo : OpenClaim → Files → Context → Context → Type 0
OpenedTo claim t x y = (claimed t x claim ≡ y.current) × (n : ℕ) × (y.current ≡ Some n) × (y.saved ≡ x.saved)

pub by_name : (name : List ℕ) (t : Files) (x y : Context) → OpenedTo (Null name) t x y → LedTo name t x y
by_name name t x y is = go x.current refl is.0
  where
    go : (o : Option ℕ) → x.current ≡ o → named_in t name o ≡ y.current → LedTo name t x y
    go None e leads = absurd (let bad : None ≡ Some is.1 = leads ∙ is.2 in cc)
    go (Some d) e leads = record { directory = d; object = is.1; from = e; to = is.2; leads = leads ∙ is.2; saved = is.3 }

-- LOOKUPP
pub record IsParent (t : Files) (x y : Context) : Type 0 where
  pub object : ℕ
  pub parent : ℕ
  pub from : x.current ≡ Some object
  pub to : y.current ≡ Some parent
  pub stands : parent_in t.rows object ≡ Some parent
  pub directory : is_directory_at t object ≡ true
  pub saved : y.saved ≡ x.saved

-- LINK: the name leads to the saved object
pub record LinkedTo (name : List ℕ) (t : Files) (x : Context) : Type 0 where
  pub directory : ℕ
  pub object : ℕ
  pub from : x.current ≡ Some directory
  pub saved : saved_object x.saved ≡ Some object
  pub leads : object_named t directory name ≡ Some object

-- REMOVE: the name leads nowhere
pub record RemovedFrom (name : List ℕ) (t : Files) (x : Context) : Type 0 where
  pub directory : ℕ
  pub from : x.current ≡ Some directory
  pub gone : IsGone directory name t

-- RENAME: the new name leads where the old one led, which is gone if it led elsewhere than the new one
pub record RenamedAs (a : Rename) (t u : Files) (x : Context) : Type 0 where
  pub source : ℕ
  pub target : ℕ
  pub from : saved_object x.saved ≡ Some source
  pub to : x.current ≡ Some target
  pub leads : (n : ℕ) → object_named t source a.oldname ≡ Some n → object_named u target a.newname ≡ Some n
  pub gone : object_named t source a.oldname ≢ object_named t target a.newname → IsGone source a.oldname u

-- What an item did, by the states and the contexts before it and behind it.
abbrev pub Did : Item → State → Context → State → Context → Type 0
Did (Operation (Op.PutFh h)) s x t y = PutTo s.opens.instance h x y
Did (Operation Op.PutRootFh) s x t y = AtRoot x y
Did (Operation Op.PutPubFh) s x t y = AtRoot x y
Did (Operation Op.SaveFh) s x t y = Saves x y
Did (Operation Op.RestoreFh) s x t y = Restores x y
Did (Operation (Op.SecinfoNoName style)) s x t y = y.saved ≡ x.saved
Did (Operation (Op.Lookup name)) s x t y = (t ≡ s) × LedTo name t.tree x y
Did (Operation Op.LookupP) s x t y = IsParent s.tree x y
Did (Operation (Op.Create a)) s x t y = LedTo a.objname t.tree x y
Did (Operation (Op.Open a)) s x t y = OpenedTo a.claim t.tree x y
Did (Operation (Op.Link name)) s x t y = Same x y × LinkedTo name t.tree x
Did (Operation (Op.Remove name)) s x t y = Same x y × RemovedFrom name t.tree x
Did (Operation (Op.Rename a)) s x t y = Same x y × RenamedAs a s.tree t.tree x
Did i s x t y = Same x y

abbrev Does : Op → State → Context → Outcome → Type 0
Does op s x = Done (λ o. Did (Operation op) s x o.state o.context)

-- Each operation on names did so.

did_create : (s : State) (x : Context) (now : Time) (a : Create) → Does (Op.Create a) s x (create s x now a)
did_create s x now a =
    law.by_create (Does (Op.Create a) s x) s x now a (λ f h ok. absurd (false≢true (sym h.done ∙ ok))) (λ d wanted here placed read row ok.
    (let t = s.tree in
    let passed = all_passed (create_checks t d.number a.objname (new_of a.objtype)) row in
    let new : Row = record { directory = d.number; name = a.objname; object = t.last_object + 1; cookie = t.last_cookie + 1 } in
    record {
      directory = d.number;
      object = t.last_object + 1;
      from = current_number s x d here;
      to = refl;
      leads = ap (option_map (λ (r : Row). r.object)) (pushed_found t.rows new (vacant_of (entry t.rows d.number a.objname) passed.1.1.1.1.0));
      saved = refl;
    }))

did_link : (s : State) (x : Context) (now : Time) (name : List ℕ) → Does (Op.Link name) s x (link s x now name)
did_link s x now name =
    law.by_link (Does (Op.Link name) s x) s x now name (λ f h ok. absurd (false≢true (sym h.done ∙ ok))) (λ p here placed row ok.
    (let t = s.tree in
    let passed = all_passed (link_checks t p.saved.number p.current.number name) row in
    let new : Row = record { directory = p.current.number; name = name; object = p.saved.number; cookie = t.last_cookie + 1 } in (
      (refl, refl),
      record {
        directory = p.current.number;
        object = p.saved.number;
        from = (both_at s x p here).current_is;
        saved = (both_at s x p here).saved_is;
        leads = ap (option_map (λ (r : Row). r.object)) (pushed_found t.rows new (vacant_of (entry t.rows p.current.number name) passed.1.1.1.1.0));
      },
    )))

same_renamed : (s : State) (x : Context) (now : Time) (a : Rename) (p : _) (b : Bool) → Same x (renamed s x now a p b).context
same_renamed s x now a p true = (refl, refl)
same_renamed s x now a p false = (refl, refl)

did_rename : (s : State) (x : Context) (now : Time) (a : Rename) → IsTree s.tree → Does (Op.Rename a) s x (rename s x now a)
did_rename s x now a tree =
    law.by_rename (Does (Op.Rename a) s x) s x now a (λ f h ok. absurd (false≢true (sym h.done ∙ ok))) (λ p here row ok.
    (let b = moves s.tree (move_of a p) in (
      same_renamed s x now a p b,
      record {
        source = p.saved.number;
        target = p.current.number;
        from = (both_at s x p here).saved_is;
        to = (both_at s x p here).current_is;
        leads = λ n from. moved_leads n s x now a p b here tree from refl;
        gone = λ differ. moved_gone s x now a p b here tree row differ refl;
      },
    )))

did_name : (s : State) (x : Context) (now : Time) (op : Op) → IsTree s.tree → IfSome (names.one s x now op) (Does op s x)
unfolding put_pub_fh put_root_fh
did_name s x now (Op.Access asked) tree = law.by_access (Does (Op.Access asked) s x) s x asked (λ f h ok. absurd (false≢true (sym h.done ∙ ok))) (λ d there ok. (refl, refl))
did_name s x now (Op.Create a) tree = did_create s x now a
did_name s x now (Op.GetAttr words) tree =
    law.by_get_attr (Does (Op.GetAttr words) s x) s x words (λ f h ok. absurd (false≢true (sym h.done ∙ ok))) (λ d there plain ok. (refl, refl))
did_name s x now Op.GetFh tree = law.by_get_fh (Does Op.GetFh s x) s x (λ f h ok. absurd (false≢true (sym h.done ∙ ok))) (λ d there ok. (refl, refl))
did_name s x now (Op.Link name) tree = did_link s x now name
did_name s x now (Op.Lookup name) tree =
    law.by_lookup (Does (Op.Lookup name) s x) s x name (λ f h ok. absurd (false≢true (sym h.done ∙ ok))) (λ d n there placed named ok.
    (refl, record { directory = d.number; object = n; from = current_number s x d there; to = refl; leads = named; saved = refl }))
did_name s x now Op.LookupP tree =
    law.by_lookup_p (Does Op.LookupP s x) s x (λ f h ok. absurd (false≢true (sym h.done ∙ ok)))
    (λ d n there placed stands ok. (let passed = all_passed (no_directory d ∷ no_access x d execute ∷ []) placed in
    record {
      object = d.number;
      parent = n;
      from = current_number s x d there;
      to = refl;
      stands = stands;
      directory = (current_is s x d there).directory ∙ not-false (is_directory d.object.kind) passed.0;
      saved = refl;
    }))
did_name s x now (Op.NVerify a) tree = law.by_nverify (Does (Op.NVerify a) s x) s x a (λ f h ok. absurd (false≢true (sym h.done ∙ ok))) (λ equal e unequal ok. (refl, refl))
did_name s x now (Op.PutFh h) tree =
    law.by_put_fh (Does (Op.PutFh h) s x) s x h (λ f refusal ok. absurd (false≢true (sym refusal.done ∙ ok))) (λ k read placed ok.
    (let passed = all_passed ((not (k.instance == s.opens.instance), Stale) ∷ (not (is_some (object_at s.tree k.number)), Stale) ∷ []) placed in
    record { handle = k; read = read; own = eqb-true k.instance s.opens.instance (not-false _ passed.0); current = refl; saved = refl }))
did_name s x now Op.PutPubFh tree = λ ok. (refl, refl)
did_name s x now Op.PutRootFh tree = λ ok. (refl, refl)
did_name s x now (Op.ReadDir a) tree =
    law.by_read_dir (Does (Op.ReadDir a) s x) s x a (λ f h ok. absurd (false≢true (sym h.done ∙ ok))) (λ d there placed some ok. (refl, refl))
did_name s x now Op.ReadLink tree = law.by_read_link (Does Op.ReadLink s x) s x (λ f h ok. absurd (false≢true (sym h.done ∙ ok))) (λ d there linked ok. (refl, refl))
did_name s x now (Op.Remove name) tree =
    law.by_remove (Does (Op.Remove name) s x) s x now name (λ f h ok. absurd (false≢true (sym h.done ∙ ok))) (λ d there placed row ok. (
      (refl, refl),
      record {
        directory = d.number;
        from = current_number s x d there;
        gone = ap (λ rows. entry rows d.number name) (unused_rows _ _) ∙ removed_gone s.tree.rows d.number name;
      },
    ))
did_name s x now (Op.Rename a) tree = did_rename s x now a tree
did_name s x now Op.RestoreFh tree = law.by_restore_fh (Does Op.RestoreFh s x) s x (λ f h ok. absurd (false≢true (sym h.done ∙ ok))) (λ saved kept stands ok. (sym (ap saved_object kept), refl))
did_name s x now Op.SaveFh tree = law.by_save_fh (Does Op.SaveFh s x) s x (λ f h ok. absurd (false≢true (sym h.done ∙ ok))) (λ d there ok. (refl, sym (current_number s x d there)))
did_name s x now (Op.SecinfoNoName style) tree =
    law.by_secinfo_no_name (Does (Op.SecinfoNoName style) s x) s x style (λ f h ok. absurd (false≢true (sym h.done ∙ ok))) (λ d there placed ok. refl)
did_name s x now (Op.Verify a) tree = law.by_verify (Does (Op.Verify a) s x) s x a (λ f h ok. absurd (false≢true (sym h.done ∙ ok))) (λ equal e same ok. (refl, refl))
did_name s x now op tree = tt

-- .. and each on open files, of which OPEN alone moves a filehandle.

plain_tested : (s : State) (x : Context) (o : Option Held) → Same x (tested s x o).context
plain_tested s x None = (refl, refl)
plain_tested s x (Some h) = (refl, refl)

did_file : (s : State) (x : Context) (now : Time) (op : Op) → Does op s x (files.one s x now op)
unfolding test_stateid
did_file s x now (Op.Close a) = λ ok. by_close (λ o. Same x o.context) s x a (λ status. (refl, refl)) (λ t did judged granted its. (refl, refl))
did_file s x now (Op.Commit a) = λ ok. rw (in_steps.commit_is s x) (by_found (λ o. Same x o.context) s x Num.Commit _ _ (λ status. (refl, refl)) (λ d e. (refl, refl)))
did_file s x now (Op.FreeStateid given) = λ ok. by_free (λ o. Same x o.context) s x given (λ status. (refl, refl)) (λ id did freed. (refl, refl))
did_file s x now (Op.Lock a) = λ ok. by_lock (λ o. Same x o.context) s x a (λ status. (refl, refl)) (λ h. (refl, refl)) (λ m did judged granted locked. (refl, refl))
did_file s x now (Op.LockT a) = λ ok. rw (in_steps.test_is s x a)
    (by_found (λ o. Same x o.context) s x Num.LockT _ _ (λ status. (refl, refl)) (λ w e. plain_tested s x (locking.test_lock s.opens a.owner.owner w)))
did_file s x now (Op.LockU a) = λ ok. by_unlock (λ o. Same x o.context) s x a (λ status. (refl, refl)) (λ m did judged granted unlocked. (refl, refl))
did_file s x now (Op.Open a) =
    rw (in_steps.open_is s x now a) (by_granted (Does (Op.Open a) s x) s x Num.Open (checked (open_parts.asked_for s x a) (of_open.last_checks s x a))
    (of_open.opened s x now a) (open_refuses s x a) (λ status refusal ok. absurd (false≢true (sym refusal.done ∙ ok)))
    (λ f granted ok. (asked_leads s x now a f (checked_ok (open_parts.asked_for s x a) (of_open.last_checks s x a) f granted).0, of_open.file_of s.tree f, refl, refl)))
did_file s x now (Op.OpenDowngrade a) = λ ok. by_downgrade (λ o. Same x o.context) s x a (λ status. (refl, refl)) (λ t did narrowed. (refl, refl))
did_file s x now (Op.Read a) = λ ok. rw (in_steps.read_is s x a) (by_found (λ o. Same x o.context) s x Num.Read _ _ (λ status. (refl, refl)) (λ d e. (refl, refl)))
did_file s x now (Op.SetAttr a) = λ ok. rw (in_steps.set_attr_is s x now a) (by_found (λ o. Same x o.context) s x Num.SetAttr _ _ (λ status. (refl, refl)) (λ d e. (refl, refl)))
did_file s x now (Op.TestStateid given) = λ ok. (refl, refl)
did_file s x now (Op.Write a) = λ ok. rw (in_steps.write_is s x now a) (by_found (λ o. Same x o.context) s x Num.Write _ _ (λ status. (refl, refl)) (λ d e. (refl, refl)))
did_file s x now op = λ ok. absurd (false≢true ok)

-- So did each operation that was run.

delayed : (op : Op) (s : State) (x : Context) → Does op s x (refuses s x (arguments op).op (lacks s (arguments op).op))
delayed op s x ok = absurd (false≢true (sym (ap is_ok (status_of_refusal (op_number (arguments op).op) (lacks s (arguments op).op)) ∙ lacks_fail s (arguments op).op) ∙ ok))

did_step : (m : Machine) (x : Context) (now : ℕ) (refused : Bool) (i : Item) → IsTree m.store.tree
    → (let s = step m x now refused i in is_ok s.outcome.status ≡ true → Did i m.store x s.outcome.machine.store s.context)
did_step m x now refused (Operation op) tree =
    let s = m.store in
    let t = time_at s now in
    let Ends : Step → Type 0 = λ e. is_ok e.outcome.status ≡ true → Did (Operation op) s x e.outcome.machine.store e.context in
    by_step Ends m x now refused (Operation op)
    (each_of (Does op s x) (names.comes_to refused s x t (Operation op))
    (if_delayed (Does op s x) (names.grows s x op && refused) s x (arguments op).op (names.one s x t op) (delayed op s x) (did_name s x t op tree)))
    (for_each (Does op s x) refused s x t (Operation op)
    (by_delay (Does op s x) (grows s x op && refused) s x (arguments op).op (files.one s x t op) (delayed op s x) (did_file s x t op)))
    (λ none other. did_otherwise op)
  where
    did_otherwise : (op : Op) → (let e = otherwise m x (Operation op) in is_ok e.outcome.status ≡ true → Did (Operation op) m.store x e.outcome.machine.store e.context)
    did_otherwise (Op.ReclaimComplete one) ok = (refl, refl)
    did_otherwise op ok = absurd (false≢true ok)
did_step m x now refused (Fault n status) tree = λ ok. (refl, refl)

pub did : (d : RanOp) (r : IsRun d) (i : Item) → d.item ≡ i → is_ok d.status ≡ true → Did i d.before.store d.context d.behind.store (ran_as d r i).context
did d r i item ok =
    let m = d.before in
    let x = d.context in
    let same = as_step d r i item in
    subst (λ (t : State). Did i m.store x t (ran_as d r i).context) (sym (ap (λ (d : RanOp). d.behind.store) same))
    (in_room_is (λ s. is_ok s.outcome.status ≡ true → Did i m.store x s.outcome.machine.store s.context) r.limit r.sofar r.now r.refused m x i
    (λ ok. absurd (too_big m x i ok)) (did_step m x r.now r.refused i r.whole.tree) (ap (λ (d : RanOp). is_ok d.status) (sym same) ∙ ok))
