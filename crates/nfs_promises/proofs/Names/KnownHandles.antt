-- What is known of filehandles by what was sent and answered is so, in every run.
use Rattle.std.proofs.Common.{◌≡◌, ℕ, zero, suc, ◌<◌, ◌^◌, Bool, true, false, cond, not, List, [], ◌∷◌, length, take, drop, get_or, Option, Some, None}
use Rattle.std.proofs.Common.{refl, sym, ◌∙◌, ap, subst, arith, inl, inr}
use Rattle.std.proofs.lemmas.Bool.{and_parts, and_from, not-true, eqb-true, ltb-true, false≢true, true≢false}
use Rattle.std.proofs.{lemmas.List.{take_at, drop_at}, lemmas.Option.same_Some, lemmas.Slice.Eq.bytes_eq-Decides}
use Rattle.std.specs.{Prelude.{◌==◌, bytes_eq, find, is_some, option_map, option_and_then}, Int.{w32, from_be_bytes}}
use Rattle.std.specs.Option.{option_map_or}
use Rattle.nfs_xdr.specs.{Spelling.{number, fixed, opaque}, Tables.In}
use Rattle.nfs_xdr.specs.declared.status.Status.TheVariants.{Nfs4Ok, NoFileHandle, RepTooBig}
use Rattle.nfs_xdr.proofs.{Lists.{find_in, in_filter}, Putting.length_number}
use Rattle.nfs_compound.specs.declared.{name_args.Rename.Rename, open_args.OpenClaim.OpenClaim}
use Rattle.nfs_compound.specs.{declared.open_args.OpenClaim.TheVariants.Null, declared.op.Item.Item, declared.op.Item.TheVariants.Operation, OpNum.op_number}
use Rattle.nfs_compound.specs.declared.op.Op.TheVariants as Op
use Rattle.nfs_compound.specs.declared.op_num.OpNum.TheVariants as Num
use Rattle.nfs_results.specs.declared.res.Res.TheVariants as Res
use Rattle.nfs_results.specs.Results.{spell_result, done_head, refusal}
use Rattle.nfs_results.proofs.Lengths.{length_head}
use Rattle.nfs_tree.specs.{declared.row.Row.Row, Files.{root, is_entry, entry, is_directory_at}}
use Rattle.nfs_tree.proofs.RowsKept.{entry_parts}
use Rattle.nfs_attrs.specs.Handle.{handle_of}
use Rattle.nfs_attrs.proofs.{Lengths.length_handle, Texts.handle_is}
use Rattle.nfs_names.specs.{declared.start.Start.Start, declared.context.Context.Context}
use Rattle.nfs_names.specs.{Checks.{saved_object, current}, Outcome.is_ok}
use Rattle.nfs_names.proofs.NameLaws.{by_get_fh}
use Rattle.nfs_files.proofs.{WrittenOps.{number_back, current_number}, ChangesTold.{Done, some_same}}
use Rattle.nfs_exec.specs.Step.Machine.{Machine}
use Rattle.nfs_promises.specs.Runs.Handles.{Gives}
use Rattle.nfs_exec.specs.Runs.Ops.{RanOp, left_by, AreChained}
use Rattle.nfs_exec.proofs.{Step.Instances.instance_kept, Runs.KeptByRuns.Is, Runs.OneRun.{IsRun, by_item, by_ok}}
use Rattle.nfs_promises.proofs.Runs.{LaterRecords.op_keeps, Handles.{handle_in, handle_read}}
use Rattle.nfs_promises.proofs.Runs.Handles as handles
use Rattle.nfs_promises.specs.Answers.Reasons.{Reason}
use Rattle.nfs_promises.proofs.{Answers.NameReasons.get_fh_blames, Runs.StatusTold.{is_told, done_ok}}
use Rattle.nfs_serve.specs.{Step.{ServerState, new_state}}
use Rattle.nfs_promises.specs.{Network.Endpoint.Arrival, Names.KnownHandles.{Place, KnownName, Known, starts, is_at, object_of, directory_of, may_be, without}}
use Rattle.nfs_promises.specs.Names.KnownHandles.{with_name, place_in, are_bytes, led_by, opened, given_in, behind, IsHandleOf, known_after, known_after_all}
use Rattle.nfs_promises.specs.Names.{KnownHandles.{Tells, Follow, names_after, FollowThrough, root_of, HandlesFollow}, NameStays.{TakesIt, Removed}}
use Rattle.nfs_promises.specs.{Names.NameStays.{MovedAway, MovedOver, next_of}, Runs.Points.{state_after, before, asked_by, ops_of}}
use Rattle.nfs_promises.proofs.Names.{Handles.{Has, has_next, number_in}, NameRows.{run_rows, kept_rows, takes_names, spared}}
use Rattle.nfs_promises.proofs.{Names.NameStays.{RunsTo, AreLinked, rows, asked_runs, missed}, Runs.Points.{IsSound, whole_before}}
use Rattle.nfs_promises.proofs.Runs.{Points.{sound_next, sound_new, next_is}, Seats.{AtRoot, LedTo, PutTo, IsParent, OpenedTo, Did, led_on, by_name, did}}

-- A test for bytes.

list_bytes : (h : List ℕ) → are_bytes h ≡ true → (i : ℕ) → get_or h i 0 < 256
list_bytes [] e i = omega arith
list_bytes (b ∷ h) e zero = ltb-true b 256 (and_parts _ _ e).0
list_bytes (b ∷ h) e (suc i) = list_bytes h (and_parts _ _ e).1 i

-- The filehandle in the result of a GETFH.

pub given_back : (h : List ℕ) → length h ≡ 16 → given_in (spell_result (Res.GetFh h)) ≡ h
given_back h long =
    let text : drop 8 (spell_result (Res.GetFh h)) ≡ opaque h = drop_at (done_head Num.GetFh) (opaque h) 8 (length_head (op_number Num.GetFh) Nfs4Ok) in
    let count : take 4 (opaque h) ≡ number (length h) = take_at (number (length h)) (fixed h) 4 (length_number (length h)) in
    let bytes : drop 4 (opaque h) ≡ fixed h = drop_at (number (length h)) (fixed h) 4 (length_number (length h)) in
    let size : from_be_bytes w32 (take 4 (opaque h)) ≡ length h = ap (from_be_bytes w32) count ∙ number_back (length h) (omega (arith, long)) in
    ap (λ text. take (from_be_bytes w32 (take 4 text)) (drop 4 text)) text
    ∙ (ap (λ n. take n (drop 4 (opaque h))) size ∙ (ap (take (length h)) bytes ∙ take_at h _ (length h) refl))

-- A GETFH that was answered NFS4_OK gave the filehandle of the current object.
was_got : (d : RanOp) → IsRun d → d.item ≡ Operation Op.GetFh → is_ok d.status ≡ true
    → (n : ℕ) × (d.context.current ≡ Some n) × (d.result ≡ spell_result (Res.GetFh (handle_in d.before.store.opens.instance n)))
was_got d r item ok =
    let s = d.before.store in
    let Got : List ℕ → Type 0 = λ text. (n : ℕ) × (d.context.current ≡ Some n) × (text ≡ spell_result (Res.GetFh (handle_in s.opens.instance n))) in
    by_ok (λ text left. Got text) d r (Operation Op.GetFh) item ok
    (by_get_fh (Done (λ o. Got (spell_result o.result))) s d.context (λ f h ok. absurd (false≢true (sym h.done ∙ ok)))
    (λ k there ok. (k.number, current_number s d.context k there, refl)))

-- a name leads to an object by rows
abbrev Leads : List Row → ℕ → List ℕ → ℕ → Type 0
Leads rs d name n = option_map (λ (r : Row). r.object) (entry rs d name) ≡ Some n

leads_kept : (d : RanOp) → IsRun d → (directory : ℕ) (name : List ℕ) (n : ℕ) → Leads (rows d.before) directory name n → (TakesIt directory name d → ⊥)
    → Leads (rows d.behind) directory name n
leads_kept d r directory name n leads spares = go (entry (rows d.before) directory name) refl leads
  where
    go : (o : Option Row) → entry (rows d.before) directory name ≡ o → option_map (λ (r : Row). r.object) o ≡ Some n → Leads (rows d.behind) directory name n
    go None e is = absurd cc
    go (Some row) e is =
        ap (option_map (λ (r : Row). r.object)) (kept_rows d.before.store.tree (rows d.behind) d.context d.item d.result directory name row (run_rows d r) e spares) ∙ is

-- a GETFH with an object is not answered NFS4ERR_NOFILEHANDLE
got_there : (d : RanOp) → IsRun d → (n : ℕ) → d.context.current ≡ Some n → d.item ≡ Operation Op.GetFh → d.result ≡ spell_result (refusal (op_number Num.GetFh) NoFileHandle) → ⊥
got_there d r n at item told =
    let s = d.before.store in
    elim (by_item (λ status text t. status ≡ NoFileHandle → Reason s d.context (Operation Op.GetFh) NoFileHandle) d r (Operation Op.GetFh) item
    (λ e. absurd (let bad : RepTooBig ≡ NoFileHandle = e in cc))
    (λ e. subst (Reason s d.context (Operation Op.GetFh)) e ((get_fh_blames s r.whole d.context).refused (ap is_ok e))) (is_told d r (op_number Num.GetFh) NoFileHandle told)) [
      | inl none ↦ (let bad : None ≡ Some n = sym none.1 ∙ at in cc)
      | inr saved ↦ true≢false (sym saved.0)
    ]

-- What is known, as it stands in a server of an instance.

module _ (instance : ℕ) (low : instance < 2 ^ 32) where
  -- a filehandle bears the number of an object
  abbrev pub Its : List ℕ → ℕ → Type 0
  Its h n = IsHandleOf instance h n

  read_back : (h : List ℕ) (n : ℕ) → Its h n → handle_of h ≡ Some (record { instance = instance; number = n })
  read_back h n bears = ap handle_of bears.is ∙ handle_read instance n low bears.small

  pub same_number : (h : List ℕ) (n m : ℕ) → Its h n → Its h m → n ≡ m
  same_number h n m one two = number_in instance n m (sym (read_back h n one) ∙ read_back h m two)

  abbrev pub IsAt : List ℕ → Option ℕ → Type 0
  IsAt h o = (n : ℕ) × Its h n × (o ≡ Some n)

  at_again : (h : List ℕ) (o q : Option ℕ) → q ≡ o → IsAt h o → IsAt h q
  at_again h o q same at = (at.0, at.1, same ∙ at.2)

  -- so are the current filehandle and the saved one, where they are known
  pub record Seated (current saved : Option (List ℕ)) (x : Context) : Type 0 where
    pub at_current : (h : List ℕ) → current ≡ Some h → IsAt h x.current
    pub at_saved : (h : List ℕ) → saved ≡ Some h → IsAt h (saved_object x.saved)

  -- a name stands in rows
  pub record StandsIn (rs : List Row) (k : KnownName) : Type 0 where
    pub directory : ℕ
    pub object : ℕ
    pub in_it : Its k.place.directory directory
    pub of_it : Its k.object object
    pub leads : Leads rs directory k.place.name object

  abbrev pub AllStand : List KnownName → List Row → Type 0
  AllStand names rs = (k : KnownName) → In k names → StandsIn rs k

  -- the current object was found by a name
  pub record CameBy (p : Place) (x : Context) (rs : List Row) : Type 0 where
    pub directory : ℕ
    pub object : ℕ
    pub in_it : Its p.directory directory
    pub leads : Leads rs directory p.name object
    pub now : x.current ≡ Some object

  pub record Holds (k : Known) (x : Context) (rs : List Row) : Type 0 where
    pub seated : Seated k.current k.saved x
    pub came : (p : Place) → k.came_by ≡ Some p → CameBy p x rs
    pub names : AllStand k.names rs

  -- what is looked up among names
  pub record Finds (names : List KnownName) (directory name object : List ℕ) : Type 0 where
    pub known : KnownName
    pub there : In known names
    pub in_it : known.place.directory ≡ directory
    pub called : known.place.name ≡ name
    pub leads : known.object ≡ object

  found_is : (names : List KnownName) (directory name object : List ℕ) → object_of names directory name ≡ Some object → Finds names directory name object
  found_is names directory name object e = go (find (is_at directory name) names) refl e
    where
      go : (o : Option KnownName) → find (is_at directory name) names ≡ o → option_map (λ (k : KnownName). k.object) o ≡ Some object → Finds names directory name object
      go None found e = absurd cc
      go (Some k) found e =
          let there = find_in (is_at directory name) names k found in
          let parts = and_parts _ _ there.1 in
          record {
            known = k;
            there = there.0;
            in_it = (bytes_eq-Decides k.place.directory directory).0 parts.0;
            called = (bytes_eq-Decides k.place.name name).0 parts.1;
            leads = same_Some k.object object e;
          }

  parent_is : (names : List KnownName) (object directory : List ℕ) → directory_of names object ≡ Some directory
      → (k : KnownName) × In k names × (k.object ≡ object) × (k.place.directory ≡ directory)
  parent_is names object directory e = go (find (λ k. bytes_eq k.object object) names) refl e
    where
      go : (o : Option KnownName) → find (λ k. bytes_eq k.object object) names ≡ o → option_map (λ (k : KnownName). k.place.directory) o ≡ Some directory
          → (k : KnownName) × In k names × (k.object ≡ object) × (k.place.directory ≡ directory)
      go None found e = absurd cc
      go (Some k) found e =
          let there = find_in (λ k. bytes_eq k.object object) names k found in
          (k, there.0, (bytes_eq-Decides k.object object).0 there.1, same_Some k.place.directory directory e)

  -- a filehandle that is known, and what is known through it
  through_it : {A : Type 0} (o : Option (List ℕ)) (f : List ℕ → Option A) (a : A) → option_and_then f o ≡ Some a → (h : List ℕ) × (o ≡ Some h) × (f h ≡ Some a)
  through_it None f a e = absurd cc
  through_it (Some h) f a e = (h, refl, e)

  placed : (o : Option (List ℕ)) (name : List ℕ) (p : Place) → place_in o name ≡ Some p → (h : List ℕ) × (o ≡ Some h) × (p ≡ record { directory = h; name = name })
  placed None name p e = absurd cc
  placed (Some h) name p e = (let same : record { directory = h; name = name } ≡ p = cc in (h, refl, sym same))

  -- by a seat that is known, the numbers of a name there
  pub record Numbers (rs : List Row) (o : Option ℕ) (name object : List ℕ) : Type 0 where
    pub directory : ℕ
    pub number : ℕ
    pub at : o ≡ Some directory
    pub of_it : Its object number
    pub leads : Leads rs directory name number

  pub numbers : (names : List KnownName) (rs : List Row) (known : Option (List ℕ)) (o : Option ℕ) (name object : List ℕ) → AllStand names rs
      → ((h : List ℕ) → known ≡ Some h → IsAt h o) → option_and_then (λ d. object_of names d name) known ≡ Some object → Numbers rs o name object
  numbers names rs known o name object stand seat e =
      let h = through_it known (λ d. object_of names d name) object e in
      let f = found_is names h.0 name object h.2 in
      let s = stand f.known f.there in
      let at = seat h.0 h.1 in
      let same = same_number h.0 s.directory at.0 (subst (λ d. Its d s.directory) f.in_it s.in_it) at.1 in
      record {
        directory = at.0;
        number = s.object;
        at = at.2;
        of_it = subst (λ h. Its h s.object) f.leads s.of_it;
        leads = subst (λ d. Leads rs d name s.object) same (subst (λ n. Leads rs s.directory n s.object) f.called s.leads);
      }

  -- Names behind an operation.

  stands_kept : (d : RanOp) → IsRun d → (k : KnownName) → StandsIn (rows d.before) k
      → ((n : ℕ) → Its k.place.directory n → TakesIt n k.place.name d → ⊥) → StandsIn (rows d.behind) k
  stands_kept d r k s spares = record {
    directory = s.directory;
    object = s.object;
    in_it = s.in_it;
    of_it = s.of_it;
    leads = leads_kept d r s.directory k.place.name s.object s.leads (spares s.directory s.in_it);
  }

  plain_kept : (d : RanOp) → IsRun d → (names : List KnownName) → AllStand names (rows d.before) → takes_names d.item ≡ false → AllStand names (rows d.behind)
  plain_kept d r names stand e k there = stands_kept d r k (stand k there) (λ n bears. spared n k.place.name d e)

  with_stands : (place : Option Place) (object : Option (List ℕ)) (names : List KnownName) (rs : List Row) → AllStand names rs
      → ((p : Place) (h : List ℕ) → place ≡ Some p → object ≡ Some h → StandsIn rs (record { place = p; object = h })) → AllStand (with_name place object names) rs
  with_stands None object names rs stand new = stand
  with_stands (Some p) None names rs stand new = stand
  with_stands (Some p) (Some h) names rs stand new = λ k there. elim there [
    | inl is ↦ subst (StandsIn rs) (sym is) (new p h refl refl)
    | inr more ↦ stand k more
  ]

  -- a name that an operation takes is one that it may take, as it is known
  may_take : (k : KnownName) (n : ℕ) (name : List ℕ) (known : Option (List ℕ)) (o : Option ℕ) → k.place.name ≡ name → Its k.place.directory n → o ≡ Some n
      → ((h : List ℕ) → known ≡ Some h → IsAt h o) → may_be name known k ≡ true
  may_take k n name known o called bears at seat =
      and_from (bytes_eq k.place.name name) (option_map_or (bytes_eq k.place.directory) known true) ((bytes_eq-Decides k.place.name name).1 called) (go known seat)
    where
      go : (known : Option (List ℕ)) → ((h : List ℕ) → known ≡ Some h → IsAt h o) → option_map_or (bytes_eq k.place.directory) known true ≡ true
      go None seat = refl
      go (Some h) seat =
          let its = seat h refl in
          let same : its.0 ≡ n = some_same o its.0 n its.2 at in
          (bytes_eq-Decides k.place.directory h).1 (bears.is ∙ (ap (handle_in instance) (sym same) ∙ sym its.1.is))

  left_in : (known : Option (List ℕ)) (name : List ℕ) (names : List KnownName) (k : KnownName) → In k (without known name names)
      → In k names × (may_be name known k ≡ true → ⊥)
  left_in known name names k there =
      let is = in_filter (λ k. not (may_be name known k)) names k there in
      (is.0, λ may. true≢false (sym may ∙ not-true _ is.1))

  removed_stand : (d : RanOp) → IsRun d → (name : List ℕ) → d.item ≡ Operation (Op.Remove name) → (k : Known) → Seated k.current k.saved d.context → AllStand k.names (rows d.before)
      → AllStand (without k.current name k.names) (rows d.behind)
  removed_stand d r name item k seated stand e there =
      let left = left_in k.current name k.names e there in
      stands_kept d r e (stand e left.0) (λ n bears takes. left.1 (by_take n bears takes))
    where
      by_take : (n : ℕ) → Its e.place.directory n → TakesIt n e.place.name d → may_be name k.current e ≡ true
      by_take n bears (Removed is at done) =
          let same : Operation (Op.Remove e.place.name) ≡ Operation (Op.Remove name) = sym is ∙ item in
          let called : e.place.name ≡ name = cc in
          may_take e n name k.current d.context.current called bears at seated.at_current
      by_take n bears (MovedAway a is old saved done) = (let bad : Operation (Op.Rename a) ≡ Operation (Op.Remove name) = sym is ∙ item in absurd cc)
      by_take n bears (MovedOver a is new at done) = (let bad : Operation (Op.Rename a) ≡ Operation (Op.Remove name) = sym is ∙ item in absurd cc)

  renamed_stand : (d : RanOp) → IsRun d → (a : Rename) → d.item ≡ Operation (Op.Rename a) → (k : Known) → Seated k.current k.saved d.context → AllStand k.names (rows d.before)
      → AllStand (without k.saved a.oldname (without k.current a.newname k.names)) (rows d.behind)
  renamed_stand d r a item k seated stand e there =
      let moved = left_in k.saved a.oldname (without k.current a.newname k.names) e there in
      let left = left_in k.current a.newname k.names e moved.0 in
      stands_kept d r e (stand e left.0) (by_take moved.1 left.1)
    where
      by_take : (may_be a.oldname k.saved e ≡ true → ⊥) → (may_be a.newname k.current e ≡ true → ⊥) → (n : ℕ) → Its e.place.directory n → TakesIt n e.place.name d → ⊥
      by_take away over n bears (Removed is at done) = (let bad : Operation (Op.Remove e.place.name) ≡ Operation (Op.Rename a) = sym is ∙ item in absurd cc)
      by_take away over n bears (MovedAway b is old saved done) =
          let same : Operation (Op.Rename b) ≡ Operation (Op.Rename a) = sym is ∙ item in
          let one : b ≡ a = cc in
          away (may_take e n a.oldname k.saved (saved_object d.context.saved) (sym old ∙ ap (λ (a : Rename). a.oldname) one) bears saved seated.at_saved)
      by_take away over n bears (MovedOver b is new at done) =
          let same : Operation (Op.Rename b) ≡ Operation (Op.Rename a) = sym is ∙ item in
          let one : b ≡ a = cc in
          over (may_take e n a.newname k.current d.context.current (sym new ∙ ap (λ (a : Rename). a.newname) one) bears at seated.at_current)

  -- A name that leads to the current object behind an operation.

  seat_put : (current saved o : Option (List ℕ)) (x y : Context) → Seated current saved x → y.saved ≡ x.saved → ((h : List ℕ) → o ≡ Some h → IsAt h y.current)
      → Seated o saved y
  seat_put current saved o x y s same new = record { at_current = new; at_saved = λ h e. at_again h _ _ (ap saved_object same) (s.at_saved h e) }

  seat_same : (current saved : Option (List ℕ)) (x y : Context) → Seated current saved x → (y.current ≡ x.current) × (y.saved ≡ x.saved) → Seated current saved y
  seat_same current saved x y s same =
      seat_put current saved current x y s same.1 (λ h e. at_again h _ _ same.0 (s.at_current h e))

  led_seat : (k : Known) (name : List ℕ) (d : RanOp) → IsRun d → takes_names d.item ≡ false → Seated k.current k.saved d.context → AllStand k.names (rows d.before)
      → (y : Context) → LedTo name d.behind.store.tree d.context y → Seated (led_by name k).current k.saved y
  led_seat k name d r spares seated stand y led =
      seat_put k.current k.saved (led_by name k).current d.context y seated led.saved (λ h e.
      (let n = numbers k.names (rows d.before) k.current d.context.current name h stand seated.at_current e in
      let kept = leads_kept d r n.directory name n.number n.leads (spared n.directory name d spares) in
      (n.number, n.of_it, led_on name d.behind.store.tree d.context y n.directory n.at led ∙ kept)))

  led_came : (k : Known) (name : List ℕ) (d : RanOp) → Seated k.current k.saved d.context → (y : Context) → LedTo name d.behind.store.tree d.context y
      → (p : Place) → place_in k.current name ≡ Some p → CameBy p y (rows d.behind)
  led_came k name d seated y led p e =
      let h = placed k.current name p e in
      let at = seated.at_current h.0 h.1 in
      let same : at.0 ≡ led.directory = some_same d.context.current at.0 led.directory at.2 led.from in
      record {
        directory = led.directory;
        object = led.object;
        in_it = subst (λ (p : Place). Its p.directory led.directory) (sym h.2) (subst (Its h.0) same at.1);
        leads = subst (λ (p : Place). Leads (rows d.behind) led.directory p.name led.object) (sym h.2) led.leads;
        now = led.to;
      }

  came_kept : (p : Place) (d : RanOp) → IsRun d → (y : Context) → takes_names d.item ≡ false → y.current ≡ d.context.current → CameBy p d.context (rows d.before)
      → CameBy p y (rows d.behind)
  came_kept p d r y spares same c = record {
    directory = c.directory;
    object = c.object;
    in_it = c.in_it;
    leads = leads_kept d r c.directory p.name c.object c.leads (spared c.directory p.name d spares);
    now = same ∙ c.now;
  }

  -- PUTFH of bytes, and the root
  put_at : (h : List ℕ) (st : ℕ) (x y : Context) → PutTo st h x y → st ≡ instance → (b : Bool) → are_bytes h ≡ b → (g : List ℕ) → cond b (Some h) None ≡ Some g
      → IsAt g y.current
  put_at h st x y p own true bytes g e =
      let same : h ≡ g = cc in
      let is = (handle_is h p.handle (record { each = list_bytes h bytes })).0 p.read in
      subst (λ h. IsAt h y.current) same
      (p.handle.number, record { is = is.0 ∙ ap (λ i. handle_in i p.handle.number) (p.own ∙ own); small = is.1.1.1 }, p.current)
  put_at h st x y p own false bytes g e = absurd cc

  abbrev the_root : List ℕ
  the_root = root_of instance

  root_at : (y : Context) → y.current ≡ Some root → (g : List ℕ) → Some the_root ≡ Some g → IsAt g y.current
  root_at y at g e = (let same : the_root ≡ g = cc in (root, record { is = sym same; small = omega arith }, at))

  -- GETFH
  got_at : (d : RanOp) (r : IsRun d) → d.before.store.opens.instance ≡ instance → d.item ≡ Operation Op.GetFh → is_ok d.status ≡ true
      → (n : ℕ) × Its (given_in d.result) n × (d.context.current ≡ Some n)
  got_at d r own item ok =
      let got = was_got d r item ok in
      let h = handle_in instance got.0 in
      let told : d.result ≡ spell_result (Res.GetFh h) = got.2 ∙ ap (λ i. spell_result (Res.GetFh (handle_in i got.0))) own in
      let long : length h ≡ 16 = length_handle (record { instance = instance; number = got.0 }) in
      let gives : Gives got.0 h d = record { is = item; at = got.1; short = omega (arith, long); answers = told } in
      (got.0, record { is = ap given_in told ∙ given_back h long; small = (handles.given_in d r got.0 h gives).small }, got.1)

  -- LOOKUPP
  parent_at : (k : Known) (d : RanOp) (y : Context) → Is d.before → Seated k.current k.saved d.context → AllStand k.names (rows d.before)
      → IsParent d.before.store.tree d.context y → (g : List ℕ) → option_and_then (directory_of k.names) k.current ≡ Some g → IsAt g y.current
  parent_at k d y whole seated stand is g e =
      let h = through_it k.current (directory_of k.names) g e in
      let f = parent_is k.names h.0 g h.2 in
      let s = stand f.0 f.1 in
      let at = seated.at_current h.0 h.1 in
      let object : s.object ≡ is.object =
      same_number h.0 s.object at.0 (subst (λ h. Its h s.object) f.2 s.of_it) at.1 ∙ some_same d.context.current at.0 is.object at.2 is.from in
      let row = row_of s.directory s.object f.0.place.name (entry (rows d.before) s.directory f.0.place.name) refl s.leads in
      let up = up_of is.object is.parent (find (λ (r : Row). r.object == is.object) (rows d.before)) refl is.stands in
      let one : up.0 ≡ row.0 = whole.tree.rows.one up.0 row.0 up.1 row.1 (up.2 ∙ (sym object ∙ sym row.3))
      (ap (is_directory_at d.before.store.tree) (row.3 ∙ object) ∙ is.directory) in
      (s.directory, subst (λ h. Its h s.directory) f.3 s.in_it, is.to ∙ ap (λ n. Some n) (sym up.3 ∙ (ap (λ (r : Row). r.directory) one ∙ row.2)))
    where
      row_of : (directory n : ℕ) (name : List ℕ) (o : Option Row) → entry (rows d.before) directory name ≡ o → option_map (λ (r : Row). r.object) o ≡ Some n
          → (r : Row) × In r (rows d.before) × (r.directory ≡ directory) × (r.object ≡ n)
      row_of directory n name None e is = absurd cc
      row_of directory n name (Some r) e is =
          let there = find_in (is_entry directory name) (rows d.before) r e in
          let object : r.object ≡ n = cc in
          (r, there.0, (entry_parts directory name r there.1).0, object)

      up_of : (n parent : ℕ) (o : Option Row) → find (λ (r : Row). r.object == n) (rows d.before) ≡ o → option_map (λ (r : Row). r.directory) o ≡ Some parent
          → (r : Row) × In r (rows d.before) × (r.object ≡ n) × (r.directory ≡ parent)
      up_of n parent None e is = absurd cc
      up_of n parent (Some r) e is =
          let there = find_in (λ (r : Row). r.object == n) (rows d.before) r e in
          let up : r.directory ≡ parent = cc in
          (r, there.0, eqb-true r.object n there.1, up)

  -- What is known behind an operation that was answered NFS4_OK.

  module _ (d : RanOp) (next : Option Context) (to : RunsTo d next) (k : Known) (own : d.before.store.opens.instance ≡ instance) (ok : is_ok d.status ≡ true)
      (seated : Seated k.current k.saved d.context) (came : (p : Place) → k.came_by ≡ Some p → CameBy p d.context (rows d.before))
      (stand : AllStand k.names (rows d.before)) where
    abbrev r : IsRun d
    r = to.run

    seat_root : (y : Context) → AtRoot d.context y → Seated (Some the_root) k.saved y
    seat_root y p = seat_put k.current k.saved (Some the_root) d.context y seated p.1 (root_at y p.0)

    names_behind : (i : Item) → d.item ≡ i → AllStand (behind the_root k i d.result).names (rows d.behind)
    names_behind (Operation Op.GetFh) item = by_known (is_some k.current)
      where
        all : AllStand (with_name k.came_by (Some (given_in d.result)) k.names) (rows d.behind)
        all =
            with_stands k.came_by (Some (given_in d.result)) k.names (rows d.behind) (plain_kept d r k.names stand (ap takes_names item)) (λ p h place object.
            (let c = came p place in
            let got = got_at d r own item ok in
            let same : got.0 ≡ c.object = some_same d.context.current got.0 c.object got.2 c.now in
            let given_is : given_in d.result ≡ h = cc in
            record {
              directory = c.directory;
              object = c.object;
              in_it = c.in_it;
              of_it = subst (λ h. Its h c.object) given_is (subst (Its (given_in d.result)) same got.1);
              leads = leads_kept d r c.directory p.name c.object c.leads (spared c.directory p.name d (ap takes_names item));
            }))

        by_known : (b : Bool) → AllStand (cond b k.names (with_name k.came_by (Some (given_in d.result)) k.names)) (rows d.behind)
        by_known true = plain_kept d r k.names stand (ap takes_names item)
        by_known false = all
    names_behind (Operation (Op.Link name)) item =
        with_stands (place_in k.current name) k.saved k.names (rows d.behind) (plain_kept d r k.names stand (ap takes_names item)) (λ p h place object.
        (let at = placed k.current name p place in
        let in_it = seated.at_current at.0 at.1 in
        let of_it = seated.at_saved h object in
        let linked = (did d r (Operation (Op.Link name)) item ok).1 in
        let to = some_same d.context.current linked.directory in_it.0 linked.from in_it.2 in
        let of = some_same (saved_object d.context.saved) linked.object of_it.0 linked.saved of_it.2 in
        subst (λ p. StandsIn (rows d.behind) (record { place = p; object = h })) (sym at.2) (record {
          directory = linked.directory;
          object = linked.object;
          in_it = subst (Its at.0) (sym to) in_it.1;
          of_it = subst (Its h) (sym of) of_it.1;
          leads = linked.leads;
        })))
    names_behind (Operation (Op.Remove name)) item = removed_stand d r name item k seated stand
    names_behind (Operation (Op.Rename a)) item =
        with_stands (place_in k.current a.newname) (option_and_then (λ d. object_of k.names d a.oldname) k.saved)
        (without k.saved a.oldname (without k.current a.newname k.names)) (rows d.behind) (renamed_stand d r a item k seated stand) (λ p h place object.
        (let at = placed k.current a.newname p place in
        let in_it = seated.at_current at.0 at.1 in
        let n = numbers k.names (rows d.before) k.saved (saved_object d.context.saved) a.oldname h stand seated.at_saved object in
        let renamed = (did d r (Operation (Op.Rename a)) item ok).1 in
        let to = some_same d.context.current renamed.target in_it.0 renamed.to in_it.2 in
        let from = some_same (saved_object d.context.saved) renamed.source n.directory renamed.from n.at in
        subst (λ p. StandsIn (rows d.behind) (record { place = p; object = h })) (sym at.2) (record {
          directory = renamed.target;
          object = n.number;
          in_it = subst (Its at.0) (sym to) in_it.1;
          of_it = n.of_it;
          leads = renamed.leads n.number (subst (λ e. Leads (rows d.before) e a.oldname n.number) (sym from) n.leads);
        })))
    names_behind (Operation (Op.Open a)) item =
        subst (λ names. AllStand names (rows d.behind)) (sym (open_names a.claim)) (plain_kept d r k.names stand (ap takes_names item))
      where
        open_names : (claim : OpenClaim) → (opened claim k).names ≡ k.names
        open_names (Null name) = refl
        open_names claim = refl
    names_behind i item = plain_kept d r k.names stand (ap takes_names item)

    seats_behind : (i : Item) (y : Context) → d.item ≡ i → Did i d.before.store d.context d.behind.store y
        → (let b = behind the_root k i d.result in Seated b.current b.saved y)
    seats_behind (Operation (Op.PutFh h)) y item p =
        seat_put k.current k.saved _ d.context y seated p.saved (put_at h d.before.store.opens.instance d.context y p own (are_bytes h) refl)
    seats_behind (Operation Op.PutRootFh) y item p = seat_root y p
    seats_behind (Operation Op.PutPubFh) y item p = seat_root y p
    seats_behind (Operation Op.GetFh) y item p =
        let got = got_at d r own item ok in
        seat_put k.current k.saved (Some (given_in d.result)) d.context y seated p.1 (λ h e.
        (let is : given_in d.result ≡ h = cc in (got.0, subst (λ h. Its h got.0) is got.1, p.0 ∙ got.2)))
    seats_behind (Operation Op.SaveFh) y item p =
        record { at_current = λ h e. at_again h _ _ p.0 (seated.at_current h e); at_saved = λ h e. at_again h _ _ p.1 (seated.at_current h e) }
    seats_behind (Operation Op.RestoreFh) y item p = seat_put k.current k.saved k.saved d.context y seated p.1 (λ h e. at_again h _ _ p.0 (seated.at_saved h e))
    seats_behind (Operation (Op.Lookup name)) y item p = led_seat k name d r (ap takes_names item) seated stand y p.1
    seats_behind (Operation Op.LookupP) y item p = seat_put k.current k.saved _ d.context y seated p.saved (parent_at k d y r.whole seated stand p)
    seats_behind (Operation (Op.Create a)) y item p = led_seat k a.objname d r (ap takes_names item) seated stand y p
    seats_behind (Operation (Op.Open a)) y item p = by_claim a.claim p
      where
        by_claim : (claim : OpenClaim) → OpenedTo claim d.behind.store.tree d.context y → Seated (opened claim k).current (opened claim k).saved y
        by_claim (Null name) is = led_seat k name d r (ap takes_names item) seated stand y (by_name name d.behind.store.tree d.context y is)
        by_claim claim is = seat_same k.current k.saved d.context y seated (sym is.0, is.3)
    seats_behind (Operation (Op.SecinfoNoName style)) y item p = seat_put k.current k.saved None d.context y seated p (λ h e. absurd cc)
    seats_behind (Operation (Op.Link name)) y item p = seat_same k.current k.saved d.context y seated p.0
    seats_behind (Operation (Op.Remove name)) y item p = seat_same k.current k.saved d.context y seated p.0
    seats_behind (Operation (Op.Rename a)) y item p = seat_same k.current k.saved d.context y seated p.0
    seats_behind i y item p = seat_same k.current k.saved d.context y seated p

    came_behind : (i : Item) (y : Context) → d.item ≡ i → Did i d.before.store d.context d.behind.store y
        → (p : Place) → (behind the_root k i d.result).came_by ≡ Some p → CameBy p y (rows d.behind)
    came_behind (Operation (Op.PutFh h)) y item done p e = absurd cc
    came_behind (Operation Op.PutRootFh) y item done p e = absurd cc
    came_behind (Operation Op.PutPubFh) y item done p e = absurd cc
    came_behind (Operation Op.SaveFh) y item done p e = came_kept p d r y (ap takes_names item) done.0 (came p e)
    came_behind (Operation Op.RestoreFh) y item done p e = absurd cc
    came_behind (Operation (Op.Lookup name)) y item done p e = led_came k name d seated y done.1 p e
    came_behind (Operation Op.LookupP) y item done p e = absurd cc
    came_behind (Operation (Op.Create a)) y item done p e = led_came k a.objname d seated y done p e
    came_behind (Operation (Op.Open a)) y item done p e = by_claim a.claim done e
      where
        by_claim : (claim : OpenClaim) → OpenedTo claim d.behind.store.tree d.context y → (opened claim k).came_by ≡ Some p → CameBy p y (rows d.behind)
        by_claim (Null name) is e = led_came k name d seated y (by_name name d.behind.store.tree d.context y is) p e
        by_claim claim is e = came_kept p d r y (ap takes_names item) (sym is.0) (came p e)
    came_behind (Operation (Op.Link name)) y item done p e = came_kept p d r y (ap takes_names item) done.0.0 (came p e)
    came_behind (Operation (Op.Remove name)) y item done p e = absurd cc
    came_behind (Operation (Op.Rename a)) y item done p e = absurd cc
    came_behind (Operation (Op.SecinfoNoName style)) y item done p e = absurd cc
    came_behind i y item done p e = came_kept p d r y (ap takes_names item) done.0 (came p e)

  -- What an operation tells.

  tells : (d : RanOp) → IsRun d → (k : Known) → d.before.store.opens.instance ≡ instance → Holds k d.context (rows d.before) → Tells instance k d
  tells d r k own holds = record {
    gives = λ h known item ok.
        (let at = holds.seated.at_current h known in
        let got = was_got d r item ok in
        let same : got.0 ≡ at.0 = some_same d.context.current got.0 at.0 got.1 at.2 in
        got.2 ∙ (ap (λ i. spell_result (Res.GetFh (handle_in i got.0))) own
        ∙ (ap (λ n. spell_result (Res.GetFh (handle_in instance n))) same ∙ ap (λ h. spell_result (Res.GetFh h)) (sym at.1.is))));
    there = λ h known item told.
        (let at = holds.seated.at_current h known in
        got_there d r at.0 at.2 item told);
    finds = λ h name object known leads item told.
        (let n = numbers k.names (rows d.before) (Some h) d.context.current name object holds.names (λ g e. holds.seated.at_current g (known ∙ e)) leads in
        missed d r n.directory name n.number item n.at n.leads told);
    on = λ h known. holds.seated.at_current h known;
  }

  -- Operations one after the other.

  abbrev Begins : Known → List Row → Option Context → Type 0
  Begins k rs next = (x : Context) → next ≡ Some x → Seated k.current k.saved x × ((p : Place) → k.came_by ≡ Some p → CameBy p x rs)

  begun : (names : List KnownName) (rs : List Row) (next : Option Context) → Begins (starts names) rs next
  begun names rs next x e = (record { at_current = λ h e. absurd cc; at_saved = λ h e. absurd cc }, λ p e. absurd cc)

  -- what was refused takes none
  took : (d : RanOp) → IsRun d → (n : ℕ) (name : List ℕ) → TakesIt n name d → is_ok d.status ≡ true
  took d r n name (Removed is at done) = done_ok d r Num.Remove done
  took d r n name (MovedAway a is old saved done) = done_ok d r Num.Rename done
  took d r n name (MovedOver a is new at done) = done_ok d r Num.Rename done

  refused_names : (d : RanOp) → IsRun d → (names : List KnownName) → AllStand names (rows d.before) → is_ok d.status ≡ false → AllStand names (rows d.behind)
  refused_names d r names stand failed k there =
      stands_kept d r k (stand k there) (λ n bears takes. false≢true (sym failed ∙ took d r n k.place.name takes))

  record Steps (k : Known) (d : RanOp) (next : Option Context) : Type 0 where
    pub begins : Begins (known_after the_root k d) (rows d.behind) next
    pub names : AllStand (known_after the_root k d).names (rows d.behind)

  steps : (d : RanOp) (next : Option Context) (to : RunsTo d next) (k : Known) → d.before.store.opens.instance ≡ instance → Holds k d.context (rows d.before) → Steps k d next
  steps d next to k own holds = go (is_ok d.status) refl
    where
      go : (b : Bool) → is_ok d.status ≡ b → Steps k d next
      go true ok =
          let after : known_after the_root k d ≡ behind the_root k d.item d.result = ap (λ b. cond b (behind the_root k d.item d.result) k) ok in
          record {
            begins = subst (λ k. Begins k (rows d.behind) next) (sym after) (λ x e.
                (let done = subst (Did d.item d.before.store d.context d.behind.store) (sym (to.hands x e)) (did d to.run d.item refl ok) in (
                  seats_behind d next to k own ok holds.seated holds.came holds.names d.item x refl done,
                  came_behind d next to k own ok holds.seated holds.came holds.names d.item x refl done,
                )));
            names = subst (λ (k : Known). AllStand k.names (rows d.behind)) (sym after)
                (names_behind d next to k own ok holds.seated holds.came holds.names d.item refl);
          }
      go false failed =
          let after : known_after the_root k d ≡ k = ap (λ b. cond b (behind the_root k d.item d.result) k) failed in
          record {
            begins = λ x e. absurd (let bad : None ≡ Some x = sym (to.stops failed) ∙ e in cc);
            names = subst (λ (k : Known). AllStand k.names (rows d.behind)) (sym after) (refused_names d to.run k.names holds.names failed);
          }

  -- what is known before each operation is so
  pub record HoldsAt (k : Known) (d : RanOp) : Type 0 where
    pub run : IsRun d
    pub own : d.before.store.opens.instance ≡ instance
    pub holds : Holds k d.context (rows d.before)

  abbrev pub AllHold : Known → List RanOp → Type 0
  AllHold k [] = Unit {0}
  AllHold k (d ∷ more) = HoldsAt k d × AllHold (known_after the_root k d) more

  walk : (m : Machine) (ds : List RanOp) (k : Known) → AreChained m ds → AreLinked ds → ((d : RanOp) → In d ds → d.before.store.opens.instance ≡ instance)
      → Begins k (rows m) (next_of ds) → AllStand k.names (rows m) → AllHold k ds × AllStand (known_after_all the_root k ds).names (rows (left_by m ds))
  walk m [] k chained linked own begins stand = (tt, stand)
  walk m (d ∷ more) k chained linked own begins stand =
      let same : rows m ≡ rows d.before = ap rows (sym chained.0) in
      let first = begins d.context refl in
      let holds : Holds k d.context (rows d.before) = record {
        seated = first.0;
        came = λ p e. subst (CameBy p d.context) same (first.1 p e);
        names = subst (AllStand k.names) same stand;
      } in
      let its = own d (inl refl) in
      let step = steps d (next_of more) linked.0 k its holds in
      let rest = walk d.behind more (known_after the_root k d) chained.1 linked.1 (λ e there. own e (inr there)) step.begins step.names in
      ((record { run = linked.0.run; own = its; holds = holds }, rest.0), rest.1)

  -- A record: what is known holds before each of its operations, and the names behind it.

  pub record HoldsIn (names : List KnownName) (s : ServerState) : Type 0 where
    pub sound : IsSound s
    pub own : Has instance s.machine
    pub stand : AllStand names (rows s.machine)

  pub one_record : (names : List KnownName) (s : ServerState) (c : Arrival) → HoldsIn names s
      → AllHold (starts names) (ops_of s c) × HoldsIn (names_after the_root names s c) (state_after s c)
  one_record names s c is =
      let whole = whole_before s c is.sound.whole in
      let runs = asked_runs (before s c) (asked_by s c) whole in
      let did = walk runs.outset (ops_of s c) (starts names) runs.chained runs.linked (op_keeps (λ s. s.opens.instance ≡ instance) (instance_kept instance) s c is.sound is.own)
      (begun names (rows runs.outset) (next_of (ops_of s c))) (subst (AllStand names) (sym runs.first) is.stand) in (
        did.0,
        record {
          sound = sound_next s c is.sound;
          own = has_next s c instance is.sound is.own;
          stand = subst (AllStand (names_after the_root names s c)) (sym (ap (λ (s : ServerState). rows s.machine) (next_is s c) ∙ runs.last)) did.1;
        },
      )

  follow : (ds : List RanOp) (k : Known) → AllHold k ds → Follow instance the_root k ds
  follow [] k all = tt
  follow (d ∷ more) k all = (tells d all.0.run k all.0.own all.0.holds, follow more (known_after the_root k d) all.1)

  through : (s : ServerState) (records : List Arrival) (names : List KnownName) → HoldsIn names s → FollowThrough instance the_root names s records
  through s [] names is = tt
  through s (c ∷ more) names is =
      let one = one_record names s c is in
      (follow (ops_of s c) (starts names) one.0, through (state_after s c) more (names_after the_root names s c) one.1)

  pub first_holds : (start : Start) → start.instance ≡ instance → HoldsIn [] (new_state start)
  first_holds start own = record { sound = sound_new start; own = own; stand = λ k there. absurd there }

pub handles_follow : HandlesFollow
handles_follow start low records =
    through start.instance low (new_state start) records [] (first_holds start.instance low start refl)
