-- What is found at the place of a filehandle, and the reasons that are said of it.
use Rattle.std.proofs.Common.{◌≡◌, ◌⊎◌, ℕ, suc, Bool, true, false, cond, not, List, [], ◌∷◌, Option, Some, None, refl, sym, ◌∙◌, ap, subst, arith, inl, inr}
use Rattle.std.proofs.lemmas.{Bool.{cases_Bool, false≢true, ltb-true, leb-true, not-true, eqb-true, and_right, or_cases}, Option.same_Some}
use Rattle.std.proofs.lemmas.Slice.Eq.{bytes_eq-Decides}
use Rattle.std.specs.{Prelude.{◌==◌, ◌||◌, ◌&&◌, ◌+◌, ◌<◌, ◌≤◌, nat_le, nat_lt, is_some, length, bytes_eq, Ok, option_map, unwrap_or}, List.list_any}
use Rattle.nfs_xdr.specs.{Tables.In, declared.status.Status.Status}
use Rattle.nfs_xdr.specs.declared.status.Status.TheVariants as S
use Rattle.nfs_xdr.proofs.Lists.{find_in, in_any}
use Rattle.nfs_compound.specs.declared.op_num.OpNum.TheVariants as Num
use Rattle.nfs_compound.specs.declared.op.Op.TheVariants as Op
use Rattle.nfs_compound.specs.{OpNum.op_number, Arguments.arguments, declared.op_num.OpNum.OpNum, declared.op.{Op.Op, Item.Item, Item.TheVariants.{Operation, Fault}}, Request.item_number}
use Rattle.nfs_results.specs.{Largest.largest, Results.status_of_result}
use Rattle.nfs_tree.specs.{declared.object.Object.Object, declared.object.FileType.FileType, declared.row.Row.Row, declared.stored.Stored.Stored, Object.is_directory}
use Rattle.nfs_tree.specs.Files.{Files, most_name, stored_in, object_at, object_named, number_named, is_there, entry, has_name, has_entries}
use Rattle.nfs_attrs.specs.Permissions.{execute}
use Rattle.nfs_names.specs.{declared.context.Context.Context, declared.context.Saved.Saved, declared.node.Node.Node, State.{State, is_used}}
use Rattle.nfs_names.specs.{Checks.{node_as, node_at, saved_object, current, both, permits, name_checks}, Outcome.{Outcome, refuses, is_ok, or_lack, lacks, is_lack}}
use Rattle.nfs_names.proofs.{Found.{came, ok_is}, Faulted.{status_of_refusal, lacks_memory}, Ones.is_lacked}
use Rattle.nfs_files.proofs.{TreeFiles.IsWhole, WrittenOps.current_number}
use Rattle.nfs_exec.specs.{Step.{Behind.{refused_step, step}, Run.{in_room, reserve}}, Runs.Ops.RanOp}
use Rattle.nfs_exec.specs.Step.Delayed.{lacks_at}
use Rattle.nfs_exec.proofs.Step.Delayed.{lack_fails}
use Rattle.nfs_exec.proofs.{Runs.{OneRun.IsRun, WrittenRun.used_there}}
use Rattle.nfs_promises.specs.{Names.FileStays.{is_on_current, is_on_saved}, Permission.Permitted.{Right, Executes, rights_of, rights_at}}
use Rattle.nfs_promises.specs.Answers.{Asked.{LooksAt, AtCurrent, AtSaved, Target, is_in_directory, named, Gives, Needs, ToFind, Seeks}, Invalid.NoName}
use Rattle.nfs_promises.specs.Answers.Reasons.{HasKind, HasEntry, IsDenied, MayDo, Reason, Granted, IsAnswered, room_of, is_full, is_cut, LacksRoom}
use Rattle.nfs_promises.proofs.{Answers.Blaming.{Blames, AllBlame, then_blames}, Permission.{Granting.may_execute, PermittedNames.picked}}

-- An operation that was run is refused for want of room, or answers so.

abbrev pub Answers : State → Context → Item → Outcome → Type 0
Answers s x i o = IsAnswered s x i (status_of_result o.result)

pub no_reason : (s : State) (x : Context) (i : Item) (f : Status) → Reason s x i f → is_ok f ≡ false
no_reason s x i S.Nfs4Ok reason = absurd reason
no_reason s x i f reason = refl

pub of_refusal : (s : State) (x : Context) (i : Item) (f : Status) → Reason s x i f → IsAnswered s x i f
of_refusal s x i f reason = record { refused = λ no_ok. reason; granted = λ ok. absurd (false≢true (sym (no_reason s x i f reason) ∙ ok)) }

pub refused_so : (s : State) (x : Context) (i : Item) (op : OpNum) (f : Status) → Reason s x i f → Answers s x i (refuses s x op f)
refused_so s x i op f reason = subst (IsAnswered s x i) (sym (status_of_refusal (op_number op) f)) (of_refusal s x i f reason)

pub done_so : (s : State) (x : Context) (i : Item) → Granted s x i → IsAnswered s x i S.Nfs4Ok
done_so s x i granted = record { refused = λ no_ok. absurd (false≢true (sym no_ok)); granted = λ ok. granted }

-- It was refused for want of room, or ended as its step; and the step was refused for want of memory, or answers so.

abbrev pub Blamed : State → Context → Item → Bool → Status → Type 0
Blamed s x i refused status = ((status ≡ lacks_at s i) × (refused ≡ true)) ⊎ IsAnswered s x i status

-- the status where memory is refused, by whether the bytes of a WRITE were refused it
lacks_is : (s : State) (i : Item) → lacks_at s i ≡ cond (is_full s i) S.NoSpc S.Delay
lacks_is s (Operation (Op.Write a)) = refl
lacks_is s (Operation op) = refl
lacks_is s (Fault n f) = refl

cut_lacks : (s : State) (i : Item) → is_cut s i (lacks_at s i) ≡ true
cut_lacks s i = subst (λ f. is_cut s i f ≡ true) (sym (lacks_is s i)) (by (is_full s i) refl)
  where
    by : (full : Bool) → is_full s i ≡ full → is_cut s i (cond full S.NoSpc S.Delay) ≡ true
    by true on = on
    by false off = ap not off

pub cut_so : (s : State) (i : Item) (f : Status) → is_cut s i f ≡ true → (f ≡ S.RepTooBig) ⊎ (f ≡ lacks_at s i)
cut_so s i S.RepTooBig on = inl refl
cut_so s i S.Delay on = inr (sym (lacks_is s i ∙ ap (λ b. cond b S.NoSpc S.Delay) (not-true _ on)))
cut_so s i S.NoSpc on = inr (sym (lacks_is s i ∙ ap (λ b. cond b S.NoSpc S.Delay) on))
cut_so s i f on = absurd (false≢true on)

not_big : (s : State) (i : Item) → S.RepTooBig ≡ lacks_at s i → ⊥
not_big s (Operation op) same = false≢true (ap is_lack same ∙ lacks_memory s (arguments op).op)
not_big s (Fault n f) same = absurd cc

-- what has a reason has another status
no_lack : (s : State) (x : Context) (i : Item) → Reason s x i (lacks_at s i) → ⊥
no_lack s x (Operation (Op.Write a)) = is_lacked (λ f. Reason s x (Operation (Op.Write a)) f → ⊥) s Num.Write (λ none. none) (λ full. false≢true full.0)
no_lack s x (Operation op) = λ none. none
no_lack s x (Fault n f) = λ none. none

pub or_delayed : (s : State) (x : Context) (i : Item) (op : OpNum) (wants refused : Bool) (o : Outcome) → lacks s op ≡ lacks_at s i → Answers s x i o
    → Blamed s x i refused (status_of_result (or_lack (wants && refused) s x op o).result)
or_delayed s x i op wants false o same is = by (wants && false) (and_right wants false refl)
  where
    by : (b : Bool) → b ≡ false → Blamed s x i false (status_of_result (or_lack b s x op o).result)
    by true on = absurd (false≢true (sym on))
    by false off = inr is
or_delayed s x i op wants true o same is =
    elim (wants && true && is_ok (status_of_result o.result)) as (λ k. Blamed s x i true (status_of_result (cond k (refuses s x op (lacks s op)) o).result)) [
      | true ↦ inl (status_of_refusal (op_number op) (lacks s op) ∙ same, refl)
      | false ↦ inr is
    ]

pub status_is : (d : RanOp) (r : IsRun d) (i : Item) → d.item ≡ i → d.status ≡ (in_room r.limit r.sofar r.now r.refused d.before d.context i).outcome.status
status_is d r i is = ap (λ (c : RanOp). c.status) r.is ∙ ap (λ j. (in_room r.limit r.sofar r.now r.refused d.before d.context j).outcome.status) is

-- there was no room, or the step was made
pub in_room_or : (d : RanOp) (r : IsRun d) (i : Item) → d.item ≡ i → nat_le (largest i) (room_of i) ≡ true
    → ((d.status ≡ S.RepTooBig) × LacksRoom d) ⊎ (d.status ≡ (step d.before d.context r.now r.refused i).outcome.status)
in_room_or d r i is small = by (nat_lt r.limit (r.sofar + largest i + reserve)) refl (status_is d r i is)
  where
    by : (b : Bool) → nat_lt r.limit (r.sofar + largest i + reserve) ≡ b
        → d.status ≡ (cond b (refused_step d.before d.context i S.RepTooBig) (step d.before d.context r.now r.refused i)).outcome.status
        → ((d.status ≡ S.RepTooBig) × LacksRoom d) ⊎ (d.status ≡ (step d.before d.context r.now r.refused i).outcome.status)
    by true big e = (let less : r.limit < r.sofar + largest i + 12 = ltb-true r.limit (r.sofar + largest i + reserve) big in
        let few : largest i ≤ room_of i = leb-true (largest i) (room_of i) small in
        let limit : d.limit ≡ r.limit = ap (λ (c : RanOp). c.limit) r.is in
        let sofar : d.sofar ≡ r.sofar = ap (λ (c : RanOp). c.sofar) r.is in
        let lacks : d.limit < d.sofar + room_of i + 12 = omega arith in
        inl (e ∙ status_of_refusal (item_number i) S.RepTooBig, subst (λ j. d.limit < d.sofar + room_of j + 12) (sym is) lacks))
    by false fits e = inr e

-- what is said of an operation, but for the mark of RECLAIM_COMPLETE
pub record IsBlamed (d : RanOp) (op : Op) : Type 0 where
  pub room : d.status ≡ S.RepTooBig → LacksRoom d
  pub memory : d.status ≡ lacks_at d.before.store (Operation op) → d.refused ≡ true
  pub answered : is_cut d.before.store (Operation op) d.status ≡ false → IsAnswered d.before.store d.context (Operation op) d.status

pub ran_blames : (d : RanOp) (r : IsRun d) (op : Op) → d.item ≡ Operation op → nat_le (largest (Operation op)) (room_of (Operation op)) ≡ true
    → Blamed d.before.store d.context (Operation op) r.refused (step d.before d.context r.now r.refused (Operation op)).outcome.status → IsBlamed d op
ran_blames d r op is small blamed = elim (in_room_or d r (Operation op) is small) [
  | inl (big, lacks) ↦ record {
    room = λ e. lacks;
    memory = λ e. absurd (not_big s i (sym big ∙ e));
    answered = λ off. absurd (false≢true (sym off ∙ ap (is_cut s i) big));
  }
  | inr e ↦ by (subst (Blamed d.before.store d.context (Operation op) r.refused) (sym e) blamed)
]
  where
    s : State
    s = d.before.store

    i : Item
    i = Operation op

    by : Blamed d.before.store d.context (Operation op) r.refused d.status → IsBlamed d op
    by (inl (lack, refused)) = record {
      room = λ e. absurd (not_big s i (sym e ∙ lack));
      memory = λ e. ap (λ (c : RanOp). c.refused) r.is ∙ refused;
      answered = λ off. absurd (false≢true (sym off ∙ (ap (is_cut s i) lack ∙ cut_lacks s i)));
    }
    by (inr is) = record {
      room = λ e. absurd ((subst (IsAnswered d.before.store d.context (Operation op)) e is).refused refl);
      memory = λ e. absurd (no_lack s d.context i ((subst (IsAnswered s d.context i) e is).refused (lack_fails s i)));
      answered = λ off. is;
    }

-- What is found at a place.

abbrev pub IsFound : State → Option ℕ → Node → Type 0
IsFound s o d = (o ≡ Some d.number) × (object_at s.tree d.number ≡ Some d.object)

pub node_found : (s : State) (o : Option ℕ) (d : Node) → node_at s o ≡ Ok d → IsFound s o d
node_found s None d e = absurd cc
node_found s (Some n) d e = by (object_at s.tree n) refl e
  where
    by : (k : Option Object) → object_at s.tree n ≡ k → node_as n k ≡ Ok d → IsFound s (Some n) d
    by None is e = absurd cc
    by (Some o) is e = let same : record { number = n; object = o } ≡ d = cc in subst (IsFound s (Some n)) same (refl, is)

pub found_now : (s : State) (x : Context) (d : Node) → current s x ≡ Ok d → IsFound s x.current d
unfolding current
found_now s x d e = node_found s x.current d e

-- an object that is not there is not used
pub unused : (s : State) (n : ℕ) → IsWhole s → object_at s.tree n ≡ None → is_used s n ≡ false
unused s n whole gone = elim (cases_Bool (is_used s n)) [
  | inr is ↦ is
  | inl used ↦ absurd (no (stored_in s.tree.objects n) gone (used_there s n whole used))
]
  where
    no : (o : Option Stored) → option_map (λ (k : Stored). k.object) o ≡ None → is_some o ≡ true → ⊥
    no None gone there = false≢true there
    no (Some k) gone there = cc

-- the two directories of a RENAME

pub both_saved : (s : State) (x : Context) (p : _) → both s x ≡ Ok p → node_at s (saved_object x.saved) ≡ Ok p.saved
unfolding both
both_saved s x p e =
    let d = came (current s x) _ p e in
    let k = came (node_at s (saved_object x.saved)) _ p d.then in
    k.is ∙ picked _ p (ok_is refl k.then) (λ q. Ok q.saved)

pub record IsSaved (s : State) (x : Context) (d : Node) : Type 0 where
  pub saved : Saved
  pub is : x.saved ≡ Some saved
  pub names : saved.object ≡ d.number
  pub there : object_at s.tree d.number ≡ Some d.object

pub saved_found : (s : State) (x : Context) (p : _) → both s x ≡ Ok p → IsSaved s x p.saved
saved_found s x p e = by x.saved refl
  where
    found : IsFound s (saved_object x.saved) p.saved
    found = node_found s (saved_object x.saved) p.saved (both_saved s x p e)

    by : (o : Option Saved) → x.saved ≡ o → IsSaved s x p.saved
    by None is = absurd (let bad : None ≡ Some p.saved.number = ap saved_object (sym is) ∙ found.0 in cc)
    by (Some saved) is = record {
      saved = saved;
      is = is;
      names = same_Some saved.object p.saved.number (ap saved_object (sym is) ∙ found.0);
      there = found.1;
    }

-- Rights and names.

pub rights_is : (s : State) (d : Node) → object_at s.tree d.number ≡ Some d.object → rights_at s.tree d.number ≡ Some (rights_of d.object)
rights_is s d is = by (stored_in s.tree.objects d.number) is
  where
    by : (o : Option Stored) → option_map (λ (k : Stored). k.object) o ≡ Some d.object → option_map (λ (k : Stored). rights_of k.object) o ≡ Some (rights_of d.object)
    by None e = absurd cc
    by (Some k) e = let same : k.object ≡ d.object = cc in ap (λ o. Some (rights_of o)) same

pub unnamed : (t : Files) (n : ℕ) (name : List ℕ) → not (has_name t n name) ≡ true → object_named t n name ≡ None
unnamed t n name gone = by (entry t.rows n name) gone
  where
    by : (o : Option Row) → not (is_some o) ≡ true → option_map (λ (r : Row). r.object) o ≡ None
    by None e = refl
    by (Some r) e = absurd (false≢true e)

pub named_at : (t : Files) (n : ℕ) (name : List ℕ) → has_name t n name ≡ true → object_named t n name ≡ Some (number_named t n name)
named_at t n name there = by (entry t.rows n name) there
  where
    by : (o : Option Row) → is_some o ≡ true → option_map (λ (r : Row). r.object) o ≡ Some (unwrap_or (option_map (λ (r : Row). r.object) o) 0)
    by None e = absurd (false≢true e)
    by (Some r) e = refl

pub has_entry : (t : Files) (n : ℕ) → has_entries t.rows n ≡ true → HasEntry t n
has_entry t n has = let r = in_any (λ (r : Row). r.directory == n) t.rows has in (r.0, r.1, eqb-true _ _ r.2)

-- Reasons that are said of a place.

module _ (s : State) (whole : IsWhole s) (x : Context) (i : Item) where
  pub node_blames : (o : Option ℕ) → ((n : ℕ) → o ≡ Some n → LooksAt x i n) → (o ≡ None → Reason s x i S.NoFileHandle) → Blames (Reason s x i) (node_at s o)
  node_blames None looks none = none refl
  node_blames (Some n) looks none = by (object_at s.tree n) refl
    where
      by : (k : Option Object) → object_at s.tree n ≡ k → Blames (Reason s x i) (node_as n k)
      by None gone = inl (n, looks n refl, unused s n whole gone)
      by (Some o) is = tt

  pub current_blames : is_on_current i ≡ true → Blames (Reason s x i) (current s x)
  unfolding current
  current_blames on = node_blames x.current (λ n at. AtCurrent on at) (λ none. inl (on, none))

  saved_blames : is_on_saved i ≡ true → Blames (Reason s x i) (node_at s (saved_object x.saved))
  saved_blames on = by x.saved refl
    where
      by : (o : Option Saved) → x.saved ≡ o → Blames (Reason s x i) (node_at s (saved_object o))
      by None none = inr (on, none)
      by (Some saved) is = node_blames (Some saved.object) (λ n same. AtSaved saved on is (same_Some saved.object n same)) (λ bad. (let no_such : Some saved.object ≡ None = bad in cc))

  pub both_blames : is_on_current i ≡ true → is_on_saved i ≡ true → Blames (Reason s x i) (both s x)
  unfolding both
  both_blames on on_saved = then_blames (Reason s x i) (current s x) _ (current_blames on) (λ d e.
      then_blames (Reason s x i) (node_at s (saved_object x.saved)) _ (saved_blames on_saved) (λ k e. tt))

module _ (s : State) (x : Context) (i : Item) where
  -- the object that was found, by its kind
  pub has_kind : (d : Node) (will : FileType → Bool) → current s x ≡ Ok d → will d.object.kind ≡ true → HasKind s d.number will
  has_kind d will e is = (d.object, (found_now s x d e).1, is)

  pub denied_by : (d : Node) (rights : List Right) → current s x ≡ Ok d → Needs s x i d.number rights
      → (((right : Right) → In right rights → MayDo right i s.tree.profile (rights_of d.object) x.who) → ⊥) → IsDenied s x i
  denied_by d rights e needs lacks = record {
    number = d.number;
    rights = rights;
    needs = needs;
    denies = λ all. lacks (λ right there. all right there (rights_of d.object) (rights_is s d (found_now s x d e).1));
  }

  pub no_directory_blames : (d : Node) → is_in_directory i ≡ true → current s x ≡ Ok d → not (is_directory d.object.kind) ≡ true → Reason s x i S.NotDir
  no_directory_blames d wants e no_dir = (d.number, Target wants (current_number s x d e), has_kind d (λ k. not (is_directory k)) e no_dir)

  pub no_finding : (d : Node) (name : List ℕ) → named i ≡ Some name → current s x ≡ Ok d → not (permits x d execute) ≡ true → IsDenied s x i
  no_finding d name is e lacks = denied_by d (Executes ∷ []) e (ToFind d.number i name is (current_number s x d e)) (λ all.
      false≢true (sym (not-true _ lacks) ∙ may_execute x d (all Executes (inl refl))))

  pub missing : (d : Node) (name : List ℕ) → Seeks x i d.number name → object_named s.tree d.number name ≡ None → Reason s x i S.NoEnt
  missing d name seeks none = inl (record { directory = d.number; name = name; seeks = seeks; gone = none })

-- what a name leads to is there
pub named_there : (s : State) (d n : ℕ) (name : List ℕ) → IsWhole s → object_named s.tree d name ≡ Some n → is_there s.tree n ≡ true
named_there s d n name whole at = by (entry s.tree.rows d name) refl at
  where
    by : (o : Option Row) → entry s.tree.rows d name ≡ o → option_map (λ (r : Row). r.object) o ≡ Some n → is_there s.tree n ≡ true
    by None found at = absurd cc
    by (Some r) found at =
        let there = find_in _ s.tree.rows r found in
        subst (λ k. is_there s.tree k ≡ true) (same_Some r.object n at) (whole.tree.rows.names r there.0)

-- What the checks of a name blame.

is_dots : (name : List ℕ) → bytes_eq name (0x2e ∷ []) || bytes_eq name (0x2e ∷ 0x2e ∷ []) ≡ true → (name ≡ 0x2e ∷ []) ⊎ (name ≡ 0x2e ∷ 0x2e ∷ [])
is_dots name dots = elim (or_cases (bytes_eq name (0x2e ∷ [])) (bytes_eq name (0x2e ∷ 0x2e ∷ [])) dots) [
  | inl one ↦ inl ((bytes_eq-Decides name (0x2e ∷ [])).0 one)
  | inr two ↦ inr ((bytes_eq-Decides name (0x2e ∷ 0x2e ∷ [])).0 two)
]

odd_byte : (name : List ℕ) → list_any (λ byte. byte == 0x2f || byte == 0) name ≡ true → (byte : ℕ) × In byte name × ((byte ≡ 0x2f) ⊎ (byte ≡ 0))
odd_byte name odd =
    let b = in_any (λ byte. byte == 0x2f || byte == 0) name odd in
    (b.0, b.1, elim (or_cases (b.0 == 0x2f) (b.0 == 0) b.2) [ inl slash ↦ inl (eqb-true _ _ slash) | inr zero ↦ inr (eqb-true _ _ zero) ])

-- no bytes
pub no_bytes : (name : List ℕ) → length name == 0 ≡ true → name ≡ []
no_bytes [] e = refl
no_bytes (byte ∷ more) e = (let zero : suc (length more) ≡ 0 = eqb-true (length (byte ∷ more)) 0 e in absurd (omega arith))

pub names_blame : (s : State) (x : Context) (i : Item) (name : List ℕ) → Gives i name → AllBlame (Reason s x i) (name_checks name)
names_blame s x i name gives = (
  λ none. NoName (subst (Gives i) (no_bytes name none) gives),
  λ v. (
    λ long. inl (name, gives, ltb-true most_name (length name) long),
    λ v. (λ odd. (let b = odd_byte name odd in (name, gives, b.0, b.1, b.2)), λ v. (λ dots. (name, gives, is_dots name dots), λ v. tt)),
  ),
)
