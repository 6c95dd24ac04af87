-- Operations on open files as their code takes them: what is found first, and what is done with it, come to what the steps of the operation do.
use Rattle.std.proofs.Common.{◌≡◌, ℕ, Bool, true, false, not, cond, List, [], ◌∷◌, Option, Some, None, refl, ◌∙◌, ap}
use Rattle.std.specs.Prelude.{Result, Ok, Err}
use Rattle.nfs_xdr.specs.{Checks.{first_fault, judged}, declared.time.Time.Time, declared.status.Status.Status}
use Rattle.nfs_xdr.specs.declared.status.Status.TheVariants.{Inval, NoGrace}
use Rattle.nfs_compound.specs.{declared.stateid.Stateid.Stateid, declared.op_num.OpNum.OpNum, declared.file_args.Read.Read, declared.file_args.Write.Write}
use Rattle.nfs_compound.specs.{declared.file_args.SetAttr.SetAttr, declared.open_args.Close.Close, declared.open_args.OpenDowngrade.OpenDowngrade}
use Rattle.nfs_compound.specs.{declared.lock_args.Lock.Lock, declared.lock_args.LockU.LockU, declared.lock_args.LockType.LockType}
use Rattle.nfs_compound.specs.{declared.open_args.Open.Open, declared.open_args.OpenClaim.OpenClaim}
use Rattle.nfs_compound.specs.declared.open_args.OpenClaim.TheVariants.{Null, Previous, DelegateCur, DelegatePrev, Fh, DelegCurFh, DelegPrevFh}
use Rattle.nfs_compound.specs.declared.lock_args.LockT as test
use Rattle.nfs_compound.specs.declared.op_num.OpNum.TheVariants as Num
use Rattle.nfs_results.specs.declared.res.Res.TheVariants as Res
use Rattle.nfs_opens.specs.{declared.share.Share.Share, declared.stateid.StateId.StateId, declared.stateid.CurrentSeqid.TheVariants.{Any, Own}}
use Rattle.nfs_opens.specs.{declared.judging.Seat.Seat, declared.judging.Sort.TheVariants.OpenOnly, declared.locking.Wish.Wish, Judging.judge}
use Rattle.nfs_opens.specs.{Table.Table, Locking.{unlock, test_lock}, Steps.{require, in_order, ◌>>=◌, ◌>>◌}}
use Rattle.nfs_opens.specs.Closing as closing
use Rattle.nfs_opens.specs.Opening as opening
use Rattle.nfs_tree.specs.Files.{object_named}
use Rattle.nfs_attrs.specs.declared.wanted.Wanted.{Wanted}
use Rattle.nfs_names.specs.{declared.context.Context.Context, declared.node.Node.Node, declared.making.Making.Making, State.State, Ending.with_opens}
use Rattle.nfs_names.specs.{Outcome.{Outcome, done, passed, checked, mapped, or_refusal, refuses, answers}, Checks.{node_at, current}, Create.attributes_in}
use Rattle.nfs_files.specs.{declared.target.Target.Target, declared.ranges.Wished.Wished, declared.setting.Setting.Setting}
use Rattle.nfs_files.specs.{Bytes.{file_checks, seat, reading, writing, seat_checks, may_use}, Close.close, Commit.{write_verifier, commit}}
use Rattle.nfs_files.specs.{FreeStateid.free_stateid, Lock.{stateid_in, locks_as, locked, lock}, LockT.lock_t, LockU.lock_u}
use Rattle.nfs_files.specs.{OpenDowngrade.{bits, open_downgrade}, Ranges.{range, wished}, Read.{was_read, read}, SetAttr.{may_resize, set_attr}}
use Rattle.nfs_files.specs.{StateIds.meant, Target.the_file, Write.{last_checks, write}}
use Rattle.nfs_files.specs.Parts.{if_passed, readable, writable, was_written, target, closed, closes, bit_checks, narrowing, narrowed, narrows, frees, wish, locking, locks, unlocking, unlocked, unlocks}
use Rattle.nfs_files.specs.{declared.opening.Found.Found, declared.opening.Found.TheVariants.{There, Absent}}
use Rattle.nfs_files.specs.Open.{makes, there_checks, cuts, found_by, by_claim, opened, open_file}
use Rattle.nfs_files.specs.OpenParts.{argument_checks, place_checks, absent_checks}
use Rattle.nfs_files.specs.Open as of_open
use Rattle.nfs_files.specs.OpenParts as open_parts
use Rattle.nfs_files.proofs.Terms as terms
use Rattle.nfs_files.specs.SetAttrParts as set_parts
use Rattle.nfs_files.proofs.Terms.{range_checks, last_of, tested}

-- Steps without an outcome.

checked_as : {A : Type 0} (a : A) (o : Option Status) → (judged o >> Ok a) ≡ passed a o
checked_as a None = refl
checked_as a (Some status) = refl

steps_checked : {A : Type 0} (v : Result A Status) (checks : A → List (Bool × Status)) → (v >>= λ a. in_order (checks a) >> Ok a) ≡ checked v checks
steps_checked (Err status) checks = refl
steps_checked (Ok a) checks = checked_as a (first_fault (checks a))

steps_mapped : {A B : Type 0} (v : Result A Status) (f : A → B) → (v >>= λ a. Ok (f a)) ≡ mapped f v
steps_mapped (Err status) f = refl
steps_mapped (Ok a) f = refl

pub file_is : (s : State) (x : Context) → the_file s x ≡ checked (current s x) file_checks
unfolding the_file
file_is s x = steps_checked (current s x) file_checks

pub may_use_is : (s : State) (x : Context) (wanted : Share) (given : Stateid) (d : Node)
    → may_use s x wanted given d ≡ checked (seat s x given d) (seat_checks s x wanted d)
unfolding may_use
may_use_is s x wanted given d = steps_checked (seat s x given d) (seat_checks s x wanted d)

pub range_is : (offset size : ℕ) → range offset size ≡ passed (last_of offset size) (first_fault (range_checks offset size))
unfolding range
range_is offset size = checked_as (last_of offset size) (first_fault (range_checks offset size))

pub wished_is : (s : State) (x : Context) (how : LockType) (offset size : ℕ)
    → wished s x how offset size ≡ (the_file s x >>= λ d. mapped (λ last. wish x how offset last d.number) (range offset size))
unfolding wished
wished_is s x how offset size = by_file (the_file s x)
  where
    by_file : (v : Result Node Status) → (v >>= λ d. range offset size >>= λ last. Ok (wish x how offset last d.number))
        ≡ (v >>= λ d. mapped (λ last. wish x how offset last d.number) (range offset size))
    by_file (Err status) = refl
    by_file (Ok d) = steps_mapped (range offset size) (λ last. wish x how offset last d.number)

module _ (s : State) (x : Context) (op : OpNum) where
  -- Steps that come to an outcome.

  then_is : {A : Type 0} (v : Result A Status) (next : A → Result Outcome Status) (f : A → Outcome) → ((a : A) → or_refusal s x op (next a) ≡ f a)
      → or_refusal s x op (v >>= next) ≡ answers s x op v f
  then_is (Err status) next f same = refl
  then_is (Ok a) next f same = same a

  then_done : {A : Type 0} (v : Result A Status) (f : A → Outcome) → or_refusal s x op (v >>= λ a. Ok (f a)) ≡ answers s x op v f
  then_done v f = then_is v (λ a. Ok (f a)) f (λ a. refl)

  by_fault : {A : Type 0} (a : A) (o : Option Status) (f : A → Outcome) → or_refusal s x op (judged o >> Ok (f a)) ≡ answers s x op (passed a o) f
  by_fault a None f = refl
  by_fault a (Some status) f = refl

  checked_then : {A : Type 0} (v : Result A Status) (checks : A → List (Bool × Status)) (f : A → Outcome)
      → or_refusal s x op (v >>= λ a. in_order (checks a) >> Ok (f a)) ≡ answers s x op (checked v checks) f
  checked_then (Err status) checks f = refl
  checked_then (Ok a) checks f = by_fault a (first_fault (checks a)) f

  -- .. of what was found and looked at
  looked_then : {A B : Type 0} (a : A) (w : Result B Status) (f : A → Outcome) → or_refusal s x op (w >> Ok (f a)) ≡ answers s x op (mapped (λ b. a) w) f
  looked_then a (Err status) f = refl
  looked_then a (Ok b) f = refl

  passed_then : {A B : Type 0} (v : Result A Status) (next : A → Result B Status) (f : A → Outcome)
      → or_refusal s x op (v >>= λ a. next a >> Ok (f a)) ≡ answers s x op (if_passed v next) f
  passed_then (Err status) next f = refl
  passed_then (Ok a) next f = looked_then a (next a) f

  looked_checked : {A B : Type 0} (a : A) (w : Result B Status) (checks : A → List (Bool × Status)) (f : A → Outcome)
      → or_refusal s x op (w >> (in_order (checks a) >> Ok (f a))) ≡ answers s x op (checked (mapped (λ b. a) w) checks) f
  looked_checked a (Err status) checks f = refl
  looked_checked a (Ok b) checks f = by_fault a (first_fault (checks a)) f

  passed_checked : {A B : Type 0} (v : Result A Status) (next : A → Result B Status) (checks : A → List (Bool × Status)) (f : A → Outcome)
      → or_refusal s x op (v >>= λ a. next a >> (in_order (checks a) >> Ok (f a))) ≡ answers s x op (checked (if_passed v next) checks) f
  passed_checked (Err status) next checks f = refl
  passed_checked (Ok a) next checks f = looked_checked a (next a) checks f

  -- .. of two things that were found
  both_then : {A B C : Type 0} (v : Result A Status) (w : Result B Status) (pair : A → B → C) (next : A → B → Result Outcome Status) (f : C → Outcome)
      → ((a : A) (b : B) → or_refusal s x op (next a b) ≡ f (pair a b))
      → or_refusal s x op (v >>= λ a. w >>= next a) ≡ answers s x op (v >>= λ a. mapped (pair a) w) f
  both_then (Err status) w pair next f same = refl
  both_then (Ok a) (Err status) pair next f same = refl
  both_then (Ok a) (Ok b) pair next f same = same a b

-- what it is by what was found, or where nothing was
pub where_found : {A : Type 0} (s : State) (x : Context) (op : OpNum) (o : Outcome) (v : Result A Status) (f : A → Outcome) (a : A)
    → o ≡ answers s x op v f → v ≡ Ok a → o ≡ f a
where_found s x op o v f a e is = e ∙ ap (λ v. answers s x op v f) is

pub where_refused : {A : Type 0} (s : State) (x : Context) (op : OpNum) (o : Outcome) (v : Result A Status) (f : A → Outcome) (status : Status)
    → o ≡ answers s x op v f → v ≡ Err status → o ≡ refuses s x op status
where_refused s x op o v f status e is = e ∙ ap (λ v. answers s x op v f) is

-- The operations.

pub commit_is : (s : State) (x : Context)
    → commit s x ≡ answers s x Num.Commit (checked (current s x) file_checks) (λ d. done s x (Res.Commit (write_verifier s)))
unfolding commit
commit_is s x = checked_then s x Num.Commit (current s x) file_checks (λ d. done s x (Res.Commit (write_verifier s)))

pub read_is : (s : State) (x : Context) (a : Read)
    → read s x a ≡ answers s x Num.Read (readable s x a.stateid (current s x)) (λ d. done s x (Res.Read (was_read s a d)))
unfolding read readable
read_is s x a =
    let told : Node → Outcome = λ d. done s x (Res.Read (was_read s a d)) in
    ap (λ (v : Result Node Status). or_refusal s x Num.Read (v >>= λ d. may_use s x reading a.stateid d >> Ok (told d))) (file_is s x)
    ∙ passed_then s x Num.Read (checked (current s x) file_checks) (may_use s x reading a.stateid) told

pub write_is : (s : State) (x : Context) (now : Time) (w : Write)
    → write s x now w ≡ answers s x Num.Write (checked (writable s x w.stateid (current s x)) (last_checks s w)) (was_written s x now w)
unfolding write writable
write_is s x now w =
    ap (λ (v : Result Node Status).
    or_refusal s x Num.Write (v >>= λ d. may_use s x writing w.stateid d >> (in_order (last_checks s w d) >> Ok (was_written s x now w d)))) (file_is s x)
    ∙ passed_checked s x Num.Write (checked (current s x) file_checks) (may_use s x writing w.stateid) (last_checks s w) (was_written s x now w)

pub close_is : (s : State) (x : Context) (a : Close) → close s x a ≡ answers s x Num.Close (target s x Own a.open_stateid) (closes s x)
unfolding close target
close_is s x a =
    let closing_of : Node → StateId → Result (Unit {0} × Table) Status = λ d id. closing.close s.opens id x.client d.number in
    both_then s x Num.Close (the_file s x) (meant x Own a.open_stateid) (λ d id. record { file = d.number; id = id })
    (λ d id. closing_of d id >>= λ did. Ok (closed s x d.number did.1)) (closes s x)
    (λ d id. then_done s x Num.Close (closing_of d id) (λ did. closed s x d.number did.1))

pub downgrade_is : (s : State) (x : Context) (a : OpenDowngrade)
    → open_downgrade s x a ≡ answers s x Num.OpenDowngrade (narrowing s x a) (narrows s x a)
unfolding open_downgrade target
downgrade_is s x a = by_file (the_file s x)
  where
    -- what is done of an open, and the steps that come to it
    down : Node → StateId → Result (StateId × Table) Status
    down d id = opening.downgrade s.opens id x.client d.number (bits a.share_access) (bits a.share_deny)

    rest : Node → StateId → Result Outcome Status
    rest d id = down d id >>= λ did. Ok (narrowed s x did.0 did.1)

    pair : Node → StateId → Target
    pair d id = record { file = d.number; id = id }

    by_bits : (d : Node) (id : StateId) (o : Option Status) (k : Seat) → or_refusal s x Num.OpenDowngrade (judged o >> rest d id)
        ≡ answers s x Num.OpenDowngrade (mapped (λ b. pair d id) (passed k o)) (narrows s x a)
    by_bits d id None k = then_done s x Num.OpenDowngrade (down d id) (λ did. narrowed s x did.0 did.1)
    by_bits d id (Some status) k = refl

    by_seat : (d : Node) (id : StateId) (v : Result Seat Status) → or_refusal s x Num.OpenDowngrade (v >> (in_order (terms.bit_checks a) >> rest d id))
        ≡ answers s x Num.OpenDowngrade (mapped (λ b. pair d id) (checked v (bit_checks a))) (narrows s x a)
    by_seat d id (Err status) = refl
    by_seat d id (Ok k) = by_bits d id (first_fault (terms.bit_checks a)) k

    by_id : (d : Node) (v : Result StateId Status)
        → or_refusal s x Num.OpenDowngrade (v >>= λ id. judge s.opens id x.client (Some d.number) OpenOnly >> (in_order (terms.bit_checks a) >> rest d id))
        ≡ answers s x Num.OpenDowngrade (if_passed (mapped (pair d) v) (λ t. checked (judge s.opens t.id x.client (Some t.file) OpenOnly) (bit_checks a))) (narrows s x a)
    by_id d (Err status) = refl
    by_id d (Ok id) = by_seat d id (judge s.opens id x.client (Some d.number) OpenOnly)

    by_file : (v : Result Node Status)
        → or_refusal s x Num.OpenDowngrade (v >>= λ d. meant x Own a.open_stateid
        >>= λ id. judge s.opens id x.client (Some d.number) OpenOnly >> (in_order (terms.bit_checks a) >> rest d id))
        ≡ answers s x Num.OpenDowngrade (if_passed (v >>= λ d. mapped (pair d) (meant x Own a.open_stateid))
        (λ t. checked (judge s.opens t.id x.client (Some t.file) OpenOnly) (bit_checks a))) (narrows s x a)
    by_file (Err status) = refl
    by_file (Ok d) = by_id d (meant x Own a.open_stateid)

pub free_is : (s : State) (x : Context) (given : Stateid) → free_stateid s x given ≡ answers s x Num.FreeStateid (meant x Any given) (frees s x)
unfolding free_stateid
free_is s x given =
    let freed : Unit {0} × Table → Outcome = λ did. done (with_opens s did.1) x Res.FreeStateid in
    then_is s x Num.FreeStateid (meant x Any given) (λ id. closing.free s.opens id x.client >>= λ did. Ok (freed did)) (frees s x)
    (λ id. then_done s x Num.FreeStateid (closing.free s.opens id x.client) freed)

pub test_is : (s : State) (x : Context) (a : test.LockT)
    → lock_t s x a ≡ answers s x Num.LockT (wished s x a.locktype a.offset a.length) (λ w. tested s x (test_lock s.opens a.owner.owner w))
unfolding lock_t
test_is s x a = then_done s x Num.LockT (wished s x a.locktype a.offset a.length) (λ w. tested s x (test_lock s.opens a.owner.owner w))

pub lock_is : (s : State) (x : Context) (a : Lock) → lock s x a ≡ answers s x Num.Lock (locking s x a) (locks s x a.locker)
unfolding lock
lock_is s x a = by_wish (wished s x a.locktype a.offset a.length)
  where
    rest : Wish → Result Outcome Status
    rest w = meant x Any (stateid_in a.locker) >>= λ id. Ok (locked s x (locks_as s.opens a.locker id w))

    pair : Wish → StateId → Wished
    pair w id = record { wish = w; id = id }

    by_id : (w : Wish) (v : Result StateId Status) → or_refusal s x Num.Lock (v >>= λ id. Ok (locked s x (locks_as s.opens a.locker id w)))
        ≡ answers s x Num.Lock (mapped (pair w) v) (locks s x a.locker)
    by_id w (Err status) = refl
    by_id w (Ok id) = refl

    by_reclaim : (w : Wish) (b : Bool) → or_refusal s x Num.Lock (require (not b) NoGrace >> rest w)
        ≡ answers s x Num.Lock (passed w (first_fault ((b, NoGrace) ∷ [])) >>= λ w. mapped (pair w) (meant x Any (stateid_in a.locker))) (locks s x a.locker)
    by_reclaim w true = refl
    by_reclaim w false = by_id w (meant x Any (stateid_in a.locker))

    by_wish : (v : Result Wish Status) → or_refusal s x Num.Lock (v >>= λ w. require (not a.reclaim) NoGrace >> rest w)
        ≡ answers s x Num.Lock (checked v (λ w. (a.reclaim, NoGrace) ∷ []) >>= λ w. mapped (pair w) (meant x Any (stateid_in a.locker))) (locks s x a.locker)
    by_wish (Err status) = refl
    by_wish (Ok w) = by_reclaim w a.reclaim

pub unlock_is : (s : State) (x : Context) (a : LockU) → lock_u s x a ≡ answers s x Num.LockU (unlocking s x a) (unlocks s x)
unfolding lock_u
unlock_is s x a =
    let given_up : Wish → StateId → Result (StateId × Table) Status = λ w id. unlock s.opens id w.client w.file w.first w.last in
    both_then s x Num.LockU (wished s x a.locktype a.offset a.length) (meant x Any a.lock_stateid) (λ w id. record { wish = w; id = id })
    (λ w id. given_up w id >>= λ did. Ok (unlocked s x did.0 did.1)) (unlocks s x)
    (λ w id. then_done s x Num.LockU (given_up w id) (λ did. unlocked s x did.0 did.1))

pub set_attr_is : (s : State) (x : Context) (now : Time) (a : SetAttr)
    → set_attr s x now a ≡ answers s x Num.SetAttr (checked (set_parts.asked_for s x a) (set_parts.last_checks s)) (set_parts.was_set s x now a)
unfolding set_attr set_parts.asked_for writable
set_attr_is s x now a = by_node (current s x)
  where
    pair : Node → Wanted → Setting
    pair d wanted = record { node = d; wanted = wanted }

    rest : Node → Wanted → Result Outcome Status
    rest d wanted = in_order (set_parts.last_checks s (pair d wanted)) >> Ok (set_parts.was_set s x now a (pair d wanted))

    nothing : Result (Unit {0}) Status
    nothing = Ok tt

    by_use : (d : Node) (wanted : Wanted) (v : Result Seat Status) → or_refusal s x Num.SetAttr ((v >> nothing) >> rest d wanted)
        ≡ answers s x Num.SetAttr (checked (mapped (λ b. pair d wanted) (mapped (λ b. d) v)) (set_parts.last_checks s)) (set_parts.was_set s x now a)
    by_use d wanted (Err status) = refl
    by_use d wanted (Ok k) = by_fault s x Num.SetAttr (pair d wanted) (first_fault (set_parts.last_checks s (pair d wanted))) (set_parts.was_set s x now a)

    by_sort : (d : Node) (wanted : Wanted) (o : Option Status)
        → or_refusal s x Num.SetAttr ((judged o >> (may_use s x writing a.stateid d >> nothing)) >> rest d wanted)
        ≡ answers s x Num.SetAttr (checked (mapped (λ b. pair d wanted) (if_passed (passed d o) (may_use s x writing a.stateid))) (set_parts.last_checks s)) (set_parts.was_set s x now a)
    by_sort d wanted None = by_use d wanted (may_use s x writing a.stateid d)
    by_sort d wanted (Some status) = refl

    by_size : (d : Node) (wanted : Wanted) (size : Option ℕ) → or_refusal s x Num.SetAttr (may_resize s x a.stateid d size >> rest d wanted)
        ≡ answers s x Num.SetAttr (checked (mapped (λ b. pair d wanted) (set_parts.sized_by s x a.stateid d size)) (set_parts.last_checks s)) (set_parts.was_set s x now a)
    by_size d wanted None = by_fault s x Num.SetAttr (pair d wanted) (first_fault (set_parts.last_checks s (pair d wanted))) (set_parts.was_set s x now a)
    by_size d wanted (Some size) = by_sort d wanted (first_fault (file_checks d))

    by_owner : (d : Node) (wanted : Wanted) (o : Option Status)
        → or_refusal s x Num.SetAttr (judged o >> (may_resize s x a.stateid d wanted.size >> rest d wanted))
        ≡ answers s x Num.SetAttr (checked (if_passed (passed (pair d wanted) o) (set_parts.sized s x a.stateid)) (set_parts.last_checks s)) (set_parts.was_set s x now a)
    by_owner d wanted None = by_size d wanted wanted.size
    by_owner d wanted (Some status) = refl

    by_wanted : (d : Node) (v : Result Wanted Status)
        → or_refusal s x Num.SetAttr (v >>= λ wanted. in_order (set_parts.owner_checks s x (pair d wanted)) >> (may_resize s x a.stateid d wanted.size >> rest d wanted))
        ≡ answers s x Num.SetAttr (checked (if_passed (v >>= λ wanted. checked (Ok (pair d wanted)) (set_parts.owner_checks s x))
        (set_parts.sized s x a.stateid)) (set_parts.last_checks s)) (set_parts.was_set s x now a)
    by_wanted d (Err status) = refl
    by_wanted d (Ok wanted) = by_owner d wanted (first_fault (set_parts.owner_checks s x (pair d wanted)))

    by_node : (v : Result Node Status)
        → or_refusal s x Num.SetAttr (v >>= λ d. attributes_in a.obj_attributes
        >>= λ wanted. in_order (set_parts.owner_checks s x (pair d wanted)) >> (may_resize s x a.stateid d wanted.size >> rest d wanted))
        ≡ answers s x Num.SetAttr (checked (if_passed (v >>= λ d. attributes_in a.obj_attributes
        >>= λ wanted. checked (Ok (pair d wanted)) (set_parts.owner_checks s x)) (set_parts.sized s x a.stateid)) (set_parts.last_checks s)) (set_parts.was_set s x now a)
    by_node (Err status) = refl
    by_node (Ok d) = by_wanted d (attributes_in a.obj_attributes)

-- OPEN: what it comes upon.

mapped_passed : {A B : Type 0} (f : A → B) (a : A) (o : Option Status) → (judged o >> Ok (f a)) ≡ mapped f (passed a o)
mapped_passed f a None = refl
mapped_passed f a (Some status) = refl

mapped_checked : {A B : Type 0} (f : A → B) (v : Result A Status) (checks : A → List (Bool × Status))
    → (v >>= λ a. in_order (checks a) >> Ok (f a)) ≡ mapped f (checked v checks)
mapped_checked f (Err status) checks = refl
mapped_checked f (Ok a) checks = mapped_passed f a (first_fault (checks a))

found_is : (s : State) (x : Context) (o : Open) (m : Making) (n : Option ℕ) → found_by s x o m n ≡ open_parts.found_by s x o m n
found_is s x o m None = mapped_passed Absent m (first_fault (absent_checks x o m))
found_is s x o m (Some n) = mapped_checked (λ f. There m.place.number f (cuts o m.wanted)) (node_at s (Some n)) (there_checks s.tree x o)

name_is : (s : State) (x : Context) (o : Open) (name : List ℕ) (d : Node) → by_claim s x o (Null name) d ≡ open_parts.by_name s x o name d
name_is s x o name d = by_place (first_fault (place_checks x name d))
  where
    by_wanted : (v : Result Wanted Status) → (v >>= λ wanted. found_by s x o (record { place = d; wanted = wanted }) (object_named s.tree d.number name))
        ≡ (v >>= λ wanted. open_parts.found_by s x o (record { place = d; wanted = wanted }) (object_named s.tree d.number name))
    by_wanted (Err status) = refl
    by_wanted (Ok wanted) = found_is s x o (record { place = d; wanted = wanted }) (object_named s.tree d.number name)

    by_place : (fault : Option Status)
        → (judged fault >> (attributes_in (makes o.openhow).attributes
        >>= λ wanted. found_by s x o (record { place = d; wanted = wanted }) (object_named s.tree d.number name)))
        ≡ (passed d fault >>= λ place. attributes_in (makes o.openhow).attributes
        >>= λ wanted. open_parts.found_by s x o (record { place = place; wanted = wanted }) (object_named s.tree place.number name))
    by_place None = by_wanted (attributes_in (makes o.openhow).attributes)
    by_place (Some status) = refl

handle_is : (s : State) (x : Context) (o : Open) (d : Node) (b : Bool)
    → (require (not b) Inval >> (in_order (there_checks s.tree x o d) >> Ok (There d.number d false))) ≡ cond b (Err Inval) (open_parts.by_handle s.tree x o d)
handle_is s x o d true = refl
handle_is s x o d false = mapped_passed (λ f. There f.number f false) d (first_fault (there_checks s.tree x o d))

claim_is : (s : State) (x : Context) (o : Open) (claim : OpenClaim) (d : Node) → by_claim s x o claim d ≡ open_parts.by_claim s x o claim d
claim_is s x o (Null name) d = name_is s x o name d
claim_is s x o Fh d = handle_is s x o d (makes o.openhow).creates
claim_is s x o (Previous type) d = refl
claim_is s x o (DelegateCur id file) d = refl
claim_is s x o (DelegatePrev file) d = refl
claim_is s x o (DelegCurFh id) d = refl
claim_is s x o DelegPrevFh d = refl

pub open_is : (s : State) (x : Context) (now : Time) (o : Open)
    → open_file s x now o ≡ answers s x Num.Open (checked (open_parts.asked_for s x o) (of_open.last_checks s x o)) (opened s x now o)
unfolding open_file open_parts.asked_for
open_is s x now o = by_node (current s x)
  where
    rest : Result Found Status → Result Outcome Status
    rest v = v >>= λ found. in_order (of_open.last_checks s x o found) >> Ok (opened s x now o found)

    by_arguments : (d : Node) (fault : Option Status) → or_refusal s x Num.Open (judged fault >> rest (by_claim s x o o.claim d))
        ≡ answers s x Num.Open (checked (passed d fault >>= open_parts.by_claim s x o o.claim) (of_open.last_checks s x o)) (opened s x now o)
    by_arguments d None =
        ap (λ v. or_refusal s x Num.Open (rest v)) (claim_is s x o o.claim d)
        ∙ checked_then s x Num.Open (open_parts.by_claim s x o o.claim d) (of_open.last_checks s x o) (opened s x now o)
    by_arguments d (Some status) = refl

    by_node : (v : Result Node Status) → or_refusal s x Num.Open (v >>= λ d. in_order (argument_checks o d) >> rest (by_claim s x o o.claim d))
        ≡ answers s x Num.Open (checked (checked v (argument_checks o) >>= open_parts.by_claim s x o o.claim) (of_open.last_checks s x o)) (opened s x now o)
    by_node (Err status) = refl
    by_node (Ok d) = by_arguments d (first_fault (argument_checks o d))
