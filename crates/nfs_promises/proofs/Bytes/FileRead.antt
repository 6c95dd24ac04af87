-- What a READ of a file answers, through whatever records come.
use Rattle.std.proofs.Common.{◌≡◌, inl, inr, ℕ, ◌+◌, Bool, true, List, [], ◌++◌, length, Option, Some, None, refl, sym, ◌∙◌, ap, subst}
use Rattle.std.proofs.lemmas.Bool.{cases_Bool, false≢true}
use Rattle.std.specs.{Prelude.{nat_le, option_map, unwrap_or, Ok}, Option.option_map_or}
use Rattle.nfs_xdr.specs.{Spelling.{flag, opaque}, declared.status.Status.TheVariants.RepTooBig}
use Rattle.nfs_compound.specs.{declared.file_args.Read.Read, declared.op.Item.Item, declared.op.Item.TheVariants.Operation}
use Rattle.nfs_compound.specs.declared.op.Op.TheVariants as Op
use Rattle.nfs_compound.specs.declared.op_num.OpNum.TheVariants as Num
use Rattle.nfs_results.specs.Items as item
use Rattle.nfs_results.specs.{declared.res.ReadOk.ReadOk, Results.{spell_result, done_head, status_of_result}}
use Rattle.nfs_results.specs.declared.res.Res.TheVariants as Res
use Rattle.nfs_tree.specs.{declared.stored.Stored.Stored, declared.object.Object.Object, Files.{Files, stored_in, object_at, data_at, is_there}}
use Rattle.nfs_names.specs.{declared.{context.Context.Context, node.Node.Node}, State.time_at, Checks.current, Outcome.{Outcome, is_ok}}
use Rattle.nfs_names.specs.State as store
use Rattle.nfs_names.specs.Operation as names
use Rattle.nfs_names.proofs.{Found.current_is, NameLaws.current_refuses}
use Rattle.nfs_files.specs.{FileImage.{Image, unwritten, new_size, bytes_read, read_answer}, Parts.readable}
use Rattle.nfs_files.specs.Operation as table
use Rattle.nfs_files.specs.Read as of_read
use Rattle.nfs_files.proofs.{ReadBytes.readable_is, Seats.readable_refuses, WrittenOps.current_number, FileImages.{IsOf, bytes_are, Has, has_staying}}
use Rattle.nfs_files.proofs.{FileOps.{Left, same_if, by_granted, file_left, names_left, open_made}, Terms.bytes_of, ChangesTold.some_same}
use Rattle.nfs_exec.specs.{Step.Machine.Machine, Step.Behind.{otherwise, refused_step}, Runs.Ops.RanOp}
use Rattle.nfs_exec.proofs.{Runs.OneRun.{IsRun, too_big, by_item, by_ok, by_run}, Runs.KeptByRuns.Is}
use Rattle.nfs_promises.specs.Bytes.FileRead.{image_after, ReadsImage, SizeIsTold, TellsFile, MakesFile, ReadsAreWhole}
use Rattle.nfs_promises.proofs.{Runs.{AttributesTold.size_in, Followed.{Follows, from}}, Bytes.ChangeTells.readable_at}
use Rattle.nfs_files.proofs.InSteps as in_steps

-- One operation.

-- what is none of WRITE, SETATTR and OPEN leaves every file
by_names : (n : ℕ) (img : Image) (refused : Bool) (s : store.State) (x : Context) (now : ℕ) (i : Item) (o : Outcome) → names.comes_to refused s x (time_at s now) i ≡ Some o
    → Has n img o.state.tree → Left n img s x i (is_ok (status_of_result o.result)) o.state
by_names n img refused s x now (Operation (Op.Write a)) o e is = absurd cc
by_names n img refused s x now (Operation (Op.SetAttr a)) o e is = absurd cc
by_names n img refused s x now (Operation (Op.Open a)) o e is = absurd cc
by_names n img refused s x now i o e is = same_if n img o.state.tree (is_ok (status_of_result o.result)) is

by_other : (n : ℕ) (img : Image) (refused ok : Bool) (s : store.State) (x : Context) (now : ℕ) (i : Item) → table.comes_to refused s x (time_at s now) i ≡ None
    → Has n img s.tree → Left n img s x i ok s
by_other n img refused ok s x now (Operation (Op.Write a)) e is = absurd cc
by_other n img refused ok s x now (Operation (Op.SetAttr a)) e is = absurd cc
by_other n img refused ok s x now (Operation (Op.Open a)) e is = absurd cc
by_other n img refused ok s x now i e is = same_if n img s.tree ok is

run_left : (n : ℕ) (img : Image) (d : RanOp) → IsRun d → Has n img d.before.store.tree → Has n (image_after n img d) d.behind.store.tree
run_left n img d r is =
    let s = d.before.store in
    by_run (λ status text left. Left n img s d.context d.item (is_ok status) left) d r
    (elim (cases_Bool (is_ok (refused_step d.before d.context d.item RepTooBig).outcome.status)) [
      | inl ok ↦ absurd (too_big d.before d.context d.item ok)
      | inr fails ↦ rw fails is
    ])
    (λ o e. by_names n img r.refused s d.context r.now d.item o e (names_left n img r.refused s d.context (time_at s r.now) d.item is o e))
    (file_left n img r.refused s d.context (time_at s r.now) d.item is)
    (λ none. by_other n img r.refused (is_ok (otherwise d.before d.context d.item).outcome.status) s d.context r.now d.item none is)

-- a READ

read_spelled : (r : ReadOk) → spell_result (Res.Read r) ≡ done_head Num.Read ++ (flag r.eof ++ opaque r.bytes)
unfolding item.read_ok
read_spelled r = refl

stored_by : (t : Files) (n : ℕ) (o : Object) → object_at t n ≡ Some o → (st : Stored) × (stored_in t.objects n ≡ Some st)
stored_by t n o e = go (stored_in t.objects n) refl e
  where
    go : (k : Option Stored) → stored_in t.objects n ≡ k → option_map (λ (s : Stored). s.object) k ≡ Some o → (st : Stored) × (stored_in t.objects n ≡ Some st)
    go None there e = absurd cc
    go (Some st) there e = (st, there)

data_is : (n : ℕ) (img : Image) (t : Files) (o : Object) → Has n img t → object_at t n ≡ Some o → IsOf img (data_at t n)
data_is n img t o has e =
    let st = stored_by t n o e in
    subst (λ (k : Option Stored). IsOf img (option_map_or (λ (s : Stored). s.bytes) k [])) (sym st.1) (has.holds st.0 st.1)

read_is : (n : ℕ) (img : Image) (m : Machine) (x : Context) (r : Read) (d : Node) → Is m → Has n img m.store.tree → x.current ≡ Some n
    → readable m.store x r.stateid (current m.store x) ≡ Ok d → spell_result (Res.Read (of_read.was_read m.store r d)) ≡ read_answer img r.offset r.count
read_is n img m x r d whole has at granted =
    let s = m.store in
    let object : object_at s.tree d.number ≡ Some d.object = readable_is s x r d granted in
    let same : d.number ≡ n = some_same x.current d.number n (current_number s x d (readable_at s x r d granted)) at in
    let here : Has d.number img s.tree = subst (λ (k : ℕ). Has k img s.tree) (sym same) has in
    let contents : IsOf img (data_at s.tree d.number) = data_is d.number img s.tree d.object here object in
    let bytes : bytes_of s r d ≡ bytes_read img r.offset r.count = bytes_are img (data_at s.tree d.number) r.offset r.count contents in
    read_spelled (of_read.was_read s r d)
    ∙ (ap (λ (k : ℕ). done_head Num.Read ++ (flag (nat_le k (r.offset + length (bytes_of s r d))) ++ opaque (bytes_of s r d))) contents.long
    ∙ ap (λ (b : List ℕ). done_head Num.Read ++ (flag (nat_le img.size (r.offset + length b)) ++ opaque b)) bytes)

read_left : (n : ℕ) (img : Image) (m : Machine) (x : Context) (a : Read) → Is m → Has n img m.store.tree → x.current ≡ Some n
    → (let o = of_read.read m.store x a in is_ok (status_of_result o.result) ≡ true → spell_result o.result ≡ read_answer img a.offset a.count)
read_left n img m x a whole is at =
    rw (in_steps.read_is m.store x a)
    (by_granted (λ o. is_ok (status_of_result o.result) ≡ true → spell_result o.result ≡ read_answer img a.offset a.count) m.store x Num.Read
    (readable m.store x a.stateid (current m.store x)) _ (readable_refuses m.store x a.stateid (current m.store x) (current_refuses m.store x))
    (λ status refuses ok. absurd (false≢true (sym refuses.done ∙ ok)))
    (λ d granted ok. read_is n img m x a d whole is at granted))

reads_image : (n : ℕ) (img : Image) (d : RanOp) → IsRun d → Has n img d.before.store.tree → ReadsImage n img d
reads_image n img d r is asked item at ok =
    by_ok (λ text s. text ≡ read_answer img asked.offset asked.count) d r (Operation (Op.Read asked)) item ok
    (read_left n img d.before d.context asked r.whole is at)

-- a GETATTR

size_told : (n : ℕ) (img : Image) (d : RanOp) → IsRun d → Has n img d.before.store.tree → SizeIsTold n img d
size_told n img d r is words item at ok asks = size_in d r words img.size item asks ok (λ k found.
    (let s = d.before.store in
    let held = current_is s d.context k found in
    let same : k.number ≡ n = some_same d.context.current k.number n (current_number s d.context k found) at in
    let here : Has k.number img s.tree = subst (λ (k : ℕ). Has k img s.tree) (sym same) is in
    (data_is k.number img s.tree k.object here held.object).long))

-- the OPEN that made it

made_run : (n size : ℕ) (d : RanOp) → IsRun d → MakesFile n size d → Has n (unwritten size) d.behind.store.tree
made_run n size d r makes =
    subst (λ (k : ℕ). Has n (unwritten k) d.behind.store.tree) makes.given
    (by_item (λ status text s. is_there s.tree n ≡ true → Has n (unwritten (unwrap_or (new_size makes.asked.openhow) 0)) s.tree) d r (Operation (Op.Open makes.asked)) makes.is
    (λ there. absurd (false≢true (sym makes.free ∙ there)))
    (open_made n r.refused d.before.store d.context (time_at d.before.store r.now) makes.asked makes.free) makes.there)

-- A run.

follows : (n : ℕ) → Follows (TellsFile n) (image_after n) (λ img s. Has n img s.tree)
follows n = record {
  run = λ img d run is. ((reads_image n img d run is, size_told n img d run is), run_left n img d run is);
  end = λ img stays s is. has_staying n img stays s is;
}

pub reads_are_whole : ReadsAreWhole
reads_are_whole start earlier c front made back n size same makes =
    from (TellsFile n) (image_after n) (λ img s. Has n img s.tree) (follows n) start earlier c front made back (unwritten size) same
    (λ run. made_run n size made run makes)
