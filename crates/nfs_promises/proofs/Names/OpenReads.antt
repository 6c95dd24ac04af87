-- What is open can be had, in every run.
use Rattle.std.proofs.Common.{◌≡◌, ◌⊎◌, ℕ, true, false, List, Option, Some, None, refl, sym, ◌∙◌, ap, arith, inl, inr}
use Rattle.std.proofs.lemmas.Bool.{cases_Bool, eq-eqb, ne_eqb, ltb-true, false≢true, and_left, and_right}
use Rattle.std.specs.{Prelude.{◌==◌, nat_lt, Ok}, Option.option_map_or}
use Rattle.nfs_xdr.specs.{Checks.first_fault, declared.status.Status.{Status, TheVariants.RepTooBig}}
use Rattle.nfs_xdr.proofs.{Lists.any_in, Tables.{in_bounds, at_of_in}}
use Rattle.nfs_compound.specs.{Request.item_number, declared.{file_args.Read.Read, op.Item.{Item, TheVariants.Operation}, stateid.Stateid.Stateid}}
use Rattle.nfs_compound.specs.declared.op.Op.TheVariants as Op
use Rattle.nfs_results.specs.Results.{status_of_result}
use Rattle.nfs_tree.specs.{declared.object.FileType.FileType, declared.object.FileType.TheVariants.{Regular, Directory, Link}, declared.stored.Stored.Stored}
use Rattle.nfs_tree.specs.{Files.stored_in, Object.{is_directory, is_regular, is_link}}
use Rattle.nfs_attrs.specs.Mask.{mask_of, asks_set_only}
use Rattle.nfs_opens.specs.declared.{judging.{Seat.{Seat, TheVariants.Open}, Sort.TheVariants.Either}, records.OpenState.OpenState, share.Share.Share}
use Rattle.nfs_opens.specs.{declared.stateid.{CurrentSeqid.TheVariants.Any, StateId.StateId}, Judging.judge, Share.is_part}
use Rattle.nfs_opens.specs.{StateId.{last_seqid, has_ones, is_anonymous, is_bypass}, Table.{Table, open_at}, TableInvariants.IsTable}
use Rattle.nfs_names.specs.{declared.{context.Context.Context, node.Node.Node}, Checks.current, GetAttr.get_attr, Outcome.is_ok, State.{State, is_open}}
use Rattle.nfs_files.specs.{Bytes.{file_checks, seat, reading, seat_checks, may_use}, OpenTold.{OpenTold, Bits, IsOpenWith}, Parts.readable, StateIds.meant}
use Rattle.nfs_files.specs.Read as of_read
use Rattle.nfs_files.proofs.TreeFiles.{IsWhole}
use Rattle.nfs_exec.specs.{Step.Behind.refused_step, Runs.Ops.RanOp}
use Rattle.nfs_promises.specs.{Runs.OpenHeld.the_open, Names.OpenReads.{IsAnswered, CanBeHad, OpensCanRead}}
use Rattle.nfs_exec.proofs.Runs.OneRun.{IsRun, by_item}
use Rattle.nfs_promises.proofs.{Runs.ToldOtherwise.from_other, Bytes.ChangeTells.node_there, Locks.OpenKept.open_kept}
use Rattle.nfs_files.proofs.InSteps as in_steps
use Rattle.nfs_names.proofs.Faulted.{status_of_refusal}

-- The file is a file.

file_of : (o : Option Stored) → option_map_or (λ (s : Stored). is_regular s.object.kind) o false ≡ true → (k : Stored) × (o ≡ Some k) × (is_regular k.object.kind ≡ true)
file_of (Some k) e = (k, refl, e)
file_of o e = absurd (false≢true e)

no_other : (kind : FileType) → is_regular kind ≡ true → (is_directory kind ≡ false) × (is_link kind ≡ false)
no_other Regular e = (refl, refl)
no_other Directory e = absurd (false≢true e)
no_other Link e = absurd (false≢true e)

record IsFile (s : State) (x : Context) (n : ℕ) (d : Node) : Type 0 where
  pub there : current s x ≡ Ok d
  pub number : d.number ≡ n
  pub passes : first_fault (file_checks d) ≡ None

its_node : (k : OpenTold) (b : Bits) (s : State) (x : Context) → IsWhole s → IsOpenWith k b s.opens → x.current ≡ Some k.file → (d : Node) × IsFile s x k.file d
its_node k b s x whole stands at =
    let opened : is_open s k.file ≡ true = any_in (λ o. o.file == k.file) s.opens.opens stands.state stands.there (eq-eqb stands.state.file k.file stands.file) in
    let file = file_of (stored_in s.tree.objects k.file) (whole.store.files k.file opened) in
    let kind = no_other file.0.object.kind file.2 in
    let d : Node = record { number = k.file; object = file.0.object } in
    (d, record { there = node_there s x k.file file.0 at file.1; number = refl; passes = rw (kind.0, kind.1) refl })

-- The stateid means the open.

none_below : (m n : ℕ) → n ≡ 0 → nat_lt m n ≡ false
none_below m n e = elim (cases_Bool (nat_lt m n)) [
  | inl less ↦ (let below = ltb-true m n less in absurd (omega (arith, below, e)))
  | inr is ↦ is
]

judged : (t : Table) (k : OpenTold) (b : Bits) (id : StateId) (client file : ℕ) → IsTable t → (is : IsOpenWith k b t) → id.seqid ≡ 0 → id.instance ≡ t.instance
    → id.number ≡ k.number → client ≡ k.client → file ≡ k.file → judge t id client (Some file) Either ≡ Ok (Open is.state.number is.state.access)
judged t k b id client file table is seqid instance number mine its =
    let bounds = in_bounds (λ (o : OpenState). o.number) 1 _ t.opens is.state table.opens is.there in
    let low = bounds.0 in
    let named = is.number in
    let some : (id.number == 0) ≡ false = ne_eqb id.number 0 (λ none. absurd (omega (arith, low, named, number, none))) in
    let no_zero : is_anonymous id ≡ false = and_right (id.seqid == 0) _ (and_right (id.instance == 0) _ some) in
    let no_ones : is_bypass id ≡ false = and_left (id.seqid == last_seqid) (has_ones id) (ap (λ n. n == last_seqid) seqid) in
    let found : open_at t id.number ≡ Some is.state =
    ap (open_at t) (number ∙ sym is.number) ∙ at_of_in (λ (o : OpenState). o.number) 1 _ t.opens is.state table.opens is.there in
    let own : (id.instance == t.instance) ≡ true = eq-eqb id.instance t.instance instance in
    let client_is : (is.state.client == client) ≡ true = eq-eqb is.state.client client (is.client ∙ sym mine) in
    let file_is : (is.state.file == file) ≡ true = eq-eqb is.state.file file (is.file ∙ sym its) in
    let any : (id.seqid == 0) ≡ true = eq-eqb id.seqid 0 seqid in
    let new : nat_lt is.state.seqid id.seqid ≡ false = none_below is.state.seqid id.seqid seqid in
    rw (no_zero, no_ones, own, found, client_is, file_is, any, new) refl

has_part : (access : Share) → access.reads ≡ true → is_part reading access ≡ true
has_part access e = rw e refl

may_read : (s : State) (x : Context) (given : Stateid) (d : Node) (k : Seat) → seat s x given d ≡ Ok k → first_fault (seat_checks s x reading d k) ≡ None
    → may_use s x reading given d ≡ Ok k
unfolding may_use
may_read s x given d k e passes = rw (e, passes) refl

seat_is : (s : State) (x : Context) (given : Stateid) (d : Node) (id : StateId) (k : Seat) → meant x Any given ≡ Ok id → judge s.opens id x.client (Some d.number) Either ≡ Ok k
    → seat s x given d ≡ Ok k
unfolding seat
seat_is s x given d id k means judged = rw means judged

readable_is : (s : State) (x : Context) (given : Stateid) (d : Node) (k : Seat) → current s x ≡ Ok d → first_fault (file_checks d) ≡ None → may_use s x reading given d ≡ Ok k
    → readable s x given (current s x) ≡ Ok d
unfolding readable
readable_is s x given d k there passes may = rw (there, passes, may) refl

read_is_done : (s : State) (x : Context) (a : Read) (d : Node) → readable s x a.stateid (current s x) ≡ Ok d → is_ok (status_of_result (of_read.read s x a).result) ≡ true
read_is_done s x a d e = rw (in_steps.read_is s x a, e) refl

-- Of an operation that was run.

abbrev Done : Status → Type 0
Done status = (is_ok status ≡ true) ⊎ (status ≡ RepTooBig)

big_done : (d : RanOp) (i : Item) → Done (refused_step d.before d.context i RepTooBig).outcome.status
big_done d i = inr (status_of_refusal (item_number i) RepTooBig)

read_done : (k : OpenTold) (b : Bits) (d : RanOp) → IsRun d → IsOpenWith k b d.before.store.opens → (a : Read) (id : StateId) → d.item ≡ Operation (Op.Read a)
    → d.context.current ≡ Some k.file → d.context.client ≡ k.client → meant d.context Any a.stateid ≡ Ok id → id.seqid ≡ 0
    → id.instance ≡ d.before.store.opens.instance → id.number ≡ k.number → b.access.reads ≡ true → IsAnswered d
read_done k b d run stands a id item at mine means seqid instance number reads =
    let s = d.before.store in
    let x = d.context in
    let node = its_node k b s x run.whole stands at in
    let n = node.0 in
    let open_seat : Seat = Open stands.state.number stands.state.access in
    let seated : seat s x a.stateid n ≡ Ok open_seat =
    seat_is s x a.stateid n id open_seat means (judged s.opens k b id x.client n.number run.whole.table stands seqid instance number mine node.1.number) in
    let part : is_part reading stands.state.access ≡ true = has_part stands.state.access (ap (λ (a : Share). a.reads) stands.access ∙ reads) in
    let may : may_use s x reading a.stateid n ≡ Ok open_seat = may_read s x a.stateid n open_seat seated (rw part refl) in
    by_item (λ status text u. Done status) d run (Operation (Op.Read a)) item (big_done d (Operation (Op.Read a)))
    (inl (read_is_done s x a n (readable_is s x a.stateid n open_seat node.1.there node.1.passes may)))

attributes_done : (s : State) (x : Context) (words : List ℕ) (d : Node) → current s x ≡ Ok d → asks_set_only (mask_of words) ≡ false
    → is_ok (status_of_result (get_attr s x words).result) ≡ true
unfolding get_attr
attributes_done s x words d there readable = rw (there, readable) refl

can_be_had : (k : OpenTold) (b : Bits) (d : RanOp) → IsRun d → IsOpenWith k b d.before.store.opens → CanBeHad k b d
can_be_had k b d run stands = record {
  told = λ words item at readable. (let node = its_node k b d.before.store d.context run.whole stands at in
      by_item (λ status text u. Done status) d run (Operation (Op.GetAttr words)) item (big_done d (Operation (Op.GetAttr words)))
      (inl (attributes_done d.before.store d.context words node.0 node.1.there readable)));
  read = read_done k b d run stands;
}

-- While the open stands.

pub opens_can_read : OpensCanRead
opens_can_read start earlier c k b front told back same tells =
    from_other (the_open k) (CanBeHad k) (λ s. Unit {0}) (record { run = λ d run is. tt; end = λ stays s is. tt })
    (λ b d run own is. can_be_had k b d run is.stands) start earlier c front told back k.client start.lease b same tt
    (open_kept start earlier c k b front told back same tells)
