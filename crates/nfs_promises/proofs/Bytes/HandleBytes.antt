-- What was written to a filehandle is read from it, in every run.
use Rattle.std.proofs.Common.{◌≡◌, ℕ, ◌<◌, ◌^◌, List, [], ◌∷◌, ◌++◌, Some, refl, sym, ◌∙◌, ap, subst, inl, inr}
use Rattle.nfs_tree.specs.Files.{object_named}
use Rattle.nfs_files.proofs.ChangesTold.{some_same}
use Rattle.nfs_files.specs.Written.{Byte, OpensEmpty, Reads, GivesIt}
use Rattle.nfs_exec.specs.Runs.{Ops.RanOp, WrittenRun.{SparesIt, AreSpared, StandsWhile}}
use Rattle.nfs_serve.specs.Step.{ServerState, new_state}
use Rattle.nfs_promises.specs.{Runs.Points.{state_after, state_after_all, reached, ops_of}, Network.Endpoint.Arrival, Bytes.HandleBytes.{ByteAt, in_file}}
use Rattle.nfs_promises.specs.Bytes.HandleBytes.{MayBe, SparesAt, AllSpareAt, GivesAt, ReadsBack, ReadsBackThrough, names_behind, BytesFollow}
use Rattle.nfs_promises.specs.{Bytes.{WrittenStays.StaysWritten}, Names.KnownHandles.{KnownName, Known, IsHandleOf, starts, led_by}}
use Rattle.nfs_promises.specs.Names.KnownHandles.{opened, behind, known_after, known_after_all, names_after, root_of}
use Rattle.nfs_promises.proofs.{Runs.Handles.handle_in, Names.KnownHandles.{HoldsAt, HoldsIn, AllHold, one_record, first_holds, numbers, same_number}}
use Rattle.nfs_promises.proofs.{Names.NameStays.rows, Bytes.WrittenStays.bytes_stay}

module _ (instance : ℕ) (low : instance < 2 ^ 32) (b : ByteAt) (n : ℕ) (its : IsHandleOf instance b.handle n) where
  abbrev top : List ℕ
  top = root_of instance

  abbrev it : Byte
  it = in_file n b

  -- one filehandle bears it
  only_one : (g : List ℕ) (m : ℕ) → IsHandleOf instance g m → m ≡ n → g ≡ b.handle
  only_one g m bears same = bears.is ∙ (ap (handle_in instance) same ∙ sym its.is)

  -- what is known of the current filehandle does not rule it out where its file is current
  may_be : (k : Known) (d : RanOp) → HoldsAt instance low k d → d.context.current ≡ Some n → MayBe b.handle k.current
  may_be k d is at g known =
      let seat = is.holds.seated.at_current g known in
      only_one g seat.0 seat.1 (some_same d.context.current seat.0 n seat.2 at)

  -- nor where a name leads to it
  may_lead : (k : Known) (d : RanOp) → HoldsAt instance low k d → OpensEmpty n d.before.store d.context d.item d.result → MayBe b.handle (behind top k d.item d.result).current
  may_lead k d is e g known =
      let after : (behind top k d.item d.result).current ≡ (led_by e.name k).current =
      ap (λ i. (behind top k i d.result).current) e.is ∙ ap (λ claim. (opened claim k).current) e.claim in
      let m = numbers instance low k.names (rows d.before) k.current d.context.current e.name g is.holds.names is.holds.seated.at_current (sym after ∙ known) in
      let at = some_same d.context.current m.directory e.directory m.at e.at in
      let leads : Some m.number ≡ Some n = sym m.leads ∙ (ap (λ directory. object_named d.before.store.tree directory e.name) at ∙ e.names) in
      let same : m.number ≡ n = cc in
      only_one g m.number m.of_it same

  spared : (k : Known) (d : RanOp) → HoldsAt instance low k d → SparesAt top b k d → SparesIt it d
  spared k d is spares = record {
    writes = λ w. spares.writes n w (may_be k d is w.at);
    sizes = λ z. spares.sizes n z (may_be k d is z.at);
    opens = λ o. spares.opens n o (may_lead k d is o);
  }

  all_spared : (k : Known) (ds : List RanOp) → AllHold instance low k ds → AllSpareAt top b k ds → AreSpared it ds
  all_spared k [] is spare d there = absurd there
  all_spared k (d ∷ more) is spare e (inl same) = subst (SparesIt it) (sym same) (spared k d is.0 spare.0)
  all_spared k (d ∷ more) is spare e (inr later) = all_spared (known_after top k d) more is.1 spare.1 e later

  gives : (k : Known) (d : RanOp) → HoldsAt instance low k d → ((r : Reads n b.place d.context d.item d.result) → GivesIt it d.context d.item d.result r) → GivesAt b k d
  gives k d is read known m r =
      let seat = is.holds.seated.at_current b.handle known in
      let same : n ≡ m = same_number instance low b.handle n seat.0 its seat.1 ∙ some_same d.context.current seat.0 m seat.2 r.at in
      subst (λ m. (r : Reads m b.place d.context d.item d.result) → GivesIt (in_file m b) d.context d.item d.result r) same read r

  reads_back : (k : Known) (ds : List RanOp) → AllHold instance low k ds → StandsWhile it ds → ReadsBack top b k ds
  reads_back k [] is while = tt
  reads_back k (d ∷ more) is while =
      (gives k d is.0 while.0.read, λ spares. reads_back (known_after top k d) more is.1 (while.1 (spared k d is.0 spares)).1)

  back_through : (names : List KnownName) (s : ServerState) (records : List Arrival) → HoldsIn instance low names s → StaysWritten it s records
      → ReadsBackThrough top b names s records
  back_through names s [] is stays = tt
  back_through names s (c ∷ more) is stays =
      let one = one_record instance low names s c is in (
        reads_back (starts names) (ops_of s c) one.0 stays.0,
        λ spare. back_through (names_after top names s c) (state_after s c) more one.1 (stays.1 (all_spared (starts names) (ops_of s c) one.0 spare)),
      )

-- What is known behind records, and behind operations.

pub held_behind : (instance : ℕ) (low : instance < 2 ^ 32) (names : List KnownName) (s : ServerState) (records : List Arrival) → HoldsIn instance low names s
    → HoldsIn instance low (names_behind (root_of instance) names s records) (state_after_all s records)
held_behind instance low names s [] is = is
held_behind instance low names s (c ∷ more) is =
    held_behind instance low (names_after (root_of instance) names s c) (state_after s c) more (one_record instance low names s c is).1

pub held_back : (instance : ℕ) (low : instance < 2 ^ 32) (k : Known) (front back : List RanOp) → AllHold instance low k (front ++ back)
    → AllHold instance low (known_after_all (root_of instance) k front) back
held_back instance low k [] back is = is
held_back instance low k (d ∷ front) back is = held_back instance low (known_after (root_of instance) k d) front back is.1

pub bytes_follow : BytesFollow
bytes_follow start low earlier c b n front write back same known brings =
    let first = new_state start in
    let s = reached start earlier in
    let top = root_of start.instance in
    let names = names_behind top [] first earlier in
    let k = known_after_all top (starts names) front in
    let here = held_behind start.instance low [] first earlier (first_holds start.instance low start refl) in
    let one = one_record start.instance low names s c here in
    let at = held_back start.instance low (starts names) front (write ∷ back) (subst (AllHold start.instance low (starts names)) same one.0) in
    let seat = at.0.holds.seated.at_current b.handle known in
    let its : IsHandleOf start.instance b.handle n =
    subst (IsHandleOf start.instance b.handle) (some_same write.context.current seat.0 n seat.2 brings.over.at) seat.1 in
    let stay = bytes_stay start earlier c (in_file n b) front write back same brings in (
      reads_back start.instance low b n its (known_after top k write) back at.1 stay.0,
      λ spare more. back_through start.instance low b n its (names_after top names s c) (state_after s c) more one.1
          (stay.1 (all_spared start.instance low b n its (known_after top k write) back at.1 spare) more),
    )
