-- Each open that stands was granted in some record, and nothing has ended it since.
use Rattle.std.proofs.Common.{◌≡◌, ℕ, ◌<◌, not, true, List, [], ◌∷◌, ◌++◌, refl, sym, ◌∙◌, ap, subst}
use Rattle.std.proofs.{Common.{append_assoc, append-nil}, lemmas.Bool.{eq-eqb, false≢true}}
use Rattle.std.specs.Prelude.{◌^◌, ◌==◌}
use Rattle.nfs_xdr.proofs.Lists.{any_in, in_filter}
use Rattle.nfs_opens.specs.{declared.records.OpenState.OpenState, Table.Table}
use Rattle.nfs_names.specs.{declared.start.Start.Start, Ending.has_open}
use Rattle.nfs_names.specs.State as of_store
use Rattle.nfs_files.specs.OpenTold.{OpenTold, Bits, IsOpenWith}
use Rattle.nfs_exec.specs.Runs.Ops.{RanOp}
use Rattle.nfs_promises.specs.Locks.{NoIsTrue.IsInLease, OpenGranted.{LeavesOpen, AllLeaveOpen, bits_through, IsOpenSince, IsGrantedOpen, Before, Within}}
use Rattle.nfs_promises.specs.{Network.Endpoint.Arrival, Runs.{OpenHeld.bits_left, Points.{state_after, state_after_all, reached, before, asked_by, ops_of}}}
use Rattle.nfs_serve.specs.{Step.{ServerState, new_state}}
use Rattle.nfs_promises.proofs.Locks.{ReplacedByRepeat.{IsHad, is_alone_by}, Traced.{Stood, Given, asked_until, so_before}}
use Rattle.nfs_promises.proofs.Locks.{OpenTraced.{open_staying, open_trace, open_traced}, NoneOutlives.renewed_in_time}
use Rattle.nfs_promises.proofs.{Locks.OneWriterByHandle.after_both, Runs.{LaterRecords.whole_at, Points.left}}

-- Records.

-- with some bits
abbrev IsSome : OpenTold → Table → Type 0
IsSome k t = (b : Bits) × IsOpenWith k b t

has_its_open : (k : OpenTold) (b : Bits) (s : of_store.State) → IsOpenWith k b s.opens → has_open s k.client ≡ true
has_its_open k b s is = any_in (λ (o : OpenState). o.client == k.client) s.opens.opens is.state is.there (eq-eqb is.state.client k.client is.client)

open_had : (k : OpenTold) → IsHad k.client (IsSome k)
open_had k = record {
  opened = λ s table is. has_its_open k is.0 s is.1;
  staying = λ t stays is. (is.0, open_staying k is.0 t stays is.1);
  gone = λ t is.
      (let passes = (in_filter (λ (o : OpenState). not (o.client == k.client)) t.opens is.1.state is.1.there).1 in
      false≢true (sym (ap not (eq-eqb is.1.state.client k.client is.1.client)) ∙ passes));
}

through_more : (n : ℕ) (b : Bits) (s : ServerState) (records : List Arrival) (c : Arrival)
    → bits_through n b s (records ++ c ∷ []) ≡ bits_left n (bits_through n b s records) (ops_of (state_after_all s records) c)
through_more n b s [] c = refl
through_more n b s (r ∷ more) c = through_more n (bits_left n b (ops_of s r)) (state_after s r) more c

module _ (start : Start) (small : start.instance < 2 ^ 32) (k : OpenTold) where
  in_lease : (b : Bits) (records : List Arrival) (c : Arrival) → IsOpenWith k b (before (reached start records) c).store.opens
      → IsInLease start k.client records c
  in_lease b records c is =
      let time = renewed_in_time start k.client records c small (has_its_open k b (before (reached start records) c).store is) in
      (time.last, time.renewed, time.within)

  leave_more : (records between : List Arrival) (c : Arrival) → AllLeaveOpen start k records between
      → LeavesOpen start k (records ++ between) c → AllLeaveOpen start k records (between ++ c ∷ [])
  leave_more records [] c all leaves = (subst (λ rs. LeavesOpen start k rs c) (append-nil records) leaves, tt)
  leave_more records (b ∷ between) c all leaves = (
    all.0,
    leave_more (records ++ b ∷ []) between c all.1 (subst (λ rs. LeavesOpen start k rs c) (sym (append_assoc records (b ∷ []) between)) leaves),
  )

  one_more : (had b : Bits) (records : List Arrival) (c : Arrival) → IsOpenSince start k had records → LeavesOpen start k records c
      → bits_left k.number had (ops_of (reached start records) c) ≡ b → IsOpenSince start k b (records ++ c ∷ [])
  one_more had b records c g leaves bits =
      let whole : (g.earlier ++ g.arrival ∷ []) ++ g.between ≡ records = append_assoc g.earlier (g.arrival ∷ []) g.between ∙ sym g.all in
      let outset = bits_left k.number g.asked g.back in
      let at = reached start (g.earlier ++ g.arrival ∷ []) in
      let there : state_after_all at g.between ≡ reached start records =
      sym (after_both (new_state start) (g.earlier ++ g.arrival ∷ []) g.between) ∙ ap (reached start) whole in
      record {
        earlier = g.earlier;
        arrival = g.arrival;
        between = g.between ++ c ∷ [];
        all = ap (λ rs. rs ++ c ∷ []) g.all ∙ append_assoc g.earlier (g.arrival ∷ g.between) (c ∷ []);
        front = g.front;
        first = g.first;
        back = g.back;
        ops = g.ops;
        asked = g.asked;
        grants = g.grants;
        unclosed = g.unclosed;
        left = leave_more (g.earlier ++ g.arrival ∷ []) g.between c g.left (subst (λ rs. LeavesOpen start k rs c) (sym whole) leaves);
        bits = through_more k.number outset at g.between c
            ∙ (ap (λ had. bits_left k.number had (ops_of (state_after_all at g.between) c)) g.bits
            ∙ (ap (λ s. bits_left k.number had (ops_of s c)) there ∙ bits));
      }

  -- each open that stands before a record was granted in one before
  granted_before : (records : List Arrival) (c : Arrival) (b : Bits) → IsOpenWith k b (before (reached start records) c).store.opens → IsOpenSince start k b records
  granted_before = so_before (open_trace k) (open_traced k) start (λ b is. absurd is.there) (λ records b. IsOpenSince start k b records)
      (λ records c front first back asked b same grants unclosed bits. record {
        earlier = records;
        arrival = c;
        between = [];
        all = refl;
        front = front;
        first = first;
        back = back;
        ops = same;
        asked = asked;
        grants = grants;
        unclosed = unclosed;
        left = tt;
        bits = bits;
      })
      (λ records c had b since stood unclosed bits here. one_more had b records c since
      (record { lasts = in_lease had records c stood; unclosed = unclosed; alone = is_alone_by k.client (IsSome k) (open_had k) start small records c (b, here) }) bits)

  -- and so was each that stands before an operation
  pub open_granted : (b : Bits) (records : List Arrival) (c : Arrival) (until : List RanOp) (d : RanOp) (behind : List RanOp)
      → ops_of (reached start records) c ≡ until ++ d ∷ behind → IsOpenWith k b d.before.store.opens → IsGrantedOpen start k b records c until
  open_granted b records c until d behind same is =
      let s = reached start records in
      elim (asked_until (open_trace k) (open_traced k) b (before s c) (asked_by s c) until d behind (whole_at start records c) same is) [
        | Given front first back asked at grants unclosed bits ↦ Within front first back asked at grants unclosed bits
        | Stood had stood unclosed bits ↦ Before had (granted_before records c had stood) (in_lease had records c stood) unclosed bits
      ]
