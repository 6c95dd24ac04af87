-- The run in which a write is seen, computed.
use Rattle.std.proofs.Common.{◌≡◌, inl, inr, ◌+◌, ◌*◌, ◌^◌, List, [], ◌∷◌, ◌++◌, map, take, None, refl, sym, ◌∙◌, ap, subst, arith}
use Rattle.nfs_xdr.specs.Tables.{In}
use Rattle.nfs_slots.specs.Slot.{unused_slot}
use Rattle.nfs_promises.specs.{Runs.{Requests.words, Started.usual}, Network.{Endpoint.{Place, Arrival}, ExactlyOnce.{Packet, Next, NetworkEvent, Arrives}}}
use Rattle.nfs_promises.specs.Network.{ExactlyOnce.{Asks, ended}, ByNumber.Happens, PerfectWire.{wire, done_on}, RealTime.{IsAtomic, RunsBehind, WasNotSent}}
use Rattle.nfs_promises.specs.Network.SeenWrite.{before, here, slot_of, callers, write, read, packet, written, seen, accepts, first, joins, second, outset}
use Rattle.nfs_promises.specs.Network.{SeenWrite.{brought, IsSeen}, ThisServer.{ReplyReader, Bears}}
use Rattle.nfs_promises.proofs.Network.{ThisServer.{found, finding, found_by, no_bytes}, LostReply.is_bytes, ServerKeepsSlots.keeps_slots}
use Rattle.nfs_promises.proofs.{Network.{ExpiryAtMoments.keeps_time, RealTime.atomic}, Runs.Computing.computing}

-- what each result bears

write_bears : Bears written.result (record { place = slot_of 1; number = 1 })
unfolding computing
write_bears = (
  words (7 ∷ 1 ∷ 0 ∷ 1 ∷ []),
  refl,
  record {
    value = (0, ([], 4));
    rest = words (3 ∷ 3 ∷ 0 ∷ 24 ∷ 0 ∷ 15 ∷ 0 ∷ 38 ∷ 0 ∷ 4 ∷ 2 ∷ 7 ∷ 0 ∷ []);
    stands = refl;
    fits = (omega arith, ((omega arith, no_bytes), (omega arith, (tt, (tt, ((refl, is_bytes _ refl), (omega arith, omega arith)))))));
  },
)

read_bears : Bears seen.result (record { place = slot_of 2; number = 1 })
unfolding computing
read_bears = (
  words (7 ∷ 2 ∷ 0 ∷ 2 ∷ []),
  refl,
  record {
    value = (0, ([], 4));
    rest = words (3 ∷ 3 ∷ 0 ∷ 24 ∷ 0 ∷ 15 ∷ 0 ∷ 25 ∷ 0 ∷ 1 ∷ 4 ∷ 0x7365_656e ∷ []);
    stands = refl;
    fits = (omega arith, ((omega arith, no_bytes), (omega arith, (tt, (tt, ((refl, is_bytes _ refl), (omega arith, omega arith)))))));
  },
)

-- one compound was sent on the slot
pub only : {X : Type 0} {x : X} (y : X) → In y (x ∷ []) → y ≡ x
only y (inl same) = same
only y (inr none) = absurd none

happens : Happens callers (outset found).machine (outset found) (first ++ second)
unfolding computing
happens = (
  record {
    bytes = is_bytes _ refl;
    reads = refl;
    place = inl refl;
    ready = λ none. inl (unused_slot, refl, refl, refl);
    next = Next refl;
    small = omega arith;
  },
  (
    inl refl,
    (
      record { bytes = is_bytes _ refl; reads = refl; place = inl refl; waits = λ e. cc; last = ([], refl) },
      (
        inl refl,
        (
          record { place = inl refl; caller = 8; sent = inl refl; waits = λ e. cc; last = ([], refl); numbered = write_bears; own = inl (λ d i same. only d i) },
          (
            (is_bytes _ refl, refl),
            (
              (is_bytes _ refl, refl),
              (
                record {
                  bytes = is_bytes _ refl;
                  reads = refl;
                  place = inr (inl refl);
                  ready = λ none. inr (unused_slot, refl, refl, refl);
                  next = Next refl;
                  small = omega arith;
                },
                (
                  inr (inr (inl refl)),
                  (
                    inl refl,
                    (record { place = inr (inl refl); caller = 8; sent = inl refl; waits = λ e. cc; last = ([], refl); numbered = read_bears; own = inl (λ d i same. only d i) }, tt),
                  ),
                ),
              ),
            ),
          ),
        ),
      ),
    ),
  ),
)

computed : (((ended callers (outset found) (first ++ second)).lines (slot_of 2)).accepted ≡ seen ∷ [])
    × (wire (here found) (outset found).machine (first ++ second) ≡ brought) × (done_on (here found) (slot_of 2) (outset found).machine brought ≡ seen ∷ [])
unfolding computing
computed = (refl, refl, refl)

is_atomic : IsAtomic (here found) (outset found).machine callers (first ++ second)
is_atomic = atomic (here found) (keeps_slots finding usual) (keeps_time found usual) before callers (first ++ second) happens

computed_seen : IsSeen found
computed_seen = record {
  happens = happens;
  accepted = computed.0;
  brings = computed.1;
  answers = computed.2;
  alike = is_atomic.one_list;
  order = subst (λ (records : List Arrival). RunsBehind (here found) (outset found).machine records (slot_of 1) written (slot_of 2) read) computed.1
      (is_atomic.in_time front middle back (slot_of 1) write (record { xid = 16; result = written.result }) (packet 2 1 read) refl not_before);
}
  where
    front : List NetworkEvent
    front = take 4 first

    middle : List NetworkEvent
    middle = map (Asks 8) joins

    back : List NetworkEvent
    back = Arrives (packet 1 1 write) 109 None ∷ Arrives (packet 2 1 read) 110 None ∷ accepts 2 seen ∷ []

    -- it was sent on another slot
    not_before : WasNotSent (packet 2 1 read) front
    not_before q (inl e) at same = (
        let session : 7 * 2 ^ 32 + 1 ≡ 7 * 2 ^ 32 + 2 =
        ap (λ (p : Place). p.session.client) (sym (ap (λ (p : Packet). p.heading.place) e) ∙ at) in
        omega (arith, session))
    not_before q (inr none) at same = none

pub is_seen : (reader : ReplyReader) → IsSeen reader.find
is_seen reader = subst IsSeen (found_by reader) computed_seen
