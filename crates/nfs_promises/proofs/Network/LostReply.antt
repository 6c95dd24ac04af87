-- The exchange in which a reply is lost, computed.
use Rattle.std.proofs.Common.{◌≡◌, inl, inr, ℕ, zero, suc, Bool, true, List, [], ◌∷◌, ◌++◌, get_or, take, None, refl, sym, ◌∙◌, ap, subst, arith, ltb-true}
use Rattle.std.proofs.lemmas.Bool.{and_parts}
use Rattle.nfs_xdr.specs.{Tables.In, Text.IsBytes}
use Rattle.std.specs.Prelude.{◌&&◌, nat_lt, ◌<◌}
use Rattle.nfs_xdr.specs.Spelling as spelling
use Rattle.nfs_slots.specs.Slot.{unused_slot}
use Rattle.nfs_promises.specs.{Runs.{Requests.words, Started.usual}, Network.{Endpoint.{Place, Compound, Heading, Arrival}, ExactlyOnce.{Packet, Next}}}
use Rattle.nfs_promises.specs.Network.{ExactlyOnce.{NetworkEvent, Resends, Arrives, Accepts, IsUnused}, PerfectWire.{wire, done_on}, RealTime.RunsBehind}
use Rattle.nfs_promises.specs.Network.{RealTime.{IsAtomic, WasNotSent}, LostReply.{before, here, place, callers, compound, packet, answer, first, second}}
use Rattle.nfs_promises.specs.Network.{LostReply.{outset, done, brought, IsAccepted, IsOverAWire}, ThisServer.{ReplyReader, IsSequenced}}
use Rattle.nfs_promises.proofs.Network.{ThisServer.{found, finding, found_by, no_bytes}, ServerKeepsSlots.keeps_slots, ExpiryAtMoments.keeps_time}
use Rattle.nfs_promises.proofs.{Network.{RealTime.atomic, XidsSuffice.happens}, Runs.Computing.computing}

-- each number is a byte
abbrev small : List ℕ → Bool
small [] = true
small (b ∷ bytes) = nat_lt b 256 && small bytes

pub is_bytes : (bytes : List ℕ) → small bytes ≡ true → IsBytes bytes
is_bytes bytes e = record { each = each bytes e }
  where
    each : (bytes : List ℕ) → small bytes ≡ true → (i : ℕ) → get_or bytes i 0 < 256
    each [] e i = omega arith
    each (b ∷ bytes) e zero = ltb-true b 256 (and_parts (nat_lt b 256) (small bytes) e).0
    each (b ∷ bytes) e (suc i) = each bytes (and_parts (nat_lt b 256) (small bytes) e).1 i

-- a packet of another xid
apart : (q : Packet) (xid number : ℕ) (h : Heading) → (xid ≡ h.xid → ⊥) → q ≡ packet xid number → q.heading.xid ≡ h.xid
    → (q.heading.place ≡ h.place) × (q.heading.compound ≡ h.compound)
apart q xid number h other same e = absurd (other (sym (ap (λ (q : Packet). q.heading.xid) same) ∙ e))

-- its SEQUENCE is NFS4_OK
is_good : (number : ℕ) → IsSequenced (answer 0 number).result
unfolding spelling.number
is_good number = record {
  value = (0, ([], 1));
  rest = words (7 ∷ 1 ∷ 0 ∷ 1 ∷ number ∷ 1 ∷ 3 ∷ 3 ∷ 0 ∷ []);
  stands = refl;
  fits = (omega arith, ((omega arith, no_bytes), (omega arith, (tt, (tt, tt)))));
}

computed_accepted : IsAccepted found
unfolding computing
computed_accepted = record {
  unused = (unused_slot, refl, refl, refl);
  schedule = (
    record {
      bytes = is_bytes _ refl;
      reads = refl;
      place = inl refl;
      next = Next refl;
      small = omega arith;
      xid = λ q none. absurd none;
    },
    (
      inl refl,
      (
        record { place = inl refl; sent = inl refl; last = ([], refl); xid = inl refl; sequenced = is_good 1 },
        (
          record {
            bytes = is_bytes _ refl;
            reads = refl;
            place = inl refl;
            next = Next refl;
            small = omega arith;
            xid = λ q i who e. elim i [ inl same ↦ apart q 3 1 (packet 4 2).heading (λ k. cc) same e | inr none ↦ absurd none ];
          },
          (
            inl refl,
            (
              record {
                bytes = is_bytes _ refl;
                reads = refl;
                place = inl refl;
                outstanding = λ e. cc;
                last = (compound 1 ∷ [], refl);
                xid = λ q i who e. elim i [
                  | inl same ↦ apart q 4 2 (packet 5 2).heading (λ k. cc) same e
                  | inr older ↦ elim older [ inl same ↦ apart q 3 1 (packet 5 2).heading (λ k. cc) same e | inr none ↦ absurd none ]
                ];
              },
              (
                inl refl,
                (record { place = inl refl; sent = inl refl; last = (compound 1 ∷ [], refl); xid = inl refl; sequenced = is_good 2 }, tt),
              ),
            ),
          ),
        ),
      ),
    ),
  );
  line = refl;
}

-- and so it is by whatever finds answers
pub is_accepted : (reader : ReplyReader) → IsAccepted reader.find
is_accepted reader = subst IsAccepted (found_by reader) computed_accepted

computed : (wire (here found) (outset found).machine (first ++ second) ≡ brought) × (done_on (here found) place (outset found).machine brought ≡ done 1 ∷ done 2 ∷ [])
unfolding computing
computed = (refl, refl)

unused : (p : Place) → In p callers.places → IsUnused (here found) (outset found).machine p
unused p (inl same) = subst (IsUnused (here found) (outset found).machine) (sym same) computed_accepted.unused
unused p (inr none) = absurd none

is_atomic : IsAtomic (here found) (outset found).machine callers (first ++ second)
is_atomic = atomic (here found) (keeps_slots finding usual) (keeps_time found usual) before callers (first ++ second)
    (happens (here found) (keeps_slots finding usual) before callers (first ++ second) unused computed_accepted.schedule)

one_is_two : (compound 1).number ≡ (compound 2).number → ⊥
one_is_two e = cc

computed_wire : IsOverAWire found
computed_wire = record {
  brings = computed.0;
  answers = computed.1;
  alike = is_atomic.one_list;
  order = subst (λ (records : List Arrival). RunsBehind (here found) (outset found).machine records place (done 1) place (compound 2)) computed.0
      (is_atomic.in_time (take 2 first) [] back place (compound 1) (answer 3 1) (packet 4 2) refl not_before);
}
  where
    back : List NetworkEvent
    back = Arrives (packet 4 2) 103 None ∷ Resends (packet 5 2) ∷ Arrives (packet 5 2) 104 None ∷ Accepts place (compound 2) (answer 5 2) ∷ []

    not_before : WasNotSent (packet 4 2) (take 2 first)
    not_before q (inl e) at same = one_is_two (ap (λ (c : Compound). c.number) (sym (ap (λ (p : Packet). p.heading.compound) e) ∙ same))
    not_before q (inr none) at same = none

pub is_over_a_wire : (reader : ReplyReader) → IsOverAWire reader.find
is_over_a_wire reader = subst IsOverAWire (found_by reader) computed_wire
