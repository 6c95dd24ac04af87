-- The run in which compounds are given up, computed.
use Rattle.std.proofs.Common.{◌≡◌, inl, inr, ℕ, ◌<◌, ◌^◌, [], ◌∷◌, refl, sym, ◌∙◌, ap, subst, arith}
use Rattle.nfs_xdr.specs.Tables.{In}
use Rattle.nfs_slots.specs.Slot.{unused_slot}
use Rattle.nfs_promises.specs.{Runs.Requests.words, Network.{Endpoint.Compound, ExactlyOnce.{Packet, RanCompound, Next, Instead}, ByNumber.Happens}}
use Rattle.nfs_promises.specs.Network.{LostReply.{place, callers, compound, packet, answer, outset, done}, GivenUp.{other, other_packet, other_done, events}}
use Rattle.nfs_promises.specs.Network.{GivenUp.IsGivenUp, ThisServer.{ReplyReader, Bears}}
use Rattle.nfs_promises.proofs.{Network.{ThisServer.{found, found_by, no_bytes}, LostReply.is_bytes}, Runs.Computing.computing}

-- what each result bears
bears : (number : ℕ) → number < 2 ^ 32 → Bears (answer 0 number).result (record { place = place; number = number })
unfolding computing
bears number small = (
  words (7 ∷ 1 ∷ 0 ∷ 1 ∷ []),
  refl,
  record {
    value = (0, ([], 1));
    rest = words (3 ∷ 3 ∷ 0 ∷ []);
    stands = refl;
    fits = (omega arith, ((omega arith, no_bytes), (omega arith, (tt, (tt, ((refl, is_bytes _ refl), (small, omega arith)))))));
  },
)

of_number : (c d : Compound) (n : ℕ) → (c.number ≡ n → ⊥) → d ≡ c → d.number ≡ n → ⊥
of_number c d n other same e = other (sym (ap (λ (y : Compound). y.number) same) ∙ e)

of_xid : (q r : Packet) (n : ℕ) → (q.heading.xid ≡ n → ⊥) → r ≡ q → r.heading.xid ≡ n → ⊥
of_xid q r n other same e = other (sym (ap (λ (y : Packet). y.heading.xid) same) ∙ e)

-- one compound was sent under number 2
second : (d : Compound) → In d (compound 1 ∷ compound 2 ∷ []) → d.number ≡ 2 → d ≡ compound 2
second d (inl same) e = absurd (of_number (compound 1) d 2 (λ k. cc) same e)
second d (inr (inl same)) e = same
second d (inr (inr none)) e = absurd none

-- and one under number 4
fourth : (d : Compound) → In d (compound 1 ∷ compound 2 ∷ compound 3 ∷ compound 4 ∷ other ∷ compound 4 ∷ []) → d.number ≡ 4 → d ≡ compound 4
fourth d (inl same) e = absurd (of_number (compound 1) d 4 (λ k. cc) same e)
fourth d (inr (inl same)) e = absurd (of_number (compound 2) d 4 (λ k. cc) same e)
fourth d (inr (inr (inl same))) e = absurd (of_number (compound 3) d 4 (λ k. cc) same e)
fourth d (inr (inr (inr (inl same)))) e = same
fourth d (inr (inr (inr (inr (inl same))))) e = absurd (of_number other d 4 (λ k. cc) same e)
fourth d (inr (inr (inr (inr (inr (inl same)))))) e = same
fourth d (inr (inr (inr (inr (inr (inr none)))))) e = absurd none

-- and one under xid 7
seventh : (q : Packet) → In q (other_packet ∷ packet 6 4 ∷ packet 5 3 ∷ packet 4 2 ∷ packet 3 1 ∷ []) → q.heading.xid ≡ 7 → q.heading.compound ≡ other
seventh q (inl same) e = ap (λ (y : Packet). y.heading.compound) same
seventh q (inr (inl same)) e = absurd (of_xid (packet 6 4) q 7 (λ k. cc) same e)
seventh q (inr (inr (inl same))) e = absurd (of_xid (packet 5 3) q 7 (λ k. cc) same e)
seventh q (inr (inr (inr (inl same)))) e = absurd (of_xid (packet 4 2) q 7 (λ k. cc) same e)
seventh q (inr (inr (inr (inr (inl same))))) e = absurd (of_xid (packet 3 1) q 7 (λ k. cc) same e)
seventh q (inr (inr (inr (inr (inr none))))) e = absurd none

-- the numbers of which a result was accepted

below : (x d : RanCompound) (n : ℕ) → x.compound.number < n → d ≡ x → d.compound.number < n
below x d n less same = subst (λ (y : RanCompound). y.compound.number < n) (sym same) less

above_two : (d : RanCompound) → In d (done 2 ∷ []) → d.compound.number < 3
above_two d (inl same) = below (done 2) d 3 (omega arith) same
above_two d (inr none) = absurd none

above_three : (d : RanCompound) → In d (done 2 ∷ other_done ∷ []) → d.compound.number < 4
above_three d (inl same) = below (done 2) d 4 (omega arith) same
above_three d (inr (inl same)) = below other_done d 4 (omega arith) same
above_three d (inr (inr none)) = absurd none

happens : Happens callers (outset found).machine (outset found) events
unfolding computing
happens = (
  record { bytes = is_bytes _ refl; reads = refl; place = inl refl; ready = λ none. inl (unused_slot, refl, refl, refl); next = Next refl; small = omega arith },
  (
    inl refl,
    (
      record { bytes = is_bytes _ refl; reads = refl; place = inl refl; ready = λ none. absurd cc; next = Next refl; small = omega arith },
      (
        inl refl,
        (
          record { place = inl refl; caller = 9; sent = inl refl; waits = λ e. cc; last = (compound 1 ∷ [], refl); numbered = bears 2 (omega arith); own = inl second },
          (
            record { bytes = is_bytes _ refl; reads = refl; place = inl refl; ready = λ none. absurd cc; next = Next refl; small = omega arith },
            (
              record { bytes = is_bytes _ refl; reads = refl; place = inl refl; ready = λ none. absurd cc; next = Next refl; small = omega arith },
              (
                inl refl,
                (
                  record {
                    bytes = is_bytes _ refl;
                    reads = refl;
                    place = inl refl;
                    ready = λ none. absurd cc;
                    next = Instead (omega arith) (omega arith) above_two;
                    small = omega arith;
                  },
                  (
                    inl refl,
                    (
                      record {
                        place = inl refl;
                        caller = 9;
                        sent = inl refl;
                        waits = λ e. cc;
                        last = (compound 1 ∷ compound 2 ∷ compound 3 ∷ compound 4 ∷ [], refl);
                        numbered = bears 3 (omega arith);
                        own = inr (λ q i who e. seventh q i e);
                      },
                      (
                        inr (inr (inl refl)),
                        (
                          record {
                            bytes = is_bytes _ refl;
                            reads = refl;
                            place = inl refl;
                            ready = λ none. absurd cc;
                            next = Instead (omega arith) (omega arith) above_three;
                            small = omega arith;
                          },
                          (
                            inl refl,
                            (
                              record {
                                place = inl refl;
                                caller = 9;
                                sent = inl refl;
                                waits = λ e. cc;
                                last = (compound 1 ∷ compound 2 ∷ compound 3 ∷ compound 4 ∷ other ∷ [], refl);
                                numbered = bears 4 (omega arith);
                                own = inl fourth;
                              },
                              tt,
                            ),
                          ),
                        ),
                      ),
                    ),
                  ),
                ),
              ),
            ),
          ),
        ),
      ),
    ),
  ),
)

computed : IsGivenUp found
unfolding computing
computed = record { happens = happens; line = refl }

pub is_given_up : (reader : ReplyReader) → IsGivenUp reader.find
is_given_up reader = subst IsGivenUp (found_by reader) computed
