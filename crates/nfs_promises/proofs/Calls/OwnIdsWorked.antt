-- Ids of two clients, and two servers that lie about them, computed.
use Rattle.std.proofs.Common.{◌≡◌, ℕ, List, [], ◌∷◌, get_or, refl, ap, arith}
use Rattle.nfs_promises.specs.Calls.OwnIdsWorked.{first, others, last, creates, creates_other, five, one_verifier, client, session, AreOwn}
use Rattle.nfs_promises.proofs.Runs.Computing.{computing}

pub are_own : AreOwn
unfolding computing
are_own = record {
  one = record { asked = _; owner_is = refl; verifier_is = refl; small = omega arith; told = record { request = _; who = _; size = _; now = _; choice = _; is = refl; more = _; left = refl; behind = _; answers = refl } };
  another = record { asked = _; owner_is = refl; verifier_is = refl; small = omega arith; told = record { request = _; who = _; size = _; now = _; choice = _; is = refl; more = _; left = refl; behind = _; answers = refl } };
  made = record { asked = _; of = refl; eight = omega arith; small = omega arith; long = refl; told = record { request = _; who = _; size = _; now = _; choice = _; is = refl; more = _; left = refl; behind = _; answers = refl } };
  made_other = record { asked = _; of = refl; eight = omega arith; small = omega arith; long = refl; told = record { request = _; who = _; size = _; now = _; choice = _; is = refl; more = _; left = refl; behind = _; answers = refl } };
  lie = λ holds. (let same = holds [] first others last (0x41 ∷ []) one_verifier (0x45 ∷ []) one_verifier (client 1)
      (record { asked = _; owner_is = refl; verifier_is = refl; small = omega arith; told = record { request = _; who = _; size = _; now = _; choice = _; is = refl; more = _; left = refl; behind = _; answers = refl } })
      (record { asked = _; owner_is = refl; verifier_is = refl; small = omega arith; told = record { request = _; who = _; size = _; now = _; choice = _; is = refl; more = _; left = refl; behind = _; answers = refl } }) in
      differ (ap (λ (bytes : List ℕ). get_or bytes 0 0) same.0));
  session_lie = λ holds. (let same = holds five creates [] creates_other (client 1) (client 2) session
      (record { asked = _; of = refl; eight = omega arith; small = omega arith; long = refl; told = record { request = _; who = _; size = _; now = _; choice = _; is = refl; more = _; left = refl; behind = _; answers = refl } })
      (record { asked = _; of = refl; eight = omega arith; small = omega arith; long = refl; told = record { request = _; who = _; size = _; now = _; choice = _; is = refl; more = _; left = refl; behind = _; answers = refl } }) in
      apart same);
}
  where
    differ : ◌≡◌ {A = ℕ} 0x45 0x41 → ⊥
    differ e = absurd (omega arith)

    apart : client 2 ≡ client 1 → ⊥
    apart e = absurd (omega arith)
