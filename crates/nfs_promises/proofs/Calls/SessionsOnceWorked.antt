-- A CREATE_SESSION and its repeat, computed.
use Rattle.std.proofs.Common.{◌≡◌, ℕ, ◌+◌, ◌*◌, ◌^◌, List, get_or, refl, sym, ◌∙◌, ap, arith}
use Rattle.std.proofs.lemmas.Bool.{false≢true}
use Rattle.std.specs.Prelude.{is_some}
use Rattle.nfs_sessions.specs.Sessions.{SessionTable}
use Rattle.nfs_exec.specs.Runs.OneSession.{MakesOne}
use Rattle.nfs_promises.specs.{Runs.{Points.{state_after, before}}}
use Rattle.nfs_promises.specs.Calls.SessionsOnceWorked.{outset, creates, id, IsGivenOnce}
use Rattle.nfs_promises.proofs.Runs.Computing.{computing}

-- what leaves the sessions as they were made none
unmade : (client : ℕ) (t : SessionTable) → MakesOne client id t t → ⊥
unmade client t made = absurd (false≢true (sym (ap is_some made.absent) ∙ made.there))

pub is_given_once : IsGivenOnce
unfolding computing
is_given_once = record {
  first = record { event = _; asks = refl; gives = record { request = _; who = _; size = _; now = _; choice = _; is = refl; asked = _; more = _; first = refl; for = refl; with = refl; behind = _; answers = refl; long = refl } };
  few = refl;
  second = record { event = _; asks = refl; gives = record { request = _; who = _; size = _; now = _; choice = _; is = refl; asked = _; more = _; first = refl; for = refl; with = refl; behind = _; answers = refl; long = refl } };
  other = λ same. differ (ap (λ (bytes : List ℕ). get_or bytes 15 0) same);
  third = record { event = _; asks = refl; gives = record { request = _; who = _; size = _; now = _; choice = _; is = refl; asked = _; more = _; first = refl; for = refl; with = refl; behind = _; answers = refl; long = refl } };
  none = unmade (7 * 2 ^ 32 + 1) (before outset creates).sessions;
  twice = unmade (7 * 2 ^ 32 + 1) (state_after outset creates).machine.sessions;
}
  where
    differ : ◌≡◌ {A = ℕ} 2 1 → ⊥
    differ e = absurd (omega arith)
