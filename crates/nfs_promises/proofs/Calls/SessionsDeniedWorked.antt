-- The run of a session that ends, computed.
use Rattle.std.proofs.Common.{◌≡◌, ℕ, ◌+◌, ◌<◌, Bool, true, cond, List, [], ◌∷◌, ◌++◌, Some, refl, sym, ◌∙◌, ap, arith, inl, inr}
use Rattle.std.proofs.lemmas.Bool.{and_parts, false≢true, leb-true, not-true}
use Rattle.std.specs.Prelude.{◌^◌, ◌&&◌, nat_le, not}
use Rattle.nfs_xdr.specs.declared.status.Status.TheVariants.{BadSession}
use Rattle.nfs_compound.specs.{OpNum.op_number, declared.op_num.OpNum.OpNum}
use Rattle.nfs_compound.specs.declared.op_num.OpNum.TheVariants as Num
use Rattle.nfs_sessions.specs.{declared.id.SessionId.SessionId, Sessions.is_session}
use Rattle.nfs_exec.specs.{Runs.OneSession.MakesOne}
use Rattle.nfs_serve.specs.{Step.{ServerState, step}}
use Rattle.nfs_promises.specs.{Runs.{Requests.words, Points.{state_after, state_after_all, taken, before}}, Network.Endpoint.Arrival}
use Rattle.nfs_promises.specs.{Network.ThisServer.accepted_reply, Calls.SessionsDenied.{SaysFirst, IsBadSession, BySequence, ByDestroy, HasEnded, Made}}
use Rattle.nfs_promises.specs.Calls.{SessionStaysWorked.{id, forgetful}, SessionStays.ends_by, SessionsDeniedWorked.{known, creates, goes_on, too_late}}
use Rattle.nfs_promises.specs.{Calls.SessionsDeniedWorked.{destroys, destroys_again, restarts, hasty, IsLeft, EndsAreRefused}, Locks.LockKeptWorked.outset}
use Rattle.nfs_promises.specs.Locks.{LockKeptWorked.{locks, renewal, waits}, LockKept.{renews_by, replaces_by}}
use Rattle.nfs_promises.specs.Calls.SessionsOnceWorked as once
use Rattle.nfs_promises.proofs.{Runs.Computing.computing, Network.ThisServer.no_bytes}

makes : MakesOne id.client once.id (before known creates).sessions (state_after known creates).machine.sessions
unfolding computing
makes = record {
  session = id;
  spelled = refl;
  of = refl;
  absent = refl;
  there = refl;
  alone = λ s there. elim there [ inl same ↦ inr (ap (is_session id) same) | inr none ↦ absurd none ];
  others = λ s there mine. absurd there;
}

-- the reply NFS4ERR_BADSESSION, no tag, one operation: this one, NFS4ERR_BADSESSION
abbrev denial : OpNum → List ℕ
denial n = words (10052 ∷ 0 ∷ 1 ∷ op_number n ∷ 10052 ∷ [])

said : (n : OpNum) (s : ServerState) (c : Arrival) (xid : ℕ) → xid < 2 ^ 32 → (step s c.bytes c.now c.choice).reply ≡ Some ((accepted_reply xid).bytes ++ denial n)
    → SaysFirst n BadSession s c
unfolding computing
said n s c xid small sent = record {
  reply = (accepted_reply xid).bytes ++ denial n;
  sent = sent;
  answer = record { xid = xid; result = denial n };
  is = (refl, (small, (tt, (tt, ((omega arith, (omega arith, no_bytes)), tt)))));
  first = record { value = (10052, ([], 1)); rest = []; stands = refl; fits = (omega arith, ((omega arith, no_bytes), (omega arith, (tt, (tt, tt))))) };
}

-- So it can be tested: each record comes in time, and ends nothing.
abbrev lasts : SessionId → (lease last : ℕ) → ServerState → List Arrival → Arrival → Bool
lasts id lease last s [] d = nat_le (taken s d) (last + lease)
lasts id lease last s (c ∷ more) d =
    nat_le (taken s c) (last + lease)
    && (not (ends_by id s c)
    && (not (replaces_by id.client s c) && lasts id lease (cond (renews_by id.client s c) (taken s c) last) (state_after s c) more d))

late : (a b : ℕ) → nat_le a b ≡ true → b < a → ⊥
late a b test past = (let within = leb-true a b test in omega (arith, within, past))

not_ended : (id : SessionId) (lease last : ℕ) (s : ServerState) (records : List Arrival) (d : Arrival) → lasts id lease last s records d ≡ true
    → HasEnded id lease last s records d → ⊥
not_ended id lease last s [] d test past = late (taken s d) (last + lease) test past
not_ended id lease last s (c ∷ more) d test ended =
    let p = and_parts _ _ test in
    let q = and_parts _ _ p.1 in
    let r = and_parts _ _ q.1 in
    elim ended [
      | inr later ↦ not_ended id lease (cond (renews_by id.client s c) (taken s c) last) (state_after s c) more d r.1 later
      | inl here ↦ elim here [
        | inl past ↦ late (taken s c) (last + lease) p.0 past
        | inr other ↦ elim other [
          | inl ends ↦ false≢true (sym (not-true (ends_by id s c) q.0) ∙ ends)
          | inr replaced ↦ false≢true (sym (not-true (replaces_by id.client s c) r.0) ∙ replaced)
        ]
      ]
    ]

bad_renewal : (s : ServerState) → (step s renewal.bytes renewal.now renewal.choice).reply ≡ Some ((accepted_reply 4).bytes ++ denial Num.Sequence) → IsBadSession id s renewal
unfolding computing
bad_renewal s sent = BySequence _ refl refl (said Num.Sequence s renewal 4 (omega arith) sent)

pub is_left : IsLeft
unfolding computing makes
is_left = record {
  made = Made 1 once.id (record { event = _; asks = refl; gives = record { request = _; who = _; size = _; now = _; choice = _; is = refl; asked = _; more = _; first = refl; for = refl; with = refl; behind = _; answers = refl; long = refl } }) makes refl;
  left = not_ended id 90 101 outset (locks ∷ waits) goes_on refl;
  run_out = record { denied = BySequence _ refl refl (said Num.Sequence _ too_late 4 (omega arith) refl); ended = inr (omega arith) };
  destroyed = record { denied = bad_renewal (state_after_all outset (locks ∷ destroys ∷ [])) refl; ended = inr (inl (inr (inl refl))) };
  again = record {
    denied = ByDestroy _ _ _ _ refl refl refl refl (said Num.DestroySession _ destroys_again 5 (omega arith) refl);
    ended = inr (inl (inr (inl refl)));
  };
  restarted = record { denied = bad_renewal (state_after_all outset (locks ∷ restarts)) refl; ended = inr (inr (inl (inr (inr refl)))) };
  back = refl;
}

pub ends_are_refused : EndsAreRefused
unfolding computing
ends_are_refused = record {
  forgotten = (bad_renewal forgetful refl, λ past. omega (arith, past));
  early = (bad_renewal hasty refl, λ past. omega (arith, past));
  expired = λ d is. is refl;
}
