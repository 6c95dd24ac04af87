-- A lock state is of one lock owner, in every run.
use Rattle.std.proofs.Common.{◌≡◌, ◌≢◌, ℕ, ◌+◌, ◌≤◌, cond, List, [], ◌∷◌, ◌++◌, refl, sym, subst, inl, inr}
use Rattle.nfs_xdr.specs.Tables.{In}
use Rattle.nfs_exec.proofs.Runs.OneWalk.{in_back}
use Rattle.nfs_exec.specs.Runs.{Kept.{Kept, after_all}, LockHeld.{AreSpared, the_lock}}
use Rattle.nfs_serve.specs.Step.{ServerState, new_state}
use Rattle.nfs_promises.specs.{Runs.Points.{state_after, state_after_all, reached, taken, ops_of}, Network.Endpoint.Arrival}
use Rattle.nfs_promises.specs.Locks.{LockKeptWorked.locks, LockKept.{InTimeFor, renews_by}, LockOwners.{StatesHaveOneOwner, OnlyOneOwnerIsTold}}
use Rattle.nfs_promises.proofs.Runs.{LockStates.{Descends, descends_same, descends_kept}, OneOwner.are_one, LaterRecords.{op_done, first_there, runs_last, later_keeps}}
use Rattle.nfs_promises.proofs.{Runs.{LaterRecords.later_done, Points.{IsSound, sound_all, sound_new}}, Names.HandlesWorked.two, Locks.LockKept.only_one}

pub states_have_one_owner : StatesHaveOneOwner
states_have_one_owner start earlier c front first back more second same place =
    let s = reached start earlier in
    let sound : IsSound s = sound_all (new_state start) earlier (sound_new start) in
    let one = op_done s c sound first (first_there s c front first back same) in
    let two = later_done s c front first back more sound same second place in
    let t = first.behind.store.opens in
    are_one first second one.run one.behind two.run two.behind
    ((descends_kept t).run second two.run (later_keeps (λ s. Descends t s.opens) (descends_kept t) s c front first back more sound same (descends_same t) second place))

-- what comes in time ends in the state behind all records
pub end_of : (k : Kept) (client lease last : ℕ) (way : k.Way) (s : ServerState) (cs : List Arrival) (Then : k.Way → ℕ → ServerState → Type 0) → InTimeFor k client lease last way s cs Then
    → (to : k.Way) × (n : ℕ) × Then to n (state_after_all s cs)
end_of k client lease last way s [] Then all = (way, last, all)
end_of k client lease last way s (c ∷ more) Then all =
    end_of k client lease (cond (renews_by client s c) (taken s c) last) (after_all k.after way (ops_of s c)) (state_after s c) more Then all.3

pub only_one_owner : OnlyOneOwnerIsTold
only_one_owner start earlier c k front first back between d until second behind n w told locks o p same spared all mine its range two over =
    let s = reached start earlier in
    let end = end_of (the_lock k) k.client start.lease (taken s c) tt (state_after s c) between
    (λ way last t. (ops_of t d ≡ until ++ second ∷ behind) × (taken t d ≤ last + start.lease) × AreSpared k until) all in
    let t = state_after_all (state_after s c) between in
    let last : In second (ops_of t d) = subst (In second) (sym end.2.0) (in_back second until (second ∷ behind) (inl refl)) in
    let other : n ≢ k.state = λ named.
    (let one = states_have_one_owner start earlier c front first back (between ++ d ∷ []) second same (inr (runs_last (state_after s c) between d second last))
    k.state n told.wish w told.locks locks o p mine its range over.some (sym named) in
    elim two [ inl string ↦ string one.0 | inr client ↦ client one.1 ]) in
    only_one start earlier c k front first back between d until second behind n w same told spared all locks
    (record { other = other; file = over.file; before = over.before; behind = over.behind; kinds = over.kinds })
