-- A LOCK of a new lock owner that is granted names a lock state of that owner.
use Rattle.std.proofs.Common.{◌≡◌, inl, inr, ℕ, suc, ◌+◌, Bool, true, false, cond, not, List, Option, Some, None, refl, sym, ◌∙◌, ap, subst, arith}
use Rattle.std.proofs.{lemmas.Bool.and_parts, lemmas.Slice.Eq.bytes_eq-Decides}
use Rattle.std.specs.Prelude.{◌==◌, Ok, ok_or}
use Rattle.nfs_xdr.specs.{Tables.In, declared.status.Status.TheVariants.{BadStateId, ServerFault}}
use Rattle.nfs_xdr.proofs.{Lists.{find_in, in_push, in_map}, Tables.{in_bounds, in_once}}
use Rattle.nfs_opens.specs.{declared.judging.Sort.TheVariants.OpenOnly, declared.locking.OpenFault.TheVariants.Refused, declared.locking.Wish.Wish}
use Rattle.nfs_opens.specs.{declared.records.LockState.LockState, declared.share.Share.Share, declared.stateid.StateId.StateId, Judging.judge}
use Rattle.nfs_opens.specs.{Locking.{is_locker, state_of, raised, access_in, lock_judged, lock_as, lock_first, lock_under}, StateId.last_number}
use Rattle.nfs_opens.specs.{Steps.{require, map_err}, Table.{Table, lock_at}, TableInvariants.IsTable}
use Rattle.nfs_opens.proofs.{CallLaws.{came, ok_is}, Terms.lock_by_owner}

raised_same : (b : Bool) (l : LockState) → ((cond b (raised l) l).owner ≡ l.owner) × ((cond b (raised l) l).number ≡ l.number)
raised_same true l = (refl, refl)
raised_same false l = (refl, refl)

-- by the state that the owner has on the file
known_owner : (t : Table) (w : Wish) (owner : List ℕ) (access : Share) (k : LockState) (did : StateId × Table) → IsTable t → In k t.locks → k.owner ≡ owner
    → lock_as t w k.number access ≡ Ok did → (l : LockState) → In l did.1.locks → l.number ≡ did.0.number → l.owner ≡ owner
known_owner t w owner access k did table there mine e l inside named =
    let u = came (lock_judged t k.number access w) _ did e in
    let j = came (ok_or (lock_at t k.number) (Refused BadStateId)) _ did u.then in
    let is = ok_is refl j.then in
    let change : LockState → LockState = λ x. cond (x.number == k.number) (raised x) x in
    let was = in_map change t.locks l (subst (λ (d : StateId × Table). In l d.1.locks) (sym is) inside) in
    let same = raised_same (was.0.number == k.number) was.0 in
    let number : was.0.number ≡ k.number =
    sym same.1 ∙ (ap (λ (l : LockState). l.number) (sym was.2) ∙ (named ∙ ap (λ (d : StateId × Table). d.0.number) (sym is))) in
    let one : was.0 ≡ k = in_once (λ (l : LockState). l.number) 1 (suc t.last) t.locks was.0 k table.locks was.1 there number in
    ap (λ (l : LockState). l.owner) was.2 ∙ (same.0 ∙ (ap (λ (l : LockState). l.owner) one ∙ mine))

-- or by a new one
new_owner : (t : Table) (w : Wish) (opened : ℕ) (owner : List ℕ) (access : Share) (did : StateId × Table) → IsTable t → lock_first t w opened owner access ≡ Ok did
    → (l : LockState) → In l did.1.locks → l.number ≡ did.0.number → l.owner ≡ owner
new_owner t w opened owner access did table e l inside named =
    let u = came (lock_judged t 0 access w) _ did e in
    let j = came (require (not (t.last == last_number)) (Refused ServerFault)) _ did u.then in
    let is = ok_is refl j.then in
    let number : l.number ≡ t.last + 1 = named ∙ ap (λ (d : StateId × Table). d.0.number) (sym is) in
    elim (in_push t.locks _ l (subst (λ (d : StateId × Table). In l d.1.locks) (sym is) inside)) [
      | inl new ↦ ap (λ (l : LockState). l.owner) new
      | inr old ↦ absurd (let below = in_bounds (λ (l : LockState). l.number) 1 (suc t.last) t.locks l table.locks old in omega (arith, below.1, number))
    ]

by_owner : (t : Table) (w : Wish) (opened : ℕ) (owner : List ℕ) (access : Share) (o : Option LockState) (did : StateId × Table) → IsTable t
    → state_of t w.client owner w.file ≡ o → lock_by_owner t w opened owner access o ≡ Ok did
    → (l : LockState) → In l did.1.locks → l.number ≡ did.0.number → l.owner ≡ owner
by_owner t w opened owner access (Some k) did table found e =
    let its = find_in (is_locker w.client owner w.file) t.locks k found in
    known_owner t w owner access k did table its.0 ((bytes_eq-Decides k.owner owner).0 (and_parts _ _ (and_parts _ _ its.1).1).1) e
by_owner t w opened owner access None did table found e = new_owner t w opened owner access did table e

pub under_owner : (t : Table) (id : StateId) (owner : List ℕ) (w : Wish) (did : StateId × Table) → IsTable t → lock_under t id owner w ≡ Ok did
    → (l : LockState) → In l did.1.locks → l.number ≡ did.0.number → l.owner ≡ owner
under_owner t id owner w did table e =
    let seat = came (map_err Refused (judge t id w.client (Some w.file) OpenOnly)) _ did e in
    by_owner t w id.number owner (access_in seat.found) (state_of t w.client owner w.file) did table refl seat.then
