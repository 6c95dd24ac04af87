-- The wish of a LOCK or a LOCKU that passed its checks: whose it is, and which bytes it is for.
use Rattle.std.proofs.Common.{◌≡◌, ◌≢◌, ◌⊎◌, ℕ, ◌+◌, ◌-◌, ◌<◌, ◌≤◌, Bool, true, false, cond, not, [], ◌∷◌, refl, sym, ◌∙◌, ap, subst, arith, inl, inr}
use Rattle.std.proofs.lemmas.Bool.{cases_eq, cases_lt, eqb-false, ltb-false}
use Rattle.std.specs.Prelude.{◌==◌, ◌&&◌, ◌^◌, nat_lt, Result, Ok, Err}
use Rattle.nfs_xdr.specs.{Checks.first_fault, declared.status.Status.Status, declared.status.Status.TheVariants.Inval}
use Rattle.nfs_compound.specs.{declared.lock_args.Lock.Lock, declared.lock_args.LockType.LockType, declared.lock_args.LockU.LockU}
use Rattle.nfs_opens.specs.declared.{locking.Wish.Wish, stateid.StateId.StateId}
use Rattle.nfs_names.specs.{declared.context.Context.Context, Outcome.{mapped, passed}, State.State}
use Rattle.nfs_names.proofs.Found.{came, checked_ok}
use Rattle.nfs_files.specs.{declared.ranges.Wished.Wished, Target.the_file, Ranges.{all_ones, range, wished}, Parts.wish}
use Rattle.nfs_files.specs.{Lock.stateid_in, Parts.{reclaim_checks, locking, unlocking}}
use Rattle.nfs_files.proofs.InSteps.{wished_is}
use Rattle.nfs_files.proofs.InSteps as in_steps
use Rattle.nfs_files.proofs.Spans.{wished_parts}

-- what was asked for as a wish
pub record IsWish (x : Context) (offset size : ℕ) (w : Wish) : Type 0 where
  pub client : w.client ≡ x.client
  pub first : w.first ≡ offset
  pub last : range offset size ≡ Ok w.last

wish_by : (x : Context) (how : LockType) (offset size file : ℕ) (v : Result ℕ Status) (w : Wish) → range offset size ≡ v
    → mapped (λ last. wish x how offset last file) v ≡ Ok w → IsWish x offset size w
wish_by x how offset size file (Err status) w is e = absurd cc
wish_by x how offset size file (Ok last) w is e =
    let same : wish x how offset last file ≡ w = cc in
    record {
      client = sym (ap (λ (w : Wish). w.client) same);
      first = sym (ap (λ (w : Wish). w.first) same);
      last = is ∙ ap (λ (w : Wish). Ok w.last) same;
    }

pub wish_is : (s : State) (x : Context) (how : LockType) (offset size : ℕ) (w : Wish) → wished s x how offset size ≡ Ok w → IsWish x offset size w
wish_is s x how offset size w e = let d = came (the_file s x) _ w (sym (wished_is s x how offset size) ∙ e) in wish_by x how offset size d.found.number (range offset size) w refl d.then

-- which wish it is, beside the stateid
with_id : (w : Wish) (v : Result StateId Status) (k : Wished) → ◌≡◌ {A = Result Wished Status} (mapped (λ id. record { wish = w; id = id }) v) (Ok k) → w ≡ k.wish
with_id w (Err status) k e = absurd cc
with_id w (Ok id) k e = let is : record { wish = w; id = id } ≡ k = cc in ap (λ (k : Wished). k.wish) is

pub lock_wish : (s : State) (x : Context) (a : Lock) (k : Wished) → locking s x a ≡ Ok k → wished s x a.locktype a.offset a.length ≡ Ok k.wish
lock_wish s x a k e =
    (checked_ok (wished s x a.locktype a.offset a.length) (reclaim_checks a) k.wish (wished_parts x (stateid_in a.locker) _ k e)).0

pub unlock_wish : (s : State) (x : Context) (a : LockU) (k : Wished) → unlocking s x a ≡ Ok k → wished s x a.locktype a.offset a.length ≡ Ok k.wish
unlock_wish s x a k e = wished_parts x a.lock_stateid (wished s x a.locktype a.offset a.length) k e

-- a range of bytes that there are, or an empty one, where its first byte is one that there is not
abbrev pub IsRange : (first last : ℕ) → Type 0
IsRange first last = ((first ≤ last) × (last < 2 ^ 64)) ⊎ ((last < first) × (2 ^ 64 ≤ first))

from_start : (offset : ℕ) → IsRange offset all_ones
from_start offset = elim (cases_lt offset (2 ^ 64)) [ inl here ↦ inl (omega arith, omega arith) | inr past ↦ inr (omega arith, past) ]

pub range_is : (offset size last : ℕ) → range offset size ≡ Ok last → IsRange offset last
range_is offset size last e = by_size (size == all_ones) (size == 0) refl (sym (in_steps.range_is offset size) ∙ e)
  where
    by_size : (all empty : Bool) → (size == 0) ≡ empty
        → passed (cond all all_ones (offset + size - 1)) (first_fault ((empty, Inval) ∷ (not all && nat_lt all_ones (offset + size), Inval) ∷ [])) ≡ Ok last
        → IsRange offset last
    by_size all true b e = absurd cc
    by_size true false b e = (let same : all_ones ≡ last = cc in subst (IsRange offset) same (from_start offset))
    by_size false false b e = by_end (nat_lt all_ones (offset + size)) refl e
      where
        by_end : (over : Bool) → nat_lt all_ones (offset + size) ≡ over
            → passed (offset + size - 1) (first_fault ((false, Inval) ∷ (over, Inval) ∷ [])) ≡ Ok last → IsRange offset last
        by_end true o e = absurd cc
        by_end false o e =
            let bound = ltb-false all_ones (offset + size) o in
            let some : size ≢ 0 = eqb-false size 0 b in
            let same : offset + size - 1 ≡ last = cc in
            elim (cases_eq size 0) [ inl zero ↦ absurd (some zero) | inr more ↦ inl (omega arith, omega arith) ]

-- so the bytes of a wish are a range
pub wish_range : (s : State) (x : Context) (how : LockType) (offset size : ℕ) (w : Wish) → wished s x how offset size ≡ Ok w → IsRange w.first w.last
wish_range s x how offset size w e =
    let is = wish_is s x how offset size w e in
    subst (λ first. IsRange first w.last) (sym is.first) (range_is offset size w.last is.last)
