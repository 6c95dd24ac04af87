-- The owner of a lock state, computed.
use Rattle.std.proofs.Common.{◌≡◌, inl, inr, ℕ, List, [], ◌∷◌, get_or, refl, sym, ap, subst, arith}
use Rattle.nfs_xdr.specs.Tables.{In}
use Rattle.nfs_opens.specs.declared.records.LockState.{LockState}
use Rattle.nfs_promises.specs.Locks.LockOwnedWorked.{OwnersApart}
use Rattle.nfs_promises.proofs.Runs.Computing.{computing}
use Rattle.nfs_promises.specs.Locks.LockKeptWorked as worked

-- The run, computed.

abbrev state : LockState
state = record { number = 2; client = worked.told.client; owner = 0x6c ∷ []; file = 2; opened = 1; seqid = 1 }

only : (P : LockState → Type 0) (l : LockState) → P state → In l (state ∷ []) → P l
only P l is there = elim there [ inl same ↦ subst P (sym same) is | inr none ↦ absurd none ]

pub one_letter : ◌≡◌ {A = List ℕ} (0x6c ∷ []) (0x6d ∷ []) → ⊥
one_letter e = let same : ◌≡◌ {A = ℕ} 0x6c 0x6d = ap (λ (name : List ℕ). get_or name 0 0) e in omega arith

pub owners_apart : OwnersApart
unfolding computing
owners_apart = record {
  its = λ d. record {
    owner = λ l there number. only (λ l. l.owner ≡ 0x6c ∷ []) l refl there;
    client = λ l there number. only (λ l. l.client ≡ worked.told.client) l refl there;
  };
  another = λ d is. one_letter (is.owner state (inl refl) refl);
}
