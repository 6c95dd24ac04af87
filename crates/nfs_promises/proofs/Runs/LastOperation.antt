-- Operations of compounds, in runs that are worked by hand: the last one, and what a test says of each.
use Rattle.std.proofs.{Common.{◌≡◌, ℕ, zero, suc, Bool, true, false, List, [], ◌∷◌, ◌++◌, length, take, refl, sym, ap, subst, arith, inl, inr}, lemmas.Bool.and_parts}
use Rattle.std.specs.List.{list_all}
use Rattle.nfs_xdr.specs.{Tables.In, declared.status.Status.TheVariants.Nfs4Ok}
use Rattle.nfs_compound.specs.declared.op.Item.TheVariants.{Operation}
use Rattle.nfs_compound.specs.declared.op.Op.TheVariants as Op
use Rattle.nfs_names.specs.Context.{begins}
use Rattle.nfs_exec.specs.Runs.Ops.{RanOp}
use Rattle.nfs_promises.specs.Locks.LockKeptWorked.{outset, last_of}

-- what stands behind the list is of no account
pub nothing : RanOp
nothing = record {
  limit = 0;
  sofar = 0;
  refused = false;
  before = outset.machine;
  context = begins 0 (record { uid = 0; gid = 0; gids = [] });
  item = Operation Op.PutRootFh;
  status = Nfs4Ok;
  result = [];
  behind = outset.machine;
}

pub last_there : (x : RanOp) (ds : List RanOp) (n : ℕ) → length ds ≡ suc n → In (last_of x ds) ds
last_there x [] n e = absurd (omega arith)
last_there x (a ∷ []) n e = inl refl
last_there x (a ∷ b ∷ ds) n e = inr (last_there a (b ∷ ds) (length ds) refl)

last_op : (x : RanOp) (ds : List RanOp) (n : ℕ) → length ds ≡ suc n → ds ≡ take n ds ++ last_of x ds ∷ []
last_op x [] n e = absurd (omega arith)
last_op x (a ∷ []) zero e = refl
last_op x (a ∷ []) (suc n) e = absurd (omega arith)
last_op x (a ∷ b ∷ ds) zero e = absurd (omega arith)
last_op x (a ∷ b ∷ ds) (suc n) e = ap (λ more. a ∷ more) (last_op a (b ∷ ds) n (omega arith))

pub two : (x : RanOp) (ds : List RanOp) → length ds ≡ 2 → ds ≡ take 1 ds ++ last_of x ds ∷ []
two x ds e = last_op x ds 1 e

pub three : (x : RanOp) (ds : List RanOp) → length ds ≡ 3 → ds ≡ take 2 ds ++ last_of x ds ∷ []
three x ds e = last_op x ds 2 e

pub four : (x : RanOp) (ds : List RanOp) → length ds ≡ 4 → ds ≡ take 3 ds ++ last_of x ds ∷ []
four x ds e = last_op x ds 3 e

-- what holds of each operation that passes a test holds of those that all do
pub each_of : (P : RanOp → Type 0) (test : RanOp → Bool) → ((d : RanOp) → test d ≡ true → P d) → (ds : List RanOp) → list_all test ds ≡ true
    → (d : RanOp) → In d ds → P d
each_of P test one [] e d there = absurd there
each_of P test one (x ∷ ds) e d there = (let p = and_parts (test x) (list_all test ds) e in elim there [
  | inl here ↦ subst P (sym here) (one x p.0)
  | inr later ↦ each_of P test one ds p.1 d later
])

-- what is so of the only one
pub only : {X : Type 0} (P : X → Type 0) (xs : List X) (x : X) → xs ≡ x ∷ [] → P x → (y : X) → In y xs → P y
only P xs x is holds y there = by (subst (In y) is there)
  where
    by : In y (x ∷ []) → P y
    by (inl same) = subst P (sym same) holds
    by (inr none) = absurd none
