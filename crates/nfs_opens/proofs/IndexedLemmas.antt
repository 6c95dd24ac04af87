-- Walks over the opens that belong to one file.
use Rattle.std.proofs.Common.{◌≡◌, ℕ, suc, ◌-◌, ◌<◌, Bool, true, false, List, Option, Some, None, sym, ◌∙◌, ap, arith, refl, Bor}
use Rattle.std.proofs.lemmas.Bool.{and_parts, eqb-true}
use Rattle.std.specs.{Prelude.{◌==◌, ◌&&◌, not, nat_lt, is_some, find}, List.list_any, Option.option_copied}
use Rattle.nfs_xdr.proofs.Lists.{find_in, any_in}
use Rattle.nfs_opens.specs.{declared.records.OpenState.OpenState, Keys.{owner_key, open_key}, Table.{Table, Asked, is_own}, TableInvariants.IsTable}
use Rattle.nfs_opens.proofs.{ShareLemmas.own_is, IndexLemmas.{any_begun, any_done, any_missed, come_bounds}}

-- A walk over the opens that belong to one thing, as a file, by a test that only they pass.

abbrev pub Belongs : (OpenState → ℕ) → ℕ → (OpenState → Bool) → Type 0
Belongs of k q = (o : OpenState) → q o ≡ true → of o ≡ k

abbrev pub Behind : (OpenState → ℕ) → ℕ → ℕ → OpenState → Bool
Behind of k after o = (of o == k) && nat_lt after o.number

abbrev pub Coming : ℕ → (OpenState → Bool) → OpenState → Bool
Coming after q o = nat_lt after o.number && q o

abbrev pub file_of : OpenState → ℕ
file_of o = o.file

pub own_key : (a : Asked) (k : ℕ) → k ≡ owner_key a.file a.client a.owner → Belongs open_key k (is_own a)
own_key a k is o e =
    let (file, client, owner) = own_is a o e in
    ap (λ (n : ℕ). owner_key n o.client o.owner) file
    ∙ (ap (λ (n : ℕ). owner_key a.file n o.owner) client ∙ (ap (λ (xs : List ℕ). owner_key a.file a.client xs) owner ∙ sym is))

pub others_file : (file client : ℕ) → Belongs file_of file (λ o. (o.file == file) && not (o.client == client))
others_file file client o e = eqb-true o.file file (and_parts (o.file == file) (not (o.client == client)) e).0

abbrev number_of : OpenState → ℕ
number_of o = o.number

pub any_begins : (t : Table) (q : OpenState → Bool) → IsTable t → list_any (Coming 0 q) t.opens ≡ list_any q t.opens
any_begins t q is = any_begun number_of number_of q (suc t.last) t.opens is.opens

-- each step goes on, and ends
pub walk_bounds : (t : Table) (of : OpenState → ℕ) (k after : ℕ) (o : OpenState) → IsTable t → find (Behind of k after) t.opens ≡ Some o
    → suc t.last - o.number < suc t.last - after
walk_bounds t of k after o is found =
    let bounds = come_bounds of number_of (Behind of k after) k (λ x e. eqb-true (of x) k (and_parts (of x == k) _ e).0)
    1 (suc t.last) t.opens is.opens after o found in
    let above = bounds.0 in let below = bounds.1 in omega arith

module _ (t : Table) (of : OpenState → ℕ) (q : OpenState → Bool) (k : ℕ) (only : Belongs of k q) (is : IsTable t) where
  pub any_hits : (after : ℕ) (o : OpenState) → find (Behind of k after) t.opens ≡ Some o → q o ≡ true → list_any q t.opens ≡ true
  any_hits after o found passes = any_in q t.opens o (find_in (Behind of k after) t.opens o found).0 passes

  pub any_misses : (after : ℕ) (o : OpenState) → find (Behind of k after) t.opens ≡ Some o → q o ≡ false
      → list_any (Coming o.number q) t.opens ≡ list_any (Coming after q) t.opens
  any_misses after o = any_missed of number_of q k only 1 (suc t.last) t.opens is.opens after o

  pub any_ends : (after : ℕ) → find (Behind of k after) t.opens ≡ None → list_any (Coming after q) t.opens ≡ false
  any_ends after = any_done of number_of q k only 1 (suc t.last) t.opens is.opens after

pub copied_some : {X : Type 0} (o : Option (Bor X)) → is_some o ≡ is_some (option_copied o)
copied_some None = refl
copied_some (Some x) = refl

-- what is said of an open of a file
pub said_of : (t : Table) (file after : ℕ) (o : OpenState) (says b : Bool) → find (Behind file_of file after) t.opens ≡ Some o → says ≡ b
    → ((o.file == file) && says) ≡ b
said_of t file after o says b found is =
    let here : (o.file == file) ≡ true = (and_parts (o.file == file) (nat_lt after o.number) (find_in (Behind file_of file after) t.opens o found).1).0 in rw here is
