-- Who has an open where the clients that stay keep theirs.
use Rattle.std.proofs.Common.{◌≡◌, ℕ, Bool, true, false, eqb, List, [], ◌∷◌, refl, ◌∙◌, ap, inl, inr}
use Rattle.std.proofs.lemmas.Bool.{cases_Bool, cases_eq, ne_eqb, eq-eqb}
use Rattle.std.specs.{Prelude.{◌&&◌, filter}, List.list_any}
use Rattle.nfs_opens.specs.declared.records.OpenState.{OpenState}
use Rattle.nfs_names.specs.{State.State, Ending.staying}
use Rattle.nfs_names.specs.Ending as store

any_staying : (stays : ℕ → Bool) (c : ℕ) (os : List OpenState)
    → list_any (λ o. eqb o.client c) (filter (λ o. stays o.client) os) ≡ (stays c && list_any (λ o. eqb o.client c) os)
any_staying stays c [] = elim (stays c) as (λ b. false ≡ (b && false)) [ true ↦ refl | false ↦ refl ]
any_staying stays c (o ∷ os) =
    let rest = any_staying stays c os in
    elim (cases_eq o.client c) [
      | inl here ↦ elim (cases_Bool (stays c)) [
        | inl kept ↦ (let is : stays o.client ≡ true = ap stays here ∙ kept in rw (is, eq-eqb o.client c here, kept) refl)
        | inr gone ↦ (let is : stays o.client ≡ false = ap stays here ∙ gone in rw (is, gone) (rest ∙ rw gone refl))
      ]
      | inr other ↦ elim (cases_Bool (stays o.client)) [
        | inl kept ↦ rw (kept, ne_eqb o.client c other) rest
        | inr gone ↦ rw (gone, ne_eqb o.client c other) rest
      ]
    ]

-- who stays has an open behind the others' end where there was one before
pub open_staying : (stays : ℕ → Bool) (s : State) (c : ℕ) → store.has_open (staying stays s) c ≡ (stays c && store.has_open s c)
open_staying stays s c = any_staying stays c s.opens.opens
