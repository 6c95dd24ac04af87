-- What was found and then passed what was looked at next.
use Rattle.std.proofs.Common.{◌≡◌, refl, sym, ◌∙◌, ap}
use Rattle.std.specs.Prelude.{Result, Ok, Err}
use Rattle.nfs_xdr.specs.declared.status.Status.{Status}
use Rattle.nfs_names.specs.Outcome.{mapped}
use Rattle.nfs_names.proofs.{Found.ok_is, Refusing.{Refuses, err_refuses, refuses_mapped}}
use Rattle.nfs_files.specs.Parts.{if_passed}

mapped_ok : {A B : Type 0} (c a : A) (w : Result B Status) → mapped (λ b. c) w ≡ Ok a → (c ≡ a) × ((b : B) × (w ≡ Ok b))
mapped_ok c a (Err status) e = absurd cc
mapped_ok c a (Ok b) e = (cc, (b, refl))

pub if_passed_ok : {A B : Type 0} (v : Result A Status) (next : A → Result B Status) (a : A)
    → if_passed v next ≡ Ok a → (v ≡ Ok a) × ((b : B) × (next a ≡ Ok b))
if_passed_ok (Err status) next a e = absurd cc
if_passed_ok (Ok c) next a e =
    let parts = mapped_ok c a (next c) e in
    (ap Ok parts.0, (parts.1.0, ap next (sym parts.0) ∙ parts.1.1))

pub if_passed_refuses : {A B : Type 0} (v : Result A Status) (next : A → Result B Status)
    → Refuses v → ((a : A) → Refuses (next a)) → Refuses (if_passed v next)
if_passed_refuses (Err status) next h all = err_refuses status (h.each status refl)
if_passed_refuses (Ok a) next h all = refuses_mapped (λ b. a) (next a) (all a)

-- what came of what was found was found
pub record Mapped {A B : Type 0} (f : A → B) (v : Result A Status) (b : B) : Type 0 where
  pub found : A
  pub is : v ≡ Ok found
  pub same : f found ≡ b

pub mapped_came : {A B : Type 0} (f : A → B) (v : Result A Status) (b : B) → mapped f v ≡ Ok b → Mapped f v b
mapped_came f (Err status) b e = absurd cc
mapped_came f (Ok a) b e = record { found = a; is = refl; same = ok_is refl e }
