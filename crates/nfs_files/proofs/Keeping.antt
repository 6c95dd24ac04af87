-- Other bytes of a file change no object's type.
use Rattle.std.proofs.Common.{◌≡◌, ℕ, true, false, cond, List, map, Option, Some, None, refl, ◌∙◌, ap}
use Rattle.std.specs.Prelude.{◌==◌, option_map, if◌then◌else◌}
use Rattle.nfs_xdr.specs.declared.time.Time.{Time}
use Rattle.nfs_tree.specs.{declared.sets.Sets.Sets, declared.stored.Stored.Stored, Bytes.{Content, with_bytes}, Files.stored_in}
use Rattle.nfs_tree.proofs.Objects.{stored_map}
use Rattle.nfs_names.proofs.StoreInvariants.{kind_in}

kind_by : (f : Stored → Stored) → ((s : Stored) → (f s).object.kind ≡ s.object.kind) → (o : Option Stored)
    → option_map (λ (s : Stored). s.object.kind) (option_map f o) ≡ option_map (λ s. s.object.kind) o
kind_by f same None = refl
kind_by f same (Some s) = ap Some (same s)

-- other bytes of one file
pub kind_bytes : (objects : List Stored) (n m : ℕ) (now : Time) (sets : Sets) (bytes : Stored → Content)
    → kind_in (map (λ s. if s.number == n then with_bytes now sets (bytes s) s else s) objects) m ≡ kind_in objects m
kind_bytes objects n m now sets bytes =
    let f : Stored → Stored = λ s. if s.number == n then with_bytes now sets (bytes s) s else s in
    ap (option_map (λ (s : Stored). s.object.kind))
    (stored_map objects f m (λ s. elim (s.number == n) as (λ v. (cond v (with_bytes now sets (bytes s) s) s).number ≡ s.number) [ true ↦ refl | false ↦ refl ]))
    ∙ kind_by f (λ s. elim (s.number == n) as (λ v. (cond v (with_bytes now sets (bytes s) s) s).object.kind ≡ s.object.kind) [ true ↦ refl | false ↦ refl ])
    (stored_in objects m)
