-- How much a tree may hold, which attribute 27 says of a file, does not change, nor does its profile.
use Rattle.std.proofs.{Common.{◌≡◌, ℕ, Bool, Option, Some, None, refl, ◌∙◌, ap, inl, inr}, lemmas.Bool.cases_Bool}
use Rattle.std.specs.Option.{ForSome}
use Rattle.nfs_xdr.specs.declared.time.Time.{Time}
use Rattle.nfs_compound.specs.declared.op.Item.{Item}
use Rattle.nfs_tree.specs.{declared.limits.Limits.Limits, declared.profile.Profile.Profile, Files.{Files, object_named, number_named}, Names.{with_moved, without_name}}
use Rattle.nfs_opens.specs.Closing.{without_open}
use Rattle.nfs_names.specs.{declared.context.Context.Context, State.{State, time_at, is_used, without_unused, with_tree}, Ending.with_opens, Rename.without_replaced}
use Rattle.nfs_names.specs.Operation as names
use Rattle.nfs_names.proofs.{Ones.each_of, Effects.{Removes, Moves}}
use Rattle.nfs_names.proofs.Effects as names_effects
use Rattle.nfs_names.proofs.Effected as names_effected
use Rattle.nfs_files.proofs.{Outcomes.comes_to, Effects.{Effect, Names, Closes, behind}, Effected.kept_item}
use Rattle.nfs_exec.proofs.{Runs.OneRun.{IsRun, by_run}, Runs.OneWalk.IsKept}
use Rattle.nfs_exec.specs.Runs.Ops.{RanOp}

-- what a tree keeps of what it was made with
abbrev fixed : Files → Limits × Profile
fixed t = (t.limits, t.profile)

unused_fixed : (s : State) (n : ℕ) → fixed (without_unused s n).tree ≡ fixed s.tree
unused_fixed s n = elim (cases_Bool (is_used s n)) [ inl stays ↦ rw stays refl | inr goes ↦ rw goes refl ]

replaced_fixed : (s : State) (o : Option ℕ) → fixed (without_replaced s o).tree ≡ fixed s.tree
replaced_fixed s None = refl
replaced_fixed s (Some n) = unused_fixed s n

name_fixed : (s : State) (e : names_effects.Effect) → fixed (names_effects.behind s e).tree ≡ fixed s.tree
name_fixed s (Removes d name now) = unused_fixed (with_tree s (without_name s.tree d name now)) (number_named s.tree d name)
name_fixed s (Moves m now) = replaced_fixed (with_tree s (with_moved s.tree m now)) (object_named s.tree m.target m.name)
name_fixed s e = refl

file_fixed : (s : State) (e : Effect) → fixed (behind s e).tree ≡ fixed s.tree
file_fixed s (Names e) = name_fixed s e
file_fixed s (Closes n file) = unused_fixed (with_opens s (without_open s.opens n)) file
file_fixed s e = refl

fixed_names : (refused : Bool) (s : State) (x : Context) (now : Time) (i : Item)
    → ForSome (names.comes_to refused s x now i) (λ o. fixed o.state.tree ≡ fixed s.tree)
fixed_names refused s x now i = each_of (λ o. fixed o.state.tree ≡ fixed s.tree) (names.comes_to refused s x now i)
    (names_effected.kept_item (λ t y. fixed t.tree ≡ fixed s.tree)
    (names_effects.of_states (λ t. fixed t.tree ≡ fixed s.tree) (λ t e fits is. name_fixed t e ∙ is)) refused s x now i refl)

fixed_files : (refused : Bool) (s : State) (x : Context) (now : Time) (i : Item) → fixed (comes_to refused s x now i).state.tree ≡ fixed s.tree
fixed_files refused s x now i = kept_item (λ t. fixed t.tree ≡ fixed s.tree) refused s x now i (λ t e fits is. file_fixed t e ∙ is) refl

fixed_run : (d : RanOp) → IsRun d → fixed d.behind.store.tree ≡ fixed d.before.store.tree
fixed_run d r = by_run (λ status text s. fixed s.tree ≡ fixed d.before.store.tree) d r refl
    (fixed_names r.refused d.before.store d.context (time_at d.before.store r.now) d.item)
    (fixed_files r.refused d.before.store d.context (time_at d.before.store r.now) d.item) (λ other. refl)

pub limits_kept : (limits : Limits) → IsKept (λ s. s.tree.limits ≡ limits)
limits_kept limits = record { run = λ d r is. ap (λ (f : Limits × Profile). f.0) (fixed_run d r) ∙ is; end = λ stays s is. is }

pub profile_kept : (profile : Profile) → IsKept (λ s. s.tree.profile ≡ profile)
profile_kept profile = record { run = λ d r is. ap (λ (f : Limits × Profile). f.1) (fixed_run d r) ∙ is; end = λ stays s is. is }
