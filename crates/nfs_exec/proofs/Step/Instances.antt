-- No operation changes the instance of the server, which its filehandles and its stateids bear.
use Rattle.std.proofs.Common.{◌≡◌, ℕ, Bool, Option, Some, None, refl, ◌∙◌, ap}
use Rattle.nfs_xdr.specs.declared.time.Time.{Time}
use Rattle.nfs_compound.specs.declared.op.Item.{Item}
use Rattle.nfs_opens.specs.{declared.records.OpenState.OpenState, Table.{Table, Asked}, Opening.{own_open, opens_by}}
use Rattle.nfs_names.specs.{declared.context.Context.Context, State.{State, time_at}}
use Rattle.nfs_names.proofs.Untouched.{leaves_each}
use Rattle.nfs_files.proofs.{Outcomes.comes_to, Effects.{Effect, Opens, table_behind}, Effected.kept_opens}
use Rattle.nfs_exec.proofs.{Runs.OneRun.by_run, Runs.OneWalk.IsKept}

opened_instance : (t : Table) (a : Asked) (o : Option OpenState) → (opens_by t a o).after.instance ≡ t.instance
opened_instance t a None = refl
opened_instance t a (Some o) = refl

table_instance : (t : Table) (e : Effect) → (table_behind t e).instance ≡ t.instance
table_instance t (Opens a) = opened_instance t a (own_open t a)
table_instance t e = refl

instance_files : (refused : Bool) (s : State) (x : Context) (now : Time) (i : Item) → (comes_to refused s x now i).state.opens.instance ≡ s.opens.instance
instance_files refused s x now i = kept_opens (λ t. t.instance ≡ s.opens.instance) refused s x now i (λ t e fits is. table_instance t.opens e ∙ is) refl

pub instance_kept : (instance : ℕ) → IsKept (λ s. s.opens.instance ≡ instance)
instance_kept instance = record {
  run = λ d r is. by_run (λ status text s. s.opens.instance ≡ instance) d r is
      (λ o e. ap (λ (t : Table). t.instance) (leaves_each r.refused d.before.store d.context (time_at d.before.store r.now) d.item o e).opens ∙ is)
      (instance_files r.refused d.before.store d.context (time_at d.before.store r.now) d.item ∙ is) (λ other. is);
  end = λ stays s is. is;
}
