-- SETATTR in the parts that its code takes, which only contracts inside the crate cite: what is looked at first, and its change of the tree.
use Rattle.std.specs.{Prelude.{ℕ, ◌&&◌, Bool, false, not, List, [], ◌∷◌, nat_lt, Option, Some, None, Result, Ok, if◌then◌else◌}, Option.option_map_or}
use Rattle.nfs_xdr.specs.{declared.time.Time.Time, declared.status.Status.Status, declared.status.Status.TheVariants.{Nfs4Ok, FBig, ServerFault}}
use Rattle.nfs_compound.specs.{declared.stateid.Stateid.Stateid, declared.file_args.SetAttr.SetAttr}
use Rattle.nfs_results.specs.declared.res.Res.TheVariants as Res
use Rattle.nfs_tree.specs.{Files.{Files, can_change}, declared.fault.TreeFault.TreeFault, Calls.{Did, does_unless, resize_fault, set_fault}}
use Rattle.nfs_attrs.specs.{declared.wanted.Wanted.Wanted, Mask.{mask_of, trimmed_words}, Setting.set_checks}
use Rattle.nfs_opens.specs.Steps.{◌>>=◌}
use Rattle.nfs_names.specs.{declared.context.Context.Context, declared.node.Node.Node, State.{State, with_tree}, Outcome.{Outcome, checked}}
use Rattle.nfs_names.specs.{Checks.current, Create.attributes_in}
use Rattle.nfs_files.specs.{declared.setting.Setting.Setting, Parts.{if_passed, writable}, SetAttr.{gives_some, with_set}}

abbrev pub owner_checks : State → Context → Setting → List (Bool × Status)
owner_checks s x m = set_checks s.tree.profile m.node.object m.wanted x.who

abbrev pub setting : State → Context → SetAttr → Result Setting Status
setting s x a = do
  d ← current s x
  wanted ← attributes_in a.obj_attributes
  checked (Ok (record { node = d; wanted = wanted })) (owner_checks s x)

abbrev pub sized_by : State → Context → Stateid → Node → Option ℕ → Result Node Status
sized_by s x given d None = Ok d
sized_by s x given d (Some size) = writable s x given (Ok d)

abbrev pub sized : State → Context → Stateid → Setting → Result Node Status
sized s x given m = sized_by s x given m.node m.wanted.size

unfoldable pub asked_for : State → Context → SetAttr → Result Setting Status
asked_for s x a = if_passed (setting s x a) (sized s x a.stateid)

abbrev pub last_checks : State → Setting → List (Bool × Status)
last_checks s m =
    (option_map_or (nat_lt s.tree.limits.bytes) m.wanted.size false, FBig)
    ∷ (gives_some m.wanted && not (can_change s.tree m.node.number), ServerFault)
    ∷ []

abbrev pub was_set : State → Context → Time → SetAttr → Setting → Outcome
was_set s x now a m = record {
  result = Res.SetAttr Nfs4Ok (trimmed_words (mask_of a.obj_attributes.attrmask));
  state = with_tree s (with_set s.tree x m.node now m.wanted m.wanted.size);
  context = x;
}

-- what the tree itself refuses
abbrev pub tree_fault : Files → ℕ → Wanted → Option ℕ → Option TreeFault
tree_fault t n wanted (Some size) = resize_fault t n size
tree_fault t n wanted None = if gives_some wanted then set_fault t n else None

abbrev pub changed : Files → Context → Time → Setting → Did (Unit {0})
changed t x now m = does_unless t (tree_fault t m.node.number m.wanted m.wanted.size) tt (with_set t x m.node now m.wanted m.wanted.size)
