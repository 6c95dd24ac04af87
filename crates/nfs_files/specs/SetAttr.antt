-- SETATTR (RFC 8881 section 18.30): attributes of an object are set, all that are given or none.
use Rattle.std.specs.Prelude.{ℕ, ◌||◌, ◌&&◌, Bool, false, not, [], ◌∷◌, nat_lt, Option, Some, None, Result, Ok, is_some, if◌then◌else◌}
use Rattle.std.specs.Option.{option_map_or}
use Rattle.nfs_xdr.specs.{declared.time.Time.Time, declared.status.Status.Status, declared.status.Status.TheVariants.{Nfs4Ok, FBig, ServerFault}}
use Rattle.nfs_compound.specs.declared.op_num.OpNum.TheVariants as Num
use Rattle.nfs_compound.specs.{declared.stateid.Stateid.Stateid, declared.file_args.SetAttr.SetAttr}
use Rattle.nfs_results.specs.declared.res.Res.TheVariants as Res
use Rattle.nfs_tree.specs.{declared.sets.Sets.Sets, Object.is_regular, Files.{Files, can_change}, Bytes.{with_resized, with_sets}}
use Rattle.nfs_attrs.specs.{declared.wanted.Wanted.Wanted, Mask.{mask_of, trimmed_words}, SetId.settled, Setting.set_checks}
use Rattle.nfs_opens.specs.Steps.{in_order, ◌>>=◌, ◌>>◌}
use Rattle.nfs_names.specs.{declared.context.Context.Context, declared.node.Node.Node, State.{State, with_tree}, Outcome.{Outcome, or_refusal}}
use Rattle.nfs_names.specs.{Checks.current, Create.{attributes_in, given_sets}}
use Rattle.nfs_files.specs.Bytes.{file_checks, writing, may_use}

-- where a size is given, the object is a file whose bytes may be changed by the stateid
abbrev pub may_resize : State → Context → Stateid → Node → Option ℕ → Result (Unit {0}) Status
may_resize s x given d None = Ok tt
may_resize s x given d (Some size) = do
  in_order (file_checks d)
  may_use s x writing given d
  Ok tt

abbrev pub gives_some : Wanted → Bool
gives_some wanted = is_some wanted.size || is_some wanted.mode || is_some wanted.owner || is_some wanted.group || is_some wanted.access || is_some wanted.modify

-- what is set of an object, by the profile
abbrev pub settled_sets : Files → Context → Node → Time → Wanted → Sets
settled_sets t x d now wanted = given_sets now (settled t.profile (is_regular d.object.kind) d.object.mode d.object.group x.who wanted)

-- A size cuts the file or puts zeros behind its bytes. The object changes once, whatever is set of it.
abbrev pub with_set : Files → Context → Node → Time → Wanted → Option ℕ → Files
with_set t x d now wanted (Some size) = with_resized t d.number size (settled_sets t x d now wanted) now
with_set t x d now wanted None = if gives_some wanted then with_sets t d.number (settled_sets t x d now wanted) now else t

-- last the size is looked at, and whether the change can be counted: nothing given changes nothing
unfoldable pub set_attr : State → Context → Time → SetAttr → Outcome
set_attr s x now a = or_refusal s x Num.SetAttr (do
  d ← current s x
  wanted ← attributes_in a.obj_attributes
  in_order (set_checks s.tree.profile d.object wanted x.who)
  may_resize s x a.stateid d wanted.size
  in_order ((option_map_or (nat_lt s.tree.limits.bytes) wanted.size false, FBig) ∷ (gives_some wanted && not (can_change s.tree d.number), ServerFault) ∷ [])
  Ok (record {
    result = Res.SetAttr Nfs4Ok (trimmed_words (mask_of a.obj_attributes.attrmask));
    state = with_tree s (with_set s.tree x d now wanted wanted.size);
    context = x;
  }))
