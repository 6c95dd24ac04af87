-- SETATTR: the results that it may have.
use Rattle.std.proofs.Common.{refl, ℕ, Option, Some, None, arith}
use Rattle.std.specs.Prelude.{Ok}
use Rattle.nfs_xdr.specs.declared.time.Time.{Time}
use Rattle.nfs_compound.specs.declared.op_num.OpNum.TheVariants as Num
use Rattle.nfs_compound.specs.{declared.stateid.Stateid.Stateid, declared.file_args.SetAttr.SetAttr, declared.op.Item.TheVariants.Operation}
use Rattle.nfs_compound.specs.declared.op.Op.TheVariants as Op
use Rattle.nfs_attrs.specs.Mask.{mask_of}
use Rattle.nfs_names.specs.{declared.context.Context.Context, declared.node.Node.Node, State.State, Checks.current, Create.attributes_in}
use Rattle.nfs_names.proofs.{Bounds.IsAnswer, NameLaws.{current_refuses, wanted_refuses}}
use Rattle.nfs_names.proofs.{Refusing.{Refuses, refuses_checked, refuses_then, ok_refuses, answers_with}, Masks.few_words}
use Rattle.nfs_files.specs.{declared.setting.Setting.Setting, SetAttr.set_attr, SetAttrParts.{setting, owner_checks, sized_by, sized, asked_for, last_checks}}
use Rattle.nfs_files.proofs.{Passing.if_passed_refuses, Seats.writable_refuses}
use Rattle.nfs_files.proofs.InSteps.{set_attr_is}

sized_refuses : (s : State) (x : Context) (given : Stateid) (d : Node) (o : Option ℕ) → Refuses (sized_by s x given d o)
sized_refuses s x given d None = ok_refuses d
sized_refuses s x given d (Some size) = writable_refuses s x given (Ok d) (ok_refuses d)

pub asked_refuses : (s : State) (x : Context) (a : SetAttr) → Refuses (asked_for s x a)
unfolding asked_for
asked_refuses s x a =
    if_passed_refuses (setting s x a) (sized s x a.stateid)
    (refuses_then (current s x) _ (current_refuses s x) (λ d.
    refuses_then (attributes_in a.obj_attributes) _ (wanted_refuses a.obj_attributes) (λ w.
    (let m : Setting = record { node = d; wanted = w } in refuses_checked (Ok m) (owner_checks s x) (ok_refuses m) (λ m. refl)))))
    (λ m. sized_refuses s x a.stateid m.node m.wanted.size)

pub may_set_attr : (s : State) (x : Context) (now : Time) (a : SetAttr) → IsAnswer (Operation (Op.SetAttr a)) (set_attr s x now a).result
may_set_attr s x now a =
    rw (set_attr_is s x now a)
    (answers_with (IsAnswer (Operation (Op.SetAttr a))) s x Num.SetAttr _ _ (refuses_checked (asked_for s x a) (last_checks s) (asked_refuses s x a) (λ m. refl))
    (λ status h. record { may = (refl, rw h.legal refl, omega arith); arrays = tt })
    (λ m. record { may = (refl, refl, few_words (mask_of a.obj_attributes.attrmask).words); arrays = tt }))
