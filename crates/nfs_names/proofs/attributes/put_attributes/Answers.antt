use Rattle.std.proofs.Common.{◌≡◌, ◌≤◌, ◌+◌, ◌++◌, ◌∙◌, List, ℕ, length, sym, ap, subst, arith}
use Rattle.nfs_xdr.specs.{SheetState.Puts, Spelling.opaque, declared.status.Status.TheVariants.Nfs4Ok}
use Rattle.nfs_xdr.proofs.Putting.{puts_then}
use Rattle.nfs_compound.specs.declared.op_num.OpNum.TheVariants as Num
use Rattle.nfs_compound.specs.OpNum.{op_number}
use Rattle.nfs_results.specs.declared.res.Res.TheVariants as Res
use Rattle.nfs_results.specs.{Results.head, Items.fattr}
use Rattle.nfs_results.proofs.Lengths.{length_head, behind_within}
use Rattle.nfs_tree.specs.declared.profile.Profile.{Profile}
use Rattle.nfs_attrs.specs.{Attributes.{values, spell_attrs}, Mask.{common, spell_mask}}
use Rattle.nfs_attrs.specs.Attributes as table
use Rattle.nfs_attrs.proofs.Bounds.{attributes_within}
use Rattle.nfs_names.specs.{State.state_of, Attributes.{about, attributes_of}}
use Rattle.nfs_names.proofs.Masks.{room_then, at_most_three_words, attributes_spelled}
use Rattle.nfs_names.proofs.attributes.put_attributes.Goals as goal

pub write_done_head-requires : goal.write_done_head-requires
write_done_head-requires c = record { room = omega (arith, c.requires.room, length_head (op_number Num.GetAttr) Nfs4Ok) }

pub write_attrs-requires : goal.write_attrs-requires
write_attrs-requires c =
    let a = c.about.result in
    let asked = c.args.asked in
    let o = c.args.node.now.object in
    let few = attributes_within asked a o in
    let within : 8 + length (spell_attrs asked a o) ≤ 640 =
    subst (λ (text : List ℕ). 8 + length text ≤ 640) (sym (attributes_spelled asked a o))
    (behind_within 0 (Res.GetAttr (record { attrmask = _; attr_vals = _ })) tt (at_most_three_words asked (table.readable a.profile), omega arith)) in
    record {
      room = room_then c.args.out.now _ (head (op_number Num.GetAttr) Nfs4Ok)
          (spell_attrs asked a o) 640 c.write_done_head.ensures (omega (arith, length_head (op_number Num.GetAttr) Nfs4Ok)) c.requires.room;
    }

pub returns : goal.returns
returns c =
    let s = state_of c.args.store.now in
    let asked = c.args.asked in
    let d = c.args.node.now in
    let same : spell_attrs asked c.about.result d.object ≡ fattr.spell (attributes_of s asked d) =
    ap (λ (p : Profile). spell_mask (common asked (table.readable p)) ++ opaque (values asked c.about.result d.object)) c.about.ensures.profile
    ∙ ap (λ (text : List ℕ). spell_mask (common asked (table.readable s.tree.profile)) ++ opaque text) c.about.ensures.values ∙ attributes_spelled asked (about s d) d.object in
    subst (λ (text : List ℕ). Puts c.args.out.now c.write_attrs.new.sheet (head (op_number Num.GetAttr) Nfs4Ok ++ text)) same
    (puts_then c.write_done_head.ensures c.write_attrs.ensures)
