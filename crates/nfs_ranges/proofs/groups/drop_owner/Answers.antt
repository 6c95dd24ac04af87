use Rattle.std.proofs.{Common.{◌≡◌, List, length, ap, ◌∙◌, arith}, lemmas.List.length-set}
use Rattle.nfs_ranges.specs.{Holders.LockedBytes, Blocks.spot, Groups.are_below}
use Rattle.nfs_ranges.proofs.GroupLemmas.{within_some, some_of, got_group, but_set, drop_put}
use Rattle.nfs_ranges.proofs.groups.drop_owner.Goals as goal

pub index_mut-requires : goal.index_mut-requires
index_mut-requires c =
    let at : c.group_of-group.result ≡ spot (are_below c.args.number) c.args.groups.now.items = c.group_of-group.ensures ∙ ap (λ (gs : List LockedBytes). spot (are_below c.args.number) gs) c.deref.ensures.value in
    let lt = (within_some c.args.number c.group_of-group.result (length c.args.groups.now.items) c.args.groups.now.items (omega (arith, some_of _ _ c.is_empty.ensures c.if-is_empty.false)) (omega arith) at) in
    omega (arith, lt)

pub drop_owner-requires : goal.drop_owner-requires
drop_owner-requires c =
    let at : c.group_of-group.result ≡ spot (are_below c.args.number) c.args.groups.now.items = c.group_of-group.ensures ∙ ap (λ (gs : List LockedBytes). spot (are_below c.args.number) gs) c.deref.ensures.value in
    let lt = (within_some c.args.number c.group_of-group.result (length c.args.groups.now.items) c.args.groups.now.items (omega (arith, some_of _ _ c.is_empty.ensures c.if-is_empty.false)) (omega arith) at) in
    got_group c.args.groups.now.items c.group_of-group.result c.index_mut.result.now c.requires lt c.index_mut.ensures.value

pub tidy-requires-clause-bound : goal.tidy-requires-clause-bound
tidy-requires-clause-bound c =
    let at : c.group_of-group.result ≡ spot (are_below c.args.number) c.args.groups.now.items = c.group_of-group.ensures ∙ ap (λ (gs : List LockedBytes). spot (are_below c.args.number) gs) c.deref.ensures.value in
    let lt = (within_some c.args.number c.group_of-group.result (length c.args.groups.now.items) c.args.groups.now.items (omega (arith, some_of _ _ c.is_empty.ensures c.if-is_empty.false)) (omega arith) at) in
    rw (length-set c.args.groups.now.items c.group_of-group.result c.drop_owner.new.self) lt

pub tidy-requires-clause-some : goal.tidy-requires-clause-some
tidy-requires-clause-some c = but_set c.args.groups.now.items c.group_of-group.result c.drop_owner.new.self c.requires.some

pub returns : goal.returns
returns c =
    let at : c.group_of-group.result ≡ spot (are_below c.args.number) c.args.groups.now.items = c.group_of-group.ensures ∙ ap (λ (gs : List LockedBytes). spot (are_below c.args.number) gs) c.deref.ensures.value in
    let lt = (within_some c.args.number c.group_of-group.result (length c.args.groups.now.items) c.args.groups.now.items (omega (arith, some_of _ _ c.is_empty.ensures c.if-is_empty.false)) (omega arith) at) in
    drop_put c.args.number c.group_of-group.result c.args.groups.now.items c.tidy.new.groups.items c.index_mut.result.now c.drop_owner.new.self c.requires at lt
    c.index_mut.ensures.value c.drop_owner.ensures c.tidy.ensures
