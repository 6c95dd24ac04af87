use Rattle.std.proofs.{Common.{◌≡◌, List, length, ap, ◌∙◌, arith}, lemmas.Result.on_ok_weaker}
use Rattle.nfs_ranges.specs.{Holders.LockedBytes, Blocks.spot, Groups.are_below}
use Rattle.nfs_ranges.proofs.GroupLemmas.{within_some, some_of, got_group, kept_same, set_put}
use Rattle.nfs_ranges.proofs.groups.set.Goals as goal

pub split_full-requires-clause-bound : goal.split_full-requires-clause-bound
split_full-requires-clause-bound c =
    within_some c.args.number c.group_of-full.result (length c.args.groups.now.items) c.args.groups.now.items (omega (arith, some_of _ _ c.is_empty.ensures c.if-is_empty.false)) (omega arith)
    (c.group_of-full.ensures ∙ ap (λ (gs : List LockedBytes). spot (are_below c.args.number) gs) c.deref.ensures.value)

pub index_mut-requires : goal.index_mut-requires
index_mut-requires c =
    let at : c.group_of-group.result ≡ spot (are_below c.args.number) c.split_full.new.groups.items = c.group_of-group.ensures ∙ ap (λ (gs : List LockedBytes). spot (are_below c.args.number) gs) c.deref-2.ensures.value in
    let lt = within_some c.args.number c.group_of-group.result (length c.args.groups.now.items) c.split_full.new.groups.items (omega (arith, some_of _ _ c.is_empty.ensures c.if-is_empty.false)) c.split_full.ensures.bound at in
    omega (arith, lt)

pub set-requires-clause-owners : goal.set-requires-clause-owners
set-requires-clause-owners c =
    let at : c.group_of-group.result ≡ spot (are_below c.args.number) c.split_full.new.groups.items = c.group_of-group.ensures ∙ ap (λ (gs : List LockedBytes). spot (are_below c.args.number) gs) c.deref-2.ensures.value in
    let lt = within_some c.args.number c.group_of-group.result (length c.args.groups.now.items) c.split_full.new.groups.items (omega (arith, some_of _ _ c.is_empty.ensures c.if-is_empty.false)) c.split_full.ensures.bound at in
    got_group c.split_full.new.groups.items c.group_of-group.result c.index_mut.result.now (kept_same c.args.groups.now.items c.split_full.new.groups.items c.split_full.ensures.same c.requires.groups) lt c.index_mut.ensures.value

pub returns-clause-ok : goal.returns-clause-ok
returns-clause-ok c =
    let at : c.group_of-group.result ≡ spot (are_below c.args.number) c.split_full.new.groups.items = c.group_of-group.ensures ∙ ap (λ (gs : List LockedBytes). spot (are_below c.args.number) gs) c.deref-2.ensures.value in
    let lt = within_some c.args.number c.group_of-group.result (length c.args.groups.now.items) c.split_full.new.groups.items (omega (arith, some_of _ _ c.is_empty.ensures c.if-is_empty.false)) c.split_full.ensures.bound at in
    on_ok_weaker c.set.result (λ made. set_put c.args.number c.group_of-group.result (record { kind = c.args.kind; first = c.args.first; last = c.args.last })
    c.args.groups.now.items c.split_full.new.groups.items c.index_mut.result.now c.set.new.self c.requires.groups c.split_full.ensures.same at lt c.index_mut.ensures.value made) c.set.ensures.ok
