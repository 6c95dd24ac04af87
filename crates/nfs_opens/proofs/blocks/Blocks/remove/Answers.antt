use Rattle.std.proofs.{Common.{◌≡◌, ◌<◌, ◌≤◌, length, subst, sym, ap, ◌∙◌, arith}, lemmas.List.{length-set, append-nil}}
use Rattle.nfs_ranges.specs.{Blocks.flat, Edits.lead}
use Rattle.nfs_opens.specs.Blocks.{Listed, IsParted, removed, first_out, passes}
use Rattle.nfs_opens.proofs.{FlatLemmas.room_kept, BlockLemmas.{block_parted, onward_none, one_changed, one_emptied, first_removed}}
use Rattle.nfs_opens.proofs.blocks.Blocks.remove.Goals as goal

pub returns-then-place-len-clause-items : goal.returns-then-place-len-clause-items
returns-then-place-len-clause-items g c =
    let p = g.S.Search.before c.args.of.now in
    let is = g.S.Search.is c.args.of.now in
    let bs = c.self.inside.blocks.items in
    let parted = subst (λ (x : Listed g.row.T.Denot). IsParted p x.items) (sym c.self.view_is) c.requires in
    let place = c.block_of-place.ensures.place ∙ ap (lead (passes p)) c.deref.ensures.value in
    let past : length bs ≤ lead (passes p) bs = (let at = c.if-place-len.true in omega arith) in
    subst (λ (x : Listed g.row.T.Denot). x.items ≡ removed p is x.items) c.self.view_is
    (sym (onward_none p (first_out is) bs parted past ∙ append-nil (flat bs)))

pub remove-stays-requires : goal.remove-stays-requires
remove-stays-requires g c =
    let p = g.S.Search.before c.args.of.now in
    let bs = c.self.inside.blocks.items in
    let parted = subst (λ (x : Listed g.row.T.Denot). IsParted p x.items) (sym c.self.view_is) c.requires in
    let less : c.block_of-place.result < length bs = (let bound = c.block_of-place.ensures.bound in let no = c.if-place-len.false in omega arith) in
    block_parted p bs c.block_of-place.result c.index_mut.result.now parted less c.index_mut.ensures.value

pub invariant_of-self : goal.invariant_of-self
invariant_of-self g c =
    let p = g.S.Search.before c.args.of.now in
    let is = g.S.Search.is c.args.of.now in
    let bs = c.self.inside.blocks.items in
    let parted = subst (λ (x : Listed g.row.T.Denot). IsParted p x.items) (sym c.self.view_is) c.requires in
    let place = c.block_of-place.ensures.place ∙ ap (lead (passes p)) c.deref.ensures.value in
    let less : c.block_of-place.result < length bs = (let bound = c.block_of-place.ensures.bound in let no = c.if-place-len.false in omega arith) in
    record {
      some = (one_emptied p (first_out is) (first_removed is) bs c.block_of-place.result c.index_mut.result.now c.self.invariant.some parted place less
          c.index_mut.ensures.value c.remove-stays.new.self c.remove.new.self.items c.remove-stays.ensures.items (c.remove-stays.ensures.none c.if-not-stays.true)
          c.remove.ensures.items).some;
      room = room_kept c.self.inside.spare (length bs) (length c.remove.new.self.items) _ _ c.self.invariant.room (omega arith) c.remove.ensures.capacity;
    }

pub invariant_of-self-else-not-stays : goal.invariant_of-self-else-not-stays
invariant_of-self-else-not-stays g c =
    let p = g.S.Search.before c.args.of.now in
    let is = g.S.Search.is c.args.of.now in
    let bs = c.self.inside.blocks.items in
    let parted = subst (λ (x : Listed g.row.T.Denot). IsParted p x.items) (sym c.self.view_is) c.requires in
    let place = c.block_of-place.ensures.place ∙ ap (lead (passes p)) c.deref.ensures.value in
    let less : c.block_of-place.result < length bs = (let bound = c.block_of-place.ensures.bound in let no = c.if-place-len.false in omega arith) in
    record {
      some = (one_changed p (first_out is) (first_removed is) bs c.block_of-place.result c.index_mut.result.now c.self.invariant.some parted place less
          c.index_mut.ensures.value c.remove-stays.new.self c.remove-stays.ensures.items (c.remove-stays.ensures.some c.if-not-stays.false)).some;
      room = rw (length-set bs c.block_of-place.result c.remove-stays.new.self) c.self.invariant.room;
    }

pub returns-then-not-stays-clause-items : goal.returns-then-not-stays-clause-items
returns-then-not-stays-clause-items g c =
    let p = g.S.Search.before c.args.of.now in
    let is = g.S.Search.is c.args.of.now in
    let bs = c.self.inside.blocks.items in
    let parted = subst (λ (x : Listed g.row.T.Denot). IsParted p x.items) (sym c.self.view_is) c.requires in
    let place = c.block_of-place.ensures.place ∙ ap (lead (passes p)) c.deref.ensures.value in
    let less : c.block_of-place.result < length bs = (let bound = c.block_of-place.ensures.bound in let no = c.if-place-len.false in omega arith) in
    (one_emptied p (first_out is) (first_removed is) bs c.block_of-place.result c.index_mut.result.now c.self.invariant.some parted place less
    c.index_mut.ensures.value c.remove-stays.new.self c.remove.new.self.items c.remove-stays.ensures.items (c.remove-stays.ensures.none c.if-not-stays.true)
    c.remove.ensures.items).items
    ∙ ap (λ (x : Listed g.row.T.Denot). removed p is x.items) c.self.view_is

pub returns-else-not-stays-clause-items : goal.returns-else-not-stays-clause-items
returns-else-not-stays-clause-items g c =
    let p = g.S.Search.before c.args.of.now in
    let is = g.S.Search.is c.args.of.now in
    let bs = c.self.inside.blocks.items in
    let parted = subst (λ (x : Listed g.row.T.Denot). IsParted p x.items) (sym c.self.view_is) c.requires in
    let place = c.block_of-place.ensures.place ∙ ap (lead (passes p)) c.deref.ensures.value in
    let less : c.block_of-place.result < length bs = (let bound = c.block_of-place.ensures.bound in let no = c.if-place-len.false in omega arith) in
    (one_changed p (first_out is) (first_removed is) bs c.block_of-place.result c.index_mut.result.now c.self.invariant.some parted place less
    c.index_mut.ensures.value c.remove-stays.new.self c.remove-stays.ensures.items (c.remove-stays.ensures.some c.if-not-stays.false)).items
    ∙ ap (λ (x : Listed g.row.T.Denot). removed p is x.items) c.self.view_is
