use Rattle.std.proofs.{Common.{◌≡◌, ◌<◌, ◌≤◌, length, subst, sym, ap, ◌∙◌, arith}, lemmas.List.{length-set, append-nil}}
use Rattle.nfs_ranges.specs.{Blocks.flat, Edits.lead}
use Rattle.nfs_opens.specs.Blocks.{Listed, IsParted, changed, first_changed, passes}
use Rattle.nfs_opens.proofs.BlockLemmas.{block_parted, block_some, onward_none, one_changed, first_made}
use Rattle.nfs_opens.proofs.blocks.Blocks.change.Goals as goal

pub change-requires : goal.change-requires
change-requires g c =
    let p = g.S.Search.before c.args.of.now in
    let bs = c.self.inside.blocks.items in
    let parted = subst (λ (x : Listed g.row.T.Denot). IsParted p x.items) (sym c.self.view_is) c.requires in
    let less : c.block_of-place.result < length bs = (let met = c.if-place-len.true in omega arith) in
    block_parted p bs c.block_of-place.result c.index_mut.result.now parted less c.index_mut.ensures.value

pub invariant_of-self : goal.invariant_of-self
invariant_of-self g c =
    let p = g.S.Search.before c.args.of.now in
    let is = g.S.Search.is c.args.of.now in
    let f = g.C.Change.changed c.args.change.now in
    let bs = c.self.inside.blocks.items in
    let parted = subst (λ (x : Listed g.row.T.Denot). IsParted p x.items) (sym c.self.view_is) c.requires in
    let place = c.block_of-place.ensures.place ∙ ap (lead (passes p)) c.deref.ensures.value in
    let less : c.block_of-place.result < length bs = (let met = c.if-place-len.true in omega arith) in
    let full = c.change.ensures.some (block_some bs c.block_of-place.result c.index_mut.result.now c.self.invariant.some less c.index_mut.ensures.value) in
    record {
      some = (one_changed p (first_changed is f) (first_made is f) bs c.block_of-place.result c.index_mut.result.now c.self.invariant.some parted place less
          c.index_mut.ensures.value c.change.new.self c.change.ensures.items full).some;
      room = rw (length-set bs c.block_of-place.result c.change.new.self) c.self.invariant.room;
    }

pub returns-then-place-len-clause-items : goal.returns-then-place-len-clause-items
returns-then-place-len-clause-items g c =
    let p = g.S.Search.before c.args.of.now in
    let is = g.S.Search.is c.args.of.now in
    let f = g.C.Change.changed c.args.change.now in
    let bs = c.self.inside.blocks.items in
    let parted = subst (λ (x : Listed g.row.T.Denot). IsParted p x.items) (sym c.self.view_is) c.requires in
    let place = c.block_of-place.ensures.place ∙ ap (lead (passes p)) c.deref.ensures.value in
    let less : c.block_of-place.result < length bs = (let met = c.if-place-len.true in omega arith) in
    let full = c.change.ensures.some (block_some bs c.block_of-place.result c.index_mut.result.now c.self.invariant.some less c.index_mut.ensures.value) in
    (one_changed p (first_changed is f) (first_made is f) bs c.block_of-place.result c.index_mut.result.now c.self.invariant.some parted place less
    c.index_mut.ensures.value c.change.new.self c.change.ensures.items full).items
    ∙ ap (λ (x : Listed g.row.T.Denot). changed p is f x.items) c.self.view_is

pub returns-else-place-len-clause-items : goal.returns-else-place-len-clause-items
returns-else-place-len-clause-items g c =
    let p = g.S.Search.before c.args.of.now in
    let is = g.S.Search.is c.args.of.now in
    let f = g.C.Change.changed c.args.change.now in
    let bs = c.self.inside.blocks.items in
    let parted = subst (λ (x : Listed g.row.T.Denot). IsParted p x.items) (sym c.self.view_is) c.requires in
    let place = c.block_of-place.ensures.place ∙ ap (lead (passes p)) c.deref.ensures.value in
    let past : length bs ≤ lead (passes p) bs = (let no = c.if-place-len.false in omega arith) in
    subst (λ (x : Listed g.row.T.Denot). x.items ≡ changed p is f x.items) c.self.view_is
    (sym (onward_none p (first_changed is f) bs parted past ∙ append-nil (flat bs)))
