use Rattle.std.proofs.{Common.{◌≡◌, ◌<◌, ◌≤◌, ◌++◌, ◌∷◌, [], List, Option, length, suc, set, subst, sym, ap, ◌∙◌, refl, arith}, lemmas.Grind.common_steps}
use Rattle.std.proofs.lemmas.List.{length-set, append-nil}
use Rattle.std.specs.List.{insert}
use Rattle.nfs_ranges.specs.{Edits.lead}
use Rattle.nfs_opens.specs.Blocks.{Listed, IsParted, added, passes, items_in}
use Rattle.nfs_opens.proofs.BlockLemmas.{block_parted, onward_none, one_changed, one_split}
use Rattle.nfs_opens.proofs.blocks.Blocks.add.Goals as goal

pub returns-then-place-len : goal.returns-then-place-len
returns-then-place-len g c =
    let p = g.S.Search.before c.args.of.now in
    let new = c.args.new in
    let bs = c.self.inside.blocks.items in
    let parted = subst (λ (x : Listed g.row.T.Denot). IsParted p x.items) (sym c.self.view_is) c.requires.parted in
    let place = c.block_of-place.ensures.place ∙ ap (lead (passes p)) c.deref.ensures.value in
    let past : length bs ≤ lead (passes p) bs = (let at = c.if-place-len.true in omega arith) in
    c.push.ensures ∙ subst (λ (x : Listed g.row.T.Denot). x.items ++ new ∷ [] ≡ added p new x.items) c.self.view_is
    (sym (onward_none p (λ (ys : List g.row.T.Denot). new ∷ ys) bs parted past))

pub add-requires-clause-parted : goal.add-requires-clause-parted
add-requires-clause-parted g c =
    let p = g.S.Search.before c.args.of.now in
    let bs = c.self.inside.blocks.items in
    let parted = subst (λ (x : Listed g.row.T.Denot). IsParted p x.items) (sym c.self.view_is) c.requires.parted in
    let less : c.block_of-place.result < length bs = (let bound = c.block_of-place.ensures.bound in let no = c.if-place-len.false in omega arith) in
    block_parted p bs c.block_of-place.result c.index_mut.result.now parted less c.index_mut.ensures.value

pub invariant_of-self : goal.invariant_of-self
invariant_of-self g c =
    let p = g.S.Search.before c.args.of.now in
    let new = c.args.new in
    let bs = c.self.inside.blocks.items in
    let parted = subst (λ (x : Listed g.row.T.Denot). IsParted p x.items) (sym c.self.view_is) c.requires.parted in
    let place = c.block_of-place.ensures.place ∙ ap (lead (passes p)) c.deref.ensures.value in
    let less : c.block_of-place.result < length bs = (let bound = c.block_of-place.ensures.bound in let no = c.if-place-len.false in omega arith) in
    let made : c.insert.new.self.items ≡ insert (set bs c.block_of-place.result c.add.new.self) (suc c.block_of-place.result) c.in-Some.tail = grind (arith, common_steps) in
    record {
      some = (one_split p (λ (ys : List g.row.T.Denot). new ∷ ys) (λ x xs ys. refl) bs c.block_of-place.result c.index_mut.result.now c.self.invariant.some parted
          place less c.index_mut.ensures.value c.add.new.self c.in-Some.tail c.insert.new.self.items c.in-Some.ensures.items c.in-Some.ensures.some
          c.in-Some.ensures.tail.0 made).some;
      room = rw c.in-Some.ensures.tail.1 tt;
    }

pub invariant_of-self-in_default : goal.invariant_of-self-in_default
invariant_of-self-in_default g c =
    let p = g.S.Search.before c.args.of.now in
    let new = c.args.new in
    let bs = c.self.inside.blocks.items in
    let parted = subst (λ (x : Listed g.row.T.Denot). IsParted p x.items) (sym c.self.view_is) c.requires.parted in
    let place = c.block_of-place.ensures.place ∙ ap (lead (passes p)) c.deref.ensures.value in
    let less : c.block_of-place.result < length bs = (let bound = c.block_of-place.ensures.bound in let no = c.if-place-len.false in omega arith) in
    let put = sym (append-nil c.add.new.self)
    ∙ subst (λ (o : Option (List g.row.T.Denot)). c.add.new.self ++ items_in o ≡ added p new c.index_mut.result.now) c.in_default.is c.add.ensures.items in
    record {
      some = (one_changed p (λ (ys : List g.row.T.Denot). new ∷ ys) (λ x xs ys. refl) bs c.block_of-place.result c.index_mut.result.now c.self.invariant.some parted
          place less c.index_mut.ensures.value c.add.new.self put c.add.ensures.some).some;
      room = rw (c.add.ensures.stays c.in_default.is, length-set bs c.block_of-place.result c.add.new.self) c.self.invariant.room;
    }

pub returns-in-Some : goal.returns-in-Some
returns-in-Some g c =
    let p = g.S.Search.before c.args.of.now in
    let new = c.args.new in
    let bs = c.self.inside.blocks.items in
    let parted = subst (λ (x : Listed g.row.T.Denot). IsParted p x.items) (sym c.self.view_is) c.requires.parted in
    let place = c.block_of-place.ensures.place ∙ ap (lead (passes p)) c.deref.ensures.value in
    let less : c.block_of-place.result < length bs = (let bound = c.block_of-place.ensures.bound in let no = c.if-place-len.false in omega arith) in
    let made : c.insert.new.self.items ≡ insert (set bs c.block_of-place.result c.add.new.self) (suc c.block_of-place.result) c.in-Some.tail = grind (arith, common_steps) in
    (one_split p (λ (ys : List g.row.T.Denot). new ∷ ys) (λ x xs ys. refl) bs c.block_of-place.result c.index_mut.result.now c.self.invariant.some parted
    place less c.index_mut.ensures.value c.add.new.self c.in-Some.tail c.insert.new.self.items c.in-Some.ensures.items c.in-Some.ensures.some
    c.in-Some.ensures.tail.0 made).items
    ∙ ap (λ (x : Listed g.row.T.Denot). added p new x.items) c.self.view_is

pub returns-in_default : goal.returns-in_default
returns-in_default g c =
    let p = g.S.Search.before c.args.of.now in
    let new = c.args.new in
    let bs = c.self.inside.blocks.items in
    let parted = subst (λ (x : Listed g.row.T.Denot). IsParted p x.items) (sym c.self.view_is) c.requires.parted in
    let place = c.block_of-place.ensures.place ∙ ap (lead (passes p)) c.deref.ensures.value in
    let less : c.block_of-place.result < length bs = (let bound = c.block_of-place.ensures.bound in let no = c.if-place-len.false in omega arith) in
    let put = sym (append-nil c.add.new.self)
    ∙ subst (λ (o : Option (List g.row.T.Denot)). c.add.new.self ++ items_in o ≡ added p new c.index_mut.result.now) c.in_default.is c.add.ensures.items in
    (one_changed p (λ (ys : List g.row.T.Denot). new ∷ ys) (λ x xs ys. refl) bs c.block_of-place.result c.index_mut.result.now c.self.invariant.some parted
    place less c.index_mut.ensures.value c.add.new.self put c.add.ensures.some).items
    ∙ ap (λ (x : Listed g.row.T.Denot). added p new x.items) c.self.view_is
