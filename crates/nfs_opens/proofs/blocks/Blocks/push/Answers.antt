use Rattle.std.proofs.{Common.{◌≡◌, ◌++◌, ◌∷◌, [], List, suc, length, sym, ap, ◌∙◌, arith}, lemmas.Grind.common_steps, lemmas.List.length-set}
use Rattle.std.specs.Prelude.{vec_capacity}
use Rattle.nfs_opens.specs.Blocks.{Listed}
use Rattle.nfs_opens.proofs.BlockLemmas.{spare_empty, pushed_last, pushed_new}
use Rattle.nfs_opens.proofs.blocks.Blocks.push.Goals as goal

pub invariant_of-self : goal.invariant_of-self
invariant_of-self g c =
    let bs = c.self.inside.blocks.items in
    let last : length bs ≡ suc c.in-Some.last = grind (arith, common_steps) in
    record {
      some = (pushed_last bs c.in-Some.last c.index_mut.result.now c.push.new.self c.args.new c.self.invariant.some last c.index_mut.ensures.value c.push.ensures).some;
      room = rw (length-set bs c.in-Some.last c.push.new.self) c.self.invariant.room;
    }

pub returns-in-Some : goal.returns-in-Some
returns-in-Some g c =
    let bs = c.self.inside.blocks.items in
    let last : length bs ≡ suc c.in-Some.last = grind (arith, common_steps) in
    (pushed_last bs c.in-Some.last c.index_mut.result.now c.push.new.self c.args.new c.self.invariant.some last c.index_mut.ensures.value c.push.ensures).items
    ∙ ap (λ (x : Listed g.row.T.Denot). x.items ++ c.args.new ∷ []) c.self.view_is

pub invariant_of-self-2 : goal.invariant_of-self-2
invariant_of-self-2 g c =
    let bs = c.self.inside.blocks.items in
    let made : c.push-3.new.self.items ≡ bs ++ c.push-2.new.self ∷ [] = grind (arith, common_steps) in
    let empty = spare_empty c.self.inside.spare c.unwrap-block.result (length bs) (vec_capacity c.self.inside.blocks) c.self.invariant.room
    (sym c.take.ensures.value ∙ c.unwrap-block.ensures) in
    let one = c.push-2.ensures ∙ ap (λ (ys : List g.row.T.Denot). ys ++ c.args.new ∷ []) empty in
    record {
      some = (pushed_new bs c.push-3.new.self.items c.push-2.new.self c.args.new c.self.invariant.some one made).some;
      room = grind (arith, common_steps);
    }

pub returns : goal.returns
returns g c =
    let bs = c.self.inside.blocks.items in
    let made : c.push-3.new.self.items ≡ bs ++ c.push-2.new.self ∷ [] = grind (arith, common_steps) in
    let empty = spare_empty c.self.inside.spare c.unwrap-block.result (length bs) (vec_capacity c.self.inside.blocks) c.self.invariant.room
    (sym c.take.ensures.value ∙ c.unwrap-block.ensures) in
    let one = c.push-2.ensures ∙ ap (λ (ys : List g.row.T.Denot). ys ++ c.args.new ∷ []) empty in
    (pushed_new bs c.push-3.new.self.items c.push-2.new.self c.args.new c.self.invariant.some one made).items
    ∙ ap (λ (x : Listed g.row.T.Denot). x.items ++ c.args.new ∷ []) c.self.view_is
