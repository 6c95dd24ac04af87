use Rattle.std.proofs.Common.{◌≡◌, List, Some, None, subst, sym, ap, ◌∙◌}
use Rattle.std.specs.{Prelude.slice_get, Option.option_copied}
use Rattle.nfs_ranges.specs.{Edits.lead}
use Rattle.nfs_opens.specs.Blocks.{Listed, IsParted, found, passes}
use Rattle.nfs_opens.proofs.{FlatLemmas.got_block, BlockLemmas.{block_parted, found_in, found_none}}
use Rattle.nfs_opens.proofs.blocks.Blocks.find.Goals as goal

pub find-requires : goal.find-requires
find-requires g c =
    let p = g.S.Search.before c.args.of.now in
    let bs = c.self.inside.blocks.items in
    let parted = subst (λ (x : Listed g.row.T.Denot). IsParted p x.items) (sym c.self.view_is) c.requires in
    let got = got_block bs c.block_of.result c.in-Some.block.now
    (ap (λ (ds : List (List g.row.T.Denot)). slice_get ds c.block_of.result) (sym c.deref.ensures.value) ∙ (sym c.item_at.ensures ∙ ap option_copied c.in-Some.is)) in
    block_parted p bs c.block_of.result c.in-Some.block.now parted got.0 got.1

pub returns-in-Some : goal.returns-in-Some
returns-in-Some g c =
    let p = g.S.Search.before c.args.of.now in
    let is = g.S.Search.is c.args.of.now in
    let bs = c.self.inside.blocks.items in
    let parted = subst (λ (x : Listed g.row.T.Denot). IsParted p x.items) (sym c.self.view_is) c.requires in
    let place = c.block_of.ensures.place ∙ ap (lead (passes p)) c.deref-2.ensures.value in
    let at : slice_get bs c.block_of.result ≡ Some c.in-Some.block.now =
    ap (λ (ds : List (List g.row.T.Denot)). slice_get ds c.block_of.result) (sym c.deref.ensures.value) ∙ (sym c.item_at.ensures ∙ ap option_copied c.in-Some.is) in
    c.find.ensures ∙ (found_in p is bs c.in-Some.block.now c.self.invariant.some parted (ap (slice_get bs) (sym place) ∙ at)
    ∙ ap (λ (x : Listed g.row.T.Denot). found p is x.items) c.self.view_is)

pub returns-in-None : goal.returns-in-None
returns-in-None g c =
    let p = g.S.Search.before c.args.of.now in
    let is = g.S.Search.is c.args.of.now in
    let bs = c.self.inside.blocks.items in
    let parted = subst (λ (x : Listed g.row.T.Denot). IsParted p x.items) (sym c.self.view_is) c.requires in
    let place = c.block_of.ensures.place ∙ ap (lead (passes p)) c.deref-2.ensures.value in
    let at : slice_get bs c.block_of.result ≡ None =
    ap (λ (ds : List (List g.row.T.Denot)). slice_get ds c.block_of.result) (sym c.deref.ensures.value) ∙ (sym c.item_at.ensures ∙ ap option_copied c.in-None.is) in
    sym (found_none p is bs c.self.invariant.some parted (ap (slice_get bs) (sym place) ∙ at))
    ∙ ap (λ (x : Listed g.row.T.Denot). found p is x.items) c.self.view_is
