use Rattle.std.proofs.{Common.{◌∙◌, ◌++◌, ap, sym, subst, map, ℕ, List}, lemmas.List.FromFn.length-map-range_with_len}
use Rattle.std.specs.{Prelude.{take, drop}, List.range_with_len}
use Rattle.nfs_xdr.specs.{SheetState.HasRoom, Spelling.{opaque}}
use Rattle.nfs_pages.specs.{Bytes.Content, Pages.{page_of, byte_in, bytes}}
use Rattle.nfs_pages.proofs.PageLemmas.{part_is, opaque_is, opaque_fits}
use Rattle.nfs_pages.proofs.bytes.Bytes.read.Goals as goal

pub put_part-requires-clause-room : goal.put_part-requires-clause-room
put_part-requires-clause-room c =
    let pages : ℕ → List ℕ = page_of c.self.inside.pages in
    let size : ℕ = c.self.inside.size in
    let start : ℕ = c.min-start.result in
    let n : ℕ = c.min-count.result in
    let part : List ℕ = take c.args.count (drop c.args.offset (bytes pages size)) in
    let same = part_is pages size c.args.offset c.args.count start n c.min-start.ensures c.min-count.ensures in
    opaque_fits part (map (byte_in pages) (range_with_len start n)) n c.args.out.now same (length-map-range_with_len (byte_in pages) start n)
    (subst (λ (x : Content). HasRoom c.args.out.now (opaque (take c.args.count (drop c.args.offset x.bytes)))) (sym c.self.view_is) c.requires)

pub returns : goal.returns
returns c =
    let pages : ℕ → List ℕ = page_of c.self.inside.pages in
    let size : ℕ = c.self.inside.size in
    let start : ℕ = c.min-start.result in
    let n : ℕ = c.min-count.result in
    let part : List ℕ = take c.args.count (drop c.args.offset (bytes pages size)) in
    let same = part_is pages size c.args.offset c.args.count start n c.min-start.ensures c.min-count.ensures in
    rw (← c.self.view_is) (record {
      bytes = c.put_part.ensures.bytes
          ∙ ap (λ (ys : List ℕ). c.args.out.now.bytes ++ ys) (opaque_is part (map (byte_in pages) (range_with_len start n)) n same (length-map-range_with_len (byte_in pages) start n));
      room = c.put_part.ensures.room;
    })
