use Rattle.std.proofs.{Common.{◌≡◌, ◌+◌, length, refl, sym, ap, subst, arith, ◌∙◌}, lemmas.List.length-append}
use Rattle.std.specs.List.{flat_map}
use Rattle.nfs_xdr.specs.{SheetState.{SheetState, Puts}, declared.status.Status.TheVariants.TooSmall}
use Rattle.nfs_results.specs.{Results.{spell_result, refusal}, Straight.{entry_text, read_dir_head}}
use Rattle.nfs_names.specs.{State.state_of, ReadDir.{zeros, fitting}}
use Rattle.nfs_names.proofs.Entering.{given_least}
use Rattle.nfs_names.proofs.Listed.{too_small, all_small, some_small, fitting_within, front_length, end_length, taken_back, listed_whole, lists_some}
use Rattle.nfs_names.proofs.Listed.{lists_none}
use Rattle.nfs_names.proofs.listing.put_listing.Goals as goal
use Rattle.nfs_names.proofs.listing.put_listing.Goals.{else-not-whole-via-then-not-whole+else-len-before, else-not-whole-via-else-not-whole}

pub write_read_dir_head-requires : goal.write_read_dir_head-requires
write_read_dir_head-requires c = let least = given_least c.args.asked.now.maxcount c.requires.count in record { room = omega (arith, front_length) }

pub put_entries-whole-requires-clause-room : goal.put_entries-whole-requires-clause-room
put_entries-whole-requires-clause-room c =
    let put = c.write_read_dir_head.ensures in
    omega (arith, put.room, front_length, ap length put.bytes ∙ length-append c.args.out.now.bytes (read_dir_head zeros))

pub returns-then-len-before : goal.returns-then-len-before
returns-then-len-before c =
    let s = state_of c.args.store.now in
    let a = c.args.asked.now in
    let d = c.args.place.now in
    let text = flat_map entry_text (fitting s a d) in
    let put = c.put_entries-whole.ensures.put in
    let count : length c.put_entries-whole.new.out.bytes ≡ length c.write_read_dir_head.new.out.bytes + length text =
    ap length put.bytes ∙ length-append c.write_read_dir_head.new.out.bytes text in
    let now = c.len.ensures.value in
    let before = c.len-before.ensures.value in
    let none : length text ≡ 0 = omega arith in
    let back : c.cut.new.self ≡ c.args.out.now = c.cut.ensures ∙ taken_back c.args.out.now c.write_read_dir_head.new.out c.put_entries-whole.new.out
    (read_dir_head zeros) text c.len-start.result c.write_read_dir_head.ensures put c.len-start.ensures.value in
    lists_none c.put_refusal.result _ _ c.args.out.now c.put_refusal.new.out
    (too_small s a d c.if-not-whole.ensures.all none) c.put_refusal.ensures.status
    (subst (λ (p : SheetState). Puts p c.put_refusal.new.out (spell_result (refusal 26 TooSmall))) back c.put_refusal.ensures.put)

pub write_list_end-requires : goal.write_list_end-requires
write_list_end-requires c =
    let s = state_of c.args.store.now in
    let a = c.args.asked.now in
    let d = c.args.place.now in
    let text = flat_map entry_text (fitting s a d) in
    let first = c.write_read_dir_head.ensures in
    let put = c.put_entries-whole.ensures.put in
    let front : length c.write_read_dir_head.new.out.bytes ≡ length c.args.out.now.bytes + length (read_dir_head zeros) =
    ap length first.bytes ∙ length-append c.args.out.now.bytes (read_dir_head zeros) in
    let count : length c.put_entries-whole.new.out.bytes ≡ length c.write_read_dir_head.new.out.bytes + length text =
    ap length put.bytes ∙ length-append c.write_read_dir_head.new.out.bytes text in
    let few = fitting_within s a d c.requires.count in
    record { room = omega (arith, front_length, end_length c.put_entries-whole.result, first.room, put.room) }

pub returns : goal.returns
returns c =
    let s = state_of c.args.store.now in
    let a = c.args.asked.now in
    let d = c.args.place.now in
    let text = flat_map entry_text (fitting s a d) in
    let put = c.put_entries-whole.ensures.put in
    let count : length c.put_entries-whole.new.out.bytes ≡ length c.write_read_dir_head.new.out.bytes + length text =
    ap length put.bytes ∙ length-append c.write_read_dir_head.new.out.bytes text in
    let before = c.len-before.ensures.value in
    lists_some _ _ _ c.args.out.now c.write_list_end.new.out
    (elim c.else-not-whole.branch [
      | else-not-whole-via-then-not-whole+else-len-before w ↦
          some_small s a d (λ z. (let now = w.len.ensures.value in let other = w.if-len-before.false in other (omega arith)))
      | else-not-whole-via-else-not-whole w ↦ all_small s a d (sym w.if-not-whole.false ∙ c.put_entries-whole.ensures.all)
    ]) refl
    (listed_whole s a d c.args.out.now c.write_read_dir_head.new.out c.put_entries-whole.new.out c.write_list_end.new.out
    c.put_entries-whole.result c.write_read_dir_head.ensures put c.write_list_end.ensures c.put_entries-whole.ensures.all)
