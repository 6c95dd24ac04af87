use Rattle.std.proofs.Common.{ℕ, ap, ◌∙◌, ◌++◌, sym, arith, List, take, get_or, append_assoc}
use Rattle.std.specs.List.{flat_map}
use Rattle.nfs_attrs.specs.Value.{asked_at}
use Rattle.nfs_attrs.proofs.{Fronts.lacks_whole, Values.{numbers, values_by_number, one_more_number, all_numbers}}
use Rattle.nfs_attrs.proofs.value.values_follow.Goals as goal

pub returns-then-not-asked_follows : goal.returns-then-not-asked_follows
returns-then-not-asked_follows c =
    let f = asked_at c.args.asked.now c.args.about.now c.args.object.now in
    rw values_by_number (lacks_whole f numbers c.loop-number.number-index 0 c.args.cursor.now c.loop-number.cursor c.loop-number-test.true
    c.loop-number.invariant c.if-not-asked_follows.ensures)

pub loop-number-preserved : goal.loop-number-preserved
loop-number-preserved c =
    let f = asked_at c.args.asked.now c.args.about.now c.args.object.now in
    let i = c.loop-number.number-index in
    let front = flat_map f (take i numbers) in
    rw (one_more_number f i c.loop-number-test.true) (c.loop-number.invariant ∙ ap (λ (w : List ℕ). front ++ w) c.if-not-asked_follows.ensures
    ∙ sym (append_assoc front (f (get_or numbers i 0)) _))

pub returns : goal.returns
returns c =
    let f = asked_at c.args.asked.now c.args.about.now c.args.object.now in
    rw (values_by_number, ← all_numbers f c.loop-number.number-index (omega arith)) c.loop-number.invariant
