use Rattle.std.proofs.Common.{true, false, sym, ◌∙◌, ap}
use Rattle.std.specs.{Prelude.{◌==◌, ◌&&◌, not}, Option.option_copied}
use Rattle.nfs_opens.specs.Table.{table}
use Rattle.nfs_opens.proofs.IndexedLemmas.{file_of, others_file, walk_bounds, any_begins, any_hits, any_misses, any_ends, said_of}
use Rattle.nfs_opens.proofs.opens.Opens.has_other.Goals as goal

pub loop-open-init : goal.loop-open-init
loop-open-init c = any_begins (table c.args.self.now) (λ o. (o.file == c.args.file) && not (o.client == c.args.client)) c.kept.ensures

pub loop-open-smaller : goal.loop-open-smaller
loop-open-smaller c = walk_bounds (table c.args.self.now) file_of c.args.file c.loop-open.after c.in-Some.open.now c.next_open.ensures.kept
    (sym c.next_open.ensures.found ∙ ap option_copied c.in-Some.is)

pub loop-open-preserved : goal.loop-open-preserved
loop-open-preserved c = any_misses (table c.args.self.now) file_of (λ o. (o.file == c.args.file) && not (o.client == c.args.client)) c.args.file
    (others_file c.args.file c.args.client) c.next_open.ensures.kept c.loop-open.after c.in-Some.open.now
    (sym c.next_open.ensures.found ∙ ap option_copied c.in-Some.is) (said_of (table c.args.self.now) c.args.file c.loop-open.after c.in-Some.open.now
    (not (c.in-Some.open.now.client == c.args.client)) false (sym c.next_open.ensures.found ∙ ap option_copied c.in-Some.is)
    (sym c.is_others.ensures ∙ c.if-is_others.false)) ∙ c.loop-open.invariant

pub returns-then-is_others : goal.returns-then-is_others
returns-then-is_others c = sym (any_hits (table c.args.self.now) file_of (λ o. (o.file == c.args.file) && not (o.client == c.args.client)) c.args.file
    (others_file c.args.file c.args.client) c.next_open.ensures.kept c.loop-open.after c.in-Some.open.now
    (sym c.next_open.ensures.found ∙ ap option_copied c.in-Some.is) (said_of (table c.args.self.now) c.args.file c.loop-open.after c.in-Some.open.now
    (not (c.in-Some.open.now.client == c.args.client)) true (sym c.next_open.ensures.found ∙ ap option_copied c.in-Some.is) (sym c.is_others.ensures ∙
    c.if-is_others.true)))

pub returns : goal.returns
returns c = sym (any_ends (table c.args.self.now) file_of (λ o. (o.file == c.args.file) && not (o.client == c.args.client)) c.args.file
    (others_file c.args.file c.args.client) c.next_open.ensures.kept c.loop-open.after
    (sym c.next_open.ensures.found ∙ ap option_copied c.in_default.is)) ∙ c.loop-open.invariant
