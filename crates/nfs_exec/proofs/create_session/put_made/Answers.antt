use Rattle.std.proofs.Common.{ℕ, ◌-◌, ◌≤◌, List, length, take, drop, ap, sym, subst, ◌∙◌}
use Rattle.nfs_results.specs.declared.res.Res.TheVariants as Res
use Rattle.nfs_results.specs.{declared.res.CreateSessionOk.CreateSessionOk, Parts.parts}
use Rattle.nfs_exec.proofs.Step.Creating.{made_fits, put_whole, behind_head, longer, body_within}
use Rattle.nfs_exec.proofs.create_session.put_made.Goals as goal

pub write-requires-clause-room : goal.write-requires-clause-room
write-requires-clause-room c =
    λ arrays. made_fits c.args.out.now c.args.asked.now c.args.id _ c.requires.room (ap Res.CreateSession c.session_made.ensures)

pub slice_bounds-new-count : goal.slice_bounds-new-count
slice_bounds-new-count c =
    let r = Res.CreateSession c.session_made.result in
    let whole = ap (λ (xs : List ℕ). take (length xs - c.len-begin.result) (drop c.len-begin.result xs)) c.bytes.ensures
    ∙ put_whole c.args.out.now c.write.new.out r c.len-begin.result c.write.ensures c.len-begin.ensures.value in
    subst (λ (t : List ℕ). 8 ≤ length t) (sym whole) (longer r)

pub slice_bounds-new-start : goal.slice_bounds-new-start
slice_bounds-new-start c =
    let r = Res.CreateSession c.session_made.result in
    let whole = ap (λ (xs : List ℕ). take (length xs - c.len-begin.result) (drop c.len-begin.result xs)) c.bytes.ensures
    ∙ put_whole c.args.out.now c.write.new.out r c.len-begin.result c.write.ensures c.len-begin.ensures.value in
    subst (λ (t : List ℕ). 8 ≤ length t) (sym whole) (longer r)

pub new-requires : goal.new-requires
new-requires c =
    let r = Res.CreateSession c.session_made.result in
    let whole = ap (λ (xs : List ℕ). take (length xs - c.len-begin.result) (drop c.len-begin.result xs)) c.bytes.ensures
    ∙ put_whole c.args.out.now c.write.new.out r c.len-begin.result c.write.ensures c.len-begin.ensures.value in
    subst (λ (t : List ℕ). length t ≤ 84)
    (sym (behind_head r _ whole ∙ ap (λ (s : CreateSessionOk). (parts (Res.CreateSession s)).behind) c.session_made.ensures))
    (body_within c.args.asked.now c.args.id)

pub returns-clause-body : goal.returns-clause-body
returns-clause-body c =
    let r = Res.CreateSession c.session_made.result in
    let whole = ap (λ (xs : List ℕ). take (length xs - c.len-begin.result) (drop c.len-begin.result xs)) c.bytes.ensures
    ∙ put_whole c.args.out.now c.write.new.out r c.len-begin.result c.write.ensures c.len-begin.ensures.value in
    c.new.ensures ∙ behind_head r _ whole ∙ ap (λ (s : CreateSessionOk). (parts (Res.CreateSession s)).behind) c.session_made.ensures
