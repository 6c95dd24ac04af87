use Rattle.std.proofs.Common.{◌∙◌, ap}
use Rattle.std.specs.Prelude.{Err}
use Rattle.nfs_opens.specs.Table.{table}
use Rattle.nfs_names.specs.State.{state_of}
use Rattle.nfs_files.specs.Lock.{locks_as}
use Rattle.nfs_files.proofs.Locked.{denied_comes, refused_comes}
use Rattle.nfs_files.proofs.locking.set_lock.Goals as goal

pub returns-in-Err-Denied : goal.returns-in-Err-Denied
returns-in-Err-Denied c =
    let s = state_of c.args.store.now in
    let who = c.args.locker.now in
    let k = c.args.wished.now in
    denied_comes s c.args.context.now (locks_as s.opens who k.id k.wish) c.in-Err-Denied.held _ _ _
    (table c.lock_bytes.new.opens)
    c.lock_bytes.result (c.in-Err-Denied.is ∙ ap Err c.in-Err-Denied.field-0-is) c.lock_bytes.ensures c.put_denied.ensures.put c.put_denied.ensures.status

pub returns-in-Err-Refused : goal.returns-in-Err-Refused
returns-in-Err-Refused c =
    let s = state_of c.args.store.now in
    let who = c.args.locker.now in
    let k = c.args.wished.now in
    refused_comes s c.args.context.now (locks_as s.opens who k.id k.wish) c.in-Err-Refused.status _ _ _
    (table c.lock_bytes.new.opens)
    c.lock_bytes.result (c.in-Err-Refused.is ∙ ap Err c.in-Err-Refused.field-0-is) c.lock_bytes.ensures c.put_refusal.ensures.put c.put_refusal.ensures.status
