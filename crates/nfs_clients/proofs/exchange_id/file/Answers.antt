use Rattle.std.proofs.Common.{◌∷◌, ◌++◌, [], ℕ, List, sym, ◌∙◌, ap, true}
use Rattle.nfs_xdr.specs.Tables.{without_record}
use Rattle.nfs_clients.specs.Roster.{ClientRecord}
use Rattle.nfs_clients.proofs.{Members.the_id, IndexLemmas.{taken_back, put_failed}}
use Rattle.nfs_clients.proofs.exchange_id.file.Goals as goal

pub returns-then-is_err-clause-err : goal.returns-then-is_err-clause-err
returns-then-is_err-clause-err c = (
  c.remove.ensures ∙ ap (λ (xs : List ClientRecord). without_record the_id xs c.id-id.result) c.in_ok-push.ensures.ok
      ∙ ap (λ (n : ℕ). without_record the_id (c.args.records.now ++ c.args.client ∷ []) n) c.id-id.ensures
      ∙ taken_back c.args.records.now c.args.client c.requires,
  put_failed c.put.result _ (sym c.is_err.ensures.value ∙ c.if-is_err.true) c.put.ensures.err,
)
