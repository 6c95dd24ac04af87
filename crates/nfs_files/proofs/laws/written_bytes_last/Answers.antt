use Rattle.nfs_results.specs.Results.{spell_result}
use Rattle.nfs_files.specs.Written.{Lasts, Writes, Spares, Reads, GivesIt}
use Rattle.nfs_files.proofs.{Outcomes.for_each, WrittenSpared.{spared_bytes_last, names_leave_bytes}, WrittenTold.{writes_leave_bytes, reads_give_bytes}}
use Rattle.nfs_files.proofs.laws.written_bytes_last.Goals as goal

pub returns : goal.returns
returns c = record {
  writes = λ b refused s x now i tree. for_each (λ o. Writes b x i (spell_result o.result) → Lasts b o.state.tree) refused s x now i
      (writes_leave_bytes b refused s x now i tree);
  spared = λ b refused s x now i lasts. for_each (λ o. Spares b s x i (spell_result o.result) → Lasts b o.state.tree) refused s x now i
      (spared_bytes_last b refused s x now i lasts);
  names = names_leave_bytes;
  reads = λ b refused s x now i lasts. for_each (λ o. (r : Reads b.file b.place x i (spell_result o.result)) → GivesIt b x i (spell_result o.result) r) refused s x
      now i (reads_give_bytes b refused s x now i lasts);
}
