-- Two LOCKs of new lock owners that are told the same lock state are of one owner.
use Rattle.std.proofs.Common.{◌≡◌, suc, sym, ◌∙◌, arith, inl, inr}
use Rattle.nfs_xdr.proofs.Tables.{in_bounds}
use Rattle.nfs_opens.specs.{declared.records.LockState.LockState, Table.Table}
use Rattle.nfs_promises.proofs.Runs.{LockStates.Descends, LockOwners.{owned_behind, owned_client}}
use Rattle.nfs_exec.proofs.Runs.{WhatWasDone.told_there, OneRun.IsRun, KeptByRuns.Is}
use Rattle.nfs_exec.specs.{Runs.Ops.RanOp}
use Rattle.nfs_promises.specs.Runs.LockOwners.{AreOne}

pub are_one : (first second : RanOp) → IsRun first → Is first.behind → IsRun second → Is second.behind
    → Descends first.behind.store.opens second.behind.store.opens → AreOne first second
are_one first second r is q has down n m w v one two o p mine its some more same =
    let t : Table = first.behind.store.opens in
    let k = told_there first r is n w one some in
    let l = told_there second q has m v two more in
    elim (down.states l.0 l.1) [
      | inl was ↦
          (let number : was.0.number ≡ n = was.2.number ∙ (l.2 ∙ sym same) in (
            sym (owned_behind first r n w one o mine was.0 was.1 number) ∙ (was.2.owner ∙ owned_behind second q m v two p its l.0 l.1 l.2),
            sym (owned_client first r n w one was.0 was.1 number) ∙ (was.2.client ∙ owned_client second q m v two l.0 l.1 l.2),
          ))
      | inr new ↦
          absurd (let below = in_bounds (λ (l : LockState). l.number) 1 (suc t.last) t.locks k.0 is.table.locks k.1 in
          let its = l.2 in let here = k.2 in omega (arith, new, below.1, its, here, same))
    ]
