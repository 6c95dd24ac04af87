-- What is put fits.
use Rattle.std.proofs.{Common.{◌≡◌, ℕ, ◌+◌, ◌≤◌, length, Option, Some, None, sym, subst, arith}, lemmas.List.length-take}
use Rattle.nfs_xdr.specs.SheetState.{SheetState, HasRoom}
use Rattle.nfs_results.specs.{declared.res.Res.Res, declared.res.Denied.Denied, Results.{spell_result, operation_of}, ResultCodec.HasArrays, Largest.largest_of}
use Rattle.nfs_results.specs.MayAnswer.{HasSizes}
use Rattle.nfs_results.proofs.Lengths.{behind_within, length_spelled}
use Rattle.nfs_ranges.specs.declared.Held.{Held}
use Rattle.nfs_opens.specs.{declared.records.LockState.LockState, Table.{Table, lock_at}}
use Rattle.nfs_files.specs.Denied.{holder, lock_denied}

pub room_for : (r : Res) (sheet : SheetState) (n : ℕ) → HasArrays r → HasSizes 0 r
    → largest_of (operation_of r) 0 ≡ n → length sheet.bytes + n ≤ sheet.room → HasRoom sheet (spell_result r)
room_for r sheet n arrays sizes most room =
    let within = behind_within 0 r arrays sizes in
    let whole = length_spelled r in
    omega (arith, most)

few_held : (l : Option LockState) → length (holder l).owner ≤ 1024
few_held None = omega arith
few_held (Some l) = omega (arith, length-take 1024 l.owner)

pub few_denied : (t : Table) (h : Held) → length (lock_denied t h).owner.owner ≤ 1024
unfolding lock_denied
few_denied t h = few_held (lock_at t h.owner)

-- whatever names the lock that is reported
pub few_told : (t : Table) (h : Held) (d : Denied) → d ≡ lock_denied t h → length d.owner.owner ≤ 1024
few_told t h d is = subst (λ (d : Denied). length d.owner.owner ≤ 1024) (sym is) (few_denied t h)
