-- The run of a lock that is kept, computed.
use Rattle.std.proofs.Common.{◌≡◌, ℕ, ◌+◌, ◌≤◌, Bool, true, false, List, [], ◌∷◌, ◌++◌, length, take, drop, refl, sym, ◌∙◌, ap, arith}
use Rattle.std.proofs.lemmas.Bool.{and_parts, leb-true, true≢false}
use Rattle.std.specs.{Prelude.{◌&&◌, not, nat_le, bytes_eq, if◌then◌else◌, Ok}, Int.{w64, from_be_bytes}}
use Rattle.std.specs.List.{list_all}
use Rattle.nfs_xdr.specs.Spelling.{number}
use Rattle.nfs_compound.specs.declared.{op_num.OpNum.OpNum, op.Item.{Item, TheVariants.Operation}, lock_args.{Lock.Lock, Locker.TheVariants.OpenOwner}}
use Rattle.nfs_compound.specs.declared.op_num.OpNum.TheVariants as Num
use Rattle.nfs_results.specs.Results.{done_head}
use Rattle.nfs_compound.specs.declared.op.Op.TheVariants as Op
use Rattle.nfs_compound.specs.declared.lock_args.LockType.TheVariants as LockTypes
use Rattle.nfs_files.specs.{Ranges.wished, LockTold.{LockTold, Names}}
use Rattle.nfs_exec.specs.{Runs.Ops.RanOp, Runs.{Kept.{Kept, after_all}, LockHeld.{LocksFor, Spares, AreSpared, the_lock}}}
use Rattle.nfs_exec.specs.Runs.Kept as kept
use Rattle.nfs_serve.specs.{Step.ServerState}
use Rattle.nfs_promises.specs.{Network.Endpoint.Arrival, Runs.Points.{state_after, state_after_all, taken, ops_of}, Locks.LockKept.{renews_by, replaces_by}}
use Rattle.nfs_promises.specs.Locks.{LockKept.InTimeFor, LockKeptWorked.{outset, locks, last_of, IsHeldTo, AreBothTold}}
use Rattle.nfs_promises.specs.Locks.LockKeptWorked as worked
use Rattle.nfs_promises.proofs.Runs.{LastOperation.{nothing, three, each_of}, Computing.computing}
use Rattle.nfs_exec.proofs.Step.Invariant.{not_true}

-- An operation that was refused, or that is none of the three that end locks, spares each lock.

abbrev pub ends : Item → Bool
ends (Operation (Op.Lock a)) = true
ends (Operation (Op.LockU a)) = true
ends (Operation (Op.Close a)) = true
ends i = false

-- the status in the bytes of a result is NFS4_OK
abbrev pub says_ok : List ℕ → Bool
says_ok result = bytes_eq (take 4 (drop 4 result)) (0 ∷ 0 ∷ 0 ∷ 0 ∷ [])

abbrev pub spares : RanOp → Bool
spares d = not (says_ok d.result && ends d.item)

named_ok : (op : OpNum) (id : List ℕ) → says_ok (done_head op ++ id) ≡ true
unfolding number
named_ok op id = refl

ended : (d : RanOp) (op : OpNum) (n : ℕ) → spares d ≡ true → ends d.item ≡ true → Names op d.result n → ⊥
ended d op n spared end names = go (says_ok d.result) (ends d.item) spared (ap says_ok names.answers ∙ named_ok op names.id) end
  where
    go : (ok end : Bool) → not (ok && end) ≡ true → ok ≡ true → end ≡ true → ⊥
    go true true e ok end = true≢false (sym e)
    go true false e ok end = true≢false (sym end)
    go false end e ok is = true≢false (sym ok)

spared : (k : LockTold) (d : RanOp) → spares d ≡ true → Spares k d
spared k d e = record {
  locks = λ w l. absurd (ended d Num.Lock k.state e (ap ends l.is) l.names);
  unlocks = λ w l. absurd (ended d Num.LockU k.state e (ap ends l.is) l.names);
  closes = λ l. ended d Num.Close 0 e (ap ends l.is) l.names;
}

pub all_spared : (k : LockTold) (ds : List RanOp) → list_all spares ds ≡ true → AreSpared k ds
all_spared k = each_of (Spares k) spares (spared k)

-- So the premises can be tested.

abbrev pub in_time : ℕ → (List RanOp → Bool) → (lease last : ℕ) → ServerState → List Arrival → Bool
in_time client test lease last s [] = true
in_time client test lease last s (c ∷ more) =
    nat_le (taken s c) (last + lease)
    && (test (ops_of s c) && (not (replaces_by client s c) && in_time client test lease (if renews_by client s c then taken s c else last) (state_after s c) more))

abbrev pub last_of_all : ℕ → ℕ → ServerState → List Arrival → ℕ
last_of_all client last s [] = last
last_of_all client last s (c ∷ more) = last_of_all client (if renews_by client s c then taken s c else last) (state_after s c) more

abbrev pub way_of_all : (k : Kept) → k.Way → ServerState → List Arrival → k.Way
way_of_all k way s [] = way
way_of_all k way s (c ∷ more) = way_of_all k (after_all k.after way (ops_of s c)) (state_after s c) more

pub are_in_time : (k : Kept) (client : ℕ) (test : List RanOp → Bool) (lease last : ℕ) (way : k.Way) (s : ServerState) (cs : List Arrival)
    (Then : k.Way → ℕ → ServerState → Type 0) → ((ds : List RanOp) → test ds ≡ true → kept.AreSpared k ds) → in_time client test lease last s cs ≡ true
    → Then (way_of_all k way s cs) (last_of_all client last s cs) (state_after_all s cs) → InTimeFor k client lease last way s cs Then
are_in_time k client test lease last way s [] Then spared e holds = holds
are_in_time k client test lease last way s (c ∷ more) Then spared e holds =
    let p = and_parts _ _ e in
    let q = and_parts _ _ p.1 in
    let r = and_parts _ _ q.1 in (
      leb-true _ _ p.0,
      spared (ops_of s c) q.0,
      not_true (replaces_by client s c) r.0,
      are_in_time k client test lease (if renews_by client s c then taken s c else last) (after_all k.after way (ops_of s c)) (state_after s c) more Then spared r.1 holds,
    )

-- a LOCK of the byte at an offset, and what it was answered
abbrev pub asking : (offset : ℕ) → Lock
asking offset = record {
  locktype = LockTypes.Write;
  reclaim = false;
  offset = offset;
  length = 1;
  locker = OpenOwner (record {
    open_seqid = 0;
    open_stateid = record { seqid = 1; other = 0 ∷ 0 ∷ 0 ∷ 0 ∷ 0 ∷ 0 ∷ 0 ∷ 0 ∷ 0 ∷ 0 ∷ 0 ∷ 0 ∷ [] };
    lock_seqid = 0;
    lock_owner = record { clientid = 0; owner = 0x6c ∷ [] };
  });
}

pub locks_for : (d : RanOp) (client offset n : ℕ) → d.item ≡ Operation (Op.Lock (asking offset))
    → wished d.before.store d.context LockTypes.Write offset 1 ≡ Ok (worked.wish client offset) → d.result ≡ done_head Num.Lock ++ worked.stateid_of_lock n
    → length (worked.stateid_of_lock n) ≡ 16 → from_be_bytes w64 (drop 8 (worked.stateid_of_lock n)) ≡ n → LocksFor d n (worked.wish client offset)
locks_for d client offset n is wish answers long number = record {
  asked = asking offset;
  is = is;
  wish = wish;
  names = record { id = worked.stateid_of_lock n; answers = answers; long = long; number = number };
}

pub is_held_to : IsHeldTo
unfolding computing
is_held_to = record {
  front = take 2 (ops_of outset locks);
  lock = last_of nothing (ops_of outset locks);
  ops = three nothing (ops_of outset locks) refl;
  tells = record {
    wish = worked.wish 1 0;
    locks = locks_for (last_of nothing (ops_of outset locks)) 1 0 2 refl refl refl refl refl;
    range = (omega arith, omega arith, omega arith);
    kind = refl;
    file = refl;
    client = refl;
    opened = refl;
  };
  kept = are_in_time (the_lock worked.told) worked.told.client (list_all spares) 90 102 tt worked.locked (worked.waits ++ worked.clashes ∷ []) (λ way last t. Unit {0})
      (all_spared worked.told) refl tt;
  held = refl;
  denied = refl;
  still = refl;
  unlocked = refl;
}

pub are_both_told : AreBothTold
unfolding computing
are_both_told = record {
  renewed = refl;
  moment = refl;
  held = refl;
  until = take 2 (ops_of worked.asked worked.goes_beside);
  second = last_of nothing (ops_of worked.asked worked.goes_beside);
  locks = locks_for (last_of nothing (ops_of worked.asked worked.goes_beside)) 2 1 4 refl refl refl refl refl;
  between = are_in_time (the_lock worked.told) worked.told.client (list_all spares) 90 102 tt worked.locked worked.waits
      (λ way last t. (ops_of t worked.goes_beside
      ≡ take 2 (ops_of worked.asked worked.goes_beside) ++ last_of nothing (ops_of worked.asked worked.goes_beside) ∷ [])
      × (taken t worked.goes_beside ≤ last + 90)
      × AreSpared worked.told (take 2 (ops_of worked.asked worked.goes_beside))) (all_spared worked.told) refl (
        three nothing (ops_of worked.asked worked.goes_beside) refl,
        omega arith,
        all_spared worked.told (take 2 (ops_of worked.asked worked.goes_beside)) refl,
      );
}
