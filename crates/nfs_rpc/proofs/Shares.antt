-- What the fields of a `Records` hold while a record has begun, and what the last bytes of a mark make of it.
use Rattle.std.proofs.{Common.{◌≡◌, ℕ, List, ◌++◌, length, refl, sym, ap, ◌∙◌}, lemmas.Bool.eq-eqb}
use Rattle.std.specs.Int.{w32, from_be_bytes}
use Rattle.nfs_rpc.specs.{declared.records.State.State, RecordMarking.{Part, Gathered, Begun, Complete, Failed, start}}
use Rattle.nfs_rpc.specs.Share.{held, state_of, at_mark, with_mark}

part_of : Gathered → Part
part_of (Begun p) = p
part_of (Complete record_data) = start
part_of Failed = start

pub begun_fields : (s : State) (q p : Part) → held s q ≡ Begun p → (s ≡ State.Begun) × (q ≡ p)
unfolding part_of
begun_fields State.Begun q p e = (refl, ap part_of e)
begun_fields State.Complete q p e = absurd cc
begun_fields State.Failed q p e = absurd cc

-- what has begun holds a part
pub begun_held : (h : Gathered) → state_of h ≡ State.Begun → (p : Part) × (h ≡ Begun p)
begun_held (Begun p) e = (p, refl)
begun_held (Complete record_data) e = absurd cc
begun_held Failed e = absurd cc

pub mark_whole : (q p : Part) (bytes mark : List ℕ) (word : ℕ) (new : Gathered) → q ≡ p → mark ≡ q.mark ++ bytes
    → length mark ≡ 4 → word ≡ from_be_bytes w32 mark → new ≡ at_mark q.taken word → new ≡ with_mark p bytes
unfolding with_mark
mark_whole q p bytes mark word new same grown four read e =
    let long : length (p.mark ++ bytes) ≡ 4 = ap length (ap (λ (x : Part). x.mark ++ bytes) (sym same) ∙ sym grown) ∙ four in
    let words : word ≡ from_be_bytes w32 (p.mark ++ bytes) =
    read ∙ ap (λ (w : List ℕ). from_be_bytes w32 w) (grown ∙ ap (λ (x : Part). x.mark ++ bytes) same) in
    rw (eq-eqb _ _ long) (e ∙ ap (λ (x : Part). at_mark x.taken word) same ∙ ap (at_mark p.taken) words)
