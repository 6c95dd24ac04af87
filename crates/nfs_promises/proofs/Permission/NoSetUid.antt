-- In `unix` a file whose bytes another user than 0 changed is without the set-user-ID bit until a SETATTR sets it.
use Rattle.std.proofs.Common.{◌≡◌, ℕ, ◌+◌, ◌≤◌, Bool, true, false, cond, Option, Some, None, refl, sym, ◌∙◌, ap, subst, arith, inl, inr}
use Rattle.std.proofs.lemmas.{Bool.{cases_Bool, ne_eqb, eq-eqb, eqb-true, false≢true}, Nat.Bits.bit_at_and}
use Rattle.std.specs.{Prelude.{◌==◌, ◌||◌, ◌&&◌, option_map, is_some, unwrap_or, min, bit_and, Result, Ok, Err}, Int.bit_at}
use Rattle.nfs_xdr.specs.{Caller.Caller, declared.status.Status.Status}
use Rattle.nfs_compound.specs.{declared.op.Item.Item, declared.op.Item.TheVariants.Operation}
use Rattle.nfs_compound.specs.declared.op.Op.TheVariants as Op
use Rattle.nfs_tree.specs.{declared.stored.Stored.Stored, Files.{Files, root, stored_in}, Object.is_regular, Bytes.has_bytes}
use Rattle.nfs_tree.specs.declared.profile.Profile.TheVariants.{Unix}
use Rattle.nfs_tree.proofs.Objects.{stored_within}
use Rattle.nfs_attrs.specs.{declared.wanted.Wanted.Wanted, Permissions.in_group, SetId.{cleared, mode_given, mode_if, mode_behind, clears, settled}}
use Rattle.nfs_names.specs.{Create.attributes_in, Ending.staying, Outcome.is_ok}
use Rattle.nfs_names.specs.State as store
use Rattle.nfs_files.specs.FileImage.{is_number, asks_empty, claimed}
use Rattle.nfs_exec.specs.Runs.Ops.{RanOp}
use Rattle.nfs_exec.proofs.{Runs.OneRun.IsRun, Runs.OneWalk.{Stays, kept_ended}}
use Rattle.nfs_promises.specs.{Runs.Points.reached, Permission.{Permitted.{Rights, rights_of}, RightsTold.{Subject, with_wanted, with_cleared, rights_left}}}
use Rattle.nfs_promises.specs.Permission.NoSetUid.{set_uid, IsWrittenByOther, GivesNone, IsWithout, without_bit, NoneRunsAsOwner}
use Rattle.nfs_promises.proofs.Permission.{RightsKept.{Known, known_of, staying_have}, RightsTold.{known, Holds, run_have, profile_here}}
use Rattle.nfs_promises.proofs.Runs.{Followed.{Any, kept_from}, LaterRecords.first_there}

-- What clears the bit leaves none.

masked : (mode mask : ℕ) → bit_at mask 11 ≡ 0 → set_uid (bit_and mode mask) ≡ 0
masked mode mask none = bit_at_and mode mask 11 ∙ (ap (min (bit_at mode 11)) none ∙ least (bit_at mode 11))
  where
    least : (n : ℕ) → min n 0 ≡ 0
    least n = omega arith

still : (mode mask : ℕ) → set_uid mode ≡ 0 → set_uid (bit_and mode mask) ≡ 0
still mode mask none = bit_at_and mode mask 11 ∙ (ap (λ n. min n (bit_at mask 11)) none ∙ least (bit_at mask 11))
  where
    least : (n : ℕ) → min 0 n ≡ 0
    least n = omega arith

cleared_none : (mode : ℕ) → set_uid (cleared mode) ≡ 0
cleared_none mode = by (bit_at mode 3 == 1)
  where
    by : (b : Bool) → set_uid (cond b (bit_and mode 0xffff_f3ff) (bit_and mode 0xffff_f7ff)) ≡ 0
    by true = masked mode 0xffff_f3ff refl
    by false = masked mode 0xffff_f7ff refl

behind_none : (mode : ℕ) (who : Caller) → set_uid mode ≡ 0 → set_uid (unwrap_or (mode_behind Unix mode who) mode) ≡ 0
behind_none mode who none = by (who.uid == 0)
  where
    by : (b : Bool) → set_uid (unwrap_or (cond b None (Some (cleared mode))) mode) ≡ 0
    by true = none
    by false = cleared_none mode

given_none : (group : ℕ) (who : Caller) (mode : ℕ) → set_uid mode ≡ 0 → set_uid (mode_given group who mode) ≡ 0
given_none group who mode none = by (who.uid == 0 || in_group group who)
  where
    by : (b : Bool) → set_uid (cond b mode (bit_and mode 0xffff_fbff)) ≡ 0
    by true = none
    by false = still mode 0xffff_fbff none

settled_none : (clear : Bool) (group : ℕ) (who : Caller) (given : Option ℕ) (mode : ℕ) → set_uid mode ≡ 0 → ((v : ℕ) → given ≡ Some v → set_uid v ≡ 0)
    → set_uid (unwrap_or (mode_if clear (option_map (mode_given group who) given) mode) mode) ≡ 0
settled_none true group who given mode none gives = cleared_none (unwrap_or (option_map (mode_given group who) given) mode)
settled_none false group who None mode none gives = none
settled_none false group who (Some v) mode none gives = given_none group who v (gives v refl)

-- what any operation leaves of a mode without the bit

wanted_none : (k : Subject) (who : Caller) (r : Rights) (v : Result Wanted Status) → k.profile ≡ Unix → set_uid r.mode ≡ 0
    → ((w : Wanted) (mode : ℕ) → v ≡ Ok w → w.mode ≡ Some mode → set_uid mode ≡ 0) → set_uid (with_wanted k who r v).mode ≡ 0
wanted_none k who r (Err status) unix none gives = none
wanted_none k who r (Ok w) unix none gives =
    subst (λ p. set_uid (unwrap_or (settled p k.regular r.mode r.group who w).mode r.mode) ≡ 0) (sym unix)
    (settled_none (k.regular && clears w who) (unwrap_or w.group r.group) who w.mode r.mode none (λ v e. gives w v refl e))

bytes_none : (k : Subject) (who : Caller) (r : Rights) → k.profile ≡ Unix → set_uid r.mode ≡ 0 → set_uid (with_cleared k who r).mode ≡ 0
bytes_none k who r unix none = subst (λ p. set_uid (unwrap_or (mode_behind p r.mode who) r.mode) ≡ 0) (sym unix) (behind_none r.mode who none)

either_none : (b : Bool) (q r : Rights) → set_uid q.mode ≡ 0 → set_uid r.mode ≡ 0 → set_uid (cond b q r).mode ≡ 0
either_none true q r first second = first
either_none false q r first second = second

is_some_number : (n : ℕ) (o : Option ℕ) → is_number n o ≡ true → o ≡ Some n
is_some_number n None e = absurd (false≢true e)
is_some_number n (Some m) e = ap Some (eqb-true m n e)

left_none : (k : Subject) (r : Rights) (d : RanOp) (i : Item) → d.item ≡ i → k.profile ≡ Unix → set_uid r.mode ≡ 0 → GivesNone k.number d
    → set_uid (rights_left k r d.before.store.tree d.context i).mode ≡ 0
left_none k r d (Operation (Op.SetAttr a)) same unix none gives = elim (cases_Bool (is_number k.number d.context.current)) [
  | inl here ↦ rw here (wanted_none k d.context.who r (attributes_in a.obj_attributes) unix none
      (λ w mode reads given. gives a w mode same (is_some_number k.number d.context.current here) reads given))
  | inr other ↦ rw other none
]
left_none k r d (Operation (Op.Write a)) same unix none gives =
    either_none (is_number k.number d.context.current && has_bytes a.bytes) (with_cleared k d.context.who r) r (bytes_none k d.context.who r unix none) none
left_none k r d (Operation (Op.Open a)) same unix none gives =
    either_none (is_number k.number (claimed d.before.store.tree d.context.current a.claim) && asks_empty a) (with_cleared k d.context.who r) r
    (bytes_none k d.context.who r unix none) none
left_none k r d i same unix none gives = none

-- A tree in which the object is without it.

abbrev subject : ℕ → Bool → Subject
subject n regular = record { number = n; regular = regular; profile = Unix }

record Clear (n : ℕ) (t : Files) : Type 0 where
  regular : Bool
  rights : Rights
  none : set_uid rights.mode ≡ 0
  holds : Holds (subject n regular) rights t

from_without : (n : ℕ) (t : Files) → IsWithout n t → Clear n t
from_without n t is = go (stored_in t.objects n) refl
  where
    go : (o : Option Stored) → stored_in t.objects n ≡ o → Clear n t
    go None none = record {
      regular = true;
      rights = record { mode = 0; owner = 0; group = 0 };
      none = refl;
      holds = record { given = is.given; profile = is.profile; rights = λ k there. absurd (let bad : None ≡ Some k = sym none ∙ there in cc) };
    }
    go (Some s) some = record {
      regular = is_regular s.object.kind;
      rights = rights_of s.object;
      none = is.mode (rights_of s.object) (ap (option_map (λ (s : Stored). rights_of s.object)) some);
      holds = record {
        given = is.given;
        profile = is.profile;
        rights = λ k there. (let one : Some s ≡ Some k = sym some ∙ there in let same : s ≡ k = cc in ap (λ (k : Stored). known_of Unix k.object) (sym same));
      };
    }

to_without : (n : ℕ) (b : Bool) (r : Rights) (t : Files) → set_uid r.mode ≡ 0 → Holds (subject n b) r t → IsWithout n t
to_without n b r t none is = record { given = is.given; profile = is.profile; mode = λ q e. go (stored_in t.objects n) refl q e }
  where
    go : (o : Option Stored) → stored_in t.objects n ≡ o → (q : Rights) → option_map (λ (s : Stored). rights_of s.object) (stored_in t.objects n) ≡ Some q → set_uid q.mode ≡ 0
    go None absent q e = absurd (let bad : None ≡ Some q = sym (ap (option_map (λ (s : Stored). rights_of s.object)) absent) ∙ e in cc)
    go (Some s) there q e =
        let one : Some (rights_of s.object) ≡ Some q = sym (ap (option_map (λ (s : Stored). rights_of s.object)) there) ∙ e in
        let same : rights_of s.object ≡ q = cc in
        let has : rights_of s.object ≡ r = ap (λ (k : Known). k.rights) (is.rights s there) in
        subst (λ (q : Rights). set_uid q.mode ≡ 0) (sym has ∙ same) none

run_without : (n : ℕ) (d : RanOp) → IsRun d → IsWithout n d.before.store.tree → GivesNone n d → IsWithout n d.behind.store.tree
run_without n d run is gives =
    let c = from_without n d.before.store.tree is in
    let k = subject n c.regular in
    let q = rights_left k c.rights d.before.store.tree d.context d.item in
    to_without n c.regular (cond (is_ok d.status) q c.rights) d.behind.store.tree
    (either_none (is_ok d.status) q c.rights (left_none k c.rights d d.item refl refl c.none gives) c.none) (run_have k c.rights d run c.holds d.item refl)

ended_without : (n : ℕ) (stays : ℕ → Bool) (s : store.State) → IsWithout n s.tree → IsWithout n (staying stays s).tree
ended_without n stays s is =
    let c = from_without n s.tree is in
    to_without n c.regular c.rights (staying stays s).tree c.none (staying_have n (known (subject n c.regular) c.rights) stays s c.holds)

stays_without : (n : ℕ) → Stays (without_bit n) Any
stays_without n = record {
  step = λ w d run is. (is, λ spares. run_without n d run is spares);
  idle = λ w m e is idle leaves here. subst (λ (s : store.State). IsWithout n s.tree) (sym idle.left)
      (kept_ended (λ s. IsWithout n s.tree) (ended_without n) m.store idle.ends here);
}

-- Behind the WRITE.

written_without : (n : ℕ) (d : RanOp) → IsRun d → d.before.store.tree.profile ≡ Unix → IsWrittenByOther n d → IsWithout n d.behind.store.tree
written_without n d run unix w = go (stored_in d.before.store.tree.objects n) refl
  where
    t : Files
    t = d.before.store.tree

    given : n ≤ t.last_object
    given = let within = stored_within root (t.last_object + 1) t.objects n run.whole.tree.objects w.there in let below = within.1 in omega arith

    cleared_left : (k : Subject) (r : Rights) → k.number ≡ n → rights_left k r t d.context d.item ≡ with_cleared k d.context.who r
    cleared_left k r number =
        ap (rights_left k r t d.context) w.is
        ∙ (ap (λ (o : Option ℕ). cond (is_number k.number o && has_bytes w.asked.bytes) (with_cleared k d.context.who r) r) (w.at ∙ ap Some (sym number))
        ∙ (ap (λ b. cond (b && has_bytes w.asked.bytes) (with_cleared k d.context.who r) r) (eq-eqb k.number k.number refl)
        ∙ ap (λ b. cond b (with_cleared k d.context.who r) r) w.some))

    other_none : (r : Rights) → set_uid (unwrap_or (mode_behind Unix r.mode d.context.who) r.mode) ≡ 0
    other_none r = rw (ne_eqb d.context.who.uid 0 w.other) (cleared_none r.mode)

    go : (o : Option Stored) → stored_in t.objects n ≡ o → IsWithout n d.behind.store.tree
    go None none = absurd (false≢true (ap is_some (sym none) ∙ w.there))
    go (Some s) some =
        let k = subject n (is_regular s.object.kind) in
        let r = rights_of s.object in
        let holds : Holds k r t = record {
          given = given;
          profile = unix;
          rights = λ k there. (let one : Some s ≡ Some k = sym some ∙ there in let same : s ≡ k = cc in ap (λ (k : Stored). known_of Unix k.object) (sym same));
        } in
        let left = run_have k r d run holds d.item refl in
        to_without n (is_regular s.object.kind) (with_cleared k d.context.who r) d.behind.store.tree (other_none r)
        (subst (λ q. Holds k q d.behind.store.tree) (cleared_left k r refl)
        (subst (λ b. Holds k (cond b (rights_left k r t d.context d.item) r) d.behind.store.tree) w.ok left))

pub none_runs_as_owner : NoneRunsAsOwner
none_runs_as_owner start earlier c front d back n same unix written =
    kept_from (without_bit n) (stays_without n) start earlier c front d back tt same
    (λ run. written_without n d run (profile_here start earlier c d (first_there (reached start earlier) c front d back same) ∙ unix) written)
