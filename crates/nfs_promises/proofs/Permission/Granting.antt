-- What the permission bits let a user do is what the mode, owner and group give.
use Rattle.std.proofs.Common.{◌≡◌, ℕ, ◌/◌, ◌%◌, Bool, true, false, cond, not, Option, Some, None, refl, sym, ◌∙◌, ap, subst, inl, inr}
use Rattle.std.proofs.lemmas.Bool.{cases_Bool, cases_eq, and_parts, eqb-true, eq-eqb, ne_eqb, false≢true, and_from}
use Rattle.std.specs.{Prelude.{◌==◌, ◌&&◌, ◌||◌, option_map, Ok}, Int.bit_at, List.list_any}
use Rattle.nfs_xdr.specs.{Caller.Caller, Tables.In}
use Rattle.nfs_xdr.proofs.Lists.{any_in, in_any}
use Rattle.nfs_tree.specs.{declared.object.Object.Object, declared.stored.Stored.Stored, Files.{Files, stored_in}}
use Rattle.nfs_tree.specs.{declared.profile.Profile.Profile, declared.profile.Profile.TheVariants.{Exact, Unix}}
use Rattle.nfs_attrs.specs.Permissions.{in_group, class_bits, may, may_use_bytes, by_executing, read, write, execute, change_entries}
use Rattle.nfs_opens.specs.declared.share.Share.{Share}
use Rattle.nfs_names.specs.{declared.context.Context.Context, declared.node.Node.Node, Checks.{node_as, node_at, permits, current}, State.State}
use Rattle.nfs_files.specs.Bytes.{want_of, lets_use, reading, writing}
use Rattle.nfs_files.proofs.Storing.{or_left}
use Rattle.nfs_promises.specs.Permission.Permitted.{Rights, Right, Reads, Writes, Executes, place, IsIn, First, Further, Grants, ToRoot, ToOwner, ToGroup}
use Rattle.nfs_promises.specs.Permission.Permitted.{ToOthers, GrantsBytes, GrantsUse, rights_of, rights_at, has_right}
use Rattle.nfs_exec.proofs.Step.Delayed.{or_right}

-- Groups.

pub is_in : (group : ℕ) (who : Caller) → (who.gid == group) || list_any (λ g. g == group) who.gids ≡ true → IsIn group who
is_in group who e = elim (cases_Bool (who.gid == group)) [
  | inl first ↦ First (eqb-true who.gid group first)
  | inr other ↦ (let any : list_any (λ g. g == group) who.gids ≡ true = rw other at e in
      let q = in_any (λ g. g == group) who.gids any in Further (subst (λ g. In g who.gids) (eqb-true q.0 group q.2) q.1))
]

pub in_is : (group : ℕ) (who : Caller) → IsIn group who → (who.gid == group) || list_any (λ g. g == group) who.gids ≡ true
in_is group who (First same) = rw (eq-eqb who.gid group same) refl
in_is group who (Further there) =
    or_right (who.gid == group) (list_any (λ g. g == group) who.gids) (any_in (λ g. g == group) who.gids group there (eq-eqb group group refl))

-- The digit that counts.

abbrev bit : ℕ → ℕ → Bool
bit digit k = bit_at digit k == 1

root_digit : (k : ℕ) (a : Bool) (x rest : ℕ) → a ≡ true → bit (cond a x rest) k ≡ bit x k
root_digit k true x rest e = refl
root_digit k false x rest e = absurd (false≢true e)

own_digit : (k : ℕ) (a b : Bool) (x y rest : ℕ) → a ≡ false → b ≡ true → bit (cond a x (cond b y rest)) k ≡ bit y k
own_digit k false true x y rest e f = refl
own_digit k false false x y rest e f = absurd (false≢true f)
own_digit k true b x y rest e f = absurd (false≢true (sym e))

group_digit : (k : ℕ) (a b c : Bool) (x y z rest : ℕ) → a ≡ false → b ≡ false → c ≡ true → bit (cond a x (cond b y (cond c z rest))) k ≡ bit z k
group_digit k false false true x y z rest e f g = refl
group_digit k false false false x y z rest e f g = absurd (false≢true g)
group_digit k false true c x y z rest e f g = absurd (false≢true (sym f))
group_digit k true b c x y z rest e f g = absurd (false≢true (sym e))

other_digit : (k : ℕ) (a b c : Bool) (x y z rest : ℕ) → a ≡ false → b ≡ false → c ≡ false → bit (cond a x (cond b y (cond c z rest))) k ≡ bit rest k
other_digit k false false false x y z rest e f g = refl
other_digit k false false true x y z rest e f g = absurd (false≢true (sym g))
other_digit k false true c x y z rest e f g = absurd (false≢true (sym f))
other_digit k true b c x y z rest e f g = absurd (false≢true (sym e))

root_bit : (right : Right) → bit 7 (place right) ≡ true
root_bit Reads = refl
root_bit Writes = refl
root_bit Executes = refl

abbrev Has : Object → Caller → Right → Type 0
Has o who right = bit (class_bits o who) (place right) ≡ true

module _ (o : Object) (who : Caller) (right : Right) where
  abbrev k : ℕ
  k = place right

  abbrev a : Bool
  a = who.uid == 0

  abbrev b : Bool
  b = who.uid == o.owner

  abbrev c : Bool
  c = in_group o.group who

  abbrev x : ℕ
  x = o.mode / 64 % 8

  abbrev y : ℕ
  y = o.mode / 8 % 8

  abbrev z : ℕ
  z = o.mode % 8

  pub granted : Has o who right → Grants (rights_of o) who right
  granted e = elim (cases_eq who.uid 0) [
    | inl root ↦ ToRoot root
    | inr user ↦ elim (cases_eq who.uid o.owner) [
      | inl own ↦ ToOwner own (eqb-true (bit_at x k) 1 (sym (own_digit k a b 7 x (cond c y z) (ne_eqb who.uid 0 user) (eq-eqb who.uid o.owner own)) ∙ e))
      | inr other ↦ elim (cases_Bool c) [
        | inl within ↦ ToGroup other (is_in o.group who within)
            (eqb-true (bit_at y k) 1 (sym (group_digit k a b c 7 x y z (ne_eqb who.uid 0 user) (ne_eqb who.uid o.owner other) within) ∙ e))
        | inr out ↦ ToOthers other (λ within. false≢true (sym out ∙ in_is o.group who within))
            (eqb-true (bit_at z k) 1 (sym (other_digit k a b c 7 x y z (ne_eqb who.uid 0 user) (ne_eqb who.uid o.owner other) out) ∙ e))
      ]
    ]
  ]

  out_of : (IsIn o.group who → ⊥) → c ≡ false
  out_of out = elim (cases_Bool c) [ inl within ↦ absurd (out (is_in o.group who within)) | inr is ↦ is ]

  of_user : a ≡ false → Grants (rights_of o) who right → Has o who right
  of_user user (ToRoot root) = absurd (false≢true (sym user ∙ eq-eqb who.uid 0 root))
  of_user user (ToOwner own has) = own_digit k a b 7 x (cond c y z) user (eq-eqb who.uid o.owner own) ∙ eq-eqb (bit_at x k) 1 has
  of_user user (ToGroup other within has) =
      group_digit k a b c 7 x y z user (ne_eqb who.uid o.owner other) (in_is o.group who within) ∙ eq-eqb (bit_at y k) 1 has
  of_user user (ToOthers other out has) =
      other_digit k a b c 7 x y z user (ne_eqb who.uid o.owner other) (out_of out) ∙ eq-eqb (bit_at z k) 1 has

  pub has_granted : Grants (rights_of o) who right → Has o who right
  has_granted grants = elim (cases_Bool a) [
    | inl root ↦ root_digit k a 7 (cond b x (cond c y z)) root ∙ root_bit right
    | inr user ↦ of_user user grants
  ]

-- What is wanted, as its bits.

read_bits : (p q r : Bool) → (not true || p) && (not false || q) && (not false || r) ≡ p
read_bits true q r = refl
read_bits false q r = refl

write_bits : (p q r : Bool) → (not false || p) && (not true || q) && (not false || r) ≡ q
write_bits p true r = refl
write_bits p false r = refl

first_two : (p q r : Bool) → p && q && r ≡ true → (p ≡ true) × (q ≡ true)
first_two true true r e = (refl, refl)
first_two true false r e = absurd (false≢true e)
first_two false q r e = absurd (false≢true e)

last_one : (p q r : Bool) → p && q && r ≡ true → r ≡ true
last_one true true r e = e
last_one true false r e = absurd (false≢true e)
last_one false q r e = absurd (false≢true e)

by_either : {G : Type 0} (a b : Bool) → (a ≡ true → G) → (b ≡ true → G) → a || b ≡ true → G
by_either true b first second e = first refl
by_either false b first second e = second e

if_wanted : (want p : Bool) → not want || p ≡ true → want ≡ true → p ≡ true
if_wanted true p e is = e
if_wanted false p e is = absurd (false≢true is)

-- Of a node.

module _ (x : Context) (d : Node) where
  abbrev Gets : Right → Type 0
  Gets right = Grants (rights_of d.object) x.who right

  abbrev bit_of : Right → Bool
  bit_of right = bit (class_bits d.object x.who) (place right)

  pub reads : permits x d read ≡ true → Gets Reads
  unfolding permits
  reads e = granted d.object x.who Reads (sym (read_bits (bit_of Reads) (bit_of Writes) (bit_of Executes)) ∙ e)

  pub writes : permits x d write ≡ true → Gets Writes
  unfolding permits
  writes e = granted d.object x.who Writes (sym (write_bits (bit_of Reads) (bit_of Writes) (bit_of Executes)) ∙ e)

  pub executes : permits x d execute ≡ true → Gets Executes
  unfolding permits
  executes e = granted d.object x.who Executes e

  pub changes : permits x d change_entries ≡ true → Gets Writes × Gets Executes
  unfolding permits
  changes e = let p = and_parts (bit_of Writes) (bit_of Executes) e in (granted d.object x.who Writes p.0, granted d.object x.who Executes p.1)

  pub may_read : Gets Reads → permits x d read ≡ true
  unfolding permits
  may_read gets = read_bits (bit_of Reads) (bit_of Writes) (bit_of Executes) ∙ has_granted d.object x.who Reads gets

  pub may_write : Gets Writes → permits x d write ≡ true
  unfolding permits
  may_write gets = write_bits (bit_of Reads) (bit_of Writes) (bit_of Executes) ∙ has_granted d.object x.who Writes gets

  pub may_execute : Gets Executes → permits x d execute ≡ true
  unfolding permits
  may_execute gets = has_granted d.object x.who Executes gets

  pub may_change : Gets Writes → Gets Executes → permits x d change_entries ≡ true
  unfolding permits
  may_change write execute = and_from (bit_of Writes) (bit_of Executes) (has_granted d.object x.who Writes write) (has_granted d.object x.who Executes execute)

  want_or : (want p : Bool) → (want ≡ true → p ≡ true) → not want || p ≡ true
  want_or true p holds = holds refl
  want_or false p holds = refl

  three_bits : (p q r : Bool) → p ≡ true → q ≡ true → r ≡ true → p && q && r ≡ true
  three_bits true true true e f g = refl
  three_bits true true false e f g = absurd (false≢true g)
  three_bits true false r e f g = absurd (false≢true f)
  three_bits false q r e f g = absurd (false≢true e)

  -- Of a file's bytes, by the profile.

  abbrev Uses : Right → Profile → Type 0
  Uses right p = GrantsUse right p (rights_of d.object) x.who

  by_bits : (access : Share) → may d.object x.who (want_of access) ≡ true → (right : Right) → has_right access right ≡ true → Gets right
  by_bits access e Reads has =
      granted d.object x.who Reads
      (if_wanted access.reads (bit_of Reads) (first_two (not access.reads || bit_of Reads) (not access.writes || bit_of Writes) (not false || bit_of Executes) e).0 has)
  by_bits access e Writes has =
      granted d.object x.who Writes
      (if_wanted access.writes (bit_of Writes) (first_two (not access.reads || bit_of Reads) (not access.writes || bit_of Writes) (not false || bit_of Executes) e).1 has)
  by_bits access e Executes has = absurd (false≢true has)

  by_x : (access : Share) → may d.object x.who (by_executing (want_of access)) ≡ true → (right : Right) → has_right access right ≡ true → Uses right Unix
  by_x access e Reads has = inr (granted d.object x.who Executes (last_one (not false || bit_of Reads) (not access.writes || bit_of Writes) (not true || bit_of Executes) e))
  by_x access e Writes has =
      granted d.object x.who Writes
      (if_wanted access.writes (bit_of Writes) (first_two (not false || bit_of Reads) (not access.writes || bit_of Writes) (not true || bit_of Executes) e).1 has)
  by_x access e Executes has = absurd (false≢true has)

  with_x : (right : Right) → Gets right → Uses right Unix
  with_x Reads gets = inl gets
  with_x Writes gets = gets
  with_x Executes gets = gets

  by_profile : (p : Profile) (access : Share) → may_use_bytes p d.object x.who (want_of access) ≡ true → (right : Right) → has_right access right ≡ true → Uses right p
  by_profile Exact access e Reads has = by_bits access e Reads has
  by_profile Exact access e Writes has = by_bits access e Writes has
  by_profile Exact access e Executes has = absurd (false≢true has)
  by_profile Unix access e right has =
      by_either (may d.object x.who (want_of access)) (may d.object x.who (by_executing (want_of access))) (λ plain. with_x right (by_bits access plain right has))
      (λ runs. by_x access runs right has) e

  pub uses : (t : Files) (access : Share) → lets_use t x d access ≡ true → (right : Right) → has_right access right ≡ true → Uses right t.profile
  unfolding lets_use
  uses t access e right has = by_profile t.profile access e right has

  writes_bits : (access : Share) → ((right : Right) → has_right access right ≡ true → Uses right Unix) → not access.writes || bit_of Writes ≡ true
  writes_bits access gives = want_or access.writes (bit_of Writes) (λ has. has_granted d.object x.who Writes (gives Writes has))

  may_by_profile : (p : Profile) (access : Share) → ((right : Right) → has_right access right ≡ true → Uses right p) → may_use_bytes p d.object x.who (want_of access) ≡ true
  may_by_profile Exact access gives =
      three_bits (not access.reads || bit_of Reads) (not access.writes || bit_of Writes) (not false || bit_of Executes)
      (want_or access.reads (bit_of Reads) (λ has. has_granted d.object x.who Reads (gives Reads has)))
      (want_or access.writes (bit_of Writes) (λ has. has_granted d.object x.who Writes (gives Writes has))) refl
  may_by_profile Unix access gives = elim (cases_Bool access.reads) [
    | inl on ↦ elim (gives Reads on) [
      | inl reads ↦ plainly (λ has. has_granted d.object x.who Reads reads)
      | inr runs ↦ or_right (may d.object x.who (want_of access)) _
          (three_bits (not false || bit_of Reads) (not access.writes || bit_of Writes) (not true || bit_of Executes) refl (writes_bits access gives) (has_granted d.object x.who Executes runs))
    ]
    | inr off ↦ plainly (λ has. absurd (false≢true (sym off ∙ has)))
  ]
    where
      plainly : (access.reads ≡ true → Has d.object x.who Reads) → may_use_bytes Unix d.object x.who (want_of access) ≡ true
      plainly reads =
          or_left (may d.object x.who (want_of access)) (may d.object x.who (by_executing (want_of access)))
          (three_bits (not access.reads || bit_of Reads) (not access.writes || bit_of Writes) (not false || bit_of Executes)
          (want_or access.reads (bit_of Reads) reads) (writes_bits access gives) refl)

  pub may_use : (t : Files) (access : Share) → ((right : Right) → has_right access right ≡ true → Uses right t.profile) → lets_use t x d access ≡ true
  unfolding lets_use
  may_use t access gives = may_by_profile t.profile access gives

  pub may_read_bytes : (t : Files) → GrantsBytes t.profile (rights_of d.object) x.who → lets_use t x d reading ≡ true
  may_read_bytes t gives = may_use t reading only
    where
      only : (right : Right) → has_right reading right ≡ true → Uses right t.profile
      only Reads has = gives
      only Writes has = absurd (false≢true has)
      only Executes has = absurd (false≢true has)

  pub may_write_bytes : (t : Files) → Gets Writes → lets_use t x d writing ≡ true
  may_write_bytes t gets = may_use t writing only
    where
      only : (right : Right) → has_right writing right ≡ true → Uses right t.profile
      only Reads has = absurd (false≢true has)
      only Writes has = gets
      only Executes has = absurd (false≢true has)

-- the object of a filehandle
rights_as : (n : ℕ) (o : Option Stored) (r : Rights) (d : Node) → option_map (λ (s : Stored). rights_of s.object) o ≡ Some r
    → node_as n (option_map (λ (s : Stored). s.object) o) ≡ Ok d → rights_of d.object ≡ r
rights_as n None r d is e = absurd cc
rights_as n (Some k) r d is e =
    let node : record { number = n; object = k.object } ≡ d = cc in
    let same : rights_of k.object ≡ r = cc in
    ap (λ (d : Node). rights_of d.object) (sym node) ∙ same

pub rights_here : (s : State) (n : ℕ) (r : Rights) (d : Node) → rights_at s.tree n ≡ Some r → node_at s (Some n) ≡ Ok d → rights_of d.object ≡ r
rights_here s n r d is e = rights_as n (stored_in s.tree.objects n) r d is e

pub current_at : (s : State) (x : Context) (n : ℕ) (d : Node) → x.current ≡ Some n → current s x ≡ Ok d → node_at s (Some n) ≡ Ok d
unfolding current
current_at s x n d at e = ap (node_at s) (sym at) ∙ e
