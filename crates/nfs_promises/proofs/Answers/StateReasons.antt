-- What a stateid is refused with has its reason.
use Rattle.std.proofs.Common.{◌≡◌, ◌⊎◌, ℕ, suc, ◌<◌, ◌≤◌, Bool, true, false, cond, not, [], ◌∷◌, Option, Some, None, refl, sym, ◌∙◌, ap, subst, arith, inl, inr}
use Rattle.std.proofs.lemmas.{Bool.{and_parts, eq-eqb, eqb-true, ltb-true, false≢true, not-false, not-true, or_right}, Option.same_Some}
use Rattle.std.specs.{Prelude.{◌==◌, ◌||◌, ◌&&◌, nat_lt, Ok, Err, option_map}, Option.option_map_or}
use Rattle.nfs_xdr.specs.declared.status.Status.TheVariants as S
use Rattle.nfs_xdr.proofs.{Lists.find_in, Tables.at_of_in}
use Rattle.nfs_compound.specs.declared.op.Item.{Item}
use Rattle.nfs_opens.specs.{Judging.{is_sort, judge_checks, judge, special, named_by, open_named, lock_named}, Locking.access_in, Share.neither, Steps.in_order}
use Rattle.nfs_opens.specs.{StateId.{is_current, is_anonymous, is_bypass, has_zeros, has_ones, with_seqid}, Table.{Table, open_at, lock_at}}
use Rattle.nfs_opens.specs.{TableInvariants.{IsTable, IsUnder}, declared.judging.{Seat.Seat, Sort.{Sort, TheVariants.{Either, OpenOnly, LockOnly}}}}
use Rattle.nfs_opens.specs.declared.{judging.Seat.TheVariants.{Anonymous, ReadBypass, Open as AnOpen, Lock as ALock}, records.LockState.LockState}
use Rattle.nfs_opens.specs.declared.{records.OpenState.OpenState, stateid.{CurrentSeqid.{CurrentSeqid, TheVariants.{Any, Own}}, StateId.StateId}}
use Rattle.nfs_opens.proofs.Terms.{judge_named}
use Rattle.nfs_names.proofs.Found.{came, ok_is}
use Rattle.nfs_names.specs.{declared.context.Context.Context, State.State}
use Rattle.nfs_files.specs.StateIds.{state_id, meant}
use Rattle.nfs_promises.specs.Answers.Asked.{StateGiven, by_state, IsCurrent, IsNone, Zeros, Ones, IsSpecial, AllZeros, AllOnes, as_given, StandsFor, Itself, TheCurrent, IsGiven}
use Rattle.nfs_promises.specs.Answers.Reasons.{access_under, access_with, StateTold, one_of, state_of, fits, IsOwn, IsBad, NoCurrent, Special, NoState, Reason}
use Rattle.nfs_promises.proofs.Answers.Blaming.{Blames, AllBlame, bool_blames, then_checks}

-- What a stateid stands for.

three : (a b c : Bool) → a && (b && c) ≡ true → (a ≡ true) × (b ≡ true) × (c ≡ true)
three a b c e = let p = and_parts a (b && c) e in let q = and_parts b c p.1 in (p.0, q.0, q.1)

pub current_so : (id : StateId) → is_current id ≡ true → IsCurrent id
current_so id e = let p = three (id.seqid == 1) (id.instance == 0) (id.number == 0) e in (eqb-true _ _ p.0, eqb-true _ _ p.1, eqb-true _ _ p.2)

pub current_not : (id : StateId) → is_current id ≡ false → IsCurrent id → ⊥
current_not id off is =
    let all : is_current id ≡ true = rw (eq-eqb id.seqid 1 is.0, eq-eqb id.instance 0 is.1, eq-eqb id.number 0 is.2) refl in
    false≢true (sym off ∙ all)

zeros_so : (id : StateId) → has_zeros id ≡ true → (id.instance ≡ 0) × (id.number ≡ 0)
zeros_so id e = let p = and_parts (id.instance == 0) (id.number == 0) e in (eqb-true _ _ p.0, eqb-true _ _ p.1)

ones_so : (id : StateId) → has_ones id ≡ true → (id.instance ≡ 0xffff_ffff) × (id.number ≡ 0xffff_ffff_ffff_ffff)
ones_so id e = let p = and_parts (id.instance == 0xffff_ffff) (id.number == 0xffff_ffff_ffff_ffff) e in (eqb-true _ _ p.0, eqb-true _ _ p.1)

pub none_so : (id : StateId) (zeros ones : Bool) → has_zeros id ≡ zeros → has_ones id ≡ ones → zeros || ones ≡ true → IsNone id
none_so id true ones z o e = let p = zeros_so id z in Zeros p.0 p.1
none_so id false true z o e = let p = ones_so id o in Ones p.0 p.1
none_so id false false z o e = absurd (false≢true e)

none_not : (id : StateId) → has_zeros id || has_ones id ≡ false → IsNone id → ⊥
none_not id off (Zeros a b) =
    let all : has_zeros id ≡ true = rw (eq-eqb id.instance 0 a, eq-eqb id.number 0 b) refl in
    false≢true (sym off ∙ ap (λ z. z || has_ones id) all)
none_not id off (Ones a b) =
    let all : has_ones id ≡ true = rw (eq-eqb id.instance 0xffff_ffff a, eq-eqb id.number 0xffff_ffff_ffff_ffff b) refl in
    false≢true (sym off ∙ (ap (λ o. has_zeros id || o) all ∙ or_right (has_zeros id) true refl))

pub special_so : (id : StateId) → is_anonymous id || is_bypass id ≡ true → IsSpecial id
special_so id e = by (is_anonymous id) (is_bypass id) refl refl e
  where
    by : (a b : Bool) → is_anonymous id ≡ a → is_bypass id ≡ b → a || b ≡ true → IsSpecial id
    by true b is other e = let p = and_parts (id.seqid == 0) (has_zeros id) is in let z = zeros_so id p.1 in AllZeros (eqb-true _ _ p.0) z.0 z.1
    by false true is other e = let p = and_parts (id.seqid == 0xffff_ffff) (has_ones id) other in let o = ones_so id p.1 in AllOnes (eqb-true _ _ p.0) o.0 o.1
    by false false is other e = absurd (false≢true e)

pub special_not : (id : StateId) → is_anonymous id ≡ false → is_bypass id ≡ false → IsSpecial id → ⊥
special_not id off other (AllZeros a b c) =
    let all : is_anonymous id ≡ true = rw (eq-eqb id.seqid 0 a, eq-eqb id.instance 0 b, eq-eqb id.number 0 c) refl in false≢true (sym off ∙ all)
special_not id off other (AllOnes a b c) =
    let all : is_bypass id ≡ true = rw (eq-eqb id.seqid 0xffff_ffff a, eq-eqb id.instance 0xffff_ffff b, eq-eqb id.number 0xffff_ffff_ffff_ffff c) refl in
    false≢true (sym other ∙ all)

pub with_as : (form : CurrentSeqid) (id : StateId) → with_seqid form id ≡ as_given form id
with_as Any id = refl
with_as Own id = refl

pub stands_for : (x : Context) (k : StateGiven) (id : StateId) → meant x k.form k.given ≡ Ok id → StandsFor x k id
stands_for x k id e = by (is_current (state_id k.given)) (has_zeros (state_id x.stateid) || has_ones (state_id x.stateid)) refl refl e
  where
    by : (at none : Bool) → is_current (state_id k.given) ≡ at → has_zeros (state_id x.stateid) || has_ones (state_id x.stateid) ≡ none
        → cond at (cond none (Err S.BadStateId) (Ok (with_seqid k.form (state_id x.stateid)))) (Ok (state_id k.given)) ≡ Ok id → StandsFor x k id
    by true true is off e = absurd cc
    by true false is off e = (let same : with_seqid k.form (state_id x.stateid) ≡ id = cc in TheCurrent (current_so (state_id k.given) is) (none_not (state_id x.stateid) off) (sym same ∙ with_as k.form (state_id x.stateid)))
    by false none is off e = (let same : state_id k.given ≡ id = cc in Itself (current_not (state_id k.given) is) (sym same))

-- what stands for a stateid is one
pub stands_one : (x : Context) (k : StateGiven) (a b : StateId) → StandsFor x k a → StandsFor x k b → a ≡ b
stands_one x k a b (Itself other is) (Itself still so) = is ∙ sym so
stands_one x k a b (Itself other is) (TheCurrent at some so) = absurd (other at)
stands_one x k a b (TheCurrent at some is) (Itself other so) = absurd (other at)
stands_one x k a b (TheCurrent at some is) (TheCurrent there else so) = is ∙ sym so

-- and what is given has one number
pub given_one : (x : Context) (i : Item) (k : StateGiven) (id : StateId) → by_state i ≡ Some k → StandsFor x k id → (n : ℕ) → IsGiven x i n → n ≡ id.number
given_one x i k id is means n given =
    let one : given.given ≡ k = same_Some given.given k (sym given.is ∙ is) in
    sym given.names ∙ ap (λ (i : StateId). i.number) (stands_one x k given.id id (subst (λ k. StandsFor x k given.id) one given.means) means)

pub meant_blames : (s : State) (x : Context) (i : Item) (k : StateGiven) → by_state i ≡ Some k → Blames (Reason s x i) (meant x k.form k.given)
meant_blames s x i k is =
    let g = state_id k.given in
    let c = state_id x.stateid in
    bool_blames (Reason s x i) (is_current g) _ _ (λ at. bool_blames (Reason s x i) (has_zeros c || has_ones c) _ _
    (λ none. NoCurrent k is (current_so g at) (none_so c (has_zeros c) (has_ones c) refl refl none)) (λ some. tt)) (λ not_at. tt)

-- The state that is named.

pub open_fits : (sort : Sort) (o : OpenState) → is_sort sort (open_named o).seat ≡ fits sort OpenOnly
open_fits Either o = refl
open_fits OpenOnly o = refl
open_fits LockOnly o = refl

pub lock_fits : (sort : Sort) (t : Table) (l : LockState) → is_sort sort (lock_named t l).seat ≡ fits sort LockOnly
lock_fits Either t l = refl
lock_fits OpenOnly t l = refl
lock_fits LockOnly t l = refl

-- the file that a state has to be of
abbrev pub IsAsked : Context → StateGiven → Option ℕ → Type 0
IsAsked x k None = k.here ≡ false
IsAsked x k (Some file) = (k.here ≡ true) × (x.current ≡ Some file)

module _ (s : State) (x : Context) (i : Item) (k : StateGiven) (is : by_state i ≡ Some k) (id : StateId) (means : StandsFor x k id) (client : ℕ) (file : Option ℕ)
    (mine : client ≡ x.client) (here : IsAsked x k file) where
  -- there is no state that would do
  bad : (IsSpecial id → ⊥) → ((m : StateTold) → state_of s.opens id ≡ Some m → IsOwn x k m → id.seqid ≤ m.seqid → ⊥) → IsBad s x i
  bad plain none = NoState k id is means plain none

  abbrev of_file : StateTold → Bool
  of_file m = option_map_or (λ f. m.file == f) file true

  -- it is of the file, exactly if it is of the current one where it has to be
  file_so : (m : StateTold) → IsOwn x k m → of_file m ≡ true
  file_so m own = by file here
    where
      by : (o : Option ℕ) → IsAsked x k o → option_map_or (λ f. m.file == f) o true ≡ true
      by None off = refl
      by (Some f) at = eq-eqb m.file f (same_Some m.file f (sym (own.file at.0) ∙ at.1))

  file_own : (m : StateTold) → of_file m ≡ true → k.here ≡ true → x.current ≡ Some m.file
  file_own m is on = by file here is
    where
      by : (o : Option ℕ) → IsAsked x k o → option_map_or (λ f. m.file == f) o true ≡ true → x.current ≡ Some m.file
      by None off is = absurd (false≢true (sym off ∙ on))
      by (Some f) at is = at.1 ∙ ap Some (sym (eqb-true m.file f is))

  told_blames : (IsSpecial id → ⊥) → (m : StateTold) → state_of s.opens id ≡ Some m → (b : Bool) → b ≡ fits k.sort m.sort → AllBlame (Reason s x i) (
      (not (m.client == client), S.BadStateId)
      ∷ (not (of_file m), S.BadStateId)
      ∷ (not b, S.BadStateId)
      ∷ (not (id.seqid == 0) && nat_lt id.seqid m.seqid, S.OldStateId)
      ∷ (nat_lt m.seqid id.seqid, S.BadStateId)
      ∷ []
      )
  told_blames plain m at b fit = (
    λ other. bad plain (λ n there own late. false≢true (sym (not-true _ other) ∙ eq-eqb m.client client (ap (λ (m : StateTold). m.client) (one n there) ∙ (own.client ∙ sym mine)))),
    λ client_is. (
      λ other. bad plain (λ n there own late. false≢true (sym (not-true _ other) ∙ (ap of_file (one n there) ∙ file_so n own))),
      λ file_is. (
        λ other. bad plain (λ n there own late. false≢true (sym (not-true _ other) ∙ (fit ∙ (ap (λ (m : StateTold). fits k.sort m.sort) (one n there) ∙ own.sort)))),
        λ sort_is. (
          λ old. (let parts = and_parts (not (id.seqid == 0)) (nat_lt id.seqid m.seqid) old in record {
            given = k;
            is = is;
            id = id;
            means = means;
            state = m;
            names = at;
            own = record {
              client = eqb-true m.client client (not-false _ client_is) ∙ mine;
              file = file_own m (not-false _ file_is);
              sort = sym fit ∙ not-false _ sort_is;
            };
            some = λ zero. false≢true (sym (not-true _ parts.0) ∙ eq-eqb id.seqid 0 zero);
            old = ltb-true id.seqid m.seqid parts.1;
          }),
          λ u. (
            λ later. bad plain (λ k there own late.
                (let less : m.seqid < id.seqid = ltb-true m.seqid id.seqid later in
                let same : m.seqid ≡ k.seqid = ap (λ (m : StateTold). m.seqid) (one k there) in omega arith)),
            λ u. tt,
          ),
        ),
      ),
    ),
  )
    where
      one : (k : StateTold) → state_of s.opens id ≡ Some k → m ≡ k
      one k there = same_Some m k (sym at ∙ there)

  named_blames : (IsSpecial id → ⊥) → (same : Bool) (o : Option OpenState) (l : Option LockState) → state_of s.opens id ≡ cond same (one_of o l) None
      → Blames (Reason s x i) (judge_named client file k.sort id.seqid (cond same (named_by s.opens o l) None))
  named_blames plain false o l at = bad plain (λ m there own late. (let no : None ≡ Some m = sym at ∙ there in cc))
  named_blames plain true None None at = bad plain (λ m there own late. (let no : None ≡ Some m = sym at ∙ there in cc))
  named_blames plain true (Some o) l at = then_checks (Reason s x i) (judge_checks client file k.sort id.seqid (open_named o)) (Ok (open_named o).seat)
      (told_blames plain (record { sort = OpenOnly; client = o.client; file = o.file; seqid = o.seqid }) at (is_sort k.sort (open_named o).seat) (open_fits k.sort o)) (λ all. tt)
  named_blames plain true None (Some l) at = then_checks (Reason s x i) (judge_checks client file k.sort id.seqid (lock_named s.opens l)) (Ok (lock_named s.opens l).seat)
      (told_blames plain (record { sort = LockOnly; client = l.client; file = l.file; seqid = l.seqid }) at (is_sort k.sort (lock_named s.opens l).seat) (lock_fits k.sort s.opens l)) (λ all. tt)

  special_blames : (seat : Seat) → IsSpecial id → Blames (Reason s x i) (special k.sort seat)
  special_blames seat some = by k.sort refl
    where
      by : (o : Sort) → k.sort ≡ o → Blames (Reason s x i) (special o seat)
      by Either e = tt
      by OpenOnly e = Special k id is means some (λ either. (let bad : OpenOnly ≡ Either = sym e ∙ either in cc))
      by LockOnly e = Special k id is means some (λ either. (let bad : LockOnly ≡ Either = sym e ∙ either in cc))

  pub state_blames : Blames (Reason s x i) (judge s.opens id client file k.sort)
  state_blames =
      bool_blames (Reason s x i) (is_anonymous id) _ _ (λ a. special_blames Anonymous (special_so id (ap (λ b. b || is_bypass id) a))) (λ a.
      bool_blames (Reason s x i) (is_bypass id) _ _ (λ b. special_blames ReadBypass (special_so id (or_right (is_anonymous id) (is_bypass id) b))) (λ b.
      named_blames (special_not id a b) (id.instance == s.opens.instance) (open_at s.opens id.number) (lock_at s.opens id.number) refl))

-- What was judged: by which state.

abbrev pub is_state : Seat → Bool
is_state Anonymous = false
is_state ReadBypass = false
is_state (AnOpen number access) = true
is_state (ALock number access) = true

abbrev pub IsSeated : Table → StateId → Sort → Seat → Type 0
IsSeated t id sort (AnOpen n access) = (o : OpenState) × (open_at t id.number ≡ Some o) × (access ≡ o.access)
IsSeated t id sort (ALock n access) = (l : LockState) × (open_at t id.number ≡ None) × (lock_at t id.number ≡ Some l) × (n ≡ l.number)
    × (access ≡ option_map_or (λ (o : OpenState). o.access) (open_at t l.opened) neither)
IsSeated t id sort Anonymous = (sort ≡ Either) × IsSpecial id × (id.seqid ≡ 0)
IsSeated t id sort ReadBypass = (sort ≡ Either) × IsSpecial id

module _ (t : Table) (id : StateId) (client : ℕ) (file : Option ℕ) (sort : Sort) where
  named_seated : (k : Seat) (same : Bool) (o : Option OpenState) (l : Option LockState) → open_at t id.number ≡ o → lock_at t id.number ≡ l
      → judge_named client file sort id.seqid (cond same (named_by t o l) None) ≡ Ok k → IsSeated t id sort k
  named_seated k false o l here held e = absurd cc
  named_seated k true None None here held e = absurd cc
  named_seated k true (Some o) l here held e =
      let c = came (in_order (judge_checks client file sort id.seqid (open_named o))) _ k e in
      subst (IsSeated t id sort) (ok_is refl c.then) (o, here, refl)
  named_seated k true None (Some l) here held e =
      let c = came (in_order (judge_checks client file sort id.seqid (lock_named t l))) _ k e in
      subst (IsSeated t id sort) (ok_is refl c.then) (l, here, held, refl, refl)

  special_seated : (seat k : Seat) → special sort seat ≡ Ok k → (sort ≡ Either → IsSeated t id sort seat) → IsSeated t id sort k
  special_seated seat k e is = by sort refl e
    where
      by : (o : Sort) → sort ≡ o → special o seat ≡ Ok k → IsSeated t id sort k
      by Either at e = subst (IsSeated t id sort) (ok_is refl e) (is at)
      by OpenOnly at e = absurd cc
      by LockOnly at e = absurd cc

  pub seated : (k : Seat) → judge t id client file sort ≡ Ok k → IsSeated t id sort k
  seated k e = by (is_anonymous id) (is_bypass id) refl refl e
    where
      by : (a b : Bool) → is_anonymous id ≡ a → is_bypass id ≡ b
          → cond a (special sort Anonymous) (cond b (special sort ReadBypass) (judge_named client file sort id.seqid
          (cond (id.instance == t.instance) (named_by t (open_at t id.number) (lock_at t id.number)) None))) ≡ Ok k → IsSeated t id sort k
      by true b is other e = special_seated Anonymous k e (λ either.
          (either, special_so id (ap (λ a. a || is_bypass id) is), eqb-true _ _ (and_parts (id.seqid == 0) (has_zeros id) is).0))
      by false true is other e = special_seated ReadBypass k e (λ either. (either, special_so id (or_right (is_anonymous id) (is_bypass id) other)))
      by false false is other e = named_seated k (id.instance == t.instance) (open_at t id.number) (lock_at t id.number) refl refl e

pub open_under : (t : Table) → IsTable t → (l : LockState) (o : OpenState) → IsUnder t.opens l o → open_at t l.opened ≡ Some o
open_under t whole l o is = ap (open_at t) (sym is.number) ∙ at_of_in (λ (o : OpenState). o.number) 1 (suc t.last) t.opens o whole.opens is.stands

-- the access that it has is that of its open, which is there
pub access_there : (t : Table) → IsTable t → (id : StateId) (sort : Sort) (k : Seat) → (sort ≡ Either → ⊥) ⊎ (is_state k ≡ true) → IsSeated t id sort k
    → access_under t id.number ≡ Some (access_in k)
access_there t whole id sort (AnOpen n access) state (o, here, same) = ap (λ p. access_with t p (lock_at t id.number)) here ∙ ap Some (sym same)
access_there t whole id sort (ALock n access) state (l, here, held, number, same) =
    let there = find_in (λ (l : LockState). l.number == id.number) t.locks l held in
    let under = whole.under l there.0 in
    let at : open_at t l.opened ≡ Some under.0 = open_under t whole l under.0 under.1 in
    ap (λ p. access_with t p (lock_at t id.number)) here ∙ (ap (λ p. access_with t None p) held ∙ (ap (option_map (λ (o : OpenState). o.access)) at
    ∙ ap Some (ap (λ p. option_map_or (λ (o : OpenState). o.access) p neither) (sym at) ∙ sym same)))
access_there t whole id sort Anonymous (inl off) (either, some, zero) = absurd (off either)
access_there t whole id sort Anonymous (inr on) seat = absurd (false≢true on)
access_there t whole id sort ReadBypass (inl off) (either, some) = absurd (off either)
access_there t whole id sort ReadBypass (inr on) seat = absurd (false≢true on)
