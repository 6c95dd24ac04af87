-- SETATTR: what it is refused with has its reason, and what it set was the caller's to set. And whose a new object is.
use Rattle.std.proofs.Common.{◌≡◌, ◌⊎◌, ◌<◌, ℕ, Bool, true, false, cond, not, [], ◌∷◌, Option, Some, None, refl, sym, ◌∙◌, ap, subst, inl, inr}
use Rattle.std.proofs.lemmas.Bool.{and_parts, ltb-true, false≢true, not-true, eq-eqb, eqb-true, cases_Bool, or_parts, and_from, or_right, or_cases}
use Rattle.std.specs.{Prelude.{◌==◌, ◌||◌, ◌&&◌, nat_lt, is_some, Result, Ok}, Option.option_map_or}
use Rattle.nfs_xdr.specs.{Caller.Caller, Checks.first_fault, declared.time.Time.Time, declared.status.Status.Status}
use Rattle.nfs_xdr.specs.declared.status.Status.TheVariants as S
use Rattle.nfs_xdr.proofs.Checks.{all_passed}
use Rattle.nfs_compound.specs.{declared.file_args.SetAttr.SetAttr, declared.op.Item.Item, declared.op.Item.TheVariants.Operation}
use Rattle.nfs_compound.specs.declared.op.Op.TheVariants as Op
use Rattle.nfs_compound.specs.declared.op_num.OpNum.TheVariants as Num
use Rattle.nfs_tree.specs.{Files.{can_change}, declared.profile.Profile.Profile, declared.profile.Profile.TheVariants.{Exact, Unix}}
use Rattle.nfs_attrs.specs.{declared.set_time.SetTime.SetTime, declared.set_time.SetTime.TheVariants.{Now, Given}, declared.wanted.Wanted.Wanted, Permissions.{in_group, may, write as to_write}}
use Rattle.nfs_attrs.specs.Setting.{owns, gives_away, takes_owner, takes_group, is_given, is_now, set_checks, make_checks}
use Rattle.nfs_opens.specs.{declared.judging.Sort.TheVariants.Either, declared.stateid.CurrentSeqid.TheVariants.Any}
use Rattle.nfs_names.specs.{declared.context.Context.Context, declared.node.Node.Node, State.State, Outcome.Outcome, Checks.{current, permits}, Create.attributes_in}
use Rattle.nfs_files.specs.{Bytes.{file_checks, writing, may_use}, SetAttr.{may_resize, gives_some, set_attr}}
use Rattle.nfs_files.proofs.{TreeFiles.IsWhole, WrittenOps.current_number}
use Rattle.nfs_promises.specs.Answers.Asked.{StateGiven, sets_size, size_in, Owns, MaySet, own, Sets, ToSet, Touches, Access, Modify, ToTouch, ToSize}
use Rattle.nfs_promises.specs.{Answers.Reasons.{IsSet, BySize, Reason}, Permission.Permitted.{Rights, Writes, IsIn, Grants, rights_of, rights_at}}
use Rattle.nfs_promises.proofs.Answers.Blaming.{Blames, AllBlame, then_blames, then_checks, ends_then, ends_checks, answers_blame, passed_all}
use Rattle.nfs_promises.proofs.Answers.{Placed.{Answers, refused_so, done_so, found_now, current_blames, denied_by, rights_is}, InvalidReasons.{given_blames, spent_there}, StateReasons.stands_for, FileReasons.{file_all, may_use_blames}}
use Rattle.nfs_promises.proofs.Permission.Granting.{is_in, in_is, writes, may_write, may_write_bytes, rights_here, current_at}

not_or : (a b : Bool) → not (a || b) ≡ true → (a ≡ false) × (b ≡ false)
not_or a b e = or_parts a b (not-true _ e)

both_false : (a b : Bool) → a ≡ true → b ≡ true → a && b ≡ false → ⊥
both_false a b p q e = false≢true (sym e ∙ and_from a b p q)

-- What is refused by NFS4ERR_PERM is not the caller's to set.

not_owns : (owner : ℕ) (who : Caller) (r : Rights) → r.owner ≡ owner → not (owns owner who) ≡ true → Owns who r → ⊥
not_owns owner who r same other (inl root) = let p = not_or (who.uid == 0) (who.uid == owner) other in false≢true (sym p.0 ∙ eq-eqb who.uid 0 root)
not_owns owner who r same other (inr is) = let p = not_or (who.uid == 0) (who.uid == owner) other in false≢true (sym p.1 ∙ eq-eqb who.uid owner (is ∙ same))

owns_so : (owner : ℕ) (who : Caller) (r : Rights) → r.owner ≡ owner → owns owner who ≡ true → Owns who r
owns_so owner who r same is = elim (or_cases (who.uid == 0) (who.uid == owner) is) [
  | inl root ↦ inl (eqb-true _ _ root)
  | inr own ↦ inr (eqb-true _ _ own ∙ sym same)
]

module _ (profile : Profile) (who : Caller) (r : Rights) (w : Wanted) where
  gift_forbidden : gives_away profile w && not (owns r.owner who) ≡ true → MaySet profile who r w → ⊥
  gift_forbidden takes set =
      let p = and_parts (gives_away profile w) (not (owns r.owner who)) takes in
      let is = in_unix profile p.0 in
      not_owns r.owner who r refl p.1 (set.as_it_is is.0 is.1)
    where
      in_unix : (q : Profile) → gives_away q w ≡ true → (q ≡ Unix) × (is_some w.owner || is_some w.group ≡ true)
      in_unix Exact gives = absurd (false≢true gives)
      in_unix Unix gives = (refl, gives)

  owner_forbidden : takes_owner w.owner r.owner who ≡ true → MaySet profile who r w → ⊥
  owner_forbidden takes set = by w.owner refl takes
    where
      by : (o : Option ℕ) → w.owner ≡ o → takes_owner o r.owner who ≡ true → ⊥
      by None is takes = false≢true takes
      by (Some new) is takes = let p = and_parts (not (new == r.owner)) (not (who.uid == 0)) takes in elim (set.owner new is) [
        | inl root ↦ false≢true (sym (not-true _ p.1) ∙ eq-eqb who.uid 0 root)
        | inr same ↦ false≢true (sym (not-true _ p.0) ∙ eq-eqb new r.owner same)
      ]

  group_forbidden : takes_group w.group r.owner r.group who ≡ true → MaySet profile who r w → ⊥
  group_forbidden takes set = by w.group refl takes
    where
      by : (o : Option ℕ) → w.group ≡ o → takes_group o r.owner r.group who ≡ true → ⊥
      by None is takes = false≢true takes
      by (Some new) is takes =
          let p = and_parts (not (new == r.group)) (not (who.uid == 0 || who.uid == r.owner && in_group new who)) takes in
          let q = not_or (who.uid == 0) (who.uid == r.owner && in_group new who) p.1 in
          elim (set.group new is) [
            | inl root ↦ false≢true (sym q.0 ∙ eq-eqb who.uid 0 root)
            | inr (inl same) ↦ false≢true (sym (not-true _ p.0) ∙ eq-eqb new r.group same)
            | inr (inr (own, within)) ↦ both_false (who.uid == r.owner) (in_group new who) (eq-eqb who.uid r.owner own) (in_is new who within) q.1
          ]

  mode_forbidden : is_some w.mode && not (owns r.owner who) ≡ true → MaySet profile who r w → ⊥
  mode_forbidden takes set = by w.mode refl (and_parts (is_some w.mode) (not (owns r.owner who)) takes)
    where
      by : (o : Option ℕ) → w.mode ≡ o → (is_some o ≡ true) × (not (owns r.owner who) ≡ true) → ⊥
      by None is p = false≢true p.0
      by (Some new) is p = not_owns r.owner who r refl p.1 (set.mode new is)

  times_forbidden : (is_given w.access || is_given w.modify) && not (owns r.owner who) ≡ true → MaySet profile who r w → ⊥
  times_forbidden takes set =
      let p = and_parts (is_given w.access || is_given w.modify) (not (owns r.owner who)) takes in
      elim (or_cases (is_given w.access) (is_given w.modify) p.0) [
        | inl access ↦ by w.access access (λ t is. not_owns r.owner who r refl p.1 (set.accessed t is))
        | inr modify ↦ by w.modify modify (λ t is. not_owns r.owner who r refl p.1 (set.modified t is))
      ]
    where
      by : (o : Option SetTime) → is_given o ≡ true → ((t : Time) → o ≡ Some (Given t) → ⊥) → ⊥
      by None is why = false≢true is
      by (Some Now) is why = false≢true is
      by (Some (Given t)) is why = why t refl

  -- and what passed is
  may_set : gives_away profile w && not (owns r.owner who) ≡ false → takes_owner w.owner r.owner who ≡ false → takes_group w.group r.owner r.group who ≡ false
      → is_some w.mode && not (owns r.owner who) ≡ false → (is_given w.access || is_given w.modify) && not (owns r.owner who) ≡ false → MaySet profile who r w
  may_set gift owner group mode times = record {
    as_it_is = λ unix some. owned (gives_away profile w) (ap (λ q. gives_away q w) unix ∙ some) gift;
    owner = λ new is. by_owner new (subst (λ o. takes_owner o r.owner who ≡ false) is owner);
    group = λ new is. by_group new (subst (λ o. takes_group o r.owner r.group who ≡ false) is group);
    mode = λ new is. owned (is_some w.mode) (ap is_some is) mode;
    accessed = λ t is. owned (is_given w.access || is_given w.modify) (ap (λ o. is_given o || is_given w.modify) is) times;
    modified = λ t is. owned (is_given w.access || is_given w.modify) (ap (λ o. is_given w.access || is_given o) is ∙ or_right (is_given w.access) true refl) times;
  }
    where
      owned : (b : Bool) → b ≡ true → b && not (owns r.owner who) ≡ false → Owns who r
      owned b is off = elim (cases_Bool (owns r.owner who)) [
        | inl own ↦ owns_so r.owner who r refl own
        | inr other ↦ absurd (both_false b (not (owns r.owner who)) is (ap not other) off)
      ]

      by_owner : (new : ℕ) → not (new == r.owner) && not (who.uid == 0) ≡ false → (who.uid ≡ 0) ⊎ (new ≡ r.owner)
      by_owner new off = elim (cases_Bool (who.uid == 0)) [
        | inl root ↦ inl (eqb-true _ _ root)
        | inr user ↦ elim (cases_Bool (new == r.owner)) [
          | inl same ↦ inr (eqb-true _ _ same)
          | inr other ↦ absurd (both_false (not (new == r.owner)) (not (who.uid == 0)) (ap not other) (ap not user) off)
        ]
      ]

      by_group : (new : ℕ) → not (new == r.group) && not (who.uid == 0 || who.uid == r.owner && in_group new who) ≡ false
          → (who.uid ≡ 0) ⊎ ((new ≡ r.group) ⊎ ((who.uid ≡ r.owner) × IsIn new who))
      by_group new off = elim (cases_Bool (new == r.group)) [
        | inl same ↦ inr (inl (eqb-true _ _ same))
        | inr other ↦ elim (cases_Bool (who.uid == 0 || who.uid == r.owner && in_group new who)) [
          | inl is ↦ elim (or_cases (who.uid == 0) (who.uid == r.owner && in_group new who) is) [
            | inl root ↦ inl (eqb-true _ _ root)
            | inr own ↦ (let p = and_parts (who.uid == r.owner) (in_group new who) own in inr (inr (eqb-true _ _ p.0, is_in new who p.1)))
          ]
          | inr none ↦ absurd (both_false (not (new == r.group)) (not (who.uid == 0 || who.uid == r.owner && in_group new who)) (ap not other) (ap not none) off)
        ]
      ]

-- a new object's owner and group
pub make_blames : (s : State) (x : Context) (i : Item) (w : Wanted) → Sets s x i (own x.who) w → AllBlame (Reason s x i) (make_checks w x.who)
make_blames s x i w sets = (
  λ takes. record { rights = own x.who; wanted = w; sets = sets; forbids = owner_forbidden s.tree.profile x.who (own x.who) w takes },
  λ u. (λ takes. record { rights = own x.who; wanted = w; sets = sets; forbids = group_forbidden s.tree.profile x.who (own x.who) w takes }, λ u. tt),
)

-- a size beyond the limit
pub too_long : {X : Type 0} (limit : ℕ) (o : Option ℕ) → option_map_or (nat_lt limit) o false ≡ true → ((size : ℕ) → o ≡ Some size → limit < size → X) → X
too_long limit None long is = absurd (false≢true long)
too_long limit (Some size) long is = is size refl (ltb-true limit size long)

-- SETATTR

touched : (w : Wanted) → is_now w.access || is_now w.modify ≡ true → Touches w
touched w is = elim (or_cases (is_now w.access) (is_now w.modify) is) [ inl access ↦ Access (by w.access access) | inr modify ↦ Modify (by w.modify modify) ]
  where
    by : (o : Option SetTime) → is_now o ≡ true → o ≡ Some Now
    by None is = absurd (false≢true is)
    by (Some Now) is = refl
    by (Some (Given t)) is = absurd (false≢true is)

touches_so : (w : Wanted) → Touches w → is_now w.access || is_now w.modify ≡ true
touches_so w (Access is) = ap (λ o. is_now o || is_now w.modify) is
touches_so w (Modify is) = ap (λ o. is_now w.access || is_now o) is ∙ or_right (is_now w.access) true refl

module _ (s : State) (whole : IsWhole s) (x : Context) (a : SetAttr) where
  abbrev i : Item
  i = Operation (Op.SetAttr a)

  abbrev B : Status → Type 0
  B = Reason s x i

  abbrev Y : Outcome → Type 0
  Y = Answers s x i

  module _ (d : Node) (e : current s x ≡ Ok d) (w : Wanted) (gives : attributes_in a.obj_attributes ≡ Ok w) where
    abbrev r : Rights
    r = rights_of d.object

    here : rights_at s.tree d.number ≡ Some r
    here = rights_is s d (found_now s x d e).1

    sets : Sets s x i r w
    sets = ToSet d.number a r w (current_number s x d e) here gives

    set_all : AllBlame B (set_checks s.tree.profile d.object w x.who)
    unfolding permits
    set_all = (
      λ takes. forbidden (gift_forbidden s.tree.profile x.who r w takes),
      λ u. (
        λ takes. forbidden (owner_forbidden s.tree.profile x.who r w takes),
        λ u. (
          λ takes. forbidden (group_forbidden s.tree.profile x.who r w takes),
          λ u. (
            λ takes. forbidden (mode_forbidden s.tree.profile x.who r w takes),
            λ u. (λ takes. forbidden (times_forbidden s.tree.profile x.who r w takes), λ u. (lacks, λ u. tt)),
          ),
        ),
      ),
    )
      where
        forbidden : (MaySet s.tree.profile x.who r w → ⊥) → B S.Perm
        forbidden not_his = record { rights = r; wanted = w; sets = sets; forbids = not_his }

        lacks : (is_now w.access || is_now w.modify) && not (owns d.object.owner x.who || may d.object x.who to_write) ≡ true → B S.Access
        lacks takes =
            let p = and_parts (is_now w.access || is_now w.modify) (not (owns d.object.owner x.who || may d.object x.who to_write)) takes in
            let q = not_or (owns d.object.owner x.who) (may d.object x.who to_write) p.1 in
            denied_by s x i d (Writes ∷ []) e
            (ToTouch d.number a r w (current_number s x d e) here gives (touched w p.0) (not_owns d.object.owner x.who r refl (ap not q.0)))
            (λ all. false≢true (sym q.1 ∙ may_write x d (all Writes (inl refl))))

    was_set : first_fault (set_checks s.tree.profile d.object w x.who) ≡ None → IsSet s x a
    unfolding permits
    was_set none n q v at is given =
        let c = all_passed (set_checks s.tree.profile d.object w x.who) none in
        let same : r ≡ q = rights_here s n q d is (current_at s x n d at e) in
        let one : w ≡ v = (let two : ◌≡◌ {A = Result Wanted Status} (Ok w) (Ok v) = sym gives ∙ given in cc) in
        subst (λ q. MaySet s.tree.profile x.who q v × (Touches v → Owns x.who q ⊎ Grants q x.who Writes)) same
        (subst (λ v. MaySet s.tree.profile x.who r v × (Touches v → Owns x.who r ⊎ Grants r x.who Writes)) one (
          may_set s.tree.profile x.who r w c.0 c.1.0 c.1.1.0 c.1.1.1.0 c.1.1.1.1.0,
          λ touches. by (touches_so w touches) c.1.1.1.1.1.0,
        ))
      where
        by : is_now w.access || is_now w.modify ≡ true → (is_now w.access || is_now w.modify) && not (owns d.object.owner x.who || may d.object x.who to_write) ≡ false
            → Owns x.who r ⊎ Grants r x.who Writes
        by touches off = elim (cases_Bool (owns d.object.owner x.who)) [
          | inl its ↦ inl (owns_so d.object.owner x.who r refl its)
          | inr other ↦ elim (cases_Bool (may d.object x.who to_write)) [
            | inl lets ↦ inr (writes x d lets)
            | inr none ↦ absurd (both_false _ _ touches (ap not (ap (λ b. b || may d.object x.who to_write) other ∙ none)) off)
          ]
        ]

    size_blames : (o : Option ℕ) → w.size ≡ o → Blames B (may_resize s x a.stateid d o)
    size_blames None is = tt
    size_blames (Some size) is =
        let on : sets_size a ≡ true = ap (λ v. is_some (size_in v)) gives ∙ ap is_some is in
        let k : StateGiven = record { given = a.stateid; sort = Either; form = Any; here = true } in
        then_checks B (file_checks d) _ (file_all s whole x i refl on d e) (λ u.
        then_blames B (may_use s x writing a.stateid d) _ (may_use_blames s whole x i k (ap (λ b. cond b (Some k) None) on) refl refl refl Writes refl d e (may_write_bytes x d s.tree) (λ id means some.
        ToSize d.number a (record { state = k; is = ap (λ b. cond b (Some k) None) on; id = id; means = stands_for x k id means; special = some; at = current_number s x d e })))
        (λ n e. tt))

  pub set_attr_blames : (now : Time) → Answers s x i (set_attr s x now a)
  unfolding set_attr
  set_attr_blames now = answers_blame B Y s x Num.SetAttr _ (refused_so s x i Num.SetAttr) (ends_then B Y (current s x) _ (current_blames s whole x i refl) (λ d e.
      ends_then B Y (attributes_in a.obj_attributes) _ (given_blames s x i a.obj_attributes refl) (λ w gives.
      ends_checks B Y (set_checks s.tree.profile d.object w x.who) _ (set_all d e w gives) (λ set.
      ends_then B Y (may_resize s x a.stateid d w.size) _ (size_blames d e w gives w.size refl) (λ u e2.
      ends_checks B Y ((option_map_or (nat_lt s.tree.limits.bytes) w.size false, S.FBig) ∷ (gives_some w && not (can_change s.tree d.number), S.ServerFault) ∷ []) _ (
        λ long. too_long s.tree.limits.bytes w.size long (λ size is less. BySize a size refl (ap size_in gives ∙ is) less),
        λ u. (
          λ spent. spent_there s d (found_now s x d e).1 (not-true _ (and_parts (gives_some w) (not (can_change s.tree d.number)) spent).1),
          λ u. tt,
        ),
      ) (λ u. done_so s x i (was_set d e w gives (passed_all (set_checks s.tree.profile d.object w x.who) set))))))))
