-- A lock that is denied is denied by one that is held.
use Rattle.std.proofs.Common.{◌≡◌, ◌⊎◌, ℕ, suc, ◌+◌, ◌<◌, ◌≤◌, Bool, true, false, cond, not, [], ◌∷◌, Option, Some, None, refl, sym, ◌∙◌, ap, subst, arith, inl, inr}
use Rattle.std.proofs.lemmas.Bool.{and_parts, cases_Bool, eq-eqb, eqb-true, false≢true, ltb-true, ltb-false, not-true}
use Rattle.std.specs.Prelude.{◌==◌, ◌&&◌, ◌-◌, nat_lt, is_some, Result, Ok}
use Rattle.nfs_xdr.specs.{Tables.In, declared.status.Status.Status}
use Rattle.nfs_xdr.specs.declared.status.Status.TheVariants as S
use Rattle.nfs_xdr.proofs.Checks.{all_passed}
use Rattle.nfs_compound.specs.{declared.lock_args.LockType.LockType, declared.op.Item.Item}
use Rattle.nfs_ranges.specs.{declared.Held.Held, declared.Kind.{Kind, TheVariants.{Read, Write}}, Told.{clashes, meets, told, told_at}, Facts.Tells, Holders.{Holders, least}}
use Rattle.nfs_ranges.proofs.ToldLemmas.{told_is_unique}
use Rattle.nfs_opens.specs.{declared.locking.Wish.Wish, declared.records.LockState.LockState, Locking.clash, Steps.in_order}
use Rattle.nfs_names.specs.{declared.{context.Context.Context, node.Node.Node}, State.State, Checks.current}
use Rattle.nfs_names.proofs.Found.{came, ok_is, checked_ok}
use Rattle.nfs_files.specs.{Ranges.{all_ones, kind_of, range, wished}, Target.the_file, Bytes.file_checks}
use Rattle.nfs_files.proofs.{TreeFiles.IsWhole, Wishes.{wish_is, wish_range}, WrittenOps.current_number}
use Rattle.nfs_files.proofs.InSteps as in_steps
use Rattle.nfs_promises.specs.Answers.{Asked.{InRange, IsAskers, LiesBeside, Range, locked}, Reasons.Reason}
use Rattle.nfs_promises.proofs.Answers.Blaming.{passed_all}

-- The current file, and what is wished of it.

pub the_file_is : (s : State) (x : Context) (d : Node) → the_file s x ≡ Ok d → current s x ≡ Ok d
the_file_is s x d e = (checked_ok (current s x) file_checks d (sym (in_steps.file_is s x) ∙ e)).0

pub wished_is : (s : State) (x : Context) (how : LockType) (offset size : ℕ) (w : Wish) → wished s x how offset size ≡ Ok w
    → (w.client ≡ x.client) × (x.current ≡ Some w.file) × (w.kind ≡ kind_of how)
unfolding wished
wished_is s x how offset size w e =
    let d = came (the_file s x) _ w e in
    let n = came (range offset size) _ w d.then in
    let same : record { client = x.client; file = d.found.number; kind = kind_of how; first = offset; last = n.found } ≡ w = ok_is refl n.then in
    (ap (λ (w : Wish). w.client) (sym same), current_number s x d.found (the_file_is s x d.found d.is) ∙ ap (λ (w : Wish). Some w.file) same, ap (λ (w : Wish). w.kind) (sym same))

-- what is held clashes
not_beside : (kind : Kind) (held : Option Kind) → meets kind held ≡ true → LiesBeside kind held → ⊥
not_beside kind None e beside = false≢true e
not_beside Read (Some Read) e beside = false≢true e
not_beside Read (Some Write) e (inl none) = cc
not_beside Read (Some Write) e (inr both) = (let bad : Some Write ≡ Some Read = both.1 in cc)
not_beside Write (Some k) e (inl none) = cc
not_beside Write (Some k) e (inr both) = (let bad : Write ≡ Read = both.0 in cc)

-- up to the last byte of a range all are in it
in_range : (offset size last b : ℕ) → range offset size ≡ Ok last → offset ≤ b → b ≤ last → last ≤ 0xffff_ffff_ffff_ffff → InRange offset size b
unfolding range
in_range offset size last b e low high most =
    let checks = (size == 0, S.Inval) ∷ (not (size == all_ones) && nat_lt all_ones (offset + size), S.Inval) ∷ [] in
    let c = came (in_order checks) _ last e in
    let top : b ≤ 0xffff_ffff_ffff_ffff = omega arith in
    (low, top, by (size == all_ones) refl (all_passed checks (passed_all checks c.is)).0 c.then)
  where
    some : size == 0 ≡ false → (size ≤ 0 → ⊥)
    some off none = (let zero : size ≡ 0 = omega arith in false≢true (sym off ∙ eq-eqb size 0 zero))

    by : (all : Bool) → (size == all_ones) ≡ all → size == 0 ≡ false → ◌≡◌ {A = Result ℕ Status} (Ok (cond all all_ones (offset + size - 1))) (Ok last)
        → (size ≡ 0xffff_ffff_ffff_ffff) ⊎ (suc b ≤ offset + size)
    by true is off e = inl (eqb-true size all_ones is)
    by false is off e = inr (elim (cases_Bool (nat_lt 0 size)) [
      | inl more ↦ (let one : suc 0 ≤ size = ltb-true 0 size more in let same : offset + size - 1 ≡ last = ok_is refl e in omega (arith, same))
      | inr none ↦ absurd (some off (ltb-false 0 size none))
    ])

-- behind its last byte a range has none
none_beyond : (f : Holders) (bound s : ℕ) (kind : Kind) (first last : ℕ) (h : Held) → last < first → told f bound s kind first last ≡ Some h → ⊥
unfolding told
none_beyond f bound s kind first last h past e =
    let zero : suc last - first ≡ 0 = omega arith in
    let bad : None ≡ Some h = sym (ap (λ n. told_at f bound s kind (least (λ b. is_some (least (clashes f s kind b) 0 bound)) first n)) zero) ∙ e in
    cc

-- a clash with another number than the asker's lock states on the file have
pub held_so : (s : State) → IsWhole s → (x : Context) (i : Item) (a : Range) → locked i ≡ Some a → (w : Wish) → wished s x a.type a.offset a.size ≡ Ok w
    → (own : ℕ) → ((l : LockState) → In l s.opens.locks → l.file ≡ w.file → IsAskers x i l → l.number ≡ own) → (h : Held) → clash s.opens own w ≡ Some h → Reason s x i S.Denied
held_so s whole x i a is w e own askers h denied =
    let its = wish_is s x a.type a.offset a.size w e in
    let wish = wished_is s x a.type a.offset a.size w e in
    elim (wish_range s x a.type a.offset a.size w e) [
      | inl between ↦
          (let tells : Tells (s.opens.held w.file) own w.kind w.first w.last (Some h) =
          (told_is_unique (s.opens.held w.file) (suc s.opens.last) own w.kind w.first w.last (Some h) between.0 between.1 (whole.table.below w.file)).1 denied in
          let parts = and_parts (not (h.owner == own)) (meets w.kind (s.opens.held w.file h.owner tells.0)) tells.1.clash in
          let low : a.offset ≤ tells.0 = subst (λ first. first ≤ tells.0) its.first tells.1.within.0 in
          let lies : LiesBeside (kind_of a.type) (s.opens.held w.file h.owner tells.0) → ⊥ =
          subst (λ kind. LiesBeside kind (s.opens.held w.file h.owner tells.0) → ⊥) wish.2 (not_beside w.kind (s.opens.held w.file h.owner tells.0) parts.1) in
          let l = whole.table.holders w.file h.owner tells.0 (λ none. lies (inl none)) in
          record {
            range = a;
            is = is;
            holder = l.0;
            there = l.1.stands;
            at = wish.1 ∙ ap Some (sym l.1.file);
            other = λ mine. false≢true (sym (not-true _ parts.0) ∙ eq-eqb h.owner own (sym l.1.number ∙ askers l.0 l.1.stands l.1.file mine));
            byte = tells.0;
            within = in_range a.offset a.size w.last tells.0 its.last low tells.1.within.1 (let small = between.1 in omega arith);
            clash = subst (λ f. LiesBeside (kind_of a.type) (s.opens.held f l.0.number tells.0) → ⊥) (sym l.1.file)
                (subst (λ n. LiesBeside (kind_of a.type) (s.opens.held w.file n tells.0) → ⊥) (sym l.1.number) lies);
          })
      | inr past ↦ absurd (none_beyond (s.opens.held w.file) (suc s.opens.last) own w.kind w.first w.last h past.0 denied)
    ]
