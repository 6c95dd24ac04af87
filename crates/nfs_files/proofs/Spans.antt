-- Ranges that reach the last byte.
use Rattle.std.proofs.Common.{◌≡◌, ℕ, ◌+◌, ◌-◌, Bool, true, false, cond, eqb, ltb, not, [], ◌∷◌, refl, sym, ◌∙◌, ap, subst, arith}
use Rattle.std.proofs.lemmas.Bool.{eqb-false, ne_eqb, ltb-false}
use Rattle.std.specs.Prelude.{Result, Ok, Err, ◌&&◌, ◌==◌, nat_lt}
use Rattle.nfs_xdr.specs.{Checks.first_fault, declared.status.Status.Status, declared.status.Status.TheVariants.Inval}
use Rattle.nfs_compound.specs.{declared.stateid.Stateid.Stateid, declared.lock_args.LockType.LockType}
use Rattle.nfs_opens.specs.{declared.locking.Wish.Wish, declared.stateid.StateId.StateId, declared.stateid.CurrentSeqid.TheVariants.Any, Calls.is_whole}
use Rattle.nfs_names.specs.{declared.context.Context.Context, declared.node.Node.Node, State.State, Outcome.{passed, mapped}}
use Rattle.nfs_names.proofs.Found.{came}
use Rattle.nfs_files.specs.{declared.ranges.Wished.Wished, StateIds.meant, Target.the_file, Ranges.{all_ones, range, wished}, Parts.{wish, wished_by}}
use Rattle.nfs_files.proofs.InSteps.{range_is, wished_is}
use Rattle.nfs_files.proofs.Terms.{last_of}

-- what a range that passes its two checks is
record Passed (empty over : Bool) (last l : ℕ) : Type 0 where
  some : empty ≡ false
  fits : over ≡ false
  end : last ≡ l

passed_both : (empty over : Bool) (last l : ℕ) → passed last (first_fault ((empty, Inval) ∷ (over, Inval) ∷ [])) ≡ Ok l → Passed empty over last l
passed_both true over last l e = absurd cc
passed_both false true last l e = absurd cc
passed_both false false last l e = record { some = refl; fits = refl; end = cc }

last_whole : (offset size : ℕ) (all : Bool) → eqb size all_ones ≡ all → eqb size 0 ≡ false
    → not all && ltb all_ones (offset + size) ≡ false → eqb (cond all all_ones (offset + size - 1)) all_ones ≡ all
last_whole offset size true e some fits = refl
last_whole offset size false e some fits =
    let within = ltb-false all_ones (offset + size) fits in
    ne_eqb (offset + size - 1) all_ones (λ same. eqb-false size 0 some (omega arith))

pub range_whole : (offset size last : ℕ) → range offset size ≡ Ok last → eqb last all_ones ≡ eqb size all_ones
range_whole offset size last e =
    let p = passed_both (size == 0) (not (size == all_ones) && nat_lt all_ones (offset + size)) (last_of offset size) last (sym (range_is offset size) ∙ e) in
    subst (λ l. eqb l all_ones ≡ eqb size all_ones) p.end (last_whole offset size (eqb size all_ones) refl p.some p.fits)

-- the wish of a LOCKU is of a whole file where its arguments are
record IsWish (offset size : ℕ) (w : Wish) : Type 0 where
  first : w.first ≡ offset
  last : range offset size ≡ Ok w.last

wish_is : (x : Context) (how : LockType) (offset size : ℕ) (d : Node) (r : Result ℕ Status) (w : Wish)
    → range offset size ≡ r → mapped (λ last. wish x how offset last d.number) r ≡ Ok w → IsWish offset size w
wish_is x how offset size d (Err status) w is e = absurd cc
wish_is x how offset size d (Ok last) w is e = let same : wish x how offset last d.number ≡ w = cc in
    subst (IsWish offset size) same (record { first = refl; last = is })

with_id : (w : Wish) (id : Result StateId Status) (k : Wished) → mapped (λ id. record { wish = w; id = id }) id ≡ Ok k → w ≡ k.wish
with_id w (Err status) k e = absurd cc
with_id w (Ok id) k e = let same : record { wish = w; id = id } ≡ k = cc in ap (λ (k : Wished). k.wish) same

pub wished_parts : (x : Context) (given : Stateid) (v : Result Wish Status) (k : Wished) → wished_by x given v ≡ Ok k → v ≡ Ok k.wish
wished_parts x given (Err status) k e = absurd cc
wished_parts x given (Ok w) k e = ap Ok (with_id w (meant x Any given) k e)

pub wished_whole : (s : State) (x : Context) (how : LockType) (offset size : ℕ) (given : Stateid) (k : Wished)
    → wished_by x given (wished s x how offset size) ≡ Ok k → is_whole k.wish.first k.wish.last ≡ (offset == 0 && size == all_ones)
wished_whole s x how offset size given k e =
    let d = came (the_file s x) _ k.wish (sym (wished_is s x how offset size) ∙ wished_parts x given (wished s x how offset size) k e) in
    let w = wish_is x how offset size d.found (range offset size) k.wish refl d.then in
    ap (λ n. n == 0 && k.wish.last == all_ones) w.first ∙ ap (λ b. offset == 0 && b) (range_whole offset size k.wish.last w.last)
