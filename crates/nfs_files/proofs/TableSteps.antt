-- What each effect keeps of the table of opens.
use Rattle.std.proofs.Common.{◌≡◌, ◌⊎◌, ℕ, suc, ◌+◌, ◌<◌, Bool, true, false, cond, eqb, List, [], ◌∷◌, ◌++◌, Option, Some, None, refl, sym, ◌∙◌, ap, subst, arith, inl, inr}
use Rattle.std.proofs.{Math.Path.fun_ext, lemmas.Bool.{cases_Bool, eqb-true}}
use Rattle.std.specs.{Prelude.{◌==◌, Ok, filter}, List.list_any}
use Rattle.nfs_xdr.specs.declared.time.Time.{Time}
use Rattle.nfs_xdr.proofs.{Lists.{find_in, in_filter, stays_in, in_push, push_in}, Tables.{IsRising-filter, IsRising-push, IsRising-upto}}
use Rattle.nfs_compound.specs.declared.op.Item.{Item}
use Rattle.nfs_ranges.specs.{Holders.{Holders, holding}, declared.Kind.Kind}
use Rattle.nfs_opens.specs.{declared.share.Share.Share, declared.records.OpenState.OpenState, declared.records.LockState.LockState, declared.locking.Wish.Wish}
use Rattle.nfs_opens.specs.{Holding.{FileHolders, on_file}, Closing.held_within, Locking.lock_judged}
use Rattle.nfs_opens.specs.{Table.{Table, Asked, open_at, lock_at, with_lock, clashes_with}, TableInvariants.IsTable}
use Rattle.nfs_opens.specs.Locking as locking
use Rattle.nfs_opens.specs.Opening as opening
use Rattle.nfs_opens.proofs.{HolderLemmas.{IsFewer, fewer_keeps}, TableLemmas.{table_opened, table_closed, holders_left, KeepsBytes, table_raised}}
use Rattle.nfs_opens.proofs.StepLemmas.{table_join, table_narrow, no_clash_asked, free_keeps, table_locked, table_unlocked, table_first, judged_tells}
use Rattle.nfs_opens.proofs.CallLaws.{first_state}
use Rattle.nfs_names.specs.{declared.context.Context.Context, Ending.table_staying, State.State}
use Rattle.nfs_files.proofs.{KeptLocks.{within_not, held_other}, Outcomes.comes_to, Wishes.IsRange}
use Rattle.nfs_files.proofs.{Effects.{Effect, Opens, Narrows, Closes, Locks, Begins, Unlocks, Frees, Fits, table_behind}, Effected.kept_opens}
use Rattle.nfs_opens.proofs.Terms.{stands}

no_bytes : (h : Holders) (n : ℕ) (kind : Kind) (first last : ℕ) → last < first → holding h n kind first last ≡ h
no_bytes h n kind first last empty =
    fun_ext (λ s. fun_ext (λ b. held_other h n kind first last s b (λ same. within_not first last b (λ lo hi. absurd (omega arith)))))

no_bytes_on : (held : FileHolders) (file n : ℕ) (kind : Kind) (first last : ℕ) → last < first → held ≡ on_file held file (λ h. holding h n kind first last)
no_bytes_on held file n kind first last empty = fun_ext (λ f. elim (cases_Bool (eqb f file)) [
  | inl here ↦ rw here (sym (no_bytes (held f) n kind first last empty))
  | inr other ↦ rw other refl
])

more_is : (t : Table) (w : Wish) (n : ℕ) (access : Share) (l : LockState) → IsTable t → IsRange w.first w.last → lock_judged t n access w ≡ Ok tt → lock_at t n ≡ Some l → l.file ≡ w.file
    → IsTable (record (with_lock t n locking.raised) { held = on_file t.held w.file (λ h. holding h n w.kind w.first w.last) })
more_is t w n access l is (inl range) judged at of_file = table_locked t w n access l is range.0 range.1 judged at of_file
more_is t w n access l is (inr empty) judged at of_file =
    let same : holding (t.held w.file) n w.kind w.first w.last ≡ t.held w.file = no_bytes (t.held w.file) n w.kind w.first w.last empty.0 in
    let kept : KeepsBytes t w.file (t.held w.file) = record {
      holders = is.holders w.file;
      bytes = is.bytes w.file;
      within = λ s b past. is.within w.file s b past;
      below = is.below w.file;
    } in
    table_raised t n w.file (λ h. holding h n w.kind w.first w.last) is (subst (KeepsBytes t w.file) (sym same) kept)

-- a new lock state that holds nothing
empty_first : (t : Table) (w : Wish) (owner : List ℕ) (opened : ℕ) (o : OpenState) → IsTable t → open_at t opened ≡ Some o → o.client ≡ w.client → o.file ≡ w.file
    → IsTable (record t { locks = t.locks ++ first_state t w owner opened ∷ []; last = t.last + 1 })
empty_first t w owner opened o is at client of_file =
    let new : LockState = first_state t w owner opened in
    let found = find_in (λ (o : OpenState). o.number == opened) t.opens o at in
    record {
      opens = IsRising-upto (λ (o : OpenState). o.number) 1 (suc t.last) (suc (t.last + 1)) t.opens (omega arith) is.opens;
      locks = IsRising-push (λ (l : LockState). l.number) 1 (suc t.last) (suc (t.last + 1)) t.locks new (omega arith) (omega arith) is.locks;
      shares = is.shares;
      under = λ l there. elim (in_push t.locks new l there) [
        | inl here ↦ (
          o,
          record {
            stands = found.0;
            number = eqb-true _ _ found.1 ∙ sym (ap (λ (l : LockState). l.opened) here);
            client = client ∙ sym (ap (λ (l : LockState). l.client) here);
            file = of_file ∙ sym (ap (λ (l : LockState). l.file) here);
          },
        )
        | inr old ↦ is.under l old
      ];
      holders = λ f s b some. (let (l, holder) = is.holders f s b some in
          (l, record { stands = push_in t.locks new l holder.stands; number = holder.number; file = holder.file }));
      bytes = is.bytes;
      within = is.within;
      below = λ f s b past. is.below f s b (omega arith);
    }

first_is : (t : Table) (w : Wish) (owner : List ℕ) (opened : ℕ) (access : Share) (o : OpenState) → IsTable t → IsRange w.first w.last → lock_judged t 0 access w ≡ Ok tt
    → open_at t opened ≡ Some o → o.client ≡ w.client → o.file ≡ w.file
    → IsTable (record t {
      locks = t.locks ++ first_state t w owner opened ∷ [];
      held = on_file t.held w.file (λ h. holding h (t.last + 1) w.kind w.first w.last);
      last = t.last + 1;
    })
first_is t w owner opened access o is (inl range) judged at client file =
    table_first t w owner opened o is range.0 range.1 (judged_tells t 0 access w is range.0 range.1 judged) at client file
first_is t w owner opened access o is (inr empty) judged at client file =
    subst (λ held. IsTable (record t { locks = t.locks ++ first_state t w owner opened ∷ []; held = held; last = t.last + 1 }))
    (no_bytes_on t.held w.file (t.last + 1) w.kind w.first w.last empty.0) (empty_first t w owner opened o is at client file)

opened_is : (t : Table) (a : Asked) (o : Option OpenState) → IsTable t → opening.own_open t a ≡ o → list_any (clashes_with a) t.opens ≡ false → IsTable (opening.opens_by t a o).after
opened_is t a (Some o) is own free = table_join t a o is own free
opened_is t a None is own free = table_opened t a is free

-- By the effect.
table_kept : (s : State) (client : ℕ) (e : Effect) → Fits s client e → IsTable s.opens → IsTable (table_behind s.opens e)
table_kept s client (Opens a) fits is =
    opened_is s.opens a (opening.own_open s.opens a) is refl (no_clash_asked (list_any (clashes_with a) s.opens.opens) _ fits.free)
table_kept s client (Narrows n access deny) fits is = table_narrow s.opens n access deny fits.state is fits.found fits.narrower
table_kept s client (Closes n file) fits is = table_closed s.opens n is
table_kept s client (Locks n w) fits is = more_is s.opens w n fits.access fits.state is fits.range fits.judged fits.found fits.of_file
table_kept s client (Begins opened owner w) fits is =
    first_is s.opens w owner opened fits.access fits.state is fits.range fits.judged fits.found fits.same fits.of_file
table_kept s client (Unlocks n w) fits is = table_unlocked s.opens n w.file w.first w.last is
table_kept s client (Frees n) fits is = free_keeps s.opens n fits.state is fits.found fits.empty
table_kept s client e fits is = is

pub table_item : (refused : Bool) (s : State) (x : Context) (now : Time) (i : Item) → IsTable s.opens → IsTable (comes_to refused s x now i).state.opens
table_item refused s x now i table = kept_opens IsTable refused s x now i (λ t e fits is. table_kept t x.client e (fits table) is) table

-- The end of clients: an open whose client stays, stays, so each lock state that is left has its open.
fewer_within : (locks : List LockState) (held : FileHolders) (f : ℕ) → IsFewer (held_within locks held f) (held f)
fewer_within locks held f s b = go (stands locks s) (held f s b)
  where
    go : (v : Bool) (o : Option Kind) → (cond v o None ≡ None) ⊎ (cond v o None ≡ o)
    go true o = inr refl
    go false o = inl refl

within_none : (v : Bool) (o : Option Kind) → o ≡ None → cond v o None ≡ None
within_none true o e = e
within_none false o e = refl

pub table_staying_is : (stays : ℕ → Bool) (t : Table) → IsTable t → IsTable (table_staying stays t)
table_staying_is stays t is =
    let p : LockState → Bool = λ l. stays l.client in
    let locks = filter p t.locks in
    record {
      opens = IsRising-filter (λ (o : OpenState). o.number) (λ o. stays o.client) 1 (suc t.last) t.opens is.opens;
      locks = IsRising-filter (λ (l : LockState). l.number) p 1 (suc t.last) t.locks is.locks;
      shares = λ a b in_a in_b. is.shares a b (in_filter (λ (o : OpenState). stays o.client) t.opens a in_a).0
          (in_filter (λ (o : OpenState). stays o.client) t.opens b in_b).0;
      under = λ l there.
          let was = in_filter p t.locks l there in
          let (o, under) = is.under l was.0 in (
            o,
            record {
              stands = stays_in (λ (o : OpenState). stays o.client) t.opens o under.stands (ap stays under.client ∙ was.1);
              number = under.number;
              client = under.client;
              file = under.file;
            },
          );
      holders = holders_left t p is;
      bytes = λ f. fewer_keeps (t.held f) (held_within locks t.held f) (fewer_within locks t.held f) (is.bytes f);
      within = λ f s b past. within_none _ _ (is.within f s b past);
      below = λ f s b past. within_none _ _ (is.below f s b past);
    }
