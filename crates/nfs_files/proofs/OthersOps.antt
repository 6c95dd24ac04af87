-- An operation of one client leaves another what it has.
use Rattle.std.proofs.{Common.{◌≡◌, ◌≢◌, ℕ, ◌+◌, Bool, eqb, Option, Some, None, refl, sym, ◌∙◌, inl, inr}, lemmas.Bool.{cases_Bool, eqb-true, and_parts}}
use Rattle.nfs_xdr.specs.declared.time.Time.{Time}
use Rattle.nfs_xdr.proofs.Lists.{find_in}
use Rattle.nfs_compound.specs.declared.op.Item.{Item}
use Rattle.nfs_ranges.specs.Holders.{Holders, holding, cleared}
use Rattle.nfs_opens.specs.{declared.records.OpenState.OpenState, declared.locking.Wish.Wish, Holding.{FileHolders, on_file}, Table.{Table, Asked, is_own}}
use Rattle.nfs_opens.specs.TableInvariants.{IsTable}
use Rattle.nfs_opens.specs.Opening as opening
use Rattle.nfs_opens.specs.Locking as locking
use Rattle.nfs_names.specs.{declared.context.Context.Context, State.State}
use Rattle.nfs_files.proofs.{Outcomes.comes_to, KeptLocks.{held_other, cleared_other}}
use Rattle.nfs_files.proofs.OthersTables.{same, open_is_of, open_changed, lock_changed, open_new, lock_new, open_gone, lock_gone, both}
use Rattle.nfs_files.proofs.{Effects.{Effect, Opens, Narrows, Closes, Locks, Begins, Unlocks, Frees, Fits, table_behind}, Effected.kept_opens}
use Rattle.nfs_files.specs.Own.{HasAsBefore}

-- bytes of one lock state move, and none of another's
moved_apart : (held : FileHolders) (file n : ℕ) (g : Holders → Holders) → ((h : Holders) (s b : ℕ) → s ≢ n → g h s b ≡ h s b)
    → (f s b : ℕ) → s ≢ n → on_file held file g f s b ≡ held f s b
moved_apart held file n g beside f s b other =
    elim (cases_Bool (eqb f file)) [ inl here ↦ rw here (beside (held f) s b other) | inr there ↦ rw there refl ]

held_apart : (held : FileHolders) (w : Wish) (n f s b : ℕ) → s ≢ n → on_file held w.file (λ h. holding h n w.kind w.first w.last) f s b ≡ held f s b
held_apart held w n = moved_apart held w.file n (λ h. holding h n w.kind w.first w.last)
    (λ h s b other. held_other h n w.kind w.first w.last s b (λ named. absurd (other (sym named))))

pub is_other : (a b c : ℕ) → a ≡ b → b ≢ c → a ≢ c
is_other a b c is other mine = other (sym is ∙ mine)

opened_apart : (c : ℕ) (t : Table) (a : Asked) (o : Option OpenState) → opening.own_open t a ≡ o → IsTable t → a.client ≢ c → HasAsBefore c t (opening.opens_by t a o).after
opened_apart c t a (Some o) e is other =
    let there = find_in (is_own a) t.opens o e in
    let client : o.client ≡ a.client = eqb-true _ _ (and_parts _ _ (and_parts _ _ there.1).1).0 in
    open_changed c a.client t o.number (opening.joins a) other (λ o. refl) (open_is_of t o.number a.client o is there.0 refl client)
opened_apart c t a None e is other = open_new c t (opening.new_open t a) (t.last + 1) other

table_apart : (c : ℕ) (s : State) (client : ℕ) (e : Effect) → Fits s client e → client ≢ c → HasAsBefore c s.opens (table_behind s.opens e)
table_apart c s client (Opens a) fits other =
    opened_apart c s.opens a (opening.own_open s.opens a) refl fits.table (is_other a.client client c fits.mine other)
table_apart c s client (Narrows n access deny) fits other = open_changed c client s.opens n (opening.narrows access deny) other (λ o. refl) fits.mine
table_apart c s client (Closes n file) fits other = open_gone c client s.opens n fits.table other fits.mine
table_apart c s client (Locks n w) fits other = lock_changed c client s.opens n locking.raised
    (on_file s.opens.held w.file (λ h. holding h n w.kind w.first w.last)) other (λ l. refl) fits.mine (held_apart s.opens.held w n)
table_apart c s client (Begins opened owner w) fits other = lock_new c s.opens _
    (on_file s.opens.held w.file (λ h. holding h (s.opens.last + 1) w.kind w.first w.last)) fits.table (is_other w.client client c fits.mine other)
    (held_apart s.opens.held w (s.opens.last + 1))
table_apart c s client (Unlocks n w) fits other = lock_changed c client s.opens n locking.raised
    (on_file s.opens.held w.file (λ h. cleared h n w.first w.last)) other (λ l. refl) fits
    (moved_apart s.opens.held w.file n (λ h. cleared h n w.first w.last)
    (λ h s b beside. cleared_other h n w.first w.last s b (λ named. absurd (beside (sym named)))))
table_apart c s client (Frees n) fits other = lock_gone c client s.opens n other fits.mine
table_apart c s client e fits other = same c s.opens

pub item_apart : (c : ℕ) (refused : Bool) (s : State) (x : Context) (now : Time) (i : Item) → IsTable s.opens → x.client ≢ c
    → HasAsBefore c s.opens (comes_to refused s x now i).state.opens
item_apart c refused s x now i table other = kept_opens (HasAsBefore c s.opens) refused s x now i
    (λ t e fits is. both c s.opens t.opens (table_behind t.opens e) is (table_apart c t x.client e (fits table) other)) (same c s.opens)
