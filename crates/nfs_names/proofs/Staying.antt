-- The end of clients: one client after the other, and nobody's.
use Rattle.std.proofs.Common.{◌≡◌, ◌≢◌, ℕ, Bool, true, false, cond, not, List, [], ◌∷◌, Option, Some, None, refl, sym, ◌∙◌, ap, subst, inl, inr}
use Rattle.std.proofs.{Math.Path.fun_ext, lemmas.Bool.{cases_Bool, eqb-true, eq-eqb, false≢true}}
use Rattle.std.specs.{Prelude.{◌==◌, ◌||◌, ◌&&◌, filter, is_some}, List.list_any, Option.option_map_or}
use Rattle.nfs_xdr.specs.Tables.{In}
use Rattle.nfs_xdr.proofs.Lists.{none_any, filter_past, filter_both, filter_all, any_in, any_left}
use Rattle.nfs_tree.specs.{declared.stored.Stored.Stored, Object.is_regular, Files.{root, stored_in, has_row}}
use Rattle.nfs_opens.specs.{declared.records.OpenState.OpenState, declared.records.LockState.LockState, Holding.FileHolders, Table.Table}
use Rattle.nfs_opens.specs.{TableInvariants.{IsTable, IsHolder, AreHolders}, Closing.{held_within}}
use Rattle.nfs_opens.proofs.LockLemmas.{same_table}
use Rattle.nfs_names.specs.{State.{State, with_tree, is_open, is_used, without_unused}, StoreInvariants.IsStore}
use Rattle.nfs_names.specs.Ending.{has_open, table_staying, with_opens, staying}
use Rattle.nfs_opens.proofs.Terms.{stands}
use Rattle.nfs_names.proofs.Terms.{only_used}

-- Locked bytes.
within_twice : (few many : List LockState) (held : FileHolders) → ((s : ℕ) → stands few s ≡ true → stands many s ≡ true)
    → held_within few (held_within many held) ≡ held_within few held
within_twice few many held f = fun_ext (λ file. fun_ext (λ s. fun_ext (λ b. go (stands few s) (stands many s) (held file s b) (f s))))
  where
    go : {K : Type 0} (v w : Bool) (o : Option K) → (v ≡ true → w ≡ true) → cond v (cond w o None) None ≡ cond v o None
    go true w o f = rw (f refl) refl
    go false w o f = refl

within_all : (locks : List LockState) (held : FileHolders) → AreHolders locks held → held_within locks held ≡ held
within_all locks held is = fun_ext (λ f. fun_ext (λ s. fun_ext (λ b. go f s (held f s b) (is f s b))))
  where
    go : {K : Type 0} (f s : ℕ) (o : Option K) → (o ≢ None → (l : LockState) × IsHolder locks f s l) → cond (stands locks s) o None ≡ o
    go {K} f s None is = elim (stands locks s) as (λ v. cond {A = Option K} v None None ≡ None) [ true ↦ refl | false ↦ refl ]
    go f s (Some k) is = (let (l, holder) = is (λ e. absurd cc) in
        rw (any_in (λ (l : LockState). l.number == s) locks l holder.stands (eq-eqb l.number s holder.number)) refl)

-- Objects that are used: by the root, a row, or an open.
used_more : (a r o k : Bool) → (o ≡ true → k ≡ true) → a || (r || o) ≡ true → a || (r || k) ≡ true
used_more true r o k f e = refl
used_more false true o k f e = refl
used_more false false o k f e = f e

-- a table's files are open in the other too
abbrev pub AreOpenIn : Table → Table → Type 0
AreOpenIn u t = (n : ℕ) → list_any (λ o. o.file == n) u.opens ≡ true → list_any (λ o. o.file == n) t.opens ≡ true

use_more : (s : State) (u t : Table) → AreOpenIn u t → (n : ℕ) → is_used (with_opens s u) n ≡ true → is_used (with_opens s t) n ≡ true
use_more s u t f n e = used_more (n == root) (has_row s.tree.rows n) (is_open (with_opens s u) n) (is_open (with_opens s t) n) (f n) e

abbrev pub with_objects : State → Table → List Stored → State
with_objects s t objects = with_tree (with_opens s t) (record s.tree { objects = objects })

used_again : (s : State) (u t : Table) → AreOpenIn u t → only_used (with_opens (only_used (with_opens s t)) u) ≡ only_used (with_opens s u)
used_again s u t f = ap (with_objects s u)
    (filter_past (λ o. is_used (with_opens s u) o.number) (λ o. is_used (with_opens s t) o.number) s.tree.objects (λ x there. use_more s u t f x.number))

-- an object that goes for want of use would not have stayed
pub used_without : (s : State) (u t : Table) (n : ℕ) → AreOpenIn u t → only_used (with_opens (without_unused (with_opens s t) n) u) ≡ only_used (with_opens s u)
used_without s u t n f =
    elim (cases_Bool (is_used (with_opens s t) n)) [
      | inl stays ↦ rw stays refl
      | inr goes ↦ rw goes (ap (with_objects s u)
          (filter_past (λ o. is_used (with_opens s u) o.number) (λ o. not (o.number == n)) s.tree.objects (λ x there used.
          elim (cases_Bool (x.number == n)) [
            | inl is ↦ absurd (false≢true (sym goes ∙ ap (λ k. is_used (with_opens s t) k) (sym (eqb-true _ _ is)) ∙ use_more s u t f x.number used))
            | inr other ↦ ap not other
          ])))
    ]

open_left : (stays : ℕ → Bool) (t : Table) → AreOpenIn (table_staying stays t) t
open_left stays t n = any_left (λ (o : OpenState). o.file == n) (λ (o : OpenState). stays o.client) t.opens

pub swapped : (a b : Bool) → (a && b) ≡ (b && a)
swapped true true = refl
swapped true false = refl
swapped false true = refl
swapped false false = refl

-- Clients, one after the other.
pub staying_twice : (p q : ℕ → Bool) (s : State) → staying p (staying q s) ≡ staying (λ c. p c && q c) s
staying_twice p q s =
    let t = table_staying q s.opens in
    let opens = filter_both (λ (o : OpenState). p o.client) (λ o. q o.client) _ (λ o. swapped (q o.client) (p o.client)) s.opens.opens in
    let locks = filter_both (λ (l : LockState). p l.client) (λ l. q l.client) _ (λ l. swapped (q l.client) (p l.client)) s.opens.locks in
    let held = within_twice (filter (λ (l : LockState). p l.client) t.locks) t.locks s.opens.held
    (λ n. any_left (λ (l : LockState). l.number == n) (λ (l : LockState). p l.client) t.locks)
    ∙ ap (λ ls. held_within ls s.opens.held) locks in
    used_again s (table_staying p t) t (open_left p t)
    ∙ ap (λ u. only_used (with_opens s u)) (same_table _ _ _ _ _ _ s.opens.last s.opens.instance opens locks held)

-- an object is there
pub there_in : (xs : List Stored) (x : Stored) → In x xs → is_some (stored_in xs x.number) ≡ true
there_in [] x there = absurd there
there_in (y ∷ ys) x (inl is) = let here : y.number == x.number ≡ true = eq-eqb y.number x.number (ap (λ (x : Stored). x.number) (sym is)) in rw here refl
there_in (y ∷ ys) x (inr more) = elim (cases_Bool (y.number == x.number)) [ inl here ↦ rw here refl | inr other ↦ rw other (there_in ys x more) ]

found_left : (p : ℕ → Bool) (xs : List Stored) (n : ℕ) → is_some (stored_in (filter (λ x. p x.number) xs) n) ≡ true → p n ≡ true
found_left p [] n e = absurd cc
found_left p (x ∷ xs) n e =
    elim (cases_Bool (p x.number)) [
      | inl stays ↦ elim (cases_Bool (x.number == n)) [
        | inl is ↦ subst (λ (k : ℕ). p k ≡ true) (eqb-true _ _ is) stays
        | inr other ↦ found_left p xs n (rw (stays, other) at e)
      ]
      | inr goes ↦ found_left p xs n (rw goes at e)
    ]

found_same : (p : ℕ → Bool) (xs : List Stored) (n : ℕ) → p n ≡ true → stored_in (filter (λ x. p x.number) xs) n ≡ stored_in xs n
found_same p [] n e = refl
found_same p (x ∷ xs) n e =
    elim (cases_Bool (x.number == n)) [
      | inl is ↦ (let stays : p x.number ≡ true = ap p (eqb-true _ _ is) ∙ e in rw (stays, is) refl)
      | inr other ↦ elim (cases_Bool (p x.number)) [
        | inl stays ↦ rw (stays, other) (found_same p xs n e)
        | inr goes ↦ rw (goes, other) (found_same p xs n e)
      ]
    ]

pub used_open : (a r o : Bool) → o ≡ true → a || (r || o) ≡ true
used_open true r o e = refl
used_open false true o e = refl
used_open false false o e = e

-- a store stays one
pub store_staying : (stays : ℕ → Bool) (s : State) → IsStore s → IsStore (staying stays s)
store_staying stays s is = record {
  used = λ n there. found_left (λ n. is_used (with_opens s (table_staying stays s.opens)) n) s.tree.objects n there;
  files = λ n stands.
      let used = used_open (n == root) (has_row s.tree.rows n) (is_open (with_opens s (table_staying stays s.opens)) n) stands in
      ap (λ (o : Option Stored). option_map_or (λ (x : Stored). is_regular x.object.kind) o false)
      (found_same (λ n. is_used (with_opens s (table_staying stays s.opens)) n) s.tree.objects n used)
      ∙ is.files n (open_left stays s.opens n stands);
}

-- where no open is of a client that ends, nothing changes
pub staying_all : (stays : ℕ → Bool) (s : State) → IsStore s → IsTable s.opens → ((o : OpenState) → In o s.opens.opens → stays o.client ≡ true)
    → staying stays s ≡ s
staying_all stays s is table all =
    ap (λ u. only_used (with_opens s u)) (same_table _ _ _ _ _ _ s.opens.last s.opens.instance opens locks held)
    ∙ ap (with_objects s s.opens) (filter_all (λ o. is_used s o.number) s.tree.objects (λ x there. is.used x.number (there_in s.tree.objects x there)))
  where
    opens : filter (λ o. stays o.client) s.opens.opens ≡ s.opens.opens
    opens = filter_all (λ (o : OpenState). stays o.client) s.opens.opens all

    locks : filter (λ l. stays l.client) s.opens.locks ≡ s.opens.locks
    locks = filter_all (λ (l : LockState). stays l.client) s.opens.locks (λ l there.
        let (o, under) = table.under l there in ap stays (sym under.client) ∙ all o under.stands)

    held : held_within (filter (λ l. stays l.client) s.opens.locks) s.opens.held ≡ s.opens.held
    held = ap (λ ls. held_within ls s.opens.held) locks ∙ within_all s.opens.locks s.opens.held table.holders

pub staying_everybody : (s : State) → IsStore s → IsTable s.opens → staying (λ c. true) s ≡ s
staying_everybody s is table = staying_all (λ c. true) s is table (λ o there. refl)

-- a client with no open leaves nothing
pub staying_others : (s : State) (client : ℕ) → IsStore s → IsTable s.opens → has_open s client ≡ false → staying (λ c. not (c == client)) s ≡ s
staying_others s client is table none =
    staying_all (λ c. not (c == client)) s is table (λ o there. ap not (none_any (λ (o : OpenState). o.client == client) s.opens.opens o none there))
