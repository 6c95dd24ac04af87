-- Each operation on open files leaves a tree that is one, and a store that is one.
use Rattle.std.proofs.{Common.{◌≡◌, ◌≢◌, ℕ, Bool, true, false, cond, not, List, [], ◌∷◌, map, refl, sym, ◌∙◌, ap, inl, inr}, lemmas.Bool.{cases_Bool, eqb-true}}
use Rattle.std.specs.{Prelude.{◌==◌, ◌||◌, filter, if◌then◌else◌}, List.list_any}
use Rattle.nfs_xdr.specs.{Tables.In, declared.time.Time.Time}
use Rattle.nfs_xdr.proofs.Lists.{in_any, any_in, stays_in, in_filter}
use Rattle.nfs_compound.specs.declared.op.Item.{Item}
use Rattle.nfs_tree.specs.{Files.{next_count, root, has_row}, Bytes.{with_text, with_size, with_written, with_resized, with_sets}, Stored.content_of, TreeInvariants.IsTree}
use Rattle.nfs_tree.proofs.{Trees.{tree_changed, tree_counts}, Sized.{tree_written, tree_resized}}
use Rattle.nfs_opens.specs.{declared.share.Share.Share, declared.records.OpenState.OpenState, Table.Table, TableInvariants.IsTable, Opening.narrows}
use Rattle.nfs_opens.specs.Closing.{without_open}
use Rattle.nfs_names.specs.{declared.context.Context.Context, State.State, Ending.with_opens, StoreInvariants.{IsStore, IsStoreBut}}
use Rattle.nfs_names.proofs.{StoreInvariants.{rooted, unused_empty, store_by, store_without, kind_changed}, Sound.{IsSound, tree_unused}}
use Rattle.nfs_names.proofs.Sound as names
use Rattle.nfs_files.proofs.{Outcomes.comes_to, Storing.{used_open, store_opened}, Keeping.kind_bytes}
use Rattle.nfs_files.proofs.Effects.{Effect, Names, Writes, Resizes, Changes, Opens, Narrows, Closes, Fits, IsClosing, behind, table_behind}
use Rattle.nfs_files.proofs.Effected.{kept_item}

tree_kept : (s : State) (client : ℕ) (e : Effect) → Fits s client e → IsTree s.tree → IsStore s → IsTree (behind s e).tree
tree_kept s client (Names e) fits is store = names.tree_kept s e fits is store
tree_kept s client (Writes n offset text sets now) fits is store = tree_written s.tree n offset text sets now is fits.0 fits.1
tree_kept s client (Resizes n size sets now) none is store = tree_resized s.tree n size sets now is none
tree_kept s client (Changes n sets now) fits is store = tree_counts _ (next_count s.tree.changes) (tree_changed s.tree n now sets is)
tree_kept s client (Closes n file) fits is store =
    let left = with_opens s (without_open s.opens n) in
    tree_unused left file is (λ unused. unused_empty left file is (rooted s store) unused)
tree_kept s client e fits is store = is

-- the same files are open
abbrev SameFiles : Table → Table → Type 0
SameFiles t u = (n : ℕ) → list_any (λ o. o.file == n) u.opens ≡ list_any (λ o. o.file == n) t.opens

store_opens : (s : State) (u : Table) → SameFiles s.opens u → IsStore s → IsStore (with_opens s u)
store_opens s u same is = record {
  used = λ n there. ap (λ b. n == root || (has_row s.tree.rows n || b)) (same n) ∙ is.used n there;
  files = λ n stands. is.files n (sym (same n) ∙ stands);
}

narrowed_files : (n : ℕ) (access deny : Share) (os : List OpenState) (m : ℕ)
    → list_any (λ o. o.file == m) (map (λ o. if o.number == n then narrows access deny o else o) os) ≡ list_any (λ o. o.file == m) os
narrowed_files n access deny [] m = refl
narrowed_files n access deny (o ∷ os) m =
    let rest = narrowed_files n access deny os m in
    elim (o.number == n) as (λ b. ((cond b (narrows access deny o) o).file == m) || list_any (λ o. o.file == m)
    (map (λ o. if o.number == n then narrows access deny o else o) os) ≡ (o.file == m) || list_any (λ o. o.file == m) os) [
      | true ↦ ap (λ b. (o.file == m) || b) rest
      | false ↦ ap (λ b. (o.file == m) || b) rest
    ]

-- the open that goes is of the file that was named, so no other file loses one
stays_open : (t : Table) (n file m : ℕ) → ((o : OpenState) → In o t.opens → o.number ≡ n → o.file ≡ file) → m ≢ file
    → list_any (λ o. o.file == m) t.opens ≡ true → list_any (λ o. o.file == m) (without_open t n).opens ≡ true
stays_open t n file m of_file other e =
    let q = in_any (λ (o : OpenState). o.file == m) t.opens e in
    let stays : (q.0.number == n) ≡ false = elim (cases_Bool (q.0.number == n)) [
      | inl goes ↦ absurd (other (sym (eqb-true _ _ q.2) ∙ of_file q.0 q.1 (eqb-true _ _ goes)))
      | inr stays ↦ stays
    ] in
    any_in (λ (o : OpenState). o.file == m) (filter (λ o. not (o.number == n)) t.opens) q.0
    (stays_in (λ (o : OpenState). not (o.number == n)) t.opens q.0 q.1 (ap not stays)) q.2

was_open : (t : Table) (n m : ℕ) → list_any (λ o. o.file == m) (without_open t n).opens ≡ true → list_any (λ o. o.file == m) t.opens ≡ true
was_open t n m e =
    let q = in_any (λ (o : OpenState). o.file == m) (filter (λ o. not (o.number == n)) t.opens) e in
    any_in (λ (o : OpenState). o.file == m) t.opens q.0 (in_filter (λ (o : OpenState). not (o.number == n)) t.opens q.0 q.1).0 q.2

but_closed : (s : State) (client n file : ℕ) → IsClosing s.opens client n file → IsStore s → IsStoreBut (with_opens s (without_open s.opens n)) file
but_closed s client n file closing is = record {
  used = λ m other there. used_open (m == root) (has_row s.tree.rows m) (list_any (λ o. o.file == m) s.opens.opens)
      (list_any (λ o. o.file == m) (without_open s.opens n).opens) (stays_open s.opens n file m closing.of_file other) (is.used m there);
  files = λ m stands. is.files m (was_open s.opens n m stands);
}

store_kept : (s : State) (client : ℕ) (e : Effect) → Fits s client e → IsTree s.tree → IsStore s → IsStore (behind s e)
store_kept s client (Names e) fits tree is = names.store_kept s e tree is
store_kept s client (Writes n offset text sets now) fits tree is = store_by s (with_written s.tree n offset text sets now)
    (λ m. kind_bytes s.tree.objects n m now sets (λ k. with_text (content_of k) offset text)) (λ m some. some) is
store_kept s client (Resizes n size sets now) fits tree is = store_by s (with_resized s.tree n size sets now)
    (λ m. kind_bytes s.tree.objects n m now sets (λ k. with_size (content_of k) size)) (λ m some. some) is
store_kept s client (Changes n sets now) fits tree is = store_by s (with_sets s.tree n sets now)
    (λ m. kind_changed s.tree.objects n m now sets) (λ m some. some) is
store_kept s client (Opens a) fits tree is = store_opened s s.tree a (fits.regular tree) is
store_kept s client (Narrows n access deny) fits tree is =
    store_opens s (table_behind s.opens (Narrows n access deny)) (narrowed_files n access deny s.opens.opens) is
store_kept s client (Closes n file) fits tree is = store_without (with_opens s (without_open s.opens n)) file (but_closed s client n file fits is)
store_kept s client e fits tree is = store_opens s (table_behind s.opens e) (λ m. refl) is

pub sound_kept : (s : State) (client : ℕ) (e : Effect) → Fits s client e → IsSound s → IsSound (behind s e)
sound_kept s client e fits is = record { tree = tree_kept s client e fits is.tree is.store; store = store_kept s client e fits is.tree is.store }

pub sound_item : (b : Bool) (s : State) (x : Context) (now : Time) (i : Item) → IsTree s.tree → IsTable s.opens → IsStore s → IsSound (comes_to b s x now i).state
sound_item b s x now i tree table is =
    kept_item IsSound b s x now i (λ u e fits sound. sound_kept u x.client e (fits table) sound) (record { tree = tree; store = is })
