-- The change of one object, through each change of a tree.
use Rattle.std.proofs.Common.{◌≡◌, ◌≢◌, ℕ, ◌+◌, true, false, cond, not, List, [], map, Option, Some, None, refl, sym, ◌∙◌, ap, subst, inl, inr}
use Rattle.std.proofs.lemmas.Bool.{cases_Bool, cases_eq, eq-eqb, ne_eqb, eqb-true, false≢true}
use Rattle.std.specs.{Prelude.{◌==◌, option_map, is_some, if◌then◌else◌}, Option.option_map_or}
use Rattle.nfs_xdr.specs.declared.time.Time.{Time}
use Rattle.nfs_xdr.proofs.Lists.{find_in, find_past, find_push_some}
use Rattle.nfs_tree.specs.{declared.sets.Sets.Sets, declared.stored.Stored.Stored, Object.{modified, no_sets}}
use Rattle.nfs_tree.specs.Files.{Files, stored_in, is_there, change_of, change_at, with_changed, with_entries_changed, with_links_changed, number_named}
use Rattle.nfs_tree.specs.{Create.{New, with_new, new_object}, Names.{with_link, without_name, Move, replaced_object, touched_object, with_moved}, Bytes.{Content, with_bytes}}
use Rattle.nfs_tree.proofs.Objects.{keeps_changed, stored_map}
use Rattle.nfs_names.specs.State.{State, is_used, without_unused}

-- the object is there, with this change
pub record At (n : ℕ) (xs : List Stored) (change : ℕ) : Type 0 where
  pub object : Stored
  pub there : stored_in xs n ≡ Some object
  pub is : object.object.change ≡ change

pub at_now : (t : Files) (n : ℕ) → is_there t n ≡ true → At n t.objects (change_of t n)
at_now t n there = go (stored_in t.objects n) refl there
  where
    go : (o : Option Stored) → stored_in t.objects n ≡ o → is_some o ≡ true → At n t.objects (change_of t n)
    go None e none = absurd (false≢true none)
    go (Some s) e some = record { object = s; there = e; is = sym (ap (λ (o : Option Stored). option_map_or (λ (s : Stored). s.object.change) o 0) e) }

pub change_is : (t : Files) (n change : ℕ) → At n t.objects change → change_of t n ≡ change
change_is t n change at = ap (λ (o : Option Stored). option_map_or (λ (s : Stored). s.object.change) o 0) at.there ∙ at.is

at_map : (n : ℕ) (xs : List Stored) (change later : ℕ) (f : Stored → Stored) → ((s : Stored) → (f s).number ≡ s.number)
    → ((s : Stored) → s.number ≡ n → s.object.change ≡ change → (f s).object.change ≡ later) → At n xs change → At n (map f xs) later
at_map n xs change later f number each at = record {
  object = f at.object;
  there = stored_map xs f n number ∙ ap (option_map f) at.there;
  is = each at.object (eqb-true at.object.number n (find_in (λ (s : Stored). s.number == n) xs at.object at.there).1) at.is;
}

pub at_here : (n : ℕ) (now : Time) (sets : Sets) (xs : List Stored) (change : ℕ) → At n xs change → At n (with_changed n now sets xs) (change + 1)
at_here n now sets xs change at = at_map n xs change (change + 1) (change_at n now sets) (keeps_changed n now sets []).number
    (λ s here is. rw (eq-eqb s.number n here) (ap (λ (k : ℕ). k + 1) is)) at

pub at_other : (n m : ℕ) (now : Time) (sets : Sets) (xs : List Stored) (change : ℕ) → m ≢ n → At n xs change → At n (with_changed m now sets xs) change
at_other n m now sets xs change other at = at_map n xs change change (change_at m now sets) (keeps_changed m now sets []).number
    (λ s here is. rw (ne_eqb s.number m (λ same. other (sym same ∙ here))) is) at

abbrev put : ℕ → Time → Sets → (Stored → Content) → Stored → Stored
put m now sets bytes s = if s.number == m then with_bytes now sets (bytes s) s else s

put_number : (m : ℕ) (now : Time) (sets : Sets) (bytes : Stored → Content) (s : Stored) → (put m now sets bytes s).number ≡ s.number
put_number m now sets bytes s = elim (s.number == m) as (λ v. (cond v (with_bytes now sets (bytes s) s) s).number ≡ s.number) [ true ↦ refl | false ↦ refl ]

pub bytes_here : (n : ℕ) (now : Time) (sets : Sets) (bytes : Stored → Content) (xs : List Stored) (change : ℕ) → At n xs change
    → At n (map (λ (s : Stored). if s.number == n then with_bytes now sets (bytes s) s else s) xs) (change + 1)
bytes_here n now sets bytes xs change at = at_map n xs change (change + 1) (put n now sets bytes) (put_number n now sets bytes)
    (λ s here is. rw (eq-eqb s.number n here) (ap (λ (k : ℕ). k + 1) is)) at

pub bytes_other : (n m : ℕ) (now : Time) (sets : Sets) (bytes : Stored → Content) (xs : List Stored) (change : ℕ) → m ≢ n → At n xs change
    → At n (map (λ (s : Stored). if s.number == m then with_bytes now sets (bytes s) s else s) xs) change
bytes_other n m now sets bytes xs change other at = at_map n xs change change (put m now sets bytes) (put_number m now sets bytes)
    (λ s here is. rw (ne_eqb s.number m (λ same. other (sym same ∙ here))) is) at

-- an object that goes for want of use is another
pub unused_at : (n m : ℕ) (s : State) (change : ℕ) → m ≢ n → At n s.tree.objects change → At n (without_unused s m).tree.objects change
unused_at n m s change other at = elim (cases_Bool (is_used s m)) [
  | inl stays ↦ rw stays at
  | inr goes ↦ rw goes (record {
    object = at.object;
    there = find_past (λ (s : Stored). s.number == n) (λ s. not (s.number == m)) s.tree.objects
        (λ s here. rw (ne_eqb s.number m (λ same. other (sym same ∙ eqb-true s.number n here))) refl) ∙ at.there;
    is = at.is;
  })
]

-- Names.

pub new_at : (t : Files) (d : ℕ) (name : List ℕ) (new : New) (sets : Sets) (now : Time) (change : ℕ) → At d t.objects change → At d (with_new t d name new sets now).objects (change + 1)
new_at t d name new sets now change at =
    let is = at_here d now (modified now no_sets) t.objects change at in
    record {
      object = is.object;
      there = find_push_some (λ (s : Stored). s.number == d) (with_entries_changed d now t.objects)
          (record { number = t.last_object + 1; object = new_object now new sets; bytes = new.bytes; pages = new.pages }) is.object is.there;
      is = is.is;
    }

pub link_at : (t : Files) (n d : ℕ) (name : List ℕ) (now : Time) (change : ℕ) → n ≢ d → At d t.objects change → At d (with_link t n d name now).objects (change + 1)
link_at t n d name now change other at =
    at_other d n now no_sets (with_entries_changed d now t.objects) (change + 1) other (at_here d now (modified now no_sets) t.objects change at)

pub without_at : (t : Files) (d : ℕ) (name : List ℕ) (now : Time) (change : ℕ) → number_named t d name ≢ d → At d t.objects change → At d (without_name t d name now).objects (change + 1)
without_at t d name now change other at =
    at_other d (number_named t d name) now no_sets (with_entries_changed d now t.objects) (change + 1) other (at_here d now (modified now no_sets) t.objects change at)

-- both directories of a move, of which neither is what is replaced
module _ (t : Files) (m : Move) (now : Time) (change : ℕ) where
  abbrev lost : List Stored
  lost = with_links_changed (replaced_object t m) now (with_links_changed (touched_object t m) now t.objects)

  pub source_at : replaced_object t m ≢ m.source → touched_object t m ≢ m.source → At m.source t.objects change
      → At m.source (with_moved t m now).objects (change + 1)
  source_at other apart at =
      let first = at_other m.source (replaced_object t m) now no_sets (with_links_changed (touched_object t m) now t.objects) change other
      (at_other m.source (touched_object t m) now no_sets t.objects change apart at) in
      let second = at_here m.source now (modified now no_sets) lost change first in
      elim (cases_eq m.source m.target) [
        | inl same ↦ rw (eq-eqb m.source m.target same) second
        | inr differ ↦ rw (ne_eqb m.source m.target differ)
            (at_other m.source m.target now (modified now no_sets) (with_entries_changed m.source now lost) (change + 1) (λ is. differ (sym is)) second)
      ]

  pub target_at : replaced_object t m ≢ m.target → touched_object t m ≢ m.target → At m.target t.objects change
      → At m.target (with_moved t m now).objects (change + 1)
  target_at other apart at =
      let first = at_other m.target (replaced_object t m) now no_sets (with_links_changed (touched_object t m) now t.objects) change other
      (at_other m.target (touched_object t m) now no_sets t.objects change apart at) in
      elim (cases_eq m.source m.target) [
        | inl same ↦ rw (eq-eqb m.source m.target same) (subst (λ (k : ℕ). At m.target (with_entries_changed k now lost) (change + 1)) (sym same)
            (at_here m.target now (modified now no_sets) lost change first))
        | inr differ ↦ rw (ne_eqb m.source m.target differ) (at_here m.target now (modified now no_sets) (with_entries_changed m.source now lost) change
            (at_other m.target m.source now (modified now no_sets) lost change differ first))
      ]
