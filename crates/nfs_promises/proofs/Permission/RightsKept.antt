-- The mode, owner and group of an object, through what operations do to a tree.
use Rattle.std.proofs.Common.{◌≡◌, ◌≢◌, ℕ, ◌+◌, ◌≤◌, Bool, true, false, cond, not, List, [], map, Option, Some, None, refl, sym, ◌∙◌, ap, arith, inl, inr}
use Rattle.std.proofs.lemmas.Bool.{cases_Bool, ne_eqb, eqb-true, false≢true}
use Rattle.std.specs.{Prelude.{◌==◌, filter, option_map}, Option.ForSome}
use Rattle.nfs_xdr.specs.declared.time.Time.{Time}
use Rattle.nfs_xdr.proofs.Lists.{find_in, find_past, find_out, find_push_other}
use Rattle.nfs_compound.specs.{declared.op.Item.Item, declared.op.Item.TheVariants.Operation, declared.op.Op.Op}
use Rattle.nfs_tree.specs.{declared.object.Object.Object, declared.sets.Sets.Sets, declared.stored.Stored.Stored, Object.{changed, is_regular, modified, no_sets}, declared.profile.Profile.Profile}
use Rattle.nfs_tree.specs.Files.{Files, stored_in, change_at, with_changed, with_entries_changed, with_links_changed, object_named, number_named}
use Rattle.nfs_tree.specs.{Create.{New, with_new, new_object}, Names.{without_name, replaced_object, touched_object, with_both_changed, with_moved}}
use Rattle.nfs_tree.proofs.Objects.{keeps_changed, stored_map}
use Rattle.nfs_opens.specs.Closing.{without_open}
use Rattle.nfs_names.specs.{declared.context.Context.Context, Ending.{with_opens, table_staying, staying}, Rename.without_replaced}
use Rattle.nfs_names.specs.State.{with_tree, is_used, without_unused}
use Rattle.nfs_names.specs.Operation as names
use Rattle.nfs_names.specs.State as store
use Rattle.nfs_names.proofs.{Ones.each_of, Effects.{Makes, Links, Removes, Moves}}
use Rattle.nfs_names.proofs.Effects as names_effects
use Rattle.nfs_names.proofs.Effected as names_effected
use Rattle.nfs_files.proofs.Effects as files_effects
use Rattle.nfs_files.proofs.Effects.{Names, Writes, Resizes, Changes, Opens, Narrows, Closes, Locks, Begins, Unlocks, Frees, Caused}
use Rattle.nfs_files.proofs.Effected as files_effected
use Rattle.nfs_files.proofs.Outcomes as files
use Rattle.nfs_promises.specs.Permission.Permitted.{Rights, rights_of}

-- What is known of an object: its rights, whether it is a regular file, and its server's profile.
pub record Known : Type 0 where
  pub rights : Rights
  pub regular : Bool
  pub profile : Profile

abbrev pub known_of : Profile → Object → Known
known_of p o = record { rights = rights_of o; regular = is_regular o.kind; profile = p }

-- The object has these, if it is there; its number was given, and the profile is the tree's.

abbrev pub Are : ℕ → Known → List Stored → Type 0
Are n r objects = (k : Stored) → stored_in objects n ≡ Some k → known_of r.profile k.object ≡ r

pub record Have (n : ℕ) (r : Known) (t : Files) : Type 0 where
  pub given : n ≤ t.last_object
  pub profile : t.profile ≡ r.profile
  pub rights : Are n r t.objects

pub map_to : (n : ℕ) (r q : Known) (f : Stored → Stored) (xs : List Stored) → ((s : Stored) → (f s).number ≡ s.number)
    → ((s : Stored) → s.number ≡ n → known_of r.profile s.object ≡ r → known_of q.profile (f s).object ≡ q) → Are n r xs → Are n q (map f xs)
map_to n r q f xs number each is k e = go (stored_in xs n) refl (sym (stored_map xs f n number) ∙ e)
  where
    go : (o : Option Stored) → stored_in xs n ≡ o → option_map f o ≡ Some k → known_of q.profile k.object ≡ q
    go None there same = absurd cc
    go (Some s) there same =
        let mapped : f s ≡ k = cc in
        ap (λ (k : Stored). known_of q.profile k.object) (sym mapped)
        ∙ each s (eqb-true s.number n (find_in (λ (s : Stored). s.number == n) xs s there).1) (is s there)

map_have : (n : ℕ) (r : Known) (f : Stored → Stored) (xs : List Stored) → ((s : Stored) → (f s).number ≡ s.number) → ((s : Stored) → known_of r.profile (f s).object ≡ known_of r.profile s.object)
    → Are n r xs → Are n r (map f xs)
map_have n r f xs number each is = map_to n r r f xs number (λ s at same. each s ∙ same) is

-- these set neither mode nor owner nor group
abbrev IsPlain : Sets → Type 0
IsPlain sets = (p : Profile) (now : Time) (o : Object) → known_of p (changed now sets o) ≡ known_of p o

at_have : (n : ℕ) (r : Known) (m : ℕ) (now : Time) (sets : Sets) (xs : List Stored) → IsPlain sets → Are n r xs → Are n r (with_changed m now sets xs)
at_have n r m now sets xs plain is = map_have n r (change_at m now sets) xs (keeps_changed m now sets []).number
    (λ s. elim (s.number == m) as (λ b. known_of r.profile (cond b (record s { object = changed now sets s.object }) s).object ≡ known_of r.profile s.object) [
      | true ↦ plain r.profile now s.object
      | false ↦ refl
    ]) is

links_have : (n : ℕ) (r : Known) (m : ℕ) (now : Time) (xs : List Stored) → Are n r xs → Are n r (with_links_changed m now xs)
links_have n r m now xs is = at_have n r m now no_sets xs (λ p now o. refl) is

entries_have : (n : ℕ) (r : Known) (d : ℕ) (now : Time) (xs : List Stored) → Are n r xs → Are n r (with_entries_changed d now xs)
entries_have n r d now xs is = at_have n r d now (modified now no_sets) xs (λ p now o. refl) is

both_have : (n : ℕ) (r : Known) (a b : ℕ) (now : Time) (xs : List Stored) → Are n r xs → Are n r (with_both_changed a b now xs)
both_have n r a b now xs is = go (a == b)
  where
    go : (same : Bool) → Are n r (cond same (with_entries_changed a now xs) (with_entries_changed b now (with_entries_changed a now xs)))
    go true = entries_have n r a now xs is
    go false = entries_have n r b now (with_entries_changed a now xs) (entries_have n r a now xs is)

rest_have : (n : ℕ) (r : Known) (p : ℕ → Bool) (xs : List Stored) → Are n r xs → Are n r (filter (λ (s : Stored). p s.number) xs)
rest_have n r p xs is k e = elim (cases_Bool (p n)) [
  | inl stays ↦ is k (sym (find_past (λ (s : Stored). s.number == n) (λ s. p s.number) xs (λ s at. ap p (eqb-true s.number n at) ∙ stays)) ∙ e)
  | inr goes ↦ absurd (let none : None ≡ Some k =
      sym (find_out (λ (s : Stored). s.number == n) (λ s. p s.number) xs (λ s at. ap p (eqb-true s.number n at) ∙ goes)) ∙ e in cc)
]

-- Effects.

pub new_have : (n : ℕ) (r : Known) (t : Files) (d : ℕ) (name : List ℕ) (new : New) (sets : Sets) (now : Time) → Have n r t → Have n r (with_new t d name new sets now)
new_have n r t d name new sets now is =
    let made : Stored = record { number = t.last_object + 1; object = new_object now new sets; bytes = new.bytes; pages = new.pages } in
    let given = is.given in
    let other : t.last_object + 1 ≢ n = λ same. absurd (omega arith) in
    record {
      given = omega arith;
      profile = is.profile;
      rights = λ k e. entries_have n r d now t.objects is.rights k
          (sym (find_push_other (λ (s : Stored). s.number == n) (with_entries_changed d now t.objects) made (ne_eqb (t.last_object + 1) n other)) ∙ e);
    }

unused_have : (n : ℕ) (r : Known) (s : store.State) (m : ℕ) → Have n r s.tree → Have n r (without_unused s m).tree
unused_have n r s m is = elim (cases_Bool (is_used s m)) [
  | inl stays ↦ rw stays is
  | inr goes ↦ rw goes (record { given = is.given; profile = is.profile; rights = rest_have n r (λ k. not (k == m)) s.tree.objects is.rights })
]

replaced_have : (n : ℕ) (r : Known) (s : store.State) (o : Option ℕ) → Have n r s.tree → Have n r (without_replaced s o).tree
replaced_have n r s None is = is
replaced_have n r s (Some m) is = unused_have n r s m is

pub staying_have : (n : ℕ) (r : Known) (stays : ℕ → Bool) (s : store.State) → Have n r s.tree → Have n r (staying stays s).tree
staying_have n r stays s is = record {
  given = is.given;
  profile = is.profile;
  rights = rest_have n r (is_used (with_opens s (table_staying stays s.opens))) s.tree.objects is.rights;
}

names_behind : (n : ℕ) (r : Known) (s : store.State) (e : names_effects.Effect) → Have n r s.tree → Have n r (names_effects.behind s e).tree
names_behind n r s (Makes d name new sets now) is = new_have n r s.tree d name new sets now is
names_behind n r s (Links m d name now) is =
    record { given = is.given; profile = is.profile; rights = links_have n r m now (with_entries_changed d now s.tree.objects) (entries_have n r d now s.tree.objects is.rights) }
names_behind n r s (Removes d name now) is = unused_have n r (with_tree s (without_name s.tree d name now)) (number_named s.tree d name) (record {
  given = is.given;
  profile = is.profile;
  rights = links_have n r (number_named s.tree d name) now (with_entries_changed d now s.tree.objects) (entries_have n r d now s.tree.objects is.rights);
})
names_behind n r s (Moves m now) is = replaced_have n r (with_tree s (with_moved s.tree m now)) (object_named s.tree m.target m.name) (record {
  given = is.given;
  profile = is.profile;
  rights = both_have n r m.source m.target now (with_links_changed (replaced_object s.tree m) now (with_links_changed (touched_object s.tree m) now s.tree.objects))
      (links_have n r (replaced_object s.tree m) now (with_links_changed (touched_object s.tree m) now s.tree.objects)
      (links_have n r (touched_object s.tree m) now s.tree.objects is.rights));
})

-- SETATTR, OPEN and WRITE apart, no operation sets these.
abbrev pub is_quiet : Item → Bool
is_quiet (Operation (Op.SetAttr a)) = false
is_quiet (Operation (Op.Open a)) = false
is_quiet (Operation (Op.Write a)) = false
is_quiet item = true

files_behind : (n : ℕ) (r : Known) (s t : store.State) (x : Context) (op : Op) (res : _) (e : files_effects.Effect) → is_quiet (Operation op) ≡ true → Caused s x op res t e
    → Have n r t.tree → Have n r (files_effects.behind t e).tree
files_behind n r s t x op res (Names e) quiet caused is = names_behind n r t e is
files_behind n r s t x op res (Writes m offset text sets now) quiet caused is =
    absurd (false≢true (ap (λ op. is_quiet (Operation op)) (sym caused.cause.is) ∙ quiet))
files_behind n r s t x op res (Resizes m size sets now) quiet caused is = elim caused.cause [
  | inl set ↦ absurd (false≢true (ap (λ op. is_quiet (Operation op)) (sym set.is) ∙ quiet))
  | inr opened ↦ absurd (false≢true (ap (λ op. is_quiet (Operation op)) (sym opened.opens.is) ∙ quiet))
]
files_behind n r s t x op res (Changes m sets now) quiet caused is = absurd (false≢true (ap (λ op. is_quiet (Operation op)) (sym caused.cause.is) ∙ quiet))
files_behind n r s t x op res (Closes m file) quiet caused is = unused_have n r (with_opens t (without_open t.opens m)) file is
files_behind n r s t x op res (Opens a) quiet caused is = is
files_behind n r s t x op res (Narrows m access deny) quiet caused is = is
files_behind n r s t x op res (Locks m w) quiet caused is = is
files_behind n r s t x op res (Begins opened owner w) quiet caused is = is
files_behind n r s t x op res (Unlocks m w) quiet caused is = is
files_behind n r s t x op res (Frees m) quiet caused is = is

-- Operations.

pub names_item : (n : ℕ) (r : Known) (refused : Bool) (s : store.State) (x : Context) (now : Time) (i : Item) → Have n r s.tree
    → ForSome (names.comes_to refused s x now i) (λ o. Have n r o.state.tree)
names_item n r refused s x now i is =
    each_of (λ o. Have n r o.state.tree) (names.comes_to refused s x now i)
    (names_effected.kept_item (λ s x. Have n r s.tree)
    (names_effects.of_states (λ s. Have n r s.tree) (λ s e fits is. names_behind n r s e is)) refused s x now i is)

pub quiet_item : (n : ℕ) (r : Known) (refused : Bool) (s : store.State) (x : Context) (now : Time) (i : Item) → is_quiet i ≡ true → Have n r s.tree
    → Have n r (files.comes_to refused s x now i).state.tree
quiet_item n r refused s x now i quiet is = files_effected.caused_item (λ s. Have n r s.tree) refused s x now i (λ op same t e caused is.
    files_behind n r s t x op _ e (ap is_quiet (sym same) ∙ quiet) caused is) is
