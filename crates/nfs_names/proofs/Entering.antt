-- Entries that fit, put one after another.
use Rattle.std.proofs.Common.{◌≡◌, ℕ, suc, ◌+◌, ◌-◌, ◌<◌, ◌≤◌, Bool, true, false, cond, List, [], ◌∷◌, ◌++◌, length, map, Option, Some, None, refl, sym, ◌∙◌}
use Rattle.std.proofs.Common.{ap, subst, inl, inr, arith, append_assoc}
use Rattle.std.proofs.lemmas.Bool.{cases_Bool, leb-true, leb-false, le-leb, eq-eqb, ne_eqb, false_from_ne_true}
use Rattle.std.proofs.lemmas.List.{length-replicate, length-append, append-nil, length-map}
use Rattle.std.specs.{Prelude.{nat_le, ◌==◌, is_some, filter, nat_lt, ◌&&◌, option_map}, List.flat_map, Option.option_map_or}
use Rattle.nfs_xdr.specs.{SheetState.{SheetState, Puts}, Spelling.{padding, opaque}, Tables.In}
use Rattle.nfs_results.specs.{declared.res.Entry.Entry, Straight.{entry_text, entry_head}, Items.fattr, Largest.given}
use Rattle.nfs_xdr.proofs.{Putting.{length_number, length_hyper}, Lists.{in_map, in_filter}}
use Rattle.nfs_tree.specs.{declared.object.Object.Object, declared.profile.Profile.Profile, declared.row.Row.Row, declared.stored.Stored.Stored, declared.stored.Size.Size, Stored.{content_of, size_of}, TreeInvariants.IsTree}
use Rattle.nfs_tree.specs.Files.{Files, Listed, listed, listing, stored_in, is_there, size_at, object_at}
use Rattle.nfs_attrs.specs.{declared.mask.Mask.Mask, Attributes.{values, readable, spell_attrs}, Mask.{mask_of, common, spell_mask}, declared.about.About.About}
use Rattle.nfs_names.specs.{State.State, Attributes.about, ReadDir.{attributes_at, entry_of, longest, fitting, left}, Lists.PutsWithin}
use Rattle.nfs_names.specs.declared.node.Node.{Node}
use Rattle.nfs_names.proofs.Masks.{attributes_spelled}
use Rattle.nfs_compound.specs.declared.name_args.ReadDir.{ReadDir}
use Rattle.nfs_names.proofs.Terms.{fits}

-- a front within so many bytes
abbrev pub fits_in : ℕ → List Entry → Bool
fits_in room entries = nat_le (length (flat_map entry_text entries)) room

longest_same : {A : Type 0} (p q : List A → Bool) (xs : List A) → ((more : List A) → p more ≡ q more) → longest p xs ≡ longest q xs
longest_same p q [] same = refl
longest_same p q (x ∷ xs) same = rw (same (x ∷ []))
    (ap (λ (rest : List _). cond (q (x ∷ [])) (x ∷ rest) []) (longest_same (λ more. p (x ∷ more)) (λ more. q (x ∷ more)) xs (λ more. same (x ∷ more))))

le_shift : (a b c : ℕ) → b ≤ c → nat_le (a + b) c ≡ nat_le a (c - b)
le_shift a b c le = elim (cases_Bool (nat_le a (c - b))) [
  | inl below ↦ (let h : a ≤ c - b = leb-true _ _ below in le-leb (a + b) c (omega arith) ∙ sym below)
  | inr above ↦ (let h : c - b < a = leb-false _ _ above in
      false_from_ne_true (nat_le (a + b) c) (λ e. (let k : a + b ≤ c = leb-true _ _ e in absurd (omega arith))) ∙ sym above)
]

-- the room behind the verifier and the flags
pub fits_shift : (most : ℕ) (xs : List Entry) → 16 ≤ most → longest (fits most) xs ≡ longest (fits_in (most - 16)) xs
fits_shift most xs le = longest_same (fits most) (fits_in (most - 16)) xs (λ more. le_shift (length (flat_map entry_text more)) 16 most le)

longest_takes : (room : ℕ) (e : Entry) (es : List Entry) → length (entry_text e) ≤ room
    → longest (fits_in room) (e ∷ es) ≡ e ∷ longest (fits_in (room - length (entry_text e))) es
longest_takes room e es le =
    let one : fits_in room (e ∷ []) ≡ true =
    ap (λ (text : List ℕ). nat_le (length text) room) (append-nil (entry_text e)) ∙ le-leb (length (entry_text e)) room le in
    rw one (ap (λ rest. e ∷ rest) (longest_same (λ more. fits_in room (e ∷ more)) (fits_in (room - length (entry_text e))) es
    (λ more. ap (λ n. nat_le n room) (length-append (entry_text e) (flat_map entry_text more) ∙ omega arith)
    ∙ le_shift (length (flat_map entry_text more)) (length (entry_text e)) room le)))

longest_stops : (room : ℕ) (e : Entry) (es : List Entry) → room < length (entry_text e) → longest (fits_in room) (e ∷ es) ≡ []
longest_stops room e es lt =
    let none : fits_in room (e ∷ []) ≡ false = ap (λ (text : List ℕ). nat_le (length text) room) (append-nil (entry_text e))
    ∙ false_from_ne_true (nat_le (length (entry_text e)) room) (λ t. (let k : length (entry_text e) ≤ room = leb-true _ _ t in absurd (omega arith))) in
    rw none refl

abbrev pub AllThere : Files → List Listed → Type 0
AllThere t xs = (e : Listed) → In e xs → is_some (object_at t e.number) ≡ true

-- how far the entries have come
pub record Going (t : Files) (entry : Listed → Entry) (first now : SheetState) (most room : ℕ) (all left : List Listed) : Type 0 where
  pub bytes : first.bytes ++ flat_map entry_text (longest (fits_in most) (map entry all))
      ≡ now.bytes ++ flat_map entry_text (longest (fits_in room) (map entry left))
  pub count : length (longest (fits_in most) (map entry all)) + length left ≡ length (longest (fits_in room) (map entry left)) + length all
  pub there : AllThere t left
  pub space : length now.bytes + room ≡ length first.bytes + most
  pub same : now.room ≡ first.room
  pub fewer : room ≤ most

pub going_starts : (t : Files) (entry : Listed → Entry) (first : SheetState) (most : ℕ) (all : List Listed)
    → AllThere t all → Going t entry first first most most all all
going_starts t entry first most all there = record { bytes = refl; count = refl; there = there; space = refl; same = refl; fewer = omega arith }

pub going_on : (t : Files) (entry : Listed → Entry) (first mid now : SheetState) (most room rest : ℕ) (all left more : List Listed) (e : Listed)
    → Going t entry first mid most room all left → left ≡ e ∷ more
    → PutsWithin true room mid now (entry_text (entry e)) → rest ≡ room - (length now.bytes - length mid.bytes) → Going t entry first now most rest all more
going_on t entry first mid now most room rest all left more e g front put less =
    let text = entry_text (entry e) in
    let grown : length now.bytes ≡ length mid.bytes + length text = ap length put.1.bytes ∙ length-append mid.bytes text in
    let short = put.0 in
    let room_left : room - length text ≡ rest = omega arith in
    let takes : longest (fits_in room) (map entry left) ≡ entry e ∷ longest (fits_in rest) (map entry more) =
    ap (λ xs. longest (fits_in room) (map entry xs)) front ∙ longest_takes room (entry e) (map entry more) short
    ∙ ap (λ n. entry e ∷ longest (fits_in n) (map entry more)) room_left in
    let tail = flat_map entry_text (longest (fits_in rest) (map entry more)) in
    let count = g.count in
    let one : length (longest (fits_in room) (map entry left)) ≡ suc (length (longest (fits_in rest) (map entry more))) = ap length takes in
    let lefts : length left ≡ suc (length more) = ap length front in
    let space = g.space in
    record {
      bytes = g.bytes ∙ ap (λ xs. mid.bytes ++ flat_map entry_text xs) takes ∙ sym (append_assoc mid.bytes text tail) ∙ ap (λ b. b ++ tail) (sym put.1.bytes);
      count = omega arith;
      there = λ q is. g.there q (subst (In q) (sym front) (inr is));
      space = omega arith;
      same = put.1.room ∙ g.same;
      fewer = (let was = g.fewer in omega arith);
    }

-- where no more fits, or none is left
pub record Ended (entry : Listed → Entry) (first now : SheetState) (most : ℕ) (listing : List Listed) (whole : Bool) : Type 0 where
  pub put : Puts first now (flat_map entry_text (longest (fits_in most) (map entry listing)))
  pub all : whole ≡ (length (longest (fits_in most) (map entry listing)) == length listing)

pub going_stops : (t : Files) (entry : Listed → Entry) (first mid now : SheetState) (most room : ℕ) (all left more : List Listed) (e : Listed)
    → Going t entry first mid most room all left → left ≡ e ∷ more
    → PutsWithin false room mid now (entry_text (entry e)) → Ended entry first now most all false
going_stops t entry first mid now most room all left more e g front put =
    let none : longest (fits_in room) (map entry left) ≡ [] =
    ap (λ xs. longest (fits_in room) (map entry xs)) front ∙ longest_stops room (entry e) (map entry more) put.0 in
    let count = g.count in
    let zero : length (longest (fits_in room) (map entry left)) ≡ 0 = ap length none in
    let lefts : length left ≡ suc (length more) = ap length front in
    record {
      put = record {
        bytes = ap (λ (p : SheetState). p.bytes) put.1 ∙ sym (g.bytes ∙ ap (λ xs. mid.bytes ++ flat_map entry_text xs) none ∙ append-nil mid.bytes);
        room = ap (λ (p : SheetState). p.room) put.1 ∙ g.same;
      };
      all = sym (ne_eqb (length (longest (fits_in most) (map entry all))) (length all) (λ h. omega arith));
    }

pub going_ends : (t : Files) (entry : Listed → Entry) (first now : SheetState) (most room : ℕ) (all left : List Listed)
    → Going t entry first now most room all left → left ≡ [] → Ended entry first now most all true
going_ends t entry first now most room all left g none =
    let empty : longest (fits_in room) (map entry left) ≡ [] = ap (λ xs. longest (fits_in room) (map entry xs)) none in
    let count = g.count in
    let zero : length (longest (fits_in room) (map entry left)) ≡ 0 = ap length empty in
    let lefts : length left ≡ 0 = ap length none in
    record {
      put = record { bytes = sym (g.bytes ∙ ap (λ xs. now.bytes ++ flat_map entry_text xs) empty ∙ append-nil now.bytes); room = g.same };
      all = sym (eq-eqb (length (longest (fits_in most) (map entry all))) (length all) (omega arith));
    }

pub length_entry_head : (cookie : ℕ) (name : List ℕ) → length (entry_head cookie name) ≡ 16 + (length name + padding (length name))
length_entry_head cookie name = simp (length-append, length_number, length_hyper, length-replicate) (omega arith)

pub entry_is : (s : State) (asked : Mask) (e : Listed) (o : Object) → object_at s.tree e.number ≡ Some o
    → entry_text (entry_of s asked e) ≡ entry_head e.cookie e.name ++ spell_attrs asked (about s (record { number = e.number; object = o })) o
unfolding entry_of
entry_is s asked e o is =
    ap (λ (k : Option Object). entry_head e.cookie e.name ++ fattr.spell (attributes_at s asked e.number k)) is
    ∙ ap (λ (text : List ℕ). entry_head e.cookie e.name ++ text) (sym (attributes_spelled asked (about s (record { number = e.number; object = o })) o))

-- entries of a tree have their objects
pub listed_there : (t : Files) (d cookie : ℕ) → IsTree t → AllThere t (listing t.rows d cookie)
listed_there t d cookie is e there =
    let r = in_map listed (filter (λ (r : Row). (r.directory == d) && nat_lt cookie r.cookie) t.rows) e there in
    let row = in_filter (λ (r : Row). (r.directory == d) && nat_lt cookie r.cookie) t.rows r.0 r.1 in
    let named = is.rows.names r.0 row.0 in
    some_object t e.number (subst (λ (k : Listed). is_there t k.number ≡ true) (sym r.2) named)
  where
    some_by : (o : Option Stored) → is_some o ≡ true → is_some (option_map (λ (s : Stored). s.object) o) ≡ true
    some_by None e = e
    some_by (Some w) e = refl

    some_object : (t : Files) (n : ℕ) → is_there t n ≡ true → is_some (object_at t n) ≡ true
    some_object t n e = some_by (stored_in t.objects n) e

-- an object, and how many bytes and pages it has
abbrev pub measured : Stored → Object × Size
measured s = (s.object, size_of (content_of s))

-- an object that is there is found among the same objects ..
pub found_there : (t : Files) (objects : List Stored) (n : ℕ) → objects ≡ t.objects → is_some (object_at t n) ≡ true
    → None ≡ option_map {U = Object × Size} (λ (s : Stored). (s.object, size_of (content_of s))) (stored_in objects n) → ⊥
found_there t objects n are there none =
    by_option (stored_in t.objects n) (none ∙ ap (λ (xs : List Stored). option_map measured (stored_in xs n)) are) there
  where
    by_option : (o : Option Stored) → None ≡ option_map measured o → is_some (option_map (λ (s : Stored). s.object) o) ≡ true → ⊥
    by_option None e there = cc
    by_option (Some w) e there = cc

-- .. and is the tree's, as is its size
pub found_measured : (t : Files) (objects : List Stored) (n : ℕ) (p : Object × Size) → objects ≡ t.objects
    → Some p ≡ option_map {U = Object × Size} (λ (s : Stored). (s.object, size_of (content_of s))) (stored_in objects n) → (Some p.0 ≡ object_at t n) × (p.1 ≡ size_at t n)
found_measured t objects n p are found = by_option (stored_in t.objects n) refl
  where
    by_option : (o : Option Stored) → stored_in t.objects n ≡ o → (Some p.0 ≡ object_at t n) × (p.1 ≡ size_at t n)
    by_option None h =
        absurd (let bad : Some p ≡ None = found ∙ ap (λ (xs : List Stored). option_map measured (stored_in xs n)) are ∙ ap (option_map measured) h in cc)
    by_option (Some w) h =
        let is : Some p ≡ Some (measured w) = found ∙ ap (λ (xs : List Stored). option_map measured (stored_in xs n)) are ∙ ap (option_map measured) h in
        let same : p ≡ measured w = cc in (
          ap (λ (q : Object × Size). Some q.0) same ∙ sym (ap (option_map (λ (s : Stored). s.object)) h),
          ap (λ (q : Object × Size). q.1) same
              ∙ sym (ap (λ (o : Option Stored). option_map_or (λ (s : Stored). size_of (content_of s)) o (record { bytes = 0; pages = 0 })) h),
        )

-- what is told of what is asked for, where it was asked for by an equal mask
pub told_as_asked : (s : State) (got asked : Mask) (d : Node) (a : About) → got ≡ asked
    → values got a d.object ≡ values got (about s d) d.object → values asked a d.object ≡ values asked (about s d) d.object
told_as_asked s got asked d a same told = subst (λ (m : Mask). values m a d.object ≡ values m (about s d) d.object) same told

-- what an entry's object is told as, where what is asked for of it is told
pub entry_parts : (s : State) (asked : Mask) (e : Listed) (o : Object) (a : About)
    → Some o ≡ object_at s.tree e.number → values asked a o ≡ values asked (about s (record { number = e.number; object = o })) o → a.profile ≡ s.tree.profile
    → entry_text (entry_of s asked e) ≡ entry_head e.cookie e.name ++ spell_attrs asked a o
entry_parts s asked e o a is told same =
    entry_is s asked e o (sym is)
    ∙ ap (λ (text : List ℕ). entry_head e.cookie e.name ++ (spell_mask (common asked (readable s.tree.profile)) ++ opaque text)) (sym told)
    ∙ ap (λ (p : Profile). entry_head e.cookie e.name ++ (spell_mask (common asked (readable p)) ++ opaque (values asked a o))) (sym same)

pub entry_length : (s : State) (asked : Mask) (e : Listed) (o : Object) (a : About)
    → Some o ≡ object_at s.tree e.number → values asked a o ≡ values asked (about s (record { number = e.number; object = o })) o → a.profile ≡ s.tree.profile
    → length (entry_text (entry_of s asked e)) ≡ length (entry_head 0 e.name) + length (spell_attrs asked a o)
entry_length s asked e o a is told same =
    ap length (entry_parts s asked e o a is told same) ∙ length-append (entry_head e.cookie e.name) (spell_attrs asked a o)
    ∙ ap (λ k. k + length (spell_attrs asked a o)) (length_entry_head e.cookie e.name ∙ sym (length_entry_head 0 e.name))

pub given_least : (count : ℕ) → 16 ≤ count → 16 ≤ given count
given_least count le = elim (cases_Bool (nat_lt 65536 count)) [ inl most ↦ rw most (omega arith) | inr few ↦ rw few le ]

pub ended_lists : (s : State) (a : ReadDir) (d : Node) (first now : SheetState) (mask : Mask) (g : ℕ) (rest : List Listed) (whole : Bool)
    → Ended (entry_of s mask) first now (g - 16) rest whole → mask ≡ mask_of a.attr_request → g ≡ given a.maxcount
    → rest ≡ listing s.tree.rows d.number a.cookie → 16 ≤ a.maxcount
    → Puts first now (flat_map entry_text (fitting s a d)) × (whole ≡ (length (fitting s a d) == length (left s a d)))
unfolding fitting
ended_lists s a d first now mask g rest whole e em eg er le =
    let by_mask = subst (λ (m : Mask). Ended (entry_of s m) first now (g - 16) rest whole) em e in
    let by_given = subst (λ (g : ℕ). Ended (entry_of s (mask_of a.attr_request)) first now (g - 16) rest whole) eg by_mask in
    let by_rest : Ended (entry_of s (mask_of a.attr_request)) first now (given a.maxcount - 16) (listing s.tree.rows d.number a.cookie) whole =
    subst (λ (xs : List Listed). Ended (entry_of s (mask_of a.attr_request)) first now (given a.maxcount - 16) xs whole) er by_given in
    let same : longest (fits (given a.maxcount)) (left s a d) ≡ longest (fits_in (given a.maxcount - 16)) (left s a d) =
    fits_shift (given a.maxcount) (left s a d) (given_least a.maxcount le) in (
      subst (λ (xs : List Entry). Puts first now (flat_map entry_text xs)) (sym same) by_rest.put,
      by_rest.all ∙ ap (λ (xs : List Entry). length xs == length (listing s.tree.rows d.number a.cookie)) (sym same)
          ∙ ap (λ n. length (longest (fits (given a.maxcount)) (left s a d)) == n)
          (sym (length-map (listing s.tree.rows d.number a.cookie) (entry_of s (mask_of a.attr_request)))),
    )
