-- A file is as its image says, through each change of a tree.
use Rattle.std.proofs.Common.{◌≡◌, ◌≢◌, ℕ, ◌+◌, ◌-◌, ◌≤◌, ◌<◌, Bool, true, false, cond, not, ltb, List, [], length, map, take, drop, get_or, Option, Some, None, refl, sym, ◌∙◌, ap, subst, arith, inl, inr}
use Rattle.std.proofs.lemmas.Bool.{cases_Bool, cases_eq, eq-eqb, ne_eqb, eqb-true, ltb-true, ltb-false, and_parts}
use Rattle.std.proofs.lemmas.List.{length-take, length-drop, get_or-take, get_or-drop, get_or_past, get_or-replicate, length-replicate}
use Rattle.std.proofs.{lemmas.List.FromFn.{get_or-map-range_with_len, length-map-range_with_len}, lemmas.Grind.same_number_lists}
use Rattle.std.specs.{Prelude.{◌==◌, ◌&&◌, nat_lt, filter, option_map, min, max, replicate, if◌then◌else◌}, List.range_with_len}
use Rattle.nfs_xdr.specs.declared.time.Time.{Time}
use Rattle.nfs_xdr.proofs.Lists.{find_in, find_past, find_out, find_push_other}
use Rattle.nfs_results.specs.Largest.{given}
use Rattle.nfs_tree.specs.{declared.sets.Sets.Sets, declared.stored.Stored.Stored, Stored.content_of, Object.{changed, modified, no_sets}}
use Rattle.nfs_tree.specs.Files.{Files, stored_in, change_at, with_changed, with_entries_changed, with_links_changed, number_named, object_named}
use Rattle.nfs_tree.specs.{Create.{New, with_new, new_object}, Names.{with_link, without_name, Move, replaced_object, touched_object, with_both_changed, with_moved}}
use Rattle.nfs_tree.specs.Bytes.{Content, written_byte, written, resized, with_text, with_size, with_bytes, with_written, with_resized, with_sets}
use Rattle.nfs_tree.proofs.Objects.{keeps_changed, stored_map}
use Rattle.nfs_names.specs.State as store
use Rattle.nfs_names.specs.{State.{with_tree, is_used, without_unused}, Ending.{with_opens, table_staying, staying}, Rename.without_replaced}
use Rattle.nfs_names.proofs.Effects as names_effects
use Rattle.nfs_names.proofs.Effects.{Makes, Links, Removes, Moves}
use Rattle.nfs_files.specs.FileImage.{Image, unwritten, byte_over, cut_to, bytes_read}

-- Bytes.

pub record IsOf (img : Image) (bytes : List ℕ) : Type 0 where
  pub long : length bytes ≡ img.size
  pub each : (p : ℕ) → get_or bytes p 0 ≡ img.byte p

made_at : (f : ℕ → ℕ) (n p : ℕ) → p < n → get_or (map f (range_with_len 0 n)) p 0 ≡ f p
made_at f n p lt = get_or-map-range_with_len f 0 n p p 0 lt (omega arith)

made_past : (f : ℕ → ℕ) (n p : ℕ) → n ≤ p → get_or (map f (range_with_len 0 n)) p 0 ≡ 0
made_past f n p le = get_or_past (map f (range_with_len 0 n)) p 0 (omega (arith, length-map-range_with_len f 0 n))

pub written_is : (img : Image) (old : List ℕ) (offset : ℕ) (text : List ℕ) → IsOf img old
    → IsOf (record { size = max img.size (offset + length text); byte = byte_over img offset text }) (written old offset text)
written_is img old offset text is =
    let n = max (length old) (offset + length text) in
    record {
      long = length-map-range_with_len (written_byte (λ p. get_or old p 0) offset text) 0 n ∙ ap (λ k. max k (offset + length text)) is.long;
      each = λ p. elim (cases_Bool (ltb p n)) [
        | inl below ↦ made_at (written_byte (λ p. get_or old p 0) offset text) n p (ltb-true p n below) ∙ same p
        | inr past ↦
            (let le : n ≤ p = ltb-false p n past in
            let behind : offset + length text ≤ p = grind arith in
            let out : length old ≤ p = grind arith in
            made_past (written_byte (λ p. get_or old p 0) offset text) n p le ∙ (sym (get_or_past old p 0 out) ∙ beside p behind))
      ];
    }
  where
    same : (p : ℕ) → written_byte (λ p. get_or old p 0) offset text p ≡ byte_over img offset text p
    same p = elim (not (nat_lt p offset) && nat_lt p (offset + length text))
        as (λ v. (if v then get_or text (p - offset) 0 else get_or old p 0) ≡ (if v then get_or text (p - offset) 0 else img.byte p)) [ true ↦ refl | false ↦ is.each p ]

    beside : (p : ℕ) → offset + length text ≤ p → get_or old p 0 ≡ byte_over img offset text p
    beside p le = elim (cases_Bool (not (nat_lt p offset) && nat_lt p (offset + length text))) [
      | inl within ↦ absurd (let lt : p < offset + length text = ltb-true p (offset + length text) (and_parts (not (nat_lt p offset)) (nat_lt p (offset + length text)) within).1 in omega arith)
      | inr out ↦ rw out (is.each p)
    ]

pub resized_is : (img : Image) (old : List ℕ) (size : ℕ) → IsOf img old → IsOf (cut_to img (Some size)) (resized old size)
resized_is img old size is = record {
  long = length-map-range_with_len (λ p. get_or old p 0) 0 size;
  each = λ p. elim (cases_Bool (ltb p size)) [
    | inl below ↦ rw below (made_at (λ p. get_or old p 0) size p (ltb-true p size below) ∙ is.each p)
    | inr past ↦ rw past (made_past (λ p. get_or old p 0) size p (ltb-false p size past))
  ];
}

pub unwritten_is : (size : ℕ) → IsOf (unwritten size) (replicate size 0)
unwritten_is size = record {
  long = length-replicate size 0;
  each = λ p. elim (cases_Bool (ltb p size)) [
    | inl below ↦ get_or-replicate size p 0 0 (ltb-true p size below)
    | inr past ↦ get_or_past (replicate size 0) p 0 (let le = ltb-false p size past in omega (arith, length-replicate {A = ℕ} size 0))
  ];
}

pub bytes_are : (img : Image) (bytes : List ℕ) (offset count : ℕ) → IsOf img bytes → take (given count) (drop offset bytes) ≡ bytes_read img offset count
bytes_are img bytes offset count is =
    let n = min (given count) (img.size - offset) in
    let taken = length-take (given count) (drop offset bytes) in
    let left = length-drop offset bytes in
    let size = is.long in
    let long : length (take (given count) (drop offset bytes)) ≡ n = taken ∙ ap (min (given count)) (left ∙ ap (λ k. k - offset) size) in
    same_number_lists (take (given count) (drop offset bytes)) (bytes_read img offset count) (long ∙ sym (length-map-range_with_len img.byte offset n)) (λ k lt.
    (let less : k < n = subst (λ m. k < m) long lt in
    let low : k < given count = grind arith in
    get_or-take (given count) (drop offset bytes) k 0 low
    ∙ (get_or-drop offset bytes k 0 ∙ (is.each (offset + k) ∙ sym (get_or-map-range_with_len img.byte offset n k (offset + k) 0 less refl)))))

-- Objects.

abbrev pub Holds : ℕ → Image → List Stored → Type 0
Holds n img xs = (s : Stored) → stored_in xs n ≡ Some s → IsOf img s.bytes

at_map : (n : ℕ) (img later : Image) (f : Stored → Stored) (xs : List Stored) → ((s : Stored) → (f s).number ≡ s.number)
    → ((s : Stored) → s.number ≡ n → IsOf img s.bytes → IsOf later (f s).bytes) → Holds n img xs → Holds n later (map f xs)
at_map n img later f xs number each holds now e = go (stored_in xs n) refl (sym (stored_map xs f n number) ∙ e)
  where
    go : (o : Option Stored) → stored_in xs n ≡ o → option_map f o ≡ Some now → IsOf later now.bytes
    go None there e = absurd cc
    go (Some s) there e =
        let is : f s ≡ now = cc in
        let at = find_in (λ (s : Stored). s.number == n) xs s there in
        subst (λ (k : Stored). IsOf later k.bytes) is (each s (eqb-true s.number n at.1) (holds s there))

at_changed : (n : ℕ) (img : Image) (m : ℕ) (now : Time) (sets : Sets) (xs : List Stored) → Holds n img xs → Holds n img (with_changed m now sets xs)
at_changed n img m now sets xs holds = at_map n img img (change_at m now sets) xs (keeps_changed m now sets []).number
    (λ s at is. elim (s.number == m) as (λ v. IsOf img (cond v (record s { object = changed now sets s.object }) s).bytes) [ true ↦ is | false ↦ is ]) holds

at_rest : (n : ℕ) (img : Image) (p : ℕ → Bool) (xs : List Stored) → Holds n img xs → Holds n img (filter (λ (s : Stored). p s.number) xs)
at_rest n img p xs holds now e = elim (cases_Bool (p n)) [
  | inl stays ↦ holds now (sym (find_past (λ (s : Stored). s.number == n) (λ s. p s.number) xs (λ s e. ap p (eqb-true s.number n e) ∙ stays)) ∙ e)
  | inr goes ↦ absurd (let none : None ≡ Some now =
      sym (find_out (λ (s : Stored). s.number == n) (λ s. p s.number) xs (λ s e. ap p (eqb-true s.number n e) ∙ goes)) ∙ e in cc)
]

at_both : (n : ℕ) (img : Image) (d m : ℕ) (now : Time) (xs : List Stored) → Holds n img xs → Holds n img (with_links_changed m now (with_entries_changed d now xs))
at_both n img d m now xs holds =
    at_changed n img m now no_sets (with_entries_changed d now xs) (at_changed n img d now (modified now no_sets) xs holds)

at_two : (n : ℕ) (img : Image) (c d : ℕ) (now : Time) (xs : List Stored) → Holds n img xs → Holds n img (with_both_changed c d now xs)
at_two n img c d now xs holds = elim (cases_Bool (c == d)) [
  | inl same ↦ rw same (at_changed n img c now (modified now no_sets) xs holds)
  | inr other ↦ rw other (at_changed n img d now (modified now no_sets) (with_entries_changed c now xs) (at_changed n img c now (modified now no_sets) xs holds))
]

-- the file of one number alone gets other bytes
at_bytes : (n : ℕ) (img later : Image) (m : ℕ) (now : Time) (sets : Sets) (content : Stored → Content) (xs : List Stored)
    → (m ≡ n → (s : Stored) → IsOf img s.bytes → IsOf later (content s).bytes) → (m ≢ n → (b : List ℕ) → IsOf img b → IsOf later b)
    → Holds n img xs → Holds n later (map (λ (s : Stored). if s.number == m then with_bytes now sets (content s) s else s) xs)
at_bytes n img later m now sets content xs here other holds =
    at_map n img later (λ (s : Stored). if s.number == m then with_bytes now sets (content s) s else s) xs
    (λ s. elim (s.number == m) as (λ v. (cond v (with_bytes now sets (content s) s) s).number ≡ s.number) [ true ↦ refl | false ↦ refl ])
    (λ s at is. elim (cases_eq s.number m) [
      | inl same ↦ rw (eq-eqb s.number m same) (here (sym same ∙ at) s is)
      | inr differ ↦ rw (ne_eqb s.number m differ) (other (λ e. differ (at ∙ sym e)) s.bytes is)
    ]) holds

-- Trees.

-- and no file that is made later gets its number
pub record Has (n : ℕ) (img : Image) (t : Files) : Type 0 where
  pub given : n ≤ t.last_object
  pub holds : Holds n img t.objects

pub has_new : (n : ℕ) (img : Image) (t : Files) (d : ℕ) (name : List ℕ) (new : New) (sets : Sets) (now : Time) → Has n img t → Has n img (with_new t d name new sets now)
has_new n img t d name new sets now is =
    let made : Stored = record { number = t.last_object + 1; object = new_object now new sets; bytes = new.bytes; pages = new.pages } in
    let low = is.given in
    let other : t.last_object + 1 ≢ n = λ same. omega arith in
    record {
      given = omega arith;
      holds = λ k e. at_changed n img d now (modified now no_sets) t.objects is.holds k
          (sym (find_push_other (λ (s : Stored). s.number == n) (with_entries_changed d now t.objects) made (ne_eqb (t.last_object + 1) n other)) ∙ e);
    }

has_link : (n : ℕ) (img : Image) (t : Files) (m d : ℕ) (name : List ℕ) (now : Time) → Has n img t → Has n img (with_link t m d name now)
has_link n img t m d name now is = record { given = is.given; holds = at_both n img d m now t.objects is.holds }

has_without : (n : ℕ) (img : Image) (t : Files) (d : ℕ) (name : List ℕ) (now : Time) → Has n img t → Has n img (without_name t d name now)
has_without n img t d name now is = record { given = is.given; holds = at_both n img d (number_named t d name) now t.objects is.holds }

has_moved : (n : ℕ) (img : Image) (t : Files) (m : Move) (now : Time) → Has n img t → Has n img (with_moved t m now)
has_moved n img t m now is = record {
  given = is.given;
  holds = at_two n img m.source m.target now (with_links_changed (replaced_object t m) now (with_links_changed (touched_object t m) now t.objects))
      (at_changed n img (replaced_object t m) now no_sets (with_links_changed (touched_object t m) now t.objects)
      (at_changed n img (touched_object t m) now no_sets t.objects is.holds));
}

has_rest : (n : ℕ) (img : Image) (t : Files) (p : ℕ → Bool) → Has n img t → Has n img (record t { objects = filter (λ (s : Stored). p s.number) t.objects })
has_rest n img t p is = record { given = is.given; holds = at_rest n img p t.objects is.holds }

pub has_changed : (n : ℕ) (img : Image) (t : Files) (m : ℕ) (sets : Sets) (now : Time) → Has n img t → Has n img (with_sets t m sets now)
has_changed n img t m sets now is = record { given = is.given; holds = at_changed n img m now sets t.objects is.holds }

pub has_written : (n : ℕ) (img : Image) (t : Files) (m offset : ℕ) (text : List ℕ) (sets : Sets) (now : Time) → Has n img t
    → Has n (if m == n then record { size = max img.size (offset + length text); byte = byte_over img offset text } else img) (with_written t m offset text sets now)
has_written n img t m offset text sets now is = record {
  given = is.given;
  holds = at_bytes n img (if m == n then record { size = max img.size (offset + length text); byte = byte_over img offset text } else img) m now sets
      (λ s. with_text (content_of s) offset text) t.objects
      (λ same s of_s. rw (eq-eqb m n same) (written_is img s.bytes offset text of_s)) (λ differ b of_b. rw (ne_eqb m n differ) of_b) is.holds;
}

pub has_resized : (n : ℕ) (img : Image) (t : Files) (m size : ℕ) (sets : Sets) (now : Time) → Has n img t
    → Has n (if m == n then cut_to img (Some size) else img) (with_resized t m size sets now)
has_resized n img t m size sets now is = record {
  given = is.given;
  holds = at_bytes n img (if m == n then cut_to img (Some size) else img) m now sets (λ s. with_size (content_of s) size) t.objects
      (λ same s of_s. rw (eq-eqb m n same) (resized_is img s.bytes size of_s)) (λ differ b of_b. rw (ne_eqb m n differ) of_b) is.holds;
}

-- Names, and objects that go for want of use.

pub has_unused : (n : ℕ) (img : Image) (s : store.State) (m : ℕ) → Has n img s.tree → Has n img (without_unused s m).tree
has_unused n img s m is = elim (cases_Bool (is_used s m)) [ inl stays ↦ rw stays is | inr goes ↦ rw goes (has_rest n img s.tree (λ k. not (k == m)) is) ]

has_replaced : (n : ℕ) (img : Image) (s : store.State) (o : Option ℕ) → Has n img s.tree → Has n img (without_replaced s o).tree
has_replaced n img s None is = is
has_replaced n img s (Some m) is = has_unused n img s m is

pub has_staying : (n : ℕ) (img : Image) (stays : ℕ → Bool) (s : store.State) → Has n img s.tree → Has n img (staying stays s).tree
has_staying n img stays s is = has_rest n img s.tree (is_used (with_opens s (table_staying stays s.opens))) is

pub has_effect : (n : ℕ) (img : Image) (s : store.State) (e : names_effects.Effect) → Has n img s.tree → Has n img (names_effects.behind s e).tree
has_effect n img s (Makes d name new sets now) is = has_new n img s.tree d name new sets now is
has_effect n img s (Links m d name now) is = has_link n img s.tree m d name now is
has_effect n img s (Removes d name now) is =
    has_unused n img (with_tree s (without_name s.tree d name now)) (number_named s.tree d name) (has_without n img s.tree d name now is)
has_effect n img s (Moves m now) is =
    has_replaced n img (with_tree s (with_moved s.tree m now)) (object_named s.tree m.target m.name) (has_moved n img s.tree m now is)
