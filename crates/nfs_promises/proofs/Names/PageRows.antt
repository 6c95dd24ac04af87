-- What a READDIR lists of the rows of its directory: the first of those behind its cookie, in rising order.
use Rattle.std.proofs.Common.{◌≡◌, ℕ, suc, ◌+◌, ◌<◌, ◌^◌, Bool, true, false, cond, not, List, [], ◌∷◌, ◌++◌, length, map, filter, Option, Some, None, refl, sym, ◌∙◌, ap, subst, arith, append-nil, inl}
use Rattle.std.proofs.{lemmas.Bool.{and_parts, eqb-true, eq-eqb, ltb-true, lt-ltb, leb-true, true≢false}, lemmas.List.length-append, lemmas.Nat.and_le_r}
use Rattle.std.specs.Prelude.{◌==◌, ◌&&◌, nat_lt, get_or}
use Rattle.nfs_xdr.specs.Tables.{IsRising, In}
use Rattle.nfs_xdr.proofs.{Lists.{in_filter, stays_in, in_map, map_in}, Tables.{IsRising-filter, IsRising-upto, in_bounds, in_once}}
use Rattle.nfs_compound.specs.declared.name_args.ReadDir.{ReadDir}
use Rattle.nfs_compound.specs.declared.op_num.OpNum.TheVariants as Num
use Rattle.nfs_results.specs.{Largest.given, declared.res.Entry.Entry, declared.res.ReadDirOk.ReadDirOk, Parts.parts, ResultCodec.FitsResult}
use Rattle.nfs_results.specs.Results.{spell_result}
use Rattle.nfs_results.specs.declared.res.Res.TheVariants as Res
use Rattle.nfs_tree.specs.{declared.object.Object.Object, declared.row.Row.Row, Files.{Files, listed, object_at, entry}, TreeInvariants.IsTree}
use Rattle.nfs_tree.specs.{declared.profile.Profile.Profile, declared.profile.Profile.TheVariants.{Exact, Unix}}
use Rattle.nfs_attrs.specs.{Attributes.readable, Mask.{mask_of, common, without_last_zeros}, declared.mask.Mask.Mask}
use Rattle.nfs_attrs.proofs.Bounds.{attributes_within}
use Rattle.nfs_names.specs.{Attributes.about, ReadDir.{attributes_at, entry_of, left, longest, fitting, fits_none}, State.State}
use Rattle.nfs_names.specs.{declared.context.Context.Context, declared.node.Node.Node}
use Rattle.nfs_names.specs.ReadDir as reading
use Rattle.nfs_names.proofs.Masks.{at_most_three_words}
use Rattle.nfs_names.proofs.NameLaws as law
use Rattle.nfs_files.proofs.WrittenOps.{current_number}
use Rattle.nfs_files.proofs.ChangesTold.{some_same}
use Rattle.nfs_promises.proofs.{Runs.StatusTold.not_done, Names.{PageLists.{Rises, first_in}, PageText.{AreWords, ArePlain, IsPlain, AllPlain, one_page}}}
use Rattle.nfs_names.proofs.Terms.{fits}

abbrev pub entry_at : State → Mask → Row → Entry
entry_at s mask r = entry_of s mask (listed r)

pub entry_cookie : (s : State) (mask : Mask) (r : Row) → (entry_at s mask r).cookie ≡ r.cookie
unfolding entry_of
entry_cookie s mask r = refl

pub entry_name : (s : State) (mask : Mask) (r : Row) → (entry_at s mask r).name ≡ r.name
unfolding entry_of
entry_name s mask r = refl

-- A page, and what is behind it: together the rows of the directory behind the cookie.
pub record Lists (s : State) (mask : Mask) (n c : ℕ) (told : ReadDirOk) : Type 0 where
  pub rest : List Entry
  pub high : ℕ
  pub rises : Rises (suc c) (told.entries ++ rest) high
  pub has : (r : Row) → In r s.tree.rows → r.directory ≡ n → c < r.cookie → In (entry_at s mask r) (told.entries ++ rest)
  pub from : (e : Entry) → In e (told.entries ++ rest) → (r : Row) × In r s.tree.rows × (r.directory ≡ n) × (c < r.cookie) × (e ≡ entry_at s mask r)
  pub ends : told.eof ≡ true → rest ≡ []
  pub goes : told.eof ≡ false → (told.entries ≡ [] → ⊥) × (rest ≡ [] → ⊥)

-- The rows behind a cookie.

abbrev is_behind : ℕ → ℕ → Row → Bool
is_behind n c r = (r.directory == n) && nat_lt c r.cookie

abbrev rows_behind : List Row → ℕ → ℕ → List Row
rows_behind rows n c = filter (is_behind n c) rows

abbrev RowsRise : ℕ → List Row → ℕ → Type 0
RowsRise low rows high = IsRising (λ (r : Row). r.cookie) low rows high

raised : (low c high : ℕ) (rows : List Row) → RowsRise low rows high → ((r : Row) → In r rows → c < r.cookie) → RowsRise (suc c) rows (high + suc c)
raised low c high [] rises above = omega arith
raised low c high (r ∷ rows) rises above =
    let first = above r (inl refl) in (omega arith, IsRising-upto (λ (r : Row). r.cookie) (suc r.cookie) high (high + suc c) rows (omega arith) rises.1)

entries_rise : (s : State) (mask : Mask) (low high : ℕ) (rows : List Row) → RowsRise low rows high → Rises low (map (entry_of s mask) (map listed rows)) high
unfolding entry_of
entries_rise s mask low high [] rises = rises
entries_rise s mask low high (r ∷ rows) rises = (rises.0, entries_rise s mask (suc r.cookie) high rows rises.1)

above_all : (rows : List Row) (n c : ℕ) (r : Row) → In r (rows_behind rows n c) → In r rows × (r.directory ≡ n) × (c < r.cookie)
above_all rows n c r there =
    let is = in_filter (is_behind n c) rows r there in
    let parts = and_parts (r.directory == n) (nat_lt c r.cookie) is.1 in (is.0, eqb-true r.directory n parts.0, ltb-true c r.cookie parts.1)

left_rises : (s : State) (a : ReadDir) (d : Node) → IsTree s.tree → Rises (suc a.cookie) (left s a d) (s.tree.last_cookie + 1 + suc a.cookie)
left_rises s a d tree =
    let rows = rows_behind s.tree.rows d.number a.cookie in
    entries_rise s (mask_of a.attr_request) (suc a.cookie) (s.tree.last_cookie + 1 + suc a.cookie) rows
    (raised 3 a.cookie (s.tree.last_cookie + 1) rows
    (IsRising-filter (λ (r : Row). r.cookie) (is_behind d.number a.cookie) 3 (s.tree.last_cookie + 1) s.tree.rows tree.cookies)
    (λ r there. (above_all s.tree.rows d.number a.cookie r there).2))

left_has : (s : State) (a : ReadDir) (d : Node) (r : Row) → In r s.tree.rows → r.directory ≡ d.number → a.cookie < r.cookie
    → In (entry_at s (mask_of a.attr_request) r) (left s a d)
left_has s a d r there same above =
    let rows = rows_behind s.tree.rows d.number a.cookie in
    let is : is_behind d.number a.cookie r ≡ true = rw (eq-eqb r.directory d.number same, lt-ltb a.cookie r.cookie above) refl in
    map_in (entry_of s (mask_of a.attr_request)) (map listed rows) (listed r) (map_in listed rows r (stays_in (is_behind d.number a.cookie) s.tree.rows r there is))

left_from : (s : State) (a : ReadDir) (d : Node) (e : Entry) → In e (left s a d)
    → (r : Row) × In r s.tree.rows × (r.directory ≡ d.number) × (a.cookie < r.cookie) × (e ≡ entry_at s (mask_of a.attr_request) r)
left_from s a d e there =
    let rows = rows_behind s.tree.rows d.number a.cookie in
    let at = in_map (entry_of s (mask_of a.attr_request)) (map listed rows) e there in
    let row = in_map listed rows at.0 at.1 in
    let is = above_all s.tree.rows d.number a.cookie row.0 row.1 in
    (row.0, is.0, is.1, is.2, at.2 ∙ ap (entry_of s (mask_of a.attr_request)) row.2)

-- As many of them as fit are a front.

front_if : {A : Type 0} (b : Bool) (x : A) (ys xs : List A) → (rest : List A) × (ys ++ rest ≡ xs) → (rest : List A) × (cond b (x ∷ ys) [] ++ rest ≡ x ∷ xs)
front_if true x ys xs f = (f.0, ap (λ zs. x ∷ zs) f.1)
front_if false x ys xs f = (x ∷ xs, refl)

front_of : {A : Type 0} (test : List A → Bool) (xs : List A) → (rest : List A) × (longest test xs ++ rest ≡ xs)
front_of test [] = ([], refl)
front_of test (x ∷ xs) = front_if (test (x ∷ [])) x (longest (λ more. test (x ∷ more)) xs) xs (front_of (λ more. test (x ∷ more)) xs)

fitting_front : (s : State) (a : ReadDir) (d : Node) → (rest : List Entry) × (fitting s a d ++ rest ≡ left s a d)
unfolding fitting
fitting_front s a d = front_of (fits (given a.maxcount)) (left s a d)

none_left : (es rest all : List Entry) → es ++ rest ≡ all → (length es == length all) ≡ true → rest ≡ []
none_left es [] all front is = refl
none_left es (x ∷ rest) all front is =
    let same : length es ≡ length all = eqb-true (length es) (length all) is in
    absurd (omega (arith, ap length front, length-append es (x ∷ rest)))

some_left : (es rest all : List Entry) → es ++ rest ≡ all → (length es == length all) ≡ false → rest ≡ [] → ⊥
some_left es rest all front is none =
    let same : es ≡ all = sym (append-nil es) ∙ (ap (λ more. es ++ more) (sym none) ∙ front) in
    true≢false (sym (eq-eqb (length es) (length all) (ap length same)) ∙ is)

some_fit : (es all : List Entry) → not (nat_lt 0 (length all) && (length es == 0)) ≡ true → (length es == length all) ≡ false → es ≡ [] → ⊥
some_fit es [] some is none = true≢false (sym (ap (λ xs. length xs == 0) none) ∙ is)
some_fit es (x ∷ all) some is none =
    let count : (length es == 0) ≡ true = ap (λ (xs : List Entry). length xs == 0) none in
    let some_there : nat_lt 0 (length (x ∷ all)) ≡ true = lt-ltb 0 (length (x ∷ all)) (omega arith) in
    let bad : not (true && true) ≡ true = sym (ap (λ b. not (b && (length es == 0))) some_there ∙ ap (λ b. not (true && b)) count) ∙ some in
    cc

pub lists : (s : State) (a : ReadDir) (d : Node) → IsTree s.tree → not (fits_none s a d) ≡ true
    → Lists s (mask_of a.attr_request) d.number a.cookie (reading.listed s a d)
lists s a d tree some =
    let front = fitting_front s a d in
    let high = s.tree.last_cookie + 1 + suc a.cookie in
    record {
      rest = front.0;
      high = high;
      rises = subst (λ es. Rises (suc a.cookie) es high) (sym front.1) (left_rises s a d tree);
      has = λ r there same above. subst (In (entry_at s (mask_of a.attr_request) r)) (sym front.1) (left_has s a d r there same above);
      from = λ e there. left_from s a d e (subst (In e) front.1 there);
      ends = none_left (fitting s a d) front.0 (left s a d) front.1;
      goes = λ is. (some_fit (fitting s a d) (left s a d) some is, some_left (fitting s a d) front.0 (left s a d) front.1 is);
    }

-- Its entries are as short as can be written.

zero_words : (b : Bool) (word : ℕ) (words : List ℕ) → word < 2 ^ 32 → AreWords words → AreWords (cond b [] (word ∷ words))
zero_words true word words low small = tt
zero_words false word words low small = (low, small)

trimmed_small : (words : List ℕ) → AreWords words → AreWords (without_last_zeros words)
trimmed_small [] small = tt
trimmed_small (word ∷ words) small =
    zero_words ((word == 0) && (length (without_last_zeros words) == 0)) word (without_last_zeros words) small.0 (trimmed_small words small.1)

common_small : (mask : Mask) (p : Profile) → AreWords (common mask (readable p)).words
common_small mask Exact = (
  omega (arith, and_le_r (get_or mask.words 0 0) 0xf8180fff),
  (omega (arith, and_le_r (get_or mask.words 1 0) 0x00b0a03a), (omega (arith, and_le_r (get_or mask.words 2 0) 0x00000800), tt)),
)
common_small mask Unix = (
  omega (arith, and_le_r (get_or mask.words 0 0) 0xf8f80fff),
  (omega (arith, and_le_r (get_or mask.words 1 0) 0x00b8bc3a), (omega (arith, and_le_r (get_or mask.words 2 0) 0x00000800), tt)),
)

attrs_plain : (s : State) (mask : Mask) (n : ℕ) (o : Option Object) → ArePlain (attributes_at s mask n o)
attrs_plain s mask n None = record { few = omega arith; words = tt; values = omega arith }
attrs_plain s mask n (Some o) = record {
  few = omega (arith, at_most_three_words mask (readable s.tree.profile));
  words = trimmed_small (common mask (readable s.tree.profile)).words (common_small mask s.tree.profile);
  values = omega (arith, attributes_within mask (about s (record { number = n; object = o })) o);
}

pub row_plain : (s : State) (mask : Mask) (r : Row) → IsTree s.tree → In r s.tree.rows → IsPlain (entry_at s mask r)
unfolding entry_of
row_plain s mask r tree there =
    let bounds = in_bounds (λ (r : Row). r.cookie) 3 (s.tree.last_cookie + 1) s.tree.rows r tree.cookies there in
    let last = tree.counters.1 in
    let short = leb-true (length r.name) 255 (and_parts (nat_lt 0 (length r.name)) _ (tree.rows.short r there)).1 in
    record { cookie = omega arith; name = omega arith; attrs = attrs_plain s mask r.object (object_at s.tree r.object) }

-- So a page that a READDIR answered is such a one.
pub page_told : (s : State) (x : Context) (a : ReadDir) (n : ℕ) (told : ReadDirOk) → IsTree s.tree → x.current ≡ Some n → FitsResult (Res.ReadDir told)
    → spell_result (reading.read_dir s x a).result ≡ spell_result (Res.ReadDir told) → Lists s (mask_of a.attr_request) n a.cookie told
page_told s x a n told tree at valid =
    law.by_read_dir (λ o. spell_result o.result ≡ spell_result (Res.ReadDir told) → Lists s (mask_of a.attr_request) n a.cookie told) s x a
    (λ f h e. absurd (not_done Num.ReadDir 26 f h.done ((parts (Res.ReadDir told)).behind, e)))
    (λ d there placed some e.
    (let page = lists s a d tree some in
    let plain : AllPlain (fitting s a d) =
    λ x within. (let row = page.from x (first_in (fitting s a d) page.rest x within) in
    subst IsPlain (sym row.4) (row_plain s (mask_of a.attr_request) row.0 tree row.1)) in
    let same : told ≡ reading.listed s a d = one_page told (reading.listed s a d) valid refl plain (sym e) in
    subst (λ n. Lists s (mask_of a.attr_request) n a.cookie told) (some_same x.current d.number n (current_number s x d there) at)
    (subst (Lists s (mask_of a.attr_request) d.number a.cookie) (sym same) page)))

-- Rows of a tree.

-- a name has one
pub one_row : (t : Files) → IsTree t → (q r : Row) → In q t.rows → In r t.rows → q.directory ≡ r.directory → q.name ≡ r.name → q ≡ r
one_row t tree q r here there directory name =
    let both : Some q ≡ Some r =
    sym (tree.rows.found q here) ∙ (ap (λ d. entry t.rows d q.name) directory ∙ (ap (entry t.rows r.directory) name ∙ tree.rows.found r there)) in
    cc

-- and a cookie has one, and is not 0
pub one_cookie : (t : Files) → IsTree t → (q r : Row) → In q t.rows → In r t.rows → q.cookie ≡ r.cookie → q ≡ r
one_cookie t tree q r here there same = in_once (λ (r : Row). r.cookie) 3 (t.last_cookie + 1) t.rows q r tree.cookies here there same

pub some_cookie : (t : Files) → IsTree t → (r : Row) → In r t.rows → 0 < r.cookie
some_cookie t tree r there = let bounds = in_bounds (λ (r : Row). r.cookie) 3 (t.last_cookie + 1) t.rows r tree.cookies there in omega arith
