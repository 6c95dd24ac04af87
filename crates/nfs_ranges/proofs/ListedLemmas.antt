-- What lock states hold is listed, whatever they lock or unlock; and what is found in the lists is told.
use Rattle.std.proofs.Common.{◌≡◌, ◌≢◌, ℕ, suc, ◌<◌, ◌≤◌, ◌+◌, ◌-◌, ◌^◌, max, min, Bool, true, false, eqb, leb, ◌&&◌, List, [], ◌∷◌, ◌⊎◌, Option, Result, Ok, Err}
use Rattle.std.proofs.{Common.{Some, None, refl, sym, ◌∙◌, ap, subst, arith, inl, inr}}
use Rattle.std.proofs.lemmas.Bool.{cases_lt, cases_Bool, and_parts, and_from, cases_eq, eq-eqb, ne_eqb, le-leb, leb-true}
use Rattle.std.specs.{Prelude.{find, not, option_map, OnOk, OnErr, is_ok}, Bool.OnTrue}
use Rattle.nfs_ranges.specs.{declared.Kind.Kind, declared.Kind.TheVariants.{Read, Write}, declared.interval.Interval.Interval, declared.Held.Held}
use Rattle.nfs_ranges.specs.{declared.listing.Wish.Wish, declared.listing.Part.Part, Intervals.{IsCanonical, with_range, without}, Owners.{AreCanonical, with_owner}, Clashes.{hits, held_by, clash_of}}
use Rattle.nfs_ranges.specs.{Blocks.flat, Groups.{AreKept, AreSame, IsPut}}
use Rattle.nfs_ranges.specs.{Holders.{Owned, LockedBytes, at, bytes_of, kind_at, is_within}, Told.{meets, clashes}, Facts.{Tells}}
use Rattle.nfs_ranges.specs.Listing.{Has, stands_against, Yields, IsApart, interval_at, side, AreListed, HasPart}
use Rattle.nfs_ranges.proofs.EditLemmas.{at-with_range, at-without, with_range-canonical, without-canonical}
use Rattle.nfs_ranges.proofs.{CanonicalLemmas.{same_interval, within_below, within_above}, OwnerLemmas.{bytes-canonical, bytes-with_owner}, AnswerLemmas.still_kept, ClashLemmas.{IsHit, HitIs, hit_is, ToldAt, one_told, own, lift, tells_from}}

-- bytes that are held in one way, and those beside them in another
pub record IsRun (f : ℕ → Option Kind) (x : Interval) : Type 0 where
  pub range : (x.first ≤ x.last) × (x.last < 2 ^ 64)
  pub held : (c : ℕ) → x.first ≤ c → c ≤ x.last → f c ≡ Some x.kind
  pub before : (c : ℕ) → suc c ≡ x.first → f c ≢ Some x.kind
  pub behind : f (suc x.last) ≢ Some x.kind

-- an interval that holds a byte
pub record Holds (xs : List Interval) (b : ℕ) (x : Interval) : Type 0 where
  pub run : IsRun (kind_at xs) x
  pub within : (x.first ≤ b) × (b ≤ x.last)

pub holds_of : (xs : List Interval) (b : ℕ) (x : Interval) → IsCanonical xs → Some x ≡ interval_at xs b → Holds xs b x
holds_of xs b x are e = by (subst (HitIs Write b b xs) (sym e) (hit_is Write b b 0 xs are.from))
  where
    by : IsHit Write b b xs x → Holds xs b x
    by hit = record {
      run = record { range = hit.range; held = hit.held; before = hit.before; behind = hit.behind };
      within = (hit.within.1, hit.within.0);
    }

-- runs that share a byte are one
same_run : (f : ℕ → Option Kind) (x y : Interval) (b : ℕ) → IsRun f x → IsRun f y → x.first ≤ b → b ≤ x.last → y.first ≤ b → b ≤ y.last → x ≡ y
same_run f x y b rx ry xf xl yf yl =
    let both : Some x.kind ≡ Some y.kind = sym (rx.held b xf xl) ∙ ry.held b yf yl in
    let kind : x.kind ≡ y.kind = cc in
    let first : x.first ≡ y.first = elim (cases_lt x.first y.first) [
      | inl lt ↦ absurd (ry.before (y.first - 1) (omega arith) (rx.held (y.first - 1) (omega arith) (omega arith) ∙ both))
      | inr ge ↦ elim (cases_lt y.first x.first) [
        | inl lt ↦ absurd (rx.before (x.first - 1) (omega arith) (ry.held (x.first - 1) (omega arith) (omega arith) ∙ sym both))
        | inr le ↦ omega arith
      ]
    ] in
    let last : x.last ≡ y.last = elim (cases_lt x.last y.last) [
      | inl lt ↦ absurd (rx.behind (ry.held (suc x.last) (omega arith) (omega arith) ∙ sym both))
      | inr ge ↦ elim (cases_lt y.last x.last) [
        | inl lt ↦ absurd (ry.behind (rx.held (suc y.last) (omega arith) (omega arith) ∙ both))
        | inr le ↦ omega arith
      ]
    ] in
    same_interval x y kind first last

-- a byte that is held lies in an interval
found : (xs : List Interval) (b : ℕ) (k : Kind) → IsCanonical xs → kind_at xs b ≡ Some k → (x : Interval) × (Some x ≡ interval_at xs b)
found xs b k are e = by (find (hits Write b b) xs) refl (hit_is Write b b 0 xs are.from)
  where
    by : (r : Option Interval) → r ≡ interval_at xs b → HitIs Write b b xs r → (x : Interval) × (Some x ≡ interval_at xs b)
    by None is none = absurd (let bad : meets Write (Some k) ≡ false = ap (meets Write) (sym e) ∙ none b (omega arith) (omega arith) in cc)
    by (Some x) is hit = (x, is)

again : (xs : List Interval) (b : ℕ) (x : Interval) → IsCanonical xs → IsRun (kind_at xs) x → x.first ≤ b → b ≤ x.last → Some x ≡ interval_at xs b
again xs b x are run lo hi =
    let there = found xs b x.kind are (run.held b lo hi) in
    let other = holds_of xs b there.0 are there.1 in
    ap Some (same_run (kind_at xs) x there.0 b run other.run lo hi other.within.0 other.within.1) ∙ there.1

-- what is asked for one part after the other
pub hit_reaches : (k : Kind) (first last : ℕ) (xs : List Interval) (x : Interval) → IsCanonical xs → Some x ≡ find (hits k first last) xs → first ≤ x.last
hit_reaches k first last xs x are e = by (subst (HitIs k first last xs) (sym e) (hit_is k first last 0 xs are.from))
  where
    by : IsHit k first last xs x → first ≤ x.last
    by hit = hit.within.0

pub hit_first : (first last b : ℕ) (xs : List Interval) (x y : Interval) → IsCanonical xs → Some x ≡ find (hits Write first last) xs → first ≤ b → b ≤ x.last →
    Some y ≡ interval_at xs b → y ≡ x
hit_first first last b xs x y are e lo hi at = by (subst (HitIs Write first last xs) (sym e) (hit_is Write first last 0 xs are.from))
  where
    by : IsHit Write first last xs x → y ≡ x
    by hit =
        let mine = holds_of xs b y are at in
        let in_y = mine.within in
        elim (cases_lt b (max x.first first)) [
          | inl lt ↦ absurd (let bad : meets Write (Some y.kind) ≡ false = ap (meets Write) (sym (mine.run.held b in_y.0 in_y.1)) ∙ hit.earliest b lo lt in cc)
          | inr ge ↦ same_run (kind_at xs) y x b mine.run (record { range = hit.range; held = hit.held; before = hit.before; behind = hit.behind }) in_y.0 in_y.1
              (omega arith) hi
        ]

sides : (P : Held → Type 0) (k : Kind) (r w r' w' : List Held) → ((h : Held) → P h → Has r h → Has r' h) → ((h : Held) → P h → Has w h → Has w' h) →
    (h : Held) → P h → Has (side k r w) h → Has (side k r' w') h
sides P Read r w r' w' reads writes h p has = reads h p has
sides P Write r w r' w' reads writes h p has = writes h p has

-- each step puts in one interval more
pub relisted : (os : LockedBytes) (p : Part) (from : ℕ) (y : Interval) (r w r' w' : List Held) (h : Held) → AreCanonical os →
    Some y ≡ find (hits Write from p.last) (bytes_of os p.owner) →
    ((b : ℕ) (x : Interval) → p.first ≤ b → b < from → Some x ≡ interval_at (bytes_of os p.owner) b → Has (side x.kind r w) (held_by p.owner x)) →
    ((h : Held) → Has r h → Has r' h) → ((h : Held) → Has w h → Has w' h) → h ≡ held_by p.owner y → Has (side h.kind r' w') h →
    (b : ℕ) (x : Interval) → p.first ≤ b → b ≤ y.last → Some x ≡ interval_at (bytes_of os p.owner) b → Has (side x.kind r' w') (held_by p.owner x)
relisted os p from y r w r' w' h are e before reads writes is has b x lo hi at = elim (cases_lt b from) [
  | inl lt ↦ sides (λ k. Unit {0}) x.kind r w r' w' (λ k u. reads k) (λ k u. writes k) (held_by p.owner x) tt (before b x lo lt at)
  | inr ge ↦ (
      let same : x ≡ y = hit_first from p.last b (bytes_of os p.owner) y x (bytes-canonical 0 os p.owner are.from) e ge hi at in
      let one : h ≡ held_by p.owner x = is ∙ ap (held_by p.owner) (sym same) in
      subst (λ k. Has (side k.kind r' w') k) one has
      )
]

pub hit_none : (first last b : ℕ) (xs : List Interval) (y : Interval) → IsCanonical xs → None ≡ find (hits Write first last) xs → first ≤ b → b ≤ last →
    Some y ≡ interval_at xs b → ⊥
hit_none first last b xs y are e lo hi at =
    let none : HitIs Write first last xs None = subst (HitIs Write first last xs) (sym e) (hit_is Write first last 0 xs are.from) in
    let mine = holds_of xs b y are at in
    let bad : meets Write (Some y.kind) ≡ false = ap (meets Write) (sym (mine.run.held b mine.within.0 mine.within.1)) ∙ none b lo hi in
    cc

-- what is listed after a part was taken out of the lists, and put in again
pub record AreMoved (first last s : ℕ) (old new : LockedBytes) : Type 0 where
  pub others : (t : ℕ) → t ≢ s → bytes_of new t ≡ bytes_of old t
  pub beside : (b : ℕ) → (b < first) ⊎ (last < b) → kind_at (bytes_of new s) b ≡ kind_at (bytes_of old s) b

pub listed_after : (first last : ℕ) (p : Part) (old new : LockedBytes) (r w r' w' : List Held) → first ≤ last → last < 2 ^ 64 → p.first ≡ first - 1 →
    p.last ≡ min (last + 1) (2 ^ 64 - 1) → AreCanonical old → AreCanonical new → AreMoved first last p.owner old new → AreListed old r w →
    ((h : Held) → IsApart p h → Has r h → Has r' h) → ((h : Held) → IsApart p h → Has w h → Has w' h) → HasPart new p r' w' → AreListed new r' w'
listed_after first last p old new r w r' w' le small pf pl are_old are_new moved listed reads writes part = record { each = each }
  where
    far : (b : ℕ) (x : Interval) → Some x ≡ interval_at (bytes_of new p.owner) b → (x.last < p.first) ⊎ (p.last < x.first) →
        Has (side x.kind r' w') (held_by p.owner x)
    far b x e apart =
        let mine = holds_of (bytes_of new p.owner) b x (bytes-canonical 0 new p.owner are_new.from) e in
        let run = mine.run in
        let range = run.range in
        let out : (c : ℕ) → x.first ≤ suc c → c ≤ suc x.last → (c < first) ⊎ (last < c) = λ c lo hi. elim apart [
          | inl before ↦ inl (omega arith)
          | inr behind ↦ inr (omega arith)
        ] in
        let same : (c : ℕ) → x.first ≤ suc c → c ≤ suc x.last → kind_at (bytes_of old p.owner) c ≡ kind_at (bytes_of new p.owner) c = λ c lo hi.
        sym (moved.beside c (out c lo hi)) in
        let run_old : IsRun (kind_at (bytes_of old p.owner)) x = record {
          range = run.range;
          held = λ c lo hi. same c (omega arith) (omega arith) ∙ run.held c lo hi;
          before = λ c next is. run.before c next (sym (same c (omega arith) (omega arith)) ∙ is);
          behind = λ is. run.behind (sym (same (suc x.last) (omega arith) (omega arith)) ∙ is);
        } in
        let there = again (bytes_of old p.owner) b x (bytes-canonical 0 old p.owner are_old.from) run_old mine.within.0 mine.within.1 in
        sides (IsApart p) x.kind r w r' w' reads writes (held_by p.owner x) (inr apart) (listed.each p.owner b x there)

    near : (b : ℕ) (x : Interval) → Some x ≡ interval_at (bytes_of new p.owner) b → p.first ≤ x.last → x.first ≤ p.last →
        Has (side x.kind r' w') (held_by p.owner x)
    near b x e lo hi =
        let are = bytes-canonical 0 new p.owner are_new.from in
        let mine = holds_of (bytes_of new p.owner) b x are e in
        let range = mine.run.range in
        part (max x.first p.first) x (omega arith) (omega arith) (again (bytes_of new p.owner) (max x.first p.first) x are mine.run (omega arith) (omega arith))

    each : (s b : ℕ) (x : Interval) → Some x ≡ interval_at (bytes_of new s) b → Has (side x.kind r' w') (held_by s x)
    each s b x e = elim (cases_eq s p.owner) [
      | inr other ↦ sides (IsApart p) x.kind r w r' w' reads writes (held_by s x) (inl other)
          (listed.each s b x (e ∙ ap (λ xs. interval_at xs b) (moved.others s other)))
      | inl same ↦ (
          let e' : Some x ≡ interval_at (bytes_of new p.owner) b = e ∙ ap (λ t. interval_at (bytes_of new t) b) same in
          let owns : Has (side x.kind r' w') (held_by p.owner x) = elim (cases_lt x.last p.first) [
            | inl before ↦ far b x e' (inl before)
            | inr not_before ↦ elim (cases_lt p.last x.first) [
              | inl behind ↦ far b x e' (inr behind)
              | inr not_behind ↦ near b x e' not_before not_behind
            ]
          ] in
          subst (λ t. Has (side x.kind r' w') (held_by t x)) (sym same) owns
          )
    ]

-- nothing of a lock state that has gone
pub listed_without : (s : ℕ) (p : Part) (old new : LockedBytes) (r w r' w' : List Held) → p.owner ≡ s → bytes_of new s ≡ [] →
    ((t : ℕ) → t ≢ s → bytes_of new t ≡ bytes_of old t) → AreListed old r w →
    ((h : Held) → IsApart p h → Has r h → Has r' h) → ((h : Held) → IsApart p h → Has w h → Has w' h) → AreListed new r' w'
listed_without s p old new r w r' w' owner none others listed reads writes = record { each = each }
  where
    each : (t b : ℕ) (x : Interval) → Some x ≡ interval_at (bytes_of new t) b → Has (side x.kind r' w') (held_by t x)
    each t b x e = elim (cases_eq t s) [
      | inl same ↦ absurd (let bad : Some x ≡ None = e ∙ ap (λ u. interval_at (bytes_of new u) b) same ∙ ap (λ xs. interval_at xs b) none in cc)
      | inr other ↦ sides (IsApart p) x.kind r w r' w' reads writes (held_by t x) (inl (λ is. other (is ∙ owner)))
          (listed.each t b x (e ∙ ap (λ xs. interval_at xs b) (others t other)))
    ]

-- what stands against a wish is listed, and yields to what was found
pub record IsAgainst (os : LockedBytes) (w : Wish) (best : Option Held) (c t : ℕ) (x : Interval) : Type 0 where
  pub stands : stands_against w (held_by t x) ≡ true
  pub yields : Yields w best (held_by t x)
  pub within : (x.first ≤ c) × (c ≤ x.last)

read_meets : (k : Kind) → meets k (Some Read) ≡ true → k ≡ Write
read_meets Read e = absurd cc
read_meets Write e = refl

held_met : (k : Kind) (o : Option Kind) → meets k o ≡ true → (j : Kind) × (o ≡ Some j)
held_met k None e = absurd cc
held_met k (Some j) e = (j, refl)

against : (os : LockedBytes) (r ws : List Held) (w : Wish) (best : Option Held) → AreCanonical os → AreListed os r ws → ((h : Held) → Has ws h → Yields w best h) →
    (w.kind ≡ Write → (h : Held) → Has r h → Yields w best h) → (c t : ℕ) → w.first ≤ c → c ≤ w.last → clashes (at os) w.owner w.kind c t ≡ true →
    (x : Interval) × IsAgainst os w best c t x
against os r ws w best are listed writes reads c t lo hi clash =
    let parts = and_parts (not (eqb t w.owner)) (meets w.kind (at os t c)) clash in
    let canonical = bytes-canonical 0 os t are.from in
    let held = held_met w.kind (at os t c) parts.1 in
    let there = found (bytes_of os t) c held.0 canonical held.1 in
    let x = there.0 in
    let mine = holds_of (bytes_of os t) c x canonical there.1 in
    let meet : meets w.kind (Some x.kind) ≡ true = ap (meets w.kind) (sym (mine.run.held c mine.within.0 mine.within.1)) ∙ parts.1 in
    let in_x = mine.within in (
      x,
      record {
        stands = and_from (not (eqb t w.owner)) _ parts.0 (and_from (meets w.kind (Some x.kind)) _ meet
            (and_from (leb w.first x.last) (leb x.first w.last) (le-leb w.first x.last (omega arith)) (le-leb x.first w.last (omega arith))));
        yields = by x x.kind refl meet (listed.each t c x there.1);
        within = mine.within;
      },
    )
  where
    by : (x : Interval) (k : Kind) → x.kind ≡ k → meets w.kind (Some x.kind) ≡ true → Has (side x.kind r ws) (held_by t x) → Yields w best (held_by t x)
    by x Read e meet has = reads (read_meets w.kind (ap (λ j. meets w.kind (Some j)) (sym e) ∙ meet)) (held_by t x) (subst (λ j. Has (side j r ws) (held_by t x)) e has)
    by x Write e meet has = writes (held_by t x) (subst (λ j. Has (side j r ws) (held_by t x)) e has)

pub none_told : (os : LockedBytes) (r ws : List Held) (w : Wish) → AreCanonical os → AreListed os r ws → ((h : Held) → Has ws h → Yields w None h) →
    (w.kind ≡ Write → (h : Held) → Has r h → Yields w None h) → Tells (at os) w.owner w.kind w.first w.last None
none_told os r ws w are listed writes reads = λ b t lo hi. elim (cases_Bool (clashes (at os) w.owner w.kind b t)) [
  | inr free ↦ free
  | inl met ↦ absurd (let x = against os r ws w None are listed writes reads b t lo hi met in let bad : true ≡ false = sym x.1.stands ∙ x.1.yields in cc)
]

pub some_told : (os : LockedBytes) (r ws : List Held) (w : Wish) (b : Held) (x : Interval) → w.first ≤ w.last → AreCanonical os → AreListed os r ws →
    ((h : Held) → Has ws h → Yields w (Some b) h) → (w.kind ≡ Write → (h : Held) → Has r h → Yields w (Some b) h) → b.owner ≢ w.owner →
    Some x ≡ find (hits w.kind w.first w.last) (bytes_of os b.owner) → max x.first w.first ≤ max b.first w.first →
    Tells (at os) w.owner w.kind w.first w.last (Some (held_by b.owner x))
some_told os r ws w b x le are listed writes reads other e least =
    let o : Owned = record { number = b.owner; intervals = bytes_of os b.owner } in
    let is : clash_of w.owner w.kind w.first w.last o ≡ Some (held_by b.owner x) = rw (ne_eqb b.owner w.owner other)
    (ap (option_map (held_by b.owner)) (sym e)) in
    let told : ToldAt (at (o ∷ [])) w.owner w.kind w.first w.last (Some (held_by b.owner x)) =
    subst (ToldAt (at (o ∷ [])) w.owner w.kind w.first w.last) is (one_told w.owner w.kind w.first w.last o le (bytes-canonical 0 os b.owner are.from)) in
    let within = told.within in
    let none_else : (c t : ℕ) → w.first ≤ c → c ≤ w.last → ((y : Interval) → IsAgainst os w (Some b) c t y → ⊥) → clashes (at os) w.owner w.kind c t ≡ false =
    λ c t lo hi none. elim (cases_Bool (clashes (at os) w.owner w.kind c t)) [
      | inr free ↦ free
      | inl met ↦ absurd (let y = against os r ws w (Some b) are listed writes reads c t lo hi met in none y.0 y.1)
    ] in
    tells_from (at os) w.owner w.kind w.first w.last (Some (held_by b.owner x))
    (lift (at (o ∷ [])) (at os) w.owner w.kind w.first w.last (held_by b.owner x) (max x.first w.first) told (λ c. sym (own o c))
    (λ c t lo hi. none_else c t lo (omega arith) (λ y against. earlier c t y against lo hi))
    (λ t lt. none_else (max x.first w.first) t (omega arith) (omega arith) (λ y against. lower t y against lt)))
  where
    earlier : (c t : ℕ) (y : Interval) → IsAgainst os w (Some b) c t y → w.first ≤ c → c < max x.first w.first → ⊥
    earlier c t y a lo hi = let in_y = a.within in elim (a.yields a.stands) [ inl lt ↦ omega arith | inr eq ↦ (let same = eq.0 in omega arith) ]

    lower : (t : ℕ) (y : Interval) → IsAgainst os w (Some b) (max x.first w.first) t y → t < b.owner → ⊥
    lower t y a lt = let in_y = a.within in elim (a.yields a.stands) [ inl more ↦ omega arith | inr eq ↦ (let same = eq.0 in let num = eq.1 in omega arith) ]

pub some_is_told : (os : LockedBytes) (r ws : List Held) (w : Wish) (b told : Held) (v : Bool) → w.first ≤ w.last → AreCanonical os → AreListed os r ws →
    ((h : Held) → Has ws h → Yields w (Some b) h) → (w.kind ≡ Write → (h : Held) → Has r h → Yields w (Some b) h) →
    Some told ≡ option_map (held_by b.owner) (find (hits w.kind w.first w.last) (bytes_of os b.owner)) →
    v ≡ (not (eqb b.owner w.owner) && leb (max told.first w.first) (max b.first w.first)) → v ≡ true →
    Tells (at os) w.owner w.kind w.first w.last (Some told)
some_is_told os r ws w b told v le are listed writes reads e is so = by (find (hits w.kind w.first w.last) (bytes_of os b.owner)) refl e
  where
    by : (o : Option Interval) → o ≡ find (hits w.kind w.first w.last) (bytes_of os b.owner) → Some told ≡ option_map (held_by b.owner) o →
        Tells (at os) w.owner w.kind w.first w.last (Some told)
    by None found_is e = absurd cc
    by (Some x) found_is e =
        let same : told ≡ held_by b.owner x = cc in
        let parts = and_parts (not (eqb b.owner w.owner)) (leb (max told.first w.first) (max b.first w.first)) (sym is ∙ so) in
        let other : b.owner ≢ w.owner = λ eq. (let bad : false ≡ true = sym (ap not (eq-eqb b.owner w.owner eq)) ∙ parts.0 in cc) in
        let least = leb-true (max told.first w.first) (max b.first w.first) parts.1 in
        let first : told.first ≡ x.first = ap (λ (h : Held). h.first) same in
        subst (λ t. Tells (at os) w.owner w.kind w.first w.last (Some t)) (sym same)
        (some_told os r ws w b x le are listed writes reads other found_is (omega arith))

-- what a call leaves of the bytes of each lock state
moved_put : (s first last : ℕ) (xs : List Interval) (os : LockedBytes) → AreCanonical os →
    ((b : ℕ) → (b < first) ⊎ (last < b) → kind_at xs b ≡ kind_at (bytes_of os s) b) → AreMoved first last s os (with_owner s xs os)
moved_put s first last xs os are beside = record {
  others = λ t other. bytes-with_owner 0 s xs os t are.from ∙ rw (ne_eqb s t (λ e. other (sym e))) refl;
  beside = λ b out. ap (λ ys. kind_at ys b) (bytes-with_owner 0 s xs os s are.from ∙ rw (eq-eqb s s refl) refl) ∙ beside b out;
}

outside : (first last b : ℕ) → (b < first) ⊎ (last < b) → is_within first last b ≡ false
outside first last b (inl below) = within_below first last b below
outside first last b (inr above) = within_above first last b above

moved_set : (s : ℕ) (m : Interval) (os : LockedBytes) → m.first ≤ m.last → m.last < 2 ^ 64 → AreCanonical os
    → AreMoved m.first m.last s os (with_owner s (with_range m (bytes_of os s)) os)
moved_set s m os le small are = moved_put s m.first m.last (with_range m (bytes_of os s)) os are (λ b out.
    at-with_range m (bytes_of os s) b le small (bytes-canonical 0 os s are.from) ∙ rw (outside m.first m.last b out) refl)

moved_clear : (s first last : ℕ) (os : LockedBytes) → first ≤ last → last < 2 ^ 64 → AreCanonical os
    → AreMoved first last s os (with_owner s (without first last (bytes_of os s)) os)
moved_clear s first last os le small are = moved_put s first last (without first last (bytes_of os s)) os are (λ b out.
    at-without first last (bytes_of os s) b le small (bytes-canonical 0 os s are.from) ∙ rw (outside first last b out) refl)

moved_by : {E : Type 0} (r : Result (Unit {0}) E) (s first last : ℕ) (xs : List Interval) (old new : List LockedBytes) → OnOk r (IsPut s xs old new) →
    OnErr r (AreSame old new) → AreMoved first last s (flat old) (with_owner s xs (flat old)) → AreMoved first last s (flat old) (flat new)
moved_by (Ok u) s first last xs old new ok err moved = subst (AreMoved first last s (flat old)) (sym ok.put) moved
moved_by (Err e) s first last xs old new ok err moved = record {
  others = λ t other. ap (λ os. bytes_of os t) err.same;
  beside = λ b out. ap (λ os. kind_at (bytes_of os s) b) err.same;
}

-- all is listed still, if it was, and if nothing lacked memory
listed_by : {E : Type 0} (was : Bool) (did : Result (Unit {0}) E) (first last : ℕ) (p : Part) (old new : LockedBytes) (r w r' w' : List Held) → first ≤ last →
    last < 2 ^ 64 → p.first ≡ first - 1 → p.last ≡ min (last + 1) (2 ^ 64 - 1) → AreCanonical old → AreCanonical new → AreMoved first last p.owner old new →
    OnTrue was (AreListed old r w) → ((h : Held) → IsApart p h → Has r h → Has r' h) → ((h : Held) → IsApart p h → Has w h → Has w' h) →
    OnOk did (HasPart new p r' w') → OnTrue (was && is_ok did) (AreListed new r' w')
listed_by true (Ok u) first last p old new r w r' w' le small pf pl are_old are_new moved listed reads writes part =
    listed_after first last p old new r w r' w' le small pf pl are_old are_new moved listed reads writes part
listed_by true (Err e) first last p old new r w r' w' le small pf pl are_old are_new moved listed reads writes part = tt
listed_by false did first last p old new r w r' w' le small pf pl are_old are_new moved listed reads writes part = tt

pub listed_set : {E F : Type 0} (made : Result (Unit {0}) E) (was : Bool) (did : Result (Unit {0}) F) (m : Interval) (p : Part) (s : ℕ) (old new : List LockedBytes)
    (r w r' w' : List Held) → m.first ≤ m.last → m.last < 2 ^ 64 → p.owner ≡ s → p.first ≡ m.first - 1 → p.last ≡ min (m.last + 1) (2 ^ 64 - 1) → AreKept old →
    OnOk made (IsPut s (with_range m (bytes_of (flat old) s)) old new) → OnErr made (AreSame old new) → OnTrue was (AreListed (flat old) r w) →
    ((h : Held) → IsApart p h → Has r h → Has r' h) → ((h : Held) → IsApart p h → Has w h → Has w' h) → OnOk did (HasPart (flat new) p r' w') →
    OnTrue (was && is_ok did) (AreListed (flat new) r' w')
listed_set made was did m p s old new r w r' w' le small po pf pl are ok err listed reads writes part =
    let xs = with_range m (bytes_of (flat old) s) in
    let kept = still_kept made s xs old new ok err (with_range-canonical m (bytes_of (flat old) s) le small (bytes-canonical 0 (flat old) s are.canonical.from)) are in
    listed_by was did m.first m.last p (flat old) (flat new) r w r' w' le small pf pl are.canonical kept.canonical
    (subst (λ t. AreMoved m.first m.last t (flat old) (flat new)) (sym po)
    (moved_by made s m.first m.last xs old new ok err (moved_set s m (flat old) le small are.canonical))) listed reads writes part

pub listed_clear : {E F : Type 0} (made : Result (Unit {0}) E) (was : Bool) (did : Result (Unit {0}) F) (first last : ℕ) (p : Part) (s : ℕ)
    (old new : List LockedBytes) (r w r' w' : List Held) → first ≤ last → last < 2 ^ 64 → p.owner ≡ s → p.first ≡ first - 1 →
    p.last ≡ min (last + 1) (2 ^ 64 - 1) → AreKept old → OnOk made (IsPut s (without first last (bytes_of (flat old) s)) old new) → OnErr made (AreSame old new) →
    OnTrue was (AreListed (flat old) r w) → ((h : Held) → IsApart p h → Has r h → Has r' h) → ((h : Held) → IsApart p h → Has w h → Has w' h) →
    OnOk did (HasPart (flat new) p r' w') → OnTrue (was && is_ok did) (AreListed (flat new) r' w')
listed_clear made was did first last p s old new r w r' w' le small po pf pl are ok err listed reads writes part =
    let xs = without first last (bytes_of (flat old) s) in
    let kept = still_kept made s xs old new ok err (without-canonical first last (bytes_of (flat old) s) le small (bytes-canonical 0 (flat old) s are.canonical.from)) are in
    listed_by was did first last p (flat old) (flat new) r w r' w' le small pf pl are.canonical kept.canonical
    (subst (λ t. AreMoved first last t (flat old) (flat new)) (sym po)
    (moved_by made s first last xs old new ok err (moved_clear s first last (flat old) le small are.canonical))) listed reads writes part

pub listed_drop : (was : Bool) (p : Part) (s : ℕ) (old new : List LockedBytes) (r w r' w' : List Held) → p.owner ≡ s → AreKept old → IsPut s [] old new →
    OnTrue was (AreListed (flat old) r w) → ((h : Held) → IsApart p h → Has r h → Has r' h) → ((h : Held) → IsApart p h → Has w h → Has w' h) →
    OnTrue was (AreListed (flat new) r' w')
listed_drop false p s old new r w r' w' po are put listed reads writes = tt
listed_drop true p s old new r w r' w' po are put listed reads writes =
    listed_without s p (flat old) (flat new) r w r' w' po
    (ap (λ os. bytes_of os s) put.put ∙ bytes-with_owner 0 s [] (flat old) s are.canonical.from ∙ rw (eq-eqb s s refl) refl)
    (λ t other. ap (λ os. bytes_of os t) put.put ∙ bytes-with_owner 0 s [] (flat old) t are.canonical.from ∙ rw (ne_eqb s t (λ e. other (sym e))) refl)
    listed reads writes
