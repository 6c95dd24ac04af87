-- An owner has at most one open of a file.
use Rattle.std.proofs.Common.{◌≡◌, ◌≢◌, ℕ, Bool, true, List, [], ◌∷◌, ◌++◌, None, map, refl, sym, ◌∙◌, ap, subst, inl, inr}
use Rattle.std.proofs.lemmas.Bool.{cases_Bool, eq-eqb, false≢true}
use Rattle.std.specs.Prelude.{◌==◌, find, filter, if◌then◌else◌}
use Rattle.nfs_xdr.specs.Tables.{In}
use Rattle.nfs_xdr.proofs.Lists.{in_filter, in_map, in_push, none_in}
use Rattle.nfs_opens.specs.{declared.records.OpenState.OpenState, Table.{Asked, is_own}, TableInvariants.{HasOneEach, whose}}
use Rattle.nfs_opens.proofs.ShareLemmas.{are_owners}

pub each_none : HasOneEach []
each_none a b in_a in_b equal = absurd in_a

pub each_changed : (f : OpenState → OpenState) (n : ℕ) (xs ys : List OpenState) → ys ≡ map (λ o. if o.number == n then f o else o) xs
    → ((o : OpenState) → whose (f o) ≡ whose o) → HasOneEach xs → HasOneEach ys
each_changed f n xs ys made same one =
    let change : OpenState → OpenState = λ o. if o.number == n then f o else o in
    let stays : (o : OpenState) → whose (change o) ≡ whose o =
    λ o. elim (cases_Bool (o.number == n)) [ inl here ↦ rw here (same o) | inr other ↦ rw other refl ] in
    subst HasOneEach (sym made) (λ a b in_a in_b equal.
    let (x, in_x, is_x) = in_map change xs a in_a in
    let (y, in_y, is_y) = in_map change xs b in_b in
    is_x ∙ (ap change (one x y in_x in_y (sym (stays x) ∙ (ap whose (sym is_x) ∙ (equal ∙ (ap whose is_y ∙ stays y))))) ∙ sym is_y))

pub each_left : (keep : OpenState → Bool) (xs ys : List OpenState) → ys ≡ filter keep xs → HasOneEach xs → HasOneEach ys
each_left keep xs ys made one = subst HasOneEach (sym made) (λ a b in_a in_b. one a b (in_filter keep xs a in_a).0 (in_filter keep xs b in_b).0)

pub each_pushed : (xs ys : List OpenState) (x : OpenState) → ys ≡ xs ++ x ∷ [] → ((o : OpenState) → In o xs → whose o ≢ whose x)
    → HasOneEach xs → HasOneEach ys
each_pushed xs ys x made apart one =
    subst HasOneEach (sym made) (λ a b in_a in_b equal. elim (in_push xs x a in_a) [
      | inl new_a ↦ elim (in_push xs x b in_b) [
        | inl new_b ↦ new_a ∙ sym new_b
        | inr old_b ↦ absurd (apart b old_b (sym equal ∙ ap whose new_a))
      ]
      | inr old_a ↦ elim (in_push xs x b in_b) [
        | inl new_b ↦ absurd (apart a old_a (equal ∙ ap whose new_b))
        | inr old_b ↦ one a b old_a old_b equal
      ]
    ])

-- an owner that has no open of the file
pub none_owned : (a : Asked) (xs : List OpenState) (w : ℕ × ℕ × List ℕ) → w ≡ (a.file, a.client, a.owner) → find (is_own a) xs ≡ None
    → (o : OpenState) → In o xs → whose o ≢ w
none_owned a xs w mine none o there equal =
    let all : whose o ≡ (a.file, a.client, a.owner) = equal ∙ mine in
    let file : o.file ≡ a.file = ap (λ (w : ℕ × ℕ × List ℕ). w.0) all in
    let client : o.client ≡ a.client = ap (λ (w : ℕ × ℕ × List ℕ). w.1) all in
    let owner : o.owner ≡ a.owner = ap (λ (w : ℕ × ℕ × List ℕ). w.2) all in
    let own : is_own a o ≡ true = rw (eq-eqb o.file a.file file) (are_owners a o client owner) in
    false≢true (sym (none_in (is_own a) xs o none there) ∙ own)

pub whose_is : (a b : OpenState) → a.file ≡ b.file → a.client ≡ b.client → a.owner ≡ b.owner → whose a ≡ whose b
whose_is a b file client owner =
    let F : ℕ → ℕ × ℕ × List ℕ = λ n. (n, a.client, a.owner) in
    let C : ℕ → ℕ × ℕ × List ℕ = λ n. (b.file, n, a.owner) in
    let O : List ℕ → ℕ × ℕ × List ℕ = λ xs. (b.file, b.client, xs) in
    ap F file ∙ (ap C client ∙ ap O owner)
