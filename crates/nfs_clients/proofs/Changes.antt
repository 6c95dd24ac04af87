-- What a change makes of a whole table, in the value that was opened.
use Rattle.std.proofs.Common.{◌≡◌, ℕ, false, Some, None, refl, sym, ◌∙◌, ap, subst, inl, inr}
use Rattle.std.proofs.{lemmas.Bool.{cases_Bool, eqb-true, and_parts, false≢true}, lemmas.Slice.Eq.bytes_eq-Decides}
use Rattle.std.specs.Prelude.{◌==◌, find}
use Rattle.nfs_xdr.specs.Tables.{In}
use Rattle.nfs_xdr.proofs.{Lists.{find_in, find_none}, Tables.{in_once, with_none, without_none}}
use Rattle.nfs_clients.specs.Roster.{ClientRecord, Roster, IsRoster, first_id, next_id, client_at, is_confirmed_of, with_changed, without}
use Rattle.nfs_clients.specs.CreateSession.{leaving}
use Rattle.nfs_clients.proofs.{Members.{the_id, in_left, only_one_left, roster_without_any}, Terms.{without_any}}

-- no record is there to be changed, or to be removed
pub unchanged : (f : ClientRecord → ClientRecord) (t : Roster) (n : ℕ) → client_at t n ≡ None → t ≡ with_changed t n f
unchanged f t n none = sym (ap (λ xs. record t { records = xs }) (with_none the_id f n t.records none))

pub unremoved : (t : Roster) (n : ℕ) → client_at t n ≡ None → t ≡ without t n
unremoved t n none = sym (ap (λ xs. record t { records = xs }) (without_none the_id n t.records none))

-- where the owner's other confirmed record has left, it has none
pub none_other : (u v : Roster) (n : ℕ) (c : ClientRecord) → IsRoster u → v ≡ without_any u (leaving u n) → client_at v n ≡ Some c → c.confirmed ≡ false
    → find (is_confirmed_of c.owner) v.records ≡ None
none_other u v n c is left at mark =
    let rest : Roster = without_any u (leaving u n) in
    let here : client_at rest n ≡ Some c = ap (λ (t : Roster). client_at t n) (sym left) ∙ at in
    ap (λ (t : Roster). find (is_confirmed_of c.owner) t.records) left ∙ none rest refl here
  where
    none : (rest : Roster) → rest ≡ without_any u (leaving u n) → client_at rest n ≡ Some c → find (is_confirmed_of c.owner) rest.records ≡ None
    none rest e here =
        let isr : IsRoster rest = subst IsRoster (sym e) (roster_without_any u (leaving u n) is) in
        let there = find_in (λ (x : ClientRecord). x.id == n) rest.records c here in
        let own : c.id ≡ n = eqb-true c.id n there.1 in
        let within = λ (x : ClientRecord) (a : In x rest.records). subst (λ (t : Roster). In x t.records) e a in
        find_none (is_confirmed_of c.owner) rest.records (λ y a. elim (cases_Bool (is_confirmed_of c.owner y)) [
          | inl holds ↦ (let parts = and_parts _ _ holds in
              let same : y.id ≡ n = only_one_left u n is c y (in_left u (leaving u n) c (within c there.0)) (within y a) own ((bytes_eq-Decides y.owner c.owner).0 parts.0) parts.1 in
              let is_c : y ≡ c = in_once the_id (first_id rest) (next_id rest) rest.records y c isr.rising a there.0 (same ∙ sym own) in
              absurd (false≢true (sym mark ∙ ap (λ (x : ClientRecord). x.confirmed) (sym is_c) ∙ parts.1)))
          | inr fails ↦ fails
        ])
