use Rattle.std.proofs.Common.{◌≡◌, ℕ, ◌≤◌, true, Option, Some, None, Bor, sym, ◌∙◌, ap}
use Rattle.std.specs.Prelude.{option_map}
use Rattle.nfs_xdr.specs.Tables.{record_at}
use Rattle.nfs_xdr.proofs.Tables.{at_of_in}
use Rattle.nfs_tree.specs.{declared.row.Naming.Naming, declared.row.Row.Row, Indexed.placed, Maps.has_pair}
use Rattle.nfs_tree.proofs.{PairLemmas.{pair_row, is_there, there_is, not_there}, MapLemmas.{cookie, find_first, find_nowhere}}
use Rattle.nfs_tree.proofs.rows.Rows.first_of.Goals as goal

-- the directory of what is found so
directory_of : (n : ℕ) (o : Option (ℕ × Bor Naming)) (r : Row) → option_map (λ (e : ℕ × Bor Naming). placed n e.1.now) o ≡ Some r
    → option_map (λ (e : ℕ × Bor Naming). e.1.now.directory) o ≡ Some r.directory
directory_of n None r e = absurd cc
directory_of n (Some x) r e = let is : placed n x.1.now ≡ r = cc in ap (λ (r : Row). Some r.directory) is

pub returns-in-None : goal.returns-in-None
returns-in-None c = rw (← c.self.view_is) (sym (ap (option_map (λ (r : Row). r.directory)) (find_nowhere (λ (r : Row). r.object) _ _ c.args.object c.self.invariant.owned
    (λ k low. not_there _ (c.in-None.ensures.none k low)))))

pub returns-in-Some : goal.returns-in-Some
returns-in-Some c =
    let rows = c.self.inside.tables.rows in
    let r = pair_row (λ (r : Row). r.object) rows _ c.args.object c.in-Some.first c.self.invariant.owned (is_there _ c.in-Some.ensures.there) in
    let found = at_of_in cookie 3 c.self.invariant.named.high rows r.0 c.self.invariant.named.rising r.1 in
    let at : c.in-Some.first ≡ r.0.cookie = sym r.3 in
    let least : (k : ℕ) → 0 ≤ k → has_pair c.self.inside.tables.owned.entries (c.args.object, k) ≡ true → r.0.cookie ≤ k =
    λ k up there. rw (← at) (c.in-Some.ensures.least k up (there_is _ there)) in
    let first = find_first (λ (r : Row). r.object) rows _ _ c.args.object r.0 c.self.invariant.named c.self.invariant.owned r.1 r.2 least in
    rw (← c.self.view_is) (directory_of c.in-Some.first c.row_at.result r.0 (c.row_at.ensures ∙ ap (record_at cookie rows) (sym r.3) ∙ found)
    ∙ sym (ap (option_map (λ (r : Row). r.directory)) first))
