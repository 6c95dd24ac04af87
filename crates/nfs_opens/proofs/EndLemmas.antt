-- The end of a client, one open after the other (RFC 8881 section 8.3).
use Rattle.std.proofs.Common.{◌≡◌, ℕ, suc, ◌<◌, Bool, true, false, cond, not, List, length, Option, Some, None, refl, sym, ◌∙◌, ap, arith, inl, inr}
use Rattle.std.proofs.{Math.Path.fun_ext, lemmas.Bool.{eq-eqb, ne_eqb, false≢true}}
use Rattle.std.specs.Prelude.{◌==◌, find, filter}
use Rattle.nfs_xdr.specs.Tables.{In}
use Rattle.nfs_xdr.proofs.{Lists.{find_in, none_in, any_in, any_left, filter_all, filter_past, length_fewer}, Tables.in_once}
use Rattle.nfs_ranges.specs.declared.Kind.{Kind}
use Rattle.nfs_opens.specs.{declared.records.OpenState.OpenState, declared.records.LockState.LockState, Table.Table, TableInvariants.IsTable}
use Rattle.nfs_opens.specs.{Closing.{held_within, without_open}, Calls.without_client}
use Rattle.nfs_opens.proofs.LockLemmas.{same_table, some_or_none}
use Rattle.nfs_opens.proofs.Terms.{not_under, stands}

abbrev number_of : OpenState → ℕ
number_of o = o.number

abbrev own : ℕ → OpenState → Bool
own client o = o.client == client

abbrev other : ℕ → OpenState → Bool
other client o = not (o.client == client)

abbrev others_lock : ℕ → LockState → Bool
others_lock client l = not (l.client == client)

-- what is held twice within is held within the fewer
twice : (few more : Bool) (o : Option Kind) → (few ≡ true → more ≡ true) → cond few (cond more o None) None ≡ cond few o None
twice true more o also = ap (λ (v : Bool). cond v o None) (also refl)
twice false more o also = refl

within_none : (v : Bool) (o : Option Kind) → o ≡ None → cond v o None ≡ None
within_none true o e = e
within_none false o e = refl

-- a client without an open has no lock state, and holds no byte
pub ended_none : (t : Table) (client : ℕ) → IsTable t → find (own client) t.opens ≡ None → t ≡ without_client t client
ended_none t client is none = same_table t.opens _ t.locks _ t.held _ t.last t.instance (sym opens) (sym locks) (sym held)
  where
    opens : filter (other client) t.opens ≡ t.opens
    opens = filter_all (other client) t.opens (λ o there. ap not (none_in (own client) t.opens o none there))

    locks : filter (others_lock client) t.locks ≡ t.locks
    locks = filter_all (others_lock client) t.locks (λ l there.
        let (o, under) = is.under l there in
        ap (λ (k : ℕ). not (k == client)) (sym under.client) ∙ ap not (none_in (own client) t.opens o none under.stands))

    held : held_within (filter (others_lock client) t.locks) t.held ≡ t.held
    held = ap (λ (ls : List LockState). held_within ls t.held) locks ∙ fun_ext (λ f. fun_ext (λ s. fun_ext (λ b. elim (some_or_none (t.held f s b)) [
      | inr nobody ↦ within_none (stands t.locks s) (t.held f s b) nobody ∙ sym nobody
      | inl some ↦ (let (l, holder) = is.holders f s b some in
          ap (λ (v : Bool). cond v (t.held f s b) None) (any_in (λ (l : LockState). l.number == s) t.locks l holder.stands (eq-eqb l.number s holder.number)))
    ])))

-- an open of the client goes before the rest
pub ended_step : (t : Table) (client : ℕ) (o : OpenState) → IsTable t → find (own client) t.opens ≡ Some o
    → without_client (without_open t o.number) client ≡ without_client t client
ended_step t client o is found = same_table _ _ _ _ _ _ t.last t.instance opens locks held
  where
    here : In o t.opens × ((o.client == client) ≡ true)
    here = find_in (own client) t.opens o found

    apart : (x : OpenState) → In x t.opens → x.number ≡ o.number → (x.client == client) ≡ true
    apart x there same =
        let one : x ≡ o = in_once number_of 1 (suc t.last) t.opens x o is.opens there here.0 same in ap (own client) one ∙ here.1

    opens : filter (other client) (filter (λ x. not (x.number == o.number)) t.opens) ≡ filter (other client) t.opens
    opens = filter_past (other client) (λ x. not (x.number == o.number)) t.opens (λ x there stays. ap not (ne_eqb x.number o.number
        (λ same. absurd (false≢true (sym (ap not (apart x there same)) ∙ stays)))))

    locks : filter (others_lock client) (filter (not_under o.number) t.locks) ≡ filter (others_lock client) t.locks
    locks = filter_past (others_lock client) (not_under o.number) t.locks (λ l there stays. ap not (ne_eqb l.opened o.number
        (λ same. (let (x, under) = is.under l there in
        absurd (false≢true (sym (ap (λ (k : ℕ). not (k == client)) (sym under.client) ∙ ap not (apart x under.stands (under.number ∙ same))) ∙ stays))))))

    held : held_within (filter (others_lock client) (filter (not_under o.number) t.locks)) (held_within (filter (not_under o.number) t.locks) t.held)
        ≡ held_within (filter (others_lock client) t.locks) t.held
    held = fun_ext (λ f. fun_ext (λ s. fun_ext (λ b.
        twice (stands (filter (others_lock client) (filter (not_under o.number) t.locks)) s) (stands (filter (not_under o.number) t.locks) s) (t.held f s b)
        (any_left (λ (l : LockState). l.number == s) (others_lock client) (filter (not_under o.number) t.locks))
        ∙ ap (λ (ls : List LockState). cond (stands ls s) (t.held f s b) None) locks)))

-- .. and fewer are left
pub fewer_opens : (t u : Table) (client : ℕ) (o : OpenState) → find (own client) t.opens ≡ Some o → u ≡ without_open t o.number → length u.opens < length t.opens
fewer_opens t u client o found made =
    let less = length_fewer (λ (x : OpenState). not (x.number == o.number)) t.opens o (find_in (own client) t.opens o found).0 (ap not (eq-eqb o.number o.number refl)) in
    let same = ap (λ (v : Table). length v.opens) made in omega arith
