-- READDIR tells the lease in its place with each entry, whatever else is asked for.
use Rattle.std.proofs.Common.{◌≡◌, ℕ, Bool, true, false, cond, List, [], ◌∷◌, Option, Some, None, take, drop, refl, sym, ◌∙◌, subst, inl, inr}
use Rattle.std.proofs.lemmas.Bool.{false≢true}
use Rattle.std.specs.Prelude.{is_some}
use Rattle.nfs_xdr.specs.{Spelling.number, Tables.In}
use Rattle.nfs_xdr.proofs.Lists.{in_map}
use Rattle.nfs_compound.specs.{declared.name_args.ReadDir.ReadDir, declared.op.Item.TheVariants.Operation}
use Rattle.nfs_compound.specs.declared.op.Op.TheVariants as Op
use Rattle.nfs_results.specs.{declared.res.Entry.Entry, Largest.given, Results.{spell_result, status_of_result}}
use Rattle.nfs_tree.specs.{declared.object.Object.Object, Files.{Listed, listing, object_at}}
use Rattle.nfs_attrs.specs.{declared.mask.Mask.Mask, Mask.{mask_of, has}, Attributes.attributes}
use Rattle.nfs_names.specs.{declared.node.Node.Node, Attributes.about, Outcome.is_ok, ReadDir.{attributes_at, entry_of, left, longest, fitting, listed}}
use Rattle.nfs_names.specs.State.{State}
use Rattle.nfs_names.specs.Outcome as of_store
use Rattle.nfs_names.proofs.{Entering.listed_there, NameLaws.by_read_dir, Terms.fits}
use Rattle.nfs_promises.specs.Runs.AttributesTold.{HasValue, EntriesTell}
use Rattle.nfs_exec.specs.{Runs.Ops.RanOp}
use Rattle.nfs_exec.proofs.{Runs.OneRun.{IsRun, by_ok}}
use Rattle.nfs_promises.proofs.Runs.AttributesTold.{lease_long, lease_cut, values_in}

lease_at : (s : State) (asked : Mask) (n : ℕ) (o : Option Object) → has asked 10 ≡ true → is_some o ≡ true → HasValue s.tree.profile 10 (number s.lease) asked (attributes_at s asked n o)
lease_at s asked n None is there = absurd (false≢true there)
lease_at s asked n (Some o) is there = (let a = about s (record { number = n; object = o }) in
    record {
      front = values_in (take 10 attributes) asked a o;
      behind = values_in (drop 11 attributes) asked a o;
      long = lease_long asked a o;
      mask = refl;
      values = lease_cut asked a o is;
    })

lease_of : (s : State) (asked : Mask) (e : Listed) → has asked 10 ≡ true → is_some (object_at s.tree e.number) ≡ true
    → HasValue s.tree.profile 10 (number s.lease) asked (entry_of s asked e).attrs
unfolding entry_of
lease_of s asked e is there = lease_at s asked e.number (object_at s.tree e.number) is there

in_front : (b : Bool) (x : Entry) (xs rest : List Entry) (e : Entry) → (In e rest → In e xs) → In e (cond b (x ∷ rest) []) → In e (x ∷ xs)
in_front true x xs rest e on there = elim there [ inl here ↦ inl here | inr later ↦ inr (on later) ]
in_front false x xs rest e on there = absurd there

-- what fits is of what is left
in_longest : (test : List Entry → Bool) (xs : List Entry) (e : Entry) → In e (longest test xs) → In e xs
in_longest test [] e there = there
in_longest test (x ∷ xs) e there = in_front (test (x ∷ [])) x xs (longest (λ more. test (x ∷ more)) xs) e (in_longest (λ more. test (x ∷ more)) xs e) there

in_fitting : (s : State) (a : ReadDir) (d : Node) (e : Entry) → In e (fitting s a d) → In e (left s a d)
unfolding fitting
in_fitting s a d e there = in_longest (fits (given a.maxcount)) (left s a d) e there

pub lease_listed : (d : RanOp) → IsRun d → (a : ReadDir) → d.item ≡ Operation (Op.ReadDir a) → has (mask_of a.attr_request) 10 ≡ true → is_ok d.status ≡ true
    → EntriesTell d.before.store.tree.profile 10 (number d.before.store.lease) (mask_of a.attr_request) d.result
lease_listed d r a item is ok =
    let s = d.before.store in
    let P : List ℕ → Type 0 = EntriesTell d.before.store.tree.profile 10 (number s.lease) (mask_of a.attr_request) in
    by_ok (λ text u. P text) d r (Operation (Op.ReadDir a)) item ok
    (by_read_dir (λ o. of_store.is_ok (status_of_result o.result) ≡ true → P (spell_result o.result)) s d.context a
    (λ f h ok. absurd (false≢true (sym h.done ∙ ok)))
    (λ k there plain some ok. record {
      listed = listed s a k;
      answers = refl;
      verifier = refl;
      each = λ e fits.
          (let from = in_map (entry_of s (mask_of a.attr_request)) (listing s.tree.rows k.number a.cookie) e (in_fitting s a k e fits) in
          subst (λ (e : Entry). HasValue s.tree.profile 10 (number s.lease) (mask_of a.attr_request) e.attrs) (sym from.2)
          (lease_of s (mask_of a.attr_request) from.0 is (listed_there s.tree k.number a.cookie r.whole.tree from.0 from.1)));
    }))
