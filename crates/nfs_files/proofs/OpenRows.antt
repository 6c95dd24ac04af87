-- What an OPEN does to the rows of the tree: it leaves them, or puts one more under the name that it claims.
use Rattle.std.proofs.Common.{◌≡◌, ℕ, ◌+◌, Bool, true, false, cond, List, [], ◌∷◌, ◌++◌, Option, Some, None, refl, sym, ◌∙◌, ap}
use Rattle.std.specs.Prelude.{Ok, Err}
use Rattle.nfs_xdr.specs.{declared.time.Time.Time, declared.status.Status.TheVariants.Inval}
use Rattle.nfs_compound.specs.{declared.open_args.Open.Open, declared.open_args.OpenClaim.OpenClaim}
use Rattle.nfs_compound.specs.declared.open_args.OpenClaim.TheVariants.{Null, Previous, DelegateCur, DelegatePrev, Fh, DelegCurFh, DelegPrevFh}
use Rattle.nfs_tree.specs.{declared.row.Row.Row, Files.object_named}
use Rattle.nfs_names.specs.{declared.context.Context.Context, declared.node.Node.Node, declared.making.Making.Making, State.State, Checks.{node_at, current}}
use Rattle.nfs_names.specs.{Create.attributes_in, Outcome.checked}
use Rattle.nfs_names.proofs.Found.{came, ok_is, checked_ok}
use Rattle.nfs_files.specs.{declared.opening.Found.Found, declared.opening.Found.TheVariants.{There, Absent}}
use Rattle.nfs_files.specs.OpenParts as open_parts
use Rattle.nfs_files.specs.Open as of_open
use Rattle.nfs_files.proofs.{Passing.mapped_came, WrittenOps.current_number}

pub data OpensRows (s : State) (x : Context) (o : Open) (rows : List Row) : Type 0 where
  Kept : rows ≡ s.tree.rows → OpensRows s x o rows
  Put : (r : Row) → rows ≡ s.tree.rows ++ r ∷ [] → o.claim ≡ Null r.name → x.current ≡ Some r.directory → OpensRows s x o rows

record IsAbsent (x : Context) (o : Open) (m : Making) : Type 0 where
  pub name : List ℕ
  pub claim : o.claim ≡ Null name
  pub at : x.current ≡ Some m.place.number

made_absent : (s : State) (x : Context) (o : Open) (m k : Making) (n : Option ℕ) → open_parts.found_by s x o m n ≡ Ok (Absent k) → m ≡ k
made_absent s x o m k None e =
    let c = mapped_came Absent (checked (Ok m) (open_parts.absent_checks x o)) (Absent k) e in
    let same : c.found ≡ k = cc in
    ok_is refl (checked_ok (Ok m) (open_parts.absent_checks x o) c.found c.is).0 ∙ same
made_absent s x o m k (Some n) e =
    let c = mapped_came (λ f. There m.place.number f (of_open.cuts o m.wanted)) (checked (node_at s (Some n)) (of_open.there_checks s.tree x o)) (Absent k) e in
    let bad : There m.place.number c.found (of_open.cuts o m.wanted) ≡ Absent k = c.same in
    absurd cc

named_absent : (s : State) (x : Context) (o : Open) (name : List ℕ) (d : Node) (m : Making) → current s x ≡ Ok d → o.claim ≡ Null name
    → open_parts.by_name s x o name d ≡ Ok (Absent m) → IsAbsent x o m
named_absent s x o name d m at is e =
    let p = came (checked (Ok d) (open_parts.place_checks x name)) _ (Absent m) e in
    let w = came (attributes_in (of_open.makes o.openhow).attributes) _ (Absent m) p.then in
    let same : d ≡ p.found = ok_is refl (checked_ok (Ok d) (open_parts.place_checks x name) p.found p.is).0 in
    let made = made_absent s x o (record { place = p.found; wanted = w.found }) m (object_named s.tree p.found.number name) w.then in
    record {
      name = name;
      claim = is;
      at = current_number s x d at ∙ (ap (λ (d : Node). Some d.number) same ∙ ap (λ (m : Making). Some m.place.number) made);
    }

handle_absent : (s : State) (x : Context) (o : Open) (b : Bool) (d : Node) (m : Making) → cond b (Err Inval) (open_parts.by_handle s.tree x o d) ≡ Ok (Absent m) → ⊥
handle_absent s x o true d m e = absurd cc
handle_absent s x o false d m e =
    let c = mapped_came (λ f. There f.number f false) (checked (Ok d) (of_open.there_checks s.tree x o)) (Absent m) e in
    let bad : There c.found.number c.found false ≡ Absent m = c.same in
    absurd cc

claimed_absent : (s : State) (x : Context) (o : Open) (claim : OpenClaim) (d : Node) (m : Making) → current s x ≡ Ok d → o.claim ≡ claim
    → open_parts.by_claim s x o claim d ≡ Ok (Absent m) → IsAbsent x o m
claimed_absent s x o (Null name) d m at is e = named_absent s x o name d m at is e
claimed_absent s x o Fh d m at is e = absurd (handle_absent s x o (of_open.makes o.openhow).creates d m e)
claimed_absent s x o (Previous type) d m at is e = absurd cc
claimed_absent s x o (DelegateCur id file) d m at is e = absurd cc
claimed_absent s x o (DelegatePrev file) d m at is e = absurd cc
claimed_absent s x o (DelegCurFh id) d m at is e = absurd cc
claimed_absent s x o DelegPrevFh d m at is e = absurd cc

asked_absent : (s : State) (x : Context) (o : Open) (m : Making) → open_parts.asked_for s x o ≡ Ok (Absent m) → IsAbsent x o m
unfolding open_parts.asked_for
asked_absent s x o m e =
    let c = came (checked (current s x) (open_parts.argument_checks o)) (open_parts.by_claim s x o o.claim) (Absent m) e in
    claimed_absent s x o o.claim c.found m (checked_ok (current s x) (open_parts.argument_checks o) c.found c.is).0 refl c.then

pub opened_rows : (s : State) (x : Context) (now : Time) (o : Open) (f : Found) → open_parts.asked_for s x o ≡ Ok f
    → OpensRows s x o (of_open.tree_of s.tree x now o f).rows
opened_rows s x now o (There place f true) e = Kept refl
opened_rows s x now o (There place f false) e = Kept refl
opened_rows s x now o (Absent m) e =
    let is = asked_absent s x o m e in
    Put (record { directory = m.place.number; name = of_open.name_of o.claim; object = s.tree.last_object + 1; cookie = s.tree.last_cookie + 1 }) refl
    (is.claim ∙ ap (λ name. Null name) (ap of_open.name_of (sym is.claim))) is.at
