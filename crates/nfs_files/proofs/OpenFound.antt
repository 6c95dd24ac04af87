-- OPEN: what was found, for proofs that look at its last checks.
use Rattle.std.proofs.Common.{◌≡◌, ℕ, Bool, true, false, not, List, ◌∷◌, ◌++◌, Option, Some, None, refl, ◌∙◌, ap, subst}
use Rattle.std.specs.Prelude.{◌&&◌, nat_lt, nat_le, length, unwrap_or, Result, Ok}
use Rattle.nfs_xdr.specs.declared.status.Status.{Status}
use Rattle.nfs_xdr.specs.declared.status.Status.TheVariants.{FBig, Inval, NoEnt, NoSpc, ServerFault}
use Rattle.nfs_compound.specs.{declared.open_args.Open.Open, declared.open_args.OpenClaim.OpenClaim}
use Rattle.nfs_compound.specs.declared.open_args.OpenClaim.TheVariants.{Null, Previous, DelegateCur, DelegatePrev, Fh, DelegCurFh, DelegPrevFh}
use Rattle.nfs_tree.specs.Files.{can_change, last_count}
use Rattle.nfs_attrs.specs.{declared.wanted.Wanted.Wanted, Setting.make_checks, Permissions.{execute, write}}
use Rattle.nfs_opens.specs.Steps.{in_order, require}
use Rattle.nfs_names.specs.{declared.context.Context.Context, declared.node.Node.Node, declared.making.Making.Making, State.State, Checks.{name_checks, no_access, no_directory, node_at}, Create.attributes_in}
use Rattle.nfs_names.proofs.Found.{came, ok_is}
use Rattle.nfs_files.specs.{declared.opening.Found.Found, declared.opening.Found.TheVariants.{There, Absent}, Open.{makes, found_by, by_claim, room_checks, there_checks}}

-- behind the share reservations: whether what is there can change, or whether there is room for what is made; by what is known of each object that was found, and of the
-- directory in which something is made
module _ (P : Node → Type 0) (s : State) (x : Context) (o : Open) (found_so : (at : Option ℕ) (g : Node) → node_at s at ≡ Ok g → P g) where
  abbrev Counts : Found → Type 0
  Counts (There place g cut) = P g
  Counts (Absent m) = P m.place

  counts_by : (d : Node) (w : Wanted) (at : Option ℕ) (f : Found) → P d → found_by s x o (record { place = d; wanted = w }) at ≡ Ok f → Counts f
  counts_by d w None f here e =
      let c = came (in_order ((not (makes o.openhow).creates, NoEnt) ∷ no_access x d write ∷ make_checks w x.who)) _ f e in
      subst Counts (ok_is refl c.then) here
  counts_by d w (Some n) f here e =
      let k = came (node_at s (Some n)) _ f e in
      let c = came (in_order (there_checks s.tree x o k.found)) _ f k.then in
      subst Counts (ok_is refl c.then) (found_so (Some n) k.found k.is)

  counts : (claim : OpenClaim) (d : Node) (f : Found) → P d → by_claim s x o claim d ≡ Ok f → Counts f
  counts (Null name) d f here e =
      let a = came (in_order (no_directory d ∷ no_access x d execute ∷ name_checks name)) _ f e in
      let w = came (attributes_in (makes o.openhow).attributes) _ f a.then in
      counts_by d w.found _ f here w.then
  counts Fh d f here e =
      let a = came (require (not (makes o.openhow).creates) Inval) _ f e in
      let c = came (in_order (there_checks s.tree x o d)) _ f a.then in
      subst Counts (ok_is refl c.then) here
  counts (Previous type) d f here e = absurd cc
  counts (DelegateCur id file) d f here e = absurd cc
  counts (DelegatePrev file) d f here e = absurd cc
  counts (DelegCurFh id) d f here e = absurd cc
  counts DelegPrevFh d f here e = absurd cc

pub counted_parts : (R : List (Bool × Status) → Type 0) (P : Node → Type 0) (s : State) (x : Context) (o : Open) (claim : OpenClaim) (d : Node) (found : Found) (rest : List (Bool × Status))
    → P d → ((at : Option ℕ) (g : Node) → node_at s at ≡ Ok g → P g) → by_claim s x o claim d ≡ Ok found
    → ((g : Node) (cut : Bool) → P g → R ((cut && not (can_change s.tree g.number), ServerFault) ∷ rest))
    → ((m : Making) → found ≡ Absent m → P m.place
    → R ((nat_lt s.tree.limits.bytes (unwrap_or m.wanted.size 0), FBig) ∷ (nat_le s.tree.limits.objects (length s.tree.objects), NoSpc)
    ∷ (not (can_change s.tree m.place.number && (nat_lt s.tree.last_object last_count && nat_lt s.tree.last_cookie last_count)), ServerFault) ∷ rest))
    → R (room_checks s.tree found ++ rest)
counted_parts R P s x o claim d found rest here found_so e there absent = by found refl (counts P s x o found_so claim d found here e)
  where
    by : (f : Found) → found ≡ f → Counts P s x o found_so f → R (room_checks s.tree f ++ rest)
    by (There place g cut) is so = there g cut so
    by (Absent m) is so = absent m is so

not_there : (n : ℕ) (f : Node) (cut : Bool) (m : Making) → ◌≡◌ {A = Result Found Status} (Ok (There n f cut)) (Ok (Absent m)) → ⊥
not_there n f cut m e = cc

-- what is made is of what was given
made_by : (s : State) (x : Context) (o : Open) (d : Node) (w : Wanted) (at : Option ℕ) (m : Making) → found_by s x o (record { place = d; wanted = w }) at ≡ Ok (Absent m)
    → w ≡ m.wanted
made_by s x o d w None m e =
    let c = came _ (λ (u : Unit {0}). Ok (Absent (record { place = d; wanted = w }))) (Absent m) e in
    let same : Absent (record { place = d; wanted = w }) ≡ Absent m = ok_is refl c.then in
    let one : record { place = d; wanted = w } ≡ m = cc in
    ap (λ (m : Making). m.wanted) one
made_by s x o d w (Some n) m e =
    let k = came (node_at s (Some n)) _ (Absent m) e in
    let c = came (in_order (there_checks s.tree x o k.found)) _ (Absent m) k.then in
    absurd (not_there _ _ _ m c.then)

pub made_of : (s : State) (x : Context) (o : Open) (claim : OpenClaim) (d : Node) (f : Found) (m : Making) → by_claim s x o claim d ≡ Ok f → f ≡ Absent m
    → attributes_in (makes o.openhow).attributes ≡ Ok m.wanted
made_of s x o claim d f m e absent = by claim (e ∙ ap Ok absent)
  where
    by : (c : OpenClaim) → by_claim s x o c d ≡ Ok (Absent m) → attributes_in (makes o.openhow).attributes ≡ Ok m.wanted
    by (Null name) e =
        let a = came (in_order (no_directory d ∷ no_access x d execute ∷ name_checks name)) _ (Absent m) e in
        let w = came (attributes_in (makes o.openhow).attributes) _ (Absent m) a.then in
        w.is ∙ ap Ok (made_by s x o d w.found _ m w.then)
    by Fh e =
        let a = came (require (not (makes o.openhow).creates) Inval) _ (Absent m) e in
        let c = came (in_order (there_checks s.tree x o d)) _ (Absent m) a.then in
        absurd (not_there _ _ _ m c.then)
    by (Previous type) e = absurd cc
    by (DelegateCur id file) e = absurd cc
    by (DelegatePrev file) e = absurd cc
    by (DelegCurFh id) e = absurd cc
    by DelegPrevFh e = absurd cc

-- and where nothing is found something is to be made
creates_by : (s : State) (x : Context) (o : Open) (m k : Making) (at : Option ℕ) → found_by s x o m at ≡ Ok (Absent k) → not (makes o.openhow).creates ≡ false
creates_by s x o m k None e =
    let checks = (not (makes o.openhow).creates, NoEnt) ∷ no_access x m.place write ∷ make_checks m.wanted x.who in
    let c = came (in_order checks) _ (Absent k) e in
    by (not (makes o.openhow).creates) c.is
  where
    by : (b : Bool) → in_order ((b, NoEnt) ∷ no_access x m.place write ∷ make_checks m.wanted x.who) ≡ Ok tt → b ≡ false
    by true e = absurd cc
    by false e = refl
creates_by s x o m k (Some n) e =
    let g = came (node_at s (Some n)) _ (Absent k) e in
    let c = came (in_order (there_checks s.tree x o g.found)) _ (Absent k) g.then in
    absurd (not_there _ _ _ k c.then)

pub creates_it : (s : State) (x : Context) (o : Open) (claim : OpenClaim) (d : Node) (f : Found) (m : Making) → by_claim s x o claim d ≡ Ok f → f ≡ Absent m
    → not (makes o.openhow).creates ≡ false
creates_it s x o claim d f m e absent = by claim (e ∙ ap Ok absent)
  where
    by : (c : OpenClaim) → by_claim s x o c d ≡ Ok (Absent m) → not (makes o.openhow).creates ≡ false
    by (Null name) e =
        let a = came (in_order (no_directory d ∷ no_access x d execute ∷ name_checks name)) _ (Absent m) e in
        let w = came (attributes_in (makes o.openhow).attributes) _ (Absent m) a.then in
        creates_by s x o (record { place = d; wanted = w.found }) m _ w.then
    by Fh e =
        let a = came (require (not (makes o.openhow).creates) Inval) _ (Absent m) e in
        let c = came (in_order (there_checks s.tree x o d)) _ (Absent m) a.then in
        absurd (not_there _ _ _ m c.then)
    by (Previous type) e = absurd cc
    by (DelegateCur id file) e = absurd cc
    by (DelegatePrev file) e = absurd cc
    by (DelegCurFh id) e = absurd cc
    by DelegPrevFh e = absurd cc
