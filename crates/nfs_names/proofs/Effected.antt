-- Each operation on names comes to effects that fit, or to none: what every effect keeps, each operation keeps.
use Rattle.std.proofs.Common.{◌≡◌, ◌+◌, Bool, true, false, None, refl}
use Rattle.std.specs.Prelude.{◌&&◌, IfSome}
use Rattle.nfs_xdr.specs.{Checks.first_fault, declared.time.Time.Time}
use Rattle.nfs_compound.specs.{declared.name_args.Rename.Rename, Arguments.arguments, declared.op.Op.Op, declared.op.Item.Item}
use Rattle.nfs_compound.specs.declared.op.Item.TheVariants.{Operation, Fault}
use Rattle.nfs_tree.specs.{Files.root, Names.{rename_checks, moves}}
use Rattle.nfs_names.specs.{declared.context.Context.Context, declared.node.Pair.Pair, State.State, Context.at_object, Outcome.Outcome}
use Rattle.nfs_names.specs.{Operation.{one, grows, comes_to}, Create.{new_of, made_sets}, PutPubFh.put_pub_fh, PutRootFh.put_root_fh, Rename.{move_of, renamed}}
use Rattle.nfs_names.proofs.NameLaws as law
use Rattle.nfs_names.proofs.{Ones.if_delayed, Effects.{Makes, Links, Removes, Moves, Kept}}

module _ (P : State → Context → Type 0) (kept : Kept P) where
  abbrev Q : Outcome → Type 0
  Q o = P o.state o.context

  renamed_kept : (s : State) (x : Context) (now : Time) (a : Rename) (p : Pair) (b : Bool)
      → first_fault (rename_checks s.tree (move_of a p)) ≡ None → moves s.tree (move_of a p) ≡ b → P s x
      → (let o = renamed s x now a p b in P o.state o.context)
  renamed_kept s x now a p true none go is = kept.effects s x (Moves (move_of a p) now) (none, go) is
  renamed_kept s x now a p false none stay is = is

  kept_one : (s : State) (x : Context) (now : Time) (op : Op) → P s x → IfSome (one s x now op) (λ o. P o.state o.context)
  unfolding put_pub_fh put_root_fh
  kept_one s x now (Op.Access asked) is = law.by_access Q s x asked (λ f h. is) (λ d there. is)
  kept_one s x now (Op.Create c) is = law.by_create Q s x now c (λ f h. is) (λ d wanted there placed read row.
      (let new = new_of c.objtype in
      kept.handles _ x (at_object x (s.tree.last_object + 1)) refl
      (kept.effects s x (Makes d.number c.objname new (made_sets s x now d new wanted) now) row is)))
  kept_one s x now (Op.GetAttr words) is = law.by_get_attr Q s x words (λ f h. is) (λ d there plain. is)
  kept_one s x now Op.GetFh is = law.by_get_fh Q s x (λ f h. is) (λ d there. is)
  kept_one s x now (Op.Link name) is =
      law.by_link Q s x now name (λ f h. is) (λ p there placed row. kept.effects s x (Links p.saved.number p.current.number name now) row is)
  kept_one s x now (Op.Lookup name) is = law.by_lookup Q s x name (λ f h. is) (λ d n there placed named. kept.handles s x (at_object x n) refl is)
  kept_one s x now Op.LookupP is = law.by_lookup_p Q s x (λ f h. is) (λ d n there placed stands. kept.handles s x (at_object x n) refl is)
  kept_one s x now (Op.NVerify a) is = law.by_nverify Q s x a (λ f h. is) (λ equal e unequal. is)
  kept_one s x now (Op.PutFh object) is = law.by_put_fh Q s x object (λ f h. is) (λ h read placed. kept.handles s x (at_object x h.number) refl is)
  kept_one s x now Op.PutPubFh is = kept.handles s x (at_object x root) refl is
  kept_one s x now Op.PutRootFh is = kept.handles s x (at_object x root) refl is
  kept_one s x now (Op.ReadDir a) is = law.by_read_dir Q s x a (λ f h. is) (λ d there placed some. is)
  kept_one s x now Op.ReadLink is = law.by_read_link Q s x (λ f h. is) (λ d there linked. is)
  kept_one s x now (Op.Remove name) is =
      law.by_remove Q s x now name (λ f h. is) (λ d there placed row. kept.effects s x (Removes d.number name now) row is)
  kept_one s x now (Op.Rename a) is =
      law.by_rename Q s x now a (λ f h. is) (λ p there row. renamed_kept s x now a p (moves s.tree (move_of a p)) row refl is)
  kept_one s x now Op.RestoreFh is = law.by_restore_fh Q s x (λ f h. is) (λ saved there stands. kept.handles s x _ refl is)
  kept_one s x now Op.SaveFh is = law.by_save_fh Q s x (λ f h. is) (λ d there. kept.handles s x _ refl is)
  kept_one s x now (Op.SecinfoNoName style) is = law.by_secinfo_no_name Q s x style (λ f h. is) (λ d there placed. kept.handles s x _ refl is)
  kept_one s x now (Op.Verify a) is = law.by_verify Q s x a (λ f h. is) (λ equal e same. is)
  kept_one s x now op is = tt

  pub kept_item : (b : Bool) (s : State) (x : Context) (now : Time) (i : Item) → P s x
      → IfSome (comes_to b s x now i) (λ o. P o.state o.context)
  kept_item b s x now (Operation op) is =
      if_delayed (λ o. P o.state o.context) (grows s x op && b) s x (arguments op).op (one s x now op) is (kept_one s x now op is)
  kept_item b s x now (Fault n status) is = tt
