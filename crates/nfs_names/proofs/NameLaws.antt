-- What an operation on names found if it was done, and what it came to: a law for each. If it was refused, it was for a reason of its own.
use Rattle.std.proofs.Common.{◌≡◌, ℕ, ◌+◌, Bool, true, false, cond, List, [], ◌∷◌, Option, Some, None, refl, ◌∙◌}
use Rattle.std.specs.Prelude.{◌==◌, ◌&&◌, Ok, Err, not, is_some}
use Rattle.nfs_xdr.specs.{Checks.first_fault, declared.time.Time.Time, declared.status.Status.Status}
use Rattle.nfs_xdr.specs.declared.status.Status.TheVariants.{Exist, IsDir, Symlink, Inval, NameTooLong, Stale, NoEnt, BadHandle, NoFileHandle, WrongType}
use Rattle.nfs_xdr.specs.declared.status.Status.TheVariants.{NotSame, Same, ServerFault, TooSmall}
use Rattle.nfs_compound.specs.{declared.op_num.OpNum.OpNum, declared.attributes.Attributes.Attributes, declared.name_args.Create.Create}
use Rattle.nfs_compound.specs.{declared.name_args.ReadDir.ReadDir, declared.name_args.Rename.Rename, declared.name_args.SecinfoStyle.SecinfoStyle}
use Rattle.nfs_compound.specs.declared.name_args.SecinfoStyle.TheVariants.{CurrentFh, Parent}
use Rattle.nfs_compound.specs.declared.op_num.OpNum.TheVariants as Num
use Rattle.nfs_results.specs.declared.res.Res.TheVariants as Res
use Rattle.nfs_tree.specs.{declared.object.Object.Object, Bytes.part}
use Rattle.nfs_tree.specs.{Names.{Move, is_unlike}, Profile.is_unix}
use Rattle.nfs_tree.specs.declared.fault.TreeFault.TheVariants as F
use Rattle.nfs_tree.specs.Files.{Files, most_text, has_name, raised, number_named, object_at, parent_in, object_named as found}
use Rattle.nfs_tree.specs.{Create.{create_checks, with_new}, Names.{link_checks, with_link, moves, remove_checks, rename_checks, without_name}}
use Rattle.nfs_tree.specs.Object.{is_directory, is_link}
use Rattle.nfs_attrs.specs.{declared.handle.Handle.Handle, declared.wanted.Wanted.Wanted, Handle.handle_of}
use Rattle.nfs_attrs.specs.{Mask.{mask_of, asks_set_only, trimmed_words}, Permissions.{change_entries, execute, judge_access}}
use Rattle.nfs_attrs.specs.{Setting.make_checks, Wire.nfs_fh4}
use Rattle.nfs_attrs.proofs.Answered.{by_read, by_compared}
use Rattle.nfs_names.specs.{declared.context.Context.Context, declared.context.Saved.Saved, declared.node.Node.Node, declared.node.Pair.Pair}
use Rattle.nfs_names.specs.{State.{State, with_tree, without_unused}, Context.at_object, Outcome.{Outcome, done, refuses}}
use Rattle.nfs_names.specs.{Checks.{node_as, node_at, saved_object, current, both, no_directory, no_access, name_checks}}
use Rattle.nfs_names.specs.{Attributes.{about, attributes_of}, Faults.tree_fault_status}
use Rattle.nfs_names.specs.{Access.{access}, Create.{attributes_in, change_info, create, new_of, place_checks, room_checks, made_sets}}
use Rattle.nfs_names.specs.{GetAttr.get_attr, GetFh.get_fh, Link.link, Lookup.lookup, LookupP.lookup_p, NVerify.nverify, PutFh.put_fh}
use Rattle.nfs_names.specs.{ReadDir.{listing_checks, fits_none, listed, read_dir}, ReadLink.read_link, Remove.remove, Rename.{move_of, renamed, rename}}
use Rattle.nfs_names.specs.{RestoreFh.restore_fh, SaveFh.save_fh, SecinfoNoName.{style_checks, secinfo_no_name}, Verify.{compared, verify}}
use Rattle.nfs_names.specs.Link as of_link
use Rattle.nfs_names.specs.Remove as of_remove
use Rattle.nfs_names.specs.Rename as of_rename
use Rattle.nfs_names.proofs.{Rows.tree_passes, LastChecks.{create_last, link_last, remove_last, rename_last}}
use Rattle.nfs_names.proofs.Refusing.{IsRefusal, is_refusal, refusal_by, Refuses, all_refuse, err_refuses, ok_refuses, refuses_then}
use Rattle.nfs_names.proofs.Steps.{ends_found, ends_there, ends_held, ends_passed, by_steps}
use Rattle.nfs_names.proofs.Terms.{told_access}

-- what is in the way of a RENAME refuses it, whichever the profile says
rename_refuse : (t : Files) (m : Move) → all_refuse (of_rename.last_checks t m) ≡ true
rename_refuse t m = way (is_unix t.profile && not (is_unlike t m)) false false false false false
  where
    way : (b p q r s d : Bool)
        → all_refuse ((p, NoEnt) ∷ (d, NameTooLong) ∷ (q, Inval) ∷ (r, tree_fault_status (cond b F.NotEmpty F.Exist)) ∷ (s, ServerFault) ∷ []) ≡ true
    way true p q r s d = refl
    way false p q r s d = refl

-- What is looked up.

node_refuses_as : (n : ℕ) (o : Option Object) → Refuses (node_as n o)
node_refuses_as n None = err_refuses Stale (refusal_by Stale refl)
node_refuses_as n (Some o) = ok_refuses _

pub node_refuses : (s : State) (o : Option ℕ) → Refuses (node_at s o)
node_refuses s None = err_refuses NoFileHandle (refusal_by NoFileHandle refl)
node_refuses s (Some n) = node_refuses_as n (object_at s.tree n)

pub current_refuses : (s : State) (x : Context) → Refuses (current s x)
unfolding current
current_refuses s x = node_refuses s x.current

pub both_refuses : (s : State) (x : Context) → Refuses (both s x)
unfolding both
both_refuses s x = refuses_then (current s x) _ (current_refuses s x) (λ d.
    refuses_then (node_at s (saved_object x.saved)) _ (node_refuses s (saved_object x.saved)) (λ e. ok_refuses _))

refused_with : {A : Type 0} (f : Status) → is_refusal f ≡ true → Refuses {A = A} (Err f)
refused_with f is = err_refuses f (refusal_by f is)

pub wanted_refuses : (a : Attributes) → Refuses (attributes_in a)
unfolding attributes_in
wanted_refuses a =
    by_read Refuses (refused_with _ refl) (refused_with _ refl) (refused_with _ refl) (refused_with _ refl) ok_refuses (mask_of a.attrmask) a.attr_vals

compared_refuses : (s : State) (x : Context) (a : Attributes) → Refuses (compared s x a)
compared_refuses s x a = refuses_then (current s x) _ (current_refuses s x) (λ d.
    by_compared Refuses (refused_with _ refl) (refused_with _ refl) ok_refuses (mask_of a.attrmask) a.attr_vals (about s d) d.object)

style_refuse : (s : State) (style : SecinfoStyle) (d : Node) → all_refuse (style_checks s style d) ≡ true
style_refuse s CurrentFh d = refl
style_refuse s Parent d = refl

-- What is refused, whatever follows.
abbrev pub Refused : (Outcome → Type 0) → State → Context → OpNum → Type 0
Refused P s x op = (f : Status) → IsRefusal f → P (refuses s x op f)

-- What operations that change the tree come to.

abbrev pub removed : State → Context → Time → List ℕ → Node → Outcome
removed s x now name d = record {
  result = Res.Remove (change_info (raised s.tree d.number));
  state = without_unused (with_tree s (without_name s.tree d.number name now)) (number_named s.tree d.number name);
  context = x;
}

abbrev pub linked : State → Context → Time → List ℕ → Pair → Outcome
linked s x now name p = record {
  result = Res.Link (change_info (raised s.tree p.current.number));
  state = with_tree s (with_link s.tree p.saved.number p.current.number name now);
  context = x;
}

abbrev pub created : State → Context → Time → Create → Node → Wanted → Outcome
created s x now c d wanted = record {
  result = Res.Create (record { cinfo = change_info (raised s.tree d.number); attrset = trimmed_words (mask_of c.createattrs.attrmask) });
  state = with_tree s (with_new s.tree d.number c.objname (new_of c.objtype) (made_sets s x now d (new_of c.objtype) wanted) now);
  context = at_object x (s.tree.last_object + 1);
}

-- What is looked at first.

abbrev pub link_places : Context → List ℕ → Pair → List (Bool × Status)
link_places x name p = no_directory p.current ∷ (is_directory p.saved.object.kind, IsDir) ∷ no_access x p.current change_entries ∷ name_checks name

abbrev lookup_places : Context → List ℕ → Node → List (Bool × Status)
lookup_places x name d = (is_link d.object.kind, Symlink) ∷ no_directory d ∷ no_access x d execute ∷ name_checks name

abbrev lookup_p_places : Context → Node → List (Bool × Status)
lookup_p_places x d = no_directory d ∷ no_access x d execute ∷ []

abbrev handle_places : State → Handle → List (Bool × Status)
handle_places s h = (not (h.instance == s.opens.instance), Stale) ∷ (not (is_some (object_at s.tree h.number)), Stale) ∷ []

abbrev pub remove_places : Context → List ℕ → Node → List (Bool × Status)
remove_places x name d = no_directory d ∷ no_access x d change_entries ∷ name_checks name

-- The laws.

module _ (P : Outcome → Type 0) (s : State) (x : Context) where
  pub by_access : (asked : ℕ) → Refused P s x Num.Access
      → ((d : Node) → current s x ≡ Ok d → P (done s x (Res.Access (told_access (judge_access d.object x.who asked))))) → P (access s x asked)
  unfolding access
  by_access asked refused then = by_steps P s x Num.Access _ refused (ends_found P _ _ (current_refuses s x) then)

  pub by_create : (now : Time) (c : Create) → Refused P s x Num.Create
      → ((d : Node) (wanted : Wanted) → current s x ≡ Ok d → first_fault (place_checks x c d) ≡ None → attributes_in c.createattrs ≡ Ok wanted
      → first_fault (create_checks s.tree d.number c.objname (new_of c.objtype)) ≡ None → P (created s x now c d wanted))
      → P (create s x now c)
  unfolding create
  by_create now c refused then = by_steps P s x Num.Create _ refused (ends_found P (current s x) _ (current_refuses s x) (λ d there.
      ends_passed P (place_checks x c d) _ refl (λ placed. ends_found P (attributes_in c.createattrs) _ (wanted_refuses c.createattrs) (λ wanted read.
      ends_passed P (make_checks wanted x.who) _ refl (λ may. ends_held P (not (is_some wanted.size)) Inval _ refl (λ unsized.
      ends_passed P ((has_name s.tree d.number c.objname, Exist) ∷ room_checks s.tree d.number) _ refl (λ none.
      then d wanted there placed read
      (tree_passes (create_checks s.tree d.number c.objname (new_of c.objtype)) (create_last s x c d there placed ∙ none)))))))))

  pub by_get_attr : (words : List ℕ) → Refused P s x Num.GetAttr
      → ((d : Node) → current s x ≡ Ok d → not (asks_set_only (mask_of words)) ≡ true → P (done s x (Res.GetAttr (attributes_of s (mask_of words) d))))
      → P (get_attr s x words)
  unfolding get_attr
  by_get_attr words refused then = by_steps P s x Num.GetAttr _ refused (ends_found P (current s x) _ (current_refuses s x) (λ d there.
      ends_held P (not (asks_set_only (mask_of words))) Inval _ refl (then d there)))

  pub by_get_fh : Refused P s x Num.GetFh
      → ((d : Node) → current s x ≡ Ok d → P (done s x (Res.GetFh (nfs_fh4 (record { instance = s.opens.instance; number = d.number })).bytes))) → P (get_fh s x)
  unfolding get_fh
  by_get_fh refused then = by_steps P s x Num.GetFh _ refused (ends_found P _ _ (current_refuses s x) then)

  pub by_link : (now : Time) (name : List ℕ) → Refused P s x Num.Link
      → ((p : Pair) → both s x ≡ Ok p
      → first_fault (link_places x name p) ≡ None
      → first_fault (link_checks s.tree p.saved.number p.current.number name) ≡ None → P (linked s x now name p))
      → P (link s x now name)
  unfolding link
  by_link now name refused then = by_steps P s x Num.Link _ refused (ends_found P (both s x) _ (both_refuses s x) (λ p there.
      ends_passed P (link_places x name p) _ refl (λ placed.
      ends_passed P (of_link.last_checks s.tree p.saved.number p.current.number name) _ refl (λ none.
      then p there placed (tree_passes (link_checks s.tree p.saved.number p.current.number name) (link_last s x name p there placed ∙ none))))))

  pub by_lookup : (name : List ℕ) → Refused P s x Num.Lookup
      → ((d : Node) (n : ℕ) → current s x ≡ Ok d
      → first_fault (lookup_places x name d) ≡ None
      → found s.tree d.number name ≡ Some n → P (done s (at_object x n) Res.Lookup))
      → P (lookup s x name)
  unfolding lookup
  by_lookup name refused then = by_steps P s x Num.Lookup _ refused (ends_found P (current s x) _ (current_refuses s x) (λ d there.
      ends_passed P (lookup_places x name d) _ refl (λ placed. ends_there P (found s.tree d.number name) NoEnt _ refl (λ n named. then d n there placed named))))

  pub by_lookup_p : Refused P s x Num.LookupP
      → ((d : Node) (n : ℕ) → current s x ≡ Ok d → first_fault (lookup_p_places x d) ≡ None
      → parent_in s.tree.rows d.number ≡ Some n → P (done s (at_object x n) Res.LookupP))
      → P (lookup_p s x)
  unfolding lookup_p
  by_lookup_p refused then = by_steps P s x Num.LookupP _ refused (ends_found P (current s x) _ (current_refuses s x) (λ d there.
      ends_passed P (lookup_p_places x d) _ refl (λ placed. ends_there P (parent_in s.tree.rows d.number) NoEnt _ refl (λ n stands. then d n there placed stands))))

  pub by_nverify : (a : Attributes) → Refused P s x Num.NVerify
      → ((equal : Bool) → compared s x a ≡ Ok equal → not equal ≡ true → P (done s x Res.NVerify)) → P (nverify s x a)
  unfolding nverify
  by_nverify a refused then = by_steps P s x Num.NVerify _ refused (ends_found P (compared s x a) _ (compared_refuses s x a) (λ equal e.
      ends_held P (not equal) Same _ refl (then equal e)))

  pub by_put_fh : (object : List ℕ) → Refused P s x Num.PutFh
      → ((h : Handle) → handle_of object ≡ Some h
      → first_fault (handle_places s h) ≡ None
      → P (done s (at_object x h.number) Res.PutFh))
      → P (put_fh s x object)
  unfolding put_fh
  by_put_fh object refused then = by_steps P s x Num.PutFh _ refused (ends_there P (handle_of object) BadHandle _ refl (λ h read.
      ends_passed P (handle_places s h) _ refl (then h read)))

  pub by_read_dir : (a : ReadDir) → Refused P s x Num.ReadDir
      → ((d : Node) → current s x ≡ Ok d → first_fault (listing_checks x a d) ≡ None → not (fits_none s a d) ≡ true
      → P (done s x (Res.ReadDir (listed s a d))))
      → P (read_dir s x a)
  unfolding read_dir
  by_read_dir a refused then = by_steps P s x Num.ReadDir _ refused (ends_found P (current s x) _ (current_refuses s x) (λ d there.
      ends_passed P (listing_checks x a d) _ refl (λ placed. ends_held P (not (fits_none s a d)) TooSmall _ refl (then d there placed))))

  pub by_read_link : Refused P s x Num.ReadLink
      → ((d : Node) → current s x ≡ Ok d → is_link d.object.kind ≡ true → P (done s x (Res.ReadLink (part s.tree d.number 0 most_text))))
      → P (read_link s x)
  unfolding read_link
  by_read_link refused then = by_steps P s x Num.ReadLink _ refused (ends_found P (current s x) _ (current_refuses s x) (λ d there.
      ends_held P (is_link d.object.kind) WrongType _ refl (then d there)))

  pub by_remove : (now : Time) (name : List ℕ) → Refused P s x Num.Remove
      → ((d : Node) → current s x ≡ Ok d → first_fault (remove_places x name d) ≡ None
      → first_fault (remove_checks s.tree d.number name) ≡ None → P (removed s x now name d))
      → P (remove s x now name)
  unfolding remove
  by_remove now name refused then = by_steps P s x Num.Remove _ refused (ends_found P (current s x) _ (current_refuses s x) (λ d there.
      ends_passed P (remove_places x name d) _ refl (λ placed.
      ends_passed P (of_remove.last_checks s.tree d.number name) _ refl (λ none.
      then d there placed (tree_passes (remove_checks s.tree d.number name) (remove_last s x name d there placed ∙ none))))))

  pub by_rename : (now : Time) (a : Rename) → Refused P s x Num.Rename
      → ((p : Pair) → both s x ≡ Ok p → first_fault (rename_checks s.tree (move_of a p)) ≡ None → P (renamed s x now a p (moves s.tree (move_of a p))))
      → P (rename s x now a)
  unfolding rename
  by_rename now a refused then = by_steps P s x Num.Rename _ refused (ends_found P (both s x) _ (both_refuses s x) (λ p there.
      ends_passed P (of_rename.place_checks x a p) _ refl (λ placed.
      ends_passed P (of_rename.last_checks s.tree (move_of a p)) _ (rename_refuse s.tree (move_of a p)) (λ none.
      then p there (tree_passes (rename_checks s.tree (move_of a p)) (rename_last s x a p there placed ∙ none))))))

  pub by_restore_fh : Refused P s x Num.RestoreFh
      → ((saved : Saved) → x.saved ≡ Some saved → is_some (object_at s.tree saved.object) ≡ true
      → P (done s (record x { current = Some saved.object; stateid = saved.stateid }) Res.RestoreFh))
      → P (restore_fh s x)
  unfolding restore_fh
  by_restore_fh refused then = by_steps P s x Num.RestoreFh _ refused (ends_there P x.saved NoFileHandle _ refl (λ saved kept.
      ends_held P (is_some (object_at s.tree saved.object)) Stale _ refl (then saved kept)))

  pub by_save_fh : Refused P s x Num.SaveFh
      → ((d : Node) → current s x ≡ Ok d → P (done s (record x { saved = Some (record { object = d.number; stateid = x.stateid }) }) Res.SaveFh))
      → P (save_fh s x)
  unfolding save_fh
  by_save_fh refused then = by_steps P s x Num.SaveFh _ refused (ends_found P _ _ (current_refuses s x) then)

  pub by_secinfo_no_name : (style : SecinfoStyle) → Refused P s x Num.SecinfoNoName
      → ((d : Node) → current s x ≡ Ok d → first_fault (style_checks s style d) ≡ None → P (done s (record x { current = None }) (Res.SecinfoNoName (1 ∷ []))))
      → P (secinfo_no_name s x style)
  unfolding secinfo_no_name
  by_secinfo_no_name style refused then = by_steps P s x Num.SecinfoNoName _ refused (ends_found P (current s x) _ (current_refuses s x) (λ d there.
      ends_passed P (style_checks s style d) _ (style_refuse s style d) (then d there)))

  pub by_verify : (a : Attributes) → Refused P s x Num.Verify
      → ((equal : Bool) → compared s x a ≡ Ok equal → equal ≡ true → P (done s x Res.Verify)) → P (verify s x a)
  unfolding verify
  by_verify a refused then = by_steps P s x Num.Verify _ refused (ends_found P (compared s x a) _ (compared_refuses s x a) (λ equal e.
      ends_held P equal NotSame _ refl (then equal e)))
