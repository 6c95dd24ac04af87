-- CREATE and LINK: what they are refused with has its reason.
use Rattle.std.proofs.Common.{◌≡◌, ◌<◌, ◌≤◌, ℕ, true, not, List, [], ◌∷◌, Some, refl, sym, ◌∙◌, ap, subst, inl, inr}
use Rattle.std.proofs.lemmas.Bool.{false≢true, not-false, not-true, eq-eqb, leb-true, ltb-true}
use Rattle.std.specs.{Prelude.{◌==◌, nat_lt, length, is_some, Ok}}
use Rattle.nfs_xdr.specs.{declared.time.Time.Time, declared.status.Status.Status}
use Rattle.nfs_xdr.specs.declared.status.Status.TheVariants as S
use Rattle.nfs_xdr.proofs.Lists.{none_any}
use Rattle.nfs_compound.specs.{declared.op.Item.Item, declared.op.Item.TheVariants.Operation}
use Rattle.nfs_compound.specs.declared.name_args.{CreateType.CreateType, CreateType.TheVariants.{Symlink, Other, Block, Character}}
use Rattle.nfs_compound.specs.declared.name_args.Create as args
use Rattle.nfs_compound.specs.declared.op.Op.TheVariants as Op
use Rattle.nfs_compound.specs.declared.op_num.OpNum.TheVariants as Num
use Rattle.nfs_tree.specs.{declared.row.Row.Row, Object.is_directory, Files.{has_name, links_in, most_links, most_text, number_named}}
use Rattle.nfs_attrs.specs.{Permissions.change_entries, Setting.make_checks}
use Rattle.nfs_opens.specs.Steps.{require}
use Rattle.nfs_names.specs.{Checks.{current, both, no_directory, no_access, permits, name_checks}, Link.{last_checks, link}, Outcome.Outcome, State.State}
use Rattle.nfs_names.specs.{Create.{is_made, text_is, place_checks, room_checks, attributes_in, create}, declared.{context.Context.Context, node.Node.Node}}
use Rattle.nfs_files.proofs.{TreeFiles.IsWhole, WrittenOps.current_number}
use Rattle.nfs_promises.specs.{Permission.Permitted.{Writes, Executes}, Answers.Asked.{ByName, Linked, Kept, ToCreate, ToAdd, made, size_in}}
use Rattle.nfs_promises.specs.Answers.{Invalid.{NoText, Sized}, Reasons.{IsThere, IsDenied, is_type, Reason}}
use Rattle.nfs_promises.proofs.Answers.Blaming.{held_blames, ends_then, ends_checks, answers_blame}
use Rattle.nfs_promises.proofs.Answers.Placed.{Answers, refused_so, done_so, found_now, no_bytes, current_blames, both_blames, saved_found, denied_by, no_directory_blames, names_blame, named_at}
use Rattle.nfs_promises.proofs.{Answers.{AttrReasons.make_blames, InvalidReasons.{given_blames, none_is_made, none_is_linked}}, Permission.{Granting.may_change, PermittedNames.both_current}}

same_type : (t : CreateType) → is_made t ≡ is_type t
same_type (Symlink text) = refl
same_type (Other type) = refl
same_type (Block d) = refl
same_type (Character d) = refl

long_text : (t : CreateType) → text_is (nat_lt most_text) t ≡ true → (text : List ℕ) × (t ≡ Symlink text) × (most_text < length text)
long_text (Symlink text) long = (text, refl, ltb-true most_text (length text) long)
long_text (Other type) long = absurd (false≢true long)
long_text (Block d) long = absurd (false≢true long)
long_text (Character d) long = absurd (false≢true long)

no_text : (t : CreateType) → text_is (λ n. n == 0) t ≡ true → t ≡ Symlink []
no_text (Symlink text) none = ap Symlink (no_bytes text none)
no_text (Other type) none = absurd (false≢true none)
no_text (Block d) none = absurd (false≢true none)
no_text (Character d) none = absurd (false≢true none)

module _ (s : State) (x : Context) (i : Item) (name : List ℕ) (makes : made i ≡ Some name) (d : Node) (e : current s x ≡ Ok d) where
  no_adding : not (permits x d change_entries) ≡ true → IsDenied s x i
  no_adding lacks = denied_by s x i d (Writes ∷ Executes ∷ []) e (ToAdd d.number i name makes (current_number s x d e)) (λ all.
      false≢true (sym (not-true _ lacks) ∙ may_change x d (all Writes (inl refl)) (all Executes (inr (inl refl)))))

  is_there : has_name s.tree d.number name ≡ true → IsThere s x i
  is_there has = record {
    name = name;
    is = makes;
    directory = d.number;
    object = number_named s.tree d.number name;
    at = current_number s x d e;
    there = named_at s.tree d.number name has;
  }

module _ (s : State) (whole : IsWhole s) (x : Context) where
  pub create_blames : (now : Time) (c : args.Create) → Answers s x (Operation (Op.Create c)) (create s x now c)
  unfolding create
  create_blames now c =
      let i : Item = Operation (Op.Create c) in
      let B : Status → Type 0 = Reason s x i in
      let Y : Outcome → Type 0 = Answers s x i in
      answers_blame B Y s x Num.Create _ (refused_so s x i Num.Create) (ends_then B Y (current s x) _ (current_blames s whole x i refl) (λ d e.
      ends_checks B Y (place_checks x c d) _ (
        no_directory_blames s x i d refl e,
        λ u. (
          no_adding s x i c.objname refl d e,
          λ u. (
            λ other. (c, refl, sym (same_type c.objtype) ∙ not-true _ other),
            λ u. (λ none. NoText c refl (no_text c.objtype none), λ u. (λ long. (let t = long_text c.objtype long in inr (inl (c, refl, t.0, t.1, t.2))), λ u. names_blame s x i c.objname (ByName refl))),
          ),
        ),
      ) (λ placed. ends_then B Y (attributes_in c.createattrs) _ (given_blames s x i c.createattrs refl) (λ w gives.
      ends_checks B Y (make_checks w x.who) _ (make_blames s x i w (ToCreate c w gives)) (λ own.
      ends_then B Y (require (not (is_some w.size)) S.Inval) _ (held_blames B (not (is_some w.size)) S.Inval (λ some. Sized c refl (ap (λ v. is_some (size_in v)) gives ∙ not-false _ some))) (λ u e2.
      ends_checks B Y ((has_name s.tree d.number c.objname, S.Exist) ∷ room_checks s.tree d.number) _ (
        λ has. inr (inr (is_there s x i c.objname refl d e has)),
        λ u. (λ full. (refl, leb-true s.tree.limits.objects (length s.tree.objects) full), λ u. (none_is_made s d (found_now s x d e).1, λ u. tt)),
      ) (λ u. done_so s x i tt)))))))

  pub link_blames : (now : Time) (name : List ℕ) → Answers s x (Operation (Op.Link name)) (link s x now name)
  unfolding link
  link_blames now name =
      let i : Item = Operation (Op.Link name) in
      let B : Status → Type 0 = Reason s x i in
      let Y : Outcome → Type 0 = Answers s x i in
      answers_blame B Y s x Num.Link _ (refused_so s x i Num.Link) (ends_then B Y (both s x) _ (both_blames s whole x i refl refl) (λ p e.
      (let its = saved_found s x p e in
      let there = both_current s x p e in
      ends_checks B Y (no_directory p.current ∷ (is_directory p.saved.object.kind, S.IsDir) ∷ no_access x p.current change_entries ∷ name_checks name) _ (
        no_directory_blames s x i p.current refl there,
        λ u. (
          λ dir. (p.saved.number, Linked name its.saved refl its.is its.names, (p.saved.object, its.there, dir)),
          λ u. (no_adding s x i name refl p.current there, λ u. names_blame s x i name (ByName refl)),
        ),
      ) (λ placed. ends_checks B Y (last_checks s.tree p.saved.number p.current.number name) _ (
        λ has. inr (inr (is_there s x i name refl p.current there has)),
        λ u. (
          λ lost. inr (record {
            number = p.saved.number;
            of = Kept name its.saved refl its.is its.names;
            none = λ r row same. false≢true (sym (none_any (λ (r : Row). r.object == p.saved.number) s.tree.rows r (not-true _ lost) row) ∙ eq-eqb r.object p.saved.number same);
          }),
          λ u. (
            λ many. (name, refl, its.saved, its.is, subst (λ n. most_links ≤ links_in s.tree.rows n) (sym its.names) (leb-true most_links (links_in s.tree.rows p.saved.number) many)),
            λ u. (none_is_linked s p.current p.saved (found_now s x p.current there).1 its.there, λ u. tt),
          ),
        ),
      ) (λ u. done_so s x i tt)))))
