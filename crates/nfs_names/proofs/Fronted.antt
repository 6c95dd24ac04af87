-- Operations and what the code finds for them first: that is their first steps.
use Rattle.std.proofs.Common.{◌≡◌, ℕ, List, refl, sym, ◌∙◌, ap, subst}
use Rattle.std.specs.Prelude.{Result, Ok, ok_or, not, is_some}
use Rattle.nfs_xdr.specs.{SheetState.{SheetState, Puts}, declared.status.Status.{Status, TheVariants.{Inval, NoEnt}}}
use Rattle.nfs_compound.specs.{declared.name_args.Create.Create, declared.op_num.OpNum.OpNum, OpNum.op_number}
use Rattle.nfs_compound.specs.declared.op_num.OpNum.TheVariants as Num
use Rattle.nfs_results.specs.declared.res.Res.TheVariants as Res
use Rattle.nfs_results.specs.Results.{refusal, spell_result}
use Rattle.nfs_tree.specs.{Bytes.part, Files.{object_named as found, most_text}}
use Rattle.nfs_attrs.specs.{Mask.mask_of, Setting.make_checks}
use Rattle.nfs_opens.specs.Steps.{◌>>=◌, ◌>>◌, in_order, require}
use Rattle.nfs_names.specs.{declared.context.Context.Context, declared.making.Making.Making, declared.node.Node.Node, State.State, Context.at_object}
use Rattle.nfs_names.specs.{Outcome.{Outcome, done, refuses, or_refusal}, Comes.Comes, Checks.current, Attributes.attributes_of, Create.attributes_in}
use Rattle.nfs_names.specs.{Fronts.{creating, getting_attr, looking_up, placing, reading_link}, GetAttr.get_attr, Lookup.lookup, ReadLink.read_link}
use Rattle.nfs_names.proofs.{Steps.through, Faulted.status_of_refusal}

-- what is wanted of an object that is to be made in a place
abbrev pub wanting : Context → Create → Node → Result Making Status
wanting x c place = do
  wanted ← attributes_in c.createattrs
  in_order (make_checks wanted x.who)
  require (not (is_some wanted.size)) Inval
  Ok (record { place = place; wanted = wanted })

pub creating_by : (s : State) (x : Context) (c : Create) (v : Result Node Status) → v ≡ placing s x c → creating s x c ≡ (v >>= wanting x c)
creating_by s x c v e = through (current s x) _ Ok (wanting x c) ∙ ap (λ v. v >>= wanting x c) (sym e)

pub get_attr_by : (s : State) (x : Context) (words : List ℕ) (v : Result Node Status) → v ≡ getting_attr s x words
    → get_attr s x words ≡ or_refusal s x Num.GetAttr (v >>= λ d. Ok (done s x (Res.GetAttr (attributes_of s (mask_of words) d))))
unfolding get_attr
get_attr_by s x words v e =
    let next : Node → Result Outcome Status = λ d. Ok (done s x (Res.GetAttr (attributes_of s (mask_of words) d))) in
    ap (or_refusal s x Num.GetAttr) (through (current s x) _ Ok next ∙ ap (λ v. v >>= next) (sym e))

pub lookup_by : (s : State) (x : Context) (name : List ℕ) (v : Result ℕ Status) → v ≡ looking_up s x name
    → lookup s x name ≡ or_refusal s x Num.Lookup (v >>= λ n. Ok (done s (at_object x n) Res.Lookup))
unfolding lookup
lookup_by s x name v e =
    let next : ℕ → Result Outcome Status = λ n. Ok (done s (at_object x n) Res.Lookup) in
    ap (or_refusal s x Num.Lookup) (through (current s x) _ (λ d. ok_or (found s.tree d.number name) NoEnt) next ∙ ap (λ v. v >>= next) (sym e))

pub read_link_by : (s : State) (x : Context) (v : Result Node Status) → v ≡ reading_link s x
    → read_link s x ≡ or_refusal s x Num.ReadLink (v >>= λ d. Ok (done s x (Res.ReadLink (part s.tree d.number 0 most_text))))
unfolding read_link
read_link_by s x v e =
    let next : Node → Result Outcome Status = λ d. Ok (done s x (Res.ReadLink (part s.tree d.number 0 most_text))) in
    ap (or_refusal s x Num.ReadLink) (through (current s x) _ Ok next ∙ ap (λ v. v >>= next) (sym e))

-- a refusal that was put is what an operation comes to that refuses so
pub refusal_comes : (s : State) (x : Context) (op : OpNum) (o : Outcome) (status answer : Status) (old new : SheetState)
    → o ≡ refuses s x op status → answer ≡ status → Puts old new (spell_result (refusal (op_number op) status)) → Comes o old new answer s x
refusal_comes s x op o status answer old new is told put =
    subst (λ o. Comes o old new answer s x) (sym is)
    (record { put = put; status = told ∙ sym (status_of_refusal (op_number op) status); state = refl; context = refl })
