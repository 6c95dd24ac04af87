-- What a GETATTR puts is the text of the object's attributes, which is the same of objects that are alike.
use Rattle.std.proofs.Common.{◌≡◌, ℕ, true, List, [], length, Option, Some, None, refl, sym, ◌∙◌, ap, inl, inr}
use Rattle.std.specs.{Prelude.{option_map, is_some, if◌then◌else◌, Ok}, Option.option_map_or}
use Rattle.nfs_results.specs.declared.res.Res.TheVariants as Res
use Rattle.nfs_results.specs.Results.{spell_result}
use Rattle.nfs_tree.specs.{declared.limits.Limits.Limits, declared.profile.Profile.Profile, declared.stored.Stored.Stored, declared.stored.Size.Size, Stored.{content_of, size_of}, Object.is_directory, Files.{Files, stored_in, is_there, links_in}}
use Rattle.nfs_attrs.specs.{Mask.{mask_of, common, trimmed_words}, Attributes.{readable, values}, declared.about.About.About}
use Rattle.nfs_attrs.proofs.Unasked.{values_without_free, values_in_exact}
use Rattle.nfs_names.specs.{declared.context.Context.Context, declared.node.Node.Node, Attributes.{about, taken_by, space_of, room_in}, Checks.{node_as, node_at, current}}
use Rattle.nfs_names.specs.State as store
use Rattle.nfs_exec.specs.Runs.Ops.{RanOp}
use Rattle.nfs_exec.proofs.Runs.OneRun.{IsRun}
use Rattle.nfs_promises.proofs.Runs.AttributesTold.{told}
use Rattle.nfs_promises.specs.Bytes.ChangeTells.{GetsOf, AsksNoFree}

-- how many more objects and bytes there may be
abbrev pub Free : Type 0
Free = ℕ × ℕ

abbrev pub free_in : Files → Free
free_in t = ((room_in t).files_free, (room_in t).space_free)

-- what is told of an object beside the object: of its tree its limits, its profile, and how much more there may be
abbrev pub told_of : (n : ℕ) (size : Size) (links instance lease : ℕ) (limits : Limits) (profile : Profile) (free : Free) (k : Stored) → About
told_of n size links instance lease limits profile free k = record {
  number = n;
  size = size.bytes;
  links = if is_directory k.object.kind then 1 else links;
  instance = instance;
  lease = lease;
  most_bytes = limits.bytes;
  profile = profile;
  used = taken_by profile size;
  files_free = free.0;
  files_total = limits.objects;
  space_free = free.1;
  space_total = space_of limits;
}

abbrev text_of_size : (words : List ℕ) (n : ℕ) (size : Size) (links instance lease : ℕ) (limits : Limits) (profile : Profile) (free : Free) (k : Stored) → List ℕ
text_of_size words n size links instance lease limits profile free k =
    spell_result (Res.GetAttr (record {
      attrmask = trimmed_words (common (mask_of words) (readable profile));
      attr_vals = values (mask_of words) (told_of n size links instance lease limits profile free k) k.object;
    }))

unfoldable pub attributes_text : (words : List ℕ) (n links instance lease : ℕ) (limits : Limits) (profile : Profile) (free : Free) (k : Stored) → List ℕ
attributes_text words n links instance lease limits profile free k = text_of_size words n (size_of (content_of k)) links instance lease limits profile free k

-- what is answered of an object that is kept, by what the tree tells of it
pub text_there : (words : List ℕ) (n : ℕ) (s : store.State) (k : Stored) → stored_in s.tree.objects n ≡ Some k
    → spell_result (Res.GetAttr (record {
      attrmask = trimmed_words (common (mask_of words) (readable s.tree.profile));
      attr_vals = values (mask_of words) (about s (record { number = n; object = k.object })) k.object;
    })) ≡ attributes_text words n (links_in s.tree.rows n) s.opens.instance s.lease s.tree.limits s.tree.profile (free_in s.tree) k
unfolding attributes_text
text_there words n s k e =
    ap (λ (o : Option Stored). spell_result (Res.GetAttr (record {
      attrmask = trimmed_words (common (mask_of words) (readable s.tree.profile));
      attr_vals = values (mask_of words) (record (about s (record { number = n; object = k.object })) {
        size = length (option_map_or (λ (w : Stored). w.bytes) o []);
        used = taken_by s.tree.profile (option_map_or (λ (w : Stored). size_of (content_of w)) o (record { bytes = 0; pages = 0 }));
      }) k.object;
    }))) e

-- what a GETATTR of an object answers, if it answers NFS4_OK
pub record Attributes (n : ℕ) (words : List ℕ) (s : store.State) (text : List ℕ) : Type 0 where
  pub kept : Stored
  pub there : stored_in s.tree.objects n ≡ Some kept
  pub answers : text ≡ attributes_text words n (links_in s.tree.rows n) s.opens.instance s.lease s.tree.limits s.tree.profile (free_in s.tree) kept

node_stored : (s : store.State) (x : Context) (n : ℕ) (d : Node) → x.current ≡ Some n → current s x ≡ Ok d
    → (st : Stored) × (stored_in s.tree.objects n ≡ Some st) × (d ≡ record { number = n; object = st.object })
unfolding current
node_stored s x n d at found = go (stored_in s.tree.objects n) refl (sym (ap (node_at s) at) ∙ found)
  where
    go : (o : Option Stored) → stored_in s.tree.objects n ≡ o → node_as n (option_map (λ (k : Stored). k.object) o) ≡ Ok d
        → (st : Stored) × (stored_in s.tree.objects n ≡ Some st) × (d ≡ record { number = n; object = st.object })
    go None e bad = absurd cc
    go (Some st) e same = (st, e, (let one : record { number = n; object = st.object } ≡ d = cc in sym one))

pub gets_run : (n : ℕ) (words : List ℕ) (d : RanOp) → IsRun d → GetsOf n words d → Attributes n words d.before.store d.result
gets_run n words d r gets =
    told (Attributes n words d.before.store) d r words gets.is gets.ok (λ k found.
    (let it = node_stored d.before.store d.context n k gets.at found in
    record {
      kept = it.0;
      there = it.1;
      answers = ap (λ (k : Node). spell_result (Res.GetAttr (record {
        attrmask = trimmed_words (common (mask_of words) (readable d.before.store.tree.profile));
        attr_vals = values (mask_of words) (about d.before.store k) k.object;
      }))) it.2 ∙ text_there words n d.before.store it.0 it.1;
    }))

-- where it is not asked how much more there may be, or in `exact`, the answer is the same however much that is
pub free_same : (words : List ℕ) (n links instance lease : ℕ) (limits : Limits) (profile : Profile) (free also : Free) (k : Stored) → AsksNoFree profile words
    → attributes_text words n links instance lease limits profile also k ≡ attributes_text words n links instance lease limits profile free k
unfolding attributes_text
free_same words n links instance lease limits profile free also k quiet =
    ap (λ (vals : List ℕ). spell_result (Res.GetAttr (record { attrmask = trimmed_words (common (mask_of words) (readable profile)); attr_vals = vals })))
    (elim quiet [
      | inl exact ↦ values_in_exact (mask_of words) (told_of n (size_of (content_of k)) links instance lease limits profile free k) k.object also.0 also.1 exact
      | inr none ↦ values_without_free (mask_of words) (told_of n (size_of (content_of k)) links instance lease limits profile free k) k.object also.0 also.1
          none.files_avail none.files_free none.space_avail none.space_free
    ])

pub text_same : (words : List ℕ) (n : ℕ) (s t : store.State) (text also : List ℕ) → t.opens.instance ≡ s.opens.instance → t.lease ≡ s.lease → t.tree.limits ≡ s.tree.limits
    → t.tree.profile ≡ s.tree.profile → AsksNoFree s.tree.profile words
    → stored_in t.tree.objects n ≡ stored_in s.tree.objects n → links_in t.tree.rows n ≡ links_in s.tree.rows n
    → Attributes n words s text → Attributes n words t also → also ≡ text
text_same words n s t text also instance lease limits profile quiet stored links first second =
    let kept : second.kept ≡ first.kept = (let one : Some first.kept ≡ Some second.kept = sym first.there ∙ (sym stored ∙ second.there) in cc) in
    second.answers
    ∙ (ap (attributes_text words n (links_in t.tree.rows n) t.opens.instance t.lease t.tree.limits t.tree.profile (free_in t.tree)) kept
    ∙ (ap (λ (p : Profile). attributes_text words n (links_in t.tree.rows n) t.opens.instance t.lease t.tree.limits p (free_in t.tree) first.kept) profile
    ∙ (ap (λ (m : Limits). attributes_text words n (links_in t.tree.rows n) t.opens.instance t.lease m s.tree.profile (free_in t.tree) first.kept) limits
    ∙ (ap (λ (l : ℕ). attributes_text words n (links_in t.tree.rows n) t.opens.instance l s.tree.limits s.tree.profile (free_in t.tree) first.kept) lease
    ∙ (ap (λ (i : ℕ). attributes_text words n (links_in t.tree.rows n) i s.lease s.tree.limits s.tree.profile (free_in t.tree) first.kept) instance
    ∙ (ap (λ (l : ℕ). attributes_text words n l s.opens.instance s.lease s.tree.limits s.tree.profile (free_in t.tree) first.kept) links
    ∙ (free_same words n (links_in s.tree.rows n) s.opens.instance s.lease s.tree.limits s.tree.profile (free_in s.tree) (free_in t.tree) first.kept quiet
    ∙ sym first.answers)))))))

pub stored_there : (t : Files) (n : ℕ) (k : Stored) → stored_in t.objects n ≡ Some k → is_there t n ≡ true
stored_there t n k e = ap is_some e
