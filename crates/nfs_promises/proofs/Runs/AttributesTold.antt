-- GETATTR tells the change, the size and the lease in their places, whatever else is asked for.
use Rattle.std.proofs.Common.{◌≡◌, ℕ, ◌+◌, Bool, true, false, cond, List, [], ◌∷◌, ◌++◌, length, take, drop, Option, Some, None, refl, sym, ◌∙◌, ap, arith}
use Rattle.std.proofs.{lemmas.Bool.{false≢true}, lemmas.List.length-append, lemmas.Grind.flat_map-append}
use Rattle.std.specs.{List.flat_map, Prelude.{if◌then◌else◌, option_map, is_some, Ok}, Option.option_map_or}
use Rattle.nfs_xdr.specs.{Spelling.{number, hyper}, Text.{uint32, uint64}}
use Rattle.nfs_xdr.proofs.Putting.{length_number, length_hyper}
use Rattle.nfs_compound.specs.declared.op.Item.TheVariants.{Operation}
use Rattle.nfs_compound.specs.declared.op.Op.TheVariants as Op
use Rattle.nfs_results.specs.declared.res.Res.TheVariants as Res
use Rattle.nfs_results.specs.Results.{spell_result, status_of_result}
use Rattle.nfs_tree.specs.{declared.object.Object.Object, declared.stored.Stored.Stored, Files.{stored_in, data_at, change_of}}
use Rattle.nfs_attrs.specs.{declared.about.About.About, declared.mask.Mask.Mask, Mask.{mask_of, has, trimmed_words, common}}
use Rattle.nfs_tree.specs.{declared.profile.Profile.Profile, declared.profile.Profile.TheVariants.{Exact, Unix}}
use Rattle.nfs_attrs.specs.{Wire.bitmap4, Attributes.{Attribute, read_only, read_write, type_number, value_of, supported, readable, attributes, values}}
use Rattle.nfs_names.specs.{declared.context.Context.Context, declared.node.Node.Node, Attributes.about, Checks.{current, node_at, node_as}, Outcome.is_ok}
use Rattle.nfs_names.specs.State.{State}
use Rattle.nfs_names.specs.Outcome as of_store
use Rattle.nfs_names.proofs.NameLaws.{by_get_attr}
use Rattle.nfs_promises.specs.Runs.AttributesTold.{sizes, asked_from, TellsValue}
use Rattle.nfs_exec.specs.{Runs.Ops.RanOp}
use Rattle.nfs_exec.proofs.Runs.OneRun.{IsRun, by_ok}

-- the values of some attributes
abbrev pub values_in : List Attribute → Mask → About → Object → List ℕ
values_in lines asked a o = flat_map (λ line. if has asked line.number then value_of line.value a o else []) lines

-- the values of the lines in front of one, and those of it and of the lines behind it
cut : (asked : Mask) (a : About) (o : Object) (front : List Attribute) (line : Attribute) (behind : List Attribute) → has asked line.number ≡ true
    → values_in (front ++ line ∷ behind) asked a o ≡ values_in front asked a o ++ (value_of line.value a o ++ values_in behind asked a o)
cut asked a o front line behind is =
    flat_map-append (λ (line : Attribute). cond (has asked line.number) (value_of line.value a o) []) front (line ∷ behind)
    ∙ ap (λ (b : Bool). values_in front asked a o ++ (cond b (value_of line.value a o) [] ++ values_in behind asked a o)) is

no_more : (n : ℕ) → n ≡ 0 + n
no_more n = omega arith

-- a value and those behind it
long_if : (b : Bool) (value rest : List ℕ) (bytes n : ℕ) → length value ≡ bytes → length rest ≡ n → length (cond b value [] ++ rest) ≡ cond b bytes 0 + n
long_if true value rest bytes n e f = length-append value rest ∙ (ap (λ (k : ℕ). k + length rest) e ∙ ap (λ (k : ℕ). bytes + k) f)
long_if false value rest bytes n e f = f ∙ no_more n

-- what is supported takes three words in each profile
mask_long : (p : Profile) → length (bitmap4 (trimmed_words (supported p))).bytes ≡ 16
unfolding number
mask_long Exact = refl
mask_long Unix = refl

change_long : (asked : Mask) (a : About) (o : Object) → length (values_in (take 3 attributes) asked a o) ≡ asked_from asked 0 (take 3 sizes)
unfolding attributes number
change_long asked a o =
    long_if (has asked 0) _ _ 16 _ (mask_long a.profile) (long_if (has asked 1) _ _ 4 _ (length_number (type_number o.kind)) (long_if (has asked 2) _ [] 4 0 refl refl))

size_long : (asked : Mask) (a : About) (o : Object) → length (values_in (take 4 attributes) asked a o) ≡ asked_from asked 0 (take 4 sizes)
unfolding attributes number hyper
size_long asked a o =
    long_if (has asked 0) _ _ 16 _ (mask_long a.profile)
    (long_if (has asked 1) _ _ 4 _ (length_number (type_number o.kind))
    (long_if (has asked 2) _ _ 4 _ refl
    (long_if (has asked 3) _ [] 8 0 (length_hyper o.change) refl)))

pub lease_long : (asked : Mask) (a : About) (o : Object) → length (values_in (take 10 attributes) asked a o) ≡ asked_from asked 0 (take 10 sizes)
unfolding attributes number hyper
lease_long asked a o =
    long_if (has asked 0) _ _ 16 _ (mask_long a.profile)
    (long_if (has asked 1) _ _ 4 _ (length_number (type_number o.kind))
    (long_if (has asked 2) _ _ 4 _ refl
    (long_if (has asked 3) _ _ 8 _ (length_hyper o.change)
    (long_if (has asked 4) _ _ 8 _ (length_hyper a.size)
    (long_if (has asked 5) _ _ 4 _ refl
    (long_if (has asked 6) _ _ 4 _ refl
    (long_if (has asked 7) _ _ 4 _ refl
    (long_if (has asked 8) _ _ 16 _ refl
    (long_if (has asked 9) _ [] 4 0 refl refl)))))))))

change_cut : (asked : Mask) (a : About) (o : Object) → has asked 3 ≡ true
    → values asked a o ≡ values_in (take 3 attributes) asked a o ++ (hyper o.change ++ values_in (drop 4 attributes) asked a o)
unfolding values attributes
change_cut asked a o is = cut asked a o (take 3 attributes) (read_only 3 uint64 (λ a o. o.change)) (drop 4 attributes) is

size_cut : (asked : Mask) (a : About) (o : Object) → has asked 4 ≡ true
    → values asked a o ≡ values_in (take 4 attributes) asked a o ++ (hyper a.size ++ values_in (drop 5 attributes) asked a o)
unfolding values attributes
size_cut asked a o is = cut asked a o (take 4 attributes) (read_write 4 uint64 (λ a o. a.size) (λ s. is_some s.size)) (drop 5 attributes) is

pub lease_cut : (asked : Mask) (a : About) (o : Object) → has asked 10 ≡ true
    → values asked a o ≡ values_in (take 10 attributes) asked a o ++ (number a.lease ++ values_in (drop 11 attributes) asked a o)
unfolding values attributes
lease_cut asked a o is = cut asked a o (take 10 attributes) (read_only 10 uint32 (λ a o. a.lease)) (drop 11 attributes) is

-- the object that is current, as the tree has it
change_found : (s : State) (x : Context) (n : ℕ) (d : Node) → x.current ≡ Some n → current s x ≡ Ok d → d.object.change ≡ change_of s.tree n
unfolding current
change_found s x n d at there = by (stored_in s.tree.objects n) refl (sym (ap (node_at s) at) ∙ there)
  where
    by : (o : Option Stored) → stored_in s.tree.objects n ≡ o → node_as n (option_map (λ (k : Stored). k.object) o) ≡ Ok d → d.object.change ≡ change_of s.tree n
    by None e bad = absurd cc
    by (Some k) e same =
        let one : record { number = n; object = k.object } ≡ d = cc in
        ap (λ (d : Node). d.object.change) (sym one) ∙ ap (λ (o : Option Stored). option_map_or (λ (k : Stored). k.object.change) o 0) (sym e)

-- what GETATTR answers, where it answers NFS4_OK
pub told : (P : List ℕ → Type 0) (d : RanOp) → IsRun d → (words : List ℕ) → d.item ≡ Operation (Op.GetAttr words) → is_ok d.status ≡ true
    → ((k : Node) → current d.before.store d.context ≡ Ok k
    → P (spell_result (Res.GetAttr (record { attrmask = trimmed_words (common (mask_of words) (readable d.before.store.tree.profile)); attr_vals = values (mask_of words) (about d.before.store k) k.object }))))
    → P d.result
told P d r words item ok each =
    by_ok (λ text s. P text) d r (Operation (Op.GetAttr words)) item ok
    (by_get_attr (λ o. of_store.is_ok (status_of_result o.result) ≡ true → P (spell_result o.result)) d.before.store d.context words
    (λ f h ok. absurd (false≢true (sym h.done ∙ ok))) (λ k there plain ok. each k there))

pub change_in : (d : RanOp) → IsRun d → (words : List ℕ) (n : ℕ) → d.item ≡ Operation (Op.GetAttr words) → has (mask_of words) 3 ≡ true → is_ok d.status ≡ true
    → d.context.current ≡ Some n → TellsValue d.before.store.tree.profile 3 (hyper (change_of d.before.store.tree n)) (mask_of words) d.result
change_in d r words n item is ok at =
    told (TellsValue d.before.store.tree.profile 3 (hyper (change_of d.before.store.tree n)) (mask_of words)) d r words item ok (λ k there. (let a = about d.before.store k in
    record {
      front = values_in (take 3 attributes) (mask_of words) a k.object;
      behind = values_in (drop 4 attributes) (mask_of words) a k.object;
      long = change_long (mask_of words) a k.object;
      answers = ap (λ (vals : List ℕ). spell_result (Res.GetAttr (record { attrmask = trimmed_words (common (mask_of words) (readable d.before.store.tree.profile)); attr_vals = vals })))
          (change_cut (mask_of words) a k.object is
          ∙ ap (λ (c : ℕ). values_in (take 3 attributes) (mask_of words) a k.object ++ (hyper c ++ values_in (drop 4 attributes) (mask_of words) a k.object))
          (change_found d.before.store d.context n k at there));
    }))

pub size_in : (d : RanOp) → IsRun d → (words : List ℕ) (size : ℕ) → d.item ≡ Operation (Op.GetAttr words) → has (mask_of words) 4 ≡ true → is_ok d.status ≡ true
    → ((k : Node) → current d.before.store d.context ≡ Ok k → length (data_at d.before.store.tree k.number) ≡ size) → TellsValue d.before.store.tree.profile 4 (hyper size) (mask_of words) d.result
size_in d r words size item is ok found =
    told (TellsValue d.before.store.tree.profile 4 (hyper size) (mask_of words)) d r words item ok (λ k there. (let a = about d.before.store k in
    record {
      front = values_in (take 4 attributes) (mask_of words) a k.object;
      behind = values_in (drop 5 attributes) (mask_of words) a k.object;
      long = size_long (mask_of words) a k.object;
      answers = ap (λ (vals : List ℕ). spell_result (Res.GetAttr (record { attrmask = trimmed_words (common (mask_of words) (readable d.before.store.tree.profile)); attr_vals = vals })))
          (size_cut (mask_of words) a k.object is
          ∙ ap (λ (c : ℕ). values_in (take 4 attributes) (mask_of words) a k.object ++ (hyper c ++ values_in (drop 5 attributes) (mask_of words) a k.object))
          (found k there));
    }))

pub lease_in : (d : RanOp) → IsRun d → (words : List ℕ) → d.item ≡ Operation (Op.GetAttr words) → has (mask_of words) 10 ≡ true → is_ok d.status ≡ true
    → TellsValue d.before.store.tree.profile 10 (number d.before.store.lease) (mask_of words) d.result
lease_in d r words item is ok =
    told (TellsValue d.before.store.tree.profile 10 (number d.before.store.lease) (mask_of words)) d r words item ok (λ k there. (let a = about d.before.store k in
    record {
      front = values_in (take 10 attributes) (mask_of words) a k.object;
      behind = values_in (drop 11 attributes) (mask_of words) a k.object;
      long = lease_long (mask_of words) a k.object;
      answers = ap (λ (vals : List ℕ). spell_result (Res.GetAttr (record { attrmask = trimmed_words (common (mask_of words) (readable d.before.store.tree.profile)); attr_vals = vals })))
          (lease_cut (mask_of words) a k.object is);
    }))
