-- A byte that lasts, through each operation that spares it.
use Rattle.std.proofs.Common.{◌≡◌, ℕ, ◌+◌, ◌<◌, ◌≤◌, ◌⊎◌, Bool, true, false, ltb, List, length, Option, Some, None, refl, sym, ◌∙◌, ap, subst, inl, inr}
use Rattle.std.proofs.lemmas.Bool.{cases_Bool, and_parts, eqb-true, eq-eqb, ltb-true, ltb-false, false≢true}
use Rattle.std.specs.{Prelude.{◌==◌, Result, Ok, Err}, Option.option_map_or}
use Rattle.nfs_xdr.specs.{Spelling.number, declared.time.Time.Time, declared.status.Status.Status}
use Rattle.nfs_xdr.proofs.Putting.{length_number}
use Rattle.nfs_compound.specs.{declared.attributes.Attributes.Attributes, declared.open_args.OpenHow.OpenHow, declared.open_args.OpenHow.TheVariants.Create}
use Rattle.nfs_compound.specs.{declared.open_args.CreateHow.TheVariants.Unchecked, declared.open_args.OpenClaim.OpenClaim, declared.open_args.OpenClaim.TheVariants.Null}
use Rattle.nfs_compound.specs.{declared.op.Op.Op, declared.op.Item.Item, declared.op.Item.TheVariants.Operation}
use Rattle.nfs_results.specs.{declared.res.Res.Res, Results.spell_result}
use Rattle.nfs_tree.specs.Files.{Files, object_named}
use Rattle.nfs_attrs.specs.declared.wanted.Wanted.{Wanted}
use Rattle.nfs_opens.specs.Closing as closing
use Rattle.nfs_names.specs.{declared.context.Context.Context, State.State, Ending.{with_opens, staying}, Create.attributes_in}
use Rattle.nfs_names.proofs.{Ones.each_of, Effected.kept_item}
use Rattle.nfs_names.specs.Operation as names
use Rattle.nfs_names.proofs.Effects as names_effects
use Rattle.nfs_files.specs.declared.opening.Found.TheVariants.{There}
use Rattle.nfs_files.specs.{FileImage.{claimed, is_number, old_size, size_in}, Written.{Byte, Lasts, Spares, NamesLeaveBytes}}
use Rattle.nfs_files.proofs.{Outcomes.comes_to, Effects.{Effect, Names, Writes, Resizes, Changes, Closes, SetsOf, OpensEmpty, Caused, behind}}
use Rattle.nfs_files.proofs.{Effected.caused_item, FileImages.{has_changed, has_effect, has_unused, has_staying}, FileOps.{setting_is, open_is}}
use Rattle.nfs_files.proofs.WrittenImages.{lasts_by, lasts_written, lasts_resized}
use Rattle.nfs_files.proofs.WrittenOps.{current_number, writable_at, number_back, write_spelled, few_written}
use Rattle.nfs_files.specs.Write as of_write

-- the end of clients
pub lasts_staying : (b : Byte) (stays : ℕ → Bool) (s : State) → Lasts b s.tree → Lasts b (staying stays s).tree
lasts_staying b stays s is = lasts_by b s.tree (staying stays s).tree (λ img has. has_staying b.file img stays s has) is

-- Names.

abbrev LastsIn : Byte → State → Type 0
LastsIn b s = Lasts b s.tree

names_last : (b : Byte) (s : State) (e : names_effects.Effect) → LastsIn b s → LastsIn b (names_effects.behind s e)
names_last b s e is = lasts_by b s.tree (names_effects.behind s e).tree (λ img has. has_effect b.file img s e has) is

pub names_leave_bytes : NamesLeaveBytes
names_leave_bytes b refused s x now i is = each_of (λ o. LastsIn b o.state) (names.comes_to refused s x now i)
    (kept_item (λ s x. LastsIn b s) (names_effects.of_states (LastsIn b) (λ s e fits is. names_last b s e is)) refused s x now i is)

-- How an OPEN asks for size 0, and of which file.

number_is : (n : ℕ) (o : Option ℕ) → option_map_or (λ k. k == n) o false ≡ true → o ≡ Some n
number_is n None e = absurd (false≢true e)
number_is n (Some k) e = ap (λ k. Some k) (eqb-true k n e)

record IsNamed (t : Files) (at : Option ℕ) (claim : OpenClaim) (n : ℕ) : Type 0 where
  pub directory : ℕ
  pub here : at ≡ Some directory
  pub name : List ℕ
  pub is : claim ≡ Null name
  pub names : object_named t directory name ≡ Some n

named_by : (t : Files) (at : Option ℕ) (claim : OpenClaim) (n : ℕ) → is_number n (claimed t at claim) ≡ true → IsNamed t at claim n
named_by t (Some d) (Null name) n e = record { directory = d; here = refl; name = name; is = refl; names = number_is n (object_named t d name) e }
named_by t at claim n e = absurd (false≢true e)

record AsksEmpty (how : OpenHow) : Type 0 where
  pub given : Attributes
  pub is : how ≡ Create (Unchecked given)
  pub wanted : Wanted
  pub reads : attributes_in given ≡ Ok wanted
  pub size : wanted.size ≡ Some 0

read_empty : (a : Attributes) (v : Result Wanted Status) → attributes_in a ≡ v → option_map_or (λ size. size == 0) (size_in v) false ≡ true
    → AsksEmpty (Create (Unchecked a))
read_empty a (Err f) reads e = absurd (false≢true e)
read_empty a (Ok w) reads e = record { given = a; is = refl; wanted = w; reads = reads; size = number_is 0 w.size e }

asks_by : (how : OpenHow) → option_map_or (λ size. size == 0) (old_size how) false ≡ true → AsksEmpty how
asks_by (Create (Unchecked a)) e = read_empty a (attributes_in a) refl e
asks_by how e = absurd (false≢true e)

-- By the effect. What spares the byte cuts none of its file at or below it, and writes none over it.

effect_lasts : (b : Byte) (s : State) (x : Context) (op : Op) (r : Res) (t : State) (e : Effect) → Spares b s x (Operation op) (spell_result r)
    → Caused s x op r t e → Lasts b t.tree → Lasts b (behind t e).tree
effect_lasts b s x op r t (Names e) spares caused is = names_last b t e is
effect_lasts b s x op r t (Writes n offset text sets now) spares caused is =
    let c = caused.cause in
    let a = c.asked in
    let spelled = write_spelled (of_write.write_ok s a) in
    lasts_written b t.tree n offset text sets now (λ at from below. spares.writes (record {
      asked = a;
      is = ap Operation c.is;
      at = current_number s x c.file (writable_at s x a.stateid c.file c.found) ∙ ap (λ n. Some n) (c.number ∙ at);
      count = number (length a.bytes);
      more = spelled.0;
      answers = ap spell_result c.answers ∙ spelled.1;
      long = length_number (length a.bytes);
      from = subst (λ k. k ≤ b.place) (sym c.from) from;
      below = subst (λ n. b.place < a.offset + n) (sym (number_back (length a.bytes) (few_written s a c.file c.checked c.some)))
          (subst (λ k. b.place < k + length a.bytes) (sym c.from) (subst (λ (k : List ℕ). b.place < offset + length k) (sym c.bytes) below));
    })) is
effect_lasts b s x op r t (Resizes n size sets now) spares caused is = lasts_resized b t.tree n size sets now (λ at. by_cause caused.cause at) is
  where
    by_cause : SetsOf s x op r n (Some size) ⊎ OpensEmpty s x op r n size sets → n ≡ b.file → b.place < size
    by_cause (inl c) at = elim (cases_Bool (ltb b.place size)) [
      | inl below ↦ ltb-true b.place size below
      | inr behind ↦ (let setting = setting_is s x c.asked c.setting c.found in
          absurd (spares.sizes (record {
            asked = c.asked;
            is = ap Operation c.is;
            at = setting.at ∙ ap (λ n. Some n) (c.number ∙ at);
            wanted = c.setting.wanted;
            reads = setting.reads;
            size = size;
            sets = c.sets;
            cuts = ltb-false b.place size behind;
            more = _;
            answers = ap spell_result c.answers;
          })))
    ]
    by_cause (inr c) at =
        let o = c.opens in
        let parts = and_parts _ _ ((open_is s x o.asked (There c.place c.file true) o.found).empties b.file ∙ eq-eqb c.file.number b.file (c.number ∙ at)) in
        let named = named_by s.tree x.current o.asked.claim b.file parts.0 in
        let empty = and_parts _ _ parts.1 in
        let asks = asks_by o.asked.openhow empty.0 in
        absurd (spares.opens (record {
          asked = o.asked;
          is = ap Operation o.is;
          directory = named.directory;
          at = named.here;
          name = named.name;
          claim = named.is;
          names = named.names;
          given = asks.given;
          how = asks.is;
          wanted = asks.wanted;
          reads = asks.reads;
          size = asks.size;
          writes = empty.1;
          ok = o.ok;
          answers = ap spell_result o.answers;
          sets = o.sets;
        }))
effect_lasts b s x op r t (Changes n sets now) spares caused is =
    lasts_by b t.tree (behind t (Changes n sets now)).tree (λ img has. has_changed b.file img t.tree n sets now has) is
effect_lasts b s x op r t (Closes n file) spares caused is =
    lasts_by b t.tree (behind t (Closes n file)).tree (λ img has. has_unused b.file img (with_opens t (closing.without_open t.opens n)) file has) is
effect_lasts b s x op r t e spares caused is = is

pub spared_bytes_last : (b : Byte) (refused : Bool) (s : State) (x : Context) (now : Time) (i : Item) → Lasts b s.tree
    → (let o = comes_to refused s x now i in Spares b s x i (spell_result o.result) → Lasts b o.state.tree)
spared_bytes_last b refused s x now i is spares = caused_item (LastsIn b) refused s x now i (λ op here t e caused is.
    effect_lasts b s x op (comes_to refused s x now i).result t e (subst (λ j. Spares b s x j (spell_result (comes_to refused s x now i).result)) here spares) caused is) is
