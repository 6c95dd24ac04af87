-- OPEN: what it is refused with has its reason, and a guarded create that was answered NFS4_OK found the name free.
use Rattle.std.proofs.Common.{◌≡◌, ◌≢◌, ◌⊎◌, ℕ, ◌+◌, ◌<◌, Bool, true, false, not, List, [], ◌∷◌, length, Option, Some, None, refl, sym, ◌∙◌, ap, subst, arith}
use Rattle.std.proofs.{Common.{inl, inr}, lemmas.Bool.{and_parts, eq-eqb, eqb-true, false≢true, leb-true, ltb-true, not-true, or_cases, and_from}}
use Rattle.std.proofs.lemmas.{Option.same_Some, Slice.Eq.bytes_eq-Decides}
use Rattle.std.specs.{Prelude.{◌==◌, ◌%◌, ◌&&◌, ◌||◌, bytes_eq, is_none, is_some, nat_lt, unwrap_or, Ok, option_map}, List.list_any}
use Rattle.nfs_xdr.specs.{Caller.Caller, Tables.In, declared.status.Status.Status, declared.time.Time.Time}
use Rattle.nfs_xdr.specs.declared.status.Status.TheVariants as S
use Rattle.nfs_xdr.proofs.{Checks.all_passed, Lists.{any_in, in_any}}
use Rattle.nfs_compound.specs.{declared.op.Item.Item, declared.op.Item.TheVariants.Operation}
use Rattle.nfs_compound.specs.declared.open_args.{Open.Open, OpenHow.OpenHow, OpenHow.TheVariants.{NoCreate, Create}, CreateHow.TheVariants.{Unchecked, Guarded, Exclusive, Exclusive41}}
use Rattle.nfs_compound.specs.declared.open_args.{OpenClaim.OpenClaim, OpenClaim.TheVariants.{Null, Previous, DelegateCur, DelegatePrev, Fh, DelegCurFh, DelegPrevFh}}
use Rattle.nfs_compound.specs.declared.op.Op.TheVariants as Op
use Rattle.nfs_compound.specs.declared.op_num.OpNum.TheVariants as Num
use Rattle.nfs_tree.specs.{declared.{profile.Profile.Profile, stored.Stored.Stored}, Files.{stored_in, object_at, object_named, is_there, can_change}}
use Rattle.nfs_attrs.specs.{declared.wanted.Wanted.Wanted, Setting.make_checks, Permissions.{execute, write as write_bits}}
use Rattle.nfs_opens.specs.{declared.share.Share.Share, Share.{meets, share_of}, Steps.{require, in_order}, StateId.last_number, Table.clashes_with, declared.records.OpenState.OpenState}
use Rattle.nfs_names.specs.{declared.{context.Context.Context, node.Node.Node}, State.State, Outcome.Outcome, Create.attributes_in}
use Rattle.nfs_names.specs.{Checks.{node_as, node_at, current, no_directory, no_access, name_checks}, declared.making.Making.Making}
use Rattle.nfs_names.proofs.Found.{came, ok_is}
use Rattle.nfs_files.specs.{OpenTold.{claimed, named_in}, Open.{access_of, is_made_by, makes, there_checks, found_by, by_claim, open_file, asking, deny_of, file_of, last_checks as open_last}}
use Rattle.nfs_files.proofs.{OpenFound.{made_of, creates_it, counted_parts}, Opened.none_at_next, TreeFiles.IsWhole, WrittenOps.current_number}
use Rattle.nfs_promises.specs.Permission.Permitted.{Right, Reads, Writes, Executes, GrantsUse, Rights, has_right, rights_of}
use Rattle.nfs_promises.specs.Answers.Asked.{AFile, TheFile, Opened, ToMakeAs, attributes_of, named_by as name_claimed, sought_by, makes_by, creates, size_in, ByName, InCurrent, ToMake, ToOpen, shared}
use Rattle.nfs_promises.specs.Answers.Invalid.{NoShare, ToOpen as AskOpen, ByHandle, States}
use Rattle.nfs_promises.specs.Answers.Reasons.{WasFree, Made, MayDo, Reason}
use Rattle.nfs_promises.proofs.Answers.Blaming.{Blames, AllBlame, held_blames, then_blames, then_checks, ends_then, ends_checks, answers_blame, passed_all}
use Rattle.nfs_promises.proofs.Answers.Placed.{Answers, refused_so, done_so, node_found, found_now, rights_is, current_blames, denied_by, no_directory_blames, no_finding}
use Rattle.nfs_promises.proofs.{Answers.{Placed.{missing, named_there, names_blame}, AttrReasons.make_blames, InvalidReasons.{given_blames, no_share, none_is_made, spent_there}}, Permission.Granting.{may_use, may_write}}

in_shared : (access : Share) (right : Right) → has_right access right ≡ true → In right (shared access.reads access.writes)
in_shared access Reads has = by access.reads access.writes has
  where
    by : (p q : Bool) → p ≡ true → In Reads (shared p q)
    by true true e = inl refl
    by true false e = inl refl
    by false q e = absurd (false≢true e)
in_shared access Writes has = by access.reads access.writes has
  where
    by : (p q : Bool) → q ≡ true → In Writes (shared p q)
    by true true e = inr (inl refl)
    by false true e = inl refl
    by p false e = absurd (false≢true e)
in_shared access Executes has = absurd (false≢true has)

-- what an OPEN has to be given, of the file
opens_so : (o : Open) (p : Profile) (r : Rights) (who : Caller) (right : Right) → MayDo right (Operation (Op.Open o)) p r who → GrantsUse right p r who
opens_so o p r who Reads may = may
opens_so o p r who Writes may = may
opens_so o p r who Executes may = may

not_made : (v : List ℕ) (made : Option (List ℕ)) → not (is_made_by v made) ≡ true → made ≢ Some v
not_made v None other e = cc
not_made v (Some w) other e = (let same : w ≡ v = cc in false≢true (sym (not-true _ other) ∙ (bytes_eq-Decides v w).1 (sym same)))

-- what makes, and finds the name taken
taken_by : (how : OpenHow) (made : Option (List ℕ)) → not ((makes how).opens made) ≡ true
    → (w : Option (List ℕ)) × (makes_by how ≡ Some w) × ((v : List ℕ) → w ≡ Some v → made ≢ Some v)
taken_by NoCreate made other = absurd (false≢true other)
taken_by (Create (Unchecked a)) made other = absurd (false≢true other)
taken_by (Create (Guarded a)) made other = (None, refl, λ v e. cc)
taken_by (Create (Exclusive w)) made other = (Some w, refl, λ v e. (let same : w ≡ v = cc in subst (λ v. made ≢ Some v) same (not_made w made other)))
taken_by (Create (Exclusive41 w a)) made other = (Some w, refl, λ v e. (let same : w ≡ v = cc in subst (λ v. made ≢ Some v) same (not_made w made other)))

guarded_opens : (how : OpenHow) (made : Option (List ℕ)) → makes_by how ≡ Some None → (makes how).opens made ≡ false
guarded_opens NoCreate made is = absurd cc
guarded_opens (Create (Unchecked a)) made is = absurd cc
guarded_opens (Create (Guarded a)) made is = refl
guarded_opens (Create (Exclusive v)) made is = absurd cc
guarded_opens (Create (Exclusive41 v a)) made is = absurd cc

-- what makes nothing seeks the name
sought_so : (how : OpenHow) (c : OpenClaim) → not (makes how).creates ≡ true → sought_by how c ≡ name_claimed c
sought_so NoCreate c none = refl
sought_so (Create (Unchecked a)) c none = absurd (false≢true none)
sought_so (Create (Guarded a)) c none = absurd (false≢true none)
sought_so (Create (Exclusive v)) c none = absurd (false≢true none)
sought_so (Create (Exclusive41 v a)) c none = absurd (false≢true none)

creates_so : (how : OpenHow) → not (makes how).creates ≡ false → creates how ≡ true
creates_so NoCreate none = absurd (false≢true (sym none))
creates_so (Create how) none = refl

same_attributes : (how : OpenHow) → attributes_of how ≡ (makes how).attributes
same_attributes NoCreate = refl
same_attributes (Create (Unchecked a)) = refl
same_attributes (Create (Guarded a)) = refl
same_attributes (Create (Exclusive v)) = refl
same_attributes (Create (Exclusive41 v a)) = refl

there_blames : (R : Status → Type 0) (s : State) (n : ℕ) → is_there s.tree n ≡ true → Blames R (node_at s (Some n))
there_blames R s n there = by (stored_in s.tree.objects n) there
  where
    by : (o : Option Stored) → is_some o ≡ true → Blames R (node_as n (option_map (λ (k : Stored). k.object) o))
    by None there = absurd (false≢true there)
    by (Some k) there = tt

module _ (s : State) (whole : IsWhole s) (x : Context) (o : Open) where
  abbrev opening : Item
  opening = Operation (Op.Open o)

  abbrev B : Status → Type 0
  B = Reason s x opening

  abbrev Y : Outcome → Type 0
  Y = Answers s x opening

  -- the file that the claim leads to
  module _ (f : Node) (leads : claimed s.tree x o.claim ≡ Some f.number) (is : object_at s.tree f.number ≡ Some f.object) where
    there_all : AllBlame B (there_checks s.tree x o f)
    there_all = (
      λ taken. inl (let its = taken_by o.openhow f.object.verifier taken in record {
        asked = o;
        is = refl;
        verifier = its.0;
        makes = its.1;
        file = f.number;
        object = f.object;
        at = leads;
        there = is;
        other = its.2;
      }),
      λ u. (
        λ dir. (f.number, AFile (Opened o refl leads), (f.object, is, dir)),
        λ u. (
          λ link. (f.number, TheFile (Opened o refl leads), (f.object, is, link)),
          λ u. (
            λ lacks. record {
              number = f.number;
              rights = shared (access_of o).reads (access_of o).writes;
              needs = ToOpen f.number o leads;
              denies = λ all. false≢true (sym (not-true _ lacks) ∙ may_use x f s.tree (access_of o) (λ right has.
                  opens_so o s.tree.profile (rights_of f.object) x.who right (all right (in_shared (access_of o) right has) (rights_of f.object) (rights_is s f is))));
            },
            λ u. tt,
          ),
        ),
      ),
    )

  -- by a name
  module _ (name : List ℕ) (claim : o.claim ≡ Null name) (d : Node) (e : current s x ≡ Ok d) where
    found_blames : (w : Wanted) → attributes_in (attributes_of o.openhow) ≡ Ok w → (at : Option ℕ) → object_named s.tree d.number name ≡ at → Blames B (found_by s x o (record { place = d; wanted = w }) at)
    found_blames w read None gone = then_checks B ((not (makes o.openhow).creates, S.NoEnt) ∷ no_access x d write_bits ∷ make_checks w x.who) _ (
      λ makes_none. missing s x opening d name (InCurrent (current_number s x d e) (sought_so o.openhow o.claim makes_none ∙ ap name_claimed claim)) gone,
      λ makes_one. (
        λ lacks. denied_by s x opening d (Writes ∷ []) e (ToMake d.number o name claim (creates_so o.openhow makes_one) (current_number s x d e) gone) (λ all.
            false≢true (sym (not-true _ lacks) ∙ may_write x d (all Writes (inl refl)))),
        λ u. make_blames s x opening w (ToMakeAs d.number o name w claim (current_number s x d e) gone read),
      ),
    ) (λ u. tt)
    found_blames w read (Some n) there =
        let leads : claimed s.tree x o.claim ≡ Some n = ap (claimed s.tree x) claim ∙ (ap (named_in s.tree name) (current_number s x d e) ∙ there) in
        then_blames B (node_at s (Some n)) _ (there_blames B s n (named_there s d.number n name whole there)) (λ f found.
        (let its = node_found s (Some n) f found in
        then_checks B (there_checks s.tree x o f) _ (there_all f (leads ∙ its.0) its.1) (λ u. tt)))

    by_name_blames : Blames B (by_claim s x o (Null name) d)
    by_name_blames = then_checks B (no_directory d ∷ no_access x d execute ∷ name_checks name) _ (
      no_directory_blames s x opening d (ap (λ c. is_some (name_claimed c)) claim) e,
      λ u. (no_finding s x opening d name (ap name_claimed claim) e, λ u. names_blame s x opening name (ByName (ap name_claimed claim))),
    ) (λ u. then_blames B (attributes_in (makes o.openhow).attributes) _
        (subst (λ a. Blames B (attributes_in a)) (same_attributes o.openhow) (given_blames s x opening (attributes_of o.openhow) refl)) (λ w read.
        found_blames w (ap attributes_in (same_attributes o.openhow) ∙ read) (object_named s.tree d.number name) refl))

  pub claim_blames : (c : OpenClaim) → o.claim ≡ c → (d : Node) → current s x ≡ Ok d → Blames B (by_claim s x o c d)
  claim_blames (Null name) is d e = by_name_blames name is d e
  claim_blames Fh is d e = (let found = found_now s x d e in
      then_blames B (require (not (makes o.openhow).creates) S.Inval) _ (held_blames B (not (makes o.openhow).creates) S.Inval (λ some. ByHandle o refl is (creates_so o.openhow some))) (λ u e.
      then_checks B (there_checks s.tree x o d) _ (there_all d (ap (claimed s.tree x) is ∙ found.0) found.1) (λ u. tt)))
  claim_blames (Previous type) is d e = inl (o, refl, rw is refl)
  claim_blames (DelegateCur id file) is d e = inl (o, refl, rw is refl)
  claim_blames (DelegatePrev file) is d e = inl (o, refl, rw is refl)
  claim_blames (DelegCurFh id) is d e = inl (o, refl, rw is refl)
  claim_blames DelegPrevFh is d e = inl (o, refl, rw is refl)

  -- What is looked at last.

  found_file : (m : Making) (at : Option ℕ) (f : _) → found_by s x o m at ≡ Ok f → (at ≡ Some (file_of s.tree f)) ⊎ (file_of s.tree f ≡ s.tree.last_object + 1)
  found_file m None f e =
      let c = came (in_order ((not (makes o.openhow).creates, S.NoEnt) ∷ no_access x m.place write_bits ∷ make_checks m.wanted x.who)) _ f e in
      inr (ap (file_of s.tree) (sym (ok_is refl c.then)))
  found_file m (Some n) f e =
      let k = came (node_at s (Some n)) _ f e in
      let c = came (in_order (there_checks s.tree x o k.found)) _ f k.then in
      inl ((node_found s (Some n) k.found k.is).0 ∙ ap (λ f. Some (file_of s.tree f)) (ok_is refl c.then))

  -- the file is what the claim leads to, or the next one
  claim_file : (c : OpenClaim) (d : Node) (f : _) → current s x ≡ Ok d → by_claim s x o c d ≡ Ok f
      → (claimed s.tree x c ≡ Some (file_of s.tree f)) ⊎ (file_of s.tree f ≡ s.tree.last_object + 1)
  claim_file (Null name) d f at e =
      let a = came (in_order (no_directory d ∷ no_access x d execute ∷ name_checks name)) _ f e in
      let w = came (attributes_in (makes o.openhow).attributes) _ f a.then in
      elim (found_file (record { place = d; wanted = w.found }) (object_named s.tree d.number name) f w.then) [
        | inl there ↦ inl (ap (named_in s.tree name) (current_number s x d at) ∙ there)
        | inr next ↦ inr next
      ]
  claim_file Fh d f at e =
      let a = came (require (not (makes o.openhow).creates) S.Inval) _ f e in
      let c = came (in_order (there_checks s.tree x o d)) _ f a.then in
      inl (current_number s x d at ∙ ap (λ f. Some (file_of s.tree f)) (ok_is refl c.then))
  claim_file (Previous type) d f at e = absurd cc
  claim_file (DelegateCur id file) d f at e = absurd cc
  claim_file (DelegatePrev file) d f at e = absurd cc
  claim_file (DelegCurFh id) d f at e = absurd cc
  claim_file DelegPrevFh d f at e = absurd cc

  share_denied : (file : ℕ) → (claimed s.tree x o.claim ≡ Some file) ⊎ (file ≡ s.tree.last_object + 1) → list_any (clashes_with (asking x o file)) s.opens.opens ≡ true → B S.ShareDenied
  share_denied file which some =
      let (p, there, clash) = in_any (clashes_with (asking x o file)) s.opens.opens some in
      let parts = and_parts (p.file == file) _ clash in
      let more = and_parts (not ((p.client == x.client) && bytes_eq p.owner o.owner.owner)) (meets (access_of o) p.deny || meets (deny_of o) p.access) parts.1 in
      let its : p.file ≡ file = eqb-true p.file file parts.0 in
      elim which [
        | inl leads ↦ record {
          asked = o;
          is = refl;
          state = p;
          there = there;
          at = leads ∙ ap Some (sym its);
          other = λ same. false≢true (sym (not-true _ more.0) ∙ and_from _ _ (eq-eqb p.client x.client same.0) ((bytes_eq-Decides p.owner o.owner.owner).1 same.1));
          clash = or_cases (meets (access_of o) p.deny) (meets (deny_of o) p.access) more.1;
        }
        | inr next ↦ absurd (false≢true (sym (none_at_next s whole.tree whole.store)
            ∙ any_in (λ (p : OpenState). p.file == s.tree.last_object + 1) s.opens.opens p there (eq-eqb p.file (s.tree.last_object + 1) (its ∙ next))))
      ]

  makes_too_long : (w : Wanted) → attributes_in (makes o.openhow).attributes ≡ Ok w → nat_lt s.tree.limits.bytes (unwrap_or w.size 0) ≡ true → B S.FBig
  makes_too_long w gives long = by w.size refl long
    where
      by : (n : Option ℕ) → w.size ≡ n → nat_lt s.tree.limits.bytes (unwrap_or n 0) ≡ true → B S.FBig
      by None is long = absurd (let less : s.tree.limits.bytes < 0 = ltb-true s.tree.limits.bytes 0 long in omega arith)
      by (Some size) is long = Made o size refl (ap (λ a. size_in (attributes_in a)) (same_attributes o.openhow) ∙ (ap size_in gives ∙ is)) (ltb-true s.tree.limits.bytes size long)

  pub last_all : (d : Node) (f : _) → current s x ≡ Ok d → by_claim s x o o.claim d ≡ Ok f → AllBlame B (open_last s x o f)
  last_all d f e came_by = (
    share_denied (file_of s.tree f) (claim_file o.claim d f e came_by),
    λ u. counted_parts (AllBlame B) (λ (g : Node). object_at s.tree g.number ≡ Some g.object) s x o o.claim d f _ (found_now s x d e).1
        (λ at g found. (node_found s at g found).1) came_by
        (λ g cut there. (λ spent. spent_there s g there (not-true _ (and_parts cut (not (can_change s.tree g.number)) spent).1), λ u. (last _, λ u. tt)))
        (λ m absent place. (
          makes_too_long m.wanted (made_of s x o o.claim d f m came_by absent),
          λ u. (
            λ full. (creates_so o.openhow (creates_it s x o o.claim d f m came_by absent), leb-true s.tree.limits.objects (length s.tree.objects) full),
            λ u. (none_is_made s m.place place, λ u. (last _, λ u. tt)),
          ),
        )),
  )
    where
      last : (b : Bool) → b && (s.opens.last == last_number) ≡ true → B S.ServerFault
      last b e = States (eqb-true s.opens.last last_number (and_parts b (s.opens.last == last_number) e).1)

  was_free : (name : List ℕ) (d : Node) (f : _) → makes_by o.openhow ≡ Some None → by_claim s x o (Null name) d ≡ Ok f → object_named s.tree d.number name ≡ None
  was_free name d f guarded e =
      let a = came (in_order (no_directory d ∷ no_access x d execute ∷ name_checks name)) _ f e in
      let w = came (attributes_in (makes o.openhow).attributes) _ f a.then in
      by w.found (object_named s.tree d.number name) w.then
    where
      by : (w : Wanted) (at : Option ℕ) → found_by s x o (record { place = d; wanted = w }) at ≡ Ok f → at ≡ None
      by w None e = refl
      by w (Some n) e =
          let k = came (node_at s (Some n)) _ f e in
          let c = came (in_order (there_checks s.tree x o k.found)) _ f k.then in
          let checks = all_passed (there_checks s.tree x o k.found) (passed_all (there_checks s.tree x o k.found) c.is) in
          absurd (false≢true (sym checks.0 ∙ ap not (guarded_opens o.openhow k.found.object.verifier guarded)))

  made_free : (d : Node) (f : _) → current s x ≡ Ok d → by_claim s x o o.claim d ≡ Ok f → WasFree s x o
  made_free d f e came_by n name claim guarded at =
      let same : n ≡ d.number = same_Some n d.number (sym at ∙ current_number s x d e) in
      ap (λ n. object_named s.tree n name) same ∙ was_free name d f guarded (subst (λ c. by_claim s x o c d ≡ Ok f) claim came_by)

  pub open_blames : (now : Time) → Answers s x opening (open_file s x now o)
  unfolding open_file
  open_blames now = answers_blame B Y s x Num.Open _ (refused_so s x opening Num.Open) (ends_then B Y (current s x) _ (current_blames s whole x opening refl) (λ d e.
      ends_checks B Y ((o.share_access % 4 == 0, S.Inval) ∷ (is_none (share_of o.share_deny), S.Inval) ∷ []) _
      (λ v. NoShare (AskOpen o refl (inl (eqb-true (o.share_access % 4) 0 v))), λ u. (λ v. NoShare (AskOpen o refl (inr (no_share o.share_deny v))), λ u. tt)) (λ u.
      ends_then B Y (by_claim s x o o.claim d) _ (claim_blames o.claim refl d e) (λ f its. ends_checks B Y (open_last s x o f) _ (last_all d f e its) (λ u. done_so s x opening (made_free d f e its))))))
