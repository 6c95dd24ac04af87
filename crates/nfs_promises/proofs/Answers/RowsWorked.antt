-- A wrong answer for each row of the table of refusals, computed.
use Rattle.std.proofs.Common.{◌≡◌, ◌≢◌, ◌⊎◌, ℕ, ◌<◌, ◌≤◌, true, false, not, List, [], ◌∷◌, length, Option, Some, None, get_or, refl, sym, ◌∙◌, ap, subst, arith, inl, inr}
use Rattle.std.proofs.lemmas.{Bool.{eq-eqb, false≢true, ltb-false, leb-false}, Option.{same_Some}}
use Rattle.std.specs.{Prelude.{◌==◌, ◌&&◌, ◌+◌, ◌*◌, ◌^◌, IsSome, nat_le, nat_lt, option_map, replicate, if◌then◌else◌}, List.list_any}
use Rattle.nfs_xdr.specs.{Limits.most_transfer, Spelling.number, Tables.In}
use Rattle.nfs_xdr.specs.declared.status.Status.TheVariants as S
use Rattle.nfs_xdr.proofs.Lists.{find_in, none_any}
use Rattle.nfs_compound.specs.{ArgCodecs.{create_args, create_type, read_dir_args, set_attr_args}, declared.{attributes.Attributes.Attributes, op.Item.Item}}
use Rattle.nfs_compound.specs.declared.{file_args.{StableHow.TheVariants.Unstable, Write.Write}, lock_args.Lock.Lock}
use Rattle.nfs_compound.specs.declared.{name_args.{CreateType.TheVariants.Other, ReadDir.ReadDir}, op.Item.TheVariants.Operation, open_args.Open.Open}
use Rattle.nfs_compound.specs.declared.{open_args.OpenHow.TheVariants.NoCreate, session_args.Sequence.Sequence, stateid.Stateid.Stateid}
use Rattle.nfs_compound.specs.declared.name_args.Create as args
use Rattle.nfs_compound.specs.declared.lock_args.LockType.TheVariants as LockTypes
use Rattle.nfs_compound.specs.declared.op.Op.TheVariants as Op
use Rattle.nfs_results.specs.{declared.res.Entry.Entry, Straight.entry_text}
use Rattle.nfs_results.specs.Items as results
use Rattle.nfs_results.specs.Listing as listing
use Rattle.nfs_ranges.specs.{declared.Kind.{Kind, TheVariants.{Write as ToWrite}}, Facts.HoldsAny, Holders.is_within}
use Rattle.nfs_tree.specs.{declared.object.Object.Object, declared.row.Row.Row, declared.stored.Stored.Stored, declared.profile.Profile.TheVariants.Exact, Object.is_link}
use Rattle.nfs_tree.specs.Files.{last_count, most_links, links_in, object_at, object_named, stored_in}
use Rattle.nfs_attrs.specs.{declared.handle.Handle.Handle, Attributes.{Settings, attributes, supported, values}, Handle.handle_of, Mask.{mask_of, within}}
use Rattle.nfs_opens.specs.{declared.judging.Sort.TheVariants.{Either, OpenOnly}, declared.records.{LockState.LockState, OpenState.OpenState}, declared.share.Share.Share}
use Rattle.nfs_opens.specs.{declared.stateid.CurrentSeqid.TheVariants.Any, declared.stateid.StateId.StateId, Share.{meets, neither}, StateId.last_number}
use Rattle.nfs_names.specs.{declared.context.{Context.Context, Saved.Saved}, Attributes.about, Checks.both, Context.anonymous, Create.create, Link.link, NVerify.nverify, ReadLink.read_link, Remove.remove}
use Rattle.nfs_names.specs.{ReadDir.{entry_of, fitting, left, read_dir}, SaveFh.save_fh, State.{State, is_used}, Verify.verify}
use Rattle.nfs_files.specs.{Open.{access_of, deny_of}, SetAttr.set_attr, StateIds.state_id}
use Rattle.nfs_promises.specs.{Names.FileStays.is_on_saved, Runs.{Points.ops_of, Requests.{current_stateid, handle, stateid, words}}}
use Rattle.nfs_promises.specs.Permission.Permitted.{Right, Reads, Writes, Executes, Rights, rights_at, has_right, Grants, ToOthers, IsIn, First, Further}
use Rattle.nfs_promises.specs.{Locks.LockKeptWorked.{asked, gives_up, last_of}, Bytes.WrittenStaysWorked.{made, writes}, Permission.PermittedWorked.to_group}
use Rattle.nfs_promises.specs.Answers.Asked.{LooksAt, AtCurrent, AtSaved, NoLinkOf, TheFile, Searched, Used, Opened, Gives, ByName, ByOldName, ByNewName, Needs, ToFind, ToAdd}
use Rattle.nfs_exec.specs.Runs.Ops.{RanOp}
use Rattle.nfs_promises.specs.{Names.FileStaysWorked.{first_of, with_status}, Answers.Granted.{IsAsTold, IsNotRefused}}
use Rattle.nfs_promises.specs.Answers.Asked.{IsSpecial, AllZeros, AllOnes, IsNone, Zeros, Ones, IsCurrent, StandsFor, Itself, TheCurrent, StateGiven, by_state, used, Range, locked, InRange, reclaims, is_delegated}
use Rattle.nfs_promises.specs.Answers.Invalid.{given_in, compared, values_in, NamesNobody, AreValues, IsNoShare, ToOpen as AskOpen, ToNarrow, Widens, IsSpent, Change, Objects, Cookies, States, shortest}
use Rattle.nfs_promises.specs.Answers.Invalid.{NoName, NoText, NoRange, NoShare, ByHandle, Sized, Below, Fixed, NoValue, Unreadable, Uncompared}
use Rattle.nfs_promises.specs.Answers.Reasons.{IsDenied, MayDo, IsHeld, IsInUse, IsLockedOut, LacksMode, access_under, IsShareDenied, BySize, Made, Written, is_type, stands_alone, AnswersSo, StateTold, state_of, IsOwn, Reason}
use Rattle.nfs_promises.specs.Answers.{ReasonsWorked.{Refused, opens, creates, removes}, YesIsTrueWorked.{entry, lists, reads_link}, RowsWorked.{AreGranted, RowsRefused, GrantsRefused, finds, puts, links, locks, verifies, differs, lists_one, free, frees}}
use Rattle.nfs_promises.proofs.Answers.ReasonsWorked.{asking, no_less, lock_given, lock_told, not_special, stands_itself, no_current, no_user}
use Rattle.nfs_promises.proofs.{Permission.PermittedNames.one_of, Runs.{Computing.computing, LastOperation.only}, Answers.YesIsTrueWorked.locked_byte}

-- What has no reason, whatever the server.

module _ (s : State) (x : Context) (n : ℕ) (at : x.current ≡ Some n) where
  handled : (i : Item) → is_on_saved i ≡ false → Reason s x i S.NoFileHandle → ⊥
  handled i off (inl (on, none)) = (let bad : Some n ≡ None = sym at ∙ none in cc)
  handled i off (inr (on, none)) = false≢true (sym off ∙ on)

  fresh : (i : Item) → is_on_saved i ≡ false → is_used s n ≡ true → ((given : List ℕ) → i ≡ Operation (Op.PutFh given) → ⊥) → Reason s x i S.Stale → ⊥
  fresh i off used other (inr why) = other why.given why.is
  fresh i off used other (inl (m, looks, gone)) = by looks
    where
      by : LooksAt x i m → ⊥
      by (AtCurrent on here) = false≢true (sym gone ∙ (ap (is_used s) (sym (same_Some n m (sym at ∙ here))) ∙ used))
      by (AtSaved saved on is same) = false≢true (sym off ∙ on)

  module _ (name : List ℕ) where
    no_symlink : (o : Object) → object_at s.tree n ≡ Some o → is_link o.kind ≡ false → Reason s x (Operation (Op.Lookup name)) S.Symlink → ⊥
    no_symlink o there plain (m, of, kind) =
        let same : n ≡ m = by of in
        let one : o ≡ kind.0 = same_Some o kind.0 (sym there ∙ (ap (object_at s.tree) same ∙ kind.1)) in
        false≢true (sym plain ∙ (ap (λ (o : Object). is_link o.kind) one ∙ kind.2))
      where
        by : NoLinkOf s x (Operation (Op.Lookup name)) m → n ≡ m
        by (TheFile (Used wants here)) = absurd (false≢true wants)
        by (TheFile (Opened a is leads)) = absurd (let bad : Operation (Op.Lookup name) ≡ Operation (Op.Open a) = is in cc)
        by (Searched other is here) = same_Some n m (sym at ∙ here)

    may_find : (right : Right) (q : Rights) → Grants q x.who right → MayDo right (Operation (Op.Lookup name)) s.tree.profile q x.who
    may_find Reads q grants = grants
    may_find Writes q grants = grants
    may_find Executes q grants = grants

    not_denied : (r : Rights) → rights_at s.tree n ≡ Some r → Grants r x.who Executes → IsDenied s x (Operation (Op.Lookup name)) → ⊥
    not_denied r has grants why = by why.number _ why.needs why.denies
      where
        by : (m : ℕ) (rights : _) → Needs s x (Operation (Op.Lookup name)) m rights
            → (((right : _) → In right rights → (q : Rights) → rights_at s.tree m ≡ Some q → MayDo right (Operation (Op.Lookup name)) s.tree.profile q x.who) → ⊥) → ⊥
        by m rights (ToAdd k i given is here) denies = absurd cc
        by m rights (ToFind k i given is here) denies = denies (λ right there q is_q.
            (let one : r ≡ q = same_Some r q (sym has ∙ (ap (rights_at s.tree) (same_Some n k (sym at ∙ here)) ∙ is_q)) in
            may_find right q (one_of right Executes (Grants q x.who) there (subst (λ q. Grants q x.who Executes) one grants))))

given_name : (name other : List ℕ) → Gives (Operation (Op.Lookup name)) other → name ≡ other
given_name name other (ByName is) = same_Some name other is
given_name name other (ByOldName a is same) = absurd (let bad : Operation (Op.Lookup name) ≡ Operation (Op.Rename a) = is in cc)
given_name name other (ByNewName a is same) = absurd (let bad : Operation (Op.Lookup name) ≡ Operation (Op.Rename a) = is in cc)

module _ (s : State) (x : Context) where
  not_long : Reason s x (Operation (Op.Lookup (0x66 ∷ []))) S.NameTooLong → ⊥
  not_long (inl (name, gives, long)) = (let short : 255 < 1 = subst (λ (name : List ℕ). 255 < length name) (sym (given_name (0x66 ∷ []) name gives)) long in absurd (omega arith))
  not_long (inr (inl (c, is, text, of, long))) = (let bad : Operation (Op.Lookup (0x66 ∷ [])) ≡ Operation (Op.Create c) = is in cc)
  not_long (inr (inr why)) = (let bad : Operation (Op.Lookup (0x66 ∷ [])) ≡ Operation (Op.Rename why.moves.asked) = why.moves.is in cc)

  no_odd_byte : Reason s x (Operation (Op.Lookup (0x66 ∷ []))) S.BadChar → ⊥
  no_odd_byte (name, gives, byte, there, odd) = by (subst (In byte) (sym (given_name (0x66 ∷ []) name gives)) there) odd
    where
      by : In byte (0x66 ∷ []) → (byte ≡ 0x2f) ⊎ (byte ≡ 0) → ⊥
      by (inl is) (inl slash) = absurd (omega (arith, is, slash))
      by (inl is) (inr zero) = absurd (omega (arith, is, zero))
      by (inr none) odd = none

  no_dots : Reason s x (Operation (Op.Lookup (0x66 ∷ []))) S.BadName → ⊥
  no_dots (name, gives, dots) = by (subst (λ name. (name ≡ 0x2e ∷ []) ⊎ (name ≡ 0x2e ∷ 0x2e ∷ [])) (sym (given_name (0x66 ∷ []) name gives)) dots)
    where
      by : ◌≡◌ {A = List ℕ} (0x66 ∷ []) (0x2e ∷ []) ⊎ ◌≡◌ {A = List ℕ} (0x66 ∷ []) (0x2e ∷ 0x2e ∷ []) → ⊥
      by (inl one) = (let bad : ◌≡◌ {A = ℕ} 0x66 0x2e = ap (λ (name : List ℕ). get_or name 0 0) one in absurd (omega arith))
      by (inr two) = (let bad : ◌≡◌ {A = ℕ} 0x66 0x2e = ap (λ (name : List ℕ). get_or name 0 0) two in absurd (omega arith))

  valid : Reason s x (Operation (Op.Lookup (0x66 ∷ []))) S.Inval → ⊥
  valid (NoName gives) = (let bad : ◌≡◌ {A = List ℕ} (0x66 ∷ []) [] = given_name (0x66 ∷ []) [] gives in cc)
  valid (NoText c is none) = (let bad : Operation (Op.Lookup (0x66 ∷ [])) ≡ Operation (Op.Create c) = is in cc)
  valid (NoRange why) = (let bad : None ≡ Some why.range = why.is in cc)
  valid (NoShare why) = by why
    where
      by : IsNoShare s x (Operation (Op.Lookup (0x66 ∷ []))) → ⊥
      by (AskOpen a is odd) = (let bad : Operation (Op.Lookup (0x66 ∷ [])) ≡ Operation (Op.Open a) = is in cc)
      by (ToNarrow a is odd) = (let bad : Operation (Op.Lookup (0x66 ∷ [])) ≡ Operation (Op.OpenDowngrade a) = is in cc)
      by (Widens a k id o is given means there wider) = (let bad : Operation (Op.Lookup (0x66 ∷ [])) ≡ Operation (Op.OpenDowngrade a) = is in cc)
  valid (ByHandle a is claim some) = (let bad : Operation (Op.Lookup (0x66 ∷ [])) ≡ Operation (Op.Open a) = is in cc)
  valid (Sized c is some) = (let bad : Operation (Op.Lookup (0x66 ∷ [])) ≡ Operation (Op.Create c) = is in cc)
  valid (Below why) = (let bad : Operation (Op.Lookup (0x66 ∷ [])) ≡ Operation (Op.Rename why.moves.asked) = why.moves.is in cc)
  valid (Fixed a is fixed) = (let bad : None ≡ Some a = is in cc)
  valid (NoValue a v is read odd) = (let bad : None ≡ Some a = is in cc)
  valid (Unreadable words is some) = (let bad : None ≡ Some words = is in cc)
  valid (Uncompared a is some) = (let bad : None ≡ Some a = is in cc)

  formed : (given : List ℕ) (h : Handle) → handle_of given ≡ Some h → Reason s x (Operation (Op.PutFh given)) S.BadHandle → ⊥
  formed given h says (other, is, none) =
      let one : given ≡ other = (let same : Operation (Op.PutFh given) ≡ Operation (Op.PutFh other) = is in cc) in
      let bad : Some h ≡ None = sym says ∙ (ap handle_of one ∙ none) in
      cc

  linked : (n : ℕ) (o : Object) → x.current ≡ Some n → object_at s.tree n ≡ Some o → is_link o.kind ≡ true → Reason s x (Operation Op.ReadLink) S.WrongType → ⊥
  linked n o at there link (m, is, here, (other, is_there, kind)) =
      let one : o ≡ other = same_Some o other (sym there ∙ (ap (object_at s.tree) (same_Some n m (sym at ∙ here)) ∙ is_there)) in
      false≢true (ap not (sym link ∙ ap (λ (o : Object). is_link o.kind) one) ∙ kind)

  typed : (c : args.Create) → is_type c.objtype ≡ true → Reason s x (Operation (Op.Create c)) S.BadType → ⊥
  typed c fine (other, is, off) =
      let one : c ≡ other = (let same : Operation (Op.Create c) ≡ Operation (Op.Create other) = is in cc) in
      false≢true (sym off ∙ (ap (λ (c : args.Create). is_type c.objtype) (sym one) ∙ fine))

  counted : ((k : Stored) → In k s.tree.objects → nat_le last_count k.object.change ≡ false) → nat_le last_count s.tree.last_object ≡ false
      → nat_le last_count s.tree.last_cookie ≡ false → (s.opens.last == last_number) ≡ false → IsSpent s → ⊥
  counted changes objects cookies states (Change n o at last) = by (stored_in s.tree.objects n) refl at
    where
      by : (k : Option Stored) → stored_in s.tree.objects n ≡ k → option_map (λ (k : Stored). k.object) k ≡ Some o → ⊥
      by None found at = cc
      by (Some k) found at =
          let there = (find_in (λ (k : Stored). k.number == n) s.tree.objects k found).0 in
          let one : k.object ≡ o = same_Some k.object o at in
          let less : o.change < last_count = subst (λ (o : Object). o.change < last_count) one (leb-false last_count k.object.change (changes k there)) in
          absurd (omega (arith, last, less))
  counted changes objects cookies states (Objects last) = (let less : s.tree.last_object < last_count = leb-false last_count s.tree.last_object objects in absurd (omega (arith, last, less)))
  counted changes objects cookies states (Cookies last) = (let less : s.tree.last_cookie < last_count = leb-false last_count s.tree.last_cookie cookies in absurd (omega (arith, last, less)))
  counted changes objects cookies states (States last) = false≢true (sym states ∙ eq-eqb s.opens.last last_number last)

  unfilled : (name : List ℕ) (n k : ℕ) → x.current ≡ Some n → object_named s.tree n name ≡ Some k → ((r : Row) → In r s.tree.rows → r.directory ≢ k)
      → Reason s x (Operation (Op.Remove name)) S.NotEmpty → ⊥
  unfilled name n k at there none (inl why) =
      let one : name ≡ why.name = (let same : Operation (Op.Remove name) ≡ Operation (Op.Remove why.name) = why.is in cc) in
      let object : k ≡ why.object = same_Some k why.object (sym there ∙ (ap (λ n. object_named s.tree n name) (same_Some n why.directory (sym at ∙ why.at))
      ∙ (ap (object_named s.tree why.directory) one ∙ why.there))) in
      none why.has.0 why.has.1 (why.has.2 ∙ sym object)
  unfilled name n k at there none (inr why) = (let bad : Operation (Op.Remove name) ≡ Operation (Op.Rename why.way.asked) = why.way.is in cc)

  few_names : (i : Item) (k : Saved) → x.saved ≡ Some k → nat_le most_links (links_in s.tree.rows k.object) ≡ false → Reason s x i S.MLink → ⊥
  few_names i k at few (name, is, saved, here, many) =
      let one : k ≡ saved = same_Some k saved (sym at ∙ here) in
      let less : links_in s.tree.rows saved.object < most_links = subst (λ (k : Saved). links_in s.tree.rows k.object < most_links) one (leb-false most_links (links_in s.tree.rows k.object) few) in
      absurd (omega (arith, many, less))

  module _ (a : Open) where
    no_clash : (o : OpenState) → s.opens.opens ≡ o ∷ [] → meets (access_of a) o.deny ≡ false → meets (deny_of a) o.access ≡ false → IsShareDenied s x (Operation (Op.Open a)) → ⊥
    no_clash o one reads denies why = clash (only (λ (p : OpenState). p ≡ o) s.opens.opens o one refl why.state why.there) why.clash
      where
        it : a ≡ why.asked
        it = let same : Operation (Op.Open a) ≡ Operation (Op.Open why.asked) = why.is in cc

        clash : why.state ≡ o → (meets (access_of why.asked) why.state.deny ≡ true) ⊎ (meets (deny_of why.asked) why.state.access ≡ true) → ⊥
        clash is (inl access) = false≢true (sym reads ∙ (ap (λ (a : Open). meets (access_of a) o.deny) it ∙ (ap (λ (o : OpenState). meets (access_of why.asked) o.deny) (sym is) ∙ access)))
        clash is (inr deny) = false≢true (sym denies ∙ (ap (λ (a : Open). meets (deny_of a) o.access) it ∙ (ap (λ (o : OpenState). meets (deny_of why.asked) o.access) (sym is) ∙ deny)))

    not_reclaimed : reclaims a.claim ≡ false → Reason s x (Operation (Op.Open a)) S.NoGrace → ⊥
    not_reclaimed off (inl (other, is, on)) =
        let one : a ≡ other = (let same : Operation (Op.Open a) ≡ Operation (Op.Open other) = is in cc) in
        false≢true (sym off ∙ (ap (λ (a : Open). reclaims a.claim) one ∙ on))
    not_reclaimed off (inr (other, is, on)) = (let bad : Operation (Op.Open a) ≡ Operation (Op.Lock other) = is in cc)

    supported_op : is_delegated a.claim ≡ false → Reason s x (Operation (Op.Open a)) S.NotSupp → ⊥
    supported_op off (inl (other, is, on)) =
        let same : Operation (Op.Open a) ≡ Operation (Op.Open other) = is in
        let one : a ≡ other = cc in
        false≢true (sym off ∙ (ap (λ (a : Open). is_delegated a.claim) one ∙ on))
    supported_op off (inr (op, is, alone)) =
        let one : Op.Open a ≡ op = (let same : Operation (Op.Open a) ≡ Operation op = is in cc) in
        false≢true (ap stands_alone one ∙ alone)

  -- opens that deny nothing
  denies_none : (i : Item) → ((o : OpenState) → In o s.opens.opens → (o.deny.reads ≡ false) × (o.deny.writes ≡ false)) → IsLockedOut s x i → ⊥
  denies_none i none why = by why.right (none why.state why.there) why.denies
    where
      by : (right : Right) → (why.state.deny.reads ≡ false) × (why.state.deny.writes ≡ false) → has_right why.state.deny right ≡ true → ⊥
      by Reads off has = false≢true (sym off.0 ∙ has)
      by Writes off has = false≢true (sym off.1 ∙ has)
      by Executes off has = false≢true has

  has_mode : (i : Item) (k : StateGiven) (n : ℕ) → by_state i ≡ Some k → ((id : StateId) → StandsFor x k id → id.number ≡ n)
      → ((access : Share) (right : Right) → access_under s.opens n ≡ Some access → used i ≡ Some right → has_right access right ≡ true) → LacksMode s x i → ⊥
  has_mode i k n is stands has why =
      let one : k ≡ why.given = same_Some k why.given (sym is ∙ why.is) in
      let number : why.id.number ≡ n = stands why.id (subst (λ k. StandsFor x k why.id) (sym one) why.means) in
      false≢true (sym why.lacks ∙ has why.access why.right (ap (access_under s.opens) (sym number) ∙ why.has) why.uses)

  fits_file : (a : Write) → nat_lt s.tree.limits.bytes (a.offset + length a.bytes) ≡ false → nat_lt 0xffff_ffff (length a.bytes) ≡ false
      → Reason s x (Operation (Op.Write a)) S.FBig → ⊥
  fits_file a past many (BySize other size is gives long) = (let bad : Operation (Op.Write a) ≡ Operation (Op.SetAttr other) = is in cc)
  fits_file a past many (Made other size is gives long) = (let bad : Operation (Op.Write a) ≡ Operation (Op.Open other) = is in cc)
  fits_file a past many (Written other is long) = (let same : Operation (Op.Write a) ≡ Operation (Op.Write other) = is in by (let one : a ≡ other = cc in one) long)
    where
      by : a ≡ other → (s.tree.limits.bytes < other.offset + length other.bytes) ⊎ (0xffff_ffff < length other.bytes) → ⊥
      by one (inl far) =
          let most : a.offset + length a.bytes ≤ s.tree.limits.bytes = ltb-false _ _ past in
          let less : s.tree.limits.bytes < a.offset + length a.bytes = subst (λ (a : Write). s.tree.limits.bytes < a.offset + length a.bytes) (sym one) far in
          absurd (omega (arith, most, less))
      by one (inr far) =
          let most : length a.bytes ≤ 0xffff_ffff = ltb-false _ _ many in
          let less : 0xffff_ffff < length a.bytes = subst (λ (a : Write). 0xffff_ffff < length a.bytes) (sym one) far in
          absurd (omega (arith, most, less))

  nothing_held : (i : Item) (r : Range) (n : ℕ) → locked i ≡ Some r → x.current ≡ Some n → ((holder b : ℕ) → InRange r.offset r.size b → s.opens.held n holder b ≡ None)
      → IsHeld s x i → ⊥
  nothing_held i r n is at free why =
      let one : r ≡ why.range = same_Some r why.range (sym is ∙ why.is) in
      let file : n ≡ why.holder.file = same_Some n why.holder.file (sym at ∙ why.at) in
      why.clash (inl (subst (λ n. s.opens.held n why.holder.number why.byte ≡ None) file
      (free why.holder.number why.byte (subst (λ (r : Range). InRange r.offset r.size why.byte) (sym one) why.within))))

  not_in_use : (given : Stateid) → (IsCurrent (state_id given) → ⊥) → ((o : OpenState) → In o s.opens.opens → o.number ≢ (state_id given).number)
      → ((l : LockState) (b : ℕ) → In l s.opens.locks → s.opens.held l.file l.number b ≡ None) → IsInUse s x (Operation (Op.FreeStateid given)) → ⊥
  not_in_use given plain opens locks why = by why.holds
    where
      it : given ≡ why.given
      it = let same : Operation (Op.FreeStateid given) ≡ Operation (Op.FreeStateid why.given) = why.is in cc

      id : why.id ≡ state_id given
      id = stands_itself x (record { given = given; sort = Either; form = Any; here = false }) why.id plain
          (subst (λ given. StandsFor x (record { given = given; sort = Either; form = Any; here = false }) why.id) (sym it) why.means)

      none : (o : Option Kind) → o ≡ None → IsSome o → ⊥
      none None is some = false≢true some
      none (Some k) is some = cc

      by : ((o : OpenState) × In o s.opens.opens × (o.number ≡ why.id.number)) ⊎ ((l : LockState) × In l s.opens.locks × (l.number ≡ why.id.number) × HoldsAny (s.opens.held l.file) l.number) → ⊥
      by (inl (o, there, number)) = opens o there (number ∙ ap (λ (i : StateId). i.number) id)
      by (inr (l, there, number, holds)) = none (s.opens.held l.file l.number holds.0) (locks l holds.0 there) holds.2

  -- READDIR
  module _ (a : ReadDir) where
    even : (a.cookie ≡ 0) → Reason s x (Operation (Op.ReadDir a)) S.BadCookie → ⊥
    even zero (other, is, odd) = by (let same : Operation (Op.ReadDir a) ≡ Operation (Op.ReadDir other) = is in let one : a ≡ other = cc in one) odd
      where
        by : a ≡ other → (other.cookie ≡ 1) ⊎ (other.cookie ≡ 2) → ⊥
        by one (inl is) = (let bad : ◌≡◌ {A = ℕ} 0 1 = sym zero ∙ (ap (λ (a : ReadDir). a.cookie) one ∙ is) in absurd (omega arith))
        by one (inr is) = (let bad : ◌≡◌ {A = ℕ} 0 2 = sym zero ∙ (ap (λ (a : ReadDir). a.cookie) one ∙ is) in absurd (omega arith))

    same_listing : a.cookieverf ≡ replicate 8 0 → Reason s x (Operation (Op.ReadDir a)) S.NotSame → ⊥
    same_listing zeros (inl (other, is, text, are, differs)) = (let bad : Operation (Op.ReadDir a) ≡ Operation (Op.Verify other) = is in cc)
    same_listing zeros (inr (other, is, differs)) =
        let one : a ≡ other = (let same : Operation (Op.ReadDir a) ≡ Operation (Op.ReadDir other) = is in cc) in
        differs (ap (λ (a : ReadDir). a.cookieverf) (sym one) ∙ zeros)

    has_room : (n : ℕ) (o : Object) (first : Entry) (more : List Entry) → x.current ≡ Some n → object_at s.tree n ≡ Some o → left s a (record { number = n; object = o }) ≡ first ∷ more
        → length (entry_text first) + shortest ≤ a.maxcount → length (entry_text first) + shortest ≤ most_transfer → Reason s x (Operation (Op.ReadDir a)) S.TooSmall → ⊥
    has_room n o first more at there are fits few (inl (other, is, short)) =
        let same : Operation (Op.ReadDir a) ≡ Operation (Op.ReadDir other) = is in
        let one : a ≡ other = cc in
        let less : a.maxcount < 16 = subst (λ (a : ReadDir). a.maxcount < 16) (sym one) short in
        absurd (omega (arith, fits, less))
    has_room n o first more at there are fits few (inr why) = by why.long
      where
        it : a ≡ why.asked
        it = let same : Operation (Op.ReadDir a) ≡ Operation (Op.ReadDir why.asked) = why.is in cc

        number : n ≡ why.node.number
        number = same_Some n why.node.number (sym at ∙ why.at)

        object : o ≡ why.node.object
        object = same_Some o why.node.object (sym there ∙ (ap (object_at s.tree) number ∙ why.there))

        its_entry : first ≡ why.first
        its_entry =
            let same : left s a (record { number = n; object = o }) ≡ left s why.asked why.node = λ i. left s (it i) (record { number = number i; object = object i }) in
            let lists : first ∷ more ≡ why.first ∷ why.more = sym are ∙ (same ∙ why.are) in
            cc

        by : (why.asked.maxcount < length (entry_text why.first) + shortest) ⊎ (most_transfer < length (entry_text why.first) + shortest) → ⊥
        by (inl long) =
            let less : a.maxcount < length (entry_text first) + shortest = subst (λ (e : Entry). a.maxcount < length (entry_text e) + shortest) (sym its_entry)
            (subst (λ (b : ReadDir). b.maxcount < length (entry_text why.first) + shortest) (sym it) long) in
            absurd (omega (arith, fits, less))
        by (inr long) =
            let less : most_transfer < length (entry_text first) + shortest = subst (λ (e : Entry). most_transfer < length (entry_text e) + shortest) (sym its_entry) long in
            absurd (omega (arith, few, less))

  -- attributes that can be set
  module _ (i : Item) (a : Attributes) (given : given_in i ≡ Some a) where
    known : within (mask_of a.attrmask) (supported Exact) ≡ true → compared i ≡ None → Reason s x i S.AttrNotSupp → ⊥
    known all other (inl (b, is, off)) =
        let one : a ≡ b = same_Some a b (sym given ∙ is) in
        false≢true (sym off ∙ (ap (λ (a : Attributes). within (mask_of a.attrmask) (supported Exact)) (sym one) ∙ all))
    known all other (inr (b, is, off)) = (let bad : None ≡ Some b = sym other ∙ is in cc)

    owned : (v : Settings) → values_in a ≡ Some v → v.owner ≡ None → v.group ≡ None → NamesNobody i → ⊥
    owned v read owner group why =
        let one : a ≡ why.given = same_Some a why.given (sym given ∙ why.is) in
        let set : v ≡ why.set = same_Some v why.set (sym read ∙ (ap values_in one ∙ why.read)) in
        by set why.of
      where
        by : v ≡ why.set → (why.set.owner ≡ Some why.text) ⊎ (why.set.group ≡ Some why.text) → ⊥
        by set (inl is) = (let bad : None ≡ Some why.text = sym owner ∙ (ap (λ (v : Settings). v.owner) set ∙ is) in cc)
        by set (inr is) = (let bad : None ≡ Some why.text = sym group ∙ (ap (λ (v : Settings). v.group) set ∙ is) in cc)

    whole_values : (v : Settings) → values_in a ≡ Some v → Reason s x i S.BadXdr → ⊥
    whole_values v read (b, is, none) =
        let one : a ≡ b = same_Some a b (sym given ∙ is) in
        let bad : Some v ≡ None = sym read ∙ (ap values_in one ∙ none) in
        cc

  -- the current object's mode
  module _ (n : ℕ) (o : Object) (at : x.current ≡ Some n) (there : object_at s.tree n ≡ Some o) where
    its_mode : (a : Attributes) (text : List ℕ) → a.attrmask ≡ 0 ∷ 2 ∷ [] → AreValues s x a text → text ≡ number o.mode
    unfolding number values attributes
    its_mode a text mask are =
        let one : o ≡ are.node.object = same_Some o are.node.object (sym there ∙ (ap (object_at s.tree) (same_Some n are.node.number (sym at ∙ are.at)) ∙ are.there)) in
        are.are ∙ (ap (λ m. values (mask_of m) (about s are.node) are.node.object) mask ∙ ap (λ (o : Object). number o.mode) (sym one))

    is_equal : (a : Attributes) → a.attrmask ≡ 0 ∷ 2 ∷ [] → a.attr_vals ≡ number o.mode → Reason s x (Operation (Op.Verify a)) S.NotSame → ⊥
    is_equal a mask same (inl (b, is, text, are, differs)) =
        let it : a ≡ b = (let one : Operation (Op.Verify a) ≡ Operation (Op.Verify b) = is in cc) in
        differs (ap (λ (a : Attributes). a.attr_vals) (sym it) ∙ (same ∙ sym (its_mode b text (ap (λ (a : Attributes). a.attrmask) (sym it) ∙ mask) are)))
    is_equal a mask same (inr (b, is, differs)) = (let bad : Operation (Op.Verify a) ≡ Operation (Op.ReadDir b) = is in cc)

    is_other : (a : Attributes) → a.attrmask ≡ 0 ∷ 2 ∷ [] → a.attr_vals ≢ number o.mode → Reason s x (Operation (Op.NVerify a)) S.Same → ⊥
    is_other a mask differs (b, is, are) =
        let it : a ≡ b = (let one : Operation (Op.NVerify a) ≡ Operation (Op.NVerify b) = is in cc) in
        differs (ap (λ (a : Attributes). a.attr_vals) it ∙ its_mode b b.attr_vals (ap (λ (a : Attributes). a.attrmask) (sym it) ∙ mask) are)

-- The runs.

pub are_granted : AreGranted
unfolding computing save_fh both link verify values nverify read_dir_args entry_of fitting read_dir results.entry results.fattr listing.read_dir
are_granted = record { found = refl; put = refl; linked = refl; complete = refl; verified = refl; differed = refl; listed = refl; locked = refl }

-- The wrong answers.

not_current : IsCurrent (record { seqid = 1; instance = 7; number = 2 }) → ⊥
not_current at = no_current at.1

one_two : ◌≢◌ {A = ℕ} 1 2
one_two e = absurd (omega arith)

six : IsIn 0 (record { uid = 5; gid = 6; gids = [] }) → ⊥
six (First is) = (let bad : ◌≡◌ {A = ℕ} 6 0 = is in absurd (omega arith))
six (Further none) = none

-- 777 lets everybody search
searched : Grants (record { mode = 511; owner = 0; group = 0 }) (record { uid = 5; gid = 6; gids = [] }) Executes
searched = ToOthers no_user six refl

denied : Refused made finds S.Access
unfolding computing
denied d is = let e = last_of d (ops_of made finds) in
    not_denied e.before.store e.context 1 refl (0x66 ∷ []) (record { mode = 511; owner = 0; group = 0 }) refl searched ((is.answered refl).refused refl)

out_of_order : Refused made finds S.SequencePos
unfolding computing
out_of_order d is = by ((is.answered refl).refused refl)
  where
    by : (a : Sequence) × (Operation (Op.Lookup (0x66 ∷ [])) ≡ Operation (Op.Sequence a)) → ⊥
    by (a, is) = (let bad : Operation (Op.Lookup (0x66 ∷ [])) ≡ Operation (Op.Sequence a) = is in cc)

abbrev making : args.Create
making = record { objtype = Other 2; objname = 0x64 ∷ []; createattrs = record { attrmask = []; attr_vals = [] } }

no_more : (a b : ℕ) → nat_le a b ≡ false → a ≤ b → ⊥
no_more a b off most = (let less : b < a = leb-false a b off in absurd (omega (arith, most, less)))

spent : Refused made creates S.ServerFault
unfolding computing create create_args create_type
spent d is = let e = last_of d (ops_of made creates) in counted e.before.store e.context (low e.before.store refl) refl refl refl ((is.answered refl).refused refl)
  where
    low : (s : State) → list_any (λ (k : Stored). nat_le last_count k.object.change) s.tree.objects ≡ false → (k : Stored) → In k s.tree.objects → nat_le last_count k.object.change ≡ false
    low s none k there = none_any (λ (k : Stored). nat_le last_count k.object.change) s.tree.objects k none there

abbrev its_open : OpenState
its_open = record { number = 1; client = 7 * 2 ^ 32 + 1; owner = 0x6f ∷ []; file = 2; access = record { reads = true; writes = true }; deny = neither; seqid = 1 }

no_seqid : IsCurrent (record { seqid = 0; instance = 0; number = 0 }) → ⊥
no_seqid at = (let bad : ◌≡◌ {A = ℕ} 0 1 = at.0 in absurd (omega arith))

mode : Refused made writes S.OpenMode
unfolding computing
mode d is = let e = last_of d (ops_of made writes) in
    has_mode e.before.store e.context e.item (record { given = anonymous; sort = Either; form = Any; here = true }) 0 refl
    (λ id means. ap (λ (i : StateId). i.number) (stands_itself e.context (record { given = anonymous; sort = Either; form = Any; here = true }) id no_seqid means))
    (λ access right under uses. absurd (let bad : None ≡ Some access = under in cc)) ((is.answered refl).refused refl)

abbrev four : Write
four = record { stateid = anonymous; offset = 0; stable = Unstable; bytes = 0x73 ∷ 0x65 ∷ 0x65 ∷ 0x6e ∷ [] }

lock_mode : Refused made locks S.OpenMode
unfolding computing
lock_mode d is = let e = last_of d (ops_of made locks) in
    has_mode e.before.store e.context e.item (record { given = current_stateid; sort = OpenOnly; form = Any; here = true }) 1 refl (its_number e.context refl)
    (λ access right under uses. writes_all access right (same_Some _ access under) (same_Some _ right uses)) ((is.answered refl).refused refl)
  where
    its_number : (x : Context) → (state_id x.stateid).number ≡ 1 → (id : StateId) → StandsFor x (record { given = current_stateid; sort = OpenOnly; form = Any; here = true }) id → id.number ≡ 1
    its_number x one id (Itself other same) = absurd (other (refl, refl, refl))
    its_number x one id (TheCurrent is some same) = ap (λ (i : StateId). i.number) same ∙ one

    writes_all : (access : Share) (right : Right) → record { reads = true; writes = true } ≡ access → Writes ≡ right → has_right access right ≡ true
    writes_all access right same is = subst (λ (a : Share). has_right a right ≡ true) same (subst (λ r. has_right (record { reads = true; writes = true }) r ≡ true) is refl)

in_use : (d : RanOp) → AnswersSo (with_status S.LocksHeld (first_of d (ops_of free frees))) → ⊥
unfolding computing
in_use d is = let e = first_of d (ops_of free frees) in not_in_use e.before.store e.context (stateid 0 2) plain
    (only (λ (o : OpenState). o.number ≢ 2) e.before.store.opens.opens its_open refl one_two)
    (λ l b. only (λ (l : LockState). e.before.store.opens.held l.file l.number b ≡ None) e.before.store.opens.locks _ refl (cleared b) l) ((is.answered refl).refused refl)
  where
    plain : IsCurrent (record { seqid = 0; instance = 7; number = 2 }) → ⊥
    plain at = no_current at.1

    cleared : (b : ℕ) → (if (2 == 2) && is_within 0 0 b then None else if (2 == 2) && is_within 0 0 b then Some ToWrite else None) ≡ None
    cleared b = elim (is_within 0 0 b) as (λ c. (if (2 == 2) && c then None else if (2 == 2) && c then Some ToWrite else None) ≡ None) [ true ↦ refl | false ↦ refl ]

-- READDIR and attributes

abbrev first_page : ReadDir
first_page = record { cookie = 0; cookieverf = replicate 8 0; dircount = 512; maxcount = 512; attr_request = 0x10_0000 ∷ [] }

cookie : Refused made lists S.BadCookie
unfolding computing read_dir_args values entry_of fitting read_dir results.entry results.fattr listing.read_dir
cookie d is = let e = last_of d (ops_of made lists) in even e.before.store e.context first_page refl ((is.answered refl).refused refl)

abbrev one_entry : ReadDir
one_entry = record { cookie = 0; cookieverf = replicate 8 0; dircount = 56; maxcount = 56; attr_request = 0x10_0000 ∷ [] }

-- 040, as four bytes
abbrev its_mode_set : Attributes
its_mode_set = record { attrmask = 0 ∷ 2 ∷ []; attr_vals = words (32 ∷ []) }

abbrev values_set : Settings
values_set = record { size = None; mode = Some 32; owner = None; group = None; access = None; modify = None }

other_mode : ◌≢◌ {A = List ℕ} (number 384) (number 420)
unfolding number
other_mode same = (let bad : ◌≡◌ {A = ℕ} 128 164 = ap (λ (t : List ℕ). get_or t 3 0) same in absurd (omega arith))

pub rows_refused : RowsRefused
unfolding computing create create_args create_type read_link results.create remove save_fh both link read_dir_args values entry_of fitting read_dir
    results.entry results.fattr listing.read_dir set_attr_args set_attr verify nverify
rows_refused = record {
  no_handle = λ d is. (let e = last_of d (ops_of made finds) in handled e.before.store e.context 1 refl e.item refl ((is.answered refl).refused refl));
  stale = λ d is. (let e = last_of d (ops_of made finds) in fresh e.before.store e.context 1 refl e.item refl refl (λ given so. cc) ((is.answered refl).refused refl));
  symlink = λ d is. (let e = last_of d (ops_of made finds) in no_symlink e.before.store e.context 1 refl (0x66 ∷ []) _ refl refl ((is.answered refl).refused refl));
  denied = denied;
  long = λ d is. (let e = last_of d (ops_of made finds) in not_long e.before.store e.context ((is.answered refl).refused refl));
  odd = λ d is. (let e = last_of d (ops_of made finds) in no_odd_byte e.before.store e.context ((is.answered refl).refused refl));
  dots = λ d is. (let e = last_of d (ops_of made finds) in no_dots e.before.store e.context ((is.answered refl).refused refl));
  invalid = λ d is. (let e = last_of d (ops_of made finds) in valid e.before.store e.context ((is.answered refl).refused refl));
  out_of_order = out_of_order;
  no_form = λ d is. (let e = last_of d (ops_of made puts) in formed e.before.store e.context (handle 2) (record { instance = 7; number = 2 }) refl ((is.answered refl).refused refl));
  no_link = λ d is. (let e = last_of d (ops_of made reads_link) in linked e.before.store e.context 3 _ refl refl refl ((is.answered refl).refused refl));
  no_type = λ d is. (let e = last_of d (ops_of made creates) in typed e.before.store e.context making refl ((is.answered refl).refused refl));
  full = λ d is. (let e = last_of d (ops_of made creates) in no_more _ _ refl ((is.answered refl).refused refl).1);
  spent = spent;
  filled = λ d is. (let e = last_of d (ops_of made removes) in unfilled e.before.store e.context (0x66 ∷ []) 1 2 refl refl
      (only (λ (r : Row). r.directory ≢ 2) e.before.store.tree.rows _ refl one_two) ((is.answered refl).refused refl));
  many_names = λ d is. (let e = last_of d (ops_of made links) in few_names e.before.store e.context e.item (record { object = 2; stateid = anonymous }) refl refl ((is.answered refl).refused refl));
  share = λ d is. (let e = last_of d (ops_of made (opens NoCreate)) in no_clash e.before.store e.context (asking NoCreate) its_open refl refl refl ((is.answered refl).refused refl));
  grace = λ d is. (let e = last_of d (ops_of made (opens NoCreate)) in not_reclaimed e.before.store e.context (asking NoCreate) refl ((is.answered refl).refused refl));
  unsupported = λ d is. (let e = last_of d (ops_of made (opens NoCreate)) in supported_op e.before.store e.context (asking NoCreate) refl ((is.answered refl).refused refl));
  locked = λ d is. (let e = last_of d (ops_of made writes) in denies_none e.before.store e.context e.item
      (only (λ (o : OpenState). (o.deny.reads ≡ false) × (o.deny.writes ≡ false)) e.before.store.opens.opens its_open refl (refl, refl)) ((is.answered refl).refused refl));
  mode = mode;
  big = λ d is. (let e = last_of d (ops_of made writes) in fits_file e.before.store e.context four refl refl ((is.answered refl).refused refl));
  clash = λ d is. (let e = last_of d (ops_of made locks) in
      nothing_held e.before.store e.context e.item (record { type = LockTypes.Write; offset = 0; size = 1 }) 2 refl refl (λ holder b within. refl) ((is.answered refl).refused refl));
  lock_mode = lock_mode;
  in_use = in_use;
  completed = λ d is. false≢true (is.reclaimed false refl refl);
  cookie = cookie;
  other_listing = λ d is. (let e = last_of d (ops_of made lists) in same_listing e.before.store e.context first_page refl ((is.answered refl).refused refl));
  small = λ d is. (let e = last_of d (ops_of made lists_one) in
      has_room e.before.store e.context one_entry 1 _ (entry 2) [] refl refl refl (omega arith) (omega arith) ((is.answered refl).refused refl));
  unknown = λ d is. (let e = last_of d (ops_of made to_group) in known e.before.store e.context e.item its_mode_set refl refl refl ((is.answered refl).refused refl));
  nobody = λ d is. (let e = last_of d (ops_of made to_group) in owned e.before.store e.context e.item its_mode_set refl values_set refl refl refl ((is.answered refl).refused refl));
  cut = λ d is. (let e = last_of d (ops_of made to_group) in whole_values e.before.store e.context e.item its_mode_set refl values_set refl ((is.answered refl).refused refl));
  unequal = λ d is. (let e = last_of d (ops_of made verifies) in
      is_equal e.before.store e.context 2 _ refl refl (record { attrmask = 0 ∷ 2 ∷ []; attr_vals = number 420 }) refl refl ((is.answered refl).refused refl));
  equal = λ d is. (let e = last_of d (ops_of made differs) in
      is_other e.before.store e.context 2 _ refl refl (record { attrmask = 0 ∷ 2 ∷ []; attr_vals = number 384 }) refl other_mode ((is.answered refl).refused refl));
}

-- What has no reason to be refused.

as_told : (s : State) (x : Context) → state_of s.opens (state_id lock_given.given) ≡ Some lock_told → IsOwn x lock_given lock_told → IsAsTold s x lock_given (state_id lock_given.given) lock_told
unfolding number
as_told s x names own = record { means = Itself not_current refl; plain = not_special; names = names; own = own; seqid = inr refl }

bad : (d : RanOp) → IsNotRefused (with_status S.BadStateId (last_of d (ops_of asked gives_up))) → ⊥
unfolding computing
bad d is = let e = last_of d (ops_of asked gives_up) in
    (is.taken lock_given (state_id lock_given.given) lock_told refl (as_told e.before.store e.context refl (record { client = refl; file = λ on. refl; sort = refl }))).1 refl

-- the open of `A`, which its LOCK goes by
abbrev open_told : StateTold
open_told = record { sort = OpenOnly; client = 7 * 2 ^ 32 + 1; file = 2; seqid = 2 }

abbrev open_meant : StateId
open_meant = record { seqid = 0; instance = 7; number = 1 }

named_open : IsSpecial open_meant → ⊥
named_open (AllZeros a b c) = no_current b
named_open (AllOnes a b c) = (let bad : ◌≡◌ {A = ℕ} 7 0xffff_ffff = b in absurd (omega arith))

known_open : IsNone (record { seqid = 2; instance = 7; number = 1 }) → ⊥
known_open (Zeros a b) = no_current a
known_open (Ones a b) = (let bad : ◌≡◌ {A = ℕ} 7 0xffff_ffff = a in absurd (omega arith))

pub grants_refused : GrantsRefused
unfolding computing
grants_refused = record {
  old = λ d is. (let e = last_of d (ops_of asked gives_up) in
      (is.taken lock_given (state_id lock_given.given) lock_told refl (as_told e.before.store e.context refl (record { client = refl; file = λ on. refl; sort = refl }))).0 refl);
  bad = bad;
  denied = λ d is. (let e = last_of d (ops_of made locks) in false≢true (is.locked locked_byte refl (record {
    file = 2;
    object = _;
    at = refl;
    there = refl;
    used = refl;
    kind = refl;
    some = λ none. (let bad : ◌≡◌ {A = ℕ} 1 0 = none in absurd (omega arith));
    within = inr (omega arith);
    fresh = refl;
    id = open_meant;
    state = open_told;
    told = record { means = TheCurrent (refl, refl, refl) known_open refl; plain = named_open; names = refl; own = record { client = refl; file = λ on. refl; sort = refl }; seqid = inl refl };
    access = record { reads = true; writes = true };
    has = refl;
    may = refl;
    free = λ holder b there other within. inl refl;
    counted = counted e.before.store e.context (λ k there. none_any (λ (k : Stored). nat_le last_count k.object.change) e.before.store.tree.objects k refl there) refl refl refl;
  }) (λ lacks. no_less _ _ refl lacks) refl));
}
