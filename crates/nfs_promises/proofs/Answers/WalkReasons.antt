-- Operations that move the filehandle, list, test and compare: what they are refused with has its reason.
use Rattle.std.proofs.Common.{◌≡◌, ◌≢◌, ◌⊎◌, ℕ, suc, Bool, true, false, cond, not, List, [], ◌∷◌, Option, Some, None, refl, sym, ◌∙◌, ap, subst, arith, inl, inr}
use Rattle.std.proofs.lemmas.{Bool.{and_parts, false≢true, leb-false, ltb-true, not-false, not-true, eqb-true, eq-eqb}, List.append-nil, Slice.Eq.bytes_eq-Decides}
use Rattle.std.specs.{Prelude.{◌==◌, ◌||◌, ◌&&◌, ◌+◌, ◌<◌, ◌++◌, length, nat_le, nat_lt, is_some, bytes_eq, find, replicate, option_map, Result, Ok, Err, ok_or}, List.flat_map}
use Rattle.nfs_xdr.specs.{Limits.most_transfer, declared.status.Status.Status}
use Rattle.nfs_xdr.specs.declared.status.Status.TheVariants as S
use Rattle.nfs_xdr.proofs.Lists.{none_found, none_any}
use Rattle.nfs_compound.specs.{declared.attributes.Attributes.Attributes, declared.name_args.{ReadDir.ReadDir, SecinfoStyle.SecinfoStyle, SecinfoStyle.TheVariants.{CurrentFh, Parent}}}
use Rattle.nfs_compound.specs.{declared.stateid.Stateid.Stateid, declared.op.Item.Item, declared.op.Item.TheVariants.Operation}
use Rattle.nfs_compound.specs.declared.op.Op.TheVariants as Op
use Rattle.nfs_compound.specs.declared.op_num.OpNum.TheVariants as Num
use Rattle.nfs_results.specs.{Largest.given, declared.res.Entry.Entry, Straight.entry_text}
use Rattle.nfs_tree.specs.{declared.object.Object.Object, declared.row.Row.Row, Files.{object_at, parent_in}}
use Rattle.nfs_attrs.specs.{declared.handle.Handle.Handle, Handle.handle_of, Attributes.{supported, values}, Mask.{asks_set_only, has, mask_of, within}, Permissions.{execute}}
use Rattle.nfs_opens.specs.Steps.{require}
use Rattle.nfs_names.specs.{declared.context.Context.Context, declared.context.Saved.Saved, declared.node.Node.Node, State.State, Outcome.Outcome, Attributes.about}
use Rattle.nfs_names.specs.{Access.access, LookupP.lookup_p, NVerify.nverify, PutFh.put_fh, PutPubFh.put_pub_fh, PutRootFh.put_root_fh, RestoreFh.restore_fh}
use Rattle.nfs_names.specs.{ReadDir.{left, longest, fitting, listing_checks, fits_none, read_dir}, SecinfoNoName.{style_checks, secinfo_no_name}, Verify.{compared, verify}}
use Rattle.nfs_names.specs.Checks.{current, no_directory, no_access}
use Rattle.nfs_names.proofs.Found.{came, ok_is}
use Rattle.nfs_files.specs.TestStateid.{test_stateid}
use Rattle.nfs_files.proofs.{TreeFiles.IsWhole, WrittenOps.current_number}
use Rattle.nfs_promises.specs.{Permission.Permitted.{Reads, Executes}, Names.FileStays.is_on_current, Answers.Asked.{AtSaved, Left, leaves, ToLeave, ToList}}
use Rattle.nfs_promises.specs.Answers.{Invalid.{AreValues, LeavesNoEntry, Unreadable, Uncompared}, Reasons.{IsNameless, Reason}}
use Rattle.nfs_promises.specs.Answers.Invalid as invalid
use Rattle.nfs_promises.proofs.Answers.Blaming.{Blames, AllBlame, bool_blames, then_blames, there_blames, held_blames, ends_then, ends_checks, answers_blame}
use Rattle.nfs_promises.proofs.Answers.Placed.{Answers, refused_so, done_so, found_now, unused, current_blames, denied_by, no_directory_blames}
use Rattle.nfs_promises.proofs.Permission.Granting.{may_read, may_execute}
use Rattle.std.proofs.lemmas.Bool.{or_cases}

-- an object that no row names
nameless : (s : State) (x : Context) (i : Item) (d : Node) → leaves i ≡ true → current s x ≡ Ok d → parent_in s.tree.rows d.number ≡ None → IsNameless s x i
nameless s x i d on e none = record {
  number = d.number;
  of = Left on (current_number s x d e);
  none = λ r there same. false≢true (sym (none_any (λ (r : Row). r.object == d.number) s.tree.rows r (none_found _ s.tree.rows (no_row (find (λ (r : Row). r.object == d.number) s.tree.rows) none)) there)
      ∙ eq-eqb r.object d.number same);
}
  where
    no_row : (o : Option Row) → option_map (λ (r : Row). r.directory) o ≡ None → o ≡ None
    no_row None e = refl
    no_row (Some r) e = absurd cc

module _ (s : State) (whole : IsWhole s) (x : Context) where
  pub access_blames : (asked : ℕ) → Answers s x (Operation (Op.Access asked)) (access s x asked)
  unfolding access
  access_blames asked =
      let i : Item = Operation (Op.Access asked) in
      answers_blame (Reason s x i) (Answers s x i) s x Num.Access _ (refused_so s x i Num.Access) (ends_then (Reason s x i) (Answers s x i) (current s x) _
      (current_blames s whole x i refl) (λ d e. done_so s x i tt))

  pub lookup_p_blames : Answers s x (Operation Op.LookupP) (lookup_p s x)
  unfolding lookup_p
  lookup_p_blames =
      let i : Item = Operation Op.LookupP in
      let B : Status → Type 0 = Reason s x i in
      let Y : Outcome → Type 0 = Answers s x i in
      answers_blame B Y s x Num.LookupP _ (refused_so s x i Num.LookupP) (ends_then B Y (current s x) _ (current_blames s whole x i refl) (λ d e.
      ends_checks B Y (no_directory d ∷ no_access x d execute ∷ []) _ (
        no_directory_blames s x i d refl e,
        λ u. (
          λ lacks. denied_by s x i d (Executes ∷ []) e (ToLeave d.number (current_number s x d e)) (λ all. false≢true (sym (not-true _ lacks) ∙ may_execute x d (all Executes (inl refl)))),
          λ u. tt,
        ),
      ) (λ placed. ends_then B Y (ok_or (parent_in s.tree.rows d.number) S.NoEnt) _
      (there_blames B (parent_in s.tree.rows d.number) S.NoEnt (λ none. inr (nameless s x i d refl e none))) (λ n there. done_so s x i tt))))

  other_verifier : (given : List ℕ) → not (bytes_eq given (replicate 8 0)) ≡ true → given ≢ replicate 8 0
  other_verifier given other same = false≢true (sym (not-true _ other) ∙ (bytes_eq-Decides given (replicate 8 0)).1 same)

  odd_cookie : (cookie : ℕ) → cookie == 1 || cookie == 2 ≡ true → (cookie ≡ 1) ⊎ (cookie ≡ 2)
  odd_cookie cookie odd = elim (or_cases (cookie == 1) (cookie == 2) odd) [ inl one ↦ inl (eqb-true _ _ one) | inr two ↦ inr (eqb-true _ _ two) ]

  -- an entry is left that has no room
  no_entry : (a : ReadDir) (d : Node) → current s x ≡ Ok d → fits_none s a d ≡ true → LeavesNoEntry s x (Operation (Op.ReadDir a))
  unfolding fitting
  no_entry a d e none = by (left s a d) refl none
    where
      too_long : (size : ℕ) (b : Bool) → cond b most_transfer a.maxcount < size → (a.maxcount < size) ⊎ (most_transfer < size)
      too_long size true less = inr less
      too_long size false less = inl less

      first : (f : Entry) (more : List Entry) → left s a d ≡ f ∷ more → (b : Bool) → nat_le (length (entry_text f ++ []) + 16) (given a.maxcount) ≡ b → (rest : List Entry)
          → length (cond b (f ∷ rest) []) == 0 ≡ true → LeavesNoEntry s x (Operation (Op.ReadDir a))
      first f more are true fits rest none = (let zero : suc (length rest) ≡ 0 = eqb-true (length (f ∷ rest)) 0 none in absurd (omega arith))
      first f more are false fits rest none = (let found = found_now s x d e in
          record {
            asked = a;
            is = refl;
            node = d;
            at = found.0;
            there = found.1;
            first = f;
            more = more;
            are = are;
            long = too_long (length (entry_text f) + 16) (nat_lt most_transfer a.maxcount) (subst (λ (t : List ℕ). given a.maxcount < length t + 16) (append-nil (entry_text f)) (leb-false (length (entry_text f ++ []) + 16) (given a.maxcount) fits));
          })

      by : (l : List Entry) → left s a d ≡ l
          → nat_lt 0 (length l) && length (longest (λ entries. nat_le (length (flat_map entry_text entries) + 16) (given a.maxcount)) l) == 0 ≡ true
          → LeavesNoEntry s x (Operation (Op.ReadDir a))
      by [] are none = absurd (false≢true none)
      by (f ∷ more) are none = first f more are (nat_le (length (entry_text f ++ []) + 16) (given a.maxcount)) refl _ (and_parts (nat_lt 0 (length (f ∷ more))) _ none).1

  pub read_dir_blames : (a : ReadDir) → Answers s x (Operation (Op.ReadDir a)) (read_dir s x a)
  unfolding read_dir
  read_dir_blames a =
      let i : Item = Operation (Op.ReadDir a) in
      let B : Status → Type 0 = Reason s x i in
      let Y : Outcome → Type 0 = Answers s x i in
      answers_blame B Y s x Num.ReadDir _ (refused_so s x i Num.ReadDir) (ends_then B Y (current s x) _ (current_blames s whole x i refl) (λ d e.
      ends_checks B Y (listing_checks x a d) _ (
        no_directory_blames s x i d refl e,
        λ u. (
          λ lacks. denied_by s x i d (Reads ∷ []) e (ToList d.number a (current_number s x d e)) (λ all. false≢true (sym (not-true _ lacks) ∙ may_read x d (all Reads (inl refl)))),
          λ u. (
            λ some. Unreadable a.attr_request refl (or_cases (has (mask_of a.attr_request) 48) (has (mask_of a.attr_request) 54) some),
            λ u. (λ other. inr (a, refl, other_verifier a.cookieverf other), λ u. (λ odd. (a, refl, odd_cookie a.cookie odd), λ u. (λ small. inl (a, refl, ltb-true a.maxcount 16 small), λ u. tt))),
          ),
        ),
      ) (λ placed. ends_then B Y (require (not (fits_none s a d)) S.TooSmall) _ (held_blames B (not (fits_none s a d)) S.TooSmall (λ none. inr (no_entry a d e (not-false _ none)))) (λ u e. done_so s x i tt))))

  pub put_fh_blames : (h : List ℕ) → Answers s x (Operation (Op.PutFh h)) (put_fh s x h)
  unfolding put_fh
  put_fh_blames h =
      let i : Item = Operation (Op.PutFh h) in
      let B : Status → Type 0 = Reason s x i in
      let Y : Outcome → Type 0 = Answers s x i in
      answers_blame B Y s x Num.PutFh _ (refused_so s x i Num.PutFh) (ends_then B Y (ok_or (handle_of h) S.BadHandle) _
      (there_blames B (handle_of h) S.BadHandle (λ none. (h, refl, none))) (λ g says.
      ends_checks B Y ((not (g.instance == s.opens.instance), S.Stale) ∷ (not (is_some (object_at s.tree g.number)), S.Stale) ∷ []) _ (
        λ other. inr (record {
          given = h;
          is = refl;
          handle = g;
          says = said (handle_of h) g says;
          stale = inl (λ same. false≢true (sym (not-true _ other) ∙ eq-eqb g.instance s.opens.instance same));
        }),
        λ u. (λ gone. inr (record { given = h; is = refl; handle = g; says = said (handle_of h) g says; stale = inr (unused s g.number whole (none_of (object_at s.tree g.number) gone)) }), λ u. tt),
      ) (λ u. done_so s x i tt)))
    where
      said : (o : Option Handle) (g : Handle) → ok_or o S.BadHandle ≡ Ok g → o ≡ Some g
      said None g e = absurd cc
      said (Some k) g e = (let same : k ≡ g = cc in ap Some same)

      none_of : (o : Option Object) → not (is_some o) ≡ true → o ≡ None
      none_of None gone = refl
      none_of (Some o) gone = absurd (false≢true gone)

  pub restore_fh_blames : Answers s x (Operation Op.RestoreFh) (restore_fh s x)
  unfolding restore_fh
  restore_fh_blames =
      let i : Item = Operation Op.RestoreFh in
      let B : Status → Type 0 = Reason s x i in
      let Y : Outcome → Type 0 = Answers s x i in
      answers_blame B Y s x Num.RestoreFh _ (refused_so s x i Num.RestoreFh) (ends_then B Y (ok_or x.saved S.NoFileHandle) _
      (there_blames B x.saved S.NoFileHandle (λ none. inr (refl, none))) (λ saved is.
      ends_then B Y (require (is_some (object_at s.tree saved.object)) S.Stale) _
      (held_blames B (is_some (object_at s.tree saved.object)) S.Stale (λ gone.
      inl (saved.object, AtSaved saved refl (was x.saved saved is) refl, unused s saved.object whole (none_of (object_at s.tree saved.object) gone)))) (λ u e. done_so s x i tt)))
    where
      was : (o : Option Saved) (k : Saved) → ok_or o S.NoFileHandle ≡ Ok k → o ≡ Some k
      was None k e = absurd cc
      was (Some j) k e = (let same : j ≡ k = cc in ap Some same)

      none_of : (o : Option Object) → is_some o ≡ false → o ≡ None
      none_of None gone = refl
      none_of (Some o) gone = absurd (false≢true (sym gone))

  style_all : (style : SecinfoStyle) (d : Node) → current s x ≡ Ok d → AllBlame (Reason s x (Operation (Op.SecinfoNoName style))) (style_checks s style d)
  style_all CurrentFh d e = tt
  style_all Parent d e =
      let i : Item = Operation (Op.SecinfoNoName Parent) in
      (no_directory_blames s x i d refl e, λ u. (λ none. inr (nameless s x i d refl e (no_parent (parent_in s.tree.rows d.number) none)), λ u. tt))
    where
      no_parent : (o : Option ℕ) → not (is_some o) ≡ true → o ≡ None
      no_parent None gone = refl
      no_parent (Some n) gone = absurd (false≢true gone)

  pub secinfo_blames : (style : SecinfoStyle) → Answers s x (Operation (Op.SecinfoNoName style)) (secinfo_no_name s x style)
  unfolding secinfo_no_name
  secinfo_blames style =
      let i : Item = Operation (Op.SecinfoNoName style) in
      answers_blame (Reason s x i) (Answers s x i) s x Num.SecinfoNoName _ (refused_so s x i Num.SecinfoNoName) (ends_then (Reason s x i) (Answers s x i) (current s x) _
      (current_blames s whole x i refl) (λ d e. ends_checks (Reason s x i) (Answers s x i) (style_checks s style d) _ (style_all style d e) (λ u. done_so s x i tt)))

  compared_blames : (i : Item) (a : Attributes) → invalid.compared i ≡ Some a → is_on_current i ≡ true → Blames (Reason s x i) (compared s x a)
  compared_blames i a is on = then_blames (Reason s x i) (current s x) _ (current_blames s whole x i on) (λ d e.
      bool_blames (Reason s x i) (not (within (mask_of a.attrmask) (supported s.tree.profile))) _ _ (λ unknown. inr (a, is, not-true _ unknown)) (λ known.
      bool_blames (Reason s x i) (has (mask_of a.attrmask) 11 || asks_set_only (mask_of a.attrmask)) _ _ (λ odd.
      Uncompared a is (by (has (mask_of a.attrmask) 11) (has (mask_of a.attrmask) 48) (has (mask_of a.attrmask) 54) odd)) (λ u. tt)))
    where
      by : (p q r : Bool) → p || (q || r) ≡ true → (p ≡ true) ⊎ ((q ≡ true) ⊎ (r ≡ true))
      by true q r e = inl refl
      by false true r e = inr (inl refl)
      by false false r e = inr (inr e)

  -- what was compared are the object's values
  are_compared : (a : Attributes) (equal : Bool) → compared s x a ≡ Ok equal → (text : List ℕ) × AreValues s x a text × (bytes_eq a.attr_vals text ≡ equal)
  are_compared a equal e =
      let d = came (current s x) _ equal e in
      let found = found_now s x d.found d.is in
      let text = values (mask_of a.attrmask) (about s d.found) d.found.object in (
        text,
        record { node = d.found; at = found.0; there = found.1; are = refl },
        by text (not (within (mask_of a.attrmask) (supported s.tree.profile))) (has (mask_of a.attrmask) 11 || asks_set_only (mask_of a.attrmask)) d.then,
      )
    where
      by : (text : List ℕ) (p q : Bool) → ◌≡◌ {A = Result Bool Status} (cond p (Err S.AttrNotSupp) (cond q (Err S.Inval) (Ok (bytes_eq a.attr_vals text)))) (Ok equal)
          → bytes_eq a.attr_vals text ≡ equal
      by text true q e = absurd cc
      by text false true e = absurd cc
      by text false false e = ok_is refl e

  pub verify_blames : (a : Attributes) → Answers s x (Operation (Op.Verify a)) (verify s x a)
  unfolding verify
  verify_blames a =
      let i : Item = Operation (Op.Verify a) in
      answers_blame (Reason s x i) (Answers s x i) s x Num.Verify _ (refused_so s x i Num.Verify) (ends_then (Reason s x i) (Answers s x i) (compared s x a) _
      (compared_blames i a refl refl) (λ equal e. ends_then (Reason s x i) (Answers s x i) (require equal S.NotSame) _ (held_blames (Reason s x i) equal S.NotSame (λ other.
      (let its = are_compared a equal e in
      inl (a, refl, its.0, its.1, λ same. false≢true (sym (its.2 ∙ other) ∙ (bytes_eq-Decides a.attr_vals its.0).1 same)))))
      (λ u e. done_so s x i tt)))

  pub nverify_blames : (a : Attributes) → Answers s x (Operation (Op.NVerify a)) (nverify s x a)
  unfolding nverify
  nverify_blames a =
      let i : Item = Operation (Op.NVerify a) in
      answers_blame (Reason s x i) (Answers s x i) s x Num.NVerify _ (refused_so s x i Num.NVerify) (ends_then (Reason s x i) (Answers s x i) (compared s x a) _
      (compared_blames i a refl refl) (λ equal e. ends_then (Reason s x i) (Answers s x i) (require (not equal) S.Same) _ (held_blames (Reason s x i) (not equal) S.Same (λ same.
      (let its = are_compared a equal e in
      (a, refl, subst (AreValues s x a) (sym ((bytes_eq-Decides a.attr_vals its.0).0 (its.2 ∙ not-false _ same))) its.1))))
      (λ u e. done_so s x i tt)))

  pub put_root_blames : Answers s x (Operation Op.PutRootFh) (put_root_fh s x)
  unfolding put_root_fh
  put_root_blames = done_so s x (Operation Op.PutRootFh) tt

  pub put_pub_blames : Answers s x (Operation Op.PutPubFh) (put_pub_fh s x)
  unfolding put_pub_fh
  put_pub_blames = done_so s x (Operation Op.PutPubFh) tt

  pub test_stateid_blames : (given : List Stateid) → Answers s x (Operation (Op.TestStateid given)) (test_stateid s x given)
  unfolding test_stateid
  test_stateid_blames given = done_so s x (Operation (Op.TestStateid given)) tt
