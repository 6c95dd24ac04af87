-- The run of a file whose mode gives its owner nothing, and the wrong answers, computed.
use Rattle.std.proofs.Common.{◌≡◌, ◌≢◌, ℕ, [], take, Some, refl, sym, ◌∙◌, ap, arith, inl, inr}
use Rattle.std.proofs.lemmas.Option.{same_Some}
use Rattle.nfs_xdr.specs.Caller.{Caller}
use Rattle.nfs_rpc.specs.{CallHead.caller_of, Laws.Names}
use Rattle.nfs_rpc.proofs.HeadLaws.{text_named}
use Rattle.nfs_compound.specs.{ArgCodecs.set_attr_args, declared.file_args.Read.Read}
use Rattle.nfs_tree.specs.declared.profile.Profile.TheVariants.{Unix}
use Rattle.nfs_names.specs.Context.{anonymous}
use Rattle.nfs_files.specs.SetAttr as of_set
use Rattle.nfs_promises.specs.{Locks.LockKeptWorked.outset, Permission.Permitted.{Rights, Reads}}
use Rattle.nfs_promises.specs.Permission.{Permitted.{Grants, GrantsBytes, ToRoot, ToOwner, ToGroup, ToOthers}, PermittedWorked.{with_mode, credential}}
use Rattle.nfs_promises.specs.Permission.{PermittedWorked.{IsAskedOfTheOwner, GrantsAreRefused}, RightsTold.ByOpen}
use Rattle.nfs_promises.specs.{Runs.Points.ops_of, Bytes.WrittenStaysWorked.makes}
use Rattle.nfs_promises.proofs.{Bytes.FileReadWorked.{opening, make_ops}, Runs.Computing.computing}

pub is_asked_of_the_owner : IsAskedOfTheOwner
unfolding computing set_attr_args of_set.set_attr caller_of
is_asked_of_the_owner = record {
  front = take 1 (ops_of outset makes);
  opening = opening;
  ops = make_ops;
  making = ByOpen _ _ 1 (record { mode = 511; owner = 0; group = 0 }) refl refl refl refl refl refl;
  set = refl;
  again = refl;
  at = λ d. record { at = refl; is = refl };
  denied = refl;
  at_last = λ d. record { at = refl; is = refl };
  given = refl;
  at_x = λ d. record { at = refl; is = refl };
  given_by_x = refl;
  at_w = λ d. record { at = refl; is = refl };
  denied_by_w = refl;
  denied_exactly = refl;
  named = refl;
}

-- The wrong answers.

abbrev asked : Read
asked = record { stateid = anonymous; offset = 0; count = 8 }

no_zero : ◌≢◌ {A = ℕ} 5 0
no_zero e = absurd (omega arith)

no_bit : ◌≢◌ {A = ℕ} 0 1
no_bit e = absurd (omega arith)

-- the owner's digit of 040 is 0
not_to_owner : Grants (with_mode 32) (record { uid = 5; gid = 6; gids = [] }) Reads → ⊥
not_to_owner (ToRoot root) = no_zero root
not_to_owner (ToOwner own bit) = no_bit bit
not_to_owner (ToGroup other within bit) = other refl
not_to_owner (ToOthers other out bit) = other refl

-- the owner's digit of 200 is 2, without r and x; and of 100 it is 1, without r
not_by_w : GrantsBytes Unix (with_mode 128) (record { uid = 5; gid = 6; gids = [] }) → ⊥
not_by_w (inl (ToRoot root)) = no_zero root
not_by_w (inl (ToOwner own bit)) = no_bit bit
not_by_w (inl (ToGroup other within bit)) = other refl
not_by_w (inl (ToOthers other out bit)) = other refl
not_by_w (inr (ToRoot root)) = no_zero root
not_by_w (inr (ToOwner own bit)) = no_bit bit
not_by_w (inr (ToGroup other within bit)) = other refl
not_by_w (inr (ToOthers other out bit)) = other refl

not_by_x : Grants (with_mode 64) (record { uid = 5; gid = 6; gids = [] }) Reads → ⊥
not_by_x (ToRoot root) = no_zero root
not_by_x (ToOwner own bit) = no_bit bit
not_by_x (ToGroup other within bit) = other refl
not_by_x (ToOthers other out bit) = other refl

other_mode : ◌≢◌ {A = ℕ} 420 32
other_mode e = absurd (omega arith)

no_root : ◌≢◌ {A = ℕ} 4242 0
no_root e = absurd (omega arith)

-- whom the credential names is one, and that is user 4242
not_root : Names credential (record { uid = 0; gid = 6; gids = [] }) → ⊥
unfolding computing caller_of
not_root (s, fits, is, user) =
    let t = text_named s fits in
    let who : Caller = record { uid = 4242; gid = 6; gids = [] } in
    let named : caller_of credential ≡ Some who = refl in
    let same : who ≡ t.0 = same_Some who t.0 (sym named ∙ (ap caller_of is ∙ t.1)) in
    no_root (ap (λ (w : Caller). w.uid) same ∙ (t.2.0 ∙ sym user.0))

pub grants_are_refused : GrantsAreRefused
unfolding computing set_attr_args of_set.set_attr
grants_are_refused = record {
  other_class = λ d is. not_to_owner ((is.read 2 (with_mode 32) (record { at = refl; is = refl }) refl asked refl).special _ refl refl);
  needless = λ d is. is.read 2 (with_mode 256) (record { at = refl; is = refl }) refl asked refl (ToOwner refl refl);
  unread_program = λ d is. is.read 2 (with_mode 64) (record { at = refl; is = refl }) refl asked refl (inr (ToOwner refl refl));
  read_by_w = λ d is. not_by_w ((is.read 2 (with_mode 128) (record { at = refl; is = refl }) refl asked refl).special _ refl refl);
  read_by_x = λ d is. not_by_x ((is.read 2 (with_mode 64) (record { at = refl; is = refl }) refl asked refl).special _ refl refl);
  as_root = not_root;
  unset = λ d is. other_mode (ap (λ (r : Rights). r.mode) (is (with_mode 420) refl));
}
