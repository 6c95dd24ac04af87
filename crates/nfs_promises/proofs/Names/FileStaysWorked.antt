-- The run of a file that is open and loses its name, and the wrong answers, computed.
use Rattle.std.proofs.Common.{◌≡◌, ◌⊎◌, ℕ, true, List, [], ◌∷◌, ◌++◌, get_or, take, refl, sym, ap, subst, arith, inl, inr}
use Rattle.std.proofs.lemmas.Bool.{true≢false, false≢true}
use Rattle.nfs_xdr.specs.{declared.status.Status.Status, declared.status.Status.TheVariants.{NoEnt, RepTooBig}, Tables.In}
use Rattle.nfs_compound.specs.{declared.file_args.Read.Read, declared.stateid.Stateid.Stateid}
use Rattle.nfs_names.specs.{GetFh.get_fh, Outcome.is_ok, Remove.remove}
use Rattle.nfs_files.specs.StateIds.{state_id}
use Rattle.nfs_promises.specs.Runs.{Requests.words, Started.usual, Handles.Gives, Points.{reached, ops_of}}
use Rattle.nfs_promises.specs.{Bytes.WrittenStaysWorked.{makes, made, writes, written}, Names.FileStays.IsHandleOf}
use Rattle.nfs_promises.specs.Names.FileStaysWorked.{its_bits, IsKeptOpen, LossesAreRefused}
use Rattle.nfs_promises.specs.{Names.{HandlesWorked.given, NameStays.Finds, NameStaysWorked.f}, Locks.LockKeptWorked.earlier}
use Rattle.nfs_promises.specs.Locks.{LockKeptWorked.{outset, last_of}, OpenKeptWorked.its_open}
use Rattle.nfs_exec.specs.{Runs.Ops.RanOp}
use Rattle.nfs_promises.specs.Names.FileStaysWorked as worked
use Rattle.nfs_promises.proofs.{Runs.{Computing.computing, LastOperation.{nothing, two, last_there}}, Bytes.FileReadWorked.{opening, make_ops}, Locks.OpenKeptWorked.leave_open}

abbrev removal : RanOp
removal = last_of nothing (ops_of worked.found worked.removes)

abbrev its_stateid : Stateid
its_stateid = record { seqid = 0; other = words (7 ∷ 0 ∷ 1 ∷ []) }

abbrev asked : Read
asked = record { stateid = its_stateid; offset = 0; count = 8 }

abbrev get : RanOp
get = last_of nothing (ops_of written worked.finds)

found_ops : In get (ops_of written worked.finds)
unfolding computing get_fh
found_ops = last_there nothing (ops_of written worked.finds) 2 refl

gives : Gives 2 given get
unfolding computing get_fh
gives = record { is = refl; at = refl; short = omega arith; answers = refl }

-- the records that lead there
is_written : reached usual (earlier ++ makes ∷ writes ∷ []) ≡ written
is_written = refl

handle : IsHandleOf usual 2 given
handle = record {
  records = earlier ++ makes ∷ writes ∷ [];
  record_of = worked.finds;
  get = get;
  ran = subst (λ s. In get (ops_of s worked.finds)) (sym is_written) found_ops;
  gives = gives;
}

pub is_kept_open : IsKeptOpen
unfolding computing get_fh remove
is_kept_open = record {
  front = take 1 (ops_of outset makes);
  told = opening;
  ops = make_ops;
  tells = record { opens = record { asked = _; is = refl; names = refl; leads = refl }; client = refl; owner = refl; bits = refl };
  handle = handle;
  kept = leave_open its_open its_bits 90 102 made (writes ∷ worked.finds ∷ worked.removes ∷ worked.reads ∷ worked.misses ∷ []) (λ b last s. b ≡ its_bits) refl refl;
  until = take 1 (ops_of worked.found worked.removes);
  remove = removal;
  last = two nothing (ops_of worked.found worked.removes) refl;
  there = refl;
  named = refl;
  unnamed = refl;
  read = λ d. refl;
  none = refl;
  shut = refl;
  gone = refl;
}

-- The wrong answers.

not_answered : (is_ok NoEnt ≡ true) ⊎ (◌≡◌ {A = Status} NoEnt RepTooBig) → ⊥
not_answered (inl ok) = false≢true ok
not_answered (inr same) = absurd cc

pub losses_are_refused : LossesAreRefused
unfolding computing get_fh remove
losses_are_refused = record {
  stale = λ d is. is.found refl refl;
  unread = λ d is. is.at_current refl refl refl refl;
  unclosed = λ d is. is.at_current refl refl refl refl;
  failed = λ d is. not_answered (is.read asked (state_id its_stateid) refl refl refl refl refl refl refl refl);
  dropped = λ d is. false≢true is.there;
  -- the count stands in bytes 12 to 15 of the answer
  emptied = λ d is. (let bad : ◌≡◌ {A = ℕ} 0 4 = ap (λ (text : List ℕ). get_or text 15 0) (is asked refl refl refl) in absurd (omega arith));
  named = λ d next is. true≢false is.unnamed;
  shown = λ d is. is.unsaid f refl (Finds refl refl ([], refl) (_, refl, refl));
}
