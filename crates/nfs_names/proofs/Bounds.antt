-- The result of each operation is one that it may have: under its number, such as can be put, and within its size. None is NFS4ERR_DELAY.
use Rattle.std.proofs.{Common.{Bool, true, false, None, refl, arith, ◌≤◌, ◌≡◌}, lemmas.Bool.ltb-false}
use Rattle.std.specs.Prelude.{IfSome}
use Rattle.nfs_xdr.specs.{Checks.first_fault, declared.time.Time.Time}
use Rattle.nfs_xdr.proofs.Checks.{all_passed}
use Rattle.nfs_compound.specs.{declared.name_args.ReadDir.ReadDir, declared.name_args.Rename.Rename, declared.op.Item.Item}
use Rattle.nfs_compound.specs.{declared.op.Item.TheVariants.Operation, declared.op.Op.Op}
use Rattle.nfs_results.specs.{declared.res.Res.Res, MayAnswer.MayAnswer, ResultCodec.HasArrays, Results.status_of_result}
use Rattle.nfs_tree.specs.{Files.most_text, Names.moves}
use Rattle.nfs_attrs.specs.{Attributes.readable, Mask.mask_of}
use Rattle.nfs_attrs.proofs.{Bounds.attributes_within, Lengths.length_handle}
use Rattle.nfs_names.specs.{declared.context.Context.Context, declared.node.Node.Node, declared.node.Pair.Pair, State.State, Outcome.{Outcome, is_delay}}
use Rattle.nfs_names.specs.{Attributes.about, Operation.one, PutPubFh.put_pub_fh, PutRootFh.put_root_fh, ReadDir.listing_checks, Rename.{move_of, renamed}}
use Rattle.nfs_names.proofs.{Listed.listed_within, Masks.{few_words, at_most_three_words, part_few}}
use Rattle.nfs_names.proofs.NameLaws as law

-- a result that the operation may have, whose arrays are as long as their types say
pub record IsAnswer (i : Item) (r : Res) : Type 0 where
  pub may : MayAnswer i r
  pub arrays : HasArrays r

pub record Answers (op : Op) (o : Outcome) : Type 0 where
  pub is : IsAnswer (Operation op) o.result
  pub prompt : is_delay (status_of_result o.result) ≡ false

renamed_answers : (s : State) (x : Context) (now : Time) (a : Rename) (p : Pair) (b : Bool) → Answers (Op.Rename a) (renamed s x now a p b)
renamed_answers s x now a p true = record { is = record { may = (refl, tt, tt); arrays = tt }; prompt = refl }
renamed_answers s x now a p false = record { is = record { may = (refl, tt, tt); arrays = tt }; prompt = refl }

large : (x : Context) (a : ReadDir) (d : Node) → first_fault (listing_checks x a d) ≡ None → 16 ≤ a.maxcount
large x a d e = ltb-false _ _ (all_passed (listing_checks x a d) e).1.1.1.1.1.0

pub answers_one : (s : State) (x : Context) (now : Time) (op : Op) → IfSome (one s x now op) (Answers op)
unfolding put_pub_fh put_root_fh
answers_one s x now (Op.Access asked) = law.by_access (Answers (Op.Access asked)) s x asked
    (λ f h. record { is = record { may = (refl, rw (h.done, h.legal) refl, tt); arrays = tt }; prompt = h.prompt })
    (λ d there. record { is = record { may = (refl, tt, tt); arrays = tt }; prompt = refl })
answers_one s x now (Op.Create c) = law.by_create (Answers (Op.Create c)) s x now c
    (λ f h. record { is = record { may = (refl, rw (h.done, h.legal) refl, tt); arrays = tt }; prompt = h.prompt })
    (λ d wanted there placed read row. record { is = record { may = (refl, tt, few_words (mask_of c.createattrs.attrmask).words); arrays = tt }; prompt = refl })
answers_one s x now (Op.GetAttr words) = law.by_get_attr (Answers (Op.GetAttr words)) s x words
    (λ f h. record { is = record { may = (refl, rw (h.done, h.legal) refl, tt); arrays = tt }; prompt = h.prompt })
    (λ d there plain. (let few = attributes_within (mask_of words) (about s d) d.object in
    record { is = record { may = (refl, omega arith, (at_most_three_words (mask_of words) (readable s.tree.profile), omega arith)); arrays = tt }; prompt = refl }))
answers_one s x now Op.GetFh = law.by_get_fh (Answers Op.GetFh) s x
    (λ f h. record { is = record { may = (refl, rw (h.done, h.legal) refl, tt); arrays = tt }; prompt = h.prompt })
    (λ d there. (let few = length_handle (record { instance = s.opens.instance; number = d.number }) in
    record { is = record { may = (refl, omega arith, omega arith); arrays = tt }; prompt = refl }))
answers_one s x now (Op.Link name) = law.by_link (Answers (Op.Link name)) s x now name
    (λ f h. record { is = record { may = (refl, rw (h.done, h.legal) refl, tt); arrays = tt }; prompt = h.prompt })
    (λ p there placed row. record { is = record { may = (refl, tt, tt); arrays = tt }; prompt = refl })
answers_one s x now (Op.Lookup name) = law.by_lookup (Answers (Op.Lookup name)) s x name
    (λ f h. record { is = record { may = (refl, rw (h.done, h.legal) refl, tt); arrays = tt }; prompt = h.prompt })
    (λ d n there placed named. record { is = record { may = (refl, tt, tt); arrays = tt }; prompt = refl })
answers_one s x now Op.LookupP = law.by_lookup_p (Answers Op.LookupP) s x
    (λ f h. record { is = record { may = (refl, rw (h.done, h.legal) refl, tt); arrays = tt }; prompt = h.prompt })
    (λ d n there placed stands. record { is = record { may = (refl, tt, tt); arrays = tt }; prompt = refl })
answers_one s x now (Op.NVerify a) = law.by_nverify (Answers (Op.NVerify a)) s x a
    (λ f h. record { is = record { may = (refl, rw (h.done, h.legal) refl, tt); arrays = tt }; prompt = h.prompt })
    (λ equal e unequal. record { is = record { may = (refl, tt, tt); arrays = tt }; prompt = refl })
answers_one s x now (Op.PutFh object) = law.by_put_fh (Answers (Op.PutFh object)) s x object
    (λ f h. record { is = record { may = (refl, rw (h.done, h.legal) refl, tt); arrays = tt }; prompt = h.prompt })
    (λ h read placed. record { is = record { may = (refl, tt, tt); arrays = tt }; prompt = refl })
answers_one s x now Op.PutPubFh = record { is = record { may = (refl, tt, tt); arrays = tt }; prompt = refl }
answers_one s x now Op.PutRootFh = record { is = record { may = (refl, tt, tt); arrays = tt }; prompt = refl }
answers_one s x now (Op.ReadDir a) = law.by_read_dir (Answers (Op.ReadDir a)) s x a
    (λ f h. record { is = record { may = (refl, rw (h.done, h.legal) refl, tt); arrays = tt }; prompt = h.prompt })
    (λ d there placed some. record { is = record { may = (refl, tt, listed_within s a d (large x a d placed)); arrays = refl }; prompt = refl })
answers_one s x now Op.ReadLink = law.by_read_link (Answers Op.ReadLink) s x
    (λ f h. record { is = record { may = (refl, rw (h.done, h.legal) refl, tt); arrays = tt }; prompt = h.prompt })
    (λ d there linked. (let few = part_few s.tree d.number most_text in record { is = record { may = (refl, omega arith, few); arrays = tt }; prompt = refl }))
answers_one s x now (Op.Remove name) = law.by_remove (Answers (Op.Remove name)) s x now name
    (λ f h. record { is = record { may = (refl, rw (h.done, h.legal) refl, tt); arrays = tt }; prompt = h.prompt })
    (λ d there placed row. record { is = record { may = (refl, tt, tt); arrays = tt }; prompt = refl })
answers_one s x now (Op.Rename a) = law.by_rename (Answers (Op.Rename a)) s x now a
    (λ f h. record { is = record { may = (refl, rw (h.done, h.legal) refl, tt); arrays = tt }; prompt = h.prompt })
    (λ p there row. renamed_answers s x now a p (moves s.tree (move_of a p)))
answers_one s x now Op.RestoreFh = law.by_restore_fh (Answers Op.RestoreFh) s x
    (λ f h. record { is = record { may = (refl, rw (h.done, h.legal) refl, tt); arrays = tt }; prompt = h.prompt })
    (λ saved kept there. record { is = record { may = (refl, tt, tt); arrays = tt }; prompt = refl })
answers_one s x now Op.SaveFh = law.by_save_fh (Answers Op.SaveFh) s x
    (λ f h. record { is = record { may = (refl, rw (h.done, h.legal) refl, tt); arrays = tt }; prompt = h.prompt })
    (λ d there. record { is = record { may = (refl, tt, tt); arrays = tt }; prompt = refl })
answers_one s x now (Op.SecinfoNoName style) = law.by_secinfo_no_name (Answers (Op.SecinfoNoName style)) s x style
    (λ f h. record { is = record { may = (refl, rw (h.done, h.legal) refl, tt); arrays = tt }; prompt = h.prompt })
    (λ d there placed. record { is = record { may = (refl, omega arith, omega arith); arrays = tt }; prompt = refl })
answers_one s x now (Op.Verify a) = law.by_verify (Answers (Op.Verify a)) s x a
    (λ f h. record { is = record { may = (refl, rw (h.done, h.legal) refl, tt); arrays = tt }; prompt = h.prompt })
    (λ equal e same. record { is = record { may = (refl, tt, tt); arrays = tt }; prompt = refl })
answers_one s x now op = tt
