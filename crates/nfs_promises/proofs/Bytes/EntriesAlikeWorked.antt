-- The run of an entry that tells what a GETATTR told, and the wrong entries, computed.
use Rattle.std.proofs.Common.{◌≡◌, inl, ℕ, List, [], ◌∷◌, ◌++◌, take, get_or, length, refl, subst, ap, arith}
use Rattle.nfs_xdr.specs.{Spelling.hyper, Text.IsBytes}
use Rattle.nfs_compound.specs.ArgCodecs.{read_dir_args}
use Rattle.nfs_results.specs.{declared.res.Fattr.Fattr, ResultCodec.FitsResult, Results.spell_result}
use Rattle.nfs_results.specs.declared.res.Res.TheVariants as Res
use Rattle.nfs_results.specs.Items as results
use Rattle.nfs_results.specs.Listing as listing_codec
use Rattle.nfs_attrs.specs.{Attributes.values, Mask.mask_of}
use Rattle.nfs_names.specs.{GetAttr.get_attr, ReadDir.{entry_of, fitting, read_dir, zeros}}
use Rattle.nfs_tree.specs.Files.{root, change_of}
use Rattle.nfs_promises.specs.Runs.AttributesTold.{TellsValue}
use Rattle.nfs_exec.specs.{Runs.Ops.RanOp}
use Rattle.nfs_promises.specs.{Locks.LockKeptWorked.last_of, Runs.Points.ops_of, Bytes.{ChangeTellsWorked.{read_once, gets, got_once}, EntriesAlike.TellsOf}}
use Rattle.nfs_promises.specs.Bytes.{EntriesAlike.{Gets, Lists}, EntriesAlikeWorked.{asked_for, lists, asked, attributes, entry, listing, spelled, told}}
use Rattle.nfs_promises.specs.Bytes.EntriesAlikeWorked.{listing_op, IsToldAlike, TellsOther, EntriesAreRefused, getting, AttributesAreRefused}
use Rattle.nfs_promises.specs.{Bytes.ChangeTells.GetsOf, Names.ListsAll.Page}
use Rattle.nfs_promises.proofs.{Runs.{Computing.computing, LastOperation.{nothing, last_there}}, Bytes.ChangeTellsWorked.{got, got_ops}, Names.ListsAllWorked.are_bytes}

abbrev listed : RanOp
listed = last_of nothing (ops_of got_once lists)

-- A page of one entry that XDR has.

attributes_fit : (attrs : Fattr) → attrs.attrmask ≡ asked_for → length attrs.attr_vals ≡ 24 → IsBytes attrs.attr_vals → results.fattr.Fits attrs
unfolding results.fattr results.attr_set
attributes_fit attrs mask long bytes = rw mask (refl, ((refl, (omega arith, (omega arith, (omega arith, tt)))), (omega arith, bytes)))

page_fits : (attrs : Fattr) → results.fattr.Fits attrs → FitsResult (Res.ReadDir (listing attrs))
unfolding listing_codec.read_dir results.entry
page_fits attrs fits = (refl, ((refl, are_bytes zeros refl), (((refl, (omega arith, ((omega arith, are_bytes (0x66 ∷ []) refl), fits))), tt), tt)))

page_tells : (d : RanOp) (attrs : Fattr) → FitsResult (Res.ReadDir (listing attrs)) → TellsOf 2 asked_for (listing_op d attrs) (spelled attrs)
unfolding computing read_dir_args get_attr values entry_of fitting read_dir results.entry results.fattr listing_codec.read_dir
page_tells d attrs fits =
    let page : Page = record { op = listing_op d attrs; asked = asked; told = listing attrs } in
    Lists root 0 page (entry attrs) (record { is = refl; at = refl; from = refl; valid = fits; answers = refl }) refl refl (inl refl) refl refl

fits_of : (change size mode links : ℕ) → length (attributes change size mode links).attr_vals ≡ 24 → IsBytes (attributes change size mode links).attr_vals
    → FitsResult (Res.ReadDir (listing (attributes change size mode links)))
fits_of change size mode links long bytes =
    let attrs = attributes change size mode links in
    page_fits attrs (attributes_fit attrs refl long bytes)

true_fits : FitsResult (Res.ReadDir (listing (attributes 3 8 420 1)))
unfolding computing
true_fits = fits_of 3 8 420 1 refl (are_bytes _ refl)

listed_is : (listing_op nothing (attributes 3 8 420 1) ≡ listed) × (spelled (attributes 3 8 420 1) ≡ told)
unfolding computing read_dir_args get_attr values entry_of fitting read_dir results.entry results.fattr listing_codec.read_dir
listed_is = (refl, refl)

pub is_told_alike : IsToldAlike
unfolding computing read_dir_args get_attr values entry_of fitting read_dir results.entry results.fattr listing_codec.read_dir
is_told_alike = record {
  front = take 2 (ops_of read_once (gets 107 8 6));
  got = got;
  ops = got_ops;
  listed = listed;
  late = inl (last_there nothing (ops_of got_once lists) 1 refl);
  same = refl;
  first = Gets (record { is = refl; at = refl; ok = refl }) refl;
  second = subst (TellsOf 2 asked_for listed) listed_is.1
      (subst (λ (d : RanOp). TellsOf 2 asked_for d (spelled (attributes 3 8 420 1))) listed_is.0 (page_tells nothing (attributes 3 8 420 1) true_fits));
}

-- The wrong ones: the size's last byte is the 40th, and the change's the 32nd.

other_byte : (place a b : ℕ) (text other : List ℕ) → text ≡ other → get_or text place 0 ≡ a → get_or other place 0 ≡ b → a ≡ b
other_byte place a b text other same left right = cc (ap (λ (text : List ℕ). get_or text place 0) same)

stale_size : (d : RanOp) → TellsOther d (attributes 3 4 420 1)
unfolding computing results.fattr
stale_size d = record {
  tells = page_tells d (attributes 3 4 420 1) (fits_of 3 4 420 1 refl (are_bytes _ refl));
  other = λ is. let bad = other_byte 39 4 8 _ _ is refl refl in absurd (omega arith);
}

constant_change : (d : RanOp) → TellsOther d (attributes 1 8 420 1)
unfolding computing results.fattr
constant_change d = record {
  tells = page_tells d (attributes 1 8 420 1) (fits_of 1 8 420 1 refl (are_bytes _ refl));
  other = λ is. let bad = other_byte 31 1 3 _ _ is refl refl in absurd (omega arith);
}

of_another : (d : RanOp) → TellsOther d (attributes 2 0 511 1)
unfolding computing results.fattr
of_another d = record {
  tells = page_tells d (attributes 2 0 511 1) (fits_of 2 0 511 1 refl (are_bytes _ refl));
  other = λ is. let bad = other_byte 31 2 3 _ _ is refl refl in absurd (omega arith);
}

pub entries_are_refused : EntriesAreRefused
entries_are_refused = record { stale = stale_size; constant = constant_change; another = of_another }

other_mode : (d : RanOp) → GetsOf 2 asked_for (getting d (attributes 3 8 384 1)) × ((getting d (attributes 3 8 384 1)).result ≡ told → ⊥)
unfolding computing get_attr values results.fattr
other_mode d = (record { is = refl; at = refl; ok = refl }, λ is. (let bad = other_byte 43 128 164 _ _ is refl refl in absurd (omega arith)))

-- nothing stands in front of the change
no_front : (front behind : List ℕ) → length front ≡ 0
    → spelled (attributes 1 8 420 1) ≡ spell_result (Res.GetAttr (record { attrmask = asked_for; attr_vals = front ++ (hyper 3 ++ behind) })) → ⊥
unfolding computing results.fattr
no_front [] behind long e = let bad = other_byte 31 1 3 _ _ e refl refl in absurd (omega arith)
no_front (x ∷ front) behind long e = absurd (omega arith)

other_change : (d : RanOp) → (let e = getting d (attributes 1 8 420 1) in
    GetsOf 2 asked_for e × (TellsValue e.before.store.tree.profile 3 (hyper (change_of e.before.store.tree 2)) (mask_of asked_for) e.result → ⊥))
unfolding computing get_attr values results.fattr
other_change d = (record { is = refl; at = refl; ok = refl }, λ is. no_front is.front is.behind is.long is.answers)

pub attributes_are_refused : AttributesAreRefused
attributes_are_refused = record { mode = other_mode; constant = other_change }
