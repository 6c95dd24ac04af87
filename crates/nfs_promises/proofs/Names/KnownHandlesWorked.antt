-- The run of known filehandles, and the wrong answers, computed.
use Rattle.std.proofs.Common.{◌≡◌, ℕ, List, [], ◌∷◌, get_or, refl, ap, arith}
use Rattle.nfs_xdr.specs.Spelling.{number}
use Rattle.nfs_compound.specs.ArgCodecs.{rename_args}
use Rattle.nfs_results.specs.Items as results
use Rattle.nfs_results.specs.declared.res.Res.TheVariants as Res
use Rattle.nfs_results.specs.Results.{spell_result}
use Rattle.nfs_names.specs.{Checks.both, GetFh.get_fh, Link.link, Rename.rename, RestoreFh.restore_fh, SaveFh.save_fh}
use Rattle.nfs_promises.specs.Names.{HandlesWorked.given, KnownHandles.{starts, Follow}, KnownHandlesWorked.{finds, links, renames, found, linked}}
use Rattle.nfs_promises.specs.Names.KnownHandlesWorked.{root, another, f, g, IsKnown, but_for, answering, no_handle, giving, HandlesRefused}
use Rattle.nfs_promises.specs.{Names.NameStays.finds_none, Runs.Points.ops_of, Bytes.WrittenStaysWorked.made}
use Rattle.nfs_promises.proofs.Runs.Computing.{computing}

pub is_known : IsKnown
unfolding computing get_fh save_fh both link rename rename_args results.rename restore_fh
is_known = record { found_f = refl; linked_g = refl; renamed_h = refl }

-- the last byte of a filehandle that GETFH gives
another_given : spell_result (Res.GetFh another) ≡ spell_result (Res.GetFh given) → ⊥
unfolding number
another_given e = let bad : ◌≡◌ {A = ℕ} 3 2 = ap (λ (text : List ℕ). get_or text 27 0) e in absurd (omega arith)

given_root : spell_result (Res.GetFh given) ≡ spell_result (Res.GetFh root) → ⊥
unfolding number
given_root e = let bad : ◌≡◌ {A = ℕ} 2 1 = ap (λ (text : List ℕ). get_or text 27 0) e in absurd (omega arith)

another_root : spell_result (Res.GetFh another) ≡ spell_result (Res.GetFh root) → ⊥
unfolding number
another_root e = let bad : ◌≡◌ {A = ℕ} 3 1 = ap (λ (text : List ℕ). get_or text 27 0) e in absurd (omega arith)

-- The wrong answers, each computed by itself.

misled : Follow 7 root (starts (f ∷ [])) (but_for 1 (giving another) (ops_of found links)) → ⊥
unfolding computing get_fh save_fh both link
misled is = another_given (is.1.0.gives given refl refl refl)

unset : Follow 7 root (starts (f ∷ [])) (but_for 1 (answering no_handle) (ops_of found links)) → ⊥
unfolding computing get_fh save_fh both link
unset is = is.1.0.there given refl refl refl

copied : Follow 7 root (starts (f ∷ [])) (but_for 6 (giving another) (ops_of found links)) → ⊥
unfolding computing get_fh save_fh both link
copied is = another_given (is.1.1.1.1.1.1.0.gives given refl refl refl)

lost : Follow 7 root (starts (f ∷ [])) (but_for 5 (answering finds_none) (ops_of found links)) → ⊥
unfolding computing get_fh save_fh both link
lost is = is.1.1.1.1.1.0.finds root (0x67 ∷ []) given refl refl refl refl

renewed : Follow 7 root (starts (g ∷ f ∷ [])) (but_for 4 (giving another) (ops_of linked renames)) → ⊥
unfolding computing get_fh save_fh both link rename rename_args results.rename restore_fh
renewed is = another_given (is.1.1.1.1.0.gives given refl refl refl)

kept : Follow 7 root (starts (g ∷ f ∷ [])) (but_for 6 (giving given) (ops_of linked renames)) → ⊥
unfolding computing get_fh save_fh both link rename rename_args results.rename restore_fh
kept is = given_root (is.1.1.1.1.1.1.0.gives root refl refl refl)

unsettled : Follow 7 root (starts []) (but_for 1 (giving another) (ops_of made finds)) → ⊥
unfolding computing get_fh
unsettled is = another_root (is.1.0.gives root refl refl refl)

pub handles_refused : HandlesRefused
handles_refused = record { misled = misled; unset = unset; copied = copied; lost = lost; renewed = renewed; kept = kept; unsettled = unsettled }
