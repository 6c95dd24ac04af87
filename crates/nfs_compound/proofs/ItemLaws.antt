-- The items that operations share are read exactly where they are spelled.
use Rattle.std.proofs.Common.{◌≡◌, ℕ, ◌^◌, ◌<◌, ◌++◌, List, length, take, drop, Some, refl, sym, ap, ◌∙◌, append_assoc, arith, inl, inr}
use Rattle.std.proofs.{lemmas.Bool.{cases_lt, lt-ltb, le-ltb}, lemmas.List.{length-drop, drop-drop, take-take, drop-take}}
use Rattle.std.specs.Int.{w32, from_be_bytes}
use Rattle.nfs_xdr.specs.{Reading.fixed_at, Codec.{choose, number}, Lawful.{IsCodec, IsSized}, AuthSys.auth_sys}
use Rattle.nfs_compound.specs.{declared.stateid.Stateid.Stateid, Stateid.{stateid, stateid_of, stateids}, StateOwner.state_owner, ChannelAttrs.channel_attrs}
use Rattle.nfs_compound.specs.ArgCodecs.{bitmap, attributes, gss_handles, sec_parms, sec_parms_arms, spell_sec_parms, FitsSecParms, all_sec_parms}
use Rattle.nfs_compound.specs.Callback.{SecParms, AuthNone, Sys, RpcsecGss}
use Rattle.nfs_xdr.specs.Spelling as spelling
use Rattle.nfs_xdr.proofs.CodecLaws.{is_number, is_hyper, is_fixed, is_opaque, is_unbounded, is_then, is_as_type, is_optional, is_array, is_pieces, is_union}
use Rattle.nfs_xdr.proofs.{CodecLaws.{is_arm, is_bare}, WordLaws.{is_at_most, is_raw}}

pub is_stateid : IsCodec stateid
unfolding stateid
is_stateid = is_as_type _ _ _ (λ _. refl) (is_then _ _ is_number (is_fixed 12))

sized_number : IsSized number 4 (from_be_bytes w32)
sized_number = record { read = λ bytes. refl }

abbrev made : List ℕ → List ℕ → Stateid
made seqid other = record { seqid = from_be_bytes w32 seqid; other = other }

from_sixteen : (bytes : List ℕ) → made (take 4 bytes) (take 12 (drop 4 bytes)) ≡ stateid_of (take 16 bytes)
from_sixteen bytes =
    ap (λ (a : List ℕ). made a (take 12 (drop 4 bytes))) (sym (take-take 4 16 bytes (omega arith)))
    ∙ ap (λ (b : List ℕ). made (take 4 (take 16 bytes)) b) (sym (ap (take 12) (drop-take 4 12 bytes) ∙ take-take 12 12 (drop 4 bytes) (omega arith)))

-- a stateid is its 16 bytes
sized_stateid : IsSized stateid 16 stateid_of
unfolding stateid fixed_at
sized_stateid = record {
  read = λ bytes.
      elim (cases_lt (length bytes) 4) [
        | inl lt ↦ rw (lt-ltb (length bytes) 4 lt, lt-ltb (length bytes) 16 (omega arith)) refl
        | inr le ↦
            rw (le-ltb (length bytes) 4 le)
            (elim (cases_lt (length bytes) 16) [
              | inl lt ↦ rw (lt-ltb (length bytes) 16 lt, lt-ltb (length (drop 4 bytes)) 12 (omega (arith, length-drop 4 bytes))) refl
              | inr more ↦ rw (le-ltb (length bytes) 16 more, le-ltb (length (drop 4 bytes)) 12 (omega (arith, length-drop 4 bytes)), drop-drop 12 4 bytes)
                  (ap (λ (v : Stateid). Some (v, drop 16 bytes)) (from_sixteen bytes))
            ])
      ];
}

pub is_stateids : IsCodec stateids
unfolding stateids
is_stateids = is_pieces 16 stateid_of stateid sized_stateid is_stateid

pub is_state_owner : IsCodec state_owner
unfolding state_owner
is_state_owner = is_as_type _ _ _ (λ _. refl) (is_then _ _ is_hyper (is_opaque 1024 (omega arith)))

pub is_channel_attrs : IsCodec channel_attrs
unfolding channel_attrs
is_channel_attrs = is_as_type _ _ _ (λ _. refl) (is_then _ _ is_number
    (is_then _ _ is_number (is_then _ _ is_number (is_then _ _ is_number (is_then _ _ is_number (is_then _ _ is_number (is_optional _ is_number)))))))

pub is_bitmap : IsCodec bitmap
unfolding bitmap
is_bitmap = is_pieces 4 (from_be_bytes w32) number sized_number is_number

pub is_attributes : IsCodec attributes
unfolding attributes
is_attributes = is_as_type _ _ _ (λ _. refl) (is_then _ _ is_bitmap is_unbounded)

is_auth_sys : IsCodec auth_sys
unfolding auth_sys
is_auth_sys = is_as_type _ _ _ (λ _. refl) (is_then _ _ is_number (is_then _ _ (is_opaque 255 (omega arith))
    (is_then _ _ is_number (is_then _ _ is_number (is_at_most 16 _ (is_pieces 4 (from_be_bytes w32) number sized_number is_number))))))

is_gss_handles : IsCodec gss_handles
unfolding gss_handles
is_gss_handles = is_as_type _ _ _ (λ _. refl) (is_then _ _ is_number (is_then _ _ is_unbounded is_unbounded))

sec_parms_again : (y : SecParms) (rest : List ℕ) → FitsSecParms y
    → (k : ℕ) × (left : List ℕ) × (k < 2 ^ 32) × (spell_sec_parms y ++ rest ≡ spelling.number k ++ left) × (choose sec_parms_arms k left ≡ Some (y, rest))
sec_parms_again AuthNone rest fits = (0, rest, omega arith, refl, refl)
sec_parms_again (Sys a) rest fits =
    (1, auth_sys.spell a ++ rest, omega arith, append_assoc (spelling.number 1) (auth_sys.spell a) rest, rw (is_auth_sys.again a rest fits) refl)
sec_parms_again (RpcsecGss g) rest fits =
    (6, gss_handles.spell g ++ rest, omega arith, append_assoc (spelling.number 6) (gss_handles.spell g) rest, rw (is_gss_handles.again g rest fits) refl)

pub is_sec_parms : IsCodec sec_parms
unfolding sec_parms
is_sec_parms = is_union spell_sec_parms FitsSecParms sec_parms_arms (
  is_bare _ 0 AuthNone refl tt,
  (is_arm _ 1 Sys auth_sys is_auth_sys (λ _. refl) (λ _ fits. fits), (is_arm _ 6 RpcsecGss gss_handles is_gss_handles (λ _. refl) (λ _ fits. fits), tt)),
)
    sec_parms_again

pub is_all_sec_parms : IsCodec all_sec_parms
is_all_sec_parms = is_raw _ (is_array _ is_sec_parms)
