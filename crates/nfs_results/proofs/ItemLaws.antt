-- The items of results are read exactly where they are spelled.
use Rattle.std.proofs.{Common.{ℕ, ◌^◌, ◌<◌, eqb, cond, ◌++◌, Some, None, refl, ap, ◌∙◌, arith}, lemmas.Bool.{eqb-true, eq-eqb}}
use Rattle.std.specs.Int.{w32, from_be_bytes}
use Rattle.nfs_xdr.specs.Spelling as spelling
use Rattle.nfs_xdr.specs.{Reading.number_at, Codec.number, Lawful.{IsCodec, IsSized}, Combinators.few}
use Rattle.nfs_xdr.proofs.CodecLaws.{bind_some, test_some, taken_at, is_number, is_hyper, is_flag, is_fixed, is_opaque, is_unbounded, is_then, is_as_type}
use Rattle.nfs_xdr.proofs.{CodecLaws.{is_only, is_few, is_pieces}, ChainLaws.is_chain}
use Rattle.nfs_compound.proofs.{ArgLaws.{is_lock_type, is_stable_how}, ItemLaws.{is_stateid, is_state_owner, is_channel_attrs}}
use Rattle.nfs_results.specs.Items.{always, is_trimmed, attr_set, fattr, change_info, access, create, denied, open_ok, read_ok, entry, rename}
use Rattle.nfs_results.specs.{Listing.read_dir, Items.{write_ok, exchange_id, create_session, flavors, sequence, are_statuses, status_codes}}

is_always : (k : ℕ) → k < 2 ^ 32 → IsCodec (always k)
is_always k small = record {
  takes = λ bytes y rest fits e.
      let s = bind_some (number_at bytes) (λ n. cond (eqb n.0 k) (Some (tt, n.1)) None) (y, rest) e in
      let g = test_some (eqb s.0.0 k) (Some (tt, s.0.1)) (y, rest) s.2 in
      let t = is_number.takes bytes s.0.0 s.0.1 fits s.1 in
      taken_at (always k) bytes tt y s.0.1 rest g.1 (t.0 ∙ ap (λ (n : ℕ). spelling.number n ++ s.0.1) (eqb-true s.0.0 k g.0), t.1, tt);
  again = λ y rest fits. rw (is_number.again k rest small, eq-eqb k k refl) refl;
}

pub is_attr_set : IsCodec attr_set
unfolding attr_set
is_attr_set = is_only is_trimmed (few 3 number) (is_few 3 number (omega arith) is_number)

pub is_fattr : IsCodec fattr
unfolding fattr
is_fattr = is_as_type _ _ _ (λ _. refl) (is_then _ _ is_attr_set is_unbounded)

pub is_change_info : IsCodec change_info
unfolding change_info
is_change_info = is_as_type _ _ _ (λ _. refl) (is_then _ _ is_flag (is_then _ _ is_hyper is_hyper))

pub is_access : IsCodec access
unfolding access
is_access = is_as_type _ _ _ (λ _. refl) (is_then _ _ is_number is_number)

pub is_create : IsCodec create
unfolding create
is_create = is_as_type _ _ _ (λ _. refl) (is_then _ _ is_change_info is_attr_set)

pub is_denied : IsCodec denied
unfolding denied
is_denied = is_as_type _ _ _ (λ _. refl) (is_then _ _ is_hyper (is_then _ _ is_hyper (is_then _ _ is_lock_type is_state_owner)))

pub is_open_ok : IsCodec open_ok
unfolding open_ok
is_open_ok =
    let none = is_always 0 (omega arith) in
    is_as_type _ _ _ (λ _. refl) (is_then _ _ is_stateid (is_then _ _ is_change_info (is_then _ _ is_number (is_then _ _ is_attr_set none))))

pub is_read_ok : IsCodec read_ok
unfolding read_ok
is_read_ok = is_as_type _ _ _ (λ _. refl) (is_then _ _ is_flag is_unbounded)

pub is_entry : IsCodec entry
unfolding entry
is_entry = is_as_type _ _ _ (λ _. refl) (is_then _ _ is_hyper (is_then _ _ is_unbounded is_fattr))

pub is_read_dir : IsCodec read_dir
unfolding read_dir
is_read_dir = is_as_type _ _ _ (λ _. refl) (is_then _ _ (is_fixed 8) (is_then _ _ (is_chain entry is_entry) is_flag))

pub is_rename : IsCodec rename
unfolding rename
is_rename = is_as_type _ _ _ (λ _. refl) (is_then _ _ is_change_info is_change_info)

pub is_write_ok : IsCodec write_ok
unfolding write_ok
is_write_ok = is_as_type _ _ _ (λ _. refl) (is_then _ _ is_number (is_then _ _ is_stable_how (is_fixed 8)))

pub is_exchange_id : IsCodec exchange_id
unfolding exchange_id
is_exchange_id =
    let none = is_always 0 (omega arith) in
    let name = is_opaque 1024 (omega arith) in
    is_as_type _ _ _ (λ _. refl)
    (is_then _ _ is_hyper (is_then _ _ is_number (is_then _ _ is_number (is_then _ _ none (is_then _ _ is_hyper (is_then _ _ name (is_then _ _ name none)))))))

pub is_create_session : IsCodec create_session
unfolding create_session
is_create_session = is_as_type _ _ _ (λ _. refl)
    (is_then _ _ (is_fixed 16) (is_then _ _ is_number (is_then _ _ is_number (is_then _ _ is_channel_attrs is_channel_attrs))))

sized_number : IsSized number 4 (from_be_bytes w32)
sized_number = record { read = λ bytes. refl }

pub is_flavors : IsCodec flavors
unfolding flavors
is_flavors = is_pieces 4 (from_be_bytes w32) number sized_number is_number

pub is_sequence : IsCodec sequence
unfolding sequence
is_sequence = is_as_type _ _ _ (λ _. refl)
    (is_then _ _ (is_fixed 16) (is_then _ _ is_number (is_then _ _ is_number (is_then _ _ is_number (is_then _ _ is_number is_number)))))

pub is_status_codes : IsCodec status_codes
unfolding status_codes
is_status_codes = is_only are_statuses _ (is_pieces 4 (from_be_bytes w32) number sized_number is_number)
