-- Where an owner on a file stands among others, so that its opens (RFC 8881 section 9.7) and its lock state (section 9.1) are found by halving: as a number, which no two share.
use Rattle.std.specs.{Prelude.{ℕ, ◌+◌, ◌*◌, ◌^◌, List}, List.fold}
use Rattle.nfs_opens.specs.{declared.key.Key.Key, declared.records.OpenState.OpenState, declared.records.LockState.LockState}

-- a byte behind the digits of a number
abbrev pub digit : ℕ → ℕ → ℕ
digit number byte = number * 256 + byte

-- an owner's bytes as digits behind a 1, so that a shorter string stands before a longer one
unfoldable pub spelled : List ℕ → ℕ
spelled owner = fold digit 1 owner

-- clients in their order, and of one client its files
abbrev pub on_file_of : ℕ → ℕ → ℕ
on_file_of client file = client * 2 ^ 64 + file

-- owners in their order, and of one string each client on each file
unfoldable pub owner_key : ℕ → ℕ → List ℕ → ℕ
owner_key file client owner = spelled owner * 2 ^ 128 + on_file_of client file

abbrev pub key_of : Key → ℕ
key_of k = owner_key k.file k.client k.owner.now

abbrev pub open_key : OpenState → ℕ
open_key o = owner_key o.file o.client o.owner

abbrev pub lock_key : LockState → ℕ
lock_key l = owner_key l.file l.client l.owner
