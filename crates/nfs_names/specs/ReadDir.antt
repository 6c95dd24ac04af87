-- READDIR (RFC 8881 section 18.23): the entries behind a cookie with their attributes, as many as fit into so many bytes.
use Rattle.std.specs.Prelude.{ℕ, ◌+◌, ◌==◌, Bool, not, ◌&&◌, ◌||◌, List, [], ◌∷◌, length, map, nat_lt, nat_le, replicate, bytes_eq, if◌then◌else◌, Option, Some, Ok}
use Rattle.std.specs.{Prelude.None, List.flat_map}
use Rattle.nfs_xdr.specs.{declared.status.Status.Status, declared.status.Status.TheVariants.{Inval, NotSame, BadCookie, TooSmall}}
use Rattle.nfs_compound.specs.declared.op_num.OpNum.TheVariants as Num
use Rattle.nfs_compound.specs.declared.name_args.ReadDir.{ReadDir}
use Rattle.nfs_results.specs.{Largest.given, declared.res.Entry.Entry, declared.res.Fattr.Fattr, declared.res.ReadDirOk.ReadDirOk, Straight.entry_text}
use Rattle.nfs_results.specs.declared.res.Res.TheVariants as Res
use Rattle.nfs_tree.specs.{declared.object.Object.Object, Files.{Listed, listing, object_at}}
use Rattle.nfs_attrs.specs.{declared.mask.Mask.Mask, Mask.{mask_of, asks_set_only}, Permissions.read}
use Rattle.nfs_names.specs.{declared.context.Context.Context, declared.node.Node.Node, State.State, Outcome.{Outcome, done, or_refusal}}
use Rattle.nfs_names.specs.{Checks.{current, no_directory, no_access}, Attributes.attributes_of}
use Rattle.nfs_opens.specs.Steps.{in_order, require, ◌>>=◌, ◌>>◌}

-- what is reported of an object; an entry's object is there, so the first line is never met
abbrev pub attributes_at : State → Mask → ℕ → Option Object → Fattr
attributes_at s asked n None = record { attrmask = []; attr_vals = [] }
attributes_at s asked n (Some o) = attributes_of s asked (record { number = n; object = o })

unfoldable pub entry_of : State → Mask → Listed → Entry
entry_of s asked e = record { cookie = e.cookie; name = e.name; attrs = attributes_at s asked e.number (object_at s.tree e.number) }

-- all entries that are left
abbrev pub left : State → ReadDir → Node → List Entry
left s a d = map (entry_of s (mask_of a.attr_request)) (listing s.tree.rows d.number a.cookie)

-- the longest front of a list that passes a test which no longer one passes again
abbrev pub longest : {A : Type 0} → (List A → Bool) → List A → List A
longest test [] = []
longest test (x ∷ xs) = if test (x ∷ []) then x ∷ longest (λ more. test (x ∷ more)) xs else []

-- as many as fit behind the status, with the verifier in front of them and the two flags behind them
unfoldable pub fitting : State → ReadDir → Node → List Entry
fitting s a d = longest (λ entries. nat_le (length (flat_map entry_text entries) + 16) (given a.maxcount)) (left s a d)

abbrev pub zeros : List ℕ
zeros = replicate 8 0

-- what is looked at of the directory and the arguments
abbrev pub listing_checks : Context → ReadDir → Node → List (Bool × Status)
listing_checks x a d =
    no_directory d
    ∷ no_access x d read
    ∷ (asks_set_only (mask_of a.attr_request), Inval)
    ∷ (not (bytes_eq a.cookieverf zeros), NotSame)
    ∷ (a.cookie == 1 || a.cookie == 2, BadCookie)
    ∷ (nat_lt a.maxcount 16, TooSmall)
    ∷ []

-- an entry is left, and none fits
abbrev pub fits_none : State → ReadDir → Node → Bool
fits_none s a d = nat_lt 0 (length (left s a d)) && length (fitting s a d) == 0

abbrev pub listed : State → ReadDir → Node → ReadDirOk
listed s a d = record { cookieverf = zeros; entries = fitting s a d; eof = length (fitting s a d) == length (left s a d) }

unfoldable pub read_dir : State → Context → ReadDir → Outcome
read_dir s x a = or_refusal s x Num.ReadDir (do
  d ← current s x
  in_order (listing_checks x a d)
  require (not (fits_none s a d)) TooSmall
  Ok (done s x (Res.ReadDir (listed s a d))))
