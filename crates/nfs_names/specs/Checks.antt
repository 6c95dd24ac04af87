-- Checks that several operations share, each once.
use Rattle.std.specs.{Prelude.{ℕ, ◌==◌, ◌||◌, Bool, not, List, [], ◌∷◌, length, nat_lt, Option, Some, None, Result, Ok, Err, bytes_eq}, List.list_any}
use Rattle.nfs_xdr.specs.declared.status.Status.{Status}
use Rattle.nfs_xdr.specs.declared.status.Status.TheVariants.{Access, NotDir, Inval, NameTooLong, Stale, NoFileHandle, BadChar, BadName}
use Rattle.nfs_tree.specs.{declared.object.Object.Object, Object.is_directory, Files.{most_name, object_at}}
use Rattle.nfs_attrs.specs.{declared.permission.Want.Want, Permissions.may}
use Rattle.nfs_opens.specs.Steps.{◌>>=◌}
use Rattle.nfs_names.specs.{declared.context.Context.Context, declared.context.Saved.Saved, declared.node.Node.Node, declared.node.Pair.Pair, State.State}

-- A filehandle is wanted and there is none, or its object is gone (RFC 8881 sections 15.1.2.5 and 15.1.2.7).
abbrev pub node_as : ℕ → Option Object → Result Node Status
node_as n None = Err Stale
node_as n (Some o) = Ok (record { number = n; object = o })

abbrev pub node_at : State → Option ℕ → Result Node Status
node_at s None = Err NoFileHandle
node_at s (Some n) = node_as n (object_at s.tree n)

abbrev pub saved_object : Option Saved → Option ℕ
saved_object None = None
saved_object (Some saved) = Some saved.object

-- the object of the current filehandle
unfoldable pub current : State → Context → Result Node Status
current s x = node_at s x.current

-- the objects of the current filehandle and of the saved one: the current one is looked at first
unfoldable pub both : State → Context → Result Pair Status
both s x = do
  d ← current s x
  e ← node_at s (saved_object x.saved)
  Ok (record { current = d; saved = e })

abbrev pub no_directory : Node → Bool × Status
no_directory d = (not (is_directory d.object.kind), NotDir)

-- whether the permission bits let the caller do it
unfoldable pub permits : Context → Node → Want → Bool
permits x d want = may d.object x.who want

abbrev pub no_access : Context → Node → Want → Bool × Status
no_access x d want = (not (permits x d want), Access)

-- The four checks of a name (component4, RFC 8881 sections 14.3 and 15.1.7): `/` and a zero byte stand in none, and `.` and `..` are none.
abbrev pub name_checks : List ℕ → List (Bool × Status)
name_checks name =
    (length name == 0, Inval)
    ∷ (nat_lt most_name (length name), NameTooLong)
    ∷ (list_any (λ byte. byte == 0x2f || byte == 0) name, BadChar)
    ∷ (bytes_eq name (0x2e ∷ []) || bytes_eq name (0x2e ∷ 0x2e ∷ []), BadName)
    ∷ []
