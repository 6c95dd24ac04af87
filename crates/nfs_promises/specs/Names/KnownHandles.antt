-- What is known of filehandles by what was sent and answered, and that it is so (RFC 8881 sections 4.2, 16.2.3.1, 18.4, 18.8, 18.9, 18.13, 18.14, 18.16, 18.19 to 18.21 and
-- 18.25 to 18.28). Whoever sees all calls and their replies knows the filehandles of some names; and goes over the operations of a compound with the current filehandle and
-- the saved one, where it knows them.
use Rattle.std.specs.Prelude.{◌≡◌, ℕ, ◌<◌, ◌^◌, ◌&&◌, Bool, true, not, nat_lt, List, [], ◌∷◌, take, drop, filter, find, Option, Some, None, is_some, option_map, option_and_then, bytes_eq, if◌then◌else◌}
use Rattle.std.specs.{Int.{w32, from_be_bytes}, List.list_all, Option.option_map_or}
use Rattle.nfs_xdr.specs.declared.status.Status.TheVariants.{NoFileHandle}
use Rattle.nfs_compound.specs.{declared.name_args.Rename.Rename, declared.open_args.OpenClaim.OpenClaim, declared.open_args.OpenClaim.TheVariants.Null}
use Rattle.nfs_compound.specs.{declared.op.Item.Item, declared.op.Item.TheVariants.Operation, OpNum.op_number}
use Rattle.nfs_compound.specs.declared.op.Op.TheVariants as Op
use Rattle.nfs_compound.specs.declared.op_num.OpNum.TheVariants as Num
use Rattle.nfs_results.specs.declared.res.Res.TheVariants as Res
use Rattle.nfs_results.specs.Results.{spell_result, refusal}
use Rattle.nfs_tree.specs.Files.{root}
use Rattle.nfs_attrs.specs.Wire.{nfs_fh4}
use Rattle.nfs_names.specs.{declared.start.Start.Start, Outcome.is_ok}
use Rattle.nfs_exec.specs.Runs.Ops.{RanOp}
use Rattle.nfs_serve.specs.{Step.{ServerState, new_state}}
use Rattle.nfs_promises.specs.{Network.Endpoint.Arrival, Names.NameStays.finds_none, Runs.Points.{state_after, ops_of}}

-- a name in a directory
pub record Place : Type 0 where
  pub directory : List ℕ
  pub name : List ℕ

-- it leads to an object; the directory and the object are given by their filehandles
pub record KnownName : Type 0 where
  pub place : Place
  pub object : List ℕ

-- what is known before an operation: the filehandles, the name by which the current one was found or made, and the names
pub record Known : Type 0 where
  pub current : Option (List ℕ)
  pub saved : Option (List ℕ)
  pub came_by : Option Place
  pub names : List KnownName

-- in front of the first operation of a compound
abbrev pub starts : List KnownName → Known
starts names = record { current = None; saved = None; came_by = None; names = names }

abbrev pub is_at : List ℕ → List ℕ → KnownName → Bool
is_at directory name k = bytes_eq k.place.directory directory && bytes_eq k.place.name name

-- the object of a name in a directory, and the directory of an object
abbrev pub object_of : List KnownName → List ℕ → List ℕ → Option (List ℕ)
object_of names directory name = option_map (λ (k : KnownName). k.object) (find (is_at directory name) names)

abbrev pub directory_of : List KnownName → List ℕ → Option (List ℕ)
directory_of names object = option_map (λ (k : KnownName). k.place.directory) (find (λ k. bytes_eq k.object object) names)

-- The name may have gone: it is forgotten in the directory, or in each one, if the directory is not known.
abbrev pub may_be : List ℕ → Option (List ℕ) → KnownName → Bool
may_be name directory k = bytes_eq k.place.name name && option_map_or (bytes_eq k.place.directory) directory true

abbrev pub without : Option (List ℕ) → List ℕ → List KnownName → List KnownName
without directory name names = filter (λ k. not (may_be name directory k)) names

-- a name is known where both filehandles are
abbrev pub with_name : Option Place → Option (List ℕ) → List KnownName → List KnownName
with_name place object names =
    option_map_or (λ (p : Place). option_map_or (λ h. record { place = p; object = h } ∷ names) object names) place names

abbrev pub place_in : Option (List ℕ) → List ℕ → Option Place
place_in directory name = option_map (λ d. record { directory = d; name = name }) directory

-- this becomes the current filehandle
abbrev pub put : Option (List ℕ) → Known → Known
put h k = record k { current = h; came_by = None }

-- on the wire each number in a filehandle is a byte
abbrev pub are_bytes : List ℕ → Bool
are_bytes h = list_all (λ b. nat_lt b 256) h

-- the object of a name in the current directory becomes the current one's
abbrev pub led_by : List ℕ → Known → Known
led_by name k = record k { current = option_and_then (λ d. object_of k.names d name) k.current; came_by = place_in k.current name }

-- a claim that has no name is of the current filehandle's file
abbrev pub opened : OpenClaim → Known → Known
opened (Null name) k = led_by name k
opened claim k = k

-- the filehandle in the result of a GETFH, behind 8 bytes and its length
abbrev pub given_in : List ℕ → List ℕ
given_in result = (let text = drop 8 result in take (from_be_bytes w32 (take 4 text)) (drop 4 text))

-- where it was not known, the name that led to it is
abbrev pub given : List ℕ → Known → Known
given h k = record k { current = Some h; names = if is_some k.current then k.names else with_name k.came_by (Some h) k.names }

abbrev pub renamed : Rename → Known → Known
renamed a k = record k {
  came_by = None;
  names = with_name (place_in k.current a.newname) (option_and_then (λ d. object_of k.names d a.oldname) k.saved)
      (without k.saved a.oldname (without k.current a.newname k.names));
}

-- What is known behind an operation that was answered NFS4_OK. `top` is the root's filehandle.
abbrev pub behind : (top : List ℕ) → Known → Item → (result : List ℕ) → Known
behind top k (Operation (Op.PutFh h)) result = put (if are_bytes h then Some h else None) k
behind top k (Operation Op.PutRootFh) result = put (Some top) k
behind top k (Operation Op.PutPubFh) result = put (Some top) k
behind top k (Operation Op.GetFh) result = given (given_in result) k
behind top k (Operation Op.SaveFh) result = record k { saved = k.current }
behind top k (Operation Op.RestoreFh) result = put k.saved k
behind top k (Operation (Op.Lookup name)) result = led_by name k
behind top k (Operation Op.LookupP) result = put (option_and_then (directory_of k.names) k.current) k
behind top k (Operation (Op.Create a)) result = led_by a.objname k
behind top k (Operation (Op.Open a)) result = opened a.claim k
behind top k (Operation (Op.Link name)) result = record k { names = with_name (place_in k.current name) k.saved k.names }
behind top k (Operation (Op.Remove name)) result = record k { came_by = None; names = without k.current name k.names }
behind top k (Operation (Op.Rename a)) result = renamed a k
behind top k (Operation (Op.SecinfoNoName style)) result = put None k
behind top k item result = k

-- one that was answered otherwise changes nothing
abbrev pub known_after : List ℕ → Known → RanOp → Known
known_after top k d = if is_ok d.status then behind top k d.item d.result else k

abbrev pub known_after_all : List ℕ → Known → List RanOp → Known
known_after_all top k [] = k
known_after_all top k (d ∷ more) = known_after_all top (known_after top k d) more

-- the text of a filehandle of this server's start bears the number of an object
pub record IsHandleOf (instance : ℕ) (h : List ℕ) (n : ℕ) : Type 0 where
  pub is : h ≡ (nfs_fh4 (record { instance = instance; number = n })).bytes
  pub small : n < 2 ^ 64

-- Of an operation, where the current filehandle is known: a GETFH that is answered NFS4_OK gives it, and none is answered NFS4ERR_NOFILEHANDLE; a LOOKUP of a known name is
-- not answered NFS4ERR_NOENT. And the operation is on the object whose number the filehandle bears: so a law of that object is one of the filehandle.
pub record Tells (instance : ℕ) (k : Known) (d : RanOp) : Type 0 where
  pub gives : (h : List ℕ) → k.current ≡ Some h → d.item ≡ Operation Op.GetFh → is_ok d.status ≡ true → d.result ≡ spell_result (Res.GetFh h)
  pub there : (h : List ℕ) → k.current ≡ Some h → d.item ≡ Operation Op.GetFh → d.result ≡ spell_result (refusal (op_number Num.GetFh) NoFileHandle) → ⊥
  pub finds : (h name object : List ℕ) → k.current ≡ Some h → object_of k.names h name ≡ Some object → d.item ≡ Operation (Op.Lookup name) → d.result ≡ finds_none → ⊥
  pub on : (h : List ℕ) → k.current ≡ Some h → (n : ℕ) × IsHandleOf instance h n × (d.context.current ≡ Some n)

-- each of a compound's operations, and each that records bring
abbrev pub Follow : (instance : ℕ) (top : List ℕ) → Known → List RanOp → Type 0
Follow instance top k [] = Unit {0}
Follow instance top k (d ∷ more) = Tells instance k d × Follow instance top (known_after top k d) more

abbrev pub names_after : List ℕ → List KnownName → ServerState → Arrival → List KnownName
names_after top names s c = (known_after_all top (starts names) (ops_of s c)).names

abbrev pub FollowThrough : (instance : ℕ) (top : List ℕ) → List KnownName → ServerState → List Arrival → Type 0
FollowThrough instance top names s [] = Unit {0}
FollowThrough instance top names s (c ∷ more) =
    Follow instance top (starts names) (ops_of s c) × FollowThrough instance top (names_after top names s c) (state_after s c) more

-- the root's filehandle
abbrev pub root_of : ℕ → List ℕ
root_of instance = (nfs_fh4 (record { instance = instance; number = root })).bytes

-- In every run of a server, from its start on: filehandles are as they are known, whoever asks.
abbrev pub HandlesFollow : Type 0
HandlesFollow = (start : Start) → start.instance < 2 ^ 32 → (records : List Arrival)
    → FollowThrough start.instance (root_of start.instance) [] (new_state start) records
