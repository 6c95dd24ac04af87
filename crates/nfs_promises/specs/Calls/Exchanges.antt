-- Two scripts and what a new server of instance 7, whose leases last 90 seconds, puts out for them, as words of four bytes: a call of NULL
-- (RFC 8881 section 16.1), and EXCHANGE_ID (RFC 8881 section 18.35) of the owner `A`, sent twice.
use Rattle.std.specs.Prelude.{◌≡◌, ℕ, List, [], ◌∷◌, ◌++◌, All, None}
use Rattle.nfs_promises.specs.Runs.{Requests.words, Started.usual}
use Rattle.nfs_serve.specs.{declared.form.Form.TheVariants.Tagged, Script.{Entry, IsWhole}, Step.new_state}
use Rattle.nfs_serve.specs.Run.{Streams, all_closed, TakesAll, Move, events, output}

-- The script is whole entries, whose moves, where memory is never refused, put this out.
pub record RunsTo (script written : List ℕ) : Type 0 where
  pub entries : List Entry
  pub moves : List Move
  pub streams : Streams
  pub whole : IsWhole script entries
  pub reads : TakesAll all_closed entries (events moves) streams
  pub granted : All (λ m. m.choice ≡ None) moves
  pub output : written ≡ output Tagged (new_state usual) moves

-- xid, CALL, RPC version 2, program, version, procedure NULL, and twice AUTH_NONE with no bytes
abbrev pub null_by : (xid : ℕ) → List ℕ
null_by xid = words (xid ∷ 0 ∷ 2 ∷ 100003 ∷ 4 ∷ 0 ∷ 0 ∷ 0 ∷ 0 ∷ 0 ∷ [])

abbrev pub null_call : List ℕ
null_call = null_by 1

-- at moment 100, on connection 0, a fragment of 40 bytes, the last
abbrev pub null_script : List ℕ
null_script = words (0 ∷ 100 ∷ 0 ∷ 44 ∷ 0x8000_0028 ∷ []) ++ null_call

abbrev pub null_output : List ℕ
null_output = words (0 ∷ 0x8000_0018 ∷ 1 ∷ 1 ∷ 0 ∷ 0 ∷ 0 ∷ 0 ∷ [])

-- xid 2 and AUTH_SYS of uid 0; no tag, minor version 1, one operation; verifier 1, owner `A`, no flags, no state protection
abbrev pub exchange_call : List ℕ
exchange_call = words (2 ∷ 0 ∷ 2 ∷ 100003 ∷ 4 ∷ 1 ∷ 1 ∷ 20 ∷ 0 ∷ 0 ∷ 0 ∷ 0 ∷ 0 ∷ 0 ∷ 0 ∷ 0 ∷ 1 ∷ 1 ∷ 42 ∷ 0 ∷ 1 ∷ 1 ∷ 0x4100_0000 ∷ 0 ∷ 0 ∷ 0 ∷ [])

abbrev pub exchange_entry : List ℕ
exchange_entry = words (0 ∷ 100 ∷ 0 ∷ 108 ∷ 0x8000_0068 ∷ []) ++ exchange_call

abbrev pub exchange_script : List ℕ
exchange_script = exchange_entry ++ exchange_entry

-- a client id of the instance and a counter; its server owner and scope are the text `nfs41d`
abbrev pub exchange_reply : ℕ → List ℕ
exchange_reply counter = words (0 ∷ 0x8000_0064 ∷ 2 ∷ 1 ∷ 0 ∷ 0 ∷ 0 ∷ 0 ∷ 0 ∷ 0 ∷ 1 ∷ 42 ∷ 0 ∷ 7 ∷ counter
    ∷ 1 ∷ 0x0001_0000 ∷ 0 ∷ 0 ∷ 0 ∷ 6 ∷ 0x6e66_7334 ∷ 0x3164_0000 ∷ 6 ∷ 0x6e66_7334 ∷ 0x3164_0000 ∷ 0 ∷ [])

abbrev pub exchange_output : List ℕ
exchange_output = exchange_reply 1 ++ exchange_reply 2
