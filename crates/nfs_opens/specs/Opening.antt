-- OPEN and OPEN_DOWNGRADE as far as they concern opens (RFC 8881 sections 18.16 and 18.18).
use Rattle.std.specs.Prelude.{ℕ, ◌+◌, Bool, not, ◌&&◌, [], ◌∷◌, ◌++◌, Option, Some, None, ok_or, Result, Ok, find}
use Rattle.nfs_xdr.specs.{declared.status.Status.Status, declared.status.Status.TheVariants.{BadStateId, Inval}}
use Rattle.nfs_opens.specs.{declared.share.Share.Share, declared.stateid.StateId.StateId, declared.records.OpenState.OpenState}
use Rattle.nfs_opens.specs.{declared.judging.Sort.TheVariants.OpenOnly, Share.{joined, is_part, is_neither}, StateId.next_seqid, Steps.{◌>>=◌, ◌>>◌, require}}
use Rattle.nfs_opens.specs.{Table.{Table, Asked, is_own, open_at, with_open}, Judging.judge}

-- the open that the owner has of the file
abbrev pub own_open : Table → Asked → Option OpenState
own_open t a = find (is_own a) t.opens

-- the owner's second open joins the bits and raises the seqid
abbrev pub joins : Asked → OpenState → OpenState
joins a o = record o { seqid = next_seqid o.seqid; access = joined o.access a.access; deny = joined o.deny a.deny }

abbrev pub new_open : Table → Asked → OpenState
new_open t a = record { number = t.last + 1; client = a.client; owner = a.owner; file = a.file; seqid = 1; access = a.access; deny = a.deny }

-- the stateid that OPEN answers, and the table after it
pub record Opened : Type 0 where
  pub id : StateId
  pub after : Table

abbrev pub opens_by : Table → Asked → Option OpenState → Opened
opens_by t a (Some o) = record { id = record { seqid = next_seqid o.seqid; instance = t.instance; number = o.number }; after = with_open t o.number (joins a) }
opens_by t a None = record {
  id = record { seqid = 1; instance = t.instance; number = t.last + 1 };
  after = record t { opens = t.opens ++ new_open t a ∷ []; last = t.last + 1 };
}

abbrev pub opens : Table → Asked → Opened
opens t a = opens_by t a (own_open t a)

-- OPEN_DOWNGRADE: some access, and no bit that the open does not have
abbrev pub is_narrower : Share → Share → OpenState → Bool
is_narrower access deny o = not (is_neither access) && (is_part access o.access && is_part deny o.deny)

abbrev pub narrows : Share → Share → OpenState → OpenState
narrows access deny o = record o { seqid = next_seqid o.seqid; access = access; deny = deny }

abbrev pub downgrade : Table → StateId → ℕ → ℕ → Share → Share → Result (StateId × Table) Status
downgrade t id client file access deny = do
  seat ← judge t id client (Some file) OpenOnly
  o ← ok_or (open_at t id.number) BadStateId
  require (is_narrower access deny o) Inval
  Ok (record { seqid = next_seqid o.seqid; instance = t.instance; number = id.number }, with_open t id.number (narrows access deny))
