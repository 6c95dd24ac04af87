-- The end of clients (RFC 8881 sections 8.3 and 8.4.2): their opens go, with their lock states and the bytes that these hold; and so does each object but the
-- root that then has neither a row nor an open.
use Rattle.std.specs.{Prelude.{ℕ, ◌==◌, Bool, not, filter, if◌then◌else◌}, List.list_any}
use Rattle.nfs_tree.specs.Names.{forget}
use Rattle.nfs_opens.specs.{Table.Table, Closing.held_within}
use Rattle.nfs_names.specs.State.{State, with_tree, is_used}

-- an open of the client stands
abbrev pub has_open : State → ℕ → Bool
has_open s client = list_any (λ o. o.client == client) s.opens.opens

-- what the clients that stay have open and locked
abbrev pub table_staying : (ℕ → Bool) → Table → Table
table_staying stays t = record t {
  opens = filter (λ o. stays o.client) t.opens;
  locks = filter (λ l. stays l.client) t.locks;
  held = held_within (filter (λ l. stays l.client) t.locks) t.held;
}

abbrev pub with_opens : State → Table → State
with_opens s t = record s { opens = t }

-- the state without what a client has open and locked, but with each object
abbrev pub without_opens : State → ℕ → State
without_opens s client = with_opens s (table_staying (λ c. not (c == client)) s.opens)

-- an object goes unless it is used without the client
abbrev pub without_own : State → ℕ → ℕ → State
without_own s client n = if is_used (without_opens s client) n then s else with_tree s (forget s.tree n)

-- of the objects those stay that are the root, have a row or are open
abbrev pub staying : (ℕ → Bool) → State → State
staying stays s =
    let left = with_opens s (table_staying stays s.opens) in
    with_tree left (record left.tree { objects = filter (λ o. is_used left o.number) left.tree.objects })
