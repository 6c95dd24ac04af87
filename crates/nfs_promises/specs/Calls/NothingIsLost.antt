-- One connection of many, from one act to a later one: nothing that came is lost, and no reply is lost, doubled or out of its order.
use Rattle.std.specs.Prelude.{◌≡◌, ℕ, List, [], ◌∷◌, ◌++◌, flat_map, true}
use Rattle.nfs_rpc.specs.RecordMarking.{Gathered}
use Rattle.nfs_serve.specs.{Step.ServerState, Desk.{Desk, Act, Came, Took, Stepped, TakesPart, Goes}}

abbrev pub came : Act → List ℕ
came (Came bytes) = bytes
came act = []

abbrev pub taken : Act → List ℕ
taken (Took bytes) = bytes
taken act = []

abbrev pub part_of : Act → List ℕ
part_of (Stepped moment part late first) = part
part_of act = []

-- the parts that were stepped, in order, and what they put out
abbrev pub Answers : ℕ → ServerState → Gathered → List Act → ServerState → Gathered → List ℕ → Type 0
Answers port s was [] t is outs = (t ≡ s) × (is ≡ was) × (outs ≡ [])
Answers port s was (Stepped moment part late first ∷ acts) t is outs = (u : ServerState) × (mid : Gathered) × (out : List ℕ) × (more : List ℕ)
    × TakesPart port s was moment part u mid out × (outs ≡ out ++ more) × Answers port u mid acts t is more
Answers port s was (act ∷ acts) t is outs = Answers port s was acts t is outs

-- Acts of a connection that is served all along: what came is what was stepped and what waits, and what was put out, in that
-- order, is what the peer took and what is owed.
pub record Account (port : ℕ) (s : ServerState) (d : Desk) (acts : List Act) (t : ServerState) (e : Desk) : Type 0 where
  pub outs : List ℕ
  pub answers : Answers port s d.stream acts t e.stream outs
  pub in_order : d.unread ++ flat_map came acts ≡ flat_map part_of acts ++ e.unread
  pub out_order : d.owed ++ outs ≡ flat_map taken acts ++ e.owed

abbrev pub NothingIsLost : Type 0
NothingIsLost = (port : ℕ) (s t : ServerState) (d e : Desk) (acts : List Act) → Goes port s d acts t e → e.live ≡ true → Account port s d acts t e
