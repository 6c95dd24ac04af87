-- What the script of some rounds has on one port.
use Rattle.std.proofs.Common.{◌≡◌, ◌≢◌, ℕ, Bool, true, false, List, [], ◌∷◌, ◌++◌, flat_map, All, refl, sym, ap, ◌∙◌, nat_eq, if◌then◌else◌}
use Rattle.std.proofs.{lemmas.List.Elements.{All-nil, All-cons, All-append}, lemmas.List.Concat.flat_map-append}
use Rattle.nfs_serve.specs.{Desk.{Act, Closed, Stepped}, Hub.{Round, Opens, Turns}}
use Rattle.nfs_promises.specs.Calls.{NothingIsLost.part_of, WholeRuns.{close, entries_of, script, acts_on}}
use Rattle.nfs_serve.proofs.Terms.{stream_on, NoneCloses}

-- the entries of one port's acts are of that port
of_port : (port : ℕ) (a : Act) → All (λ e. e.conn ≡ port) (entries_of port a)
of_port port (Stepped moment part late first) = All-cons (λ e. e.conn ≡ port) (record { moment = moment; conn = port; piece = part }) [] refl (All-nil (λ e. e.conn ≡ port))
of_port port Closed = All-cons (λ e. e.conn ≡ port) (close port) [] refl (All-nil (λ e. e.conn ≡ port))
of_port port a = All-nil (λ e. e.conn ≡ port)

all_of_port : (port : ℕ) (acts : List Act) → All (λ e. e.conn ≡ port) (flat_map (entries_of port) acts)
all_of_port port [] = All-nil (λ e. e.conn ≡ port)
all_of_port port (a ∷ acts) = All-append (λ e. e.conn ≡ port) (entries_of port a) (flat_map (entries_of port) acts) (of_port port a) (all_of_port port acts)

-- and close no other
pub others_open : (port c : ℕ) (acts : List Act) → c ≢ port → NoneCloses c (flat_map (entries_of port) acts)
others_open port c acts other = λ k d lt is. absurd (other (sym is ∙ all_of_port port acts k d lt))

-- the stream of the entries on a port is that of the parts that were stepped there
stream_own : (port other : ℕ) (acts : List Act) → nat_eq other port ≡ true → stream_on port (flat_map (entries_of other) acts) ≡ flat_map part_of acts
stream_own port other [] same = refl
stream_own port other (Stepped moment part late first ∷ acts) same = rw same (ap (λ l. part ++ l) (stream_own port other acts same))
stream_own port other (Closed ∷ acts) same = rw same (stream_own port other acts same)
stream_own port other (a ∷ acts) same = stream_own port other acts same

stream_none : (port other : ℕ) (acts : List Act) → nat_eq other port ≡ false → stream_on port (flat_map (entries_of other) acts) ≡ []
stream_none port other [] same = refl
stream_none port other (Stepped moment part late first ∷ acts) same = rw same (stream_none port other acts same)
stream_none port other (Closed ∷ acts) same = rw same (stream_none port other acts same)
stream_none port other (a ∷ acts) same = stream_none port other acts same

pub stream_script : (port : ℕ) (rounds : List Round) → stream_on port (script rounds) ≡ flat_map part_of (acts_on port rounds)
stream_script port [] = refl
stream_script port (Opens p ∷ rounds) = by (nat_eq p port) (stream_script port rounds)
  where
    by : (b : Bool) → stream_on port (script rounds) ≡ flat_map part_of (acts_on port rounds)
        → (if b then [] else []) ++ stream_on port (script rounds) ≡ flat_map part_of (acts_on port rounds)
    by true more = more
    by false more = more
stream_script port (Turns p acts ∷ rounds) =
    flat_map-append (λ e. if nat_eq e.conn port then e.piece else []) (flat_map (entries_of p) acts) (script rounds)
    ∙ by (nat_eq p port) refl (stream_script port rounds)
  where
    by : (b : Bool) → nat_eq p port ≡ b → stream_on port (script rounds) ≡ flat_map part_of (acts_on port rounds)
        → stream_on port (flat_map (entries_of p) acts) ++ stream_on port (script rounds) ≡ flat_map part_of ((if b then acts else []) ++ acts_on port rounds)
    by true same more = ap (λ l. l ++ stream_on port (script rounds)) (stream_own port p acts same)
        ∙ ap (λ l. flat_map part_of acts ++ l) more ∙ sym (flat_map-append part_of acts (acts_on port rounds))
    by false same more = ap (λ l. l ++ stream_on port (script rounds)) (stream_none port p acts same) ∙ more
