-- The records of a connection are those of its stream, whatever comes on other connections between its pieces.
use Rattle.std.proofs.Common.{◌≡◌, ◌≢◌, ℕ, Bool, true, false, List, [], ◌∷◌, ◌++◌, refl, sym, ap, subst, ◌∙◌, append_assoc, append-nil, flat_map, map, All, inl}
use Rattle.std.proofs.{Common.{inr, nat_eq}, lemmas.{Bool.{eq-eqb, ne_eqb, eqb-true}, List.{Elements.{All-head, All-tail}, Concat.flat_map-append}}}
use Rattle.nfs_rpc.specs.{RecordMarking.start, Stream.{End, Open, TooLong, IsReading, IsUnfinished}}
use Rattle.nfs_rpc.proofs.Readings.{reading_then, part_unfinished}
use Rattle.nfs_serve.specs.{Script.Entry, Run.{Streams, with_stream, all_closed, Brings, TakesPiece, TakesAll, StreamEvent, Arrives, overflow}}
use Rattle.nfs_promises.specs.Calls.Streams.{call_on, overflow_on, IsClosedBehind, ConnectionsAreStreams}
use Rattle.nfs_serve.proofs.{Terms.{events_of, stream_on, NoneCloses}, Pieces.start_holds}
use Rattle.nfs_promises.proofs.Calls.CutsAnywhere.{still_long}

-- entries one after the other
record ReadsParts (old : Streams) (xs ys : List Entry) (brought : List StreamEvent) (new : Streams) : Type 0 where
  first : List StreamEvent
  later : List StreamEvent
  between : Streams
  order : brought ≡ first ++ later
  front : TakesAll old xs first between
  back : TakesAll between ys later new

parts : (old : Streams) (xs ys : List Entry) (brought : List StreamEvent) (new : Streams) → TakesAll old (xs ++ ys) brought new → ReadsParts old xs ys brought new
parts old [] ys brought new h = record { first = []; later = brought; between = old; order = refl; front = (refl, refl); back = h }
parts old (e ∷ xs) ys brought new (here, more, middle, is, takes, rest) =
    let p = parts middle xs ys more new rest in record {
      first = here ++ p.first;
      later = p.later;
      between = p.between;
      order = is ∙ ap (λ l. here ++ l) p.order ∙ sym (append_assoc here p.first p.later);
      front = (here, p.first, middle, refl, takes, p.front);
      back = p.back;
    }

-- what a connection sees of another one's events
calls_other : (c conn moment : ℕ) (calls : List (List ℕ)) → nat_eq c conn ≡ false → flat_map (call_on conn) (map (λ call. Arrives c moment call) calls) ≡ []
calls_other c conn moment [] other = refl
calls_other c conn moment (call ∷ calls) other = rw other (calls_other c conn moment calls other)

overflow_other : (c conn : ℕ) (end : End) → nat_eq c conn ≡ false
    → (flat_map (call_on conn) (overflow c end) ≡ []) × (flat_map (overflow_on conn) (overflow c end) ≡ [])
overflow_other c conn (Open rest) other = (refl, refl)
overflow_other c conn TooLong other = rw other (refl, refl)

no_overflow : (c conn moment : ℕ) (calls : List (List ℕ)) → flat_map (overflow_on conn) (map (λ call. Arrives c moment call) calls) ≡ []
no_overflow c conn moment [] = refl
no_overflow c conn moment (call ∷ calls) = no_overflow c conn moment calls

-- and of its own
calls_own : (conn moment : ℕ) (calls : List (List ℕ)) → flat_map (call_on conn) (map (λ call. Arrives conn moment call) calls) ≡ calls
calls_own conn moment [] = refl
calls_own conn moment (call ∷ calls) = rw (eq-eqb conn conn refl) (ap (λ l. call ∷ l) (calls_own conn moment calls))

overflow_own : (conn : ℕ) (end : End)
    → (flat_map (call_on conn) (overflow conn end) ≡ []) × (flat_map (overflow_on conn) (overflow conn end) ≡ overflow conn end)
overflow_own conn (Open rest) = (refl, refl)
overflow_own conn TooLong = rw (eq-eqb conn conn refl) (refl, refl)

abbrev Sees : ℕ → List StreamEvent → List (List ℕ) → List StreamEvent → Type 0
Sees conn brought calls told = (flat_map (call_on conn) brought ≡ calls) × (flat_map (overflow_on conn) brought ≡ told)

sees_nothing : (c conn moment : ℕ) (calls : List (List ℕ)) (end : End) → nat_eq c conn ≡ false → Sees conn (events_of c moment calls end) [] []
sees_nothing c conn moment calls end other =
    let f = map (λ call. Arrives c moment call) calls in
    let o = overflow_other c conn end other in (
      flat_map-append (call_on conn) f (overflow c end) ∙ ap (λ l. l ++ flat_map (call_on conn) (overflow c end)) (calls_other c conn moment calls other) ∙ o.0,
      flat_map-append (overflow_on conn) f (overflow c end)
          ∙ ap (λ l. l ++ flat_map (overflow_on conn) (overflow c end)) (no_overflow c conn moment calls) ∙ o.1,
    )

sees_own : (conn moment : ℕ) (calls : List (List ℕ)) (end : End) → Sees conn (events_of conn moment calls end) calls (overflow conn end)
sees_own conn moment calls end =
    let f = map (λ call. Arrives conn moment call) calls in
    let o = overflow_own conn end in (
      flat_map-append (call_on conn) f (overflow conn end)
          ∙ ap (λ l. l ++ flat_map (call_on conn) (overflow conn end)) (calls_own conn moment calls) ∙ ap (λ l. calls ++ l) o.0 ∙ append-nil calls,
      flat_map-append (overflow_on conn) f (overflow conn end)
          ∙ ap (λ l. l ++ flat_map (overflow_on conn) (overflow conn end)) (no_overflow conn conn moment calls) ∙ o.1,
    )

sees_both : (conn : ℕ) (a b : List StreamEvent) (calls more : List (List ℕ)) (told again : List StreamEvent)
    → Sees conn a calls told → Sees conn b more again → Sees conn (a ++ b) (calls ++ more) (told ++ again)
sees_both conn a b calls more told again h g = (
  flat_map-append (call_on conn) a b ∙ ap (λ l. l ++ flat_map (call_on conn) b) h.0 ∙ ap (λ l. calls ++ l) g.0,
  flat_map-append (overflow_on conn) a b ∙ ap (λ l. l ++ flat_map (overflow_on conn) b) h.1 ∙ ap (λ l. told ++ l) g.1,
)

-- an entry of another connection
brings_other : (c conn moment : ℕ) (before : End) (piece : List ℕ) (brought : List StreamEvent) (end : End)
    → nat_eq c conn ≡ false → Brings c moment before piece brought end → Sees conn brought [] []
brings_other c conn moment (Open rest) piece brought end other (calls, reading, is) =
    subst (λ b. Sees conn b [] []) (sym is) (sees_nothing c conn moment calls end other)
brings_other c conn moment TooLong piece brought end other h = subst (λ b. Sees conn b [] []) (sym h.0) (refl, refl)

with_other : (old : Streams) (c conn : ℕ) (stream : End) → conn ≢ c → with_stream old c stream conn ≡ old conn
with_other old c conn stream other = rw (ne_eqb conn c other) refl

takes_other : (old : Streams) (moment c conn : ℕ) (piece : List ℕ) (brought : List StreamEvent) (new : Streams)
    → c ≢ conn → TakesPiece old moment c piece brought new → (new conn ≡ old conn) × Sees conn brought [] []
takes_other old moment c conn [] brought new other h =
    (ap (λ s. s conn) h.1 ∙ with_other old c conn (Open []) (λ e. other (sym e)), subst (λ b. Sees conn b [] []) (sym h.0) (refl, refl))
takes_other old moment c conn (b ∷ bytes) brought new other (end, brings, is) = (
  ap (λ s. s conn) is ∙ with_other old c conn end (λ e. other (sym e)),
  brings_other c conn moment (old c) (b ∷ bytes) brought end (ne_eqb c conn other) brings,
)

-- an entry of its own
takes_own : (old : Streams) (moment conn : ℕ) (piece : List ℕ) (brought : List StreamEvent) (new : Streams) → piece ≢ []
    → TakesPiece old moment conn piece brought new → Brings conn moment (old conn) piece brought (new conn)
takes_own old moment conn [] brought new some h = absurd (some refl)
takes_own old moment conn (b ∷ bytes) brought new some (end, brings, is) =
    let here : new conn ≡ end = ap (λ s. s conn) is ∙ rw (eq-eqb conn conn refl) refl in
    subst (λ e. Brings conn moment (old conn) (b ∷ bytes) brought e) (sym here) brings

untouched : (conn : ℕ) (entries : List Entry) (old : Streams) (brought : List StreamEvent) (new : Streams)
    → All (λ e. e.conn ≢ conn) entries → TakesAll old entries brought new → new conn ≡ old conn
untouched conn [] old brought new all h = ap (λ s. s conn) h.1
untouched conn (e ∷ entries) old brought new all (first, later, between, is, takes, rest) =
    untouched conn entries between later new (All-tail (λ d. d.conn ≢ conn) e entries all) rest
    ∙ (takes_other old e.moment e.conn conn e.piece first between (All-head (λ d. d.conn ≢ conn) e entries all) takes).0

closes : (old : Streams) (moment conn : ℕ) (piece : List ℕ) (brought : List StreamEvent) (new : Streams)
    → piece ≡ [] → TakesPiece old moment conn piece brought new → new conn ≡ Open []
closes old moment conn [] brought new none h = ap (λ s. s conn) h.1 ∙ rw (eq-eqb conn conn refl) refl
closes old moment conn (b ∷ bytes) brought new none h = absurd (cons_nil none)
  where
    cons_nil : b ∷ bytes ≡ [] → ⊥
    cons_nil e = cc

closed : (conn : ℕ) (front : List Entry) (brought : List StreamEvent) (new : Streams)
    → IsClosedBehind conn front → TakesAll all_closed front brought new → new conn ≡ Open []
closed conn front brought new (inl all) reads = untouched conn front all_closed brought new all reads
closed conn front brought new (inr (before, close, others, is, of, none, all)) reads =
    let p = parts all_closed before (close ∷ others) brought new (subst (λ es. TakesAll all_closed es brought new) is reads) in
    let (first, later, between, order, takes, rest) = p.back in
    untouched conn others between later new all rest
    ∙ closes p.between close.moment conn close.piece first between none (subst (λ c. TakesPiece p.between close.moment c close.piece first between) of takes)

-- a stream that is too long is ignored
abbrev IgnoredFrom : ℕ → Streams → List StreamEvent → Streams → Type 0
IgnoredFrom conn old brought new = old conn ≡ TooLong → (new conn ≡ TooLong) × Sees conn brought [] []

ignored : (conn : ℕ) (entries : List Entry) (old : Streams) (brought : List StreamEvent) (new : Streams) → NoneCloses conn entries
    → old conn ≡ TooLong → TakesAll old entries brought new → (new conn ≡ TooLong) × Sees conn brought [] []
ignored conn [] old brought new none long h = (ap (λ s. s conn) h.1 ∙ long, subst (λ b. Sees conn b [] []) (sym h.0) (refl, refl))
ignored conn (e ∷ entries) old brought new none long (first, later, between, is, takes, rest) =
    by_conn (λ still. ignored conn entries between later new (All-tail (λ d. d.conn ≡ conn → d.piece ≢ []) e entries none) still rest) (nat_eq e.conn conn) refl
  where
    go_on : IgnoredFrom conn between later new → between conn ≡ TooLong → Sees conn first [] [] → (new conn ≡ TooLong) × Sees conn brought [] []
    go_on further still seen =
        let (end, more) = further still in
        (end, subst (λ b. Sees conn b [] []) (sym is) (sees_both conn first later [] [] [] [] seen more))

    by_conn : IgnoredFrom conn between later new → (b : Bool) → nat_eq e.conn conn ≡ b → (new conn ≡ TooLong) × Sees conn brought [] []
    by_conn further true same =
        let own = eqb-true e.conn conn same in
        let brings = subst (λ s. Brings conn e.moment s e.piece first (between conn)) long (takes_own old e.moment conn e.piece first between
        (All-head (λ d. d.conn ≡ conn → d.piece ≢ []) e entries none own) (subst (λ c. TakesPiece old e.moment c e.piece first between) own takes)) in
        go_on further brings.1 (subst (λ b. Sees conn b [] []) (sym brings.0) (refl, refl))
    by_conn further false same =
        let (kept, seen) = takes_other old e.moment e.conn conn e.piece first between (λ own. differ (sym (eq-eqb e.conn conn own) ∙ same)) takes in
        go_on further (kept ∙ long) seen
      where
        differ : true ≡ false → ⊥
        differ x = cc

abbrev AsOne : ℕ → List ℕ → List StreamEvent → End → Type 0
AsOne conn stream brought end = IsReading stream (flat_map (call_on conn) brought) end × (flat_map (overflow_on conn) brought ≡ overflow conn end)

as_one : (conn : ℕ) (stream : List ℕ) (brought : List StreamEvent) (end : End) (calls : List (List ℕ)) (told : List StreamEvent)
    → Sees conn brought calls told → IsReading stream calls end → told ≡ overflow conn end → AsOne conn stream brought end
as_one conn stream brought end calls told seen reads is = (subst (λ c. IsReading stream c end) (sym seen.0) reads, seen.1 ∙ is)

sees : (conn : ℕ) (brought : List StreamEvent) → Sees conn brought (flat_map (call_on conn) brought) (flat_map (overflow_on conn) brought)
sees conn brought = (refl, refl)

abbrev GoesOnAsOne : ℕ → List Entry → Streams → List StreamEvent → Streams → Type 0
GoesOnAsOne conn entries old brought new = (mid : List ℕ) → old conn ≡ Open mid
    → IsUnfinished mid → AsOne conn (mid ++ stream_on conn entries) brought (new conn)

pub stretch : (conn : ℕ) (entries : List Entry) (old : Streams) (brought : List StreamEvent) (new : Streams) (rest : List ℕ)
    → NoneCloses conn entries → old conn ≡ Open rest → IsUnfinished rest → TakesAll old entries brought new
    → AsOne conn (rest ++ stream_on conn entries) brought (new conn)
stretch conn [] old brought new rest none begun unfinished h =
    let end : new conn ≡ Open rest = ap (λ s. s conn) h.1 ∙ begun in
    subst (λ e. AsOne conn (rest ++ []) brought e) (sym end)
    (as_one conn (rest ++ []) brought (Open rest) [] [] (subst (λ b. Sees conn b [] []) (sym h.0) (refl, refl))
    (record { behind = rest ++ []; stands = refl; ends = (append-nil rest, unfinished) }) refl)
stretch conn (e ∷ entries) old brought new rest none begun unfinished (first, later, between, is, takes, more) =
    let tail = All-tail (λ d. d.conn ≡ conn → d.piece ≢ []) e entries none in
    by_conn (λ mid at unfinished. stretch conn entries between later new mid tail at unfinished more) (nat_eq e.conn conn) refl
  where
    other : GoesOnAsOne conn entries between later new → nat_eq e.conn conn ≡ false → AsOne conn (rest ++ stream_on conn (e ∷ entries)) brought (new conn)
    other further same =
        let (kept, seen) = takes_other old e.moment e.conn conn e.piece first between (λ own. differ (sym (eq-eqb e.conn conn own) ∙ same)) takes in
        let (reads, told) = further rest (kept ∙ begun) unfinished in
        rw same (as_one conn (rest ++ stream_on conn entries) brought (new conn) (flat_map (call_on conn) later) (flat_map (overflow_on conn) later)
        (subst (λ b. Sees conn b (flat_map (call_on conn) later) (flat_map (overflow_on conn) later)) (sym is)
        (sees_both conn first later [] (flat_map (call_on conn) later) [] (flat_map (overflow_on conn) later) seen (sees conn later))) reads told)
      where
        differ : true ≡ false → ⊥
        differ x = cc

    own : GoesOnAsOne conn entries between later new → nat_eq e.conn conn ≡ true → (end : End) → between conn ≡ end
        → Brings conn e.moment (Open rest) e.piece first end → AsOne conn (rest ++ (e.piece ++ stream_on conn entries)) brought (new conn)
    own further same (Open mid) at (calls, reads, brings) =
        let (whole, told) = further mid at reads.ends.1 in
        as_one conn (rest ++ (e.piece ++ stream_on conn entries)) brought (new conn)
        (calls ++ flat_map (call_on conn) later) (flat_map (overflow_on conn) later)
        (subst (λ b. Sees conn b (calls ++ flat_map (call_on conn) later) (flat_map (overflow_on conn) later)) (sym is)
        (sees_both conn first later calls (flat_map (call_on conn) later) [] (flat_map (overflow_on conn) later)
        (subst (λ b. Sees conn b calls []) (sym brings) (sees_own conn e.moment calls (Open mid))) (sees conn later)))
        (subst (λ s. IsReading s (calls ++ flat_map (call_on conn) later) (new conn)) (append_assoc rest e.piece (stream_on conn entries))
        (reading_then (rest ++ e.piece) (stream_on conn entries) mid calls (flat_map (call_on conn) later) (new conn) reads whole))
        told
    own further same TooLong at (calls, reads, brings) =
        let (end, seen) = ignored conn entries between later new (All-tail (λ d. d.conn ≡ conn → d.piece ≢ []) e entries none) at more in
        subst (λ x. AsOne conn (rest ++ (e.piece ++ stream_on conn entries)) brought x) (sym end)
        (as_one conn (rest ++ (e.piece ++ stream_on conn entries)) brought TooLong (calls ++ []) (overflow conn TooLong ++ [])
        (subst (λ b. Sees conn b (calls ++ []) (overflow conn TooLong ++ [])) (sym is) (sees_both conn first later calls []
        (overflow conn TooLong) [] (subst (λ b. Sees conn b calls (overflow conn TooLong)) (sym brings) (sees_own conn e.moment calls TooLong)) seen))
        (subst (λ c. IsReading (rest ++ (e.piece ++ stream_on conn entries)) c TooLong) (sym (append-nil calls)) (subst (λ s. IsReading s calls TooLong)
        (append_assoc rest e.piece (stream_on conn entries)) (still_long (rest ++ e.piece) (stream_on conn entries) calls reads)))
        (append-nil (overflow conn TooLong)))

    by_conn : GoesOnAsOne conn entries between later new → (b : Bool) → nat_eq e.conn conn ≡ b
        → AsOne conn (rest ++ stream_on conn (e ∷ entries)) brought (new conn)
    by_conn further false same = other further same
    by_conn further true same =
        let is_own = eqb-true e.conn conn same in
        let brings = takes_own old e.moment conn e.piece first between (All-head (λ d. d.conn ≡ conn → d.piece ≢ []) e entries none is_own)
        (subst (λ c. TakesPiece old e.moment c e.piece first between) is_own takes) in
        rw same (own further same (between conn) refl (subst (λ s. Brings conn e.moment s e.piece first (between conn)) begun brings))

pub connections : ConnectionsAreStreams
connections conn front here back brought end reads begins none =
    let a = parts all_closed front (here ++ back) brought end reads in
    let b = parts a.between here back a.later end a.back in
    let one = stretch conn here a.between b.first b.between [] none
    (closed conn front a.first a.between begins a.front) (part_unfinished [] start start_holds) b.front in record {
      before = a.first;
      here = b.first;
      later = b.later;
      from = a.between;
      to = b.between;
      order = a.order ∙ ap (λ l. a.first ++ l) b.order;
      reads_front = a.front;
      reads_stretch = b.front;
      reads_back = b.back;
      stream = one.0;
      overflows = one.1;
    }
