-- The acts of one turn: the entries that they come to, and what they put out.
use Rattle.std.proofs.Common.{◌≡◌, ◌≢◌, ℕ, ◌<◌, List, [], ◌∷◌, ◌++◌, length, flat_map, true, false, All, refl, sym, ap, subst, ◌∙◌, append_assoc}
use Rattle.std.proofs.{Common.{append-nil, map, arith}, lemmas.Bool.{eq-eqb, ne_eqb}, lemmas.List.Elements.{All-nil, All-cons}}
use Rattle.nfs_rpc.specs.Stream.{End, Open, TooLong}
use Rattle.nfs_serve.specs.{declared.form.Form.TheVariants.Plain, Script.Entry, Step.ServerState}
use Rattle.nfs_serve.specs.Run.{Streams, with_stream, TakesAll, StreamEvent, Arrives, overflow, Brings, Move, events, after, after_event, output, output_of}
use Rattle.nfs_serve.specs.Server.{Stands}
use Rattle.nfs_serve.specs.Desk.{most_ports, Desk, closed, leaving, Act, Unready, Came, ReadBlocked, Ended, Took, WriteBlocked, Failed, Closed, Stepped, Goes}
use Rattle.nfs_promises.specs.Calls.{NothingIsLost.{came, taken, part_of}, WholeRuns.{close, IsEntry, entries_of, port_of, output_on}}
use Rattle.nfs_serve.proofs.Terms.{NoneCloses}
use Rattle.nfs_serve.proofs.{Moves.{after-append, output-append, events-append}, Runs.takes_piece}

pub not_served : {A : Type 0} → false ≡ true → A
not_served e = absurd (no e)
  where
    no : false ≡ true → ⊥
    no e = cc

-- all events are of one connection
abbrev pub Own : ℕ → List StreamEvent → Type 0
Own conn [] = Unit {0}
Own conn (e ∷ es) = (port_of e ≡ conn) × Own conn es

Own-append : (conn : ℕ) (xs ys : List StreamEvent) → Own conn xs → Own conn ys → Own conn (xs ++ ys)
Own-append conn [] ys h k = k
Own-append conn (x ∷ xs) ys h k = (h.0, Own-append conn xs ys h.1 k)

own_calls : (conn moment : ℕ) (calls : List (List ℕ)) (end : End) → Own conn (map (λ call. Arrives conn moment call) calls ++ overflow conn end)
own_calls conn moment [] (Open rest) = tt
own_calls conn moment [] TooLong = (refl, tt)
own_calls conn moment (call ∷ calls) end = (refl, own_calls conn moment calls end)

own_brought : (conn moment : ℕ) (before : End) (piece : List ℕ) (brought : List StreamEvent) (end : End) → Brings conn moment before piece brought end → Own conn brought
own_brought conn moment (Open rest) piece brought end h =
    let (calls, reads, is) = h in
    rw is (own_calls conn moment calls end)
own_brought conn moment TooLong piece brought end h = rw h.0 tt

-- what moves of one connection put out there, and elsewhere
pub output_own : (conn : ℕ) (s : ServerState) (moves : List Move) → Own conn (events moves) → output_on conn s moves ≡ output Plain s moves
output_own conn s [] h = refl
output_own conn s (m ∷ moves) h = rw (eq-eqb (port_of m.event) conn h.0)
    (ap (λ l. output_of Plain s m.event m.choice ++ l) (output_own conn (after_event s m.event m.choice) moves h.1))

pub output_other : (conn port : ℕ) (s : ServerState) (moves : List Move) → Own conn (events moves) → port ≢ conn → output_on port s moves ≡ []
output_other conn port s [] h other = refl
output_other conn port s (m ∷ moves) h other = rw (ne_eqb (port_of m.event) port (λ e. other (sym e ∙ h.0)))
    (output_other conn port (after_event s m.event m.choice) moves h.1 other)

-- one connection's stream is replaced
pub stream_same : (streams : Streams) (conn : ℕ) (end : End) → with_stream streams conn end conn ≡ end
stream_same streams conn end = rw (eq-eqb conn conn refl) refl

pub stream_other : (streams : Streams) (conn : ℕ) (end : End) (c : ℕ) → c ≢ conn → with_stream streams conn end c ≡ streams c
stream_other streams conn end c other = rw (ne_eqb c conn other) refl

-- what is held of a connection that is served stands for its stream
pub record Holds (end : End) (d : Desk) : Type 0 where
  pub stands : d.live ≡ true → Stands end d.stream

-- these bytes behind those are what is gone and what is left
abbrev pub Flows : List ℕ → List ℕ → List ℕ → List ℕ → Type 0
Flows before more gone left = before ++ more ≡ gone ++ left

pub flows_on : (a b c more later gone away : List ℕ) → Flows a more gone b → Flows b later away c → Flows a (more ++ later) (gone ++ away) c
flows_on a b c more later gone away h k = sym (append_assoc a more later) ∙ ap (λ l. l ++ later) h ∙ append_assoc gone b later
    ∙ ap (λ l. gone ++ l) k ∙ sym (append_assoc gone away c)

-- a connection that is served all along
pub record Flow (d : Desk) (acts : List Act) (outs : List ℕ) (e : Desk) : Type 0 where
  pub was : d.live ≡ true
  pub in_order : Flows d.unread (flat_map came acts) (flat_map part_of acts) e.unread
  pub out_order : Flows d.owed outs (flat_map taken acts) e.owed

pub record Ran (port : ℕ) (acts : List Act) (s : ServerState) (d : Desk) (from : Streams) (t : ServerState) (e : Desk) : Type 0 where
  pub moves : List Move
  pub to : Streams
  pub fits : All IsEntry (flat_map (entries_of port) acts)
  pub reads : TakesAll from (flat_map (entries_of port) acts) (events moves) to
  pub state : t ≡ after s moves
  pub others : (c : ℕ) → c ≢ port → to c ≡ from c
  pub own : Own port (events moves)
  pub holds : Holds (to port) e
  pub flow : e.live ≡ true → Flow d acts (output Plain s moves) e
  pub open_on : e.live ≡ true → NoneCloses port (flat_map (entries_of port) acts)

-- an act that steps and closes nothing
module _ {port : ℕ} {acts : List Act} {s t : ServerState} {c e : Desk} {from : Streams} (r : Ran port acts s c from t e) where
  passes : (a : Act) (d : Desk) → entries_of port a ≡ [] → ((outs : List ℕ) → Flow c acts outs e → Flow d (a ∷ acts) outs e) → Ran port (a ∷ acts) s d from t e
  passes a d none flow = record {
    moves = r.moves;
    to = r.to;
    fits = rw none r.fits;
    reads = rw none r.reads;
    state = r.state;
    others = r.others;
    own = r.own;
    holds = r.holds;
    flow = λ on. flow (output Plain s r.moves) (r.flow on);
    open_on = λ on. rw none (r.open_on on);
  }

goes_from : (port : ℕ) (s u t : ServerState) (b c e : Desk) (acts : List Act) → u ≡ s → c ≡ b → Goes port u c acts t e → Goes port s b acts t e
goes_from port s u t b c e acts same is h = subst (λ x. Goes port s x acts t e) is (subst (λ x. Goes port x c acts t e) same h)

pub ran : (port : ℕ) (s t : ServerState) (d e : Desk) (acts : List Act) (from : Streams) → port < most_ports → Holds (from port) d
    → Goes port s d acts t e → Ran port acts s d from t e
ran port s t d e [] from le holds h = record {
  moves = [];
  to = from;
  fits = All-nil IsEntry;
  reads = (refl, refl);
  state = h.0;
  others = λ c other. refl;
  own = tt;
  holds = rw h.1 holds;
  flow = λ on. record {
    was = sym (ap (λ x. x.live) h.1) ∙ on;
    in_order = append-nil d.unread ∙ sym (ap (λ x. x.unread) h.1);
    out_order = append-nil d.owed ∙ sym (ap (λ x. x.owed) h.1);
  };
  open_on = λ on. All-nil (λ q. q.conn ≡ port → q.piece ≢ []);
}
ran port s t d e (Unready ∷ acts) from le holds h =
    let (u, c, does, rest) = h in
    let (same, none, is) = does in
    passes (ran port s t d e acts from le holds (goes_from port s u t d c e acts same is rest))
    Unready d refl (λ outs f. record { was = f.was; in_order = f.in_order; out_order = f.out_order })
ran port s t d e (Came bytes ∷ acts) from le holds h =
    let (u, c, does, rest) = h in
    let (same, hungry, some, few, is) = does in
    passes (ran port s t _ e acts from le (record { stands = holds.stands }) (goes_from port s u t _ c e acts same is rest))
    (Came bytes) d refl (λ outs f. record { was = f.was; in_order = rw hungry.unread f.in_order; out_order = f.out_order })
ran port s t d e (ReadBlocked ∷ acts) from le holds h =
    let (u, c, does, rest) = h in
    let (same, hungry, is) = does in
    passes (ran port s t d e acts from le holds (goes_from port s u t d c e acts same is rest))
    ReadBlocked d refl (λ outs f. record { was = f.was; in_order = f.in_order; out_order = f.out_order })
ran port s t d e (Ended ∷ acts) from le holds h =
    let (u, c, does, rest) = h in
    let (same, hungry, is) = does in
    passes (ran port s t leaving e acts from le (record { stands = not_served }) (goes_from port s u t leaving c e acts same is rest))
    Ended d refl (λ outs f. not_served f.was)
ran port s t d e (Took bytes ∷ acts) from le holds h =
    let (u, c, does, rest) = h in
    let (same, live, some, left, split, is) = does in
    passes (ran port s t _ e acts from le (record { stands = holds.stands }) (goes_from port s u t _ c e acts same is rest))
    (Took bytes) d refl (λ outs f. record {
      was = f.was;
      in_order = f.in_order;
      out_order = rw split (append_assoc bytes left outs ∙ ap (λ l. bytes ++ l) f.out_order ∙ sym (append_assoc bytes _ e.owed));
    })
ran port s t d e (WriteBlocked ∷ acts) from le holds h =
    let (u, c, does, rest) = h in
    let (same, live, some, is) = does in
    passes (ran port s t d e acts from le holds (goes_from port s u t d c e acts same is rest))
    WriteBlocked d refl (λ outs f. record { was = f.was; in_order = f.in_order; out_order = f.out_order })
ran port s t d e (Failed ∷ acts) from le holds h =
    let (u, c, does, rest) = h in
    let (same, live, is) = does in
    passes (ran port s t leaving e acts from le (record { stands = not_served }) (goes_from port s u t leaving c e acts same is rest))
    Failed d refl (λ outs f. not_served f.was)
ran port s t d e (Closed ∷ acts) from le holds h =
    let (u, c, does, rest) = h in
    let (same, may, is) = does in
    let to = with_stream from port (Open []) in
    let r = ran port s t closed e acts to le (record { stands = not_served }) (goes_from port s u t closed c e acts same is rest) in record {
      moves = r.moves;
      to = r.to;
      fits = All-cons IsEntry (close port) (flat_map (entries_of port) acts) (omega arith, le, omega arith) r.fits;
      reads = ([], events r.moves, to, refl, (refl, refl), r.reads);
      state = r.state;
      others = λ c other. r.others c other ∙ stream_other from port (Open []) c other;
      own = r.own;
      holds = r.holds;
      flow = λ on. not_served (r.flow on).was;
      open_on = λ on. not_served (r.flow on).was;
    }
ran port s t d e (Stepped moment part late first ∷ acts) from le holds h =
    let (u, c, does, rest) = h in
    let (is, left, out, steps, once, same) = does in
    let takes = steps.takes in
    let (end, brings, stands) = takes.stream (from port) (holds.stands steps.live) in
    let to = with_stream from port end in
    let some : part ≢ [] = λ none. omega (arith, ap length none, steps.some) in
    let entry : Entry = record { moment = moment; conn = port; piece = part } in
    let r = ran port u t _ e acts to le (record { stands = λ on. rw (stream_same from port end) stands })
    (goes_from port u u t _ c e acts refl same rest) in record {
      moves = takes.moves ++ r.moves;
      to = r.to;
      fits = All-cons IsEntry entry (flat_map (entries_of port) acts)
          (steps.clock, le, steps.few) r.fits;
      reads = (
        events takes.moves,
        events r.moves,
        to,
        events-append takes.moves r.moves,
        takes_piece from moment port part (events takes.moves) end some brings,
        r.reads,
      );
      state = r.state ∙ ap (λ x. after x r.moves) takes.state ∙ sym (after-append s takes.moves r.moves);
      others = λ c other. r.others c other ∙ stream_other from port end c other;
      own = rw (events-append takes.moves r.moves) (Own-append port (events takes.moves) (events r.moves) (own_brought port moment (from port) part _ end brings) r.own);
      holds = r.holds;
      flow = λ on.
          let f = r.flow on in record {
            was = f.was;
            in_order = rw steps.split (append_assoc part left _ ∙ ap (λ l. part ++ l) f.in_order ∙ sym (append_assoc part _ e.unread));
            out_order = ap (λ l. d.owed ++ l) (output-append Plain s takes.moves r.moves)
                ∙ ap (λ x. d.owed ++ (output Plain s takes.moves ++ output Plain x r.moves)) (sym takes.state)
                ∙ ap (λ o. d.owed ++ (o ++ output Plain u r.moves)) (sym takes.wrote)
                ∙ sym (append_assoc d.owed out (output Plain u r.moves)) ∙ f.out_order;
          };
      open_on = λ on. All-cons (λ q. q.conn ≡ port → q.piece ≢ []) entry (flat_map (entries_of port) acts) (λ own. some) (r.open_on on);
    }
ran port s t d e (act ∷ acts) from le holds h = absurd h.2
