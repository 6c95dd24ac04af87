-- The run of a script, of a talk and of many connections, as a run of their records.
use Rattle.std.proofs.Common.{◌≡◌, ◌≢◌, ℕ, Bool, true, false, List, [], ◌∷◌, ◌++◌, flat_map, Option, Result, Ok, Err, refl, sym, ap, subst, ◌∙◌, append_assoc, append-nil, nat_eq, if◌then◌else◌, inl, inr}
use Rattle.std.specs.Io.KnownBytes.{Consumes}
use Rattle.nfs_rpc.specs.{RecordMarking.{Gathered, start}, Stream.{End, Open, TooLong, IsUnfinished, EndsAs, IsReading}}
use Rattle.nfs_rpc.proofs.Readings.{one_reading, part_unfinished}
use Rattle.nfs_names.specs.{declared.start.Start.Start}
use Rattle.nfs_serve.specs.declared.{fault.{Stop.Stop, ReplayFault.ReplayFault}, form.{Form.Form, Flow.Flow}, moving.WriteFailed.WriteFailed}
use Rattle.nfs_serve.specs.{declared.{form.Form.TheVariants.{Tagged, Plain}, talking.Talk.Talk}, Script.{Entry, spell_entry}, Step.{ServerState, step}}
use Rattle.nfs_serve.specs.Run.{Streams, with_stream, all_closed, Brings, TakesPiece, TakesAll, StreamEvent, Arrives, Overflows, Move, events, after}
use Rattle.nfs_serve.specs.{Run.{after_event, output, Runs, RunsInto}, Server.{Stands, FeedsOr}, Replay.{Replayed, ReplaysFault}, Talk.SpeaksUntil, Hub.at}
use Rattle.nfs_promises.specs.{Network.{Endpoint.{Answer, Server, Arrival, stepped, ran}, ThisServer.server}, Runs.Points.state_after_all}
use Rattle.nfs_promises.specs.Calls.EachForm.{record_of, records_of, LeavesOf, AllRun, FrontRuns, RunUpTo, EachFormRunsRecords}
use Rattle.nfs_serve.specs.declared.fault.Stop.TheVariants as stops
use Rattle.nfs_serve.specs.declared.talking.Talk.TheVariants as talks
use Rattle.nfs_serve.proofs.{Terms.events_of, Moves.{events-append, after-append, output-last, TakesAll-more}, Pieces.start_holds, Runs.takes_piece}
use Rattle.nfs_promises.proofs.Calls.WholeRuns.{runs_script}

-- the state behind moves is that of their records
by_event : (find : List ℕ → Option Answer) (start : Start) (s : ServerState) (moves : List Move) (e : StreamEvent) (choice : Option ℕ)
    → ((t : ServerState) → after t moves ≡ ran (server find start) t (records_of moves))
    → after (after_event s e choice) moves ≡ ran (server find start) s (record_of e choice ++ records_of moves)
by_event find start s moves (Arrives conn moment call) choice rest = rest (step s call moment choice).state
by_event find start s moves (Overflows conn) choice rest = rest s

after_is : (find : List ℕ → Option Answer) (start : Start) (s : ServerState) (moves : List Move) → after s moves ≡ ran (server find start) s (records_of moves)
after_is find start s [] = refl
after_is find start s (m ∷ moves) = by_event find start s moves m.event m.choice (λ t. after_is find start t moves)

runs_on : (s : Server) (m : s.State) (before records : List Arrival) → ran s (ran s m before) records ≡ ran s m (before ++ records)
runs_on s m [] records = refl
runs_on s m (a ∷ more) records = runs_on s (stepped s m a).state more records

points_are : (find : List ℕ → Option Answer) (start : Start) (s : ServerState) (records : List Arrival)
    → ran (server find start) s records ≡ state_after_all s records
points_are find start s [] = refl
points_are find start s (a ∷ more) = points_are find start (step s a.bytes a.now a.choice).state more

all_ran : (form : Form) (old new : ServerState) (entries : List Entry) (streams : Streams) (written : List ℕ) → Runs form old new entries streams written → AllRun form old new entries written
all_ran form old new entries streams written r =
    (r.moves, record { streams = streams; brought = r.reads; state = λ find start. r.state ∙ after_is find start old r.moves }, r.wrote)

-- No whole record stands in what is held of a stream.

abbrev IsRest : End → Type 0
IsRest (Open rest) = IsUnfinished rest
IsRest TooLong = Unit {0}

rest_ends : (behind : List ℕ) (end : End) → EndsAs behind end → IsRest end
rest_ends behind (Open rest) e = e.1
rest_ends behind TooLong e = tt

rest_brought : (conn moment : ℕ) (before : End) (piece : List ℕ) (brought : List StreamEvent) (end : End) → Brings conn moment before piece brought end → IsRest end
rest_brought conn moment (Open rest) piece brought end b = rest_ends b.1.behind end b.1.ends
rest_brought conn moment TooLong piece brought end b = subst IsRest (sym b.1) tt

rest_with : (streams : Streams) (conn : ℕ) (end : End) → IsRest end → ((c : ℕ) → IsRest (streams c)) → (c : ℕ) → IsRest (with_stream streams conn end c)
rest_with streams conn end here all c = by (nat_eq c conn)
  where
    by : (b : Bool) → IsRest (if b then end else streams c)
    by true = here
    by false = all c

rest_open : IsRest (Open [])
rest_open = part_unfinished [] start start_holds

rest_piece : (old new : Streams) (moment conn : ℕ) (piece : List ℕ) (brought : List StreamEvent) → TakesPiece old moment conn piece brought new → ((c : ℕ) → IsRest (old c)) → (c : ℕ) → IsRest (new c)
rest_piece old new moment conn [] brought t all = subst (λ (s : Streams). (c : ℕ) → IsRest (s c)) (sym t.1) (rest_with old conn (Open []) rest_open all)
rest_piece old new moment conn (b ∷ bytes) brought t all =
    subst (λ (s : Streams). (c : ℕ) → IsRest (s c)) (sym t.2) (rest_with old conn t.0 (rest_brought conn moment (old conn) (b ∷ bytes) brought t.0 t.1) all)

rest_all : (old new : Streams) (entries : List Entry) (brought : List StreamEvent) → TakesAll old entries brought new → ((c : ℕ) → IsRest (old c)) → (c : ℕ) → IsRest (new c)
rest_all old new [] brought t all = subst (λ (s : Streams). (c : ℕ) → IsRest (s c)) (sym t.1) all
rest_all old new (e ∷ entries) brought t all =
    let (first, later, between, is, takes, more) = t in
    rest_all between new entries later more (rest_piece old between e.moment e.conn e.piece first takes all)

-- so no bytes bring nothing
nothing_brought : (conn moment : ℕ) (before : End) (brought : List StreamEvent) (end : End) → IsRest before → Brings conn moment before [] brought end → brought ≡ []
nothing_brought conn moment (Open rest) brought end unfinished b =
    let (calls, reads, is) = b in
    let none : IsReading (rest ++ []) [] (Open rest) = record { behind = rest ++ []; stands = refl; ends = (append-nil rest, unfinished) } in
    let same = one_reading (rest ++ []) calls [] end (Open rest) reads none in
    is ∙ ap (λ (c : List (List ℕ)). events_of conn moment c end) same.0 ∙ ap (λ (e : End). events_of conn moment [] e) same.1
nothing_brought conn moment TooLong brought end unfinished b = b.0

-- a run that breaks off is that of its entries, the last one cut behind its last record
front_ran : (form : Form) (old new : ServerState) (entries before : List Entry) (last : Entry) (streams : Streams) (written : List ℕ)
    → entries ≡ before ++ last ∷ [] → RunsInto form old new before last streams written → FrontRuns form old new entries written
front_ran form old new entries before last streams written order r = record {
  before = before;
  last = last;
  taken = r.taken;
  dropped = r.dropped;
  moves = moves;
  unwritten = r.breaks.unwritten;
  order = order;
  split = r.split;
  runs = record {
    streams = with_stream streams last.conn r.end;
    brought = subst (λ (es : List StreamEvent). TakesAll all_closed (before ++ cut ∷ []) es (with_stream streams last.conn r.end)) (sym brought)
        (TakesAll-more all_closed before (events r.earlier) streams cut (events own) (with_stream streams last.conn r.end) r.reads
        (takes_piece streams last.moment last.conn r.taken (events own) r.end some r.brings));
    state = λ find start. r.breaks.state ∙ (sym (after-append old (r.earlier ++ r.own) (r.breaking ∷ [])) ∙ after_is find start old moves);
  };
  replies = ap (λ l. l ++ r.breaks.unwritten) r.breaks.wrote
      ∙ (append_assoc (output form old (r.earlier ++ r.own)) r.breaks.front r.breaks.unwritten
      ∙ (ap (λ l. output form old (r.earlier ++ r.own) ++ l) r.breaks.cut ∙ sym (output-last form old (r.earlier ++ r.own) r.breaking)));
  some = r.breaks.some;
}
  where
    own : List Move
    own = r.own ++ r.breaking ∷ []

    moves : List Move
    moves = (r.earlier ++ r.own) ++ r.breaking ∷ []

    cut : Entry
    cut = record last { piece = r.taken }

    brought : events moves ≡ events r.earlier ++ events own
    brought = ap events (append_assoc r.earlier r.own (r.breaking ∷ [])) ∙ events-append r.earlier own

    last_event : (xs : List StreamEvent) (x : StreamEvent) → xs ++ x ∷ [] ≡ [] → ⊥
    last_event [] x e = cc
    last_event (y ∷ xs) x e = cc

    some : r.taken ≢ []
    some none = last_event (events r.own) r.breaking.event (sym (events-append r.own (r.breaking ∷ []))
        ∙ nothing_brought last.conn last.moment (streams last.conn) (events own) r.end
        (rest_all all_closed streams before (events r.earlier) r.reads (λ c. rest_open) last.conn)
        (subst (λ (p : List ℕ). Brings last.conn last.moment (streams last.conn) p (events own) r.end) none r.brings))

-- a piece
fed : (result : Result Flow WriteFailed) (old new : ServerState) (was is : Gathered) (conn moment : ℕ) (piece : List ℕ) (form : Form) (h0 h1 : Option (List ℕ)) (failed : Bool)
    → FeedsOr result old new was is conn moment piece form h0 h1 failed
    → (moves : List Move) × (taken : List ℕ) × (dropped : List ℕ) × (piece ≡ taken ++ dropped) × LeavesOf old new (records_of moves)
    × ((before : End) → Stands before was → (end : End) × Brings conn moment before taken (events moves) end)
fed (Ok flow) old new was is conn moment piece form h0 h1 failed (f, open_or_shut, well) = (
  f.moves,
  piece,
  [],
  sym (append-nil piece),
  λ find start. f.state ∙ after_is find start old f.moves,
  λ before stands. let (end, brings, stands_still) = f.stream before stands in (end, brings),
)
fed (Err e) old new was is conn moment piece form h0 h1 failed (f, broken) = (
  f.moves ++ f.last ∷ [],
  f.taken,
  f.dropped,
  f.split,
  λ find start. f.breaks.state ∙ (sym (after-append old f.moves (f.last ∷ [])) ∙ after_is find start old (f.moves ++ f.last ∷ [])),
  f.stream,
)

-- a script
abbrev Read : ServerState → ServerState → List ℕ → List ℕ → Type 0
Read old new read written = (entries : List Entry) × (rest : List ℕ) × (read ≡ flat_map spell_entry entries ++ rest) × RunUpTo Tagged old new entries written

fault_ran : (stop : Stop) (entry : ℕ) (old new : ServerState) (held : List Gathered) (read written : List ℕ) → ReplaysFault stop entry old new held read written → Read old new read written
fault_ran stops.WriteFailed entry old new held read written (entries, last, is, which, (streams, into, all)) =
    (entries ++ last ∷ [], [], is.spelled, inr (front_ran Tagged old new (entries ++ last ∷ []) entries last streams written refl into))
fault_ran stop entry old new held read written (entries, rest, is, which, (streams, runs, all)) = (entries, rest, is.spelled, inl (all_ran Tagged old new entries streams written runs))

replayed : (answer : Result (Unit {0}) ReplayFault) (old new : ServerState) (held : List Gathered) (read written : List ℕ) → Replayed answer old new held read written → Read old new read written
replayed (Ok u) old new held read written (entries, is, (streams, runs, all)) =
    (entries, [], is.spelled ∙ sym (append-nil (flat_map spell_entry entries)), inl (all_ran Tagged old new entries streams written runs))
replayed (Err fault) old new held read written h = fault_ran fault.number fault.entry old new held read written h

-- a talk
spoke : (ending : Talk) (old new : ServerState) (pieces : List Entry) (written : List ℕ) → SpeaksUntil ending old new pieces written → RunUpTo Plain old new pieces written
spoke talks.Ended old new pieces written (few, rest, (streams, runs, end)) = inl (all_ran Plain old new pieces streams written runs)
spoke talks.ReadFailed old new pieces written (few, rest, (streams, runs, end)) = inl (all_ran Plain old new pieces streams written runs)
spoke talks.TooMany old new pieces written (few, rest, (streams, runs, end)) = inl (all_ran Plain old new pieces streams written runs)
spoke talks.Shut old new pieces written (few, (streams, runs, end)) = inl (all_ran Plain old new pieces streams written runs)
spoke talks.WriteFailed old new pieces written (few, before, last, order, streams, into) = inr (front_ran Plain old new pieces before last streams written order into)

pub each_form : EachFormRunsRecords
each_form = record {
  one = λ outcome old new call now steps. (steps.choice, λ find start. steps.state);
  feed = fed;
  replay = λ answer old new held l0 l1 h0 h1 h.
      let (read, written, consumed, appended, ran_so) = h in
      let (entries, rest, is, runs) = replayed answer old new held read written ran_so in
      (entries, rest, written, subst (Consumes l0 l1) is consumed, appended, runs);
  talk = λ ending old new l0 l1 h0 h1 c0 c1 h.
      let (pieces, written, consumed, appended, told, all, speaks) = h in
      (pieces, written, consumed, appended, told, spoke ending old new pieces written speaks);
  serve = λ most old new desks count l0 l1 c0 c1 served.
      let runs = runs_script old new served.rounds (at desks) served.turning in (
        runs.moves,
        record {
          streams = runs.streams;
          brought = runs.reads;
          state = λ find start. runs.state ∙ after_is find start old runs.moves;
        },
      );
  goes_on = λ find start before records. runs_on (server find start) (server find start).new before records;
  points = points_are;
}
