-- Moves one after the other, and the events of entries one after the other.
use Rattle.std.proofs.Common.{◌≡◌, ℕ, Bool, true, false, List, [], ◌∷◌, ◌++◌, refl, sym, ap, ◌∙◌, append_assoc, append-nil, nat_eq, if◌then◌else◌}
use Rattle.std.proofs.lemmas.List.{map-append}
use Rattle.nfs_rpc.specs.{RecordMarking.Gathered, Stream.End}
use Rattle.nfs_serve.specs.{declared.form.Form.Form, Script.Entry, Step.ServerState}
use Rattle.nfs_serve.specs.Run.{Streams, with_stream, StreamEvent, Takes, TakesAll, Move, events, after, after_event, output, output_of, all_closed, Brings, Runs, Breaks, RunsInto}
use Rattle.nfs_serve.specs.{Server.{held_on, IsWith, Stands}, Replay.AllStand}

pub after-append : (s : ServerState) (xs ys : List Move) → after s (xs ++ ys) ≡ after (after s xs) ys
after-append s [] ys = refl
after-append s (m ∷ xs) ys = after-append (after_event s m.event m.choice) xs ys

pub output-append : (form : Form) (s : ServerState) (xs ys : List Move) → output form s (xs ++ ys) ≡ output form s xs ++ output form (after s xs) ys
output-append form s [] ys = refl
output-append form s (m ∷ xs) ys =
    ap (λ l. output_of form s m.event m.choice ++ l) (output-append form (after_event s m.event m.choice) xs ys)
    ∙ sym (append_assoc (output_of form s m.event m.choice) (output form (after_event s m.event m.choice) xs)
    (output form (after (after_event s m.event m.choice) xs) ys))

-- one more move
pub output-last : (form : Form) (s : ServerState) (xs : List Move) (m : Move)
    → output form s (xs ++ m ∷ []) ≡ output form s xs ++ output_of form (after s xs) m.event m.choice
output-last form s xs m = output-append form s xs (m ∷ []) ∙ ap (λ l. output form s xs ++ l) (append-nil (output_of form (after s xs) m.event m.choice))

pub events-append : (xs ys : List Move) → events (xs ++ ys) ≡ events xs ++ events ys
events-append xs ys = map-append (λ m. m.event) xs ys

-- one more entry
pub TakesAll-more : (old : Streams) (es : List Entry) (first : List StreamEvent) (between : Streams) (e : Entry) (later : List StreamEvent) (new : Streams)
    → TakesAll old es first between → Takes between e later new → TakesAll old (es ++ e ∷ []) (first ++ later) new
TakesAll-more old [] first between e later new h t =
    (later, [], new, rw h.0 (sym (append-nil later)), rw h.1 at t, (refl, refl))
TakesAll-more old (d ∷ es) first between e later new h t =
    let (here, more, middle, is, takes, rest) = h in
    (here, more ++ later, middle, ap (λ l. l ++ later) is ∙ append_assoc here more later, takes, TakesAll-more middle es more between e later new rest t)

-- a run that goes on by an entry
pub runs_more : (form : Form) (old now new : ServerState) (es : List Entry) (streams end : Streams) (written : List ℕ) (e : Entry) (moves : List Move)
    → Runs form old now es streams written → Takes streams e (events moves) end → new ≡ after now moves
    → Runs form old new (es ++ e ∷ []) end (written ++ output form now moves)
runs_more form old now new es streams end written e moves r takes state = record {
  moves = r.moves ++ moves;
  reads = rw (events-append r.moves moves) (TakesAll-more all_closed es (events r.moves) streams e (events moves) end r.reads takes);
  state = state ∙ ap (λ s. after s moves) r.state ∙ sym (after-append old r.moves moves);
  wrote = ap (λ l. l ++ output form now moves) r.wrote
      ∙ ap (λ s. output form old r.moves ++ output form s moves) r.state ∙ sym (output-append form old r.moves moves);
}

-- a run that breaks in an entry
pub runs_into : (form : Form) (old now new : ServerState) (es : List Entry) (streams : Streams) (written more : List ℕ) (e : Entry) (own : List Move) (last : Move)
    (taken dropped : List ℕ) (end : End) → Runs form old now es streams written → e.piece ≡ taken ++ dropped
    → Brings e.conn e.moment (streams e.conn) taken (events (own ++ last ∷ [])) end → Breaks form now new own last more
    → RunsInto form old new es e streams (written ++ more)
runs_into form old now new es streams written more e own last taken dropped end r split brings b =
    let state : after now own ≡ after old (r.moves ++ own) = ap (λ s. after s own) r.state ∙ sym (after-append old r.moves own) in record {
      earlier = r.moves;
      own = own;
      breaking = last;
      taken = taken;
      dropped = dropped;
      end = end;
      reads = r.reads;
      split = split;
      brings = brings;
      breaks = record {
        front = b.front;
        unwritten = b.unwritten;
        state = b.state ∙ ap (λ s. after_event s last.event last.choice) state;
        wrote = ap (λ l. l ++ more) r.wrote ∙ ap (λ l. output form old r.moves ++ l) b.wrote
            ∙ sym (append_assoc (output form old r.moves) (output form now own) b.front)
            ∙ ap (λ l. l ++ b.front) (ap (λ s. output form old r.moves ++ output form s own) r.state ∙ sym (output-append form old r.moves own));
        cut = b.cut ∙ ap (λ s. output_of form s last.event last.choice) state;
        some = b.some;
      };
    }

-- a connection whose stream is replaced
pub with_stands : (streams : Streams) (old new : List Gathered) (conn : ℕ) (end : End) (held : Gathered)
    → AllStand streams old → IsWith new old conn held → Stands end held → AllStand (with_stream streams conn end) new
with_stands streams old new conn end held all others stands = λ c. rw (others c) (cases c (nat_eq c conn))
  where
    cases : (c : ℕ) (b : Bool) → Stands (if b then end else streams c) (if b then held else held_on old c)
    cases c true = stands
    cases c false = all c
