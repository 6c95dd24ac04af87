-- A piece that is taken record by record.
use Rattle.std.proofs.Common.{◌≡◌, ℕ, Bool, false, List, [], ◌∷◌, ◌++◌, Option, None, refl, sym, ap, subst, ◌∙◌, append_assoc, append-nil, take, drop, map}
use Rattle.std.proofs.{Common.{take-append-drop, inl, arith}, lemmas.List.map-append, KnownBytes.{Appends-nil, Appends-trans}}
use Rattle.std.specs.Io.KnownBytes.{Appends}
use Rattle.nfs_xdr.specs.Text.{IsBytes}
use Rattle.nfs_rpc.specs.RecordMarking.{Gathered, Begun, Complete, Failed, IsRecord, start, is_too_long}
use Rattle.nfs_rpc.specs.{Stream.{End, Open, TooLong, AreRecords, IsReading, IsUnfinished}, Feeding.{waits, Holds}}
use Rattle.nfs_rpc.proofs.{Fragments.{IsBytes-append, bytes_behind_front}, Readings.part_unfinished}
use Rattle.nfs_serve.specs.{declared.form.Form.Form, Step.{ServerState, step}, Ends.AppendsFront, First.TakesUp}
use Rattle.nfs_serve.specs.Run.{Arrives, Overflows, Brings, Move, events, after, output, spell_answer, spell_overflow}
use Rattle.nfs_serve.specs.Server.{Stands, flow_of, Feeds, FeedsInto}
use Rattle.nfs_serve.specs.declared.form.Flow.TheVariants as Flow
use Rattle.nfs_serve.proofs.Terms.{events_of}
use Rattle.nfs_serve.proofs.Moves.{after-append, output-last, events-append}

-- more bytes behind the records
pub AreRecords-behind : (stream : List ℕ) (calls : List (List ℕ)) (behind more : List ℕ)
    → AreRecords stream calls behind → AreRecords (stream ++ more) calls (behind ++ more)
AreRecords-behind stream [] behind more h = ap (λ l. l ++ more) h
AreRecords-behind stream (call ∷ calls) behind more h =
    let (front, left, is, record_is, rest) = h in
    (front, left ++ more, ap (λ l. l ++ more) is ∙ append_assoc front left more, record_is, AreRecords-behind left calls behind more rest)

-- one more record
pub AreRecords-more : (stream : List ℕ) (calls : List (List ℕ)) (front behind call : List ℕ)
    → AreRecords stream calls (front ++ behind) → IsRecord front call → AreRecords stream (calls ++ call ∷ []) behind
AreRecords-more stream [] front behind call h is = (front, behind, h, is, refl)
AreRecords-more stream (c ∷ calls) front behind call h is =
    let (first, left, split, record_is, rest) = h in
    (first, left, split, record_is, AreRecords-more left calls front behind call rest is)

-- What is taken of a piece behind these bytes: these calls, and bytes for which stands what is held now.
pub record Taken (before taken : List ℕ) (calls : List (List ℕ)) (held : Gathered) : Type 0 where
  pub behind : List ℕ
  pub records : AreRecords (before ++ taken) calls behind
  pub bytes : IsBytes behind
  pub holds : Holds behind held

pub start_holds : Holds [] (Begun start)
start_holds = inl (record { before = []; fits = omega arith; stands = refl; cut = omega arith; taken = refl; lacking = refl; last = refl })

pub no_bytes : IsBytes []
no_bytes = record { each = λ i. omega arith }

-- a stream that is not too long
pub stands_open : (before : End) (was : Gathered) → is_too_long was ≡ false
    → Stands before was → (rest : List ℕ) × (before ≡ Open rest) × IsBytes rest × Holds rest was
stands_open (Open rest) (Begun p) going h = (rest, refl, h.0, h.1)
stands_open (Open rest) (Complete call) going h = absurd h
stands_open (Open rest) Failed going h = absurd h
stands_open TooLong (Begun p) going h = absurd h
stands_open TooLong (Complete call) going h = absurd h
stands_open TooLong Failed going h = absurd cc

pub holds_stands : (rest : List ℕ) (is : Gathered) → waits is ≡ false → is_too_long is ≡ false
    → IsBytes rest → Holds rest is → Stands (Open rest) is × IsUnfinished rest
holds_stands rest (Begun p) none going bytes h = ((bytes, h), part_unfinished rest p h)
holds_stands rest (Complete call) none going bytes h = absurd cc
holds_stands rest Failed none going bytes h = absurd cc

pub flow_open : (is : Gathered) → waits is ≡ false → is_too_long is ≡ false → Flow.Open ≡ flow_of is
flow_open (Begun p) none going = refl
flow_open (Complete call) none going = absurd cc
flow_open Failed none going = absurd cc

-- A piece that was taken as far as the rest: each record in it ran, and its reply was written.
pub record Taking (old now : ServerState) (was is : Gathered) (conn moment : ℕ) (form : Form) (piece rest : List ℕ) (h0 h1 : Option (List ℕ)) : Type 0 where
  pub moves : List Move
  pub calls : List (List ℕ)
  pub taken : List ℕ
  pub split : piece ≡ taken ++ rest
  pub state : now ≡ after old moves
  pub wrote : Appends h0 h1 (output form old moves)
  pub order : events moves ≡ map (λ call. Arrives conn moment call) calls
  pub stream : (before : List ℕ) → IsBytes before → Holds before was → Taken before taken calls is

unfoldable pub taking_start : (s : ServerState) (was : Gathered) (conn moment : ℕ) (form : Form) (piece : List ℕ) (h : Option (List ℕ))
    → Taking s s was was conn moment form piece piece h h
taking_start s was conn moment form piece h = record {
  moves = [];
  calls = [];
  taken = [];
  split = refl;
  state = refl;
  wrote = Appends-nil h;
  order = refl;
  stream = λ before bytes holds. record { behind = before; records = append-nil before; bytes = bytes; holds = holds };
}

module _ {old now : ServerState} {was is : Gathered} {conn moment : ℕ} {form : Form} {piece rest : List ℕ} {h0 h1 : Option (List ℕ)}
    (t : Taking old now was is conn moment form piece rest h0 h1) where
  -- the records behind a front of the rest that ends one
  pub taken_record : (front behind call before : List ℕ) → rest ≡ front ++ behind → TakesUp is front (Complete call) → IsBytes before → Holds before was
      → AreRecords (before ++ (t.taken ++ front)) (t.calls ++ call ∷ []) []
  taken_record front behind call before split up bytes holds =
      let k = t.stream before bytes holds in
      let r : AreRecords ((before ++ t.taken) ++ front) t.calls ((k.behind ++ front) ++ []) =
      rw append-nil (AreRecords-behind (before ++ t.taken) t.calls k.behind front k.records) in
      rw (← append_assoc before t.taken front)
      (AreRecords-more ((before ++ t.taken) ++ front) t.calls (k.behind ++ front) [] call r (up k.behind k.bytes k.holds))

  pub order_more : (call : List ℕ) (choice : Option ℕ)
      → events (t.moves ++ record { event = Arrives conn moment call; choice = choice } ∷ []) ≡ map (λ c. Arrives conn moment c) (t.calls ++ call ∷ [])
  order_more call choice = events-append t.moves (record { event = Arrives conn moment call; choice = choice } ∷ [])
      ∙ ap (λ l. l ++ Arrives conn moment call ∷ []) t.order ∙ sym (map-append (λ c. Arrives conn moment c) t.calls (call ∷ []))

  pub order_long : events (t.moves ++ record { event = Overflows conn; choice = None } ∷ []) ≡ events_of conn moment t.calls TooLong
  order_long = events-append t.moves (record { event = Overflows conn; choice = None } ∷ []) ∙ ap (λ l. l ++ Overflows conn ∷ []) t.order

  -- the record that ends in the rest ran, and its reply was written
  unfoldable pub taking_more : (front behind call : List ℕ) (choice : Option ℕ) (later : ServerState) (h2 : Option (List ℕ))
      → rest ≡ front ++ behind → TakesUp is front (Complete call)
      → later ≡ (step now call moment choice).state → Appends h1 h2 (spell_answer form conn (step now call moment choice).reply)
      → Taking old later was (Begun start) conn moment form piece behind h0 h2
  taking_more front behind call choice later h2 split up state wrote =
      let m : Move = record { event = Arrives conn moment call; choice = choice } in record {
        moves = t.moves ++ m ∷ [];
        calls = t.calls ++ call ∷ [];
        taken = t.taken ++ front;
        split = t.split ∙ ap (λ l. t.taken ++ l) split ∙ sym (append_assoc t.taken front behind);
        state = state ∙ ap (λ s. (step s call moment choice).state) t.state ∙ sym (after-append old t.moves (m ∷ []));
        wrote = rw (output-last form old t.moves m)
            (Appends-trans _ _ _ _ _ t.wrote (subst (λ s. Appends h1 h2 (spell_answer form conn (step s call moment choice).reply)) t.state wrote));
        order = order_more call choice;
        stream = λ before bytes holds. record {
          behind = [];
          records = taken_record front behind call before split up bytes holds;
          bytes = no_bytes;
          holds = start_holds;
        };
      }

  -- nothing of the rest ends a record
  unfoldable pub taking_ends : (new : Gathered) → is_too_long was ≡ false → waits new ≡ false → is_too_long new ≡ false
      → IsBytes piece → TakesUp is rest new → Feeds old now was new conn moment piece form h0 h1
  taking_ends new began none going piece_bytes up =
      let bytes : IsBytes rest = bytes_behind_front t.taken rest (subst IsBytes t.split piece_bytes) in record {
        moves = t.moves;
        state = t.state;
        wrote = t.wrote;
        stream = λ before stands.
            let (b, is_open, b_bytes, holds) = stands_open before was began stands in
            let k = t.stream b b_bytes holds in
            let (now_stands, unfinished) =
            holds_stands (k.behind ++ rest) new none going (IsBytes-append k.behind rest k.bytes bytes) (up k.behind k.bytes k.holds) in
            let records : AreRecords (b ++ piece) t.calls (k.behind ++ rest) =
            rw (t.split, ← append_assoc b t.taken rest) (AreRecords-behind (b ++ t.taken) t.calls k.behind rest k.records) in (
              Open (k.behind ++ rest),
              subst (λ e. Brings conn moment e piece (events t.moves) (Open (k.behind ++ rest))) (sym is_open)
                  (t.calls, record { behind = k.behind ++ rest; stands = records; ends = (refl, unfinished) }, t.order ∙ sym (append-nil _)),
              now_stands,
            );
      }

  -- nothing is left of the piece
  pub taking_empty : {failed : Bool} → rest ≡ [] → is_too_long was ≡ false → waits is ≡ false → is_too_long is ≡ false → IsBytes piece → failed ≡ false
      → Feeds old now was is conn moment piece form h0 h1 × (Flow.Open ≡ flow_of is) × (failed ≡ false)
  taking_empty none began done going bytes well =
      let up : TakesUp is rest is = λ r r_bytes holds. rw (none, append-nil) holds in
      (taking_ends is began done going bytes up, flow_open is done going, well)

  pub reads_long : (before : List ℕ) → IsBytes before → Holds before was
      → ((r : List ℕ) → IsBytes r → Holds r is → (used : ℕ) × Holds (r ++ take used rest) Failed) → IsReading (before ++ piece) t.calls TooLong
  reads_long before bytes holds up =
      let k = t.stream before bytes holds in
      let (used, long) = up k.behind k.bytes k.holds in record {
        behind = k.behind ++ rest;
        stands = rw (t.split, ← append_assoc before t.taken rest) (AreRecords-behind (before ++ t.taken) t.calls k.behind rest k.records);
        ends = (
          k.behind ++ take used rest,
          drop used rest,
          ap (λ l. k.behind ++ l) (sym (take-append-drop used rest)) ∙ sym (append_assoc k.behind (take used rest) (drop used rest)),
          long,
        );
      }

  -- the rest makes the stream too long, which was reported
  unfoldable pub taking_long : (h2 : Option (List ℕ)) → is_too_long was ≡ false → ((r : List ℕ) → IsBytes r → Holds r is → (used : ℕ) × Holds (r ++ take used rest) Failed)
      → Appends h1 h2 (spell_overflow form conn) → Feeds old now was Failed conn moment piece form h0 h2
  taking_long h2 began up wrote =
      let m : Move = record { event = Overflows conn; choice = None } in record {
        moves = t.moves ++ m ∷ [];
        state = t.state ∙ sym (after-append old t.moves (m ∷ []));
        wrote = rw (output-last form old t.moves m) (Appends-trans _ _ _ _ _ t.wrote wrote);
        stream = λ before stands.
            let (b, is_open, bytes, holds) = stands_open before was began stands in (
              TooLong,
              subst (λ e. Brings conn moment e piece (events (t.moves ++ m ∷ [])) TooLong)
                  (sym is_open) (t.calls, reads_long b bytes holds up, order_long),
              tt,
            );
      }

  -- the writer failed in the reply to the record that ends in the rest
  pub breaking : (front behind call : List ℕ) (choice : Option ℕ) (later : ServerState) (h2 : Option (List ℕ))
      → is_too_long was ≡ false → rest ≡ front ++ behind → TakesUp is front (Complete call)
      → later ≡ (step now call moment choice).state → AppendsFront h1 h2 (spell_answer form conn (step now call moment choice).reply)
      → FeedsInto old later was conn moment piece form h0 h2
  breaking front behind call choice later h2 began split up state wrote =
      let m : Move = record { event = Arrives conn moment call; choice = choice } in
      let (done, left, parts, some, appended) = wrote in record {
        moves = t.moves;
        last = m;
        taken = t.taken ++ front;
        dropped = behind;
        written = output form old t.moves ++ done;
        split = t.split ∙ ap (λ l. t.taken ++ l) split ∙ sym (append_assoc t.taken front behind);
        breaks = record {
          front = done;
          unwritten = left;
          state = state ∙ ap (λ s. (step s call moment choice).state) t.state;
          wrote = refl;
          cut = subst (λ s. done ++ left ≡ spell_answer form conn (step s call moment choice).reply) t.state parts;
          some = some;
        };
        wrote = Appends-trans _ _ _ _ _ t.wrote appended;
        stream = λ before stands.
            let (b, is_open, bytes, holds) = stands_open before was began stands in (
              Open [],
              subst (λ e. Brings conn moment e (t.taken ++ front) (events (t.moves ++ m ∷ [])) (Open [])) (sym is_open) (
                t.calls ++ call ∷ [],
                record {
                  behind = [];
                  stands = taken_record front behind call b split up bytes holds;
                  ends = (refl, part_unfinished [] start start_holds);
                },
                order_more call choice ∙ sym (append-nil _),
              ),
            );
      }

  -- the writer failed in telling that the stream is too long
  pub breaking_long : (h2 : Option (List ℕ)) → is_too_long was ≡ false
      → ((r : List ℕ) → IsBytes r → Holds r is → (used : ℕ) × Holds (r ++ take used rest) Failed)
      → AppendsFront h1 h2 (spell_overflow form conn) → FeedsInto old now was conn moment piece form h0 h2
  breaking_long h2 began up wrote =
      let m : Move = record { event = Overflows conn; choice = None } in
      let (done, left, parts, some, appended) = wrote in record {
        moves = t.moves;
        last = m;
        taken = piece;
        dropped = [];
        written = output form old t.moves ++ done;
        split = sym (append-nil piece);
        breaks = record { front = done; unwritten = left; state = t.state; wrote = refl; cut = parts; some = some };
        wrote = Appends-trans _ _ _ _ _ t.wrote appended;
        stream = λ before stands.
            let (b, is_open, bytes, holds) = stands_open before was began stands in (
              TooLong,
              subst (λ e. Brings conn moment e piece (events (t.moves ++ m ∷ [])) TooLong)
                  (sym is_open) (t.calls, reads_long b bytes holds up, order_long),
            );
      }
