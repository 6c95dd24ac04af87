-- A talk that goes on by a piece, and how it ends.
use Rattle.std.proofs.Common.{◌≡◌, ◌≢◌, ℕ, ◌+◌, ◌<◌, ◌≤◌, false, List, [], ◌∷◌, ◌++◌, length, flat_map, map, Option, refl, sym, ap, subst, ◌∙◌, arith}
use Rattle.std.proofs.{Common.{append-nil, length-append, All}, KnownBytes.{Consumes-nil, Consumes-trans, Appends-nil, Appends-trans}, lemmas.List.map-append}
use Rattle.std.proofs.{lemmas.List.Elements.{All-nil, All-push}, lemmas.List.Concat.flat_map-append}
use Rattle.std.specs.Io.KnownBytes.{Consumes, Appends}
use Rattle.nfs_rpc.specs.{RecordMarking.{Gathered, Begun, Complete, Failed, is_too_long}, Stream.{End, Open, TooLong}}
use Rattle.nfs_serve.specs.{declared.form.Form.TheVariants.Plain, declared.talking.Talk.TheVariants.{Ended, Shut, ReadFailed, WriteFailed, TooMany}}
use Rattle.nfs_serve.specs.{Script.Entry, Step.ServerState, Run.{Streams, with_stream, all_closed, events, output, Runs}}
use Rattle.nfs_serve.specs.{Server.{fresh, Stands, Feeds, FeedsInto, flow_of}, Told.{Told, Moment, Logs}, Talk.{max_reads, IsPiece, Speaks, Talks}}
use Rattle.nfs_serve.specs.declared.form.Flow.TheVariants as Flow
use Rattle.nfs_serve.proofs.{Moves.{runs_more, runs_into}, Pieces.{start_holds, no_bytes, stands_open}, Runs.takes_piece, Advancing.{Logs-nil, Logs-trans}}

-- A talk that has gone on for n pieces.
pub record Speaking (old now : ServerState) (is : Gathered) (n : ℕ) (l0 l1 h0 h1 : Option (List ℕ)) (c0 c1 : Option (List Told)) : Type 0 where
  pub pieces : List Entry
  pub count : length pieces ≡ n
  pub each : All IsPiece pieces
  pub read : Consumes l0 l1 (flat_map (λ e. e.piece) pieces)
  pub moments : Logs c0 c1 (map (λ e. Moment e.moment) pieces)
  pub written : List ℕ
  pub appended : Appends h0 h1 written
  pub streams : Streams
  pub runs : Runs Plain old now pieces streams written
  pub stands : Stands (streams 0) is

pub speaking_start : (s : ServerState) (l h : Option (List ℕ)) (c : Option (List Told)) → Speaking s s fresh 0 l l h h c c
speaking_start s l h c = record {
  pieces = [];
  count = refl;
  each = All-nil IsPiece;
  read = Consumes-nil l;
  moments = Logs-nil c;
  written = [];
  appended = Appends-nil h;
  streams = all_closed;
  runs = record { moves = []; reads = (refl, refl); state = refl; wrote = refl };
  stands = (no_bytes, start_holds);
}

-- whether the stream is too long, as the flow has it
pub open_is : (is : Gathered) → Flow.Open ≡ flow_of is → is_too_long is ≡ false
open_is (Begun p) h = refl
open_is (Complete call) h = refl
open_is Failed h = absurd cc

shut_is : (is : Gathered) → Flow.Shut ≡ flow_of is → is ≡ Failed
shut_is (Begun p) h = absurd cc
shut_is (Complete call) h = absurd cc
shut_is Failed h = refl

stands_long : (s : End) → Stands s Failed → s ≡ TooLong
stands_long (Open rest) h = absurd h
stands_long TooLong h = refl

module _ {old now : ServerState} {is : Gathered} {n : ℕ} {l0 l1 h0 h1 : Option (List ℕ)} {c0 c1 : Option (List Told)} (g : Speaking old now is n l0 l1 h0 h1 c0 c1) where
  pieces_read : (l2 : Option (List ℕ)) (e : Entry) → Consumes l1 l2 e.piece → Consumes l0 l2 (flat_map (λ d. d.piece) (g.pieces ++ e ∷ []))
  pieces_read l2 e read = subst (Consumes l0 l2)
      (sym (flat_map-append (λ d. d.piece) g.pieces (e ∷ []) ∙ ap (λ l. flat_map (λ d. d.piece) g.pieces ++ l) (append-nil e.piece)))
      (Consumes-trans _ _ _ _ _ g.read read)

  moments_told : (c2 : Option (List Told)) (e : Entry) → Logs c1 c2 (Moment e.moment ∷ []) → Logs c0 c2 (map (λ d. Moment d.moment) (g.pieces ++ e ∷ []))
  moments_told c2 e told = subst (Logs c0 c2) (sym (map-append (λ (d : Entry). Moment d.moment) g.pieces (e ∷ []))) (Logs-trans _ _ _ _ _ g.moments told)

  count_more : (e : Entry) → length (g.pieces ++ e ∷ []) ≡ n + 1
  count_more e = length-append g.pieces (e ∷ []) ∙ ap (λ k. k + 1) g.count

  nonempty : (e : Entry) → IsPiece e → e.piece ≢ []
  nonempty e each none = omega (arith, ap length none, each.2)

  pub speaking_more : (l2 h2 : Option (List ℕ)) (c2 : Option (List Told)) (new : ServerState) (held : Gathered) (e : Entry) → Consumes l1 l2 e.piece
      → Logs c1 c2 (Moment e.moment ∷ []) → IsPiece e → Feeds now new is held e.conn e.moment e.piece Plain h1 h2
      → Speaking old new held (n + 1) l0 l2 h0 h2 c0 c2
  speaking_more l2 h2 c2 new held e read told each fed =
      let conn = each.1 in
      let (end, brings, stands) = fed.stream (g.streams e.conn) (subst (λ c. Stands (g.streams c) is) (sym conn) g.stands) in record {
        pieces = g.pieces ++ e ∷ [];
        count = count_more e;
        each = All-push IsPiece g.pieces e g.each each;
        read = pieces_read l2 e read;
        moments = moments_told c2 e told;
        written = g.written ++ output Plain now fed.moves;
        appended = Appends-trans _ _ _ _ _ g.appended fed.wrote;
        streams = with_stream g.streams e.conn end;
        runs = runs_more Plain old now new g.pieces g.streams (with_stream g.streams e.conn end) g.written e fed.moves g.runs
            (takes_piece g.streams e.moment e.conn e.piece (events fed.moves) end (nonempty e each) brings) fed.state;
        stands = subst (λ c. Stands (with_stream g.streams c end 0) held) (sym conn) stands;
      }

  speaks : (end : End) → g.streams 0 ≡ end → Speaks old now g.pieces end g.written
  speaks end ends = (g.streams, g.runs, ends)

  still_open : is_too_long is ≡ false → (rest : List ℕ) × Speaks old now g.pieces (Open rest) g.written
  still_open going =
      let (rest, ends, bytes, holds) = stands_open (g.streams 0) is going g.stands in
      (rest, speaks (Open rest) ends)

  is_shut : Flow.Shut ≡ flow_of is → Speaks old now g.pieces TooLong g.written
  is_shut flow = speaks TooLong (stands_long (g.streams 0) (subst (Stands (g.streams 0)) (shut_is is flow) g.stands))

  -- the writer failed in a reply of a piece
  pub speaking_breaks : (l2 h2 : Option (List ℕ)) (c2 : Option (List Told)) (new : ServerState) (e : Entry) → Consumes l1 l2 e.piece
      → Logs c1 c2 (Moment e.moment ∷ []) → IsPiece e → n < max_reads → FeedsInto now new is e.conn e.moment e.piece Plain h1 h2
      → Talks WriteFailed old new l0 l2 h0 h2 c0 c2
  speaking_breaks l2 h2 c2 new e read told each few b =
      let conn = each.1 in
      let (end, brings) = b.stream (g.streams e.conn) (subst (λ c. Stands (g.streams c) is) (sym conn) g.stands) in (
        g.pieces ++ e ∷ [],
        g.written ++ b.written,
        pieces_read l2 e read,
        Appends-trans _ _ _ _ _ g.appended b.wrote,
        moments_told c2 e told,
        All-push IsPiece g.pieces e g.each each,
        (
          omega (arith, count_more e, few),
          g.pieces,
          e,
          refl,
          g.streams,
          runs_into Plain old now new g.pieces g.streams g.written b.written e b.moves b.last b.taken b.dropped end g.runs b.split brings b.breaks,
        ),
      )

  read_to : (l2 : Option (List ℕ)) → Consumes l1 l2 [] → Consumes l0 l2 (flat_map (λ d. d.piece) g.pieces)
  read_to l2 none = subst (Consumes l0 l2) (append-nil _) (Consumes-trans _ _ _ _ _ g.read none)

  few : n < max_reads → length g.pieces < max_reads
  few less = omega (arith, g.count, less)

  -- a read that gave no piece
  pub ends : (l2 : Option (List ℕ)) → Consumes l1 l2 [] → n < max_reads → is_too_long is ≡ false → Talks Ended old now l0 l2 h0 h1 c0 c1
  ends l2 none less going =
      let (rest, said) = still_open going in
      (g.pieces, g.written, read_to l2 none, g.appended, g.moments, g.each, (few less, rest, said))

  pub fails : (l2 : Option (List ℕ)) → Consumes l1 l2 [] → n < max_reads → is_too_long is ≡ false → Talks ReadFailed old now l0 l2 h0 h1 c0 c1
  fails l2 none less going =
      let (rest, said) = still_open going in
      (g.pieces, g.written, read_to l2 none, g.appended, g.moments, g.each, (few less, rest, said))

  pub is_full : n ≡ max_reads → is_too_long is ≡ false → Talks TooMany old now l0 l1 h0 h1 c0 c1
  is_full all going =
      let (rest, said) = still_open going in
      (g.pieces, g.written, g.read, g.appended, g.moments, g.each, (g.count ∙ all, rest, said))

  pub shuts : n ≤ max_reads → Flow.Shut ≡ flow_of is → Talks Shut old now l0 l1 h0 h1 c0 c1
  shuts most flow = (g.pieces, g.written, g.read, g.appended, g.moments, g.each, (omega (arith, g.count, most), is_shut flow))
