-- A run that goes on by an entry, and how it stops.
use Rattle.std.proofs.Common.{◌≡◌, ◌≢◌, ℕ, suc, ◌+◌, ◌<◌, ◌≤◌, Bool, true, false, List, [], ◌∷◌, ◌++◌, length, flat_map, Option, Result, Ok, Err, refl, sym, ap}
use Rattle.std.proofs.Common.{is_err, subst, ◌∙◌, arith, append-nil, length-append, All, nat_eq, if◌then◌else◌}
use Rattle.std.proofs.{KnownBytes.{Consumes-nil, Consumes-trans, Appends-nil, Appends-trans}, lemmas.List.{get_or-set_same, get_or-set_other}}
use Rattle.std.proofs.{lemmas.List.Elements.{All-nil, All-push}, lemmas.List.Concat.flat_map-append, lemmas.Bool.{eqb-true, eqb-false}, Math.ListN.set}
use Rattle.std.specs.Io.KnownBytes.{Consumes, Appends}
use Rattle.nfs_rpc.specs.{RecordMarking.Gathered, Stream.{End, Open}}
use Rattle.nfs_serve.specs.{declared.fault.Stop.Stop, declared.fault.Stop.TheVariants.{Cut, Connection, Long, Late, Many, ReadFailed, WriteFailed}}
use Rattle.nfs_serve.specs.{declared.fault.ReplayFault.ReplayFault, declared.form.Form.TheVariants.Tagged}
use Rattle.nfs_serve.specs.{Script.{Entry, spell_entry, Fits, max_entries, StopsAt, IsStopped}, Ends.IsReported, Step.ServerState}
use Rattle.nfs_serve.specs.Run.{Streams, with_stream, all_closed, Brings, TakesPiece, StreamEvent, events, output, Runs}
use Rattle.nfs_serve.specs.{Server.{fresh, held_on, IsWith, Feeds, FeedsInto}, Replay.{AllStand, RunsOn, ReplaysFault, Replays, Reports}}
use Rattle.nfs_serve.specs.Running.{RunsEntry, RunsEntryOr, EndsBehind}
use Rattle.nfs_serve.specs.declared.moving.WriteFailed as moving
use Rattle.nfs_serve.proofs.{Moves.{runs_more, runs_into, with_stands}, Pieces.{start_holds, no_bytes}}

pub set_is_with : (held : List Gathered) (conn : ℕ) (now : Gathered) → conn < length held → IsWith (set held conn now) held conn now
set_is_with held conn now within = λ c. cases c (nat_eq c conn) refl
  where
    cases : (c : ℕ) (b : Bool) → nat_eq c conn ≡ b → held_on (set held conn now) c ≡ (if b then now else held_on held c)
    cases c true e = ap (λ k. held_on (set held conn now) k) (eqb-true c conn e) ∙ get_or-set_same held conn now fresh within
    cases c false e = get_or-set_other held conn c now fresh (eqb-false c conn e)

-- a piece of some bytes
pub takes_piece : (streams : Streams) (moment conn : ℕ) (piece : List ℕ) (brought : List StreamEvent) (end : End)
    → piece ≢ [] → Brings conn moment (streams conn) piece brought end
    → TakesPiece streams moment conn piece brought (with_stream streams conn end)
takes_piece streams moment conn [] brought end some brings = absurd (some refl)
takes_piece streams moment conn (b ∷ bytes) brought end some brings = (end, brings, refl)

pub entry_fed : {old new : ServerState} {h0 h1 : Option (List ℕ)} (was : List Gathered) (now : Gathered) (e : Entry) → e.conn < length was → e.piece ≢ []
    → Feeds old new (held_on was e.conn) now e.conn e.moment e.piece Tagged h0 h1 → RunsEntry old new was (set was e.conn now) e h0 h1
entry_fed was now e within some f = record {
  moves = f.moves;
  state = f.state;
  wrote = f.wrote;
  takes = λ before all.
      let (end, brings, stands) = f.stream (before e.conn) (all e.conn) in (
        with_stream before e.conn end,
        takes_piece before e.moment e.conn e.piece (events f.moves) end some brings,
        with_stands before was (set was e.conn now) e.conn end now all (set_is_with was e.conn now within) stands,
      );
}

pub entry_closed : (s : ServerState) (h : Option (List ℕ)) (was : List Gathered) (e : Entry)
    → e.conn < length was → e.piece ≡ [] → RunsEntry s s was (set was e.conn fresh) e h h
entry_closed s h was e within none = record {
  moves = [];
  state = refl;
  wrote = Appends-nil h;
  takes = λ before all. (
    with_stream before e.conn (Open []),
    subst (λ p. TakesPiece before e.moment e.conn p [] (with_stream before e.conn (Open []))) (sym none) (refl, refl),
    with_stands before was (set was e.conn fresh) e.conn (Open []) fresh all (set_is_with was e.conn fresh within) (no_bytes, start_holds),
  );
}

-- An entry ran, by what the answer says: all of it, or up to a reply that could not be written.
module _ {old new : ServerState} (was is : List Gathered) (e : Entry) {h0 h1 : Option (List ℕ)} (failed : Bool) where
  pub ran_well : (ran : Result (Unit {0}) moving.WriteFailed) → is_err ran ≡ false → RunsEntryOr ran old new was is e h0 h1 failed
      → RunsEntry old new was is e h0 h1 × (failed ≡ false)
  ran_well (Ok u) well ran = ran
  ran_well (Err f) well ran = absurd cc

  pub ran_broken : (ran : Result (Unit {0}) moving.WriteFailed) → is_err ran ≡ true → RunsEntryOr ran old new was is e h0 h1 failed
      → FeedsInto old new (held_on was e.conn) e.conn e.moment e.piece Tagged h0 h1 × IsWith is was e.conn fresh
  ran_broken (Ok u) broken ran = absurd cc
  ran_broken (Err f) broken ran = (ran.0, ran.1)

-- A run that has gone on for n entries.
pub record Going (old now : ServerState) (held : List Gathered) (n : ℕ) (l0 l1 h0 h1 : Option (List ℕ)) : Type 0 where
  pub entries : List Entry
  pub count : length entries ≡ n
  pub fits : All Fits entries
  pub read : Consumes l0 l1 (flat_map spell_entry entries)
  pub written : List ℕ
  pub appended : Appends h0 h1 written
  pub streams : Streams
  pub runs : Runs Tagged old now entries streams written
  pub stands : AllStand streams held

flat_map-last : (es : List Entry) (e : Entry) → flat_map spell_entry (es ++ e ∷ []) ≡ flat_map spell_entry es ++ spell_entry e
flat_map-last es e = flat_map-append spell_entry es (e ∷ []) ∙ ap (λ l. flat_map spell_entry es ++ l) (append-nil (spell_entry e))

pub going_start : (s : ServerState) (held : List Gathered) (l h : Option (List ℕ)) → AllStand all_closed held → Going s s held 0 l l h h
going_start s held l h all = record {
  entries = [];
  count = refl;
  fits = All-nil Fits;
  read = Consumes-nil l;
  written = [];
  appended = Appends-nil h;
  streams = all_closed;
  runs = record { moves = []; reads = (refl, refl); state = refl; wrote = refl };
  stands = all;
}

module _ {old now : ServerState} {held : List Gathered} {n : ℕ} {l0 l1 h0 h1 : Option (List ℕ)} (g : Going old now held n l0 l1 h0 h1) where
  count_more : (e : Entry) → length (g.entries ++ e ∷ []) ≡ n + 1
  count_more e = length-append g.entries (e ∷ []) ∙ ap (λ k. k + 1) g.count

  pub going_more : (l2 h2 : Option (List ℕ)) (new : ServerState) (held_new : List Gathered) (e : Entry) → Consumes l1 l2 (spell_entry e)
      → Fits e → RunsEntry now new held held_new e h1 h2 → Going old new held_new (n + 1) l0 l2 h0 h2
  going_more l2 h2 new held_new e read fits ran =
      let (end, takes, all) = ran.takes g.streams g.stands in record {
        entries = g.entries ++ e ∷ [];
        count = count_more e;
        fits = All-push Fits g.entries e g.fits fits;
        read = subst (Consumes _ _) (sym (flat_map-last g.entries e)) (Consumes-trans _ _ _ _ _ g.read read);
        written = g.written ++ output Tagged now ran.moves;
        appended = Appends-trans _ _ _ _ _ g.appended ran.wrote;
        streams = end;
        runs = runs_more Tagged old now new g.entries g.streams end g.written e ran.moves g.runs takes ran.state;
        stands = all;
      }

  -- the script ends behind a whole entry
  pub going_ends : (u : Unit {0}) (l2 : Option (List ℕ)) → n ≤ max_entries → Consumes l1 l2 [] → Replays {U = Unit {0}} (Ok u) old now held l0 l2 h0 h1
  going_ends u l2 few read = (
    flat_map spell_entry g.entries ++ [],
    g.written,
    Consumes-trans _ _ _ _ _ g.read read,
    g.appended,
    (g.entries, record { spelled = append-nil _; fits = g.fits; few = subst (λ k. k ≤ max_entries) (sym g.count) few }, (g.streams, g.runs, g.stands)),
  )

  -- the run stops in the place of an entry
  pub going_stops : (stop : Stop) (f : ReplayFault) (l2 : Option (List ℕ)) (rest : List ℕ) (ended failed : Bool)
      → f.number ≡ stop → f.entry ≡ suc n → Consumes l1 l2 rest → StopsAt stop n rest
      → IsReported stop ended failed false l2 → Replays {U = Unit {0}} (Err f) old now held l0 l2 h0 h1
  going_stops stop f l2 rest ended failed is entry read stands told = (
    flat_map spell_entry g.entries ++ rest,
    g.written,
    Consumes-trans _ _ _ _ _ g.read read,
    g.appended,
    rw is (cases stop told (
      g.entries,
      rest,
      record { spelled = refl; fits = g.fits; stands = subst (λ k. StopsAt stop k rest) (sym g.count) stands },
      entry ∙ ap suc (sym g.count),
      (g.streams, g.runs, g.stands),
    )),
  )
    where
      cases : (stop : Stop) → IsReported stop ended failed false l2
          → (entries : List Entry) × (left : List ℕ) × IsStopped (flat_map spell_entry g.entries ++ rest) stop entries left
          × (f.entry ≡ suc (length entries)) × RunsOn old now held entries g.written
          → ReplaysFault stop f.entry old now held (flat_map spell_entry g.entries ++ rest) g.written
      cases Cut t h = h
      cases Connection t h = h
      cases Long t h = h
      cases Late t h = h
      cases Many t h = h
      cases ReadFailed t h = h
      cases WriteFailed t h = absurd (false≢true t.1)
        where
          false≢true : false ≡ true → ⊥
          false≢true e = cc

  -- the writer failed in a reply of an entry
  pub going_breaks : (f : ReplayFault) (l2 h2 : Option (List ℕ)) (new : ServerState) (held_new : List Gathered) (e : Entry)
      → f.number ≡ WriteFailed → f.entry ≡ suc n → n < max_entries → Consumes l1 l2 (spell_entry e) → Fits e
      → FeedsInto now new (held_on held e.conn) e.conn e.moment e.piece Tagged h1 h2
      → IsWith held_new held e.conn fresh → Replays {U = Unit {0}} (Err f) old new held_new l0 l2 h0 h2
  going_breaks f l2 h2 new held_new e is entry few read fits b others =
      let (end, brings) = b.stream (g.streams e.conn) (g.stands e.conn) in (
        flat_map spell_entry g.entries ++ spell_entry e,
        g.written ++ b.written,
        Consumes-trans _ _ _ _ _ g.read read,
        Appends-trans _ _ _ _ _ g.appended b.wrote,
        rw is (
          g.entries,
          e,
          record {
            spelled = sym (append-nil _ ∙ flat_map-last g.entries e);
            fits = All-push Fits g.entries e g.fits fits;
            stands = (omega (arith, count_more e), refl);
          },
          entry ∙ ap suc (sym g.count),
          (
            g.streams,
            runs_into Tagged old now new g.entries g.streams g.written b.written e b.moves b.last b.taken b.dropped end g.runs b.split brings b.breaks,
            with_stands g.streams held held_new e.conn (Open []) fresh g.stands others (no_bytes, start_holds),
          ),
        ),
      )

  -- behind the last entry that may be
  pub going_behind : (result : Result (Unit {0}) ReplayFault) (l2 : Option (List ℕ)) (rest : List ℕ) (ended failed : Bool)
      → n ≡ max_entries → Consumes l1 l2 rest → EndsBehind result rest → Reports result ended failed false l2
      → Replays result old now held l0 l2 h0 h1
  going_behind (Ok u) l2 rest ended failed all read none told = going_ends u l2 (omega (arith, all)) (subst (Consumes _ _) none read)
  going_behind (Err f) l2 rest ended failed all read ends told =
      going_stops f.number f l2 rest ended failed refl (ends.1 ∙ ap suc (sym all)) read (subst (λ k. StopsAt f.number k rest) (sym all) ends.0) told
