-- Two sweeps over two ports, and hubs that do otherwise, computed.
use Rattle.std.proofs.Common.{◌≡◌, ℕ, zero, suc, ◌+◌, ◌<◌, ◌≤◌, List, [], ◌∷◌, ◌++◌, length, get_or, true, false, Option, None, inl, inr, refl, sym, ap, subst, ◌∙◌, append_assoc, append-nil, length-append, arith}
use Rattle.nfs_xdr.specs.{Limits.most_record, Spelling.number, Reading.{opaque_at, fixed_at}}
use Rattle.nfs_rpc.specs.{RecordMarking.{Part, Begun, spell_mark, fragments, joined, IsRecord, IsPart, start}, Stream.{End, Open, TooLong, IsReading}}
use Rattle.nfs_rpc.specs.{HeadCodec.{header, opaque_auth}, CallHead.{call_of, behind_header}, Reply.spell_head}
use Rattle.nfs_rpc.proofs.{Fragments.IsBytes-append, Readings.{part_same, part_unfinished}}
use Rattle.nfs_serve.specs.{declared.form.Form.TheVariants.Plain, Script.Entry, Step.{ServerState, step}, Sequenced.sequence_in, Server.{fresh, Stands}}
use Rattle.nfs_serve.specs.Run.{Streams, all_closed, with_stream, Brings, TakesPiece, TakesAll, StreamEvent, Arrives, Move, events, after, output}
use Rattle.nfs_serve.specs.Desk.{Desk, closed, opened, Act, Unready, Came, Took, TakesPart, StepsPart, IsHungry, HasMore, Goes, EndsTurn}
use Rattle.nfs_serve.specs.Hub.{Desks, none_live, Round, Opens, Turns, OthersStay, Turning, IsOf, IsServed, HasTurn}
use Rattle.nfs_serve.proofs.{Pieces.{start_holds, no_bytes}, TurnEnds.{ends_full, ends_stuck, passes_over}, Rounds.turning_on}
use Rattle.nfs_promises.specs.Calls.{Exchanges.null_by, NothingIsLost.{Answers, Account}, WholeRuns.{script, RunsScript}}
use Rattle.nfs_promises.specs.Calls.HubWorked.{call, reply, begun, front, rest, stepped, reads, others, goes_on, eight, left, first, second, outset, one, two}
use Rattle.nfs_promises.specs.Calls.HubWorked.{on, waiting, owing, between, at_last, rounds, swapped_rounds, records, TurnIsSoon, ReplyIsWhole, TurnsAreEntries}
use Rattle.nfs_promises.proofs.{Calls.{CutsAnywhere.brings_once, NothingIsLost.account, TurnActs.not_served, WholeRuns.in_a_run}, Names.ListsAllWorked.are_bytes}

-- What the parts bring, and what is held behind them.

part : Part
unfolding number
part = record { taken = begun; mark = []; lacking = 24; last = true }

nothing : Stands (Open []) fresh
nothing = (no_bytes, start_holds)

record_ends : (conn now : ℕ) (fronts : List (List ℕ)) (r piece final bytes : List ℕ) → r ++ piece ≡ fragments fronts ++ (spell_mark true (length final) ++ final)
    → bytes ≡ joined fronts ++ final → length bytes ≤ most_record → Brings conn now (Open r) piece (Arrives conn now bytes ∷ []) (Open [])
record_ends conn now fronts r piece final bytes stands holds fits =
    let is : IsRecord (r ++ piece) bytes = record { before = fronts; final = final; stands = stands; holds = holds; fits = fits } in
    (bytes ∷ [], record { behind = []; stands = (r ++ piece, [], sym (append-nil (r ++ piece)), is, refl); ends = (refl, part_unfinished [] start start_holds) }, refl)

brings_call : (before : End) → Stands before fresh → Brings 1 100 before (call 2) (Arrives 1 100 (null_by 2) ∷ []) (Open [])
unfolding number
brings_call (Open r) (bytes, inl h) = record_ends 1 100 h.before r (call 2) (null_by 2) (null_by 2)
    (ap (λ l. l ++ call 2) (h.stands ∙ append-nil (fragments h.before))) (ap (λ l. l ++ null_by 2) h.taken) (omega arith)
brings_call (Open r) (bytes, inr h) = absurd (omega (arith, h.lacking))
brings_call TooLong h = absurd h

front_part : (r : List ℕ) → IsPart r start → IsPart (r ++ front) part
unfolding part number
front_part r (inl h) = inr (record {
  before = h.before;
  begun = begun;
  fits = omega (arith, ap length h.taken);
  stands = ap (λ l. l ++ front) (h.stands ∙ append-nil (fragments h.before));
  taken = ap (λ l. l ++ begun) h.taken;
  lacking = omega arith;
  mark = refl;
})
front_part r (inr h) = absurd (omega (arith, h.lacking))

brings_front : (before : End) → Stands before fresh → (end : End) × Brings 0 100 before front [] end × Stands end (Begun part)
unfolding number
brings_front (Open r) (bytes, h) =
    let is = front_part r h in
    let read : IsReading (r ++ front) [] (Open (r ++ front)) = record { behind = r ++ front; stands = refl; ends = (refl, part_unfinished (r ++ front) part is) } in
    (Open (r ++ front), ([], read, refl), (IsBytes-append r front bytes (are_bytes front refl), is))
brings_front TooLong h = absurd h

front_held : Stands (Open front) (Begun part)
unfolding number
front_held = (are_bytes front refl, front_part [] start_holds)

brings_rest : (before : End) → Stands before (Begun part) → Brings 0 101 before rest (Arrives 0 101 (null_by 1) ∷ []) (Open [])
unfolding part number
brings_rest (Open r) (bytes, inl h) = absurd (omega (arith, h.lacking))
brings_rest (Open r) (bytes, inr h) =
    let mark = spell_mark true (length h.begun + 24) in
    record_ends 0 101 h.before r rest (h.begun ++ rest) (null_by 1)
    (ap (λ l. l ++ rest) h.stands ∙ append_assoc (fragments h.before) (mark ++ h.begun) rest ∙ ap (λ l. fragments h.before ++ l) (append_assoc mark h.begun rest)
    ∙ ap (λ n. fragments h.before ++ (spell_mark true n ++ (h.begun ++ rest))) (sym (length-append h.begun rest)))
    (ap (λ l. l ++ rest) h.taken ∙ append_assoc (joined h.before) h.begun rest) (omega arith)
brings_rest TooLong h = absurd h

-- whatever memory is refused, a call of NULL has its reply
module _ (s : ServerState) (choice : Option ℕ) where
  put_first : output Plain s (record { event = Arrives 0 101 (null_by 1); choice = choice } ∷ []) ≡ reply 1
  unfolding number step call_of header opaque_auth opaque_at fixed_at behind_header spell_head
  put_first = refl

  put_second : output Plain s (record { event = Arrives 1 100 (null_by 2); choice = choice } ∷ []) ≡ reply 2
  unfolding number step call_of header opaque_auth opaque_at fixed_at behind_header spell_head
  put_second = refl

takes_front : TakesPart 0 outset fresh 100 front outset (Begun part) []
takes_front = record { moves = []; one = omega arith; state = refl; wrote = refl; stream = brings_front }

takes_call : TakesPart 1 outset fresh 100 (call 2) one fresh (reply 2)
takes_call = record {
  moves = record { event = Arrives 1 100 (null_by 2); choice = None } ∷ [];
  one = omega arith;
  state = refl;
  wrote = sym (put_second outset None);
  stream = λ before stands. (Open [], brings_call before stands, nothing);
}

takes_rest : TakesPart 0 one (Begun part) 101 rest two fresh (reply 1)
takes_rest = record {
  moves = record { event = Arrives 0 101 (null_by 1); choice = None } ∷ [];
  one = omega arith;
  state = refl;
  wrote = sym (put_first one None);
  stream = λ before stands. (Open [], brings_rest before stands, nothing);
}

-- The turns and the sweeps.

hungry : IsHungry opened
hungry = record { live = refl; short = refl; unread = refl; owed = refl }

reads_go : Goes 0 outset opened reads outset waiting
unfolding part number sequence_in
reads_go =
    let read : Desk = record opened { unread = call 1 } in
    let steps : StepsPart 0 outset read 100 front outset (Begun part) rest [] =
    record { live = refl; short = refl; room = omega arith; clock = omega arith; some = omega arith; few = omega arith; split = refl; takes = takes_front } in
    (outset, read, (refl, hungry, omega arith, omega arith, refl), (outset, waiting, (Begun part, rest, [], steps, refl, refl), (refl, refl)))

others_go : Goes 1 outset opened others one (owing (reply 2))
unfolding number sequence_in opaque_at fixed_at
others_go =
    let read : Desk = record opened { unread = call 2 } in
    let steps : StepsPart 1 outset read 100 (call 2) one fresh [] (reply 2) =
    record { live = refl; short = refl; room = omega arith; clock = omega arith; some = omega arith; few = omega arith; split = refl; takes = takes_call } in
    let d = owing (reply 2) in
    (outset, read, (refl, hungry, omega arith, omega arith, refl), (one, d, (fresh, [], reply 2, steps, refl, refl), (one, d, (refl, refl, omega arith, refl), (refl, refl))))

goes_on_go : Goes 0 one waiting (goes_on eight) two (owing left)
unfolding part number sequence_in opaque_at fixed_at
goes_on_go =
    let steps : StepsPart 0 one waiting 101 rest two fresh [] (reply 1) =
    record { live = refl; short = refl; room = omega arith; clock = omega arith; some = omega arith; few = omega arith; split = refl; takes = takes_rest } in
    let d = owing left in
    (two, owing (reply 1), (fresh, [], reply 1, steps, refl, refl), (two, d, (refl, refl, omega arith, left, refl, refl), (two, d, (refl, refl, omega arith, refl), (refl, refl))))

reads_end : EndsTurn reads waiting
unfolding number
reads_end = ends_full (record { steps = 15; bytes = 65536; late = true }) (omega arith)
    (record { steps = refl; bytes = refl; late = refl; within = (not_served, ((λ on. (omega arith, refl)), tt)) }) refl (inr (omega arith, inr (inr refl))) (omega arith) refl

others_end : EndsTurn others (owing (reply 2))
unfolding number
others_end = ends_stuck (record { steps = 15; bytes = 65536; late = false }) (omega arith)
    (record { steps = refl; bytes = refl; late = refl; within = (not_served, ((λ on. (omega arith, refl)), (not_served, tt))) }) (Came (call 2) ∷ stepped 100 (call 2) ∷ [], refl, omega arith)

goes_on_end : EndsTurn (goes_on eight) (owing left)
unfolding number
goes_on_end = ends_stuck (record { steps = 15; bytes = 65528; late = false }) (omega arith)
    (record { steps = refl; bytes = refl; late = refl; within = ((λ on. (omega arith, refl)), (not_served, (not_served, tt))) }) (stepped 101 rest ∷ Took eight ∷ [], refl, omega arith)

module _ (a b c : Desk) where
  first_changes : OthersStay (on a c) (on b c) 0
  first_changes zero other = absurd (other refl)
  first_changes (suc port) other = refl

  second_changes : OthersStay (on a b) (on a c) 1
  second_changes zero other = refl
  second_changes (suc zero) other = absurd (other refl)
  second_changes (suc (suc port)) other = refl

none_changes : OthersStay none_live (on opened closed) 0
none_changes zero other = absurd (other refl)
none_changes (suc zero) other = refl
none_changes (suc (suc port)) other = refl

others_turn : Turning outset (on waiting opened) (Turns 1 others ∷ []) one between
others_turn = (one, between, omega arith, others_go, others_end, second_changes waiting opened (owing (reply 2)), (refl, λ c. refl))

both_turn : Turning outset (on opened opened) (Turns 0 reads ∷ Turns 1 others ∷ []) one between
both_turn = (outset, on waiting opened, omega arith, reads_go, reads_end, first_changes opened waiting opened, others_turn)

first_turning : Turning outset none_live first one between
first_turning = (on opened closed, omega arith, refl, none_changes, (on opened opened, omega arith, refl, second_changes opened closed opened, both_turn))

not_more : HasMore (owing (reply 2)) → ⊥
not_more more = omega (arith, more.unread)

passed_over : Turning two at_last (Turns 1 (Unready ∷ []) ∷ []) two at_last
passed_over = (two, at_last, omega arith, (two, owing (reply 2), (refl, not_more, refl), (refl, refl)), passes_over, λ c other. refl, (refl, λ c. refl))

second_turning : Turning one between second two at_last
second_turning = (two, at_last, omega arith, goes_on_go, goes_on_end, first_changes waiting (owing left) (owing (reply 2)), passed_over)

module _ (xs ys : List Act) (a b : Desk) where
  each_turn : (port : ℕ) → port < 2 → HasTurn port (Turns 0 xs ∷ Turns 1 ys ∷ [])
  each_turn zero less = inl refl
  each_turn (suc zero) less = inr (inl refl)
  each_turn (suc (suc port)) less = absurd (omega (arith, less))

  none_else : (port : ℕ) → 2 ≤ port → on a b port ≡ closed
  none_else zero le = absurd (omega (arith, le))
  none_else (suc zero) le = absurd (omega (arith, le))
  none_else (suc (suc port)) le = refl

is_stepped : goes_on eight ≡ Unready ∷ [] → ⊥
is_stepped e = cc

served_next : (port : ℕ) → HasMore (between port) → IsServed port second
served_next zero more = inl (refl, is_stepped)
served_next (suc zero) more = absurd (omega (arith, more.unread))
served_next (suc (suc port)) more = not_served more.live

-- a round of a port
served : (port : ℕ) (front back : List Round) (round : Round) → IsOf port round → IsServed port (front ++ round ∷ back)
served port [] back round own = inl own
served port (r ∷ front) back round own = inr (served port front back round own)

abbrev passing : List Round
passing = Turns 0 (Unready ∷ []) ∷ Turns 1 (Unready ∷ []) ∷ []

none_served : IsServed 0 passing → ⊥
none_served (inl own) = own.1 refl
none_served (inr (inl own)) = omega (arith, own.0)
none_served (inr (inr none)) = none

pub turn_is_soon : TurnIsSoon
unfolding number
turn_is_soon = record {
  sweeps = record {
    made = 2;
    few = omega arith;
    turning = first_turning;
    in_order = (refl, (refl, (omega arith, (omega arith, omega arith))));
    each = each_turn reads others waiting opened;
    none_passed = λ port more. not_served more.live;
    none_else = none_else reads others waiting (owing (reply 2));
  };
  next = record {
    made = 2;
    few = omega arith;
    turning = second_turning;
    in_order = (omega arith, (omega arith, omega arith));
    each = each_turn (goes_on eight) (Unready ∷ []) waiting opened;
    none_passed = served_next;
    none_else = none_else reads others (owing left) (owing (reply 2));
  };
  waits = record { live = refl; owed = refl; unread = omega arith };
  soon = ([], Turns 0 (goes_on eight), Turns 1 (Unready ∷ []) ∷ [], refl, (refl, is_stepped), omega arith);
  passed = λ h. (let (front, round, later, is, own, few) = h in none_served (subst (IsServed 0) (sym is) (served 0 front later round own)));
  many = λ h. (let (front, round, later, is, own, few) = h in omega (arith, few));
}

-- The reply.

told : (bytes : List ℕ) (e : Desk) (a : Account 0 one waiting (goes_on bytes) two e) → a.outs ≡ reply 1
unfolding part
told bytes e a = by a.answers
  where
    only : (moves : List Move) → events moves ≡ Arrives 0 101 (null_by 1) ∷ [] → output Plain one moves ≡ reply 1
    only [] is = absurd cc
    only (m ∷ []) is = (let own : m.event ≡ Arrives 0 101 (null_by 1) = cc in ap (λ e. output Plain one (record { event = e; choice = m.choice } ∷ [])) own ∙ put_first one m.choice)
    only (m ∷ n ∷ moves) is = absurd cc

    by : Answers 0 one (Begun part) (goes_on bytes) two e.stream a.outs → a.outs ≡ reply 1
    by (u, mid, out, more, takes, is, last) =
        let (end, brought, holds) = takes.stream (Open front) front_held in
        let same = brings_once 0 101 (Open front) rest (events takes.moves) _ end (Open []) brought (brings_rest (Open front) front_held) in
        is ∙ ap (λ l. out ++ l) last.2 ∙ append-nil out ∙ takes.wrote ∙ only takes.moves same.0

-- what the peer took and what is owed
owed : (bytes more : List ℕ) → Account 0 one waiting (goes_on bytes) two (owing more) → reply 1 ≡ bytes ++ more
owed bytes more a = sym (told bytes (owing more) a) ∙ a.out_order ∙ ap (λ l. l ++ more) (append-nil bytes)

pub reply_is_whole : ReplyIsWhole
unfolding number
reply_is_whole = record {
  goes = goes_on_go;
  account = account 0 one two waiting (owing left) (goes_on eight) goes_on_go refl;
  told = told eight (owing left);
  doubled = λ a. (let long : 28 ≡ 56 = ap length (owed eight (left ++ reply 1) a) in omega (arith, long));
  dropped = λ a. (let long : 28 ≡ 8 = ap length (owed eight [] a) in omega (arith, long));
  swapped = λ a. (let byte : 128 ≡ 0 = ap (λ (l : List ℕ). get_or l 0 0) (owed left eight a) in omega (arith, byte));
  lost = λ a. (let long : 44 ≡ 20 = ap length a.in_order in omega (arith, long));
}

-- The script.

once : (old : Streams) (now conn : ℕ) (piece : List ℕ) (a b : List StreamEvent) (x y : Streams) → TakesPiece old now conn piece a x → TakesPiece old now conn piece b y
    → (a ≡ b) × (x ≡ y)
once old now conn [] a b x y h k = (h.0 ∙ sym k.0, h.1 ∙ sym k.1)
once old now conn (c ∷ piece) a b x y (end, brings, is) (last, brought, is_too) =
    let same = brings_once conn now (old conn) (c ∷ piece) a b end last brings brought in
    (same.0, is ∙ ap (λ e. with_stream old conn e) same.1 ∙ sym is_too)

all_once : (old : Streams) (entries : List Entry) (a b : List StreamEvent) (x y : Streams) → TakesAll old entries a x → TakesAll old entries b y → (a ≡ b) × (x ≡ y)
all_once old [] a b x y h k = (h.0 ∙ sym k.0, h.1 ∙ sym k.1)
all_once old (e ∷ entries) a b x y (first, later, u, is, takes, more) (here, behind, v, is_too, takes_too, more_too) =
    let same = once old e.moment e.conn e.piece first here u v takes takes_too in
    let rest = all_once v entries later behind x y (subst (λ w. TakesAll w entries later x) same.1 more) more_too in
    (is ∙ ap (λ l. l ++ later) same.0 ∙ ap (λ l. here ++ l) rest.0 ∙ sym is_too, rest.1)

abbrev begun_on : Streams
begun_on = with_stream (with_stream (with_stream all_closed 0 (Open [])) 1 (Open [])) 0 (Open front)

front_reads : (entries : List Entry) (later : List StreamEvent) (new : Streams) → TakesAll begun_on entries later new
    → TakesAll all_closed (script (Opens 0 ∷ Opens 1 ∷ Turns 0 reads ∷ []) ++ entries) later new
unfolding number
front_reads entries later new h =
    let read : IsReading front [] (Open front) = record { behind = front; stands = refl; ends = (refl, part_unfinished front part front_held.1) } in
    ([], later, _, refl, (refl, refl), ([], later, _, refl, (refl, refl), ([], later, begun_on, refl, (Open front, ([], read, refl), refl), h)))

abbrev ended : Streams
ended = with_stream (with_stream begun_on 1 (Open [])) 0 (Open [])

rest_reads : TakesAll (with_stream begun_on 1 (Open [])) (script second) (Arrives 0 101 (null_by 1) ∷ []) ended
unfolding number
rest_reads = (Arrives 0 101 (null_by 1) ∷ [], [], ended, refl, (Open [], brings_rest (Open front) front_held, refl), (refl, refl))

reads_all : TakesAll all_closed (script rounds) records ended
unfolding number
reads_all = front_reads (script (Turns 1 others ∷ second)) records ended (Arrives 1 100 (null_by 2) ∷ [], _, _, refl, (Open [], brings_call (Open []) nothing, refl), rest_reads)

abbrev swapped_records : List StreamEvent
swapped_records = Arrives 0 101 (null_by 1) ∷ Arrives 1 100 (null_by 2) ∷ []

abbrev ended_swapped : Streams
ended_swapped = with_stream (with_stream begun_on 0 (Open [])) 1 (Open [])

call_reads : TakesAll (with_stream begun_on 0 (Open [])) (script (Turns 1 others ∷ [])) (Arrives 1 100 (null_by 2) ∷ []) ended_swapped
unfolding number
call_reads = (Arrives 1 100 (null_by 2) ∷ [], [], ended_swapped, refl, (Open [], brings_call (Open []) nothing, refl), (refl, refl))

reads_swapped : TakesAll all_closed (script swapped_rounds) swapped_records ended_swapped
unfolding number
reads_swapped = front_reads (script (Turns 0 (goes_on eight) ∷ Turns 1 others ∷ [])) swapped_records ended_swapped
    (Arrives 0 101 (null_by 1) ∷ [], _, _, refl, (Open [], brings_rest (Open front) front_held, refl), call_reads)

first_moment : one.moment ≡ 100
unfolding number step call_of header opaque_auth opaque_at fixed_at behind_header
first_moment = refl

-- whatever memory is refused, the last record leaves its moment
moment : (moves : List Move) → events moves ≡ records → (after outset moves).moment ≡ 101
unfolding number step call_of header opaque_auth opaque_at fixed_at behind_header
moment (m ∷ n ∷ []) is =
    let a : m.event ≡ Arrives 1 100 (null_by 2) = cc in
    let b : n.event ≡ Arrives 0 101 (null_by 1) = cc in
    λ i. (after outset (record { event = a i; choice = m.choice } ∷ record { event = b i; choice = n.choice } ∷ [])).moment
moment moves is = absurd cc

same : (s : ServerState) (desks : Desks) (run : RunsScript outset rounds s desks) → (events run.moves ≡ records) × (run.streams ≡ ended)
same s desks run = all_once all_closed (script rounds) (events run.moves) records run.streams ended run.reads reads_all

turning : Turning outset none_live rounds two at_last
turning = turning_on outset one two none_live between at_last first second first_turning second_turning

pub turns_are_entries : TurnsAreEntries
unfolding part number
turns_are_entries = record {
  turning = turning;
  entries = refl;
  runs = (let (run, loses) = in_a_run outset two rounds at_last turning in (run, loses 0 refl));
  brings = λ run. (same two at_last run).0;
  swapped = λ run is. apart (sym is ∙ (all_once all_closed (script swapped_rounds) (events run.moves) swapped_records run.streams ended_swapped run.reads reads_swapped).0);
  unstepped = λ run. (let late : 100 ≡ 101 = sym first_moment ∙ ap (λ (s : ServerState). s.moment) run.state ∙ moment run.moves (same one at_last run).0 in omega (arith, late));
  kept = λ run. (let holds = subst (λ (x : Streams). Stands (x 0) (Begun part)) (same two _ run).1 (run.stands 0 refl) in
      let lacks : 0 ≡ 24 = ap (λ (p : Part). p.lacking) (part_same [] start part start_holds holds.1) in omega (arith, lacks));
}
  where
    apart : records ≡ swapped_records → ⊥
    apart e = absurd cc
