-- The runs of two scripts, computed.
use Rattle.std.proofs.{Common.{◌≡◌, ℕ, List, [], ◌∷◌, ◌++◌, None, refl, sym, arith, append-nil}, lemmas.List.Elements.{All-nil, All-push}}
use Rattle.nfs_xdr.specs.{Spelling.{number, hyper}, Reading.{opaque_at, fixed_at, flag_at, pieces_at}, AuthSys.auth_sys}
use Rattle.nfs_rpc.specs.{RecordMarking.{IsRecord, start}, Stream.{Open, IsReading}, HeadCodec.{header, opaque_auth}}
use Rattle.nfs_rpc.specs.{CallHead.{call_of, behind_header, caller_of}, Reply.spell_head}
use Rattle.nfs_rpc.proofs.Readings.{part_unfinished}
use Rattle.nfs_compound.specs.{ReadRequest.{request_at, items_at, item_at}, OpCodec.{op_at, fault_at}, ArgCodecs.{exchange_id_args, protected, impl_id}}
use Rattle.nfs_results.specs.Items as results
use Rattle.nfs_serve.specs.{Script.{Entry, head, Fits}, Step.step, Run.{Streams, all_closed, with_stream, StreamEvent, Arrives, Move, output}}
use Rattle.nfs_promises.specs.{Runs.Requests.words, Calls.Exchanges.{RunsTo, null_call, null_script, null_output, exchange_call}}
use Rattle.nfs_promises.specs.Calls.Exchanges.{exchange_script, exchange_output}
use Rattle.nfs_serve.proofs.Pieces.{start_holds}

-- a piece that is one record of one fragment
one_record : (piece call : List ℕ) → IsRecord piece call → IsReading piece (call ∷ []) (Open [])
one_record piece call is = record { behind = []; stands = (piece, [], sym (append-nil piece), is, refl); ends = (refl, part_unfinished [] start start_holds) }

null_piece : List ℕ
null_piece = words (0x8000_0028 ∷ []) ++ null_call

null_record : IsRecord null_piece null_call
unfolding null_piece number
null_record = record { before = []; final = null_call; stands = refl; holds = refl; fits = omega arith }

null_move : Move
null_move = record { event = Arrives 0 100 null_call; choice = None }

null_entry : Entry
null_entry = record { moment = 100; conn = 0; piece = null_piece }

pub null_runs : RunsTo null_script null_output
unfolding null_move null_entry null_piece head number hyper step call_of header opaque_auth opaque_at fixed_at behind_header spell_head
null_runs = record {
  entries = null_entry ∷ [];
  moves = null_move ∷ [];
  streams = with_stream all_closed 0 (Open []);
  whole = record { spelled = refl; fits = All-push Fits [] null_entry (All-nil Fits) (omega arith, omega arith, omega arith); few = omega arith };
  reads = (
    Arrives 0 100 null_call ∷ [],
    [],
    with_stream all_closed 0 (Open []),
    refl,
    (Open [], (null_call ∷ [], one_record null_piece null_call null_record, refl), refl),
    (refl, refl),
  );
  granted = All-push (λ m. m.choice ≡ None) [] null_move (All-nil _) refl;
  output = refl;
}

exchange_piece : List ℕ
exchange_piece = words (0x8000_0068 ∷ []) ++ exchange_call

exchange_record : IsRecord exchange_piece exchange_call
unfolding exchange_piece number
exchange_record = record { before = []; final = exchange_call; stands = refl; holds = refl; fits = omega arith }

exchange_move : Move
exchange_move = record { event = Arrives 0 100 exchange_call; choice = None }

exchange_one : Entry
exchange_one = record { moment = 100; conn = 0; piece = exchange_piece }

once : Streams
once = with_stream all_closed 0 (Open [])

pub exchange_runs : RunsTo exchange_script exchange_output
unfolding exchange_move exchange_one exchange_piece head number hyper once step call_of header opaque_auth opaque_at fixed_at behind_header caller_of auth_sys
    spell_head request_at items_at item_at op_at fault_at exchange_id_args protected impl_id pieces_at flag_at results.exchange_id
exchange_runs = record {
  entries = exchange_one ∷ exchange_one ∷ [];
  moves = exchange_move ∷ exchange_move ∷ [];
  streams = with_stream once 0 (Open []);
  whole = record {
    spelled = refl;
    fits = All-push Fits (exchange_one ∷ []) exchange_one
        (All-push Fits [] exchange_one (All-nil Fits) (omega arith, omega arith, omega arith)) (omega arith, omega arith, omega arith);
    few = omega arith;
  };
  reads = (let e : StreamEvent = Arrives 0 100 exchange_call in (
    e ∷ [],
    e ∷ [],
    once,
    refl,
    (Open [], (exchange_call ∷ [], one_record exchange_piece exchange_call exchange_record, refl), refl),
    (
      e ∷ [],
      [],
      with_stream once 0 (Open []),
      refl,
      (Open [], (exchange_call ∷ [], one_record exchange_piece exchange_call exchange_record, refl), refl),
      (refl, refl),
    ),
  ));
  granted = All-push (λ m. m.choice ≡ None) (exchange_move ∷ []) exchange_move (All-push (λ m. m.choice ≡ None) [] exchange_move (All-nil _) refl) refl;
  output = refl;
}
