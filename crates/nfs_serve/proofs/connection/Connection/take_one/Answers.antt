use Rattle.std.proofs.Common.{◌≡◌, ◌+◌, arith, sym, ap, subst, ◌∙◌, ◌++◌, append-nil, take, take_all, length, le_refl, [], false, refl}
use Rattle.nfs_xdr.specs.Text.{IsBytes}
use Rattle.nfs_rpc.specs.{RecordMarking.{Complete, is_too_long}, Feeding.{waits, waiting, done_with, Holds}}
use Rattle.nfs_serve.specs.{Server.fresh, First.{TakesUp, RunsOver}}
use Rattle.nfs_serve.proofs.Owing.{takes_none, takes_record, takes_long, front_bytes}
use Rattle.nfs_serve.proofs.connection.Connection.take_one.Goals as goal

pub returns-in-Some-clause-taken : goal.returns-in-Some-clause-taken
returns-in-Some-clause-taken c =
    let bytes : IsBytes c.args.piece.now = record { each = λ i. (let small = c.type_inv.piece i in omega (arith, small)) } in
    let call = c.in-Some.call.now in
    let whole = c.in-Some.ensures.some in
    let (choice, owed, state) = c.answer.ensures in
    let up : TakesUp fresh (take (4 + length call) c.args.piece.now) (Complete call) = λ rest r_bytes holds. whole.stream rest (rw whole.fresh holds) in
    rw (← c.self.view_is, whole.fresh) (
      _,
      takes_record _ _ _ _ _ refl call choice _ up (front_bytes (4 + length call) c.args.piece.now bytes) state,
      owed c.args.conn,
    )

pub returns-in-More-clause-taken : goal.returns-in-More-clause-taken
returns-in-More-clause-taken c =
    let bytes : IsBytes c.args.piece.now = record { each = λ i. (let small = c.type_inv.piece i in omega (arith, small)) } in
    let short : is_too_long c.self.inside.records ≡ false = ap is_too_long c.self.view_is ∙ c.requires.open in
    let (part, is) = c.in-More.ensures.answer in
    let up : TakesUp c.self.inside.records c.args.piece.now c.feed.new.self = c.in-More.ensures.stream in
    rw (← c.self.view_is) (
      [],
      rw (take_all (length c.args.piece.now) c.args.piece.now (le_refl _)) (takes_none _ _ _ _ _ short _ up (ap waits is) (ap is_too_long is) bytes),
      sym (append-nil _),
    )

pub returns-in-TooLong-clause-taken : goal.returns-in-TooLong-clause-taken
returns-in-TooLong-clause-taken c =
    let short : is_too_long c.self.inside.records ≡ false = ap is_too_long c.self.view_is ∙ c.requires.open in
    let is = c.in-TooLong.ensures.answer in
    let over : RunsOver c.self.inside.records c.args.piece.now = λ rest r_bytes holds.
    let (used, long) = c.in-TooLong.ensures.stream rest r_bytes holds in
    (used, subst (Holds (rest ++ take used c.args.piece.now)) is long) in
    rw (← c.self.view_is, is) (
      [],
      rw (take_all (length c.args.piece.now) c.args.piece.now (le_refl _)) (takes_long _ _ _ _ _ short over),
      sym (append-nil _),
    )

pub returns-in-Whole-clause-taken : goal.returns-in-Whole-clause-taken
returns-in-Whole-clause-taken c =
    let bytes : IsBytes c.args.piece.now = record { each = λ i. (let small = c.type_inv.piece i in omega (arith, small)) } in
    let short : is_too_long c.self.inside.records ≡ false = ap is_too_long c.self.view_is ∙ c.requires.open in
    let (call, is, within, some) = c.in-Whole.ensures.answer in
    let call_is : c.record.result.now ≡ call = c.record.ensures ∙ ap waiting is in
    let front = take c.in-Whole.taken c.args.piece.now in
    let up : TakesUp c.self.inside.records front (Complete c.record.result.now) = λ rest r_bytes holds.
    subst (Holds (rest ++ front)) (is ∙ ap Complete (sym call_is)) (c.in-Whole.ensures.stream rest r_bytes holds) in
    let (choice, owed, state) = c.answer-in-Whole.ensures in
    let done : c.take.new.self ≡ fresh = c.take.ensures ∙ ap done_with is in
    rw (← c.self.view_is, done) (
      _,
      takes_record _ _ _ _ _ short c.record.result.now choice _ up (front_bytes c.in-Whole.taken c.args.piece.now bytes) state,
      owed c.args.conn,
    )
