-- A part of a stream whose first record, if one ends in it, was stepped.
use Rattle.std.proofs.{Common.{◌≡◌, ℕ, false, List, [], take, Option, Some, refl, sym, append-nil, arith, inl, inr}, Math.ListN.get_or-eq_default}
use Rattle.std.proofs.{lemmas.List.{get_or-take, length-take}, lemmas.Bool.cases_lt}
use Rattle.nfs_xdr.specs.Text.{IsBytes}
use Rattle.nfs_rpc.specs.{RecordMarking.{Gathered, Complete, Failed, is_too_long}, Feeding.waits}
use Rattle.nfs_serve.specs.{declared.form.Form.TheVariants.Plain, Step.{ServerState, step}, Run.spell_answer, Server.fresh, First.{TakesUp, RunsOver}}
use Rattle.nfs_serve.specs.Desk.{TakesPart}
use Rattle.nfs_serve.proofs.Pieces.{taking_start, taking_more, taking_ends, taking_long}

module _ (conn : ℕ) (s : ServerState) (was : Gathered) (moment : ℕ) (part : List ℕ) (short : is_too_long was ≡ false) where
  -- no record ends in it
  pub takes_none : (is : Gathered) → TakesUp was part is → waits is ≡ false → is_too_long is ≡ false → IsBytes part → TakesPart conn s was moment part s is []
  unfolding taking_start taking_ends
  takes_none is up none going bytes =
      let f = taking_ends (taking_start s was conn moment Plain part (Some [])) is short none going bytes up in
      record { moves = f.moves; one = omega arith; state = f.state; wrote = f.wrote; stream = f.stream }

  pub takes_record : (call : List ℕ) (choice : Option ℕ) (t : ServerState) → TakesUp was part (Complete call) → IsBytes part
      → t ≡ (step s call moment choice).state → TakesPart conn s was moment part t fresh (spell_answer Plain conn (step s call moment choice).reply)
  unfolding taking_start taking_more taking_ends
  takes_record call choice t up bytes state =
      let out = spell_answer Plain conn (step s call moment choice).reply in
      let ran = taking_more (taking_start s was conn moment Plain part (Some [])) part [] call choice t (Some out) (sym (append-nil part)) up state refl in
      let f = taking_ends ran fresh short refl refl bytes (λ rest r_bytes holds. rw append-nil holds) in
      record { moves = f.moves; one = omega arith; state = f.state; wrote = f.wrote; stream = f.stream }

  -- the stream becomes too long
  pub takes_long : RunsOver was part → TakesPart conn s was moment part s Failed []
  unfolding taking_start taking_long
  takes_long over =
      let f = taking_long (taking_start s was conn moment Plain part (Some [])) (Some []) short over refl in
      record { moves = f.moves; one = omega arith; state = f.state; wrote = f.wrote; stream = f.stream }

pub front_bytes : (n : ℕ) (xs : List ℕ) → IsBytes xs → IsBytes (take n xs)
front_bytes n xs bytes = record {
  each = λ i.
      elim (cases_lt i n) [
        | inl lt ↦ rw (get_or-take n xs i 0 lt) (bytes.each i)
        | inr le ↦ let none = get_or-eq_default (take n xs) 0 {n = i} (omega (arith, length-take n xs, le)) in omega (arith, none)
      ];
}
