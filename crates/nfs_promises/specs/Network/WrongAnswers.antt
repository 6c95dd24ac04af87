-- Wrong answers to a repeat and to a call, which laws refuse (RFC 8881 section 2.10.6.1, RFC 5531 section 9). Of the repeat each is a server that is small enough to
-- read, as in `WrongServers`: a record is an xid, a slot of one session, a number and the highest slot in use.
use Rattle.std.specs.Prelude.{ℕ, ◌&&◌, nat_lt, List, [], ◌∷◌, ◌++◌, Bool, true, false, Option, Some, None, if◌then◌else◌}
use Rattle.nfs_rpc.specs.Reply.{spell_head}
use Rattle.nfs_slots.specs.{declared.slot.Verdict.Verdict, declared.slot.Verdict.TheVariants.Again}
use Rattle.nfs_promises.specs.Network.{Endpoint.{Heading, Stepped, Server}, WrongServers.{Small, heading, arguments, judged, is_fresh, by_verdict, small}}
use Rattle.nfs_promises.specs.{Network.{AnsweredAgain.AnsweredAgain, FreshRuns.{FreshRuns, NextRuns}}, Calls.EachIsAnswered.IsUnder}

abbrev pub is_again : Verdict → Bool
is_again Again = true
is_again verdict = false

-- A server that does this with a repeat, and what it ought to with all else.
module _ (repeats : Small → Heading → Stepped Small) where
  abbrev pub taken : Small → Option Heading → Stepped Small
  taken s None = record { answer = None; state = s }
  taken s (Some h) =
      if is_again (judged arguments s h) then repeats s h else by_verdict arguments (λ p. p) (λ ran number. ran) s h (judged arguments s h)

  abbrev pub repeating : Server
  repeating = record (small arguments (λ p. p) (λ ran number. ran)) { step = λ s bytes now choice. taken s (heading bytes) }

abbrev pub answers : Small → Heading → List ℕ → Stepped Small
answers s h result = record { answer = Some (record { xid = h.xid; result = result }); state = s }

-- it refuses repeats from slot 2 on, so that a lost reply is never had there
abbrev pub refuses_some : Server
refuses_some = repeating (λ s h. if nat_lt 1 h.place.slot then record { answer = None; state = s } else answers s h (s.slots h.place).reply)

-- it makes the answer anew, from what is there by then: how many compounds ran
abbrev pub makes_anew : Server
makes_anew = repeating (λ s h. answers s h s.ran)

-- it answers what the slot keeps, and runs the compound again
abbrev pub runs_again : Server
runs_again = repeating (λ s h. answers (record s { ran = s.ran ++ h.compound.number ∷ [] }) h (s.slots h.place).reply)

-- it refuses everything
abbrev pub refuses_all : Server
refuses_all = record (small arguments (λ p. p) (λ ran number. ran)) {
  step = λ s bytes now choice. record { answer = None; state = s };
  executes = λ s bytes now. false;
}

-- it runs the first compound of each slot alone
abbrev pub is_first : Small → Option Heading → Bool
is_first s None = false
is_first s (Some h) = is_fresh (judged arguments s h) && nat_lt h.compound.number 2

abbrev pub first_taken : Small → Option Heading → Stepped Small
first_taken s None = record { answer = None; state = s }
first_taken s (Some h) =
    if is_first s (Some h) then by_verdict arguments (λ p. p) (λ ran number. ran) s h (judged arguments s h) else record { answer = None; state = s }

abbrev pub runs_first : Server
runs_first = record (small arguments (λ p. p) (λ ran number. ran)) {
  step = λ s bytes now choice. first_taken s (heading bytes);
  executes = λ s bytes now. is_first s (heading bytes);
}

pub record AnswersAreRefused : Type 0 where
  pub refused : AnsweredAgain refuses_some → ⊥
  pub anew : AnsweredAgain makes_anew → ⊥
  pub again : AnsweredAgain runs_again → ⊥
  -- of a server that refuses everything the law of repeats holds
  pub admitted : AnsweredAgain refuses_all
  pub none_run : FreshRuns refuses_all (λ s p bytes. Unit {0}) → ⊥
  pub one_runs : NextRuns runs_first (λ s p bytes. Unit {0}) → ⊥
  -- a call that is not answered, one that is answered under another xid, and an answer to what is no call
  pub silent : IsUnder None (Some 7) → ⊥
  pub another : IsUnder (Some (spell_head 8)) (Some 7) → ⊥
  pub unasked : IsUnder (Some (spell_head 8)) None → ⊥
