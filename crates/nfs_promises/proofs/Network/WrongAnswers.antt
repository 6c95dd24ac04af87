-- The runs in which laws fail of wrong answers, computed.
use Rattle.std.proofs.{Common.{◌≡◌, ℕ, List, [], ◌∷◌, length, get_or, Some, None, refl, ap, arith}, lemmas.Bool.false≢true}
use Rattle.std.specs.Prelude.{option_map}
use Rattle.nfs_xdr.specs.Spelling.{number}
use Rattle.nfs_rpc.specs.Reply.{spell_head}
use Rattle.nfs_promises.specs.Network.{Endpoint.{Heading, Answer, Arrival, Server, stepped}, WrongServers.{Small, place}, AnsweredAgain.Stands}
use Rattle.nfs_promises.specs.Network.WrongAnswers.{refuses_some, makes_anew, runs_again, AnswersAreRefused}
use Rattle.nfs_promises.proofs.Network.LostReply.{is_bytes}

-- a record of compound 1 on slot 2, under an xid, with the highest slot in use
abbrev comes : (xid highest : ℕ) → Arrival
comes xid highest = record { bytes = xid ∷ 2 ∷ 1 ∷ highest ∷ []; now = 0; choice = None }

abbrev says : (xid highest : ℕ) → Heading
says xid highest = record { xid = xid; place = place 2; compound = record { number = 1; uid = 6; args = 2 ∷ 1 ∷ [] }; highest = highest }

-- .. and of compound 2
abbrev follows : (xid highest : ℕ) → Arrival
follows xid highest = record { bytes = xid ∷ 2 ∷ 2 ∷ highest ∷ []; now = 0; choice = None }

abbrev follow : (xid highest : ℕ) → Heading
follow xid highest = record { xid = xid; place = place 2; compound = record { number = 2; uid = 6; args = 2 ∷ 2 ∷ [] }; highest = highest }

-- it comes twice, with another highest slot then
abbrev stood : Server → Type 0
stood s = Stands s (stepped s s.new (comes 8 2)).state (place 2) 3 0

some_refused : stood refuses_some
some_refused = record { slot = _; here = refl; top = _; below = refl }

anew_made : stood makes_anew
anew_made = record { slot = _; here = refl; top = _; below = refl }

again_run : stood runs_again
again_run = record { slot = _; here = refl; top = _; below = refl }

none_some : {X : Type 0} (x : X) → None ≡ Some x → ⊥
none_some x e = cc

pub answers_are_refused : AnswersAreRefused
unfolding number spell_head
answers_are_refused = record {
  refused = λ law. none_some _ (law [] (comes 8 2) (says 8 2) [] (comes 9 3) (says 9 3) (is_bytes _ refl) refl refl tt (is_bytes _ refl) refl refl refl some_refused).answer;
  anew = λ law.
      let is = law [] (comes 8 2) (says 8 2) [] (comes 9 3) (says 9 3) (is_bytes _ refl) refl refl tt (is_bytes _ refl) refl refl refl anew_made in
      let long : Some 1 ≡ Some 4 = ap (option_map (λ (a : Answer). length a.result)) is.answer in
      cc;
  again = λ law.
      let is = law [] (comes 8 2) (says 8 2) [] (comes 9 3) (says 9 3) (is_bytes _ refl) refl refl tt (is_bytes _ refl) refl refl refl again_run in
      let ran : 2 ≡ 1 = ap (λ (s : Small). length s.ran) is.state in
      omega arith;
  admitted = λ before a h between b g fits reads does. absurd (false≢true does);
  none_run = λ law.
      let is = law [] (comes 8 2) (says 8 2) (is_bytes _ refl) refl (record { slot = _; here = refl; top = _; below = refl }) refl tt in
      false≢true is.executes;
  one_runs = λ law.
      let is = law [] (comes 8 2) (says 8 2) [] (follows 9 2) (follow 9 2) (is_bytes _ refl) refl refl tt (is_bytes _ refl) refl refl refl (record { slot = _; here = refl; top = _; below = refl }) tt in
      false≢true is.executes;
  silent = λ under. under;
  another = λ under. let same : 8 ≡ 7 = ap (λ (reply : List ℕ). get_or reply 3 0) under.1 in omega arith;
  unasked = λ under. under;
}
