-- A sweep, port after port; who begins before it; and how few others have their turn between two turns of a port.
use Rattle.std.proofs.Common.{◌≡◌, ℕ, suc, ◌+◌, ◌*◌, ◌≤◌, List, [], ◌∷◌, ◌++◌, refl, ap, subst, arith, inl, inr}
use Rattle.nfs_serve.specs.{Step.ServerState, Desk.{Act, most_steps, step_count}, Hub.{Desks, Round, Opens, Turns, Turning, InOrder, IsOf, IsServed, steps_in}}
use Rattle.nfs_promises.specs.Calls.WaitsForFew.{WaitsForFew}

-- How many parts are stepped.

Few : List Round → Type 0
Few [] = Unit {0}
Few (Opens port ∷ rounds) = Few rounds
Few (Turns port acts ∷ rounds) = (step_count acts ≤ most_steps) × Few rounds

few : (s t : ServerState) (old new : Desks) (rounds : List Round) → Turning s old rounds t new → Few rounds
unfolding Few
few s t old new [] h = tt
few s t old new (Opens port ∷ rounds) h =
    let (between, le, is, others, later) = h in
    few s t between new rounds later
few s t old new (Turns port acts ∷ rounds) h =
    let (u, between, le, goes, ends, others, later) = h in
    (ends.1, few u t between new rounds later)

few_behind : (xs ys : List Round) → Few (xs ++ ys) → Few ys
unfolding Few
few_behind [] ys h = h
few_behind (Opens port ∷ xs) ys h = few_behind xs ys h
few_behind (Turns port acts ∷ xs) ys h = few_behind xs ys h.1

few_turn : (port : ℕ) (acts : List Act) (rounds : List Round) → Few (Turns port acts ∷ rounds) → Few rounds
unfolding Few
few_turn port acts rounds h = h.1

few_before : (xs ys : List Round) → Few (xs ++ ys) → Few xs
unfolding Few
few_before [] ys h = tt
few_before (Opens port ∷ xs) ys h = few_before xs ys h
few_before (Turns port acts ∷ xs) ys h = (h.0, few_before xs ys h.1)

-- as many as 16 a port
bounded : (from to : ℕ) (rounds : List Round) → InOrder from to rounds → Few rounds → steps_in rounds + from * 16 ≤ to * 16
unfolding Few
bounded from to [] h f = omega (arith, h)
bounded from to (Opens port ∷ rounds) h f = bounded from to rounds h.1 f
bounded from to (Turns port acts ∷ rounds) h f =
    let rest : steps_in rounds + suc port * 16 ≤ to * 16 = bounded (suc port) to rounds h.1 f.1 in
    omega (arith, rest, h.0, f.0)

-- what stands before a turn and behind it
before_turn : (from to port : ℕ) (acts : List Act) (front back : List Round) → InOrder from to (front ++ Turns port acts ∷ back) → InOrder from port front
before_turn from to port acts [] back h = h.0
before_turn from to port acts (Opens p ∷ front) back h = (h.0, before_turn from to port acts front back h.1)
before_turn from to port acts (Turns p done ∷ front) back h = (h.0, before_turn (suc p) to port acts front back h.1)

behind_turn : (from to port : ℕ) (acts : List Act) (front back : List Round) → InOrder from to (front ++ Turns port acts ∷ back) → InOrder (suc port) to back
behind_turn from to port acts [] back h = h.1
behind_turn from to port acts (Opens p ∷ front) back h = behind_turn from to port acts front back h.1
behind_turn from to port acts (Turns p done ∷ front) back h = behind_turn (suc p) to port acts front back h.1

-- a connection begins before the first turn
none_begins : (from to port : ℕ) (front back : List Round) → InOrder (suc from) to (front ++ Opens port ∷ back) → ⊥
none_begins from to port [] back h = omega (arith, h.0)
none_begins from to port (Opens p ∷ front) back h = none_begins from to port front back h.1
none_begins from to port (Turns p acts ∷ front) back h = none_begins p to port front back h.1

none_stepped : (from to port : ℕ) (front back : List Round) → InOrder from to (front ++ Opens port ∷ back) → steps_in front ≡ 0
none_stepped from to port [] back h = refl
none_stepped from to port (Opens p ∷ front) back h = none_stepped from to port front back h.1
none_stepped from to port (Turns p acts ∷ front) back h = absurd (none_begins p to port front back h.1)

served_at : (port : ℕ) (rounds : List Round) → IsServed port rounds
    → (front : List Round) × (round : Round) × (back : List Round) × (rounds ≡ front ++ round ∷ back) × IsOf port round
served_at port [] none = absurd none
served_at port (r ∷ rounds) (inl own) = ([], r, rounds, refl, own)
served_at port (r ∷ rounds) (inr later) =
    let (front, round, back, is, own) = served_at port rounds later in
    (r ∷ front, round, back, ap (λ l. r ∷ l) is, own)

-- in front of a round of a port
steps_before : (to port : ℕ) (round : Round) (front back : List Round) → IsOf port round → InOrder 0 to (front ++ round ∷ back) → Few (front ++ round ∷ back)
    → steps_in front ≤ port * 16
steps_before to port (Opens p) front back own h f = omega (arith, none_stepped 0 to p front back h)
steps_before to port (Turns p acts) front back own h f =
    let most : steps_in front + 0 * 16 ≤ p * 16 = bounded 0 p front (before_turn 0 to p acts front back h) (few_before front (Turns p acts ∷ back) f) in
    omega (arith, most, own.0)

pub waits_for_few : WaitsForFew
waits_for_few most s u t old mid new first second before behind port acts one two split more =
    let (front, round, back, is, own) = served_at port second (two.none_passed port more) in
    let first_few : Few (before ++ Turns port acts ∷ behind) = subst Few split (few s u old mid first one.turning) in
    let later_few : Few behind = few_turn port acts behind (few_behind before (Turns port acts ∷ behind) first_few) in
    let later : steps_in behind + suc port * 16 ≤ one.made * 16 =
    bounded (suc port) one.made behind (behind_turn 0 one.made port acts before behind (subst (InOrder 0 one.made) split one.in_order)) later_few in
    let sooner : steps_in front ≤ port * 16 =
    steps_before two.made port round front back own (subst (InOrder 0 two.made) is two.in_order) (subst Few is (few u t mid new second two.turning)) in
    (front, round, back, is, own, omega (arith, later, sooner, one.few))
