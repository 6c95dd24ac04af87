-- A list of records against its executing ones alone.
use Rattle.std.proofs.{Common.{◌≡◌, ℕ, Bool, true, false, List, [], ◌∷◌, Option, refl, sym, ◌∙◌, ap, subst, arith}, lemmas.Bool.{true≢false}}
use Rattle.std.specs.Prelude.{max, ◌≤◌, if◌then◌else◌}
use Rattle.nfs_promises.specs.Network.{Endpoint.{Answer, Server, Arrival, Stepped, stepped, ran}, ExecutingAlone.{taken, alone, answers, executing_answers}}
use Rattle.nfs_promises.specs.Network.ExecutingAlone.{ExecutingAlone, StaysSettled}
use Rattle.nfs_promises.proofs.Network.StepLaws.{KeepsTime, ran_keeps}

-- x and m are alike once the moment of m is taken
abbrev pub IsAlike : (s : Server) → s.State → s.State → Type 0
IsAlike s x m = s.tick m (s.moment m) ≡ s.tick x (s.moment m)

-- what the records `apart` leave and answer from x, against all the records from m
pub record Alike (s : Server) (x m : s.State) (apart arrivals : List Arrival) (told : List (Option Answer)) : Type 0 where
  pub state : s.tick (ran s m arrivals) (s.moment (ran s m arrivals)) ≡ s.tick (ran s x apart) (s.moment (ran s m arrivals))
  pub answered : told ≡ answers s x apart

-- one step of two states that are alike
same_step : (s : Server) (laws : KeepsTime s) (a : Arrival) (x m : s.State) → IsAlike s x m → stepped s m a ≡ stepped s x (taken s m a)
same_step s laws a x m is =
    laws.takes_later m a.bytes a.now a.choice
    ∙ (sym (laws.ticks_first m a.bytes (s.moment m) a.now a.choice)
    ∙ (ap (λ (y : s.State). s.step y a.bytes a.now a.choice) is
    ∙ laws.ticks_first x a.bytes (s.moment m) a.now a.choice))

-- a later moment
later_alike : (s : Server) (laws : KeepsTime s) (x m : s.State) (now : ℕ) → IsAlike s x m → s.tick m (max (s.moment m) now) ≡ s.tick x (max (s.moment m) now)
later_alike s laws x m now is = sym (laws.twice m (s.moment m) now) ∙ (ap (λ (y : s.State). s.tick y now) is ∙ laws.twice x (s.moment m) now)

later_last : (now moment : ℕ) → max now (max moment now) ≡ max moment now
later_last now moment = omega arith

-- and behind a record: where it executes it is stepped from both, and else only the whole list has it
alike_on : (s : Server) (laws : KeepsTime s) (a : Arrival) (x m : s.State) → IsAlike s x m → IsAlike s (stepped s x (taken s m a)).state (stepped s m a).state
alike_on s laws a x m is = ap (λ (y : Stepped s.State). s.tick y.state (s.moment (stepped s m a).state)) (same_step s laws a x m is)

alike_idle : (s : Server) (laws : KeepsTime s) (a : Arrival) (x m : s.State) → s.executes m a.bytes a.now ≡ false → IsAlike s x m → IsAlike s x (stepped s m a).state
alike_idle s laws a x m e is =
    let after : s.State = (stepped s m a).state in
    let moment : s.moment after ≡ max (s.moment m) a.now = laws.step_moment m a.bytes a.now a.choice in
    ap (λ (y : s.State). s.tick y (s.moment after)) (laws.only_ticks m a.bytes a.now a.choice e)
    ∙ (ap (s.tick (s.tick m a.now)) moment
    ∙ (laws.twice m a.now (max (s.moment m) a.now)
    ∙ (ap (s.tick m) (later_last a.now (s.moment m))
    ∙ (later_alike s laws x m a.now is ∙ ap (s.tick x) (sym moment)))))

by_test : (s : Server) (laws : KeepsTime s) (a : Arrival) (more : List Arrival) (x m : s.State) → IsAlike s x m
    → ((x m : s.State) → IsAlike s x m → Alike s x m (alone s m more) more (executing_answers s m more))
    → (b : Bool) → s.executes m a.bytes a.now ≡ b
    → Alike s x m
    (if b then taken s m a ∷ alone s (stepped s m a).state more else alone s (stepped s m a).state more)
    (a ∷ more)
    (if b then (stepped s m a).answer ∷ executing_answers s (stepped s m a).state more else executing_answers s (stepped s m a).state more)
by_test s laws a more x m is rest true e =
    let after : s.State = (stepped s m a).state in
    let alike = rest (stepped s x (taken s m a)).state after (alike_on s laws a x m is) in
    record {
      state = alike.state;
      answered = ap (λ (y : Stepped s.State). y.answer ∷ executing_answers s after more) (same_step s laws a x m is)
          ∙ ap (λ (ys : List (Option Answer)). (stepped s x (taken s m a)).answer ∷ ys) alike.answered;
    }
by_test s laws a more x m is rest false e =
    let alike = rest x (stepped s m a).state (alike_idle s laws a x m e is) in
    record { state = alike.state; answered = alike.answered }

alike : (s : Server) (laws : KeepsTime s) (arrivals : List Arrival) (x m : s.State) → IsAlike s x m → Alike s x m (alone s m arrivals) arrivals (executing_answers s m arrivals)
alike s laws [] x m is = record { state = is; answered = refl }
alike s laws (a ∷ more) x m is = by_test s laws a more x m is (λ y n. alike s laws more y n) (s.executes m a.bytes a.now) refl

-- from any state, once both took the last moment
pub alone_ticked : (s : Server) → KeepsTime s → (m : s.State) (arrivals : List Arrival) → Alike s m m (alone s m arrivals) arrivals (executing_answers s m arrivals)
alone_ticked s laws m arrivals = alike s laws arrivals m m refl

-- what executes in the list executes alone, too

same_execution : (s : Server) (laws : KeepsTime s) (a : Arrival) (x m : s.State) → IsAlike s x m → s.executes x a.bytes (max (s.moment m) a.now) ≡ s.executes m a.bytes a.now
same_execution s laws a x m is =
    sym (laws.executes_ticked x a.bytes (s.moment m) a.now)
    ∙ (ap (λ (y : s.State). s.executes y a.bytes a.now) (sym is)
    ∙ (laws.executes_ticked m a.bytes (s.moment m) a.now ∙ sym (laws.executes_later m a.bytes a.now)))

same_moment : (s : Server) (a : Arrival) (x m : s.State) → s.moment x ≤ s.moment m → taken s x (taken s m a) ≡ taken s m a
same_moment s a x m early =
    let same : max (s.moment x) (max (s.moment m) a.now) ≡ max (s.moment m) a.now = omega (arith, early) in
    ap (λ (n : ℕ). let y : Arrival = record { bytes = a.bytes; now = n; choice = a.choice } in y) same

-- a state that is alike and not later, behind a record
not_later : (s : Server) (laws : KeepsTime s) (a : Arrival) (x m : s.State) → IsAlike s x m → s.moment (stepped s x (taken s m a)).state ≤ s.moment (stepped s m a).state
not_later s laws a x m is = subst (λ (y : Stepped s.State). s.moment y.state ≤ s.moment (stepped s m a).state) (same_step s laws a x m is) (omega arith)

still_later : (s : Server) (laws : KeepsTime s) (a : Arrival) (x m : s.State) → s.moment x ≤ s.moment m → s.moment x ≤ s.moment (stepped s m a).state
still_later s laws a x m early = omega (arith, early, laws.step_moment m a.bytes a.now a.choice)

again_by_test : (s : Server) (laws : KeepsTime s) (a : Arrival) (more : List Arrival) (x m : s.State) → IsAlike s x m → s.moment x ≤ s.moment m
    → ((x m : s.State) → IsAlike s x m → s.moment x ≤ s.moment m → alone s x (alone s m more) ≡ alone s m more)
    → (b : Bool) → s.executes m a.bytes a.now ≡ b
    → (let left : List Arrival = if b then taken s m a ∷ alone s (stepped s m a).state more else alone s (stepped s m a).state more in alone s x left ≡ left)
again_by_test s laws a more x m is early rest true e = kept (s.executes x a.bytes (max (s.moment m) a.now)) (same_execution s laws a x m is ∙ e)
  where
    later : List Arrival
    later = alone s (stepped s m a).state more

    behind : List Arrival
    behind = alone s (stepped s x (taken s m a)).state later

    kept : (b : Bool) → b ≡ true → (if b then taken s x (taken s m a) ∷ behind else behind) ≡ taken s m a ∷ later
    kept true e =
        ap (λ (y : Arrival). y ∷ behind) (same_moment s a x m early)
        ∙ ap (λ (ys : List Arrival). taken s m a ∷ ys)
        (rest (stepped s x (taken s m a)).state (stepped s m a).state (alike_on s laws a x m is) (not_later s laws a x m is))
    kept false e = absurd (true≢false (sym e))
again_by_test s laws a more x m is early rest false e = rest x (stepped s m a).state (alike_idle s laws a x m e is) (still_later s laws a x m early)

all_again : (s : Server) (laws : KeepsTime s) (records : List Arrival) (x m : s.State) → IsAlike s x m → s.moment x ≤ s.moment m → alone s x (alone s m records) ≡ alone s m records
all_again s laws [] x m is early = refl
all_again s laws (a ∷ more) x m is early = again_by_test s laws a more x m is early (λ y n. all_again s laws more y n) (s.executes m a.bytes a.now) refl

pub executing_again : (s : Server) → KeepsTime s → (m : s.State) (records : List Arrival) → alone s m (alone s m records) ≡ alone s m records
executing_again s laws m records = all_again s laws records m m refl (omega arith)

-- and behind a run of a new server it changes nothing

sound_here : (s : Server) (laws : KeepsTime s) (records : List Arrival) → laws.Sound (ran s s.new records)
sound_here s laws records = ran_keeps s laws.Sound laws.step_sound s.new records laws.new_sound

pub stays_settled : (s : Server) → KeepsTime s → StaysSettled s
stays_settled s laws records = laws.settled (ran s s.new records) (sound_here s laws records)

pub executing_alone : (s : Server) → KeepsTime s → ExecutingAlone s
executing_alone s laws before arrivals =
    let m : s.State = ran s s.new before in
    let same = alone_ticked s laws m arrivals in
    record {
      state = sym (laws.settled (ran s m arrivals) (ran_keeps s laws.Sound laws.step_sound m arrivals (sound_here s laws before))) ∙ same.state;
      answered = same.answered;
    }
