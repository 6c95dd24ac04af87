-- One slot's line against the slot, through each event.
use Rattle.std.proofs.Common.{◌≡◌, ◌⊎◌, inl, inr, ℕ, ◌+◌, ◌-◌, ◌%◌, ◌^◌, ◌<◌, ◌≤◌, Bool, true, false, List, [], ◌∷◌, ◌++◌, map, length, Option, Some, None, refl, sym, ◌∙◌, ap, subst, arith}
use Rattle.std.proofs.lemmas.Bool.{eqb-true, eq-eqb, and_parts, and_from, false≢true}
use Rattle.std.specs.Prelude.{◌==◌, ◌&&◌, not, if◌then◌else◌, bytes_eq}
use Rattle.nfs_xdr.specs.{Tables.In, Numbers.next_number}
use Rattle.nfs_slots.specs.{Slot.{SlotState, judge_slot}, declared.slot.Verdict.TheVariants.{Fresh, Again, FalseRetry, Misordered}}
use Rattle.nfs_slots.proofs.TableLemmas.{fresh_number}
use Rattle.nfs_sessions.specs.{declared.id.SessionId.SessionId, Laws.is_id}
use Rattle.nfs_promises.specs.Network.{Endpoint.{Place, Compound, Heading, Answer, Stepped, Server}, ExactlyOnce.{Packet, RanCompound, Line, IsNext, Next}}
use Rattle.nfs_promises.specs.Network.ExactlyOnce.{Instead, IsLast, CountUp, IsPart, top, waiting, same_place, with_line, sending, resending, accepting}
use Rattle.nfs_promises.specs.Network.ExactlyOnce.{executing, result_of}
use Rattle.nfs_promises.proofs.Network.{StepLaws.{Runs, Repeats}, CountedLists.{In-front, In-last, In-push, In-map, In-map-back, append_none, length_append}}
use Rattle.nfs_promises.proofs.Network.CountedLists.{length_push, map_push, map_length, last_one, CountUp-push, CountUp-front, CountUp-last, CountUp-bounds}
use Rattle.nfs_promises.proofs.Network.CountedLists.{CountUp-within, CountUp-top, top_bounds, top_within, top_push, IsPart-in, IsPart-more, IsPart-push}
use Rattle.nfs_exec.proofs.{Runs.SlotNumbers.same_id, Step.Sequencing.kept_when}
use Rattle.nfs_opens.proofs.ShareLemmas.{owner_bytes}

-- the two verdicts

again_when : (fresh apart same : Bool) → (if fresh then Fresh else if apart then Misordered else if same then Again else FalseRetry) ≡ Again → (apart ≡ false) × (same ≡ true)
again_when true apart same e = absurd cc
again_when false true same e = absurd cc
again_when false false true e = (refl, refl)
again_when false false false e = absurd cc

-- the compound that a slot keeps
abbrev pub compound_of : SlotState → Compound
compound_of x = record { number = x.number; uid = x.uid; args = x.args }

pub again_is : (x : SlotState) (c : Compound) → judge_slot x c.number c.uid c.args ≡ Again → (x.used ≡ true) × (compound_of x ≡ c)
again_is x c e =
    let parts = again_when (c.number == next_number x.number) (not (x.used && (c.number == x.number))) ((c.uid == x.uid) && bytes_eq c.args x.args) e in
    let kept = kept_when x.used (c.number == x.number) parts.0 in
    let same = and_parts (c.uid == x.uid) (bytes_eq c.args x.args) parts.1 in
    (kept.0, compound_is (eqb-true _ _ kept.1) (eqb-true _ _ same.0) (owner_bytes c.args x.args same.1))
  where
    compound_is : c.number ≡ x.number → c.uid ≡ x.uid → c.args ≡ x.args → compound_of x ≡ c
    compound_is n u a =
        ap (λ (k : ℕ). let y : Compound = record { number = k; uid = x.uid; args = x.args } in y) (sym n)
        ∙ (ap (λ (k : ℕ). let y : Compound = record { number = c.number; uid = k; args = x.args } in y) (sym u)
        ∙ ap (λ (k : List ℕ). let y : Compound = record { number = c.number; uid = c.uid; args = k } in y) (sym a))

-- places

pub is_id_self : (id : SessionId) → is_id id id ≡ true
is_id_self id = and_from (id.counter == id.counter) (id.client == id.client) (eq-eqb id.counter id.counter refl) (eq-eqb id.client id.client refl)

pub same_place_is : (p q : Place) → same_place p q ≡ true → p ≡ q
same_place_is p q e =
    let parts = and_parts (is_id p.session q.session) (p.slot == q.slot) e in
    let session : p.session ≡ q.session = same_id p.session q.session parts.0 in
    let slot : p.slot ≡ q.slot = eqb-true _ _ parts.1 in
    ap (λ (x : SessionId). let y : Place = record { session = x; slot = p.slot } in y) session ∙ ap (λ (x : ℕ). let y : Place = record { session = q.session; slot = x } in y) slot

pub same_place_self : (p : Place) → same_place p p ≡ true
same_place_self p = and_from (is_id p.session p.session) (p.slot == p.slot) (is_id_self p.session) (eq-eqb p.slot p.slot refl)

chosen : (P : Line → Type 0) (b : Bool) (l old : Line) → (b ≡ true → P l) → (b ≡ false → P old) → P (if b then l else old)
chosen P true l old here other = here refl
chosen P false l old here other = other refl

-- what holds of the new line at its place, and of the old ones elsewhere, holds after
pub updated : (P : Line → Type 0) (lines : Place → Line) (k : Place) (l : Line) (p : Place) → (k ≡ p → P l) → ((k ≡ p → ⊥) → P (lines p)) → P (with_line lines k l p)
updated P lines k l p here elsewhere =
    chosen P (same_place k p) l (lines p)
    (λ e. here (same_place_is k p e))
    (λ e. elsewhere (λ same. false≢true (sym e ∙ (ap (λ (x : Place). same_place x p) same ∙ same_place_self p))))

-- the compounds that were executed
abbrev pub compounds : List RanCompound → List Compound
compounds ds = map (λ (d : RanCompound). d.compound) ds

-- a slot that stands has the number of the last execution, and keeps that one
pub record IsSlot (l : Line) (x : SlotState) : Type 0 where
  pub number : x.number ≡ length l.executed
  pub kept : x.used ≡ true → In (record { compound = compound_of x; result = x.reply }) l.executed

pub data IsAt (l : Line) (found : Option SlotState) : Type 0 where
  Gone : found ≡ None → IsAt l found
  Stands : (x : SlotState) → found ≡ Some x → IsSlot l x → IsAt l found

-- the last compound was accepted; or it waits to be executed; or to be accepted
pub data Course (l : Line) : Type 0 where
  Idle : l.xids ≡ [] → l.accepted ≡ l.executed → l.sent ≡ compounds l.executed → Course l
  Waits : (l.xids ≡ [] → ⊥) → l.accepted ≡ l.executed → (c : Compound) → l.sent ≡ compounds l.executed ++ c ∷ [] → Course l
  Ran : (l.xids ≡ [] → ⊥) → (d : RanCompound) → l.executed ≡ l.accepted ++ d ∷ [] → l.sent ≡ compounds l.executed → Course l

-- each xid of the outstanding compound was sent with it
abbrev pub IsSent : List Packet → Line → Place → Type 0
IsSent packets l p = (x : ℕ) → In x l.xids → (q : Packet) × In q packets × (q.heading.place ≡ p) × IsLast q.heading.compound l.sent × (q.heading.xid ≡ x)

-- what was accepted are results of the executions, in their order, and of lower numbers than the compound that waits
pub record IsTold (l : Line) : Type 0 where
  pub part : IsPart l.accepted l.executed
  pub below : (c : Compound) → (l.xids ≡ [] → ⊥) → IsLast c l.sent → (d : RanCompound) → In d l.accepted → d.compound.number < c.number

-- where none was given up
pub record IsCourse (l : Line) : Type 0 where
  pub counts : CountUp 1 l.sent
  pub course : Course l

pub record IsLine (found : Option SlotState) (packets : List Packet) (l : Line) (p : Place) : Type 0 where
  pub small : top l.sent < 2 ^ 32
  pub positive : (c : Compound) → In c l.sent → 1 ≤ c.number
  pub counts : CountUp 1 (compounds l.executed)
  pub was_sent : (d : RanCompound) → In d l.executed → In d.compound l.sent
  pub slot : IsAt l found
  pub told : IsTold l
  pub course : l.given_up ≡ 0 → IsCourse l
  pub sent : IsSent packets l p

executed_length : (l : Line) (rest : List Compound) → l.sent ≡ compounds l.executed ++ rest → length l.sent ≡ length l.executed + length rest
executed_length l rest e = ap length e ∙ joined (compounds l.executed) rest (map_length (λ (d : RanCompound). d.compound) l.executed)
  where
    joined : (xs ys : List Compound) → length xs ≡ length l.executed → length (xs ++ ys) ≡ length l.executed + length ys
    joined xs ys e = length_append xs ys ∙ ap (λ (n : ℕ). n + length ys) e

-- the executed compounds are the first ones sent
pub executed_first : (l : Line) → Course l → (rest : List Compound) × (l.sent ≡ compounds l.executed ++ rest)
executed_first l (Idle none same all) = ([], all ∙ sym (append_none (compounds l.executed)))
executed_first l (Waits some same c all) = (c ∷ [], all)
executed_first l (Ran some d same all) = ([], all ∙ sym (append_none (compounds l.executed)))

-- the accepted results are the first ones executed
pub accepted_first : (l : Line) → Course l → (rest : List RanCompound) × (l.executed ≡ l.accepted ++ rest)
accepted_first l (Idle none same all) = ([], sym same ∙ sym (append_none l.accepted))
accepted_first l (Waits some same c all) = ([], sym same ∙ sym (append_none l.accepted))
accepted_first l (Ran some d same all) = (d ∷ [], same)

-- a packet more
pub sent_more : (packets : List Packet) (q : Packet) (l : Line) (p : Place) → IsSent packets l p → IsSent (q ∷ packets) l p
sent_more packets q l p sent x i = let found = sent x i in (found.0, inr found.1, found.2, found.3, found.4)

pub line_more : (found : Option SlotState) (packets : List Packet) (q : Packet) (l : Line) (p : Place) → IsLine found packets l p → IsLine found (q ∷ packets) l p
line_more found packets q l p is = record {
  small = is.small;
  positive = is.positive;
  counts = is.counts;
  was_sent = is.was_sent;
  slot = is.slot;
  told = is.told;
  course = is.course;
  sent = sent_more packets q l p is.sent;
}

-- the slot stays, or goes
pub line_leaves : (found later : Option SlotState) (packets : List Packet) (l : Line) (p : Place) → (later ≡ found) ⊎ (later ≡ None) → IsLine found packets l p → IsLine later packets l p
line_leaves found later packets l p (inl same) is = subst (λ (x : Option SlotState). IsLine x packets l p) (sym same) is
line_leaves found later packets l p (inr gone) is = record {
  small = is.small;
  positive = is.positive;
  counts = is.counts;
  was_sent = is.was_sent;
  slot = Gone gone;
  told = is.told;
  course = is.course;
  sent = is.sent;
}

-- the slot's part speaks of what was executed alone
slot_alike : (l m : Line) (found : Option SlotState) → l.executed ≡ m.executed → IsAt l found → IsAt m found
slot_alike l m found same (Gone gone) = Gone gone
slot_alike l m found same (Stands x e is) = Stands x e (record {
  number = is.number ∙ ap length same;
  kept = λ used. subst (λ (ds : List RanCompound). In (record { compound = compound_of x; result = x.reply }) ds) same (is.kept used);
})

-- a compound that was executed was sent
ran_was_sent : (l : Line) (c : Compound) → ((d : RanCompound) → In d l.executed → In d.compound l.sent) → In c (compounds l.executed) → In c l.sent
ran_was_sent l c was_sent i = go l.executed was_sent i
  where
    go : (ds : List RanCompound) → ((d : RanCompound) → In d ds → In d.compound l.sent) → In c (compounds ds) → In c l.sent
    go [] was_sent i = absurd i
    go (d ∷ ds) was_sent (inl e) = subst (λ (x : Compound). In x l.sent) (sym e) (was_sent d (inl refl))
    go (d ∷ ds) was_sent (inr i) = go ds (λ x j. was_sent x (inr j)) i

-- a caller sends its next compound
sending_course : (l : Line) (h : Heading) → l.xids ≡ [] → Course l → Course (sending l h)
sending_course l h idle (Idle none same all) = Waits (λ e. cc) same h.compound (ap (λ (cs : List Compound). cs ++ h.compound ∷ []) all)
sending_course l h idle (Waits some same c all) = absurd (some idle)
sending_course l h idle (Ran some d same all) = absurd (some idle)

-- what it may send has a higher number than what was accepted
next_above : (l : Line) (c : Compound) → IsTold l → ((d : RanCompound) → In d l.executed → In d.compound l.sent) → IsNext l c
    → (d : RanCompound) → In d l.accepted → d.compound.number < c.number
next_above l c is was_sent (Next number) d i =
    let bound = top_bounds l.sent d.compound (was_sent d (IsPart-in d l.accepted l.executed is.part i)) in
    omega (arith, bound, number)
next_above l c is was_sent (Instead low high above) d i = above d i

next_positive : (l : Line) (c : Compound) → IsNext l c → 1 ≤ c.number
next_positive l c (Next number) = omega (arith, number)
next_positive l c (Instead low high above) = low

none_waits : (xids : List ℕ) (n : ℕ) → n + waiting xids ≡ 0 → (n ≡ 0) × (xids ≡ [])
none_waits [] n e = (omega (arith, e), refl)
none_waits (x ∷ xids) n e = absurd (omega (arith, e))

-- where none waits and none was given up, no number is to be used again
used_up : (l : Line) (c : Compound) → l.xids ≡ [] → 1 ≤ c.number → c.number ≤ top l.sent → ((d : RanCompound) → In d l.accepted → d.compound.number < c.number) → Course l → ⊥
used_up l c idle low high above (Waits some same d all) = some idle
used_up l c idle low high above (Ran some d same all) = some idle
used_up l c idle low high above (Idle none same all) =
    let within = top_within l.sent (c.number - 1) (λ d i. (
    let (x, there, is) = In-map-back (λ (y : RanCompound). y.compound) d l.executed (subst (In d) all i) in
    let less = above x (subst (In x) (sym same) there) in
    let number : x.compound.number ≡ d.number = ap (λ (y : Compound). y.number) is in
    omega (arith, less, number))) in
    omega (arith, within, low, high)

sent_in_course : (l : Line) (h : Heading) → IsNext l h.compound → (l.given_up ≡ 0 → IsCourse l) → (sending l h).given_up ≡ 0 → IsCourse (sending l h)
sent_in_course l h (Next number) course none =
    let (before, idle) = none_waits l.xids l.given_up none in
    let is = course before in
    let highest = CountUp-top l.sent is.counts in
    record { counts = CountUp-push 1 l.sent h.compound is.counts (omega (arith, number, highest)); course = sending_course l h idle is.course }
sent_in_course l h (Instead low high above) course none =
    let (before, idle) = none_waits l.xids l.given_up none in
    absurd (used_up l h.compound idle low high above (course before).course)

pub line_sends : (found : Option SlotState) (packets : List Packet) (q : Packet) (l : Line) → IsNext l q.heading.compound → q.heading.compound.number < 2 ^ 32
    → IsLine found packets l q.heading.place → IsLine found (q ∷ packets) (sending l q.heading) q.heading.place
line_sends found packets q l next small is =
    let c = q.heading.compound in
    record {
      small = (let before = is.small in omega (arith, top_push l.sent c, small, before));
      positive = λ d i. elim (In-push d l.sent c i) [
        | inl old ↦ is.positive d old
        | inr same ↦ subst (λ (x : Compound). 1 ≤ x.number) (sym same) (next_positive l c next)
      ];
      counts = is.counts;
      was_sent = λ d i. In-front d.compound l.sent (c ∷ []) (is.was_sent d i);
      slot = slot_alike l (sending l q.heading) found refl is.slot;
      told = record {
        part = is.told.part;
        below = λ d some last x j.
            let one : d ≡ c = last_one last.0 l.sent d c (sym last.1) in
            subst (λ (y : Compound). x.compound.number < y.number) (sym one) (next_above l c is.told is.was_sent next x j);
      };
      course = sent_in_course l q.heading next is.course;
      sent = λ x i. elim i [ inl e ↦ (q, inl refl, refl, (l.sent, refl), sym e) | inr none ↦ absurd none ];
    }

-- it sends the outstanding one again
resending_course : (l : Line) (h : Heading) → (l.xids ≡ [] → ⊥) → Course l → Course (resending l h)
resending_course l h some (Idle none same all) = absurd (some none)
resending_course l h some (Waits _ same c all) = Waits (λ e. cc) same c all
resending_course l h some (Ran _ d same all) = Ran (λ e. cc) d same all

pub line_resends : (found : Option SlotState) (packets : List Packet) (q : Packet) (l : Line) → (l.xids ≡ [] → ⊥) → IsLast q.heading.compound l.sent
    → IsLine found packets l q.heading.place → IsLine found (q ∷ packets) (resending l q.heading) q.heading.place
line_resends found packets q l some last is = record {
  small = is.small;
  positive = is.positive;
  counts = is.counts;
  was_sent = is.was_sent;
  slot = slot_alike l (resending l q.heading) found refl is.slot;
  told = record { part = is.told.part; below = λ c waits. is.told.below c some };
  course = λ none. (let before = is.course none in record { counts = before.counts; course = resending_course l q.heading some before.course });
  sent = λ x i. elim i [ inl e ↦ (q, inl refl, refl, last, sym e) | inr old ↦ sent_more packets q l q.heading.place is.sent x old ];
}

-- the server executes on the slot: only the outstanding compound, and only once
next_is : (n number last : ℕ) → last < 2 ^ 32 → n ≤ last → 1 ≤ number → number ≤ last → number ≡ (n + 1) % 2 ^ 32 → number ≡ n + 1
next_is n number last small within positive bound e = omega (arith, small, within, positive, bound, e)

executing_course : (l : Line) (c : Compound) (answer : Option Answer) → CountUp 1 l.sent → In c l.sent → c.number ≡ length l.executed + 1 → Course l → Course (executing l c answer)
executing_course l c answer counts i next (Idle none same all) =
    let bound = CountUp-bounds 1 l.sent c counts i in
    absurd (omega (arith, next, bound.1, executed_length l [] (all ∙ sym (append_none (compounds l.executed)))))
executing_course l c answer counts i next (Waits some same d all) =
    let done : RanCompound = record { compound = c; result = result_of answer } in
    elim (In-push c (compounds l.executed) d (subst (In c) all i)) [
      | inl old ↦ (
          let bound = CountUp-bounds 1 (compounds l.executed) c (CountUp-front 1 (compounds l.executed) (d ∷ []) (subst (CountUp 1) all counts)) old in
          absurd (omega (arith, next, bound.1, map_length (λ (d : RanCompound). d.compound) l.executed)))
      | inr last ↦ Ran some done (ap (λ (ds : List RanCompound). ds ++ done ∷ []) (sym same))
          (all ∙ (ap (λ (x : Compound). compounds l.executed ++ x ∷ []) (sym last) ∙ sym (map_push (λ (d : RanCompound). d.compound) l.executed done)))
    ]
executing_course l c answer counts i next (Ran some d same all) =
    let bound = CountUp-bounds 1 l.sent c counts i in
    absurd (omega (arith, next, bound.1, executed_length l [] (all ∙ sym (append_none (compounds l.executed)))))

-- there are no more executions than the highest number
executed_within : (l : Line) → CountUp 1 (compounds l.executed) → ((d : RanCompound) → In d l.executed → In d.compound l.sent) → length l.executed ≤ top l.sent
executed_within l counts was_sent =
    let within = CountUp-within 1 (compounds l.executed) (top l.sent) counts (omega arith) (λ c i. top_bounds l.sent c (ran_was_sent l c was_sent i)) in
    omega (arith, within, map_length (λ (d : RanCompound). d.compound) l.executed)

slot_number : (l : Line) (found : Option SlotState) (x : SlotState) → found ≡ Some x → IsAt l found → x.number ≡ length l.executed
slot_number l found x e (Gone gone) = absurd cc
slot_number l found x e (Stands y e' is) = let same : y ≡ x = cc in ap (λ (z : SlotState). z.number) (sym same) ∙ is.number

slot_kept : (l : Line) (found : Option SlotState) (x : SlotState) → found ≡ Some x → x.used ≡ true → IsAt l found → In (record { compound = compound_of x; result = x.reply }) l.executed
slot_kept l found x e used (Gone gone) = absurd cc
slot_kept l found x e used (Stands y e' is) =
    let same : y ≡ x = cc in
    subst (λ (z : SlotState). In (record { compound = compound_of z; result = z.reply }) l.executed) same (is.kept (ap (λ (z : SlotState). z.used) same ∙ used))

pub line_runs : (s : Server) (m : s.State) (step : Stepped s.State) (packets : List Packet) (l : Line) (h : Heading) → In h.compound l.sent
    → Runs s m h step → IsLine (s.slot_at m h.place) packets l h.place → IsLine (s.slot_at step.state h.place) packets (executing l h.compound step.answer) h.place
line_runs s m step packets l h i runs is =
    let c = h.compound in
    let count : runs.slot.number ≡ length l.executed = slot_number l (s.slot_at m h.place) runs.slot runs.stands is.slot in
    let fresh : c.number ≡ (length l.executed + 1) % 2 ^ 32 = fresh_number runs.slot c.number c.uid c.args runs.fresh ∙ ap next_number count in
    let next : c.number ≡ length l.executed + 1 =
    next_is (length l.executed) c.number (top l.sent) is.small (executed_within l is.counts is.was_sent) (is.positive c i) (top_bounds l.sent c i) fresh in
    let done : RanCompound = record { compound = c; result = result_of step.answer } in
    let told : result_of step.answer ≡ runs.result = ap result_of runs.answer in
    record {
      small = is.small;
      positive = is.positive;
      counts = subst (CountUp 1) (sym (map_push (λ (d : RanCompound). d.compound) l.executed done))
          (CountUp-push 1 (compounds l.executed) c is.counts (omega (arith, next, map_length (λ (d : RanCompound). d.compound) l.executed)));
      was_sent = λ d j. elim (In-push d l.executed done j) [
        | inl old ↦ is.was_sent d old
        | inr same ↦ subst (λ (x : RanCompound). In x.compound l.sent) (sym same) i
      ];
      told = record { part = IsPart-more l.accepted l.executed done is.told.part; below = is.told.below };
      slot = Stands _ runs.keeps (record {
        number = next ∙ sym (length_push l.executed done);
        kept = λ used. subst (λ (r : List ℕ). In (record { compound = c; result = r }) (l.executed ++ done ∷ [])) told (In-last l.executed done);
      });
      course = λ none. (let before = is.course none in record { counts = before.counts; course = executing_course l c step.answer before.counts i next before.course });
      sent = is.sent;
    }

-- the caller accepts the result of an execution of the outstanding compound
accepting_course : (l : Line) (done : RanCompound) → CountUp 1 l.sent → (l.xids ≡ [] → ⊥) → IsLast done.compound l.sent → In done l.executed → Course l → Course (accepting l done)
accepting_course l done counts some last i (Idle none same all) = absurd (some none)
accepting_course l done counts some last i (Waits _ same c all) =
    let here : In done.compound (compounds l.executed) = In-map (λ (d : RanCompound). d.compound) done l.executed i in
    let before = subst (CountUp 1) all counts in
    let bound = CountUp-bounds 1 (compounds l.executed) done.compound (CountUp-front 1 (compounds l.executed) (c ∷ []) before) here in
    let one : c ≡ done.compound = last_one (compounds l.executed) last.0 c done.compound (sym all ∙ last.1) in
    let number : done.compound.number ≡ 1 + length (compounds l.executed) = ap (λ (x : Compound). x.number) (sym one) ∙ CountUp-last 1 (compounds l.executed) c before in
    absurd (omega (arith, bound.1, number))
accepting_course l done counts some last i (Ran _ d same all) =
    let front : l.sent ≡ compounds l.accepted ++ d.compound ∷ [] = all ∙ (ap compounds same ∙ map_push (λ (d : RanCompound). d.compound) l.accepted d) in
    let before = subst (CountUp 1) front counts in
    elim (In-push done l.accepted d (subst (In done) same i)) [
      | inl old ↦ (
          let here : In done.compound (compounds l.accepted) = In-map (λ (d : RanCompound). d.compound) done l.accepted old in
          let bound = CountUp-bounds 1 (compounds l.accepted) done.compound (CountUp-front 1 (compounds l.accepted) (d.compound ∷ []) before) here in
          let one : d.compound ≡ done.compound = last_one (compounds l.accepted) last.0 d.compound done.compound (sym front ∙ last.1) in
          let number : done.compound.number ≡ 1 + length (compounds l.accepted) = ap (λ (x : Compound). x.number) (sym one) ∙ CountUp-last 1 (compounds l.accepted) d.compound before in
          absurd (omega (arith, bound.1, number)))
      | inr e ↦ Idle refl (ap (λ (x : RanCompound). l.accepted ++ x ∷ []) e ∙ sym same) all
    ]

pub line_accepts : (found : Option SlotState) (packets : List Packet) (l : Line) (p : Place) (done : RanCompound) → (l.xids ≡ [] → ⊥) → IsLast done.compound l.sent → In done l.executed
    → IsLine found packets l p → IsLine found packets (accepting l done) p
line_accepts found packets l p done some last i is = record {
  small = is.small;
  positive = is.positive;
  counts = is.counts;
  was_sent = is.was_sent;
  slot = slot_alike l (accepting l done) found refl is.slot;
  told = record {
    part = IsPart-push 1 l.accepted l.executed done is.counts is.told.part i
        (is.told.below done.compound some last);
    below = λ c waits. absurd (waits refl);
  };
  course = λ none. (let before = is.course none in record { counts = before.counts; course = accepting_course l done before.counts some last i before.course });
  sent = λ x none. absurd none;
}

-- a repeated answer is the result of an execution of the compound
pub kept_is_executed : (s : Server) (m : s.State) (packets : List Packet) (l : Line) (h : Heading) (result : List ℕ) → Repeats s m h result → IsLine (s.slot_at m h.place) packets l h.place
    → In (record { compound = h.compound; result = result }) l.executed
kept_is_executed s m packets l h result again is =
    let kept = again_is again.slot h.compound again.again in
    let i = slot_kept l (s.slot_at m h.place) again.slot again.stands kept.0 is.slot in
    subst (λ (r : List ℕ). In (record { compound = h.compound; result = r }) l.executed) (sym again.kept) (subst (λ (c : Compound). In (record { compound = c; result = again.slot.reply }) l.executed) kept.1 i)
