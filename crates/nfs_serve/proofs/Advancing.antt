-- Acts one after the other, and what each call of a port comes to.
use Rattle.std.proofs.Common.{◌≡◌, ℕ, not, ◌&&◌, ◌||◌, ◌<◌, ◌≤◌, Bool, List, [], ◌∷◌, ◌++◌, length, filter, arith, flat_map, Option, Some, None, refl, sym, ap, subst, ◌∙◌}
use Rattle.std.proofs.{Common.{append_assoc, append-nil, true, false}, lemmas.List.Concat.flat_map-append, lemmas.List.Elements.filter-append}
use Rattle.nfs_serve.specs.Step.{ServerState}
use Rattle.nfs_serve.specs.Desk.{Desk, HasMore, Unready, MayClose, most_read, closed, leaving, Act, WriteBlocked, Closed, Failed, Stepped, Came, ReadBlocked, Ended, IsHungry, Does, Goes, IsStuck, Reads, ReadsOnce, is_of_read}
use Rattle.nfs_serve.specs.{Told.{Told, Logs}, Deeds.{Deed, counted, shown, asked}, declared.lane.Budget.Budget}
use Rattle.nfs_serve.specs.Lane.{Stand, is_first, Advances, Quiet, StepsOne}

pub Logs-nil : {A : Type 0} (a : Option (List A)) → Logs a a []
Logs-nil None = tt
Logs-nil (Some x) = sym (append-nil x)

pub Logs-trans : {A : Type 0} (a b c : Option (List A)) (bs cs : List A) → Logs a b bs → Logs b c cs → Logs a c (bs ++ cs)
Logs-trans None b c bs cs p q = tt
Logs-trans (Some x) None c bs cs p q = absurd p
Logs-trans (Some x) (Some y) None bs cs p q = absurd q
Logs-trans (Some x) (Some y) (Some z) bs cs p q = q ∙ ap (λ l. l ++ cs) p ∙ append_assoc x bs cs

-- whether it was heard, once it was asked whether it is heard for the first time
pub heard_or : (h x : Bool) → (h || (not h && x)) ≡ (h || x)
heard_or true x = refl
heard_or false x = refl

pub Goes-append : (port : ℕ) (s u t : ServerState) (d c e : Desk) (xs ys : List Act) → Goes port s d xs u c → Goes port u c ys t e → Goes port s d (xs ++ ys) t e
Goes-append port s u t d c e [] ys p q = rw (sym p.0) (rw (sym p.1) q)
Goes-append port s u t d c e (x ∷ xs) ys p q =
    let (v, b, does, rest) = p in
    (v, b, does, Goes-append port v u t b c e xs ys rest q)

-- acts that read nothing, one after the other
pub none_read : (xs ys : List Act) → filter is_of_read xs ≡ [] → filter is_of_read ys ≡ [] → filter is_of_read (xs ++ ys) ≡ []
none_read xs ys p q = filter-append is_of_read xs ys ∙ ap (λ l. l ++ filter is_of_read ys) p ∙ q

-- no read, or those of a few acts behind acts that read nothing, and before others
pub reads_none : (xs : List Act) → filter is_of_read xs ≡ [] → ReadsOnce xs
reads_none xs none = subst (λ l. length l ≤ 1) (sym none) (omega arith)

pub reads_last : (xs mid : List Act) → filter is_of_read xs ≡ [] → ReadsOnce mid → ReadsOnce (xs ++ mid)
reads_last xs mid none few = subst (λ l. length l ≤ 1) (sym (filter-append is_of_read xs mid ∙ ap (λ l. l ++ filter is_of_read mid) none)) few

pub reads_between : (xs mid ys : List Act) → filter is_of_read xs ≡ [] → filter is_of_read ys ≡ [] → ReadsOnce mid → ReadsOnce ((xs ++ mid) ++ ys)
reads_between xs mid ys none later few =
    subst (λ l. length l ≤ 1)
    (sym (filter-append is_of_read (xs ++ mid) ys ∙ ap (λ l. filter is_of_read (xs ++ mid) ++ l) later ∙ append-nil (filter is_of_read (xs ++ mid))))
    (reads_last xs mid none few)

-- a stand by its parts
abbrev pub stands : ServerState → Desk → Option (List Deed) → Option (List Told) → Stand
stands s d l c = record { state = s; desk = d; log = l; told = c }

pub stays : (port : ℕ) (s : ServerState) (d : Desk) (l : Option (List Deed)) (c : Option (List Told)) → Advances port [] (stands s d l c) (stands s d l c)
stays port s d l c = record { goes = (refl, refl); logs = Logs-nil l; clock = Logs-nil c }

module _ {port : ℕ} {xs : List Act} {s u : ServerState} {d c : Desk} {l0 l1 : Option (List Deed)} {c0 c1 : Option (List Told)}
    (first : Advances port xs (stands s d l0 c0) (stands u c l1 c1)) where
  -- further acts
  pub goes_on : (ys : List Act) (t : ServerState) (e : Desk) (l2 : Option (List Deed)) (c2 : Option (List Told))
      → Advances port ys (stands u c l1 c1) (stands t e l2 c2) → Advances port (xs ++ ys) (stands s d l0 c0) (stands t e l2 c2)
  goes_on ys t e l2 c2 then_ = record {
    goes = Goes-append port s u t d c e xs ys first.goes then_.goes;
    logs = subst (Logs l0 l2) (sym (flat_map-append (shown port) xs ys)) (Logs-trans l0 l1 l2 _ _ first.logs then_.logs);
    clock = subst (Logs c0 c2) (sym (flat_map-append asked xs ys)) (Logs-trans c0 c1 c2 _ _ first.clock then_.clock);
  }

-- one act that a port shows
pub one_shown : (port : ℕ) (a : Act) (s : ServerState) (d e : Desk) (l0 l1 : Option (List Deed)) (c : Option (List Told))
    → shown port a ≡ record { port = port; act = a } ∷ [] → asked a ≡ [] → Does port s d a s e
    → Logs l0 l1 (record { port = port; act = a } ∷ []) → Advances port (a ∷ []) (stands s d l0 c) (stands s e l1 c)
one_shown port a s d e l0 l1 c is none does logs = record {
  goes = (s, e, does, (refl, refl));
  logs = subst (Logs l0 l1) (sym (ap (λ l. l ++ []) is)) logs;
  clock = subst (Logs c c) (sym (ap (λ l. l ++ []) none)) (Logs-nil c);
}

pub quiet_act : (port : ℕ) (a : Act) (d e : Desk) (l0 l1 : Option (List Deed))
    → shown port a ≡ record { port = port; act = a } ∷ [] → asked a ≡ [] → filter is_of_read (a ∷ []) ≡ [] → ((s : ServerState) → Does port s d a s e)
    → Logs l0 l1 (record { port = port; act = a } ∷ []) → Quiet port (a ∷ []) d e l0 l1
quiet_act port a d e l0 l1 is none unread does logs = record {
  goes = λ s. (s, e, does s, (refl, refl));
  logs = subst (Logs l0 l1) (sym (ap (λ l. l ++ []) is)) logs;
  unasked = ap (λ l. l ++ []) none;
  no_reads = unread;
}

pub quiet_on : (port : ℕ) (xs ys : List Act) (d c e : Desk) (l0 l1 l2 : Option (List Deed))
    → Quiet port xs d c l0 l1 → Quiet port ys c e l1 l2 → Quiet port (xs ++ ys) d e l0 l2
quiet_on port xs ys d c e l0 l1 l2 p q = record {
  goes = λ s. Goes-append port s s s d c e xs ys (p.goes s) (q.goes s);
  logs = subst (Logs l0 l2) (sym (flat_map-append (shown port) xs ys)) (Logs-trans l0 l1 l2 _ _ p.logs q.logs);
  unasked = flat_map-append asked xs ys ∙ ap (λ l. l ++ flat_map asked ys) p.unasked ∙ q.unasked;
  no_reads = none_read xs ys p.no_reads q.no_reads;
}

-- quiet acts as acts
pub quiet_advances : (port : ℕ) (acts : List Act) (s : ServerState) (d e : Desk) (l0 l1 : Option (List Deed)) (c : Option (List Told))
    → Quiet port acts d e l0 l1 → Advances port acts (stands s d l0 c) (stands s e l1 c)
quiet_advances port acts s d e l0 l1 c q = record {
  goes = q.goes s;
  logs = q.logs;
  clock = subst (Logs c c) (sym q.unasked) (Logs-nil c);
}

-- a part that was stepped
pub stepped : (port : ℕ) (a b : Stand) (before left : Budget) → (one : StepsOne port a b before left)
    → Advances port (Stepped one.moment one.part left.late (is_first a.desk.heard one.out) ∷ []) a b
stepped port a b before left one = record {
  goes = (
    b.state,
    b.desk,
    (
      b.desk.stream,
      b.desk.unread,
      one.out,
      one.steps,
      refl,
      alike one.live one.gone one.heard one.owed,
    ),
    (refl, refl),
  );
  logs = subst (Logs a.log b.log) (sym (append-nil (counted port (is_first a.desk.heard one.out)))) one.logs;
  clock = one.clock;
}
  where
    alike : {live gone heard : Bool} {owed : List ℕ} → b.desk.live ≡ live → b.desk.gone ≡ gone → b.desk.heard ≡ heard → b.desk.owed ≡ owed
        → b.desk ≡ record { live = live; gone = gone; heard = heard; stream = b.desk.stream; unread = b.desk.unread; owed = owed }
    alike p g q o = rw (← p, ← g, ← q, ← o) refl

pub stuck_behind : (xs ys : List Act) (d : Desk) → IsStuck ys d → IsStuck (xs ++ ys) d
stuck_behind xs ys d h =
    let (front, is, owed) = h in
    (xs ++ front, ap (λ l. xs ++ l) is ∙ sym (append_assoc xs front (WriteBlocked ∷ [])), owed)

-- what a read comes to
pub read_blocked : (port : ℕ) (s : ServerState) (d : Desk) (u : List ℕ) (l0 l1 : Option (List Deed)) (c : Option (List Told)) → IsHungry d → u ≡ []
    → Logs l0 l1 (record { port = port; act = ReadBlocked } ∷ [])
    → Advances port (ReadBlocked ∷ []) (stands s d l0 c) (stands s (record { live = d.live; gone = d.gone; heard = d.heard; stream = d.stream; unread = u; owed = d.owed }) l1 c)
read_blocked port s d u l0 l1 c hungry none logs = one_shown port ReadBlocked s d _ l0 l1 c refl refl
    (refl, hungry, ap (λ v. record { live = d.live; gone = d.gone; heard = d.heard; stream = d.stream; unread = v; owed = d.owed }) (none ∙ sym hungry.unread)) logs

pub read_came : (port : ℕ) (s : ServerState) (d : Desk) (u : List ℕ) (l0 l1 : Option (List Deed)) (c : Option (List Told)) → IsHungry d
    → 0 < length u → length u ≤ most_read → Logs l0 l1 (record { port = port; act = Came u } ∷ [])
    → Advances port (Came u ∷ []) (stands s d l0 c) (stands s (record { live = d.live; gone = d.gone; heard = d.heard; stream = d.stream; unread = u; owed = d.owed }) l1 c)
read_came port s d u l0 l1 c hungry some few logs = one_shown port (Came u) s d _ l0 l1 c refl refl (refl, hungry, some, few, refl) logs

pub read_ended : (port : ℕ) (s : ServerState) (d : Desk) (l0 l1 : Option (List Deed)) (c : Option (List Told)) → IsHungry d
    → Logs l0 l1 (record { port = port; act = Ended } ∷ []) → Advances port (Ended ∷ []) (stands s d l0 c) (stands s leaving l1 c)
read_ended port s d l0 l1 c hungry logs = one_shown port Ended s d leaving l0 l1 c refl refl (refl, hungry, refl) logs

pub read_failed : (port : ℕ) (s : ServerState) (d : Desk) (l0 l1 : Option (List Deed)) (c : Option (List Told)) → d.live ≡ true
    → Logs l0 l1 (record { port = port; act = Failed } ∷ []) → Advances port (Failed ∷ []) (stands s d l0 c) (stands s leaving l1 c)
read_failed port s d l0 l1 c live logs = one_shown port Failed s d leaving l0 l1 c refl refl (refl, live, refl) logs

-- a connection that may be closed is closed
pub closes : (port : ℕ) (s : ServerState) (d : Desk) (l0 l1 : Option (List Deed)) (c : Option (List Told)) → MayClose d
    → Logs l0 l1 (record { port = port; act = Closed } ∷ []) → Advances port (Closed ∷ []) (stands s d l0 c) (stands s closed l1 c)
closes port s d l0 l1 c may logs = one_shown port Closed s d closed l0 l1 c refl refl (refl, may, refl) logs

pub reads_closed : (xs : List Act) → ReadsOnce xs → ReadsOnce (xs ++ Closed ∷ [])
reads_closed xs once = subst (λ l. length l ≤ 1) (sym (filter-append is_of_read xs (Closed ∷ []) ∙ append-nil (filter is_of_read xs))) once

-- a port that is passed over
pub passed_over : (port : ℕ) (s : ServerState) (d : Desk) (l0 l1 : Option (List Deed)) (c : Option (List Told)) → (HasMore d → ⊥)
    → Logs l0 l1 (record { port = port; act = Unready } ∷ []) → Advances port (Unready ∷ []) (stands s d l0 c) (stands s d l1 c)
passed_over port s d l0 l1 c none logs = one_shown port Unready s d d l0 l1 c refl refl (refl, none, refl) logs

pub reads_came : (xs ys : List Act) (u : List ℕ) → Reads ((xs ++ Came u ∷ []) ++ ys)
reads_came xs ys u = (xs, Came u, ys, append_assoc xs (Came u ∷ []) ys, tt)

pub reads_blocked : (xs : List Act) → Reads (xs ++ ReadBlocked ∷ [])
reads_blocked xs = (xs, ReadBlocked, [], refl, tt)
