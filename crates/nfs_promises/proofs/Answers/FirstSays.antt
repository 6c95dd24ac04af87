-- What stands first in a compound is refused with a reason, and what it answers is so.
use Rattle.std.proofs.Common.{◌≡◌, ◌≢◌, ◌⊎◌, ℕ, ◌+◌, ◌≤◌, Bool, true, false, cond, not, List, [], ◌∷◌, ◌++◌, length, Option, Some, None, refl, sym, ◌∙◌, ap}
use Rattle.std.proofs.{Common.{subst, arith, inl, inr}, lemmas.{List.{length-replicate, Sums.count_by-le-length}, Option.same_Some, Slice.Eq.bytes_eq-Decides}}
use Rattle.std.proofs.lemmas.Bool.{and_parts, ne_eqb, eq-eqb, eqb-true, false≢true, leb-true, ltb-true, ltb-false, not-true, not-false, or_parts, and_from}
use Rattle.std.specs.{Prelude.{◌==◌, ◌||◌, ◌&&◌, ◌%◌, ◌^◌, bit_and, bytes_eq, nat_le, nat_lt, filter, count_by, is_some, option_map, option_and_then, find, slice_get, ◌-◌, Ok, ok_or}, List.list_any, Option.option_map_or}
use Rattle.nfs_xdr.specs.{Caller.Caller, Numbers.next_number, Spelling.number, Status.status_number, StatusCodec.status, Tables.In, declared.status.Status.Status}
use Rattle.nfs_xdr.specs.declared.status.Status.TheVariants as S
use Rattle.nfs_xdr.proofs.{Lists.{find_in, in_any, in_filter, last_in, none_found, none_any, stays_in}, StatusLaws.is_status}
use Rattle.nfs_compound.specs.{Request.{Request, item_number}, OpNum.op_number, declared.channel_attrs.ChannelAttrs.ChannelAttrs}
use Rattle.nfs_compound.specs.{declared.op.{Op.Op, Item.Item, Item.TheVariants.{Operation, Fault}}, declared.session_args.{CreateSession.CreateSession, ExchangeId.ExchangeId, Sequence.Sequence}}
use Rattle.nfs_compound.specs.declared.op_num.OpNum.TheVariants as Num
use Rattle.nfs_results.specs.Results.{spell_compound_head}
use Rattle.nfs_results.specs.declared.res.Res.TheVariants as Res
use Rattle.nfs_clients.specs.{declared.created.CreateResult.{CreateResult, TheVariants.{Done, Refused}}, CreateSession.{is_other_confirmed_of, leaving}, ExchangeId.has_room}
use Rattle.nfs_clients.specs.Roster.{ClientRecord, client_at, confirmed_of, is_confirmed_of, is_unconfirmed_of, last_counter as last_client, without}
use Rattle.nfs_lease.specs.Renewals.{without_lease}
use Rattle.nfs_clients.proofs.Terms.{new_client}
use Rattle.nfs_slots.specs.{Slot.{SlotState, judge_slot}}
use Rattle.nfs_slots.specs.declared.slot.Verdict.TheVariants as V
use Rattle.nfs_sessions.specs.{Channel.is_too_small, Id.id_of, Sessions.{Session, is_session, last_counter, new_session, outlasts, session_at, without_client, with_session, destroyed}, Channel.granted}
use Rattle.nfs_opens.specs.{Steps.{◌>>◌, in_order, require}, declared.records.OpenState.OpenState}
use Rattle.nfs_names.specs.{Ending.has_open, Outcome.is_ok}
use Rattle.nfs_names.proofs.Faulted.{status_of_refusal}
use Rattle.nfs_exec.specs.Step.{Machine.{Machine, MachineOutcome, or_refused, or_with_delay, with_refusal, with_result}, Run.is_here, Destroy.{destroy_client, destroy_session}}
use Rattle.nfs_exec.specs.Step.Compound.{Answered, bare, by_first, carried_out, compound, in_session}
use Rattle.nfs_exec.specs.Step.CreateSession.{create_session, kept_again, kept_refusal, made}
use Rattle.nfs_exec.specs.Step.{ExchangeId.{exchange_id, exchanged, granted as exchange_granted, is_update, standing}}
use Rattle.nfs_exec.specs.Step.Sequence.{Sequenced, Refuses, Repeats, Runs, by_slot, compared, fresh_checks, sequence_ok, sequenced, slot_checks}
use Rattle.nfs_serve.specs.Step.{ServerState}
use Rattle.nfs_promises.specs.{Runs.Points.{state_after, reached, before}, Calls.OwnIds.{answered, text_of}, Answers.Reasons.stands_alone}
use Rattle.nfs_promises.specs.Answers.FirstSays.{HasId, InSession, Updates, IsOwners, ByClient, IsSmall, FirstReason, IsKept, BySlot, ByRecord, ByRefusal, FirstSays, No, Unread, Again, Yes, EachFirstSaysSo}
use Rattle.nfs_promises.proofs.{Answers.Blaming.{ends_checks, ends_so, ends_then, ends_with, Ends, held_blames, there_blames}, Runs.Points.{left, next_is}}
use Rattle.nfs_promises.proofs.Answers.InvalidReasons.{ok_some}

pub has_id : (s : Session) (id : List ℕ) → is_session (id_of id) s ≡ true → HasId s id
has_id s id is = (let p = and_parts (s.counter == (id_of id).counter) (s.client == (id_of id).client) is in record { client = eqb-true _ _ p.1; counter = eqb-true _ _ p.0 })

is_id : (s : Session) (id : List ℕ) → HasId s id → is_session (id_of id) s ≡ true
is_id s id has = rw (eq-eqb s.counter (id_of id).counter has.counter, eq-eqb s.client (id_of id).client has.client) refl

none_of : {X : Type 0} (p : X → Bool) (xs : List X) (x : X) → list_any p xs ≡ false → In x xs → p x ≡ true → ⊥
none_of p xs x none there is = false≢true (sym (none_any p xs x none there) ∙ is)

-- one status is told by a text
pub one_status : (f g : Status) (a b : List ℕ) → number (status_number f) ++ a ≡ number (status_number g) ++ b → f ≡ g
one_status f g a b same = ap (λ (p : Status × List ℕ). p.0) (same_Some (f, a) (g, b) (sym (is_status.again f a tt) ∙ (ap status.read same ∙ is_status.again g b tt)))

module _ (m : Machine) (r : Request) (who : Caller) (size now : ℕ) (choice : Option ℕ) where
  abbrev refused : Bool
  refused = is_here choice

  abbrev Reason : Item → Status → Type 0
  Reason i f = FirstReason m r who size refused i f

  abbrev Says : Item → MachineOutcome → Type 0
  Says i o = FirstSays m r who size refused i (spell_compound_head o.status r.tag 1 ++ o.result) o.machine

  head_is : (i : Item) (f : Status) (o : MachineOutcome) → o.status ≡ f → spell_compound_head o.status r.tag 1 ++ o.result ≡ spell_compound_head f r.tag 1 ++ o.result
  head_is i f o same = ap (λ (g : Status). spell_compound_head g r.tag 1 ++ o.result) same

  no : (i : Item) (f : Status) → Reason i f → Says i (with_refusal m (item_number i) f)
  no i f why = No f (head_is i f (with_refusal m (item_number i) f) (status_of_refusal (item_number i) f)) why

  -- SEQUENCE

  module _ (a : Sequence) where
    abbrev si : Item
    si = Operation (Op.Sequence a)

    abbrev RS : Status → Type 0
    RS = Reason si

    -- what it comes to is so
    abbrev IsSo : Sequenced → Type 0
    IsSo (Refuses f) = RS f
    IsSo (Repeats reply) = IsKept m r si reply
    IsSo (Runs c) = (k : InSession m si) × (k.asked ≡ a) × (k.session.channel ≡ c)

    module _ (session : Session) (found : session_at m.sessions (id_of a.sessionid) ≡ Some session) where
      abbrev k : InSession m si
      k = (let it = find_in (is_session (id_of a.sessionid)) m.sessions.sessions session found in
          record { asked = a; is = refl; session = session; there = it.0; id = has_id session a.sessionid it.1 })

      number_so : (x : SlotState) → slice_get session.slots a.slotid ≡ Some x → (fresh apart same : Bool) → a.sequenceid == next_number x.number ≡ fresh
          → not (x.used && (a.sequenceid == x.number)) ≡ apart → (who.uid == x.uid) && bytes_eq (compared r) x.args ≡ same
          → Ends RS IsSo (by_slot r size a session (cond fresh V.Fresh (cond apart V.Misordered (cond same V.Again V.FalseRetry))))
      number_so x at true apart same fresh_is apart_is same_is = ends_checks RS IsSo (fresh_checks r size session.channel) _
          (λ big. (k, ltb-true session.channel.maxrequestsize size big), λ u. (λ many. (k, ltb-true session.channel.maxoperations r.declared many), λ u. tt))
          (λ u. (k, refl, refl))
      number_so x at false true same fresh_is apart_is same_is = inl (
        k,
        x,
        at,
        (λ next. false≢true (sym fresh_is ∙ eq-eqb a.sequenceid (next_number x.number) next)),
        λ used last.
            (let on : x.used && (a.sequenceid == x.number) ≡ true = rw (used, eq-eqb a.sequenceid x.number last) refl in
            false≢true (ap not (sym on) ∙ apart_is)),
      )
      number_so x at false false same fresh_is apart_is same_is =
          (let p = and_parts x.used (a.sequenceid == x.number) (not-false (x.used && (a.sequenceid == x.number)) apart_is) in by same same_is p.0 (eqb-true _ _ p.1))
        where
          by : (same : Bool) → (who.uid == x.uid) && bytes_eq (compared r) x.args ≡ same → x.used ≡ true → a.sequenceid ≡ x.number
              → Ends RS IsSo (by_slot r size a session (cond same V.Again V.FalseRetry))
          by true is used number = BySlot k x at used (sym number) (ap (λ (o : Option SlotState). option_map_or (λ (s : SlotState). s.reply) o []) at)
          by false is used number = (
            a,
            refl,
            record {
              session = session;
              slot = x;
              on = record { found = found; slot = at };
              used = used;
              number = sym number;
              another = λ uid args. false≢true (sym is ∙ and_from _ _ (eq-eqb who.uid x.uid (sym uid)) ((bytes_eq-Decides (compared r) x.args).1 (sym args)));
            },
          )

      slot_so : Ends RS IsSo (by_slot r size a session (option_map_or (λ (x : SlotState). judge_slot x a.sequenceid who.uid (compared r)) (slice_get session.slots a.slotid) V.NoSlot))
      slot_so = by (slice_get session.slots a.slotid) refl
        where
          by : (o : Option SlotState) → slice_get session.slots a.slotid ≡ o
              → Ends RS IsSo (by_slot r size a session (option_map_or (λ (x : SlotState). judge_slot x a.sequenceid who.uid (compared r)) o V.NoSlot))
          by None at = (k, inr at)
          by (Some x) at = number_so x at (a.sequenceid == next_number x.number) (not (x.used && (a.sequenceid == x.number))) ((who.uid == x.uid) && bytes_eq (compared r) x.args)
              refl refl refl

    sequenced_so : IsSo (sequenced m r who size a)
    sequenced_so = ends_so RS IsSo Refuses _ (λ f why. why) (ends_then RS IsSo (ok_or (session_at m.sessions (id_of a.sessionid)) S.BadSession) _
        (there_blames RS (session_at m.sessions (id_of a.sessionid)) S.BadSession (λ none. (
          a.sessionid,
          refl,
          λ s there has.
              none_of (is_session (id_of a.sessionid)) m.sessions.sessions s (none_found _ m.sessions.sessions none) there (is_id s a.sessionid has),
        ))) (λ session got.
        (let found = ok_some (session_at m.sessions (id_of a.sessionid)) S.BadSession session got in
        ends_checks RS IsSo (slot_checks a session.channel) _ (
          λ high. (k session found, inl (leb-true session.channel.maxrequests a.slotid high)),
          λ u. (λ high. (k session found, leb-true session.channel.maxrequests a.highest_slotid high), λ u. tt),
        ) (λ u. slot_so session found))))

    sequence_says : (more : List Item) (v : Sequenced) (t : Machine) → IsSo v → FirstSays m r who size refused si (in_session m r who now choice a more v).text t
    sequence_says more (Refuses f) t why = No f (head_is si f (with_refusal m (item_number si) f) (status_of_refusal (item_number si) f)) why
    sequence_says more (Repeats reply) t kept = Again kept
    sequence_says more (Runs c) t (k, same, channel) = Yes (record {
      of = k;
      told = sequence_ok a c;
      status = _;
      count = _;
      rest = _;
      says = refl;
      session = ap (λ (a : Sequence). a.sessionid) (sym same);
      number = ap (λ (a : Sequence). a.sequenceid) (sym same);
      slot = ap (λ (a : Sequence). a.slotid) (sym same);
      highest = ap (λ (c : ChannelAttrs). c.maxrequests - 1) (sym channel);
      target = ap (λ (c : ChannelAttrs). c.maxrequests - 1) (sym channel);
      flags = refl;
    })

  -- What stands alone.

  delay_says : (i : Item) (o : MachineOutcome) → Says i o → Says i (or_with_delay refused m (item_number i) o)
  delay_says i o is = by refused (is_ok o.status) refl
    where
      by : (a b : Bool) → refused ≡ a → Says i (cond (a && b) (with_refusal m (item_number i) S.Delay) o)
      by true true here = no i S.Delay here
      by true false here = is
      by false b here = is

  -- EXCHANGE_ID
  module _ (e : ExchangeId) where
    abbrev ei : Item
    ei = Operation (Op.ExchangeId e)

    abbrev RE : Status → Type 0
    RE f = Reason ei f

    -- the record that stands is the owner's, and the caller's, with the verifier
    abbrev IsFound : Option ClientRecord → Type 0
    IsFound None = Unit {0}
    IsFound (Some c) = IsOwners m e c × (c.verifier ≡ e.verifier) × (c.uid ≡ who.uid)

    updates : not (bit_and e.flags 0x4000_0000 == 0) ≡ true → Updates e
    updates on zero = false≢true (ap not (sym (eq-eqb _ 0 zero)) ∙ on)

    standing_so : (o : Option ClientRecord) → confirmed_of m.clients e.ownerid ≡ o → Ends RE IsFound (standing m who e o)
    standing_so None found = ends_then RE IsFound (require (not (is_update e)) S.NoEnt) _ (held_blames RE (not (is_update e)) S.NoEnt (λ off. (
      e,
      refl,
      updates (not-false (is_update e) off),
      λ c own.
          none_of (is_confirmed_of e.ownerid) m.clients.records c (none_found _ m.clients.records found) own.there (rw ((bytes_eq-Decides c.owner e.ownerid).1 own.owner, own.confirmed) refl),
    )))
        (λ u e. tt)
    standing_so (Some c) found = by (is_update e) (c.uid == who.uid) (bytes_eq c.verifier e.verifier) refl refl refl
      where
        own : IsOwners m e c
        own = (let it = find_in (is_confirmed_of e.ownerid) m.clients.records c found in
            let p = and_parts (bytes_eq c.owner e.ownerid) c.confirmed it.1 in
            record { there = it.0; owner = (bytes_eq-Decides c.owner e.ownerid).0 p.0; confirmed = p.1 })

        by : (update user verifier : Bool) → is_update e ≡ update → c.uid == who.uid ≡ user → bytes_eq c.verifier e.verifier ≡ verifier
            → Ends RE IsFound (cond update (require verifier S.NotSame >> (require user S.Perm >> Ok (Some c)))
            (cond user (Ok (cond verifier (Some c) None)) (require (not (has_open m.store c.id)) S.ClidInUse >> Ok None)))
        by true true true up of same = (own, (bytes_eq-Decides c.verifier e.verifier).0 same, eqb-true c.uid who.uid of)
        by true false true up of same = (e, refl, updates up, c, own, λ is. false≢true (sym of ∙ eq-eqb c.uid who.uid is))
        by true user false up of same = (e, refl, updates up, c, own, λ is. false≢true (sym same ∙ (bytes_eq-Decides c.verifier e.verifier).1 is))
        by false true true up of same = (own, (bytes_eq-Decides c.verifier e.verifier).0 same, eqb-true c.uid who.uid of)
        by false true false up of same = tt
        by false false verifier up of same = ends_then RE IsFound (require (not (has_open m.store c.id)) S.ClidInUse) (λ u. Ok None) (held_blames RE (not (has_open m.store c.id)) S.ClidInUse (λ off.
            (let o = in_any (λ (o : OpenState). o.client == c.id) m.store.opens.opens (not-false (has_open m.store c.id) off) in
            inl (e, refl, c, own, (λ is. false≢true (sym of ∙ eq-eqb c.uid who.uid is)), o.0, o.1, eqb-true _ _ o.2)))) (λ u e. tt)

    full : has_room m.clients e.ownerid ≡ false → (0xffff_ffff ≤ m.clients.last % 2 ^ 32) ⊎ (m.clients.most ≤ length m.clients.records)
    full off = by (nat_lt (m.clients.last % 2 ^ 32) last_client) refl off
      where
        by : (b : Bool) → nat_lt (m.clients.last % 2 ^ 32) last_client ≡ b → b && (is_some (find (is_unconfirmed_of e.ownerid) m.clients.records) || nat_lt (length m.clients.records) m.clients.most) ≡ false
            → (0xffff_ffff ≤ m.clients.last % 2 ^ 32) ⊎ (m.clients.most ≤ length m.clients.records)
        by false low off = inl (ltb-false (m.clients.last % 2 ^ 32) last_client low)
        by true low off = inr (ltb-false (length m.clients.records) m.clients.most (or_parts (is_some (find (is_unconfirmed_of e.ownerid) m.clients.records)) (nat_lt (length m.clients.records) m.clients.most) off).1)

    exchanged_so : (o : Option ClientRecord) → IsFound o → Ends RE (Says ei) (exchanged m who now e o)
    exchanged_so (Some c) (own, verifier, user) = Yes (record {
      asked = e;
      is = refl;
      told = exchange_granted m.owner c.id c.number true;
      says = refl;
      record_of = c;
      there = own.there;
      id = refl;
      owner = own.owner;
      verifier = verifier;
      user = user;
      number = refl;
      flags = ap (λ b. cond b 0x8001_0000 0x0001_0000) (sym own.confirmed);
      name = refl;
      scope = refl;
    })
    exchanged_so None found = ends_then RE (Says ei) (require (has_room m.clients e.ownerid) S.ServerFault) _ (held_blames RE (has_room m.clients e.ownerid) S.ServerFault (λ off. inr (e, refl, full off)))
        (λ u held. Yes (record {
          asked = e;
          is = refl;
          told = _;
          says = refl;
          record_of = new_client m.clients e.ownerid e.verifier who.uid;
          there = last_in (filter (λ c. not (is_unconfirmed_of e.ownerid c)) m.clients.records) (new_client m.clients e.ownerid e.verifier who.uid);
          id = refl;
          owner = refl;
          verifier = refl;
          user = refl;
          number = refl;
          flags = refl;
          name = refl;
          scope = refl;
        }))

    exchange_says : Says ei (exchange_id m who now e)
    exchange_says = ends_so RE (Says ei) (with_refusal m (item_number ei)) _ (no ei) (ends_then RE (Says ei) (require (bit_and e.flags 0x8000_0000 == 0) S.Inval) _
        (held_blames RE (bit_and e.flags 0x8000_0000 == 0) S.Inval (λ off. (e, refl, λ zero. false≢true (sym off ∙ eq-eqb _ 0 zero)))) (λ u held.
        ends_with RE IsFound (Says ei) (standing m who e (confirmed_of m.clients e.ownerid)) _ (standing_so (confirmed_of m.clients e.ownerid) refl) exchanged_so))

  -- CREATE_SESSION
  module _ (c : CreateSession) where
    abbrev ci : Item
    ci = Operation (Op.CreateSession c)

    -- the outcome of a refusal, which may be one that is kept
    abbrev RC : Status → Type 0
    RC f = Says ci (with_refusal m (item_number ci) f)

    small : is_too_small c.fore_chan_attrs ≡ true → IsSmall c.fore_chan_attrs
    small is = by (nat_lt c.fore_chan_attrs.maxrequestsize 2048) (nat_lt c.fore_chan_attrs.maxresponsesize 2048) (c.fore_chan_attrs.maxoperations == 0) refl refl refl is
      where
        by : (p q u : Bool) → nat_lt c.fore_chan_attrs.maxrequestsize 2048 ≡ p → nat_lt c.fore_chan_attrs.maxresponsesize 2048 ≡ q → c.fore_chan_attrs.maxoperations == 0 ≡ u
            → p || q || u || (c.fore_chan_attrs.maxrequests == 0) ≡ true → IsSmall c.fore_chan_attrs
        by true q u a b d is = inl (ltb-true _ _ a)
        by false true u a b d is = inr (inl (ltb-true _ _ b))
        by false false true a b d is = inr (inr (inl (eqb-true _ _ d)))
        by false false false a b d is = inr (inr (inr (eqb-true _ _ is)))

    -- another client's record goes, and its own stays
    apart : (n : ℕ) (o : Option ClientRecord) → client_at m.clients n ≡ o → (gone : ℕ) → option_and_then (λ (c : ClientRecord). option_map (λ (d : ClientRecord). d.id) (find (is_other_confirmed_of c) m.clients.records)) o ≡ Some gone
        → n ≢ gone
    apart n None at gone leaves same = (let bad : None ≡ Some gone = leaves in cc)
    apart n (Some k) at gone leaves same = by (find (is_other_confirmed_of k) m.clients.records) refl leaves
      where
        by : (o : Option ClientRecord) → find (is_other_confirmed_of k) m.clients.records ≡ o → option_map (λ (d : ClientRecord). d.id) o ≡ Some gone → ⊥
        by None found leaves = (let bad : None ≡ Some gone = leaves in cc)
        by (Some d) found leaves =
            let id : d.id ≡ gone = same_Some d.id gone leaves in
            let own = find_in (λ (c : ClientRecord). c.id == n) m.clients.records k at in
            let parts = and_parts (is_confirmed_of k.owner d) (not (d.id == k.id)) (find_in (is_other_confirmed_of k) m.clients.records d found).1 in
            false≢true (sym (not-true _ parts.1) ∙ eq-eqb d.id k.id (id ∙ (sym same ∙ sym (eqb-true k.id n own.1))))

    abbrev new : Session
    new = new_session (m.sessions.last + 1) c.clientid (granted c.fore_chan_attrs)

    new_stays : (o : Option ℕ) → leaving m.clients c.clientid ≡ o → (let t = with_session m.sessions c.clientid c.fore_chan_attrs in In new (option_map_or (without_client t) o t).sessions)
    new_stays None gone = last_in m.sessions.sessions new
    new_stays (Some n) gone = stays_in (λ (s : Session). not (s.client == n)) (m.sessions.sessions ++ new ∷ []) new (last_in m.sessions.sessions new)
        (ap not (ne_eqb c.clientid n (apart c.clientid (client_at m.clients c.clientid) refl n gone)))

    made_says : Says ci (made m now c)
    made_says = Yes (record {
      asked = c;
      is = refl;
      told = _;
      says = refl;
      session = new;
      there = new_stays (leaving m.clients c.clientid) refl;
      client = refl;
      id = refl;
      number = refl;
      channel = refl;
      slots = length-replicate _ _;
    })

    module _ (k : ClientRecord) (found : client_at m.clients c.clientid ≡ Some k) where
      abbrev by_client : ByClient m ci
      by_client = (let it = find_in (λ (k : ClientRecord). k.id == c.clientid) m.clients.records k found in record { asked = c; is = refl; record_of = k; there = it.0; id = eqb-true _ _ it.1 })

      kept_says : next_number c.sequence ≡ k.number → (o : Option CreateResult) → k.kept ≡ o → Ends RC (Says ci) (kept_again m o)
      kept_says before (Some (Done body)) kept = Again (ByRecord by_client body before kept refl)
      kept_says before (Some (Refused f)) kept = Again (ByRefusal by_client f before kept (head_is ci f (with_refusal m (item_number ci) f) (status_of_refusal (item_number ci) f)))
      kept_says before None kept = no ci S.SeqMisordered (inr (by_client, inr (before, kept)))

      asked_says : Says ci (or_refused (kept_refusal m c) (in_order ((is_too_small c.fore_chan_attrs, S.TooSmall)
          ∷ (nat_le m.sessions.most (count_by (outlasts (leaving m.clients c.clientid)) m.sessions.sessions), S.NoSpc)
          ∷ (m.sessions.last == last_counter, S.ServerFault)
          ∷ []) >> Ok (made m now c)))
      asked_says = ends_so (Reason ci) (Says ci) (kept_refusal m c) _ (λ f why. No f (head_is ci f (kept_refusal m c f) (status_of_refusal (item_number ci) f)) why)
          (ends_checks (Reason ci) (Says ci) ((is_too_small c.fore_chan_attrs, S.TooSmall)
          ∷ (nat_le m.sessions.most (count_by (outlasts (leaving m.clients c.clientid)) m.sessions.sessions), S.NoSpc)
          ∷ (m.sessions.last == last_counter, S.ServerFault)
          ∷ []) (Ok (made m now c)) (
            λ is. (c, refl, small is),
            λ u. (
              λ many. (
                c,
                refl,
                (let some = leb-true m.sessions.most (count_by (outlasts (leaving m.clients c.clientid)) m.sessions.sessions) many in
                    let all = count_by-le-length (outlasts (leaving m.clients c.clientid)) m.sessions.sessions in omega arith),
              ),
              λ u. (λ last. inl (c, refl, eqb-true m.sessions.last last_counter last), λ u. tt),
            ),
          ) (λ u. made_says))

      client_says : Ends RC (Says ci) (cond (next_number c.sequence == k.number) (kept_again m k.kept) (require (c.sequence == k.number) S.SeqMisordered >> (require (k.uid == who.uid) S.ClidInUse
          >> Ok (or_with_delay refused m (item_number ci) (or_refused (kept_refusal m c) (in_order ((is_too_small c.fore_chan_attrs, S.TooSmall)
          ∷ (nat_le m.sessions.most (count_by (outlasts (leaving m.clients c.clientid)) m.sessions.sessions), S.NoSpc)
          ∷ (m.sessions.last == last_counter, S.ServerFault)
          ∷ []) >> Ok (made m now c)))))))
      client_says = by (next_number c.sequence == k.number) refl
        where
          by : (b : Bool) → next_number c.sequence == k.number ≡ b → Ends RC (Says ci) (cond b (kept_again m k.kept) (require (c.sequence == k.number) S.SeqMisordered >> (require (k.uid == who.uid) S.ClidInUse
              >> Ok (or_with_delay refused m (item_number ci) (or_refused (kept_refusal m c) (in_order ((is_too_small c.fore_chan_attrs, S.TooSmall)
              ∷ (nat_le m.sessions.most (count_by (outlasts (leaving m.clients c.clientid)) m.sessions.sessions), S.NoSpc)
              ∷ (m.sessions.last == last_counter, S.ServerFault)
              ∷ []) >> Ok (made m now c)))))))
          by true before = kept_says (eqb-true _ _ before) k.kept refl
          by false other = ends_then RC (Says ci) (require (c.sequence == k.number) S.SeqMisordered) _ (held_blames RC (c.sequence == k.number) S.SeqMisordered (λ off.
              no ci S.SeqMisordered (inr (by_client, inl ((λ same. false≢true (sym off ∙ eq-eqb c.sequence k.number same)), λ before. false≢true (sym other ∙ eq-eqb _ _ before))))))
              (λ u at. ends_then RC (Says ci) (require (k.uid == who.uid) S.ClidInUse) _ (held_blames RC (k.uid == who.uid) S.ClidInUse (λ off.
              no ci S.ClidInUse (inr (by_client, λ same. false≢true (sym off ∙ eq-eqb k.uid who.uid same))))) (λ u own. delay_says ci _ asked_says))

    create_says : Says ci (create_session m who now refused c)
    create_says = ends_so RC (Says ci) (with_refusal m (item_number ci)) _ (λ f says. says) (ends_then RC (Says ci) (ok_or (client_at m.clients c.clientid) S.StaleClientId) _
        (there_blames RC (client_at m.clients c.clientid) S.StaleClientId (λ none. no ci S.StaleClientId (
          c.clientid,
          refl,
          λ k there same.
              none_of (λ (k : ClientRecord). k.id == c.clientid) m.clients.records k (none_found _ m.clients.records none) there (eq-eqb k.id c.clientid same),
        )))
        (λ k got. client_says k (ok_some (client_at m.clients c.clientid) S.StaleClientId k got)))

  -- DESTROY_SESSION and DESTROY_CLIENTID
  session_says : (id : List ℕ) → Says (Operation (Op.DestroySession id)) (destroy_session m id)
  session_says id = by (session_at m.sessions (id_of id)) refl
    where
      by : (o : Option Session) → session_at m.sessions (id_of id) ≡ o → Says (Operation (Op.DestroySession id))
          (cond (is_some o) (with_result (record m { sessions = destroyed m.sessions (id_of id) }) Res.DestroySession) (with_refusal m (op_number Num.DestroySession) S.BadSession))
      by None none = no (Operation (Op.DestroySession id)) S.BadSession (
        id,
        refl,
        λ s there has.
            none_of (is_session (id_of id)) m.sessions.sessions s (none_found _ m.sessions.sessions none) there (is_id s id has),
      )
      by (Some s) found = Yes (record {
        says = refl;
        session = λ other is s there has. (let same : Operation (Op.DestroySession id) ≡ Operation (Op.DestroySession other) = is in
            let one : id ≡ other = cc in
            false≢true (ap not (sym (is_id s id (subst (HasId s) (sym one) has))) ∙ (in_filter (λ (s : Session). not (is_session (id_of id) s)) m.sessions.sessions s there).1));
        client = λ n is. (let bad : Operation (Op.DestroySession id) ≡ Operation (Op.DestroyClientId n) = is in absurd cc);
      })

  client_gone : (client : ℕ) → Says (Operation (Op.DestroyClientId client)) (destroy_client m client)
  client_gone client = by (client_at m.clients client) (list_any (λ (s : Session). s.client == client) m.sessions.sessions) (has_open m.store client) refl refl refl
    where
      i : Item
      i = Operation (Op.DestroyClientId client)

      by : (o : Option ClientRecord) (p q : Bool) → client_at m.clients client ≡ o → list_any (λ (s : Session). s.client == client) m.sessions.sessions ≡ p → has_open m.store client ≡ q
          → Says i (option_map_or (with_refusal m (op_number Num.DestroyClientId)) (cond (not (is_some o)) (Some S.StaleClientId) (cond (p || q) (Some S.ClientIdBusy) None))
          (with_result (record m { clients = without m.clients client; leases = without_lease m.leases client }) Res.DestroyClientId))
      by None p q none has opens = no i S.StaleClientId (
        client,
        refl,
        λ k there same.
            none_of (λ (k : ClientRecord). k.id == client) m.clients.records k (none_found _ m.clients.records none) there (eq-eqb k.id client same),
      )
      by (Some k) true q found has opens = no i S.ClientIdBusy (client, refl, inl (let s = in_any (λ (s : Session). s.client == client) m.sessions.sessions has in (s.0, s.1, eqb-true _ _ s.2)))
      by (Some k) false true found has opens = no i S.ClientIdBusy (client, refl, inr (let o = in_any (λ (o : OpenState). o.client == client) m.store.opens.opens opens in (o.0, o.1, eqb-true _ _ o.2)))
      by (Some k) false false found has opens = Yes (record {
        says = refl;
        session = λ id is. (let bad : Operation (Op.DestroyClientId client) ≡ Operation (Op.DestroySession id) = is in absurd cc);
        client = λ n is c there same. (let asked : Operation (Op.DestroyClientId client) ≡ Operation (Op.DestroyClientId n) = is in
            let one : client ≡ n = cc in
            false≢true (ap not (sym (eq-eqb c.id client (same ∙ sym one))) ∙ (in_filter (λ (c : ClientRecord). not (c.id == client)) m.clients.records c there).1));
      })

  -- it stands alone in its compound
  alone_says : (op : Op) → stands_alone op ≡ true → Says (Operation op) (carried_out m who now refused (Operation op))
      → Says (Operation op) (option_map_or (with_refusal m (item_number (Operation op))) (cond (nat_lt 1 r.declared) (Some S.NotOnlyOp) None) (carried_out m who now refused (Operation op)))
  alone_says op alone says = by (nat_lt 1 r.declared) refl
    where
      by : (b : Bool) → nat_lt 1 r.declared ≡ b
          → Says (Operation op) (option_map_or (with_refusal m (item_number (Operation op))) (cond b (Some S.NotOnlyOp) None) (carried_out m who now refused (Operation op)))
      by true many = no (Operation op) S.NotOnlyOp (op, refl, alone, ltb-true 1 r.declared many)
      by false one = says

  pub first_says : (i : Item) (more : List Item) (t : Machine) → (t ≡ (by_first m r who size now choice (i ∷ more)).machine)
      → FirstSays m r who size refused i (by_first m r who size now choice (i ∷ more)).text t
  first_says (Operation (Op.Sequence a)) more t same = sequence_says a more (sequenced m r who size a) t (sequenced_so a)
  first_says (Operation (Op.ExchangeId e)) more t same =
      subst (FirstSays m r who size refused (Operation (Op.ExchangeId e)) _) (sym same) (alone_says (Op.ExchangeId e) refl (delay_says (Operation (Op.ExchangeId e)) _ (exchange_says e)))
  first_says (Operation (Op.CreateSession c)) more t same =
      subst (FirstSays m r who size refused (Operation (Op.CreateSession c)) _) (sym same) (alone_says (Op.CreateSession c) refl (create_says c))
  first_says (Operation (Op.DestroySession id)) more t same =
      subst (FirstSays m r who size refused (Operation (Op.DestroySession id)) _) (sym same) (alone_says (Op.DestroySession id) refl (session_says id))
  first_says (Operation (Op.DestroyClientId client)) more t same =
      subst (FirstSays m r who size refused (Operation (Op.DestroyClientId client)) _) (sym same) (alone_says (Op.DestroyClientId client) refl (client_gone client))
  first_says (Operation op) more t same = No S.OpNotInSession (head_is (Operation op) S.OpNotInSession (with_refusal m (item_number (Operation op)) S.OpNotInSession) (status_of_refusal (item_number (Operation op)) S.OpNotInSession)) (op, refl, refl)
  first_says (Fault n f) more t same = Unread n f refl (head_is (Fault n f) f (with_refusal m n f) (status_of_refusal n f))

pub each_first_says_so : EachFirstSaysSo
each_first_says_so start records c r who size now choice i more asked minor list =
    let s = reached start records in
    let m = before s c in
    let of : compound m r who size now choice ≡ by_first m r who size now choice (i ∷ more) =
    ap (λ (n : ℕ). cond (n == 1) (by_first m r who size now choice r.left) (bare r S.MinorVersMismatch m)) minor ∙ ap (by_first m r who size now choice) list in
    let text : answered s c ≡ (by_first m r who size now choice (i ∷ more)).text = ap (λ o. option_map_or (text_of m) o []) asked ∙ ap (λ (a : Answered). a.text) of in
    let machine : (state_after s c).machine ≡ (by_first m r who size now choice (i ∷ more)).machine =
    ap (λ (t : ServerState). t.machine) (next_is s c) ∙ (ap (left m) asked ∙ ap (λ (a : Answered). a.machine) of) in
    subst (λ text. FirstSays m r who size (is_here choice) i text (state_after s c).machine) (sym text) (first_says m r who size now choice i more (state_after s c).machine machine)
