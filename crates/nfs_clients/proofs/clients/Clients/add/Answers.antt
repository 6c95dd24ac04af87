use Rattle.std.proofs.{Common.{◌≡◌, false, ◌∷◌, ◌++◌, [], ℕ, List, Option, Some, refl, sym, ◌∙◌, ap, subst, arith}, lemmas.Bool.{and_parts, ltb-true}}
use Rattle.std.specs.{Prelude.option_map, Option.option_map_or}
use Rattle.nfs_xdr.specs.Tables.{IsRising, without_record}
use Rattle.nfs_xdr.proofs.Tables.{IsRising-from}
use Rattle.nfs_clients.specs.{declared.owners.Ids.Ids, Roster.{ClientRecord, Roster, IsRoster, first_id, next_id, last_counter, unconfirmed_of}}
use Rattle.nfs_clients.specs.{ExchangeId.{asks, has_room, with_new}, Filed.{ids_at, ids_in, OwnersAnew}}
use Rattle.nfs_clients.proofs.{Members.{the_id, roster_new}, IndexLemmas.{filed_new, new_index}, Terms.{counter_of, new_client}}
use Rattle.nfs_clients.proofs.clients.Clients.add.Goals as goal

pub file-requires : goal.file-requires
file-requires c =
    let t : Roster = record { records = c.self.inside.records; last = c.self.inside.last; most = c.self.inside.most } in
    let is : IsRoster t = c.self.invariant.0 in
    let room = and_parts _ _ c.requires in
    let last = ap (λ (t : Roster). t.last) c.self.view_is in
    let below = ltb-true (counter_of c.args.self.now.last) last_counter room.0 in
    let given = c.next_id-id.ensures.value (omega arith) in
    let is_next : next_id t ≡ c.in_ok-client.client.id = ap next_id c.self.view_is ∙ sym given ∙ sym (ap the_id c.in_ok-client.ensures) in
    subst (λ (n : ℕ). IsRising the_id 0 c.self.inside.records n) is_next (IsRising-from the_id 0 (first_id t) (next_id t) t.records (omega arith) is.rising)

pub invariant_of-self-2 : goal.invariant_of-self-2
invariant_of-self-2 c =
    let t : Roster = record { records = c.self.inside.records; last = c.self.inside.last; most = c.self.inside.most } in
    let is : IsRoster t = c.self.invariant.0 in
    let room = and_parts _ _ c.requires in
    let last = ap (λ (t : Roster). t.last) c.self.view_is in
    let below = ltb-true (counter_of c.args.self.now.last) last_counter room.0 in
    let given : c.next_id-id.result ≡ next_id t = c.next_id-id.ensures.value (omega arith) ∙ sym (ap next_id c.self.view_is) in
    let client : c.in_ok-client.client ≡ new_client t c.args.owner.now c.args.verifier c.args.uid =
    c.in_ok-client.ensures ∙ ap (λ (n : ℕ). record (new_client t c.args.owner.now c.args.verifier c.args.uid) { id = n }) given in
    let un : c.ids-ids.result.unconfirmed ≡ option_map the_id (unconfirmed_of t c.args.owner.now) =
    c.ids-ids.ensures.unconfirmed ∙ sym (ap (λ (t : Roster). option_map the_id (unconfirmed_of t c.args.owner.now)) c.self.view_is) in
    let filed : c.file.new.records ≡ (with_new t c.args.owner.now c.args.verifier c.args.uid).records =
    c.in_ok-file.ensures.filed
    ∙ ap (λ (x : ClientRecord). option_map_or (without_record the_id (t.records ++ x ∷ [])) c.ids-ids.result.unconfirmed (t.records ++ x ∷ [])) client
    ∙ ap (λ (o : Option ℕ). option_map_or (without_record the_id (t.records ++ new_client t c.args.owner.now c.args.verifier c.args.uid ∷ [])) o
    (t.records ++ new_client t c.args.owner.now c.args.verifier c.args.uid ∷ [])) un
    ∙ filed_new t is c.args.owner.now c.args.verifier c.args.uid (unconfirmed_of t c.args.owner.now) refl in
    let at : List ℕ → Ids = ids_at (λ k. k.items) c.self.inside.owners.ids.entries in
    let bt : List ℕ → Ids = ids_at (λ k. k.items) c.file.new.owners.ids.entries in
    let now : OwnersAnew at bt c.args.owner.now (record { confirmed = c.ids-ids.result.confirmed; unconfirmed = Some (next_id t) }) =
    subst (λ (n : ℕ). OwnersAnew at bt c.args.owner.now (record { confirmed = c.ids-ids.result.confirmed; unconfirmed = Some n }))
    (ap the_id client) c.in_ok-file.ensures.ids in
    let con : c.ids-ids.result.confirmed ≡ (at c.args.owner.now).confirmed =
    c.ids-ids.ensures.confirmed ∙ sym (ap (λ (t : Roster). (ids_in t.records c.args.owner.now).confirmed) c.self.view_is)
    ∙ sym (ap (λ (i : Ids). i.confirmed) (c.self.invariant.1 c.args.owner.now)) in
    rw (filed, given) (
      roster_new t (asks c.args.owner.now c.args.verifier 0 c.args.uid false) is
          (ap (λ (t : Roster). has_room t c.args.owner.now) c.self.view_is ∙ c.requires),
      new_index t is c.args.owner.now c.args.verifier c.args.uid at bt c.ids-ids.result.confirmed c.self.invariant.1 con now,
    )

pub returns-clause-ok : goal.returns-clause-ok
returns-clause-ok c =
    let t : Roster = record { records = c.self.inside.records; last = c.self.inside.last; most = c.self.inside.most } in
    let is : IsRoster t = c.self.invariant.0 in
    let room = and_parts _ _ c.requires in
    let last = ap (λ (t : Roster). t.last) c.self.view_is in
    let below = ltb-true (counter_of c.args.self.now.last) last_counter room.0 in
    let given : c.next_id-id.result ≡ next_id t = c.next_id-id.ensures.value (omega arith) ∙ sym (ap next_id c.self.view_is) in
    let client : c.in_ok-client.client ≡ new_client t c.args.owner.now c.args.verifier c.args.uid =
    c.in_ok-client.ensures ∙ ap (λ (n : ℕ). record (new_client t c.args.owner.now c.args.verifier c.args.uid) { id = n }) given in
    let un : c.ids-ids.result.unconfirmed ≡ option_map the_id (unconfirmed_of t c.args.owner.now) =
    c.ids-ids.ensures.unconfirmed ∙ sym (ap (λ (t : Roster). option_map the_id (unconfirmed_of t c.args.owner.now)) c.self.view_is) in
    let filed : c.file.new.records ≡ (with_new t c.args.owner.now c.args.verifier c.args.uid).records =
    c.in_ok-file.ensures.filed
    ∙ ap (λ (x : ClientRecord). option_map_or (without_record the_id (t.records ++ x ∷ [])) c.ids-ids.result.unconfirmed (t.records ++ x ∷ [])) client
    ∙ ap (λ (o : Option ℕ). option_map_or (without_record the_id (t.records ++ new_client t c.args.owner.now c.args.verifier c.args.uid ∷ [])) o
    (t.records ++ new_client t c.args.owner.now c.args.verifier c.args.uid ∷ [])) un
    ∙ filed_new t is c.args.owner.now c.args.verifier c.args.uid (unconfirmed_of t c.args.owner.now) refl in
    rw (filed, given) (ap (λ (t : Roster). with_new t c.args.owner.now c.args.verifier c.args.uid) c.self.view_is)
