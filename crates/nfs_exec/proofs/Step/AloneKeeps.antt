-- What holds of a store, and of it where clients other than one end, holds behind an operation that stands alone, if that is no CREATE_SESSION by which another id
-- takes that client's place.
use Rattle.std.proofs.Common.{◌≡◌, ◌≢◌, ℕ, suc, ◌+◌, ◌<◌, Bool, true, false, not, List, [], ◌∷◌, Option, Some, None, refl, sym, ◌∙◌, ap, subst, arith, inl, inr}
use Rattle.std.proofs.lemmas.Bool.{cases_Bool, eq-eqb, ne_eqb, eqb-true, and_parts, and_from, false≢true}
use Rattle.std.specs.{Prelude.{◌==◌, ◌&&◌, find, option_map, bytes_eq, Result, Ok, Err}, Option.option_map_or}
use Rattle.nfs_xdr.specs.{Caller.Caller, Tables.In}
use Rattle.nfs_xdr.proofs.Lists.{any_in, in_any, find_in}
use Rattle.nfs_compound.specs.{declared.op.Item.Item, declared.op.Item.TheVariants.Operation, declared.session_args.CreateSession.CreateSession}
use Rattle.nfs_compound.specs.declared.op.Op.TheVariants as Op
use Rattle.nfs_clients.specs.{CreateSession.{leaving, is_other_confirmed_of}, Roster.{ClientRecord, Roster, client_at}}
use Rattle.nfs_sessions.specs.{Sessions.{SessionTable, create}, declared.id.SessionId.SessionId, declared.sessions.SessionFault.SessionFault}
use Rattle.nfs_names.specs.{State.State, Outcome.is_ok}
use Rattle.nfs_exec.specs.Step.{Machine.Machine, Compound.first_item, Parts.{wish_of, without_any_opens}}
use Rattle.nfs_exec.specs.Runs.LockHeld.{is_of_owner, takes_place}
use Rattle.nfs_exec.specs.Step.Parts.{by_created}
use Rattle.nfs_exec.proofs.Runs.ByEvent.{by_alone}
use Rattle.nfs_clients.proofs.Members.{leaving_by}

-- what confirms no other id of a client's owner removes no record of the client's
pub not_leaving : (t : Roster) (id client : ℕ) → not (id == client) && option_map_or (λ (k : ClientRecord). is_of_owner t client k.owner) (client_at t id) false ≡ false
    → leaving t id ≢ Some client
not_leaving t id client spares leaves = by_record (client_at t id) refl
  where
    by_found : (c : ClientRecord) → client_at t id ≡ Some c → (o : Option ClientRecord) → find (is_other_confirmed_of c) t.records ≡ o → ⊥
    by_found c at None none =
        let bad : None ≡ Some client = sym (ap (leaving_by t) at ∙ ap (option_map (λ (d : ClientRecord). d.id)) none) ∙ leaves in cc
    by_found c at (Some d) found =
        let gone : Some d.id ≡ Some client = sym (ap (leaving_by t) at ∙ ap (option_map (λ (d : ClientRecord). d.id)) found) ∙ leaves in
        let same : d.id ≡ client = cc in
        let named : c.id ≡ id = eqb-true _ _ (find_in (λ (c : ClientRecord). c.id == id) t.records c at).1 in
        let there = find_in (is_other_confirmed_of c) t.records d found in
        let tests = and_parts _ _ there.1 in
        let owner : is_of_owner t client c.owner ≡ true =
        any_in (λ (k : ClientRecord). (k.id == client) && bytes_eq k.owner c.owner) t.records d there.0
        (and_from (d.id == client) (bytes_eq d.owner c.owner) (eq-eqb d.id client same) (and_parts _ _ tests.0).0) in
        let other : (id == client) ≡ false =
        ne_eqb id client (λ e. false≢true (sym (ap not (eq-eqb d.id c.id (same ∙ sym e ∙ sym named))) ∙ tests.1)) in
        false≢true (sym spares
        ∙ and_from (not (id == client)) (option_map_or (λ (k : ClientRecord). is_of_owner t client k.owner) (client_at t id) false) (ap not other)
        (ap (λ (o : Option ClientRecord). option_map_or (λ (k : ClientRecord). is_of_owner t client k.owner) o false) at ∙ owner))

    by_record : (o : Option ClientRecord) → client_at t id ≡ o → ⊥
    by_record None none = let bad : None ≡ Some client = sym (ap (leaving_by t) none) ∙ leaves in cc
    by_record (Some c) at = by_found c at (find (is_other_confirmed_of c) t.records) refl

-- it holds where clients other than this one end
abbrev pub HoldsForOthers : ℕ → (State → Type 0) → Type 0
HoldsForOthers client P = (s : State) (o : Option ℕ) → o ≢ Some client → P s → P (without_any_opens s o)

made : (client : ℕ) (P : State → Type 0) → HoldsForOthers client P → (m : Machine) (now : ℕ) (c : CreateSession) (t : SessionTable) (v : Result SessionId SessionFault)
    → P m.store → is_ok (by_created m now c t v).status && takes_place client m.clients (Operation (Op.CreateSession c)) ≡ false → P (by_created m now c t v).machine.store
made client P others m now c t (Ok id) is spares = others m.store (leaving m.clients c.clientid) (not_leaving m.clients c.clientid client spares) is
made client P others m now c t (Err fault) is spares = is

pub holds_alone : (client : ℕ) (P : State → Type 0) → HoldsForOthers client P → (m : Machine) (declared : ℕ) (who : Caller) (now : ℕ) (refused : Bool) (i : Item)
    → P m.store → is_ok (first_item m declared who now refused i).status && takes_place client m.clients i ≡ false → P (first_item m declared who now refused i).machine.store
holds_alone client P others m declared who now refused i is =
    by_alone (λ o. is_ok o.status && takes_place client m.clients i ≡ false → P o.machine.store) m declared who now refused i (λ status result spares. is)
    (λ e at spares. is) (λ c at runs spares.
    (let did = create m.sessions c.clientid (wish_of m c) in
    made client P others m now c did.after did.answer is
    (subst (λ j. is_ok (by_created m now c did.after did.answer).status && takes_place client m.clients j ≡ false) at spares)))
    (λ sessionid at stood spares. is) (λ gone at none spares. is)

-- whoever ends by it: no record has an id above all
abbrev pub above : List ClientRecord → ℕ
above [] = 0
above (c ∷ cs) = suc c.id + above cs

below_all : (cs : List ClientRecord) (a : ClientRecord) → In a cs → a.id < above cs
below_all [] a there = absurd there
below_all (c ∷ cs) a there = elim there [
  | inl here ↦ (let same = ap (λ (a : ClientRecord). a.id) here in omega arith)
  | inr later ↦ (let lt = below_all cs a later in omega arith)
]

none_above : (t : Roster) (owner : List ℕ) → is_of_owner t (above t.records) owner ≡ false
none_above t owner = elim (cases_Bool (is_of_owner t (above t.records) owner)) [
  | inr none ↦ none
  | inl some ↦ absurd (let (k, there, is) = in_any (λ (k : ClientRecord). (k.id == above t.records) && bytes_eq k.owner owner) t.records some in
      let lt = below_all t.records k there in
      let same : k.id ≡ above t.records = eqb-true k.id (above t.records) (and_parts _ _ is).0 in
      omega (arith, lt, same))
]

-- so it holds whatever stands alone, where it holds whoever ends
pub holds_whoever : (P : State → Type 0) → ((s : State) (o : Option ℕ) → P s → P (without_any_opens s o)) → (m : Machine) (declared : ℕ) (who : Caller) (now : ℕ) (refused : Bool)
    (i : Item) → P m.store → P (first_item m declared who now refused i).machine.store
holds_whoever P each m declared who now refused i is =
    let n = above m.clients.records in
    holds_alone n P (λ s o other here. each s o here) m declared who now refused i is
    (spares (is_ok (first_item m declared who now refused i).status) (takes_place n m.clients i) (none_replaced i))
  where
    spares : (ok b : Bool) → b ≡ false → ok && b ≡ false
    spares true b none = none
    spares false b none = refl

    by_record : (b : Bool) (o : Option ClientRecord) → b && option_map_or (λ (k : ClientRecord). is_of_owner m.clients (above m.clients.records) k.owner) o false ≡ false
    by_record true None = refl
    by_record true (Some k) = none_above m.clients k.owner
    by_record false o = refl

    none_replaced : (i : Item) → takes_place (above m.clients.records) m.clients i ≡ false
    none_replaced (Operation (Op.CreateSession c)) = by_record (not (c.clientid == above m.clients.records)) (client_at m.clients c.clientid)
    none_replaced i = refl
