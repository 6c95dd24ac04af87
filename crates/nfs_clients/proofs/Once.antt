-- What holds over all changes of a table: an id that was given names the record that it was given to, or none; and each table is in order.
use Rattle.std.proofs.{Common.{◌≡◌, ℕ, ◌<◌, Bool, true, false, not, eqb, List, [], ◌∷◌, Option, Some, None, refl, ◌∙◌, arith}, lemmas.Bool.ne_eqb}
use Rattle.std.specs.Prelude.{filter}
use Rattle.nfs_xdr.proofs.Tables.{gone_filter, gone_map, gone_push}
use Rattle.nfs_clients.specs.Roster.{ClientRecord, Roster, IsRoster, no_clients, next_id, client_at, is_unconfirmed_of, with_changed, confirmed_of}
use Rattle.nfs_clients.specs.ExchangeId.{Ask, Case, Refuses, Stays, Adds, has_room, if_room, case_by, case_of, does, with_new}
use Rattle.nfs_clients.specs.{CreateSession.{keeps, leaving}, DestroyClientId.destroy_fault, Calls.without_unless}
use Rattle.nfs_clients.specs.declared.destroy.DestroyFault.{DestroyFault}
use Rattle.nfs_clients.specs.Laws.{Change, Exchanges, Confirms, Keeps, Reclaims, Destroys, Removes, changed, after_all, IdsAreGivenOnce}
use Rattle.nfs_clients.specs.Laws.{TablesAreInOrder}
use Rattle.nfs_clients.proofs.{Members.{the_id, change_at, IsMild, mild_keeps, mild_reclaims, confirmed_id, mild_at, roster_changed}, Terms.new_client}
use Rattle.nfs_clients.proofs.{Members.{roster_confirmed, roster_without, roster_new}, Terms.{without_any, confirms}}

-- the id stays given, and names none
record StaysGone (t : Roster) (id : ℕ) : Type 0 where
  pub given : id < next_id t
  pub gone : client_at t id ≡ None

gone_new : (t : Roster) (a : Ask) (id : ℕ) → StaysGone t id → StaysGone (with_new t a.owner a.verifier a.uid) id
gone_new t a id is = record {
  given = (let given = is.given in omega arith);
  gone = gone_push the_id id (filter (λ c. not (is_unconfirmed_of a.owner c)) t.records)
      (new_client t a.owner a.verifier a.uid) (ne_eqb (next_id t) id (λ e. absurd (let given = is.given in omega arith)))
      (gone_filter the_id id (λ c. not (is_unconfirmed_of a.owner c)) t.records is.gone);
}

gone_case : (t : Roster) (a : Ask) (k : Case) (id : ℕ) → StaysGone t id → StaysGone (does t a k).after id
gone_case t a (Refuses fault) id is = is
gone_case t a (Stays c) id is = is
gone_case t a Adds id is = gone_new t a id is

gone_changed : (t : Roster) (n : ℕ) (f : ClientRecord → ClientRecord) (id : ℕ) → IsMild f → StaysGone t id → StaysGone (with_changed t n f) id
gone_changed t n f id mild is = record { given = is.given; gone = gone_map the_id id (change_at n f) (mild_at f n mild).id t.records is.gone }

gone_dropped : (t : Roster) (o : Option ℕ) (id : ℕ) → StaysGone t id → StaysGone (without_any t o) id
gone_dropped t None id is = is
gone_dropped t (Some n) id is = record { given = is.given; gone = gone_filter the_id id (λ c. not (eqb c.id n)) t.records is.gone }

gone_confirmed : (t : Roster) (n id : ℕ) → StaysGone t id → StaysGone (with_changed t n confirms) id
gone_confirmed t n id is = record { given = is.given; gone = gone_map the_id id (change_at n confirms) (confirmed_id n) t.records is.gone }

gone_unless : (t : Roster) (n : ℕ) (o : Option DestroyFault) (id : ℕ) → StaysGone t id → StaysGone (without_unless o t n) id
gone_unless t n None id is = gone_dropped t (Some n) id is
gone_unless t n (Some fault) id is = is

gone_step : (t : Roster) (change : Change) (id : ℕ) → StaysGone t id → StaysGone (changed t change) id
gone_step t (Exchanges a) id is = gone_case t a (case_of t a) id is
gone_step t (Confirms n) id is = gone_confirmed (without_any t (leaving t n)) n id (gone_dropped t (leaving t n) id is)
gone_step t (Keeps n result) id is = gone_changed t n (keeps result) id (mild_keeps result) is
gone_step t (Reclaims n) id is = gone_changed t n (λ c. record c { reclaimed = true }) id mild_reclaims is
gone_step t (Destroys n has_session has_open) id is = gone_unless t n (destroy_fault t n has_session has_open) id is
gone_step t (Removes n) id is = record { given = is.given; gone = gone_filter the_id id (λ c. not (eqb c.id n)) t.records is.gone }

gone_all : (t : Roster) (changes : List Change) (id : ℕ) → StaysGone t id → client_at (after_all t changes) id ≡ None
gone_all t [] id is = is.gone
gone_all t (change ∷ changes) id is = gone_all (changed t change) changes id (gone_step t change id is)

pub given_once : IdsAreGivenOnce
given_once = λ t changes id given gone. gone_all t changes id (record { given = given; gone = gone })

-- Each table is in order.

order_case : (t : Roster) (a : Ask) (room : Bool) (k : Case) → has_room t a.owner ≡ room → IsRoster t → IsRoster (does t a (if_room room k)).after
order_case t a true (Refuses fault) e is = is
order_case t a true (Stays c) e is = is
order_case t a true Adds e is = roster_new t a is e
order_case t a false (Refuses fault) e is = is
order_case t a false (Stays c) e is = is
order_case t a false Adds e is = is

order_unless : (t : Roster) (n : ℕ) (o : Option DestroyFault) → IsRoster t → IsRoster (without_unless o t n)
order_unless t n None is = roster_without t n is
order_unless t n (Some fault) is = is

order_step : (t : Roster) (change : Change) → IsRoster t → IsRoster (changed t change)
order_step t (Exchanges a) is = order_case t a (has_room t a.owner) (case_by a (confirmed_of t a.owner)) refl is
order_step t (Confirms n) is = roster_confirmed t n is
order_step t (Keeps n result) is = roster_changed (keeps result) t n (mild_keeps result) is
order_step t (Reclaims n) is = roster_changed (λ c. record c { reclaimed = true }) t n mild_reclaims is
order_step t (Destroys n has_session has_open) is = order_unless t n (destroy_fault t n has_session has_open) is
order_step t (Removes n) is = roster_without t n is

order_all : (t : Roster) (changes : List Change) → IsRoster t → IsRoster (after_all t changes)
order_all t [] is = is
order_all t (change ∷ changes) is = order_all (changed t change) changes (order_step t change is)

-- No change alters how many there are at most.

most_case : (t : Roster) (a : Ask) (k : Case) → (does t a k).after.most ≡ t.most
most_case t a (Refuses fault) = refl
most_case t a (Stays c) = refl
most_case t a Adds = refl

most_any : (t : Roster) (o : Option ℕ) → (without_any t o).most ≡ t.most
most_any t None = refl
most_any t (Some n) = refl

most_unless : (t : Roster) (n : ℕ) (o : Option DestroyFault) → (without_unless o t n).most ≡ t.most
most_unless t n None = refl
most_unless t n (Some fault) = refl

most_step : (t : Roster) (change : Change) → (changed t change).most ≡ t.most
most_step t (Exchanges a) = most_case t a (case_of t a)
most_step t (Confirms n) = most_any t (leaving t n)
most_step t (Keeps n result) = refl
most_step t (Reclaims n) = refl
most_step t (Destroys n has_session has_open) = most_unless t n (destroy_fault t n has_session has_open)
most_step t (Removes n) = refl

most_all : (t : Roster) (changes : List Change) → (after_all t changes).most ≡ t.most
most_all t [] = refl
most_all t (change ∷ changes) = most_all (changed t change) changes ∙ most_step t change

pub in_order : TablesAreInOrder
in_order = λ instance most changes within. (
  order_all (no_clients instance most) changes (record {
    rising = omega arith;
    alone = λ c d a b owner mark. absurd a;
    few = omega arith;
    instance = omega arith;
  }),
  most_all (no_clients instance most) changes,
)
