-- A lock state is whose it was, on the file and under the open that it had: no operation gives its number to another one.
use Rattle.std.proofs.Common.{◌≡◌, ◌⊎◌, ℕ, ◌<◌, ◌≤◌, Bool, true, false, cond, List, map, Option, Some, None, refl, sym, ◌∙◌, ap, subst, arith, inl, inr}
use Rattle.std.specs.Prelude.{◌==◌, not, if◌then◌else◌}
use Rattle.nfs_xdr.specs.Tables.{In}
use Rattle.nfs_xdr.proofs.Lists.{in_filter, in_map, in_push}
use Rattle.nfs_opens.specs.{declared.records.{LockState.LockState, OpenState.OpenState}, Locking.raised, Opening.{own_open, opens_by}, Table.{Table, Asked}}
use Rattle.nfs_names.specs.{Ending.table_staying, State.time_at}
use Rattle.nfs_names.proofs.Untouched.{leaves_each}
use Rattle.nfs_files.proofs.{Effected.kept_opens, Effects.{Effect, Opens, Closes, Locks, Begins, Unlocks, Frees, table_behind}}
use Rattle.nfs_exec.proofs.{Runs.OneRun.by_run, Runs.OneWalk.IsKept}
use Rattle.nfs_opens.proofs.Terms.{not_under}

-- the same lock state, whose seqid may have risen
pub record IsAs (k l : LockState) : Type 0 where
  pub number : k.number ≡ l.number
  pub client : k.client ≡ l.client
  pub owner : k.owner ≡ l.owner
  pub file : k.file ≡ l.file
  pub opened : k.opened ≡ l.opened

-- each lock state was there, or has a number that was not yet given
pub record Descends (t u : Table) : Type 0 where
  pub last : t.last ≤ u.last
  pub states : (l : LockState) → In l u.locks → ((k : LockState) × In k t.locks × IsAs k l) ⊎ (t.last < l.number)

pub as_itself : (l : LockState) → IsAs l l
as_itself l = record { number = refl; client = refl; owner = refl; file = refl; opened = refl }

pub as_both : (j k l : LockState) → IsAs j k → IsAs k l → IsAs j l
as_both j k l a b = record {
  number = a.number ∙ b.number;
  client = a.client ∙ b.client;
  owner = a.owner ∙ b.owner;
  file = a.file ∙ b.file;
  opened = a.opened ∙ b.opened;
}

pub descends_same : (t : Table) → Descends t t
descends_same t = record { last = omega arith; states = λ l there. inl (l, there, as_itself l) }

both : (t u v : Table) → Descends t u → Descends u v → Descends t v
both t u v a b = record {
  last = omega (arith, a.last, b.last);
  states = λ l there. elim (b.states l there) [
    | inl was ↦ elim (a.states was.0 was.1) [
      | inl first ↦ inl (first.0, first.1, as_both first.0 was.0 l first.2 was.2)
      | inr new ↦ inr (let number = was.2.number in omega (arith, new, number))
    ]
    | inr new ↦ inr (omega (arith, new, a.last))
  ];
}

-- What each effect does to the lock states.

fewer : (t u : Table) → t.last ≤ u.last → ((l : LockState) → In l u.locks → In l t.locks) → Descends t u
fewer t u last locks = record { last = last; states = λ l there. inl (l, locks l there, as_itself l) }

change : ℕ → LockState → LockState
change n l = if l.number == n then raised l else l

as_changed : (n : ℕ) (l : LockState) → IsAs l (change n l)
unfolding change
as_changed n l = elim (l.number == n) as (λ v. IsAs l (cond v (raised l) l)) [ true ↦ record { number = refl; client = refl; owner = refl; file = refl; opened = refl } | false ↦ as_itself l ]

-- what a seqid that rises leaves
pub changed_from : (n : ℕ) (locks : List LockState) (l : LockState) → In l (map (λ l. if l.number == n then raised l else l) locks)
    → (k : LockState) × In k locks × IsAs k l
unfolding change
changed_from n locks l there =
    let was = in_map (change n) locks l there in (was.0, was.1, subst (IsAs was.0) (sym was.2) (as_changed n was.0))

changed : (t u : Table) (n : ℕ) → u.last ≡ t.last → u.locks ≡ map (λ l. if l.number == n then raised l else l) t.locks → Descends t u
changed t u n last locks = record {
  last = omega (arith, last);
  states = λ l there. inl (changed_from n t.locks l (subst (In l) locks there));
}

opened : (t : Table) (a : Asked) (o : Option OpenState) → Descends t (opens_by t a o).after
opened t a (Some o) = fewer t (opens_by t a (Some o)).after (omega arith) (λ l there. there)
opened t a None = fewer t (opens_by t a None).after (omega arith) (λ l there. there)

begun : (t : Table) (n : ℕ) (owner : List ℕ) (w : _) → Descends t (table_behind t (Begins n owner w))
begun t n owner w = record {
  last = omega arith;
  states = λ l there. elim (in_push t.locks _ l there) [
    | inl new ↦ inr (let number = ap (λ (l : LockState). l.number) new in omega (arith, number))
    | inr old ↦ inl (l, old, as_itself l)
  ];
}

effect : (t : Table) (e : Effect) → Descends t (table_behind t e)
unfolding change
effect t (Opens a) = opened t a (own_open t a)
effect t (Closes n file) = fewer t (table_behind t (Closes n file)) (omega arith) (λ l there. (in_filter (not_under n) t.locks l there).0)
effect t (Locks n w) = changed t (table_behind t (Locks n w)) n refl refl
effect t (Begins n owner w) = begun t n owner w
effect t (Unlocks n w) = changed t (table_behind t (Unlocks n w)) n refl refl
effect t (Frees n) = fewer t (table_behind t (Frees n)) (omega arith) (λ l there. (in_filter (λ (l : LockState). not (l.number == n)) t.locks l there).0)
effect t e = fewer t (table_behind t e) (omega arith) (λ l there. there)

-- What operations and the end of clients keep.

descends_ends : (t u : Table) (stays : ℕ → Bool) → Descends t u → Descends t (table_staying stays u)
descends_ends t u stays is =
    both t u (table_staying stays u) is
    (fewer u (table_staying stays u) (omega arith) (λ l there. (in_filter (λ (l : LockState). stays l.client) u.locks l there).0))

pub descends_kept : (t : Table) → IsKept (λ s. Descends t s.opens)
descends_kept t = record {
  run = λ d r is. by_run (λ status text s. Descends t s.opens) d r is
      (λ o e. subst (Descends t) (sym (leaves_each r.refused d.before.store d.context (time_at d.before.store r.now) d.item o e).opens) is)
      (kept_opens (Descends t) r.refused d.before.store d.context (time_at d.before.store r.now) d.item (λ u e fits here. both t u.opens (table_behind u.opens e) here (effect u.opens e)) is)
      (λ other. is);
  end = λ stays s is. descends_ends t s.opens stays is;
}
