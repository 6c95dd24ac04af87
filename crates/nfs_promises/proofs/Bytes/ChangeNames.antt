-- Names and listings of a directory whose change is the same.
use Rattle.std.proofs.Common.{◌≡◌, ℕ, Bool, true, false, cond, eqb, not, List, [], ◌∷◌, map, Option, Some, None, refl, sym, ◌∙◌, ap, subst}
use Rattle.std.proofs.lemmas.Bool.{and_parts, false≢true}
use Rattle.std.specs.{Prelude.{◌==◌, ◌&&◌, nat_lt, find, filter, option_map, is_some, bytes_eq, Ok, ok_or}, List.list_all}
use Rattle.nfs_xdr.specs.{Checks.{first_fault, judged}, Status.status_number, declared.status.Status.Status}
use Rattle.nfs_xdr.specs.declared.status.Status.TheVariants.{Nfs4Ok, NoEnt, RepTooBig, Stale, Symlink}
use Rattle.nfs_xdr.proofs.Lists.{find_past, filter_past}
use Rattle.nfs_compound.specs.declared.op.Item.TheVariants.{Operation}
use Rattle.nfs_compound.specs.declared.op.Op.TheVariants as Op
use Rattle.nfs_compound.specs.declared.op_num.OpNum.TheVariants as Num
use Rattle.nfs_results.specs.declared.res.Res.TheVariants as Res
use Rattle.nfs_results.specs.Results.{status_of_result}
use Rattle.nfs_tree.specs.Object.{is_link}
use Rattle.nfs_tree.specs.{declared.object.Object.Object, declared.row.Row.Row, Files.{Files, object_at, is_entry, object_named as found, listing, listed}}
use Rattle.nfs_attrs.specs.Permissions.{execute}
use Rattle.nfs_opens.specs.Steps.{◌>>=◌, ◌>>◌, in_order}
use Rattle.nfs_names.specs.{declared.context.Context.Context, declared.node.Node.Node, Context.at_object}
use Rattle.nfs_names.specs.{Checks.{node_as, node_at, current, no_directory, no_access, name_checks}, Lookup.lookup, Outcome.{Outcome, or_refusal}}
use Rattle.nfs_names.specs.State as store
use Rattle.nfs_exec.specs.Runs.Ops.{RanOp}
use Rattle.nfs_exec.proofs.Runs.OneRun.{IsRun, by_item}
use Rattle.nfs_serve.specs.{Step.{ServerState, new_state}}
use Rattle.nfs_promises.specs.{Runs.Points.reached, Bytes.{ChangeTells.entries_in, ChangeNames.{LooksUp, NamesAreAlike}}}
use Rattle.nfs_promises.proofs.{Bytes.ChangeTells.change_tells, Runs.{LaterRecords.{op_done, first_there, later_done}, Points.{IsSound, sound_all, sound_new}}}

-- The entries of a directory say where its names lead, and what is listed.

found_in : (rows : List Row) (d : ℕ) (name : List ℕ) → find (is_entry d name) rows ≡ find (is_entry d name) (entries_in rows d)
found_in rows d name = sym (find_past (is_entry d name) (λ (r : Row). r.directory == d) rows (λ r e. (and_parts (r.directory == d) (bytes_eq r.name name) e).0))

names_same : (t u : Files) (n : ℕ) (name : List ℕ) → entries_in u.rows n ≡ entries_in t.rows n → found u n name ≡ found t n name
names_same t u n name same =
    ap (option_map (λ (r : Row). r.object)) (found_in u.rows n name ∙ (ap (find (is_entry n name)) same ∙ sym (found_in t.rows n name)))

listed_in : (rows : List Row) (d cookie : ℕ)
    → filter (λ (r : Row). (r.directory == d) && nat_lt cookie r.cookie) rows ≡ filter (λ (r : Row). (r.directory == d) && nat_lt cookie r.cookie) (entries_in rows d)
listed_in rows d cookie =
    sym (filter_past (λ (r : Row). (r.directory == d) && nat_lt cookie r.cookie) (λ (r : Row). r.directory == d) rows
    (λ r there e. (and_parts (r.directory == d) (nat_lt cookie r.cookie) e).0))

listing_same : (t u : Files) (n cookie : ℕ) → entries_in u.rows n ≡ entries_in t.rows n → listing u.rows n cookie ≡ listing t.rows n cookie
listing_same t u n cookie same =
    ap (map listed) (listed_in u.rows n cookie ∙ (ap (filter (λ (r : Row). (r.directory == n) && nat_lt cookie r.cookie)) same ∙ sym (listed_in t.rows n cookie)))

-- What LOOKUP answers, by whether the name is there.

-- neither NFS4_OK nor NFS4ERR_NOENT
abbrev is_other : Status → Bool
is_other f = not (eqb (status_number f) 0) && not (eqb (status_number f) 2)

first_other : (checks : List (Bool × Status)) → list_all (λ check. is_other check.1) checks ≡ true → (f : Status) → first_fault checks ≡ Some f → is_other f ≡ true
first_other [] all f e = absurd cc
first_other (check ∷ checks) all f e =
    let parts = and_parts (is_other check.1) (list_all (λ check. is_other check.1) checks) all in
    by_test check.0 check.1 (first_fault checks) parts.0 (first_other checks parts.1 f) e
  where
    by_test : (b : Bool) (g : Status) (rest : Option Status) → is_other g ≡ true → (rest ≡ Some f → is_other f ≡ true) → cond b (Some g) rest ≡ Some f → is_other f ≡ true
    by_test true g rest here more e = let same : g ≡ f = cc in subst (λ (f : Status). is_other f ≡ true) same here
    by_test false g rest here more e = more e

-- it is told by the status
record Tells (there : Bool) (status : Status) : Type 0 where
  pub found : status ≡ Nfs4Ok → there ≡ true
  pub missed : status ≡ NoEnt → there ≡ false

other_tells : (there : Bool) (f : Status) → is_other f ≡ true → Tells there f
other_tells there f e = record {
  found = λ is. absurd (false≢true (ap is_other (sym is) ∙ e));
  missed = λ is. absurd (false≢true (ap is_other (sym is) ∙ e));
}

abbrev TellsIt : Bool → Outcome → Type 0
TellsIt there o = Tells there (status_of_result o.result)

named_tells : (s : store.State) (x : Context) (o : Option ℕ)
    → TellsIt (is_some o) (or_refusal s x Num.Lookup (ok_or o NoEnt >>= λ n. Ok (record { result = Res.Lookup; state = s; context = at_object x n })))
named_tells s x None = record { found = λ is. absurd cc; missed = λ is. refl }
named_tells s x (Some n) = record { found = λ is. refl; missed = λ is. absurd cc }

at_tells : (s : store.State) (x : Context) (checks : List (Bool × Status)) (o : Option ℕ) → list_all (λ check. is_other check.1) checks ≡ true
    → TellsIt (is_some o) (or_refusal s x Num.Lookup (in_order checks >> (ok_or o NoEnt >>= λ n. Ok (record { result = Res.Lookup; state = s; context = at_object x n }))))
at_tells s x checks o all = by_fault (first_fault checks) refl
  where
    by_fault : (v : Option Status) → first_fault checks ≡ v
        → TellsIt (is_some o) (or_refusal s x Num.Lookup (judged v >> (ok_or o NoEnt >>= λ n. Ok (record { result = Res.Lookup; state = s; context = at_object x n }))))
    by_fault None e = named_tells s x o
    by_fault (Some f) e = other_tells (is_some o) f (first_other checks all f e)

node_tells : (s : store.State) (x : Context) (name : List ℕ) (n : ℕ) (o : Option Object)
    → TellsIt (is_some (found s.tree n name)) (or_refusal s x Num.Lookup (node_as n o >>= λ d.
    in_order ((is_link d.object.kind, Symlink) ∷ no_directory d ∷ no_access x d execute ∷ name_checks name)
    >> (ok_or (found s.tree d.number name) NoEnt >>= λ n. Ok (record { result = Res.Lookup; state = s; context = at_object x n }))))
node_tells s x name n None = other_tells (is_some (found s.tree n name)) Stale refl
node_tells s x name n (Some o) =
    let d : Node = record { number = n; object = o } in
    at_tells s x ((is_link d.object.kind, Symlink) ∷ no_directory d ∷ no_access x d execute ∷ name_checks name) (found s.tree n name) refl

lookup_tells : (s : store.State) (x : Context) (name : List ℕ) (n : ℕ) → x.current ≡ Some n → TellsIt (is_some (found s.tree n name)) (lookup s x name)
unfolding current lookup
lookup_tells s x name n at =
    subst (λ (k : Option ℕ). TellsIt (is_some (found s.tree n name)) (or_refusal s x Num.Lookup (node_at s k >>= λ d.
    in_order ((is_link d.object.kind, Symlink) ∷ no_directory d ∷ no_access x d execute ∷ name_checks name)
    >> (ok_or (found s.tree d.number name) NoEnt >>= λ n. Ok (record { result = Res.Lookup; state = s; context = at_object x n }))))) (sym at)
    (node_tells s x name n (object_at s.tree n))

run_tells : (n : ℕ) (name : List ℕ) (status : Status) (d : RanOp) → IsRun d → LooksUp n name status d → Tells (is_some (found d.before.store.tree n name)) status
run_tells n name status d r looks =
    let there = is_some (found d.before.store.tree n name) in
    subst (Tells there) looks.answers
    (by_item (λ status text s. Tells there status) d r (Operation (Op.Lookup name)) looks.is (other_tells there RepTooBig refl)
    (lookup_tells d.before.store d.context name n looks.at))

found_missed : (n : ℕ) (name : List ℕ) (d e : RanOp) → IsRun d → IsRun e → found e.before.store.tree n name ≡ found d.before.store.tree n name
    → LooksUp n name Nfs4Ok d → LooksUp n name NoEnt e → ⊥
found_missed n name d e r q same finds misses =
    false≢true (sym ((run_tells n name NoEnt e q misses).missed refl) ∙ (ap is_some same ∙ (run_tells n name Nfs4Ok d r finds).found refl))

pub names_are_alike : NamesAreAlike
names_are_alike start earlier c front d back more e n same there here behind equal =
    let t : Files = d.before.store.tree in
    let u : Files = e.before.store.tree in
    let entries : entries_in u.rows n ≡ entries_in t.rows n =
    ((change_tells start earlier c front d back more e n same there here behind).same equal).entries in
    record {
      names = λ name. names_same t u n name entries;
      entries = λ cookie. listing_same t u n cookie entries;
      found = λ name. found_missed n name d e run_d run_e (names_same t u n name entries);
      missed = λ name misses finds. found_missed n name e d run_e run_d (sym (names_same t u n name entries)) finds misses;
    }
  where
    s : ServerState
    s = reached start earlier

    sound : IsSound s
    sound = sound_all (new_state start) earlier (sound_new start)

    run_d : IsRun d
    run_d = (op_done s c sound d (first_there s c front d back same)).run

    run_e : IsRun e
    run_e = (later_done s c front d back more sound same e there).run
