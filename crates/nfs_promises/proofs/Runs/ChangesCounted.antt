-- An operation changes the tree once or not at all, and so the count of changes tells how many operations ran, modulo 10^9.
use Rattle.std.proofs.Common.{◌≡◌, ◌⊎◌, inl, inr, ℕ, ◌+◌, ◌<◌, ◌≤◌, Bool, true, false, Option, Some, None, refl, sym, ◌∙◌, ap, subst, arith}
use Rattle.std.proofs.lemmas.Bool.{cases_Bool, ltb-true, ltb-false, true≢false}
use Rattle.std.specs.Prelude.{nat_lt, ◌&&◌}
use Rattle.nfs_xdr.specs.declared.time.Time.{Time}
use Rattle.nfs_compound.specs.declared.{file_args.SetAttr.SetAttr, file_args.Write.Write}
use Rattle.nfs_compound.specs.declared.open_args.Open.{Open}
use Rattle.nfs_compound.specs.declared.op.Op.{Op}
use Rattle.nfs_compound.specs.declared.op.Item.{Item, TheVariants.{Operation, Fault}}
use Rattle.nfs_compound.specs.declared.op_num.OpNum.TheVariants as Num
use Rattle.nfs_results.specs.declared.res.Res.{Res}
use Rattle.nfs_tree.specs.{Files.{Files, next_count}, Bytes.has_bytes}
use Rattle.nfs_attrs.specs.declared.wanted.Wanted.{Wanted}
use Rattle.nfs_opens.specs.Closing.{without_open}
use Rattle.nfs_names.specs.{declared.context.Context.Context, declared.node.Node.Node, State.{State, time_at}, Ending.{with_opens}}
use Rattle.nfs_names.specs.{Checks.current, Outcome.checked}
use Rattle.nfs_names.proofs.Ones.{by_delay}
use Rattle.nfs_files.specs.{Operation.grows, Parts.writable}
use Rattle.nfs_files.specs.OpenParts as open_parts
use Rattle.nfs_files.specs.Open as of_open
use Rattle.nfs_files.specs.SetAttrParts as set_parts
use Rattle.nfs_files.specs.SetAttr as of_set
use Rattle.nfs_files.specs.Parts as parts
use Rattle.nfs_files.specs.Write as of_write
use Rattle.nfs_files.proofs.Effected.{caused_item}
use Rattle.nfs_files.proofs.Effects as effects
use Rattle.nfs_files.proofs.Outcomes as files
use Rattle.nfs_files.proofs.{OpenTrees.opened_once, WrittenOps.by_found}
use Rattle.nfs_files.proofs.InSteps as in_steps
use Rattle.nfs_exec.specs.Runs.Ops.{RanOp}
use Rattle.nfs_exec.proofs.Runs.OneRun.{IsRun, by_run}
use Rattle.nfs_promises.proofs.Names.NameRows.{Once, unused_count, did_names}

-- Operations on open files: OPEN, SETATTR and WRITE may change the tree.

once_open : (s : State) (x : Context) (now : Time) (o : Open) → Once s (of_open.open_file s x now o)
once_open s x now o =
    rw (in_steps.open_is s x now o)
    (by_found (Once s) s x Num.Open (checked (open_parts.asked_for s x o) (of_open.last_checks s x o)) (of_open.opened s x now o)
    (λ status. inl refl) (λ f granted. opened_once s.tree x now o f))

set_count : (t : Files) (x : Context) (d : Node) (now : Time) (wanted : Wanted) (size : Option ℕ)
    → ((of_set.with_set t x d now wanted size).changes ≡ t.changes) ⊎ ((of_set.with_set t x d now wanted size).changes ≡ next_count t.changes)
set_count t x d now wanted (Some size) = inr refl
set_count t x d now wanted None = elim (cases_Bool (of_set.gives_some wanted)) [ inl some ↦ rw some (inr refl) | inr empty ↦ rw empty (inl refl) ]

once_set : (s : State) (x : Context) (now : Time) (a : SetAttr) → Once s (of_set.set_attr s x now a)
once_set s x now a =
    rw (in_steps.set_attr_is s x now a)
    (by_found (Once s) s x Num.SetAttr (checked (set_parts.asked_for s x a) (set_parts.last_checks s)) (set_parts.was_set s x now a)
    (λ status. inl refl) (λ m granted. set_count s.tree x m.node now m.wanted m.wanted.size))

once_write : (s : State) (x : Context) (now : Time) (w : Write) → Once s (of_write.write s x now w)
once_write s x now w =
    rw (in_steps.write_is s x now w)
    (by_found (Once s) s x Num.Write (checked (writable s x w.stateid (current s x)) (of_write.last_checks s w)) (parts.was_written s x now w)
    (λ status. inl refl) (λ d granted. elim (cases_Bool (has_bytes w.bytes)) [ inl some ↦ rw some (inr refl) | inr empty ↦ rw empty (inl refl) ]))

-- the others leave the count
abbrev changes : Op → Bool
changes (Op.Open o) = true
changes (Op.SetAttr a) = true
changes (Op.Write w) = true
changes op = false

leaves_count : (s t : State) (x : Context) (op : Op) (r : Res) (e : effects.Effect) (count : ℕ) → changes op ≡ false → effects.Caused s x op r t e → t.tree.changes ≡ count
    → (effects.behind t e).tree.changes ≡ count
leaves_count s t x op r (effects.Names e) count other caused is = absurd (true≢false (sym (ap changes caused.cause.1.is) ∙ other))
leaves_count s t x op r (effects.Writes n offset text sets now) count other caused is = absurd (true≢false (sym (ap changes caused.cause.is) ∙ other))
leaves_count s t x op r (effects.Resizes n size sets now) count other caused is = elim caused.cause [
  | inl set ↦ absurd (true≢false (sym (ap changes set.is) ∙ other))
  | inr opened ↦ absurd (true≢false (sym (ap changes opened.opens.is) ∙ other))
]
leaves_count s t x op r (effects.Changes n sets now) count other caused is = absurd (true≢false (sym (ap changes caused.cause.is) ∙ other))
leaves_count s t x op r (effects.Closes n file) count other caused is = unused_count (with_opens t (without_open t.opens n)) file ∙ is
leaves_count s t x op r e count other caused is = is

once_files : (refused : Bool) (s : State) (x : Context) (now : Time) (i : Item) → Once s (files.comes_to refused s x now i)
once_files refused s x now (Operation (Op.Open o)) =
    by_delay (Once s) (grows s x (Op.Open o) && refused) s x Num.Open (of_open.open_file s x now o) (inl refl) (once_open s x now o)
once_files refused s x now (Operation (Op.SetAttr a)) =
    by_delay (Once s) (grows s x (Op.SetAttr a) && refused) s x Num.SetAttr (of_set.set_attr s x now a) (inl refl) (once_set s x now a)
once_files refused s x now (Operation (Op.Write w)) =
    by_delay (Once s) (grows s x (Op.Write w) && refused) s x Num.Write (of_write.write s x now w) (inl refl) (once_write s x now w)
once_files refused s x now (Operation op) = inl (caused_item (λ t. t.tree.changes ≡ s.tree.changes) refused s x now (Operation op) (λ one same t e caused is.
    leaves_count s t x one _ e s.tree.changes (let its : Operation op ≡ Operation one = same in (let at : op ≡ one = cc in ap changes (sym at))) caused is) refl)
once_files refused s x now (Fault n status) = inl refl

pub run_count : (d : RanOp) → IsRun d
    → (d.behind.store.tree.changes ≡ d.before.store.tree.changes) ⊎ (d.behind.store.tree.changes ≡ next_count d.before.store.tree.changes)
run_count d r =
    by_run (λ status text s. (s.tree.changes ≡ d.before.store.tree.changes) ⊎ (s.tree.changes ≡ next_count d.before.store.tree.changes)) d r (inl refl)
    (λ o e. (did_names r.refused d.before.store d.context (time_at d.before.store r.now) d.item o e).1)
    (once_files r.refused d.before.store d.context (time_at d.before.store r.now) d.item) (λ other. inl refl)

-- Behind so many operations the count is that of the first and no more than as many; or that less 10^9, if it came to that once.

pub next_is : (n : ℕ) → n < 1000000000 → ((next_count n ≡ n + 1) × (n < 999999999)) ⊎ ((next_count n ≡ 0) × (n ≡ 999999999))
next_is n small = elim (cases_Bool (nat_lt n 999999999)) [
  | inl less ↦ (let under = ltb-true n 999999999 less in inl (rw less refl, under))
  | inr last ↦ (let over = ltb-false n 999999999 last in inr (rw last refl, omega arith))
]

pub next_small : (n : ℕ) → next_count n < 1000000000
next_small n = elim (cases_Bool (nat_lt n 999999999)) [
  | inl less ↦ (let under = ltb-true n 999999999 less in rw less (omega arith))
  | inr last ↦ rw last (omega arith)
]

pub record Counts (base w : ℕ) (s : State) : Type 0 where
  pub low : base < 1000000000
  pub small : s.tree.changes < 1000000000
  pub more : ℕ
  pub few : more ≤ w
  pub either : (s.tree.changes ≡ base + more) ⊎ (s.tree.changes + 1000000000 ≡ base + more)

pub at_first : (base : ℕ) (s : State) → base < 1000000000 → s.tree.changes ≡ base → Counts base 0 s
at_first base s low same = record { low = low; small = omega arith; more = 0; few = omega arith; either = inl (omega arith) }

pub same_counts : (base w v : ℕ) (s t : State) → w ≤ v → t.tree.changes ≡ s.tree.changes → Counts base w s → Counts base v t
same_counts base w v s t rise same is =
    let few = is.few in
    let small = is.small in
    record {
      low = is.low;
      small = omega arith;
      more = is.more;
      few = omega arith;
      either = subst (λ (k : ℕ). (k ≡ base + is.more) ⊎ (k + 1000000000 ≡ base + is.more)) (sym same) is.either;
    }

next_counts : (base w : ℕ) (s t : State) → w < 1000000000 → t.tree.changes ≡ next_count s.tree.changes → Counts base w s → Counts base (w + 1) t
next_counts base w s t fits next is =
    let low = is.low in
    let few = is.few in
    elim (next_is s.tree.changes is.small) [
      | inl up ↦
          (let one : t.tree.changes ≡ s.tree.changes + 1 = next ∙ up.0 in
          let under = up.1 in
          record {
            low = is.low;
            small = omega arith;
            more = is.more + 1;
            few = omega arith;
            either = elim is.either [ inl here ↦ inl (omega arith) | inr past ↦ inr (omega arith) ];
          })
      | inr back ↦
          (let zero : t.tree.changes ≡ 0 = next ∙ back.0 in
          let last = back.1 in
          record {
            low = is.low;
            small = omega arith;
            more = is.more + 1;
            few = omega arith;
            either = elim is.either [ inl here ↦ inr (omega arith) | inr past ↦ absurd (omega arith) ];
          })
    ]

pub ran_counts : (base w : ℕ) (d : RanOp) → IsRun d → w < 1000000000 → Counts base w d.before.store → Counts base (w + 1) d.behind.store
ran_counts base w d r fits is = elim (run_count d r) [
  | inl same ↦ same_counts base w (w + 1) d.before.store d.behind.store (omega arith) same is
  | inr next ↦ next_counts base w d.before.store d.behind.store fits next is
]
