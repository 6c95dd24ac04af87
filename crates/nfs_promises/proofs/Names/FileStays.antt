-- A file that is open stays, whatever becomes of its names; and an object that no name leads to is not named again.
use Rattle.std.proofs.{Common.{◌≡◌, ◌⊎◌, ℕ, ◌<◌, ◌^◌, Bool, true, false, List, Some, refl, sym, ◌∙◌, ap, inl, inr}, lemmas.Bool.{eq-eqb, false≢true}}
use Rattle.std.specs.Prelude.{◌==◌, ◌||◌}
use Rattle.nfs_xdr.proofs.Lists.{any_in}
use Rattle.nfs_compound.specs.declared.op.{Item.{Item, TheVariants.Operation}, Op.Op}
use Rattle.nfs_attrs.specs.Handle.{handle_of}
use Rattle.nfs_tree.specs.Files.{root, has_row}
use Rattle.nfs_names.specs.State.{is_used, is_open}
use Rattle.nfs_names.specs.State as store
use Rattle.nfs_files.specs.OpenTold.{OpenTold, Bits, IsOpenWith}
use Rattle.nfs_promises.specs.{Runs.OpenHeld.the_open, Names.FileStays.{is_on_current, is_on_saved, IsThere, FilesStay}}
use Rattle.nfs_exec.specs.Runs.Ops.{RanOp}
use Rattle.nfs_exec.proofs.{Step.Instances.instance_kept, Runs.{OneRun.IsRun, WrittenRun.used_there}}
use Rattle.nfs_promises.proofs.{Runs.{ToldOtherwise.from_other, Handles.{handle_in, handle_read}}, Names.Handles.given_at}
use Rattle.nfs_promises.proofs.{Names.StaleTruly.{stale_for, put_found, at_current, at_saved}, Locks.{OneStateEach.{HasOneEach, each_kept}, OpenKept.open_kept}}

-- The file of an open is there.

open_used : (k : OpenTold) (b : Bits) (s : store.State) → IsOpenWith k b s.opens → is_used s k.file ≡ true
open_used k b s is =
    let opened : is_open s k.file ≡ true = any_in (λ o. o.file == k.file) s.opens.opens is.state is.there (eq-eqb is.state.file k.file is.file) in
    go (k.file == root) (has_row s.tree.rows k.file) (is_open s k.file) opened
  where
    go : (a r o : Bool) → o ≡ true → a || (r || o) ≡ true
    go true r o e = refl
    go false true o e = refl
    go false false o e = e

-- Through the operations before which the open stands.

abbrev IsOfHandle : (instance n : ℕ) → List ℕ → Type 0
IsOfHandle instance n h = (instance < 2 ^ 32) × (h ≡ handle_in instance n) × (n < 2 ^ 64)

handle_here : (instance n : ℕ) (h : List ℕ) → IsOfHandle instance n h → (own : ℕ) → own ≡ instance → handle_of h ≡ Some (record { instance = own; number = n })
handle_here instance n h of own same =
    ap handle_of of.1 ∙ (handle_read instance n of.0 of.2 ∙ ap (λ i. Some (record { instance = i; number = n })) (sym same))

-- No object that it looks at is gone, so it is not answered NFS4ERR_STALE.

op_of : (i : Item) → (is_on_current i ≡ true) ⊎ (is_on_saved i ≡ true) → (op : Op) × (i ≡ Operation op)
op_of (Operation op) on = (op, refl)
op_of i (inl on) = absurd (false≢true on)
op_of i (inr on) = absurd (false≢true on)

there_before : (k : OpenTold) (b : Bits) (h : List ℕ) (instance : ℕ) (d : RanOp) → IsOfHandle instance k.file h → IsRun d → HasOneEach d.before.store.opens → d.before.store.opens.instance ≡ instance
    → IsOpenWith k b d.before.store.opens → IsThere k.file h d
there_before k b h instance d of r each own stands =
    let used = open_used k b d.before.store stands in
    record {
      there = used_there d.before.store k.file r.whole used;
      found = λ is stale. put_found d k.file used h (handle_here instance k.file h of d.before.store.opens.instance own) is (stale_for d r each (Op.PutFh h) is stale);
      at_current = λ on off at stale. (let op = op_of d.item (inl on) in at_current d k.file used on off at (stale_for d r each op.0 op.1 stale));
      at_saved = λ on saved at same others stale. (let op = op_of d.item (inr on) in
          at_saved d k.file used on saved at same (λ on n at. r.whole.store.used n (others on n at)) (stale_for d r each op.0 op.1 stale));
    }

pub files_stay : FilesStay
files_stay start earlier c k b h front told back small handle same tells =
    let given = given_at start handle.records handle.record_of handle.get k.file h handle.ran handle.gives in
    let of : IsOfHandle start.instance k.file h = (small, given.0, given.1) in
    from_other (the_open k) (λ b d. IsThere k.file h d) (λ s. (s.opens.instance ≡ start.instance) × HasOneEach s.opens) (record {
      run = λ d r is. ((instance_kept start.instance).run d r is.0, each_kept.run d r is.1);
      end = λ stays s is. ((instance_kept start.instance).end stays s is.0, each_kept.end stays s is.1);
    })
    (λ b d run own is. there_before k b h start.instance d of run own.1 own.0 is.stands) start earlier c front told back k.client start.lease b same (refl, λ k l here. absurd here)
    (open_kept start earlier c k b front told back same tells)
