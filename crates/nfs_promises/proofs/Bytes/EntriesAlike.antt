-- An entry of a listing tells what a GETATTR of its object does, and so the same while the object's change is the same.
use Rattle.std.proofs.Common.{◌≡◌, ℕ, true, List, Option, Some, refl, sym, ◌∙◌, ap, subst}
use Rattle.std.specs.Prelude.{option_map}
use Rattle.nfs_xdr.specs.Tables.{In}
use Rattle.nfs_results.specs.{declared.res.Entry.Entry, declared.res.Fattr.Fattr, Results.spell_result}
use Rattle.nfs_results.specs.declared.res.Res.TheVariants as Res
use Rattle.nfs_tree.specs.{declared.{row.Row.Row, stored.Stored.Stored}, Files.{is_there, object_at, object_named}}
use Rattle.nfs_attrs.specs.{Mask.mask_of, declared.mask.Mask.Mask}
use Rattle.nfs_names.specs.ReadDir.{attributes_at, entry_of}
use Rattle.nfs_names.specs.State as store
use Rattle.nfs_exec.specs.Runs.Ops.{RanOp}
use Rattle.nfs_exec.proofs.{Step.Instances.instance_kept, Runs.OneRun.IsRun}
use Rattle.nfs_promises.proofs.Runs.{LeaseTold.lease_kept, LimitsKept.{limits_kept, profile_kept}}
use Rattle.nfs_serve.specs.{Step.new_state}
use Rattle.nfs_promises.specs.{Bytes.EntriesAlike.{TellsOf, Gets, Lists, EntriesAreAlike}, Names.ListsAll.{Page, IsPage}, Runs.Points.reached}
use Rattle.nfs_promises.proofs.Bytes.{ChangeAttributes.{text_there, Attributes, gets_run, text_same, stored_there}, ChangeTells.{change_tells, there_stored}}
use Rattle.nfs_promises.proofs.Runs.{LaterRecords.{op_done, first_there, later_keeps, later_done}, Points.{IsSound, sound_all, sound_new}}
use Rattle.nfs_promises.proofs.Names.{ListsAll.page_lists, PageLists.first_in, PageRows.{entry_at, entry_name}}
use Rattle.nfs_promises.specs.Bytes.ChangeTells.{AttributesAreAlike}

entry_attrs : (s : store.State) (mask : Mask) (r : Row) → (entry_at s mask r).attrs ≡ attributes_at s mask r.object (object_at s.tree r.object)
unfolding entry_of
entry_attrs s mask r = refl

row_text : (s : store.State) (words : List ℕ) (r : Row) (n : ℕ) (f : Fattr) → r.object ≡ n → is_there s.tree n ≡ true
    → f ≡ (entry_at s (mask_of words) r).attrs → Attributes n words s (spell_result (Res.GetAttr f))
row_text s words r n f same there is =
    let st = there_stored s.tree n there in
    let mask = mask_of words in
    record {
      kept = st.0;
      there = st.1;
      answers = ap (λ (f : Fattr). spell_result (Res.GetAttr f))
          (is ∙ (entry_attrs s mask r ∙ (ap (λ n. attributes_at s mask n (object_at s.tree n)) same
          ∙ ap (λ (o : Option Stored). attributes_at s mask n (option_map (λ (k : Stored). k.object) o)) st.1))) ∙ text_there words n s st.0 st.1;
    }

entry_told : (directory cookie n : ℕ) (p : Page) (e : Entry) → IsRun p.op → IsPage directory cookie p → In e p.told.entries
    → object_named p.op.before.store.tree directory e.name ≡ Some n → Attributes n p.asked.attr_request p.op.before.store (spell_result (Res.GetAttr e.attrs))
entry_told directory cookie n p e run page within leads =
    let s = p.op.before.store in
    let mask = mask_of p.asked.attr_request in
    let is = page_lists p directory cookie run page in
    let row = is.from e (first_in p.told.entries is.rest e within) in
    let r = row.0 in
    let name : e.name ≡ r.name = ap (λ (e : Entry). e.name) row.4 ∙ entry_name s mask r in
    let found : object_named s.tree directory e.name ≡ Some r.object =
    ap (λ d. object_named s.tree d e.name) (sym row.2) ∙ (ap (object_named s.tree r.directory) name ∙ ap (option_map (λ (r : Row). r.object)) (run.whole.tree.rows.found r row.1)) in
    let same : r.object ≡ n = (let both : Some r.object ≡ Some n = sym found ∙ leads in cc) in
    row_text s p.asked.attr_request r n e.attrs same (subst (λ n. is_there s.tree n ≡ true) same (run.whole.tree.rows.names r row.1)) (ap (λ (e : Entry). e.attrs) row.4)

tells : (n : ℕ) (words : List ℕ) (d : RanOp) (told : List ℕ) → IsRun d → TellsOf n words d told → Attributes n words d.before.store told
tells n words d told run (Gets gets is) = subst (Attributes n words d.before.store) is (gets_run n words d run gets)
tells n words d told run (Lists directory cookie p e page op asks within leads is) =
    subst (λ (d : RanOp). Attributes n words d.before.store told) op
    (subst (λ words. Attributes n words p.op.before.store told) asks
    (subst (Attributes n p.asked.attr_request p.op.before.store) is (entry_told directory cookie n p e (subst IsRun (sym op) run) page within leads)))

pub entries_are_alike : EntriesAreAlike
entries_are_alike start earlier c front d back more e n words told also same there equal quiet here behind =
    let s = reached start earlier in
    let sound : IsSound s = sound_all (new_state start) earlier (sound_new start) in
    let run : IsRun d = (op_done s c sound d (first_there s c front d back same)).run in
    let first = tells n words d told run here in
    let second = tells n words e also (later_done s c front d back more sound same e there).run behind in
    let alike = (change_tells start earlier c front d back more e n same there (stored_there d.before.store.tree n first.kept first.there)
    (stored_there e.before.store.tree n second.kept second.there)).same equal in
    let b = d.before.store in
    let instances = instance_kept b.opens.instance in
    let leases = lease_kept b.lease in
    let limits = limits_kept b.tree.limits in
    let profiles = profile_kept b.tree.profile in
    text_same words n b e.before.store told also
    (later_keeps (λ t. t.opens.instance ≡ b.opens.instance) instances s c front d back more sound same (instances.run d run refl) e there)
    (later_keeps (λ t. t.lease ≡ b.lease) leases s c front d back more sound same (leases.run d run refl) e there)
    (later_keeps (λ t. t.tree.limits ≡ b.tree.limits) limits s c front d back more sound same (limits.run d run refl) e there)
    (later_keeps (λ t. t.tree.profile ≡ b.tree.profile) profiles s c front d back more sound same (profiles.run d run refl) e there)
    quiet alike.stored alike.names first second

-- two GETATTRs tell the same: a case of these
pub attributes_are_alike : AttributesAreAlike
attributes_are_alike start earlier c front d back more e n words same there equal quiet gets also =
    entries_are_alike start earlier c front d back more e n words d.result e.result same there equal quiet (Gets gets refl) (Gets also refl)
