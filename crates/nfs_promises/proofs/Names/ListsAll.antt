-- Listings are whole, in every run.
use Rattle.std.proofs.Common.{◌≡◌, ℕ, suc, ◌<◌, ◌≤◌, true, false, List, [], ◌∷◌, ◌++◌, Option, Some, None, refl, sym, ◌∙◌, ap, subst, arith, inl, inr}
use Rattle.std.proofs.{lemmas.Bool.{cases_Bool, cases_lt, eq-eqb, ne_eqb}, lemmas.Slice.Eq.bytes_eq-Decides}
use Rattle.std.specs.Prelude.{◌==◌, bytes_eq}
use Rattle.nfs_xdr.specs.Tables.{In}
use Rattle.nfs_xdr.proofs.Lists.{find_in}
use Rattle.nfs_compound.specs.declared.op.Item.TheVariants.{Operation}
use Rattle.nfs_compound.specs.declared.op.Op.TheVariants as Op
use Rattle.nfs_compound.specs.declared.op_num.OpNum.TheVariants as Num
use Rattle.nfs_results.specs.{declared.res.Entry.Entry, declared.res.ReadDirOk.ReadDirOk, Parts.parts, Results.spell_result}
use Rattle.nfs_results.specs.declared.res.Res.TheVariants as Res
use Rattle.nfs_tree.specs.{declared.row.Row.Row, Files.{is_entry, entry}}
use Rattle.nfs_attrs.specs.Mask.{mask_of}
use Rattle.nfs_names.specs.{declared.start.Start.Start, declared.context.Context.Context}
use Rattle.nfs_exec.specs.Runs.Ops.{RanOp}
use Rattle.nfs_exec.proofs.Runs.OneRun.{IsRun, by_ok}
use Rattle.nfs_serve.specs.{Step.{ServerState, new_state}}
use Rattle.nfs_promises.specs.{Bytes.ChangeTells.RunsIn, Network.Endpoint.Arrival, Names.ListsAll.{Page, IsPage, last_cookie, ArePages, entries_of, entry_in}}
use Rattle.nfs_promises.specs.Names.{ListsAll.{IsListedOnce, RowsAreListed, PagesAreParts, all_ops, NamesAreListed, GoneIsUnlisted}, NameStays.TakesIt}
use Rattle.nfs_promises.specs.Names.NameStays.{MakesIt, HoldsWhile, AllSpare, HoldsThrough, HoldsFrom, row_of, LeadsBefore, MissesBefore}
use Rattle.nfs_promises.specs.Runs.Points.{state_after, reached, ops_of}
use Rattle.nfs_promises.proofs.Runs.{LaterRecords.{run_done, later_done}, Points.{sound_all, sound_new}, StatusTold.done_ok}
use Rattle.nfs_promises.proofs.Names.{NameStays.{name_stays, gone_stays}, PageLists.{Rises, times, times_both, counted_same, last_up, front_rises, rest_rises}}
use Rattle.nfs_promises.proofs.Names.{PageLists.{in_page, none_low, none_high, once_in, in_both, first_in, second_in, in_flat}, PageRows.entry_cookie}
use Rattle.nfs_promises.proofs.Names.PageRows.{entry_name, Lists, page_told, one_row, one_cookie, some_cookie}

-- A page is what its READDIR listed.

abbrev pub Told : Page → ℕ → ℕ → Type 0
Told p n c = Lists p.op.before.store (mask_of p.asked.attr_request) n c p.told

pub page_lists : (p : Page) (n c : ℕ) → IsRun p.op → IsPage n c p → Told p n c
page_lists p n c run is =
    let d = p.op in
    let ok = done_ok d run Num.ReadDir ((parts (Res.ReadDir p.told)).behind, is.answers) in
    subst (Told p n) is.from
    (by_ok (λ text left. text ≡ spell_result (Res.ReadDir p.told) → Told p n p.asked.cookie) d run (Operation (Op.ReadDir p.asked)) is.is ok
    (λ fine told. page_told d.before.store d.context p.asked n p.told run.whole.tree is.at is.valid told) is.answers)

-- How often a cookie is listed that a row has.

record Counts (k c : ℕ) (told : ReadDirOk) : Type 0 where
  pub up : c ≤ last_cookie c told.entries
  pub within : c < k → k ≤ last_cookie c told.entries → times k told.entries ≡ 1
  pub over : last_cookie c told.entries < k → times k told.entries ≡ 0
  pub under : k ≤ c → times k told.entries ≡ 0
  pub end : told.eof ≡ true → c < k → k ≤ last_cookie c told.entries

counts : (p : Page) (n c : ℕ) (r : Row) → Told p n c → In r p.op.before.store.tree.rows → r.directory ≡ n → Counts r.cookie c p.told
counts p n c r is there same =
    let s = p.op.before.store in
    let mask = mask_of p.asked.attr_request in
    let es = p.told.entries in
    let rises = front_rises (suc c) is.high es is.rest is.rises in
    let own = entry_in p r in
    record {
      up = last_up c is.high es rises;
      within = λ above below. once_in r.cookie c is.high es is.rest own is.rises (is.has r there same above) (entry_cookie s mask r) below;
      over = λ above. none_high r.cookie c is.high es rises above;
      under = λ below. none_low r.cookie (suc c) is.high es rises (omega arith);
      end = λ eof above.
          (let here = subst (λ rest. In own (es ++ rest)) (is.ends eof) (is.has r there same above) in
          let low = in_page c is.high es own rises (elim (in_both es [] own here) [ inl first ↦ first | inr none ↦ absurd none ]) in
          let cookie = entry_cookie s mask r in omega arith);
    }

abbrev AllRun : List Page → Type 0
AllRun pages = (q : Page) → In q pages → IsRun q.op

abbrev AllStand : Row → List Page → Type 0
AllStand r pages = (q : Page) → In q pages → In r q.op.before.store.tree.rows

counted : (r : Row) (c : ℕ) (p : Page) (more : List Page) → AllRun (p ∷ more) → AllStand r (p ∷ more) → ArePages r.directory c p more
    → (c < r.cookie → times r.cookie (entries_of (p ∷ more)) ≡ 1) × (r.cookie ≤ c → times r.cookie (entries_of (p ∷ more)) ≡ 0)
counted r c p [] run stands pages =
    let k = counts p r.directory c r (page_lists p r.directory c (run p (inl refl)) pages.0) (stands p (inl refl)) refl in
    let both = times_both r.cookie p.told.entries [] in (
      λ above. (let one = k.within above (k.end pages.1 above) in omega arith),
      λ below. (let none = k.under below in omega arith),
    )
counted r c p (q ∷ more) run stands pages =
    let k = counts p r.directory c r (page_lists p r.directory c (run p (inl refl)) pages.0) (stands p (inl refl)) refl in
    let last = last_cookie c p.told.entries in
    let rest = counted r last q more (λ x there. run x (inr there)) (λ x there. stands x (inr there)) pages.1 in
    let both = times_both r.cookie p.told.entries (entries_of (q ∷ more)) in
    let up = k.up in (
      λ above. elim (cases_lt last r.cookie) [
        | inl later ↦ (let none = k.over later in let one = rest.0 later in omega arith)
        | inr here ↦ (let one = k.within above here in let none = rest.1 here in omega arith)
      ],
      λ below. (let none = k.under below in let later = rest.1 (omega arith) in omega arith),
    )

-- Its name is listed as often as its cookie.

each_page : (n c : ℕ) (p : Page) (more : List Page) → ArePages n c p more → (q : Page) → In q (p ∷ more) → (c : ℕ) × IsPage n c q
each_page n c p [] pages q (inl is) = (c, subst (IsPage n c) (sym is) pages.0)
each_page n c p [] pages q (inr none) = absurd none
each_page n c p (x ∷ more) pages q (inl is) = (c, subst (IsPage n c) (sym is) pages.0)
each_page n c p (x ∷ more) pages q (inr later) = each_page n (last_cookie c p.told.entries) x more pages.1 q later

-- an entry that has its name or its cookie is its own
of_name : (p : Page) (n c : ℕ) (r : Row) → IsRun p.op → Told p n c → In r p.op.before.store.tree.rows → r.directory ≡ n → (e : Entry) → In e p.told.entries → e.name ≡ r.name
    → e ≡ entry_in p r
of_name p n c r run is there same e within name =
    let s = p.op.before.store in
    let mask = mask_of p.asked.attr_request in
    let row = is.from e (first_in p.told.entries is.rest e within) in
    let named : row.0.name ≡ r.name = sym (ap (λ (e : Entry). e.name) row.4 ∙ entry_name s mask row.0) ∙ name in
    row.4 ∙ ap (entry_in p) (one_row s.tree run.whole.tree row.0 r row.1 there (row.2 ∙ sym same) named)

of_cookie : (p : Page) (n c : ℕ) (r : Row) → IsRun p.op → Told p n c → In r p.op.before.store.tree.rows → (e : Entry) → In e p.told.entries → e.cookie ≡ r.cookie
    → e ≡ entry_in p r
of_cookie p n c r run is there e within cookie =
    let s = p.op.before.store in
    let mask = mask_of p.asked.attr_request in
    let row = is.from e (first_in p.told.entries is.rest e within) in
    let same : row.0.cookie ≡ r.cookie = sym (ap (λ (e : Entry). e.cookie) row.4 ∙ entry_cookie s mask row.0) ∙ cookie in
    row.4 ∙ ap (entry_in p) (one_cookie s.tree run.whole.tree row.0 r row.1 there same)

same_tests : (p : Page) (n c : ℕ) (r : Row) → IsRun p.op → Told p n c → In r p.op.before.store.tree.rows → r.directory ≡ n → (e : Entry) → In e p.told.entries
    → bytes_eq e.name r.name ≡ (e.cookie == r.cookie)
same_tests p n c r run is there same e within =
    let s = p.op.before.store in
    let mask = mask_of p.asked.attr_request in
    elim (cases_Bool (bytes_eq e.name r.name)) [
      | inl named ↦ (let its = of_name p n c r run is there same e within ((bytes_eq-Decides e.name r.name).0 named) in
          named ∙ sym (eq-eqb e.cookie r.cookie (ap (λ (e : Entry). e.cookie) its ∙ entry_cookie s mask r)))
      | inr other ↦ other ∙ sym (ne_eqb e.cookie r.cookie (λ cookie.
          (let its = of_cookie p n c r run is there e within cookie in
          let named = (bytes_eq-Decides e.name r.name).1 (ap (λ (e : Entry). e.name) its ∙ entry_name s mask r) in
          let bad : true ≡ false = sym named ∙ other in cc)))
    ]

listed_once : (r : Row) (p : Page) (more : List Page) → AllRun (p ∷ more) → AllStand r (p ∷ more) → ArePages r.directory 0 p more → IsListedOnce r (p ∷ more)
listed_once r p more run stands pages =
    let At : (q : Page) → In q (p ∷ more) → (c : ℕ) × Told q r.directory c =
    λ q there. (let is = each_page r.directory 0 p more pages q there in (is.0, page_lists q r.directory is.0 (run q there) is.1)) in
    record {
      once = counted_same (λ (e : Entry). bytes_eq e.name r.name) (λ (e : Entry). e.cookie == r.cookie) (entries_of (p ∷ more)) (λ e there.
          (let within = in_flat (λ (p : Page). p.told.entries) (p ∷ more) e there in
          let at = At within.0 within.1 in
          same_tests within.0 r.directory at.0 r (run within.0 within.1) at.1 (stands within.0 within.1) refl e within.2))
          ∙ (counted r 0 p more run stands pages).0 (some_cookie p.op.before.store.tree (run p (inl refl)).whole.tree r (stands p (inl refl)));
      entry = λ q e there within name. (let at = At q there in of_name q r.directory at.0 r (run q there) at.1 (stands q there) refl e within name);
    }

pub rows_are_listed : RowsAreListed
rows_are_listed start records r p more runs stands pages =
    listed_once r p more (λ q there. (run_done (new_state start) records (sound_new start) q.op (runs q there)).run) stands pages

-- What else is said of a page.

first_left : (p : Page) (n c : ℕ) → (is : Told p n c) → (rest : List Entry) → is.rest ≡ rest → (rest ≡ [] → ⊥)
    → (r : Row) × In r p.op.before.store.tree.rows × (r.directory ≡ n) × (last_cookie c p.told.entries < r.cookie)
first_left p n c is [] same some = absurd (some refl)
first_left p n c is (x ∷ rest) same some =
    let es = p.told.entries in
    let row = is.from x (subst (λ rest. In x (es ++ rest)) (sym same) (second_in es (x ∷ rest) x (inl refl))) in
    let rises = rest_rises c is.high es (x ∷ rest) (subst (λ rest. Rises (suc c) (es ++ rest) is.high) same is.rises) in
    let cookie = ap (λ (e : Entry). e.cookie) row.4 ∙ entry_cookie p.op.before.store (mask_of p.asked.attr_request) row.0 in
    let above = rises.0 in
    (row.0, row.1, row.2, omega arith)

pub pages_are_parts : PagesAreParts
pages_are_parts start records n c p runs page =
    let run = (run_done (new_state start) records (sound_new start) p.op runs).run in
    let is = page_lists p n c run page in
    record {
      there = λ e within. is.from e (first_in p.told.entries is.rest e within);
      last = is.high;
      rises = front_rises (suc c) is.high p.told.entries is.rest is.rises;
      some = λ eof. (is.goes eof).0;
      behind = λ eof. first_left p n c is is.rest refl (is.goes eof).1;
    }

-- What operations said, up to a point.

abbrev pub HoldsFor : (P Spares : RanOp → Type 0) → List RanOp → Type 0
HoldsFor P Spares [] = Unit {0}
HoldsFor P Spares (d ∷ more) = P d × (Spares d → HoldsFor P Spares more)

up_to : (P Spares : RanOp → Type 0) (until rest : List RanOp) → HoldsFor P Spares (until ++ rest) → AllSpare Spares until → (d : RanOp) → In d until → P d
up_to P Spares [] rest holds all d there = absurd there
up_to P Spares (x ∷ until) rest holds all d (inl is) = subst P (sym is) holds.0
up_to P Spares (x ∷ until) rest holds all d (inr more) = up_to P Spares until rest (holds.1 (all x (inl refl))) (λ e there. all e (inr there)) d more

module _ (P : RanOp → Type 0) (Before : RanOp → Option Context → Type 0) (Spares : RanOp → Type 0) (weaker : (d : RanOp) (next : Option Context) → Before d next → P d) where
  while_for : (ds after : List RanOp) → HoldsWhile Before Spares ds → (AllSpare Spares ds → HoldsFor P Spares after) → HoldsFor P Spares (ds ++ after)
  while_for [] after holds rest = rest (λ d there. absurd there)
  while_for (d ∷ ds) after holds rest = (
    weaker d _ holds.0,
    λ spares. while_for ds after (holds.1 spares) (λ all. rest (λ e there. elim there [ inl is ↦ subst Spares (sym is) spares | inr more ↦ all e more ])),
  )

  through_for : (s : ServerState) (records : List Arrival) → HoldsThrough Before Spares s records → HoldsFor P Spares (all_ops s records)
  through_for s [] holds = tt
  through_for s (c ∷ more) holds = while_for (ops_of s c) (all_ops (state_after s c) more) holds.0 (λ all. through_for (state_after s c) more (holds.1 all))

  from_for : (s : ServerState) (c : Arrival) (back : List RanOp) (later : List Arrival) → HoldsFrom Before Spares s c back
      → HoldsFor P Spares (back ++ all_ops (state_after s c) later)
  from_for s c back later holds = while_for back (all_ops (state_after s c) later) holds.0 (λ all. through_for (state_after s c) later (holds.1 all later))

pub in_all : (s : ServerState) (records : List Arrival) (d : RanOp) → In d (all_ops s records) → RunsIn s records d
in_all s [] d there = there
in_all s (c ∷ more) d there = elim (in_both (ops_of s c) (all_ops (state_after s c) more) d there) [ inl here ↦ inl here | inr later ↦ inr (in_all (state_after s c) more d later) ]

-- an operation up to there was run
run_until : (start : Start) (earlier : List Arrival) (c : Arrival) (front : List RanOp) (d : RanOp) (back : List RanOp) (later : List Arrival) (until rest : List RanOp)
    → (let s = reached start earlier in
    ops_of s c ≡ front ++ d ∷ back → back ++ all_ops (state_after s c) later ≡ until ++ rest → (e : RanOp) → In e until → IsRun e)
run_until start earlier c front d back later until rest same parts e there =
    let s = reached start earlier in
    let sound = sound_all (new_state start) earlier (sound_new start) in
    (later_done s c front d back later sound same e (elim (in_both back (all_ops (state_after s c) later) e (subst (In e) (sym parts) (first_in until rest e there))) [
      | inl here ↦ inl here
      | inr behind ↦ inr (in_all (state_after s c) later e behind)
    ])).run

pub names_are_listed : NamesAreListed
names_are_listed start earlier c k front d back later until rest p more same says parts spared within pages =
    let s = reached start earlier in
    let stays = name_stays start earlier c k front d back same says in
    let Spares : RanOp → Type 0 = λ e. TakesIt k.directory k.name e → ⊥ in
    let row = row_of k stays.0 in
    let holds = from_for (λ e. entry e.before.store.tree.rows k.directory k.name ≡ Some row) (LeadsBefore k stays.0) Spares (λ e next is. is.stands) s c back later stays.1 in
    let stands : (e : RanOp) → In e until → entry e.before.store.tree.rows k.directory k.name ≡ Some row =
    up_to (λ e. entry e.before.store.tree.rows k.directory k.name ≡ Some row) Spares until rest (subst (HoldsFor _ Spares) parts holds) spared in (
      stays.0,
      listed_once row p more (λ q there. run_until start earlier c front d back later until rest same parts q.op (within q there))
          (λ q there. (find_in (is_entry k.directory k.name) q.op.before.store.tree.rows row (stands q.op (within q there))).0) pages,
    )

pub gone_is_unlisted : GoneIsUnlisted
gone_is_unlisted start earlier c directory name front d back later until rest cookie p e same denies parts spared within page listed named =
    let s = reached start earlier in
    let stays = gone_stays start earlier c directory name front d back same denies in
    let Spares : RanOp → Type 0 = λ o. MakesIt directory name o → ⊥ in
    let holds = from_for (λ o. entry o.before.store.tree.rows directory name ≡ None) (λ o next. MissesBefore directory name o) Spares (λ o next is. is.gone) s c back later stays in
    let gone : entry p.op.before.store.tree.rows directory name ≡ None =
    up_to (λ o. entry o.before.store.tree.rows directory name ≡ None) Spares until rest (subst (HoldsFor _ Spares) parts holds) spared p.op within in
    let run = run_until start earlier c front d back later until rest same parts p.op within in
    let is = page_lists p directory cookie run page in
    let row = is.from e (first_in p.told.entries is.rest e listed) in
    let its : row.0.name ≡ name = sym (ap (λ (e : Entry). e.name) row.4 ∙ entry_name p.op.before.store (mask_of p.asked.attr_request) row.0) ∙ named in
    let found : entry p.op.before.store.tree.rows directory name ≡ Some row.0 =
    ap (λ n. entry p.op.before.store.tree.rows n name) (sym row.2) ∙ (ap (entry p.op.before.store.tree.rows row.0.directory) (sym its) ∙ run.whole.tree.rows.found row.0 row.1) in
    let bad : None ≡ Some row.0 = sym gone ∙ found in cc
