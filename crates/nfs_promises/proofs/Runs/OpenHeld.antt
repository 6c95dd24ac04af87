-- An open that was told, through the operations of an event.
use Rattle.std.proofs.{Common.{◌≡◌, ◌≢◌, ℕ, Bool, true, false, cond, List, ◌∷◌, ◌++◌, Some, None, refl, sym, ◌∙◌, ap, subst}, lemmas.Bool.{eq-eqb, true≢false}}
use Rattle.std.proofs.lemmas.Option.{none-some}
use Rattle.std.specs.{Prelude.{◌==◌, filter}, Option.option_map_or}
use Rattle.nfs_xdr.specs.{Tables.In, declared.status.Status.Status, declared.status.Status.TheVariants.RepTooBig, declared.time.Time.Time}
use Rattle.nfs_xdr.proofs.Lists.{in_filter, stays_in}
use Rattle.nfs_compound.specs.{declared.{open_args.Open.Open, op.{Op.Op, Item.{Item, TheVariants.Operation}}}, OpNum.op_number, Request.item_number}
use Rattle.nfs_compound.specs.declared.op_num.OpNum.TheVariants as Num
use Rattle.nfs_results.specs.Results.{spell_result, refusal}
use Rattle.nfs_opens.specs.{declared.records.OpenState.OpenState, Opening.own_open, Table.Table}
use Rattle.nfs_names.specs.{declared.context.Context.Context, Outcome.{Outcome as OfStore, is_ok}, State.{State, time_at}}
use Rattle.nfs_names.specs.Operation as names
use Rattle.nfs_names.proofs.Untouched.{leaves_each}
use Rattle.nfs_files.specs.Operation as table
use Rattle.nfs_files.specs.{Open.asking, OpenDowngrade.bits, Own.HasAsBefore}
use Rattle.nfs_files.specs.{OpenTold.{names_open, OpenTold, Bits, bits_with, bits_had, bits_behind, IsOpenWith, claimed}, OpenLaws.IsToldOpen}
use Rattle.nfs_files.proofs.{Inside.Closes, ToldOpens.{same_opens, short_names_none, told_open_left, told_opens, opens_refused}}
use Rattle.nfs_exec.specs.{Step.Machine.Machine, Step.Laws.{MachineEvent, stepped}, Runs.Ops.{RanOp, ops_by}, Runs.LockHeld.{ClosesOf, is_of}}
use Rattle.nfs_promises.specs.Runs.OpenHeld.{IsOpenBefore, the_open, TellsOpen}
use Rattle.nfs_exec.proofs.Runs.{KeptByRuns.Is, OneRun.{IsRun, by_item, by_run}, WhatWasDone.{told_close, event_run}, OneWalk.{Stays, IsTold, told_walked}}
use Rattle.nfs_promises.proofs.Runs.OthersByRuns.{SparesClient, event_apart}

-- what others leave
open_frame : (k : OpenTold) (b : Bits) (t u : Table) → HasAsBefore k.client t u → IsOpenWith k b t → IsOpenWith k b u
open_frame k b t u own is =
    let p : OpenState → Bool = λ o. o.client == k.client in
    let mine : In is.state (filter p t.opens) = stays_in p t.opens is.state is.there (eq-eqb is.state.client k.client is.client) in
    record {
      state = is.state;
      there = (in_filter p u.opens is.state (subst (In is.state) (sym own.opens) mine)).0;
      number = is.number;
      client = is.client;
      owner = is.owner;
      file = is.file;
      access = is.access;
      deny = is.deny;
    }

-- One operation.

refused_bits : (n : ℕ) (i : Item) (status : Status) (b : Bits) → bits_behind n i (spell_result (refusal (item_number i) status)) b ≡ b
refused_bits n (Operation (Op.Open a)) status b = ap (λ v. cond v (bits_with b a) b) (short_names_none Num.Open (op_number Num.Open) status n)
refused_bits n (Operation (Op.OpenDowngrade a)) status b =
    ap (λ v. cond v (record { access = bits a.share_access; deny = bits a.share_deny }) b)
    (short_names_none Num.OpenDowngrade (op_number Num.OpenDowngrade) status n)
refused_bits n i status b = refl

named_bits : (n : ℕ) (i : Item) (text : List ℕ) (b : Bits) (refused : Bool) (s : State) (x : Context) (now : Time) (o : OfStore)
    → names.comes_to refused s x now i ≡ Some o → bits_behind n i text b ≡ b
named_bits n (Operation (Op.Open a)) text b refused s x now o on = absurd (none-some o on)
named_bits n (Operation (Op.OpenDowngrade a)) text b refused s x now o on = absurd (none-some o on)
named_bits n i text b refused s x now o on = refl

other_bits : (n : ℕ) (i : Item) (text : List ℕ) (b : Bits) (refused : Bool) (s : State) (x : Context) (now : Time)
    → table.comes_to refused s x now i ≡ None → bits_behind n i text b ≡ b
other_bits n (Operation (Op.Open a)) text b refused s x now off = absurd (none-some _ (sym off))
other_bits n (Operation (Op.OpenDowngrade a)) text b refused s x now off = absurd (none-some _ (sym off))
other_bits n i text b refused s x now off = refl

open_behind : (k : OpenTold) (b : Bits) (d : RanOp) → IsRun d → IsOpenWith k b d.before.store.opens → (ClosesOf d k.number → ⊥)
    → IsOpenWith k (bits_behind k.number d.item d.result b) d.behind.store.opens
open_behind k b d r stands spares =
    let s = d.before.store in
    by_run (λ status text u. (is_ok status ≡ true → (op : Op) → d.item ≡ Operation op → (n : ℕ) → Closes s d.context op n → n ≢ k.number)
    → IsOpenWith k (bits_behind k.number d.item text b) u.opens) d r
    (λ spares. subst (λ c. IsOpenWith k c s.opens) (sym (refused_bits k.number d.item RepTooBig b)) stands)
    (λ o e spares. subst (λ c. IsOpenWith k c o.state.opens) (sym (named_bits k.number d.item (spell_result o.result) b r.refused s d.context (time_at s r.now) o e))
    (same_opens k b s.opens o.state.opens (ap (λ (t : Table). t.opens) (leaves_each r.refused s d.context (time_at s r.now) d.item o e).opens) stands))
    (λ spares. told_open_left k b r.refused s d.context (time_at s r.now) d.item r.whole.table r.whole.few spares stands)
    (λ other spares. subst (λ c. IsOpenWith k c s.opens) (sym (other_bits k.number d.item _ b r.refused s d.context (time_at s r.now) other)) stands)
    (λ ok op item n closes mine. spares (subst (ClosesOf d) mine (told_close d r op n item ok closes)))

-- An OPEN that answers its stateid.

before_open : (k : OpenTold) (b : Bits) (d : RanOp) → IsRun d → IsOpenWith k b d.before.store.opens → IsOpenBefore k b d
before_open k b d r stands = record {
  stands = stands;
  refused = λ n o e. by_item (λ status text s. names_open Num.Open text n ≡ true → claimed s.tree d.context o.asked.claim ≡ Some k.file → ⊥) d r
      (Operation (Op.Open o.asked)) o.is (λ named leads. true≢false (sym named ∙ short_names_none Num.Open (op_number Num.Open) RepTooBig n))
      (λ named leads. opens_refused k b r.refused d.before.store d.context (time_at d.before.store r.now) o.asked n r.whole.table r.whole.few stands named leads e) o.names o.leads;
}

pub open_stays : (k : OpenTold) → Stays (the_open k) (SparesClient k.client)
open_stays k = record {
  step = λ b d r stands. (before_open k b d r stands, open_behind k b d r stands);
  idle = λ b m e is idle alone. open_frame k b m.store.opens (stepped m e).store.opens
      (event_apart k.client m e is (ap (λ o. option_map_or (is_of k.client) o false) idle.unrun) alone);
}

-- What an OPEN told.

run_told : (d : RanOp) → IsRun d → (a : Open) (n : ℕ) → d.item ≡ Operation (Op.Open a) → names_open Num.Open d.result n ≡ true
    → (file : ℕ) × IsToldOpen d.before.store d.context a n d.behind.store file
run_told d r a n item = by_item (λ status text s. names_open Num.Open text n ≡ true → (file : ℕ) × IsToldOpen d.before.store d.context a n s file) d r
    (Operation (Op.Open a)) item (λ named. absurd (true≢false (sym named ∙ short_names_none Num.Open (op_number Num.Open) RepTooBig n)))
    (λ named. told_opens r.refused d.before.store d.context (time_at d.before.store r.now) a n r.whole.table r.whole.few named)

told_stands : (k : OpenTold) (b : Bits) (d : RanOp) → IsRun d → TellsOpen k b d → IsOpenWith k b d.behind.store.opens
told_stands k b d r tells =
    let o = tells.opens in
    let (file, told) = run_told d r o.asked k.number o.is o.names in
    let there : Some file ≡ Some k.file = sym told.leads ∙ o.leads in
    let same : file ≡ k.file = cc in
    let had : Bits = bits_with (bits_had (own_open d.before.store.opens (asking d.context o.asked file))) o.asked in
    let bits : had ≡ b = ap (λ f. bits_with (bits_had (own_open d.before.store.opens (asking d.context o.asked f))) o.asked) same ∙ sym tells.bits in
    let is = told.stands in
    record {
      state = is.state;
      there = is.there;
      number = is.number;
      client = is.client ∙ sym tells.client;
      owner = is.owner ∙ sym tells.owner;
      file = is.file ∙ same;
      access = is.access ∙ ap (λ (c : Bits). c.access) bits;
      deny = is.deny ∙ ap (λ (c : Bits). c.deny) bits;
    }

pub told_open : (k : OpenTold) (b : Bits) (m : Machine) (e : MachineEvent) (front : List RanOp) (told : RanOp) (back : List RanOp) → Is m
    → ops_by m e ≡ front ++ told ∷ back → TellsOpen k b told → IsTold (the_open k) b k.client m e back
told_open k b m e front told back is same tells =
    told_walked (the_open k) (SparesClient k.client) (open_stays k) k.client m e front told back is same (sym tells.client) b (λ run. told_stands k b told run tells)

pub each_tells : (m : Machine) (e : MachineEvent) (d : RanOp) (a : Open) (n : ℕ) → Is m → In d (ops_by m e) → d.item ≡ Operation (Op.Open a)
    → names_open Num.Open d.result n ≡ true
    → (k : OpenTold) × (b : Bits) × (k.number ≡ n) × TellsOpen k b d
each_tells m e d a n is there item named =
    let (file, told) = run_told d (event_run m e is d there).0 a n item named in (
      record { number = n; client = d.context.client; owner = a.owner.owner; file = file },
      bits_with (bits_had (own_open d.before.store.opens (asking d.context a file))) a,
      refl,
      record { opens = record { asked = a; is = item; names = named; leads = told.leads }; client = refl; owner = refl; bits = refl },
    )
