-- An open that stands, back to the OPEN that granted it.
use Rattle.std.proofs.Common.{◌≡◌, ℕ, Bool, refl, ◌∙◌, ap, inl, inr}
use Rattle.nfs_xdr.proofs.Lists.{in_filter}
use Rattle.nfs_opens.specs.{declared.records.OpenState.OpenState, Table.Table}
use Rattle.nfs_names.specs.Ending.{table_staying}
use Rattle.nfs_files.specs.OpenTold.{OpenTold, Bits, IsOpenWith}
use Rattle.nfs_exec.specs.Runs.LockHeld.{ClosesOf}
use Rattle.nfs_promises.specs.{Runs.OpenHeld.bits_left, Locks.OpenGranted.GrantsOpen}
use Rattle.nfs_promises.proofs.Locks.{OpenBeforeStep.open_before, Traced.{Trace, IsTrace}}

pub open_staying : (k : OpenTold) (b : Bits) (t : Table) (stays : ℕ → Bool) → IsOpenWith k b (table_staying stays t) → IsOpenWith k b t
open_staying k b t stays is = record {
  state = is.state;
  there = (in_filter (λ (o : OpenState). stays o.client) t.opens is.state is.there).0;
  number = is.number;
  client = is.client;
  owner = is.owner;
  file = is.file;
  access = is.access;
  deny = is.deny;
}

abbrev pub open_trace : OpenTold → Trace
open_trace k = record {
  Way = Bits;
  On = λ b t. IsOpenWith k b t;
  Grants = λ b d. GrantsOpen k b d;
  Spares = λ d. ClosesOf d k.number → ⊥;
  Leads = λ had ds b. bits_left k.number had ds ≡ b;
}

pub open_traced : (k : OpenTold) → IsTrace (open_trace k)
open_traced k = record {
  none = λ b. refl;
  step = λ b d done stands. elim (open_before k b d done.run done.behind stands) [
    | inl grants ↦ inl grants
    | inr was ↦ inr (record {
      had = was.had;
      stood = was.stood;
      spared = was.unclosed;
      leads = λ last more leads. ap (λ c. bits_left k.number c more) was.bits ∙ leads;
    })
  ];
  staying = open_staying k;
}
