-- What contracts see of the part of the server that steps records and keeps their replies on a sheet; private contracts
-- alone speak of it.
use Rattle.std.specs.Prelude.{◌≡◌, ℕ, List, [], drop, Option, Some, None}
use Rattle.nfs_xdr.specs.SheetState.{SheetState, Puts}
use Rattle.nfs_rpc.specs.declared.refusal.Refusal.{Refusal}
use Rattle.nfs_rpc.specs.declared.refusal.Refusal.TheVariants as Refusals
use Rattle.nfs_serve.specs.{declared.form.Form.Form, declared.form.Form.TheVariants.{Tagged, Plain}, declared.form.Outcome.Outcome}
use Rattle.nfs_serve.specs.{declared.form.Outcome.TheVariants.{Reply, Silent}, Step.{ServerState, Stepped, step}, Run.spell_reply, Server.{KeptServer, state_of, IsAnswer}}
use Rattle.nfs_exec.specs.Step.Machine.{KeptTables}

-- what lasts from one record to the next, and the reply that is lent
pub record EngineModel : Type 0 where
  pub kept : KeptServer
  pub reply : List ℕ

-- The record was stepped: for some choice, the reply that is lent and the state are the step's.
abbrev pub StepsCall : Outcome → (old new : EngineModel) → (call : List ℕ) → (now : ℕ) → Type 0
StepsCall outcome old new call now = (choice : Option ℕ) × IsAnswer outcome (step (state_of old.kept) call now choice).reply new.reply
    × (state_of new.kept ≡ (step (state_of old.kept) call now choice).state)

-- the state that tables are at a moment
abbrev pub at_moment : KeptTables → ℕ → ServerState
at_moment world moment = state_of (record { world = world; moment = moment })

-- whether a refusal of a call is answered
abbrev pub outcome_of : Refusal → Outcome
outcome_of Refusals.Silent = Silent
outcome_of (Refusals.Mismatch xid) = Reply
outcome_of (Refusals.Auth xid stat) = Reply
outcome_of (Refusals.Accept xid stat) = Reply

-- The reply was put at the end of the sheet, and this state is left.
pub record PutsReply (stepped : Stepped) (old new : SheetState) (left : ServerState) : Type 0 where
  pub text : List ℕ
  pub reply : stepped.reply ≡ Some text
  pub put : Puts old new text
  pub state : left ≡ stepped.state

-- or there is none
abbrev pub PutsAnswer : Outcome → Stepped → SheetState → SheetState → ServerState → Type 0
PutsAnswer Reply stepped old new left = PutsReply stepped old new left
PutsAnswer Silent stepped old new left = (stepped.reply ≡ None) × Puts old new [] × (left ≡ stepped.state)

-- a reply behind its connection's number, as the form has it
abbrev pub in_form : Form → List ℕ → List ℕ
in_form Tagged bytes = bytes
in_form Plain bytes = drop 4 bytes

-- what is written of the reply that is lent
abbrev pub spell_lent : Form → ℕ → Outcome → List ℕ → List ℕ
spell_lent form conn Reply reply = spell_reply form conn reply
spell_lent form conn Silent reply = []
