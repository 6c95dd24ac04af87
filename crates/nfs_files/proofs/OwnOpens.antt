-- Whose opens an operation on open files can move: those of its own client, and OPEN and CLOSE alone move them.
use Rattle.std.proofs.{Common.{◌≡◌, ◌≢◌, ℕ, Bool, List, [], ◌∷◌, refl, sym, ◌∙◌, ap, inl, inr}, lemmas.Bool.cases_Bool}
use Rattle.std.specs.{Prelude.{◌==◌, filter}, List.list_any}
use Rattle.nfs_xdr.specs.declared.time.Time.{Time}
use Rattle.nfs_compound.specs.declared.op.Item.{Item}
use Rattle.nfs_opens.specs.{declared.records.OpenState.OpenState, Table.Table, TableInvariants.IsTable}
use Rattle.nfs_names.specs.{declared.context.Context.Context, State.State}
use Rattle.nfs_files.proofs.{Outcomes.comes_to, Effected.same_client}
use Rattle.nfs_files.proofs.{OthersOps.item_apart, TableSteps.table_item}

-- these clients have an open where they had one, and the table is one still
pub record Spares (spared : ℕ → Type 0) (t u : Table) : Type 0 where
  pub same : (c : ℕ) → spared c → list_any (λ o. o.client == c) u.opens ≡ list_any (λ o. o.client == c) t.opens
  pub table : IsTable u

-- the same of what an operation leaves, and the context behind it is of the same client
pub record SparesIn (spared : ℕ → Type 0) (s : State) (x : Context) (left : State) (behind : Context) : Type 0 where
  pub opens : Spares spared s.opens left.opens
  pub client : behind.client ≡ x.client

abbrev pub OthersThan : ℕ → ℕ → Type 0
OthersThan client c = c ≢ client

-- .. and of their own client alone
any_filtered : (p : OpenState → Bool) (os : List OpenState) → list_any p (filter p os) ≡ list_any p os
any_filtered p [] = refl
any_filtered p (o ∷ os) = elim (cases_Bool (p o)) [ inl here ↦ rw here (rw here refl) | inr other ↦ rw other (any_filtered p os) ]

pub spares_others : (b : Bool) (s : State) (x : Context) (now : Time) (i : Item) → IsTable s.opens
    → SparesIn (OthersThan x.client) s x (comes_to b s x now i).state (comes_to b s x now i).context
spares_others b s x now i is = record {
  opens = record {
    same = λ c other. sym (any_filtered (λ (o : OpenState). o.client == c) (comes_to b s x now i).state.opens.opens)
        ∙ (ap (list_any (λ (o : OpenState). o.client == c)) (item_apart c b s x now i is (λ mine. other (sym mine))).opens
        ∙ any_filtered (λ (o : OpenState). o.client == c) s.opens.opens);
    table = table_item b s x now i is;
  };
  client = same_client b s x now i;
}
