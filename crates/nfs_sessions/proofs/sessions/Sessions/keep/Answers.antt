use Rattle.std.proofs.{Common.{List, sym, subst, ◌∙◌, ap}, lemmas.Option.{same_Some, none-some}}
use Rattle.nfs_xdr.proofs.Lists.{some_there}
use Rattle.nfs_slots.specs.Slot.{SlotState}
use Rattle.nfs_slots.specs.Slot as slots
use Rattle.nfs_sessions.specs.{SessionTables.{IsSessions, MayKeep}, Sessions.{Session, SessionTable, session_at}}
use Rattle.nfs_sessions.proofs.{TableLemmas.{slots_changed, table_written}, Places.{place_in, session_there, no_session}}
use Rattle.nfs_sessions.proofs.sessions.Sessions.keep.Goals as goal

pub keep-requires : goal.keep-requires
keep-requires c =
    let MayKeepIn : Session → Type 0 = λ s. MayKeep s c.args.slot c.args.number c.args.uid c.args.args.now c.args.reply.now in
    let (s, here, may) = some_there (session_at c.args.self.now c.args.id.now) MayKeepIn c.requires in
    let there = session_there _ _ c.args.id.now _ _ c.self.view_is c.in-Some.ensures.at c.index_mut-session.ensures.value in
    subst MayKeepIn (same_Some _ _ (sym (there ∙ here))) may

pub invariant_of-self : goal.invariant_of-self
invariant_of-self c =
    let t = c.args.self.now in
    let is : IsSessions t = subst IsSessions c.self.view_is c.self.invariant in
    let change : List SlotState → List SlotState =
    λ was. slots.keep was c.args.slot c.args.number c.args.uid c.args.args.now c.args.reply.now in
    let at = ap (λ (t : SessionTable). place_in t c.args.id.now) c.self.view_is ∙ sym c.in-Some.ensures.at in
    let after = table_written t c.args.id.now c.self.inside.sessions.items c.self.inside.last c.self.inside.most c.in-Some.place c.index_mut-session.result.now
    c.keep.new.self change is c.self.view_is at c.index_mut-session.ensures.value c.keep.ensures in
    subst IsSessions (sym after) (slots_changed t c.args.id.now change is)

pub returns-in-Some : goal.returns-in-Some
returns-in-Some c =
    let t = c.args.self.now in
    let is : IsSessions t = subst IsSessions c.self.view_is c.self.invariant in
    let change : List SlotState → List SlotState =
    λ was. slots.keep was c.args.slot c.args.number c.args.uid c.args.args.now c.args.reply.now in
    let at = ap (λ (t : SessionTable). place_in t c.args.id.now) c.self.view_is ∙ sym c.in-Some.ensures.at in
    table_written t c.args.id.now c.self.inside.sessions.items c.self.inside.last c.self.inside.most c.in-Some.place c.index_mut-session.result.now
    c.keep.new.self change is c.self.view_is at c.index_mut-session.ensures.value c.keep.ensures

pub returns-in_default : goal.returns-in_default
returns-in_default c =
    let MayKeepIn : Session → Type 0 = λ s. MayKeep s c.args.slot c.args.number c.args.uid c.args.args.now c.args.reply.now in
    let (s, here, may) = some_there (session_at c.args.self.now c.args.id.now) MayKeepIn c.requires in
    absurd (none-some s (no_session c.args.self.now c.args.id.now c.in_default.ensures.at ∙ here))
