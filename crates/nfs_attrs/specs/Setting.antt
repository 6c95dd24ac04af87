-- Who may set which attributes (RFC 8881 sections 6.2.4, 18.4.3 and 18.30.3). The user 0 may set them all.
use Rattle.std.specs.Prelude.{ℕ, ◌==◌, ◌||◌, ◌&&◌, List, [], ◌∷◌, Bool, true, false, not, Option, Some, None, Result, is_some}
use Rattle.nfs_xdr.specs.{Caller.Caller, Checks.{first_fault, judged}, declared.status.Status.Status, declared.status.Status.TheVariants.{Perm, Access}}
use Rattle.nfs_tree.specs.{declared.object.Object.{Object}, declared.profile.Profile.Profile, declared.profile.Profile.TheVariants.{Exact, Unix}}
use Rattle.nfs_attrs.specs.{Permissions.{in_group, may, write}, declared.set_time.SetTime.SetTime, declared.set_time.SetTime.TheVariants.{Now, Given}}
use Rattle.nfs_attrs.specs.declared.wanted.Wanted.{Wanted}

abbrev pub owns : ℕ → Caller → Bool
owns owner who = who.uid == 0 || who.uid == owner

-- Another owner than now: that is for the user 0 alone.
abbrev pub takes_owner : Option ℕ → ℕ → Caller → Bool
takes_owner None owner who = false
takes_owner (Some new) owner who = not (new == owner) && not (who.uid == 0)

-- Another group than now: that is for the owner, and only one that he is in.
abbrev pub takes_group : Option ℕ → (owner group : ℕ) → Caller → Bool
takes_group None owner group who = false
takes_group (Some new) owner group who = not (new == group) && not (who.uid == 0 || who.uid == owner && in_group new who)

abbrev pub is_given : Option SetTime → Bool
is_given None = false
is_given (Some Now) = false
is_given (Some (Given t)) = true

abbrev pub is_now : Option SetTime → Bool
is_now None = false
is_now (Some Now) = true
is_now (Some (Given t)) = false

-- In `unix` an owner and a group are for the owner to set, also where they are as now (POSIX, chown): to set them clears bits of the mode.
abbrev pub gives_away : Profile → Wanted → Bool
gives_away Exact wanted = false
gives_away Unix wanted = is_some wanted.owner || is_some wanted.group

-- The checks in their order: mode and a time that is given are for the owner, also where they are as now; the server's own
-- time is for whoever may write.
abbrev pub set_checks : Profile → Object → Wanted → Caller → List (Bool × Status)
set_checks profile o wanted who =
    (gives_away profile wanted && not (owns o.owner who), Perm)
    ∷ (takes_owner wanted.owner o.owner who, Perm)
    ∷ (takes_group wanted.group o.owner o.group who, Perm)
    ∷ (is_some wanted.mode && not (owns o.owner who), Perm)
    ∷ ((is_given wanted.access || is_given wanted.modify) && not (owns o.owner who), Perm)
    ∷ ((is_now wanted.access || is_now wanted.modify) && not (owns o.owner who || may o who write), Access)
    ∷ []

abbrev pub may_set : Profile → Object → Wanted → Caller → Result (Unit {0}) Status
may_set profile o wanted who = judged (first_fault (set_checks profile o wanted who))

-- An object that is being made is the caller's own, and of his first group.
abbrev pub make_checks : Wanted → Caller → List (Bool × Status)
make_checks wanted who = (takes_owner wanted.owner who.uid who, Perm) ∷ (takes_group wanted.group who.uid who.gid who, Perm) ∷ []

abbrev pub may_make : Wanted → Caller → Result (Unit {0}) Status
may_make wanted who = judged (first_fault (make_checks wanted who))
