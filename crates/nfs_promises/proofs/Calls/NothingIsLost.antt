-- The account of a connection that is served all along.
use Rattle.std.proofs.Common.{◌≡◌, ℕ, List, [], ◌∷◌, ◌++◌, Bool, true, false, refl, sym, ap, subst, ◌∙◌, append_assoc, append-nil}
use Rattle.nfs_serve.specs.Step.{ServerState}
use Rattle.nfs_serve.specs.Desk.{Desk, Act, Unready, Came, ReadBlocked, Ended, Took, WriteBlocked, Failed, Closed, Stepped, Goes}
use Rattle.nfs_promises.specs.Calls.NothingIsLost.{Account}

both : {A : Type 0} (b : Bool) → b ≡ true → b ≡ false → A
both b h k = absurd (no (sym h ∙ k))
  where
    no : true ≡ false → ⊥
    no e = cc

-- a connection that is not served is not served again
dead : (port : ℕ) (s t : ServerState) (d e : Desk) (acts : List Act) → Goes port s d acts t e → d.live ≡ false → e.live ≡ false
dead port s t d e [] h off = ap (λ x. x.live) h.1 ∙ off
dead port s t d e (Unready ∷ acts) h off = let (u, c, does, rest) = h in dead port u t c e acts rest (ap (λ x. x.live) does.2 ∙ off)
dead port s t d e (Came bytes ∷ acts) h off = let (u, c, does, rest) = h in both d.live does.1.live off
dead port s t d e (ReadBlocked ∷ acts) h off = let (u, c, does, rest) = h in both d.live does.1.live off
dead port s t d e (Ended ∷ acts) h off = let (u, c, does, rest) = h in both d.live does.1.live off
dead port s t d e (Took bytes ∷ acts) h off = let (u, c, does, rest) = h in both d.live does.1 off
dead port s t d e (WriteBlocked ∷ acts) h off = let (u, c, does, rest) = h in both d.live does.1 off
dead port s t d e (Failed ∷ acts) h off = let (u, c, does, rest) = h in both d.live does.1 off
dead port s t d e (Closed ∷ acts) h off = let (u, c, does, rest) = h in dead port u t c e acts rest (ap (λ x. x.live) does.2)
dead port s t d e (Stepped moment part late first ∷ acts) h off = let (u, c, does, rest) = h in let (is, left, out, steps, once, same) = does in both d.live steps.live off
dead port s t d e (act ∷ acts) h off = absurd h.2

pub account : (port : ℕ) (s t : ServerState) (d e : Desk) (acts : List Act) → Goes port s d acts t e → e.live ≡ true → Account port s d acts t e
account port s t d e [] h on = record {
  outs = [];
  answers = (h.0, ap (λ x. x.stream) h.1, refl);
  in_order = rw append-nil (sym (ap (λ x. x.unread) h.1));
  out_order = rw append-nil (sym (ap (λ x. x.owed) h.1));
}
account port s t d e (Unready ∷ acts) h on =
    let (u, c, does, rest) = h in
    let (same, none, is) = does in
    let k = subst (λ x. Account port x c acts t e) same (account port u t c e acts rest on) in
    let a = subst (λ x. Account port s x acts t e) is k in
    record { outs = a.outs; answers = a.answers; in_order = a.in_order; out_order = a.out_order }
account port s t d e (Came bytes ∷ acts) h on =
    let (u, c, does, rest) = h in
    let (same, hungry, some, few, is) = does in
    let k = subst (λ x. Account port x c acts t e) same (account port u t c e acts rest on) in
    let a = subst (λ x. Account port s x acts t e) is k in record {
      outs = a.outs;
      answers = a.answers;
      in_order = rw hungry.unread a.in_order;
      out_order = a.out_order;
    }
account port s t d e (ReadBlocked ∷ acts) h on =
    let (u, c, does, rest) = h in
    let (same, hungry, is) = does in
    let k = subst (λ x. Account port x c acts t e) same (account port u t c e acts rest on) in
    let a = subst (λ x. Account port s x acts t e) is k in
    record { outs = a.outs; answers = a.answers; in_order = a.in_order; out_order = a.out_order }
account port s t d e (Ended ∷ acts) h on =
    let (u, c, does, rest) = h in
    both e.live on (dead port u t c e acts rest (ap (λ x. x.live) does.2))
account port s t d e (Took bytes ∷ acts) h on =
    let (u, c, does, rest) = h in
    let (same, live, some, left, split, is) = does in
    let k = subst (λ x. Account port x c acts t e) same (account port u t c e acts rest on) in
    let a = subst (λ x. Account port s x acts t e) is k in record {
      outs = a.outs;
      answers = a.answers;
      in_order = a.in_order;
      out_order = rw split (append_assoc bytes left a.outs ∙ ap (λ l. bytes ++ l) a.out_order ∙ sym (append_assoc bytes _ e.owed));
    }
account port s t d e (WriteBlocked ∷ acts) h on =
    let (u, c, does, rest) = h in
    let (same, live, some, is) = does in
    let k = subst (λ x. Account port x c acts t e) same (account port u t c e acts rest on) in
    let a = subst (λ x. Account port s x acts t e) is k in
    record { outs = a.outs; answers = a.answers; in_order = a.in_order; out_order = a.out_order }
account port s t d e (Failed ∷ acts) h on =
    let (u, c, does, rest) = h in
    both e.live on (dead port u t c e acts rest (ap (λ x. x.live) does.2))
account port s t d e (Closed ∷ acts) h on =
    let (u, c, does, rest) = h in
    both e.live on (dead port u t c e acts rest (ap (λ x. x.live) does.2))
account port s t d e (Stepped moment part late first ∷ acts) h on =
    let (u, c, does, rest) = h in
    let (mid, left, out, steps, once, is) = does in
    let a = subst (λ x. Account port u x acts t e) is (account port u t c e acts rest on) in record {
      outs = out ++ a.outs;
      answers = (u, mid, out, a.outs, steps.takes, refl, a.answers);
      in_order = rw steps.split (append_assoc part left _ ∙ ap (λ l. part ++ l) a.in_order ∙ sym (append_assoc part _ e.unread));
      out_order = sym (append_assoc d.owed out a.outs) ∙ a.out_order;
    }
account port s t d e (act ∷ acts) h on = absurd h.2
