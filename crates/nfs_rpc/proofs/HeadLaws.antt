-- The codecs of a call's head read what they spell, and what is accepted is spelled so.
use Rattle.std.proofs.Common.{◌≡◌, ℕ, ◌<◌, ◌^◌, Bool, true, false, not, List, [], ◌∷◌, ◌++◌, length, Option, Some, None, Result, Ok, Err, refl, sym}
use Rattle.std.proofs.{Common.{ap, ◌∙◌, append_assoc, arith}, lemmas.Bool.eqb-true, lemmas.List.append-nil, lemmas.Option.same_Some}
use Rattle.std.specs.{Prelude.{◌↔◌, nat_le, option_and_then, ok_or, ◌==◌, if◌then◌else◌}, Int.{w32, from_be_bytes}}
use Rattle.nfs_xdr.specs.{Codec.number, Lawful.{IsCodec, IsSized}, Checks.{first_fault, judged}, Caller.Caller, AuthSys.{AuthSys, auth_sys}}
use Rattle.nfs_xdr.specs.{Text.{IsBytes, Leads}, Wire.authsys_parms}
use Rattle.nfs_xdr.proofs.CodecLaws.{test_some, is_number, is_opaque, is_then, is_as_type, is_only, is_led_by, is_pieces}
use Rattle.nfs_xdr.proofs.TextLaws.{Spells, credentials, leads_from, leads_again}
use Rattle.nfs_rpc.specs.{declared.refusal.Refusal.Refusal, declared.refusal.Refusal.TheVariants.Silent, declared.call.Procedure.Procedure}
use Rattle.nfs_rpc.specs.{Wire.{Header, call_body, rpc_msg}, HeadCodec.{opaque_auth, header, message, spell_call, message_at, header_at, auth_sys_at}}
use Rattle.nfs_rpc.specs.CallHead.{named_by, caller_of, caller_by, Call, Called, Accepted, Refused, ◌>>=◌, checks, behind_header, call_of}
use Rattle.nfs_rpc.specs.Laws.{IsUser}
use Rattle.nfs_rpc.specs.Wire as wire

pub is_opaque_auth : IsCodec opaque_auth
unfolding opaque_auth
is_opaque_auth = is_as_type _ _ _ (λ _. refl) (is_then _ _ is_number (is_opaque 400 (omega arith)))

pub is_header : IsCodec header
unfolding header
is_header = is_as_type _ _ _ (λ _. refl) (is_then _ _ is_number (is_then _ _ is_number (is_then _ _ is_number (is_then _ _ is_opaque_auth is_opaque_auth))))

number_sized : IsSized number 4 (from_be_bytes w32)
number_sized = record { read = λ bytes. refl }

pub is_auth_sys : IsCodec auth_sys
unfolding auth_sys
is_auth_sys = is_as_type _ _ _ (λ _. refl) (is_then _ _ is_number (is_then _ _ (is_opaque 255 (omega arith)) (is_then _ _ is_number (is_then _ _ is_number
    (is_only (λ (gids : List ℕ). nat_le (length gids) 16) _ (is_pieces 4 (from_be_bytes w32) number number_sized is_number))))))

is_message : IsCodec message
is_message = is_then _ _ is_number (is_led_by 0 number (omega arith) is_number)

spelled_call : (xid : ℕ) (h : Header) (args : List ℕ) → message.spell (xid, 2) ++ (header.spell h ++ args) ≡ spell_call xid h args
spelled_call xid h args =
    append_assoc (number.spell xid) (number.spell 0 ++ number.spell 2) (header.spell h ++ args)
    ∙ ap (λ w. number.spell xid ++ w) (append_assoc (number.spell 0) (number.spell 2) (header.spell h ++ args))

-- a head that is spelled so is judged
pub call_judged : (xid : ℕ) (h : Header) (args : List ℕ) → xid < 2 ^ 32 → header.Fits h → call_of (spell_call xid h args) ≡ behind_header xid h args
unfolding call_of
call_judged xid h args small fits =
    ap call_of (sym (spelled_call xid h args))
    ∙ rw (is_message.again (xid, 2) (header.spell h ++ args) (small, omega arith), is_header.again h args fits) refl

read_some : {A : Type 0} (r : Option (A × List ℕ)) (go : A × List ℕ → Called) (c : Call)
    → (ok_or r Silent >>= go) ≡ Accepted c → (x : A × List ℕ) × (r ≡ Some x) × (go x ≡ Accepted c)
read_some None go c e = absurd cc
read_some (Some x) go c e = (x, refl, e)

passed : (b : Bool) (refusal : Refusal) (k : Called) (c : Call) → (judged (first_fault ((not b, refusal) ∷ [])) >>= λ _. k) ≡ Accepted c
    → (b ≡ true) × (k ≡ Accepted c)
passed false refusal k c e = absurd cc
passed true refusal k c e = (refl, e)

call_in : Call → Called → Call
call_in c (Accepted k) = k
call_in c (Refused refusal) = c

-- what is judged keeps its number and its arguments
kept : (r : Result Caller Refusal) (fault : Option Refusal) (p : Procedure) (xid : ℕ) (args : List ℕ) (c : Call)
    → (r >>= λ who. judged fault >>= λ _. Accepted (record { xid = xid; procedure = p; who = who; args = args })) ≡ Accepted c
    → (xid ≡ c.xid) × (args ≡ c.args)
unfolding call_in
kept (Err refusal) fault p xid args c e = absurd cc
kept (Ok who) None p xid args c e = (ap (λ k. (call_in c k).xid) e, ap (λ k. (call_in c k).args) e)
kept (Ok who) (Some fault) p xid args c e = absurd cc

judged_parts : (xid : ℕ) (h : Header) (args : List ℕ) (c : Call) → behind_header xid h args ≡ Accepted c → (xid ≡ c.xid) × (args ≡ c.args)
unfolding behind_header
judged_parts xid h args c e = kept (caller_by xid h.credential) (first_fault (checks xid h args)) _ xid args c e

-- a call that is accepted is spelled so
pub call_taken : (bytes : List ℕ) (c : Call) → IsBytes bytes → call_of bytes ≡ Accepted c
    → (h : Header) × (c.xid < 2 ^ 32) × header.Fits h × (bytes ≡ spell_call c.xid h c.args) × (behind_header c.xid h c.args ≡ Accepted c)
unfolding call_of
call_taken bytes c fits e =
    let a = read_some (message.read bytes) _ c e in
    let m = is_message.takes bytes a.0.0 a.0.1 fits a.1 in
    let two = passed _ _ _ c a.2 in
    let h = read_some (header.read a.0.1) _ c two.1 in
    let head = is_header.takes a.0.1 h.0.0 h.0.1 m.1 h.1 in
    let parts = judged_parts a.0.0.0 h.0.0 h.0.1 c h.2 in (
      h.0.0,
      rw (sym parts.0) m.2.0,
      head.2,
      m.0 ∙ ap (λ w. message.spell a.0.0 ++ w) head.0 ∙ ap (λ (k : ℕ). message.spell (a.0.0.0, k) ++ (header.spell h.0.0 ++ h.0.1)) (eqb-true a.0.0.1 2 two.0)
          ∙ spelled_call a.0.0.0 h.0.0 h.0.1 ∙ ap (λ (k : ℕ). spell_call k h.0.0 h.0.1) parts.0 ∙ ap (spell_call c.xid h.0.0) parts.1,
      ap (λ (k : ℕ). behind_header k h.0.0 c.args) (sym parts.0) ∙ ap (behind_header a.0.0.0 h.0.0) (sym parts.1) ∙ h.2,
    )

-- the body of AUTH_SYS, both ways
named_in : Option (AuthSys × List ℕ) → Option Caller
named_in r = option_and_then (λ (s, rest). if length rest == 0 then Some (named_by s) else None) r

pub body_named : (s : AuthSys) → auth_sys.Fits s → caller_of (auth_sys.spell s) ≡ Some (named_by s)
unfolding caller_of named_in
body_named s fits = ap named_in (ap auth_sys.read (sym (append-nil (auth_sys.spell s))) ∙ is_auth_sys.again s [] fits)

named_some : (r : Option (AuthSys × List ℕ)) (who : Caller) → named_in r ≡ Some who → (s : AuthSys) × (r ≡ Some (s, [])) × (named_by s ≡ who)
unfolding named_in
named_some None who e = absurd cc
named_some (Some (s, [])) who e = (s, refl, same_Some (named_by s) who e)
named_some (Some (s, b ∷ bytes)) who e =
    let t = test_some (length (b ∷ bytes) == 0) (Some (named_by s)) who e in
    let none : length (b ∷ bytes) ≡ 0 = eqb-true _ 0 t.0 in
    absurd (omega (arith, none))

pub body_taken : (body : List ℕ) (who : Caller) → IsBytes body → caller_of body ≡ Some who
    → (s : AuthSys) × auth_sys.Fits s × (body ≡ auth_sys.spell s) × (who ≡ named_by s)
unfolding caller_of named_in
body_taken body who fits e =
    let s = named_some (auth_sys.read body) who e in
    let t = is_auth_sys.takes body s.0 [] fits s.1 in
    (s.0, t.2, t.0 ∙ append-nil (auth_sys.spell s.0), sym s.2)

-- The same by the wire's text.

auths : Spells opaque_auth wire.opaque_auth
unfolding opaque_auth
auths = record { same = λ a. refl; to = λ a (e, fits). fits; from = λ a fits. (refl, fits) }

pub messages : Spells message rpc_msg
messages = record { same = λ m. refl; to = λ m (xid, vers). (xid, (tt, vers)); from = λ m (xid, (u, vers)). (xid, vers) }

pub headers : Spells header call_body
unfolding header opaque_auth
headers = record {
  same = λ h. refl;
  to = λ h (e, (prog, (vers, (proc, (cred, verf))))). (prog, (vers, (proc, (auths.to h.credential cred, auths.to h.verifier verf))));
  from = λ h (prog, (vers, (proc, (cred, verf)))). (refl, (prog, (vers, (proc, (auths.from h.credential cred, auths.from h.verifier verf)))));
}

pub message_leads : (bytes : List ℕ) (x : (ℕ × ℕ) × List ℕ) → IsBytes bytes → message_at bytes ≡ Some x ↔ Leads rpc_msg bytes x
message_leads bytes x fits = (leads_from message rpc_msg messages is_message bytes x fits, leads_again message rpc_msg messages is_message bytes x)

pub header_leads : (bytes : List ℕ) (x : Header × List ℕ) → IsBytes bytes → header_at bytes ≡ Some x ↔ Leads call_body bytes x
header_leads bytes x fits = (leads_from header call_body headers is_header bytes x fits, leads_again header call_body headers is_header bytes x)

pub auth_sys_leads : (bytes : List ℕ) (x : AuthSys × List ℕ) → IsBytes bytes → auth_sys_at bytes ≡ Some x ↔ Leads authsys_parms bytes x
auth_sys_leads bytes x fits =
    (leads_from auth_sys authsys_parms credentials is_auth_sys bytes x fits, leads_again auth_sys authsys_parms credentials is_auth_sys bytes x)

pub call_text : (xid : ℕ) (h : Header) (args : List ℕ) → spell_call xid h args ≡ (wire.call xid h).bytes ++ args
call_text xid h args =
    sym (append_assoc (message.spell (xid, 2)) (call_body h).bytes args
    ∙ ap (λ (w : List ℕ). message.spell (xid, 2) ++ (w ++ args)) (sym (headers.same h))
    ∙ spelled_call xid h args)

pub text_judged : (xid : ℕ) (h : Header) (args : List ℕ) → (wire.call xid h).Fits → call_of ((wire.call xid h).bytes ++ args) ≡ behind_header xid h args
text_judged xid h args ((small, two), fits) = ap call_of (sym (call_text xid h args)) ∙ call_judged xid h args small (headers.from h fits)

pub text_taken : (bytes : List ℕ) (c : Call) → IsBytes bytes → call_of bytes ≡ Accepted c
    → (h : Header) × Leads (wire.call c.xid) bytes (h, c.args) × (behind_header c.xid h c.args ≡ Accepted c)
text_taken bytes c fits e =
    let t = call_taken bytes c fits e in
    (t.0, (t.3 ∙ call_text c.xid t.0 c.args, ((t.1, (tt, omega arith)), headers.to t.0 t.2)), t.4)

pub text_named : (s : AuthSys) → (authsys_parms s).Fits → (who : Caller) × (caller_of (authsys_parms s).bytes ≡ Some who) × IsUser s who
text_named s fits = (named_by s, ap caller_of (sym (credentials.same s)) ∙ body_named s (credentials.from s fits), (refl, refl, refl))

pub text_body : (body : List ℕ) (who : Caller) → IsBytes body → caller_of body ≡ Some who
    → (s : AuthSys) × (authsys_parms s).Fits × (body ≡ (authsys_parms s).bytes) × IsUser s who
text_body body who fits e =
    let t = body_taken body who fits e in
    (t.0, credentials.to t.0 t.1, t.2 ∙ credentials.same t.0, (ap (λ (w : Caller). w.uid) t.3, ap (λ (w : Caller). w.gid) t.3, ap (λ (w : Caller). w.gids) t.3))
