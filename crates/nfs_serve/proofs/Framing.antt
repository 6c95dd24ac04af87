-- The connection's number and the record mark in front of a reply.
use Rattle.std.proofs.Common.{◌≡◌, ℕ, Option, ◌+◌, ◌≤◌, List, ◌++◌, length, take, drop, refl, sym, ap, ◌∙◌, arith, [], length-append, length-drop, append_assoc}
use Rattle.std.proofs.lemmas.List.{take_at, drop_at, drop-drop}
use Rattle.nfs_xdr.specs.Spelling.{number, hyper}
use Rattle.nfs_xdr.proofs.Putting.{length_number}
use Rattle.nfs_serve.specs.{declared.form.Form.Form, declared.form.Form.TheVariants.{Tagged, Plain}, declared.form.Outcome.Outcome}
use Rattle.nfs_serve.specs.{declared.form.Outcome.TheVariants.{Reply, Silent}, Run.{one_fragment, spell_reply, spell_answer}, Server.IsAnswer}
use Rattle.nfs_serve.specs.Engine.{in_form, spell_lent}

pub length-framed : (bytes : List ℕ) (conn : ℕ) → 8 ≤ length bytes → length (number conn ++ drop 4 bytes) ≡ length bytes
length-framed bytes conn long = omega (arith, length-append (number conn) (drop 4 bytes), length_number conn, length-drop 4 bytes)

pub framed : (bytes : List ℕ) (conn mark : ℕ)
    → (take 4 (number conn ++ drop 4 bytes) ++ number mark) ++ drop 8 (number conn ++ drop 4 bytes) ≡ number conn ++ (number mark ++ drop 8 bytes)
framed bytes conn mark =
    let behind : drop 8 (number conn ++ drop 4 bytes) ≡ drop 8 bytes =
    sym (drop-drop 4 4 (number conn ++ drop 4 bytes)) ∙ ap (drop 4) (drop_at (number conn) (drop 4 bytes) 4 (length_number conn)) ∙ drop-drop 4 4 bytes in
    append_assoc (take 4 (number conn ++ drop 4 bytes)) (number mark) (drop 8 (number conn ++ drop 4 bytes))
    ∙ ap (λ l. l ++ (number mark ++ drop 8 (number conn ++ drop 4 bytes))) (take_at (number conn) (drop 4 bytes) 4 (length_number conn))
    ∙ ap (λ l. number conn ++ (number mark ++ l)) behind

pub drop-framed : (reply : List ℕ) (conn mark : ℕ) → drop 8 (number conn ++ (number mark ++ reply)) ≡ reply
drop-framed reply conn mark = sym (drop-drop 4 4 (number conn ++ (number mark ++ reply)))
    ∙ ap (drop 4) (drop_at (number conn) (number mark ++ reply) 4 (length_number conn)) ∙ drop_at (number mark) reply 4 (length_number mark)

pub long-framed : (reply : List ℕ) (conn mark : ℕ) → 8 ≤ length (number conn ++ (number mark ++ reply))
long-framed reply conn mark =
    omega (arith, length-append (number conn) (number mark ++ reply), length-append (number mark) reply, length_number conn, length_number mark)

pub behind_front : (n : ℕ) → drop 8 (hyper n) ≡ []
unfolding hyper
behind_front n = refl

pub spelled_in_form : (form : Form) (conn : ℕ) (reply : List ℕ) → in_form form (number conn ++ one_fragment reply) ≡ spell_reply form conn reply
spelled_in_form Tagged conn reply = refl
spelled_in_form Plain conn reply = drop_at (number conn) (one_fragment reply) 4 (length_number conn)

pub length-framed_reply : (reply : List ℕ) (conn : ℕ) → length (number conn ++ one_fragment reply) ≡ 8 + length reply
length-framed_reply reply conn = omega (
  arith,
  length-append (number conn) (one_fragment reply),
  length-append (number (2147483648 + length reply)) reply,
  length_number conn,
  length_number (2147483648 + length reply),
)

-- what is written of the reply that is lent is the answer
pub lent : (form : Form) (conn : ℕ) (outcome : Outcome) (answer : Option (List ℕ)) (reply : List ℕ)
    → IsAnswer outcome answer reply → spell_answer form conn answer ≡ spell_lent form conn outcome reply
lent form conn Reply answer reply is = ap (spell_answer form conn) is
lent form conn Silent answer reply is = ap (spell_answer form conn) is.0

-- what is owed, with a record mark behind it that was written over another, and what that one stands before
pub marked : (owed text : List ℕ) (n mark : ℕ) → n ≡ length owed
    → take n ((owed ++ number mark) ++ text) ++ one_fragment (drop (n + 4) ((owed ++ number mark) ++ text)) ≡ owed ++ one_fragment text
marked owed text n mark size =
    let long : length (owed ++ number mark) ≡ n + 4 = omega (arith, length-append owed (number mark), length_number mark, size) in
    ap (λ l. take n l ++ one_fragment (drop (n + 4) ((owed ++ number mark) ++ text))) (append_assoc owed (number mark) text)
    ∙ ap (λ l. l ++ one_fragment (drop (n + 4) ((owed ++ number mark) ++ text))) (take_at owed (number mark ++ text) n (sym size))
    ∙ ap (λ l. owed ++ one_fragment l) (drop_at (owed ++ number mark) text (n + 4) long)
