-- Parts that are put one behind the other are a result.
use Rattle.std.proofs.Common.{◌≡◌, ℕ, Bool, true, List, [], ◌∷◌, ◌++◌, length, refl, sym, ap, ◌∙◌, append_assoc}
use Rattle.std.specs.List.{flat_map}
use Rattle.nfs_xdr.specs.{Spelling.{number, hyper, flag, fixed, opaque}, Chain.spell_chain}
use Rattle.nfs_compound.specs.declared.op_num.OpNum.TheVariants as Num
use Rattle.nfs_results.specs.{Items.{fattr, entry, read_ok, status_codes}, Listing.read_dir, declared.res.ReadOk.ReadOk, declared.res.Entry.Entry}
use Rattle.nfs_results.specs.{declared.res.ReadDirOk.ReadDirOk, Results.{spell_result, done_head}}
use Rattle.nfs_results.specs.Straight.{read_head, read_end, read_dir_head, entry_head, entry_text, list_end, test_stateid_head}
use Rattle.nfs_results.specs.declared.res.Res.TheVariants as Res

pub read_in_parts : (r : ReadOk) → spell_result (Res.Read r) ≡ read_head r.eof (length r.bytes) ++ (r.bytes ++ read_end (length r.bytes))
unfolding read_ok
read_in_parts r =
    let tail : List ℕ = r.bytes ++ read_end (length r.bytes) in
    sym (append_assoc (done_head Num.Read) (flag r.eof ++ number (length r.bytes)) tail
    ∙ ap (λ (w : List ℕ). done_head Num.Read ++ w) (append_assoc (flag r.eof) (number (length r.bytes)) tail))

one_entry : (e : Entry) (rest : List ℕ) → flag true ++ (entry.spell e ++ rest) ≡ entry_text e ++ rest
unfolding entry
one_entry e rest =
    let attrs : List ℕ = fattr.spell e.attrs in
    sym (append_assoc (entry_head e.cookie e.name) attrs rest
    ∙ append_assoc (flag true) (hyper e.cookie ++ opaque e.name) (attrs ++ rest)
    ∙ ap (λ (w : List ℕ). flag true ++ w) (append_assoc (hyper e.cookie) (opaque e.name) (attrs ++ rest)
    ∙ sym (append_assoc (hyper e.cookie) (opaque e.name ++ attrs) rest ∙ ap (λ (w : List ℕ). hyper e.cookie ++ w) (append_assoc (opaque e.name) attrs rest))))

entries_in_parts : (es : List Entry) (eof : Bool) → spell_chain entry.spell es ++ flag eof ≡ flat_map entry_text es ++ list_end eof
entries_in_parts [] eof = refl
entries_in_parts (e ∷ es) eof =
    append_assoc (flag true) (entry.spell e ++ spell_chain entry.spell es) (flag eof)
    ∙ ap (λ (w : List ℕ). flag true ++ w)
    (append_assoc (entry.spell e) (spell_chain entry.spell es) (flag eof) ∙ ap (λ (w : List ℕ). entry.spell e ++ w) (entries_in_parts es eof))
    ∙ one_entry e (flat_map entry_text es ++ list_end eof)
    ∙ sym (append_assoc (entry_text e) (flat_map entry_text es) (list_end eof))

pub read_dir_in_parts : (r : ReadDirOk) → spell_result (Res.ReadDir r) ≡ read_dir_head r.cookieverf ++ (flat_map entry_text r.entries ++ list_end r.eof)
unfolding read_dir
read_dir_in_parts r =
    ap (λ (w : List ℕ). done_head Num.ReadDir ++ (fixed r.cookieverf ++ w)) (entries_in_parts r.entries r.eof)
    ∙ sym (append_assoc (done_head Num.ReadDir) (fixed r.cookieverf) (flat_map entry_text r.entries ++ list_end r.eof))

pub test_stateid_in_parts : (codes : List ℕ) → spell_result (Res.TestStateid codes) ≡ test_stateid_head (length codes) ++ flat_map number codes
unfolding status_codes
test_stateid_in_parts codes = sym (append_assoc (done_head Num.TestStateid) (number (length codes)) (flat_map number codes))
