-- The listing in pages, and the wrong listings, computed.
use Rattle.std.proofs.Common.{◌≡◌, ◌≢◌, ℕ, zero, suc, ◌<◌, Bool, true, false, List, [], ◌∷◌, ◌++◌, length, take, get_or, refl, sym, ◌∙◌, ap, subst, arith}
use Rattle.std.proofs.Common.{inl, inr}
use Rattle.std.proofs.{lemmas.Bool.{and_parts, not-true, true≢false, ltb-true}, lemmas.Slice.Eq.bytes_eq-Decides}
use Rattle.std.specs.{Prelude.{◌^◌, ◌&&◌, ◌||◌, not, nat_lt, bytes_eq}, List.list_all}
use Rattle.nfs_xdr.specs.{Tables.In, Text.IsBytes}
use Rattle.nfs_compound.specs.{ArgCodecs.read_dir_args, declared.op.Item.{Item, TheVariants.Operation}}
use Rattle.nfs_compound.specs.declared.op.Op.TheVariants as Op
use Rattle.nfs_results.specs.{declared.res.Entry.Entry, ResultCodec.FitsResult}
use Rattle.nfs_results.specs.declared.res.Res.TheVariants as Res
use Rattle.nfs_results.specs.Items as results
use Rattle.nfs_results.specs.Listing as listing
use Rattle.nfs_tree.specs.{declared.row.Row.Row, Files.root}
use Rattle.nfs_attrs.specs.Attributes.{values}
use Rattle.nfs_names.specs.{ReadDir.{entry_of, fitting, read_dir, zeros}, Remove.remove}
use Rattle.nfs_exec.specs.Runs.Ops.{RanOp}
use Rattle.nfs_promises.specs.{Locks.LockKeptWorked.last_of, Names.{ListsAll.{Page, IsPage, all_ops}, ListsAllWorked.{makes_more, first, removes, second}}}
use Rattle.nfs_promises.specs.Names.ListsAllWorked.{third, later, more, begun, removed, gone_on, entry, told, page, g, IsListedInPages, ListingsAreRefused}
use Rattle.nfs_promises.specs.{Names.NameStays.{TakesIt, Removed, MovedAway, MovedOver, Opens, AllSpare}, Runs.Points.ops_of}
use Rattle.nfs_promises.specs.Bytes.WrittenStaysWorked.{made}
use Rattle.nfs_promises.proofs.{Runs.{Computing.computing, LastOperation.{nothing, last_there, each_of}}, Names.{PageLists.{first_in, second_in}, PageRows.entry_name}}

-- Lists of few operations.

abbrev rest_of : List RanOp → List RanOp
rest_of [] = []
rest_of (d ∷ ds) = ds

abbrev first_of : RanOp → List RanOp → RanOp
first_of x [] = x
first_of x (d ∷ ds) = d

second_there : (x : RanOp) (ds : List RanOp) → length ds ≡ 4 → ds ≡ take 1 ds ++ first_of x (rest_of ds) ∷ rest_of (rest_of ds)
second_there x [] e = absurd (omega arith)
second_there x (a ∷ []) e = absurd (omega arith)
second_there x (a ∷ b ∷ ds) e = refl

-- What spares a name.

abbrev takes : List ℕ → Item → Bool
takes name (Operation (Op.Remove other)) = bytes_eq other name
takes name (Operation (Op.Rename a)) = true
takes name i = false

spared : (directory : ℕ) (name : List ℕ) (d : RanOp) → takes name d.item ≡ false → TakesIt directory name d → ⊥
spared directory name d e (Removed is at done) = true≢false (sym (ap (takes name) is ∙ (bytes_eq-Decides name name).1 refl) ∙ e)
spared directory name d e (MovedAway a is old saved done) = true≢false (sym (ap (takes name) is) ∙ e)
spared directory name d e (MovedOver a is new at done) = true≢false (sym (ap (takes name) is) ∙ e)

all_spared : (directory : ℕ) (name : List ℕ) (ds : List RanOp) → list_all (λ d. not (takes name d.item)) ds ≡ true → AllSpare (λ d. TakesIt directory name d → ⊥) ds
all_spared directory name = each_of (λ d. TakesIt directory name d → ⊥) (λ d. not (takes name d.item)) (λ d e. spared directory name d (not-true _ e))

-- Pages that XDR has.

bytes_at : (bytes : List ℕ) → list_all (λ b. nat_lt b 256) bytes ≡ true → (i : ℕ) → get_or bytes i 0 < 256
bytes_at [] e i = omega arith
bytes_at (b ∷ bytes) e zero = ltb-true b 256 (and_parts _ _ e).0
bytes_at (b ∷ bytes) e (suc i) = bytes_at bytes (and_parts _ _ e).1 i

pub are_bytes : (bytes : List ℕ) → list_all (λ b. nat_lt b 256) bytes ≡ true → IsBytes bytes
are_bytes bytes e = record { each = bytes_at bytes e }

entry_fits : (cookie name : ℕ) → cookie < 2 ^ 64 → nat_lt name 256 ≡ true → results.entry.Fits (entry cookie name)
unfolding results.entry results.fattr results.attr_set
entry_fits cookie name low small =
    (refl, (low, ((omega arith, are_bytes (name ∷ []) (ap (λ b. b && true) small)), (refl, ((refl, (omega arith, tt)), (omega arith, are_bytes [] refl))))))

page_fits : (cookie name : ℕ) (eof : Bool) → cookie < 2 ^ 64 → nat_lt name 256 ≡ true → FitsResult (Res.ReadDir (told (entry cookie name ∷ []) eof))
unfolding listing.read_dir
page_fits cookie name eof low small = (refl, ((refl, are_bytes zeros refl), ((entry_fits cookie name low small, tt), tt)))

-- The parts of the run, each computed by itself.

abbrev opens : List RanOp
opens = ops_of made makes_more

abbrev opening : RanOp
opening = first_of nothing (rest_of opens)

abbrev back : List RanOp
back = rest_of (rest_of opens)

abbrev one : RanOp
one = last_of nothing (ops_of more first)

abbrev two : RanOp
two = last_of nothing (ops_of removed second)

abbrev three : RanOp
three = last_of nothing (ops_of gone_on third)

first_page : IsPage root 0 (page one 0 (told (entry 3 0x66 ∷ []) false))
unfolding computing read_dir_args values entry_of fitting read_dir results.entry results.fattr listing.read_dir
first_page = record { is = refl; at = refl; from = refl; valid = page_fits 3 0x66 false (omega arith) refl; answers = refl }

second_page : IsPage root 3 (page two 3 (told (entry 4 0x67 ∷ []) false))
unfolding computing read_dir_args values entry_of fitting read_dir results.entry results.fattr listing.read_dir remove
second_page = record { is = refl; at = refl; from = refl; valid = page_fits 4 0x67 false (omega arith) refl; answers = refl }

third_page : IsPage root 4 (page three 4 (told (entry 5 0x68 ∷ []) true))
unfolding computing read_dir_args values entry_of fitting read_dir results.entry results.fattr listing.read_dir remove
third_page = record { is = refl; at = refl; from = refl; valid = page_fits 5 0x68 true (omega arith) refl; answers = refl }

one_there : In one (ops_of more first)
unfolding computing read_dir_args values entry_of fitting read_dir results.entry results.fattr listing.read_dir
one_there = last_there nothing (ops_of more first) 1 refl

two_there : In two (ops_of removed second)
unfolding computing read_dir_args values entry_of fitting read_dir results.entry results.fattr listing.read_dir remove
two_there = last_there nothing (ops_of removed second) 1 refl

three_there : In three (ops_of gone_on third)
unfolding computing read_dir_args values entry_of fitting read_dir results.entry results.fattr listing.read_dir remove
three_there = last_there nothing (ops_of gone_on third) 1 refl

all_run : (p : Page)
    → In p (page one 0 (told (entry 3 0x66 ∷ []) false) ∷ page two 3 (told (entry 4 0x67 ∷ []) false) ∷ page three 4 (told (entry 5 0x68 ∷ []) true) ∷ [])
    → In p.op (back ++ all_ops more later)
all_run p (inl is) =
    subst (λ (p : Page). In p.op (back ++ all_ops more later)) (sym is) (second_in back (all_ops more later) one (first_in (ops_of more first) _ one one_there))
all_run p (inr (inl is)) = subst (λ (p : Page). In p.op (back ++ all_ops more later)) (sym is)
    (second_in back (all_ops more later) two (second_in (ops_of more first) _ two
    (second_in (ops_of begun removes) _ two (first_in (ops_of removed second) _ two two_there))))
all_run p (inr (inr (inl is))) = subst (λ (p : Page). In p.op (back ++ all_ops more later)) (sym is)
    (second_in back (all_ops more later) three (second_in (ops_of more first) _ three
    (second_in (ops_of begun removes) _ three (second_in (ops_of removed second) _ three (first_in (ops_of gone_on third) [] three three_there)))))
all_run p (inr (inr (inr none))) = absurd none

pub is_listed_in_pages : IsListedInPages
unfolding computing read_dir_args values entry_of fitting read_dir results.entry results.fattr listing.read_dir remove
is_listed_in_pages = record {
  front = take 1 opens;
  opening = opening;
  back = back;
  ops = second_there nothing opens refl;
  says = Opens _ refl refl refl 2 refl (_, refl, refl);
  spared = all_spared g.directory g.name (back ++ all_ops more later) refl;
  one = one;
  two = two;
  three = three;
  run = all_run;
  pages = (first_page, (second_page, (third_page, refl)));
}

-- The wrong ones.

none_is : ◌≢◌ {A = ℕ} 0 1
none_is e = absurd (omega arith)

two_is : ◌≢◌ {A = ℕ} 2 1
two_is e = absurd (omega arith)

-- the names in the root are `f`, `g` and `h`
abbrev is_one_of : List ℕ → Bool
is_one_of name = bytes_eq name (0x66 ∷ []) || (bytes_eq name (0x67 ∷ []) || bytes_eq name (0x68 ∷ []))

named_in : (rows : List Row) → list_all (λ (r : Row). is_one_of r.name) rows ≡ true → (r : Row) → In r rows → is_one_of r.name ≡ true
named_in [] all r there = absurd there
named_in (x ∷ rows) all r (inl is) = ap (λ (r : Row). is_one_of r.name) is ∙ (and_parts _ _ all).0
named_in (x ∷ rows) all r (inr behind) = named_in rows (and_parts _ _ all).1 r behind

rows_are : (d : RanOp) → list_all (λ (r : Row). is_one_of r.name) (last_of d (ops_of more first)).before.store.tree.rows ≡ true
unfolding computing read_dir_args values entry_of fitting read_dir results.entry results.fattr listing.read_dir
rows_are d = refl

pub listings_are_refused : ListingsAreRefused
listings_are_refused = record {
  skipped = λ d e cookie is. none_is is.once;
  twice = λ d e cookie is. two_is is.once;
  none = λ d cookie is. none_is is.once;
  unmade = λ d is.
      (let o = last_of d (ops_of more first) in
      let row = is.there (entry 6 0x78) (inl refl) in
      let name : row.0.name ≡ 0x78 ∷ [] = sym (ap (λ (e : Entry). e.name) row.4 ∙ entry_name o.before.store _ row.0) in
      true≢false (sym (named_in o.before.store.tree.rows (rows_are d) row.0 row.1) ∙ ap is_one_of name));
  idle = λ d is. is.some refl refl;
}
