-- The run of close-to-open, and the server that it refuses, computed.
use Rattle.std.proofs.Common.{◌≡◌, ℕ, ◌^◌, ◌<◌, List, [], ◌∷◌, ◌++◌, take, append_assoc, refl, sym, ◌∙◌, ap, subst, arith}
use Rattle.nfs_tree.specs.declared.profile.Profile.TheVariants.{Exact}
use Rattle.nfs_attrs.specs.{Attributes.values, Mask.mask_of}
use Rattle.nfs_names.specs.GetAttr.{get_attr}
use Rattle.nfs_xdr.specs.Spelling.{hyper}
use Rattle.nfs_results.specs.Items as results
use Rattle.nfs_results.specs.Results.{spell_result}
use Rattle.nfs_results.specs.declared.res.Res.TheVariants as Res
use Rattle.nfs_files.specs.Written.{bytes_in, GivesIt, Reads}
use Rattle.nfs_exec.specs.{Runs.Ops.RanOp, Runs.WrittenRun.{WritesIt, AreSpared}}
use Rattle.nfs_serve.specs.{Step.new_state}
use Rattle.nfs_promises.specs.{Runs.{Requests.{words, exchange_id, create_session}, Started.usual, Points.{state_after, ops_of}}, Bytes.ChangeTells.GetsOf, Runs.AttributesTold.TellsValue}
use Rattle.nfs_promises.specs.Bytes.{CloseToOpen.{TellsChange, Keeps, IsWritten}, CloseToOpenWorked.{the_change, comes, begins, looks, reads_early, writes}}
use Rattle.nfs_promises.specs.Bytes.CloseToOpenWorked.{closes, first_open, reads, second_open, records, there, ready, looked, read_early, written, closed}
use Rattle.nfs_promises.specs.Bytes.{CloseToOpenWorked.{opened, read_again, IsKept, telling, StaleBytesRefused}, WrittenStaysWorked.{makes, made, byte}}
use Rattle.nfs_promises.specs.{Locks.LockKeptWorked.{came, outset, last_of}, Names.ListsAll.all_ops}
use Rattle.nfs_promises.proofs.{Runs.{Computing.computing, LastOperation.{nothing, three}}, Bytes.WrittenStaysWorked.{all_spared, writes_it, reads_it}}

-- Lists of operations, one behind the other.

abbrev in_front : List (List RanOp) → List RanOp → List RanOp
in_front [] ds = ds
in_front (p ∷ ps) ds = p ++ in_front ps ds

front_both : (ps : List (List RanOp)) (xs ys : List RanOp) → in_front ps (xs ++ ys) ≡ in_front ps xs ++ ys
front_both [] xs ys = refl
front_both (p ∷ ps) xs ys = ap (λ ds. p ++ ds) (front_both ps xs ys) ∙ sym (append_assoc p (in_front ps xs) ys)

-- an operation of the last of these, and what is behind it
in_last : (ps : List (List RanOp)) (xs f : List RanOp) (d : RanOp) (ys : List RanOp) → xs ≡ f ++ d ∷ [] → in_front ps (xs ++ ys) ≡ in_front ps f ++ d ∷ ys
in_last ps xs f d ys same = ap (λ xs. in_front ps (xs ++ ys)) same ∙ (ap (in_front ps) (append_assoc f (d ∷ []) ys) ∙ front_both ps f (d ∷ ys))

-- The parts of the run, each computed by itself.

abbrev look_ops : List RanOp
look_ops = ops_of ready looks

abbrev early_ops : List RanOp
early_ops = ops_of looked reads_early

abbrev write_ops : List RanOp
write_ops = ops_of read_early writes

abbrev close_ops : List RanOp
close_ops = ops_of written closes

abbrev first_ops : List RanOp
first_ops = ops_of closed first_open

abbrev read_ops : List RanOp
read_ops = ops_of opened reads

abbrev second_ops : List RanOp
second_ops = ops_of read_again second_open

-- the operations up to where B asks for the change; where A writes; where B opens; and where it opens once more
abbrev ready_ops : List (List RanOp)
ready_ops =
    ops_of (new_state usual) (came 100 1 (exchange_id 1 (0x41 ∷ [])))
    ∷ ops_of (state_after (new_state usual) (came 100 1 (exchange_id 1 (0x41 ∷ [])))) (came 101 2 (create_session 1 1))
    ∷ ops_of outset makes
    ∷ ops_of made comes
    ∷ ops_of there begins
    ∷ []

abbrev before_write : List (List RanOp)
before_write = ready_ops ++ (look_ops ∷ early_ops ∷ [])

abbrev before_open : List (List RanOp)
before_open = before_write ++ (write_ops ∷ close_ops ∷ [])

abbrev before_second : List (List RanOp)
before_second = before_open ++ (first_ops ∷ read_ops ∷ [])

abbrev EndsThree : List RanOp → Type 0
EndsThree ds = ds ≡ take 2 ds ++ last_of nothing ds ∷ []

ends : EndsThree look_ops × EndsThree early_ops × EndsThree write_ops × EndsThree first_ops × EndsThree read_ops × EndsThree second_ops
unfolding computing get_attr values results.fattr
ends = (three nothing look_ops refl, three nothing early_ops refl, three nothing write_ops refl, three nothing first_ops refl, three nothing read_ops refl, three nothing second_ops refl)

write_told : WritesIt byte (last_of nothing write_ops)
unfolding computing get_attr values results.fattr
write_told = writes_it (last_of nothing write_ops) refl refl refl

spared_at_last : AreSpared byte (close_ops ++ (first_ops ++ (read_ops ++ take 2 second_ops)))
unfolding computing get_attr values results.fattr
spared_at_last = all_spared byte (close_ops ++ (first_ops ++ (read_ops ++ take 2 second_ops))) refl

spared_at_first : AreSpared byte (close_ops ++ take 2 first_ops)
unfolding computing get_attr values results.fattr
spared_at_first = all_spared byte (close_ops ++ take 2 first_ops) refl

-- eight bytes of one attribute, which is the change
abbrev tells_it : (change : ℕ) (d : RanOp) → GetsOf 2 the_change d → change < 2 ^ 64 → d.before.store.tree.profile ≡ Exact
    → d.result ≡ spell_result (Res.GetAttr (record { attrmask = 8 ∷ []; attr_vals = hyper change ++ [] })) → TellsChange 2 change d
tells_it change d gets small exact answers = record {
  words = the_change;
  gets = gets;
  asks = refl;
  small = small;
  told = subst (λ p. TellsValue p 3 (hyper change) (mask_of the_change) d.result) (sym exact) (record { front = []; behind = []; long = refl; answers = answers });
}

looks_at : TellsChange 2 1 (last_of nothing look_ops)
unfolding computing get_attr values results.fattr
looks_at = tells_it 1 (last_of nothing look_ops) (record { is = refl; at = refl; ok = refl }) (omega arith) refl refl

tells_first : TellsChange 2 2 (last_of nothing first_ops)
unfolding computing get_attr values results.fattr
tells_first = tells_it 2 (last_of nothing first_ops) (record { is = refl; at = refl; ok = refl }) (omega arith) refl refl

tells_second : TellsChange 2 2 (last_of nothing second_ops)
unfolding computing get_attr values results.fattr
tells_second = tells_it 2 (last_of nothing second_ops) (record { is = refl; at = refl; ok = refl }) (omega arith) refl refl

-- the four bytes, and none
reads_all : (let d = last_of nothing read_ops in Reads 2 1 d.context d.item d.result)
unfolding computing get_attr values results.fattr
reads_all = reads_it (last_of nothing read_ops) (words (4 ∷ 0x7365_656e ∷ [])) refl refl refl refl

given : bytes_in reads_all.text ≡ words (0x7365_656e ∷ [])
unfolding reads_all
given = refl

reads_none : (let d = last_of nothing early_ops in Reads 2 1 d.context d.item d.result)
unfolding computing get_attr values results.fattr
reads_none = reads_it (last_of nothing early_ops) (words (0 ∷ [])) refl refl refl refl

-- The run.

abbrev until : List RanOp
until = in_front before_second (take 2 second_ops)

whole : all_ops (new_state usual) records ≡ until ++ last_of nothing second_ops ∷ []
whole = in_last before_second second_ops (take 2 second_ops) (last_of nothing second_ops) [] ends.5

abbrev kept : Keeps byte 2 until
kept = record {
  front = in_front before_open (take 2 first_ops);
  got = last_of nothing first_ops;
  between = take 2 read_ops;
  read = last_of nothing read_ops;
  back = take 2 second_ops;
  order = in_last before_open first_ops (take 2 first_ops) (last_of nothing first_ops) (read_ops ++ take 2 second_ops) ends.3
      ∙ ap (λ ds. in_front before_open (take 2 first_ops) ++ last_of nothing first_ops ∷ ds)
      (in_last [] read_ops (take 2 read_ops) (last_of nothing read_ops) (take 2 second_ops) ends.4);
  tells = tells_first;
  reads = reads_all;
}

pub is_kept : IsKept
is_kept = record {
  until = until;
  asks = last_of nothing second_ops;
  run = whole;
  kept = kept;
  wrote = record {
    front = in_front before_write (take 2 write_ops);
    write = last_of nothing write_ops;
    since = close_ops ++ (first_ops ++ (read_ops ++ take 2 second_ops));
    order = in_last before_write write_ops (take 2 write_ops) (last_of nothing write_ops) (close_ops ++ (first_ops ++ (read_ops ++ take 2 second_ops))) ends.2;
    writes = write_told;
    spared = spared_at_last;
  };
  tells = tells_second;
  given = given;
}

-- The wrong server.

abbrev until_open : List RanOp
until_open = in_front before_open (take 2 first_ops)

abbrev kept_old : Keeps byte 1 until_open
kept_old = record {
  front = in_front ready_ops (take 2 look_ops);
  got = last_of nothing look_ops;
  between = take 2 early_ops;
  read = last_of nothing early_ops;
  back = write_ops ++ (close_ops ++ take 2 first_ops);
  order = in_last ready_ops look_ops (take 2 look_ops) (last_of nothing look_ops) (early_ops ++ (write_ops ++ (close_ops ++ take 2 first_ops))) ends.0
      ∙ ap (λ ds. in_front ready_ops (take 2 look_ops) ++ last_of nothing look_ops ∷ ds)
      (in_last [] early_ops (take 2 early_ops) (last_of nothing early_ops) (write_ops ++ (close_ops ++ take 2 first_ops)) ends.1);
  tells = looks_at;
  reads = reads_none;
}

wrote_first : IsWritten byte until_open
wrote_first = record {
  front = in_front before_write (take 2 write_ops);
  write = last_of nothing write_ops;
  since = close_ops ++ take 2 first_ops;
  order = in_last before_write write_ops (take 2 write_ops) (last_of nothing write_ops) (close_ops ++ take 2 first_ops) ends.2;
  writes = write_told;
  spared = spared_at_first;
}

tells_old : (d : RanOp) → TellsChange 2 1 (telling 1 (last_of d first_ops))
unfolding computing get_attr values results.fattr
tells_old d = tells_it 1 (telling 1 (last_of d first_ops)) (record { is = refl; at = refl; ok = refl }) (omega arith) refl refl

not_given : GivesIt byte (last_of nothing early_ops).context (last_of nothing early_ops).item (last_of nothing early_ops).result reads_none → ⊥
unfolding reads_none computing
not_given is = none_there is.0
  where
    none_there : 1 < 0 → ⊥
    none_there lt = absurd (omega arith)

pub stale_refused : StaleBytesRefused
stale_refused d = record { until = until_open; kept = kept_old; wrote = wrote_first; tells = tells_old d; old = not_given }
