-- The run of a byte that stays, computed.
use Rattle.std.proofs.Common.{◌≡◌, ℕ, ◌++◌, length, ◌<◌, Bool, true, false, List, [], ◌∷◌, take, Some, refl, sym, ◌∙◌, ap, arith, inl}
use Rattle.std.proofs.lemmas.Bool.{not-true, leb-false, ltb-true, true≢false}
use Rattle.std.specs.Prelude.{not, nat_le}
use Rattle.std.specs.List.{list_all}
use Rattle.nfs_xdr.specs.Spelling.{number}
use Rattle.nfs_compound.specs.declared.op_num.OpNum.TheVariants as Num
use Rattle.nfs_compound.specs.declared.file_args.Write as args
use Rattle.nfs_compound.specs.{declared.file_args.Read.Read, declared.file_args.StableHow.TheVariants.Unstable, declared.op.Item.Item}
use Rattle.nfs_compound.specs.{declared.op.Item.TheVariants.Operation, declared.open_args.OpenHow.OpenHow, declared.open_args.OpenHow.TheVariants.{NoCreate, Create}}
use Rattle.nfs_compound.specs.declared.op.Op.TheVariants as Op
use Rattle.nfs_results.specs.Results.{done_head}
use Rattle.nfs_names.specs.{declared.context.Context.Context, Context.anonymous}
use Rattle.nfs_files.specs.Written.{Byte, WritesOver, Reads, bytes_in}
use Rattle.nfs_exec.specs.{Runs.Ops.RanOp, Runs.WrittenRun.{WritesIt, SparesIt, AreSpared}}
use Rattle.nfs_promises.specs.{Runs.{Requests.words, Points.ops_of}, Locks.LockKeptWorked.last_of, Bytes.WrittenStaysWorked.{StaysTo, BytesRefused, made}}
use Rattle.nfs_promises.specs.Bytes.WrittenStaysWorked.{writes, written, goes_on, grown, closes, closed, reads, byte, answering}
use Rattle.nfs_promises.proofs.Runs.{LastOperation.{nothing, three, each_of}, Computing.computing}

-- A WRITE behind the place, an OPEN that makes nothing, and whatever is none of the three that change bytes, spares the byte.

abbrev pub makes_it : OpenHow → Bool
makes_it NoCreate = false
makes_it (Create how) = true

abbrev pub changes : Byte → Item → Bool
changes b (Operation (Op.Write w)) = nat_le w.offset b.place
changes b (Operation (Op.SetAttr a)) = true
changes b (Operation (Op.Open a)) = makes_it a.openhow
changes b i = false

write_behind : (b : Byte) (x : Context) (i : Item) (result : List ℕ) → changes b i ≡ false → WritesOver b.file b.place x i result → ⊥
write_behind b x i result e over =
    let low : b.place < over.asked.offset = leb-false _ _ (sym (ap (changes b) over.is) ∙ e) in
    let from = over.from in absurd (omega arith)

spared_by : (b : Byte) (d : RanOp) → changes b d.item ≡ false → SparesIt b d
spared_by b d e = record {
  writes = λ over. write_behind b d.context d.item d.result e over;
  sizes = λ sets. true≢false (sym (ap (changes b) sets.is) ∙ e);
  opens = λ opens. true≢false (sym (ap (changes b) opens.is ∙ ap makes_it opens.how) ∙ e);
}

pub all_spared : (b : Byte) (ds : List RanOp) → list_all (λ d. not (changes b d.item)) ds ≡ true → AreSpared b ds
all_spared b = each_of (SparesIt b) (λ d. not (changes b d.item)) (λ d e. spared_by b d (not-true _ e))

abbrev pub wrote : args.Write
wrote = record { stateid = anonymous; offset = 0; stable = Unstable; bytes = words (0x7365_656e ∷ []) }

abbrev read : Read
read = record { stateid = anonymous; offset = 0; count = 8 }

-- The parts of the run, each computed by itself.

-- the WRITE, answered that it wrote four bytes
pub writes_it : (d : RanOp) → d.item ≡ Operation (Op.Write wrote) → d.context.current ≡ Some byte.file
    → d.result ≡ done_head Num.Write ++ (words (4 ∷ []) ++ words (2 ∷ 7 ∷ 0 ∷ [])) → WritesIt byte d
unfolding computing
writes_it d is at answers = record {
  over = record {
    asked = wrote;
    is = is;
    at = at;
    count = words (4 ∷ []);
    more = words (2 ∷ 7 ∷ 0 ∷ []);
    answers = answers;
    long = refl;
    from = omega arith;
    below = ltb-true 1 _ refl;
  };
  value = refl;
}

-- the READ, answered that the file ends behind it and with these bytes
abbrev pub reads_it : (d : RanOp) (text : List ℕ) → d.item ≡ Operation (Op.Read read) → d.context.current ≡ Some byte.file
    → d.result ≡ done_head Num.Read ++ (words (1 ∷ []) ++ text) → length (words (1 ∷ [])) ≡ 4 → Reads byte.file byte.place d.context d.item d.result
reads_it d text is at answers long = record {
  asked = read;
  is = is;
  at = at;
  eof = words (1 ∷ []);
  long = long;
  text = text;
  answers = answers;
  from = omega arith;
  below = inl (ltb-true 1 _ refl);
}

given : (let d = last_of nothing (ops_of closed reads) in Reads byte.file byte.place d.context d.item d.result)
unfolding computing
given = reads_it (last_of nothing (ops_of closed reads)) (words (8 ∷ 0x7365_656e ∷ 0x0000_6d6f ∷ [])) refl refl refl refl

bytes : bytes_in given.text ≡ words (0x7365_656e ∷ 0x0000_6d6f ∷ [])
unfolding given number
bytes = refl

pub stays_to : StaysTo
unfolding computing
stays_to = record {
  front = take 2 (ops_of made writes);
  write = last_of nothing (ops_of made writes);
  ops = three nothing (ops_of made writes) refl;
  tells = writes_it (last_of nothing (ops_of made writes)) refl refl refl;
  beside = all_spared byte (ops_of written goes_on) refl;
  shut = all_spared byte (ops_of grown closes) refl;
  until = take 2 (ops_of closed reads);
  read = last_of nothing (ops_of closed reads);
  last = three nothing (ops_of closed reads) refl;
  spared = all_spared byte (take 2 (ops_of closed reads)) refl;
  given = given;
  bytes = bytes;
}

pub bytes_refused : BytesRefused
unfolding computing
bytes_refused = record {
  zeros = λ d is. no_byte (is.read (answered d (words (8 ∷ 0 ∷ 0 ∷ [])))).1;
  none = λ d is. none_there (is.read (answered d (words (0 ∷ [])))).0;
  gone = λ d is. none_there (is.stands refl).0;
}
  where
    answered : (d : RanOp) (text : List ℕ) → (let c = answering (words (1 ∷ []) ++ text) (last_of d (ops_of closed reads)) in
        Reads byte.file byte.place c.context c.item c.result)
    answered d text = reads_it (answering (words (1 ∷ []) ++ text) (last_of d (ops_of closed reads))) text refl refl refl refl

    no_byte : ◌≡◌ {A = ℕ} 0 0x65 → ⊥
    no_byte e = absurd (omega arith)

    none_there : 1 < 0 → ⊥
    none_there lt = absurd (omega arith)
