-- The operations on names and attributes, one line each, and what want of memory makes of them. The others are none of these.
use Rattle.std.specs.Prelude.{Bool, true, false, Ok, Err, Result, Option, Some, None}
use Rattle.nfs_xdr.specs.{declared.time.Time.Time, declared.status.Status.Status}
use Rattle.nfs_compound.specs.declared.name_args.Rename as args
use Rattle.nfs_compound.specs.{declared.op.Op.Op, declared.op.Item.Item}
use Rattle.nfs_tree.specs.Names.{moves}
use Rattle.nfs_names.specs.{declared.context.Context.Context, declared.node.Pair.Pair, State.State, Outcome.{Outcome, by_table}, Checks.both, Access.access}
use Rattle.nfs_names.specs.{Create.create, GetAttr.get_attr, GetFh.get_fh, Link.link, Lookup.lookup, LookupP.lookup_p, NVerify.nverify, PutFh.put_fh}
use Rattle.nfs_names.specs.{PutPubFh.put_pub_fh, PutRootFh.put_root_fh, ReadDir.read_dir, ReadLink.read_link, Remove.remove, Rename.{rename, move_of}}
use Rattle.nfs_names.specs.{RestoreFh.restore_fh, SaveFh.save_fh, SecinfoNoName.secinfo_no_name, Verify.verify}

-- what an operation comes to, at a moment
abbrev pub one : State → Context → Time → Op → Option Outcome
one s x now (Op.Access asked) = Some (access s x asked)
one s x now (Op.Create c) = Some (create s x now c)
one s x now (Op.GetAttr mask) = Some (get_attr s x mask)
one s x now Op.GetFh = Some (get_fh s x)
one s x now (Op.Link name) = Some (link s x now name)
one s x now (Op.Lookup name) = Some (lookup s x name)
one s x now Op.LookupP = Some (lookup_p s x)
one s x now (Op.NVerify attributes) = Some (nverify s x attributes)
one s x now (Op.PutFh object) = Some (put_fh s x object)
one s x now Op.PutPubFh = Some (put_pub_fh s x)
one s x now Op.PutRootFh = Some (put_root_fh s x)
one s x now (Op.ReadDir a) = Some (read_dir s x a)
one s x now Op.ReadLink = Some (read_link s x)
one s x now (Op.Remove name) = Some (remove s x now name)
one s x now (Op.Rename a) = Some (rename s x now a)
one s x now Op.RestoreFh = Some (restore_fh s x)
one s x now Op.SaveFh = Some (save_fh s x)
one s x now (Op.SecinfoNoName style) = Some (secinfo_no_name s x style)
one s x now (Op.Verify attributes) = Some (verify s x attributes)
one s x now op = None

-- A RENAME of an object onto itself moves nothing, and wants nothing.
abbrev pub moves_in : State → args.Rename → Result Pair Status → Bool
moves_in s a (Err status) = false
moves_in s a (Ok p) = moves s.tree (move_of a p)

-- the operations that may want memory
abbrev pub grows : State → Context → Op → Bool
grows s x (Op.Create c) = true
grows s x (Op.Link name) = true
grows s x (Op.Rename a) = moves_in s a (both s x)
grows s x op = false

-- what stands at a place of a compound comes to, where memory was refused or not
abbrev pub comes_to : Bool → State → Context → Time → Item → Option Outcome
comes_to refused s x now i = by_table grows one refused s x now i
