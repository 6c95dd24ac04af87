use Rattle.nfs_xdr.proofs.{WordLaws.listed_number, TextLaws.{leads_from, leads_again}}
use Rattle.nfs_compound.specs.{ArgCodecs.protected, OpCodec.op_codec, Wire.{protected4, nfs_argop4}, OpNum.{op_number, op_nums}}
use Rattle.nfs_compound.proofs.{OpNumLaws.is_op_listing, ArgLaws.is_protected, OpLaws.is_op, WireLaws.{ops, protections}}
use Rattle.nfs_compound.proofs.laws.arguments.Goals as goal

pub returns-clause-table : goal.returns-clause-table
returns-clause-table c = λ bytes x fits. (leads_from op_codec nfs_argop4 ops is_op bytes x fits, leads_again op_codec nfs_argop4 ops is_op bytes x)

pub returns-clause-protected : goal.returns-clause-protected
returns-clause-protected c = λ bytes x fits.
    (leads_from protected protected4 protections is_protected bytes x fits, leads_again protected protected4 protections is_protected bytes x)

pub returns-clause-own : goal.returns-clause-own
returns-clause-own c = is_op_listing.found

pub returns-clause-none_else : goal.returns-clause-none_else
returns-clause-none_else c = λ n op. listed_number op_number op_nums n op
