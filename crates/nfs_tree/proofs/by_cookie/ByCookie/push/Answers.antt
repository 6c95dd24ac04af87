use Rattle.std.proofs.Common.{List, sym, ◌∙◌, subst, arith}
use Rattle.nfs_xdr.specs.Tables.{IsRising}
use Rattle.nfs_xdr.proofs.Tables.{IsRising-from}
use Rattle.nfs_tree.specs.declared.row.Row.{Row}
use Rattle.nfs_tree.proofs.MapLemmas.{cookie}
use Rattle.nfs_tree.proofs.by_cookie.ByCookie.push.Goals as goal

pub push-requires : goal.push-requires
push-requires c = subst (λ (xs : List Row). IsRising cookie 0 xs c.args.row.cookie) (sym (c.in_ok-reserve.ensures.items ∙ c.self.view_is))
    (IsRising-from cookie 0 3 c.args.row.cookie c.args.self.now (omega arith) c.requires)
