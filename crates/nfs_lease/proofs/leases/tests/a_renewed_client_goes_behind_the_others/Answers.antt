use Rattle.nfs_lease.proofs.Latest.{latest_none, latest_lease}
use Rattle.nfs_lease.proofs.leases.tests.a_renewed_client_goes_behind_the_others.Goals as goal

pub add-requires : goal.add-requires
add-requires g c = latest_none 100 _ c.in_ok-leases.ensures

pub add-requires-2 : goal.add-requires-2
add-requires-2 g c = latest_lease _ _ 1 100 c.in_ok-add.ensures.ok (latest_none 100 _ c.in_ok-leases.ensures)

pub renew-requires : goal.renew-requires
renew-requires g c =
    latest_lease _ _ 2 100 c.in_ok-add-2.ensures.ok (latest_lease _ _ 1 100 c.in_ok-add.ensures.ok (latest_none 100 _ c.in_ok-leases.ensures))
