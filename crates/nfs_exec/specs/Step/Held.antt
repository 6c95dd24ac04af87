-- How many of each kind of state stand between two records.
use Rattle.std.specs.Prelude.{length}
use Rattle.nfs_exec.specs.{declared.held.Held.Held, Step.Machine.Machine}

abbrev pub held : Machine → Held
held m = record {
  clients = length m.clients.records;
  sessions = length m.sessions.sessions;
  objects = length m.store.tree.objects;
  opens = length m.store.opens.opens;
  locks = length m.store.opens.locks;
}
