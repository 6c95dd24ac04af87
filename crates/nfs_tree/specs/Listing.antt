-- What an entry of a listing says, wherever its name lies.
use Rattle.nfs_tree.specs.{declared.list.Entry.Entry, Files.Listed}

abbrev pub listed_of : Entry → Listed
listed_of e = record { cookie = e.cookie; name = e.name.now; number = e.number }
