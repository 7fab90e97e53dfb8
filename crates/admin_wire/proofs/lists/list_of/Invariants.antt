use Rattle.std.proofs.Common.{◌≡◌, ◌-◌}
use Rattle.admin_wire.specs.Lists.{list_of}
use Rattle.admin_wire.proofs.Entries.{list_from}
use Rattle.admin_wire.proofs.lists.list_of.Given as goal

abbrev pub invariant-entries : goal.invariant-entries
invariant-entries l = list_from l.list (l.count - l.counter) l.rest ≡ list_of l.bytes
