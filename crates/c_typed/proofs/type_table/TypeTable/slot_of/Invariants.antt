use Rattle.std.proofs.Common.{◌≡◌, ◌+◌, ◌≤◌, Some, drop}
use Rattle.c_typed.specs.Layouts.{greatest, saturated, slot_at}
use Rattle.c_typed.specs.Table.{structs_in, known_in, type_in, KnownStands}
use Rattle.c_typed.proofs.type_table.TypeTable.slot_of.Given as goal

abbrev pub invariant-loop-step : goal.invariant-loop-step
invariant-loop-step l = record {
  slots : saturated (l.slot + slot_at (structs_in l.self) (known_in l.self.tags l.self.entries l.part) (drop l.step-index l.path)) ≡ slot_at (structs_in l.self) (Some (type_in l.self l.fn.t)) l.path;
  small : l.slot ≤ greatest;
  stands : KnownStands l.self l.part;
}
