use Rattle.std.proofs.Common.{◌≡◌, ◌++◌}
use Rattle.c_typed.specs.Table.{member_entries, AreComplete}
use Rattle.c_typed.specs.Inside.{IsBuilding, struct_entry}
use Rattle.c_typed.proofs.type_table.TypeTable.placed.Given as goal

abbrev pub invariant-loop-member : goal.invariant-loop-member
invariant-loop-member l = record {
  building : IsBuilding l.self l.fn.id l.structure;
  rest : (struct_entry l.structure).members ++ member_entries l.member-iterator.rest.items ≡ member_entries l.fn.members.items;
  complete : AreComplete l.self (member_entries l.member-iterator.rest.items);
}
