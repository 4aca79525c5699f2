use Rattle.c_typed.proofs.Steps.{to_member}
use Rattle.c_typed.proofs.type_table.TypeTable.member_step.Goals as goal

pub returns-in-Some : goal.returns-in-Some
returns-in-Some c = to_member c.args.self.now c.args.id c.in-Some.structure.now c.in-Some.ensures c.args.number c.slots_before.result c.slots_before.ensures
