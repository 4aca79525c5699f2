use Rattle.c_typed.proofs.Steps.{member_there}
use Rattle.c_typed.proofs.type_table.TypeTable.member_at.Goals as goal

pub returns : goal.returns
returns c = member_there c.args.self.now c.args.id c.in_ok-structure.field-0.now c.in_ok-structure.ensures c.args.number c.member_type.result c.member_type.ensures
