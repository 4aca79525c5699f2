use Rattle.c_typed.specs.Table.{type_in}
use Rattle.c_typed.proofs.Steps.{first_is_member}
use Rattle.c_typed.proofs.type_table.TypeTable.member.Goals as goal

pub returns-in_ok-structure-in-Struct : goal.returns-in_ok-structure-in-Struct
returns-in_ok-structure-in-Struct c =
    first_is_member c.args.self.now c.in-Struct.id c.in_ok-structure-in-Struct.field-0.now (type_in c.args.self.now c.args.t) c.in_ok-structure-in-Struct.ensures c.in-Struct.ensures.means
    c.args.name.now c.member.result c.member.ensures
