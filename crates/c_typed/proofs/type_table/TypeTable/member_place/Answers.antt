use Rattle.c_typed.specs.Table.{type_in}
use Rattle.c_typed.proofs.Steps.{place_there}
use Rattle.c_typed.proofs.type_table.TypeTable.member_place.Goals as goal

pub returns-in_ok-structure-in-Struct : goal.returns-in_ok-structure-in-Struct
returns-in_ok-structure-in-Struct c =
    place_there c.args.self.now c.in-Struct.id c.in_ok-structure-in-Struct.field-0.now (type_in c.args.self.now c.args.t) c.in_ok-structure-in-Struct.ensures c.in-Struct.ensures.means
    c.args.number c.member_place.result c.member_place.ensures
