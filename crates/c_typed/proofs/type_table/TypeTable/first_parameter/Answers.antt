use Rattle.c_typed.proofs.Reading.{list_number}
use Rattle.c_typed.proofs.type_table.TypeTable.first_parameter.Goals as goal

pub entry-requires : goal.entry-requires
entry-requires c = list_number c.args.self.now c.args.parameters.0 c.requires
