use Rattle.c_typed.specs.Table.{structs_in, tag_in}
use Rattle.c_typed.proofs.Structures.{no_layout_by_tag}
use Rattle.c_typed.proofs.type_table.TypeTable.struct_extent.Goals as goal

pub returns-in-None : goal.returns-in-None
returns-in-None c = record { layout = no_layout_by_tag (structs_in c.args.self.now) (tag_in c.args.self.now c.args.id) c.in-None.ensures }
