use Rattle.std.proofs.Common.{ap, ◌∙◌}
use Rattle.c_typed.specs.Table.{derived_meaning, meaning_of}
use Rattle.c_typed.proofs.Reading.{struct_shape}
use Rattle.c_typed.proofs.type_table.TypeTable.derived_shape.Goals as goal

pub returns-in-Some-Struct : goal.returns-in-Some-Struct
returns-in-Some-Struct c =
    struct_shape c.args.self.now c.args.t.0 c.in-Some-Struct.id c.requires.stands
    (c.in-Some-Struct.ensures ∙ ap (derived_meaning c.args.self.now.tags (meaning_of c.args.self.now)) c.in-Some-Struct.field-0-is)
