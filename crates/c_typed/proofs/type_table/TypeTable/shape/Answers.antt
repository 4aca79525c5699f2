use Rattle.std.proofs.Common.{sym, subst}
use Rattle.c_typed.specs.Table.{HasShape, the_type, meaning_of}
use Rattle.c_typed.proofs.Apart.{type-something}
use Rattle.c_typed.proofs.Reading.{base_means}
use Rattle.c_typed.proofs.type_table.TypeTable.shape.Goals as goal

pub returns-then-t-lt-FIRST_ENTRY : goal.returns-then-t-lt-FIRST_ENTRY
returns-then-t-lt-FIRST_ENTRY c =
    subst (λ m. HasShape c.args.self.now (the_type m) c.base_shape.result)
    (sym (base_means c.args.self.now c.args.t.0 (type-something (meaning_of c.args.self.now c.args.t.0) c.requires) c.if-t-lt-FIRST_ENTRY.true))
    (c.base_shape.ensures c.args.self.now)
