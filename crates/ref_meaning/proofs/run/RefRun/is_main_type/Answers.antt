use Rattle.std.proofs.Common.{sym, ◌∙◌}
use Rattle.c_num.specs.declared.IntType.TheVariants as I
use Rattle.c_typed.proofs.Grown.{integer_stands}
use Rattle.ref_meaning.proofs.MainType.{main-then, main-else}
use Rattle.ref_meaning.proofs.run.RefRun.is_main_type.Goals as goal

pub same-requires-clause-b : goal.same-requires-clause-b
same-requires-clause-b c = (integer_stands c.args.self.now.program.now.types c.integer.result I.Int c.integer.ensures).0

pub returns-then-same : goal.returns-then-same
returns-then-same c =
    main-then c.args.self.now.program.now.types c.args.c_type c.in-Function.result c.integer.result c.in-Function.parameters c.in-Function.ensures.means c.integer.ensures
    c.first_parameter.result c.is_none.result (sym c.if-same.ensures) c.first_parameter.ensures c.is_none.ensures

pub returns-else-same : goal.returns-else-same
returns-else-same c =
    c.if-same.false ∙ main-else c.args.self.now.program.now.types c.args.c_type c.in-Function.result c.integer.result c.in-Function.parameters c.in-Function.ensures.means c.integer.ensures (sym c.if-same.ensures)
