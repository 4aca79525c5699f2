use Rattle.std.proofs.Common.{arith}
use Rattle.tac_build.proofs.Numbering.{function_within, function_typed}
use Rattle.tac_build.proofs.names.Source.function_type.Goals as goal

pub index-requires : goal.index-requires
index-requires c =
    let program = c.args.self.now.program in
    omega (arith, program.functions.ok.0, function_within program.types program.functions.items c.requires.there.0 c.args.function.0 c.requires.there.1)

pub returns : goal.returns
returns c =
    let program = c.args.self.now.program in
    let stand = c.requires.source.stands.functions in (
      (function_typed program.types program.functions.items c.requires.there.0 c.args.function.0 c.index.result.now c.requires.there.1 c.index.ensures stand).0,
      λ name is. (function_typed program.types program.functions.items name c.args.function.0 c.index.result.now is c.index.ensures stand).1,
    )
