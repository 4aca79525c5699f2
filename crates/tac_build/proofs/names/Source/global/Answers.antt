use Rattle.std.proofs.Common.{arith, sym, ◌∙◌}
use Rattle.tac_build.proofs.Numbering.{first_there, global_within, global_typed}
use Rattle.tac_build.proofs.names.Source.global.Goals as goal

pub index-requires : goal.index-requires
index-requires c =
    let program = c.args.self.now.program in
    omega (arith, program.globals.ok.0, global_within program.types program.globals.items c.args.name.now c.in-Some.number.now (sym (c.requires.source.globals c.args.name.now) ∙ sym c.in-Some.ensures.value))

pub unreachable-requires : goal.unreachable-requires
unreachable-requires c = first_there _ c.requires.there (sym (c.requires.source.globals c.args.name.now) ∙ sym c.in-None.ensures.value)

pub returns : goal.returns
returns c =
    let program = c.args.self.now.program in
    global_typed program.types program.globals.items c.args.name.now c.in-Some.number.now c.index.result.now (sym (c.requires.source.globals c.args.name.now) ∙ sym c.in-Some.ensures.value) c.index.ensures c.requires.source.stands.globals
