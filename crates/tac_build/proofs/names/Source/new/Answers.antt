use Rattle.tac_build.proofs.names.Source.new.Goals as goal

pub returns-clause-source : goal.returns-clause-source
returns-clause-source c = record {
  stands = c.requires.stand;
  well = c.requires.well_typed;
  functions = λ name. c.in_ok-names.ensures.functions c.args.program.types name;
  globals = λ name. c.in_ok-names.ensures.globals c.args.program.types name;
  literals = c.in_ok-names.ensures.literals;
}
