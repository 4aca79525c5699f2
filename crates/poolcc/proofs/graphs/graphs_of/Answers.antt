use Rattle.std.proofs.Common.{Err, sym, ap, subst}
use Rattle.c_syntax.specs.Views.{program_tree}
use Rattle.poolcc.specs.Refused.{IsOverfull}
use Rattle.poolcc.proofs.FirstValues.{overfull, own_graphs}
use Rattle.poolcc.proofs.Refusals.{stop_halts}
use Rattle.poolcc.proofs.Typing.{accepted_compilable}
use Rattle.poolcc.proofs.graphs.graphs_of.Goals as goal

pub analyse-requires-clause-compilable : goal.analyse-requires-clause-compilable
analyse-requires-clause-compilable c =
    let accepted = c.in-Ok-elaborate.ensures.accepted c.args.text.now c.in-Ok.ensures.found in
    accepted_compilable c.args.text.now (program_tree c.in-Ok.program) _ c.requires accepted c.in-Ok-elaborate.ensures.typed

pub returns-in-Ok-lines_of-clause-printed : goal.returns-in-Ok-lines_of-clause-printed
returns-in-Ok-lines_of-clause-printed c = record {
  program = program_tree c.in-Ok.program;
  accepted = c.in-Ok-elaborate.ensures.accepted c.args.text.now c.in-Ok.ensures.found;
  tac = c.in-Ok-analyse.made.tac;
  made = c.in-Ok-analyse.made.graphs;
  has = own_graphs (program_tree c.in-Ok.program) c.in-Ok-elaborate.typed _ _ _ c.in-Ok-elaborate.ensures.typed c.in-Ok-elaborate.ensures.first c.in-Ok-analyse.ensures.graphs;
  is = c.in-Ok-lines_of.ensures;
}

pub returns-in-Err-Graph-clause-stop : goal.returns-in-Err-Graph-clause-stop
returns-in-Err-Graph-clause-stop c =
    let count = c.in-Err-Graph.count in
    subst (IsOverfull c.args.text.now) (sym c.in-Err-Graph.count-is)
    (overfull c.args.text.now (program_tree c.in-Ok.program) c.in-Ok-elaborate.typed count (c.in-Ok-elaborate.ensures.accepted c.args.text.now c.in-Ok.ensures.found) c.in-Ok-elaborate.ensures.typed c.in-Ok-elaborate.ensures.first
    (c.in-Err-Graph.ensures.refused count (ap Err c.in-Err-Graph.field-0-is)))

pub returns-in-Err-elaborate-clause-stop : goal.returns-in-Err-elaborate-clause-stop
returns-in-Err-elaborate-clause-stop c = stop_halts c.args.text.now c.in-Err-elaborate.stop (c.in-Err-elaborate.ensures.stop c.args.text.now c.in-Ok.ensures.found)
