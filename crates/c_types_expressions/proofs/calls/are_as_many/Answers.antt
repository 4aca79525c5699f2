use Rattle.std.proofs.Common.{sym, ◌∙◌}
use Rattle.c_typed.specs.Table.{types_in, type_in}
use Rattle.c_types_expressions.proofs.Arguments.{as_many_more, as_many_none, as_many_all}
use Rattle.c_types_expressions.proofs.calls.are_as_many.Goals as goal

pub returns-in-None : goal.returns-in-None
returns-in-None c =
    let table = c.args.checker.now.table in
    sym (as_many_none table (types_in table c.loop.parameters) c.args.arguments.now c.loop.index c.loop-item.result c.in-None.ensures c.loop-test.true) ∙ c.loop.invariant.others

pub loop-preserved : goal.loop-preserved
loop-preserved c =
    let table = c.args.checker.now.table in
    record {
      parameters = c.in-Some.ensures.2;
      others =
          sym (as_many_more table (types_in table c.loop.parameters) (types_in table c.in-Some.others) (type_in table c.in-Some.field-0-0) c.args.arguments.now c.loop.index c.loop-item.result c.in-Some.ensures.0 c.loop-test.true)
          ∙ c.loop.invariant.others;
    }

pub returns : goal.returns
returns c =
    let table = c.args.checker.now.table in
    sym (as_many_all table (types_in table c.loop.parameters) c.args.arguments.now c.loop.index c.first_parameter-2.result c.is_none.result c.is_none.ensures c.first_parameter-2.ensures c.loop-test.false) ∙ c.loop.invariant.others
