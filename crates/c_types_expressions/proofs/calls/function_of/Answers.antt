use Rattle.std.proofs.lemmas.Result.{IfOk-weaker}
use Rattle.c_typed.proofs.Grown.{stays, grows_trans}
use Rattle.c_types_expressions.proofs.Arguments.{function_found}
use Rattle.c_types_expressions.proofs.calls.function_of.Goals as goal

pub parameter-requires-clause-first : goal.parameter-requires-clause-first
parameter-requires-clause-first c = (stays c.args.checker.now.table c.no_parameters.new.self.table c.in_ok-none.ensures.made.grows c.args.parameter c.requires.parameter).0

pub function-requires-clause-returned : goal.function-requires-clause-returned
function-requires-clause-returned c =
    let old = c.args.checker.now.table in
    let between = c.no_parameters.new.self.table in
    let new = c.parameter.new.self.table in
    (stays old new (grows_trans old between new c.in_ok-none.ensures.made.grows c.in_ok-parameters.ensures.made.grows) c.args.returned c.requires.returned).0

pub returns : goal.returns
returns c =
    IfOk-weaker c.function.result _ _
    (λ made found. function_found c.args.returned c.args.parameter made c.in_ok-none.none c.in_ok-parameters.parameters c.requires.returned c.requires.parameter c.in_ok-none.ensures.made c.in_ok-parameters.ensures.made found)
    c.function.ensures.made
