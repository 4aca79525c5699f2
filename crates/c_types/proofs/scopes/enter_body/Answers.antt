use Rattle.std.proofs.lemmas.Result.{on_ok_weaker}
use Rattle.c_types.proofs.scopes.enter_body.Goals as goal

pub returns-clause-scope : goal.returns-clause-scope
returns-clause-scope c = on_ok_weaker c.enter_function.result (λ covers. covers.scope) c.enter_function.ensures.covers
