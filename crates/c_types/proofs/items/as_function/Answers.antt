use Rattle.c_types.proofs.OutsideMade.{body-found}
use Rattle.c_types.proofs.items.as_function.Goals as goal

pub returns : goal.returns
returns c = body-found c.args.here c.args.c_type c.in_ok-c_type.c_type c.is_function-is_function.result c.in_ok-c_type.was c.requires c.is_function-is_function.ensures c.require.ensures.noted
