use Rattle.std.proofs.Common.{None, refl}
use Rattle.c_typed.proofs.Grown.{void_stands}
use Rattle.graph_checker.proofs.values.nothing.Goals as goal

pub returns : goal.returns
returns c = λ table i. record { target = None; c_type = (void_stands table (record { 0 = 0 }) refl).1 i }
