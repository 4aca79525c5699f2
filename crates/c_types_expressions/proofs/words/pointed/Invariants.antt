use Rattle.std.proofs.Common.{Some}
use Rattle.c_typed.specs.Table.{type_in}
use Rattle.c_rules.specs.Known.{give}
use Rattle.c_rules.specs.Expressions.{pointers}
use Rattle.c_types_state.specs.Finding.{Finds, IsType}
use Rattle.c_types_expressions.proofs.words.pointed.Given as goal

abbrev pub invariant-loop : goal.invariant-loop
invariant-loop l = Finds IsType (give (pointers l.counter (type_in l.fn.checker.table l.initial.c_type))) l.fn.checker l.checker (Some l.c_type)
