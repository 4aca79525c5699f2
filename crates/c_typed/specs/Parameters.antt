-- How many parameters the functions of a program have.
use Rattle.std.specs.Prelude.{◌≤◌, length}
use Rattle.std.specs.List.{AllByRecursion}
use Rattle.c_typed.specs.Typed.{FunctionDef, Program}

-- no more than the limit of parameters lets a function have
abbrev pub HasFewParameters : Program → Type 0
HasFewParameters program = AllByRecursion (λ (function : FunctionDef). length function.parameters ≤ 64) program.functions
