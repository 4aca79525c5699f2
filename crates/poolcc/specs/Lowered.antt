-- What the checker of types gives, and code that is made of it.
use Rattle.c_typed.specs.Typed.{Values, Program}
use Rattle.c_typed.specs.DefinitionViews.{ProgramStands, LiteralsStand}
use Rattle.c_typed.specs.Views.{values_in, ValuesStand}
use Rattle.c_types.specs.declared.program.Typed.{Typed}
use Rattle.tac_ir.specs.declared.program.Tac as memory
use Rattle.tac_ir.specs.Views.{tac_of}
use Rattle.tac_build.specs.ProgramCode.{Code}
use Rattle.poolcc.specs.Compiled.{IsCompilable}

-- the expressions of first values
abbrev pub first_of : Typed → Values
first_of typed = values_in typed.program.types typed.first_values.items

-- its types are in its table
pub record IsStanding (typed : Typed) : Type 0 where
  pub program : ProgramStands typed.program
  pub first : ValuesStand typed.program.types typed.first_values.items

-- the code of a program that can be compiled
pub record IsLowered (tac : memory.Tac) : Type 0 where
  pub program : Program
  pub compilable : IsCompilable program
  pub code : Code program (tac_of tac)
  pub literals : LiteralsStand tac.types tac.literals.items
