-- What is known of a function's code.
use Rattle.std.specs.Prelude.{◌≡◌, ℕ, Bool, false, get_or, map, Option, Some, None}
use Rattle.std.specs.List.{list_any}
use Rattle.c_typed.specs.declared.c_type.CType as number
use Rattle.c_typed.specs.Table.{Interned, type_in}
use Rattle.tac_ir.specs.declared.register.FunctionId.{FunctionId}
use Rattle.tac_ir.specs.declared.register.Local.{Local}
use Rattle.tac_ir.specs.declared.register.Local.TheVariants as L
use Rattle.tac_ir.specs.declared.register.Register.{Register}
use Rattle.tac_ir.specs.declared.register.Register.TheVariants as R
use Rattle.tac_ir.specs.declared.program.Function as memory_function
use Rattle.tac_ir.specs.Objects.{own_type}
use Rattle.tac_ir.specs.States.{Owner, InStart, InFunction}
use Rattle.tac_ir.specs.Views.{op_in, object_in}
use Rattle.heap_graph.specs.Points.{makes_null, type_of_inner}
use Rattle.heap_graph.specs.declared.scope.RegisterMarks.{RegisterMarks}
use Rattle.heap_graph.specs.declared.scope.LocalTypes.{LocalTypes}
use Rattle.heap_graph.specs.declared.scope.Scope.{Scope}

-- ---- marks of registers

abbrev pub is_marked : RegisterMarks → Register → Bool
is_marked marks (R.Local (L.Parameter number)) = get_or marks.parameters.items number false
is_marked marks (R.Local (L.Variable number)) = get_or marks.variables.items number false
is_marked marks (R.Call number) = get_or marks.calls.items number false
is_marked marks (R.Argument number) = get_or marks.arguments.items number false
is_marked marks (R.Expression number) = get_or marks.expressions.items number false
is_marked marks (R.Temporary number) = get_or marks.temporaries.items number false

-- ---- types of locals

abbrev pub void : number.CType
void = record { 0 = 0 }

abbrev pub local_type : LocalTypes → Local → number.CType
local_type locals (L.Parameter number) = get_or locals.parameters.items number void
local_type locals (L.Variable number) = get_or locals.variables.items number void

-- ---- what is known of a function's code

abbrev pub owner_at : Option FunctionId → Owner
owner_at None = InStart
owner_at (Some function) = InFunction function.0

pub record Describes (table : Interned) (function : memory_function.Function) (scope : Scope) : Type 0 where
  pub nulls : (register : Register) → is_marked scope.nulls register ≡ list_any (makes_null register) (map (op_in table) function.points.items)
  pub types : (local : Local) → type_in table (local_type scope.locals local) ≡ type_of_inner (own_type (map (object_in table) function.objects.items) local)
