-- The functions whose address is taken, in a list, each as often as it is.
use Rattle.std.specs.Prelude.{◌≡◌, ℕ, ◌<◌, Bool, List, [], ◌∷◌, Vec, map, length, slice_get, Option, Some, None, bytes_eq}
use Rattle.indexmap.specs.IndexMap.{IndexMap, get_by}
use Rattle.c_typed.specs.declared.definition.Scalar as memory_scalar
use Rattle.c_typed.specs.declared.definition.Scalar.TheVariants as C
use Rattle.c_typed.specs.declared.definition.First as memory_first
use Rattle.c_typed.specs.declared.definition.First.TheVariants as V
use Rattle.c_typed.specs.declared.definition.GlobalDef as memory_global
use Rattle.c_typed.specs.Table.{Interned}
use Rattle.tac_ir.specs.declared.op.Op as memory_op
use Rattle.tac_ir.specs.declared.op.Op.TheVariants as O
use Rattle.tac_ir.specs.declared.program.Function as memory_function
use Rattle.tac_ir.specs.First.{named_function}
use Rattle.tac_ir.specs.Code.{Tac}
use Rattle.tac_ir.specs.Views.{function_in}
use Rattle.call_graph.specs.RowLists.{gathered}
use Rattle.tac_ir.specs.Targets.{is_taken}

-- the numbers of functions by their names, from a number on: that of the first of a name
abbrev pub NumbersFunctions : {A S : Type 0} → IndexMap (Vec ℕ A) ℕ S → ℕ → List memory_function.Function → Type 0
NumbersFunctions numbers first functions =
    (table : Interned) (name : List ℕ) → get_by (λ key. bytes_eq name key.items) numbers ≡ named_function first (map (function_in table) functions) name

abbrev pub at_point : memory_op.Op → List ℕ
at_point (O.FunctionAddress to function) = function.0 ∷ []
at_point op = []

abbrev pub at_function : memory_function.Function → List ℕ
at_function function = gathered at_point function.points.items

abbrev pub option_list : Option ℕ → List ℕ
option_list (Some number) = number ∷ []
option_list None = []

-- what a first value names
abbrev pub at_value : {A S : Type 0} → IndexMap (Vec ℕ A) ℕ S → memory_scalar.Scalar → List ℕ
at_value numbers (C.Function name) = option_list (get_by (λ key. bytes_eq name key.items) numbers)
at_value numbers value = []

abbrev pub at_first : {A S : Type 0} → IndexMap (Vec ℕ A) ℕ S → memory_first.First → List ℕ
at_first numbers (V.Scalar held) = at_value numbers held.value
at_first numbers first = []

abbrev pub at_global : {A S : Type 0} → IndexMap (Vec ℕ A) ℕ S → memory_global.GlobalDef → List ℕ
at_global numbers global = gathered (at_first numbers) global.first.items

-- of each function, whether its address is taken
pub record TellsTaken (tac : Tac) (taken : List Bool) : Type 0 where
  pub each : length taken ≡ length tac.functions
  pub is : (number : ℕ) → number < length tac.functions → slice_get taken number ≡ Some (is_taken tac number)
