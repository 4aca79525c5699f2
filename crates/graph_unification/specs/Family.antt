-- The functions of a group, and the names of each.
use Rattle.std.specs.Prelude.{◌≡◌, ℕ, Bool, true, false, List, Option, Some, None}
use Rattle.tac_ir.specs.declared.program.Function.{Function}
use Rattle.tac_ir.specs.States.{Owner}
use Rattle.heap_graph.specs.Graphs.{Target, Name, OfRegister, OfResult, OfObject, OfGlobal, OfLiteral, OfCopy, Graph, is_copy}
use Rattle.graph_unification.specs.Cells.{has_number}
use Rattle.heap_graph.specs.declared.frozen.FunctionNames.{FunctionNames}
use Rattle.graph_unification.specs.Freezing.{has_register, has_object, TellsNames}

-- the names of an owner are told where it has a function
abbrev pub TellsOwner : Graph → Owner → Option Function → Option FunctionNames → Type 0
TellsOwner graph owner (Some function) (Some names) = TellsNames graph owner function names
TellsOwner graph owner None None = Unit {0}
TellsOwner graph owner _ _ = ⊥

abbrev pub of_function : (Function → Bool) → Option Function → Bool
of_function holds None = false
of_function holds (Some function) = holds function

-- a name that is told
abbrev pub is_told : (Owner → Option Function) → List ℕ → List ℕ → Name → Bool
is_told functions variables literals (OfRegister owner register) = of_function (λ function. has_register function.parameters function.counts register) (functions owner)
is_told functions variables literals (OfResult owner) = of_function (λ function. true) (functions owner)
is_told functions variables literals (OfObject owner local) = of_function (λ function. has_object function.objects.items local) (functions owner)
is_told functions variables literals (OfGlobal number) = has_number variables number
is_told functions variables literals (OfLiteral number) = has_number literals number
is_told functions variables literals (OfCopy number) = false

-- all names that have targets are told, unless they are copies
abbrev pub AllTold : Graph → (Owner → Option Function) → List ℕ → List ℕ → Type 0
AllTold graph functions variables literals = (name : Name) (target : Target) → is_copy name ≡ false → graph.targets name ≡ Some target → is_told functions variables literals name ≡ true
