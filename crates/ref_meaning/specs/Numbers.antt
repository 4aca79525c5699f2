-- The numbers of functions by their names.
use Rattle.std.specs.Prelude.{◌≡◌, ℕ, suc, if◌then◌else◌, List, [], ◌∷◌, Option, Some, None, bytes_eq}
use Rattle.std.specs.Borrow.{Bor}
use Rattle.indexmap.specs.IndexMap.{IndexMap, get_by}
use Rattle.c_typed.specs.declared.definition.FunctionDef.{FunctionDef}

-- the number of the first function of this name, where the first of all has a number
abbrev pub number_from : ℕ → List FunctionDef → List ℕ → Option ℕ
number_from number [] name = None
number_from number (first ∷ others) name = if bytes_eq first.name name then Some number else number_from (suc number) others name

-- a map has them
abbrev pub HasNumbers : {S : Type 0} → IndexMap (Bor (List ℕ)) ℕ S → ℕ → List FunctionDef → Type 0
HasNumbers numbers first functions = (name : List ℕ) → get_by (λ key. bytes_eq name key.now) numbers ≡ number_from first functions name
