-- Arrays and functions.
use Rattle.std.specs.Prelude.{◌≡◌, ℕ, not, ◌||◌, List, Option}
use Rattle.run_theory.specs.declared.place.Pos.{Pos}
use Rattle.c_rules.specs.declared.rule.TypeRule.TheVariants as T
use Rattle.c_typed.specs.Types
use Rattle.c_typed.specs.Types.{CType, CTypes, Function}
use Rattle.c_typed.specs.declared.c_type.CType as number
use Rattle.c_typed.specs.Layouts.{is_complete}
use Rattle.c_typed.specs.Table.{Interned, type_in}
use Rattle.c_typed.specs.Kept.{IsObject}
use Rattle.c_rules.specs.Names.{Scope}
use Rattle.c_typed.specs.Names.{contains}
use Rattle.c_rules.specs.Known.{Checked, give, require, with_known}

-- the type of an array's elements (C17 6.7.6.2 paragraph 1)
abbrev pub element_rule : Scope → Pos → CType → Checked CType
element_rule scope here c_type = require (is_complete scope.structs c_type) T.T05 here (give c_type)

abbrev pub IsElement : Interned → number.CType → CType → Type 0
IsElement table t c_type = IsObject table t × (type_in table t ≡ c_type)

-- the type of a function's result (C17 6.7.6.3 paragraph 1)
abbrev pub result_rule : Pos → CType → Checked CType
result_rule here c_type = require (not (Types.is_array c_type || Types.is_function c_type)) T.T05 here (require (not (Types.is_struct c_type)) T.T19 here (give c_type))

-- the same names, in whatever order
abbrev pub SameNames : List (List ℕ) → List (List ℕ) → Type 0
SameNames names others = (name : List ℕ) → contains names name ≡ contains others name

-- a function of parameters that may not be known
abbrev pub function_rule : Option CTypes → CType → Checked CType
function_rule parameters result = with_known parameters (λ types. give (Function result types))
