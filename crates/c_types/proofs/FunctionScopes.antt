-- The scope of a function with its body.
use Rattle.std.proofs.Common.{◌≡◌, ℕ, length, Bool, true, false, if◌then◌else◌, List, [], ◌∷◌, ◌++◌, Option, Some, None, refl, sym, ◌∙◌}
use Rattle.run_theory.specs.declared.place.Pos.{Pos}
use Rattle.c_syntax.specs.Trees
use Rattle.c_syntax.specs.Trees.{NameTree, WordsTree, OptionalTree, ParametersTree, InitDeclaratorTree, BlockTree}
use Rattle.c_typed.specs.Types.{CType}
use Rattle.c_rules.specs.Names.{Scope, LocalName, in_function}
use Rattle.c_rules.specs.Expressions.{words_type, optional_name, is_void_alone}
use Rattle.c_rules.specs.Statements.{with_declared, declare_local, declare_locals, declaration}
use Rattle.c_rules.specs.Programs.{Filed, enter_parameters, entered_function, parameter_local}
use Rattle.c_types_state.specs.NameTables.{State, scope_of, ScopeGrows}
use Rattle.c_types.specs.Parts.{behind_block}
use Rattle.c_types.specs.Outside.{IsOutside}

-- All but the locals of the innermost block is as there.
abbrev pub SameAround : Scope → Scope → Type 0
SameAround there scope = (inner : List LocalName) → record there { inner = inner } ≡ record scope { inner = inner }

around-declared : (name : Option NameTree) (c_type : Option CType) (scope : Scope) → SameAround (with_declared name c_type scope) scope
around-declared None c_type scope inner = refl
around-declared (Some name) c_type scope inner = refl

around-locals : (place : Pos) (base : Option CType) (trees : List InitDeclaratorTree) (scope : Scope) → SameAround (declare_locals place base trees scope).scope scope
around-locals place base [] scope inner = refl
around-locals place base (first ∷ others) scope inner =
    around-locals place base others (declare_local place base first scope).scope inner ∙ around-declared _ _ scope inner

around-block : (scope : Scope) (tree : BlockTree) → SameAround (behind_block scope tree) scope
around-block scope Trees.Close inner = refl
around-block scope (Trees.Declare tree others) inner =
    around-block (declaration scope tree).scope others inner ∙ around-locals tree.words.place (words_type scope tree.words).known tree.declarators scope inner
around-block scope (Trees.Perform one others) inner = around-block scope others inner

around-parameter : (outside : Scope) (words : WordsTree) (declarator : OptionalTree) (name : Option NameTree) (scope : Scope) → SameAround (parameter_local outside words declarator name scope) scope
around-parameter outside words _ None scope inner = refl
around-parameter outside words _ (Some name) scope inner = refl

around-parameters : (outside : Scope) (parameters : ParametersTree) (scope : Scope) → SameAround (enter_parameters outside parameters scope).scope scope
around-parameters outside Trees.NoParameters scope inner = refl
around-parameters outside (Trees.Parameter words declarator others) scope inner =
    around-parameters outside others (parameter_local outside words declarator (optional_name declarator) scope) inner
    ∙ around-parameter outside words declarator (optional_name declarator) scope inner

around-entered : (scope : Scope) (parameters : ParametersTree) → SameAround (entered_function scope parameters).scope (in_function scope)
around-entered scope parameters inner = by (is_void_alone parameters)
  where
    inside : Filed
    inside = record { found = []; scope = in_function scope }

    by : (b : Bool) → record (if b then inside else enter_parameters scope parameters (in_function scope)).scope { inner = inner } ≡ record (in_function scope) { inner = inner }
    by true = refl
    by false = around-parameters scope parameters (in_function scope) inner

-- behind its body, without its locals
pub around-function : (scope : Scope) (parameters : ParametersTree) (body : BlockTree) → SameAround (behind_block (entered_function scope parameters).scope body) (in_function scope)
around-function scope parameters body inner = around-block (entered_function scope parameters).scope body inner ∙ around-entered scope parameters inner

pub outside-again : (scope : Scope) → IsOutside scope → in_function scope ≡ scope
outside-again scope outside = λ i. record scope { inner = sym outside.0 i; outer = sym outside.1 i }

-- a pass leaves the innermost block
abbrev pub LeavesBlock : ℕ → State → State → Type 0
LeavesBlock outer old new = (inside around : List LocalName) → (scope_of old).outer ≡ inside ++ around → length around ≡ outer → ScopeGrows (record (scope_of old) { inner = inside; outer = around }) old new
