-- A pass over an item: its base, and what stands behind that.
use Rattle.std.proofs.Common.{◌≡◌, List, ◌++◌, Option, None, sym, subst, append-nil}
use Rattle.run_theory.specs.declared.place.Pos.{Pos}
use Rattle.c_syntax.specs.Trees
use Rattle.c_syntax.specs.Trees.{NameTree, BaseTree, DeclaratorTree, InitDeclaratorTree, BlockTree, ItemTree}
use Rattle.c_typed.specs.declared.c_type.CType as number
use Rattle.c_typed.specs.declared.typed.Value as memory_value
use Rattle.c_typed.specs.Types.{CType}
use Rattle.c_typed.specs.Table.{Interned, type_in}
use Rattle.c_typed.specs.Typed.{GlobalDef, FunctionDef}
use Rattle.c_rules.specs.Names.{Scope}
use Rattle.c_types_state.specs.NameTables.{scope_of}
use Rattle.c_rules.specs.Expressions.{declared_name}
use Rattle.c_types_state.specs.Finding.{each_in}
use Rattle.c_rules.specs.Programs.{base_type, base_place, file_declarators, function_item, item}
use Rattle.c_rules.specs.Elaborated.{declared_globals, defined_function, each_global}
use Rattle.c_types_expressions.specs.declared.pass.Pass.{Pass}
use Rattle.c_types.specs.declared.defined.Defined.{Defined}
use Rattle.c_types.specs.Made.{Covers, Reaches}
use Rattle.c_rules.specs.NamedItems.{named_in_base, named_in_file_declarators, named_in_function, named_in_item}
use Rattle.c_types.specs.Outside.{HasDefined, item_globals, item_functions}
use Rattle.c_types.specs.InitialValues.{AddsValues, declarators_values, item_values}
use Rattle.c_types.proofs.KeptValues.{adds-same}
use Rattle.c_types.proofs.Reaching.{reaches-then-covers, reaches-types, defined-stays}

-- what is reached of an item, and what is defined with it
abbrev pub ReachesItem : ItemTree → Pass → Pass → Type 0
ReachesItem tree s u = Reaches (item (scope_of s.checker) tree).found (named_in_item (scope_of s.checker) tree) (item (scope_of s.checker) tree).scope s u

abbrev pub DefinesItem : ItemTree → Pass → Pass → Defined → Defined → Type 0
DefinesItem tree s u old new = (globals : List GlobalDef) (functions : List FunctionDef) → HasDefined s.checker.table old globals functions
    → HasDefined u.checker.table new (each_global globals (item_globals (scope_of s.checker) tree)) (functions ++ item_functions (scope_of s.checker) tree)

-- what has no name defines nothing
pub defines-none : (table : Interned) (defined : Defined) (scope : Scope) (base : Option CType) (declarator : DeclaratorTree) (body : BlockTree) (globals : List GlobalDef) (functions : List FunctionDef) → HasDefined table defined globals functions
    → HasDefined table defined globals (functions ++ defined_function scope base declarator body None)
defines-none table defined scope base declarator body globals functions has = subst (HasDefined table defined globals) (sym (append-nil functions)) has

module _ {s t : Pass} (base : BaseTree) (c_type : Option number.CType)
    (first : Reaches (base_type (scope_of s.checker) base).type_of.found (named_in_base (scope_of s.checker) base) (base_type (scope_of s.checker) base).scope s t)
    (known : each_in type_in t.checker.table c_type ≡ (base_type (scope_of s.checker) base).type_of.known) where
  -- a declaration
  module _ (u : Pass) (trees : List InitDeclaratorTree) where
    pub reaches-declaration : Covers (file_declarators (scope_of t.checker) (base_place base) (each_in type_in t.checker.table c_type) trees).found (named_in_file_declarators (scope_of t.checker) (base_place base) (each_in type_in t.checker.table c_type) trees) (file_declarators (scope_of t.checker) (base_place base) (each_in type_in t.checker.table c_type) trees).scope t u
        → ReachesItem (Trees.Declaration base trees) s u
    reaches-declaration covers =
        let of_base : Option CType = (base_type (scope_of s.checker) base).type_of.known in
        reaches-then-covers (λ scope. (file_declarators scope (base_place base) of_base trees).found) (λ scope. named_in_file_declarators scope (base_place base) of_base trees) (λ scope. (file_declarators scope (base_place base) of_base trees).scope) first
        (subst (λ b. Covers (file_declarators (scope_of t.checker) (base_place base) b trees).found (named_in_file_declarators (scope_of t.checker) (base_place base) b trees) (file_declarators (scope_of t.checker) (base_place base) b trees).scope t u) known covers)

    pub keeps-declaration : {before after : List memory_value.Value} → AddsValues (declarators_values (scope_of t.checker) (base_place base) (each_in type_in t.checker.table c_type) trees) u.checker.table before after → AddsValues (item_values (scope_of s.checker) (Trees.Declaration base trees)) u.checker.table before after
    keeps-declaration adds = adds-same (λ i. declarators_values (first.scope i) (base_place base) (known i) trees) adds

    pub defines-declaration : {old new : Defined}
        → ((globals : List GlobalDef) (functions : List FunctionDef) → HasDefined t.checker.table old globals functions → HasDefined u.checker.table new (each_global globals (declared_globals (scope_of t.checker) (base_place base) (each_in type_in t.checker.table c_type) trees)) functions)
        → DefinesItem (Trees.Declaration base trees) s u old new
    defines-declaration {old = old} {new = new} behind globals functions has =
        subst (HasDefined u.checker.table new (each_global globals (item_globals (scope_of s.checker) (Trees.Declaration base trees)))) (sym (append-nil functions))
        (subst (λ variables. HasDefined u.checker.table new (each_global globals variables) functions) (λ i. declared_globals (first.scope i) (base_place base) (known i) trees)
        (behind globals functions (defined-stays s.checker.table t.checker.table (reaches-types first) old globals functions has)))

  -- a function, or what is written as one
  module _ (u : Pass) (declarator : DeclaratorTree) (place : Pos) (body : BlockTree) (name : Option NameTree) (is_name : name ≡ declared_name declarator) where
    pub reaches-function : Covers (function_item (scope_of t.checker) (base_place base) (each_in type_in t.checker.table c_type) declarator body name).found (named_in_function (scope_of t.checker) (each_in type_in t.checker.table c_type) declarator body name) (function_item (scope_of t.checker) (base_place base) (each_in type_in t.checker.table c_type) declarator body name).scope t u
        → ReachesItem (Trees.Function base declarator place body) s u
    reaches-function covers =
        let of_base : Option CType = (base_type (scope_of s.checker) base).type_of.known in
        reaches-then-covers (λ scope. (function_item scope (base_place base) of_base declarator body (declared_name declarator)).found) (λ scope. named_in_function scope of_base declarator body (declared_name declarator)) (λ scope. (function_item scope (base_place base) of_base declarator body (declared_name declarator)).scope) first
        (subst (λ n. Covers (function_item (scope_of t.checker) (base_place base) of_base declarator body n).found (named_in_function (scope_of t.checker) of_base declarator body n) (function_item (scope_of t.checker) (base_place base) of_base declarator body n).scope t u) is_name
        (subst (λ b. Covers (function_item (scope_of t.checker) (base_place base) b declarator body name).found (named_in_function (scope_of t.checker) b declarator body name) (function_item (scope_of t.checker) (base_place base) b declarator body name).scope t u) known covers))

    pub defines-function : {old new : Defined}
        → ((globals : List GlobalDef) (functions : List FunctionDef) → HasDefined t.checker.table old globals functions → HasDefined u.checker.table new globals (functions ++ defined_function (scope_of t.checker) (each_in type_in t.checker.table c_type) declarator body name))
        → DefinesItem (Trees.Function base declarator place body) s u old new
    defines-function {old = old} {new = new} behind globals functions has =
        subst (λ bodies. HasDefined u.checker.table new globals (functions ++ bodies)) (λ i. defined_function (first.scope i) (known i) declarator body (is_name i))
        (behind globals functions (defined-stays s.checker.table t.checker.table (reaches-types first) old globals functions has))
