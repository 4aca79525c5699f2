-- What stands outside functions, one thing at a time.
use Rattle.std.specs.Prelude.{◌≡◌, ℕ, Bool, ◌||◌, ◌&&◌, List, [], ◌∷◌, map, Option, Some, None}
use Rattle.run_theory.specs.declared.place.Pos.{Pos}
use Rattle.c_syntax.specs.Trees
use Rattle.c_syntax.specs.Trees.{NameTree, WordsTree, OptionalTree, ParametersTree, ItemTree}
use Rattle.c_typed.specs.declared.c_type.CType as number
use Rattle.c_typed.specs.Types
use Rattle.c_typed.specs.Types.{CType}
use Rattle.c_typed.specs.Layouts.{MemberDef, is_complete}
use Rattle.c_typed.specs.Typed.{GlobalDef, FunctionDef}
use Rattle.c_typed.specs.Table.{Interned, AreComplete, KnownStands, member_entries, member_defs}
use Rattle.c_typed.specs.DefinitionViews.{global_in, function_in, GlobalsStand, FunctionsStand}
use Rattle.c_rules.specs.declared.rule.TypeRule.TheVariants as T
use Rattle.c_types_state.specs.declared.file_name.FileEntry as memory_file
use Rattle.c_types_state.specs.Checkers.{names_of}
use Rattle.c_rules.specs.Names.{Scope, FileName}
use Rattle.c_typed.specs.Names.{contains}
use Rattle.c_types_state.specs.NameTables.{file_row}
use Rattle.c_rules.specs.Known.{Checked, also, given, require, unless, give}
use Rattle.c_types_state.specs.Finding.{IsOption, IsType}
use Rattle.c_rules.specs.Expressions.{Adjusted, optional_type, words_type, optional_name, parameter_type, declared_name}
use Rattle.c_rules.specs.Programs.{has_member, base_type, base_place, differs}
use Rattle.c_rules.specs.Elaborated.{declared_globals, defined_function}
use Rattle.c_types.specs.declared.structures.Members.{Members}
use Rattle.c_types.specs.declared.defined.Defined.{Defined}

-- ---- structures

-- the members that were declared so far
abbrev pub defs_in : Interned → Members → List MemberDef
defs_in table members = member_defs table.tags table.entries (member_entries members.members.items)

-- each of their types is that of a complete object, and their names are these
pub record AreHeld (table : Interned) (members : Members) : Type 0 where
  pub complete : AreComplete table (member_entries members.members.items)
  pub names : (name : List ℕ) → contains (names_of members.names.keys) name ≡ has_member (defs_in table members) name

-- ---- parameters

-- the type of a parameter as a local, where it has a name and a type
abbrev pub local_type : Scope → WordsTree → OptionalTree → Option NameTree → Option CType
local_type outside words _ None = None
local_type outside words declarator (Some name) = (given (optional_type outside name.place Adjusted (words_type outside words) declarator) (parameter_type outside name.place)).known

abbrev pub local_types : Scope → ParametersTree → List (Option CType)
local_types outside Trees.NoParameters = []
local_types outside (Trees.Parameter words declarator others) = local_type outside words declarator (optional_name declarator) ∷ local_types outside others

abbrev pub AreTypes : Interned → List (Option number.CType) → List (Option CType) → Type 0
AreTypes table [] [] = Unit {0}
AreTypes table (first ∷ others) (c_type ∷ c_types) = IsOption (IsType table) first c_type × AreTypes table others c_types
AreTypes table _ _ = ⊥

abbrev pub AllKnown : Interned → List (Option number.CType) → Type 0
AllKnown table [] = Unit {0}
AllKnown table (first ∷ others) = KnownStands table first × AllKnown table others

-- ---- definitions

-- no local is in scope
abbrev pub IsOutside : Scope → Type 0
IsOutside scope = (scope.inner ≡ []) × (scope.outer ≡ [])

-- the variables and functions that were defined are these
pub record HasDefined (table : Interned) (defined : Defined) (variables : List GlobalDef) (bodies : List FunctionDef) : Type 0 where
  pub globals_stand : GlobalsStand table defined.globals
  pub functions_stand : FunctionsStand table defined.functions.items
  pub globals : map (global_in table) defined.globals ≡ variables
  pub functions : map (function_in table) defined.functions.items ≡ bodies

-- what an item declares
abbrev pub item_globals : Scope → ItemTree → List GlobalDef
item_globals scope (Trees.Declaration base declarators) = let based = base_type scope base in declared_globals based.scope (base_place base) based.type_of.known declarators
item_globals scope (Trees.Function base declarator place body) = []

abbrev pub item_functions : Scope → ItemTree → List FunctionDef
item_functions scope (Trees.Declaration base declarators) = []
item_functions scope (Trees.Function base declarator place body) = let based = base_type scope base in defined_function based.scope based.type_of.known declarator body (declared_name declarator)

-- ---- names outside functions

-- the type of a name that has no body
abbrev pub outside_rule : Scope → Pos → CType → Checked CType
outside_rule scope here c_type = require (Types.is_function c_type || is_complete scope.structs c_type) T.T05 here (give c_type)

-- and of one that has one: one that isn't a function keeps its type
abbrev pub body_rule : Pos → CType → Checked CType
body_rule here c_type = also (unless (Types.is_function c_type) T.T05 here) (give c_type)

abbrev pub row_of : Interned → List ℕ → memory_file.FileEntry → FileName
row_of table name entry = file_row table (record { name = name; entry = entry })

-- two declarations of a name that don't agree
abbrev pub clash : FileName → FileName → Bool
clash old name = differs old.c_type name.c_type || ((old.has_init && name.has_init) || (old.has_body && name.has_body))
