-- The numbers of functions, variables and literals in a map, from a number on: those of the first of a name or place.
use Rattle.std.specs.Prelude.{◌≡◌, ℕ, List, Vec, map, option_map, bytes_eq}
use Rattle.indexmap.specs.IndexMap.{IndexMap, get_by}
use Rattle.run_theory.specs.declared.place.Pos.{Pos}
use Rattle.c_typed.specs.declared.definition.GlobalDef.{GlobalDef}
use Rattle.c_typed.specs.declared.definition.LiteralDef.{LiteralDef}
use Rattle.c_typed.specs.Places.{is_same_place}
use Rattle.c_typed.specs.Table.{Interned}
use Rattle.c_typed.specs.DefinitionViews.{global_in, literal_of}
use Rattle.tac_ir.specs.declared.program.Function.{Function}
use Rattle.tac_ir.specs.declared.program.Tac.{Tac}
use Rattle.tac_ir.specs.First.{named_function, named_global, placed_literal}
use Rattle.tac_ir.specs.Views.{function_in}
use Rattle.pool_rewrite.specs.declared.names.Names as memory_names

abbrev pub NumbersFunctions : {A S : Type 0} → IndexMap (Vec ℕ A) ℕ S → ℕ → List Function → Type 0
NumbersFunctions numbers first functions =
    (table : Interned) (name : List ℕ) → get_by (λ key. bytes_eq name key.items) numbers ≡ named_function first (map (function_in table) functions) name

abbrev pub NumbersGlobals : {A S : Type 0} → IndexMap (Vec ℕ A) ℕ S → ℕ → List GlobalDef → Type 0
NumbersGlobals numbers first globals =
    (table : Interned) (name : List ℕ) → get_by (λ key. bytes_eq name key.items) numbers ≡ option_map (λ found. found.0) (named_global first (map (global_in table) globals) name)

abbrev pub NumbersLiterals : {S : Type 0} → IndexMap Pos ℕ S → ℕ → List LiteralDef → Type 0
NumbersLiterals numbers first literals =
    (place : Pos) → get_by (is_same_place place) numbers ≡ option_map (λ found. found.0) (placed_literal first (map literal_of literals) place)

pub record AreNames (tac : Tac) (names : memory_names.Names) : Type 0 where
  pub functions : NumbersFunctions names.functions 0 tac.functions.items
  pub globals : NumbersGlobals names.globals 0 tac.globals.items
  pub literals : NumbersLiterals names.literals 0 tac.literals.items
