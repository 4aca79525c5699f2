-- The numbers of variables outside functions and of literals in a map, from a number on: those of the first of a name or place.
use Rattle.std.specs.Prelude.{◌≡◌, ℕ, List, Vec, map, Option, option_map, bytes_eq}
use Rattle.indexmap.specs.IndexMap.{IndexMap, get_by}
use Rattle.run_theory.specs.declared.place.Pos.{Pos}
use Rattle.c_typed.specs.declared.definition.GlobalDef.{GlobalDef}
use Rattle.c_typed.specs.declared.definition.LiteralDef.{LiteralDef}
use Rattle.c_typed.specs.Places.{is_same_place}
use Rattle.c_typed.specs.Table.{Interned}
use Rattle.c_typed.specs.DefinitionViews.{global_in, literal_of}
use Rattle.tac_ir.specs.declared.program.Tac.{Tac}
use Rattle.tac_ir.specs.declared.register.GlobalId.{GlobalId}
use Rattle.tac_ir.specs.declared.register.LiteralId.{LiteralId}
use Rattle.tac_ir.specs.First.{named_global, placed_literal}
use Rattle.tac_ir.specs.Views.{tac_of}
use Rattle.heap_graph.specs.declared.numbers.StaticNumbers.{StaticNumbers}

abbrev pub NumbersGlobals : {A S : Type 0} → IndexMap (Vec ℕ A) ℕ S → ℕ → List GlobalDef → Type 0
NumbersGlobals numbers first globals =
    (table : Interned) (name : List ℕ) → get_by (λ key. bytes_eq name key.items) numbers ≡ option_map (λ found. found.0) (named_global first (map (global_in table) globals) name)

abbrev pub NumbersLiterals : {S : Type 0} → IndexMap Pos ℕ S → ℕ → List LiteralDef → Type 0
NumbersLiterals numbers first literals =
    (place : Pos) → get_by (is_same_place place) numbers ≡ option_map (λ found. found.0) (placed_literal first (map literal_of literals) place)

pub record AreNumbers (tac : Tac) (numbers : StaticNumbers) : Type 0 where
  pub globals : NumbersGlobals numbers.globals 0 tac.globals.items
  pub literals : NumbersLiterals numbers.literals 0 tac.literals.items

-- the first variable of a name
abbrev pub IsGlobal : StaticNumbers → List ℕ → Option GlobalId → Type 0
IsGlobal numbers name found =
    (tac : Tac) → AreNumbers tac numbers → option_map (λ (global : GlobalId). global.0) found ≡ option_map (λ found. found.0) (named_global 0 (tac_of tac).globals name)

-- the first literal at a place
abbrev pub IsLiteral : StaticNumbers → Pos → Option LiteralId → Type 0
IsLiteral numbers place found =
    (tac : Tac) → AreNumbers tac numbers → option_map (λ (literal : LiteralId). literal.0) found ≡ option_map (λ found. found.0) (placed_literal 0 (tac_of tac).literals place)
