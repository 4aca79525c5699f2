-- What is asked of the numbers that a graph's maps have is asked of all variables outside functions, and of all literals.
use Rattle.std.proofs.Common.{◌≡◌, ℕ, suc, ◌==◌, ◌&&◌, Bool, List, [], ◌∷◌, map, Option, Some, None, refl, sym, ap, ◌∙◌}
use Rattle.std.specs.Prelude.{slice_get}
use Rattle.std.specs.List.{list_all}
use Rattle.std.specs.Map.{lookup, keys_of}
use Rattle.indexmap.specs.IndexMap.{keys}
use Rattle.c_typed.specs.declared.definition.GlobalDef.{GlobalDef}
use Rattle.c_typed.specs.declared.definition.LiteralDef.{LiteralDef}
use Rattle.c_typed.specs.Types.{CType, literal_type}
use Rattle.c_typed.specs.Layouts.{StructDef}
use Rattle.c_typed.specs.Table.{Interned, structs_in, type_in}
use Rattle.c_typed.specs.DefinitionViews.{global_in, literal_of, LiteralsStand}
use Rattle.tac_ir.specs.States.{Owner}
use Rattle.heap_graph.specs.declared.graph.Target as memory_target
use Rattle.heap_graph.specs.Graphs.{Target, Graph, OfGlobal, OfLiteral}
use Rattle.heap_graph.specs.Targets.{has_target, implies}
use Rattle.heap_graph.specs.Closed.{Family, graph_of, object_closed, globals_closed, literals_closed}
use Rattle.heap_graph.specs.Frozen.{optional_target, bare, static_in}
use Rattle.heap_graph.specs.declared.frozen.FrozenGraph.{FrozenGraph}
use Rattle.heap_graph.specs.Shows.{ShowsGraph}
use Rattle.graph_checker.specs.Objects.{is_static, static_at}
use Rattle.graph_checker.proofs.Numbers.{at, each, by_keys}
use Rattle.graph_checker.proofs.ClosedObjects.Shown.{shown_object}

-- ---- the numbers of a map

module _ (structs : List StructDef) (graph : Graph) where
  abbrev test : (ℕ → Option Target) → ℕ → CType → Bool
  test targets number c_type = is_static structs graph (targets number) (Some c_type)

  abbrev found_in : List (ℕ × memory_target.Target) → ℕ → Option Target
  found_in entries number = optional_target (lookup (λ key. number == key) entries)

  same_at : (targets : ℕ → Option Target) (number : ℕ) (c_type : Option CType) → is_static structs graph (targets number) c_type ≡ at (test targets) number c_type
  same_at targets number None = refl
  same_at targets number (Some c_type) = refl

  of_numbers : (entries : List (ℕ × memory_target.Target)) (types : List CType) → list_all (static_at structs graph (found_in entries) types) (keys_of entries) ≡ each (test (found_in entries)) 0 types
  of_numbers entries types =
      (λ i. list_all (λ number. same_at (found_in entries) number (slice_get types number) i) (keys_of entries))
      ∙ by_keys (test (found_in entries)) types entries
      (λ number c_type none. ap (λ (found : Option memory_target.Target). is_static structs graph (optional_target found) (Some c_type)) none)

-- ---- variables outside functions and literals

module _ (table : Interned) (family : Family) (owner : Owner) (graph : FrozenGraph) (shows : ShowsGraph table family owner graph) where
  -- what is asked of an object of this type
  abbrev asked : Option Target → CType → Bool
  asked target c_type = is_static (structs_in table) (bare table graph) target (Some c_type)

  shown_static : (c_type : CType) (target : Option Target)
      → is_static (structs_in table) (bare table graph) target (Some c_type) ≡ implies (has_target target) (object_closed family owner c_type (λ flags. flags.global) target)
  shown_static c_type target = λ i. implies (has_target target) (shown_object table family owner graph shows c_type (λ flags. flags.global) target i)

  of_globals : (number : ℕ) (globals : List GlobalDef)
      → each (λ n c_type. asked (static_in graph.globals n) c_type) number (map (λ (global : GlobalDef). type_in table global.c_type) globals) ≡ globals_closed family owner number (map (global_in table) globals)
  of_globals number [] = refl
  of_globals number (global ∷ globals) =
      let c_type = type_in table global.c_type in
      let one = ap (λ (target : Option Target). asked target c_type) (sym (shows.globals number)) ∙ shown_static c_type ((graph_of family owner).targets (OfGlobal number)) in
      λ i. one i && of_globals (suc number) globals i

  of_literals : (number : ℕ) (literals : List LiteralDef) → LiteralsStand table literals
      → each (λ n c_type. asked (static_in graph.literals n) c_type) number (map (λ (literal : LiteralDef). type_in table literal.c_type) literals) ≡ literals_closed family owner number (map literal_of literals)
  of_literals number [] stand = refl
  of_literals number (literal ∷ literals) stand =
      let target = (graph_of family owner).targets (OfLiteral number) in
      let one = (λ i. asked (sym (shows.literals number) i) (stand.0.1 i)) ∙ shown_static (literal_type literal.bytes) target in
      λ i. one i && of_literals (suc number) literals stand.1 i

  pub globals_shown : (globals : List GlobalDef)
      → list_all (static_at (structs_in table) (bare table graph) (static_in graph.globals) (map (λ (global : GlobalDef). type_in table global.c_type) globals)) (keys graph.globals)
      ≡ globals_closed family owner 0 (map (global_in table) globals)
  globals_shown globals =
      of_numbers (structs_in table) (bare table graph) graph.globals.entries (map (λ (global : GlobalDef). type_in table global.c_type) globals) ∙ of_globals 0 globals

  pub literals_shown : (literals : List LiteralDef) → LiteralsStand table literals
      → list_all (static_at (structs_in table) (bare table graph) (static_in graph.literals) (map (λ (literal : LiteralDef). type_in table literal.c_type) literals)) (keys graph.literals)
      ≡ literals_closed family owner 0 (map literal_of literals)
  literals_shown literals stand =
      of_numbers (structs_in table) (bare table graph) graph.literals.entries (map (λ (literal : LiteralDef). type_in table literal.c_type) literals) ∙ of_literals 0 literals stand
