-- What first values ask depends on the nodes of the graph of `start`, and on the targets of variables outside functions and of literals.
use Rattle.std.proofs.Common.{◌≡◌, ℕ, suc, Bool, List, [], ◌∷◌, Option, Some, None, refl, sym, ap, ◌∙◌}
use Rattle.std.specs.Prelude.{◌==◌, ◌&&◌, ◌||◌, not}
use Rattle.std.specs.List.{list_any}
use Rattle.c_typed.specs.declared.part.Part.{Part}
use Rattle.c_typed.specs.declared.part.Part.TheVariants as P
use Rattle.c_typed.specs.Values as first
use Rattle.c_typed.specs.Typed.{GlobalDef, LiteralDef}
use Rattle.tac_ir.specs.declared.program.Tac as memory_tac
use Rattle.tac_ir.specs.First.{named_global, placed_literal}
use Rattle.tac_ir.specs.Code.{Tac}
use Rattle.tac_ir.specs.States.{InStart}
use Rattle.tac_ir.specs.Views.{tac_of}
use Rattle.heap_graph.specs.Graphs.{Target, Node, Graph, OfGlobal, OfLiteral}
use Rattle.heap_graph.specs.Targets.{has_target, same_target, at_target, shifted, edge_at, implies, slots_before, type_of_member, member_part, element_part}
use Rattle.heap_graph.specs.Targets as T
use Rattle.heap_graph.specs.Closed.{Family, in_start, first_part, global_part, literal_part, static_part, is_moved, place_closed, constant_closed, held_closed, all_held_closed, first_closed}
use Rattle.heap_graph.specs.declared.frozen.FrozenGraph.{FrozenGraph}
use Rattle.heap_graph.specs.Shows.{ShowsGraph}
use Rattle.graph_checker.specs.Values.{alone}

-- ---- graphs with the same nodes

abbrev with_nodes : List (Option Node) → Graph
with_nodes nodes = record { nodes = nodes; targets = λ name. None }

module _ (a b : Graph) (nodes : a.nodes ≡ b.nodes) where
  same_at : (target : Option Target) (holds : Node → ℕ → Bool) → at_target a target holds ≡ at_target b target holds
  same_at None holds = refl
  same_at (Some target) holds = ap (λ l. at_target (with_nodes l) (Some target) holds) nodes

  same_shifted : (slots : ℕ) (target : Option Target) → shifted a slots target ≡ shifted b slots target
  same_shifted slots None = refl
  same_shifted slots (Some target) = ap (λ l. shifted (with_nodes l) slots (Some target)) nodes

  same_edge : (target : Option Target) → edge_at a target ≡ edge_at b target
  same_edge None = refl
  same_edge (Some target) = ap (λ l. edge_at (with_nodes l) (Some target)) nodes

-- ---- families whose graphs of `start` have the same nodes and the same targets of variables and literals

module _ (f g : Family) (tac : f.tac ≡ g.tac) (nodes : f.graphs.start.nodes ≡ g.graphs.start.nodes)
    (globals : (number : ℕ) → f.graphs.start.targets (OfGlobal number) ≡ g.graphs.start.targets (OfGlobal number))
    (literals : (number : ℕ) → f.graphs.start.targets (OfLiteral number) ≡ g.graphs.start.targets (OfLiteral number)) where
  same_member : (number : ℕ) (part : T.Part) → member_part f.tac.structs (in_start f) number part ≡ member_part g.tac.structs (in_start g) number part
  same_member number part =
      let target : shifted (in_start f) (slots_before f.tac.structs part.c_type number) part.target ≡ shifted (in_start g) (slots_before g.tac.structs part.c_type number) part.target
      = same_shifted (in_start f) (in_start g) nodes (slots_before f.tac.structs part.c_type number) part.target
      ∙ ap (λ (t : Tac). shifted (in_start g) (slots_before t.structs part.c_type number) part.target) tac in
      λ i. record { target = target i; c_type = type_of_member (tac i).structs part.c_type number }

  same_part : (steps : List Part) (part : T.Part) → first_part f steps part ≡ first_part g steps part
  same_part [] part = refl
  same_part (P.Member index number ∷ steps) part = same_part steps (member_part f.tac.structs (in_start f) number part) ∙ ap (first_part g steps) (same_member number part)
  same_part (P.Elements index ∷ steps) part = same_part steps (element_part part)

  same_global : (found : Option (ℕ × GlobalDef)) → global_part f found ≡ global_part g found
  same_global None = refl
  same_global (Some found) = λ i. record { target = globals found.0 i; c_type = found.1.c_type }

  same_literal : (found : Option (ℕ × LiteralDef)) → literal_part f found ≡ literal_part g found
  same_literal None = refl
  same_literal (Some found) = ap (λ target. record { target = target; c_type = (literal_part g (Some found)).c_type }) (literals found.0)

  same_root : (root : first.Static) → static_part f root ≡ static_part g root
  same_root (first.StaticVariable name) = same_global (named_global 0 f.tac.globals name) ∙ ap (λ (t : Tac). global_part g (named_global 0 t.globals name)) tac
  same_root (first.StaticLiteral place) = same_literal (placed_literal 0 f.tac.literals place) ∙ ap (λ (t : Tac). literal_part g (placed_literal 0 t.literals place)) tac

  same_place : (edge : Option Target) (place : first.FirstPlace) → place_closed f edge place ≡ place_closed g edge place
  same_place edge place =
      let holds : Node → ℕ → Bool = λ node shift. implies (list_any (is_moved g) place.steps || not (place.index == 0)) node.flags.array in
      let root = same_root place.root in
      let part : first_part f place.steps (static_part f place.root) ≡ first_part g place.steps (static_part g place.root)
      = same_part place.steps (static_part f place.root) ∙ ap (first_part g place.steps) root in
      let at : at_target (in_start f) (static_part f place.root).target holds ≡ at_target (in_start g) (static_part g place.root).target holds
      = same_at (in_start f) (in_start g) nodes (static_part f place.root).target holds ∙ ap (λ (p : T.Part). at_target (in_start g) p.target holds) root in
      λ i. has_target (root i).target && (same_target edge (part i).target && at i)

  same_constant : (edge : Option Target) (value : first.FirstScalar) → constant_closed f edge value ≡ constant_closed g edge value
  same_constant edge (first.IntegerValue z) = refl
  same_constant edge first.NullValue = refl
  same_constant edge (first.FunctionValue name) = refl
  same_constant edge (first.PointerValue place) = same_place edge place

  same_held : (global : T.Part) (held : first.Held) → held_closed f global held ≡ held_closed g global held
  same_held global held =
      let at = same_at (in_start f) (in_start g) nodes global.target (λ node shift. node.flags.modified) in
      let edge : edge_at (in_start f) (first_part f held.leaf.steps global).target ≡ edge_at (in_start g) (first_part g held.leaf.steps global).target
      = same_edge (in_start f) (in_start g) nodes (first_part f held.leaf.steps global).target ∙ ap (λ (p : T.Part). edge_at (in_start g) p.target) (same_part held.leaf.steps global) in
      let constant : constant_closed f (edge_at (in_start f) (first_part f held.leaf.steps global).target) held.value ≡ constant_closed g (edge_at (in_start g) (first_part g held.leaf.steps global).target) held.value
      = same_constant (edge_at (in_start f) (first_part f held.leaf.steps global).target) held.value ∙ ap (λ e. constant_closed g e held.value) edge in
      λ i. has_target global.target && (at i && constant i)

  same_all : (global : T.Part) (held : List first.Held) → all_held_closed f global held ≡ all_held_closed g global held
  same_all global [] = refl
  same_all global (held ∷ others) = λ i. same_held global held i && same_all global others i

  same_first : (number : ℕ) (defs : List GlobalDef) → first_closed f number defs ≡ first_closed g number defs
  same_first number [] = refl
  same_first number (global ∷ others) =
      let own : all_held_closed f (global_part f (Some (number, global))) global.first ≡ all_held_closed g (global_part g (Some (number, global))) global.first
      = same_all (global_part f (Some (number, global))) global.first ∙ ap (λ part. all_held_closed g part global.first) (same_global (Some (number, global))) in
      λ i. own i && same_first (suc number) others i

-- what first values ask of a program's graphs is asked of the graph of `start` in memory
pub first_shown : (tac : memory_tac.Tac) (start : FrozenGraph) (family : Family) → family.tac ≡ tac_of tac → ShowsGraph tac.types family InStart start
    → first_closed (alone tac start) 0 (tac_of tac).globals ≡ first_closed family 0 family.tac.globals
first_shown tac start family same shows =
    same_first (alone tac start) family (sym same) (sym shows.nodes) (λ number. sym (shows.globals number)) (λ number. sym (shows.literals number)) 0 (tac_of tac).globals
    ∙ ap (λ (t : Tac). first_closed family 0 t.globals) (sym same)
