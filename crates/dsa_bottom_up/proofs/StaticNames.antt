-- Variables outside functions and literals of a closed graph keep what is told of their first nodes.
use Rattle.std.proofs.Common.{◌≡◌, ℕ, zero, suc, ◌+◌, true, false, List, [], ◌∷◌, Option, Some, None, refl, sym, ap, subst, ◌∙◌, arith}
use Rattle.std.specs.Prelude.{◌==◌, ◌&&◌, slice_get}
use Rattle.std.proofs.lemmas.Bool.{false≢true, and_parts, and_from}
use Rattle.std.proofs.lemmas.Option.{none-some, same_Some}
use Rattle.c_typed.specs.Types.{CType, literal_type}
use Rattle.c_typed.specs.Typed.{GlobalDef, LiteralDef}
use Rattle.tac_ir.specs.States.{Owner}
use Rattle.heap_graph.specs.Graphs.{Target, Name, OfGlobal, OfLiteral, Graph, node_at}
use Rattle.heap_graph.specs.Targets.{has_target, is_collapsed, holds_part, is_array, elements_of, implies, flags_kept, marks_kept, element_kept}
use Rattle.heap_graph.specs.Closed.{Family, graph_of, is_slot, object_closed, global_closed, globals_closed, literal_closed, literals_closed}
use Rattle.heap_graph.proofs.MapsCompose.{at_there, at_from}
use Rattle.heap_graph.specs.Asks.{is_certain}
use Rattle.heap_graph.specs.Completed.{or_target, nothing_in, completed_node, completed, HasNodes}
use Rattle.heap_graph.proofs.Certain.{implies_holds}
use Rattle.heap_graph.proofs.CompletedGraph.{node_kept}
use Rattle.heap_graph.proofs.CompletedNames.{certain_has}
use Rattle.graph_unification.specs.Adding.{NameFits}
use Rattle.graph_unification.specs.GraphNames.First.{object_node, static_flags}
use Rattle.dsa_inlining.specs.Crossed.{IsImage, AllCome, StaticsFit}
use Rattle.dsa_bottom_up.proofs.SamePoints.{with_copies}

-- ---- lists

module _ (family : Family) (owner : Owner) where
  global_in : (first : ℕ) (globals : List GlobalDef) → globals_closed family owner first globals ≡ true → (at index : ℕ) (global : GlobalDef) → at ≡ first + index → slice_get globals index ≡ Some global
      → global_closed family owner at global ≡ true
  global_in first [] closed at index global same found = absurd (none-some global found)
  global_in first (own ∷ others) closed at zero global same found =
      let place : first ≡ at = omega (arith, same) in
      subst (λ (d : GlobalDef). global_closed family owner at d ≡ true) (same_Some own global found)
      (subst (λ n. global_closed family owner n own ≡ true) place (and_parts (global_closed family owner first own) (globals_closed family owner (suc first) others) closed).0)
  global_in first (own ∷ others) closed at (suc index) global same found =
      global_in (suc first) others (and_parts (global_closed family owner first own) (globals_closed family owner (suc first) others) closed).1 at index global (omega (arith, same)) found

  literal_in : (first : ℕ) (literals : List LiteralDef) → literals_closed family owner first literals ≡ true → (at index : ℕ) (literal : LiteralDef) → at ≡ first + index → slice_get literals index ≡ Some literal
      → literal_closed family owner at literal ≡ true
  literal_in first [] closed at index literal same found = absurd (none-some literal found)
  literal_in first (own ∷ others) closed at zero literal same found =
      let place : first ≡ at = omega (arith, same) in
      subst (λ (d : LiteralDef). literal_closed family owner at d ≡ true) (same_Some own literal found)
      (subst (λ n. literal_closed family owner n own ≡ true) place (and_parts (literal_closed family owner first own) (literals_closed family owner (suc first) others) closed).0)
  literal_in first (own ∷ others) closed at (suc index) literal same found =
      literal_in (suc first) others (and_parts (literal_closed family owner first own) (literals_closed family owner (suc first) others) closed).1 at index literal (omega (arith, same)) found

-- ---- names

there : (found : Option Target) → has_target found ≡ true → (target : Target) × (found ≡ Some target)
there None h = absurd (false≢true h)
there (Some target) h = (target, refl)

module _ (family : Family) (one : Owner) (at : ℕ → Option Target) (bound : ℕ) (sound : HasNodes (with_copies (graph_of family one) at))
    (globals : globals_closed family one 0 family.tac.globals ≡ true) (literals : literals_closed family one 0 family.tac.literals ≡ true) where
  abbrev own : Graph
  own = graph_of family one

  abbrev more : Graph
  more = with_copies own at

  abbrev whole : Graph
  whole = completed bound more

  object_fits : (name : Name) (c_type : CType) (target : Target) → whole.targets name ≡ Some target → is_slot own (Some target) ≡ true → object_closed family one c_type (λ flags. flags.global) (Some target) ≡ true
      → NameFits family.tac.structs whole name (object_node c_type (static_flags c_type))
  object_fits name c_type target is slot closed =
      let structs = family.tac.structs in
      let both = at_there own target (λ node shift. holds_part structs (elements_of c_type) node shift && (node.flags.global && implies (is_array c_type) node.flags.array)) closed in
      let parts = and_parts (holds_part structs (elements_of c_type) both.node target.shift) (both.node.flags.global && implies (is_array c_type) both.node.flags.array) both.so in
      let part = parts.0 in
      let told = and_parts both.node.flags.global (implies (is_array c_type) both.node.flags.array) parts.1 in
      let image = completed_node bound (nothing_in more) both.node in
      let here : node_at whole target.node ≡ Some image = node_kept bound more target.node both.node both.is in
      let first = at_there own target (λ node shift. implies (is_collapsed node.element) (shift == 0)) slot in
      record {
        target = target;
        is = is;
        slot = at_from whole target (λ node shift. implies (is_collapsed node.element) (shift == 0)) (completed_node bound (nothing_in more) first.node) (node_kept bound more target.node first.node first.is) first.so;
        element = at_from whole target (element_kept structs (object_node c_type (static_flags c_type)).element) image here part;
        flags = at_from whole target (λ node shift. marks_kept (static_flags c_type) node.flags) image here
            (and_from true (flags_kept (static_flags c_type) image.flags) refl
            (and_from image.flags.global (implies (is_array c_type) image.flags.array && true) told.0 (and_from (implies (is_array c_type) image.flags.array) true told.1 refl)));
      }

  -- what is told of a variable outside functions or of a literal of the graph
  pub global_fits : (number : ℕ) (global : GlobalDef) → slice_get family.tac.globals number ≡ Some global → has_target (own.targets (OfGlobal number)) ≡ true
      → NameFits family.tac.structs whole (OfGlobal number) (object_node global.c_type (static_flags global.c_type))
  global_fits number global is has =
      let target = there (own.targets (OfGlobal number)) has in
      let closed = implies_holds (has_target (own.targets (OfGlobal number))) (object_closed family one global.c_type (λ flags. flags.global) (own.targets (OfGlobal number)))
      (global_in family one 0 family.tac.globals globals number number global (omega arith) is) has in
      object_fits (OfGlobal number) global.c_type target.0 (ap (or_target (nothing_in more)) target.1) (subst (λ t. is_slot own t ≡ true) target.1 (sound.names (OfGlobal number)))
      (subst (λ t. object_closed family one global.c_type (λ flags. flags.global) t ≡ true) target.1 closed)

  pub literal_fits : (number : ℕ) (literal : LiteralDef) → slice_get family.tac.literals number ≡ Some literal → has_target (own.targets (OfLiteral number)) ≡ true
      → NameFits family.tac.structs whole (OfLiteral number) (object_node (literal_type literal.bytes) (static_flags (literal_type literal.bytes)))
  literal_fits number literal is has =
      let target = there (own.targets (OfLiteral number)) has in
      let closed = implies_holds (has_target (own.targets (OfLiteral number))) (object_closed family one (literal_type literal.bytes) (λ flags. flags.global) (own.targets (OfLiteral number)))
      (literal_in family one 0 family.tac.literals literals number number literal (omega arith) is) has in
      object_fits (OfLiteral number) (literal_type literal.bytes) target.0 (ap (or_target (nothing_in more)) target.1) (subst (λ t. is_slot own t ≡ true) target.1 (sound.names (OfLiteral number)))
      (subst (λ t. object_closed family one (literal_type literal.bytes) (λ flags. flags.global) t ≡ true) target.1 closed)

  -- so those fit of which the graph of a function tells whose copies they come to
  pub statics_fit : (callee : Graph) (copies : ℕ → Option ℕ) → AllCome callee copies OfGlobal whole → AllCome callee copies OfLiteral whole → StaticsFit family.tac callee whole
  statics_fit callee copies first second = record {
    globals = λ number global is mentioned.
        let target = there (callee.targets (OfGlobal number)) mentioned in
        global_fits number global is (has (OfGlobal number) (first number target.0 target.1));
    literals = λ number literal is mentioned.
        let target = there (callee.targets (OfLiteral number)) mentioned in
        literal_fits number literal is (has (OfLiteral number) (second number target.0 target.1));
  }
    where
      has : {target : Target} (name : Name) → IsImage copies name target whole → has_target (more.targets name) ≡ true
      has name image = sym (certain_has bound more sound name) ∙ (ap (is_certain whole) image.is ∙ image.certain)
