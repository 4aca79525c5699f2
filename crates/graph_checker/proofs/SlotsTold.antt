-- What tests of slots tell.
use Rattle.std.proofs.Common.{◌≡◌, ◌==◌, ℕ, zero, suc, Bool, true, nat_eq, List, [], ◌∷◌, map, Option, Some, None, refl, sym, ap, ◌∙◌}
use Rattle.std.specs.List.{list_all, IsDistinct}
use Rattle.std.specs.Prelude.{slice_get}
use Rattle.std.specs.Map.{lookup, keys_of}
use Rattle.std.proofs.lemmas.Bool.{and_from, and_parts}
use Rattle.c_typed.specs.Table.{Interned, empty}
use Rattle.tac_ir.specs.declared.register.Local.{Local}
use Rattle.tac_ir.specs.declared.register.Register.{Register}
use Rattle.tac_ir.specs.declared.register.Local.TheVariants as L
use Rattle.tac_ir.specs.declared.register.Register.TheVariants as R
use Rattle.heap_graph.specs.declared.graph.Target as memory_target
use Rattle.heap_graph.specs.declared.graph.Element as memory_element
use Rattle.heap_graph.specs.declared.graph.Element.TheVariants as E
use Rattle.heap_graph.specs.Graphs.{Node, there}
use Rattle.heap_graph.specs.Memory.{target_of, element_in}
use Rattle.heap_graph.specs.Targets.{is_collapsed, implies}
use Rattle.heap_graph.specs.Closed.{is_slot}
use Rattle.heap_graph.specs.Frozen.{optional_target, target_in, register_target, object_target, optional_node, node_there, bare}
use Rattle.heap_graph.specs.declared.frozen.Node as memory_node
use Rattle.heap_graph.specs.declared.frozen.FunctionNames.{FunctionNames}
use Rattle.heap_graph.specs.declared.frozen.FrozenGraph.{FrozenGraph}
use Rattle.graph_checker.specs.SoundGraphs.Sound.{NamesAreSlots}
use Rattle.graph_checker.specs.Tests.{has_slot, is_slot_in, are_slots, registers_slots, other_slots, entry_slots}
use Rattle.graph_checker.proofs.Listed.{each_passes, all_pass, each_entry_passes, entries_pass}

-- ---- one target

-- whether a node is collapsed is told by any table
pub collapsed_told : (table other : Interned) (element : memory_element.Element) → is_collapsed (element_in table element) ≡ is_collapsed (element_in other element)
collapsed_told table other E.Missing = refl
collapsed_told table other (E.OfType c_type) = refl
collapsed_told table other E.Collapsed = refl

-- the node of a number, in memory and in the graph
node_told : (table : Interned) (nodes : List (Option memory_node.Node)) (number : ℕ) → there (slice_get (map (optional_node table) nodes) number) ≡ optional_node table (node_there nodes number)
node_told table [] number = refl
node_told table (first ∷ nodes) zero = refl
node_told table (first ∷ nodes) (suc number) = node_told table nodes number

abbrev slot_of : Option Node → ℕ → Bool
slot_of node shift = is_slot (record { nodes = node ∷ []; targets = λ name. None }) (Some (record { node = 0; shift = shift }))

slot_seen : (table : Interned) (node : Option memory_node.Node) (shift : ℕ) → has_slot shift node ≡ slot_of (optional_node table node) shift
slot_seen table None shift = refl
slot_seen table (Some node) shift = ap (λ b. implies b (shift == 0)) (collapsed_told empty table node.element)

pub slot_told : (table : Interned) (graph : FrozenGraph) (target : Option memory_target.Target) → is_slot_in graph target ≡ is_slot (bare table graph) (optional_target target)
unfolding is_slot_in
slot_told table graph None = refl
slot_told table graph (Some target) =
    slot_seen table (node_there graph.nodes.items target.node) target.shift ∙ ap (λ node. slot_of node target.shift) (sym (node_told table graph.nodes.items target.node))

-- ---- names

module _ (table : Interned) (graph : FrozenGraph) where
  list_told : (targets : List (Option memory_target.Target)) → are_slots graph targets ≡ list_all (λ target. is_slot (bare table graph) (optional_target target)) targets
  list_told targets = λ i. list_all (λ target. slot_told table graph target i) targets

  each_slot : (targets : List (Option memory_target.Target)) → are_slots graph targets ≡ true → (number : ℕ) → is_slot (bare table graph) (target_in targets number) ≡ true
  each_slot targets all = each_passes (is_slot (bare table graph)) refl targets (sym (list_told targets) ∙ all)

  all_slots : (targets : List (Option memory_target.Target)) → ((number : ℕ) → is_slot (bare table graph) (target_in targets number) ≡ true) → are_slots graph targets ≡ true
  all_slots targets each = list_told targets ∙ all_pass (is_slot (bare table graph)) targets each

  pub names_told : (names : FunctionNames) → registers_slots graph names ≡ true → other_slots graph names ≡ true → NamesAreSlots (bare table graph) names
  names_told names registers others =
      let upto_arguments = and_parts _ _ registers in
      let upto_calls = and_parts _ _ upto_arguments.0 in
      let upto_variables = and_parts _ _ upto_calls.0 in
      let locals = and_parts _ _ upto_variables.0 in
      let upto_parameters = and_parts _ _ others in
      let returned = and_parts _ _ upto_parameters.0 in
      record {
        registers = by locals.0 locals.1 upto_variables.1 upto_calls.1 upto_arguments.1;
        returned = sym (slot_told table graph names.returned) ∙ returned.0;
        objects = own returned.1 upto_parameters.1;
      }
    where
      by : are_slots graph names.parameters.items ≡ true → are_slots graph names.variables.items ≡ true → are_slots graph names.calls.items ≡ true → are_slots graph names.arguments.items ≡ true
          → are_slots graph names.expressions.items ≡ true → (register : Register) → is_slot (bare table graph) (register_target names register) ≡ true
      by parameters variables calls arguments expressions (R.Local (L.Parameter number)) = each_slot names.parameters.items parameters number
      by parameters variables calls arguments expressions (R.Local (L.Variable number)) = each_slot names.variables.items variables number
      by parameters variables calls arguments expressions (R.Call number) = each_slot names.calls.items calls number
      by parameters variables calls arguments expressions (R.Argument number) = each_slot names.arguments.items arguments number
      by parameters variables calls arguments expressions (R.Expression number) = each_slot names.expressions.items expressions number
      by parameters variables calls arguments expressions (R.Temporary number) = refl

      own : are_slots graph names.parameter_objects.items ≡ true → are_slots graph names.variable_objects.items ≡ true → (local : Local) → is_slot (bare table graph) (object_target names local) ≡ true
      own parameters variables (L.Parameter number) = each_slot names.parameter_objects.items parameters number
      own parameters variables (L.Variable number) = each_slot names.variable_objects.items variables number

  pub registers_pass : (names : FunctionNames) → NamesAreSlots (bare table graph) names → registers_slots graph names ≡ true
  registers_pass names told =
      and_from _ _ (and_from _ _ (and_from _ _ (and_from _ _ (all_slots names.parameters.items (λ number. told.registers (R.Local (L.Parameter number))))
      (all_slots names.variables.items (λ number. told.registers (R.Local (L.Variable number))))) (all_slots names.calls.items (λ number. told.registers (R.Call number))))
      (all_slots names.arguments.items (λ number. told.registers (R.Argument number)))) (all_slots names.expressions.items (λ number. told.registers (R.Expression number)))

  pub others_pass : (names : FunctionNames) → NamesAreSlots (bare table graph) names → other_slots graph names ≡ true
  others_pass names told =
      and_from _ _ (and_from _ _ (slot_told table graph names.returned ∙ told.returned) (all_slots names.parameter_objects.items (λ number. told.objects (L.Parameter number))))
      (all_slots names.variable_objects.items (λ number. told.objects (L.Variable number)))

  -- ---- variables outside functions, and literals

  entries_told : (entries : List (ℕ × memory_target.Target)) → entry_slots graph entries ≡ list_all (λ (entry : ℕ × memory_target.Target). is_slot (bare table graph) (Some (target_of entry.1))) entries
  entries_told entries = λ i. list_all (λ (entry : ℕ × memory_target.Target). slot_told table graph (Some entry.1) i) entries

  pub each_static : (entries : List (ℕ × memory_target.Target)) → entry_slots graph entries ≡ true → (number : ℕ) → is_slot (bare table graph) (optional_target (lookup (nat_eq number) entries)) ≡ true
  each_static entries all = each_entry_passes (is_slot (bare table graph)) refl entries (sym (entries_told entries) ∙ all)

  pub all_statics : (entries : List (ℕ × memory_target.Target)) → IsDistinct nat_eq (keys_of entries) → ((number : ℕ) → is_slot (bare table graph) (optional_target (lookup (nat_eq number) entries)) ≡ true) → entry_slots graph entries ≡ true
  all_statics entries distinct each = entries_told entries ∙ entries_pass (is_slot (bare table graph)) refl entries distinct each
