-- What holds of the nodes and names of a graph in memory holds of the graph that they show, and back.
use Rattle.std.proofs.Common.{◌≡◌, ◌==◌, ℕ, Bool, true, false, ◌&&◌, List, [], ◌∷◌, map, Option, Some, None, refl, sym, ap, ◌∙◌}
use Rattle.std.proofs.lemmas.Bool.{and_from, and_parts, false≢true}
use Rattle.c_typed.specs.Table.{Interned}
use Rattle.tac_ir.specs.declared.register.Local.{Local}
use Rattle.tac_ir.specs.declared.register.Register.{Register}
use Rattle.tac_ir.specs.Code as O
use Rattle.tac_ir.specs.Code.{Tac}
use Rattle.tac_ir.specs.States.{Owner, function_of}
use Rattle.heap_graph.specs.Graphs.{Target, Edge, Node, Name, OfRegister, OfResult, OfObject, OfGlobal, OfLiteral, OfCopy, Graph, edge_in, node_at}
use Rattle.heap_graph.specs.Targets.{same_target, has_target, is_collapsed, implies}
use Rattle.heap_graph.specs.Closed.{is_slot, edges_sound, has_register, has_object, of_function, is_name}
use Rattle.heap_graph.specs.Frozen.{optional_target, static_in, register_target, object_target, optional_node, bare}
use Rattle.heap_graph.specs.declared.frozen.FunctionNames.{FunctionNames}
use Rattle.heap_graph.specs.declared.frozen.FrozenGraph.{FrozenGraph}
use Rattle.heap_graph.specs.Shows.{HasNoNames}
use Rattle.graph_checker.specs.SoundGraphs.Sound.{NamesAreSlots, StaticsAreSlots, NamesAreOwn, StaticsAreOwn, EdgesAreSound}

-- the graph has these nodes and static targets; the names of these owners are shown, and no others are there
pub record IsShown (table : Interned) (plain : Graph) (graph : FrozenGraph) (owners : Owner → Bool) (Has : Owner → FunctionNames → Type 0) : Type 0 where
  pub nodes : plain.nodes ≡ map (optional_node table) graph.nodes.items
  pub globals : (number : ℕ) → plain.targets (OfGlobal number) ≡ static_in graph.globals number
  pub literals : (number : ℕ) → plain.targets (OfLiteral number) ≡ static_in graph.literals number
  pub copies : (number : ℕ) → plain.targets (OfCopy number) ≡ None
  pub there : (owner : Owner) → owners owner ≡ true → (names : FunctionNames) × Has owner names
  pub registers : (owner : Owner) (names : FunctionNames) → owners owner ≡ true → Has owner names → (register : Register) → plain.targets (OfRegister owner register) ≡ register_target names register
  pub returned : (owner : Owner) (names : FunctionNames) → owners owner ≡ true → Has owner names → plain.targets (OfResult owner) ≡ optional_target names.returned
  pub objects : (owner : Owner) (names : FunctionNames) → owners owner ≡ true → Has owner names → (local : Local) → plain.targets (OfObject owner local) ≡ object_target names local
  pub others : (owner : Owner) → owners owner ≡ false → HasNoNames plain owner

abbrev with_nodes : List (Option Node) → Graph
with_nodes nodes = record { nodes = nodes; targets = λ name. None }

module _ {table : Interned} {plain : Graph} {graph : FrozenGraph} {owners : Owner → Bool} {Has : Owner → FunctionNames → Type 0} (shown : IsShown table plain graph owners Has) where
  slot_shown : (target : Option Target) → is_slot plain target ≡ is_slot (bare table graph) target
  slot_shown None = refl
  slot_shown (Some target) = ap (λ nodes. is_slot (with_nodes nodes) (Some target)) shown.nodes

  slot_at : (target own : Option Target) → target ≡ own → is_slot (bare table graph) own ≡ true → is_slot plain target ≡ true
  slot_at target own is slot = slot_shown target ∙ (ap (is_slot (bare table graph)) is ∙ slot)

  slot_back : (target own : Option Target) → target ≡ own → is_slot plain target ≡ true → is_slot (bare table graph) own ≡ true
  slot_back target own is slot = ap (is_slot (bare table graph)) (sym is) ∙ (sym (slot_shown target) ∙ slot)

  -- ---- slots

  module _ (members : (owner : Owner) (names : FunctionNames) → owners owner ≡ true → Has owner names → NamesAreSlots (bare table graph) names) (statics : StaticsAreSlots table graph) where
    pub all_slots : (name : Name) → is_slot plain (plain.targets name) ≡ true
    all_slots (OfRegister owner register) = by (owners owner) refl
      where
        by : (b : Bool) → owners owner ≡ b → is_slot plain (plain.targets (OfRegister owner register)) ≡ true
        by true is = let own = shown.there owner is in slot_at _ _ (shown.registers owner own.0 is own.1 register) ((members owner own.0 is own.1).registers register)
        by false is = slot_at _ None ((shown.others owner is).registers register) refl
    all_slots (OfResult owner) = by (owners owner) refl
      where
        by : (b : Bool) → owners owner ≡ b → is_slot plain (plain.targets (OfResult owner)) ≡ true
        by true is = let own = shown.there owner is in slot_at _ _ (shown.returned owner own.0 is own.1) (members owner own.0 is own.1).returned
        by false is = slot_at _ None (shown.others owner is).returned refl
    all_slots (OfObject owner local) = by (owners owner) refl
      where
        by : (b : Bool) → owners owner ≡ b → is_slot plain (plain.targets (OfObject owner local)) ≡ true
        by true is = let own = shown.there owner is in slot_at _ _ (shown.objects owner own.0 is own.1 local) ((members owner own.0 is own.1).objects local)
        by false is = slot_at _ None ((shown.others owner is).objects local) refl
    all_slots (OfGlobal number) = slot_at _ _ (shown.globals number) (statics.globals number)
    all_slots (OfLiteral number) = slot_at _ _ (shown.literals number) (statics.literals number)
    all_slots (OfCopy number) = slot_at _ None (shown.copies number) refl

  module _ (slots : (name : Name) → is_slot plain (plain.targets name) ≡ true) where
    pub member_slots : (owner : Owner) (names : FunctionNames) → owners owner ≡ true → Has owner names → NamesAreSlots (bare table graph) names
    member_slots owner names is has = record {
      registers = λ register. slot_back _ _ (shown.registers owner names is has register) (slots (OfRegister owner register));
      returned = slot_back _ _ (shown.returned owner names is has) (slots (OfResult owner));
      objects = λ local. slot_back _ _ (shown.objects owner names is has local) (slots (OfObject owner local));
    }

    pub static_slots : StaticsAreSlots table graph
    static_slots = record {
      globals = λ number. slot_back _ _ (shown.globals number) (slots (OfGlobal number));
      literals = λ number. slot_back _ _ (shown.literals number) (slots (OfLiteral number));
    }

  -- ---- names

  has_moved : (target own : Option Target) → target ≡ own → has_target target ≡ true → has_target own ≡ true
  has_moved target own is has = ap has_target (sym is) ∙ has

  has_no : (target : Option Target) → target ≡ None → has_target target ≡ true → ⊥
  has_no target is has = false≢true (ap has_target (sym is) ∙ has)

  module _ (tac : Tac) where
    module _ (functions : (owner : Owner) → owners owner ≡ true → (function : O.Function) × (function_of tac owner ≡ Some function))
        (members : (owner : Owner) (names : FunctionNames) (function : O.Function) → owners owner ≡ true → Has owner names → function_of tac owner ≡ Some function → NamesAreOwn function names)
        (statics : StaticsAreOwn tac graph) where
      pub all_own : (name : Name) → has_target (plain.targets name) ≡ true → is_name tac owners name ≡ true
      all_own (OfRegister owner register) has = by (owners owner) refl
        where
          by : (b : Bool) → owners owner ≡ b → is_name tac owners (OfRegister owner register) ≡ true
          by true is =
              let own = shown.there owner is in
              let function = functions owner is in
              and_from _ _ is (ap (λ found. of_function found (λ function. has_register function register)) function.1
              ∙ (members owner own.0 function.0 is own.1 function.1).registers register (has_moved _ _ (shown.registers owner own.0 is own.1 register) has))
          by false is = absurd (has_no _ ((shown.others owner is).registers register) has)
      all_own (OfResult owner) has = by (owners owner) refl
        where
          by : (b : Bool) → owners owner ≡ b → owners owner ≡ true
          by true is = is
          by false is = absurd (has_no _ (shown.others owner is).returned has)
      all_own (OfObject owner local) has = by (owners owner) refl
        where
          by : (b : Bool) → owners owner ≡ b → is_name tac owners (OfObject owner local) ≡ true
          by true is =
              let own = shown.there owner is in
              let function = functions owner is in
              and_from _ _ is (ap (λ found. of_function found (λ function. has_object function local)) function.1
              ∙ (members owner own.0 function.0 is own.1 function.1).objects local (has_moved _ _ (shown.objects owner own.0 is own.1 local) has))
          by false is = absurd (has_no _ ((shown.others owner is).objects local) has)
      all_own (OfGlobal number) has = statics.globals number (has_moved _ _ (shown.globals number) has)
      all_own (OfLiteral number) has = statics.literals number (has_moved _ _ (shown.literals number) has)
      all_own (OfCopy number) has = absurd (has_no _ (shown.copies number) has)

    module _ (own : (name : Name) → has_target (plain.targets name) ≡ true → is_name tac owners name ≡ true) where
      pub member_own : (owner : Owner) (names : FunctionNames) (function : O.Function) → owners owner ≡ true → Has owner names → function_of tac owner ≡ Some function → NamesAreOwn function names
      member_own owner names function is has found = record {
        registers = λ register target. ap (λ found. of_function found (λ function. has_register function register)) (sym found)
            ∙ (and_parts _ _ (own (OfRegister owner register) (has_moved _ _ (sym (shown.registers owner names is has register)) target))).1;
        objects = λ local target. ap (λ found. of_function found (λ function. has_object function local)) (sym found)
            ∙ (and_parts _ _ (own (OfObject owner local) (has_moved _ _ (sym (shown.objects owner names is has local)) target))).1;
      }

      pub static_own : StaticsAreOwn tac graph
      static_own = record {
        globals = λ number target. own (OfGlobal number) (has_moved _ _ (sym (shown.globals number)) target);
        literals = λ number target. own (OfLiteral number) (has_moved _ _ (sym (shown.literals number)) target);
      }

  -- ---- edges

  edges_shown : (node : Node) (edges : List Edge) → edges_sound plain node edges ≡ edges_sound (bare table graph) node edges
  edges_shown node [] = refl
  edges_shown node (edge ∷ edges) =
      λ i. same_target (edge_in node.edges edge.slot) (Some edge.to) && (slot_shown (Some edge.to) i && (implies (is_collapsed node.element) (edge.slot == 0) && edges_shown node edges i))

  node_shown : (number : ℕ) → node_at plain number ≡ node_at (bare table graph) number
  node_shown number = ap (λ nodes. node_at (with_nodes nodes) number) shown.nodes

  pub all_edges : EdgesAreSound table graph → (number : ℕ) (node : Node) → node_at plain number ≡ Some node → edges_sound plain node node.edges ≡ true
  all_edges sound number node is = edges_shown node node.edges ∙ sound number node (sym (node_shown number) ∙ is)

  pub own_edges : ((number : ℕ) (node : Node) → node_at plain number ≡ Some node → edges_sound plain node node.edges ≡ true) → EdgesAreSound table graph
  own_edges sound number node is = sym (edges_shown node node.edges) ∙ sound number node (node_shown number ∙ is)
