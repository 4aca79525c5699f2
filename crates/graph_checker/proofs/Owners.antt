-- Which nodes are needed in a graph is told by the names and the code of its functions.
use Rattle.std.proofs.Common.{◌≡◌, ℕ, zero, suc, Bool, true, false, ◌⊎◌, inl, inr, List, [], ◌∷◌, map, Option, Some, None, refl, sym, ap, subst, ◌∙◌}
use Rattle.std.specs.Prelude.{slice_get}
use Rattle.std.proofs.lemmas.Option.{none-some, same_Some}
use Rattle.c_typed.specs.Table.{Interned}
use Rattle.tac_ir.specs.declared.register.Local.{Local}
use Rattle.tac_ir.specs.declared.register.Register.{Register}
use Rattle.tac_ir.specs.Code as O
use Rattle.tac_ir.specs.Code.{Op}
use Rattle.tac_ir.specs.States.{Owner, function_of}
use Rattle.call_graph.specs.RowLists.{Has}
use Rattle.heap_graph.specs.Graphs.{Target, Node, Name, OfRegister, OfResult, OfObject, OfGlobal, OfLiteral, OfCopy, OfCopy, Graph, Crossing, node_at}
use Rattle.heap_graph.specs.Closed.{Family, crossing, IsCrossing, IsNeeded, named, embedded}
use Rattle.heap_graph.specs.Frozen.{optional_target, static_in, register_target, object_target, node_in, optional_node}
use Rattle.heap_graph.specs.declared.frozen.FunctionNames.{FunctionNames}
use Rattle.heap_graph.specs.declared.frozen.FrozenGraph.{FrozenGraph}
use Rattle.heap_graph.specs.Shows.{HasNoNames}
use Rattle.heap_graph.specs.Marks.{IsNodeOf, IsNamedBy, by_register, by_result, by_object, IsMentionedBy}
use Rattle.heap_graph.proofs.Nodes.{node_behind, node_before}
use Rattle.graph_checker.specs.Needed.{IsImageFrom, IsNeededBy, AreNeeded}
use Rattle.graph_checker.proofs.Needing.{any_has, has_any}

-- ---- lists

place_of : {X : Type 0} (xs : List X) (x : X) → Has xs x → (at : ℕ) × (slice_get xs at ≡ Some x)
place_of [] x has = absurd has
place_of (first ∷ xs) x (inl same) = (0, ap Some (sym same))
place_of (first ∷ xs) x (inr has) = let rest = place_of xs x has in (suc rest.0, rest.1)

pub at_place : {X : Type 0} (xs : List X) (at : ℕ) (x : X) → slice_get xs at ≡ Some x → Has xs x
at_place [] at x is = absurd (none-some x is)
at_place (first ∷ xs) zero x is = inl (sym (same_Some first x is))
at_place (first ∷ xs) (suc at) x is = inr (at_place xs at x is)

-- ---- targets

pub node_of : (found : Option Target) (number : ℕ) → IsNodeOf found number → (target : Target) × (found ≡ Some target) × (target.node ≡ number)
node_of None number is = absurd is
node_of (Some target) number is = (target, refl, is)

pub of_node : (found : Option Target) (target : Target) (number : ℕ) → found ≡ Some target → target.node ≡ number → IsNodeOf found number
of_node found target number is same = subst (λ (o : Option Target). IsNodeOf o number) (sym is) same

-- ---- a graph and its functions

-- the function has these names in the graph
pub record HasNames (shown : Graph) (owner : Owner) (names : FunctionNames) : Type 0 where
  pub registers : (register : Register) → shown.targets (OfRegister owner register) ≡ register_target names register
  pub returned : shown.targets (OfResult owner) ≡ optional_target names.returned
  pub objects : (local : Local) → shown.targets (OfObject owner local) ≡ object_target names local

-- what is known of the graph's functions: their names and their code
pub record IsOwned (table : Interned) (family : Family) (shown : Graph) (owners : Owner → Bool) (graph : FrozenGraph) (Knows : Owner → FunctionNames → O.Function → Type 0) : Type 0 where
  pub nodes : shown.nodes ≡ map (optional_node table) graph.nodes.items
  pub globals : (number : ℕ) → shown.targets (OfGlobal number) ≡ static_in graph.globals number
  pub literals : (number : ℕ) → shown.targets (OfLiteral number) ≡ static_in graph.literals number
  pub copies : (number : ℕ) → shown.targets (OfCopy number) ≡ None
  pub names_of : (owner : Owner) (names : FunctionNames) (function : O.Function) → owners owner ≡ true → Knows owner names function → HasNames shown owner names
  pub code : (owner : Owner) (names : FunctionNames) (function : O.Function) → owners owner ≡ true → Knows owner names function → function_of family.tac owner ≡ Some function
  pub others : (owner : Owner) → owners owner ≡ false → HasNoNames shown owner
  pub there : (owner : Owner) → owners owner ≡ true → (names : FunctionNames) × (function : O.Function) × Knows owner names function

-- one of the graph's functions needs it
pub record OwnerNeeds (family : Family) (owners : Owner → Bool) (Knows : Owner → FunctionNames → O.Function → Type 0) (number : ℕ) : Type 0 where
  pub owner : Owner
  pub is : owners owner ≡ true
  pub own : FunctionNames
  pub function : O.Function
  pub known : Knows owner own function
  pub needs : IsNeededBy family owner own function.points number

module _ (table : Interned) (family : Family) (shown : Graph) (owners : Owner → Bool) (graph : FrozenGraph) (Knows : Owner → FunctionNames → O.Function → Type 0)
    (owned : IsOwned table family shown owners graph Knows) where
  abbrev Needed : ℕ → Type 0
  Needed number = IsNeeded family shown owners number

  abbrev Told : ℕ → Type 0
  Told number = IsMentionedBy graph number ⊎ OwnerNeeds family owners Knows number

  -- ---- what is told is needed

  by_name : (name : Name) (found : Option Target) (number : ℕ) → shown.targets name ≡ found → IsNodeOf found number → Needed number
  by_name name found number same is = let target = node_of found number is in named name target.0 (same ∙ target.1) target.2

  mentioned : (number : ℕ) → IsMentionedBy graph number → Needed number
  mentioned number (inl among) = by_name (OfGlobal among.0) (static_in graph.globals among.0) number (owned.globals among.0) among.1
  mentioned number (inr among) = by_name (OfLiteral among.0) (static_in graph.literals among.0) number (owned.literals among.0) among.1

  by_image : (number : ℕ) (owner : Owner) (function : O.Function) → owners owner ≡ true → function_of family.tac owner ≡ Some function → (op : Op) → Has function.points op → IsImageFrom family owner op number
      → Needed number
  by_image number owner function is code op has image =
      let target = node_of (family.graphs.embedding (crossing family owner image.site image.called) image.at.image.0) number image.at.image.1 in
      let place = place_of function.points op has in
      embedded (crossing family owner image.site image.called) image.at.image.0 target.0 is
      (record {
        function = function;
        is = code;
        point = place.0;
        callee = image.callee;
        arguments = image.arguments;
        call = place.1 ∙ ap Some image.is;
        target = image.target;
        outer = image.at.outer;
      })
      target.1 target.2

  by_owner : (number : ℕ) → OwnerNeeds family owners Knows number → Needed number
  by_owner number owner = by owner.needs
    where
      names : HasNames shown owner.owner owner.own
      names = owned.names_of owner.owner owner.own owner.function owner.is owner.known

      by : IsNeededBy family owner.owner owner.own owner.function.points number → Needed number
      by (inl (by_register register is)) = by_name (OfRegister owner.owner register) (register_target owner.own register) number (names.registers register) is
      by (inl (by_result is)) = by_name (OfResult owner.owner) (optional_target owner.own.returned) number names.returned is
      by (inl (by_object local is)) = by_name (OfObject owner.owner local) (object_target owner.own local) number (names.objects local) is
      by (inr any) =
          let found = any_has (IsImageFrom family owner.owner) owner.function.points number any in
          by_image number owner.owner owner.function owner.is (owned.code owner.owner owner.own owner.function owner.is owner.known) found.0 found.1 found.2

  pub needed_nodes : AreNeeded graph (OwnerNeeds family owners Knows) → (number : ℕ) (node : Node) → node_at shown number ≡ Some node → IsNeeded family shown owners number
  needed_nodes all number node is =
      let own = node_behind table graph.nodes.items shown owned.nodes number node is in
      elim (all number own.0 own.1) [
        | inl told ↦ mentioned number told
        | inr owner ↦ by_owner number owner
      ]

  -- ---- what is needed is told

  told_by : (owner : Owner) (number : ℕ) (target : Target) → target.node ≡ number → (name : Name) → shown.targets name ≡ Some target
      → (owners owner ≡ false → shown.targets name ≡ None)
      → ((names : FunctionNames) → HasNames shown owner names → (found : Option Target) × (shown.targets name ≡ found) × (IsNodeOf found number → IsNamedBy names number)) → Told number
  told_by owner number target same name is none shows = by (owners owner) refl
    where
      by : (test : Bool) → owners owner ≡ test → Told number
      by false out = absurd (none-some target (sym (none out) ∙ is))
      by true inside =
          let known = owned.there owner inside in
          let found = shows known.0 (owned.names_of owner known.0 known.1 inside known.2) in
          inr (record {
            owner = owner;
            is = inside;
            own = known.0;
            function = known.1;
            known = known.2;
            needs = inl (found.2 (of_node found.0 target number (sym found.1 ∙ is) same));
          })

  name_told : (number : ℕ) (target : Target) → target.node ≡ number → (name : Name) → shown.targets name ≡ Some target → Told number
  name_told number target same (OfGlobal global) is = inl (inl (global, of_node (static_in graph.globals global) target number (sym (owned.globals global) ∙ is) same))
  name_told number target same (OfLiteral literal) is = inl (inr (literal, of_node (static_in graph.literals literal) target number (sym (owned.literals literal) ∙ is) same))
  name_told number target same (OfCopy copy) is = absurd (none-some target (sym (owned.copies copy) ∙ is))
  name_told number target same (OfRegister owner register) is =
      told_by owner number target same (OfRegister owner register) is (λ out. (owned.others owner out).registers register)
      (λ names has. (register_target names register, has.registers register, λ at. by_register register at))
  name_told number target same (OfResult owner) is =
      told_by owner number target same (OfResult owner) is (λ out. (owned.others owner out).returned) (λ names has. (optional_target names.returned, has.returned, λ at. by_result at))
  name_told number target same (OfObject owner local) is =
      told_by owner number target same (OfObject owner local) is (λ out. (owned.others owner out).objects local)
      (λ names has. (object_target names local, has.objects local, λ at. by_object local at))

  image_told : (at : Crossing) (node number : ℕ) (target : Target) → owners at.owner ≡ true → IsCrossing family at → family.graphs.embedding at node ≡ Some target → target.node ≡ number → Told number
  image_told at node number target inside is image same =
      let known = owned.there at.owner inside in
      let function : is.function ≡ known.1 = same_Some is.function known.1 (sym is.is ∙ owned.code at.owner known.0 known.1 inside known.2) in
      inr (record {
        owner = at.owner;
        is = inside;
        own = known.0;
        function = known.1;
        known = known.2;
        needs = inr (has_any (IsImageFrom family at.owner) known.1.points number (O.Call at.site is.callee is.arguments)
            (at_place known.1.points is.point (O.Call at.site is.callee is.arguments) (subst (λ (f : O.Function). slice_get f.points is.point ≡ Some (O.Call at.site is.callee is.arguments)) function is.call))
            (record {
              site = at.site;
              callee = is.callee;
              arguments = is.arguments;
              called = at.called;
              is = refl;
              target = is.target;
              at = record { outer = is.outer; image = (node, of_node (family.graphs.embedding at node) target number image same) };
            }));
      })

  told : (number : ℕ) → IsNeeded family shown owners number → Told number
  told number (named name target is same) = name_told number target same name is
  told number (embedded at node target inside is image same) = image_told at node number target inside is image same

  pub nodes_needed : ((number : ℕ) (node : Node) → node_at shown number ≡ Some node → IsNeeded family shown owners number) → AreNeeded graph (OwnerNeeds family owners Knows)
  nodes_needed all number own there = told number (all number (node_in table own) (node_before table graph.nodes.items shown owned.nodes number own there))
