-- A closed family is closed with all flags.
use Rattle.std.proofs.Common.{◌≡◌, ℕ, suc, Bool, true, List, [], ◌∷◌, length, Option, Some, None, refl, sym, ap, subst, ◌∙◌}
use Rattle.std.specs.Prelude.{◌==◌, ◌&&◌, ◌||◌, not}
use Rattle.std.specs.List.{list_any}
use Rattle.std.proofs.lemmas.Bool.{and_parts, and_from}
use Rattle.c_typed.specs.Types.{CType, literal_type}
use Rattle.c_typed.specs.Typed.{GlobalDef, LiteralDef}
use Rattle.c_typed.specs.declared.part.Part.{Part}
use Rattle.c_typed.specs.declared.part.Part.TheVariants as P
use Rattle.c_typed.specs.Values as first
use Rattle.tac_ir.specs.First.{named_global, placed_literal}
use Rattle.tac_ir.specs.Code as O
use Rattle.tac_ir.specs.Code.{AtLocal, AtGlobal, AtLiteral, Base, Pointed, Indexed, Op, LocalObject}
use Rattle.tac_ir.specs.States.{Owner, InStart, InFunction}
use Rattle.heap_graph.specs.Graphs.{Target, Edge, Node, Name, OfResult, OfObject, OfGlobal, OfLiteral, Graph, Crossing, Embedding, edge_in}
use Rattle.heap_graph.specs.Targets.{same_target, has_target, at_target, is_collapsed, edge_at, implies}
use Rattle.heap_graph.specs.Targets as T
use Rattle.heap_graph.specs.Points.{is_data_pointer, point_closed}
use Rattle.heap_graph.specs.Closed.{Family, graph_of, parameters_of, formal, AreOne, crossing, op_closed, IsKept, IsEmbedding, formals_closed, locals_closed, globals_closed, literals_closed, base_mentioned, mentions_closed, ops_closed, first_part, global_part, literal_part, static_part, is_moved, place_closed, constant_closed, held_closed, all_held_closed, first_closed, FunctionClosed, is_slot, edges_sound, IsCrossing, IsNeeded, named, embedded, GraphClosed, is_start, of_group, Closed, node_kept}
use Rattle.heap_graph.specs.Saturated.{saturated_node, saturated_graph, saturated}
use Rattle.heap_graph.proofs.SaturatedNodes.{implies_more, array_monotone, at_grows, shifted_saturated, edge_saturated}
use Rattle.heap_graph.proofs.SaturatedPoints.{point_more}
use Rattle.heap_graph.proofs.SaturatedFamilies.{graph_saturated, targets_same, was_node, at_same, at_more, more_escapes, escaped}
use Rattle.heap_graph.proofs.SaturatedCalls.{calls_same, kept_grows, edges_same, object_more}

module _ (family : Family) (owner : Owner) where
  abbrev old : Graph
  old = graph_of family owner

  abbrev new : Graph
  new = graph_of (saturated family) owner

  -- ---- points

  of_point : (op : Op) → point_closed family.tac old owner op ≡ true → point_closed family.tac new owner op ≡ true
  of_point op h = ap (λ graph. point_closed family.tac graph owner op) (graph_saturated family owner) ∙ point_more family.tac old owner op h

  op_more : (op : Op) → op_closed family owner op ≡ true → op_closed (saturated family) owner op ≡ true
  op_more O.Reserved h = refl
  op_more (O.Jump to) h = refl
  op_more (O.Branch int_type condition holds fails) h = refl
  op_more (O.Assign to tree) h = refl
  op_more (O.Null to) h = refl
  op_more (O.FunctionAddress to function) h = refl
  op_more (O.Copy to from) h = of_point (O.Copy to from) h
  op_more (O.Test to pointer) h = refl
  op_more (O.Move to pointer element is_minus number) h = of_point (O.Move to pointer element is_minus number) h
  op_more (O.Difference to element left right) h = refl
  op_more (O.ComparePointers to relation left right) h = refl
  op_more (O.Repoint to target from) h = of_point (O.Repoint to target from) h
  op_more (O.AddressOf to path) h = of_point (O.AddressOf to path) h
  op_more (O.Load to scalar path) h = of_point (O.Load to scalar path) h
  op_more (O.Store path scalar value) h = of_point (O.Store path scalar value) h
  op_more (O.Allocate site size) h = of_point (O.Allocate site size) h
  op_more (O.Free site pointer) h = refl
  op_more (O.Call site callee arguments) h = calls_same family owner (length family.tac.functions) site callee arguments ∙ h
  op_more (O.GetChar site) h = refl
  op_more (O.PutChar site value) h = refl
  op_more (O.Exit status) h = refl
  op_more (O.Return value) h = of_point (O.Return value) h

  -- ---- names

  has_same : (name : Name) → has_target (new.targets name) ≡ has_target (old.targets name)
  has_same name = ap has_target (targets_same family owner name)

  base_same : (base : Base) → base_mentioned (saturated family) owner base ≡ base_mentioned family owner base
  base_same (AtLocal local) = refl
  base_same (AtGlobal number) = has_same (OfGlobal number)
  base_same (AtLiteral number) = has_same (OfLiteral number)
  base_same (Pointed pointer target) = refl
  base_same (Indexed pointer target number) = refl

  mentions_same : (op : Op) → mentions_closed (saturated family) owner op ≡ mentions_closed family owner op
  mentions_same O.Reserved = refl
  mentions_same (O.Jump to) = refl
  mentions_same (O.Branch int_type condition holds fails) = refl
  mentions_same (O.Assign to tree) = refl
  mentions_same (O.Null to) = refl
  mentions_same (O.FunctionAddress to function) = refl
  mentions_same (O.Copy to from) = refl
  mentions_same (O.Test to pointer) = refl
  mentions_same (O.Move to pointer element is_minus number) = refl
  mentions_same (O.Difference to element left right) = refl
  mentions_same (O.ComparePointers to relation left right) = refl
  mentions_same (O.Repoint to target from) = refl
  mentions_same (O.AddressOf to path) = base_same path.base
  mentions_same (O.Load to scalar path) = base_same path.base
  mentions_same (O.Store path scalar value) = base_same path.base
  mentions_same (O.Allocate site size) = refl
  mentions_same (O.Free site pointer) = refl
  mentions_same (O.Call site callee arguments) = refl
  mentions_same (O.GetChar site) = refl
  mentions_same (O.PutChar site value) = refl
  mentions_same (O.Exit status) = refl
  mentions_same (O.Return value) = refl

  ops_more : (ops : List Op) → ops_closed family owner ops ≡ true → ops_closed (saturated family) owner ops ≡ true
  ops_more [] h = refl
  ops_more (op ∷ ops) h =
      let one = and_parts _ _ h in
      let two = and_parts _ _ one.1 in
      and_from _ _ (mentions_same op ∙ one.0) (and_from _ _ (op_more op two.0) (ops_more ops two.1))

  formals_same : (function number : ℕ) (types : List CType) → formals_closed (saturated family) owner function number types ≡ formals_closed family owner function number types
  formals_same function number [] = refl
  formals_same function number (c_type ∷ types) = λ i. implies (is_data_pointer c_type) (has_same (formal function number) i) && formals_same function (suc number) types i

  locals_more : (objects : List LocalObject) → locals_closed family owner objects ≡ true → locals_closed (saturated family) owner objects ≡ true
  locals_more [] h = refl
  locals_more (object ∷ objects) h =
      let parts = and_parts _ _ h in
      and_from _ _ (object_more family owner object.c_type (λ flags. flags.stack) refl (old.targets (OfObject owner object.local)) (new.targets (OfObject owner object.local)) (targets_same family owner (OfObject owner object.local)) parts.0)
      (locals_more objects parts.1)

  globals_more : (number : ℕ) (globals : List GlobalDef) → globals_closed family owner number globals ≡ true → globals_closed (saturated family) owner number globals ≡ true
  globals_more number [] h = refl
  globals_more number (global ∷ globals) h =
      let parts = and_parts _ _ h in
      and_from _ _
      (implies_more _ _ _ _ (has_same (OfGlobal number))
      (object_more family owner global.c_type (λ flags. flags.global) refl (old.targets (OfGlobal number)) (new.targets (OfGlobal number)) (targets_same family owner (OfGlobal number))) parts.0)
      (globals_more (suc number) globals parts.1)

  literals_more : (number : ℕ) (literals : List LiteralDef) → literals_closed family owner number literals ≡ true → literals_closed (saturated family) owner number literals ≡ true
  literals_more number [] h = refl
  literals_more number (literal ∷ literals) h =
      let parts = and_parts _ _ h in
      and_from _ _
      (implies_more _ _ _ _ (has_same (OfLiteral number))
      (object_more family owner (literal_type literal.bytes) (λ flags. flags.global) refl (old.targets (OfLiteral number)) (new.targets (OfLiteral number)) (targets_same family owner (OfLiteral number))) parts.0)
      (literals_more (suc number) literals parts.1)

  -- ---- embeddings

  abbrev image_of : ℕ → ℕ → Embedding
  image_of site called = family.graphs.embedding (crossing family owner site called)

  embedding_more : (site called : ℕ) → IsEmbedding family owner site called → IsEmbedding (saturated family) owner site called
  embedding_more site called is = record {
    escaping = λ number node e escapes.
        let was = was_node family (InFunction called) number node e in
        subst (λ n. IsKept (saturated family) owner (image_of site called) number n) was.2 (kept number was.0 (is.escaping number was.0 was.1 (escaped family (InFunction called) (InFunction called) number escapes)));
    others = λ number stays. is.others number (λ escapes. stays (more_escapes family (InFunction called) (InFunction called) number escapes));
  }
    where
      kept : (number : ℕ) (node : Node) → IsKept family owner (image_of site called) number node → IsKept (saturated family) owner (image_of site called) number (saturated_node node)
      kept number node is = record {
        at = is.at;
        is = is.is;
        kept = at_more family owner (Some is.at) (node_kept family owner node) (node_kept (saturated family) owner (saturated_node node)) (kept_grows family owner node) is.kept;
        edges = edges_same family owner (image_of site called) (Some is.at) node.edges ∙ is.edges;
      }

  -- ---- graphs

  slot_same : (target : Option Target) → is_slot new target ≡ is_slot old target
  slot_same target = at_same family owner target (λ node shift. implies (is_collapsed node.element) (shift == 0)) (λ node shift. refl)

  sound_same : (node : Node) (edges : List Edge) → edges_sound new (saturated_node node) edges ≡ edges_sound old node edges
  sound_same node [] = refl
  sound_same node (edge ∷ edges) = λ i.
      same_target (edge_in node.edges edge.slot) (Some edge.to) && (slot_same (Some edge.to) i && (implies (is_collapsed node.element) (edge.slot == 0) && sound_same node edges i))

  crossing_same : (at : Crossing) → IsCrossing family at → IsCrossing (saturated family) at
  crossing_same at is = record { function = is.function; is = is.is; point = is.point; callee = is.callee; arguments = is.arguments; call = is.call; target = is.target; outer = is.outer }

  needed_same : (owners : Owner → Bool) (number : ℕ) → IsNeeded family old owners number → IsNeeded (saturated family) new owners number
  needed_same owners number (named name target is at) = named name target (targets_same family owner name ∙ is) at
  needed_same owners number (embedded at node target own is image same) = embedded at node target own (crossing_same at is) image same

  pub graph_more : (owners : Owner → Bool) → GraphClosed family old owners owner → GraphClosed (saturated family) new owners owner
  graph_more owners closed = record {
    names = λ name. ap (is_slot new) (targets_same family owner name) ∙ (slot_same (old.targets name) ∙ closed.names name);
    own = λ name has. closed.own name (sym (has_same name) ∙ has);
    edges = λ number node e.
        let was = was_node family owner number node e in
        subst (λ (n : Node). edges_sound new n n.edges ≡ true) was.2 (sound_same was.0 was.0.edges ∙ closed.edges number was.0 was.1);
    globals = globals_more 0 family.tac.globals closed.globals;
    literals = literals_more 0 family.tac.literals closed.literals;
    complete = λ number node e stays. let was = was_node family owner number node e in subst (λ (n : Node). n.flags.complete ≡ true) was.2 refl;
    needed = λ number node e. let was = was_node family owner number node e in needed_same owners number (closed.needed number was.0 was.1);
  }

  -- ---- functions

  pub function_more : (function : O.Function) → FunctionClosed family owner function → FunctionClosed (saturated family) owner function
  function_more function closed = record {
    formals = λ number is. formals_same number 0 (parameters_of function.c_type) ∙ closed.formals number is;
    locals = locals_more function.objects closed.locals;
    points = ops_more function.points closed.points;
    embeddings = λ site callee arguments at called is target outer. embedding_more site called (closed.embeddings site callee arguments at called is target outer);
    classes = λ site pointer c_type arguments at a b is one other. are_one a b (closed.classes site pointer c_type arguments at a b is one other);
  }
    where
      are_one : (a b : ℕ) → AreOne family a b → AreOne (saturated family) a b
      are_one a b is = record {
        group = is.group;
        formals = λ number. targets_same family (InFunction a) (formal a number) ∙ (is.formals number ∙ sym (targets_same family (InFunction a) (formal b number)));
        result = targets_same family (InFunction a) (OfResult (InFunction a)) ∙ (is.result ∙ sym (targets_same family (InFunction a) (OfResult (InFunction b))));
      }

-- ---- first values

module _ (family : Family) where
  abbrev graph : Graph
  graph = family.graphs.start

  part_same : (steps : List Part) (part : T.Part) → first_part (saturated family) steps part ≡ first_part family steps part
  part_same [] part = refl
  part_same (P.Member index number ∷ steps) part =
      let same : T.member_part family.tac.structs (saturated_graph graph) number part ≡ T.member_part family.tac.structs graph number part
      = λ i. record { target = shifted_saturated graph (T.slots_before family.tac.structs part.c_type number) part.target i; c_type = (T.member_part family.tac.structs graph number part).c_type } in
      ap (first_part (saturated family) steps) same ∙ part_same steps (T.member_part family.tac.structs graph number part)
  part_same (P.Elements index ∷ steps) part = part_same steps (T.element_part part)

  global_same : (found : Option (ℕ × GlobalDef)) → global_part (saturated family) found ≡ global_part family found
  global_same None = refl
  global_same (Some found) = refl

  literal_same : (found : Option (ℕ × LiteralDef)) → literal_part (saturated family) found ≡ literal_part family found
  literal_same None = refl
  literal_same (Some found) = refl

  static_same : (static : first.Static) → static_part (saturated family) static ≡ static_part family static
  static_same (first.StaticVariable name) = global_same (named_global 0 family.tac.globals name)
  static_same (first.StaticLiteral place) = literal_same (placed_literal 0 family.tac.literals place)

  place_more : (few all : Option Target) → all ≡ few → (place : first.FirstPlace) → place_closed family few place ≡ true → place_closed (saturated family) all place ≡ true
  place_more few all same place h =
      let one = and_parts _ _ h in
      let two = and_parts _ _ one.1 in
      let leads = ap (first_part (saturated family) place.steps) (static_same place.root) ∙ part_same place.steps (static_part family place.root) in
      and_from _ _ (ap (λ (part : T.Part). has_target part.target) (static_same place.root) ∙ one.0)
      (and_from _ _ ((λ i. same_target (same i) (leads i).target) ∙ two.0)
      (ap (λ (part : T.Part). at_target (saturated_graph graph) part.target (λ node shift. implies (list_any (is_moved family) place.steps || not (place.index == 0)) node.flags.array)) (static_same place.root)
      ∙ at_grows graph (static_part family place.root).target (λ node shift. implies (list_any (is_moved family) place.steps || not (place.index == 0)) node.flags.array)
      (λ node shift. implies (list_any (is_moved family) place.steps || not (place.index == 0)) node.flags.array) (array_monotone (list_any (is_moved family) place.steps || not (place.index == 0))) two.1))

  constant_more : (few all : Option Target) → all ≡ few → (value : first.FirstScalar) → constant_closed family few value ≡ true → constant_closed (saturated family) all value ≡ true
  constant_more few all same (first.IntegerValue value) h = refl
  constant_more few all same first.NullValue h = refl
  constant_more few all same (first.FunctionValue name) h = refl
  constant_more few all same (first.PointerValue place) h = place_more few all same place h

  held_more : (few all : T.Part) → all ≡ few → (held : first.Held) → held_closed family few held ≡ true → held_closed (saturated family) all held ≡ true
  held_more few all same held h =
      let one = and_parts _ _ h in
      let two = and_parts _ _ one.1 in
      and_from _ _ (ap (λ (part : T.Part). has_target part.target) same ∙ one.0)
      (and_from _ _
      (ap (λ (part : T.Part). at_target (saturated_graph graph) part.target (λ node shift. node.flags.modified)) same
      ∙ at_grows graph few.target (λ node shift. node.flags.modified) (λ node shift. node.flags.modified) (λ node shift modified. refl) two.0)
      (constant_more (edge_at graph (first_part family held.leaf.steps few).target) (edge_at (saturated_graph graph) (first_part (saturated family) held.leaf.steps all).target)
      (ap (λ (part : T.Part). edge_at (saturated_graph graph) part.target) (ap (first_part (saturated family) held.leaf.steps) same ∙ part_same held.leaf.steps few)
      ∙ edge_saturated graph (first_part family held.leaf.steps few).target) held.value two.1))

  all_held_more : (few all : T.Part) → all ≡ few → (held : List first.Held) → all_held_closed family few held ≡ true → all_held_closed (saturated family) all held ≡ true
  all_held_more few all same [] h = refl
  all_held_more few all same (held ∷ others) h = let parts = and_parts _ _ h in and_from _ _ (held_more few all same held parts.0) (all_held_more few all same others parts.1)

  first_more : (number : ℕ) (globals : List GlobalDef) → first_closed family number globals ≡ true → first_closed (saturated family) number globals ≡ true
  first_more number [] h = refl
  first_more number (global ∷ globals) h =
      let parts = and_parts _ _ h in
      and_from _ _ (all_held_more (global_part family (Some (number, global))) (global_part (saturated family) (Some (number, global))) (global_same (Some (number, global))) global.first parts.0)
      (first_more (suc number) globals parts.1)

  -- ---- families

  pub saturated_closed : Closed family → Closed (saturated family)
  saturated_closed closed = record {
    functions = λ number function is. function_more family (InFunction number) function (closed.functions number function is);
    start = function_more family InStart family.tac.start closed.start;
    first = first_more 0 family.tac.globals closed.first;
    graphs = λ number one group is own. graph_more family (InFunction one) (of_group group) (closed.graphs number one group is own);
    last = graph_more family InStart is_start closed.last;
  }
