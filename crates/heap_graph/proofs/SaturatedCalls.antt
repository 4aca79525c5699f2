-- What calls, names and nodes that escape ask of a family holds of it with all flags.
use Rattle.std.proofs.Common.{◌≡◌, ℕ, zero, suc, Bool, true, cond, List, [], ◌∷◌, length, Option, Some, refl, sym, ap, subst, ◌∙◌}
use Rattle.std.specs.Prelude.{◌&&◌}
use Rattle.std.proofs.lemmas.Bool.{and_parts, and_from}
use Rattle.c_typed.specs.Types.{CType}
use Rattle.tac_ir.specs.declared.register.Register.{Register}
use Rattle.tac_ir.specs.declared.register.Register.TheVariants as R
use Rattle.tac_ir.specs.Code.{Callee}
use Rattle.tac_ir.specs.States.{Owner, InFunction}
use Rattle.tac_ir.specs.Targets.{is_target}
use Rattle.heap_graph.specs.Graphs.{Target, Flags, Edge, Node, Name, OfRegister, OfResult, OfGlobal, OfLiteral, Embedding}
use Rattle.heap_graph.specs.Targets.{same_target, has_target, shifted, edge_at, holds_part, is_array, elements_of, implies, types_differ}
use Rattle.heap_graph.specs.Points.{is_data_pointer}
use Rattle.heap_graph.specs.Closed.{Family, graph_of, same_group, parameters_of, result_of, function_type, formal, arguments_closed, result_closed, inner_call, crossing, image, statics_closed, all_statics_closed, outer_call, call_of, call_closed, node_kept, edges_kept, object_closed}
use Rattle.heap_graph.specs.Saturated.{all_flags, saturated_node, saturated}
use Rattle.heap_graph.proofs.SaturatedNodes.{implies_true, Grows, element_flagless}
use Rattle.heap_graph.proofs.SaturatedFamilies.{targets_same, at_more, shifted_same, edge_same, image_same}

module _ (family : Family) (owner : Owner) where
  -- ---- calls

  arguments_same : (few all : ℕ → Option Target) → ((number : ℕ) → all number ≡ few number) → (number : ℕ) (types : List CType) (arguments : List Register)
      → arguments_closed (saturated family) owner all number types arguments ≡ arguments_closed family owner few number types arguments
  arguments_same few all same number [] [] = refl
  arguments_same few all same number [] (argument ∷ arguments) = refl
  arguments_same few all same number (c_type ∷ types) [] = refl
  arguments_same few all same number (c_type ∷ types) (argument ∷ arguments) = λ i.
      implies (is_data_pointer c_type) (has_target (targets_same family owner (OfRegister owner argument) i) && same_target (targets_same family owner (OfRegister owner argument) i) (same number i))
      && arguments_same few all same (suc number) types arguments i

  result_same : (c_type : CType) (few all : Option Target) (site : ℕ) → all ≡ few → result_closed (saturated family) owner c_type all site ≡ result_closed family owner c_type few site
  result_same c_type few all site same = λ i.
      implies (is_data_pointer c_type) (implies (has_target (same i)) (same_target (targets_same family owner (OfRegister owner (R.Call site)) i) (same i)))

  inner_same : (site : ℕ) (arguments : List Register) (called : ℕ) → inner_call (saturated family) owner site arguments called ≡ inner_call family owner site arguments called
  inner_same site arguments called = λ i.
      arguments_same (λ number. (graph_of family owner).targets (formal called number)) (λ number. (graph_of (saturated family) owner).targets (formal called number))
      (λ number. targets_same family owner (formal called number)) 0 (parameters_of (function_type family.tac called)) arguments i
      && implies (is_data_pointer (result_of (function_type family.tac called)))
      (same_target (targets_same family owner (OfRegister owner (R.Call site)) i) (targets_same family owner (OfResult (InFunction called)) i))

  module _ (called : ℕ) (embedding : Embedding) where
    -- where the target of a name of the function that is called is
    come_same : (name : Name) → image (saturated family) owner embedding ((graph_of (saturated family) (InFunction called)).targets name) ≡ image family owner embedding ((graph_of family (InFunction called)).targets name)
    come_same name = image_same family owner embedding ((graph_of (saturated family) (InFunction called)).targets name) ∙ ap (image family owner embedding) (targets_same family (InFunction called) name)

    statics_same : (name : ℕ → Name) (number : ℕ)
        → statics_closed (saturated family) owner (graph_of (saturated family) (InFunction called)) embedding name number ≡ statics_closed family owner (graph_of family (InFunction called)) embedding name number
    statics_same name number = λ i.
        implies (has_target (targets_same family (InFunction called) (name number) i))
        (has_target (targets_same family owner (name number) i) && same_target (targets_same family owner (name number) i) (come_same (name number) i))

    all_statics_same : (name : ℕ → Name) (count : ℕ)
        → all_statics_closed (saturated family) owner (graph_of (saturated family) (InFunction called)) embedding name count ≡ all_statics_closed family owner (graph_of family (InFunction called)) embedding name count
    all_statics_same name zero = refl
    all_statics_same name (suc count) = λ i. statics_same name count i && all_statics_same name count i

  outer_same : (site : ℕ) (arguments : List Register) (called : ℕ) → outer_call (saturated family) owner site arguments called ≡ outer_call family owner site arguments called
  outer_same site arguments called =
      let embedding = family.graphs.embedding (crossing family owner site called) in
      λ i.
      arguments_same (λ number. image family owner embedding ((graph_of family (InFunction called)).targets (formal called number)))
      (λ number. image (saturated family) owner embedding ((graph_of (saturated family) (InFunction called)).targets (formal called number)))
      (λ number. come_same called embedding (formal called number)) 0 (parameters_of (function_type family.tac called)) arguments i
      && (result_same (result_of (function_type family.tac called)) (image family owner embedding ((graph_of family (InFunction called)).targets (OfResult (InFunction called))))
      (image (saturated family) owner embedding ((graph_of (saturated family) (InFunction called)).targets (OfResult (InFunction called)))) site (come_same called embedding (OfResult (InFunction called))) i
      && (all_statics_same called embedding OfGlobal (length family.tac.globals) i && all_statics_same called embedding OfLiteral (length family.tac.literals) i))

  call_same : (site : ℕ) (arguments : List Register) (called : ℕ) → call_of (saturated family) owner site arguments called ≡ call_of family owner site arguments called
  call_same site arguments called = λ i. cond (same_group family owner called) (inner_same site arguments called i) (outer_same site arguments called i)

  pub calls_same : (count site : ℕ) (callee : Callee) (arguments : List Register) → call_closed (saturated family) owner count site callee arguments ≡ call_closed family owner count site callee arguments
  calls_same zero site callee arguments = refl
  calls_same (suc count) site callee arguments = λ i. implies (is_target family.tac callee count) (call_same site arguments count i) && calls_same count site callee arguments i

  -- ---- nodes that escape

  -- an image with all flags keeps all of a node with all flags
  pub kept_grows : (node : Node) → Grows (node_kept family owner node) (node_kept (saturated family) owner (saturated_node node))
  kept_grows node there shift h =
      and_from _ _ (element_flagless family.tac.structs node.element there shift ∙ (and_parts _ _ h).0) (implies_true (types_differ node.element there.element))

  pub edges_same : (embedding : Embedding) (at : Option Target) (edges : List Edge) → edges_kept (saturated family) owner embedding at edges ≡ edges_kept family owner embedding at edges
  edges_same embedding at [] = refl
  edges_same embedding at (edge ∷ edges) = λ i.
      same_target ((ap (edge_at (graph_of (saturated family) owner)) (shifted_same family owner edge.slot at) ∙ edge_same family owner (shifted (graph_of family owner) edge.slot at)) i)
      (image_same family owner embedding (Some edge.to) i)
      && edges_same embedding at edges i

  -- ---- objects

  pub object_more : (c_type : CType) (kind : Flags → Bool) → kind all_flags ≡ true → (few all : Option Target) → all ≡ few → object_closed family owner c_type kind few ≡ true
      → object_closed (saturated family) owner c_type kind all ≡ true
  object_more c_type kind told few all same h = subst (λ target. object_closed (saturated family) owner c_type kind target ≡ true) (sym same) at_few
    where
      at_few : object_closed (saturated family) owner c_type kind few ≡ true
      at_few =
          let parts = and_parts _ _ h in
          and_from _ _ parts.0
          (at_more family owner few (λ node shift. holds_part family.tac.structs (elements_of c_type) node shift && (kind node.flags && implies (is_array c_type) node.flags.array))
          (λ node shift. holds_part family.tac.structs (elements_of c_type) node shift && (kind node.flags && implies (is_array c_type) node.flags.array))
          (λ node shift held. and_from _ _ (and_parts _ _ held).0 (and_from _ _ told (implies_true (is_array c_type)))) parts.1)
