-- What points ask of a graph doesn't depend on the targets of copies.
use Rattle.std.proofs.Common.{◌≡◌, ℕ, true, List, [], ◌∷◌, Option, Some, None, refl, ap, ◌∙◌}
use Rattle.std.specs.Prelude.{◌&&◌, ◌||◌}
use Rattle.std.specs.List.{list_any}
use Rattle.tac_ir.specs.Code as O
use Rattle.tac_ir.specs.Code.{Base, AtLocal, AtGlobal, AtLiteral, Pointed, Indexed, Step, Member, Element, Path, IntegerOperand, PointerOperand, Op, Tac}
use Rattle.tac_ir.specs.States.{Owner}
use Rattle.heap_graph.specs.Graphs.{Target, Name, OfRegister, OfResult, OfObject, OfGlobal, OfLiteral, OfCopy, Graph}
use Rattle.heap_graph.specs.Targets.{Part, same_target, has_target, at_target, edge_at, implies, member_part, element_part}
use Rattle.heap_graph.specs.Points.{is_null, is_data_pointer, is_indexed, is_element, is_member, base_part, steps_part, path_part, base_typed, point_closed}

-- the graph in which copies have these targets
abbrev pub with_copies : Graph → (ℕ → Option Target) → Graph
with_copies graph at = record { nodes = graph.nodes; targets = targets }
  where
    targets : Name → Option Target
    targets (OfRegister owner register) = graph.targets (OfRegister owner register)
    targets (OfResult owner) = graph.targets (OfResult owner)
    targets (OfObject owner local) = graph.targets (OfObject owner local)
    targets (OfGlobal number) = graph.targets (OfGlobal number)
    targets (OfLiteral number) = graph.targets (OfLiteral number)
    targets (OfCopy copy) = at copy

module _ (tac : Tac) (graph : Graph) (at : ℕ → Option Target) (owner : Owner) where
  abbrev more : Graph
  more = with_copies graph at

  steps_same : (steps : List Step) (part : Part) → steps_part tac more owner steps part ≡ steps_part tac graph owner steps part
  steps_same [] part = refl
  steps_same (Member number ∷ steps) part = steps_same steps (member_part tac.structs graph number part)
  steps_same (Element index ∷ steps) part = steps_same steps (element_part part)

  base_same : (base : Base) → base_part tac more owner base ≡ base_part tac graph owner base
  base_same (AtLocal local) = refl
  base_same (AtGlobal number) = refl
  base_same (AtLiteral number) = refl
  base_same (Pointed pointer target) = refl
  base_same (Indexed pointer target number) = refl

  path_same : (path : Path) → path_part tac more owner path ≡ path_part tac graph owner path
  path_same path = ap (steps_part tac more owner path.steps) (base_same path.base) ∙ steps_same path.steps (base_part tac graph owner path.base)

  typed_same : (base : Base) → base_typed tac more owner base ≡ base_typed tac graph owner base
  typed_same (AtLocal local) = refl
  typed_same (AtGlobal number) = refl
  typed_same (AtLiteral number) = refl
  typed_same (Pointed pointer target) = refl
  typed_same (Indexed pointer target number) = refl

  pub point_same : (op : Op) → point_closed tac more owner op ≡ point_closed tac graph owner op
  point_same (O.AddressOf to path) = λ i.
      implies (has_target (base_same path.base i).target)
      (same_target (graph.targets (OfRegister owner to)) (path_same path i).target
      && (implies (list_any is_member path.steps) (typed_same path.base i)
      && at_target graph (base_same path.base i).target (λ node shift. implies (is_indexed path.base || list_any is_element path.steps) node.flags.array)))
  point_same (O.Load to scalar path) = λ i.
      implies (has_target (base_same path.base i).target)
      (typed_same path.base i && (at_target graph (base_same path.base i).target (λ node shift. implies (is_indexed path.base) node.flags.array)
      && (at_target graph (base_same path.base i).target (λ node shift. node.flags.read)
      && implies (is_data_pointer scalar) (has_target (graph.targets (OfRegister owner to)) && same_target (graph.targets (OfRegister owner to)) (edge_at graph (path_same path i).target)))))
  point_same (O.Store path scalar (IntegerOperand tree)) = λ i.
      implies (has_target (base_same path.base i).target)
      (typed_same path.base i && (at_target graph (base_same path.base i).target (λ node shift. implies (is_indexed path.base) node.flags.array)
      && (at_target graph (base_same path.base i).target (λ node shift. node.flags.modified) && true)))
  point_same (O.Store path scalar (PointerOperand register)) = λ i.
      implies (has_target (base_same path.base i).target)
      (typed_same path.base i && (at_target graph (base_same path.base i).target (λ node shift. implies (is_indexed path.base) node.flags.array)
      && (at_target graph (base_same path.base i).target (λ node shift. node.flags.modified)
      && implies (is_data_pointer scalar) (is_null tac owner register || same_target (edge_at graph (path_same path i).target) (graph.targets (OfRegister owner register))))))
  point_same (O.Return None) = refl
  point_same (O.Return (Some (IntegerOperand tree))) = refl
  point_same (O.Return (Some (PointerOperand register))) = refl
  point_same op = refl
