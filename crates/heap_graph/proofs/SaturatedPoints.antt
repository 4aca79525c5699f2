-- What points ask of a graph holds of it with all flags.
use Rattle.std.proofs.Common.{◌≡◌, ℕ, Bool, true, cond, List, [], ◌∷◌, Option, Some, None, refl, ap, ◌∙◌}
use Rattle.std.specs.Prelude.{◌&&◌, ◌||◌, not}
use Rattle.std.specs.List.{list_any}
use Rattle.std.proofs.lemmas.Bool.{and_parts, and_from, or_right}
use Rattle.c_typed.specs.Types.{CType}
use Rattle.c_typed.specs.Layouts.{is_complete}
use Rattle.tac_ir.specs.declared.register.Register.{Register}
use Rattle.tac_ir.specs.declared.register.Register.TheVariants as R
use Rattle.tac_ir.specs.Code as O
use Rattle.tac_ir.specs.Code.{Tree, Base, AtLocal, AtGlobal, AtLiteral, Pointed, Indexed, Step, Member, Element, Path, Operand, IntegerOperand, PointerOperand, Op, Tac}
use Rattle.tac_ir.specs.States.{Owner}
use Rattle.heap_graph.specs.Graphs.{Target, Node, Graph}
use Rattle.heap_graph.specs.Targets.{Part, same_target, has_target, at_target, edge_at, holds_part, points_to, implies, slots_before, member_part, element_part}
use Rattle.heap_graph.specs.Points.{is_null, is_data_pointer, is_indexed, is_element, is_member, of_register, takes, base_part, steps_part, path_part, base_typed, base_used, address_closed, load_closed, stored_closed, store_closed, is_size_of, allocate_closed, move_closed, repoint_closed, return_closed, point_closed}
use Rattle.heap_graph.specs.Saturated.{saturated_graph}
use Rattle.heap_graph.proofs.SaturatedNodes.{implies_more, Grows, array_monotone, at_saturated, at_grows, shifted_saturated, edge_saturated}

module _ (tac : Tac) (graph : Graph) (owner : Owner) where
  abbrev whole : Graph
  whole = saturated_graph graph

  -- ---- paths

  base_same : (base : Base) → base_part tac whole owner base ≡ base_part tac graph owner base
  base_same (AtLocal local) = refl
  base_same (AtGlobal number) = refl
  base_same (AtLiteral number) = refl
  base_same (Pointed pointer target) = refl
  base_same (Indexed pointer target number) = refl

  steps_same : (steps : List Step) (part : Part) → steps_part tac whole owner steps part ≡ steps_part tac graph owner steps part
  steps_same [] part = refl
  steps_same (Member number ∷ steps) part =
      let same : member_part tac.structs whole number part ≡ member_part tac.structs graph number part
      = λ i. record { target = shifted_saturated graph (slots_before tac.structs part.c_type number) part.target i; c_type = (member_part tac.structs graph number part).c_type } in
      ap (steps_part tac whole owner steps) same ∙ steps_same steps (member_part tac.structs graph number part)
  steps_same (Element index ∷ steps) part = steps_same steps (element_part part)

  path_same : (path : Path) → path_part tac whole owner path ≡ path_part tac graph owner path
  path_same path = ap (steps_part tac whole owner path.steps) (base_same path.base) ∙ steps_same path.steps (base_part tac graph owner path.base)

  path_edge_same : (path : Path) → edge_at whole (path_part tac whole owner path).target ≡ edge_at graph (path_part tac graph owner path).target
  path_edge_same path = ap (λ (part : Part). edge_at whole part.target) (path_same path) ∙ edge_saturated graph (path_part tac graph owner path).target

  -- ---- what is told of objects

  abbrev base_of : Graph → Path → Option Target
  base_of at path = (base_part tac at owner path.base).target

  has_base : (path : Path) → has_target (base_of whole path) ≡ has_target (base_of graph path)
  has_base path = ap (λ (part : Part). has_target part.target) (base_same path.base)

  at_base : (path : Path) (few all : Node → ℕ → Bool) → Grows few all → at_target graph (base_of graph path) few ≡ true → at_target whole (base_of whole path) all ≡ true
  at_base path few all grows h = ap (λ (part : Part). at_target whole part.target all) (base_same path.base) ∙ at_grows graph (base_of graph path) few all grows h

  told_same : (c_type : CType) (target : Option Target) → points_to tac.structs whole c_type target ≡ points_to tac.structs graph c_type target
  told_same c_type target = ap (λ b. cond (is_complete tac.structs c_type) b true) (at_saturated graph target (holds_part tac.structs c_type))

  typed_same : (base : Base) → base_typed tac whole owner base ≡ base_typed tac graph owner base
  typed_same (AtLocal local) = refl
  typed_same (AtGlobal number) = refl
  typed_same (AtLiteral number) = refl
  typed_same (Pointed pointer target) = told_same target (of_register tac graph owner pointer)
  typed_same (Indexed pointer target number) = told_same target (of_register tac graph owner pointer)

  used_more : (path : Path) → base_used tac graph owner path ≡ true → base_used tac whole owner path ≡ true
  used_more path h = at_base path (λ node shift. implies (is_indexed path.base) node.flags.array) (λ node shift. implies (is_indexed path.base) node.flags.array) (array_monotone (is_indexed path.base)) h

  -- ---- points

  move_more : (to from : Register) → move_closed tac graph owner to from ≡ true → move_closed tac whole owner to from ≡ true
  move_more to from h =
      let parts = and_parts _ _ h in
      and_from _ _ parts.0
      (implies_more (not (is_null tac owner from)) (not (is_null tac owner from)) _ _ refl
      (at_grows graph (of_register tac graph owner from) (λ node shift. node.flags.array) (λ node shift. node.flags.array) (λ node shift array. refl)) parts.1)

  repoint_more : (to : Register) (target : CType) (from : Register) → repoint_closed tac graph owner to target from ≡ true → repoint_closed tac whole owner to target from ≡ true
  repoint_more to target from h = (λ i. takes tac graph owner (of_register tac graph owner to) from && (is_null tac owner from || told_same target (of_register tac graph owner from) i)) ∙ h

  address_more : (to : Register) (path : Path) → address_closed tac graph owner to path ≡ true → address_closed tac whole owner to path ≡ true
  address_more to path h = implies_more _ _ _ _ (has_base path) parts h
    where
      parts : (same_target (of_register tac graph owner to) (path_part tac graph owner path).target
          && (implies (list_any is_member path.steps) (base_typed tac graph owner path.base)
          && at_target graph (base_of graph path) (λ node shift. implies (is_indexed path.base || list_any is_element path.steps) node.flags.array))) ≡ true
          → (same_target (of_register tac whole owner to) (path_part tac whole owner path).target
          && (implies (list_any is_member path.steps) (base_typed tac whole owner path.base)
          && at_target whole (base_of whole path) (λ node shift. implies (is_indexed path.base || list_any is_element path.steps) node.flags.array))) ≡ true
      parts k =
          let one = and_parts _ _ k in
          let two = and_parts _ _ one.1 in
          and_from _ _ ((λ i. same_target (of_register tac graph owner to) (path_same path i).target) ∙ one.0)
          (and_from _ _ (ap (implies (list_any is_member path.steps)) (typed_same path.base) ∙ two.0)
          (at_base path (λ node shift. implies (is_indexed path.base || list_any is_element path.steps) node.flags.array)
          (λ node shift. implies (is_indexed path.base || list_any is_element path.steps) node.flags.array) (array_monotone (is_indexed path.base || list_any is_element path.steps)) two.1))

  load_more : (to : Register) (scalar : CType) (path : Path) → load_closed tac graph owner to scalar path ≡ true → load_closed tac whole owner to scalar path ≡ true
  load_more to scalar path h = implies_more _ _ _ _ (has_base path) parts h
    where
      parts : (base_typed tac graph owner path.base && (base_used tac graph owner path && (at_target graph (base_of graph path) (λ node shift. node.flags.read)
          && implies (is_data_pointer scalar) (has_target (of_register tac graph owner to) && same_target (of_register tac graph owner to) (edge_at graph (path_part tac graph owner path).target))))) ≡ true
          → (base_typed tac whole owner path.base && (base_used tac whole owner path && (at_target whole (base_of whole path) (λ node shift. node.flags.read)
          && implies (is_data_pointer scalar) (has_target (of_register tac whole owner to) && same_target (of_register tac whole owner to) (edge_at whole (path_part tac whole owner path).target))))) ≡ true
      parts k =
          let one = and_parts _ _ k in
          let two = and_parts _ _ one.1 in
          let three = and_parts _ _ two.1 in
          and_from _ _ (typed_same path.base ∙ one.0)
          (and_from _ _ (used_more path two.0)
          (and_from _ _ (at_base path (λ node shift. node.flags.read) (λ node shift. node.flags.read) (λ node shift read. refl) three.0)
          ((λ i. implies (is_data_pointer scalar) (has_target (of_register tac graph owner to) && same_target (of_register tac graph owner to) (path_edge_same path i))) ∙ three.1)))

  stored_same : (scalar : CType) (value : Operand) (path : Path) → stored_closed tac whole owner scalar value path ≡ stored_closed tac graph owner scalar value path
  stored_same scalar (IntegerOperand tree) path = refl
  stored_same scalar (PointerOperand register) path = ap (λ edge. implies (is_data_pointer scalar) (takes tac graph owner edge register)) (path_edge_same path)

  store_more : (path : Path) (scalar : CType) (value : Operand) → store_closed tac graph owner path scalar value ≡ true → store_closed tac whole owner path scalar value ≡ true
  store_more path scalar value h = implies_more _ _ _ _ (has_base path) parts h
    where
      parts : (base_typed tac graph owner path.base && (base_used tac graph owner path && (at_target graph (base_of graph path) (λ node shift. node.flags.modified) && stored_closed tac graph owner scalar value path))) ≡ true
          → (base_typed tac whole owner path.base && (base_used tac whole owner path && (at_target whole (base_of whole path) (λ node shift. node.flags.modified) && stored_closed tac whole owner scalar value path))) ≡ true
      parts k =
          let one = and_parts _ _ k in
          let two = and_parts _ _ one.1 in
          let three = and_parts _ _ two.1 in
          and_from _ _ (typed_same path.base ∙ one.0)
          (and_from _ _ (used_more path two.0)
          (and_from _ _ (at_base path (λ node shift. node.flags.modified) (λ node shift. node.flags.modified) (λ node shift modified. refl) three.0) (stored_same scalar value path ∙ three.1)))

  allocate_more : (site : ℕ) (size : Tree) → allocate_closed tac graph owner site size ≡ true → allocate_closed tac whole owner site size ≡ true
  allocate_more site size h =
      let parts = and_parts _ _ h in
      and_from _ _ parts.0
      (at_grows graph (of_register tac graph owner (R.Call site)) (λ node shift. node.flags.heap && (is_size_of tac graph owner size node.element || node.flags.array))
      (λ node shift. node.flags.heap && (is_size_of tac whole owner size node.element || node.flags.array)) (λ node shift told. or_right (is_size_of tac whole owner size node.element) true refl) parts.1)

  return_more : (value : Option Operand) → return_closed tac graph owner value ≡ true → return_closed tac whole owner value ≡ true
  return_more None h = refl
  return_more (Some (IntegerOperand tree)) h = refl
  return_more (Some (PointerOperand register)) h = h

  -- all points but calls
  pub point_more : (op : Op) → point_closed tac graph owner op ≡ true → point_closed tac (saturated_graph graph) owner op ≡ true
  point_more O.Reserved h = refl
  point_more (O.Jump to) h = refl
  point_more (O.Branch int_type condition holds fails) h = refl
  point_more (O.Assign to tree) h = refl
  point_more (O.Null to) h = refl
  point_more (O.FunctionAddress to function) h = refl
  point_more (O.Copy to from) h = h
  point_more (O.Test to pointer) h = refl
  point_more (O.Move to pointer element is_minus number) h = move_more to pointer h
  point_more (O.Difference to element left right) h = refl
  point_more (O.ComparePointers to relation left right) h = refl
  point_more (O.Repoint to target from) h = repoint_more to target from h
  point_more (O.AddressOf to path) h = address_more to path h
  point_more (O.Load to scalar path) h = load_more to scalar path h
  point_more (O.Store path scalar value) h = store_more path scalar value h
  point_more (O.Allocate site size) h = allocate_more site size h
  point_more (O.Free site pointer) h = refl
  point_more (O.Call site callee arguments) h = refl
  point_more (O.GetChar site) h = refl
  point_more (O.PutChar site value) h = refl
  point_more (O.Exit status) h = refl
  point_more (O.Return value) h = return_more value h
