-- What is asked of a graph by the points of its functions: one condition for each kind of point.
use Rattle.std.specs.Prelude.{ℕ, ℤ, Bool, true, false, ◌&&◌, ◌||◌, not, List, [], ◌∷◌, slice_get, Option, Some, None, pos}
use Rattle.std.specs.Ordering.{int_eq}
use Rattle.std.specs.List.{list_any}
use Rattle.c_typed.specs.Types.{CType, Void, Pointer, Function}
use Rattle.tac_ir.specs.declared.register.Register.{Register}
use Rattle.tac_ir.specs.declared.register.Register.TheVariants as R
use Rattle.tac_ir.specs.Code as O
use Rattle.tac_ir.specs.Code.{Tree, Base, AtLocal, AtGlobal, AtLiteral, Pointed, Indexed, Step, Member, Element, Path, Operand, IntegerOperand, PointerOperand, Op, Tac}
use Rattle.tac_ir.specs.Trees.{same_register, no_registers, computes}
use Rattle.tac_ir.specs.Layouts.{Inner, size_of}
use Rattle.tac_ir.specs.Objects.{own_type, global_type, literal_object}
use Rattle.tac_ir.specs.States.{Owner, function_of, points_of, objects_of}
use Rattle.heap_graph.specs.Graphs.{Target, OfType, OfRegister, OfResult, OfObject, OfGlobal, OfLiteral, Graph}
use Rattle.heap_graph.specs.Graphs as G
use Rattle.heap_graph.specs.Targets.{same_target, has_target, at_target, edge_at, points_to, implies, Part, member_part, element_part}

-- ---- null pointer constants: their registers have no target, and nothing is asked of what takes them

abbrev pub makes_null : Register → Op → Bool
makes_null register (O.Null to) = same_register to register
makes_null register op = false

abbrev pub is_null : Tac → Owner → Register → Bool
is_null tac owner register = list_any (makes_null register) (points_of (function_of tac owner))

-- ---- types

-- a pointer to an object or to void
abbrev pub is_data_pointer : CType → Bool
is_data_pointer (Pointer (Function result parameters)) = false
is_data_pointer (Pointer target) = true
is_data_pointer c_type = false

-- ---- parts of paths

abbrev pub type_of_inner : Option Inner → CType
type_of_inner None = Void
type_of_inner (Some inner) = inner.c_type

abbrev pub is_indexed : Base → Bool
is_indexed (Indexed pointer target number) = true
is_indexed base = false

abbrev pub is_element : Step → Bool
is_element (Element index) = true
is_element (Member number) = false

abbrev pub is_member : Step → Bool
is_member (Member number) = true
is_member (Element index) = false

module _ (tac : Tac) (graph : Graph) (owner : Owner) where
  abbrev pub of_register : Register → Option Target
  of_register register = graph.targets (OfRegister owner register)

  -- what one register holds comes to another, or what has a target already takes it
  abbrev pub takes : Option Target → Register → Bool
  takes target from = is_null tac owner from || same_target target (of_register from)

  -- ---- paths

  abbrev pub base_part : Base → Part
  base_part (AtLocal local) = record { target = graph.targets (OfObject owner local); c_type = type_of_inner (own_type (objects_of (function_of tac owner)) local) }
  base_part (AtGlobal number) = record { target = graph.targets (OfGlobal number); c_type = type_of_inner (global_type (slice_get tac.globals number)) }
  base_part (AtLiteral number) = record { target = graph.targets (OfLiteral number); c_type = type_of_inner (literal_object (slice_get tac.literals number)) }
  base_part (Pointed pointer target) = record { target = of_register pointer; c_type = target }
  base_part (Indexed pointer target number) = record { target = of_register pointer; c_type = target }

  abbrev pub steps_part : List Step → Part → Part
  steps_part [] part = part
  steps_part (Member number ∷ steps) part = steps_part steps (member_part tac.structs graph number part)
  steps_part (Element index ∷ steps) part = steps_part steps (element_part part)

  -- where a path leads
  abbrev pub path_part : Path → Part
  path_part path = steps_part path.steps (base_part path.base)

  -- what a path's pointer points to is of the type that the pointer tells
  abbrev pub base_typed : Base → Bool
  base_typed (Pointed pointer target) = points_to tac.structs graph target (of_register pointer)
  base_typed (Indexed pointer target number) = points_to tac.structs graph target (of_register pointer)
  base_typed base = true

  -- the object of a path is used: an index behind a pointer makes it an array
  abbrev pub base_used : Path → Bool
  base_used path = at_target graph (base_part path.base).target (λ node shift. implies (is_indexed path.base) node.flags.array)

  -- ---- kinds of points

  -- an address is kept: it is known to be a part of what the pointer tells if it is a member's, and of an array if it is an element's
  abbrev pub address_closed : Register → Path → Bool
  address_closed to path =
      let base = (base_part path.base).target in
      implies (has_target base)
      (same_target (of_register to) (path_part path).target
      && (implies (list_any is_member path.steps) (base_typed path.base)
      && at_target graph base (λ node shift. implies (is_indexed path.base || list_any is_element path.steps) node.flags.array)))

  abbrev pub load_closed : Register → CType → Path → Bool
  load_closed to scalar path =
      let base = (base_part path.base).target in
      implies (has_target base)
      (base_typed path.base && (base_used path && (at_target graph base (λ node shift. node.flags.read)
      && implies (is_data_pointer scalar) (has_target (of_register to) && same_target (of_register to) (edge_at graph (path_part path).target)))))

  abbrev pub stored_closed : CType → Operand → Path → Bool
  stored_closed scalar (IntegerOperand tree) path = true
  stored_closed scalar (PointerOperand register) path = implies (is_data_pointer scalar) (takes (edge_at graph (path_part path).target) register)

  abbrev pub store_closed : Path → CType → Operand → Bool
  store_closed path scalar value =
      let base = (base_part path.base).target in
      implies (has_target base) (base_typed path.base && (base_used path && (at_target graph base (λ node shift. node.flags.modified) && stored_closed scalar value path)))

  -- the size of one object of the node's type, told by a constant
  abbrev pub is_size_of : Tree → G.Element → Bool
  is_size_of size (OfType c_type) = by (computes no_registers size)
    where
      by : Option ℤ → Bool
      by None = false
      by (Some z) = int_eq z (pos (size_of tac.structs c_type))
  is_size_of size element = false

  abbrev pub allocate_closed : ℕ → Tree → Bool
  allocate_closed site size =
      let target = of_register (R.Call site) in
      has_target target && at_target graph target (λ node shift. node.flags.heap && (is_size_of size node.element || node.flags.array))

  -- a pointer moves within an array
  abbrev pub move_closed : Register → Register → Bool
  move_closed to from = takes (of_register to) from && implies (not (is_null tac owner from)) (at_target graph (of_register from) (λ node shift. node.flags.array))

  abbrev pub repoint_closed : Register → CType → Register → Bool
  repoint_closed to target from = takes (of_register to) from && (is_null tac owner from || points_to tac.structs graph target (of_register from))

  abbrev pub return_closed : Option Operand → Bool
  return_closed (Some (PointerOperand register)) = takes (graph.targets (OfResult owner)) register
  return_closed value = true

  -- all points but calls
  abbrev pub point_closed : Op → Bool
  point_closed (O.Copy to from) = takes (of_register to) from
  point_closed (O.Move to from element is_minus number) = move_closed to from
  point_closed (O.Repoint to target from) = repoint_closed to target from
  point_closed (O.AddressOf to path) = address_closed to path
  point_closed (O.Load to scalar path) = load_closed to scalar path
  point_closed (O.Store path scalar value) = store_closed path scalar value
  point_closed (O.Allocate site size) = allocate_closed site size
  point_closed (O.Return value) = return_closed value
  point_closed op = true
