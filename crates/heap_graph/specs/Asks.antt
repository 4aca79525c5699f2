-- What points ask of a graph that is being made. Every name has a target there; what is asked of the object behind a pointer is asked once
-- its node is certain.
use Rattle.std.specs.Prelude.{ℕ, Bool, true, false, ◌&&◌, ◌||◌, Option, Some, None}
use Rattle.std.specs.List.{list_any}
use Rattle.c_typed.specs.Types.{CType}
use Rattle.tac_ir.specs.declared.register.Register.{Register}
use Rattle.tac_ir.specs.declared.register.Register.TheVariants as R
use Rattle.tac_ir.specs.Code as O
use Rattle.tac_ir.specs.Code.{Tree, Path, Operand, Op, Tac}
use Rattle.tac_ir.specs.States.{Owner}
use Rattle.heap_graph.specs.Graphs.{Target, Node, Graph, node_at}
use Rattle.heap_graph.specs.Targets.{same_target, at_target, edge_at, points_to, implies}
use Rattle.heap_graph.specs.Points.{is_null, is_data_pointer, is_indexed, is_element, is_member, of_register, takes, base_part, path_part, base_typed, base_used, stored_closed, is_size_of, return_closed}

-- the node of a target is certain
abbrev pub is_certain : Graph → Option Target → Bool
is_certain graph None = false
is_certain graph (Some target) = by (node_at graph target.node)
  where
    by : Option Node → Bool
    by None = false
    by (Some node) = node.flags.certain

module _ (tac : Tac) (graph : Graph) (owner : Owner) where
  abbrev pub base_of : Path → Option Target
  base_of path = (base_part tac graph owner path.base).target

  abbrev pub own : Register → Option Target
  own register = of_register tac graph owner register

  abbrev pub address_asked : Register → Path → Bool
  address_asked to path =
      implies (is_certain graph (base_of path))
      (same_target (own to) (path_part tac graph owner path).target
      && (implies (list_any is_member path.steps) (base_typed tac graph owner path.base)
      && at_target graph (base_of path) (λ node shift. implies (is_indexed path.base || list_any is_element path.steps) node.flags.array)))

  abbrev pub load_asked : Register → CType → Path → Bool
  load_asked to scalar path =
      implies (is_certain graph (base_of path))
      (base_typed tac graph owner path.base && (base_used tac graph owner path && (at_target graph (base_of path) (λ node shift. node.flags.read)
      && implies (is_data_pointer scalar) (is_certain graph (own to) && same_target (own to) (edge_at graph (path_part tac graph owner path).target)))))

  abbrev pub store_asked : Path → CType → Operand → Bool
  store_asked path scalar value =
      implies (is_certain graph (base_of path))
      (base_typed tac graph owner path.base && (base_used tac graph owner path && (at_target graph (base_of path) (λ node shift. node.flags.modified) && stored_closed tac graph owner scalar value path)))

  -- that its objects are of an array is told at the end, when all types are known
  abbrev pub allocate_asked : ℕ → Bool
  allocate_asked site = is_certain graph (own (R.Call site)) && at_target graph (own (R.Call site)) (λ node shift. node.flags.heap)

  abbrev pub move_asked : Register → Register → Bool
  move_asked to from = takes tac graph owner (own to) from && (is_null tac owner from || implies (is_certain graph (own from)) (at_target graph (own from) (λ node shift. node.flags.array)))

  abbrev pub repoint_asked : Register → CType → Register → Bool
  repoint_asked to target from = takes tac graph owner (own to) from && (is_null tac owner from || implies (is_certain graph (own from)) (points_to tac.structs graph target (own from)))

  -- all points but calls
  abbrev pub point_asked : Op → Bool
  point_asked (O.Copy to from) = takes tac graph owner (own to) from
  point_asked (O.Move to from element is_minus number) = move_asked to from
  point_asked (O.Repoint to target from) = repoint_asked to target from
  point_asked (O.AddressOf to path) = address_asked to path
  point_asked (O.Load to scalar path) = load_asked to scalar path
  point_asked (O.Store path scalar value) = store_asked path scalar value
  point_asked (O.Allocate site size) = allocate_asked site
  point_asked (O.Return value) = return_closed tac graph owner value
  point_asked op = true

  -- what is told of the node of an allocation at the end: that its objects are of an array unless the size is one object's
  abbrev pub size_told : ℕ → Tree → Bool
  size_told site size = at_target graph (own (R.Call site)) (λ node shift. is_size_of tac graph owner size node.element || node.flags.array)

  abbrev pub sizes_told : Op → Bool
  sizes_told (O.Allocate site size) = size_told site size
  sizes_told op = true
