-- Parts of what points ask.
use Rattle.std.specs.Prelude.{Bool, true, ◌||◌, Option}
use Rattle.std.specs.List.{list_any}
use Rattle.c_typed.specs.Types.{CType}
use Rattle.tac_ir.specs.Code.{Path, Operand, IntegerOperand, PointerOperand, Tac}
use Rattle.tac_ir.specs.States.{Owner}
use Rattle.heap_graph.specs.Graphs.{Target, Graph}
use Rattle.heap_graph.specs.Targets.{at_target, implies}
use Rattle.heap_graph.specs.Points.{is_data_pointer, takes, base_part, base_typed, is_indexed, is_element, is_member}

-- a value of this type comes to what the edge points to
abbrev pub stored_at : Tac → Graph → Owner → CType → Operand → Option Target → Bool
stored_at tac graph owner scalar (IntegerOperand tree) edge = true
stored_at tac graph owner scalar (PointerOperand register) edge = implies (is_data_pointer scalar) (takes tac graph owner edge register)

abbrev pub has_index : Path → Bool
has_index path = is_indexed path.base || list_any is_element path.steps

-- the object of a path that has an index is an array
abbrev pub array_of : Tac → Graph → Owner → Path → Bool
array_of tac graph owner path = at_target graph (base_part tac graph owner path.base).target (λ node shift. implies (has_index path) node.flags.array)

abbrev pub base_read : Tac → Graph → Owner → Path → Bool
base_read tac graph owner path = at_target graph (base_part tac graph owner path.base).target (λ node shift. node.flags.read)

abbrev pub base_modified : Tac → Graph → Owner → Path → Bool
base_modified tac graph owner path = at_target graph (base_part tac graph owner path.base).target (λ node shift. node.flags.modified)

-- the object is of the type that the pointer tells, where the path has a member
abbrev pub member_typed : Tac → Graph → Owner → Path → Bool
member_typed tac graph owner path = implies (list_any is_member path.steps) (base_typed tac graph owner path.base)
