-- The code with pools of three-address code: point by point, with sizes and offsets in place of types, and with the plan's pools.
use Rattle.std.specs.Prelude.{ℕ, suc, ◌+◌, if◌then◌else◌, List, [], ◌∷◌, map, replicate, slice_get, Option, Some, None, pos}
use Rattle.byteorder.specs.Endian.{little_bytes}
use Rattle.c_num.specs.declared.IntType.TheVariants as I
use Rattle.c_num.specs.Conversion.{word_of}
use Rattle.c_typed.specs.Types.{CType, Void, Integer, Array, literal_type, same_type}
use Rattle.c_typed.specs.Layouts.{StructDef}
use Rattle.c_typed.specs.Typed.{GlobalDef, LiteralDef}
use Rattle.c_typed.specs.Values as first
use Rattle.tac_ir.specs.Values.{Object, OfGlobal, OfLiteral, Value, Number, Code, Address}
use Rattle.tac_ir.specs.Layouts.{size_of, leaf_at, Inner, member_of}
use Rattle.tac_ir.specs.Objects.{own_type}
use Rattle.tac_ir.specs.First.{offset_in, constant_of}
use Rattle.tac_ir.specs.Code.{Path, Callee, Function, Tac, LocalObject}
use Rattle.tac_ir.specs.Code as T
use Rattle.pool_isa.specs.Machine.{globals_start, spliced}
use Rattle.pool_ir.specs.Code as O
use Rattle.pool_ir.specs.Code.{Slot, IntegerSlot, AddressSlot, FrameLayout, PoolCode}
use Rattle.pool_ir.specs.Memory.{slot_size}
use Rattle.pool_ir.specs.Meaning.{function_word}
use Rattle.pool_rewrite.specs.Plan.{FunctionPlan, Plan}
use Rattle.pool_rewrite.specs.Placing.{global_offset, literal_offset, statics_size, frame_of, offset_of_local}

-- ---- scalars

abbrev pub slot_of : CType → Slot
slot_of (Integer int_type) = IntegerSlot int_type
slot_of c_type = AddressSlot

-- ---- paths

-- where a path stands, and the type of what is there
pub record Typed (A : Type 0) : Type 0 where
  pub part : A
  pub c_type : CType

abbrev pub inner_type : Option Inner → CType
inner_type None = Void
inner_type (Some inner) = inner.c_type

abbrev pub inner_offset : Option Inner → ℕ
inner_offset None = 0
inner_offset (Some inner) = inner.offset

abbrev pub global_type : Option GlobalDef → CType
global_type None = Void
global_type (Some global) = global.c_type

abbrev pub type_of_literal : Option LiteralDef → CType
type_of_literal None = Void
type_of_literal (Some literal) = literal_type literal.bytes

abbrev pub base_of : Tac → List LocalObject → FrameLayout → T.Base → Typed O.Base
base_of tac own frame (T.AtLocal local) = record { part = O.AtFrame (offset_of_local frame.objects local); c_type = inner_type (own_type own local) }
base_of tac own frame (T.AtGlobal number) = record { part = O.AtGlobals (global_offset tac number); c_type = global_type (slice_get tac.globals number) }
base_of tac own frame (T.AtLiteral number) = record { part = O.AtGlobals (literal_offset tac number); c_type = type_of_literal (slice_get tac.literals number) }
base_of tac own frame (T.Pointed pointer target) = record { part = O.Pointed pointer; c_type = target }
base_of tac own frame (T.Indexed pointer target number) = record { part = O.Indexed pointer (size_of tac.structs target) number; c_type = target }

abbrev pub element_type : CType → CType
element_type (Array element count) = element
element_type c_type = Void

abbrev pub step_of : List StructDef → CType → T.Step → Typed O.Step
step_of structs c_type (T.Member number) =
    let inner = member_of structs number (record { offset = 0; c_type = c_type }) in
    record { part = O.Member (inner_offset inner); c_type = inner_type inner }
step_of structs c_type (T.Element index) = record { part = O.Element (size_of structs (element_type c_type)) index; c_type = element_type c_type }

abbrev pub steps_of : List StructDef → CType → List T.Step → List O.Step
steps_of structs c_type [] = []
steps_of structs c_type (step ∷ others) = let own = step_of structs c_type step in own.part ∷ steps_of structs own.c_type others

abbrev pub path_of : Tac → List LocalObject → FrameLayout → Path → O.Path
path_of tac own frame path = let base = base_of tac own frame path.base in record { base = base.part; steps = steps_of tac.structs base.c_type path.steps }

-- ---- points

-- functions of one type have one signature: the number of the first of them
abbrev pub signature_from : ℕ → List Function → CType → ℕ
signature_from number [] c_type = number
signature_from number (first ∷ others) c_type = if same_type first.c_type c_type then number else signature_from (suc number) others c_type

abbrev pub signature_of : Tac → CType → ℕ
signature_of tac c_type = signature_from 0 tac.functions c_type

abbrev pub callee_of : Tac → Callee → O.Callee
callee_of tac (T.Known function) = O.Known function
callee_of tac (T.Through pointer c_type) = O.Through pointer (signature_of tac c_type)

abbrev pub op_of : Tac → FunctionPlan → List LocalObject → FrameLayout → T.Op → O.Op
op_of tac plan own frame T.Reserved = O.Reserved
op_of tac plan own frame (T.Jump to) = O.Jump to
op_of tac plan own frame (T.Branch int_type condition holds fails) = O.Branch int_type condition holds fails
op_of tac plan own frame (T.Assign to tree) = O.Assign to tree
op_of tac plan own frame (T.Null to) = O.Null to
op_of tac plan own frame (T.FunctionAddress to function) = O.FunctionAddress to function
op_of tac plan own frame (T.Copy to from) = O.Copy to from
op_of tac plan own frame (T.Test to pointer) = O.Test to pointer
op_of tac plan own frame (T.Move to pointer element is_minus number) = O.Move to pointer (size_of tac.structs element) is_minus number
op_of tac plan own frame (T.Difference to element left right) = O.Difference to (size_of tac.structs element) left right
op_of tac plan own frame (T.ComparePointers to relation left right) = O.ComparePointers to relation left right
op_of tac plan own frame (T.Repoint to target from) = O.Copy to from
op_of tac plan own frame (T.AddressOf to path) = O.AddressOf to (path_of tac own frame path)
op_of tac plan own frame (T.Load to scalar path) = O.Load to (slot_of scalar) (path_of tac own frame path)
op_of tac plan own frame (T.Store path scalar value) = O.Store (path_of tac own frame path) (slot_of scalar) value
op_of tac plan own frame (T.Allocate site size) = O.Allocate site size (plan.pool_at site)
op_of tac plan own frame (T.Free site pointer) = O.Free site pointer (plan.pool_at site)
op_of tac plan own frame (T.Call site callee arguments) = O.Call site (callee_of tac callee) arguments (plan.passes site)
op_of tac plan own frame (T.GetChar site) = O.GetChar site
op_of tac plan own frame (T.PutChar site value) = O.PutChar site value
op_of tac plan own frame (T.Exit status) = O.Exit status
op_of tac plan own frame (T.Return value) = O.Return value

-- ---- functions

abbrev pub function_of : Tac → FunctionPlan → Function → O.Function
function_of tac plan function =
    let frame = frame_of tac.structs plan function in
    record {
      signature = signature_of tac function.c_type;
      taken = plan.taken;
      frame = frame;
      entering = plan.entering;
      edges = plan.edges;
      leaving = plan.leaving;
      points = map (op_of tac plan function.objects frame) function.points;
    }

abbrev pub functions_of : Tac → List FunctionPlan → List Function → List O.Function
functions_of tac (plan ∷ plans) (function ∷ functions) = function_of tac plan function ∷ functions_of tac plans functions
functions_of tac plans functions = []

-- ---- first contents

abbrev pub static_address : Tac → Object → ℕ
static_address tac (OfGlobal number) = globals_start + global_offset tac number
static_address tac (OfLiteral number) = globals_start + literal_offset tac number
static_address tac object = 0

abbrev pub value_word : Tac → Option Value → ℕ
value_word tac (Some (Number z)) = word_of I.ULong z
value_word tac (Some (Code function)) = function_word function
value_word tac (Some (Address object offset)) = static_address tac object + offset
value_word tac value = 0

abbrev pub leaf_size : Option CType → ℕ
leaf_size None = 0
leaf_size (Some c_type) = slot_size (slot_of c_type)

-- one scalar of a variable of a type, whose bytes begin so many bytes behind those of the globals
abbrev pub with_scalar : Tac → CType → ℕ → Option ℕ → first.FirstScalar → List ℕ → List ℕ
with_scalar tac c_type start None value bytes = bytes
with_scalar tac c_type start (Some offset) value bytes = spliced bytes (start + offset) (little_bytes (leaf_size (leaf_at tac.structs c_type 1 offset)) (value_word tac (constant_of tac value)))

-- of several at one place the first counts
abbrev pub with_first : Tac → CType → ℕ → List first.Held → List ℕ → List ℕ
with_first tac c_type start [] bytes = bytes
with_first tac c_type start (one ∷ others) bytes =
    with_scalar tac c_type start (offset_in tac c_type one.leaf.steps one.leaf.index) one.value (with_first tac c_type start others bytes)

abbrev pub with_globals : Tac → ℕ → List GlobalDef → List ℕ → List ℕ
with_globals tac number [] bytes = bytes
with_globals tac number (global ∷ others) bytes = with_globals tac (suc number) others (with_first tac global.c_type (global_offset tac number) global.first bytes)

abbrev pub character_bytes : List ℕ → List ℕ
character_bytes bytes = map (λ byte. word_of I.UChar (pos byte)) bytes

abbrev pub with_literals : Tac → ℕ → List LiteralDef → List ℕ → List ℕ
with_literals tac number [] bytes = bytes
with_literals tac number (literal ∷ others) bytes = with_literals tac (suc number) others (spliced bytes (literal_offset tac number) (character_bytes literal.bytes))

abbrev pub first_contents : Tac → List ℕ
first_contents tac = with_literals tac 0 tac.literals (with_globals tac 0 tac.globals (replicate (statics_size tac) 0))

-- ---- programs

abbrev pub rewritten : Plan → Tac → PoolCode
rewritten plan tac =
    record {
      functions = functions_of tac plan.functions tac.functions;
      start = function_of tac plan.start tac.start;
      kinds = plan.kinds;
      globals = statics_size tac;
      contents = first_contents tac;
    }
