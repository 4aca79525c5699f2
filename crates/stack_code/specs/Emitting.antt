-- The instructions of code with pools.
--
-- Descriptors and registers are words of the frame, and no operand is left between points. The points of a function are laid out one behind
-- another, behind what is done at its entry: where a point goes on at the one behind, nothing is needed to come there, and to another a
-- jump leads. What is done with pools on an edge stands in front of that. Function 0 of the image is `start`, and the others follow it.
use Rattle.std.specs.Prelude.{ℕ, suc, ◌+◌, ◌-◌, ◌*◌, ◌==◌, max, if◌then◌else◌, List, [], ◌∷◌, ◌++◌, length, map, take, Some, None}
use Rattle.c_num.specs.declared.IntType.{IntType}
use Rattle.c_num.specs.declared.IntType.TheVariants as types
use Rattle.c_num.specs.declared.BinOp.TheVariants as operators
use Rattle.c_num.specs.declared.Relation.TheVariants as relations
use Rattle.c_num.specs.Conversion.{word_of}
use Rattle.pool_isa.specs.declared.instr.Width.{Width}
use Rattle.pool_isa.specs.declared.instr.Width.TheVariants as widths
use Rattle.pool_isa.specs.declared.instr.Instr.{Instr}
use Rattle.pool_isa.specs.declared.instr.Instr.TheVariants as instrs
use Rattle.pool_isa.specs.Machine as machine
use Rattle.pool_isa.specs.Machine.{globals_start}
use Rattle.tac_ir.specs.declared.register.Register.{Register}
use Rattle.tac_ir.specs.declared.register.Register.TheVariants as R
use Rattle.tac_ir.specs.Code.{Tree, Constant, Held, Convert, Complement, Not, Arithmetic, Compare, Operand, IntegerOperand, PointerOperand}
use Rattle.pool_ir.specs.Code.{Slot, IntegerSlot, AddressSlot, IndexSlot, Base, AtFrame, AtGlobals, Pointed, Indexed, Step, Member, Element, Path, Callee, Known, Through, Op, Action, Make, Destroy, Function, PoolCode}
use Rattle.pool_ir.specs.Code as O
use Rattle.pool_ir.specs.Frames.{word_of_descriptor, word_of_register}
use Rattle.pool_ir.specs.States.{actions_from}
use Rattle.pool_ir.specs.Meaning.{function_word}

-- ---- words of the frame

-- pushes the word of this number
abbrev pub reading : ℕ → List Instr
reading word = instrs.Local (8 * word) ∷ instrs.Load types.ULong ∷ []

-- writes there the word that these instructions push
abbrev pub writing : ℕ → List Instr → List Instr
writing word value = instrs.Local (8 * word) ∷ value ++ instrs.Store widths.Eight ∷ []

abbrev pub register_code : Function → Register → List Instr
register_code function register = reading (word_of_register function register)

abbrev pub descriptor_code : Function → ℕ → List Instr
descriptor_code function descriptor = reading (word_of_descriptor function descriptor)

-- a word to a register
abbrev pub assigning : Function → Register → List Instr → List Instr
assigning function to value = writing (word_of_register function to) value

-- ---- trees, each of which pushes one word

abbrev pub tree_code : Function → Tree → List Instr
tree_code function (Constant z) = instrs.Constant (word_of types.ULong z) ∷ []
tree_code function (Held register) = register_code function register
tree_code function (Convert int_type operand) = tree_code function operand ++ instrs.Convert int_type ∷ []
tree_code function (Complement int_type operand) = tree_code function operand ++ instrs.Complement int_type ∷ []
tree_code function (Not int_type operand) = tree_code function operand ++ instrs.Constant 0 ∷ instrs.Compare relations.Eq int_type ∷ []
tree_code function (Arithmetic operator int_type left right) = tree_code function left ++ tree_code function right ++ instrs.Binary operator int_type ∷ []
tree_code function (Compare relation int_type left right) = tree_code function left ++ tree_code function right ++ instrs.Compare relation int_type ∷ []

abbrev pub operand_code : Function → Operand → List Instr
operand_code function (IntegerOperand tree) = tree_code function tree
operand_code function (PointerOperand register) = register_code function register

-- ---- paths, each of which pushes an address

-- so many elements of a size, as bytes
abbrev pub scaled : Function → ℕ → Tree → List Instr
scaled function size number = tree_code function number ++ instrs.Constant size ∷ instrs.Binary operators.Mul types.ULong ∷ []

abbrev pub base_code : Function → Base → List Instr
base_code function (AtFrame offset) = instrs.Local offset ∷ []
base_code function (AtGlobals offset) = instrs.Constant (globals_start + offset) ∷ []
base_code function (Pointed pointer) = register_code function pointer
base_code function (Indexed pointer size number) = register_code function pointer ++ scaled function size number ++ instrs.Binary operators.Add types.ULong ∷ []

abbrev pub step_code : Function → Step → List Instr
step_code function (Member offset) = instrs.Constant offset ∷ instrs.Binary operators.Add types.ULong ∷ []
step_code function (Element size index) = scaled function size index ++ instrs.Binary operators.Add types.ULong ∷ []

abbrev pub steps_code : Function → List Step → List Instr
steps_code function [] = []
steps_code function (first ∷ others) = step_code function first ++ steps_code function others

abbrev pub path_code : Function → Path → List Instr
path_code function path = base_code function path.base ++ steps_code function path.steps

-- ---- slots

abbrev pub width_of : IntType → Width
width_of types.Char = widths.One
width_of types.UChar = widths.One
width_of types.Short = widths.Two
width_of types.UShort = widths.Two
width_of types.Int = widths.Four
width_of types.UInt = widths.Four
width_of types.Long = widths.Eight
width_of types.ULong = widths.Eight

-- what stands in a slot, in the place of its address
abbrev pub loading : Function → Slot → List Instr
loading function (IntegerSlot int_type) = instrs.Load int_type ∷ []
loading function AddressSlot = instrs.Load types.ULong ∷ []
loading function (IndexSlot descriptor) = descriptor_code function descriptor ++ instrs.LoadLink ∷ []

-- a word to the slot of an address below it
abbrev pub storing : Function → Slot → List Instr
storing function (IntegerSlot int_type) = instrs.Store (width_of int_type) ∷ []
storing function AddressSlot = instrs.Store widths.Eight ∷ []
storing function (IndexSlot descriptor) = descriptor_code function descriptor ++ instrs.StoreLink ∷ []

-- ---- pools

abbrev pub action_code : Function → Action → List Instr
action_code function (Make descriptor kind) = writing (word_of_descriptor function descriptor) (instrs.PoolInit kind ∷ [])
action_code function (Destroy descriptor) = descriptor_code function descriptor ++ instrs.PoolDestroy ∷ []

abbrev pub actions_code : Function → List Action → List Instr
actions_code function [] = []
actions_code function (first ∷ others) = action_code function first ++ actions_code function others

-- ---- ways from a point to another, where the blocks of points lie at these places

abbrev pub edge_code : Function → ℕ → ℕ → List Instr
edge_code function from to = actions_code function (actions_from function.edges from to)

-- the edge's actions and a jump
abbrev pub way : (ℕ → ℕ) → Function → ℕ → ℕ → List Instr
way place function from to = edge_code function from to ++ instrs.Jump (place to) ∷ []

-- the same, with no jump to the point behind
abbrev pub way_or_on : (ℕ → ℕ) → Function → ℕ → ℕ → List Instr
way_or_on place function from to = edge_code function from to ++ (if to == suc from then [] else instrs.Jump (place to) ∷ [])

-- to the point behind
abbrev pub way_on : Function → ℕ → List Instr
way_on function from = edge_code function from (suc from)

-- Where the word is 0, the way to a point: a jump, or the edge's actions and a jump, which another word passes over. So many instructions
-- of the block stand in front.
abbrev pub way_at_zero : (ℕ → ℕ) → ℕ → ℕ → ℕ → List Instr → List Instr
way_at_zero place from to front [] = instrs.JumpIfZero (place to) ∷ []
way_at_zero place from to front actions =
    instrs.JumpIfNotZero (place from + (front + (length actions + 2))) ∷ actions ++ instrs.Jump (place to) ∷ []

-- ---- calls

abbrev pub registers_code : Function → List Register → List Instr
registers_code function [] = []
registers_code function (first ∷ others) = register_code function first ++ registers_code function others

abbrev pub descriptors_code : Function → List ℕ → List Instr
descriptors_code function [] = []
descriptors_code function (first ∷ others) = descriptor_code function first ++ descriptors_code function others

-- the address of the call's register, the pools and the arguments, and the function where a pointer tells it
abbrev pub callee_code : Function → Callee → List Instr
callee_code function (Known number) = []
callee_code function (Through pointer signature) = register_code function pointer

abbrev pub passing : Function → ℕ → Callee → List Register → List ℕ → List Instr
passing function site callee arguments pools =
    instrs.Local (8 * word_of_register function (R.Call site)) ∷ descriptors_code function pools ++ registers_code function arguments ++ callee_code function callee

abbrev pub calling : Callee → Instr
calling (Known number) = instrs.Call (suc number)
calling (Through pointer signature) = instrs.CallIndirect signature

-- ---- points

-- What is done at a point is prepared, by instructions of which nothing is seen and which leave operands alone, and done.
abbrev pub preparing : Function → Op → List Instr
preparing function (O.Branch int_type condition holds fails) = tree_code function condition ++ instrs.Convert int_type ∷ []
preparing function (O.Assign to tree) = instrs.Local (8 * word_of_register function to) ∷ tree_code function tree
preparing function (O.Null to) = instrs.Local (8 * word_of_register function to) ∷ instrs.Constant 0 ∷ []
preparing function (O.FunctionAddress to number) = instrs.Local (8 * word_of_register function to) ∷ instrs.Constant (function_word number) ∷ []
preparing function (O.Copy to from) = instrs.Local (8 * word_of_register function to) ∷ register_code function from
preparing function (O.Test to pointer) =
    instrs.Local (8 * word_of_register function to) ∷ register_code function pointer ++ instrs.Constant 0 ∷ instrs.Compare relations.Ne types.ULong ∷ []
preparing function (O.Move to pointer size is_minus number) =
    instrs.Local (8 * word_of_register function to) ∷ register_code function pointer ++ scaled function size number ++ instrs.Binary (if is_minus then operators.Sub else operators.Add) types.ULong ∷ []
preparing function (O.Difference to size left right) =
    instrs.Local (8 * word_of_register function to)
    ∷ register_code function left ++ register_code function right ++ instrs.Binary operators.Sub types.Long ∷ instrs.Constant size ∷ instrs.Binary operators.Div types.Long ∷ []
preparing function (O.ComparePointers to relation left right) =
    instrs.Local (8 * word_of_register function to) ∷ register_code function left ++ register_code function right ++ instrs.Compare relation types.ULong ∷ []
preparing function (O.AddressOf to path) = instrs.Local (8 * word_of_register function to) ∷ path_code function path
preparing function (O.Load to slot path) = instrs.Local (8 * word_of_register function to) ∷ path_code function path
preparing function (O.Store path slot value) = path_code function path ++ operand_code function value
preparing function (O.Allocate site size pool) =
    instrs.Local (8 * word_of_register function (R.Call site)) ∷ descriptor_code function pool ++ tree_code function size
preparing function (O.Free site pointer pool) = descriptor_code function pool ++ register_code function pointer
preparing function (O.Call site callee arguments pools) = passing function site callee arguments pools
preparing function (O.GetChar site) = instrs.Local (8 * word_of_register function (R.Call site)) ∷ []
preparing function (O.PutChar site value) = instrs.Local (8 * word_of_register function (R.Call site)) ∷ tree_code function value
preparing function (O.Exit status) = tree_code function status
preparing function (O.Return None) = instrs.Constant 0 ∷ []
preparing function (O.Return (Some value)) = operand_code function value
preparing function op = []

-- a word that was pushed behind the address of its register goes there, and the run goes on behind the point
abbrev pub keeping : Function → ℕ → List Instr
keeping function from = instrs.Store widths.Eight ∷ way_on function from

abbrev pub finishing : (ℕ → ℕ) → Function → ℕ → Op → List Instr
finishing place function from O.Reserved = instrs.Trap ∷ []
finishing place function from (O.Jump to) = way place function from to
finishing place function from (O.Branch int_type condition holds fails) =
    way_at_zero place from fails (length (preparing function (O.Branch int_type condition holds fails))) (edge_code function from fails) ++ way_or_on place function from holds
finishing place function from (O.Load to slot path) = loading function slot ++ keeping function from
finishing place function from (O.Store path slot value) = storing function slot ++ way_on function from
finishing place function from (O.Allocate site size pool) = instrs.PoolAlloc ∷ keeping function from
finishing place function from (O.Free site pointer pool) = instrs.PoolFree ∷ way_on function from
finishing place function from (O.Call site callee arguments pools) = calling callee ∷ keeping function from
finishing place function from (O.GetChar site) = instrs.GetChar ∷ keeping function from
finishing place function from (O.PutChar site value) = instrs.PutChar ∷ keeping function from
finishing place function from (O.Exit status) = instrs.Exit ∷ []
finishing place function from (O.Return value) = actions_code function function.leaving ++ instrs.ReturnValue ∷ []
finishing place function from op = keeping function from

-- the instructions of a point
abbrev pub block : (ℕ → ℕ) → Function → ℕ → Op → List Instr
block place function number op = preparing function op ++ finishing place function number op

-- those of points that are numbered from a number on
abbrev pub blocks : (ℕ → ℕ) → Function → ℕ → List Op → List Instr
blocks place function number [] = []
blocks place function number (op ∷ ops) = block place function number op ++ blocks place function (suc number) ops

-- ---- functions

-- what is done at entry
abbrev pub opening : Function → List Instr
opening function = actions_code function function.entering

-- where a point's block begins: behind those of the points before it, which are as long wherever points lie
abbrev pub place_of : Function → ℕ → ℕ
place_of function number = length (opening function) + length (blocks (λ _. 0) function 0 (take number function.points))

abbrev pub function_code : Function → List Instr
function_code function = opening function ++ blocks (place_of function) function 0 function.points

-- ---- how many operands there are at once

abbrev pub tree_height : Tree → ℕ
tree_height (Constant z) = 1
tree_height (Held register) = 1
tree_height (Convert int_type operand) = tree_height operand
tree_height (Complement int_type operand) = tree_height operand
tree_height (Not int_type operand) = max (tree_height operand) 2
tree_height (Arithmetic operator int_type left right) = max (tree_height left) (suc (tree_height right))
tree_height (Compare relation int_type left right) = max (tree_height left) (suc (tree_height right))

abbrev pub operand_height : Operand → ℕ
operand_height (IntegerOperand tree) = tree_height tree
operand_height (PointerOperand register) = 1

-- beside an address
abbrev pub scaled_height : Tree → ℕ
scaled_height number = max (suc (tree_height number)) 3

abbrev pub base_height : Base → ℕ
base_height (Indexed pointer size number) = scaled_height number
base_height base = 1

abbrev pub step_height : Step → ℕ
step_height (Member offset) = 2
step_height (Element size index) = scaled_height index

abbrev pub steps_height : List Step → ℕ
steps_height [] = 1
steps_height (first ∷ others) = max (step_height first) (steps_height others)

abbrev pub path_height : Path → ℕ
path_height path = max (base_height path.base) (steps_height path.steps)

-- while a point is prepared
abbrev pub preparing_height : Op → ℕ
preparing_height (O.Branch int_type condition holds fails) = tree_height condition
preparing_height (O.Assign to tree) = suc (tree_height tree)
preparing_height (O.Test to pointer) = 3
preparing_height (O.Move to pointer size is_minus number) = suc (scaled_height number)
preparing_height (O.Difference to size left right) = 3
preparing_height (O.ComparePointers to relation left right) = 3
preparing_height (O.AddressOf to path) = suc (path_height path)
preparing_height (O.Load to slot path) = suc (path_height path)
preparing_height (O.Store path slot value) = max (path_height path) (suc (operand_height value))
preparing_height (O.Allocate site size pool) = suc (suc (tree_height size))
preparing_height (O.Call site callee arguments pools) = 2 + length pools + length arguments
preparing_height (O.PutChar site value) = suc (tree_height value)
preparing_height (O.Exit status) = tree_height status
preparing_height (O.Return (Some value)) = operand_height value
preparing_height op = 2

abbrev pub greatest_height : List Op → ℕ
greatest_height [] = 0
greatest_height (op ∷ ops) = max (preparing_height op) (greatest_height ops)

-- what is done with pools, and links, need three
abbrev pub height_of : Function → ℕ
height_of function = max 3 (greatest_height function.points)

-- ---- programs

-- the words that a function gets from its caller
abbrev pub words_taken : Function → ℕ
words_taken function = function.taken + function.frame.parameters

abbrev pub emitted_function : Function → machine.Function
emitted_function function =
    record {
      parameters = words_taken function;
      extra = function.frame.size - 8 * words_taken function;
      height = height_of function;
      signature = function.signature;
      code = function_code function;
    }

-- what the machine runs
abbrev pub emitted : PoolCode → machine.Code
emitted code =
    record { functions = emitted_function code.start ∷ map emitted_function code.functions; kinds = code.kinds; globals = code.globals; contents = code.contents }
