-- The code of every expression follows the reference, given that calls do: the forms put together, by induction on the tree.
use Rattle.std.proofs.Common.{◌≡◌, ℕ, true, List, Option}
use Rattle.c_typed.specs.Typed as T
use Rattle.c_typed.specs.Typed.{Value, Object, Designator, Values, Program}
use Rattle.c_typed.specs.Programs.{IsWellTyped}
use Rattle.ref_semantics.specs.Values as V
use Rattle.ref_semantics.specs.Meaning.{Calls}
use Rattle.ref_semantics.specs.Keeping.{CallsKeep}
use Rattle.tac_ir.specs.Code.{Op, Tac}
use Rattle.tac_build.specs.Homes.{Scope}
use Rattle.tac_simulation.specs.Standing.{Placement, Frame}
use Rattle.c_typed.specs.Sizes.{are_filled}
use Rattle.tac_simulation.proofs.Spotting.{Runs}
use Rattle.tac_simulation.proofs.Evaluating.{ValueDoes, FindDoes, AddressDoes, ArgumentsDo}
use Rattle.tac_simulation.proofs.Calling
use Rattle.tac_simulation.proofs.Constants
use Rattle.tac_simulation.proofs.Integers
use Rattle.tac_simulation.proofs.Operated
use Rattle.tac_simulation.proofs.Deciding
use Rattle.tac_simulation.proofs.Choosing
use Rattle.tac_simulation.proofs.Quiet
use Rattle.tac_simulation.proofs.Finding
use Rattle.tac_simulation.proofs.Reaching
use Rattle.tac_simulation.proofs.Indexing
use Rattle.tac_simulation.proofs.Reading
use Rattle.tac_simulation.proofs.Addressing
use Rattle.tac_simulation.proofs.Addressed
use Rattle.tac_simulation.proofs.Designating
use Rattle.tac_simulation.proofs.Designating.{Designates}
use Rattle.tac_simulation.proofs.PointerForms
use Rattle.tac_simulation.proofs.PointerAssigns
use Rattle.tac_simulation.proofs.OwnSteps
use Rattle.tac_simulation.proofs.Arguments
use Rattle.tac_simulation.proofs.LibraryForms
use Rattle.tac_simulation.proofs.CallForms

module _ (tac : Tac) (program : Program) (calls : Calls) (worth : ℕ) (points : List Op) (placement : Placement) (hidden : ℕ → Option V.Content) (frame : Frame) (scope : Scope)
    (runs : Runs tac program points frame) (well : IsWellTyped program) (keep : CallsKeep program calls)
    (filled : are_filled program.structs ≡ true)
    (calls_do : Calling.CallsDo tac program calls worth points placement hidden frame scope) where
  mutual
    pub value_follows : (tree : Value) → ValueDoes tac program calls worth points placement hidden frame scope tree
    value_follows (T.Constant int_type z) = Constants.constants tac program calls worth points placement hidden frame scope runs well keep int_type z
    value_follows T.NullPointer = Constants.null_pointers tac program calls worth points placement hidden frame scope runs well keep
    value_follows (T.Grouped inner) = Constants.groups tac program calls worth points placement hidden frame scope runs well keep inner (value_follows inner)
    value_follows (T.Read place object) = Reading.reads tac program calls worth points placement hidden frame scope runs well keep place object (object_found object)
    value_follows (T.Decay place object) = Addressing.decays tac program calls worth points placement hidden frame scope runs well keep place object (object_found object)
    value_follows (T.FunctionValue function) = Designating.function_values tac program calls worth points placement hidden frame scope runs well keep function (function_designated function)
    value_follows (T.Converted int_type operand) = Integers.conversions tac program calls worth points placement hidden frame scope runs well keep int_type operand (value_follows operand)
    value_follows (T.Repointed place target operand) = PointerForms.repoints tac program calls worth points placement hidden frame scope runs well keep filled place target operand (value_follows operand)
    value_follows (T.MadeNull target operand) = PointerForms.made_null tac program calls worth points placement hidden frame scope runs well keep filled target operand (value_follows operand)
    value_follows (T.Tested place operand) = PointerForms.tests tac program calls worth points placement hidden frame scope runs well keep filled place operand (value_follows operand)
    value_follows (T.Plus operand) = Integers.pluses tac program calls worth points placement hidden frame scope runs well keep operand (value_follows operand)
    value_follows (T.Minus place int_type operand) = Integers.minuses tac program calls worth points placement hidden frame scope runs well keep place int_type operand (value_follows operand)
    value_follows (T.Complement int_type operand) = Integers.complements tac program calls worth points placement hidden frame scope runs well keep int_type operand (value_follows operand)
    value_follows (T.Not operand) = Integers.negations tac program calls worth points placement hidden frame scope runs well keep operand (value_follows operand)
    value_follows (T.Arithmetic op place int_type left right) = Operated.operators tac program calls worth points placement hidden frame scope runs well keep op place int_type left right (value_follows left) (value_follows right) (Quiet.pure_rests tac program calls worth points placement hidden frame scope runs well keep right)
    value_follows (T.Compare relation left right) = Operated.relations tac program calls worth points placement hidden frame scope runs well keep relation left right (value_follows left) (value_follows right) (Quiet.pure_rests tac program calls worth points placement hidden frame scope runs well keep right)
    value_follows (T.ComparePointers relation place left right) = PointerForms.compares tac program calls worth points placement hidden frame scope runs well keep filled relation place left right (value_follows left) (value_follows right)
    value_follows (T.PointerPlus place pointer number) = PointerForms.adds tac program calls worth points placement hidden frame scope runs well keep filled place pointer number (value_follows pointer) (value_follows number)
    value_follows (T.NumberPlus place number pointer) = PointerForms.number_adds tac program calls worth points placement hidden frame scope runs well keep filled place number pointer (value_follows number) (value_follows pointer)
    value_follows (T.PointerMinus place pointer number) = PointerForms.subtracts tac program calls worth points placement hidden frame scope runs well keep filled place pointer number (value_follows pointer) (value_follows number)
    value_follows (T.PointerDifference place left right) = PointerForms.differences tac program calls worth points placement hidden frame scope runs well keep filled place left right (value_follows left) (value_follows right)
    value_follows (T.And left right) = Deciding.ands tac program calls worth points placement hidden frame scope runs well keep left right (value_follows left) (value_follows right)
    value_follows (T.Or left right) = Deciding.ors tac program calls worth points placement hidden frame scope runs well keep left right (value_follows left) (value_follows right)
    value_follows (T.Conditional condition taken otherwise) = Choosing.conditionals tac program calls worth points placement hidden frame scope runs well keep condition taken otherwise (value_follows condition) (value_follows taken) (value_follows otherwise)
    value_follows (T.AddressOf place object) = Addressing.address_values tac program calls worth points placement hidden frame scope runs well keep place object (object_addressed object)
    value_follows (T.AddressOfFunction function) = Designating.function_addresses tac program calls worth points placement hidden frame scope runs well keep function (function_designated function)
    value_follows (T.Cast operand) = Integers.casts tac program calls worth points placement hidden frame scope runs well keep operand (value_follows operand)
    value_follows (T.CastVoid operand) = Integers.void_casts tac program calls worth points placement hidden frame scope runs well keep operand (value_follows operand)
    value_follows (T.Assign place object operand) = OwnSteps.assigns tac program calls worth points placement hidden frame scope runs well keep place object operand (object_found object) (value_follows operand) (Quiet.operand_rests tac program calls worth points placement hidden frame scope runs well keep operand (value_follows operand))
    value_follows (T.AssignArithmetic op place object_type int_type object operand) = OwnSteps.compounds tac program calls worth points placement hidden frame scope runs well keep op place object_type int_type object operand (object_found object) (value_follows operand) (Quiet.operand_rests tac program calls worth points placement hidden frame scope runs well keep operand (value_follows operand))
    value_follows (T.AssignMoved is_minus place object number) = PointerAssigns.moves tac program calls worth points placement hidden frame scope runs well keep is_minus place object number (object_found object) (value_follows number) (Quiet.operand_rests tac program calls worth points placement hidden frame scope runs well keep number (value_follows number))
    value_follows (T.StepInteger stepping place int_type object) = OwnSteps.steps_integer tac program calls worth points placement hidden frame scope runs well keep stepping place int_type object (object_found object)
    value_follows (T.StepPointer stepping place object) = PointerAssigns.steps tac program calls worth points placement hidden frame scope runs well keep stepping place object (object_found object)
    value_follows (T.Call is_used place function c_type arguments) = CallForms.called tac program calls worth points placement hidden frame scope runs well keep calls_do is_used place function c_type arguments (Designating.designates tac program calls worth points placement hidden frame scope runs well keep function (function_designated function)) (arguments_passed arguments)
    value_follows (T.LibraryCall function groups place arguments) = LibraryForms.library_calls tac program calls worth points placement hidden frame scope runs well keep function groups place arguments (each_follows arguments)

    pub object_found : (tree : Object) → FindDoes tac program calls worth points placement hidden frame scope tree
    object_found (T.Local number) = Finding.locals tac program calls worth points placement hidden frame scope runs well keep number
    object_found (T.Global name) = Finding.globals tac program calls worth points placement hidden frame scope runs well keep name
    object_found (T.Literal place bytes) = Finding.literals tac program calls worth points placement hidden frame scope runs well keep place bytes
    object_found (T.GroupedObject place inner) = Finding.grouped tac program calls worth points placement hidden frame scope runs well keep place inner (object_found inner)
    object_found (T.Pointed place pointer) = Reaching.pointed_objects tac program calls worth points placement hidden frame scope runs well keep place pointer (value_follows pointer)
    object_found (T.Element place pointer number) = Indexing.elements tac program calls worth points placement hidden frame scope runs well keep place pointer number (value_follows pointer) (Quiet.operand_rests tac program calls worth points placement hidden frame scope runs well keep number (value_follows number))
    object_found (T.ElementOf place number pointer) = Indexing.elements_of tac program calls worth points placement hidden frame scope runs well keep place number pointer (value_follows number) (value_follows pointer)
    object_found (T.MemberOf place object number) = Finding.members tac program calls worth points placement hidden frame scope runs well keep place object number (object_found object)
    object_found (T.PointedMember place pointer number) = Reaching.pointed_members tac program calls worth points placement hidden frame scope runs well keep place pointer number (value_follows pointer)

    pub object_addressed : (tree : Object) → AddressDoes tac program calls worth points placement hidden frame scope tree
    object_addressed (T.Local number) = Addressing.local_addresses tac program calls worth points placement hidden frame scope runs well keep number (Finding.locals tac program calls worth points placement hidden frame scope runs well keep number)
    object_addressed (T.Global name) = Addressing.global_addresses tac program calls worth points placement hidden frame scope runs well keep name (Finding.globals tac program calls worth points placement hidden frame scope runs well keep name)
    object_addressed (T.Literal place bytes) = Addressing.literal_addresses tac program calls worth points placement hidden frame scope runs well keep place bytes (Finding.literals tac program calls worth points placement hidden frame scope runs well keep place bytes)
    object_addressed (T.GroupedObject place inner) = Addressing.grouped_addresses tac program calls worth points placement hidden frame scope runs well keep place inner (object_addressed inner)
    object_addressed (T.Pointed place pointer) = Addressing.pointed_addresses tac program calls worth points placement hidden frame scope runs well keep place pointer (value_follows pointer)
    object_addressed (T.Element place pointer number) = Addressed.element_addresses tac program calls worth points placement hidden frame scope runs well keep place pointer number (value_follows pointer) (Quiet.operand_rests tac program calls worth points placement hidden frame scope runs well keep number (value_follows number))
    object_addressed (T.ElementOf place number pointer) = Addressed.element_of_addresses tac program calls worth points placement hidden frame scope runs well keep place number pointer (value_follows number) (value_follows pointer)
    object_addressed (T.MemberOf place object number) = Addressing.member_addresses tac program calls worth points placement hidden frame scope runs well keep place object number (Finding.members tac program calls worth points placement hidden frame scope runs well keep place object number (object_found object))
    object_addressed (T.PointedMember place pointer number) = Addressing.pointed_member_addresses tac program calls worth points placement hidden frame scope runs well keep place pointer number (Reaching.pointed_members tac program calls worth points placement hidden frame scope runs well keep place pointer number (value_follows pointer))

    pub function_designated : (tree : Designator) → Designates tac program calls worth points placement hidden frame scope runs well keep tree
    function_designated (T.Function name) = Designating.functions tac program calls worth points placement hidden frame scope runs well keep name
    function_designated (T.GroupedFunction inner) = Designating.grouped_functions tac program calls worth points placement hidden frame scope runs well keep inner (function_designated inner)
    function_designated (T.PointedFunction place pointer) = Designating.pointed_functions tac program calls worth points placement hidden frame scope runs well keep place pointer (value_follows pointer)
    function_designated (T.ThroughPointer place pointer) = Designating.pointers_called tac program calls worth points placement hidden frame scope runs well keep place pointer (value_follows pointer)

    pub arguments_passed : (trees : Values) → ArgumentsDo tac program calls worth points placement hidden frame scope trees
    arguments_passed T.NoValues = Arguments.no_arguments tac program calls worth points placement hidden frame scope runs well keep
    arguments_passed (T.MoreValues first others) = Arguments.more_arguments tac program calls worth points placement hidden frame scope runs well keep first others (value_follows first) (arguments_passed others)

    pub each_follows : (trees : Values) → LibraryForms.EachFollows tac program calls worth points placement hidden frame scope runs well keep trees
    each_follows T.NoValues = tt
    each_follows (T.MoreValues first others) = (value_follows first, each_follows others)
