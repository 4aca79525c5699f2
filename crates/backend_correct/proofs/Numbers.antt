-- Sizes, offsets and signatures of rewritten points lie in the ranges of an image, and what they name is there.
use Rattle.std.proofs.Common.{ℕ, zero, suc, ◌+◌, ◌^◌, ◌<◌, ◌≤◌, Bool, true, false, List, [], ◌∷◌, length, Option, Some, None, arith}
use Rattle.std.specs.Prelude.{if◌then◌else◌, slice_get}
use Rattle.std.specs.List.{AllByRecursion}
use Rattle.c_typed.specs.Types.{CType, Void, Integer, Pointer, Array, Struct, Function, same_type}
use Rattle.c_typed.specs.Layouts.{StructDef, MemberDef, Layout, greatest, saturated, members_by_tag, known_members}
use Rattle.tac_ir.specs.Layouts.{size_of, member_in, member_of}
use Rattle.tac_ir.specs.Code.{LocalObject, Tac}
use Rattle.tac_ir.specs.Code as T
use Rattle.pool_isa.specs.Machine.{globals_start}
use Rattle.pool_ir.specs.Code.{FrameLayout}
use Rattle.pool_ir.specs.Meaning.{function_word}
use Rattle.pool_rewrite.specs.Plan.{FunctionPlan}
use Rattle.pool_rewrite.specs.Placing.{begins, end_behind, begin_of, static_layouts, statics_size}
use Rattle.pool_rewrite.specs.Rewriting.{inner_offset, element_type, base_of, step_of, steps_of, path_of, signature_from, op_of}
use Rattle.pool_simulation.proofs.Placed.{AllAligned, front_below, aligned_statics}
use Rattle.pool_simulation.proofs.SizesEnd.{size_ends}
use Rattle.stack_code.specs.FitsImage.{BaseInRange, StepInRange, PathInRange, OpInRange}
use Rattle.backend_correct.specs.Naming.{NamesThere}
use Rattle.backend_correct.proofs.ImagePremises.Functions.{GoesOn}

-- ---- sizes and offsets

size_small : (structs : List StructDef) (c_type : CType) → size_of structs c_type < 2 ^ 64
size_small structs c_type = by (size_of structs c_type) (size_ends structs c_type)
  where
    by : (size : ℕ) → size ≤ greatest → size < 2 ^ 64
    by size low = omega (arith, low)

saturated_small : (n : ℕ) → 0 + saturated n < 2 ^ 64
saturated_small n = omega arith

found_small : (structs : List StructDef) (number : ℕ) (members : List MemberDef) (found : Option MemberDef) → inner_offset (member_in structs 0 number members found) < 2 ^ 64
found_small structs number members None = omega arith
found_small structs number members (Some member) = by member.c_type
  where
    by : (known : Option CType) → inner_offset (member_in structs 0 number members (Some (record member { c_type = known }))) < 2 ^ 64
    by None = omega arith
    by (Some c_type) = saturated_small _

member_small : (structs : List StructDef) (number : ℕ) (own : CType) → inner_offset (member_of structs number (record { offset = 0; c_type = own })) < 2 ^ 64
member_small structs number (Struct tag) =
    let members = known_members (members_by_tag structs tag) in
    found_small structs number members (slice_get members number)
member_small structs number Void = omega arith
member_small structs number (Integer int_type) = omega arith
member_small structs number (Pointer target) = omega arith
member_small structs number (Array element count) = omega arith
member_small structs number (Function result parameters) = omega arith

-- nothing begins behind the end
begin_within : (front : ℕ) (objects : List Layout) (number : ℕ) → AllAligned objects → begin_of front objects number ≤ end_behind front objects
begin_within front [] number all = omega arith
begin_within front (first ∷ others) zero all = by (begins front first) first.size (end_behind front (first ∷ others)) (front_below (begins front first + first.size) others all.1)
  where
    by : (begin size end : ℕ) → begin + size ≤ end → begin ≤ end
    by begin size end low = omega (arith, low)
begin_within front (first ∷ others) (suc number) all = begin_within (begins front first + first.size) others number all.1

-- ---- signatures

pub signature_low : (number : ℕ) (functions : List T.Function) (c_type : CType) → signature_from number functions c_type ≤ number + length functions
signature_low number [] c_type = omega arith
signature_low number (first ∷ others) c_type = by (same_type first.c_type c_type) (signature_low (suc number) others c_type)
  where
    by : (b : Bool) → signature_from (suc number) others c_type ≤ suc number + length others → (if b then number else signature_from (suc number) others c_type) ≤ number + suc (length others)
    by true rest = omega arith
    by false rest = omega (arith, rest)

-- ---- points

module _ (tac : Tac) (small : statics_size tac ≤ 1073741824) (few : length tac.functions ≤ 4096) where
  static_small : (number : ℕ) → globals_start + begin_of 0 (static_layouts tac) number < 2 ^ 64
  static_small number = by (begin_of 0 (static_layouts tac) number) (statics_size tac) (begin_within 0 (static_layouts tac) number (aligned_statics tac)) small
    where
      by : (begin end : ℕ) → begin ≤ end → end ≤ 1073741824 → globals_start + begin < 2 ^ 64
      by begin end low most = omega (arith, low, most)

  signature_small : (c_type : CType) → signature_from 0 tac.functions c_type < 2 ^ 64
  signature_small c_type = let low = signature_low 0 tac.functions c_type in omega (arith, low, few)

  module _ (plan : FunctionPlan) (own : List LocalObject) (frame : FrameLayout) where
    base_small : (base : T.Base) → BaseInRange (base_of tac own frame base).part
    base_small (T.AtLocal local) = tt
    base_small (T.AtGlobal number) = static_small number
    base_small (T.AtLiteral number) = static_small (length tac.globals + number)
    base_small (T.Pointed pointer target) = tt
    base_small (T.Indexed pointer target number) = size_small tac.structs target

    steps_small : (c_type : CType) (steps : List T.Step) → AllByRecursion StepInRange (steps_of tac.structs c_type steps)
    steps_small c_type [] = tt
    steps_small c_type (T.Member number ∷ others) = (member_small tac.structs number c_type, steps_small (step_of tac.structs c_type (T.Member number)).c_type others)
    steps_small c_type (T.Element index ∷ others) = (size_small tac.structs (element_type c_type), steps_small (step_of tac.structs c_type (T.Element index)).c_type others)

    path_small : (path : T.Path) → PathInRange (path_of tac own frame path)
    path_small path = (base_small path.base, steps_small (base_of tac own frame path.base).c_type path.steps)

    word_small : (function : ℕ) → function < length tac.functions → function_word function < 2 ^ 64
    word_small function low = omega (arith, low, few)

    -- a rewritten point of a function with so many
    pub op_in_range : (points number : ℕ) (op : T.Op) → NamesThere (length tac.functions) points op → GoesOn points number op → OpInRange (length tac.functions) points number (op_of tac plan own frame op)
    op_in_range points number T.Reserved named on = tt
    op_in_range points number (T.Jump to) named on = named
    op_in_range points number (T.Branch int_type condition holds fails) named on = named
    op_in_range points number (T.Assign to tree) named on = on
    op_in_range points number (T.Null to) named on = on
    op_in_range points number (T.FunctionAddress to function) named on = (on, word_small function named)
    op_in_range points number (T.Copy to from) named on = on
    op_in_range points number (T.Test to pointer) named on = on
    op_in_range points number (T.Move to pointer element is_minus count) named on = (on, size_small tac.structs element)
    op_in_range points number (T.Difference to element left right) named on = (on, size_small tac.structs element)
    op_in_range points number (T.ComparePointers to relation left right) named on = on
    op_in_range points number (T.Repoint to target from) named on = on
    op_in_range points number (T.AddressOf to path) named on = (on, path_small path)
    op_in_range points number (T.Load to scalar path) named on = (on, path_small path)
    op_in_range points number (T.Store path scalar value) named on = (on, path_small path)
    op_in_range points number (T.Allocate site size) named on = on
    op_in_range points number (T.Free site pointer) named on = on
    op_in_range points number (T.Call site (T.Known function) arguments) named on = (on, named)
    op_in_range points number (T.Call site (T.Through pointer c_type) arguments) named on = (on, signature_small c_type)
    op_in_range points number (T.GetChar site) named on = on
    op_in_range points number (T.PutChar site value) named on = on
    op_in_range points number (T.Exit status) named on = tt
    op_in_range points number (T.Return value) named on = tt
