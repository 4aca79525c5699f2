-- Registers and objects of a function whose points are its code: as many as its tree's nodes and the limit on frames allow.
use Rattle.std.proofs.Common.{◌≡◌, ℕ, zero, suc, ◌+◌, ◌*◌, ◌≤◌, Bool, true, false, ◌&&◌, ◌||◌, List, [], ◌∷◌, length, Some, None, refl, ap, subst, arith}
use Rattle.std.specs.Prelude.{slice_get}
use Rattle.std.proofs.lemmas.Bool.{false≢true, and_parts}
use Rattle.std.proofs.lemmas.Option.{none-some, same_Some}
use Rattle.c_num.specs.declared.IntType.TheVariants as I
use Rattle.c_typed.specs.Types.{CType, Void, Integer, Pointer, Array, Struct, Function, same_type, is_void}
use Rattle.c_typed.specs.Layouts.{StructDef, layouts}
use Rattle.c_typed.specs.Typed.{Block, FunctionDef, Program}
use Rattle.c_typed.specs.Expressions.{is_scalar}
use Rattle.c_typed.specs.Statements.{is_block}
use Rattle.c_typed.specs.Programs.{function_of, are_scalars, with_parameters, is_function_def, are_functions}
use Rattle.c_typed.specs.TypedNodes.{block_nodes, functions_nodes, greatest_nodes}
use Rattle.c_types.specs.Limits.{added, rounded, block_size, types_size, first_above, frames}
use Rattle.tac_ir.specs.Code as O
use Rattle.tac_ir.specs.Code.{Op, LocalObject}
use Rattle.tac_build.specs.Homes.{Home, Scope, takes_block}
use Rattle.tac_build.specs.Spots.{Spot}
use Rattle.tac_build.specs.ProgramCode.{parameter_home, ParameterCode, ParametersCode, first_spot, FunctionCode, FunctionsCode}
use Rattle.pool_ir.specs.Frames.{words_in}
use Rattle.pool_rewrite.specs.Plan.{FunctionPlan}
use Rattle.pool_rewrite.specs.Placing.{own_layouts, words_alone, frame_of}
use Rattle.pool_simulation.specs.InStep.{greatest_frame}
use Rattle.backend_correct.specs.Descriptors.{greatest_descriptors}
use Rattle.backend_correct.proofs.Aligned.{layout_aligns, AreAligned, end_within}
use Rattle.backend_correct.proofs.Limited.{greatest_objects, frame_sum, none_above}
use Rattle.backend_correct.proofs.Named.{named, stays}
use Rattle.backend_correct.proofs.LoweredRanges.Statements.{objects_size, Adds, adds_then, adds_at_most, nothing_added, point_added, home_adds, block_adds}

-- ---- parameters

-- each is a scalar, which has a byte at least
scalar_size : (structs : List StructDef) (t : CType) → is_scalar t ≡ true → 8 ≤ rounded (layouts structs) t
scalar_size structs (Integer I.Char) h = omega arith
scalar_size structs (Integer I.UChar) h = omega arith
scalar_size structs (Integer I.Short) h = omega arith
scalar_size structs (Integer I.UShort) h = omega arith
scalar_size structs (Integer I.Int) h = omega arith
scalar_size structs (Integer I.UInt) h = omega arith
scalar_size structs (Integer I.Long) h = omega arith
scalar_size structs (Integer I.ULong) h = omega arith
scalar_size structs (Pointer target) h = omega arith
scalar_size structs Void h = absurd (false≢true h)
scalar_size structs (Array element count) h = absurd (false≢true h)
scalar_size structs (Struct tag) h = absurd (false≢true h)
scalar_size structs (Function result parameters) h = absurd (false≢true h)

scalars_size : (structs : List StructDef) (types : List CType) → are_scalars types ≡ true → types_size (layouts structs) types ≤ greatest_objects → 8 * length types ≤ types_size (layouts structs) types
scalars_size structs [] scalars h = omega arith
scalars_size structs (first ∷ others) scalars h =
    let both = and_parts (is_scalar first) (are_scalars others) scalars in
    let exact = frame_sum (rounded (layouts structs) first) (types_size (layouts structs) others) h in
    let sum = exact.sum in
    let own = scalar_size structs first both.0 in
    let rest = scalars_size structs others both.1 exact.second in
    omega (arith, sum, own, rest)

module _ (structs : List StructDef) (points : List Op) (body : Block) where
  parameter_adds : (home : Home) (number : ℕ) (from to : Spot) → ParameterCode points home number from to → Adds structs 0 (rounded (layouts structs) home.c_type) from to
  parameter_adds home number from to code = by home.is_object code
    where
      by : (b : Bool) → ParameterCode points (record home { is_object = b }) number from to → Adds structs 0 (rounded (layouts structs) home.c_type) from to
      by false code = adds_at_most structs 0 (rounded (layouts structs) home.c_type) (omega arith) (omega arith) (nothing_added structs (stays code))
      by true code =
          adds_at_most structs 0 (rounded (layouts structs) home.c_type) (omega arith) (omega arith) (adds_then structs (home_adds structs (record home { is_object = true }) from) (point_added structs code.1))

  parameters_add : (types : List CType) (number : ℕ) (scope : Scope) (from to : Spot) (inner : Scope) → types_size (layouts structs) types ≤ greatest_objects
      → ParametersCode points body types number scope from to inner → Adds structs 0 (types_size (layouts structs) types) from to
  parameters_add [] number scope from to inner h code = nothing_added structs (stays code.0)
  parameters_add (first ∷ others) number scope from to inner h code =
      let exact = frame_sum (rounded (layouts structs) first) (types_size (layouts structs) others) h in
      let sum = exact.sum in
      let home = parameter_home number first (takes_block number body) in
      adds_at_most structs 0 (added (rounded (layouts structs) first) (types_size (layouts structs) others)) (omega arith) (omega (arith, sum))
      (adds_then structs (parameter_adds home number from code.0 code.1) (parameters_add others (suc number) (home ∷ scope) code.0 to inner exact.second code.2))

-- ---- functions

-- registers and objects of a function whose tree has so many nodes
pub record IsSmall (structs : List StructDef) (nodes : ℕ) (function : O.Function) : Type 0 where
  pub count : named function.counts ≤ 2 * nodes
  pub parameters : 8 * function.parameters ≤ greatest_objects
  pub objects : objects_size structs function.objects ≤ greatest_objects

none_named : named first_spot.counts ≡ 0
unfolding named
none_named = refl

function_small : (program : Program) (def : FunctionDef) (function : O.Function) → FunctionCode program def function → are_scalars def.parameters ≡ true
    → added (types_size (layouts program.structs) def.parameters) (block_size (layouts program.structs) def.body) ≤ greatest_objects → IsSmall program.structs (block_nodes def.body) function
function_small program def function code scalars h =
    let structs = program.structs in
    let exact = frame_sum (types_size (layouts structs) def.parameters) (block_size (layouts structs) def.body) h in
    let sum = exact.sum in
    let own = scalars_size structs def.parameters scalars exact.first in
    let parameters = code.parameters in
    let entry = parameters_add structs function.points def.body def.parameters 0 [] first_spot code.inside code.scope exact.first code.entry in
    let inner = block_adds program function.points def.body code.scope code.inside code.last (record { broken = 0; continued = 0 }) exact.second code.body in
    let all = adds_then structs entry (adds_then structs inner (point_added structs code.ending.1)) in
    let counts = ap named code.counts in
    let objects = ap (objects_size structs) code.objects in
    record {
      count = omega (arith, counts, none_named, all.count);
      parameters = omega (arith, parameters, own, exact.first);
      objects = omega (arith, objects, all.objects, sum, h);
    }

function_scalars : (program : Program) (def : FunctionDef) → is_function_def program def ≡ true → are_scalars def.parameters ≡ true
function_scalars program def well =
    let typed = same_type def.c_type (function_of def.result def.parameters) && (is_scalar def.result || is_void def.result) in
    let front = and_parts (typed && are_scalars def.parameters)
    (is_block (record { program = program; locals = with_parameters def.parameters [] }) (record { result = def.result; may_break = false; may_continue = false }) def.body) well in
    (and_parts typed (are_scalars def.parameters) front.0).1

more_nodes : (structs : List StructDef) (nodes most : ℕ) (function : O.Function) → nodes ≤ most → IsSmall structs nodes function → IsSmall structs most function
more_nodes structs nodes most function less small = let count = small.count in record { count = omega (arith, count, less); parameters = small.parameters; objects = small.objects }

pub functions_small : (program : Program) (defs : List FunctionDef) (functions : List O.Function) (number : ℕ) (function : O.Function) → FunctionsCode program defs functions
    → are_functions program defs ≡ true → first_above greatest_objects (frames (layouts program.structs) defs) ≡ None → slice_get functions number ≡ Some function
    → IsSmall program.structs (functions_nodes defs) function
functions_small program [] [] number function code well none there = absurd (none-some function there)
functions_small program [] (own ∷ functions) number function code well none there = absurd code
functions_small program (def ∷ defs) [] number function code well none there = absurd code
functions_small program (def ∷ defs) (own ∷ functions) zero function code well none there =
    let both = and_parts (is_function_def program def) (are_functions program defs) well in
    let low = none_above greatest_objects (added (types_size (layouts program.structs) def.parameters) (block_size (layouts program.structs) def.body)) (frames (layouts program.structs) defs) none in
    subst (λ found. IsSmall program.structs (functions_nodes (def ∷ defs)) found) (same_Some own function there)
    (more_nodes program.structs (block_nodes def.body) (functions_nodes (def ∷ defs)) own (omega arith) (function_small program def own code.0 (function_scalars program def both.0) low.0))
functions_small program (def ∷ defs) (own ∷ functions) (suc number) function code well none there =
    let both = and_parts (is_function_def program def) (are_functions program defs) well in
    let low = none_above greatest_objects (added (types_size (layouts program.structs) def.parameters) (block_size (layouts program.structs) def.body)) (frames (layouts program.structs) defs) none in
    more_nodes program.structs (functions_nodes defs) (functions_nodes (def ∷ defs)) function (omega arith) (functions_small program defs functions number function code.1 both.1 low.1 there)

pub functions_alike : (program : Program) (defs : List FunctionDef) (functions : List O.Function) → FunctionsCode program defs functions → length functions ≡ length defs
functions_alike program [] [] code = refl
functions_alike program [] (own ∷ functions) code = absurd code
functions_alike program (def ∷ defs) [] code = absurd code
functions_alike program (def ∷ defs) (own ∷ functions) code = ap suc (functions_alike program defs functions code.1)

-- ---- frames

own_aligned : (structs : List StructDef) (objects : List LocalObject) → AreAligned (own_layouts structs objects)
own_aligned structs [] = tt
own_aligned structs (first ∷ others) = (layout_aligns structs first.c_type, own_aligned structs others)

words_named : (plan : FunctionPlan) (function : O.Function) → words_in (words_alone plan function) ≡ plan.descriptors + function.parameters + named function.counts
unfolding named
words_named plan function = omega arith

-- words of descriptors and registers, and objects behind them
pub frame_small : (structs : List StructDef) (plan : FunctionPlan) (nodes : ℕ) (function : O.Function) → IsSmall structs nodes function → nodes ≤ greatest_nodes → plan.descriptors ≤ greatest_descriptors
    → (frame_of structs plan function).size ≤ greatest_frame
frame_small structs plan nodes function small few within =
    let words = words_in (words_alone plan function) in
    let size = end_within (own_layouts structs function.objects) (8 * words) words (own_aligned structs function.objects) (omega arith) in
    sum (frame_of structs plan function).size words (named function.counts) (objects_size structs function.objects) size (words_named plan function) small.count small.parameters small.objects
  where
    sum : (size words count objects : ℕ) → size ≤ 8 * words + objects → words ≡ plan.descriptors + function.parameters + count → count ≤ 2 * nodes → 8 * function.parameters ≤ greatest_objects
        → objects ≤ greatest_objects → size ≤ greatest_frame
    sum size words count objects most is counted parameters low = omega (arith, most, is, counted, parameters, low, few, within)
