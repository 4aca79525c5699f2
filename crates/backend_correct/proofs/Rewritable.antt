-- The code of an accepted program can be rewritten by any plan with few descriptors.
use Rattle.std.proofs.Common.{◌≡◌, ℕ, suc, ◌≤◌, List, [], ◌∷◌, length, map, slice_get, Some, None, refl, ap, arith}
use Rattle.std.proofs.lemmas.List.{length-map}
use Rattle.c_typed.specs.Table.{Interned, structs_in}
use Rattle.c_typed.specs.Typed.{Program}
use Rattle.c_typed.specs.DefinitionViews.{LiteralsStand}
use Rattle.c_typed.specs.Programs.{IsWellTyped}
use Rattle.c_typed.specs.Sizes.{HasStorableTypes}
use Rattle.c_typed.specs.TypedNodes.{program_nodes, greatest_nodes}
use Rattle.c_rules.specs.Named.{NamedType}
use Rattle.c_types.specs.Limits.{exceeded}
use Rattle.tac_ir.specs.Code.{Function}
use Rattle.tac_ir.specs.States.{InStart, InFunction}
use Rattle.tac_ir.specs.declared.program.Function as memory_function
use Rattle.tac_ir.specs.declared.program.Tac as memory_tac
use Rattle.tac_ir.specs.Views.{function_in, tac_of}
use Rattle.tac_build.specs.ProgramCode.{Code}
use Rattle.pool_rewrite.specs.declared.plan.FunctionPlan as memory_function_plan
use Rattle.pool_rewrite.specs.declared.plan.Plan as memory_plan
use Rattle.pool_rewrite.specs.Plan.{FunctionPlan, Plan, one_pool_function, one_pool}
use Rattle.pool_rewrite.specs.Views.{function_plan_of, plan_of}
use Rattle.pool_rewrite.specs.Placing.{frame_of}
use Rattle.pool_rewrite.specs.Rewritable.{FramesFit}
use Rattle.pool_rewrite.specs.Firsts.{IsRewritable}
use Rattle.pool_simulation.specs.InStep.{greatest_frame}
use Rattle.backend_correct.specs.Descriptors.{greatest_descriptors}
use Rattle.backend_correct.proofs.Ranges.{frames_fit, statics_fit, functions_fit}
use Rattle.backend_correct.proofs.FittingFirsts.{globals_fit}

abbrev pub FewInEach : List memory_function_plan.FunctionPlan → Type 0
FewInEach [] = Unit {0}
FewInEach (plan ∷ plans) = (plan.descriptors ≤ greatest_descriptors) × FewInEach plans

-- what is so of the frame of each function
abbrev EachFrame : Interned → List Function → Type 0
EachFrame table functions = (number : ℕ) (function : Function) → slice_get functions number ≡ Some function → (plan : FunctionPlan) → plan.descriptors ≤ greatest_descriptors
    → (frame_of (structs_in table) plan function).size ≤ greatest_frame

frames_from : (table : Interned) (plans : List memory_function_plan.FunctionPlan) (functions : List memory_function.Function) → FewInEach plans
    → EachFrame table (map (function_in table) functions) → FramesFit table plans functions
frames_from table [] functions few each = tt
frames_from table (plan ∷ plans) [] few each = tt
frames_from table (plan ∷ plans) (function ∷ functions) few each =
    let small = each 0 (function_in table function) refl (function_plan_of plan) few.0 in
    (omega (arith, small), frames_from table plans functions few.1 (λ number other is. each (suc number) other is))

pub rewritable : (program : Program) (tac : memory_tac.Tac) (named_types : List NamedType) (plan : memory_plan.Plan)
    → Code program (tac_of tac) → IsWellTyped program → HasStorableTypes program → exceeded program named_types ≡ None → program_nodes program ≤ greatest_nodes
    → LiteralsStand tac.types tac.literals.items → FewInEach plan.functions.items → plan.start.descriptors ≤ greatest_descriptors → IsRewritable tac plan
rewritable program tac named_types plan coded well storable none nodes literals few start =
    let statics = statics_fit program (tac_of tac) named_types coded none in
    let frame = frames_fit program (tac_of tac) named_types coded well none nodes (function_plan_of plan.start) start InStart (tac_of tac).start refl in
    let functions = functions_fit program (tac_of tac) named_types coded none in
    let alike : length (tac_of tac).functions ≡ length tac.functions.items = length-map tac.functions.items (function_in tac.types) in
    record {
      literals = literals;
      statics = omega (arith, statics);
      frames = frames_from tac.types plan.functions.items tac.functions.items few (λ number function is own less. frames_fit program (tac_of tac) named_types coded well none nodes own less (InFunction number) function is);
      start = omega (arith, frame);
      first = globals_fit program tac coded well storable;
      few = omega (arith, functions, alike);
    }

-- ---- one pool

few_from : (plans : List memory_function_plan.FunctionPlan) (functions : List Function) → map function_plan_of plans ≡ map one_pool_function functions → FewInEach plans
few_from [] functions same = tt
few_from (plan ∷ plans) [] same = absurd (cc)
few_from (plan ∷ plans) (function ∷ functions) same =
    let head : function_plan_of plan ≡ one_pool_function function = cc in
    let rest : map function_plan_of plans ≡ map one_pool_function functions = cc in
    let one : plan.descriptors ≡ 1 = ap (λ (own : FunctionPlan). own.descriptors) head in
    (omega (arith, one), few_from plans functions rest)

-- So can it by the plan of one pool.
pub one_pool_rewritable : (program : Program) (tac : memory_tac.Tac) (named_types : List NamedType) (plan : memory_plan.Plan)
    → Code program (tac_of tac) → IsWellTyped program → HasStorableTypes program → exceeded program named_types ≡ None → program_nodes program ≤ greatest_nodes
    → LiteralsStand tac.types tac.literals.items → plan_of plan ≡ one_pool (tac_of tac) → IsRewritable tac plan
one_pool_rewritable program tac named_types plan coded well storable none nodes literals is =
    let start : plan.start.descriptors ≡ 1 = ap (λ (own : Plan). own.start.descriptors) is in
    rewritable program tac named_types plan coded well storable none nodes literals
    (few_from plan.functions.items (tac_of tac).functions (ap (λ (own : Plan). own.functions) is)) (omega (arith, start))
