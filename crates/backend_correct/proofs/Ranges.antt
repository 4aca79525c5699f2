-- Lowered code of an accepted program keeps to the ranges that code with pools needs.
use Rattle.std.proofs.Common.{◌≡◌, ℕ, suc, ◌+◌, ◌*◌, ◌^◌, ◌<◌, ◌≤◌, true, ◌&&◌, List, [], ◌∷◌, length, map, Option, Some, None, refl, sym, ap, subst, arith}
use Rattle.std.specs.Prelude.{zero, slice_get, unwrap_or}
use Rattle.std.proofs.lemmas.Bool.{and_parts}
use Rattle.std.proofs.lemmas.Option.{same_Some}
use Rattle.c_typed.specs.Types.{literal_type}
use Rattle.c_typed.specs.Layouts.{StructDef, Layout, aligned, layouts, layout_of}
use Rattle.c_typed.specs.Typed.{GlobalDef, LiteralDef, Program}
use Rattle.c_typed.specs.Programs.{IsWellTyped, are_structs, all_complete, all_listed, are_globals, are_functions, has_main}
use Rattle.c_typed.specs.TypedNodes.{program_nodes, greatest_nodes}
use Rattle.c_rules.specs.Named.{NamedType}
use Rattle.c_types.specs.Limits.{rounded, globals_size, literals_size, exceeded}
use Rattle.tac_ir.specs.Code.{Function, Tac}
use Rattle.tac_ir.specs.States.{Owner, InStart, InFunction, function_of}
use Rattle.tac_build.specs.ProgramCode.{start_counts, Code}
use Rattle.pool_isa.specs.Machine.{globals_start}
use Rattle.pool_rewrite.specs.Plan.{FunctionPlan, Plan, one_pool_function, one_pool_start, one_pool}
use Rattle.pool_rewrite.specs.Placing.{static_layouts, statics_size, frame_of}
use Rattle.pool_simulation.specs.InStep.{plan_for, frame_for, greatest_frame, Fits}
use Rattle.backend_correct.specs.Descriptors.{greatest_descriptors, FewDescriptors}
use Rattle.backend_correct.proofs.Aligned.{layout_aligns, whole_size, AreAligned, end_within, both_aligned, both_whole}
use Rattle.backend_correct.proofs.Limited.{greatest_objects, greatest_statics, static_sum, IsLimited, is_limited}
use Rattle.backend_correct.proofs.Named.{named}
use Rattle.backend_correct.proofs.LoweredRanges.Statements.{objects_size}
use Rattle.backend_correct.proofs.LoweredRanges.Functions.{IsSmall, functions_small, functions_alike, frame_small}

-- ---- static objects

abbrev global_layout : List StructDef → GlobalDef → Layout
global_layout structs global = layout_of structs global.c_type

abbrev literal_layout : List StructDef → LiteralDef → Layout
literal_layout structs literal = layout_of structs (literal_type literal.bytes)

globals_aligned : (structs : List StructDef) (globals : List GlobalDef) → AreAligned (map (global_layout structs) globals)
globals_aligned structs [] = tt
globals_aligned structs (first ∷ others) = (layout_aligns structs first.c_type, globals_aligned structs others)

literals_aligned : (structs : List StructDef) (literals : List LiteralDef) → AreAligned (map (literal_layout structs) literals)
literals_aligned structs [] = tt
literals_aligned structs (first ∷ others) = (layout_aligns structs (literal_type first.bytes), literals_aligned structs others)

globals_whole : (structs : List StructDef) (globals : List GlobalDef) → globals_size (layouts structs) globals ≤ greatest_statics
    → whole_size (map (global_layout structs) globals) ≤ globals_size (layouts structs) globals
globals_whole structs [] h = omega arith
globals_whole structs (first ∷ others) h =
    let exact = static_sum (rounded (layouts structs) first.c_type) (globals_size (layouts structs) others) h in
    let sum = exact.sum in
    let rest = globals_whole structs others exact.second in
    omega (arith, sum, rest)

literals_whole : (structs : List StructDef) (literals : List LiteralDef) → literals_size literals ≤ greatest_statics → whole_size (map (literal_layout structs) literals) ≤ literals_size literals
literals_whole structs [] h = omega arith
literals_whole structs (first ∷ others) h =
    let exact = static_sum (aligned 8 (suc (length first.bytes))) (literals_size others) h in
    let sum = exact.sum in
    let rest = literals_whole structs others exact.second in
    omega (arith, sum, rest)

-- ---- programs

one_named : named start_counts ≡ 1
unfolding named
one_named = refl

module _ (program : Program) (tac : Tac) (coded : Code program tac) (limited : IsLimited program) where
  statics_small : statics_size tac ≤ greatest_statics
  statics_small =
      let globals = map (global_layout tac.structs) tac.globals in
      let literals = map (literal_layout tac.structs) tac.literals in
      let ends = end_within (static_layouts tac) 0 0 (both_aligned globals literals (globals_aligned tac.structs tac.globals) (literals_aligned tac.structs tac.literals)) (omega arith) in
      let whole = both_whole globals literals in
      let same_globals : whole_size globals ≡ whole_size (map (global_layout program.structs) program.globals) = λ i. whole_size (map (global_layout (coded.structs i)) (coded.globals i)) in
      let same_literals : whole_size literals ≡ whole_size (map (literal_layout program.structs) program.literals) = λ i. whole_size (map (literal_layout (coded.structs i)) (coded.literals i)) in
      let exact = static_sum (globals_size (layouts program.structs) program.globals) (literals_size program.literals) limited.statics in
      let first = globals_whole program.structs program.globals exact.first in
      let second = literals_whole program.structs program.literals exact.second in
      all (statics_size tac) (whole_size (static_layouts tac)) (whole_size globals) (whole_size literals) ends whole
      (subst (λ n. n ≤ globals_size (layouts program.structs) program.globals) (sym same_globals) first)
      (subst (λ n. n ≤ literals_size program.literals) (sym same_literals) second)
    where
      all : (size whole globals literals : ℕ) → size ≤ 8 * 0 + whole → whole ≡ globals + literals → globals ≤ globals_size (layouts program.structs) program.globals → literals ≤ literals_size program.literals
          → size ≤ greatest_statics
      all size whole globals literals most is first second =
          let exact = static_sum (globals_size (layouts program.structs) program.globals) (literals_size program.literals) limited.statics in
          let sum = exact.sum in
          let low = limited.statics in
          omega (arith, most, is, first, second, sum, low)

  module _ (well : IsWellTyped program) (few : program_nodes program ≤ greatest_nodes) where
    typed_functions : are_functions program program.functions ≡ true
    typed_functions =
        let front = are_structs program.structs && all_complete program.structs program.completed && all_listed program.completed program.structs && are_globals program program.globals in
        let whole = and_parts (front && are_functions program program.functions) (has_main program) well in
        (and_parts front (are_functions program program.functions) whole.0).1

    -- what calls `main` has one register
    start_small : IsSmall tac.structs 1 tac.start
    start_small =
        let counts = ap named coded.counts in
        let parameters = coded.parameters in
        record {
          count = omega (arith, counts, one_named);
          parameters = omega (arith, parameters);
          objects = subst (λ objects. objects_size tac.structs objects ≤ greatest_objects) (sym coded.objects) (omega arith);
        }

    owner_frame : (plan : FunctionPlan) → plan.descriptors ≤ greatest_descriptors → (owner : Owner) (function : Function) → function_of tac owner ≡ Some function
        → (frame_of tac.structs plan function).size ≤ greatest_frame
    owner_frame plan within InStart function is =
        subst (λ found. (frame_of tac.structs plan found).size ≤ greatest_frame) (same_Some tac.start function is) (frame_small tac.structs plan 1 tac.start start_small (omega arith) within)
    owner_frame plan within (InFunction number) function is =
        let small = functions_small program program.functions tac.functions number function coded.functions typed_functions limited.frames_are is in
        frame_small tac.structs plan (program_nodes program) function (subst (λ structs. IsSmall structs (program_nodes program) function) (sym coded.structs) small) few within

    plan_frame : (plan : Plan) → FewDescriptors plan → (owner : Owner) → (frame_for tac plan owner).size ≤ greatest_frame
    plan_frame plan within owner = by (function_of tac owner) refl
      where
        by : (found : Option Function) → function_of tac owner ≡ found → (frame_for tac plan owner).size ≤ greatest_frame
        by None is = rw is (owner_frame (plan_for plan owner) (within owner) InStart tac.start refl)
        by (Some function) is = rw is (owner_frame (plan_for plan owner) (within owner) owner function is)

-- Each frame is in its range, whatever plan with few descriptors serves. Registers are told from the nodes of the typed tree, parameters
-- (each is a scalar) and objects from the limit on frames.
pub frames_fit : (program : Program) (tac : Tac) (named_types : List NamedType) → Code program tac → IsWellTyped program → exceeded program named_types ≡ None → program_nodes program ≤ greatest_nodes
    → (plan : FunctionPlan) → plan.descriptors ≤ greatest_descriptors → (owner : Owner) (function : Function) → function_of tac owner ≡ Some function
    → (frame_of tac.structs plan function).size ≤ greatest_frame
frames_fit program tac named_types coded well none few plan within owner function is = owner_frame program tac coded (is_limited program named_types none) well few plan within owner function is

-- Static objects end in their range, and functions are few.
pub statics_fit : (program : Program) (tac : Tac) (named_types : List NamedType) → Code program tac → exceeded program named_types ≡ None → globals_start + statics_size tac ≤ 2 ^ 40
statics_fit program tac named_types coded none = let most = statics_small program tac coded (is_limited program named_types none) in omega (arith, most)

pub functions_fit : (program : Program) (tac : Tac) (named_types : List NamedType) → Code program tac → exceeded program named_types ≡ None → length tac.functions < 2 ^ 47
functions_fit program tac named_types coded none =
    let alike = functions_alike program program.functions tac.functions coded.functions in
    let most = (is_limited program named_types none).functions in
    omega (arith, alike, most)

-- So the code of an accepted program fits, with any such plan.
pub ranges : (program : Program) (tac : Tac) (named_types : List NamedType) → Code program tac → IsWellTyped program → exceeded program named_types ≡ None → program_nodes program ≤ greatest_nodes
    → (plan : Plan) → FewDescriptors plan → Fits tac plan
ranges program tac named_types coded well none few plan within = record {
  frames = plan_frame program tac coded (is_limited program named_types none) well few plan within;
  statics = statics_fit program tac named_types coded none;
  functions = functions_fit program tac named_types coded none;
}

-- that of one pool is one
pub one_pool_few : (tac : Tac) → FewDescriptors (one_pool tac)
one_pool_few tac InStart = omega arith
one_pool_few tac (InFunction number) = by tac.functions number
  where
    by : (functions : List Function) (number : ℕ) → (unwrap_or (slice_get (map one_pool_function functions) number) one_pool_start).descriptors ≤ greatest_descriptors
    by [] number = omega arith
    by (first ∷ others) zero = omega arith
    by (first ∷ others) (suc number) = by others number
