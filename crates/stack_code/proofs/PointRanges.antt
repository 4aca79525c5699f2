-- The instructions of points are in their ranges.
use Rattle.std.proofs.Common.{◌≡◌, ℕ, suc, ◌+◌, ◌^◌, ◌<◌, ◌≤◌, ◌==◌, Bool, true, false, List, [], ◌∷◌, ◌++◌, length, Some, refl, subst, arith}
use Rattle.std.specs.Prelude.{slice_get, if◌then◌else◌}
use Rattle.pool_isa.specs.declared.instr.Instr.{Instr}
use Rattle.pool_isa.specs.declared.instr.Instr.TheVariants as instrs
use Rattle.pool_ir.specs.Code.{Op, Function}
use Rattle.pool_ir.specs.Code as O
use Rattle.pool_ir.specs.States.{actions_from}
use Rattle.stack_code.specs.Emitting.{edge_code, actions_code, way, way_on, way_or_on, way_at_zero, loading, storing, calling, preparing, keeping, finishing, block, blocks, opening, place_of, function_code}
use Rattle.stack_code.specs.Fitting.{OpFits}
use Rattle.stack_code.specs.FitsImage.{OpInRange, FunctionFitsImage}
use Rattle.stack_code.proofs.InstructionRanges.{Ranged, both, loading_ranged, storing_ranged, actions_ranged, calling_ranged, preparing_ranged}
use Rattle.stack_code.proofs.PlacesWithin.{place_within, over_within}

module _ (kinds functions : ℕ) (few_kinds : kinds ≤ 1048576) (few_functions : functions ≤ 4096) (function : Function) (fits : FunctionFitsImage kinds functions function) where
  abbrev long : ℕ
  long = length (function_code function)

  abbrev points : ℕ
  points = length function.points

  abbrev place : ℕ → ℕ
  place = place_of function

  abbrev Own : List Instr → Type 0
  Own code = Ranged kinds functions long code

  join : (xs ys : List Instr) → Own xs → Own ys → Own (xs ++ ys)
  join xs ys first second = both kinds functions long xs ys first second

  low : (number : ℕ) → number < long → number < 2 ^ 64
  low number less = omega (arith, less, fits.short)

  -- ---- ways

  edge_ranged : (from to : ℕ) → Own (edge_code function from to)
  edge_ranged from to = actions_ranged kinds functions long few_kinds few_functions function fits.taken fits.words fits.size (actions_from function.edges from to) (fits.edges from to)

  jump_ranged : (to : ℕ) → to < points → Own (instrs.Jump (place to) ∷ [])
  jump_ranged to there =
      let less = place_within function to there in
      ((low (place to) less, less), tt)

  way_ranged : (from to : ℕ) → to < points → Own (way place function from to)
  way_ranged from to there = join (edge_code function from to) (instrs.Jump (place to) ∷ []) (edge_ranged from to) (jump_ranged to there)

  way_or_on_ranged : (from to : ℕ) → to < points → Own (way_or_on place function from to)
  way_or_on_ranged from to there =
      join (edge_code function from to) (if to == suc from then [] else instrs.Jump (place to) ∷ []) (edge_ranged from to) (by (to == suc from))
    where
      by : (behind : Bool) → Own (if behind then [] else instrs.Jump (place to) ∷ [])
      by true = tt
      by false = jump_ranged to there

  zero_ranged : (from to front : ℕ) (actions : List Instr) → to < points → Own actions → (0 < length actions → place from + (front + (length actions + 2)) < long) → Own (way_at_zero place from to front actions)
  zero_ranged from to front [] there each over =
      let less = place_within function to there in
      ((low (place to) less, less), tt)
  zero_ranged from to front (first ∷ others) there each over =
      let less = over (omega arith) in
      ((low (place from + (front + (length (first ∷ others) + 2))) less, less), join (first ∷ others) (instrs.Jump (place to) ∷ []) each (jump_ranged to there))

  -- ---- points

  keeping_ranged : (from : ℕ) → Own (keeping function from)
  keeping_ranged from = ((tt, tt), edge_ranged from (suc from))

  finishing_ranged : (from : ℕ) (op : Op) → slice_get function.points from ≡ Some op → OpFits function.frame op → OpInRange functions points from op → Own (finishing place function from op)
  finishing_ranged from O.Reserved is named range = ((tt, tt), tt)
  finishing_ranged from (O.Jump to) is named range = way_ranged from to range
  finishing_ranged from (O.Branch int_type condition holds fails) is named range =
      let front = length (preparing function (O.Branch int_type condition holds fails)) in
      let actions = edge_code function from fails in
      join (way_at_zero place from fails front actions) (way_or_on place function from holds)
      (zero_ranged from fails front actions range.1 (edge_ranged from fails) (over_within function from int_type condition holds fails is range.0)) (way_or_on_ranged from holds range.0)
  finishing_ranged from (O.Assign to tree) is named range = keeping_ranged from
  finishing_ranged from (O.Null to) is named range = keeping_ranged from
  finishing_ranged from (O.FunctionAddress to other) is named range = keeping_ranged from
  finishing_ranged from (O.Copy to register) is named range = keeping_ranged from
  finishing_ranged from (O.Test to pointer) is named range = keeping_ranged from
  finishing_ranged from (O.Move to pointer size is_minus amount) is named range = keeping_ranged from
  finishing_ranged from (O.Difference to size left right) is named range = keeping_ranged from
  finishing_ranged from (O.ComparePointers to relation left right) is named range = keeping_ranged from
  finishing_ranged from (O.AddressOf to path) is named range = keeping_ranged from
  finishing_ranged from (O.Load to slot path) is named range =
      join (loading function slot) (keeping function from) (loading_ranged kinds functions long few_kinds few_functions function fits.taken fits.words fits.size slot named.1) (keeping_ranged from)
  finishing_ranged from (O.Store path slot value) is named range =
      join (storing function slot) (way_on function from) (storing_ranged kinds functions long few_kinds few_functions function fits.taken fits.words fits.size slot named.1) (edge_ranged from (suc from))
  finishing_ranged from (O.Allocate site size pool) is named range = ((tt, tt), keeping_ranged from)
  finishing_ranged from (O.Free site pointer pool) is named range = ((tt, tt), edge_ranged from (suc from))
  finishing_ranged from (O.Call site callee arguments pools) is named range =
      join (calling callee ∷ []) (keeping function from) (calling_ranged kinds functions long few_kinds few_functions function fits.taken fits.words fits.size callee range.1) (keeping_ranged from)
  finishing_ranged from (O.GetChar site) is named range = ((tt, tt), keeping_ranged from)
  finishing_ranged from (O.PutChar site value) is named range = ((tt, tt), keeping_ranged from)
  finishing_ranged from (O.Exit status) is named range = ((tt, tt), tt)
  finishing_ranged from (O.Return value) is named range =
      join (actions_code function function.leaving) (instrs.ReturnValue ∷ []) (actions_ranged kinds functions long few_kinds few_functions function fits.taken fits.words fits.size function.leaving fits.leaving) ((tt, tt), tt)

  block_ranged : (number : ℕ) (op : Op) → slice_get function.points number ≡ Some op → Own (block place function number op)
  block_ranged number op is =
      let facts = fits.points number op is in
      join (preparing function op) (finishing place function number op)
      (preparing_ranged kinds functions long few_kinds few_functions function fits.taken fits.words fits.size points number op facts.0 facts.1) (finishing_ranged number op is facts.0 facts.1)

  blocks_ranged : (number : ℕ) (ops : List Op) → ((k : ℕ) (op : Op) (at : ℕ) → slice_get ops k ≡ Some op → at ≡ number + k → slice_get function.points at ≡ Some op) → Own (blocks place function number ops)
  blocks_ranged number [] there = tt
  blocks_ranged number (op ∷ ops) there =
      join (block place function number op) (blocks place function (suc number) ops) (block_ranged number op (there 0 op number refl (omega arith)))
      (blocks_ranged (suc number) ops (λ k other at is e. there (suc k) other at is (omega (arith, e))))

  -- ---- the function

  pub code_ranged : Own (function_code function)
  code_ranged =
      join (opening function) (blocks place function 0 function.points)
      (actions_ranged kinds functions long few_kinds few_functions function fits.taken fits.words fits.size function.entering fits.entering)
      (blocks_ranged 0 function.points (λ k op at is e. by k op at is (omega (arith, e))))
    where
      by : (k : ℕ) (op : Op) (at : ℕ) → slice_get function.points k ≡ Some op → k ≡ at → slice_get function.points at ≡ Some op
      by k op at is e = subst (λ n. slice_get function.points n ≡ Some op) e is
