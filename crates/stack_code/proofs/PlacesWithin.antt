-- Places of points lie in the code of their function.
use Rattle.std.proofs.Common.{◌≡◌, ℕ, suc, ◌+◌, ◌<◌, ◌≤◌, ◌==◌, Bool, true, false, List, [], ◌∷◌, ◌++◌, length, get_or, Some, refl, ap, eqb-true, arith, length-append}
use Rattle.std.specs.Prelude.{slice_get, if◌then◌else◌}
use Rattle.std.proofs.lemmas.Option.{slice_get-get_or, slice_get_within}
use Rattle.c_num.specs.declared.IntType.{IntType}
use Rattle.tac_ir.specs.Code.{Tree}
use Rattle.pool_isa.specs.declared.instr.Instr.{Instr}
use Rattle.pool_isa.specs.declared.instr.Instr.TheVariants as instrs
use Rattle.pool_ir.specs.Code.{Slot, IntegerSlot, AddressSlot, IndexSlot, Op, Function}
use Rattle.pool_ir.specs.Code as O
use Rattle.stack_code.specs.Emitting.{edge_code, actions_code, way_on, way_or_on, way_at_zero, loading, storing, preparing, keeping, finishing, block, place_of, function_code}
use Rattle.stack_code.proofs.Turns.{StandsIn}
use Rattle.stack_code.proofs.BlockPlaces.{block_stands, place_behind}

-- ---- no block is empty

module _ (place : ℕ → ℕ) (function : Function) where
  zero_some : (from to front : ℕ) (actions : List Instr) → 0 < length (way_at_zero place from to front actions)
  zero_some from to front [] = omega arith
  zero_some from to front (first ∷ others) = omega arith

  storing_some : (slot : Slot) (rest : List Instr) → 0 < length (storing function slot ++ rest)
  storing_some (IntegerSlot int_type) rest = omega arith
  storing_some AddressSlot rest = omega arith
  storing_some (IndexSlot descriptor) rest = omega arith

  finishing_some : (from : ℕ) (op : Op) → 0 < length (finishing place function from op)
  finishing_some from O.Reserved = omega arith
  finishing_some from (O.Jump to) = omega (arith, length-append (edge_code function from to) (instrs.Jump (place to) ∷ []))
  finishing_some from (O.Branch int_type condition holds fails) =
      let front = length (preparing function (O.Branch int_type condition holds fails)) in
      let zero_way = way_at_zero place from fails front (edge_code function from fails) in
      omega (arith, length-append zero_way (way_or_on place function from holds), zero_some from fails front (edge_code function from fails))
  finishing_some from (O.Assign to tree) = omega arith
  finishing_some from (O.Null to) = omega arith
  finishing_some from (O.FunctionAddress to named) = omega arith
  finishing_some from (O.Copy to register) = omega arith
  finishing_some from (O.Test to pointer) = omega arith
  finishing_some from (O.Move to pointer size is_minus amount) = omega arith
  finishing_some from (O.Difference to size left right) = omega arith
  finishing_some from (O.ComparePointers to relation left right) = omega arith
  finishing_some from (O.AddressOf to path) = omega arith
  finishing_some from (O.Load to slot path) = omega (arith, length-append (loading function slot) (keeping function from))
  finishing_some from (O.Store path slot value) = storing_some slot (way_on function from)
  finishing_some from (O.Allocate site size pool) = omega arith
  finishing_some from (O.Free site pointer pool) = omega arith
  finishing_some from (O.Call site callee arguments pools) = omega arith
  finishing_some from (O.GetChar site) = omega arith
  finishing_some from (O.PutChar site value) = omega arith
  finishing_some from (O.Exit status) = omega arith
  finishing_some from (O.Return value) = omega (arith, length-append (actions_code function function.leaving) (instrs.ReturnValue ∷ []))

  block_some : (number : ℕ) (op : Op) → 0 < length (block place function number op)
  block_some number op = omega (arith, length-append (preparing function op) (finishing place function number op), finishing_some number op)

-- ---- what stands in the code ends there

stands_within : (code own : List Instr) (place : ℕ) → 0 < length own → StandsIn code place own → place + length own ≤ length code
stands_within code [] place some stands = absurd (omega (arith, some))
stands_within code (instr ∷ []) place some stands = omega (arith, slice_get_within code place instr stands.0)
stands_within code (instr ∷ next ∷ own) place some stands = omega (arith, stands_within code (next ∷ own) (place + 1) (omega arith) stands.1)

module _ (function : Function) where
  pub block_within : (number : ℕ) (op : Op) → slice_get function.points number ≡ Some op
      → place_of function number + length (block (place_of function) function number op) ≤ length (function_code function)
  block_within number op is =
      let own = block (place_of function) function number op in
      stands_within (function_code function) own (place_of function number) (block_some (place_of function) function number op) (block_stands function number op is)

  pub place_within : (number : ℕ) → number < length function.points → place_of function number < length (function_code function)
  place_within number low =
      let op = get_or function.points number O.Reserved in
      omega (arith, block_within number op (slice_get-get_or function.points number O.Reserved low), block_some (place_of function) function number op)

  -- ---- behind the actions that are done where a condition fails

  long_zero : (from to front : ℕ) (actions : List Instr) → 0 < length actions → length (way_at_zero (place_of function) from to front actions) ≡ length actions + 2
  long_zero from to front [] some = absurd (omega (arith, some))
  long_zero from to front (first ∷ others) some = omega (arith, length-append others (instrs.Jump (place_of function to) ∷ []))

  some_or_on : (from to : ℕ) → (to == suc from) ≡ false → 0 < length (way_or_on (place_of function) function from to)
  some_or_on from to apart =
      let actions = edge_code function from to in
      let jump = instrs.Jump (place_of function to) ∷ [] in
      let is : length (way_or_on (place_of function) function from to) ≡ length (actions ++ jump) = ap (λ behind. length (actions ++ (if behind then [] else jump))) apart in
      omega (arith, is, length-append actions jump)

  pub over_within : (from : ℕ) (int_type : IntType) (condition : Tree) (holds fails : ℕ) → slice_get function.points from ≡ Some (O.Branch int_type condition holds fails) → holds < length function.points
      → 0 < length (edge_code function from fails)
      → place_of function from + (length (preparing function (O.Branch int_type condition holds fails)) + (length (edge_code function from fails) + 2)) < length (function_code function)
  over_within from int_type condition holds fails is there some = by (holds == suc from) refl
    where
      by : (behind : Bool) → (holds == suc from) ≡ behind
          → place_of function from + (length (preparing function (O.Branch int_type condition holds fails)) + (length (edge_code function from fails) + 2)) < length (function_code function)
      by true e =
          let front = preparing function (O.Branch int_type condition holds fails) in
          let zero_way = way_at_zero (place_of function) from fails (length front) (edge_code function from fails) in
          let other_way = way_or_on (place_of function) function from holds in
          let next : suc from < length function.points = omega (arith, eqb-true holds (suc from) e, there) in
          omega (
            arith,
            length-append front (zero_way ++ other_way),
            length-append zero_way other_way,
            long_zero from fails (length front) (edge_code function from fails) some,
            place_behind function from (O.Branch int_type condition holds fails) is,
            place_within (suc from) next,
          )
      by false e =
          let front = preparing function (O.Branch int_type condition holds fails) in
          let zero_way = way_at_zero (place_of function) from fails (length front) (edge_code function from fails) in
          let other_way = way_or_on (place_of function) function from holds in
          omega (
            arith,
            length-append front (zero_way ++ other_way),
            length-append zero_way other_way,
            long_zero from fails (length front) (edge_code function from fails) some,
            block_within from (O.Branch int_type condition holds fails) is,
            some_or_on from holds e,
          )
