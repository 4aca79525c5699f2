-- Control falls through no function's last instruction.
use Rattle.std.proofs.Common.{◌≡◌, ℕ, suc, ◌+◌, ◌<◌, ◌==◌, Bool, true, false, IsTrue, List, [], ◌∷◌, ◌++◌, length, Some, refl, sym, subst, eqb-true, arith}
use Rattle.std.specs.Prelude.{slice_get, if◌then◌else◌}
use Rattle.std.proofs.lemmas.List.{append-nil}
use Rattle.pool_isa.specs.declared.instr.Instr.{Instr}
use Rattle.pool_isa.specs.declared.instr.Instr.TheVariants as instrs
use Rattle.pool_isa.specs.Ranges.{is_last, LastIs}
use Rattle.pool_ir.specs.Code.{Op, Function}
use Rattle.pool_ir.specs.Code as O
use Rattle.stack_code.specs.Emitting.{edge_code, actions_code, way_or_on, way_at_zero, preparing, finishing, block, blocks, opening, place_of, function_code}
use Rattle.stack_code.specs.FitsImage.{OpInRange}

abbrev pub EndsLast : List Instr → Type 0
EndsLast code = LastIs (λ instr. IsTrue (is_last instr)) code

last_more : (x : Instr) (ys : List Instr) → EndsLast ys → EndsLast (x ∷ ys)
last_more x [] last = absurd last
last_more x (y ∷ ys) last = last

last_behind : (xs ys : List Instr) → EndsLast ys → EndsLast (xs ++ ys)
last_behind [] ys last = last
last_behind (x ∷ xs) ys last = last_more x (xs ++ ys) (last_behind xs ys last)

module _ (functions : ℕ) (function : Function) (place : ℕ → ℕ) where
  abbrev points : ℕ
  points = length function.points

  -- the last point goes on at no point behind it
  finishing_last : (from : ℕ) (op : Op) → OpInRange functions points from op → suc from ≡ points → EndsLast (finishing place function from op)
  finishing_last from O.Reserved range last = refl
  finishing_last from (O.Jump to) range last = last_behind (edge_code function from to) (instrs.Jump (place to) ∷ []) refl
  finishing_last from (O.Branch int_type condition holds fails) range last =
      let front = length (preparing function (O.Branch int_type condition holds fails)) in
      last_behind (way_at_zero place from fails front (edge_code function from fails)) (way_or_on place function from holds)
      (last_behind (edge_code function from holds) (if holds == suc from then [] else instrs.Jump (place holds) ∷ []) (by (holds == suc from) refl))
    where
      by : (behind : Bool) → (holds == suc from) ≡ behind → EndsLast (if behind then [] else instrs.Jump (place holds) ∷ [])
      by true e = absurd (omega (arith, eqb-true holds (suc from) e, range.0, last))
      by false e = refl
  finishing_last from (O.Assign to tree) range last = absurd (omega (arith, range, last))
  finishing_last from (O.Null to) range last = absurd (omega (arith, range, last))
  finishing_last from (O.FunctionAddress to other) range last = absurd (omega (arith, range.0, last))
  finishing_last from (O.Copy to register) range last = absurd (omega (arith, range, last))
  finishing_last from (O.Test to pointer) range last = absurd (omega (arith, range, last))
  finishing_last from (O.Move to pointer size is_minus amount) range last = absurd (omega (arith, range.0, last))
  finishing_last from (O.Difference to size left right) range last = absurd (omega (arith, range.0, last))
  finishing_last from (O.ComparePointers to relation left right) range last = absurd (omega (arith, range, last))
  finishing_last from (O.AddressOf to path) range last = absurd (omega (arith, range.0, last))
  finishing_last from (O.Load to slot path) range last = absurd (omega (arith, range.0, last))
  finishing_last from (O.Store path slot value) range last = absurd (omega (arith, range.0, last))
  finishing_last from (O.Allocate site size pool) range last = absurd (omega (arith, range, last))
  finishing_last from (O.Free site pointer pool) range last = absurd (omega (arith, range, last))
  finishing_last from (O.Call site callee arguments pools) range last = absurd (omega (arith, range.0, last))
  finishing_last from (O.GetChar site) range last = absurd (omega (arith, range, last))
  finishing_last from (O.PutChar site value) range last = absurd (omega (arith, range, last))
  finishing_last from (O.Exit status) range last = refl
  finishing_last from (O.Return value) range last = last_behind (actions_code function function.leaving) (instrs.ReturnValue ∷ []) refl

  block_last : (from : ℕ) (op : Op) → OpInRange functions points from op → suc from ≡ points → EndsLast (block place function from op)
  block_last from op range last = last_behind (preparing function op) (finishing place function from op) (finishing_last from op range last)

  pub blocks_last : (number : ℕ) (ops : List Op) → ((k : ℕ) (op : Op) (at : ℕ) → slice_get ops k ≡ Some op → at ≡ number + k → OpInRange functions points at op)
      → number + length ops ≡ points → 0 < length ops → EndsLast (blocks place function number ops)
  blocks_last number [] ranges all some = absurd (omega (arith, some))
  blocks_last number (op ∷ []) ranges all some =
      subst EndsLast (sym (append-nil (block place function number op))) (block_last number op (ranges 0 op number refl (omega arith)) (omega (arith, all)))
  blocks_last number (op ∷ next ∷ ops) ranges all some =
      last_behind (block place function number op) (blocks place function (suc number) (next ∷ ops))
      (blocks_last (suc number) (next ∷ ops) (λ k other at is e. ranges (suc k) other at is (omega (arith, e))) (omega (arith, all)) (omega arith))

pub code_last : (functions : ℕ) (function : Function) → ((number : ℕ) (op : Op) → slice_get function.points number ≡ Some op → OpInRange functions (length function.points) number op) → 0 < length function.points → EndsLast (function_code function)
code_last functions function ranges some =
    last_behind (opening function) (blocks (place_of function) function 0 function.points)
    (blocks_last functions function (place_of function) 0 function.points (λ k op at is e. by k op at is (omega (arith, e))) (omega arith) some)
  where
    by : (k : ℕ) (op : Op) (at : ℕ) → slice_get function.points k ≡ Some op → k ≡ at → OpInRange functions (length function.points) at op
    by k op at is e = subst (λ n. OpInRange functions (length function.points) n op) e (ranges k op is)
