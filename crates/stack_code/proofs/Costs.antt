-- A point is prepared by at least as many instructions as it costs, and not many more.
use Rattle.std.proofs.Common.{◌≡◌, ℕ, ◌+◌, ◌*◌, ◌≤◌, List, [], ◌∷◌, ◌++◌, Some, None, length, arith, length-append}
use Rattle.std.specs.Prelude.{if◌then◌else◌}
use Rattle.pool_isa.specs.declared.instr.Instr.TheVariants as instrs
use Rattle.c_num.specs.declared.IntType.TheVariants as types
use Rattle.c_num.specs.declared.BinOp.TheVariants as operators
use Rattle.c_num.specs.declared.Relation.TheVariants as relations
use Rattle.tac_ir.specs.declared.register.Register.{Register}
use Rattle.tac_ir.specs.Trees.{tree_nodes}
use Rattle.tac_ir.specs.Costs.{operand_cost}
use Rattle.tac_ir.specs.Code.{Tree, Constant, Held, Convert, Complement, Not, Arithmetic, Compare, Operand, IntegerOperand, PointerOperand}
use Rattle.pool_ir.specs.Code.{Base, AtFrame, AtGlobals, Pointed, Indexed, Step, Member, Element, Path, Callee, Known, Through, Op, Function}
use Rattle.pool_ir.specs.Code as O
use Rattle.pool_ir.specs.Meaning.{step_cost, steps_cost, path_cost, more_cost}
use Rattle.stack_code.specs.Emitting.{register_code, tree_code, operand_code, scaled, base_code, step_code, steps_code, path_code, registers_code, descriptors_code, callee_code, preparing}
use Rattle.stack_code.specs.Fitting.{PassesFew}

module _ (function : Function) where
  tree_costs : (tree : Tree) → (tree_nodes tree ≤ length (tree_code function tree)) × (length (tree_code function tree) ≤ 2 * tree_nodes tree)
  tree_costs (Constant z) = (omega arith, omega arith)
  tree_costs (Held register) = (omega arith, omega arith)
  tree_costs (Convert int_type operand) =
      let own = tree_costs operand in
      let long = length-append (tree_code function operand) (instrs.Convert int_type ∷ []) in
      (omega (arith, own.0, long), omega (arith, own.1, long))
  tree_costs (Complement int_type operand) =
      let own = tree_costs operand in
      let long = length-append (tree_code function operand) (instrs.Complement int_type ∷ []) in
      (omega (arith, own.0, long), omega (arith, own.1, long))
  tree_costs (Not int_type operand) =
      let own = tree_costs operand in
      let long = length-append (tree_code function operand) (instrs.Constant 0 ∷ instrs.Compare relations.Eq int_type ∷ []) in
      (omega (arith, own.0, long), omega (arith, own.1, long))
  tree_costs (Arithmetic operator int_type left right) =
      let a = tree_costs left in
      let b = tree_costs right in
      let long = length-append (tree_code function left) (tree_code function right) in
      let all = length-append (tree_code function left ++ tree_code function right) (instrs.Binary operator int_type ∷ []) in
      (omega (arith, a.0, b.0, long, all), omega (arith, a.1, b.1, long, all))
  tree_costs (Compare relation int_type left right) =
      let a = tree_costs left in
      let b = tree_costs right in
      let long = length-append (tree_code function left) (tree_code function right) in
      let all = length-append (tree_code function left ++ tree_code function right) (instrs.Compare relation int_type ∷ []) in
      (omega (arith, a.0, b.0, long, all), omega (arith, a.1, b.1, long, all))

  operand_costs : (operand : Operand) → (operand_cost operand ≤ length (operand_code function operand)) × (length (operand_code function operand) ≤ 2 * operand_cost operand + 2)
  operand_costs (IntegerOperand tree) = let own = tree_costs tree in (own.0, omega (arith, own.1))
  operand_costs (PointerOperand register) = (omega arith, omega arith)

  scaled_long : (size : ℕ) (number : Tree) → length (scaled function size number) ≡ length (tree_code function number) + 2
  scaled_long size number = length-append (tree_code function number) (instrs.Constant size ∷ instrs.Binary operators.Mul types.ULong ∷ [])

  base_costs : (base : Base) (steps : List Step) → (path_cost (record { base = base; steps = steps }) ≤ length (base_code function base) + steps_cost steps)
      × (length (base_code function base) + 3 * steps_cost steps ≤ 3 * path_cost (record { base = base; steps = steps }) + 5)
  base_costs (AtFrame offset) steps = (omega arith, omega arith)
  base_costs (AtGlobals offset) steps = (omega arith, omega arith)
  base_costs (Pointed pointer) steps = (omega arith, omega arith)
  base_costs (Indexed pointer size number) steps =
      let own = tree_costs number in
      let long = scaled_long size number in
      let more = length-append (register_code function pointer) (scaled function size number) in
      let all = length-append (register_code function pointer ++ scaled function size number) (instrs.Binary operators.Add types.ULong ∷ []) in
      (omega (arith, own.0, long, more, all), omega (arith, own.1, long, more, all))

  step_costs : (step : Step) → (step_cost step ≤ length (step_code function step)) × (length (step_code function step) ≤ 3 * step_cost step)
  step_costs (Member offset) = (omega arith, omega arith)
  step_costs (Element size index) =
      let own = tree_costs index in
      let long = scaled_long size index in
      let all = length-append (scaled function size index) (instrs.Binary operators.Add types.ULong ∷ []) in
      (omega (arith, own.0, long, all), omega (arith, own.1, long, all))

  steps_costs : (steps : List Step) → (steps_cost steps ≤ length (steps_code function steps)) × (length (steps_code function steps) ≤ 3 * steps_cost steps)
  steps_costs [] = (omega arith, omega arith)
  steps_costs (first ∷ others) =
      let own = step_costs first in
      let rest = steps_costs others in
      let all = length-append (step_code function first) (steps_code function others) in
      (omega (arith, own.0, rest.0, all), omega (arith, own.1, rest.1, all))

  path_costs : (path : Path) → (path_cost path ≤ length (path_code function path)) × (length (path_code function path) ≤ 3 * path_cost path + 5)
  path_costs path =
      let own = base_costs path.base path.steps in
      let rest = steps_costs path.steps in
      let all = length-append (base_code function path.base) (steps_code function path.steps) in
      (omega (arith, own.0, rest.0, all), omega (arith, own.1, rest.1, all))

  registers_long : (list : List Register) → length (registers_code function list) ≡ 2 * length list
  registers_long [] = omega arith
  registers_long (first ∷ others) = omega (arith, registers_long others)

  descriptors_long : (list : List ℕ) → length (descriptors_code function list) ≡ 2 * length list
  descriptors_long [] = omega arith
  descriptors_long (first ∷ others) = omega (arith, descriptors_long others)

  callee_long : (callee : Callee) → length (callee_code function callee) ≤ 2
  callee_long (Known number) = omega arith
  callee_long (Through pointer signature) = omega arith

  pub point_costs : (most : ℕ) (op : Op) → PassesFew most op → (more_cost op ≤ length (preparing function op)) × (length (preparing function op) ≤ 8 * more_cost op + (8 + 2 * most))
  point_costs most O.Reserved few = (omega arith, omega arith)
  point_costs most (O.Jump to) few = (omega arith, omega arith)
  point_costs most (O.Branch int_type condition holds fails) few =
      let own = tree_costs condition in
      let all = length-append (tree_code function condition) (instrs.Convert int_type ∷ []) in
      (omega (arith, own.0, all), omega (arith, own.1, all))
  point_costs most (O.Assign to tree) few = let own = tree_costs tree in (omega (arith, own.0), omega (arith, own.1))
  point_costs most (O.Null to) few = (omega arith, omega arith)
  point_costs most (O.FunctionAddress to number) few = (omega arith, omega arith)
  point_costs most (O.Copy to from) few = (omega arith, omega arith)
  point_costs most (O.Test to pointer) few = (omega arith, omega arith)
  point_costs most (O.Move to pointer size is_minus number) few =
      let own = tree_costs number in
      let long = scaled_long size number in
      let more = length-append (register_code function pointer) (scaled function size number) in
      let all = length-append (register_code function pointer ++ scaled function size number) (instrs.Binary (if is_minus then operators.Sub else operators.Add) types.ULong ∷ []) in
      (omega (arith, own.0, long, more, all), omega (arith, own.1, long, more, all))
  point_costs most (O.Difference to size left right) few = (omega arith, omega arith)
  point_costs most (O.ComparePointers to relation left right) few = (omega arith, omega arith)
  point_costs most (O.AddressOf to path) few = let own = path_costs path in (omega (arith, own.0), omega (arith, own.1))
  point_costs most (O.Load to slot path) few = let own = path_costs path in (omega (arith, own.0), omega (arith, own.1))
  point_costs most (O.Store path slot value) few =
      let own = path_costs path in
      let more = operand_costs value in
      let all = length-append (path_code function path) (operand_code function value) in
      (omega (arith, own.0, more.0, all), omega (arith, own.1, more.1, all))
  point_costs most (O.Allocate site size pool) few = let own = tree_costs size in (omega (arith, own.0), omega (arith, own.1))
  point_costs most (O.Free site pointer pool) few = (omega arith, omega arith)
  point_costs most (O.Call site callee arguments pools) few =
      let a = descriptors_long pools in
      let b = registers_long arguments in
      let c = callee_long callee in
      let long = length-append (descriptors_code function pools) (registers_code function arguments) in
      let all = length-append (descriptors_code function pools ++ registers_code function arguments) (callee_code function callee) in
      (omega (arith, a, b, long, all), omega (arith, a, b, c, few, long, all))
  point_costs most (O.GetChar site) few = (omega arith, omega arith)
  point_costs most (O.PutChar site value) few = let own = tree_costs value in (omega (arith, own.0), omega (arith, own.1))
  point_costs most (O.Exit status) few = let own = tree_costs status in (omega (arith, own.0), omega (arith, own.1))
  point_costs most (O.Return None) few = (omega arith, omega arith)
  point_costs most (O.Return (Some value)) few = let own = operand_costs value in (omega (arith, own.0), omega (arith, own.1))
