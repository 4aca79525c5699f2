-- A function for which nothing is done with pools on edges and at returns has no more instructions than its points weigh.
use Rattle.std.proofs.Common.{◌≡◌, ℕ, suc, ◌+◌, ◌*◌, ◌==◌, ◌≤◌, Bool, true, false, List, [], ◌∷◌, ◌++◌, length, map, Option, Some, None, arith}
use Rattle.std.specs.Prelude.{if◌then◌else◌}
use Rattle.std.proofs.lemmas.List.{length-append}
use Rattle.c_num.specs.declared.IntType.TheVariants as types
use Rattle.c_num.specs.declared.BinOp.TheVariants as operators
use Rattle.c_num.specs.declared.Relation.TheVariants as relations
use Rattle.c_typed.specs.Types.{CType, Void, Integer, Pointer, Array, Struct, Function}
use Rattle.pool_isa.specs.declared.instr.Instr.{Instr}
use Rattle.pool_isa.specs.declared.instr.Instr.TheVariants as instrs
use Rattle.tac_ir.specs.declared.register.Register.{Register}
use Rattle.tac_ir.specs.Code.{Tree, Constant, Held, Convert, Complement, Not, Arithmetic, Compare, Operand, IntegerOperand, PointerOperand, LocalObject, Tac}
use Rattle.tac_ir.specs.Code as T
use Rattle.tac_ir.specs.Layouts.{size_of}
use Rattle.pool_ir.specs.Code.{Action, FrameLayout}
use Rattle.pool_ir.specs.Code as O
use Rattle.pool_rewrite.specs.Plan.{FunctionPlan}
use Rattle.pool_rewrite.specs.Rewriting.{slot_of, element_type, base_of, step_of, steps_of, path_of, callee_of, op_of}
use Rattle.stack_code.specs.Emitting.{tree_code, operand_code, scaled, base_code, step_code, steps_code, path_code, loading, storing, way_or_on, registers_code, descriptors_code, callee_code, passing, preparing, finishing, block, blocks}
use Rattle.backend_correct.specs.Weights.{tree_weight, operand_weight, base_weight, steps_weight, path_weight, value_weight, parts_weight, op_weight, weight_before}

module _ (signature taken : ℕ) (frame : FrameLayout) (entering : List Action) (points : List O.Op) where
  -- the function
  abbrev pub made : O.Function
  made = record { signature = signature; taken = taken; frame = frame; entering = entering; edges = []; leaving = []; points = points }

  -- ---- trees

  tree_length : (tree : Tree) → length (tree_code made tree) ≡ tree_weight tree
  tree_length (Constant z) = omega arith
  tree_length (Held register) = omega arith
  tree_length (Convert int_type operand) =
      let more = length-append (tree_code made operand) (instrs.Convert int_type ∷ []) in
      let one = tree_length operand in
      omega (arith, more, one)
  tree_length (Complement int_type operand) =
      let more = length-append (tree_code made operand) (instrs.Complement int_type ∷ []) in
      let one = tree_length operand in
      omega (arith, more, one)
  tree_length (Not int_type operand) =
      let more = length-append (tree_code made operand) (instrs.Constant 0 ∷ instrs.Compare relations.Eq int_type ∷ []) in
      let one = tree_length operand in
      omega (arith, more, one)
  tree_length (Arithmetic operator int_type left right) =
      let front = length-append (tree_code made left ++ tree_code made right) (instrs.Binary operator int_type ∷ []) in
      let more = length-append (tree_code made left) (tree_code made right) in
      let one = tree_length left in
      let other = tree_length right in
      omega (arith, front, more, one, other)
  tree_length (Compare relation int_type left right) =
      let front = length-append (tree_code made left ++ tree_code made right) (instrs.Compare relation int_type ∷ []) in
      let more = length-append (tree_code made left) (tree_code made right) in
      let one = tree_length left in
      let other = tree_length right in
      omega (arith, front, more, one, other)

  operand_length : (operand : Operand) → length (operand_code made operand) ≡ operand_weight operand
  operand_length (IntegerOperand tree) = tree_length tree
  operand_length (PointerOperand register) = omega arith

  scaled_length : (size : ℕ) (number : Tree) → length (scaled made size number) ≡ tree_weight number + 2
  scaled_length size number =
      let more = length-append (tree_code made number) (instrs.Constant size ∷ instrs.Binary operators.Mul types.ULong ∷ []) in
      let one = tree_length number in
      omega (arith, more, one)

  added_length : (size : ℕ) (number : Tree) (last : Instr) → length (scaled made size number ++ last ∷ []) ≡ tree_weight number + 3
  added_length size number last =
      let more = length-append (scaled made size number) (last ∷ []) in
      let one = scaled_length size number in
      omega (arith, more, one)

  -- ---- registers and pools

  registers_length : (registers : List Register) → length (registers_code made registers) ≡ 2 * length registers
  registers_length [] = omega arith
  registers_length (first ∷ others) = let rest = registers_length others in omega (arith, rest)

  descriptors_length : (pools : List ℕ) → length (descriptors_code made pools) ≡ 2 * length pools
  descriptors_length [] = omega arith
  descriptors_length (first ∷ others) = let rest = descriptors_length others in omega (arith, rest)

  callee_length : (callee : O.Callee) → length (callee_code made callee) ≤ 2
  callee_length (O.Known number) = omega arith
  callee_length (O.Through pointer signature) = omega arith

  passing_length : (site : ℕ) (callee : O.Callee) (arguments : List Register) (pools : List ℕ) → length (passing made site callee arguments pools) ≤ 2 * length pools + 2 * length arguments + 3
  passing_length site callee arguments pools =
      let front = length-append (descriptors_code made pools ++ registers_code made arguments) (callee_code made callee) in
      let more = length-append (descriptors_code made pools) (registers_code made arguments) in
      let one = descriptors_length pools in
      let other = registers_length arguments in
      let last = callee_length callee in
      omega (arith, front, more, one, other, last)

  -- ---- slots

  loading_length : (own : CType) → length (loading made (slot_of own)) ≡ 1
  loading_length (Integer int_type) = omega arith
  loading_length Void = omega arith
  loading_length (Pointer target) = omega arith
  loading_length (Array element count) = omega arith
  loading_length (Struct tag) = omega arith
  loading_length (Function result parameters) = omega arith

  storing_length : (own : CType) → length (storing made (slot_of own)) ≡ 1
  storing_length (Integer int_type) = omega arith
  storing_length Void = omega arith
  storing_length (Pointer target) = omega arith
  storing_length (Array element count) = omega arith
  storing_length (Struct tag) = omega arith
  storing_length (Function result parameters) = omega arith

  module _ (tac : Tac) (plan : FunctionPlan) (own : List LocalObject) (layout : FrameLayout) where
    -- ---- paths

    base_length : (base : T.Base) → length (base_code made (base_of tac own layout base).part) ≡ base_weight base
    base_length (T.AtLocal local) = omega arith
    base_length (T.AtGlobal number) = omega arith
    base_length (T.AtLiteral number) = omega arith
    base_length (T.Pointed pointer target) = omega arith
    base_length (T.Indexed pointer target number) = let more = added_length (size_of tac.structs target) number (instrs.Binary operators.Add types.ULong) in omega (arith, more)

    steps_length : (c_type : CType) (steps : List T.Step) → length (steps_code made (steps_of tac.structs c_type steps)) ≡ steps_weight steps
    steps_length c_type [] = omega arith
    steps_length c_type (T.Member number ∷ others) =
        let rest = steps_length (step_of tac.structs c_type (T.Member number)).c_type others in
        omega (arith, rest)
    steps_length c_type (T.Element index ∷ others) =
        let step = step_of tac.structs c_type (T.Element index) in
        let rest = steps_length step.c_type others in
        let more = length-append (step_code made step.part) (steps_code made (steps_of tac.structs step.c_type others)) in
        let one = added_length (size_of tac.structs (element_type c_type)) index (instrs.Binary operators.Add types.ULong) in
        omega (arith, rest, more, one)

    path_length : (path : T.Path) → length (path_code made (path_of tac own layout path)) ≡ path_weight path
    path_length path =
        let base = base_of tac own layout path.base in
        let more = length-append (base_code made base.part) (steps_code made (steps_of tac.structs base.c_type path.steps)) in
        let one = base_length path.base in
        let other = steps_length base.c_type path.steps in
        omega (arith, more, one, other)

    -- ---- points, of which each passes one pool

    module _ (one : (site : ℕ) → length (plan.passes site) ≡ 1) where
      abbrev rewritten : T.Op → O.Op
      rewritten op = op_of tac plan own layout op

      value_length : (value : Option Operand) → length (preparing made (O.Return value)) ≡ value_weight value
      value_length None = omega arith
      value_length (Some value) = operand_length value

      preparing_length : (op : T.Op) → length (preparing made (rewritten op)) ≤ parts_weight op + 8
      preparing_length T.Reserved = omega arith
      preparing_length (T.Jump to) = omega arith
      preparing_length (T.Branch int_type condition holds fails) =
          let more = length-append (tree_code made condition) (instrs.Convert int_type ∷ []) in
          let first = tree_length condition in
          omega (arith, more, first)
      preparing_length (T.Assign to tree) = let first = tree_length tree in omega (arith, first)
      preparing_length (T.Null to) = omega arith
      preparing_length (T.FunctionAddress to number) = omega arith
      preparing_length (T.Copy to from) = omega arith
      preparing_length (T.Test to pointer) = omega arith
      preparing_length (T.Move to pointer element is_minus number) =
          let first = added_length (size_of tac.structs element) number (instrs.Binary (if is_minus then operators.Sub else operators.Add) types.ULong) in
          omega (arith, first)
      preparing_length (T.Difference to element left right) = omega arith
      preparing_length (T.ComparePointers to relation left right) = omega arith
      preparing_length (T.Repoint to target from) = omega arith
      preparing_length (T.AddressOf to path) = let first = path_length path in omega (arith, first)
      preparing_length (T.Load to scalar path) = let first = path_length path in omega (arith, first)
      preparing_length (T.Store path scalar value) =
          let more = length-append (path_code made (path_of tac own layout path)) (operand_code made value) in
          let first = path_length path in
          let second = operand_length value in
          omega (arith, more, first, second)
      preparing_length (T.Allocate site size) = let first = tree_length size in omega (arith, first)
      preparing_length (T.Free site pointer) = omega arith
      preparing_length (T.Call site callee arguments) =
          let first = passing_length site (callee_of tac callee) arguments (plan.passes site) in
          let pool = one site in
          omega (arith, first, pool)
      preparing_length (T.GetChar site) = omega arith
      preparing_length (T.PutChar site value) = let first = tree_length value in omega (arith, first)
      preparing_length (T.Exit status) = let first = tree_length status in omega (arith, first)
      preparing_length (T.Return value) = let first = value_length value in omega (arith, first)

      on_length : (place : ℕ → ℕ) (from to : ℕ) → length (way_or_on place made from to) ≤ 1
      on_length place from to = by (to == suc from)
        where
          by : (b : Bool) → length (if b then [] else instrs.Jump (place to) ∷ []) ≤ 1
          by true = omega arith
          by false = omega arith

      finishing_length : (place : ℕ → ℕ) (number : ℕ) (op : T.Op) → length (finishing place made number (rewritten op)) ≤ 2
      finishing_length place number T.Reserved = omega arith
      finishing_length place number (T.Jump to) = omega arith
      finishing_length place number (T.Branch int_type condition holds fails) = let first = on_length place number holds in omega (arith, first)
      finishing_length place number (T.Assign to tree) = omega arith
      finishing_length place number (T.Null to) = omega arith
      finishing_length place number (T.FunctionAddress to function) = omega arith
      finishing_length place number (T.Copy to from) = omega arith
      finishing_length place number (T.Test to pointer) = omega arith
      finishing_length place number (T.Move to pointer element is_minus count) = omega arith
      finishing_length place number (T.Difference to element left right) = omega arith
      finishing_length place number (T.ComparePointers to relation left right) = omega arith
      finishing_length place number (T.Repoint to target from) = omega arith
      finishing_length place number (T.AddressOf to path) = omega arith
      finishing_length place number (T.Load to scalar path) =
          let more = length-append (loading made (slot_of scalar)) (finishing place made number (O.Null to)) in
          let first = loading_length scalar in
          omega (arith, more, first)
      finishing_length place number (T.Store path scalar value) =
          let more = length-append (storing made (slot_of scalar)) [] in
          let first = storing_length scalar in
          omega (arith, more, first)
      finishing_length place number (T.Allocate site size) = omega arith
      finishing_length place number (T.Free site pointer) = omega arith
      finishing_length place number (T.Call site callee arguments) = omega arith
      finishing_length place number (T.GetChar site) = omega arith
      finishing_length place number (T.PutChar site value) = omega arith
      finishing_length place number (T.Exit status) = omega arith
      finishing_length place number (T.Return value) = omega arith

      block_length : (place : ℕ → ℕ) (number : ℕ) (op : T.Op) → length (block place made number (rewritten op)) ≤ op_weight op
      block_length place number op =
          let more = length-append (preparing made (rewritten op)) (finishing place made number (rewritten op)) in
          let first = preparing_length op in
          let second = finishing_length place number op in
          omega (arith, more, first, second)

      pub blocks_length : (place : ℕ → ℕ) (ops : List T.Op) (number : ℕ) → length (blocks place made number (map (op_of tac plan own layout) ops)) ≤ weight_before ops (length ops)
      unfolding weight_before
      blocks_length place [] number = omega arith
      blocks_length place (op ∷ ops) number =
          let more = length-append (block place made number (rewritten op)) (blocks place made (suc number) (map (op_of tac plan own layout) ops)) in
          let first = block_length place number op in
          let rest = blocks_length place ops (suc number) in
          omega (arith, more, first, rest)
