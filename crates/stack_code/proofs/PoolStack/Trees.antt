-- The instructions of a tree push its word, those of a path its address.
use Rattle.std.proofs.Common.{◌≡◌, ℕ, ◌+◌, ◌*◌, ◌^◌, ◌<◌, ◌≤◌, List, [], ◌∷◌, ◌++◌, Some, length, max, subst, arith}
use Rattle.std.specs.Prelude.{slice_get}
use Rattle.std.specs.List.{AllByRecursion}
use Rattle.c_num.specs.declared.IntType.TheVariants as types
use Rattle.c_num.specs.declared.BinOp.TheVariants as operators
use Rattle.c_num.specs.declared.Relation.TheVariants as relations
use Rattle.c_num.specs.Conversion.{word_of}
use Rattle.pool_isa.specs.declared.instr.Instr.{Instr}
use Rattle.pool_isa.specs.declared.instr.Instr.TheVariants as instrs
use Rattle.pool_isa.specs.Machine as M
use Rattle.pool_isa.specs.Machine.{globals_start, binary_word, compared_word, complement_word, converted_word}
use Rattle.tac_ir.specs.declared.register.Register.{Register}
use Rattle.tac_ir.specs.Code.{Tree, Constant, Held, Convert, Complement, Not, Arithmetic, Compare, Operand, IntegerOperand, PointerOperand}
use Rattle.pool_ir.specs.Code.{Base, AtFrame, AtGlobals, Pointed, Indexed, Step, Member, Element, Path, Function}
use Rattle.pool_ir.specs.Frames.{word_of_descriptor, word_of_register}
use Rattle.pool_ir.specs.Words.{word_in, operand_word, moved_by, is_zero_word, truth_word}
use Rattle.pool_ir.specs.States as P
use Rattle.pool_ir.specs.Memory.{base_address, step_address, steps_address, path_address}
use Rattle.stack_code.specs.Emitting.{register_code, descriptor_code, tree_code, operand_code, scaled, base_code, step_code, steps_code, path_code, tree_height, operand_height, scaled_height, base_height, step_height, steps_height, path_height}
use Rattle.stack_code.specs.Standing.{frame_word, HasRegister, HasDescriptor}
use Rattle.stack_code.specs.Fitting.{TreeFits, OperandFits, BaseFits, StepFits, PathFits}
use Rattle.stack_code.proofs.FrameWords.{compared_zero, added_scaled, added_once}
use Rattle.stack_code.proofs.Turns.{Turns, turns_then, turns_none, turns_constant, turns_local, turns_convert, turns_complement, turns_binary, turns_compare, turns_reading}

-- the words of registers and descriptors stand in the frame
pub record WordsStand (function : Function) (own : P.Activation) (top : M.Activation) : Type 0 where
  pub start : top.start ≡ own.start
  pub near : top.start + length top.bytes < 2 ^ 64
  pub inside : (register : Register) → HasRegister function.frame register → 8 * word_of_register function register + 8 ≤ length top.bytes
  pub registers : (register : Register) → HasRegister function.frame register → frame_word top.bytes (word_of_register function register) ≡ own.words register
  pub words : (register : Register) → own.words register < 2 ^ 64
  pub inside_too : (number : ℕ) → HasDescriptor function.frame number → 8 * word_of_descriptor function number + 8 ≤ length top.bytes
  pub descriptors : (number : ℕ) → HasDescriptor function.frame number → frame_word top.bytes (word_of_descriptor function number) ≡ own.descriptors number
  pub pools : (number : ℕ) → own.descriptors number < 2 ^ 64

module _ (program : M.Code) (emitted : M.Function) (top : M.Activation) (callers : List M.Activation) (state : M.State) (there : slice_get program.functions top.function ≡ Some emitted)
    (function : Function) (own : P.Activation) (stand : WordsStand function own top) where
  abbrev pub Pushes : List Instr → List ℕ → List ℕ → Type 0
  Pushes code before after = Turns program emitted top callers state there code before after

  abbrev then : (xs ys : List Instr) (a b c : List ℕ) → Pushes xs a b → Pushes ys b c → Pushes (xs ++ ys) a c
  then xs ys a b c one two = turns_then program emitted top callers state there xs ys a b c one two

  abbrev constant : (word : ℕ) (operands : List ℕ) → length operands < emitted.height → Pushes (instrs.Constant word ∷ []) operands (word ∷ operands)
  constant word operands low = turns_constant program emitted top callers state there word operands low

  pub register_pushes : (register : Register) (operands : List ℕ) → HasRegister function.frame register → length operands < emitted.height
      → Pushes (register_code function register) operands (own.words register ∷ operands)
  register_pushes register operands has low =
      turns_reading program emitted top callers state there (word_of_register function register) (stand.inside register has) (own.words register) operands (stand.registers register has) (stand.words register) low
      stand.near

  pub descriptor_pushes : (number : ℕ) (operands : List ℕ) → HasDescriptor function.frame number → length operands < emitted.height
      → Pushes (descriptor_code function number) operands (own.descriptors number ∷ operands)
  descriptor_pushes number operands has low =
      turns_reading program emitted top callers state there (word_of_descriptor function number) (stand.inside_too number has) (own.descriptors number) operands (stand.descriptors number has) (stand.pools number)
      low stand.near

  -- the address of a register's word
  pub place_pushes : (register : Register) (operands : List ℕ) → HasRegister function.frame register → length operands < emitted.height
      → Pushes (instrs.Local (8 * word_of_register function register) ∷ []) operands ((top.start + 8 * word_of_register function register) ∷ operands)
  place_pushes register operands has low =
      turns_local program emitted top callers state there (8 * word_of_register function register) operands low (omega (arith, stand.near, stand.inside register has))

  -- ---- trees

  pub tree_pushes : (tree : Tree) (operands : List ℕ) → TreeFits function.frame tree → length operands + tree_height tree ≤ emitted.height
      → Pushes (tree_code function tree) operands (word_in own.words tree ∷ operands)
  tree_pushes (Constant z) operands fits low = constant (word_of types.ULong z) operands (omega arith)
  tree_pushes (Held register) operands fits low = register_pushes register operands fits (omega arith)
  tree_pushes (Convert int_type operand) operands fits low =
      then (tree_code function operand) (instrs.Convert int_type ∷ []) operands (word_in own.words operand ∷ operands) (converted_word int_type (word_in own.words operand) ∷ operands)
      (tree_pushes operand operands fits low) (turns_convert program emitted top callers state there int_type (word_in own.words operand) operands)
  tree_pushes (Complement int_type operand) operands fits low =
      then (tree_code function operand) (instrs.Complement int_type ∷ []) operands (word_in own.words operand ∷ operands) (complement_word int_type (word_in own.words operand) ∷ operands)
      (tree_pushes operand operands fits low) (turns_complement program emitted top callers state there int_type (word_in own.words operand) operands)
  tree_pushes (Not int_type operand) operands fits low =
      let word = word_in own.words operand in
      then (tree_code function operand) (instrs.Constant 0 ∷ instrs.Compare relations.Eq int_type ∷ []) operands (word ∷ operands) (truth_word (is_zero_word int_type word) ∷ operands)
      (tree_pushes operand operands fits (omega arith))
      (then (instrs.Constant 0 ∷ []) (instrs.Compare relations.Eq int_type ∷ []) (word ∷ operands) (0 ∷ word ∷ operands) (truth_word (is_zero_word int_type word) ∷ operands)
      (constant 0 (word ∷ operands) (omega arith))
      (subst (λ w. Pushes (instrs.Compare relations.Eq int_type ∷ []) (0 ∷ word ∷ operands) (w ∷ operands)) (compared_zero int_type word)
      (turns_compare program emitted top callers state there relations.Eq int_type word 0 operands)))
  tree_pushes (Arithmetic operator int_type left right) operands fits low =
      let a = word_in own.words left in
      let b = word_in own.words right in
      then (tree_code function left ++ tree_code function right) (instrs.Binary operator int_type ∷ []) operands (b ∷ a ∷ operands) (binary_word operator int_type a b ∷ operands)
      (then (tree_code function left) (tree_code function right) operands (a ∷ operands) (b ∷ a ∷ operands) (tree_pushes left operands fits.0 (omega arith)) (tree_pushes right (a ∷ operands) fits.1 (omega arith)))
      (turns_binary program emitted top callers state there operator int_type a b operands)
  tree_pushes (Compare relation int_type left right) operands fits low =
      let a = word_in own.words left in
      let b = word_in own.words right in
      then (tree_code function left ++ tree_code function right) (instrs.Compare relation int_type ∷ []) operands (b ∷ a ∷ operands) (compared_word relation int_type a b ∷ operands)
      (then (tree_code function left) (tree_code function right) operands (a ∷ operands) (b ∷ a ∷ operands) (tree_pushes left operands fits.0 (omega arith)) (tree_pushes right (a ∷ operands) fits.1 (omega arith)))
      (turns_compare program emitted top callers state there relation int_type a b operands)

  pub operand_pushes : (operand : Operand) (operands : List ℕ) → OperandFits function.frame operand → length operands + operand_height operand ≤ emitted.height
      → Pushes (operand_code function operand) operands (operand_word own.words operand ∷ operands)
  operand_pushes (IntegerOperand tree) operands fits low = tree_pushes tree operands fits low
  operand_pushes (PointerOperand register) operands fits low = register_pushes register operands fits (omega arith)

  -- ---- paths

  -- so many elements of a size, as bytes
  pub scaled_pushes : (size : ℕ) (number : Tree) (operands : List ℕ) → TreeFits function.frame number → length operands + max (tree_height number) 2 ≤ emitted.height
      → Pushes (scaled function size number) operands (binary_word operators.Mul types.ULong (word_in own.words number) size ∷ operands)
  scaled_pushes size number operands fits low =
      let word = word_in own.words number in
      let bytes = binary_word operators.Mul types.ULong word size in
      then (tree_code function number) (instrs.Constant size ∷ instrs.Binary operators.Mul types.ULong ∷ []) operands (word ∷ operands) (bytes ∷ operands) (tree_pushes number operands fits (omega arith))
      (then (instrs.Constant size ∷ []) (instrs.Binary operators.Mul types.ULong ∷ []) (word ∷ operands) (size ∷ word ∷ operands) (bytes ∷ operands) (constant size (word ∷ operands) (omega arith))
      (turns_binary program emitted top callers state there operators.Mul types.ULong word size operands))

  -- an address so many elements further
  further_pushes : (size : ℕ) (number : Tree) (address : ℕ) (operands : List ℕ) → TreeFits function.frame number → length operands + scaled_height number ≤ emitted.height
      → Pushes (scaled function size number ++ instrs.Binary operators.Add types.ULong ∷ []) (address ∷ operands) (moved_by address size (word_in own.words number) ∷ operands)
  further_pushes size number address operands fits low =
      let word = word_in own.words number in
      let bytes = binary_word operators.Mul types.ULong word size in
      then (scaled function size number) (instrs.Binary operators.Add types.ULong ∷ []) (address ∷ operands) (bytes ∷ address ∷ operands) (moved_by address size word ∷ operands)
      (scaled_pushes size number (address ∷ operands) fits (omega arith))
      (subst (λ w. Pushes (instrs.Binary operators.Add types.ULong ∷ []) (bytes ∷ address ∷ operands) (w ∷ operands)) (added_scaled address word size)
      (turns_binary program emitted top callers state there operators.Add types.ULong address bytes operands))

  base_pushes : (base : Base) (operands : List ℕ) → BaseFits function.frame base → function.frame.size ≤ length top.bytes → length operands + base_height base ≤ emitted.height
      → Pushes (base_code function base) operands (base_address own base ∷ operands)
  base_pushes (AtFrame offset) operands fits long low =
      subst (λ a. Pushes (instrs.Local offset ∷ []) operands ((a + offset) ∷ operands)) stand.start
      (turns_local program emitted top callers state there offset operands (omega arith) (omega (arith, stand.near, fits, long)))
  base_pushes (AtGlobals offset) operands fits long low = constant (globals_start + offset) operands (omega arith)
  base_pushes (Pointed pointer) operands fits long low = register_pushes pointer operands fits (omega arith)
  base_pushes (Indexed pointer size number) operands fits long low =
      let address = own.words pointer in
      let word = word_in own.words number in
      let bytes = binary_word operators.Mul types.ULong word size in
      then (register_code function pointer ++ scaled function size number) (instrs.Binary operators.Add types.ULong ∷ []) operands (bytes ∷ address ∷ operands) (moved_by address size word ∷ operands)
      (then (register_code function pointer) (scaled function size number) operands (address ∷ operands) (bytes ∷ address ∷ operands)
      (register_pushes pointer operands fits.0 (omega arith)) (scaled_pushes size number (address ∷ operands) fits.1 (omega arith)))
      (subst (λ w. Pushes (instrs.Binary operators.Add types.ULong ∷ []) (bytes ∷ address ∷ operands) (w ∷ operands)) (added_scaled address word size)
      (turns_binary program emitted top callers state there operators.Add types.ULong address bytes operands))

  step_pushes : (step : Step) (address : ℕ) (operands : List ℕ) → StepFits function.frame step → length operands + step_height step ≤ emitted.height
      → Pushes (step_code function step) (address ∷ operands) (step_address own step address ∷ operands)
  step_pushes (Member offset) address operands fits low =
      then (instrs.Constant offset ∷ []) (instrs.Binary operators.Add types.ULong ∷ []) (address ∷ operands) (offset ∷ address ∷ operands) (moved_by address offset 1 ∷ operands)
      (constant offset (address ∷ operands) (omega arith))
      (subst (λ w. Pushes (instrs.Binary operators.Add types.ULong ∷ []) (offset ∷ address ∷ operands) (w ∷ operands)) (added_once address offset)
      (turns_binary program emitted top callers state there operators.Add types.ULong address offset operands))
  step_pushes (Element size index) address operands fits low = further_pushes size index address operands fits low

  steps_push : (steps : List Step) (address : ℕ) (operands : List ℕ) → AllByRecursion (StepFits function.frame) steps → length operands + steps_height steps ≤ emitted.height
      → Pushes (steps_code function steps) (address ∷ operands) (steps_address own steps address ∷ operands)
  steps_push [] address operands fits low = turns_none program emitted top callers state there (address ∷ operands)
  steps_push (first ∷ others) address operands fits low =
      then (step_code function first) (steps_code function others) (address ∷ operands) (step_address own first address ∷ operands) (steps_address own others (step_address own first address) ∷ operands)
      (step_pushes first address operands fits.0 (omega arith)) (steps_push others (step_address own first address) operands fits.1 (omega arith))

  pub path_pushes : (path : Path) (operands : List ℕ) → PathFits function.frame path → function.frame.size ≤ length top.bytes → length operands + path_height path ≤ emitted.height
      → Pushes (path_code function path) operands (path_address own path ∷ operands)
  path_pushes path operands fits long low =
      then (base_code function path.base) (steps_code function path.steps) operands (base_address own path.base ∷ operands) (path_address own path ∷ operands)
      (base_pushes path.base operands fits.0 long (omega arith)) (steps_push path.steps (base_address own path.base) operands fits.1 (omega arith))
