-- The instructions of trees, paths, slots, actions and calls are in their ranges.
use Rattle.std.proofs.Common.{ℕ, suc, ◌*◌, ◌^◌, ◌<◌, ◌≤◌, List, [], ◌∷◌, ◌++◌, Some, None, arith}
use Rattle.std.specs.List.{AllByRecursion}
use Rattle.c_num.specs.declared.IntType.TheVariants as types
use Rattle.c_num.specs.declared.BinOp.TheVariants as operators
use Rattle.c_num.specs.declared.Relation.TheVariants as relations
use Rattle.c_num.proofs.Conversions.{word_below}
use Rattle.tac_ir.specs.declared.register.Register.{Register}
use Rattle.tac_ir.specs.declared.register.Register.TheVariants as R
use Rattle.tac_ir.specs.Code.{Tree, Constant, Held, Convert, Complement, Not, Arithmetic, Compare, Operand, IntegerOperand, PointerOperand}
use Rattle.pool_isa.specs.declared.instr.Instr.{Instr}
use Rattle.pool_isa.specs.declared.instr.Instr.TheVariants as instrs
use Rattle.pool_isa.specs.Instr.{Fits}
use Rattle.pool_isa.specs.Ranges.{InRange}
use Rattle.pool_ir.specs.Code.{Slot, IntegerSlot, AddressSlot, IndexSlot, Base, AtFrame, AtGlobals, Pointed, Indexed, Step, Member, Element, Path, Callee, Known, Through, Op, Action, Make, Destroy, Function}
use Rattle.pool_ir.specs.Code as O
use Rattle.pool_ir.specs.Frames.{word_of_descriptor, word_of_register, words_in, objects_start}
use Rattle.stack_code.specs.Standing.{HasRegister, HasDescriptor, greatest_frame}
use Rattle.stack_code.specs.Emitting.{register_code, descriptor_code, tree_code, operand_code, scaled, base_code, step_code, steps_code, path_code, loading, storing, action_code, actions_code, registers_code, descriptors_code, callee_code, passing, calling, preparing}
use Rattle.stack_code.specs.Fitting.{TreeFits, OperandFits, BaseFits, StepFits, PathFits, SlotFits, CalleeFits, OpFits, ActionFits}
use Rattle.stack_code.proofs.WordsApart.{register_within, descriptor_within}
use Rattle.stack_code.specs.FitsImage.{BaseInRange, StepInRange, PathInRange, CalleeInRange, OpInRange, KindIsThere, ActionsFit}

-- in code of so many instructions, of an image with so many kinds of pools and, beside `start`, so many functions
abbrev pub Ranged : ℕ → ℕ → ℕ → List Instr → Type 0
Ranged kinds functions instructions code = AllByRecursion (λ instr. Fits instr × InRange kinds (suc functions) instructions instr) code

pub both : (kinds functions instructions : ℕ) (xs ys : List Instr) → Ranged kinds functions instructions xs → Ranged kinds functions instructions ys → Ranged kinds functions instructions (xs ++ ys)
both kinds functions instructions [] ys first second = second
both kinds functions instructions (x ∷ xs) ys first second = (first.0, both kinds functions instructions xs ys first.1 second)

module _ (kinds functions instructions : ℕ) (few_kinds : kinds ≤ 1048576) (few_functions : functions ≤ 4096)
    (function : Function) (taken : function.taken ≤ function.frame.descriptors) (words : objects_start function.frame ≤ function.frame.size) (size : function.frame.size ≤ greatest_frame) where
  abbrev Own : List Instr → Type 0
  Own code = Ranged kinds functions instructions code

  join : (xs ys : List Instr) → Own xs → Own ys → Own (xs ++ ys)
  join xs ys first second = both kinds functions instructions xs ys first second

  -- ---- words of the frame

  word_fits : (word : ℕ) → word < words_in function.frame → 8 * word < 2 ^ 64
  word_fits word low = omega (arith, low, words, size)

  register_fits : (register : Register) → HasRegister function.frame register → 8 * word_of_register function register < 2 ^ 64
  register_fits register has = word_fits (word_of_register function register) (register_within function taken register has)

  descriptor_fits : (number : ℕ) → HasDescriptor function.frame number → 8 * word_of_descriptor function number < 2 ^ 64
  descriptor_fits number has = word_fits (word_of_descriptor function number) (descriptor_within function taken number has)

  register_ranged : (register : Register) → HasRegister function.frame register → Own (register_code function register)
  register_ranged register has = ((register_fits register has, tt), ((tt, tt), tt))

  descriptor_ranged : (number : ℕ) → HasDescriptor function.frame number → Own (descriptor_code function number)
  descriptor_ranged number has = ((descriptor_fits number has, tt), ((tt, tt), tt))

  zero_fits : 0 < 2 ^ 64
  zero_fits = omega arith

  -- ---- trees

  tree_ranged : (tree : Tree) → TreeFits function.frame tree → Own (tree_code function tree)
  tree_ranged (Constant z) fits = ((word_below types.ULong z, tt), tt)
  tree_ranged (Held register) fits = register_ranged register fits
  tree_ranged (Convert int_type operand) fits = join (tree_code function operand) (instrs.Convert int_type ∷ []) (tree_ranged operand fits) ((tt, tt), tt)
  tree_ranged (Complement int_type operand) fits = join (tree_code function operand) (instrs.Complement int_type ∷ []) (tree_ranged operand fits) ((tt, tt), tt)
  tree_ranged (Not int_type operand) fits =
      join (tree_code function operand) (instrs.Constant 0 ∷ instrs.Compare relations.Eq int_type ∷ []) (tree_ranged operand fits) ((zero_fits, tt), ((tt, tt), tt))
  tree_ranged (Arithmetic operator int_type left right) fits =
      join (tree_code function left ++ tree_code function right) (instrs.Binary operator int_type ∷ [])
      (join (tree_code function left) (tree_code function right) (tree_ranged left fits.0) (tree_ranged right fits.1)) ((tt, tt), tt)
  tree_ranged (Compare relation int_type left right) fits =
      join (tree_code function left ++ tree_code function right) (instrs.Compare relation int_type ∷ [])
      (join (tree_code function left) (tree_code function right) (tree_ranged left fits.0) (tree_ranged right fits.1)) ((tt, tt), tt)

  operand_ranged : (operand : Operand) → OperandFits function.frame operand → Own (operand_code function operand)
  operand_ranged (IntegerOperand tree) fits = tree_ranged tree fits
  operand_ranged (PointerOperand register) fits = register_ranged register fits

  -- ---- paths

  scaled_ranged : (bytes : ℕ) (number : Tree) → bytes < 2 ^ 64 → TreeFits function.frame number → Own (scaled function bytes number)
  scaled_ranged bytes number low fits =
      join (tree_code function number) (instrs.Constant bytes ∷ instrs.Binary operators.Mul types.ULong ∷ []) (tree_ranged number fits) ((low, tt), ((tt, tt), tt))

  base_ranged : (base : Base) → BaseFits function.frame base → BaseInRange base → Own (base_code function base)
  base_ranged (AtFrame offset) fits range =
      let low : offset < 2 ^ 64 = omega (arith, fits, size) in
      ((low, tt), tt)
  base_ranged (AtGlobals offset) fits range = ((range, tt), tt)
  base_ranged (Pointed pointer) fits range = register_ranged pointer fits
  base_ranged (Indexed pointer bytes number) fits range =
      join (register_code function pointer ++ scaled function bytes number) (instrs.Binary operators.Add types.ULong ∷ [])
      (join (register_code function pointer) (scaled function bytes number) (register_ranged pointer fits.0) (scaled_ranged bytes number range fits.1)) ((tt, tt), tt)

  step_ranged : (step : Step) → StepFits function.frame step → StepInRange step → Own (step_code function step)
  step_ranged (Member offset) fits range = ((range, tt), ((tt, tt), tt))
  step_ranged (Element bytes index) fits range =
      join (scaled function bytes index) (instrs.Binary operators.Add types.ULong ∷ []) (scaled_ranged bytes index range fits) ((tt, tt), tt)

  steps_ranged : (steps : List Step) → AllByRecursion (StepFits function.frame) steps → AllByRecursion StepInRange steps → Own (steps_code function steps)
  steps_ranged [] fits range = tt
  steps_ranged (first ∷ others) fits range =
      join (step_code function first) (steps_code function others) (step_ranged first fits.0 range.0) (steps_ranged others fits.1 range.1)

  path_ranged : (path : Path) → PathFits function.frame path → PathInRange path → Own (path_code function path)
  path_ranged path fits range =
      join (base_code function path.base) (steps_code function path.steps) (base_ranged path.base fits.0 range.0) (steps_ranged path.steps fits.1 range.1)

  -- ---- slots

  pub loading_ranged : (slot : Slot) → SlotFits function.frame slot → Own (loading function slot)
  loading_ranged (IntegerSlot int_type) fits = ((tt, tt), tt)
  loading_ranged AddressSlot fits = ((tt, tt), tt)
  loading_ranged (IndexSlot descriptor) fits = join (descriptor_code function descriptor) (instrs.LoadLink ∷ []) (descriptor_ranged descriptor fits) ((tt, tt), tt)

  pub storing_ranged : (slot : Slot) → SlotFits function.frame slot → Own (storing function slot)
  storing_ranged (IntegerSlot int_type) fits = ((tt, tt), tt)
  storing_ranged AddressSlot fits = ((tt, tt), tt)
  storing_ranged (IndexSlot descriptor) fits = join (descriptor_code function descriptor) (instrs.StoreLink ∷ []) (descriptor_ranged descriptor fits) ((tt, tt), tt)

  -- ---- pools

  action_ranged : (action : Action) → ActionFits function.frame action → KindIsThere kinds action → Own (action_code function action)
  action_ranged (Make descriptor kind) fits there =
      let low : kind < 2 ^ 64 = omega (arith, there, few_kinds) in
      ((descriptor_fits descriptor fits, tt), ((low, there), ((tt, tt), tt)))
  action_ranged (Destroy descriptor) fits there = join (descriptor_code function descriptor) (instrs.PoolDestroy ∷ []) (descriptor_ranged descriptor fits) ((tt, tt), tt)

  each_action : (actions : List Action) → AllByRecursion (ActionFits function.frame) actions → AllByRecursion (KindIsThere kinds) actions → Own (actions_code function actions)
  each_action [] fits there = tt
  each_action (first ∷ others) fits there =
      join (action_code function first) (actions_code function others) (action_ranged first fits.0 there.0) (each_action others fits.1 there.1)

  pub actions_ranged : (actions : List Action) → ActionsFit kinds function actions → Own (actions_code function actions)
  actions_ranged actions fits = each_action actions fits.0 fits.1

  -- ---- calls

  registers_ranged : (registers : List Register) → AllByRecursion (HasRegister function.frame) registers → Own (registers_code function registers)
  registers_ranged [] fits = tt
  registers_ranged (first ∷ others) fits = join (register_code function first) (registers_code function others) (register_ranged first fits.0) (registers_ranged others fits.1)

  descriptors_ranged : (descriptors : List ℕ) → AllByRecursion (HasDescriptor function.frame) descriptors → Own (descriptors_code function descriptors)
  descriptors_ranged [] fits = tt
  descriptors_ranged (first ∷ others) fits = join (descriptor_code function first) (descriptors_code function others) (descriptor_ranged first fits.0) (descriptors_ranged others fits.1)

  callee_ranged : (callee : Callee) → CalleeFits function.frame callee → Own (callee_code function callee)
  callee_ranged (Known number) fits = tt
  callee_ranged (Through pointer signature) fits = register_ranged pointer fits

  pub calling_ranged : (callee : Callee) → CalleeInRange functions callee → Own (calling callee ∷ [])
  calling_ranged (Known number) range =
      let low : suc number < 2 ^ 64 = omega (arith, range, few_functions) in
      let there : suc number < suc functions = omega (arith, range) in
      ((low, there), tt)
  calling_ranged (Through pointer signature) range = ((range, tt), tt)

  passing_ranged : (site : ℕ) (callee : Callee) (arguments : List Register) (pools : List ℕ) → OpFits function.frame (O.Call site callee arguments pools) → Own (passing function site callee arguments pools)
  passing_ranged site callee arguments pools fits =
      let address = instrs.Local (8 * word_of_register function (R.Call site)) ∷ [] in
      let front = join (descriptors_code function pools) (registers_code function arguments) (descriptors_ranged pools fits.3) (registers_ranged arguments fits.2) in
      ((register_fits (R.Call site) fits.0, tt), join (descriptors_code function pools ++ registers_code function arguments) (callee_code function callee) front (callee_ranged callee fits.1))

  -- ---- what is prepared at a point

  -- behind the address of a register
  at_register : (to : Register) (code : List Instr) → HasRegister function.frame to → Own code → Own (instrs.Local (8 * word_of_register function to) ∷ code)
  at_register to code has rest = ((register_fits to has, tt), rest)

  two_registers : (left right : Register) → HasRegister function.frame left → HasRegister function.frame right → Own (register_code function left ++ register_code function right)
  two_registers left right has has2 = join (register_code function left) (register_code function right) (register_ranged left has) (register_ranged right has2)

  pub preparing_ranged : (points number : ℕ) (op : Op) → OpFits function.frame op → OpInRange functions points number op → Own (preparing function op)
  preparing_ranged points number O.Reserved fits range = tt
  preparing_ranged points number (O.Jump to) fits range = tt
  preparing_ranged points number (O.Branch int_type condition holds fails) fits range =
      join (tree_code function condition) (instrs.Convert int_type ∷ []) (tree_ranged condition fits) ((tt, tt), tt)
  preparing_ranged points number (O.Assign to tree) fits range = at_register to (tree_code function tree) fits.0 (tree_ranged tree fits.1)
  preparing_ranged points number (O.Null to) fits range = at_register to (instrs.Constant 0 ∷ []) fits ((zero_fits, tt), tt)
  preparing_ranged points number (O.FunctionAddress to named) fits range = ((register_fits to fits, tt), ((range.1, tt), tt))
  preparing_ranged points number (O.Copy to from) fits range = at_register to (register_code function from) fits.0 (register_ranged from fits.1)
  preparing_ranged points number (O.Test to pointer) fits range =
      at_register to (register_code function pointer ++ instrs.Constant 0 ∷ instrs.Compare relations.Ne types.ULong ∷ []) fits.0
      (join (register_code function pointer) (instrs.Constant 0 ∷ instrs.Compare relations.Ne types.ULong ∷ []) (register_ranged pointer fits.1) ((zero_fits, tt), ((tt, tt), tt)))
  preparing_ranged points number (O.Move to pointer bytes is_minus amount) fits range = (
    (register_fits to fits.0, tt),
    join (register_code function pointer ++ scaled function bytes amount) _
        (join (register_code function pointer) (scaled function bytes amount) (register_ranged pointer fits.1) (scaled_ranged bytes amount range.1 fits.2)) ((tt, tt), tt),
  )
  preparing_ranged points number (O.Difference to bytes left right) fits range = (
    (register_fits to fits.0, tt),
    join (register_code function left ++ register_code function right) (instrs.Binary operators.Sub types.Long ∷ instrs.Constant bytes ∷ instrs.Binary operators.Div types.Long ∷ [])
        (two_registers left right fits.1 fits.2) ((tt, tt), ((range.1, tt), ((tt, tt), tt))),
  )
  preparing_ranged points number (O.ComparePointers to relation left right) fits range = (
    (register_fits to fits.0, tt),
    join (register_code function left ++ register_code function right) (instrs.Compare relation types.ULong ∷ []) (two_registers left right fits.1 fits.2) ((tt, tt), tt),
  )
  preparing_ranged points number (O.AddressOf to path) fits range = at_register to (path_code function path) fits.0 (path_ranged path fits.1 range.1)
  preparing_ranged points number (O.Load to slot path) fits range = at_register to (path_code function path) fits.0 (path_ranged path fits.2 range.1)
  preparing_ranged points number (O.Store path slot value) fits range =
      join (path_code function path) (operand_code function value) (path_ranged path fits.0 range.1) (operand_ranged value fits.2)
  preparing_ranged points number (O.Allocate site amount pool) fits range = (
    (register_fits (R.Call site) fits.0, tt),
    join (descriptor_code function pool) (tree_code function amount) (descriptor_ranged pool fits.2) (tree_ranged amount fits.1),
  )
  preparing_ranged points number (O.Free site pointer pool) fits range =
      join (descriptor_code function pool) (register_code function pointer) (descriptor_ranged pool fits.1) (register_ranged pointer fits.0)
  preparing_ranged points number (O.Call site callee arguments pools) fits range = passing_ranged site callee arguments pools fits
  preparing_ranged points number (O.GetChar site) fits range = ((register_fits (R.Call site) fits, tt), tt)
  preparing_ranged points number (O.PutChar site value) fits range = at_register (R.Call site) (tree_code function value) fits.0 (tree_ranged value fits.1)
  preparing_ranged points number (O.Exit status) fits range = tree_ranged status fits
  preparing_ranged points number (O.Return None) fits range = ((zero_fits, tt), tt)
  preparing_ranged points number (O.Return (Some value)) fits range = operand_ranged value fits
