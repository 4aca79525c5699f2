-- What stands on the operands once a point is prepared.
use Rattle.std.proofs.Common.{◌≡◌, ℕ, ◌+◌, ◌*◌, ◌<◌, ◌≤◌, ◌==◌, not, Bool, true, false, List, [], ◌∷◌, ◌++◌, Some, None, length, map, ap, ◌∙◌, subst, arith}
use Rattle.std.specs.Prelude.{slice_get, if◌then◌else◌}
use Rattle.std.specs.List.{AllByRecursion}
use Rattle.std.proofs.lemmas.List.{length-map}
use Rattle.c_num.specs.declared.IntType.TheVariants as types
use Rattle.c_num.specs.declared.BinOp.TheVariants as operators
use Rattle.c_num.specs.declared.Relation.TheVariants as relations
use Rattle.pool_isa.specs.declared.instr.Instr.{Instr}
use Rattle.pool_isa.specs.declared.instr.Instr.TheVariants as instrs
use Rattle.pool_isa.specs.Machine as M
use Rattle.pool_isa.specs.Machine.{binary_word, compared_word, converted_word}
use Rattle.tac_ir.specs.declared.register.Register.{Register}
use Rattle.tac_ir.specs.declared.register.Register.TheVariants as R
use Rattle.tac_ir.specs.Code.{Tree}
use Rattle.pool_ir.specs.Code.{Callee, Known, Through, Op, Function}
use Rattle.pool_ir.specs.Code as O
use Rattle.pool_ir.specs.Frames.{word_of_register}
use Rattle.pool_ir.specs.Words.{word_in, operand_word, moved_by, moved_back, truth_word}
use Rattle.pool_ir.specs.States as P
use Rattle.pool_ir.specs.Memory.{path_address}
use Rattle.pool_ir.specs.Meaning.{function_word}
use Rattle.stack_code.specs.Emitting.{register_code, descriptor_code, tree_code, operand_code, scaled, path_code, registers_code, descriptors_code, callee_code, passing, preparing, preparing_height, tree_height, scaled_height}
use Rattle.stack_code.specs.Standing.{HasRegister, HasDescriptor, place_in}
use Rattle.stack_code.specs.Fitting.{TreeFits, CalleeFits, OpFits}
use Rattle.stack_code.proofs.FrameWords.{added_scaled, taken_scaled, tested}
use Rattle.stack_code.proofs.Turns.{turns_then, turns_none, turns_convert, turns_binary, turns_compare, turns_constant}
use Rattle.stack_code.proofs.PoolStack.Trees.{WordsStand, Pushes, register_pushes, descriptor_pushes, place_pushes, tree_pushes, operand_pushes, scaled_pushes, path_pushes}

-- these words on operands, the last one last
abbrev pub with_words : List ℕ → List ℕ → List ℕ
with_words [] operands = operands
with_words (word ∷ words) operands = with_words words (word ∷ operands)

abbrev pub with_callee : P.Activation → Callee → List ℕ → List ℕ
with_callee own (Known number) operands = operands
with_callee own (Through pointer signature) operands = own.words pointer ∷ operands

-- what a point prepares
abbrev pub prepared : Function → P.Activation → Op → List ℕ
prepared function own (O.Branch int_type condition holds fails) = converted_word int_type (word_in own.words condition) ∷ []
prepared function own (O.Assign to tree) = word_in own.words tree ∷ place_in function own to ∷ []
prepared function own (O.Null to) = 0 ∷ place_in function own to ∷ []
prepared function own (O.FunctionAddress to number) = function_word number ∷ place_in function own to ∷ []
prepared function own (O.Copy to from) = own.words from ∷ place_in function own to ∷ []
prepared function own (O.Test to pointer) = truth_word (not (own.words pointer == 0)) ∷ place_in function own to ∷ []
prepared function own (O.Move to pointer size is_minus number) =
    let amount = word_in own.words number in
    (if is_minus then moved_back (own.words pointer) size amount else moved_by (own.words pointer) size amount) ∷ place_in function own to ∷ []
prepared function own (O.Difference to size left right) =
    binary_word operators.Div types.Long (binary_word operators.Sub types.Long (own.words left) (own.words right)) size ∷ place_in function own to ∷ []
prepared function own (O.ComparePointers to relation left right) = compared_word relation types.ULong (own.words left) (own.words right) ∷ place_in function own to ∷ []
prepared function own (O.AddressOf to path) = path_address own path ∷ place_in function own to ∷ []
prepared function own (O.Load to slot path) = path_address own path ∷ place_in function own to ∷ []
prepared function own (O.Store path slot value) = operand_word own.words value ∷ path_address own path ∷ []
prepared function own (O.Allocate site size pool) = word_in own.words size ∷ own.descriptors pool ∷ place_in function own (R.Call site) ∷ []
prepared function own (O.Free site pointer pool) = own.words pointer ∷ own.descriptors pool ∷ []
prepared function own (O.Call site callee arguments pools) =
    with_callee own callee (with_words (map own.words arguments) (with_words (map own.descriptors pools) (place_in function own (R.Call site) ∷ [])))
prepared function own (O.GetChar site) = place_in function own (R.Call site) ∷ []
prepared function own (O.PutChar site value) = word_in own.words value ∷ place_in function own (R.Call site) ∷ []
prepared function own (O.Exit status) = word_in own.words status ∷ []
prepared function own (O.Return None) = 0 ∷ []
prepared function own (O.Return (Some value)) = operand_word own.words value ∷ []
prepared function own op = []

pub length-with_words : (words operands : List ℕ) → length (with_words words operands) ≡ length words + length operands
length-with_words [] operands = omega arith
length-with_words (word ∷ words) operands = length-with_words words (word ∷ operands) ∙ omega arith

module _ (program : M.Code) (emitted : M.Function) (top : M.Activation) (callers : List M.Activation) (state : M.State) (there : slice_get program.functions top.function ≡ Some emitted)
    (function : Function) (own : P.Activation) (stand : WordsStand function own top) (long : function.frame.size ≤ length top.bytes) where
  abbrev Lead : List Instr → List ℕ → List ℕ → Type 0
  Lead code before after = Pushes program emitted top callers state there function own stand code before after

  abbrev row : (xs ys : List Instr) (a b c : List ℕ) → Lead xs a b → Lead ys b c → Lead (xs ++ ys) a c
  row xs ys a b c one two = turns_then program emitted top callers state there xs ys a b c one two

  abbrev register : (register : Register) (operands : List ℕ) → HasRegister function.frame register → length operands < emitted.height → Lead (register_code function register) operands (own.words register ∷ operands)
  register r operands has low = register_pushes program emitted top callers state there function own stand r operands has low

  abbrev tree : (tree : Tree) (operands : List ℕ) → TreeFits function.frame tree → length operands + tree_height tree ≤ emitted.height → Lead (tree_code function tree) operands (word_in own.words tree ∷ operands)
  tree t operands fits low = tree_pushes program emitted top callers state there function own stand t operands fits low

  pub the_place : (to : Register) → HasRegister function.frame to → 0 < emitted.height → Lead (instrs.Local (8 * word_of_register function to) ∷ []) [] (place_in function own to ∷ [])
  the_place to has low =
      subst (λ a. Lead (instrs.Local (8 * word_of_register function to) ∷ []) [] ((a + 8 * word_of_register function to) ∷ [])) stand.start
      (place_pushes program emitted top callers state there function own stand to [] has low)

  -- behind the address of a register's word
  behind : (to : Register) (code : List Instr) (after : List ℕ) → HasRegister function.frame to → 2 ≤ emitted.height
      → Lead code (place_in function own to ∷ []) after → Lead (instrs.Local (8 * word_of_register function to) ∷ code) [] after
  behind to code after has low does = row (instrs.Local (8 * word_of_register function to) ∷ []) code [] (place_in function own to ∷ []) after (the_place to has (omega arith)) does

  -- two registers, one behind the other
  both : (left right : Register) (operands : List ℕ) → HasRegister function.frame left → HasRegister function.frame right → length operands + 2 ≤ emitted.height
      → Lead (register_code function left ++ register_code function right) operands (own.words right ∷ own.words left ∷ operands)
  both left right operands has has' low =
      row (register_code function left) (register_code function right) operands (own.words left ∷ operands) (own.words right ∷ own.words left ∷ operands)
      (register left operands has (omega arith)) (register right (own.words left ∷ operands) has' (omega arith))

  registers_push : (list : List Register) (operands : List ℕ) → AllByRecursion (HasRegister function.frame) list → length operands + length list ≤ emitted.height
      → Lead (registers_code function list) operands (with_words (map own.words list) operands)
  registers_push [] operands all low = turns_none program emitted top callers state there operands
  registers_push (first ∷ others) operands all low =
      row (register_code function first) (registers_code function others) operands (own.words first ∷ operands) (with_words (map own.words others) (own.words first ∷ operands))
      (register first operands all.0 (omega arith)) (registers_push others (own.words first ∷ operands) all.1 (omega arith))

  descriptor : (number : ℕ) (operands : List ℕ) → HasDescriptor function.frame number → length operands < emitted.height → Lead (descriptor_code function number) operands (own.descriptors number ∷ operands)
  descriptor number operands has low = descriptor_pushes program emitted top callers state there function own stand number operands has low

  descriptors_push : (list : List ℕ) (operands : List ℕ) → AllByRecursion (HasDescriptor function.frame) list → length operands + length list ≤ emitted.height
      → Lead (descriptors_code function list) operands (with_words (map own.descriptors list) operands)
  descriptors_push [] operands all low = turns_none program emitted top callers state there operands
  descriptors_push (first ∷ others) operands all low =
      row (descriptor_code function first) (descriptors_code function others) operands (own.descriptors first ∷ operands) (with_words (map own.descriptors others) (own.descriptors first ∷ operands))
      (descriptor first operands all.0 (omega arith)) (descriptors_push others (own.descriptors first ∷ operands) all.1 (omega arith))

  callee_pushes : (callee : Callee) (operands : List ℕ) → CalleeFits function.frame callee → length operands < emitted.height → Lead (callee_code function callee) operands (with_callee own callee operands)
  callee_pushes (Known number) operands fits low = turns_none program emitted top callers state there operands
  callee_pushes (Through pointer signature) operands fits low = register pointer operands fits low

  -- an element so many places further or back
  moves : (pointer : Register) (size : ℕ) (is_minus : Bool) (number : Tree) (operands : List ℕ) → HasRegister function.frame pointer → TreeFits function.frame number
      → length operands + scaled_height number ≤ emitted.height
      → Lead (register_code function pointer ++ scaled function size number ++ instrs.Binary (if is_minus then operators.Sub else operators.Add) types.ULong ∷ []) operands
      ((if is_minus then moved_back (own.words pointer) size (word_in own.words number) else moved_by (own.words pointer) size (word_in own.words number)) ∷ operands)
  moves pointer size is_minus number operands has fits low =
      let address = own.words pointer in
      let word = word_in own.words number in
      let bytes = binary_word operators.Mul types.ULong word size in
      row (register_code function pointer ++ scaled function size number) (instrs.Binary (if is_minus then operators.Sub else operators.Add) types.ULong ∷ []) operands (bytes ∷ address ∷ operands)
      ((if is_minus then moved_back address size word else moved_by address size word) ∷ operands)
      (row (register_code function pointer) (scaled function size number) operands (address ∷ operands) (bytes ∷ address ∷ operands) (register pointer operands has (omega arith))
      (scaled_pushes program emitted top callers state there function own stand size number (address ∷ operands) fits (omega arith)))
      (by is_minus)
    where
      by : (minus : Bool)
          → Lead (instrs.Binary (if minus then operators.Sub else operators.Add) types.ULong ∷ []) (binary_word operators.Mul types.ULong (word_in own.words number) size ∷ own.words pointer ∷ operands)
          ((if minus then moved_back (own.words pointer) size (word_in own.words number) else moved_by (own.words pointer) size (word_in own.words number)) ∷ operands)
      by true =
          let bytes = binary_word operators.Mul types.ULong (word_in own.words number) size in
          subst (λ w. Lead (instrs.Binary operators.Sub types.ULong ∷ []) (bytes ∷ own.words pointer ∷ operands) (w ∷ operands)) (taken_scaled (own.words pointer) (word_in own.words number) size)
          (turns_binary program emitted top callers state there operators.Sub types.ULong (own.words pointer) bytes operands)
      by false =
          let bytes = binary_word operators.Mul types.ULong (word_in own.words number) size in
          subst (λ w. Lead (instrs.Binary operators.Add types.ULong ∷ []) (bytes ∷ own.words pointer ∷ operands) (w ∷ operands)) (added_scaled (own.words pointer) (word_in own.words number) size)
          (turns_binary program emitted top callers state there operators.Add types.ULong (own.words pointer) bytes operands)

  -- what a call passes
  passes : (site : ℕ) (callee : Callee) (arguments : List Register) (pools : List ℕ) → OpFits function.frame (O.Call site callee arguments pools) → 2 + length pools + length arguments ≤ emitted.height → 3 ≤ emitted.height
      → Lead (passing function site callee arguments pools) [] (prepared function own (O.Call site callee arguments pools))
  passes site callee arguments pools fits low three =
      let here = place_in function own (R.Call site) ∷ [] in
      let first = with_words (map own.descriptors pools) here in
      let second = with_words (map own.words arguments) first in
      let many : length first ≡ length pools + 1 = length-with_words (map own.descriptors pools) here ∙ ap (λ n. n + 1) (length-map pools own.descriptors) in
      let more : length second ≡ length arguments + length first = length-with_words (map own.words arguments) first ∙ ap (λ n. n + length first) (length-map arguments own.words) in
      behind (R.Call site) (descriptors_code function pools ++ registers_code function arguments ++ callee_code function callee) (with_callee own callee second) fits.0 (omega arith)
      (row (descriptors_code function pools ++ registers_code function arguments) (callee_code function callee) here second (with_callee own callee second)
      (row (descriptors_code function pools) (registers_code function arguments) here first second (descriptors_push pools here fits.3 (omega arith)) (registers_push arguments first fits.2 (omega (arith, many))))
      (callee_pushes callee second fits.1 (omega (arith, many, more))))

  pub point_prepares : (op : Op) → OpFits function.frame op → preparing_height op ≤ emitted.height → 3 ≤ emitted.height → Lead (preparing function op) [] (prepared function own op)
  point_prepares O.Reserved fits low three = turns_none program emitted top callers state there []
  point_prepares (O.Jump to) fits low three = turns_none program emitted top callers state there []
  point_prepares (O.Branch int_type condition holds fails) fits low three =
      let word = word_in own.words condition in
      row (tree_code function condition) (instrs.Convert int_type ∷ []) [] (word ∷ []) (converted_word int_type word ∷ []) (tree condition [] fits (omega arith))
      (turns_convert program emitted top callers state there int_type word [])
  point_prepares (O.Assign to tree_) fits low three =
      behind to (tree_code function tree_) (word_in own.words tree_ ∷ place_in function own to ∷ []) fits.0 (omega arith) (tree tree_ (place_in function own to ∷ []) fits.1 (omega arith))
  point_prepares (O.Null to) fits low three =
      behind to (instrs.Constant 0 ∷ []) (0 ∷ place_in function own to ∷ []) fits (omega arith) (turns_constant program emitted top callers state there 0 (place_in function own to ∷ []) (omega arith))
  point_prepares (O.FunctionAddress to number) fits low three =
      behind to (instrs.Constant (function_word number) ∷ []) (function_word number ∷ place_in function own to ∷ []) fits (omega arith)
      (turns_constant program emitted top callers state there (function_word number) (place_in function own to ∷ []) (omega arith))
  point_prepares (O.Copy to from) fits low three =
      behind to (register_code function from) (own.words from ∷ place_in function own to ∷ []) fits.0 (omega arith) (register from (place_in function own to ∷ []) fits.1 (omega arith))
  point_prepares (O.Test to pointer) fits low three =
      let here = place_in function own to ∷ [] in
      let word = own.words pointer in
      let result = truth_word (not (word == 0)) in
      behind to (register_code function pointer ++ instrs.Constant 0 ∷ instrs.Compare relations.Ne types.ULong ∷ []) (result ∷ here) fits.0 (omega arith)
      (row (register_code function pointer) (instrs.Constant 0 ∷ instrs.Compare relations.Ne types.ULong ∷ []) here (word ∷ here) (result ∷ here) (register pointer here fits.1 (omega arith))
      (row (instrs.Constant 0 ∷ []) (instrs.Compare relations.Ne types.ULong ∷ []) (word ∷ here) (0 ∷ word ∷ here) (result ∷ here)
      (turns_constant program emitted top callers state there 0 (word ∷ here) (omega arith))
      (subst (λ w. Lead (instrs.Compare relations.Ne types.ULong ∷ []) (0 ∷ word ∷ here) (w ∷ here)) (tested word (stand.words pointer))
      (turns_compare program emitted top callers state there relations.Ne types.ULong word 0 here))))
  point_prepares (O.Move to pointer size is_minus number) fits low three =
      let here = place_in function own to ∷ [] in
      let amount = word_in own.words number in
      behind to (register_code function pointer ++ scaled function size number ++ instrs.Binary (if is_minus then operators.Sub else operators.Add) types.ULong ∷ [])
      ((if is_minus then moved_back (own.words pointer) size amount else moved_by (own.words pointer) size amount) ∷ here) fits.0 (omega arith)
      (moves pointer size is_minus number here fits.1 fits.2 (omega arith))
  point_prepares (O.Difference to size left right) fits low three =
      let here = place_in function own to ∷ [] in
      let difference = binary_word operators.Sub types.Long (own.words left) (own.words right) in
      let result = binary_word operators.Div types.Long difference size in
      let two = register_code function left ++ register_code function right in
      behind to (two ++ instrs.Binary operators.Sub types.Long ∷ instrs.Constant size ∷ instrs.Binary operators.Div types.Long ∷ []) (result ∷ here) fits.0 (omega arith)
      (row two (instrs.Binary operators.Sub types.Long ∷ instrs.Constant size ∷ instrs.Binary operators.Div types.Long ∷ []) here (own.words right ∷ own.words left ∷ here) (result ∷ here)
      (both left right here fits.1 fits.2 (omega arith))
      (row (instrs.Binary operators.Sub types.Long ∷ []) (instrs.Constant size ∷ instrs.Binary operators.Div types.Long ∷ []) (own.words right ∷ own.words left ∷ here) (difference ∷ here) (result ∷ here)
      (turns_binary program emitted top callers state there operators.Sub types.Long (own.words left) (own.words right) here)
      (row (instrs.Constant size ∷ []) (instrs.Binary operators.Div types.Long ∷ []) (difference ∷ here) (size ∷ difference ∷ here) (result ∷ here)
      (turns_constant program emitted top callers state there size (difference ∷ here) (omega arith))
      (turns_binary program emitted top callers state there operators.Div types.Long difference size here))))
  point_prepares (O.ComparePointers to relation left right) fits low three =
      let here = place_in function own to ∷ [] in
      let two = register_code function left ++ register_code function right in
      let result = compared_word relation types.ULong (own.words left) (own.words right) in
      behind to (two ++ instrs.Compare relation types.ULong ∷ []) (result ∷ here) fits.0 (omega arith)
      (row two (instrs.Compare relation types.ULong ∷ []) here (own.words right ∷ own.words left ∷ here) (result ∷ here) (both left right here fits.1 fits.2 (omega arith))
      (turns_compare program emitted top callers state there relation types.ULong (own.words left) (own.words right) here))
  point_prepares (O.AddressOf to path) fits low three =
      behind to (path_code function path) (path_address own path ∷ place_in function own to ∷ []) fits.0 (omega arith)
      (path_pushes program emitted top callers state there function own stand path (place_in function own to ∷ []) fits.1 long (omega arith))
  point_prepares (O.Load to slot path) fits low three =
      behind to (path_code function path) (path_address own path ∷ place_in function own to ∷ []) fits.0 (omega arith)
      (path_pushes program emitted top callers state there function own stand path (place_in function own to ∷ []) fits.2 long (omega arith))
  point_prepares (O.Store path slot value) fits low three =
      row (path_code function path) (operand_code function value) [] (path_address own path ∷ []) (operand_word own.words value ∷ path_address own path ∷ [])
      (path_pushes program emitted top callers state there function own stand path [] fits.0 long (omega arith))
      (operand_pushes program emitted top callers state there function own stand value (path_address own path ∷ []) fits.2 (omega arith))
  point_prepares (O.Allocate site size pool) fits low three =
      let here = place_in function own (R.Call site) ∷ [] in
      behind (R.Call site) (descriptor_code function pool ++ tree_code function size) (word_in own.words size ∷ own.descriptors pool ∷ here) fits.0 (omega arith)
      (row (descriptor_code function pool) (tree_code function size) here (own.descriptors pool ∷ here) (word_in own.words size ∷ own.descriptors pool ∷ here)
      (descriptor pool here fits.2 (omega arith)) (tree size (own.descriptors pool ∷ here) fits.1 (omega arith)))
  point_prepares (O.Free site pointer pool) fits low three =
      row (descriptor_code function pool) (register_code function pointer) [] (own.descriptors pool ∷ []) (own.words pointer ∷ own.descriptors pool ∷ [])
      (descriptor pool [] fits.1 (omega arith)) (register pointer (own.descriptors pool ∷ []) fits.0 (omega arith))
  point_prepares (O.Call site callee arguments pools) fits low three = passes site callee arguments pools fits low three
  point_prepares (O.GetChar site) fits low three = the_place (R.Call site) fits (omega arith)
  point_prepares (O.PutChar site value) fits low three =
      behind (R.Call site) (tree_code function value) (word_in own.words value ∷ place_in function own (R.Call site) ∷ []) fits.0 (omega arith)
      (tree value (place_in function own (R.Call site) ∷ []) fits.1 (omega arith))
  point_prepares (O.Exit status) fits low three = tree status [] fits (omega arith)
  point_prepares (O.Return None) fits low three = turns_constant program emitted top callers state there 0 [] (omega arith)
  point_prepares (O.Return (Some value)) fits low three = operand_pushes program emitted top callers state there function own stand value [] fits (omega arith)
