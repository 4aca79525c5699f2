-- What is left of a run does the same with more units, and never takes an event back.
use Rattle.std.proofs.Common.{ℕ, suc, Bool, true, false, if◌then◌else◌, List, [], ◌∷◌, ◌++◌, Option, Some, None, ℤ, pos, neg_ℤ, int_eq, codes}
use Rattle.run_theory.specs.declared.place.Pos.{Pos}
use Rattle.run_theory.specs.Runs as Runs
use Rattle.c_num.specs.declared.IntType.TheVariants as I
use Rattle.c_num.specs.declared.BinOp.TheVariants as B
use Rattle.c_num.specs.Types.{common_of}
use Rattle.c_typed.specs.Typed as T
use Rattle.c_typed.specs.Typed.{Value, Values, Object, Stmt, SwitchItems, FunctionDef}
use Rattle.ref_semantics.specs.Values.{Scalar, IntegerValue, FunctionValue, PointerValue, integer_of, place_of}
use Rattle.ref_semantics.specs.Store.{TypeEnvironment, Eval}
use Rattle.ref_semantics.specs.Meaning.{Calls, Completion, Normal, is_true, converted, step_operator, step_amount, step_result, At, after_body, main_value, given_back}
use Rattle.ref_semantics.specs.First.{main_type}
use Rattle.ref_semantics.specs.Parts as parts
use Rattle.ref_semantics.specs.Parts.{Part, Next, ValuePart, ObjectPart, AddressPart, FunctionPart, StmtPart, BodyPart, Comes, Enters, AsSecond, AsRight, AsWhole}
use Rattle.ref_semantics.specs.Steps as steps
use Rattle.ref_semantics.specs.Steps.{Given, Loop, Callee, Task, Frame, Config, ScalarGiven, WayGiven}
use Rattle.ref_semantics.proofs.Budgets.{Lawful, then_lawful, give_lawful, over_lawful, entered_lawful, entered_times_lawful, happened_lawful, choice_lawful, way_or_lawful}
use Rattle.ref_semantics.proofs.BudgetSteps.{accessed_lawful, added_lawful, element_lawful, repointed_lawful, tested_lawful, compared_pointers_lawful, difference_lawful, read_lawful, write_lawful, library_lawful, arithmetic_lawful, bind_lawful, block_rest_lawful, leave_lawful}
use Rattle.ref_semantics.proofs.Regular.{strict_regular, loop_regular}
use Rattle.ref_semantics.proofs.RegularTrees.{CallsRegular, for_body, do_condition_regular, for_step_regular, while_turn_strict, do_turn_strict, for_turn_strict, value_strict, stmt_strict, optional_regular, value_lawful, values_lawful, find_lawful, address_lawful, designated_lawful, declare_all_lawful, stmt_lawful, block_lawful, switch_lawful, used_value_regular, calls-regular}

-- ---- operators

value_next_lawful : (around : TypeEnvironment) (v : Value) (a : Scalar) → Lawful (parts.value_next around v a)
value_next_lawful around (T.Read place object) a = then_lawful (read_lawful around place (place_of a)) (λ b. give_lawful _)
value_next_lawful around (T.Repointed place target operand) a = then_lawful (repointed_lawful around place target a) (λ b. give_lawful _)
value_next_lawful around (T.Tested place operand) a = then_lawful (tested_lawful place a) (λ b. give_lawful _)
value_next_lawful around (T.Minus place int_type operand) a = then_lawful (arithmetic_lawful B.Sub int_type place (IntegerValue (pos 0)) a) (λ b. give_lawful (Comes b))
value_next_lawful around (T.StepInteger stepping place int_type object) a =
    then_lawful (then_lawful (read_lawful around place (place_of a)) (λ old.
    then_lawful (arithmetic_lawful (step_operator stepping) (common_of int_type I.Int) place (converted (common_of int_type I.Int) old) (IntegerValue (pos 1))) (λ c.
    then_lawful (write_lawful around place (place_of a) (converted int_type c)) (λ new. give_lawful (step_result stepping old new))))) (λ b. give_lawful (Comes b))
value_next_lawful around (T.StepPointer stepping place object) a =
    then_lawful (then_lawful (read_lawful around place (place_of a)) (λ old.
    then_lawful (added_lawful place old (step_amount stepping)) (λ c. then_lawful (write_lawful around place (place_of a) c) (λ new. give_lawful (step_result stepping old new))))) (λ b. give_lawful (Comes b))
value_next_lawful around _ a = give_lawful _

object_next_lawful : (around : TypeEnvironment) (object : Object) (a : Scalar) → Lawful (parts.object_next around object a)
object_next_lawful around (T.Pointed place pointer) a = then_lawful (accessed_lawful place a) (λ p. give_lawful _)
object_next_lawful around (T.PointedMember place pointer number) a = then_lawful (accessed_lawful place a) (λ p. give_lawful _)
object_next_lawful around _ a = give_lawful _

next_lawful : (around : TypeEnvironment) (part : Part) (a : Scalar) → Lawful (parts.next_of around part a)
next_lawful around (ValuePart v) a = value_next_lawful around v a
next_lawful around (ObjectPart object) a = object_next_lawful around object a
next_lawful around (AddressPart object) a = object_next_lawful around object a
next_lawful around _ a = give_lawful _

value_of_both_lawful : (around : TypeEnvironment) (v : Value) (a b : Scalar) → Lawful (parts.value_of_both around v a b)
value_of_both_lawful around (T.Arithmetic op place int_type left right) a b = arithmetic_lawful op int_type place a b
value_of_both_lawful around (T.ComparePointers relation place left right) a b = compared_pointers_lawful around relation place a b
value_of_both_lawful around (T.PointerPlus place pointer number) a b = added_lawful place a _
value_of_both_lawful around (T.NumberPlus place number pointer) a b = added_lawful place b _
value_of_both_lawful around (T.PointerMinus place pointer number) a b = added_lawful place a _
value_of_both_lawful around (T.PointerDifference place left right) a b = difference_lawful place a b
value_of_both_lawful around (T.Assign place object operand) a b = write_lawful around place (place_of a) b
value_of_both_lawful around (T.AssignArithmetic op place object_type int_type object operand) a b =
    then_lawful (read_lawful around place (place_of a)) (λ old. then_lawful (arithmetic_lawful op int_type place (converted int_type old) b) (λ c. write_lawful around place (place_of a) (converted object_type c)))
value_of_both_lawful around (T.AssignMoved is_minus place object number) a b =
    then_lawful (read_lawful around place (place_of a)) (λ old. then_lawful (added_lawful place old (if is_minus then neg_ℤ (integer_of b) else integer_of b)) (λ c. write_lawful around place (place_of a) c))
value_of_both_lawful around _ a b = give_lawful _

object_of_both_lawful : (object : Object) (a b : Scalar) → Lawful (parts.object_of_both object a b)
object_of_both_lawful (T.Element place pointer number) a b = then_lawful (element_lawful place a _) (λ p. give_lawful _)
object_of_both_lawful (T.ElementOf place number pointer) a b = then_lawful (element_lawful place b _) (λ p. give_lawful _)
object_of_both_lawful _ a b = give_lawful _

address_of_both_lawful : (object : Object) (a b : Scalar) → Lawful (parts.address_of_both object a b)
address_of_both_lawful (T.Element place pointer number) a b = added_lawful place a _
address_of_both_lawful (T.ElementOf place number pointer) a b = added_lawful place b _
address_of_both_lawful _ a b = give_lawful _

both_lawful : (around : TypeEnvironment) (part : Part) (a b : Scalar) → Lawful (parts.both_of around part a b)
both_lawful around (ValuePart v) a b = value_of_both_lawful around v a b
both_lawful around (ObjectPart object) a b = object_of_both_lawful object a b
both_lawful around (AddressPart object) a b = address_of_both_lawful object a b
both_lawful around _ a b = give_lawful _

-- ---- labels

fitting_lawful : (z : ℤ) (items : SwitchItems) → Lawful (steps.fitting z items)
fitting_lawful z T.SwitchEnd = give_lawful _
fitting_lawful z (T.Case label others) = entered_lawful (choice_lawful (int_eq z label) (give_lawful _) (fitting_lawful z others))
fitting_lawful z (T.Default others) = fitting_lawful z others
fitting_lawful z (T.SwitchStmt one others) = fitting_lawful z others

-- ---- within the function that runs

module _ (around : TypeEnvironment) (functions : List FunctionDef) (calls : Calls) (regular : CallsRegular calls) where
  part_lawful : (part : Part) {rest : Given → Eval Scalar} → ((given : Given) → Lawful (rest given)) → Lawful (steps.part_then around functions calls part rest)
  part_lawful (ValuePart v) each = then_lawful (value_lawful around calls regular v) (λ a. each (ScalarGiven a))
  part_lawful (ObjectPart object) each = then_lawful (find_lawful around calls regular object) (λ p. each (ScalarGiven (PointerValue p)))
  part_lawful (AddressPart object) each = then_lawful (address_lawful around calls regular object) (λ a. each (ScalarGiven a))
  part_lawful (FunctionPart function) each = then_lawful (designated_lawful around calls regular function) (λ a. each (ScalarGiven a))
  part_lawful (StmtPart s) each = then_lawful (stmt_lawful around calls regular s) (λ way. each (WayGiven way))
  part_lawful (BodyPart function) each = then_lawful (entered_lawful (block_lawful around calls regular function.body)) (λ way. each (WayGiven way))

  next_then_lawful : (part : Part) (a : Scalar) (next : Next) {rest : Given → Eval Scalar} → ((given : Given) → Lawful (rest given)) → Lawful (steps.next_then around functions calls part a next rest)
  next_then_lawful part a (Comes b) each = each (ScalarGiven b)
  next_then_lawful part a (Enters v AsSecond) each = then_lawful (value_lawful around calls regular v) (λ b. then_lawful (both_lawful around part a b) (λ c. each (ScalarGiven c)))
  next_then_lawful part a (Enters v AsRight) each = then_lawful (value_lawful around calls regular v) (λ b. each _)
  next_then_lawful part a (Enters v AsWhole) each = then_lawful (value_lawful around calls regular v) (λ b. each (ScalarGiven b))

  applied_lawful : (callee : Callee) (given : List Scalar) → Lawful (steps.applied around functions calls callee given)
  applied_lawful (steps.Own is_used place c_type function) given = (regular place is_used c_type function given).lawful
  applied_lawful (steps.FromLibrary function place) given = library_lawful around function place given

  called_lawful : (callee : Callee) (given : List Scalar) (others : Values) → Lawful (steps.called_with around functions calls callee given others)
  called_lawful callee given others = then_lawful (values_lawful around calls regular others) (λ more. applied_lawful callee (given ++ more))

  looping_lawful : (l : Loop) → Lawful (steps.looping around functions calls l)
  looping_lawful (steps.WhileLoop condition body) = (loop_regular (while_turn_strict around calls regular condition body)).lawful
  looping_lawful (steps.DoLoop body condition) = (loop_regular (do_turn_strict around calls regular body condition)).lawful
  looping_lawful (steps.ForLoop condition step body) = (loop_regular (for_turn_strict around calls regular condition step body)).lawful

  turned_lawful : (l : Loop) (way : Option Completion) → Lawful (steps.turned around functions calls l way)
  turned_lawful l way = way_or_lawful way (looping_lawful l)

  asked_lawful : (l : Loop) (c : Scalar) → Lawful (steps.asked around functions calls l c)
  asked_lawful (steps.WhileLoop condition body) c =
      then_lawful (choice_lawful (is_true c) (then_lawful (stmt_lawful around calls regular body) (λ way. give_lawful _)) (give_lawful _)) (turned_lawful (steps.WhileLoop condition body))
  asked_lawful (steps.DoLoop body condition) c = turned_lawful (steps.DoLoop body condition) _
  asked_lawful (steps.ForLoop condition step body) c =
      then_lawful (choice_lawful (is_true c) (for_body (stmt_strict around calls regular body) (optional_regular around calls regular step)).lawful (give_lawful _)) (turned_lawful (steps.ForLoop condition step body))

  performed_lawful : (l : Loop) (way : Completion) → Lawful (steps.performed around functions calls l way)
  performed_lawful (steps.WhileLoop condition body) way = turned_lawful (steps.WhileLoop condition body) (after_body way)
  performed_lawful (steps.DoLoop body condition) way = then_lawful (do_condition_regular (after_body way) (strict_regular (value_strict around calls regular condition))).lawful (turned_lawful (steps.DoLoop body condition))
  performed_lawful (steps.ForLoop condition step body) way = then_lawful (for_step_regular (after_body way) (optional_regular around calls regular step)).lawful (turned_lawful (steps.ForLoop condition step body))

  chosen_lawful : (c : Bool) (taken : Stmt) (otherwise : Option Stmt) → Lawful (steps.chosen around functions calls c taken otherwise)
  chosen_lawful true taken otherwise = stmt_lawful around calls regular taken
  chosen_lawful false taken (Some otherwise) = stmt_lawful around calls regular otherwise
  chosen_lawful false taken None = give_lawful Normal

  items_lawful : (items : Option SwitchItems) → Lawful (steps.items_or_none around functions calls items)
  items_lawful (Some items) = switch_lawful around calls regular (At 0) items
  items_lawful None = give_lawful Normal

  searched_lawful : (z : ℤ) (items : SwitchItems) (default : Option SwitchItems) → Lawful (steps.searched around functions calls z items default)
  searched_lawful z items default = then_lawful (fitting_lawful z items) (λ found. items_lawful (steps.first_of found (steps.first_of default (steps.default_of items))))

  frame_lawful : (frame : Frame) (given : Given) {rest : Given → Eval Scalar} → ((given : Given) → Lawful (rest given)) → Lawful (steps.frame_then around functions calls frame given rest)
  frame_lawful (steps.First part) given each = then_lawful (next_lawful around part _) (λ next. next_then_lawful part _ next each)
  frame_lawful (steps.Second part a) given each = then_lawful (both_lawful around part a _) (λ b. each (ScalarGiven b))
  frame_lawful steps.Right given each = each _
  frame_lawful (steps.ForFunction is_used place c_type arguments) given each = then_lawful (called_lawful (steps.Own is_used place c_type _) [] arguments) (λ a. each (ScalarGiven a))
  frame_lawful (steps.ForArgument callee before others) given each = then_lawful (called_lawful callee _ others) (λ a. each (ScalarGiven a))
  frame_lawful steps.ToDrop given each = each _
  frame_lawful (steps.ToChoose taken otherwise) given each = then_lawful (chosen_lawful _ taken otherwise) (λ way. each (WayGiven way))
  frame_lawful (steps.ToSearch items) given each = then_lawful (then_lawful (searched_lawful _ items None) (λ way. give_lawful _)) (λ way. each (WayGiven way))
  frame_lawful steps.ToReturn given each = each _
  frame_lawful (steps.ToHold place) given each = then_lawful (write_lawful around _ place _) (λ b. each _)
  frame_lawful (steps.Items items) given each = then_lawful (block_rest_lawful _ (block_lawful around calls regular items)) (λ way. each (WayGiven way))
  frame_lawful (steps.CaseItems items) given each = then_lawful (block_rest_lawful _ (switch_lawful around calls regular (At 0) items)) (λ way. each (WayGiven way))
  frame_lawful (steps.Locals locals l) given each = then_lawful (then_lawful (declare_all_lawful around calls regular locals) (λ begun. looping_lawful l)) (λ way. each (WayGiven way))
  frame_lawful steps.Switched given each = each _
  frame_lawful (steps.Condition l) given each = then_lawful (asked_lawful l _) (λ way. each (WayGiven way))
  frame_lawful (steps.Body l) given each = then_lawful (performed_lawful l _) (λ way. each (WayGiven way))
  frame_lawful (steps.NextTurn l) given each = then_lawful (looping_lawful l) (λ way. each (WayGiven way))
  frame_lawful (steps.Scope count) given each = then_lawful (leave_lawful _ count) (λ way. each (WayGiven way))
  frame_lawful (steps.Running function is_used place locals) given each = each given

-- ---- the calls that are nested

module _ (around : TypeEnvironment) (functions : List FunctionDef) where
  returned_lawful : (function : FunctionDef) (is_used : Bool) (place : Pos) (locals : List ℕ) (way : Completion) → Lawful (steps.returned around functions function is_used place locals way)
  returned_lawful function is_used place locals way =
      let back = happened_lawful (Runs.Returned ∷ []) (used_value_regular place is_used function.result (main_value function.name (given_back way))).lawful in
      record { later = λ state more. back.later _ more; keeps = λ state. back.keeps _ }

  resume_lawful : (depth : ℕ) (frames : List Frame) (given : Given) → Lawful (steps.resume around functions depth frames given)
  resume_lawful depth [] given = over_lawful _
  resume_lawful depth (steps.Running function is_used place locals ∷ frames) given = then_lawful (returned_lawful function is_used place locals (steps.way_of given)) (λ a. resume_lawful (suc depth) frames (ScalarGiven a))
  resume_lawful depth (frame ∷ frames) given = frame_lawful around functions _ (calls-regular around functions depth) frame given (resume_lawful depth frames)

  task_lawful : (depth : ℕ) (task : Task) {rest : Given → Eval Scalar} → ((given : Given) → Lawful (rest given)) → Lawful (steps.task_then around functions depth task rest)
  task_lawful depth steps.Start each = then_lawful (calls-regular around functions depth (record { line = 1; column = 1 }) true main_type (FunctionValue (codes "main")) []).lawful (λ a. each (ScalarGiven a))
  task_lawful depth (steps.Enter part) each = part_lawful around functions _ (calls-regular around functions depth) part each
  task_lawful depth (steps.EnterName function place arguments groups) each =
      then_lawful (entered_times_lawful groups (entered_lawful (called_lawful around functions _ (calls-regular around functions depth) (steps.FromLibrary function place) [] arguments))) (λ a. each (ScalarGiven a))
  task_lawful depth (steps.Apply callee given) each = then_lawful (applied_lawful around functions _ (calls-regular around functions depth) callee given) (λ a. each (ScalarGiven a))
  task_lawful depth (steps.Bind function types given) each =
      then_lawful (then_lawful (bind_lawful around types given) (λ bound. entered_lawful (block_lawful around _ (calls-regular around functions depth) function.body))) (λ way. each (WayGiven way))
  task_lawful depth (steps.Search z items default) each = then_lawful (searched_lawful around functions _ (calls-regular around functions depth) z items default) (λ way. each (WayGiven way))
  task_lawful depth (steps.Give given) each = each given
  task_lawful depth (steps.Over final) each = over_lawful final

  pub goes_lawful : (config : Config) → Lawful (steps.goes_on around functions config)
  goes_lawful config = task_lawful config.depth config.task (resume_lawful config.depth config.frames)
