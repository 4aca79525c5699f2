-- To make a step and then do what is left is what was left.
use Rattle.std.specs.Prelude.{codes}
use Rattle.std.proofs.Common.{◌≡◌, ℕ, true, List, [], ◌∷◌}
use Rattle.c_typed.specs.Typed.{FunctionDef}
use Rattle.ref_semantics.specs.Values.{FunctionValue}
use Rattle.ref_semantics.specs.Store.{TypeEnvironment, State, ◌>>=◌}
use Rattle.ref_semantics.specs.First.{main_type}
use Rattle.ref_semantics.specs.Parts.{Part, ValuePart, ObjectPart, AddressPart, FunctionPart, StmtPart, BodyPart}
use Rattle.ref_semantics.specs.Steps.{Given, Task, Start, Enter, EnterName, Apply, Bind, Search, Give, Over, Frame, First, Second, Right, ForFunction, ForArgument, ToDrop, ToChoose, ToSearch, ToReturn, ToHold, Items, CaseItems, Locals, Switched, Condition, Body, NextTurn, Scope, Running, Config, calls_within, part_then, resume, goes_on, enter_part, take, take_first, step_task, step}
use Rattle.ref_semantics.proofs.Binding.{Same, same_self}
use Rattle.ref_semantics.proofs.Entering.{value_enters, object_enters, address_enters, designator_enters, first_takes, second_takes}
use Rattle.ref_semantics.proofs.Calling.{function_takes, argument_takes, name_enters, call_goes, apply_goes, bind_goes, running_takes}
use Rattle.ref_semantics.proofs.Searching.{search_goes}
use Rattle.ref_semantics.proofs.Looping.{condition_takes, body_takes, next_turn_takes}
use Rattle.ref_semantics.proofs.Performing.{locals_take, hold_takes, items_take, case_items_take, choose_takes, search_takes, scope_takes, statement_enters, body_enters}

module _ (around : TypeEnvironment) (functions : List FunctionDef) where
  part_enters : (config : Config) (part : Part) →
      Same (part_then around functions (calls_within around functions config.depth) part (resume around functions config.depth config.frames)) (enter_part around functions part config >>= goes_on around functions)
  part_enters config (ValuePart v) = value_enters around functions config v
  part_enters config (ObjectPart object) = object_enters around functions config object
  part_enters config (AddressPart object) = address_enters around functions config object
  part_enters config (FunctionPart function) = designator_enters around functions config function
  part_enters config (StmtPart s) = statement_enters around functions config s
  part_enters config (BodyPart function) = body_enters around functions config function

  frame_takes : (config : Config) (frame : Frame) (given : Given) → Same (resume around functions config.depth (frame ∷ config.frames) given) (take around functions frame given config >>= goes_on around functions)
  frame_takes config (First part) given = first_takes around functions config part given
  frame_takes config (Second part a) given = second_takes around functions config part a given
  frame_takes config Right given = same_self
  frame_takes config (ForFunction is_used place c_type arguments) given = function_takes around functions config is_used place c_type arguments given
  frame_takes config (ForArgument callee before others) given = argument_takes around functions config callee before others given
  frame_takes config ToDrop given = same_self
  frame_takes config (ToChoose taken otherwise) given = choose_takes around functions config taken otherwise given
  frame_takes config (ToSearch items) given = search_takes around functions config items given
  frame_takes config ToReturn given = same_self
  frame_takes config (ToHold place) given = hold_takes around functions config place given
  frame_takes config (Items items) given = items_take around functions config items given
  frame_takes config (CaseItems items) given = case_items_take around functions config items given
  frame_takes config (Locals locals l) given = locals_take around functions config locals l given
  frame_takes config Switched given = same_self
  frame_takes config (Condition l) given = condition_takes around functions config l given
  frame_takes config (Body l) given = body_takes around functions config l given
  frame_takes config (NextTurn l) given = next_turn_takes around functions config l given
  frame_takes config (Scope count) given = scope_takes around functions config count given
  frame_takes config (Running function is_used place locals) given = running_takes around functions config function is_used place locals given

  frames_take : (depth : ℕ) (task : Task) (frames : List Frame) (given : Given) →
      Same (resume around functions depth frames given) (take_first around functions frames given (record { task = task; frames = frames; depth = depth }) >>= goes_on around functions)
  frames_take depth task [] given = same_self
  frames_take depth task (frame ∷ frames) given = frame_takes (record { task = task; frames = frames; depth = depth }) frame given

  task_goes : (depth : ℕ) (frames : List Frame) (task : Task) →
      Same (goes_on around functions (record { task = task; frames = frames; depth = depth })) (step_task around functions task (record { task = task; frames = frames; depth = depth }) >>= goes_on around functions)
  task_goes depth frames Start = call_goes around functions (record { task = Start; frames = frames; depth = depth }) true (record { line = 1; column = 1 }) main_type (FunctionValue (codes "main")) []
  task_goes depth frames (Enter part) = part_enters (record { task = Enter part; frames = frames; depth = depth }) part
  task_goes depth frames (EnterName function place arguments groups) = name_enters around functions (record { task = EnterName function place arguments groups; frames = frames; depth = depth }) function place arguments groups
  task_goes depth frames (Apply callee given) = apply_goes around functions (record { task = Apply callee given; frames = frames; depth = depth }) callee given
  task_goes depth frames (Bind function types given) = bind_goes around functions (record { task = Bind function types given; frames = frames; depth = depth }) function types given
  task_goes depth frames (Search z items default) = search_goes around functions (record { task = Search z items default; frames = frames; depth = depth }) z items default
  task_goes depth frames (Give given) = frames_take depth (Give given) frames given
  task_goes depth frames (Over final) = same_self

pub step-agrees : (around : TypeEnvironment) (functions : List FunctionDef) (config : Config) (state : State) → goes_on around functions config state ≡ (step around functions config >>= goes_on around functions) state
step-agrees around functions config state = (task_goes around functions config.depth config.frames config.task).from state
