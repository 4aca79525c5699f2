-- What is done next, what waits for it, and a step.
use Rattle.std.specs.Prelude.{ℕ, zero, suc, Bool, true, false, not, if◌then◌else◌, List, [], ◌∷◌, ◌++◌, length, Option, Some, None, ℤ, codes}
use Rattle.std.specs.Ordering.{int_eq}
use Rattle.run_theory.specs.declared.place.Pos.{Pos}
use Rattle.run_theory.specs.declared.ends.UbKind.TheVariants as Ub
use Rattle.run_theory.specs.Runs as Runs
use Rattle.run_theory.specs.Runs.{Final, DepthReached}
use Rattle.c_typed.specs.Types.{CType, same_type}
use Rattle.c_typed.specs.Typed as T
use Rattle.c_typed.specs.Typed.{Value, Values, Stmt, Block, SwitchItems, LocalDef, ForStart, FunctionDef}
use Rattle.c_typed.specs.declared.typed.LibraryFunction.{LibraryFunction}
use Rattle.ref_semantics.specs.Values.{Place, Scalar, NullValue, FunctionValue, PointerValue, integer_of}
use Rattle.ref_semantics.specs.Store.{TypeEnvironment, Eval, ◌>>=◌, give, halt, undefined, tick, ticks, emit, premise, unless}
use Rattle.ref_semantics.specs.Pointers.{truth, write}
use Rattle.ref_semantics.specs.Library.{library, low_byte}
use Rattle.ref_semantics.specs.Meaning
use Rattle.ref_semantics.specs.Meaning.{Calls, Completion, Normal, Break, Continue, Return, is_true, value, values, find, address, designated, stmt, block, switch_from, At, after_body, way_or, optional_value, holds, new_local, declare_all, do_condition, for_step, block_rest, broken_out, leave, killed, bind, function_from, call_named, bodies_within, used_value, main_value, given_back, named, local_place}
use Rattle.ref_semantics.specs.First.{main_type}
use Rattle.ref_semantics.specs.Parts.{Part, ValuePart, ObjectPart, AddressPart, FunctionPart, StmtPart, BodyPart, spends, Entry, Gives, FindsLocal, Finds, Becomes, Awaits, CallsLibrary, entry_of, AsSecond, AsRight, AsWhole, Next, Comes, Enters, next_of, both_of}

-- what a part comes to
pub data Given : Type 0 where
  ScalarGiven : (a : Scalar) → Given
  WayGiven : (way : Completion) → Given

abbrev pub scalar_of : Given → Scalar
scalar_of (ScalarGiven a) = a
scalar_of (WayGiven way) = NullValue

abbrev pub way_of : Given → Completion
way_of (ScalarGiven a) = Normal
way_of (WayGiven way) = way

-- a loop behind its beginning
pub data Loop : Type 0 where
  WhileLoop : (condition : Value) (body : Stmt) → Loop
  DoLoop : (body : Stmt) (condition : Value) → Loop
  ForLoop : (condition step : Option Value) (body : Stmt) → Loop

-- what is called
pub data Callee : Type 0 where
  Own : (is_used : Bool) (place : Pos) (c_type : CType) (function : Scalar) → Callee
  FromLibrary : (function : LibraryFunction) (place : Pos) → Callee

-- what is done next
pub data Task : Type 0 where
  Start : Task
  Enter : (part : Part) → Task
  -- the called name of a library function is tick, and so many parentheses around it before
  EnterName : (function : LibraryFunction) (place : Pos) (arguments : Values) (groups : ℕ) → Task
  Apply : (callee : Callee) (given : List Scalar) → Task
  -- parameters get their values, and then the body is performed
  Bind : (function : FunctionDef) (types : List CType) (given : List Scalar) → Task
  -- a label that fits is looked for among these items of a `switch`; here are those from `default` on
  Search : (z : ℤ) (items : SwitchItems) (default : Option SwitchItems) → Task
  Give : (given : Given) → Task
  Over : (final : Final) → Task

-- what waits
pub data Frame : Type 0 where
  -- an expression, for its first operand, or for its second one
  First : (part : Part) → Frame
  Second : (part : Part) (a : Scalar) → Frame
  -- `&&` or `||`, for its right operand
  Right : Frame
  -- a call, for its function, or for its next argument
  ForFunction : (is_used : Bool) (place : Pos) (c_type : CType) (arguments : Values) → Frame
  ForArgument : (callee : Callee) (given : List Scalar) (others : Values) → Frame
  -- statements, for a value
  ToDrop : Frame
  ToChoose : (taken : Stmt) (otherwise : Option Stmt) → Frame
  ToSearch : (items : SwitchItems) → Frame
  ToReturn : Frame
  -- a local, for its first value
  ToHold : (place : Place) → Frame
  -- items behind the one that is performed
  Items : (items : Block) → Frame
  CaseItems : (items : SwitchItems) → Frame
  Locals : (locals : List LocalDef) (loop : Loop) → Frame
  -- a `switch`, for its items
  Switched : Frame
  -- a loop, for its condition, its body, or what goes before the next turn
  Condition : (loop : Loop) → Frame
  Body : (loop : Loop) → Frame
  NextTurn : (loop : Loop) → Frame
  -- a scope, whose locals die at its end, until so many are left
  Scope : (count : ℕ) → Frame
  -- a function that runs, with the locals of its caller
  Running : (function : FunctionDef) (is_used : Bool) (place : Pos) (locals : List ℕ) → Frame

-- the innermost waits in front; and how many calls may still nest
pub record Config : Type 0 where
  pub task : Task
  pub frames : List Frame
  pub depth : ℕ

-- ---- what is left to do, as an evaluation

-- the items from the label that fits on
abbrev pub fitting : ℤ → SwitchItems → Eval (Option SwitchItems)
fitting z T.SwitchEnd = give None
fitting z (T.Case label others) = tick (if int_eq z label then give (Some (T.Case label others)) else fitting z others)
fitting z (T.Default others) = fitting z others
fitting z (T.SwitchStmt one others) = fitting z others

abbrev pub first_of : Option SwitchItems → Option SwitchItems → Option SwitchItems
first_of (Some items) other = Some items
first_of None other = other

abbrev pub default_of : SwitchItems → Option SwitchItems
default_of T.SwitchEnd = None
default_of (T.Case label others) = default_of others
default_of (T.Default others) = Some (T.Default others)
default_of (T.SwitchStmt one others) = default_of others

module _ (around : TypeEnvironment) (functions : List FunctionDef) where
  abbrev pub calls_within : ℕ → Calls
  calls_within depth = call_named functions (bodies_within around functions depth)

  module _ (calls : Calls) where
    abbrev pub scalar_then : Eval Scalar → (Given → Eval Scalar) → Eval Scalar
    scalar_then eval rest = eval >>= λ a. rest (ScalarGiven a)

    abbrev pub way_then : Eval Completion → (Given → Eval Scalar) → Eval Scalar
    way_then eval rest = eval >>= λ way. rest (WayGiven way)

    abbrev pub part_then : Part → (Given → Eval Scalar) → Eval Scalar
    part_then (ValuePart v) rest = scalar_then (value around calls v) rest
    part_then (ObjectPart object) rest = find around calls object >>= λ p. rest (ScalarGiven (PointerValue p))
    part_then (AddressPart object) rest = scalar_then (address around calls object) rest
    part_then (FunctionPart function) rest = scalar_then (designated around calls function) rest
    part_then (StmtPart s) rest = way_then (stmt around calls s) rest
    part_then (BodyPart function) rest = way_then (tick (block around calls function.body)) rest

    -- what an expression comes to once its first operand is known
    abbrev pub next_then : Part → Scalar → Next → (Given → Eval Scalar) → Eval Scalar
    next_then part a (Comes b) rest = rest (ScalarGiven b)
    next_then part a (Enters v AsSecond) rest = value around calls v >>= λ b. scalar_then (both_of around part a b) rest
    next_then part a (Enters v AsRight) rest = value around calls v >>= λ b. rest (ScalarGiven (truth (is_true b)))
    next_then part a (Enters v AsWhole) rest = scalar_then (value around calls v) rest

    abbrev pub applied : Callee → List Scalar → Eval Scalar
    applied (Own is_used place c_type function) given = calls place is_used c_type function given
    applied (FromLibrary function place) given = library around function place given

    -- the arguments that are left are evaluated, and then the call is made
    abbrev pub called_with : Callee → List Scalar → Values → Eval Scalar
    called_with callee given others = values around calls others >>= λ more. applied callee (given ++ more)

    abbrev pub turn_of : Loop → Eval (Option Completion)
    turn_of (WhileLoop condition body) = value around calls condition >>= λ c. if is_true c then (stmt around calls body >>= λ way. give (after_body way)) else give (Some Normal)
    turn_of (DoLoop body condition) = stmt around calls body >>= λ way. do_condition (after_body way) (value around calls condition)
    turn_of (ForLoop condition step body) =
        optional_value (value around calls) condition >>= λ c.
        if holds c then (stmt around calls body >>= λ way. for_step (after_body way) (optional_value (value around calls) step)) else give (Some Normal)

    abbrev pub looping : Loop → Eval Completion
    looping l = Meaning.loop (turn_of l)

    -- the loop behind a turn that ended so
    abbrev pub turned : Loop → Option Completion → Eval Completion
    turned l way = way_or way (looping l)

    abbrev pub asked : Loop → Scalar → Eval Completion
    asked (WhileLoop condition body) c = (if is_true c then (stmt around calls body >>= λ way. give (after_body way)) else give (Some Normal)) >>= turned (WhileLoop condition body)
    asked (DoLoop body condition) c = turned (DoLoop body condition) (if is_true c then None else Some Normal)
    asked (ForLoop condition step body) c =
        (if is_true c then (stmt around calls body >>= λ way. for_step (after_body way) (optional_value (value around calls) step)) else give (Some Normal)) >>= turned (ForLoop condition step body)

    abbrev pub performed : Loop → Completion → Eval Completion
    performed (WhileLoop condition body) way = turned (WhileLoop condition body) (after_body way)
    performed (DoLoop body condition) way = do_condition (after_body way) (value around calls condition) >>= turned (DoLoop body condition)
    performed (ForLoop condition step body) way = for_step (after_body way) (optional_value (value around calls) step) >>= turned (ForLoop condition step body)

    abbrev pub chosen : Bool → Stmt → Option Stmt → Eval Completion
    chosen true taken otherwise = stmt around calls taken
    chosen false taken (Some otherwise) = stmt around calls otherwise
    chosen false taken None = give Normal

    abbrev pub items_or_none : Option SwitchItems → Eval Completion
    items_or_none (Some items) = switch_from around calls (At 0) items
    items_or_none None = give Normal

    abbrev pub searched : ℤ → SwitchItems → Option SwitchItems → Eval Completion
    searched z items default = fitting z items >>= λ found. items_or_none (first_of found (first_of default (default_of items)))

    -- what is done with what a frame waits for, within the function that runs
    abbrev pub frame_then : Frame → Given → (Given → Eval Scalar) → Eval Scalar
    frame_then (First part) given rest = next_of around part (scalar_of given) >>= λ next. next_then part (scalar_of given) next rest
    frame_then (Second part a) given rest = scalar_then (both_of around part a (scalar_of given)) rest
    frame_then Right given rest = rest (ScalarGiven (truth (is_true (scalar_of given))))
    frame_then (ForFunction is_used place c_type arguments) given rest = scalar_then (called_with (Own is_used place c_type (scalar_of given)) [] arguments) rest
    frame_then (ForArgument callee before others) given rest = scalar_then (called_with callee (before ++ scalar_of given ∷ []) others) rest
    frame_then ToDrop given rest = rest (WayGiven Normal)
    frame_then (ToChoose taken otherwise) given rest = way_then (chosen (is_true (scalar_of given)) taken otherwise) rest
    frame_then (ToSearch items) given rest = way_then (searched (integer_of (scalar_of given)) items None >>= λ way. give (broken_out way)) rest
    frame_then ToReturn given rest = rest (WayGiven (Return (Some (scalar_of given))))
    frame_then (ToHold place) given rest = write around (record { line = 1; column = 1 }) place (scalar_of given) >>= λ b. rest (WayGiven Normal)
    frame_then (Items items) given rest = way_then (block_rest (way_of given) (block around calls items)) rest
    frame_then (CaseItems items) given rest = way_then (block_rest (way_of given) (switch_from around calls (At 0) items)) rest
    frame_then (Locals locals l) given rest = way_then (declare_all around calls locals >>= λ begun. looping l) rest
    frame_then Switched given rest = rest (WayGiven (broken_out (way_of given)))
    frame_then (Condition l) given rest = way_then (asked l (scalar_of given)) rest
    frame_then (Body l) given rest = way_then (performed l (way_of given)) rest
    frame_then (NextTurn l) given rest = way_then (looping l) rest
    frame_then (Scope count) given rest = way_then (leave (way_of given) count) rest
    frame_then (Running function is_used place locals) given rest = rest given

  -- a function returns: its locals die, and those of its caller are in scope again
  abbrev pub returned : FunctionDef → Bool → Pos → List ℕ → Completion → Eval Scalar
  returned function is_used place locals way state =
      emit (Runs.Returned ∷ []) (used_value place is_used function.result (main_value function.name (given_back way)))
      (record state { objects = killed 0 state.locals state.objects; locals = locals })

  -- what waits, with what the innermost waits for, where calls may nest so deep
  abbrev pub resume : ℕ → List Frame → Given → Eval Scalar
  resume depth [] given = halt (Runs.Ended (low_byte (scalar_of given)))
  resume depth (Running function is_used place locals ∷ frames) given =
      returned function is_used place locals (way_of given) >>= λ a. resume (suc depth) frames (ScalarGiven a)
  resume depth (frame ∷ frames) given = frame_then (calls_within depth) frame given (resume depth frames)

  abbrev pub task_then : ℕ → Task → (Given → Eval Scalar) → Eval Scalar
  task_then depth Start rest = calls_within depth (record { line = 1; column = 1 }) true main_type (FunctionValue (codes "main")) [] >>= λ a. rest (ScalarGiven a)
  task_then depth (Enter part) rest = part_then (calls_within depth) part rest
  task_then depth (EnterName function place arguments groups) rest =
      ticks groups (tick (called_with (calls_within depth) (FromLibrary function place) [] arguments)) >>= λ a. rest (ScalarGiven a)
  task_then depth (Apply callee given) rest = applied (calls_within depth) callee given >>= λ a. rest (ScalarGiven a)
  task_then depth (Bind function types given) rest = (bind around types given >>= λ bound. tick (block around (calls_within depth) function.body)) >>= λ way. rest (WayGiven way)
  task_then depth (Search z items default) rest = searched (calls_within depth) z items default >>= λ way. rest (WayGiven way)
  task_then depth (Give given) rest = rest given
  task_then depth (Over final) rest = halt final

  -- what is left to do
  abbrev pub goes_on : Config → Eval Scalar
  goes_on config = task_then config.depth config.task (resume config.depth config.frames)

  -- ---- steps

  abbrev pub next_task : Task → Config → Config
  next_task task config = record config { task = task }

  abbrev pub enters : Part → Config → Config
  enters part config = next_task (Enter part) config

  abbrev pub came : Given → Config → Config
  came given config = next_task (Give given) config

  abbrev pub waits : Frame → Config → Config
  waits frame config = record config { frames = frame ∷ config.frames }

  -- the frame in which an expression waits for the first that it enters
  abbrev pub first_frame : Part → Frame
  first_frame (ValuePart (T.Call is_used place function c_type arguments)) = ForFunction is_used place c_type arguments
  first_frame part = First part

  abbrev pub named_call : Part → ℕ → Config → Config
  named_call (ValuePart (T.LibraryCall function groups' place arguments)) groups config = next_task (EnterName function place arguments groups) config
  named_call part groups config = came (ScalarGiven NullValue) config

  abbrev pub evaluate : Part → Config → Entry → Eval Config
  evaluate part config (Gives a) = give (came (ScalarGiven a) config)
  evaluate part config (FindsLocal number) = local_place number >>= λ p. give (came (ScalarGiven (PointerValue p)) config)
  evaluate part config (Finds name) = named name >>= λ p. give (came (ScalarGiven (PointerValue p)) config)
  evaluate part config (Becomes other) = give (enters other config)
  evaluate part config (Awaits other) = give (enters other (waits (first_frame part) config))
  evaluate part config (CallsLibrary groups) = give (named_call part groups config)

  -- a turn begins with the condition, where there is one before the body
  abbrev pub begin_turn : Loop → Config → Config
  begin_turn (WhileLoop condition body) config = enters (ValuePart condition) (waits (Condition (WhileLoop condition body)) config)
  begin_turn (DoLoop body condition) config = enters (StmtPart body) (waits (Body (DoLoop body condition)) config)
  begin_turn (ForLoop (Some condition) step body) config = enters (ValuePart condition) (waits (Condition (ForLoop (Some condition) step body)) config)
  begin_turn (ForLoop None step body) config = enters (StmtPart body) (waits (Body (ForLoop None step body)) config)

  abbrev pub body_of : Loop → Stmt
  body_of (WhileLoop condition body) = body
  body_of (DoLoop body condition) = body
  body_of (ForLoop condition step body) = body

  abbrev pub in_scope : (Config → Config) → Config → Eval Config
  in_scope inside config state = give (inside (waits (Scope (length state.locals)) config)) state

  abbrev pub begin_for : ForStart → Loop → Config → Config
  begin_for T.StartNothing l config = came (WayGiven Normal) (waits (NextTurn l) config)
  begin_for (T.StartValue v) l config = enters (ValuePart v) (waits (NextTurn l) config)
  begin_for (T.StartLocals locals) l config = came (WayGiven Normal) (waits (Locals locals l) config)

  abbrev pub perform : Stmt → Config → Eval Config
  perform (T.BlockStmt items) config = in_scope (λ inner. came (WayGiven Normal) (waits (Items items) inner)) config
  perform T.Empty config = give (came (WayGiven Normal) config)
  perform (T.Expression v) config = give (enters (ValuePart v) (waits ToDrop config))
  perform (T.If condition taken) config = give (enters (ValuePart condition) (waits (ToChoose taken None) config))
  perform (T.IfElse condition taken otherwise) config = give (enters (ValuePart condition) (waits (ToChoose taken (Some otherwise)) config))
  perform (T.While condition body) config = give (begin_turn (WhileLoop condition body) config)
  perform (T.DoWhile body condition) config = give (begin_turn (DoLoop body condition) config)
  perform (T.For begin condition step body) config = in_scope (begin_for begin (ForLoop condition step body)) config
  perform (T.Switch v items) config = give (enters (ValuePart v) (waits (ToSearch items) config))
  perform T.Break config = give (came (WayGiven Break) config)
  perform T.Continue config = give (came (WayGiven Continue) config)
  perform (T.Return None) config = give (came (WayGiven (Return None)) config)
  perform (T.Return (Some v)) config = give (enters (ValuePart v) (waits ToReturn config))

  abbrev pub begin_part : Part → Config → Eval Config
  begin_part (StmtPart s) config = perform s config
  begin_part (BodyPart function) config = give (came (WayGiven Normal) (waits (Items function.body) config))
  begin_part part config = evaluate part config (entry_of part)

  abbrev pub enter_part : Part → Config → Eval Config
  enter_part part config = if spends part then tick (begin_part part config) else begin_part part config

  -- the arguments that are left, one by one
  abbrev pub next_argument : Callee → List Scalar → Values → Config → Config
  next_argument callee given T.NoValues config = next_task (Apply callee given) config
  next_argument callee given (T.MoreValues first others) config = enters (ValuePart first) (waits (ForArgument callee given others) config)

  abbrev pub enter_name : LibraryFunction → Pos → Values → ℕ → Config → Config
  enter_name function place arguments zero config = next_argument (FromLibrary function place) [] arguments config
  enter_name function place arguments (suc groups) config = next_task (EnterName function place arguments groups) config

  -- a function's own locals begin anew
  abbrev pub opened : (List ℕ → Config) → Eval Config
  opened next state = give (next state.locals) (record state { locals = [] })

  abbrev pub begin_call : Bool → Pos → ℕ → FunctionDef → List Scalar → List Frame → ℕ → Eval Config
  begin_call is_used here number function given frames zero = halt DepthReached
  begin_call is_used here number function given frames (suc depth) =
      emit (Runs.Called number ∷ []) (opened (λ locals. record { task = Bind function function.parameters given; frames = Running function is_used here locals ∷ frames; depth = depth }))

  abbrev pub make_known : Bool → Pos → CType → List Scalar → Config → Option (ℕ × FunctionDef) → Eval Config
  make_known is_used here c_type given config None = give (came (ScalarGiven NullValue) config)
  make_known is_used here c_type given config (Some found) =
      unless here (premise (not (same_type found.1.c_type c_type)) Ub.U14 ∷ []) (begin_call is_used here found.0 found.1 given config.frames config.depth)

  abbrev pub make_call : Bool → Pos → CType → Scalar → List Scalar → Config → Eval Config
  make_call is_used here c_type (FunctionValue name) given config = make_known is_used here c_type given config (function_from 0 functions name)
  make_call is_used here c_type _ given config = undefined Ub.U15 here

  abbrev pub apply : Callee → List Scalar → Config → Eval Config
  apply (Own is_used place c_type function) given config = make_call is_used place c_type function given config
  apply (FromLibrary function place) given config = library around function place given >>= λ a. give (came (ScalarGiven a) config)

  abbrev pub bind_next : FunctionDef → List CType → List Scalar → Config → Eval Config
  bind_next function (c_type ∷ types) (a ∷ given) config =
      new_local c_type >>= λ p. Meaning.stored_first around p (Some a) >>= λ way. give (next_task (Bind function types given) config)
  bind_next function _ _ config = give (enters (BodyPart function) config)

  abbrev pub go_in : Option SwitchItems → Config → Config
  go_in (Some items) config = came (WayGiven Normal) (waits (CaseItems items) config)
  go_in None config = came (WayGiven Normal) config

  abbrev pub search : ℤ → SwitchItems → Option SwitchItems → Config → Eval Config
  search z T.SwitchEnd default config = give (go_in default config)
  search z (T.Case label others) default config = tick (give (if int_eq z label then go_in (Some (T.Case label others)) config else next_task (Search z others default) config))
  search z (T.Default others) default config = give (next_task (Search z others (first_of default (Some (T.Default others)))) config)
  search z (T.SwitchStmt one others) default config = give (next_task (Search z others default) config)

  -- an expression, where its first operand is known
  abbrev pub goes : Part → Scalar → Next → Config → Config
  goes part a (Comes b) config = came (ScalarGiven b) config
  goes part a (Enters v AsSecond) config = enters (ValuePart v) (waits (Second part a) config)
  goes part a (Enters v AsRight) config = enters (ValuePart v) (waits Right config)
  goes part a (Enters v AsWhole) config = enters (ValuePart v) config

  abbrev pub choose : Bool → Stmt → Option Stmt → Config → Config
  choose true taken otherwise config = enters (StmtPart taken) config
  choose false taken (Some otherwise) config = enters (StmtPart otherwise) config
  choose false taken None config = came (WayGiven Normal) config

  -- a local begins to live, and then its first value is evaluated
  abbrev pub first_value : Option Value → Config → Place → Config
  first_value (Some v) config place = enters (ValuePart v) (waits (ToHold place) config)
  first_value None config place = came (WayGiven Normal) config

  abbrev pub declared : LocalDef → Config → Eval Config
  declared local config = new_local local.c_type >>= λ p. give (first_value local.first config p)

  abbrev pub next_item : Block → Config → Eval Config
  next_item T.Close config = give (came (WayGiven Normal) config)
  next_item (T.Declare local others) config = declared local (waits (Items others) config)
  next_item (T.Perform one others) config = give (enters (StmtPart one) (waits (Items others) config))

  abbrev pub next_case_item : SwitchItems → Config → Config
  next_case_item T.SwitchEnd config = came (WayGiven Normal) config
  next_case_item (T.Case label others) config = came (WayGiven Normal) (waits (CaseItems others) config)
  next_case_item (T.Default others) config = came (WayGiven Normal) (waits (CaseItems others) config)
  next_case_item (T.SwitchStmt one others) config = enters (StmtPart one) (waits (CaseItems others) config)

  abbrev pub next_start : List LocalDef → Loop → Config → Eval Config
  next_start [] l config = give (begin_turn l config)
  next_start (local ∷ others) l config = declared local (waits (Locals others l) config)

  -- what follows a statement: what is behind it, where it goes on
  abbrev pub behind : Completion → Eval Config → Config → Eval Config
  behind Normal rest config = rest
  behind way rest config = give (came (WayGiven way) config)

  abbrev pub turn_body : Loop → Config → Config
  turn_body l config = enters (StmtPart (body_of l)) (waits (Body l) config)

  abbrev pub ask : Loop → Bool → Config → Config
  ask l true config = turn_body l config
  ask l false config = came (WayGiven Normal) config

  -- what follows the body of a turn that goes on
  abbrev pub end_turn : Loop → Config → Config
  end_turn (DoLoop body condition) config = enters (ValuePart condition) (waits (Condition (DoLoop body condition)) config)
  end_turn (ForLoop condition (Some step) body) config = enters (ValuePart step) (waits (NextTurn (ForLoop condition (Some step) body)) config)
  end_turn l config = begin_turn l config

  abbrev pub body_done : Loop → Option Completion → Config → Config
  body_done l (Some way) config = came (WayGiven way) config
  body_done l None config = end_turn l config

  -- what the innermost does with what it waits for; the others wait in the configuration
  abbrev pub take : Frame → Given → Config → Eval Config
  take (First part) given config = next_of around part (scalar_of given) >>= λ next. give (goes part (scalar_of given) next config)
  take (Second part a) given config = both_of around part a (scalar_of given) >>= λ b. give (came (ScalarGiven b) config)
  take Right given config = give (came (ScalarGiven (truth (is_true (scalar_of given)))) config)
  take (ForFunction is_used place c_type arguments) given config = give (next_argument (Own is_used place c_type (scalar_of given)) [] arguments config)
  take (ForArgument callee before others) given config = give (next_argument callee (before ++ scalar_of given ∷ []) others config)
  take ToDrop given config = give (came (WayGiven Normal) config)
  take (ToChoose taken otherwise) given config = give (choose (is_true (scalar_of given)) taken otherwise config)
  take (ToSearch items) given config = give (next_task (Search (integer_of (scalar_of given)) items None) (waits Switched config))
  take ToReturn given config = give (came (WayGiven (Return (Some (scalar_of given)))) config)
  take (ToHold place) given config = write around (record { line = 1; column = 1 }) place (scalar_of given) >>= λ b. give (came (WayGiven Normal) config)
  take (Items items) given config = behind (way_of given) (next_item items config) config
  take (CaseItems items) given config = behind (way_of given) (give (next_case_item items config)) config
  take (Locals locals l) given config = next_start locals l config
  take Switched given config = give (came (WayGiven (broken_out (way_of given))) config)
  take (Condition l) given config = give (ask l (is_true (scalar_of given)) config)
  take (Body l) given config = give (body_done l (after_body (way_of given)) config)
  take (NextTurn l) given config = give (begin_turn l config)
  take (Scope count) given config = leave (way_of given) count >>= λ way. give (came (WayGiven way) config)
  take (Running function is_used place locals) given config =
      returned function is_used place locals (way_of given) >>= λ a. give (came (ScalarGiven a) (record config { depth = suc config.depth }))

  abbrev pub take_first : List Frame → Given → Config → Eval Config
  take_first [] given config = give (next_task (Over (Runs.Ended (low_byte (scalar_of given)))) config)
  take_first (frame ∷ frames) given config = take frame given (record config { frames = frames })

  -- a step
  abbrev pub step_task : Task → Config → Eval Config
  step_task Start config = make_call true (record { line = 1; column = 1 }) main_type (FunctionValue (codes "main")) [] config
  step_task (Enter part) config = enter_part part config
  step_task (EnterName function place arguments groups) config = tick (give (enter_name function place arguments groups config))
  step_task (Apply callee given) config = apply callee given config
  step_task (Bind function types given) config = bind_next function types given config
  step_task (Search z items default) config = search z items default config
  step_task (Give given) config = take_first config.frames given config
  step_task (Over final) config = give config

  abbrev pub step : Config → Eval Config
  step config = step_task config.task config
