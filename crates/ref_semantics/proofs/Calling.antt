-- To evaluate arguments, to call, to give parameters their values and to return, and then to do what is left, is what was left.
use Rattle.std.proofs.Common.{◌≡◌, ℕ, zero, suc, Bool, true, false, not, if◌then◌else◌, List, [], ◌∷◌, ◌++◌, Option, Some, None, refl, sym, append_assoc, append-nil}
use Rattle.run_theory.specs.declared.place.Pos.{Pos}
use Rattle.run_theory.specs.declared.ends.UbKind.TheVariants as Ub
use Rattle.run_theory.specs.Runs as Runs
use Rattle.c_typed.specs.Types.{CType, same_type}
use Rattle.c_typed.specs.Typed as T
use Rattle.c_typed.specs.Typed.{Values, FunctionDef}
use Rattle.c_typed.specs.declared.typed.LibraryFunction.{LibraryFunction}
use Rattle.ref_semantics.specs.Values.{Scalar, FunctionValue}
use Rattle.ref_semantics.specs.Store.{TypeEnvironment, State, Outcome, Then, Stopped, Eval, continue_with, ◌>>=◌, give, undefined, tick, ticks, emit}
use Rattle.ref_semantics.specs.Library.{library}
use Rattle.ref_semantics.specs.Meaning.{Completion, value, values, block, new_local, stored_first, bind, function_from, call_known, bodies_within, used_value, main_value, given_back, within_own}
use Rattle.ref_semantics.specs.Steps.{Given, ScalarGiven, WayGiven, Callee, Own, FromLibrary, EnterName, Apply, Bind, Frame, ForFunction, ForArgument, Running, Config, scalar_of, way_of, calls_within, applied, called_with, returned, resume, task_then, goes_on, next_task, came, next_argument, enter_name, begin_call, make_known, make_call, apply, bind_next, take}
use Rattle.ref_semantics.proofs.Binding.{Same, same_self, same_then, same_back, same_path, then_behind, then_same, first_same, entered_same}
use Rattle.ref_semantics.proofs.Entering.{then_gives}

module _ (around : TypeEnvironment) (functions : List FunctionDef) where
  -- ---- arguments

  pub arguments_go : (config : Config) (callee : Callee) (given : List Scalar) (others : Values) →
      Same (called_with around functions (calls_within around functions config.depth) callee given others >>= λ a. resume around functions config.depth config.frames (ScalarGiven a)) (goes_on around functions (next_argument around functions callee given others config))
  arguments_go config callee given T.NoValues =
      same_path (λ i. applied around functions (calls_within around functions config.depth) callee (append-nil given i) >>= λ a. resume around functions config.depth config.frames (ScalarGiven a))
  arguments_go config callee given (T.MoreValues first others) =
      let calls = calls_within around functions config.depth in
      let rest = λ (a : Scalar). resume around functions config.depth config.frames (ScalarGiven a) in
      same_then (first_same rest (then_behind (value around calls first) (λ a. values around calls others >>= λ more. give (a ∷ more)) (λ more. applied around functions calls callee (given ++ more))
      (λ a. then_behind (values around calls others) (λ more. give (a ∷ more)) (λ more. applied around functions calls callee (given ++ more))
      (λ more. same_path (λ i. applied around functions calls callee (sym (append_assoc given (a ∷ []) more) i))))))
      (then_behind (value around calls first) (λ a. called_with around functions calls callee (given ++ a ∷ []) others) rest (λ a. same_self))

  pub function_takes : (config : Config) (is_used : Bool) (place : Pos) (c_type : CType) (arguments : Values) (given : Given) →
      Same (resume around functions config.depth (ForFunction is_used place c_type arguments ∷ config.frames) given) (take around functions (ForFunction is_used place c_type arguments) given config >>= goes_on around functions)
  function_takes config is_used place c_type arguments given = arguments_go config (Own is_used place c_type (scalar_of given)) [] arguments

  pub argument_takes : (config : Config) (callee : Callee) (before : List Scalar) (others : Values) (given : Given) →
      Same (resume around functions config.depth (ForArgument callee before others ∷ config.frames) given) (take around functions (ForArgument callee before others) given config >>= goes_on around functions)
  argument_takes config callee before others given = arguments_go config callee (before ++ scalar_of given ∷ []) others

  -- the name of a library function
  pub name_enters : (config : Config) (function : LibraryFunction) (place : Pos) (arguments : Values) (groups : ℕ) →
      Same (task_then around functions config.depth (EnterName function place arguments groups) (resume around functions config.depth config.frames)) (tick (give (enter_name around functions function place arguments groups config)) >>= goes_on around functions)
  name_enters config function place arguments zero =
      entered_same (called_with around functions (calls_within around functions config.depth) (FromLibrary function place) [] arguments) (λ a. resume around functions config.depth config.frames (ScalarGiven a))
      (give (enter_name around functions function place arguments zero config)) (goes_on around functions) (arguments_go config (FromLibrary function place) [] arguments)
  name_enters config function place arguments (suc groups) =
      entered_same (ticks groups (tick (called_with around functions (calls_within around functions config.depth) (FromLibrary function place) [] arguments))) (λ a. resume around functions config.depth config.frames (ScalarGiven a))
      (give (enter_name around functions function place arguments (suc groups) config)) (goes_on around functions) same_self

  -- ---- calls

  -- a function's body ends: within the call as it is meant, and behind the frame that waits for it
  call_ends : (function : FunctionDef) (is_used : Bool) (here : Pos) (rest : Scalar → Eval Scalar) (before : State) (outcome : Outcome Completion) →
      continue_with rest (continue_with (used_value here is_used function.result) (continue_with (λ result. emit (Runs.Returned ∷ []) (give result)) (continue_with (λ way. give (main_value function.name (given_back way))) (within_own (λ state. outcome) before))))
      ≡ continue_with (λ way. returned around functions function is_used here before.locals way >>= rest) outcome
  call_ends function is_used here rest before (Then way after) = refl
  call_ends function is_used here rest before (Stopped answer after) = refl

  body_goes : (depth : ℕ) (frames : List Frame) (is_used : Bool) (here : Pos) (number : ℕ) (function : FunctionDef) (given : List Scalar) →
      Same ((bodies_within around functions depth number function given >>= λ result. used_value here is_used function.result result) >>= λ a. resume around functions depth frames (ScalarGiven a))
      (begin_call around functions is_used here number function given frames depth >>= goes_on around functions)
  unfolding bodies_within
  body_goes zero frames is_used here number function given = same_self
  body_goes (suc depth) frames is_used here number function given = record {
    from = λ state.
        call_ends function is_used here (λ a. resume around functions (suc depth) frames (ScalarGiven a)) (record state { trace = state.trace ++ (Runs.Called number ∷ []) })
        ((bind around function.parameters given >>= λ bound. tick (block around (calls_within around functions depth) function.body)) (record state { trace = state.trace ++ (Runs.Called number ∷ []); locals = [] }));
  }

  known_choice : (config : Config) (is_used : Bool) (here : Pos) (found : ℕ × FunctionDef) (given : List Scalar) (fails : Bool) →
      Same ((if fails then undefined Ub.U14 here else (bodies_within around functions config.depth found.0 found.1 given >>= λ result. used_value here is_used found.1.result result)) >>= λ a. resume around functions config.depth config.frames (ScalarGiven a))
      ((if fails then undefined Ub.U14 here else begin_call around functions is_used here found.0 found.1 given config.frames config.depth) >>= goes_on around functions)
  known_choice config is_used here found given true = same_self
  known_choice config is_used here found given false = body_goes config.depth config.frames is_used here found.0 found.1 given

  known_goes : (config : Config) (is_used : Bool) (here : Pos) (c_type : CType) (given : List Scalar) (found : Option (ℕ × FunctionDef)) →
      Same (call_known (bodies_within around functions config.depth) here is_used c_type given found >>= λ a. resume around functions config.depth config.frames (ScalarGiven a))
      (make_known around functions is_used here c_type given config found >>= goes_on around functions)
  known_goes config is_used here c_type given None = same_self
  known_goes config is_used here c_type given (Some found) = known_choice config is_used here found given (not (same_type found.1.c_type c_type))

  pub call_goes : (config : Config) (is_used : Bool) (here : Pos) (c_type : CType) (function : Scalar) (given : List Scalar) →
      Same (calls_within around functions config.depth here is_used c_type function given >>= λ a. resume around functions config.depth config.frames (ScalarGiven a))
      (make_call around functions is_used here c_type function given config >>= goes_on around functions)
  call_goes config is_used here c_type (FunctionValue name) given = known_goes config is_used here c_type given (function_from 0 functions name)
  call_goes config is_used here c_type function given = same_self

  pub apply_goes : (config : Config) (callee : Callee) (given : List Scalar) →
      Same (task_then around functions config.depth (Apply callee given) (resume around functions config.depth config.frames)) (apply around functions callee given config >>= goes_on around functions)
  apply_goes config (Own is_used place c_type function) given = call_goes config is_used place c_type function given
  apply_goes config (FromLibrary function place) given = then_gives (library around function place given) (λ a. came around functions (ScalarGiven a) config) (goes_on around functions) (λ a. same_self)

  -- ---- parameters

  pub bind_goes : (config : Config) (function : FunctionDef) (types : List CType) (given : List Scalar) →
      Same (task_then around functions config.depth (Bind function types given) (resume around functions config.depth config.frames)) (bind_next around functions function types given config >>= goes_on around functions)
  bind_goes config function (c_type ∷ types) (a ∷ given) =
      let inner = λ (bound : Completion). tick (block around (calls_within around functions config.depth) function.body) in
      let rest = λ (way : Completion). resume around functions config.depth config.frames (WayGiven way) in
      let later = λ (way : Completion). bind around types given in
      let next = λ (way : Completion). next_task around functions (Bind function types given) config in
      same_then (first_same rest (same_then (then_behind (new_local c_type) (λ p. stored_first around p (Some a) >>= later) inner (λ p. same_self))
      (then_same (new_local c_type) (λ p. then_behind (stored_first around p (Some a)) later inner (λ way. same_self)))))
      (same_then (then_behind (new_local c_type) (λ p. stored_first around p (Some a) >>= λ way. bind around types given >>= inner) rest (λ p. same_self))
      (same_then (then_same (new_local c_type) (λ p. same_then (then_behind (stored_first around p (Some a)) (λ way. bind around types given >>= inner) rest (λ way. same_self))
      (then_gives (stored_first around p (Some a)) next (goes_on around functions) (λ way. same_self))))
      (same_back (then_behind (new_local c_type) (λ p. stored_first around p (Some a) >>= λ way. give (next way)) (goes_on around functions) (λ p. same_self)))))
  bind_goes config function types given = same_self

  -- ---- returning

  pub running_takes : (config : Config) (function : FunctionDef) (is_used : Bool) (place : Pos) (locals : List ℕ) (given : Given) →
      Same (resume around functions config.depth (Running function is_used place locals ∷ config.frames) given) (take around functions (Running function is_used place locals) given config >>= goes_on around functions)
  running_takes config function is_used place locals given =
      then_gives (returned around functions function is_used place locals (way_of given)) (λ a. came around functions (ScalarGiven a) (record config { depth = suc config.depth })) (goes_on around functions) (λ a. same_self)
