-- To begin a turn of a loop, to ask its condition and to end a turn, and then to do what is left, is what was left.
use Rattle.std.proofs.Common.{ℕ, Bool, true, false, if◌then◌else◌, List, ◌∷◌, Option, Some, None}
use Rattle.c_typed.specs.Typed.{Value, Stmt, FunctionDef}
use Rattle.ref_semantics.specs.Values.{Scalar}
use Rattle.ref_semantics.specs.Store.{TypeEnvironment, Eval, ◌>>=◌, give}
use Rattle.ref_semantics.specs.Meaning.{Calls, Completion, Normal, is_true, value, stmt, after_body, optional_value, holds, do_condition, for_step}
use Rattle.ref_semantics.proofs.Shrinking.{Spends, loop-unfolds}
use Rattle.ref_semantics.proofs.RegularTrees.{while_turn_strict, do_turn_strict, for_turn_strict, calls-regular}
use Rattle.ref_semantics.specs.Steps.{Given, WayGiven, Loop, WhileLoop, DoLoop, ForLoop, Condition, Body, NextTurn, Config, scalar_of, way_of, calls_within, turn_of, looping, turned, asked, performed, resume, goes_on, begin_turn, ask, end_turn, body_done, take}
use Rattle.ref_semantics.proofs.Binding.{Same, same_self, same_then, then_behind, first_same}

module _ (around : TypeEnvironment) (functions : List FunctionDef) where
  abbrev pub calls_of : Config → Calls
  calls_of config = calls_within around functions config.depth

  abbrev pub way_goes : Config → Completion → Eval Scalar
  way_goes config way = resume around functions config.depth config.frames (WayGiven way)

  turn_spends : (depth : ℕ) (l : Loop) → Spends (turn_of around functions (calls_within around functions depth) l)
  turn_spends depth (WhileLoop condition body) = (while_turn_strict around (calls_within around functions depth) (calls-regular around functions depth) condition body).spends
  turn_spends depth (DoLoop body condition) = (do_turn_strict around (calls_within around functions depth) (calls-regular around functions depth) body condition).spends
  turn_spends depth (ForLoop condition step body) = (for_turn_strict around (calls_within around functions depth) (calls-regular around functions depth) condition step body).spends

  -- a loop is one turn and the loop again
  loop_same : (config : Config) (l : Loop) → Same (looping around functions (calls_of config) l) (turn_of around functions (calls_of config) l >>= turned around functions (calls_of config) l)
  loop_same config l = record { from = λ state. loop-unfolds (turn_of around functions (calls_of config) l) (turn_spends config.depth l) state }

  -- a turn whose first operand is followed by the others
  turn_goes : {A : Type 0} (config : Config) (l : Loop) (first : Eval A) (others : A → Eval (Option Completion)) → Same (turn_of around functions (calls_of config) l) (first >>= others) →
      Same (looping around functions (calls_of config) l >>= way_goes config) (first >>= λ a. others a >>= turned around functions (calls_of config) l >>= way_goes config)
  turn_goes config l first others p =
      same_then (first_same (way_goes config) (same_then (loop_same config l) (same_then (first_same (turned around functions (calls_of config) l) p) (then_behind first others (turned around functions (calls_of config) l) (λ a. same_self)))))
      (then_behind first (λ a. others a >>= turned around functions (calls_of config) l) (way_goes config) (λ a. same_self))

  pub loop_goes : (config : Config) (l : Loop) → Same (looping around functions (calls_of config) l >>= way_goes config) (goes_on around functions (begin_turn around functions l config))
  loop_goes config (WhileLoop condition body) =
      turn_goes config (WhileLoop condition body) (value around (calls_of config) condition) (λ c. if is_true c then (stmt around (calls_of config) body >>= λ way. give (after_body way)) else give (Some Normal)) same_self
  loop_goes config (DoLoop body condition) =
      turn_goes config (DoLoop body condition) (stmt around (calls_of config) body) (λ way. do_condition (after_body way) (value around (calls_of config) condition)) same_self
  loop_goes config (ForLoop None step body) =
      turn_goes config (ForLoop None step body) (stmt around (calls_of config) body) (λ way. for_step (after_body way) (optional_value (value around (calls_of config)) step)) same_self
  loop_goes config (ForLoop (Some condition) step body) =
      turn_goes config (ForLoop (Some condition) step body) (value around (calls_of config) condition)
      (λ c. if is_true c then (stmt around (calls_of config) body >>= λ way. for_step (after_body way) (optional_value (value around (calls_of config)) step)) else give (Some Normal))
      (then_behind (value around (calls_of config) condition) (λ a. give (Some a))
      (λ c. if holds c then (stmt around (calls_of config) body >>= λ way. for_step (after_body way) (optional_value (value around (calls_of config)) step)) else give (Some Normal)) (λ a. same_self))

  -- ---- the condition is known

  while_asks : (config : Config) (condition : Value) (body : Stmt) (c : Bool) →
      Same ((if c then (stmt around (calls_of config) body >>= λ way. give (after_body way)) else give (Some Normal)) >>= turned around functions (calls_of config) (WhileLoop condition body) >>= way_goes config)
      (goes_on around functions (ask around functions (WhileLoop condition body) c config))
  while_asks config condition body true =
      same_then (first_same (way_goes config) (then_behind (stmt around (calls_of config) body) (λ way. give (after_body way)) (turned around functions (calls_of config) (WhileLoop condition body)) (λ way. same_self)))
      (then_behind (stmt around (calls_of config) body) (λ way. performed around functions (calls_of config) (WhileLoop condition body) way) (way_goes config) (λ way. same_self))
  while_asks config condition body false = same_self

  do_asks : (config : Config) (body : Stmt) (condition : Value) (c : Bool) →
      Same (turned around functions (calls_of config) (DoLoop body condition) (if c then None else Some Normal) >>= way_goes config) (goes_on around functions (ask around functions (DoLoop body condition) c config))
  do_asks config body condition true = loop_goes config (DoLoop body condition)
  do_asks config body condition false = same_self

  for_asks : (config : Config) (condition step : Option Value) (body : Stmt) (c : Bool) →
      Same ((if c then (stmt around (calls_of config) body >>= λ way. for_step (after_body way) (optional_value (value around (calls_of config)) step)) else give (Some Normal)) >>= turned around functions (calls_of config) (ForLoop condition step body) >>= way_goes config)
      (goes_on around functions (ask around functions (ForLoop condition step body) c config))
  for_asks config condition step body true =
      same_then (first_same (way_goes config) (then_behind (stmt around (calls_of config) body) (λ way. for_step (after_body way) (optional_value (value around (calls_of config)) step)) (turned around functions (calls_of config) (ForLoop condition step body)) (λ way. same_self)))
      (then_behind (stmt around (calls_of config) body) (λ way. performed around functions (calls_of config) (ForLoop condition step body) way) (way_goes config) (λ way. same_self))
  for_asks config condition step body false = same_self

  pub condition_takes : (config : Config) (l : Loop) (given : Given) → Same (resume around functions config.depth (Condition l ∷ config.frames) given) (take around functions (Condition l) given config >>= goes_on around functions)
  condition_takes config (WhileLoop condition body) given = while_asks config condition body (is_true (scalar_of given))
  condition_takes config (DoLoop body condition) given = do_asks config body condition (is_true (scalar_of given))
  condition_takes config (ForLoop condition step body) given = for_asks config condition step body (is_true (scalar_of given))

  -- ---- the body has ended

  while_ends : (config : Config) (condition : Value) (body : Stmt) (ended : Option Completion) →
      Same (turned around functions (calls_of config) (WhileLoop condition body) ended >>= way_goes config) (goes_on around functions (body_done around functions (WhileLoop condition body) ended config))
  while_ends config condition body (Some way) = same_self
  while_ends config condition body None = loop_goes config (WhileLoop condition body)

  do_ends : (config : Config) (body : Stmt) (condition : Value) (ended : Option Completion) →
      Same (do_condition ended (value around (calls_of config) condition) >>= turned around functions (calls_of config) (DoLoop body condition) >>= way_goes config) (goes_on around functions (body_done around functions (DoLoop body condition) ended config))
  do_ends config body condition (Some way) = same_self
  do_ends config body condition None =
      same_then (first_same (way_goes config) (then_behind (value around (calls_of config) condition) (λ c. give (if is_true c then None else Some Normal)) (turned around functions (calls_of config) (DoLoop body condition)) (λ c. same_self)))
      (then_behind (value around (calls_of config) condition) (λ c. asked around functions (calls_of config) (DoLoop body condition) c) (way_goes config) (λ c. same_self))

  for_steps : (config : Config) (condition step : Option Value) (body : Stmt) →
      Same (for_step None (optional_value (value around (calls_of config)) step) >>= turned around functions (calls_of config) (ForLoop condition step body) >>= way_goes config) (goes_on around functions (end_turn around functions (ForLoop condition step body) config))
  for_steps config condition None body = loop_goes config (ForLoop condition None body)
  for_steps config condition (Some v) body =
      let next = turned around functions (calls_of config) (ForLoop condition (Some v) body) in
      same_then (first_same (way_goes config) (same_then (first_same next (then_behind (value around (calls_of config) v) (λ a. give (Some a)) (λ a. give None) (λ a. same_self))) (then_behind (value around (calls_of config) v) (λ a. give None) next (λ a. same_self))))
      (then_behind (value around (calls_of config) v) (λ a. looping around functions (calls_of config) (ForLoop condition (Some v) body)) (way_goes config) (λ a. same_self))

  for_ends : (config : Config) (condition step : Option Value) (body : Stmt) (ended : Option Completion) →
      Same (for_step ended (optional_value (value around (calls_of config)) step) >>= turned around functions (calls_of config) (ForLoop condition step body) >>= way_goes config) (goes_on around functions (body_done around functions (ForLoop condition step body) ended config))
  for_ends config condition step body (Some way) = same_self
  for_ends config condition step body None = for_steps config condition step body

  pub body_takes : (config : Config) (l : Loop) (given : Given) → Same (resume around functions config.depth (Body l ∷ config.frames) given) (take around functions (Body l) given config >>= goes_on around functions)
  body_takes config (WhileLoop condition body) given = while_ends config condition body (after_body (way_of given))
  body_takes config (DoLoop body condition) given = do_ends config body condition (after_body (way_of given))
  body_takes config (ForLoop condition step body) given = for_ends config condition step body (after_body (way_of given))

  pub next_turn_takes : (config : Config) (l : Loop) (given : Given) → Same (resume around functions config.depth (NextTurn l ∷ config.frames) given) (take around functions (NextTurn l) given config >>= goes_on around functions)
  next_turn_takes config l given = loop_goes config l
