-- To enter an expression and then do what is left is what was left; and so is to go on behind its operands.
use Rattle.std.proofs.Common.{ℕ, Bool, true, false, if◌then◌else◌, List, ◌∷◌}
use Rattle.c_typed.specs.Typed as T
use Rattle.c_typed.specs.Typed.{Value, Object, Designator, FunctionDef}
use Rattle.ref_semantics.specs.Values.{Scalar, PointerValue}
use Rattle.ref_semantics.specs.Store.{TypeEnvironment, Eval, ◌>>=◌, give, tick}
use Rattle.ref_semantics.specs.Pointers.{truth}
use Rattle.ref_semantics.specs.Meaning.{is_true, value, find, named, local_place}
use Rattle.ref_semantics.specs.Parts.{Part, ValuePart, ObjectPart, AddressPart, FunctionPart, StmtPart, BodyPart, spends, Entry, Gives, FindsLocal, Finds, Becomes, Awaits, CallsLibrary, entry_of, AsSecond, AsRight, AsWhole, Next, Comes, Enters, next_of, both_of}
use Rattle.ref_semantics.specs.Steps.{Given, ScalarGiven, Frame, First, Second, Config, scalar_of, calls_within, part_then, next_then, resume, goes_on, came, goes, evaluate, enter_part, take, first_frame, named_call}
use Rattle.ref_semantics.proofs.Binding.{Same, same_self, same_then, same_back, then_behind, then_same, first_same, entered_same}
use Rattle.ref_semantics.proofs.Expressions.{meant, meant_next, meant_with, meant_library, meant_entry, Expression, part_means, Fits, entry_fits}

-- what follows an evaluation follows the step that makes it
pub then_gives : {A B C : Type 0} (eval : Eval A) (config : A → B) (goes : B → Eval C) {next : A → Eval C} → ((a : A) → Same (next a) (goes (config a))) → Same (eval >>= next) ((eval >>= λ a. give (config a)) >>= goes)
then_gives eval config goes each = same_then (then_same eval each) (same_back (then_behind eval (λ a. give (config a)) goes (λ a. same_self)))

-- a choice of evaluations that spend or don't
pub spending_same : {A B C : Type 0} (does_spend : Bool) (first : Eval A) (next : A → Eval C) (second : Eval B) (other : B → Eval C) → Same (first >>= next) (second >>= other) →
    Same ((if does_spend then tick first else first) >>= next) ((if does_spend then tick second else second) >>= other)
spending_same true first next second other p = entered_same first next second other p
spending_same false first next second other p = p

module _ (around : TypeEnvironment) (functions : List FunctionDef) where
  part_meant : (depth : ℕ) (part : Part) (rest : Given → Eval Scalar) → Expression around (calls_within around functions depth) part →
      Same (part_then around functions (calls_within around functions depth) part rest) (meant around (calls_within around functions depth) part >>= λ a. rest (ScalarGiven a))
  part_meant depth (ValuePart v) rest h = same_self
  part_meant depth (ObjectPart object) rest h =
      same_back (then_behind (find around (calls_within around functions depth) object) (λ p. give (PointerValue p)) (λ a. rest (ScalarGiven a)) (λ p. same_self))
  part_meant depth (AddressPart object) rest h = same_self
  part_meant depth (FunctionPart function) rest h = same_self
  part_meant depth (StmtPart s) rest h = absurd h
  part_meant depth (BodyPart function) rest h = absurd h

  -- an expression goes on behind its first operand
  next_goes : (config : Config) (part : Part) (a : Scalar) (next : Next) →
      Same (next_then around functions (calls_within around functions config.depth) part a next (resume around functions config.depth config.frames)) (goes_on around functions (goes around functions part a next config))
  next_goes config part a (Comes b) = same_self
  next_goes config part a (Enters v AsSecond) = same_self
  next_goes config part a (Enters v AsRight) = same_self
  next_goes config part a (Enters v AsWhole) = same_self

  next_meant : (depth : ℕ) (part : Part) (a : Scalar) (next : Next) (rest : Given → Eval Scalar) →
      Same (meant_next around (calls_within around functions depth) part a next >>= λ b. rest (ScalarGiven b)) (next_then around functions (calls_within around functions depth) part a next rest)
  next_meant depth part a (Comes b) rest = same_self
  next_meant depth part a (Enters v AsSecond) rest = then_behind (value around (calls_within around functions depth) v) (λ b. both_of around part a b) (λ b. rest (ScalarGiven b)) (λ b. same_self)
  next_meant depth part a (Enters v AsRight) rest = then_behind (value around (calls_within around functions depth) v) (λ b. give (truth (is_true b))) (λ b. rest (ScalarGiven b)) (λ b. same_self)
  next_meant depth part a (Enters v AsWhole) rest = same_self

  first_meant : (depth : ℕ) (part : Part) (a : Scalar) (frames : List Frame) →
      Same ((next_of around part a >>= meant_next around (calls_within around functions depth) part a) >>= λ b. resume around functions depth frames (ScalarGiven b)) (resume around functions depth (First part ∷ frames) (ScalarGiven a))
  first_meant depth part a frames =
      then_behind (next_of around part a) (meant_next around (calls_within around functions depth) part a) (λ b. resume around functions depth frames (ScalarGiven b)) (λ next. next_meant depth part a next (resume around functions depth frames))

  -- what waits for the first operand does with it what the expression does
  value_waits : (depth : ℕ) (v : Value) (a : Scalar) (frames : List Frame) →
      Same (meant_with around (calls_within around functions depth) (ValuePart v) a >>= λ b. resume around functions depth frames (ScalarGiven b)) (resume around functions depth (first_frame around functions (ValuePart v) ∷ frames) (ScalarGiven a))
  value_waits depth (T.Call is_used place function c_type arguments) a frames = same_self
  value_waits depth v a frames = first_meant depth (ValuePart v) a frames

  part_waits : (depth : ℕ) (part : Part) (a : Scalar) (frames : List Frame) →
      Same (meant_with around (calls_within around functions depth) part a >>= λ b. resume around functions depth frames (ScalarGiven b)) (resume around functions depth (first_frame around functions part ∷ frames) (ScalarGiven a))
  part_waits depth (ValuePart v) a frames = value_waits depth v a frames
  part_waits depth part a frames = first_meant depth part a frames

  value_library : (config : Config) (v : Value) (groups : ℕ) →
      Same (meant_library around (calls_within around functions config.depth) (ValuePart v) groups >>= λ a. resume around functions config.depth config.frames (ScalarGiven a)) (goes_on around functions (named_call around functions (ValuePart v) groups config))
  value_library config (T.Constant int_type z) groups = same_self
  value_library config v groups = same_self

  part_library : (config : Config) (part : Part) (groups : ℕ) →
      Same (meant_library around (calls_within around functions config.depth) part groups >>= λ a. resume around functions config.depth config.frames (ScalarGiven a)) (goes_on around functions (named_call around functions part groups config))
  part_library config (ValuePart v) groups = value_library config v groups
  part_library config part groups = same_self

  entry_goes : (config : Config) (part : Part) (entry : Entry) → Fits around (calls_within around functions config.depth) entry →
      Same (meant_entry around (calls_within around functions config.depth) part entry >>= λ a. resume around functions config.depth config.frames (ScalarGiven a)) (evaluate around functions part config entry >>= goes_on around functions)
  entry_goes config part (Gives a) h = same_self
  entry_goes config part (FindsLocal number) h =
      same_then (then_behind (local_place number) (λ p. give (PointerValue p)) (λ a. resume around functions config.depth config.frames (ScalarGiven a)) (λ p. same_self))
      (then_gives (local_place number) (λ p. came around functions (ScalarGiven (PointerValue p)) config) (goes_on around functions) (λ p. same_self))
  entry_goes config part (Finds name) h =
      same_then (then_behind (named name) (λ p. give (PointerValue p)) (λ a. resume around functions config.depth config.frames (ScalarGiven a)) (λ p. same_self))
      (then_gives (named name) (λ p. came around functions (ScalarGiven (PointerValue p)) config) (goes_on around functions) (λ p. same_self))
  entry_goes config part (Becomes other) h = same_back (part_meant config.depth other (resume around functions config.depth config.frames) h)
  entry_goes config part (Awaits other) h =
      same_then (then_behind (meant around (calls_within around functions config.depth) other) (meant_with around (calls_within around functions config.depth) part) (λ a. resume around functions config.depth config.frames (ScalarGiven a)) (λ a. part_waits config.depth part a config.frames))
      (same_back (part_meant config.depth other (resume around functions config.depth (first_frame around functions part ∷ config.frames)) h))
  entry_goes config part (CallsLibrary groups) h = part_library config part groups

  -- an expression is tick
  expression_enters : (config : Config) (part : Part) → Expression around (calls_within around functions config.depth) part →
      Same (part_then around functions (calls_within around functions config.depth) part (resume around functions config.depth config.frames))
      ((if spends part then tick (evaluate around functions part config (entry_of part)) else evaluate around functions part config (entry_of part)) >>= goes_on around functions)
  expression_enters config part h =
      same_then (part_meant config.depth part (resume around functions config.depth config.frames) h)
      (same_then (first_same (λ a. resume around functions config.depth config.frames (ScalarGiven a)) (part_means around (calls_within around functions config.depth) part h))
      (spending_same (spends part) (meant_entry around (calls_within around functions config.depth) part (entry_of part)) (λ a. resume around functions config.depth config.frames (ScalarGiven a))
      (evaluate around functions part config (entry_of part)) (goes_on around functions) (entry_goes config part (entry_of part) (entry_fits around (calls_within around functions config.depth) part))))

  pub value_enters : (config : Config) (v : Value) →
      Same (part_then around functions (calls_within around functions config.depth) (ValuePart v) (resume around functions config.depth config.frames)) (enter_part around functions (ValuePart v) config >>= goes_on around functions)
  value_enters config v = expression_enters config (ValuePart v) tt

  pub object_enters : (config : Config) (object : Object) →
      Same (part_then around functions (calls_within around functions config.depth) (ObjectPart object) (resume around functions config.depth config.frames)) (enter_part around functions (ObjectPart object) config >>= goes_on around functions)
  object_enters config object = expression_enters config (ObjectPart object) tt

  pub address_enters : (config : Config) (object : Object) →
      Same (part_then around functions (calls_within around functions config.depth) (AddressPart object) (resume around functions config.depth config.frames)) (enter_part around functions (AddressPart object) config >>= goes_on around functions)
  address_enters config object = expression_enters config (AddressPart object) tt

  pub designator_enters : (config : Config) (function : Designator) →
      Same (part_then around functions (calls_within around functions config.depth) (FunctionPart function) (resume around functions config.depth config.frames)) (enter_part around functions (FunctionPart function) config >>= goes_on around functions)
  designator_enters config function = expression_enters config (FunctionPart function) tt

  -- ---- frames of expressions

  pub first_takes : (config : Config) (part : Part) (given : Given) →
      Same (resume around functions config.depth (First part ∷ config.frames) given) (take around functions (First part) given config >>= goes_on around functions)
  first_takes config part given =
      then_gives (next_of around part (scalar_of given)) (λ next. goes around functions part (scalar_of given) next config) (goes_on around functions) (λ next. next_goes config part (scalar_of given) next)

  pub second_takes : (config : Config) (part : Part) (a : Scalar) (given : Given) →
      Same (resume around functions config.depth (Second part a ∷ config.frames) given) (take around functions (Second part a) given config >>= goes_on around functions)
  second_takes config part a given = then_gives (both_of around part a (scalar_of given)) (λ b. came around functions (ScalarGiven b) config) (goes_on around functions) (λ b. same_self)
