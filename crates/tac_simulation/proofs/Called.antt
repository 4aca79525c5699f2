-- What a call of a function of the program does: the point of the call enters the function that the reference finds.
use Rattle.std.proofs.Common.{◌≡◌, ◌*◌, if◌then◌else◌, ℕ, suc, ◌+◌, ◌≤◌, ◌<◌, ◌==◌, nat_lt, Bool, true, false, List, [], ◌∷◌, ◌++◌, length, Option, Some, refl, sym, ap, ◌∙◌, subst, lt-ltb, le-ltb, eq-eqb, arith}
use Rattle.std.specs.Prelude.{slice_get, bytes_eq}
use Rattle.std.proofs.lemmas.Option.{none-some, same_Some}
use Rattle.run_theory.specs.Runs
use Rattle.run_theory.specs.Runs.{To, Halt, DepthReached, Over}
use Rattle.c_typed.specs.Types.{CType, same_type}
use Rattle.c_typed.specs.Typed.{FunctionDef, Program}
use Rattle.c_typed.proofs.Same.{same_type-refl}
use Rattle.ref_semantics.specs.Values as V
use Rattle.ref_semantics.specs.Values.{Scalar}
use Rattle.ref_semantics.specs.Store as S
use Rattle.ref_semantics.specs.Meaning.{Calls, function_from}
use Rattle.tac_ir.specs.declared.register.Register.{Register}
use Rattle.tac_ir.specs.Code.{Op, Callee, Known, Through, Function, Tac}
use Rattle.tac_ir.specs.Code as O
use Rattle.tac_ir.specs.Values as M
use Rattle.tac_ir.specs.Values.{Value}
use Rattle.tac_ir.specs.Trees.{Registers}
use Rattle.tac_ir.specs.Objects.{Surroundings}
use Rattle.tac_ir.specs.States.{State, points_of, objects_of, around_of, unless_lost}
use Rattle.tac_ir.specs.Calls.{greatest_depth, all_held, enter, called}
use Rattle.tac_ir.specs.Meaning.{execute}
use Rattle.tac_build.specs.Homes.{Scope}
use Rattle.tac_build.specs.Code.{HasOp, function_number}
use Rattle.tac_build.specs.ProgramCode.{FunctionCode, FunctionsCode, Code}
use Rattle.ref_semantics.specs.Sound.{Sound}
use Rattle.tac_build.specs.Forms.{context_of}
use Rattle.tac_simulation.specs.Standing.{Placement, Frame, HoldsFor, At, surroundings}
use Rattle.tac_simulation.specs.Entered.{entered, hidden_within}
use Rattle.tac_simulation.proofs.Paths.{Stand, Passage as Passing, Passes, Does, stops, stepped, ends_seen}
use Rattle.tac_simulation.specs.Comparing.{ticks_per_unit}
use Rattle.tac_simulation.proofs.Paid.{pays}
use Rattle.tac_simulation.proofs.Spotting.{Runs, before_at, around_is}
use Rattle.tac_simulation.proofs.Entering.{at_entered, sound_entered}
use Rattle.tac_simulation.proofs.Evaluating.{AtSpot, CalleeStands, AllHold}

-- ---- the function that is called

-- the name that finds a function has its number
pub number_from : (from : ℕ) (defs : List FunctionDef) (name : List ℕ) (found : ℕ × FunctionDef) → function_from from defs name ≡ Some found → function_number from defs name ≡ Some found.0
number_from from [] name found is = absurd (none-some found is)
number_from from (first ∷ others) name found is = by (bytes_eq first.name name) is (number_from (suc from) others name found)
  where
    by : (b : Bool) → (if b then Some (from, first) else function_from (suc from) others name) ≡ Some found
        → (function_from (suc from) others name ≡ Some found → function_number (suc from) others name ≡ Some found.0)
        → (if b then Some from else function_number (suc from) others name) ≡ Some found.0
    by true is rest = ap (λ (p : ℕ × FunctionDef). Some p.0) (same_Some (from, first) found is)
    by false is rest = rest is

-- the code of a function stands at its number
pub record Coded (program : Program) (functions : List Function) (from number : ℕ) (def : FunctionDef) : Type 0 where
  pub place : ℕ
  pub number_is : number ≡ from + place
  pub function : Function
  pub is : slice_get functions place ≡ Some function
  pub code : FunctionCode program def function

pub found_coded : (program : Program) (defs : List FunctionDef) (functions : List Function) → FunctionsCode program defs functions → (from : ℕ) (name : List ℕ) (found : ℕ × FunctionDef)
    → function_from from defs name ≡ Some found → Coded program functions from found.0 found.1
found_coded program [] [] code from name found is = absurd (none-some found is)
found_coded program [] (function ∷ functions) code from name found is = absurd code
found_coded program (def ∷ defs) [] code from name found is = absurd code
found_coded program (def ∷ defs) (function ∷ functions) code from name found is = by (bytes_eq def.name name) is (found_coded program defs functions code.1 (suc from) name found)
  where
    by : (b : Bool) → (if b then Some (from, def) else function_from (suc from) defs name) ≡ Some found
        → (function_from (suc from) defs name ≡ Some found → Coded program functions (suc from) found.0 found.1) → Coded program (function ∷ functions) from found.0 found.1
    by true is rest = subst (λ (p : ℕ × FunctionDef). Coded program (function ∷ functions) from p.0 p.1) (same_Some (from, def) found is)
        (record { place = 0; number_is = omega arith; function = function; is = refl; code = code.0 })
    by false is rest = let inner = rest is in let number = inner.number_is in
        record { place = suc inner.place; number_is = omega (arith, number); function = inner.function; is = inner.is; code = inner.code }

-- ---- arguments

-- what is held stands for the arguments, one for one
abbrev pub ValuesStand : Program → S.Objects → Placement → List Value → List Scalar → Type 0
ValuesStand program objects placement [] [] = Unit {0}
ValuesStand program objects placement (value ∷ values) (scalar ∷ scalars) = HoldsFor program objects placement scalar (Some value) × ValuesStand program objects placement values scalars
ValuesStand program objects placement _ _ = ⊥

pub record Arguments (program : Program) (objects : S.Objects) (placement : Placement) (registers : Registers) (read : List Register) (given : List Scalar) : Type 0 where
  pub values : List Value
  pub held : all_held registers read ≡ Some values
  pub stand : ValuesStand program objects placement values given
  pub many : length values ≡ length read
  pub given_many : length values ≡ length given

module _ (tac : Tac) (program : Program) (calls : Calls) (worth : ℕ) (points : List Op) (placement : Placement) (hidden : ℕ → Option V.Content) (frame : Frame) (scope : Scope) where
  pub arguments_held : (objects : S.Objects) (registers : Registers) (read : List Register) (scalars : List Scalar) → AllHold tac program calls worth points placement hidden frame scope objects registers read scalars
      → Arguments program objects placement registers read scalars
  arguments_held objects registers [] [] hold = record { values = []; held = refl; stand = tt; many = refl; given_many = refl }
  arguments_held objects registers [] (scalar ∷ scalars) hold = absurd hold
  arguments_held objects registers (register ∷ others) [] hold = absurd hold
  arguments_held objects registers (register ∷ others) (scalar ∷ scalars) hold =
      let rest = arguments_held objects registers others scalars hold.1 in
      let first = hold.0.1 in
      let held = rest.held in
      record {
        values = hold.0.0 ∷ rest.values;
        held = rw (first, held) refl;
        stand = ((hold.0.0, refl, hold.0.2), rest.stand);
        many = ap suc rest.many;
        given_many = ap suc rest.given_many;
      }

  -- a pointer through which a function is called is of the function's type
  abbrev pub CalledAs : Callee → CType → Type 0
  CalledAs (Known number) c_type = Unit {0}
  CalledAs (Through register own) c_type = own ≡ c_type

  pub called_is : (around : Surroundings) (callee : Callee) (c_type : CType) (objects : S.Objects) (registers : Registers) (name : List ℕ) (number : ℕ) (function : Function)
      → CalledAs callee c_type → function_number 0 program.functions name ≡ Some number → slice_get tac.functions number ≡ Some function → function.c_type ≡ c_type
      → CalleeStands tac program calls worth points placement hidden frame scope callee objects registers (V.FunctionValue name) → called tac around registers callee ≡ Some number
  called_is around (Known own) c_type objects registers name number function alike is there typed stands =
      let same : stands.0 ≡ name = cc in
      sym (subst (λ n. function_number 0 program.functions n ≡ Some own) same stands.1) ∙ is
  called_is around (Through register own) c_type objects registers name number function alike is there typed stands =
      let numbered : number ≡ stands.2.0 = same_Some number stands.2.0 (sym is ∙ stands.2.1) in
      let holds : registers register ≡ Some (M.Code number) = stands.1 ∙ ap Some stands.2.2 ∙ ap (λ n. Some (M.Code n)) (sym numbered) in
      let fits : same_type function.c_type own ≡ true = subst (λ t. same_type function.c_type t ≡ true) (typed ∙ sym alike) (same_type-refl function.c_type) in
      rw (holds, there, fits) refl

  -- ---- the point

  pub record Enters (around : Surroundings) (site : ℕ) (callee : Callee) (read : List Register) (number : ℕ) (function : Function) (values : List Value) (state : State) : Type 0 where
    pub enters : length state.callers < greatest_depth → execute tac around (O.Call site callee read) state ≡ To (enter around site number function values state)
    pub reaches : greatest_depth ≤ length state.callers → execute tac around (O.Call site callee read) state ≡ Halt DepthReached state

  pub call_enters : (around : Surroundings) (site : ℕ) (callee : Callee) (read : List Register) (number : ℕ) (function : Function) (values : List Value) (state : State)
      → called tac around state.running.registers callee ≡ Some number → all_held state.running.registers read ≡ Some values → slice_get tac.functions number ≡ Some function
      → length values ≡ function.parameters → Enters around site callee read number function values state
  call_enters around site callee read number function values state calls held there many = record {
    enters = λ less. comes_to ∙ ap (λ b. if b then To (enter around site number function values state) else Halt DepthReached state) (lt-ltb (length state.callers) greatest_depth less);
    reaches = λ most. comes_to ∙ ap (λ b. if b then To (enter around site number function values state) else Halt DepthReached state) (le-ltb (length state.callers) greatest_depth most);
  }
    where
      fits : (length values == function.parameters) ≡ true
      fits = eq-eqb (length values) function.parameters many

      comes_to : execute tac around (O.Call site callee read) state ≡ (if nat_lt (length state.callers) greatest_depth then To (enter around site number function values state) else Halt DepthReached state)
      comes_to = rw (calls, held, there) (ap (λ b. unless_lost b state (if nat_lt (length state.callers) greatest_depth then To (enter around site number function values state) else Halt DepthReached state)) fits)

-- ---- the code is in the function

-- the reference's state where a function begins
abbrev pub begun_call : ℕ → S.State → S.State
begun_call number s = record s { locals = []; trace = s.trace ++ Runs.Called number ∷ [] }

module _ (tac : Tac) (program : Program) (calls : Calls) (worth : ℕ) (points : List Op) (placement : Placement) (hidden : ℕ → Option V.Content) (frame : Frame) (scope : Scope)
    (runs : Runs tac program points frame) (coded : Code program tac) where
  -- the activation of a function has its points and its objects
  pub entered_runs : (site number : ℕ) (function : Function) (state : State) → slice_get tac.functions number ≡ Some function → Runs tac program function.points (entered site number function state)
  entered_runs site number function state there = record {
    points_are = ap points_of there;
    objects_are = ap objects_of there;
    structs = runs.structs;
    globals = runs.globals;
    literals = runs.literals;
    known = runs.known;
  }

  -- Arguments stand for those of the reference, and the code is at the function's first point.
  pub record Within (start : State) (n lag slack site number : ℕ) (function : Function) (scalars : List Scalar) (s : S.State) (state : State) : Type 0 where
    pub values : List Value
    pub stand : ValuesStand program s.objects placement values scalars
    pub passing : Passing tac worth start (enter (surroundings program frame) site number function values state) n s.units lag slack
    pub paid : Passing tac worth start (enter (surroundings program frame) site number function values state) (n + worth) s.units lag (slack + ticks_per_unit * worth)
    pub there : At program placement (hidden_within placement s.locals s.objects hidden) (entered site number function state) [] 0 (begun_call number s) (enter (surroundings program frame) site number function values state)
    pub sound : Sound (context_of program []) (begun_call number s)
    pub inside : Runs tac program function.points (entered site number function state)

  module _ (start : State) (n lag slack at site : ℕ) (callee : Callee) (read : List Register) (name : List ℕ) (found : ℕ × FunctionDef) (scalars : List Scalar) (s : S.State) (state : State) (function : Function)
      (has : HasOp points at (O.Call site callee read)) (p : Passing tac worth start state n s.units lag (slack + length read + 1)) (h : AtSpot tac program calls worth points placement hidden frame scope at s state)
      (stands : CalleeStands tac program calls worth points placement hidden frame scope callee s.objects state.running.registers (V.FunctionValue name))
      (hold : AllHold tac program calls worth points placement hidden frame scope s.objects state.running.registers read scalars)
      (is : function_from 0 program.functions name ≡ Some found) (there : slice_get tac.functions found.0 ≡ Some function) (code : FunctionCode program found.1 function)
      (alike : CalledAs tac program calls worth points placement hidden frame scope callee found.1.c_type) (many : length scalars ≡ length found.1.parameters) where
    held : Arguments program s.objects placement state.running.registers read scalars
    held = arguments_held tac program calls worth points placement hidden frame scope s.objects state.running.registers read scalars hold

    does : Enters tac program calls worth points placement hidden frame scope (surroundings program frame) site callee read found.0 function held.values state
    does = call_enters tac program calls worth points placement hidden frame scope (surroundings program frame) site callee read found.0 function held.values state
        (called_is tac program calls worth points placement hidden frame scope (surroundings program frame) callee found.1.c_type s.objects state.running.registers name found.0 function alike
        (number_from 0 program.functions name found is) there code.c_type stands) held.held there (held.given_many ∙ many ∙ sym code.parameters)

    around : (next : _) → execute tac (surroundings program frame) (O.Call site callee read) state ≡ next → execute tac (around_of tac state.running) (O.Call site callee read) state ≡ next
    around next e = ap (λ around. execute tac around (O.Call site callee read) state) (around_is tac program points placement hidden frame scope runs at s state h.stands) ∙ e

    passes : length frame.callers < greatest_depth → Passes tac (O.Call site callee read) state (enter (surroundings program frame) site found.0 function held.values state)
    passes less = record {
      before = before_at tac program points placement hidden frame scope runs at (O.Call site callee read) s state has h.stands;
      does = around _ (does.enters (subst (λ callers. length callers < greatest_depth) (sym h.stands.callers) less));
    }

    -- calls may nest deeper
    pub goes_within : length frame.callers < greatest_depth → Within start n lag slack site found.0 function scalars s state
    goes_within less = record {
      values = held.values;
      stand = held.stand;
      passing = stepped p (passes less) (omega arith) (omega arith);
      paid = pays slack p (passes less) (omega arith);
      there = at_entered tac program calls worth points placement hidden frame scope at s state h site found.0 function held.values;
      sound = sound_entered tac program calls worth points placement hidden frame scope at s state h site found.0 function held.values;
      inside = entered_runs site found.0 function state there;
    }

    -- or they may not, on both sides
    pub ends_deep : {A : Type 0} {Stands : Stand A} {slack' : ℕ} → greatest_depth ≤ length frame.callers → Does tac worth start n lag slack' Stands (S.halt {A = A} DepthReached s)
    ends_deep most = stops (Over DepthReached s.trace) s (ends_seen p (record {
      before = before_at tac program points placement hidden frame scope runs at (O.Call site callee read) s state has h.stands;
      does = around _ (does.reaches (subst (λ callers. greatest_depth ≤ length callers) (sym h.stands.callers) most));
    }) (omega arith) h.stands.stands.trace tt)
