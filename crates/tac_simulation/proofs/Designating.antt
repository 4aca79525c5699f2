-- The code of functions, of pointers to them that are called, and of their addresses.
use Rattle.std.proofs.Common.{◌≡◌, ℕ, suc, ◌+◌, ◌≤◌, Bool, true, false, if◌then◌else◌, List, Option, Some, refl, sym, ap, subst, arith}
use Rattle.run_theory.specs.declared.place.Pos.{Pos}
use Rattle.c_typed.specs.Types.{CType, Pointer}
use Rattle.c_typed.specs.Typed as T
use Rattle.c_typed.specs.Typed.{Value, Designator, Program}
use Rattle.c_typed.specs.Context.{Context}
use Rattle.c_typed.specs.Expressions.{given, is_conversion, pointed_function, type_of, type_of_designator}
use Rattle.c_typed.specs.Programs.{IsWellTyped}
use Rattle.c_typed.specs.Sizes.{makes, designator_makes, is_storable}
use Rattle.ref_semantics.specs.Values as V
use Rattle.ref_semantics.specs.Values.{Scalar, FunctionValue}
use Rattle.ref_semantics.specs.Store as S
use Rattle.ref_semantics.specs.Store.{Outcome, Then, Stopped, give}
use Rattle.ref_semantics.specs.Meaning.{Calls, value, designated}
use Rattle.ref_semantics.specs.First.{around_of}
use Rattle.ref_semantics.specs.Keeping.{CallsKeep}
use Rattle.c_typed.proofs.Splitting.{given_parts, unless_parts}
use Rattle.tac_ir.specs.declared.register.Register.{Register}
use Rattle.tac_ir.specs.Code.{Op, Tac, Callee, Known, Through}
use Rattle.tac_ir.specs.Code as O
use Rattle.tac_ir.specs.Values as M
use Rattle.tac_ir.specs.Trees.{Registers}
use Rattle.tac_ir.specs.States as States
use Rattle.tac_ir.specs.States.{State, write}
use Rattle.tac_build.specs.Homes.{Scope}
use Rattle.tac_build.specs.Spots.{Spot, expression, Lowered, AsPointer, Mode, Kept}
use Rattle.tac_build.specs.Code.{Addresses, ValueCode, DesignatorCode}
use Rattle.tac_simulation.specs.Comparing.{ticks_per_unit}
use Rattle.tac_simulation.specs.Standing.{Placement, Frame, ScalarStands, At}
use Rattle.tac_build.specs.Forms.{context_of, SpotGrows}
use Rattle.tac_simulation.proofs.Paths.{Passage as Passing, Does, comes, stops, eased, eases, allows}
use Rattle.tac_simulation.proofs.Spotting.{Runs, kept_same}
use Rattle.tac_build.proofs.Named.{designator_named}
use Rattle.tac_simulation.proofs.Evaluating.{AtSpot, Came, ComesToValue, ComesToCallee, CalleeStands, ValueDoes, DesignatorDoes, value_units, designator_units, laid_by, left_for}
use Rattle.tac_simulation.proofs.Constants.{left_most}
use Rattle.tac_simulation.proofs.Combining.{ticked, has_come}
use Rattle.tac_simulation.proofs.Pointing.{puts_pointer}

-- What is left for what stands around a function. A call through a pointer spends no unit of its own for that.
abbrev pub left_in : Designator → ℕ
left_in (T.ThroughPointer place pointer) = left_for pointer
left_in (T.Function name) = 7
left_in (T.GroupedFunction inner) = 7
left_in (T.PointedFunction place pointer) = 7

-- three at least
pub left_three : (function : Designator) → 3 ≤ left_in function
left_three (T.ThroughPointer place pointer) = left_most pointer
left_three (T.Function name) = omega arith
left_three (T.GroupedFunction inner) = omega arith
left_three (T.PointedFunction place pointer) = omega arith

-- a pointer that is called is no conversion
abbrev CallsNoConversion : Designator → Type 0
CallsNoConversion (T.ThroughPointer place pointer) = is_conversion pointer ≡ false
CallsNoConversion (T.Function name) = Unit {0}
CallsNoConversion (T.GroupedFunction inner) = Unit {0}
CallsNoConversion (T.PointedFunction place pointer) = Unit {0}

none_called : (around : Context) (function : Designator) (t : CType) → type_of_designator around function ≡ Some t → CallsNoConversion function
none_called around (T.ThroughPointer place pointer) t typed = (unless_parts (is_conversion pointer) (given (type_of around pointer) pointed_function) t typed).0
none_called around (T.Function name) t typed = tt
none_called around (T.GroupedFunction inner) t typed = tt
none_called around (T.PointedFunction place pointer) t typed = tt

six_left : (function : Designator) → CallsNoConversion function → 6 ≤ left_in function
six_left (T.ThroughPointer place pointer) none = let six : left_for pointer ≡ 6 = ap (λ (b : Bool). if b then 3 else 6) none in omega (arith, six)
six_left (T.Function name) none = omega arith
six_left (T.GroupedFunction inner) none = omega arith
six_left (T.PointedFunction place pointer) none = omega arith

abbrev is_known : Callee → Bool
is_known (Known number) = true
is_known (Through register c_type) = false

at_most : (b : Bool) → 6 + (if b then 1 else 0) ≤ 7
at_most true = omega arith
at_most false = omega arith

module _ (tac : Tac) (program : Program) (calls : Calls) (worth : ℕ) (points : List Op) (placement : Placement) (hidden : ℕ → Option V.Content) (frame : Frame) (scope : Scope)
    (runs : Runs tac program points frame) (well : IsWellTyped program) (keep : CallsKeep program calls) where
  abbrev Follows : Value → Type 0
  Follows tree = ValueDoes tac program calls worth points placement hidden frame scope tree

  -- as DesignatorDoes, with all that is left
  abbrev pub Designates : Designator → Type 0
  Designates tree =
      (from to : Spot) (callee : Callee) (c_type t : CType) → DesignatorCode program points scope tree from to callee c_type → type_of_designator (context_of program scope) tree ≡ Some t → designator_makes (is_storable program.structs) tree ≡ true
      → (start : State) (n lag slack : ℕ) (s : S.State) (state : State) → Passing tac worth start state n s.units lag slack → AtSpot tac program calls worth points placement hidden frame scope from.at s state
      → Does tac worth start n (lag + designator_units tree) (slack + left_in tree) (ComesToCallee tac program calls worth points placement hidden frame scope from to callee state.running.registers) (designated (around_of program) calls tree s)

  pub designates : (tree : Designator) → Designates tree → DesignatorDoes tac program calls worth points placement hidden frame scope tree
  designates tree does from to callee c_type t code typed small start n lag slack s state p at =
      eases (does from to callee c_type t code typed small start n lag slack s state p at) (omega arith) (let least = left_three tree in omega (arith, least))

  pub functions : (name : List ℕ) → Designates (T.Function name)
  functions name from to callee c_type t code typed small start n lag slack s state p at =
      ticked tac program calls worth points placement hidden frame scope runs well keep (give (FunctionValue name)) from.at s state p at (omega arith) (λ units p1 at1.
      comes (FunctionValue name) (record s { units = units }) state (eased p1 (omega arith) (omega arith)) (
        record { there = subst (λ (spot : Spot). At program placement hidden frame scope spot.at (record s { units = units }) state) (sym code.2) at1.stands; kept = kept_same from.counts state.running.registers },
        subst (λ c. CalleeStands tac program calls worth points placement hidden frame scope c s.objects state.running.registers (FunctionValue name)) (sym code.3) (name, code.1, refl),
      ))

  pub grouped_functions : (inner : Designator) → Designates inner → Designates (T.GroupedFunction inner)
  grouped_functions inner does from to callee c_type t code typed small start n lag slack s state p at =
      ticked tac program calls worth points placement hidden frame scope runs well keep (designated (around_of program) calls inner) from.at s state p at (omega arith) (λ units p1 at1.
      eases (does from to callee c_type t code typed small start n (suc lag) (ticks_per_unit + slack) (record s { units = units }) state p1 at1) (omega arith) (let least = left_three inner in omega (arith, least)))

  -- a pointer that is called
  called : (pointer : Value) → Follows pointer → (from to : Spot) (register : Register) (callee : Callee) (c_type u : CType) → ValueCode program points scope Kept pointer from to (AsPointer register c_type) → callee ≡ Through register c_type
      → type_of (context_of program scope) pointer ≡ Some u → makes (is_storable program.structs) pointer ≡ true
      → (start : State) (n lag slack : ℕ) (s : S.State) (state : State) → Passing tac worth start state n s.units lag slack → AtSpot tac program calls worth points placement hidden frame scope from.at s state
      → Does tac worth start n (lag + value_units pointer) (slack + (0 + left_for pointer)) (ComesToCallee tac program calls worth points placement hidden frame scope from to callee state.running.registers) (value (around_of program) calls pointer s)
  called pointer follows from to register callee c_type u code is typed small start n lag slack s state p at =
      allows (follows Kept from to (AsPointer register c_type) u code typed small start n lag slack s state p at) (λ scalar s1 state1 came.
      (came.0, subst (λ c. CalleeStands tac program calls worth points placement hidden frame scope c s1.objects state1.running.registers scalar) (sym is) came.1))

  pub pointed_functions : (place : Pos) (pointer : Value) → Follows pointer → Designates (T.PointedFunction place pointer)
  pointed_functions place pointer follows from to callee c_type t code typed small start n lag slack s state p at =
      let parts = given_parts (type_of (context_of program scope) pointer) pointed_function t typed in
      ticked tac program calls worth points placement hidden frame scope runs well keep (value (around_of program) calls pointer) from.at s state p at (omega arith) (λ units p1 at1.
      eases (called pointer follows from to code.0 callee c_type parts.0 code.1 code.2 parts.1 small start n (suc lag) (ticks_per_unit + slack) (record s { units = units }) state p1 at1) (omega arith) (let least = left_most pointer in omega (arith, least)))

  pub pointers_called : (place : Pos) (pointer : Value) → Follows pointer → Designates (T.ThroughPointer place pointer)
  pointers_called place pointer follows from to callee c_type t code typed small start n lag slack s state p at =
      let plain = unless_parts (is_conversion pointer) (given (type_of (context_of program scope) pointer) pointed_function) t typed in
      let parts = given_parts (type_of (context_of program scope) pointer) pointed_function t plain.1 in
      eases (called pointer follows from to code.0 callee c_type parts.0 code.1 code.2 parts.1 small start n lag slack s state p at) (omega arith) (omega arith)

  -- the address of what is called comes to a register
  addresses : {start : State} {n lag lag' slack slack' : ℕ} (callee : Callee) (c_type : CType) (mode : Mode) (from mid to : Spot) (lowered : Lowered) (before : Registers) (scalar : Scalar) (s : S.State) (state : State)
      → Passing tac worth start state n s.units lag slack → Came tac program calls worth points placement hidden frame scope from mid before s state → SpotGrows from mid → Addresses points callee c_type mid to lowered
      → CalleeStands tac program calls worth points placement hidden frame scope callee s.objects state.running.registers scalar → lag ≤ lag' → slack' + (if is_known callee then 1 else 0) ≤ slack
      → Does tac worth start n lag' slack' (ComesToValue tac program calls worth points placement hidden frame scope mode from to lowered before) (Then scalar s)
  addresses (Known number) c_type mode from mid to lowered before scalar s state p came grows code stands more less =
      puts_pointer tac program calls worth points placement hidden frame scope runs well keep (λ register. O.FunctionAddress register number) c_type (M.Code number) mode from mid to lowered before scalar s state p came.there came.kept grows code
      (ap (λ known. States.given known state (λ function. write (expression mid) (M.Code number) state)) (runs.known number stands.0 stands.1).1)
      (subst (λ v. ScalarStands program s.objects placement v (M.Code number)) (sym stands.2) (number, stands.1, refl)) more (omega (arith, less))
  addresses (Through register target) c_type mode from mid to lowered before scalar s state p came grows code stands more less =
      has_come tac program calls worth points placement hidden frame scope runs well keep mode from mid to lowered (AsPointer register target) before scalar s state p came.there came.kept code.0 code.1 stands more (omega (arith, less))

  address_laid : (callee : Callee) (c_type : CType) (mid to : Spot) (lowered : Lowered) → Addresses points callee c_type mid to lowered → laid_by lowered ≡ 0
  address_laid (Known number) c_type mid to lowered code = ap laid_by code.2
  address_laid (Through register target) c_type mid to lowered code = ap laid_by code.1

  -- what the address of a function costs is left, where six are
  known_left : (function : Designator) (from to : Spot) (callee : Callee) (c_type : CType) → DesignatorCode program points scope function from to callee c_type → 6 ≤ left_in function
      → 6 + (if is_known callee then 1 else 0) ≤ left_in function
  known_left (T.ThroughPointer place pointer) from to callee c_type code six = let none = ap {B = ℕ} (λ c. if is_known c then 1 else 0) code.2 in omega (arith, six, none)
  known_left (T.Function name) from to callee c_type code six = at_most (is_known callee)
  known_left (T.GroupedFunction inner) from to callee c_type code six = at_most (is_known callee)
  known_left (T.PointedFunction place pointer) from to callee c_type code six = at_most (is_known callee)

  -- the function, and then its address
  address_of : {start : State} {n lag lag' slack slack' : ℕ} (mode : Mode) (from mid to : Spot) (callee : Callee) (c_type : CType) (lowered : Lowered) (before : Registers) (outcome : Outcome Scalar)
      → Does tac worth start n lag slack (ComesToCallee tac program calls worth points placement hidden frame scope from mid callee before) outcome → SpotGrows from mid → Addresses points callee c_type mid to lowered
      → lag ≤ lag' → slack' + (if is_known callee then 1 else 0) ≤ slack
      → Does tac worth start n lag' slack' (ComesToValue tac program calls worth points placement hidden frame scope mode from to lowered before) outcome
  address_of mode from mid to callee c_type lowered before _ (comes scalar s state p came) grows code more less = addresses callee c_type mode from mid to lowered before scalar s state p came.0 grows code came.1 more less
  address_of {start} {n} {lag} {lag'} {slack} {slack'} mode from mid to callee c_type lowered before _ (stops answer s a) grows code more less =
      let same : Does tac worth start n lag slack' (ComesToValue tac program calls worth points placement hidden frame scope mode from to lowered before) (Stopped answer s) = stops answer s a in
      eases same more (omega arith)

  pub function_values : (function : Designator) → Designates function → Follows (T.FunctionValue function)
  function_values function does mode from to lowered t code typed small start n lag slack s state p at =
      let parts = given_parts (type_of_designator (context_of program scope) function) (λ u. Some (Pointer u)) t typed in
      let laid = address_laid code.1 code.2 code.0 to lowered code.4 in
      let left = known_left function from code.0 code.1 code.2 code.3 (six_left function (none_called (context_of program scope) function parts.0 parts.1)) in
      address_of mode from code.0 to code.1 code.2 lowered state.running.registers (designated (around_of program) calls function s)
      (does from code.0 code.1 code.2 parts.0 code.3 parts.1 small start n lag slack s state p at) (designator_named program points scope function from code.0 code.1 code.2 code.3).0 code.4 (omega arith) (omega (arith, laid, left))

  pub function_addresses : (function : Designator) → Designates function → Follows (T.AddressOfFunction function)
  function_addresses function does mode from to lowered t code typed small start n lag slack s state p at =
      let parts = given_parts (type_of_designator (context_of program scope) function) (λ u. Some (Pointer u)) t typed in
      let laid = address_laid code.1 code.2 code.0 to lowered code.4 in
      let least = left_three function in
      let most = at_most (is_known code.1) in
      ticked tac program calls worth points placement hidden frame scope runs well keep (designated (around_of program) calls function) from.at s state p at (omega arith) (λ units p1 at1.
      address_of mode from code.0 to code.1 code.2 lowered state.running.registers (designated (around_of program) calls function (record s { units = units }))
      (does from code.0 code.1 code.2 parts.0 code.3 parts.1 small start n (suc lag) (ticks_per_unit + slack) (record s { units = units }) state p1 at1) (designator_named program points scope function from code.0 code.1 code.2 code.3).0 code.4
      (omega arith) (omega (arith, laid, least, most)))
