-- Parameters begin to live with the arguments: one in a register holds it already, and one in memory is stored there by a point.
use Rattle.std.proofs.Common.{◌≡◌, if◌then◌else◌, ℕ, suc, ◌+◌, ◌<◌, Bool, true, false, List, [], ◌∷◌, ◌++◌, append-nil, Option, Some, None, inl, refl, sym, ap, ◌∙◌, subst, arith}
use Rattle.std.proofs.lemmas.Bool.{false≢true}
use Rattle.c_typed.specs.Types.{CType, CTypes, NoTypes, Void, Integer, Pointer, Array, Struct, Function}
use Rattle.c_typed.specs.Typed.{Block, Program}
use Rattle.c_typed.specs.Expressions.{is_scalar}
use Rattle.c_typed.specs.Programs.{IsWellTyped}
use Rattle.ref_semantics.specs.Values as V
use Rattle.ref_semantics.specs.Values.{Place, Scalar, IntegerValue, NullValue, FunctionValue, PointerValue, RawPointer, LocalObject, object_place}
use Rattle.ref_semantics.specs.Store as S
use Rattle.ref_semantics.specs.Store.{continue_with, give, offset_of}
use Rattle.ref_semantics.specs.Meaning.{Calls, Completion, Normal, stored_first}
use Rattle.ref_semantics.specs.First.{around_of}
use Rattle.ref_semantics.specs.Sound.{HasType, AreLocals, Later}
use Rattle.ref_semantics.proofs.Lasting.{type_lasts, later_trans}
use Rattle.ref_semantics.proofs.Storable.{scalar_storable}
use Rattle.ref_semantics.proofs.ProgramsKeep.{scalar_complete}
use Rattle.ref_semantics.proofs.Storing.{Begins, new_local_keeps, write_keeps}
use Rattle.tac_ir.specs.declared.register.Local.{Local}
use Rattle.tac_ir.specs.declared.register.Local.TheVariants as L
use Rattle.tac_ir.specs.declared.register.Register.{Register}
use Rattle.tac_ir.specs.declared.register.Register.TheVariants as R
use Rattle.tac_ir.specs.Code.{Op, Tac, AtLocal, LocalObject as OwnObject}
use Rattle.tac_ir.specs.Values as M
use Rattle.tac_ir.specs.Values.{OfActivation, same_local}
use Rattle.tac_ir.specs.Trees.{Registers, with_register}
use Rattle.tac_ir.specs.Objects.{own_type, whole, leads, reach, stepped}
use Rattle.tac_ir.specs.Costs.{operand_cost}
use Rattle.tac_ir.specs.States.{State}
use Rattle.tac_ir.specs.Meaning.{value_of}
use Rattle.tac_build.specs.Homes.{Home, Scope, takes_block}
use Rattle.tac_build.specs.Spots.{Spot}
use Rattle.tac_build.specs.Code.{path_from}
use Rattle.tac_build.specs.ProgramCode.{parameter_home, stored_argument, ParameterCode, ParametersCode}
use Rattle.tac_build.specs.Forms.{scope_types}
use Rattle.tac_simulation.specs.Standing.{Placement, Frame, At, ScalarStands, HoldsFor, IsApart, HomesStand, PathStands, surroundings}
use Rattle.tac_simulation.proofs.Given.{typed_given, given_lasts}
use Rattle.tac_simulation.proofs.Memory.{same_local-true}
use Rattle.tac_simulation.proofs.Paths.{Passage as Passing, Does, comes, slower}
use Rattle.tac_simulation.proofs.Spotting.{Runs}
use Rattle.tac_simulation.proofs.Evaluating.{AtSpot}
use Rattle.tac_simulation.proofs.Assigning.{IsHome, local_holds, at_local_written}
use Rattle.tac_simulation.proofs.Assigned.{local_write}
use Rattle.tac_simulation.proofs.Stored.{was_stored, with_stored, then_write}
use Rattle.tac_simulation.proofs.Executing.{HaveObjects}
use Rattle.tac_simulation.proofs.Opening.{opened, placed_with, home_object, HasOwn}
use Rattle.tac_simulation.proofs.Newly.{new_place, got_content, lives_given, images_given, at_begun}

-- ---- types

-- the parameters of a function's type
abbrev pub parameters_of : CType → CTypes
parameters_of (Function result parameters) = parameters
parameters_of _ = NoTypes

-- ---- what the code has

have_last : (own objects : List OwnObject) (one : OwnObject) → HaveObjects own (objects ++ one ∷ []) → own_type own one.local ≡ whole one.c_type
have_last own [] one have = have.0
have_last own (first ∷ others) one have = have_last own others one have.1

have_before : (own objects : List OwnObject) (one : OwnObject) → HaveObjects own (objects ++ one ∷ []) → HaveObjects own objects
have_before own [] one have = tt
have_before own (first ∷ others) one have = (have.0, have_before own others one have.1)

home_before : (own : List OwnObject) (home : Home) (points : List Op) (number : ℕ) (from mid : Spot) → ParameterCode points home number from mid → HaveObjects own mid.objects → HaveObjects own from.objects
home_before own home points number from mid code have = by home.is_object code
  where
    by : (b : Bool) → ParameterCode points (record home { is_object = b }) number from mid → HaveObjects own from.objects
    by true code = have_before own from.objects (record { local = home.local; c_type = home.c_type }) (subst (λ (spot : Spot). HaveObjects own spot.objects) code.1 have)
    by false code = subst (λ (spot : Spot). HaveObjects own spot.objects) code have

pub home_own : (frame : Frame) (home : Home) (points : List Op) (number : ℕ) (from mid : Spot) → ParameterCode points home number from mid → HaveObjects frame.objects mid.objects → HasOwn frame home
home_own frame home points number from mid code have = by home.is_object code
  where
    by : (b : Bool) → ParameterCode points (record home { is_object = b }) number from mid → b ≡ true → own_type frame.objects home.local ≡ whole home.c_type
    by true code e = have_last frame.objects from.objects (record { local = home.local; c_type = home.c_type }) (subst (λ (spot : Spot). HaveObjects frame.objects spot.objects) code.1 have)
    by false code e = absurd (false≢true e)

pub all_before : (own : List OwnObject) (points : List Op) (body : Block) (types : List CType) (number : ℕ) (scope : Scope) (from to : Spot) (inner : Scope) → ParametersCode points body types number scope from to inner
    → HaveObjects own to.objects → HaveObjects own from.objects
all_before own points body [] number scope from to inner code have = subst (λ (spot : Spot). HaveObjects own spot.objects) code.0 have
all_before own points body (first ∷ others) number scope from to inner code have =
    home_before own (parameter_home number first (takes_block number body)) points number from code.0 code.1
    (all_before own points body others (suc number) (parameter_home number first (takes_block number body) ∷ scope) code.0 to inner code.2 have)

-- ---- names

-- those in scope are the parameters before this one
abbrev pub AreBefore : ℕ → Scope → Type 0
AreBefore number [] = Unit {0}
AreBefore number (home ∷ scope) = ((older : ℕ) × (home.local ≡ L.Parameter older) × (older < number)) × AreBefore number scope

pub before_next : (number : ℕ) (scope : Scope) → AreBefore number scope → AreBefore (suc number) scope
before_next number [] before = tt
before_next number (home ∷ scope) before = let less = before.0.2 in ((before.0.0, before.0.1, omega (arith, less)), before_next number scope before.1)

same_parameter : {a b : ℕ} → L.Parameter a ≡ L.Parameter b → a ≡ b
same_parameter e = cc

pub parameter_apart : (number : ℕ) (s : S.State) (scope : Scope) (locals : List ℕ) → AreBefore number scope → AreLocals s locals (scope_types scope) → IsApart (L.Parameter number) s.next_local scope locals
parameter_apart number s [] locals before are = tt
parameter_apart number s (home ∷ scope) [] before are = tt
parameter_apart number s (home ∷ scope) (older ∷ others) before are =
    ((λ e. let same : number ≡ before.0.0 = same_parameter (e ∙ before.0.1) in let less = before.0.2 in omega (arith, same, less)), are.0, parameter_apart number s scope others before.1 are.2)

-- ---- arguments

-- the arguments stand in the registers of the parameters from this one on
abbrev pub ArgumentsStand : Program → S.Objects → Placement → Registers → ℕ → List Scalar → Type 0
ArgumentsStand program objects placement registers number [] = Unit {0}
ArgumentsStand program objects placement registers number (first ∷ others) =
    HoldsFor program objects placement first (registers (R.Local (L.Parameter number))) × ArgumentsStand program objects placement registers (suc number) others

-- how many ticks it takes to store an argument
abbrev pub argument_ticks : CType → ℕ
argument_ticks (Integer int_type) = 2
argument_ticks c_type = 1

-- what a point stores for a parameter in memory, and what that costs
argument_is : (program : Program) (s : S.State) (objects : S.Objects) (placement : Placement) (registers : Registers) (number : ℕ) (c_type : CType) (scalar : Scalar) (value : M.Value) → is_scalar c_type ≡ true → HasType program s c_type scalar
    → ScalarStands program objects placement scalar value → registers (R.Local (L.Parameter number)) ≡ Some value
    → (value_of registers (stored_argument number c_type) ≡ Some value) × (operand_cost (stored_argument number c_type) < argument_ticks c_type)
argument_is program s objects placement registers number (Integer int_type) (IntegerValue z) value is typed stands held = ((rw (held, stands) refl), omega arith)
argument_is program s objects placement registers number (Integer int_type) NullValue value is typed stands held = absurd typed
argument_is program s objects placement registers number (Integer int_type) (FunctionValue name) value is typed stands held = absurd typed
argument_is program s objects placement registers number (Integer int_type) (PointerValue place) value is typed stands held = absurd typed
argument_is program s objects placement registers number (Integer int_type) (RawPointer heap) value is typed stands held = absurd typed
argument_is program s objects placement registers number (Pointer target) scalar value is typed stands held = (held, omega arith)
argument_is program s objects placement registers number Void scalar value is typed stands held = absurd (false≢true is)
argument_is program s objects placement registers number (Array element n) scalar value is typed stands held = absurd (false≢true is)
argument_is program s objects placement registers number (Struct tag) scalar value is typed stands held = absurd (false≢true is)
argument_is program s objects placement registers number (Function result parameters) scalar value is typed stands held = absurd (false≢true is)

written_same : (number : ℕ) (value : M.Value) (registers : Registers) → registers (R.Local (L.Parameter number)) ≡ Some value → with_register (R.Local (L.Parameter number)) (Some value) registers ≡ registers
written_same number value registers held = λ i. λ register. by register i
  where
    in_local : (local : Local) (b : Bool) → same_local (L.Parameter number) local ≡ b → (if b then Some value else registers (R.Local local)) ≡ registers (R.Local local)
    in_local local true e = sym held ∙ ap (λ l. registers (R.Local l)) (same_local-true (L.Parameter number) local e)
    in_local local false e = refl

    by : (register : Register) → with_register (R.Local (L.Parameter number)) (Some value) registers register ≡ registers register
    by (R.Local local) = in_local local (same_local (L.Parameter number) local) refl
    by (R.Call other) = refl
    by (R.Argument other) = refl
    by (R.Expression other) = refl
    by (R.Temporary other) = refl

-- ---- one parameter

module _ (tac : Tac) (program : Program) (calls : Calls) (worth : ℕ) (points : List Op) (hidden : ℕ → Option V.Content) (frame : Frame) (runs : Runs tac program points frame) (well : IsWellTyped program) where
  -- the code is where one more parameter is in scope
  pub record Entered (placed : Placement) (scope : Scope) (at : ℕ) (s : S.State) (registers : Registers) (way : Completion) (s1 : S.State) (t1 : State) : Type 0 where
    pub there : AtSpot tac program calls worth points placed hidden frame scope at s1 t1
    pub locals : s1.locals ≡ s.next_local ∷ s.locals
    pub later : Later s s1
    pub registers_are : t1.running.registers ≡ registers

  module _ (placement : Placement) (scope : Scope) (number : ℕ) (c_type : CType) (is_taken : Bool) (from mid : Spot) (scalar : Scalar) (s : S.State) (t first : State) (n lag slack : ℕ)
      (is : is_scalar c_type ≡ true) (own : HasOwn frame (parameter_home number c_type is_taken)) (before : AreBefore number scope) (h : AtSpot tac program calls worth points placement hidden frame scope from.at s t)
      (typed : HasType program s c_type scalar) (holds : HoldsFor program s.objects placement scalar (t.running.registers (R.Local (L.Parameter number)))) (p : Passing tac worth first t n s.units lag (slack + argument_ticks c_type)) where
    abbrev home : Home
    home = parameter_home number c_type is_taken

    abbrev placed : Placement
    placed = placed_with s.next_local (home_object frame.number (parameter_home number c_type is_taken)) placement

    abbrev place : Place
    place = object_place (LocalObject s.next_local) c_type

    apart : IsApart (L.Parameter number) s.next_local scope s.locals
    apart = parameter_apart number s scope s.locals before h.sound.locals

    begins : Begins program (scope_types scope) s c_type (opened c_type s) (object_place (LocalObject s.next_local) c_type)
    begins = (new_local_keeps program well (scope_types scope) s h.sound c_type (scalar_complete program c_type is) (scalar_storable program.structs c_type is)).leads (object_place (LocalObject s.next_local) c_type) (opened c_type s) refl

    at_new : At program placed hidden frame (home ∷ scope) from.at (opened c_type s) t
    at_new = at_begun program placement hidden frame scope home from.at s t own apart h.sound h.stands

    stands_new : ScalarStands program (opened c_type s).objects placed scalar holds.0
    stands_new =
        given_lasts program s placement placed (opened c_type s).objects
        (lives_given program placement (scope_types scope) s h.sound c_type (home_object frame.number home)) (images_given program placement (scope_types scope) s h.sound c_type (home_object frame.number home))
        scalar holds.0 (typed_given program s c_type scalar is typed) holds.2

    typed_new : HasType program (opened c_type s) c_type scalar
    typed_new = type_lasts program begins.later c_type scalar typed

    in_register : home.is_object ≡ false → mid ≡ from
        → Does tac worth first n lag slack (Entered placed (home ∷ scope) mid.at s t.running.registers) (stored_first (around_of program) (object_place (LocalObject s.next_local) c_type) (Some scalar) (opened c_type s))
    in_register register next =
        let is_home : IsHome (home ∷ scope) (s.next_local ∷ s.locals) home s.next_local = inl (refl, refl) in
        let written = at_local_written tac program points placed hidden frame (home ∷ scope) runs from.at home s.next_local scalar holds.0 (opened c_type s) t register is_home stands_new at_new in
        let writes = local_write program (record { line = 1; column = 1 }) home s.next_local (λ offset. None) scalar (opened c_type s) (got_content (LocalObject s.next_local) (V.Elements false c_type 1 (λ offset. None)) s.objects) in
        let keeps = (write_keeps program well (scope_types (home ∷ scope)) (opened c_type s) begins.sound (record { line = 1; column = 1 }) c_type (object_place (LocalObject s.next_local) c_type) scalar is begins.is_element typed_new).gives
        scalar (local_holds s.next_local scalar (opened c_type s)) writes in
        subst (λ outcome. Does tac worth first n lag slack (Entered placed (home ∷ scope) mid.at s t.running.registers) (continue_with (λ b. give Normal) outcome)) (sym writes)
        (comes Normal (local_holds s.next_local scalar (opened c_type s)) t (slower slack p (omega arith)) (record {
          there = subst (λ (spot : Spot). AtSpot tac program calls worth points placed hidden frame (home ∷ scope) spot.at (local_holds s.next_local scalar (opened c_type s)) t) (sym next) (record {
            stands = record {
              stands = record {
                input = at_new.stands.input;
                heap = at_new.stands.heap;
                trace = at_new.stands.trace ∙ sym (append-nil s.trace);
                memory = written.stands.memory;
                placed = at_new.stands.placed;
                unchanged = written.stands.unchanged;
              };
              homes = subst (λ registers. HomesStand program placed frame.number (local_holds s.next_local scalar (opened c_type s)).objects registers (home ∷ scope) (s.next_local ∷ s.locals))
                  (written_same number holds.0 t.running.registers holds.1) written.homes;
              own = record { there = at_new.own.there; in_scope = written.own.in_scope };
              point = at_new.point;
              owner = at_new.owner;
              number = at_new.number;
              callers = at_new.callers;
              paid = at_new.paid;
            };
            sound = keeps.0.sound;
          });
          locals = refl;
          later = later_trans begins.later keeps.0.later;
          registers_are = refl;
        }))

    in_memory : home.is_object ≡ true → ParameterCode points (record home { is_object = true }) number from mid
        → Does tac worth first n lag slack (Entered placed (home ∷ scope) mid.at s t.running.registers) (stored_first (around_of program) (object_place (LocalObject s.next_local) c_type) (Some scalar) (opened c_type s))
    in_memory is_object code =
        let argument = argument_is program s s.objects placement t.running.registers number c_type scalar holds.0 is typed holds.2 holds.1 in
        let cost = argument.1 in
        let leads_to : leads (surroundings program frame) t.running.registers (path_from (AtLocal home.local)) ≡ Some (record { object = OfActivation frame.number home.local; inner = record { offset = 0; c_type = home.c_type } })
        = ap (λ found. stepped (surroundings program frame) t.running.registers [] (reach (OfActivation frame.number home.local) found)) (own is_object) in
        let placed_at : placed s.next_local ≡ Some (OfActivation frame.number home.local) =
        new_place s.next_local (home_object frame.number home) placement ∙ ap (λ b. if b then Some (OfActivation frame.number home.local) else None) is_object in
        let path : PathStands program frame placed t.running.registers (path_from (AtLocal home.local)) c_type (object_place (LocalObject s.next_local) c_type)
        = (OfActivation frame.number home.local, 0, leads_to, (placed_at, omega arith)) in
        then_write tac program worth points placed hidden frame (home ∷ scope) runs well slack (record { line = 1; column = 1 }) (λ outcome. continue_with (λ b. give Normal) outcome) (stored_argument number c_type) from.at c_type c_type (path_from (AtLocal home.local))
        (object_place (LocalObject s.next_local) c_type) scalar holds.0 (opened c_type s) t refl p at_new begins.sound path refl is begins.is_element code.0 argument.0 stands_new typed_new (omega (arith, cost))
        (λ object w. comes Normal (was_stored (LocalObject s.next_local) (offset_of (around_of program) (object_place (LocalObject s.next_local) c_type)) scalar (opened c_type s))
        (with_stored object (offset_of (around_of program) (object_place (LocalObject s.next_local) c_type)) holds.0 t) w.passing (record {
          there = subst (λ (spot : Spot). AtSpot tac program calls worth points placed hidden frame (home ∷ scope) spot.at (was_stored (LocalObject s.next_local) (offset_of (around_of program) (object_place (LocalObject s.next_local) c_type)) scalar (opened c_type s))
              (with_stored object (offset_of (around_of program) (object_place (LocalObject s.next_local) c_type)) holds.0 t)) (sym code.1) (record { stands = w.there; sound = w.keeps.sound });
          locals = refl;
          later = later_trans begins.later w.keeps.later;
          registers_are = refl;
        }))

    -- a parameter begins to live with its argument
    pub parameter_bound : ParameterCode points home number from mid
        → Does tac worth first n lag slack (Entered placed (home ∷ scope) mid.at s t.running.registers) (stored_first (around_of program) (object_place (LocalObject s.next_local) c_type) (Some scalar) (opened c_type s))
    parameter_bound code = by home.is_object refl code
      where
        by : (b : Bool) → home.is_object ≡ b → ParameterCode points (record home { is_object = b }) number from mid
            → Does tac worth first n lag slack (Entered placed (home ∷ scope) mid.at s t.running.registers) (stored_first (around_of program) (object_place (LocalObject s.next_local) c_type) (Some scalar) (opened c_type s))
        by true e code = in_memory e code
        by false e code = in_register e code
