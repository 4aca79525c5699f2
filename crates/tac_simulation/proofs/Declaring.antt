-- A local begins to live and gets its first value: a register is written, or an object in memory.
use Rattle.std.proofs.Common.{◌≡◌, ℕ, ◌+◌, ◌≤◌, ◌<◌, ◌&&◌, Bool, true, false, List, [], ◌∷◌, ◌++◌, Option, Some, None, inl, refl, sym, ap, ◌∙◌, subst, arith}
use Rattle.std.proofs.lemmas.Bool.{and_parts, true≢false}
use Rattle.run_theory.specs.declared.place.Pos.{Pos}
use Rattle.c_typed.specs.Types.{CType, same_type}
use Rattle.c_typed.specs.Layouts.{is_complete}
use Rattle.c_typed.specs.Typed.{Value, LocalDef, Program}
use Rattle.c_typed.proofs.Same.{same_type-true}
use Rattle.c_typed.specs.Expressions.{is_scalar, type_of}
use Rattle.c_typed.specs.Programs.{IsWellTyped}
use Rattle.c_typed.specs.Sizes.{any_makes, is_storable}
use Rattle.c_typed.specs.Statements.{is_of_type, if_any}
use Rattle.ref_semantics.specs.Values as V
use Rattle.ref_semantics.specs.Values.{Place, Scalar, LocalObject, object_place}
use Rattle.ref_semantics.specs.Store as S
use Rattle.ref_semantics.specs.Store.{Outcome, Then, Stopped, Eval, continue_with, give, offset_of}
use Rattle.ref_semantics.specs.Meaning.{Calls, Completion, Normal, value, optional_value, stored_first}
use Rattle.ref_semantics.specs.First.{around_of}
use Rattle.ref_semantics.specs.Sound.{HasType}
use Rattle.ref_semantics.specs.Keeping.{CallsKeep, IsElement}
use Rattle.ref_semantics.proofs.Lasting.{element_lasts}
use Rattle.ref_semantics.proofs.Storing.{new_local_keeps, write_keeps}
use Rattle.ref_semantics.proofs.StatementsKeep.{holds_for-some}
use Rattle.tac_ir.specs.declared.register.Register.TheVariants as R
use Rattle.tac_ir.specs.Code.{Op, Tac, Operand, AtLocal, IntegerOperand, PointerOperand, LocalObject as OwnObject}
use Rattle.tac_ir.specs.Code as O
use Rattle.tac_ir.specs.Values as M
use Rattle.tac_ir.specs.Values.{OfActivation}
use Rattle.tac_ir.specs.Objects.{own_type, whole, leads, reach, stepped}
use Rattle.tac_ir.specs.Costs.{more_cost, operand_cost}
use Rattle.tac_ir.specs.States.{State, write as write_register}
use Rattle.tac_ir.specs.Meaning.{execute, value_of}
use Rattle.tac_build.specs.Homes.{Home, Scope}
use Rattle.tac_build.specs.Spots.{Spot, behind, with_variable, Lowered, AsInteger, AsPointer, AsObject, AsNothing, Kept}
use Rattle.tac_build.specs.Code.{HasOp, path_from}
use Rattle.tac_build.specs.StatementCode as Codes
use Rattle.tac_build.specs.StatementCode.{with_home, FirstCode}
use Rattle.tac_build.specs.Forms.{scope_types, context_of}
use Rattle.tac_simulation.specs.Standing.{Placement, Frame, At, ScalarStands, HomeStands, HomesStand, PathStands, LoweredStands, surroundings}
use Rattle.tac_simulation.proofs.Paths.{Stand, Passage as Passing, Does, comes, start, allows, eased}
use Rattle.tac_simulation.proofs.Spotting.{Runs, with_written}
use Rattle.tac_simulation.proofs.Evaluating.{ValueDoes, AtSpot, value_units, laid_by, left_for}
use Rattle.tac_simulation.proofs.Combining.{then_value}
use Rattle.tac_simulation.proofs.Constants.{left_most}
use Rattle.tac_build.proofs.Named.{value_named}
use Rattle.tac_simulation.proofs.Assigning.{IsHome, own_at, local_holds}
use Rattle.tac_simulation.proofs.Assigned.{writes_local, local_write}
use Rattle.tac_simulation.proofs.Stored.{was_stored, with_stored, then_write}
use Rattle.tac_simulation.proofs.Executing.{HaveObjects, Begun, Declares, optional_units}
use Rattle.tac_simulation.proofs.Opening.{opened, placed_with, home_object, HasOwn, opened_extends, at_opened}

-- ---- what the code has

have_last : (own objects : List OwnObject) (one : OwnObject) → HaveObjects own (objects ++ one ∷ []) → own_type own one.local ≡ whole one.c_type
have_last own [] one have = have.0
have_last own (first ∷ others) one have = have_last own others one have.1

begins_objects : (points : List Op) (home : Home) (given : Lowered) (mid to : Spot) → Codes.Begins points home given mid to → to.objects ≡ mid.objects
begins_objects points home given mid to code = by home.is_object given code
  where
    by : (b : Bool) (given : Lowered) → Codes.Begins points (record home { is_object = b }) given mid to → to.objects ≡ mid.objects
    by true (AsInteger own tree) code = ap (λ (spot : Spot). spot.objects) code.1
    by true (AsPointer register target) code = ap (λ (spot : Spot). spot.objects) code.1
    by true (AsObject path own) code = absurd code
    by true AsNothing code = absurd code
    by false (AsInteger own tree) code = ap (λ (spot : Spot). spot.objects) code.1
    by false (AsPointer register target) code = ap (λ (spot : Spot). spot.objects) code.1
    by false (AsObject path own) code = absurd code
    by false AsNothing code = absurd code

first_objects : (program : Program) (points : List Op) (scope : Scope) (home : Home) (first : Option Value) (from to : Spot) → FirstCode program points scope home first from to → to.objects ≡ from.objects
first_objects program points scope home None from to code = ap (λ (spot : Spot). spot.objects) code
first_objects program points scope home (Some v) from to code =
    begins_objects points home code.1 code.0 to code.3 ∙ (value_named program points scope v Kept from code.0 code.1 code.2).grows.objects

-- the object of a local in memory is one of the activation's
has_own : (frame : Frame) (home : Home) (spot to : Spot) → to.objects ≡ (with_home home spot).objects → HaveObjects frame.objects to.objects → HasOwn frame home
has_own frame home spot to same have = by home.is_object same
  where
    by : (b : Bool) → to.objects ≡ (with_home (record home { is_object = b }) spot).objects → b ≡ true → own_type frame.objects home.local ≡ whole home.c_type
    by true same e = have_last frame.objects spot.objects (record { local = home.local; c_type = home.c_type }) (subst (λ objects. HaveObjects frame.objects objects) same have)
    by false same e = absurd (true≢false (sym e))

home_at : (home : Home) (spot : Spot) → spot.at ≡ (with_home home spot).at
home_at home spot = by home.is_object
  where
    by : (b : Bool) → spot.at ≡ (with_home (record home { is_object = b }) spot).at
    by true = refl
    by false = refl

-- one evaluation more around a value
around_value : {A B : Type 0} (wrap : Scalar → A) (next : A → Eval B) (outcome : Outcome Scalar) → continue_with (λ a. next (wrap a)) outcome ≡ continue_with next (continue_with (λ a. give (wrap a)) outcome)
around_value wrap next (Then scalar s) = refl
around_value wrap next (Stopped answer s) = refl

module _ (tac : Tac) (program : Program) (calls : Calls) (worth : ℕ) (points : List Op) (hidden : ℕ → Option V.Content) (frame : Frame) (runs : Runs tac program points frame) (well : IsWellTyped program) (keep : CallsKeep program calls) where
  -- the code has come to a spot, where the same locals are in scope
  abbrev pub StaysWith : Placement → Scope → S.State → ℕ → Stand Completion
  StaysWith placed scope before at way s t = AtSpot tac program calls worth points placed hidden frame scope at s t × (s.locals ≡ before.locals) × (before.next_local ≤ s.next_local)

  -- what is known where a first value is stored
  record Storing (placed : Placement) (scope : Scope) (home : Home) (number : ℕ) (outer : List ℕ) (at : ℕ) (scalar : Scalar) (s : S.State) (t : State) : Type 0 where
    there : AtSpot tac program calls worth points placed hidden frame (home ∷ scope) at s t
    locals : s.locals ≡ number ∷ outer
    is_scalar_type : is_scalar home.c_type ≡ true
    element : IsElement program s home.c_type (object_place (LocalObject number) home.c_type)
    typed : HasType program s home.c_type scalar

  abbrev first_pos : Pos
  first_pos = record { line = 1; column = 1 }

  module _ (placed : Placement) (scope : Scope) (home : Home) (number : ℕ) (outer : List ℕ) (mid to : Spot) (scalar : Scalar) (s : S.State) (t : State) (first : State) (n lag slack : ℕ)
      (h : Storing placed scope home number outer mid.at scalar s t) (p : Passing tac worth first t n s.units lag slack) (next : to ≡ behind mid) where
    place : Place
    place = object_place (LocalObject number) home.c_type

    is_home : IsHome (home ∷ scope) s.locals home number
    is_home = subst (λ locals. IsHome (home ∷ scope) locals home number) (sym h.locals) (inl (refl, refl))

    -- in a register
    register_first : (op : Op) (written : M.Value) → home.is_object ≡ false → HasOp points mid.at op → execute tac (surroundings program frame) op t ≡ write_register (R.Local home.local) written t
        → ScalarStands program s.objects placed scalar written → more_cost op < slack
        → Does tac worth first n lag 0 (StaysWith placed (home ∷ scope) s to.at) (stored_first (around_of program) (object_place (LocalObject number) home.c_type) (Some scalar) s)
    register_first op written own has does stands less =
        let held = own_at tac program points placed hidden frame (home ∷ scope) runs mid.at home number s t own is_home h.there.stands in
        let writes = local_write program first_pos home number held.held scalar s held.content in
        let w = writes_local tac program calls worth points placed hidden frame (home ∷ scope) runs well keep 0 op mid.at home number scalar written s t p h.there.stands has does own is_home stands (omega (arith, less)) in
        let keeps = (write_keeps program well (scope_types (home ∷ scope)) s h.there.sound first_pos home.c_type (object_place (LocalObject number) home.c_type) scalar h.is_scalar_type h.element h.typed).gives scalar (local_holds number scalar s) writes in
        subst (λ outcome. Does tac worth first n lag 0 (StaysWith placed (home ∷ scope) s to.at) (continue_with (λ b. give Normal) outcome)) (sym writes)
        (comes Normal (local_holds number scalar s) (with_written tac program points placed hidden frame (home ∷ scope) runs (R.Local home.local) written t) w.passing (
          subst (λ (spot : Spot). AtSpot tac program calls worth points placed hidden frame (home ∷ scope) spot.at (local_holds number scalar s) (with_written tac program points placed hidden frame (home ∷ scope) runs (R.Local home.local) written t)) (sym next)
              (record { stands = w.there; sound = keeps.0.sound }),
          refl,
          omega arith,
        ))

    -- in memory
    memory_first : (operand : Operand) (written : M.Value) → home.is_object ≡ true → HasOwn frame home → HasOp points mid.at (O.Store (path_from (AtLocal home.local)) home.c_type operand)
        → value_of t.running.registers operand ≡ Some written → ScalarStands program s.objects placed scalar written → operand_cost operand < slack
        → Does tac worth first n lag 0 (StaysWith placed (home ∷ scope) s to.at) (stored_first (around_of program) (object_place (LocalObject number) home.c_type) (Some scalar) s)
    memory_first operand written is_object own has held stands less =
        let leads_to : leads (surroundings program frame) t.running.registers (path_from (AtLocal home.local)) ≡ Some (record { object = OfActivation frame.number home.local; inner = record { offset = 0; c_type = home.c_type } })
        = ap (λ found. stepped (surroundings program frame) t.running.registers [] (reach (OfActivation frame.number home.local) found)) (own is_object) in
        let path : PathStands program frame placed t.running.registers (path_from (AtLocal home.local)) home.c_type (object_place (LocalObject number) home.c_type)
        = (OfActivation frame.number home.local, 0, leads_to, (placed_at, omega arith)) in
        then_write tac program worth points placed hidden frame (home ∷ scope) runs well 0 first_pos (λ outcome. continue_with (λ b. give Normal) outcome) operand mid.at home.c_type home.c_type (path_from (AtLocal home.local))
        (object_place (LocalObject number) home.c_type) scalar written s t refl p h.there.stands h.there.sound path refl h.is_scalar_type h.element has held stands h.typed (omega (arith, less))
        (λ object w. comes Normal (was_stored (LocalObject number) (offset_of (around_of program) (object_place (LocalObject number) home.c_type)) scalar s)
        (with_stored object (offset_of (around_of program) (object_place (LocalObject number) home.c_type)) written t) w.passing (
          subst (λ (spot : Spot). AtSpot tac program calls worth points placed hidden frame (home ∷ scope) spot.at (was_stored (LocalObject number) (offset_of (around_of program) (object_place (LocalObject number) home.c_type)) scalar s)
              (with_stored object (offset_of (around_of program) (object_place (LocalObject number) home.c_type)) written t)) (sym next) (record { stands = w.there; sound = w.keeps.sound }),
          refl,
          omega arith,
        ))
      where
        placed_at : placed number ≡ Some (OfActivation frame.number home.local)
        placed_at = by home.is_object is_object (subst (λ locals. HomesStand program placed frame.number s.objects t.running.registers (home ∷ scope) locals) h.locals h.there.stands.homes).0
          where
            by : (b : Bool) → b ≡ true → HomeStands program placed frame.number s.objects t.running.registers (record home { is_object = b }) number → placed number ≡ Some (OfActivation frame.number home.local)
            by true e at = at
            by false e at = absurd (true≢false (sym e))

  stores_first : (placed : Placement) (scope : Scope) (home : Home) (number : ℕ) (outer : List ℕ) (given : Lowered) (mid to : Spot) (scalar : Scalar) (s : S.State) (t first : State) (n lag slack : ℕ)
      → HasOwn frame home → Codes.Begins points home given mid to → Storing placed scope home number outer mid.at scalar s t → LoweredStands program Kept frame placed s.objects t.running.registers given scalar
      → Passing tac worth first t n s.units lag slack → laid_by given < slack
      → Does tac worth first n lag 0 (StaysWith placed (home ∷ scope) s to.at) (stored_first (around_of program) (object_place (LocalObject number) home.c_type) (Some scalar) s)
  stores_first placed scope home number outer given mid to scalar s t first n lag slack own code h stands p less = by home.is_object refl given code stands less
    where
      by : (b : Bool) → home.is_object ≡ b → (given : Lowered) → Codes.Begins points (record home { is_object = b }) given mid to → LoweredStands program Kept frame placed s.objects t.running.registers given scalar → laid_by given < slack
          → Does tac worth first n lag 0 (StaysWith placed (home ∷ scope) s to.at) (stored_first (around_of program) (object_place (LocalObject number) home.c_type) (Some scalar) s)
      by true e (AsInteger own_int tree) code stands less =
          memory_first placed scope home number outer mid to scalar s t first n lag slack h p code.1 (IntegerOperand tree) (M.Number stands.0) e own code.0 (rw stands.2 refl)
          (subst (λ x. ScalarStands program s.objects placed x (M.Number stands.0)) (sym stands.1) refl) (omega (arith, less))
      by true e (AsPointer register target) code stands less =
          memory_first placed scope home number outer mid to scalar s t first n lag slack h p code.1 (PointerOperand register) stands.0 e own code.0 stands.1 stands.2 (omega (arith, less))
      by true e (AsObject path own_type) code stands less = absurd code
      by true e AsNothing code stands less = absurd code
      by false e (AsInteger own_int tree) code stands less =
          register_first placed scope home number outer mid to scalar s t first n lag slack h p code.1 (O.Assign (R.Local home.local) tree) (M.Number stands.0) e code.0 (rw stands.2 refl)
          (subst (λ x. ScalarStands program s.objects placed x (M.Number stands.0)) (sym stands.1) refl) (omega (arith, less))
      by false e (AsPointer register target) code stands less =
          register_first placed scope home number outer mid to scalar s t first n lag slack h p code.1 (O.Copy (R.Local home.local) register) stands.0 e code.0 (rw stands.1 refl) stands.2 (omega (arith, less))
      by false e (AsObject path own_type) code stands less = absurd code
      by false e AsNothing code stands less = absurd code

  -- the first value of a local, if it has one
  gets_first : (placed : Placement) (scope : Scope) (home : Home) (number : ℕ) (outer : List ℕ) (first : Option Value) → ((v : Value) → first ≡ Some v → ValueDoes tac program calls worth points placed hidden frame (home ∷ scope) v)
      → (from to : Spot) → HasOwn frame home → FirstCode program points (home ∷ scope) home first from to
      → if_any (λ v. is_scalar home.c_type && is_of_type (context_of program (home ∷ scope)) home.c_type v) first ≡ true → any_makes (is_storable program.structs) first ≡ true
      → (s : S.State) (t : State) → AtSpot tac program calls worth points placed hidden frame (home ∷ scope) from.at s t → s.locals ≡ number ∷ outer → IsElement program s home.c_type (object_place (LocalObject number) home.c_type)
      → Does tac worth t s.units (optional_units first) 0 (StaysWith placed (home ∷ scope) s to.at)
      (continue_with (λ a. stored_first (around_of program) (object_place (LocalObject number) home.c_type) a) (optional_value (value (around_of program) calls) first s))
  gets_first placed scope home number outer None follows from to own code typed small s t h locals element =
      comes Normal s t (start t s.units) (subst (λ (spot : Spot). AtSpot tac program calls worth points placed hidden frame (home ∷ scope) spot.at s t) (sym code) h, refl, omega arith)
  gets_first placed scope home number outer (Some v) follows from to own code typed small s t h locals element =
      let parts = and_parts (is_scalar home.c_type) (is_of_type (context_of program (home ∷ scope)) home.c_type v) typed in
      let known = holds_for-some (same_type home.c_type) (type_of (context_of program (home ∷ scope)) v) parts.1 in
      let type_is : type_of (context_of program (home ∷ scope)) v ≡ Some home.c_type = known.1 ∙ ap Some (sym (same_type-true home.c_type known.0 known.2)) in
      let some : 3 ≤ left_for v = left_most v in
      subst (λ outcome. Does tac worth t s.units (value_units v) 0 (StaysWith placed (home ∷ scope) s to.at) outcome)
      (around_value Some (λ a. stored_first (around_of program) (object_place (LocalObject number) home.c_type) a) (value (around_of program) calls v s))
      (then_value tac program calls worth points placed hidden frame (home ∷ scope) runs well keep v (follows v refl) (λ a. stored_first (around_of program) (object_place (LocalObject number) home.c_type) (Some a))
      Kept from code.0 code.1 home.c_type code.2 type_is small s t (start t s.units) h (omega arith) (λ scalar s2 t2 p2 came keeps has.
      let storing : Storing placed scope home number outer code.0.at scalar s2 t2 = record {
        there = record { stands = came.0.there; sound = keeps.sound };
        locals = keeps.locals ∙ locals;
        is_scalar_type = parts.0;
        element = element_lasts program keeps.later home.c_type (object_place (LocalObject number) home.c_type) element;
        typed = has;
      } in
      allows (stores_first placed scope home number outer code.1 code.0 to scalar s2 t2 t s.units (value_units v) (laid_by code.1 + left_for v) own code.3 storing came.1 (eased p2 (omega arith) (omega arith)) (omega (arith, some)))
      (λ way s3 t3 last. let more = last.2 in let first = keeps.later.next_local in (last.0, last.1 ∙ keeps.locals, omega (arith, more, first)))))

  -- ---- a local

  -- the rest of a declaration, behind the new object
  abbrev rest_of : Option Value → ℕ → CType → S.State → Outcome Completion
  rest_of first number c_type s = continue_with (λ a. stored_first (around_of program) (object_place (LocalObject number) c_type) a) (optional_value (value (around_of program) calls) first (opened c_type s))

  pub declares : (local : LocalDef) → ((v : Value) → local.first ≡ Some v → (placed : Placement) (scope : Scope) → ValueDoes tac program calls worth points placed hidden frame scope v)
      → Declares tac program calls worth points hidden frame local
  declares local follows is_taken placement scope from to home code typed small numbered have s t h =
      let parts = and_parts (is_complete program.structs local.c_type) _ typed in
      let sizes = and_parts (is_storable program.structs local.c_type) (any_makes (is_storable program.structs) local.first) small in
      let type_is : home.c_type ≡ local.c_type = ap (λ (home : Home). home.c_type) code.0 in
      let own : HasOwn frame home = has_own frame home (with_variable from) to (first_objects program points (home ∷ scope) home local.first (with_home home (with_variable from)) to code.1) have in
      let begins = (new_local_keeps program well (scope_types scope) s h.sound home.c_type (subst (λ c. is_complete program.structs c ≡ true) (sym type_is) parts.0)
      (subst (λ c. is_storable program.structs c ≡ true) (sym type_is) sizes.0)).leads
      (object_place (LocalObject s.next_local) home.c_type) (opened home.c_type s) refl in
      let placed = placed_with s.next_local (home_object frame.number home) placement in
      let at1 : AtSpot tac program calls worth points (placed_with s.next_local (home_object frame.number home) placement) hidden frame (home ∷ scope) (with_home home (with_variable from)).at (opened home.c_type s) t = record {
        stands = subst (λ at. At program (placed_with s.next_local (home_object frame.number home) placement) hidden frame (home ∷ scope) at (opened home.c_type s) t) (home_at home (with_variable from))
            (at_opened program placement hidden frame scope from.counts home from.at s t (ap (λ (home : Home). home.local) code.0) own numbered h.sound h.stands);
        sound = begins.sound;
      } in
      subst (λ c. Does tac worth t s.units (optional_units local.first) 0 (Begun tac program calls worth points hidden frame s.next_local s.locals placement scope (home ∷ scope) to.at)
      (continue_with (λ a. stored_first (around_of program) (object_place (LocalObject s.next_local) c) a) (optional_value (value (around_of program) calls) local.first (opened c s)))) type_is
      (allows (gets_first (placed_with s.next_local (home_object frame.number home) placement) scope home s.next_local s.locals local.first (λ v is. follows v is (placed_with s.next_local (home_object frame.number home) placement) (home ∷ scope))
      (with_home home (with_variable from)) to own code.1
      (subst (λ c. if_any (λ v. is_scalar c && is_of_type (record { program = program; locals = c ∷ scope_types scope }) c v) local.first ≡ true) (sym type_is) parts.1) sizes.1 (opened home.c_type s) t at1 refl begins.is_element)
      (λ way s2 t2 last. record {
        placed = placed_with s.next_local (home_object frame.number home) placement;
        more = home ∷ [];
        fresh = s.next_local ∷ [];
        extends = opened_extends program placement hidden frame scope from.counts home from.at s t (ap (λ (home : Home). home.local) code.0) own numbered h.sound h.stands;
        own = last.1;
        depth = refl;
        inner_is = refl;
        newer = let more = last.2 in omega (arith, more);
        there = last.0;
      }))
