-- The objects to which pointers lead are found on both sides.
use Rattle.std.proofs.Common.{◌≡◌, ℕ, ◌≤◌, Bool, true, false, List, [], ◌∷◌, Option, Some, pos, refl, sym, ap, ◌∙◌, subst, arith}
use Rattle.std.proofs.lemmas.Bool.{true≢false}
use Rattle.run_theory.specs.declared.place.Pos.{Pos}
use Rattle.run_theory.specs.declared.ends.UbKind.TheVariants as Ub
use Rattle.c_typed.specs.Types.{CType, Void, Integer, Pointer}
use Rattle.c_typed.specs.Layouts.{is_complete}
use Rattle.c_typed.specs.Typed as T
use Rattle.c_typed.specs.Typed.{Value, Program}
use Rattle.c_typed.specs.Expressions.{given, type_of, pointed}
use Rattle.c_typed.specs.Expressions as W
use Rattle.c_typed.specs.Programs.{IsWellTyped}
use Rattle.ref_semantics.specs.Values as V
use Rattle.ref_semantics.specs.Values.{Place, Scalar, IntegerValue, NullValue, FunctionValue, PointerValue, RawPointer, place_of, is_end}
use Rattle.ref_semantics.specs.Store as S
use Rattle.ref_semantics.specs.Store.{Then, premise, give, continue_with, offset_of, member_at, is_dead, is_dead_pointer, is_null_pointer}
use Rattle.ref_semantics.specs.Meaning.{Calls, value}
use Rattle.ref_semantics.specs.Pointers.{accessed}
use Rattle.ref_semantics.specs.First.{around_of}
use Rattle.ref_semantics.specs.Sound.{HasType, IsPlace}
use Rattle.ref_semantics.specs.Keeping.{CallsKeep}
use Rattle.c_typed.proofs.Splitting.{given_parts, pointed_parts}
use Rattle.ref_semantics.proofs.WellTyped.{complete_object, complete_known}
use Rattle.tac_ir.specs.Code.{Op, Tac, Path, Pointed, Member}
use Rattle.tac_ir.specs.Layouts.{size_of}
use Rattle.tac_ir.specs.Objects.{leads, stepped, at_offset, pointed as pointed_at}
use Rattle.tac_ir.specs.Trees.{Registers}
use Rattle.tac_ir.specs.States.{State}
use Rattle.tac_build.specs.Homes.{Scope}
use Rattle.tac_build.specs.Spots.{Spot, Lowered, AsInteger, AsPointer, AsObject, AsNothing, Behind}
use Rattle.tac_build.specs.Code.{path_from, then_step, pointed_by}
use Rattle.tac_build.specs.Forms.{context_of, HasForm}
use Rattle.tac_simulation.specs.Standing.{Placement, Frame, IsAlive, MemoryStands, HoldsFor, LoweredStands, PathStands, surroundings}
use Rattle.tac_simulation.proofs.Paths.{Passage as Passing, Does, comes, eases, bind, allows}
use Rattle.tac_simulation.proofs.Spotting.{Runs}
use Rattle.tac_simulation.proofs.Evaluating
use Rattle.tac_simulation.proofs.Evaluating.{ValueDoes, laid_by}
use Rattle.tac_simulation.proofs.Combining.{ticked, then_value}
use Rattle.tac_build.proofs.Forms.{value_form, object_form}
use Rattle.tac_simulation.proofs.Looking.{not_dead, when_alive, living_place}
use Rattle.tac_simulation.proofs.Leading.{cost_then, stays_there}
use Rattle.tac_simulation.proofs.Finding.{Finds, LeadsTo, has_found, unless_does, object_type, member_leads}

-- a pointer to a complete type that isn't null points to a place
pub to_place : (program : Program) → IsWellTyped program → (s : S.State) (P : Scalar → Type 0) (t : CType) → is_complete program.structs t ≡ true
    → ((place : Place) → IsPlace program s place → place.row.c_type ≡ t → P (PointerValue place)) → (pointer : Scalar) → HasType program s (Pointer t) pointer → is_null_pointer pointer ≡ false → P pointer
to_place program well s P t complete one (IntegerValue z) typed null = absurd typed
to_place program well s P t complete one NullValue typed null = absurd (true≢false null)
to_place program well s P t complete one (FunctionValue name) typed null = absurd (true≢false (sym typed.0 ∙ complete_object program well t complete))
to_place program well s P t complete one (PointerValue place) typed null = one place typed.1 (typed.2 (complete_known program well t complete))
to_place program well s P t complete one (RawPointer number) typed null = absurd (true≢false (sym typed.0 ∙ complete_known program well t complete))

-- what a pointer points to costs no more
pub pointed_less : (found : Lowered) → laid_by (pointed_by false found) ≤ laid_by found
pointed_less (AsInteger own tree) = omega arith
pointed_less (AsPointer register target) = omega arith
pointed_less (AsObject path own) = omega arith
pointed_less AsNothing = omega arith

pointer_integer : {t : CType} {own : _} → Pointer t ≡ Integer own → ⊥
pointer_integer e = cc

pointer_is : {t u : CType} → Pointer t ≡ Pointer u → t ≡ u
pointer_is e = cc

pointer_void : {t : CType} → Pointer t ≡ Void → ⊥
pointer_void e = cc

-- the type of what a pointer points to
pointed_type : (followed : Bool) (found : Lowered) (t : CType) (path : Path) (own : CType) → pointed_by false found ≡ AsObject path own → HasForm (Behind followed) found (Pointer t) → t ≡ own
pointed_type followed (AsInteger int_type tree) t path own is form = absurd (pointer_integer form)
pointed_type followed (AsPointer register target) t path own is form = pointer_is form ∙ object_type (path_from (Pointed register target)) path target own is
pointed_type followed (AsObject other target) t path own is form = pointer_is form ∙ object_type other path target own is
pointed_type followed AsNothing t path own is form = absurd (pointer_void form)

module _ (tac : Tac) (program : Program) (calls : Calls) (worth : ℕ) (points : List Op) (placement : Placement) (hidden : ℕ → Option V.Content) (frame : Frame) (scope : Scope)
    (runs : Runs tac program points frame) (well : IsWellTyped program) (keep : CallsKeep program calls) where
  abbrev Leads' : Registers → Place → Lowered → Type 0
  Leads' registers place lowered = LeadsTo tac program calls worth points placement hidden frame scope runs well keep registers place lowered

  pub pointer_leads : (s : S.State) (state : State) (register : _) (target : CType) (place : Place) → MemoryStands program placement s.objects state.objects → is_dead (s.objects place.name) ≡ false
      → HoldsFor program s.objects placement (PointerValue place) (state.running.registers register)
      → PathStands program frame placement state.running.registers (path_from (Pointed register target)) target place
  pointer_leads s state register target place memory lives holds =
      let living = living_place program placement s.objects state.objects memory place holds.0 lives holds.2 in
      let found : leads (surroundings program frame) state.running.registers (path_from (Pointed register target)) ≡ Some (record { object = living.object; inner = record { offset = offset_of (around_of program) place; c_type = target } })
      = ap (λ held. stepped (surroundings program frame) state.running.registers [] (pointed_at (surroundings program frame) target held (Some (pos 0)))) (holds.1 ∙ ap Some living.value_is)
      ∙ ap (λ offset. stepped (surroundings program frame) state.running.registers [] (at_offset living.object target offset)) (stays_there (offset_of (around_of program) place) (size_of program.structs target)) in
      (living.object, offset_of (around_of program) place, found, (living.is_image, refl))

  -- the path of what a living pointer points to
  pub behind_leads : (followed : Bool) (s : S.State) (state : State) (found : Lowered) (t : CType) (place : Place) → MemoryStands program placement s.objects state.objects → is_dead (s.objects place.name) ≡ false
      → HasForm (Behind followed) found (Pointer t) → LoweredStands program (Behind followed) frame placement s.objects state.running.registers found (PointerValue place)
      → Leads' state.running.registers place (pointed_by false found)
  behind_leads followed s state (AsInteger own tree) t place memory lives form stands = absurd (pointer_integer form)
  behind_leads followed s state (AsPointer register target) t place memory lives form stands = pointer_leads s state register target place memory lives stands
  behind_leads followed s state (AsObject path own) t place memory lives form stands = when_alive (s.objects place.name) _ (not_dead (s.objects place.name) lives) stands
  behind_leads followed s state AsNothing t place memory lives form stands = absurd (pointer_void form)

  -- The code has come to the place that is accessed.
  pub record Accesses (from to : Spot) (found : Lowered) (before : Registers) (t : CType) (place : Place) (s : S.State) (state : State) : Type 0 where
    pub came : Evaluating.Came tac program calls worth points placement hidden frame scope from to before s state
    pub leads : Leads' state.running.registers place (pointed_by false found)
    pub own : place.row.c_type ≡ t
    pub alive : IsAlive (s.objects place.name)

  pub accesses : {start : State} {n lag slack : ℕ} (here : Pos) (followed : Bool) (from to : Spot) (found : Lowered) (before : Registers) (t : CType) (scalar : Scalar) (s : S.State) (state : State)
      → Passing tac worth start state n s.units lag slack → Evaluating.ComesToValue tac program calls worth points placement hidden frame scope (Behind followed) from to found before scalar s state
      → HasForm (Behind followed) found (Pointer t) → HasType program s (Pointer t) scalar → is_complete program.structs t ≡ true
      → Does tac worth start n lag slack (Accesses from to found before t) (accessed here scalar s)
  accesses {start} {n} {lag} {slack} here followed from to found before t scalar s state p came form typed complete =
      unless_does here (premise (is_dead_pointer s.objects scalar) Ub.U06 ∷ premise (is_null_pointer scalar) Ub.U05 ∷ premise (is_end (place_of scalar)) Ub.U07 ∷ []) (give (place_of scalar)) s (λ none.
      to_place program well s
      (λ pointer. is_dead_pointer s.objects pointer ≡ false → LoweredStands program (Behind followed) frame placement s.objects state.running.registers found pointer
      → Does tac worth start n lag slack (Accesses from to found before t) (Then (place_of pointer) s))
      t complete
      (λ place is_place own lives stands. comes place s state p (record { came = came.0; leads = behind_leads followed s state found t place came.0.there.stands.memory lives form stands; own = own; alive = not_dead (s.objects place.name) lives }))
      scalar typed none.1.0 none.0 came.1)

  pub pointed_objects : (here : Pos) (pointer : Value) → ValueDoes tac program calls worth points placement hidden frame scope pointer
      → Finds tac program calls worth points placement hidden frame scope runs well keep (T.Pointed here pointer)
  pointed_objects here pointer follows followed from to path c_type t code typed small start n lag slack s state p h =
      let parts = given_parts (type_of (context_of program scope) pointer) (pointed program.structs) t typed in
      let target = pointed_parts program.structs parts.0 t parts.2 in
      let own = parts.1 ∙ ap Some target.0 in
      let form = value_form program points scope pointer (Behind followed) (Pointer t) from to code.0 own code.1 in
      ticked tac program calls worth points placement hidden frame scope runs well keep (λ u. continue_with (accessed here) (value (around_of program) calls pointer u)) from.at s state p h (omega arith) (λ left p' h'.
      then_value tac program calls worth points placement hidden frame scope runs well keep pointer follows (accessed here) (Behind followed) from to code.0 (Pointer t) code.1 own small (record s { units = left }) state p' h' (omega arith)
      (λ scalar s' state' q came keeps type.
      eases (allows (accesses here followed from to code.0 state.running.registers t scalar s' state' q came form type target.1)
      (λ place s2 state2 found. (found.came, subst (Leads' state2.running.registers place) (sym code.2) found.leads, found.alive)))
      (omega arith) (let laid = ap laid_by code.2 in let less = pointed_less code.0 in omega (arith, laid, less))))

  pub pointed_members : (here : Pos) (pointer : Value) (number : ℕ) → ValueDoes tac program calls worth points placement hidden frame scope pointer
      → Finds tac program calls worth points placement hidden frame scope runs well keep (T.PointedMember here pointer number)
  pointed_members here pointer number follows followed from to path c_type t code typed small start n lag slack s state p h =
      let parts = given_parts (type_of (context_of program scope) pointer) (λ u. given (pointed program.structs u) (W.member_of program.structs number)) t typed in
      let inner = given_parts (pointed program.structs parts.0) (W.member_of program.structs number) t parts.2 in
      let target = pointed_parts program.structs parts.0 inner.0 inner.1 in
      let own = parts.1 ∙ ap Some target.0 in
      let form = value_form program points scope pointer (Behind followed) (Pointer inner.0) from to code.0 own code.4 in
      let same : inner.0 ≡ code.2 = pointed_type followed code.0 inner.0 code.1 code.2 code.5 form in
      let same' : t ≡ code.3 = object_form program points scope (T.PointedMember here pointer number) false followed t from to (AsObject path c_type) typed code ∙ object_type path (then_step code.1 (Member number)) c_type code.3 code.7 in
      ticked tac program calls worth points placement hidden frame scope runs well keep
      (λ u. continue_with (λ a v. continue_with (λ place. give (member_at (around_of program) place number)) (accessed here a v)) (value (around_of program) calls pointer u)) from.at s state p h (omega arith) (λ left p' h'.
      then_value tac program calls worth points placement hidden frame scope runs well keep pointer follows (λ a v. continue_with (λ place. give (member_at (around_of program) place number)) (accessed here a v))
      (Behind followed) from to code.0 (Pointer inner.0) code.4 own small (record s { units = left }) state p' h' (omega arith)
      (λ scalar s' state' q came keeps type.
      bind (λ place. give (member_at (around_of program) place number)) (accesses here followed from to code.0 state.running.registers inner.0 scalar s' state' q came form type target.1) (omega arith)
      (λ place s2 state2 q2 found.
      has_found tac program calls worth points placement hidden frame scope runs well keep from to to path c_type (AsObject (then_step code.1 (Member number)) code.3) state.running.registers (member_at (around_of program) place number) s2 state2 q2
      found.came.there found.came.kept refl code.7
      (member_leads tac program calls worth points placement hidden frame scope runs well keep state2.running.registers code.1 code.2 code.3 inner.0 t place number
      (subst (Leads' state2.running.registers place) code.5 found.leads) found.own same inner.2 same')
      found.alive (omega arith) (let laid = ap laid_by code.7 in let laid' = ap laid_by code.5 in let less = pointed_less code.0 in let cost = cost_then code.1 (Member number) in omega (arith, laid, laid', less, cost)))))
