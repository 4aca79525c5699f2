-- Pointers that are converted on both sides; an allocation without a type may get one.
use Rattle.std.proofs.Common.{◌≡◌, ℕ, zero, suc, ◌/◌, ◌%◌, ◌==◌, not, if◌then◌else◌, Bool, true, false, List, [], Option, Some, None, refl, sym, ap, ◌∙◌, subst, arith, eqb-true}
use Rattle.std.proofs.lemmas.Bool.{false≢true, true≢false, not-false}
use Rattle.std.proofs.lemmas.Option.{none-some}
use Rattle.run_theory.specs.declared.place.Pos.{Pos}
use Rattle.run_theory.specs.declared.ends.UbKind.TheVariants as Ub
use Rattle.c_typed.specs.Types.{CType, same_type, is_function, is_like_void}
use Rattle.c_typed.specs.Layouts.{is_complete}
use Rattle.c_typed.specs.Typed.{Program}
use Rattle.c_typed.specs.Programs.{IsWellTyped}
use Rattle.ref_semantics.specs.Values as V
use Rattle.ref_semantics.specs.Values.{Heap, LocalObject, Scalar, IntegerValue, NullValue, FunctionValue, PointerValue, RawPointer, whole_row, first_of_row}
use Rattle.ref_semantics.specs.Store as S
use Rattle.ref_semantics.specs.Store.{Then, give, offset_of, is_dead_pointer}
use Rattle.ref_semantics.specs.Pointers.{repointed, retyped, of_allocation}
use Rattle.ref_semantics.specs.First.{around_of}
use Rattle.ref_semantics.specs.Rows.{size_in}
use Rattle.ref_semantics.specs.Sound.{PointsTo, Sound}
use Rattle.ref_semantics.proofs.WellTyped.{complete_known, known_complete, like_object}
use Rattle.tac_ir.specs.declared.register.Register.{Register}
use Rattle.tac_ir.specs.declared.register.Local.{Local}
use Rattle.tac_ir.specs.Values.{Object, OfHeap, OfActivation, Value, Address, Content, Untyped, Typed, Objects, with_content, same_object}
use Rattle.tac_ir.specs.Layouts.{size_of}
use Rattle.tac_ir.specs.Objects.{Surroundings}
use Rattle.tac_ir.specs.States.{State, write, store_content, given}
use Rattle.tac_ir.specs.Pointers.{is_alive, typed_content, repoint}
use Rattle.tac_simulation.specs.Standing.{Placement, WhereAlive, IsAddress, ScalarStands, ContentStands, IsAlive, MemoryStands}
use Rattle.tac_simulation.proofs.Alive.{LivesBefore}
use Rattle.tac_simulation.proofs.Memory.{same_object-true, stored_stands, lives_before}
use Rattle.tac_simulation.proofs.Looking.{looked_at_alive, not_dead, living_raw}
use Rattle.tac_simulation.proofs.Placing.{placed}
use Rattle.tac_simulation.proofs.Answered.{past, gave, typed_pointer}
use Rattle.tac_simulation.proofs.Into.{at_beginning}

-- what holds anyway holds where something is alive
pub wherever : {A : Type 0} (content : V.Content) → A → WhereAlive content A
wherever V.Dead a = tt
wherever (V.Raw size) a = a
wherever (V.Elements is_static c_type count held) a = a

-- an object that gets what it holds already
pub same_objects : (object : Object) (objects : Objects) → with_content object (objects object) objects ≡ objects
same_objects object objects = λ i other. by other (same_object object other) refl i
  where
    by : (other : Object) → (b : Bool) → same_object object other ≡ b → (if b then objects object else objects other) ≡ objects other
    by other true e = ap objects (same_object-true object other e)
    by other false e = refl

-- A pointer that is converted: the value stays, and an allocation may have got a type.
pub record RepointedBoth (program : Program) (placement : Placement) (around : Surroundings) (target : CType) (to : Register) (s after : S.State) (state : State) (answer : Scalar) (held : Value) : Type 0 where
  pub objects : Objects
  pub alive : is_alive state.objects held ≡ true
  pub done : repoint around target to held state ≡ write to held (record state { objects = objects })
  pub after_is : after ≡ record s { objects = after.objects }
  pub memory : MemoryStands program placement after.objects objects
  pub value : ScalarStands program after.objects placement answer held
  pub lives : LivesBefore s.objects after.objects
  pub locals_are : (number : ℕ) → after.objects (LocalObject number) ≡ s.objects (LocalObject number)
  pub own_are : (activation : ℕ) (local : Local) → objects (OfActivation activation local) ≡ state.objects (OfActivation activation local)

module _ (program : Program) (well : IsWellTyped program) (placement : Placement) (locals : List CType) (s : S.State) (sound : Sound (record { program = program; locals = locals }) s)
    (state : State) (memory : MemoryStands program placement s.objects state.objects) (around : Surroundings) (same : around.structs ≡ program.structs) (target : CType) (to : Register) where
  -- nothing but the register changes
  unchanged : (answer : Scalar) (held : Value) (after : S.State) → after ≡ s → is_alive state.objects held ≡ true → repoint around target to held state ≡ write to held state
      → ScalarStands program s.objects placement answer held → RepointedBoth program placement around target to s after state answer held
  unchanged answer held after e alive done stands =
      subst (λ last. RepointedBoth program placement around target to s last state answer held) (sym e)
      (record { objects = state.objects; alive = alive; done = done; after_is = refl; memory = memory; value = stands; lives = λ name lives. lives; locals_are = λ number. refl; own_are = λ activation local. refl })

  -- a typed object stays as it is, and one without a type does where the target gives none
  kept : (object : Object) (offset : ℕ) → typed_content around target (state.objects object) ≡ Some (state.objects object) → repoint around target to (Address object offset) state ≡ write to (Address object offset) state
  kept object offset stays =
      ap (λ found. given found state (λ content. write to (Address object offset) (store_content object content state))) stays
      ∙ ap (λ (objects : Objects). write to (Address object offset) (record state { objects = objects })) (same_objects object state.objects)

  kept_value : (held : Value) (object : Object) (offset : ℕ) → held ≡ Address object offset → typed_content around target (state.objects object) ≡ Some (state.objects object) → repoint around target to held state ≡ write to held state
  kept_value held object offset is stays = subst (λ v. repoint around target to v state ≡ write to v state) (sym is) (kept object offset stays)

  typed_stays : {c_type : CType} {count : ℕ} {held : ℕ → Option Value} (content : Content) → content ≡ Typed c_type count held → typed_content around target content ≡ Some content
  typed_stays {c_type} {count} {held} content e = subst (λ c. typed_content around target c ≡ Some c) (sym e) refl

  untyped_stays : (size : ℕ) (content : Content) → content ≡ Untyped size → is_complete program.structs target ≡ false → typed_content around target content ≡ Some content
  untyped_stays size content e incomplete = subst (λ c. typed_content around target c ≡ Some c) (sym e) (by (is_complete around.structs target) (ap (λ structs. is_complete structs target) same ∙ incomplete))
    where
      by : (b : Bool) → b ≡ false → (if b then (if size % size_of around.structs target == 0 then Some (Typed target (size / size_of around.structs target) (λ offset. None)) else None) else Some (Untyped size)) ≡ Some (Untyped size)
      by true e = absurd (true≢false e)
      by false e = refl

  incomplete : is_like_void program.completed target ≡ true → is_complete program.structs target ≡ false
  incomplete like = by (is_complete program.structs target) refl
    where
      by : (b : Bool) → is_complete program.structs target ≡ b → b ≡ false
      by true e = absurd (true≢false (sym like ∙ complete_known program well target e))
      by false e = refl

  -- a pointer to an allocation, and a type that gives none
  raw_stays : (number : ℕ) (own : V.Content) → IsAlive own → ContentStands program s.objects placement own (state.objects (OfHeap number)) → is_complete program.structs target ≡ false
      → typed_content around target (state.objects (OfHeap number)) ≡ Some (state.objects (OfHeap number))
  raw_stays number V.Dead lives stands complete = absurd lives
  raw_stays number (V.Raw size) lives stands complete = untyped_stays size (state.objects (OfHeap number)) stands complete
  raw_stays number (V.Elements is_static c_type count held) lives stands complete = typed_stays (state.objects (OfHeap number)) stands.1

  -- an allocation gets a type
  gets_type : (size : ℕ) (content : Content) → content ≡ Untyped size → is_complete program.structs target ≡ true → size % size_in program.structs target ≡ 0
      → typed_content around target content ≡ Some (Typed target (size / size_in program.structs target) (λ offset. None))
  gets_type size content e complete divides =
      ap (typed_content around target) e
      ∙ ap (λ structs. if is_complete structs target then (if size % size_of structs target == 0 then Some (Typed target (size / size_of structs target) (λ offset. None)) else None) else Some (Untyped size)) same
      ∙ by (is_complete program.structs target) complete (size % size_in program.structs target) divides
    where
      by : (b : Bool) → b ≡ true → (n : ℕ) → n ≡ 0 → (if b then (if n == 0 then Some (Typed target (size / size_in program.structs target) (λ offset. None)) else None) else Some (Untyped size))
          ≡ Some (Typed target (size / size_in program.structs target) (λ offset. None))
      by true e zero e' = refl
      by true e (suc n) e' = absurd (omega arith)
      by false e n e' = absurd (false≢true e)

  fresh_stands : (size : ℕ) → ContentStands program s.objects placement (V.Elements false target (size / size_in program.structs target) (λ offset. None)) (Typed target (size / size_in program.structs target) (λ offset. None))
  fresh_stands size = ((λ offset. None), refl, λ offset own scalar leaf is. absurd (none-some scalar is))

  begins : (number count : ℕ) (c_type : CType) (objects : S.Objects) (held : Value) → held ≡ Address (OfHeap number) 0 → ScalarStands program objects placement (PointerValue (first_of_row (Heap number) (whole_row c_type count))) held
  begins number count c_type objects held is = (subst IsAddress (sym is) tt, wherever (objects (Heap number)) (OfHeap number, 0, (refl, at_beginning (size_in program.structs c_type)), is))

  of_allocation_is : (here : Pos) (number : ℕ) (held : Value) (answer : Scalar) (after : S.State) → is_complete program.structs target ≡ true → is_dead_pointer s.objects (RawPointer number) ≡ false
      → ScalarStands program s.objects placement (RawPointer number) held → (own : V.Content) → s.objects (Heap number) ≡ own → of_allocation (around_of program) here target number own s ≡ Then answer after
      → RepointedBoth program placement around target to s after state answer held
  of_allocation_is here number held answer after complete lives stands V.Dead is e = absurd (cc)
  of_allocation_is here number held answer after complete lives stands (V.Elements is_static c_type count holds) is e =
      let first = past here (not (same_type c_type target)) Ub.U12 [] (give (PointerValue (first_of_row (Heap number) (whole_row c_type count)))) s answer after e in
      let second = gave (PointerValue (first_of_row (Heap number) (whole_row c_type count))) answer s after first.1 in
      let at = living_raw program placement s.objects state.objects memory number held lives stands in
      let content = subst (λ own. ContentStands program s.objects placement own (state.objects (OfHeap number))) is (memory.contents (Heap number) (OfHeap number) refl) in
      unchanged answer held after second.1 (looked_at_alive program placement s.objects state.objects memory (RawPointer number) held tt lives stands)
      (kept_value held (OfHeap number) 0 at.0 (typed_stays (state.objects (OfHeap number)) content.1))
      (subst (λ scalar. ScalarStands program s.objects placement scalar held) (sym second.0) (begins number count c_type s.objects held at.0))
  of_allocation_is here number held answer after complete lives stands (V.Raw size) is e =
      let content = V.Elements false target (size / size_in program.structs target) (λ offset. None) in
      let content' = Typed target (size / size_in program.structs target) (λ offset. None) in
      let stored = record s { objects = S.with_content (Heap number) (V.Elements false target (size / size_in program.structs target) (λ offset. None)) s.objects } in
      let value = PointerValue (first_of_row (Heap number) (whole_row target (size / size_in program.structs target))) in
      let first = past here (not (size % size_in program.structs target == 0)) Ub.U13 [] (S.store_content (Heap number) content (give value)) s answer after e in
      let second = gave value answer stored after first.1 in
      let divides = eqb-true (size % size_in program.structs target) 0 (not-false (size % size_in program.structs target == 0) first.0) in
      let at = living_raw program placement s.objects state.objects memory number held lives stands in
      let was = subst (λ own. ContentStands program s.objects placement own (state.objects (OfHeap number))) is (memory.contents (Heap number) (OfHeap number) refl) in
      let alive = not_dead (s.objects (Heap number)) lives in
      let result : RepointedBoth program placement around target to s stored state value held = record {
        objects = with_content (OfHeap number) content' state.objects;
        alive = looked_at_alive program placement s.objects state.objects memory (RawPointer number) held tt lives stands;
        done = subst (λ v. repoint around target to v state ≡ write to v (record state { objects = with_content (OfHeap number) content' state.objects })) (sym at.0)
            (ap (λ found. given found state (λ content. write to (Address (OfHeap number) 0) (store_content (OfHeap number) content state))) (gets_type size (state.objects (OfHeap number)) was complete divides));
        after_is = refl;
        memory = stored_stands program placement s.objects state.objects memory (Heap number) (OfHeap number) refl alive content content' (fresh_stands size);
        value = begins number (size / size_in program.structs target) target (S.with_content (Heap number) content s.objects) held at.0;
        lives = lives_before program placement s.objects state.objects memory (Heap number) (OfHeap number) refl alive content content';
        locals_are = λ number. refl;
        own_are = λ activation local. refl;
      } in
      subst (λ last. RepointedBoth program placement around target to s last state answer held) (sym second.1) (subst (λ scalar. RepointedBoth program placement around target to s stored state scalar held) (sym second.0) result)

  retyped_is : (here : Pos) (t : CType) (value : Scalar) (held : Value) (answer : Scalar) (after : S.State) → is_function target ≡ is_function t → is_like_void program.completed target ≡ false
      → PointsTo program s t value → is_dead_pointer s.objects value ≡ false → ScalarStands program s.objects placement value held → retyped (around_of program) here target value s ≡ Then answer after
      → RepointedBoth program placement around target to s after state answer held
  retyped_is here t (IntegerValue z) held answer after kind known typed lives stands e = absurd typed
  retyped_is here t NullValue held answer after kind known typed lives stands e =
      let second = gave NullValue answer s after e in
      unchanged answer held after second.1 (looked_at_alive program placement s.objects state.objects memory NullValue held tt lives stands)
      (subst (λ v. repoint around target to v state ≡ write to v state) (sym stands) refl) (subst (λ scalar. ScalarStands program s.objects placement scalar held) (sym second.0) stands)
  retyped_is here t (FunctionValue name) held answer after kind known typed lives stands e =
      let second = gave (FunctionValue name) answer s after e in
      unchanged answer held after second.1 (looked_at_alive program placement s.objects state.objects memory (FunctionValue name) held tt lives stands)
      (subst (λ v. repoint around target to v state ≡ write to v state) (sym stands.2) refl) (subst (λ scalar. ScalarStands program s.objects placement scalar held) (sym second.0) stands)
  retyped_is here t (PointerValue place) held answer after kind known typed lives stands e =
      let first = past here (not (same_type place.row.c_type target)) Ub.U12 [] (give (PointerValue place)) s answer after e in
      let second = gave (PointerValue place) answer s after first.1 in
      let at = placed program well placement locals s sound state.objects memory place held typed.1 lives stands in
      unchanged answer held after second.1 (looked_at_alive program placement s.objects state.objects memory (PointerValue place) held tt lives stands)
      (kept_value held at.object (offset_of (around_of program) place) at.value_is (typed_stays (state.objects at.object) at.typed.content'))
      (subst (λ scalar. ScalarStands program s.objects placement scalar held) (sym second.0) stands)
  retyped_is here t (RawPointer number) held answer after kind known typed lives stands e =
      let object = kind ∙ like_object program well t typed.0 in
      of_allocation_is here number held answer after (known_complete program well target known object) lives stands (s.objects (Heap number)) refl e

  -- to a type that is like void
  as_void_is : (t : CType) (value : Scalar) (held : Value) (answer : Scalar) (after : S.State) → is_like_void program.completed target ≡ true → PointsTo program s t value → is_dead_pointer s.objects value ≡ false
      → ScalarStands program s.objects placement value held → Then value s ≡ Then answer after → RepointedBoth program placement around target to s after state answer held
  as_void_is t value held answer after like typed lives stands e =
      let second = gave value answer s after e in
      unchanged answer held after second.1 (looked_at_alive program placement s.objects state.objects memory value held (typed_pointer program s t value typed) lives stands)
      (by value typed lives stands) (subst (λ scalar. ScalarStands program s.objects placement scalar held) (sym second.0) stands)
    where
      by : (value : Scalar) → PointsTo program s t value → is_dead_pointer s.objects value ≡ false → ScalarStands program s.objects placement value held → repoint around target to held state ≡ write to held state
      by (IntegerValue z) typed lives stands = absurd typed
      by NullValue typed lives stands = subst (λ v. repoint around target to v state ≡ write to v state) (sym stands) refl
      by (FunctionValue name) typed lives stands = subst (λ v. repoint around target to v state ≡ write to v state) (sym stands.2) refl
      by (PointerValue place) typed lives stands =
          let at = placed program well placement locals s sound state.objects memory place held typed.1 lives stands in
          kept_value held at.object (offset_of (around_of program) place) at.value_is (typed_stays (state.objects at.object) at.typed.content')
      by (RawPointer number) typed lives stands =
          let at = living_raw program placement s.objects state.objects memory number held lives stands in
          kept_value held (OfHeap number) 0 at.0
          (raw_stays number (s.objects (Heap number)) (not_dead (s.objects (Heap number)) lives) (memory.contents (Heap number) (OfHeap number) refl) (incomplete like))

  pub repointed_is : (here : Pos) (t : CType) (value : Scalar) (held : Value) (answer : Scalar) (after : S.State) → is_function target ≡ is_function t
      → PointsTo program s t value → ScalarStands program s.objects placement value held → repointed (around_of program) here target value s ≡ Then answer after
      → RepointedBoth program placement around target to s after state answer held
  repointed_is here t value held answer after kind typed stands e =
      let first = past here (is_dead_pointer s.objects value) Ub.U06 [] (if is_like_void program.completed target then give value else retyped (around_of program) here target value) s answer after e in
      by (is_like_void program.completed target) refl first.0 first.1
    where
      by : (b : Bool) → is_like_void program.completed target ≡ b → is_dead_pointer s.objects value ≡ false → (if b then give value else retyped (around_of program) here target value) s ≡ Then answer after
          → RepointedBoth program placement around target to s after state answer held
      by true like lives e = as_void_is t value held answer after like typed lives stands e
      by false known lives e = retyped_is here t value held answer after kind known typed lives stands e
