-- Allocations that are freed on both sides.
use Rattle.std.proofs.Common.{◌≡◌, ℕ, ◌==◌, ◌||◌, not, true, false, List, [], ◌∷◌, ◌++◌, append-nil, refl, sym, ap, ◌∙◌, subst, eqb-true}
use Rattle.std.proofs.lemmas.Bool.{false≢true, not-false}
use Rattle.std.proofs.lemmas.Option.{same_Some}
use Rattle.run_theory.specs.declared.place.Pos.{Pos}
use Rattle.run_theory.specs.declared.ends.UbKind.TheVariants as Ub
use Rattle.run_theory.specs.Runs.{Freed}
use Rattle.c_typed.specs.Types.{CType}
use Rattle.c_typed.specs.Typed.{Program}
use Rattle.ref_semantics.specs.Values as V
use Rattle.ref_semantics.specs.Values.{Name, Heap, GlobalObject, LiteralObject, LocalObject, Place, Scalar, IntegerValue, NullValue, FunctionValue, PointerValue, RawPointer}
use Rattle.ref_semantics.specs.Store as S
use Rattle.ref_semantics.specs.Store.{Then, give, offset_of, is_dead}
use Rattle.ref_semantics.specs.Pointers.{access}
use Rattle.ref_semantics.specs.Library.{is_heap, freed}
use Rattle.ref_semantics.specs.First.{around_of}
use Rattle.ref_semantics.specs.Sound.{PointsTo}
use Rattle.tac_ir.specs.Values.{OfHeap, Value, NoAddress, Address, Absent, Objects, with_content}
use Rattle.tac_ir.specs.Events.{TacEvent, Released, seen}
use Rattle.tac_ir.specs.Objects.{is_there}
use Rattle.tac_ir.specs.States.{State, go_on, emit, store_content, unless_lost}
use Rattle.tac_ir.specs.Calls.{free}
use Rattle.tac_simulation.specs.Standing.{Placement, image, ScalarStands, IsAlive, MemoryStands}
use Rattle.tac_simulation.proofs.Alive.{LivesBefore}
use Rattle.tac_simulation.proofs.Memory.{stored_stands, lives_before}
use Rattle.tac_simulation.proofs.Looking.{not_dead, living_place, living_raw}
use Rattle.tac_simulation.proofs.Answered.{past, gave}
use Rattle.tac_simulation.proofs.Equality.{neither_of}

-- What is freed is told by its number, and is there no more; null frees nothing.
pub record FreedBoth (program : Program) (placement : Placement) (site : ℕ) (s after : S.State) (state : State) (answer : Scalar) (held : Value) : Type 0 where
  pub objects : Objects
  pub events : List TacEvent
  pub done : free site held state ≡ go_on (record state { objects = objects; trace = state.trace ++ events })
  pub after_is : after ≡ record s { objects = after.objects; trace = s.trace ++ seen events }
  pub answer_is : answer ≡ NullValue
  pub memory : MemoryStands program placement after.objects objects
  pub lives : LivesBefore s.objects after.objects

module _ (program : Program) (placement : Placement) (s : S.State) (state : State) (memory : MemoryStands program placement s.objects state.objects) (site : ℕ) where
  none_freed : (held : Value) (answer : Scalar) (after : S.State) → held ≡ NoAddress → Then NullValue s ≡ Then answer after → FreedBoth program placement site s after state answer held
  none_freed held answer after is e =
      let last = gave NullValue answer s after e in
      subst (λ last. FreedBoth program placement site s last state answer held) (sym last.1) (record {
        objects = state.objects;
        events = [];
        done = subst (λ v. free site v state ≡ go_on (record state { trace = state.trace ++ [] })) (sym is) (ap (λ trace. go_on (record state { trace = trace })) (sym (append-nil state.trace)));
        after_is = ap (λ trace. record s { trace = trace }) (sym (append-nil s.trace));
        answer_is = last.0;
        memory = memory;
        lives = λ name lives. lives;
      })

  one_freed : (number : ℕ) (held : Value) (answer : Scalar) (after : S.State) → held ≡ Address (OfHeap number) 0 → IsAlive (s.objects (Heap number)) → is_there (state.objects (OfHeap number)) ≡ true
      → (S.store_content (Heap number) V.Dead (S.emit (access Freed (Heap number)) (give NullValue))) s ≡ Then answer after → FreedBoth program placement site s after state answer held
  one_freed number held answer after is alive there e =
      let last = gave NullValue answer (record s { objects = S.with_content (Heap number) V.Dead s.objects; trace = s.trace ++ Freed number ∷ [] }) after e in
      subst (λ last. FreedBoth program placement site s last state answer held) (sym last.1) (record {
        objects = with_content (OfHeap number) Absent state.objects;
        events = Released site number ∷ [];
        done = subst (λ v. free site v state ≡ go_on (record state { objects = with_content (OfHeap number) Absent state.objects; trace = state.trace ++ Released site number ∷ [] })) (sym is)
            (ap (λ b. unless_lost b state (go_on (emit (Released site number ∷ []) (store_content (OfHeap number) Absent state)))) there);
        after_is = refl;
        answer_is = last.0;
        memory = stored_stands program placement s.objects state.objects memory (Heap number) (OfHeap number) refl alive V.Dead Absent tt;
        lives = lives_before program placement s.objects state.objects memory (Heap number) (OfHeap number) refl alive V.Dead Absent;
      })

  place_freed : (here : Pos) (place : Place) (held : Value) (answer : Scalar) (after : S.State) → ScalarStands program s.objects placement (PointerValue place) held → (name : Name) → place.name ≡ name
      → is_heap name ≡ true → is_dead (s.objects place.name) ≡ false → offset_of (around_of program) place ≡ 0
      → (S.store_content place.name V.Dead (S.emit (access Freed place.name) (give NullValue))) s ≡ Then answer after → FreedBoth program placement site s after state answer held
  place_freed here place held answer after stands (GlobalObject name) is heap lives at e = absurd (false≢true heap)
  place_freed here place held answer after stands (LiteralObject where_it_is) is heap lives at e = absurd (false≢true heap)
  place_freed here place held answer after stands (LocalObject number) is heap lives at e = absurd (false≢true heap)
  place_freed here place held answer after stands (Heap number) is heap lives at e =
      let living = living_place program placement s.objects state.objects memory place held lives stands in
      let object : living.object ≡ OfHeap number = same_Some living.object (OfHeap number) (sym living.is_image ∙ ap (image program placement) is) in
      one_freed number held answer after (living.value_is ∙ (λ i. Address (object i) (at i))) (subst (λ n. IsAlive (s.objects n)) is living.alive) (subst (λ o. is_there (state.objects o) ≡ true) object living.there)
      (subst (λ n. (S.store_content n V.Dead (S.emit (access Freed n) (give NullValue))) s ≡ Then answer after) is e)

  pub freed_is : (here : Pos) (target : CType) (value : Scalar) (held : Value) (answer : Scalar) (after : S.State) → PointsTo program s target value → ScalarStands program s.objects placement value held
      → freed (around_of program) here value s ≡ Then answer after → FreedBoth program placement site s after state answer held
  freed_is here target (IntegerValue z) held answer after typed stands e = absurd typed
  freed_is here target NullValue held answer after typed stands e = none_freed held answer after stands e
  freed_is here target (FunctionValue name) held answer after typed stands e = absurd (cc)
  freed_is here target (RawPointer number) held answer after typed stands e =
      let first = past here (is_dead (s.objects (Heap number))) Ub.U11 [] (S.store_content (Heap number) V.Dead (S.emit (access Freed (Heap number)) (give NullValue))) s answer after e in
      let at = living_raw program placement s.objects state.objects memory number held first.0 stands in
      one_freed number held answer after at.0 (not_dead (s.objects (Heap number)) first.0) at.1 first.1
  freed_is here target (PointerValue place) held answer after typed stands e =
      let first = past here (not (is_heap place.name) || (is_dead (s.objects place.name) || not (offset_of (around_of program) place == 0))) Ub.U11 []
      (S.store_content place.name V.Dead (S.emit (access Freed place.name) (give NullValue))) s answer after e in
      let outer = neither_of (not (is_heap place.name)) (is_dead (s.objects place.name) || not (offset_of (around_of program) place == 0)) first.0 in
      let inner = neither_of (is_dead (s.objects place.name)) (not (offset_of (around_of program) place == 0)) outer.1 in
      place_freed here place held answer after stands place.name refl (not-false (is_heap place.name) outer.0) inner.0
      (eqb-true (offset_of (around_of program) place) 0 (not-false (offset_of (around_of program) place == 0) inner.1)) first.1
