-- Allocations that are made on both sides.
use Rattle.std.proofs.Common.{◌≡◌, ℕ, zero, suc, ◌<◌, if◌then◌else◌, Bool, true, false, List, [], ◌∷◌, ◌++◌, append-nil, Option, Some, None, refl, sym, ap, ◌∙◌, subst, arith}
use Rattle.std.proofs.lemmas.Option.{none-some}
use Rattle.run_theory.specs.Runs.{Allocated}
use Rattle.c_typed.specs.Types.{CType}
use Rattle.c_typed.specs.Typed.{GlobalDef, LiteralDef, Program}
use Rattle.ref_semantics.specs.Values as V
use Rattle.ref_semantics.specs.Values.{Name, Heap, GlobalObject, LiteralObject, LocalObject, Scalar, NullValue, RawPointer, same_name}
use Rattle.ref_semantics.specs.Store as S
use Rattle.ref_semantics.specs.Store.{Then}
use Rattle.ref_semantics.specs.Library.{allocated}
use Rattle.ref_semantics.specs.Sound.{WasGiven, Sound}
use Rattle.ref_semantics.proofs.Objects.{same_name-true}
use Rattle.tac_ir.specs.declared.register.Local.{Local}
use Rattle.tac_ir.specs.declared.register.Register.TheVariants as Registers
use Rattle.tac_ir.specs.Values.{Object, OfHeap, OfActivation, Value, NoAddress, Address, Content, Untyped, Objects, with_content, same_object}
use Rattle.tac_ir.specs.Events.{TacEvent, Made, seen}
use Rattle.tac_ir.specs.States.{State, write, emit, store_content}
use Rattle.tac_ir.specs.Calls.{allocate}
use Rattle.tac_ir.specs.First.{named_global, placed_literal}
use Rattle.tac_simulation.specs.Standing.{Placement, image, global_object, literal_object, ScalarStands, ContentStands, IsAlive, MemoryStands, StateStands}
use Rattle.tac_simulation.proofs.Memory.{same_object-true, same_object-refl, same_name-refl, added_stands}
use Rattle.tac_simulation.proofs.Given.{content_given}
use Rattle.tac_simulation.proofs.Answered.{gave}
use Rattle.tac_simulation.proofs.Repointing.{wherever}

-- What is made gets the same number on both sides; no byte has no object.
pub record AllocatedBoth (program : Program) (placement : Placement) (site size : ℕ) (s after : S.State) (state : State) (answer : Scalar) : Type 0 where
  pub held : Value
  pub objects : Objects
  pub next_heap : ℕ
  pub events : List TacEvent
  pub done : allocate site size state ≡ write (Registers.Call site) held (record state { objects = objects; next_heap = next_heap; trace = state.trace ++ events })
  pub after_is : after ≡ record s { objects = after.objects; next_heap = next_heap; trace = s.trace ++ seen events }
  pub memory : MemoryStands program placement after.objects objects
  pub value : ScalarStands program after.objects placement answer held
  -- what had a name holds what it held
  pub others : (name : Name) → WasGiven s name → after.objects name ≡ s.objects name

-- no local has an allocation for its object
abbrev pub IsNoHeap : Placement → Type 0
IsNoHeap placement = (number heap : ℕ) → placement number ≡ Some (OfHeap heap) → ⊥

pub apart_placement : (program : Program) (placement : Placement) (hidden : ℕ → Option V.Content) (s : S.State) (t : State) → StateStands program placement hidden s t → IsNoHeap placement
apart_placement program placement hidden s t stands number heap is =
    let at = stands.placed number (OfHeap heap) is in
    differ at.1.0 at.1.1 at.1.2
  where
    differ : (activation : ℕ) (local : Local) → OfHeap heap ≡ OfActivation activation local → ⊥
    differ activation local e = cc

-- ---- one more object

got_content : (name : Name) (content : V.Content) (objects : S.Objects) → S.with_content name content objects name ≡ content
got_content name content objects = ap (λ b. if b then content else objects name) (same_name-refl name)

got_content' : (object : Object) (content : Content) (objects : Objects) → with_content object content objects object ≡ content
got_content' object content objects = ap (λ b. if b then content else objects object) (same_object-refl object)

pub other_content : (name other : Name) (content : V.Content) (objects : S.Objects) → (name ≡ other → ⊥) → S.with_content name content objects other ≡ objects other
other_content name other content objects differs = by (same_name name other) refl
  where
    by : (b : Bool) → same_name name other ≡ b → (if b then content else objects other) ≡ objects other
    by true e = absurd (differs (same_name-true name other e))
    by false e = refl

pub other_content' : (object other : Object) (content : Content) (objects : Objects) → (object ≡ other → ⊥) → with_content object content objects other ≡ objects other
other_content' object other content objects differs = by (same_object object other) refl
  where
    by : (b : Bool) → same_object object other ≡ b → (if b then content else objects other) ≡ objects other
    by true e = absurd (differs (same_object-true object other e))
    by false e = refl

-- only the allocation of a number has its object
pub one_heap : (program : Program) (placement : Placement) → IsNoHeap placement → (number : ℕ) (other : Name) → image program placement other ≡ Some (OfHeap number) → Heap number ≡ other
one_heap program placement is_apart number (Heap other) is = let same : other ≡ number = cc in ap Heap (sym same)
one_heap program placement is_apart number (GlobalObject name) is = absurd (by (named_global 0 program.globals name) is)
  where
    by : (found : Option (ℕ × GlobalDef)) → global_object found ≡ Some (OfHeap number) → ⊥
    by None e = none-some (OfHeap number) e
    by (Some found) e = cc
one_heap program placement is_apart number (LiteralObject place) is = absurd (by (placed_literal 0 program.literals place) is)
  where
    by : (found : Option (ℕ × LiteralDef)) → literal_object found ≡ Some (OfHeap number) → ⊥
    by None e = none-some (OfHeap number) e
    by (Some found) e = cc
one_heap program placement is_apart number (LocalObject other) is = absurd (is_apart other number is)

module _ (program : Program) (placement : Placement) (locals : List CType) (s : S.State) (sound : Sound (record { program = program; locals = locals }) s) (state : State)
    (memory : MemoryStands program placement s.objects state.objects) (is_apart : IsNoHeap placement) (heap : state.next_heap ≡ s.next_heap) (site : ℕ) where
  not_given : (name : Name) → WasGiven s name → Heap s.next_heap ≡ name → ⊥
  not_given name given e = by s.next_heap (subst (WasGiven s) (sym e) given)
    where
      by : (n : ℕ) → n < n → ⊥
      by n lt = omega arith

  module _ (size : ℕ) where
    made_stands : MemoryStands program placement (S.with_content (Heap s.next_heap) (V.Raw size) s.objects) (with_content (OfHeap s.next_heap) (Untyped size) state.objects)
    made_stands =
        added_stands program placement placement s.objects (S.with_content (Heap s.next_heap) (V.Raw size) s.objects) state.objects (with_content (OfHeap s.next_heap) (Untyped size) state.objects)
        (Heap s.next_heap) (OfHeap s.next_heap)
        (λ other differs. (other_content (Heap s.next_heap) other (V.Raw size) s.objects differs, refl))
        (λ other differs. other_content' (OfHeap s.next_heap) other (Untyped size) state.objects differs)
        refl
        (subst (λ own. ContentStands program (S.with_content (Heap s.next_heap) (V.Raw size) s.objects) placement own (with_content (OfHeap s.next_heap) (Untyped size) state.objects (OfHeap s.next_heap)))
        (sym (got_content (Heap s.next_heap) (V.Raw size) s.objects)) (got_content' (OfHeap s.next_heap) (Untyped size) state.objects))
        (λ other differs lives is. differs (one_heap program placement is_apart s.next_heap other is))
        (λ other content stands. content_given program s placement placement (S.with_content (Heap s.next_heap) (V.Raw size) s.objects)
        (λ name given lives. subst IsAlive (other_content (Heap s.next_heap) name (V.Raw size) s.objects (not_given name given)) lives) (λ name given. refl)
        (s.objects other) content (sound.contents other) stands)
        memory

  pub allocated_is : (size : ℕ) (answer : Scalar) (after : S.State) → allocated size s ≡ Then answer after → AllocatedBoth program placement site size s after state answer
  allocated_is zero answer after e =
      let last = gave NullValue answer s after e in
      let result : AllocatedBoth program placement site zero s s state NullValue = record {
        held = NoAddress;
        objects = state.objects;
        next_heap = s.next_heap;
        events = [];
        done = ap (λ n. write (Registers.Call site) NoAddress (record state { next_heap = n })) heap ∙ ap (λ trace. write (Registers.Call site) NoAddress (record state { next_heap = s.next_heap; trace = trace })) (sym (append-nil state.trace));
        after_is = ap (λ trace. record s { trace = trace }) (sym (append-nil s.trace));
        memory = memory;
        value = refl;
        others = λ name given. refl;
      } in
      subst (λ last. AllocatedBoth program placement site zero s last state answer) (sym last.1) (subst (λ scalar. AllocatedBoth program placement site zero s s state scalar) (sym last.0) result)
  allocated_is (suc size) answer after e =
      let made = record s { objects = S.with_content (Heap s.next_heap) (V.Raw (suc size)) s.objects; next_heap = suc s.next_heap; trace = s.trace ++ Allocated s.next_heap (suc size) ∷ [] } in
      let last = gave (RawPointer s.next_heap) answer made after e in
      let result : AllocatedBoth program placement site (suc size) s made state (RawPointer s.next_heap) = record {
        held = Address (OfHeap s.next_heap) 0;
        objects = with_content (OfHeap s.next_heap) (Untyped (suc size)) state.objects;
        next_heap = suc s.next_heap;
        events = Made site s.next_heap (suc size) ∷ [];
        done = ap (λ n. write (Registers.Call site) (Address (OfHeap n) 0) (emit (Made site n (suc size) ∷ []) (store_content (OfHeap n) (Untyped (suc size)) (record state { next_heap = suc n })))) heap;
        after_is = refl;
        memory = made_stands (suc size);
        value = (tt, wherever (S.with_content (Heap s.next_heap) (V.Raw (suc size)) s.objects (Heap s.next_heap)) refl);
        others = λ name given. other_content (Heap s.next_heap) name (V.Raw (suc size)) s.objects (not_given name given);
      } in
      subst (λ last. AllocatedBoth program placement site (suc size) s last state answer) (sym last.1) (subst (λ scalar. AllocatedBoth program placement site (suc size) s made state scalar) (sym last.0) result)
