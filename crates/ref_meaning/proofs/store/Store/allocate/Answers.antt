use Rattle.std.proofs.Common.{◌≡◌, ℕ, zero, suc, ◌<◌, false, true≢false, ◌++◌, [], ◌∷◌, Some, ℤ, pos, negsuc, nat_abs, int_le, refl, sym, ap, subst, ◌∙◌, add-one, to_z-of_z, arith}
use Rattle.run_theory.specs.Runs.{Allocated}
use Rattle.ref_semantics.specs.Values.{Heap, Raw, RawPointer}
use Rattle.ref_semantics.specs.Store.{TypeEnvironment, State, Then, with_content}
use Rattle.ref_semantics.specs.Library.{allocated, natural_of}
use Rattle.ref_meaning.specs.declared.value.Name.TheVariants as N
use Rattle.ref_meaning.specs.declared.object.Content.TheVariants as C
use Rattle.ref_meaning.specs.declared.store.Store.{Store}
use Rattle.ref_meaning.specs.RefStore.Holding.{At, Comes, left, raw}
use Rattle.ref_meaning.proofs.Updating.{Changes, all_changed, unheard}
use Rattle.ref_meaning.proofs.store.Store.allocate.Goals as goal

allocates : (around : TypeEnvironment) (store new : Store) (base : ℕ) (state : State) (size next : ℕ) → 0 < size → next ≡ suc store.next_heap
    → Changes (N.Heap store.next_heap) (Some (C.Raw size)) store.objects new.objects → At around store base state
    → Comes around (record store { objects = new.objects; next_heap = next }) base (allocated size) state (RawPointer store.next_heap)
allocates around store new base state zero next some more changes at = absurd (omega arith)
allocates around store new base state (suc size) next some more changes at = record {
  after = after store.next_heap;
  does = λ units input. ap (λ number. Then (RawPointer number) (left units input (after number))) at.next_heap;
  at = record {
    structs = at.structs;
    completed = at.completed;
    objects = all_changed store.types.now store.objects new.objects state.objects (N.Heap store.next_heap) (Some (C.Raw (suc size))) (Raw (suc size)) changes (raw (suc size)) at.objects;
    locals = at.locals;
    next_local = at.next_local;
    next_heap = sym more;
  };
  quiet = unheard state.trace (Allocated store.next_heap (suc size) ∷ []) refl;
}
  where
    after : ℕ → State
    after number = record state { objects = with_content (Heap number) (Raw (suc size)) state.objects; trace = state.trace ++ (Allocated number (suc size) ∷ []); next_heap = suc number }

allocates_for : (around : TypeEnvironment) (store new : Store) (base : ℕ) (state : State) (wanted size next : ℕ) → wanted ≡ size → 0 < size → next ≡ suc store.next_heap
    → Changes (N.Heap store.next_heap) (Some (C.Raw size)) store.objects new.objects → At around store base state
    → Comes around (record store { objects = new.objects; next_heap = next }) base (allocated wanted) state (RawPointer store.next_heap)
allocates_for around store new base state wanted size next same some more changes at =
    subst (λ size. Comes around (record store { objects = new.objects; next_heap = next }) base (allocated size) state (RawPointer store.next_heap)) (sym same) (allocates around store new base state size next some more changes at)

natural_size : (size : ℤ) (bytes : ℕ) → int_le size (pos 0) ≡ false → bytes ≡ nat_abs size → (natural_of size ≡ bytes) × (0 < bytes)
natural_size (pos zero) bytes some is = absurd (true≢false some)
natural_size (pos (suc n)) bytes some is = (sym is, omega arith)
natural_size (negsuc n) bytes some is = absurd (true≢false some)

pub returns-clause-gives : goal.returns-clause-gives
returns-clause-gives c = λ around base state at.
    let self = c.args.self.now in
    let whole = to_z-of_z c.ranges.size in
    let size = natural_size c.args.size c.in-Ok.bytes (subst (λ z. int_le z (pos 0) ≡ false) whole c.if-size-le0.false) (c.in-Ok.ensures.1 ∙ ap nat_abs whole) in
    allocates_for around self (record self { objects = c.insert.new.self }) base state (natural_of c.args.size) c.in-Ok.bytes c.in-Some.next size.0 size.1 (c.in-Some.ensures.1 ∙ add-one self.next_heap)
    c.in_ok-insert.ensures.updates.0 at
