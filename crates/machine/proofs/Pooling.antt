-- Objects placed and freed, as the meaning has them.
use Rattle.std.proofs.Common.{◌≡◌, ℕ, ◌==◌, Bool, true, false, if◌then◌else◌, List, [], ◌∷◌, ◌++◌, length, suc, Option, None, Some, is_some, refl, sym, ap, ◌∙◌}
use Rattle.std.specs.Option.{option_map}
use Rattle.std.proofs.lemmas.List.{append-nil}
use Rattle.run_theory.specs.declared.ends.TrapKind.TheVariants as traps
use Rattle.run_theory.specs.Runs.{Event, Allocated, Freed, Trapped, Trace, output_of, To, Halt}
use Rattle.run_theory.proofs.Traces.{output_of-append}
use Rattle.slab_space.specs.declared.kind.PoolKind.{PoolKind}
use Rattle.slab_space.specs.Pool.{Pool}
use Rattle.slab_space.specs.Pools.{pool_at, lives_of, kind_of, alloc_step, free_step}
use Rattle.pool_isa.specs.Machine.{Activation, Heap, History, State, advanced, with_two, in_pool, fits_kind, fits_pool, placed_at, allocated, allocates, freed, frees, number_of}
use Rattle.machine.specs.Heaps.{PlacesAt, FreesTo}
use Rattle.machine.specs.Steps.{state_of, GoesInside}

-- an event that writes nothing
silent : (trace : Trace) (event : Event) → output_of (event ∷ []) ≡ [] → output_of (trace ++ event ∷ []) ≡ output_of trace
silent trace event none = output_of-append trace (event ∷ []) ∙ ap (λ o. output_of trace ++ o) none ∙ append-nil (output_of trace)

-- what both choices give
either : {X Y : Type 0} (f : X → Y) (z : Y) (b : Bool) (x y : X) → f x ≡ z → f y ≡ z → f (if b then x else y) ≡ z
either f z true x y p q = p
either f z false x y p q = q

inside_if : {X Y : Type 0} (f : X → Y) (b : Bool) (x y : X) → f (if b then x else y) ≡ (if b then f x else f y)
inside_if f true x y = refl
inside_if f false x y = refl

-- a pool with a kind lives, and its kind is asked what fits
lives_by_kind : (there : Option Pool) (kind : PoolKind) → option_map (λ (pool : Pool). pool.kind) there ≡ Some kind → is_some there ≡ true
lives_by_kind None kind e = let no : ⊥ = cc in absurd no
lives_by_kind (Some pool) kind e = refl

fits_by_kind : (there : Option Pool) (kind : PoolKind) (bytes : ℕ) → option_map (λ (pool : Pool). pool.kind) there ≡ Some kind → fits_pool there bytes ≡ fits_kind kind bytes
fits_by_kind None kind bytes e = let no : ⊥ = cc in absurd no
fits_by_kind (Some pool) kind bytes e = let same : pool.kind ≡ kind = cc in ap (λ k. fits_kind k bytes) same

module _ (old new : Activation) (callers : List Activation) (heap heap' : Heap) (history : History) (input : List ℕ) (trace : Trace) (pool : ℕ) where
  abbrev here : State
  here = state_of (old ∷ callers) heap history input trace

  -- a placed object
  pub placed_inside : (bytes address : ℕ) (rest : List ℕ) (kind : PoolKind) → old.operands ≡ bytes ∷ pool ∷ rest → kind_of heap.pools pool ≡ Some kind → fits_kind kind bytes ≡ true
      → PlacesAt pool bytes heap address heap' → new ≡ advanced old (address ∷ rest)
      → GoesInside (with_two old.operands here (λ pool bytes rest. in_pool pool here (allocates pool bytes rest old callers here))) here (new ∷ callers) heap'
  placed_inside bytes address rest kind two there fits places is =
      let go = λ (pool bytes : ℕ) (rest : List ℕ). in_pool pool here (allocates pool bytes rest old callers here) in
      let after = placed_at pool bytes address places.pools here in
      let lives : lives_of heap.pools pool ≡ true = lives_by_kind (pool_at heap.pools pool) kind there in
      let fit : fits_pool (pool_at heap.pools pool) bytes ≡ true = fits_by_kind (pool_at heap.pools pool) kind bytes there ∙ fits in
      record {
        next = record after { activations = advanced old (address ∷ rest) ∷ callers };
        goes = ap (λ os. with_two os here go) two
            ∙ ap (λ b. if b then allocates pool bytes rest old callers here else Halt (Trapped traps.BadPool) here) lives
            ∙ ap (λ b. if b then allocated (alloc_step heap.pools pool bytes) pool bytes rest old callers here else Halt (Trapped traps.BadSize) here) fit
            ∙ ap (λ a. allocated a pool bytes rest old callers here) places.step;
        frames = ap (λ f. f ∷ callers) (sym is);
        heap_is = inside_if (λ (s : State). s.heap) (bytes == 0) _ _ ∙ sym places.heap;
        input = either (λ (s : State). s.input) input (bytes == 0) _ _ refl refl;
        output = either (λ (s : State). output_of s.trace) (output_of trace) (bytes == 0) _ _ refl (silent trace (Allocated (suc (length history.placed)) bytes) refl);
      }

  -- a freed object, or address 0
  pub freed_inside : (address : ℕ) (rest : List ℕ) → old.operands ≡ address ∷ pool ∷ rest → lives_of heap.pools pool ≡ true
      → (address == 0) ≡ false → FreesTo pool address heap heap' → new ≡ advanced old rest
      → GoesInside (with_two old.operands here (λ pool address rest. in_pool pool here (frees pool address rest old callers here))) here (new ∷ callers) heap'
  freed_inside address rest two lives some frees_to is =
      let go = λ (pool address : ℕ) (rest : List ℕ). in_pool pool here (frees pool address rest old callers here) in
      record {
        next = _;
        goes = ap (λ os. with_two os here go) two
            ∙ ap (λ b. if b then frees pool address rest old callers here else Halt (Trapped traps.BadPool) here) lives
            ∙ ap (λ b. if b then To (record here { activations = advanced old rest ∷ callers }) else freed (free_step heap.pools pool address) address rest old callers here) some
            ∙ ap (λ p. freed p address rest old callers here) frees_to.step;
        frames = ap (λ f. f ∷ callers) (sym is);
        heap_is = sym frees_to.heap;
        input = refl;
        output = silent trace (Freed (number_of history.placed address)) refl;
      }

  pub nothing_freed : (address : ℕ) (rest : List ℕ) → old.operands ≡ address ∷ pool ∷ rest → lives_of heap.pools pool ≡ true
      → (address == 0) ≡ true → heap' ≡ heap → new ≡ advanced old rest
      → GoesInside (with_two old.operands here (λ pool address rest. in_pool pool here (frees pool address rest old callers here))) here (new ∷ callers) heap'
  nothing_freed address rest two lives none same is =
      let go = λ (pool address : ℕ) (rest : List ℕ). in_pool pool here (frees pool address rest old callers here) in
      record {
        next = record here { activations = advanced old rest ∷ callers };
        goes = ap (λ os. with_two os here go) two
            ∙ ap (λ b. if b then frees pool address rest old callers here else Halt (Trapped traps.BadPool) here) lives
            ∙ ap (λ b. if b then To (record here { activations = advanced old rest ∷ callers }) else freed (free_step heap.pools pool address) address rest old callers here) none;
        frames = ap (λ f. f ∷ callers) (sym is);
        heap_is = sym same;
        input = refl;
        output = refl;
      }
