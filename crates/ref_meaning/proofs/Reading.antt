-- What a reading comes to.
use Rattle.std.proofs.Common.{◌≡◌, ℕ, List, [], ◌∷◌, ◌++◌, None, Some, append-nil, refl, sym, ap, ◌∙◌}
use Rattle.run_theory.specs.declared.place.Pos.{Pos}
use Rattle.run_theory.specs.declared.ends.UbKind.TheVariants as Ub
use Rattle.run_theory.specs.Runs.{Event, Loaded, Trace, output_of}
use Rattle.run_theory.proofs.Traces.{output_of-append}
use Rattle.c_typed.specs.Table.{Interned}
use Rattle.ref_semantics.specs.Values.{Name, Heap, GlobalObject, LiteralObject, LocalObject, Place, Scalar}
use Rattle.ref_semantics.specs.Store.{TypeEnvironment, State, is_dead, scalar_at}
use Rattle.ref_semantics.specs.Pointers.{access, loaded, read}
use Rattle.ref_meaning.specs.declared.store.Store.{Store}
use Rattle.ref_meaning.specs.declared.object.Content as memory_content
use Rattle.ref_meaning.specs.RefStore.Holding.{ContentIs, At, Comes, IsUndefined, left}
use Rattle.ref_meaning.proofs.Giving.{unless-fails, unless-holds, undefined-here}
use Rattle.ref_meaning.proofs.Found.{dead_content}

-- ---- nothing is written

pub quiet-behind : (s t : Trace) → output_of t ≡ [] → output_of (s ++ t) ≡ output_of s
quiet-behind s t e = output_of-append s t ∙ ap (λ l. output_of s ++ l) e ∙ append-nil (output_of s)

-- an access to an object
pub quiet-access : (event : ℕ → Event) → ((number : ℕ) → output_of (event number ∷ []) ≡ []) → (name : Name) → output_of (access event name) ≡ []
quiet-access event quiet (Heap number) = quiet number
quiet-access event quiet (GlobalObject name) = refl
quiet-access event quiet (LiteralObject place) = refl
quiet-access event quiet (LocalObject number) = refl

-- ---- a reading

module _ (around : TypeEnvironment) (here : Pos) (place : Place) (state : State) where
  -- dead
  pub read-dead : (table : Interned) → ContentIs table None (state.objects place.name) → IsUndefined (read around here place) state Ub.U06 here
  read-dead table holds =
      undefined-here (read around here place) state Ub.U06 here (λ units input.
      unless-fails here (is_dead (state.objects place.name)) Ub.U06 [] (loaded here place.name (scalar_at around (state.objects place.name) place)) (left units input state)
      (sym (dead_content table None (state.objects place.name) holds)))

  module _ (table : Interned) (memory : memory_content.Content) (holds : ContentIs table (Some memory) (state.objects place.name)) where
    alive : (units : ℕ) (input : List ℕ)
        → read around here place (left units input state) ≡ loaded here place.name (scalar_at around (state.objects place.name) place) (left units input state)
    alive units input =
        unless-holds here (is_dead (state.objects place.name)) Ub.U06 [] (loaded here place.name (scalar_at around (state.objects place.name) place)) (left units input state)
        (sym (dead_content table (Some memory) (state.objects place.name) holds))

    -- indeterminate
    pub read-nothing : scalar_at around (state.objects place.name) place ≡ None → IsUndefined (read around here place) state Ub.U04 here
    read-nothing none =
        undefined-here (read around here place) state Ub.U04 here (λ units input. alive units input ∙ (λ i. loaded here place.name (none i) (left units input state)))

    pub comes-read : (store : Store) (base : ℕ) (value : Scalar) → At around store base state → scalar_at around (state.objects place.name) place ≡ Some value → Comes around store base (read around here place) state value
    comes-read store base value at some = record {
      after = record state { trace = state.trace ++ access Loaded place.name };
      does = λ units input. alive units input ∙ (λ i. loaded here place.name (some i) (left units input state));
      at = record { structs = at.structs; completed = at.completed; objects = at.objects; locals = at.locals; next_local = at.next_local; next_heap = at.next_heap };
      quiet = quiet-behind state.trace (access Loaded place.name) (quiet-access Loaded (λ number. refl) place.name);
    }
