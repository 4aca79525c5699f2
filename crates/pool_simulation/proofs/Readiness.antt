-- What is known before a step follows from what code keeps and from states in step: each object that is there lies behind address 0, before
-- the end of all addresses, apart from all others.
use Rattle.std.proofs.Common.{◌≡◌, ℕ, ◌+◌, ◌≤◌, ◌⊎◌, true, map, Some, refl, sym, ap, subst, ◌∙◌, inl, inr, arith, eq-eqb}
use Rattle.std.specs.Prelude.{if◌then◌else◌}
use Rattle.std.proofs.lemmas.Option.{same_Some}
use Rattle.c_typed.specs.Types.{literal_type}
use Rattle.tac_ir.specs.declared.register.Local.{Local}
use Rattle.tac_ir.specs.Values as V
use Rattle.tac_ir.specs.Values.{OfHeap, OfGlobal, OfLiteral, OfActivation}
use Rattle.tac_ir.specs.Layouts.{size_of}
use Rattle.tac_ir.specs.Objects.{is_there, extent_of}
use Rattle.tac_ir.specs.States as T
use Rattle.tac_ir.specs.Code.{Tac}
use Rattle.tac_ir.proofs.Activations.{IsStacked}
use Rattle.pool_isa.specs.Machine.{globals_start}
use Rattle.pool_ir.specs.States.{Activation, State}
use Rattle.pool_rewrite.specs.Plan.{Plan}
use Rattle.pool_rewrite.specs.Placing.{global_offset, literal_offset, offset_of_local}
use Rattle.pool_simulation.specs.Regions.{AreApart}
use Rattle.pool_simulation.specs.Placed.{addresses_end, Placed, BasesStand}
use Rattle.pool_simulation.specs.InStep.{frame_for, local_address, address_in, memory_in, InStep}
use Rattle.pool_simulation.specs.Serving.{Serves}
use Rattle.pool_simulation.proofs.Placed.{globals_apart, literals_apart, global_before_literal}
use Rattle.pool_simulation.proofs.ObjectPlaces.{one_extent, place_in, LocalPlace, StaticPlace, HeapPlace, Place, GlobalHeld, LiteralHeld, moved_apart, local_place, locals_lie_apart, global_held, literal_held, global_place, literal_place, heap_place, allocations_lie_apart, place}
use Rattle.pool_simulation.proofs.Stepping.{Ready}

module _ (tac : Tac) (plan : Plan) (slabs : ℕ) (state : T.State) (machine : State) (stacked : IsStacked tac state) (in_step : InStep tac plan slabs state machine) where
  abbrev extent : V.Object → ℕ
  extent object = extent_of tac.structs (state.objects object)

  -- of two objects at two addresses
  abbrev LieApart : V.Object → V.Object → ℕ → ℕ → Type 0
  LieApart object other address other_address = (object ≡ other) ⊎ AreApart address (extent object) other_address (extent other)

  carried : (object other : V.Object) (own other_own address other_address : ℕ) → address_in tac plan state machine object ≡ Some own → address_in tac plan state machine other ≡ Some other_own
      → address_in tac plan state machine object ≡ Some address → address_in tac plan state machine other ≡ Some other_address → LieApart object other own other_own → LieApart object other address other_address
  carried object other own other_own address other_address is other_is e other_e apart =
      let same : own ≡ address = same_Some own address (sym is ∙ e) in
      let too : other_own ≡ other_address = same_Some other_own other_address (sym other_is ∙ other_e) in
      subst (λ (start : ℕ). LieApart object other start other_address) same (subst (λ (start : ℕ). LieApart object other own start) too apart)

  -- ---- globals and literals

  two_globals : (number other : ℕ) → GlobalHeld tac state number → GlobalHeld tac state other → LieApart (OfGlobal number) (OfGlobal other) (globals_start + global_offset tac number) (globals_start + global_offset tac other)
  two_globals number other at to = by (globals_apart tac number other at.global to.global at.there to.there)
    where
      by : (number ≡ other) ⊎ AreApart (global_offset tac number) (size_of tac.structs at.global.c_type) (global_offset tac other) (size_of tac.structs to.global.c_type)
          → LieApart (OfGlobal number) (OfGlobal other) (globals_start + global_offset tac number) (globals_start + global_offset tac other)
      by (inl e) = inl (ap OfGlobal e)
      by (inr apart) =
          inr (moved_apart globals_start globals_start (global_offset tac number) (global_offset tac other) (global_offset tac other) (size_of tac.structs at.global.c_type) (size_of tac.structs to.global.c_type)
          (extent (OfGlobal number)) (extent (OfGlobal other)) refl refl (one_extent tac.structs (state.objects (OfGlobal number)) at.global.c_type at.held at.content)
          (one_extent tac.structs (state.objects (OfGlobal other)) to.global.c_type to.held to.content) apart)

  two_literals : (number other : ℕ) → LiteralHeld tac state number → LiteralHeld tac state other → LieApart (OfLiteral number) (OfLiteral other) (globals_start + literal_offset tac number) (globals_start + literal_offset tac other)
  two_literals number other at to = by (literals_apart tac number other at.literal to.literal at.there to.there)
    where
      by : (number ≡ other) ⊎ AreApart (literal_offset tac number) (size_of tac.structs (literal_type at.literal.bytes)) (literal_offset tac other) (size_of tac.structs (literal_type to.literal.bytes))
          → LieApart (OfLiteral number) (OfLiteral other) (globals_start + literal_offset tac number) (globals_start + literal_offset tac other)
      by (inl e) = inl (ap OfLiteral e)
      by (inr apart) =
          inr (moved_apart globals_start globals_start (literal_offset tac number) (literal_offset tac other) (literal_offset tac other) (size_of tac.structs (literal_type at.literal.bytes))
          (size_of tac.structs (literal_type to.literal.bytes)) (extent (OfLiteral number)) (extent (OfLiteral other)) refl refl
          (one_extent tac.structs (state.objects (OfLiteral number)) (literal_type at.literal.bytes) at.held at.content)
          (one_extent tac.structs (state.objects (OfLiteral other)) (literal_type to.literal.bytes) to.held to.content) apart)

  global_and_literal : (number other : ℕ) → GlobalHeld tac state number → LiteralHeld tac state other → globals_start + global_offset tac number + extent (OfGlobal number) ≤ globals_start + literal_offset tac other
  global_and_literal number other at to =
      ends (global_offset tac number) (extent (OfGlobal number)) (size_of tac.structs at.global.c_type) (literal_offset tac other) (one_extent tac.structs (state.objects (OfGlobal number)) at.global.c_type at.held at.content)
      (global_before_literal tac number other at.global to.literal at.there to.there)
    where
      ends : (start extent size next : ℕ) → extent ≡ size → start + size ≤ next → globals_start + start + extent ≤ globals_start + next
      ends start extent size next e le = omega (arith, e, le)

  -- ---- of different kinds

  static_before_local : (object : V.Object) (activation : ℕ) (local : Local) (at : StaticPlace tac plan state machine object) (to : LocalPlace tac plan state machine activation local)
      → globals_start + at.offset + extent object ≤ to.own.start + place_in tac plan to.owner local
  static_before_local object activation local at to = omega (arith, at.within, at.high, to.low)

  static_before_heap : (object : V.Object) (number : ℕ) (at : StaticPlace tac plan state machine object) (to : HeapPlace tac plan state machine number) → globals_start + at.offset + extent object ≤ to.stands.address
  static_before_heap object number at to = omega (arith, at.within, at.high, to.low)

  local_before_heap : (activation : ℕ) (local : Local) (number : ℕ) (at : LocalPlace tac plan state machine activation local) (to : HeapPlace tac plan state machine number)
      → at.own.start + place_in tac plan at.owner local + extent (OfActivation activation local) ≤ to.stands.address
  local_before_heap activation local number at to = omega (arith, at.within, at.high, to.low)

  -- ---- any two

  heap_apart : (number : ℕ) (other : V.Object) (address other_address : ℕ) → HeapPlace tac plan state machine number → is_there (state.objects other) ≡ true → address_in tac plan state machine (OfHeap number) ≡ Some address
      → address_in tac plan state machine other ≡ Some other_address → LieApart (OfHeap number) other address other_address
  heap_apart number (OfHeap other) address other_address at too e other_e =
      let to = heap_place tac plan slabs state machine stacked in_step other too in
      carried (OfHeap number) (OfHeap other) at.stands.address to.stands.address address other_address at.stands.is to.stands.is e other_e (allocations_lie_apart tac plan slabs state machine stacked in_step number other at to)
  heap_apart number (OfGlobal other) address other_address at too e other_e =
      let to = global_place tac plan slabs state machine stacked in_step other too in
      carried (OfHeap number) (OfGlobal other) at.stands.address (globals_start + to.offset) address other_address at.stands.is to.is e other_e (inr (inr (static_before_heap (OfGlobal other) number to at)))
  heap_apart number (OfLiteral other) address other_address at too e other_e =
      let to = literal_place tac plan slabs state machine stacked in_step other too in
      carried (OfHeap number) (OfLiteral other) at.stands.address (globals_start + to.offset) address other_address at.stands.is to.is e other_e (inr (inr (static_before_heap (OfLiteral other) number to at)))
  heap_apart number (OfActivation activation local) address other_address at too e other_e =
      let to = local_place tac plan slabs state machine stacked in_step activation local too in
      carried (OfHeap number) (OfActivation activation local) at.stands.address (to.own.start + place_in tac plan to.owner local) address other_address at.stands.is to.is e other_e
      (inr (inr (local_before_heap activation local number to at)))

  local_apart : (activation : ℕ) (local : Local) (other : V.Object) (address other_address : ℕ) → LocalPlace tac plan state machine activation local → is_there (state.objects other) ≡ true
      → address_in tac plan state machine (OfActivation activation local) ≡ Some address → address_in tac plan state machine other ≡ Some other_address → LieApart (OfActivation activation local) other address other_address
  local_apart activation local (OfHeap other) address other_address at too e other_e =
      let to = heap_place tac plan slabs state machine stacked in_step other too in
      carried (OfActivation activation local) (OfHeap other) (at.own.start + place_in tac plan at.owner local) to.stands.address address other_address at.is to.stands.is e other_e
      (inr (inl (local_before_heap activation local other at to)))
  local_apart activation local (OfGlobal other) address other_address at too e other_e =
      let to = global_place tac plan slabs state machine stacked in_step other too in
      carried (OfActivation activation local) (OfGlobal other) (at.own.start + place_in tac plan at.owner local) (globals_start + to.offset) address other_address at.is to.is e other_e
      (inr (inr (static_before_local (OfGlobal other) activation local to at)))
  local_apart activation local (OfLiteral other) address other_address at too e other_e =
      let to = literal_place tac plan slabs state machine stacked in_step other too in
      carried (OfActivation activation local) (OfLiteral other) (at.own.start + place_in tac plan at.owner local) (globals_start + to.offset) address other_address at.is to.is e other_e
      (inr (inr (static_before_local (OfLiteral other) activation local to at)))
  local_apart activation local (OfActivation another other) address other_address at too e other_e =
      let to = local_place tac plan slabs state machine stacked in_step another other too in
      carried (OfActivation activation local) (OfActivation another other) (at.own.start + place_in tac plan at.owner local) (to.own.start + place_in tac plan to.owner other) address other_address at.is to.is e other_e
      (locals_lie_apart tac plan slabs state machine stacked in_step activation local another other at to)

  global_apart : (number : ℕ) (other : V.Object) (address other_address : ℕ) → is_there (state.objects (OfGlobal number)) ≡ true → is_there (state.objects other) ≡ true
      → address_in tac plan state machine (OfGlobal number) ≡ Some address → address_in tac plan state machine other ≡ Some other_address → LieApart (OfGlobal number) other address other_address
  global_apart number (OfHeap other) address other_address there too e other_e =
      let at = global_place tac plan slabs state machine stacked in_step number there in let to = heap_place tac plan slabs state machine stacked in_step other too in
      carried (OfGlobal number) (OfHeap other) (globals_start + at.offset) to.stands.address address other_address at.is to.stands.is e other_e (inr (inl (static_before_heap (OfGlobal number) other at to)))
  global_apart number (OfGlobal other) address other_address there too e other_e =
      carried (OfGlobal number) (OfGlobal other) (globals_start + global_offset tac number) (globals_start + global_offset tac other) address other_address refl refl e other_e
      (two_globals number other (global_held tac plan slabs state machine stacked in_step number there) (global_held tac plan slabs state machine stacked in_step other too))
  global_apart number (OfLiteral other) address other_address there too e other_e =
      carried (OfGlobal number) (OfLiteral other) (globals_start + global_offset tac number) (globals_start + literal_offset tac other) address other_address refl refl e other_e
      (inr (inl (global_and_literal number other (global_held tac plan slabs state machine stacked in_step number there) (literal_held tac plan slabs state machine stacked in_step other too))))
  global_apart number (OfActivation activation local) address other_address there too e other_e =
      let at = global_place tac plan slabs state machine stacked in_step number there in let to = local_place tac plan slabs state machine stacked in_step activation local too in
      carried (OfGlobal number) (OfActivation activation local) (globals_start + at.offset) (to.own.start + place_in tac plan to.owner local) address other_address at.is to.is e other_e
      (inr (inl (static_before_local (OfGlobal number) activation local at to)))

  literal_apart : (number : ℕ) (other : V.Object) (address other_address : ℕ) → is_there (state.objects (OfLiteral number)) ≡ true → is_there (state.objects other) ≡ true
      → address_in tac plan state machine (OfLiteral number) ≡ Some address → address_in tac plan state machine other ≡ Some other_address → LieApart (OfLiteral number) other address other_address
  literal_apart number (OfHeap other) address other_address there too e other_e =
      let at = literal_place tac plan slabs state machine stacked in_step number there in let to = heap_place tac plan slabs state machine stacked in_step other too in
      carried (OfLiteral number) (OfHeap other) (globals_start + at.offset) to.stands.address address other_address at.is to.stands.is e other_e (inr (inl (static_before_heap (OfLiteral number) other at to)))
  literal_apart number (OfGlobal other) address other_address there too e other_e =
      carried (OfLiteral number) (OfGlobal other) (globals_start + literal_offset tac number) (globals_start + global_offset tac other) address other_address refl refl e other_e
      (inr (inr (global_and_literal other number (global_held tac plan slabs state machine stacked in_step other too) (literal_held tac plan slabs state machine stacked in_step number there))))
  literal_apart number (OfLiteral other) address other_address there too e other_e =
      carried (OfLiteral number) (OfLiteral other) (globals_start + literal_offset tac number) (globals_start + literal_offset tac other) address other_address refl refl e other_e
      (two_literals number other (literal_held tac plan slabs state machine stacked in_step number there) (literal_held tac plan slabs state machine stacked in_step other too))
  literal_apart number (OfActivation activation local) address other_address there too e other_e =
      let at = literal_place tac plan slabs state machine stacked in_step number there in let to = local_place tac plan slabs state machine stacked in_step activation local too in
      carried (OfLiteral number) (OfActivation activation local) (globals_start + at.offset) (to.own.start + place_in tac plan to.owner local) address other_address at.is to.is e other_e
      (inr (inl (static_before_local (OfLiteral number) activation local at to)))

  pub objects_apart : (object other : V.Object) (address other_address : ℕ) → is_there (state.objects object) ≡ true → is_there (state.objects other) ≡ true → address_in tac plan state machine object ≡ Some address
      → address_in tac plan state machine other ≡ Some other_address → (object ≡ other) ⊎ AreApart address (extent_of tac.structs (state.objects object)) other_address (extent_of tac.structs (state.objects other))
  objects_apart (OfHeap number) other address other_address there too e other_e =
      heap_apart number other address other_address (heap_place tac plan slabs state machine stacked in_step number there) too e other_e
  objects_apart (OfGlobal number) other address other_address there too e other_e = global_apart number other address other_address there too e other_e
  objects_apart (OfLiteral number) other address other_address there too e other_e = literal_apart number other address other_address there too e other_e
  objects_apart (OfActivation activation local) other address other_address there too e other_e =
      local_apart activation local other address other_address (local_place tac plan slabs state machine stacked in_step activation local there) too e other_e

  pub objects_placed : Placed tac.structs (memory_in tac plan state machine) state.objects
  objects_placed = record { there = λ object there. has_place object (place tac plan slabs state machine stacked in_step object there); apart = objects_apart }
    where
      has_place : (object : V.Object) → Place tac plan state machine object → (address : ℕ) × (address_in tac plan state machine object ≡ Some address) × (1 ≤ address) × (address + extent object ≤ addresses_end)
      has_place object at = (at.address, at.is, omega (arith, at.low), omega (arith, at.high))

  pub bases_stand : BasesStand tac (T.objects_of (T.function_of tac state.running.owner)) (frame_for tac plan state.running.owner) state.running.number state.objects (memory_in tac plan state machine) machine.running.start
  bases_stand = record {
    locals = λ local inner typed there.
        ap (λ b. if b then Some (machine.running.start + offset_of_local (frame_for tac plan state.running.owner).objects local)
        else local_address tac plan (map (λ (waiting : ℕ × T.Activation). waiting.1) state.callers) (map (λ (waiting : ℕ × Activation). waiting.1) machine.callers) state.running.number local)
        (eq-eqb state.running.number state.running.number refl);
    globals = λ number global known there. refl;
    literals = λ number literal known there. refl;
  }

pub ready : (tac : Tac) (plan : Plan) (slabs : ℕ) (state : T.State) (machine : State) (serves : Serves tac plan slabs) → IsStacked tac state → InStep tac plan slabs state machine
    → serves.Knows state machine → Ready tac plan slabs state machine
ready tac plan slabs state machine serves stacked in_step knows = record {
  fits = serves.fits;
  planned = serves.planned;
  kinds = serves.kinds;
  stacked = stacked;
  in_step = in_step;
  serving = serves.serving state machine in_step knows;
  placed = objects_placed tac plan slabs state machine stacked in_step;
  bases = bases_stand tac plan slabs state machine stacked in_step;
}
