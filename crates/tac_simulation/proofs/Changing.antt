-- A point that changes what the heap holds, the input or the trace, and perhaps registers: the states behind it stand for each other where
-- their objects do, and where locals hold what they held.
use Rattle.std.proofs.Common.{◌≡◌, ℕ, suc, ◌<◌, Bool, true, false, List, [], ◌∷◌, Option, Some, refl, ap, ◌∙◌, subst}
use Rattle.run_theory.specs.Runs.{Trace}
use Rattle.c_typed.specs.Types.{CType}
use Rattle.c_typed.specs.Typed.{Program}
use Rattle.ref_semantics.specs.Values as V
use Rattle.ref_semantics.specs.Values.{Name, LocalObject, Scalar}
use Rattle.ref_semantics.specs.Store as S
use Rattle.ref_semantics.specs.Sound.{WasGiven, AreLocals, HoldsTyped, IsSoundContent, Sound}
use Rattle.tac_ir.specs.declared.register.Local.{Local}
use Rattle.tac_ir.specs.declared.register.Register.TheVariants as R
use Rattle.tac_ir.specs.Values.{OfActivation, Objects}
use Rattle.tac_ir.specs.Events.{TacEvent, seen}
use Rattle.tac_ir.specs.Trees.{Registers}
use Rattle.tac_ir.specs.States.{State}
use Rattle.tac_build.specs.Homes.{Home, Scope}
use Rattle.tac_build.specs.Forms.{context_of, scope_types}
use Rattle.tac_simulation.specs.Standing.{Placement, Frame, MemoryStands, HoldsFor, HomeStands, HomesStand, At, IsAlive}
use Rattle.tac_simulation.proofs.Given.{NamesGiven, typed_given, held_given}

module _ (program : Program) (placement : Placement) (hidden : ℕ → Option V.Content) (frame : Frame) (scope : Scope) (s : S.State) (t : State) (sound : Sound (context_of program scope) s)
    (objects : S.Objects) (objects' : Objects) (memory : MemoryStands program placement objects objects')
    (lives : (name : Name) → WasGiven s name → IsAlive (objects name) → IsAlive (s.objects name))
    (same : (number : ℕ) → number < s.next_local → objects (LocalObject number) ≡ s.objects (LocalObject number))
    (same' : (local : Local) → objects' (OfActivation frame.number local) ≡ t.objects (OfActivation frame.number local))
    (registers : Registers) (kept : (local : Local) → registers (R.Local local) ≡ t.running.registers (R.Local local)) where
  held_named : (number : ℕ) (c_type : CType) (held : ℕ → Option Scalar) → s.objects (LocalObject number) ≡ V.Elements false c_type 1 held → (scalar : Scalar) → held 0 ≡ Some scalar → NamesGiven s scalar
  held_named number c_type held is scalar held_is =
      let content : HoldsTyped program s c_type 1 held = subst (IsSoundContent program s) is (sound.contents (LocalObject number)) in
      let leaf = content.leaves 0 scalar held_is in
      typed_given program s leaf.0 scalar leaf.1.scalar leaf.2

  home_changed : (home : Home) (number : ℕ) → number < s.next_local → HomeStands program placement frame.number s.objects t.running.registers home number → HomeStands program placement frame.number objects registers home number
  home_changed home number was stands = by home.is_object stands
    where
      by : (b : Bool) → HomeStands program placement frame.number s.objects t.running.registers (record home { is_object = b }) number → HomeStands program placement frame.number objects registers (record home { is_object = b }) number
      by true stands = stands
      by false stands = (
        stands.0,
        (
          stands.1.0,
          same number was ∙ stands.1.1,
          λ scalar is.
              let before = stands.1.2 scalar is in
              let moved : HoldsFor program s.objects placement scalar (registers (R.Local home.local)) = (before.0, kept home.local ∙ before.1, before.2) in
              held_given program s placement placement objects lives (λ name given. refl) scalar (registers (R.Local home.local)) (held_named number home.c_type stands.1.0 stands.1.1 scalar is) moved,
        ),
      )

  homes_changed : (own : Scope) (locals : List ℕ) → AreLocals s locals (scope_types own) → HomesStand program placement frame.number s.objects t.running.registers own locals → HomesStand program placement frame.number objects registers own locals
  homes_changed [] [] are stands = tt
  homes_changed (home ∷ own) (newest ∷ others) are stands = (home_changed home newest are.0 stands.0, homes_changed own others are.2 stands.1, stands.2)
  homes_changed [] (newest ∷ others) are stands = absurd stands
  homes_changed (home ∷ own) [] are stands = absurd stands

  pub at_changed : (at heap heap' : ℕ) (input input' : List ℕ) (trace : Trace) (trace' : List TacEvent) → heap' ≡ heap → input' ≡ input → seen trace' ≡ trace → At program placement hidden frame scope at s t
      → At program placement hidden frame scope (suc at) (record s { input = input; objects = objects; next_heap = heap; trace = trace })
      (record t { running = record t.running { registers = registers; at = suc t.running.at }; objects = objects'; next_heap = heap'; input = input'; trace = trace'; paid = 0 })
  at_changed at heap heap' input input' trace trace' heaps inputs traces h = record {
    stands = record {
      input = inputs;
      heap = heaps;
      trace = traces;
      memory = memory;
      placed = h.stands.placed;
      unchanged = λ number content is. let was = h.stands.unchanged number content is in (was.0, same number was.0 ∙ was.1, was.2, was.3);
    };
    homes = homes_changed scope s.locals sound.locals h.homes;
    own = record {
      there = λ local inner is. let was = h.own.there local inner is in (was.0, same' local ∙ was.1, was.2);
      in_scope = λ number local is alive. h.own.in_scope number local is (lives (LocalObject number) (h.stands.placed number (OfActivation frame.number local) is).0 alive);
    };
    point = ap suc h.point;
    owner = h.owner;
    number = h.number;
    callers = h.callers;
    paid = refl;
  }
