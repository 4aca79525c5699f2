-- All parameters of a function begin to live with its arguments.
use Rattle.std.proofs.Common.{◌≡◌, ℕ, suc, ◌+◌, ◌≤◌, true, List, [], ◌∷◌, ◌++◌, append_assoc, length-append, Option, Some, inl, refl, sym, ap, ◌∙◌, subst, arith}
use Rattle.std.proofs.lemmas.Bool.{and_parts}
use Rattle.c_typed.specs.Types.{CType}
use Rattle.c_typed.specs.Typed.{Block, Program}
use Rattle.c_typed.specs.Expressions.{is_scalar}
use Rattle.c_typed.specs.Programs.{IsWellTyped, are_scalars, function_of}
use Rattle.ref_semantics.specs.Values as V
use Rattle.ref_semantics.specs.Values.{Name, Scalar, LocalObject, object_place}
use Rattle.ref_semantics.specs.Store as S
use Rattle.ref_semantics.specs.Meaning.{Calls, Completion, Normal, bind, stored_first}
use Rattle.ref_semantics.specs.First.{around_of}
use Rattle.ref_semantics.specs.Sound.{WasGiven, HaveTypes, Later}
use Rattle.ref_semantics.proofs.Lasting.{types_last}
use Rattle.tac_ir.specs.declared.register.Local.TheVariants as L
use Rattle.tac_ir.specs.declared.register.Register.TheVariants as R
use Rattle.tac_ir.specs.Code.{Op, Tac}
use Rattle.tac_ir.specs.Trees.{Registers}
use Rattle.tac_ir.specs.States.{State}
use Rattle.tac_build.specs.Homes.{Home, Scope, takes_block}
use Rattle.tac_build.specs.Spots.{Spot}
use Rattle.tac_build.specs.ProgramCode.{parameter_home, ParametersCode}
use Rattle.tac_build.specs.Forms.{scope_types}
use Rattle.tac_simulation.specs.Standing.{Placement, Frame, image, HoldsFor}
use Rattle.tac_simulation.proofs.Given.{typed_given, held_given}
use Rattle.tac_simulation.proofs.Lasting.{lives_later}
use Rattle.tac_simulation.proofs.Paths.{Passage as Passing, Does, comes, allows, slower}
use Rattle.tac_simulation.proofs.Spotting.{Runs}
use Rattle.tac_simulation.proofs.Evaluating.{AtSpot}
use Rattle.tac_simulation.proofs.Assigned.{then_does}
use Rattle.tac_simulation.proofs.Executing.{HaveObjects, Extends, Begun}
use Rattle.tac_simulation.proofs.Beginnings.{extends_then}
use Rattle.tac_simulation.proofs.Opening.{opened, placed_with, home_object}
use Rattle.tac_simulation.proofs.Newly.{images_given, begun_extends}
use Rattle.tac_simulation.proofs.Parametric.{parameters_of, home_own, all_before, AreBefore, before_next, parameter_apart, ArgumentsStand, argument_ticks, parameter_bound}

-- how many ticks it takes at most to store the arguments of parameters in memory
abbrev pub arguments_ticks : List CType → ℕ
arguments_ticks [] = 0
arguments_ticks (first ∷ others) = argument_ticks first + arguments_ticks others

module _ (tac : Tac) (program : Program) (calls : Calls) (worth : ℕ) (points : List Op) (hidden : ℕ → Option V.Content) (frame : Frame) (runs : Runs tac program points frame) (well : IsWellTyped program) where
  begun_then : (count : ℕ) (outer : List ℕ) (placement placed : Placement) (home : Home) (scope inner : Scope) (at : ℕ) (newest : ℕ) (s1 s2 : S.State) (t2 : State) (way : Completion) → Extends frame count placement placed → s1.locals ≡ newest ∷ outer → count ≤ s1.next_local
      → Begun tac program calls worth points hidden frame s1.next_local s1.locals placed (home ∷ scope) inner at way s2 t2
      → Begun tac program calls worth points hidden frame count outer placement scope inner at way s2 t2
  begun_then count outer placement placed home scope inner at newest s1 s2 t2 way extends own newer g = record {
    placed = g.placed;
    more = g.more ++ home ∷ [];
    fresh = g.fresh ++ newest ∷ [];
    extends = extends_then frame count s1.next_local placement placed g.placed newer extends g.extends;
    own = g.own ∙ ap (λ locals. g.fresh ++ locals) own ∙ sym (append_assoc g.fresh (newest ∷ []) outer);
    depth = let first = length-append g.fresh (newest ∷ []) in let second = length-append g.more (home ∷ []) in let third = g.depth in omega (arith, first, second, third);
    inner_is = g.inner_is ∙ sym (append_assoc g.more (home ∷ []) scope);
    newer = let second = g.newer in omega (arith, newer, second);
    there = g.there;
  }

  -- what the other arguments stand for lasts
  arguments_last : (s s1 : S.State) (placement placed : Placement) (registers registers' : Registers) (result : CType) (types : List CType) (given : List Scalar) (number : ℕ) → are_scalars types ≡ true → HaveTypes program s (parameters_of (function_of result types)) given
      → registers' ≡ registers → Later s s1 → ((name : Name) → WasGiven s name → image program placed name ≡ image program placement name)
      → ArgumentsStand program s.objects placement registers number given → ArgumentsStand program s1.objects placed registers' number given
  arguments_last s s1 placement placed registers registers' result types [] number scalars typed same later images stand = tt
  arguments_last s s1 placement placed registers registers' result [] (first ∷ given) number scalars typed same later images stand = absurd typed
  arguments_last s s1 placement placed registers registers' result (c_type ∷ types) (first ∷ given) number scalars typed same later images stand =
      let parts = and_parts (is_scalar c_type) (are_scalars types) scalars in (
        subst (λ (r : Registers). HoldsFor program s1.objects placed first (r (R.Local (L.Parameter number)))) (sym same)
            (held_given program s placement placed s1.objects (lives_later program placement s s1 later) images first (registers (R.Local (L.Parameter number))) (typed_given program s c_type first parts.0 typed.0) stand.0),
        arguments_last s s1 placement placed registers registers' result types given (suc number) parts.1 typed.1 same later images stand.1,
      )

  -- The code comes to the spot behind, with the parameters in scope: each that lies in memory takes the ticks of its store.
  pub parameters_bound : (body : Block) (result : CType) (types : List CType) (given : List Scalar) (number : ℕ) (placement : Placement) (scope : Scope) (from to : Spot) (inner : Scope) → ParametersCode points body types number scope from to inner
      → are_scalars types ≡ true → HaveObjects frame.objects to.objects → AreBefore number scope → (s : S.State) (t start : State) (n lag slack : ℕ) → AtSpot tac program calls worth points placement hidden frame scope from.at s t
      → HaveTypes program s (parameters_of (function_of result types)) given → ArgumentsStand program s.objects placement t.running.registers number given → Passing tac worth start t n s.units lag (slack + arguments_ticks types)
      → Does tac worth start n lag slack (Begun tac program calls worth points hidden frame s.next_local s.locals placement scope inner to.at) (bind (around_of program) types given s)
  parameters_bound body result [] given number placement scope from to inner code scalars have before s t start n lag slack h typed stand p =
      comes Normal s t (slower slack p (omega arith)) (record {
        placed = placement;
        more = [];
        fresh = [];
        extends = λ number. inl refl;
        own = refl;
        depth = refl;
        inner_is = code.1;
        newer = omega arith;
        there = subst (λ inner. AtSpot tac program calls worth points placement hidden frame inner to.at s t) (sym code.1) (subst (λ (spot : Spot). AtSpot tac program calls worth points placement hidden frame scope spot.at s t) (sym code.0) h);
      })
  parameters_bound body result (c_type ∷ types) [] number placement scope from to inner code scalars have before s t start n lag slack h typed stand p = absurd typed
  parameters_bound body result (c_type ∷ types) (first ∷ given) number placement scope from to inner code scalars have before s t start n lag slack h typed stand p =
      let parts = and_parts (is_scalar c_type) (are_scalars types) scalars in
      let home = parameter_home number c_type (takes_block number body) in
      let placed = placed_with s.next_local (home_object frame.number (parameter_home number c_type (takes_block number body))) placement in
      let rest_have = all_before frame.objects points body types (suc number) (parameter_home number c_type (takes_block number body) ∷ scope) code.0 to inner code.2 have in
      let own = home_own frame (parameter_home number c_type (takes_block number body)) points number from code.0 code.1 rest_have in
      let apart = parameter_apart number s scope s.locals before h.sound.locals in
      then_does (stored_first (around_of program) (object_place (LocalObject s.next_local) c_type) (Some first)) (λ way. bind (around_of program) types given) (opened c_type s)
      (parameter_bound tac program calls worth points hidden frame runs well placement scope number c_type (takes_block number body) from code.0 first s t start n lag (slack + arguments_ticks types) parts.0 own before h typed.0 stand.0 (slower (slack + arguments_ticks types + argument_ticks c_type) p (omega arith)) code.1) (omega arith)
      (λ way s1 t1 e p1 one.
      allows (parameters_bound body result types given (suc number) placed (home ∷ scope) code.0 to inner code.2 parts.1 have ((number, refl, omega arith), before_next number scope before) s1 t1 start n lag slack one.there
      (types_last program one.later (parameters_of (function_of result types)) given typed.1)
      (arguments_last s s1 placement placed t.running.registers t1.running.registers result types given (suc number) parts.1 typed.1 one.registers_are one.later
      (images_given program placement (scope_types scope) s h.sound c_type (home_object frame.number home)) stand.1) p1)
      (λ way' s2 t2 g. begun_then s.next_local s.locals placement placed home scope inner to.at s.next_local s1 s2 t2 way'
      (begun_extends program placement hidden frame scope home from.at s t own apart h.sound h.stands) one.locals one.later.next_local g))
