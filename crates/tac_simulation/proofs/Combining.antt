-- How the code of a form follows the reference: a unit is spent, an operand comes to its value, a point writes what stands for the value.
use Rattle.std.proofs.Common.{◌≡◌, ℕ, suc, ◌+◌, ◌≤◌, ◌<◌, true, List, Option, Some, refl, sym, ap, ◌∙◌, subst, arith}
use Rattle.c_typed.specs.Types.{CType}
use Rattle.c_typed.specs.Typed.{Value, Program}
use Rattle.c_typed.specs.Expressions.{type_of}
use Rattle.c_typed.specs.Programs.{IsWellTyped}
use Rattle.c_typed.specs.Sizes.{makes, is_storable}
use Rattle.ref_semantics.specs.Values as V
use Rattle.ref_semantics.specs.Values.{Scalar}
use Rattle.ref_semantics.specs.Store as S
use Rattle.ref_semantics.specs.Store.{Outcome, Then, Eval, continue_with, tick}
use Rattle.ref_semantics.specs.Meaning.{Calls, value}
use Rattle.ref_semantics.specs.First.{around_of}
use Rattle.ref_semantics.specs.Sound.{HasType, Sound}
use Rattle.ref_semantics.specs.Keeping.{Keeps, CallsKeep}
use Rattle.ref_semantics.proofs.ValuesKeep.{value_keeps}
use Rattle.ref_semantics.proofs.Lasting.{aside_keeps}
use Rattle.tac_ir.specs.declared.register.Register.{Register}
use Rattle.tac_ir.specs.Code.{Op, Tac}
use Rattle.tac_ir.specs.Values as M
use Rattle.tac_ir.specs.Trees.{Registers, with_register}
use Rattle.tac_ir.specs.Costs.{more_cost}
use Rattle.tac_ir.specs.States.{State, write}
use Rattle.tac_ir.specs.Meaning.{execute}
use Rattle.tac_build.specs.Homes.{Scope}
use Rattle.tac_build.specs.Spots.{Spot, Lowered, Mode}
use Rattle.tac_build.specs.Code.{HasOp, ValueCode}
use Rattle.tac_build.specs.Forms.{scope_types, context_of}
use Rattle.tac_simulation.specs.Comparing.{ticks_per_unit}
use Rattle.tac_simulation.specs.Standing.{Placement, Frame, KeepsBefore, At, LoweredStands, surroundings}
use Rattle.tac_simulation.proofs.Paths.{Stand, Passage as Passing, Passes, Does, comes, stops, stepped, eased, eases, enter}
use Rattle.tac_simulation.proofs.Spotting.{Runs, IsFrom, IsNoLocal, kept_write, at_units, before_at, around_is, with_written, at_written}
use Rattle.tac_simulation.proofs.Evaluating

module _ (tac : Tac) (program : Program) (calls : Calls) (worth : ℕ) (points : List Op) (placement : Placement) (hidden : ℕ → Option V.Content) (frame : Frame) (scope : Scope)
    (runs : Runs tac program points frame) (well : IsWellTyped program) (keep : CallsKeep program calls) where
  -- a unit is spent, where there is one left
  pub ticked : {A : Type 0} {Stands : Stand A} {start : State} {n lag lag' slack slack' : ℕ} (rest : Eval A) (at : ℕ) (s : S.State) (state : State)
      → Passing tac worth start state n s.units lag slack → Evaluating.AtSpot tac program calls worth points placement hidden frame scope at s state → lag ≤ lag'
      → ((left : ℕ) → Passing tac worth start state n left (suc lag) (ticks_per_unit + slack) → Evaluating.AtSpot tac program calls worth points placement hidden frame scope at (record s { units = left }) state
      → Does tac worth start n lag' slack' Stands (rest (record s { units = left })))
      → Does tac worth start n lag' slack' Stands (tick rest s)
  ticked rest at s state p h more next = enter rest state s p h.stands.stands.trace more (λ left p'. next left p' (record { stands = at_units tac program points placement hidden frame scope runs at s state left h.stands; sound = sound_units left }))
    where
      sound_units : (left : ℕ) → Sound (context_of program scope) (record s { units = left })
      sound_units left = (aside_keeps (record s { units = left }) h.sound refl refl refl refl).sound

  -- a point writes what stands for the value
  pub puts : {start : State} {n lag lag' slack slack' : ℕ} (op : Op) (register : Register) (written : M.Value) (mode : Mode) (from mid to : Spot) (lowered found : Lowered) (before : Registers) (scalar : Scalar) (s : S.State) (state : State)
      → Passing tac worth start state n s.units lag slack → At program placement hidden frame scope mid.at s state → KeepsBefore from.counts before state.running.registers
      → HasOp points mid.at op → execute tac (surroundings program frame) op state ≡ write register written state → IsFrom from.counts register → IsNoLocal register → to.at ≡ suc mid.at → lowered ≡ found
      → LoweredStands program mode frame placement s.objects (with_register register (Some written) state.running.registers) found scalar → lag ≤ lag' → slack' + more_cost op < slack
      → Does tac worth start n lag' slack' (Evaluating.ComesToValue tac program calls worth points placement hidden frame scope mode from to lowered before) (Then scalar s)
  puts op register written mode from mid to lowered found before scalar s state p at kept has does new no_local next is stands more less =
      let passes : Passes tac op state (with_written tac program points placement hidden frame scope runs register written state) = record {
        before = before_at tac program points placement hidden frame scope runs mid.at op s state has at;
        does = ap (λ around. execute tac around op state) (around_is tac program points placement hidden frame scope runs mid.at s state at) ∙ does;
      } in
      comes scalar s (with_written tac program points placement hidden frame scope runs register written state) (stepped p passes more less) (
        record {
          there = subst (λ there. At program placement hidden frame scope there s (with_written tac program points placement hidden frame scope runs register written state)) (sym next) (at_written tac program points placement hidden frame scope runs mid.at register written s state no_local at);
          kept = λ other named. kept_write from.counts register (Some written) state.running.registers new other named ∙ kept other named;
        },
        Evaluating.stood mode _ (subst (λ l. LoweredStands program mode frame placement s.objects (with_register register (Some written) state.running.registers) l scalar) (sym is) stands),
      )

  -- an operand comes to its value, and the evaluation goes on
  pub then_value : {B : Type 0} {Stands : Stand B} {start : State} {n lag lag' slack slack' : ℕ} (tree : Value) → Evaluating.ValueDoes tac program calls worth points placement hidden frame scope tree → (next : Scalar → Eval B)
      → (mode : Mode) (from to : Spot) (lowered : Lowered) (t : CType) → ValueCode program points scope mode tree from to lowered → type_of (context_of program scope) tree ≡ Some t → makes (is_storable program.structs) tree ≡ true
      → (s : S.State) (state : State) → Passing tac worth start state n s.units lag slack → Evaluating.AtSpot tac program calls worth points placement hidden frame scope from.at s state → lag + Evaluating.value_units tree ≤ lag'
      → ((scalar : Scalar) (s' : S.State) (state' : State) → Passing tac worth start state' n s'.units (lag + Evaluating.value_units tree) (slack + (Evaluating.laid_by lowered + Evaluating.left_for tree))
      → Evaluating.ComesToValue tac program calls worth points placement hidden frame scope mode from to lowered state.running.registers scalar s' state' → Keeps (context_of program scope) s s' → HasType program s' t scalar
      → Does tac worth start n lag' slack' Stands (next scalar s'))
      → Does tac worth start n lag' slack' Stands (continue_with next (value (around_of program) calls tree s))
  then_value {B} {Stands} {start} {n} {lag} {lag'} {slack} {slack'} tree does next mode from to lowered t code typed small s state p at more rest =
      by (value (around_of program) calls tree s) refl (does mode from to lowered t code typed small start n lag slack s state p at)
    where
      by : (outcome : Outcome Scalar) → value (around_of program) calls tree s ≡ outcome
          → Does tac worth start n (lag + Evaluating.value_units tree) (slack + (Evaluating.laid_by lowered + Evaluating.left_for tree)) (Evaluating.ComesToValue tac program calls worth points placement hidden frame scope mode from to lowered state.running.registers) outcome
          → Does tac worth start n lag' slack' Stands (continue_with next outcome)
      by _ e (comes scalar s' state' p' comes_to) =
          let keeps = value_keeps program well calls keep (scope_types scope) tree small t typed s at.sound scalar s' e in
          rest scalar s' state' p' comes_to keeps.0 keeps.1
      by _ e (stops answer s' a) = let same : Does tac worth start n (lag + Evaluating.value_units tree) slack' Stands (S.Stopped answer s') = stops answer s' a in eases same more (omega arith)

  -- what the code has come to already stands for the value
  pub has_come : {start : State} {n lag lag' slack slack' : ℕ} (mode : Mode) (from mid to : Spot) (lowered found : Lowered) (before : Registers) (scalar : Scalar) (s : S.State) (state : State)
      → Passing tac worth start state n s.units lag slack → At program placement hidden frame scope mid.at s state → KeepsBefore from.counts before state.running.registers → to ≡ mid → lowered ≡ found
      → LoweredStands program mode frame placement s.objects state.running.registers found scalar → lag ≤ lag' → slack' ≤ slack
      → Does tac worth start n lag' slack' (Evaluating.ComesToValue tac program calls worth points placement hidden frame scope mode from to lowered before) (Then scalar s)
  has_come mode from mid to lowered found before scalar s state p at kept next is stands more less =
      comes scalar s state (eased p more less) (
        record { there = subst (λ (spot : Spot). At program placement hidden frame scope spot.at s state) (sym next) at; kept = kept },
        Evaluating.stood mode _ (subst (λ l. LoweredStands program mode frame placement s.objects state.running.registers l scalar) (sym is) stands),
      )
