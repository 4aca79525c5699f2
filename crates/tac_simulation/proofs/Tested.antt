-- Pointers that are tested on both sides.
use Rattle.std.proofs.Common.{◌≡◌, Bool, true, false, not, [], refl, sym, ap, ◌∙◌}
use Rattle.run_theory.specs.declared.place.Pos.{Pos}
use Rattle.run_theory.specs.declared.ends.UbKind.TheVariants as Ub
use Rattle.c_typed.specs.Types.{CType}
use Rattle.c_typed.specs.Typed.{Program}
use Rattle.ref_semantics.specs.Values.{Scalar, IntegerValue}
use Rattle.ref_semantics.specs.Store as S
use Rattle.ref_semantics.specs.Store.{Then, give, is_dead_pointer, is_null_pointer}
use Rattle.ref_semantics.specs.Pointers as P
use Rattle.ref_semantics.specs.Pointers.{tested}
use Rattle.ref_semantics.specs.Sound.{PointsTo}
use Rattle.tac_ir.specs.Trees.{truth}
use Rattle.tac_ir.specs.Values.{Value, Objects}
use Rattle.tac_ir.specs.Pointers.{is_alive, is_null}
use Rattle.tac_simulation.specs.Standing.{Placement, ScalarStands, MemoryStands}
use Rattle.tac_simulation.proofs.Looking.{looked_at_alive, same_null}
use Rattle.tac_simulation.proofs.Answered.{past, gave, typed_pointer}

-- the integer of a truth
pub truth_integer : (b : Bool) → P.truth b ≡ IntegerValue (truth b)
truth_integer true = refl
truth_integer false = refl

-- whether a pointer isn't null
pub record TestedBoth (s after : S.State) (objects' : Objects) (answer : Scalar) (held : Value) : Type 0 where
  pub same : after ≡ s
  pub alive : is_alive objects' held ≡ true
  pub answer_is : answer ≡ IntegerValue (truth (not (is_null held)))

module _ (program : Program) (placement : Placement) (s : S.State) (objects' : Objects) (memory : MemoryStands program placement s.objects objects') where
  pub tested_is : (here : Pos) (target : CType) (value : Scalar) (held : Value) (answer : Scalar) (after : S.State) → PointsTo program s target value → ScalarStands program s.objects placement value held
      → tested here value s ≡ Then answer after → TestedBoth s after objects' answer held
  tested_is here target value held answer after typed stands e =
      let first = past here (is_dead_pointer s.objects value) Ub.U06 [] (give (P.truth (not (is_null_pointer value)))) s answer after e in
      let second = gave (P.truth (not (is_null_pointer value))) answer s after first.1 in
      record {
        same = second.1;
        alive = looked_at_alive program placement s.objects objects' memory value held (typed_pointer program s target value typed) first.0 stands;
        answer_is = second.0 ∙ truth_integer (not (is_null_pointer value))
            ∙ ap (λ (b : Bool). IntegerValue (truth (not b))) (sym (same_null program placement s.objects objects' memory value held first.0 stands));
      }
