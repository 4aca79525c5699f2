-- Pointers that are moved by a number on both sides.
use Rattle.std.proofs.Common.{◌≡◌, ℕ, ◌≤◌, ◌||◌, true, false, List, [], ◌∷◌, Option, Some, None, ℤ, refl, sym, ap, ◌∙◌, subst}
use Rattle.std.proofs.lemmas.Bool.{true≢false, ltb-false}
use Rattle.run_theory.specs.declared.place.Pos.{Pos}
use Rattle.run_theory.specs.declared.ends.UbKind.TheVariants as Ub
use Rattle.c_typed.specs.Types.{CType}
use Rattle.c_typed.specs.Layouts.{is_complete}
use Rattle.c_typed.specs.Typed.{Program}
use Rattle.c_typed.specs.Programs.{IsWellTyped}
use Rattle.ref_semantics.specs.Values.{Scalar, IntegerValue, NullValue, FunctionValue, PointerValue, RawPointer, at_index, place_of}
use Rattle.ref_semantics.specs.Store as S
use Rattle.ref_semantics.specs.Store.{Then, give, premise, is_dead_pointer}
use Rattle.ref_semantics.specs.Pointers.{added, index_moved, is_negative, is_above, or_zero}
use Rattle.ref_semantics.specs.Sound.{PointsTo, Sound}
use Rattle.ref_semantics.proofs.WellTyped.{complete_known, complete_object}
use Rattle.tac_ir.specs.Values.{Value, Objects}
use Rattle.tac_ir.specs.Objects.{Surroundings}
use Rattle.tac_ir.specs.Pointers.{is_alive, moved_pointer}
use Rattle.tac_simulation.specs.Standing.{Placement, ScalarStands, MemoryStands}
use Rattle.tac_simulation.proofs.Looking.{looked_at_alive}
use Rattle.tac_simulation.proofs.Placing.{placed, added_moves}
use Rattle.tac_simulation.proofs.Answered.{past, gave}

-- what a pointer is that was moved on both sides
pub record AddedBoth (program : Program) (placement : Placement) (around : Surroundings) (target : CType) (z : ℤ) (s after : S.State) (objects' : Objects) (answer : Scalar) (held : Value) : Type 0 where
  pub same : after ≡ s
  pub alive : is_alive objects' held ≡ true
  pub further : Value
  pub moves : moved_pointer around objects' target z held ≡ Some further
  pub stands : ScalarStands program s.objects placement answer further

-- an index in the row, or its end
index_in : (count : ℕ) (index : Option ℕ) → (is_negative index || is_above count index) ≡ false → (n : ℕ) × (index ≡ Some n) × (n ≤ count)
index_in count None h = absurd (true≢false h)
index_in count (Some n) h = (n, refl, ltb-false count n h)

module _ (program : Program) (well : IsWellTyped program) (placement : Placement) (locals : List CType) (s : S.State) (sound : Sound (record { program = program; locals = locals }) s)
    (objects' : Objects) (memory : MemoryStands program placement s.objects objects') (around : Surroundings) (same : around.structs ≡ program.structs) where
  pub added_is : (here : Pos) (target : CType) (pointer : Scalar) (z : ℤ) (held : Value) (answer : Scalar) (after : S.State) → is_complete program.structs target ≡ true → PointsTo program s target pointer
      → ScalarStands program s.objects placement pointer held → added here pointer z s ≡ Then answer after → AddedBoth program placement around target z s after objects' answer held
  added_is here target (IntegerValue n) z held answer after complete typed stands e = absurd typed
  added_is here target (FunctionValue name) z held answer after complete typed stands e = absurd (true≢false (sym typed.0 ∙ complete_object program well target complete))
  added_is here target (RawPointer number) z held answer after complete typed stands e = absurd (true≢false (sym typed.0 ∙ complete_known program well target complete))
  added_is here target NullValue z held answer after complete typed stands e =
      let moved = PointerValue (at_index (place_of NullValue) (or_zero (index_moved (place_of NullValue).index z))) in
      absurd (true≢false (past here true Ub.U17 [] (give moved) s answer after e).0)
  added_is here target (PointerValue place) z held answer after complete typed stands e =
      let index = index_moved place.index z in
      let moved = PointerValue (at_index place (or_zero (index_moved place.index z))) in
      let outside = is_negative index || is_above place.row.count index in
      let first = past here (is_dead_pointer s.objects (PointerValue place)) Ub.U06 (premise outside Ub.U08 ∷ premise false Ub.U17 ∷ []) (give moved) s answer after e in
      let second = past here outside Ub.U08 (premise false Ub.U17 ∷ []) (give moved) s answer after first.1 in
      let third = gave moved answer s after second.1 in
      let inside = index_in place.row.count index second.0 in
      let at = placed program well placement locals s sound objects' memory place held typed.1 first.0 stands in
      let moves = added_moves program well placement locals s sound objects' memory around same place held z inside.0 at inside.1 inside.2 in
      record {
        same = third.1;
        alive = looked_at_alive program placement s.objects objects' memory (PointerValue place) held tt first.0 stands;
        further = moves.0;
        moves = subst (λ t. moved_pointer around objects' t z held ≡ Some moves.0) (typed.2 (complete_known program well target complete)) moves.1;
        stands = subst (λ scalar. ScalarStands program s.objects placement scalar moves.0) (ap (λ i. PointerValue (at_index place (or_zero i))) (sym inside.1) ∙ sym third.0) moves.2;
      }
