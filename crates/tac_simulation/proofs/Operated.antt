-- The code of operators and relations on two integers.
use Rattle.std.proofs.Common.{◌≡◌, ℕ, Bool, true, false, ◌&&◌, if◌then◌else◌, List, Option, refl, sym, ap, ◌∙◌, subst, arith}
use Rattle.std.proofs.lemmas.Bool.{and_parts}
use Rattle.run_theory.specs.declared.place.Pos.{Pos}
use Rattle.c_num.specs.declared.IntType.{IntType}
use Rattle.c_num.specs.declared.IntType.TheVariants as I
use Rattle.c_num.specs.declared.BinOp.{BinOp}
use Rattle.c_num.specs.declared.Relation.{Relation}
use Rattle.c_num.specs.Types.{is_value}
use Rattle.c_num.specs.Arith.{is_shift, compare_of}
use Rattle.c_typed.specs.Types.{CType, Integer, int, same_type, is_integer}
use Rattle.c_typed.specs.Typed as T
use Rattle.c_typed.specs.Typed.{Value, Program}
use Rattle.c_typed.proofs.Same.{same_type-true}
use Rattle.c_typed.specs.Context.{Context}
use Rattle.c_typed.specs.Expressions.{type_of, is_right}
use Rattle.c_typed.specs.Programs.{IsWellTyped}
use Rattle.c_typed.specs.Sizes.{makes, is_storable}
use Rattle.ref_semantics.specs.Values as V
use Rattle.ref_semantics.specs.Values.{integer_of}
use Rattle.ref_semantics.specs.Store.{◌>>=◌, give}
use Rattle.ref_semantics.specs.Pointers as P
use Rattle.ref_semantics.specs.Meaning.{Calls, value, arithmetic}
use Rattle.ref_semantics.specs.First.{around_of}
use Rattle.ref_semantics.specs.Keeping.{CallsKeep}
use Rattle.c_typed.proofs.Splitting.{first_parts, both_parts}
use Rattle.tac_ir.specs.Code.{Op, Tac}
use Rattle.tac_ir.specs.Code as O
use Rattle.tac_ir.specs.Trees.{truth}
use Rattle.tac_build.specs.Homes.{Scope}
use Rattle.tac_build.specs.Spots.{AsInteger, Kept}
use Rattle.tac_build.specs.Forms.{context_of}
use Rattle.tac_simulation.specs.Standing.{Placement, Frame}
use Rattle.tac_simulation.proofs.Spotting.{Runs}
use Rattle.tac_simulation.proofs.Evaluating.{ValueDoes, laid_by}
use Rattle.tac_simulation.proofs.PureRests.{Rests}
use Rattle.tac_simulation.proofs.Combining.{ticked, has_come}
use Rattle.tac_simulation.proofs.Constants.{left_most}
use Rattle.tac_build.proofs.Forms.{value_form}
use Rattle.tac_simulation.proofs.Computing.{truth_is, computes_compare}
use Rattle.tac_simulation.proofs.Integers.{own_is, integer_is, operates}
use Rattle.tac_simulation.proofs.Operands.{two_operands}

-- the type of the right operand, where the operator doesn't shift
pub other_is : (op : BinOp) (int_type other : IntType) (t u : CType) → t ≡ Integer int_type → u ≡ Integer other → is_right op t u ≡ true → is_shift op ≡ false → other ≡ int_type
other_is op int_type other t u left right fits none = by (is_shift op) none fits
  where
    by : (shifts : Bool) → shifts ≡ false → (if shifts then is_integer u else same_type t u) ≡ true → other ≡ int_type
    by true e same = absurd (cc)
    by false e same = integer_is (sym right ∙ sym (same_type-true t u same) ∙ left)

module _ (tac : Tac) (program : Program) (calls : Calls) (worth : ℕ) (points : List Op) (placement : Placement) (hidden : ℕ → Option V.Content) (frame : Frame) (scope : Scope)
    (runs : Runs tac program points frame) (well : IsWellTyped program) (keep : CallsKeep program calls) where
  abbrev Follows : Value → Type 0
  Follows tree = ValueDoes tac program calls worth points placement hidden frame scope tree

  abbrev around : Context
  around = context_of program scope

  pub operators : (op : BinOp) (place : Pos) (int_type : IntType) (left right : Value) → Follows left → Follows right → Rests tac program calls worth points placement hidden frame scope right → Follows (T.Arithmetic op place int_type left right)
  operators op place int_type left right follows follows' rests mode from to lowered t code typed small start n lag slack s state p at =
      let sizes = and_parts (makes (is_storable program.structs) left) (makes (is_storable program.structs) right) small in
      let parts = first_parts (type_of around left) (type_of around right) (λ a b. same_type a (Integer int_type) && is_right op a b) t typed in
      let fit = and_parts (same_type t (Integer int_type)) (is_right op t parts.b) parts.holds in
      let first = value_form program points scope left Kept t from code.0 (AsInteger code.5 code.2) parts.left code.7 in
      let second = value_form program points scope right Kept parts.b code.1 to (AsInteger code.6 code.4) parts.right code.9 in
      ticked tac program calls worth points placement hidden frame scope runs well keep (value (around_of program) calls left >>= λ a. value (around_of program) calls right >>= λ b. arithmetic op int_type place a b) from.at s state p at (omega arith) (λ left' p' at'.
      two_operands tac program calls worth points placement hidden frame scope runs well keep left right follows follows' rests (λ a b. arithmetic op int_type place a b) from code.0 code.1 to code.5 code.6 code.2 code.3 code.4 t parts.b code.7 code.8 code.9 parts.left parts.right sizes.0 sizes.1
      (record s { units = left' }) state p' at' (omega arith) (λ x y s' state' p'' there kept is is' fits fits'.
      operates tac program calls worth points placement hidden frame scope runs well keep op int_type place mode from to lowered code.3 code.4 state.running.registers x y s' state' p'' there kept code.10 is is'
      (subst (λ own. is_value own x ≡ true) (own_is int_type t code.5 fit.0 first) fits)
      (λ none. subst (λ own. is_value own y ≡ true) (other_is op int_type code.6 t parts.b (same_type-true t (Integer int_type) fit.0) second fit.1 none) fits')
      (omega arith) (let laid = ap laid_by code.10 in let least = left_most right in omega (arith, laid, least))))

  pub relations : (relation : Relation) (left right : Value) → Follows left → Follows right → Rests tac program calls worth points placement hidden frame scope right → Follows (T.Compare relation left right)
  relations relation left right follows follows' rests mode from to lowered t code typed small start n lag slack s state p at =
      let sizes = and_parts (makes (is_storable program.structs) left) (makes (is_storable program.structs) right) small in
      let parts = both_parts (type_of around left) (type_of around right) (λ a b. is_integer a && same_type a b) int t typed in
      let fit = and_parts (is_integer parts.a) (same_type parts.a parts.b) parts.holds in
      let first = value_form program points scope left Kept parts.a from code.0 (AsInteger code.5 code.2) parts.left code.7 in
      let second = value_form program points scope right Kept parts.b code.1 to (AsInteger code.6 code.4) parts.right code.9 in
      let other : code.6 ≡ code.5 = integer_is (sym second ∙ sym (same_type-true parts.a parts.b fit.1) ∙ first) in
      ticked tac program calls worth points placement hidden frame scope runs well keep (value (around_of program) calls left >>= λ a. value (around_of program) calls right >>= λ b. give (P.truth (compare_of relation (integer_of a) (integer_of b)))) from.at s state p at (omega arith) (λ left' p' at'.
      two_operands tac program calls worth points placement hidden frame scope runs well keep left right follows follows' rests (λ a b. give (P.truth (compare_of relation (integer_of a) (integer_of b)))) from code.0 code.1 to code.5 code.6 code.2 code.3 code.4 parts.a parts.b code.7 code.8 code.9 parts.left parts.right sizes.0 sizes.1
      (record s { units = left' }) state p' at' (omega arith) (λ x y s' state' p'' there kept is is' fits fits'.
      has_come tac program calls worth points placement hidden frame scope runs well keep mode from to to lowered (AsInteger I.Int (O.Compare relation code.5 code.3 code.4)) state.running.registers (P.truth (compare_of relation x y)) s' state' p'' there kept refl code.10
      (truth (compare_of relation x y), truth_is (compare_of relation x y), computes_compare state'.running.registers relation code.5 code.3 code.4 x y is is' fits (subst (λ own. is_value own y ≡ true) other fits'))
      (omega arith) (let laid = ap laid_by code.10 in let least = left_most right in omega (arith, laid, least))))
