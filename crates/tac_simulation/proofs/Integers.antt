-- The code of conversions and of operators on integers.
use Rattle.std.proofs.Common.{◌≡◌, ℕ, suc, ◌+◌, ◌*◌, ◌≤◌, Bool, true, false, not, ◌&&◌, if◌then◌else◌, List, Option, Some, ℤ, pos, neg_ℤ, ◌-ℤ◌, Result, Ok, Err, refl, sym, ap, ◌∙◌, subst, arith}
use Rattle.std.proofs.lemmas.Bool.{and_parts, false≢true}
use Rattle.run_theory.specs.declared.place.Pos.{Pos}
use Rattle.c_num.specs.declared.IntType.{IntType}
use Rattle.c_num.specs.declared.IntType.TheVariants as I
use Rattle.c_num.specs.declared.ArithUb.{ArithUb}
use Rattle.c_num.specs.declared.BinOp.{BinOp}
use Rattle.c_num.specs.declared.BinOp.TheVariants as B
use Rattle.c_num.specs.Types.{is_value}
use Rattle.c_num.specs.Conversion.{convert_to}
use Rattle.c_num.specs.Arith.{is_shift, outcome_of}
use Rattle.c_typed.specs.Types.{CType, Void, Integer, int, same_type, is_integer}
use Rattle.c_typed.specs.Typed as T
use Rattle.c_typed.specs.Typed.{Value, Program}
use Rattle.c_typed.proofs.Same.{same_type-true}
use Rattle.c_typed.specs.Context.{Context}
use Rattle.c_typed.specs.Expressions.{is_conversion, is_scalar, type_of}
use Rattle.c_typed.specs.Programs.{IsWellTyped}
use Rattle.c_typed.specs.Sizes.{makes, is_storable}
use Rattle.ref_semantics.specs.Values as V
use Rattle.ref_semantics.specs.Values.{Scalar, IntegerValue, integer_of}
use Rattle.ref_semantics.specs.Store as S
use Rattle.ref_semantics.specs.Store.{Eval, ◌>>=◌, continue_with, give}
use Rattle.ref_semantics.specs.Pointers as P
use Rattle.ref_semantics.specs.Meaning.{Calls, value, is_true, converted, arithmetic, outcome_at, kind_of}
use Rattle.ref_semantics.specs.First.{around_of}
use Rattle.ref_semantics.specs.Sound.{HasType, Sound}
use Rattle.ref_semantics.specs.Keeping.{CallsKeep}
use Rattle.c_typed.proofs.Splitting.{given_parts, same_parts, other_parts}
use Rattle.tac_ir.specs.Code.{Op, Tac, Tree}
use Rattle.tac_ir.specs.Code as O
use Rattle.tac_ir.specs.States.{State}
use Rattle.tac_ir.specs.Trees.{Registers, computes, tree_nodes, truth, is_zero}
use Rattle.tac_build.specs.Homes.{Scope}
use Rattle.tac_build.specs.Spots.{Spot, Lowered, AsInteger, AsPointer, AsObject, AsNothing, Mode, Kept, Dropped, Behind, Row, cast_mode}
use Rattle.tac_build.specs.Code.{ValueCode}
use Rattle.tac_simulation.specs.Comparing.{ticks_per_unit}
use Rattle.tac_build.specs.Forms.{context_of, HasForm}
use Rattle.tac_simulation.specs.Standing.{Placement, Frame, KeepsBefore, At, LoweredStands}
use Rattle.tac_simulation.proofs.Spotting.{Runs}
use Rattle.tac_simulation.proofs.Evaluating.{ValueDoes, AtSpot, Came, ComesToValue, value_units, laid_by, left_for, Stood, stood}
use Rattle.tac_simulation.proofs.Paths.{Stand, Passage as Passing, Does, eases, allows, stray}
use Rattle.tac_simulation.proofs.Combining.{ticked, then_value, has_come}
use Rattle.tac_simulation.proofs.Constants.{left_most}
use Rattle.tac_build.proofs.Forms.{value_form}
use Rattle.tac_simulation.proofs.Computing.{zero_fits, negated_zero, arithmetic_is, computes_arithmetic, computes_complement, computes_not, computes_convert}

pub integer_is : {a b : IntType} → Integer a ≡ Integer b → a ≡ b
integer_is e = cc

pub plain_left : (tree : Value) → not (is_conversion tree) ≡ true → left_for tree ≡ 6
plain_left tree plain = by (is_conversion tree) plain
  where
    by : (b : Bool) → not b ≡ true → (let ticks : ℕ = if b then 3 else 6 in ticks) ≡ 6
    by true e = absurd (false≢true e)
    by false e = refl

pub integer_fits : (program : Program) (s : S.State) (t : CType) (own : IntType) (scalar : Scalar) (z : ℤ) → t ≡ Integer own → scalar ≡ IntegerValue z → HasType program s t scalar → is_value own z ≡ true
integer_fits program s t own scalar z is is' typed = subst (λ x. HasType program s (Integer own) x) is' (subst (λ u. HasType program s u scalar) is typed)

pub own_is : (int_type : IntType) (t : CType) (own : IntType) → same_type t (Integer int_type) ≡ true → t ≡ Integer own → own ≡ int_type
own_is int_type t own same is = integer_is (sym is ∙ same_type-true t (Integer int_type) same)

module _ (tac : Tac) (program : Program) (calls : Calls) (worth : ℕ) (points : List Op) (placement : Placement) (hidden : ℕ → Option V.Content) (frame : Frame) (scope : Scope)
    (runs : Runs tac program points frame) (well : IsWellTyped program) (keep : CallsKeep program calls) where
  abbrev Follows : Value → Type 0
  Follows tree = ValueDoes tac program calls worth points placement hidden frame scope tree

  abbrev around : Context
  around = context_of program scope

  -- an operand comes to an integer of its type, and the evaluation goes on
  pub then_integer : {B : Type 0} {Stands : Stand B} {start : State} {n lag lag' slack slack' : ℕ} (tree : Value) → Follows tree → (next : Scalar → Eval B)
      → (from to : Spot) (own : IntType) (a : Tree) (t : CType) → ValueCode program points scope Kept tree from to (AsInteger own a) → type_of around tree ≡ Some t → makes (is_storable program.structs) tree ≡ true
      → (s : S.State) (state : State) → Passing tac worth start state n s.units lag slack → AtSpot tac program calls worth points placement hidden frame scope from.at s state → lag + value_units tree ≤ lag'
      → ((z : ℤ) (s' : S.State) (state' : State) → Passing tac worth start state' n s'.units (lag + value_units tree) (slack + (2 * tree_nodes a + left_for tree))
      → Came tac program calls worth points placement hidden frame scope from to state.running.registers s' state' → Sound around s' → computes state'.running.registers a ≡ Some z → is_value own z ≡ true
      → Does tac worth start n lag' slack' Stands (next (IntegerValue z) s'))
      → Does tac worth start n lag' slack' Stands (continue_with next (value (around_of program) calls tree s))
  then_integer {B} {Stands} {start} {n} {lag} {lag'} {slack} {slack'} tree follows next from to own a t code typed small s state p at more rest =
      then_value tac program calls worth points placement hidden frame scope runs well keep {lag' = lag'} {slack' = slack'} tree follows next Kept from to (AsInteger own a) t code typed small s state p at more (λ scalar s' state' p' came keeps has.
      let is = value_form program points scope tree Kept t from to (AsInteger own a) typed code in
      subst (λ x. Does tac worth start n lag' slack' Stands (next x s')) (sym came.1.1)
      (rest came.1.0 s' state' p' came.0 keeps.sound came.1.2 (integer_fits program s' t own scalar came.1.0 is came.1.1 has)))

  -- an operator on values of its type
  pub operates : {start : State} {n lag lag' slack slack' : ℕ} (op : BinOp) (int_type : IntType) (place : Pos) (mode : Mode) (from to : Spot) (lowered : Lowered) (left right : Tree) (before : Registers) (a b : ℤ) (s : S.State) (state : State)
      → Passing tac worth start state n s.units lag slack → At program placement hidden frame scope to.at s state → KeepsBefore from.counts before state.running.registers
      → lowered ≡ AsInteger int_type (O.Arithmetic op int_type left right) → computes state.running.registers left ≡ Some a → computes state.running.registers right ≡ Some b
      → is_value int_type a ≡ true → (is_shift op ≡ false → is_value int_type b ≡ true) → lag ≤ lag' → slack' ≤ slack
      → Does tac worth start n lag' slack' (ComesToValue tac program calls worth points placement hidden frame scope mode from to lowered before) (arithmetic op int_type place (IntegerValue a) (IntegerValue b) s)
  operates {start} {n} {lag} {lag'} {slack} {slack'} op int_type place mode from to lowered left right before a b s state p at kept is first second fits fits' more less =
      subst (λ (eval : Eval Scalar). Does tac worth start n lag' slack' (ComesToValue tac program calls worth points placement hidden frame scope mode from to lowered before) (eval s)) (sym (arithmetic_is op int_type place a b fits fits')) (by (outcome_of op int_type a b) refl)
    where
      by : (result : Result ℤ ArithUb) → outcome_of op int_type a b ≡ result → Does tac worth start n lag' slack' (ComesToValue tac program calls worth points placement hidden frame scope mode from to lowered before) (outcome_at place result s)
      by (Ok z) e =
          has_come tac program calls worth points placement hidden frame scope runs well keep mode from to to lowered (AsInteger int_type (O.Arithmetic op int_type left right)) before (IntegerValue z) s state p at kept refl is
          (z, refl, computes_arithmetic state.running.registers op int_type left right a b z first second fits fits' e) more less
      by (Err kind) e = stray (kind_of kind) place s

  pub conversions : (int_type : IntType) (operand : Value) → Follows operand → Follows (T.Converted int_type operand)
  conversions int_type operand follows mode from to lowered t code typed small start n lag slack s state p at =
      let parts = other_parts (type_of around operand) (λ u. is_integer u && not (is_conversion operand)) (Integer int_type) t typed in
      let plain = plain_left operand (and_parts (is_integer parts.0) (not (is_conversion operand)) parts.2).1 in
      then_integer operand follows (λ a. give (converted int_type a)) from to code.0 code.1 parts.0 code.2 parts.1 small s state p at (omega arith) (λ z s' state' p' came sound is fits.
      has_come tac program calls worth points placement hidden frame scope runs well keep mode from to to lowered (AsInteger int_type (O.Convert int_type code.1)) state.running.registers (converted int_type (IntegerValue z)) s' state' p' came.there came.kept refl code.3
      (convert_to int_type z, refl, computes_convert state'.running.registers int_type code.1 z is) (omega arith) (let laid = ap laid_by code.3 in omega (arith, laid, plain)))

  pub pluses : (operand : Value) → Follows operand → Follows (T.Plus operand)
  pluses operand follows mode from to lowered t code typed small start n lag slack s state p at =
      let parts = same_parts (type_of around operand) is_integer t typed in
      ticked tac program calls worth points placement hidden frame scope runs well keep (value (around_of program) calls operand) from.at s state p at (omega arith) (λ left p' at'.
      let does = follows Kept from to lowered t code parts.0 small start n (suc lag) (ticks_per_unit + slack) (record s { units = left }) state p' at' in
      eases (allows does (λ scalar s' state' came. (came.0, stood mode _ (kept_stands mode lowered t s' state' scalar (value_form program points scope operand Kept t from to lowered parts.0 code) came.1))))
      (omega arith) (let least = left_most operand in omega (arith, least)))
    where
      kept_stands : (mode : Mode) (lowered : Lowered) (t : CType) (s : S.State) (state : State) (scalar : Scalar) → HasForm Kept lowered t
          → LoweredStands program Kept frame placement s.objects state.running.registers lowered scalar → LoweredStands program mode frame placement s.objects state.running.registers lowered scalar
      kept_stands mode (AsInteger own tree) t s state scalar form stands = stands
      kept_stands mode (AsPointer register target) t s state scalar form stands = stands
      kept_stands mode (AsObject path own) t s state scalar form stands = absurd form
      kept_stands mode AsNothing t s state scalar form stands = stands

  pub casts : (operand : Value) → Follows operand → Follows (T.Cast operand)
  casts operand follows mode from to lowered t code typed small start n lag slack s state p at =
      let parts = same_parts (type_of around operand) is_scalar t typed in
      ticked tac program calls worth points placement hidden frame scope runs well keep (value (around_of program) calls operand) from.at s state p at (omega arith) (λ left p' at'.
      let does = follows (cast_mode mode) from to lowered t code parts.0 small start n (suc lag) (ticks_per_unit + slack) (record s { units = left }) state p' at' in
      eases (allows does (λ scalar s' state' came. (came.0, cast_stood mode lowered t s' state' scalar (value_form program points scope operand (cast_mode mode) t from to lowered parts.0 code) came.1)))
      (omega arith) (let least = left_most operand in omega (arith, least)))
    where
      cast_stands : (mode : Mode) (lowered : Lowered) (t : CType) (s : S.State) (state : State) (scalar : Scalar) → HasForm (cast_mode mode) lowered t
          → LoweredStands program (cast_mode mode) frame placement s.objects state.running.registers lowered scalar → LoweredStands program mode frame placement s.objects state.running.registers lowered scalar
      cast_stands mode (AsInteger own tree) t s state scalar form stands = stands
      cast_stands mode (AsPointer register target) t s state scalar form stands = stands
      cast_stands mode AsNothing t s state scalar form stands = stands
      cast_stands Kept (AsObject path own) t s state scalar form stands = absurd form
      cast_stands Dropped (AsObject path own) t s state scalar form stands = absurd form
      cast_stands (Behind followed) (AsObject path own) t s state scalar form stands = absurd form
      cast_stands (Row followed) (AsObject path own) t s state scalar form stands = absurd form

      cast_stood : (mode : Mode) (lowered : Lowered) (t : CType) (s : S.State) (state : State) (scalar : Scalar) → HasForm (cast_mode mode) lowered t
          → Stood (cast_mode mode) (LoweredStands program (cast_mode mode) frame placement s.objects state.running.registers lowered scalar) → Stood mode (LoweredStands program mode frame placement s.objects state.running.registers lowered scalar)
      cast_stood Dropped lowered t s state scalar form stands = tt
      cast_stood Kept lowered t s state scalar form stands = cast_stands Kept lowered t s state scalar form stands
      cast_stood (Behind followed) lowered t s state scalar form stands = cast_stands (Behind followed) lowered t s state scalar form stands
      cast_stood (Row followed) lowered t s state scalar form stands = cast_stands (Row followed) lowered t s state scalar form stands

  pub void_casts : (operand : Value) → Follows operand → Follows (T.CastVoid operand)
  void_casts operand follows mode from to lowered t code typed small start n lag slack s state p at =
      let parts = given_parts (type_of around operand) (λ u. Some Void) t typed in
      ticked tac program calls worth points placement hidden frame scope runs well keep (value (around_of program) calls operand) from.at s state p at (omega arith) (λ left p' at'.
      let does = follows Dropped from to code.0 parts.0 code.1 parts.1 small start n (suc lag) (ticks_per_unit + slack) (record s { units = left }) state p' at' in
      eases (allows does (λ scalar s' state' came. (came.0, stood mode _ (subst (λ l. LoweredStands program mode frame placement s'.objects state'.running.registers l scalar) (sym code.2) tt))))
      (omega arith) (let least = left_most operand in let laid = ap laid_by code.2 in omega (arith, least, laid)))

  pub minuses : (place : Pos) (int_type : IntType) (operand : Value) → Follows operand → Follows (T.Minus place int_type operand)
  minuses place int_type operand follows mode from to lowered t code typed small start n lag slack s state p at =
      let parts = same_parts (type_of around operand) (λ u. same_type u (Integer int_type)) t typed in
      ticked tac program calls worth points placement hidden frame scope runs well keep (value (around_of program) calls operand >>= λ a. arithmetic B.Sub int_type place (IntegerValue (pos 0)) a) from.at s state p at (omega arith) (λ left p' at'.
      then_integer operand follows (λ a. arithmetic B.Sub int_type place (IntegerValue (pos 0)) a) from to code.0 code.1 t code.2 parts.0 small (record s { units = left }) state p' at' (omega arith) (λ z s' state' p'' came sound is fits.
      operates B.Sub int_type place mode from to lowered (O.Constant (pos 0)) code.1 state.running.registers (pos 0) z s' state' p'' came.there came.kept code.3 refl is (zero_fits int_type)
      (λ none. subst (λ own. is_value own z ≡ true) (own_is int_type t code.0 parts.1 (value_form program points scope operand Kept t from to (AsInteger code.0 code.1) parts.0 code.2)) fits)
      (omega arith) (let laid = ap laid_by code.3 in let least = left_most operand in omega (arith, laid, least))))

  pub complements : (int_type : IntType) (operand : Value) → Follows operand → Follows (T.Complement int_type operand)
  complements int_type operand follows mode from to lowered t code typed small start n lag slack s state p at =
      let parts = same_parts (type_of around operand) (λ u. same_type u (Integer int_type)) t typed in
      ticked tac program calls worth points placement hidden frame scope runs well keep (value (around_of program) calls operand >>= λ a. give (converted int_type (IntegerValue (neg_ℤ (integer_of a) -ℤ pos 1)))) from.at s state p at (omega arith) (λ left p' at'.
      then_integer operand follows (λ a. give (converted int_type (IntegerValue (neg_ℤ (integer_of a) -ℤ pos 1)))) from to code.0 code.1 t code.2 parts.0 small (record s { units = left }) state p' at' (omega arith) (λ z s' state' p'' came sound is fits.
      let fits' = subst (λ own. is_value own z ≡ true) (own_is int_type t code.0 parts.1 (value_form program points scope operand Kept t from to (AsInteger code.0 code.1) parts.0 code.2)) fits in
      has_come tac program calls worth points placement hidden frame scope runs well keep mode from to to lowered (AsInteger int_type (O.Complement int_type code.1)) state.running.registers (converted int_type (IntegerValue (neg_ℤ z -ℤ pos 1))) s' state' p'' came.there came.kept refl code.3
      (convert_to int_type (neg_ℤ z -ℤ pos 1), refl, computes_complement state'.running.registers int_type code.1 z is fits') (omega arith) (let laid = ap laid_by code.3 in let least = left_most operand in omega (arith, laid, least))))

  pub negations : (operand : Value) → Follows operand → Follows (T.Not operand)
  negations operand follows mode from to lowered t code typed small start n lag slack s state p at =
      let parts = other_parts (type_of around operand) is_integer int t typed in
      ticked tac program calls worth points placement hidden frame scope runs well keep (value (around_of program) calls operand >>= λ a. give (P.truth (not (is_true a)))) from.at s state p at (omega arith) (λ left p' at'.
      then_integer operand follows (λ a. give (P.truth (not (is_true a)))) from to code.0 code.1 parts.0 code.2 parts.1 small (record s { units = left }) state p' at' (omega arith) (λ z s' state' p'' came sound is fits.
      has_come tac program calls worth points placement hidden frame scope runs well keep mode from to to lowered (AsInteger I.Int (O.Not code.0 code.1)) state.running.registers (P.truth (not (is_true (IntegerValue z)))) s' state' p'' came.there came.kept refl code.3
      (truth (is_zero z), negated_zero z, computes_not state'.running.registers code.0 code.1 z is fits) (omega arith) (let laid = ap laid_by code.3 in let least = left_most operand in omega (arith, laid, least))))
