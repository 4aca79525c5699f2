-- The code of a pure expression leaves the registers as they are.
use Rattle.std.proofs.Common.{◌≡◌, ℕ, suc, ◌+◌, ◌*◌, ◌≤◌, Bool, true, false, not, ◌&&◌, List, Option, Some, ℤ, pos, neg_ℤ, ◌-ℤ◌, Result, Ok, Err, refl, sym, ap, ◌∙◌, subst, arith}
use Rattle.std.proofs.lemmas.Bool.{and_parts, false≢true}
use Rattle.run_theory.specs.declared.place.Pos.{Pos}
use Rattle.c_num.specs.declared.IntType.{IntType}
use Rattle.c_num.specs.declared.IntType.TheVariants as I
use Rattle.c_num.specs.declared.ArithUb.{ArithUb}
use Rattle.c_num.specs.declared.BinOp.{BinOp}
use Rattle.c_num.specs.declared.BinOp.TheVariants as B
use Rattle.c_num.specs.Types.{is_value}
use Rattle.c_num.specs.Conversion.{convert_to}
use Rattle.c_num.specs.declared.Relation.{Relation}
use Rattle.c_num.specs.Arith.{is_shift, outcome_of, compare_of}
use Rattle.c_typed.specs.Types.{CType, Integer, int, same_type, is_integer}
use Rattle.c_typed.specs.Typed as T
use Rattle.c_typed.specs.Typed.{Value, Program}
use Rattle.c_typed.proofs.Same.{same_type-true}
use Rattle.c_typed.specs.Context.{Context}
use Rattle.c_typed.specs.Expressions.{is_conversion, is_scalar, is_right, type_of}
use Rattle.c_typed.specs.Programs.{IsWellTyped}
use Rattle.c_typed.specs.Sizes.{makes, is_storable}
use Rattle.ref_semantics.specs.Values as V
use Rattle.ref_semantics.specs.Values.{Scalar, IntegerValue, integer_of}
use Rattle.ref_semantics.specs.Store as S
use Rattle.ref_semantics.specs.Store.{Then, Eval, ◌>>=◌, continue_with, give}
use Rattle.ref_semantics.specs.Pointers as P
use Rattle.ref_semantics.specs.Meaning.{Calls, value, is_true, converted, arithmetic, outcome_at, kind_of}
use Rattle.ref_semantics.specs.First.{around_of}
use Rattle.ref_semantics.specs.Sound.{Sound}
use Rattle.ref_semantics.specs.Keeping.{CallsKeep}
use Rattle.c_typed.proofs.Splitting.{same_parts, other_parts, first_parts, both_parts}
use Rattle.tac_ir.specs.Code.{Op, Tac, Tree}
use Rattle.tac_ir.specs.Code as O
use Rattle.tac_ir.specs.States.{State}
use Rattle.tac_ir.specs.Trees.{Registers, computes, tree_nodes, truth, is_zero}
use Rattle.tac_build.specs.Homes.{Scope, is_pure}
use Rattle.tac_build.specs.Spots.{Spot, Lowered, AsInteger, AsPointer, AsObject, AsNothing, Mode, Kept, Dropped, Behind, Row, cast_mode}
use Rattle.tac_build.specs.Code.{ValueCode, KeepsTree}
use Rattle.tac_simulation.specs.Comparing.{ticks_per_unit}
use Rattle.tac_build.specs.Forms.{context_of, HasForm}
use Rattle.tac_simulation.specs.Standing.{Placement, Frame, At, LoweredStands}
use Rattle.tac_simulation.proofs.Spotting.{Runs}
use Rattle.tac_simulation.proofs.PureRests.{Rests}
use Rattle.tac_simulation.proofs.Integers.{integer_is, plain_left, own_is}
use Rattle.tac_simulation.proofs.Operated.{other_is}
use Rattle.tac_simulation.proofs.Operands.{then_also}
use Rattle.tac_simulation.proofs.Evaluating.{AtSpot, Came, ComesToValue, value_units, laid_by, left_for, Stood, stood}
use Rattle.tac_simulation.proofs.Paths.{Stand, Passage as Passing, Does, comes, eased, eases, allows, stray}
use Rattle.tac_simulation.proofs.Combining.{ticked}
use Rattle.tac_simulation.proofs.Constants.{left_most}
use Rattle.tac_build.proofs.Forms.{value_form}
use Rattle.tac_simulation.proofs.Computing.{zero_fits, truth_is, negated_zero, arithmetic_is, computes_arithmetic, computes_compare, computes_complement, computes_not, computes_convert}

-- a tree that isn't kept stands as it is
keeps_none : (points : List Op) (pure : Bool) (tree kept : Tree) (from to : Spot) → pure ≡ true → KeepsTree points (not pure) tree from to kept → (to ≡ from) × (kept ≡ tree)
keeps_none points true tree kept from to e code = code
keeps_none points false tree kept from to e code = absurd (false≢true e)

module _ (tac : Tac) (program : Program) (calls : Calls) (worth : ℕ) (points : List Op) (placement : Placement) (hidden : ℕ → Option V.Content) (frame : Frame) (scope : Scope)
    (runs : Runs tac program points frame) (well : IsWellTyped program) (keep : CallsKeep program calls) where
  abbrev Quiet : Value → Type 0
  Quiet tree = Rests tac program calls worth points placement hidden frame scope tree

  abbrev around : Context
  around = context_of program scope

  -- what holds at the end of the code
  abbrev RestsAt : Mode → Spot → Spot → Lowered → Registers → Stand Scalar
  RestsAt mode from to lowered before scalar s state = ComesToValue tac program calls worth points placement hidden frame scope mode from to lowered before scalar s state × (state.running.registers ≡ before)

  -- what the code has come to already stands for the value, and the registers are as they were
  pub has_rested : {start : State} {n lag lag' slack slack' : ℕ} (mode : Mode) (from to : Spot) (lowered found : Lowered) (before : Registers) (scalar : Scalar) (s : S.State) (state : State)
      → Passing tac worth start state n s.units lag slack → At program placement hidden frame scope to.at s state → state.running.registers ≡ before → lowered ≡ found
      → LoweredStands program mode frame placement s.objects state.running.registers found scalar → lag ≤ lag' → slack' ≤ slack
      → Does tac worth start n lag' slack' (RestsAt mode from to lowered before) (Then scalar s)
  has_rested mode from to lowered found before scalar s state p at same is stands more less =
      comes scalar s state (eased p more less)
      ((record { there = at; kept = λ register named. ap (λ (registers : Registers). registers register) same }, stood mode _ (subst (λ l. LoweredStands program mode frame placement s.objects state.running.registers l scalar) (sym is) stands)), same)

  -- an operand comes to an integer, and the registers are as they were
  then_rests : {B : Type 0} {Stands : Stand B} {start : State} {n lag lag' slack slack' : ℕ} (tree : Value) → Quiet tree → is_pure scope tree ≡ true → (next : Scalar → Eval B)
      → (from to : Spot) (own : IntType) (a : Tree) (t : CType) → ValueCode program points scope Kept tree from to (AsInteger own a) → type_of around tree ≡ Some t → makes (is_storable program.structs) tree ≡ true
      → (s : S.State) (state : State) → Passing tac worth start state n s.units lag slack → AtSpot tac program calls worth points placement hidden frame scope from.at s state → lag + value_units tree ≤ lag'
      → ((z : ℤ) (s' : S.State) (state' : State) → Passing tac worth start state' n s'.units (lag + value_units tree) (slack + (2 * tree_nodes a + left_for tree))
      → Came tac program calls worth points placement hidden frame scope from to state.running.registers s' state' → Sound around s' → computes state'.running.registers a ≡ Some z → is_value own z ≡ true → state'.running.registers ≡ state.running.registers
      → Does tac worth start n lag' slack' Stands (next (IntegerValue z) s'))
      → Does tac worth start n lag' slack' Stands (continue_with next (value (around_of program) calls tree s))
  then_rests {B} {Stands} {start} {n} {lag} {lag'} {slack} {slack'} tree quiet pure next from to own a t code typed small s state p at more rest =
      then_also tac program calls worth points placement hidden frame scope runs well keep {slack' = slack'} lag slack (λ state'. state'.running.registers ≡ state.running.registers) tree next from to own a t code typed small s state at.sound
      (quiet pure Kept from to (AsInteger own a) t code typed small start n lag slack s state p at) more rest

  -- an operator on values of its type
  operates_resting : {start : State} {n lag lag' slack slack' : ℕ} (op : BinOp) (int_type : IntType) (place : Pos) (mode : Mode) (from to : Spot) (lowered : Lowered) (left right : Tree) (before : Registers) (a b : ℤ) (s : S.State) (state : State)
      → Passing tac worth start state n s.units lag slack → At program placement hidden frame scope to.at s state → state.running.registers ≡ before
      → lowered ≡ AsInteger int_type (O.Arithmetic op int_type left right) → computes state.running.registers left ≡ Some a → computes state.running.registers right ≡ Some b
      → is_value int_type a ≡ true → (is_shift op ≡ false → is_value int_type b ≡ true) → lag ≤ lag' → slack' ≤ slack
      → Does tac worth start n lag' slack' (RestsAt mode from to lowered before) (arithmetic op int_type place (IntegerValue a) (IntegerValue b) s)
  operates_resting {start} {n} {lag} {lag'} {slack} {slack'} op int_type place mode from to lowered left right before a b s state p at kept is first second fits fits' more less =
      subst (λ (eval : Eval Scalar). Does tac worth start n lag' slack' (RestsAt mode from to lowered before) (eval s)) (sym (arithmetic_is op int_type place a b fits fits')) (by (outcome_of op int_type a b) refl)
    where
      by : (result : Result ℤ ArithUb) → outcome_of op int_type a b ≡ result → Does tac worth start n lag' slack' (RestsAt mode from to lowered before) (outcome_at place result s)
      by (Ok z) e =
          has_rested mode from to lowered (AsInteger int_type (O.Arithmetic op int_type left right)) before (IntegerValue z) s state p at kept is
          (z, refl, computes_arithmetic state.running.registers op int_type left right a b z first second fits fits' e) more less
      by (Err kind) e = stray (kind_of kind) place s

  pub constant_rests : (int_type : IntType) (z : ℤ) → Quiet (T.Constant int_type z)
  constant_rests int_type z pure mode from to lowered t code typed small start n lag slack s state p at =
      ticked tac program calls worth points placement hidden frame scope runs well keep (give (IntegerValue z)) from.at s state p at (omega arith) (λ left p' at'.
      has_rested mode from to lowered (AsInteger int_type (O.Constant z)) state.running.registers (IntegerValue z) (record s { units = left }) state p' (subst (λ (spot : Spot). At program placement hidden frame scope spot.at (record s { units = left }) state) (sym code.0) at'.stands)
      refl code.1 (z, refl, refl) (omega arith) (let laid = ap laid_by code.1 in omega (arith, laid)))

  pub grouped_rests : (inner : Value) → Quiet inner → Quiet (T.Grouped inner)
  grouped_rests inner quiet pure mode from to lowered t code typed small start n lag slack s state p at =
      ticked tac program calls worth points placement hidden frame scope runs well keep (value (around_of program) calls inner) from.at s state p at (omega arith) (λ left p' at'.
      eases (quiet pure mode from to lowered t code typed small start n (suc lag) (ticks_per_unit + slack) (record s { units = left }) state p' at') (omega arith) (let least = left_most inner in omega (arith, least)))

  pub converted_rests : (int_type : IntType) (operand : Value) → Quiet operand → Quiet (T.Converted int_type operand)
  converted_rests int_type operand quiet pure mode from to lowered t code typed small start n lag slack s state p at =
      let parts = other_parts (type_of around operand) (λ u. is_integer u && not (is_conversion operand)) (Integer int_type) t typed in
      let plain = plain_left operand (and_parts (is_integer parts.0) (not (is_conversion operand)) parts.2).1 in
      then_rests operand quiet pure (λ a. give (converted int_type a)) from to code.0 code.1 parts.0 code.2 parts.1 small s state p at (omega arith) (λ z s' state' p' came sound is fits same.
      has_rested mode from to lowered (AsInteger int_type (O.Convert int_type code.1)) state.running.registers (converted int_type (IntegerValue z)) s' state' p' came.there same code.3
      (convert_to int_type z, refl, computes_convert state'.running.registers int_type code.1 z is) (omega arith) (let laid = ap laid_by code.3 in omega (arith, laid, plain)))

  pub plus_rests : (operand : Value) → Quiet operand → Quiet (T.Plus operand)
  plus_rests operand quiet pure mode from to lowered t code typed small start n lag slack s state p at =
      let parts = same_parts (type_of around operand) is_integer t typed in
      ticked tac program calls worth points placement hidden frame scope runs well keep (value (around_of program) calls operand) from.at s state p at (omega arith) (λ left p' at'.
      let does = quiet pure Kept from to lowered t code parts.0 small start n (suc lag) (ticks_per_unit + slack) (record s { units = left }) state p' at' in
      eases (allows does (λ scalar s' state' came. ((came.0.0, stood mode _ (kept_stands mode lowered t s' state' scalar (value_form program points scope operand Kept t from to lowered parts.0 code) came.0.1)), came.1)))
      (omega arith) (let least = left_most operand in omega (arith, least)))
    where
      kept_stands : (mode : Mode) (lowered : Lowered) (t : CType) (s : S.State) (state : State) (scalar : Scalar) → HasForm Kept lowered t
          → LoweredStands program Kept frame placement s.objects state.running.registers lowered scalar → LoweredStands program mode frame placement s.objects state.running.registers lowered scalar
      kept_stands mode (AsInteger own tree) t s state scalar form stands = stands
      kept_stands mode (AsPointer register target) t s state scalar form stands = stands
      kept_stands mode (AsObject path own) t s state scalar form stands = absurd form
      kept_stands mode AsNothing t s state scalar form stands = stands

  pub cast_rests : (operand : Value) → Quiet operand → Quiet (T.Cast operand)
  cast_rests operand quiet pure mode from to lowered t code typed small start n lag slack s state p at =
      let parts = same_parts (type_of around operand) is_scalar t typed in
      ticked tac program calls worth points placement hidden frame scope runs well keep (value (around_of program) calls operand) from.at s state p at (omega arith) (λ left p' at'.
      let does = quiet pure (cast_mode mode) from to lowered t code parts.0 small start n (suc lag) (ticks_per_unit + slack) (record s { units = left }) state p' at' in
      eases (allows does (λ scalar s' state' came. ((came.0.0, cast_stood mode lowered t s' state' scalar (value_form program points scope operand (cast_mode mode) t from to lowered parts.0 code) came.0.1), came.1)))
      (omega arith) (let least = left_most operand in omega (arith, least)))
    where
      cast_stands : (mode : Mode) (lowered : Lowered) (t : CType) (s : S.State) (state : State) (scalar : Scalar) → HasForm (cast_mode mode) lowered t
          → LoweredStands program (cast_mode mode) frame placement s.objects state.running.registers lowered scalar → LoweredStands program mode frame placement s.objects state.running.registers lowered scalar
      cast_stands mode (AsInteger own tree) t s state scalar form stands = stands
      cast_stands mode (AsPointer register target) t s state scalar form stands = stands
      cast_stands mode AsNothing t s state scalar form stands = stands
      cast_stands Kept (AsObject path own) t s state scalar form stands = absurd form
      cast_stands Dropped (AsObject path own) t s state scalar form stands = absurd form
      cast_stands (Behind followed) (AsObject path own) t s state scalar form stands = absurd form
      cast_stands (Row followed) (AsObject path own) t s state scalar form stands = absurd form

      cast_stood : (mode : Mode) (lowered : Lowered) (t : CType) (s : S.State) (state : State) (scalar : Scalar) → HasForm (cast_mode mode) lowered t
          → Stood (cast_mode mode) (LoweredStands program (cast_mode mode) frame placement s.objects state.running.registers lowered scalar) → Stood mode (LoweredStands program mode frame placement s.objects state.running.registers lowered scalar)
      cast_stood Dropped lowered t s state scalar form stands = tt
      cast_stood Kept lowered t s state scalar form stands = cast_stands Kept lowered t s state scalar form stands
      cast_stood (Behind followed) lowered t s state scalar form stands = cast_stands (Behind followed) lowered t s state scalar form stands
      cast_stood (Row followed) lowered t s state scalar form stands = cast_stands (Row followed) lowered t s state scalar form stands

  pub minus_rests : (place : Pos) (int_type : IntType) (operand : Value) → Quiet operand → Quiet (T.Minus place int_type operand)
  minus_rests place int_type operand quiet pure mode from to lowered t code typed small start n lag slack s state p at =
      let parts = same_parts (type_of around operand) (λ u. same_type u (Integer int_type)) t typed in
      ticked tac program calls worth points placement hidden frame scope runs well keep (value (around_of program) calls operand >>= λ a. arithmetic B.Sub int_type place (IntegerValue (pos 0)) a) from.at s state p at (omega arith) (λ left p' at'.
      then_rests operand quiet pure (λ a. arithmetic B.Sub int_type place (IntegerValue (pos 0)) a) from to code.0 code.1 t code.2 parts.0 small (record s { units = left }) state p' at' (omega arith) (λ z s' state' p'' came sound is fits same.
      operates_resting B.Sub int_type place mode from to lowered (O.Constant (pos 0)) code.1 state.running.registers (pos 0) z s' state' p'' came.there same code.3 refl is (zero_fits int_type)
      (λ none. subst (λ own. is_value own z ≡ true) (own_is int_type t code.0 parts.1 (value_form program points scope operand Kept t from to (AsInteger code.0 code.1) parts.0 code.2)) fits)
      (omega arith) (let laid = ap laid_by code.3 in let least = left_most operand in omega (arith, laid, least))))

  pub complement_rests : (int_type : IntType) (operand : Value) → Quiet operand → Quiet (T.Complement int_type operand)
  complement_rests int_type operand quiet pure mode from to lowered t code typed small start n lag slack s state p at =
      let parts = same_parts (type_of around operand) (λ u. same_type u (Integer int_type)) t typed in
      ticked tac program calls worth points placement hidden frame scope runs well keep (value (around_of program) calls operand >>= λ a. give (converted int_type (IntegerValue (neg_ℤ (integer_of a) -ℤ pos 1)))) from.at s state p at (omega arith) (λ left p' at'.
      then_rests operand quiet pure (λ a. give (converted int_type (IntegerValue (neg_ℤ (integer_of a) -ℤ pos 1)))) from to code.0 code.1 t code.2 parts.0 small (record s { units = left }) state p' at' (omega arith) (λ z s' state' p'' came sound is fits same.
      let fits' = subst (λ own. is_value own z ≡ true) (own_is int_type t code.0 parts.1 (value_form program points scope operand Kept t from to (AsInteger code.0 code.1) parts.0 code.2)) fits in
      has_rested mode from to lowered (AsInteger int_type (O.Complement int_type code.1)) state.running.registers (converted int_type (IntegerValue (neg_ℤ z -ℤ pos 1))) s' state' p'' came.there same code.3
      (convert_to int_type (neg_ℤ z -ℤ pos 1), refl, computes_complement state'.running.registers int_type code.1 z is fits') (omega arith) (let laid = ap laid_by code.3 in let least = left_most operand in omega (arith, laid, least))))

  pub not_rests : (operand : Value) → Quiet operand → Quiet (T.Not operand)
  not_rests operand quiet pure mode from to lowered t code typed small start n lag slack s state p at =
      let parts = other_parts (type_of around operand) is_integer int t typed in
      ticked tac program calls worth points placement hidden frame scope runs well keep (value (around_of program) calls operand >>= λ a. give (P.truth (not (is_true a)))) from.at s state p at (omega arith) (λ left p' at'.
      then_rests operand quiet pure (λ a. give (P.truth (not (is_true a)))) from to code.0 code.1 parts.0 code.2 parts.1 small (record s { units = left }) state p' at' (omega arith) (λ z s' state' p'' came sound is fits same.
      has_rested mode from to lowered (AsInteger I.Int (O.Not code.0 code.1)) state.running.registers (P.truth (not (is_true (IntegerValue z)))) s' state' p'' came.there same code.3
      (truth (is_zero z), negated_zero z, computes_not state'.running.registers code.0 code.1 z is fits) (omega arith) (let laid = ap laid_by code.3 in let least = left_most operand in omega (arith, laid, least))))

  pub operator_rests : (op : BinOp) (place : Pos) (int_type : IntType) (left right : Value) → Quiet left → Quiet right → Quiet (T.Arithmetic op place int_type left right)
  operator_rests op place int_type left right quiet quiet' pure mode from to lowered t code typed small start n lag slack s state p at =
      let pures = and_parts (is_pure scope left) (is_pure scope right) pure in
      let sizes = and_parts (makes (is_storable program.structs) left) (makes (is_storable program.structs) right) small in
      let parts = first_parts (type_of around left) (type_of around right) (λ a b. same_type a (Integer int_type) && is_right op a b) t typed in
      let fit = and_parts (same_type t (Integer int_type)) (is_right op t parts.b) parts.holds in
      let first = value_form program points scope left Kept t from code.0 (AsInteger code.5 code.2) parts.left code.7 in
      let second = value_form program points scope right Kept parts.b code.1 to (AsInteger code.6 code.4) parts.right code.9 in
      let stays = keeps_none points (is_pure scope right) code.2 code.3 code.0 code.1 pures.1 code.8 in
      ticked tac program calls worth points placement hidden frame scope runs well keep (value (around_of program) calls left >>= λ a. value (around_of program) calls right >>= λ b. arithmetic op int_type place a b) from.at s state p at (omega arith) (λ left' p' at'.
      then_rests left quiet pures.0 (λ a. value (around_of program) calls right >>= λ b. arithmetic op int_type place a b) from code.0 code.5 code.2 t code.7 parts.left sizes.0 (record s { units = left' }) state p' at' (omega arith)
      (λ x s' state' p'' came sound is fits same.
      then_rests right quiet' pures.1 (λ b. arithmetic op int_type place (IntegerValue x) b) code.1 to code.6 code.4 parts.b code.9 parts.right sizes.1 s' state' p''
      (record { stands = subst (λ (spot : Spot). At program placement hidden frame scope spot.at s' state') (sym stays.0) came.there; sound = sound }) (omega arith)
      (λ y s'' state'' q came' sound' is' fits' same'.
      operates_resting op int_type place mode from to lowered code.3 code.4 state.running.registers x y s'' state'' q came'.there (same' ∙ same) code.10
      (ap (computes state''.running.registers) stays.1 ∙ ap (λ registers. computes registers code.2) same' ∙ is) is'
      (subst (λ own. is_value own x ≡ true) (own_is int_type t code.5 fit.0 first) fits)
      (λ none. subst (λ own. is_value own y ≡ true) (other_is op int_type code.6 t parts.b (same_type-true t (Integer int_type) fit.0) second fit.1 none) fits')
      (omega arith) (let laid = ap laid_by code.10 in let nodes = ap tree_nodes stays.1 in let least = left_most left in let least' = left_most right in omega (arith, laid, nodes, least, least')))))

  pub relation_rests : (relation : Relation) (left right : Value) → Quiet left → Quiet right → Quiet (T.Compare relation left right)
  relation_rests relation left right quiet quiet' pure mode from to lowered t code typed small start n lag slack s state p at =
      let pures = and_parts (is_pure scope left) (is_pure scope right) pure in
      let sizes = and_parts (makes (is_storable program.structs) left) (makes (is_storable program.structs) right) small in
      let parts = both_parts (type_of around left) (type_of around right) (λ a b. is_integer a && same_type a b) int t typed in
      let fit = and_parts (is_integer parts.a) (same_type parts.a parts.b) parts.holds in
      let first = value_form program points scope left Kept parts.a from code.0 (AsInteger code.5 code.2) parts.left code.7 in
      let second = value_form program points scope right Kept parts.b code.1 to (AsInteger code.6 code.4) parts.right code.9 in
      let other : code.6 ≡ code.5 = integer_is (sym second ∙ sym (same_type-true parts.a parts.b fit.1) ∙ first) in
      let stays = keeps_none points (is_pure scope right) code.2 code.3 code.0 code.1 pures.1 code.8 in
      ticked tac program calls worth points placement hidden frame scope runs well keep (value (around_of program) calls left >>= λ a. value (around_of program) calls right >>= λ b. give (P.truth (compare_of relation (integer_of a) (integer_of b)))) from.at s state p at (omega arith) (λ left' p' at'.
      then_rests left quiet pures.0 (λ a. value (around_of program) calls right >>= λ b. give (P.truth (compare_of relation (integer_of a) (integer_of b)))) from code.0 code.5 code.2 parts.a code.7 parts.left sizes.0 (record s { units = left' }) state p' at' (omega arith)
      (λ x s' state' p'' came sound is fits same.
      then_rests right quiet' pures.1 (λ b. give (P.truth (compare_of relation x (integer_of b)))) code.1 to code.6 code.4 parts.b code.9 parts.right sizes.1 s' state' p''
      (record { stands = subst (λ (spot : Spot). At program placement hidden frame scope spot.at s' state') (sym stays.0) came.there; sound = sound }) (omega arith)
      (λ y s'' state'' q came' sound' is' fits' same'.
      has_rested mode from to lowered (AsInteger I.Int (O.Compare relation code.5 code.3 code.4)) state.running.registers (P.truth (compare_of relation x y)) s'' state'' q came'.there (same' ∙ same) code.10 (
        truth (compare_of relation x y),
        truth_is (compare_of relation x y),
        computes_compare state''.running.registers relation code.5 code.3 code.4 x y (ap (computes state''.running.registers) stays.1 ∙ ap (λ registers. computes registers code.2) same' ∙ is) is' fits (subst (λ own. is_value own y ≡ true) other fits'),
      )
      (omega arith) (let laid = ap laid_by code.10 in let nodes = ap tree_nodes stays.1 in let least = left_most left in let least' = left_most right in omega (arith, laid, nodes, least, least')))))
