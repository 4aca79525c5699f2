-- Operations: what their operands are, what they come to, and how many registers they name.
use Rattle.std.proofs.Common.{◌≡◌, ℕ, suc, ◌+◌, ◌<◌, ◌≤◌, Bool, true, false, not, ◌&&◌, ◌||◌, if◌then◌else◌, List, [], ◌∷◌, Option, Some, refl, sym, ap, ◌∙◌, subst, arith, ℤ, pos, negsuc, neg_ℤ, ◌≤ℤ◌, FitsSigned, to_z, of_z, to_z-of_z, Result, IfOk}
use Rattle.std.proofs.lemmas.Bool.{false≢true, true≢false, and_parts, or_left, or_right}
use Rattle.std.specs.Int.{w128}
use Rattle.std.proofs.lemmas.Int.{ints}
use Rattle.std.specs.declared.alloc.AllocError.{AllocError}
use Rattle.c_num.specs.declared.IntType.{IntType}
use Rattle.c_num.specs.declared.IntType.TheVariants as I
use Rattle.c_num.specs.declared.BinOp.{BinOp}
use Rattle.c_num.specs.declared.BinOp.TheVariants as B
use Rattle.c_num.specs.declared.Relation.{Relation}
use Rattle.c_num.specs.declared.Relation.TheVariants as R
use Rattle.c_num.specs.Types.{IsValue, is_value}
use Rattle.c_num.specs.Arith.{is_shift}
use Rattle.c_num.proofs.Outcomes.{is_value-Decides}
use Rattle.c_typed.specs.declared.typed.Value as memory_value
use Rattle.c_typed.specs.Types.{CType, Integer, Pointer, int, same_type, is_integer, is_pointer}
use Rattle.c_typed.specs.Table.{Interned}
use Rattle.c_typed.specs.Typed as T
use Rattle.c_typed.specs.Typed.{Value}
use Rattle.run_theory.specs.declared.place.Pos.{Pos}
use Rattle.c_typed.specs.Views.{value_in, ValueStands}
use Rattle.c_typed.proofs.Same.{same_type-true}
use Rattle.c_typed.specs.Expressions.{is_right, is_conversion, type_of}
use Rattle.c_typed.proofs.Splitting.{held_parts, other_parts, same_parts, first_parts, both_parts}
use Rattle.tac_ir.specs.Code as C
use Rattle.tac_ir.specs.Code.{Op, Tree}
use Rattle.tac_ir.specs.Views.{tree_of}
use Rattle.tac_build.specs.declared.builder.Builder.{Builder}
use Rattle.tac_build.specs.declared.names.Source.{Source}
use Rattle.tac_build.specs.declared.homes.Home as memory_home
use Rattle.tac_build.specs.declared.lowered.Lowered as memory_lowered
use Rattle.tac_build.specs.declared.lowered.Lowered.TheVariants as L
use Rattle.tac_build.specs.declared.lowered.IntegerValue.{IntegerValue}
use Rattle.tac_build.specs.declared.lowered.Mode as memory_mode
use Rattle.tac_build.specs.declared.lowered.Mode.TheVariants as N
use Rattle.tac_build.specs.Homes.{Scope, is_pure, takes}
use Rattle.tac_build.specs.Spots.{Spot, Lowered, AsInteger, Mode, Kept, is_address}
use Rattle.tac_build.specs.Code.{KeepsTree, ValueCode}
use Rattle.tac_build.specs.Forms.{HasForm}
use Rattle.tac_build.specs.Building.{lowered_in, integer_of, mode_of, scope_in, IsInteger, IsPointer, Fills, Grows, points_in, spot_of, LeadsIn, LowersIn, HasRoom, Adds}
use Rattle.tac_build.specs.Lowering.{names_for, AddsFewer, program_in, types_of_source, scope_of, context_in, ValueTyped, LieInMemory, ValueLives, LoweredHolds, ValueLowers}
use Rattle.tac_build.proofs.Points.{if_ok, fills_same, fills_grown}
use Rattle.tac_build.proofs.Forms.{value_form}

-- ---- names

pub room_one : (old : Builder) → HasRoom old (names_for 1) → HasRoom old 1
room_one old room = omega (arith, room)

pub room_part : (old : Builder) (a : ℕ) → HasRoom old (names_for (suc a)) → HasRoom old (names_for a)
room_part old a room = omega (arith, room)

pub room_after : (old mid : Builder) (a : ℕ) → HasRoom old (names_for (suc a)) → AddsFewer old mid (names_for a) → HasRoom mid 1
room_after old mid a room adds = omega (arith, room, adds)

pub room_first : (old : Builder) (a b : ℕ) → HasRoom old (names_for (suc (a + b))) → HasRoom old (names_for a)
room_first old a b room = omega (arith, room)

pub room_second : (old mid : Builder) (a b : ℕ) → HasRoom old (names_for (suc (a + b))) → AddsFewer old mid (names_for a) → HasRoom mid (names_for b)
room_second old mid a b room adds = omega (arith, room, adds)

pub room_keep : (old mid : Builder) (a b : ℕ) → HasRoom old (names_for (suc (a + b))) → AddsFewer old mid (names_for a) → HasRoom mid 1
room_keep old mid a b room adds = omega (arith, room, adds)

pub room_kept : (old mid next : Builder) (a b : ℕ) → HasRoom old (names_for (suc (a + b))) → AddsFewer old mid (names_for a) → Adds mid next 1 → HasRoom next (names_for b)
room_kept old mid next a b room adds keeps = omega (arith, room, adds, keeps)

pub room_last : (old mid next : Builder) (a b : ℕ) → HasRoom old (names_for (suc (a + b))) → AddsFewer old mid (names_for a) → AddsFewer mid next (names_for b) → HasRoom next 1
room_last old mid next a b room adds more = omega (arith, room, adds, more)

pub room_kept_last : (old mid next last : Builder) (a b : ℕ) → HasRoom old (names_for (suc (a + b))) → AddsFewer old mid (names_for a) → Adds mid next 1 → AddsFewer next last (names_for b)
    → HasRoom last 1
room_kept_last old mid next last a b room adds keeps more = omega (arith, room, adds, keeps, more)

pub fewer_same : (old : Builder) → AddsFewer old old (names_for 1)
fewer_same old = omega (arith)

pub fewer_one : (old new : Builder) (a : ℕ) → AddsFewer old new (names_for a) → AddsFewer old new (names_for (suc a))
fewer_one old new a adds = omega (arith, adds)

pub fewer_point : (old new : Builder) → Adds old new 1 → AddsFewer old new (names_for 1)
fewer_point old new more = omega (arith, more)

pub fewer_after : (old mid new : Builder) (a : ℕ) → AddsFewer old mid (names_for a) → Adds mid new 1 → AddsFewer old new (names_for (suc a))
fewer_after old mid new a adds more = omega (arith, adds, more)

pub fewer_two : (old mid next new : Builder) (a b : ℕ) → AddsFewer old mid (names_for a) → Adds mid next 1 → AddsFewer next new (names_for b) → AddsFewer old new (names_for (suc (a + b)))
fewer_two old mid next new a b adds keeps more = omega (arith, adds, keeps, more)

pub fewer_last : (old mid next new : Builder) (a b : ℕ) → AddsFewer old mid (names_for a) → AddsFewer mid next (names_for b) → Adds next new 1 → AddsFewer old new (names_for (suc (a + b)))
fewer_last old mid next new a b adds more last = omega (arith, adds, more, last)

pub fewer_kept_last : (old mid next last new : Builder) (a b : ℕ) → AddsFewer old mid (names_for a) → Adds mid next 1 → AddsFewer next last (names_for b) → Adds last new 1
    → AddsFewer old new (names_for (suc (a + b)))
fewer_kept_last old mid next last new a b adds keeps more point = omega (arith, adds, keeps, more, point)

-- ---- locals

-- a value that is kept, or dropped, takes the address of what it names
pub lives_kept : (scope : Scope) (mode : memory_mode.Mode) (value : Value) → is_address (mode_of mode) ≡ true → LieInMemory scope (λ number. takes false number value) → ValueLives scope (mode_of mode) value
lives_kept scope mode value address taken = record {
  taken = subst (λ (b : Bool). LieInMemory scope (λ number. takes (not b) number value)) (sym address) taken;
  behind = λ e. absurd (true≢false (sym address ∙ e));
}

pub lie_left : (scope : Scope) (first second : ℕ → Bool) → LieInMemory scope (λ number. first number || second number) → LieInMemory scope first
lie_left scope first second lies = λ number home at is. lies number home at (or_left (first number) (second number) is)

pub lie_right : (scope : Scope) (first second : ℕ → Bool) → LieInMemory scope (λ number. first number || second number) → LieInMemory scope second
lie_right scope first second lies = λ number home at is. lies number home at (or_right (first number) (second number) is)

-- ---- kinds

integer_kind : (table : Interned) (lowered : memory_lowered.Lowered) (t : CType) → HasForm Kept (lowered_in table lowered) t → is_integer t ≡ true → IsInteger lowered
integer_kind table (L.Integer int_type tree) t form is = tt
integer_kind table (L.Pointer register target) t form is = absurd (false≢true (subst (λ u. is_integer u ≡ true) form is))
integer_kind table (L.Object path c_type) t form is = absurd form
integer_kind table L.Nothing t form is = absurd (false≢true (subst (λ u. is_integer u ≡ true) form is))

pointer_kind : (table : Interned) (lowered : memory_lowered.Lowered) (t : CType) → HasForm Kept (lowered_in table lowered) t → is_pointer t ≡ true → IsPointer lowered
pointer_kind table (L.Integer int_type tree) t form is = absurd (false≢true (subst (λ u. is_pointer u ≡ true) form is))
pointer_kind table (L.Pointer register target) t form is = tt
pointer_kind table (L.Object path c_type) t form is = absurd form
pointer_kind table L.Nothing t form is = absurd (false≢true (subst (λ u. is_pointer u ≡ true) form is))

-- an integer holds no type of the table
pub integer_holds : (table : Interned) (lowered : memory_lowered.Lowered) (own : IntType) (tree : Tree) → lowered_in table lowered ≡ AsInteger own tree → LoweredHolds table lowered
integer_holds table (L.Integer int_type other) own tree is = tt
integer_holds table (L.Pointer register target) own tree is = absurd (cc)
integer_holds table (L.Object path c_type) own tree is = absurd (cc)
integer_holds table L.Nothing own tree is = tt

-- ---- types

pub same_integer : (t : CType) (n : IntType) → same_type t (Integer n) ≡ true → is_integer t ≡ true
same_integer t n same = subst (λ u. is_integer u ≡ true) (sym (same_type-true t (Integer n) same)) refl

right_integer : (op : BinOp) (n : IntType) (t other : CType) → same_type t (Integer n) ≡ true → is_right op t other ≡ true → is_integer other ≡ true
right_integer op n t other same right = by (is_shift op) right
  where
    by : (b : Bool) → (if b then is_integer other else same_type t other) ≡ true → is_integer other ≡ true
    by true h = h
    by false h = subst (λ u. is_integer u ≡ true) (same_type-true t other h) (same_integer t n same)

-- ---- constants

between : (n : IntType) (z : ℤ) → IsValue n z → (neg_ℤ (pos 9223372036854775808) ≤ℤ z) × (z ≤ℤ pos 18446744073709551615)
between I.Char z h = (omega (arith, ints, h.least), omega (arith, ints, h.greatest))
between I.UChar z h = (omega (arith, ints, h.least), omega (arith, ints, h.greatest))
between I.Short z h = (omega (arith, ints, h.least), omega (arith, ints, h.greatest))
between I.UShort z h = (omega (arith, ints, h.least), omega (arith, ints, h.greatest))
between I.Int z h = (omega (arith, ints, h.least), omega (arith, ints, h.greatest))
between I.UInt z h = (omega (arith, ints, h.least), omega (arith, ints, h.greatest))
between I.Long z h = (omega (arith, ints, h.least), omega (arith, ints, h.greatest))
between I.ULong z h = (omega (arith, ints, h.least), omega (arith, ints, h.greatest))

fits_between : (z : ℤ) → neg_ℤ (pos 9223372036854775808) ≤ℤ z → z ≤ℤ pos 18446744073709551615 → FitsSigned w128 z
fits_between (pos k) least greatest =
    let small : k < 170141183460469231731687303715884105728 = omega (arith, ints, greatest) in
    record { sfits = small }
fits_between (negsuc k) least greatest =
    let small : k < 170141183460469231731687303715884105728 = omega (arith, ints, least) in
    record { sfits = small }

-- the value of a constant fits the integers in memory
pub constant_fits : (n : IntType) (z : ℤ) → is_value n z ≡ true → FitsSigned w128 z
constant_fits n z is =
    let both = between n z ((is_value-Decides n z).0 is) in
    fits_between z both.0 both.1

module _ (source : Source) (scope : List memory_home.Home) where
  abbrev table : Interned
  table = types_of_source source

  abbrev homes : Scope
  homes = scope_of source scope

  abbrev type_here : memory_value.Value → Option CType
  type_here value = type_of (context_in source scope) (value_in (types_of_source source) value)

  -- an operand whose type is of a kind
  pub record Operand (test : CType → Bool) (value : memory_value.Value) : Type 0 where
    pub stands : ValueStands (types_of_source source) value
    pub c_type : CType
    pub typed : type_of (context_in source scope) (value_in (types_of_source source) value) ≡ Some c_type
    pub is : test c_type ≡ true

  pub operand_typed : (test : CType → Bool) (value : memory_value.Value) → Operand test value → ValueTyped source scope value
  operand_typed test value operand = record { stands = operand.stands; c_type = operand.c_type; typed = operand.typed }

  pub comes_integer : (value : memory_value.Value) → Operand is_integer value → (old new : Builder) (lowered : memory_lowered.Lowered) → ValueLowers source scope N.Kept value old new lowered → IsInteger lowered
  comes_integer value operand old new lowered code =
      integer_kind (types_of_source source) lowered operand.c_type
      (value_form (program_in source) (points_in (types_of_source source) new) (scope_of source scope) (value_in (types_of_source source) value) Kept operand.c_type (spot_of (types_of_source source) old) (spot_of (types_of_source source) new)
      (lowered_in (types_of_source source) lowered) operand.typed (code.0 (points_in (types_of_source source) new) (fills_same (points_in (types_of_source source) new)))) operand.is

  pub comes_pointer : (value : memory_value.Value) → Operand is_pointer value → (old new : Builder) (lowered : memory_lowered.Lowered) → ValueLowers source scope N.Kept value old new lowered → IsPointer lowered
  comes_pointer value operand old new lowered code =
      pointer_kind (types_of_source source) lowered operand.c_type
      (value_form (program_in source) (points_in (types_of_source source) new) (scope_of source scope) (value_in (types_of_source source) value) Kept operand.c_type (spot_of (types_of_source source) old) (spot_of (types_of_source source) new)
      (lowered_in (types_of_source source) lowered) operand.typed (code.0 (points_in (types_of_source source) new) (fills_same (points_in (types_of_source source) new)))) operand.is

  -- ---- operands of operations on integers

  pub converted_part : (n : IntType) (inner : memory_value.Value) (t : CType) → type_of (context_in source scope) (T.Converted n (value_in (types_of_source source) inner)) ≡ Some t
      → ValueStands (types_of_source source) inner → Operand is_integer inner
  converted_part n inner t typed stands =
      let parts = other_parts (type_here inner) (λ u. is_integer u && not (is_conversion (value_in (types_of_source source) inner))) (Integer n) t typed in
      record { stands = stands; c_type = parts.0; typed = parts.1; is = (and_parts _ _ parts.2).0 }

  pub plus_part : (inner : memory_value.Value) (t : CType) → type_of (context_in source scope) (T.Plus (value_in (types_of_source source) inner)) ≡ Some t
      → ValueStands (types_of_source source) inner → Operand is_integer inner
  plus_part inner t typed stands =
      let parts = same_parts (type_here inner) is_integer t typed in
      record { stands = stands; c_type = t; typed = parts.0; is = parts.1 }

  pub minus_part : (place : Pos) (n : IntType) (inner : memory_value.Value) (t : CType) → type_of (context_in source scope) (T.Minus place n (value_in (types_of_source source) inner)) ≡ Some t
      → ValueStands (types_of_source source) inner → Operand is_integer inner
  minus_part place n inner t typed stands =
      let parts = same_parts (type_here inner) (λ u. same_type u (Integer n)) t typed in
      record { stands = stands; c_type = t; typed = parts.0; is = same_integer t n parts.1 }

  pub complement_part : (n : IntType) (inner : memory_value.Value) (t : CType) → type_of (context_in source scope) (T.Complement n (value_in (types_of_source source) inner)) ≡ Some t
      → ValueStands (types_of_source source) inner → Operand is_integer inner
  complement_part n inner t typed stands =
      let parts = same_parts (type_here inner) (λ u. same_type u (Integer n)) t typed in
      record { stands = stands; c_type = t; typed = parts.0; is = same_integer t n parts.1 }

  pub not_part : (inner : memory_value.Value) (t : CType) → type_of (context_in source scope) (T.Not (value_in (types_of_source source) inner)) ≡ Some t
      → ValueStands (types_of_source source) inner → Operand is_integer inner
  not_part inner t typed stands =
      let parts = other_parts (type_here inner) is_integer int t typed in
      record { stands = stands; c_type = parts.0; typed = parts.1; is = parts.2 }

  module _ (op : BinOp) (place : Pos) (n : IntType) (left right : memory_value.Value) (t : CType)
      (typed : type_of (context_in source scope) (T.Arithmetic op place n (value_in (types_of_source source) left) (value_in (types_of_source source) right)) ≡ Some t) where
    pub arithmetic_left : ValueStands (types_of_source source) left → Operand is_integer left
    arithmetic_left stands =
        let parts = first_parts (type_here left) (type_here right) (λ a b. same_type a (Integer n) && is_right op a b) t typed in
        record { stands = stands; c_type = t; typed = parts.left; is = same_integer t n (and_parts _ _ parts.holds).0 }

    pub arithmetic_right : ValueStands (types_of_source source) right → Operand is_integer right
    arithmetic_right stands =
        let parts = first_parts (type_here left) (type_here right) (λ a b. same_type a (Integer n) && is_right op a b) t typed in
        let both = and_parts (same_type t (Integer n)) (is_right op t parts.b) parts.holds in
        record { stands = stands; c_type = parts.b; typed = parts.right; is = right_integer op n t parts.b both.0 both.1 }

  module _ (relation : Relation) (left right : memory_value.Value) (t : CType)
      (typed : type_of (context_in source scope) (T.Compare relation (value_in (types_of_source source) left) (value_in (types_of_source source) right)) ≡ Some t) where
    pub compare_left : ValueStands (types_of_source source) left → Operand is_integer left
    compare_left stands =
        let parts = both_parts (type_here left) (type_here right) (λ a b. is_integer a && same_type a b) int t typed in
        record { stands = stands; c_type = parts.a; typed = parts.left; is = (and_parts _ _ parts.holds).0 }

    pub compare_right : ValueStands (types_of_source source) right → Operand is_integer right
    compare_right stands =
        let parts = both_parts (type_here left) (type_here right) (λ a b. is_integer a && same_type a b) int t typed in
        let both = and_parts (is_integer parts.a) (same_type parts.a parts.b) parts.holds in
        record { stands = stands; c_type = parts.b; typed = parts.right; is = subst (λ u. is_integer u ≡ true) (same_type-true parts.a parts.b both.1) both.0 }

  -- ---- code

  -- the code of a typed value
  abbrev pub TypedLowers : memory_mode.Mode → Value → Builder → Builder → memory_lowered.Lowered → Type 0
  TypedLowers mode v old new lowered =
      LowersIn (types_of_source source) (λ points. ValueCode (program_in source) points (scope_of source scope) (mode_of mode) v) old new lowered × LoweredHolds (types_of_source source) lowered

  -- what an operand comes to, as an integer
  pub integer_code : (inner : memory_value.Value) (old new : Builder) (given : memory_lowered.Lowered) (operand : IntegerValue) → ValueLowers source scope N.Kept inner old new given
      → ((t : Interned) → lowered_in t given ≡ integer_of operand) → (points : List Op) → Fills (points_in (types_of_source source) new) points
      → ValueCode (program_in source) points (scope_of source scope) Kept (value_in (types_of_source source) inner) (spot_of (types_of_source source) old) (spot_of (types_of_source source) new) (AsInteger operand.int_type (tree_of operand.tree.value))
  integer_code inner old new given operand code is points fills =
      subst (λ l. ValueCode (program_in source) points (scope_of source scope) Kept (value_in (types_of_source source) inner) (spot_of (types_of_source source) old) (spot_of (types_of_source source) new) l)
      (is (types_of_source source)) (code.0 points fills)

  -- a constant
  pub constant_code : (mode : memory_mode.Mode) (n : IntType) (z : ℤ) (old : Builder) (result : Result memory_lowered.Lowered AllocError) (t : CType)
      → type_of (context_in source scope) (T.Constant n z) ≡ Some t
      → IfOk result (λ lowered. (t : Interned) → lowered_in t lowered ≡ AsInteger n (C.Constant (to_z w128 (of_z w128 z)))) → IfOk result (TypedLowers mode (T.Constant n z) old old)
  constant_code mode n z old result t typed computed =
      let same = to_z-of_z (constant_fits n z (held_parts (is_value n z) (Integer n) t typed).0) in
      if_ok (λ lowered. (t : Interned) → lowered_in t lowered ≡ AsInteger n (C.Constant (to_z w128 (of_z w128 z)))) (TypedLowers mode (T.Constant n z) old old) result
      (λ lowered is. (
        λ points fills. (refl, is (types_of_source source) ∙ ap (λ y. AsInteger n (C.Constant y)) same),
        integer_holds (types_of_source source) lowered n (C.Constant (to_z w128 (of_z w128 z))) (is (types_of_source source)),
      )) computed

  -- an operation on one integer
  abbrev pub OneInteger : memory_value.Value → IntType → (IntType → Tree → Tree) → List Op → Spot → Spot → Lowered → Type 0
  OneInteger inner n f points from to lowered =
      (own : IntType) × (tree : Tree) × ValueCode (program_in source) points (scope_of source scope) Kept (value_in (types_of_source source) inner) from to (AsInteger own tree) × (lowered ≡ AsInteger n (f own tree))

  pub one_integer : (inner : memory_value.Value) (n : IntType) (f : IntType → Tree → Tree) (old new : Builder) (given : memory_lowered.Lowered) (operand : IntegerValue) (tree : Tree)
      (result : Result memory_lowered.Lowered AllocError) → ValueLowers source scope N.Kept inner old new given → ((t : Interned) → lowered_in t given ≡ integer_of operand)
      → tree ≡ f operand.int_type (tree_of operand.tree.value) → IfOk result (λ lowered. (t : Interned) → lowered_in t lowered ≡ AsInteger n tree)
      → IfOk result (λ lowered. LowersIn (types_of_source source) (OneInteger inner n f) old new lowered × LoweredHolds (types_of_source source) lowered)
  one_integer inner n f old new given operand tree result code is same computed =
      if_ok (λ lowered. (t : Interned) → lowered_in t lowered ≡ AsInteger n tree) (λ lowered. LowersIn (types_of_source source) (OneInteger inner n f) old new lowered × LoweredHolds (types_of_source source) lowered) result
      (λ lowered at. (
        λ points fills. (operand.int_type, tree_of operand.tree.value, integer_code inner old new given operand code is points fills, at (types_of_source source) ∙ ap (AsInteger n) same),
        integer_holds (types_of_source source) lowered n tree (at (types_of_source source)),
      )) computed

  pub converted_code : (mode : memory_mode.Mode) (n : IntType) (inner : memory_value.Value) (old new : Builder) (given : memory_lowered.Lowered) (operand : IntegerValue) (tree : Tree)
      (result : Result memory_lowered.Lowered AllocError) → ValueLowers source scope N.Kept inner old new given → ((t : Interned) → lowered_in t given ≡ integer_of operand)
      → tree ≡ C.Convert n (tree_of operand.tree.value) → IfOk result (λ lowered. (t : Interned) → lowered_in t lowered ≡ AsInteger n tree)
      → IfOk result (TypedLowers mode (T.Converted n (value_in (types_of_source source) inner)) old new)
  converted_code mode n inner = one_integer inner n (λ own tree. C.Convert n tree)

  pub minus_code : (mode : memory_mode.Mode) (place : Pos) (n : IntType) (inner : memory_value.Value) (old new : Builder) (given : memory_lowered.Lowered) (operand : IntegerValue) (tree : Tree)
      (result : Result memory_lowered.Lowered AllocError) → ValueLowers source scope N.Kept inner old new given → ((t : Interned) → lowered_in t given ≡ integer_of operand)
      → tree ≡ C.Arithmetic B.Sub n (C.Constant (pos 0)) (tree_of operand.tree.value) → IfOk result (λ lowered. (t : Interned) → lowered_in t lowered ≡ AsInteger n tree)
      → IfOk result (TypedLowers mode (T.Minus place n (value_in (types_of_source source) inner)) old new)
  minus_code mode place n inner = one_integer inner n (λ own tree. C.Arithmetic B.Sub n (C.Constant (pos 0)) tree)

  pub complement_code : (mode : memory_mode.Mode) (n : IntType) (inner : memory_value.Value) (old new : Builder) (given : memory_lowered.Lowered) (operand : IntegerValue) (tree : Tree)
      (result : Result memory_lowered.Lowered AllocError) → ValueLowers source scope N.Kept inner old new given → ((t : Interned) → lowered_in t given ≡ integer_of operand)
      → tree ≡ C.Complement n (tree_of operand.tree.value) → IfOk result (λ lowered. (t : Interned) → lowered_in t lowered ≡ AsInteger n tree)
      → IfOk result (TypedLowers mode (T.Complement n (value_in (types_of_source source) inner)) old new)
  complement_code mode n inner = one_integer inner n (λ own tree. C.Complement n tree)

  pub not_code : (mode : memory_mode.Mode) (inner : memory_value.Value) (old new : Builder) (given : memory_lowered.Lowered) (operand : IntegerValue) (tree : Tree)
      (result : Result memory_lowered.Lowered AllocError) → ValueLowers source scope N.Kept inner old new given → ((t : Interned) → lowered_in t given ≡ integer_of operand)
      → tree ≡ C.Not operand.int_type (tree_of operand.tree.value) → IfOk result (λ lowered. (t : Interned) → lowered_in t lowered ≡ AsInteger I.Int tree)
      → IfOk result (TypedLowers mode (T.Not (value_in (types_of_source source) inner)) old new)
  not_code mode inner = one_integer inner I.Int C.Not

  pub plus_code : (mode : memory_mode.Mode) (inner : memory_value.Value) (old new : Builder) (result : Result memory_lowered.Lowered AllocError)
      → IfOk result (ValueLowers source scope N.Kept inner old new) → IfOk result (TypedLowers mode (T.Plus (value_in (types_of_source source) inner)) old new)
  plus_code mode inner old new result code = code

  -- the left operand of an operator is kept where more code follows
  abbrev pub LeftKept : Interned → memory_value.Value → memory_lowered.Lowered → IntegerValue → Builder → Builder → Type 0
  LeftKept types right given kept mid next =
      LeadsIn types (λ points start end. (tree : Tree) × (lowered_in types given ≡ AsInteger kept.int_type tree) × KeepsTree points (not (is_pure (scope_in types scope) (value_in types right))) tree start end (tree_of kept.tree.value)) mid next

  -- an operation on two integers
  abbrev pub TwoIntegers : memory_value.Value → memory_value.Value → IntType → (IntType → Tree → Tree → Tree) → List Op → Spot → Spot → Lowered → Type 0
  TwoIntegers left right n f points from to lowered =
      (mid : Spot) × (next : Spot) × (a : Tree) × (kept : Tree) × (b : Tree) × (own : IntType) × (other : IntType)
      × ValueCode (program_in source) points (scope_of source scope) Kept (value_in (types_of_source source) left) from mid (AsInteger own a)
      × KeepsTree points (not (is_pure (scope_of source scope) (value_in (types_of_source source) right))) a mid next kept
      × ValueCode (program_in source) points (scope_of source scope) Kept (value_in (types_of_source source) right) next to (AsInteger other b) × (lowered ≡ AsInteger n (f own kept b))

  pub two_integers : (left right : memory_value.Value) (n : IntType) (f : IntType → Tree → Tree → Tree) (old mid next new : Builder) (types : Interned) (given other : memory_lowered.Lowered)
      (kept operand : IntegerValue) (tree : Tree) (result : Result memory_lowered.Lowered AllocError) → ValueLowers source scope N.Kept left old mid given → types ≡ types_of_source source
      → LeftKept types right given kept mid next → Grows mid next → ValueLowers source scope N.Kept right next new other → Grows next new → ((t : Interned) → lowered_in t other ≡ integer_of operand)
      → tree ≡ f kept.int_type (tree_of kept.tree.value) (tree_of operand.tree.value) → IfOk result (λ lowered. (t : Interned) → lowered_in t lowered ≡ AsInteger n tree)
      → IfOk result (λ lowered. LowersIn (types_of_source source) (TwoIntegers left right n f) old new lowered × LoweredHolds (types_of_source source) lowered)
  two_integers left right n f old mid next new types given other kept operand tree result first same_types keeps kept_grows second grows is same computed =
      let here = types_of_source source in
      let keeps_here = subst (λ types. LeftKept types right given kept mid next) same_types keeps in
      if_ok (λ lowered. (t : Interned) → lowered_in t lowered ≡ AsInteger n tree) (λ lowered. LowersIn (types_of_source source) (TwoIntegers left right n f) old new lowered × LoweredHolds (types_of_source source) lowered) result
      (λ lowered at. (
        λ points fills.
            let fills_next = fills_grown here next new points grows fills in
            let fills_mid = fills_grown here mid next points kept_grows fills_next in
            let held = keeps_here points fills_next in (
              spot_of here mid,
              spot_of here next,
              held.0,
              tree_of kept.tree.value,
              tree_of operand.tree.value,
              kept.int_type,
              operand.int_type,
              subst (λ l. ValueCode (program_in source) points (scope_of source scope) Kept (value_in (types_of_source source) left) (spot_of here old) (spot_of here mid) l) held.1 (first.0 points fills_mid),
              held.2,
              integer_code right next new other operand second is points fills,
              at here ∙ ap (AsInteger n) same,
            ),
        integer_holds here lowered n tree (at here),
      )) computed

  pub arithmetic_code : (mode : memory_mode.Mode) (op : BinOp) (place : Pos) (n : IntType) (left : memory_value.Value) (right : memory_value.Value) (old mid next new : Builder) (types : Interned)
      (given other : memory_lowered.Lowered) (kept operand : IntegerValue) (tree : Tree) (result : Result memory_lowered.Lowered AllocError) → ValueLowers source scope N.Kept left old mid given
      → types ≡ types_of_source source → LeftKept types right given kept mid next → Grows mid next → ValueLowers source scope N.Kept right next new other → Grows next new
      → ((t : Interned) → lowered_in t other ≡ integer_of operand) → tree ≡ C.Arithmetic op n (tree_of kept.tree.value) (tree_of operand.tree.value)
      → IfOk result (λ lowered. (t : Interned) → lowered_in t lowered ≡ AsInteger n tree) → IfOk result (TypedLowers mode (T.Arithmetic op place n (value_in (types_of_source source) left) (value_in (types_of_source source) right)) old new)
  arithmetic_code mode op place n left right = two_integers left right n (λ own a b. C.Arithmetic op n a b)

  pub compare_code : (mode : memory_mode.Mode) (relation : Relation) (left : memory_value.Value) (right : memory_value.Value) (old mid next new : Builder) (types : Interned)
      (given other : memory_lowered.Lowered) (kept operand : IntegerValue) (tree : Tree) (result : Result memory_lowered.Lowered AllocError) → ValueLowers source scope N.Kept left old mid given
      → types ≡ types_of_source source → LeftKept types right given kept mid next → Grows mid next → ValueLowers source scope N.Kept right next new other → Grows next new
      → ((t : Interned) → lowered_in t other ≡ integer_of operand) → tree ≡ C.Compare relation kept.int_type (tree_of kept.tree.value) (tree_of operand.tree.value)
      → IfOk result (λ lowered. (t : Interned) → lowered_in t lowered ≡ AsInteger I.Int tree) → IfOk result (TypedLowers mode (T.Compare relation (value_in (types_of_source source) left) (value_in (types_of_source source) right)) old new)
  compare_code mode relation left right = two_integers left right I.Int (λ own a b. C.Compare relation own a b)
