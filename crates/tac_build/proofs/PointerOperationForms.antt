-- Operations on pointers: what their operands are, and what they come to.
use Rattle.std.proofs.Common.{◌≡◌, ℕ, suc, ◌+◌, Bool, true, false, not, ◌&&◌, ◌||◌, if◌then◌else◌, eqb, List, [], ◌∷◌, length, Option, Some, refl, sym, ap, ◌∙◌, subst, arith, Result, Ok, Err, IfOk, OnOk}
use Rattle.std.proofs.lemmas.Bool.{false≢true, and_parts, ne_eqb, cond-false}
use Rattle.std.specs.declared.alloc.AllocError.{AllocError}
use Rattle.c_num.specs.declared.IntType.{IntType}
use Rattle.c_num.specs.declared.IntType.TheVariants as I
use Rattle.c_num.specs.declared.Relation.{Relation}
use Rattle.c_num.specs.declared.Relation.TheVariants as R
use Rattle.c_typed.specs.declared.c_type.CType as number
use Rattle.c_typed.specs.declared.c_type.Derived.{Derived}
use Rattle.c_typed.specs.declared.typed.Value as memory_value
use Rattle.c_typed.specs.Typed as T
use Rattle.run_theory.specs.declared.place.Pos.{Pos}
use Rattle.c_typed.specs.Types.{CType, Void, Integer, Pointer, Array, Struct, Function, int, same_type, is_integer, is_pointer, is_function, is_object_pointer, is_function_pointer, is_void_pointer}
use Rattle.c_typed.specs.Layouts.{StructDef}
use Rattle.c_typed.specs.Table.{Interned, Stands, type_in, AType, derived_meaning, meaning_in, the_type, IsAType}
use Rattle.c_typed.specs.Views.{value_in, ValueStands}
use Rattle.c_typed.proofs.Same.{same_type-true}
use Rattle.c_typed.specs.Expressions.{given_two, is_conversion, is_pointer_to_complete, are_comparable, repoints, moved, type_of}
use Rattle.c_typed.proofs.Splitting.{held_parts, two_parts, other_parts, both_parts}
use Rattle.tac_ir.specs.declared.register.Register.{Register}
use Rattle.tac_ir.specs.Code as C
use Rattle.tac_ir.specs.Code.{Op, Tree}
use Rattle.tac_ir.specs.Views.{tree_of}
use Rattle.tac_build.specs.declared.builder.Builder.{Builder}
use Rattle.tac_build.specs.declared.names.Source.{Source}
use Rattle.tac_build.specs.declared.homes.Home as memory_home
use Rattle.tac_build.specs.declared.lowered.Lowered as memory_lowered
use Rattle.tac_build.specs.declared.lowered.Lowered.TheVariants as L
use Rattle.tac_build.specs.declared.lowered.IntegerValue.{IntegerValue}
use Rattle.tac_build.specs.declared.lowered.PointerValue.{PointerValue}
use Rattle.tac_build.specs.declared.lowered.Mode as memory_mode
use Rattle.tac_build.specs.declared.lowered.Mode.TheVariants as N
use Rattle.tac_build.specs.Spots.{Spot, Lowered, AsPointer, Kept, Dropped, expression, temporary}
use Rattle.tac_build.specs.Code.{GivesInteger, GivesPointer, KeepsTree, MovesPointer, MovedCode, ValueCode}
use Rattle.tac_build.specs.Building.{lowered_in, integer_of, pointer_in, Fills, Grows, points_in, spot_of, Leads, Lowers, LowersIn}
use Rattle.tac_build.specs.Lowering.{program_in, types_of_source, scope_of, context_in, ValueTyped, LoweredHolds, ValueLowers}
use Rattle.tac_build.proofs.Points.{if_ok, fills_same, fills_grown}
use Rattle.tac_build.proofs.Everywhere.{stands_everywhere, holds_pointer}
use Rattle.tac_build.proofs.OperationForms.{Operand, TypedLowers, integer_holds, integer_code}

-- ---- results

if_ok_on : {A : Type 0} → {E : Type 0} → {G : Type 0} → (P S : A → Type 0) (result : Result A E) → ((a : A) → P a → G → S a) → IfOk result P → OnOk result G → IfOk result S
if_ok_on P S (Ok a) f p g = f a p g
if_ok_on P S (Err e) f p g = tt

-- ---- types of the table

void_meaning : (tags : List (List ℕ)) (entries : List Derived) → meaning_in tags entries 0 ≡ AType Void
void_meaning tags [] = refl
void_meaning tags (newest ∷ older) = cond-false (eqb 0 (9 + length older)) (derived_meaning tags (meaning_in tags older) newest) (meaning_in tags older 0) (ne_eqb 0 (9 + length older) (λ (e : 0 ≡ 9 + length older). absurd (omega (arith, e)))) ∙ void_meaning tags older

pub void_in : (table : Interned) (t : number.CType) → t.0 ≡ 0 → type_in table t ≡ Void
void_in table t is = ap (λ n. the_type (meaning_in table.tags table.entries n)) is ∙ ap the_type (void_meaning table.tags table.entries)

pub void_stands : (table : Interned) (t : number.CType) → t.0 ≡ 0 → Stands table t
void_stands table t is = subst IsAType (sym (ap (meaning_in table.tags table.entries) is ∙ void_meaning table.tags table.entries)) tt

abbrev target_of : Lowered → CType
target_of (AsPointer register target) = target
target_of _ = Void

-- the target of a pointer that holds
held_target : (table : Interned) (lowered : memory_lowered.Lowered) (given : PointerValue) → ((t : Interned) → lowered_in t lowered ≡ pointer_in t given) → LoweredHolds table lowered → Stands table given.target
held_target table (L.Pointer register own) given is holds = stands_everywhere given.target own (λ t. sym (ap target_of (is t))) table holds
held_target table (L.Integer int_type tree) given is holds = let e = is table in absurd (cc)
held_target table (L.Object path c_type) given is holds = let e = is table in absurd (cc)
held_target table L.Nothing given is holds = let e = is table in absurd (cc)

object_is_pointer : (t : CType) → is_object_pointer t ≡ true → is_pointer t ≡ true
object_is_pointer (Pointer target) h = refl
object_is_pointer Void h = absurd (false≢true h)
object_is_pointer (Integer n) h = absurd (false≢true h)
object_is_pointer (Array u n) h = absurd (false≢true h)
object_is_pointer (Struct tag) h = absurd (false≢true h)
object_is_pointer (Function u us) h = absurd (false≢true h)

function_is_pointer : (t : CType) → is_function_pointer t ≡ true → is_pointer t ≡ true
function_is_pointer (Pointer target) h = refl
function_is_pointer Void h = absurd (false≢true h)
function_is_pointer (Integer n) h = absurd (false≢true h)
function_is_pointer (Array u n) h = absurd (false≢true h)
function_is_pointer (Struct tag) h = absurd (false≢true h)
function_is_pointer (Function u us) h = absurd (false≢true h)

complete_is_pointer : (structs : List StructDef) (t : CType) → is_pointer_to_complete structs t ≡ true → is_pointer t ≡ true
complete_is_pointer structs (Pointer target) h = refl
complete_is_pointer structs Void h = absurd (false≢true h)
complete_is_pointer structs (Integer n) h = absurd (false≢true h)
complete_is_pointer structs (Array u n) h = absurd (false≢true h)
complete_is_pointer structs (Struct tag) h = absurd (false≢true h)
complete_is_pointer structs (Function u us) h = absurd (false≢true h)

alike_left : (a b : CType) (c : Bool) → (is_pointer a && is_pointer b && c) ≡ true → is_pointer a ≡ true
alike_left a b c h = (and_parts (is_pointer a) (is_pointer b) (and_parts (is_pointer a && is_pointer b) c h).0).0

alike_right : (a b : CType) (c : Bool) → (is_pointer a && is_pointer b && c) ≡ true → is_pointer b ≡ true
alike_right a b c h = (and_parts (is_pointer a) (is_pointer b) (and_parts (is_pointer a && is_pointer b) c h).0).1

ordered_left : (a b : CType) → (is_object_pointer a && same_type a b) ≡ true → is_pointer a ≡ true
ordered_left a b h = object_is_pointer a (and_parts (is_object_pointer a) (same_type a b) h).0

ordered_right : (a b : CType) → (is_object_pointer a && same_type a b) ≡ true → is_pointer b ≡ true
ordered_right a b h =
    let both = and_parts (is_object_pointer a) (same_type a b) h in
    subst (λ u. is_pointer u ≡ true) (same_type-true a b both.1) (object_is_pointer a both.0)

comparable_left : (relation : Relation) (a b : CType) → are_comparable relation a b ≡ true → is_pointer a ≡ true
comparable_left R.Eq a b h = alike_left a b _ h
comparable_left R.Ne a b h = alike_left a b _ h
comparable_left R.Lt a b h = ordered_left a b h
comparable_left R.Gt a b h = ordered_left a b h
comparable_left R.Le a b h = ordered_left a b h
comparable_left R.Ge a b h = ordered_left a b h

comparable_right : (relation : Relation) (a b : CType) → are_comparable relation a b ≡ true → is_pointer b ≡ true
comparable_right R.Eq a b h = alike_right a b _ h
comparable_right R.Ne a b h = alike_right a b _ h
comparable_right R.Lt a b h = ordered_right a b h
comparable_right R.Gt a b h = ordered_right a b h
comparable_right R.Le a b h = ordered_right a b h
comparable_right R.Ge a b h = ordered_right a b h

repointed_pointer : (t target : CType) → repoints t target ≡ true → is_pointer t ≡ true
repointed_pointer t target h = by (is_function target) h
  where
    by : (b : Bool) → (if b then is_function_pointer t else is_object_pointer t) ≡ true → is_pointer t ≡ true
    by true h = function_is_pointer t h
    by false h = object_is_pointer t h

module _ (source : Source) (scope : List memory_home.Home) where
  abbrev type_here : memory_value.Value → Option CType
  type_here value = type_of (context_in source scope) (value_in (types_of_source source) value)

  abbrev structs_here : List StructDef
  structs_here = (context_in source scope).program.structs

  abbrev IntegerPart : memory_value.Value → Type 0
  IntegerPart value = Operand source scope is_integer value

  abbrev PointerPart : memory_value.Value → Type 0
  PointerPart value = Operand source scope is_pointer value

  -- ---- operands

  pub repointed_part : (place : Pos) (own : CType) (inner : memory_value.Value) (t : CType) → type_of (context_in source scope) (T.Repointed place own (value_in (types_of_source source) inner)) ≡ Some t
      → ValueStands (types_of_source source) inner → PointerPart inner
  repointed_part place own inner t typed stands =
      let parts = other_parts (type_here inner) (λ u. repoints u own && not (is_conversion (value_in (types_of_source source) inner))) (Pointer own) t typed in
      record { stands = stands; c_type = parts.0; typed = parts.1; is = repointed_pointer parts.0 own (and_parts _ _ parts.2).0 }

  pub made_null_part : (own : CType) (inner : memory_value.Value) (t : CType) → type_of (context_in source scope) (T.MadeNull own (value_in (types_of_source source) inner)) ≡ Some t
      → ValueStands (types_of_source source) inner → ValueTyped source scope inner
  made_null_part own inner t typed stands =
      let parts = other_parts (type_here inner) (λ u. (is_integer u || is_void_pointer u) && not (is_conversion (value_in (types_of_source source) inner))) (Pointer own) t typed in
      record { stands = stands; c_type = parts.0; typed = parts.1 }

  pub tested_part : (place : Pos) (inner : memory_value.Value) (t : CType) → type_of (context_in source scope) (T.Tested place (value_in (types_of_source source) inner)) ≡ Some t
      → ValueStands (types_of_source source) inner → PointerPart inner
  tested_part place inner t typed stands =
      let parts = other_parts (type_here inner) (λ u. is_pointer u && not (is_conversion (value_in (types_of_source source) inner))) int t typed in
      record { stands = stands; c_type = parts.0; typed = parts.1; is = (and_parts _ _ parts.2).0 }

  module _ (relation : Relation) (place : Pos) (left right : memory_value.Value) (t : CType)
      (typed : type_of (context_in source scope) (T.ComparePointers relation place (value_in (types_of_source source) left) (value_in (types_of_source source) right)) ≡ Some t) where
    pub compared_left : ValueStands (types_of_source source) left → PointerPart left
    compared_left stands =
        let parts = both_parts (type_here left) (type_here right) (are_comparable relation) int t typed in
        record { stands = stands; c_type = parts.a; typed = parts.left; is = comparable_left relation parts.a parts.b parts.holds }

    pub compared_right : ValueStands (types_of_source source) right → PointerPart right
    compared_right stands =
        let parts = both_parts (type_here left) (type_here right) (are_comparable relation) int t typed in
        record { stands = stands; c_type = parts.b; typed = parts.right; is = comparable_right relation parts.a parts.b parts.holds }

  -- a pointer that a number moves
  module _ (pointer number : memory_value.Value) (t : CType) (typed : given_two (type_here pointer) (type_here number) (moved structs_here) ≡ Some t) where
    pub moved_pointer : ValueStands (types_of_source source) pointer → PointerPart pointer
    moved_pointer stands =
        let parts = two_parts (type_here pointer) (type_here number) (moved structs_here) t typed in
        let held = held_parts (is_pointer_to_complete structs_here parts.a && is_integer parts.b) parts.a t parts.gave in
        record { stands = stands; c_type = parts.a; typed = parts.left; is = complete_is_pointer structs_here parts.a (and_parts _ _ held.0).0 }

    pub moving_number : ValueStands (types_of_source source) number → IntegerPart number
    moving_number stands =
        let parts = two_parts (type_here pointer) (type_here number) (moved structs_here) t typed in
        let held = held_parts (is_pointer_to_complete structs_here parts.a && is_integer parts.b) parts.a t parts.gave in
        record { stands = stands; c_type = parts.b; typed = parts.right; is = (and_parts _ _ held.0).1 }

  module _ (place : Pos) (left right : memory_value.Value) (t : CType)
      (typed : type_of (context_in source scope) (T.PointerDifference place (value_in (types_of_source source) left) (value_in (types_of_source source) right)) ≡ Some t) where
    pub difference_left : ValueStands (types_of_source source) left → PointerPart left
    difference_left stands =
        let parts = both_parts (type_here left) (type_here right) (λ a b. is_pointer_to_complete structs_here a && same_type a b) (Integer I.Long) t typed in
        record { stands = stands; c_type = parts.a; typed = parts.left; is = complete_is_pointer structs_here parts.a (and_parts _ _ parts.holds).0 }

    pub difference_right : ValueStands (types_of_source source) right → PointerPart right
    difference_right stands =
        let parts = both_parts (type_here left) (type_here right) (λ a b. is_pointer_to_complete structs_here a && same_type a b) (Integer I.Long) t typed in
        let both = and_parts (is_pointer_to_complete structs_here parts.a) (same_type parts.a parts.b) parts.holds in
        record { stands = stands; c_type = parts.b; typed = parts.right; is = subst (λ u. is_pointer u ≡ true) (same_type-true parts.a parts.b both.1) (complete_is_pointer structs_here parts.a both.0) }

  -- ---- code

  -- what an operand comes to, as a pointer
  pointer_code : (inner : memory_value.Value) (old new : Builder) (given : memory_lowered.Lowered) (operand : PointerValue) → ValueLowers source scope N.Kept inner old new given
      → ((t : Interned) → lowered_in t given ≡ pointer_in t operand) → (points : List Op) → Fills (points_in (types_of_source source) new) points
      → ValueCode (program_in source) points (scope_of source scope) Kept (value_in (types_of_source source) inner) (spot_of (types_of_source source) old) (spot_of (types_of_source source) new)
      (AsPointer operand.register (type_in (types_of_source source) operand.target))
  pointer_code inner old new given operand code is points fills =
      subst (λ l. ValueCode (program_in source) points (scope_of source scope) Kept (value_in (types_of_source source) inner) (spot_of (types_of_source source) old) (spot_of (types_of_source source) new) l)
      (is (types_of_source source)) (code.0 points fills)

  gives_holds : (op : Interned → Register → Op) (target : number.CType) (mid new : Builder) (lowered : memory_lowered.Lowered) → Lowers (λ t points. GivesPointer points (op t) (type_in t target)) mid new lowered
      → Stands (types_of_source source) target → LoweredHolds (types_of_source source) lowered
  gives_holds op target mid new lowered told stands =
      holds_pointer lowered target (λ t. expression (spot_of t mid)) (λ t. (told t (points_in t new) (fills_same (points_in t new))).2) (types_of_source source) stands

  integer_given : (n : IntType) (op : Interned → Register → Op) (mid new : Builder) (lowered : memory_lowered.Lowered) → Lowers (λ t points. GivesInteger points (op t) n) mid new lowered
      → LoweredHolds (types_of_source source) lowered
  integer_given n op mid new lowered told =
      let here = types_of_source source in
      integer_holds here lowered n (C.Held (temporary (spot_of here mid))) (told here (points_in here new) (fills_same (points_in here new))).2

  pub null_code : (mode : memory_mode.Mode) (void : number.CType) (old new : Builder) (result : Result memory_lowered.Lowered AllocError)
      → IfOk result (Lowers (λ t points. GivesPointer points C.Null (type_in t void)) old new) → void.0 ≡ 0 → IfOk result (TypedLowers source scope mode T.NullPointer old new)
  null_code mode void old new result given is =
      let here = types_of_source source in
      if_ok (Lowers (λ t points. GivesPointer points C.Null (type_in t void)) old new) (TypedLowers source scope mode T.NullPointer old new) result
      (λ lowered told. (
        λ points fills. subst (λ u. GivesPointer points C.Null u (spot_of here old) (spot_of here new) (lowered_in here lowered)) (void_in here void is) (told here points fills),
        gives_holds (λ t. C.Null) void old new lowered told (void_stands here void is),
      )) given

  pub repointed_code : (mode : memory_mode.Mode) (place : Pos) (target : number.CType) (inner : memory_value.Value) (old mid new : Builder) (given : memory_lowered.Lowered) (operand : PointerValue)
      (result : Result memory_lowered.Lowered AllocError) → Stands (types_of_source source) target → ValueLowers source scope N.Kept inner old mid given
      → ((t : Interned) → lowered_in t given ≡ pointer_in t operand)
      → IfOk result (Lowers (λ t points. GivesPointer points (λ register. C.Repoint register (type_in t target) operand.register) (type_in t target)) mid new) → OnOk result (Grows mid new)
      → IfOk result (TypedLowers source scope mode (T.Repointed place (type_in (types_of_source source) target) (value_in (types_of_source source) inner)) old new)
  repointed_code mode place target inner old mid new given operand result stands code is gives grows =
      let here = types_of_source source in
      if_ok_on (Lowers (λ t points. GivesPointer points (λ register. C.Repoint register (type_in t target) operand.register) (type_in t target)) mid new) (TypedLowers source scope mode (T.Repointed place (type_in (types_of_source source) target) (value_in (types_of_source source) inner)) old new) result
      (λ lowered told grown. (
        λ points fills. (spot_of here mid, operand.register, type_in here operand.target, pointer_code inner old mid given operand code is points (fills_grown here mid new points grown fills), told here points fills),
        gives_holds (λ t register. C.Repoint register (type_in t target) operand.register) target mid new lowered told stands,
      )) gives grows

  pub made_null_code : (mode : memory_mode.Mode) (target : number.CType) (inner : memory_value.Value) (old mid new : Builder) (given : memory_lowered.Lowered)
      (result : Result memory_lowered.Lowered AllocError) → Stands (types_of_source source) target → ValueLowers source scope N.Dropped inner old mid given
      → IfOk result (Lowers (λ t points. GivesPointer points C.Null (type_in t target)) mid new) → OnOk result (Grows mid new)
      → IfOk result (TypedLowers source scope mode (T.MadeNull (type_in (types_of_source source) target) (value_in (types_of_source source) inner)) old new)
  made_null_code mode target inner old mid new given result stands code gives grows =
      let here = types_of_source source in
      if_ok_on (Lowers (λ t points. GivesPointer points C.Null (type_in t target)) mid new) (TypedLowers source scope mode (T.MadeNull (type_in (types_of_source source) target) (value_in (types_of_source source) inner)) old new) result
      (λ lowered told grown. (
        λ points fills. (spot_of here mid, lowered_in here given, code.0 points (fills_grown here mid new points grown fills), told here points fills),
        gives_holds (λ t. C.Null) target mid new lowered told stands,
      )) gives grows

  pub tested_code : (mode : memory_mode.Mode) (place : Pos) (inner : memory_value.Value) (old mid new : Builder) (given : memory_lowered.Lowered) (operand : PointerValue)
      (result : Result memory_lowered.Lowered AllocError) → ValueLowers source scope N.Kept inner old mid given → ((t : Interned) → lowered_in t given ≡ pointer_in t operand)
      → IfOk result (Lowers (λ t points. GivesInteger points (λ register. C.Test register operand.register) I.Int) mid new) → OnOk result (Grows mid new)
      → IfOk result (TypedLowers source scope mode (T.Tested place (value_in (types_of_source source) inner)) old new)
  tested_code mode place inner old mid new given operand result code is gives grows =
      let here = types_of_source source in
      if_ok_on (Lowers (λ t points. GivesInteger points (λ register. C.Test register operand.register) I.Int) mid new) (TypedLowers source scope mode (T.Tested place (value_in (types_of_source source) inner)) old new) result
      (λ lowered told grown. (
        λ points fills. (spot_of here mid, operand.register, type_in here operand.target, pointer_code inner old mid given operand code is points (fills_grown here mid new points grown fills), told here points fills),
        integer_given I.Int (λ t register. C.Test register operand.register) mid new lowered told,
      )) gives grows

  -- an operation on two pointers
  abbrev pub TwoPointers : memory_value.Value → memory_value.Value → IntType → (CType → Register → Register → Register → Op) → List Op → Spot → Spot → Lowered → Type 0
  TwoPointers left right n op points from to lowered =
      (mid : Spot) × (next : Spot) × (a : Register) × (b : Register) × (own : CType) × (other : CType)
      × ValueCode (program_in source) points (scope_of source scope) Kept (value_in (types_of_source source) left) from mid (AsPointer a own)
      × ValueCode (program_in source) points (scope_of source scope) Kept (value_in (types_of_source source) right) mid next (AsPointer b other)
      × GivesInteger points (λ register. op own register a b) n next to lowered

  two_pointers : (left right : memory_value.Value) (n : IntType) (op : CType → Register → Register → Register → Op) (old mid next new : Builder) (given other : memory_lowered.Lowered) (a b : PointerValue)
      (result : Result memory_lowered.Lowered AllocError) → ValueLowers source scope N.Kept left old mid given → ((t : Interned) → lowered_in t given ≡ pointer_in t a)
      → ValueLowers source scope N.Kept right mid next other → Grows mid next → ((t : Interned) → lowered_in t other ≡ pointer_in t b)
      → IfOk result (Lowers (λ t points. GivesInteger points (λ register. op (type_in t a.target) register a.register b.register) n) next new) → OnOk result (Grows next new)
      → IfOk result (λ lowered. LowersIn (types_of_source source) (TwoPointers left right n op) old new lowered × LoweredHolds (types_of_source source) lowered)
  two_pointers left right n op old mid next new given other a b result first is second grows is_other gives grown_on =
      let here = types_of_source source in
      if_ok_on (Lowers (λ t points. GivesInteger points (λ register. op (type_in t a.target) register a.register b.register) n) next new)
      (λ lowered. LowersIn (types_of_source source) (TwoPointers left right n op) old new lowered × LoweredHolds (types_of_source source) lowered) result
      (λ lowered told grown. (
        λ points fills.
            let fills_next = fills_grown here next new points grown fills in (
              spot_of here mid,
              spot_of here next,
              a.register,
              b.register,
              type_in here a.target,
              type_in here b.target,
              pointer_code left old mid given a first is points (fills_grown here mid next points grows fills_next),
              pointer_code right mid next other b second is_other points fills_next,
              told here points fills,
            ),
        integer_given n (λ t register. op (type_in t a.target) register a.register b.register) next new lowered told,
      )) gives grown_on

  pub compared_code : (mode : memory_mode.Mode) (relation : Relation) (place : Pos) (left : memory_value.Value) (right : memory_value.Value) (old mid next new : Builder) (given other : memory_lowered.Lowered)
      (a b : PointerValue) (result : Result memory_lowered.Lowered AllocError) → ValueLowers source scope N.Kept left old mid given → ((t : Interned) → lowered_in t given ≡ pointer_in t a)
      → ValueLowers source scope N.Kept right mid next other → Grows mid next → ((t : Interned) → lowered_in t other ≡ pointer_in t b)
      → IfOk result (Lowers (λ t points. GivesInteger points (λ register. C.ComparePointers register relation a.register b.register) I.Int) next new) → OnOk result (Grows next new)
      → IfOk result (TypedLowers source scope mode (T.ComparePointers relation place (value_in (types_of_source source) left) (value_in (types_of_source source) right)) old new)
  compared_code mode relation place left right = two_pointers left right I.Int (λ own register a b. C.ComparePointers register relation a b)

  pub difference_code : (mode : memory_mode.Mode) (place : Pos) (left : memory_value.Value) (right : memory_value.Value) (old mid next new : Builder) (given other : memory_lowered.Lowered)
      (a b : PointerValue) (result : Result memory_lowered.Lowered AllocError) → ValueLowers source scope N.Kept left old mid given → ((t : Interned) → lowered_in t given ≡ pointer_in t a)
      → ValueLowers source scope N.Kept right mid next other → Grows mid next → ((t : Interned) → lowered_in t other ≡ pointer_in t b)
      → IfOk result (Lowers (λ t points. GivesInteger points (λ register. C.Difference register (type_in t a.target) a.register b.register) I.Long) next new) → OnOk result (Grows next new)
      → IfOk result (TypedLowers source scope mode (T.PointerDifference place (value_in (types_of_source source) left) (value_in (types_of_source source) right)) old new)
  difference_code mode place left right = two_pointers left right I.Long (λ own register a b. C.Difference register own a b)

  -- a pointer that a number moves
  moved_code : (is_minus : Bool) (pointer number : memory_value.Value) (old mid next new : Builder) (given other : memory_lowered.Lowered) (from : PointerValue) (operand : IntegerValue)
      (result : Result memory_lowered.Lowered AllocError) → ValueLowers source scope N.Kept pointer old mid given → ((t : Interned) → lowered_in t given ≡ pointer_in t from)
      → ValueLowers source scope N.Kept number mid next other → Grows mid next → ((t : Interned) → lowered_in t other ≡ integer_of operand)
      → IfOk result (Lowers (λ t points. MovesPointer points from.register (type_in t from.target) is_minus (tree_of operand.tree.value)) next new) → OnOk result (Grows next new)
      → IfOk result (λ lowered. LowersIn (types_of_source source) (λ points. MovedCode points is_minus (ValueCode (program_in source) points (scope_of source scope) Kept (value_in (types_of_source source) pointer))
      (ValueCode (program_in source) points (scope_of source scope) Kept (value_in (types_of_source source) number))) old new lowered × LoweredHolds (types_of_source source) lowered)
  moved_code is_minus pointer number old mid next new given other from operand result first is second grows is_other gives grown_on =
      let here = types_of_source source in
      if_ok_on (Lowers (λ t points. MovesPointer points from.register (type_in t from.target) is_minus (tree_of operand.tree.value)) next new)
      (λ lowered. LowersIn (types_of_source source) (λ points. MovedCode points is_minus (ValueCode (program_in source) points (scope_of source scope) Kept (value_in (types_of_source source) pointer))
      (ValueCode (program_in source) points (scope_of source scope) Kept (value_in (types_of_source source) number))) old new lowered × LoweredHolds (types_of_source source) lowered) result
      (λ lowered told grown. (
        λ points fills.
            let fills_next = fills_grown here next new points grown fills in (
              spot_of here mid,
              spot_of here next,
              from.register,
              type_in here from.target,
              operand.int_type,
              tree_of operand.tree.value,
              pointer_code pointer old mid given from first is points (fills_grown here mid next points grows fills_next),
              integer_code source scope number mid next other operand second is_other points fills_next,
              told here points fills,
            ),
        gives_holds (λ t register. C.Move register from.register (type_in t from.target) is_minus (tree_of operand.tree.value)) from.target next new lowered told (held_target here given from is first.1),
      )) gives grown_on

  pub plus_moved_code : (mode : memory_mode.Mode) (place : Pos) (pointer : memory_value.Value) (number : memory_value.Value) (old mid next new : Builder) (given other : memory_lowered.Lowered)
      (from : PointerValue) (operand : IntegerValue) (result : Result memory_lowered.Lowered AllocError) → ValueLowers source scope N.Kept pointer old mid given
      → ((t : Interned) → lowered_in t given ≡ pointer_in t from) → ValueLowers source scope N.Kept number mid next other → Grows mid next → ((t : Interned) → lowered_in t other ≡ integer_of operand)
      → IfOk result (Lowers (λ t points. MovesPointer points from.register (type_in t from.target) false (tree_of operand.tree.value)) next new) → OnOk result (Grows next new)
      → IfOk result (TypedLowers source scope mode (T.PointerPlus place (value_in (types_of_source source) pointer) (value_in (types_of_source source) number)) old new)
  plus_moved_code mode place pointer number = moved_code false pointer number

  pub minus_moved_code : (mode : memory_mode.Mode) (place : Pos) (pointer : memory_value.Value) (number : memory_value.Value) (old mid next new : Builder) (given other : memory_lowered.Lowered)
      (from : PointerValue) (operand : IntegerValue) (result : Result memory_lowered.Lowered AllocError) → ValueLowers source scope N.Kept pointer old mid given
      → ((t : Interned) → lowered_in t given ≡ pointer_in t from) → ValueLowers source scope N.Kept number mid next other → Grows mid next → ((t : Interned) → lowered_in t other ≡ integer_of operand)
      → IfOk result (Lowers (λ t points. MovesPointer points from.register (type_in t from.target) true (tree_of operand.tree.value)) next new) → OnOk result (Grows next new)
      → IfOk result (TypedLowers source scope mode (T.PointerMinus place (value_in (types_of_source source) pointer) (value_in (types_of_source source) number)) old new)
  minus_moved_code mode place pointer number = moved_code true pointer number

  pub number_plus_code : (mode : memory_mode.Mode) (place : Pos) (number : memory_value.Value) (pointer : memory_value.Value) (old first mid next new : Builder) (other given : memory_lowered.Lowered)
      (operand : IntegerValue) (kept : Tree) (from : PointerValue) (result : Result memory_lowered.Lowered AllocError) → ValueLowers source scope N.Kept number old first other
      → ((t : Interned) → lowered_in t other ≡ integer_of operand) → Leads (λ t points from to. KeepsTree points true (tree_of operand.tree.value) from to kept) first mid → Grows first mid
      → ValueLowers source scope N.Kept pointer mid next given → Grows mid next → ((t : Interned) → lowered_in t given ≡ pointer_in t from)
      → IfOk result (Lowers (λ t points. MovesPointer points from.register (type_in t from.target) false kept) next new) → OnOk result (Grows next new)
      → IfOk result (TypedLowers source scope mode (T.NumberPlus place (value_in (types_of_source source) number) (value_in (types_of_source source) pointer)) old new)
  number_plus_code mode place number pointer old first mid next new other given operand kept from result code is_other keeps kept_grows second grows is gives grown_on =
      let here = types_of_source source in
      if_ok_on (Lowers (λ t points. MovesPointer points from.register (type_in t from.target) false kept) next new) (TypedLowers source scope mode (T.NumberPlus place (value_in (types_of_source source) number) (value_in (types_of_source source) pointer)) old new) result
      (λ lowered told grown. (
        λ points fills.
            let fills_next = fills_grown here next new points grown fills in
            let fills_mid = fills_grown here mid next points grows fills_next in (
              spot_of here first,
              spot_of here mid,
              spot_of here next,
              tree_of operand.tree.value,
              kept,
              operand.int_type,
              from.register,
              type_in here from.target,
              integer_code source scope number old first other operand code is_other points (fills_grown here first mid points kept_grows fills_mid),
              keeps here points fills_mid,
              pointer_code pointer mid next given from second is points fills_next,
              told here points fills,
            ),
        gives_holds (λ t register. C.Move register from.register (type_in t from.target) false kept) from.target next new lowered told (held_target here given from is second.1),
      )) gives grown_on
