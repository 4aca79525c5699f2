-- What the code of a value comes to where it stands in a statement.
use Rattle.std.proofs.Common.{◌≡◌, Bool, true, List, Option, Some, None, refl, sym, ap, ◌∙◌, subst, Result, Ok, Err, OnOk}
use Rattle.std.specs.Prelude.{is_some}
use Rattle.std.proofs.lemmas.Bool.{false≢true, true≢false, and_parts}
use Rattle.c_typed.specs.declared.typed.Value as memory_value
use Rattle.c_typed.specs.Types.{CType, same_type, is_integer}
use Rattle.c_typed.specs.Table.{Interned}
use Rattle.c_typed.specs.Typed as T
use Rattle.c_typed.specs.Views.{value_in}
use Rattle.c_typed.specs.StatementViews.{optional_value_in}
use Rattle.c_typed.proofs.Same.{same_type-true}
use Rattle.c_typed.specs.Expressions.{is_scalar, type_of}
use Rattle.c_typed.specs.Statements.{holds_for, is_of_type}
use Rattle.tac_ir.specs.declared.op.Operand as memory_operand
use Rattle.tac_ir.specs.declared.register.Register.{Register}
use Rattle.tac_ir.specs.declared.register.Register.TheVariants as R
use Rattle.tac_ir.specs.declared.tree.Tree as memory_tree
use Rattle.tac_ir.specs.Code as C
use Rattle.tac_ir.specs.Code.{Op}
use Rattle.tac_ir.specs.Views.{tree_of, operand_of}
use Rattle.tac_build.specs.declared.builder.Builder.{Builder}
use Rattle.tac_build.specs.declared.names.Source.{Source}
use Rattle.tac_build.specs.declared.homes.Home as memory_home
use Rattle.tac_build.specs.declared.lowered.Lowered as memory_lowered
use Rattle.tac_build.specs.declared.lowered.Lowered.TheVariants as L
use Rattle.tac_build.specs.declared.lowered.IntegerValue.{IntegerValue}
use Rattle.tac_build.specs.declared.lowered.Mode as memory_mode
use Rattle.tac_build.specs.declared.lowered.Mode.TheVariants as N
use Rattle.tac_build.specs.Spots.{Spot, with_temporary, Lowered, AsInteger, AsPointer, AsObject, AsNothing, Kept}
use Rattle.tac_build.specs.Code.{Emits, ValueCode}
use Rattle.tac_build.specs.StatementCode.{ReturnCode, StmtCode}
use Rattle.tac_build.specs.Forms.{HasForm}
use Rattle.tac_build.specs.Building.{lowered_in, integer_of, mode_of, IsInteger, IsScalar, Grows, points_in, spot_of, Leads}
use Rattle.tac_build.specs.Lowering.{program_in, types_of_source, scope_of, context_in, ValueTyped, ValueLowers}
use Rattle.tac_build.specs.LoweringStatements.{ConditionTyped, StepTyped, ReturnTyped, OwnLowers, SwitchedLowers, IsOperand}
use Rattle.tac_build.proofs.Points.{fills_same, fills_grown, fills_equal, named_then}
use Rattle.tac_build.proofs.Forms.{value_form}
use Rattle.tac_build.proofs.Named.{value_named}

-- ---- results that are passed on

pub on_ok_both : {A : Type 0} → {E : Type 0} → {P : Type 0} → {Q : Type 0} → {R : Type 0} → (result : Result A E) → (P → Q → R) → OnOk result P → OnOk result Q → OnOk result R
on_ok_both (Ok a) f p q = f p q
on_ok_both (Err e) f p q = tt

-- ---- variables

-- code of a value declares no variable
pub value_keeps : (source : Source) (scope : List memory_home.Home) (mode : memory_mode.Mode) (value : memory_value.Value) (old new : Builder) (lowered : memory_lowered.Lowered) → ValueLowers source scope mode value old new lowered
    → new.counts.variables ≡ old.counts.variables
value_keeps source scope mode value old new lowered lowers =
    let table = types_of_source source in
    let points = points_in table new in
    (value_named (program_in source) points (scope_of source scope) (value_in table value) (mode_of mode) (spot_of table old) (spot_of table new) (lowered_in table lowered) (lowers.0 points (fills_same points))).grows.variables

-- ---- types

holding : (test : CType → Bool) (known : Option CType) → holds_for test known ≡ true → (t : CType) × (known ≡ Some t) × (test t ≡ true)
holding test (Some t) h = (t, refl, h)
holding test None h = absurd (false≢true h)

pub known_type : (known : Option CType) → is_some known ≡ true → (t : CType) × (known ≡ Some t)
known_type (Some t) h = (t, refl)
known_type None h = absurd (false≢true h)

pub condition_typed : (source : Source) (scope : List memory_home.Home) (value : memory_value.Value) → ConditionTyped source scope value → ValueTyped source scope value
condition_typed source scope value typed =
    let known = holding is_integer (type_of (context_in source scope) (value_in (types_of_source source) value)) typed.typed in
    record { stands = typed.stands; c_type = known.0; typed = known.1 }

pub step_typed : (source : Source) (scope : List memory_home.Home) (value : Option memory_value.Value) (some : memory_value.Value) → value ≡ Some some → StepTyped source scope value → ValueTyped source scope some
step_typed source scope value some is typed =
    let given = subst (λ value. StepTyped source scope value) is typed in
    let known = known_type (type_of (context_in source scope) (value_in (types_of_source source) some)) given.typed in
    record { stands = given.stands; c_type = known.0; typed = known.1 }

record Returns (source : Source) (scope : List memory_home.Home) (value : memory_value.Value) : Type 0 where
  typed : ValueTyped source scope value
  scalar : is_scalar typed.c_type ≡ true

returns_scalar : (source : Source) (scope : List memory_home.Home) (returned : CType) (value : Option memory_value.Value) (some : memory_value.Value) → value ≡ Some some → ReturnTyped source scope returned value → Returns source scope some
returns_scalar source scope returned value some is typed =
    let given = subst (λ value. ReturnTyped source scope returned value) is typed in
    let tree = value_in (types_of_source source) some in
    let parts = and_parts (is_scalar returned) (is_of_type (context_in source scope) returned tree) given.typed in
    let known = holding (same_type returned) (type_of (context_in source scope) tree) parts.1 in
    record {
      typed = record { stands = given.stands; c_type = known.0; typed = known.1 };
      scalar = subst (λ t. is_scalar t ≡ true) (same_type-true returned known.0 known.2) parts.0;
    }

pub returned_typed : (source : Source) (scope : List memory_home.Home) (returned : CType) (value : Option memory_value.Value) (some : memory_value.Value) → value ≡ Some some → ReturnTyped source scope returned value → ValueTyped source scope some
returned_typed source scope returned value some is typed = (returns_scalar source scope returned value some is typed).typed

-- ---- kinds

integer_form : (table : Interned) (lowered : memory_lowered.Lowered) (t : CType) → is_integer t ≡ true → HasForm Kept (lowered_in table lowered) t → IsInteger lowered
integer_form table (L.Integer own tree) t is form = tt
integer_form table (L.Pointer register target) t is form = absurd (true≢false (sym is ∙ ap is_integer form))
integer_form table (L.Object path own) t is form = absurd form
integer_form table L.Nothing t is form = absurd (true≢false (sym is ∙ ap is_integer form))

scalar_form : (table : Interned) (lowered : memory_lowered.Lowered) (t : CType) → is_scalar t ≡ true → HasForm Kept (lowered_in table lowered) t → IsScalar lowered
scalar_form table (L.Integer own tree) t is form = tt
scalar_form table (L.Pointer register target) t is form = tt
scalar_form table (L.Object path own) t is form = absurd form
scalar_form table L.Nothing t is form = absurd (true≢false (sym is ∙ ap is_scalar form))

form_of : (source : Source) (scope : List memory_home.Home) (value : memory_value.Value) (t : CType) (old new : Builder) (lowered : memory_lowered.Lowered) → type_of (context_in source scope) (value_in (types_of_source source) value) ≡ Some t
    → ValueLowers source scope N.Kept value old new lowered → HasForm Kept (lowered_in (types_of_source source) lowered) t
form_of source scope value t old new lowered typed lowers =
    let table = types_of_source source in
    let points = points_in table new in
    value_form (program_in source) points (scope_of source scope) (value_in table value) Kept t (spot_of table old) (spot_of table new) (lowered_in table lowered) typed (lowers.0 points (fills_same points))

-- a condition is an integer
pub condition_integer : (source : Source) (scope : List memory_home.Home) (value : memory_value.Value) (old new : Builder) (lowered : memory_lowered.Lowered) → ConditionTyped source scope value → ValueLowers source scope N.Kept value old new lowered
    → IsInteger lowered
condition_integer source scope value old new lowered typed lowers =
    let known = holding is_integer (type_of (context_in source scope) (value_in (types_of_source source) value)) typed.typed in
    integer_form (types_of_source source) lowered known.0 known.2 (form_of source scope value known.0 old new lowered known.1 lowers)

-- what is returned is an integer or a pointer
pub returned_scalar : (source : Source) (scope : List memory_home.Home) (returned : CType) (value : Option memory_value.Value) (some : memory_value.Value) (old new : Builder) (lowered : memory_lowered.Lowered) → value ≡ Some some
    → ReturnTyped source scope returned value → ValueLowers source scope N.Kept some old new lowered → IsScalar lowered
returned_scalar source scope returned value some old new lowered is typed lowers =
    let returns = returns_scalar source scope returned value some is typed in
    scalar_form (types_of_source source) lowered returns.typed.c_type returns.scalar (form_of source scope some returns.typed.c_type old new lowered returns.typed.typed lowers)

-- ---- `return`

return_code : (source : Source) (points : List Op) (from to : Spot) (lowered : Lowered) (operand : C.Operand) → IsOperand lowered operand → Emits points (C.Return (Some operand)) from to → ReturnCode (program_in source) points lowered from to
return_code source points from to (AsInteger own tree) operand is emits = subst (λ operand. Emits points (C.Return (Some operand)) from to) is emits
return_code source points from to (AsPointer register target) operand is emits = subst (λ operand. Emits points (C.Return (Some operand)) from to) is emits
return_code source points from to (AsObject path own) operand is emits = absurd is
return_code source points from to AsNothing operand is emits = absurd is

pub returned_lowers : (source : Source) (scope : List memory_home.Home) (value : Option memory_value.Value) (some : memory_value.Value) (old mid new : Builder) (lowered : memory_lowered.Lowered) (operand : memory_operand.Operand) → value ≡ Some some
    → ValueLowers source scope N.Kept some old mid lowered → ((table : Interned) → IsOperand (lowered_in table lowered) (operand_of operand))
    → Leads (λ table points. Emits points (C.Return (Some (operand_of operand)))) mid new → Grows mid new
    → OwnLowers source scope (T.Return (optional_value_in (types_of_source source) value)) old new
returned_lowers source scope value some old mid new lowered operand is lowers is_operand emits grows = λ points fills ways.
    let table = types_of_source source in
    let before = fills_grown table mid new points grows fills in
    let returned = return_code source points (spot_of table mid) (spot_of table new) (lowered_in table lowered) (operand_of operand) (is_operand table) (emits table points fills) in
    subst (λ value. StmtCode (program_in source) points (scope_of source scope) (T.Return (optional_value_in table value)) (spot_of table old) (spot_of table new) ways) (sym is)
    (spot_of table mid, lowered_in table lowered, lowers.0 points before, returned)

-- ---- the value of a `switch`

pub switched_lowers : (source : Source) (scope : List memory_home.Home) (value : memory_value.Value) (old found named new : Builder) (lowered : memory_lowered.Lowered) (integer : IntegerValue) (register : Register) (tree : memory_tree.Tree)
    → ValueLowers source scope N.Kept value old found lowered → ((table : Interned) → lowered_in table lowered ≡ integer_of integer)
    → register ≡ R.Temporary found.counts.temporaries → named.points.items ≡ found.points.items → ((table : Interned) → spot_of table named ≡ with_temporary (spot_of table found))
    → tree ≡ integer.tree.value → Leads (λ table points. Emits points (C.Assign register (tree_of tree))) named new → Grows named new
    → SwitchedLowers source scope value old new (record { register = register; int_type = integer.int_type })
switched_lowers source scope value old found named new lowered integer register tree lowers is_integer is_register same spot is_tree emits grows = λ points fills.
    let table = types_of_source source in
    let at_named = fills_grown table named new points grows fills in
    let at_found = fills_equal table found named points same at_named in
    let assigned = named_then table found named new points (C.Assign register (tree_of tree)) same (spot table) (emits table points fills) in
    let code = subst (λ lowered. ValueCode (program_in source) points (scope_of source scope) Kept (value_in table value) (spot_of table old) (spot_of table found) lowered) (is_integer table) (lowers.0 points at_found) in
    (spot_of table found, tree_of integer.tree.value, code, assigned.0 ∙ (λ i. Some (C.Assign (is_register i) (tree_of (is_tree i)))), is_register, assigned.1)
