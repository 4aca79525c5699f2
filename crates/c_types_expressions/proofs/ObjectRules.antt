-- What is found of an expression that is to be an object.
use Rattle.std.proofs.Common.{◌≡◌, Box, Global, Option, Some, None, refl, sym, subst, ◌∙◌}
use Rattle.run_theory.specs.declared.place.Pos.{Pos}
use Rattle.c_rules.specs.declared.rule.TypeRule.TheVariants as T
use Rattle.c_typed.specs.declared.c_type.CType as number
use Rattle.c_typed.specs.declared.c_type.Shape.{Shape}
use Rattle.c_typed.specs.declared.c_type.Shape.TheVariants as S
use Rattle.c_typed.specs.declared.typed.Stepping.{Stepping}
use Rattle.c_typed.specs.declared.typed.Value as memory_value
use Rattle.c_typed.specs.declared.typed.Value.TheVariants as V
use Rattle.c_typed.specs.declared.typed.Object as memory_object
use Rattle.c_typed.specs.declared.typed.Designator as memory_designator
use Rattle.c_typed.specs.Types.{Pointer}
use Rattle.c_typed.specs.Typed as typed
use Rattle.c_typed.specs.Table.{Interned, Stands, type_in, shape_type}
use Rattle.c_typed.specs.Views.{value_in, object_in, ValueStands}
use Rattle.c_typed.proofs.TypedStays.{value_stays}
use Rattle.c_types_state.specs.declared.known.TypedExpr as memory_typed
use Rattle.c_types_state.specs.declared.known.TypedExpr.TheVariants as E
use Rattle.c_types_state.specs.declared.known.Address as memory_address
use Rattle.c_types_state.specs.declared.known.Known as memory_known
use Rattle.c_rules.specs.Known.{Known, give, value_of_type}
use Rattle.c_rules.specs.Operators as rules
use Rattle.c_rules.specs.Operators.{address_of, step_value}
use Rattle.c_types_state.specs.NameTables.{State}
use Rattle.c_types_state.specs.Finding.{lesser, Finds, IsExpr, IsType, IsOption, expr_in, TypedStands, typed_in, AddressStands, address_in}
use Rattle.c_types_state.proofs.Findings.{finds-refuse-lesser, address_stays}
use Rattle.c_types_state.specs.declared.operands.Operand as memory_operand
use Rattle.c_types_state.specs.Operands.{IsOperand, operand_in, OperandStands}

-- ---- the address of an object or a function

module _ (whole : Pos) (s t : State) (known : memory_known.Known) where
  pub address-other : ((object : Box memory_object.Object Global) → known.typed ≡ E.Object object → ⊥) → ((function : Box memory_designator.Designator Global) → known.typed ≡ E.Function function → ⊥) → t ≡ record s { least = lesser s.least (record { kind = T.T09; place = whole }) } → Finds IsOperand (address_of whole (expr_in s.table known)) s t None
  address-other none none' e = by known.typed none none'
    where
      by : (tree : memory_typed.TypedExpr) → ((object : Box memory_object.Object Global) → tree ≡ E.Object object → ⊥) → ((function : Box memory_designator.Designator Global) → tree ≡ E.Function function → ⊥) → Finds IsOperand (rules.address_in whole (expr_in s.table known) (typed_in s.table tree)) s t None
      by (E.Value value) none none' = finds-refuse-lesser T.T09 whole e
      by (E.Object object) none none' = absurd (none object refl)
      by (E.Function function) none none' = absurd (none' function refl)
      by (E.Library function groups) none none' = finds-refuse-lesser T.T09 whole e

  module _ (v : memory_value.Value) (r : Option memory_operand.Operand) (found : Finds IsOperand (give (record (value_of_type (Pointer (type_in s.table known.c_type)) (value_in s.table v)) { address = address_in s.table known.address })) s t r) where
    pub address-object : (object : Box memory_object.Object Global) → known.typed ≡ E.Object object → v ≡ V.AddressOf whole object → Finds IsOperand (address_of whole (expr_in s.table known)) s t r
    address-object object is same =
        subst (λ tree. Finds IsOperand (rules.address_in whole (expr_in s.table known) (typed_in s.table tree)) s t r) (sym is)
        (subst (λ (v : memory_value.Value). Finds IsOperand (give (record (value_of_type (Pointer (type_in s.table known.c_type)) (value_in s.table v)) { address = address_in s.table known.address })) s t r) same found)

    pub address-function : (function : Box memory_designator.Designator Global) → known.typed ≡ E.Function function → v ≡ V.AddressOfFunction function → Finds IsOperand (address_of whole (expr_in s.table known)) s t r
    address-function function is same =
        subst (λ tree. Finds IsOperand (rules.address_in whole (expr_in s.table known) (typed_in s.table tree)) s t r) (sym is)
        (subst (λ (v : memory_value.Value). Finds IsOperand (give (record (value_of_type (Pointer (type_in s.table known.c_type)) (value_in s.table v)) { address = address_in s.table known.address })) s t r) same found)

pub object-stands : (table : Interned) (place : Pos) (tree : memory_typed.TypedExpr) (object : Box memory_object.Object Global) (v : memory_value.Value) → tree ≡ E.Object object → v ≡ V.AddressOf place object → TypedStands table tree → ValueStands table v
object-stands table place tree object v is same h = subst (ValueStands table) (sym same) (subst (TypedStands table) is h)

pub function-stands : (table : Interned) (tree : memory_typed.TypedExpr) (function : Box memory_designator.Designator Global) (v : memory_value.Value) → tree ≡ E.Function function → v ≡ V.AddressOfFunction function → TypedStands table tree → ValueStands table v
function-stands table tree function v is same h = subst (ValueStands table) (sym same) (subst (TypedStands table) is h)

-- a pointer whose type may have been made for it
pub pointer-made : (s t : State) (target : number.CType) (value : Box memory_value.Value Global) (address : memory_address.Address) (c_type : number.CType) (base : memory_operand.Operand) → ValueStands s.table value.value → AddressStands s.table address → Finds IsType (give (Pointer (type_in s.table target))) s t (Some c_type) → ((table : Interned) → Stands table c_type → ValueStands table value.value → IsOperand table base (value_of_type (type_in table c_type) (value_in table value.value))) → Finds IsOperand (give (record (value_of_type (Pointer (type_in s.table target)) (value_in s.table value.value)) { address = address_in s.table address })) s t (Some (record base { address = address }))
pointer-made s t target value address c_type base stands there f made =
    let v = value_stays s.table t.table f.grows value.value stands in
    let a = address_stays s.table t.table f.grows address there in
    let m = made t.table f.known.0 v.0 in
    let first : operand_in t.table (record base { address = address }) ≡ record (value_of_type (type_in t.table c_type) (value_in t.table value.value)) { address = address_in s.table address } = λ i. record (m.1 i) { address = a.1 i } in
    let second : record (value_of_type (type_in t.table c_type) (value_in t.table value.value)) { address = address_in s.table address } ≡ record (value_of_type (Pointer (type_in s.table target)) (value_in s.table value.value)) { address = address_in s.table address } =
    λ i. record (value_of_type (f.known.1 i) (v.1 i)) { address = address_in s.table address } in
    record { grows = f.grows; scope = f.scope; least = f.least; known = ((m.0.0, m.0.1, a.0), first ∙ second) }

-- ---- other trees

pub no_object : (table : Interned) (tree : memory_typed.TypedExpr) → ((object : Box memory_object.Object Global) → tree ≡ E.Object object → ⊥) → typed.Local 0 ≡ rules.object_in (typed_in table tree)
no_object table (E.Value value) none = refl
no_object table (E.Object object) none = absurd (none object refl)
no_object table (E.Function function) none = refl
no_object table (E.Library function groups) none = refl

pub step-other : (table : Interned) (stepping : Stepping) (place : Pos) (shape : Shape) (object : memory_object.Object) → ((int_type : _) → shape ≡ S.Integer int_type → ⊥) → typed.StepPointer stepping place (object_in table object) ≡ step_value stepping place (shape_type table shape) (object_in table object)
step-other table stepping place shape object none = by shape none
  where
    by : (sh : Shape) → ((int_type : _) → sh ≡ S.Integer int_type → ⊥) → typed.StepPointer stepping place (object_in table object) ≡ step_value stepping place (shape_type table sh) (object_in table object)
    by S.Void none = refl
    by (S.Integer i) none = absurd (none i refl)
    by (S.Pointer target) none = refl
    by (S.Array element length) none = refl
    by (S.Struct id) none = refl
    by (S.Function result parameters) none = refl

-- ---- an operand as an expression

pub shown-some : (operand : Option memory_operand.Operand) (one : memory_operand.Operand) (expr : memory_known.Known) → operand ≡ Some one → ((table : Interned) → OperandStands table one → IsExpr table expr (operand_in table one)) → (table : Interned) (k : Option Known) → IsOption (IsOperand table) operand k → IsOption (IsExpr table) (Some expr) k
shown-some operand one expr e shows table k h = by k (subst (λ o. IsOption (IsOperand table) o k) e h)
  where
    by : (k : Option Known) → IsOption (IsOperand table) (Some one) k → IsOption (IsExpr table) (Some expr) k
    by None h = absurd h
    by (Some known) h = let m = shows table h.0 in (m.0, m.1 ∙ h.1)

pub shown-none : (operand : Option memory_operand.Operand) → operand ≡ None → (table : Interned) (k : Option Known) → IsOption (IsOperand table) operand k → IsOption (IsExpr table) None k
shown-none operand e table k h = by k (subst (λ o. IsOption (IsOperand table) o k) e h)
  where
    by : (k : Option Known) → IsOption (IsOperand table) None k → IsOption (IsExpr table) None k
    by None h = tt
    by (Some known) h = absurd h
