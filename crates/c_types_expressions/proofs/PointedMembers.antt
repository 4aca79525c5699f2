-- What is found of a member of what a pointer points to.
use Rattle.std.proofs.Common.{◌≡◌, Bool, true, Option, Some, None, refl, sym, subst, ◌∙◌}
use Rattle.run_theory.specs.declared.place.Pos.{Pos}
use Rattle.c_syntax.specs.Trees.{NameTree}
use Rattle.c_rules.specs.declared.rule.TypeRule.TheVariants as T
use Rattle.c_typed.specs.declared.c_type.CType as number
use Rattle.c_typed.specs.declared.typed.Object as memory_object
use Rattle.c_typed.specs.declared.typed.Object.TheVariants as O
use Rattle.c_typed.specs.Typed as typed
use Rattle.c_typed.specs.Table.{Interned, Stands, type_in}
use Rattle.c_typed.specs.Views.{value_in, object_in, ObjectStands}
use Rattle.c_types_state.specs.declared.known.Address as memory_address
use Rattle.c_types_state.specs.declared.known.Known as memory_known
use Rattle.c_rules.specs.Known.{Checked, Known, unless, object_at}
use Rattle.c_rules.specs.Constants.{member_address}
use Rattle.c_rules.specs.Operators.{is_pointer_to_complete, target_of, member_of, pointer_member}
use Rattle.c_types_state.specs.NameTables.{State, scope_of}
use Rattle.c_types_state.specs.Finding.{noted, Finds, IsExpr, AddressStands, address_in}
use Rattle.c_types_state.proofs.Findings.{finds-give}
use Rattle.c_types_state.specs.declared.operands.Operand as memory_operand
use Rattle.c_types_expressions.specs.declared.members.Found as found
use Rattle.c_types_state.specs.Operands.{operand_in, OperandStands}
use Rattle.c_types_expressions.specs.Members.{IsMemberOf}
use Rattle.c_types_state.proofs.Steps.{passes, unchanged}

module _ (s t u : State) (whole : Pos) (member : NameTree) (pointer : memory_operand.Operand) (target : number.CType) (result : Option found.Found) (complete asked : Bool) (tested : complete ≡ is_pointer_to_complete (scope_of s) (type_in s.table pointer.c_type)) (answered : asked ≡ complete) (e : t ≡ record s { least = noted s.least (unless complete T.T14 whole) }) (held : asked ≡ true) (pointed : type_in t.table target ≡ target_of (type_in t.table pointer.c_type)) (looked : IsMemberOf t u whole (type_in t.table target) member result) where
  same : t ≡ s
  same = unchanged T.T14 whole answered held e

  -- the rule behind its test
  abbrev pub behind : State → Checked Known
  behind x = member_of (scope_of x) whole (target_of (type_in x.table pointer.c_type)) (typed.PointedMember whole (value_in x.table pointer.value.value)) (address_in x.table pointer.address) member

  passed : (r : Option memory_known.Known) → Finds IsExpr (member_of (scope_of t) whole (type_in t.table target) (typed.PointedMember whole (value_in t.table pointer.value.value)) (address_in t.table pointer.address) member) t u r → Finds IsExpr (pointer_member (scope_of s) whole member (operand_in s.table pointer)) s u r
  passed r f =
      let there : Finds IsExpr (behind t) t u r =
      subst (λ c. Finds IsExpr (member_of (scope_of t) whole c (typed.PointedMember whole (value_in t.table pointer.value.value)) (address_in t.table pointer.address) member) t u r) pointed f in
      passes (is_pointer_to_complete (scope_of s) (type_in s.table pointer.c_type)) T.T14 whole (behind s) tested answered held e
      (subst (λ (x : State). Finds IsExpr (behind x) t u r) same there)

  pub pointer-missing : ((one : found.Found) → result ≡ Some one → ⊥) → Finds IsExpr (pointer_member (scope_of s) whole member (operand_in s.table pointer)) s u None
  pointer-missing none = by result none looked
    where
      by : (r : Option found.Found) → ((one : found.Found) → r ≡ Some one → ⊥) → IsMemberOf t u whole (type_in t.table target) member r → Finds IsExpr (pointer_member (scope_of s) whole member (operand_in s.table pointer)) s u None
      by (Some one) none h = absurd (none one refl)
      by None none h = passed None (h (typed.PointedMember whole (value_in t.table pointer.value.value)) (address_in t.table pointer.address))

  pub pointer-found : (one : found.Found) (object : memory_object.Object) (address : memory_address.Address) (made : memory_known.Known) → result ≡ Some one → object ≡ O.PointedMember whole pointer.value one.number → OperandStands s.table pointer → ((table : Interned) → Stands table one.c_type → AddressStands table address) → ((table : Interned) → address_in table address ≡ member_address (address_in table pointer.address) one.number (type_in table one.c_type)) → ((table : Interned) → Stands table one.c_type → ObjectStands table object → AddressStands table address → IsExpr table made (object_at (type_in table one.c_type) (object_in table object) (address_in table address))) → Finds IsExpr (pointer_member (scope_of s) whole member (operand_in s.table pointer)) s u (Some made)
  pointer-found one object address made is box stands there moved makes =
      let h : IsMemberOf t u whole (type_in t.table target) member (Some one) = subst (IsMemberOf t u whole (type_in t.table target) member) is looked in
      let its = subst (λ (x : State). OperandStands x.table pointer) (sym same) stands in
      let m = makes t.table h.1 (subst (ObjectStands t.table) (sym box) its.1) (there t.table h.1) in
      let known : IsExpr t.table made (object_at (type_in t.table one.c_type) (typed.PointedMember whole (value_in t.table pointer.value.value) one.number) (member_address (address_in t.table pointer.address) one.number (type_in t.table one.c_type))) =
      (m.0, m.1 ∙ (λ i. object_at (type_in t.table one.c_type) (object_in t.table (box i)) (moved t.table i))) in
      let given : Finds IsExpr (member_of (scope_of t) whole (type_in t.table target) (typed.PointedMember whole (value_in t.table pointer.value.value)) (address_in t.table pointer.address) member) t t (Some made) =
      subst (λ rule. Finds IsExpr rule t t (Some made)) (sym (h.2 (typed.PointedMember whole (value_in t.table pointer.value.value)) (address_in t.table pointer.address))) (finds-give known) in
      passed (Some made)
      (subst (λ (x : State). Finds IsExpr (member_of (scope_of t) whole (type_in t.table target) (typed.PointedMember whole (value_in t.table pointer.value.value)) (address_in t.table pointer.address) member) t x (Some made)) (sym h.0) given)
