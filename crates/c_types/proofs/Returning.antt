-- Values of `return` and of `switch`.
use Rattle.std.proofs.Common.{◌≡◌, Bool, true, false, not, ◌||◌, if◌then◌else◌, List, [], ◌++◌, Option, Some, None, refl, sym, ap, subst, ◌∙◌}
use Rattle.std.proofs.Common.{append-nil}
use Rattle.run_theory.specs.declared.place.Pos.{Pos}
use Rattle.c_num.specs.declared.IntType.{IntType}
use Rattle.c_syntax.specs.Trees.{ExprTree}
use Rattle.c_typed.specs.declared.c_type.CType as number
use Rattle.c_typed.specs.declared.c_type.Shape.{Shape}
use Rattle.c_typed.specs.declared.c_type.Shape.TheVariants as S
use Rattle.c_typed.specs.declared.typed.Value as memory_value
use Rattle.c_typed.specs.Types as Types
use Rattle.c_typed.specs.Types.{CType}
use Rattle.c_typed.specs.Table.{Interned, Stands, type_in, HasShape, shape_type}
use Rattle.c_typed.specs.Views.{value_in, ValueStands}
use Rattle.c_typed.proofs.Grown.{stays}
use Rattle.c_rules.specs.declared.rule.TypeRule.TheVariants as T
use Rattle.c_rules.specs.declared.violation.Violation.{Violation}
use Rattle.c_rules.specs.Names.{Scope}
use Rattle.c_rules.specs.Known.{Checked, Known, at, unless, require, give, with_known, as_value}
use Rattle.c_rules.specs.Operators.{fits, as_integer, integer_rule}
use Rattle.c_rules.specs.Expressions.{expr, place_of}
use Rattle.c_rules.specs.Statements.{returned, label_type}
use Rattle.c_rules.specs.Elaborated.{known_value, known_as, switched}
use Rattle.c_types_state.specs.NameTables.{State, scope_of}
use Rattle.c_types_state.specs.Finding.{AllStand, IsOption, each_in, noted, lesser}
use Rattle.c_types_state.specs.Staying.{IsValue, IsSame}
use Rattle.c_types_state.proofs.Findings.{seen-known}
use Rattle.c_types_state.specs.declared.operands.Operand as memory_operand
use Rattle.c_types_state.specs.Operands.{IsOperand, OperandStands, operand_in}
use Rattle.c_types_expressions.specs.declared.pass.Pass.{Pass}
use Rattle.c_rules.specs.Named.{named_in}
use Rattle.c_types_expressions.specs.Passes.{Passes}
use Rattle.c_types_expressions.proofs.Passing.{with_checker}
use Rattle.c_types.specs.Made.{Makes, IsBoth}
use Rattle.c_types.specs.Parts.{switched_type, switched_value}
use Rattle.c_types.proofs.Covering.{covers-then, covers-same, covers-passes, covers-noted}

-- whether what is known fits a type
abbrev pub fits_known : CType → Option Known → Bool
fits_known c_type None = true
fits_known c_type (Some known) = fits c_type known

-- ---- where violations were noted, and nothing else

noted-table : (s t : State) (xs : List Violation) → t ≡ record s { least = noted s.least xs } → t.table ≡ s.table
noted-table s t xs e = ap (λ (s : State). s.table) e

pub noted-stands : (s t : State) (xs : List Violation) (c_type : number.CType) → t ≡ record s { least = noted s.least xs } → Stands s.table c_type → Stands t.table c_type
noted-stands s t xs c_type e h = subst (λ (table : Interned). Stands table c_type) (sym (noted-table s t xs e)) h

pub noted-all_stand : (s t : State) (xs : List Violation) (operand : Option memory_operand.Operand) → t ≡ record s { least = noted s.least xs } → AllStand OperandStands s.table operand → AllStand OperandStands t.table operand
noted-all_stand s t xs operand e h = subst (λ (table : Interned). AllStand OperandStands table operand) (sym (noted-table s t xs e)) h

-- ---- `return`

found-returned : (place : Pos) (c_type : CType) (part : Checked Known) (here : Pos) → (unless (not (Types.is_void c_type)) T.T22 place ++ part.found) ++ unless (Types.is_void c_type || fits_known c_type part.known) T.T10 here ≡ returned place c_type part here
found-returned place c_type part here = by (Types.is_void c_type) part.known
  where
    by-fits : (known : Known) (b : Bool) → part.found ++ unless b T.T10 here ≡ part.found ++ (require b T.T10 here (give known)).found
    by-fits known true = refl
    by-fits known false = refl

    by : (b : Bool) (k : Option Known) → (unless (not b) T.T22 place ++ part.found) ++ unless (b || fits_known c_type k) T.T10 here ≡ (if b then at T.T22 place ++ part.found else part.found ++ (with_known k (λ known. require (fits c_type known) T.T10 here (give known))).found)
    by true k = append-nil (at T.T22 place ++ part.found)
    by false None = refl
    by false (Some known) = by-fits known (fits c_type known)

module _ (place here : Pos) (tree : ExprTree) (expected : number.CType) (s0 : Pass) {s2 : Pass} {c1 : State} {operand : Option memory_operand.Operand} (void : Bool) (stands : Stands s0.checker.table expected)
    (first : c1 ≡ record s0.checker { least = noted s0.checker.least (unless (not void) T.T22 place) })
    (value : Passes IsOperand (as_value (place_of tree) (expr (scope_of c1) tree)) (named_in (scope_of c1) tree) (with_checker s0 c1) s2 operand) where
  pub returned-stays : Stands s2.checker.table expected × (type_in s2.checker.table expected ≡ type_in s0.checker.table expected)
  returned-stays =
      let kept = stays c1.table s2.checker.table value.finds.grows expected (noted-stands s0.checker c1 (unless (not void) T.T22 place) expected first stands) in
      (kept.0, kept.1 ∙ ap (λ (table : Interned). type_in table expected) (noted-table s0.checker c1 (unless (not void) T.T22 place) first))

  returned-known : each_in operand_in s2.checker.table operand ≡ (as_value (place_of tree) (expr (scope_of s0.checker) tree)).known
  returned-known =
      seen-known OperandStands operand_in s2.checker.table operand _ value.finds.known
      ∙ ap (λ (scope : Scope). (as_value (place_of tree) (expr scope tree)).known) (ap scope_of first)

  pub makes-returned : {c3 : State} {v : memory_value.Value} (holds its : Bool) → here ≡ place_of tree → void ≡ Types.is_void (type_in s0.checker.table expected) → holds ≡ (void || its) → its ≡ fits_known (type_in s2.checker.table expected) (each_in operand_in s2.checker.table operand)
      → c3 ≡ record s2.checker { least = noted s2.checker.least (unless holds T.T10 here) }
      → IsValue c3.table v (known_as here (type_in c3.table expected) (each_in operand_in c3.table operand))
      → Makes IsValue (returned place (type_in s0.checker.table expected) (as_value (place_of tree) (expr (scope_of s0.checker) tree)) (place_of tree)) (known_as (place_of tree) (type_in s0.checker.table expected) (as_value (place_of tree) (expr (scope_of s0.checker) tree)).known) (named_in (scope_of s0.checker) tree) (scope_of s0.checker) s0 (with_checker s2 c3) v
  makes-returned {c3 = c3} {v = v} holds its is is_void e e' last made =
      let scope = scope_of s0.checker in
      let c_type = type_in s0.checker.table expected in
      let part = as_value (place_of tree) (expr scope tree) in
      let one = covers-then (λ scope. (as_value (place_of tree) (expr scope tree)).found) (λ scope. named_in scope tree) (λ scope. scope) (covers-noted {s = s0} {t = with_checker s0 c1} (unless (not void) T.T22 place) first refl) (covers-passes value) in
      let two = covers-then (λ _. unless holds T.T10 here) (λ _. []) (λ scope. scope) one (covers-noted {s = s2} {t = with_checker s2 c3} (unless holds T.T10 here) last refl) in
      let fitting : its ≡ fits_known c_type part.known = e' ∙ (λ i. fits_known (returned-stays.1 i) (returned-known i)) in
      let all : holds ≡ (Types.is_void c_type || fits_known c_type part.known) = e ∙ (λ i. is_void i || fitting i) in
      let same : (unless (not void) T.T22 place ++ part.found) ++ unless holds T.T10 here ≡ (unless (not (Types.is_void c_type)) T.T22 place ++ part.found) ++ unless (Types.is_void c_type || fits_known c_type part.known) T.T10 (place_of tree) =
      (λ i. (unless (not (is_void i)) T.T22 place ++ part.found) ++ unless (all i) T.T10 (is i)) in
      let table = noted-table s2.checker c3 (unless holds T.T10 here) last in
      record {
        covers = covers-same (same ∙ found-returned place c_type part (place_of tree)) (append-nil (named_in scope tree)) refl two;
        made = (
          made.0,
          made.1
              ∙ (λ i. known_as (is i) (type_in (table i) expected) (each_in operand_in (table i) operand))
              ∙ (λ i. known_as (place_of tree) (returned-stays.1 i) (returned-known i)),
        );
      }

-- ---- `switch`

not_integer : (table : Interned) (shape : Shape) → ((x : IntType) → shape ≡ S.Integer x → ⊥) → Types.is_integer (shape_type table shape) ≡ false
not_integer table S.Void absent = refl
not_integer table (S.Integer x) absent = absurd (absent x refl)
not_integer table (S.Pointer target) absent = refl
not_integer table (S.Array element length) absent = refl
not_integer table (S.Struct id) absent = refl
not_integer table (S.Function result parameters) absent = refl

module _ (tree : ExprTree) (here : Pos) (is : here ≡ place_of tree) {s0 s2 : Pass} {c3 : State} where
  pub makes-no_integer : (o : Option memory_operand.Operand) (operand : memory_operand.Operand) (shape : Shape) → o ≡ Some operand
      → Passes IsOperand (as_value (place_of tree) (expr (scope_of s0.checker) tree)) (named_in (scope_of s0.checker) tree) s0 s2 o
      → HasShape s2.checker.table (type_in s2.checker.table operand.c_type) shape → ((x : IntType) → shape ≡ S.Integer x → ⊥)
      → c3 ≡ record s2.checker { least = lesser s2.checker.least (record { kind = T.T07; place = here }) }
      → Makes (IsBoth IsValue (IsSame {A = Option IntType})) (as_integer (place_of tree) (expr (scope_of s0.checker) tree)).found (switched_value (scope_of s0.checker) tree, switched_type (scope_of s0.checker) tree) (named_in (scope_of s0.checker) tree) (scope_of s0.checker) s0 (with_checker s2 c3) (operand.value.value, None)
  makes-no_integer o operand shape e passes has absent last =
      let scope = scope_of s0.checker in
      let part = as_value (place_of tree) (expr scope tree) in
      let known = by part.known (subst (λ (o : Option memory_operand.Operand). IsOption (IsOperand s2.checker.table) o part.known) e passes.finds.known) in
      let both = covers-then (λ _. at T.T07 here) (λ _. []) (λ scope. scope) (covers-passes passes) (covers-noted {s = s2} {t = with_checker s2 c3} (at T.T07 here) last refl) in
      let table = noted-table s2.checker c3 (at T.T07 here) last in
      record {
        covers = covers-same ((λ i. part.found ++ at T.T07 (is i)) ∙ ap (λ xs. part.found ++ xs) (sym known.0)) (append-nil (named_in scope tree)) refl both;
        made = (
          (
            subst (λ (table : Interned). ValueStands table operand.value.value) (sym table) known.3,
            (λ i. value_in (table i) operand.value.value) ∙ sym known.2 ∙ (λ i. switched (sym known.1 i) (known_value part.known)),
          ),
          sym known.1,
        );
      }
    where
      refused : (k : Known) → Types.is_integer k.c_type ≡ false → ((integer_rule (place_of tree) k).found ≡ at T.T07 (place_of tree)) × (label_type (integer_rule (place_of tree) k).known ≡ None)
      refused k none = ((λ i. (require (none i) T.T07 (place_of tree) (give k)).found), (λ i. label_type (require (none i) T.T07 (place_of tree) (give k)).known))

      by : (k : Option Known) → IsOption (IsOperand s2.checker.table) (Some operand) k → ((with_known k (integer_rule (place_of tree))).found ≡ at T.T07 (place_of tree)) × (label_type (with_known k (integer_rule (place_of tree))).known ≡ None) × (known_value k ≡ value_in s2.checker.table operand.value.value) × ValueStands s2.checker.table operand.value.value
      by None h = absurd h
      by (Some k) h =
          let none : Types.is_integer k.c_type ≡ false = ap (λ (k : Known). Types.is_integer k.c_type) (sym h.1) ∙ ap Types.is_integer has.means ∙ not_integer s2.checker.table shape absent in
          let both = refused k none in
          (both.0, both.1, ap (λ (k : Known). known_value (Some k)) (sym h.1), h.0.1)
