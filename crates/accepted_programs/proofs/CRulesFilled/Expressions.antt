-- Expressions have filled types where those are that they name.
use Rattle.std.proofs.Common.{◌≡◌, true, List, length, Option, Some, None, refl}
use Rattle.run_theory.specs.declared.place.Pos.{Pos}
use Rattle.c_syntax.specs.Trees
use Rattle.c_syntax.specs.Trees.{ExprTree, ArgumentsTree}
use Rattle.c_typed.specs.Types.{CType}
use Rattle.c_typed.specs.Layouts.{StructDef}
use Rattle.c_typed.specs.declared.typed.Stepping.TheVariants as S
use Rattle.c_typed.specs.Sizes.{makes, fills}
use Rattle.c_rules.specs.Names.{Scope}
use Rattle.c_rules.specs.Known.{Checked, Known, as_value}
use Rattle.c_rules.specs.Operators
use Rattle.c_rules.specs.Operators.{as_condition}
use Rattle.c_rules.specs.Expressions.{place_of, expr, argument_values, type_named, type_place, library_called}
use Rattle.c_rules.specs.Elaborated.{known_value, condition_test, value_of, unused, test_of, known_as, value_as}
use Rattle.accepted_programs.specs.Knows.{IfKnown, Knows, Every}
use Rattle.accepted_programs.specs.Whole.{IsWhole, FilledNames, KnownFilled, ArgumentFilled}
use Rattle.accepted_programs.proofs.CRulesFilled.Holding.{gives, of_part, of_two, of_three}
use Rattle.accepted_programs.proofs.CRulesFilled.Types.{literal_filled}
use Rattle.accepted_programs.proofs.Declared.{type_whole}
use Rattle.accepted_programs.proofs.CRulesFilled.Operands.{TestFilled, in_filled, grouped_filled, as_value_filled, as_condition_filled, converted_filled, named_filled}
use Rattle.accepted_programs.proofs.CRulesFilled.Operators.{indexed_filled, object_member_filled, pointer_member_filled, stepped_filled, prefixed_filled, size_filled, cast_filled, binary_filled, choice_filled, assigned_filled, dropped_filled}
use Rattle.accepted_programs.proofs.CRulesFilled.Calls.{call_filled, library_called_filled}

module _ (structs : List StructDef) where
  -- ---- the rules

  abbrev Filled : Checked Known → Type 0
  Filled checked = Knows (KnownFilled structs) checked

  module _ (scope : Scope) (names : FilledNames structs scope) where
    mutual
      pub expr_filled : (e : ExprTree) → Knows (KnownFilled structs) (expr scope e)
      expr_filled (Trees.Named name) = named_filled structs scope names name
      expr_filled (Trees.Integer value n place) = gives _ (refl, refl)
      expr_filled (Trees.Character byte place) = gives _ (refl, refl)
      expr_filled (Trees.Literal bytes place) = gives _ (literal_filled structs (length bytes), refl)
      expr_filled (Trees.Null place) = gives _ (refl, refl)
      expr_filled (Trees.EndOfFile place) = gives _ (refl, refl)
      expr_filled (Trees.Parenthesized place inner) =
          of_part (KnownFilled structs) (KnownFilled structs) (expr scope inner) _ (expr_filled inner) (λ known is. gives _ (is.0, grouped_filled structs (place_of inner) known.typed is.1))
      expr_filled (Trees.Index array index) =
          let one = expr_filled array in
          let other = expr_filled index in
          of_two (KnownFilled structs) (KnownFilled structs) (KnownFilled structs) (as_value (place_of array) (expr scope array)) (as_value (place_of index) (expr scope index)) (Operators.indexed scope (place_of array) (place_of index))
          (as_value_filled structs (place_of array) (expr scope array) one) (as_value_filled structs (place_of index) (expr scope index) other)
          (λ a b a_is b_is. indexed_filled structs scope (place_of array) (place_of index) a b a_is b_is)
      expr_filled (Trees.Call function open_place arguments) =
          let one = expr_filled function in
          call_filled structs (place_of function) (library_called scope 0 function (expr scope function)) (argument_values scope arguments)
          (library_called_filled structs scope names 0 function (expr scope function) one)
          (arguments_filled arguments)
      expr_filled (Trees.Member object member) =
          of_part (KnownFilled structs) (KnownFilled structs) (expr scope object) (Operators.object_member scope (place_of object) member) (expr_filled object) (λ known is. object_member_filled structs scope names (place_of object) member known is)
      expr_filled (Trees.PointerMember pointer member) =
          of_part (KnownFilled structs) (KnownFilled structs) (as_value (place_of pointer) (expr scope pointer)) (Operators.pointer_member scope (place_of pointer) member)
          (as_value_filled structs (place_of pointer) (expr scope pointer) (expr_filled pointer)) (λ known is. pointer_member_filled structs scope names (place_of pointer) member known is)
      expr_filled (Trees.PostIncrement operand) =
          of_part (KnownFilled structs) (KnownFilled structs) (expr scope operand) (Operators.stepped scope S.PostIncrement (place_of operand) (place_of operand)) (expr_filled operand)
          (λ known is. stepped_filled structs scope S.PostIncrement (place_of operand) (place_of operand) known is)
      expr_filled (Trees.PostDecrement operand) =
          of_part (KnownFilled structs) (KnownFilled structs) (expr scope operand) (Operators.stepped scope S.PostDecrement (place_of operand) (place_of operand)) (expr_filled operand)
          (λ known is. stepped_filled structs scope S.PostDecrement (place_of operand) (place_of operand) known is)
      expr_filled (Trees.Prefix operator place operand) = prefixed_filled structs scope operator place (place_of operand) (expr scope operand) (expr_filled operand)
      expr_filled (Trees.SizeofExpr place operand) =
          of_part (KnownFilled structs) (KnownFilled structs) (expr scope operand) (λ known. Operators.size_of scope place known.c_type) (expr_filled operand) (λ known is. size_filled structs scope place known.c_type)
      expr_filled (Trees.SizeofType place type_name) =
          of_part (IsWhole structs) (KnownFilled structs) (type_named scope type_name) (Operators.size_of scope (type_place type_name)) (type_whole structs scope names.keeps type_name) (λ t is. size_filled structs scope (type_place type_name) t)
      expr_filled (Trees.Cast place type_name operand) =
          of_two (IsWhole structs) (KnownFilled structs) (KnownFilled structs) (type_named scope type_name) (as_value (place_of operand) (expr scope operand)) (Operators.cast_to scope place)
          (type_whole structs scope names.keeps type_name)
          (as_value_filled structs (place_of operand) (expr scope operand) (expr_filled operand))
          (λ t known t_is is. cast_filled structs scope place t known t_is is)
      expr_filled (Trees.Binary operator left right) =
          binary_filled structs scope operator (place_of left) (place_of right) (expr scope left) (expr scope right)
          (expr_filled left)
          (expr_filled right)
      expr_filled (Trees.Conditional condition taken otherwise) =
          of_three (TestFilled structs) (KnownFilled structs) (KnownFilled structs) (KnownFilled structs)
          (as_condition (place_of condition) (expr scope condition)) (as_value (place_of taken) (expr scope taken)) (as_value (place_of otherwise) (expr scope otherwise)) (Operators.choice (place_of condition))
          (as_condition_filled structs (place_of condition) (expr scope condition) (expr_filled condition))
          (as_value_filled structs (place_of taken) (expr scope taken) (expr_filled taken))
          (as_value_filled structs (place_of otherwise) (expr scope otherwise)
          (expr_filled otherwise))
          (λ c a b c_is a_is b_is. choice_filled structs (place_of condition) c a b c_is a_is b_is)
      expr_filled (Trees.Assign operator object value) =
          assigned_filled structs scope operator (place_of object) (place_of value) (expr scope object) (expr scope value)
          (expr_filled object)
          (expr_filled value)

      arguments_filled : (arguments : ArgumentsTree) → Every (ArgumentFilled structs) (argument_values scope arguments).values
      arguments_filled Trees.NoArguments = tt
      arguments_filled (Trees.Argument value others) =
          let one = expr_filled value in (
            (as_value_filled structs (place_of value) (expr scope value) one).holds,
            arguments_filled others,
          )

    -- ---- values of expressions

    known_value_filled : (known : Option Known) → IfKnown (KnownFilled structs) known → makes (fills structs) (known_value known) ≡ true
    known_value_filled None filled = refl
    known_value_filled (Some known) filled = in_filled structs known filled

    test_filled : (known : Option Operators.Condition) → IfKnown (TestFilled structs) known → makes (fills structs) (condition_test known) ≡ true
    test_filled None filled = refl
    test_filled (Some condition) filled = filled

    known_as_filled : (place : Pos) (t : CType) → IsWhole structs t → (known : Option Known) → IfKnown (KnownFilled structs) known → makes (fills structs) (known_as place t known) ≡ true
    known_as_filled place t filled None is = refl
    known_as_filled place t filled (Some known) is = converted_filled structs place t known filled is

    pub value_of_filled : (e : ExprTree) → makes (fills structs) (value_of scope e) ≡ true
    value_of_filled e =
        known_value_filled (as_value (place_of e) (expr scope e)).known (as_value_filled structs (place_of e) (expr scope e) (expr_filled e)).holds

    pub unused_filled : (e : ExprTree) → makes (fills structs) (unused scope e) ≡ true
    unused_filled e = dropped_filled structs (value_of scope e) (value_of_filled e)

    pub test_of_filled : (e : ExprTree) → makes (fills structs) (test_of scope e) ≡ true
    test_of_filled e =
        test_filled (as_condition (place_of e) (expr scope e)).known (as_condition_filled structs (place_of e) (expr scope e) (expr_filled e)).holds

    pub value_as_filled : (t : Option CType) → IfKnown (IsWhole structs) t → (e : ExprTree) → makes (fills structs) (value_as scope t e) ≡ true
    value_as_filled None filled e = refl
    value_as_filled (Some t) filled e =
        known_as_filled (place_of e) t filled (as_value (place_of e) (expr scope e)).known (as_value_filled structs (place_of e) (expr scope e) (expr_filled e)).holds
