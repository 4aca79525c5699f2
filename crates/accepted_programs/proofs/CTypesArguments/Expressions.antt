-- Expressions have narrow types, and calls of few arguments, where the types that they name are narrow.
use Rattle.std.proofs.Common.{List, ◌++◌, Option, Some, None}
use Rattle.run_theory.specs.declared.place.Pos.{Pos}
use Rattle.c_syntax.specs.Trees
use Rattle.c_syntax.specs.Trees.{ExprTree, ArgumentsTree, TypeTree}
use Rattle.c_typed.specs.Types.{CType}
use Rattle.c_typed.specs.declared.typed.Stepping.TheVariants as S
use Rattle.c_typed.specs.TypedArguments.{ValueFew}
use Rattle.c_rules.specs.Names.{Scope}
use Rattle.c_rules.specs.Known.{Known, as_value}
use Rattle.c_rules.specs.Operators
use Rattle.c_rules.specs.Operators.{as_condition}
use Rattle.c_rules.specs.Expressions.{place_of, expr, argument_values, type_named, type_place, library_called, optional_type, words_type, Required}
use Rattle.c_rules.specs.Elaborated.{known_value, condition_test, value_of, unused, test_of, known_as, value_as}
use Rattle.c_rules.specs.Named.{NamedType, named_at, named_in, named_in_arguments, named_in_type, named_in_optional}
use Rattle.accepted_programs.specs.Small.{IfKnown, Knows, Every}
use Rattle.accepted_programs.specs.Narrow.{IsNarrow, NamedNarrow, NarrowNames, KnownNarrow, ArgumentNarrow}
use Rattle.accepted_programs.proofs.CTypesSizes.Holding.{every_left, every_right, gives, of_part, of_two, of_three}
use Rattle.accepted_programs.proofs.CTypesArguments.Operands.{TestNarrow, in_narrow, grouped_narrow, as_value_narrow, as_condition_narrow, converted_narrow, named_narrow}
use Rattle.accepted_programs.proofs.CTypesArguments.Operators.{indexed_narrow, object_member_narrow, pointer_member_narrow, stepped_narrow, prefixed_narrow, size_narrow, cast_narrow, binary_narrow, choice_narrow, assigned_narrow, dropped_narrow}
use Rattle.accepted_programs.proofs.CTypesArguments.Calls.{call_narrow, library_called_narrow}

-- the types that a part of a text names
abbrev pub Named : List NamedType → Type 0
Named types = Every NamedNarrow types

pub named_left : (xs ys : List NamedType) → Named (xs ++ ys) → Named xs
named_left xs ys all = every_left NamedNarrow xs ys all

pub named_right : (xs ys : List NamedType) → Named (xs ++ ys) → Named ys
named_right xs ys all = every_right NamedNarrow xs ys all

-- a type that is named at a place
pub at_narrow : (place : Pos) (known : Option CType) → Named (named_at place known) → IfKnown IsNarrow known
at_narrow place None all = tt
at_narrow place (Some t) all = all.0

type_narrow : (scope : Scope) (tree : TypeTree) → Named (named_in_type scope tree) → Knows IsNarrow (type_named scope tree)
type_narrow scope (Trees.TypeName words declarator) all =
    let known = (optional_type scope words.place Required (words_type scope words) declarator).known in
    record { holds = at_narrow words.place known (named_right (named_in_optional scope declarator) (named_at words.place known) all) }

-- ---- the rules

module _ (scope : Scope) (names : NarrowNames scope) where
  mutual
    pub expr_narrow : (e : ExprTree) → Named (named_in scope e) → Knows KnownNarrow (expr scope e)
    expr_narrow (Trees.Named name) all = named_narrow scope names name
    expr_narrow (Trees.Integer value n place) all = gives _ (tt, tt)
    expr_narrow (Trees.Character byte place) all = gives _ (tt, tt)
    expr_narrow (Trees.Literal bytes place) all = gives _ (tt, tt)
    expr_narrow (Trees.Null place) all = gives _ (tt, tt)
    expr_narrow (Trees.EndOfFile place) all = gives _ (tt, tt)
    expr_narrow (Trees.Parenthesized place inner) all =
        of_part KnownNarrow KnownNarrow (expr scope inner) _ (expr_narrow inner all) (λ known is. gives _ (is.0, grouped_narrow (place_of inner) known.typed is.1))
    expr_narrow (Trees.Index array index) all =
        let one = expr_narrow array (named_left (named_in scope array) (named_in scope index) all) in
        let other = expr_narrow index (named_right (named_in scope array) (named_in scope index) all) in
        of_two KnownNarrow KnownNarrow KnownNarrow (as_value (place_of array) (expr scope array)) (as_value (place_of index) (expr scope index)) (Operators.indexed scope (place_of array) (place_of index))
        (as_value_narrow (place_of array) (expr scope array) one) (as_value_narrow (place_of index) (expr scope index) other)
        (λ a b a_is b_is. indexed_narrow scope (place_of array) (place_of index) a b a_is b_is)
    expr_narrow (Trees.Call function open_place arguments) all =
        let one = expr_narrow function (named_right (named_in_arguments scope arguments) (named_in scope function) all) in
        call_narrow (place_of function) (library_called scope 0 function (expr scope function)) (argument_values scope arguments)
        (library_called_narrow scope names 0 function (expr scope function) one)
        (arguments_narrow arguments (named_left (named_in_arguments scope arguments) (named_in scope function) all))
    expr_narrow (Trees.Member object member) all =
        of_part KnownNarrow KnownNarrow (expr scope object) (Operators.object_member scope (place_of object) member) (expr_narrow object all) (λ known is. object_member_narrow scope names (place_of object) member known is)
    expr_narrow (Trees.PointerMember pointer member) all =
        of_part KnownNarrow KnownNarrow (as_value (place_of pointer) (expr scope pointer)) (Operators.pointer_member scope (place_of pointer) member)
        (as_value_narrow (place_of pointer) (expr scope pointer) (expr_narrow pointer all)) (λ known is. pointer_member_narrow scope names (place_of pointer) member known is)
    expr_narrow (Trees.PostIncrement operand) all =
        of_part KnownNarrow KnownNarrow (expr scope operand) (Operators.stepped scope S.PostIncrement (place_of operand) (place_of operand)) (expr_narrow operand all)
        (λ known is. stepped_narrow scope S.PostIncrement (place_of operand) (place_of operand) known is)
    expr_narrow (Trees.PostDecrement operand) all =
        of_part KnownNarrow KnownNarrow (expr scope operand) (Operators.stepped scope S.PostDecrement (place_of operand) (place_of operand)) (expr_narrow operand all)
        (λ known is. stepped_narrow scope S.PostDecrement (place_of operand) (place_of operand) known is)
    expr_narrow (Trees.Prefix operator place operand) all = prefixed_narrow scope operator place (place_of operand) (expr scope operand) (expr_narrow operand all)
    expr_narrow (Trees.SizeofExpr place operand) all =
        of_part KnownNarrow KnownNarrow (expr scope operand) (λ known. Operators.size_of scope place known.c_type) (expr_narrow operand all) (λ known is. size_narrow scope place known.c_type)
    expr_narrow (Trees.SizeofType place type_name) all =
        of_part IsNarrow KnownNarrow (type_named scope type_name) (Operators.size_of scope (type_place type_name)) (type_narrow scope type_name all) (λ t is. size_narrow scope (type_place type_name) t)
    expr_narrow (Trees.Cast place type_name operand) all =
        of_two IsNarrow KnownNarrow KnownNarrow (type_named scope type_name) (as_value (place_of operand) (expr scope operand)) (Operators.cast_to scope place)
        (type_narrow scope type_name (named_left (named_in_type scope type_name) (named_in scope operand) all))
        (as_value_narrow (place_of operand) (expr scope operand) (expr_narrow operand (named_right (named_in_type scope type_name) (named_in scope operand) all)))
        (λ t known t_is is. cast_narrow scope place t known t_is is)
    expr_narrow (Trees.Binary operator left right) all =
        binary_narrow scope operator (place_of left) (place_of right) (expr scope left) (expr scope right)
        (expr_narrow left (named_left (named_in scope left) (named_in scope right) all))
        (expr_narrow right (named_right (named_in scope left) (named_in scope right) all))
    expr_narrow (Trees.Conditional condition taken otherwise) all =
        let front = named_left (named_in scope condition ++ named_in scope taken) (named_in scope otherwise) all in
        of_three TestNarrow KnownNarrow KnownNarrow KnownNarrow
        (as_condition (place_of condition) (expr scope condition)) (as_value (place_of taken) (expr scope taken)) (as_value (place_of otherwise) (expr scope otherwise)) (Operators.choice (place_of condition))
        (as_condition_narrow (place_of condition) (expr scope condition) (expr_narrow condition (named_left (named_in scope condition) (named_in scope taken) front)))
        (as_value_narrow (place_of taken) (expr scope taken) (expr_narrow taken (named_right (named_in scope condition) (named_in scope taken) front)))
        (as_value_narrow (place_of otherwise) (expr scope otherwise)
        (expr_narrow otherwise (named_right (named_in scope condition ++ named_in scope taken) (named_in scope otherwise) all)))
        (λ c a b c_is a_is b_is. choice_narrow (place_of condition) c a b c_is a_is b_is)
    expr_narrow (Trees.Assign operator object value) all =
        assigned_narrow scope operator (place_of object) (place_of value) (expr scope object) (expr scope value)
        (expr_narrow object (named_left (named_in scope object) (named_in scope value) all))
        (expr_narrow value (named_right (named_in scope object) (named_in scope value) all))

    arguments_narrow : (arguments : ArgumentsTree) → Named (named_in_arguments scope arguments) → Every ArgumentNarrow (argument_values scope arguments).values
    arguments_narrow Trees.NoArguments all = tt
    arguments_narrow (Trees.Argument value others) all =
        let one = expr_narrow value (named_left (named_in scope value) (named_in_arguments scope others) all) in (
          (as_value_narrow (place_of value) (expr scope value) one).holds,
          arguments_narrow others (named_right (named_in scope value) (named_in_arguments scope others) all),
        )

  -- ---- values of expressions

  known_value_narrow : (known : Option Known) → IfKnown KnownNarrow known → ValueFew (known_value known)
  known_value_narrow None narrow = tt
  known_value_narrow (Some known) narrow = in_narrow known narrow

  test_narrow : (known : Option Operators.Condition) → IfKnown TestNarrow known → ValueFew (condition_test known)
  test_narrow None narrow = tt
  test_narrow (Some condition) narrow = narrow

  known_as_narrow : (place : Pos) (t : CType) → IsNarrow t → (known : Option Known) → IfKnown KnownNarrow known → ValueFew (known_as place t known)
  known_as_narrow place t narrow None is = tt
  known_as_narrow place t narrow (Some known) is = converted_narrow place t known narrow is

  pub value_of_narrow : (e : ExprTree) → Named (named_in scope e) → ValueFew (value_of scope e)
  value_of_narrow e all =
      known_value_narrow (as_value (place_of e) (expr scope e)).known (as_value_narrow (place_of e) (expr scope e) (expr_narrow e all)).holds

  pub unused_narrow : (e : ExprTree) → Named (named_in scope e) → ValueFew (unused scope e)
  unused_narrow e all = dropped_narrow (value_of scope e) (value_of_narrow e all)

  pub test_of_narrow : (e : ExprTree) → Named (named_in scope e) → ValueFew (test_of scope e)
  test_of_narrow e all =
      test_narrow (as_condition (place_of e) (expr scope e)).known (as_condition_narrow (place_of e) (expr scope e) (expr_narrow e all)).holds

  pub value_as_narrow : (t : Option CType) → IfKnown IsNarrow t → (e : ExprTree) → Named (named_in scope e) → ValueFew (value_as scope t e)
  value_as_narrow None narrow e all = tt
  value_as_narrow (Some t) narrow e all =
      known_as_narrow (place_of e) t narrow (as_value (place_of e) (expr scope e)).known (as_value_narrow (place_of e) (expr scope e) (expr_narrow e all)).holds
