-- Expressions have small types where those are that they name.
use Rattle.std.proofs.Common.{◌≡◌, true, List, ◌++◌, Option, Some, None, refl}
use Rattle.run_theory.specs.declared.place.Pos.{Pos}
use Rattle.c_syntax.specs.Trees
use Rattle.c_syntax.specs.Trees.{ExprTree, ArgumentsTree, TypeTree}
use Rattle.c_typed.specs.Types.{CType}
use Rattle.c_typed.specs.Layouts.{StructDef}
use Rattle.c_typed.specs.Typed.{LiteralDef}
use Rattle.c_typed.specs.declared.typed.Stepping.TheVariants as S
use Rattle.c_typed.specs.Sizes.{makes, is_small}
use Rattle.c_rules.specs.Names.{Scope}
use Rattle.c_rules.specs.Known.{Checked, Known, as_value}
use Rattle.c_rules.specs.Operators
use Rattle.c_rules.specs.Operators.{as_condition}
use Rattle.c_rules.specs.Expressions.{place_of, expr, argument_values, type_named, type_place, library_called, optional_type, words_type, Required}
use Rattle.c_rules.specs.Elaborated.{literals_in, literals_in_arguments, literals_in_type, known_value, condition_test, value_of, unused, test_of, known_as, value_as}
use Rattle.c_rules.specs.Named.{NamedType, named_at, named_in, named_in_arguments, named_in_type, named_in_optional}
use Rattle.accepted_programs.specs.Small.{IfKnown, Knows, Every, IsSmall, NamedSmall, LiteralSmall, SmallNames, KnownSmall, ArgumentSmall}
use Rattle.accepted_programs.proofs.CTypesSizes.Holding.{every_left, every_right, gives, of_part, of_two, of_three}
use Rattle.accepted_programs.proofs.CTypesSizes.Types.{integer_small}
use Rattle.accepted_programs.proofs.CTypesSizes.Operands.{TestSmall, in_small, grouped_small, as_value_small, as_condition_small, converted_small, named_small}
use Rattle.accepted_programs.proofs.CTypesSizes.Operators.{indexed_small, object_member_small, pointer_member_small, stepped_small, prefixed_small, size_small, cast_small, binary_small, choice_small, assigned_small, dropped_small}
use Rattle.accepted_programs.proofs.CTypesSizes.Calls.{call_small, library_called_small}

module _ (structs : List StructDef) where
  -- the types that a part of a text names, and those of its literals
  abbrev pub Named : List NamedType → Type 0
  Named types = Every (NamedSmall structs) types

  abbrev pub Listed : List LiteralDef → Type 0
  Listed literals = Every (LiteralSmall structs) literals

  pub named_left : (xs ys : List NamedType) → Named (xs ++ ys) → Named xs
  named_left xs ys all = every_left (NamedSmall structs) xs ys all

  pub named_right : (xs ys : List NamedType) → Named (xs ++ ys) → Named ys
  named_right xs ys all = every_right (NamedSmall structs) xs ys all

  pub listed_left : (xs ys : List LiteralDef) → Listed (xs ++ ys) → Listed xs
  listed_left xs ys all = every_left (LiteralSmall structs) xs ys all

  pub listed_right : (xs ys : List LiteralDef) → Listed (xs ++ ys) → Listed ys
  listed_right xs ys all = every_right (LiteralSmall structs) xs ys all

  -- a type that is named at a place
  pub at_small : (place : Pos) (known : Option CType) → Named (named_at place known) → IfKnown (IsSmall structs) known
  at_small place None all = tt
  at_small place (Some t) all = all.0

  type_small : (scope : Scope) (tree : TypeTree) → Named (named_in_type scope tree) → Knows (IsSmall structs) (type_named scope tree)
  type_small scope (Trees.TypeName words declarator) all =
      let known = (optional_type scope words.place Required (words_type scope words) declarator).known in
      record { holds = at_small words.place known (named_right (named_in_optional scope declarator) (named_at words.place known) all) }

  -- ---- the rules

  abbrev Small : Checked Known → Type 0
  Small checked = Knows (KnownSmall structs) checked

  module _ (scope : Scope) (names : SmallNames structs scope) where
    mutual
      pub expr_small : (e : ExprTree) → Named (named_in scope e) → Listed (literals_in e) → Knows (KnownSmall structs) (expr scope e)
      expr_small (Trees.Named name) all listed = named_small structs scope names name
      expr_small (Trees.Integer value n place) all listed = gives _ (integer_small structs n, refl)
      expr_small (Trees.Character byte place) all listed = gives _ (refl, refl)
      expr_small (Trees.Literal bytes place) all listed = gives _ (listed.0, refl)
      expr_small (Trees.Null place) all listed = gives _ (refl, refl)
      expr_small (Trees.EndOfFile place) all listed = gives _ (refl, refl)
      expr_small (Trees.Parenthesized place inner) all listed =
          of_part (KnownSmall structs) (KnownSmall structs) (expr scope inner) _ (expr_small inner all listed) (λ known is. gives _ (is.0, grouped_small structs (place_of inner) known.typed is.1))
      expr_small (Trees.Index array index) all listed =
          let one = expr_small array (named_left (named_in scope array) (named_in scope index) all) (listed_left (literals_in array) (literals_in index) listed) in
          let other = expr_small index (named_right (named_in scope array) (named_in scope index) all) (listed_right (literals_in array) (literals_in index) listed) in
          of_two (KnownSmall structs) (KnownSmall structs) (KnownSmall structs) (as_value (place_of array) (expr scope array)) (as_value (place_of index) (expr scope index)) (Operators.indexed scope (place_of array) (place_of index))
          (as_value_small structs (place_of array) (expr scope array) one) (as_value_small structs (place_of index) (expr scope index) other)
          (λ a b a_is b_is. indexed_small structs scope (place_of array) (place_of index) a b a_is b_is)
      expr_small (Trees.Call function open_place arguments) all listed =
          let one = expr_small function (named_right (named_in_arguments scope arguments) (named_in scope function) all) (listed_left (literals_in function) (literals_in_arguments arguments) listed) in
          call_small structs (place_of function) (library_called scope 0 function (expr scope function)) (argument_values scope arguments)
          (library_called_small structs scope names 0 function (expr scope function) one)
          (arguments_small arguments (named_left (named_in_arguments scope arguments) (named_in scope function) all) (listed_right (literals_in function) (literals_in_arguments arguments) listed))
      expr_small (Trees.Member object member) all listed =
          of_part (KnownSmall structs) (KnownSmall structs) (expr scope object) (Operators.object_member scope (place_of object) member) (expr_small object all listed) (λ known is. object_member_small structs scope names (place_of object) member known is)
      expr_small (Trees.PointerMember pointer member) all listed =
          of_part (KnownSmall structs) (KnownSmall structs) (as_value (place_of pointer) (expr scope pointer)) (Operators.pointer_member scope (place_of pointer) member)
          (as_value_small structs (place_of pointer) (expr scope pointer) (expr_small pointer all listed)) (λ known is. pointer_member_small structs scope names (place_of pointer) member known is)
      expr_small (Trees.PostIncrement operand) all listed =
          of_part (KnownSmall structs) (KnownSmall structs) (expr scope operand) (Operators.stepped scope S.PostIncrement (place_of operand) (place_of operand)) (expr_small operand all listed)
          (λ known is. stepped_small structs scope S.PostIncrement (place_of operand) (place_of operand) known is)
      expr_small (Trees.PostDecrement operand) all listed =
          of_part (KnownSmall structs) (KnownSmall structs) (expr scope operand) (Operators.stepped scope S.PostDecrement (place_of operand) (place_of operand)) (expr_small operand all listed)
          (λ known is. stepped_small structs scope S.PostDecrement (place_of operand) (place_of operand) known is)
      expr_small (Trees.Prefix operator place operand) all listed = prefixed_small structs scope operator place (place_of operand) (expr scope operand) (expr_small operand all listed)
      expr_small (Trees.SizeofExpr place operand) all listed =
          of_part (KnownSmall structs) (KnownSmall structs) (expr scope operand) (λ known. Operators.size_of scope place known.c_type) (expr_small operand all listed) (λ known is. size_small structs scope place known.c_type)
      expr_small (Trees.SizeofType place type_name) all listed =
          of_part (IsSmall structs) (KnownSmall structs) (type_named scope type_name) (Operators.size_of scope (type_place type_name)) (type_small scope type_name all) (λ t is. size_small structs scope (type_place type_name) t)
      expr_small (Trees.Cast place type_name operand) all listed =
          of_two (IsSmall structs) (KnownSmall structs) (KnownSmall structs) (type_named scope type_name) (as_value (place_of operand) (expr scope operand)) (Operators.cast_to scope place)
          (type_small scope type_name (named_left (named_in_type scope type_name) (named_in scope operand) all))
          (as_value_small structs (place_of operand) (expr scope operand) (expr_small operand (named_right (named_in_type scope type_name) (named_in scope operand) all) (listed_right (literals_in_type type_name) (literals_in operand) listed)))
          (λ t known t_is is. cast_small structs scope place t known t_is is)
      expr_small (Trees.Binary operator left right) all listed =
          binary_small structs scope operator (place_of left) (place_of right) (expr scope left) (expr scope right)
          (expr_small left (named_left (named_in scope left) (named_in scope right) all) (listed_left (literals_in left) (literals_in right) listed))
          (expr_small right (named_right (named_in scope left) (named_in scope right) all) (listed_right (literals_in left) (literals_in right) listed))
      expr_small (Trees.Conditional condition taken otherwise) all listed =
          let front = named_left (named_in scope condition ++ named_in scope taken) (named_in scope otherwise) all in
          let front_listed = listed_left (literals_in condition ++ literals_in taken) (literals_in otherwise) listed in
          of_three (TestSmall structs) (KnownSmall structs) (KnownSmall structs) (KnownSmall structs)
          (as_condition (place_of condition) (expr scope condition)) (as_value (place_of taken) (expr scope taken)) (as_value (place_of otherwise) (expr scope otherwise)) (Operators.choice (place_of condition))
          (as_condition_small structs (place_of condition) (expr scope condition) (expr_small condition (named_left (named_in scope condition) (named_in scope taken) front) (listed_left (literals_in condition) (literals_in taken) front_listed)))
          (as_value_small structs (place_of taken) (expr scope taken) (expr_small taken (named_right (named_in scope condition) (named_in scope taken) front) (listed_right (literals_in condition) (literals_in taken) front_listed)))
          (as_value_small structs (place_of otherwise) (expr scope otherwise)
          (expr_small otherwise (named_right (named_in scope condition ++ named_in scope taken) (named_in scope otherwise) all) (listed_right (literals_in condition ++ literals_in taken) (literals_in otherwise) listed)))
          (λ c a b c_is a_is b_is. choice_small structs (place_of condition) c a b c_is a_is b_is)
      expr_small (Trees.Assign operator object value) all listed =
          assigned_small structs scope operator (place_of object) (place_of value) (expr scope object) (expr scope value)
          (expr_small object (named_left (named_in scope object) (named_in scope value) all) (listed_left (literals_in object) (literals_in value) listed))
          (expr_small value (named_right (named_in scope object) (named_in scope value) all) (listed_right (literals_in object) (literals_in value) listed))

      arguments_small : (arguments : ArgumentsTree) → Named (named_in_arguments scope arguments) → Listed (literals_in_arguments arguments) → Every (ArgumentSmall structs) (argument_values scope arguments).values
      arguments_small Trees.NoArguments all listed = tt
      arguments_small (Trees.Argument value others) all listed =
          let one = expr_small value (named_left (named_in scope value) (named_in_arguments scope others) all) (listed_left (literals_in value) (literals_in_arguments others) listed) in (
            (as_value_small structs (place_of value) (expr scope value) one).holds,
            arguments_small others (named_right (named_in scope value) (named_in_arguments scope others) all) (listed_right (literals_in value) (literals_in_arguments others) listed),
          )

    -- ---- values of expressions

    known_value_small : (known : Option Known) → IfKnown (KnownSmall structs) known → makes (is_small structs) (known_value known) ≡ true
    known_value_small None small = refl
    known_value_small (Some known) small = in_small structs known small

    test_small : (known : Option Operators.Condition) → IfKnown (TestSmall structs) known → makes (is_small structs) (condition_test known) ≡ true
    test_small None small = refl
    test_small (Some condition) small = small

    known_as_small : (place : Pos) (t : CType) → IsSmall structs t → (known : Option Known) → IfKnown (KnownSmall structs) known → makes (is_small structs) (known_as place t known) ≡ true
    known_as_small place t small None is = refl
    known_as_small place t small (Some known) is = converted_small structs place t known small is

    pub value_of_small : (e : ExprTree) → Named (named_in scope e) → Listed (literals_in e) → makes (is_small structs) (value_of scope e) ≡ true
    value_of_small e all listed =
        known_value_small (as_value (place_of e) (expr scope e)).known (as_value_small structs (place_of e) (expr scope e) (expr_small e all listed)).holds

    pub unused_small : (e : ExprTree) → Named (named_in scope e) → Listed (literals_in e) → makes (is_small structs) (unused scope e) ≡ true
    unused_small e all listed = dropped_small structs (value_of scope e) (value_of_small e all listed)

    pub test_of_small : (e : ExprTree) → Named (named_in scope e) → Listed (literals_in e) → makes (is_small structs) (test_of scope e) ≡ true
    test_of_small e all listed =
        test_small (as_condition (place_of e) (expr scope e)).known (as_condition_small structs (place_of e) (expr scope e) (expr_small e all listed)).holds

    pub value_as_small : (t : Option CType) → IfKnown (IsSmall structs) t → (e : ExprTree) → Named (named_in scope e) → Listed (literals_in e) → makes (is_small structs) (value_as scope t e) ≡ true
    value_as_small None small e all listed = refl
    value_as_small (Some t) small e all listed =
        known_as_small (place_of e) t small (as_value (place_of e) (expr scope e)).known (as_value_small structs (place_of e) (expr scope e) (expr_small e all listed)).holds
