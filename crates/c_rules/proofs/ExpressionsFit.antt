-- Elaboration of an expression without a violation gives a well typed tree.
use Rattle.std.proofs.Common.{◌≡◌, true, List, [], ◌∷◌, ◌++◌, pos, neg_ℤ, refl}
use Rattle.run_theory.specs.declared.place.Pos.{Pos}
use Rattle.c_num.specs.declared.IntType.{IntType}
use Rattle.c_num.specs.declared.IntType.TheVariants as I
use Rattle.c_num.specs.Types.{is_value}
use Rattle.c_num.specs.Conversion.{convert_to}
use Rattle.c_syntax.specs.Trees
use Rattle.c_syntax.specs.Trees.{ExprTree, ArgumentsTree}
use Rattle.c_typed.specs.Types.{Integer, is_integer}
use Rattle.c_typed.specs.Typed as typed
use Rattle.c_typed.specs.Typed.{LiteralDef}
use Rattle.c_typed.specs.declared.typed.Stepping.TheVariants as S
use Rattle.c_rules.specs.Names.{Scope}
use Rattle.c_rules.specs.Known.{give, as_value}
use Rattle.c_rules.specs.Operators
use Rattle.c_rules.specs.Operators.{Condition, as_integer, as_scalar, as_condition}
use Rattle.c_rules.specs.Expressions.{place_of, expr, argument_values, type_named, type_place, integer_constant, library_called}
use Rattle.c_rules.specs.Elaborated.{literals_in, literals_in_arguments, literals_in_type}
use Rattle.c_typed.specs.Context.{Context}
use Rattle.c_typed.specs.Expressions.{is_scalar}
use Rattle.c_typed.specs.Statements.{is_condition}
use Rattle.c_rules.specs.Proper.{is_proper}
use Rattle.c_rules.specs.Fitting.{Fits, AreListed, Yields, KnownFits, ValueFits}
use Rattle.c_rules.proofs.TypeNames.{have_types, type_yields}
use Rattle.c_rules.proofs.Yielding.{none_left, none_right, give_yields, given_yields, given_two_yields, given_three_yields}
use Rattle.c_rules.proofs.TypeSteps.{holds_is}
use Rattle.c_rules.proofs.SizeValues.{converted_is_value, character_is_value}
use Rattle.c_rules.proofs.Results.{integer_result}
use Rattle.c_rules.proofs.ConversionsFit.{value_yields, scalar_yields, integer_yields, condition_yields}
use Rattle.c_rules.proofs.NamesFit.{named_yields, literal_fits}
use Rattle.c_rules.proofs.PointersFit.{grouped_fits, indexed_yields, object_member_yields, pointer_member_yields}
use Rattle.c_rules.proofs.UnaryFit.{stepped_yields, prefixed_yields, size_yields, cast_yields}
use Rattle.c_rules.proofs.BinaryFit.{binary_yields}
use Rattle.c_rules.proofs.ChoicesFit.{choice_yields, assigned_yields}
use Rattle.c_rules.proofs.CallsFit.{ArgumentsFit}
use Rattle.c_rules.proofs.LibraryFit.{library_called_yields, call_yields}

-- ---- literals

pub listed_left : (all xs ys : List LiteralDef) → AreListed all (xs ++ ys) → AreListed all xs
listed_left all [] ys listed = tt
listed_left all (x ∷ xs) ys listed = (listed.0, listed_left all xs ys listed.1)

pub listed_right : (all xs ys : List LiteralDef) → AreListed all (xs ++ ys) → AreListed all ys
listed_right all [] ys listed = listed
listed_right all (x ∷ xs) ys listed = listed_right all xs ys listed.1

-- ---- constants

constant_yields : (around : Context) (n : IntType) (z : _) → is_value n z ≡ true → Yields (KnownFits around) (give (integer_constant n z))
constant_yields around n z is = give_yields (KnownFits around) (integer_constant n z) (integer_result around n _ (typed.Constant n z) (holds_is (is_value n z) (Integer n) is) refl)

-- ---- the rules

mutual
  pub expr_fits : (scope : Scope) (around : Context) → Fits scope around → (e : ExprTree) → AreListed around.program.literals (literals_in e) → Yields (KnownFits around) (expr scope e)
  expr_fits scope around fits (Trees.Named name) listed = named_yields scope around fits name
  expr_fits scope around fits (Trees.Integer value n place) listed = constant_yields around n (convert_to n (pos value)) (converted_is_value n (pos value))
  expr_fits scope around fits (Trees.Character byte place) listed = constant_yields around I.Int (convert_to I.Char (pos byte)) (character_is_value (pos byte))
  expr_fits scope around fits (Trees.Literal bytes place) listed = give_yields (KnownFits around) _ (literal_fits around place bytes listed.0)
  expr_fits scope around fits (Trees.Null place) listed = give_yields (KnownFits around) _ (record { typed = (refl, refl, refl); proper = refl; null = λ null. (refl, tt); address = tt })
  expr_fits scope around fits (Trees.EndOfFile place) listed = constant_yields around I.Int (neg_ℤ (pos 1)) refl
  expr_fits scope around fits (Trees.Parenthesized place inner) listed =
      given_yields (KnownFits around) (KnownFits around) (expr scope inner) _ (expr_fits scope around fits inner listed)
      (λ known fit. give_yields (KnownFits around) _ (grouped_fits around (place_of inner) known fit))
  expr_fits scope around fits (Trees.Index array index) listed =
      given_two_yields (ValueFits around) (ValueFits around) (KnownFits around) (as_value (place_of array) (expr scope array)) (as_value (place_of index) (expr scope index)) (Operators.indexed scope (place_of array) (place_of index))
      (value_yields around (place_of array) (expr scope array) (expr_fits scope around fits array (listed_left around.program.literals (literals_in array) (literals_in index) listed)))
      (value_yields around (place_of index) (expr scope index) (expr_fits scope around fits index (listed_right around.program.literals (literals_in array) (literals_in index) listed)))
      (indexed_yields scope around fits (place_of array) (place_of index))
  expr_fits scope around fits (Trees.Call function open_place arguments) listed =
      call_yields around (place_of function) (library_called scope 0 function (expr scope function)) (argument_values scope arguments)
      (library_called_yields scope around 0 function (expr scope function) (expr_fits scope around fits function (listed_left around.program.literals (literals_in function) (literals_in_arguments arguments) listed)))
      (arguments_fit scope around fits arguments (listed_right around.program.literals (literals_in function) (literals_in_arguments arguments) listed))
  expr_fits scope around fits (Trees.Member object member) listed =
      given_yields (KnownFits around) (KnownFits around) (expr scope object) _ (expr_fits scope around fits object listed) (object_member_yields scope around fits (place_of object) member)
  expr_fits scope around fits (Trees.PointerMember pointer member) listed =
      given_yields (ValueFits around) (KnownFits around) (as_value (place_of pointer) (expr scope pointer)) _ (value_yields around (place_of pointer) (expr scope pointer) (expr_fits scope around fits pointer listed))
      (pointer_member_yields scope around fits (place_of pointer) member)
  expr_fits scope around fits (Trees.PostIncrement operand) listed =
      given_yields (KnownFits around) (KnownFits around) (expr scope operand) _ (expr_fits scope around fits operand listed) (stepped_yields scope around fits S.PostIncrement (place_of operand) (place_of operand))
  expr_fits scope around fits (Trees.PostDecrement operand) listed =
      given_yields (KnownFits around) (KnownFits around) (expr scope operand) _ (expr_fits scope around fits operand listed) (stepped_yields scope around fits S.PostDecrement (place_of operand) (place_of operand))
  expr_fits scope around fits (Trees.Prefix operator place operand) listed = prefixed_yields scope around fits operator place (place_of operand) (expr scope operand) (expr_fits scope around fits operand listed)
  expr_fits scope around fits (Trees.SizeofExpr place operand) listed =
      given_yields (KnownFits around) (KnownFits around) (expr scope operand) _ (expr_fits scope around fits operand listed) (λ known fit. size_yields scope around place known.c_type)
  expr_fits scope around fits (Trees.SizeofType place type_name) listed =
      given_yields (λ t. is_proper t ≡ true) (KnownFits around) (type_named scope type_name) _ (type_yields scope (have_types scope around fits) type_name) (λ t proper. size_yields scope around (type_place type_name) t)
  expr_fits scope around fits (Trees.Cast place type_name operand) listed =
      given_two_yields (λ t. is_proper t ≡ true) (ValueFits around) (KnownFits around) (type_named scope type_name) (as_value (place_of operand) (expr scope operand)) (Operators.cast_to scope place)
      (type_yields scope (have_types scope around fits) type_name)
      (value_yields around (place_of operand) (expr scope operand) (expr_fits scope around fits operand (listed_right around.program.literals (literals_in_type type_name) (literals_in operand) listed)))
      (λ t known proper fit. cast_yields scope around fits place t known proper fit)
  expr_fits scope around fits (Trees.Binary operator left right) listed =
      binary_yields scope around fits operator (place_of left) (place_of right) (expr scope left) (expr scope right)
      (expr_fits scope around fits left (listed_left around.program.literals (literals_in left) (literals_in right) listed))
      (expr_fits scope around fits right (listed_right around.program.literals (literals_in left) (literals_in right) listed))
  expr_fits scope around fits (Trees.Conditional condition taken otherwise) listed =
      let front = listed_left around.program.literals (literals_in condition ++ literals_in taken) (literals_in otherwise) listed in
      given_three_yields (λ (c : Condition). is_condition around c.test ≡ true) (ValueFits around) (ValueFits around) (KnownFits around)
      (as_condition (place_of condition) (expr scope condition)) (as_value (place_of taken) (expr scope taken)) (as_value (place_of otherwise) (expr scope otherwise)) (Operators.choice (place_of condition))
      (condition_yields around (place_of condition) (expr scope condition) (expr_fits scope around fits condition (listed_left around.program.literals (literals_in condition) (literals_in taken) front)))
      (value_yields around (place_of taken) (expr scope taken) (expr_fits scope around fits taken (listed_right around.program.literals (literals_in condition) (literals_in taken) front)))
      (value_yields around (place_of otherwise) (expr scope otherwise) (expr_fits scope around fits otherwise (listed_right around.program.literals (literals_in condition ++ literals_in taken) (literals_in otherwise) listed)))
      (choice_yields around (place_of condition))
  expr_fits scope around fits (Trees.Assign operator object value) listed =
      assigned_yields scope around fits operator (place_of object) (place_of value) (expr scope object) (expr scope value)
      (expr_fits scope around fits object (listed_left around.program.literals (literals_in object) (literals_in value) listed))
      (expr_fits scope around fits value (listed_right around.program.literals (literals_in object) (literals_in value) listed))

  pub arguments_fit : (scope : Scope) (around : Context) → Fits scope around → (arguments : ArgumentsTree) → AreListed around.program.literals (literals_in_arguments arguments) → (argument_values scope arguments).found ≡ []
      → ArgumentsFit around (argument_values scope arguments).values
  arguments_fit scope around fits Trees.NoArguments listed none = tt
  arguments_fit scope around fits (Trees.Argument value others) listed none = (
    value_yields around (place_of value) (expr scope value) (expr_fits scope around fits value (listed_left around.program.literals (literals_in value) (literals_in_arguments others) listed))
        (none_left (as_value (place_of value) (expr scope value)).found (argument_values scope others).found none),
    arguments_fit scope around fits others (listed_right around.program.literals (literals_in value) (literals_in_arguments others) listed)
        (none_right (as_value (place_of value) (expr scope value)).found (argument_values scope others).found none),
  )

-- ---- what other rules ask of an expression

pub value_fits : (scope : Scope) (around : Context) → Fits scope around → (place : Pos) (e : ExprTree) → AreListed around.program.literals (literals_in e) → Yields (ValueFits around) (as_value place (expr scope e))
value_fits scope around fits place e listed = value_yields around place (expr scope e) (expr_fits scope around fits e listed)

pub scalar_fits : (scope : Scope) (around : Context) → Fits scope around → (place : Pos) (e : ExprTree) → AreListed around.program.literals (literals_in e)
    → Yields (λ known. ValueFits around known × (is_scalar known.c_type ≡ true)) (as_scalar place (expr scope e))
scalar_fits scope around fits place e listed = scalar_yields around place (expr scope e) (expr_fits scope around fits e listed)

pub integer_fits : (scope : Scope) (around : Context) → Fits scope around → (place : Pos) (e : ExprTree) → AreListed around.program.literals (literals_in e)
    → Yields (λ known. ValueFits around known × (is_integer known.c_type ≡ true)) (as_integer place (expr scope e))
integer_fits scope around fits place e listed = integer_yields around place (expr scope e) (expr_fits scope around fits e listed)

pub condition_tests : (scope : Scope) (around : Context) → Fits scope around → (place : Pos) (e : ExprTree) → AreListed around.program.literals (literals_in e)
    → Yields (λ (c : Condition). is_condition around c.test ≡ true) (as_condition place (expr scope e))
condition_tests scope around fits place e listed = condition_yields around place (expr scope e) (expr_fits scope around fits e listed)
