-- What is known of an expression nests at most three nodes deep for each one of its own, as a value that is converted.
use Rattle.std.proofs.Common.{ℕ, suc, max, ◌+◌, ◌*◌, ◌≤◌, Option, Some, None, arith}
use Rattle.c_syntax.specs.Trees
use Rattle.c_syntax.specs.Trees.{ExprTree, ArgumentsTree}
use Rattle.c_typed.specs.Types.{CType}
use Rattle.c_typed.specs.declared.typed.Stepping.TheVariants as S
use Rattle.c_syntax.specs.SyntaxDepths.{expr_depth, arguments_depth}
use Rattle.c_typed.specs.TypedDepths.{value_depth}
use Rattle.c_rules.specs.Names.{Scope}
use Rattle.c_rules.specs.Known.{Known, Checked, as_value, grouped, give}
use Rattle.c_rules.specs.Operators
use Rattle.c_rules.specs.Operators.{Condition, as_condition}
use Rattle.c_rules.specs.Expressions.{expr, argument_values, place_of, library_called, type_named, type_place}
use Rattle.c_rules.specs.Elaborated.{known_value, condition_test, value_of, unused, test_of, known_as, value_as}
use Rattle.c_rules.proofs.Holding.{Holds, given_holds, given_two_holds, given_three_holds}
use Rattle.c_rules.proofs.Depths.Operands.{Within, TestWithin, more_within, in_value, value_within, condition_within, converted_within, dropped_depth}
use Rattle.c_rules.proofs.Depths.Operators.{Gives, named_gives, grouped_weight, indexed_gives, object_member_gives, pointer_member_gives, stepped_gives, prefixed_gives, size_gives, cast_gives, binary_gives, choice_gives, assigned_gives}
use Rattle.c_rules.proofs.Depths.Calls.{ArgumentsWithin, more_arguments, call_gives, library_called_gives}

-- Each expression is one deep at least.
some_depth : (e : ExprTree) → 1 ≤ expr_depth e
some_depth (Trees.Named name) = omega arith
some_depth (Trees.Integer value int_type place) = omega arith
some_depth (Trees.Character byte place) = omega arith
some_depth (Trees.Literal bytes place) = omega arith
some_depth (Trees.Null place) = omega arith
some_depth (Trees.EndOfFile place) = omega arith
some_depth (Trees.Parenthesized place inner) = omega arith
some_depth (Trees.Index array index) = omega arith
some_depth (Trees.Call function open_place _) = omega arith
some_depth (Trees.Member object member) = omega arith
some_depth (Trees.PointerMember pointer member) = omega arith
some_depth (Trees.PostIncrement operand) = omega arith
some_depth (Trees.PostDecrement operand) = omega arith
some_depth (Trees.Prefix operator place operand) = omega arith
some_depth (Trees.SizeofExpr place operand) = omega arith
some_depth (Trees.SizeofType place type_name) = omega arith
some_depth (Trees.Cast place type_name operand) = omega arith
some_depth (Trees.Binary operator left right) = omega arith
some_depth (Trees.Conditional condition taken otherwise) = omega arith
some_depth (Trees.Assign operator object value) = omega arith

-- three nodes for one more
one_more : (n : ℕ) (checked : Checked Known) → Gives (3 + 3 * n) checked → Gives (3 * suc n) checked
one_more n checked within = more_within (3 + 3 * n) (3 * suc n) checked.known (omega arith) within

-- an operand beside another
left_of : (n m : ℕ) (checked : Checked Known) → Gives (3 * n) checked → Gives (3 * max n m) checked
left_of n m checked within = more_within (3 * n) (3 * max n m) checked.known (omega arith) within

right_of : (n m : ℕ) (checked : Checked Known) → Gives (3 * m) checked → Gives (3 * max n m) checked
right_of n m checked within = more_within (3 * m) (3 * max n m) checked.known (omega arith) within

any_type : (known : Option CType) → Holds (λ (t : CType). Unit {0}) known
any_type None = tt
any_type (Some t) = tt

-- at most three typed nodes for each expression on a path
mutual
  expr_within : (scope : Scope) (e : ExprTree) → Gives (3 * expr_depth e) (expr scope e)
  expr_within scope (Trees.Named name) = named_gives scope name
  expr_within scope (Trees.Integer value n place) = omega arith
  expr_within scope (Trees.Character byte place) = omega arith
  expr_within scope (Trees.Literal bytes place) = omega arith
  expr_within scope (Trees.Null place) = omega arith
  expr_within scope (Trees.EndOfFile place) = omega arith
  expr_within scope (Trees.Parenthesized place inner) =
      one_more (expr_depth inner) (expr scope (Trees.Parenthesized place inner))
      (given_holds (Within (3 * expr_depth inner)) (Within (3 + 3 * expr_depth inner)) (expr scope inner) (λ known. give (record known { typed = grouped (place_of inner) known.typed })) (expr_within scope inner)
      (λ known within. let a = grouped_weight (place_of inner) known.typed in omega arith))
  expr_within scope (Trees.Index array index) =
      let high = max (expr_depth array) (expr_depth index) in
      let n = 3 * high in
      one_more high (expr scope (Trees.Index array index))
      (given_two_holds (Within n) (Within n) (Within (3 + n)) (as_value (place_of array) (expr scope array)) (as_value (place_of index) (expr scope index)) (Operators.indexed scope (place_of array) (place_of index))
      (value_within n (place_of array) (expr scope array) (left_of (expr_depth array) (expr_depth index) (expr scope array) (expr_within scope array)))
      (value_within n (place_of index) (expr scope index) (right_of (expr_depth array) (expr_depth index) (expr scope index) (expr_within scope index)))
      (indexed_gives scope (place_of array) (place_of index) n))
  expr_within scope (Trees.Call function open_place arguments) =
      let high = max (expr_depth function) (arguments_depth arguments) in
      let n = 3 * high in
      let some = some_depth function in
      one_more high (expr scope (Trees.Call function open_place arguments))
      (call_gives n (place_of function) (library_called scope 0 function (expr scope function)) (argument_values scope arguments)
      (library_called_gives n scope 0 function (expr scope function) (omega arith) (left_of (expr_depth function) (arguments_depth arguments) (expr scope function) (expr_within scope function)))
      (more_arguments (3 * arguments_depth arguments) n (argument_values scope arguments).values (omega arith) (arguments_within scope arguments)))
  expr_within scope (Trees.Member object member) =
      let n = 3 * expr_depth object in
      one_more (expr_depth object) (expr scope (Trees.Member object member))
      (given_holds (Within n) (Within (3 + n)) (expr scope object) (Operators.object_member scope (place_of object) member) (expr_within scope object) (object_member_gives scope (place_of object) member n))
  expr_within scope (Trees.PointerMember pointer member) =
      let n = 3 * expr_depth pointer in
      one_more (expr_depth pointer) (expr scope (Trees.PointerMember pointer member))
      (given_holds (Within n) (Within (3 + n)) (as_value (place_of pointer) (expr scope pointer)) (Operators.pointer_member scope (place_of pointer) member)
      (value_within n (place_of pointer) (expr scope pointer) (expr_within scope pointer)) (pointer_member_gives scope (place_of pointer) member n))
  expr_within scope (Trees.PostIncrement operand) =
      let n = 3 * expr_depth operand in
      one_more (expr_depth operand) (expr scope (Trees.PostIncrement operand))
      (given_holds (Within n) (Within (3 + n)) (expr scope operand) (Operators.stepped scope S.PostIncrement (place_of operand) (place_of operand)) (expr_within scope operand)
      (stepped_gives scope S.PostIncrement (place_of operand) (place_of operand) n))
  expr_within scope (Trees.PostDecrement operand) =
      let n = 3 * expr_depth operand in
      one_more (expr_depth operand) (expr scope (Trees.PostDecrement operand))
      (given_holds (Within n) (Within (3 + n)) (expr scope operand) (Operators.stepped scope S.PostDecrement (place_of operand) (place_of operand)) (expr_within scope operand)
      (stepped_gives scope S.PostDecrement (place_of operand) (place_of operand) n))
  expr_within scope (Trees.Prefix operator place operand) =
      one_more (expr_depth operand) (expr scope (Trees.Prefix operator place operand))
      (prefixed_gives scope operator place (place_of operand) (3 * expr_depth operand) (expr scope operand) (expr_within scope operand))
  expr_within scope (Trees.SizeofExpr place operand) =
      given_holds (Within (3 * expr_depth operand)) (Within 3) (expr scope operand) (λ known. Operators.size_of scope place known.c_type) (expr_within scope operand) (λ known within. size_gives scope place known.c_type)
  expr_within scope (Trees.SizeofType place type_name) =
      given_holds (λ (t : CType). Unit {0}) (Within 3) (type_named scope type_name) (Operators.size_of scope (type_place type_name)) (any_type (type_named scope type_name).known) (λ t any. size_gives scope (type_place type_name) t)
  expr_within scope (Trees.Cast place type_name operand) =
      let n = 3 * expr_depth operand in
      one_more (expr_depth operand) (expr scope (Trees.Cast place type_name operand))
      (given_two_holds (λ (t : CType). Unit {0}) (Within n) (Within (3 + n)) (type_named scope type_name) (as_value (place_of operand) (expr scope operand)) (Operators.cast_to scope place)
      (any_type (type_named scope type_name).known)
      (value_within n (place_of operand) (expr scope operand) (expr_within scope operand))
      (λ t known any within. cast_gives scope place n t known within))
  expr_within scope (Trees.Binary operator left right) =
      let high = max (expr_depth left) (expr_depth right) in
      one_more high (expr scope (Trees.Binary operator left right))
      (binary_gives scope operator (place_of left) (place_of right) (3 * high) (expr scope left) (expr scope right)
      (left_of (expr_depth left) (expr_depth right) (expr scope left) (expr_within scope left))
      (right_of (expr_depth left) (expr_depth right) (expr scope right) (expr_within scope right)))
  expr_within scope (Trees.Conditional condition taken otherwise) =
      let choices = max (expr_depth taken) (expr_depth otherwise) in
      let high = max (expr_depth condition) choices in
      let n = 3 * high in
      one_more high (expr scope (Trees.Conditional condition taken otherwise))
      (given_three_holds (TestWithin n) (Within n) (Within n) (Within (3 + n))
      (as_condition (place_of condition) (expr scope condition)) (as_value (place_of taken) (expr scope taken)) (as_value (place_of otherwise) (expr scope otherwise)) (Operators.choice (place_of condition))
      (condition_within n (place_of condition) (expr scope condition) (left_of (expr_depth condition) choices (expr scope condition) (expr_within scope condition)))
      (value_within n (place_of taken) (expr scope taken) (right_of (expr_depth condition) choices (expr scope taken) (left_of (expr_depth taken) (expr_depth otherwise) (expr scope taken) (expr_within scope taken))))
      (value_within n (place_of otherwise) (expr scope otherwise) (right_of (expr_depth condition) choices (expr scope otherwise) (right_of (expr_depth taken) (expr_depth otherwise) (expr scope otherwise) (expr_within scope otherwise))))
      (choice_gives (place_of condition) n))
  expr_within scope (Trees.Assign operator object value) =
      let high = max (expr_depth object) (expr_depth value) in
      one_more high (expr scope (Trees.Assign operator object value))
      (assigned_gives scope operator (place_of object) (place_of value) (3 * high) (expr scope object) (expr scope value)
      (left_of (expr_depth object) (expr_depth value) (expr scope object) (expr_within scope object))
      (right_of (expr_depth object) (expr_depth value) (expr scope value) (expr_within scope value)))

  arguments_within : (scope : Scope) (arguments : ArgumentsTree) → ArgumentsWithin (3 * arguments_depth arguments) (argument_values scope arguments).values
  arguments_within scope Trees.NoArguments = tt
  arguments_within scope (Trees.Argument value others) =
      let some = some_depth value in
      let n = 3 * max (expr_depth value) (arguments_depth others) in (
        omega arith,
        value_within n (place_of value) (expr scope value) (left_of (expr_depth value) (arguments_depth others) (expr scope value) (expr_within scope value)),
        more_arguments (3 * arguments_depth others) n (argument_values scope others).values (omega arith) (arguments_within scope others),
      )

-- ---- what statements ask of an expression

known_value_depth : (n : ℕ) (known : Option Known) → 2 ≤ n → Holds (Within n) known → suc (value_depth (known_value known)) ≤ n
known_value_depth n None some within = some
known_value_depth n (Some known) some within = in_value n known within

-- an expression for its value, one whose value isn't used, a condition, and a value converted to a type
pub value_of_depth : (scope : Scope) (e : ExprTree) → suc (value_depth (value_of scope e)) ≤ 3 * expr_depth e
value_of_depth scope e =
    let some = some_depth e in
    known_value_depth (3 * expr_depth e) (as_value (place_of e) (expr scope e)).known (omega arith) (value_within (3 * expr_depth e) (place_of e) (expr scope e) (expr_within scope e))

pub unused_depth : (scope : Scope) (e : ExprTree) → value_depth (unused scope e) ≤ 3 * expr_depth e
unused_depth scope e =
    let a = value_of_depth scope e in
    let b = dropped_depth (value_of scope e) in
    omega arith

condition_test_depth : (n : ℕ) (condition : Option Condition) → 1 ≤ n → Holds (TestWithin n) condition → value_depth (condition_test condition) ≤ n
condition_test_depth n None some within = some
condition_test_depth n (Some condition) some within = within

pub test_depth : (scope : Scope) (e : ExprTree) → value_depth (test_of scope e) ≤ 3 * expr_depth e
test_depth scope e =
    let some = some_depth e in
    condition_test_depth (3 * expr_depth e) (as_condition (place_of e) (expr scope e)).known (omega arith) (condition_within (3 * expr_depth e) (place_of e) (expr scope e) (expr_within scope e))

known_as_depth : (n : ℕ) (e : ExprTree) (t : CType) (known : Option Known) → 1 ≤ n → Holds (Within n) known → value_depth (known_as (place_of e) t known) ≤ n
known_as_depth n e t None some within = some
known_as_depth n e t (Some known) some within = converted_within n (place_of e) t known within

pub value_as_depth : (scope : Scope) (t : Option CType) (e : ExprTree) → value_depth (value_as scope t e) ≤ 3 * expr_depth e
value_as_depth scope None e = let some = some_depth e in omega arith
value_as_depth scope (Some t) e =
    let some = some_depth e in
    known_as_depth (3 * expr_depth e) e t (as_value (place_of e) (expr scope e)).known (omega arith) (value_within (3 * expr_depth e) (place_of e) (expr scope e) (expr_within scope e))
