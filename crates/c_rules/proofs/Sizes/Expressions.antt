-- What is known of an expression has at most three nodes for each of its own, as a value that is converted.
use Rattle.std.proofs.Common.{ℕ, suc, ◌+◌, ◌*◌, ◌≤◌, Option, Some, None, arith}
use Rattle.c_syntax.specs.Trees
use Rattle.c_syntax.specs.Trees.{ExprTree, ArgumentsTree}
use Rattle.c_typed.specs.Types.{CType}
use Rattle.c_typed.specs.declared.typed.Stepping.TheVariants as S
use Rattle.c_syntax.specs.SyntaxNodes.{expr_nodes, arguments_nodes}
use Rattle.c_typed.specs.TypedNodes.{value_nodes}
use Rattle.c_rules.specs.Names.{Scope}
use Rattle.c_rules.specs.Known.{Known, Checked, as_value, grouped, give}
use Rattle.c_rules.specs.Operators
use Rattle.c_rules.specs.Operators.{Condition, as_condition}
use Rattle.c_rules.specs.Expressions.{expr, argument_values, place_of, library_called, type_named, type_place}
use Rattle.c_rules.specs.Elaborated.{known_value, condition_test, value_of, unused, test_of, known_as, value_as}
use Rattle.c_rules.proofs.Holding.{Holds, given_holds, given_two_holds, given_three_holds}
use Rattle.c_rules.proofs.Sizes.Operands.{Within, TestWithin, more_within, in_value, value_within, condition_within, converted_within, dropped_nodes}
use Rattle.c_rules.proofs.Sizes.Operators.{Gives, named_gives, grouped_weight, indexed_gives, object_member_gives, pointer_member_gives, stepped_gives, prefixed_gives, size_gives, cast_gives, binary_gives, choice_gives, assigned_gives}
use Rattle.c_rules.proofs.Sizes.Calls.{ArgumentsWithin, call_gives, library_called_gives}

some_nodes : (e : ExprTree) → 1 ≤ expr_nodes e
some_nodes (Trees.Named name) = omega arith
some_nodes (Trees.Integer value int_type place) = omega arith
some_nodes (Trees.Character byte place) = omega arith
some_nodes (Trees.Literal bytes place) = omega arith
some_nodes (Trees.Null place) = omega arith
some_nodes (Trees.EndOfFile place) = omega arith
some_nodes (Trees.Parenthesized place inner) = omega arith
some_nodes (Trees.Index array index) = omega arith
some_nodes (Trees.Call function open_place _) = omega arith
some_nodes (Trees.Member object member) = omega arith
some_nodes (Trees.PointerMember pointer member) = omega arith
some_nodes (Trees.PostIncrement operand) = omega arith
some_nodes (Trees.PostDecrement operand) = omega arith
some_nodes (Trees.Prefix operator place operand) = omega arith
some_nodes (Trees.SizeofExpr place operand) = omega arith
some_nodes (Trees.SizeofType place type_name) = omega arith
some_nodes (Trees.Cast place type_name operand) = omega arith
some_nodes (Trees.Binary operator left right) = omega arith
some_nodes (Trees.Conditional condition taken otherwise) = omega arith
some_nodes (Trees.Assign operator object value) = omega arith

-- three nodes for one more, beside one, two or three operands
one_more : (a : ℕ) (checked : Checked Known) → Gives (3 + 3 * a) checked → Gives (3 * suc a) checked
one_more a checked within = more_within (3 + 3 * a) (3 * suc a) checked.known (omega arith) within

two_more : (a b : ℕ) (checked : Checked Known) → Gives (3 + (3 * a + 3 * b)) checked → Gives (3 * suc (a + b)) checked
two_more a b checked within = more_within (3 + (3 * a + 3 * b)) (3 * suc (a + b)) checked.known (omega arith) within

three_more : (a b c : ℕ) (checked : Checked Known) → Gives (3 + (3 * a + (3 * b + 3 * c))) checked → Gives (3 * suc (a + (b + c))) checked
three_more a b c checked within = more_within (3 + (3 * a + (3 * b + 3 * c))) (3 * suc (a + (b + c))) checked.known (omega arith) within

any_type : (known : Option CType) → Holds (λ (t : CType). Unit {0}) known
any_type None = tt
any_type (Some t) = tt

mutual
  expr_within : (scope : Scope) (e : ExprTree) → Gives (3 * expr_nodes e) (expr scope e)
  expr_within scope (Trees.Named name) = named_gives scope name
  expr_within scope (Trees.Integer value n place) = omega arith
  expr_within scope (Trees.Character byte place) = omega arith
  expr_within scope (Trees.Literal bytes place) = omega arith
  expr_within scope (Trees.Null place) = omega arith
  expr_within scope (Trees.EndOfFile place) = omega arith
  expr_within scope (Trees.Parenthesized place inner) =
      one_more (expr_nodes inner) (expr scope (Trees.Parenthesized place inner))
      (given_holds (Within (3 * expr_nodes inner)) (Within (3 + 3 * expr_nodes inner)) (expr scope inner) (λ known. give (record known { typed = grouped (place_of inner) known.typed })) (expr_within scope inner)
      (λ known within. let a = grouped_weight (place_of inner) known.typed in omega arith))
  expr_within scope (Trees.Index array index) =
      let n = 3 * expr_nodes array in
      let m = 3 * expr_nodes index in
      two_more (expr_nodes array) (expr_nodes index) (expr scope (Trees.Index array index))
      (given_two_holds (Within n) (Within m) (Within (3 + (n + m))) (as_value (place_of array) (expr scope array)) (as_value (place_of index) (expr scope index)) (Operators.indexed scope (place_of array) (place_of index))
      (value_within n (place_of array) (expr scope array) (expr_within scope array))
      (value_within m (place_of index) (expr scope index) (expr_within scope index))
      (indexed_gives scope (place_of array) (place_of index) n m))
  expr_within scope (Trees.Call function open_place arguments) =
      let n = 3 * expr_nodes function in
      let m = 3 * arguments_nodes arguments in
      let some = some_nodes function in
      two_more (expr_nodes function) (arguments_nodes arguments) (expr scope (Trees.Call function open_place arguments))
      (call_gives n m (place_of function) (library_called scope 0 function (expr scope function)) (argument_values scope arguments)
      (library_called_gives n scope 0 function (expr scope function) (omega arith) (expr_within scope function))
      (arguments_within scope arguments))
  expr_within scope (Trees.Member object member) =
      let n = 3 * expr_nodes object in
      one_more (expr_nodes object) (expr scope (Trees.Member object member))
      (given_holds (Within n) (Within (3 + n)) (expr scope object) (Operators.object_member scope (place_of object) member) (expr_within scope object) (object_member_gives scope (place_of object) member n))
  expr_within scope (Trees.PointerMember pointer member) =
      let n = 3 * expr_nodes pointer in
      one_more (expr_nodes pointer) (expr scope (Trees.PointerMember pointer member))
      (given_holds (Within n) (Within (3 + n)) (as_value (place_of pointer) (expr scope pointer)) (Operators.pointer_member scope (place_of pointer) member)
      (value_within n (place_of pointer) (expr scope pointer) (expr_within scope pointer)) (pointer_member_gives scope (place_of pointer) member n))
  expr_within scope (Trees.PostIncrement operand) =
      let n = 3 * expr_nodes operand in
      one_more (expr_nodes operand) (expr scope (Trees.PostIncrement operand))
      (given_holds (Within n) (Within (3 + n)) (expr scope operand) (Operators.stepped scope S.PostIncrement (place_of operand) (place_of operand)) (expr_within scope operand)
      (stepped_gives scope S.PostIncrement (place_of operand) (place_of operand) n))
  expr_within scope (Trees.PostDecrement operand) =
      let n = 3 * expr_nodes operand in
      one_more (expr_nodes operand) (expr scope (Trees.PostDecrement operand))
      (given_holds (Within n) (Within (3 + n)) (expr scope operand) (Operators.stepped scope S.PostDecrement (place_of operand) (place_of operand)) (expr_within scope operand)
      (stepped_gives scope S.PostDecrement (place_of operand) (place_of operand) n))
  expr_within scope (Trees.Prefix operator place operand) =
      one_more (expr_nodes operand) (expr scope (Trees.Prefix operator place operand))
      (prefixed_gives scope operator place (place_of operand) (3 * expr_nodes operand) (expr scope operand) (expr_within scope operand))
  expr_within scope (Trees.SizeofExpr place operand) =
      given_holds (Within (3 * expr_nodes operand)) (Within 3) (expr scope operand) (λ known. Operators.size_of scope place known.c_type) (expr_within scope operand) (λ known within. size_gives scope place known.c_type)
  expr_within scope (Trees.SizeofType place type_name) =
      given_holds (λ (t : CType). Unit {0}) (Within 3) (type_named scope type_name) (Operators.size_of scope (type_place type_name)) (any_type (type_named scope type_name).known) (λ t any. size_gives scope (type_place type_name) t)
  expr_within scope (Trees.Cast place type_name operand) =
      let n = 3 * expr_nodes operand in
      one_more (expr_nodes operand) (expr scope (Trees.Cast place type_name operand))
      (given_two_holds (λ (t : CType). Unit {0}) (Within n) (Within (3 + n)) (type_named scope type_name) (as_value (place_of operand) (expr scope operand)) (Operators.cast_to scope place)
      (any_type (type_named scope type_name).known)
      (value_within n (place_of operand) (expr scope operand) (expr_within scope operand))
      (λ t known any within. cast_gives scope place n t known within))
  expr_within scope (Trees.Binary operator left right) =
      two_more (expr_nodes left) (expr_nodes right) (expr scope (Trees.Binary operator left right))
      (binary_gives scope operator (place_of left) (place_of right) (3 * expr_nodes left) (3 * expr_nodes right) (expr scope left) (expr scope right) (expr_within scope left) (expr_within scope right))
  expr_within scope (Trees.Conditional condition taken otherwise) =
      let k = 3 * expr_nodes condition in
      let n = 3 * expr_nodes taken in
      let m = 3 * expr_nodes otherwise in
      three_more (expr_nodes condition) (expr_nodes taken) (expr_nodes otherwise) (expr scope (Trees.Conditional condition taken otherwise))
      (given_three_holds (TestWithin k) (Within n) (Within m) (Within (3 + (k + (n + m))))
      (as_condition (place_of condition) (expr scope condition)) (as_value (place_of taken) (expr scope taken)) (as_value (place_of otherwise) (expr scope otherwise)) (Operators.choice (place_of condition))
      (condition_within k (place_of condition) (expr scope condition) (expr_within scope condition))
      (value_within n (place_of taken) (expr scope taken) (expr_within scope taken))
      (value_within m (place_of otherwise) (expr scope otherwise) (expr_within scope otherwise))
      (choice_gives (place_of condition) k n m))
  expr_within scope (Trees.Assign operator object value) =
      two_more (expr_nodes object) (expr_nodes value) (expr scope (Trees.Assign operator object value))
      (assigned_gives scope operator (place_of object) (place_of value) (3 * expr_nodes object) (3 * expr_nodes value) (expr scope object) (expr scope value) (expr_within scope object) (expr_within scope value))

  arguments_within : (scope : Scope) (arguments : ArgumentsTree) → ArgumentsWithin (3 * arguments_nodes arguments) (argument_values scope arguments).values
  arguments_within scope Trees.NoArguments = tt
  arguments_within scope (Trees.Argument value others) =
      let some = some_nodes value in (
        3 * expr_nodes value,
        3 * arguments_nodes others,
        omega arith,
        omega arith,
        value_within (3 * expr_nodes value) (place_of value) (expr scope value) (expr_within scope value),
        arguments_within scope others,
      )

-- ---- what statements ask of an expression

known_value_nodes : (n : ℕ) (known : Option Known) → 2 ≤ n → Holds (Within n) known → suc (value_nodes (known_value known)) ≤ n
known_value_nodes n None some within = some
known_value_nodes n (Some known) some within = in_value n known within

pub value_of_nodes : (scope : Scope) (e : ExprTree) → suc (value_nodes (value_of scope e)) ≤ 3 * expr_nodes e
value_of_nodes scope e =
    let some = some_nodes e in
    known_value_nodes (3 * expr_nodes e) (as_value (place_of e) (expr scope e)).known (omega arith) (value_within (3 * expr_nodes e) (place_of e) (expr scope e) (expr_within scope e))

pub unused_nodes : (scope : Scope) (e : ExprTree) → value_nodes (unused scope e) ≤ 3 * expr_nodes e
unused_nodes scope e =
    let a = value_of_nodes scope e in
    let b = dropped_nodes (value_of scope e) in
    omega arith

condition_test_nodes : (n : ℕ) (condition : Option Condition) → 1 ≤ n → Holds (TestWithin n) condition → value_nodes (condition_test condition) ≤ n
condition_test_nodes n None some within = some
condition_test_nodes n (Some condition) some within = within

pub test_nodes : (scope : Scope) (e : ExprTree) → value_nodes (test_of scope e) ≤ 3 * expr_nodes e
test_nodes scope e =
    let some = some_nodes e in
    condition_test_nodes (3 * expr_nodes e) (as_condition (place_of e) (expr scope e)).known (omega arith) (condition_within (3 * expr_nodes e) (place_of e) (expr scope e) (expr_within scope e))

known_as_nodes : (n : ℕ) (e : ExprTree) (t : CType) (known : Option Known) → 1 ≤ n → Holds (Within n) known → value_nodes (known_as (place_of e) t known) ≤ n
known_as_nodes n e t None some within = some
known_as_nodes n e t (Some known) some within = converted_within n (place_of e) t known within

pub value_as_nodes : (scope : Scope) (t : Option CType) (e : ExprTree) → value_nodes (value_as scope t e) ≤ 3 * expr_nodes e
value_as_nodes scope None e = let some = some_nodes e in omega arith
value_as_nodes scope (Some t) e =
    let some = some_nodes e in
    known_as_nodes (3 * expr_nodes e) e t (as_value (place_of e) (expr scope e)).known (omega arith) (value_within (3 * expr_nodes e) (place_of e) (expr scope e) (expr_within scope e))
