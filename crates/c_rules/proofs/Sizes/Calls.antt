-- Calls have three nodes more than what is called and its arguments, at most.
use Rattle.std.proofs.Common.{◌≡◌, ℕ, suc, ◌+◌, ◌≤◌, Bool, List, [], ◌∷◌, Option, Some, None, refl, arith}
use Rattle.run_theory.specs.declared.place.Pos.{Pos}
use Rattle.c_syntax.specs.Trees
use Rattle.c_syntax.specs.Trees.{ExprTree}
use Rattle.c_rules.specs.declared.rule.TypeRule.TheVariants as R
use Rattle.c_typed.specs.Types.{CType, CTypes, Void, Pointer, Function, MoreTypes, is_array, decayed}
use Rattle.c_typed.specs.Typed as T
use Rattle.c_typed.specs.Typed.{Value, Values}
use Rattle.c_typed.specs.TypedNodes.{value_nodes, values_nodes}
use Rattle.c_rules.specs.Names.{Scope, Meaning, NoMeaning, Local, Outer, Library, meaning_of}
use Rattle.c_rules.specs.Known.{Checked, Known, TypedExpr, OfValue, OfObject, OfFunction, OfLibrary, give, with_known}
use Rattle.c_rules.specs.Operators.{fits, converted, ArgumentValue, Arguments, as_many, passed_rule, passed, unconverted_argument, unconverted, is_free, call_of, call_value, called_as, call_rule, call}
use Rattle.c_rules.specs.Expressions.{library_called}
use Rattle.c_rules.proofs.Holding.{Holds, either_holds, require_holds, known_holds, given_holds, given_two_holds}
use Rattle.c_rules.proofs.Sizes.Operands.{weight, Within, read_nodes, converted_within, unconverted_within}
use Rattle.c_rules.proofs.Sizes.Operators.{Gives}

-- ---- arguments

abbrev pub ArgumentsWithin : ℕ → List ArgumentValue → Type 0
ArgumentsWithin n [] = Unit {0}
ArgumentsWithin n (argument ∷ arguments) = (m : ℕ) × (k : ℕ) × (m + k ≤ n) × (1 ≤ m) × Holds (Within m) argument.value × ArgumentsWithin k arguments

abbrev ValuesWithin : ℕ → Values → Type 0
ValuesWithin n values = values_nodes values ≤ n

passed_within : (n : ℕ) (whole : Pos) (parameters : CTypes) (arguments : List ArgumentValue) → ArgumentsWithin n arguments → Holds (ValuesWithin n) (passed whole parameters arguments).known
passed_within n whole (MoreTypes first others) (argument ∷ arguments) (m, k, sum, some, one, rest) =
    given_two_holds (λ (v : Value). value_nodes v ≤ m) (ValuesWithin k) (ValuesWithin n)
    (with_known argument.value (passed_rule whole argument.place first)) (passed whole others arguments) (λ value values. give (T.MoreValues value values))
    (known_holds (Within m) (λ (v : Value). value_nodes v ≤ m) argument.value (passed_rule whole argument.place first) one
    (λ known within. require_holds (λ (v : Value). value_nodes v ≤ m) (fits first known) R.T10 argument.place (give (converted whole first known)) (converted_within m whole first known within)))
    (passed_within k whole others arguments rest)
    (λ value values a b. omega arith)
passed_within n whole parameters arguments within = omega arith

unconverted_one : (n : ℕ) (known : Option Known) → 1 ≤ n → Holds (Within n) known → value_nodes (unconverted_argument known) ≤ n
unconverted_one n None some within = some
unconverted_one n (Some known) some within = unconverted_within n Void known within

unconverted_all : (n : ℕ) (arguments : List ArgumentValue) → ArgumentsWithin n arguments → values_nodes (unconverted arguments) ≤ n
unconverted_all n [] within = omega arith
unconverted_all n (argument ∷ arguments) (m, k, sum, some, one, rest) =
    let a = unconverted_one m argument.value some one in
    let b = unconverted_all k arguments rest in
    omega arith

-- ---- what is called

call_nodes : (whole : Pos) (is_row : Bool) (typed : TypedExpr) (t : CType) (passing : Values) → value_nodes (call_of whole is_row typed t passing) ≤ suc (weight typed + values_nodes passing)
call_nodes whole is_row (OfLibrary function groups) t passing = omega arith
call_nodes whole is_row (OfFunction function) t passing = omega arith
call_nodes whole is_row (OfValue value) t passing = omega arith
call_nodes whole is_row (OfObject object) t passing = let a = read_nodes whole is_row (OfObject object) in omega arith

call_value_within : (n m : ℕ) (whole : Pos) (known : Known) (t : CType) (arguments : List ArgumentValue) (values : Values) → Within n known → ArgumentsWithin m arguments → values_nodes values ≤ m
    → value_nodes (call_value whole known t arguments values) ≤ suc (n + m)
call_value_within n m whole known t arguments values within all own =
    either_holds (λ (v : Values). value_nodes (call_of whole (is_array known.c_type) known.typed t v) ≤ suc (n + m)) (is_free known.typed) _ _
    (let a = call_nodes whole (is_array known.c_type) known.typed t (unconverted arguments) in
    let b = unconverted_all m arguments all in
    omega arith)
    (let a = call_nodes whole (is_array known.c_type) known.typed t values in omega arith)

called_gives : (n m : ℕ) (whole : Pos) (known : Known) (t : CType) (arguments : List ArgumentValue) → Within n known → ArgumentsWithin m arguments → Gives (3 + (n + m)) (called_as whole known t arguments)
called_gives n m whole known (Pointer (Function result parameters)) arguments within all =
    require_holds (Within (3 + (n + m))) (as_many parameters arguments) R.T13 whole _
    (given_holds (ValuesWithin m) (Within (3 + (n + m))) (passed whole parameters arguments) _ (passed_within m whole parameters arguments all)
    (λ values own. let a = call_value_within n m whole known (Function result parameters) arguments values within all own in omega arith))
called_gives n m whole known (Pointer t) arguments within all = tt
called_gives n m whole known t arguments within all = tt

pub call_gives : (n m : ℕ) (whole : Pos) (function : Checked Known) (arguments : Arguments) → Gives n function → ArgumentsWithin m arguments.values → Gives (3 + (n + m)) (call whole function arguments)
call_gives n m whole function arguments within all =
    given_holds (Within n) (Within (3 + (n + m))) function (λ known. call_rule whole known arguments.values) within
    (λ known one. called_gives n m whole known (decayed known.c_type) arguments.values one all)

pub library_called_gives : (n : ℕ) (scope : Scope) (groups : ℕ) (e : ExprTree) (otherwise : Checked Known) → 2 ≤ n → Gives n otherwise → Gives n (library_called scope groups e otherwise)
library_called_gives n scope groups (Trees.Named name) otherwise some within = by (meaning_of scope name.bytes) refl
  where
    by : (meaning : Meaning) → meaning_of scope name.bytes ≡ meaning → Gives n (library_called scope groups (Trees.Named name) otherwise)
    by (Library function t) is = rw is some
    by (Local number t) is = rw is within
    by (Outer t) is = rw is within
    by NoMeaning is = rw is within
library_called_gives n scope groups (Trees.Parenthesized place inner) otherwise some within = library_called_gives n scope (suc groups) inner otherwise some within
library_called_gives n scope groups e otherwise some within = within
