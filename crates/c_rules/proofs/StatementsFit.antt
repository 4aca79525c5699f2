-- Elaboration of a statement without a violation gives a well typed one.
use Rattle.std.proofs.Common.{◌≡◌, Bool, true, false, cond, not, ◌&&◌, ◌||◌, List, [], ◌++◌, Option, Some, None, ℤ, refl, sym, ap, subst, ◌∙◌}
use Rattle.std.proofs.lemmas.Bool.{false≢true, and_from}
use Rattle.run_theory.specs.declared.place.Pos.{Pos}
use Rattle.c_num.specs.declared.IntType.{IntType}
use Rattle.c_num.specs.Types.{promoted}
use Rattle.c_num.specs.Conversion.{convert_to}
use Rattle.c_num.proofs.Conversions.{convert_to-in_range}
use Rattle.c_num.proofs.Outcomes.{is_value-Decides}
use Rattle.c_syntax.specs.Trees
use Rattle.c_syntax.specs.Trees.{ExprTree, StmtTree, BlockTree, SwitchTree}
use Rattle.c_typed.specs.Types.{CType, Void, Integer, Pointer, Array, Struct, Function, is_void, is_integer, integer_type}
use Rattle.c_typed.specs.Typed as typed
use Rattle.c_typed.specs.Typed.{LiteralDef}
use Rattle.c_rules.specs.declared.rule.TypeRule.{TypeRule}
use Rattle.c_rules.specs.declared.rule.TypeRule.TheVariants as T
use Rattle.c_rules.specs.Names.{Scope, entered}
use Rattle.c_rules.specs.Known.{Known, at, unless, give, require, given, with_known, as_value, value_in}
use Rattle.c_rules.specs.Operators.{as_integer, integer_rule, fits}
use Rattle.c_rules.specs.Expressions.{expr, place_of, as_constant}
use Rattle.c_rules.specs.Statements.{FunctionContext, stmt, block, switch_items, within_loop, within_switch, condition_rules, value_rules, optional_rules, return_rules, label_type, converted_label, repeats, with_label, for_start, declaration}
use Rattle.c_rules.specs.Elaborated.{literals_in, literals_in_value, literals_in_start, literals_in_stmt, literals_in_block, literals_in_switch, literals_in_declarators, stmt_of, block_of, switch_of, unused, test_of, mapped, value_as, value_of, known_value, switched, label_or_zero, start_of, declared_locals}
use Rattle.c_typed.specs.Context.{Context}
use Rattle.c_typed.specs.Expressions as well
use Rattle.c_typed.specs.Expressions.{is_scalar, type_of}
use Rattle.c_typed.specs.Statements.{Within, in_loop, in_switch, is_stmt, is_block, are_items, is_condition, is_expression, is_of_type, is_return, is_start, is_label, if_any, holds_for, with_start, with_locals}
use Rattle.c_rules.specs.Fitting.{Fits, AreListed}
use Rattle.c_rules.proofs.Yielding.{none_left, none_right}
use Rattle.c_rules.proofs.ConversionsFit.{value_has, converted_type}
use Rattle.c_rules.proofs.Answering.{as_constant-answers}
use Rattle.c_rules.proofs.TypeNames.{have_types, expr_answers}
use Rattle.c_rules.proofs.DeclarationsFit.{listed-left, listed-right, entered-fits, unused-fits, test-fits, optional-fits, assigned-fits, declaration-fits, same-program, block-behind, start-fits}
use Rattle.c_rules.proofs.ExpressionsFit.{value_fits}

-- what surrounds a statement in the rules, and in the typed tree
pub record SameWithin (context : FunctionContext) (within : Within) : Type 0 where
  pub result : context.result ≡ Some within.result
  pub may_break : context.may_break ≡ within.may_break
  pub may_continue : context.may_continue ≡ within.may_continue
  pub proper : (is_scalar within.result || is_void within.result) ≡ true

same-loop : (context : FunctionContext) (within : Within) → SameWithin context within → SameWithin (within_loop context) (in_loop within)
same-loop context within same = record { result = same.result; may_break = refl; may_continue = refl; proper = same.proper }

same-switch : (context : FunctionContext) (within : Within) → SameWithin context within → SameWithin (within_switch context) (in_switch within)
same-switch context within same = record { result = same.result; may_break = refl; may_continue = same.may_continue; proper = same.proper }

unless-none : (b : Bool) (kind : TypeRule) (place : Pos) → unless b kind place ≡ [] → b ≡ true
unless-none true kind place none = refl
unless-none false kind place none = cc

-- ---- `return`

return-fits : (scope : Scope) (around : Context) → Fits scope around → (result : CType) (place : Pos) (value : Option ExprTree) → AreListed around.program.literals (literals_in_value value) → return_rules scope (Some result) place value ≡ []
    → is_return around result (mapped (value_as scope (Some result)) value) ≡ true
return-fits scope around fit result place None listed none = unless-none (is_void result) T.T22 place none
return-fits scope around fit result place (Some value) listed none = by (is_void result) none
  where
    by : (b : Bool)
        → cond b (at T.T22 place ++ (as_value (place_of value) (expr scope value)).found)
        (given (as_value (place_of value) (expr scope value)) (λ known. require (fits result known) T.T10 (place_of value) (give known))).found ≡ []
        → (is_scalar result && is_of_type around result (value_as scope (Some result) value)) ≡ true
    by true none = cc
    by false none = assigned-fits scope around fit result value listed none

-- ---- `switch`

-- the type to which a value is converted that is switched on
abbrev SwitchedOn : Scope → Context → ExprTree → IntType → Type 0
SwitchedOn scope around e int_type = (label_type (as_integer (place_of e) (expr scope e)).known ≡ Some int_type) × (type_of around (switched (Some int_type) (value_of scope e)) ≡ Some (Integer int_type))

integer-is : (place : Pos) (known : Known) → (integer_rule place known).found ≡ [] → (is_integer known.c_type ≡ true) × ((integer_rule place known).known ≡ Some known)
integer-is place known none = by (is_integer known.c_type) refl none
  where
    by : (b : Bool) → is_integer known.c_type ≡ b → (require b T.T07 place (give known)).found ≡ [] → (is_integer known.c_type ≡ true) × ((integer_rule place known).known ≡ Some known)
    by true is none = (is, subst (λ b. (require b T.T07 place (give known)).known ≡ Some known) (sym is) refl)
    by false is none = cc

label-of : (known : Known) → is_integer known.c_type ≡ true → (int_type : IntType) × (label_type (Some known) ≡ Some int_type)
label-of known is = by known.c_type refl is
  where
    by : (c_type : CType) → known.c_type ≡ c_type → is_integer c_type ≡ true → (int_type : IntType) × (label_type (Some known) ≡ Some int_type)
    by (Integer int_type) e is = (promoted int_type, ap (λ (t : CType). label_type (Some (record known { c_type = t }))) e)
    by Void e is = absurd (false≢true is)
    by (Pointer target) e is = absurd (false≢true is)
    by (Array element n) e is = absurd (false≢true is)
    by (Struct tag) e is = absurd (false≢true is)
    by (Function result parameters) e is = absurd (false≢true is)

switched-on : (scope : Scope) (around : Context) → Fits scope around → (e : ExprTree) → AreListed around.program.literals (literals_in e) → (as_integer (place_of e) (expr scope e)).found ≡ []
    → (int_type : IntType) × SwitchedOn scope around e int_type
switched-on scope around fit e listed none =
    let part = as_value (place_of e) (expr scope e) in
    let rule = integer_rule (place_of e) in
    let found = value_fits scope around fit (place_of e) e listed (none_left part.found (with_known part.known rule).found none) in
    let integer = integer-is (place_of e) found.0 (subst (λ known. (with_known known rule).found ≡ []) found.1 (none_right part.found (with_known part.known rule).found none)) in
    let label = label-of found.0 integer.0 in
    let type_is =
    subst (λ known. type_of around (switched (Some label.0) (known_value known)) ≡ Some (Integer label.0)) (sym found.1)
    (converted_type around label.0 found.0.c_type (value_in found.0) (value_has around found.0 found.2) integer.0) in
    (label.0, (ap (λ known. label_type (with_known known rule).known) found.1 ∙ ap label_type integer.1 ∙ label.1, type_is))

-- a label is a value of that type
label-fits : (scope : Scope) (around : Context) → Fits scope around → (int_type : IntType) (e : ExprTree) → (as_constant (place_of e) (expr scope e)).found ≡ []
    → is_label (Some int_type) (label_or_zero (converted_label (Some int_type) (as_constant (place_of e) (expr scope e)).known)) ≡ true
label-fits scope around fit int_type e none =
    let found = (as_constant-answers (place_of e) (expr scope e) (expr_answers scope (have_types scope around fit) e)).yields none in
    subst (λ known. is_label (Some int_type) (label_or_zero (converted_label (Some int_type) known)) ≡ true) (sym found.1)
    ((is_value-Decides int_type (convert_to int_type found.0)).1 (convert_to-in_range int_type found.0))

-- ---- statements

mutual
  pub stmt_fits : (scope : Scope) (around : Context) → Fits scope around → (context : FunctionContext) (within : Within) → SameWithin context within → (s : StmtTree)
      → AreListed around.program.literals (literals_in_stmt s) → stmt scope context s ≡ [] → is_stmt around within (stmt_of scope (Some within.result) s) ≡ true
  stmt_fits scope around fit context within same (Trees.BlockStmt place items) listed none = block_fits (entered scope) around (entered-fits scope around fit) context within same items listed none
  stmt_fits scope around fit context within same (Trees.Empty place) listed none = refl
  stmt_fits scope around fit context within same (Trees.Expression value) listed none = unused-fits scope around fit value listed none
  stmt_fits scope around fit context within same (Trees.If place condition taken) listed none =
      let all = around.program.literals in
      let rules = condition_rules scope condition in
      and_from (is_condition around (test_of scope condition)) _
      (test-fits scope around fit condition (listed-left all (literals_in condition) (literals_in_stmt taken) listed) (none_left rules _ none))
      (stmt_fits scope around fit context within same taken (listed-right all (literals_in condition) (literals_in_stmt taken) listed) (none_right rules _ none))
  stmt_fits scope around fit context within same (Trees.IfElse place condition taken otherwise) listed none =
      let all = around.program.literals in
      let rules = condition_rules scope condition in
      let first = stmt scope context taken in
      let literals = literals_in condition ++ literals_in_stmt taken in
      let listed_both = listed-left all literals (literals_in_stmt otherwise) listed in
      let none_both = none_left (rules ++ first) (stmt scope context otherwise) none in
      and_from (is_condition around (test_of scope condition) && is_stmt around within (stmt_of scope (Some within.result) taken)) _
      (and_from (is_condition around (test_of scope condition)) _
      (test-fits scope around fit condition (listed-left all (literals_in condition) (literals_in_stmt taken) listed_both) (none_left rules first none_both))
      (stmt_fits scope around fit context within same taken (listed-right all (literals_in condition) (literals_in_stmt taken) listed_both) (none_right rules first none_both)))
      (stmt_fits scope around fit context within same otherwise (listed-right all literals (literals_in_stmt otherwise) listed) (none_right (rules ++ first) (stmt scope context otherwise) none))
  stmt_fits scope around fit context within same (Trees.While place condition body) listed none =
      let all = around.program.literals in
      let rules = condition_rules scope condition in
      and_from (is_condition around (test_of scope condition)) _
      (test-fits scope around fit condition (listed-left all (literals_in condition) (literals_in_stmt body) listed) (none_left rules _ none))
      (stmt_fits scope around fit (within_loop context) (in_loop within) (same-loop context within same) body (listed-right all (literals_in condition) (literals_in_stmt body) listed) (none_right rules _ none))
  stmt_fits scope around fit context within same (Trees.Do place body condition) listed none =
      let all = around.program.literals in
      let first = stmt scope (within_loop context) body in
      and_from (is_stmt around (in_loop within) (stmt_of scope (Some within.result) body)) _
      (stmt_fits scope around fit (within_loop context) (in_loop within) (same-loop context within same) body (listed-left all (literals_in_stmt body) (literals_in condition) listed) (none_left first _ none))
      (test-fits scope around fit condition (listed-right all (literals_in_stmt body) (literals_in condition) listed) (none_right first _ none))
  stmt_fits scope around fit context within same (Trees.For place start condition step body) listed none =
      let all = around.program.literals in
      let begun = for_start (entered scope) start in
      let behind = with_start (start_of (entered scope) start) around in
      let tests = optional_rules (condition_rules begun.scope) condition in
      let steps = optional_rules (value_rules begun.scope) step in
      let last = stmt begun.scope (within_loop context) body in
      let none_three = none_left (begun.found ++ tests ++ steps) last none in
      let none_two = none_left (begun.found ++ tests) steps none_three in
      let l_start = literals_in_start start in
      let l_condition = literals_in_value condition in
      let l_step = literals_in_value step in
      let l_body = literals_in_stmt body in
      let listed_three = listed-left all (l_start ++ l_condition ++ l_step) l_body listed in
      let listed_two = listed-left all (l_start ++ l_condition) l_step listed_three in
      let started = start-fits (entered scope) around (entered-fits scope around fit) start (listed-left all l_start l_condition listed_two) (none_left begun.found tests none_two) in
      let same_all = ap (λ program. program.literals) (sym started.2) in
      let moved = λ (literals : List LiteralDef) (l : AreListed all literals). subst (λ a. AreListed a literals) same_all l in
      and_from (is_start around (start_of (entered scope) start) && if_any (is_condition behind) (mapped (test_of begun.scope) condition) && if_any (is_expression behind) (mapped (unused begun.scope) step)) _
      (and_from (is_start around (start_of (entered scope) start) && if_any (is_condition behind) (mapped (test_of begun.scope) condition)) _
      (and_from (is_start around (start_of (entered scope) start)) _ started.0
      (optional-fits behind (condition_rules begun.scope) (test_of begun.scope) (is_condition behind) (test-fits begun.scope behind started.1) condition (moved l_condition (listed-right all l_start l_condition listed_two)) (none_right begun.found tests none_two)))
      (optional-fits behind (value_rules begun.scope) (unused begun.scope) (is_expression behind) (unused-fits begun.scope behind started.1) step (moved l_step (listed-right all (l_start ++ l_condition) l_step listed_three)) (none_right (begun.found ++ tests) steps none_three)))
      (stmt_fits begun.scope behind started.1 (within_loop context) (in_loop within) (same-loop context within same) body (moved l_body (listed-right all (l_start ++ l_condition ++ l_step) l_body listed)) (none_right (begun.found ++ tests ++ steps) last none))
  stmt_fits scope around fit context within same (Trees.Switch place value items) listed none =
      let all = around.program.literals in
      let tested = as_integer (place_of value) (expr scope value) in
      let on = switched-on scope around fit value (listed-left all (literals_in value) (literals_in_switch items) listed) (none_left tested.found _ none) in
      let rest = subst (λ known. switch_items scope (within_switch context) known [] false items ≡ []) on.1.0 (none_right tested.found _ none) in
      subst (λ known. is_stmt around within (typed.Switch (switched known (value_of scope value)) (switch_of scope (Some within.result) known items)) ≡ true) (sym on.1.0)
      (and_from (is_condition around (switched (Some on.0) (value_of scope value))) _ (ap (holds_for is_integer) on.1.1)
      (subst (λ t. are_items around (in_switch within) (well.given t integer_type) (switch_of scope (Some within.result) (Some on.0) items) ≡ true) (sym on.1.1)
      (items_fit scope around fit (within_switch context) (in_switch within) (same-switch context within same) on.0 [] false items (listed-right all (literals_in value) (literals_in_switch items) listed) rest)))
  stmt_fits scope around fit context within same (Trees.Break place) listed none = sym same.may_break ∙ unless-none context.may_break T.T20 place none
  stmt_fits scope around fit context within same (Trees.Continue place) listed none = sym same.may_continue ∙ unless-none context.may_continue T.T20 place none
  stmt_fits scope around fit context within same (Trees.Return place value) listed none =
      return-fits scope around fit within.result place value listed (subst (λ result. return_rules scope result place value ≡ []) same.result none)

  pub block_fits : (scope : Scope) (around : Context) → Fits scope around → (context : FunctionContext) (within : Within) → SameWithin context within → (items : BlockTree)
      → AreListed around.program.literals (literals_in_block items) → block scope context items ≡ [] → is_block around within (block_of scope (Some within.result) items) ≡ true
  block_fits scope around fit context within same Trees.Close listed none = refl
  block_fits scope around fit context within same (Trees.Declare tree others) listed none =
      let all = around.program.literals in
      let passed = declaration scope tree in
      let locals = declared_locals scope tree in
      let found = declaration-fits scope around fit tree (listed-left all (literals_in_declarators tree.declarators) (literals_in_block others) listed) (none_left passed.found _ none) in
      let listed_rest = listed-right all (literals_in_declarators tree.declarators) (literals_in_block others) listed in
      block-behind within (block_of passed.scope (Some within.result) others) locals around found.0
      (block_fits passed.scope (with_locals locals around) found.1 context within same others
      (subst (λ program. AreListed program.literals (literals_in_block others)) (sym (same-program locals around)) listed_rest) (none_right passed.found _ none))
  block_fits scope around fit context within same (Trees.Perform one others) listed none =
      let all = around.program.literals in
      let first = stmt scope context one in
      and_from (is_stmt around within (stmt_of scope (Some within.result) one)) _
      (stmt_fits scope around fit context within same one (listed-left all (literals_in_stmt one) (literals_in_block others) listed) (none_left first _ none))
      (block_fits scope around fit context within same others (listed-right all (literals_in_stmt one) (literals_in_block others) listed) (none_right first _ none))

  items_fit : (scope : Scope) (around : Context) → Fits scope around → (context : FunctionContext) (within : Within) → SameWithin context within → (int_type : IntType) (labels : List ℤ) (has_default : Bool) (items : SwitchTree)
      → AreListed around.program.literals (literals_in_switch items) → switch_items scope context (Some int_type) labels has_default items ≡ []
      → are_items around within (Some int_type) (switch_of scope (Some within.result) (Some int_type) items) ≡ true
  items_fit scope around fit context within same int_type labels has_default Trees.SwitchEnd listed none = refl
  items_fit scope around fit context within same int_type labels has_default (Trees.Case place value others) listed none =
      let all = around.program.literals in
      let stated = as_constant (place_of value) (expr scope value) in
      let label = converted_label (Some int_type) stated.known in
      let again = unless (not (repeats labels label)) T.T21 place in
      and_from (is_label (Some int_type) (label_or_zero label)) _
      (label-fits scope around fit int_type value (none_left stated.found again (none_left (stated.found ++ again) _ none)))
      (items_fit scope around fit context within same int_type (with_label label labels) has_default others (listed-right all (literals_in value) (literals_in_switch others) listed) (none_right (stated.found ++ again) _ none))
  items_fit scope around fit context within same int_type labels has_default (Trees.Default place others) listed none =
      items_fit scope around fit context within same int_type labels true others listed (none_right (unless (not has_default) T.T21 place) _ none)
  items_fit scope around fit context within same int_type labels has_default (Trees.SwitchStmt one others) listed none =
      let all = around.program.literals in
      let first = stmt scope context one in
      and_from (is_stmt around within (stmt_of scope (Some within.result) one)) _
      (stmt_fits scope around fit context within same one (listed-left all (literals_in_stmt one) (literals_in_switch others) listed) (none_left first _ none))
      (items_fit scope around fit context within same int_type labels has_default others (listed-right all (literals_in_stmt one) (literals_in_switch others) listed) (none_right first _ none))
