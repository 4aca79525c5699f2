use Rattle.std.proofs.Common.{ℤ, refl, sym, ap, subst, ◌∙◌, Option, ◌++◌, arith, ◌+◌, drop, ◌∷◌, ℕ, None, FitsSigned, to_z-of_z, rules, ◌≡◌, suc, ◌-◌, ◌<◌, length, List, Some, IfOk, option_map}
use Rattle.std.specs.Int.{w128}
use Rattle.std.proofs.lemmas.Int.{to_z-of_z as same_int}
use Rattle.std.proofs.lemmas.Result.{IfOk-weaker}
use Rattle.run_theory.specs.declared.place.Pos.{Pos}
use Rattle.c_num.specs.declared.IntType.TheVariants as I
use Rattle.c_num.specs.Conversion.{convert_to}
use Rattle.c_syntax.specs.declared.expr.TypeName.{TypeName, out-TypeName}
use Rattle.c_syntax.specs.Trees
use Rattle.c_syntax.specs.Views.{expr_tree, arguments_of, type_tree, name_tree, optional_of, words_tree, length_of, parameters_of, direct_tree, suffixes_of}
use Rattle.c_syntax.proofs.SyntaxRows.{expr_tree-call}
use Rattle.c_typed.specs.Table.{Interned, Stands, type_in, Grows, ListStands, types_in}
use Rattle.c_typed.specs.declared.typed.Stepping.TheVariants as S
use Rattle.c_rules.specs.Known.{given, value_rule, known_already, given_two, given_three, as_value, give}
use Rattle.c_rules.specs.Operators.{object_member, pointer_member, stepped, size_of, indexed, call, cast_to, combined, operand, operand_kind, as_condition, choice, assignment, assigned_object, assigned_value}
use Rattle.c_rules.specs.Expressions.{expr, integer_constant, place_of, type_named, optional_type, argument_values, library_called, Required, words_type, as_constant, positive, length_value, length_stated, with_name}
use Rattle.c_types_state.specs.Finding.{IsExpr, IsType, ExprStands, expr_in, each_in, condition_in, Finds, IsTypes}
use Rattle.c_types_state.specs.NameTables.{scope_of}
use Rattle.c_types_expressions.specs.Unary.{prefixed_rule}
use Rattle.c_types_state.specs.Operands.{OperandStands, operand_in, TargetStands, target_in}
use Rattle.c_rules.specs.Named.{named_in, named_in_type, named_in_optional, named_in_length, named_in_suffixes}
use Rattle.c_types_expressions.specs.Forms.{grouped_known, size_rule, named_in_call, ConditionStands}
use Rattle.c_types_expressions.specs.Passes.{Passes, parameter_list, TypesStand, list_in}
use Rattle.c_types_expressions.proofs.Naming.{passes-plain, passes-made}
use Rattle.c_types_expressions.proofs.Giving.{stands-now, still-stands, at_places, operand-given, assigned_object-given, assigned_value-given}
use Rattle.c_types_expressions.proofs.Passing.{passes-one, passes-one-then, with_checker, passes-two, passes-two-plain}
use Rattle.c_types_expressions.proofs.Nodes.{passes-tree, passes-give, passes-part, passes-grouped, prefixed-given, type_name-place, finds-already}
use Rattle.c_syntax.specs.declared.expr.Declarator.{Declarator}
use Rattle.c_types_expressions.specs.Roles.{role_of}
use Rattle.c_typed.proofs.Grown.{grows_trans}
use Rattle.c_types_expressions.proofs.Standing.{stays-operand, stays-target}
use Rattle.c_types_expressions.proofs.CTypesExpressions.Calls.{arguments-stay, passes-call, passes-library, passes-other, gathers-more, gathers-end}
use Rattle.c_types_expressions.proofs.+expr.Goals.{expressions::call_expr-in-Some, expressions::call_expr-in-None+in_ok-known-in-None, declarators::suffixes_type-then-index-eq0, declarators::suffixes_type-else-index-eq0, declarators::suffix_type-in-Some+in_ok-length-in-Some, declarators::suffix_type-in-None, declarators::function_parameters-in-Some+in_ok-push-in-Some, declarators::function_parameters-in-None}
use Rattle.std.proofs.lemmas.List.{drop_all, drop_more}
use Rattle.c_types_state.proofs.Findings.{stays-type, stays-condition}
use Rattle.c_types_expressions.specs.Binary.{operand_rule}
use Rattle.c_types_expressions.proofs.Choices.{passes-choice}
use Rattle.c_num.specs.declared.BinOp.{BinOp}
use Rattle.c_types_expressions.specs.Assignments.{assigned_object_rule, assigned_value_rule}
use Rattle.c_syntax.specs.Trees.{TypeTree, NameTree}
use Rattle.c_rules.specs.Expressions as rules
use Rattle.c_types_expressions.proofs.Suffixed.{known_stands, type_tree-out, passes-named, stated-none, stated-unknown, stated-some, role_at, role_behind, own_role, own_required, suffix-next, followed-more, types_stay, elements_stay, passes-array, passes-function, suffix_of-array, suffix_of-function, length-stated, length-missing, passes-outer-items, passes-flat, passes-nested-read}
use Rattle.c_types_state.specs.Staying.{IsSame}
use Rattle.c_syntax.specs.declared.expr.Parameter.{Parameter, out-Parameter}
use Rattle.c_typed.specs.Kept.{IsObject}
use Rattle.c_types_expressions.specs.declared.pass.Pass.{Pass}
use Rattle.c_types_expressions.specs.Suffixes.{SuffixTree, suffix_of, suffix_type, named_in_suffix, named_in_list_of}
use Rattle.c_typed.specs.declared.c_type.CType.{CType}
use Rattle.c_types_state.specs.Checkers.{names_of}
use Rattle.c_types_expressions.proofs.Parameters.{NotedParameters, leads-some, leads-none, leads-same, listed-void, listed-none, listed-stand, listed-some, parameter-next, parameters-end, passes-parameter}
use Rattle.c_types_expressions.specs.Derived.{SameNames}
use Rattle.c_types_expressions.proofs.+expr.Goals as goal

pub expressions::expr-member_of-requires : goal.expressions::expr-member_of-requires
expressions::expr-member_of-requires t c = stands-now ExprStands expr_in c.in_ok-part-in-Member.ensures.finds

pub expressions::expr-as_value-requires : goal.expressions::expr-as_value-requires
expressions::expr-as_value-requires t c = stands-now ExprStands expr_in c.in_ok-part-in-PointerMember.ensures.finds

pub expressions::expr-pointed_member_of-requires : goal.expressions::expr-pointed_member_of-requires
expressions::expr-pointed_member_of-requires t c = stands-now OperandStands operand_in c.in_ok-pointer-in-PointerMember.ensures

pub expressions::expr-stepped-requires : goal.expressions::expr-stepped-requires
expressions::expr-stepped-requires t c = stands-now ExprStands expr_in c.in_ok-part-in-PostIncrement.ensures.finds

pub expressions::expr-stepped-requires-in-PostDecrement : goal.expressions::expr-stepped-requires-in-PostDecrement
expressions::expr-stepped-requires-in-PostDecrement t c = stands-now ExprStands expr_in c.in_ok-part-in-PostDecrement.ensures.finds

pub expressions::expr-prefixed-requires : goal.expressions::expr-prefixed-requires
expressions::expr-prefixed-requires t c = stands-now ExprStands expr_in c.in_ok-part-in-Prefix.ensures.finds

pub expressions::expr-size_of_expr-requires : goal.expressions::expr-size_of_expr-requires
expressions::expr-size_of_expr-requires t c = stands-now ExprStands expr_in c.in_ok-part-in-SizeofExpr.ensures.finds

pub expressions::expr-size_of_type-requires : goal.expressions::expr-size_of_type-requires
expressions::expr-size_of_type-requires t c = stands-now Stands type_in c.in_ok-c_type-in-SizeofType.ensures.finds

pub expressions::expr-returns-in-Named : goal.expressions::expr-returns-in-Named
expressions::expr-returns-in-Named t c =
    IfOk-weaker c.named.result _ _ (λ r found. passes-tree (ap expr_tree c.in-Named.is) (passes-plain found refl)) c.named.ensures

pub expressions::expr-returns-in_ok-constant-in-Integer : goal.expressions::expr-returns-in_ok-constant-in-Integer
expressions::expr-returns-in_ok-constant-in-Integer t c =
    let table = c.args.pass.now.checker.table in
    let number = same_int w128 c.from.result (record { sfits = c.from.type_inv }) ∙ c.from.ensures in
    let same = same_int w128 c.convert-value.result (record { sfits = c.convert-value.type_inv }) ∙ c.convert-value.ensures.value ∙ ap (convert_to c.in-Integer.int_type) number in
    passes-tree (ap expr_tree c.in-Integer.is)
    (passes-give (subst (λ (z : ℤ). IsExpr table c.in_ok-constant-in-Integer.field-0 (integer_constant c.in-Integer.int_type z)) same (c.in_ok-constant-in-Integer.ensures table)))

pub expressions::expr-returns-in_ok-constant-in-Character : goal.expressions::expr-returns-in_ok-constant-in-Character
expressions::expr-returns-in_ok-constant-in-Character t c =
    let table = c.args.pass.now.checker.table in
    let byte = same_int w128 c.from-in-Character.result (record { sfits = c.from-in-Character.type_inv }) ∙ c.from-in-Character.ensures in
    let same = same_int w128 c.convert-value-in-Character.result (record { sfits = c.convert-value-in-Character.type_inv }) ∙ c.convert-value-in-Character.ensures.value ∙ ap (convert_to I.Char) byte in
    passes-tree (ap expr_tree c.in-Character.is)
    (passes-give (subst (λ (z : ℤ). IsExpr table c.in_ok-constant-in-Character.field-0 (integer_constant I.Int z)) same (c.in_ok-constant-in-Character.ensures table)))

pub expressions::expr-returns-in_ok-literal-in-Literal : goal.expressions::expr-returns-in_ok-literal-in-Literal
expressions::expr-returns-in_ok-literal-in-Literal t c =
    passes-tree (ap expr_tree c.in-Literal.is ∙ ap (λ bytes. Trees.Literal bytes c.in-Literal.place) (sym c.as_slice.ensures)) (passes-plain c.in_ok-literal-in-Literal.ensures refl)

pub expressions::expr-returns-in_ok-null-in-Null : goal.expressions::expr-returns-in_ok-null-in-Null
expressions::expr-returns-in_ok-null-in-Null t c = passes-tree (ap expr_tree c.in-Null.is) (passes-plain c.in_ok-null-in-Null.ensures refl)

pub expressions::expr-returns-in_ok-constant-in-EndOfFile : goal.expressions::expr-returns-in_ok-constant-in-EndOfFile
expressions::expr-returns-in_ok-constant-in-EndOfFile t c =
    passes-tree (ap expr_tree c.in-EndOfFile.is) (passes-give (c.in_ok-constant-in-EndOfFile.ensures c.args.pass.now.checker.table))

pub expressions::expr-returns-in_ok-part-in-Parenthesized : goal.expressions::expr-returns-in_ok-part-in-Parenthesized
expressions::expr-returns-in_ok-part-in-Parenthesized t c =
    IfOk-weaker c.grouped.result _ _
    (λ r. passes-tree (ap expr_tree c.in-Parenthesized.is ∙ ap (λ x. Trees.Parenthesized c.in-Parenthesized.place (expr_tree x)) (sym c.deref.ensures)))
    (passes-grouped (expr_tree c.deref.result.now) c.grouped.result c.in_ok-part-in-Parenthesized.ensures c.grouped.ensures.stands
    (subst (λ place. IfOk c.grouped.result (λ made. (table : Interned) → each_in expr_in table made ≡ grouped_known place (each_in expr_in table c.in_ok-part-in-Parenthesized.part))) (c.place_of.ensures ∙ ap (λ x. place_of (expr_tree x)) (c.deref-in-Parenthesized.ensures ∙ sym c.deref.ensures)) c.grouped.ensures.grouped))

pub expressions::expr-returns-in-Index : goal.expressions::expr-returns-in-Index
expressions::expr-returns-in-Index t c =
    IfOk-weaker c.index_expr.result _ _
    (λ r. passes-tree (ap expr_tree c.in-Index.is ∙ (λ i. Trees.Index (expr_tree (sym c.deref-in-Index.ensures i)) (expr_tree (sym c.deref-in-Index-2.ensures i)))))
    c.index_expr.ensures

pub expressions::expr-returns-in-Call : goal.expressions::expr-returns-in-Call
expressions::expr-returns-in-Call t c =
    IfOk-weaker c.call_expr.result _ _
    (λ r. passes-tree (ap expr_tree c.in-Call.is ∙ expr_tree-call c.in-Call.function c.in-Call.«open» c.in-Call.arguments
    ∙ (λ i. Trees.Call (expr_tree (sym c.deref-in-Call.ensures i)) c.in-Call.«open» (arguments_of (sym c.as_slice-in-Call.ensures.value i)))))
    c.call_expr.ensures

pub expressions::expr-returns-in_ok-part-in-Member : goal.expressions::expr-returns-in_ok-part-in-Member
expressions::expr-returns-in_ok-part-in-Member t c =
    IfOk-weaker c.member_of.result _ _
    (λ r found. passes-tree (ap expr_tree c.in-Member.is)
    (passes-part (λ p scope. object_member scope p (name_tree c.in-Member.member)) c.deref-in-Member.ensures c.deref-in-Member-2.ensures c.place_of-in-Member.ensures c.in_ok-part-in-Member.ensures found))
    c.member_of.ensures

pub expressions::expr-returns-in_ok-pointer-in-PointerMember : goal.expressions::expr-returns-in_ok-pointer-in-PointerMember
expressions::expr-returns-in_ok-pointer-in-PointerMember t c =
    let pointer = expr_tree c.in-PointerMember.pointer.value in
    let member = name_tree c.in-PointerMember.member in
    let here = c.place_of-place.result in
    let s = c.args.pass.now in
    let scope = scope_of s.checker in
    let part = passes-tree (ap expr_tree (sym c.deref-in-PointerMember-2.ensures)) c.in_ok-part-in-PointerMember.ensures in
    IfOk-weaker c.pointed_member_of.result _ _
    (λ r found. passes-tree (ap expr_tree c.in-PointerMember.is)
    (subst (λ (p : Pos). Passes IsExpr (given (given (expr scope pointer) (value_rule p)) (pointer_member scope p member)) (named_in scope pointer) s (with_checker c.expr-in-PointerMember.new.pass c.pointed_member_of.new.checker) r) (c.place_of-place.ensures ∙ ap (λ x. place_of (expr_tree x)) c.deref-in-PointerMember.ensures)
    (passes-one-then ExprStands expr_in OperandStands operand_in (λ scope. expr scope pointer) (λ _. value_rule here) (λ scope. pointer_member scope here member) (λ scope. named_in scope pointer) part c.in_ok-pointer-in-PointerMember.ensures found)))
    c.pointed_member_of.ensures

pub expressions::expr-returns-in_ok-part-in-PostIncrement : goal.expressions::expr-returns-in_ok-part-in-PostIncrement
expressions::expr-returns-in_ok-part-in-PostIncrement t c =
    IfOk-weaker c.stepped.result _ _
    (λ r found. passes-tree (ap expr_tree c.in-PostIncrement.is)
    (passes-part (λ p scope. stepped scope S.PostIncrement p p) c.deref-in-PostIncrement.ensures c.deref-in-PostIncrement-2.ensures c.place_of-in-PostIncrement.ensures c.in_ok-part-in-PostIncrement.ensures found))
    c.stepped.ensures

pub expressions::expr-returns-in_ok-part-in-PostDecrement : goal.expressions::expr-returns-in_ok-part-in-PostDecrement
expressions::expr-returns-in_ok-part-in-PostDecrement t c =
    IfOk-weaker c.stepped-in-PostDecrement.result _ _
    (λ r found. passes-tree (ap expr_tree c.in-PostDecrement.is)
    (passes-part (λ p scope. stepped scope S.PostDecrement p p) c.deref-in-PostDecrement.ensures c.deref-in-PostDecrement-2.ensures c.place_of-in-PostDecrement.ensures c.in_ok-part-in-PostDecrement.ensures found))
    c.stepped-in-PostDecrement.ensures

pub expressions::expr-returns-in_ok-part-in-Prefix : goal.expressions::expr-returns-in_ok-part-in-Prefix
expressions::expr-returns-in_ok-part-in-Prefix t c =
    let operand = expr_tree c.in-Prefix.operand.value in
    let op = c.in-Prefix.operator in
    let whole = c.in-Prefix.place in
    let s = c.args.pass.now in
    let scope = scope_of s.checker in
    IfOk-weaker c.prefixed.result _ _
    (λ r found. passes-tree (ap expr_tree c.in-Prefix.is)
    (subst (λ checked. Passes IsExpr checked (named_in scope operand) s (with_checker c.expr-in-Prefix.new.pass c.prefixed.new.checker) r) (prefixed-given scope op whole (place_of operand) (expr scope operand))
    (passes-part (λ p scope. prefixed_rule scope op whole p) c.deref-in-Prefix.ensures c.deref-in-Prefix-2.ensures c.place_of-in-Prefix.ensures c.in_ok-part-in-Prefix.ensures found)))
    c.prefixed.ensures

pub expressions::expr-returns-in_ok-part-in-SizeofExpr : goal.expressions::expr-returns-in_ok-part-in-SizeofExpr
expressions::expr-returns-in_ok-part-in-SizeofExpr t c =
    let operand = expr_tree c.deref-in-SizeofExpr.result.now in
    let whole = c.in-SizeofExpr.place in
    IfOk-weaker c.size_of_expr.result _ _
    (λ r found. passes-tree (ap expr_tree c.in-SizeofExpr.is ∙ ap (λ x. Trees.SizeofExpr whole (expr_tree x)) (sym c.deref-in-SizeofExpr.ensures))
    (passes-one ExprStands expr_in (λ scope. expr scope operand) (λ scope. size_rule scope whole) (λ scope. named_in scope operand) c.in_ok-part-in-SizeofExpr.ensures found))
    c.size_of_expr.ensures

pub expressions::expr-returns-in_ok-c_type-in-SizeofType : goal.expressions::expr-returns-in_ok-c_type-in-SizeofType
expressions::expr-returns-in_ok-c_type-in-SizeofType t c =
    let box = c.in-SizeofType.type_name.value in
    let type_name = type_tree box in
    let there = (out-TypeName c.deref-in-SizeofType-2.result.now).simple.place in
    let s = c.args.pass.now in
    let scope = scope_of s.checker in
    let part = subst (λ (x : TypeName). Passes IsType (type_named scope (type_tree x)) (named_in_type scope (type_tree x)) s c.type_named.new.pass c.in_ok-c_type-in-SizeofType.c_type) c.deref-in-SizeofType.ensures c.in_ok-c_type-in-SizeofType.ensures in
    IfOk-weaker c.size_of_type.result _ _
    (λ r found. passes-tree (ap expr_tree c.in-SizeofType.is)
    (subst (λ (p : Pos). Passes IsExpr (given (type_named scope type_name) (size_of scope p)) (named_in_type scope type_name) s (with_checker c.type_named.new.pass c.size_of_type.new.checker) r)
    (ap (λ (x : TypeName). (out-TypeName x).simple.place) c.deref-in-SizeofType-2.ensures ∙ type_name-place box)
    (passes-one Stands type_in (λ scope. type_named scope type_name) (λ scope. size_of scope there) (λ scope. named_in_type scope type_name) part found)))
    c.size_of_type.ensures

pub expressions::expr-returns-in-Cast : goal.expressions::expr-returns-in-Cast
expressions::expr-returns-in-Cast t c =
    IfOk-weaker c.cast_expr.result _ _
    (λ r. passes-tree (ap expr_tree c.in-Cast.is ∙ (λ i. Trees.Cast c.in-Cast.place (type_tree (sym c.deref-in-Cast.ensures i)) (expr_tree (sym c.deref-in-Cast-2.ensures i)))))
    c.cast_expr.ensures

pub expressions::expr-returns-in-Binary : goal.expressions::expr-returns-in-Binary
expressions::expr-returns-in-Binary t c =
    IfOk-weaker c.binary_expr.result _ _
    (λ r. passes-tree (ap expr_tree c.in-Binary.is ∙ (λ i. Trees.Binary c.in-Binary.operator (expr_tree (sym c.deref-in-Binary.ensures i)) (expr_tree (sym c.deref-in-Binary-2.ensures i)))))
    c.binary_expr.ensures

pub expressions::expr-returns-in-Conditional : goal.expressions::expr-returns-in-Conditional
expressions::expr-returns-in-Conditional t c =
    IfOk-weaker c.conditional_expr.result _ _
    (λ r. passes-tree (ap expr_tree c.in-Conditional.is ∙ (λ i. Trees.Conditional (expr_tree (sym c.deref-in-Conditional.ensures i)) (expr_tree (sym c.deref-in-Conditional-2.ensures i)) (expr_tree (sym c.deref-in-Conditional-3.ensures i)))))
    c.conditional_expr.ensures

pub expressions::expr-returns-in-Assign : goal.expressions::expr-returns-in-Assign
expressions::expr-returns-in-Assign t c =
    IfOk-weaker c.assign_expr.result _ _
    (λ r. passes-tree (ap expr_tree c.in-Assign.is ∙ (λ i. Trees.Assign c.in-Assign.operator (expr_tree (sym c.deref-in-Assign.ensures i)) (expr_tree (sym c.deref-in-Assign-2.ensures i)))))
    c.assign_expr.ensures

pub declarators::optional_type-declared_type-requires : goal.declarators::optional_type-declared_type-requires
declarators::optional_type-declared_type-requires t c = (search rules, c.requires)

pub declarators::optional_type-returns-in-Some : goal.declarators::optional_type-returns-in-Some
declarators::optional_type-returns-in-Some t c =
    let s = c.args.pass.now in
    let base = known_already (each_in type_in s.checker.table c.args.base) in
    IfOk-weaker c.declared_type.result _ _
    (λ r found.
    subst (λ (d : Option Declarator). Passes IsType (optional_type (scope_of s.checker) c.args.here (role_of c.args.role) base (optional_of d)) (named_in_optional (scope_of s.checker) (optional_of d)) s c.declared_type.new.pass r) (sym c.in-Some.is) found)
    c.declared_type.ensures

pub declarators::optional_type-returns-in-None : goal.declarators::optional_type-returns-in-None
declarators::optional_type-returns-in-None t c =
    let s = c.args.pass.now in
    let known = each_in type_in s.checker.table c.args.base in
    subst (λ (d : Option Declarator). Passes IsType (optional_type (scope_of s.checker) c.args.here (role_of c.args.role) (known_already known) (optional_of d)) (named_in_optional (scope_of s.checker) (optional_of d)) s s c.args.base) (sym c.in-None.is)
    (passes-plain (finds-already Stands type_in s.checker c.args.base known c.requires refl) refl)

pub expressions::index_expr-as_value-requires : goal.expressions::index_expr-as_value-requires
expressions::index_expr-as_value-requires t c = stands-now ExprStands expr_in c.in_ok-part.ensures.finds

pub expressions::index_expr-as_value-requires-2 : goal.expressions::index_expr-as_value-requires-2
expressions::index_expr-as_value-requires-2 t c = stands-now ExprStands expr_in c.in_ok-part-2.ensures.finds

pub expressions::index_expr-element_of-requires-clause-left : goal.expressions::index_expr-element_of-requires-clause-left
expressions::index_expr-element_of-requires-clause-left t c =
    still-stands OperandStands operand_in stays-operand c.in_ok-left.ensures c.as_value-2.new.checker.table
    (grows_trans c.as_value.new.checker.table c.expr-2.new.pass.checker.table c.as_value-2.new.checker.table c.in_ok-part-2.ensures.finds.grows c.in_ok-right.ensures.grows)

pub expressions::index_expr-returns : goal.expressions::index_expr-returns
expressions::index_expr-returns t c =
    let array = expr_tree c.args.array.now in
    let index = expr_tree c.args.index.now in
    let here = c.place_of-left_place.result in
    let there = c.place_of-right_place.result in
    let scope = scope_of c.args.pass.now.checker in
    IfOk-weaker c.element_of.result _ _
    (λ r found.
    at_places (λ (p q : Pos). Passes IsExpr (given_two (given (expr scope array) (value_rule p)) (given (expr scope index) (value_rule q)) (indexed scope p q)) (named_in scope array ++ named_in scope index) c.args.pass.now (with_checker c.expr-2.new.pass c.element_of.new.checker) r) c.place_of-left_place.ensures c.place_of-right_place.ensures
    (passes-two ExprStands expr_in OperandStands operand_in ExprStands expr_in OperandStands operand_in (λ scope. expr scope array) (λ _. value_rule here) (λ scope. expr scope index) (λ _. value_rule there) (λ scope. indexed scope here there) (λ scope. named_in scope array) (λ scope. named_in scope index)
    stays-operand c.in_ok-part.ensures c.in_ok-left.ensures c.in_ok-part-2.ensures c.in_ok-right.ensures found))
    c.element_of.ensures

pub expressions::call_expr-call_of-requires-clause-function : goal.expressions::call_expr-call_of-requires-clause-function
expressions::call_expr-call_of-requires-clause-function t c =
    let function = expr_tree c.args.function.now in
    let s1 = c.argument_values.new.pass in
    let u = c.library_called.new.checker in
    let scope = scope_of s1.checker in
    let called : Passes IsExpr (library_called scope 0 function (expr scope function)) (named_in scope function) s1 c.match-branch-3.pass c.match-branch-3.known =
    elim c.match-branch-3.branch [
      | expressions::call_expr-in-Some w ↦ passes-library function s1 c.match-branch-3.pass u c.in_ok-known.field-0 c.match-branch-3.known w.in-Some.known c.in_ok-known.ensures w.in-Some.is w.pass-is w.known-is
      | expressions::call_expr-in-None+in_ok-known-in-None w ↦ passes-other function s1 w.expr.new.pass c.match-branch-3.pass u c.in_ok-known.field-0 c.match-branch-3.known w.in_ok-known-in-None.known c.in_ok-known.ensures w.in-None.is w.in_ok-known-in-None.ensures w.pass-is w.known-is
    ] in
    stands-now ExprStands expr_in called.finds

pub expressions::call_expr-call_of-requires-clause-arguments : goal.expressions::call_expr-call_of-requires-clause-arguments
expressions::call_expr-call_of-requires-clause-arguments t c =
    let function = expr_tree c.args.function.now in
    let s1 = c.argument_values.new.pass in
    let u = c.library_called.new.checker in
    let scope = scope_of s1.checker in
    let called : Passes IsExpr (library_called scope 0 function (expr scope function)) (named_in scope function) s1 c.match-branch-3.pass c.match-branch-3.known =
    elim c.match-branch-3.branch [
      | expressions::call_expr-in-Some w ↦ passes-library function s1 c.match-branch-3.pass u c.in_ok-known.field-0 c.match-branch-3.known w.in-Some.known c.in_ok-known.ensures w.in-Some.is w.pass-is w.known-is
      | expressions::call_expr-in-None+in_ok-known-in-None w ↦ passes-other function s1 w.expr.new.pass c.match-branch-3.pass u c.in_ok-known.field-0 c.match-branch-3.known w.in_ok-known-in-None.known c.in_ok-known.ensures w.in-None.is w.in_ok-known-in-None.ensures w.pass-is w.known-is
    ] in
    (arguments-stay s1.checker.table c.match-branch-3.pass.checker.table called.finds.grows c.in_ok-values.values.items c.in_ok-values.ensures.finds.known.0).0

pub expressions::call_expr-returns : goal.expressions::call_expr-returns
expressions::call_expr-returns t c =
    let function = expr_tree c.args.function.now in
    let arguments = arguments_of c.args.arguments.now in
    let s0 = c.args.pass.now in
    let s1 = c.argument_values.new.pass in
    let u = c.library_called.new.checker in
    let scope = scope_of s1.checker in
    let start = scope_of s0.checker in
    let called : Passes IsExpr (library_called scope 0 function (expr scope function)) (named_in scope function) s1 c.match-branch-3.pass c.match-branch-3.known =
    elim c.match-branch-3.branch [
      | expressions::call_expr-in-Some w ↦ passes-library function s1 c.match-branch-3.pass u c.in_ok-known.field-0 c.match-branch-3.known w.in-Some.known c.in_ok-known.ensures w.in-Some.is w.pass-is w.known-is
      | expressions::call_expr-in-None+in_ok-known-in-None w ↦ passes-other function s1 w.expr.new.pass c.match-branch-3.pass u c.in_ok-known.field-0 c.match-branch-3.known w.in_ok-known-in-None.known c.in_ok-known.ensures w.in-None.is w.in_ok-known-in-None.ensures w.pass-is w.known-is
    ] in
    IfOk-weaker c.call_of.result _ _
    (λ r found.
    subst (λ (p : Pos). Passes IsExpr (call p (library_called start 0 function (expr start function)) (argument_values start arguments)) (named_in_call start function arguments) s0 (with_checker c.match-branch-3.pass c.call_of.new.checker) r) c.place_of.ensures
    (passes-call function arguments c.place_of.result s0 s1 c.match-branch-3.pass c.in_ok-values.values c.match-branch-3.known c.in_ok-values.ensures called found))
    c.call_of.ensures

pub expressions::argument_values-as_value-requires : goal.expressions::argument_values-as_value-requires
expressions::argument_values-as_value-requires t c = stands-now ExprStands expr_in c.in_ok-part.ensures.finds

pub expressions::argument_values-loop-argument-preserved : goal.expressions::argument_values-loop-argument-preserved
expressions::argument_values-loop-argument-preserved t c =
    let all = c.args.arguments.now in
    let here = c.loop-argument.argument-index in
    let argument = c.argument-item.result in
    gathers-more all argument (drop here all) (drop (here + 1) all) c.place_of-place.result c.loop-argument.values.items c.push.new.self.items c.place_of-place.ensures
    (drop_more all here argument (omega arith) ∙ ap (λ first. first ∷ drop (here + 1) all) (sym c.argument-item.is))
    c.loop-argument.invariant c.in_ok-part.ensures c.in_ok-value.ensures c.in_ok-push.ensures.items

pub expressions::argument_values-returns : goal.expressions::argument_values-returns
expressions::argument_values-returns t c =
    let all = c.args.arguments.now in
    let here = c.loop-argument.argument-index in
    gathers-end all (drop here all) c.args.pass.now c.loop-argument.pass c.loop-argument.values (drop_all here all (omega arith)) c.loop-argument.invariant

pub expressions::cast_expr-as_value-requires : goal.expressions::cast_expr-as_value-requires
expressions::cast_expr-as_value-requires t c = stands-now ExprStands expr_in c.in_ok-part.ensures.finds

pub expressions::cast_expr-cast_of-requires-clause-c_type : goal.expressions::cast_expr-cast_of-requires-clause-c_type
expressions::cast_expr-cast_of-requires-clause-c_type t c =
    still-stands Stands type_in stays-type c.in_ok-c_type.ensures.finds c.as_value.new.checker.table
    (grows_trans c.type_named.new.pass.checker.table c.expr.new.pass.checker.table c.as_value.new.checker.table c.in_ok-part.ensures.finds.grows c.in_ok-value.ensures.grows)

pub expressions::cast_expr-returns : goal.expressions::cast_expr-returns
expressions::cast_expr-returns t c =
    let type_name = type_tree c.args.type_name.now in
    let part = expr_tree c.args.operand.now in
    let there = c.place_of-operand_place.result in
    let whole = c.args.place in
    let scope = scope_of c.args.pass.now.checker in
    IfOk-weaker c.cast_of.result _ _
    (λ r found.
    at_places (λ (p q : Pos). Passes IsExpr (given_two (type_named scope type_name) (given (expr scope part) (value_rule p)) (cast_to scope q)) (named_in_type scope type_name ++ named_in scope part) c.args.pass.now (with_checker c.expr.new.pass c.cast_of.new.checker) r) c.place_of-operand_place.ensures (λ i. whole)
    (passes-two-plain Stands type_in ExprStands expr_in OperandStands operand_in (λ scope. type_named scope type_name) (λ scope. expr scope part) (λ _. value_rule there) (λ scope. cast_to scope whole) (λ scope. named_in_type scope type_name) (λ scope. named_in scope part)
    stays-type c.in_ok-c_type.ensures c.in_ok-part.ensures c.in_ok-value.ensures found))
    c.cast_of.ensures

pub expressions::binary_expr-operand-requires : goal.expressions::binary_expr-operand-requires
expressions::binary_expr-operand-requires t c = stands-now ExprStands expr_in c.in_ok-part.ensures.finds

pub expressions::binary_expr-operand-requires-2 : goal.expressions::binary_expr-operand-requires-2
expressions::binary_expr-operand-requires-2 t c = stands-now ExprStands expr_in c.in_ok-part-2.ensures.finds

pub expressions::binary_expr-combination_of-requires-clause-left : goal.expressions::binary_expr-combination_of-requires-clause-left
expressions::binary_expr-combination_of-requires-clause-left t c =
    still-stands OperandStands operand_in stays-operand c.in_ok-a.ensures c.operand-2.new.checker.table
    (grows_trans c.operand.new.checker.table c.expr-2.new.pass.checker.table c.operand-2.new.checker.table c.in_ok-part-2.ensures.finds.grows c.in_ok-b.ensures.grows)

pub expressions::binary_expr-returns : goal.expressions::binary_expr-returns
expressions::binary_expr-returns t c =
    let left = expr_tree c.args.left.now in
    let right = expr_tree c.args.right.now in
    let op = c.args.operator in
    let here = c.place_of-place.result in
    let there = c.place_of-right_place.result in
    let scope = scope_of c.args.pass.now.checker in
    IfOk-weaker c.combination_of.result _ _
    (λ r found.
    at_places (λ (p q : Pos). Passes IsExpr (given_two (operand (operand_kind op) p (expr scope left)) (operand (operand_kind op) q (expr scope right)) (combined scope op p q)) (named_in scope left ++ named_in scope right) c.args.pass.now (with_checker c.expr-2.new.pass c.combination_of.new.checker) r) c.place_of-place.ensures c.place_of-right_place.ensures
    (subst (λ checked. Passes IsExpr checked (named_in scope left ++ named_in scope right) c.args.pass.now (with_checker c.expr-2.new.pass c.combination_of.new.checker) r)
    (λ i. given_two (operand-given op here (expr scope left) i) (operand-given op there (expr scope right) i) (combined scope op here there))
    (passes-two ExprStands expr_in OperandStands operand_in ExprStands expr_in OperandStands operand_in (λ scope. expr scope left) (λ _. operand_rule op here) (λ scope. expr scope right) (λ _. operand_rule op there) (λ scope. combined scope op here there) (λ scope. named_in scope left) (λ scope. named_in scope right)
    stays-operand c.in_ok-part.ensures c.in_ok-a.ensures c.in_ok-part-2.ensures c.in_ok-b.ensures found)))
    c.combination_of.ensures

pub expressions::binary_expr-combination_of-requires-clause-right : goal.expressions::binary_expr-combination_of-requires-clause-right
expressions::binary_expr-combination_of-requires-clause-right t c = stands-now OperandStands operand_in c.in_ok-b.ensures

pub expressions::conditional_expr-as_condition-requires : goal.expressions::conditional_expr-as_condition-requires
expressions::conditional_expr-as_condition-requires t c = stands-now ExprStands expr_in c.in_ok-part.ensures.finds

pub expressions::conditional_expr-as_value-requires : goal.expressions::conditional_expr-as_value-requires
expressions::conditional_expr-as_value-requires t c = stands-now ExprStands expr_in c.in_ok-part-2.ensures.finds

pub expressions::conditional_expr-as_value-requires-2 : goal.expressions::conditional_expr-as_value-requires-2
expressions::conditional_expr-as_value-requires-2 t c = stands-now ExprStands expr_in c.in_ok-part-3.ensures.finds

pub expressions::conditional_expr-choice_of-requires-clause-condition : goal.expressions::conditional_expr-choice_of-requires-clause-condition
expressions::conditional_expr-choice_of-requires-clause-condition t c =
    still-stands ConditionStands condition_in stays-condition c.in_ok-tested.ensures c.as_value-2.new.checker.table
    (grows_trans c.as_condition.new.checker.table c.as_value.new.checker.table c.as_value-2.new.checker.table
    (grows_trans c.as_condition.new.checker.table c.expr-2.new.pass.checker.table c.as_value.new.checker.table c.in_ok-part-2.ensures.finds.grows c.in_ok-a.ensures.grows)
    (grows_trans c.as_value.new.checker.table c.expr-3.new.pass.checker.table c.as_value-2.new.checker.table c.in_ok-part-3.ensures.finds.grows c.in_ok-b.ensures.grows))

pub expressions::conditional_expr-choice_of-requires-clause-then : goal.expressions::conditional_expr-choice_of-requires-clause-then
expressions::conditional_expr-choice_of-requires-clause-then t c =
    still-stands OperandStands operand_in stays-operand c.in_ok-a.ensures c.as_value-2.new.checker.table
    (grows_trans c.as_value.new.checker.table c.expr-3.new.pass.checker.table c.as_value-2.new.checker.table c.in_ok-part-3.ensures.finds.grows c.in_ok-b.ensures.grows)

pub expressions::conditional_expr-choice_of-requires-clause-otherwise : goal.expressions::conditional_expr-choice_of-requires-clause-otherwise
expressions::conditional_expr-choice_of-requires-clause-otherwise t c = stands-now OperandStands operand_in c.in_ok-b.ensures

pub expressions::conditional_expr-returns : goal.expressions::conditional_expr-returns
expressions::conditional_expr-returns t c =
    let condition = expr_tree c.args.condition.now in
    let taken = expr_tree c.args.then.now in
    let otherwise = expr_tree c.args.otherwise.now in
    let p = c.place_of-whole.result in
    let q = c.place_of-then_place.result in
    let o = c.place_of-otherwise_place.result in
    let scope = scope_of c.args.pass.now.checker in
    let named = (named_in scope condition ++ named_in scope taken) ++ named_in scope otherwise in
    IfOk-weaker c.choice_of.result _ _
    (λ r found.
    at_places (λ (p q : Pos). Passes IsExpr (given_three (as_condition p (expr scope condition)) (as_value q (expr scope taken)) (as_value (place_of otherwise) (expr scope otherwise)) (choice p)) named c.args.pass.now (with_checker c.expr-3.new.pass c.choice_of.new.checker) r) c.place_of-whole.ensures c.place_of-then_place.ensures
    (subst (λ (o : Pos). Passes IsExpr (given_three (as_condition p (expr scope condition)) (as_value q (expr scope taken)) (as_value o (expr scope otherwise)) (choice p)) named c.args.pass.now (with_checker c.expr-3.new.pass c.choice_of.new.checker) r) c.place_of-otherwise_place.ensures
    (passes-choice condition taken otherwise p q o c.in_ok-part.ensures c.in_ok-tested.ensures c.in_ok-part-2.ensures c.in_ok-a.ensures c.in_ok-part-3.ensures c.in_ok-b.ensures found)))
    c.choice_of.ensures

pub expressions::assign_expr-assigned_object-requires : goal.expressions::assign_expr-assigned_object-requires
expressions::assign_expr-assigned_object-requires t c = stands-now ExprStands expr_in c.in_ok-part.ensures.finds

pub expressions::assign_expr-assigned_value-requires : goal.expressions::assign_expr-assigned_value-requires
expressions::assign_expr-assigned_value-requires t c = stands-now ExprStands expr_in c.in_ok-part-2.ensures.finds

pub expressions::assign_expr-assignment_of-requires-clause-target : goal.expressions::assign_expr-assignment_of-requires-clause-target
expressions::assign_expr-assignment_of-requires-clause-target t c =
    still-stands TargetStands target_in stays-target c.in_ok-target.ensures c.assigned_value.new.checker.table
    (grows_trans c.assigned_object.new.checker.table c.expr-2.new.pass.checker.table c.assigned_value.new.checker.table c.in_ok-part-2.ensures.finds.grows c.in_ok-assigned.ensures.grows)

pub expressions::assign_expr-returns : goal.expressions::assign_expr-returns
expressions::assign_expr-returns t c =
    let object = expr_tree c.args.object.now in
    let value = expr_tree c.args.value.now in
    let op = c.operator_of-op.result in
    let here = c.place_of-place.result in
    let there = c.place_of-value_place.result in
    let scope = scope_of c.args.pass.now.checker in
    let named = named_in scope object ++ named_in scope value in
    IfOk-weaker c.assignment_of.result _ _
    (λ r found.
    subst (λ (op : Option BinOp). Passes IsExpr (given_two (assigned_object scope op (place_of object) (expr scope object)) (assigned_value op (place_of value) (expr scope value)) (assignment op (place_of object) (place_of value))) named c.args.pass.now (with_checker c.expr-2.new.pass c.assignment_of.new.checker) r) c.operator_of-op.ensures
    (at_places (λ (p q : Pos). Passes IsExpr (given_two (assigned_object scope op p (expr scope object)) (assigned_value op q (expr scope value)) (assignment op p q)) named c.args.pass.now (with_checker c.expr-2.new.pass c.assignment_of.new.checker) r) c.place_of-place.ensures c.place_of-value_place.ensures
    (subst (λ checked. Passes IsExpr checked named c.args.pass.now (with_checker c.expr-2.new.pass c.assignment_of.new.checker) r)
    (λ i. given_two (assigned_object-given scope op here (expr scope object) i) (assigned_value-given op there (expr scope value) i) (assignment op here there))
    (passes-two ExprStands expr_in TargetStands target_in ExprStands expr_in OperandStands operand_in (λ scope. expr scope object) (λ scope. assigned_object_rule scope op here) (λ scope. expr scope value) (λ _. assigned_value_rule op there) (λ _. assignment op here there) (λ scope. named_in scope object) (λ scope. named_in scope value)
    stays-target c.in_ok-part.ensures c.in_ok-target.ensures c.in_ok-part-2.ensures c.in_ok-assigned.ensures found))))
    c.assignment_of.ensures

pub expressions::assign_expr-assignment_of-requires-clause-operand : goal.expressions::assign_expr-assignment_of-requires-clause-operand
expressions::assign_expr-assignment_of-requires-clause-operand t c = stands-now OperandStands operand_in c.in_ok-assigned.ensures

pub declarators::type_named-name_type-requires : goal.declarators::type_named-name_type-requires
declarators::type_named-name_type-requires t c = known_stands c.optional_type.new.pass.checker.table c.in_ok-c_type.c_type (stands-now Stands type_in c.in_ok-c_type.ensures.finds)

pub declarators::type_named-returns : goal.declarators::type_named-returns
declarators::type_named-returns t c =
    let scope = scope_of c.args.pass.now.checker in
    let parts = out-TypeName c.args.type_name.now in
    let named = c.in_ok-name_type.ensures in
    subst (λ (tree : TypeTree). Passes IsType (rules.type_named scope tree) (named_in_type scope tree) c.args.pass.now c.name_type.new.self c.in_ok-c_type.c_type) (sym (type_tree-out c.args.type_name.now))
    (passes-named {s = c.args.pass.now} {p = c.optional_type.new.pass} {q = c.name_type.new.self} parts.simple.place Required (words_type scope (words_tree parts.simple)) (optional_of parts.declarator) c.in_ok-base.ensures c.in_ok-c_type.ensures named.checker named.names)

pub declarators::stated_length-as_integer-requires : goal.declarators::stated_length-as_integer-requires
declarators::stated_length-as_integer-requires t c = stands-now ExprStands expr_in c.in_ok-part.ensures.finds

pub declarators::stated_length-returns-in_default : goal.declarators::stated_length-returns-in_default
declarators::stated_length-returns-in_default t c =
    let scope = scope_of c.args.pass.now.checker in
    let tree = expr_tree c.args.value.now in
    let first = c.in_ok-part.ensures in
    let second = c.in_ok-operand.ensures in
    subst (λ (p : Pos). Passes (IsSame {A = ℕ}) (given (as_constant p (expr scope tree)) (positive c.args.here)) (named_in scope tree) c.args.pass.now (with_checker c.expr.new.pass c.as_integer.new.checker) None) c.place_of-place.ensures
    (passes-made first second.grows refl (stated-none c.place_of-place.result c.args.here (expr scope tree) c.in_ok-operand.field-0 c.in_default.is first.finds second))

pub declarators::stated_length-returns-in-Some-constant_value : goal.declarators::stated_length-returns-in-Some-constant_value
declarators::stated_length-returns-in-Some-constant_value t c =
    let scope = scope_of c.args.pass.now.checker in
    let tree = expr_tree c.args.value.now in
    let first = c.in_ok-part.ensures in
    let second = c.in_ok-operand.ensures in
    let third = c.in-Some-constant_value.ensures in
    let fits : FitsSigned w128 c.in-Some-constant_value.number = search rules in
    let fourth : Finds (IsSame {A = ℕ}) (positive c.args.here c.in-Some-constant_value.number) c.constant_value.new.checker c.positive.new.checker c.positive.result = simp to_z-of_z at c.positive.ensures in
    let a = c.expr.new.pass.checker.table in
    let b = c.as_integer.new.checker.table in
    let d = c.constant_value.new.checker.table in
    let e = c.positive.new.checker.table in
    subst (λ (p : Pos). Passes (IsSame {A = ℕ}) (given (as_constant p (expr scope tree)) (positive c.args.here)) (named_in scope tree) c.args.pass.now (with_checker c.expr.new.pass c.positive.new.checker) c.positive.result) c.place_of-place.ensures
    (passes-made first (grows_trans a b e second.grows (grows_trans b d e third.grows fourth.grows)) refl
    (stated-some c.place_of-place.result c.args.here (expr scope tree) c.in_ok-operand.field-0 c.in-Some.operand c.in-Some-constant_value.number c.in-Some.is first.finds second third fourth))

pub declarators::stated_length-returns : goal.declarators::stated_length-returns
declarators::stated_length-returns t c =
    let scope = scope_of c.args.pass.now.checker in
    let tree = expr_tree c.args.value.now in
    let first = c.in_ok-part.ensures in
    let second = c.in_ok-operand.ensures in
    let third = c.in-None.ensures in
    let a = c.expr.new.pass.checker.table in
    let b = c.as_integer.new.checker.table in
    let d = c.constant_value.new.checker.table in
    subst (λ (p : Pos). Passes (IsSame {A = ℕ}) (given (as_constant p (expr scope tree)) (positive c.args.here)) (named_in scope tree) c.args.pass.now (with_checker c.expr.new.pass c.constant_value.new.checker) None) c.place_of-place.ensures
    (passes-made first (grows_trans a b d second.grows third.grows) refl
    (stated-unknown c.place_of-place.result c.args.here (expr scope tree) c.in_ok-operand.field-0 c.in-Some.operand c.in-Some.is first.finds second third))

pub declarators::suffixes_type-loop-index-preserved : goal.declarators::suffixes_type-loop-index-preserved
declarators::suffixes_type-loop-index-preserved t c =
    let s = c.args.pass.now in
    let role = role_of c.args.role in
    let index = c.loop-index.index in
    let suffixes = c.args.suffixes.now in
    let next : suc (c.loop-index.index - 1) ≡ c.loop-index.index = omega arith in
    let lt : c.loop-index.index - 1 < length c.args.suffixes.now = omega arith in
    let own : role_of c.if-index-eq0.own ≡ role_at (c.loop-index.index - 1) (role_of c.args.role) = elim c.if-index-eq0.branch [
      | declarators::suffixes_type-then-index-eq0 w ↦ own_role (c.loop-index.index - 1) c.if-index-eq0.own c.args.role (omega arith) w.own-is
      | declarators::suffixes_type-else-index-eq0 w ↦ own_required (c.loop-index.index - 1) c.if-index-eq0.own (role_of c.args.role) (omega arith) w.own-is
    ] in
    record {
      within = omega arith;
      found = followed-more {s = s} {p = c.loop-index.pass} {q = c.suffix_type.new.pass} c.args.here (role_of c.if-index-eq0.own) (role_at (index - 1) role) (role_at index role) (each_in type_in s.checker.table c.args.base) c.index-suffixes-index.result (drop index suffixes) (drop (index - 1) suffixes)
          (role_behind index role c.loop-index-test.true) own (suffix-next suffixes (index - 1) index c.index-suffixes-index.result next lt c.index-suffixes-index.is) c.loop-index.invariant.found c.in_ok-c_type.ensures;
    }

pub declarators::suffix_type-missing_length-length-requires : goal.declarators::suffix_type-missing_length-length-requires
declarators::suffix_type-missing_length-length-requires t c = types_stay c.args.pass.now.checker.table c.as_element-element.new.checker.table c.as_element-element.ensures.grows c.args.inner c.requires

pub declarators::suffix_type-array_of-requires : goal.declarators::suffix_type-array_of-requires
declarators::suffix_type-array_of-requires t c =
    let grows : Grows c.as_element-element.new.checker.table c.match-length.pass.checker.table = elim c.match-length.branch [
      | declarators::suffix_type-in-Some+in_ok-length-in-Some w ↦ subst (λ (p : Pass). Grows c.as_element-element.new.checker.table p.checker.table) (sym w.pass-is) w.in_ok-length-in-Some.ensures.finds.grows
      | declarators::suffix_type-in-None w ↦ subst (λ (p : Pass). Grows c.as_element-element.new.checker.table p.checker.table) (sym w.pass-is) w.missing_length-length.ensures.grows
    ] in
    elements_stay c.as_element-element.new.checker.table c.match-length.pass.checker.table grows c.as_element-element.result (stands-now IsObject type_in c.as_element-element.ensures)

pub declarators::suffix_type-function_of-requires-clause-returned : goal.declarators::suffix_type-function_of-requires-clause-returned
declarators::suffix_type-function_of-requires-clause-returned t c =
    types_stay c.as_result-returned.new.checker.table c.function_parameters.new.pass.checker.table c.in_ok-parameters-in-Function.ensures.finds.grows c.as_result-returned.result (stands-now Stands type_in c.as_result-returned.ensures)

pub declarators::suffix_type-function_of-requires-clause-parameters : goal.declarators::suffix_type-function_of-requires-clause-parameters
declarators::suffix_type-function_of-requires-clause-parameters t c = stands-now ListStands types_in c.in_ok-parameters-in-Function.ensures.finds

pub declarators::suffix_type-returns-after-length : goal.declarators::suffix_type-returns-after-length
declarators::suffix_type-returns-after-length t c =
    let s = c.args.pass.now in
    let scope = scope_of s.checker in
    let role = role_of c.args.role in
    let known = each_in type_in s.checker.table c.args.inner in
    let t = c.as_element-element.new.checker in
    let length : Passes (IsSame {A = ℕ}) (length_value c.args.here role known (length_stated (scope_of t) (length_of c.in-Array.length))) (named_in_length (scope_of t) (length_of c.in-Array.length)) (with_checker s t) c.match-length.pass c.match-length.length = elim c.match-length.branch [
      | declarators::suffix_type-in-Some+in_ok-length-in-Some w ↦ length-stated s c.args.here role known c.in-Array.length w.in-Some.value c.match-length.length w.in-Some.is w.pass-is w.length-is w.in_ok-length-in-Some.ensures
      | declarators::suffix_type-in-None w ↦ length-missing s c.args.here role c.args.inner c.in-Array.length c.match-length.length w.in-None.is w.pass-is w.length-is c.as_element-element.ensures.grows c.requires w.missing_length-length.ensures
    ] in
    IfOk-weaker c.array_of.result _ _
    (λ r found.
    subst (λ (tree : SuffixTree). Passes IsType (suffix_type scope c.args.here role tree (known_already known)) (named_in_suffix scope tree) s (with_checker c.match-length.pass c.array_of.new.checker) r) (sym (ap suffix_of c.in-Array.is ∙ suffix_of-array c.in-Array.length))
    (passes-array {s = s} {p = c.match-length.pass} c.args.here role (length_of c.in-Array.length) known c.as_element-element.ensures length found))
    c.array_of.ensures

pub declarators::suffix_type-returns-in_ok-parameters-in-Function : goal.declarators::suffix_type-returns-in_ok-parameters-in-Function
declarators::suffix_type-returns-in_ok-parameters-in-Function t c =
    let s = c.args.pass.now in
    let scope = scope_of s.checker in
    let known = each_in type_in s.checker.table c.args.inner in
    let t = c.as_result-returned.new.checker in
    let parameters = parameters_of c.in-Function.parameters.items in
    IfOk-weaker c.function_of.result _ _
    (λ r found.
    subst (λ (tree : SuffixTree). Passes IsType (suffix_type scope c.args.here (role_of c.args.role) tree (known_already known)) (named_in_suffix scope tree) s (with_checker c.function_parameters.new.pass c.function_of.new.checker) r) (sym (ap suffix_of c.in-Function.is ∙ suffix_of-function c.in-Function.parameters))
    (passes-function {s = s} {p = c.function_parameters.new.pass} c.args.here (role_of c.args.role) parameters known c.as_result-returned.ensures
    (subst (λ (items : List Parameter). Passes IsTypes (parameter_list (scope_of t) (parameters_of items)) (named_in_list_of (scope_of t) (parameters_of items)) (with_checker s t) c.function_parameters.new.pass c.in_ok-parameters-in-Function.parameters) c.as_slice.ensures.value c.in_ok-parameters-in-Function.ensures)
    found))
    c.function_of.ensures

pub declarators::function_parameters-returns-then-is_void_alone : goal.declarators::function_parameters-returns-then-is_void_alone
declarators::function_parameters-returns-then-is_void_alone t c = listed-void {s = c.args.pass.now} (parameters_of c.args.parameters.now) c.in_ok-no_parameters.field-0 (sym c.if-is_void_alone.ensures) c.in_ok-no_parameters.ensures.made

pub declarators::function_parameters-loop-parameter-preserved : goal.declarators::function_parameters-loop-parameter-preserved
declarators::function_parameters-loop-parameter-preserved t c =
    let old = c.args.pass.now in
    let all = parameters_of c.args.parameters.now in
    let now = c.loop-parameter.pass in
    let names = names_of c.loop-parameter.names.keys in
    let index = c.loop-parameter.parameter-index in
    let left = parameters_of (drop index c.args.parameters.now) in
    let next = c.one_parameter.new.pass in
    let others = names_of c.one_parameter.new.names.keys in
    let words = words_tree (out-Parameter c.parameter-item.result).simple in
    let declarator = optional_of (out-Parameter c.parameter-item.result).declarator in
    let rest = parameters_of (drop (index + 1) c.args.parameters.now) in
    let is_left = parameter-next c.args.parameters.now index c.parameter-item.result c.loop-parameter-test.true c.parameter-item.is in
    let found = c.in_ok-c_type.ensures in
    let leads : NotedParameters old all next others rest c.match-branch-3.are_known c.match-branch-3.types.items = elim c.match-branch-3.branch [
      | declarators::function_parameters-in-Some+in_ok-push-in-Some w ↦ leads-same old all next others rest w.are_known-is (ap (λ types. types.items) w.types-is)
          (leads-some old all now names left c.loop-parameter.are_known c.loop-parameter.types.items c.loop-parameter.invariant.leads next others words declarator rest c.in_ok-c_type.field-0 is_left c.loop-parameter.invariant.scope found.names found.found w.in-Some.c_type w.push.new.self.items w.in-Some.is w.in_ok-push-in-Some.ensures.items)
      | declarators::function_parameters-in-None w ↦ leads-same old all next others rest w.are_known-is (ap (λ types. types.items) w.types-is)
          (leads-none old all now names left c.loop-parameter.are_known c.loop-parameter.types.items c.loop-parameter.invariant.leads next others words declarator rest c.in_ok-c_type.field-0 is_left c.loop-parameter.invariant.scope found.names found.found w.in-None.is)
    ] in
    record {
      scope = found.found.finds.scope ∙ c.loop-parameter.invariant.scope;
      leads = leads;
    }

pub declarators::function_parameters-returns-then-not-are_known : goal.declarators::function_parameters-returns-then-not-are_known
declarators::function_parameters-returns-then-not-are_known t c =
    listed-none c.args.pass.now (parameters_of c.args.parameters.now) c.loop-parameter.pass (names_of c.loop-parameter.names.keys) (parameters_of (drop c.loop-parameter.parameter-index c.args.parameters.now)) c.loop-parameter.are_known c.loop-parameter.types.items c.loop-parameter.invariant.leads
    (parameters-end c.args.parameters.now c.loop-parameter.parameter-index c.loop-parameter-test.false) (sym c.if-is_void_alone.ensures) c.if-not-are_known.true

pub declarators::function_parameters-list_of-requires : goal.declarators::function_parameters-list_of-requires
declarators::function_parameters-list_of-requires t c =
    subst (λ (types : List CType). TypesStand c.loop-parameter.pass.checker.table types) (sym c.as_slice.ensures.value)
    (listed-stand c.args.pass.now (parameters_of c.args.parameters.now) c.loop-parameter.pass (names_of c.loop-parameter.names.keys) (parameters_of (drop c.loop-parameter.parameter-index c.args.parameters.now)) c.loop-parameter.are_known c.loop-parameter.types.items c.loop-parameter.invariant.leads
    (parameters-end c.args.parameters.now c.loop-parameter.parameter-index c.loop-parameter-test.false) c.if-not-are_known.false)

pub declarators::function_parameters-returns : goal.declarators::function_parameters-returns
declarators::function_parameters-returns t c =
    listed-some c.args.pass.now (parameters_of c.args.parameters.now) c.loop-parameter.pass (names_of c.loop-parameter.names.keys) (parameters_of (drop c.loop-parameter.parameter-index c.args.parameters.now)) c.loop-parameter.are_known c.loop-parameter.types.items c.loop-parameter.invariant.leads
    (parameters-end c.args.parameters.now c.loop-parameter.parameter-index c.loop-parameter-test.false) c.in_ok-list_of.field-0 (sym c.if-is_void_alone.ensures) c.if-not-are_known.false
    (subst (λ (types : List CType). Finds IsTypes (give (list_in c.loop-parameter.pass.checker.table types)) c.loop-parameter.pass.checker c.list_of.new.checker (Some c.in_ok-list_of.field-0)) c.as_slice.ensures.value c.in_ok-list_of.ensures)

pub declarators::one_parameter-returns-clause-found : goal.declarators::one_parameter-returns-clause-found
declarators::one_parameter-returns-clause-found t c =
    let parts = out-Parameter c.args.parameter.now in
    let named = c.in_ok-name_type.ensures in
    passes-parameter {s = c.args.pass.now} {p = c.optional_type.new.pass} {q = c.name_type.new.self} (names_of c.args.names.now.keys) (words_tree parts.simple) (optional_of parts.declarator) (option_map (λ name. name_tree name.now) c.optional_name-name.result) c.name_place-here.result c.optional_name-name.ensures c.name_place-here.ensures
    c.in_ok-note_parameter.ensures.found c.in_ok-base.ensures c.in_ok-named.ensures c.in_ok-own.ensures named.checker named.names

pub declarators::one_parameter-returns-clause-names : goal.declarators::one_parameter-returns-clause-names
declarators::one_parameter-returns-clause-names t c =
    subst (λ (name : Option NameTree). SameNames (names_of c.note_parameter.new.names.keys) (with_name name (names_of c.args.names.now.keys))) c.optional_name-name.ensures c.in_ok-note_parameter.ensures.names

pub declarators::declared_type-returns-in_default : goal.declarators::declared_type-returns-in_default
declarators::declared_type-returns-in_default t c =
    let s = c.args.pass.now in
    let scope = scope_of s.checker in
    let base = each_in type_in s.checker.table c.args.base in
    let declarator = c.args.declarator.now in
    let role = role_of c.args.role in
    let outside = rules.role_outside (direct_tree declarator.direct) role in
    passes-flat {s = s} c.args.here role (rules.suffixes_type scope c.args.here outside (rules.pointed declarator.stars base) (suffixes_of declarator.suffixes.items)) (named_in_suffixes scope (suffixes_of declarator.suffixes.items)) declarator.direct c.in_default.not-Nested
    (passes-outer-items {s = s} c.args.here base declarator.stars (role_of c.role_outside-outside.result) outside c.as_slice.result.now declarator.suffixes.items c.role_outside-outside.ensures c.as_slice.ensures.value c.in_ok-base.ensures c.in_ok-outer.ensures)

pub declarators::declared_type-returns-in-Nested : goal.declarators::declared_type-returns-in-Nested
declarators::declared_type-returns-in-Nested t c =
    let s = c.args.pass.now in
    let scope = scope_of s.checker in
    let base = each_in type_in s.checker.table c.args.base in
    let declarator = c.args.declarator.now in
    let role = role_of c.args.role in
    let outside = rules.role_outside (direct_tree declarator.direct) role in
    IfOk-weaker c.declared_type.result _ _
    (λ r found.
    passes-nested-read {s = s} {p = c.suffixes_type.new.pass} {q = c.declared_type.new.pass} c.args.here role (rules.suffixes_type scope c.args.here outside (rules.pointed declarator.stars base) (suffixes_of declarator.suffixes.items)) (named_in_suffixes scope (suffixes_of declarator.suffixes.items)) declarator.direct c.in-Nested.inner c.deref.result.now c.in-Nested.is c.deref.ensures
    (passes-outer-items {s = s} c.args.here base declarator.stars (role_of c.role_outside-outside.result) outside c.as_slice.result.now declarator.suffixes.items c.role_outside-outside.ensures c.as_slice.ensures.value c.in_ok-base.ensures c.in_ok-outer.ensures)
    found)
    c.declared_type.ensures
