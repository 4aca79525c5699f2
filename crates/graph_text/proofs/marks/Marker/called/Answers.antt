use Rattle.std.proofs.Common.{◌≡◌, subst, ◌∙◌}
use Rattle.c_syntax.specs.Views.{expr_tree}
use Rattle.c_typed.specs.Table.{type_in}
use Rattle.c_rules.specs.Expressions.{expr}
use Rattle.c_types_state.specs.NameTables.{scope_of}
use Rattle.c_types_state.specs.Finding.{IsOption, IsExpr}
use Rattle.graph_text.specs.Adding.{scope_at}
use Rattle.graph_text.specs.Marks.{returns_pointer, called_type, pointers_of, gives_pointer, called_pointers}
use Rattle.graph_text.proofs.CalledKnown.{holds-anyway, follows, known-gives, known-pointers, unknown-gives, unknown-pointers}
use Rattle.graph_text.proofs.marks.Marker.called.Goals as goal

pub returns-in-Some-clause-scope : goal.returns-in-Some-clause-scope
unfolding scope_at
returns-in-Some-clause-scope c = holds-anyway c.function_behind.result (c.in_ok-known.ensures {u = tt}).finds.scope

pub returns-in-Some-clause-gives : goal.returns-in-Some-clause-gives
unfolding scope_at
returns-in-Some-clause-gives c =
    let table = c.expr.new.pass.checker.table in
    let found = (expr (scope_of c.args.self.now.pass.checker) (expr_tree c.args.function.now)).known in
    let is = subst (λ known. IsOption (IsExpr table) known found) c.in-Some.is (c.in_ok-known.ensures {u = tt}).finds.known in
    follows (λ called. called.gives_pointer ≡ returns_pointer (called_type (type_in table c.in-Some.known.c_type))) (λ called. called.gives_pointer ≡ gives_pointer found) c.function_behind.result
    (λ called h. h ∙ known-gives table c.in-Some.known found is) c.function_behind.ensures.gives

pub returns-in-Some-clause-pointers : goal.returns-in-Some-clause-pointers
unfolding scope_at
returns-in-Some-clause-pointers c =
    let table = c.expr.new.pass.checker.table in
    let found = (expr (scope_of c.args.self.now.pass.checker) (expr_tree c.args.function.now)).known in
    let is = subst (λ known. IsOption (IsExpr table) known found) c.in-Some.is (c.in_ok-known.ensures {u = tt}).finds.known in
    follows (λ called. called.pointers.items ≡ pointers_of (called_type (type_in table c.in-Some.known.c_type))) (λ called. called.pointers.items ≡ called_pointers found) c.function_behind.result
    (λ called h. h ∙ known-pointers table c.in-Some.known found is) c.function_behind.ensures.pointers

pub returns-in-None-clause-scope : goal.returns-in-None-clause-scope
unfolding scope_at
returns-in-None-clause-scope c = (c.in_ok-known.ensures {u = tt}).finds.scope

pub returns-in-None-clause-gives : goal.returns-in-None-clause-gives
unfolding scope_at
returns-in-None-clause-gives c =
    let table = c.expr.new.pass.checker.table in
    let found = (expr (scope_of c.args.self.now.pass.checker) (expr_tree c.args.function.now)).known in
    unknown-gives table found (subst (λ known. IsOption (IsExpr table) known found) c.in-None.is (c.in_ok-known.ensures {u = tt}).finds.known)

pub returns-in-None-clause-pointers : goal.returns-in-None-clause-pointers
unfolding scope_at
returns-in-None-clause-pointers c =
    let table = c.expr.new.pass.checker.table in
    let found = (expr (scope_of c.args.self.now.pass.checker) (expr_tree c.args.function.now)).known in
    c.new.ensures.items ∙ unknown-pointers table found (subst (λ known. IsOption (IsExpr table) known found) c.in-None.is (c.in_ok-known.ensures {u = tt}).finds.known)
