use Rattle.std.proofs.Common.{◌≡◌, ◌∙◌}
use Rattle.c_syntax.specs.Views.{words_tree, init_declarator_tree}
use Rattle.c_typed.specs.Table.{Stands, type_in}
use Rattle.c_rules.specs.Expressions.{words_type}
use Rattle.c_rules.specs.Statements.{declare_local}
use Rattle.c_types_state.specs.NameTables.{scope_of}
use Rattle.c_types_state.specs.Finding.{each_in}
use Rattle.c_types_state.proofs.Findings.{seen-known}
use Rattle.c_types_expressions.proofs.Giving.{stands-now}
use Rattle.c_types.proofs.scopes.declare_local.Goals as goal

pub local-requires : goal.local-requires
local-requires c = stands-now Stands type_in c.in_ok-base.ensures

pub returns : goal.returns
returns c =
    let finds = c.in_ok-base.ensures in
    let simple = c.args.simple.now in
    let known : each_in type_in c.words_type.new.checker.table c.in_ok-base.base ≡ (words_type (scope_of c.args.pass.now.checker) (words_tree simple)).known = seen-known Stands type_in c.words_type.new.checker.table c.in_ok-base.base _ finds.known in
    c.in_ok-local.ensures.covers.scope ∙ (λ i. (declare_local simple.place (known i) (init_declarator_tree c.args.tree.now) (finds.scope i)).scope)
