use Rattle.std.proofs.Common.{Option, option_map, take, Bor, refl, sym, ap, ◌∙◌}
use Rattle.c_syntax.specs.declared.expr.Parameter.{out-Parameter}
use Rattle.c_syntax.specs.declared.name.Name.{Name}
use Rattle.c_syntax.specs.Views.{name_tree, words_tree, optional_of}
use Rattle.c_typed.specs.Table.{Stands, type_in}
use Rattle.c_rules.specs.declared.violation.Violation.{Violation}
use Rattle.c_types_state.specs.NameTables.{State}
use Rattle.c_rules.specs.Expressions.{optional_name}
use Rattle.c_types_expressions.proofs.Giving.{stands-now}
use Rattle.c_types.proofs.ParameterLocals.{local-some}
use Rattle.c_types.proofs.parameters.parameter_local.Goals as goal

pub parameter_type-requires : goal.parameter_type-requires
parameter_type-requires c = stands-now Stands type_in c.in_ok-declared.ensures.finds

abbrev with_least : State → Option Violation → State
with_least state least = record state { least = least }

pub returns : goal.returns
returns c =
    let s = c.args.pass.now in
    let parts = out-Parameter c.args.parameter.now in
    let is_name = ap (option_map (λ (name : Bor Name). name_tree name.now)) (sym c.in-Some.is) ∙ c.optional_name.ensures in
    local-some {s = s} {p = c.optional_type.new.pass} {q = record { checker = c.restore.new.self; named = c.truncate.new.self }} (words_tree parts.simple) (optional_of parts.declarator) (name_tree c.in-Some.name.now) (optional_name (optional_of parts.declarator)) c.in-Some.name.now.place is_name refl
    c.in_ok-base.ensures c.in_ok-declared.ensures c.in_ok-c_type.ensures
    (c.restore.ensures ∙ ap (with_least c.parameter_type.new.checker) c.least-least.ensures)
    (c.truncate.ensures.items ∙ ap (λ n. take n c.optional_type.new.pass.named.items) (c.len-named.ensures ∙ s.named.ok.0))
