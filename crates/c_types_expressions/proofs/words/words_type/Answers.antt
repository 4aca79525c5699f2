use Rattle.std.proofs.Common.{Some, refl, sym, subst}
use Rattle.c_syntax.specs.Views.{simple_tree}
use Rattle.c_typed.proofs.Grown.{void_stands, integer_stands}
use Rattle.c_rules.specs.Expressions.{simple_type}
use Rattle.c_types_state.specs.Finding.{Finds, IsType}
use Rattle.c_types_state.specs.NameTables.{scope_of}
use Rattle.c_types_state.proofs.Findings.{finds-give}
use Rattle.c_types_expressions.proofs.words.words_type.Goals as goal

pub returns-in-Void : goal.returns-in-Void
returns-in-Void c =
    subst (λ kind. Finds IsType (simple_type (scope_of c.args.checker.now) (simple_tree kind)) c.args.checker.now c.args.checker.now (Some (record { 0 = 0 }))) (sym c.in-Void.is)
    (finds-give (void_stands c.args.checker.now.table (record { 0 = 0 }) refl))

pub returns-in-Integer : goal.returns-in-Integer
returns-in-Integer c =
    subst (λ kind. Finds IsType (simple_type (scope_of c.args.checker.now) (simple_tree kind)) c.args.checker.now c.args.checker.now (Some c.integer.result)) (sym c.in-Integer.is)
    (finds-give (integer_stands c.args.checker.now.table c.integer.result c.in-Integer.int_type c.integer.ensures))
