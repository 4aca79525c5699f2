use Rattle.std.proofs.Common.{arith, [], true, false, codes, sym, subst, ◌∙◌}
use Rattle.run_theory.specs.declared.ends.UbKind.TheVariants as Ub
use Rattle.run_theory.specs.Runs as Runs
use Rattle.c_typed.specs.DefinitionViews.{function_in}
use Rattle.ref_semantics.specs.First.{main_type}
use Rattle.ref_meaning.specs.Views.{table_of}
use Rattle.ref_meaning.specs.Holding.{TaskFinds}
use Rattle.ref_meaning.specs.Moving.{Moves, IsOver}
use Rattle.ref_meaning.proofs.Making.{number-within, called-is, called-stands, called-type-stands, type-differs, type-fits, in-table, acting-start}
use Rattle.ref_meaning.proofs.run.RefRun.start.Goals as goal

pub index-function-requires : goal.index-function-requires
index-function-requires c = let within = number-within c.args.self.now c.requires.holds (codes "main") c.in-Some.number (sym c.requires.holds.main ∙ c.in-Some.is) in omega (arith, within)

pub is_main_type-requires : goal.is_main_type-requires
is_main_type-requires c =
    called-type-stands c.args.self.now c.requires.holds (codes "main") c.in-Some.number (sym c.requires.holds.main ∙ c.in-Some.is) c.index-function.result.now c.index-function.ensures

pub returns-then-not-is_main_type-clause-moves : goal.returns-then-not-is_main_type-clause-moves
returns-then-not-is_main_type-clause-moves c = λ state at.
    let old = c.args.self.now in
    let function = c.index-function.result.now in
    subst (λ eval. IsOver eval state (Runs.Undefined Ub.U14 (record { line = 1; column = 1 }))) (sym (acting-start old c.requires.task))
    (type-differs old true (record { line = 1; column = 1 }) main_type [] (codes "main") c.in-Some.number (function_in (table_of old) function)
    (called-is old c.requires.holds (codes "main") c.in-Some.number (sym c.requires.holds.main ∙ c.in-Some.is) function c.index-function.ensures)
    (in-table old c.requires.holds function.c_type false main_type c.if-not-is_main_type.ensures) state)

pub begin-requires-clause-unawaited : goal.begin-requires-clause-unawaited
begin-requires-clause-unawaited c = λ awaits. subst (TaskFinds (table_of c.args.self.now) c.args.self.now.control.node) c.requires.task (c.requires.holds.found.0 awaits)

pub begin-requires-clause-function : goal.begin-requires-clause-function
begin-requires-clause-function c =
    called-stands c.args.self.now c.requires.holds (codes "main") c.in-Some.number (sym c.requires.holds.main ∙ c.in-Some.is) c.index-function.result.now c.index-function.ensures

pub returns-else-not-is_main_type-clause-moves : goal.returns-else-not-is_main_type-clause-moves
returns-else-not-is_main_type-clause-moves c =
    let old = c.args.self.now in
    let function = c.index-function.result.now in
    subst (λ eval. Moves old c.begin.new.self eval c.begin.result)
    (sym (acting-start old c.requires.task
    ∙ type-fits old true (record { line = 1; column = 1 }) main_type [] (codes "main") c.in-Some.number (function_in (table_of old) function)
    (called-is old c.requires.holds (codes "main") c.in-Some.number (sym c.requires.holds.main ∙ c.in-Some.is) function c.index-function.ensures)
    (in-table old c.requires.holds function.c_type true main_type c.if-not-is_main_type.ensures)))
    (c.begin.ensures.moves c.in-Some.number)
