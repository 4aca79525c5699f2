use Rattle.std.proofs.Common.{Ok, FitsSigned, to_z, of_z, to_z-of_z, rules, arith, sym, subst}
use Rattle.std.specs.Int.{w128}
use Rattle.c_typed.specs.declared.typed.LibraryFunction.{LibraryFunction}
use Rattle.ref_semantics.specs.Values.{Scalar}
use Rattle.ref_semantics.specs.Store.{Eval}
use Rattle.ref_semantics.specs.Library.{library}
use Rattle.ref_meaning.specs.declared.value.Scalar.TheVariants as M
use Rattle.ref_meaning.specs.Views.{around_run}
use Rattle.ref_meaning.specs.Calling.{Evaluates}
use Rattle.ref_meaning.proofs.Provided.{none-next, next-evaluates}
use Rattle.ref_meaning.proofs.run.RefRun.call_without.Goals as goal

pub returns-in-Ok-clause-evaluates : goal.returns-in-Ok-clause-evaluates
returns-in-Ok-clause-evaluates g c = λ place given told count none.
    let old = c.args.self.now in
    let is_left = g.I.Source.left c.args.input.now in
    let is_left' = g.I.Source.left c.read_byte.new.input in
    let fits : FitsSigned w128 c.input_value.result = search rules in
    let value = to_z w128 (of_z w128 c.input_value.result) in
    subst (λ (function : LibraryFunction). Evaluates old old (library (around_run old) function place given) (Ok (M.Integer value)) is_left told is_left' told) (sym c.in-GetChar.is)
    (subst (λ (eval : Eval Scalar). Evaluates old old eval (Ok (M.Integer value)) is_left told is_left' told) (sym (none-next (around_run old) place given (omega (arith, count, c.if-count-gt0.false))))
    (next-evaluates old c.input_value.result value is_left is_left' told (to_z-of_z fits) (c.input_value.ensures is_left is_left' c.in-Ok.ensures.read)))
