use Rattle.std.proofs.Common.{◌≡◌, List, None, sym, subst}
use Rattle.ref_semantics.specs.Values.{Scalar}
use Rattle.ref_semantics.specs.Library.{library}
use Rattle.ref_meaning.specs.RefStore.Views.{scalar_in}
use Rattle.ref_meaning.specs.Views.{table_of, around_run, operands_of, newest}
use Rattle.ref_meaning.specs.Calling.{Evaluates, only_of}
use Rattle.ref_meaning.proofs.Provided.{only-is, length-newest}
use Rattle.ref_meaning.proofs.run.RefRun.call_library.Goals as goal

pub returns-in-Some-clause-evaluates : goal.returns-in-Some-clause-evaluates
returns-in-Some-clause-evaluates g c =
    let old = c.args.self.now in
    let given = newest (table_of old) c.args.count (operands_of old) in
    let is_left = g.I.Source.left c.args.input.now in
    subst (λ (all : List Scalar). Evaluates old c.call_with.new.self (library (around_run old) c.args.function c.args.place all) c.call_with.result is_left (g.O.Sink.written c.args.out.now) is_left (g.O.Sink.written c.call_with.new.out))
    (sym (only-is given (scalar_in (table_of old) c.in-Some.argument) (sym c.in-Some.ensures.is))) (c.call_with.ensures.evaluates is_left)

pub returns-in-None-clause-evaluates : goal.returns-in-None-clause-evaluates
returns-in-None-clause-evaluates g c =
    let old = c.args.self.now in
    let given = newest (table_of old) c.args.count (operands_of old) in
    let none : None ≡ only_of given = c.in-None.ensures.is in
    c.call_without.ensures.evaluates c.args.place given (g.O.Sink.written c.args.out.now) (sym (length-newest (table_of old) c.args.count (operands_of old) c.requires.there)) (sym {b = only_of given} none)
