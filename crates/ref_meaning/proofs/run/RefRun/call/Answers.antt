use Rattle.std.proofs.Common.{arith, length, sym, subst, ap, ◌∙◌}
use Rattle.ref_semantics.specs.Meaning.{function_from}
use Rattle.c_typed.specs.Table.{type_in}
use Rattle.ref_meaning.specs.declared.value.Scalar.TheVariants as M
use Rattle.ref_meaning.specs.declared.control.Control.{Control}
use Rattle.ref_meaning.specs.declared.control.Given.TheVariants as G
use Rattle.ref_meaning.specs.declared.control.Task.TheVariants as K
use Rattle.ref_meaning.specs.Views.{table_of, functions_of, operands_of, operands_after, newest}
use Rattle.ref_meaning.specs.Holding.{TaskFits, TaskFinds}
use Rattle.ref_meaning.specs.Moving.{Moves}
use Rattle.ref_meaning.proofs.Moves.{nothing-kept, ok-moves}
use Rattle.ref_meaning.proofs.Called.{none-at}
use Rattle.ref_meaning.proofs.Dropping.{rest-left, dropped-arrives}
use Rattle.ref_meaning.proofs.Making.{number-within, called-is, called-stands, called-type-stands, no-function, call-differs, call-fits, call-unknown}
use Rattle.ref_meaning.proofs.run.RefRun.call.Goals as goal

pub returns-in_default : goal.returns-in_default
returns-in_default c = record {
  moves = λ state at. no-function c.args.self.now c.args.is_used c.args.place (type_in (table_of c.args.self.now) c.args.c_type) (newest (table_of c.args.self.now) c.args.count (operands_of c.args.self.now)) c.args.function c.in_default.not-Function state;
  kept = nothing-kept c.args.self.now;
}

pub index-function-requires : goal.index-function-requires
index-function-requires c = let within = number-within c.args.self.now c.requires.holds c.in-Function.name.now c.in-Some.number (sym (c.requires.holds.numbered c.in-Function.name.now) ∙ (sym c.get.ensures.value ∙ sym c.in-Some.ensures)) in omega (arith, within)

pub same-requires-clause-a : goal.same-requires-clause-a
same-requires-clause-a c =
    called-type-stands c.args.self.now c.requires.holds c.in-Function.name.now c.in-Some.number (sym (c.requires.holds.numbered c.in-Function.name.now) ∙ (sym c.get.ensures.value ∙ sym c.in-Some.ensures)) c.index-function.result.now c.index-function.ensures

pub returns-then-not-same-clause-moves : goal.returns-then-not-same-clause-moves
returns-then-not-same-clause-moves c = λ state at.
    call-differs c.args.self.now c.args.is_used c.args.place c.args.c_type (newest (table_of c.args.self.now) c.args.count (operands_of c.args.self.now)) c.args.function c.in-Function.name c.in-Some.number c.index-function.result.now
    c.requires.holds c.in-Function.is (called-is c.args.self.now c.requires.holds c.in-Function.name.now c.in-Some.number (sym (c.requires.holds.numbered c.in-Function.name.now) ∙ (sym c.get.ensures.value ∙ sym c.in-Some.ensures)) c.index-function.result.now c.index-function.ensures) c.if-not-same.ensures state

pub begin-requires-clause-function : goal.begin-requires-clause-function
begin-requires-clause-function c = called-stands c.args.self.now c.requires.holds c.in-Function.name.now c.in-Some.number (sym (c.requires.holds.numbered c.in-Function.name.now) ∙ (sym c.get.ensures.value ∙ sym c.in-Some.ensures)) c.index-function.result.now c.index-function.ensures

pub returns-else-not-same-clause-moves : goal.returns-else-not-same-clause-moves
returns-else-not-same-clause-moves c =
    subst (λ eval. Moves c.args.self.now c.begin.new.self eval c.begin.result)
    (sym (call-fits c.args.self.now c.args.is_used c.args.place c.args.c_type (newest (table_of c.args.self.now) c.args.count (operands_of c.args.self.now)) c.args.function c.in-Function.name c.in-Some.number c.index-function.result.now
    c.requires.holds c.in-Function.is (called-is c.args.self.now c.requires.holds c.in-Function.name.now c.in-Some.number (sym (c.requires.holds.numbered c.in-Function.name.now) ∙ (sym c.get.ensures.value ∙ sym c.in-Some.ensures)) c.index-function.result.now c.index-function.ensures) c.if-not-same.ensures))
    (c.begin.ensures.moves c.in-Some.number)

pub begin-requires-clause-unawaited : goal.begin-requires-clause-unawaited
begin-requires-clause-unawaited c = λ awaits. subst (λ t. TaskFinds (table_of c.args.self.now) c.args.self.now.control.node t) c.requires.task (c.requires.holds.found.0 awaits)

pub returns-in-None-clause-moves : goal.returns-in-None-clause-moves
returns-in-None-clause-moves c =
    let old = c.args.self.now in
    let r = c.requires in
    let next : Control = record { node = old.control.node; task = K.Give (G.Scalar M.Null) } in
    let there = (subst (λ t. TaskFits (table_of old) old.control.node (length (operands_of old)) t) r.task r.holds.task).2 in
    let given = rest-left old.operands.items c.truncate.new.self.items c.len.result c.args.count there (omega (arith, c.len.ensures)) c.truncate.ensures.items in
    let none = none-at (function_from 0 (functions_of old) c.in-Function.name.now) (sym (r.holds.numbered c.in-Function.name.now) ∙ (sym c.get.ensures.value ∙ sym c.in-None.ensures)) in
    ok-moves old c.came_to.new.self _ c.came_to.result c.came_to.ensures.ok (λ state at.
    dropped-arrives old c.came_to.new.self c.truncate.new.self c.args.count next r.holds (ap (λ t. operands_after t (operands_of old)) r.task) given tt c.came_to.ensures.becomes
    (λ awaits. absurd (subst (λ t. TaskFinds (table_of old) old.control.node t) r.task (r.holds.found.0 awaits))) r.holds.node tt _ (call-unknown old c.args.is_used c.args.place (type_in (table_of old) c.args.c_type) (newest (table_of c.args.self.now) c.args.count (operands_of c.args.self.now)) c.args.function c.in-Function.name c.in-Function.is none) state at)
