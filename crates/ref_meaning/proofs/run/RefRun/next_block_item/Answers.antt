use Rattle.std.proofs.Common.{suc, arith, sym, ap, subst, ◌∙◌, add-one}
use Rattle.c_typed.specs.StatementViews.{stmt_in, local_in}
use Rattle.ref_semantics.specs.Steps.{WayGiven}
use Rattle.ref_meaning.specs.declared.control.Stage.TheVariants as S
use Rattle.ref_meaning.specs.declared.control.Given.TheVariants as G
use Rattle.ref_meaning.specs.declared.control.Completion.TheVariants as W
use Rattle.ref_meaning.specs.Views.{table_of, part_in, completion_in, at_item}
use Rattle.ref_meaning.specs.Items.{ThisItem, block_of}
use Rattle.ref_meaning.specs.Doing.{taking}
use Rattle.ref_meaning.specs.Moving.{Moves}
use Rattle.ref_meaning.proofs.Advancing.{block-declares, block-performs, block-ends, block-breaks, enters-moves, done-moves, numbered-stage, block-has}
use Rattle.ref_meaning.proofs.run.RefRun.next_block_item.Goals as goal

pub declare-requires-clause-local : goal.declare-requires-clause-local
declare-requires-clause-local c =
    let table = table_of c.args.self.now in
    (subst (ThisItem table c.args.number (block_of (part_in table c.args.node))) c.in-Local.is (c.in-Some.ensures table c.requires.node).0).1

pub declare-requires-clause-number : goal.declare-requires-clause-number
declare-requires-clause-number c = (c.in-Some.ensures (table_of c.args.self.now) c.requires.node).1

pub overflow_add-number : goal.overflow_add-number
overflow_add-number c = omega (arith, (c.in-Some.ensures (table_of c.args.self.now) c.requires.node).1)

pub returns-in-Local-clause-moves : goal.returns-in-Local-clause-moves
returns-in-Local-clause-moves c =
    let old = c.args.self.now in
    let table = table_of old in
    let number = c.args.number in
    let this = subst (ThisItem table number (block_of (part_in table c.args.node))) c.in-Local.is (c.in-Some.ensures table c.requires.node).0 in
    subst (λ e. Moves old c.declare.new.self e c.declare.result)
    (sym (ap (λ way. taking old (at_item (part_in table c.args.node) number) (WayGiven (completion_in table way))) c.in-Normal.is ∙ block-declares old c.args.node number (local_in table c.in-Local.local) c.requires.items this.0)) c.declare.ensures.moves

pub returns-in-Statement-clause-moves : goal.returns-in-Statement-clause-moves
returns-in-Statement-clause-moves c =
    let old = c.args.self.now in
    let table = table_of old in
    let number = c.args.number in
    let waits = c.requires.innermost in
    let this = subst (ThisItem table number (block_of (part_in table c.args.node))) c.in-Statement.is (c.in-Some.ensures table c.requires.node).0 in
    subst (λ e. Moves old c.enter.new.self e c.enter.result)
    (sym (ap (λ way. taking old (at_item (part_in table c.args.node) number) (WayGiven (completion_in table way))) c.in-Normal.is ∙ block-performs old c.args.node number (stmt_in table c.in-Statement.stmt) c.requires.items this.0))
    (enters-moves old c.at_stage.new.self c.enter.new.self c.args.top (part_in table c.args.node) (S.Item number) waits c.args.node (S.Item (suc number)) _ c.enter.result tt tt tt c.enter.ensures.ok
    c.requires.holds c.requires.free c.requires.node (block-has c.args.node c.requires.items) tt tt this.1
    (numbered-stage old c.at_stage.new.self c.args.node number _ waits.others (add-one number) (c.at_stage.ensures (record { node = waits.node; stage = S.Item number }) waits.others waits.stack)) c.enter.ensures.becomes)

pub returns-in-None-clause-moves : goal.returns-in-None-clause-moves
returns-in-None-clause-moves c =
    let old = c.args.self.now in
    let table = table_of old in
    let number = c.args.number in
    let waits = c.requires.innermost in
    subst (λ e. Moves old c.done.new.self e c.done.result)
    (sym (ap (λ way. taking old (at_item (part_in table c.args.node) number) (WayGiven (completion_in table way))) c.in-Normal.is ∙ block-ends old c.args.node number c.requires.items (c.in-None.ensures table c.requires.node)))
    (done-moves old c.done.new.self c.args.top (part_in table c.args.node) (S.Item number) waits (G.Completion W.Normal) c.done.result tt c.done.ensures.ok c.requires.holds c.requires.free tt
    (c.done.ensures.becomes (record { node = waits.node; stage = S.Item number }) waits.others waits.stack))

pub returns-in_default : goal.returns-in_default
returns-in_default c =
    let old = c.args.self.now in
    let table = table_of old in
    let number = c.args.number in
    let waits = c.requires.innermost in
    let becomes = c.done-in_default.ensures.becomes (record { node = waits.node; stage = S.Item number }) waits.others waits.stack in
    record {
      moves = subst (λ e. Moves old c.done-in_default.new.self e c.done-in_default.result) (sym (block-breaks old c.args.node number c.args.way c.requires.items c.in_default.not-Normal))
          (done-moves old c.done-in_default.new.self c.args.top (part_in table c.args.node) (S.Item number) waits (G.Completion c.args.way) c.done-in_default.result tt c.done-in_default.ensures.ok c.requires.holds c.requires.free c.requires.way becomes);
      kept = becomes.kept;
    }
