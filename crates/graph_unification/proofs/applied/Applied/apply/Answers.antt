use Rattle.std.proofs.Common.{ap, subst}
use Rattle.tac_ir.specs.declared.op.Op.TheVariants as O
use Rattle.tac_ir.specs.Views.{op_in}
use Rattle.graph_unification.specs.Applying.{code_of, owner_of, shown, Applies, IsTaken}
use Rattle.graph_unification.proofs.NamedSteps.{if_ok}
use Rattle.graph_unification.proofs.PointCases.{of_point, unasked, not_asked}
use Rattle.graph_unification.proofs.applied.Applied.apply.Goals as goal

pub returns-in-Copy-clause-applies : goal.returns-in-Copy-clause-applies
returns-in-Copy-clause-applies c =
    let own = c.args.self in
    let table = own.tac.now.types in
    if_ok c.take.result c.take.ensures.applies
    (λ changed its.
    of_point (code_of own) (owner_of own) changed (shown own c.args.graph.now) (shown own c.take.new.graph) (op_in table c.args.op.now) (op_in table (O.Copy c.in-Copy.to c.in-Copy.from))
    (ap (op_in table) c.in-Copy.is) (subst (λ n. Applies (code_of own).structs changed (shown own c.args.graph.now) (shown own c.take.new.graph) (IsTaken (code_of own) (owner_of own) n c.in-Copy.from)) c.own.ensures its))

pub returns-in-Move-clause-applies : goal.returns-in-Move-clause-applies
returns-in-Move-clause-applies c =
    let own = c.args.self in
    let table = own.tac.now.types in
    if_ok c.move_pointer.result c.move_pointer.ensures.applies
    (λ changed its.
    of_point (code_of own) (owner_of own) changed (shown own c.args.graph.now) (shown own c.move_pointer.new.graph) (op_in table c.args.op.now) (op_in table (O.Move c.in-Move.to c.in-Move.pointer c.in-Move.element c.in-Move.is_minus c.in-Move.number))
    (ap (op_in table) c.in-Move.is) its)

pub returns-in-Repoint-clause-applies : goal.returns-in-Repoint-clause-applies
returns-in-Repoint-clause-applies c =
    let own = c.args.self in
    let table = own.tac.now.types in
    if_ok c.repoint.result c.repoint.ensures.applies
    (λ changed its.
    of_point (code_of own) (owner_of own) changed (shown own c.args.graph.now) (shown own c.repoint.new.graph) (op_in table c.args.op.now) (op_in table (O.Repoint c.in-Repoint.to c.in-Repoint.target c.in-Repoint.from))
    (ap (op_in table) c.in-Repoint.is) its)

pub returns-in-Address-clause-applies : goal.returns-in-Address-clause-applies
returns-in-Address-clause-applies c =
    let own = c.args.self in
    let table = own.tac.now.types in
    if_ok c.take_address.result c.take_address.ensures.applies
    (λ changed its.
    of_point (code_of own) (owner_of own) changed (shown own c.args.graph.now) (shown own c.take_address.new.graph) (op_in table c.args.op.now) (op_in table (O.Address c.in-Address.to c.in-Address.path))
    (ap (op_in table) c.in-Address.is) its)

pub returns-in-Load-clause-applies : goal.returns-in-Load-clause-applies
returns-in-Load-clause-applies c =
    let own = c.args.self in
    let table = own.tac.now.types in
    if_ok c.load.result c.load.ensures.applies
    (λ changed its.
    of_point (code_of own) (owner_of own) changed (shown own c.args.graph.now) (shown own c.load.new.graph) (op_in table c.args.op.now) (op_in table (O.Load c.in-Load.to c.in-Load.scalar c.in-Load.path))
    (ap (op_in table) c.in-Load.is) its)

pub returns-in-Store-clause-applies : goal.returns-in-Store-clause-applies
returns-in-Store-clause-applies c =
    let own = c.args.self in
    let table = own.tac.now.types in
    if_ok c.store.result c.store.ensures.applies
    (λ changed its.
    of_point (code_of own) (owner_of own) changed (shown own c.args.graph.now) (shown own c.store.new.graph) (op_in table c.args.op.now) (op_in table (O.Store c.in-Store.path c.in-Store.scalar c.in-Store.value))
    (ap (op_in table) c.in-Store.is) its)

pub returns-in-Return-clause-applies : goal.returns-in-Return-clause-applies
returns-in-Return-clause-applies c =
    let own = c.args.self in
    let table = own.tac.now.types in
    if_ok c.give_back.result c.give_back.ensures.applies
    (λ changed its.
    of_point (code_of own) (owner_of own) changed (shown own c.args.graph.now) (shown own c.give_back.new.graph) (op_in table c.args.op.now) (op_in table (O.Return c.in-Return.value))
    (ap (op_in table) c.in-Return.is) its)

pub returns-in_default : goal.returns-in_default
returns-in_default c =
    let own = c.args.self in
    let table = own.tac.now.types in
    let other = c.in_default in
    let graph = shown own c.args.graph.now in
    record {
      graph = c.requires.graph;
      applies = not_asked (code_of own) c.requires.known.made (owner_of own) graph c.requires.graph.sound (op_in table c.args.op.now)
          (unasked table (code_of own) (owner_of own) graph c.args.op.now other.not-Copy other.not-Move other.not-Repoint other.not-Address other.not-Load other.not-Store other.not-Allocate other.not-Return);
    }
