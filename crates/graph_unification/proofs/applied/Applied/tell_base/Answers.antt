use Rattle.std.proofs.Common.{◌≡◌, true, sym, ap, subst}
use Rattle.c_typed.specs.Table.{type_in}
use Rattle.tac_ir.specs.Views.{base_in}
use Rattle.heap_graph.specs.Points.{base_typed}
use Rattle.graph_unification.specs.Applying.{code_of, owner_of, shown, Applies, IsTold}
use Rattle.graph_unification.proofs.Changing.{nothing}
use Rattle.graph_unification.proofs.NamedSteps.{if_ok}
use Rattle.graph_unification.proofs.applied.Applied.tell_base.Goals as goal

pub returns-in-Local-clause-applies : goal.returns-in-Local-clause-applies
returns-in-Local-clause-applies c =
    let own = c.args.self in
    let old = shown own c.args.graph.now in
    nothing (code_of own).structs c.requires.known.made old c.requires.graph.sound (λ other. base_typed (code_of own) other (owner_of own) (base_in own.tac.now.types c.args.base.now) ≡ true)
    (ap (λ b. base_typed (code_of own) old (owner_of own) (base_in own.tac.now.types b)) c.in-Local.is)

pub returns-in-Global-clause-applies : goal.returns-in-Global-clause-applies
returns-in-Global-clause-applies c =
    let own = c.args.self in
    let old = shown own c.args.graph.now in
    nothing (code_of own).structs c.requires.known.made old c.requires.graph.sound (λ other. base_typed (code_of own) other (owner_of own) (base_in own.tac.now.types c.args.base.now) ≡ true)
    (ap (λ b. base_typed (code_of own) old (owner_of own) (base_in own.tac.now.types b)) c.in-Global.is)

pub returns-in-Literal-clause-applies : goal.returns-in-Literal-clause-applies
returns-in-Literal-clause-applies c =
    let own = c.args.self in
    let old = shown own c.args.graph.now in
    nothing (code_of own).structs c.requires.known.made old c.requires.graph.sound (λ other. base_typed (code_of own) other (owner_of own) (base_in own.tac.now.types c.args.base.now) ≡ true)
    (ap (λ b. base_typed (code_of own) old (owner_of own) (base_in own.tac.now.types b)) c.in-Literal.is)

pub returns-in-Pointed-clause-applies : goal.returns-in-Pointed-clause-applies
returns-in-Pointed-clause-applies c =
    let own = c.args.self in
    let old = shown own c.args.graph.now in
    let new = shown own c.tell.new.graph in
    if_ok c.tell.result c.tell.ensures.applies
    (λ changed its.
    subst (λ b. Applies (code_of own).structs changed old new (λ other. base_typed (code_of own) other (owner_of own) (base_in own.tac.now.types b) ≡ true)) (sym c.in-Pointed.is)
    (subst (λ n. Applies (code_of own).structs changed old new (IsTold (code_of own).structs n (type_in own.tac.now.types c.in-Pointed.target))) c.own.ensures its))

pub returns-in-Indexed-clause-applies : goal.returns-in-Indexed-clause-applies
returns-in-Indexed-clause-applies c =
    let own = c.args.self in
    let old = shown own c.args.graph.now in
    let new = shown own c.tell-in-Indexed.new.graph in
    if_ok c.tell-in-Indexed.result c.tell-in-Indexed.ensures.applies
    (λ changed its.
    subst (λ b. Applies (code_of own).structs changed old new (λ other. base_typed (code_of own) other (owner_of own) (base_in own.tac.now.types b) ≡ true)) (sym c.in-Indexed.is)
    (subst (λ n. Applies (code_of own).structs changed old new (IsTold (code_of own).structs n (type_in own.tac.now.types c.in-Indexed.target))) c.own-in-Indexed.ensures its))
