use Rattle.std.proofs.Common.{Some, refl, subst, rules}
use Rattle.indexmap.specs.IndexMap.{Updates}
use Rattle.graph_unification.specs.Memory.{name_of}
use Rattle.graph_unification.specs.contracts.name.NameKeyPartialEq.TheImpl.{eq-value}
use Rattle.graph_unification.proofs.NameKeys.{name_cases}
use Rattle.graph_unification.proofs.SetNames.{set_now, set_others}
use Rattle.graph_unification.proofs.Built.{sets_target, graph_set}
use Rattle.graph_unification.proofs.graph.Graph.set_target.Goals as goal

pub returns-in_err-cell-clause-graph : goal.returns-in_err-cell-clause-graph
returns-in_err-cell-clause-graph c = search rules

pub returns-in_err-cell-clause-sets : goal.returns-in_err-cell-clause-sets
returns-in_err-cell-clause-sets c = search rules

pub returns-in-Ok-clause-graph : goal.returns-in-Ok-clause-graph
returns-in-Ok-clause-graph c = λ table fine slot.
    let updates = subst (λ k. Updates eq-value.it c.args.self.now.names c.insert.new.self k (Some c.in_ok-cell.cell)) c.key.ensures c.in-Ok.ensures.updates in
    graph_set table c.args.self.now (record { nodes = c.new_name_cell.new.self; names = c.args.self.now.names }) (record { nodes = c.new_name_cell.new.self; names = c.insert.new.self }) (name_of c.args.name) c.in_ok-cell.cell c.args.to fine refl c.in_ok-cell.ensures slot refl
    (set_now (record { nodes = c.new_name_cell.new.self; names = c.args.self.now.names }) (record { nodes = c.new_name_cell.new.self; names = c.insert.new.self }) (name_of c.args.name) c.in_ok-cell.cell updates) (set_others (record { nodes = c.new_name_cell.new.self; names = c.args.self.now.names }) (record { nodes = c.new_name_cell.new.self; names = c.insert.new.self }) (name_of c.args.name) c.in_ok-cell.cell updates) (name_cases (name_of c.args.name))

pub returns-in-Ok-clause-sets : goal.returns-in-Ok-clause-sets
returns-in-Ok-clause-sets c = λ table fine slot.
    let updates = subst (λ k. Updates eq-value.it c.args.self.now.names c.insert.new.self k (Some c.in_ok-cell.cell)) c.key.ensures c.in-Ok.ensures.updates in
    sets_target table c.args.self.now (record { nodes = c.new_name_cell.new.self; names = c.args.self.now.names }) (record { nodes = c.new_name_cell.new.self; names = c.insert.new.self }) (name_of c.args.name) c.in_ok-cell.cell c.args.to fine refl c.in_ok-cell.ensures slot refl
    (set_now (record { nodes = c.new_name_cell.new.self; names = c.args.self.now.names }) (record { nodes = c.new_name_cell.new.self; names = c.insert.new.self }) (name_of c.args.name) c.in_ok-cell.cell updates) (set_others (record { nodes = c.new_name_cell.new.self; names = c.args.self.now.names }) (record { nodes = c.new_name_cell.new.self; names = c.insert.new.self }) (name_of c.args.name) c.in_ok-cell.cell updates) (name_cases (name_of c.args.name))
