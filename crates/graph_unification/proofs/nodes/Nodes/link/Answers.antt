use Rattle.std.proofs.Common.{reverse, subst, ◌∙◌, rules}
use Rattle.std.proofs.lemmas.Result.{on_ok_weaker}
use Rattle.graph_unification.specs.Turns.{AsksEdges}
use Rattle.graph_unification.proofs.nodes.Nodes.link.Goals as goal

pub join-requires-clause-part : goal.join-requires-clause-part
join-requires-clause-part c = c.requires.part

pub join-requires-clause-whole : goal.join-requires-clause-whole
join-requires-clause-whole c = c.requires.whole

pub join-requires-clause-differ : goal.join-requires-clause-differ
join-requires-clause-differ c = c.requires.differ

pub returns-in_err-edges : goal.returns-in_err-edges
returns-in_err-edges c = search rules

pub returns : goal.returns
returns c =
    on_ok_weaker c.ask_edges.result
    (λ asks. record {
      middle = c.join.new.self;
      joins = c.in_ok-edges.ensures.joins;
      asks =
          subst (λ es. AsksEdges c.args.whole c.args.distance c.join.new.self (reverse c.args.work.now.items) es c.ask_edges.new.self (reverse c.ask_edges.new.work.items)) (c.deref.ensures.value ∙ c.in_ok-edges.ensures.edges) asks;
    })
    c.ask_edges.ensures
