use Rattle.std.proofs.Common.{◌∷◌, reverse, ap, ◌∙◌, arith, rules}
use Rattle.graph_unification.proofs.Settling.{popped, none_of_length, starts, asked, turns, ends}
use Rattle.graph_unification.proofs.graph.Graph.settle.Goals as goal

pub returns-in_err-push : goal.returns-in_err-push
returns-in_err-push c = search rules

pub loop-turn-init : goal.loop-turn-init
loop-turn-init c = starts c.args.types.now c.requires.made c.args.self.now c.requires.graph c.args.ask c.requires.asks (reverse c.push.new.work.items) (c.in_ok-push.ensures ∙ ap (λ l. c.args.ask ∷ reverse l) c.new-work.ensures.items)

pub turn-requires-clause-made : goal.turn-requires-clause-made
turn-requires-clause-made c = c.requires.made

pub turn-requires-clause-graph : goal.turn-requires-clause-graph
turn-requires-clause-graph c = c.loop-turn.invariant.graph

pub turn-requires-clause-ask : goal.turn-requires-clause-ask
turn-requires-clause-ask c = (asked c.args.types.now c.requires.made c.args.self.now c.requires.graph c.args.ask c.requires.asks c.loop-turn.self (reverse c.loop-turn.work.items) (reverse c.pop.new.self.items) c.in-Some.next c.loop-turn.invariant (popped c.loop-turn.work.items c.pop.new.self.items c.in-Some.next c.in-Some.ensures.items)).0

pub turn-requires-clause-asks : goal.turn-requires-clause-asks
turn-requires-clause-asks c = (asked c.args.types.now c.requires.made c.args.self.now c.requires.graph c.args.ask c.requires.asks c.loop-turn.self (reverse c.loop-turn.work.items) (reverse c.pop.new.self.items) c.in-Some.next c.loop-turn.invariant (popped c.loop-turn.work.items c.pop.new.self.items c.in-Some.next c.in-Some.ensures.items)).1

pub returns-in_err-turn-in-Some : goal.returns-in_err-turn-in-Some
returns-in_err-turn-in-Some c = search rules

pub returns-in-None : goal.returns-in-None
returns-in-None c = let len = c.loop-turn.work.ok.0 in let none = c.in-None.ensures.cases.0 in ends c.args.types.now c.requires.made c.args.self.now c.requires.graph c.args.ask c.requires.asks c.loop-turn.self (reverse c.loop-turn.work.items) (ap reverse (none_of_length c.loop-turn.work.items (omega (arith, len, none)))) c.loop-turn.invariant

pub loop-turn-preserved : goal.loop-turn-preserved
loop-turn-preserved c = turns c.args.types.now c.requires.made c.args.self.now c.requires.graph c.args.ask c.requires.asks c.loop-turn.self (reverse c.loop-turn.work.items) (reverse c.pop.new.self.items) c.in-Some.next c.loop-turn.invariant (popped c.loop-turn.work.items c.pop.new.self.items c.in-Some.next c.in-Some.ensures.items) c.turn.new.self _ c.in_ok-turn-in-Some.ensures
