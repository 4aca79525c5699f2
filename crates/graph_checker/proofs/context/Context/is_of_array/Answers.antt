use Rattle.graph_checker.proofs.context.Context.is_of_array.Goals as goal

pub returns : goal.returns
returns c = c.is_array_if.ensures c.args.self.now.tac.now.types
