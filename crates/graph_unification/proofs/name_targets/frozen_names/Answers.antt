use Rattle.std.proofs.Common.{subst}
use Rattle.graph_unification.specs.Memory.{owner_of, graph_in}
use Rattle.heap_graph.specs.declared.frozen.FunctionNames.{FunctionNames}
use Rattle.graph_unification.specs.Freezing.{TellsObjects}
use Rattle.graph_unification.proofs.ToldNames.{names_told}
use Rattle.graph_unification.proofs.name_targets.frozen_names.Goals as goal

pub returns : goal.returns
returns c = λ table fine.
    let graph = graph_in table c.args.graph.now in
    let names : FunctionNames = record {
      parameters = c.in_ok-parameters.parameters;
      variables = c.in_ok-variables.variables;
      calls = c.in_ok-calls.calls;
      arguments = c.in_ok-arguments.arguments;
      expressions = c.in_ok-expressions.expressions;
      parameter_objects = c.in_ok-objects.objects.parameters;
      variable_objects = c.in_ok-objects.objects.variables;
      returned = c.certain_target.result;
    } in
    names_told graph (owner_of c.args.owned.owner) c.args.owned.function.now names (c.in_ok-parameters.ensures table fine) (c.in_ok-variables.ensures table fine) (c.in_ok-calls.ensures table fine) (c.in_ok-arguments.ensures table fine)
    (c.in_ok-expressions.ensures table fine)
    (subst (λ objects. TellsObjects graph (owner_of c.args.owned.owner) objects c.in_ok-objects.objects.parameters.items c.in_ok-objects.objects.variables.items) c.deref.ensures.value (c.in_ok-objects.ensures table fine)) (c.certain_target.ensures table fine)
