-- The plan that one in memory stands for.
use Rattle.std.specs.Prelude.{map, get_or}
use Rattle.pool_ir.specs.Views.{descriptors_of, action_of, edge_of}
use Rattle.pool_rewrite.specs.declared.plan.FunctionPlan as memory_function
use Rattle.pool_rewrite.specs.declared.plan.Plan as memory_plan
use Rattle.pool_rewrite.specs.Plan.{FunctionPlan, Plan}

abbrev pub function_plan_of : memory_function.FunctionPlan → FunctionPlan
function_plan_of plan =
    record {
      descriptors = plan.descriptors;
      taken = plan.taken;
      entering = map action_of plan.entering.items;
      edges = map edge_of plan.edges.items;
      leaving = map action_of plan.leaving.items;
      pool_at = λ site. (get_or plan.pools.items site plan.other_pool).0;
      passes = λ site. descriptors_of (get_or plan.passes.items site plan.other_passes).items;
    }

abbrev pub plan_of : memory_plan.Plan → Plan
plan_of plan =
    record {
      kinds = plan.kinds.items;
      functions = map function_plan_of plan.functions.items;
      start = function_plan_of plan.start;
    }
