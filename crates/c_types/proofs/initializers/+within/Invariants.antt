use Rattle.std.proofs.Common.{◌+◌, ◌*◌, drop}
use denote.Param.Weighed.{most}
use Rattle.c_syntax.proofs.declaration.Init.TheLaws.{the_size}
use Rattle.c_syntax.specs.Views.{inits_of}
use Rattle.c_rules.specs.Initializers as rules
use Rattle.c_types_state.specs.NameTables.{scope_of}
use Rattle.c_rules.specs.NamedItems.{named_in_inits}
use Rattle.c_types.specs.InitialValues.{inits_values}
use Rattle.c_types.proofs.Firsts.{Passed}
use Rattle.c_types.proofs.KeptValues.{ValuesFar}
use Rattle.c_types.proofs.initializers.+within.Given as goal

-- What was passed so far, and then what is left, is what all have.
abbrev pub invariant-found_within_all-loop-init : goal.invariant-found_within_all-loop-init
invariant-found_within_all-loop-init l =
    record {
      passed :
          Passed (rules.found_within_all (scope_of l.fn.pass.checker) (inits_of l.inits)) (rules.found_within_all (scope_of l.fn.pass.checker) (inits_of (drop l.init-index l.inits)))
          (named_in_inits (scope_of l.fn.pass.checker) (inits_of l.inits)) (named_in_inits (scope_of l.fn.pass.checker) (inits_of (drop l.init-index l.inits))) l.fn.pass l.pass;
      values :
          ValuesFar (inits_values (scope_of l.fn.pass.checker) (inits_of l.inits)) (inits_values (scope_of l.fn.pass.checker) (inits_of (drop l.init-index l.inits))) l.pass.checker.table l.fn.values.items l.values.items;
    }

-- the depth of the trees
abbrev pub decreases-found_within : goal.decreases-found_within
decreases-found_within l = 2 * the_size l.init.now

abbrev pub decreases-found_within_all : goal.decreases-found_within_all
decreases-found_within_all l = 2 * most the_size l.inits.now + 1
