use Rattle.std.proofs.Common.{◌+◌, ◌*◌, drop}
use denote.Param.Weighed.{most}
use Rattle.c_syntax.proofs.declaration.Init.TheLaws.{the_size}
use Rattle.c_syntax.specs.Views.{inits_of}
use Rattle.c_typed.specs.Types as T
use Rattle.c_typed.specs.Table.{type_in, tag_in, structs_in, members_of}
use Rattle.c_types_state.specs.NameTables.{scope_of}
use Rattle.c_types.specs.InitialValues.{inits_values}
use Rattle.c_types.proofs.KeptValues.{ValuesFar}
use Rattle.c_types.proofs.ListedFirsts.{ElementsFar, MembersFar}
use Rattle.c_types.proofs.initializers.+first.Given as goal

-- What was passed and stored so far, and then what is left, is what all have.
abbrev pub invariant-elements_first-loop-index : goal.invariant-elements_first-loop-index
invariant-elements_first-loop-index l =
    record {
      far : ElementsFar (type_in l.fn.pass.checker.table l.fn.element) l.fn.length (inits_of l.fn.inits) (inits_of (drop l.index l.fn.inits)) l.index l.fn.pass l.pass l.fn.target l.target;
      values :
          ValuesFar (inits_values (scope_of l.fn.pass.checker) (inits_of l.fn.inits)) (inits_values (scope_of l.fn.pass.checker) (inits_of (drop l.index l.fn.inits)))
          l.pass.checker.table l.fn.values.items l.values.items;
    }

abbrev pub invariant-members_first-loop-number : goal.invariant-members_first-loop-number
invariant-members_first-loop-number l =
    record {
      far :
          MembersFar l.fn.index (members_of (structs_in l.fn.pass.checker.table) (T.Struct (tag_in l.fn.pass.checker.table l.fn.id))) (inits_of l.fn.inits) (inits_of (drop l.number l.fn.inits))
          l.number l.fn.pass l.pass l.fn.target l.target;
      values :
          ValuesFar (inits_values (scope_of l.fn.pass.checker) (inits_of l.fn.inits)) (inits_values (scope_of l.fn.pass.checker) (inits_of (drop l.number l.fn.inits)))
          l.pass.checker.table l.fn.values.items l.values.items;
    }

-- the depth of the trees; where a call goes on with the same tree, it comes first
abbrev pub decreases-first_of : goal.decreases-first_of
decreases-first_of l = 8 * the_size l.init.now

abbrev pub decreases-list_first : goal.decreases-list_first
decreases-list_first l = 8 * most the_size l.inits.now + 3

abbrev pub decreases-elements_first : goal.decreases-elements_first
decreases-elements_first l = 8 * most the_size l.inits.now + 2

abbrev pub decreases-members_first : goal.decreases-members_first
decreases-members_first l = 8 * most the_size l.inits.now + 2

abbrev pub decreases-member_first : goal.decreases-member_first
decreases-member_first l = 8 * the_size l.init.now + 1
