use Rattle.std.proofs.Common.{sym, subst}
use Rattle.c_syntax.specs.Views.{item_tree}
use Rattle.c_types_state.specs.NameTables.{scope_of}
use Rattle.c_types.specs.Outside.{IsOutside}
use Rattle.c_types.proofs.ProgramRead.{stays-outside}
use Rattle.c_types.proofs.scopes.declare_item.Goals as goal

pub returns-clause-scope : goal.returns-clause-scope
returns-clause-scope c = c.in_ok-item.ensures.reaches.scope

pub returns-clause-outside : goal.returns-clause-outside
returns-clause-outside c = subst IsOutside (sym c.in_ok-item.ensures.reaches.scope) (stays-outside (scope_of c.args.pass.now.checker) (item_tree c.args.tree.now) c.requires)
