use Rattle.std.proofs.Common.{take, map}
use Rattle.c_syntax.specs.Views.{init_declarator_tree, words_tree}
use Rattle.c_rules.specs.Expressions.{words_type}
use Rattle.c_types_state.specs.NameTables.{scope_of}
use Rattle.c_types.proofs.LocalsMade.{LocalsSoFar}
use Rattle.c_types.proofs.declarations.declaration_locals.Given as goal

abbrev pub invariant-loop-declarator : goal.invariant-loop-declarator
invariant-loop-declarator l =
    let words = words_type (scope_of l.fn.pass.checker) (words_tree l.declaration.simple) in
    LocalsSoFar words.found l.declaration.simple.place words.known (map init_declarator_tree (take l.declarator-index l.declarator-items)) l.base l.fn.pass l.pass l.locals
