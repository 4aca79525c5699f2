-- The syntax trees of lists, from the trees in memory of their elements.
use Rattle.std.specs.Prelude.{List, ◌∷◌, map, Vec}
use Rattle.std.specs.declared.alloc.Global.{Global}
use Rattle.c_grammar.specs.Table.{Node, Then, Nothing}
use Rattle.c_grammar.specs.Forms
use Rattle.c_syntax.specs.declared.declaration.Init.{Init}
use Rattle.c_syntax.specs.declared.declaration.InitDeclarator.{InitDeclarator}
use Rattle.c_syntax.specs.Trees
use Rattle.c_syntax.specs.Views.{init_tree, init_declarator_tree}
use Rattle.c_reader.specs.Grammar.{Parse}
use Rattle.c_reader.specs.Shapes.{inits_of, declarators_of}
use Rattle.c_reader.specs.Lists.{folds}

abbrev pub init_before : Init → Trees.InitsTree → Trees.InitsTree
init_before init inits = Trees.Inits (init_tree init) inits

-- the initializers behind a comma
abbrev pub inits_behind : Parse → Trees.InitsTree
inits_behind next = inits_of (Node Forms.InitComma (Then Nothing (Then next Nothing)))

abbrev pub declarator_before : InitDeclarator → List Trees.InitDeclaratorTree → List Trees.InitDeclaratorTree
declarator_before declarator declarators = init_declarator_tree declarator ∷ declarators

-- initializers in memory, and some with those that are read behind them
abbrev pub inits_in : Vec Init Global → Trees.InitsTree
inits_in inits = folds init_before inits.items Trees.NoInits

abbrev pub inits_from : List Init → Parse → Trees.InitsTree
inits_from before parse = folds init_before before (inits_of parse)

-- declarators in memory, and one with those that are read behind it
abbrev pub declarators_in : Vec InitDeclarator Global → List Trees.InitDeclaratorTree
declarators_in declarators = map init_declarator_tree declarators.items

abbrev pub declarators_from : InitDeclarator → Parse → List Trees.InitDeclaratorTree
declarators_from first parse = init_declarator_tree first ∷ declarators_of parse
