-- Syntax trees whose parts are the same.
use Rattle.std.proofs.Common.{◌≡◌, List, [], ◌∷◌, ◌++◌, Option, Vec, Global, refl, ap, sym, ◌∙◌}
use Rattle.run_theory.specs.declared.place.Pos.{Pos}
use Rattle.c_syntax.specs.declared.declaration.Init as memory_init
use Rattle.c_syntax.specs.declared.declaration.Init.TheBlock.{hidden-the_row-Init-0, items_hidden-the_row-Init-0}
use Rattle.c_syntax.specs.declared.declaration.Init.TheVariants as I
use Rattle.c_syntax.specs.Trees
use Rattle.c_syntax.specs.Views.{init_tree, inits_tree}
use Rattle.c_reader.specs.Lists.{folds}
use Rattle.c_reader.specs.StatementLists.{init_before}

abbrev pub made : Trees.DeclaratorTree → Option Trees.InitTree → Trees.InitDeclaratorTree
made declarator init = record { declarator = declarator; init = init }

pub same_declarator : {d d' : Trees.DeclaratorTree} {i i' : Option Trees.InitTree} → d ≡ d' → i ≡ i' → made d i ≡ made d' i'
same_declarator {d = d} {i' = i'} e h = ap (made d) h ∙ ap (λ x. made x i') e

-- the initializers of a vector, which shows as a row inside of an initializer
inits_tree-items : (shape : _) (row : memory_init.Row_of-Init shape) → inits_tree row ≡ folds init_before (memory_init.items-the_row-Init shape row) Trees.NoInits
inits_tree-items shape memory_init.end_of-Init = refl
inits_tree-items shape (memory_init.more_of-Init init rest) = ap (Trees.Inits (init_tree init)) (inits_tree-items _ rest)

pub init_tree-list : (place : Pos) (inits : Vec memory_init.Init Global) → init_tree (I.List place inits) ≡ Trees.InitList place (folds init_before inits.items Trees.NoInits)
init_tree-list place inits =
    ap (Trees.InitList place) (inits_tree-items _ (hidden-the_row-Init-0 inits) ∙ ap (λ items. folds init_before items Trees.NoInits) (items_hidden-the_row-Init-0 inits))

pub same_list : {first_shape : Trees.InitTree} {more_shape : Trees.InitsTree} {place place' : Pos} (first : memory_init.Init) (before inits : Vec memory_init.Init Global) → before.items ≡ [] ++ first ∷ [] → place ≡ place' → first_shape ≡ init_tree first → folds init_before before.items more_shape ≡ folds init_before inits.items Trees.NoInits → Trees.InitList place (Trees.Inits first_shape more_shape) ≡ init_tree (I.List place' inits)
same_list {more_shape = more_shape} {place = place} {place' = place'} first before inits items same_place same_first same_more =
    ap (λ tree. Trees.InitList place (Trees.Inits tree more_shape)) same_first
    ∙ ap (λ vs. Trees.InitList place (folds init_before vs more_shape)) (sym items)
    ∙ ap (Trees.InitList place) same_more
    ∙ ap (λ p. Trees.InitList p (folds init_before inits.items Trees.NoInits)) same_place
    ∙ sym (init_tree-list place' inits)

abbrev pub made_declaration : Trees.WordsTree → List Trees.InitDeclaratorTree → Trees.DeclarationTree
made_declaration words declarators = record { words = words; declarators = declarators }

pub same_declaration : {w w' : Trees.WordsTree} {d d' : List Trees.InitDeclaratorTree} → w ≡ w' → d ≡ d' → made_declaration w d ≡ made_declaration w' d'
same_declaration {w = w} {d' = d'} e h = ap (made_declaration w) h ∙ ap (λ x. made_declaration x d') e
