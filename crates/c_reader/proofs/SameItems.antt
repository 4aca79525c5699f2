-- Items whose parts are the same.
use Rattle.std.proofs.Common.{◌≡◌, List, [], ◌∷◌, Option, refl, ap, ◌∙◌}
use Rattle.run_theory.specs.declared.place.Pos.{Pos}
use Rattle.c_syntax.specs.declared.statement.BlockItem.{BlockItem}
use Rattle.c_syntax.specs.declared.statement.BlockItem.TheVariants as B
use Rattle.c_syntax.specs.Trees
use Rattle.c_syntax.specs.Views.{declaration_tree, stmt_tree, block_of}
use Rattle.c_reader.specs.Lists.{folds}
use Rattle.c_reader.specs.StmtLists.{block_before}

abbrev pub made : Trees.DeclaratorTree → Option Trees.InitTree → Trees.InitDeclaratorTree
made declarator init = record { declarator = declarator; init = init }

abbrev pub made_member : Trees.WordsTree → List Trees.DeclaratorTree → Trees.MemberTree
made_member words declarators = record { words = words; declarators = declarators }

pub same_member : {w w' : Trees.WordsTree} {d d' : List Trees.DeclaratorTree} → w ≡ w' → d ≡ d' → made_member w d ≡ made_member w' d'
same_member {w = w} {d' = d'} e h = ap (made_member w) h ∙ ap (λ x. made_member x d') e

pub block_of-folds : (items : List BlockItem) → folds block_before items Trees.Close ≡ block_of items
block_of-folds [] = refl
block_of-folds (B.Declaration declaration ∷ rest) = ap (Trees.Declare (declaration_tree declaration)) (block_of-folds rest)
block_of-folds (B.Statement stmt ∷ rest) = ap (Trees.Perform (stmt_tree stmt)) (block_of-folds rest)

abbrev pub made_program : List Trees.ItemTree → Pos → Trees.ProgramTree
made_program items end = record { items = items; end = end }
