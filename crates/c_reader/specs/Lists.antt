-- The syntax trees of lists, from the trees in memory of their elements.
use Rattle.std.specs.Prelude.{ℕ, List, [], ◌∷◌}
use Rattle.c_grammar.specs.Runs.{Job, Fault, Failed, Run}
use Rattle.c_grammar.specs.declared.kind.Kind.{Kind}
use Rattle.c_grammar.specs.Forms
use Rattle.c_grammar.specs.Leaves.{Leaf}
use Rattle.c_reader.specs.Grammar.{grammar, Parse}
use Rattle.c_reader.specs.Rows.{Found}

-- elements in front of the tree of a list
abbrev pub folds : {V A : Type 0} → (V → A → A) → List V → A → A
folds before [] tree = tree
folds before (value ∷ values) tree = before value (folds before values tree)

-- What the job comes to from the rest of the leaves, it comes to from all, with the elements in front; `entry` are those
-- that were there before.
pub record Listed {V A : Type 0} (before : V → A → A) (job : Job Leaf Kind Forms.Sort Forms.Production) (room : ℕ) (text : List Leaf) (shape_of : Parse → A) (entry items : List V) (rest : List Leaf) : Type 0 where
  pub done : (tree : A) (behind : List Leaf) → Found job room rest shape_of tree behind → Found job room text (λ parse. folds before entry (shape_of parse)) (folds before items tree) behind
  pub failed : (fault : Fault) (behind : List Leaf) → Run grammar job room rest (Failed fault behind) → Run grammar job room text (Failed fault behind)
