-- The expressions of a program nest no deeper than its tree.
use Rattle.std.proofs.Common.{◌≡◌, ℕ, max, ◌≤◌, List, ◌∷◌, refl, arith}
use Rattle.c_grammar.specs.Table.{Alone, Nothing, Then, Node}
use Rattle.c_grammar.specs.Prefixes.{Accepted}
use Rattle.c_grammar.specs.Forms
use Rattle.c_grammar.specs.Leaves.{Leaf}
use Rattle.c_syntax.specs.Trees
use Rattle.c_syntax.specs.Trees.{BaseTree, DeclaratorTree, ItemTree}
use Rattle.c_syntax.specs.SyntaxDepths.{block_depth, items_depth, program_depth}
use Rattle.c_reader.specs.Grammar.{grammar, Parse}
use Rattle.c_reader.specs.Shapes.{declarator_of, struct_of, base_from, body_of, declared_of, tail_of, item_of, items_of, program_of}
use Rattle.accepted_programs.proofs.Nesting.{NestsIn, nests_in}
use Rattle.accepted_programs.proofs.CReaderDepths.Expressions.{none_fits}
use Rattle.accepted_programs.proofs.CReaderDepths.Statements.{block_nests}

-- only what functions do nests
abbrev item_depth : ItemTree → ℕ
item_depth (Trees.Declaration base declarators) = 0
item_depth (Trees.Function base declarator place body) = block_depth body

first_item : (item : ItemTree) (items : List ItemTree) → items_depth (item ∷ items) ≡ max (item_depth item) (items_depth items)
first_item (Trees.Declaration base declarators) items = omega arith
first_item (Trees.Function base declarator place body) items = refl

-- the block of a function counts for nesting
body_nests : (n : ℕ) (base : BaseTree) (declarator : DeclaratorTree) (parse : Parse) → NestsIn n parse → item_depth (body_of base declarator parse) ≤ n
body_nests n base declarator (Node Forms.BodyRow (Then (Alone opening) (Then items Nothing))) is = omega (arith, is.1, block_nests is.0 items is.2.1.0)
body_nests n base declarator _ is = none_fits n

declared_nests : (n : ℕ) (base : BaseTree) (parse : Parse) → NestsIn n parse → item_depth (declared_of base parse) ≤ n
declared_nests n base (Node Forms.DeclaredRow (Then declarator (Then (Node Forms.FunctionBody (Then body Nothing)) Nothing))) is =
    omega (arith, is.1, is.2.1.0.1, body_nests is.2.1.0.0 base (declarator_of declarator) body is.2.1.0.2.0)
declared_nests n base (Node Forms.DeclaredRow (Then declarator (Then (Node Forms.DeclaredValues (Then value (Then others Nothing))) Nothing))) is = none_fits n
declared_nests n base _ is = none_fits n

tail_nests : (n : ℕ) (base : BaseTree) (parse : Parse) → NestsIn n parse → item_depth (tail_of base parse) ≤ n
tail_nests n base (Node Forms.TailTyped (Then consts (Then declared Nothing))) is = omega (arith, is.1, declared_nests is.0 base declared is.2.1.0)
tail_nests n base _ is = none_fits n

item_nests : (n : ℕ) (parse : Parse) → NestsIn n parse → item_depth (item_of parse) ≤ n
item_nests n (Node (Forms.Storage kind) (Then word (Then item Nothing))) is = omega (arith, is.1, item_nests is.0 item is.2.1.0)
item_nests n (Node Forms.ItemStruct (Then (Alone word) (Then (Alone name) (Then members (Then others Nothing))))) is = omega (arith, is.1, tail_nests is.0 (struct_of word.place name members) others is.2.1.1.1.0)
item_nests n (Node (Forms.ItemTyped kind next) (Then (Alone word) (Then base (Then declared Nothing)))) is = omega (arith, is.1, declared_nests is.0 (base_from word.place base) declared is.2.1.1.0)
item_nests n _ is = none_fits n

items_nest : (n : ℕ) (parse : Parse) → NestsIn n parse → items_depth (items_of parse) ≤ n
items_nest n (Node Forms.OneItem (Then item (Then others Nothing))) is = omega (arith, is.1, first_item (item_of item) (items_of others), item_nests is.0 item is.2.0, items_nest is.0 others is.2.1.0)
items_nest n _ is = none_fits n

-- the whole program
program_nests : (n : ℕ) (parse : Parse) → NestsIn n parse → program_depth (program_of parse) ≤ n
program_nests n (Node Forms.WholeProgram (Then items (Then (Alone end) Nothing))) is = omega (arith, is.1, items_nest is.0 items is.2.0)
program_nests n _ is = none_fits n

-- The expressions of a program whose text is accepted with a limit on nesting nest no deeper than the limit.
pub syntax_depth : (limit : ℕ) (leaves : List Leaf) (accepted : Accepted grammar Forms.Program 0 limit leaves) → program_depth (program_of accepted.tree) ≤ limit
syntax_depth limit leaves accepted = program_nests limit accepted.tree (nests_in limit accepted.tree accepted.nesting)
