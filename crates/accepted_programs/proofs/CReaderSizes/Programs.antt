-- A program has at most as many nodes as its tree has leaves.
use Rattle.std.proofs.Common.{◌≡◌, ℕ, ◌+◌, ◌≤◌, List, ◌∷◌, refl, arith}
use Rattle.c_grammar.specs.Table.{Alone, Nothing, Then, Node}
use Rattle.c_grammar.specs.Forms
use Rattle.c_syntax.specs.Trees
use Rattle.c_syntax.specs.Trees.{BaseTree, DeclaratorTree, ItemTree}
use Rattle.c_syntax.specs.SyntaxNodes.{block_nodes, items_nodes, program_nodes}
use Rattle.c_reader.specs.Grammar.{Parse}
use Rattle.c_reader.specs.Shapes.{declarator_of, struct_of, base_from, body_of, declared_of, tail_of, item_of, items_of, program_of}
use Rattle.accepted_programs.specs.Rows.{size, IsOf}
use Rattle.accepted_programs.proofs.CReaderSizes.Statements.{block_sized}

abbrev item_nodes : ItemTree → ℕ
item_nodes (Trees.Declaration base declarators) = 0
item_nodes (Trees.Function base declarator place body) = block_nodes body

first_item : (item : ItemTree) (items : List ItemTree) → items_nodes (item ∷ items) ≡ item_nodes item + items_nodes items
first_item (Trees.Declaration base declarators) items = omega arith
first_item (Trees.Function base declarator place body) items = refl

body_sized : (base : BaseTree) (declarator : DeclaratorTree) (parse : Parse) → IsOf Forms.Body parse → item_nodes (body_of base declarator parse) ≤ size parse
body_sized base declarator (Node Forms.BodyRow (Then (Alone opening) (Then items Nothing))) is = omega (arith, block_sized items is.1.1.0)
body_sized base declarator _ is = omega arith

declared_sized : (base : BaseTree) (parse : Parse) → IsOf Forms.Declared parse → item_nodes (declared_of base parse) ≤ size parse
declared_sized base (Node Forms.DeclaredRow (Then declarator (Then (Node Forms.FunctionBody (Then body Nothing)) Nothing))) is = omega (arith, body_sized base (declarator_of declarator) body is.1.1.0.1.0)
declared_sized base (Node Forms.DeclaredRow (Then declarator (Then (Node Forms.DeclaredValues (Then value (Then others Nothing))) Nothing))) is = omega arith
declared_sized base _ is = omega arith

tail_sized : (base : BaseTree) (parse : Parse) → IsOf Forms.StructTail parse → item_nodes (tail_of base parse) ≤ size parse
tail_sized base (Node Forms.TailTyped (Then consts (Then declared Nothing))) is = omega (arith, declared_sized base declared is.1.1.0)
tail_sized base _ is = omega arith

item_sized : (parse : Parse) → IsOf Forms.Item parse → item_nodes (item_of parse) ≤ size parse
item_sized (Node (Forms.Storage kind) (Then word (Then item Nothing))) is = omega (arith, item_sized item is.1.1.0)
item_sized (Node Forms.ItemStruct (Then (Alone word) (Then (Alone name) (Then members (Then others Nothing))))) is = omega (arith, tail_sized (struct_of word.place name members) others is.1.1.1.1.0)
item_sized (Node (Forms.ItemTyped kind next) (Then (Alone word) (Then base (Then declared Nothing)))) is = omega (arith, declared_sized (base_from word.place base) declared is.1.1.1.0)
item_sized _ is = omega arith

items_sized : (parse : Parse) → IsOf Forms.Items parse → items_nodes (items_of parse) ≤ size parse
items_sized (Node Forms.OneItem (Then item (Then others Nothing))) is = omega (arith, first_item (item_of item) (items_of others), item_sized item is.1.0, items_sized others is.1.1.0)
items_sized _ is = omega arith

pub program_sized : (parse : Parse) → IsOf Forms.Program parse → program_nodes (program_of parse) ≤ size parse
program_sized (Node Forms.WholeProgram (Then items (Then (Alone end) Nothing))) is = omega (arith, items_sized items is.1.0)
program_sized _ is = omega arith
