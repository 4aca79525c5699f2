-- Statements of a row.
use Rattle.std.proofs.Common.{◌≡◌, ℕ, ◌+◌, ◌<◌, ◌≤◌, List, Result, Err, refl, ap, sym, ◌∙◌, subst}
use Rattle.c_grammar.specs.Table.{Node}
use Rattle.c_grammar.specs.Runs.{Parts, Whole}
use Rattle.c_grammar.specs.declared.kind.Kind.{Kind}
use Rattle.c_grammar.specs.Forms
use Rattle.c_grammar.specs.Leaves.{Leaf}
use Rattle.c_syntax.specs.declared.statement.Stmt.{Stmt}
use Rattle.c_syntax.specs.Trees.{StmtTree}
use Rattle.c_syntax.specs.Views.{stmt_tree}
use Rattle.c_reader.specs.declared.part.Part as memory_part
use Rattle.c_reader.specs.declared.statement.StmtRow.{StmtRow}
use Rattle.c_reader.specs.declared.statement.StmtRow.TheVariants as R
use Rattle.c_reader.specs.declared.syntax_err.SyntaxErr.{SyntaxErr}
use Rattle.c_reader.specs.declared.syntax_err.SyntaxErr.TheVariants.{TooDeep}
use Rattle.c_reader.specs.Shapes.{place_of, stmt_of}
use Rattle.c_reader.specs.Readings.{Begins, Fails}
use Rattle.c_reader.specs.Rows.{Tells, Found, GivesPart}
use Rattle.c_reader.specs.StmtForms.{stmt_form}
use Rattle.c_reader.proofs.Reaching.{Row, deep_fails, whole_gives, row_done_by}

pub deep_at : (row : StmtRow) {kind : Kind} {room need : ℕ} {text : List Leaf} (fault : SyntaxErr) → Begins kind text → Tells Forms.Stmt kind (stmt_form row) → need ≡ Forms.row_need (stmt_form row) → room < need → fault ≡ TooDeep (place_of text) → Fails (Whole Forms.Stmt 0) room text fault
deep_at row {room = room} fault b t needs deep e = deep_fails fault b t (subst (λ n. room < n) needs deep) e

-- each statement counts for nesting
stmt_weight : (row : StmtRow) → Forms.weight_of (stmt_form row) ≡ 1
stmt_weight R.Block = refl
stmt_weight _ = refl

pub row_at : (row : StmtRow) {kind : Kind} {room below need : ℕ} {text : List Leaf} → Begins kind text → Tells Forms.Stmt kind (stmt_form row) → need ≡ Forms.row_need (stmt_form row) → need ≤ room → below + 1 ≡ room → Row Forms.Stmt (stmt_form row) room below text
row_at row {kind = kind} {room = room} {below = below} b t needs fits down = record {
  kind = kind;
  begins = b;
  tells = t;
  fits = subst (λ n. n ≤ room) needs fits;
  down = ap (λ n. below + n) (stmt_weight row) ∙ down;
  ends = record { ends = λ own kind. refl };
}

pub by_row : (row row' : StmtRow) (room : ℕ) (text : List Leaf) (result : Result (memory_part.Part Stmt) SyntaxErr) → row ≡ row' → GivesPart (Parts (Forms.symbols_of (stmt_form row'))) room text (λ parts. stmt_of (Node (stmt_form row') parts)) stmt_tree result → GivesPart (Parts (Forms.symbols_of (stmt_form row))) room text (λ parts. stmt_of (Node (stmt_form row) parts)) stmt_tree result
by_row row row' room text result e given = subst (λ row. GivesPart (Parts (Forms.symbols_of (stmt_form row))) room text (λ parts. stmt_of (Node (stmt_form row) parts)) stmt_tree result) (sym e) given

-- What a row comes to, its statement comes to.
pub row_fails : (row : StmtRow) {room below : ℕ} {text : List Leaf} (fault : SyntaxErr) → Row Forms.Stmt (stmt_form row) room below text → Fails (Parts (Forms.symbols_of (stmt_form row))) below text fault → Fails (Whole Forms.Stmt 0) room text fault
row_fails form fault row fails = whole_gives {V = Stmt} stmt_of stmt_tree (Err fault) row fails

pub row_found : (row : StmtRow) {room below : ℕ} {text behind : List Leaf} {tree tree' : StmtTree} → Row Forms.Stmt (stmt_form row) room below text → Found (Parts (Forms.symbols_of (stmt_form row))) below text (λ parts. stmt_of (Node (stmt_form row) parts)) tree behind → tree ≡ tree' → Found (Whole Forms.Stmt 0) room text stmt_of tree' behind
row_found form row found same = record { parse = Node (stmt_form form) found.parse; run = row_done_by row found.run; shape = found.shape ∙ same }
