-- The rows of expressions.
use Rattle.std.proofs.Common.{◌≡◌, ℕ, ◌+◌, ◌<◌, ◌≤◌, max, false, List, [], ◌∷◌, ◌++◌, Some, None, refl, sym, ◌∙◌, ap, append_assoc, arith}
use Rattle.std.proofs.lemmas.List.{append-nil}
use Rattle.run_theory.specs.declared.place.Pos.{Pos}
use Rattle.c_grammar.specs.Table.{Nonterminal, Alone, Nothing, Then, Node, Never, height}
use Rattle.c_grammar.specs.Runs.{Whole, Done, Failed, Deep, fits_first, level_of, next_row, at_end, no_more, more_deep, more_failed, more_done}
use Rattle.c_grammar.specs.declared.kind.Kind.{Kind}
use Rattle.c_grammar.specs.declared.kind.Kind.TheVariants as K
use Rattle.c_grammar.specs.Forms
use Rattle.c_grammar.specs.Chooses.{take, take_if, choose_expr, goes_on_by}
use Rattle.c_grammar.specs.Leaves.{Leaf, kind_of}
use Rattle.c_syntax.specs.Trees
use Rattle.c_reader.specs.declared.syntax_err.SyntaxErr.{SyntaxErr}
use Rattle.c_reader.specs.declared.syntax_err.SyntaxErr.TheVariants.{At, TooDeep}
use Rattle.c_reader.specs.Grammar.{grammar, Parse}
use Rattle.c_reader.specs.Shapes.{place_of, bytes_of, literals_of, expr_of}
use Rattle.c_reader.specs.Readings.{Fails, IsRead, Begins, Passes}
use Rattle.c_reader.specs.Choices.{next_form}
use Rattle.c_reader.specs.Steps.{second_kind_of, first_bytes, Onto}
use Rattle.c_reader.specs.ExpressionSteps.{first_single, joined, Chooses, Starts}
use Rattle.c_reader.proofs.KindTests.{is_other}
use Rattle.c_reader.proofs.Rows.{Within, chosen, chosen_by, no_tokens, no_row, no_room, lift, onto_lifts, part_lifts, start, begin, behind_token, behind_part, tail, nothing_yet, finished, misfit, deep}

-- A row of an expression is read.
pub starts : {level room below : ℕ} {text middle : List Leaf} {build : Parse → Parse} {tree : Trees.ExprTree} {high own : ℕ} → Within Forms.Expr level room text below [] middle build → expr_of (build Nothing) ≡ tree → height grammar (build Nothing) ≡ high → level_of grammar (build Nothing) ≡ own → Starts level room text tree high own middle
starts {build = build} within shape measured binds =
    record { parse = build Nothing; goes = λ outcome more. within.done at_end more; shape = shape; measured = measured; binds = binds }

-- The row is chosen, and there is room for it.
pub operand_row : {level room : ℕ} {form : Forms.Production} {text : List Leaf} (below : ℕ) → Chooses level form text → Forms.row_need form ≤ room → below + Forms.weight_of form ≡ room → Within Forms.Expr level room text below (Forms.symbols_of form) text (Node form)
operand_row below chooses fits down = start below (record { told = chooses.told }) fits fits down

-- no room for it
pub too_deep : {level : ℕ} {form : Forms.Production} {text : List Leaf} (room : ℕ) (fault : SyntaxErr) → Chooses level form text → room < Forms.row_need form → fault ≡ TooDeep (place_of text) → Fails (Whole Forms.Expr level) room text fault
too_deep room fault chooses short same = no_room room fault (record { told = chooses.told }) short same

-- ---- a token alone

pub single_row : {kind : Kind} {level room : ℕ} {text behind : List Leaf} {place : Pos} (below : ℕ) (passes : Passes kind text place behind) → Chooses level (Forms.Single kind) text → 1 ≤ room → below + 1 ≡ room → Starts level room text (first_single text) 1 0 behind
single_row {text = text} below passes chooses fits down =
    starts (behind_token passes.leaf (operand_row below chooses fits down) passes.parts passes.is_kind) (sym (ap first_single passes.parts)) refl refl

pub single_misfit : {kind : Kind} {level : ℕ} {text : List Leaf} (room below : ℕ) (fault : SyntaxErr) → Chooses level (Forms.Single kind) text → 1 ≤ room → below + 1 ≡ room → fits_first grammar kind text ≡ false → fault ≡ At (place_of text) → Fails (Whole Forms.Expr level) room text fault
single_misfit room below fault chooses fits down none same = misfit fault (operand_row below chooses fits down) none same

-- ---- literals

pub record LiteralsSoFar (room : ℕ) (text rest : List Leaf) (first now : List ℕ) : Type 0 where
  pub build : Parse → Parse
  pub onto : Onto (Whole Forms.Literals 0) (Whole Forms.Literals 0) room text rest build
  pub shape : (tree : Parse) → first ++ literals_of (build tree) ≡ now ++ literals_of tree
  pub high : (tree : Parse) → height grammar (build tree) ≡ height grammar tree

pub no_literals : (room : ℕ) (text : List Leaf) (first : List ℕ) → LiteralsSoFar room text text first first
no_literals room text first = record { build = λ tree. tree; onto = nothing_yet; shape = λ tree. refl; high = λ tree. refl }

at_kind : {kind kind' : Kind} {text : List Leaf} → Begins kind text → kind ≡ kind' → Begins kind' text
at_kind begins same = record { leaf = begins.leaf; behind = begins.behind; parts = begins.parts; is_kind = begins.is_kind ∙ same }

pub one_literal : {kind : Kind} {room : ℕ} {text rest behind : List Leaf} {first now bytes : List ℕ} {place : Pos} → LiteralsSoFar room text rest first now → Begins kind rest → kind ≡ K.Literal → Passes K.Literal rest place behind → bytes ≡ first_bytes rest → LiteralsSoFar room text behind first (now ++ bytes)
one_literal {first = first} {now = now} {bytes = bytes} so_far begins same passes held =
    let node : Parse → Parse = λ tree. Node Forms.MoreLiteral (Then (Alone passes.leaf) (Then tree Nothing)) in
    let own : bytes ≡ bytes_of passes.leaf.lexeme = held ∙ ap first_bytes passes.parts in
    record {
      build = λ tree. so_far.build (node tree);
      onto = tail (λ level own kind. refl) so_far.onto (behind_token passes.leaf (begin (chosen Forms.Literals 0 (at_kind begins same) refl) refl) passes.parts passes.is_kind);
      shape = λ tree. so_far.shape (node tree) ∙ sym (append_assoc now (bytes_of passes.leaf.lexeme) (literals_of tree)) ∙ ap (λ b. (now ++ b) ++ literals_of tree) (sym own);
      high = λ tree. let e = so_far.high (node tree) in omega arith;
    }

pub last_literal : {kind : Kind} {room : ℕ} {text rest : List Leaf} {first now : List ℕ} → LiteralsSoFar room text rest first now → Begins kind rest → (kind ≡ K.Literal → ⊥) → IsRead (Whole Forms.Literals 0) room text (joined first) now 0 rest
last_literal {kind = kind} {now = now} so_far begins no_literal =
    let row = begin (chosen Forms.Literals 0 begins (ap (λ t. take_if t Forms.MoreLiteral (take Forms.NoLiteral)) (is_other kind K.Literal no_literal))) refl in
    record {
      parse = so_far.build (Node Forms.NoLiteral Nothing);
      run = so_far.onto.done (finished (λ level own kind'. refl) row);
      shape = so_far.shape (Node Forms.NoLiteral Nothing) ∙ append-nil now;
      measured = so_far.high (Node Forms.NoLiteral Nothing);
    }

pub literals_cut : {text rest : List Leaf} {first now : List ℕ} (room : ℕ) (fault : SyntaxErr) → LiteralsSoFar room text rest first now → rest ≡ [] → fault ≡ At (place_of rest) → Fails (Whole Forms.Literals 0) room text fault
literals_cut room fault so_far none same = lift fault (onto_lifts so_far.onto) (no_row room fault (no_tokens Forms.Literals 0 none) same)

text_row : {level room : ℕ} {text middle : List Leaf} {place : Pos} (below : ℕ) (passes : Passes K.Literal text place middle) → Chooses level Forms.Text text → 1 ≤ room → below + 1 ≡ room → Within Forms.Expr level room text below (Nonterminal Forms.Literals 0 ∷ []) middle (λ others. Node Forms.Text (Then (Alone passes.leaf) others))
text_row below passes chooses fits down =
    behind_token passes.leaf (operand_row below chooses fits down) passes.parts passes.is_kind

pub text_read : {level room : ℕ} {text middle behind : List Leaf} {place : Pos} {first bytes : List ℕ} (below : ℕ) → Passes K.Literal text place middle → Chooses level Forms.Text text → 1 ≤ room → below + 1 ≡ room → first ≡ first_bytes text → IsRead (Whole Forms.Literals 0) below middle (joined first) bytes 0 behind → Starts level room text (Trees.Literal bytes place) 1 0 behind
text_read {first = first} {bytes = bytes} below passes chooses fits down held others =
    let own : first ≡ bytes_of passes.leaf.lexeme = held ∙ ap first_bytes passes.parts in
    let whole : bytes_of passes.leaf.lexeme ++ literals_of others.parse ≡ bytes = ap (λ b. b ++ literals_of others.parse) (sym own) ∙ others.shape in
    let stands = passes.stands in
    let low = others.measured in
    starts (behind_part (text_row below passes chooses fits down) others.run) (cc (whole, stands)) (omega arith) refl

pub text_fault : {level : ℕ} {text middle : List Leaf} {place : Pos} (room below : ℕ) (fault : SyntaxErr) → Passes K.Literal text place middle → Chooses level Forms.Text text → 1 ≤ room → below + 1 ≡ room → Fails (Whole Forms.Literals 0) below middle fault → Fails (Whole Forms.Expr level) room text fault
text_fault room below fault passes chooses fits down fails = lift fault (part_lifts (text_row below passes chooses fits down)) fails

pub text_misfit : {level : ℕ} {text : List Leaf} (room below : ℕ) (fault : SyntaxErr) → Chooses level Forms.Text text → 1 ≤ room → below + 1 ≡ room → fits_first grammar K.Literal text ≡ false → fault ≡ At (place_of text) → Fails (Whole Forms.Expr level) room text fault
text_misfit room below fault chooses fits down none same = misfit fault (operand_row below chooses fits down) none same

-- ---- what an expression begins with

pub chooses : {level : ℕ} {kind next : Kind} {form : Forms.Production} {text : List Leaf} → Begins kind text → next ≡ second_kind_of text → choose_expr level kind next ≡ take form → Chooses level form text
chooses {level = level} {kind = kind} begins second row =
    record { told = chosen_by Forms.Expr level begins ∙ ap (choose_expr level kind) (sym second) ∙ row }

pub none_chosen : {kind next : Kind} {text : List Leaf} (level room : ℕ) (fault : SyntaxErr) → Begins kind text → next ≡ second_kind_of text → choose_expr level kind next ≡ Never → fault ≡ At (place_of text) → Fails (Whole Forms.Expr level) room text fault
none_chosen {kind = kind} level room fault begins second row same =
    no_row room fault (record { told = chosen_by Forms.Expr level begins ∙ ap (choose_expr level kind) (sym second) ∙ row }) same

-- ---- what goes on behind one

next_is : {own : ℕ} (level : ℕ) (parse : Parse) (rest : List Leaf) → level_of grammar parse ≡ own → next_row grammar Forms.Expr level parse rest ≡ next_form level own rest
next_is level parse [] binds = refl
next_is level parse (leaf ∷ rest) binds = ap (λ n. goes_on_by Forms.Expr level n (kind_of leaf)) binds

-- Nothing goes on.
pub ended : {level room high own : ℕ} {text rest : List Leaf} {tree : Trees.ExprTree} → Starts level room text tree high own rest → None ≡ next_form level own rest → IsRead (Whole Forms.Expr level) room text expr_of tree high rest
ended {level = level} {rest = rest} begun none =
    record {
      parse = begun.parse;
      run = begun.goes (Done begun.parse rest) (no_more (next_is level begun.parse rest begun.binds ∙ sym none));
      shape = begun.shape;
      measured = begun.measured;
    }

-- The row goes on, and there is room for it.
pub extend : {level room high own : ℕ} {text rest : List Leaf} {tree : Trees.ExprTree} {form : Forms.Production} (below : ℕ) (begun : Starts level room text tree high own rest) → next_form level own rest ≡ Some form → Forms.row_need form ≤ room → high ≤ below → below + Forms.weight_of form ≡ room → Within Forms.Expr level room text below (Forms.symbols_of form) rest (λ parts. Node form (Then begun.parse parts))
extend {level = level} {rest = rest} below begun told fits left_fits down =
    let next = next_is level begun.parse rest begun.binds ∙ told in
    let low = begun.measured in
    record {
      done = λ {others} {behind = end} {outcome} run more. begun.goes outcome (more_done next fits (omega (arith, left_fits, low)) down run more);
      failed = λ {fault} {behind = end} run. begun.goes (Failed fault end) (more_failed next fits (omega (arith, left_fits, low)) down run);
    }

pub extend_deep : {level high own : ℕ} {text rest : List Leaf} {tree : Trees.ExprTree} {form : Forms.Production} (room : ℕ) (fault : SyntaxErr) → Starts level room text tree high own rest → next_form level own rest ≡ Some form → Forms.weight_of form ≡ 1 → room < max (Forms.row_need form) (high + 1) → fault ≡ TooDeep (place_of rest) → Fails (Whole Forms.Expr level) room text fault
extend_deep {level = level} {rest = rest} {form = form} room fault begun told weighs short same =
    let low = begun.measured in
    let less : room < max (Forms.row_need form) (height grammar begun.parse + Forms.weight_of form) = omega (arith, short, low, weighs) in
    deep fault (begun.goes (Failed Deep rest) (more_deep (next_is level begun.parse rest begun.binds ∙ told) less)) same

-- ---- trees of equal parts

pub same_member : {object object' : Trees.ExprTree} {name name' : Trees.NameTree} → object ≡ object' → name ≡ name' → Trees.Member object name ≡ Trees.Member object' name'
same_member one other = cc (one, other)

pub same_pointer_member : {pointer pointer' : Trees.ExprTree} {name name' : Trees.NameTree} → pointer ≡ pointer' → name ≡ name' → Trees.PointerMember pointer name ≡ Trees.PointerMember pointer' name'
same_pointer_member one other = cc (one, other)
