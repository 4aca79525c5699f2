-- Types in parentheses, what is built of them, and the arguments of calls.
use Rattle.std.proofs.Common.{◌≡◌, ℕ, zero, suc, ◌+◌, ◌<◌, ◌≤◌, max, Bool, true, false, List, [], ◌∷◌, ◌++◌, refl, sym, ◌∙◌, ap, subst, arith}
use Rattle.run_theory.specs.declared.place.Pos.{Pos}
use Rattle.c_grammar.specs.Table.{Symbol, Terminal, Nonterminal, Alone, Nothing, Then, Node, Choice, Never, Take, Stuck, height}
use Rattle.c_grammar.specs.Runs.{Parts, Whole, More, Fault, Done, Failed, fits_first, Run, no_memory, unfit, token_failed, part_failed, then_failed, never, stuck, stuck_deep, first_deep, second_deep, row_failed, row_done}
use Rattle.c_grammar.specs.declared.kind.Kind.{Kind}
use Rattle.c_grammar.specs.declared.kind.Kind.TheVariants as K
use Rattle.c_grammar.specs.Kinds.{is_type_word}
use Rattle.c_grammar.specs.Forms
use Rattle.c_grammar.specs.Chooses.{take, take_if, begins_expr, choose_expr}
use Rattle.c_grammar.specs.Language.{choose_at}
use Rattle.c_grammar.specs.Leaves.{Leaf, kind_of, sample}
use Rattle.c_syntax.specs.declared.expr.Expr.{Expr}
use Rattle.c_syntax.specs.Trees
use Rattle.c_syntax.specs.Views.{expr_tree}
use Rattle.c_syntax.specs.Views as views
use Rattle.c_reader.specs.declared.syntax_err.SyntaxErr.{SyntaxErr}
use Rattle.c_reader.specs.declared.syntax_err.SyntaxErr.TheVariants.{At, TooDeep}
use Rattle.c_reader.specs.Grammar.{grammar, Parse}
use Rattle.c_reader.specs.Shapes.{place_of, expr_of, arguments_of}
use Rattle.c_reader.specs.declared.second.SizeofRow.{SizeofRow}
use Rattle.c_reader.specs.Choices.{sizeof_form}
use Rattle.c_reader.specs.Readings.{Fails, IsRead, Begins, Passes}
use Rattle.c_reader.specs.Steps.{second_kind_of, Onto, BeginsRow}
use Rattle.c_reader.specs.ExpressionSteps.{Chooses, Starts, ReadsType}
use Rattle.c_reader.specs.Terms.{ReadsEnclosedType}
use Rattle.c_reader.proofs.KindTests.{is_other}
use Rattle.c_reader.proofs.Rows.{Within, Chosen, chosen, chosen_by, no_tokens, no_row, lift, onto_lifts, start, begin, is_fit, bad, after, behind_token, behind_part, tail, nothing_yet, finished, misfit, part_fault, spans}
use Rattle.c_reader.proofs.ExprRows.{starts, operand_row, too_deep}

-- ---- a type in parentheses

-- the symbols of one, and those behind it
abbrev pub enclosed_symbols : List (Symbol Kind Forms.Sort) → List (Symbol Kind Forms.Sort)
enclosed_symbols more = Terminal K.OpenParenthesis ∷ Nonterminal Forms.Type_name 0 ∷ Terminal K.CloseParenthesis ∷ more

pub enclosed_unopened : (text : List Leaf) (room : ℕ) (fault : SyntaxErr) (more : List (Symbol Kind Forms.Sort)) → fits_first grammar K.OpenParenthesis text ≡ false → fault ≡ At (place_of text) → Fails (Parts (enclosed_symbols more)) room text fault
enclosed_unopened text room fault more none same = bad fault (unfit none) same

-- What the symbols behind the first token come to, all come to.
opened : {text inside behind : List Leaf} {place : Pos} {room : ℕ} {why : Fault} {more : List (Symbol Kind Forms.Sort)} → Passes K.OpenParenthesis text place inside → Run grammar (Parts (Nonterminal Forms.Type_name 0 ∷ Terminal K.CloseParenthesis ∷ more)) room inside (Failed why behind) → Run grammar (Parts (enclosed_symbols more)) room text (Failed why behind)
opened {behind = behind} {room = room} {why = why} {more = more} opens run =
    subst (λ leaves. Run grammar (Parts (enclosed_symbols more)) room leaves (Failed why behind)) (sym opens.parts) (token_failed (is_fit K.OpenParenthesis opens.leaf opens.is_kind) run)

pub enclosed_fault : {text inside : List Leaf} {place : Pos} (room : ℕ) (fault : SyntaxErr) (more : List (Symbol Kind Forms.Sort)) → Passes K.OpenParenthesis text place inside → Fails (Whole Forms.Type_name 0) room inside fault → Fails (Parts (enclosed_symbols more)) room text fault
enclosed_fault room fault more opens fails = lift fault (record { run = λ run. opened opens (part_failed run) }) fails

pub enclosed_unclosed : {high : ℕ} {text inside rest : List Leaf} {place : Pos} {tree : Trees.TypeTree} (room : ℕ) (fault : SyntaxErr) (more : List (Symbol Kind Forms.Sort)) → Passes K.OpenParenthesis text place inside → ReadsType false room inside tree high rest → fits_first grammar K.CloseParenthesis rest ≡ false → fault ≡ At (place_of rest) → Fails (Parts (enclosed_symbols more)) room text fault
enclosed_unclosed room fault more opens named none same = bad fault (opened opens (then_failed named.run (unfit none))) same

pub enclosed_read : {room high : ℕ} {text inside rest behind : List Leaf} {place closing : Pos} {tree : Trees.TypeTree} → Passes K.OpenParenthesis text place inside → ReadsType false room inside tree high rest → Passes K.CloseParenthesis rest closing behind → ReadsEnclosedType room text place tree high behind
enclosed_read {inside = inside} {rest = rest} opens named closes =
    record { inside = inside; opens = opens; rest = rest; named = named; closes = record { leaf = closes.leaf; parts = closes.parts; is_kind = closes.is_kind } }

pub type_fits : {named : Bool} {room high : ℕ} {text behind : List Leaf} {tree : Trees.TypeTree} → ReadsType named room text tree high behind → high ≤ room
type_fits typed = let low = typed.measured in let fits = spans typed.run in omega (arith, low, fits)

pub enclosed_fits : {room high : ℕ} {text behind : List Leaf} {place : Pos} {tree : Trees.TypeTree} → ReadsEnclosedType room text place tree high behind → high ≤ room
enclosed_fits named = type_fits named.named

-- Its symbols are read.
behind_type : {sort : Forms.Sort} {level room below high : ℕ} {text middle behind : List Leaf} {place : Pos} {tree : Trees.TypeTree} {symbols : List (Symbol Kind Forms.Sort)} {build : Parse → Parse} → Within sort level room text below (enclosed_symbols symbols) middle build → (named : ReadsEnclosedType below middle place tree high behind) → Within sort level room text below symbols behind (λ others. build (Then (Alone named.opens.leaf) (Then (Node Forms.TypeRow (Then named.named.base (Then named.named.declarator Nothing))) (Then (Alone named.closes.leaf) others))))
behind_type within named =
    behind_token named.closes.leaf (behind_part (after within named.opens) named.named.run) named.closes.parts named.closes.is_kind

-- It has a fault.
within_fault : {sort : Forms.Sort} {level room below : ℕ} {text middle : List Leaf} {symbols : List (Symbol Kind Forms.Sort)} {build : Parse → Parse} (fault : SyntaxErr) → Within sort level room text below symbols middle build → Fails (Parts symbols) below middle fault → Fails (Whole sort level) room text fault
within_fault fault within fails = lift fault (record { run = λ run. within.failed run }) fails

-- ---- what was read, by other names

pub renamed : {level room high high' own own' : ℕ} {text behind behind' : List Leaf} {tree tree' : Trees.ExprTree} → tree' ≡ tree → own' ≡ own → high' ≡ high → behind' ≡ behind → Starts level room text tree high own behind → Starts level room text tree' high' own' behind'
renamed {level = level} {room = room} {text = text} same_tree same_own same_high same_rest begun =
    record {
      parse = begun.parse;
      goes = λ outcome. subst (λ rest. Run grammar (More Forms.Expr level begun.parse) room rest outcome → Run grammar (Whole Forms.Expr level) room text outcome) (sym same_rest) (begun.goes outcome);
      shape = begun.shape ∙ sym same_tree;
      measured = begun.measured ∙ sym same_high;
      binds = begun.binds ∙ sym same_own;
    }

-- ---- a cast

pub cast_deep : {level : ℕ} {text : List Leaf} (room : ℕ) (fault : SyntaxErr) → Chooses level Forms.Cast text → room < 2 → fault ≡ TooDeep (place_of text) → Fails (Whole Forms.Expr level) room text fault
cast_deep room fault chooses short same = too_deep room fault chooses short same

pub cast_type_fault : {level : ℕ} {text : List Leaf} (room below : ℕ) (fault : SyntaxErr) → Chooses level Forms.Cast text → 2 ≤ room → below + 1 ≡ room → ((more : List (Symbol Kind Forms.Sort)) → Fails (Parts (enclosed_symbols more)) below text fault) → Fails (Whole Forms.Expr level) room text fault
cast_type_fault room below fault chooses fits down fails = within_fault fault (operand_row below chooses fits down) (fails (Nonterminal Forms.Expr 3 ∷ []))

pub cast_operand_fault : {level high : ℕ} {text middle : List Leaf} {place : Pos} {tree : Trees.TypeTree} (room below : ℕ) (fault : SyntaxErr) → Chooses level Forms.Cast text → 2 ≤ room → below + 1 ≡ room → ReadsEnclosedType below text place tree high middle → Fails (Whole Forms.Expr 3) below middle fault → Fails (Whole Forms.Expr level) room text fault
cast_operand_fault room below fault chooses fits down named fails = part_fault fault (behind_type (operand_row below chooses fits down) named) fails

same_cast : {place place' : Pos} {type type' : Trees.TypeTree} {operand operand' : Trees.ExprTree} → place ≡ place' → type ≡ type' → operand ≡ operand' → Trees.Cast place type operand ≡ Trees.Cast place' type' operand'
same_cast one other third = cc (one, other, third)

pub cast_read : {level room high low : ℕ} {text middle behind : List Leaf} {place : Pos} {tree : Trees.TypeTree} {operand : Trees.ExprTree} (below : ℕ) → Chooses level Forms.Cast text → 2 ≤ room → below + 1 ≡ room → ReadsEnclosedType below text place tree high middle → IsRead (Whole Forms.Expr 3) below middle expr_of operand low behind → Starts level room text (Trees.Cast place tree operand) (max high low + 1) 3 behind
cast_read below chooses fits down named operand =
    let high = named.named.measured in
    let low = operand.measured in
    starts (behind_part (behind_type (operand_row below chooses fits down) named) operand.run) (same_cast named.opens.stands named.named.shape operand.shape) (omega (arith, high, low)) refl

-- ---- `sizeof`

pub sizeof_deep : {level : ℕ} {text : List Leaf} (room : ℕ) (fault : SyntaxErr) → Chooses level Forms.SizeofRow text → room < 1 → fault ≡ TooDeep (place_of text) → Fails (Whole Forms.Expr level) room text fault
sizeof_deep room fault chooses short same = too_deep room fault chooses short same

pub sizeof_misfit : {level : ℕ} {text : List Leaf} (room below : ℕ) (fault : SyntaxErr) → Chooses level Forms.SizeofRow text → 1 ≤ room → below + 1 ≡ room → fits_first grammar K.Sizeof text ≡ false → fault ≡ At (place_of text) → Fails (Whole Forms.Expr level) room text fault
sizeof_misfit room below fault chooses fits down none same = misfit fault (operand_row below chooses fits down) none same

sizeof_row : {level room : ℕ} {text middle : List Leaf} {place : Pos} (below : ℕ) → Chooses level Forms.SizeofRow text → 1 ≤ room → below + 1 ≡ room → (word : Passes K.Sizeof text place middle) → Within Forms.Expr level room text below (Nonterminal Forms.SizeofOperand 0 ∷ []) middle (λ others. Node Forms.SizeofRow (Then (Alone word.leaf) others))
sizeof_row below chooses fits down word = after (operand_row below chooses fits down) word

pub sizeof_operand_fault : {level : ℕ} {text middle : List Leaf} {place : Pos} (room below : ℕ) (fault : SyntaxErr) → Chooses level Forms.SizeofRow text → 1 ≤ room → below + 1 ≡ room → Passes K.Sizeof text place middle → Fails (Whole Forms.SizeofOperand 0) below middle fault → Fails (Whole Forms.Expr level) room text fault
sizeof_operand_fault room below fault chooses fits down word fails = part_fault fault (sizeof_row below chooses fits down word) fails

operand_of : {room : ℕ} {text : List Leaf} {form : Forms.Production} → BeginsRow Forms.SizeofOperand 0 room text form → Forms.weight_of form ≡ 0 → Within Forms.SizeofOperand 0 room text room (Forms.symbols_of form) text (Node form)
operand_of {room = room} row light = start room (record { told = row.chosen }) row.first_fits row.second_fits (omega (arith, light))

pub at_form : {room : ℕ} {text : List Leaf} {row row' : SizeofRow} → BeginsRow Forms.SizeofOperand 0 room text (sizeof_form row) → row ≡ row' → BeginsRow Forms.SizeofOperand 0 room text (sizeof_form row')
at_form {room = room} {text = text} begins same = subst (λ r. BeginsRow Forms.SizeofOperand 0 room text (sizeof_form r)) same begins

pub of_type_fault : {level : ℕ} {text middle : List Leaf} {place : Pos} (room below : ℕ) (fault : SyntaxErr) → Chooses level Forms.SizeofRow text → 1 ≤ room → below + 1 ≡ room → Passes K.Sizeof text place middle → BeginsRow Forms.SizeofOperand 0 below middle Forms.SizeofType → ((more : List (Symbol Kind Forms.Sort)) → Fails (Parts (enclosed_symbols more)) below middle fault) → Fails (Whole Forms.Expr level) room text fault
of_type_fault room below fault chooses fits down word row fails =
    sizeof_operand_fault room below fault chooses fits down word (within_fault fault (operand_of row refl) (fails []))

pub of_expr_fault : {level : ℕ} {text middle : List Leaf} {place : Pos} (room below : ℕ) (fault : SyntaxErr) → Chooses level Forms.SizeofRow text → 1 ≤ room → below + 1 ≡ room → Passes K.Sizeof text place middle → BeginsRow Forms.SizeofOperand 0 below middle Forms.SizeofExpr → Fails (Whole Forms.Expr 2) below middle fault → Fails (Whole Forms.Expr level) room text fault
of_expr_fault room below fault chooses fits down word row fails =
    sizeof_operand_fault room below fault chooses fits down word (part_fault fault (operand_of row refl) fails)

same_of_type : {place place' : Pos} {type type' : Trees.TypeTree} → place ≡ place' → type ≡ type' → Trees.SizeofType place type ≡ Trees.SizeofType place' type'
same_of_type one other = cc (one, other)

pub of_type_read : {level room high : ℕ} {text middle behind : List Leaf} {place opening : Pos} {tree : Trees.TypeTree} (below : ℕ) → Chooses level Forms.SizeofRow text → 1 ≤ room → below + 1 ≡ room → Passes K.Sizeof text place middle → BeginsRow Forms.SizeofOperand 0 below middle Forms.SizeofType → ReadsEnclosedType below middle opening tree high behind → Starts level room text (Trees.SizeofType place tree) (high + 1) 2 behind
of_type_read below chooses fits down word row named =
    let high = named.named.measured in
    starts (behind_part (sizeof_row below chooses fits down word) (finished (λ level own kind. refl) (behind_type (operand_of row refl) named))) (same_of_type word.stands named.named.shape) (omega (arith, high)) refl

same_of_expr : {place place' : Pos} {operand operand' : Trees.ExprTree} → place ≡ place' → operand ≡ operand' → Trees.SizeofExpr place operand ≡ Trees.SizeofExpr place' operand'
same_of_expr one other = cc (one, other)

pub of_expr_read : {level room high : ℕ} {text middle behind : List Leaf} {place : Pos} {operand : Trees.ExprTree} (below : ℕ) → Chooses level Forms.SizeofRow text → 1 ≤ room → below + 1 ≡ room → Passes K.Sizeof text place middle → BeginsRow Forms.SizeofOperand 0 below middle Forms.SizeofExpr → IsRead (Whole Forms.Expr 2) below middle expr_of operand high behind → Starts level room text (Trees.SizeofExpr place operand) (high + 1) 2 behind
of_expr_read below chooses fits down word row operand =
    let high = operand.measured in
    starts (behind_part (sizeof_row below chooses fits down word) (finished (λ level own kind. refl) (behind_part (operand_of row refl) operand.run))) (same_of_expr word.stands operand.shape) (omega (arith, high)) refl

-- ---- an argument, which takes room

abbrev pub TakesRoom : Choice Forms.Production → Type 0
TakesRoom Never = ⊥
TakesRoom (Take form first second) = 1 ≤ first
TakesRoom (Stuck first) = ⊥

either : (told : Bool) (form : Forms.Production) (otherwise : Choice Forms.Production) → TakesRoom (take form) → TakesRoom otherwise → TakesRoom (take_if told form otherwise)
either true form otherwise one other = one
either false form otherwise one other = other

takes_room : (kind next : Kind) → begins_expr kind ≡ true → TakesRoom (choose_expr 15 kind next)
takes_room K.Name next e = omega arith
takes_room K.Integer next e = omega arith
takes_room K.Character next e = omega arith
takes_room K.Literal next e = omega arith
takes_room K.Null next e = omega arith
takes_room K.EndOfFile next e = omega arith
takes_room K.OpenParenthesis next e = either (is_type_word next) Forms.Cast (take Forms.Parenthesized) (omega arith) (omega arith)
takes_room K.Sizeof next e = omega arith
takes_room K.PlusPlus next e = omega arith
takes_room K.MinusMinus next e = omega arith
takes_room K.Star next e = omega arith
takes_room K.Ampersand next e = omega arith
takes_room K.Plus next e = omega arith
takes_room K.Minus next e = omega arith
takes_room K.Tilde next e = omega arith
takes_room K.Exclamation next e = omega arith
takes_room _ next e = cc e

argument_takes : {kind : Kind} {text : List Leaf} → Begins kind text → begins_expr kind ≡ true → TakesRoom (choose_at kind_of sample Forms.Expr 15 text)
argument_takes {kind = kind} {text = text} begins told = subst TakesRoom (sym (chosen_by Forms.Expr 15 begins)) (takes_room kind (second_kind_of text) told)

-- There was room for one that was read.
had_room : {room : ℕ} {text behind : List Leaf} {tree : Parse} → TakesRoom (choose_at kind_of sample Forms.Expr 15 text) → Run grammar (Whole Forms.Expr 15) room text (Done tree behind) → 1 ≤ room
had_room takes (row_done told fits fits' down run more) = let least = subst TakesRoom told takes in omega (arith, least, fits)

-- Where there is none, the arguments have the fault that the first of them has.
no_room_for : {room : ℕ} {text behind : List Leaf} {why : Fault} → TakesRoom (choose_at kind_of sample Forms.Expr 15 text) → Chosen Forms.Arguments 0 text (Take Forms.OneArgument 1 1) → room < 1 → Run grammar (Whole Forms.Expr 15) room text (Failed why behind) → Run grammar (Whole Forms.Arguments 0) room text (Failed why behind)
no_room_for takes row short (no_memory behind) = no_memory behind
no_room_for takes row short (never told) = absurd (subst TakesRoom told takes)
no_room_for takes row short (stuck told fits) = absurd (subst TakesRoom told takes)
no_room_for takes row short (stuck_deep told low) = absurd (subst TakesRoom told takes)
no_room_for takes row short (first_deep told low) = first_deep row.told short
no_room_for takes row short (second_deep told fits low) = let least = subst TakesRoom told takes in absurd (omega (arith, least, fits, short))
no_room_for takes row short (row_failed told fits fits' down run) = let least = subst TakesRoom told takes in absurd (omega (arith, least, fits, short))
no_room_for takes row short (row_done told fits fits' down run more) = let least = subst TakesRoom told takes in absurd (omega (arith, least, fits, short))

-- ---- arguments

-- arguments that were read, in front of others
abbrev pub arguments_with : List Expr → Trees.ArgumentsTree → Trees.ArgumentsTree
arguments_with [] others = others
arguments_with (value ∷ rest) others = Trees.Argument (expr_tree value) (arguments_with rest others)

with_last : (read : List Expr) (value : Expr) (others : Trees.ArgumentsTree) → arguments_with (read ++ value ∷ []) others ≡ arguments_with read (Trees.Argument (expr_tree value) others)
with_last [] value others = refl
with_last (first ∷ read) value others = ap (Trees.Argument (expr_tree first)) (with_last read value others)

with_none : (read : List Expr) → arguments_with read Trees.NoArguments ≡ views.arguments_of read
with_none [] = refl
with_none (value ∷ read) = ap (Trees.Argument (expr_tree value)) (with_none read)

pub record ArgumentsSoFar (room : ℕ) (text rest : List Leaf) (read : List Expr) (high : ℕ) : Type 0 where
  pub build : Parse → Parse
  pub onto : Onto (Whole Forms.Arguments 0) (Whole Forms.ArgumentsMore 0) room text rest build
  pub shape : (tree : Parse) → arguments_of (build tree) ≡ arguments_with read (arguments_of tree)
  pub high_is : (tree : Parse) → height grammar (build tree) ≡ max high (height grammar tree)
  pub fits : 1 ≤ room

by_argument : {kind : Kind} {text : List Leaf} → Begins kind text → begins_expr kind ≡ true → Chosen Forms.Arguments 0 text (Take Forms.OneArgument 1 1)
by_argument begins told = chosen Forms.Arguments 0 begins (ap (λ t. take_if t Forms.OneArgument (take Forms.NoArgument)) told)

arguments_row : {kind : Kind} {room : ℕ} {text : List Leaf} → Begins kind text → begins_expr kind ≡ true → 1 ≤ room → Within Forms.Arguments 0 room text room (Nonterminal Forms.Expr 15 ∷ Nonterminal Forms.ArgumentsMore 0 ∷ []) text (Node Forms.OneArgument)
arguments_row {room = room} begins told fits = start room (by_argument begins told) fits fits (omega arith)

pub no_arguments : {kind : Kind} {room : ℕ} {text : List Leaf} → Begins kind text → begins_expr kind ≡ false → IsRead (Whole Forms.Arguments 0) room text arguments_of Trees.NoArguments 0 text
no_arguments begins told =
    let row = begin (chosen Forms.Arguments 0 begins (ap (λ t. take_if t Forms.OneArgument (take Forms.NoArgument)) told)) refl in
    record { parse = Node Forms.NoArgument Nothing; run = finished (λ level own kind. refl) row; shape = refl; measured = refl }

pub first_argument_fault : {kind : Kind} {text : List Leaf} (room : ℕ) (fault : SyntaxErr) → Begins kind text → begins_expr kind ≡ true → Fails (Whole Forms.Expr 15) room text fault → Fails (Whole Forms.Arguments 0) room text fault
first_argument_fault zero fault begins told fails =
    lift fault (record { run = λ run. no_room_for (argument_takes begins told) (by_argument begins told) (omega arith) run }) fails
first_argument_fault (suc room) fault begins told fails = part_fault fault (arguments_row begins told (omega arith)) fails

pub first_argument : {kind : Kind} {room high : ℕ} {text behind : List Leaf} (value : Expr) → Begins kind text → begins_expr kind ≡ true → IsRead (Whole Forms.Expr 15) room text expr_of (expr_tree value) high behind → ArgumentsSoFar room text behind (value ∷ []) high
first_argument value begins told read =
    let low = read.measured in
    let fits = had_room (argument_takes begins told) read.run in
    record {
      build = λ tree. Node Forms.OneArgument (Then read.parse (Then tree Nothing));
      onto = tail (λ level own kind. refl) nothing_yet (behind_part (arguments_row begins told fits) read.run);
      shape = λ tree. ap (λ t. Trees.Argument t (arguments_of tree)) read.shape;
      high_is = λ tree. omega (arith, low);
      fits = fits;
    }

comma_row : {room : ℕ} {text middle : List Leaf} {place : Pos} → Passes K.Comma text place middle → 1 ≤ room → Within Forms.ArgumentsMore 0 room text room (Terminal K.Comma ∷ Nonterminal Forms.Expr 15 ∷ Nonterminal Forms.ArgumentsMore 0 ∷ []) text (Node Forms.ArgumentsNext)
comma_row {room = room} {text = text} {middle = middle} comma fits =
    let begins : Begins K.Comma text = record { leaf = comma.leaf; behind = middle; parts = comma.parts; is_kind = comma.is_kind } in
    let taken : Chosen Forms.ArgumentsMore 0 text (Take Forms.ArgumentsNext 1 1) = chosen Forms.ArgumentsMore 0 begins refl in
    start room taken fits fits (omega arith)

pub next_argument : {room high low both : ℕ} {text rest middle behind : List Leaf} {before : List Expr} (value : Expr) {place : Pos} → ArgumentsSoFar room text rest before high → (comma : Passes K.Comma rest place middle) → IsRead (Whole Forms.Expr 15) room middle expr_of (expr_tree value) low behind → max high low ≡ both → ArgumentsSoFar room text behind (before ++ value ∷ []) both
next_argument {before = before} value so_far comma read both_is =
    let low = read.measured in
    let node : Parse → Parse = λ tree. Node Forms.ArgumentsNext (Then (Alone comma.leaf) (Then read.parse (Then tree Nothing))) in
    record {
      build = λ tree. so_far.build (node tree);
      onto = tail (λ level own kind. refl) so_far.onto (behind_part (after (comma_row comma so_far.fits) comma) read.run);
      shape = λ tree. so_far.shape (node tree) ∙ ap (λ t. arguments_with before (Trees.Argument t (arguments_of tree))) read.shape ∙ sym (with_last before value (arguments_of tree));
      high_is = λ tree. let e = so_far.high_is (node tree) in omega (arith, e, low, both_is);
      fits = so_far.fits;
    }

pub next_argument_fault : {high : ℕ} {text rest middle : List Leaf} {before : List Expr} {place : Pos} (room : ℕ) (fault : SyntaxErr) → ArgumentsSoFar room text rest before high → Passes K.Comma rest place middle → Fails (Whole Forms.Expr 15) room middle fault → Fails (Whole Forms.Arguments 0) room text fault
next_argument_fault room fault so_far comma fails = lift fault (onto_lifts so_far.onto) (part_fault fault (after (comma_row comma so_far.fits) comma) fails)

pub arguments_cut : {high : ℕ} {text rest : List Leaf} {before : List Expr} (room : ℕ) (fault : SyntaxErr) → ArgumentsSoFar room text rest before high → rest ≡ [] → fault ≡ At (place_of rest) → Fails (Whole Forms.Arguments 0) room text fault
arguments_cut room fault so_far none same = lift fault (onto_lifts so_far.onto) (no_row room fault (no_tokens Forms.ArgumentsMore 0 none) same)

pub last_argument : {kind : Kind} {room high : ℕ} {text rest : List Leaf} {before : List Expr} → ArgumentsSoFar room text rest before high → Begins kind rest → (kind ≡ K.Comma → ⊥) → IsRead (Whole Forms.Arguments 0) room text arguments_of (views.arguments_of before) high rest
last_argument {kind = kind} {before = before} so_far begins no_comma =
    let taken : Chosen Forms.ArgumentsMore 0 _ (Take Forms.ArgumentsEnd 0 0) = chosen Forms.ArgumentsMore 0 begins (ap (λ t. take_if t Forms.ArgumentsNext (take Forms.ArgumentsEnd)) (is_other kind K.Comma no_comma)) in
    let e = so_far.high_is (Node Forms.ArgumentsEnd Nothing) in
    record {
      parse = so_far.build (Node Forms.ArgumentsEnd Nothing);
      run = so_far.onto.done (finished (λ level own kind'. refl) (begin taken refl));
      shape = so_far.shape (Node Forms.ArgumentsEnd Nothing) ∙ with_none before;
      measured = omega (arith, e);
    }
