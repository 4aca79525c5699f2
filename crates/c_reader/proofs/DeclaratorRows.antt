-- The names of types and declarators, read row after row.
use Rattle.std.proofs.Common.{◌≡◌, ℕ, suc, ◌+◌, ◌<◌, ◌≤◌, max, length, Bool, true, false, List, [], ◌∷◌, ◌++◌, Option, Some, None, Vec, Box, Global, Result, Ok, Err, refl, sym, ◌∙◌, ap, subst, arith}
use Rattle.std.proofs.lemmas.Bool.{or_parts}
use Rattle.std.proofs.lemmas.List.{length-map}
use Rattle.run_theory.specs.declared.place.Pos.{Pos}
use Rattle.c_grammar.specs.Table.{Symbol, Terminal, Nonterminal, Alone, Nothing, Then, Node, Never, Take, Stuck, height}
use Rattle.c_grammar.specs.Runs.{Parts, Whole, More, Fault, Outcome, Run, Done, Failed, fits_first, no_memory, at_end, unfit, token_done, token_failed, part_done, part_failed, never, stuck, stuck_deep, first_deep, second_deep, row_failed, row_done, no_more, more_deep, more_failed, more_done}
use Rattle.c_grammar.proofs.Exact.{shrinks}
use Rattle.c_grammar.specs.declared.kind.Kind.{Kind}
use Rattle.c_grammar.specs.declared.kind.Kind.TheVariants as K
use Rattle.c_grammar.specs.declared.words.Words.TheVariants.{NoWord}
use Rattle.c_grammar.specs.Kinds.{is, is_type_word}
use Rattle.c_grammar.specs.Forms
use Rattle.c_grammar.specs.Chooses.{take, take_if, begins_expr, begins_direct, begins_declarator}
use Rattle.c_grammar.specs.declared.token.Token.{Token as token_type}
use Rattle.c_grammar.specs.Leaves.{Leaf, kind_of, leaf_of, leaves_of}
use Rattle.c_syntax.specs.declared.expr.Declarator.{Declarator}
use Rattle.c_syntax.specs.declared.expr.Direct.TheBlock.{hidden-the_row-Parameter-2, items_hidden-the_row-Parameter-2}
use Rattle.c_syntax.specs.declared.expr.Direct as memory_direct
use Rattle.c_syntax.specs.declared.expr.Expr.{Expr}
use Rattle.c_syntax.specs.declared.expr.Parameter.{Parameter}
use Rattle.c_syntax.specs.declared.expr.Parameter as memory_parameter
use Rattle.c_syntax.specs.declared.expr.Suffix.{Suffix}
use Rattle.c_syntax.specs.declared.expr.Suffix as memory_suffix
use Rattle.c_syntax.specs.Trees
use Rattle.c_syntax.specs.Views.{declarator_tree, length_tree, parameters_tree}
use Rattle.c_syntax.specs.Views as views
use Rattle.c_syntax.proofs.SyntaxRows.{parameters_tree-items, direct_tree-nested}
use Rattle.c_reader.specs.declared.syntax_err.SyntaxErr.{SyntaxErr}
use Rattle.c_reader.specs.declared.syntax_err.SyntaxErr.TheVariants.{At, TooDeep, OutOfMemory}
use Rattle.c_reader.specs.declared.token.Read.{Read}
use Rattle.c_reader.specs.Grammar.{grammar, Parse}
use Rattle.c_reader.specs.Shapes.{place_of, words_of, expr_of, optional_of, length_of, declarator_of, direct_of, suffixes_of, parameters_of, stars_of, stars_after}
use Rattle.c_reader.specs.declared.second.DirectRow.{DirectRow}
use Rattle.c_reader.specs.declared.second.DirectRow.TheVariants as D
use Rattle.c_reader.specs.Choices.{direct_form}
use Rattle.c_reader.specs.Readings.{IsReading, Fails, IsRead, Begins, Passes}
use Rattle.c_reader.specs.Steps.{Onto, IsUnfit, PassesName, BeginsRow, direct_starts}
use Rattle.c_reader.specs.ExpressionSteps.{ReadsNamed, GivesNamed, built_of, EndsOptional, type_form, ReadsType, suffix_onto, ReadsSuffix, parameter_type}
use Rattle.c_reader.proofs.KindTests.{is_other}
use Rattle.c_reader.proofs.StarRows.{at_kind}
use Rattle.c_reader.proofs.Rows.{Within, Chosen, chosen, no_tokens, no_row, no_room, lift, onto_lifts, start, begin, is_fit, after, behind_part, tail, nothing_yet, nothing_more, finished, misfit, part_fault, spans, EndsThere}

-- ---- the length of an array

length_row : {kind : Kind} {room : ℕ} {text : List Leaf} → Begins kind text → begins_expr kind ≡ true → 1 ≤ room → Within Forms.Length 0 room text room (Nonterminal Forms.Expr 14 ∷ []) text (Node Forms.LengthRow)
length_row {room = room} begins told fits =
    start room (chosen Forms.Length 0 begins (ap (λ t. take_if t Forms.LengthRow (take Forms.NoLength)) told)) fits fits (omega arith)

pub no_length : {kind : Kind} {room : ℕ} {text : List Leaf} → Begins kind text → begins_expr kind ≡ false → IsRead (Whole Forms.Length 0) room text length_of Trees.NoLength 0 text
no_length begins told =
    let row = begin (chosen Forms.Length 0 begins (ap (λ t. take_if t Forms.LengthRow (take Forms.NoLength)) told)) refl in
    record { parse = Node Forms.NoLength Nothing; run = finished (λ level own kind. refl) row; shape = refl; measured = refl }

pub some_length : {kind : Kind} {room high : ℕ} {text behind : List Leaf} {value : Trees.ExprTree} → Begins kind text → begins_expr kind ≡ true → 1 ≤ room → IsRead (Whole Forms.Expr 14) room text expr_of value high behind → IsRead (Whole Forms.Length 0) room text length_of (Trees.ArrayLength value) high behind
some_length begins told fits value =
    let low = value.measured in
    record {
      parse = Node Forms.LengthRow (Then value.parse Nothing);
      run = finished (λ level own kind. refl) (behind_part (length_row begins told fits) value.run);
      shape = ap Trees.ArrayLength value.shape;
      measured = omega (arith, low);
    }

pub length_fault : {kind : Kind} {text : List Leaf} (room : ℕ) (fault : SyntaxErr) → Begins kind text → begins_expr kind ≡ true → 1 ≤ room → Fails (Whole Forms.Expr 14) room text fault → Fails (Whole Forms.Length 0) room text fault
length_fault room fault begins told fits fails = part_fault fault (length_row begins told fits) fails

pub length_deep : {kind : Kind} {text : List Leaf} (room : ℕ) (fault : SyntaxErr) → Begins kind text → begins_expr kind ≡ true → room < 1 → fault ≡ TooDeep (place_of text) → Fails (Whole Forms.Length 0) room text fault
length_deep room fault begins told short same =
    let taken : Chosen Forms.Length 0 _ (Take Forms.LengthRow 1 1) = chosen Forms.Length 0 begins (ap (λ t. take_if t Forms.LengthRow (take Forms.NoLength)) told) in
    no_room room fault taken short same

-- ---- the words of a type with a declarator

type_chosen : (named : Bool) {kind : Kind} {text : List Leaf} → Begins kind text → is_type_word kind ≡ true → Chosen (Forms.sort_of (type_form named)) 0 text (Take (type_form named) 0 0)
type_chosen true begins told = chosen Forms.Param 0 begins (ap (λ t. take_if t Forms.ParamRow Never) told)
type_chosen false begins told = chosen Forms.Type_name 0 begins (ap (λ t. take_if t Forms.TypeRow Never) told)

type_row : (named : Bool) {kind : Kind} {room : ℕ} {text : List Leaf} → Begins kind text → is_type_word kind ≡ true → Within (Forms.sort_of (type_form named)) 0 room text room (Nonterminal (Forms.Base false NoWord) 0 ∷ Nonterminal (Forms.Optional named) 0 ∷ []) text (Node (type_form named))
type_row true begins told = begin (type_chosen true begins told) refl
type_row false begins told = begin (type_chosen false begins told) refl

type_ends : (named : Bool) → EndsThere (Forms.sort_of (type_form named))
type_ends true level own kind = refl
type_ends false level own kind = refl

type_high : (named : Bool) (parts : Parse) → height grammar (Node (type_form named) parts) ≡ height grammar parts
type_high true parts = omega arith
type_high false parts = omega arith

pub no_type : (named : Bool) {kind : Kind} {text : List Leaf} (room : ℕ) (fault : SyntaxErr) → Begins kind text → is_type_word kind ≡ false → fault ≡ At (place_of text) → Fails (Whole (Forms.sort_of (type_form named)) 0) room text fault
no_type true room fault begins told same = no_row room fault (chosen Forms.Param 0 begins (ap (λ t. take_if t Forms.ParamRow Never) told)) same
no_type false room fault begins told same = no_row room fault (chosen Forms.Type_name 0 begins (ap (λ t. take_if t Forms.TypeRow Never) told)) same

pub type_words_fault : (named : Bool) {kind : Kind} {text : List Leaf} (room : ℕ) (fault : SyntaxErr) → Begins kind text → is_type_word kind ≡ true → Fails (Whole (Forms.Base false NoWord) 0) room text fault → Fails (Whole (Forms.sort_of (type_form named)) 0) room text fault
type_words_fault named room fault begins told fails = part_fault fault (type_row named begins told) fails

pub type_fault : (named : Bool) {kind : Kind} {high : ℕ} {text middle : List Leaf} {words : Trees.WordsTree} (room : ℕ) (fault : SyntaxErr) → Begins kind text → is_type_word kind ≡ true → IsRead (Whole (Forms.Base false NoWord) 0) room text words_of words high middle → Fails (Whole (Forms.Optional named) 0) room middle fault → Fails (Whole (Forms.sort_of (type_form named)) 0) room text fault
type_fault named room fault begins told words fails = part_fault fault (behind_part (type_row named begins told) words.run) fails

pub type_read : (named : Bool) {kind : Kind} {room high low both : ℕ} {text middle behind : List Leaf} {words : Trees.WordsTree} {declarator : Trees.OptionalTree} {tree : Trees.TypeTree} → Begins kind text → is_type_word kind ≡ true → IsRead (Whole (Forms.Base false NoWord) 0) room text words_of words high middle → IsRead (Whole (Forms.Optional named) 0) room middle optional_of declarator low behind → Trees.TypeName words declarator ≡ tree → max high low ≡ both → ReadsType named room text tree both behind
type_read named begins told words declarator same high_is =
    let high = words.measured in
    let low = declarator.measured in
    let node = type_high named (Then words.parse (Then declarator.parse Nothing)) in
    record {
      base = words.parse;
      declarator = declarator.parse;
      run = finished (type_ends named) (behind_part (behind_part (type_row named begins told) words.run) declarator.run);
      shape = cc (words.shape, declarator.shape, same);
      measured = omega (arith, high, low, node, high_is);
    }

-- ---- a declarator that has a name

declarator_row : {kind : Kind} {room : ℕ} {text : List Leaf} (below : ℕ) → Begins kind text → begins_declarator kind ≡ true → 1 ≤ room → below + 1 ≡ room → Within Forms.Declarator 0 room text below (Nonterminal Forms.Stars 0 ∷ Nonterminal Forms.Direct 0 ∷ []) text (Node Forms.DeclaratorRow)
declarator_row below begins told fits down =
    start below (chosen Forms.Declarator 0 begins (ap (λ t. take_if t Forms.DeclaratorRow Never) told)) fits fits down

pub no_declarator : {kind : Kind} {text : List Leaf} (room : ℕ) (fault : SyntaxErr) → Begins kind text → begins_declarator kind ≡ false → fault ≡ At (place_of text) → Fails (Whole Forms.Declarator 0) room text fault
no_declarator room fault begins told same = no_row room fault (chosen Forms.Declarator 0 begins (ap (λ t. take_if t Forms.DeclaratorRow Never) told)) same

pub declarator_deep : {kind : Kind} {text : List Leaf} (room : ℕ) (fault : SyntaxErr) → Begins kind text → begins_declarator kind ≡ true → room < 1 → fault ≡ TooDeep (place_of text) → Fails (Whole Forms.Declarator 0) room text fault
declarator_deep room fault begins told short same =
    let taken : Chosen Forms.Declarator 0 _ (Take Forms.DeclaratorRow 1 1) = chosen Forms.Declarator 0 begins (ap (λ t. take_if t Forms.DeclaratorRow Never) told) in
    no_room room fault taken short same

pub declarator_stars_fault : {kind : Kind} {text : List Leaf} (room below : ℕ) (fault : SyntaxErr) → Begins kind text → begins_declarator kind ≡ true → 1 ≤ room → below + 1 ≡ room → Fails (Whole Forms.Stars 0) below text fault → Fails (Whole Forms.Declarator 0) room text fault
declarator_stars_fault room below fault begins told fits down fails = part_fault fault (declarator_row below begins told fits down) fails

pub declarator_fault : {kind : Kind} {count : ℕ} {text middle : List Leaf} (room below : ℕ) (fault : SyntaxErr) → Begins kind text → begins_declarator kind ≡ true → 1 ≤ room → below + 1 ≡ room → IsRead (Whole Forms.Stars 0) below text stars_of count 0 middle → Fails (Whole Forms.Direct 0) below middle fault → Fails (Whole Forms.Declarator 0) room text fault
declarator_fault room below fault begins told fits down stars fails = part_fault fault (behind_part (declarator_row below begins told fits down) stars.run) fails

pub declarator_read : {kind : Kind} {room count high : ℕ} {text middle behind : List Leaf} {tree : Trees.DeclaratorTree} (below : ℕ) → Begins kind text → begins_declarator kind ≡ true → 1 ≤ room → below + 1 ≡ room → IsRead (Whole Forms.Stars 0) below text stars_of count 0 middle → IsRead (Whole Forms.Direct 0) below middle (built_of count) tree high behind → IsRead (Whole Forms.Declarator 0) room text declarator_of tree (high + 1) behind
declarator_read below begins told fits down stars direct =
    let none = stars.measured in
    let low = direct.measured in
    record {
      parse = Node Forms.DeclaratorRow (Then stars.parse (Then direct.parse Nothing));
      run = finished (λ level own kind. refl) (behind_part (behind_part (declarator_row below begins told fits down) stars.run) direct.run);
      shape = ap (λ n. Trees.Declarator n (direct_of direct.parse) (suffixes_of direct.parse)) stars.shape ∙ direct.shape;
      measured = omega (arith, none, low);
    }

-- ---- a declarator that may be left out

optional_direct : (named : Bool) {kind : Kind} {text : List Leaf} → Begins kind text → (kind ≡ K.Star → ⊥) → begins_direct named kind ≡ true → Chosen (Forms.Optional named) 0 text (Take (Forms.OptionalDirect named) 1 1)
optional_direct named {kind = kind} begins no_star told =
    chosen (Forms.Optional named) 0 begins (ap (λ t. take_if t (Forms.OptionalPointer named) (take_if (begins_direct named kind) (Forms.OptionalDirect named) (take (Forms.OptionalNone named)))) (is_other kind K.Star no_star) ∙ ap (λ t. take_if t (Forms.OptionalDirect named) (take (Forms.OptionalNone named))) told)

-- Where none begins, there is none.
pub optional_none : (named : Bool) (room : ℕ) (text : List Leaf) → EndsOptional named text → IsRead (Whole (Forms.Optional named) 0) room text optional_of Trees.NoDeclarator 0 text
optional_none named room [] ends = absurd ends
optional_none named room (leaf ∷ text) ends =
    let neither = or_parts (is (kind_of leaf) K.Star) (begins_direct named (kind_of leaf)) ends in
    let begins : Begins (kind_of leaf) (leaf ∷ text) = record { leaf = leaf; behind = text; parts = refl; is_kind = refl } in
    let taken : Chosen (Forms.Optional named) 0 (leaf ∷ text) (Take (Forms.OptionalNone named) 0 0) = chosen (Forms.Optional named) 0 begins (ap (λ t. take_if t (Forms.OptionalPointer named) (take_if (begins_direct named (kind_of leaf)) (Forms.OptionalDirect named) (take (Forms.OptionalNone named)))) neither.0 ∙ ap (λ t. take_if t (Forms.OptionalDirect named) (take (Forms.OptionalNone named))) neither.1) in
    record { parse = Node (Forms.OptionalNone named) Nothing; run = finished (λ level own kind. refl) (begin taken refl); shape = refl; measured = refl }

pub optional_cut : (named : Bool) {text : List Leaf} (room : ℕ) (fault : SyntaxErr) → text ≡ [] → fault ≡ At (place_of text) → Fails (Whole (Forms.Optional named) 0) room text fault
optional_cut named room fault none same = no_row room fault (no_tokens (Forms.Optional named) 0 none) same

-- ---- a name with what follows

pub named_read : {room stars high : ℕ} {text middle behind : List Leaf} {name : Trees.NameTree} {suffixes : Trees.SuffixesTree} {tree : Trees.DeclaratorTree} → PassesName text name middle → IsRead (Whole Forms.Suffixes 0) room middle suffixes_of suffixes high behind → Trees.Declarator stars (Trees.DeclaredName name) suffixes ≡ tree → ReadsNamed room text stars tree high behind
named_read {room = room} {stars = stars} {behind = behind} passes others same =
    let fits = is_fit K.Name passes.leaf passes.is_kind in
    let shape = others.shape in
    let is_name = passes.is_name in
    record {
      name = passes.leaf;
      others = others.parse;
      run = subst (λ leaves. Run grammar (Parts (Forms.symbols_of Forms.DirectName)) room leaves (Done (Then (Alone passes.leaf) (Then others.parse Nothing)) behind)) (sym passes.parts) (token_done fits (part_done others.run at_end));
      shape = cc (shape, is_name, same);
      measured = others.measured;
    }

pub named_fault : {text middle : List Leaf} {name : Trees.NameTree} (room : ℕ) (fault : SyntaxErr) → PassesName text name middle → Fails (Whole Forms.Suffixes 0) room middle fault → Fails (Parts (Forms.symbols_of Forms.DirectName)) room text fault
named_fault room fault passes fails =
    lift fault (record { run = λ {why} {behind} run. subst (λ leaves. Run grammar (Parts (Forms.symbols_of Forms.DirectName)) room leaves (Failed why behind)) (sym passes.parts) (token_failed (is_fit K.Name passes.leaf passes.is_kind) (part_failed run)) }) fails

pub unnamed : (text : List Leaf) (room : ℕ) (fault : SyntaxErr) → IsUnfit K.Name text fault → Fails (Parts (Forms.symbols_of Forms.DirectName)) room text fault
unnamed text room (At place) is_unfit = record { behind = _; run = unfit is_unfit.0; stands = is_unfit.1 }
unnamed text room (TooDeep place) is_unfit = absurd is_unfit
unnamed text room OutOfMemory is_unfit = tt

-- ---- what a declarator with a name is built on

by_name : {kind : Kind} {text : List Leaf} → Begins kind text → kind ≡ K.Name → Chosen Forms.Direct 0 text (Take Forms.DirectName 0 0)
by_name begins same = chosen Forms.Direct 0 (at_kind begins same) refl

by_nested : {kind : Kind} {text : List Leaf} → Begins kind text → kind ≡ K.OpenParenthesis → Chosen Forms.Direct 0 text (Take Forms.DirectNested 1 1)
by_nested begins same = chosen Forms.Direct 0 (at_kind begins same) refl

pub direct_named : {kind : Kind} (room stars : ℕ) {text : List Leaf} (result : Result (Read Declarator) SyntaxErr) → Begins kind text → kind ≡ K.Name → GivesNamed stars room text result → IsReading (Whole Forms.Direct 0) room text (built_of stars) declarator_tree result
direct_named room stars (Ok read) begins same named =
    let low = named.measured in
    record {
      parse = Node Forms.DirectName (Then (Alone named.name) (Then named.others Nothing));
      run = (begin (by_name begins same) refl).done named.run (no_more (nothing_more Forms.Direct 0 (Node Forms.DirectName (Then (Alone named.name) (Then named.others Nothing))) _ (λ level own kind. refl)));
      shape = named.shape;
      measured = omega (arith, low);
    }
direct_named room stars (Err fault) begins same fails = lift fault (record { run = λ run. (begin (by_name begins same) refl).failed run }) fails

nested_row : {kind : Kind} {room : ℕ} {text : List Leaf} → Begins kind text → kind ≡ K.OpenParenthesis → 1 ≤ room → Within Forms.Direct 0 room text room (Terminal K.OpenParenthesis ∷ Nonterminal Forms.Declarator 0 ∷ Terminal K.CloseParenthesis ∷ Nonterminal Forms.Suffixes 0 ∷ []) text (Node Forms.DirectNested)
nested_row {room = room} begins same fits = start room (by_nested begins same) fits fits (omega arith)

pub nested_deep : {kind : Kind} {text : List Leaf} (room : ℕ) (fault : SyntaxErr) → Begins kind text → kind ≡ K.OpenParenthesis → room < 1 → fault ≡ TooDeep (place_of text) → Fails (Whole Forms.Direct 0) room text fault
nested_deep room fault begins same short place = no_room room fault (by_nested begins same) short place

pub nested_unopened : {kind : Kind} {text : List Leaf} (room : ℕ) (fault : SyntaxErr) → Begins kind text → kind ≡ K.OpenParenthesis → 1 ≤ room → fits_first grammar K.OpenParenthesis text ≡ false → fault ≡ At (place_of text) → Fails (Whole Forms.Direct 0) room text fault
nested_unopened room fault begins same fits none place = misfit fault (nested_row begins same fits) none place

pub nested_inner_fault : {kind : Kind} {text inside : List Leaf} {opening : Pos} (room : ℕ) (fault : SyntaxErr) → Begins kind text → kind ≡ K.OpenParenthesis → 1 ≤ room → Passes K.OpenParenthesis text opening inside → Fails (Whole Forms.Declarator 0) room inside fault → Fails (Whole Forms.Direct 0) room text fault
nested_inner_fault room fault begins same fits opens fails = part_fault fault (after (nested_row begins same fits) opens) fails

pub nested_unclosed : {kind : Kind} {high : ℕ} {text inside middle : List Leaf} {opening : Pos} {inner : Trees.DeclaratorTree} (room : ℕ) (fault : SyntaxErr) → Begins kind text → kind ≡ K.OpenParenthesis → 1 ≤ room → Passes K.OpenParenthesis text opening inside → IsRead (Whole Forms.Declarator 0) room inside declarator_of inner high middle → fits_first grammar K.CloseParenthesis middle ≡ false → fault ≡ At (place_of middle) → Fails (Whole Forms.Direct 0) room text fault
nested_unclosed room fault begins same fits opens inner none place = misfit fault (behind_part (after (nested_row begins same fits) opens) inner.run) none place

pub nested_fault : {kind : Kind} {high : ℕ} {text inside middle behind : List Leaf} {opening closing : Pos} {inner : Trees.DeclaratorTree} (room : ℕ) (fault : SyntaxErr) → Begins kind text → kind ≡ K.OpenParenthesis → 1 ≤ room → Passes K.OpenParenthesis text opening inside → IsRead (Whole Forms.Declarator 0) room inside declarator_of inner high middle → Passes K.CloseParenthesis middle closing behind → Fails (Whole Forms.Suffixes 0) room behind fault → Fails (Whole Forms.Direct 0) room text fault
nested_fault room fault begins same fits opens inner closes fails = part_fault fault (after (behind_part (after (nested_row begins same fits) opens) inner.run) closes) fails

pub nested_read : {kind : Kind} {room stars high low both : ℕ} {text inside middle behind end : List Leaf} {opening closing : Pos} {inner tree : Trees.DeclaratorTree} {suffixes : Trees.SuffixesTree} → Begins kind text → kind ≡ K.OpenParenthesis → 1 ≤ room → (opens : Passes K.OpenParenthesis text opening inside) → IsRead (Whole Forms.Declarator 0) room inside declarator_of inner high middle → (closes : Passes K.CloseParenthesis middle closing behind) → IsRead (Whole Forms.Suffixes 0) room behind suffixes_of suffixes low end → Trees.Declarator stars (Trees.Nested inner) suffixes ≡ tree → max high low ≡ both → IsRead (Whole Forms.Direct 0) room text (built_of stars) tree both end
nested_read begins same fits opens inner closes suffixes tree_is high_is =
    let high = inner.measured in
    let low = suffixes.measured in
    let shape = inner.shape in
    let shape' = suffixes.shape in
    record {
      parse = Node Forms.DirectNested (Then (Alone opens.leaf) (Then inner.parse (Then (Alone closes.leaf) (Then suffixes.parse Nothing))));
      run = finished (λ level own kind. refl) (behind_part (after (behind_part (after (nested_row begins same fits) opens) inner.run) closes) suffixes.run);
      shape = cc (shape, shape', tree_is);
      measured = omega (arith, high, low, high_is);
    }

-- ---- what a declarator is built on that may lack its name

some_row : (named : Bool) {kind : Kind} {room : ℕ} {text : List Leaf} → Begins kind text → begins_direct named kind ≡ true → Within (Forms.DirectOptional named) 0 room text room (Nonterminal (Forms.ParamDirect named) 0 ∷ []) text (Node (Forms.DirectSome named))
some_row named begins told =
    let taken : Chosen (Forms.DirectOptional named) 0 _ (Take (Forms.DirectSome named) 0 0) = chosen (Forms.DirectOptional named) 0 begins (ap (λ t. take_if t (Forms.DirectSome named) (take (Forms.DirectNone named))) told) in
    begin taken refl

pub direct_some : (named : Bool) {kind : Kind} {room stars high : ℕ} {text behind : List Leaf} {tree : Trees.DeclaratorTree} → Begins kind text → begins_direct named kind ≡ true → IsRead (Whole (Forms.ParamDirect named) 0) room text (built_of stars) tree high behind → IsRead (Whole (Forms.DirectOptional named) 0) room text (built_of stars) tree high behind
direct_some named begins told direct =
    let low = direct.measured in
    record {
      parse = Node (Forms.DirectSome named) (Then direct.parse Nothing);
      run = finished (λ level own kind. refl) (behind_part (some_row named begins told) direct.run);
      shape = direct.shape;
      measured = omega (arith, low);
    }

pub direct_some_fault : (named : Bool) {kind : Kind} {text : List Leaf} (room : ℕ) (fault : SyntaxErr) → Begins kind text → begins_direct named kind ≡ true → Fails (Whole (Forms.ParamDirect named) 0) room text fault → Fails (Whole (Forms.DirectOptional named) 0) room text fault
direct_some_fault named room fault begins told fails = part_fault fault (some_row named begins told) fails

pub direct_cut : (named : Bool) {text : List Leaf} (room : ℕ) (fault : SyntaxErr) → text ≡ [] → fault ≡ At (place_of text) → Fails (Whole (Forms.DirectOptional named) 0) room text fault
direct_cut named room fault none same = no_row room fault (no_tokens (Forms.DirectOptional named) 0 none) same

pub direct_none : (named : Bool) {kind : Kind} {room stars : ℕ} {text : List Leaf} {tree : Trees.DeclaratorTree} → Begins kind text → begins_direct named kind ≡ false → Trees.Declarator stars Trees.NoName Trees.NoSuffixes ≡ tree → IsRead (Whole (Forms.DirectOptional named) 0) room text (built_of stars) tree 0 text
direct_none named begins told same =
    let taken : Chosen (Forms.DirectOptional named) 0 _ (Take (Forms.DirectNone named) 0 0) = chosen (Forms.DirectOptional named) 0 begins (ap (λ t. take_if t (Forms.DirectSome named) (take (Forms.DirectNone named))) told) in
    record { parse = Node (Forms.DirectNone named) Nothing; run = finished (λ level own kind. refl) (begin taken refl); shape = same; measured = refl }

param_row : {named : Bool} {room : ℕ} {text : List Leaf} {form : Forms.Production} → BeginsRow (Forms.ParamDirect named) 0 room text form → Forms.weight_of form ≡ 0 → Within (Forms.ParamDirect named) 0 room text room (Forms.symbols_of form) text (Node form)
param_row {room = room} row light = start room (record { told = row.chosen }) row.first_fits row.second_fits (omega (arith, light))

pub param_named : (named : Bool) {room stars high : ℕ} {text behind : List Leaf} {tree : Trees.DeclaratorTree} → BeginsRow (Forms.ParamDirect named) 0 room text (Forms.ParamName named) → ReadsNamed room text stars tree high behind → IsRead (Whole (Forms.ParamDirect named) 0) room text (built_of stars) tree high behind
param_named named {behind = behind} row given =
    let low = given.measured in
    record {
      parse = Node (Forms.ParamName named) (Then (Alone given.name) (Then given.others Nothing));
      run = (param_row row refl).done given.run (no_more (nothing_more (Forms.ParamDirect named) 0 (Node (Forms.ParamName named) (Then (Alone given.name) (Then given.others Nothing))) behind (λ level own kind. refl)));
      shape = given.shape;
      measured = omega (arith, low);
    }

pub param_named_fault : (named : Bool) {text : List Leaf} (room : ℕ) (fault : SyntaxErr) → BeginsRow (Forms.ParamDirect named) 0 room text (Forms.ParamName named) → Fails (Parts (Forms.symbols_of Forms.DirectName)) room text fault → Fails (Whole (Forms.ParamDirect named) 0) room text fault
param_named_fault named room fault row fails = lift fault (record { run = λ run. (param_row row refl).failed run }) fails

nested_param : {named : Bool} {room : ℕ} {text : List Leaf} → BeginsRow (Forms.ParamDirect named) 0 room text (Forms.ParamNested named) → Within (Forms.ParamDirect named) 0 room text room (Terminal K.OpenParenthesis ∷ Nonterminal (Forms.Inner named) 0 ∷ Terminal K.CloseParenthesis ∷ Nonterminal Forms.Suffixes 0 ∷ []) text (Node (Forms.ParamNested named))
nested_param row = param_row row refl

pub param_unopened : {named : Bool} {text : List Leaf} (room : ℕ) (fault : SyntaxErr) → BeginsRow (Forms.ParamDirect named) 0 room text (Forms.ParamNested named) → fits_first grammar K.OpenParenthesis text ≡ false → fault ≡ At (place_of text) → Fails (Whole (Forms.ParamDirect named) 0) room text fault
param_unopened room fault row none place = misfit fault (nested_param row) none place

pub param_inner_fault : {named : Bool} {text inside : List Leaf} {opening : Pos} (room : ℕ) (fault : SyntaxErr) → BeginsRow (Forms.ParamDirect named) 0 room text (Forms.ParamNested named) → Passes K.OpenParenthesis text opening inside → Fails (Whole (Forms.Inner named) 0) room inside fault → Fails (Whole (Forms.ParamDirect named) 0) room text fault
param_inner_fault room fault row opens fails = part_fault fault (after (nested_param row) opens) fails

pub param_unclosed : {named : Bool} {high : ℕ} {text inside middle : List Leaf} {opening : Pos} {inner : Trees.DeclaratorTree} (room : ℕ) (fault : SyntaxErr) → BeginsRow (Forms.ParamDirect named) 0 room text (Forms.ParamNested named) → Passes K.OpenParenthesis text opening inside → IsRead (Whole (Forms.Inner named) 0) room inside declarator_of inner high middle → fits_first grammar K.CloseParenthesis middle ≡ false → fault ≡ At (place_of middle) → Fails (Whole (Forms.ParamDirect named) 0) room text fault
param_unclosed room fault row opens inner none place = misfit fault (behind_part (after (nested_param row) opens) inner.run) none place

pub param_fault : {named : Bool} {high : ℕ} {text inside middle behind : List Leaf} {opening closing : Pos} {inner : Trees.DeclaratorTree} (room : ℕ) (fault : SyntaxErr) → BeginsRow (Forms.ParamDirect named) 0 room text (Forms.ParamNested named) → Passes K.OpenParenthesis text opening inside → IsRead (Whole (Forms.Inner named) 0) room inside declarator_of inner high middle → Passes K.CloseParenthesis middle closing behind → Fails (Whole Forms.Suffixes 0) room behind fault → Fails (Whole (Forms.ParamDirect named) 0) room text fault
param_fault room fault row opens inner closes fails = part_fault fault (after (behind_part (after (nested_param row) opens) inner.run) closes) fails

pub param_read : {named : Bool} {room stars high low both : ℕ} {text inside middle behind end : List Leaf} {opening closing : Pos} {inner tree : Trees.DeclaratorTree} {suffixes : Trees.SuffixesTree} → BeginsRow (Forms.ParamDirect named) 0 room text (Forms.ParamNested named) → (opens : Passes K.OpenParenthesis text opening inside) → IsRead (Whole (Forms.Inner named) 0) room inside declarator_of inner high middle → (closes : Passes K.CloseParenthesis middle closing behind) → IsRead (Whole Forms.Suffixes 0) room behind suffixes_of suffixes low end → Trees.Declarator stars (Trees.Nested inner) suffixes ≡ tree → max high low ≡ both → IsRead (Whole (Forms.ParamDirect named) 0) room text (built_of stars) tree both end
param_read {named = named} row opens inner closes suffixes tree_is high_is =
    let high = inner.measured in
    let low = suffixes.measured in
    let shape = inner.shape in
    let shape' = suffixes.shape in
    record {
      parse = Node (Forms.ParamNested named) (Then (Alone opens.leaf) (Then inner.parse (Then (Alone closes.leaf) (Then suffixes.parse Nothing))));
      run = finished (λ level own kind. refl) (behind_part (after (behind_part (after (nested_param row) opens) inner.run) closes) suffixes.run);
      shape = cc (shape, shape', tree_is);
      measured = omega (arith, high, low, high_is);
    }

-- ---- a declarator that may lack its name, and that may be left out or not

-- its row where it begins with a star
pub record PointerRow {A : Type 0} (sort : Forms.Sort) (named : Bool) (room below : ℕ) (text : List Leaf) (shape_of : Parse → A) (wrap : Trees.DeclaratorTree → A) : Type 0 where
  pub form : Forms.Production
  pub row : Within sort 0 room text below (Terminal K.Star ∷ Nonterminal Forms.AfterStar 0 ∷ Nonterminal (Forms.DirectOptional named) 0 ∷ []) text (Node form)
  pub ends : EndsThere sort
  pub shape : (star stars direct : Parse) → shape_of (Node form (Then star (Then stars (Then direct Nothing)))) ≡ wrap (Trees.Declarator (suc (stars_after stars)) (direct_of direct) (suffixes_of direct))
  pub high : (parts : Parse) → height grammar (Node form parts) ≡ height grammar parts + 1

-- and where it has none
pub record PlainRow {A : Type 0} (sort : Forms.Sort) (named : Bool) (room below : ℕ) (text : List Leaf) (shape_of : Parse → A) (wrap : Trees.DeclaratorTree → A) : Type 0 where
  pub form : Forms.Production
  pub row : Within sort 0 room text below (Nonterminal (Forms.ParamDirect named) 0 ∷ []) text (Node form)
  pub ends : EndsThere sort
  pub shape : (direct : Parse) → shape_of (Node form (Then direct Nothing)) ≡ wrap (Trees.Declarator 0 (direct_of direct) (suffixes_of direct))
  pub high : (parts : Parse) → height grammar (Node form parts) ≡ height grammar parts + 1

pub inner_pointer : (named : Bool) {kind : Kind} {room : ℕ} {text : List Leaf} (below : ℕ) → Begins kind text → kind ≡ K.Star → 1 ≤ room → below + 1 ≡ room → PointerRow (Forms.Inner named) named room below text declarator_of (λ tree. tree)
inner_pointer named below begins same fits down =
    record {
      form = Forms.InnerPointer named;
      row = start below (chosen (Forms.Inner named) 0 (at_kind begins same) refl) fits fits down;
      ends = λ level own kind. refl;
      shape = λ star stars direct. refl;
      high = λ parts. refl;
    }

pub optional_pointer : (named : Bool) {kind : Kind} {room : ℕ} {text : List Leaf} (below : ℕ) → Begins kind text → kind ≡ K.Star → 1 ≤ room → below + 1 ≡ room → PointerRow (Forms.Optional named) named room below text optional_of Trees.Declared
optional_pointer named below begins same fits down =
    record {
      form = Forms.OptionalPointer named;
      row = start below (chosen (Forms.Optional named) 0 (at_kind begins same) refl) fits fits down;
      ends = λ level own kind. refl;
      shape = λ star stars direct. refl;
      high = λ parts. refl;
    }

inner_told : (named : Bool) {kind : Kind} {text : List Leaf} → Begins kind text → (kind ≡ K.Star → ⊥) → begins_direct named kind ≡ true → Chosen (Forms.Inner named) 0 text (Take (Forms.InnerDirect named) 1 1)
inner_told named {kind = kind} begins no_star told =
    chosen (Forms.Inner named) 0 begins (ap (λ t. take_if t (Forms.InnerPointer named) (take_if (begins_direct named kind) (Forms.InnerDirect named) Never)) (is_other kind K.Star no_star) ∙ ap (λ t. take_if t (Forms.InnerDirect named) Never) told)

pub inner_plain : (named : Bool) {kind : Kind} {room : ℕ} {text : List Leaf} (below : ℕ) → Begins kind text → (kind ≡ K.Star → ⊥) → begins_direct named kind ≡ true → 1 ≤ room → below + 1 ≡ room → PlainRow (Forms.Inner named) named room below text declarator_of (λ tree. tree)
inner_plain named below begins no_star told fits down =
    record {
      form = Forms.InnerDirect named;
      row = start below (inner_told named begins no_star told) fits fits down;
      ends = λ level own kind. refl;
      shape = λ direct. refl;
      high = λ parts. refl;
    }

pub optional_plain : (named : Bool) {kind : Kind} {room : ℕ} {text : List Leaf} (below : ℕ) → Begins kind text → (kind ≡ K.Star → ⊥) → begins_direct named kind ≡ true → 1 ≤ room → below + 1 ≡ room → PlainRow (Forms.Optional named) named room below text optional_of Trees.Declared
optional_plain named below begins no_star told fits down =
    record {
      form = Forms.OptionalDirect named;
      row = start below (optional_direct named begins no_star told) fits fits down;
      ends = λ level own kind. refl;
      shape = λ direct. refl;
      high = λ parts. refl;
    }

pub no_inner : (named : Bool) {kind : Kind} {text : List Leaf} (room : ℕ) (fault : SyntaxErr) → Begins kind text → (kind ≡ K.Star → ⊥) → begins_direct named kind ≡ false → fault ≡ At (place_of text) → Fails (Whole (Forms.Inner named) 0) room text fault
no_inner named {kind = kind} room fault begins no_star told same =
    no_row room fault (chosen (Forms.Inner named) 0 begins (ap (λ t. take_if t (Forms.InnerPointer named) (take_if (begins_direct named kind) (Forms.InnerDirect named) Never)) (is_other kind K.Star no_star) ∙ ap (λ t. take_if t (Forms.InnerDirect named) Never) told)) same

pub pointer_unstarred : {A : Type 0} {sort : Forms.Sort} {named : Bool} {room below : ℕ} {text : List Leaf} {shape_of : Parse → A} {wrap : Trees.DeclaratorTree → A} (fault : SyntaxErr) → PointerRow sort named room below text shape_of wrap → fits_first grammar K.Star text ≡ false → fault ≡ At (place_of text) → Fails (Whole sort 0) room text fault
pointer_unstarred fault pointer none same = misfit fault pointer.row none same

pub pointer_stars_fault : {A : Type 0} {sort : Forms.Sort} {named : Bool} {room below : ℕ} {text middle : List Leaf} {shape_of : Parse → A} {wrap : Trees.DeclaratorTree → A} {place : Pos} (fault : SyntaxErr) → PointerRow sort named room below text shape_of wrap → Passes K.Star text place middle → Fails (Whole Forms.AfterStar 0) below middle fault → Fails (Whole sort 0) room text fault
pointer_stars_fault fault pointer star fails = part_fault fault (after pointer.row star) fails

pub pointer_fault : {A : Type 0} {sort : Forms.Sort} {named : Bool} {room below count : ℕ} {text middle rest : List Leaf} {shape_of : Parse → A} {wrap : Trees.DeclaratorTree → A} {place : Pos} (fault : SyntaxErr) → PointerRow sort named room below text shape_of wrap → Passes K.Star text place middle → IsRead (Whole Forms.AfterStar 0) below middle stars_after count 0 rest → Fails (Whole (Forms.DirectOptional named) 0) below rest fault → Fails (Whole sort 0) room text fault
pointer_fault fault pointer star stars fails = part_fault fault (behind_part (after pointer.row star) stars.run) fails

pub pointer_read : {A : Type 0} {sort : Forms.Sort} {named : Bool} {room below count high : ℕ} {text middle rest behind : List Leaf} {shape_of : Parse → A} {wrap : Trees.DeclaratorTree → A} {place : Pos} {tree : Trees.DeclaratorTree} → PointerRow sort named room below text shape_of wrap → (star : Passes K.Star text place middle) → IsRead (Whole Forms.AfterStar 0) below middle stars_after count 0 rest → IsRead (Whole (Forms.DirectOptional named) 0) below rest (built_of (count + 1)) tree high behind → IsRead (Whole sort 0) room text shape_of (wrap tree) (high + 1) behind
pointer_read {count = count} {wrap = wrap} pointer star stars direct =
    let counted = stars.shape in
    let none = stars.measured in
    let low = direct.measured in
    let up = pointer.high (Then (Alone star.leaf) (Then stars.parse (Then direct.parse Nothing))) in
    let more : suc (stars_after stars.parse) ≡ count + 1 = omega (arith, counted) in
    record {
      parse = Node pointer.form (Then (Alone star.leaf) (Then stars.parse (Then direct.parse Nothing)));
      run = finished pointer.ends (behind_part (behind_part (after pointer.row star) stars.run) direct.run);
      shape = pointer.shape (Alone star.leaf) stars.parse direct.parse ∙ ap wrap (ap (λ n. Trees.Declarator n (direct_of direct.parse) (suffixes_of direct.parse)) more ∙ direct.shape);
      measured = omega (arith, none, low, up);
    }

pub plain_fault : {A : Type 0} {sort : Forms.Sort} {named : Bool} {room below : ℕ} {text : List Leaf} {shape_of : Parse → A} {wrap : Trees.DeclaratorTree → A} (fault : SyntaxErr) → PlainRow sort named room below text shape_of wrap → Fails (Whole (Forms.ParamDirect named) 0) below text fault → Fails (Whole sort 0) room text fault
plain_fault fault plain fails = part_fault fault plain.row fails

pub plain_read : {A : Type 0} {sort : Forms.Sort} {named : Bool} {room below high : ℕ} {text behind : List Leaf} {shape_of : Parse → A} {wrap : Trees.DeclaratorTree → A} {tree : Trees.DeclaratorTree} → PlainRow sort named room below text shape_of wrap → IsRead (Whole (Forms.ParamDirect named) 0) below text (built_of 0) tree high behind → IsRead (Whole sort 0) room text shape_of (wrap tree) (high + 1) behind
plain_read {wrap = wrap} plain direct =
    let low = direct.measured in
    let up = plain.high (Then direct.parse Nothing) in
    record {
      parse = Node plain.form (Then direct.parse Nothing);
      run = finished plain.ends (behind_part plain.row direct.run);
      shape = plain.shape direct.parse ∙ ap wrap direct.shape;
      measured = omega (arith, low, up);
    }

-- ---- what follows in a declarator

by_array : {text : List Leaf} → Begins K.OpenBracket text → Chosen Forms.Suffixes 0 text (Take Forms.Array 0 0)
by_array begins = chosen Forms.Suffixes 0 begins refl

by_function : {text : List Leaf} → Begins K.OpenParenthesis text → Chosen Forms.Suffixes 0 text (Take Forms.Function 0 0)
by_function begins = chosen Forms.Suffixes 0 begins refl

array_row : {room : ℕ} {text : List Leaf} → Begins K.OpenBracket text → Within Forms.Suffixes 0 room text room (Terminal K.OpenBracket ∷ Nonterminal Forms.Length 0 ∷ Terminal K.CloseBracket ∷ Nonterminal Forms.Suffixes 0 ∷ []) text (Node Forms.Array)
array_row begins = begin (by_array begins) refl

function_row : {room : ℕ} {text : List Leaf} → Begins K.OpenParenthesis text → Within Forms.Suffixes 0 room text room (Terminal K.OpenParenthesis ∷ Nonterminal Forms.Params 0 ∷ Terminal K.CloseParenthesis ∷ Nonterminal Forms.Suffixes 0 ∷ []) text (Node Forms.Function)
function_row begins = begin (by_function begins) refl

pub array_unopened : {text : List Leaf} (room : ℕ) (fault : SyntaxErr) → Begins K.OpenBracket text → fits_first grammar K.OpenBracket text ≡ false → fault ≡ At (place_of text) → Fails (Whole Forms.Suffixes 0) room text fault
array_unopened room fault begins none place = misfit fault (array_row begins) none place

pub array_length_fault : {text inside : List Leaf} {opening : Pos} (room : ℕ) (fault : SyntaxErr) → Begins K.OpenBracket text → Passes K.OpenBracket text opening inside → Fails (Whole Forms.Length 0) room inside fault → Fails (Whole Forms.Suffixes 0) room text fault
array_length_fault room fault begins opens fails = part_fault fault (after (array_row begins) opens) fails

pub array_cut : {text inside : List Leaf} {opening : Pos} (room : ℕ) (fault : SyntaxErr) → Begins K.OpenBracket text → Passes K.OpenBracket text opening inside → inside ≡ [] → fault ≡ At (place_of inside) → Fails (Whole Forms.Suffixes 0) room text fault
array_cut room fault begins opens none same = array_length_fault room fault begins opens (no_row room fault (no_tokens Forms.Length 0 none) same)

pub array_unclosed : {high : ℕ} {text inside middle : List Leaf} {opening : Pos} {length : Trees.LengthTree} (room : ℕ) (fault : SyntaxErr) → Begins K.OpenBracket text → Passes K.OpenBracket text opening inside → IsRead (Whole Forms.Length 0) room inside length_of length high middle → fits_first grammar K.CloseBracket middle ≡ false → fault ≡ At (place_of middle) → Fails (Whole Forms.Suffixes 0) room text fault
array_unclosed room fault begins opens length none place = misfit fault (behind_part (after (array_row begins) opens) length.run) none place

pub function_unopened : {text : List Leaf} (room : ℕ) (fault : SyntaxErr) → Begins K.OpenParenthesis text → fits_first grammar K.OpenParenthesis text ≡ false → fault ≡ At (place_of text) → Fails (Whole Forms.Suffixes 0) room text fault
function_unopened room fault begins none place = misfit fault (function_row begins) none place

pub function_parameters_fault : {text inside : List Leaf} {opening : Pos} (room : ℕ) (fault : SyntaxErr) → Begins K.OpenParenthesis text → Passes K.OpenParenthesis text opening inside → Fails (Whole Forms.Params 0) room inside fault → Fails (Whole Forms.Suffixes 0) room text fault
function_parameters_fault room fault begins opens fails = part_fault fault (after (function_row begins) opens) fails

pub function_unclosed : {high : ℕ} {text inside middle : List Leaf} {opening : Pos} {parameters : Trees.ParametersTree} (room : ℕ) (fault : SyntaxErr) → Begins K.OpenParenthesis text → Passes K.OpenParenthesis text opening inside → IsRead (Whole Forms.Params 0) room inside parameters_of parameters high middle → fits_first grammar K.CloseParenthesis middle ≡ false → fault ≡ At (place_of middle) → Fails (Whole Forms.Suffixes 0) room text fault
function_unclosed room fault begins opens parameters none place = misfit fault (behind_part (after (function_row begins) opens) parameters.run) none place

-- of a suffix whose tree is told for all that follows it
pub array_read : {room high : ℕ} {text inside middle behind : List Leaf} {opening closing : Pos} {length : Trees.LengthTree} {suffix : Suffix} → Begins K.OpenBracket text → Passes K.OpenBracket text opening inside → IsRead (Whole Forms.Length 0) room inside length_of length high middle → Passes K.CloseBracket middle closing behind → ((others : Trees.SuffixesTree) → suffix_onto suffix others ≡ Trees.ArraySuffix length others) → ReadsSuffix room text suffix high behind
array_read begins opens length closes told =
    let row = after (behind_part (after (array_row begins) opens) length.run) closes in
    let low = length.measured in
    record {
      build = λ tree. Node Forms.Array (Then (Alone opens.leaf) (Then length.parse (Then (Alone closes.leaf) (Then tree Nothing))));
      onto = tail (λ level own kind. refl) nothing_yet row;
      shape = λ tree. ap (λ l. Trees.ArraySuffix l (suffixes_of tree)) length.shape ∙ sym (told (suffixes_of tree));
      high_is = λ tree. omega (arith, low);
    }

pub function_read : {room high : ℕ} {text inside middle behind : List Leaf} {opening closing : Pos} {parameters : Trees.ParametersTree} {suffix : Suffix} → Begins K.OpenParenthesis text → Passes K.OpenParenthesis text opening inside → IsRead (Whole Forms.Params 0) room inside parameters_of parameters high middle → Passes K.CloseParenthesis middle closing behind → ((others : Trees.SuffixesTree) → suffix_onto suffix others ≡ Trees.FunctionSuffix parameters others) → ReadsSuffix room text suffix high behind
function_read begins opens parameters closes told =
    let row = after (behind_part (after (function_row begins) opens) parameters.run) closes in
    let low = parameters.measured in
    record {
      build = λ tree. Node Forms.Function (Then (Alone opens.leaf) (Then parameters.parse (Then (Alone closes.leaf) (Then tree Nothing))));
      onto = tail (λ level own kind. refl) nothing_yet row;
      shape = λ tree. ap (λ p. Trees.FunctionSuffix p (suffixes_of tree)) parameters.shape ∙ sym (told (suffixes_of tree));
      high_is = λ tree. omega (arith, low);
    }

-- suffixes that were read, in front of others
abbrev pub suffixes_with : List Suffix → Trees.SuffixesTree → Trees.SuffixesTree
suffixes_with [] others = others
suffixes_with (suffix ∷ rest) others = suffix_onto suffix (suffixes_with rest others)

with_last : (read : List Suffix) (suffix : Suffix) (others : Trees.SuffixesTree) → suffixes_with (read ++ suffix ∷ []) others ≡ suffixes_with read (suffix_onto suffix others)
with_last [] suffix others = refl
with_last (first ∷ read) suffix others = ap (suffix_onto first) (with_last read suffix others)

with_none : (read : List Suffix) → suffixes_with read Trees.NoSuffixes ≡ views.suffixes_of read
with_none [] = refl
with_none (memory_suffix.TheVariants.Array' length ∷ read) = ap (Trees.ArraySuffix (length_tree length)) (with_none read)
with_none (memory_suffix.TheVariants.Function' shape parameters ∷ read) = ap (Trees.FunctionSuffix (parameters_tree parameters)) (with_none read)

pub record SuffixesSoFar (room : ℕ) (text rest : List Leaf) (read : List Suffix) (high : ℕ) : Type 0 where
  pub build : Parse → Parse
  pub onto : Onto (Whole Forms.Suffixes 0) (Whole Forms.Suffixes 0) room text rest build
  pub shape : (tree : Parse) → suffixes_of (build tree) ≡ suffixes_with read (suffixes_of tree)
  pub high_is : (tree : Parse) → height grammar (build tree) ≡ max high (height grammar tree)

pub no_suffixes : (room : ℕ) (text : List Leaf) → SuffixesSoFar room text text [] 0
no_suffixes room text = record { build = λ tree. tree; onto = nothing_yet; shape = λ tree. refl; high_is = λ tree. omega arith }

pub one_suffix : {room high low both : ℕ} {text rest behind : List Leaf} {read : List Suffix} {suffix : Suffix} → SuffixesSoFar room text rest read high → ReadsSuffix room rest suffix low behind → max high low ≡ both → SuffixesSoFar room text behind (read ++ suffix ∷ []) both
one_suffix {read = read} {suffix = suffix} so_far next both_is =
    record {
      build = λ tree. so_far.build (next.build tree);
      onto = record { done = λ run. so_far.onto.done (next.onto.done run); failed = λ run. so_far.onto.failed (next.onto.failed run) };
      shape = λ tree. so_far.shape (next.build tree) ∙ ap (suffixes_with read) (next.shape tree) ∙ sym (with_last read suffix (suffixes_of tree));
      high_is = λ tree. let e = so_far.high_is (next.build tree) in let e' = next.high_is tree in omega (arith, e, e', both_is);
    }

pub suffix_fault : {high : ℕ} {text rest : List Leaf} {read : List Suffix} (room : ℕ) (fault : SyntaxErr) → SuffixesSoFar room text rest read high → Fails (Whole Forms.Suffixes 0) room rest fault → Fails (Whole Forms.Suffixes 0) room text fault
suffix_fault room fault so_far fails = lift fault (onto_lifts so_far.onto) fails

pub suffixes_cut : {high : ℕ} {text rest : List Leaf} {read : List Suffix} (room : ℕ) (fault : SyntaxErr) → SuffixesSoFar room text rest read high → rest ≡ [] → fault ≡ At (place_of rest) → Fails (Whole Forms.Suffixes 0) room text fault
suffixes_cut room fault so_far none same = suffix_fault room fault so_far (no_row room fault (no_tokens Forms.Suffixes 0 none) same)

pub last_suffix : {kind : Kind} {room high : ℕ} {text rest : List Leaf} {read : List Suffix} → SuffixesSoFar room text rest read high → Begins kind rest → (kind ≡ K.OpenBracket → ⊥) → (kind ≡ K.OpenParenthesis → ⊥) → IsRead (Whole Forms.Suffixes 0) room text suffixes_of (views.suffixes_of read) high rest
last_suffix {kind = kind} {read = read} so_far begins no_array no_function =
    let taken : Chosen Forms.Suffixes 0 _ (Take Forms.NoSuffix 0 0) = chosen Forms.Suffixes 0 begins (ap (λ t. take_if t Forms.Array (take_if (is kind K.OpenParenthesis) Forms.Function (take Forms.NoSuffix))) (is_other kind K.OpenBracket no_array) ∙ ap (λ t. take_if t Forms.Function (take Forms.NoSuffix)) (is_other kind K.OpenParenthesis no_function)) in
    let e = so_far.high_is (Node Forms.NoSuffix Nothing) in
    record {
      parse = so_far.build (Node Forms.NoSuffix Nothing);
      run = so_far.onto.done (finished (λ level own kind'. refl) (begin taken refl));
      shape = so_far.shape (Node Forms.NoSuffix Nothing) ∙ with_none read;
      measured = omega (arith, e);
    }

pub onto_array : (length : Option Expr) (others : Trees.SuffixesTree) → suffix_onto (memory_suffix.TheVariants.Array length) others ≡ Trees.ArraySuffix (views.length_of length) others
onto_array None others = refl
onto_array (Some length) others = refl

pub onto_function : (parameters : Vec Parameter Global) (others : Trees.SuffixesTree) → suffix_onto (memory_suffix.TheVariants.Function parameters) others ≡ Trees.FunctionSuffix (views.parameters_of parameters.items) others
onto_function parameters others = ap (λ tree. Trees.FunctionSuffix tree others) (parameters_tree-items _ (hidden-the_row-Parameter-2 parameters) ∙ ap views.parameters_of (items_hidden-the_row-Parameter-2 parameters))

-- ---- a declarator that lacks its name, and begins with what follows

-- Nothing goes on behind a tree.
stays : {sort : Forms.Sort} {level room : ℕ} {left tree : Parse} {text behind : List Leaf} → EndsThere sort → Run grammar (More sort level left) room text (Done tree behind) → (left ≡ tree) × (text ≡ behind)
stays ends (no_more none) = (refl, refl)
stays {sort = sort} {level = level} {left = left} {text = text} ends (more_done {form = form} next fits left_fits down run more) =
    let none_is_some : None ≡ Some form = sym (nothing_more sort level left text ends) ∙ next in
    absurd (cc none_is_some)

-- So the only fault there is want of memory, which any job may come to.
nothing_fails : {sort : Forms.Sort} {level room : ℕ} {left : Parse} {text behind : List Leaf} {fault : Fault} {symbols : List (Symbol Kind Forms.Sort)} {start : List Leaf} → EndsThere sort → Run grammar (More sort level left) room text (Failed fault behind) → Run grammar (Parts symbols) room start (Failed fault behind)
nothing_fails ends (no_memory behind) = no_memory behind
nothing_fails {sort = sort} {level = level} {left = left} {text = text} ends (more_deep {form = form} next short) =
    let none_is_some : None ≡ Some form = sym (nothing_more sort level left text ends) ∙ next in
    absurd (cc none_is_some)
nothing_fails {sort = sort} {level = level} {left = left} {text = text} ends (more_failed {form = form} next fits left_fits down run) =
    let none_is_some : None ≡ Some form = sym (nothing_more sort level left text ends) ∙ next in
    absurd (cc none_is_some)
nothing_fails {sort = sort} {level = level} {left = left} {text = text} ends (more_done {form = form} next fits left_fits down run more) =
    let none_is_some : None ≡ Some form = sym (nothing_more sort level left text ends) ∙ next in
    absurd (cc none_is_some)

-- The same row, with all of the room.
as_row : {form form' : Forms.Production} {room below : ℕ} {text : List Leaf} {outcome : Outcome Leaf Forms.Production} → Forms.weight_of form ≡ 0 → form' ≡ form → below + Forms.weight_of form' ≡ room → Run grammar (Parts (Forms.symbols_of form')) below text outcome → Run grammar (Parts (Forms.symbols_of form)) room text outcome
as_row {form = form} {room = room} {below = below} {text = text} {outcome = outcome} light same down run =
    let weight_is = ap Forms.weight_of same in
    let low : below ≡ room = omega (arith, light, weight_is, down) in
    subst (λ n. Run grammar (Parts (Forms.symbols_of form)) n text outcome) low (subst (λ f. Run grammar (Parts (Forms.symbols_of f)) below text outcome) same run)

same_form : {form form' : Forms.Production} {first second first' second' : ℕ} → Take form first second ≡ Take form' first' second' → form ≡ form'
same_form e = cc e

first_is : {form form' : Forms.Production} {first second first' second' : ℕ} → Take form first second ≡ Take form' first' second' → first ≡ first'
first_is e = cc e

second_is : {form form' : Forms.Production} {first second first' second' : ℕ} → Take form first second ≡ Take form' first' second' → second ≡ second'
second_is e = cc e

-- the trees of a row's symbols, of which a tree was made
record ByRow (form : Forms.Production) (room : ℕ) (text : List Leaf) (tree : Parse) (behind : List Leaf) : Type 0 where
  parts : Parse
  run : Run grammar (Parts (Forms.symbols_of form)) room text (Done parts behind)
  tree_is : Node form parts ≡ tree

by_row : {sort : Forms.Sort} {level room : ℕ} {form : Forms.Production} {text behind : List Leaf} {tree : Parse} → EndsThere sort → Forms.weight_of form ≡ 0 → Chosen sort level text (Take form 0 0) → Run grammar (Whole sort level) room text (Done tree behind) → ByRow form room text tree behind
by_row {room = room} {form = form} {text = text} ends light choice (row_done {parts = parts} told fits fits' down run more) =
    let same = same_form (sym told ∙ choice.told) in
    let end = stays ends more in
    record {
      parts = parts;
      run = subst (λ leaves. Run grammar (Parts (Forms.symbols_of form)) room text (Done parts leaves)) end.1 (as_row light same down run);
      tree_is = ap (λ f. Node f parts) (sym same) ∙ end.0;
    }

-- and a fault in one of them
fault_by_row : {sort : Forms.Sort} {level room : ℕ} {form : Forms.Production} {text behind : List Leaf} {why : Fault} → EndsThere sort → Forms.weight_of form ≡ 0 → Chosen sort level text (Take form 0 0) → Run grammar (Whole sort level) room text (Failed why behind) → Run grammar (Parts (Forms.symbols_of form)) room text (Failed why behind)
fault_by_row ends light choice (no_memory behind) = no_memory behind
fault_by_row {form = form} ends light choice (never told) =
    let e : Never ≡ Take form 0 0 = sym told ∙ choice.told in absurd (cc e)
fault_by_row {form = form} ends light choice (stuck {first = first} told fits) =
    let e : Stuck first ≡ Take form 0 0 = sym told ∙ choice.told in absurd (cc e)
fault_by_row {form = form} ends light choice (stuck_deep {first = first} told short) =
    let e : Stuck first ≡ Take form 0 0 = sym told ∙ choice.told in absurd (cc e)
fault_by_row ends light choice (first_deep told short) =
    let e = first_is (sym told ∙ choice.told) in absurd (omega (arith, e, short))
fault_by_row ends light choice (second_deep told fits short) =
    let e = second_is (sym told ∙ choice.told) in absurd (omega (arith, e, short))
fault_by_row ends light choice (row_failed told fits fits' down run) = as_row light (same_form (sym told ∙ choice.told)) down run
fault_by_row ends light choice (row_done told fits fits' down run more) = nothing_fails ends more

-- The same row stands in both sorts.
array_same : (named : Bool) (parts : Parse) → suffixes_of (Node (Forms.ParamArray named) parts) ≡ suffixes_of (Node Forms.Array parts)
array_same named (Then opening (Then length (Then close (Then others Nothing)))) = refl
array_same named _ = refl

function_same : (named : Bool) (parts : Parse) → suffixes_of (Node (Forms.ParamFunction named) parts) ≡ suffixes_of (Node Forms.Function parts)
function_same named (Then opening (Then parameters (Then close (Then others Nothing)))) = refl
function_same named _ = refl

pub bare_fault : {named : Bool} {text : List Leaf} (room : ℕ) (row : DirectRow) (fault : SyntaxErr) → (row ≡ D.Name → ⊥) → (row ≡ D.Nested → ⊥) → BeginsRow (Forms.ParamDirect named) 0 room text (direct_form named row) → direct_starts row text → Fails (Whole Forms.Suffixes 0) room text fault → Fails (Whole (Forms.ParamDirect named) 0) room text fault
bare_fault room D.Name fault no_name no_nested begins starts fails = absurd (no_name refl)
bare_fault room D.Nested fault no_name no_nested begins starts fails = absurd (no_nested refl)
bare_fault room D.Function fault no_name no_nested begins starts fails = lift fault (record { run = λ run. (param_row begins refl).failed (fault_by_row (λ level own kind. refl) refl (by_function starts) run) }) fails
bare_fault room D.Array fault no_name no_nested begins starts fails = lift fault (record { run = λ run. (param_row begins refl).failed (fault_by_row (λ level own kind. refl) refl (by_array starts) run) }) fails

pub bare_read : {named : Bool} {room stars high : ℕ} {text behind : List Leaf} {suffixes : Trees.SuffixesTree} {tree : Trees.DeclaratorTree} (row : DirectRow) → (row ≡ D.Name → ⊥) → (row ≡ D.Nested → ⊥) → BeginsRow (Forms.ParamDirect named) 0 room text (direct_form named row) → direct_starts row text → IsRead (Whole Forms.Suffixes 0) room text suffixes_of suffixes high behind → Trees.Declarator stars Trees.NoName suffixes ≡ tree → IsRead (Whole (Forms.ParamDirect named) 0) room text (built_of stars) tree high behind
bare_read D.Name no_name no_nested begins starts suffixes same = absurd (no_name refl)
bare_read D.Nested no_name no_nested begins starts suffixes same = absurd (no_nested refl)
bare_read {named = named} {stars = stars} {behind = behind} D.Function no_name no_nested begins starts suffixes same =
    let by = by_row (λ level own kind. refl) refl (by_function starts) suffixes.run in
    record {
      parse = Node (Forms.ParamFunction named) by.parts;
      run = (param_row begins refl).done by.run (no_more (nothing_more (Forms.ParamDirect named) 0 (Node (Forms.ParamFunction named) by.parts) behind (λ level own kind. refl)));
      shape = ap (λ s. Trees.Declarator stars Trees.NoName s) (function_same named by.parts ∙ ap suffixes_of by.tree_is ∙ suffixes.shape) ∙ same;
      measured = ap (height grammar) by.tree_is ∙ suffixes.measured;
    }
bare_read {named = named} {stars = stars} {behind = behind} D.Array no_name no_nested begins starts suffixes same =
    let by = by_row (λ level own kind. refl) refl (by_array starts) suffixes.run in
    record {
      parse = Node (Forms.ParamArray named) by.parts;
      run = (param_row begins refl).done by.run (no_more (nothing_more (Forms.ParamDirect named) 0 (Node (Forms.ParamArray named) by.parts) behind (λ level own kind. refl)));
      shape = ap (λ s. Trees.Declarator stars Trees.NoName s) (array_same named by.parts ∙ ap suffixes_of by.tree_is ∙ suffixes.shape) ∙ same;
      measured = ap (height grammar) by.tree_is ∙ suffixes.measured;
    }

-- It passes a token at least.
passes_one : {kind : Kind} {symbols : List (Symbol Kind Forms.Sort)} {room : ℕ} {text behind : List Leaf} {parts : Parse} → Run grammar (Parts (Terminal kind ∷ symbols)) room text (Done parts behind) → length behind < length text
passes_one (token_done fits run) = let less = shrinks grammar run in omega (arith, less)

pub bare_shorter : {room high : ℕ} {suffixes : Trees.SuffixesTree} (tokens rest : List token_type) (row : DirectRow) → (row ≡ D.Name → ⊥) → (row ≡ D.Nested → ⊥) → direct_starts row (leaves_of tokens) → IsRead (Whole Forms.Suffixes 0) room (leaves_of tokens) suffixes_of suffixes high (leaves_of rest) → length rest < length tokens
bare_shorter tokens rest D.Name no_name no_nested starts suffixes = absurd (no_name refl)
bare_shorter tokens rest D.Nested no_name no_nested starts suffixes = absurd (no_nested refl)
bare_shorter tokens rest D.Function no_name no_nested starts suffixes =
    let less = passes_one (by_row (λ level own kind. refl) refl (by_function starts) suffixes.run).run in
    let one = length-map tokens leaf_of in
    let other = length-map rest leaf_of in
    omega (arith, less, one, other)
bare_shorter tokens rest D.Array no_name no_nested starts suffixes =
    let less = passes_one (by_row (λ level own kind. refl) refl (by_array starts) suffixes.run).run in
    let one = length-map tokens leaf_of in
    let other = length-map rest leaf_of in
    omega (arith, less, one, other)

pub type_cut : (named : Bool) {text : List Leaf} (room : ℕ) (fault : SyntaxErr) → text ≡ [] → fault ≡ At (place_of text) → Fails (Whole (Forms.sort_of (type_form named)) 0) room text fault
type_cut true room fault none same = no_row room fault (no_tokens Forms.Param 0 none) same
type_cut false room fault none same = no_row room fault (no_tokens Forms.Type_name 0 none) same

pub at_row : {named : Bool} {room : ℕ} {text : List Leaf} {row row' : DirectRow} → BeginsRow (Forms.ParamDirect named) 0 room text (direct_form named row) → row ≡ row' → BeginsRow (Forms.ParamDirect named) 0 room text (direct_form named row')
at_row {named = named} {room = room} {text = text} begins same = subst (λ r. BeginsRow (Forms.ParamDirect named) 0 room text (direct_form named r)) same begins

pub nested_tree : (stars : ℕ) (inner : Declarator) (box : Box Declarator Global) (suffixes : Trees.SuffixesTree) → box.value ≡ inner → Trees.Declarator stars (Trees.Nested (declarator_tree inner)) suffixes ≡ Trees.Declarator stars (views.direct_tree (memory_direct.TheVariants.Nested box)) suffixes
nested_tree stars inner box suffixes same =
    ap (λ d. Trees.Declarator stars d suffixes) (sym (direct_tree-nested box ∙ ap (λ d. Trees.Nested (declarator_tree d)) same))

pub no_direct : {kind : Kind} {text : List Leaf} (room : ℕ) (fault : SyntaxErr) → Begins kind text → (kind ≡ K.Name → ⊥) → (kind ≡ K.OpenParenthesis → ⊥) → fault ≡ At (place_of text) → Fails (Whole Forms.Direct 0) room text fault
no_direct {kind = kind} room fault begins no_name no_opening same =
    no_row room fault (chosen Forms.Direct 0 begins (ap (λ t. take_if t Forms.DirectName (take_if (is kind K.OpenParenthesis) Forms.DirectNested Never)) (is_other kind K.Name no_name) ∙ ap (λ t. take_if t Forms.DirectNested Never) (is_other kind K.OpenParenthesis no_opening))) same

pub high_fits : {A : Type 0} {sort : Forms.Sort} {level room high : ℕ} {text behind : List Leaf} {shape_of : Parse → A} {tree : A} → IsRead (Whole sort level) room text shape_of tree high behind → high ≤ room
high_fits reads = let low = reads.measured in let fits = spans reads.run in omega (arith, low, fits)

pub pointer_deep : (named : Bool) {kind : Kind} {text : List Leaf} (room : ℕ) (fault : SyntaxErr) → Begins kind text → kind ≡ K.Star → room < 1 → fault ≡ TooDeep (place_of text) → Fails (Whole (Forms.Inner named) 0) room text fault × Fails (Whole (Forms.Optional named) 0) room text fault
pointer_deep named room fault begins star short same =
    let taken : Chosen (Forms.Inner named) 0 _ (Take (Forms.InnerPointer named) 1 1) = chosen (Forms.Inner named) 0 (at_kind begins star) refl in
    let taken' : Chosen (Forms.Optional named) 0 _ (Take (Forms.OptionalPointer named) 1 1) = chosen (Forms.Optional named) 0 (at_kind begins star) refl in
    (no_room room fault taken short same, no_room room fault taken' short same)

pub plain_deep : (named : Bool) {kind : Kind} {text : List Leaf} (room : ℕ) (fault : SyntaxErr) → Begins kind text → (kind ≡ K.Star → ⊥) → begins_direct named kind ≡ true → room < 1 → fault ≡ TooDeep (place_of text) → Fails (Whole (Forms.Inner named) 0) room text fault × Fails (Whole (Forms.Optional named) 0) room text fault
plain_deep named room fault begins no_star told short same =
    (no_room room fault (inner_told named begins no_star told) short same, no_room room fault (optional_direct named begins no_star told) short same)

-- ---- parameters

abbrev pub param_front : Trees.TypeTree → Trees.ParametersTree → Trees.ParametersTree
param_front (Trees.TypeName words declarator) others = Trees.Parameter words declarator others

-- parameters that were read, in front of others
abbrev pub parameters_with : List Parameter → Trees.ParametersTree → Trees.ParametersTree
parameters_with [] others = others
parameters_with (parameter ∷ rest) others = param_front (parameter_type parameter) (parameters_with rest others)

with_last_parameter : (read : List Parameter) (parameter : Parameter) (others : Trees.ParametersTree) → parameters_with (read ++ parameter ∷ []) others ≡ parameters_with read (param_front (parameter_type parameter) others)
with_last_parameter [] parameter others = refl
with_last_parameter (first ∷ read) parameter others = ap (param_front (parameter_type first)) (with_last_parameter read parameter others)

with_no_parameters : (read : List Parameter) → parameters_with read Trees.NoParameters ≡ views.parameters_of read
with_no_parameters [] = refl
with_no_parameters (memory_parameter.Parameter' simple declarator ∷ read) = ap (Trees.Parameter (views.words_tree simple) (views.optional_tree declarator)) (with_no_parameters read)

pub record ParametersSoFar (room : ℕ) (text rest : List Leaf) (read : List Parameter) (high : ℕ) : Type 0 where
  pub build : Parse → Parse
  pub onto : Onto (Whole Forms.Params 0) (Whole Forms.ParamsMore 0) room text rest build
  pub shape : (tree : Parse) → parameters_of (build tree) ≡ parameters_with read (parameters_of tree)
  pub high_is : (tree : Parse) → height grammar (build tree) ≡ max high (height grammar tree)

parameters_row : {kind : Kind} {room : ℕ} {text : List Leaf} → Begins kind text → is_type_word kind ≡ true → Within Forms.Params 0 room text room (Nonterminal Forms.Param 0 ∷ Nonterminal Forms.ParamsMore 0 ∷ []) text (Node Forms.OneParam)
parameters_row begins told = begin (chosen Forms.Params 0 begins (ap (λ t. take_if t Forms.OneParam (take Forms.NoParam)) told)) refl

pub no_parameters : {kind : Kind} {room : ℕ} {text : List Leaf} → Begins kind text → is_type_word kind ≡ false → IsRead (Whole Forms.Params 0) room text parameters_of Trees.NoParameters 0 text
no_parameters begins told =
    let row = begin (chosen Forms.Params 0 begins (ap (λ t. take_if t Forms.OneParam (take Forms.NoParam)) told)) refl in
    record { parse = Node Forms.NoParam Nothing; run = finished (λ level own kind. refl) row; shape = refl; measured = refl }

pub first_parameter_fault : {kind : Kind} {text : List Leaf} (room : ℕ) (fault : SyntaxErr) → Begins kind text → is_type_word kind ≡ true → Fails (Whole Forms.Param 0) room text fault → Fails (Whole Forms.Params 0) room text fault
first_parameter_fault room fault begins told fails = part_fault fault (parameters_row begins told) fails

pub first_parameter : {kind : Kind} {room high : ℕ} {text behind : List Leaf} (parameter : Parameter) {tree : Trees.TypeTree} → Begins kind text → is_type_word kind ≡ true → ReadsType true room text tree high behind → parameter_type parameter ≡ tree → ParametersSoFar room text behind (parameter ∷ []) high
first_parameter parameter begins told typed same =
    let low = typed.measured in
    record {
      build = λ tree. Node Forms.OneParam (Then (Node Forms.ParamRow (Then typed.base (Then typed.declarator Nothing))) (Then tree Nothing));
      onto = tail (λ level own kind. refl) nothing_yet (behind_part (parameters_row begins told) typed.run);
      shape = λ tree. ap (λ t. param_front t (parameters_of tree)) (typed.shape ∙ sym same);
      high_is = λ tree. omega (arith, low);
    }

comma_row : {room : ℕ} {text middle : List Leaf} {place : Pos} → Passes K.Comma text place middle → Within Forms.ParamsMore 0 room text room (Terminal K.Comma ∷ Nonterminal Forms.Param 0 ∷ Nonterminal Forms.ParamsMore 0 ∷ []) text (Node Forms.ParamsNext)
comma_row {text = text} {middle = middle} comma =
    let begins : Begins K.Comma text = record { leaf = comma.leaf; behind = middle; parts = comma.parts; is_kind = comma.is_kind } in
    begin (chosen Forms.ParamsMore 0 begins refl) refl

pub next_parameter : {room high low both : ℕ} {text rest middle behind : List Leaf} {read : List Parameter} (parameter : Parameter) {tree : Trees.TypeTree} {place : Pos} → ParametersSoFar room text rest read high → (comma : Passes K.Comma rest place middle) → ReadsType true room middle tree low behind → parameter_type parameter ≡ tree → max high low ≡ both → ParametersSoFar room text behind (read ++ parameter ∷ []) both
next_parameter {read = read} parameter so_far comma typed same both_is =
    let low = typed.measured in
    record {
      build = λ tree. so_far.build (Node Forms.ParamsNext (Then (Alone comma.leaf) (Then (Node Forms.ParamRow (Then typed.base (Then typed.declarator Nothing))) (Then tree Nothing))));
      onto = tail (λ level own kind. refl) so_far.onto (behind_part (after (comma_row comma) comma) typed.run);
      shape = λ tree. so_far.shape (Node Forms.ParamsNext (Then (Alone comma.leaf) (Then (Node Forms.ParamRow (Then typed.base (Then typed.declarator Nothing))) (Then tree Nothing)))) ∙ ap (λ t. parameters_with read (param_front t (parameters_of tree))) (typed.shape ∙ sym same) ∙ sym (with_last_parameter read parameter (parameters_of tree));
      high_is = λ tree. let e = so_far.high_is (Node Forms.ParamsNext (Then (Alone comma.leaf) (Then (Node Forms.ParamRow (Then typed.base (Then typed.declarator Nothing))) (Then tree Nothing)))) in omega (arith, e, low, both_is);
    }

pub next_parameter_fault : {high : ℕ} {text rest middle : List Leaf} {read : List Parameter} {place : Pos} (room : ℕ) (fault : SyntaxErr) → ParametersSoFar room text rest read high → Passes K.Comma rest place middle → Fails (Whole Forms.Param 0) room middle fault → Fails (Whole Forms.Params 0) room text fault
next_parameter_fault room fault so_far comma fails = lift fault (onto_lifts so_far.onto) (part_fault fault (after (comma_row comma) comma) fails)

pub parameters_cut : {high : ℕ} {text rest : List Leaf} {read : List Parameter} (room : ℕ) (fault : SyntaxErr) → ParametersSoFar room text rest read high → rest ≡ [] → fault ≡ At (place_of rest) → Fails (Whole Forms.Params 0) room text fault
parameters_cut room fault so_far none same = lift fault (onto_lifts so_far.onto) (no_row room fault (no_tokens Forms.ParamsMore 0 none) same)

pub last_parameter : {kind : Kind} {room high : ℕ} {text rest : List Leaf} {read : List Parameter} → ParametersSoFar room text rest read high → Begins kind rest → (kind ≡ K.Comma → ⊥) → IsRead (Whole Forms.Params 0) room text parameters_of (views.parameters_of read) high rest
last_parameter {kind = kind} {read = read} so_far begins no_comma =
    let taken : Chosen Forms.ParamsMore 0 _ (Take Forms.ParamsEnd 0 0) = chosen Forms.ParamsMore 0 begins (ap (λ t. take_if t Forms.ParamsNext (take Forms.ParamsEnd)) (is_other kind K.Comma no_comma)) in
    let e = so_far.high_is (Node Forms.ParamsEnd Nothing) in
    record {
      parse = so_far.build (Node Forms.ParamsEnd Nothing);
      run = so_far.onto.done (finished (λ level own kind'. refl) (begin taken refl));
      shape = so_far.shape (Node Forms.ParamsEnd Nothing) ∙ with_no_parameters read;
      measured = omega (arith, e);
    }
