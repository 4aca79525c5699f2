-- The rows of expressions in which tokens and operands stand as frames tell.
use Rattle.std.proofs.Common.{◌≡◌, ℕ, ◌+◌, ◌<◌, ◌≤◌, max, false, List, [], ◌∷◌, Option, Some, None, refl, sym, ◌∙◌, ap, subst, arith}
use Rattle.run_theory.specs.declared.place.Pos.{Pos}
use Rattle.c_grammar.specs.Table.{Symbol, Terminal, Nonterminal, Alone, Nothing, Then, Node, height}
use Rattle.c_grammar.specs.Runs.{Parts, Whole, Fault, Failed, fits_first, Run, unfit, token_failed, part_failed, then_failed}
use Rattle.c_grammar.specs.declared.kind.Kind.{Kind}
use Rattle.c_grammar.specs.declared.kind.Kind.TheVariants as K
use Rattle.c_grammar.specs.Forms
use Rattle.c_grammar.specs.Chooses.{take, choose_expr}
use Rattle.c_grammar.specs.Leaves.{Leaf}
use Rattle.c_syntax.specs.Trees
use Rattle.c_reader.specs.declared.choice.First.{First}
use Rattle.c_reader.specs.declared.choice.Wrapping.{Wrapping}
use Rattle.c_reader.specs.declared.choice.Wrapping.TheVariants as W
use Rattle.c_reader.specs.declared.choice.Joining.{Joining}
use Rattle.c_reader.specs.declared.choice.Joining.TheVariants as J
use Rattle.c_reader.specs.declared.syntax_err.SyntaxErr.{SyntaxErr}
use Rattle.c_reader.specs.declared.syntax_err.SyntaxErr.TheVariants.{At}
use Rattle.c_reader.specs.declared.term.Frame.{Frame}
use Rattle.c_reader.specs.Grammar.{grammar, Parse}
use Rattle.c_reader.specs.Shapes.{place_of, expr_of, arguments_of}
use Rattle.c_reader.specs.Readings.{Fails, IsRead, Begins, Passes}
use Rattle.c_reader.specs.Choices.{wrapped_form, joined_form, first_choice, next_form}
use Rattle.c_reader.specs.Steps.{second_kind_of}
use Rattle.c_reader.specs.ExpressionSteps.{Chooses, Starts}
use Rattle.c_reader.specs.Terms.{closing_symbols, frame_symbols, wrapped_tree, joined_tree, Closes, ReadsTerm}
use Rattle.c_reader.proofs.Rows.{Within, lift, bad, is_fit, behind_token, behind_part, after, misfit, part_fault}
use Rattle.c_reader.proofs.ExprRows.{starts, operand_row, chooses, extend}

-- ---- one symbol after another

behind_opening : {kind : Kind} {symbols : List (Symbol Kind Forms.Sort)} {room : ℕ} {text inside behind : List Leaf} {place : Pos} {fault : Fault} → Passes kind text place inside → Run grammar (Parts symbols) room inside (Failed fault behind) → Run grammar (Parts (Terminal kind ∷ symbols)) room text (Failed fault behind)
behind_opening {kind = kind} {symbols = symbols} {room = room} {behind = behind} {fault = fault} opens run =
    subst (λ leaves. Run grammar (Parts (Terminal kind ∷ symbols)) room leaves (Failed fault behind)) (sym opens.parts) (token_failed (is_fit kind opens.leaf opens.is_kind) run)

-- ---- the faults of a frame

pub closing_fault : {kind : Kind} {last : Option Kind} (text : List Leaf) (fault : SyntaxErr) → last ≡ Some kind → fits_first grammar kind text ≡ false → fault ≡ At (place_of text) → (room : ℕ) (more : List (Symbol Kind Forms.Sort)) → Fails (Parts (closing_symbols last more)) room text fault
closing_fault text fault same none stands room more =
    subst (λ l. Fails (Parts (closing_symbols l more)) room text fault) (sym same) (bad fault (unfit none) stands)

pub opening_fault : (frame : Frame) (text : List Leaf) (room : ℕ) (fault : SyntaxErr) → fits_first grammar frame.first text ≡ false → fault ≡ At (place_of text) → (more : List (Symbol Kind Forms.Sort)) → Fails (Parts (frame_symbols frame more)) room text fault
opening_fault frame text room fault none stands more = bad fault (unfit none) stands

pub value_fault : (frame : Frame) {text inside : List Leaf} {place : Pos} (room : ℕ) (fault : SyntaxErr) → Passes frame.first text place inside → Fails (Whole Forms.Expr frame.level) room inside fault → (more : List (Symbol Kind Forms.Sort)) → Fails (Parts (frame_symbols frame more)) room text fault
value_fault frame room fault opens fails more = lift fault (record { run = λ run. behind_opening opens (part_failed run) }) fails

pub last_fault : (frame : Frame) {text inside rest : List Leaf} {place : Pos} {tree : Trees.ExprTree} {high : ℕ} (room : ℕ) (fault : SyntaxErr) → Passes frame.first text place inside → IsRead (Whole Forms.Expr frame.level) room inside expr_of tree high rest → ((room' : ℕ) (more : List (Symbol Kind Forms.Sort)) → Fails (Parts (closing_symbols frame.last more)) room' rest fault) → (more : List (Symbol Kind Forms.Sort)) → Fails (Parts (frame_symbols frame more)) room text fault
last_fault frame room fault opens value fails more = lift fault (record { run = λ run. behind_opening opens (then_failed value.run run) }) (fails room more)

-- ---- a frame in a row

-- what stands behind the token that closes it
abbrev pub closed : (last : Option Kind) (rest behind : List Leaf) → Closes last rest behind → Parse → Parse
closed None rest behind closes others = others
closed (Some last) rest behind closes others = Then (Alone closes.leaf) others

behind_closing : (last : Option Kind) {level room below : ℕ} {text rest behind : List Leaf} {more : List (Symbol Kind Forms.Sort)} {build : Parse → Parse} → Within Forms.Expr level room text below (closing_symbols last more) rest build → (closes : Closes last rest behind) → Within Forms.Expr level room text below more behind (λ others. build (closed last rest behind closes others))
behind_closing None {level = level} {room = room} {below = below} {text = text} {more = more} {build = build} within closes = subst (λ leaves. Within Forms.Expr level room text below more leaves build) closes within
behind_closing (Some last) within closes = behind_token closes.leaf within closes.parts closes.is_kind

pub behind_frame : (frame : Frame) {level room below high : ℕ} {text middle behind : List Leaf} {more : List (Symbol Kind Forms.Sort)} {build : Parse → Parse} {place : Pos} {tree : Trees.ExprTree} → Within Forms.Expr level room text below (frame_symbols frame more) middle build → (term : ReadsTerm frame below middle place tree high behind) → Within Forms.Expr level room text below more behind (λ others. build (Then (Alone term.opens.leaf) (Then term.value.parse (closed frame.last term.rest behind term.closes others))))
behind_frame frame within term = behind_closing frame.last (behind_part (after within term.opens) term.value.run) term.closes

pub frame_fault : {level room below : ℕ} {text middle : List Leaf} {symbols : List (Symbol Kind Forms.Sort)} {build : Parse → Parse} (fault : SyntaxErr) → Within Forms.Expr level room text below symbols middle build → Fails (Parts symbols) below middle fault → Fails (Whole Forms.Expr level) room text fault
frame_fault fault within fails = lift fault (record { run = λ run. within.failed run }) fails

closed_high : (last : Option Kind) (rest behind : List Leaf) (closes : Closes last rest behind) → height grammar (closed last rest behind closes Nothing) ≡ 0
closed_high None rest behind closes = refl
closed_high (Some last) rest behind closes = refl

-- Are there three symbols?
abbrev HasThree : List (Symbol Kind Forms.Sort) → Type 0
HasThree [] = ⊥
HasThree (one ∷ []) = ⊥
HasThree (one ∷ two ∷ []) = ⊥
HasThree (one ∷ two ∷ three ∷ more) = Unit {0}

-- A frame of two symbols has no token that closes it.
closed_by_none : (first kind : Kind) (level level' : ℕ) (last : Option Kind) (rest behind : List Leaf) (closes : Closes last rest behind) → Terminal first ∷ Nonterminal Forms.Expr level ∷ closing_symbols last [] ≡ Terminal kind ∷ Nonterminal Forms.Expr level' ∷ [] → closed last rest behind closes Nothing ≡ Nothing
closed_by_none first kind level level' None rest behind closes same = refl
closed_by_none first kind level level' (Some last) rest behind closes same = absurd (subst HasThree same tt)

-- ---- what stands before an operand

-- The row that the reader chooses is that of the grammar.
pub first_row : {level : ℕ} {kind next : Kind} {text : List Leaf} {first first' : First} {form : Forms.Production} → Begins kind text → next ≡ second_kind_of text → first_choice kind (Some first) ≡ choose_expr level kind next → first ≡ first' → first_choice kind (Some first') ≡ take form → Chooses level form text
first_row {kind = kind} begins second told same row = chooses begins second (sym told ∙ ap (λ f. first_choice kind (Some f)) same ∙ row)

wrapped_need : (wrapping : Wrapping) → Forms.row_need (wrapped_form wrapping) ≡ 2
wrapped_need W.Parenthesis = refl
wrapped_need (W.Prefix kind operand) = refl

wrapped_weight : (wrapping : Wrapping) → Forms.weight_of (wrapped_form wrapping) ≡ 1
wrapped_weight W.Parenthesis = refl
wrapped_weight (W.Prefix kind operand) = refl

pub wrapped_short : (room : ℕ) (wrapping : Wrapping) → room < 2 → room < Forms.row_need (wrapped_form wrapping)
wrapped_short room wrapping short = let e = wrapped_need wrapping in omega (arith, short, e)

pub wrapped_row : {level room : ℕ} {text : List Leaf} (wrapping : Wrapping) (frame : Frame) (below : ℕ) → Chooses level (wrapped_form wrapping) text → frame_symbols frame [] ≡ Forms.symbols_of (wrapped_form wrapping) → 2 ≤ room → below + 1 ≡ room → Within Forms.Expr level room text below (frame_symbols frame []) text (Node (wrapped_form wrapping))
wrapped_row {level = level} {room = room} {text = text} wrapping frame below told same fits down =
    let need = wrapped_need wrapping in
    let weighs = wrapped_weight wrapping in
    subst (λ symbols. Within Forms.Expr level room text below symbols text (Node (wrapped_form wrapping))) (sym same) (operand_row below told (omega (arith, fits, need)) (omega (arith, down, weighs)))

wrapped_shape : (wrapping : Wrapping) (frame : Frame) (rest behind : List Leaf) (closes : Closes frame.last rest behind) (opening : Leaf) (inner : Parse) → frame_symbols frame [] ≡ Forms.symbols_of (wrapped_form wrapping) → expr_of (Node (wrapped_form wrapping) (Then (Alone opening) (Then inner (closed frame.last rest behind closes Nothing)))) ≡ wrapped_tree wrapping opening.place (expr_of inner)
wrapped_shape W.Parenthesis frame rest behind closes opening inner same = refl
wrapped_shape (W.Prefix kind operand) frame rest behind closes opening inner same =
    ap (λ others. expr_of (Node (Forms.Prefix kind operand) (Then (Alone opening) (Then inner others)))) (closed_by_none frame.first kind frame.level operand frame.last rest behind closes same)

pub wrapped_read : {level room below high total own : ℕ} {text behind : List Leaf} {place : Pos} {tree whole : Trees.ExprTree} (wrapping : Wrapping) (frame : Frame) → Within Forms.Expr level room text below (frame_symbols frame []) text (Node (wrapped_form wrapping)) → frame_symbols frame [] ≡ Forms.symbols_of (wrapped_form wrapping) → ReadsTerm frame below text place tree high behind → whole ≡ wrapped_tree wrapping place tree → total ≡ high + 1 → own ≡ Forms.level_of_form (wrapped_form wrapping) → Starts level room text whole total own behind
wrapped_read {behind = behind} wrapping frame within same term shape measured binds =
    let inner = term.value.shape in
    let low = term.value.measured in
    let weighs = wrapped_weight wrapping in
    let light = closed_high frame.last term.rest behind term.closes in
    let built = wrapped_shape wrapping frame term.rest behind term.closes term.opens.leaf term.value.parse same in
    starts (behind_frame frame within term)
    (built ∙ ap (λ p. wrapped_tree wrapping p (expr_of term.value.parse)) term.opens.stands ∙ ap (wrapped_tree wrapping _) inner ∙ sym shape)
    (omega (arith, low, weighs, light, measured))
    (sym binds)

-- ---- what stands between two

joined_need : (joining : Joining) → Forms.row_need (joined_form joining) ≡ 2
joined_need J.Index = refl
joined_need (J.Assign kind) = refl
joined_need (J.Binary kind right level) = refl

pub joined_weight : (joining : Joining) → Forms.weight_of (joined_form joining) ≡ 1
joined_weight J.Index = refl
joined_weight (J.Assign kind) = refl
joined_weight (J.Binary kind right level) = refl

pub joined_short : (room high : ℕ) (joining : Joining) → room < max 2 (high + 1) → room < max (Forms.row_need (joined_form joining)) (high + 1)
joined_short room high joining short = let e = joined_need joining in omega (arith, short, e)

pub joined_row : {level room high own : ℕ} {text rest : List Leaf} {tree : Trees.ExprTree} (joining : Joining) (frame : Frame) (below : ℕ) (begun : Starts level room text tree high own rest) → next_form level own rest ≡ Some (joined_form joining) → frame_symbols frame [] ≡ Forms.symbols_of (joined_form joining) → 2 ≤ room → high ≤ below → below + 1 ≡ room → Within Forms.Expr level room text below (frame_symbols frame []) rest (λ parts. Node (joined_form joining) (Then begun.parse parts))
joined_row {level = level} {room = room} {text = text} {rest = rest} joining frame below begun told same fits left_fits down =
    let need = joined_need joining in
    let weighs = joined_weight joining in
    subst (λ symbols. Within Forms.Expr level room text below symbols rest (λ parts. Node (joined_form joining) (Then begun.parse parts))) (sym same) (extend below begun told (omega (arith, fits, need)) left_fits (omega (arith, down, weighs)))

joined_shape : (joining : Joining) (frame : Frame) (rest behind : List Leaf) (closes : Closes frame.last rest behind) (opening : Leaf) (left right : Parse) → frame_symbols frame [] ≡ Forms.symbols_of (joined_form joining) → expr_of (Node (joined_form joining) (Then left (Then (Alone opening) (Then right (closed frame.last rest behind closes Nothing))))) ≡ joined_tree joining (expr_of left) (expr_of right)
joined_shape J.Index frame rest behind closes opening left right same = refl
joined_shape (J.Assign kind) frame rest behind closes opening left right same =
    ap (λ others. expr_of (Node (Forms.Assign kind) (Then left (Then (Alone opening) (Then right others))))) (closed_by_none frame.first kind frame.level 15 frame.last rest behind closes same)
joined_shape (J.Binary kind operand level) frame rest behind closes opening left right same =
    ap (λ others. expr_of (Node (Forms.Binary kind operand) (Then left (Then (Alone opening) (Then right others))))) (closed_by_none frame.first kind frame.level operand frame.last rest behind closes same)

pub joined_read : {level room below high own low total binds : ℕ} {text rest behind : List Leaf} {left right whole : Trees.ExprTree} {place : Pos} (joining : Joining) (frame : Frame) (begun : Starts level room text left high own rest) → Within Forms.Expr level room text below (frame_symbols frame []) rest (λ parts. Node (joined_form joining) (Then begun.parse parts)) → frame_symbols frame [] ≡ Forms.symbols_of (joined_form joining) → ReadsTerm frame below rest place right low behind → whole ≡ joined_tree joining left right → total ≡ max high low + 1 → binds ≡ Forms.level_of_form (joined_form joining) → Starts level room text whole total binds behind
joined_read {behind = behind} joining frame begun within same term shape measured binds =
    let one = begun.shape in
    let other = term.value.shape in
    let left_high = begun.measured in
    let right_high = term.value.measured in
    let weighs = joined_weight joining in
    let light = closed_high frame.last term.rest behind term.closes in
    let built = joined_shape joining frame term.rest behind term.closes term.opens.leaf begun.parse term.value.parse same in
    starts (behind_frame frame within term)
    (built ∙ ap (λ l. joined_tree joining l (expr_of term.value.parse)) one ∙ ap (joined_tree joining _) other ∙ sym shape)
    (omega (arith, left_high, right_high, weighs, light, measured))
    (sym binds)

-- ---- `c ? t : e`

abbrev pub question_frame : Frame
question_frame = record { first = K.Question; level = 15; last = Some K.Colon }

pub conditional_row : {level room high own : ℕ} {text rest : List Leaf} {tree : Trees.ExprTree} (below : ℕ) (begun : Starts level room text tree high own rest) → next_form level own rest ≡ Some Forms.Conditional → 2 ≤ room → high ≤ below → below + 1 ≡ room → Within Forms.Expr level room text below (frame_symbols question_frame (Nonterminal Forms.Expr 14 ∷ [])) rest (λ parts. Node Forms.Conditional (Then begun.parse parts))
conditional_row below begun told fits left_fits down = extend below begun told fits left_fits down

pub otherwise_fault : {level room below high : ℕ} {text middle behind : List Leaf} {build : Parse → Parse} {place : Pos} {tree : Trees.ExprTree} (fault : SyntaxErr) → Within Forms.Expr level room text below (frame_symbols question_frame (Nonterminal Forms.Expr 14 ∷ [])) middle build → ReadsTerm question_frame below middle place tree high behind → Fails (Whole Forms.Expr 14) below behind fault → Fails (Whole Forms.Expr level) room text fault
otherwise_fault fault within term fails = part_fault fault (behind_frame question_frame within term) fails

pub conditional_read : {level room below high own low least total : ℕ} {text rest middle behind : List Leaf} {condition taken otherwise whole : Trees.ExprTree} {place : Pos} (begun : Starts level room text condition high own rest) → Within Forms.Expr level room text below (frame_symbols question_frame (Nonterminal Forms.Expr 14 ∷ [])) rest (λ parts. Node Forms.Conditional (Then begun.parse parts)) → ReadsTerm question_frame below rest place taken low middle → IsRead (Whole Forms.Expr 14) below middle expr_of otherwise least behind → whole ≡ Trees.Conditional condition taken otherwise → total ≡ max (max high low) least + 1 → Starts level room text whole total 14 behind
conditional_read begun within term other shape measured =
    let first = begun.shape in
    let second = term.value.shape in
    let third = other.shape in
    let first_high = begun.measured in
    let second_high = term.value.measured in
    let third_high = other.measured in
    starts (behind_part (behind_frame question_frame within term) other.run) (cc (first, second, third, shape)) (omega (arith, first_high, second_high, third_high, measured)) refl

-- ---- calls

pub call_row : {level room high own : ℕ} {text rest middle : List Leaf} {tree : Trees.ExprTree} {place : Pos} (below : ℕ) (begun : Starts level room text tree high own rest) → next_form level own rest ≡ Some Forms.Call → 1 ≤ room → high ≤ below → below + 1 ≡ room → (opens : Passes K.OpenParenthesis rest place middle) → Within Forms.Expr level room text below (Nonterminal Forms.Arguments 0 ∷ Terminal K.CloseParenthesis ∷ []) middle (λ parts. Node Forms.Call (Then begun.parse (Then (Alone opens.leaf) parts)))
call_row below begun told fits left_fits down opens = after (extend below begun told fits left_fits down) opens

pub call_unclosed : {level room below high : ℕ} {text middle behind : List Leaf} {build : Parse → Parse} {arguments : Trees.ArgumentsTree} (fault : SyntaxErr) → Within Forms.Expr level room text below (Nonterminal Forms.Arguments 0 ∷ Terminal K.CloseParenthesis ∷ []) middle build → IsRead (Whole Forms.Arguments 0) below middle arguments_of arguments high behind → fits_first grammar K.CloseParenthesis behind ≡ false → fault ≡ At (place_of behind) → Fails (Whole Forms.Expr level) room text fault
call_unclosed fault within arguments none stands = misfit fault (behind_part within arguments.run) none stands

pub call_read : {level room below high own low total : ℕ} {text rest middle last behind : List Leaf} {function whole : Trees.ExprTree} {arguments : Trees.ArgumentsTree} {place place' : Pos} (begun : Starts level room text function high own rest) (opens : Passes K.OpenParenthesis rest place middle) → Within Forms.Expr level room text below (Nonterminal Forms.Arguments 0 ∷ Terminal K.CloseParenthesis ∷ []) middle (λ parts. Node Forms.Call (Then begun.parse (Then (Alone opens.leaf) parts))) → IsRead (Whole Forms.Arguments 0) below middle arguments_of arguments low last → Passes K.CloseParenthesis last place' behind → whole ≡ Trees.Call function place arguments → total ≡ max high low + 1 → Starts level room text whole total 1 behind
call_read begun opens within arguments closes shape measured =
    let one = begun.shape in
    let other = arguments.shape in
    let stands = opens.stands in
    let one_high = begun.measured in
    let other_high = arguments.measured in
    starts (after (behind_part within arguments.run) closes) (cc (one, other, stands, shape)) (omega (arith, one_high, other_high, measured)) refl
