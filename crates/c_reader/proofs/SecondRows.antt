-- Rows that their second token decides.
use Rattle.std.proofs.Common.{◌≡◌, ℕ, ◌<◌, ◌≤◌, Bool, true, false, ◌&&◌, if◌then◌else◌, List, refl, sym, ◌∙◌, ap, subst, arith}
use Rattle.run_theory.specs.declared.place.Pos.{Pos}
use Rattle.c_grammar.specs.Table.{Choice, Never, Take, Stuck}
use Rattle.c_grammar.specs.Runs.{Whole, Failed, Bad, Deep, Run, stuck, second_deep, first_deep, never}
use Rattle.c_grammar.specs.declared.kind.Kind.{Kind}
use Rattle.c_grammar.specs.declared.kind.Kind.TheVariants as K
use Rattle.c_grammar.specs.Kinds.{is, is_type_word}
use Rattle.c_grammar.specs.Forms
use Rattle.c_grammar.specs.Chooses.{take_if, begins_expr, choose_operand, choose_nested, choose_by}
use Rattle.c_grammar.specs.Language.{choose_at}
use Rattle.c_grammar.specs.Leaves.{Leaf, kind_of, sample}
use Rattle.c_reader.specs.declared.syntax_err.SyntaxErr.{SyntaxErr}
use Rattle.c_reader.specs.declared.syntax_err.SyntaxErr.TheVariants.{At, TooDeep}
use Rattle.c_reader.specs.Grammar.{grammar}
use Rattle.c_reader.specs.Shapes.{place_of}
use Rattle.c_reader.specs.Readings.{Fails, Begins, Passes}
use Rattle.c_reader.specs.Steps.{second_kind_of, BeginsRow}
use Rattle.c_reader.proofs.KindTests.{is_other}
use Rattle.c_reader.proofs.Rows.{chosen_by, chosen, no_row, bad, deep}

-- ---- the operand of `sizeof`, which begins with `(`

-- what the kind behind the `(` tells
abbrev by_tests : Bool → Bool → Choice Forms.Production
by_tests of_type of_expr = if of_type then Take Forms.SizeofType 0 0 else if of_expr then Take Forms.SizeofExpr 0 2 else Stuck 0

operand_at : {next : Kind} {text : List Leaf} {of_type of_expr : Bool} → Begins K.OpenParenthesis text → next ≡ second_kind_of text → is_type_word next ≡ of_type → begins_expr next ≡ of_expr → choose_at kind_of sample Forms.SizeofOperand 0 text ≡ by_tests of_type of_expr
operand_at {next = next} begins second told_type told_expr =
    chosen_by Forms.SizeofOperand 0 begins ∙ ap choose_operand (sym second) ∙ ap (λ t. by_tests t (begins_expr next)) told_type ∙ ap (by_tests _) told_expr

pub opened_expr : {next : Kind} {text : List Leaf} (room : ℕ) → Begins K.OpenParenthesis text → next ≡ second_kind_of text → is_type_word next ≡ false → begins_expr next ≡ true → 2 ≤ room → BeginsRow Forms.SizeofOperand 0 room text Forms.SizeofExpr
opened_expr room begins second told_type told_expr fits =
    record { first = 0; second = 2; chosen = operand_at begins second told_type told_expr; first_fits = omega arith; second_fits = fits }

pub opened_deep : {next : Kind} {text middle : List Leaf} {place : Pos} (room : ℕ) (fault : SyntaxErr) → Passes K.OpenParenthesis text place middle → Begins K.OpenParenthesis text → next ≡ second_kind_of text → is_type_word next ≡ false → begins_expr next ≡ true → room < 2 → fault ≡ TooDeep (place_of middle) → Fails (Whole Forms.SizeofOperand 0) room text fault
opened_deep {text = text} {middle = middle} room fault passes begins second told_type told_expr short same =
    let told = operand_at begins second told_type told_expr in
    let here = subst (λ leaves. choose_at kind_of sample Forms.SizeofOperand 0 leaves ≡ Take Forms.SizeofExpr 0 2) passes.parts told in
    deep fault (subst (λ leaves. Run grammar (Whole Forms.SizeofOperand 0) room leaves (Failed Deep middle)) (sym passes.parts) (second_deep here (omega arith) short)) same

pub opened_misfit : {next : Kind} {text middle : List Leaf} {place : Pos} (room : ℕ) (fault : SyntaxErr) → Passes K.OpenParenthesis text place middle → Begins K.OpenParenthesis text → next ≡ second_kind_of text → is_type_word next ≡ false → begins_expr next ≡ false → fault ≡ At (place_of middle) → Fails (Whole Forms.SizeofOperand 0) room text fault
opened_misfit {text = text} {middle = middle} room fault passes begins second told_type told_expr same =
    let told = operand_at begins second told_type told_expr in
    let here = subst (λ leaves. choose_at kind_of sample Forms.SizeofOperand 0 leaves ≡ Stuck 0) passes.parts told in
    bad fault (subst (λ leaves. Run grammar (Whole Forms.SizeofOperand 0) room leaves (Failed Bad middle)) (sym passes.parts) (stuck here (omega arith))) same

-- ---- one that begins otherwise

plain_at : {kind : Kind} {text : List Leaf} {of_expr : Bool} → Begins kind text → (kind ≡ K.OpenParenthesis → ⊥) → begins_expr kind ≡ of_expr → choose_at kind_of sample Forms.SizeofOperand 0 text ≡ take_if of_expr Forms.SizeofExpr Never
plain_at {kind = kind} {text = text} begins other told =
    chosen_by Forms.SizeofOperand 0 begins ∙ ap (λ t. if t then choose_operand (second_kind_of text) else take_if (begins_expr kind) Forms.SizeofExpr Never) (is_other kind K.OpenParenthesis other) ∙ ap (λ t. take_if t Forms.SizeofExpr Never) told

pub plain_expr : {kind : Kind} {text : List Leaf} (room : ℕ) → Begins kind text → (kind ≡ K.OpenParenthesis → ⊥) → begins_expr kind ≡ true → 1 ≤ room → BeginsRow Forms.SizeofOperand 0 room text Forms.SizeofExpr
plain_expr room begins other told fits = record { first = 1; second = 1; chosen = plain_at begins other told; first_fits = fits; second_fits = fits }

pub plain_deep : {kind : Kind} {text : List Leaf} (room : ℕ) (fault : SyntaxErr) → Begins kind text → (kind ≡ K.OpenParenthesis → ⊥) → begins_expr kind ≡ true → room < 1 → fault ≡ TooDeep (place_of text) → Fails (Whole Forms.SizeofOperand 0) room text fault
plain_deep room fault begins other told short same = deep fault (first_deep (plain_at begins other told) short) same

pub plain_misfit : {kind : Kind} {text : List Leaf} (room : ℕ) (fault : SyntaxErr) → Begins kind text → (kind ≡ K.OpenParenthesis → ⊥) → begins_expr kind ≡ false → fault ≡ At (place_of text) → Fails (Whole Forms.SizeofOperand 0) room text fault
plain_misfit room fault begins other told same = bad fault (never (plain_at begins other told)) same

-- ---- a declarator that begins with `(` and may lack its name

nested_at : {next : Kind} {text : List Leaf} {choice : Choice Forms.Production} (named : Bool) → Begins K.OpenParenthesis text → next ≡ second_kind_of text → choice ≡ choose_nested named next → choose_at kind_of sample (Forms.ParamDirect named) 0 text ≡ choice
nested_at named begins second row = chosen_by (Forms.ParamDirect named) 0 begins ∙ ap (choose_nested named) (sym second) ∙ sym row

pub nested_deep : {next : Kind} {named : Bool} {text middle : List Leaf} {place : Pos} (room : ℕ) (fault : SyntaxErr) → Passes K.OpenParenthesis text place middle → Begins K.OpenParenthesis text → next ≡ second_kind_of text → Take (Forms.ParamNested named) 0 1 ≡ choose_nested named next → room < 1 → fault ≡ TooDeep (place_of middle) → Fails (Whole (Forms.ParamDirect named) 0) room text fault
nested_deep {named = named} {middle = middle} room fault passes begins second row short same =
    let here = subst (λ leaves. choose_at kind_of sample (Forms.ParamDirect named) 0 leaves ≡ Take (Forms.ParamNested named) 0 1) passes.parts (nested_at named begins second row) in
    deep fault (subst (λ leaves. Run grammar (Whole (Forms.ParamDirect named) 0) room leaves (Failed Deep middle)) (sym passes.parts) (second_deep here (omega arith) short)) same

pub nested_misfit : {next : Kind} {text middle : List Leaf} {place : Pos} (named : Bool) (room : ℕ) (fault : SyntaxErr) → Passes K.OpenParenthesis text place middle → Begins K.OpenParenthesis text → next ≡ second_kind_of text → Stuck 0 ≡ choose_nested named next → fault ≡ At (place_of middle) → Fails (Whole (Forms.ParamDirect named) 0) room text fault
nested_misfit {middle = middle} named room fault passes begins second row same =
    let here = subst (λ leaves. choose_at kind_of sample (Forms.ParamDirect named) 0 leaves ≡ Stuck 0) passes.parts (nested_at named begins second row) in
    bad fault (subst (λ leaves. Run grammar (Whole (Forms.ParamDirect named) 0) room leaves (Failed Bad middle)) (sym passes.parts) (stuck here (omega arith))) same

-- ---- one that begins otherwise

-- a name that it can't have
pub no_named : {kind : Kind} {named : Bool} {text : List Leaf} (room : ℕ) (fault : SyntaxErr) → Begins kind text → kind ≡ K.Name → named ≡ false → fault ≡ At (place_of text) → Fails (Whole (Forms.ParamDirect named) 0) room text fault
no_named {kind = kind} {named = named} {text = text} room fault begins name unnamed same =
    let Row : Bool → Kind → Choice Forms.Production = λ b k. choose_by (Forms.ParamDirect b) 0 k (second_kind_of text) in
    no_row room fault (chosen (Forms.ParamDirect named) 0 begins (ap (Row named) name ∙ ap (λ b. Row b K.Name) unnamed)) same

and_none : (named test : Bool) → take_if (test && false) (Forms.ParamName named) Never ≡ Never
and_none named true = refl
and_none named false = refl

pub no_param : {kind : Kind} {text : List Leaf} (named : Bool) (room : ℕ) (fault : SyntaxErr) → Begins kind text → (kind ≡ K.OpenParenthesis → ⊥) → (kind ≡ K.OpenBracket → ⊥) → (kind ≡ K.Name → ⊥) → fault ≡ At (place_of text) → Fails (Whole (Forms.ParamDirect named) 0) room text fault
no_param {kind = kind} {text = text} named room fault begins no_parenthesis no_bracket no_name same =
    let Row : Bool → Bool → Bool → Choice Forms.Production = λ parenthesis bracket name. if parenthesis then choose_nested named (second_kind_of text) else take_if bracket (Forms.ParamArray named) (take_if (named && name) (Forms.ParamName named) Never) in
    no_row room fault (chosen (Forms.ParamDirect named) 0 begins (ap (λ p. Row p (is kind K.OpenBracket) (is kind K.Name)) (is_other kind K.OpenParenthesis no_parenthesis) ∙ ap (λ b. Row false b (is kind K.Name)) (is_other kind K.OpenBracket no_bracket) ∙ ap (Row false false) (is_other kind K.Name no_name) ∙ and_none named named)) same
