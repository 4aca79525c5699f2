-- The literals that a pass adds.
use Rattle.std.proofs.Common.{◌≡◌, ℕ, ◌+◌, ◌<◌, ◌≤◌, length, get_or, drop, map, List, [], ◌∷◌, ◌++◌, Option, Box, Vec, Global, refl, sym, ap, ◌∙◌}
use Rattle.std.proofs.lemmas.List.{drop_more, drop_all, append-nil, append_assoc, map-append}
use Rattle.c_syntax.specs.Trees
use Rattle.c_syntax.specs.Views.{expr_tree, type_tree, optional_of, declarator_tree, direct_tree, suffixes_of, parameters_of, stmt_tree, declaration_tree, block_of, switch_of}
use Rattle.c_syntax.proofs.SyntaxRows.{type_tree-name, direct_tree-nested, suffixes_of-function, parameters_of-parameter}
use Rattle.c_syntax.specs.declared.expr.Expr.{Expr, roll-Expr, roll-out-Expr}
use Rattle.c_syntax.specs.declared.expr.Expr.TheVariants as E
use Rattle.c_syntax.specs.declared.expr.Direct as memory_direct
use Rattle.c_syntax.specs.declared.expr.Direct.{roll-Direct, roll-out-Direct}
use Rattle.c_syntax.specs.declared.expr.Direct.TheVariants as D
use Rattle.c_syntax.specs.declared.expr.Suffix as memory_suffix
use Rattle.c_syntax.specs.declared.expr.Suffix.TheVariants as S
use Rattle.c_syntax.specs.declared.expr.Declarator as memory_declarator
use Rattle.c_syntax.specs.declared.expr.Parameter as memory_parameter
use Rattle.c_syntax.specs.declared.expr.Parameter.{out-Parameter, roll-out-Parameter}
use Rattle.c_syntax.specs.declared.expr.TypeName as memory_type
use Rattle.c_syntax.specs.declared.expr.TypeName.{out-TypeName, roll-out-TypeName}
use Rattle.c_syntax.specs.declared.statement.BlockItem.{BlockItem}
use Rattle.c_syntax.specs.declared.statement.BlockItem.TheVariants as B
use Rattle.c_syntax.specs.declared.statement.SwitchItem.{SwitchItem}
use Rattle.c_syntax.specs.declared.statement.SwitchItem.TheVariants as W
use Rattle.c_types_state.specs.declared.literals.Text.{Text}
use Rattle.c_typed.specs.Typed.{LiteralDef}
use Rattle.c_rules.specs.Elaborated.{literals_in, literals_in_type, literals_in_optional, literals_in_declarator, literals_in_direct, literals_in_suffixes, literals_in_parameters, literals_in_declarators, literals_in_stmt, literals_in_block, literals_in_switch, literals_in_items}
use Rattle.c_types_state.specs.Lists.{AddsLiterals, text_of, item_literals, suffix_literals}

pub adds-none : (now : List Text) → AddsLiterals [] now now
adds-none now = sym (append-nil (map text_of now))

pub adds-one : (now : List Text) (one : Text) → AddsLiterals (text_of one ∷ []) now (now ++ one ∷ [])
adds-one now one = map-append text_of now (one ∷ [])

pub adds-then : (first then : List LiteralDef) (old now new : List Text)
    → AddsLiterals first old now → AddsLiterals then now new → AddsLiterals (first ++ then) old new
adds-then first then old now new h k = k ∙ ap (λ ls. ls ++ then) h ∙ append_assoc (map text_of old) first then

-- ---- loops

-- what was added so far, and then what is left, is what all have
abbrev pub SoFar : List LiteralDef → List LiteralDef → List Text → List Text → Type 0
SoFar all left old now = map text_of now ++ left ≡ map text_of old ++ all

pub so_far-more : {A : Type 0} (of : List A → List LiteralDef) (items : List A) (here : ℕ) (item : A) (one all : List LiteralDef) (old now new : List Text)
    → here < length items → item ≡ get_or items here item → of (item ∷ drop (here + 1) items) ≡ one ++ of (drop (here + 1) items)
    → SoFar all (of (drop here items)) old now → AddsLiterals one now new → SoFar all (of (drop (here + 1) items)) old new
so_far-more of items here item one all old now new within is split far adds =
    let rest = drop (here + 1) items in
    ap (λ ls. ls ++ of rest) adds ∙ append_assoc (map text_of now) one (of rest)
    ∙ ap (λ ls. map text_of now ++ ls) (sym split ∙ ap (λ i. of (i ∷ rest)) is ∙ sym (ap of (drop_more items here item within))) ∙ far

pub so_far-all : {A : Type 0} (of : List A → List LiteralDef) (items : List A) (here : ℕ) (all : List LiteralDef) (old now : List Text)
    → length items ≤ here → of [] ≡ [] → SoFar all (of (drop here items)) old now → AddsLiterals all old now
so_far-all of items here all old now end none far =
    sym (append-nil (map text_of now)) ∙ ap (λ ls. map text_of now ++ ls) (sym none ∙ sym (ap of (drop_all here items end))) ∙ far

-- ---- what one item has

abbrev pub in_block_item : BlockItem → List LiteralDef
in_block_item (B.Declaration declaration) = literals_in_declarators (declaration_tree declaration).declarators
in_block_item (B.Statement stmt) = literals_in_stmt (stmt_tree stmt)

pub block_more : (item : BlockItem) (rest : List BlockItem) → literals_in_block (block_of (item ∷ rest)) ≡ in_block_item item ++ literals_in_block (block_of rest)
block_more (B.Declaration declaration) rest = refl
block_more (B.Statement stmt) rest = refl

abbrev pub in_switch_item : SwitchItem → List LiteralDef
in_switch_item (W.Case place value) = literals_in (expr_tree value)
in_switch_item (W.Default place) = []
in_switch_item (W.Statement stmt) = literals_in_stmt (stmt_tree stmt)

pub switch_more : (item : SwitchItem) (rest : List SwitchItem) → literals_in_switch (switch_of (item ∷ rest)) ≡ in_switch_item item ++ literals_in_switch (switch_of rest)
switch_more (W.Case place value) rest = refl
switch_more (W.Default place) rest = refl
switch_more (W.Statement stmt) rest = refl

pub items_more : (item : Trees.ItemTree) (rest : List Trees.ItemTree) → literals_in_items (item ∷ rest) ≡ item_literals item ++ literals_in_items rest
items_more (Trees.Declaration base declarators) rest = refl
items_more (Trees.Function base declarator place body) rest = refl

pub suffixes_more : (item : memory_suffix.Suffix) (rest : List memory_suffix.Suffix) → literals_in_suffixes (suffixes_of (item ∷ rest)) ≡ suffix_literals item ++ literals_in_suffixes (suffixes_of rest)
suffixes_more (S.Array' length) rest = refl
suffixes_more (S.Function' shape parameters) rest = refl

-- a parameter's own declarator
abbrev pub in_optional : Option memory_declarator.Declarator → List LiteralDef
in_optional declarator = literals_in_optional (optional_of declarator)

pub parameters_more : (item : memory_parameter.Parameter) (rest : List memory_parameter.Parameter) → literals_in_parameters (parameters_of (item ∷ rest)) ≡ in_optional (out-Parameter item).declarator ++ literals_in_parameters (parameters_of rest)
parameters_more item rest =
    ap (λ p. literals_in_parameters (parameters_of (p ∷ rest))) (sym (roll-out-Parameter item)) ∙ ap literals_in_parameters (parameters_of-parameter (out-Parameter item).simple (out-Parameter item).declarator rest)

pub suffix-function : (parameters : Vec memory_parameter.Parameter Global) → suffix_literals (S.Function parameters) ≡ literals_in_parameters (parameters_of parameters.items)
suffix-function parameters =
    sym (append-nil (suffix_literals (S.Function parameters))) ∙ sym (suffixes_more (S.Function parameters) []) ∙ ap literals_in_suffixes (suffixes_of-function parameters [])
    ∙ append-nil (literals_in_parameters (parameters_of parameters.items))

-- a declarator that is not nested, and one that is
pub direct-flat : (direct : memory_direct.Direct) → ((inner : Box memory_declarator.Declarator Global) → direct ≡ D.Nested inner → ⊥) → literals_in_direct (direct_tree direct) ≡ []
direct-flat (D.Named name) h = refl
direct-flat D.Nothing h = refl
direct-flat (D.Nested' q stars direct shape suffixes) h =
    absurd (h _ (sym (roll-out-Direct (D.Nested' q stars direct shape suffixes)) ∙ ap roll-Direct (D.outs-Nested' q stars direct shape suffixes) ∙ D.rolls-Nested _))

pub direct-nested : (direct : memory_direct.Direct) (inner : Box memory_declarator.Declarator Global) (read : memory_declarator.Declarator) → direct ≡ D.Nested inner → read ≡ inner.value → literals_in_direct (direct_tree direct) ≡ literals_in_declarator (declarator_tree read)
direct-nested direct inner read is same = ap (λ (direct : memory_direct.Direct). literals_in_direct (direct_tree direct)) is ∙ ap literals_in_direct (direct_tree-nested inner) ∙ ap (λ (d : memory_declarator.Declarator). literals_in_declarator (declarator_tree d)) (sym same)

-- a type's name
pub type-name : (t : memory_type.TypeName) → literals_in_type (type_tree t) ≡ in_optional (out-TypeName t).declarator
type-name t = ap literals_in_type (ap type_tree (sym (roll-out-TypeName t)) ∙ type_tree-name (out-TypeName t).simple (out-TypeName t).declarator)

-- ---- an expression that has none

pub no_literals : (tree : Expr)
    → ((bytes : _) (place : _) → tree ≡ E.Literal bytes place → ⊥)
    → ((place : _) (inner : _) → tree ≡ E.Parenthesized place inner → ⊥)
    → ((array : _) (index : _) → tree ≡ E.Index array index → ⊥)
    → ((function : _) (at : _) (arguments : _) → tree ≡ E.Call function at arguments → ⊥)
    → ((object : _) (member : _) → tree ≡ E.Member object member → ⊥)
    → ((pointer : _) (member : _) → tree ≡ E.PointerMember pointer member → ⊥)
    → ((operand : _) → tree ≡ E.PostIncrement operand → ⊥)
    → ((operand : _) → tree ≡ E.PostDecrement operand → ⊥)
    → ((operator : _) (place : _) (operand : _) → tree ≡ E.Prefix operator place operand → ⊥)
    → ((place : _) (operand : _) → tree ≡ E.SizeofExpr place operand → ⊥)
    → ((place : _) (type_name : _) → tree ≡ E.SizeofType place type_name → ⊥)
    → ((place : _) (type_name : _) (operand : _) → tree ≡ E.Cast place type_name operand → ⊥)
    → ((operator : _) (left : _) (right : _) → tree ≡ E.Binary operator left right → ⊥)
    → ((condition : _) (taken : _) (otherwise : _) → tree ≡ E.Conditional condition taken otherwise → ⊥)
    → ((operator : _) (object : _) (value : _) → tree ≡ E.Assign operator object value → ⊥)
    → literals_in (expr_tree tree) ≡ []
no_literals (E.Named name) _ _ _ _ _ _ _ _ _ _ _ _ _ _ _ = refl
no_literals (E.Integer value int_type place) _ _ _ _ _ _ _ _ _ _ _ _ _ _ _ = refl
no_literals (E.Character byte place) _ _ _ _ _ _ _ _ _ _ _ _ _ _ _ = refl
no_literals (E.Null place) _ _ _ _ _ _ _ _ _ _ _ _ _ _ _ = refl
no_literals (E.EndOfFile place) _ _ _ _ _ _ _ _ _ _ _ _ _ _ _ = refl
no_literals (E.SizeofExpr' place p operand) _ _ _ _ _ _ _ _ _ h _ _ _ _ _ = absurd (h _ _ (sym (roll-out-Expr (E.SizeofExpr' place p operand)) ∙ ap roll-Expr (E.outs-SizeofExpr' place p operand) ∙ E.rolls-SizeofExpr _ _))
no_literals (E.SizeofType' place p type_name) _ _ _ _ _ _ _ _ _ _ h _ _ _ _ = absurd (h _ _ (sym (roll-out-Expr (E.SizeofType' place p type_name)) ∙ ap roll-Expr (E.outs-SizeofType' place p type_name) ∙ E.rolls-SizeofType _ _))
no_literals (E.Literal bytes place) h _ _ _ _ _ _ _ _ _ _ _ _ _ _ = absurd (h bytes place refl)
no_literals (E.Parenthesized' place p inner) _ h _ _ _ _ _ _ _ _ _ _ _ _ _ = absurd (h _ _ (sym (roll-out-Expr (E.Parenthesized' place p inner)) ∙ ap roll-Expr (E.outs-Parenthesized' place p inner) ∙ E.rolls-Parenthesized _ _))
no_literals (E.Index' p array q index) _ _ h _ _ _ _ _ _ _ _ _ _ _ _ = absurd (h _ _ (sym (roll-out-Expr (E.Index' p array q index)) ∙ ap roll-Expr (E.outs-Index' p array q index) ∙ E.rolls-Index _ _))
no_literals (E.Call' p function open_place shape row) _ _ _ h _ _ _ _ _ _ _ _ _ _ _ = absurd (h _ _ _ (sym (roll-out-Expr (E.Call' p function open_place shape row)) ∙ ap roll-Expr (E.outs-Call' p function open_place shape row) ∙ E.rolls-Call _ _ _))
no_literals (E.Member' p object member) _ _ _ _ h _ _ _ _ _ _ _ _ _ _ = absurd (h _ _ (sym (roll-out-Expr (E.Member' p object member)) ∙ ap roll-Expr (E.outs-Member' p object member) ∙ E.rolls-Member _ _))
no_literals (E.PointerMember' p pointer member) _ _ _ _ _ h _ _ _ _ _ _ _ _ _ = absurd (h _ _ (sym (roll-out-Expr (E.PointerMember' p pointer member)) ∙ ap roll-Expr (E.outs-PointerMember' p pointer member) ∙ E.rolls-PointerMember _ _))
no_literals (E.PostIncrement' p operand) _ _ _ _ _ _ h _ _ _ _ _ _ _ _ = absurd (h _ (sym (roll-out-Expr (E.PostIncrement' p operand)) ∙ ap roll-Expr (E.outs-PostIncrement' p operand) ∙ E.rolls-PostIncrement _))
no_literals (E.PostDecrement' p operand) _ _ _ _ _ _ _ h _ _ _ _ _ _ _ = absurd (h _ (sym (roll-out-Expr (E.PostDecrement' p operand)) ∙ ap roll-Expr (E.outs-PostDecrement' p operand) ∙ E.rolls-PostDecrement _))
no_literals (E.Prefix' operator place p operand) _ _ _ _ _ _ _ _ h _ _ _ _ _ _ = absurd (h _ _ _ (sym (roll-out-Expr (E.Prefix' operator place p operand)) ∙ ap roll-Expr (E.outs-Prefix' operator place p operand) ∙ E.rolls-Prefix _ _ _))
no_literals (E.Cast' place p type_name q operand) _ _ _ _ _ _ _ _ _ _ _ h _ _ _ = absurd (h _ _ _ (sym (roll-out-Expr (E.Cast' place p type_name q operand)) ∙ ap roll-Expr (E.outs-Cast' place p type_name q operand) ∙ E.rolls-Cast _ _ _))
no_literals (E.Binary' operator p left q right) _ _ _ _ _ _ _ _ _ _ _ _ h _ _ = absurd (h _ _ _ (sym (roll-out-Expr (E.Binary' operator p left q right)) ∙ ap roll-Expr (E.outs-Binary' operator p left q right) ∙ E.rolls-Binary _ _ _))
no_literals (E.Conditional' p condition q taken r otherwise) _ _ _ _ _ _ _ _ _ _ _ _ _ h _ = absurd (h _ _ _ (sym (roll-out-Expr (E.Conditional' p condition q taken r otherwise)) ∙ ap roll-Expr (E.outs-Conditional' p condition q taken r otherwise) ∙ E.rolls-Conditional _ _ _))
no_literals (E.Assign' operator p object q value) _ _ _ _ _ _ _ _ _ _ _ _ _ _ h = absurd (h _ _ _ (sym (roll-out-Expr (E.Assign' operator p object q value)) ∙ ap roll-Expr (E.outs-Assign' operator p object q value) ∙ E.rolls-Assign _ _ _))
