-- The marks that a pass adds.
use Rattle.std.proofs.Common.{◌≡◌, ℕ, ◌+◌, ◌<◌, Bool, List, [], ◌∷◌, ◌++◌, length, get_or, drop, map, Option, Box, Vec, Global, Result, OnOk, refl, sym, ap, subst, add-one, ◌∙◌}
use Rattle.std.proofs.lemmas.List.{append-nil, append_assoc, map-append, drop_more}
use Rattle.std.proofs.lemmas.Result.{on_ok_weaker}
use Rattle.std.specs.Prelude.{slice_get}
use Rattle.c_syntax.specs.Trees
use Rattle.c_syntax.specs.Views.{expr_tree, arguments_of, type_tree, optional_of, declarator_tree, direct_tree, suffixes_of, parameters_of, block_of, switch_of}
use Rattle.c_syntax.proofs.SyntaxRows.{type_tree-name, direct_tree-nested, suffixes_of-function, parameters_of-parameter}
use Rattle.c_syntax.specs.declared.expr.Expr.{Expr, roll-Expr, roll-out-Expr}
use Rattle.c_syntax.specs.declared.expr.Expr.TheVariants as E
use Rattle.c_syntax.specs.declared.expr.Direct as memory_direct
use Rattle.c_syntax.specs.declared.expr.Direct.{roll-Direct, roll-out-Direct}
use Rattle.c_syntax.specs.declared.expr.Direct.TheVariants as D
use Rattle.c_syntax.specs.declared.expr.Suffix as memory_suffix
use Rattle.c_syntax.specs.declared.expr.Suffix.TheVariants as S
use Rattle.c_syntax.specs.declared.expr.Declarator as memory_declarator
use Rattle.c_syntax.specs.declared.expr.Parameter as memory_parameter
use Rattle.c_syntax.specs.declared.expr.Parameter.{out-Parameter, roll-out-Parameter}
use Rattle.c_syntax.specs.declared.expr.TypeName as memory_type
use Rattle.c_syntax.specs.declared.expr.TypeName.{out-TypeName, roll-out-TypeName}
use Rattle.c_syntax.specs.declared.statement.BlockItem.{BlockItem}
use Rattle.c_syntax.specs.declared.statement.BlockItem.TheVariants as B
use Rattle.c_syntax.specs.declared.statement.SwitchItem.{SwitchItem}
use Rattle.c_syntax.specs.declared.statement.SwitchItem.TheVariants as W
use Rattle.c_rules.specs.Names.{Scope}
use Rattle.c_rules.specs.Expressions.{expr}
use Rattle.c_types.specs.Parts.{behind_block, item_scope}
use Rattle.graph_text.specs.declared.marks.Mark.{Mark}
use Rattle.graph_text.specs.declared.marks.Marker.{Marker}
use Rattle.graph_text.specs.Marks.{Marked, call_mark, called_pointers, marks_in, argument_mark, marks_in_arguments, marks_in_type, marks_in_optional, marks_in_declarator, marks_in_direct, marks_in_suffixes, marks_in_parameters, marks_in_block, marks_in_switch}
use Rattle.graph_text.specs.Adding.{mark_of, Adds, call_marks, suffix_marks, item_marks, part_marks}

pub adds-none : (now : Marker) → Adds [] now now
adds-none now = sym (append-nil (map mark_of now.marks.items))

-- where the marks are as before
pub adds-same : (old new : Marker) → new.marks.items ≡ old.marks.items → Adds [] old new
adds-same old new same = ap (map mark_of) same ∙ adds-none old

pub adds-one : (old new : Marker) (one : Mark) → new.marks.items ≡ old.marks.items ++ one ∷ [] → Adds (mark_of one ∷ []) old new
adds-one old new one pushed = ap (map mark_of) pushed ∙ map-append mark_of old.marks.items (one ∷ [])

pub adds-then : (first then : List Marked) (old now new : Marker) → Adds first old now → Adds then now new → Adds (first ++ then) old new
adds-then first then old now new h k = k ∙ ap (λ ms. ms ++ then) h ∙ append_assoc (map mark_of old.marks.items) first then

-- between entering a block and leaving it
pub adds-between : (marks : List Marked) (s0 s1 s2 s3 : Marker) → s1.marks ≡ s0.marks → Adds marks s1 s2 → s3.marks ≡ s2.marks → Adds marks s0 s3
adds-between marks s0 s1 s2 s3 before adds behind =
    ap (λ (ms : Vec Mark Global). map mark_of ms.items) behind ∙ adds ∙ ap (λ (ms : Vec Mark Global). map mark_of ms.items ++ marks) before

-- a call: what is called, the call itself, and its arguments
pub adds-call : (scope : Scope) (is_done : Bool) (function : Trees.ExprTree) (arguments : Trees.ArgumentsTree) (mark : Mark) (pointers : List Bool) (s0 s1 s2 s3 s4 : Marker)
    → Adds (marks_in scope is_done function) s0 s1 → s2.marks ≡ s1.marks → mark_of mark ≡ call_mark scope is_done function (expr scope function).known → Adds (mark_of mark ∷ []) s2 s3
    → pointers ≡ called_pointers (expr scope function).known → Adds (marks_in_arguments scope is_done pointers 0 arguments) s3 s4 → Adds (call_marks scope is_done function arguments) s0 s4
adds-call scope is_done function arguments mark pointers s0 s1 s2 s3 s4 called same is own are passed =
    let begun : Adds (mark_of mark ∷ []) s1 s3 = own ∙ ap (λ (ms : Vec Mark Global). map mark_of ms.items ++ mark_of mark ∷ []) same in
    let rest = adds-then (mark_of mark ∷ []) (marks_in_arguments scope is_done pointers 0 arguments) s1 s3 s4 begun passed in
    adds-then (marks_in scope is_done function) (call_mark scope is_done function (expr scope function).known ∷ marks_in_arguments scope is_done (called_pointers (expr scope function).known) 0 arguments) s0 s1 s4 called
    (rest ∙ (λ i. map mark_of s1.marks.items ++ is i ∷ marks_in_arguments scope is_done (are i) 0 arguments))

-- where all is added in one scope
pub adds-of : {T E : Type 0} (marks others : List Marked) (old new : Marker) (result : Result T E) → marks ≡ others → OnOk result (Adds marks old new) → OnOk result (Adds others old new)
adds-of marks others old new result same = on_ok_weaker result (subst (λ ms. Adds ms old new) same)

-- ---- loops

-- the item at a place, and those behind it
pub at-here : {A : Type 0} (items : List A) (here : ℕ) (item : A) → here < length items → item ≡ get_or items here item → drop here items ≡ item ∷ drop (here + 1) items
at-here items here item within is = drop_more items here item within ∙ ap (λ i. i ∷ drop (here + 1) items) (sym is)

-- what was added so far, and then what is left, is what all have
abbrev pub SoFar : List Marked → List Marked → Marker → Marker → Type 0
SoFar all left old now = map mark_of now.marks.items ++ left ≡ map mark_of old.marks.items ++ all

pub so_far-more : (all left one rest : List Marked) (old now new : Marker) → left ≡ one ++ rest → SoFar all left old now → Adds one now new → SoFar all rest old new
so_far-more all left one rest old now new split far adds =
    ap (λ ms. ms ++ rest) adds ∙ append_assoc (map mark_of now.marks.items) one rest ∙ ap (λ ms. map mark_of now.marks.items ++ ms) (sym split) ∙ far

pub so_far-all : (all left : List Marked) (old now : Marker) → left ≡ [] → SoFar all left old now → Adds all old now
so_far-all all left old now none far = sym (append-nil (map mark_of now.marks.items)) ∙ ap (λ ms. map mark_of now.marks.items ++ ms) (sym none) ∙ far

-- ---- what one item has

pub arguments-more : (scope : Scope) (is_done : Bool) (pointers : List Bool) (items : List Expr) (here : ℕ) (item : Expr) (is_pointer : Option Bool) → here < length items → item ≡ get_or items here item
    → is_pointer ≡ slice_get pointers here
    → marks_in_arguments scope is_done pointers here (arguments_of (drop here items))
    ≡ (argument_mark is_done is_pointer ++ marks_in scope is_done (expr_tree item)) ++ marks_in_arguments scope is_done pointers (here + 1) (arguments_of (drop (here + 1) items))
arguments-more scope is_done pointers items here item is_pointer within is found =
    let rest = drop (here + 1) items in
    ap (λ items. marks_in_arguments scope is_done pointers here (arguments_of items)) (at-here items here item within is)
    ∙ (λ i. argument_mark is_done (sym found i) ++ marks_in scope is_done (expr_tree item) ++ marks_in_arguments scope is_done pointers (sym (add-one here) i) (arguments_of rest))

pub block-more : (scope : Scope) (item : BlockItem) (rest : List BlockItem) → marks_in_block scope (block_of (item ∷ rest)) ≡ item_marks scope item ++ marks_in_block (item_scope scope item) (block_of rest)
block-more scope (B.Declaration declaration) rest = refl
block-more scope (B.Statement stmt) rest = refl

pub block-behind : (scope : Scope) (item : BlockItem) (rest : List BlockItem) → behind_block scope (block_of (item ∷ rest)) ≡ behind_block (item_scope scope item) (block_of rest)
block-behind scope (B.Declaration declaration) rest = refl
block-behind scope (B.Statement stmt) rest = refl

pub switch-more : (scope : Scope) (item : SwitchItem) (rest : List SwitchItem) → marks_in_switch scope (switch_of (item ∷ rest)) ≡ part_marks scope item ++ marks_in_switch scope (switch_of rest)
switch-more scope (W.Case place value) rest = refl
switch-more scope (W.Default place) rest = refl
switch-more scope (W.Statement stmt) rest = refl

pub suffixes-more : (scope : Scope) (item : memory_suffix.Suffix) (rest : List memory_suffix.Suffix) → marks_in_suffixes scope (suffixes_of (item ∷ rest)) ≡ suffix_marks scope item ++ marks_in_suffixes scope (suffixes_of rest)
suffixes-more scope (S.Array' length) rest = refl
suffixes-more scope (S.Function' shape parameters) rest = refl

-- a parameter's own declarator
abbrev pub in_optional : Scope → Option memory_declarator.Declarator → List Marked
in_optional scope declarator = marks_in_optional scope (optional_of declarator)

pub parameters-more : (scope : Scope) (item : memory_parameter.Parameter) (rest : List memory_parameter.Parameter)
    → marks_in_parameters scope (parameters_of (item ∷ rest)) ≡ in_optional scope (out-Parameter item).declarator ++ marks_in_parameters scope (parameters_of rest)
parameters-more scope item rest =
    ap (λ p. marks_in_parameters scope (parameters_of (p ∷ rest))) (sym (roll-out-Parameter item)) ∙ ap (marks_in_parameters scope) (parameters_of-parameter (out-Parameter item).simple (out-Parameter item).declarator rest)

pub suffix-function : (scope : Scope) (parameters : Vec memory_parameter.Parameter Global) → suffix_marks scope (S.Function parameters) ≡ marks_in_parameters scope (parameters_of parameters.items)
suffix-function scope parameters =
    sym (append-nil (suffix_marks scope (S.Function parameters))) ∙ sym (suffixes-more scope (S.Function parameters) []) ∙ ap (marks_in_suffixes scope) (suffixes_of-function parameters [])
    ∙ append-nil (marks_in_parameters scope (parameters_of parameters.items))

-- a declarator that is not nested, and one that is
pub direct-flat : (scope : Scope) (direct : memory_direct.Direct) → ((inner : Box memory_declarator.Declarator Global) → direct ≡ D.Nested inner → ⊥) → marks_in_direct scope (direct_tree direct) ≡ []
direct-flat scope (D.Named name) h = refl
direct-flat scope D.Nothing h = refl
direct-flat scope (D.Nested' q stars direct shape suffixes) h =
    absurd (h _ (sym (roll-out-Direct (D.Nested' q stars direct shape suffixes)) ∙ ap roll-Direct (D.outs-Nested' q stars direct shape suffixes) ∙ D.rolls-Nested _))

pub direct-nested : (scope : Scope) (direct : memory_direct.Direct) (inner : Box memory_declarator.Declarator Global) (read : memory_declarator.Declarator) → direct ≡ D.Nested inner → read ≡ inner.value
    → marks_in_direct scope (direct_tree direct) ≡ marks_in_declarator scope (declarator_tree read)
direct-nested scope direct inner read is same =
    ap (λ (direct : memory_direct.Direct). marks_in_direct scope (direct_tree direct)) is ∙ ap (marks_in_direct scope) (direct_tree-nested inner) ∙ ap (λ (d : memory_declarator.Declarator). marks_in_declarator scope (declarator_tree d)) (sym same)

-- a type's name
pub type-name : (scope : Scope) (t : memory_type.TypeName) → marks_in_type scope (type_tree t) ≡ in_optional scope (out-TypeName t).declarator
type-name scope t = ap (marks_in_type scope) (ap type_tree (sym (roll-out-TypeName t)) ∙ type_tree-name (out-TypeName t).simple (out-TypeName t).declarator)

-- ---- an expression that has none

pub no_marks : (scope : Scope) (is_done : Bool) (tree : Expr)
    → ((place : _) (inner : _) → tree ≡ E.Parenthesized place inner → ⊥)
    → ((array : _) (index : _) → tree ≡ E.Index array index → ⊥)
    → ((function : _) (at : _) (arguments : _) → tree ≡ E.Call function at arguments → ⊥)
    → ((object : _) (member : _) → tree ≡ E.Member object member → ⊥)
    → ((pointer : _) (member : _) → tree ≡ E.PointerMember pointer member → ⊥)
    → ((operand : _) → tree ≡ E.PostIncrement operand → ⊥)
    → ((operand : _) → tree ≡ E.PostDecrement operand → ⊥)
    → ((operator : _) (place : _) (operand : _) → tree ≡ E.Prefix operator place operand → ⊥)
    → ((place : _) (operand : _) → tree ≡ E.SizeofExpr place operand → ⊥)
    → ((place : _) (type_name : _) → tree ≡ E.SizeofType place type_name → ⊥)
    → ((place : _) (type_name : _) (operand : _) → tree ≡ E.Cast place type_name operand → ⊥)
    → ((operator : _) (left : _) (right : _) → tree ≡ E.Binary operator left right → ⊥)
    → ((condition : _) (taken : _) (otherwise : _) → tree ≡ E.Conditional condition taken otherwise → ⊥)
    → ((operator : _) (object : _) (value : _) → tree ≡ E.Assign operator object value → ⊥)
    → marks_in scope is_done (expr_tree tree) ≡ []
no_marks scope is_done (E.Named name) _ _ _ _ _ _ _ _ _ _ _ _ _ _ = refl
no_marks scope is_done (E.Integer value int_type place) _ _ _ _ _ _ _ _ _ _ _ _ _ _ = refl
no_marks scope is_done (E.Character byte place) _ _ _ _ _ _ _ _ _ _ _ _ _ _ = refl
no_marks scope is_done (E.Null place) _ _ _ _ _ _ _ _ _ _ _ _ _ _ = refl
no_marks scope is_done (E.EndOfFile place) _ _ _ _ _ _ _ _ _ _ _ _ _ _ = refl
no_marks scope is_done (E.SizeofExpr' place p operand) _ _ _ _ _ _ _ _ h _ _ _ _ _ = absurd (h _ _ (sym (roll-out-Expr (E.SizeofExpr' place p operand)) ∙ ap roll-Expr (E.outs-SizeofExpr' place p operand) ∙ E.rolls-SizeofExpr _ _))
no_marks scope is_done (E.SizeofType' place p type_name) _ _ _ _ _ _ _ _ _ h _ _ _ _ = absurd (h _ _ (sym (roll-out-Expr (E.SizeofType' place p type_name)) ∙ ap roll-Expr (E.outs-SizeofType' place p type_name) ∙ E.rolls-SizeofType _ _))
no_marks scope is_done (E.Literal bytes place) _ _ _ _ _ _ _ _ _ _ _ _ _ _ = refl
no_marks scope is_done (E.Parenthesized' place p inner) h _ _ _ _ _ _ _ _ _ _ _ _ _ = absurd (h _ _ (sym (roll-out-Expr (E.Parenthesized' place p inner)) ∙ ap roll-Expr (E.outs-Parenthesized' place p inner) ∙ E.rolls-Parenthesized _ _))
no_marks scope is_done (E.Index' p array q index) _ h _ _ _ _ _ _ _ _ _ _ _ _ = absurd (h _ _ (sym (roll-out-Expr (E.Index' p array q index)) ∙ ap roll-Expr (E.outs-Index' p array q index) ∙ E.rolls-Index _ _))
no_marks scope is_done (E.Call' p function open_place shape row) _ _ h _ _ _ _ _ _ _ _ _ _ _ = absurd (h _ _ _ (sym (roll-out-Expr (E.Call' p function open_place shape row)) ∙ ap roll-Expr (E.outs-Call' p function open_place shape row) ∙ E.rolls-Call _ _ _))
no_marks scope is_done (E.Member' p object member) _ _ _ h _ _ _ _ _ _ _ _ _ _ = absurd (h _ _ (sym (roll-out-Expr (E.Member' p object member)) ∙ ap roll-Expr (E.outs-Member' p object member) ∙ E.rolls-Member _ _))
no_marks scope is_done (E.PointerMember' p pointer member) _ _ _ _ h _ _ _ _ _ _ _ _ _ = absurd (h _ _ (sym (roll-out-Expr (E.PointerMember' p pointer member)) ∙ ap roll-Expr (E.outs-PointerMember' p pointer member) ∙ E.rolls-PointerMember _ _))
no_marks scope is_done (E.PostIncrement' p operand) _ _ _ _ _ h _ _ _ _ _ _ _ _ = absurd (h _ (sym (roll-out-Expr (E.PostIncrement' p operand)) ∙ ap roll-Expr (E.outs-PostIncrement' p operand) ∙ E.rolls-PostIncrement _))
no_marks scope is_done (E.PostDecrement' p operand) _ _ _ _ _ _ h _ _ _ _ _ _ _ = absurd (h _ (sym (roll-out-Expr (E.PostDecrement' p operand)) ∙ ap roll-Expr (E.outs-PostDecrement' p operand) ∙ E.rolls-PostDecrement _))
no_marks scope is_done (E.Prefix' operator place p operand) _ _ _ _ _ _ _ h _ _ _ _ _ _ = absurd (h _ _ _ (sym (roll-out-Expr (E.Prefix' operator place p operand)) ∙ ap roll-Expr (E.outs-Prefix' operator place p operand) ∙ E.rolls-Prefix _ _ _))
no_marks scope is_done (E.Cast' place p type_name q operand) _ _ _ _ _ _ _ _ _ _ h _ _ _ = absurd (h _ _ _ (sym (roll-out-Expr (E.Cast' place p type_name q operand)) ∙ ap roll-Expr (E.outs-Cast' place p type_name q operand) ∙ E.rolls-Cast _ _ _))
no_marks scope is_done (E.Binary' operator p left q right) _ _ _ _ _ _ _ _ _ _ _ h _ _ = absurd (h _ _ _ (sym (roll-out-Expr (E.Binary' operator p left q right)) ∙ ap roll-Expr (E.outs-Binary' operator p left q right) ∙ E.rolls-Binary _ _ _))
no_marks scope is_done (E.Conditional' p condition q taken r otherwise) _ _ _ _ _ _ _ _ _ _ _ _ h _ = absurd (h _ _ _ (sym (roll-out-Expr (E.Conditional' p condition q taken r otherwise)) ∙ ap roll-Expr (E.outs-Conditional' p condition q taken r otherwise) ∙ E.rolls-Conditional _ _ _))
no_marks scope is_done (E.Assign' operator p object q value) _ _ _ _ _ _ _ _ _ _ _ _ _ h = absurd (h _ _ _ (sym (roll-out-Expr (E.Assign' operator p object q value)) ∙ ap roll-Expr (E.outs-Assign' operator p object q value) ∙ E.rolls-Assign _ _ _))
