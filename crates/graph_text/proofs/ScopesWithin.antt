-- Scopes of blocks.
use Rattle.std.proofs.Common.{◌≡◌, ℕ, ◌+◌, ◌≤◌, List, [], ◌∷◌, ◌++◌, Option, Some, None, length, refl, ap, sym, ◌∙◌, arith}
use Rattle.std.proofs.lemmas.List.{length-append}
use Rattle.run_theory.specs.declared.place.Pos.{Pos}
use Rattle.c_syntax.specs.Trees
use Rattle.c_syntax.specs.Trees.{NameTree, WordsTree, SimpleTree, ParametersTree, InitDeclaratorTree, DeclarationTree, ForTree, BlockTree, ProgramTree}
use Rattle.c_typed.specs.Types.{CType}
use Rattle.c_rules.specs.Names.{Scope, LocalName, entered}
use Rattle.c_rules.specs.Expressions.{words_type}
use Rattle.c_rules.specs.Statements.{with_declared, declare_local, declare_locals, declaration, for_start}
use Rattle.c_rules.specs.Programs.{entered_function, outermost}
use Rattle.c_types_state.specs.NameTables.{State, scope_of, no_state}
use Rattle.c_types_state.specs.Lists.{with_outline}
use Rattle.c_types.specs.Parts.{behind_block}
use Rattle.c_types.specs.Outside.{IsOutside}
use Rattle.c_types.proofs.FunctionScopes.{around-function, outside-again}

-- All but the locals of the innermost block is as there.
abbrev pub Within : Scope → Scope → Type 0
Within there scope = (inner : List LocalName) → record there { inner = inner } ≡ record scope { inner = inner }

within-declared : (name : Option NameTree) (c_type : Option CType) (scope : Scope) → Within (with_declared name c_type scope) scope
within-declared None c_type scope inner = refl
within-declared (Some name) c_type scope inner = refl

within-locals : (place : Pos) (base : Option CType) (trees : List InitDeclaratorTree) (scope : Scope) → Within (declare_locals place base trees scope).scope scope
within-locals place base [] scope inner = refl
within-locals place base (first ∷ others) scope inner =
    within-locals place base others (declare_local place base first scope).scope inner ∙ within-declared _ _ scope inner

within-declaration : (scope : Scope) (tree : DeclarationTree) → Within (declaration scope tree).scope scope
within-declaration scope tree inner = within-locals tree.words.place (words_type scope tree.words).known tree.declarators scope inner

pub within-start : (scope : Scope) (tree : ForTree) → Within (for_start scope tree).scope scope
within-start scope Trees.ForNothing inner = refl
within-start scope (Trees.ForExpression value) inner = refl
within-start scope (Trees.ForDeclaration tree) inner = within-declaration scope tree inner

pub within-block : (scope : Scope) (tree : BlockTree) → Within (behind_block scope tree) scope
within-block scope Trees.Close inner = refl
within-block scope (Trees.Declare tree others) inner = within-block (declaration scope tree).scope others inner ∙ within-declaration scope tree inner
within-block scope (Trees.Perform one others) inner = within-block scope others inner

-- the locals around it
pub outer-within : (there scope : Scope) → Within there (entered scope) → there.outer ≡ scope.inner ++ scope.outer
outer-within there scope within = λ i. (within [] i).outer

-- there are as many locals to go back to
pub leaves-enough : (there scope : Scope) (outer : ℕ) → Within there (entered scope) → outer ≡ length scope.outer → outer ≤ length there.outer
leaves-enough there scope outer within same =
    let long : length there.outer ≡ length scope.inner + length scope.outer = ap length (outer-within there scope within) ∙ length-append scope.inner scope.outer in
    omega arith

-- and the scope is as before, once it was left
pub left-again : (there scope left : Scope) (outer : ℕ) → Within there (entered scope) → outer ≡ length scope.outer
    → ((block around : List LocalName) → there.outer ≡ block ++ around → length around ≡ outer → left ≡ record there { inner = block; outer = around }) → left ≡ scope
left-again there scope left outer within same leaves =
    leaves scope.inner scope.outer (outer-within there scope within) (sym same) ∙ (λ i. record (within scope.inner i) { outer = scope.outer })

-- ---- the words before declarators mean the same behind one of them

words-behind : (words : WordsTree) (name : Option NameTree) (c_type : Option CType) (scope : Scope) → words_type (with_declared name c_type scope) words ≡ words_type scope words
words-behind words None c_type scope = by words.words
  where
    by : (simple : SimpleTree) → words_type (with_declared None c_type scope) (record words { words = simple }) ≡ words_type scope (record words { words = simple })
    by Trees.VoidWord = refl
    by (Trees.IntegerWords int_type) = refl
    by (Trees.StructTag tag) = refl
words-behind words (Some name) c_type scope = by words.words
  where
    by : (simple : SimpleTree) → words_type (with_declared (Some name) c_type scope) (record words { words = simple }) ≡ words_type scope (record words { words = simple })
    by Trees.VoidWord = refl
    by (Trees.IntegerWords int_type) = refl
    by (Trees.StructTag tag) = refl

pub words-kept : (words : WordsTree) (place : Pos) (base : Option CType) (tree : InitDeclaratorTree) (scope : Scope) → words_type (declare_local place base tree scope).scope words ≡ words_type scope words
words-kept words place base tree scope = words-behind words _ _ scope

-- ---- functions

-- the scope of a function is as before, once it was left
pub left-function : (scope left : Scope) (parameters : ParametersTree) (body : BlockTree) (outer : ℕ) → IsOutside scope → outer ≡ 0
    → ((block around : List LocalName) → (behind_block (entered_function scope parameters).scope body).outer ≡ block ++ around → length around ≡ outer
    → left ≡ record (behind_block (entered_function scope parameters).scope body) { inner = block; outer = around })
    → left ≡ scope
left-function scope left parameters body outer outside none leaves =
    let around = around-function scope parameters body [] in
    leaves [] [] (λ i. (around i).outer) (sym none) ∙ (λ i. record (around i) { outer = [] }) ∙ outside-again scope outside

-- where a program begins
pub begins-there : (program : ProgramTree) (state : State) → state ≡ with_outline program.items no_state → scope_of state ≡ outermost program
begins-there program state is = ap scope_of is

pub outermost-outside : (program : ProgramTree) → IsOutside (outermost program)
outermost-outside program = (refl, refl)
