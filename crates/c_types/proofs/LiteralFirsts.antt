-- Literals as initializers, and the forms of lists in braces.
use Rattle.std.proofs.Common.{◌≡◌, ℕ, suc, ◌+◌, false, List, [], ◌∷◌, ◌++◌, slice_get, Some, None, length, get_or, refl, sym, ap, subst, ◌∙◌, arith}
use Rattle.std.proofs.lemmas.Option.{none-some, same_Some}
use Rattle.run_theory.specs.declared.place.Pos.{Pos}
use Rattle.c_syntax.specs.declared.expr.Expr.{Expr}
use Rattle.c_syntax.specs.declared.expr.Expr.TheVariants as E
use Rattle.c_syntax.specs.declared.declaration.Init.{Init}
use Rattle.c_syntax.specs.Trees as Trees
use Rattle.c_syntax.specs.Trees.{ExprTree, InitTree, InitsTree}
use Rattle.c_syntax.specs.Views.{expr_tree, init_tree, inits_of}
use Rattle.c_typed.specs.Types.{CType}
use Rattle.c_rules.specs.Initializers as rules
use Rattle.c_rules.specs.Expressions.{Initialized}
use Rattle.c_rules.specs.Programs as programs
use Rattle.c_types_expressions.specs.Roles.{length_by}
use Rattle.c_rules.specs.declared.rule.TypeRule.TheVariants as T
use Rattle.c_rules.specs.Names.{Scope}
use Rattle.c_rules.specs.Known.{at}
use Rattle.c_types.specs.FirstValues.{too_many}

-- ---- one expression

pub no_literal : (tree : Expr) → ((bytes : _) (place : _) → tree ≡ E.Literal bytes place → ⊥) → rules.literal_alone (Trees.InitValue (expr_tree tree)) ≡ None
no_literal (E.Literal bytes place) h = absurd (h bytes place refl)
no_literal _ h = refl

-- ---- lists

pub literal-listed : (place : Pos) (tree : ExprTree) → rules.literal_alone (Trees.InitList place (Trees.Inits (Trees.InitValue tree) Trees.NoInits)) ≡ rules.literal_alone (Trees.InitValue tree)
literal-listed place (Trees.Literal bytes there) = refl
literal-listed place _ = refl

-- neither a literal nor a text
abbrev pub NotText : InitsTree → Type 0
NotText inits = (place : Pos) (element : CType) → (rules.literal_alone (Trees.InitList place inits) ≡ None) × (rules.is_text element inits ≡ false)

not_text-none : NotText Trees.NoInits
not_text-none place element = (refl, refl)

not_text-more : (init next : InitTree) (rest : InitsTree) → NotText (Trees.Inits init (Trees.Inits next rest))
not_text-more (Trees.InitValue (Trees.Literal bytes there)) next rest place element = (refl, refl)
not_text-more _ next rest place element = (refl, refl)

not_text-list : (there : Pos) (inits : InitsTree) → NotText (Trees.Inits (Trees.InitList there inits) Trees.NoInits)
not_text-list there inits place element = (refl, refl)

pub not_text-many : (inits : List Init) → (length inits ≡ 1 → ⊥) → NotText (inits_of inits)
not_text-many [] h = not_text-none
not_text-many (init ∷ []) h = absurd (h refl)
not_text-many (init ∷ next ∷ rest) h = not_text-more (init_tree init) (init_tree next) (inits_of rest)

-- the one that a list has
pub one-listed : (inits : List Init) (init : Init) → length inits ≡ 1 → init ≡ get_or inits 0 init → inits_of inits ≡ Trees.Inits (init_tree init) Trees.NoInits
one-listed [] init one is = absurd (omega arith)
one-listed (first ∷ []) init one is = ap (λ i. Trees.Inits (init_tree i) Trees.NoInits) (sym is)
one-listed (first ∷ next ∷ rest) init one is = absurd (omega arith)

pub not_text-listed : (inits : List Init) (init : Init) (there : Pos) (own : InitsTree) → length inits ≡ 1 → init ≡ get_or inits 0 init → init_tree init ≡ Trees.InitList there own → NotText (inits_of inits)
not_text-listed inits init there own one is list =
    subst (λ (tree : InitsTree). NotText tree) (sym (one-listed inits init one is ∙ ap (λ tree. Trees.Inits tree Trees.NoInits) list)) (not_text-list there own)

-- ---- lengths

pub count-length : (inits : List Init) → rules.count (inits_of inits) ≡ length inits
count-length [] = refl
count-length (init ∷ rest) = ap suc (count-length rest)

pub role-literal : (init : InitTree) (bytes : List ℕ) (plain size : ℕ) → Some bytes ≡ rules.literal_alone init → plain ≡ rules.plain_length init → size ≡ length bytes + 1 → Initialized (length_by (Some size) plain) ≡ programs.role_of (Some init)
role-literal init bytes plain size is plain_is size_is =
    (λ i. Initialized (λ element. length_by (Some (sized i)) (plain_is i) element)) ∙ (λ i. Initialized (λ element. rules.length_by init (is i) element))
  where
    sized : size ≡ suc (length bytes)
    sized = omega arith

pub role-plain : (init : InitTree) (plain : ℕ) → None ≡ rules.literal_alone init → plain ≡ rules.plain_length init → Initialized (length_by None plain) ≡ programs.role_of (Some init)
role-plain init plain is plain_is =
    (λ i. Initialized (λ element. length_by None (plain_is i) element)) ∙ (λ i. Initialized (λ element. rules.length_by init (is i) element))

-- ---- more than there is room for

pub too_many-first : (scope : Scope) (inits : List Init) (first : Init) → slice_get inits 0 ≡ Some first → at T.T18 (rules.init_place (init_tree first)) ++ rules.found_within_all scope (inits_of inits) ≡ too_many scope (inits_of inits)
too_many-first scope [] first e = absurd (none-some first e)
too_many-first scope (init ∷ rest) first e = λ i. at T.T18 (rules.init_place (init_tree (sym (same_Some init first e) i))) ++ rules.found_within_all scope (inits_of (init ∷ rest))

pub too_many-none : (scope : Scope) (inits : List Init) → slice_get inits 0 ≡ None → rules.found_within_all scope (inits_of inits) ≡ too_many scope (inits_of inits)
too_many-none scope [] e = refl
too_many-none scope (init ∷ rest) e = absurd (none-some init (sym e))
