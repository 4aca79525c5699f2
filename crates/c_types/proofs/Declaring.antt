-- The parameters of a function's own list.
use Rattle.std.proofs.Common.{◌≡◌, Bool, if◌then◌else◌, List, ◌∷◌, Box, Vec, Global, refl, sym, ap, ◌∙◌}
use Rattle.c_syntax.specs.declared.expr.Declarator.{Declarator}
use Rattle.c_syntax.specs.declared.expr.Parameter.{Parameter}
use Rattle.c_syntax.specs.declared.expr.Direct.{Direct, roll-Direct, roll-out-Direct}
use Rattle.c_syntax.specs.declared.expr.Direct.TheVariants as D
use Rattle.c_syntax.specs.declared.expr.Suffix.{Suffix}
use Rattle.c_syntax.specs.declared.expr.Suffix.TheVariants as S
use Rattle.c_syntax.specs.Trees.{SuffixesTree}
use Rattle.c_syntax.specs.Views.{parameters_of, direct_tree, suffixes_of, declarator_tree}
use Rattle.c_syntax.proofs.SyntaxRows.{direct_tree-nested, suffixes_of-function}
use Rattle.c_rules.specs.Expressions.{adds}
use Rattle.c_rules.specs.Programs.{own_parameters, direct_parameters, first_parameters}

-- a list that follows first
pub first-list : (suffixes others : List Suffix) (first : Suffix) (parameters : Vec Parameter Global) → suffixes ≡ first ∷ others → first ≡ S.Function parameters → parameters_of parameters.items ≡ first_parameters (suffixes_of suffixes)
first-list suffixes others first parameters is is_list =
    sym (ap (λ (suffixes : List Suffix). first_parameters (suffixes_of suffixes)) (is ∙ ap (λ (first : Suffix). first ∷ others) is_list) ∙ ap first_parameters (suffixes_of-function parameters others))

-- in parentheses, by what stands there
pub nested-own : (direct : Direct) (inner : Box Declarator Global) (suffixes : SuffixesTree) (b : Bool) → direct ≡ D.Nested inner → adds (declarator_tree inner.value) ≡ b
    → (if b then own_parameters (declarator_tree inner.value) else first_parameters suffixes) ≡ direct_parameters (direct_tree direct) suffixes
nested-own direct inner suffixes b is same =
    ap (λ b. if b then own_parameters (declarator_tree inner.value) else first_parameters suffixes) (sym same)
    ∙ sym (ap (λ tree. direct_parameters tree suffixes) (ap direct_tree is ∙ direct_tree-nested inner))

-- and without them
pub plain-own : (direct : Direct) (suffixes : SuffixesTree) → ((inner : Box Declarator Global) → direct ≡ D.Nested inner → ⊥) → first_parameters suffixes ≡ direct_parameters (direct_tree direct) suffixes
plain-own direct suffixes h = by direct h
  where
    by : (direct : Direct) → ((inner : Box Declarator Global) → direct ≡ D.Nested inner → ⊥) → first_parameters suffixes ≡ direct_parameters (direct_tree direct) suffixes
    by (D.Named name) h = refl
    by D.Nothing h = refl
    by (D.Nested' q stars direct shape rest) h =
        absurd (h _ (sym (roll-out-Direct (D.Nested' q stars direct shape rest)) ∙ ap roll-Direct (D.outs-Nested' q stars direct shape rest) ∙ D.rolls-Nested _))
