-- What is known of what is called.
use Rattle.std.proofs.Common.{◌≡◌, Bool, false, List, [], ◌∷◌, ◌++◌, map, Option, Some, None, Result, Ok, Err, IfOk, OnOk, refl, ap, sym, ◌∙◌}
use Rattle.std.proofs.lemmas.List.{append-nil, append_assoc}
use Rattle.c_syntax.specs.Views.{expr_tree}
use Rattle.c_syntax.specs.declared.expr.Expr.{Expr, roll-Expr, roll-out-Expr}
use Rattle.c_syntax.specs.declared.expr.Expr.TheVariants as E
use Rattle.c_typed.specs.declared.c_type.CType as number
use Rattle.c_typed.specs.Types.{CTypes, NoTypes, MoreTypes, is_pointer}
use Rattle.c_typed.specs.Table.{Interned, Stands, type_in}
use Rattle.c_rules.specs.Names.{Scope}
use Rattle.c_rules.specs.Known.{Known}
use Rattle.c_rules.specs.Elaborated.{types_in as listed}
use Rattle.c_types_state.specs.declared.known.Known as memory_known
use Rattle.c_types_state.specs.Finding.{IsOption, IsExpr}
use Rattle.graph_text.specs.Marks.{called_type, returns_pointer, pointers_of, gives_pointer, called_pointers, calls_malloc}

-- what holds in any case, and what follows where memory suffices
pub holds-anyway : {T E P : Type 0} (result : Result T E) → P → OnOk result P
holds-anyway (Ok value) p = p
holds-anyway (Err error) p = tt

pub follows : {T E : Type 0} (P Q : T → Type 0) (result : Result T E) → ((value : T) → P value → Q value) → IfOk result P → IfOk result Q
follows P Q (Ok value) h p = h value p
follows P Q (Err error) h p = tt

module _ (table : Interned) where
  pub known-stands : (known : memory_known.Known) (found : Option Known) → IsOption (IsExpr table) (Some known) found → Stands table known.c_type
  known-stands known (Some k) is = is.0.0
  known-stands known None is = absurd is

  pub known-gives : (known : memory_known.Known) (found : Option Known) → IsOption (IsExpr table) (Some known) found
      → returns_pointer (called_type (type_in table known.c_type)) ≡ gives_pointer found
  known-gives known (Some k) is = ap (λ (k : Known). returns_pointer (called_type k.c_type)) is.1
  known-gives known None is = absurd is

  pub known-pointers : (known : memory_known.Known) (found : Option Known) → IsOption (IsExpr table) (Some known) found
      → pointers_of (called_type (type_in table known.c_type)) ≡ called_pointers found
  known-pointers known (Some k) is = ap (λ (k : Known). pointers_of (called_type k.c_type)) is.1
  known-pointers known None is = absurd is

  pub unknown-gives : (found : Option Known) → IsOption (IsExpr table) None found → false ≡ gives_pointer found
  unknown-gives (Some k) is = absurd is
  unknown-gives None is = refl

  pub unknown-pointers : (found : Option Known) → IsOption (IsExpr table) None found → [] ≡ called_pointers found
  unknown-pointers (Some k) is = absurd is
  unknown-pointers None is = refl

-- what is no name, and not in parentheses
pub no_name : (scope : Scope) (tree : Expr) → ((name : _) → tree ≡ E.Named name → ⊥) → ((place : _) (inner : _) → tree ≡ E.Parenthesized place inner → ⊥)
    → calls_malloc scope (expr_tree tree) ≡ false
no_name scope (E.Named name) h _ = absurd (h name refl)
no_name scope (E.Integer value int_type place) _ _ = refl
no_name scope (E.Character byte place) _ _ = refl
no_name scope (E.Literal bytes place) _ _ = refl
no_name scope (E.Null place) _ _ = refl
no_name scope (E.EndOfFile place) _ _ = refl
no_name scope (E.Parenthesized' place p inner) _ h = absurd (h _ _ (sym (roll-out-Expr (E.Parenthesized' place p inner)) ∙ ap roll-Expr (E.outs-Parenthesized' place p inner) ∙ E.rolls-Parenthesized _ _))
no_name scope (E.Index' p array q index) _ _ = refl
no_name scope (E.Call' p function open_place shape row) _ _ = refl
no_name scope (E.Member' p object member) _ _ = refl
no_name scope (E.PointerMember' p pointer member) _ _ = refl
no_name scope (E.PostIncrement' p operand) _ _ = refl
no_name scope (E.PostDecrement' p operand) _ _ = refl
no_name scope (E.Prefix' operator place p operand) _ _ = refl
no_name scope (E.SizeofExpr' place p operand) _ _ = refl
no_name scope (E.SizeofType' place p type_name) _ _ = refl
no_name scope (E.Cast' place p type_name q operand) _ _ = refl
no_name scope (E.Binary' operator p left q right) _ _ = refl
no_name scope (E.Conditional' p condition q taken r otherwise) _ _ = refl
no_name scope (E.Assign' operator p object q value) _ _ = refl

-- ---- which parameters are pointers

-- the first of those that are left
pub pointers-more : (table : Interned) (items pushed whole : List Bool) (first : number.CType) (one : Bool) (list others : CTypes) → pushed ≡ items ++ one ∷ [] → one ≡ is_pointer (type_in table first)
    → list ≡ MoreTypes (type_in table first) others → items ++ map is_pointer (listed list) ≡ whole → pushed ++ map is_pointer (listed others) ≡ whole
pointers-more table items pushed whole first one list others is own split far =
    ap (λ ps. ps ++ map is_pointer (listed others)) is ∙ append_assoc items (one ∷ []) (map is_pointer (listed others)) ∙ ap (λ one. items ++ one ∷ map is_pointer (listed others)) own
    ∙ ap (λ list. items ++ map is_pointer (listed list)) (sym split) ∙ far

-- none is left
pub pointers-all : (items whole : List Bool) (list : CTypes) → list ≡ NoTypes → items ++ map is_pointer (listed list) ≡ whole → items ≡ whole
pointers-all items whole list none far = sym (append-nil items) ∙ ap (λ list. items ++ map is_pointer (listed list)) (sym none) ∙ far
