-- Tags that are listed one behind another.
use Rattle.std.proofs.Common.{◌≡◌, ℕ, ◌+◌, ◌<◌, ◌≤◌, List, [], ◌∷◌, ◌++◌, if◌then◌else◌, length, drop, get_or, map, option_map, Option, Some, None, Box, Global, refl, sym, ap, ◌∙◌}
use Rattle.std.proofs.lemmas.List.{drop_all, drop_more}
use Rattle.c_syntax.specs.declared.expr.Expr as memory_expr
use Rattle.c_syntax.specs.declared.expr.Expr.{roll-Expr, roll-out-Expr}
use Rattle.c_syntax.specs.declared.expr.Expr.TheVariants as E
use Rattle.c_syntax.specs.declared.expr.Direct as memory_direct
use Rattle.c_syntax.specs.declared.expr.Direct.{roll-Direct, roll-out-Direct}
use Rattle.c_syntax.specs.declared.expr.Direct.TheVariants as D
use Rattle.c_syntax.specs.declared.expr.Suffix as memory_suffix
use Rattle.c_syntax.specs.declared.expr.Suffix.TheVariants as S
use Rattle.c_syntax.specs.declared.expr.Declarator as memory_declarator
use Rattle.c_syntax.specs.declared.expr.TypeName as memory_type
use Rattle.c_syntax.specs.declared.expr.TypeName.{out-TypeName, roll-out-TypeName}
use Rattle.c_syntax.specs.declared.declaration.Init as memory_init
use Rattle.c_syntax.specs.declared.declaration.InitDeclarator as memory_init_declarator
use Rattle.c_syntax.specs.declared.declaration.Member as memory_member
use Rattle.c_syntax.specs.declared.declaration.Item.{Item}
use Rattle.c_syntax.specs.declared.declaration.Item.TheVariants as P
use Rattle.c_syntax.specs.Trees
use Rattle.c_syntax.specs.Trees.{NameTree}
use Rattle.c_syntax.specs.Views.{type_tree, direct_tree, words_tree, optional_of, arguments_of, suffixes_of, inits_of, expr_tree, init_tree, declarator_tree, member_tree, init_declarator_tree, base_tree, item_tree}
use Rattle.c_syntax.proofs.SyntaxRows.{type_tree-name, direct_tree-nested}
use Rattle.c_typed.specs.Names.{contains}
use Rattle.c_rules.specs.Expressions.{declared_name}
use Rattle.c_types_state.specs.NameTables.{State}
use Rattle.c_rules.specs.Programs.{first_places, each_once, has_tag, tags_in_direct, tag_of, tags_in, tags_in_arguments, tags_in_suffixes, tags_in_inits, tags_in_init, tags_in_each, tags_in_members, tags_in_declarator, tags_in_declarators, tags_in_first, tags_in_base, tags_in_items, completed_by, completed_in, defined_in, bytes_of_name}
use Rattle.c_types_state.specs.Lists.{with_tags, with_outline, with_outline_base, suffix_tags}

-- ---- lists one behind another

pub first_places-append : (tags xs ys : List NameTree) → first_places tags (xs ++ ys) ≡ first_places (first_places tags xs) ys
first_places-append tags [] ys = refl
first_places-append tags (x ∷ xs) ys = first_places-append (if has_tag tags x.bytes then tags else tags ++ x ∷ []) xs ys

pub each_once-append : (names xs ys : List (List ℕ)) → each_once names (xs ++ ys) ≡ each_once (each_once names xs) ys
each_once-append names [] ys = refl
each_once-append names (x ∷ xs) ys = each_once-append (if contains names x then names else names ++ x ∷ []) xs ys

pub with-append : (xs ys : List NameTree) (s : State) → with_tags (xs ++ ys) s ≡ with_tags ys (with_tags xs s)
with-append xs ys s = ap (λ (tags : List NameTree). record s { tags = tags }) (first_places-append s.tags xs ys)

-- first these tags, then those
pub tags-then : (xs ys : List NameTree) (s t u : State) → t ≡ with_tags xs s → u ≡ with_tags ys t → u ≡ with_tags (xs ++ ys) s
tags-then xs ys s t u first second = second ∙ ap (with_tags ys) first ∙ sym (with-append xs ys s)

-- ---- what is left of a list

-- What is done of the items behind the index leads to what is done of all.
abbrev pub Left : {A : Type 0} → (List A → State → State) → List A → ℕ → State → State → Type 0
Left all items i start now = all (drop i items) now ≡ all items start

module _ {A : Type 0} (all : List A → State → State) (one : A → State → State) where
  pub left-more : ((a : A) (rest : List A) (s : State) → all (a ∷ rest) s ≡ all rest (one a s)) → (items : List A) (i : ℕ) (a : A) {start s t : State} → i < length items → get_or items i a ≡ a → Left all items i start s → t ≡ one a s → Left all items (i + 1) start t
  left-more law items i a {s = s} lt is before step =
      ap (all (drop (i + 1) items)) step ∙ sym (law a (drop (i + 1) items) s)
      ∙ ap (λ (first : A). all (first ∷ drop (i + 1) items) s) (sym is) ∙ ap (λ (items : List A). all items s) (sym (drop_more items i a lt)) ∙ before

  pub left-end : ((s : State) → all [] s ≡ s) → (items : List A) (i : ℕ) {start s : State} → length items ≤ i → Left all items i start s → s ≡ all items start
  left-end law items i {s = s} end before = sym (law s) ∙ ap (λ (items : List A). all items s) (sym (drop_all i items end)) ∙ before

-- ---- lists of trees

abbrev pub of_arguments : List memory_expr.Expr → State → State
of_arguments arguments s = with_tags (tags_in_arguments (arguments_of arguments)) s

pub arguments-more : (a : memory_expr.Expr) (rest : List memory_expr.Expr) (s : State) → of_arguments (a ∷ rest) s ≡ of_arguments rest (with_tags (tags_in (expr_tree a)) s)
arguments-more a rest s = with-append (tags_in (expr_tree a)) (tags_in_arguments (arguments_of rest)) s

abbrev pub of_suffixes : List memory_suffix.Suffix → State → State
of_suffixes suffixes s = with_tags (tags_in_suffixes (suffixes_of suffixes)) s

pub suffixes-more : (a : memory_suffix.Suffix) (rest : List memory_suffix.Suffix) (s : State) → of_suffixes (a ∷ rest) s ≡ of_suffixes rest (with_tags (suffix_tags a) s)
suffixes-more (S.Array' length) rest s = with-append (suffix_tags (S.Array' length)) (tags_in_suffixes (suffixes_of rest)) s
suffixes-more (S.Function' shape parameters) rest s = refl

abbrev pub of_inits : List memory_init.Init → State → State
of_inits inits s = with_tags (tags_in_inits (inits_of inits)) s

pub inits-more : (a : memory_init.Init) (rest : List memory_init.Init) (s : State) → of_inits (a ∷ rest) s ≡ of_inits rest (with_tags (tags_in_init (init_tree a)) s)
inits-more a rest s = with-append (tags_in_init (init_tree a)) (tags_in_inits (inits_of rest)) s

-- ---- the tags of a type's name

pub type_tree-out : (t : memory_type.TypeName) → type_tree t ≡ Trees.TypeName (words_tree (out-TypeName t).simple) (optional_of (out-TypeName t).declarator)
type_tree-out t = ap type_tree (sym (roll-out-TypeName t)) ∙ type_tree-name (out-TypeName t).simple (out-TypeName t).declarator

-- ---- two parts and three

pub two_parts : (all xs ys : List NameTree) (s t u : State) → all ≡ xs ++ ys → t ≡ with_tags xs s → u ≡ with_tags ys t → u ≡ with_tags all s
two_parts all xs ys s t u is first second = tags-then xs ys s t u first second ∙ ap (λ (tags : List NameTree). with_tags tags s) (sym is)

pub three_parts : (all xs ys zs : List NameTree) (s t u v : State) → all ≡ xs ++ ys ++ zs → t ≡ with_tags xs s → u ≡ with_tags ys t → v ≡ with_tags zs u → v ≡ with_tags all s
three_parts all xs ys zs s t u v is first second third = two_parts all (xs ++ ys) zs s u v is (tags-then xs ys s t u first second) third

-- ---- leaves of the trees

-- an expression of none of these forms has no parts
pub leaf : (tree : memory_expr.Expr)
    → ((place : _) (inner : _) → tree ≡ E.Parenthesized place inner → ⊥)
    → ((array : _) (index : _) → tree ≡ E.Index array index → ⊥)
    → ((function : _) (open_place : _) (arguments : _) → tree ≡ E.Call function open_place arguments → ⊥)
    → ((object : _) (member : _) → tree ≡ E.Member object member → ⊥)
    → ((pointer : _) (member : _) → tree ≡ E.PointerMember pointer member → ⊥)
    → ((operand : _) → tree ≡ E.PostIncrement operand → ⊥)
    → ((operand : _) → tree ≡ E.PostDecrement operand → ⊥)
    → ((operator : _) (place : _) (operand : _) → tree ≡ E.Prefix operator place operand → ⊥)
    → ((place : _) (operand : _) → tree ≡ E.SizeofExpr place operand → ⊥)
    → ((place : _) (type_name : _) → tree ≡ E.SizeofType place type_name → ⊥)
    → ((place : _) (type_name : _) (operand : _) → tree ≡ E.Cast place type_name operand → ⊥)
    → ((operator : _) (left : _) (right : _) → tree ≡ E.Binary operator left right → ⊥)
    → ((condition : _) (taken : _) (otherwise : _) → tree ≡ E.Conditional condition taken otherwise → ⊥)
    → ((operator : _) (object : _) (value : _) → tree ≡ E.Assign operator object value → ⊥)
    → tags_in (expr_tree tree) ≡ []
leaf (E.Named x) h0 h1 h2 h3 h4 h5 h6 h7 h8 h9 h10 h11 h12 h13 = refl
leaf (E.Integer x y z) h0 h1 h2 h3 h4 h5 h6 h7 h8 h9 h10 h11 h12 h13 = refl
leaf (E.Character x y) h0 h1 h2 h3 h4 h5 h6 h7 h8 h9 h10 h11 h12 h13 = refl
leaf (E.Literal x y) h0 h1 h2 h3 h4 h5 h6 h7 h8 h9 h10 h11 h12 h13 = refl
leaf (E.Null x) h0 h1 h2 h3 h4 h5 h6 h7 h8 h9 h10 h11 h12 h13 = refl
leaf (E.EndOfFile x) h0 h1 h2 h3 h4 h5 h6 h7 h8 h9 h10 h11 h12 h13 = refl
leaf (E.Parenthesized' place p inner) h0 h1 h2 h3 h4 h5 h6 h7 h8 h9 h10 h11 h12 h13 = absurd (h0 _ _ (sym (roll-out-Expr (E.Parenthesized' place p inner)) ∙ ap roll-Expr (E.outs-Parenthesized' place p inner) ∙ E.rolls-Parenthesized _ _))
leaf (E.Index' p array q index) h0 h1 h2 h3 h4 h5 h6 h7 h8 h9 h10 h11 h12 h13 = absurd (h1 _ _ (sym (roll-out-Expr (E.Index' p array q index)) ∙ ap roll-Expr (E.outs-Index' p array q index) ∙ E.rolls-Index _ _))
leaf (E.Call' p function open_place shape row) h0 h1 h2 h3 h4 h5 h6 h7 h8 h9 h10 h11 h12 h13 = absurd (h2 _ _ _ (sym (roll-out-Expr (E.Call' p function open_place shape row)) ∙ ap roll-Expr (E.outs-Call' p function open_place shape row) ∙ E.rolls-Call _ _ _))
leaf (E.Member' p object member) h0 h1 h2 h3 h4 h5 h6 h7 h8 h9 h10 h11 h12 h13 = absurd (h3 _ _ (sym (roll-out-Expr (E.Member' p object member)) ∙ ap roll-Expr (E.outs-Member' p object member) ∙ E.rolls-Member _ _))
leaf (E.PointerMember' p pointer member) h0 h1 h2 h3 h4 h5 h6 h7 h8 h9 h10 h11 h12 h13 = absurd (h4 _ _ (sym (roll-out-Expr (E.PointerMember' p pointer member)) ∙ ap roll-Expr (E.outs-PointerMember' p pointer member) ∙ E.rolls-PointerMember _ _))
leaf (E.PostIncrement' p operand) h0 h1 h2 h3 h4 h5 h6 h7 h8 h9 h10 h11 h12 h13 = absurd (h5 _ (sym (roll-out-Expr (E.PostIncrement' p operand)) ∙ ap roll-Expr (E.outs-PostIncrement' p operand) ∙ E.rolls-PostIncrement _))
leaf (E.PostDecrement' p operand) h0 h1 h2 h3 h4 h5 h6 h7 h8 h9 h10 h11 h12 h13 = absurd (h6 _ (sym (roll-out-Expr (E.PostDecrement' p operand)) ∙ ap roll-Expr (E.outs-PostDecrement' p operand) ∙ E.rolls-PostDecrement _))
leaf (E.Prefix' operator place p operand) h0 h1 h2 h3 h4 h5 h6 h7 h8 h9 h10 h11 h12 h13 = absurd (h7 _ _ _ (sym (roll-out-Expr (E.Prefix' operator place p operand)) ∙ ap roll-Expr (E.outs-Prefix' operator place p operand) ∙ E.rolls-Prefix _ _ _))
leaf (E.SizeofExpr' place p operand) h0 h1 h2 h3 h4 h5 h6 h7 h8 h9 h10 h11 h12 h13 = absurd (h8 _ _ (sym (roll-out-Expr (E.SizeofExpr' place p operand)) ∙ ap roll-Expr (E.outs-SizeofExpr' place p operand) ∙ E.rolls-SizeofExpr _ _))
leaf (E.SizeofType' place p type_name) h0 h1 h2 h3 h4 h5 h6 h7 h8 h9 h10 h11 h12 h13 = absurd (h9 _ _ (sym (roll-out-Expr (E.SizeofType' place p type_name)) ∙ ap roll-Expr (E.outs-SizeofType' place p type_name) ∙ E.rolls-SizeofType _ _))
leaf (E.Cast' place p type_name q operand) h0 h1 h2 h3 h4 h5 h6 h7 h8 h9 h10 h11 h12 h13 = absurd (h10 _ _ _ (sym (roll-out-Expr (E.Cast' place p type_name q operand)) ∙ ap roll-Expr (E.outs-Cast' place p type_name q operand) ∙ E.rolls-Cast _ _ _))
leaf (E.Binary' operator p left q right) h0 h1 h2 h3 h4 h5 h6 h7 h8 h9 h10 h11 h12 h13 = absurd (h11 _ _ _ (sym (roll-out-Expr (E.Binary' operator p left q right)) ∙ ap roll-Expr (E.outs-Binary' operator p left q right) ∙ E.rolls-Binary _ _ _))
leaf (E.Conditional' p condition q taken r otherwise) h0 h1 h2 h3 h4 h5 h6 h7 h8 h9 h10 h11 h12 h13 = absurd (h12 _ _ _ (sym (roll-out-Expr (E.Conditional' p condition q taken r otherwise)) ∙ ap roll-Expr (E.outs-Conditional' p condition q taken r otherwise) ∙ E.rolls-Conditional _ _ _))
leaf (E.Assign' operator p object q value) h0 h1 h2 h3 h4 h5 h6 h7 h8 h9 h10 h11 h12 h13 = absurd (h13 _ _ _ (sym (roll-out-Expr (E.Assign' operator p object q value)) ∙ ap roll-Expr (E.outs-Assign' operator p object q value) ∙ E.rolls-Assign _ _ _))

-- a declarator that is not nested, and one that is
pub direct-flat : (direct : memory_direct.Direct) → ((inner : Box memory_declarator.Declarator Global) → direct ≡ D.Nested inner → ⊥) → tags_in_direct (direct_tree direct) ≡ []
direct-flat (D.Named name) h = refl
direct-flat D.Nothing h = refl
direct-flat (D.Nested' q stars direct shape suffixes) h =
    absurd (h _ (sym (roll-out-Direct (D.Nested' q stars direct shape suffixes)) ∙ ap roll-Direct (D.outs-Nested' q stars direct shape suffixes) ∙ D.rolls-Nested _))

pub direct-nested : (direct : memory_direct.Direct) (inner : Box memory_declarator.Declarator Global) (read : memory_declarator.Declarator) → direct ≡ D.Nested inner → read ≡ inner.value → tags_in_direct (direct_tree direct) ≡ tags_in_declarator (declarator_tree read)
direct-nested direct inner read is same = ap (λ (direct : memory_direct.Direct). tags_in_direct (direct_tree direct)) is ∙ ap tags_in_direct (direct_tree-nested inner) ∙ ap (λ (d : memory_declarator.Declarator). tags_in_declarator (declarator_tree d)) (sym same)

-- ---- what stands outside functions

abbrev pub of_each : List memory_declarator.Declarator → State → State
of_each declarators s = with_tags (tags_in_each (map declarator_tree declarators)) s

pub each-more : (a : memory_declarator.Declarator) (rest : List memory_declarator.Declarator) (s : State) → of_each (a ∷ rest) s ≡ of_each rest (with_tags (tags_in_declarator (declarator_tree a)) s)
each-more a rest s = with-append (tags_in_declarator (declarator_tree a)) (tags_in_each (map declarator_tree rest)) s

abbrev pub member_tags : memory_member.Member → List NameTree
member_tags m = tag_of (words_tree m.simple).words ++ tags_in_each (map declarator_tree m.declarators.items)

abbrev pub of_members : List memory_member.Member → State → State
of_members members s = with_tags (tags_in_members (map member_tree members)) s

pub members-more : (a : memory_member.Member) (rest : List memory_member.Member) (s : State) → of_members (a ∷ rest) s ≡ of_members rest (with_tags (member_tags a) s)
members-more a rest s = with-append (member_tags a) (tags_in_members (map member_tree rest)) s

abbrev pub declarator_tags : memory_init_declarator.InitDeclarator → List NameTree
declarator_tags d = tags_in_declarator (declarator_tree d.declarator) ++ tags_in_first (option_map init_tree d.init)

abbrev pub of_declarators : List memory_init_declarator.InitDeclarator → State → State
of_declarators declarators s = with_tags (tags_in_declarators (map init_declarator_tree declarators)) s

pub declarators-more : (a : memory_init_declarator.InitDeclarator) (rest : List memory_init_declarator.InitDeclarator) (s : State) → of_declarators (a ∷ rest) s ≡ of_declarators rest (with_tags (declarator_tags a) s)
declarators-more a rest s = with-append (declarator_tags a) (tags_in_declarators (map init_declarator_tree rest)) s

abbrev pub with_defined : List (List ℕ) → State → State
with_defined names s = record s { defined = each_once s.defined names }

abbrev pub of_item : Item → State → State
of_item (P.Declaration base declarators) s = of_declarators declarators.items (with_outline_base (base_tree base) s)
of_item (P.Function base declarator body) s = with_defined (bytes_of_name (declared_name (declarator_tree declarator))) (with_tags (tags_in_declarator (declarator_tree declarator)) (with_outline_base (base_tree base) s))

abbrev pub of_items : List Item → State → State
of_items items s = with_outline (map item_tree items) s

append-three : (tags xs ys zs : List NameTree) → first_places tags (xs ++ ys ++ zs) ≡ first_places (first_places (first_places tags xs) ys) zs
append-three tags xs ys zs = first_places-append tags (xs ++ ys) zs ∙ ap (λ (tags : List NameTree). first_places tags zs) (first_places-append tags xs ys)

pub items-more : (a : Item) (rest : List Item) (s : State) → of_items (a ∷ rest) s ≡ of_items rest (of_item a s)
items-more (P.Declaration base declarators) rest s = λ i. record s {
  tags = append-three s.tags (tags_in_base (base_tree base)) (tags_in_declarators (map init_declarator_tree declarators.items)) (tags_in_items (map item_tree rest)) i;
  completed = each_once-append s.completed (completed_by (base_tree base)) (completed_in (map item_tree rest)) i;
  defined = each_once s.defined (defined_in (map item_tree rest));
}
items-more (P.Function base declarator body) rest s = λ i. record s {
  tags = append-three s.tags (tags_in_base (base_tree base)) (tags_in_declarator (declarator_tree declarator)) (tags_in_items (map item_tree rest)) i;
  completed = each_once-append s.completed (completed_by (base_tree base)) (completed_in (map item_tree rest)) i;
  defined = each_once-append s.defined (bytes_of_name (declared_name (declarator_tree declarator))) (defined_in (map item_tree rest)) i;
}

pub is_none : {A : Type 0} (r : Option A) → ((x : A) → r ≡ Some x → ⊥) → r ≡ None
is_none None h = refl
is_none (Some x) h = absurd (h x refl)
