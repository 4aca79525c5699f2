-- What stands first in a row of trees, and behind each of them.
use Rattle.std.proofs.Common.{◌≡◌, ℕ, Bool, true, false, ◌&&◌, ◌||◌, if◌then◌else◌, List, [], ◌∷◌, ◌++◌, Option, Some, None, sym, refl, ◌∙◌, ap, subst, append_assoc}
use Rattle.std.proofs.lemmas.Bool.{or_left, or_right}
use Rattle.c_grammar.specs.Table.{Symbol, Terminal, Nonterminal, Tree, leaves, Is, nothing, token, part, IsPart, first, after}
use Rattle.c_grammar.specs.declared.kind.Kind.{Kind}
use Rattle.c_grammar.specs.declared.kind.Kind.TheVariants.{Name, Else, CloseParenthesis, CloseBracket, CloseBrace, Semicolon, Comma, Colon, Static, Extern}
use Rattle.c_grammar.specs.Kinds.{prefix_level, is_single, is}
use Rattle.c_grammar.specs.Forms
use Rattle.c_grammar.specs.Language.{language}
use Rattle.c_grammar.specs.Follows.{member, base_words, begins, may_lack, follows, OneOf}
use Rattle.c_grammar.specs.declared.words.Words.TheVariants.{NoWord, FullType, Integers}
use Rattle.c_grammar.specs.declared.words.Words.{Words}
use Rattle.c_grammar.proofs.LanguageRows.{and_left, and_right, both}
use Rattle.c_grammar.proofs.LanguageTells.{is_same}

-- sets of kinds
abbrev pub subset : List Kind → List Kind → Bool
subset [] larger = true
subset (kind ∷ kinds) larger = member larger kind && subset kinds larger

member_step : (test : Bool) (one : Kind) (kinds larger : List Kind) (kind : Kind) → is one kind ≡ test → member larger one ≡ true → (member kinds kind ≡ true → member larger kind ≡ true) → (test || member kinds kind) ≡ true → member larger kind ≡ true
member_step true one kinds larger kind e h f m = subst (λ x. member larger x ≡ true) (is_same one kind e) h
member_step false one kinds larger kind e h f m = f m

pub larger_set : (kinds larger : List Kind) (kind : Kind) → subset kinds larger ≡ true → member kinds kind ≡ true → member larger kind ≡ true
larger_set [] larger kind e m = absurd (cc m)
larger_set (one ∷ kinds) larger kind e m =
    member_step (is one kind) one kinds larger kind refl (and_left (member larger one) (subset kinds larger) e) (larger_set kinds larger kind (and_right (member larger one) (subset kinds larger) e)) m

pub either_way : {P : Type 0} (x y : Bool) → (x ≡ true → P) → (y ≡ true → P) → (x || y) ≡ true → P
either_way true y f g e = f refl
either_way false y f g e = g e

pub in_first : (kinds others : List Kind) (kind : Kind) → member kinds kind ≡ true → member (kinds ++ others) kind ≡ true
in_first [] others kind e = absurd (cc e)
in_first (one ∷ kinds) others kind e = either_way (is one kind) (member kinds kind) (λ h. or_left (is one kind) (member (kinds ++ others) kind) h) (λ h. or_right (is one kind) (member (kinds ++ others) kind) (in_first kinds others kind h)) e

pub in_second : (kinds others : List Kind) (kind : Kind) → member others kind ≡ true → member (kinds ++ others) kind ≡ true
in_second [] others kind e = e
in_second (one ∷ kinds) others kind e = or_right (is one kind) (member (kinds ++ others) kind) (in_second kinds others kind e)

-- the first tokens of the trees of symbols
abbrev pub heads : List (Symbol Kind Forms.Sort) → List Kind
heads [] = []
heads (Terminal kind ∷ symbols) = kind ∷ []
heads (Nonterminal sort level ∷ symbols) = if may_lack sort then begins sort ++ heads symbols else begins sort

abbrev pub lacks : List (Symbol Kind Forms.Sort) → Bool
lacks [] = true
lacks (Terminal kind ∷ symbols) = false
lacks (Nonterminal sort level ∷ symbols) = may_lack sort && lacks symbols

-- A row's first tokens are those of its sort.
abbrev head_test : Option ℕ → Forms.Sort → List (Symbol Kind Forms.Sort) → Bool
head_test (Some left) sort symbols = true
head_test None sort symbols = subset (heads symbols) (begins sort)

one_kind : (kind : Kind) (kinds : List Kind) → member kinds kind ≡ true → subset (kind ∷ []) kinds ≡ true
one_kind kind kinds e = both e refl

pub inside_if : {A : Type 0} (test : Bool) (one other goal : A) → (if test then one else other) ≡ goal → test ≡ true → one ≡ goal
inside_if true one other goal e h = e
inside_if false one other goal e h = absurd (cc h)

storage_head : (kind : Kind) → (if is kind Static || is kind Extern then subset (kind ∷ []) (begins Forms.Item) else true) ≡ true
storage_head Name = refl
storage_head _ = refl

single_head : (kind : Kind) → (if is_single kind then subset (kind ∷ []) (begins Forms.Expr) else true) ≡ true
single_head Name = refl
single_head _ = refl

-- A word of a type is one, and an operator before its operand begins an expression.
word_in : (kind : Kind) (words : Words) → Forms.with_word kind words ≡ (if member (base_words words) kind then Forms.with_word kind words else None)
word_in Name NoWord = refl
word_in Name FullType = refl
word_in Name (Integers sign size has_int) = refl
word_in _ NoWord = refl
word_in _ FullType = refl
word_in _ (Integers sign size has_int) = refl

in_test : (test : Bool) (found : Option Words) (next : Words) → found ≡ (if test then found else None) → Forms.is_these_words found next ≡ true → test ≡ true
in_test true found next e h = refl
in_test false found next e h =
    let clash : false ≡ true = sym (ap (λ x. Forms.is_these_words x next) e) ∙ h in
    absurd (cc clash)

pub word_given : (kind : Kind) (words next : Words) → Forms.is_these_words (Forms.with_word kind words) next ≡ true → member (base_words words) kind ≡ true
word_given kind words next h = in_test (member (base_words words) kind) (Forms.with_word kind words) next (word_in kind words) h

operator_in : (kind : Kind) → prefix_level kind ≡ (if member (begins Forms.Expr) kind then prefix_level kind else None)
operator_in Name = refl
operator_in _ = refl

in_level : (test : Bool) (found : Option ℕ) (level : ℕ) → found ≡ (if test then found else None) → Forms.is_this_number found level ≡ true → test ≡ true
in_level true found level e h = refl
in_level false found level e h =
    let clash : false ≡ true = sym (ap (λ x. Forms.is_this_number x level) e) ∙ h in
    absurd (cc clash)

pub operator_given : (kind : Kind) (level : ℕ) → Forms.is_this_number (prefix_level kind) level ≡ true → member (begins Forms.Expr) kind ≡ true
operator_given kind level h = in_level (member (begins Forms.Expr) kind) (prefix_level kind) level (operator_in kind) h

heads_fit : (form : Forms.Production) → Forms.is_row form ≡ true → head_test (Forms.left_of form) (Forms.sort_of form) (Forms.symbols_of form) ≡ true
heads_fit (Forms.Storage kind) row = inside_if (is kind Static || is kind Extern) (subset (kind ∷ []) (begins Forms.Item)) true true (storage_head kind) row
heads_fit (Forms.ItemTyped kind next) row = one_kind kind (begins Forms.Item) (in_second (Static ∷ Extern ∷ []) (base_words NoWord) kind (word_given kind NoWord next row))
heads_fit (Forms.BaseWord own words kind next) row = one_kind kind (base_words words) (word_given kind words next row)
heads_fit (Forms.BaseStruct true) row = refl
heads_fit (Forms.BaseStruct false) row = refl
heads_fit (Forms.OptionalPointer true) row = refl
heads_fit (Forms.OptionalPointer false) row = refl
heads_fit (Forms.OptionalDirect true) row = refl
heads_fit (Forms.OptionalDirect false) row = refl
heads_fit (Forms.InnerPointer true) row = refl
heads_fit (Forms.InnerPointer false) row = refl
heads_fit (Forms.InnerDirect true) row = refl
heads_fit (Forms.InnerDirect false) row = refl
heads_fit (Forms.DirectSome true) row = refl
heads_fit (Forms.DirectSome false) row = refl
heads_fit (Forms.ParamName true) row = refl
heads_fit (Forms.ParamName false) row = absurd (cc row)
heads_fit (Forms.ParamNested true) row = refl
heads_fit (Forms.ParamNested false) row = refl
heads_fit (Forms.ParamFunction true) row = refl
heads_fit (Forms.ParamFunction false) row = refl
heads_fit (Forms.ParamArray true) row = refl
heads_fit (Forms.ParamArray false) row = refl
heads_fit (Forms.Single kind) row = inside_if (is_single kind) (subset (kind ∷ []) (begins Forms.Expr)) true true (single_head kind) row
heads_fit (Forms.Prefix kind operand) row = one_kind kind (begins Forms.Expr) (operator_given kind operand row)
heads_fit _ row = refl

lack_if : Bool → Bool → Bool
lack_if true b = b
lack_if false b = true

lacks_fit : (form : Forms.Production) → Forms.is_row form ≡ true → lack_if (lacks (Forms.symbols_of form)) (may_lack (Forms.sort_of form)) ≡ true
unfolding lack_if
lacks_fit (Forms.BaseEnd own NoWord) row = row
lacks_fit (Forms.BaseEnd own FullType) row = refl
lacks_fit (Forms.BaseEnd own (Integers sign size has_int)) row = refl
lacks_fit (Forms.BaseStruct true) row = refl
lacks_fit (Forms.BaseStruct false) row = refl
lacks_fit _ row = refl

lack_told : (a b : Bool) → lack_if a b ≡ true → a ≡ true → b ≡ true
unfolding lack_if
lack_told true b e h = e
lack_told false b e h = absurd (cc h)

pub left_expr : (form : Forms.Production) (level : ℕ) → Forms.left_of form ≡ Some level → Forms.sort_of form ≡ Forms.Expr
left_expr (Forms.Binary kind right) level e = refl
left_expr (Forms.Assign kind) level e = refl
left_expr Forms.Conditional level e = refl
left_expr Forms.Index level e = refl
left_expr Forms.Call level e = refl
left_expr Forms.Member level e = refl
left_expr Forms.PointerMember level e = refl
left_expr Forms.PostIncrement level e = refl
left_expr Forms.PostDecrement level e = refl
left_expr _ level e = absurd (cc e)

-- what may stand before the rest of a row, and behind it
abbrev pub with_others : List Kind → Option (List Kind) → Option (List Kind)
with_others kinds (Some others) = Some (kinds ++ others)
with_others kinds None = None

abbrev pub behind : List (Symbol Kind Forms.Sort) → Option (List Kind) → Option (List Kind)
behind [] last = last
behind (Terminal kind ∷ symbols) last = Some (kind ∷ [])
behind (Nonterminal sort level ∷ symbols) last = if may_lack sort then with_others (begins sort) (behind symbols last) else Some (begins sort)

-- Each part of a row is followed by what may follow its sort.
abbrev pub within : Option (List Kind) → Option (List Kind) → Bool
within None before = true
within (Some larger) (Some kinds) = subset kinds larger
within (Some larger) None = false

abbrev pub closers : List Kind
closers = CloseParenthesis ∷ CloseBracket ∷ CloseBrace ∷ Semicolon ∷ Comma ∷ Colon ∷ []

abbrev pub shuts_expr : Option (List Kind) → Bool
shuts_expr (Some kinds) = subset kinds closers
shuts_expr None = false

abbrev pub no_else_in : Option (List Kind) → Bool
no_else_in (Some kinds) = if member kinds Else then false else true
no_else_in None = false

abbrev pub part_fits : Forms.Sort → Option (List Kind) → Bool
part_fits Forms.Expr others = shuts_expr others
part_fits Forms.Stmt others = no_else_in others
part_fits Forms.ElseOpt others = false
part_fits Forms.Literals others = false
part_fits Forms.SizeofOperand others = false
part_fits sort others = within (follows sort) others

abbrev pub row_fits : List (Symbol Kind Forms.Sort) → Option (List Kind) → Bool
row_fits [] last = true
row_fits (Terminal kind ∷ symbols) last = row_fits symbols last
row_fits (Nonterminal sort level ∷ symbols) last = part_fits sort (behind symbols last) && row_fits symbols last

module _ {Leaf : Type 0} (kind_of : Leaf → Kind) (sample : Kind → Leaf) where
  -- the first token of leaves
  abbrev pub Front : Bool → List Kind → List Leaf → Type 0
  Front lack kinds [] = lack ≡ true
  Front lack kinds (leaf ∷ text) = member kinds (kind_of leaf) ≡ true

  front_of_form : (form : Forms.Production) (text : List Leaf) → Forms.is_row form ≡ true → Forms.left_of form ≡ None → Front (lacks (Forms.symbols_of form)) (heads (Forms.symbols_of form)) text → Front (may_lack (Forms.sort_of form)) (begins (Forms.sort_of form)) text
  front_of_form form [] row none h = lack_told (lacks (Forms.symbols_of form)) (may_lack (Forms.sort_of form)) (lacks_fit form row) h
  front_of_form form (leaf ∷ text) row none h =
      larger_set (heads (Forms.symbols_of form)) (begins (Forms.sort_of form)) (kind_of leaf) (sym (ap (λ x. head_test x (Forms.sort_of form) (Forms.symbols_of form)) none) ∙ heads_fit form row) h

  front_more : (kinds : List Kind) (front others : List Leaf) → Front false kinds front → Front false kinds (front ++ others)
  front_more kinds [] others h = absurd (cc h)
  front_more kinds (leaf ∷ front) others h = h

  front_then : (lack lack' : Bool) (kinds kinds' : List Kind) (front others : List Leaf) → Front lack kinds front → Front lack' kinds' others → Front (lack && lack') (if lack then kinds ++ kinds' else kinds) (front ++ others)
  front_then true lack' kinds kinds' [] [] h h' = h'
  front_then true lack' kinds kinds' [] (leaf ∷ others) h h' = in_second kinds kinds' (kind_of leaf) h'
  front_then true lack' kinds kinds' (leaf ∷ front) others h h' = in_first kinds kinds' (kind_of leaf) h
  front_then false lack' kinds kinds' [] others h h' = absurd (cc h)
  front_then false lack' kinds kinds' (leaf ∷ front) others h h' = h

  mutual
    pub front_part : {sort : Forms.Sort} {level : ℕ} {tree : Tree Leaf Forms.Production} → IsPart (language kind_of sample) sort level tree → Front (may_lack sort) (begins sort) (leaves tree)
    front_part (first {parts = parts} form own_sort own_row own_left own_level is) = subst (λ s. Front (may_lack s) (begins s) (leaves parts)) own_sort (front_of_form form (leaves parts) own_row own_left (front_row is))
    front_part (after {sort = sort} {left = left} {parts = parts} form left_level own_sort own_row own_left own_level left_is is) =
        let expr : sort ≡ Forms.Expr = sym own_sort ∙ left_expr form left_level own_left in
        let before = subst (λ s. Front (may_lack s) (begins s) (leaves left)) expr (front_part left_is) in
        subst (λ s. Front (may_lack s) (begins s) (leaves left ++ leaves parts)) (sym expr) (front_more (begins Forms.Expr) (leaves left) (leaves parts) before)

    pub front_row : {symbols : List (Symbol Kind Forms.Sort)} {trees : Tree Leaf Forms.Production} → Is (language kind_of sample) symbols trees → Front (lacks symbols) (heads symbols) (leaves trees)
    front_row nothing = refl
    front_row (token {kind = kind} leaf fits others) = or_left (is kind (kind_of leaf)) false fits
    front_row (part {sort = sort} {symbols = symbols} {tree = tree} {others = others} is is_others free) = front_then (may_lack sort) (lacks symbols) (begins sort) (heads symbols) (leaves tree) (leaves others) (front_part is) (front_row is_others)

  one_of_then : (lack : Bool) (kinds : List Kind) (last : Option (List Kind)) (front others : List Leaf) → Front lack kinds front → OneOf kind_of last others → OneOf kind_of (if lack then with_others kinds last else Some kinds) (front ++ others)
  one_of_then true kinds None front others h h' = tt
  one_of_then true kinds (Some last) [] [] h h' = h'
  one_of_then true kinds (Some last) [] (leaf ∷ others) h h' = in_second kinds last (kind_of leaf) h'
  one_of_then true kinds (Some last) (leaf ∷ front) others h h' = in_first kinds last (kind_of leaf) h
  one_of_then false kinds last [] others h h' = absurd (cc h)
  one_of_then false kinds last (leaf ∷ front) others h h' = h

  -- the first token of a row and what follows it
  pub first_of_row : {symbols : List (Symbol Kind Forms.Sort)} {trees : Tree Leaf Forms.Production} → Is (language kind_of sample) symbols trees → (text : List Leaf) (last : Option (List Kind)) → OneOf kind_of last text → OneOf kind_of (behind symbols last) (leaves trees ++ text)
  first_of_row nothing text last h = h
  first_of_row (token {kind = kind} leaf fits others) text last h = or_left (is kind (kind_of leaf)) false fits
  first_of_row (part {sort = sort} {symbols = symbols} {tree = tree} {others = others} is is_others free) text last h =
      subst (λ x. OneOf kind_of (if may_lack sort then with_others (begins sort) (behind symbols last) else Some (begins sort)) x) (sym (append_assoc (leaves tree) (leaves others) text)) (one_of_then (may_lack sort) (begins sort) (behind symbols last) (leaves tree) (leaves others ++ text) (front_part is) (first_of_row is_others text last h))

  pub one_within : (larger before : Option (List Kind)) (text : List Leaf) → within larger before ≡ true → OneOf kind_of before text → OneOf kind_of larger text
  one_within None before text e h = tt
  one_within (Some larger) None text e h = absurd (cc e)
  one_within (Some larger) (Some kinds) [] e h = h
  one_within (Some larger) (Some kinds) (leaf ∷ text) e h = larger_set kinds larger (kind_of leaf) e h
