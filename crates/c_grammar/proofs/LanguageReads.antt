-- Each tree of the language is read from its tokens.
use Rattle.std.proofs.Common.{◌≡◌, ℕ, ◌+◌, ◌<◌, ◌≤◌, Bool, true, false, ◌&&◌, ◌||◌, if◌then◌else◌, List, [], ◌∷◌, ◌++◌, Option, Some, None, nat_le, sym, refl, ◌∙◌, ap, subst, arith}
use Rattle.std.proofs.lemmas.Bool.{leb-true}
use Rattle.c_grammar.specs.Table.{Symbol, Terminal, Tree, Node, leaves, Is, token, IsPart, first, after}
use Rattle.c_grammar.specs.Runs.{level_of, next_row}
use Rattle.c_grammar.specs.Laws.{ReadsTrees}
use Rattle.c_grammar.specs.declared.kind.Kind.{Kind}
use Rattle.c_grammar.specs.declared.kind.Kind.TheVariants.{Name, Question}
use Rattle.c_grammar.specs.Kinds.{binary_right, is_assignment, is}
use Rattle.c_grammar.specs.Forms
use Rattle.c_grammar.specs.Chooses.{goes_if, by_binary, by_postfix, postfix_of}
use Rattle.c_grammar.specs.Language.{language}
use Rattle.c_grammar.specs.Follows.{after_right, reach_by, Tighter, Ends, Stands}
use Rattle.c_grammar.proofs.LanguageTells.{is_same}
use Rattle.c_grammar.proofs.LanguageFollowed.{left_expr}
use Rattle.c_grammar.proofs.LanguageParts.{first_token, last_ends, row_follows, left_follows}
use Rattle.c_grammar.proofs.LanguageChosen.{Chosen, chosen_form}

-- No expression of a level goes on with a token that goes on only at looser ones.
le_fails : (least level : ℕ) (test : Bool) → level < least → nat_le least level ≡ test → test ≡ false
le_fails least level true lt e = absurd (omega (arith, lt, leb-true least level e))
le_fails least level false lt e = refl

tests_fail : (level least : ℕ) (own : Bool) → level < least → (own && nat_le least level) ≡ false
tests_fail level least false lt = refl
tests_fail level least true lt = le_fails least level (nat_le least level) lt refl

-- No token goes on in two ways.
other_once : (kind : Kind) → (if is_assignment kind || is kind Question then binary_right kind else None) ≡ None
other_once Name = refl
other_once _ = refl

assign_once : (kind : Kind) → (is_assignment kind && is kind Question) ≡ false
assign_once Name = refl
assign_once _ = refl

goes_not : (test : Bool) (form : Forms.Production) (otherwise : Option Forms.Production) → test ≡ false → otherwise ≡ None → goes_if test form otherwise ≡ None
goes_not test form otherwise e e' = ap (λ b. goes_if b form otherwise) e ∙ e'

binary_none : (level own : ℕ) (kind : Kind) (right : Option ℕ) → Tighter level (after_right right) → by_binary level own kind right ≡ None
binary_none level own kind None h = refl
binary_none level own kind (Some right) h = goes_not (nat_le own (right + 1) && nat_le (right + 1) level) (Forms.Binary kind right) None (tests_fail level (right + 1) (nat_le own (right + 1)) h) refl

no_right : (level own : ℕ) (kind : Kind) (right : Option ℕ) → right ≡ None → by_binary level own kind right ≡ None
no_right level own kind right e = ap (λ x. by_binary level own kind x) e

others_none : (level own : ℕ) (kind : Kind) (assigns questions : Bool) (right : Option ℕ) → (assigns && questions) ≡ false → (if assigns || questions then right else None) ≡ None → Tighter level (if assigns then Some 15 else if questions then Some 14 else after_right right) → goes_if (assigns && (nat_le own 2 && nat_le 15 level)) (Forms.Assign kind) (goes_if (questions && (nat_le own 13 && nat_le 14 level)) Forms.Conditional (by_binary level own kind right)) ≡ None
others_none level own kind false false right once none h = binary_none level own kind right h
others_none level own kind false true right once none h = goes_not (nat_le own 13 && nat_le 14 level) Forms.Conditional (by_binary level own kind right) (tests_fail level 14 (nat_le own 13) h) (no_right level own kind right none)
others_none level own kind true true right once none h = absurd (cc once)
others_none level own kind true false right once none h = goes_not (nat_le own 2 && nat_le 15 level) (Forms.Assign kind) (by_binary level own kind right) (tests_fail level 15 (nat_le own 2) h) (no_right level own kind right none)

none_goes_on : (level own : ℕ) (kind : Kind) (form : Option Forms.Production) → Tighter level (reach_by kind form) → by_postfix level own kind form ≡ None
none_goes_on level own kind (Some form) h = goes_not (nat_le own 1 && nat_le 1 level) form None (tests_fail level 1 (nat_le own 1) h) refl
none_goes_on level own kind None h = others_none level own kind (is_assignment kind) (is kind Question) (binary_right kind) (assign_once kind) (other_once kind) h

module _ {Leaf : Type 0} (kind_of : Leaf → Kind) (sample : Kind → Leaf) where
  part_last : {sort : Forms.Sort} {level : ℕ} {tree : Tree Leaf Forms.Production} → IsPart (language kind_of sample) sort level tree → (leaf : Leaf) (text : List Leaf) → Ends kind_of Forms.Expr level tree (leaf ∷ text) → Stands kind_of Forms.Expr level tree (leaf ∷ text)
  part_last {level = level} (first form own_sort own_row own_left own_level trees) leaf text h = (h.0, last_ends form level (kind_of leaf) own_level own_row h.1)
  part_last {level = level} (after form left_level own_sort own_row own_left own_level left_is trees) leaf text h = (h.0, last_ends form level (kind_of leaf) own_level own_row h.1)

  ends : (sort : Forms.Sort) (level : ℕ) (tree : Tree Leaf Forms.Production) (text : List Leaf) → IsPart (language kind_of sample) sort level tree → Ends kind_of sort level tree text → (next_row (language kind_of sample) sort level tree text ≡ None) × Stands kind_of sort level tree text
  ends Forms.Expr level tree [] is_tree h = absurd h
  ends Forms.Expr level tree (leaf ∷ text) is_tree h =
      (none_goes_on level (level_of (language kind_of sample) tree) (kind_of leaf) (postfix_of (kind_of leaf)) h.1, part_last is_tree leaf text h)
  ends Forms.Program level tree [] is_tree h = (refl, h)
  ends Forms.Program level tree (leaf ∷ text) is_tree h = (refl, h)
  ends _ level tree [] is_tree h = (refl, h)
  ends _ level tree (leaf ∷ text) is_tree h = (refl, h)

  own_within : {sort : Forms.Sort} {level : ℕ} {tree : Tree Leaf Forms.Production} → IsPart (language kind_of sample) sort level tree → level_of (language kind_of sample) tree ≤ level
  own_within (first form own_sort own_row own_left own_level trees) = own_level
  own_within (after form left_level own_sort own_row own_left own_level left_is trees) = own_level

  goes_at : (level : ℕ) (form : Forms.Production) (kind : Kind) {others : List (Symbol Kind Forms.Sort)} {parts : Tree Leaf Forms.Production} (left : Tree Leaf Forms.Production) (text : List Leaf) → Is (language kind_of sample) (Terminal kind ∷ others) parts → by_postfix level (level_of (language kind_of sample) left) kind (postfix_of kind) ≡ Some form → next_row (language kind_of sample) Forms.Expr level left (leaves parts ++ text) ≡ Some form
  goes_at level form kind left text (token leaf fits trees) e = subst (λ k. by_postfix level (level_of (language kind_of sample) left) k (postfix_of k) ≡ Some form) (is_same kind (kind_of leaf) fits) e

  goes : (sort : Forms.Sort) (level : ℕ) (form : Forms.Production) (left_level : ℕ) (left parts : Tree Leaf Forms.Production) (text : List Leaf) → Forms.sort_of form ≡ sort → Forms.is_row form ≡ true → Forms.left_of form ≡ Some left_level → Forms.level_of_form form ≤ level → IsPart (language kind_of sample) sort left_level left → Is (language kind_of sample) (Forms.symbols_of form) parts → next_row (language kind_of sample) sort level left (leaves parts ++ text) ≡ Some form
  goes sort level form left_level left parts text own_sort own_row own_left own_level left_is trees =
      let expr : sort ≡ Forms.Expr = sym own_sort ∙ left_expr form left_level own_left in
      let front = first_token form left_level own_row own_left in
      let trees' = subst (λ s. Is (language kind_of sample) s parts) front.row trees in
      let at = goes_at level form front.kind left text trees' (front.goes_on level (level_of (language kind_of sample) left) own_level (own_within left_is)) in
      subst (λ s. next_row (language kind_of sample) s level left (leaves parts ++ text) ≡ Some form) (sym expr) at

  tighter : (form : Forms.Production) (left_level level : ℕ) → Forms.is_row form ≡ true → Forms.left_of form ≡ Some left_level → Forms.level_of_form form ≤ level → left_level ≤ level
  tighter form left_level level own_row own_left own_level =
      let tight = (first_token form left_level own_row own_left).tight in
      omega (arith, tight, own_level)

  pub reads : ReadsTrees (language kind_of sample) (Ends kind_of) (Stands kind_of)
  reads = record {
    chooses = λ sort level form parts text own_sort own_row own_left own_level trees stands.
        subst (λ s. Chosen kind_of sample s level form (leaves parts ++ text)) own_sort (chosen_form kind_of sample form level parts text own_row own_left own_level trees (subst (λ s. Stands kind_of s level (Node form parts) text) (sym own_sort) stands));
    goes = goes;
    row_followed = λ sort level form parts text own_sort own_row own_left own_level trees stands.
        row_follows kind_of sample form level parts text own_row own_left trees (subst (λ s. Stands kind_of s level (Node form parts) text) (sym own_sort) stands);
    next_followed = λ sort level form left_level left parts text own_sort own_row own_left own_level left_is trees stands.
        left_follows kind_of sample sort level form left_level left parts text own_sort own_row own_left left_is trees stands;
    left_tighter = λ sort level form left_level own_sort own_row own_left own_level. tighter form left_level level own_row own_left own_level;
    ends = ends;
  }

  -- A program may end where its text does.
  pub at_text_end : (level : ℕ) (tree : Tree Leaf Forms.Production) → IsPart (language kind_of sample) Forms.Program level tree → Ends kind_of Forms.Program level tree []
  at_text_end level tree is_tree = tt
