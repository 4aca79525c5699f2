-- The heights that a choice names are the least ones.
use Rattle.std.proofs.Common.{◌≡◌, ℕ, ◌+◌, ◌≤◌, ◌⊎◌, inl, inr, true, false, List, [], ◌∷◌, sym, refl, ◌∙◌, ap, subst, arith}
use Rattle.c_grammar.specs.Table.{Tree, Take, height}
use Rattle.c_grammar.specs.Runs.{Job, Parts, Whole, More, Done, Run, at_end, token_done, part_done, row_done, no_more, more_done}
use Rattle.c_grammar.specs.Laws.{Bounds}
use Rattle.c_grammar.specs.declared.kind.Kind.{Kind}
use Rattle.c_grammar.specs.Forms
use Rattle.c_grammar.specs.Language.{choose_at, language}
use Rattle.c_grammar.proofs.Exact.{grows}
use Rattle.c_grammar.proofs.LanguageRows.{Good, OperandAt, good_by, good_row}
use Rattle.c_grammar.proofs.LanguageTells.{second_of, choose_cons, parenthesized}

-- A row's trees are no lower than its sort's.
row_enough : (form : Forms.Production) → Forms.need_of (Forms.sort_of form) ≤ Forms.row_need form
row_enough Forms.WholeProgram = omega arith
row_enough (Forms.BaseStruct true) = omega arith
row_enough (Forms.BaseStruct false) = omega arith
row_enough _ = omega arith

module _ {Leaf : Type 0} (kind_of : Leaf → Kind) (sample : Kind → Leaf) where
  -- what the row that is chosen has
  pub record GoodAt (sort : Forms.Sort) (level : ℕ) (text : List Leaf) (form : Forms.Production) (first second : ℕ) : Type 0 where
    pub leaf : Leaf
    pub others : List Leaf
    pub split : text ≡ leaf ∷ others
    pub good : Good sort level (kind_of leaf) form first second

  pub good_at : (sort : Forms.Sort) (level : ℕ) (text : List Leaf) (form : Forms.Production) (first second : ℕ) → choose_at kind_of sample sort level text ≡ Take form first second → GoodAt sort level text form first second
  good_at sort level [] form first second chosen = absurd (cc chosen)
  good_at sort level (leaf ∷ text) form first second chosen = record {
    leaf = leaf;
    others = text;
    split = refl;
    good = good_row (good_by sort level (kind_of leaf) (second_of kind_of sample text)) form first second (sym (choose_cons kind_of sample sort level leaf text) ∙ chosen);
  }

  abbrev Needs : Job Leaf Kind Forms.Sort Forms.Production → Tree Leaf Forms.Production → Type 0
  Needs (Parts symbols) tree = Forms.needs_of symbols ≤ height (language kind_of sample) tree
  Needs (Whole sort level) tree = Forms.need_of sort ≤ height (language kind_of sample) tree
  Needs (More sort level left) tree = Unit {0}

  -- What was read is no lower than what was to be read.
  pub needs : {job : Job Leaf Kind Forms.Sort Forms.Production} {room : ℕ} {text : List Leaf} {tree : Tree Leaf Forms.Production} {behind : List Leaf} → Run (language kind_of sample) job room text (Done tree behind) → Needs job tree
  needs at_end = omega arith
  needs (token_done fits run) = omega (arith, needs run)
  needs (part_done run more) = omega (arith, needs run, needs more)
  needs (row_done {sort = sort} {level = level} {first = first} {second = second} {form = form} {text = text} chosen fit fit' down run more) =
      let at = good_at sort level text form first second chosen in
      let same_sort : Forms.need_of (Forms.sort_of form) ≡ Forms.need_of sort = ap Forms.need_of at.good.own_sort in
      let enough = row_enough form in
      let parts = needs run in
      let up = grows (language kind_of sample) more in
      omega (arith, same_sort, enough, parts, up)
  needs (no_more none) = tt
  needs (more_done chosen fit fit' down run more) = tt

  paren_height : {room : ℕ} {text : List Leaf} {tree : Tree Leaf Forms.Production} {behind : List Leaf} → Run (language kind_of sample) (Whole Forms.Expr 2) room text (Done tree behind) → choose_at kind_of sample Forms.Expr 2 text ≡ Take Forms.Parenthesized 2 2 → 2 ≤ height (language kind_of sample) tree
  paren_height (row_done {below = below} {first = first} {second = second} {form = form} {text = text} {middle = middle} {parts = parts} chosen fit fit' down run more) at =
      let rows : Take form first second ≡ Take Forms.Parenthesized 2 2 = sym chosen ∙ at in
      let same_form : form ≡ Forms.Parenthesized = cc rows in
      let weight : Forms.weight_of form ≡ 1 = ap Forms.weight_of same_form in
      let inner : 1 ≤ height (language kind_of sample) parts = needs (subst (λ f. Run (language kind_of sample) (Parts (Forms.symbols_of f)) below text (Done parts middle)) same_form run) in
      let up = grows (language kind_of sample) more in
      omega (arith, weight, inner, up)

  operand_height : {below : ℕ} {text : List Leaf} {parts : Tree Leaf Forms.Production} {behind : List Leaf} → Run (language kind_of sample) (Parts (Forms.symbols_of Forms.SizeofExpr)) below text (Done parts behind) → choose_at kind_of sample Forms.Expr 2 text ≡ Take Forms.Parenthesized 2 2 → 2 ≤ height (language kind_of sample) parts
  operand_height (part_done run at_end) at = omega (arith, paren_height run at)

  row_least : (sort : Forms.Sort) (level : ℕ) (text : List Leaf) (form : Forms.Production) (first second below : ℕ) (parts : Tree Leaf Forms.Production) (behind : List Leaf) → choose_at kind_of sample sort level text ≡ Take form first second → Run (language kind_of sample) (Parts (Forms.symbols_of form)) below text (Done parts behind) → second ≤ height (language kind_of sample) parts + Forms.weight_of form
  row_least sort level text form first second below parts behind chosen run = go (good_at sort level text form first second chosen)
    where
      by_least : (leaf : Leaf) (others : List Leaf) → text ≡ leaf ∷ others → (second ≤ Forms.row_need form) ⊎ OperandAt (kind_of leaf) form second → second ≤ height (language kind_of sample) parts + Forms.weight_of form
      by_least leaf others split (inl le) = omega (arith, le, needs run)
      by_least leaf others split (inr at) =
          let chosen_paren = ap (choose_at kind_of sample Forms.Expr 2) split ∙ parenthesized kind_of sample leaf others at.opens in
          let two : 2 ≤ height (language kind_of sample) parts = operand_height (subst (λ f. Run (language kind_of sample) (Parts (Forms.symbols_of f)) below text (Done parts behind)) at.own_form run) chosen_paren in
          omega (arith, two, at.two)

      go : GoodAt sort level text form first second → second ≤ height (language kind_of sample) parts + Forms.weight_of form
      go at = by_least at.leaf at.others at.split at.good.least

  pub bounds : Bounds (language kind_of sample)
  bounds = record {
    first_least = λ sort level text form first second chosen.
        let at = good_at sort level text form first second chosen in
        at.good.ordered;
    row_least = row_least;
    left_least = λ form below text parts behind run. omega (arith, needs run);
  }
