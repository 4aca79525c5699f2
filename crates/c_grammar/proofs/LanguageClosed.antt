-- No `else` stands behind a statement that was read and ends in an `if` without one.
use Rattle.std.proofs.Common.{◌≡◌, ℕ, Bool, true, false, ◌&&◌, ◌||◌, List, [], ◌∷◌, Some, None, sym, refl, ◌∙◌, ap, subst}
use Rattle.c_grammar.specs.Table.{Symbol, Tree, Alone, Nothing, Then, Node, Take, barred}
use Rattle.c_grammar.specs.Runs.{Job, Parts, Whole, More, Done, Run, at_end, token_done, part_done, row_done, no_more, more_done}
use Rattle.c_grammar.specs.declared.kind.Kind.{Kind}
use Rattle.c_grammar.specs.declared.kind.Kind.TheVariants.{Else}
use Rattle.c_grammar.specs.Kinds.{is}
use Rattle.c_grammar.specs.Forms
use Rattle.c_grammar.specs.Chooses.{take, take_if}
use Rattle.c_grammar.specs.Language.{is_no_else, ends_open, is_open, choose_at, language}
use Rattle.c_grammar.proofs.LanguageTells.{choose_cons}
use Rattle.c_grammar.proofs.LanguageBounds.{good_at}
use Rattle.c_grammar.proofs.LanguageLeast.{and_false, not_swap, next_at}

module _ {Leaf : Type 0} (kind_of : Leaf → Kind) (sample : Kind → Leaf) where
  abbrev starts_else : List Leaf → Bool
  starts_else [] = false
  starts_else (leaf ∷ text) = is Else (kind_of leaf)

  no_else_row : (test : Bool) (first second : ℕ) → take_if test Forms.ElseRow (take Forms.NoElse) ≡ Take Forms.NoElse first second → test ≡ false
  no_else_row true first second e = cc e
  no_else_row false first second e = refl

  no_else_at : (level : ℕ) (text : List Leaf) (first second : ℕ) → choose_at kind_of sample Forms.ElseOpt level text ≡ Take Forms.NoElse first second → starts_else text ≡ false
  no_else_at level [] first second e = refl
  no_else_at level (leaf ∷ text) first second e = not_swap (kind_of leaf) Else (no_else_row (is (kind_of leaf) Else) first second (sym (choose_cons kind_of sample Forms.ElseOpt level leaf text) ∙ e))

  nothing_read : {symbols : List (Symbol Kind Forms.Sort)} {room : ℕ} {text : List Leaf} {tree : Tree Leaf Forms.Production} {behind : List Leaf} → Run (language kind_of sample) (Parts symbols) room text (Done tree behind) → tree ≡ Nothing → text ≡ behind
  nothing_read at_end e = refl
  nothing_read (token_done fits run) e = absurd (cc e)
  nothing_read (part_done run more) e = absurd (cc e)

  no_symbols : {room : ℕ} {text : List Leaf} {tree : Tree Leaf Forms.Production} {behind : List Leaf} → Run (language kind_of sample) (Parts []) room text (Done tree behind) → text ≡ behind
  no_symbols at_end = refl

  node_test : (test own : Bool) (form : Forms.Production) (parts : Tree Leaf Forms.Production) → is_no_else form ≡ own → (test && ends_open parts) ≡ false → (own ≡ true → test ≡ false) → (test && (own || ends_open parts)) ≡ false
  node_test test true form parts e h f = ap (λ x. x && true) (f refl)
  node_test test false form parts e h f = h

  is_that : (form : Forms.Production) → is_no_else form ≡ true → form ≡ Forms.NoElse
  is_that Forms.NoElse e = refl
  is_that _ e = cc e

  node_shut : (test : Bool) (form : Forms.Production) (parts : Tree Leaf Forms.Production) → (test && ends_open parts) ≡ false → (form ≡ Forms.NoElse → test ≡ false) → (test && ends_open (Node form parts)) ≡ false
  node_shut test form parts h f = node_test test (is_no_else form) form parts refl h (λ e. f (is_that form e))

  then_shut : (test before : Bool) (first others : Tree Leaf Forms.Production) → (before && ends_open first) ≡ false → (others ≡ Nothing → before ≡ test) → (test && ends_open others) ≡ false → (test && ends_open (Then first others)) ≡ false
  then_shut test before first Nothing h f h' = ap (λ x. x && ends_open first) (sym (f refl)) ∙ h
  then_shut test before first (Alone leaf) h f h' = h'
  then_shut test before first (Then next others) h f h' = h'
  then_shut test before first (Node form parts) h f h' = h'

  abbrev Shut : Job Leaf Kind Forms.Sort Forms.Production → List Leaf → Tree Leaf Forms.Production → List Leaf → Type 0
  Shut (Parts symbols) text tree behind = (starts_else behind && ends_open tree) ≡ false
  Shut (Whole sort level) text tree behind = ((starts_else behind && ends_open tree) ≡ false) × ((starts_else behind && is_open tree) ≡ false)
  Shut (More sort level left) text tree behind = (starts_else text && ends_open left) ≡ false → (starts_else text && is_open left) ≡ false → ((starts_else behind && ends_open tree) ≡ false) × ((starts_else behind && is_open tree) ≡ false)

  no_else_there : (sort : Forms.Sort) (level : ℕ) (text : List Leaf) (form : Forms.Production) (first second : ℕ) → choose_at kind_of sample sort level text ≡ Take form first second → form ≡ Forms.NoElse → starts_else text ≡ false
  no_else_there sort level text form first second chosen e =
      let at = good_at kind_of sample sort level text form first second chosen in
      let own : Forms.ElseOpt ≡ sort = sym (ap Forms.sort_of e) ∙ at.good.own_sort in
      no_else_at level text first second (ap (λ s. choose_at kind_of sample s level text) own ∙ chosen ∙ ap (λ f. Take f first second) e)

  shut : {job : Job Leaf Kind Forms.Sort Forms.Production} {room : ℕ} {text : List Leaf} {tree : Tree Leaf Forms.Production} {behind : List Leaf} → Run (language kind_of sample) job room text (Done tree behind) → Shut job text tree behind
  shut (at_end {text = text}) = and_false (starts_else text)
  shut (token_done {leaf = leaf} {behind = behind} {others = others} fits run) = then_shut (starts_else behind) (starts_else behind) (Alone leaf) others (and_false (starts_else behind)) (λ e. refl) (shut run)
  shut (part_done {middle = middle} {behind = behind} {tree = tree} {others = others} run more) =
      let a = shut run in
      then_shut (starts_else behind) (starts_else middle) tree others a.0 (λ e. ap starts_else (nothing_read more e)) (shut more)
  shut (row_done {sort = sort} {level = level} {below = below} {first = first} {second = second} {form = form} {text = text} {middle = middle} {parts = parts} chosen fit fit' down run more) =
      let p = shut run in
      let m = shut more in
      let empty = λ (e : form ≡ Forms.NoElse). sym (ap starts_else (no_symbols (subst (λ f. Run (language kind_of sample) (Parts (Forms.symbols_of f)) below text (Done parts middle)) e run))) ∙ no_else_there sort level text form first second chosen e in
      m (node_shut (starts_else middle) form parts p empty) p
  shut (no_more none) = λ h h'. (h, h')
  shut (more_done {sort = sort} {level = level} {left = left} {form = form} {text = text} {middle = middle} {parts = parts} chosen fit fit' down run more) = λ h h'.
      let p = shut run in
      let m = shut more in
      let next = next_at kind_of sample sort level left text form chosen in
      let inner = then_shut (starts_else middle) (starts_else text) left parts h (λ e. ap starts_else (nothing_read run e)) p in
      let other = λ (e : form ≡ Forms.NoElse).
      let clash : None ≡ Some next.left_level = sym (ap Forms.left_of e) ∙ next.own_left in
      absurd (cc clash) in
      m (node_shut (starts_else middle) form (Then left parts) inner other) inner

  pub closed : {sort : Forms.Sort} {level room : ℕ} {text : List Leaf} {tree : Tree Leaf Forms.Production} {behind : List Leaf} → Run (language kind_of sample) (Whole sort level) room text (Done tree behind) → barred (language kind_of sample) tree behind ≡ false
  closed {tree = tree} {behind = behind} run = go behind (shut run).1
    where
      go : (behind : List Leaf) → (starts_else behind && is_open tree) ≡ false → barred (language kind_of sample) tree behind ≡ false
      go [] h = refl
      go (leaf ∷ others) h = h
