-- A leaf that is too deep would fit if nesting had no limit: there is a tree that begins with what was passed and with it.
use Rattle.std.proofs.Common.{◌≡◌, ℕ, ◌<◌, inr, true, false, List, [], ◌∷◌, ◌++◌, Some, None, sym, refl, ◌∙◌, ap, subst, arith, append_assoc}
use Rattle.c_grammar.specs.Table.{Symbol, Terminal, Tree, Alone, Then, Node, Table, leaves, barred, Is, token, part, IsPart, first, after, least_parts, Orderly}
use Rattle.c_grammar.specs.Runs.{Job, Parts, Whole, More, Fault, Deep, Failed, fits_first, Run, no_memory, unfit, token_failed, part_failed, then_failed, never, stuck, stuck_deep, first_deep, second_deep, row_failed, row_done, more_deep, more_failed, more_done}
use Rattle.c_grammar.specs.Laws.{lowest, Completes}
use Rattle.c_grammar.proofs.Sound.{at_level, least_is, least_is_free, sound}

-- A tree that begins with what was passed and the leaf behind it, behind the leaves of a tree before it.
pub record Through {Leaf Production : Type 0} (Spelled : Tree Leaf Production → Type 0) (before text behind : List Leaf) : Type 0 where
  pub front : List Leaf
  pub leaf : Leaf
  pub others : List Leaf
  pub more : List Leaf
  pub tree : Tree Leaf Production
  pub spelled : Spelled tree
  pub passed : text ≡ front ++ behind
  pub at : behind ≡ leaf ∷ others
  pub continues : leaves tree ≡ before ++ (front ++ leaf ∷ more)

abbrev pub FitsWithMore : {Leaf Kind Sort Production : Type 0} → (T : Table Leaf Kind Sort Production) → Job Leaf Kind Sort Production → List Leaf → List Leaf → Type 0
FitsWithMore T (Parts symbols) text behind = Orderly T symbols → Through (Is T symbols) [] text behind
FitsWithMore T (Whole sort level) text behind = Through (IsPart T sort level) [] text behind
FitsWithMore T (More sort level left) text behind = IsPart T sort level left → Through (IsPart T sort level) (leaves left) text behind

regroup : {A : Type 0} (a b c d : List A) → (a ++ b) ++ (c ++ d) ≡ a ++ ((b ++ c) ++ d)
regroup a b c d = simp append_assoc

module _ {Leaf Kind Sort Production : Type 0} (T : Table Leaf Kind Sort Production) (laws : Completes T) where
  barred_through : (tree : Tree Leaf Production) (front : List Leaf) (leaf : Leaf) (others more middle behind : List Leaf) → middle ≡ front ++ behind → behind ≡ leaf ∷ others → barred T tree middle ≡ false → barred T tree (front ++ leaf ∷ more) ≡ false
  barred_through tree [] leaf others more middle behind e at h = sym (ap (barred T tree) (e ∙ at)) ∙ h
  barred_through tree (x ∷ front) leaf others more middle behind e at h = sym (ap (barred T tree) e) ∙ h

  begun_at : (sort : Sort) (level lowest1 : ℕ) (text : List Leaf) → lowest (T.choose sort level text) ≡ Some lowest1 → 0 < lowest1 → Through (IsPart T sort level) [] text text
  begun_at sort level lowest1 [] chosen some =
      let clash : None ≡ Some lowest1 = sym (ap lowest (laws.no_text sort level)) ∙ chosen in
      absurd (cc clash)
  begun_at sort level lowest1 (leaf ∷ text) chosen some =
      let b = laws.begun sort level leaf text lowest1 chosen (inr some) in
      record { front = []; leaf = leaf; others = text; more = b.more; tree = b.tree; spelled = b.spelled; passed = refl; at = refl; continues = b.continues }

  -- a row that goes on with a leaf, and the least trees behind that
  next_at : (form : Production) (kind : Kind) (symbols : List (Symbol Kind Sort)) (text : List Leaf) → T.symbols form ≡ Terminal kind ∷ symbols → fits_first T kind text ≡ true → Through (Is T (T.symbols form)) [] text text
  next_at form kind symbols [] row told = absurd (cc told)
  next_at form kind symbols (leaf ∷ text) row told = record {
    front = [];
    leaf = leaf;
    others = text;
    more = leaves (least_parts T symbols);
    tree = Then (Alone leaf) (least_parts T symbols);
    spelled = subst (λ s. Is T s (Then (Alone leaf) (least_parts T symbols))) (sym row) (token leaf told (least_is T laws symbols));
    passed = refl;
    at = refl;
    continues = refl;
  }

  pub deepens : {job : Job Leaf Kind Sort Production} {room : ℕ} {text : List Leaf} {fault : Fault} {behind : List Leaf} → Run T job room text (Failed fault behind) → fault ≡ Deep → FitsWithMore T job text behind
  deepens (no_memory behind) e = absurd (cc e)
  deepens (unfit none) e = absurd (cc e)
  deepens (token_failed {leaf = leaf} fits run) e = λ orderly.
      let r = deepens run e orderly in
      record {
        front = leaf ∷ r.front;
        leaf = r.leaf;
        others = r.others;
        more = r.more;
        tree = Then (Alone leaf) r.tree;
        spelled = token leaf fits r.spelled;
        passed = ap (λ x. leaf ∷ x) r.passed;
        at = r.at;
        continues = ap (λ x. leaf ∷ x) r.continues;
      }
  deepens (part_failed {symbols = symbols} run) e = λ orderly.
      let r = deepens run e in
      record {
        front = r.front;
        leaf = r.leaf;
        others = r.others;
        more = r.more ++ leaves (least_parts T symbols);
        tree = Then r.tree (least_parts T symbols);
        spelled = part r.spelled (least_is T laws symbols) (least_is_free T laws symbols r.tree orderly.0);
        passed = r.passed;
        at = r.at;
        continues = ap (λ x. x ++ leaves (least_parts T symbols)) r.continues ∙ append_assoc r.front (r.leaf ∷ r.more) (leaves (least_parts T symbols));
      }
  deepens (then_failed {middle = middle} {behind = behind} {tree = tree} run more) e = λ orderly.
      let a = sound T laws run in
      let r = deepens more e orderly.1 in
      let free : barred T tree (r.front ++ r.leaf ∷ r.more) ≡ false = barred_through tree r.front r.leaf r.others r.more middle behind r.passed r.at (laws.closed run) in
      record {
        front = leaves tree ++ r.front;
        leaf = r.leaf;
        others = r.others;
        more = r.more;
        tree = Then tree r.tree;
        spelled = part a.0 r.spelled (ap (barred T tree) r.continues ∙ free);
        passed = a.1 ∙ ap (λ x. leaves tree ++ x) r.passed ∙ sym (append_assoc (leaves tree) r.front behind);
        at = r.at;
        continues = ap (λ x. leaves tree ++ x) r.continues ∙ sym (append_assoc (leaves tree) r.front (r.leaf ∷ r.more));
      }
  deepens (never chosen) e = absurd (cc e)
  deepens (stuck chosen fit) e = absurd (cc e)
  deepens (stuck_deep {sort = sort} {level = level} {first = lowest1} {text = text} chosen deep) e = begun_at sort level lowest1 text (ap lowest chosen) (omega (arith, deep))
  deepens (first_deep {sort = sort} {level = level} {first = lowest1} {text = text} chosen deep) e = begun_at sort level lowest1 text (ap lowest chosen) (omega (arith, deep))
  deepens (second_deep {sort = sort} {level = level} {first = lowest1} {second = second} {form = form} {leaf = leaf} {text = text} chosen fit deep) e =
      let b = laws.begun_two sort level leaf text form lowest1 second chosen (omega (arith, fit, deep)) in
      record { front = leaf ∷ []; leaf = b.next; others = b.others; more = b.more; tree = b.tree; spelled = b.spelled; passed = refl; at = b.split; continues = b.continues }
  deepens (row_failed {sort = sort} {level = level} {first = lowest1} {second = second} {form = form} {text = text} chosen fit fit' down run) e =
      let row = laws.row sort level text form lowest1 second chosen in
      let r = deepens run e (laws.orderly form) in
      record {
        front = r.front;
        leaf = r.leaf;
        others = r.others;
        more = r.more;
        tree = Node form r.tree;
        spelled = first form row.own_sort row.own_row row.own_left row.own_level r.spelled;
        passed = r.passed;
        at = r.at;
        continues = r.continues;
      }
  deepens (row_done {sort = sort} {level = level} {first = lowest1} {second = second} {form = form} {text = text} {middle = middle} {parts = parts} chosen fit fit' down run more) e =
      let p = sound T laws run in
      let row = laws.row sort level text form lowest1 second chosen in
      let m = deepens more e (first form row.own_sort row.own_row row.own_left row.own_level p.0) in
      record {
        front = leaves parts ++ m.front;
        leaf = m.leaf;
        others = m.others;
        more = m.more;
        tree = m.tree;
        spelled = m.spelled;
        passed = p.1 ∙ ap (λ x. leaves parts ++ x) m.passed ∙ sym (append_assoc (leaves parts) m.front _);
        at = m.at;
        continues = m.continues ∙ sym (append_assoc (leaves parts) m.front (m.leaf ∷ m.more));
      }
  deepens (more_deep {sort = sort} {level = level} {left = left} {form = form} {text = text} chosen deep) e = λ is.
      let next = laws.next sort level left text form chosen in
      let r = next_at form next.kind next.others text next.row next.told in
      record {
        front = r.front;
        leaf = r.leaf;
        others = r.others;
        more = r.more;
        tree = Node form (Then left r.tree);
        spelled = after form next.left_level next.own_sort next.own_row next.own_left next.own_level (at_level T sort level next.left_level left next.binds is) r.spelled;
        passed = r.passed;
        at = r.at;
        continues = ap (λ x. leaves left ++ x) r.continues;
      }
  deepens (more_failed {sort = sort} {level = level} {left = left} {form = form} {text = text} chosen fit fit' down run) e = λ is.
      let next = laws.next sort level left text form chosen in
      let r = deepens run e (laws.orderly form) in
      record {
        front = r.front;
        leaf = r.leaf;
        others = r.others;
        more = r.more;
        tree = Node form (Then left r.tree);
        spelled = after form next.left_level next.own_sort next.own_row next.own_left next.own_level (at_level T sort level next.left_level left next.binds is) r.spelled;
        passed = r.passed;
        at = r.at;
        continues = ap (λ x. leaves left ++ x) r.continues;
      }
  deepens (more_done {sort = sort} {level = level} {left = left} {form = form} {text = text} {middle = middle} {parts = parts} chosen fit fit' down run more) e = λ is.
      let p = sound T laws run in
      let next = laws.next sort level left text form chosen in
      let m = deepens more e (after form next.left_level next.own_sort next.own_row next.own_left next.own_level (at_level T sort level next.left_level left next.binds is) p.0) in
      record {
        front = leaves parts ++ m.front;
        leaf = m.leaf;
        others = m.others;
        more = m.more;
        tree = m.tree;
        spelled = m.spelled;
        passed = p.1 ∙ ap (λ x. leaves parts ++ x) m.passed ∙ sym (append_assoc (leaves parts) m.front _);
        at = m.at;
        continues = m.continues ∙ regroup (leaves left) (leaves parts) m.front (m.leaf ∷ m.more);
      }
