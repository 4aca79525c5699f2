-- A reading against a tree that could have been read: on two texts that are the same in front, a reader reads the same
-- tree, or it has come to where they part; and a fault stands no earlier, unless the tree has no room.
use Rattle.std.proofs.Common.{◌≡◌, ℕ, suc, ◌+◌, ◌<◌, ◌≤◌, ◌⊎◌, inl, inr, true, false, List, [], ◌∷◌, ◌++◌, Some, None, length, sym, refl, ◌∙◌, ap, subst, arith}
use Rattle.c_grammar.specs.Table.{Tree, Alone, Then, Node, Take, Stuck, Table, height}
use Rattle.c_grammar.specs.Runs.{Job, Parts, Whole, More, Fault, Bad, Deep, Memory, Outcome, Done, Failed, fits_first, next_row, Run, no_memory, at_end, unfit, token_done, token_failed, part_done, part_failed, then_failed, never, stuck, stuck_deep, first_deep, second_deep, row_failed, row_done, no_more, more_deep, more_failed, more_done}
use Rattle.c_grammar.specs.Laws.{lowest, Within, Tells, Bounds}

decide : {A B C : Type 0} → A ⊎ B → (A → C) → (B → C) → C
decide (inl a) f g = f a
decide (inr b) f g = g b

pub within_more : {Leaf Production : Type 0} (outcome : Outcome Leaf Production) (n m : ℕ) → n ≤ m → Within n outcome → Within m outcome
within_more (Done tree behind) n m le h = omega (arith, le, h)
within_more (Failed Bad behind) n m le h = omega (arith, le, h)
within_more (Failed Deep behind) n m le h = omega (arith, le, h)
within_more (Failed Memory behind) n m le h = tt

-- What was read tree for tree, or has come to where the texts part.
pub data Kept {Leaf Production : Type 0} (u u' : List Leaf) (tree : Tree Leaf Production) (behind : List Leaf) (tree' : Tree Leaf Production) (behind' : List Leaf) : Type 0 where
  past : length behind ≤ length u → Kept u u' tree behind tree' behind'
  same : tree ≡ tree' → (common : List Leaf) → behind ≡ common ++ u → behind' ≡ common ++ u' → Kept u u' tree behind tree' behind'

abbrev pub Verdict : {Leaf Kind Sort Production : Type 0} → (T : Table Leaf Kind Sort Production) → (room : ℕ) → (u u' : List Leaf) → (tree' : Tree Leaf Production) → (behind' : List Leaf) → Outcome Leaf Production → Type 0
Verdict T room u u' tree' behind' (Done tree behind) = Kept u u' tree behind tree' behind'
Verdict T room u u' tree' behind' (Failed Bad behind) = length behind ≤ length u
Verdict T room u u' tree' behind' (Failed Deep behind) = (length behind ≤ length u) ⊎ (room < height T tree')
Verdict T room u u' tree' behind' (Failed Memory behind) = Unit {0}

module _ {Leaf Kind Sort Production : Type 0} (T : Table Leaf Kind Sort Production) where
  -- A reader goes forward.
  pub shrinks : {job : Job Leaf Kind Sort Production} {room : ℕ} {text : List Leaf} {outcome : Outcome Leaf Production} → Run T job room text outcome → Within (length text) outcome
  shrinks (no_memory behind) = tt
  shrinks at_end = omega arith
  shrinks (unfit none) = omega arith
  shrinks (token_done fits run) = omega (arith, shrinks run)
  shrinks (token_failed {text = text} {behind = behind} {fault = fault} fits run) = within_more {Production = Production} (Failed fault behind) (length text) (suc (length text)) (omega arith) (shrinks run)
  shrinks (part_done run others) = omega (arith, shrinks run, shrinks others)
  shrinks (part_failed run) = shrinks run
  shrinks (then_failed {text = text} {middle = middle} {behind = behind} {fault = fault} run others) = within_more {Production = Production} (Failed fault behind) (length middle) (length text) (shrinks run) (shrinks others)
  shrinks (never chosen) = omega arith
  shrinks (stuck chosen fit) = omega arith
  shrinks (stuck_deep chosen deep) = omega arith
  shrinks (first_deep chosen deep) = omega arith
  shrinks (second_deep chosen fit deep) = omega arith
  shrinks (row_failed chosen fit fit' down run) = shrinks run
  shrinks (row_done {text = text} {middle = middle} {outcome = outcome} chosen fit fit' down run others) = within_more outcome (length middle) (length text) (shrinks run) (shrinks others)
  shrinks (no_more none) = omega arith
  shrinks (more_deep chosen deep) = omega arith
  shrinks (more_failed chosen fit fit' down run) = shrinks run
  shrinks (more_done {text = text} {middle = middle} {outcome = outcome} chosen fit fit' down run others) = within_more outcome (length middle) (length text) (shrinks run) (shrinks others)

  from_past : (room : ℕ) (u u' : List Leaf) (tree' : Tree Leaf Production) (behind' : List Leaf) (outcome : Outcome Leaf Production) → Within (length u) outcome → Verdict T room u u' tree' behind' outcome
  from_past room u u' tree' behind' (Done tree behind) h = past h
  from_past room u u' tree' behind' (Failed Bad behind) h = h
  from_past room u u' tree' behind' (Failed Deep behind) h = inl h
  from_past room u u' tree' behind' (Failed Memory behind) h = tt

  -- a reading that begins where the texts part
  begun_past : (room : ℕ) (u u' : List Leaf) (tree' : Tree Leaf Production) (behind' : List Leaf) {job : Job Leaf Kind Sort Production} {own : ℕ} {text : List Leaf} {outcome : Outcome Leaf Production} → length text ≤ length u → Run T job own text outcome → Verdict T room u u' tree' behind' outcome
  begun_past room u u' tree' behind' {text = text} {outcome = outcome} le run = from_past room u u' tree' behind' outcome (within_more outcome (length text) (length u) le (shrinks run))

  wider : (fault : Fault) (behind : List Leaf) (room room2 : ℕ) (u u' : List Leaf) (tree' tree2 : Tree Leaf Production) (behind' behind2 : List Leaf) → (room < height T tree' → room2 < height T tree2) → Verdict T room u u' tree' behind' (Failed fault behind) → Verdict T room2 u u' tree2 behind2 (Failed fault behind)
  wider Bad behind room room2 u u' tree' tree2 behind' behind2 f h = h
  wider Deep behind room room2 u u' tree' tree2 behind' behind2 f (inl h) = inl h
  wider Deep behind room room2 u u' tree' tree2 behind' behind2 f (inr h) = inr (f h)
  wider Memory behind room room2 u u' tree' tree2 behind' behind2 f h = tt

  kept_then : (u u' : List Leaf) (first first' others others' : Tree Leaf Production) (behind behind' : List Leaf) → first ≡ first' → Kept u u' others behind others' behind' → Kept u u' (Then first others) behind (Then first' others') behind'
  kept_then u u' first first' others others' behind behind' e (past h) = past h
  kept_then u u' first first' others others' behind behind' e (same e' common a b) = same (cc (e, e')) common a b

  kept_part : (u u' : List Leaf) (tree tree' others others' : Tree Leaf Production) (middle middle' behind behind' : List Leaf) → Kept u u' tree middle tree' middle' → length behind ≤ length middle → ((common : List Leaf) → middle ≡ common ++ u → middle' ≡ common ++ u' → Kept u u' others behind others' behind') → Kept u u' (Then tree others) behind (Then tree' others') behind'
  kept_part u u' tree tree' others others' middle middle' behind behind' (past h) le f = past (omega (arith, h, le))
  kept_part u u' tree tree' others others' middle middle' behind behind' (same e common a b) le f = kept_then u u' tree tree' others others' behind behind' e (f common a b)

  -- what comes of a reading behind another
  onward : (room : ℕ) (u u' : List Leaf) (tree tree' : Tree Leaf Production) (middle middle' : List Leaf) (whole' : Tree Leaf Production) (behind' : List Leaf) (outcome : Outcome Leaf Production) → Kept u u' tree middle tree' middle' → Within (length middle) outcome → (tree ≡ tree' → (common : List Leaf) → middle ≡ common ++ u → middle' ≡ common ++ u' → Verdict T room u u' whole' behind' outcome) → Verdict T room u u' whole' behind' outcome
  onward room u u' tree tree' middle middle' whole' behind' outcome (past h) within f = from_past room u u' whole' behind' outcome (within_more outcome (length middle) (length u) h within)
  onward room u u' tree tree' middle middle' whole' behind' outcome (same e common a b) within f = f e common a b

  -- What goes on behind a tree is no lower.
  pub grows : {sort : Sort} {level : ℕ} {left : Tree Leaf Production} {room : ℕ} {text : List Leaf} {tree : Tree Leaf Production} {behind : List Leaf} → Run T (More sort level left) room text (Done tree behind) → height T left ≤ height T tree
  grows (no_more none) = omega arith
  grows (more_done chosen fit fit' down run others) = omega (arith, grows others)

  pub record ChosenRow (sort : Sort) (level : ℕ) (text : List Leaf) (tree : Tree Leaf Production) : Type 0 where
    pub form : Production
    pub first : ℕ
    pub second : ℕ
    pub chosen : T.choose sort level text ≡ Take form first second
    pub first_fits : first ≤ height T tree
    pub second_fits : second ≤ height T tree

  module _ (bounds : Bounds T) where
    pub chosen_row : {sort : Sort} {level room : ℕ} {text : List Leaf} {tree : Tree Leaf Production} {behind : List Leaf} → Run T (Whole sort level) room text (Done tree behind) → ChosenRow sort level text tree
    chosen_row {sort = sort} {level = level} {text = text} (row_done {below = below} {first = first} {second = second} {form = form} {middle = middle} {parts = parts} chosen fit fit' down run others) =
        let le : first ≤ second = bounds.first_least sort level text form first second chosen in
        let row : second ≤ height T parts + T.weight form = bounds.row_least sort level text form first second below parts middle chosen run in
        let up = grows others in
        record { form = form; first = first; second = second; chosen = chosen; first_fits = omega (arith, le, row, up); second_fits = omega (arith, row, up) }

  module _ (tells : Tells T) (bounds : Bounds T) where
    same_lowest : (sort : Sort) (level : ℕ) (leaf : Leaf) (rest rest' text text' : List Leaf) → text ≡ leaf ∷ rest → text' ≡ leaf ∷ rest' → lowest (T.choose sort level text) ≡ lowest (T.choose sort level text')
    same_lowest sort level leaf rest rest' text text' e e' =
        ap (λ x. lowest (T.choose sort level x)) e ∙ tells.same_first sort level leaf rest rest' ∙ sym (ap (λ x. lowest (T.choose sort level x)) e')

    same_choice : (sort : Sort) (level : ℕ) (leaf next : Leaf) (rest rest' text text' : List Leaf) → text ≡ leaf ∷ next ∷ rest → text' ≡ leaf ∷ next ∷ rest' → T.choose sort level text ≡ T.choose sort level text'
    same_choice sort level leaf next rest rest' text text' e e' =
        ap (T.choose sort level) e ∙ tells.same_second sort level leaf next rest rest' ∙ sym (ap (T.choose sort level) e')

    same_next : (sort : Sort) (level : ℕ) (left : Tree Leaf Production) (leaf : Leaf) (rest rest' text text' : List Leaf) → text ≡ leaf ∷ rest → text' ≡ leaf ∷ rest' → next_row T sort level left text ≡ next_row T sort level left text'
    same_next sort level left leaf rest rest' text text' e e' = ap (next_row T sort level left) e ∙ sym (ap (next_row T sort level left) e')

    -- the same row on both texts, or one that passes the only leaf that they share
    same_row : (sort : Sort) (level room below : ℕ) (leaf : Leaf) (common u u' text text' : List Leaf) (form form' : Production) (first second first' second' : ℕ) → text ≡ leaf ∷ (common ++ u) → text' ≡ leaf ∷ (common ++ u') → T.choose sort level text ≡ Take form first second → T.choose sort level text' ≡ Take form' first' second' → second ≤ room → below + T.weight form ≡ room → (form ≡ form') ⊎ ((outcome : Outcome Leaf Production) → Run T (Parts (T.symbols form)) below text outcome → Within (length u) outcome)
    same_row sort level room below leaf [] u u' text text' form form' first second first' second' e e' chosen chosen' fit down =
        decide (tells.takes_first sort level leaf u u' form form' first second first' second' (sym (ap (T.choose sort level) e) ∙ chosen) (sym (ap (T.choose sort level) e') ∙ chosen')) inl (λ h. inr (λ outcome run. h room below outcome fit down (subst (λ x. Run T (Parts (T.symbols form)) below x outcome) e run)))
    same_row sort level room below leaf (next ∷ common) u u' text text' form form' first second first' second' e e' chosen chosen' fit down =
        let both = same_choice sort level leaf next (common ++ u) (common ++ u') text text' e e' in
        let rows : Take form first second ≡ Take form' first' second' = sym chosen ∙ both ∙ chosen' in
        inl (cc rows)

    pub exact : {job : Job Leaf Kind Sort Production} {room : ℕ} {text : List Leaf} {outcome : Outcome Leaf Production} → Run T job room text outcome → (common u u' text' : List Leaf) → text ≡ common ++ u → text' ≡ common ++ u' → (room' : ℕ) (tree' : Tree Leaf Production) (behind' : List Leaf) → Run T job room' text' (Done tree' behind') → Verdict T room u u' tree' behind' outcome
    exact (no_memory behind) common u u' text' e e' room' tree' behind' target = tt
    exact at_end common u u' text' e e' room' tree' behind' at_end = same refl common e e'
    exact (unfit none) [] u u' text' e e' room' tree' behind' target = omega (arith, ap length e)
    exact (unfit {kind = kind} {text = text} none) (x ∷ common) u u' text' e e' room' tree' behind' (token_done {leaf = leaf'} {text = text1'} fits' target) =
        let h' : leaf' ∷ text1' ≡ x ∷ (common ++ u') = e' in
        let leaf_same : leaf' ≡ x = cc h' in
        let here : fits_first T kind text ≡ T.fits kind x = ap (fits_first T kind) e in
        let there : T.fits kind leaf' ≡ T.fits kind x = ap (T.fits kind) leaf_same in
        let clash : true ≡ false = sym fits' ∙ there ∙ sym here ∙ none in
        absurd (cc clash)
    exact (token_done {leaf = leaf} {text = text} fits run) [] u u' text' e e' room' tree' behind' target = past (omega (arith, shrinks run, ap length e))
    exact (token_done {leaf = leaf} {text = text} {behind = behind} {others = others} fits run) (x ∷ common) u u' text' e e' room' tree' behind' (token_done {leaf = leaf'} {text = text1'} {behind = behind1'} {others = others'} fits' target) =
        let h : leaf ∷ text ≡ x ∷ (common ++ u) = e in
        let h' : leaf' ∷ text1' ≡ x ∷ (common ++ u') = e' in
        let same_leaf : leaf ≡ leaf' = cc (h, h') in
        kept_then u u' (Alone leaf) (Alone leaf') others others' behind behind1' (ap Alone same_leaf) (exact run common u u' text1' (cc h) (cc h') room' others' behind1' target)
    exact (token_failed {text = text} {behind = behind} {fault = fault} fits run) [] u u' text' e e' room' tree' behind' target = begun_past _ u u' tree' behind' (omega (arith, ap length e)) run
    exact (token_failed {room = room} {leaf = leaf} {text = text} {behind = behind} {fault = fault} fits run) (x ∷ common) u u' text' e e' room' tree' behind' (token_done {leaf = leaf'} {text = text1'} {behind = behind1'} {others = others'} fits' target) =
        let h : leaf ∷ text ≡ x ∷ (common ++ u) = e in
        let h' : leaf' ∷ text1' ≡ x ∷ (common ++ u') = e' in
        wider fault behind room room u u' others' (Then (Alone leaf') others') behind1' behind1' (λ deep. omega (arith, deep)) (exact run common u u' text1' (cc h) (cc h') room' others' behind1' target)
    exact (part_done {middle = middle} {behind = behind} {tree = tree} {others = others} run more) common u u' text' e e' room' tree' behind' (part_done {middle = middle'} {behind = behind1'} {tree = tree1'} {others = others'} target target') =
        kept_part u u' tree tree1' others others' middle middle' behind behind1' (exact run common u u' text' e e' room' tree1' middle' target) (shrinks more) (λ c a b. exact more c u u' middle' a b room' others' behind1' target')
    exact (part_failed {room = room} {behind = behind} {fault = fault} run) common u u' text' e e' room' tree' behind' (part_done {middle = middle'} {behind = behind1'} {tree = tree1'} {others = others'} target target') =
        wider fault behind room room u u' tree1' (Then tree1' others') middle' behind1' (λ deep. omega (arith, deep)) (exact run common u u' text' e e' room' tree1' middle' target)
    exact (then_failed {room = room} {middle = middle} {behind = behind} {tree = tree} {fault = fault} run more) common u u' text' e e' room' tree' behind' (part_done {middle = middle'} {behind = behind1'} {tree = tree1'} {others = others'} target target') =
        onward room u u' tree tree1' middle middle' (Then tree1' others') behind1' (Failed fault behind) (exact run common u u' text' e e' room' tree1' middle' target) (shrinks more)
        (λ same_tree c a b. wider fault behind room room u u' others' (Then tree1' others') behind1' behind1' (λ deep. omega (arith, deep)) (exact more c u u' middle' a b room' others' behind1' target'))
    exact (never chosen) [] u u' text' e e' room' tree' behind' target = omega (arith, ap length e)
    exact (never {sort = sort} {level = level} {text = text} chosen) (x ∷ common) u u' text' e e' room' tree' behind' target =
        let row = chosen_row bounds target in
        let both = same_lowest sort level x (common ++ u) (common ++ u') text text' e e' in
        let clash : None ≡ Some row.first = sym (ap lowest chosen) ∙ both ∙ ap lowest row.chosen in
        absurd (cc clash)
    exact (stuck chosen fit) [] u u' text' e e' room' tree' behind' target = omega (arith, ap length e)
    exact (stuck chosen fit) (x ∷ []) u u' text' e e' room' tree' behind' target = omega (arith, ap length e)
    exact (stuck {sort = sort} {level = level} {first = first} {leaf = leaf} {text = text} chosen fit) (x ∷ y ∷ common) u u' text' e e' room' tree' behind' target =
        let row = chosen_row bounds target in
        let both = same_choice sort level x y (common ++ u) (common ++ u') (leaf ∷ text) text' e e' in
        let clash : Stuck first ≡ Take row.form row.first row.second = sym chosen ∙ both ∙ row.chosen in
        absurd (cc clash)
    exact (stuck_deep chosen deep) [] u u' text' e e' room' tree' behind' target = inl (omega (arith, ap length e))
    exact (stuck_deep {sort = sort} {level = level} {first = first} {text = text} chosen deep) (x ∷ common) u u' text' e e' room' tree' behind' target =
        let row = chosen_row bounds target in
        let both = same_lowest sort level x (common ++ u) (common ++ u') text text' e e' in
        let equal : Some first ≡ Some row.first = sym (ap lowest chosen) ∙ both ∙ ap lowest row.chosen in
        let same_first : first ≡ row.first = cc equal in
        inr (omega (arith, deep, same_first, row.first_fits))
    exact (first_deep chosen deep) [] u u' text' e e' room' tree' behind' target = inl (omega (arith, ap length e))
    exact (first_deep {sort = sort} {level = level} {first = first} {text = text} chosen deep) (x ∷ common) u u' text' e e' room' tree' behind' target =
        let row = chosen_row bounds target in
        let both = same_lowest sort level x (common ++ u) (common ++ u') text text' e e' in
        let equal : Some first ≡ Some row.first = sym (ap lowest chosen) ∙ both ∙ ap lowest row.chosen in
        let same_first : first ≡ row.first = cc equal in
        inr (omega (arith, deep, same_first, row.first_fits))
    exact (second_deep chosen fit deep) [] u u' text' e e' room' tree' behind' target = inl (omega (arith, ap length e))
    exact (second_deep chosen fit deep) (x ∷ []) u u' text' e e' room' tree' behind' target = inl (omega (arith, ap length e))
    exact (second_deep {sort = sort} {level = level} {first = first} {second = second} {form = form} {leaf = leaf} {text = text} chosen fit deep) (x ∷ y ∷ common) u u' text' e e' room' tree' behind' target =
        let row = chosen_row bounds target in
        let both = same_choice sort level x y (common ++ u) (common ++ u') (leaf ∷ text) text' e e' in
        let rows : Take form first second ≡ Take row.form row.first row.second = sym chosen ∙ both ∙ row.chosen in
        let same_second : second ≡ row.second = cc rows in
        inr (omega (arith, deep, same_second, row.second_fits))
    exact (row_failed chosen fit fit' down run) [] u u' text' e e' room' tree' behind' target = begun_past _ u u' tree' behind' (omega (arith, ap length e)) run
    exact (row_failed {sort = sort} {level = level} {room = room} {below = below} {first = first} {second = second} {form = form} {text = text} {behind = behind} {fault = fault} chosen fit fit' down run) (x ∷ common) u u' text' e e' room' tree' behind' (row_done {below = below'} {first = first'} {second = second'} {form = form'} {middle = middle'} {parts = parts'} chosen' fit1 fit1' down' target target') =
        decide (same_row sort level room below x common u u' text text' form form' first second first' second' e e' chosen chosen' fit' down)
        (λ same_form.
        let weights : T.weight form ≡ T.weight form' = ap T.weight same_form in
        let up = grows target' in
        wider fault behind below room u u' parts' tree' middle' behind' (λ deep. omega (arith, deep, down, weights, up))
        (exact run (x ∷ common) u u' text' e e' below' parts' middle' (subst (λ f. Run T (Parts (T.symbols f)) below' text' (Done parts' middle')) (sym same_form) target)))
        (λ passes. from_past room u u' tree' behind' (Failed fault behind) (passes (Failed fault behind) run))
    exact (row_done {text = text} {middle = middle} {outcome = outcome} chosen fit fit' down run more) [] u u' text' e e' room' tree' behind' target =
        from_past _ u u' tree' behind' outcome (within_more outcome (length middle) (length u) (omega (arith, shrinks run, ap length e)) (shrinks more))
    exact (row_done {sort = sort} {level = level} {room = room} {below = below} {first = first} {second = second} {form = form} {text = text} {middle = middle} {parts = parts} {outcome = outcome} chosen fit fit' down run more) (x ∷ common) u u' text' e e' room' tree' behind' (row_done {below = below'} {first = first'} {second = second'} {form = form'} {middle = middle'} {parts = parts'} chosen' fit1 fit1' down' target target') =
        decide (same_row sort level room below x common u u' text text' form form' first second first' second' e e' chosen chosen' fit' down)
        (λ same_form. onward room u u' parts parts' middle middle' tree' behind' outcome
        (exact run (x ∷ common) u u' text' e e' below' parts' middle' (subst (λ f. Run T (Parts (T.symbols f)) below' text' (Done parts' middle')) (sym same_form) target))
        (shrinks more)
        (λ same_parts c a b.
        let node : Node form' parts' ≡ Node form parts = cc (same_form, same_parts) in
        exact more c u u' middle' a b room' tree' behind' (subst (λ t. Run T (More sort level t) room' middle' (Done tree' behind')) node target')))
        (λ passes. from_past room u u' tree' behind' outcome (within_more outcome (length middle) (length u) (passes (Done parts middle) run) (shrinks more)))
    exact (no_more none) common u u' text' e e' room' tree' behind' (no_more none') = same refl common e e'
    exact (no_more none) [] u u' text' e e' room' tree' behind' (more_done chosen' fit1 fit1' down' target target') = past (omega (arith, ap length e))
    exact (no_more {sort = sort} {level = level} {left = left} {text = text} none) (x ∷ common) u u' text' e e' room' tree' behind' (more_done {form = form'} chosen' fit1 fit1' down' target target') =
        let clash : None ≡ Some form' = sym none ∙ same_next sort level left x (common ++ u) (common ++ u') text text' e e' ∙ chosen' in
        absurd (cc clash)
    exact (more_deep chosen deep) [] u u' text' e e' room' tree' behind' target = inl (omega (arith, ap length e))
    exact (more_deep {sort = sort} {level = level} {left = left} {form = form} {text = text} chosen deep) (x ∷ common) u u' text' e e' room' tree' behind' (no_more none') =
        let clash : Some form ≡ None = sym chosen ∙ same_next sort level left x (common ++ u) (common ++ u') text text' e e' ∙ none' in
        absurd (cc clash)
    exact (more_deep {sort = sort} {level = level} {left = left} {form = form} {text = text} chosen deep) (x ∷ common) u u' text' e e' room' tree' behind' (more_done {below = below'} {form = form'} {middle = middle'} {parts = parts'} chosen' fit1 fit1' down' target target') =
        let forms : Some form ≡ Some form' = sym chosen ∙ same_next sort level left x (common ++ u) (common ++ u') text text' e e' ∙ chosen' in
        let same_form : form ≡ form' = cc forms in
        let weights : T.weight form ≡ T.weight form' = ap T.weight same_form in
        let needs : T.left_need form ≡ T.left_need form' = ap T.left_need same_form in
        let up = grows target' in
        let row = bounds.left_least form' below' text' parts' middle' target in
        inr (omega (arith, deep, weights, needs, up, row))
    exact (more_failed chosen fit fit' down run) [] u u' text' e e' room' tree' behind' target = begun_past _ u u' tree' behind' (omega (arith, ap length e)) run
    exact (more_failed {sort = sort} {level = level} {left = left} {form = form} {text = text} {behind = behind} {fault = fault} chosen fit fit' down run) (x ∷ common) u u' text' e e' room' tree' behind' (no_more none') =
        let clash : Some form ≡ None = sym chosen ∙ same_next sort level left x (common ++ u) (common ++ u') text text' e e' ∙ none' in
        absurd (cc clash)
    exact (more_failed {sort = sort} {level = level} {room = room} {below = below} {left = left} {form = form} {text = text} {behind = behind} {fault = fault} chosen fit fit' down run) (x ∷ common) u u' text' e e' room' tree' behind' (more_done {below = below'} {form = form'} {middle = middle'} {parts = parts'} chosen' fit1 fit1' down' target target') =
        let forms : Some form ≡ Some form' = sym chosen ∙ same_next sort level left x (common ++ u) (common ++ u') text text' e e' ∙ chosen' in
        let same_form : form ≡ form' = cc forms in
        let weights : T.weight form ≡ T.weight form' = ap T.weight same_form in
        let up = grows target' in
        wider fault behind below room u u' parts' tree' middle' behind' (λ deep. omega (arith, deep, down, weights, up))
        (exact run (x ∷ common) u u' text' e e' below' parts' middle' (subst (λ f. Run T (Parts (T.symbols f)) below' text' (Done parts' middle')) (sym same_form) target))
    exact (more_done {text = text} {middle = middle} {outcome = outcome} chosen fit fit' down run more) [] u u' text' e e' room' tree' behind' target =
        from_past _ u u' tree' behind' outcome (within_more outcome (length middle) (length u) (omega (arith, shrinks run, ap length e)) (shrinks more))
    exact (more_done {sort = sort} {level = level} {left = left} {form = form} {text = text} {outcome = outcome} chosen fit fit' down run more) (x ∷ common) u u' text' e e' room' tree' behind' (no_more none') =
        let clash : Some form ≡ None = sym chosen ∙ same_next sort level left x (common ++ u) (common ++ u') text text' e e' ∙ none' in
        absurd (cc clash)
    exact (more_done {sort = sort} {level = level} {room = room} {below = below} {left = left} {form = form} {text = text} {middle = middle} {parts = parts} {outcome = outcome} chosen fit fit' down run more) (x ∷ common) u u' text' e e' room' tree' behind' (more_done {below = below'} {form = form'} {middle = middle'} {parts = parts'} chosen' fit1 fit1' down' target target') =
        let forms : Some form ≡ Some form' = sym chosen ∙ same_next sort level left x (common ++ u) (common ++ u') text text' e e' ∙ chosen' in
        let same_form : form ≡ form' = cc forms in
        onward room u u' parts parts' middle middle' tree' behind' outcome
        (exact run (x ∷ common) u u' text' e e' below' parts' middle' (subst (λ f. Run T (Parts (T.symbols f)) below' text' (Done parts' middle')) (sym same_form) target))
        (shrinks more)
        (λ same_parts c a b.
        let node : Node form' (Then left parts') ≡ Node form (Then left parts) = cc (same_form, same_parts) in
        exact more c u u' middle' a b room' tree' behind' (subst (λ t. Run T (More sort level t) room' middle' (Done tree' behind')) node target'))
