-- On one text there is one reading.
use Rattle.std.proofs.Common.{◌≡◌, ℕ, ◌<◌, true, false, List, Some, None, sym, refl, ◌∙◌, ap, subst, arith}
use Rattle.c_grammar.specs.Table.{Tree, Alone, Then, Node, Never, Take, Stuck, Table, height}
use Rattle.c_grammar.specs.Runs.{Job, Parts, More, Fault, Bad, Deep, Memory, Outcome, Done, Failed, fits_first, next_row, Run, no_memory, at_end, unfit, token_done, token_failed, part_done, part_failed, then_failed, never, stuck, stuck_deep, first_deep, second_deep, row_failed, row_done, no_more, more_deep, more_failed, more_done}
use Rattle.c_grammar.specs.Laws.{Bounds}
use Rattle.c_grammar.proofs.Exact.{grows, chosen_row}

-- the tree that was read, or want of memory or room
abbrev pub Agrees : {Leaf Kind Sort Production : Type 0} → (T : Table Leaf Kind Sort Production) → (room : ℕ) → (tree' : Tree Leaf Production) → (behind' : List Leaf) → Outcome Leaf Production → Type 0
Agrees T room tree' behind' (Done tree behind) = (tree ≡ tree') × (behind ≡ behind')
Agrees T room tree' behind' (Failed Bad behind) = ⊥
Agrees T room tree' behind' (Failed Deep behind) = room < height T tree'
Agrees T room tree' behind' (Failed Memory behind) = Unit {0}

module _ {Leaf Kind Sort Production : Type 0} (T : Table Leaf Kind Sort Production) where
  higher : (fault : Fault) (behind behind' behind2 : List Leaf) (room room2 : ℕ) (tree' tree2 : Tree Leaf Production) → (room < height T tree' → room2 < height T tree2) → Agrees T room tree' behind' (Failed fault behind) → Agrees T room2 tree2 behind2 (Failed fault behind)
  higher Bad behind behind' behind2 room room2 tree' tree2 f h = h
  higher Deep behind behind' behind2 room room2 tree' tree2 f h = f h
  higher Memory behind behind' behind2 room room2 tree' tree2 f h = tt

  module _ (bounds : Bounds T) where
    pub agree : {job : Job Leaf Kind Sort Production} {room : ℕ} {text : List Leaf} {outcome : Outcome Leaf Production} → Run T job room text outcome → (text' : List Leaf) → text ≡ text' → (room' : ℕ) (tree' : Tree Leaf Production) (behind' : List Leaf) → Run T job room' text' (Done tree' behind') → Agrees T room tree' behind' outcome
    agree (no_memory behind) text' e room' tree' behind' target = tt
    agree at_end text' e room' tree' behind' at_end = (refl, e)
    agree (unfit {kind = kind} none) text' e room' tree' behind' (token_done fits target) =
        let clash : true ≡ false = sym fits ∙ sym (ap (fits_first T kind) e) ∙ none in
        cc clash
    agree (token_done {leaf = leaf} {text = text} {others = others} fits run) text' e room' tree' behind' (token_done {leaf = leaf'} {text = text1'} {behind = behind1'} {others = others'} fits' target) =
        let r = agree run text1' (cc e) room' others' behind1' target in
        let same_first : leaf ≡ leaf' = cc e in
        (cc (same_first, r.0), r.1)
    agree (token_failed {room = room} {leaf = leaf} {text = text} {behind = behind} {fault = fault} fits run) text' e room' tree' behind' (token_done {leaf = leaf'} {text = text1'} {behind = behind1'} {others = others'} fits' target) =
        higher fault behind behind1' behind1' room room others' (Then (Alone leaf') others') (λ deep. omega (arith, deep)) (agree run text1' (cc e) room' others' behind1' target)
    agree (part_done run more) text' e room' tree' behind' (part_done {middle = middle'} {behind = behind1'} {tree = tree1'} {others = others'} target target') =
        let a = agree run text' e room' tree1' middle' target in
        let b = agree more middle' a.1 room' others' behind1' target' in
        (cc (a.0, b.0), b.1)
    agree (part_failed {room = room} {behind = behind} {fault = fault} run) text' e room' tree' behind' (part_done {middle = middle'} {behind = behind1'} {tree = tree1'} {others = others'} target target') =
        higher fault behind middle' behind1' room room tree1' (Then tree1' others') (λ deep. omega (arith, deep)) (agree run text' e room' tree1' middle' target)
    agree (then_failed {room = room} {behind = behind} {fault = fault} run more) text' e room' tree' behind' (part_done {middle = middle'} {behind = behind1'} {tree = tree1'} {others = others'} target target') =
        let a = agree run text' e room' tree1' middle' target in
        higher fault behind behind1' behind1' room room others' (Then tree1' others') (λ deep. omega (arith, deep)) (agree more middle' a.1 room' others' behind1' target')
    agree (never {sort = sort} {level = level} chosen) text' e room' tree' behind' target =
        let row = chosen_row T bounds target in
        let clash : Never ≡ Take row.form row.first row.second = sym chosen ∙ ap (T.choose sort level) e ∙ row.chosen in
        cc clash
    agree (stuck {sort = sort} {level = level} {first = first} chosen fit) text' e room' tree' behind' target =
        let row = chosen_row T bounds target in
        let clash : Stuck first ≡ Take row.form row.first row.second = sym chosen ∙ ap (T.choose sort level) e ∙ row.chosen in
        cc clash
    agree (stuck_deep {sort = sort} {level = level} {first = first} chosen deep) text' e room' tree' behind' target =
        let row = chosen_row T bounds target in
        let clash : Stuck first ≡ Take row.form row.first row.second = sym chosen ∙ ap (T.choose sort level) e ∙ row.chosen in
        absurd (cc clash)
    agree (first_deep {sort = sort} {level = level} {first = first} {second = second} {form = form} chosen deep) text' e room' tree' behind' target =
        let row = chosen_row T bounds target in
        let rows : Take form first second ≡ Take row.form row.first row.second = sym chosen ∙ ap (T.choose sort level) e ∙ row.chosen in
        let same_first : first ≡ row.first = cc rows in
        omega (arith, deep, same_first, row.first_fits)
    agree (second_deep {sort = sort} {level = level} {first = first} {second = second} {form = form} chosen fit deep) text' e room' tree' behind' target =
        let row = chosen_row T bounds target in
        let rows : Take form first second ≡ Take row.form row.first row.second = sym chosen ∙ ap (T.choose sort level) e ∙ row.chosen in
        let same_second : second ≡ row.second = cc rows in
        omega (arith, deep, same_second, row.second_fits)
    agree (row_failed {sort = sort} {level = level} {room = room} {below = below} {first = first} {second = second} {form = form} {behind = behind} {fault = fault} chosen fit fit' down run) text' e room' tree' behind' (row_done {below = below'} {first = first'} {second = second'} {form = form'} {middle = middle'} {parts = parts'} chosen' fit1 fit1' down' target target') =
        let rows : Take form first second ≡ Take form' first' second' = sym chosen ∙ ap (T.choose sort level) e ∙ chosen' in
        let same_form : form ≡ form' = cc rows in
        let weights : T.weight form ≡ T.weight form' = ap T.weight same_form in
        let up = grows T target' in
        higher fault behind middle' behind' below room parts' tree' (λ deep. omega (arith, deep, down, weights, up))
        (agree run text' e below' parts' middle' (subst (λ f. Run T (Parts (T.symbols f)) below' text' (Done parts' middle')) (sym same_form) target))
    agree (row_done {sort = sort} {level = level} {first = first} {second = second} {form = form} {parts = parts} chosen fit fit' down run more) text' e room' tree' behind' (row_done {below = below'} {first = first'} {second = second'} {form = form'} {middle = middle'} {parts = parts'} chosen' fit1 fit1' down' target target') =
        let rows : Take form first second ≡ Take form' first' second' = sym chosen ∙ ap (T.choose sort level) e ∙ chosen' in
        let same_form : form ≡ form' = cc rows in
        let a = agree run text' e below' parts' middle' (subst (λ f. Run T (Parts (T.symbols f)) below' text' (Done parts' middle')) (sym same_form) target) in
        let node : Node form' parts' ≡ Node form parts = cc (same_form, a.0) in
        agree more middle' a.1 room' tree' behind' (subst (λ t. Run T (More sort level t) room' middle' (Done tree' behind')) node target')
    agree (no_more none) text' e room' tree' behind' (no_more none') = (refl, e)
    agree (no_more {sort = sort} {level = level} {left = left} none) text' e room' tree' behind' (more_done {form = form'} chosen' fit1 fit1' down' target target') =
        let clash : None ≡ Some form' = sym none ∙ ap (next_row T sort level left) e ∙ chosen' in
        absurd (cc clash)
    agree (more_deep {sort = sort} {level = level} {left = left} {form = form} chosen deep) text' e room' tree' behind' (no_more none') =
        let clash : Some form ≡ None = sym chosen ∙ ap (next_row T sort level left) e ∙ none' in
        absurd (cc clash)
    agree (more_deep {sort = sort} {level = level} {left = left} {form = form} chosen deep) text' e room' tree' behind' (more_done {below = below'} {form = form'} {middle = middle'} {parts = parts'} chosen' fit1 fit1' down' target target') =
        let forms : Some form ≡ Some form' = sym chosen ∙ ap (next_row T sort level left) e ∙ chosen' in
        let same_form : form ≡ form' = cc forms in
        let weights : T.weight form ≡ T.weight form' = ap T.weight same_form in
        let needs : T.left_need form ≡ T.left_need form' = ap T.left_need same_form in
        let up = grows T target' in
        let row = bounds.left_least form' below' text' parts' middle' target in
        omega (arith, deep, weights, needs, up, row)
    agree (more_failed {sort = sort} {level = level} {left = left} {form = form} chosen fit fit' down run) text' e room' tree' behind' (no_more none') =
        let clash : Some form ≡ None = sym chosen ∙ ap (next_row T sort level left) e ∙ none' in
        absurd (cc clash)
    agree (more_failed {sort = sort} {level = level} {room = room} {below = below} {left = left} {form = form} {behind = behind} {fault = fault} chosen fit fit' down run) text' e room' tree' behind' (more_done {below = below'} {form = form'} {middle = middle'} {parts = parts'} chosen' fit1 fit1' down' target target') =
        let forms : Some form ≡ Some form' = sym chosen ∙ ap (next_row T sort level left) e ∙ chosen' in
        let same_form : form ≡ form' = cc forms in
        let weights : T.weight form ≡ T.weight form' = ap T.weight same_form in
        let up = grows T target' in
        higher fault behind middle' behind' below room parts' tree' (λ deep. omega (arith, deep, down, weights, up))
        (agree run text' e below' parts' middle' (subst (λ f. Run T (Parts (T.symbols f)) below' text' (Done parts' middle')) (sym same_form) target))
    agree (more_done {sort = sort} {level = level} {left = left} {form = form} chosen fit fit' down run more) text' e room' tree' behind' (no_more none') =
        let clash : Some form ≡ None = sym chosen ∙ ap (next_row T sort level left) e ∙ none' in
        absurd (cc clash)
    agree (more_done {sort = sort} {level = level} {left = left} {form = form} {parts = parts} chosen fit fit' down run more) text' e room' tree' behind' (more_done {below = below'} {form = form'} {middle = middle'} {parts = parts'} chosen' fit1 fit1' down' target target') =
        let forms : Some form ≡ Some form' = sym chosen ∙ ap (next_row T sort level left) e ∙ chosen' in
        let same_form : form ≡ form' = cc forms in
        let a = agree run text' e below' parts' middle' (subst (λ f. Run T (Parts (T.symbols f)) below' text' (Done parts' middle')) (sym same_form) target) in
        let node : Node form' (Then left parts') ≡ Node form (Then left parts) = cc (same_form, a.0) in
        agree more middle' a.1 room' tree' behind' (subst (λ t. Run T (More sort level t) room' middle' (Done tree' behind')) node target')
