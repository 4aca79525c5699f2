-- Each tree is read from its leaves, where what stands behind it may stand there and there is room for it.
use Rattle.std.proofs.Common.{ℕ, ◌+◌, ◌-◌, ◌≤◌, List, ◌++◌, sym, subst, arith, append_assoc}
use Rattle.c_grammar.specs.Table.{Symbol, Tree, Table, leaves, height, Is, nothing, token, part, IsPart, first, after}
use Rattle.c_grammar.specs.Runs.{Parts, Whole, More, Outcome, Done, Run, at_end, token_done, part_done, row_done, no_more, more_done}
use Rattle.c_grammar.specs.Laws.{Bounds, ReadsTrees, Followed}

module _ {Leaf Kind Sort Production : Type 0} (T : Table Leaf Kind Sort Production) (Ends Stands : Sort → ℕ → Tree Leaf Production → List Leaf → Type 0) (bounds : Bounds T) (laws : ReadsTrees T Ends Stands) where
  mutual
    pub reads_parts : {symbols : List (Symbol Kind Sort)} {trees : Tree Leaf Production} → Is T symbols trees → (text : List Leaf) (room : ℕ) → Followed T Ends symbols trees text → height T trees ≤ room → Run T (Parts symbols) room (leaves trees ++ text) (Done trees text)
    reads_parts nothing text room followed fits = at_end
    reads_parts (token leaf kind_fits others) text room followed fits = token_done kind_fits (reads_parts others text room followed (omega (arith, fits)))
    reads_parts (part {sort = sort} {level = level} {symbols = symbols} {tree = tree} {others = trees} is others free) text room followed fits =
        let ends = laws.ends sort level tree (leaves trees ++ text) is followed.0 in
        let run = reads_chain is level (omega arith) (leaves trees ++ text) room (Done tree (leaves trees ++ text)) ends.1 (omega (arith, fits)) (no_more ends.0) in
        let whole = subst (λ x. Run T (Whole sort level) room x (Done tree (leaves trees ++ text))) (sym (append_assoc (leaves tree) (leaves trees) text)) run in
        part_done whole (reads_parts others text room followed.1 (omega (arith, fits)))

    -- whatever comes behind the tree
    pub reads_chain : {sort : Sort} {own : ℕ} {tree : Tree Leaf Production} → IsPart T sort own tree → (level : ℕ) → own ≤ level → (text : List Leaf) (room : ℕ) (outcome : Outcome Leaf Production) → Stands sort level tree text → height T tree ≤ room → Run T (More sort level tree) room text outcome → Run T (Whole sort level) room (leaves tree ++ text) outcome
    reads_chain (first {sort = sort} {parts = parts} form own_sort own_row own_left own_level is) level le text room outcome stands fits more =
        let up : T.level form ≤ level = omega (arith, own_level, le) in
        let followed = laws.row_followed sort level form parts text own_sort own_row own_left up is stands in
        let chosen = laws.chooses sort level form parts text own_sort own_row own_left up is stands in
        let below = room - T.weight form in
        let run = reads_parts is text (room - T.weight form) followed (omega (arith, fits)) in
        let second_fits : chosen.1 ≤ height T parts + T.weight form = bounds.row_least sort level (leaves parts ++ text) form chosen.0 chosen.1 (room - T.weight form) parts text chosen.2 run in
        let first_fits : chosen.0 ≤ chosen.1 = bounds.first_least sort level (leaves parts ++ text) form chosen.0 chosen.1 chosen.2 in
        row_done chosen.2 (omega (arith, first_fits, second_fits, fits)) (omega (arith, second_fits, fits)) (omega (arith, fits)) run more
    reads_chain (after {sort = sort} {left = left} {parts = parts} form left_level own_sort own_row own_left own_level left_is is) level le text room outcome stands fits more =
        let up : T.level form ≤ level = omega (arith, own_level, le) in
        let followed = laws.next_followed sort level form left_level left parts text own_sort own_row own_left up left_is is stands in
        let goes = laws.goes sort level form left_level left parts text own_sort own_row own_left up left_is is in
        let run = reads_parts is text (room - T.weight form) followed.0 (omega (arith, fits)) in
        let left_fits : T.left_need form ≤ height T parts + T.weight form = bounds.left_least form (room - T.weight form) (leaves parts ++ text) parts text run in
        let behind = more_done goes (omega (arith, left_fits, fits)) (omega (arith, fits)) (omega (arith, fits)) run more in
        let whole = reads_chain left_is level (laws.left_tighter sort level form left_level own_sort own_row own_left up) (leaves parts ++ text) room outcome followed.1 (omega (arith, fits)) behind in
        subst (λ x. Run T (Whole sort level) room x outcome) (sym (append_assoc (leaves left) (leaves parts) text)) whole
