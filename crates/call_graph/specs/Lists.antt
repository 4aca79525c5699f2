-- Which list each number has.
use Rattle.std.specs.Prelude.{ℕ, List, [], Vec, map, vec_items, get_or}
use Rattle.std.specs.Global.{Global}
use Rattle.call_graph.specs.declared.lists.SharedLists.{SharedLists}

-- the list of an index
abbrev pub list_at : List (Vec ℕ Global) → ℕ → List ℕ
list_at lists index = get_or (map vec_items lists) index []

-- the lists by number
abbrev pub rows_in : SharedLists → List (List ℕ)
rows_in shared = map (list_at shared.lists.keys) shared.list_of.items
