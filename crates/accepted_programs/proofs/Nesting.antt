-- A tree of the grammar nests as deep as its height says, and each tree in it below the nodes that count above it.
use Rattle.std.proofs.Common.{ℕ, ◌+◌, ◌≤◌, arith}
use Rattle.c_grammar.specs.Table.{Alone, Nothing, Then, Node, height}
use Rattle.c_grammar.specs.Forms
use Rattle.c_reader.specs.Grammar.{grammar, Parse}

-- On each path of the tree lie at most so many nodes that count.
abbrev pub NestsIn : ℕ → Parse → Type 0
NestsIn n (Alone leaf) = Unit {0}
NestsIn n Nothing = Unit {0}
NestsIn n (Then first others) = NestsIn n first × NestsIn n others
NestsIn n (Node form parts) = (m : ℕ) × (m + Forms.weight_of form ≤ n) × NestsIn m parts

-- They are at most as many as its height.
pub nests_in : (n : ℕ) (parse : Parse) → height grammar parse ≤ n → NestsIn n parse
nests_in n (Alone leaf) low = tt
nests_in n Nothing low = tt
nests_in n (Then front others) low = (nests_in n front (omega (arith, low)), nests_in n others (omega (arith, low)))
nests_in n (Node form parts) low = (height grammar parts, low, nests_in (height grammar parts) parts (omega arith))
