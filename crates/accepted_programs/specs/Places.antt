-- Places that stand one behind another.
use Rattle.std.specs.Prelude.{◌≡◌, ◌+◌, ◌<◌, ◌≤◌, ◌⊎◌, List, [], ◌∷◌}
use Rattle.run_theory.specs.declared.place.Pos.{Pos}
use Rattle.c_grammar.specs.Leaves.{Leaf}
use Rattle.c_typed.specs.Typed.{LiteralDef}

-- The second place is the first or stands behind it, in the order of lines and columns.
abbrev pub NotBefore : Pos → Pos → Type 0
NotBefore first second = (first.line < second.line) ⊎ ((first.line ≡ second.line) × (first.column ≤ second.column))

-- the next column
abbrev pub next_to : Pos → Pos
next_to place = record { line = place.line; column = place.column + 1 }

-- From the place on, each of these stands behind the one before it.
abbrev pub LeavesRise : Pos → List Leaf → Type 0
LeavesRise from [] = Unit {0}
LeavesRise from (leaf ∷ leaves) = NotBefore from leaf.place × LeavesRise (next_to leaf.place) leaves

abbrev pub LiteralsRise : Pos → List LiteralDef → Type 0
LiteralsRise from [] = Unit {0}
LiteralsRise from (literal ∷ literals) = NotBefore from literal.place × LiteralsRise (next_to literal.place) literals
