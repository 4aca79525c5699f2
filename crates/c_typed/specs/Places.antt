-- Places in a text.
use Rattle.std.specs.Prelude.{Bool, ◌&&◌, ◌==◌}
use Rattle.run_theory.specs.declared.place.Pos.{Pos}

abbrev pub is_same_place : Pos → Pos → Bool
is_same_place a b = (a.line == b.line) && (a.column == b.column)
