use Rattle.std.proofs.Common.{◌≡◌, length, map}
use Rattle.c_lexer.specs.Tables.{kind_in}
use Rattle.c_lexer.proofs.tables.kind_in.Given as goal

abbrev pub invariant-loop-table : goal.invariant-loop-table
invariant-loop-table l = kind_in (map (λ row. (row.0.now, row.1)) l.table) l.spelling ≡ kind_in (map (λ row. (row.0.now, row.1)) l.initial.table) l.spelling

abbrev pub decreases-loop-table : goal.decreases-loop-table
decreases-loop-table l = length l.table
