-- The literals of a program.
use Rattle.c_syntax.specs.Trees.{ProgramTree}
use Rattle.c_rules.specs.Elaborated.{literals_in_items}
use Rattle.c_rules.specs.Fitting.{AreListed}

-- Each literal is the one that is found at its place. So it is where no two literals have one place, as in every text.
abbrev pub LiteralsApart : ProgramTree → Type 0
LiteralsApart program = AreListed (literals_in_items program.items) (literals_in_items program.items)
