-- What the code's line says.
use Rattle.std.specs.Prelude.{ℕ, ◌^◌, ◌≤◌}
use Rattle.pcc_words.specs.declared.line.Limits.{Limits as CodeLimits}
use Rattle.pcc_words.specs.declared.line.Line.{Line as CodeLine}
use Rattle.pcc_words.specs.declared.line.Line.TheVariants as code
use Rattle.pcc_words.specs.Line.{Limits, Line, NoCommand, NoLine, Build, Exec, Run, Ref, Graph}

abbrev pub limits_seen : CodeLimits → Limits
limits_seen limits = record { slabs = limits.slabs; index = limits.index }

abbrev pub line_seen : CodeLine → Line
line_seen code.NoCommand = NoCommand
line_seen code.NoLine = NoLine
line_seen (code.Build file limits one_pool) = Build file.now (limits_seen limits) one_pool
line_seen (code.Exec file limits one_pool steps) = Exec file.now (limits_seen limits) one_pool steps
line_seen (code.Run file steps) = Run file.now steps
line_seen (code.Ref file steps) = Ref file.now steps
line_seen (code.Graph file) = Graph file.now

-- ---- the ranges of its numbers

pub record AreLimits (limits : CodeLimits) : Type 0 where
  pub slabs : (1 ≤ limits.slabs) × (limits.slabs ≤ 1048576)
  pub index : (1 ≤ limits.index) × (limits.index ≤ 4294967295)

abbrev pub AreSteps : ℕ → Type 0
AreSteps steps = (1 ≤ steps) × (steps ≤ 2 ^ 62)

abbrev pub HasRanges : CodeLine → Type 0
HasRanges code.NoCommand = Unit {0}
HasRanges code.NoLine = Unit {0}
HasRanges (code.Build file limits one_pool) = AreLimits limits
HasRanges (code.Exec file limits one_pool steps) = AreLimits limits × AreSteps steps
HasRanges (code.Run file steps) = AreSteps steps
HasRanges (code.Ref file steps) = AreSteps steps
HasRanges (code.Graph file) = Unit {0}
