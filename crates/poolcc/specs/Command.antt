-- What a command line is of.
use Rattle.std.specs.Prelude.{◌≡◌, ℕ, List}
use Rattle.image_form.specs.declared.image.MachineLimits.{MachineLimits}
use Rattle.pcc_words.specs.Line.{Line, Limits, Build, Exec, Run, Ref, Graph}

-- the line is of this file
abbrev pub Names : Line → List ℕ → Type 0
Names (Build file limits one_pool) name = file ≡ name
Names (Exec file limits one_pool steps) name = file ≡ name
Names (Run file steps) name = file ≡ name
Names (Ref file steps) name = file ≡ name
Names (Graph file) name = file ≡ name
Names line name = ⊥

-- the limits that the image of a line holds
abbrev pub machine_limits : Limits → MachineLimits
machine_limits limits = record { slabs = limits.slabs; index = limits.index }
