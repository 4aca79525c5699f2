-- The code of each block of a function follows the reference where calls do, in whatever scope they stand: expressions and statements put
-- together.
use Rattle.std.proofs.Common.{◌≡◌, ℕ, true, List, Option}
use Rattle.c_typed.specs.Typed.{Block, Program}
use Rattle.c_typed.specs.Programs.{IsWellTyped}
use Rattle.c_typed.specs.Sizes.{are_filled}
use Rattle.ref_semantics.specs.Values as V
use Rattle.ref_semantics.specs.Meaning.{Calls}
use Rattle.ref_semantics.specs.Keeping.{CallsKeep}
use Rattle.tac_ir.specs.Code.{Op, Tac}
use Rattle.tac_build.specs.Homes.{Scope}
use Rattle.tac_simulation.specs.Standing.{Placement, Frame}
use Rattle.tac_simulation.proofs.Spotting.{Runs}
use Rattle.tac_simulation.proofs.Calling.{CallsDo}
use Rattle.tac_simulation.proofs.Executing.{ExecutesBlock}
use Rattle.tac_simulation.proofs.Following.{value_follows}
use Rattle.tac_simulation.proofs.Whole.{block_does}

pub block_follows : (tac : Tac) (program : Program) (calls : Calls) (worth : ℕ) (points : List Op) (hidden : ℕ → Option V.Content) (frame : Frame) → Runs tac program points frame → IsWellTyped program → CallsKeep program calls
    → are_filled program.structs ≡ true → ((placement : Placement) (scope : Scope) → CallsDo tac program calls worth points placement hidden frame scope) → (items : Block) → ExecutesBlock tac program calls worth points hidden frame items
block_follows tac program calls worth points hidden frame runs well keep filled calls_do items =
    block_does tac program calls worth points hidden frame runs well keep
    (λ placement scope tree. value_follows tac program calls worth points placement hidden frame scope runs well keep filled (calls_do placement scope) tree) items
