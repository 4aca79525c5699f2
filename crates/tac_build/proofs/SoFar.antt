-- Loops over items: what is told while some are left.
use Rattle.std.proofs.Common.{◌≡◌, ℕ, ◌+◌, ◌≤◌, List, ◌++◌, Option, Some, None, length}
use Rattle.c_num.specs.declared.IntType.{IntType}
use Rattle.c_typed.specs.declared.statement.BlockItem as memory_item
use Rattle.c_typed.specs.declared.statement.SwitchItem as memory_switch
use Rattle.c_typed.specs.StatementViews.{block_in, switch_in}
use Rattle.c_typed.specs.Table.{Interned}
use Rattle.c_typed.specs.TypedNodes.{block_nodes, switch_nodes}
use Rattle.c_typed.specs.Statements.{Within}
use Rattle.tac_ir.specs.declared.register.Register.{Register}
use Rattle.tac_ir.specs.declared.register.PointId.{PointId}
use Rattle.tac_ir.specs.Code.{Op}
use Rattle.tac_build.specs.declared.builder.Builder.{Builder}
use Rattle.tac_build.specs.declared.names.Source.{Source}
use Rattle.tac_build.specs.declared.addressed.Addressed.{Addressed}
use Rattle.tac_build.specs.declared.statements.Ways as memory_ways
use Rattle.tac_build.specs.declared.switches.Label.{Label}
use Rattle.tac_build.specs.declared.switches.Switched.{Switched}
use Rattle.tac_build.specs.declared.homes.Home as memory_home
use Rattle.tac_build.specs.Homes.{takes_block, takes_items}
use Rattle.tac_build.specs.Spots.{Spot}
use Rattle.tac_build.specs.StatementCode.{BlockCode, SwitchCode}
use Rattle.tac_build.specs.Building.{Fills, Grows, points_in, spot_of, names_of}
use Rattle.tac_build.specs.Taken.{taken_block, taken_items}
use Rattle.tac_build.specs.Lowering.{names_for, program_in, types_of_source, scope_of, IsScope, LieInMemory}
use Rattle.tac_build.specs.LoweringStatements.{BlockTyped, ItemsTyped, Foretold, ways_in, TestsStand, place_of}

-- the items of a block of which some are left, in whose scope more locals have begun to live
pub record BlockSoFar (source : Source) (addressed : Addressed) (outer scope : List memory_home.Home) (ways : memory_ways.Ways) (all left : List memory_item.BlockItem) (old now : Builder) : Type 0 where
  pub homes : IsScope source scope
  pub typed : (within : Within) × BlockTyped source scope within left
  pub lives : LieInMemory (scope_of source scope) (λ number. takes_block number (block_in (types_of_source source) left))
  pub foretold : Foretold addressed now.counts.variables (taken_block (length scope) (block_in (types_of_source source) left))
  pub code : (points : List Op) → Fills (points_in (types_of_source source) now) points → (to : Spot)
      → BlockCode (program_in source) points (scope_of source scope) (block_in (types_of_source source) left) (spot_of (types_of_source source) now) to (ways_in source points ways)
      → BlockCode (program_in source) points (scope_of source outer) (block_in (types_of_source source) all) (spot_of (types_of_source source) old) to (ways_in source points ways)
  pub begun : (more : List memory_home.Home) × (scope ≡ outer ++ more)
  pub grows : Grows old now
  pub names : names_of now.counts + names_for (block_nodes (block_in (types_of_source source) left)) ≤ names_of old.counts + names_for (block_nodes (block_in (types_of_source source) all))
  pub variables : now.counts.variables + length (taken_block (length scope) (block_in (types_of_source source) left)) ≡ old.counts.variables + length (taken_block (length outer) (block_in (types_of_source source) all))

-- where `default` leads, if it isn't known yet
abbrev pub or_later : Option ℕ → Option ℕ → Option ℕ
or_later (Some place) later = Some place
or_later None later = later

-- the items of a `switch` of which some are left
pub record ItemsSoFar (source : Source) (addressed : Addressed) (scope : List memory_home.Home) (ways : memory_ways.Ways) (all left : List memory_switch.SwitchItem) (cases : List Label) (default : Option PointId) (old now : Builder) : Type 0 where
  pub typed : (within : Within) × (own : Option IntType) × ItemsTyped source scope within own left
  pub lives : LieInMemory (scope_of source scope) (λ number. takes_items number (switch_in (types_of_source source) left))
  pub foretold : Foretold addressed now.counts.variables (taken_items (length scope) (switch_in (types_of_source source) left))
  pub code : (points : List Op) → Fills (points_in (types_of_source source) now) points → (own : IntType) (switched : Register) (tests last : ℕ) (to : Spot) (later : Option ℕ)
      → TestsStand points own switched tests cases
      → SwitchCode (program_in source) points (scope_of source scope) (switch_in (types_of_source source) left) own switched (tests + length cases) (spot_of (types_of_source source) now) to last later (ways_in source points ways)
      → SwitchCode (program_in source) points (scope_of source scope) (switch_in (types_of_source source) all) own switched tests (spot_of (types_of_source source) old) to last (or_later (place_of default) later)
      (ways_in source points ways)
  pub grows : Grows old now
  pub names : names_of now.counts + names_for (switch_nodes (switch_in (types_of_source source) left)) ≤ names_of old.counts + names_for (switch_nodes (switch_in (types_of_source source) all))
  pub variables : now.counts.variables + length (taken_items (length scope) (switch_in (types_of_source source) left)) ≡ old.counts.variables + length (taken_items (length scope) (switch_in (types_of_source source) all))

-- the tests of labels of which some are left
pub record TestsSoFar (switched : Switched) (all left : List Label) (old now : Builder) : Type 0 where
  pub code : (table : Interned) (points : List Op) → Fills (points_in table now) points
      → TestsStand points switched.int_type switched.register (length now.points.items) left → TestsStand points switched.int_type switched.register (length old.points.items) all
  pub at : Interned → length now.points.items + length left ≡ length old.points.items + length all
  pub spot : (table : Interned) → spot_of table now ≡ record (spot_of table old) { at = length now.points.items }
  pub grows : Grows old now
  pub counts : now.counts ≡ old.counts
