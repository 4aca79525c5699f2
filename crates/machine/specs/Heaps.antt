-- What the machine's memory stands for.
use Rattle.std.specs.Prelude.{◌≡◌, ℕ, suc, ◌==◌, if◌then◌else◌, nat_eq, List, [], ◌∷◌, ◌++◌, slice_get, Option, Some, None}
use Rattle.indexmap.specs.IndexMap.{IndexMap, get_by}
use Rattle.slab_space.specs.declared.kind.PoolKind.{PoolKind}
use Rattle.slab_space.specs.PoolSteps.{placed}
use Rattle.slab_space.specs.Pools.{Pools, alloc_step, free_step}
use Rattle.pool_isa.specs.declared.site.Site.{Site}
use Rattle.pool_isa.specs.declared.site.PoolCounts.{PoolCounts}
use Rattle.pool_isa.specs.declared.instr.Instr.{Instr}
use Rattle.pool_isa.specs.declared.instr.Instr.TheVariants as instrs
use Rattle.pool_isa.specs.Tally as counted
use Rattle.pool_isa.specs.Tally.{or_none, same_site}
use Rattle.pool_isa.specs.Machine as machine
use Rattle.machine.specs.declared.tally.Tally.{Tally}
use Rattle.machine.specs.declared.heap.Heap.{Heap}
use Rattle.machine.specs.declared.report.ReportRow.{ReportRow}

abbrev pub counts_in : {S : Type 0} → IndexMap Site PoolCounts S → Site → Option PoolCounts
counts_in map site = get_by (same_site site) map

abbrev pub origin_in : {S : Type 0} → IndexMap ℕ Site S → ℕ → Option Site
origin_in map pool = get_by (nat_eq pool) map

abbrev pub tally_of : Tally → counted.Tally
tally_of tally = record { counts = counts_in tally.counts; origin = origin_in tally.origins; made = tally.made; objects = tally.objects; free = tally.free }

abbrev pub heap_of : Heap → machine.Heap
heap_of heap = record { globals = heap.globals; pools = heap.pools; tally = tally_of heap.tally }

-- ---- pools

-- an object of so many bytes was placed in a pool at an address
pub record PlacesAt (pool bytes : ℕ) (old : machine.Heap) (address : ℕ) (new : machine.Heap) : Type 0 where
  pub pools : Pools
  pub step : alloc_step old.pools pool bytes ≡ placed address pools
  pub heap : new ≡ (if bytes == 0 then old else machine.placing pool pools old)

-- the object of a pool at an address was freed
pub record FreesTo (pool address : ℕ) (old new : machine.Heap) : Type 0 where
  pub step : free_step old.pools pool address ≡ Some new.pools
  pub heap : new ≡ record old { pools = new.pools }

-- ---- reports

-- the row of an instruction that makes pools of a kind
abbrev pub row_at : counted.Tally → Site → PoolKind → ReportRow
row_at tally site kind = record { function = site.function; kind = kind; counts = or_none (tally.counts site) }

abbrev pub row_of : counted.Tally → List PoolKind → Site → Option PoolKind → List ReportRow
row_of tally kinds site None = []
row_of tally kinds site (Some kind) = row_at tally site kind ∷ []

abbrev pub kind_at : List PoolKind → Instr → Option PoolKind
kind_at kinds (instrs.PoolInit kind) = slice_get kinds kind
kind_at kinds _ = None

-- the rows of a function's instructions, from one on
abbrev pub code_rows : counted.Tally → List PoolKind → ℕ → ℕ → List Instr → List ReportRow
code_rows tally kinds function place [] = []
code_rows tally kinds function place (instr ∷ code) =
    row_of tally kinds (record { function = function; place = place }) (kind_at kinds instr) ++ code_rows tally kinds function (suc place) code

-- the rows of all functions, from one on, in their order
abbrev pub function_rows : counted.Tally → List PoolKind → ℕ → List machine.Function → List ReportRow
function_rows tally kinds number [] = []
function_rows tally kinds number (function ∷ functions) = code_rows tally kinds number 0 function.code ++ function_rows tally kinds (suc number) functions
