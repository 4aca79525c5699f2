-- What is counted of pools, for each instruction that makes them.
use Rattle.std.specs.Prelude.{ℕ, ◌+◌, ◌-◌, ◌^◌, ◌&&◌, ◌==◌, Bool, min, max, if◌then◌else◌, option_map, Option, Some, None}
use Rattle.pool_isa.specs.declared.site.Site.{Site}
use Rattle.pool_isa.specs.declared.site.PoolCounts.{PoolCounts}

-- For each instruction that has made a pool its counts; for each living pool the instruction that made it; the pools made and objects placed in all,
-- and the fewest slabs that were free at once.
pub record Tally : Type 0 where
  pub counts : Site → Option PoolCounts
  pub origin : ℕ → Option Site
  pub made : ℕ
  pub objects : ℕ
  pub free : ℕ

abbrev pub no_counts : PoolCounts
no_counts = record { made = 0; objects = 0; peak = 0; slabs = 0 }

-- all slabs are free
abbrev pub new_tally : ℕ → Tally
new_tally slabs = record { counts = λ site. None; origin = λ pool. None; made = 0; objects = 0; free = slabs }

-- a count of 64 bits, which stands still at its end
abbrev pub raised : ℕ → ℕ
raised n = min (n + 1) (2 ^ 64 - 1)

abbrev pub same_site : Site → Site → Bool
same_site a b = (a.function == b.function) && (a.place == b.place)

abbrev pub or_none : Option PoolCounts → PoolCounts
or_none None = no_counts
or_none (Some counts) = counts

abbrev pub with_counts : Site → Option PoolCounts → (Site → Option PoolCounts) → Site → Option PoolCounts
with_counts site own counts other = if same_site site other then own else counts other

abbrev pub with_origin : ℕ → Option Site → (ℕ → Option Site) → ℕ → Option Site
with_origin pool own origin other = if pool == other then own else origin other

-- an instruction has made a pool
abbrev pub one_more : PoolCounts → PoolCounts
one_more counts = record counts { made = raised counts.made }

abbrev pub pool_made : Site → ℕ → Tally → Tally
pool_made site pool tally =
    record tally { counts = with_counts site (Some (one_more (or_none (tally.counts site)))) tally.counts; origin = with_origin pool (Some site) tally.origin; made = raised tally.made }

abbrev pub pool_destroyed : ℕ → Tally → Tally
pool_destroyed pool tally = record tally { origin = with_origin pool None tally.origin }

-- an object was placed in a pool, in which so many have lived at once, and which holds so many slabs
abbrev pub one_placed : ℕ → ℕ → PoolCounts → PoolCounts
one_placed peak slabs counts = record counts { objects = raised counts.objects; peak = max counts.peak peak; slabs = max counts.slabs slabs }

abbrev pub counts_placed : ℕ → ℕ → Option Site → (Site → Option PoolCounts) → Site → Option PoolCounts
counts_placed peak slabs None counts = counts
counts_placed peak slabs (Some site) counts = with_counts site (option_map (one_placed peak slabs) (counts site)) counts

-- and so many slabs are free
abbrev pub object_placed : ℕ → ℕ → ℕ → ℕ → Tally → Tally
object_placed pool peak slabs free tally =
    record tally { counts = counts_placed peak slabs (tally.origin pool) tally.counts; objects = raised tally.objects; free = min tally.free free }
