-- Whether a range lies in one live cell or object, told by what was found at its begin.
use Rattle.std.proofs.Common.{◌≡◌, ℕ, ◌+◌, ◌-◌, ◌*◌, ◌^◌, Bool, true, false, Some, None, sym, ap, ◌∙◌}
use Rattle.std.proofs.lemmas.Option.{same_Some}
use Rattle.std.specs.BTreeMap.{BTreeMap, get}
use Rattle.std.specs.Ordering.{nat_cmp}
use Rattle.pool_runtime.specs.declared.pool.Pool.{Pool}
use Rattle.pool_runtime.specs.declared.slabs.Found.{Found}
use Rattle.pool_runtime.specs.declared.slabs.Slabs.{Slabs}
use Rattle.pool_runtime.specs.Lookup.{is_covered}
use Rattle.pool_runtime.specs.Changes.{FindsCell, CoversAt}

module _ (slabs : Slabs) (pools : BTreeMap ℕ Pool) (address width : ℕ) where
  pub nothing_found : FindsCell slabs address None → CoversAt slabs pools address width false
  nothing_found finds = λ first count home pool at low high there. let both = finds.there first count home at low high in absurd cc

  module _ (found : Found) (finds : FindsCell slabs address (Some found)) where
    pub no_pool_found : get nat_cmp pools found.home.pool ≡ None → CoversAt slabs pools address width false
    no_pool_found none = λ first count home pool at low high there.
        let same = same_Some _ _ (finds.there first count home at low high) in
        let both = sym none ∙ ap (λ (f : Found). get nat_cmp pools f.home.pool) same ∙ there in absurd cc

    pub pool_found : (pool : Pool) (b : Bool) → get nat_cmp pools found.home.pool ≡ Some pool → b ≡ is_covered pool found width → CoversAt slabs pools address width b
    pool_found pool true there e = record { found = found; pool = pool; there = there; at = finds.at; covered = sym e }
    pool_found pool false there e = λ first count home other at low high other_there.
        let here : Found = record { first = first; within = address - (2 ^ 44 + 4096 * first); home = home } in
        let same = same_Some found here (finds.there first count home at low high) in
        let one = same_Some pool other (sym there ∙ ap (λ (f : Found). get nat_cmp pools f.home.pool) same ∙ other_there) in
        sym (e ∙ ap (λ (f : Found). is_covered pool f width) same ∙ ap (λ (p : Pool). is_covered p here width) one)
