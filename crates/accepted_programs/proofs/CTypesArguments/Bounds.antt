-- Within the limits, the types that a text names are narrow.
use Rattle.std.proofs.Common.{◌≡◌, ℕ, ◌≤◌, ltb-false, nat_lt, Bool, true, false, cond, List, [], ◌∷◌, map, Option, Some, None, refl, sym}
use Rattle.std.proofs.lemmas.Option.{none-some}
use Rattle.run_theory.specs.declared.place.Pos.{Pos}
use Rattle.c_typed.specs.Types.{CType, CTypes, Void, Integer, Pointer, Array, Struct, Function, NoTypes, MoreTypes}
use Rattle.c_typed.specs.Typed.{Program}
use Rattle.c_rules.specs.Known.{is_before}
use Rattle.c_rules.proofs.Nothing.{both_none}
use Rattle.c_rules.specs.Named.{NamedType}
use Rattle.c_types.specs.declared.limits.Limit.{Limit}
use Rattle.c_types.specs.declared.limits.Limit.TheVariants.{L1, L2}
use Rattle.c_types.specs.declared.limits.LimitErr.{LimitErr}
use Rattle.c_types.specs.Limits.{first_above, parts, parts_of_each, parameters_of, Excess, excess_at, excesses, earliest, first_excess, excess_count, exceeds, exceeded}
use Rattle.accepted_programs.specs.Small.{Every}
use Rattle.accepted_programs.proofs.CTypesSizes.Holding.{every_left, every_right}
use Rattle.accepted_programs.specs.Narrow.{IsNarrow, AreNarrow, NamedNarrow}

-- ---- no limit is exceeded

none_exceeded : (limit : Limit) (found : Option ℕ) (others : Option LimitErr) → exceeds limit found others ≡ None → (found ≡ None) × (others ≡ None)
none_exceeded limit None others e = (refl, e)
none_exceeded limit (Some n) others e = absurd (none-some (record { which = limit; count = n }) (sym e))

none_counted : (excess : Option Excess) → excess_count excess ≡ None → excess ≡ None
none_counted None e = refl
none_counted (Some excess) e = absurd (none-some excess.count (sym e))

stays_some : (first : Excess) (others : List Excess) → earliest (Some first) others ≡ None → ⊥
stays_some first [] e = none-some first (sym e)
stays_some first (excess ∷ others) e = by (λ one. stays_some one others) (is_before excess.place first.place) e
  where
    by : ((one : Excess) → earliest (Some one) others ≡ None → ⊥) → (b : Bool) → earliest (cond b (Some excess) (Some first)) others ≡ None → ⊥
    by rest true h = rest excess h
    by rest false h = rest first h

none_first : (found : List Excess) → earliest None found ≡ None → found ≡ []
none_first [] e = refl
none_first (excess ∷ others) e = absurd (stays_some excess others e)

none_at : (place : Pos) (found : Option ℕ) → excess_at place found ≡ [] → found ≡ None
none_at place None e = refl
none_at place (Some n) e = cc

-- ---- types

abbrev Few : CType → Type 0
Few t = parameters_of t ≤ 64

none_above : (types : List CType) → first_above 64 (map parameters_of types) ≡ None → Every Few types
none_above [] e = tt
none_above (t ∷ types) e = by (none_above types) (nat_lt 64 (parameters_of t)) refl e
  where
    by : (first_above 64 (map parameters_of types) ≡ None → Every Few types) → (b : Bool) → nat_lt 64 (parameters_of t) ≡ b → cond b (Some (parameters_of t)) (first_above 64 (map parameters_of types)) ≡ None → Every Few (t ∷ types)
    by rest true is h = absurd (none-some (parameters_of t) (sym h))
    by rest false is h = (ltb-false 64 (parameters_of t) is, rest h)

mutual
  parts_narrow : (t : CType) → Every Few (parts t) → IsNarrow t
  parts_narrow Void all = tt
  parts_narrow (Integer t) all = tt
  parts_narrow (Pointer t) all = parts_narrow t all.1
  parts_narrow (Array t n) all = parts_narrow t all.1
  parts_narrow (Struct tag) all = tt
  parts_narrow (Function t ts) all = ((parts_narrow t (every_left Few (parts t) (parts_of_each ts) all.1), each_narrow ts (every_right Few (parts t) (parts_of_each ts) all.1)), all.0)

  each_narrow : (ts : CTypes) → Every Few (parts_of_each ts) → AreNarrow ts
  each_narrow NoTypes all = tt
  each_narrow (MoreTypes first others) all = (parts_narrow first (every_left Few (parts first) (parts_of_each others) all), each_narrow others (every_right Few (parts first) (parts_of_each others) all))

all_narrow : (named : List NamedType) → excesses parameters_of 64 named ≡ [] → Every NamedNarrow named
all_narrow [] e = tt
all_narrow (first ∷ others) e =
    let found = first_above 64 (map parameters_of (parts first.c_type)) in
    let two = both_none (excess_at first.place found) (excesses parameters_of 64 others) e in
    (parts_narrow first.c_type (none_above (parts first.c_type) (none_at first.place found two.0)), all_narrow others two.1)

-- ---- a program

pub named_narrow : (program : Program) (named : List NamedType) → exceeded program named ≡ None → Every NamedNarrow named
named_narrow program named within =
    let first = none_exceeded L1 _ _ within in
    let second = none_exceeded L2 _ _ first.1 in
    all_narrow named (none_first (excesses parameters_of 64 named) (none_counted (first_excess parameters_of 64 named) second.0))
