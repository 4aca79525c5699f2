-- Within the limits, the types that a text names and those of its literals are small.
use Rattle.std.proofs.Common.{◌≡◌, ℕ, suc, ◌*◌, ◌≤◌, ◌<◌, ltb-false, nat_lt, Bool, true, false, cond, List, [], ◌∷◌, map, length, Option, Some, None, refl, sym, arith}
use Rattle.std.proofs.lemmas.Bool.{and_from}
use Rattle.std.proofs.lemmas.Bool.Decides.{Decides-ltb}
use Rattle.std.proofs.lemmas.Option.{none-some}
use Rattle.run_theory.specs.declared.place.Pos.{Pos}
use Rattle.c_num.specs.declared.IntType.TheVariants as I
use Rattle.c_typed.specs.Types.{CType, CTypes, Void, Integer, Pointer, Array, Struct, Function, NoTypes, MoreTypes}
use Rattle.c_typed.specs.Layouts.{StructDef, Table, greatest, saturated, aligned, layout_of, layouts}
use Rattle.c_typed.specs.Typed.{LiteralDef, Program}
use Rattle.c_typed.specs.Sizes.{is_small}
use Rattle.c_rules.specs.Known.{is_before}
use Rattle.c_rules.proofs.Nothing.{both_none}
use Rattle.c_rules.specs.Named.{NamedType}
use Rattle.c_types.specs.declared.limits.Limit.{Limit}
use Rattle.c_types.specs.declared.limits.Limit.TheVariants.{L1, L2, L3, L4, L5, L6}
use Rattle.c_types.specs.declared.limits.LimitErr.{LimitErr}
use Rattle.c_types.specs.Limits.{added, first_above, parts, parts_of_each, parameters_of, slots_of, size_of, Excess, excess_at, excesses, earliest, first_excess, excess_count, frames, globals_size, literals_size, exceeds, above, exceeded}
use Rattle.accepted_programs.specs.Small.{Every, IsSmall, small_type, small_types, NamedSmall, LiteralSmall}
use Rattle.accepted_programs.proofs.CTypesSizes.Holding.{every_left, every_right}

-- ---- no limit is exceeded

none_exceeded : (limit : Limit) (found : Option ℕ) (others : Option LimitErr) → exceeds limit found others ≡ None → (found ≡ None) × (others ≡ None)
none_exceeded limit None others e = (refl, e)
none_exceeded limit (Some n) others e = absurd (none-some (record { which = limit; count = n }) (sym e))

none_counted : (excess : Option Excess) → excess_count excess ≡ None → excess ≡ None
none_counted None e = refl
none_counted (Some excess) e = absurd (none-some excess.count (sym e))

stays_some : (first : Excess) (others : List Excess) → earliest (Some first) others ≡ None → ⊥
stays_some first [] e = none-some first (sym e)
stays_some first (excess ∷ others) e = by (λ one. stays_some one others) (is_before excess.place first.place) e
  where
    by : ((one : Excess) → earliest (Some one) others ≡ None → ⊥) → (b : Bool) → earliest (cond b (Some excess) (Some first)) others ≡ None → ⊥
    by rest true h = rest excess h
    by rest false h = rest first h

none_first : (found : List Excess) → earliest None found ≡ None → found ≡ []
none_first [] e = refl
none_first (excess ∷ others) e = absurd (stays_some excess others e)

none_at : (place : Pos) (found : Option ℕ) → excess_at place found ≡ [] → found ≡ None
none_at place None e = refl
none_at place (Some n) e = cc

-- none of these is greater
none_above : {A : Type 0} (measure : A → ℕ) (limit : ℕ) (xs : List A) → first_above limit (map measure xs) ≡ None → Every (λ x. measure x ≤ limit) xs
none_above measure limit [] e = tt
none_above measure limit (x ∷ xs) e = by (none_above measure limit xs) (nat_lt limit (measure x)) refl e
  where
    by : (first_above limit (map measure xs) ≡ None → Every (λ y. measure y ≤ limit) xs) → (b : Bool) → nat_lt limit (measure x) ≡ b → cond b (Some (measure x)) (first_above limit (map measure xs)) ≡ None → Every (λ y. measure y ≤ limit) (x ∷ xs)
    by rest true is h = absurd (none-some (measure x) (sym h))
    by rest false is h = (ltb-false limit (measure x) is, rest h)

named_within : (measure : CType → ℕ) (limit : ℕ) (named : List NamedType) → excesses measure limit named ≡ [] → Every (λ (n : NamedType). Every (λ t. measure t ≤ limit) (parts n.c_type)) named
named_within measure limit [] e = tt
named_within measure limit (named ∷ others) e =
    let found = first_above limit (map measure (parts named.c_type)) in
    let two = both_none (excess_at named.place found) (excesses measure limit others) e in
    (none_above measure limit (parts named.c_type) (none_at named.place found two.0), named_within measure limit others two.1)

-- ---- sizes

small_below : (n : ℕ) → n ≤ 1048576 → n < greatest
small_below n h = omega arith

literal_below : (n : ℕ) → n ≤ 1073741824 → saturated (1 * n) < greatest
literal_below n h = omega arith

module _ (structs : List StructDef) where
  abbrev Fits : CType → Type 0
  Fits t = size_of (layouts structs) t ≤ 1048576

  fits_small : (t : CType) → Fits t → is_small structs t ≡ true
  fits_small t h = (Decides-ltb (layout_of structs t).size greatest).1 (small_below (layout_of structs t).size h)

  mutual
    parts_small : (t : CType) → Every Fits (parts t) → IsSmall structs t
    parts_small Void all = fits_small Void all.0
    parts_small (Integer t) all = fits_small (Integer t) all.0
    parts_small (Pointer t) all = parts_small t all.1
    parts_small (Array t n) all = and_from (is_small structs (Array t n)) (small_type structs t) (fits_small (Array t n) all.0) (parts_small t all.1)
    parts_small (Struct tag) all = fits_small (Struct tag) all.0
    parts_small (Function t ts) all =
        and_from (small_type structs t) (small_types structs ts) (parts_small t (every_left Fits (parts t) (parts_of_each ts) all.1)) (each_small ts (every_right Fits (parts t) (parts_of_each ts) all.1))

    each_small : (ts : CTypes) → Every Fits (parts_of_each ts) → small_types structs ts ≡ true
    each_small NoTypes all = refl
    each_small (MoreTypes first others) all =
        and_from (small_type structs first) (small_types structs others) (parts_small first (every_left Fits (parts first) (parts_of_each others) all)) (each_small others (every_right Fits (parts first) (parts_of_each others) all))

  all_named : (named : List NamedType) → Every (λ (n : NamedType). Every Fits (parts n.c_type)) named → Every (NamedSmall structs) named
  all_named [] all = tt
  all_named (first ∷ others) all = (parts_small first.c_type all.0, all_named others all.1)

  -- ---- literals

  literal_small : (n : ℕ) → suc n ≤ 1073741824 → IsSmall structs (Array (Integer I.Char) (suc n))
  literal_small n h =
      and_from (is_small structs (Array (Integer I.Char) (suc n))) (small_type structs (Integer I.Char)) ((Decides-ltb (saturated (1 * suc n)) greatest).1 (literal_below (suc n) h)) refl

  one_within : (n rest : ℕ) → added (aligned 8 n) rest ≤ 1073741824 → n ≤ 1073741824
  one_within n rest h = omega arith

  rest_within : (n rest : ℕ) → added n rest ≤ 1073741824 → rest ≤ 1073741824
  rest_within n rest h = omega arith

  all_literals : (literals : List LiteralDef) → literals_size literals ≤ 1073741824 → Every (LiteralSmall structs) literals
  all_literals [] h = tt
  all_literals (first ∷ others) h =
      (literal_small (length first.bytes) (one_within (suc (length first.bytes)) (literals_size others) h), all_literals others (rest_within (aligned 8 (suc (length first.bytes))) (literals_size others) h))

-- ---- a program

module _ (program : Program) (named : List NamedType) (within : exceeded program named ≡ None) where
  abbrev table : Table
  table = layouts program.structs

  abbrev last : Option LimitErr
  last = exceeds L6 (above 1073741824 (added (globals_size table program.globals) (literals_size program.literals))) None

  abbrev fourth : Option LimitErr
  fourth = exceeds L4 (excess_count (first_excess (size_of table) 1048576 named)) (exceeds L5 (first_above 1048576 (frames table program.functions)) last)

  from_fourth : fourth ≡ None
  from_fourth =
      let second = exceeds L2 (excess_count (first_excess parameters_of 64 named)) (exceeds L3 (excess_count (first_excess (slots_of table) 1024 named)) fourth) in
      let third = exceeds L3 (excess_count (first_excess (slots_of table) 1024 named)) fourth in
      (none_exceeded L3 (excess_count (first_excess (slots_of table) 1024 named)) fourth
      (none_exceeded L2 (excess_count (first_excess parameters_of 64 named)) third
      (none_exceeded L1 (above 4096 (length program.functions)) second within).1).1).1

  from_parts : (excess_count (first_excess (size_of table) 1048576 named) ≡ None) × (exceeds L5 (first_above 1048576 (frames table program.functions)) last ≡ None)
  from_parts = none_exceeded L4 (excess_count (first_excess (size_of table) 1048576 named)) (exceeds L5 (first_above 1048576 (frames table program.functions)) last) from_fourth

  pub named_small : Every (NamedSmall program.structs) named
  named_small =
      all_named program.structs named (named_within (size_of table) 1048576 named
      (none_first (excesses (size_of table) 1048576 named) (none_counted (first_excess (size_of table) 1048576 named) from_parts.0)))

  pub literals_small : Every (LiteralSmall program.structs) program.literals
  literals_small =
      let total = added (globals_size table program.globals) (literals_size program.literals) in
      let sixth = none_exceeded L6 (above 1073741824 total) None (none_exceeded L5 (first_above 1048576 (frames table program.functions)) last from_parts.1).1 in
      let below : total ≤ 1073741824 = (none_above (λ (n : ℕ). n) 1073741824 (total ∷ []) sixth.0).0 in
      all_literals program.structs program.literals (rest_within program.structs (globals_size table program.globals) (literals_size program.literals) below)
