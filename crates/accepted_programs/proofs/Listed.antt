-- Literals that stand one behind another are found at their places.
use Rattle.std.proofs.Common.{◌≡◌, inl, inr, List, [], ◌∷◌, true, false, cond, Some, ap, ◌∙◌, arith, tests}
use Rattle.run_theory.specs.declared.place.Pos.{Pos}
use Rattle.c_typed.specs.Places.{is_same_place}
use Rattle.c_typed.specs.Typed.{LiteralDef}
use Rattle.c_typed.specs.Context.{literal_bytes}
use Rattle.c_rules.specs.Fitting.{AreListed}
use Rattle.accepted_programs.specs.Places.{NotBefore, next_to, LiteralsRise}
use Rattle.accepted_programs.proofs.Rising.{not_before_through, not_before_next}

same_itself : (place : Pos) → is_same_place place place ≡ true
same_itself place = grind (arith, tests)

-- what stands behind a place isn't at it
other_behind : (a b : Pos) → NotBefore (next_to a) b → is_same_place a b ≡ false
other_behind a b (inl below) = grind (arith, tests)
other_behind a b (inr along) = grind (arith, tests)

literals_rise_before : (a b : Pos) (literals : List LiteralDef) → NotBefore a b → LiteralsRise b literals → LiteralsRise a literals
literals_rise_before a b [] before rise = tt
literals_rise_before a b (one ∷ others) before rise = (not_before_through a b one.place before rise.0, rise.1)

-- a literal before all of them hides none
hides_none : (first : LiteralDef) (all those : List LiteralDef) → LiteralsRise (next_to first.place) those → AreListed all those → AreListed (first ∷ all) those
hides_none first all [] rise listed = tt
hides_none first all (one ∷ others) rise listed = (
  ap (λ same. cond same (Some first.bytes) (literal_bytes all one.place)) (other_behind first.place one.place rise.0) ∙ listed.0,
  hides_none first all others (literals_rise_before (next_to first.place) (next_to one.place) others (not_before_through (next_to first.place) one.place (next_to one.place) rise.0 (not_before_next one.place)) rise.1) listed.1,
)

pub rising_listed : (from : Pos) (literals : List LiteralDef) → LiteralsRise from literals → AreListed literals literals
rising_listed from [] rise = tt
rising_listed from (first ∷ others) rise = (
  ap (λ same. cond same (Some first.bytes) (literal_bytes others first.place)) (same_itself first.place),
  hides_none first others others rise.1 (rising_listed (next_to first.place) others rise.1),
)
