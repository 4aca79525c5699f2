-- How many registers trees name, from how many nodes they and their parts have.
use Rattle.std.proofs.Common.{◌≡◌, ℕ, suc, ◌+◌, ap, arith}
use Rattle.tac_build.specs.declared.builder.Builder.{Builder}
use Rattle.tac_build.specs.Building.{names_of, HasRoom, Adds}
use Rattle.tac_build.specs.Lowering.{names_for, AddsFewer}

-- ---- one part

pub room_inner : (old : Builder) (whole part : ℕ) → whole ≡ suc part → HasRoom old (names_for whole) → HasRoom old (names_for part)
room_inner old whole part is room = omega (arith, is, room)

pub room_last : (old mid : Builder) (whole part : ℕ) → whole ≡ suc part → HasRoom old (names_for whole) → AddsFewer old mid (names_for part) → HasRoom mid 1
room_last old mid whole part is room adds = omega (arith, is, room, adds)

pub adds_inner : (old new : Builder) (whole part : ℕ) → whole ≡ suc part → AddsFewer old new (names_for part) → AddsFewer old new (names_for whole)
adds_inner old new whole part is adds = omega (arith, is, adds)

pub adds_last : (old mid new : Builder) (whole part : ℕ) → whole ≡ suc part → AddsFewer old mid (names_for part) → Adds mid new 1 → AddsFewer old new (names_for whole)
adds_last old mid new whole part is adds more = omega (arith, is, adds, more)

-- ---- `&&` and `||`

pub room_one : (old : Builder) (whole a b : ℕ) → whole ≡ suc (a + b) → HasRoom old (names_for whole) → HasRoom old 1
room_one old whole a b is room = omega (arith, is, room)

pub room_left : (old named : Builder) (whole a b : ℕ) → whole ≡ suc (a + b) → HasRoom old (names_for whole) → Adds old named 1 → HasRoom named (names_for a)
room_left old named whole a b is room one = omega (arith, is, room, one)

pub room_right : (old named first reserved : Builder) (whole a b : ℕ) → whole ≡ suc (a + b) → HasRoom old (names_for whole) → Adds old named 1 → AddsFewer named first (names_for a) → reserved.counts ≡ first.counts
    → HasRoom reserved (names_for b)
room_right old named first reserved whole a b is room one adds same = let counted = ap names_of same in omega (arith, is, room, one, adds, counted)

pub adds_both : (old named first reserved second new : Builder) (whole a b : ℕ) → whole ≡ suc (a + b) → Adds old named 1 → AddsFewer named first (names_for a) → reserved.counts ≡ first.counts
    → AddsFewer reserved second (names_for b) → Adds second new 0 → AddsFewer old new (names_for whole)
adds_both old named first reserved second new whole a b is one adds same more last = let counted = ap names_of same in omega (arith, is, one, adds, counted, more, last)

-- ---- `c ? a : b`

pub room_tested : (old : Builder) (whole a b d : ℕ) → whole ≡ suc (a + (b + d)) → HasRoom old (names_for whole) → HasRoom old (names_for a)
room_tested old whole a b d is room = omega (arith, is, room)

pub room_taken : (old tested reserved : Builder) (whole a b d : ℕ) → whole ≡ suc (a + (b + d)) → HasRoom old (names_for whole) → AddsFewer old tested (names_for a) → reserved.counts ≡ tested.counts
    → HasRoom reserved (names_for b)
room_taken old tested reserved whole a b d is room adds same = let counted = ap names_of same in omega (arith, is, room, adds, counted)

pub room_ended : (old tested reserved first : Builder) (whole a b d : ℕ) → whole ≡ suc (a + (b + d)) → HasRoom old (names_for whole) → AddsFewer old tested (names_for a) → reserved.counts ≡ tested.counts
    → AddsFewer reserved first (names_for b) → HasRoom first 1
room_ended old tested reserved first whole a b d is room adds same more = let counted = ap names_of same in omega (arith, is, room, adds, counted, more)

pub room_otherwise : (old tested reserved first ended : Builder) (whole a b d : ℕ) → whole ≡ suc (a + (b + d)) → HasRoom old (names_for whole) → AddsFewer old tested (names_for a) → reserved.counts ≡ tested.counts
    → AddsFewer reserved first (names_for b) → Adds first ended 1 → HasRoom ended (names_for d)
room_otherwise old tested reserved first ended whole a b d is room adds same more one = let counted = ap names_of same in omega (arith, is, room, adds, counted, more, one)

pub adds_ways : (old tested reserved first ended second new : Builder) (whole a b d : ℕ) → whole ≡ suc (a + (b + d)) → AddsFewer old tested (names_for a) → reserved.counts ≡ tested.counts
    → AddsFewer reserved first (names_for b) → Adds first ended 1 → AddsFewer ended second (names_for d) → Adds second new 0 → AddsFewer old new (names_for whole)
adds_ways old tested reserved first ended second new whole a b d is adds same more one others last = let counted = ap names_of same in omega (arith, is, adds, counted, more, one, others, last)

-- ---- calls

pub room_called : (old : Builder) (whole f n : ℕ) → whole ≡ suc (f + n) → HasRoom old (names_for whole) → HasRoom old (names_for f)
room_called old whole f n is room = omega (arith, is, room)

pub room_site : (old mid : Builder) (whole f n : ℕ) → whole ≡ suc (f + n) → HasRoom old (names_for whole) → AddsFewer old mid (names_for f) → HasRoom mid 1
room_site old mid whole f n is room adds = omega (arith, is, room, adds)

pub room_arguments : (old mid named : Builder) (whole f n : ℕ) → whole ≡ suc (f + n) → HasRoom old (names_for whole) → AddsFewer old mid (names_for f) → Adds mid named 1 → HasRoom named (suc (names_for n))
room_arguments old mid named whole f n is room adds one = omega (arith, is, room, adds, one)

pub adds_called : (old mid named next new : Builder) (whole f n : ℕ) → whole ≡ suc (f + n) → AddsFewer old mid (names_for f) → Adds mid named 1 → Adds named next (names_for n) → Adds next new 0 → AddsFewer old new (names_for whole)
adds_called old mid named next new whole f n is adds one more last = omega (arith, is, adds, one, more, last)

pub room_library : (old : Builder) (whole n : ℕ) → whole ≡ suc n → HasRoom old (names_for whole) → HasRoom old (suc (names_for n))
room_library old whole n is room = omega (arith, is, room)

pub adds_library : (old new : Builder) (whole n : ℕ) → whole ≡ suc n → Adds old new (suc (names_for n)) → AddsFewer old new (names_for whole)
adds_library old new whole n is adds = omega (arith, is, adds)
