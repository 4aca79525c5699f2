-- What the limits say of a program that exceeds none.
use Rattle.std.proofs.Common.{◌≡◌, ℕ, ◌+◌, ◌<◌, ◌≤◌, Bool, true, false, List, [], ◌∷◌, length, Option, Some, None, refl, sym, arith}
use Rattle.std.specs.Prelude.{nat_lt, if◌then◌else◌}
use Rattle.std.proofs.lemmas.Bool.{ltb-false}
use Rattle.std.proofs.lemmas.Option.{none-some}
use Rattle.c_typed.specs.Layouts.{layouts}
use Rattle.c_typed.specs.Typed.{Program}
use Rattle.c_rules.specs.Named.{NamedType}
use Rattle.c_types.specs.declared.limits.Limit.{Limit}
use Rattle.c_types.specs.declared.limits.Limit.TheVariants as L
use Rattle.c_types.specs.declared.limits.LimitErr.{LimitErr}
use Rattle.c_types.specs.Limits.{greatest_sum, added, first_above, frames, globals_size, literals_size, exceeds, exceeded}

-- ---- sums that don't stand still

pub record AreExact (greatest a b : ℕ) : Type 0 where
  pub sum : added a b ≡ a + b
  pub first : a ≤ greatest
  pub second : b ≤ greatest

pub exact_sum : (greatest a b : ℕ) → greatest < greatest_sum → added a b ≤ greatest → AreExact greatest a b
exact_sum greatest a b less h = record { sum = omega (arith, less, h); first = omega (arith, less, h); second = omega (arith, less, h) }

-- the greatest measure of a frame
abbrev pub greatest_objects : ℕ
greatest_objects = 1048576

pub frame_sum : (a b : ℕ) → added a b ≤ greatest_objects → AreExact greatest_objects a b
frame_sum a b h = exact_sum greatest_objects a b (omega arith) h

-- the greatest measure of static objects
abbrev pub greatest_statics : ℕ
greatest_statics = 1073741824

pub static_sum : (a b : ℕ) → added a b ≤ greatest_statics → AreExact greatest_statics a b
static_sum a b h = exact_sum greatest_statics a b (omega arith) h

-- ---- the limits

pub none_above : (greatest n : ℕ) (others : List ℕ) → first_above greatest (n ∷ others) ≡ None → (n ≤ greatest) × (first_above greatest others ≡ None)
none_above greatest n others none = by (nat_lt greatest n) refl none
  where
    by : (b : Bool) → nat_lt greatest n ≡ b → (if b then Some n else first_above greatest others) ≡ None → (n ≤ greatest) × (first_above greatest others ≡ None)
    by true is none = absurd (none-some n (sym none))
    by false is none = (ltb-false greatest n is, none)

not_exceeded : (limit : Limit) (count : Option ℕ) (others : Option LimitErr) → exceeds limit count others ≡ None → (count ≡ None) × (others ≡ None)
not_exceeded limit None others none = (refl, none)
not_exceeded limit (Some n) others none = absurd (none-some (record { which = limit; count = n }) (sym none))

pub record IsLimited (program : Program) : Type 0 where
  pub functions : length program.functions ≤ 4096
  pub frames_are : first_above greatest_objects (frames (layouts program.structs) program.functions) ≡ None
  pub statics : added (globals_size (layouts program.structs) program.globals) (literals_size program.literals) ≤ greatest_statics

pub is_limited : (program : Program) (named : List NamedType) → exceeded program named ≡ None → IsLimited program
is_limited program named none =
    let table = layouts program.structs in
    let first = not_exceeded L.L1 _ _ none in
    let second = not_exceeded L.L2 _ _ first.1 in
    let third = not_exceeded L.L3 _ _ second.1 in
    let fourth = not_exceeded L.L4 _ _ third.1 in
    let fifth = not_exceeded L.L5 _ _ fourth.1 in
    let sixth = not_exceeded L.L6 _ _ fifth.1 in
    record {
      functions = (none_above 4096 (length program.functions) [] first.0).0;
      frames_are = fifth.0;
      statics = (none_above greatest_statics _ [] sixth.0).0;
    }
