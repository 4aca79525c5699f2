-- The types of objects are filled: those that a filled tree gives, those of literals and of parameters.
use Rattle.std.proofs.Common.{◌≡◌, ℕ, suc, Bool, true, false, not, ◌||◌, nat_lt, List, length, refl, arith}
use Rattle.std.proofs.lemmas.Bool.{false≢true, and_from}
use Rattle.std.proofs.lemmas.Bool.Decides.{Decides-ltb}
use Rattle.c_typed.specs.Types.{CType, Void, Integer, Pointer, Array, Struct, Function, literal_type}
use Rattle.c_typed.specs.Layouts.{StructDef, is_complete}
use Rattle.c_typed.specs.Expressions.{is_scalar}
use Rattle.c_typed.specs.Sizes.{is_filled, fills}

-- a complete type that an object gets
pub fills_complete : (structs : List StructDef) (t : CType) → fills structs t ≡ true → is_complete structs t ≡ true → is_filled structs t ≡ true
fills_complete structs t is complete = by (is_complete structs t) complete is
  where
    by : (b : Bool) → b ≡ true → (not b || is_filled structs t) ≡ true → is_filled structs t ≡ true
    by true e h = h
    by false e h = absurd (false≢true e)

pub scalar_filled : (structs : List StructDef) (t : CType) → is_scalar t ≡ true → is_filled structs t ≡ true
scalar_filled structs Void e = absurd (false≢true e)
scalar_filled structs (Integer t) e = refl
scalar_filled structs (Pointer t) e = refl
scalar_filled structs (Array t n) e = absurd (false≢true e)
scalar_filled structs (Struct tag) e = absurd (false≢true e)
scalar_filled structs (Function t ts) e = absurd (false≢true e)

some_length : (n : ℕ) → nat_lt 0 (suc n) ≡ true
some_length n = (Decides-ltb 0 (suc n)).1 (omega arith)

pub literal_filled : (structs : List StructDef) (bytes : List ℕ) → is_filled structs (literal_type bytes) ≡ true
literal_filled structs bytes = and_from (nat_lt 0 (suc (length bytes))) true (some_length (length bytes)) refl
