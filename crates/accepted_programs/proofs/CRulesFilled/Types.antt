-- Types that are made of filled ones are filled.
use Rattle.std.proofs.Common.{◌≡◌, ℕ, suc, Bool, true, false, not, ◌&&◌, ◌||◌, nat_lt, List, refl, arith}
use Rattle.std.proofs.lemmas.Bool.{and_parts, and_from}
use Rattle.std.proofs.lemmas.Bool.Decides.{Decides-ltb}
use Rattle.c_num.specs.declared.IntType.TheVariants as I
use Rattle.c_typed.specs.declared.typed.LibraryFunction.{LibraryFunction}
use Rattle.c_typed.specs.declared.typed.LibraryFunction.TheVariants as L
use Rattle.c_typed.specs.Types.{CType, CTypes, Void, Integer, Pointer, Array, Struct, Function, decayed}
use Rattle.c_typed.specs.Layouts.{StructDef, is_complete}
use Rattle.c_typed.specs.Sizes.{is_filled, fills}
use Rattle.c_rules.specs.Names.{library_type}
use Rattle.c_rules.specs.Operators.{target_of}
use Rattle.accepted_programs.specs.Whole.{is_whole, are_whole, IsWhole}

pub some_length : (n : ℕ) → nat_lt 0 (suc n) ≡ true
some_length n = (Decides-ltb 0 (suc n)).1 (omega arith)

module _ (structs : List StructDef) where
  -- a literal has the zero at its end
  pub literal_filled : (n : ℕ) → IsWhole structs (Array (Integer I.Char) (suc n))
  literal_filled n = and_from (nat_lt 0 (suc n) && true) true (and_from (nat_lt 0 (suc n)) true (some_length n) refl) refl

  -- such a type is filled where it is complete
  pub complete_filled : (t : CType) → IsWhole structs t → is_complete structs t ≡ true → is_filled structs t ≡ true
  complete_filled Void whole complete = complete
  complete_filled (Integer t) whole complete = complete
  complete_filled (Pointer t) whole complete = complete
  complete_filled (Array t n) whole complete =
      let parts = and_parts (nat_lt 0 n && is_complete structs t) (is_whole structs t) whole in
      let inner = and_parts (nat_lt 0 n) (is_complete structs t) parts.0 in
      and_from (nat_lt 0 n) (is_filled structs t) inner.0 (complete_filled t parts.1 inner.1)
  complete_filled (Struct tag) whole complete = complete
  complete_filled (Function t ts) whole complete = complete

  pub filled_itself : (t : CType) → IsWhole structs t → fills structs t ≡ true
  filled_itself t whole = by (is_complete structs t) (complete_filled t whole)
    where
      by : (b : Bool) → (b ≡ true → is_filled structs t ≡ true) → (not b || is_filled structs t) ≡ true
      by true h = h refl
      by false h = refl

  pub decayed_filled : (t : CType) → IsWhole structs t → IsWhole structs (decayed t)
  decayed_filled Void filled = filled
  decayed_filled (Integer t) filled = filled
  decayed_filled (Pointer t) filled = filled
  decayed_filled (Array t n) filled = (and_parts (nat_lt 0 n && is_complete structs t) (is_whole structs t) filled).1
  decayed_filled (Struct tag) filled = filled
  decayed_filled (Function t ts) filled = filled

  pub target_filled : (t : CType) → IsWhole structs t → IsWhole structs (target_of t)
  target_filled Void filled = filled
  target_filled (Integer t) filled = filled
  target_filled (Pointer t) filled = filled
  target_filled (Array t n) filled = filled
  target_filled (Struct tag) filled = filled
  target_filled (Function t ts) filled = filled

  pub function_filled : (result : CType) (parameters : CTypes) → IsWhole structs (Function result parameters) → IsWhole structs result × (are_whole structs parameters ≡ true)
  function_filled result parameters filled = and_parts (is_whole structs result) (are_whole structs parameters) filled

  pub library_filled : (function : LibraryFunction) → IsWhole structs (library_type function)
  library_filled L.Malloc = refl
  library_filled L.Free = refl
  library_filled L.GetChar = refl
  library_filled L.PutChar = refl
  library_filled L.Exit = refl
