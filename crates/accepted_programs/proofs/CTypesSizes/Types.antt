-- Types that are made of small ones are small.
use Rattle.std.proofs.Common.{◌≡◌, true, List, refl}
use Rattle.std.proofs.lemmas.Bool.{and_parts}
use Rattle.c_num.specs.declared.IntType.{IntType}
use Rattle.c_num.specs.declared.IntType.TheVariants as I
use Rattle.c_typed.specs.declared.typed.LibraryFunction.{LibraryFunction}
use Rattle.c_typed.specs.declared.typed.LibraryFunction.TheVariants as L
use Rattle.c_typed.specs.Types.{CType, CTypes, Void, Integer, Pointer, Array, Struct, Function, decayed}
use Rattle.c_typed.specs.Layouts.{StructDef}
use Rattle.c_typed.specs.Sizes.{is_small}
use Rattle.c_rules.specs.Names.{library_type}
use Rattle.c_rules.specs.Operators.{target_of}
use Rattle.accepted_programs.specs.Small.{small_type, small_types, IsSmall}

module _ (structs : List StructDef) where
  pub void_small : IsSmall structs Void
  void_small = refl

  pub integer_small : (t : IntType) → IsSmall structs (Integer t)
  integer_small I.Char = refl
  integer_small I.UChar = refl
  integer_small I.Short = refl
  integer_small I.UShort = refl
  integer_small I.Int = refl
  integer_small I.UInt = refl
  integer_small I.Long = refl
  integer_small I.ULong = refl

  -- a type is one of its parts
  pub small_itself : (t : CType) → IsSmall structs t → is_small structs t ≡ true
  small_itself Void small = small
  small_itself (Integer t) small = small
  small_itself (Pointer t) small = refl
  small_itself (Array t n) small = (and_parts (is_small structs (Array t n)) (small_type structs t) small).0
  small_itself (Struct tag) small = small
  small_itself (Function t ts) small = refl

  pub decayed_small : (t : CType) → IsSmall structs t → IsSmall structs (decayed t)
  decayed_small Void small = small
  decayed_small (Integer t) small = small
  decayed_small (Pointer t) small = small
  decayed_small (Array t n) small = (and_parts (is_small structs (Array t n)) (small_type structs t) small).1
  decayed_small (Struct tag) small = small
  decayed_small (Function t ts) small = small

  pub target_small : (t : CType) → IsSmall structs t → IsSmall structs (target_of t)
  target_small Void small = small
  target_small (Integer t) small = small
  target_small (Pointer t) small = small
  target_small (Array t n) small = small
  target_small (Struct tag) small = small
  target_small (Function t ts) small = small

  pub function_small : (result : CType) (parameters : CTypes) → IsSmall structs (Function result parameters) → IsSmall structs result × (small_types structs parameters ≡ true)
  function_small result parameters small = and_parts (small_type structs result) (small_types structs parameters) small

  pub library_small : (function : LibraryFunction) → IsSmall structs (library_type function)
  library_small L.Malloc = refl
  library_small L.Free = refl
  library_small L.GetChar = refl
  library_small L.PutChar = refl
  library_small L.Exit = refl
