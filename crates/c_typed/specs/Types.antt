-- The types of the language (C17 6.2.5).
use Rattle.std.specs.Prelude.{ℕ, suc, Bool, true, false, ◌&&◌, not, ◌==◌, List, length, Option, Some, None, bytes_eq}
use Rattle.std.specs.Bool.{beq}
use Rattle.c_num.specs.declared.IntType.{IntType}
use Rattle.c_num.specs.declared.IntType.TheVariants as I
use Rattle.c_num.specs.Types.{width_of, is_signed}
use Rattle.c_typed.specs.Names.{contains}

mutual
  pub data CType : Type 0 where
    Void : CType
    Integer : (int_type : IntType) → CType
    Pointer : (target : CType) → CType
    Array : (element : CType) (length : ℕ) → CType
    -- a structure, by its tag
    Struct : (tag : List ℕ) → CType
    Function : (result : CType) (parameters : CTypes) → CType

  pub data CTypes : Type 0 where
    NoTypes : CTypes
    MoreTypes : (first : CType) (others : CTypes) → CTypes

abbrev pub same_int_type : IntType → IntType → Bool
same_int_type a b = (width_of a == width_of b) && beq (is_signed a) (is_signed b)

-- the same type (C17 6.2.7)
abbrev mutual
  pub same_type : CType → CType → Bool
  same_type Void Void = true
  same_type (Integer a) (Integer b) = same_int_type a b
  same_type (Pointer a) (Pointer b) = same_type a b
  same_type (Array a n) (Array b m) = same_type a b && (n == m)
  same_type (Struct a) (Struct b) = bytes_eq a b
  same_type (Function a ps) (Function b qs) = same_type a b && same_types ps qs
  same_type _ _ = false

  pub same_types : CTypes → CTypes → Bool
  same_types NoTypes NoTypes = true
  same_types (MoreTypes a others) (MoreTypes b others') = same_type a b && same_types others others'
  same_types _ _ = false

abbrev pub int : CType
int = Integer I.Int

-- a literal's type: an array with room for the zero at its end (C17 6.4.5 paragraph 6)
abbrev pub literal_type : List ℕ → CType
literal_type bytes = Array (Integer I.Char) (suc (length bytes))

-- the integer type that it is
abbrev pub integer_type : CType → Option IntType
integer_type (Integer int_type) = Some int_type
integer_type _ = None

abbrev pub is_integer : CType → Bool
is_integer (Integer int_type) = true
is_integer _ = false

abbrev pub is_void : CType → Bool
is_void Void = true
is_void _ = false

-- treated as void: a structure that the text never completes is, too
abbrev pub is_like_void : List (List ℕ) → CType → Bool
is_like_void completed Void = true
is_like_void completed (Struct tag) = not (contains completed tag)
is_like_void completed _ = false

abbrev pub is_array : CType → Bool
is_array (Array element length) = true
is_array _ = false

abbrev pub is_struct : CType → Bool
is_struct (Struct tag) = true
is_struct _ = false

abbrev pub is_function : CType → Bool
is_function (Function result parameters) = true
is_function _ = false

abbrev pub is_pointer : CType → Bool
is_pointer (Pointer target) = true
is_pointer _ = false

-- a pointer to an object type or to void
abbrev pub is_object_pointer : CType → Bool
is_object_pointer (Pointer target) = not (is_function target)
is_object_pointer _ = false

abbrev pub is_void_pointer : CType → Bool
is_void_pointer (Pointer target) = is_void target
is_void_pointer _ = false

abbrev pub is_function_pointer : CType → Bool
is_function_pointer (Pointer target) = is_function target
is_function_pointer _ = false

-- An array used as a value is a pointer to its first element, and a function one to itself (C17 6.3.2.1 paragraphs 3, 4).
-- A parameter is adjusted likewise (6.7.6.3 paragraphs 7, 8).
abbrev pub decayed : CType → CType
decayed (Array element length) = Pointer element
decayed (Function result parameters) = Pointer (Function result parameters)
decayed c_type = c_type

abbrev pub is_character : CType → Bool
is_character (Integer int_type) = width_of int_type == 8
is_character _ = false
