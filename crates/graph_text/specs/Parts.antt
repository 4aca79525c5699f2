-- How the element and the flags of a node are written.
use Rattle.std.specs.Prelude.{◌≡◌, ℕ, suc, Bool, true, false, List, [], ◌∷◌, ◌++◌, Option, Some, None, codes, decimal}
use Rattle.c_num.specs.declared.IntType.{IntType}
use Rattle.c_num.specs.declared.IntType.TheVariants as I
use Rattle.c_typed.specs.declared.c_type.CType as number
use Rattle.c_typed.specs.Types.{CType, Void, Integer, Pointer, Array, Struct, Function, is_array}
use Rattle.c_typed.specs.Table.{Interned, Stands, type_in}
use Rattle.heap_graph.specs.Graphs.{Element, Missing, OfType, Collapsed}
use Rattle.heap_graph.specs.declared.graph.Element as memory_element
use Rattle.heap_graph.specs.declared.graph.Element.TheVariants as E
use Rattle.heap_graph.specs.declared.graph.Flags.{Flags}

-- ---- types

-- C's names of integer types (C17 6.7.2 paragraph 2)
abbrev pub integer_text : IntType → List ℕ
integer_text I.Char = codes "char"
integer_text I.UChar = codes "unsigned char"
integer_text I.Short = codes "short"
integer_text I.UShort = codes "unsigned short"
integer_text I.Int = codes "int"
integer_text I.UInt = codes "unsigned int"
integer_text I.Long = codes "long"
integer_text I.ULong = codes "unsigned long"

-- what the elements of arrays of arrays are in the end
abbrev pub innermost : CType → CType
innermost (Array element length) = innermost element
innermost c_type = c_type

-- the name of a type that is no array; all pointers have one
abbrev pub base_text : CType → List ℕ
base_text Void = codes "void"
base_text (Integer int_type) = integer_text int_type
base_text (Pointer target) = codes "pointer"
base_text (Array element length) = []
base_text (Struct tag) = codes "struct " ++ tag
base_text (Function result parameters) = codes "function"

-- the lengths of arrays of arrays in brackets, the outermost first
abbrev pub lengths_text : CType → List ℕ
lengths_text (Array element length) = codes "[" ++ (decimal length ++ (codes "]" ++ lengths_text element))
lengths_text c_type = []

abbrev pub type_text : CType → List ℕ
type_text c_type = base_text (innermost c_type) ++ lengths_text c_type

abbrev pub element_text : Element → List ℕ
element_text Missing = codes "?"
element_text (OfType c_type) = type_text c_type
element_text Collapsed = codes "*"

-- ---- flags

abbrev pub is_collapsed : memory_element.Element → Bool
is_collapsed E.Collapsed = true
is_collapsed element = false

-- each flag with its letter, in the order of the text
abbrev pub flag_letters : memory_element.Element → Flags → List (Bool × ℕ)
flag_letters element flags =
    (flags.heap, 72) ∷ (flags.stack, 83) ∷ (flags.global, 71) ∷ (flags.array, 65) ∷ (flags.modified, 77) ∷ (flags.read, 82) ∷ (flags.complete, 67) ∷ (is_collapsed element, 79) ∷ []

abbrev pub letter_text : Bool → ℕ → List ℕ
letter_text true letter = letter ∷ []
letter_text false letter = []

-- the letters of those that are set
abbrev pub letters_text : List (Bool × ℕ) → List ℕ
letters_text [] = []
letters_text (flag ∷ flags) = letter_text flag.0 flag.1 ++ letters_text flags

abbrev pub or_dash : List ℕ → List ℕ
or_dash [] = codes "-"
or_dash letters = letters

abbrev pub flags_text : memory_element.Element → Flags → List ℕ
flags_text element flags = or_dash (letters_text (flag_letters element flags))

-- ---- arrays

-- the type is an array of so many of these, or none
abbrev pub IsArrayOf : Interned → CType → Option (number.CType × ℕ) → Type 0
IsArrayOf table c_type None = is_array c_type ≡ false
IsArrayOf table c_type (Some parts) = (c_type ≡ Array (type_in table parts.0) parts.1) × Stands table parts.0

-- how many types an array of arrays is made of
abbrev pub array_depth : CType → ℕ
array_depth (Array element length) = suc (array_depth element)
array_depth c_type = 0
