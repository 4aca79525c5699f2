-- Integer constant expressions and address constants (C17 6.6).
use Rattle.std.specs.Prelude.{ℕ, Bool, true, false, ◌&&◌, ◌||◌, nat_lt, if◌then◌else◌, List, [], ◌∷◌, ◌++◌, Option, Some, None, Result, Ok, Err, ℤ, pos, negsuc, ◌+ℤ◌}
use Rattle.c_num.specs.declared.IntType.{IntType}
use Rattle.c_num.specs.declared.BinOp.{BinOp}
use Rattle.c_num.specs.declared.ArithUb.{ArithUb}
use Rattle.c_num.specs.declared.Relation.{Relation}
use Rattle.c_num.specs.Conversion.{convert_to}
use Rattle.c_num.specs.Arith.{outcome_of, compare_of}
use Rattle.c_typed.specs.Types.{CType, Pointer, same_type, is_like_void}
use Rattle.c_rules.specs.Known.{Address, NoAddress, Outside, Element}
use Rattle.c_rules.specs.declared.constness.Constness.{Constness}
use Rattle.c_rules.specs.declared.constness.Constness.TheVariants.{NotConstant, Undefined, Constant}
use Rattle.c_typed.specs.declared.part.Part.{Part}
use Rattle.c_typed.specs.declared.part.Part.TheVariants as Parts
use Rattle.c_typed.specs.Values.{Static, not_zero}

abbrev pub outcome_constness : Result ℤ ArithUb → Constness
outcome_constness (Ok value) = Constant value
outcome_constness (Err kind) = Undefined

abbrev pub map_constness : (ℤ → Constness) → Constness → Constness
map_constness f NotConstant = NotConstant
map_constness f Undefined = Undefined
map_constness f (Constant value) = f value

-- both are evaluated
abbrev pub both_constness : (ℤ → ℤ → Constness) → Constness → Constness → Constness
both_constness f NotConstant _ = NotConstant
both_constness f _ NotConstant = NotConstant
both_constness f Undefined _ = Undefined
both_constness f (Constant a) Undefined = Undefined
both_constness f (Constant a) (Constant b) = f a b

abbrev pub converted : IntType → Constness → Constness
converted int_type constness = map_constness (λ value. Constant (convert_to int_type value)) constness

abbrev pub arithmetic : BinOp → IntType → Constness → Constness → Constness
arithmetic op int_type a b = both_constness (λ x y. outcome_constness (outcome_of op int_type x y)) a b

abbrev pub truth : Bool → Constness
truth true = Constant (pos 1)
truth false = Constant (pos 0)

abbrev pub comparison : Relation → Constness → Constness → Constness
comparison relation a b = both_constness (λ x y. truth (compare_of relation x y)) a b

abbrev pub is_constant : Constness → Bool
is_constant NotConstant = false
is_constant _ = true

abbrev pub chosen : ℤ → Constness → Constness → Constness
chosen condition a b = if not_zero condition then a else b

-- What is not evaluated may be undefined, but has to be constant (C17 6.6 paragraph 3).
abbrev pub conditional : Constness → Constness → Constness → Constness
conditional condition a b = if is_constant a && is_constant b then map_constness (λ z. chosen z a b) condition else NotConstant

-- whether it isn't zero
abbrev pub truth_of : Constness → Constness
truth_of constness = map_constness (λ z. truth (not_zero z)) constness

abbrev pub conjunction : Constness → Constness → Constness
conjunction a b = conditional a (truth_of b) (Constant (pos 0))

abbrev pub disjunction : Constness → Constness → Constness
disjunction a b = conditional a (Constant (pos 1)) (truth_of b)

-- ---- addresses

-- the index, where it lies within the row or at its end
abbrev pub index_within : ℕ → ℤ → Option ℕ
index_within count (pos n) = if nat_lt count n then None else Some n
index_within count (negsuc n) = None

abbrev pub element_at : Static → List Part → CType → ℕ → Option ℕ → Address
element_at root steps c_type count (Some index) = Element root steps c_type count index
element_at root steps c_type count None = Outside

abbrev pub moved_by : Address → ℤ → Address
moved_by NoAddress z = NoAddress
moved_by (Element root steps c_type count index) z = element_at root steps c_type count (index_within count (pos index +ℤ z))
moved_by _ z = Outside

-- a pointer to which a number is added (C17 6.5.6 paragraph 8)
abbrev pub moved : Address → Constness → Address
moved NoAddress _ = NoAddress
moved from NotConstant = NoAddress
moved from Undefined = Outside
moved from (Constant z) = moved_by from z

-- a member of the object at an address
abbrev pub member_address : Address → ℕ → CType → Address
member_address NoAddress number c_type = NoAddress
member_address (Element root steps struct count index) number c_type = if nat_lt index count then Element root (steps ++ Parts.Member index number ∷ []) c_type 1 0 else Outside
member_address _ number c_type = Outside

-- A pointer converts to `T *` where what it points to is a T (this project's rule).
abbrev pub retyped : List (List ℕ) → CType → Address → Address
retyped completed target (Element root steps c_type count index) = if is_like_void completed target || same_type c_type target then Element root steps c_type count index else Outside
retyped completed target address = address

abbrev pub address_as : List (List ℕ) → CType → Address → Address
address_as completed (Pointer target) address = retyped completed target address
address_as completed _ address = address
