-- What operators do with pointers, the library, and the steps of statements are regular.
use Rattle.std.proofs.Common.{ℕ, List, Option, ℤ}
use Rattle.run_theory.specs.declared.place.Pos.{Pos}
use Rattle.c_num.specs.declared.IntType.{IntType}
use Rattle.c_num.specs.declared.BinOp.{BinOp}
use Rattle.c_num.specs.declared.Relation.{Relation}
use Rattle.c_typed.specs.Types.{CType}
use Rattle.c_typed.specs.declared.typed.LibraryFunction.{LibraryFunction}
use Rattle.ref_semantics.specs.Values.{Name, Place, Scalar}
use Rattle.ref_semantics.specs.Store.{TypeEnvironment, Eval}
use Rattle.ref_semantics.specs.Pointers.{accessed, added, element, repointed, tested, compared_pointers, difference, read, write}
use Rattle.ref_semantics.specs.Library.{library}
use Rattle.ref_semantics.specs.Meaning.{arithmetic, named, local_place, Completion, new_local, stored_first, scoped, block_rest, bind, within_own}
use Rattle.ref_semantics.proofs.ShrinkingSteps.{accessed_shrinks, added_shrinks, element_shrinks, repointed_shrinks, tested_shrinks, compared_pointers_shrinks, difference_shrinks, read_shrinks, write_shrinks, library_shrinks, arithmetic_shrinks, named_shrinks, local_place_shrinks, new_local_shrinks, stored_first_shrinks, bind_shrinks, scoped_shrinks, within_own_shrinks, block_rest_shrinks}
use Rattle.ref_semantics.proofs.BudgetSteps.{accessed_lawful, added_lawful, element_lawful, repointed_lawful, tested_lawful, compared_pointers_lawful, difference_lawful, read_lawful, write_lawful, library_lawful, arithmetic_lawful, named_lawful, local_place_lawful, new_local_lawful, stored_first_lawful, bind_lawful, scoped_lawful, within_own_lawful, block_rest_lawful}
use Rattle.ref_semantics.proofs.Regular.{Regular}

pub accessed_regular : (here : Pos) (pointer : Scalar) → Regular (accessed here pointer)
accessed_regular here pointer = record { shrinks = accessed_shrinks here pointer; lawful = accessed_lawful here pointer }

pub added_regular : (here : Pos) (pointer : Scalar) (z : ℤ) → Regular (added here pointer z)
added_regular here pointer z = record { shrinks = added_shrinks here pointer z; lawful = added_lawful here pointer z }

pub element_regular : (here : Pos) (pointer : Scalar) (z : ℤ) → Regular (element here pointer z)
element_regular here pointer z = record { shrinks = element_shrinks here pointer z; lawful = element_lawful here pointer z }

pub repointed_regular : (around : TypeEnvironment) (here : Pos) (target : CType) (value : Scalar) → Regular (repointed around here target value)
repointed_regular around here target value = record { shrinks = repointed_shrinks around here target value; lawful = repointed_lawful around here target value }

pub tested_regular : (here : Pos) (value : Scalar) → Regular (tested here value)
tested_regular here value = record { shrinks = tested_shrinks here value; lawful = tested_lawful here value }

pub compared_pointers_regular : (around : TypeEnvironment) (relation : Relation) (here : Pos) (a b : Scalar) → Regular (compared_pointers around relation here a b)
compared_pointers_regular around relation here a b = record { shrinks = compared_pointers_shrinks around relation here a b; lawful = compared_pointers_lawful around relation here a b }

pub difference_regular : (here : Pos) (a b : Scalar) → Regular (difference here a b)
difference_regular here a b = record { shrinks = difference_shrinks here a b; lawful = difference_lawful here a b }

pub read_regular : (around : TypeEnvironment) (here : Pos) (place : Place) → Regular (read around here place)
read_regular around here place = record { shrinks = read_shrinks around here place; lawful = read_lawful around here place }

pub write_regular : (around : TypeEnvironment) (here : Pos) (place : Place) (value : Scalar) → Regular (write around here place value)
write_regular around here place value = record { shrinks = write_shrinks around here place value; lawful = write_lawful around here place value }

pub library_regular : (around : TypeEnvironment) (function : LibraryFunction) (here : Pos) (given : List Scalar) → Regular (library around function here given)
library_regular around function here given = record { shrinks = library_shrinks around function here given; lawful = library_lawful around function here given }

pub arithmetic_regular : (op : BinOp) (int_type : IntType) (here : Pos) (a b : Scalar) → Regular (arithmetic op int_type here a b)
arithmetic_regular op int_type here a b = record { shrinks = arithmetic_shrinks op int_type here a b; lawful = arithmetic_lawful op int_type here a b }

pub named_regular : (name : Name) → Regular (named name)
named_regular name = record { shrinks = named_shrinks name; lawful = named_lawful name }

pub local_place_regular : (number : ℕ) → Regular (local_place number)
local_place_regular number = record { shrinks = local_place_shrinks number; lawful = local_place_lawful number }

pub new_local_regular : (c_type : CType) → Regular (new_local c_type)
new_local_regular c_type = record { shrinks = new_local_shrinks c_type; lawful = new_local_lawful c_type }

pub stored_first_regular : (around : TypeEnvironment) (place : Place) (first : Option Scalar) → Regular (stored_first around place first)
stored_first_regular around place first = record { shrinks = stored_first_shrinks around place first; lawful = stored_first_lawful around place first }

pub bind_regular : (around : TypeEnvironment) (types : List CType) (given : List Scalar) → Regular (bind around types given)
bind_regular around types given = record { shrinks = bind_shrinks around types given; lawful = bind_lawful around types given }

pub scoped_regular : {inside : Eval Completion} → Regular inside → Regular (scoped inside)
scoped_regular h = record { shrinks = scoped_shrinks h.shrinks; lawful = scoped_lawful h.lawful }

pub within_own_regular : {inside : Eval Completion} → Regular inside → Regular (within_own inside)
within_own_regular h = record { shrinks = within_own_shrinks h.shrinks; lawful = within_own_lawful h.lawful }

pub block_rest_regular : (way : Completion) {rest : Eval Completion} → Regular rest → Regular (block_rest way rest)
block_rest_regular way h = record { shrinks = block_rest_shrinks way h.shrinks; lawful = block_rest_lawful way h.lawful }
