-- Types that are made of narrow ones are narrow.
use Rattle.std.proofs.Common.{arith}
use Rattle.c_typed.specs.declared.typed.LibraryFunction.{LibraryFunction}
use Rattle.c_typed.specs.declared.typed.LibraryFunction.TheVariants as L
use Rattle.c_typed.specs.Types.{CType, Void, Integer, Pointer, Array, Struct, Function, decayed}
use Rattle.c_rules.specs.Names.{library_type}
use Rattle.c_rules.specs.Operators.{target_of}
use Rattle.accepted_programs.specs.Narrow.{IsNarrow}

pub decayed_narrow : (t : CType) → IsNarrow t → IsNarrow (decayed t)
decayed_narrow Void narrow = narrow
decayed_narrow (Integer t) narrow = narrow
decayed_narrow (Pointer t) narrow = narrow
decayed_narrow (Array t n) narrow = narrow
decayed_narrow (Struct tag) narrow = narrow
decayed_narrow (Function t ts) narrow = narrow

pub target_narrow : (t : CType) → IsNarrow t → IsNarrow (target_of t)
target_narrow Void narrow = narrow
target_narrow (Integer t) narrow = narrow
target_narrow (Pointer t) narrow = narrow
target_narrow (Array t n) narrow = narrow
target_narrow (Struct tag) narrow = narrow
target_narrow (Function t ts) narrow = narrow

pub library_narrow : (function : LibraryFunction) → IsNarrow (library_type function)
library_narrow L.Malloc = ((tt, (tt, tt)), omega arith)
library_narrow L.Free = ((tt, (tt, tt)), omega arith)
library_narrow L.GetChar = ((tt, tt), omega arith)
library_narrow L.PutChar = ((tt, (tt, tt)), omega arith)
library_narrow L.Exit = ((tt, (tt, tt)), omega arith)
