-- Trees that are not well typed: an int read where a pointer is asked for, a member of a structure that isn't complete, a call with an
-- argument too few, a call through a conversion.
use Rattle.std.specs.Prelude.{◌≡◌, true, false, [], ◌∷◌, Some, None, pos, codes, refl}
use Rattle.run_theory.specs.declared.place.Pos.{Pos}
use Rattle.c_num.specs.declared.IntType.TheVariants as I
use Rattle.c_typed.specs.Types.{CType, Pointer, Struct, Function, NoTypes, MoreTypes, int}
use Rattle.c_typed.specs.Typed as T
use Rattle.c_typed.specs.Typed.{Value, FunctionDef, Program}
use Rattle.c_typed.specs.Expressions.{type_of}
use Rattle.c_typed.specs.Programs.{is_well_typed}

abbrev here : Pos
here = record { line = 1; column = 1 }

abbrev twice : FunctionDef
twice = record { name = codes "twice"; c_type = Function int (MoreTypes int NoTypes); parameters = int ∷ []; result = int; body = T.Perform (T.Return (Some (T.Read here (T.Local 0)))) T.Close }

-- a program whose `main` has a local of this type, and returns that
abbrev returning : CType → Value → Program
returning c_type value =
    record {
      structs = [];
      completed = [];
      globals = [];
      literals = [];
      functions = twice ∷ record { name = codes "main"; c_type = Function int NoTypes; parameters = []; result = int; body = T.Declare (record { c_type = c_type; first = None }) (T.Perform (T.Return (Some value)) T.Close) } ∷ [];
    }

-- `*x` of an int
int_read_as_pointer : is_well_typed (returning int (T.Read here (T.Pointed here (T.Read here (T.Local 0))))) ≡ false
int_read_as_pointer = refl

-- `p->m` of a pointer to a structure that isn't complete
member_of_incomplete : is_well_typed (returning (Pointer (Struct (codes "s"))) (T.Read here (T.PointedMember here (T.Read here (T.Local 0)) 0))) ≡ false
member_of_incomplete = refl

-- `twice()`
argument_too_few : is_well_typed (returning int (T.Call true here (T.Function (codes "twice")) (Function int (MoreTypes int NoTypes)) T.NoValues)) ≡ false
argument_too_few = refl

-- `twice(x)` is well typed
called_rightly : type_of (record { program = returning int (T.Constant I.Int (pos 0)); locals = int ∷ [] }) (T.Call true here (T.Function (codes "twice")) (Function int (MoreTypes int NoTypes)) (T.MoreValues (T.Read here (T.Local 0)) T.NoValues)) ≡ Some int
called_rightly = refl

-- `p(x)` of a pointer to a function is well typed, and isn't where a conversion stands between
abbrev through : Value → Value
through pointer = T.Call true here (T.ThroughPointer here pointer) (Function int (MoreTypes int NoTypes)) (T.MoreValues (T.Read here (T.Local 0)) T.NoValues)

called_through : type_of (record { program = returning int (T.Constant I.Int (pos 0)); locals = Pointer (Function int (MoreTypes int NoTypes)) ∷ int ∷ [] }) (through (T.Read here (T.Local 1))) ≡ Some int
called_through = refl

called_through_conversion : type_of (record { program = returning int (T.Constant I.Int (pos 0)); locals = Pointer (Function int (MoreTypes int NoTypes)) ∷ int ∷ [] }) (through (T.Repointed here (Function int (MoreTypes int NoTypes)) (T.Read here (T.Local 1)))) ≡ None
called_through_conversion = refl
