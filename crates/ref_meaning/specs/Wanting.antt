-- Where memory runs out: what a store holds is allocated.
use Rattle.std.specs.Prelude.{◌≡◌, ◌%◌, ◌==◌, true}
use Rattle.c_typed.specs.Types.{CType}
use Rattle.ref_semantics.specs.Values.{Heap, Scalar, RawPointer, Content, Raw}
use Rattle.ref_semantics.specs.Store.{TypeEnvironment, Objects, size_of}
use Rattle.ref_meaning.specs.declared.value.Stop.{Stop}
use Rattle.ref_meaning.specs.declared.value.Stop.TheVariants as T

-- it is no want of memory but where this holds
abbrev pub OutOnly : Type 0 → Stop → Type 0
OutOnly condition T.OutOfMemory = condition
OutOnly condition (T.Undefined kind place) = Unit {0}

-- an allocation that holds this gets this type
abbrev pub GetsType : TypeEnvironment → CType → Content → Type 0
GetsType around target (Raw size) = (size % size_of around target == 0) ≡ true
GetsType around target _ = ⊥

-- a pointer to one that gets it
abbrev pub PointsUntyped : TypeEnvironment → CType → Objects → Scalar → Type 0
PointsUntyped around target objects (RawPointer number) = GetsType around target (objects (Heap number))
PointsUntyped around target objects _ = ⊥
