-- What a sound state says of accesses, values and functions, for those who stand above. That what is read is a value of its type is
-- `read_keeps` (Storing), that a used call gives a value of its result's type is `calls_keep` (ProgramsKeep).
use Rattle.std.proofs.Common.{◌≡◌, ℕ, ◌+◌, ◌*◌, ◌≤◌, Bool, true, List, Option, refl, subst, ◌⊎◌, inl, inr}
use Rattle.std.proofs.lemmas.Bool.{false≢true, true≢false}
use Rattle.std.specs.Prelude.{is_some}
use Rattle.c_typed.specs.Types.{CType, CTypes, Pointer, Function}
use Rattle.c_typed.specs.Typed.{Program}
use Rattle.c_typed.specs.Context.{function_type}
use Rattle.c_typed.specs.Expressions.{is_scalar}
use Rattle.c_typed.specs.Programs.{IsWellTyped}
use Rattle.ref_semantics.specs.Values.{Place, Scalar, IntegerValue, NullValue, FunctionValue, PointerValue, RawPointer, Content, Dead, Raw, Elements}
use Rattle.ref_semantics.specs.Store.{State, offset_of}
use Rattle.ref_semantics.specs.First.{around_of}
use Rattle.ref_semantics.specs.Rows.{LeafAt, IsSmall, size_in}
use Rattle.ref_semantics.specs.Sound.{HasType, StandsIn, IsSoundContent, Sound}
use Rattle.ref_semantics.specs.Keeping.{IsElement}
use Rattle.ref_semantics.proofs.Leaves.{leaf_within}
use Rattle.ref_semantics.proofs.WellTyped.{well_structs}

-- the type of what an object holds has an exact size
abbrev IsSmallContent : Program → Content → Type 0
IsSmallContent program (Elements is_static c_type count held) = IsSmall program.structs c_type
IsSmallContent program content = Unit {0}

small_content : (program : Program) (state : State) (content : Content) → IsSoundContent program state content → IsSmallContent program content
small_content program state Dead h = tt
small_content program state (Raw size) h = tt
small_content program state (Elements is_static c_type count held) h = h.small

module _ (program : Program) (well : IsWellTyped program) (locals : List CType) (state : State) (sound : Sound (record { program = program; locals = locals }) state) where
  -- what an access reads or writes is a scalar of its living object, of the type that stands there
  pub accessed_leaf : (t : CType) (place : Place) → is_scalar t ≡ true → IsElement program state t place → (is_static : Bool) (c_type : CType) (count : ℕ) (held : ℕ → Option Scalar)
      → state.objects place.name ≡ Elements is_static c_type count held → LeafAt program.structs c_type count (offset_of (around_of program) place) t
  accessed_leaf t place scalar h is_static c_type count held lives =
      let stands = subst (λ (content : Content). StandsIn program content place) lives h.place_stands.stands in
      record { row = place.row; index = place.index; is_row = stands.0; within = h.within; is_own = h.is_own; scalar = scalar; stands = refl }

  -- it ends within its object
  pub accessed_within : (t : CType) (place : Place) → is_scalar t ≡ true → IsElement program state t place → (is_static : Bool) (c_type : CType) (count : ℕ) (held : ℕ → Option Scalar)
      → state.objects place.name ≡ Elements is_static c_type count held → offset_of (around_of program) place + size_in program.structs t ≤ count * size_in program.structs c_type
  accessed_within t place scalar h is_static c_type count held lives =
      let small = subst (λ (content : Content). IsSmallContent program content) lives (small_content program state (state.objects place.name) (sound.contents place.name)) in
      leaf_within program.structs (well_structs program well) c_type small count (offset_of (around_of program) place) t (accessed_leaf t place scalar h is_static c_type count held lives)

-- a value of a type of pointers to functions is null, or one of the program's functions
pub function_value : (program : Program) (state : State) (result : CType) (parameters : CTypes) (value : Scalar) → HasType program state (Pointer (Function result parameters)) value
    → (value ≡ NullValue) ⊎ ((name : List ℕ) × (value ≡ FunctionValue name) × (is_some (function_type program.functions name) ≡ true))
function_value program state result parameters NullValue h = inl refl
function_value program state result parameters (FunctionValue name) h = inr (name, refl, h.1)
function_value program state result parameters (PointerValue place) h = absurd (true≢false h.0)
function_value program state result parameters (RawPointer number) h = absurd (false≢true h.0)
function_value program state result parameters (IntegerValue z) h = absurd h
