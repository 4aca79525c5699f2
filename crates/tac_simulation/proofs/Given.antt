-- Values of a sound state name only objects whose names were given, so that they stand for what they stood for when a new object is made.
use Rattle.std.proofs.Common.{◌≡◌, ℕ, ◌<◌, true, false, Option, Some, None, refl, ◌∙◌, subst}
use Rattle.std.proofs.lemmas.Bool.{false≢true}
use Rattle.c_typed.specs.Types.{CType, Void, Integer, Pointer, Array, Struct, Function}
use Rattle.c_typed.specs.Typed.{Program}
use Rattle.c_typed.specs.Expressions.{is_scalar}
use Rattle.ref_semantics.specs.Values as V
use Rattle.ref_semantics.specs.Values.{Name, Heap, Place, Scalar, IntegerValue, NullValue, FunctionValue, PointerValue, RawPointer}
use Rattle.ref_semantics.specs.Store as S
use Rattle.ref_semantics.specs.Store.{scalar_or, cleared}
use Rattle.ref_semantics.specs.Sound.{WasGiven, HasType, PointsTo, IsSoundContent}
use Rattle.tac_ir.specs.Values.{Object, Value, Content}
use Rattle.tac_simulation.specs.Standing.{Placement, image, WhereAlive, PlaceStands, ScalarStands, HoldsFor, ContentStands, IsAlive}
use Rattle.tac_simulation.proofs.Alive.{where_alive}

-- what a value names was given
abbrev pub NamesGiven : S.State → Scalar → Type 0
NamesGiven s (PointerValue place) = WasGiven s place.name
NamesGiven s (RawPointer number) = number < s.next_heap
NamesGiven s scalar = Unit {0}

points_given : (program : Program) (s : S.State) (target : CType) (scalar : Scalar) → PointsTo program s target scalar → NamesGiven s scalar
points_given program s target (IntegerValue z) h = tt
points_given program s target NullValue h = tt
points_given program s target (FunctionValue name) h = tt
points_given program s target (PointerValue place) h = h.1.given
points_given program s target (RawPointer number) h = h.1

pub typed_given : (program : Program) (s : S.State) (own : CType) (scalar : Scalar) → is_scalar own ≡ true → HasType program s own scalar → NamesGiven s scalar
typed_given program s (Integer int_type) (IntegerValue z) h typed = tt
typed_given program s (Integer int_type) NullValue h typed = absurd typed
typed_given program s (Integer int_type) (FunctionValue name) h typed = absurd typed
typed_given program s (Integer int_type) (PointerValue place) h typed = absurd typed
typed_given program s (Integer int_type) (RawPointer number) h typed = absurd typed
typed_given program s (Pointer target) scalar h typed = points_given program s target scalar typed
typed_given program s Void scalar h typed = absurd (false≢true h)
typed_given program s (Array element n) scalar h typed = absurd (false≢true h)
typed_given program s (Struct tag) scalar h typed = absurd (false≢true h)
typed_given program s (Function result parameters) scalar h typed = absurd (false≢true h)

cleared_given : (s : S.State) (own : CType) → NamesGiven s (cleared own)
cleared_given s (Integer int_type) = tt
cleared_given s (Pointer target) = tt
cleared_given s Void = tt
cleared_given s (Array element n) = tt
cleared_given s (Struct tag) = tt
cleared_given s (Function result parameters) = tt

module _ (program : Program) (s : S.State) (placement placement' : Placement) (after : S.Objects)
    (lives : (name : Name) → WasGiven s name → IsAlive (after name) → IsAlive (s.objects name))
    (images : (name : Name) → WasGiven s name → image program placement' name ≡ image program placement name) where
  place_moves : (place : Place) (object : Object) (offset : ℕ) → WasGiven s place.name → PlaceStands program placement place object offset → PlaceStands program placement' place object offset
  place_moves place object offset given stands = (images place.name given ∙ stands.0, stands.1)

  where_moves : (content : V.Content) (A B : Type 0) → (A → B) → WhereAlive content A → WhereAlive content B
  where_moves V.Dead A B moves stands = tt
  where_moves (V.Raw size) A B moves stands = moves stands
  where_moves (V.Elements is_static c_type count held) A B moves stands = moves stands

  pub given_lasts : (scalar : Scalar) (value : Value) → NamesGiven s scalar → ScalarStands program s.objects placement scalar value → ScalarStands program after placement' scalar value
  given_lasts (IntegerValue z) value given stands = stands
  given_lasts NullValue value given stands = stands
  given_lasts (FunctionValue name) value given stands = stands
  given_lasts (PointerValue place) value given stands =
      (stands.0, where_moves (after place.name) _ _ (λ h. (h.0, h.1, place_moves place h.0 h.1 given h.2, h.3)) (where_alive (s.objects place.name) (after place.name) _ (lives place.name given) stands.1))
  given_lasts (RawPointer number) value given stands = (stands.0, where_alive (s.objects (Heap number)) (after (Heap number)) _ (lives (Heap number) given) stands.1)

  pub held_given : (scalar : Scalar) (held : Option Value) → NamesGiven s scalar → HoldsFor program s.objects placement scalar held → HoldsFor program after placement' scalar held
  held_given scalar held given holds = (holds.0, holds.1, given_lasts scalar holds.0 given holds.2)

  pub content_given : (own : V.Content) (content : Content) → IsSoundContent program s own → ContentStands program s.objects placement own content → ContentStands program after placement' own content
  content_given V.Dead content sound stands = tt
  content_given (V.Raw size) content sound stands = stands
  content_given (V.Elements is_static c_type count held) content sound stands =
      (stands.0, stands.1, λ offset own scalar leaf held_is. held_given scalar (stands.0 offset) (names (held offset) refl is_static own scalar held_is) (stands.2 offset own scalar leaf held_is))
    where
      names : {offset : ℕ} (found : Option Scalar) → held offset ≡ found → (b : _) (own : CType) (scalar : Scalar) → scalar_or found b own ≡ Some scalar → NamesGiven s scalar
      names {offset} (Some value) e b own scalar is =
          let leaf = sound.leaves offset value e in
          let same : value ≡ scalar = cc in
          subst (NamesGiven s) same (typed_given program s leaf.0 value leaf.1.scalar leaf.2)
      names None e true own scalar is = let same : cleared own ≡ scalar = cc in subst (NamesGiven s) same (cleared_given s own)
      names None e false own scalar is = absurd (cc)
