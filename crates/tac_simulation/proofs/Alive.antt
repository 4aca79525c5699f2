-- Values stand for values as long as what they point to is alive or dead as before.
use Rattle.std.proofs.Common.{Option}
use Rattle.c_typed.specs.Typed.{Program}
use Rattle.ref_semantics.specs.Values as V
use Rattle.ref_semantics.specs.Values.{Name, Heap, Scalar, IntegerValue, NullValue, FunctionValue, PointerValue, RawPointer}
use Rattle.ref_semantics.specs.Store as S
use Rattle.tac_ir.specs.Values.{Value, Content}
use Rattle.tac_simulation.specs.Standing.{Placement, WhereAlive, ScalarStands, HoldsFor, ContentStands, IsAlive}

-- what is alive was alive
abbrev pub LivesBefore : S.Objects → S.Objects → Type 0
LivesBefore before after = (name : Name) → IsAlive (after name) → IsAlive (before name)

pub where_alive : (old new : V.Content) (A : Type 0) → (IsAlive new → IsAlive old) → WhereAlive old A → WhereAlive new A
where_alive old V.Dead A lives stands = tt
where_alive V.Dead (V.Raw size) A lives stands = absurd (lives tt)
where_alive V.Dead (V.Elements is_static c_type count held) A lives stands = absurd (lives tt)
where_alive (V.Raw n) (V.Raw size) A lives stands = stands
where_alive (V.Raw n) (V.Elements is_static c_type count held) A lives stands = stands
where_alive (V.Elements is_static c_type count held) (V.Raw size) A lives stands = stands
where_alive (V.Elements is_static c_type count held) (V.Elements is_static' c_type' count' held') A lives stands = stands

module _ (program : Program) (placement : Placement) (before after : S.Objects) (lives : LivesBefore before after) where
  pub value_lasts : (scalar : Scalar) (value : Value) → ScalarStands program before placement scalar value → ScalarStands program after placement scalar value
  value_lasts (IntegerValue z) value stands = stands
  value_lasts NullValue value stands = stands
  value_lasts (FunctionValue name) value stands = stands
  value_lasts (PointerValue place) value stands = (stands.0, where_alive (before place.name) (after place.name) _ (lives place.name) stands.1)
  value_lasts (RawPointer number) value stands = (stands.0, where_alive (before (Heap number)) (after (Heap number)) _ (lives (Heap number)) stands.1)

  pub held_lasts : (scalar : Scalar) (held : Option Value) → HoldsFor program before placement scalar held → HoldsFor program after placement scalar held
  held_lasts scalar held holds = (holds.0, holds.1, value_lasts scalar holds.0 holds.2)

  pub content_lasts : (own : V.Content) (content : Content) → ContentStands program before placement own content → ContentStands program after placement own content
  content_lasts V.Dead content stands = tt
  content_lasts (V.Raw size) content stands = stands
  content_lasts (V.Elements is_static c_type count held) content stands = (stands.0, stands.1, λ offset own scalar leaf held. held_lasts scalar (stands.0 offset) (stands.2 offset own scalar leaf held))
