-- Memory stands where some objects have died, and their locals have no place any more.
use Rattle.std.proofs.Common.{◌≡◌, Option, Some, sym, ◌∙◌, subst}
use Rattle.c_typed.specs.Typed.{Program}
use Rattle.ref_semantics.specs.Values as V
use Rattle.ref_semantics.specs.Values.{Name, Heap, Scalar, IntegerValue, NullValue, FunctionValue, PointerValue, RawPointer}
use Rattle.ref_semantics.specs.Store as S
use Rattle.tac_ir.specs.Values.{Object, Value, Content, Objects}
use Rattle.tac_simulation.specs.Standing.{Placement, image, WhereAlive, ScalarStands, HoldsFor, ContentStands, IsAlive, MemoryStands}

module _ (program : Program) (placement placement' : Placement) (objects after : S.Objects) (objects' after' : Objects)
    (same : (name : Name) → IsAlive (after name) → (after name ≡ objects name) × (image program placement' name ≡ image program placement name))
    (same' : (name : Name) (object : Object) → IsAlive (after name) → image program placement name ≡ Some object → after' object ≡ objects' object) where
  was_alive : (name : Name) → IsAlive (after name) → IsAlive (objects name)
  was_alive name lives = subst IsAlive (same name lives).0 lives

  where_fewer : (old new : V.Content) (A B : Type 0) → (IsAlive new → IsAlive old) → (IsAlive new → A → B) → WhereAlive old A → WhereAlive new B
  where_fewer old V.Dead A B lives moves stands = tt
  where_fewer V.Dead (V.Raw size) A B lives moves stands = absurd (lives tt)
  where_fewer V.Dead (V.Elements is_static c_type count held) A B lives moves stands = absurd (lives tt)
  where_fewer (V.Raw n) (V.Raw size) A B lives moves stands = moves tt stands
  where_fewer (V.Raw n) (V.Elements is_static c_type count held) A B lives moves stands = moves tt stands
  where_fewer (V.Elements is_static c_type count held) (V.Raw size) A B lives moves stands = moves tt stands
  where_fewer (V.Elements is_static c_type count held) (V.Elements is_static' c_type' count' held') A B lives moves stands = moves tt stands

  pub fewer_value : (scalar : Scalar) (value : Value) → ScalarStands program objects placement scalar value → ScalarStands program after placement' scalar value
  fewer_value (IntegerValue z) value stands = stands
  fewer_value NullValue value stands = stands
  fewer_value (FunctionValue name) value stands = stands
  fewer_value (PointerValue place) value stands =
      (stands.0, where_fewer (objects place.name) (after place.name) _ _ (was_alive place.name) (λ lives h. (h.0, h.1, ((same place.name lives).1 ∙ h.2.0, h.2.1), h.3)) stands.1)
  fewer_value (RawPointer number) value stands = (stands.0, where_fewer (objects (Heap number)) (after (Heap number)) _ _ (was_alive (Heap number)) (λ lives h. h) stands.1)

  pub fewer_held : (scalar : Scalar) (held : Option Value) → HoldsFor program objects placement scalar held → HoldsFor program after placement' scalar held
  fewer_held scalar held holds = (holds.0, holds.1, fewer_value scalar holds.0 holds.2)

  fewer_content : (own : V.Content) (content : Content) → ContentStands program objects placement own content → ContentStands program after placement' own content
  fewer_content V.Dead content stands = tt
  fewer_content (V.Raw size) content stands = stands
  fewer_content (V.Elements is_static c_type count held) content stands = (stands.0, stands.1, λ offset own scalar leaf is. fewer_held scalar (stands.0 offset) (stands.2 offset own scalar leaf is))

  pub fewer_stand : MemoryStands program placement objects objects' → MemoryStands program placement' after after'
  fewer_stand memory = record {
    contents = λ name object is. by name object is (after name) (λ lives. lives) (λ lives. (same name lives).0);
    apart = λ one other object lives lives' is is'. memory.apart one other object (was_alive one lives) (was_alive other lives') (sym (same one lives).1 ∙ is) (sym (same other lives').1 ∙ is');
  }
    where
      living : (name : Name) (object : Object) → image program placement' name ≡ Some object → (own : V.Content) → IsAlive (after name) → own ≡ objects name → ContentStands program after placement' own (after' object)
      living name object is own lives e =
          let was = sym (same name lives).1 ∙ is in
          subst (λ content. ContentStands program after placement' own content) (sym (same' name object lives was))
          (fewer_content own (objects' object) (subst (λ content. ContentStands program objects placement content (objects' object)) (sym e) (memory.contents name object was)))

      by : (name : Name) (object : Object) → image program placement' name ≡ Some object → (own : V.Content) → (IsAlive own → IsAlive (after name)) → (IsAlive (after name) → own ≡ objects name) → ContentStands program after placement' own (after' object)
      by name object is V.Dead lives e = tt
      by name object is (V.Raw size) lives e = living name object is (V.Raw size) (lives tt) (e (lives tt))
      by name object is (V.Elements is_static c_type count held) lives e = living name object is (V.Elements is_static c_type count held) (lives tt) (e (lives tt))
