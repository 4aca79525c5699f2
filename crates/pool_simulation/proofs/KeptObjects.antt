-- Objects that stay as they were, at their addresses, while others come and go: what stood for values stands for them still, and what is held
-- in memory stands there.
use Rattle.std.proofs.Common.{◌≡◌, ℕ, zero, suc, ◌+◌, ◌*◌, ◌%◌, ◌^◌, ◌<◌, ◌≤◌, Bool, true, false, List, Option, Some, None, refl, sym, ap, subst, ◌∙◌, ltb-true, arith}
use Rattle.std.specs.Prelude.{nat_lt, if◌then◌else◌}
use Rattle.c_num.specs.declared.IntType.TheVariants as I
use Rattle.c_typed.specs.Types.{CType, Void, Integer, Pointer, Array, Struct, Function}
use Rattle.c_typed.specs.Layouts.{StructDef, layouts}
use Rattle.tac_ir.specs.Values as V
use Rattle.tac_ir.specs.Values.{Value, Number, NoAddress, Code, Address, Content, Absent, Untyped, Typed}
use Rattle.tac_ir.specs.Layouts.{size_of, leaves_in, leaves_by_tag, leaf_at}
use Rattle.tac_ir.specs.Objects.{is_there, extent_of, held_at}
use Rattle.tac_ir.specs.States as T
use Rattle.tac_ir.specs.Code.{Tac}
use Rattle.pool_ir.specs.States as P
use Rattle.pool_ir.specs.Memory.{number_at, slot_size, slot_word}
use Rattle.pool_rewrite.specs.Plan.{Plan}
use Rattle.pool_rewrite.specs.Rewriting.{slot_of}
use Rattle.pool_rewrite.specs.Standing.{Stands, ContentStands}
use Rattle.pool_simulation.specs.Placed.{IsInside, HoldInside, addresses_end}
use Rattle.pool_simulation.specs.InStep.{address_in, memory_in, IsOld}
use Rattle.pool_simulation.proofs.LeavesApart.{leaf_within}
use Rattle.pool_simulation.proofs.InStepWords.{StillStands, old_rises, slot_word-same}

-- ---- scalars

-- a scalar has a byte or more
pub slot_some : (own : CType) → 1 ≤ slot_size (slot_of own)
slot_some (Integer I.Char) = omega arith
slot_some (Integer I.UChar) = omega arith
slot_some (Integer I.Short) = omega arith
slot_some (Integer I.UShort) = omega arith
slot_some (Integer I.Int) = omega arith
slot_some (Integer I.UInt) = omega arith
slot_some (Integer I.Long) = omega arith
slot_some (Integer I.ULong) = omega arith
slot_some Void = omega arith
slot_some (Pointer target) = omega arith
slot_some (Array element count) = omega arith
slot_some (Struct tag) = omega arith
slot_some (Function result parameters) = omega arith

part_small : (count size offset : ℕ) → count * size ≤ addresses_end → offset < count * size → size < 2 ^ 62
part_small zero size offset most less = absurd (let none : zero * size ≡ 0 = omega arith in omega (arith, none, less))
part_small (suc count) size offset most less = let parts : suc count * size ≡ size + count * size = omega arith in omega (arith, parts, most)

-- a scalar of an object that is not too great ends within it
pub leaf_inside : (structs : List StructDef) (c_type : CType) (count offset : ℕ) (own : CType) → count * size_of structs c_type ≤ addresses_end → leaf_at structs c_type count offset ≡ Some own
    → offset + slot_size (slot_of own) ≤ count * size_of structs c_type
leaf_inside structs c_type count offset own most is = leaf_within structs c_type count offset own (part_small count size offset most (by (nat_lt offset (count * size)) refl is)) is
  where
    size : ℕ
    size = size_of structs c_type

    by : (b : Bool) → nat_lt offset (count * size) ≡ b
        → (if b then leaves_in (layouts structs) (leaves_by_tag structs) c_type (offset % size) else None) ≡ Some own → offset < count * size
    by true less e = ltb-true offset (count * size) less
    by false less e = absurd (cc)

-- ---- objects

-- What was made before and is there is as it was and where it was, and nothing is held that was not held before.
pub record Keeps (tac : Tac) (plan : Plan) (state : T.State) (machine : P.State) (next : T.State) (later : P.State) : Type 0 where
  pub heap : state.next_heap ≤ next.next_heap
  pub activations : state.next_activation ≤ next.next_activation
  pub same : (object : V.Object) (offset : ℕ) → IsOld state (Address object offset) → is_there (next.objects object) ≡ true → next.objects object ≡ state.objects object
  pub address : (object : V.Object) (address : ℕ) → address_in tac plan state machine object ≡ Some address → address_in tac plan next later object ≡ Some address
  pub holds : (object : V.Object) (offset : ℕ) (value : Value) → held_at offset (next.objects object) ≡ Some value → held_at offset (state.objects object) ≡ Some value

module _ (tac : Tac) (plan : Plan) (state : T.State) (machine : P.State) (next : T.State) (later : P.State) (keeps : Keeps tac plan state machine next later) where
  pub kept_stands : (value : Value) (word : ℕ) → IsOld state value → Stands state.objects (memory_in tac plan state machine) value word → Stands next.objects (memory_in tac plan next later) value word
  kept_stands (Number z) word old stands = stands
  kept_stands NoAddress word old stands = stands
  kept_stands (Code function) word old stands = stands
  kept_stands (Address object offset) word old stands = λ there.
      let place = stands (ap is_there (sym (keeps.same object offset old there)) ∙ there) in
      (place.0, keeps.address object place.0 place.1, place.2)

  pub kept_inside : (value : Value) → IsOld state value → IsInside tac.structs state.objects value → IsInside tac.structs next.objects value
  kept_inside (Number z) old inside = inside
  kept_inside NoAddress old inside = inside
  kept_inside (Code function) old inside = inside
  kept_inside (Address object offset) old inside = λ there.
      let same = keeps.same object offset old there in
      subst (λ content. offset ≤ extent_of tac.structs content) (sym same) (inside (ap is_there (sym same) ∙ there))

  pub kept_old : (value : Value) → IsOld state value → IsOld next value
  kept_old value old = old_rises state next keeps.heap keeps.activations value old

  pub kept_still : StillStands tac state next (memory_in tac plan state machine) (memory_in tac plan next later)
  kept_still = record { words = kept_stands; inside = kept_inside; old = kept_old }

  -- what objects hold
  pub kept_hold : HoldInside tac.structs state.objects → ((object : V.Object) (offset : ℕ) (value : Value) → held_at offset (state.objects object) ≡ Some value → IsOld state value)
      → HoldInside tac.structs next.objects
  kept_hold inside old = λ object offset value is. let was = keeps.holds object offset value is in kept_inside value (old object offset value was) (inside object offset value was)

  pub kept_held : ((object : V.Object) (offset : ℕ) (value : Value) → held_at offset (state.objects object) ≡ Some value → IsOld state value)
      → (object : V.Object) (offset : ℕ) (value : Value) → held_at offset (next.objects object) ≡ Some value → IsOld next value
  kept_held old = λ object offset value is. kept_old value (old object offset value (keeps.holds object offset value is))

  -- an object's scalars stand where they stood, if its bytes are read as before
  pub kept_content : (object : V.Object) (content : Content)
      → (is_there content ≡ true → (address : ℕ) × (address_in tac plan state machine object ≡ Some address))
      → ((offset : ℕ) (value : Value) → held_at offset content ≡ Some value → IsOld state value)
      → ((c_type : CType) (count : ℕ) (held : ℕ → Option Value) (offset : ℕ) (own : CType) (address number : ℕ) → content ≡ Typed c_type count held → leaf_at tac.structs c_type count offset ≡ Some own
      → address_in tac plan state machine object ≡ Some address → number_at machine (address + offset) (slot_size (slot_of own)) ≡ Some number → number_at later (address + offset) (slot_size (slot_of own)) ≡ Some number)
      → ContentStands tac.structs state.objects (memory_in tac plan state machine) machine object content → ContentStands tac.structs next.objects (memory_in tac plan next later) later object content
  kept_content object Absent there old reads stands = tt
  kept_content object (Untyped size) there old reads stands = tt
  kept_content object (Typed c_type count held) there old reads stands = λ offset own value leaf is fit address at.
      let first = there refl in
      let was : address_in tac plan state machine object ≡ Some address = first.1 ∙ sym (keeps.address object first.0 first.1) ∙ at in
      let read = stands offset own value leaf is fit address was in (
        read.0,
        reads c_type count held offset own address read.0 refl leaf was read.1,
        subst (λ word. Stands next.objects (memory_in tac plan next later) value word) (sym (slot_word-same machine later own read.0))
            (kept_stands value (slot_word machine (slot_of own) read.0) (old offset value is) read.2),
      )
