-- Words, activations and contents that stood for what they hold stand for it in a later state, where objects stay with what they hold and
-- where they lie.
use Rattle.std.proofs.Common.{◌≡◌, ℕ, ◌+◌, ◌*◌, ◌%◌, ◌<◌, ◌≤◌, Bool, true, false, if◌then◌else◌, List, [], ◌∷◌, Option, Some, None, refl, sym, ap, subst, ◌∙◌, arith, ltb-true}
use Rattle.std.specs.Prelude.{nat_lt}
use Rattle.std.proofs.lemmas.Bool.{false≢true}
use Rattle.c_num.specs.declared.IntType.{IntType}
use Rattle.c_num.specs.declared.IntType.TheVariants as I
use Rattle.c_typed.specs.Types.{CType, Integer}
use Rattle.c_typed.specs.Layouts.{StructDef, layouts}
use Rattle.tac_ir.specs.Values as V
use Rattle.tac_ir.specs.Values.{OfHeap, OfGlobal, OfLiteral, OfActivation, Value, Number, NoAddress, Code, Address, Content, Absent, Untyped, Typed, Objects}
use Rattle.tac_ir.specs.Layouts.{size_of, leaves_in, leaves_by_tag, leaf_at}
use Rattle.tac_ir.specs.Objects.{is_there, extent_of, held_at}
use Rattle.tac_ir.specs.States as T
use Rattle.tac_ir.specs.Code.{Tac}
use Rattle.pool_isa.specs.Machine as M
use Rattle.pool_ir.specs.States as P
use Rattle.pool_ir.specs.Memory.{number_at, slot_size, slot_word}
use Rattle.pool_rewrite.specs.Plan.{Plan}
use Rattle.pool_rewrite.specs.Rewriting.{slot_of}
use Rattle.pool_rewrite.specs.Standing.{MemoryMap, Stands, ContentStands}
use Rattle.pool_simulation.specs.Placed.{IsInside}
use Rattle.pool_simulation.specs.InStep.{address_in, memory_in, IsOld, ActivationStands, CallersStand}

-- ---- contents

-- what an object holds tells that it is there
pub held_there : (content : Content) (offset : ℕ) (value : Value) → held_at offset content ≡ Some value → is_there content ≡ true
held_there Absent offset value is = absurd (cc)
held_there (Untyped size) offset value is = refl
held_there (Typed c_type count held) offset value is = refl

-- of nothing that is held, nothing is asked
pub nothing_stands : (structs : List StructDef) (objects : Objects) (memory : MemoryMap) (state : P.State) (object : V.Object) (content : Content) → ((offset : ℕ) (value : Value) → held_at offset content ≡ Some value → ⊥)
    → ContentStands structs objects memory state object content
nothing_stands structs objects memory state object Absent none = tt
nothing_stands structs objects memory state object (Untyped size) none = tt
nothing_stands structs objects memory state object (Typed c_type count held) none = λ offset own value leaf is fit address at. absurd (none offset value is)

-- ---- scalars

-- a scalar begins in its object
leaf_inside : (structs : List StructDef) (c_type : CType) (count offset : ℕ) (own : CType) → leaf_at structs c_type count offset ≡ Some own → offset < count * size_of structs c_type
leaf_inside structs c_type count offset own leaf = by (leaves_in (layouts structs) (leaves_by_tag structs) c_type (offset % size_of structs c_type)) (nat_lt offset (count * size_of structs c_type)) refl leaf
  where
    by : (found : Option CType) (b : Bool) → nat_lt offset (count * size_of structs c_type) ≡ b → (if b then found else None) ≡ Some own → offset < count * size_of structs c_type
    by found true less e = ltb-true offset (count * size_of structs c_type) less
    by found false less e = absurd (cc)

integer_some : (int_type : IntType) → 1 ≤ M.size_of int_type
integer_some I.Char = omega arith
integer_some I.UChar = omega arith
integer_some I.Short = omega arith
integer_some I.UShort = omega arith
integer_some I.Int = omega arith
integer_some I.UInt = omega arith
integer_some I.Long = omega arith
integer_some I.ULong = omega arith

slot_some : (own : CType) → 1 ≤ slot_size (slot_of own)
slot_some (Integer int_type) = integer_some int_type
slot_some own = omega arith

-- words in slots are read without the state
slot_same : (own : CType) (machine later : P.State) (number : ℕ) → slot_word machine (slot_of own) number ≡ slot_word later (slot_of own) number
slot_same (Integer int_type) machine later number = refl
slot_same own machine later number = refl

-- ---- objects that stay

module _ (tac : Tac) (plan : Plan) (state next : T.State) (machine later : P.State) where
  -- it has what it had, where it was, if it is there
  abbrev pub Stays : V.Object → Type 0
  Stays object = is_there (next.objects object) ≡ true → (next.objects object ≡ state.objects object) × (address_in tac plan next later object ≡ address_in tac plan state machine object)

  abbrev pub PlaceStays : Value → Type 0
  PlaceStays (Address object offset) = Stays object
  PlaceStays value = Unit {0}

  pub held_before : (object : V.Object) (offset : ℕ) (value : Value) → Stays object → held_at offset (next.objects object) ≡ Some value → held_at offset (state.objects object) ≡ Some value
  held_before object offset value stays is = ap (held_at offset) (sym (stays (held_there (next.objects object) offset value is)).0) ∙ is

  module _ (stay : (value : Value) → IsOld state value → PlaceStays value) (heap : state.next_heap ≤ next.next_heap) (made : state.next_activation ≤ next.next_activation) where
    pub old_stays : (value : Value) → IsOld state value → IsOld next value
    old_stays (Address (OfHeap number) offset) old = omega (arith, old, heap)
    old_stays (Address (OfActivation activation local) offset) old = omega (arith, old, made)
    old_stays (Address (OfGlobal number) offset) old = tt
    old_stays (Address (OfLiteral number) offset) old = tt
    old_stays (Number z) old = tt
    old_stays NoAddress old = tt
    old_stays (Code function) old = tt

    pub stands_stays : (value : Value) (word : ℕ) → IsOld state value → Stands state.objects (memory_in tac plan state machine) value word → Stands next.objects (memory_in tac plan next later) value word
    stands_stays (Number z) word old stands = stands
    stands_stays NoAddress word old stands = stands
    stands_stays (Code function) word old stands = stands
    stands_stays (Address object offset) word old stands = λ there.
        let same = stay (Address object offset) old there in
        let was = stands (ap is_there (sym same.0) ∙ there) in
        (was.0, same.1 ∙ was.1, was.2)

    pub inside_stays : (value : Value) → IsOld state value → IsInside tac.structs state.objects value → IsInside tac.structs next.objects value
    inside_stays (Number z) old inside = inside
    inside_stays NoAddress old inside = inside
    inside_stays (Code function) old inside = inside
    inside_stays (Address object offset) old inside = λ there.
        let same = stay (Address object offset) old there in
        subst (λ content. offset ≤ extent_of tac.structs content) (sym same.0) (inside (ap is_there (sym same.0) ∙ there))

    pub activation_stays : (activation : T.Activation) (own : P.Activation) → ActivationStands tac plan state (memory_in tac plan state machine) activation own → ActivationStands tac plan next (memory_in tac plan next later) activation own
    activation_stays activation own stand = record {
      owner = stand.owner;
      at = stand.at;
      kept = stand.kept;
      words = λ register value is. stands_stays value (own.words register) (stand.old register value is) (stand.words register value is);
      inside = λ register value is. inside_stays value (stand.old register value is) (stand.inside register value is);
      old = λ register value is. old_stays value (stand.old register value is);
      long = stand.long;
    }

    pub callers_stay : (callers : List (ℕ × T.Activation)) (others : List (ℕ × P.Activation)) → CallersStand tac plan state (memory_in tac plan state machine) callers others → CallersStand tac plan next (memory_in tac plan next later) callers others
    callers_stay [] [] stand = tt
    callers_stay [] (own ∷ others) stand = absurd stand
    callers_stay (waiting ∷ callers) [] stand = absurd stand
    callers_stay (waiting ∷ callers) (own ∷ others) stand = (stand.0, activation_stays waiting.1 own.1 stand.1, callers_stay callers others stand.2)

    -- what an object holds, where its bytes read as before
    content_by : (object : V.Object) (content : Content) → address_in tac plan next later object ≡ address_in tac plan state machine object
        → ((offset : ℕ) (value : Value) → held_at offset content ≡ Some value → IsOld state value)
        → ((address offset width number : ℕ) → address_in tac plan state machine object ≡ Some address → offset < extent_of tac.structs content → 1 ≤ width
        → number_at machine (address + offset) width ≡ Some number → number_at later (address + offset) width ≡ Some number)
        → ContentStands tac.structs state.objects (memory_in tac plan state machine) machine object content → ContentStands tac.structs next.objects (memory_in tac plan next later) later object content
    content_by object Absent same olds reads stand = tt
    content_by object (Untyped size) same olds reads stand = tt
    content_by object (Typed c_type count held) same olds reads stand = λ offset own value leaf is fit address at.
        let was = stand offset own value leaf is fit address (sym same ∙ at) in (
          was.0,
          reads address offset (slot_size (slot_of own)) was.0 (sym same ∙ at) (leaf_inside tac.structs c_type count offset own leaf) (slot_some own) was.1,
          subst (λ word. Stands next.objects (memory_in tac plan next later) value word) (slot_same own machine later was.0)
              (stands_stays value (slot_word machine (slot_of own) was.0) (olds offset value is) was.2),
        )

    pub content_stays : (object : V.Object) → Stays object → ((offset : ℕ) (value : Value) → held_at offset (state.objects object) ≡ Some value → IsOld state value)
        → ((address offset width number : ℕ) → is_there (next.objects object) ≡ true → address_in tac plan state machine object ≡ Some address → offset < extent_of tac.structs (state.objects object) → 1 ≤ width
        → number_at machine (address + offset) width ≡ Some number → number_at later (address + offset) width ≡ Some number)
        → ContentStands tac.structs state.objects (memory_in tac plan state machine) machine object (state.objects object)
        → ContentStands tac.structs next.objects (memory_in tac plan next later) later object (next.objects object)
    content_stays object stays olds reads stand = by (is_there (next.objects object)) refl
      where
        by : (b : Bool) → is_there (next.objects object) ≡ b → ContentStands tac.structs next.objects (memory_in tac plan next later) later object (next.objects object)
        by true there =
            let same = stays there in
            subst (λ content. ContentStands tac.structs next.objects (memory_in tac plan next later) later object content) (sym same.0)
            (content_by object (state.objects object) same.1 olds (λ address offset width number. reads address offset width number there) stand)
        by false gone = nothing_stands tac.structs next.objects (memory_in tac plan next later) later object (next.objects object)
            (λ offset value is. false≢true (sym gone ∙ held_there (next.objects object) offset value is))
