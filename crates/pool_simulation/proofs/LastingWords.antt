-- Words stand for what they stood for while objects last: stores, types that allocations get, and objects that are there no more change
-- nothing of it.
use Rattle.std.proofs.Common.{◌≡◌, ℕ, ◌+◌, ◌/◌, ◌%◌, ◌^◌, ◌≤◌, ◌⊎◌, inl, inr, ◌==◌, Bool, true, false, if◌then◌else◌, List, Option, Some, None, refl, sym, ap, ◌∙◌, subst, eqb-true, arith}
use Rattle.std.proofs.Math.Nat.{div-add-mod}
use Rattle.std.proofs.lemmas.Bool.{false≢true}
use Rattle.c_typed.specs.Types.{CType}
use Rattle.c_typed.specs.Layouts.{StructDef}
use Rattle.tac_ir.specs.declared.register.Register.{Register}
use Rattle.tac_ir.specs.Values.{Object, OfHeap, OfGlobal, OfLiteral, OfActivation, same_object, Value, Number, NoAddress, Code, Address, Content, Absent, Untyped, Typed, Objects, with_content}
use Rattle.tac_ir.specs.Layouts.{size_of}
use Rattle.tac_ir.specs.Objects.{Surroundings, is_there, extent_of, held_at, holding}
use Rattle.tac_ir.specs.Trees.{Registers, same_register, with_register}
use Rattle.tac_ir.specs.Pointers.{gives_type, typed_content}
use Rattle.tac_ir.specs.Calls.{closed}
use Rattle.tac_ir.specs.Code.{LocalObject, Tac}
use Rattle.pool_ir.specs.Code.{FrameLayout}
use Rattle.pool_ir.specs.Words.{Words, with_word}
use Rattle.pool_ir.specs.States as P
use Rattle.pool_rewrite.specs.Standing.{MemoryMap, Stands, WordsStand, AreApart, MemoryStands}
use Rattle.pool_simulation.specs.Placed.{BasesStand, addresses_end, Placed, IsInside, AreInside, HoldInside, Lasts}
use Rattle.pool_simulation.proofs.SameObjects.{same_object-true}

-- ---- objects that last

pub lasts_same : (structs : List StructDef) (objects : Objects) → Lasts structs objects objects
lasts_same structs objects = record { there = λ object there. there; extent = λ object there. refl }

pub lasts_then : (structs : List StructDef) (first second third : Objects) → Lasts structs first second → Lasts structs second third → Lasts structs first third
lasts_then structs first second third lasts lasts' = record {
  there = λ object there. lasts.there object (lasts'.there object there);
  extent = λ object there. lasts'.extent object there ∙ lasts.extent object (lasts'.there object there);
}

-- one object gets another content
pub lasts_with : (structs : List StructDef) (objects : Objects) (object : Object) (content : Content) → (is_there content ≡ true → is_there (objects object) ≡ true)
    → (is_there content ≡ true → extent_of structs content ≡ extent_of structs (objects object)) → Lasts structs objects (with_content object content objects)
lasts_with structs objects object content there extent = record { there = λ other. there_by other (same_object object other) refl; extent = λ other. extent_by other (same_object object other) refl }
  where
    there_by : (other : Object) (b : Bool) → same_object object other ≡ b → is_there (if b then content else objects other) ≡ true → is_there (objects other) ≡ true
    there_by other true same is = subst (λ o. is_there (objects o) ≡ true) (same_object-true object other same) (there is)
    there_by other false same is = is

    extent_by : (other : Object) (b : Bool) → same_object object other ≡ b → is_there (if b then content else objects other) ≡ true
        → extent_of structs (if b then content else objects other) ≡ extent_of structs (objects other)
    extent_by other true same is = extent is ∙ ap (λ o. extent_of structs (objects o)) (same_object-true object other same)
    extent_by other false same is = refl

-- a store
pub lasts_holding : (structs : List StructDef) (objects : Objects) (object : Object) (offset : ℕ) (value : Value) → Lasts structs objects (with_content object (holding offset value (objects object)) objects)
lasts_holding structs objects object offset value = lasts_with structs objects object (holding offset value (objects object)) (there (objects object)) (extent (objects object))
  where
    there : (content : Content) → is_there (holding offset value content) ≡ true → is_there content ≡ true
    there Absent is = is
    there (Untyped size) is = is
    there (Typed c_type count held) is = is

    extent : (content : Content) → is_there (holding offset value content) ≡ true → extent_of structs (holding offset value content) ≡ extent_of structs content
    extent Absent is = refl
    extent (Untyped size) is = refl
    extent (Typed c_type count held) is = refl

-- an object that is there no more
pub lasts_gone : (structs : List StructDef) (objects : Objects) (object : Object) → Lasts structs objects (with_content object Absent objects)
lasts_gone structs objects object = lasts_with structs objects object Absent (λ is. absurd (false≢true is)) (λ is. absurd (false≢true is))

-- those of an activation that ends
pub lasts_closed : (structs : List StructDef) (objects : Objects) (activation : ℕ) → Lasts structs objects (closed activation objects)
lasts_closed structs objects activation = record { there = there; extent = extent }
  where
    there_by : (own : Content) (b : Bool) → is_there (if b then Absent else own) ≡ true → is_there own ≡ true
    there_by own true is = absurd (false≢true is)
    there_by own false is = is

    extent_by : (own : Content) (b : Bool) → is_there (if b then Absent else own) ≡ true → extent_of structs (if b then Absent else own) ≡ extent_of structs own
    extent_by own true is = absurd (false≢true is)
    extent_by own false is = refl

    there : (object : Object) → is_there (closed activation objects object) ≡ true → is_there (objects object) ≡ true
    there (OfActivation number local) is = there_by (objects (OfActivation number local)) (number == activation) is
    there (OfHeap number) is = is
    there (OfGlobal number) is = is
    there (OfLiteral number) is = is

    extent : (object : Object) → is_there (closed activation objects object) ≡ true → extent_of structs (closed activation objects object) ≡ extent_of structs (objects object)
    extent (OfActivation number local) is = extent_by (objects (OfActivation number local)) (number == activation) is
    extent (OfHeap number) is = refl
    extent (OfGlobal number) is = refl
    extent (OfLiteral number) is = refl

-- an allocation that gets a type is as great as before
pub typed_lasts : (around : Surroundings) (target : CType) (content typed : Content) → typed_content around target content ≡ Some typed
    → (is_there typed ≡ is_there content) × (extent_of around.structs typed ≡ extent_of around.structs content)
typed_lasts around target Absent typed e = let same : Absent ≡ typed = cc in (ap is_there (sym same), ap (extent_of around.structs) (sym same))
typed_lasts around target (Typed c_type count held) typed e = let same : Typed c_type count held ≡ typed = cc in (ap is_there (sym same), ap (extent_of around.structs) (sym same))
typed_lasts around target (Untyped size) typed e = by (gives_type around target) e
  where
    gets : (b : Bool) → (size % size_of around.structs target == 0) ≡ b → (if b then Some (Typed target (size / size_of around.structs target) (λ offset. None)) else None) ≡ Some typed
        → (is_there typed ≡ true) × (extent_of around.structs typed ≡ size)
    gets true whole e =
        let own = size_of around.structs target in
        let same : Typed target (size / own) (λ offset. None) ≡ typed = cc in
        let none : size % own ≡ 0 = eqb-true (size % own) 0 whole in
        let all = div-add-mod size own in
        (ap is_there (sym same), ap (extent_of around.structs) (sym same) ∙ omega (arith, none, all))
    gets false whole e = absurd (cc)

    by : (b : Bool) → (if b then (if size % size_of around.structs target == 0 then Some (Typed target (size / size_of around.structs target) (λ offset. None)) else None) else Some (Untyped size)) ≡ Some typed
        → (is_there typed ≡ true) × (extent_of around.structs typed ≡ size)
    by true e = gets (size % size_of around.structs target == 0) refl e
    by false e = let same : Untyped size ≡ typed = cc in (ap is_there (sym same), ap (extent_of around.structs) (sym same))

pub lasts_typed : (around : Surroundings) (objects : Objects) (target : CType) (object : Object) (typed : Content) → typed_content around target (objects object) ≡ Some typed
    → Lasts around.structs objects (with_content object typed objects)
lasts_typed around objects target object typed e =
    let own = typed_lasts around target (objects object) typed e in
    lasts_with around.structs objects object typed (λ is. sym own.0 ∙ is) (λ is. own.1)

-- ---- what stands while objects last

module _ (structs : List StructDef) (before after : Objects) (lasts : Lasts structs before after) where
  pub inside_lasts : (value : Value) → IsInside structs before value → IsInside structs after value
  inside_lasts (Number z) inside = inside
  inside_lasts NoAddress inside = inside
  inside_lasts (Code function) inside = inside
  inside_lasts (Address object offset) inside = λ there. subst (λ n. offset ≤ n) (sym (lasts.extent object there)) (inside (lasts.there object there))

  pub all_inside_last : (registers : Registers) → AreInside structs before registers → AreInside structs after registers
  all_inside_last registers inside = λ register value is. inside_lasts value (inside register value is)

module _ (structs : List StructDef) (before after : Objects) (lasts : Lasts structs before after) (memory : MemoryMap) where
  pub stands_lasts : (value : Value) (word : ℕ) → Stands before memory value word → Stands after memory value word
  stands_lasts (Number z) word stands = stands
  stands_lasts NoAddress word stands = stands
  stands_lasts (Code function) word stands = stands
  stands_lasts (Address object offset) word stands = λ there. stands (lasts.there object there)

  pub words_last : (registers : Registers) (words : Words) → WordsStand before memory registers words → WordsStand after memory registers words
  words_last registers words stand = λ register value is. stands_lasts value (words register) (stand register value is)

  pub placed_lasts : Placed structs memory before → Placed structs memory after
  placed_lasts placed = record {
    there = λ object there.
        let own = placed.there object (lasts.there object there) in
        (own.0, own.1, own.2, subst (λ n. own.0 + n ≤ addresses_end) (sym (lasts.extent object there)) own.3);
    apart = λ object other address other_address there there' is is'.
        subst (λ n. (object ≡ other) ⊎ AreApart address n other_address (extent_of structs (after other))) (sym (lasts.extent object there))
        (subst (λ n. (object ≡ other) ⊎ AreApart address (extent_of structs (before object)) other_address n) (sym (lasts.extent other there'))
        (placed.apart object other address other_address (lasts.there object there) (lasts.there other there') is is'));
  }

  pub bases_last : (tac : Tac) (own : List LocalObject) (frame : FrameLayout) (activation start : ℕ) → BasesStand tac own frame activation before memory start → BasesStand tac own frame activation after memory start
  bases_last tac own frame activation start bases = record {
    locals = λ local inner is there. bases.locals local inner is (lasts.there (OfActivation activation local) there);
    globals = λ number global is there. bases.globals number global is (lasts.there (OfGlobal number) there);
    literals = λ number literal is there. bases.literals number literal is (lasts.there (OfLiteral number) there);
  }

-- ---- what objects hold

-- one object gets another content, and what that holds is inside
hold_with : (structs : List StructDef) (objects : Objects) (object : Object) (content : Content) → HoldInside structs objects → Lasts structs objects (with_content object content objects)
    → ((offset : ℕ) (value : Value) → held_at offset content ≡ Some value → IsInside structs objects value) → HoldInside structs (with_content object content objects)
hold_with structs objects object content hold lasts own = λ other offset value is.
    inside_lasts structs objects (with_content object content objects) lasts value (by other offset value (same_object object other) is)
  where
    by : (other : Object) (offset : ℕ) (value : Value) (b : Bool) → held_at offset (if b then content else objects other) ≡ Some value → IsInside structs objects value
    by other offset value true is = own offset value is
    by other offset value false is = hold other offset value is

-- a store
pub hold_holding : (structs : List StructDef) (objects : Objects) (object : Object) (offset : ℕ) (value : Value) → HoldInside structs objects → IsInside structs objects value
    → HoldInside structs (with_content object (holding offset value (objects object)) objects)
hold_holding structs objects object offset value hold inside =
    hold_with structs objects object (holding offset value (objects object)) hold (lasts_holding structs objects object offset value) (by (objects object) (hold object))
  where
    at : (held : ℕ → Option Value) (other : ℕ) (found : Value) (b : Bool) → (if b then Some value else held other) ≡ Some found → (held other ≡ Some found → IsInside structs objects found) → IsInside structs objects found
    at held other found true is old = let same : value ≡ found = cc in subst (IsInside structs objects) same inside
    at held other found false is old = old is

    by : (content : Content) → ((other : ℕ) (found : Value) → held_at other content ≡ Some found → IsInside structs objects found)
        → (other : ℕ) (found : Value) → held_at other (holding offset value content) ≡ Some found → IsInside structs objects found
    by Absent old other found is = absurd (cc)
    by (Untyped size) old other found is = absurd (cc)
    by (Typed c_type count held) old other found is = at held other found (offset == other) is (old other found)

-- an allocation that gets a type holds nothing yet
pub hold_typed : (around : Surroundings) (objects : Objects) (target : CType) (object : Object) (typed : Content) → typed_content around target (objects object) ≡ Some typed
    → HoldInside around.structs objects → HoldInside around.structs (with_content object typed objects)
hold_typed around objects target object typed e hold =
    hold_with around.structs objects object typed hold (lasts_typed around objects target object typed e) (by (objects object) (hold object) e)
  where
    gets : (size : ℕ) (b b' : Bool) → (if b then (if b' then Some (Typed target (size / size_of around.structs target) (λ offset. None)) else None) else Some (Untyped size)) ≡ Some typed
        → (offset : ℕ) → held_at offset typed ≡ None
    gets size true true e offset = let same : Typed target (size / size_of around.structs target) (λ offset. None) ≡ typed = cc in ap (held_at offset) (sym same)
    gets size true false e offset = absurd (cc)
    gets size false b' e offset = let same : Untyped size ≡ typed = cc in ap (held_at offset) (sym same)

    by : (content : Content) → ((offset : ℕ) (value : Value) → held_at offset content ≡ Some value → IsInside around.structs objects value) → typed_content around target content ≡ Some typed
        → (offset : ℕ) (value : Value) → held_at offset typed ≡ Some value → IsInside around.structs objects value
    by Absent old e offset value is = let same : Absent ≡ typed = cc in old offset value (ap (held_at offset) same ∙ is)
    by (Typed c_type count held) old e offset value is = let same : Typed c_type count held ≡ typed = cc in old offset value (ap (held_at offset) same ∙ is)
    by (Untyped size) old e offset value is = let none = gets size (gives_type around target) (size % size_of around.structs target == 0) e offset in absurd (cc)

-- an object that is there no more
pub hold_gone : (structs : List StructDef) (objects : Objects) (object : Object) → HoldInside structs objects → HoldInside structs (with_content object Absent objects)
hold_gone structs objects object hold = hold_with structs objects object Absent hold (lasts_gone structs objects object) (λ offset value is. absurd (cc))

-- those of an activation that ends
pub hold_closed : (structs : List StructDef) (objects : Objects) (activation : ℕ) → HoldInside structs objects → HoldInside structs (closed activation objects)
hold_closed structs objects activation hold = λ object offset value is. inside_lasts structs objects (closed activation objects) (lasts_closed structs objects activation) value (hold object offset value (held object offset value is))
  where
    by : (own : Content) (offset : ℕ) (value : Value) (b : Bool) → held_at offset (if b then Absent else own) ≡ Some value → held_at offset own ≡ Some value
    by own offset value true is = absurd (cc)
    by own offset value false is = is

    held : (object : Object) (offset : ℕ) (value : Value) → held_at offset (closed activation objects object) ≡ Some value → held_at offset (objects object) ≡ Some value
    held (OfActivation number local) offset value is = by (objects (OfActivation number local)) offset value (number == activation) is
    held (OfHeap number) offset value is = is
    held (OfGlobal number) offset value is = is
    held (OfLiteral number) offset value is = is

-- ---- registers that are written

pub words_written : (objects : Objects) (memory : MemoryMap) (registers : Registers) (words : Words) (to : Register) (value : Value) (word : ℕ) → WordsStand objects memory registers words
    → Stands objects memory value (word % 2 ^ 64) → WordsStand objects memory (with_register to (Some value) registers) (with_word to word words)
words_written objects memory registers words to value word stand stands = λ register held is. by register held (same_register to register) is
  where
    by : (register : Register) (held : Value) (b : Bool) → (if b then Some value else registers register) ≡ Some held → Stands objects memory held (if b then word % 2 ^ 64 else words register)
    by register held true is = let same : value ≡ held = cc in subst (λ v. Stands objects memory v (word % 2 ^ 64)) same stands
    by register held false is = stand register held is

pub inside_written : (structs : List StructDef) (objects : Objects) (registers : Registers) (to : Register) (value : Value) → AreInside structs objects registers
    → IsInside structs objects value → AreInside structs objects (with_register to (Some value) registers)
inside_written structs objects registers to value all inside = λ register held is. by register held (same_register to register) is
  where
    by : (register : Register) (held : Value) (b : Bool) → (if b then Some value else registers register) ≡ Some held → IsInside structs objects held
    by register held true is = let same : value ≡ held = cc in subst (IsInside structs objects) same inside
    by register held false is = all register held is

-- ---- placed objects

-- objects that lie apart in memory, each in its own bytes, are placed
pub placed_from : (structs : List StructDef) (memory : MemoryMap) (objects : Objects) (state : P.State) → MemoryStands structs memory objects state
    → ((object : Object) → is_there (objects object) ≡ true → extent_of structs (objects object) ≤ memory.extent object)
    → ((object : Object) (address : ℕ) → is_there (objects object) ≡ true → memory.address object ≡ Some address → (1 ≤ address) × (address + extent_of structs (objects object) ≤ addresses_end))
    → Placed structs memory objects
placed_from structs memory objects state stands most bounds = record {
  there = λ object there.
      let own = stands.there object there in
      let bound = bounds object own.0 there own.1 in
      (own.0, own.1, bound.0, bound.1);
  apart = λ object other address other_address there there' is is'. by object other address other_address (most object there) (most other there') (stands.apart object other address other_address there there' is is');
}
  where
    by : (object other : Object) (address other_address : ℕ) → extent_of structs (objects object) ≤ memory.extent object → extent_of structs (objects other) ≤ memory.extent other
        → (object ≡ other) ⊎ AreApart address (memory.extent object) other_address (memory.extent other)
        → (object ≡ other) ⊎ AreApart address (extent_of structs (objects object)) other_address (extent_of structs (objects other))
    by object other address other_address most most' (inl same) = inl same
    by object other address other_address most most' (inr (inl first)) = inr (inl (omega (arith, most, first)))
    by object other address other_address most most' (inr (inr second)) = inr (inr (omega (arith, most', second)))
