-- How words and memory stand for values and objects of three-address code. Where a living object lies, how offsets move within it, and how
-- wide its pointer slots are, is told by a map of memory; a pointer to an object that is there no more stands for any word.
use Rattle.std.specs.Prelude.{◌≡◌, ℕ, ◌+◌, ◌≤◌, ◌⊎◌, true, List, Option, Some}
use Rattle.c_num.specs.declared.IntType.TheVariants as I
use Rattle.c_num.specs.Conversion.{word_of}
use Rattle.c_typed.specs.Types.{CType}
use Rattle.c_typed.specs.Layouts.{StructDef}
use Rattle.tac_ir.specs.declared.register.Register.{Register}
use Rattle.tac_ir.specs.Values.{Object, Value, Number, NoAddress, Code, Address, Content, Typed, Objects}
use Rattle.tac_ir.specs.Layouts.{leaf_at}
use Rattle.tac_ir.specs.Objects.{is_there, fits}
use Rattle.tac_ir.specs.Trees.{Registers}
use Rattle.pool_ir.specs.Code.{Slot}
use Rattle.pool_ir.specs.Words.{Words}
use Rattle.pool_ir.specs.States.{State}
use Rattle.pool_ir.specs.Memory.{number_at, slot_size, slot_word}
use Rattle.pool_ir.specs.Meaning.{function_word}

pub record MemoryMap : Type 0 where
  -- the address of an object that is there
  pub address : Object → Option ℕ
  -- how many bytes behind its address what lies so many bytes behind the beginning of the object
  pub moved : Object → ℕ → ℕ
  -- how a scalar of a type lies there
  pub slot : Object → ℕ → CType → Slot
  -- how many bytes the object takes
  pub extent : Object → ℕ

-- ---- values

abbrev pub PlaceStands : MemoryMap → Object → ℕ → ℕ → Type 0
PlaceStands memory object offset word = (address : ℕ) × (memory.address object ≡ Some address) × (word ≡ address + memory.moved object offset)

abbrev pub Stands : Objects → MemoryMap → Value → ℕ → Type 0
Stands objects memory (Number z) word = word ≡ word_of I.ULong z
Stands objects memory NoAddress word = word ≡ 0
Stands objects memory (Code function) word = word ≡ function_word function
Stands objects memory (Address object offset) word = is_there (objects object) ≡ true → PlaceStands memory object offset word

-- what registers hold
abbrev pub WordsStand : Objects → MemoryMap → Registers → Words → Type 0
WordsStand objects memory registers words = (register : Register) (value : Value) → registers register ≡ Some value → Stands objects memory value (words register)

-- ---- objects

-- each scalar that an object holds stands in the bytes of its slot, where it fits there; no other is ever loaded
abbrev pub ContentStands : List StructDef → Objects → MemoryMap → State → Object → Content → Type 0
ContentStands structs objects memory state object (Typed c_type count held) =
    (offset : ℕ) (own : CType) (value : Value) → leaf_at structs c_type count offset ≡ Some own → held offset ≡ Some value → fits own value ≡ true
    → (address : ℕ) → memory.address object ≡ Some address
    → (number : ℕ) × (number_at state (address + memory.moved object offset) (slot_size (memory.slot object offset own)) ≡ Some number)
    × Stands objects memory value (slot_word state (memory.slot object offset own) number)
ContentStands structs objects memory state object content = Unit {0}

-- two ranges of bytes have none in common
abbrev pub AreApart : ℕ → ℕ → ℕ → ℕ → Type 0
AreApart start size other other_size = (start + size ≤ other) ⊎ (other + other_size ≤ start)

pub record MemoryStands (structs : List StructDef) (memory : MemoryMap) (objects : Objects) (state : State) : Type 0 where
  -- what is there has an address
  pub there : (object : Object) → is_there (objects object) ≡ true → (address : ℕ) × (memory.address object ≡ Some address)
  pub contents : (object : Object) → ContentStands structs objects memory state object (objects object)
  -- objects that are there lie apart
  pub apart : (object other : Object) (address other_address : ℕ) → is_there (objects object) ≡ true → is_there (objects other) ≡ true → memory.address object ≡ Some address
      → memory.address other ≡ Some other_address → (object ≡ other) ⊎ AreApart address (memory.extent object) other_address (memory.extent other)
