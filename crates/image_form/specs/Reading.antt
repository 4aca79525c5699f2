-- What the readers of an image's fields answer.
use Rattle.std.specs.Prelude.{◌≡◌, ◌==◌, ℕ, suc, ◌/◌, ◌+◌, ◌≤◌, ◌<◌, Bool, IsTrue, List, [], ◌∷◌, ◌++◌, length, map, Result, Ok, Err, Vec, if◌then◌else◌}
use Rattle.std.specs.declared.alloc.Global.{Global}
use Rattle.std.specs.List.{AllByRecursion, flat_map}
use Rattle.pool_isa.specs.declared.instr.Instr.{Instr}
use Rattle.pool_isa.specs.declared.instr.Instr.TheVariants as instrs
use Rattle.pool_isa.specs.Instr.{spelling, Fits}
use Rattle.pool_isa.specs.Number.{number_bytes}
use Rattle.pool_isa.specs.Spelling.{StandsAt, IsFaultAt}
use Rattle.pool_isa.specs.Machine as machine
use Rattle.pool_isa.specs.Ranges.{IsWithin, InRange, is_last, IsFunction}
use Rattle.image_form.specs.declared.code.Counts.{Counts}
use Rattle.image_form.specs.declared.code.Reference.{Reference}
use Rattle.image_form.specs.declared.code.Reference.TheVariants.{Jump, JumpIfZero, JumpIfNotZero, Call, PoolInit}
use Rattle.image_form.specs.declared.functions.Head.{Head}
use Rattle.image_form.specs.declared.reading.Header.{Header}
use Rattle.image_form.specs.declared.image.Function.{Function}
use Rattle.slab_space.specs.declared.kind.PoolKind.{PoolKind}
use Rattle.slab_space.specs.declared.kind.PoolKind.TheVariants.{Mixed, Homogeneous}
use Rattle.image_form.specs.declared.image.ImageErr.{ImageErr}
use Rattle.image_form.specs.declared.image.ImageErr.TheVariants.{Bad, OutOfMemory}
use Rattle.image_form.specs.Form.{Form, function_of, function_bytes, kind_bytes, BeginsWithStart, EndsNonzero, IsKind}

-- the bytes of some such field
abbrev pub Spelled : {V : Type 0} → (V → Type 0) → (V → List ℕ) → List ℕ → Type 0
Spelled {V} IsField bytes_of bytes = (field : V) × IsField field × (bytes ≡ bytes_of field)

-- the error holds the place of the first fault from here on, unless memory ran out
abbrev pub Refuses : (List ℕ → Type 0) → List ℕ → ℕ → ImageErr → Type 0
Refuses IsSpelling bytes at (Bad place) = IsFaultAt IsSpelling bytes at place
Refuses IsSpelling bytes at OutOfMemory = Unit {0}

-- A reader of a field, asked at a place: what it finds is such a field, whose bytes stand there up to the place behind
-- them; where it refuses, it says where the first fault is.
abbrev pub IsDecoded : {T V : Type 0} → (V → Type 0) → (V → List ℕ) → (T → V) → List ℕ → ℕ → Result (T × ℕ) ImageErr → Type 0
IsDecoded IsField bytes_of view bytes at (Ok found) = IsField (view found.0) × StandsAt bytes at found.1 (bytes_of (view found.0))
IsDecoded IsField bytes_of view bytes at (Err fault) = Refuses (Spelled IsField bytes_of) bytes at fault

-- the decoded image is this one, unless memory ran out
abbrev pub IsDecodedUnlessMemory : {T : Type 0} → (T → Form) → Result T ImageErr → Form → Type 0
IsDecodedUnlessMemory view (Ok image) form = view image ≡ form
IsDecodedUnlessMemory view (Err (Bad place)) form = ⊥
IsDecodedUnlessMemory view (Err OutOfMemory) form = Unit {0}

-- each item of a list is so at its index, the first at this one
abbrev pub EachFrom : {X : Type 0} → (ℕ → X → Type 0) → ℕ → List X → Type 0
EachFrom IsItem index [] = Unit {0}
EachFrom IsItem index (item ∷ items) = IsItem index item × EachFrom IsItem (suc index) items

-- so many items, each so at its index
abbrev pub IsList : {X : Type 0} → (ℕ → X → Type 0) → ℕ → List X → Type 0
IsList IsItem count items = (length items ≡ count) × EachFrom IsItem 0 items

-- ---- instructions

-- the instruction of a reference with its number
abbrev pub refer : Reference → ℕ → Instr
refer Jump n = instrs.Jump n
refer JumpIfZero n = instrs.JumpIfZero n
refer JumpIfNotZero n = instrs.JumpIfNotZero n
refer Call n = instrs.Call n
refer PoolInit n = instrs.PoolInit n

-- its number is below this
abbrev pub range_of : Counts → Reference → ℕ
range_of counts Jump = counts.instrs
range_of counts JumpIfZero = counts.instrs
range_of counts JumpIfNotZero = counts.instrs
range_of counts Call = counts.functions
range_of counts PoolInit = counts.kinds

-- the instruction may stand in any image
abbrev pub NamesNothing : Instr → Type 0
NamesNothing instr = (kinds functions count : ℕ) → InRange kinds functions count instr

-- at the end of a function control doesn't fall through it
abbrev pub EndsWell : Bool → Instr → Type 0
EndsWell at_end instr = IsTrue at_end → IsTrue (is_last instr)

-- an instruction with its operand in range
abbrev pub IsInstr : Counts → Bool → Instr → Type 0
IsInstr counts at_end instr = Fits instr × InRange counts.kinds counts.functions counts.instrs instr × EndsWell at_end instr

-- the instructions of a function
abbrev pub IsInstrAt : Counts → ℕ → Instr → Type 0
IsInstrAt counts index instr = IsInstr counts (index + 1 == counts.instrs) instr

abbrev pub IsCode : Counts → List Instr → Type 0
IsCode counts code = IsList (IsInstrAt counts) counts.instrs code

abbrev pub instrs_of : Vec Instr Global → List Instr
instrs_of code = code.items

abbrev pub code_bytes : List Instr → List ℕ
code_bytes code = flat_map spelling code

-- ---- functions

-- the numbers of a function: what it is without its instructions, and how many these are
abbrev pub IsHead : ℕ → Head → Type 0
IsHead most head =
    IsWithin 0 most head.parameters × IsWithin 0 67108864 head.extra × IsWithin 1 65536 head.height × IsWithin 0 4294967295 head.signature × IsWithin 1 4294967295 head.count

abbrev pub head_bytes : Head → List ℕ
head_bytes head =
    number_bytes head.parameters ++ (number_bytes head.extra ++ (number_bytes head.height ++ (number_bytes head.signature ++ number_bytes head.count)))

-- the function of numbers and instructions
abbrev pub function_with : Head → List Instr → machine.Function
function_with head code =
    record { parameters = head.parameters; extra = head.extra; height = head.height; signature = head.signature; code = code }

-- a function with no more parameters than this
abbrev pub IsFunctionUpTo : ℕ → ℕ → ℕ → machine.Function → Type 0
IsFunctionUpTo most kinds functions function = (function.parameters ≤ most) × IsFunction kinds functions function

-- function 0 is `start`, and has no parameters
abbrev pub most_at : ℕ → ℕ
most_at index = if index == 0 then 0 else 320

abbrev pub IsFunctionAt : ℕ → ℕ → ℕ → machine.Function → Type 0
IsFunctionAt kinds count index function = IsFunctionUpTo (most_at index) kinds count function

abbrev pub IsFunctions : ℕ → ℕ → List machine.Function → Type 0
IsFunctions kinds count functions = IsList (IsFunctionAt kinds count) count functions

-- the functions of an image with so many kinds
abbrev pub IsAllFunctions : ℕ → List machine.Function → Type 0
IsAllFunctions kinds functions = (length functions ≤ 4097) × AllByRecursion (IsFunction kinds (length functions)) functions × BeginsWithStart functions

abbrev pub functions_of : Vec Function Global → List machine.Function
functions_of functions = map function_of functions.items

abbrev pub functions_bytes : List machine.Function → List ℕ
functions_bytes functions = flat_map function_bytes functions

-- ---- kinds of pools

abbrev pub IsHomogeneous : PoolKind → Type 0
IsHomogeneous Mixed = ⊥
IsHomogeneous (Homogeneous source cell indexed) = IsKind (Homogeneous source cell indexed)

-- what follows the first byte
abbrev pub homogeneous_bytes : PoolKind → List ℕ
homogeneous_bytes Mixed = []
homogeneous_bytes (Homogeneous source cell indexed) = number_bytes source ++ (number_bytes (cell / 4) ++ (if indexed then 1 else 0) ∷ [])

abbrev pub IsSomeKinds : ℕ → List PoolKind → Type 0
IsSomeKinds count kinds = IsList (λ index kind. IsKind kind) count kinds

abbrev pub IsKinds : List PoolKind → Type 0
IsKinds kinds = (length kinds ≤ 1048576) × AllByRecursion IsKind kinds

abbrev pub kinds_of : Vec PoolKind Global → List PoolKind
kinds_of kinds = kinds.items

abbrev pub kinds_bytes : List PoolKind → List ℕ
kinds_bytes kinds = flat_map kind_bytes kinds

-- ---- the front of an image

-- P A I M and version 1
abbrev pub first_bytes : List ℕ
first_bytes = 80 ∷ 65 ∷ 73 ∷ 77 ∷ 1 ∷ []

abbrev pub IsFirst : Unit {0} → Type 0
IsFirst nothing = Unit {0}

abbrev pub first_bytes_of : Unit {0} → List ℕ
first_bytes_of nothing = first_bytes

-- the numbers of an image behind its first bytes: the limits and the bytes of globals
abbrev pub IsHeader : Header → Type 0
IsHeader header = IsWithin 1 1048576 header.slabs × IsWithin 1 4294967295 header.index × IsWithin 0 1073741824 header.size

abbrev pub opening_bytes : Header → List ℕ
opening_bytes header = 80 ∷ 65 ∷ 73 ∷ 77 ∷ 1 ∷ (number_bytes header.slabs ++ (number_bytes header.index ++ number_bytes header.size))

-- so many bytes, the last not 0
abbrev pub IsContentsOf : ℕ → List ℕ → Type 0
IsContentsOf count contents = (length contents ≡ count) × AllByRecursion (λ byte. byte < 256) contents × EndsNonzero contents

abbrev pub contents_of : Vec ℕ Global → List ℕ
contents_of contents = contents.items
