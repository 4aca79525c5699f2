-- The bytes of an image, version 1: its fields in their order, each number in its shortest form and its range.
use Rattle.std.specs.Prelude.{◌≡◌, ℕ, ◌/◌, ◌%◌, ◌<◌, ◌≤◌, List, [], ◌∷◌, ◌++◌, map, length, if◌then◌else◌}
use Rattle.std.specs.List.{flat_map, AllByRecursion}
use Rattle.pool_isa.specs.Instr.{spelling}
use Rattle.pool_isa.specs.Number.{number_bytes}
use Rattle.pool_isa.specs.Machine as machine
use Rattle.pool_isa.specs.Ranges.{IsWithin, IsFunction}
use Rattle.image_form.specs.declared.image.MachineLimits.{MachineLimits}
use Rattle.slab_space.specs.declared.kind.PoolKind.{PoolKind}
use Rattle.slab_space.specs.declared.kind.PoolKind.TheVariants.{Mixed, Homogeneous}
use Rattle.image_form.specs.declared.image.Function.{Function}
use Rattle.image_form.specs.declared.image.Image.{Image}

-- what an image holds, without where it lies in memory
pub record Form : Type 0 where
  pub version : ℕ
  pub limits : MachineLimits
  pub globals : ℕ
  pub contents : List ℕ
  pub kinds : List PoolKind
  pub functions : List machine.Function

-- what is run of an image
abbrev pub code_of : Form → machine.Code
code_of form = record { functions = form.functions; kinds = form.kinds; globals = form.globals; contents = form.contents }

abbrev pub function_of : Function → machine.Function
function_of function =
    record { parameters = function.parameters; extra = function.extra; height = function.height; signature = function.signature; code = function.code.items }

abbrev pub form_of : Image → Form
form_of image =
    record { version = image.version; limits = image.limits; globals = image.globals.size; contents = image.globals.contents.items; kinds = image.kinds.items; functions = map function_of image.functions.items }

-- a list: how many items, and then each
abbrev pub counted : {X : Type 0} → (X → List ℕ) → List X → List ℕ
counted bytes_of items = number_bytes (length items) ++ flat_map bytes_of items

abbrev pub kind_bytes : PoolKind → List ℕ
kind_bytes Mixed = 0 ∷ []
kind_bytes (Homogeneous source cell indexed) =
    1 ∷ (number_bytes source ++ (number_bytes (cell / 4) ++ (if indexed then 1 else 0) ∷ []))

abbrev pub function_bytes : machine.Function → List ℕ
function_bytes function =
    number_bytes function.parameters ++ (number_bytes function.extra ++ (number_bytes function.height ++ (number_bytes function.signature ++ counted spelling function.code)))

-- P A I M and the version, the limits and the bytes of the globals
abbrev pub header_bytes : Form → List ℕ
header_bytes form =
    80 ∷ 65 ∷ 73 ∷ 77 ∷ form.version ∷ (number_bytes form.limits.slabs ++ (number_bytes form.limits.index ++ number_bytes form.globals))

-- the first contents of the globals: how many bytes, and then these
abbrev pub contents_bytes : List ℕ → List ℕ
contents_bytes contents = number_bytes (length contents) ++ contents

abbrev pub image_bytes : Form → List ℕ
image_bytes form =
    header_bytes form ++ (contents_bytes form.contents ++ (counted kind_bytes form.kinds ++ counted function_bytes form.functions))

-- function 0 is `start`, and has no parameters
abbrev pub BeginsWithStart : List machine.Function → Type 0
BeginsWithStart [] = ⊥
BeginsWithStart (start ∷ functions) = start.parameters ≡ 0

-- the list is empty, or its last number isn't 0
abbrev pub EndsNonzero : List ℕ → Type 0
EndsNonzero [] = Unit {0}
EndsNonzero (byte ∷ []) = 0 < byte
EndsNonzero (byte ∷ next ∷ bytes) = EndsNonzero (next ∷ bytes)

-- The first contents of globals of so many bytes: bytes, no more than those, the last not 0. Zeros follow them, so that
-- globals have one spelling.
abbrev pub IsContents : ℕ → List ℕ → Type 0
IsContents size contents = (length contents ≤ size) × AllByRecursion (λ byte. byte < 256) contents × EndsNonzero contents

-- of cells of one size, a multiple of 4 bytes, for objects of one size
abbrev pub IsKind : PoolKind → Type 0
IsKind Mixed = Unit {0}
IsKind (Homogeneous source cell indexed) = IsWithin 1 1048576 source × IsWithin 4 1048576 cell × (cell % 4 ≡ 0)

-- the fields are in their ranges
pub record IsImage (form : Form) : Type 0 where
  pub version : form.version ≡ 1
  pub slabs : IsWithin 1 1048576 form.limits.slabs
  pub index : IsWithin 1 4294967295 form.limits.index
  pub globals : form.globals ≤ 1073741824
  pub contents : IsContents form.globals form.contents
  pub kinds : (length form.kinds ≤ 1048576) × AllByRecursion IsKind form.kinds
  pub functions : length form.functions ≤ 4097
  pub each_function : AllByRecursion (IsFunction (length form.kinds) (length form.functions)) form.functions
  pub start : BeginsWithStart form.functions

-- The bytes are those of an image of this form, and nothing follows.
pub record ImageOf (bytes : List ℕ) (form : Form) : Type 0 where
  pub spelled : bytes ≡ image_bytes form
  pub ranges : IsImage form

-- the bytes are some image's
abbrev pub IsImageBytes : List ℕ → Type 0
IsImageBytes bytes = (form : Form) × ImageOf bytes form
