-- The image of code: each kind of pools once, each `PoolInit` with the number of its kind there, and the first contents of the globals
-- without the zeros at their end.
use Rattle.std.specs.Prelude.{◌≡◌, ℕ, ◌<◌, ◌==◌, ◌&&◌, Bool, true, false, not, if◌then◌else◌, List, [], ◌∷◌, map, filter, Some, slice_get, slice_index}
use Rattle.std.specs.List.{position_or_len}
use Rattle.slab_space.specs.declared.kind.PoolKind.{PoolKind}
use Rattle.slab_space.specs.declared.kind.PoolKind.TheVariants.{Mixed, Homogeneous}
use Rattle.pool_isa.specs.declared.instr.Instr.{Instr}
use Rattle.pool_isa.specs.declared.instr.Instr.TheVariants as instrs
use Rattle.pool_isa.specs.Machine.{Function, Code}
use Rattle.image_form.specs.declared.image.MachineLimits.{MachineLimits}
use Rattle.image_form.specs.Form.{Form}

-- whether the fields of two kinds are equal
abbrev pub same_kind : PoolKind → PoolKind → Bool
same_kind Mixed Mixed = true
same_kind (Homogeneous source cell indexed) (Homogeneous source2 cell2 indexed2) =
    (source == source2) && ((cell == cell2) && (if indexed then indexed2 else not indexed2))
same_kind _ _ = false

-- each kind once, in the order in which they first stand
abbrev pub once : List PoolKind → List PoolKind
once [] = []
once (kind ∷ kinds) = kind ∷ filter (λ other. not (same_kind kind other)) (once kinds)

-- where a kind first stands
abbrev pub number_in : List PoolKind → PoolKind → ℕ
number_in kinds kind = position_or_len (same_kind kind) kinds

-- the number in the image of each kind
abbrev pub numbers_of : List PoolKind → List ℕ
numbers_of kinds = map (number_in (once kinds)) kinds

-- the instruction with these new numbers of kinds
abbrev pub linked_instr : List ℕ → Instr → Instr
linked_instr numbers (instrs.PoolInit kind) = instrs.PoolInit (slice_index numbers kind)
linked_instr numbers instr = instr

abbrev pub linked_function : List ℕ → Function → Function
linked_function numbers function = record function { code = map (linked_instr numbers) function.code }

-- the byte in front of these, but no zero in front of nothing
abbrev pub in_front : ℕ → List ℕ → List ℕ
in_front byte [] = if byte == 0 then [] else byte ∷ []
in_front byte (next ∷ bytes) = byte ∷ next ∷ bytes

-- the bytes without the zeros at their end
abbrev pub without_zeros : List ℕ → List ℕ
without_zeros [] = []
without_zeros (byte ∷ bytes) = in_front byte (without_zeros bytes)

-- the image of the code, with these limits
abbrev pub linked : Code → MachineLimits → Form
linked code limits =
    record {
      version = 1;
      limits = limits;
      globals = code.globals;
      contents = without_zeros code.contents;
      kinds = once code.kinds;
      functions = map (linked_function (numbers_of code.kinds)) code.functions;
    }

-- there are so many kinds, and the instruction names none that isn't there
abbrev pub NamesBelow : ℕ → Instr → Type 0
NamesBelow kinds (instrs.PoolInit kind) = kind < kinds
NamesBelow kinds _ = Unit {0}

-- each new number names the kind that the old one named
abbrev pub KeepsKinds : List PoolKind → List PoolKind → Type 0
KeepsKinds old new = (number : ℕ) (kind : PoolKind) → slice_get old number ≡ Some kind → slice_get new (slice_index (numbers_of old) number) ≡ Some kind
