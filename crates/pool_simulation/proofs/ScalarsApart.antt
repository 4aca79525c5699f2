-- Scalars of objects that lie apart, or of one object, lie apart: a store to one leaves the others.
use Rattle.std.proofs.Common.{◌≡◌, ℕ, ◌+◌, ◌≤◌, List, Some, sym, subst, ◌⊎◌, inl, inr, arith}
use Rattle.c_typed.specs.Types.{CType}
use Rattle.c_typed.specs.Layouts.{StructDef}
use Rattle.tac_ir.specs.Values.{Object, Content, Absent, Untyped, Typed, Objects}
use Rattle.tac_ir.specs.Layouts.{leaf_at}
use Rattle.tac_ir.specs.Objects.{extent_of}
use Rattle.pool_ir.specs.Memory.{slot_size}
use Rattle.pool_rewrite.specs.Rewriting.{slot_of}
use Rattle.pool_rewrite.specs.Standing.{AreApart}
use Rattle.pool_simulation.specs.ExactTypes.{HasExactType}
use Rattle.pool_simulation.proofs.LeavesApart.{leaf_within, leaves_apart}

-- a scalar of a type stands so many bytes behind the beginning of what an object holds
abbrev pub HasLeaf : List StructDef → Content → ℕ → CType → Type 0
HasLeaf structs (Typed c_type count held) offset own = leaf_at structs c_type count offset ≡ Some own
HasLeaf structs content offset own = ⊥

pub leaf_inside : (structs : List StructDef) (content : Content) (offset : ℕ) (own : CType) → HasExactType structs content → HasLeaf structs content offset own
    → offset + slot_size (slot_of own) ≤ extent_of structs content
leaf_inside structs Absent offset own small leaf = absurd leaf
leaf_inside structs (Untyped size) offset own small leaf = absurd leaf
leaf_inside structs (Typed c_type count held) offset own small leaf = leaf_within structs c_type count offset own small leaf

pub leaves_in_apart : (structs : List StructDef) (content : Content) (offset other : ℕ) (own other_own : CType) → HasExactType structs content → HasLeaf structs content offset own → HasLeaf structs content other other_own
    → (offset ≡ other) ⊎ AreApart offset (slot_size (slot_of own)) other (slot_size (slot_of other_own))
leaves_in_apart structs Absent offset other own other_own small leaf other_leaf = absurd leaf
leaves_in_apart structs (Untyped size) offset other own other_own small leaf other_leaf = absurd leaf
leaves_in_apart structs (Typed c_type count held) offset other own other_own small leaf other_leaf = leaves_apart structs c_type count offset other own other_own small leaf other_leaf

-- ranges within ranges that are apart, and ranges that are moved
pub inner_apart : (start size other other_size offset own other_offset other_own : ℕ) → offset + own ≤ size → other_offset + other_own ≤ other_size → AreApart start size other other_size
    → AreApart (start + offset) own (other + other_offset) other_own
inner_apart start size other other_size offset own other_offset other_own le le' (inl before) = inl (omega arith)
inner_apart start size other other_size offset own other_offset other_own le le' (inr past) = inr (omega arith)

pub moved_apart : (start offset own other other_own : ℕ) → AreApart offset own other other_own → AreApart (start + offset) own (start + other) other_own
moved_apart start offset own other other_own (inl before) = inl (omega arith)
moved_apart start offset own other other_own (inr past) = inr (omega arith)

pub scalars_apart : (structs : List StructDef) (objects : Objects) (object other : Object) (address other_address : ℕ) (offset other_offset : ℕ) (own other_own : CType)
    → (object ≡ other) ⊎ AreApart address (extent_of structs (objects object)) other_address (extent_of structs (objects other)) → (object ≡ other → address ≡ other_address)
    → HasExactType structs (objects object) → HasExactType structs (objects other) → HasLeaf structs (objects object) offset own → HasLeaf structs (objects other) other_offset other_own
    → ((object ≡ other) × (offset ≡ other_offset)) ⊎ AreApart (address + offset) (slot_size (slot_of own)) (other_address + other_offset) (slot_size (slot_of other_own))
scalars_apart structs objects object other address other_address offset other_offset own other_own (inr apart) alike small other_small leaf other_leaf =
    inr (inner_apart address (extent_of structs (objects object)) other_address (extent_of structs (objects other)) offset (slot_size (slot_of own)) other_offset (slot_size (slot_of other_own))
    (leaf_inside structs (objects object) offset own small leaf) (leaf_inside structs (objects other) other_offset other_own other_small other_leaf) apart)
scalars_apart structs objects object other address other_address offset other_offset own other_own (inl same) alike small other_small leaf other_leaf =
    by (leaves_in_apart structs (objects object) offset other_offset own other_own small leaf (subst (λ (o : Object). HasLeaf structs (objects o) other_offset other_own) (sym same) other_leaf))
  where
    by : (offset ≡ other_offset) ⊎ AreApart offset (slot_size (slot_of own)) other_offset (slot_size (slot_of other_own))
        → ((object ≡ other) × (offset ≡ other_offset)) ⊎ AreApart (address + offset) (slot_size (slot_of own)) (other_address + other_offset) (slot_size (slot_of other_own))
    by (inl at) = inl (same, at)
    by (inr apart) =
        inr (subst (λ (start : ℕ). AreApart (address + offset) (slot_size (slot_of own)) (start + other_offset) (slot_size (slot_of other_own))) (alike same)
        (moved_apart address offset (slot_size (slot_of own)) other_offset (slot_size (slot_of other_own)) apart))
