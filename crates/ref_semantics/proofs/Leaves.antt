-- A law of layouts: the scalars of an object lie apart, and within its size.
use Rattle.std.proofs.Common.{◌≡◌, ℕ, ◌+◌, ◌*◌, ◌≤◌, true, List, sym, subst, ◌⊎◌, inl, inr, arith}
use Rattle.c_typed.specs.Types.{CType}
use Rattle.c_typed.specs.Layouts.{StructDef}
use Rattle.c_typed.specs.Programs.{are_structs}
use Rattle.ref_semantics.specs.Rows.{LeafAt, IsSmall, size_in, are_sized_structs}
use Rattle.ref_semantics.proofs.Arithmetic.{element_ends}
use Rattle.ref_semantics.proofs.Sized.{sized_structs}
use Rattle.ref_semantics.proofs.Inward.{Apart, from_leaf, scalar_size, elements_apart, within_size, within_apart}

module _ (structs : List StructDef) (well : are_structs structs ≡ true) (c_type : CType) (small : IsSmall structs c_type) (count : ℕ) where
  sized : are_sized_structs structs ≡ true
  sized = sized_structs structs well

  -- it ends within the object
  pub leaf_within : (offset : ℕ) (own : CType) → LeafAt structs c_type count offset own → offset + size_in structs own ≤ count * size_in structs c_type
  leaf_within offset own leaf =
      let found = from_leaf structs c_type count offset own leaf in
      by (found.index * size_in structs c_type) found.inner (size_in structs own) (count * size_in structs c_type) found.stands
      (element_ends (size_in structs c_type) count found.index (found.inner + size_in structs own) found.below (within_size structs well sized c_type found.inner own found.within small))
    where
      by : (base inner size all : ℕ) → offset ≡ base + inner → base + (inner + size) ≤ all → offset + size ≤ all
      by base inner size all e le = omega arith

  -- two of them are one, or one ends before the other
  pub leaves_apart : (first second : ℕ) (own other : CType) → LeafAt structs c_type count first own → LeafAt structs c_type count second other
      → ((first ≡ second) × (own ≡ other)) ⊎ (first + size_in structs own ≤ second) ⊎ (second + size_in structs other ≤ first)
  leaves_apart first second own other one two =
      let a = from_leaf structs c_type count first own one in
      let b = from_leaf structs c_type count second other two in
      let apart = elements_apart structs c_type a.index b.index a.inner own b.inner other (within_size structs well sized c_type a.inner own a.within small)
      (within_size structs well sized c_type b.inner other b.within small) (within_apart structs well sized c_type a.inner own a.within small b.inner other b.within) in
      subst (λ n. Apart structs n own second other) (sym a.stands) (subst (λ n. Apart structs (a.index * size_in structs c_type + a.inner) own n other) (sym b.stands) apart)

  -- what stands at an offset has one type
  pub leaf_type : (offset : ℕ) (own other : CType) → LeafAt structs c_type count offset own → LeafAt structs c_type count offset other → own ≡ other
  leaf_type offset own other one two =
      by (scalar_size structs own one.scalar) (scalar_size structs other two.scalar) (leaves_apart offset offset own other one two)
    where
      no_room : (size : ℕ) → 1 ≤ size → offset + size ≤ offset → ⊥
      no_room size one le = omega arith

      by : 1 ≤ size_in structs own → 1 ≤ size_in structs other → Apart structs offset own offset other → own ≡ other
      by h h' (inl same) = same.1
      by h h' (inr (inl le)) = absurd (no_room (size_in structs own) h le)
      by h h' (inr (inr le)) = absurd (no_room (size_in structs other) h' le)
