-- What stands at first in the bytes of globals and literals.
use Rattle.std.proofs.Common.{◌≡◌, ℕ, zero, suc, ◌+◌, ◌*◌, ◌%◌, ◌^◌, ◌<◌, ◌≤◌, ◌==◌, Bool, true, false, cond, List, [], ◌∷◌, length, take, drop, slice_get, Option, Some, None, pos, refl, sym, ap, subst, ◌∙◌, ◌⊎◌, inl, inr, arith}
use Rattle.std.proofs.Math.Nat.{zero-mod}
use Rattle.std.proofs.lemmas.Bool.{eqb-true, eq-eqb, true≢false}
use Rattle.std.proofs.lemmas.Option.{none-some, same_Some}
use Rattle.byteorder.specs.Endian.{little_bytes, little_number}
use Rattle.c_num.specs.declared.IntType.TheVariants as I
use Rattle.c_num.specs.Conversion.{convert_to, word_of}
use Rattle.c_typed.specs.Values as first
use Rattle.c_typed.specs.Types.{CType, Void, Integer, Pointer, Array, Struct, Function}
use Rattle.c_typed.specs.Layouts.{greatest}
use Rattle.c_typed.specs.Typed.{GlobalDef}
use Rattle.tac_ir.specs.Values.{Value}
use Rattle.tac_ir.specs.Layouts.{size_of, leaf_at}
use Rattle.tac_ir.specs.First.{offset_in, constant_of, cleared, is_at, first_held}
use Rattle.tac_ir.specs.Code.{Tac}
use Rattle.pool_isa.specs.Machine.{spliced}
use Rattle.pool_ir.specs.Memory.{slot_size}
use Rattle.pool_rewrite.specs.Placing.{global_offset, statics_size}
use Rattle.pool_rewrite.specs.Rewriting.{slot_of, value_word, leaf_size, with_scalar, with_first, with_globals}
use Rattle.pool_rewrite.specs.Standing.{AreApart}
use Rattle.pool_simulation.specs.FirstValues.{HasExactStatics}
use Rattle.pool_simulation.proofs.LeavesApart.{leaf_within, leaves_apart}
use Rattle.pool_simulation.proofs.SplicedBytes.{length-little_bytes, length-spliced, read-spliced, read-apart, spliced-nothing}
use Rattle.pool_simulation.proofs.Placed.{global_within, globals_apart}

-- the number in a range of bytes
abbrev pub read_at : List ℕ → ℕ → ℕ → ℕ
read_at bytes at size = little_number size (take size (drop at bytes))

zero_word : word_of I.ULong (pos 0) ≡ 0
unfolding word_of convert_to
zero_word = refl

-- ---- one variable

module _ (tac : Tac) (c_type : CType) (exact : size_of tac.structs c_type < greatest) (start : ℕ) where
  room_for : (offset : ℕ) (own : CType) → leaf_at tac.structs c_type 1 offset ≡ Some own → (total : ℕ) → start + size_of tac.structs c_type ≤ total → (word : ℕ)
      → start + offset + length (little_bytes (slot_size (slot_of own)) word) ≤ total
  room_for offset own is total room word =
      by (slot_size (slot_of own)) (size_of tac.structs c_type) (length (little_bytes (slot_size (slot_of own)) word)) (leaf_within tac.structs c_type 1 offset own exact is) room
      (length-little_bytes (slot_size (slot_of own)) word)
    where
      by : (own size long : ℕ) → offset + own ≤ 1 * size → start + size ≤ total → long ≡ own → start + offset + long ≤ total
      by own size long le room e = omega arith

  -- a scalar that is put in place, where one stands there
  abbrev put : List ℕ → ℕ → Option CType → ℕ → List ℕ
  put bytes offset leaf word = spliced bytes (start + offset) (little_bytes (leaf_size leaf) word)

  put_length : (bytes : List ℕ) (offset word : ℕ) (leaf : Option CType) → leaf_at tac.structs c_type 1 offset ≡ leaf → start + size_of tac.structs c_type ≤ length bytes
      → length (put bytes offset leaf word) ≡ length bytes
  put_length bytes offset word None is room = ap length (spliced-nothing bytes (start + offset))
  put_length bytes offset word (Some own) is room = length-spliced bytes (start + offset) (little_bytes (slot_size (slot_of own)) word) (room_for offset own is (length bytes) room word)

  -- it reads back
  put_there : (bytes : List ℕ) (offset word : ℕ) (leaf : Option CType) → leaf_at tac.structs c_type 1 offset ≡ leaf → (own : CType) → leaf ≡ Some own → start + size_of tac.structs c_type ≤ length bytes
      → read_at (put bytes offset leaf word) (start + offset) (slot_size (slot_of own)) ≡ word % 2 ^ (8 * slot_size (slot_of own))
  put_there bytes offset word None is own e room = absurd (none-some own e)
  put_there bytes offset word (Some leaf) is own e room =
      let same : leaf ≡ own = same_Some leaf own e in
      subst (λ (t : CType). read_at (put bytes offset (Some leaf) word) (start + offset) (slot_size (slot_of t)) ≡ word % 2 ^ (8 * slot_size (slot_of t))) same
      (read-spliced bytes (start + offset) (slot_size (slot_of leaf)) word
      (subst (λ (n : ℕ). start + offset + n ≤ length bytes) (length-little_bytes (slot_size (slot_of leaf)) word) (room_for offset leaf is (length bytes) room word)))

  -- others stay
  put_other : (bytes : List ℕ) (offset word : ℕ) (leaf : Option CType) → leaf_at tac.structs c_type 1 offset ≡ leaf → (other : ℕ) (own : CType) → leaf_at tac.structs c_type 1 other ≡ Some own
      → (offset ≡ other → ⊥) → start + size_of tac.structs c_type ≤ length bytes → read_at (put bytes offset leaf word) (start + other) (slot_size (slot_of own)) ≡ read_at bytes (start + other) (slot_size (slot_of own))
  put_other bytes offset word None is other own other_is ne room = ap (λ (found : List ℕ). read_at found (start + other) (slot_size (slot_of own))) (spliced-nothing bytes (start + offset))
  put_other bytes offset word (Some leaf) is other own other_is ne room =
      read-apart bytes (start + offset) (little_bytes (slot_size (slot_of leaf)) word) (start + other) (slot_size (slot_of own)) (room_for offset leaf is (length bytes) room word)
      (by (slot_size (slot_of own)) (slot_size (slot_of leaf)) (length (little_bytes (slot_size (slot_of leaf)) word)) (length-little_bytes (slot_size (slot_of leaf)) word)
      (leaves_apart tac.structs c_type 1 other offset own leaf exact other_is is))
    where
      by : (size own long : ℕ) → long ≡ own → (other ≡ offset) ⊎ AreApart other size offset own → AreApart (start + other) size (start + offset) long
      by size own long e (inl same) = absurd (ne (sym same))
      by size own long e (inr (inl before)) = inl (omega arith)
      by size own long e (inr (inr past)) = inr (omega arith)

  put_outside : (bytes : List ℕ) (offset word : ℕ) (leaf : Option CType) → leaf_at tac.structs c_type 1 offset ≡ leaf → (at size : ℕ) → AreApart at size start (size_of tac.structs c_type)
      → start + size_of tac.structs c_type ≤ length bytes → read_at (put bytes offset leaf word) at size ≡ read_at bytes at size
  put_outside bytes offset word None is at size apart room = ap (λ (found : List ℕ). read_at found at size) (spliced-nothing bytes (start + offset))
  put_outside bytes offset word (Some leaf) is at size apart room =
      read-apart bytes (start + offset) (little_bytes (slot_size (slot_of leaf)) word) at size (room_for offset leaf is (length bytes) room word)
      (by (slot_size (slot_of leaf)) (size_of tac.structs c_type) (length (little_bytes (slot_size (slot_of leaf)) word)) (length-little_bytes (slot_size (slot_of leaf)) word)
      (leaf_within tac.structs c_type 1 offset leaf exact is) apart)
    where
      by : (own all long : ℕ) → long ≡ own → offset + own ≤ 1 * all → AreApart at size start all → AreApart at size (start + offset) long
      by own all long e le (inl before) = inl (omega arith)
      by own all long e le (inr past) = inr (omega arith)

  -- ---- all first scalars

  scalar_length : (at : Option ℕ) (value : first.FirstScalar) (bytes : List ℕ) → start + size_of tac.structs c_type ≤ length bytes → length (with_scalar tac c_type start at value bytes) ≡ length bytes
  scalar_length None value bytes room = refl
  scalar_length (Some offset) value bytes room = put_length bytes offset (value_word tac (constant_of tac value)) (leaf_at tac.structs c_type 1 offset) refl room

  scalar_outside : (at : Option ℕ) (value : first.FirstScalar) (bytes : List ℕ) (place size : ℕ) → AreApart place size start (size_of tac.structs c_type) → start + size_of tac.structs c_type ≤ length bytes
      → read_at (with_scalar tac c_type start at value bytes) place size ≡ read_at bytes place size
  scalar_outside None value bytes place size apart room = refl
  scalar_outside (Some offset) value bytes place size apart room = put_outside bytes offset (value_word tac (constant_of tac value)) (leaf_at tac.structs c_type 1 offset) refl place size apart room

  first_length : (held : List first.Held) (bytes : List ℕ) → start + size_of tac.structs c_type ≤ length bytes → length (with_first tac c_type start held bytes) ≡ length bytes
  first_length [] bytes room = refl
  first_length (one ∷ others) bytes room =
      let rest = first_length others bytes room in
      scalar_length (offset_in tac c_type one.leaf.steps one.leaf.index) one.value (with_first tac c_type start others bytes) (subst (λ (n : ℕ). start + size_of tac.structs c_type ≤ n) (sym rest) room) ∙ rest

  first_outside : (held : List first.Held) (bytes : List ℕ) (place size : ℕ) → AreApart place size start (size_of tac.structs c_type) → start + size_of tac.structs c_type ≤ length bytes
      → read_at (with_first tac c_type start held bytes) place size ≡ read_at bytes place size
  first_outside [] bytes place size apart room = refl
  first_outside (one ∷ others) bytes place size apart room =
      let long = first_length others bytes room in
      scalar_outside (offset_in tac c_type one.leaf.steps one.leaf.index) one.value (with_first tac c_type start others bytes) place size apart (subst (λ (n : ℕ). start + size_of tac.structs c_type ≤ n) (sym long) room)
      ∙ first_outside others bytes place size apart room

  -- what a scalar holds at first
  cleared_word : (own : CType) (value : Value) → cleared (Some own) ≡ Some value → value_word tac (Some value) ≡ 0
  cleared_word (Integer t) value is = ap (value_word tac) (sym is) ∙ zero_word
  cleared_word Void value is = ap (value_word tac) (sym is)
  cleared_word (Pointer t) value is = ap (value_word tac) (sym is)
  cleared_word (Array t n) value is = ap (value_word tac) (sym is)
  cleared_word (Struct tag) value is = ap (value_word tac) (sym is)
  cleared_word (Function t ts) value is = ap (value_word tac) (sym is)

  module _ (offset : ℕ) (own : CType) (leaf : leaf_at tac.structs c_type 1 offset ≡ Some own) where
    scalar_first : (at : Option ℕ) (given : first.FirstScalar) (bytes : List ℕ) (others : Option Value) (value : Value) → start + size_of tac.structs c_type ≤ length bytes
        → (others ≡ Some value → read_at bytes (start + offset) (slot_size (slot_of own)) ≡ value_word tac (Some value) % 2 ^ (8 * slot_size (slot_of own)))
        → cond (is_at offset at) (constant_of tac given) others ≡ Some value
        → read_at (with_scalar tac c_type start at given bytes) (start + offset) (slot_size (slot_of own)) ≡ value_word tac (Some value) % 2 ^ (8 * slot_size (slot_of own))
    scalar_first None given bytes others value room rest is = rest is
    scalar_first (Some other) given bytes others value room rest is = by (other == offset) refl is
      where
        by : (b : Bool) → (other == offset) ≡ b → cond b (constant_of tac given) others ≡ Some value
            → read_at (with_scalar tac c_type start (Some other) given bytes) (start + offset) (slot_size (slot_of own)) ≡ value_word tac (Some value) % 2 ^ (8 * slot_size (slot_of own))
        by true test is =
            let same : other ≡ offset = eqb-true other offset test in
            ap (λ k. read_at (with_scalar tac c_type start (Some k) given bytes) (start + offset) (slot_size (slot_of own))) same
            ∙ put_there bytes offset (value_word tac (constant_of tac given)) (leaf_at tac.structs c_type 1 offset) refl own leaf room
            ∙ ap (λ (v : Option Value). value_word tac v % 2 ^ (8 * slot_size (slot_of own))) is
        by false test is =
            put_other bytes other (value_word tac (constant_of tac given)) (leaf_at tac.structs c_type 1 other) refl offset own leaf (λ e. true≢false (sym (eq-eqb other offset e) ∙ test)) room
            ∙ rest is

    first_reads : (held : List first.Held) (bytes : List ℕ) (value : Value) → start + size_of tac.structs c_type ≤ length bytes → read_at bytes (start + offset) (slot_size (slot_of own)) ≡ 0
        → first_held tac c_type held offset ≡ Some value
        → read_at (with_first tac c_type start held bytes) (start + offset) (slot_size (slot_of own)) ≡ value_word tac (Some value) % 2 ^ (8 * slot_size (slot_of own))
    first_reads [] bytes value room nothing is =
        let word = cleared_word own value (ap cleared (sym leaf) ∙ is) in
        nothing ∙ sym (zero-mod (2 ^ (8 * slot_size (slot_of own)))) ∙ ap (λ (n : ℕ). n % 2 ^ (8 * slot_size (slot_of own))) (sym word)
    first_reads (one ∷ others) bytes value room nothing is =
        scalar_first (offset_in tac c_type one.leaf.steps one.leaf.index) one.value (with_first tac c_type start others bytes) (first_held tac c_type others offset) value
        (subst (λ (n : ℕ). start + size_of tac.structs c_type ≤ n) (sym (first_length others bytes room)) room) (first_reads others bytes value room nothing) is

-- ---- all variables

module _ (tac : Tac) (exact : HasExactStatics tac) where
  -- the globals of a list are those from a number on
  abbrev pub AreGlobals : ℕ → List GlobalDef → Type 0
  AreGlobals number globals = (k : ℕ) (global : GlobalDef) → slice_get globals k ≡ Some global → slice_get tac.globals (number + k) ≡ Some global

  first_global : (number : ℕ) (global : GlobalDef) (others : List GlobalDef) → AreGlobals number (global ∷ others) → slice_get tac.globals number ≡ Some global
  first_global number global others are = ap (slice_get tac.globals) (omega arith) ∙ are 0 global refl

  other_globals : (number : ℕ) (global : GlobalDef) (others : List GlobalDef) → AreGlobals number (global ∷ others) → AreGlobals (suc number) others
  other_globals number global others are k one there = ap (slice_get tac.globals) (omega arith) ∙ are (suc k) one there

  room_of_global : (number : ℕ) (global : GlobalDef) → slice_get tac.globals number ≡ Some global → (bytes : List ℕ) → length bytes ≡ statics_size tac
      → global_offset tac number + size_of tac.structs global.c_type ≤ length bytes
  room_of_global number global there bytes long = subst (λ (n : ℕ). global_offset tac number + size_of tac.structs global.c_type ≤ n) (sym long) (global_within tac number global there)

  global_length : (number : ℕ) (global : GlobalDef) → slice_get tac.globals number ≡ Some global → (bytes : List ℕ) → length bytes ≡ statics_size tac
      → length (with_first tac global.c_type (global_offset tac number) global.first bytes) ≡ statics_size tac
  global_length number global there bytes long =
      first_length tac global.c_type (exact.globals number global there) (global_offset tac number) global.first bytes (room_of_global number global there bytes long) ∙ long

  pub globals_length : (globals : List GlobalDef) (number : ℕ) (bytes : List ℕ) → AreGlobals number globals → length bytes ≡ statics_size tac → length (with_globals tac number globals bytes) ≡ statics_size tac
  globals_length [] number bytes are long = long
  globals_length (global ∷ others) number bytes are long =
      globals_length others (suc number) (with_first tac global.c_type (global_offset tac number) global.first bytes) (other_globals number global others are)
      (global_length number global (first_global number global others are) bytes long)

  -- a range apart from the globals from a number on
  abbrev pub IsApartFrom : ℕ → ℕ → ℕ → Type 0
  IsApartFrom number at size = (other : ℕ) (global : GlobalDef) → number ≤ other → slice_get tac.globals other ≡ Some global → AreApart at size (global_offset tac other) (size_of tac.structs global.c_type)

  pub globals_outside : (globals : List GlobalDef) (number : ℕ) (bytes : List ℕ) (at size : ℕ) → AreGlobals number globals → length bytes ≡ statics_size tac → IsApartFrom number at size
      → read_at (with_globals tac number globals bytes) at size ≡ read_at bytes at size
  globals_outside [] number bytes at size are long apart = refl
  globals_outside (global ∷ others) number bytes at size are long apart =
      let there = first_global number global others are in
      globals_outside others (suc number) (with_first tac global.c_type (global_offset tac number) global.first bytes) at size (other_globals number global others are)
      (global_length number global there bytes long) (λ other one le at_other. apart other one (omega arith) at_other)
      ∙ first_outside tac global.c_type (exact.globals number global there) (global_offset tac number) global.first bytes at size (apart number global (omega arith) there) (room_of_global number global there bytes long)

  -- a scalar's range in another global
  scalar_apart : (number : ℕ) (global : GlobalDef) → slice_get tac.globals number ≡ Some global → (offset : ℕ) (own : CType) → leaf_at tac.structs global.c_type 1 offset ≡ Some own
      → (other : ℕ) (other_global : GlobalDef) → slice_get tac.globals other ≡ Some other_global → (number ≡ other → ⊥)
      → AreApart (global_offset tac number + offset) (slot_size (slot_of own)) (global_offset tac other) (size_of tac.structs other_global.c_type)
  scalar_apart number global there offset own leaf other other_global other_there ne =
      by (global_offset tac number) (size_of tac.structs global.c_type) (global_offset tac other) (size_of tac.structs other_global.c_type) (slot_size (slot_of own))
      (leaf_within tac.structs global.c_type 1 offset own (exact.globals number global there) leaf) (globals_apart tac number other global other_global there other_there)
    where
      by : (start all other_start other_all size : ℕ) → offset + size ≤ 1 * all → (number ≡ other) ⊎ AreApart start all other_start other_all → AreApart (start + offset) size other_start other_all
      by start all other_start other_all size le (inl same) = absurd (ne same)
      by start all other_start other_all size le (inr (inl before)) = inl (omega arith)
      by start all other_start other_all size le (inr (inr past)) = inr (omega arith)

  module _ (number : ℕ) (global : GlobalDef) (there : slice_get tac.globals number ≡ Some global) (offset : ℕ) (own : CType) (leaf : leaf_at tac.structs global.c_type 1 offset ≡ Some own)
      (value : Value) (held : first_held tac global.c_type global.first offset ≡ Some value) where
    abbrev Reads : List ℕ → Type 0
    Reads bytes = read_at bytes (global_offset tac number + offset) (slot_size (slot_of own)) ≡ value_word tac (Some value) % 2 ^ (8 * slot_size (slot_of own))

    abbrev IsClear : List ℕ → Type 0
    IsClear bytes = read_at bytes (global_offset tac number + offset) (slot_size (slot_of own)) ≡ 0

    own_reads : (bytes : List ℕ) → length bytes ≡ statics_size tac → IsClear bytes → Reads (with_first tac global.c_type (global_offset tac number) global.first bytes)
    own_reads bytes long clear =
        first_reads tac global.c_type (exact.globals number global there) (global_offset tac number) offset own leaf global.first bytes value (room_of_global number global there bytes long) clear held

    other_clear : (other : ℕ) (other_global : GlobalDef) → slice_get tac.globals other ≡ Some other_global → (number ≡ other → ⊥) → (bytes : List ℕ) → length bytes ≡ statics_size tac → IsClear bytes
        → IsClear (with_first tac other_global.c_type (global_offset tac other) other_global.first bytes)
    other_clear other other_global other_there ne bytes long clear =
        first_outside tac other_global.c_type (exact.globals other other_global other_there) (global_offset tac other) other_global.first bytes (global_offset tac number + offset) (slot_size (slot_of own))
        (scalar_apart number global there offset own leaf other other_global other_there ne) (room_of_global other other_global other_there bytes long) ∙ clear

    -- the variable stands so many places further in the list
    pub globals_read : (globals : List GlobalDef) (from k : ℕ) (bytes : List ℕ) → AreGlobals from globals → number ≡ from + k → k < length globals → length bytes ≡ statics_size tac → IsClear bytes
        → Reads (with_globals tac from globals bytes)
    globals_read [] from k bytes are e lt long clear = absurd (omega arith)
    globals_read (one ∷ others) from zero bytes are e lt long clear =
        let one_there = first_global from one others are in
        let here : number ≡ from = omega arith in
        let same : global ≡ one = same_Some global one (sym there ∙ ap (slice_get tac.globals) here ∙ one_there) in
        globals_outside others (suc from) (with_first tac one.c_type (global_offset tac from) one.first bytes) (global_offset tac number + offset) (slot_size (slot_of own)) (other_globals from one others are)
        (global_length from one one_there bytes long) (λ other other_global le other_there. scalar_apart number global there offset own leaf other other_global other_there (λ same. omega arith))
        ∙ subst (λ (g : GlobalDef). Reads (with_first tac g.c_type (global_offset tac from) g.first bytes)) same
        (subst (λ (n : ℕ). Reads (with_first tac global.c_type (global_offset tac n) global.first bytes)) here (own_reads bytes long clear))
    globals_read (one ∷ others) from (suc k) bytes are e lt long clear =
        let one_there = first_global from one others are in
        globals_read others (suc from) k (with_first tac one.c_type (global_offset tac from) one.first bytes) (other_globals from one others are) (omega arith) (omega arith)
        (global_length from one one_there bytes long) (other_clear from one one_there (λ same. omega arith) bytes long clear)
