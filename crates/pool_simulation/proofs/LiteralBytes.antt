-- What stands at first in the bytes of literals, and in those of all objects that live as long as the program.
use Rattle.std.proofs.Common.{◌≡◌, ℕ, zero, suc, ◌+◌, ◌*◌, ◌%◌, ◌^◌, ◌<◌, ◌≤◌, List, [], ◌∷◌, length, slice_get, Some, pos, refl, sym, ap, subst, ◌∙◌, ◌⊎◌, inl, inr, arith}
use Rattle.std.specs.Prelude.{replicate}
use Rattle.std.proofs.Math.Nat.{zero-mod}
use Rattle.std.proofs.lemmas.List.{length-map, length-replicate}
use Rattle.std.proofs.lemmas.Option.{same_Some}
use Rattle.c_num.specs.declared.IntType.TheVariants as I
use Rattle.c_num.specs.Conversion.{word_of}
use Rattle.c_typed.specs.Types.{CType, Integer, literal_type}
use Rattle.c_typed.specs.Layouts.{StructDef, greatest, layouts, layout_in}
use Rattle.c_typed.specs.Typed.{GlobalDef, LiteralDef}
use Rattle.tac_ir.specs.Values.{Value}
use Rattle.tac_ir.specs.Layouts.{size_of, leaf_at, leaves_in, leaves_by_tag}
use Rattle.tac_ir.specs.First.{first_held, characters}
use Rattle.tac_ir.specs.Code.{Tac}
use Rattle.pool_isa.specs.Machine.{spliced}
use Rattle.pool_ir.specs.Memory.{slot_size}
use Rattle.pool_rewrite.specs.Placing.{global_offset, literal_offset, statics_size}
use Rattle.pool_rewrite.specs.Rewriting.{slot_of, value_word, with_globals, with_literals, character_bytes, first_contents}
use Rattle.pool_rewrite.specs.Standing.{AreApart}
use Rattle.pool_simulation.specs.FirstValues.{HasExactStatics}
use Rattle.pool_simulation.proofs.LeavesApart.{leaf_within, at_element, at_begin}
use Rattle.pool_simulation.proofs.SplicedBytes.{length-spliced, read-apart, read-byte, read-zeros}
use Rattle.pool_simulation.proofs.Placed.{literal_within, literals_apart, global_before_literal, get_length}
use Rattle.pool_simulation.proofs.FirstWords.{CharacterAt, OneOf, TheEnd, character_at}
use Rattle.pool_simulation.proofs.FirstBytes.{read_at, AreGlobals, globals_length, globals_outside, globals_read}

-- ---- the type of a literal

-- its scalars are characters
pub literal_leaf : (structs : List StructDef) (bytes : List ℕ) (offset : ℕ) (own : CType) → leaf_at structs (literal_type bytes) 1 offset ≡ Some own → own ≡ Integer I.Char
literal_leaf structs bytes offset own is =
    let table = layouts structs in
    let leaves = leaves_in table (leaves_by_tag structs) in
    let whole = at_element (size_of structs (literal_type bytes)) 1 (leaves_in (layouts structs) (leaves_by_tag structs) (literal_type bytes)) offset own is in
    let one = at_element (layout_in (layouts structs) (Integer I.Char)).size (suc (length bytes)) (leaves_in (layouts structs) (leaves_by_tag structs) (Integer I.Char)) whole.inner own whole.found in
    sym (at_begin (Integer I.Char) own one.inner one.found).is

-- it has room for them and a zero
literal_size : (structs : List StructDef) (bytes : List ℕ) → size_of structs (literal_type bytes) < greatest → size_of structs (literal_type bytes) ≡ suc (length bytes)
literal_size structs bytes exact = omega arith

-- ---- all literals

module _ (tac : Tac) (exact : HasExactStatics tac) where
  abbrev literal_room : LiteralDef → ℕ
  literal_room literal = size_of tac.structs (literal_type literal.bytes)

  abbrev pub AreLiterals : ℕ → List LiteralDef → Type 0
  AreLiterals number literals = (k : ℕ) (literal : LiteralDef) → slice_get literals k ≡ Some literal → slice_get tac.literals (number + k) ≡ Some literal

  first_literal : (number : ℕ) (literal : LiteralDef) (others : List LiteralDef) → AreLiterals number (literal ∷ others) → slice_get tac.literals number ≡ Some literal
  first_literal number literal others are = ap (slice_get tac.literals) (omega arith) ∙ are 0 literal refl

  other_literals : (number : ℕ) (literal : LiteralDef) (others : List LiteralDef) → AreLiterals number (literal ∷ others) → AreLiterals (suc number) others
  other_literals number literal others are k one there = ap (slice_get tac.literals) (omega arith) ∙ are (suc k) one there

  -- its characters end before its end
  short : (number : ℕ) (literal : LiteralDef) → slice_get tac.literals number ≡ Some literal → suc (length (character_bytes literal.bytes)) ≡ literal_room literal
  short number literal there =
      ap suc (length-map literal.bytes (λ byte. word_of I.UChar (pos byte))) ∙ sym (literal_size tac.structs literal.bytes (exact.literals number literal there))

  characters_within : (number : ℕ) (literal : LiteralDef) → slice_get tac.literals number ≡ Some literal → (bytes : List ℕ) → length bytes ≡ statics_size tac
      → literal_offset tac number + length (character_bytes literal.bytes) ≤ length bytes
  characters_within number literal there bytes long =
      by (literal_offset tac number) (length (character_bytes literal.bytes)) (literal_room literal) (statics_size tac) (length bytes) (short number literal there) (literal_within tac number literal there) long
    where
      by : (start some room all total : ℕ) → suc some ≡ room → start + room ≤ all → total ≡ all → start + some ≤ total
      by start some room all total e le same = omega arith

  literal_length : (number : ℕ) (literal : LiteralDef) → slice_get tac.literals number ≡ Some literal → (bytes : List ℕ) → length bytes ≡ statics_size tac
      → length (spliced bytes (literal_offset tac number) (character_bytes literal.bytes)) ≡ statics_size tac
  literal_length number literal there bytes long = length-spliced bytes (literal_offset tac number) (character_bytes literal.bytes) (characters_within number literal there bytes long) ∙ long

  literals_length : (literals : List LiteralDef) (number : ℕ) (bytes : List ℕ) → AreLiterals number literals → length bytes ≡ statics_size tac → length (with_literals tac number literals bytes) ≡ statics_size tac
  literals_length [] number bytes are long = long
  literals_length (literal ∷ others) number bytes are long =
      literals_length others (suc number) (spliced bytes (literal_offset tac number) (character_bytes literal.bytes)) (other_literals number literal others are)
      (literal_length number literal (first_literal number literal others are) bytes long)

  literal_outside : (number : ℕ) (literal : LiteralDef) → slice_get tac.literals number ≡ Some literal → (bytes : List ℕ) → length bytes ≡ statics_size tac → (at size : ℕ)
      → AreApart at size (literal_offset tac number) (literal_room literal) → read_at (spliced bytes (literal_offset tac number) (character_bytes literal.bytes)) at size ≡ read_at bytes at size
  literal_outside number literal there bytes long at size apart =
      read-apart bytes (literal_offset tac number) (character_bytes literal.bytes) at size (characters_within number literal there bytes long)
      (by (literal_offset tac number) (length (character_bytes literal.bytes)) (literal_room literal) (short number literal there) apart)
    where
      by : (start some room : ℕ) → suc some ≡ room → AreApart at size start room → AreApart at size start some
      by start some room e (inl before) = inl before
      by start some room e (inr past) = inr (omega arith)

  literals_outside : (literals : List LiteralDef) (number : ℕ) (bytes : List ℕ) (at size : ℕ) → AreLiterals number literals → length bytes ≡ statics_size tac
      → ((other : ℕ) (literal : LiteralDef) → number ≤ other → slice_get tac.literals other ≡ Some literal → AreApart at size (literal_offset tac other) (literal_room literal))
      → read_at (with_literals tac number literals bytes) at size ≡ read_at bytes at size
  literals_outside [] number bytes at size are long apart = refl
  literals_outside (literal ∷ others) number bytes at size are long apart =
      let there = first_literal number literal others are in
      literals_outside others (suc number) (spliced bytes (literal_offset tac number) (character_bytes literal.bytes)) at size (other_literals number literal others are) (literal_length number literal there bytes long)
      (λ other one le at_other. apart other one (omega arith) at_other)
      ∙ literal_outside number literal there bytes long at size (apart number literal (omega arith) there)

  -- a byte of a literal in another
  byte_apart : (number : ℕ) (literal : LiteralDef) → slice_get tac.literals number ≡ Some literal → (offset : ℕ) → offset < literal_room literal
      → (other : ℕ) (other_literal : LiteralDef) → slice_get tac.literals other ≡ Some other_literal → (number ≡ other → ⊥)
      → AreApart (literal_offset tac number + offset) 1 (literal_offset tac other) (literal_room other_literal)
  byte_apart number literal there offset lt other other_literal other_there ne =
      by (literal_offset tac number) (literal_room literal) (literal_offset tac other) (literal_room other_literal) lt (literals_apart tac number other literal other_literal there other_there)
    where
      by : (start all other_start other_all : ℕ) → offset < all → (number ≡ other) ⊎ AreApart start all other_start other_all → AreApart (start + offset) 1 other_start other_all
      by start all other_start other_all lt (inl same) = absurd (ne same)
      by start all other_start other_all lt (inr (inl before)) = inl (omega arith)
      by start all other_start other_all lt (inr (inr past)) = inr (omega arith)

  module _ (number : ℕ) (literal : LiteralDef) (there : slice_get tac.literals number ≡ Some literal) (offset : ℕ) (within : offset < literal_room literal) (value : Value)
      (held : characters literal.bytes offset ≡ Some value) where
    abbrev Reads : List ℕ → Type 0
    Reads bytes = read_at bytes (literal_offset tac number + offset) 1 ≡ value_word tac (Some value) % 2 ^ 8

    abbrev IsClear : List ℕ → Type 0
    IsClear bytes = read_at bytes (literal_offset tac number + offset) 1 ≡ 0

    own_reads : (bytes : List ℕ) → length bytes ≡ statics_size tac → IsClear bytes → Reads (spliced bytes (literal_offset tac number) (character_bytes literal.bytes))
    own_reads bytes long clear = by (character_at tac literal.bytes offset value held)
      where
        same_length : length (character_bytes literal.bytes) ≡ length literal.bytes
        same_length = length-map literal.bytes (λ byte. word_of I.UChar (pos byte))

        start_within : (start some total : ℕ) → start + some ≤ total → start ≤ total
        start_within start some total le = omega arith

        past : (start some : ℕ) → offset ≡ some → start + some ≤ start + offset
        past start some e = omega arith

        by : CharacterAt tac literal.bytes offset value → Reads (spliced bytes (literal_offset tac number) (character_bytes literal.bytes))
        by (OneOf lt same) =
            read-byte bytes (literal_offset tac number) (character_bytes literal.bytes) offset
            (start_within (literal_offset tac number) (length (character_bytes literal.bytes)) (length bytes) (characters_within number literal there bytes long))
            (subst (λ (n : ℕ). offset < n) (sym same_length) lt) ∙ same
        by (TheEnd e same) =
            read-apart bytes (literal_offset tac number) (character_bytes literal.bytes) (literal_offset tac number + offset) 1 (characters_within number literal there bytes long)
            (inr (past (literal_offset tac number) (length (character_bytes literal.bytes)) (e ∙ sym same_length)))
            ∙ clear ∙ sym (zero-mod (2 ^ 8)) ∙ ap (λ (n : ℕ). n % 2 ^ 8) (sym same)

    literals_read : (literals : List LiteralDef) (from k : ℕ) (bytes : List ℕ) → AreLiterals from literals → number ≡ from + k → k < length literals → length bytes ≡ statics_size tac → IsClear bytes
        → Reads (with_literals tac from literals bytes)
    literals_read [] from k bytes are e lt long clear = absurd (omega arith)
    literals_read (one ∷ others) from zero bytes are e lt long clear =
        let one_there = first_literal from one others are in
        let here : number ≡ from = omega arith in
        let same : literal ≡ one = same_Some literal one (sym there ∙ ap (slice_get tac.literals) here ∙ one_there) in
        literals_outside others (suc from) (spliced bytes (literal_offset tac from) (character_bytes one.bytes)) (literal_offset tac number + offset) 1 (other_literals from one others are)
        (literal_length from one one_there bytes long) (λ other other_literal le other_there. byte_apart number literal there offset within other other_literal other_there (λ same. omega arith))
        ∙ subst (λ (l : LiteralDef). Reads (spliced bytes (literal_offset tac from) (character_bytes l.bytes))) same
        (subst (λ (n : ℕ). Reads (spliced bytes (literal_offset tac n) (character_bytes literal.bytes))) here (own_reads bytes long clear))
    literals_read (one ∷ others) from (suc k) bytes are e lt long clear =
        let one_there = first_literal from one others are in
        literals_read others (suc from) k (spliced bytes (literal_offset tac from) (character_bytes one.bytes)) (other_literals from one others are) (omega arith) (omega arith)
        (literal_length from one one_there bytes long)
        (literal_outside from one one_there bytes long (literal_offset tac number + offset) 1 (byte_apart number literal there offset within from one one_there (λ same. omega arith)) ∙ clear)

  -- ---- what stands there at first

  zeros_long : length {A = ℕ} (replicate (statics_size tac) 0) ≡ statics_size tac
  zeros_long = length-replicate (statics_size tac) 0

  all_globals : AreGlobals tac exact 0 tac.globals
  all_globals k global there = ap (slice_get tac.globals) (omega arith) ∙ there

  all_literals : AreLiterals 0 tac.literals
  all_literals k literal there = ap (slice_get tac.literals) (omega arith) ∙ there

  abbrev globals_first : List ℕ
  globals_first = with_globals tac 0 tac.globals (replicate (statics_size tac) 0)

  globals_long : length globals_first ≡ statics_size tac
  globals_long = globals_length tac exact tac.globals 0 (replicate (statics_size tac) 0) all_globals zeros_long

  -- there are as many bytes as the objects take
  pub length-first_contents : length (first_contents tac) ≡ statics_size tac
  length-first_contents = literals_length tac.literals 0 globals_first all_literals globals_long

  -- a scalar of a variable
  pub global_first : (number : ℕ) (global : GlobalDef) → slice_get tac.globals number ≡ Some global → (offset : ℕ) (own : CType) → leaf_at tac.structs global.c_type 1 offset ≡ Some own
      → (value : Value) → first_held tac global.c_type global.first offset ≡ Some value
      → read_at (first_contents tac) (global_offset tac number + offset) (slot_size (slot_of own)) ≡ value_word tac (Some value) % 2 ^ (8 * slot_size (slot_of own))
  global_first number global there offset own leaf value held =
      literals_outside tac.literals 0 globals_first (global_offset tac number + offset) (slot_size (slot_of own)) all_literals globals_long
      (λ other literal le other_there. inl (by (global_offset tac number) (slot_size (slot_of own)) (size_of tac.structs global.c_type) (literal_offset tac other)
      (leaf_within tac.structs global.c_type 1 offset own (exact.globals number global there) leaf) (global_before_literal tac number other global literal there other_there)))
      ∙ globals_read tac exact number global there offset own leaf value held tac.globals 0 number (replicate (statics_size tac) 0) all_globals (omega arith) (get_length tac.globals number global there) zeros_long
      (read-zeros (statics_size tac) (global_offset tac number + offset) (slot_size (slot_of own)))
    where
      by : (start own all literal : ℕ) → offset + own ≤ 1 * all → start + all ≤ literal → start + offset + own ≤ literal
      by start own all literal le before = omega arith

  -- a character of a literal
  pub literal_first : (number : ℕ) (literal : LiteralDef) → slice_get tac.literals number ≡ Some literal → (offset : ℕ) (own : CType) → leaf_at tac.structs (literal_type literal.bytes) 1 offset ≡ Some own
      → (value : Value) → characters literal.bytes offset ≡ Some value
      → read_at (first_contents tac) (literal_offset tac number + offset) (slot_size (slot_of own)) ≡ value_word tac (Some value) % 2 ^ (8 * slot_size (slot_of own))
  literal_first number literal there offset own leaf value held =
      let is_char : own ≡ Integer I.Char = literal_leaf tac.structs literal.bytes offset own leaf in
      let char_leaf : leaf_at tac.structs (literal_type literal.bytes) 1 offset ≡ Some (Integer I.Char) = leaf ∙ ap Some is_char in
      let within : offset < literal_room literal = by offset (literal_room literal) (leaf_within tac.structs (literal_type literal.bytes) 1 offset (Integer I.Char) (exact.literals number literal there) char_leaf) in
      subst (λ (t : CType). read_at (first_contents tac) (literal_offset tac number + offset) (slot_size (slot_of t)) ≡ value_word tac (Some value) % 2 ^ (8 * slot_size (slot_of t))) (sym is_char)
      (literals_read number literal there offset within value held tac.literals 0 number globals_first all_literals (omega arith) (get_length tac.literals number literal there) globals_long
      (globals_outside tac exact tac.globals 0 (replicate (statics_size tac) 0) (literal_offset tac number + offset) 1 all_globals zeros_long
      (λ other global le other_there. inr (behind (global_offset tac other) (size_of tac.structs global.c_type) (literal_offset tac number) (global_before_literal tac other number global literal other_there there)))
      ∙ read-zeros (statics_size tac) (literal_offset tac number + offset) 1))
    where
      by : (offset room : ℕ) → offset + 1 ≤ 1 * room → offset < room
      by offset room le = omega arith

      behind : (start size literal : ℕ) → start + size ≤ literal → start + size ≤ literal + offset
      behind start size literal le = omega arith
