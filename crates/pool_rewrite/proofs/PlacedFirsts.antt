-- First values that are written one behind another.
use Rattle.std.proofs.Common.{◌≡◌, ℕ, zero, suc, ◌+◌, ◌<◌, ◌≤◌, List, [], ◌∷◌, ◌++◌, map, length, drop, get_or, drop-cons, Option, Some, None, pos, refl, sym, ap, subst, ◌∙◌, arith}
use Rattle.std.proofs.Math.Numerals.{add-one}
use Rattle.std.proofs.lemmas.List.{drop-map}
use Rattle.byteorder.specs.Endian.{little_bytes}
use Rattle.byteorder.specs.Numbers.{length-bytes_low_first}
use Rattle.c_num.specs.declared.IntType.{IntType}
use Rattle.c_num.specs.declared.IntType.TheVariants as I
use Rattle.c_num.specs.Conversion.{convert_to, word_of}
use Rattle.c_typed.specs.declared.part.Part.{Part}
use Rattle.c_typed.specs.declared.definition.First as memory_first
use Rattle.c_typed.specs.declared.definition.GlobalDef as memory_global
use Rattle.c_typed.specs.Types.{CType}
use Rattle.c_typed.specs.Table.{Interned, type_in, structs_in}
use Rattle.c_typed.specs.declared.definition.LiteralDef as memory_literal
use Rattle.c_typed.specs.DefinitionViews.{first_of, all_first, characters_held, global_in, literal_of}
use Rattle.c_typed.specs.Values.{FirstScalar, Held}
use Rattle.tac_ir.specs.Layouts.{Inner, moved, parts_of}
use Rattle.tac_ir.specs.First.{offset_in, constant_of}
use Rattle.tac_ir.specs.Code.{Tac}
use Rattle.tac_ir.specs.declared.program.Tac as memory_tac
use Rattle.tac_ir.specs.Views.{tac_of}
use Rattle.pool_isa.specs.Machine.{spliced}
use Rattle.pool_ir.specs.Memory.{slot_size}
use Rattle.pool_rewrite.specs.declared.contents.Target.{Target}
use Rattle.pool_rewrite.specs.Rewriting.{slot_of, leaf_size, value_word, with_scalar, with_first, with_globals, with_literals, character_bytes}
use Rattle.pool_rewrite.specs.Placing.{global_offset, literal_offset, statics_size}
use Rattle.pool_rewrite.specs.Firsts.{LeafFits, IsLeaf, TextFits, FirstFits, FirstsFit, GlobalsFitFrom, whole_of, element_behind, word_at, with_word}
use Rattle.pool_rewrite.proofs.InsertedEntries.{from_here}
use Rattle.pool_rewrite.proofs.SplicedLists.{length-spliced}

with_first_more : (tac : Tac) (c_type : CType) (start : ℕ) (a b : List Held) (bytes : List ℕ) → with_first tac c_type start (a ++ b) bytes ≡ with_first tac c_type start a (with_first tac c_type start b bytes)
with_first_more tac c_type start [] b bytes = refl
with_first_more tac c_type start (one ∷ others) b bytes =
    ap (with_scalar tac c_type start (offset_in tac c_type one.leaf.steps one.leaf.index) one.value) (with_first_more tac c_type start others b bytes)

-- ---- one scalar

-- the word of a value is written where the element is
scalar_written : (tac : memory_tac.Tac) (target : Target) (room : ℕ) (parts : List Part) (index : ℕ) (value : FirstScalar) (bytes : List ℕ) → LeafFits tac.types target room parts index
    → with_word tac.types target parts index (value_word (tac_of tac) (constant_of (tac_of tac) value)) bytes
    ≡ with_scalar (tac_of tac) (type_in tac.types target.c_type) target.start (offset_in (tac_of tac) (type_in tac.types target.c_type) parts index) value bytes
scalar_written tac target room parts index value bytes fits = by (parts_of (structs_in tac.types) parts (whole_of tac.types target.c_type)) refl fits.leaf
  where
    by : (reached : Option Inner) → parts_of (structs_in tac.types) parts (whole_of tac.types target.c_type) ≡ reached → IsLeaf tac.types target room (element_behind (structs_in tac.types) index reached)
        → with_word tac.types target parts index (value_word (tac_of tac) (constant_of (tac_of tac) value)) bytes
        ≡ with_scalar (tac_of tac) (type_in tac.types target.c_type) target.start (offset_in (tac_of tac) (type_in tac.types target.c_type) parts index) value bytes
    by None is leaf = rw is refl
    by (Some inner) is leaf =
        let offset = (moved (structs_in tac.types) index inner).offset in
        rw is (ap (λ (l : Option CType). spliced bytes (target.start + offset) (little_bytes (leaf_size l) (value_word (tac_of tac) (constant_of (tac_of tac) value)))) (sym leaf.0))

length-word_at : (table : Interned) (target : Target) (word : ℕ) (element : Option Inner) (bytes : List ℕ) → IsLeaf table target (length bytes) element → length (word_at table target word element bytes) ≡ length bytes
length-word_at table target word None bytes leaf = refl
length-word_at table target word (Some inner) bytes leaf =
    let size = slot_size (slot_of inner.c_type) in
    let long = length-bytes_low_first 0 size word in
    length-spliced bytes (little_bytes size word) (target.start + inner.offset) (inside (target.start + inner.offset) size (length (little_bytes size word)) (length bytes) long leaf.1)
  where
    inside : (at size long room : ℕ) → long ≡ size → at + size ≤ room → at + long ≤ room
    inside at size long room same le = omega (arith, same, le)

-- bytes with a word in them are as many as before
pub length-with_word : (table : Interned) (target : Target) (parts : List Part) (index word : ℕ) (bytes : List ℕ) → LeafFits table target (length bytes) parts index → length (with_word table target parts index word bytes) ≡ length bytes
length-with_word table target parts index word bytes fits = length-word_at table target word _ bytes fits.leaf

-- ---- texts

-- each character fits
pub character_fits : (tac : memory_tac.Tac) (target : Target) (room : ℕ) (parts : List Part) (from : ℕ) (text : List ℕ) (n k : ℕ) → TextFits tac target room parts from text → k < length text → n ≡ from + k
    → LeafFits tac.types target room parts n
character_fits tac target room parts from [] n k fits lt is = absurd (omega (arith, lt))
character_fits tac target room parts from (byte ∷ text) n zero fits lt is = let same : from ≡ n = omega (arith, is) in subst (LeafFits tac.types target room parts) same fits.0
character_fits tac target room parts from (byte ∷ text) n (suc k) fits lt is = character_fits tac target room parts (suc from) text n k fits.1 (omega (arith, lt)) (omega (arith, is))

-- one more character is written in front
pub text_down : (tac : memory_tac.Tac) (target : Target) (parts : List Part) (int_type : IntType) (text old before after : List ℕ) (n byte word : ℕ) → n < length text → byte ≡ get_or text n 0
    → LeafFits tac.types target (length old) parts n → after ≡ with_word tac.types target parts n word before → word ≡ word_of I.ULong (convert_to int_type (pos byte)) → (m : ℕ) → m ≡ suc n
    → before ≡ with_first (tac_of tac) (type_in tac.types target.c_type) target.start (characters_held parts int_type m (drop m text)) old
    → after ≡ with_first (tac_of tac) (type_in tac.types target.c_type) target.start (characters_held parts int_type n (drop n text)) old
text_down tac target parts int_type text old before after n byte word lt is fits written worded m next has =
    let behind = characters_held parts int_type (suc n) (drop (suc n) text) in
    let rest : before ≡ with_first (tac_of tac) (type_in tac.types target.c_type) target.start behind old =
    has ∙ ap (λ k. with_first (tac_of tac) (type_in tac.types target.c_type) target.start (characters_held parts int_type k (drop k text)) old) next in
    written ∙ ((λ i. with_word tac.types target parts n (worded i) (rest i))
    ∙ (scalar_written tac target (length old) parts n _ (with_first (tac_of tac) (type_in tac.types target.c_type) target.start behind old) fits
    ∙ sym (ap (λ (bytes : List ℕ). with_first (tac_of tac) (type_in tac.types target.c_type) target.start (characters_held parts int_type n bytes) old) (drop-cons text n 0 lt ∙ ap (λ b. b ∷ drop (suc n) text) (sym is)))))

-- ---- first values of a variable

pub first_fits : (tac : memory_tac.Tac) (target : Target) (room : ℕ) (firsts : List memory_first.First) (n : ℕ) (first : memory_first.First) → FirstsFit tac target room firsts → n < length firsts → first ≡ get_or firsts n first
    → FirstFits tac target room first
first_fits tac target room [] n first fits lt is = absurd (omega (arith, lt))
first_fits tac target room (one ∷ others) zero first fits lt is = subst (λ (f : memory_first.First). FirstFits tac target room f) (sym is) fits.0
first_fits tac target room (one ∷ others) (suc n) first fits lt is = first_fits tac target room others n first fits.1 (omega (arith, lt)) is

-- one more first value is written in front
pub firsts_down : (tac : Tac) (c_type : CType) (start : ℕ) (firsts : List memory_first.First) (old before after : List ℕ) (n : ℕ) (first : memory_first.First) → n < length firsts → first ≡ get_or firsts n first
    → after ≡ with_first tac c_type start (first_of first) before → (m : ℕ) → m ≡ suc n
    → before ≡ with_first tac c_type start (all_first (drop m firsts)) old → after ≡ with_first tac c_type start (all_first (drop n firsts)) old
firsts_down tac c_type start firsts old before after n first lt is written m next has =
    let rest : before ≡ with_first tac c_type start (all_first (drop (suc n) firsts)) old = has ∙ ap (λ k. with_first tac c_type start (all_first (drop k firsts)) old) next in
    written ∙ (ap (with_first tac c_type start (first_of first)) rest
    ∙ (sym (with_first_more tac c_type start (first_of first) (all_first (drop (suc n) firsts)) old)
    ∙ sym (ap (λ fs. with_first tac c_type start (all_first fs) old) (from_here firsts n first lt is))))

-- ---- variables

pub global_fits : (tac : memory_tac.Tac) (from : ℕ) (globals : List memory_global.GlobalDef) (n k : ℕ) (global : memory_global.GlobalDef) → GlobalsFitFrom tac from globals → k < length globals
    → global ≡ get_or globals k global → n ≡ from + k
    → FirstsFit tac (record { c_type = global.c_type; start = global_offset (tac_of tac) n }) (statics_size (tac_of tac)) global.first.items
global_fits tac from [] n k global fits lt is at = absurd (omega (arith, lt))
global_fits tac from (first ∷ others) n zero global fits lt is at =
    let same : from ≡ n = omega (arith, at) in
    subst (λ (g : memory_global.GlobalDef). FirstsFit tac (record { c_type = g.c_type; start = global_offset (tac_of tac) n }) (statics_size (tac_of tac)) g.first.items) (sym is)
    (subst (λ m. FirstsFit tac (record { c_type = first.c_type; start = global_offset (tac_of tac) m }) (statics_size (tac_of tac)) first.first.items) same fits.0)
global_fits tac from (first ∷ others) n (suc k) global fits lt is at = global_fits tac (suc from) others n k global fits.1 (omega (arith, lt)) is (omega (arith, at))

-- one more variable is written
pub globals_up : (tac : Tac) (table : Interned) (globals : List memory_global.GlobalDef) (n : ℕ) (global : memory_global.GlobalDef) (before after whole : List ℕ) → n < length globals → global ≡ get_or globals n global
    → after ≡ with_first tac (type_in table global.c_type) (global_offset tac n) (all_first global.first.items) before
    → with_globals tac n (drop n (map (global_in table) globals)) before ≡ whole → with_globals tac (n + 1) (drop (n + 1) (map (global_in table) globals)) after ≡ whole
globals_up tac table globals n global before after whole lt is written has =
    let all = map (global_in table) globals in
    let here : drop n all ≡ global_in table global ∷ drop (suc n) all =
    drop-map (global_in table) n globals ∙ (ap (map (global_in table)) (from_here globals n global lt is) ∙ ap (λ others. global_in table global ∷ others) (sym (drop-map (global_in table) (suc n) globals))) in
    ap (λ k. with_globals tac k (drop k all) after) (add-one n) ∙ (ap (with_globals tac (suc n) (drop (suc n) all)) written ∙ (sym (ap (λ others. with_globals tac n others before) here) ∙ has))

-- one more literal is written
pub literals_up : (tac : Tac) (literals : List memory_literal.LiteralDef) (n : ℕ) (literal : memory_literal.LiteralDef) (before after whole : List ℕ) → n < length literals → literal ≡ get_or literals n literal
    → after ≡ spliced before (literal_offset tac n) (character_bytes literal.bytes)
    → with_literals tac n (drop n (map literal_of literals)) before ≡ whole → with_literals tac (n + 1) (drop (n + 1) (map literal_of literals)) after ≡ whole
literals_up tac literals n literal before after whole lt is written has =
    let all = map literal_of literals in
    let here : drop n all ≡ literal_of literal ∷ drop (suc n) all =
    drop-map literal_of n literals ∙ (ap (map literal_of) (from_here literals n literal lt is) ∙ ap (λ others. literal_of literal ∷ others) (sym (drop-map literal_of (suc n) literals))) in
    ap (λ k. with_literals tac k (drop k all) after) (add-one n) ∙ (ap (with_literals tac (suc n) (drop (suc n) all)) written ∙ (sym (ap (λ others. with_literals tac n others before) here) ∙ has))
