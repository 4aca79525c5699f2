-- What is found of a name or place: a number, and the entry of this number; and where such objects lie.
use Rattle.std.proofs.Common.{◌≡◌, ℕ, zero, suc, ◌+◌, ◌*◌, ◌^◌, ◌<◌, ◌≤◌, min, Bool, true, false, if◌then◌else◌, List, [], ◌∷◌, ◌++◌, map, length, get_or, slice_get, Option, Some, None, option_map, bytes_eq, refl, sym, ap, subst, ◌∙◌, arith}
use Rattle.std.proofs.lemmas.Option.{none-some, same_Some, slice_get-map, slice_get_within, slice_get_read}
use Rattle.std.proofs.lemmas.List.{length-map}
use Rattle.run_theory.specs.declared.place.Pos.{Pos}
use Rattle.c_typed.specs.declared.definition.GlobalDef as memory_global
use Rattle.c_typed.specs.declared.definition.LiteralDef as memory_literal
use Rattle.c_typed.specs.Places.{is_same_place}
use Rattle.c_typed.specs.Types.{literal_type}
use Rattle.c_typed.specs.Layouts.{StructDef, Layout, layout_of, greatest}
use Rattle.c_typed.specs.Table.{Interned, type_in}
use Rattle.c_typed.specs.Typed.{GlobalDef, LiteralDef}
use Rattle.c_typed.specs.DefinitionViews.{global_in, literal_of, LiteralsStand}
use Rattle.c_typed.specs.Values.{StaticVariable, StaticLiteral, FunctionValue}
use Rattle.c_typed.specs.declared.part.Part.{Part}
use Rattle.tac_ir.specs.Values.{OfGlobal, OfLiteral}
use Rattle.tac_ir.specs.Layouts.{Inner, moved, within, part_of, parts_of}
use Rattle.tac_ir.specs.First.{named_function, named_global, placed_literal, static_of, constant_of}
use Rattle.tac_ir.specs.Code.{Function, Tac}
use Rattle.tac_ir.specs.declared.program.Tac as memory_tac
use Rattle.tac_ir.specs.Views.{tac_of}
use Rattle.pool_rewrite.specs.declared.first.Root.{Root}
use Rattle.pool_rewrite.specs.Rewriting.{value_word}
use Rattle.pool_rewrite.specs.Firsts.{PartsFit, element_behind, element_in, IsRoot}
use Rattle.pool_rewrite.specs.Placing.{begins, end_behind, begin_of, static_layouts, global_offset, literal_offset, statics_size}
use Rattle.pool_rewrite.proofs.AlignedLayouts.{aligned_layout}
use Rattle.pool_rewrite.proofs.PlacedObjects.{AllAligned, end_above}

-- ---- functions

pub function_below : (from : ℕ) (functions : List Function) (name : List ℕ) (n : ℕ) → named_function from functions name ≡ Some n → n < from + length functions
function_below from [] name n is = absurd (none-some n is)
function_below from (first ∷ others) name n is = by (bytes_eq first.name name) is (function_below (suc from) others name n)
  where
    by : (t : Bool) → (if t then Some from else named_function (suc from) others name) ≡ Some n → (named_function (suc from) others name ≡ Some n → n < suc from + length others) → n < from + suc (length others)
    by true is rest = let same : from ≡ n = same_Some from n is in omega (arith, same)
    by false is rest = let more = rest is in omega (arith, more)

pub function_word_is : (tac : Tac) (name : List ℕ) (n : ℕ) → named_function 0 tac.functions name ≡ Some n → 281474976710656 + n + 1 ≡ value_word tac (constant_of tac (FunctionValue name))
function_word_is tac name n is =
    let word : 281474976710656 + n + 1 ≡ 2 ^ 48 + suc n = omega arith in
    rw is word

pub no_function_word : (tac : Tac) (name : List ℕ) → named_function 0 tac.functions name ≡ None → 0 ≡ value_word tac (constant_of tac (FunctionValue name))
no_function_word tac name is = rw is refl

-- ---- variables

global_read : (from : ℕ) (globals : List GlobalDef) (name : List ℕ) (n : ℕ) → option_map (λ found. found.0) (named_global from globals name) ≡ Some n
    → (k : ℕ) × (global : GlobalDef) × (n ≡ from + k) × (slice_get globals k ≡ Some global) × (named_global from globals name ≡ Some (n, global))
global_read from [] name n is = absurd (none-some n is)
global_read from (first ∷ others) name n is = by (bytes_eq first.name name) is (global_read (suc from) others name n)
  where
    by : (t : Bool) → option_map (λ found. found.0) (if t then Some (from, first) else named_global (suc from) others name) ≡ Some n
        → (option_map (λ found. found.0) (named_global (suc from) others name) ≡ Some n
        → (k : ℕ) × (global : GlobalDef) × (n ≡ suc from + k) × (slice_get others k ≡ Some global) × (named_global (suc from) others name ≡ Some (n, global)))
        → (k : ℕ) × (global : GlobalDef) × (n ≡ from + k) × (slice_get (first ∷ others) k ≡ Some global)
        × ((if t then Some (from, first) else named_global (suc from) others name) ≡ Some (n, global))
    by true is rest = let same : from ≡ n = same_Some from n is in (0, first, omega (arith, same), refl, λ i. Some (same i, first))
    by false is rest = let more = rest is in let number = more.2 in (suc more.0, more.1, omega (arith, number), more.3, more.4)

-- a number is that of a variable
pub global_there : (table : Interned) (globals : List memory_global.GlobalDef) (name : List ℕ) (n : ℕ) → option_map (λ found. found.0) (named_global 0 (map (global_in table) globals) name) ≡ Some n → n < length globals
global_there table globals name n is =
    let read = global_read 0 (map (global_in table) globals) name n is in
    let number = read.2 in
    let within = slice_get_within (map (global_in table) globals) read.0 read.1 read.3 in
    let long = length-map globals (global_in table) in
    omega (arith, number, within, long)

global_named : (table : Interned) (globals : List memory_global.GlobalDef) (name : List ℕ) (n : ℕ) (global : memory_global.GlobalDef)
    → option_map (λ found. found.0) (named_global 0 (map (global_in table) globals) name) ≡ Some n → slice_get globals n ≡ Some global → named_global 0 (map (global_in table) globals) name ≡ Some (n, global_in table global)
global_named table globals name n global is at =
    let read = global_read 0 (map (global_in table) globals) name n is in
    let number : n ≡ read.0 = omega (arith, read.2) in
    let own : Some (global_in table global) ≡ Some read.1 = sym (slice_get-map (global_in table) globals n ∙ ap (option_map (global_in table)) at) ∙ (ap (slice_get (map (global_in table) globals)) number ∙ read.3) in
    read.4 ∙ ap (λ g. Some (n, g)) (sym (same_Some (global_in table global) read.1 own))

-- ---- literals

literal_read : (from : ℕ) (literals : List LiteralDef) (place : Pos) (n : ℕ) → option_map (λ found. found.0) (placed_literal from literals place) ≡ Some n
    → (k : ℕ) × (literal : LiteralDef) × (n ≡ from + k) × (slice_get literals k ≡ Some literal) × (placed_literal from literals place ≡ Some (n, literal))
literal_read from [] place n is = absurd (none-some n is)
literal_read from (first ∷ others) place n is = by (is_same_place first.place place) is (literal_read (suc from) others place n)
  where
    by : (t : Bool) → option_map (λ found. found.0) (if t then Some (from, first) else placed_literal (suc from) others place) ≡ Some n
        → (option_map (λ found. found.0) (placed_literal (suc from) others place) ≡ Some n
        → (k : ℕ) × (literal : LiteralDef) × (n ≡ suc from + k) × (slice_get others k ≡ Some literal) × (placed_literal (suc from) others place ≡ Some (n, literal)))
        → (k : ℕ) × (literal : LiteralDef) × (n ≡ from + k) × (slice_get (first ∷ others) k ≡ Some literal)
        × ((if t then Some (from, first) else placed_literal (suc from) others place) ≡ Some (n, literal))
    by true is rest = let same : from ≡ n = same_Some from n is in (0, first, omega (arith, same), refl, λ i. Some (same i, first))
    by false is rest = let more = rest is in let number = more.2 in (suc more.0, more.1, omega (arith, number), more.3, more.4)

-- a number is that of a literal
pub literal_there : (literals : List memory_literal.LiteralDef) (place : Pos) (n : ℕ) → option_map (λ found. found.0) (placed_literal 0 (map literal_of literals) place) ≡ Some n → n < length literals
literal_there literals place n is =
    let read = literal_read 0 (map literal_of literals) place n is in
    let number = read.2 in
    let within = slice_get_within (map literal_of literals) read.0 read.1 read.3 in
    let long = length-map literals literal_of in
    omega (arith, number, within, long)

literal_placed : (literals : List memory_literal.LiteralDef) (place : Pos) (n : ℕ) (literal : memory_literal.LiteralDef)
    → option_map (λ found. found.0) (placed_literal 0 (map literal_of literals) place) ≡ Some n → slice_get literals n ≡ Some literal → placed_literal 0 (map literal_of literals) place ≡ Some (n, literal_of literal)
literal_placed literals place n literal is at =
    let read = literal_read 0 (map literal_of literals) place n is in
    let number : n ≡ read.0 = omega (arith, read.2) in
    let own : Some (literal_of literal) ≡ Some read.1 = sym (slice_get-map literal_of literals n ∙ ap (option_map literal_of) at) ∙ (ap (slice_get (map literal_of literals)) number ∙ read.3) in
    read.4 ∙ ap (λ g. Some (n, g)) (sym (same_Some (literal_of literal) read.1 own))

literal_typed : (table : Interned) (literals : List memory_literal.LiteralDef) (n : ℕ) (literal : memory_literal.LiteralDef) → LiteralsStand table literals → slice_get literals n ≡ Some literal
    → type_in table literal.c_type ≡ literal_type literal.bytes
literal_typed table [] n literal stand at = absurd (none-some literal at)
literal_typed table (first ∷ others) zero literal stand at = subst (λ (l : memory_literal.LiteralDef). type_in table l.c_type ≡ literal_type l.bytes) (same_Some first literal at) stand.0.1
literal_typed table (first ∷ others) (suc n) literal stand at = literal_typed table others n literal stand.1 at

-- ---- places

begin_below : (front : ℕ) (layouts : List Layout) (n : ℕ) → AllAligned layouts → begin_of front layouts n ≤ end_behind front layouts
begin_below front [] n h = omega arith
begin_below front (first ∷ others) zero h = by (begins front first) (end_behind (begins front first + first.size) others) (end_above (begins front first + first.size) others h.1)
  where
    by : (start end : ℕ) → start + first.size ≤ end → start ≤ end
    by start end le = omega (arith, le)
begin_below front (first ∷ others) (suc n) h = begin_below (begins front first + first.size) others n h.1

-- an object ends before those behind it
object_inside : (front : ℕ) (layouts : List Layout) (n : ℕ) (layout : Layout) → AllAligned layouts → slice_get layouts n ≡ Some layout → begin_of front layouts n + layout.size ≤ end_behind front layouts
object_inside front [] n layout h at = absurd (none-some layout at)
object_inside front (first ∷ others) zero layout h at =
    subst (λ (l : Layout). begins front first + l.size ≤ end_behind (begins front first + first.size) others) (same_Some first layout at) (end_above (begins front first + first.size) others h.1)
object_inside front (first ∷ others) (suc n) layout h at = object_inside (begins front first + first.size) others n layout h.1 at

both_aligned : (a b : List Layout) → AllAligned a → AllAligned b → AllAligned (a ++ b)
both_aligned [] b h h' = h'
both_aligned (first ∷ others) b h h' = (h.0, both_aligned others b h.1 h')

read_behind : (a b : List Layout) (n m : ℕ) → m ≡ length a + n → slice_get (a ++ b) m ≡ slice_get b n
read_behind [] b n m is = ap (slice_get b) (let same : m ≡ n = omega (arith, is) in same)
read_behind (first ∷ others) b n zero is = absurd (omega (arith, is))
read_behind (first ∷ others) b n (suc m) is = read_behind others b n m (omega (arith, is))

module _ (tac : Tac) where
  abbrev layout_of_global : GlobalDef → Layout
  layout_of_global global = layout_of tac.structs global.c_type

  abbrev layout_of_literal : LiteralDef → Layout
  layout_of_literal literal = layout_of tac.structs (literal_type literal.bytes)

  globals_aligned : (globals : List GlobalDef) → AllAligned (map layout_of_global globals)
  globals_aligned [] = tt
  globals_aligned (first ∷ others) = (aligned_layout tac.structs first.c_type, globals_aligned others)

  literals_aligned : (literals : List LiteralDef) → AllAligned (map layout_of_literal literals)
  literals_aligned [] = tt
  literals_aligned (first ∷ others) = (aligned_layout tac.structs (literal_type first.bytes), literals_aligned others)

  statics_aligned : AllAligned (static_layouts tac)
  statics_aligned = both_aligned (map layout_of_global tac.globals) (map layout_of_literal tac.literals) (globals_aligned tac.globals) (literals_aligned tac.literals)

  global_below : (n : ℕ) → global_offset tac n ≤ statics_size tac
  global_below n = begin_below 0 (static_layouts tac) n statics_aligned

  literal_below : (n : ℕ) → literal_offset tac n ≤ statics_size tac
  literal_below n = begin_below 0 (static_layouts tac) (length tac.globals + n) statics_aligned

  -- where static objects end before the greatest size, all bytes of a literal are in its place
  literal_inside : (n : ℕ) (literal : LiteralDef) → slice_get tac.literals n ≡ Some literal → statics_size tac < greatest → literal_offset tac n + length literal.bytes ≤ statics_size tac
  literal_inside n literal at small =
      let long : length tac.globals ≡ length (map layout_of_global tac.globals) = sym (length-map tac.globals layout_of_global) in
      let number : length tac.globals + n ≡ length (map layout_of_global tac.globals) + n = ap (λ k. k + n) long in
      let own : slice_get (static_layouts tac) (length tac.globals + n) ≡ Some (layout_of_literal literal) =
      read_behind (map layout_of_global tac.globals) (map layout_of_literal tac.literals) n (length tac.globals + n) number ∙ (slice_get-map layout_of_literal tac.literals n ∙ ap (option_map layout_of_literal) at) in
      let inside = object_inside 0 (static_layouts tac) (length tac.globals + n) (layout_of_literal literal) statics_aligned own in
      by (literal_offset tac n) (statics_size tac) inside small
    where
      by : (start end : ℕ) → start + min (1 * suc (length literal.bytes)) (2 ^ 62) ≤ end → end < 2 ^ 62 → start + length literal.bytes ≤ end
      by start end le small = omega (arith, le, small)

-- ---- static objects of a program in memory

pub literal_fits : (tac : memory_tac.Tac) (n : ℕ) (literal : memory_literal.LiteralDef) → n < length tac.literals.items → literal ≡ get_or tac.literals.items n literal → statics_size (tac_of tac) < greatest
    → literal_offset (tac_of tac) n + length literal.bytes ≤ statics_size (tac_of tac)
literal_fits tac n literal lt is small =
    let at = slice_get_read tac.literals.items (length tac.literals.items) n literal refl lt is in
    literal_inside (tac_of tac) n (literal_of literal) (slice_get-map literal_of tac.literals.items n ∙ ap (option_map literal_of) at) small

nothing : {A B : Type 0} (f : A → B) (x : Option A) → option_map f x ≡ None → x ≡ None
nothing f None is = refl
nothing f (Some x) is = absurd (none-some (f x) (sym is))

-- a variable that isn't there is none
pub variable_missing : (tac : memory_tac.Tac) (name : List ℕ) → option_map (λ found. found.0) (named_global 0 (map (global_in tac.types) tac.globals.items) name) ≡ None → static_of (tac_of tac) (StaticVariable name) ≡ None
variable_missing tac name is =
    let none = nothing (λ found. found.0) (named_global 0 (map (global_in tac.types) tac.globals.items) name) is in
    rw none refl

pub variable_found : (tac : memory_tac.Tac) (name : List ℕ) (n : ℕ) (global : memory_global.GlobalDef) (root : Root) → option_map (λ found. found.0) (named_global 0 (map (global_in tac.types) tac.globals.items) name) ≡ Some n
    → n < length tac.globals.items → global ≡ get_or tac.globals.items n global → root.c_type ≡ global.c_type → root.offset ≡ global_offset (tac_of tac) n → statics_size (tac_of tac) ≤ greatest
    → IsRoot tac (static_of (tac_of tac) (StaticVariable name)) (Some root)
variable_found tac name n global root is lt at typed lies small =
    let found = global_named tac.types tac.globals.items name n global is (slice_get_read tac.globals.items (length tac.globals.items) n global refl lt at) in
    let below = global_below (tac_of tac) n in
    let root_is : static_of (tac_of tac) (StaticVariable name) ≡ Some (OfGlobal n, type_in tac.types root.c_type) = rw found (ap (λ t. Some (OfGlobal n, type_in tac.types t)) (sym typed)) in
    (OfGlobal n, root_is, ap (λ o. 4096 + o) lies, omega (arith, below, small, lies))

pub literal_found : (tac : memory_tac.Tac) (place : Pos) (n : ℕ) (literal : memory_literal.LiteralDef) (root : Root) → option_map (λ found. found.0) (placed_literal 0 (map literal_of tac.literals.items) place) ≡ Some n
    → n < length tac.literals.items → literal ≡ get_or tac.literals.items n literal → root.c_type ≡ literal.c_type → root.offset ≡ literal_offset (tac_of tac) n → statics_size (tac_of tac) ≤ greatest
    → LiteralsStand tac.types tac.literals.items → IsRoot tac (static_of (tac_of tac) (StaticLiteral place)) (Some root)
literal_found tac place n literal root is lt at typed lies small stand =
    let here = slice_get_read tac.literals.items (length tac.literals.items) n literal refl lt at in
    let found = literal_placed tac.literals.items place n literal is here in
    let own = literal_typed tac.types tac.literals.items n literal stand here in
    let below = literal_below (tac_of tac) n in
    let root_is : static_of (tac_of tac) (StaticLiteral place) ≡ Some (OfLiteral n, type_in tac.types root.c_type) = rw found (ap (λ t. Some (OfLiteral n, t)) (sym (ap (type_in tac.types) typed ∙ own))) in
    (OfLiteral n, root_is, ap (λ o. 4096 + o) lies, omega (arith, below, small, lies))

-- ---- elements of rows

-- where the places on the way lie before the greatest size, the last does
pub element_fits : (structs : List StructDef) (parts : List Part) (index : ℕ) (inner next : Inner) → PartsFit structs parts index inner → element_in structs inner parts index ≡ Some next → next.offset ≤ greatest
element_fits structs [] index inner next fit is = subst (λ (n : Inner). n.offset ≤ greatest) (same_Some (moved structs index inner) next is) fit
element_fits structs (part ∷ parts) index inner next fit is = by (part_of structs part inner) refl is (λ mid leads e. element_fits structs parts index mid next (fit.1 mid leads) e)
  where
    by : (reached : Option Inner) → part_of structs part inner ≡ reached → element_behind structs index (within reached (parts_of structs parts)) ≡ Some next
        → ((mid : Inner) → part_of structs part inner ≡ Some mid → element_in structs mid parts index ≡ Some next → next.offset ≤ greatest) → next.offset ≤ greatest
    by None leads is rest = absurd (none-some next is)
    by (Some mid) leads is rest = rest mid leads is
