-- What the functions that fill the store before a program runs keep.
use Rattle.std.proofs.Common.{◌≡◌, ℕ, zero, suc, ◌+◌, ◌<◌, Bool, true, false, if◌then◌else◌, List, [], ◌∷◌, ◌++◌, length, get_or, take, drop, map, Option, Some, None, bytes_eq, refl, sym, ap, subst, ◌∙◌, arith, true≢false}
use Rattle.std.proofs.lemmas.List.{take_more, drop_more, map-append}
use Rattle.run_theory.specs.declared.place.Pos.{Pos}
use Rattle.c_typed.specs.declared.definition.GlobalDef as memory_global
use Rattle.c_typed.specs.declared.definition.LiteralDef as memory_literal
use Rattle.c_typed.specs.Types.{CType, Void, literal_type}
use Rattle.c_typed.specs.Typed.{GlobalDef, LiteralDef, Program}
use Rattle.c_typed.specs.Table.{Interned, type_in}
use Rattle.c_typed.specs.DefinitionViews.{global_in, literal_of, all_first, LiteralStands, LiteralsStand}
use Rattle.c_typed.specs.Places.{is_same_place}
use Rattle.ref_semantics.specs.Values.{Name, Heap, GlobalObject, LiteralObject, LocalObject, Row, Scalar, Content, Dead, Raw, Elements, same_name, whole_row}
use Rattle.ref_semantics.specs.Store.{Objects, is_dead, row_of, with_content}
use Rattle.ref_semantics.specs.First.{type_of_global, static_type, literal_at, literal_content, characters, or_void, option_type, first_held, global_content, first_objects}
use Rattle.ref_meaning.specs.declared.object.Content.TheVariants as C
use Rattle.ref_meaning.specs.declared.object.Elements as memory_elements
use Rattle.ref_meaning.specs.Fitting.{ElementsStand}
use Rattle.ref_meaning.proofs.Fitting.{literal_elements}
use Rattle.ref_meaning.specs.RefStore.Holding.{AllHeld, ContentIs, elements}
use Rattle.ref_meaning.specs.Beginning.{unfilled, unfilled_objects}
use Rattle.ref_meaning.specs.Firsts.{unfilled_of, or_content, with_new, IsFirst, AreFirsts, AreCharacters, GlobalFits, GlobalsFit, filled}
use Rattle.ref_meaning.proofs.Names.{same_name-true}

-- ---- what is there, and what isn't

or_dead : (content : Content) → content ≡ or_content content Dead
or_dead Dead = refl
or_dead (Raw size) = refl
or_dead (Elements is_static c_type count held) = refl

module _ (objects : Objects) (name : Name) (content : Content) where
  -- one is added where there is none
  pub new_added : is_dead (objects name) ≡ true → (other : Name) → with_content name content objects other ≡ with_new name content objects other
  new_added none other = by (same_name name other) (objects other) (λ e. sym (ap (λ n. is_dead (objects n)) (same_name-true name other e)) ∙ none)
    where
      by : (b : Bool) (had : Content) → (b ≡ true → is_dead had ≡ true) → (if b then content else had) ≡ or_content had (if b then content else Dead)
      by true Dead h = refl
      by true (Raw size) h = absurd (true≢false (sym (h refl)))
      by true (Elements is_static c_type count held) h = absurd (true≢false (sym (h refl)))
      by false had h = or_dead had

  -- and none where there is one
  pub new_left : is_dead (objects name) ≡ false → (other : Name) → objects other ≡ with_new name content objects other
  new_left there other = by (same_name name other) (objects other) (λ e. sym (ap (λ n. is_dead (objects n)) (same_name-true name other e)) ∙ there)
    where
      by : (b : Bool) (had : Content) → (b ≡ true → is_dead had ≡ false) → had ≡ or_content had (if b then content else Dead)
      by true Dead h = absurd (true≢false (h refl))
      by true (Raw size) h = refl
      by true (Elements is_static c_type count held) h = refl
      by false had h = or_dead had

-- ---- objects without first values

pub mapped_more : {A B : Type 0} (f : A → B) (xs : List A) (n : ℕ) (x : A) → n < length xs → x ≡ get_or xs n x → map f (take n xs) ++ f x ∷ [] ≡ map f (take (n + 1) xs)
mapped_more f xs n x lt at = sym (map-append f (take n xs) (x ∷ [])) ∙ (ap (λ y. map f (take n xs ++ y ∷ [])) at ∙ ap (map f) (sym (take_more xs n x lt)))

global_added : (globals : List GlobalDef) (global : GlobalDef) (name : List ℕ)
    → or_content (unfilled (type_of_global globals name)) (if bytes_eq global.name name then unfilled (Some global.c_type) else Dead) ≡ unfilled (type_of_global (globals ++ global ∷ []) name)
global_added [] global name = by (bytes_eq global.name name)
  where
    by : (b : Bool) → (if b then unfilled (Some global.c_type) else Dead) ≡ unfilled (if b then Some global.c_type else None)
    by true = refl
    by false = refl
global_added (first ∷ others) global name = by (global_added others global name) (bytes_eq first.name name)
  where
    by : or_content (unfilled (type_of_global others name)) (if bytes_eq global.name name then unfilled (Some global.c_type) else Dead) ≡ unfilled (type_of_global (others ++ global ∷ []) name)
        → (b : Bool) → or_content (unfilled (if b then Some first.c_type else type_of_global others name)) (if bytes_eq global.name name then unfilled (Some global.c_type) else Dead)
        ≡ unfilled (if b then Some first.c_type else type_of_global (others ++ global ∷ []) name)
    by more true = refl
    by more false = more

literal_added : (literals : List LiteralDef) (literal : LiteralDef) (place : Pos)
    → or_content (literal_content (literal_at literals place)) (if is_same_place literal.place place then literal_content (Some literal) else Dead) ≡ literal_content (literal_at (literals ++ literal ∷ []) place)
literal_added [] literal place = by (is_same_place literal.place place)
  where
    by : (b : Bool) → (if b then literal_content (Some literal) else Dead) ≡ literal_content (if b then Some literal else None)
    by true = refl
    by false = refl
literal_added (first ∷ others) literal place = by (literal_added others literal place) (is_same_place first.place place)
  where
    by : or_content (literal_content (literal_at others place)) (if is_same_place literal.place place then literal_content (Some literal) else Dead) ≡ literal_content (literal_at (others ++ literal ∷ []) place)
        → (b : Bool) → or_content (literal_content (if b then Some first else literal_at others place)) (if is_same_place literal.place place then literal_content (Some literal) else Dead)
        ≡ literal_content (if b then Some first else literal_at (others ++ literal ∷ []) place)
    by more true = refl
    by more false = more

pub unfilled_global : (globals : List GlobalDef) (global : GlobalDef) (name : Name)
    → with_new (GlobalObject global.name) (unfilled (Some global.c_type)) (unfilled_of globals []) name ≡ unfilled_of (globals ++ global ∷ []) [] name
unfilled_global globals global (Heap number) = refl
unfilled_global globals global (GlobalObject name) = global_added globals global name
unfilled_global globals global (LiteralObject place) = refl
unfilled_global globals global (LocalObject number) = refl

pub unfilled_literal : (globals : List GlobalDef) (literals : List LiteralDef) (literal : LiteralDef) (name : Name)
    → with_new (LiteralObject literal.place) (literal_content (Some literal)) (unfilled_of globals literals) name ≡ unfilled_of globals (literals ++ literal ∷ []) name
unfilled_literal globals literals literal (Heap number) = refl
unfilled_literal globals literals literal (GlobalObject name) = sym (or_dead (unfilled (type_of_global globals name)))
unfilled_literal globals literals literal (LiteralObject place) = literal_added literals literal place
unfilled_literal globals literals literal (LocalObject number) = refl

pub unfilled_none : (name : Name) → Dead ≡ unfilled_of [] [] name
unfilled_none (Heap number) = refl
unfilled_none (GlobalObject name) = refl
unfilled_none (LiteralObject place) = refl
unfilled_none (LocalObject number) = refl

-- ---- the rows of objects

-- one that isn't there is one without a type
abbrev pub static_row : Content → Row
static_row Dead = whole_row Void 1
static_row content = row_of content

variable_row : (c_type : Option CType) → static_row (unfilled c_type) ≡ whole_row (or_void c_type) 1
variable_row (Some c_type) = refl
variable_row None = refl

literal_row : (literal : Option LiteralDef) → static_row (literal_content literal) ≡ whole_row (or_void (option_type literal)) 1
literal_row (Some literal) = refl
literal_row None = refl

pub row_of_static : (program : Program) (name : Name) → static_row (unfilled_objects program name) ≡ whole_row (static_type program name) 1
row_of_static program (Heap number) = refl
row_of_static program (GlobalObject name) = variable_row (type_of_global program.globals name)
row_of_static program (LiteralObject place) = literal_row (literal_at program.literals place)
row_of_static program (LocalObject number) = refl

-- ---- first values

-- elements stand for a row
pub elements_content : (table : Interned) (made : memory_elements.Elements) (is_static : Bool) (c_type : CType) (count : ℕ) (held : ℕ → Option Scalar) → made.is_static ≡ is_static → type_in table made.c_type ≡ c_type → made.count ≡ count
    → ElementsStand table made.c_type made.count → AllHeld table made.held held → ContentIs table (Some (C.Elements made)) (Elements is_static c_type count held)
elements_content table made is_static c_type count held s t n stands all =
    subst (λ content. ContentIs table (Some (C.Elements made)) content) (λ i. Elements (s i) (t i) (n i) held) (elements made held stands all)

pub first_content : (program : Program) (table : Interned) (global : memory_global.GlobalDef) (made : memory_elements.Elements) → ElementsStand table global.c_type 1 → IsFirst program table global made
    → ContentIs table (Some (C.Elements made)) (Elements true (type_in table global.c_type) 1 (first_held program (type_in table global.c_type) (all_first global.first.items)))
first_content program table global made stands is =
    elements_content table made true (type_in table global.c_type) 1 (first_held program (type_in table global.c_type) (all_first global.first.items)) is.is_static (ap (type_in table) is.c_type) is.count
    (subst (ElementsStand table made.c_type) (sym is.count) (subst (λ t. ElementsStand table t 1) (sym is.c_type) stands)) is.held

pub literal_made : (table : Interned) (literal : memory_literal.LiteralDef) (made : memory_elements.Elements) → LiteralStands table literal → AreCharacters table literal made
    → ContentIs table (Some (C.Elements made)) (literal_content (Some (literal_of literal)))
literal_made table literal made stands are =
    elements_content table made true (literal_type literal.bytes) 1 (characters literal.bytes) are.is_static (ap (type_in table) are.c_type ∙ stands.1) are.count
    (subst (ElementsStand table made.c_type) (sym are.count) (subst (λ t. ElementsStand table t 1) (sym are.c_type) (literal_elements table literal.c_type literal.bytes stands.0 stands.1))) are.held

module _ (program : Program) (table : Interned) where
  pub firsts_push : (globals : List memory_global.GlobalDef) (made : List memory_elements.Elements) (global : memory_global.GlobalDef) (last : memory_elements.Elements) → length made < length globals
      → global ≡ get_or globals (length made) global → IsFirst program table global last → AreFirsts program table globals made → AreFirsts program table globals (made ++ last ∷ [])
  firsts_push [] [] global last lt at is all = absurd (omega arith)
  firsts_push [] (first ∷ others) global last lt at is all = absurd (omega arith)
  firsts_push (g ∷ globals) [] global last lt at is all = (subst (λ x. IsFirst program table x last) at is, tt)
  firsts_push (g ∷ globals) (first ∷ others) global last lt at is all = (all.0, firsts_push globals others global last (omega arith) at is all.1)

  pub firsts_pop : (globals : List memory_global.GlobalDef) (made : List memory_elements.Elements) (global : memory_global.GlobalDef) (last : memory_elements.Elements)
      → global ≡ get_or globals (length made) global → AreFirsts program table globals (made ++ last ∷ []) → AreFirsts program table globals made × IsFirst program table global last
  firsts_pop [] [] global last at all = absurd all
  firsts_pop [] (first ∷ others) global last at all = absurd all
  firsts_pop (g ∷ globals) [] global last at all = (tt, subst (λ x. IsFirst program table x last) (sym at) all.0)
  firsts_pop (g ∷ globals) (first ∷ others) global last at all = let rest = firsts_pop globals others global last at all.1 in ((all.0, rest.0), rest.1)

-- each of the variables stands
pub global_fits : (program : Program) (table : Interned) (globals : List memory_global.GlobalDef) (n : ℕ) (global : memory_global.GlobalDef) → GlobalsFit program table globals → n < length globals → global ≡ get_or globals n global
    → GlobalFits program table global
global_fits program table [] n global all lt at = absurd (omega arith)
global_fits program table (g ∷ globals) zero global all lt at = subst (GlobalFits program table) (sym at) all.0
global_fits program table (g ∷ globals) (suc n) global all lt at = global_fits program table globals n global all.1 (omega arith) at

-- and each of the literals
pub literal_stands : (table : Interned) (literals : List memory_literal.LiteralDef) (n : ℕ) (literal : memory_literal.LiteralDef) → LiteralsStand table literals → n < length literals → literal ≡ get_or literals n literal
    → LiteralStands table literal
literal_stands table [] n literal all lt at = absurd (omega arith)
literal_stands table (l ∷ literals) zero literal all lt at = subst (LiteralStands table) (sym at) all.0
literal_stands table (l ∷ literals) (suc n) literal all lt at = literal_stands table literals n literal all.1 (omega arith) at

-- ---- the variables with their first values

module _ (program : Program) where
  filled_outer : (globals : List GlobalDef) (objects : Objects) (name : List ℕ) → (type_of_global globals name ≡ None → objects (GlobalObject name) ≡ Dead) → filled program globals objects (GlobalObject name) ≡ global_content program globals name
  filled_outer [] objects name h = h refl
  filled_outer (first ∷ others) objects name h = by (filled_outer others objects name) (bytes_eq first.name name) h
    where
      by : ((type_of_global others name ≡ None → objects (GlobalObject name) ≡ Dead) → filled program others objects (GlobalObject name) ≡ global_content program others name)
          → (b : Bool) → ((if b then Some first.c_type else type_of_global others name) ≡ None → objects (GlobalObject name) ≡ Dead)
          → (if b then Elements true first.c_type 1 (first_held program first.c_type first.first) else filled program others objects (GlobalObject name))
          ≡ (if b then Elements true first.c_type 1 (first_held program first.c_type first.first) else global_content program others name)
      by more true none = refl
      by more false none = more none

  filled_heap : (globals : List GlobalDef) (objects : Objects) (number : ℕ) → filled program globals objects (Heap number) ≡ objects (Heap number)
  filled_heap [] objects number = refl
  filled_heap (first ∷ others) objects number = filled_heap others objects number

  filled_text : (globals : List GlobalDef) (objects : Objects) (place : Pos) → filled program globals objects (LiteralObject place) ≡ objects (LiteralObject place)
  filled_text [] objects place = refl
  filled_text (first ∷ others) objects place = filled_text others objects place

  filled_own : (globals : List GlobalDef) (objects : Objects) (number : ℕ) → filled program globals objects (LocalObject number) ≡ objects (LocalObject number)
  filled_own [] objects number = refl
  filled_own (first ∷ others) objects number = filled_own others objects number

  pub filled_all : (name : Name) → filled program program.globals (unfilled_objects program) name ≡ first_objects program name
  filled_all (Heap number) = filled_heap program.globals (unfilled_objects program) number
  filled_all (GlobalObject name) = filled_outer program.globals (unfilled_objects program) name (λ none. ap unfilled none)
  filled_all (LiteralObject place) = filled_text program.globals (unfilled_objects program) place
  filled_all (LocalObject number) = filled_own program.globals (unfilled_objects program) number

  -- one more of them
  pub filled_step : (table : Interned) (globals : List memory_global.GlobalDef) (n : ℕ) (global : memory_global.GlobalDef) (objects : Objects) → n < length globals → global ≡ get_or globals n global
      → with_content (GlobalObject global.name) (Elements true (type_in table global.c_type) 1 (first_held program (type_in table global.c_type) (all_first global.first.items))) (filled program (map (global_in table) (drop (n + 1) globals)) objects)
      ≡ filled program (map (global_in table) (drop n globals)) objects
  filled_step table globals n global objects lt at =
      ap (λ (g : memory_global.GlobalDef). filled program (map (global_in table) (g ∷ drop (n + 1) globals)) objects) at
      ∙ ap (λ l. filled program (map (global_in table) l) objects) (sym (drop_more globals n global lt))
