-- The first state of three-address code stands for the first state of the reference.
use Rattle.std.proofs.Common.{◌≡◌, ℕ, zero, suc, ◌+◌, ◌*◌, ◌%◌, ◌<◌, ◌≤◌, ◌==◌, nat_lt, Bool, true, false, not, ◌&&◌, if◌then◌else◌, List, [], ◌∷◌, length, slice_get, Option, Some, None, is_some, bytes_eq, pos, refl, sym, ap, ◌∙◌, subst, arith}
use Rattle.std.proofs.lemmas.Bool.{false≢true, and_parts, ltb-true}
use Rattle.std.proofs.lemmas.Option.{none-some, same_Some}
use Rattle.std.proofs.lemmas.Nat.{mod-mul-add}
use Rattle.std.proofs.lemmas.Slice.Eq.{bytes_eq-Decides}
use Rattle.run_theory.specs.declared.place.Pos.{Pos}
use Rattle.c_num.specs.declared.IntType.TheVariants as I
use Rattle.c_num.specs.Conversion.{convert_to}
use Rattle.c_typed.specs.declared.part.Part.{Part}
use Rattle.c_typed.specs.Types.{CType, Void, Integer, Pointer, Array, Struct, Function, literal_type, is_function}
use Rattle.c_typed.specs.Layouts.{StructDef, is_complete}
use Rattle.c_typed.specs.Places.{is_same_place}
use Rattle.c_typed.specs.Values as first
use Rattle.c_typed.specs.Typed.{GlobalDef, LiteralDef, FunctionDef, Program}
use Rattle.c_typed.specs.Context.{global_type, function_type, literal_bytes}
use Rattle.c_typed.specs.Expressions.{given, is_scalar}
use Rattle.c_typed.specs.Programs.{IsWellTyped, RowType, one_of, row_at, is_place, is_first, is_held, all_held, is_global, are_globals}
use Rattle.c_typed.specs.Programs as rules
use Rattle.ref_semantics.specs.Values as V
use Rattle.ref_semantics.specs.Values.{Name, Heap, GlobalObject, LiteralObject, LocalObject, Scalar, IntegerValue, NullValue, FunctionValue, PointerValue, object_place}
use Rattle.ref_semantics.specs.Store as S
use Rattle.ref_semantics.specs.Store.{scalar_or, offset_of}
use Rattle.ref_semantics.specs.First as R
use Rattle.ref_semantics.specs.First.{around_of, type_of_global, literal_at, name_of, walked, first_place, first_scalar, first_state}
use Rattle.ref_semantics.proofs.Beginning.{if_some}
use Rattle.ref_semantics.proofs.Objects.{same_place-true}
use Rattle.ref_semantics.proofs.WellTyped.{well_globals}
use Rattle.tac_ir.specs.Values.{Object, OfHeap, OfGlobal, OfLiteral, OfActivation, Number, NoAddress, Address, Content, Typed, Objects}
use Rattle.tac_ir.specs.Values as T
use Rattle.tac_ir.specs.Layouts.{leaf_at, size_of}
use Rattle.tac_ir.specs.Code.{Tac}
use Rattle.tac_ir.specs.Code as O
use Rattle.tac_ir.specs.First as C
use Rattle.tac_ir.specs.First.{named_global, named_function, placed_literal, static_of, offset_in, address_of, constant_of, is_at, initial}
use Rattle.tac_build.specs.Code.{function_number}
use Rattle.tac_build.specs.ProgramCode.{Code, FunctionsCode}
use Rattle.tac_simulation.specs.Standing.{Placement, global_object, literal_object, IsAlive, WhereAlive, image, HoldsFor, ContentStands, MemoryStands, StateStands}
use Rattle.tac_simulation.proofs.Parts.{parts_place, walked_stands}
use Rattle.tac_simulation.proofs.Leading.{global_there}

-- ---- names and their numbers

global_least : (globals : List GlobalDef) (from : ℕ) (name : List ℕ) (found : ℕ × GlobalDef) → named_global from globals name ≡ Some found → from ≤ found.0
global_least [] from name found is = absurd (none-some found is)
global_least (first ∷ others) from name found is = by (bytes_eq first.name name) is (global_least others (suc from) name found)
  where
    by : (b : Bool) → (if b then Some (from, first) else named_global (suc from) others name) ≡ Some found → (named_global (suc from) others name ≡ Some found → suc from ≤ found.0) → from ≤ found.0
    by true is rest = let same : from ≡ found.0 = ap (λ (p : ℕ × GlobalDef). p.0) (same_Some (from, first) found is) in omega (arith, same)
    by false is rest = let more = rest is in omega (arith, more)

-- variables of one number have one name
one_global : (globals : List GlobalDef) (from : ℕ) (a b : List ℕ) (found found' : ℕ × GlobalDef) → named_global from globals a ≡ Some found → named_global from globals b ≡ Some found' → found.0 ≡ found'.0 → a ≡ b
one_global [] from a b found found' is is' same = absurd (none-some found is)
one_global (first ∷ others) from a b found found' is is' same = by (bytes_eq first.name a) refl (bytes_eq first.name b) refl is is' (λ is is'. one_global others (suc from) a b found found' is is' same)
  where
    by : (x : Bool) → bytes_eq first.name a ≡ x → (y : Bool) → bytes_eq first.name b ≡ y → (if x then Some (from, first) else named_global (suc from) others a) ≡ Some found
        → (if y then Some (from, first) else named_global (suc from) others b) ≡ Some found' → (named_global (suc from) others a ≡ Some found → named_global (suc from) others b ≡ Some found' → a ≡ b) → a ≡ b
    by true x true y is is' rest = sym ((bytes_eq-Decides first.name a).0 x) ∙ (bytes_eq-Decides first.name b).0 y
    by true x false y is is' rest =
        let number : from ≡ found.0 = ap (λ (p : ℕ × GlobalDef). p.0) (same_Some (from, first) found is) in
        let more = global_least others (suc from) b found' is' in absurd (omega (arith, number, more, same))
    by false x true y is is' rest =
        let number : from ≡ found'.0 = ap (λ (p : ℕ × GlobalDef). p.0) (same_Some (from, first) found' is') in
        let more = global_least others (suc from) a found is in absurd (omega (arith, number, more, same))
    by false x false y is is' rest = rest is is'

literal_least : (literals : List LiteralDef) (from : ℕ) (place : Pos) (found : ℕ × LiteralDef) → placed_literal from literals place ≡ Some found → from ≤ found.0
literal_least [] from place found is = absurd (none-some found is)
literal_least (first ∷ others) from place found is = by (is_same_place first.place place) is (literal_least others (suc from) place found)
  where
    by : (b : Bool) → (if b then Some (from, first) else placed_literal (suc from) others place) ≡ Some found → (placed_literal (suc from) others place ≡ Some found → suc from ≤ found.0) → from ≤ found.0
    by true is rest = let same : from ≡ found.0 = ap (λ (p : ℕ × LiteralDef). p.0) (same_Some (from, first) found is) in omega (arith, same)
    by false is rest = let more = rest is in omega (arith, more)

-- literals of one number have one place
one_literal : (literals : List LiteralDef) (from : ℕ) (a b : Pos) (found found' : ℕ × LiteralDef) → placed_literal from literals a ≡ Some found → placed_literal from literals b ≡ Some found' → found.0 ≡ found'.0 → a ≡ b
one_literal [] from a b found found' is is' same = absurd (none-some found is)
one_literal (first ∷ others) from a b found found' is is' same = by (is_same_place first.place a) refl (is_same_place first.place b) refl is is' (λ is is'. one_literal others (suc from) a b found found' is is' same)
  where
    by : (x : Bool) → is_same_place first.place a ≡ x → (y : Bool) → is_same_place first.place b ≡ y → (if x then Some (from, first) else placed_literal (suc from) others a) ≡ Some found
        → (if y then Some (from, first) else placed_literal (suc from) others b) ≡ Some found' → (placed_literal (suc from) others a ≡ Some found → placed_literal (suc from) others b ≡ Some found' → a ≡ b) → a ≡ b
    by true x true y is is' rest = sym (same_place-true first.place a x) ∙ same_place-true first.place b y
    by true x false y is is' rest =
        let number : from ≡ found.0 = ap (λ (p : ℕ × LiteralDef). p.0) (same_Some (from, first) found is) in
        let more = literal_least others (suc from) b found' is' in absurd (omega (arith, number, more, same))
    by false x true y is is' rest =
        let number : from ≡ found'.0 = ap (λ (p : ℕ × LiteralDef). p.0) (same_Some (from, first) found' is') in
        let more = literal_least others (suc from) a found is in absurd (omega (arith, number, more, same))
    by false x false y is is' rest = rest is is'

-- ---- what is found by a name

-- a variable that has a type has a number, and the reference knows its type
global_known : (globals : List GlobalDef) (from : ℕ) (name : List ℕ) (t : CType) → global_type globals name ≡ Some t
    → (found : ℕ × GlobalDef) × (named_global from globals name ≡ Some found) × (found.1.c_type ≡ t) × (type_of_global globals name ≡ Some t)
global_known [] from name t is = absurd (none-some t is)
global_known (first ∷ others) from name t is = by (bytes_eq first.name name) is (global_known others (suc from) name t)
  where
    by : (b : Bool) → (if b then Some first.c_type else global_type others name) ≡ Some t
        → (global_type others name ≡ Some t → (found : ℕ × GlobalDef) × (named_global (suc from) others name ≡ Some found) × (found.1.c_type ≡ t) × (type_of_global others name ≡ Some t))
        → (found : ℕ × GlobalDef) × ((if b then Some (from, first) else named_global (suc from) others name) ≡ Some found) × (found.1.c_type ≡ t)
        × ((if b then Some first.c_type else type_of_global others name) ≡ Some t)
    by true is rest = ((from, first), refl, same_Some first.c_type t is, is)
    by false is rest = rest is

literal_known : (literals : List LiteralDef) (from : ℕ) (place : Pos) (bytes : List ℕ) → literal_bytes literals place ≡ Some bytes
    → (found : ℕ × LiteralDef) × (placed_literal from literals place ≡ Some found) × (found.1.bytes ≡ bytes) × (literal_at literals place ≡ Some found.1)
literal_known [] from place bytes is = absurd (none-some bytes is)
literal_known (first ∷ others) from place bytes is = by (is_same_place first.place place) is (literal_known others (suc from) place bytes)
  where
    by : (b : Bool) → (if b then Some first.bytes else literal_bytes others place) ≡ Some bytes
        → (literal_bytes others place ≡ Some bytes → (found : ℕ × LiteralDef) × (placed_literal (suc from) others place ≡ Some found) × (found.1.bytes ≡ bytes) × (literal_at others place ≡ Some found.1))
        → (found : ℕ × LiteralDef) × ((if b then Some (from, first) else placed_literal (suc from) others place) ≡ Some found) × (found.1.bytes ≡ bytes)
        × ((if b then Some first else literal_at others place) ≡ Some found.1)
    by true is rest = ((from, first), refl, same_Some first.bytes bytes is, refl)
    by false is rest = rest is

literal_found : (literals : List LiteralDef) (from : ℕ) (place : Pos) (found : ℕ × LiteralDef) → placed_literal from literals place ≡ Some found
    → (k : ℕ) × (found.0 ≡ from + k) × (slice_get literals k ≡ Some found.1) × (literal_at literals place ≡ Some found.1)
literal_found [] from place found is = absurd (none-some found is)
literal_found (first ∷ others) from place found is = by (is_same_place first.place place) is (literal_found others (suc from) place found)
  where
    by : (b : Bool) → (if b then Some (from, first) else placed_literal (suc from) others place) ≡ Some found
        → (placed_literal (suc from) others place ≡ Some found → (k : ℕ) × (found.0 ≡ suc from + k) × (slice_get others k ≡ Some found.1) × (literal_at others place ≡ Some found.1))
        → (k : ℕ) × (found.0 ≡ from + k) × (slice_get (first ∷ others) k ≡ Some found.1) × ((if b then Some first else literal_at others place) ≡ Some found.1)
    by true is rest =
        let same = same_Some (from, first) found is in
        let number : from ≡ found.0 = ap (λ (p : ℕ × LiteralDef). p.0) same in
        (0, omega (arith, number), ap (λ (p : ℕ × LiteralDef). Some p.1) same, ap (λ (p : ℕ × LiteralDef). Some p.1) same)
    by false is rest = let more = rest is in let number = more.1 in (suc more.0, omega (arith, number), more.2, more.3)

function_known : (functions : List FunctionDef) (from : ℕ) (name : List ℕ) → is_some (function_type functions name) ≡ true → (number : ℕ) × (function_number from functions name ≡ Some number)
function_known [] from name is = absurd (false≢true is)
function_known (first ∷ others) from name is = by (bytes_eq first.name name) is (function_known others (suc from) name)
  where
    by : (b : Bool) → is_some (if b then Some first.c_type else function_type others name) ≡ true → (is_some (function_type others name) ≡ true → (number : ℕ) × (function_number (suc from) others name ≡ Some number))
        → (number : ℕ) × ((if b then Some from else function_number (suc from) others name) ≡ Some number)
    by true is rest = (from, refl)
    by false is rest = rest is

-- functions have the same numbers on both sides
same_function : (program : Program) (defs : List FunctionDef) (functions : List O.Function) → FunctionsCode program defs functions → (from : ℕ) (name : List ℕ)
    → named_function from functions name ≡ function_number from defs name
same_function program [] [] code from name = refl
same_function program (def ∷ defs) (function ∷ functions) code from name =
    let rest = same_function program defs functions code.1 (suc from) name in
    let own = code.0.name in
    λ i. if bytes_eq (own i) name then Some from else rest i
same_function program [] (function ∷ functions) code from name = absurd code
same_function program (def ∷ defs) [] code from name = absurd code

-- ---- scalars of literals

literal_leaf : (structs : List StructDef) (n offset : ℕ) (own : CType) → leaf_at structs (Array (Integer I.Char) (suc n)) 1 offset ≡ Some own → (offset ≤ n) × (Integer I.Char ≡ own)
literal_leaf structs n offset own is =
    let size = size_of structs (Array (Integer I.Char) (suc n)) in
    let whole = if_some (nat_lt offset (1 * size)) _ own is in
    let inner = if_some (nat_lt (offset % size) (suc n * 1)) _ own whole.1 in
    let char = if_some _ (Some (Integer I.Char)) own inner.1 in
    let below = ltb-true offset (1 * size) whole.0 in
    let below' = ltb-true (offset % size) (suc n * 1) inner.0 in
    let least : offset < size = omega (arith, below) in
    let alike : offset ≡ 0 * size + offset = omega arith in
    let same : offset % size ≡ offset = ap (λ n. n % size) alike ∙ mod-mul-add 0 size offset least in
    (omega (arith, below', same), same_Some (Integer I.Char) own char.1)

module _ (program : Program) (objects : S.Objects) (placement : Placement) where
  characters_stand : (bytes : List ℕ) (offset : ℕ) (scalar : Scalar) → offset ≤ length bytes → scalar_or (R.characters bytes offset) true (Integer I.Char) ≡ Some scalar
      → HoldsFor program objects placement scalar (C.characters bytes offset)
  characters_stand [] zero scalar le is = subst (λ v. HoldsFor program objects placement v (Some (Number (pos 0)))) (same_Some (IntegerValue (pos 0)) scalar is) (Number (pos 0), refl, refl)
  characters_stand [] (suc offset) scalar le is = absurd (omega (arith, le))
  characters_stand (byte ∷ bytes) zero scalar le is =
      let z = convert_to I.Char (pos byte) in
      subst (λ v. HoldsFor program objects placement v (Some (Number z))) (same_Some (IntegerValue z) scalar is) (Number z, refl, refl)
  characters_stand (byte ∷ bytes) (suc offset) scalar le is = characters_stand bytes offset scalar (omega (arith, le)) is

  literal_stands : (bytes : List ℕ) → ContentStands program objects placement (V.Elements true (literal_type bytes) 1 (R.characters bytes)) (Typed (literal_type bytes) 1 (C.characters bytes))
  literal_stands bytes = (
    C.characters bytes,
    refl,
    λ offset own scalar leaf is.
        let at = literal_leaf program.structs (length bytes) offset own leaf in
        characters_stand bytes offset scalar at.0 (subst (λ t. scalar_or (R.characters bytes offset) true t ≡ Some scalar) (sym at.1) is),
  )

  cleared_stands : (own : CType) → HoldsFor program objects placement (S.cleared own) (C.cleared (Some own))
  cleared_stands Void = (NoAddress, refl, refl)
  cleared_stands (Integer int_type) = (Number (pos 0), refl, refl)
  cleared_stands (Pointer target) = (NoAddress, refl, refl)
  cleared_stands (Array element n) = (NoAddress, refl, refl)
  cleared_stands (Struct tag) = (NoAddress, refl, refl)
  cleared_stands (Function result parameters) = (NoAddress, refl, refl)

-- ---- code with the program's structures and objects

abbrev no_object : Placement
no_object number = None

always : {A : Type 0} (content : V.Content) → A → WhereAlive content A
always V.Dead a = tt
always (V.Raw size) a = a
always (V.Elements is_static c_type count held) a = a

module _ (program : Program) (well : IsWellTyped program) (functions : List O.Function) (start : O.Function) (coded : FunctionsCode program program.functions functions) where
  abbrev tac : Tac
  tac = record { structs = program.structs; globals = program.globals; literals = program.literals; functions = functions; start = start }

  abbrev objects : S.Objects
  objects = R.first_objects program

  offset_found : (name : Name) (c_type : CType) (steps : List Part) (row : RowType) (index : ℕ) → row_at program.structs (one_of c_type) steps ≡ Some row
      → offset_in tac c_type steps index ≡ Some (offset_of (around_of program) (walked (around_of program) (object_place name c_type) steps index))
  offset_found name c_type steps row index is =
      let at = parts_place (around_of program) steps name c_type row is index in
      rw at.1 (ap Some at.2)

  -- ---- first values

  -- the object of a constant's root
  record Root (root : first.Static) (t : CType) : Type 0 where
    object : Object
    found : static_of tac root ≡ Some (object, t)
    is_image : image program no_object (name_of root) ≡ Some object
    typed : R.static_type program (name_of root) ≡ t

  root_found : (root : first.Static) (t : CType) → rules.static_type program root ≡ Some t → Root root t
  root_found (first.StaticVariable name) t is =
      let known = global_known program.globals 0 name t is in
      record {
        object = OfGlobal known.0.0;
        found = rw known.1 (ap (λ c. Some (OfGlobal known.0.0, c)) known.2);
        is_image = ap global_object known.1;
        typed = ap R.or_void known.3;
      }
  root_found (first.StaticLiteral place) t is = by (literal_bytes program.literals place) refl is
    where
      by : (listed : Option (List ℕ)) → literal_bytes program.literals place ≡ listed → given listed (λ bytes. Some (literal_type bytes)) ≡ Some t → Root (first.StaticLiteral place) t
      by None at is = absurd (none-some t is)
      by (Some bytes) at is =
          let known = literal_known program.literals 0 place bytes at in
          let type_is : literal_type known.0.1.bytes ≡ t = ap literal_type known.2 ∙ same_Some (literal_type bytes) t is in
          record {
            object = OfLiteral known.0.0;
            found = rw known.1 (ap (λ c. Some (OfLiteral known.0.0, c)) type_is);
            is_image = ap literal_object known.1;
            typed = ap (λ l. R.or_void (R.option_type l)) known.3 ∙ type_is;
          }

  row_of_place : (target : CType) (place : first.FirstPlace) → is_place program target place ≡ true
      → (t : CType) × (row : RowType) × (rules.static_type program place.root ≡ Some t) × (row_at program.structs (one_of t) place.steps ≡ Some row)
  row_of_place target place h = by_type (rules.static_type program place.root) refl
    where
      by_row : (t : CType) → rules.static_type program place.root ≡ Some t → (known : Option RowType) → row_at program.structs (one_of t) place.steps ≡ known
          → given (rules.static_type program place.root) (λ c_type. row_at program.structs (one_of c_type) place.steps) ≡ known
          → (t : CType) × (row : RowType) × (rules.static_type program place.root ≡ Some t) × (row_at program.structs (one_of t) place.steps ≡ Some row)
      by_row t root None at is = absurd (false≢true (rw is at h))
      by_row t root (Some row) at is = (t, row, root, at)

      by_type : (known : Option CType) → rules.static_type program place.root ≡ known
          → (t : CType) × (row : RowType) × (rules.static_type program place.root ≡ Some t) × (row_at program.structs (one_of t) place.steps ≡ Some row)
      by_type None root = absurd (false≢true (rw (ap (λ known. given known (λ c_type. row_at program.structs (one_of c_type) place.steps)) root) at h))
      by_type (Some t) root = by_row t root (row_at program.structs (one_of t) place.steps) refl (ap (λ known. given known (λ c_type. row_at program.structs (one_of c_type) place.steps)) root)

  pointer_stands : (target : CType) (place : first.FirstPlace) → is_place program target place ≡ true → HoldsFor program objects no_object (PointerValue (first_place program place)) (address_of tac place)
  pointer_stands target place h =
      let parts = row_of_place target place h in
      let t = parts.0 in
      let row = parts.1 in
      let root = root_found place.root t parts.2 in
      let name = name_of place.root in
      let offset = offset_of (around_of program) (walked (around_of program) (object_place name t) place.steps place.index) in
      let found = offset_found name t place.steps row place.index parts.3 in
      let stands = walked_stands program t name place.steps row place.index parts.3 in
      let value : address_of tac place ≡ Some (Address root.object offset) = rw root.found (rw found refl) in
      subst (λ c. HoldsFor program objects no_object (PointerValue (walked (around_of program) (object_place name c) place.steps place.index)) (address_of tac place)) (sym root.typed) (
        Address root.object offset,
        value,
        (
          tt,
          always (objects (walked (around_of program) (object_place name t) place.steps place.index).name)
              (root.object, offset, (ap (image program no_object) stands.named ∙ root.is_image, refl), refl),
        ),
      )

  value_stands : (t : CType) (value : first.FirstScalar) → is_scalar t ≡ true → is_first program t value ≡ true → HoldsFor program objects no_object (first_scalar program value) (constant_of tac value)
  value_stands (Integer int_type) (first.IntegerValue z) s h = (Number z, refl, refl)
  value_stands (Pointer target) first.NullValue s h = (NoAddress, refl, refl)
  value_stands (Pointer target) (first.FunctionValue name) s h =
      let parts = and_parts (is_function target) (is_some (function_type program.functions name)) h in
      let known = function_known program.functions 0 name parts.1 in
      let named : named_function 0 functions name ≡ Some known.0 = same_function program program.functions functions coded 0 name ∙ known.1 in
      (T.Code known.0, rw named refl, (known.0, known.1, refl))
  value_stands (Pointer target) (first.PointerValue place) s h =
      let parts = and_parts (not (is_function target)) (is_place program target place) h in
      pointer_stands target place parts.1
  value_stands Void value s h = absurd (false≢true s)
  value_stands (Integer int_type) first.NullValue s h = absurd (false≢true h)
  value_stands (Integer int_type) (first.FunctionValue name) s h = absurd (false≢true h)
  value_stands (Integer int_type) (first.PointerValue place) s h = absurd (false≢true h)
  value_stands (Pointer target) (first.IntegerValue z) s h = absurd (false≢true h)
  value_stands (Array element n) value s h = absurd (false≢true s)
  value_stands (Struct tag) value s h = absurd (false≢true s)
  value_stands (Function result parameters) value s h = absurd (false≢true s)

  -- ---- what variables hold

  -- a first value stands at the same offset on both sides
  record First (c_type : CType) (one : first.Held) : Type 0 where
    offset : offset_in tac c_type one.leaf.steps one.leaf.index ≡ Some (offset_of (around_of program) (walked (around_of program) (object_place (Heap 0) c_type) one.leaf.steps one.leaf.index))
    holds : HoldsFor program objects no_object (first_scalar program one.value) (constant_of tac one.value)

  first_found : (c_type : CType) (one : first.Held) → is_held program c_type one ≡ true → First c_type one
  first_found c_type one h = by (row_at program.structs (one_of c_type) one.leaf.steps) refl
    where
      by : (known : Option RowType) → row_at program.structs (one_of c_type) one.leaf.steps ≡ known → First c_type one
      by None at = absurd (false≢true (rw at at h))
      by (Some row) at =
          let outer = and_parts (nat_lt one.leaf.index row.count && is_scalar row.element) (is_first program row.element one.value) (rw at at h) in
          let inner = and_parts (nat_lt one.leaf.index row.count) (is_scalar row.element) outer.0 in
          record { offset = offset_found (Heap 0) c_type one.leaf.steps row one.leaf.index at; holds = value_stands row.element one.value inner.1 outer.1 }

  held_stands : (c_type : CType) (all : List first.Held) → all_held program c_type all ≡ true → (offset : ℕ) (own : CType) (scalar : Scalar) → leaf_at program.structs c_type 1 offset ≡ Some own
      → scalar_or (R.first_held program c_type all offset) true own ≡ Some scalar → HoldsFor program objects no_object scalar (C.first_held tac c_type all offset)
  held_stands c_type [] h offset own scalar leaf is =
      subst (λ found. HoldsFor program objects no_object scalar (C.cleared found)) (sym leaf)
      (subst (λ v. HoldsFor program objects no_object v (C.cleared (Some own))) (same_Some (S.cleared own) scalar is) (cleared_stands program objects no_object own))
  held_stands c_type (one ∷ others) h offset own scalar leaf is =
      let parts = and_parts (is_held program c_type one) (all_held program c_type others) h in
      let here = first_found c_type one parts.0 in
      let other = offset_of (around_of program) (walked (around_of program) (object_place (Heap 0) c_type) one.leaf.steps one.leaf.index) in
      subst (λ b. HoldsFor program objects no_object scalar (if b then constant_of tac one.value else C.first_held tac c_type others offset)) (sym (ap (is_at offset) here.offset))
      (by (other == offset) here.holds is (held_stands c_type others parts.1 offset own scalar leaf))
    where
      by : (b : Bool) → HoldsFor program objects no_object (first_scalar program one.value) (constant_of tac one.value)
          → scalar_or (if b then Some (first_scalar program one.value) else R.first_held program c_type others offset) true own ≡ Some scalar
          → (scalar_or (R.first_held program c_type others offset) true own ≡ Some scalar → HoldsFor program objects no_object scalar (C.first_held tac c_type others offset))
          → HoldsFor program objects no_object scalar (if b then constant_of tac one.value else C.first_held tac c_type others offset)
      by true here is rest = subst (λ v. HoldsFor program objects no_object v (constant_of tac one.value)) (same_Some (first_scalar program one.value) scalar is) here
      by false here is rest = rest is

  global_held : (globals : List GlobalDef) (from : ℕ) (name : List ℕ) (found : ℕ × GlobalDef) → are_globals program globals ≡ true → named_global from globals name ≡ Some found
      → (all_held program found.1.c_type found.1.first ≡ true) × (R.global_content program globals name ≡ V.Elements true found.1.c_type 1 (R.first_held program found.1.c_type found.1.first))
  global_held [] from name found h is = absurd (none-some found is)
  global_held (first ∷ others) from name found h is =
      let parts = and_parts (is_global program first) (are_globals program others) h in
      by (bytes_eq first.name name) (and_parts (is_complete program.structs first.c_type) (all_held program first.c_type first.first) parts.0).1 is (global_held others (suc from) name found parts.1)
    where
      by : (b : Bool) → all_held program first.c_type first.first ≡ true → (if b then Some (from, first) else named_global (suc from) others name) ≡ Some found
          → (named_global (suc from) others name ≡ Some found → (all_held program found.1.c_type found.1.first ≡ true) × (R.global_content program others name ≡ V.Elements true found.1.c_type 1 (R.first_held program found.1.c_type found.1.first)))
          → (all_held program found.1.c_type found.1.first ≡ true)
          × ((if b then V.Elements true first.c_type 1 (R.first_held program first.c_type first.first) else R.global_content program others name) ≡ V.Elements true found.1.c_type 1 (R.first_held program found.1.c_type found.1.first))
      by true own is rest =
          let same = ap (λ (p : ℕ × GlobalDef). p.1) (same_Some (from, first) found is) in
          (subst (λ (g : GlobalDef). all_held program g.c_type g.first ≡ true) same own, ap (λ (g : GlobalDef). V.Elements true g.c_type 1 (R.first_held program g.c_type g.first)) same)
      by false own is rest = rest is

  -- ---- contents

  global_contents : (name : List ℕ) (object : Object) → image program no_object (GlobalObject name) ≡ Some object → ContentStands program objects no_object (objects (GlobalObject name)) (C.first_objects tac object)
  global_contents name object is = by (named_global 0 program.globals name) refl is
    where
      by : (found : Option (ℕ × GlobalDef)) → named_global 0 program.globals name ≡ found → global_object found ≡ Some object → ContentStands program objects no_object (objects (GlobalObject name)) (C.first_objects tac object)
      by None at is = absurd (none-some object is)
      by (Some found) at is =
          let held = global_held program.globals 0 name found (well_globals program well) at in
          let there = global_there program.globals name found.0 found.1 at in
          subst (λ o. ContentStands program objects no_object (objects (GlobalObject name)) (C.first_objects tac o)) (same_Some (OfGlobal found.0) object is)
          (subst (λ content. ContentStands program objects no_object content (C.first_objects tac (OfGlobal found.0))) (sym held.1)
          (subst (λ content. ContentStands program objects no_object (V.Elements true found.1.c_type 1 (R.first_held program found.1.c_type found.1.first)) content) (sym (ap (C.global_content tac) there))
          (C.first_held tac found.1.c_type found.1.first, refl, held_stands found.1.c_type found.1.first held.0)))

  literal_contents : (place : Pos) (object : Object) → image program no_object (LiteralObject place) ≡ Some object → ContentStands program objects no_object (objects (LiteralObject place)) (C.first_objects tac object)
  literal_contents place object is = by (placed_literal 0 program.literals place) refl is
    where
      by : (found : Option (ℕ × LiteralDef)) → placed_literal 0 program.literals place ≡ found → literal_object found ≡ Some object → ContentStands program objects no_object (objects (LiteralObject place)) (C.first_objects tac object)
      by None at is = absurd (none-some object is)
      by (Some found) at is =
          let known = literal_found program.literals 0 place found at in
          let number = known.1 in
          let same : known.0 ≡ found.0 = omega (arith, number) in
          let there = subst (λ k. slice_get program.literals k ≡ Some found.1) same known.2 in
          subst (λ o. ContentStands program objects no_object (objects (LiteralObject place)) (C.first_objects tac o)) (same_Some (OfLiteral found.0) object is)
          (subst (λ content. ContentStands program objects no_object content (C.first_objects tac (OfLiteral found.0))) (sym (ap R.literal_content known.3))
          (subst (λ content. ContentStands program objects no_object (V.Elements true (literal_type found.1.bytes) 1 (R.characters found.1.bytes)) content) (sym (ap C.literal_content there))
          (literal_stands program objects no_object found.1.bytes)))

  all_contents : (name : Name) (object : Object) → image program no_object name ≡ Some object → ContentStands program objects no_object (objects name) (C.first_objects tac object)
  all_contents (Heap number) object is = tt
  all_contents (LocalObject number) object is = tt
  all_contents (GlobalObject name) object is = global_contents name object is
  all_contents (LiteralObject place) object is = literal_contents place object is

  -- ---- different names have different objects

  abbrev number_of : Object → ℕ
  number_of (OfHeap number) = number
  number_of (OfGlobal number) = number
  number_of (OfLiteral number) = number
  number_of (OfActivation activation local) = activation

  abbrev is_of_global : Object → Bool
  is_of_global (OfGlobal number) = true
  is_of_global _ = false

  global_image : (name : List ℕ) (object : Object) → image program no_object (GlobalObject name) ≡ Some object
      → (found : ℕ × GlobalDef) × (named_global 0 program.globals name ≡ Some found) × (OfGlobal found.0 ≡ object)
  global_image name object is = by (named_global 0 program.globals name) refl is
    where
      by : (found : Option (ℕ × GlobalDef)) → named_global 0 program.globals name ≡ found → global_object found ≡ Some object → (found : ℕ × GlobalDef) × (named_global 0 program.globals name ≡ Some found) × (OfGlobal found.0 ≡ object)
      by None at is = absurd (none-some object is)
      by (Some found) at is = (found, at, same_Some (OfGlobal found.0) object is)

  literal_image : (place : Pos) (object : Object) → image program no_object (LiteralObject place) ≡ Some object
      → (found : ℕ × LiteralDef) × (placed_literal 0 program.literals place ≡ Some found) × (OfLiteral found.0 ≡ object)
  literal_image place object is = by (placed_literal 0 program.literals place) refl is
    where
      by : (found : Option (ℕ × LiteralDef)) → placed_literal 0 program.literals place ≡ found → literal_object found ≡ Some object → (found : ℕ × LiteralDef) × (placed_literal 0 program.literals place ≡ Some found) × (OfLiteral found.0 ≡ object)
      by None at is = absurd (none-some object is)
      by (Some found) at is = (found, at, same_Some (OfLiteral found.0) object is)

  no_both : (name : List ℕ) (place : Pos) (object : Object) → image program no_object (GlobalObject name) ≡ Some object → image program no_object (LiteralObject place) ≡ Some object → ⊥
  no_both name place object is is' =
      let global = global_image name object is in
      let literal = literal_image place object is' in
      false≢true (ap is_of_global (literal.2 ∙ sym global.2))

  all_apart : (name other : Name) (object : Object) → IsAlive (objects name) → IsAlive (objects other) → image program no_object name ≡ Some object → image program no_object other ≡ Some object → name ≡ other
  all_apart (Heap number) other object lives lives' is is' = absurd lives
  all_apart (LocalObject number) other object lives lives' is is' = absurd lives
  all_apart (GlobalObject a) (Heap number) object lives lives' is is' = absurd lives'
  all_apart (GlobalObject a) (LocalObject number) object lives lives' is is' = absurd lives'
  all_apart (LiteralObject a) (Heap number) object lives lives' is is' = absurd lives'
  all_apart (LiteralObject a) (LocalObject number) object lives lives' is is' = absurd lives'
  all_apart (GlobalObject a) (LiteralObject b) object lives lives' is is' = absurd (no_both a b object is is')
  all_apart (LiteralObject a) (GlobalObject b) object lives lives' is is' = absurd (no_both b a object is' is)
  all_apart (GlobalObject a) (GlobalObject b) object lives lives' is is' =
      let one = global_image a object is in
      let other = global_image b object is' in
      ap GlobalObject (one_global program.globals 0 a b one.0 other.0 one.1 other.1 (ap number_of (one.2 ∙ sym other.2)))
  all_apart (LiteralObject a) (LiteralObject b) object lives lives' is is' =
      let one = literal_image a object is in
      let other = literal_image b object is' in
      ap LiteralObject (one_literal program.literals 0 a b one.0 other.0 one.1 other.1 (ap number_of (one.2 ∙ sym other.2)))

  all_stands : MemoryStands program no_object objects (C.first_objects tac)
  all_stands = record { contents = all_contents; apart = all_apart }

-- ---- the first state

-- objects that live as long as the program stand for those of the reference
pub first_memory : (program : Program) (tac : Tac) → Code program tac → IsWellTyped program → MemoryStands program (λ number. None) (R.first_objects program) (C.first_objects tac)
first_memory program tac code well =
    let structs = sym code.structs in
    let globals = sym code.globals in
    let literals = sym code.literals in
    let same : record { structs = program.structs; globals = program.globals; literals = program.literals; functions = tac.functions; start = tac.start } ≡ tac =
    λ i. record { structs = structs i; globals = globals i; literals = literals i; functions = tac.functions; start = tac.start } in
    subst (λ (t : Tac). MemoryStands program (λ number. None) (R.first_objects program) (C.first_objects t)) same (all_stands program well tac.functions tac.start code.functions)

pub first_stands : (program : Program) (tac : Tac) → Code program tac → IsWellTyped program → (input : List ℕ) (units : ℕ)
    → StateStands program (λ number. None) (λ number. None) (first_state program input units) (initial tac input)
first_stands program tac code well input units = record {
  input = refl;
  heap = refl;
  trace = refl;
  memory = first_memory program tac code well;
  placed = λ number object is. absurd (none-some object is);
  unchanged = λ number content is. absurd (none-some content is);
}
