-- The structures of a program within the limits have few slots: each is among the types that the text names.
use Rattle.std.proofs.Common.{◌≡◌, ℕ, ◌≤◌, ◌<◌, ltb-false, nat_lt, Bool, true, false, List, [], ◌∷◌, ◌++◌, map, Option, Some, None, refl, sym, subst, ◌∙◌, arith}
use Rattle.std.specs.Prelude.{if◌then◌else◌}
use Rattle.std.specs.List.{AllByRecursion}
use Rattle.std.proofs.lemmas.Option.{none-some}
use Rattle.run_theory.specs.declared.place.Pos.{Pos}
use Rattle.c_syntax.specs.Trees
use Rattle.c_syntax.specs.Trees.{NameTree, DeclaratorTree, InitDeclaratorTree, BlockTree, BaseTree, ItemTree, ProgramTree}
use Rattle.c_typed.specs.Types.{CType, Void, Integer, Pointer, Array, Struct, Function}
use Rattle.c_typed.specs.Layouts.{StructDef, Table, layouts, layout_of, greatest, members_by_tag}
use Rattle.c_typed.specs.Typed.{Program}
use Rattle.c_rules.specs.Known.{is_before}
use Rattle.c_rules.specs.Names.{Scope}
use Rattle.c_rules.specs.Expressions.{declared_name}
use Rattle.c_rules.specs.Programs.{is_completed_before, all_members, base_type, base_place, file_declarator, file_declarators, function_item, outermost, item}
use Rattle.c_rules.specs.Elaborated.{all_structs, typed_of}
use Rattle.c_rules.specs.Named.{NamedType, named_at}
use Rattle.c_rules.specs.NamedItems.{named_in_all_members, named_in_base, named_in_file_declarators, named_in_function, named_in_item, named_in_items, named_types}
use Rattle.c_types.specs.declared.limits.Limit.{Limit}
use Rattle.c_types.specs.declared.limits.Limit.TheVariants.{L1, L2, L3}
use Rattle.c_types.specs.declared.limits.LimitErr.{LimitErr}
use Rattle.c_types.specs.Limits.{first_above, parts, parts_of_each, slots_of, Excess, excess_at, excesses, earliest, first_excess, excess_count, exceeds, exceeded}

-- ---- no limit is exceeded

none_exceeded : (limit : Limit) (found : Option ℕ) (others : Option LimitErr) → exceeds limit found others ≡ None → (found ≡ None) × (others ≡ None)
none_exceeded limit None others e = (refl, e)
none_exceeded limit (Some n) others e = absurd (none-some (record { which = limit; count = n }) (sym e))

none_counted : (excess : Option Excess) → excess_count excess ≡ None → excess ≡ None
none_counted None e = refl
none_counted (Some excess) e = absurd (none-some excess.count (sym e))

stays_some : (first : Excess) (others : List Excess) → earliest (Some first) others ≡ None → ⊥
stays_some first [] e = none-some first (sym e)
stays_some first (excess ∷ others) e = by (λ one. stays_some one others) (is_before excess.place first.place) e
  where
    by : ((one : Excess) → earliest (Some one) others ≡ None → ⊥) → (b : Bool) → earliest (if b then Some excess else Some first) others ≡ None → ⊥
    by rest true h = rest excess h
    by rest false h = rest first h

-- ---- types

module _ (table : Table) where
  first_few : (c_type : CType) (others : List CType) → first_above 1024 (map (slots_of table) (c_type ∷ others)) ≡ None → slots_of table c_type ≤ 1024
  first_few c_type others none = by (first_above 1024 (map (slots_of table) others)) (nat_lt 1024 (slots_of table c_type)) refl none
    where
      by : (rest : Option ℕ) (b : Bool) → nat_lt 1024 (slots_of table c_type) ≡ b → (if b then Some (slots_of table c_type) else rest) ≡ None → slots_of table c_type ≤ 1024
      by rest true is e = absurd (none-some (slots_of table c_type) (sym e))
      by rest false is e = ltb-false 1024 (slots_of table c_type) is

  -- a type is the first of its parts
  few_parts : (c_type : CType) → first_above 1024 (map (slots_of table) (parts c_type)) ≡ None → slots_of table c_type ≤ 1024
  few_parts Void none = first_few Void [] none
  few_parts (Integer int_type) none = first_few (Integer int_type) [] none
  few_parts (Pointer target) none = first_few (Pointer target) (parts target) none
  few_parts (Array element n) none = first_few (Array element n) (parts element) none
  few_parts (Struct tag) none = first_few (Struct tag) [] none
  few_parts (Function result parameters) none = first_few (Function result parameters) (parts result ++ parts_of_each parameters) none

  abbrev AllFew : List NamedType → Type 0
  AllFew named = AllByRecursion (λ (one : NamedType). slots_of table one.c_type ≤ 1024) named

  few_found : (named : List NamedType) → earliest None (excesses (slots_of table) 1024 named) ≡ None → AllFew named
  few_found [] none = tt
  few_found (first ∷ others) none = by (few_parts first.c_type) (few_found others) (first_above 1024 (map (slots_of table) (parts first.c_type))) refl none
    where
      by : (first_above 1024 (map (slots_of table) (parts first.c_type)) ≡ None → slots_of table first.c_type ≤ 1024) → (earliest None (excesses (slots_of table) 1024 others) ≡ None → AllFew others) → (found : Option ℕ)
          → first_above 1024 (map (slots_of table) (parts first.c_type)) ≡ found → earliest None (excess_at first.place found ++ excesses (slots_of table) 1024 others) ≡ None → AllFew (first ∷ others)
      by own rest None is e = (own is, rest e)
      by own rest (Some n) is e = absurd (stays_some (record { place = first.place; count = n }) (excesses (slots_of table) 1024 others) e)

  front_of : (front back : List NamedType) → AllFew (front ++ back) → AllFew front
  front_of [] back all = tt
  front_of (first ∷ front) back all = (all.0, front_of front back all.1)

  back_of : (front back : List NamedType) → AllFew (front ++ back) → AllFew back
  back_of [] back all = all
  back_of (first ∷ front) back all = back_of front back all.1

  -- ---- structures

  abbrev AreFew : List StructDef → Type 0
  AreFew structs = AllByRecursion (λ (one : StructDef). slots_of table (Struct one.tag) ≤ 1024) structs

  few_base : (scope : Scope) (base : BaseTree) → AllFew (named_in_base scope base) → AreFew scope.structs → AreFew (base_type scope base).scope.structs
  few_base scope (Trees.Plain words) all few = few
  few_base scope (Trees.StructBody place name members) all few =
      by (is_completed_before (members_by_tag scope.structs name.bytes)) (back_of (named_in_all_members scope members) (named_at name.place (Some (Struct name.bytes))) all).0
    where
      by : (b : Bool) → slots_of table (Struct name.bytes) ≤ 1024
          → AreFew (if b then scope else record scope { structs = record { tag = name.bytes; members = (all_members scope members []).members } ∷ scope.structs }).structs
      by true own = few
      by false own = (own, few)

  declarator_structs : (scope : Scope) (place : Pos) (base : Option CType) (tree : InitDeclaratorTree) (name : Option NameTree) → (file_declarator scope place base tree name).scope.structs ≡ scope.structs
  declarator_structs scope place base tree None = refl
  declarator_structs scope place base tree (Some name) = refl

  declarators_structs : (scope : Scope) (place : Pos) (base : Option CType) (trees : List InitDeclaratorTree) → (file_declarators scope place base trees).scope.structs ≡ scope.structs
  declarators_structs scope place base [] = refl
  declarators_structs scope place base (first ∷ others) =
      declarators_structs (file_declarator scope place base first (declared_name first.declarator)).scope place base others ∙ declarator_structs scope place base first (declared_name first.declarator)

  function_structs : (scope : Scope) (place : Pos) (base : Option CType) (declarator : DeclaratorTree) (body : BlockTree) (name : Option NameTree) → (function_item scope place base declarator body name).scope.structs ≡ scope.structs
  function_structs scope place base declarator body None = refl
  function_structs scope place base declarator body (Some name) = refl

  few_item : (scope : Scope) (tree : ItemTree) → AllFew (named_in_item scope tree) → AreFew scope.structs → AreFew (item scope tree).scope.structs
  few_item scope (Trees.Declaration base declarators) all few =
      let based = base_type scope base in
      let inner = few_base scope base (front_of (named_in_base scope base) (named_in_file_declarators based.scope (base_place base) based.type_of.known declarators) all) few in
      subst AreFew (sym (declarators_structs based.scope (base_place base) based.type_of.known declarators)) inner
  few_item scope (Trees.Function base declarator place body) all few =
      let based = base_type scope base in
      let inner = few_base scope base (front_of (named_in_base scope base) (named_in_function based.scope based.type_of.known declarator body (declared_name declarator)) all) few in
      subst AreFew (sym (function_structs based.scope (base_place base) based.type_of.known declarator body (declared_name declarator))) inner

  few_items : (scope : Scope) (trees : List ItemTree) → AllFew (named_in_items scope trees) → AreFew scope.structs → AreFew (all_structs scope trees)
  few_items scope [] all few = few
  few_items scope (first ∷ others) all few =
      let behind = (item scope first).scope in
      few_items behind others (back_of (named_in_item scope first) (named_in_items behind others) all) (few_item scope first (front_of (named_in_item scope first) (named_in_items behind others) all) few)

-- ---- programs

-- each structure has fewer slots than the number at which they end
abbrev HaveFewSlots : List StructDef → Type 0
HaveFewSlots structs = AllByRecursion (λ (one : StructDef). (layout_of structs (Struct one.tag)).slots < greatest) structs

few_exact : (structs some : List StructDef) → AreFew (layouts structs) some → AllByRecursion (λ (one : StructDef). (layout_of structs (Struct one.tag)).slots < greatest) some
few_exact structs [] few = tt
few_exact structs (first ∷ others) few = let own = few.0 in (omega (arith, own), few_exact structs others few.1)

few_slots : (program : ProgramTree) → exceeded (typed_of program) (named_types program) ≡ None → HaveFewSlots (typed_of program).structs
few_slots program within =
    let table = layouts (typed_of program).structs in
    let second = none_exceeded L1 _ _ within in
    let third = none_exceeded L2 _ _ second.1 in
    let found = none_exceeded L3 _ _ third.1 in
    let named = few_found table (named_types program) (none_counted (first_excess (slots_of table) 1024 (named_types program)) found.0) in
    few_exact (typed_of program).structs (typed_of program).structs (few_items table (outermost program) program.items named tt)

-- This is the typed tree of a program, and these are the types that the program names: no limit is exceeded.
pub accepted_few_slots : (program : ProgramTree) (typed : Program) (named : List NamedType) → typed ≡ typed_of program → named ≡ named_types program → exceeded typed named ≡ None → AllByRecursion (λ (one : StructDef). (layout_of typed.structs (Struct one.tag)).slots < greatest) typed.structs
accepted_few_slots program typed named elaborated listed within =
    subst (λ (tree : Program). HaveFewSlots tree.structs) (sym elaborated) (few_slots program (sym (λ i. exceeded (elaborated i) (listed i)) ∙ within))
