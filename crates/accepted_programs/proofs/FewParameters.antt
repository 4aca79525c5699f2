-- The functions of a program within the limits have few parameters: the type of each is among those that the text names.
use Rattle.std.proofs.Common.{◌≡◌, ℕ, ◌≤◌, ltb-false, nat_lt, Bool, true, false, List, [], ◌∷◌, ◌++◌, length, map, Option, Some, None, refl, sym, subst, ◌∙◌, arith}
use Rattle.std.specs.Prelude.{if◌then◌else◌}
use Rattle.std.specs.List.{AllByRecursion}
use Rattle.std.proofs.lemmas.Option.{none-some}
use Rattle.run_theory.specs.declared.place.Pos.{Pos}
use Rattle.c_syntax.specs.Trees
use Rattle.c_syntax.specs.Trees.{NameTree, DeclaratorTree, BlockTree, ItemTree, ProgramTree}
use Rattle.c_typed.specs.Types.{CType, CTypes, Void, Integer, Pointer, Array, Struct, Function, NoTypes, MoreTypes}
use Rattle.c_typed.specs.Typed.{FunctionDef, Program}
use Rattle.c_rules.specs.Known.{is_before}
use Rattle.c_rules.specs.Names.{Scope}
use Rattle.c_rules.specs.Expressions.{Required, declared_type, declared_name}
use Rattle.c_rules.specs.Programs.{body_type, base_type, declare_outside, entered_function, own_parameters, outermost, item}
use Rattle.c_rules.specs.Elaborated as elaborated
use Rattle.c_rules.specs.Elaborated.{types_in, defined_function, in_items, typed_of}
use Rattle.c_rules.specs.Named.{NamedType, named_at, named_in_declarator}
use Rattle.c_rules.specs.NamedItems.{named_in_block, named_in_base, named_in_function, named_in_item, named_in_items, named_types}
use Rattle.c_types.specs.declared.limits.Limit.{Limit}
use Rattle.c_types.specs.declared.limits.Limit.TheVariants.{L1, L2}
use Rattle.c_types.specs.declared.limits.LimitErr.{LimitErr}
use Rattle.c_types.specs.Limits.{first_above, parts, count_types, parameters_of, Excess, excess_at, excesses, earliest, first_excess, excess_count, exceeds, exceeded}
use Rattle.c_typed.specs.Parameters.{HasFewParameters}

-- ---- no limit is exceeded

none_exceeded : (limit : Limit) (found : Option ℕ) (others : Option LimitErr) → exceeds limit found others ≡ None → (found ≡ None) × (others ≡ None)
none_exceeded limit None others e = (refl, e)
none_exceeded limit (Some n) others e = absurd (none-some (record { which = limit; count = n }) (sym e))

none_counted : (excess : Option Excess) → excess_count excess ≡ None → excess ≡ None
none_counted None e = refl
none_counted (Some excess) e = absurd (none-some excess.count (sym e))

stays_some : (first : Excess) (others : List Excess) → earliest (Some first) others ≡ None → ⊥
stays_some first [] e = none-some first (sym e)
stays_some first (excess ∷ others) e = by (λ one. stays_some one others) (is_before excess.place first.place) e
  where
    by : ((one : Excess) → earliest (Some one) others ≡ None → ⊥) → (b : Bool) → earliest (if b then Some excess else Some first) others ≡ None → ⊥
    by rest true h = rest excess h
    by rest false h = rest first h

-- ---- types

-- a function type is the first of its parts
few_parts : (c_type : CType) → first_above 64 (map parameters_of (parts c_type)) ≡ None → parameters_of c_type ≤ 64
few_parts (Function result parameters) none = by _ (nat_lt 64 (count_types parameters)) refl none
  where
    by : (others : Option ℕ) (b : Bool) → nat_lt 64 (count_types parameters) ≡ b → (if b then Some (count_types parameters) else others) ≡ None → count_types parameters ≤ 64
    by others true is e = absurd (none-some (count_types parameters) (sym e))
    by others false is e = ltb-false 64 (count_types parameters) is
few_parts Void none = omega arith
few_parts (Integer int_type) none = omega arith
few_parts (Pointer target) none = omega arith
few_parts (Array element n) none = omega arith
few_parts (Struct tag) none = omega arith

abbrev AllFew : List NamedType → Type 0
AllFew named = AllByRecursion (λ (one : NamedType). parameters_of one.c_type ≤ 64) named

few_found : (named : List NamedType) → earliest None (excesses parameters_of 64 named) ≡ None → AllFew named
few_found [] none = tt
few_found (first ∷ others) none = by (few_parts first.c_type) (few_found others) (first_above 64 (map parameters_of (parts first.c_type))) refl none
  where
    by : (first_above 64 (map parameters_of (parts first.c_type)) ≡ None → parameters_of first.c_type ≤ 64) → (earliest None (excesses parameters_of 64 others) ≡ None → AllFew others) → (found : Option ℕ)
        → first_above 64 (map parameters_of (parts first.c_type)) ≡ found → earliest None (excess_at first.place found ++ excesses parameters_of 64 others) ≡ None → AllFew (first ∷ others)
    by own rest None is e = (own is, rest e)
    by own rest (Some n) is e = absurd (stays_some (record { place = first.place; count = n }) (excesses parameters_of 64 others) e)

few_named : (program : Program) (named : List NamedType) → exceeded program named ≡ None → AllFew named
few_named program named within =
    let second = none_exceeded L1 _ _ within in
    let found = none_exceeded L2 _ _ second.1 in
    few_found named (none_counted (first_excess parameters_of 64 named) found.0)

-- the count of so few types is exact
counted : (types : CTypes) → count_types types ≤ 64 → length (types_in types) ≤ count_types types
counted NoTypes low = omega arith
counted (MoreTypes first others) low = let rest = counted others (omega (arith, low)) in omega (arith, rest, low)

few_known : (place : Pos) (known : Option CType) → AllFew (named_at place known) → length (elaborated.parameters_of known) ≤ 64
few_known place None all = omega arith
few_known place (Some (Function result parameters)) all = let low = all.0 in let some = counted parameters low in omega (arith, low, some)
few_known place (Some Void) all = omega arith
few_known place (Some (Integer int_type)) all = omega arith
few_known place (Some (Pointer target)) all = omega arith
few_known place (Some (Array element n)) all = omega arith
few_known place (Some (Struct tag)) all = omega arith

-- ---- items

front_of : (front back : List NamedType) → AllFew (front ++ back) → AllFew front
front_of [] back all = tt
front_of (first ∷ front) back all = (all.0, front_of front back all.1)

back_of : (front back : List NamedType) → AllFew (front ++ back) → AllFew back
back_of [] back all = all
back_of (first ∷ front) back all = back_of front back all.1

abbrev AreFew : List FunctionDef → Type 0
AreFew functions = AllByRecursion (λ (function : FunctionDef). length function.parameters ≤ 64) functions

both_few : (functions others : List FunctionDef) → AreFew functions → AreFew others → AreFew (functions ++ others)
both_few [] others one other = other
both_few (first ∷ functions) others one other = (one.0, both_few functions others one.1 other)

few_defined : (scope : Scope) (base : Option CType) (declarator : DeclaratorTree) (body : BlockTree) (name : Option NameTree) → AllFew (named_in_function scope base declarator body name)
    → AreFew (defined_function scope base declarator body name)
few_defined scope base declarator body None all = tt
few_defined scope base declarator body (Some name) all =
    let own = body_type name.place (declared_type scope name.place Required base declarator) in
    let inside = (entered_function (declare_outside name own.known false true scope).scope (own_parameters declarator)).scope in
    let front = named_in_declarator scope declarator in
    (few_known name.place own.known (back_of front (named_at name.place own.known) (front_of (front ++ named_at name.place own.known) (named_in_block inside body) all)), tt)

few_items : (scope : Scope) (trees : List ItemTree) → AllFew (named_in_items scope trees) → AreFew (in_items scope trees).functions
few_items scope [] all = tt
few_items scope (Trees.Declaration base declarators ∷ others) all =
    let first = Trees.Declaration base declarators in
    few_items (item scope first).scope others (back_of (named_in_item scope first) (named_in_items (item scope first).scope others) all)
few_items scope (Trees.Function base declarator place body ∷ others) all =
    let first = Trees.Function base declarator place body in
    let based = base_type scope base in
    let behind = (item scope first).scope in
    let own = named_in_function based.scope based.type_of.known declarator body (declared_name declarator) in
    both_few (defined_function based.scope based.type_of.known declarator body (declared_name declarator)) (in_items behind others).functions
    (few_defined based.scope based.type_of.known declarator body (declared_name declarator) (back_of (named_in_base scope base) own (front_of (named_in_item scope first) (named_in_items behind others) all)))
    (few_items behind others (back_of (named_in_item scope first) (named_in_items behind others) all))

pub few_parameters : (program : ProgramTree) → exceeded (typed_of program) (named_types program) ≡ None → HasFewParameters (typed_of program)
few_parameters program within = few_items (outermost program) program.items (few_named (typed_of program) (named_types program) within)

-- the same of a tree that is told to be that of a text
pub few_parameters_of : (program : ProgramTree) (typed : Program) (named : List NamedType) → typed ≡ typed_of program → named ≡ named_types program → exceeded typed named ≡ None → HasFewParameters typed
few_parameters_of program typed named elaborated listed within =
    let same : exceeded typed named ≡ exceeded (typed_of program) (named_types program) = λ i. exceeded (elaborated i) (listed i) in
    subst HasFewParameters (sym elaborated) (few_parameters program (sym same ∙ within))
