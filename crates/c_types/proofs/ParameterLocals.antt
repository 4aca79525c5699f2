-- The parameters of a function, as its first locals.
use Rattle.std.proofs.Common.{◌≡◌, ℕ, zero, suc, arith, ◌<◌, length, take, get_or, true, false, if◌then◌else◌, List, [], ◌∷◌, ◌++◌, Option, Some, None, refl, sym, ap, subst, ◌∙◌}
use Rattle.std.proofs.Common.{append-nil, append_assoc}
use Rattle.std.proofs.lemmas.List.{take_at}
use Rattle.run_theory.specs.declared.place.Pos.{Pos}
use Rattle.c_syntax.specs.Trees
use Rattle.c_syntax.specs.Trees.{NameTree, WordsTree, OptionalTree, ParametersTree}
use Rattle.c_typed.specs.declared.c_type.CType as number
use Rattle.c_typed.specs.Types.{CType}
use Rattle.c_typed.specs.Table.{Interned, Grows, KnownStands, known_in, type_in, Stands}
use Rattle.c_typed.proofs.Grown.{grows_refl, grows_trans}
use Rattle.c_rules.specs.declared.rule.TypeRule.TheVariants as T
use Rattle.c_rules.specs.Known.{at, given, with_known, known_already}
use Rattle.c_rules.specs.Names.{Scope, with_local, in_function, entered}
use Rattle.c_types_state.specs.NameTables.{State, scope_of, ScopeGrows}
use Rattle.c_rules.specs.Expressions.{Adjusted, optional_type, words_type, optional_name, parameter_type, is_void_alone}
use Rattle.c_types_state.specs.Finding.{Finds, IsType, IsOption, each_in, lesser}
use Rattle.c_rules.specs.Programs.{Filed, enter_parameters, entered_function, parameter_local, unnamed}
use Rattle.c_types_state.proofs.Findings.{finds-then, stays-type}
use Rattle.c_types_expressions.specs.declared.pass.Pass.{Pass}
use Rattle.c_rules.specs.Named.{named_in_optional}
use Rattle.c_types_expressions.specs.Passes.{Names, Passes}
use Rattle.c_types_expressions.proofs.Naming.{names-none}
use Rattle.c_types_expressions.proofs.Passing.{with_checker}
use Rattle.c_types_expressions.proofs.Suffixed.{optional_found}
use Rattle.c_types.specs.Made.{Covers, Makes, IsOptionalType}
use Rattle.c_types.specs.Outside.{local_type, local_types, AreTypes, AllKnown, IsOutside}
use Rattle.c_types.proofs.Covering.{covers-none, covers-then, covers-same, covers-leads, covers-noted}

-- ---- the type of one

-- it has no name
pub local-none : {s : Pass} (words : WordsTree) (declarator : OptionalTree) (name : Option NameTree) → None ≡ name → Makes IsOptionalType [] (local_type (scope_of s.checker) words declarator name) [] (scope_of s.checker) s s None
local-none {s = s} words declarator name none =
    subst (λ (name : Option NameTree). Makes IsOptionalType [] (local_type (scope_of s.checker) words declarator name) [] (scope_of s.checker) s s None) none
    (record { covers = covers-none s; made = tt })

-- It has one: what was noted on the way is forgotten.
pub local-some : {s p q : Pass} {t u : State} {r r' r'' : Option number.CType} (words : WordsTree) (declarator : OptionalTree) (name : NameTree) (known : Option NameTree) (here : Pos) → Some name ≡ known → here ≡ name.place
    → Finds IsType (words_type (scope_of s.checker) words) s.checker t r
    → Passes IsType (optional_type (scope_of t) here Adjusted (known_already (each_in type_in t.table r)) declarator) (named_in_optional (scope_of t) declarator) (with_checker s t) p r'
    → Finds IsType (with_known (each_in type_in p.checker.table r') (parameter_type (scope_of p.checker) here)) p.checker u r''
    → q.checker ≡ record u { least = s.checker.least } → q.named.items ≡ take (length s.named.items) p.named.items
    → Makes IsOptionalType [] (local_type (scope_of s.checker) words declarator known) [] (scope_of s.checker) s q r''
local-some {s = s} {p = p} {q = q} {t = t} {u = u} {r = r} {r' = r'} {r'' = r''} words declarator name known here is_name at_place first second third restored cut =
    let scope = scope_of s.checker in
    let named : Finds IsType (optional_type scope here Adjusted (words_type scope words) declarator) s.checker p.checker r' = optional_found here Adjusted (words_type scope words) declarator first second.finds in
    let whole : Finds IsType (given (optional_type scope here Adjusted (words_type scope words) declarator) (parameter_type scope here)) s.checker u r'' =
    finds-then Stands type_in (λ _. optional_type scope here Adjusted (words_type scope words) declarator) (λ scope. parameter_type scope here) named third in
    let same : q.named.items ≡ s.named.items = cut ∙ ap (take (length s.named.items)) second.names.is ∙ take_at s.named.items second.names.added (length s.named.items) refl in
    let covers : Covers [] [] scope s q = record {
      grows = subst (λ (state : State). Grows s.checker.table state.table) (sym restored) whole.grows;
      scope = ap scope_of restored ∙ whole.scope;
      least = ap (λ (state : State). state.least) restored;
      names = subst (λ items. Names [] q.checker.table s.named.items items) (sym same) (names-none q.checker.table s.named.items);
    } in
    let known_type = subst (λ (state : State). IsOption (IsType state.table) r'' (given (optional_type scope here Adjusted (words_type scope words) declarator) (parameter_type scope here)).known) (sym restored) whole.known in
    subst (λ (known : Option NameTree). Makes IsOptionalType [] (local_type scope words declarator known) [] scope s q r'') is_name
    (record { covers = covers; made = subst (λ (place : Pos). IsOption (IsType q.checker.table) r'' (given (optional_type scope place Adjusted (words_type scope words) declarator) (parameter_type scope place)).known) at_place known_type })

-- ---- the types of all

-- it stays
type-stays : (old new : Interned) → Grows old new → (r : Option number.CType) (k : Option CType) → IsOption (IsType old) r k → IsOption (IsType new) r k
type-stays old new grows (Some b) (Some a) h = stays-type old new grows b a h
type-stays old new grows (Some b) None h = absurd h
type-stays old new grows None (Some a) h = absurd h
type-stays old new grows None None h = tt

-- Whatever types are made of the parameters that are left, behind the types so far they are those of all.
abbrev pub Gathers : Scope → ParametersTree → ParametersTree → Interned → List (Option number.CType) → Type 0
Gathers scope all left table types = (new : Interned) → Grows table new → (more : List (Option number.CType)) → AreTypes new more (local_types scope left) → AreTypes new (types ++ more) (local_types scope all)

pub gathers-start : (scope : Scope) (all : ParametersTree) (table : Interned) (types : List (Option number.CType)) → types ≡ [] → Gathers scope all all table types
gathers-start scope all table types none new grows more h = subst (λ (types : List (Option number.CType)). AreTypes new (types ++ more) (local_types scope all)) (sym none) h

pub gathers-more : (scope : Scope) (all left rest : ParametersTree) (words : WordsTree) (declarator : OptionalTree) (table next : Interned) (types types' : List (Option number.CType)) (r : Option number.CType) → left ≡ Trees.Parameter words declarator rest → types' ≡ types ++ r ∷ [] → Grows table next
    → IsOption (IsType next) r (local_type scope words declarator (optional_name declarator)) → Gathers scope all left table types → Gathers scope all rest next types'
gathers-more scope all left rest words declarator table next types types' r is_left is_more grows one gathers new grows' more h =
    subst (λ (types : List (Option number.CType)). AreTypes new types (local_types scope all)) (sym (append_assoc types (r ∷ []) more) ∙ ap (λ (types : List (Option number.CType)). types ++ more) (sym is_more))
    (gathers new (grows_trans table next new grows grows') (r ∷ more)
    (subst (λ (left : ParametersTree). AreTypes new (r ∷ more) (local_types scope left)) (sym is_left)
    (type-stays next new grows' r (local_type scope words declarator (optional_name declarator)) one, h)))

pub gathers-end : (scope : Scope) (all left : ParametersTree) (table : Interned) (types : List (Option number.CType)) → left ≡ Trees.NoParameters → Gathers scope all left table types → AreTypes table types (local_types scope all)
gathers-end scope all left table types none gathers =
    subst (λ (types : List (Option number.CType)). AreTypes table types (local_types scope all)) (append-nil types)
    (gathers table (grows_refl table) [] (subst (λ (left : ParametersTree). AreTypes table [] (local_types scope left)) (sym none) tt))

-- nothing was found or named so far, and nothing more is
pub covers-nothing : {there : Scope} {s t u : Pass} → scope_of s.checker ≡ there → Covers [] [] there s t → Covers [] [] (scope_of t.checker) t u → Covers [] [] there s u
covers-nothing {there = there} same first second = covers-then (λ _. []) (λ _. []) (λ scope. scope) first second

-- ---- their declarations

module _ (table : Interned) where
  known-is : (t : Option number.CType) (k : Option CType) → IsOption (IsType table) t k → known_in table.tags table.entries t ≡ k
  known-is (Some t) (Some k) h = ap Some h.1
  known-is (Some t) None h = absurd h
  known-is None (Some k) h = absurd h
  known-is None None h = refl

  is-known : (t : Option number.CType) (k : Option CType) → IsOption (IsType table) t k → KnownStands table t
  is-known (Some t) (Some k) h = h.0
  is-known (Some t) None h = absurd h
  is-known None k h = tt

  -- types that are made are known
  pub are-known : (types : List (Option number.CType)) (c_types : List (Option CType)) → AreTypes table types c_types → AllKnown table types
  are-known [] c_types h = tt
  are-known (t ∷ types) [] h = absurd h
  are-known (t ∷ types) (k ∷ c_types) h = (is-known t k h.0, are-known types c_types h.1)

  -- each is known
  pub known-at : (types : List (Option number.CType)) (n : ℕ) (d : Option number.CType) → n < length types → AllKnown table types → KnownStands table (get_or types n d)
  known-at [] n d lt h = absurd (omega arith)
  known-at (t ∷ types) zero d lt h = h.0
  known-at (t ∷ types) (suc n) d lt h = known-at types n d (omega arith) h.1

-- What is covered of the parameters that are left, with the types that are left, is covered of all.
abbrev pub Declares : Scope → Interned → List (Option number.CType) → ParametersTree → Pass → List (Option number.CType) → ParametersTree → Pass → Type 0
Declares outside table all_types all old types left now =
    AreTypes table all_types (local_types outside all)
    → AreTypes table types (local_types outside left)
    × ((t : Pass) → Covers (enter_parameters outside left (scope_of now.checker)).found [] (enter_parameters outside left (scope_of now.checker)).scope now t
    → Covers (enter_parameters outside all (scope_of old.checker)).found [] (enter_parameters outside all (scope_of old.checker)).scope old t)

pub declares-start : (outside : Scope) (table : Interned) (types : List (Option number.CType)) (all : ParametersTree) (old : Pass) → Declares outside table types all old types all old
declares-start outside table types all old h = (h, λ t covers. covers)

pub declares-more : (outside : Scope) (table : Interned) (all_types : List (Option number.CType)) (all : ParametersTree) (old : Pass) (types rest_types : List (Option number.CType)) (left rest : ParametersTree) (now next : Pass) (first : Option number.CType) (words : WordsTree) (declarator : OptionalTree)
    → types ≡ first ∷ rest_types → left ≡ Trees.Parameter words declarator rest
    → (IsOption (IsType table) first (local_type outside words declarator (optional_name declarator)) → Covers (unnamed (optional_name declarator) words.place) [] (parameter_local outside words declarator (optional_name declarator) (scope_of now.checker)) now next)
    → Declares outside table all_types all old types left now → Declares outside table all_types all old rest_types rest next
declares-more outside table all_types all old types rest_types left rest now next first words declarator is_types is_left one declares h =
    let both = declares h in
    let parts : AreTypes table (first ∷ rest_types) (local_types outside (Trees.Parameter words declarator rest)) =
    subst (λ (types : List (Option number.CType)). AreTypes table types (local_types outside (Trees.Parameter words declarator rest))) is_types
    (subst (λ (left : ParametersTree). AreTypes table types (local_types outside left)) is_left both.0) in (
      parts.1,
      λ t behind. both.1 t
          (subst (λ (left : ParametersTree). Covers (enter_parameters outside left (scope_of now.checker)).found [] (enter_parameters outside left (scope_of now.checker)).scope now t) (sym is_left)
          (covers-then (λ scope. (enter_parameters outside rest scope).found) (λ _. []) (λ scope. (enter_parameters outside rest scope).scope) (one parts.0) behind)),
    )

pub declares-end : (outside : Scope) (table : Interned) (all_types : List (Option number.CType)) (all : ParametersTree) (old : Pass) (types : List (Option number.CType)) (left : ParametersTree) (now : Pass) → left ≡ Trees.NoParameters
    → Declares outside table all_types all old types left now → AreTypes table all_types (local_types outside all)
    → Covers (enter_parameters outside all (scope_of old.checker)).found [] (enter_parameters outside all (scope_of old.checker)).scope old now
declares-end outside table all_types all old types left now none declares h =
    (declares h).1 now
    (subst (λ (left : ParametersTree). Covers (enter_parameters outside left (scope_of now.checker)).found [] (enter_parameters outside left (scope_of now.checker)).scope now now) (sym none) (covers-none now))

-- one with a name
pub declared-named : {s t : Pass} (outside : Scope) (table : Interned) (words : WordsTree) (declarator : OptionalTree) (name : NameTree) (known : Option NameTree) (bytes : List ℕ) (first : Option number.CType) → Some name ≡ known → bytes ≡ name.bytes → s.checker.table ≡ table
    → ScopeGrows (with_local bytes (known_in s.checker.table.tags s.checker.table.entries first) (scope_of s.checker)) s.checker t.checker → t.named.items ≡ s.named.items
    → IsOption (IsType table) first (local_type outside words declarator known) → Covers (unnamed known words.place) [] (parameter_local outside words declarator known (scope_of s.checker)) s t
declared-named {s = s} {t = t} outside table words declarator name known bytes first is_name same_bytes same_table leads same h =
    let scope = scope_of s.checker in
    let h' = subst (λ (known : Option NameTree). IsOption (IsType table) first (local_type outside words declarator known)) (sym is_name) h in
    let is_type : known_in s.checker.table.tags s.checker.table.entries first ≡ local_type outside words declarator (Some name) =
    ap (λ (table : Interned). known_in table.tags table.entries first) same_table ∙ known-is table first (local_type outside words declarator (Some name)) h' in
    subst (λ (known : Option NameTree). Covers (unnamed known words.place) [] (parameter_local outside words declarator known scope) s t) is_name
    (covers-same refl refl (λ i. with_local (same_bytes i) (is_type i) scope) (covers-leads leads same))

-- and one without
pub declared-unnamed : {s t : Pass} (outside : Scope) (words : WordsTree) (declarator : OptionalTree) (known : Option NameTree) (place : Pos) → None ≡ known → place ≡ words.place
    → t.checker ≡ record s.checker { least = lesser s.checker.least (record { kind = T.T05; place = place }) } → t.named.items ≡ s.named.items
    → Covers (unnamed known words.place) [] (parameter_local outside words declarator known (scope_of s.checker)) s t
declared-unnamed {s = s} {t = t} outside words declarator known place none at_place is same =
    subst (λ (known : Option NameTree). Covers (unnamed known words.place) [] (parameter_local outside words declarator known (scope_of s.checker)) s t) none
    (subst (λ (place : Pos). Covers (at T.T05 place) [] (scope_of s.checker) s t) at_place (covers-noted (at T.T05 place) is same))

-- ---- entering a function

outside-entered : (scope : Scope) → IsOutside scope → entered scope ≡ in_function scope
outside-entered scope outside = λ i. record scope { inner = []; outer = outside.0 i ++ outside.1 i }

-- its parameters are `(void)`
pub entered-void : {s t : Pass} (tree : ParametersTree) → IsOutside (scope_of s.checker) → true ≡ is_void_alone tree → ScopeGrows (entered (scope_of s.checker)) s.checker t.checker → t.named.items ≡ s.named.items
    → Covers (entered_function (scope_of s.checker) tree).found [] (entered_function (scope_of s.checker) tree).scope s t
entered-void {s = s} {t = t} tree outside is leads same =
    let scope = scope_of s.checker in
    let inside : Filed = record { found = []; scope = in_function scope } in
    subst (λ b. Covers (if b then inside else enter_parameters scope tree (in_function scope)).found [] (if b then inside else enter_parameters scope tree (in_function scope)).scope s t) is
    (covers-same refl refl (outside-entered scope outside) (covers-leads leads same))

-- its parameters are declared
pub entered-all : {s p q t : Pass} (tree : ParametersTree) → IsOutside (scope_of s.checker) → false ≡ is_void_alone tree → Covers [] [] (scope_of s.checker) s p → ScopeGrows (entered (scope_of p.checker)) p.checker q.checker → q.named.items ≡ p.named.items
    → Covers (enter_parameters (scope_of s.checker) tree (scope_of q.checker)).found [] (enter_parameters (scope_of s.checker) tree (scope_of q.checker)).scope q t
    → Covers (entered_function (scope_of s.checker) tree).found [] (entered_function (scope_of s.checker) tree).scope s t
entered-all {s = s} {p = p} {q = q} {t = t} tree outside is first leads same last =
    let scope = scope_of s.checker in
    let inside : Filed = record { found = []; scope = in_function scope } in
    let both : Covers [] [] (entered scope) s q = covers-then (λ _. []) (λ _. []) (λ scope. entered scope) first (covers-leads leads same) in
    let begun : Covers [] [] (in_function scope) s q = covers-same refl refl (outside-entered scope outside) both in
    subst (λ b. Covers (if b then inside else enter_parameters scope tree (in_function scope)).found [] (if b then inside else enter_parameters scope tree (in_function scope)).scope s t) is
    (covers-then (λ here. (enter_parameters scope tree here).found) (λ _. []) (λ here. (enter_parameters scope tree here).scope) begun last)
