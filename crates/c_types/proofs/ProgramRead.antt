-- A program, one item after another.
use Rattle.std.proofs.Common.{◌≡◌, ℕ, Bool, true, false, true≢false, List, [], ◌∷◌, ◌++◌, map, Option, Some, None, refl, sym, ap, subst, ◌∙◌}
use Rattle.std.proofs.Common.{append-nil, append_assoc}
use Rattle.std.specs.Prelude.{if◌then◌else◌, codes, Result, Ok, Err, IsErrAnd}
use Rattle.run_theory.specs.declared.place.Pos.{Pos}
use Rattle.c_syntax.specs.Trees
use Rattle.c_syntax.specs.Trees.{NameTree, DeclaratorTree, InitDeclaratorTree, BaseTree, BlockTree, ItemTree, ProgramTree}
use Rattle.c_typed.specs.declared.definition.Program as memory_program
use Rattle.c_typed.specs.Types.{CType}
use Rattle.c_typed.specs.Layouts.{MemberDef, members_by_tag}
use Rattle.c_typed.specs.declared.typed.Value as memory_value
use Rattle.c_typed.specs.Typed.{Value, GlobalDef, FunctionDef}
use Rattle.c_typed.specs.Table.{Interned, Grows}
use Rattle.c_typed.specs.DefinitionViews.{global_in, function_in, literal_of, program_of, GlobalsStand, LiteralsStand, FunctionsStand, ProgramStands}
use Rattle.c_typed.proofs.Grown.{stays}
use Rattle.c_rules.specs.declared.rule.TypeRule.TheVariants as T
use Rattle.c_rules.specs.declared.violation.Violation.{Violation}
use Rattle.c_rules.specs.Names.{Scope}
use Rattle.c_typed.specs.Names.{contains}
use Rattle.c_rules.specs.Known.{comes_first, least_of_two, least, unless}
use Rattle.c_types_state.specs.NameTables.{State, scope_of, no_state}
use Rattle.c_types_state.specs.Finding.{noted}
use Rattle.c_rules.specs.Programs.{is_completed_before, with_struct, all_members, base_type, base_place, file_declarator, file_declarators, function_item, item, items, each_once, completed_in, outermost, violations, refusal}
use Rattle.c_rules.specs.Expressions.{declared_name}
use Rattle.c_rules.specs.Elaborated as elaborated
use Rattle.c_rules.specs.Elaborated.{in_item, in_items, each_global, with_global, all_structs, literals_in_items, typed_of}
use Rattle.c_types_state.proofs.Noted.{noted-least}
use Rattle.c_types_state.specs.Lists.{with_outline}
use Rattle.c_types_expressions.specs.declared.pass.NamedType as memory_named
use Rattle.c_types_expressions.specs.declared.pass.Pass.{Pass}
use Rattle.c_rules.specs.Named.{NamedType}
use Rattle.c_types_expressions.specs.Passes.{named_type, AllNamedStand, Names}
use Rattle.c_types_expressions.proofs.Naming.{names-none, names-grow, names-then}
use Rattle.c_types.specs.declared.defined.Defined.{Defined}
use Rattle.c_types.specs.declared.program.TypeErr.{TypeErr}
use Rattle.c_types.specs.declared.program.TypeErr.TheVariants as E
use Rattle.c_rules.specs.NamedItems.{named_in_item, named_in_items, named_types}
use Rattle.c_types.specs.InitialValues.{AddsValues, item_values, items_values, first_values}
use Rattle.c_types.specs.Made.{Reaches, without_structs}
use Rattle.c_types.specs.Outside.{IsOutside, HasDefined, item_globals, item_functions}
use Rattle.c_types.proofs.Covering.{noted-append}
use Rattle.c_types.proofs.DefinedStays.{defined_stays}
use Rattle.c_types.proofs.KeptValues.{ValuesFar, adds-grow, kept-none, kept-more, kept-all}
use Rattle.c_types.proofs.Reaching.{reaches-types}

-- ---- what an item leaves of a scope: its locals, and the functions that the program defines

record Leaves (old new : Scope) : Type 0 where
  defined : new.defined ≡ old.defined
  inner : new.inner ≡ old.inner
  outer : new.outer ≡ old.outer

leaves-none : (scope : Scope) → Leaves scope scope
leaves-none scope = record { defined = refl; inner = refl; outer = refl }

leaves-then : {a b c : Scope} → Leaves a b → Leaves b c → Leaves a c
leaves-then first second = record { defined = second.defined ∙ first.defined; inner = second.inner ∙ first.inner; outer = second.outer ∙ first.outer }

leaves-struct : (tag : List ℕ) (members : List MemberDef) (scope : Scope) → Leaves scope (with_struct tag members scope)
leaves-struct tag members scope = by (is_completed_before (members_by_tag scope.structs tag))
  where
    by : (b : Bool) → Leaves scope (if b then scope else record scope { structs = record { tag = tag; members = members } ∷ scope.structs })
    by true = leaves-none scope
    by false = record { defined = refl; inner = refl; outer = refl }

leaves-base : (scope : Scope) (base : BaseTree) → Leaves scope (base_type scope base).scope
leaves-base scope (Trees.Plain words) = leaves-none scope
leaves-base scope (Trees.StructBody place name members) = leaves-struct name.bytes (all_members scope members []).members scope

leaves-declarator : (scope : Scope) (place : Pos) (base : Option CType) (tree : InitDeclaratorTree) (name : Option NameTree) → Leaves scope (file_declarator scope place base tree name).scope
leaves-declarator scope place base tree None = leaves-none scope
leaves-declarator scope place base tree (Some name) = record { defined = refl; inner = refl; outer = refl }

leaves-declarators : (scope : Scope) (place : Pos) (base : Option CType) (trees : List InitDeclaratorTree) → Leaves scope (file_declarators scope place base trees).scope
leaves-declarators scope place base [] = leaves-none scope
leaves-declarators scope place base (first ∷ others) =
    let name = declared_name first.declarator in
    leaves-then (leaves-declarator scope place base first name) (leaves-declarators (file_declarator scope place base first name).scope place base others)

leaves-function : (scope : Scope) (place : Pos) (base : Option CType) (declarator : DeclaratorTree) (body : BlockTree) (name : Option NameTree) → Leaves scope (function_item scope place base declarator body name).scope
leaves-function scope place base declarator body None = leaves-none scope
leaves-function scope place base declarator body (Some name) = record { defined = refl; inner = refl; outer = refl }

leaves-item : (scope : Scope) (tree : ItemTree) → Leaves scope (item scope tree).scope
leaves-item scope (Trees.Declaration base declarators) =
    let based = base_type scope base in
    leaves-then (leaves-base scope base) (leaves-declarators based.scope (base_place base) based.type_of.known declarators)
leaves-item scope (Trees.Function base declarator place body) =
    let based = base_type scope base in
    leaves-then (leaves-base scope base) (leaves-function based.scope (base_place base) based.type_of.known declarator body (declared_name declarator))

-- outside functions no local is in scope, behind an item either
pub stays-outside : (scope : Scope) (tree : ItemTree) → IsOutside scope → IsOutside (item scope tree).scope
stays-outside scope tree outside =
    let leaves = leaves-item scope tree in
    (leaves.inner ∙ outside.0, leaves.outer ∙ outside.1)

-- ---- types that were named stay, also where a structure is completed

module _ (old new : Interned) (grows : Grows (without_structs old) (without_structs new)) where
  all-kept : (xs : List memory_named.NamedType) → AllNamedStand old xs → AllNamedStand new xs × (map (named_type new) xs ≡ map (named_type old) xs)
  all-kept [] h = (tt, refl)
  all-kept (x ∷ xs) h =
      let first = stays (without_structs old) (without_structs new) grows x.c_type h.0 in
      let others = all-kept xs h.1 in
      ((first.0, others.0), λ i. record { place = x.place; c_type = first.1 i } ∷ others.1 i)

  names-kept : {named : List NamedType} {before after : List memory_named.NamedType} → Names named old before after → Names named new before after
  names-kept names =
      let kept = all-kept names.added names.stand in
      record { added = names.added; is = names.is; stand = kept.0; means = kept.1 ∙ names.means }

-- ---- what an item defines, and the items behind it

each-append : (globals xs ys : List GlobalDef) → each_global globals (xs ++ ys) ≡ each_global (each_global globals xs) ys
each-append globals [] ys = refl
each-append globals (x ∷ xs) ys = each-append (with_global x globals) xs ys

globals-more : (scope : Scope) (tree : ItemTree) (rest : elaborated.Defined) → (in_item scope tree rest).globals ≡ item_globals scope tree ++ rest.globals
globals-more scope (Trees.Declaration base declarators) rest = refl
globals-more scope (Trees.Function base declarator place body) rest = refl

functions-more : (scope : Scope) (tree : ItemTree) (rest : elaborated.Defined) → (in_item scope tree rest).functions ≡ item_functions scope tree ++ rest.functions
functions-more scope (Trees.Declaration base declarators) rest = refl
functions-more scope (Trees.Function base declarator place body) rest = refl

-- ---- a program, read up to some of its items

-- With what is left, all that was noted, named and defined so far is what there is of the whole program.
pub record Reading (program : ProgramTree) (left : List ItemTree) (pass : Pass) (defined : Defined) : Type 0 where
  pub outside : IsOutside (scope_of pass.checker)
  pub known : pass.checker.defined ≡ (outermost program).defined
  pub least : noted pass.checker.least (items (scope_of pass.checker) left) ≡ noted None (items (outermost program) program.items)
  pub named : List NamedType
  pub names : Names named pass.checker.table [] pass.named.items
  pub all_named : named ++ named_in_items (scope_of pass.checker) left ≡ named_types program
  pub structs : all_structs (scope_of pass.checker) left ≡ all_structs (outermost program) program.items
  pub globals : List GlobalDef
  pub functions : List FunctionDef
  pub has : HasDefined pass.checker.table defined globals functions
  pub all_globals : each_global globals (in_items (scope_of pass.checker) left).globals ≡ each_global [] (in_items (outermost program) program.items).globals
  pub all_functions : functions ++ (in_items (scope_of pass.checker) left).functions ≡ (in_items (outermost program) program.items).functions

pub reading-start : (program : ProgramTree) (pass : Pass) (defined : Defined) → pass.checker ≡ with_outline program.items no_state → pass.named.items ≡ [] → defined.globals ≡ [] → defined.functions.items ≡ [] → Reading program program.items pass defined
reading-start program pass defined is no_names no_globals no_functions =
    let table = pass.checker.table in
    record {
      outside = (ap (λ (state : State). (scope_of state).inner) is, ap (λ (state : State). (scope_of state).outer) is);
      known = ap (λ (state : State). state.defined) is;
      least = ap (λ (state : State). noted state.least (items (scope_of state) program.items)) is;
      named = [];
      names = subst (λ named. Names [] table [] named) (sym no_names) (names-none table []);
      all_named = ap (λ (state : State). named_in_items (scope_of state) program.items) is;
      structs = ap (λ (state : State). all_structs (scope_of state) program.items) is;
      globals = [];
      functions = [];
      has = record {
        globals_stand = subst (GlobalsStand table) (sym no_globals) tt;
        functions_stand = subst (FunctionsStand table) (sym no_functions) tt;
        globals = ap (map (global_in table)) no_globals;
        functions = ap (map (function_in table)) no_functions;
      };
      all_globals = ap (λ (state : State). each_global [] (in_items (scope_of state) program.items).globals) is;
      all_functions = ap (λ (state : State). (in_items (scope_of state) program.items).functions) is;
    }

module _ (program : ProgramTree) (left others : List ItemTree) (tree : ItemTree) (now next : Pass) (before after : Defined) where
  abbrev here : Scope
  here = scope_of now.checker

  pub reading-step : left ≡ tree ∷ others → Reaches (item here tree).found (named_in_item here tree) (item here tree).scope now next
      → ((globals : List GlobalDef) (functions : List FunctionDef) → HasDefined now.checker.table before globals functions → HasDefined next.checker.table after (each_global globals (item_globals here tree)) (functions ++ item_functions here tree))
      → Reading program left now before → Reading program others next after
  reading-step is reaches defines reading =
      let there = (item here tree).scope in
      let leaves = leaves-item here tree in
      let rest = in_items there others in
      record {
        outside = (ap (λ (scope : Scope). scope.inner) reaches.scope ∙ leaves.inner ∙ reading.outside.0, ap (λ (scope : Scope). scope.outer) reaches.scope ∙ leaves.outer ∙ reading.outside.1);
        known = ap (λ (scope : Scope). scope.defined) reaches.scope ∙ leaves.defined ∙ reading.known;
        least =
            (λ i. noted (reaches.least i) (items (reaches.scope i) others))
            ∙ sym (noted-append now.checker.least (item here tree).found (items there others))
            ∙ ap (λ trees. noted now.checker.least (items here trees)) (sym is)
            ∙ reading.least;
        named = reading.named ++ named_in_item here tree;
        names = names-then next.checker.table (names-kept now.checker.table next.checker.table reaches.grows reading.names) reaches.names;
        all_named =
            append_assoc reading.named (named_in_item here tree) (named_in_items (scope_of next.checker) others)
            ∙ ap (λ scope. reading.named ++ (named_in_item here tree ++ named_in_items scope others)) reaches.scope
            ∙ ap (λ trees. reading.named ++ named_in_items here trees) (sym is)
            ∙ reading.all_named;
        structs = ap (λ scope. all_structs scope others) reaches.scope ∙ ap (all_structs here) (sym is) ∙ reading.structs;
        globals = each_global reading.globals (item_globals here tree);
        functions = reading.functions ++ item_functions here tree;
        has = defines reading.globals reading.functions reading.has;
        all_globals =
            ap (λ scope. each_global (each_global reading.globals (item_globals here tree)) (in_items scope others).globals) reaches.scope
            ∙ sym (each-append reading.globals (item_globals here tree) rest.globals)
            ∙ ap (each_global reading.globals) (sym (globals-more here tree rest))
            ∙ ap (λ trees. each_global reading.globals (in_items here trees).globals) (sym is)
            ∙ reading.all_globals;
        all_functions =
            append_assoc reading.functions (item_functions here tree) (in_items (scope_of next.checker) others).functions
            ∙ ap (λ scope. reading.functions ++ (item_functions here tree ++ (in_items scope others).functions)) reaches.scope
            ∙ ap (λ functions. reading.functions ++ functions) (sym (functions-more here tree rest))
            ∙ ap (λ trees. reading.functions ++ (in_items here trees).functions) (sym is)
            ∙ reading.all_functions;
      }

-- ---- the expressions of first values that were kept

-- with those of the items that are left, they are those of the whole program
abbrev pub Keeping : ProgramTree → List ItemTree → Pass → List memory_value.Value → Type 0
Keeping program left pass values = ValuesFar (first_values program) (items_values (scope_of pass.checker) left) pass.checker.table [] values

pub keeping-start : (program : ProgramTree) (pass : Pass) (values : List memory_value.Value) → pass.checker ≡ with_outline program.items no_state → values ≡ [] → Keeping program program.items pass values
keeping-start program pass values is none =
    subst (λ (values : List memory_value.Value). Keeping program program.items pass values) (sym none)
    (subst (λ (all : List Value). ValuesFar all (items_values (scope_of pass.checker) program.items) pass.checker.table [] []) (ap (λ (state : State). items_values (scope_of state) program.items) is)
    (kept-none (items_values (scope_of pass.checker) program.items) pass.checker.table []))

pub keeping-step : (program : ProgramTree) (left others : List ItemTree) (tree : ItemTree) (now next : Pass) (before after : List memory_value.Value) → left ≡ tree ∷ others
    → Reaches (item (scope_of now.checker) tree).found (named_in_item (scope_of now.checker) tree) (item (scope_of now.checker) tree).scope now next
    → AddsValues (item_values (scope_of now.checker) tree) next.checker.table before after → Keeping program left now before → Keeping program others next after
keeping-step program left others tree now next before after is reaches adds far =
    subst (λ (there : Scope). ValuesFar (first_values program) (items_values there others) next.checker.table [] after) (sym reaches.scope)
    (kept-more (item_values (scope_of now.checker) tree)
    (subst (λ (trees : List ItemTree). ValuesFar (first_values program) (items_values (scope_of now.checker) trees) now.checker.table [] before) is far)
    (reaches-types reaches) adds)

-- none of the items is left, and the table grows once more
pub keeping-end : (program : ProgramTree) (left : List ItemTree) (pass : Pass) (values : List memory_value.Value) (table : Interned) → left ≡ [] → Keeping program left pass values → Grows pass.checker.table table → AddsValues (first_values program) table [] values
keeping-end program left pass values table none far grows =
    adds-grow grows (kept-all (subst (λ (trees : List ItemTree). Keeping program trees pass values) none far))

-- ---- a program that was read

-- where none of its items is left
pub reading-end : (program : ProgramTree) (left : List ItemTree) (pass : Pass) (defined : Defined) → left ≡ [] → Reading program left pass defined → Reading program [] pass defined
reading-end program left pass defined none reading = subst (λ trees. Reading program trees pass defined) none reading

noted-all : (program : ProgramTree) (so_far : Option Violation) (has_main : Bool) → has_main ≡ contains (outermost program).defined (codes "main") → so_far ≡ noted None (items (outermost program) program.items) → noted so_far (unless has_main T.T01 program.end) ≡ refusal program
noted-all program so_far has_main is least_is =
    (λ i. noted (least_is i) (unless (is i) T.T01 program.end))
    ∙ sym (noted-append None (items (outermost program) program.items) (unless (contains (outermost program).defined (codes "main")) T.T01 program.end))
    ∙ noted-least (violations program)

-- what was noted, with the rule for the whole, is what is answered
pub refusal-noted : (program : ProgramTree) (pass : Pass) (defined : Defined) (after : State) (has_main : Bool) → Reading program [] pass defined → has_main ≡ contains pass.checker.defined (codes "main") → after ≡ record pass.checker { least = noted pass.checker.least (unless has_main T.T01 program.end) } → after.least ≡ refusal program
refusal-noted program pass defined after has_main read is done =
    ap (λ (state : State). state.least) done ∙ noted-all program pass.checker.least has_main (is ∙ ap (λ names. contains names (codes "main")) read.known) read.least

abbrev is_some : Option Violation → Bool
is_some None = false
is_some (Some violation) = true

some-least : (violation : Violation) (other : Option Violation) → least_of_two violation other ≡ None → ⊥
some-least violation other h = by other h
  where
    chosen : (other : Violation) (b : Bool) → (if b then Some violation else Some other) ≡ None → ⊥
    chosen other true h = absurd (true≢false (ap is_some h))
    chosen other false h = absurd (true≢false (ap is_some h))

    by : (other : Option Violation) → least_of_two violation other ≡ None → ⊥
    by None h = absurd (true≢false (ap is_some h))
    by (Some other) h = chosen other (comes_first violation other) h

-- where none is the least, there is none
pub least-none : (found : List Violation) → least found ≡ None → found ≡ []
least-none [] h = refl
least-none (violation ∷ found) h = absurd (some-least violation (least found) h)

-- what was defined stays, where the table grows once more
defined-whole : (program : ProgramTree) (pass : Pass) (defined : Defined) (table : Interned) (read : Reading program [] pass defined) → Grows pass.checker.table table → HasDefined table defined read.globals read.functions
defined-whole program pass defined table read grows = defined_stays pass.checker.table table grows defined read.globals read.functions read.has

-- the typed program
pub typed-whole : (program : ProgramTree) (pass : Pass) (defined : Defined) (p : memory_program.Program) → Reading program [] pass defined → Grows pass.checker.table p.types → map (λ tag. tag) p.completed.items ≡ each_once [] (completed_in program.items) → p.globals.items ≡ defined.globals → map literal_of p.literals.items ≡ literals_in_items program.items → p.functions.items ≡ defined.functions.items → program_of p ≡ typed_of program
typed-whole program pass defined p read grows completed globals literals functions =
    let has = defined-whole program pass defined p.types read grows in
    let structs_are = grows.structs ∙ read.structs in
    let globals_are = ap (map (global_in p.types)) globals ∙ has.globals ∙ read.all_globals in
    let functions_are = ap (map (function_in p.types)) functions ∙ has.functions ∙ sym (append-nil read.functions) ∙ read.all_functions in
    λ i. record { structs = structs_are i; completed = completed i; globals = globals_are i; literals = literals i; functions = functions_are i }

pub whole-stands : (program : ProgramTree) (pass : Pass) (defined : Defined) (p : memory_program.Program) → Reading program [] pass defined → Grows pass.checker.table p.types → p.globals.items ≡ defined.globals → LiteralsStand p.types p.literals.items → p.functions.items ≡ defined.functions.items → ProgramStands p
whole-stands program pass defined p read grows globals literals functions =
    let has = defined-whole program pass defined p.types read grows in
    record {
      globals = subst (GlobalsStand p.types) (sym globals) has.globals_stand;
      literals = literals;
      functions = subst (FunctionsStand p.types) (sym functions) has.functions_stand;
    }

-- the types that it names
pub named-whole : (program : ProgramTree) (pass : Pass) (defined : Defined) (table : Interned) → Reading program [] pass defined → Grows pass.checker.table table → AllNamedStand table pass.named.items × (map (named_type table) pass.named.items ≡ named_types program)
named-whole program pass defined table read grows =
    let names = names-grow pass.checker.table table grows read.names in (
      subst (AllNamedStand table) (sym names.is) names.stand,
      ap (map (named_type table)) names.is ∙ names.means ∙ sym (append-nil read.named) ∙ read.all_named,
    )

-- ---- why it is refused

module _ {A : Type 0} where
  abbrev err : TypeErr → Result A TypeErr
  err e = Err e

  abbrev refused_for : Result A TypeErr → Option Violation
  refused_for (Ok a) = None
  refused_for (Err (E.Rule violation)) = Some violation
  refused_for (Err E.OutOfMemory) = None

  -- where memory ran out, it is not refused
  pub not-refused : {B : Type 0} (result : Result A TypeErr) (violation : Violation) → IsErrAnd result (λ e. e ≡ E.OutOfMemory) → result ≡ err (E.Rule violation) → B
  not-refused (Ok a) violation out h = absurd out
  not-refused (Err e) violation out h = absurd (true≢false (ap is_some (sym (ap refused_for h) ∙ ap (λ other. refused_for (err other)) out)))

  pub refused-same : (program : ProgramTree) (found : Option Violation) (one violation : Violation) → found ≡ refusal program → found ≡ Some one → err (E.Rule one) ≡ err (E.Rule violation) → refusal program ≡ Some violation
  refused-same program found one violation is some h = sym is ∙ some ∙ ap refused_for h
