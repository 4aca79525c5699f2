-- The elements of an array that is declared are complete, and those of its elements.
use Rattle.std.proofs.Common.{◌≡◌, ℕ, zero, suc, Bool, true, false, not, ◌||◌, List, [], Option, Some, None, refl, subst}
use Rattle.std.proofs.lemmas.Bool.{false≢true}
use Rattle.std.proofs.lemmas.Option.{none-some, same_Some}
use Rattle.run_theory.specs.declared.place.Pos.{Pos}
use Rattle.c_syntax.specs.Trees
use Rattle.c_syntax.specs.Trees.{SimpleTree, WordsTree, DeclaratorTree, DirectTree, SuffixesTree}
use Rattle.c_typed.specs.Types.{CType, CTypes, Void, Integer, Array, Struct, Function, is_array, is_function, is_struct}
use Rattle.c_typed.specs.Layouts.{StructDef, is_complete}
use Rattle.c_typed.specs.Inside.{is_sized}
use Rattle.c_rules.specs.declared.rule.TypeRule.TheVariants as T
use Rattle.c_rules.specs.Names.{Scope, declares_tag}
use Rattle.c_rules.specs.Known.{Checked, give, given, require}
use Rattle.c_rules.specs.Expressions.{LengthRole, Required, simple_type, words_type, pointed, declared_type, direct_type, suffixes_type, length_stated, length_value, role_outside, is_void_alone, parameter_types}
use Rattle.c_rules.proofs.Nothing.{both_none, both_known, tested_known}
use Rattle.std.proofs.Common.{cond}
use Rattle.c_typed.specs.Types.{NoTypes}

-- where it is complete
abbrev pub Sizes : List StructDef → CType → Type 0
Sizes structs c_type = is_complete structs c_type ≡ true → is_sized structs c_type ≡ true

abbrev SizesKnown : List StructDef → Option CType → Type 0
SizesKnown structs known = (c_type : CType) → known ≡ Some c_type → Sizes structs c_type

simple_sized : (scope : Scope) (words : SimpleTree) (c_type : CType) → (simple_type scope words).known ≡ Some c_type → Sizes scope.structs c_type
simple_sized scope Trees.VoidWord c_type e = subst (Sizes scope.structs) (same_Some Void c_type e) (λ h. h)
simple_sized scope (Trees.IntegerWords int_type) c_type e = subst (Sizes scope.structs) (same_Some (Integer int_type) c_type e) (λ h. h)
simple_sized scope (Trees.StructTag tag) c_type e = by (declares_tag scope.tags tag) e
  where
    by : (b : Bool) → (require b T.T03 tag.place (give (Struct tag.bytes))).known ≡ Some c_type → Sizes scope.structs c_type
    by true h = subst (Sizes scope.structs) (same_Some (Struct tag.bytes) c_type h) (λ i. i)
    by false h = absurd (none-some c_type h)

pub words_sized : (scope : Scope) (words : WordsTree) (c_type : CType) → (words_type scope words).known ≡ Some c_type → Sizes scope.structs c_type
words_sized scope words c_type e = simple_sized scope words.words c_type e

pointed_sized : (structs : List StructDef) (stars : ℕ) (base : Option CType) → SizesKnown structs base → SizesKnown structs (pointed stars base)
pointed_sized structs stars None sizes c_type is = absurd (none-some c_type is)
pointed_sized structs zero (Some base) sizes c_type is = sizes c_type is
pointed_sized structs (suc n) (Some base) sizes c_type is = subst (Sizes structs) (same_Some _ c_type is) (λ h. refl)

array_sized : (structs : List StructDef) (element : CType) (n : ℕ) (c_type : CType) → (give (Array element n)).known ≡ Some c_type → is_sized structs element ≡ true → Sizes structs c_type
array_sized structs element n c_type is sized = subst (Sizes structs) (same_Some (Array element n) c_type is) (λ h. sized)

function_sized : (structs : List StructDef) (result : CType) (types : CTypes) (c_type : CType) → (give (Function result types)).known ≡ Some c_type → Sizes structs c_type
function_sized structs result types c_type is = subst (Sizes structs) (same_Some (Function result types) c_type is) (λ h. absurd (false≢true h))

suffixes_sized : (scope : Scope) (here : Pos) (role : LengthRole) (base : Option CType) → SizesKnown scope.structs base → (suffixes : SuffixesTree) → (suffixes_type scope here role base suffixes).found ≡ []
    → SizesKnown scope.structs (suffixes_type scope here role base suffixes).known
suffixes_sized scope here role base sizes Trees.NoSuffixes e c_type is = sizes c_type is
suffixes_sized scope here role base sizes (Trees.ArraySuffix size others) e c_type is =
    let outer : Checked CType = suffixes_type scope here Required base others in
    let one : Checked CType = given outer (λ c_type. require (is_complete scope.structs c_type) T.T05 here (give c_type)) in
    let two : Checked ℕ = length_value here role outer.known (length_stated scope size) in
    let known = both_known one two (λ c_type n. give (Array c_type n)) c_type e is in
    let passed = tested_known outer (λ t. is_complete scope.structs t) T.T05 here known.first known.one_none known.one_known in
    array_sized scope.structs known.first known.second c_type known.gives (suffixes_sized scope here Required base sizes others passed.0 known.first passed.1 passed.2)
suffixes_sized scope here role base sizes (Trees.FunctionSuffix list others) e c_type is =
    let outer : Checked CType = suffixes_type scope here Required base others in
    let one : Checked CType = given outer (λ c_type. require (not (is_array c_type || is_function c_type)) T.T05 here (require (not (is_struct c_type)) T.T19 here (give c_type))) in
    let known = both_known one (cond (is_void_alone list) (give NoTypes) (parameter_types scope [] list)) (λ c_type ts. give (Function c_type ts)) c_type e is in
    function_sized scope.structs known.first known.second c_type known.gives

mutual
  pub declared_sized : (scope : Scope) (here : Pos) (role : LengthRole) (base : Option CType) → ((c_type : CType) → base ≡ Some c_type → Sizes scope.structs c_type) → (tree : DeclaratorTree)
      → (declared_type scope here role base tree).found ≡ [] → (c_type : CType) → (declared_type scope here role base tree).known ≡ Some c_type → Sizes scope.structs c_type
  declared_sized scope here role base sizes (Trees.Declarator stars direct suffixes) e =
      direct_sized scope here role (suffixes_type scope here (role_outside direct role) (pointed stars base) suffixes)
      (λ none. suffixes_sized scope here (role_outside direct role) (pointed stars base) (pointed_sized scope.structs stars base sizes) suffixes none) direct e

  direct_sized : (scope : Scope) (here : Pos) (role : LengthRole) (outer : Checked CType) → (outer.found ≡ [] → (c_type : CType) → outer.known ≡ Some c_type → Sizes scope.structs c_type) → (tree : DirectTree)
      → (direct_type scope here role outer tree).found ≡ [] → (c_type : CType) → (direct_type scope here role outer tree).known ≡ Some c_type → Sizes scope.structs c_type
  direct_sized scope here role outer sizes (Trees.DeclaredName name) e = sizes e
  direct_sized scope here role outer sizes Trees.NoName e = sizes e
  direct_sized scope here role outer sizes (Trees.Nested declarator) e =
      let parts = both_none outer.found (declared_type scope here role outer.known declarator).found e in
      declared_sized scope here role outer.known (sizes parts.0) declarator parts.1
