-- One argument of a call after the other.
use Rattle.std.proofs.Common.{◌≡◌, ℕ, zero, suc, ◌+◌, ◌<◌, ◌≤◌, ◌⊎◌, true, false, List, [], ◌∷◌, length, drop, get_or, Option, Some, None, inl, inr, refl, sym, ap, subst, ◌∙◌, arith, add-one}
use Rattle.std.specs.Prelude.{slice_get, option_map}
use Rattle.std.proofs.lemmas.Bool.{false≢true}
use Rattle.std.proofs.lemmas.Option.{none-some, same_Some, slice_get_within, slice_get-map, slice_get_read}
use Rattle.c_typed.specs.Types.{CType}
use Rattle.c_typed.specs.Table.{Interned, type_in, shape_type, HasShape}
use Rattle.c_typed.specs.declared.c_type.CType as number
use Rattle.c_typed.specs.declared.c_type.Parameters as numbers
use Rattle.c_typed.specs.declared.c_type.Shape.{Shape}
use Rattle.c_typed.specs.declared.c_type.Shape.TheVariants as S
use Rattle.tac_ir.specs.declared.program.Function as memory_function
use Rattle.tac_ir.specs.declared.program.Tac as memory_tac
use Rattle.tac_ir.specs.declared.register.Register.{Register}
use Rattle.tac_ir.specs.declared.register.Register.TheVariants as R
use Rattle.tac_ir.specs.Code.{Tac}
use Rattle.tac_ir.specs.States.{Owner, InFunction}
use Rattle.tac_ir.specs.Views.{tac_of, function_in}
use Rattle.heap_graph.specs.Structures.{AreMade}
use Rattle.heap_graph.specs.Graphs.{Target, Name, OfRegister, OfResult, Graph}
use Rattle.heap_graph.specs.Points.{is_data_pointer}
use Rattle.heap_graph.specs.Merging.{IsSound}
use Rattle.heap_graph.specs.Closed.{parameters_of, result_of, type_of, function_type, formal}
use Rattle.dsa_inlining.specs.Crossed.{IsImage, Comes, IsPassed, ArePassed, IsGiven, IsJoined}
use Rattle.dsa_inlining.specs.Joins.{Joins}
use Rattle.dsa_inlining.proofs.Kept.{Keeps, passed_kept, are_passed_kept}
use Rattle.dsa_inlining.proofs.Joining.{Below, joins_same, joins_then, joins_for}

-- ---- what is read of functions in memory

module _ (tac : memory_tac.Tac) (called : ℕ) (function : memory_function.Function) (within : called < length tac.functions.items) (read : function ≡ get_or tac.functions.items called function) where
  function_there : slice_get (tac_of tac).functions called ≡ Some (function_in tac.types function)
  function_there = slice_get-map (function_in tac.types) tac.functions.items called ∙ ap (option_map (function_in tac.types)) (slice_get_read tac.functions.items (length tac.functions.items) called function refl within read)

  pub type_read : function_type (tac_of tac) called ≡ type_in tac.types function.c_type
  type_read = ap type_of function_there

-- the type of the next formal, and those behind it
pub next_formal : (types others : List CType) (number : ℕ) (first : CType) → drop number types ≡ first ∷ others → (slice_get types number ≡ Some first) × (drop (number + 1) types ≡ others)
next_formal types others number first is = let parts = by types number is in (parts.0, ap (λ n. drop n types) (add-one number) ∙ parts.1)
  where
    empty : (number : ℕ) → drop number [] ≡ first ∷ others → ⊥
    empty zero e = cc
    empty (suc number) e = cc

    by : (types : List CType) (number : ℕ) → drop number types ≡ first ∷ others → (slice_get types number ≡ Some first) × (drop (suc number) types ≡ others)
    by [] number e = absurd (empty number e)
    by (c_type ∷ types) zero e = (cc, cc)
    by (c_type ∷ types) (suc number) e = by types number e

pub no_formal : (types : List CType) (number : ℕ) → drop number types ≡ [] → length types ≤ number
no_formal [] number is = omega arith
no_formal (c_type ∷ types) zero is = absurd (cc)
no_formal (c_type ∷ types) (suc number) is = let rest = no_formal types number is in omega (arith, rest)

-- what is no function has no formals
pub no_function : (table : Interned) (c_type : CType) (shape : Shape) → HasShape table c_type shape → ((result : number.CType) (parameters : numbers.Parameters) → shape ≡ S.Function result parameters → ⊥)
    → parameters_of c_type ≡ []
no_function table c_type shape has other = ap parameters_of has.means ∙ by shape other
  where
    by : (shape : Shape) → ((result : number.CType) (parameters : numbers.Parameters) → shape ≡ S.Function result parameters → ⊥) → parameters_of (shape_type table shape) ≡ []
    by S.Void none = refl
    by (S.Integer int_type) none = refl
    by (S.Pointer target) none = refl
    by (S.Array element many) none = refl
    by (S.Struct tag) none = refl
    by (S.Function result parameters) none = absurd (none result parameters refl)

-- ---- arguments

-- the argument of a number
abbrev pub OnePassed : Graph → (ℕ → Option ℕ) → Owner → ℕ → List CType → List Register → ℕ → Graph → Type 0
OnePassed callee copies owner called types arguments number graph =
    (c_type : CType) (argument : Register) → slice_get types number ≡ Some c_type → slice_get arguments number ≡ Some argument → is_data_pointer c_type ≡ true
    → IsPassed callee copies (OfRegister owner argument) (formal called number) graph

module _ (tac : Tac) (made : AreMade tac.structs) (callee : Graph) (copies : ℕ → Option ℕ) (owner : Owner) (called : ℕ) (types : List CType) (arguments : List Register) where
  abbrev One : ℕ → Graph → Type 0
  One = OnePassed callee copies owner called types arguments

  pub one_passed_kept : (number : ℕ) → Keeps tac.structs (One number)
  one_passed_kept number old new sound goes one = λ c_type argument at its is.
      passed_kept tac.structs made callee copies (OfRegister owner argument) (formal called number) old new sound goes (one c_type argument at its is)

  pub this_passed : (number : ℕ) (first : CType) (argument : Register) → slice_get types number ≡ Some first → slice_get arguments number ≡ Some argument → is_data_pointer first ≡ true → (old new : Graph)
      → Joins tac callee (IsPassed callee copies (OfRegister owner argument) (formal called number)) old new → Joins tac callee (One number) old new
  this_passed number first argument at its is old new joins =
      joins_for tac made callee old new (IsPassed callee copies (OfRegister owner argument) (formal called number)) (One number) (λ graph one. one first argument at its is)
      (λ passed c_type other here there pointer. subst (λ r. IsPassed callee copies (OfRegister owner r) (formal called number) new) (same_Some argument other (sym its ∙ there)) passed) joins

  pub not_passed : (number : ℕ) (first : CType) → slice_get types number ≡ Some first → is_data_pointer first ≡ false → (graph : Graph) → IsSound tac.structs graph → Joins tac callee (One number) graph graph
  not_passed number first at is graph sound =
      joins_same tac made callee graph sound (One number)
      (λ c_type argument here there pointer. absurd (false≢true (sym is ∙ (ap is_data_pointer (same_Some first c_type (sym at ∙ here)) ∙ pointer))))

  -- there are no more arguments, or no more formals
  pub all_passed : (count : ℕ) → (length arguments ≤ count) ⊎ (length types ≤ count) → (old new : Graph) → Joins tac callee (Below One count) old new
      → Joins tac callee (ArePassed callee copies owner called types arguments) old new
  all_passed count none old new joins =
      joins_for tac made callee old new (Below One count) (ArePassed callee copies owner called types arguments) (λ graph are number less c_type argument. are number c_type argument)
      (λ below number c_type argument at its is. below number (less none number c_type argument at its) c_type argument at its is) joins
    where
      less : (length arguments ≤ count) ⊎ (length types ≤ count) → (number : ℕ) (c_type : CType) (argument : Register) → slice_get types number ≡ Some c_type → slice_get arguments number ≡ Some argument → number < count
      less (inl out) number c_type argument at its = let within = slice_get_within arguments number argument its in omega (arith, within, out)
      less (inr out) number c_type argument at its = let within = slice_get_within types number c_type at in omega (arith, within, out)

-- ---- one argument, and the result

-- the formal has a target, to whose copy the argument comes
pub passed_one : (tac : Tac) (made : AreMade tac.structs) (callee : Graph) (copies : ℕ → Option ℕ) (argument its : Name) (target : Target) → callee.targets its ≡ Some target → (old new : Graph)
    → Joins tac callee (IsImage copies argument target) old new → Joins tac callee (IsPassed callee copies argument its) old new
passed_one tac made callee copies argument its target is old new joins =
    joins_for tac made callee old new (IsImage copies argument target) (IsPassed callee copies argument its)
    (λ graph passed. subst (λ t. IsImage copies argument t graph) (same_Some passed.target target (sym passed.is ∙ is)) passed.comes)
    (λ comes. record { target = target; is = is; comes = comes }) joins

pub given_one : (tac : Tac) (made : AreMade tac.structs) (callee : Graph) (copies : ℕ → Option ℕ) (name its : Name) (target : Target) → callee.targets its ≡ Some target → (old new : Graph)
    → Joins tac callee (IsImage copies name target) old new → Joins tac callee (Comes callee copies name its) old new
given_one tac made callee copies name its target at old new joins =
    joins_for tac made callee old new (IsImage copies name target) (Comes callee copies name its) (λ graph comes. comes target at)
    (λ image other is. subst (λ t. IsImage copies name t new) (same_Some target other (sym at ∙ is)) image) joins

pub nothing_given : (tac : Tac) (made : AreMade tac.structs) (callee : Graph) (copies : ℕ → Option ℕ) (name its : Name) → callee.targets its ≡ None → (graph : Graph) → IsSound tac.structs graph
    → Joins tac callee (Comes callee copies name its) graph graph
nothing_given tac made callee copies name its none graph sound =
    joins_same tac made callee graph sound (Comes callee copies name its) (λ target is. absurd (none-some target (sym none ∙ is)))

-- where the function gives a pointer to an object or to void
pub given_if : (tac : Tac) (made : AreMade tac.structs) (callee : Graph) (copies : ℕ → Option ℕ) (owner : Owner) (site called : ℕ) (c_type : CType) → is_data_pointer (result_of c_type) ≡ true → (old new : Graph)
    → Joins tac callee (Comes callee copies (OfRegister owner (R.Call site)) (OfResult (InFunction called))) old new → Joins tac callee (IsGiven callee copies owner site called c_type) old new
given_if tac made callee copies owner site called c_type is old new joins =
    joins_for tac made callee old new (Comes callee copies (OfRegister owner (R.Call site)) (OfResult (InFunction called))) (IsGiven callee copies owner site called c_type)
    (λ graph given. given is) (λ comes pointer. comes) joins

-- ---- a call

module _ (tac : Tac) (made : AreMade tac.structs) (callee : Graph) (copies : ℕ → Option ℕ) (owner : Owner) (site : ℕ) (arguments : List Register) (called : ℕ) where
  abbrev Passed : Graph → Type 0
  Passed = ArePassed callee copies owner called (parameters_of (function_type tac called)) arguments

  abbrev Given : Graph → Type 0
  Given = IsGiven callee copies owner site called (function_type tac called)

  -- arguments first, then the result
  pub call_joined : (one two three : Graph) → IsSound tac.structs one → IsSound tac.structs two → Joins tac callee Passed one two → Joins tac callee Given two three
      → Joins tac callee (IsJoined tac owner site arguments called callee copies) one three
  call_joined one two three sound second passed given =
      joins_for tac made callee one three (λ g. Passed g × Given g) (IsJoined tac owner site arguments called callee copies) (λ g its. (its.passed, its.given)) (λ its. record { passed = its.0; given = its.1 })
      (joins_then tac made callee one two three sound second Passed Given (λ g. Passed g × Given g)
      (are_passed_kept tac.structs made callee copies owner called (parameters_of (function_type tac called)) arguments) (λ g its. its) (λ g a b. (a, b)) passed given)
