-- One argument of a call after the other, and then the result; one formal of two functions after the other, and then the results.
use Rattle.std.proofs.Common.{◌≡◌, ℕ, zero, suc, ◌+◌, ◌<◌, ◌≤◌, ◌⊎◌, true, false, List, [], ◌∷◌, length, drop, get_or, map, Some, inl, inr, refl, sym, ap, subst, ◌∙◌, arith, add-one}
use Rattle.std.specs.Prelude.{slice_get, option_map}
use Rattle.std.proofs.lemmas.Bool.{false≢true}
use Rattle.std.proofs.lemmas.List.{length-map}
use Rattle.std.proofs.lemmas.Option.{same_Some, slice_get_within, slice_get-map, slice_get_read}
use Rattle.c_typed.specs.Types.{CType}
use Rattle.c_typed.specs.Layouts.{StructDef}
use Rattle.c_typed.specs.Table.{Interned, type_in, shape_type, HasShape}
use Rattle.c_typed.specs.declared.c_type.CType as number
use Rattle.c_typed.specs.declared.c_type.Parameters as numbers
use Rattle.c_typed.specs.declared.c_type.Shape.{Shape}
use Rattle.c_typed.specs.declared.c_type.Shape.TheVariants as S
use Rattle.tac_ir.specs.declared.program.Function as memory_function
use Rattle.tac_ir.specs.declared.program.Tac as memory_tac
use Rattle.tac_ir.specs.declared.register.Register.{Register}
use Rattle.tac_ir.specs.Code.{Tac}
use Rattle.tac_ir.specs.States.{Owner, InFunction}
use Rattle.tac_ir.specs.Views.{tac_of, function_in}
use Rattle.heap_graph.specs.Structures.{AreMade}
use Rattle.heap_graph.specs.Graphs.{OfRegister, OfResult, Graph}
use Rattle.heap_graph.specs.Points.{is_data_pointer}
use Rattle.heap_graph.specs.Merging.{IsSound}
use Rattle.heap_graph.specs.Closed.{parameters_of, type_of, function_type, formal}
use Rattle.graph_unification.specs.Standing.{CodeStands}
use Rattle.dsa_local.specs.Joined.{HaveOne, IsPassed, ArePassed, IsTaken, IsJoined, AreJoined, Joins}
use Rattle.dsa_local.proofs.Joining.{Keeps, Below, one_kept, passed_kept, joins_same, joins_then, joins_for}
use Rattle.dsa_local.proofs.InnerCalls.Kept.{are_passed_kept}

-- ---- what is read of functions in memory

module _ (tac : memory_tac.Tac) (called : ℕ) (function : memory_function.Function) (within : called < length tac.functions.items) (read : function ≡ get_or tac.functions.items called function) where
  function_there : slice_get (tac_of tac).functions called ≡ Some (function_in tac.types function)
  function_there = slice_get-map (function_in tac.types) tac.functions.items called ∙ ap (option_map (function_in tac.types)) (slice_get_read tac.functions.items (length tac.functions.items) called function refl within read)

  pub type_read : function_type (tac_of tac) called ≡ type_in tac.types function.c_type
  type_read = ap type_of function_there

  pub parameters_read : CodeStands (tac_of tac) → function.parameters ≡ length (parameters_of (function_type (tac_of tac) called))
  parameters_read code = code.parameters called (function_in tac.types function) function_there ∙ ap (λ t. length (parameters_of t)) (sym type_read)

-- what is read of an item
pub item_told : {X Y : Type 0} (f : X → Y) (xs : List X) (i : ℕ) (x : X) → x ≡ get_or xs i x → i < length xs → (y : Y) → slice_get (map f xs) i ≡ Some y → f x ≡ y
item_told f xs i x is within y at =
    same_Some (f x) y (sym (slice_get-map f xs i ∙ ap (option_map f) (slice_get_read xs (length xs) i x refl within is)) ∙ at)

pub mapped_within : {X Y : Type 0} (f : X → Y) (xs : List X) (i : ℕ) (y : Y) → slice_get (map f xs) i ≡ Some y → i < length xs
mapped_within f xs i y at = let less = slice_get_within (map f xs) i y at in let long = length-map xs f in omega (arith, less, long)

-- the type of the next formal, and those behind it
pub next_formal : (types others : List CType) (number : ℕ) (first : CType) → drop number types ≡ first ∷ others → (slice_get types number ≡ Some first) × (drop (number + 1) types ≡ others)
next_formal types others number first is = let parts = by types number is in (parts.0, ap (λ n. drop n types) (add-one number) ∙ parts.1)
  where
    empty : (number : ℕ) → drop number [] ≡ first ∷ others → ⊥
    empty zero e = cc
    empty (suc number) e = cc

    by : (types : List CType) (number : ℕ) → drop number types ≡ first ∷ others → (slice_get types number ≡ Some first) × (drop (suc number) types ≡ others)
    by [] number e = absurd (empty number e)
    by (c_type ∷ types) zero e = (cc, cc)
    by (c_type ∷ types) (suc number) e = by types number e

pub no_formal : (types : List CType) (number : ℕ) → drop number types ≡ [] → length types ≤ number
no_formal [] number is = omega arith
no_formal (c_type ∷ types) zero is = absurd (cc)
no_formal (c_type ∷ types) (suc number) is = let rest = no_formal types number is in omega (arith, rest)

-- what is no function has no formals
pub no_function : (table : Interned) (c_type : CType) (shape : Shape) → HasShape table c_type shape → ((result : number.CType) (parameters : numbers.Parameters) → shape ≡ S.Function result parameters → ⊥)
    → parameters_of c_type ≡ []
no_function table c_type shape has other = ap parameters_of has.means ∙ by shape other
  where
    by : (shape : Shape) → ((result : number.CType) (parameters : numbers.Parameters) → shape ≡ S.Function result parameters → ⊥) → parameters_of (shape_type table shape) ≡ []
    by S.Void none = refl
    by (S.Integer int_type) none = refl
    by (S.Pointer target) none = refl
    by (S.Array element many) none = refl
    by (S.Struct tag) none = refl
    by (S.Function result parameters) none = absurd (none result parameters refl)

-- ---- arguments

-- the argument of a number
abbrev pub OnePassed : Owner → ℕ → List CType → List Register → ℕ → Graph → Type 0
OnePassed owner called types arguments number graph =
    (c_type : CType) (argument : Register) → slice_get types number ≡ Some c_type → slice_get arguments number ≡ Some argument → is_data_pointer c_type ≡ true
    → IsPassed (OfRegister owner argument) (formal called number) graph

module _ (structs : List StructDef) (made : AreMade structs) (owner : Owner) (called : ℕ) (types : List CType) (arguments : List Register) where
  abbrev One : ℕ → Graph → Type 0
  One = OnePassed owner called types arguments

  pub one_passed_kept : (number : ℕ) → Keeps structs (One number)
  one_passed_kept number old new sound goes one = λ c_type argument at its is. passed_kept structs made (OfRegister owner argument) (formal called number) old new sound goes (one c_type argument at its is)

  pub this_passed : (number : ℕ) (first : CType) (argument : Register) → slice_get types number ≡ Some first → slice_get arguments number ≡ Some argument → is_data_pointer first ≡ true → (old new : Graph)
      → Joins structs old new (IsPassed (OfRegister owner argument) (formal called number)) → Joins structs old new (One number)
  this_passed number first argument at its is old new joins =
      joins_for structs made old new (IsPassed (OfRegister owner argument) (formal called number)) (One number) (λ graph one. one first argument at its is)
      (λ passed c_type other here there pointer. subst (λ r. IsPassed (OfRegister owner r) (formal called number) new) (same_Some argument other (sym its ∙ there)) passed) joins

  pub not_passed : (number : ℕ) (first : CType) → slice_get types number ≡ Some first → is_data_pointer first ≡ false → (graph : Graph) → IsSound structs graph → Joins structs graph graph (One number)
  not_passed number first at is graph sound =
      joins_same structs made graph sound (One number)
      (λ c_type argument here there pointer. absurd (false≢true (sym is ∙ (ap is_data_pointer (same_Some first c_type (sym at ∙ here)) ∙ pointer))))

  -- there are no more arguments, or no more formals
  pub all_passed : (count : ℕ) → (length arguments ≤ count) ⊎ (length types ≤ count) → (old new : Graph) → Joins structs old new (Below One count) → Joins structs old new (ArePassed owner called types arguments)
  all_passed count none old new joins =
      joins_for structs made old new (Below One count) (ArePassed owner called types arguments) (λ graph are number less c_type argument. are number c_type argument)
      (λ below number c_type argument at its is. below number (less none number c_type argument at its) c_type argument at its is) joins
    where
      less : (length arguments ≤ count) ⊎ (length types ≤ count) → (number : ℕ) (c_type : CType) (argument : Register) → slice_get types number ≡ Some c_type → slice_get arguments number ≡ Some argument → number < count
      less (inl out) number c_type argument at its = let within = slice_get_within arguments number argument its in omega (arith, within, out)
      less (inr out) number c_type argument at its = let within = slice_get_within types number c_type at in omega (arith, within, out)

-- arguments first, then the result
module _ (structs : List StructDef) (made : AreMade structs) (tac : Tac) (owner : Owner) (site : ℕ) (arguments : List Register) (called : ℕ) where
  pub call_joined : (one two three : Graph) → IsSound structs one → IsSound structs two → (c_type : CType) → function_type tac called ≡ c_type
      → Joins structs one two (ArePassed owner called (parameters_of c_type) arguments) → Joins structs two three (IsTaken owner site called c_type) → Joins structs one three (IsJoined tac owner site arguments called)
  call_joined one two three sound fine c_type same passed taken =
      joins_then structs made one two three sound fine (ArePassed owner called (parameters_of c_type) arguments) (IsTaken owner site called c_type) (IsJoined tac owner site arguments called)
      (are_passed_kept structs made owner called (parameters_of c_type) arguments)
      (λ graph joined. (subst (λ t. ArePassed owner called (parameters_of t) arguments graph) same joined.passed, subst (λ t. IsTaken owner site called t graph) same joined.taken))
      (λ graph first then. record {
        passed = subst (λ t. ArePassed owner called (parameters_of t) arguments graph) (sym same) first;
        taken = subst (λ t. IsTaken owner site called t graph) (sym same) then;
      })
      passed taken

-- ---- two functions

abbrev pub OneFormal : ℕ → ℕ → ℕ → Graph → Type 0
OneFormal a b number = HaveOne (formal a number) (formal b number)

module _ (structs : List StructDef) (made : AreMade structs) (tac : Tac) (a b : ℕ) where
  pub one_formal_kept : (number : ℕ) → Keeps structs (OneFormal a b number)
  one_formal_kept number = one_kept structs made (formal a number) (formal b number)

  pub functions_joined : (one two three : Graph) → IsSound structs one → IsSound structs two → (count : ℕ) → count ≡ length (parameters_of (function_type tac a))
      → Joins structs one two (Below (OneFormal a b) count) → Joins structs two three (HaveOne (OfResult (InFunction a)) (OfResult (InFunction b))) → Joins structs one three (AreJoined tac a b)
  functions_joined one two three sound fine count many first then =
      joins_then structs made one two three sound fine (Below (OneFormal a b) count) (HaveOne (OfResult (InFunction a)) (OfResult (InFunction b))) (AreJoined tac a b)
      (λ old new its goes all number less. one_formal_kept number old new its goes (all number less))
      (λ graph joined. ((λ number less. joined.formals number (omega (arith, less, many))), joined.result))
      (λ graph formals result. record { formals = λ number less. formals number (omega (arith, less, many)); result = result })
      first then
