-- The types and counts of expressions by those of their operands.
use Rattle.std.proofs.Common.{◌≡◌, ℕ, suc, ◌+◌, ◌<◌, Bool, Box, Global, List, ◌∷◌, Vec, length, drop, get_or, Result, Ok, Err, IfOk, OnOk, sym, ap, subst, ◌∙◌, arith}
use Rattle.std.proofs.lemmas.List.{drop_more}
use Rattle.run_theory.specs.declared.place.Pos.{Pos}
use Rattle.c_typed.specs.declared.c_type.CType as number
use Rattle.c_typed.specs.declared.typed.LibraryFunction.{LibraryFunction}
use Rattle.c_typed.specs.declared.typed.Value as memory_value
use Rattle.c_typed.specs.declared.typed.Value.TheVariants as V
use Rattle.c_typed.specs.declared.typed.Designator as memory_designator
use Rattle.c_typed.specs.Views.{DesignatorStands}
use Rattle.c_typed.proofs.TypedStays.{value_in-call, value_in-library_call, ValuesStand-vec}
use Rattle.c_typed.specs.declared.c_type.Shape.{Shape}
use Rattle.c_typed.specs.Types.{CType}
use Rattle.c_typed.specs.Table.{Interned, type_in, shape_type}
use Rattle.dsa_bottom_up.specs.declared.counts.Counted.{Counted}
use Rattle.dsa_bottom_up.specs.declared.counts.CountedPlace.{CountedPlace}
use Rattle.dsa_bottom_up.specs.declared.names.Names.{Names}
use Rattle.dsa_bottom_up.specs.ExpressionTypes.{value_type, returned_by, library_type}
use Rattle.dsa_bottom_up.specs.Counting.{point, counted_value}
use Rattle.dsa_bottom_up.specs.Counts.{Finds, FindsPlace, CountsCall, CountsValue, CountsValues, around_in, in_designator}

-- what holds of a result by two clauses
pub if_both : {X E : Type 0} {P Q R : X → Type 0} (r : Result X E) → ((x : X) → P x → Q x → R x) → IfOk r P → IfOk r Q → IfOk r R
if_both (Ok x) f p q = f x p q
if_both (Err e) f p q = tt

pub if_then : {X E : Type 0} {P R : X → Type 0} (r : Result X E) → ((x : X) → P x → R x) → IfOk r P → IfOk r R
if_then (Ok x) f p = f x p
if_then (Err e) f p = tt

pub on_ok : {X E : Type 0} {A : Type 0} (r : Result X E) → A → OnOk r A
on_ok (Ok x) a = a
on_ok (Err e) a = tt

pub if_all : {X E T : Type 0} (P : T → X → Type 0) (r : Result X E) → ((t : T) → IfOk r (P t)) → IfOk r (λ x. (t : T) → P t x)
if_all P (Ok x) h = h
if_all P (Err e) h = tt

-- ---- values

-- an expression that counts by its type
pub whole : (table : Interned) (shape : Shape) (below n : ℕ) (of : CType) (made : Counted) → shape_type table shape ≡ of → below ≡ n
    → made.shape ≡ shape → made.count ≡ point (shape_type table shape) + below → Finds table of (point of + n) made
whole table shape below n of made is count same total = record { shape = ap (shape_type table) same ∙ is; count = total ∙ (λ i. point (is i) + count i) }

-- one of this shape and count
pub shaped : (table : Interned) (shape : Shape) (count n : ℕ) (of : CType) (made : Counted) → shape_type table shape ≡ of → count ≡ n → made.shape ≡ shape → made.count ≡ count → Finds table of n made
shaped table shape count n of made is counts same total = record { shape = ap (shape_type table) same ∙ is; count = total ∙ counts }

-- sums
pub sum_of : (a b c m n : ℕ) → c ≡ a + b → a ≡ m → b ≡ n → c ≡ m + n
sum_of a b c m n is first second = is ∙ (λ i. first i + second i)

-- ---- objects and functions

pub whole_place : (table : Interned) (c_type : number.CType) (below n : ℕ) (of : CType) (made : CountedPlace) → type_in table c_type ≡ of → below ≡ n
    → made.c_type ≡ c_type → made.count ≡ point (type_in table c_type) + below → FindsPlace table of (point of + n) made
whole_place table c_type below n of made is count same total = record { c_type = ap (type_in table) same ∙ is; count = total ∙ (λ i. point (is i) + count i) }

pub placed : (table : Interned) (c_type : number.CType) (count n : ℕ) (of : CType) (made : CountedPlace) → type_in table c_type ≡ of → count ≡ n → made.c_type ≡ c_type → made.count ≡ count → FindsPlace table of n made
placed table c_type count n of made is counts same total = record { c_type = ap (type_in table) same ∙ is; count = total ∙ counts }

pub direct : (table : Interned) (c_type : number.CType) (of : CType) (made : CountedPlace) → type_in table c_type ≡ of → made.c_type ≡ c_type → made.count ≡ point (type_in table c_type) + 0 → FindsPlace table of (point of) made
direct table c_type of made is same total = record { c_type = ap (type_in table) same ∙ is; count = omega (arith, total, ap point is) }

-- ---- calls

module _ (table : Interned) (names : Names) (scope : List number.CType) where
  -- a call, by what counts in the called expression and in the arguments
  pub call_counts : (made : Counted) (arguments : Vec memory_value.Value Global) (is_used : Bool) (place : Pos) (function : Box memory_designator.Designator Global) (c_type : number.CType)
      → (shape : Shape) (name n : ℕ) → shape_type table shape ≡ returned_by (type_in table c_type) → (DesignatorStands table function.value → name ≡ in_designator table names scope function.value)
      → CountsValues table names scope arguments.items n → CountsCall shape name n made → CountsValue table names scope (V.Call is_used place function c_type arguments) made
  call_counts made arguments is_used place function c_type shape name n is called given its = λ stands.
      subst (λ tree. Finds table (value_type (around_in table names scope) tree) (counted_value (around_in table names scope) tree) made) (sym (value_in-call table arguments is_used place function c_type))
      (whole table shape (name + n) _ _ made is (λ i. called stands.0 i + given (ValuesStand-vec table arguments stands.2) i) its.own (its.total table))

  pub library_call_counts : (made : Counted) (arguments : Vec memory_value.Value Global) (function : LibraryFunction) (groups : ℕ) (place : Pos)
      → (shape : Shape) (name n : ℕ) → shape_type table shape ≡ library_type function → name ≡ suc groups
      → CountsValues table names scope arguments.items n → CountsCall shape name n made → CountsValue table names scope (V.LibraryCall function groups place arguments) made
  library_call_counts made arguments function groups place shape name n is called given its = λ stands.
      subst (λ tree. Finds table (value_type (around_in table names scope) tree) (counted_value (around_in table names scope) tree) made) (sym (value_in-library_call table arguments function groups place))
      (whole table shape (name + n) _ _ made is (λ i. called i + given (ValuesStand-vec table arguments stands) i) its.own (its.total table))

-- the next of the items that are left
pub next_left : {X : Type 0} (items : List X) (here : ℕ) (item : X) → here < length items → item ≡ get_or items here item → drop here items ≡ item ∷ drop (here + 1) items
next_left items here item within is = drop_more items here item within ∙ ap (λ first. first ∷ drop (here + 1) items) (sym is)
