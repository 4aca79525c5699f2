-- The types of the library's functions.
use Rattle.std.proofs.Common.{◌≡◌, ℕ, false, Some, ◌∙◌}
use Rattle.c_num.specs.declared.IntType.{IntType}
use Rattle.c_typed.specs.declared.c_type.CType as number
use Rattle.c_typed.specs.declared.c_type.Parameters as numbers
use Rattle.c_typed.specs.declared.typed.LibraryFunction.{LibraryFunction}
use Rattle.c_typed.specs.Types.{CType, Void, Integer, Pointer, Function, NoTypes, MoreTypes}
use Rattle.c_typed.specs.Table.{Interned, type_in, types_in, integer_number}
use Rattle.c_typed.proofs.Grown.{grows_trans, void_stands, integer_stands}
use Rattle.c_rules.specs.declared.constness.Constness.TheVariants as C
use Rattle.c_types_state.specs.declared.known.TypedExpr.TheVariants as E
use Rattle.c_types_state.specs.declared.known.Address.TheVariants as A
use Rattle.c_rules.specs.Known.{give, OfLibrary}
use Rattle.c_rules.specs.Names.{library_type}
use Rattle.c_types_state.specs.NameTables.{State}
use Rattle.c_types_state.specs.Finding.{Finds, IsType, IsTypes, IsExpr}
use Rattle.c_types_expressions.specs.Calls.{library_known}

-- a type that is made behind another step
module _ {A B : Type 0} {Is : Interned → B → A → Type 0} {s t u : State} {a : A} {b : B} where
  type_behind : (made : number.CType) (its its' : CType) → Finds Is (give a) s t (Some b) → Finds IsType (give its) t u (Some made) → its ≡ its' → Finds IsType (give its') s u (Some made)
  type_behind made its its' first second e =
      record {
        grows = grows_trans s.table t.table u.table first.grows second.grows;
        scope = second.scope ∙ first.scope;
        least = second.least ∙ first.least;
        known = (second.known.0, second.known.1 ∙ e);
      }

-- the same type by another name
same_made : {s t : State} (made : number.CType) (its its' : CType) → Finds IsType (give its) s t (Some made) → its ≡ its' → Finds IsType (give its') s t (Some made)
same_made made its its' found e = record { grows = found.grows; scope = found.scope; least = found.least; known = (found.known.0, found.known.1 ∙ e) }

module _ (s t u : State) (made : number.CType) where
  -- a function from integers to a pointer to `void`
  pub to_pointer : (void pointer integer : number.CType) (i : IntType) → void.0 ≡ 0 → integer.0 ≡ integer_number i → Finds IsType (give (Pointer (type_in s.table void))) s t (Some pointer) → Finds IsType (give (Function (type_in t.table pointer) (MoreTypes (type_in t.table integer) NoTypes))) t u (Some made) → Finds IsType (give (Function (Pointer Void) (MoreTypes (Integer i) NoTypes))) s u (Some made)
  to_pointer void pointer integer i is_void is_integer first second =
      let e = first.known.1 ∙ (λ j. Pointer ((void_stands s.table void is_void).1 j)) in
      let e' = (integer_stands t.table integer i is_integer).1 in
      type_behind made (Function (type_in t.table pointer) (MoreTypes (type_in t.table integer) NoTypes)) (Function (Pointer Void) (MoreTypes (Integer i) NoTypes)) first second (λ j. Function (e j) (MoreTypes (e' j) NoTypes))

  -- a function from pointers to `void`
  pub from_pointer : (void pointer : number.CType) → void.0 ≡ 0 → Finds IsType (give (Pointer (type_in s.table void))) s t (Some pointer) → Finds IsType (give (Function (type_in t.table void) (MoreTypes (type_in t.table pointer) NoTypes))) t u (Some made) → Finds IsType (give (Function Void (MoreTypes (Pointer Void) NoTypes))) s u (Some made)
  from_pointer void pointer is_void first second =
      let e = first.known.1 ∙ (λ j. Pointer ((void_stands s.table void is_void).1 j)) in
      let e' = (void_stands t.table void is_void).1 in
      type_behind made (Function (type_in t.table void) (MoreTypes (type_in t.table pointer) NoTypes)) (Function Void (MoreTypes (Pointer Void) NoTypes)) first second (λ j. Function (e' j) (MoreTypes (e j) NoTypes))

  -- a function from nothing to integers
  pub from_nothing : (integer : number.CType) (none : numbers.Parameters) (i : IntType) → integer.0 ≡ integer_number i → Finds IsTypes (give NoTypes) s t (Some none) → Finds IsType (give (Function (type_in t.table integer) (types_in t.table none))) t u (Some made) → Finds IsType (give (Function (Integer i) NoTypes)) s u (Some made)
  from_nothing integer none i is_integer first second =
      let e = (integer_stands t.table integer i is_integer).1 in
      type_behind made (Function (type_in t.table integer) (types_in t.table none)) (Function (Integer i) NoTypes) first second (λ j. Function (e j) (first.known.1 j))

module _ (s t : State) (made integer : number.CType) (i : IntType) (is_integer : integer.0 ≡ integer_number i) where
  -- functions of integers
  pub from_integer : Finds IsType (give (Function (type_in s.table integer) (MoreTypes (type_in s.table integer) NoTypes))) s t (Some made) → Finds IsType (give (Function (Integer i) (MoreTypes (Integer i) NoTypes))) s t (Some made)
  from_integer found =
      let e = (integer_stands s.table integer i is_integer).1 in
      same_made made (Function (type_in s.table integer) (MoreTypes (type_in s.table integer) NoTypes)) (Function (Integer i) (MoreTypes (Integer i) NoTypes)) found (λ j. Function (e j) (MoreTypes (e j) NoTypes))

  pub to_nothing : (void : number.CType) → void.0 ≡ 0 → Finds IsType (give (Function (type_in s.table void) (MoreTypes (type_in s.table integer) NoTypes))) s t (Some made) → Finds IsType (give (Function Void (MoreTypes (Integer i) NoTypes))) s t (Some made)
  to_nothing void is_void found =
      let e = (void_stands s.table void is_void).1 in
      let e' = (integer_stands s.table integer i is_integer).1 in
      same_made made (Function (type_in s.table void) (MoreTypes (type_in s.table integer) NoTypes)) (Function Void (MoreTypes (Integer i) NoTypes)) found (λ j. Function (e j) (MoreTypes (e' j) NoTypes))

-- a name of one
pub library-found : (s t : State) (function : LibraryFunction) (groups : ℕ) (c_type : number.CType) → Finds IsType (give (library_type function)) s t (Some c_type) → Finds IsExpr (give (library_known function groups)) s t (Some (record { c_type = c_type; typed = E.Library function groups; constness = C.NotConstant; is_null = false; address = A.Unknown }))
library-found s t function groups c_type found =
    record {
      grows = found.grows;
      scope = found.scope;
      least = found.least;
      known = ((found.known.0, tt, tt), λ i. record { c_type = found.known.1 i; typed = OfLibrary function groups; constness = C.NotConstant; is_null = false; address = (library_known function groups).address });
    }
