-- What a typed tree stands for stays where each type stays, and so while a table grows. A vector in a tree shows as a row, which stands for what its items do.
use Rattle.std.proofs.Common.{◌≡◌, ℕ, Bool, List, [], ◌∷◌, Box, Vec, Global, refl, sym, ap, subst, ◌∙◌}
use Rattle.run_theory.specs.declared.place.Pos.{Pos}
use Rattle.c_typed.specs.declared.c_type.CType as number
use Rattle.c_typed.specs.declared.typed.LibraryFunction.{LibraryFunction}
use Rattle.c_typed.specs.declared.typed.Designator.TheBlock.{hidden-the_row-Value-0, items_hidden-the_row-Value-0, items-the_row-Value}
use Rattle.c_typed.specs.declared.typed.Value as memory_value
use Rattle.c_typed.specs.declared.typed.Value.TheVariants as V
use Rattle.c_typed.specs.declared.typed.Object as memory_object
use Rattle.c_typed.specs.declared.typed.Object.TheVariants as O
use Rattle.c_typed.specs.declared.typed.Designator as memory_designator
use Rattle.c_typed.specs.declared.typed.Designator.TheVariants as D
use Rattle.c_typed.specs.Typed
use Rattle.c_typed.specs.Table.{Interned, Grows, Stands, type_in}
use Rattle.c_typed.specs.Views.{value_in, object_in, designator_in, row_in, values_in, ValueStands, ObjectStands, DesignatorStands, RowStands, ValuesStand}
use Rattle.c_typed.proofs.Grown.{stays}

-- each type stands, and for the same
abbrev pub TypesStay : Interned → Interned → Type 0
TypesStay old new = (t : number.CType) → Stands old t → Stands new t × (type_in new t ≡ type_in old t)

module _ (old new : Interned) (keeps : TypesStay old new) where
  mutual
    pub value_keeps : (v : memory_value.Value) → ValueStands old v → ValueStands new v × (value_in new v ≡ value_in old v)
    value_keeps (V.Constant int_type value) h = (tt, refl)
    value_keeps V.NullPointer h = (tt, refl)
    value_keeps (V.Grouped' p inner) h =
        let kept = value_keeps inner h in
        (kept.0, ap Typed.Grouped kept.1)
    value_keeps (V.Read' place p object) h =
        let kept = object_keeps object h in
        (kept.0, ap (Typed.Read place) kept.1)
    value_keeps (V.Decay' place p object) h =
        let kept = object_keeps object h in
        (kept.0, ap (Typed.Decay place) kept.1)
    value_keeps (V.FunctionValue' p function) h =
        let kept = designator_keeps function h in
        (kept.0, ap Typed.FunctionValue kept.1)
    value_keeps (V.Converted' int_type p value) h =
        let kept = value_keeps value h in
        (kept.0, ap (Typed.Converted int_type) kept.1)
    value_keeps (V.Repointed' place target p value) h =
        let first = keeps target h.0 in
        let second = value_keeps value h.1 in
        ((first.0, second.0), λ i. Typed.Repointed place (first.1 i) (second.1 i))
    value_keeps (V.MadeNull' target p value) h =
        let first = keeps target h.0 in
        let second = value_keeps value h.1 in
        ((first.0, second.0), λ i. Typed.MadeNull (first.1 i) (second.1 i))
    value_keeps (V.Tested' place p value) h =
        let kept = value_keeps value h in
        (kept.0, ap (Typed.Tested place) kept.1)
    value_keeps (V.Plus' p operand) h =
        let kept = value_keeps operand h in
        (kept.0, ap Typed.Plus kept.1)
    value_keeps (V.Minus' place int_type p operand) h =
        let kept = value_keeps operand h in
        (kept.0, ap (Typed.Minus place int_type) kept.1)
    value_keeps (V.Complement' int_type p operand) h =
        let kept = value_keeps operand h in
        (kept.0, ap (Typed.Complement int_type) kept.1)
    value_keeps (V.Not' p operand) h =
        let kept = value_keeps operand h in
        (kept.0, ap Typed.Not kept.1)
    value_keeps (V.Arithmetic' op place int_type p left q right) h =
        let first = value_keeps left h.0 in
        let second = value_keeps right h.1 in
        ((first.0, second.0), λ i. Typed.Arithmetic op place int_type (first.1 i) (second.1 i))
    value_keeps (V.Compare' relation p left q right) h =
        let first = value_keeps left h.0 in
        let second = value_keeps right h.1 in
        ((first.0, second.0), λ i. Typed.Compare relation (first.1 i) (second.1 i))
    value_keeps (V.ComparePointers' relation place p left q right) h =
        let first = value_keeps left h.0 in
        let second = value_keeps right h.1 in
        ((first.0, second.0), λ i. Typed.ComparePointers relation place (first.1 i) (second.1 i))
    value_keeps (V.PointerPlus' place p pointer q number) h =
        let first = value_keeps pointer h.0 in
        let second = value_keeps number h.1 in
        ((first.0, second.0), λ i. Typed.PointerPlus place (first.1 i) (second.1 i))
    value_keeps (V.NumberPlus' place p number q pointer) h =
        let first = value_keeps number h.0 in
        let second = value_keeps pointer h.1 in
        ((first.0, second.0), λ i. Typed.NumberPlus place (first.1 i) (second.1 i))
    value_keeps (V.PointerMinus' place p pointer q number) h =
        let first = value_keeps pointer h.0 in
        let second = value_keeps number h.1 in
        ((first.0, second.0), λ i. Typed.PointerMinus place (first.1 i) (second.1 i))
    value_keeps (V.PointerDifference' place p left q right) h =
        let first = value_keeps left h.0 in
        let second = value_keeps right h.1 in
        ((first.0, second.0), λ i. Typed.PointerDifference place (first.1 i) (second.1 i))
    value_keeps (V.And' p left q right) h =
        let first = value_keeps left h.0 in
        let second = value_keeps right h.1 in
        ((first.0, second.0), λ i. Typed.And (first.1 i) (second.1 i))
    value_keeps (V.Or' p left q right) h =
        let first = value_keeps left h.0 in
        let second = value_keeps right h.1 in
        ((first.0, second.0), λ i. Typed.Or (first.1 i) (second.1 i))
    value_keeps (V.Conditional' p condition q taken r otherwise) h =
        let first = value_keeps condition h.0 in
        let second = value_keeps taken h.1 in
        let third = value_keeps otherwise h.2 in
        ((first.0, second.0, third.0), λ i. Typed.Conditional (first.1 i) (second.1 i) (third.1 i))
    value_keeps (V.AddressOf' place p object) h =
        let kept = object_keeps object h in
        (kept.0, ap (Typed.AddressOf place) kept.1)
    value_keeps (V.AddressOfFunction' p function) h =
        let kept = designator_keeps function h in
        (kept.0, ap Typed.AddressOfFunction kept.1)
    value_keeps (V.Cast' p value) h =
        let kept = value_keeps value h in
        (kept.0, ap Typed.Cast kept.1)
    value_keeps (V.CastVoid' p value) h =
        let kept = value_keeps value h in
        (kept.0, ap Typed.CastVoid kept.1)
    value_keeps (V.Assign' place p object q value) h =
        let first = object_keeps object h.0 in
        let second = value_keeps value h.1 in
        ((first.0, second.0), λ i. Typed.Assign place (first.1 i) (second.1 i))
    value_keeps (V.AssignArithmetic' op place object_type int_type p object q value) h =
        let first = object_keeps object h.0 in
        let second = value_keeps value h.1 in
        ((first.0, second.0), λ i. Typed.AssignArithmetic op place object_type int_type (first.1 i) (second.1 i))
    value_keeps (V.AssignMoved' is_minus place p object q number) h =
        let first = object_keeps object h.0 in
        let second = value_keeps number h.1 in
        ((first.0, second.0), λ i. Typed.AssignMoved is_minus place (first.1 i) (second.1 i))
    value_keeps (V.StepInteger' stepping place int_type p object) h =
        let kept = object_keeps object h in
        (kept.0, ap (Typed.StepInteger stepping place int_type) kept.1)
    value_keeps (V.StepPointer' stepping place p object) h =
        let kept = object_keeps object h in
        (kept.0, ap (Typed.StepPointer stepping place) kept.1)
    value_keeps (V.Call' is_used place p function c_type shape arguments) h =
        let first = designator_keeps function h.0 in
        let second = keeps c_type h.1 in
        let third = row_keeps arguments h.2 in
        ((first.0, second.0, third.0), λ i. Typed.Call is_used place (first.1 i) (second.1 i) (third.1 i))
    value_keeps (V.LibraryCall' function groups place shape arguments) h =
        let kept = row_keeps arguments h in
        (kept.0, ap (Typed.LibraryCall function groups place) kept.1)

    pub object_keeps : (v : memory_object.Object) → ObjectStands old v → ObjectStands new v × (object_in new v ≡ object_in old v)
    object_keeps (O.Local number) h = (tt, refl)
    object_keeps (O.Global name) h = (tt, refl)
    object_keeps (O.Literal place bytes c_type) h =
        let kept = keeps c_type h.0 in
        ((kept.0, kept.1 ∙ h.1), refl)
    object_keeps (O.Grouped' place p inner) h =
        let kept = object_keeps inner h in
        (kept.0, ap (Typed.GroupedObject place) kept.1)
    object_keeps (O.Pointed' place p pointer) h =
        let kept = value_keeps pointer h in
        (kept.0, ap (Typed.Pointed place) kept.1)
    object_keeps (O.Element' place p pointer q number) h =
        let first = value_keeps pointer h.0 in
        let second = value_keeps number h.1 in
        ((first.0, second.0), λ i. Typed.Element place (first.1 i) (second.1 i))
    object_keeps (O.ElementOf' place p number q pointer) h =
        let first = value_keeps number h.0 in
        let second = value_keeps pointer h.1 in
        ((first.0, second.0), λ i. Typed.ElementOf place (first.1 i) (second.1 i))
    object_keeps (O.MemberOf' place p object number) h =
        let kept = object_keeps object h in
        (kept.0, λ i. Typed.MemberOf place (kept.1 i) number)
    object_keeps (O.PointedMember' place p pointer number) h =
        let kept = value_keeps pointer h in
        (kept.0, λ i. Typed.PointedMember place (kept.1 i) number)

    pub designator_keeps : (v : memory_designator.Designator) → DesignatorStands old v → DesignatorStands new v × (designator_in new v ≡ designator_in old v)
    designator_keeps (D.Named name) h = (tt, refl)
    designator_keeps (D.Grouped' p inner) h =
        let kept = designator_keeps inner h in
        (kept.0, ap Typed.GroupedFunction kept.1)
    designator_keeps (D.Pointed' place p pointer) h =
        let kept = value_keeps pointer h in
        (kept.0, ap (Typed.PointedFunction place) kept.1)
    designator_keeps (D.ThroughPointer' place p pointer) h =
        let kept = value_keeps pointer h in
        (kept.0, ap (Typed.ThroughPointer place) kept.1)

    pub row_keeps : {shape : _} (row : memory_value.Row_of-Value shape) → RowStands old row → RowStands new row × (row_in new row ≡ row_in old row)
    row_keeps memory_value.end_of-Value h = (tt, refl)
    row_keeps (memory_value.more_of-Value first others) h =
        let first = value_keeps first h.0 in
        let second = row_keeps others h.1 in
        ((first.0, second.0), λ i. Typed.MoreValues (first.1 i) (second.1 i))

  pub values_keep : (vs : List memory_value.Value) → ValuesStand old vs → ValuesStand new vs × (values_in new vs ≡ values_in old vs)
  values_keep [] h = (tt, refl)
  values_keep (first ∷ others) h =
      let kept = value_keeps first h.0 in
      let rest = values_keep others h.1 in
      ((kept.0, rest.0), λ i. Typed.MoreValues (kept.1 i) (rest.1 i))

-- while a table grows each type stays
module _ (old new : Interned) (grows : Grows old new) where
  pub value_stays : (v : memory_value.Value) → ValueStands old v → ValueStands new v × (value_in new v ≡ value_in old v)
  value_stays v h = value_keeps old new (stays old new grows) v h

  pub object_stays : (v : memory_object.Object) → ObjectStands old v → ObjectStands new v × (object_in new v ≡ object_in old v)
  object_stays v h = object_keeps old new (stays old new grows) v h

  pub designator_stays : (v : memory_designator.Designator) → DesignatorStands old v → DesignatorStands new v × (designator_in new v ≡ designator_in old v)
  designator_stays v h = designator_keeps old new (stays old new grows) v h

  pub values_stay : (vs : List memory_value.Value) → ValuesStand old vs → ValuesStand new vs × (values_in new vs ≡ values_in old vs)
  values_stay vs h = values_keep old new (stays old new grows) vs h

-- ---- rows

module _ (table : Interned) where
  pub row_in-items : (shape : _) (row : memory_value.Row_of-Value shape) → row_in table row ≡ values_in table (items-the_row-Value shape row)
  row_in-items shape memory_value.end_of-Value = refl
  row_in-items shape (memory_value.more_of-Value first others) = ap (Typed.MoreValues (value_in table first)) (row_in-items _ others)

  pub RowStands-items : (shape : _) (row : memory_value.Row_of-Value shape) → ValuesStand table (items-the_row-Value shape row) → RowStands table row
  RowStands-items shape memory_value.end_of-Value h = tt
  RowStands-items shape (memory_value.more_of-Value first others) h = (h.0, RowStands-items _ others h.1)

  pub ValuesStand-items : (shape : _) (row : memory_value.Row_of-Value shape) → RowStands table row → ValuesStand table (items-the_row-Value shape row)
  ValuesStand-items shape memory_value.end_of-Value h = tt
  ValuesStand-items shape (memory_value.more_of-Value first others) h = (h.0, ValuesStand-items _ others h.1)

  -- the row that is made of a vector
  module _ (arguments : Vec memory_value.Value Global) where
    pub row_in-vec : row_in table (hidden-the_row-Value-0 arguments) ≡ values_in table arguments.items
    row_in-vec = row_in-items _ (hidden-the_row-Value-0 arguments) ∙ ap (values_in table) (items_hidden-the_row-Value-0 arguments)

    pub RowStands-vec : ValuesStand table arguments.items → RowStands table (hidden-the_row-Value-0 arguments)
    RowStands-vec h = RowStands-items _ (hidden-the_row-Value-0 arguments) (subst (ValuesStand table) (sym (items_hidden-the_row-Value-0 arguments)) h)

    pub ValuesStand-vec : RowStands table (hidden-the_row-Value-0 arguments) → ValuesStand table arguments.items
    ValuesStand-vec h = subst (ValuesStand table) (items_hidden-the_row-Value-0 arguments) (ValuesStand-items _ (hidden-the_row-Value-0 arguments) h)

    -- calls
    module _ (is_used : Bool) (place : Pos) (function : Box memory_designator.Designator Global) (c_type : number.CType) where
      pub value_in-call : value_in table (V.Call is_used place function c_type arguments) ≡ Typed.Call is_used place (designator_in table function.value) (type_in table c_type) (values_in table arguments.items)
      value_in-call = ap (Typed.Call is_used place (designator_in table function.value) (type_in table c_type)) row_in-vec

      pub ValueStands-call : DesignatorStands table function.value → Stands table c_type → ValuesStand table arguments.items → ValueStands table (V.Call is_used place function c_type arguments)
      ValueStands-call called its items = (called, its, RowStands-vec items)

    module _ (function : LibraryFunction) (groups : ℕ) (place : Pos) where
      pub value_in-library_call : value_in table (V.LibraryCall function groups place arguments) ≡ Typed.LibraryCall function groups place (values_in table arguments.items)
      value_in-library_call = ap (Typed.LibraryCall function groups place) row_in-vec

      pub ValueStands-library_call : ValuesStand table arguments.items → ValueStands table (V.LibraryCall function groups place arguments)
      ValueStands-library_call = RowStands-vec
