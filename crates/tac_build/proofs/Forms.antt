-- The code of a well typed expression comes to what its type asks.
use Rattle.std.proofs.Common.{◌≡◌, ℕ, suc, Bool, true, false, not, ◌&&◌, ◌||◌, ◌==◌, if◌then◌else◌, List, [], ◌∷◌, length, Option, Some, None, refl, sym, ap, ◌∙◌, subst, bytes_eq}
use Rattle.std.proofs.lemmas.Bool.{false≢true, true≢false, and_parts}
use Rattle.std.proofs.lemmas.Option.{none-some, same_Some}
use Rattle.c_num.specs.declared.IntType.{IntType}
use Rattle.c_num.specs.declared.IntType.TheVariants as I
use Rattle.c_num.specs.Types.{is_value}
use Rattle.c_typed.specs.declared.typed.LibraryFunction.{LibraryFunction}
use Rattle.c_typed.specs.declared.typed.LibraryFunction.TheVariants as L
use Rattle.c_typed.specs.declared.typed.Stepping.{Stepping}
use Rattle.c_typed.specs.declared.typed.Stepping.TheVariants as Steppings
use Rattle.c_typed.specs.Types.{CType, CTypes, Void, Integer, Pointer, Array, Struct, Function, NoTypes, MoreTypes, int, literal_type, same_type, same_types, is_integer, is_pointer, is_void, is_void_pointer, is_object_pointer}
use Rattle.c_typed.specs.Layouts.{StructDef}
use Rattle.c_typed.specs.Typed as T
use Rattle.c_typed.specs.Typed.{Program, Value, Values, Object, Designator, GlobalDef, FunctionDef}
use Rattle.c_typed.proofs.Same.{same_type-true}
use Rattle.c_typed.specs.Context.{Context, local_type, global_type, function_type, literal_bytes}
use Rattle.c_typed.specs.Expressions.{given, given_two, where_holds, is_scalar, is_conversion, is_pointer_to_complete, is_right, are_comparable, repoints, first_element, pointed, pointed_function, element, member_of, moved, all_scalar, result_of, library_result, type_of, types_of, type_of_object, type_of_designator}
use Rattle.c_typed.proofs.Splitting.{held_parts, given_parts, unless_parts, two_parts, same_parts, other_parts, first_parts, both_parts, pointed_parts, element_parts, pointed_function_is}
use Rattle.tac_ir.specs.declared.register.Local.{Local}
use Rattle.tac_ir.specs.declared.register.Register.{Register}
use Rattle.tac_ir.specs.Code.{Tree, Path, Callee, Known, Through, Op}
use Rattle.tac_ir.specs.First.{named_global}
use Rattle.tac_build.specs.Homes.{Home, Scope, home_of, in_register, register_home, home_behind, is_pure}
use Rattle.tac_build.specs.Spots.{Spot, Lowered, AsInteger, AsPointer, AsObject, AsNothing, Mode, Kept, Dropped, Behind, Row, is_used, is_followed, is_address, cast_mode, pointed_mode}
use Rattle.tac_build.specs.Code.{PartCode, compound_tree, type_of_function, type_of_member, gives_old, is_up, pointed_by, call_gives, ReadsLocal, Loads, WritesLocal, Stores, Joins, Decays, TakesAddress, Addresses, StepsLocal, StepsObject, Indexes, ReadCode, MovedCode, AssignCode, CompoundCode, PointerCode, OneCode, SteppingCode, ValueCode, LibraryCode, ArgumentsCode, DesignatorCode, ObjectCode}
use Rattle.tac_build.specs.Forms.{scope_types, context_of, NothingForm, HasForm, HasObjectForm, CalleeForm, count_of}

-- ---- types

pointer_is : {t u : CType} → Pointer t ≡ Pointer u → t ≡ u
pointer_is e = cc

pointer_not_integer : {t : CType} {own : IntType} → Pointer t ≡ Integer own → ⊥
pointer_not_integer e = cc

pointer_not_void : {t : CType} → Pointer t ≡ Void → ⊥
pointer_not_void e = cc

-- ---- forms, of what is told by equations

pub is_int : (mode : Mode) {own : IntType} {tree : Tree} {lowered : Lowered} {t : CType} → lowered ≡ AsInteger own tree → t ≡ Integer own → HasForm mode lowered t
is_int mode {t = t} at is = subst (λ l. HasForm mode l t) (sym at) is

pub is_ptr : (mode : Mode) {register : Register} {target : CType} {lowered : Lowered} {t : CType} → lowered ≡ AsPointer register target → t ≡ Pointer target → HasForm mode lowered t
is_ptr mode {t = t} at is = subst (λ l. HasForm mode l t) (sym at) is

nothing_void : (mode : Mode) {t : CType} → t ≡ Void → NothingForm mode t
nothing_void Kept is = is
nothing_void Dropped is = subst (λ u. is_pointer u ≡ false) (sym is) refl
nothing_void (Behind followed) is = is
nothing_void (Row followed) is = is

pub is_nothing : (mode : Mode) {lowered : Lowered} {t : CType} → lowered ≡ AsNothing → t ≡ Void → HasForm mode lowered t
is_nothing mode {t = t} at is = subst (λ l. HasForm mode l t) (sym at) (nothing_void mode is)

pub is_obj : (is_kept : Bool) {path : Path} {own : CType} {lowered : Lowered} {t : CType} → lowered ≡ AsObject path own → t ≡ own → HasObjectForm is_kept lowered t
is_obj is_kept {t = t} at is = subst (λ l. HasObjectForm is_kept l t) (sym at) is

-- what is kept has no other form elsewhere
pub kept_form : (mode : Mode) (lowered : Lowered) (t : CType) → HasForm Kept lowered t → HasForm mode lowered t
kept_form mode (AsInteger own tree) t form = form
kept_form mode (AsPointer register target) t form = form
kept_form mode (AsObject path own) t form = absurd form
kept_form mode AsNothing t form = nothing_void mode form

cast_form : (mode : Mode) (lowered : Lowered) (t : CType) → HasForm (cast_mode mode) lowered t → HasForm mode lowered t
cast_form Dropped lowered t form = form
cast_form Kept lowered t form = form
cast_form (Behind followed) lowered t form = kept_form (Behind followed) lowered t form
cast_form (Row followed) lowered t form = kept_form (Row followed) lowered t form

-- ---- names

length_types : (scope : Scope) → length (scope_types scope) ≡ length scope
length_types [] = refl
length_types (newest ∷ others) = ap suc (length_types others)

local_home : (scope : Scope) (number : ℕ) (home : Home) (t : CType) → home_of scope number ≡ Some home → local_type (scope_types scope) number ≡ Some t → t ≡ home.c_type
local_home [] number home t at typed = absurd (none-some home at)
local_home (newest ∷ others) number home t at typed =
    by (length others == number) at (subst (λ n. (if n == number then Some newest.c_type else local_type (scope_types others) number) ≡ Some t) (length_types others) typed)
    (local_home others number home t)
  where
    by : (b : Bool) → (if b then Some newest else home_of others number) ≡ Some home → (if b then Some newest.c_type else local_type (scope_types others) number) ≡ Some t
        → (home_of others number ≡ Some home → local_type (scope_types others) number ≡ Some t → t ≡ home.c_type) → t ≡ home.c_type
    by true at typed rest = sym (same_Some newest.c_type t typed) ∙ ap (λ h. h.c_type) (same_Some newest home at)
    by false at typed rest = rest at typed

in_register_is : (found : Option Home) (home : Home) → in_register found ≡ Some home → found ≡ Some home
in_register_is None home at = absurd (none-some home at)
in_register_is (Some found) home at = by found.is_object at
  where
    by : (b : Bool) → (if b then None else Some found) ≡ Some home → Some found ≡ Some home
    by true at = absurd (none-some home at)
    by false at = at

global_is : (globals : List GlobalDef) (name : List ℕ) (from number : ℕ) (global : GlobalDef) (t : CType) → named_global from globals name ≡ Some (number, global) → global_type globals name ≡ Some t
    → t ≡ global.c_type
global_is [] name from number global t at typed = absurd (none-some t typed)
global_is (first ∷ others) name from number global t at typed = by (bytes_eq first.name name) at typed (global_is others name (suc from) number global t)
  where
    by : (b : Bool) → (if b then Some (from, first) else named_global (suc from) others name) ≡ Some (number, global) → (if b then Some first.c_type else global_type others name) ≡ Some t
        → (named_global (suc from) others name ≡ Some (number, global) → global_type others name ≡ Some t → t ≡ global.c_type) → t ≡ global.c_type
    by true at typed rest = sym (same_Some first.c_type t typed) ∙ ap (λ (p : ℕ × GlobalDef). p.1.c_type) (same_Some (from, first) (number, global) at)
    by false at typed rest = rest at typed

function_is : (functions : List FunctionDef) (name : List ℕ) (c_type t : CType) → type_of_function functions name ≡ Some c_type → function_type functions name ≡ Some t → t ≡ c_type
function_is [] name c_type t at typed = absurd (none-some t typed)
function_is (first ∷ others) name c_type t at typed = by (bytes_eq first.name name) at typed (function_is others name c_type t)
  where
    by : (b : Bool) → (if b then Some first.c_type else type_of_function others name) ≡ Some c_type → (if b then Some first.c_type else function_type others name) ≡ Some t
        → (type_of_function others name ≡ Some c_type → function_type others name ≡ Some t → t ≡ c_type) → t ≡ c_type
    by true at typed rest = sym (same_Some first.c_type t typed) ∙ same_Some first.c_type c_type at
    by false at typed rest = rest at typed

member_is : (structs : List StructDef) (number : ℕ) (own c_type t : CType) → type_of_member structs own number ≡ Some c_type → member_of structs number own ≡ Some t → t ≡ c_type
member_is structs number (Struct tag) c_type t at typed = same_Some t c_type (sym typed ∙ at)
member_is structs number Void c_type t at typed = absurd (none-some t typed)
member_is structs number (Integer int_type) c_type t at typed = absurd (none-some t typed)
member_is structs number (Pointer target) c_type t at typed = absurd (none-some t typed)
member_is structs number (Array element count) c_type t at typed = absurd (none-some t typed)
member_is structs number (Function result parameters) c_type t at typed = absurd (none-some t typed)

element_of : (u t : CType) → first_element u ≡ Some t → (element : CType) × (count : ℕ) × (u ≡ Array element count) × (t ≡ Pointer element)
element_of (Array element count) t is = let held = held_parts _ (Pointer element) t is in (element, count, refl, sym held.1)
element_of Void t is = absurd (none-some t is)
element_of (Integer int_type) t is = absurd (none-some t is)
element_of (Pointer target) t is = absurd (none-some t is)
element_of (Struct tag) t is = absurd (none-some t is)
element_of (Function result parameters) t is = absurd (none-some t is)

moved_is : (structs : List StructDef) (pointer number t : CType) → moved structs pointer number ≡ Some t → t ≡ pointer
moved_is structs pointer number t is = sym (held_parts _ pointer t is).1

-- ---- parts

module _ (points : List Op) where
  reads_form : (local : Local) (is_object : Bool) (own : CType) (mode : Mode) (t : CType) (from to : Spot) (lowered : Lowered) → t ≡ own
      → ReadsLocal points (record { local = local; is_object = is_object; c_type = own }) from to lowered → HasForm mode lowered t
  reads_form local is_object (Integer int_type) mode t from to lowered is code = is_int mode code.1 is
  reads_form local is_object (Pointer target) mode t from to lowered is code = is_ptr mode code.2 is
  reads_form local is_object Void mode t from to lowered is code = absurd code
  reads_form local is_object (Array element count) mode t from to lowered is code = absurd code
  reads_form local is_object (Struct tag) mode t from to lowered is code = absurd code
  reads_form local is_object (Function result parameters) mode t from to lowered is code = absurd code

  loads_form : (own : CType) (mode : Mode) (t : CType) (path : Path) (from to : Spot) (lowered : Lowered) → t ≡ own → Loads points own path from to lowered → HasForm mode lowered t
  loads_form (Integer int_type) mode t path from to lowered is code = is_int mode code.2 is
  loads_form (Pointer target) mode t path from to lowered is code = is_ptr mode code.2 is
  loads_form Void mode t path from to lowered is code = absurd code
  loads_form (Array element count) mode t path from to lowered is code = absurd code
  loads_form (Struct tag) mode t path from to lowered is code = absurd code
  loads_form (Function result parameters) mode t path from to lowered is code = absurd code

  -- an object, whose local is in a register or not, has a type
  abbrev HasTypes : CType → Option Home → PartCode → Type 0
  HasTypes t home object = ((found : Home) → home ≡ Some found → t ≡ found.c_type) × ((from to : Spot) (path : Path) (own : CType) → object from to (AsObject path own) → t ≡ own)

  read_form : (home : Option Home) (object : PartCode) (mode : Mode) (t : CType) (from to : Spot) (lowered : Lowered) → HasTypes t home object → ReadCode points home object from to lowered
      → HasForm mode lowered t
  read_form (Some home) object mode t from to lowered types code = reads_form home.local home.is_object home.c_type mode t from to lowered (types.0 home refl) code
  read_form None object mode t from to lowered types code = loads_form code.2 mode t code.1 code.0 to lowered (types.1 from code.0 code.1 code.2 code.3) code.4

  unused : (mode : Mode) → is_used mode ≡ false → mode ≡ Dropped
  unused Dropped h = refl
  unused Kept h = absurd (true≢false h)
  unused (Behind followed) h = absurd (true≢false h)
  unused (Row followed) h = absurd (true≢false h)

  is_dropped : (mode : Mode) {own : IntType} {lowered : Lowered} {t : CType} → mode ≡ Dropped → lowered ≡ AsNothing → t ≡ Integer own → HasForm mode lowered t
  is_dropped mode {t = t} dropped at is =
      subst (λ l. HasForm mode l t) (sym at) (subst (λ m. NothingForm m t) (sym dropped) (subst (λ u. is_pointer u ≡ false) (sym is) refl))

  writes_form : (given : Lowered) (home : Home) (mode : Mode) (t : CType) (from to : Spot) (lowered : Lowered) → HasForm Kept given t → WritesLocal points home given from to lowered → HasForm mode lowered t
  writes_form (AsInteger own tree) home mode t from to lowered form code = is_int mode code.1 form
  writes_form (AsPointer register target) home mode t from to lowered form code = is_ptr mode code.1 form
  writes_form (AsObject path own) home mode t from to lowered form code = absurd code.0
  writes_form AsNothing home mode t from to lowered form code = absurd code.0

  stores_form : (used : Bool) (given : Lowered) (mode : Mode) → (used ≡ false → mode ≡ Dropped) → (t own : CType) (path : Path) (from to : Spot) (lowered : Lowered) → HasForm Kept given t
      → Stores points used path own given from to lowered → HasForm mode lowered t
  stores_form true (AsInteger int_type tree) mode dropped t own path from to lowered form code = is_int mode code.2 form
  stores_form false (AsInteger int_type tree) mode dropped t own path from to lowered form code = is_dropped mode (dropped refl) code.1 form
  stores_form true (AsPointer register target) mode dropped t own path from to lowered form code = is_ptr mode code.1 form
  stores_form false (AsPointer register target) mode dropped t own path from to lowered form code = is_ptr mode code.1 form
  stores_form true (AsObject p c) mode dropped t own path from to lowered form code = absurd code
  stores_form false (AsObject p c) mode dropped t own path from to lowered form code = absurd code
  stores_form true AsNothing mode dropped t own path from to lowered form code = absurd code
  stores_form false AsNothing mode dropped t own path from to lowered form code = absurd code

  assign_form : (home : Option Home) (object value : PartCode) (mode : Mode) (t : CType) (from to : Spot) (lowered : Lowered)
      → ((first last : Spot) (given : Lowered) → value first last given → HasForm Kept given t) → AssignCode points (is_used mode) home object value from to lowered → HasForm mode lowered t
  assign_form (Some home) object value mode t from to lowered form code = writes_form code.1 home mode t code.0 to lowered (form from code.0 code.1 code.2) code.3
  assign_form None object value mode t from to lowered form code =
      stores_form (is_used mode) code.4 mode (unused mode) t code.3 code.2 code.1 to lowered (form code.0 code.1 code.4 code.6) code.7

  compound_form : (home : Option Home) (object operand : PartCode) (own : IntType) (new : Register → Tree → Tree) (mode : Mode) (t : CType) (from to : Spot) (lowered : Lowered) → t ≡ Integer own
      → CompoundCode points (is_used mode) home object operand own new from to lowered → HasForm mode lowered t
  compound_form (Some home) object operand own new mode t from to lowered is code = is_int mode code.5 is
  compound_form None object operand own new mode t from to lowered is code = stores_form (is_used mode) (AsInteger own _) mode (unused mode) t code.3 code.2 _ to lowered is code.9

  stepping_form : (used : Bool) (stepping : Stepping) (home : Option Home) (object : PartCode) (own : IntType) (mode : Mode) → (used ≡ false → mode ≡ Dropped) → (t : CType) (from to : Spot) (lowered : Lowered)
      → t ≡ Integer own → SteppingCode points used stepping own home object from to lowered → HasForm mode lowered t
  stepping_form false stepping (Some home) object own mode dropped t from to lowered is code = is_int mode code.1 is
  stepping_form true Steppings.PreIncrement (Some home) object own mode dropped t from to lowered is code = is_int mode code.1 is
  stepping_form true Steppings.PreDecrement (Some home) object own mode dropped t from to lowered is code = is_int mode code.1 is
  stepping_form true Steppings.PostIncrement (Some home) object own mode dropped t from to lowered is code = is_int mode code.2 is
  stepping_form true Steppings.PostDecrement (Some home) object own mode dropped t from to lowered is code = is_int mode code.2 is
  stepping_form used Steppings.PostIncrement None object own mode dropped t from to lowered is code = is_int mode code.7 is
  stepping_form used Steppings.PostDecrement None object own mode dropped t from to lowered is code = is_int mode code.7 is
  stepping_form true Steppings.PreIncrement None object own mode dropped t from to lowered is code =
      subst (λ l. HasForm mode l t) (sym code.7) (stores_form true (AsInteger own _) mode dropped t code.2 code.1 _ to code.3 is code.6)
  stepping_form true Steppings.PreDecrement None object own mode dropped t from to lowered is code =
      subst (λ l. HasForm mode l t) (sym code.7) (stores_form true (AsInteger own _) mode dropped t code.2 code.1 _ to code.3 is code.6)
  stepping_form false Steppings.PreIncrement None object own mode dropped t from to lowered is code =
      subst (λ l. HasForm mode l t) (sym code.7) (stores_form false (AsInteger own _) mode dropped t code.2 code.1 _ to code.3 is code.6)
  stepping_form false Steppings.PreDecrement None object own mode dropped t from to lowered is code =
      subst (λ l. HasForm mode l t) (sym code.7) (stores_form false (AsInteger own _) mode dropped t code.2 code.1 _ to code.3 is code.6)

  -- the old pointer and the new one, in a local or in memory
  local_form : (local : Local) (is_object is_minus : Bool) (own : CType) (number : Tree) (mode : Mode) (t : CType) (from to : Spot) (old new : Lowered) → t ≡ own
      → StepsLocal points (record { local = local; is_object = is_object; c_type = own }) is_minus number from to old new → HasForm mode old t × HasForm mode new t
  local_form local is_object is_minus own number mode t from to old new is code =
      let first = reads_form local is_object own mode t from code.0 old is code.4 in
      (first, is_ptr mode code.6.2 (subst (λ l. HasForm mode l t) code.5 first))

  object_steps_form : (is_minus : Bool) (own : CType) (number : Tree) (path : Path) (mode : Mode) (t : CType) (from to : Spot) (old new : Lowered) → t ≡ own
      → StepsObject points path own is_minus number from to old new → HasForm mode old t × HasForm mode new t
  object_steps_form is_minus own number path mode t from to old new is code =
      let first = loads_form own mode t path from code.0 old is code.4 in
      (first, is_ptr mode code.6.2 (subst (λ l. HasForm mode l t) code.5 first))

  pointer_form : (home : Option Home) (object number : PartCode) (is_minus : Bool) (mode : Mode) (t : CType) (from to : Spot) (old new : Lowered) → HasTypes t home object
      → PointerCode points home object is_minus number from to old new → HasForm mode old t × HasForm mode new t
  pointer_form (Some home) object number is_minus mode t from to old new types code =
      local_form home.local home.is_object is_minus home.c_type code.2 mode t code.0 to old new (types.0 home refl) code.4
  pointer_form None object number is_minus mode t from to old new types code =
      object_steps_form is_minus code.3 code.5 code.2 mode t code.1 to old new (types.1 from code.0 code.2 code.3 code.6) code.8

  old_or_new : (b : Bool) (mode : Mode) (t : CType) (old new lowered : Lowered) → HasForm mode old t × HasForm mode new t → lowered ≡ (if b then old else new) → HasForm mode lowered t
  old_or_new true mode t old new lowered forms is = subst (λ l. HasForm mode l t) (sym is) forms.0
  old_or_new false mode t old new lowered forms is = subst (λ l. HasForm mode l t) (sym is) forms.1

  moved_form : (is_minus : Bool) (pointer number : PartCode) (mode : Mode) (t : CType) (from to : Spot) (lowered : Lowered)
      → ((last : Spot) (register : Register) (target : CType) → pointer from last (AsPointer register target) → t ≡ Pointer target) → MovedCode points is_minus pointer number from to lowered → HasForm mode lowered t
  moved_form is_minus pointer number mode t from to lowered form code = is_ptr mode code.8.2 (form code.0 code.2 code.3 code.6)

  joins_form : (one : Lowered) (mode : Mode) (t : CType) (from to : Spot) (lowered : Lowered) → HasForm Kept one t → Joins points one from to lowered → HasForm mode lowered t
  joins_form (AsInteger own tree) mode t from to lowered form code = is_int mode code.2 form
  joins_form (AsPointer register target) mode t from to lowered form code = is_ptr mode code.2 form
  joins_form (AsObject path own) mode t from to lowered form code = absurd code
  joins_form AsNothing mode t from to lowered form code = is_nothing mode code.1 form

  decays_form : (mode : Mode) (path : Path) (element : CType) (count : ℕ) (t : CType) (from to : Spot) (lowered : Lowered) → t ≡ Pointer element → Decays points mode path element count from to lowered
      → HasForm mode lowered t
  decays_form Kept path element count t from to lowered is code = is_ptr Kept code.2 is
  decays_form Dropped path element count t from to lowered is code = is_ptr Dropped code.2 is
  decays_form (Behind followed) path element count t from to lowered is code = subst (λ l. HasForm (Behind followed) l t) (sym code.1) is
  decays_form (Row followed) path element count t from to lowered is code = subst (λ l. HasForm (Row followed) l t) (sym code.1) (element, count, refl, is)

  address_form : (mode : Mode) (found : Lowered) (t : CType) (from to : Spot) (lowered : Lowered) → HasObjectForm (is_address mode) found t → TakesAddress points mode found from to lowered
      → HasForm mode lowered (Pointer t)
  address_form (Behind followed) (AsObject path own) t from to lowered form code = subst (λ l. HasForm (Behind followed) l (Pointer t)) (sym code.1) (ap Pointer form)
  address_form Kept (AsObject path own) t from to lowered form code = is_ptr Kept code.2 (ap Pointer form)
  address_form Dropped (AsObject path own) t from to lowered form code = is_ptr Dropped code.2 (ap Pointer form)
  address_form (Row followed) (AsObject path own) t from to lowered form code = is_ptr (Row followed) code.2 (ap Pointer form)
  address_form (Behind followed) (AsPointer register target) t from to lowered form code = absurd form
  address_form Kept (AsPointer register target) t from to lowered form code = is_ptr Kept code.1 (ap Pointer form)
  address_form Dropped (AsPointer register target) t from to lowered form code = is_ptr Dropped code.1 (ap Pointer form)
  address_form (Row followed) (AsPointer register target) t from to lowered form code = is_ptr (Row followed) code.1 (ap Pointer form)
  address_form mode (AsInteger own tree) t from to lowered form code = absurd form
  address_form mode AsNothing t from to lowered form code = absurd form

  addresses_form : (callee : Callee) (own : CType) (mode : Mode) (t : CType) (from to : Spot) (lowered : Lowered) → t ≡ own → CalleeForm callee t → Addresses points callee own from to lowered
      → HasForm mode lowered (Pointer t)
  addresses_form (Known number) own mode t from to lowered is form code = is_ptr mode code.2 (ap Pointer is)
  addresses_form (Through register c_type) own mode t from to lowered is form code = is_ptr mode code.1 (ap Pointer form)

  pointed_form : (is_kept followed : Bool) (found : Lowered) (t : CType) (lowered : Lowered) → HasForm (pointed_mode is_kept followed) found (Pointer t) → lowered ≡ pointed_by is_kept found
      → HasObjectForm is_kept lowered t
  pointed_form true followed (AsPointer register target) t lowered form at = subst (λ l. HasObjectForm true l t) (sym at) (pointer_is form)
  pointed_form false followed (AsPointer register target) t lowered form at = is_obj false at (pointer_is form)
  pointed_form true followed (AsObject path own) t lowered form at = absurd form
  pointed_form false followed (AsObject path own) t lowered form at = is_obj false at (pointer_is form)
  pointed_form is_kept followed (AsInteger own tree) t lowered form at = absurd (pointer_not_integer form)
  pointed_form true followed AsNothing t lowered form at = absurd (pointer_not_void form)
  pointed_form false followed AsNothing t lowered form at = absurd (pointer_not_void form)

  indexes_form : (is_kept followed row : Bool) (found : Lowered) (t : CType) (index : Tree) (from to : Spot) (lowered : Lowered) → HasForm (Row row) found (Pointer t)
      → Indexes points is_kept followed found index from to lowered → HasObjectForm is_kept lowered t
  indexes_form is_kept followed row (AsObject path (Array element count)) t index from to lowered form code =
      let inner : Array element count ≡ Array form.0 form.1 = form.2 in
      let same : element ≡ form.0 = cc in
      is_obj is_kept code.2 (pointer_is form.3 ∙ sym same)
  indexes_form is_kept followed row (AsObject path Void) t index from to lowered form code = absurd code
  indexes_form is_kept followed row (AsObject path (Integer own)) t index from to lowered form code = absurd code
  indexes_form is_kept followed row (AsObject path (Pointer target)) t index from to lowered form code = absurd code
  indexes_form is_kept followed row (AsObject path (Struct tag)) t index from to lowered form code = absurd code
  indexes_form is_kept followed row (AsObject path (Function result parameters)) t index from to lowered form code = absurd code
  indexes_form false followed row (AsPointer register target) t index from to lowered form code = is_obj false code.2 (pointer_is form)
  indexes_form true followed row (AsPointer register target) t index from to lowered form code = subst (λ l. HasObjectForm true l t) (sym code.2) (pointer_is form)
  indexes_form is_kept followed row (AsInteger own tree) t index from to lowered form code = absurd (pointer_not_integer form)
  indexes_form is_kept followed row AsNothing t index from to lowered form code = absurd (pointer_not_void form)

-- ---- calls

-- the type of what is called, and what a call of it gives
record Called (f c_type : CType) (is_used : Bool) (t : CType) : Type 0 where
  result : CType
  parameters : CTypes
  called : c_type ≡ Function result parameters
  gives_scalar : (is_scalar result || is_void result) ≡ true
  gives : (if is_used then result else Void) ≡ t

called_parts : (types : CTypes) (f c_type : CType) (is_used : Bool) (t : CType)
    → given (result_of types f) (λ result. where_holds (same_type f c_type) (if is_used then result else Void)) ≡ Some t → Called f c_type is_used t
called_parts types (Function result parameters) c_type is_used t is =
    let known = given_parts (result_of types (Function result parameters)) (λ r. where_holds (same_type (Function result parameters) c_type) (if is_used then r else Void)) t is in
    let fits = held_parts (all_scalar parameters && same_types parameters types && (is_scalar result || is_void result)) result known.0 known.1 in
    let held = held_parts (same_type (Function result parameters) c_type) (if is_used then known.0 else Void) t known.2 in
    record {
      result = result;
      parameters = parameters;
      called = sym (same_type-true (Function result parameters) c_type held.0);
      gives_scalar = (and_parts (all_scalar parameters && same_types parameters types) (is_scalar result || is_void result) fits.0).1;
      gives = subst (λ r. (if is_used then r else Void) ≡ t) (sym fits.1) held.1;
    }
called_parts types Void c_type is_used t is = absurd (none-some t is)
called_parts types (Integer n) c_type is_used t is = absurd (none-some t is)
called_parts types (Pointer u) c_type is_used t is = absurd (none-some t is)
called_parts types (Array u n) c_type is_used t is = absurd (none-some t is)
called_parts types (Struct tag) c_type is_used t is = absurd (none-some t is)

gives_form : (is_used : Bool) (result : CType) (parameters : CTypes) (site : ℕ) (mode : Mode) (t : CType) (lowered : Lowered) → (is_scalar result || is_void result) ≡ true
    → (if is_used then result else Void) ≡ t → lowered ≡ call_gives is_used (Function result parameters) site → HasForm mode lowered t
gives_form false result parameters site mode t lowered scalar gives at = is_nothing mode at (sym gives)
gives_form true (Integer own) parameters site mode t lowered scalar gives at = is_int mode at (sym gives)
gives_form true (Pointer target) parameters site mode t lowered scalar gives at = is_ptr mode at (sym gives)
gives_form true Void parameters site mode t lowered scalar gives at = is_nothing mode at (sym gives)
gives_form true (Array element count) parameters site mode t lowered scalar gives at = absurd (false≢true scalar)
gives_form true (Struct tag) parameters site mode t lowered scalar gives at = absurd (false≢true scalar)
gives_form true (Function result others) parameters site mode t lowered scalar gives at = absurd (false≢true scalar)

call_form : (is_used : Bool) (c_type f : CType) (site : ℕ) (mode : Mode) (t : CType) (lowered : Lowered) → Called f c_type is_used t → lowered ≡ call_gives is_used c_type site → HasForm mode lowered t
call_form is_used c_type f site mode t lowered called at =
    gives_form is_used called.result called.parameters site mode t lowered called.gives_scalar called.gives (subst (λ c. lowered ≡ call_gives is_used c site) called.called at)

free_is : (types : CTypes) (t : CType) → library_result L.Free types ≡ Some t → t ≡ Void
free_is NoTypes t is = absurd (none-some t is)
free_is (MoreTypes first NoTypes) t is = sym (held_parts (is_object_pointer first) Void t is).1
free_is (MoreTypes first (MoreTypes second others)) t is = absurd (none-some t is)

decay_is : (u t element : CType) (count : ℕ) → first_element u ≡ Some t → u ≡ Array element count → t ≡ Pointer element
decay_is u t element count first is = sym (held_parts _ (Pointer element) t (subst (λ v. first_element v ≡ Some t) is first)).1

-- ---- expressions

module _ (program : Program) (points : List Op) (scope : Scope) where
  abbrev around : Context
  around = context_of program scope

  abbrev value_code : Mode → Value → PartCode
  value_code mode v = ValueCode program points scope mode v

  abbrev object_code : Bool → Object → PartCode
  object_code followed object = ObjectCode program points scope false followed object

  mutual
    -- the local in a register has the type of the object
    pub home_type : (object : Object) (home : Home) (t : CType) → register_home scope object ≡ Some home → type_of_object around object ≡ Some t → t ≡ home.c_type
    home_type (T.Local number) home t at typed = local_home scope number home t (in_register_is (home_of scope number) home at) typed
    home_type (T.GroupedObject place inner) home t at typed = home_type inner home t at typed
    home_type (T.Pointed place pointer) home t at typed =
        let parts = given_parts (type_of around pointer) (pointed program.structs) t typed in
        behind_type pointer home t at (parts.1 ∙ ap Some (pointed_parts program.structs parts.0 t parts.2).0)
    home_type (T.Global name) home t at typed = absurd (none-some home at)
    home_type (T.Literal place bytes) home t at typed = absurd (none-some home at)
    home_type (T.Element place pointer number) home t at typed = absurd (none-some home at)
    home_type (T.ElementOf place number pointer) home t at typed = absurd (none-some home at)
    home_type (T.MemberOf place object number) home t at typed = absurd (none-some home at)
    home_type (T.PointedMember place pointer number) home t at typed = absurd (none-some home at)

    behind_type : (v : Value) (home : Home) (t : CType) → home_behind scope v ≡ Some home → type_of around v ≡ Some (Pointer t) → t ≡ home.c_type
    behind_type (T.Grouped inner) home t at typed = behind_type inner home t at typed
    behind_type (T.AddressOf place object) home t at typed =
        let parts = given_parts (type_of_object around object) (λ u. Some (Pointer u)) (Pointer t) typed in
        home_type object home t at (parts.1 ∙ ap Some (pointer_is (same_Some (Pointer parts.0) (Pointer t) parts.2)))
    behind_type v home t at typed = absurd (none-some home at)

  library_form : (function : LibraryFunction) (arguments : Values) (mode : Mode) (types : CTypes) (t : CType) (from to : Spot) (lowered : Lowered) → library_result function types ≡ Some t
      → LibraryCode program points scope function arguments from to lowered → HasForm mode lowered t
  library_form L.Malloc (T.MoreValues size T.NoValues) mode types t from to lowered is code = is_ptr mode code.5 (sym (held_parts _ (Pointer Void) t is).1)
  library_form L.Free (T.MoreValues pointer T.NoValues) mode types t from to lowered is code = is_nothing mode code.5 (free_is types t is)
  library_form L.GetChar T.NoValues mode types t from to lowered is code = is_int mode code.1 (sym (held_parts _ int t is).1)
  library_form L.PutChar (T.MoreValues v T.NoValues) mode types t from to lowered is code = is_int mode code.5 (sym (held_parts _ int t is).1)
  library_form L.Exit (T.MoreValues status T.NoValues) mode types t from to lowered is code = is_nothing mode code.5 (sym (held_parts _ Void t is).1)
  library_form function arguments mode types t from to lowered is code = absurd code

  mutual
    pub value_form : (v : Value) (mode : Mode) (t : CType) (from to : Spot) (lowered : Lowered) → type_of around v ≡ Some t → ValueCode program points scope mode v from to lowered → HasForm mode lowered t
    value_form (T.Constant n z) mode t from to lowered typed code = is_int mode code.1 (sym (held_parts (is_value n z) (Integer n) t typed).1)
    value_form T.NullPointer mode t from to lowered typed code = is_ptr mode code.2 (sym (same_Some (Pointer Void) t typed))
    value_form (T.Grouped inner) mode t from to lowered typed code = value_form inner mode t from to lowered typed code
    value_form (T.Read place object) mode t from to lowered typed code =
        let parts = same_parts (type_of_object around object) is_scalar t typed in
        read_form points (register_home scope object) (object_code false object) mode t from to lowered
        (λ home at. home_type object home t at parts.0, λ first last path own found. object_form object false false t first last (AsObject path own) parts.0 found) code
    value_form (T.Decay place object) mode t from to lowered typed code =
        let parts = given_parts (type_of_object around object) first_element t typed in
        decays_form points mode code.1 code.2 code.3 t code.0 to lowered
        (decay_is parts.0 t code.2 code.3 parts.2 (object_form object false (is_followed mode) parts.0 from code.0 (AsObject code.1 (Array code.2 code.3)) parts.1 code.4)) code.5
    value_form (T.FunctionValue function) mode t from to lowered typed code =
        let parts = given_parts (type_of_designator around function) (λ u. Some (Pointer u)) t typed in
        let found = designator_form function parts.0 from code.0 code.1 code.2 parts.1 code.3 in
        subst (λ u. HasForm mode lowered u) (same_Some (Pointer parts.0) t parts.2) (addresses_form points code.1 code.2 mode parts.0 code.0 to lowered found.0 found.1 code.4)
    value_form (T.Converted n operand) mode t from to lowered typed code =
        is_int mode code.3 (sym (other_parts (type_of around operand) (λ u. is_integer u && not (is_conversion operand)) (Integer n) t typed).3)
    value_form (T.Repointed place target operand) mode t from to lowered typed code =
        is_ptr mode code.4.2 (sym (other_parts (type_of around operand) (λ u. repoints u target && not (is_conversion operand)) (Pointer target) t typed).3)
    value_form (T.MadeNull target operand) mode t from to lowered typed code =
        is_ptr mode code.3.2 (sym (other_parts (type_of around operand) (λ u. (is_integer u || is_void_pointer u) && not (is_conversion operand)) (Pointer target) t typed).3)
    value_form (T.Tested place operand) mode t from to lowered typed code =
        is_int mode code.4.2 (sym (other_parts (type_of around operand) (λ u. is_pointer u && not (is_conversion operand)) int t typed).3)
    value_form (T.Plus operand) mode t from to lowered typed code =
        kept_form mode lowered t (value_form operand Kept t from to lowered (same_parts (type_of around operand) is_integer t typed).0 code)
    value_form (T.Minus place n operand) mode t from to lowered typed code =
        is_int mode code.3 (same_type-true t (Integer n) (same_parts (type_of around operand) (λ u. same_type u (Integer n)) t typed).1)
    value_form (T.Complement n operand) mode t from to lowered typed code =
        is_int mode code.3 (same_type-true t (Integer n) (same_parts (type_of around operand) (λ u. same_type u (Integer n)) t typed).1)
    value_form (T.Not operand) mode t from to lowered typed code = is_int mode code.3 (sym (other_parts (type_of around operand) is_integer int t typed).3)
    value_form (T.Arithmetic op place n left right) mode t from to lowered typed code =
        let parts = first_parts (type_of around left) (type_of around right) (λ a b. same_type a (Integer n) && is_right op a b) t typed in
        is_int mode code.10 (same_type-true t (Integer n) (and_parts _ _ parts.holds).0)
    value_form (T.Compare relation left right) mode t from to lowered typed code =
        is_int mode code.10 (sym (both_parts (type_of around left) (type_of around right) (λ a b. is_integer a && same_type a b) int t typed).is)
    value_form (T.ComparePointers relation place left right) mode t from to lowered typed code =
        is_int mode code.8.2 (sym (both_parts (type_of around left) (type_of around right) (are_comparable relation) int t typed).is)
    value_form (T.PointerPlus place pointer number) mode t from to lowered typed code =
        let parts = two_parts (type_of around pointer) (type_of around number) (moved program.structs) t typed in
        moved_form points false (value_code Kept pointer) (value_code Kept number) mode t from to lowered
        (λ last register target found. moved_is program.structs parts.a parts.b t parts.gave ∙ value_form pointer Kept parts.a from last (AsPointer register target) parts.left found) code
    value_form (T.NumberPlus place number pointer) mode t from to lowered typed code =
        let parts = two_parts (type_of around pointer) (type_of around number) (moved program.structs) t typed in
        is_ptr mode code.11.2 (moved_is program.structs parts.a parts.b t parts.gave ∙ value_form pointer Kept parts.a code.1 code.2 (AsPointer code.6 code.7) parts.left code.10)
    value_form (T.PointerMinus place pointer number) mode t from to lowered typed code =
        let parts = two_parts (type_of around pointer) (type_of around number) (moved program.structs) t typed in
        moved_form points true (value_code Kept pointer) (value_code Kept number) mode t from to lowered
        (λ last register target found. moved_is program.structs parts.a parts.b t parts.gave ∙ value_form pointer Kept parts.a from last (AsPointer register target) parts.left found) code
    value_form (T.PointerDifference place left right) mode t from to lowered typed code =
        is_int mode code.8.2 (sym (both_parts (type_of around left) (type_of around right) (λ a b. is_pointer_to_complete program.structs a && same_type a b) (Integer I.Long) t typed).is)
    value_form (T.And left right) mode t from to lowered typed code =
        is_int mode code.12 (sym (both_parts (type_of around left) (type_of around right) (λ a b. is_integer a && is_integer b) int t typed).is)
    value_form (T.Or left right) mode t from to lowered typed code =
        is_int mode code.12 (sym (both_parts (type_of around left) (type_of around right) (λ a b. is_integer a && is_integer b) int t typed).is)
    value_form (T.Conditional condition taken otherwise) mode t from to lowered typed code =
        let tested = given_parts (type_of around condition) (λ c. given_two (type_of around taken) (type_of around otherwise) (λ a b. where_holds (is_integer c && same_type a b) a)) t typed in
        let parts = first_parts (type_of around taken) (type_of around otherwise) (λ a b. is_integer tested.0 && same_type a b) t tested.2 in
        joins_form points code.6 mode t code.1 code.2 lowered (value_form taken Kept t _ code.1 code.6 parts.left code.10) code.11
    value_form (T.AddressOf place object) mode t from to lowered typed code =
        let parts = given_parts (type_of_object around object) (λ u. Some (Pointer u)) t typed in
        subst (λ u. HasForm mode lowered u) (same_Some (Pointer parts.0) t parts.2)
        (address_form points mode code.1 parts.0 code.0 to lowered (object_form object (is_address mode) (is_followed mode) parts.0 from code.0 code.1 parts.1 code.2) code.3)
    value_form (T.AddressOfFunction function) mode t from to lowered typed code =
        let parts = given_parts (type_of_designator around function) (λ u. Some (Pointer u)) t typed in
        let found = designator_form function parts.0 from code.0 code.1 code.2 parts.1 code.3 in
        subst (λ u. HasForm mode lowered u) (same_Some (Pointer parts.0) t parts.2) (addresses_form points code.1 code.2 mode parts.0 code.0 to lowered found.0 found.1 code.4)
    value_form (T.Cast operand) mode t from to lowered typed code =
        cast_form mode lowered t (value_form operand (cast_mode mode) t from to lowered (same_parts (type_of around operand) is_scalar t typed).0 code)
    value_form (T.CastVoid operand) mode t from to lowered typed code =
        is_nothing mode code.2 (sym (same_Some Void t (given_parts (type_of around operand) (λ u. Some Void) t typed).2))
    value_form (T.Assign place object operand) mode t from to lowered typed code =
        let parts = first_parts (type_of_object around object) (type_of around operand) (λ a b. is_scalar a && same_type a b) t typed in
        let same = same_type-true t parts.b (and_parts (is_scalar t) (same_type t parts.b) parts.holds).1 in
        assign_form points (register_home scope object) (object_code (not (is_pure scope operand)) object) (value_code Kept operand) mode t from to lowered
        (λ first last given found. subst (λ u. HasForm Kept given u) (sym same) (value_form operand Kept parts.b first last given parts.right found)) code
    value_form (T.AssignArithmetic op place object_type int_type object operand) mode t from to lowered typed code =
        let parts = first_parts (type_of_object around object) (type_of around operand) (λ a b. same_type a (Integer object_type) && is_right op (Integer int_type) b) t typed in
        compound_form points (register_home scope object) (object_code (not (is_pure scope operand)) object) (value_code Kept operand) object_type (compound_tree op object_type int_type) mode t from to lowered
        (same_type-true t (Integer object_type) (and_parts _ _ parts.holds).0) code
    value_form (T.AssignMoved is_minus place object number) mode t from to lowered typed code =
        let parts = two_parts (type_of_object around object) (type_of around number) (moved program.structs) t typed in
        let same = moved_is program.structs parts.a parts.b t parts.gave in
        (pointer_form points (register_home scope object) (object_code (not (is_pure scope number)) object) (value_code Kept number) is_minus mode t from to code.0 lowered (
          λ home at. same ∙ home_type object home parts.a at parts.left,
          λ first last path own found. same ∙ object_form object false (not (is_pure scope number)) parts.a first last (AsObject path own) parts.left found,
        ) code.1).1
    value_form (T.StepInteger stepping place n object) mode t from to lowered typed code =
        stepping_form points (is_used mode) stepping (register_home scope object) (object_code false object) n mode (unused points mode) t from to lowered
        (same_type-true t (Integer n) (same_parts (type_of_object around object) (λ u. same_type u (Integer n)) t typed).1) code
    value_form (T.StepPointer stepping place object) mode t from to lowered typed code =
        let parts = same_parts (type_of_object around object) (is_pointer_to_complete program.structs) t typed in
        old_or_new points (gives_old stepping) mode t code.0 code.1 lowered
        (pointer_form points (register_home scope object) (object_code false object) (OneCode points) (not (is_up stepping)) mode t from to code.0 code.1
        (λ home at. home_type object home t at parts.0, λ first last path own found. object_form object false false t first last (AsObject path own) parts.0 found) code.2) code.3
    value_form (T.Call is_used place function c_type arguments) mode t from to lowered typed code =
        let parts = two_parts (type_of_designator around function) (types_of around arguments)
        (λ u types. given (result_of types u) (λ result. where_holds (same_type u c_type) (if is_used then result else Void))) t typed in
        call_form is_used c_type parts.a code.0.counts.calls mode t lowered (called_parts parts.b parts.a c_type is_used t parts.gave) code.8
    value_form (T.LibraryCall function groups place arguments) mode t from to lowered typed code =
        let parts = given_parts (types_of around arguments) (library_result function) t typed in
        library_form function arguments mode parts.0 t from to lowered parts.2 code

    pub designator_form : (f : Designator) (t : CType) (from to : Spot) (callee : Callee) (c_type : CType) → type_of_designator around f ≡ Some t
        → DesignatorCode program points scope f from to callee c_type → (t ≡ c_type) × CalleeForm callee t
    designator_form (T.Function name) t from to callee c_type typed code =
        (function_is program.functions name c_type t code.4 typed, subst (λ c. CalleeForm c t) (sym code.3) tt)
    designator_form (T.GroupedFunction inner) t from to callee c_type typed code = designator_form inner t from to callee c_type typed code
    designator_form (T.PointedFunction place pointer) t from to callee c_type typed code =
        let parts = given_parts (type_of around pointer) pointed_function t typed in
        let same : t ≡ c_type = pointer_is (sym (pointed_function_is parts.0 t parts.2) ∙ value_form pointer Kept parts.0 from to (AsPointer code.0 c_type) parts.1 code.1) in
        (same, subst (λ c. CalleeForm c t) (sym code.2) same)
    designator_form (T.ThroughPointer place pointer) t from to callee c_type typed code =
        let plain = unless_parts (is_conversion pointer) (given (type_of around pointer) pointed_function) t typed in
        let parts = given_parts (type_of around pointer) pointed_function t plain.1 in
        let same : t ≡ c_type = pointer_is (sym (pointed_function_is parts.0 t parts.2) ∙ value_form pointer Kept parts.0 from to (AsPointer code.0 c_type) parts.1 code.1) in
        (same, subst (λ c. CalleeForm c t) (sym code.2) same)

    pub object_form : (o : Object) (is_kept followed : Bool) (t : CType) (from to : Spot) (lowered : Lowered) → type_of_object around o ≡ Some t
        → ObjectCode program points scope is_kept followed o from to lowered → HasObjectForm is_kept lowered t
    object_form (T.Local number) is_kept followed t from to lowered typed code = is_obj is_kept code.4 (local_home scope number code.0 t code.1 typed)
    object_form (T.Global name) is_kept followed t from to lowered typed code = is_obj is_kept code.4 (global_is program.globals name 0 code.0 code.1 t code.2 typed)
    object_form (T.Literal place bytes) is_kept followed t from to lowered typed code =
        is_obj is_kept code.4 (sym (other_parts (literal_bytes program.literals place) (λ listed. bytes_eq listed bytes) (literal_type bytes) t typed).3)
    object_form (T.GroupedObject place inner) is_kept followed t from to lowered typed code = object_form inner is_kept followed t from to lowered typed code
    object_form (T.Pointed place pointer) is_kept followed t from to lowered typed code =
        let parts = given_parts (type_of around pointer) (pointed program.structs) t typed in
        pointed_form points is_kept followed code.0 t lowered
        (value_form pointer (pointed_mode is_kept followed) (Pointer t) from to code.0 (parts.1 ∙ ap Some (pointed_parts program.structs parts.0 t parts.2).0) code.1) code.2
    object_form (T.Element place pointer number) is_kept followed t from to lowered typed code =
        let parts = two_parts (type_of around pointer) (type_of around number) (element program.structs) t typed in
        indexes_form points is_kept followed (followed || not (is_pure scope number)) code.2 t code.4 code.1 to lowered
        (value_form pointer (Row (followed || not (is_pure scope number))) (Pointer t) from code.0 code.2
        (parts.left ∙ ap Some (element_parts program.structs parts.a parts.b t parts.gave).0) code.5) code.7
    object_form (T.ElementOf place number pointer) is_kept followed t from to lowered typed code =
        let parts = two_parts (type_of around pointer) (type_of around number) (element program.structs) t typed in
        indexes_form points is_kept false followed code.6 t code.5 code.2 to lowered
        (value_form pointer (Row followed) (Pointer t) code.1 code.2 code.6 (parts.left ∙ ap Some (element_parts program.structs parts.a parts.b t parts.gave).0) code.9) code.10
    object_form (T.MemberOf place object number) is_kept followed t from to lowered typed code =
        let parts = given_parts (type_of_object around object) (member_of program.structs number) t typed in
        is_obj is_kept code.5 (member_is program.structs number code.1 code.2 t code.4
        (subst (λ u. member_of program.structs number u ≡ Some t) (object_form object false followed parts.0 from to (AsObject code.0 code.1) parts.1 code.3) parts.2))
    object_form (T.PointedMember place pointer number) is_kept followed t from to lowered typed code =
        let parts = given_parts (type_of around pointer) (λ u. given (pointed program.structs u) (member_of program.structs number)) t typed in
        let inner = given_parts (pointed program.structs parts.0) (member_of program.structs number) t parts.2 in
        let found = value_form pointer (Behind followed) (Pointer inner.0) from to code.0 (parts.1 ∙ ap Some (pointed_parts program.structs parts.0 inner.0 inner.1).0) code.4 in
        is_obj is_kept code.7 (member_is program.structs number code.2 code.3 t code.6
        (subst (λ u. member_of program.structs number u ≡ Some t) (pointed_form points false followed code.0 inner.0 (AsObject code.1 code.2) found (sym code.5)) inner.2))

  -- as many registers as arguments
  pub arguments_count : (arguments : Values) (from to : Spot) (registers : List Register) → ArgumentsCode program points scope arguments from to registers → length registers ≡ count_of arguments
  arguments_count T.NoValues from to registers code = ap length code.1
  arguments_count (T.MoreValues first others) from to registers code = ap length code.7 ∙ ap suc (arguments_count others code.1 to code.3 code.6)
