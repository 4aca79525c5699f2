-- Where more code follows before an object is used, its path names no local in a register.
use Rattle.std.proofs.Common.{◌≡◌, ℕ, Bool, true, false, not, ◌&&◌, if◌then◌else◌, List, Option, Some, None, pos, sym, subst}
use Rattle.c_num.specs.declared.IntType.{IntType}
use Rattle.c_typed.specs.declared.typed.LibraryFunction.{LibraryFunction}
use Rattle.c_typed.specs.declared.typed.LibraryFunction.TheVariants as L
use Rattle.c_typed.specs.declared.typed.Stepping.{Stepping}
use Rattle.c_typed.specs.declared.typed.Stepping.TheVariants as Steppings
use Rattle.c_typed.specs.Types.{CType, Void, Integer, Pointer, Array, Struct, Function}
use Rattle.c_typed.specs.Typed as T
use Rattle.c_typed.specs.Typed.{Program, Value, Values, Object}
use Rattle.tac_ir.specs.declared.program.Counts.{Counts}
use Rattle.tac_ir.specs.declared.register.Local.{Local}
use Rattle.tac_ir.specs.declared.register.Register.{Register}
use Rattle.tac_ir.specs.Code.{Tree, Constant, Step, Member, Element, Path, Callee, Known, Through, Op}
use Rattle.tac_build.specs.Homes.{Home, Scope, register_home, is_pure}
use Rattle.tac_build.specs.Spots.{Spot, behind, with_temporary, temporary, Lowered, AsInteger, AsPointer, AsObject, AsNothing, Mode, Kept, Dropped, Behind, Row, is_used, is_followed, is_address, cast_mode, pointed_mode}
use Rattle.tac_build.specs.Code.{PartCode, compound_tree, gives_old, is_up, pointed_by, call_gives, then_step, ReadsLocal, Loads, KeepsTree, WritesLocal, Stores, Joins, Decays, TakesAddress, Addresses, Indexes, ReadCode, AssignCode, CompoundCode, PointerCode, OneCode, SteppingCode, ValueCode, LibraryCode, ObjectCode}
use Rattle.tac_build.specs.Forms.{IsStable, StepHolds, LoweredNamed, TreeStable, PathStable, StableWhere, StablePath, IsFixed, IsObjectFixed}
use Rattle.tac_build.proofs.Naming.{before_stable, path_then}
use Rattle.tac_build.proofs.Named.{value_named}

-- ---- of what is told by equations

fixed_integer : (mode : Mode) {own : IntType} {tree : Tree} {lowered : Lowered} → lowered ≡ AsInteger own tree → IsFixed mode lowered
fixed_integer mode is = subst (λ l. IsFixed mode l) (sym is) tt

fixed_pointer : (mode : Mode) {register : Register} {target : CType} {lowered : Lowered} → lowered ≡ AsPointer register target → IsFixed mode lowered
fixed_pointer mode is = subst (λ l. IsFixed mode l) (sym is) tt

fixed_nothing : (mode : Mode) {lowered : Lowered} → lowered ≡ AsNothing → IsFixed mode lowered
fixed_nothing mode is = subst (λ l. IsFixed mode l) (sym is) tt

kept_fixed : (mode : Mode) (lowered : Lowered) → IsFixed Kept lowered → IsFixed mode lowered
kept_fixed mode (AsInteger own tree) fixed = tt
kept_fixed mode (AsPointer register target) fixed = tt
kept_fixed mode (AsObject path own) fixed = absurd fixed
kept_fixed mode AsNothing fixed = tt

cast_fixed : (mode : Mode) (lowered : Lowered) → IsFixed (cast_mode mode) lowered → IsFixed mode lowered
cast_fixed Dropped lowered fixed = fixed
cast_fixed Kept lowered fixed = fixed
cast_fixed (Behind followed) lowered fixed = kept_fixed (Behind followed) lowered fixed
cast_fixed (Row followed) lowered fixed = kept_fixed (Row followed) lowered fixed

stable_where : (followed : Bool) (path : Path) → PathStable path → StableWhere followed path
stable_where true path stable = stable
stable_where false path stable = tt

stable_then : (followed : Bool) (path : Path) (step : Step) → StableWhere followed path → StepHolds IsStable step → StableWhere followed (then_step path step)
stable_then true path step stable one = path_then IsStable IsStable path step stable one
stable_then false path step stable one = tt

pub followed_path : (mode : Mode) (path : Path) → is_followed mode ≡ true → StablePath mode path → PathStable path
followed_path Kept path followed stable = absurd stable
followed_path Dropped path followed stable = absurd stable
followed_path (Behind follows) path followed stable = subst (λ b. StableWhere b path) followed stable
followed_path (Row follows) path followed stable = subst (λ b. StableWhere b path) followed stable

-- nothing is asked where no code follows
loose : (lowered : Lowered) → IsObjectFixed false lowered
loose (AsInteger own tree) = tt
loose (AsPointer register target) = tt
loose (AsObject path own) = tt
loose AsNothing = tt

fixed_object : (followed : Bool) {path : Path} {own : CType} {lowered : Lowered} → lowered ≡ AsObject path own → StableWhere followed path → IsObjectFixed followed lowered
fixed_object followed is stable = subst (λ l. IsObjectFixed followed l) (sym is) stable

-- ---- parts

module _ (points : List Op) where
  reads_fixed : (local : Local) (is_object : Bool) (own : CType) (mode : Mode) (from to : Spot) (lowered : Lowered) → ReadsLocal points (record { local = local; is_object = is_object; c_type = own }) from to lowered
      → IsFixed mode lowered
  reads_fixed local is_object (Integer int_type) mode from to lowered code = fixed_integer mode code.1
  reads_fixed local is_object (Pointer target) mode from to lowered code = fixed_pointer mode code.2
  reads_fixed local is_object Void mode from to lowered code = absurd code
  reads_fixed local is_object (Array element count) mode from to lowered code = absurd code
  reads_fixed local is_object (Struct tag) mode from to lowered code = absurd code
  reads_fixed local is_object (Function result parameters) mode from to lowered code = absurd code

  loads_fixed : (own : CType) (path : Path) (mode : Mode) (from to : Spot) (lowered : Lowered) → Loads points own path from to lowered → IsFixed mode lowered
  loads_fixed (Integer int_type) path mode from to lowered code = fixed_integer mode code.2
  loads_fixed (Pointer target) path mode from to lowered code = fixed_pointer mode code.2
  loads_fixed Void path mode from to lowered code = absurd code
  loads_fixed (Array element count) path mode from to lowered code = absurd code
  loads_fixed (Struct tag) path mode from to lowered code = absurd code
  loads_fixed (Function result parameters) path mode from to lowered code = absurd code

  read_fixed : (home : Option Home) (object : PartCode) (mode : Mode) (from to : Spot) (lowered : Lowered) → ReadCode points home object from to lowered → IsFixed mode lowered
  read_fixed (Some home) object mode from to lowered code = reads_fixed home.local home.is_object home.c_type mode from to lowered code
  read_fixed None object mode from to lowered code = loads_fixed code.2 code.1 mode code.0 to lowered code.4

  writes_fixed : (given : Lowered) (home : Home) (mode : Mode) (from to : Spot) (lowered : Lowered) → WritesLocal points home given from to lowered → IsFixed mode lowered
  writes_fixed (AsInteger own tree) home mode from to lowered code = fixed_integer mode code.1
  writes_fixed (AsPointer pointer target) home mode from to lowered code = fixed_pointer mode code.1
  writes_fixed (AsObject path own) home mode from to lowered code = absurd code.0
  writes_fixed AsNothing home mode from to lowered code = absurd code.0

  stores_fixed : (used : Bool) (given : Lowered) (path : Path) (own : CType) (mode : Mode) (from to : Spot) (lowered : Lowered) → Stores points used path own given from to lowered → IsFixed mode lowered
  stores_fixed true (AsInteger int_type tree) path own mode from to lowered code = fixed_integer mode code.2
  stores_fixed false (AsInteger int_type tree) path own mode from to lowered code = fixed_nothing mode code.1
  stores_fixed true (AsPointer pointer target) path own mode from to lowered code = fixed_pointer mode code.1
  stores_fixed false (AsPointer pointer target) path own mode from to lowered code = fixed_pointer mode code.1
  stores_fixed true (AsObject p c) path own mode from to lowered code = absurd code
  stores_fixed false (AsObject p c) path own mode from to lowered code = absurd code
  stores_fixed true AsNothing path own mode from to lowered code = absurd code
  stores_fixed false AsNothing path own mode from to lowered code = absurd code

  assign_fixed : (used : Bool) (home : Option Home) (object value : PartCode) (mode : Mode) (from to : Spot) (lowered : Lowered) → AssignCode points used home object value from to lowered → IsFixed mode lowered
  assign_fixed used (Some home) object value mode from to lowered code = writes_fixed code.1 home mode code.0 to lowered code.3
  assign_fixed used None object value mode from to lowered code = stores_fixed used code.4 code.2 code.3 mode code.1 to lowered code.7

  compound_fixed : (used : Bool) (home : Option Home) (object operand : PartCode) (own : IntType) (new : Register → Tree → Tree) (mode : Mode) (from to : Spot) (lowered : Lowered)
      → CompoundCode points used home object operand own new from to lowered → IsFixed mode lowered
  compound_fixed used (Some home) object operand own new mode from to lowered code = fixed_integer mode code.5
  compound_fixed used None object operand own new mode from to lowered code =
      stores_fixed used (AsInteger own (new (temporary code.1) code.5)) code.2 code.3 mode (behind (with_temporary code.1)) to lowered code.9

  stepping_fixed : (used : Bool) (stepping : Stepping) (home : Option Home) (object : PartCode) (own : IntType) (mode : Mode) (from to : Spot) (lowered : Lowered)
      → SteppingCode points used stepping own home object from to lowered → IsFixed mode lowered
  stepping_fixed false stepping (Some home) object own mode from to lowered code = fixed_integer mode code.1
  stepping_fixed true Steppings.PreIncrement (Some home) object own mode from to lowered code = fixed_integer mode code.1
  stepping_fixed true Steppings.PreDecrement (Some home) object own mode from to lowered code = fixed_integer mode code.1
  stepping_fixed true Steppings.PostIncrement (Some home) object own mode from to lowered code = fixed_integer mode code.2
  stepping_fixed true Steppings.PostDecrement (Some home) object own mode from to lowered code = fixed_integer mode code.2
  stepping_fixed used stepping None object own mode from to lowered code =
      by (gives_old stepping) _ code.3 code.7 (stores_fixed (used && not (gives_old stepping)) (AsInteger own _) code.1 code.2 mode _ to code.3 code.6)
    where
      by : (b : Bool) (tree : Tree) (new : Lowered) → lowered ≡ (if b then AsInteger own tree else new) → IsFixed mode new → IsFixed mode lowered
      by true tree new is fixed = fixed_integer mode is
      by false tree new is fixed = subst (λ l. IsFixed mode l) (sym is) fixed

  pointer_fixed : (home : Option Home) (object number : PartCode) (is_minus : Bool) (mode : Mode) (from to : Spot) (old new : Lowered) → PointerCode points home object is_minus number from to old new
      → IsFixed mode old × IsFixed mode new
  pointer_fixed (Some home) object number is_minus mode from to old new code = (fixed_pointer mode code.4.5, fixed_pointer mode code.4.6.2)
  pointer_fixed None object number is_minus mode from to old new code = (fixed_pointer mode code.8.5, fixed_pointer mode code.8.6.2)

  old_or_new : (b : Bool) (mode : Mode) (old new lowered : Lowered) → IsFixed mode old × IsFixed mode new → lowered ≡ (if b then old else new) → IsFixed mode lowered
  old_or_new true mode old new lowered both is = subst (λ l. IsFixed mode l) (sym is) both.0
  old_or_new false mode old new lowered both is = subst (λ l. IsFixed mode l) (sym is) both.1

  joins_fixed : (one : Lowered) (mode : Mode) (from to : Spot) (lowered : Lowered) → Joins points one from to lowered → IsFixed mode lowered
  joins_fixed (AsInteger own tree) mode from to lowered code = fixed_integer mode code.2
  joins_fixed (AsPointer pointer target) mode from to lowered code = fixed_pointer mode code.2
  joins_fixed (AsObject path own) mode from to lowered code = absurd code
  joins_fixed AsNothing mode from to lowered code = fixed_nothing mode code.1

  decays_fixed : (mode : Mode) (path : Path) (element : CType) (count : ℕ) (from to : Spot) (lowered : Lowered) → StableWhere (is_followed mode) path → Decays points mode path element count from to lowered
      → IsFixed mode lowered
  decays_fixed Kept path element count from to lowered stable code = fixed_pointer Kept code.2
  decays_fixed Dropped path element count from to lowered stable code = fixed_pointer Dropped code.2
  decays_fixed (Behind followed) path element count from to lowered stable code =
      subst (λ l. IsFixed (Behind followed) l) (sym code.1) (stable_then followed path (Element (Constant (pos 0))) stable tt)
  decays_fixed (Row followed) path element count from to lowered stable code = subst (λ l. IsFixed (Row followed) l) (sym code.1) stable

  object_behind : (followed : Bool) (found : Lowered) → IsObjectFixed followed found → IsFixed (Behind followed) found
  object_behind followed (AsInteger own tree) fixed = tt
  object_behind followed (AsPointer register target) fixed = tt
  object_behind followed (AsObject path own) fixed = fixed
  object_behind followed AsNothing fixed = tt

  takes_fixed : (mode : Mode) (found : Lowered) (from to : Spot) (lowered : Lowered) → IsObjectFixed (is_followed mode) found → TakesAddress points mode found from to lowered → IsFixed mode lowered
  takes_fixed (Behind followed) found from to lowered fixed code = subst (λ l. IsFixed (Behind followed) l) (sym code.1) (object_behind followed found fixed)
  takes_fixed Kept (AsObject path own) from to lowered fixed code = fixed_pointer Kept code.2
  takes_fixed Dropped (AsObject path own) from to lowered fixed code = fixed_pointer Dropped code.2
  takes_fixed (Row followed) (AsObject path own) from to lowered fixed code = fixed_pointer (Row followed) code.2
  takes_fixed Kept (AsPointer pointer target) from to lowered fixed code = fixed_pointer Kept code.1
  takes_fixed Dropped (AsPointer pointer target) from to lowered fixed code = fixed_pointer Dropped code.1
  takes_fixed (Row followed) (AsPointer pointer target) from to lowered fixed code = fixed_pointer (Row followed) code.1
  takes_fixed Kept (AsInteger own tree) from to lowered fixed code = fixed_integer Kept code.1
  takes_fixed Dropped (AsInteger own tree) from to lowered fixed code = fixed_integer Dropped code.1
  takes_fixed (Row followed) (AsInteger own tree) from to lowered fixed code = fixed_integer (Row followed) code.1
  takes_fixed Kept AsNothing from to lowered fixed code = fixed_nothing Kept code.1
  takes_fixed Dropped AsNothing from to lowered fixed code = fixed_nothing Dropped code.1
  takes_fixed (Row followed) AsNothing from to lowered fixed code = fixed_nothing (Row followed) code.1

  addresses_fixed : (callee : Callee) (own : CType) (mode : Mode) (from to : Spot) (lowered : Lowered) → Addresses points callee own from to lowered → IsFixed mode lowered
  addresses_fixed (Known number) own mode from to lowered code = fixed_pointer mode code.2
  addresses_fixed (Through pointer c_type) own mode from to lowered code = fixed_pointer mode code.1

  pointed_fixed : (is_kept followed : Bool) (found : Lowered) (counts : Counts) → LoweredNamed counts found → IsFixed (pointed_mode is_kept followed) found → IsObjectFixed followed (pointed_by is_kept found)
  pointed_fixed true followed (AsInteger own tree) counts named fixed = tt
  pointed_fixed true followed (AsPointer register target) counts named fixed = tt
  pointed_fixed true followed (AsObject path own) counts named fixed = absurd fixed
  pointed_fixed true followed AsNothing counts named fixed = tt
  pointed_fixed false followed (AsInteger own tree) counts named fixed = tt
  pointed_fixed false followed (AsPointer register target) counts named fixed = stable_where followed _ (before_stable counts register named, tt)
  pointed_fixed false followed (AsObject path own) counts named fixed = fixed
  pointed_fixed false followed AsNothing counts named fixed = tt

  -- an index that is kept names no local
  abbrev IndexStable : Bool → Tree → Spot → Type 0
  IndexStable follows index from = (kept : Tree) (to : Spot) → KeepsTree points follows index from to kept → TreeStable kept

  held_stable : (index : Tree) (from : Spot) → IndexStable true index from
  held_stable index from kept to code = subst (λ t. TreeStable t) (sym code.2) tt

  index_stays : (index : Tree) (from : Spot) → TreeStable index → IndexStable false index from
  index_stays index from stable kept to code = subst (λ t. TreeStable t) (sym code.1) stable

  indexes_fixed : (is_kept follows : Bool) (found : Lowered) (index : Tree) (from to : Spot) (lowered : Lowered) (counts : Counts) → LoweredNamed counts found → IsFixed (Row true) found
      → IndexStable follows index from → Indexes points is_kept follows found index from to lowered → IsObjectFixed true lowered
  indexes_fixed is_kept follows (AsObject path (Array element count)) index from to lowered counts named fixed stable code =
      fixed_object true code.2 (path_then IsStable IsStable path (Element code.0) fixed (stable code.0 to code.1))
  indexes_fixed false follows (AsPointer register target) index from to lowered counts named fixed stable code =
      fixed_object true code.2 ((before_stable counts register named, stable code.0 to code.1), tt)
  indexes_fixed true follows (AsPointer register target) index from to lowered counts named fixed stable code = subst (λ l. IsObjectFixed true l) (sym code.2) tt
  indexes_fixed is_kept follows (AsObject path Void) index from to lowered counts named fixed stable code = absurd code
  indexes_fixed is_kept follows (AsObject path (Integer own)) index from to lowered counts named fixed stable code = absurd code
  indexes_fixed is_kept follows (AsObject path (Pointer target)) index from to lowered counts named fixed stable code = absurd code
  indexes_fixed is_kept follows (AsObject path (Struct tag)) index from to lowered counts named fixed stable code = absurd code
  indexes_fixed is_kept follows (AsObject path (Function result parameters)) index from to lowered counts named fixed stable code = absurd code
  indexes_fixed is_kept follows (AsInteger own tree) index from to lowered counts named fixed stable code = absurd code
  indexes_fixed is_kept follows AsNothing index from to lowered counts named fixed stable code = absurd code

gives_fixed : (is_used : Bool) (c_type : CType) (site : ℕ) (mode : Mode) → IsFixed mode (call_gives is_used c_type site)
gives_fixed true (Function (Integer own) parameters) site mode = tt
gives_fixed true (Function (Pointer target) parameters) site mode = tt
gives_fixed is_used c_type site mode = tt

-- ---- expressions

module _ (program : Program) (points : List Op) (scope : Scope) where
  abbrev value_code : Mode → Value → PartCode
  value_code mode v = ValueCode program points scope mode v

  abbrev object_code : Bool → Object → PartCode
  object_code followed object = ObjectCode program points scope false followed object

  library_fixed : (function : LibraryFunction) (arguments : Values) (mode : Mode) (from to : Spot) (lowered : Lowered) → LibraryCode program points scope function arguments from to lowered → IsFixed mode lowered
  library_fixed L.Malloc (T.MoreValues size T.NoValues) mode from to lowered code = fixed_pointer mode code.5
  library_fixed L.Free (T.MoreValues pointer T.NoValues) mode from to lowered code = fixed_nothing mode code.5
  library_fixed L.GetChar T.NoValues mode from to lowered code = fixed_integer mode code.1
  library_fixed L.PutChar (T.MoreValues v T.NoValues) mode from to lowered code = fixed_integer mode code.5
  library_fixed L.Exit (T.MoreValues status T.NoValues) mode from to lowered code = fixed_nothing mode code.5
  library_fixed function arguments mode from to lowered code = absurd code

  mutual
    pub value_fixed : (v : Value) (mode : Mode) (from to : Spot) (lowered : Lowered) → ValueCode program points scope mode v from to lowered → IsFixed mode lowered
    value_fixed (T.Constant n z) mode from to lowered code = fixed_integer mode code.1
    value_fixed T.NullPointer mode from to lowered code = fixed_pointer mode code.2
    value_fixed (T.Grouped inner) mode from to lowered code = value_fixed inner mode from to lowered code
    value_fixed (T.Read place object) mode from to lowered code = read_fixed points (register_home scope object) (object_code false object) mode from to lowered code
    value_fixed (T.Decay place object) mode from to lowered code =
        decays_fixed points mode code.1 code.2 code.3 code.0 to lowered (object_fixed object false (is_followed mode) from code.0 (AsObject code.1 (Array code.2 code.3)) code.4) code.5
    value_fixed (T.FunctionValue function) mode from to lowered code = addresses_fixed points code.1 code.2 mode code.0 to lowered code.4
    value_fixed (T.Converted n operand) mode from to lowered code = fixed_integer mode code.3
    value_fixed (T.Repointed place target operand) mode from to lowered code = fixed_pointer mode code.4.2
    value_fixed (T.MadeNull target operand) mode from to lowered code = fixed_pointer mode code.3.2
    value_fixed (T.Tested place operand) mode from to lowered code = fixed_integer mode code.4.2
    value_fixed (T.Plus operand) mode from to lowered code = kept_fixed mode lowered (value_fixed operand Kept from to lowered code)
    value_fixed (T.Minus place n operand) mode from to lowered code = fixed_integer mode code.3
    value_fixed (T.Complement n operand) mode from to lowered code = fixed_integer mode code.3
    value_fixed (T.Not operand) mode from to lowered code = fixed_integer mode code.3
    value_fixed (T.Arithmetic op place n left right) mode from to lowered code = fixed_integer mode code.10
    value_fixed (T.Compare relation left right) mode from to lowered code = fixed_integer mode code.10
    value_fixed (T.ComparePointers relation place left right) mode from to lowered code = fixed_integer mode code.8.2
    value_fixed (T.PointerPlus place pointer number) mode from to lowered code = fixed_pointer mode code.8.2
    value_fixed (T.NumberPlus place number pointer) mode from to lowered code = fixed_pointer mode code.11.2
    value_fixed (T.PointerMinus place pointer number) mode from to lowered code = fixed_pointer mode code.8.2
    value_fixed (T.PointerDifference place left right) mode from to lowered code = fixed_integer mode code.8.2
    value_fixed (T.And left right) mode from to lowered code = fixed_integer mode code.12
    value_fixed (T.Or left right) mode from to lowered code = fixed_integer mode code.12
    value_fixed (T.Conditional condition taken otherwise) mode from to lowered code = joins_fixed points code.6 mode code.1 code.2 lowered code.11
    value_fixed (T.AddressOf place object) mode from to lowered code =
        takes_fixed points mode code.1 code.0 to lowered (object_fixed object (is_address mode) (is_followed mode) from code.0 code.1 code.2) code.3
    value_fixed (T.AddressOfFunction function) mode from to lowered code = addresses_fixed points code.1 code.2 mode code.0 to lowered code.4
    value_fixed (T.Cast operand) mode from to lowered code = cast_fixed mode lowered (value_fixed operand (cast_mode mode) from to lowered code)
    value_fixed (T.CastVoid operand) mode from to lowered code = fixed_nothing mode code.2
    value_fixed (T.Assign place object operand) mode from to lowered code =
        assign_fixed points (is_used mode) (register_home scope object) (object_code (not (is_pure scope operand)) object) (value_code Kept operand) mode from to lowered code
    value_fixed (T.AssignArithmetic op place object_type int_type object operand) mode from to lowered code =
        compound_fixed points (is_used mode) (register_home scope object) (object_code (not (is_pure scope operand)) object) (value_code Kept operand) object_type
        (compound_tree op object_type int_type) mode from to lowered code
    value_fixed (T.AssignMoved is_minus place object number) mode from to lowered code =
        (pointer_fixed points (register_home scope object) (object_code (not (is_pure scope number)) object) (value_code Kept number) is_minus mode from to code.0 lowered code.1).1
    value_fixed (T.StepInteger stepping place n object) mode from to lowered code =
        stepping_fixed points (is_used mode) stepping (register_home scope object) (object_code false object) n mode from to lowered code
    value_fixed (T.StepPointer stepping place object) mode from to lowered code =
        old_or_new points (gives_old stepping) mode code.0 code.1 lowered
        (pointer_fixed points (register_home scope object) (object_code false object) (OneCode points) (not (is_up stepping)) mode from to code.0 code.1 code.2) code.3
    value_fixed (T.Call is_used place function c_type arguments) mode from to lowered code =
        subst (λ l. IsFixed mode l) (sym code.8) (gives_fixed is_used c_type code.0.counts.calls mode)
    value_fixed (T.LibraryCall function groups place arguments) mode from to lowered code = library_fixed function arguments mode from to lowered code

    pub object_fixed : (o : Object) (is_kept followed : Bool) (from to : Spot) (lowered : Lowered) → ObjectCode program points scope is_kept followed o from to lowered → IsObjectFixed followed lowered
    object_fixed (T.Local number) is_kept followed from to lowered code = fixed_object followed code.4 (stable_where followed _ (tt, tt))
    object_fixed (T.Global name) is_kept followed from to lowered code = fixed_object followed code.4 (stable_where followed _ (tt, tt))
    object_fixed (T.Literal place bytes) is_kept followed from to lowered code = fixed_object followed code.4 (stable_where followed _ (tt, tt))
    object_fixed (T.GroupedObject place inner) is_kept followed from to lowered code = object_fixed inner is_kept followed from to lowered code
    object_fixed (T.Pointed place pointer) is_kept followed from to lowered code =
        subst (λ l. IsObjectFixed followed l) (sym code.2)
        (pointed_fixed points is_kept followed code.0 to.counts (value_named program points scope pointer (pointed_mode is_kept followed) from to code.0 code.1).named
        (value_fixed pointer (pointed_mode is_kept followed) from to code.0 code.1))
    object_fixed (T.Element place pointer number) is_kept false from to lowered code = loose lowered
    object_fixed (T.Element place pointer number) is_kept true from to lowered code =
        indexes_fixed points is_kept true code.2 code.4 code.1 to lowered code.0.counts (value_named program points scope pointer (Row true) from code.0 code.2 code.5).named
        (value_fixed pointer (Row true) from code.0 code.2 code.5) (held_stable points code.4 code.1) code.7
    object_fixed (T.ElementOf place number pointer) is_kept false from to lowered code = loose lowered
    object_fixed (T.ElementOf place number pointer) is_kept true from to lowered code =
        indexes_fixed points is_kept false code.6 code.5 code.2 to lowered code.2.counts (value_named program points scope pointer (Row true) code.1 code.2 code.6 code.9).named
        (value_fixed pointer (Row true) code.1 code.2 code.6 code.9) (index_stays points code.5 code.2 (held_stable points code.4 code.0 code.5 code.1 code.8)) code.10
    object_fixed (T.MemberOf place object number) is_kept followed from to lowered code =
        fixed_object followed code.5 (stable_then followed code.0 (Member number) (object_fixed object false followed from to (AsObject code.0 code.1) code.3) tt)
    object_fixed (T.PointedMember place pointer number) is_kept followed from to lowered code =
        let inner : StableWhere followed code.1 = subst (λ l. IsObjectFixed followed l) code.5
        (pointed_fixed points false followed code.0 to.counts (value_named program points scope pointer (Behind followed) from to code.0 code.4).named
        (value_fixed pointer (Behind followed) from to code.0 code.4)) in
        fixed_object followed code.7 (stable_then followed code.1 (Member number) inner tt)
