-- When points are the code of an expression: a relation by recursion on the typed tree, in the manner of the specification of RTL
-- generation in CompCert (Leroy, CACM 2009).
--
-- Code leads from a spot to a spot, and has all points in between. Each form that makes, copies, offsets, converts, tests, compares,
-- frees, passes, loads through or stores through a pointer has its point there, and no other point handles a pointer. An integer
-- expression has a tree; where more code follows before that is used, a temporary holds it.
use Rattle.std.specs.Prelude.{◌≡◌, ℕ, suc, Bool, true, false, not, ◌&&◌, ◌||◌, if◌then◌else◌, List, [], ◌∷◌, ◌++◌, slice_get, Option, Some, None, pos, bytes_eq}
use Rattle.c_num.specs.declared.IntType.{IntType}
use Rattle.c_num.specs.declared.IntType.TheVariants as I
use Rattle.c_num.specs.declared.BinOp.{BinOp}
use Rattle.c_num.specs.declared.BinOp.TheVariants as B
use Rattle.c_num.specs.Types.{common_of}
use Rattle.c_typed.specs.declared.typed.LibraryFunction.{LibraryFunction}
use Rattle.c_typed.specs.declared.typed.LibraryFunction.TheVariants as L
use Rattle.c_typed.specs.declared.typed.Stepping.{Stepping}
use Rattle.c_typed.specs.declared.typed.Stepping.TheVariants as Steppings
use Rattle.c_typed.specs.Types.{CType, Void, Integer, Pointer, Array, Struct, Function, literal_type}
use Rattle.c_typed.specs.Layouts.{StructDef, members_by_tag, known_members, member_type}
use Rattle.c_typed.specs.Typed as T
use Rattle.c_typed.specs.Typed.{Value, Object, Designator, Values, GlobalDef, LiteralDef, FunctionDef, Program}
use Rattle.tac_ir.specs.declared.register.Register.{Register}
use Rattle.tac_ir.specs.declared.register.Register.TheVariants as R
use Rattle.tac_ir.specs.Code.{Tree, Constant, Held, Convert, Complement, Not, Arithmetic, Compare, Base, AtLocal, AtGlobal, AtLiteral, Pointed, Indexed, Step, Member, Element, Path, IntegerOperand, PointerOperand, Callee, Known, Through, Op}
use Rattle.tac_ir.specs.Code as O
use Rattle.tac_ir.specs.First.{named_global, placed_literal}
use Rattle.tac_build.specs.Homes.{Home, Scope, home_of, register_home, is_pure}
use Rattle.tac_build.specs.Spots.{Spot, behind, with_call, with_argument, with_expression, with_temporary, argument, expression, temporary, Lowered, AsInteger, AsPointer, AsObject, AsNothing, Mode, Kept, Dropped, Behind, Row, is_used, is_followed, is_address, cast_mode, pointed_mode}

-- ---- names

-- a function by how many are defined before it
abbrev pub function_number : ℕ → List FunctionDef → List ℕ → Option ℕ
function_number number [] name = None
function_number number (first ∷ others) name = if bytes_eq first.name name then Some number else function_number (suc number) others name

abbrev pub type_of_function : List FunctionDef → List ℕ → Option CType
type_of_function [] name = None
type_of_function (first ∷ others) name = if bytes_eq first.name name then Some first.c_type else type_of_function others name

-- the type of the member of this number (C17 6.5.2.3)
abbrev pub type_of_member : List StructDef → CType → ℕ → Option CType
type_of_member structs (Struct tag) number = member_type (slice_get (known_members (members_by_tag structs tag)) number)
type_of_member structs _ number = None

-- ---- paths

abbrev pub path_from : Base → Path
path_from base = record { base = base; steps = [] }

abbrev pub then_step : Path → Step → Path
then_step path step = record path { steps = path.steps ++ step ∷ [] }

-- ---- trees

-- whether an integer isn't 0
abbrev pub truth_tree : IntType → Tree → Tree
truth_tree int_type tree = Not I.Int (Not int_type tree)

-- the value of a compound assignment, from the old one and the operand (C17 6.5.16.2 paragraph 3)
abbrev pub compound_tree : BinOp → IntType → IntType → Register → Tree → Tree
compound_tree op object_type int_type old operand = Convert object_type (Arithmetic op int_type (Convert int_type (Held old)) operand)

abbrev pub is_up : Stepping → Bool
is_up Steppings.PreIncrement = true
is_up Steppings.PostIncrement = true
is_up _ = false

abbrev pub step_operator : Stepping → BinOp
step_operator stepping = if is_up stepping then B.Add else B.Sub

-- the new value of `x++` and its like: x + 1 in the common type of x and int, converted back (C17 6.5.3.1)
abbrev pub step_tree : Stepping → IntType → Register → Tree
step_tree stepping int_type old =
    Convert int_type (Arithmetic (step_operator stepping) (common_of int_type I.Int) (Convert (common_of int_type I.Int) (Held old)) (Constant (pos 1)))

-- the value is the old one
abbrev pub gives_old : Stepping → Bool
gives_old Steppings.PostIncrement = true
gives_old Steppings.PostDecrement = true
gives_old _ = false

-- ---- points

-- code that leads from a spot to a spot, and what it comes to
abbrev pub PartCode : Type 1
PartCode = Spot → Spot → Lowered → Type 0

-- what a pointer points to
abbrev pub pointed_by : Bool → Lowered → Lowered
pointed_by false (AsPointer register target) = AsObject (path_from (Pointed register target)) target
pointed_by is_address found = found

-- what a call gives: where its value isn't used, nothing
abbrev pub call_gives : Bool → CType → ℕ → Lowered
call_gives true (Function (Integer int_type) parameters) site = AsInteger int_type (Held (R.Call site))
call_gives true (Function (Pointer target) parameters) site = AsPointer (R.Call site) target
call_gives _ c_type site = AsNothing

module _ (points : List Op) where
  -- the operation stands at the point
  abbrev pub HasOp : ℕ → Op → Type 0
  HasOp at op = slice_get points at ≡ Some op

  -- one point
  abbrev pub Emits : Op → Spot → Spot → Type 0
  Emits op from to = HasOp from.at op × (to ≡ behind from)

  -- a point that writes an integer to a new temporary
  abbrev pub GivesInteger : (Register → Op) → IntType → Spot → Spot → Lowered → Type 0
  GivesInteger op int_type from to lowered = HasOp from.at (op (temporary from)) × (to ≡ behind (with_temporary from)) × (lowered ≡ AsInteger int_type (Held (temporary from)))

  -- a point that writes a pointer to the register of its expression
  abbrev pub GivesPointer : (Register → Op) → CType → Spot → Spot → Lowered → Type 0
  GivesPointer op target from to lowered = HasOp from.at (op (expression from)) × (to ≡ behind (with_expression from)) × (lowered ≡ AsPointer (expression from) target)

  -- a tree is used later: a temporary holds it where more code follows
  abbrev pub KeepsTree : Bool → Tree → Spot → Spot → Tree → Type 0
  KeepsTree false tree from to kept = (to ≡ from) × (kept ≡ tree)
  KeepsTree true tree from to kept = HasOp from.at (O.Assign (temporary from) tree) × (to ≡ behind (with_temporary from)) × (kept ≡ Held (temporary from))

  -- what a local in a register holds
  abbrev pub ReadsLocal : Home → Spot → Spot → Lowered → Type 0
  ReadsLocal home from to lowered = by home.c_type
    where
      by : CType → Type 0
      by (Integer int_type) = (to ≡ from) × (lowered ≡ AsInteger int_type (Held (R.Local home.local)))
      by (Pointer target) = GivesPointer (λ register. O.Copy register (R.Local home.local)) target from to lowered
      by _ = ⊥

  -- what an object in memory holds
  abbrev pub Loads : CType → Path → Spot → Spot → Lowered → Type 0
  Loads (Integer int_type) path from to lowered = GivesInteger (λ register. O.Load register (Integer int_type) path) int_type from to lowered
  Loads (Pointer target) path from to lowered = GivesPointer (λ register. O.Load register (Pointer target) path) target from to lowered
  Loads _ path from to lowered = ⊥

  -- a value comes to a register
  abbrev pub Writes : Register → Lowered → Spot → Spot → Type 0
  Writes register (AsInteger int_type tree) from to = Emits (O.Assign register tree) from to
  Writes register (AsPointer pointer target) from to = Emits (O.Copy register pointer) from to
  Writes register _ from to = ⊥

  -- a value is assigned to a local in a register, and is the value of the assignment
  abbrev pub WritesLocal : Home → Lowered → Spot → Spot → Lowered → Type 0
  WritesLocal home value from to lowered = Writes (R.Local home.local) value from to × (lowered ≡ by value)
    where
      by : Lowered → Lowered
      by (AsInteger int_type tree) = AsInteger int_type (Held (R.Local home.local))
      by other = other

  -- a value is stored in memory, and is the value of the assignment, if that is used
  abbrev pub Stores : Bool → Path → CType → Lowered → Spot → Spot → Lowered → Type 0
  Stores true path c_type (AsInteger int_type tree) from to lowered =
      HasOp from.at (O.Assign (temporary from) tree) × Emits (O.Store path c_type (IntegerOperand (Held (temporary from)))) (behind (with_temporary from)) to × (lowered ≡ AsInteger int_type (Held (temporary from)))
  Stores false path c_type (AsInteger int_type tree) from to lowered = Emits (O.Store path c_type (IntegerOperand tree)) from to × (lowered ≡ AsNothing)
  Stores used path c_type (AsPointer pointer target) from to lowered = Emits (O.Store path c_type (PointerOperand pointer)) from to × (lowered ≡ AsPointer pointer target)
  Stores used path c_type _ from to lowered = ⊥

  -- The value of a way comes to a new register of its kind, where ways meet; and that of the other way to the same one.
  abbrev pub Joins : Lowered → Spot → Spot → Lowered → Type 0
  Joins (AsInteger int_type tree) from to lowered = GivesInteger (λ register. O.Assign register tree) int_type from to lowered
  Joins (AsPointer pointer target) from to lowered = GivesPointer (λ register. O.Copy register pointer) target from to lowered
  Joins AsNothing from to lowered = (to ≡ from) × (lowered ≡ AsNothing)
  Joins _ from to lowered = ⊥

  abbrev pub JoinsWith : Lowered → Lowered → Spot → Spot → Type 0
  JoinsWith (AsInteger int_type (Held register)) (AsInteger other tree) from to = Emits (O.Assign register tree) from to
  JoinsWith (AsPointer register target) (AsPointer pointer other) from to = Emits (O.Copy register pointer) from to
  JoinsWith AsNothing AsNothing from to = to ≡ from
  JoinsWith _ _ from to = ⊥

  -- what an array is needed for: its first element's address, that element, or the array itself
  abbrev pub Decays : Mode → Path → CType → ℕ → Spot → Spot → Lowered → Type 0
  Decays (Behind followed) path element count from to lowered = (to ≡ from) × (lowered ≡ AsObject (then_step path (Element (Constant (pos 0)))) element)
  Decays (Row followed) path element count from to lowered = (to ≡ from) × (lowered ≡ AsObject path (Array element count))
  Decays mode path element count from to lowered = GivesPointer (λ register. O.AddressOf register (then_step path (Element (Constant (pos 0))))) element from to lowered

  -- an address is kept as a value
  abbrev pub TakesAddress : Mode → Lowered → Spot → Spot → Lowered → Type 0
  TakesAddress (Behind followed) found from to lowered = (to ≡ from) × (lowered ≡ found)
  TakesAddress mode (AsObject path c_type) from to lowered = GivesPointer (λ register. O.AddressOf register path) c_type from to lowered
  TakesAddress mode found from to lowered = (to ≡ from) × (lowered ≡ found)

  -- the address of what is called, as a value
  abbrev pub Addresses : Callee → CType → Spot → Spot → Lowered → Type 0
  Addresses (Known function) c_type from to lowered = GivesPointer (λ register. O.FunctionAddress register function) c_type from to lowered
  Addresses (Through pointer c_type) own from to lowered = (to ≡ from) × (lowered ≡ AsPointer pointer c_type)

  -- a pointer moves by a number, from a register to a register
  abbrev pub MovesPointer : Register → CType → Bool → Tree → Spot → Spot → Lowered → Type 0
  MovesPointer pointer target is_minus number from to lowered = GivesPointer (λ register. O.Move register pointer target is_minus number) target from to lowered

  -- a pointer in a local or in memory is read, moved and written
  abbrev pub StepsLocal : Home → Bool → Tree → Spot → Spot → Lowered → Lowered → Type 0
  StepsLocal home is_minus number from to old new =
      (mid : Spot) × (last : Spot) × (register : Register) × (target : CType) × ReadsLocal home from mid old × (old ≡ AsPointer register target)
      × MovesPointer register target is_minus number mid last new × Writes (R.Local home.local) new last to

  abbrev pub StepsObject : Path → CType → Bool → Tree → Spot → Spot → Lowered → Lowered → Type 0
  StepsObject path c_type is_minus number from to old new =
      (mid : Spot) × (last : Spot) × (register : Register) × (target : CType) × Loads c_type path from mid old × (old ≡ AsPointer register target)
      × MovesPointer register target is_minus number mid last new × Stores false path c_type new last to new

  -- an index behind an array or a pointer: an object, or an address that moves
  abbrev pub Indexes : Bool → Bool → Lowered → Tree → Spot → Spot → Lowered → Type 0
  Indexes is_address followed (AsObject path (Array element count)) index from to lowered = (kept : Tree) × KeepsTree followed index from to kept × (lowered ≡ AsObject (then_step path (Element kept)) element)
  Indexes false followed (AsPointer register target) index from to lowered = (kept : Tree) × KeepsTree followed index from to kept × (lowered ≡ AsObject (path_from (Indexed register target kept)) target)
  Indexes true followed (AsPointer register target) index from to lowered = MovesPointer register target false index from to lowered
  Indexes is_address followed found index from to lowered = ⊥

  -- ---- forms over the code of their parts

  -- the value of a local in a register, or of an object in memory
  abbrev pub ReadCode : Option Home → PartCode → PartCode
  ReadCode (Some home) object from to lowered = ReadsLocal home from to lowered
  ReadCode None object from to lowered = (mid : Spot) × (path : Path) × (c_type : CType) × object from mid (AsObject path c_type) × Loads c_type path mid to lowered

  abbrev pub MovedCode : Bool → PartCode → PartCode → PartCode
  MovedCode is_minus pointer number from to lowered =
      (mid : Spot) × (next : Spot) × (register : Register) × (target : CType) × (own : IntType) × (tree : Tree)
      × pointer from mid (AsPointer register target) × number mid next (AsInteger own tree) × MovesPointer register target is_minus tree next to lowered

  abbrev pub AssignCode : Bool → Option Home → PartCode → PartCode → PartCode
  AssignCode used (Some home) object value from to lowered = (mid : Spot) × (given : Lowered) × value from mid given × WritesLocal home given mid to lowered
  AssignCode used None object value from to lowered =
      (mid : Spot) × (next : Spot) × (path : Path) × (c_type : CType) × (given : Lowered)
      × object from mid (AsObject path c_type) × value mid next given × Stores used path c_type given next to lowered

  -- the new value is told from the register of the old one
  abbrev pub CompoundCode : Bool → Option Home → PartCode → PartCode → IntType → (Register → Tree → Tree) → PartCode
  CompoundCode used (Some home) object operand object_type new from to lowered =
      (mid : Spot) × (own : IntType) × (tree : Tree) × operand from mid (AsInteger own tree) × Emits (O.Assign (R.Local home.local) (new (R.Local home.local) tree)) mid to
      × (lowered ≡ AsInteger object_type (Held (R.Local home.local)))
  CompoundCode used None object operand object_type new from to lowered =
      (mid : Spot) × (next : Spot) × (path : Path) × (c_type : CType) × (own : IntType) × (tree : Tree)
      × object from mid (AsObject path c_type) × operand mid next (AsInteger own tree) × HasOp next.at (O.Load (temporary next) c_type path)
      × Stores used path c_type (AsInteger object_type (new (temporary next) tree)) (behind (with_temporary next)) to lowered

  -- a pointer is read, moved and written: its old value and its new one
  abbrev pub PointerCode : Option Home → PartCode → Bool → PartCode → Spot → Spot → Lowered → Lowered → Type 0
  PointerCode (Some home) object is_minus number from to old new =
      (mid : Spot) × (own : IntType) × (tree : Tree) × number from mid (AsInteger own tree) × StepsLocal home is_minus tree mid to old new
  PointerCode None object is_minus number from to old new =
      (mid : Spot) × (next : Spot) × (path : Path) × (c_type : CType) × (own : IntType) × (tree : Tree)
      × object from mid (AsObject path c_type) × number mid next (AsInteger own tree) × StepsObject path c_type is_minus tree next to old new

  -- the number by which `++` and `--` move a pointer
  abbrev pub OneCode : PartCode
  OneCode from to lowered = (to ≡ from) × (lowered ≡ AsInteger I.Int (Constant (pos 1)))

  abbrev pub SteppingCode : Bool → Stepping → IntType → Option Home → PartCode → PartCode
  SteppingCode used stepping int_type (Some home) object from to lowered = by (used && gives_old stepping)
    where
      by : Bool → Type 0
      by false = Emits (O.Assign (R.Local home.local) (step_tree stepping int_type (R.Local home.local))) from to × (lowered ≡ AsInteger int_type (Held (R.Local home.local)))
      by true =
          HasOp from.at (O.Assign (temporary from) (Held (R.Local home.local)))
          × Emits (O.Assign (R.Local home.local) (step_tree stepping int_type (R.Local home.local))) (behind (with_temporary from)) to × (lowered ≡ AsInteger int_type (Held (temporary from)))
  SteppingCode used stepping int_type None object from to lowered =
      (mid : Spot) × (path : Path) × (c_type : CType) × (new : Lowered) × object from mid (AsObject path c_type) × HasOp mid.at (O.Load (temporary mid) c_type path)
      × Stores (used && not (gives_old stepping)) path c_type (AsInteger int_type (step_tree stepping int_type (temporary mid))) (behind (with_temporary mid)) to new
      × (lowered ≡ (if gives_old stepping then AsInteger int_type (Held (temporary mid)) else new))

  -- the value is `short` where the left operand decides it, and else whether the right one isn't 0
  abbrev pub LogicalCode : Bool → PartCode → PartCode → PartCode
  LogicalCode is_and left right from to lowered =
      (test : Spot) × (last : Spot) × (a : Tree) × (b : Tree) × (own : IntType) × (other : IntType)
      × left (with_temporary from) test (AsInteger own a)
      × HasOp test.at (O.Branch own a (if is_and then suc test.at else suc (suc last.at)) (if is_and then suc (suc last.at) else suc test.at))
      × right (behind test) last (AsInteger other b) × HasOp last.at (O.Assign (temporary from) (truth_tree other b)) × HasOp (suc last.at) (O.Jump to.at)
      × Emits (O.Assign (temporary from) (Constant (if is_and then pos 0 else pos 1))) (behind (behind last)) to × (lowered ≡ AsInteger I.Int (Held (temporary from)))

module _ (program : Program) (points : List Op) (scope : Scope) where
  abbrev mutual
    -- From a spot to a spot the points are the code of an expression, which comes to this.
    pub ValueCode : Mode → Value → Spot → Spot → Lowered → Type 0
    ValueCode mode (T.Constant int_type z) from to lowered = (to ≡ from) × (lowered ≡ AsInteger int_type (Constant z))
    ValueCode mode T.NullPointer from to lowered = GivesPointer points O.Null Void from to lowered
    ValueCode mode (T.Grouped inner) from to lowered = ValueCode mode inner from to lowered
    ValueCode mode (T.Read place object) from to lowered = ReadCode points (register_home scope object) (ObjectCode false false object) from to lowered
    ValueCode mode (T.Decay place object) from to lowered =
        (mid : Spot) × (path : Path) × (element : CType) × (count : ℕ) × ObjectCode false (is_followed mode) object from mid (AsObject path (Array element count)) × Decays points mode path element count mid to lowered
    ValueCode mode (T.FunctionValue function) from to lowered =
        (mid : Spot) × (callee : Callee) × (c_type : CType) × DesignatorCode function from mid callee c_type × Addresses points callee c_type mid to lowered
    ValueCode mode (T.Converted int_type value) from to lowered =
        (own : IntType) × (tree : Tree) × ValueCode Kept value from to (AsInteger own tree) × (lowered ≡ AsInteger int_type (Convert int_type tree))
    ValueCode mode (T.Repointed place target value) from to lowered =
        (mid : Spot) × (pointer : Register) × (own : CType) × ValueCode Kept value from mid (AsPointer pointer own) × GivesPointer points (λ register. O.Repoint register target pointer) target mid to lowered
    ValueCode mode (T.MadeNull target value) from to lowered = (mid : Spot) × (constant : Lowered) × ValueCode Dropped value from mid constant × GivesPointer points O.Null target mid to lowered
    ValueCode mode (T.Tested place value) from to lowered =
        (mid : Spot) × (pointer : Register) × (own : CType) × ValueCode Kept value from mid (AsPointer pointer own) × GivesInteger points (λ register. O.Test register pointer) I.Int mid to lowered
    ValueCode mode (T.Plus operand) from to lowered = ValueCode Kept operand from to lowered
    ValueCode mode (T.Minus place int_type operand) from to lowered =
        (own : IntType) × (tree : Tree) × ValueCode Kept operand from to (AsInteger own tree) × (lowered ≡ AsInteger int_type (Arithmetic B.Sub int_type (Constant (pos 0)) tree))
    ValueCode mode (T.Complement int_type operand) from to lowered =
        (own : IntType) × (tree : Tree) × ValueCode Kept operand from to (AsInteger own tree) × (lowered ≡ AsInteger int_type (Complement int_type tree))
    ValueCode mode (T.Not operand) from to lowered = (own : IntType) × (tree : Tree) × ValueCode Kept operand from to (AsInteger own tree) × (lowered ≡ AsInteger I.Int (Not own tree))
    ValueCode mode (T.Arithmetic op place int_type left right) from to lowered =
        (mid : Spot) × (next : Spot) × (a : Tree) × (kept : Tree) × (b : Tree) × (own : IntType) × (other : IntType)
        × ValueCode Kept left from mid (AsInteger own a) × KeepsTree points (not (is_pure scope right)) a mid next kept × ValueCode Kept right next to (AsInteger other b)
        × (lowered ≡ AsInteger int_type (Arithmetic op int_type kept b))
    ValueCode mode (T.Compare relation left right) from to lowered =
        (mid : Spot) × (next : Spot) × (a : Tree) × (kept : Tree) × (b : Tree) × (own : IntType) × (other : IntType)
        × ValueCode Kept left from mid (AsInteger own a) × KeepsTree points (not (is_pure scope right)) a mid next kept × ValueCode Kept right next to (AsInteger other b)
        × (lowered ≡ AsInteger I.Int (Compare relation own kept b))
    ValueCode mode (T.ComparePointers relation place left right) from to lowered =
        (mid : Spot) × (next : Spot) × (a : Register) × (b : Register) × (own : CType) × (other : CType)
        × ValueCode Kept left from mid (AsPointer a own) × ValueCode Kept right mid next (AsPointer b other)
        × GivesInteger points (λ register. O.ComparePointers register relation a b) I.Int next to lowered
    ValueCode mode (T.PointerPlus place pointer number) from to lowered = MovedCode points false (ValueCode Kept pointer) (ValueCode Kept number) from to lowered
    ValueCode mode (T.NumberPlus place number pointer) from to lowered =
        (first : Spot) × (mid : Spot) × (next : Spot) × (a : Tree) × (kept : Tree) × (own : IntType) × (register : Register) × (target : CType)
        × ValueCode Kept number from first (AsInteger own a) × KeepsTree points true a first mid kept × ValueCode Kept pointer mid next (AsPointer register target)
        × MovesPointer points register target false kept next to lowered
    ValueCode mode (T.PointerMinus place pointer number) from to lowered = MovedCode points true (ValueCode Kept pointer) (ValueCode Kept number) from to lowered
    ValueCode mode (T.PointerDifference place left right) from to lowered =
        (mid : Spot) × (next : Spot) × (a : Register) × (b : Register) × (own : CType) × (other : CType)
        × ValueCode Kept left from mid (AsPointer a own) × ValueCode Kept right mid next (AsPointer b other)
        × GivesInteger points (λ register. O.Difference register own a b) I.Long next to lowered
    ValueCode mode (T.And left right) from to lowered = LogicalCode points true (ValueCode Kept left) (ValueCode Kept right) from to lowered
    ValueCode mode (T.Or left right) from to lowered = LogicalCode points false (ValueCode Kept left) (ValueCode Kept right) from to lowered
    ValueCode mode (T.Conditional condition taken otherwise) from to lowered =
        (test : Spot) × (first : Spot) × (joined : Spot) × (second : Spot) × (a : Tree) × (own : IntType) × (one : Lowered) × (other : Lowered)
        × ValueCode Kept condition from test (AsInteger own a) × HasOp points test.at (O.Branch own a (suc test.at) (suc joined.at))
        × ValueCode Kept taken (behind test) first one × Joins points one first joined lowered × HasOp points joined.at (O.Jump to.at)
        × ValueCode Kept otherwise (behind joined) second other × JoinsWith points lowered other second to
    ValueCode mode (T.AddressOf place object) from to lowered =
        (mid : Spot) × (found : Lowered) × ObjectCode (is_address mode) (is_followed mode) object from mid found × TakesAddress points mode found mid to lowered
    ValueCode mode (T.AddressOfFunction function) from to lowered =
        (mid : Spot) × (callee : Callee) × (c_type : CType) × DesignatorCode function from mid callee c_type × Addresses points callee c_type mid to lowered
    ValueCode mode (T.Cast value) from to lowered = ValueCode (cast_mode mode) value from to lowered
    ValueCode mode (T.CastVoid value) from to lowered = (dropped : Lowered) × ValueCode Dropped value from to dropped × (lowered ≡ AsNothing)
    ValueCode mode (T.Assign place object value) from to lowered =
        AssignCode points (is_used mode) (register_home scope object) (ObjectCode false (not (is_pure scope value)) object) (ValueCode Kept value) from to lowered
    ValueCode mode (T.AssignArithmetic op place object_type int_type object value) from to lowered =
        CompoundCode points (is_used mode) (register_home scope object) (ObjectCode false (not (is_pure scope value)) object) (ValueCode Kept value) object_type (compound_tree op object_type int_type) from to lowered
    ValueCode mode (T.AssignMoved is_minus place object number) from to lowered =
        (old : Lowered) × PointerCode points (register_home scope object) (ObjectCode false (not (is_pure scope number)) object) is_minus (ValueCode Kept number) from to old lowered
    ValueCode mode (T.StepInteger stepping place int_type object) from to lowered = SteppingCode points (is_used mode) stepping int_type (register_home scope object) (ObjectCode false false object) from to lowered
    ValueCode mode (T.StepPointer stepping place object) from to lowered =
        (old : Lowered) × (new : Lowered) × PointerCode points (register_home scope object) (ObjectCode false false object) (not (is_up stepping)) (OneCode points) from to old new
        × (lowered ≡ (if gives_old stepping then old else new))
    ValueCode mode (T.Call is_used place function c_type arguments) from to lowered =
        (mid : Spot) × (next : Spot) × (callee : Callee) × (own : CType) × (registers : List Register)
        × DesignatorCode function from mid callee own × ArgumentsCode arguments (with_call mid) next registers
        × Emits points (O.Call mid.counts.calls callee registers) next to × (lowered ≡ call_gives is_used c_type mid.counts.calls)
    ValueCode mode (T.LibraryCall function groups place arguments) from to lowered = LibraryCode function arguments from to lowered

    pub LibraryCode : LibraryFunction → Values → Spot → Spot → Lowered → Type 0
    LibraryCode L.Malloc (T.MoreValues size T.NoValues) from to lowered =
        (mid : Spot) × (own : IntType) × (tree : Tree) × ValueCode Kept size (with_call from) mid (AsInteger own tree) × Emits points (O.Allocate from.counts.calls tree) mid to
        × (lowered ≡ AsPointer (R.Call from.counts.calls) Void)
    LibraryCode L.Free (T.MoreValues pointer T.NoValues) from to lowered =
        (mid : Spot) × (own : CType) × (register : Register) × ValueCode Kept pointer (with_call from) mid (AsPointer register own) × Emits points (O.Free from.counts.calls register) mid to
        × (lowered ≡ AsNothing)
    LibraryCode L.GetChar T.NoValues from to lowered = Emits points (O.GetChar from.counts.calls) (with_call from) to × (lowered ≡ AsInteger I.Int (Held (R.Call from.counts.calls)))
    LibraryCode L.PutChar (T.MoreValues value T.NoValues) from to lowered =
        (mid : Spot) × (own : IntType) × (tree : Tree) × ValueCode Kept value (with_call from) mid (AsInteger own tree) × Emits points (O.PutChar from.counts.calls tree) mid to
        × (lowered ≡ AsInteger I.Int (Held (R.Call from.counts.calls)))
    LibraryCode L.Exit (T.MoreValues status T.NoValues) from to lowered =
        (mid : Spot) × (own : IntType) × (tree : Tree) × ValueCode Kept status (with_call from) mid (AsInteger own tree) × Emits points (O.Exit tree) mid to × (lowered ≡ AsNothing)
    LibraryCode _ _ from to lowered = ⊥

    -- arguments come to registers of their own, in their order
    pub ArgumentsCode : Values → Spot → Spot → List Register → Type 0
    ArgumentsCode T.NoValues from to registers = (to ≡ from) × (registers ≡ [])
    ArgumentsCode (T.MoreValues first others) from to registers =
        (mid : Spot) × (next : Spot) × (given : Lowered) × (rest : List Register)
        × ValueCode Kept first (with_argument from) mid given × Writes points (argument from) given mid next × ArgumentsCode others next to rest × (registers ≡ argument from ∷ rest)

    -- a function, or a pointer to one, and its type
    pub DesignatorCode : Designator → Spot → Spot → Callee → CType → Type 0
    DesignatorCode (T.Function name) from to callee c_type =
        (number : ℕ) × (function_number 0 program.functions name ≡ Some number) × (to ≡ from) × (callee ≡ Known number) × (type_of_function program.functions name ≡ Some c_type)
    DesignatorCode (T.GroupedFunction inner) from to callee c_type = DesignatorCode inner from to callee c_type
    DesignatorCode (T.PointedFunction place pointer) from to callee c_type = (register : Register) × ValueCode Kept pointer from to (AsPointer register c_type) × (callee ≡ Through register c_type)
    DesignatorCode (T.ThroughPointer place pointer) from to callee c_type = (register : Register) × ValueCode Kept pointer from to (AsPointer register c_type) × (callee ≡ Through register c_type)

    -- An object in memory, by its path; or, where its address is kept as a value, perhaps that: `&*p` is p, and `&p[i]` is p + i (C17
    -- 6.5.3.2 paragraph 3).
    pub ObjectCode : Bool → Bool → Object → Spot → Spot → Lowered → Type 0
    ObjectCode is_kept followed (T.Local number) from to lowered =
        (home : Home) × (home_of scope number ≡ Some home) × (home.is_object ≡ true) × (to ≡ from) × (lowered ≡ AsObject (path_from (AtLocal home.local)) home.c_type)
    ObjectCode is_kept followed (T.Global name) from to lowered =
        (number : ℕ) × (global : GlobalDef) × (named_global 0 program.globals name ≡ Some (number, global)) × (to ≡ from) × (lowered ≡ AsObject (path_from (AtGlobal number)) global.c_type)
    ObjectCode is_kept followed (T.Literal place bytes) from to lowered =
        (number : ℕ) × (literal : LiteralDef) × (placed_literal 0 program.literals place ≡ Some (number, literal)) × (to ≡ from) × (lowered ≡ AsObject (path_from (AtLiteral number)) (literal_type bytes))
    ObjectCode is_kept followed (T.GroupedObject place inner) from to lowered = ObjectCode is_kept followed inner from to lowered
    ObjectCode is_kept followed (T.Pointed place pointer) from to lowered =
        (found : Lowered) × ValueCode (pointed_mode is_kept followed) pointer from to found × (lowered ≡ pointed_by is_kept found)
    ObjectCode is_kept followed (T.Element place pointer number) from to lowered =
        (mid : Spot) × (next : Spot) × (found : Lowered) × (own : IntType) × (index : Tree) × ValueCode (Row (followed || not (is_pure scope number))) pointer from mid found
        × ValueCode Kept number mid next (AsInteger own index) × Indexes points is_kept followed found index next to lowered
    ObjectCode is_kept followed (T.ElementOf place number pointer) from to lowered =
        (first : Spot) × (mid : Spot) × (next : Spot) × (own : IntType) × (index : Tree) × (kept : Tree) × (found : Lowered)
        × ValueCode Kept number from first (AsInteger own index) × KeepsTree points true index first mid kept
        × ValueCode (Row followed) pointer mid next found × Indexes points is_kept false found kept next to lowered
    ObjectCode is_kept followed (T.MemberOf place object number) from to lowered =
        (path : Path) × (own : CType) × (c_type : CType) × ObjectCode false followed object from to (AsObject path own)
        × (type_of_member program.structs own number ≡ Some c_type) × (lowered ≡ AsObject (then_step path (Member number)) c_type)
    ObjectCode is_kept followed (T.PointedMember place pointer number) from to lowered =
        (found : Lowered) × (path : Path) × (own : CType) × (c_type : CType) × ValueCode (Behind followed) pointer from to found × (pointed_by false found ≡ AsObject path own)
        × (type_of_member program.structs own number ≡ Some c_type) × (lowered ≡ AsObject (then_step path (Member number)) c_type)
