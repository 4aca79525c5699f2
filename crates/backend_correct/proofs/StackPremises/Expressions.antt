-- The code of an expression names only registers of its function.
use Rattle.std.proofs.Common.{◌≡◌, ℕ, suc, ◌==◌, Bool, true, false, not, ◌||◌, List, [], ◌∷◌, length, Option, Some, None, pos, sym, subst, arith}
use Rattle.std.specs.Prelude.{if◌then◌else◌}
use Rattle.std.specs.List.{AllByRecursion}
use Rattle.c_num.specs.declared.BinOp.TheVariants as B
use Rattle.c_num.specs.declared.IntType.TheVariants as I
use Rattle.c_typed.specs.declared.typed.LibraryFunction.{LibraryFunction}
use Rattle.c_typed.specs.declared.typed.LibraryFunction.TheVariants as L
use Rattle.c_typed.specs.Types.{CType, Void, Integer, Pointer, Array, Struct, Function, literal_type}
use Rattle.c_typed.specs.Typed as T
use Rattle.c_typed.specs.Typed.{Program, Value, Values, Object, Designator}
use Rattle.tac_ir.specs.declared.register.Register.{Register}
use Rattle.tac_ir.specs.declared.register.Register.TheVariants as R
use Rattle.tac_ir.specs.Code.{Constant, Held, Convert, Complement, Not, Arithmetic, Compare, AtLocal, AtGlobal, AtLiteral, Member, Callee, Op}
use Rattle.tac_ir.specs.Code as O
use Rattle.tac_build.specs.Homes.{Home, Scope, home_of, in_register, register_home, home_behind, is_pure}
use Rattle.tac_build.specs.Spots.{Spot, behind, with_call, with_argument, argument, Lowered, AsInteger, AsPointer, AsObject, AsNothing, Mode, Kept, Dropped, Behind, Row, is_used, is_followed, is_address, cast_mode, pointed_mode}
use Rattle.tac_build.specs.Code.{PartCode, path_from, then_step, compound_tree, is_up, gives_old, pointed_by, call_gives, OneCode, ValueCode, LibraryCode, ArgumentsCode, DesignatorCode, ObjectCode}
use Rattle.backend_correct.specs.Named.{Registers, Has, CalleeNamed, LoweredNamed, ScopeNamed}
use Rattle.backend_correct.proofs.StackPremises.Leading.{Below, Leads, Gives, after, leads_then, stays, point, emits, names_call, names_argument, has_argument, gives, gives_integer, gives_pointer}
use Rattle.backend_correct.proofs.StackPremises.Parts.{HomeNamed, Part, path_then, keeps_gives, writes_leads, joins_gives, joins_with_leads, decays_gives, takes_gives, addresses_gives, moves_gives, indexes_gives, read_gives, moved_gives, assign_gives, compound_gives, pointer_gives, stepping_gives, logical_gives}

-- ---- locals in scope

module _ (all : Registers) where
  pub home_named : (scope : Scope) → ScopeNamed all scope → (number : ℕ) → HomeNamed all (home_of scope number)
  home_named [] named number = tt
  home_named (newest ∷ others) named number = by (length others == number) (home_named others named.1 number)
    where
      by : (b : Bool) → HomeNamed all (home_of others number) → HomeNamed all (if b then Some newest else home_of others number)
      by true older = named.0
      by false older = older

  register_named : (home : Option Home) → HomeNamed all home → HomeNamed all (in_register home)
  register_named None named = tt
  register_named (Some home) named = by home.is_object
    where
      by : (b : Bool) → HomeNamed all (if b then None else Some home)
      by true = tt
      by false = named

  module _ (scope : Scope) (scoped : ScopeNamed all scope) where
    mutual
      pub home_in : (object : Object) → HomeNamed all (register_home scope object)
      home_in (T.Local number) = register_named (home_of scope number) (home_named scope scoped number)
      home_in (T.GroupedObject place inner) = home_in inner
      home_in (T.Pointed place pointer) = behind_in pointer
      home_in (T.Global name) = tt
      home_in (T.Literal place bytes) = tt
      home_in (T.Element place pointer number) = tt
      home_in (T.ElementOf place number pointer) = tt
      home_in (T.MemberOf place object number) = tt
      home_in (T.PointedMember place pointer number) = tt

      behind_in : (v : Value) → HomeNamed all (home_behind scope v)
      behind_in (T.Grouped inner) = behind_in inner
      behind_in (T.AddressOf place object) = home_in object
      behind_in (T.Constant n z) = tt
      behind_in T.NullPointer = tt
      behind_in (T.Read place object) = tt
      behind_in (T.Decay place object) = tt
      behind_in (T.FunctionValue function) = tt
      behind_in (T.Converted n operand) = tt
      behind_in (T.Repointed place target operand) = tt
      behind_in (T.MadeNull target operand) = tt
      behind_in (T.Tested place operand) = tt
      behind_in (T.Plus operand) = tt
      behind_in (T.Minus place n operand) = tt
      behind_in (T.Complement n operand) = tt
      behind_in (T.Not operand) = tt
      behind_in (T.Arithmetic op place n left right) = tt
      behind_in (T.Compare relation left right) = tt
      behind_in (T.ComparePointers relation place left right) = tt
      behind_in (T.PointerPlus place pointer number) = tt
      behind_in (T.NumberPlus place number pointer) = tt
      behind_in (T.PointerMinus place pointer number) = tt
      behind_in (T.PointerDifference place left right) = tt
      behind_in (T.And left right) = tt
      behind_in (T.Or left right) = tt
      behind_in (T.Conditional condition taken otherwise) = tt
      behind_in (T.AddressOfFunction function) = tt
      behind_in (T.Cast operand) = tt
      behind_in (T.CastVoid operand) = tt
      behind_in (T.Assign place object operand) = tt
      behind_in (T.AssignArithmetic op place object_type int_type object operand) = tt
      behind_in (T.AssignMoved is_minus place object number) = tt
      behind_in (T.StepInteger stepping place n object) = tt
      behind_in (T.StepPointer stepping place object) = tt
      behind_in (T.Call used place function c_type arguments) = tt
      behind_in (T.LibraryCall function groups place arguments) = tt

-- ---- forms

-- registers of arguments, and what is called
record GivesRegisters (all : Registers) (points : List Op) (from to : Spot) (registers : List Register) : Type 0 where
  leads : Leads all points from to
  registers_named : Below all points to.counts → AllByRecursion (Has all) registers

record GivesCallee (all : Registers) (points : List Op) (from to : Spot) (called : Callee) : Type 0 where
  leads : Leads all points from to
  callee : Below all points to.counts → CalleeNamed all called

module _ (all : Registers) (program : Program) (points : List Op) (scope : Scope) where
  abbrev known : Type 0
  known = ScopeNamed all scope

  abbrev value_code : Mode → Value → PartCode
  value_code mode v = ValueCode program points scope mode v

  abbrev object_code : Bool → Object → PartCode
  object_code followed object = ObjectCode program points scope false followed object

  homes : (object : Object) → known → HomeNamed all (register_home scope object)
  homes object scoped = home_in all scope scoped object

  -- an integer that is told from another one, or from what has the same registers
  told : (given : Lowered) {one : Lowered} {from to : Spot} {lowered : Lowered} → lowered ≡ given → (LoweredNamed all one → LoweredNamed all given) → Gives all points from to one → Gives all points from to lowered
  told given is from_one made = gives all points given is made.leads (λ below. from_one (made.value below))

  -- what comes behind other code
  then_gives : {from mid to : Spot} {lowered : Lowered} → Leads all points from mid → Gives all points mid to lowered → Gives all points from to lowered
  then_gives one other = record { leads = leads_then all points one other.leads; value = other.value }

  pointed_named : (is_kept : Bool) (found : Lowered) → LoweredNamed all found → LoweredNamed all (pointed_by is_kept found)
  pointed_named false (AsPointer register target) named = (named, tt)
  pointed_named false (AsInteger int_type tree) named = named
  pointed_named false (AsObject path own) named = named
  pointed_named false AsNothing named = named
  pointed_named true found named = named

  called_named : (used : Bool) (own : CType) (site : ℕ) → Has all (R.Call site) → LoweredNamed all (call_gives used own site)
  called_named true (Function (Integer int_type) parameters) site has = has
  called_named true (Function (Pointer target) parameters) site has = has
  called_named true (Function Void parameters) site has = tt
  called_named true (Function (Array element count) parameters) site has = tt
  called_named true (Function (Struct tag) parameters) site has = tt
  called_named true (Function (Function result others) parameters) site has = tt
  called_named true Void site has = tt
  called_named true (Integer int_type) site has = tt
  called_named true (Pointer target) site has = tt
  called_named true (Array element count) site has = tt
  called_named true (Struct tag) site has = tt
  called_named false own site has = tt

  one_gives : Part all points known (OneCode points)
  one_gives from to lowered scoped code = gives all points (AsInteger I.Int (Constant (pos 1))) code.1 (stays all points code.0) (λ below. tt)

  has_call : (from : Spot) → Below all points (with_call from).counts → Has all (R.Call from.counts.calls)
  has_call from below = let more = below.calls in omega (arith, more)

  mutual
    pub value_gives : (v : Value) (mode : Mode) → Part all points known (value_code mode v)
    value_gives (T.Constant n z) mode from to lowered scoped code = gives all points (AsInteger n (Constant z)) code.1 (stays all points code.0) (λ below. tt)
    value_gives T.NullPointer mode from to lowered scoped code = gives_pointer all points O.Null Void code (λ below register has. has)
    value_gives (T.Grouped inner) mode from to lowered scoped code = value_gives inner mode from to lowered scoped code
    value_gives (T.Read place object) mode from to lowered scoped code =
        read_gives all points known (register_home scope object) (object_code false object) (homes object) (object_gives object false false) from to lowered scoped code
    value_gives (T.Decay place object) mode from to lowered scoped code =
        let one = object_gives object false (is_followed mode) from code.0 (AsObject code.1 (Array code.2 code.3)) scoped code.4 in
        then_gives one.leads (decays_gives all points mode code.1 code.2 code.3 code.0 to lowered one.value code.5)
    value_gives (T.FunctionValue function) mode from to lowered scoped code =
        let one = designator_gives function from code.0 code.1 code.2 scoped code.3 in
        then_gives one.leads (addresses_gives all points code.1 code.2 code.0 to lowered one.callee code.4)
    value_gives (T.Converted n operand) mode from to lowered scoped code =
        told (AsInteger n (Convert n code.1)) code.3 (λ named. named) (value_gives operand Kept from to (AsInteger code.0 code.1) scoped code.2)
    value_gives (T.Repointed place target operand) mode from to lowered scoped code =
        let one = value_gives operand Kept from code.0 (AsPointer code.1 code.2) scoped code.3 in
        then_gives one.leads (gives_pointer all points (λ register. O.Repoint register target code.1) target code.4 (λ below register has. (has, one.value below)))
    value_gives (T.MadeNull target operand) mode from to lowered scoped code =
        let one = value_gives operand Dropped from code.0 code.1 scoped code.2 in
        then_gives one.leads (gives_pointer all points O.Null target code.3 (λ below register has. has))
    value_gives (T.Tested place operand) mode from to lowered scoped code =
        let one = value_gives operand Kept from code.0 (AsPointer code.1 code.2) scoped code.3 in
        then_gives one.leads (gives_integer all points (λ register. O.Test register code.1) I.Int code.4 (λ below register has. (has, one.value below)))
    value_gives (T.Plus operand) mode from to lowered scoped code = value_gives operand Kept from to lowered scoped code
    value_gives (T.Minus place n operand) mode from to lowered scoped code =
        told (AsInteger n (Arithmetic B.Sub n (Constant (pos 0)) code.1)) code.3 (λ named. (tt, named)) (value_gives operand Kept from to (AsInteger code.0 code.1) scoped code.2)
    value_gives (T.Complement n operand) mode from to lowered scoped code =
        told (AsInteger n (Complement n code.1)) code.3 (λ named. named) (value_gives operand Kept from to (AsInteger code.0 code.1) scoped code.2)
    value_gives (T.Not operand) mode from to lowered scoped code =
        told (AsInteger I.Int (Not code.0 code.1)) code.3 (λ named. named) (value_gives operand Kept from to (AsInteger code.0 code.1) scoped code.2)
    value_gives (T.Arithmetic op place n left right) mode from to lowered scoped code =
        let one = value_gives left Kept from code.0 (AsInteger code.5 code.2) scoped code.7 in
        let kept = keeps_gives all points (not (is_pure scope right)) code.2 code.3 code.0 code.1 one.value code.8 in
        let other = value_gives right Kept code.1 to (AsInteger code.6 code.4) (after all points kept.leads (after all points one.leads scoped)) code.9 in
        gives all points (AsInteger n (Arithmetic op n code.3 code.4)) code.10 (leads_then all points one.leads (leads_then all points kept.leads other.leads)) (λ below. (kept.value (other.leads.back below), other.value below))
    value_gives (T.Compare relation left right) mode from to lowered scoped code =
        let one = value_gives left Kept from code.0 (AsInteger code.5 code.2) scoped code.7 in
        let kept = keeps_gives all points (not (is_pure scope right)) code.2 code.3 code.0 code.1 one.value code.8 in
        let other = value_gives right Kept code.1 to (AsInteger code.6 code.4) (after all points kept.leads (after all points one.leads scoped)) code.9 in
        gives all points (AsInteger I.Int (Compare relation code.5 code.3 code.4)) code.10 (leads_then all points one.leads (leads_then all points kept.leads other.leads))
        (λ below. (kept.value (other.leads.back below), other.value below))
    value_gives (T.ComparePointers relation place left right) mode from to lowered scoped code =
        let one = value_gives left Kept from code.0 (AsPointer code.2 code.4) scoped code.6 in
        let other = value_gives right Kept code.0 code.1 (AsPointer code.3 code.5) (after all points one.leads scoped) code.7 in
        then_gives (leads_then all points one.leads other.leads)
        (gives_integer all points (λ register. O.ComparePointers register relation code.2 code.3) I.Int code.8 (λ below register has. (has, one.value (other.leads.back below), other.value below)))
    value_gives (T.PointerPlus place pointer number) mode from to lowered scoped code =
        moved_gives all points known false (value_code Kept pointer) (value_code Kept number) (value_gives pointer Kept) (value_gives number Kept) from to lowered scoped code
    value_gives (T.NumberPlus place number pointer) mode from to lowered scoped code =
        let one = value_gives number Kept from code.0 (AsInteger code.5 code.3) scoped code.8 in
        let kept = keeps_gives all points true code.3 code.4 code.0 code.1 one.value code.9 in
        let other = value_gives pointer Kept code.1 code.2 (AsPointer code.6 code.7) (after all points kept.leads (after all points one.leads scoped)) code.10 in
        then_gives (leads_then all points one.leads (leads_then all points kept.leads other.leads))
        (moves_gives all points code.6 code.7 false code.4 code.2 to lowered other.value (after all points other.leads kept.value) code.11)
    value_gives (T.PointerMinus place pointer number) mode from to lowered scoped code =
        moved_gives all points known true (value_code Kept pointer) (value_code Kept number) (value_gives pointer Kept) (value_gives number Kept) from to lowered scoped code
    value_gives (T.PointerDifference place left right) mode from to lowered scoped code =
        let one = value_gives left Kept from code.0 (AsPointer code.2 code.4) scoped code.6 in
        let other = value_gives right Kept code.0 code.1 (AsPointer code.3 code.5) (after all points one.leads scoped) code.7 in
        then_gives (leads_then all points one.leads other.leads)
        (gives_integer all points (λ register. O.Difference register code.4 code.2 code.3) I.Long code.8 (λ below register has. (has, one.value (other.leads.back below), other.value below)))
    value_gives (T.And left right) mode from to lowered scoped code =
        logical_gives all points known true (value_code Kept left) (value_code Kept right) (value_gives left Kept) (value_gives right Kept) from to lowered scoped code
    value_gives (T.Or left right) mode from to lowered scoped code =
        logical_gives all points known false (value_code Kept left) (value_code Kept right) (value_gives left Kept) (value_gives right Kept) from to lowered scoped code
    value_gives (T.Conditional condition taken otherwise) mode from to lowered scoped code =
        let tested = value_gives condition Kept from code.0 (AsInteger code.5 code.4) scoped code.8 in
        let branch = point all points code.0 (O.Branch code.5 code.4 (suc code.0.at) (suc code.2.at)) code.9 tested.value in
        let front = leads_then all points tested.leads branch in
        let one = value_gives taken Kept (behind code.0) code.1 code.6 (after all points front scoped) code.10 in
        let joined = joins_gives all points code.6 code.1 code.2 lowered one.value code.11 in
        let jump = point all points code.2 (O.Jump to.at) code.12 (λ below. tt) in
        let middle = leads_then all points front (leads_then all points one.leads (leads_then all points joined.leads jump)) in
        let other = value_gives otherwise Kept (behind code.2) code.3 code.7 (after all points middle scoped) code.13 in
        let again = after all points other.leads (after all points jump joined.value) in
        let last = joins_with_leads all points lowered code.7 code.3 to again other.value code.14 in
        record { leads = leads_then all points middle (leads_then all points other.leads last); value = after all points last again }
    value_gives (T.AddressOf place object) mode from to lowered scoped code =
        let one = object_gives object (is_address mode) (is_followed mode) from code.0 code.1 scoped code.2 in
        then_gives one.leads (takes_gives all points mode code.1 code.0 to lowered one.value code.3)
    value_gives (T.AddressOfFunction function) mode from to lowered scoped code =
        let one = designator_gives function from code.0 code.1 code.2 scoped code.3 in
        then_gives one.leads (addresses_gives all points code.1 code.2 code.0 to lowered one.callee code.4)
    value_gives (T.Cast operand) mode from to lowered scoped code = value_gives operand (cast_mode mode) from to lowered scoped code
    value_gives (T.CastVoid operand) mode from to lowered scoped code = told AsNothing code.2 (λ named. tt) (value_gives operand Dropped from to code.0 scoped code.1)
    value_gives (T.Assign place object operand) mode from to lowered scoped code =
        assign_gives all points known (is_used mode) (register_home scope object) (object_code (not (is_pure scope operand)) object) (value_code Kept operand) (homes object)
        (object_gives object false (not (is_pure scope operand))) (value_gives operand Kept) from to lowered scoped code
    value_gives (T.AssignArithmetic op place object_type int_type object operand) mode from to lowered scoped code =
        compound_gives all points known (is_used mode) (register_home scope object) (object_code (not (is_pure scope operand)) object) (value_code Kept operand) object_type (compound_tree op object_type int_type)
        (λ register tree has named. (has, named)) (homes object) (object_gives object false (not (is_pure scope operand))) (value_gives operand Kept) from to lowered scoped code
    value_gives (T.AssignMoved is_minus place object number) mode from to lowered scoped code =
        let both = pointer_gives all points known (register_home scope object) is_minus (object_code (not (is_pure scope number)) object) (value_code Kept number) (homes object)
        (object_gives object false (not (is_pure scope number))) (value_gives number Kept) from to code.0 lowered scoped code.1 in
        record { leads = both.leads; value = both.new_value }
    value_gives (T.StepInteger stepping place n object) mode from to lowered scoped code =
        stepping_gives all points known (is_used mode) stepping n (register_home scope object) (object_code false object) (homes object) (object_gives object false false) from to lowered scoped code
    value_gives (T.StepPointer stepping place object) mode from to lowered scoped code =
        let both = pointer_gives all points known (register_home scope object) (not (is_up stepping)) (object_code false object) (OneCode points) (homes object)
        (object_gives object false false) one_gives from to code.0 code.1 scoped code.2 in
        gives all points (if gives_old stepping then code.0 else code.1) code.3 both.leads (λ below. either (gives_old stepping) code.0 code.1 (both.old_value below) (both.new_value below))
      where
        either : (b : Bool) (old new : Lowered) → LoweredNamed all old → LoweredNamed all new → LoweredNamed all (if b then old else new)
        either true old new one other = one
        either false old new one other = other
    value_gives (T.Call used place function c_type arguments) mode from to lowered scoped code =
        let one = designator_gives function from code.0 code.2 code.3 scoped code.5 in
        let called = names_call all points code.0 in
        let given = arguments_give arguments (with_call code.0) code.1 code.4 (after all points called (after all points one.leads scoped)) code.6 in
        let has : (Below all points code.1.counts → Has all (R.Call code.0.counts.calls)) = λ below. has_call code.0 (given.leads.back below) in
        let call = emits all points (O.Call code.0.counts.calls code.2 code.4) code.7 (λ below. (has below, one.callee (called.back (given.leads.back below)), given.registers_named below)) in
        gives all points (call_gives used c_type code.0.counts.calls) code.8 (leads_then all points one.leads (leads_then all points called (leads_then all points given.leads call)))
        (λ below. called_named used c_type code.0.counts.calls (has (call.back below)))
    value_gives (T.LibraryCall function groups place arguments) mode from to lowered scoped code = library_gives function arguments from to lowered scoped code

    library_gives : (function : LibraryFunction) (arguments : Values) → Part all points known (LibraryCode program points scope function arguments)
    library_gives L.Malloc (T.MoreValues size T.NoValues) from to lowered scoped code =
        let called = names_call all points from in
        let one = value_gives size Kept (with_call from) code.0 (AsInteger code.1 code.2) (after all points called scoped) code.3 in
        let has = after all points one.leads (has_call from) in
        let last = emits all points (O.Allocate from.counts.calls code.2) code.4 (λ below. (has below, one.value below)) in
        gives all points (AsPointer (R.Call from.counts.calls) Void) code.5 (leads_then all points called (leads_then all points one.leads last)) (after all points last has)
    library_gives L.Free (T.MoreValues pointer T.NoValues) from to lowered scoped code =
        let called = names_call all points from in
        let one = value_gives pointer Kept (with_call from) code.0 (AsPointer code.2 code.1) (after all points called scoped) code.3 in
        gives all points AsNothing code.5 (leads_then all points called (leads_then all points one.leads (emits all points (O.Free from.counts.calls code.2) code.4 one.value))) (λ below. tt)
    library_gives L.GetChar T.NoValues from to lowered scoped code =
        let called = names_call all points from in
        let last = emits all points {from = with_call from} (O.GetChar from.counts.calls) code.0 (has_call from) in
        gives all points (AsInteger I.Int (Held (R.Call from.counts.calls))) code.1 (leads_then all points called last) (after all points last (has_call from))
    library_gives L.PutChar (T.MoreValues v T.NoValues) from to lowered scoped code =
        let called = names_call all points from in
        let one = value_gives v Kept (with_call from) code.0 (AsInteger code.1 code.2) (after all points called scoped) code.3 in
        let has = after all points one.leads (has_call from) in
        let last = emits all points (O.PutChar from.counts.calls code.2) code.4 (λ below. (has below, one.value below)) in
        gives all points (AsInteger I.Int (Held (R.Call from.counts.calls))) code.5 (leads_then all points called (leads_then all points one.leads last)) (after all points last has)
    library_gives L.Exit (T.MoreValues status T.NoValues) from to lowered scoped code =
        let called = names_call all points from in
        let one = value_gives status Kept (with_call from) code.0 (AsInteger code.1 code.2) (after all points called scoped) code.3 in
        gives all points AsNothing code.5 (leads_then all points called (leads_then all points one.leads (emits all points (O.Exit code.2) code.4 one.value))) (λ below. tt)
    library_gives function arguments from to lowered scoped code = absurd code

    arguments_give : (arguments : Values) (from to : Spot) (registers : List Register) → (Below all points from.counts → known) → ArgumentsCode program points scope arguments from to registers → GivesRegisters all points from to registers
    arguments_give T.NoValues from to registers scoped code =
        record { leads = stays all points code.0; registers_named = λ below. subst (AllByRecursion (Has all)) (sym code.1) tt }
    arguments_give (T.MoreValues first others) from to registers scoped code =
        let named = names_argument all points from in
        let one = value_gives first Kept (with_argument from) code.0 code.2 (after all points named scoped) code.4 in
        let has = after all points one.leads (has_argument all points from) in
        let written = writes_leads all points (argument from) code.2 code.0 code.1 has one.value code.5 in
        let front = leads_then all points named (leads_then all points one.leads written) in
        let rest = arguments_give others code.1 to code.3 (after all points front scoped) code.6 in
        record {
          leads = leads_then all points front rest.leads;
          registers_named = λ below. subst (AllByRecursion (Has all)) (sym code.7) (has (written.back (rest.leads.back below)), rest.registers_named below);
        }

    designator_gives : (function : Designator) (from to : Spot) (callee : Callee) (own : CType) → (Below all points from.counts → known) → DesignatorCode program points scope function from to callee own → GivesCallee all points from to callee
    designator_gives (T.Function name) from to callee own scoped code = record { leads = stays all points code.2; callee = λ below. subst (CalleeNamed all) (sym code.3) tt }
    designator_gives (T.GroupedFunction inner) from to callee own scoped code = designator_gives inner from to callee own scoped code
    designator_gives (T.PointedFunction place pointer) from to callee own scoped code =
        let one = value_gives pointer Kept from to (AsPointer code.0 own) scoped code.1 in
        record { leads = one.leads; callee = λ below. subst (CalleeNamed all) (sym code.2) (one.value below) }
    designator_gives (T.ThroughPointer place pointer) from to callee own scoped code =
        let one = value_gives pointer Kept from to (AsPointer code.0 own) scoped code.1 in
        record { leads = one.leads; callee = λ below. subst (CalleeNamed all) (sym code.2) (one.value below) }

    pub object_gives : (object : Object) (is_kept followed : Bool) → Part all points known (ObjectCode program points scope is_kept followed object)
    object_gives (T.Local number) is_kept followed from to lowered scoped code = gives all points (AsObject (path_from (AtLocal code.0.local)) code.0.c_type) code.4 (stays all points code.3) (λ below. (tt, tt))
    object_gives (T.Global name) is_kept followed from to lowered scoped code = gives all points (AsObject (path_from (AtGlobal code.0)) code.1.c_type) code.4 (stays all points code.3) (λ below. (tt, tt))
    object_gives (T.Literal place bytes) is_kept followed from to lowered scoped code =
        gives all points (AsObject (path_from (AtLiteral code.0)) (literal_type bytes)) code.4 (stays all points code.3) (λ below. (tt, tt))
    object_gives (T.GroupedObject place inner) is_kept followed from to lowered scoped code = object_gives inner is_kept followed from to lowered scoped code
    object_gives (T.Pointed place pointer) is_kept followed from to lowered scoped code =
        told (pointed_by is_kept code.0) code.2 (pointed_named is_kept code.0) (value_gives pointer (pointed_mode is_kept followed) from to code.0 scoped code.1)
    object_gives (T.Element place pointer number) is_kept followed from to lowered scoped code =
        let one = value_gives pointer (Row (followed || not (is_pure scope number))) from code.0 code.2 scoped code.5 in
        let other = value_gives number Kept code.0 code.1 (AsInteger code.3 code.4) (after all points one.leads scoped) code.6 in
        then_gives (leads_then all points one.leads other.leads) (indexes_gives all points is_kept followed code.2 code.4 code.1 to lowered (after all points other.leads one.value) other.value code.7)
    object_gives (T.ElementOf place number pointer) is_kept followed from to lowered scoped code =
        let one = value_gives number Kept from code.0 (AsInteger code.3 code.4) scoped code.7 in
        let kept = keeps_gives all points true code.4 code.5 code.0 code.1 one.value code.8 in
        let front = leads_then all points one.leads kept.leads in
        let other = value_gives pointer (Row followed) code.1 code.2 code.6 (after all points front scoped) code.9 in
        then_gives (leads_then all points front other.leads) (indexes_gives all points is_kept false code.6 code.5 code.2 to lowered other.value (after all points other.leads kept.value) code.10)
    object_gives (T.MemberOf place object number) is_kept followed from to lowered scoped code =
        told (AsObject (then_step code.0 (Member number)) code.2) code.5 (λ named. path_then all code.0 (Member number) named tt) (object_gives object false followed from to (AsObject code.0 code.1) scoped code.3)
    object_gives (T.PointedMember place pointer number) is_kept followed from to lowered scoped code =
        let one = value_gives pointer (Behind followed) from to code.0 scoped code.4 in
        gives all points (AsObject (then_step code.1 (Member number)) code.3) code.7 one.leads
        (λ below. path_then all code.1 (Member number) (subst (LoweredNamed all) code.5 (pointed_named false code.0 (one.value below))) tt)
