-- The code of an expression needs few operands: where it comes to a tree, that is hardly higher than the expression is deep.
use Rattle.std.proofs.Common.{◌≡◌, ℕ, suc, ◌≤◌, Bool, true, false, not, ◌||◌, List, length, pos, max, ap, ◌∙◌, subst, arith}
use Rattle.std.specs.Prelude.{if◌then◌else◌}
use Rattle.c_num.specs.declared.BinOp.TheVariants as B
use Rattle.c_num.specs.declared.IntType.TheVariants as I
use Rattle.c_typed.specs.declared.typed.LibraryFunction.{LibraryFunction}
use Rattle.c_typed.specs.declared.typed.LibraryFunction.TheVariants as L
use Rattle.c_typed.specs.Types.{CType, Void, Integer, Pointer, Array, Struct, Function, literal_type}
use Rattle.c_typed.specs.Typed as T
use Rattle.c_typed.specs.Typed.{Program, Value, Values, Object, Designator}
use Rattle.c_typed.specs.TypedDepths.{value_depth, object_depth, designator_depth, values_depth, greatest_depth}
use Rattle.tac_ir.specs.declared.register.Register.{Register}
use Rattle.tac_ir.specs.declared.register.Register.TheVariants as R
use Rattle.tac_ir.specs.Code.{Constant, Held, Convert, Complement, Not, Arithmetic, Compare, AtLocal, AtGlobal, AtLiteral, Member, Callee, Op}
use Rattle.tac_ir.specs.Code as O
use Rattle.tac_build.specs.Homes.{Scope, register_home, is_pure}
use Rattle.tac_build.specs.Spots.{Spot, behind, with_call, with_argument, argument, Lowered, AsInteger, AsPointer, AsObject, AsNothing, Mode, Kept, Dropped, Behind, Row, is_used, is_followed, is_address, cast_mode, pointed_mode}
use Rattle.tac_build.specs.Code.{PartCode, path_from, then_step, compound_tree, is_up, gives_old, pointed_by, call_gives, OneCode, ValueCode, LibraryCode, ArgumentsCode, DesignatorCode, ObjectCode}
use Rattle.c_typed.specs.TypedArguments.{count_values, ValueFew, ObjectFew, DesignatorFew, ValuesFew}
use Rattle.backend_correct.specs.Operands.{lowered_operands}
use Rattle.backend_correct.proofs.LoweredHeights.Leading.{Leads, Gives, Part, leads_then, stays, point, emits, gives, then_gives, at_most, gives_integer, gives_pointer}
use Rattle.backend_correct.proofs.LoweredHeights.Parts.{path_then, keeps_gives, writes_leads, joins_gives, joins_with_leads, decays_gives, takes_gives, addresses_gives, moves_gives, indexes_gives, read_gives, moved_gives, assign_gives, compound_gives, pointer_gives, stepping_gives, logical_gives}

-- ---- what parts come to

pointed_few : (n : ℕ) (is_kept : Bool) (found : Lowered) → lowered_operands found ≤ n → lowered_operands (pointed_by is_kept found) ≤ n
pointed_few n false (AsPointer register target) few = omega arith
pointed_few n false (AsInteger int_type tree) few = few
pointed_few n false (AsObject path own) few = few
pointed_few n false AsNothing few = few
pointed_few n true found few = few

called_few : (n : ℕ) (used : Bool) (own : CType) (site : ℕ) → lowered_operands (call_gives used own site) ≤ suc n
called_few n true (Function (Integer int_type) parameters) site = omega arith
called_few n true (Function (Pointer target) parameters) site = omega arith
called_few n true (Function Void parameters) site = omega arith
called_few n true (Function (Array element count) parameters) site = omega arith
called_few n true (Function (Struct tag) parameters) site = omega arith
called_few n true (Function (Function result others) parameters) site = omega arith
called_few n true Void site = omega arith
called_few n true (Integer int_type) site = omega arith
called_few n true (Pointer target) site = omega arith
called_few n true (Array element count) site = omega arith
called_few n true (Struct tag) site = omega arith
called_few n false own site = omega arith

-- ---- forms

-- code of arguments, of which there are so many
record Passes (points : List Op) (from to count : ℕ) (registers : List Register) : Type 0 where
  leads : Leads points from to
  passed : length registers ≡ count

module _ (program : Program) (points : List Op) (scope : Scope) where
  abbrev value_code : Mode → Value → PartCode
  value_code mode v = ValueCode program points scope mode v

  abbrev object_code : Bool → Object → PartCode
  object_code followed object = ObjectCode program points scope false followed object

  -- an integer that is told from another one
  told : (most : ℕ) (given : Lowered) {n from to : ℕ} {one lowered : Lowered} → lowered ≡ given → (lowered_operands one ≤ n → lowered_operands given ≤ most) → Gives points from to n one → Gives points from to most lowered
  told most given is more made = gives points given is made.leads (more made.few)

  mutual
    pub value_gives : (v : Value) (mode : Mode) → value_depth v ≤ greatest_depth → ValueFew v → Part points (suc (value_depth v)) (value_code mode v)
    value_gives (T.Constant n z) mode deep few from to lowered code = gives points (AsInteger n (Constant z)) code.1 (stays points code.0) (omega arith)
    value_gives T.NullPointer mode deep few from to lowered code = gives_pointer points 2 O.Null Void code (omega arith)
    value_gives (T.Grouped inner) mode deep few from to lowered code =
        at_most points (suc (suc (value_depth inner))) (omega arith) (value_gives inner mode (omega (arith, deep)) few from to lowered code)
    value_gives (T.Read place object) mode deep few from to lowered code =
        read_gives points (suc (object_depth object)) (suc (object_depth object)) (register_home scope object) (object_code false object) (omega (arith, deep)) (object_gives object false false (omega (arith, deep)) few)
        from to lowered code
    value_gives (T.Decay place object) mode deep few from to lowered code =
        let one = object_gives object false (is_followed mode) (omega (arith, deep)) few from code.0 (AsObject code.1 (Array code.2 code.3)) code.4 in
        let low = one.few in
        then_gives points one.leads (decays_gives points (suc (object_depth object)) mode code.1 code.2 code.3 code.0 to lowered (omega (arith, deep)) (omega (arith, low)) code.5)
    value_gives (T.FunctionValue function) mode deep few from to lowered code =
        then_gives points (designator_leads function (omega (arith, deep)) few from code.0 code.1 code.2 code.3) (addresses_gives points (suc (suc (designator_depth function))) code.1 code.2 code.0 to lowered code.4)
    value_gives (T.Converted n operand) mode deep few from to lowered code =
        told (suc (suc (value_depth operand))) (AsInteger n (Convert n code.1)) code.3 (λ low. omega (arith, low)) (value_gives operand Kept (omega (arith, deep)) few from to (AsInteger code.0 code.1) code.2)
    value_gives (T.Repointed place target operand) mode deep few from to lowered code =
        let one = value_gives operand Kept (omega (arith, deep)) few from code.0 (AsPointer code.1 code.2) code.3 in
        then_gives points one.leads (gives_pointer points (suc (suc (value_depth operand))) (λ register. O.Repoint register target code.1) target code.4 (omega arith))
    value_gives (T.MadeNull target operand) mode deep few from to lowered code =
        let one = value_gives operand Dropped (omega (arith, deep)) few from code.0 code.1 code.2 in
        then_gives points one.leads (gives_pointer points (suc (suc (value_depth operand))) O.Null target code.3 (omega arith))
    value_gives (T.Tested place operand) mode deep few from to lowered code =
        let one = value_gives operand Kept (omega (arith, deep)) few from code.0 (AsPointer code.1 code.2) code.3 in
        then_gives points one.leads (gives_integer points (suc (value_depth operand)) (λ register. O.Test register code.1) I.Int code.4 (omega arith))
    value_gives (T.Plus operand) mode deep few from to lowered code =
        at_most points (suc (suc (value_depth operand))) (omega arith) (value_gives operand Kept (omega (arith, deep)) few from to lowered code)
    value_gives (T.Minus place n operand) mode deep few from to lowered code =
        told (suc (suc (value_depth operand))) (AsInteger n (Arithmetic B.Sub n (Constant (pos 0)) code.1)) code.3 (λ low. omega (arith, low)) (value_gives operand Kept (omega (arith, deep)) few from to (AsInteger code.0 code.1) code.2)
    value_gives (T.Complement n operand) mode deep few from to lowered code =
        told (suc (suc (value_depth operand))) (AsInteger n (Complement n code.1)) code.3 (λ low. omega (arith, low)) (value_gives operand Kept (omega (arith, deep)) few from to (AsInteger code.0 code.1) code.2)
    value_gives (T.Not operand) mode deep few from to lowered code =
        told (suc (suc (value_depth operand))) (AsInteger I.Int (Not code.0 code.1)) code.3 (λ low. omega (arith, low)) (value_gives operand Kept (omega (arith, deep)) few from to (AsInteger code.0 code.1) code.2)
    value_gives (T.Arithmetic op place n left right) mode deep few from to lowered code =
        let one = value_gives left Kept (omega (arith, deep)) few.0 from code.0 (AsInteger code.5 code.2) code.7 in
        let kept = keeps_gives points (not (is_pure scope right)) (value_depth left) code.2 code.3 code.0 code.1 one.few (omega (arith, deep)) code.8 in
        let other = value_gives right Kept (omega (arith, deep)) few.1 code.1 to (AsInteger code.6 code.4) code.9 in
        let first = kept.few in
        let second = other.few in
        gives points (AsInteger n (Arithmetic op n code.3 code.4)) code.10 (leads_then points one.leads (leads_then points kept.leads other.leads)) (omega (arith, first, second))
    value_gives (T.Compare relation left right) mode deep few from to lowered code =
        let one = value_gives left Kept (omega (arith, deep)) few.0 from code.0 (AsInteger code.5 code.2) code.7 in
        let kept = keeps_gives points (not (is_pure scope right)) (value_depth left) code.2 code.3 code.0 code.1 one.few (omega (arith, deep)) code.8 in
        let other = value_gives right Kept (omega (arith, deep)) few.1 code.1 to (AsInteger code.6 code.4) code.9 in
        let first = kept.few in
        let second = other.few in
        gives points (AsInteger I.Int (Compare relation code.5 code.3 code.4)) code.10 (leads_then points one.leads (leads_then points kept.leads other.leads)) (omega (arith, first, second))
    value_gives (T.ComparePointers relation place left right) mode deep few from to lowered code =
        let one = value_gives left Kept (omega (arith, deep)) few.0 from code.0 (AsPointer code.2 code.4) code.6 in
        let other = value_gives right Kept (omega (arith, deep)) few.1 code.0 code.1 (AsPointer code.3 code.5) code.7 in
        then_gives points (leads_then points one.leads other.leads)
        (gives_integer points (suc (max (value_depth left) (value_depth right))) (λ register. O.ComparePointers register relation code.2 code.3) I.Int code.8 (omega arith))
    value_gives (T.PointerPlus place pointer number) mode deep few from to lowered code =
        moved_gives points (suc (suc (max (value_depth pointer) (value_depth number)))) (suc (value_depth pointer)) (suc (value_depth number)) false (value_code Kept pointer) (value_code Kept number) (omega (arith, deep))
        (value_gives pointer Kept (omega (arith, deep)) few.0) (value_gives number Kept (omega (arith, deep)) few.1) from to lowered code
    value_gives (T.NumberPlus place number pointer) mode deep few from to lowered code =
        let one = value_gives number Kept (omega (arith, deep)) few.0 from code.0 (AsInteger code.5 code.3) code.8 in
        let kept = keeps_gives points true (value_depth number) code.3 code.4 code.0 code.1 one.few (omega (arith, deep)) code.9 in
        let other = value_gives pointer Kept (omega (arith, deep)) few.1 code.1 code.2 (AsPointer code.6 code.7) code.10 in
        let low = kept.few in
        then_gives points (leads_then points one.leads (leads_then points kept.leads other.leads))
        (moves_gives points (suc (suc (max (value_depth number) (value_depth pointer)))) code.6 code.7 false code.4 code.2 to lowered (omega (arith, low, deep)) code.11)
    value_gives (T.PointerMinus place pointer number) mode deep few from to lowered code =
        moved_gives points (suc (suc (max (value_depth pointer) (value_depth number)))) (suc (value_depth pointer)) (suc (value_depth number)) true (value_code Kept pointer) (value_code Kept number) (omega (arith, deep))
        (value_gives pointer Kept (omega (arith, deep)) few.0) (value_gives number Kept (omega (arith, deep)) few.1) from to lowered code
    value_gives (T.PointerDifference place left right) mode deep few from to lowered code =
        let one = value_gives left Kept (omega (arith, deep)) few.0 from code.0 (AsPointer code.2 code.4) code.6 in
        let other = value_gives right Kept (omega (arith, deep)) few.1 code.0 code.1 (AsPointer code.3 code.5) code.7 in
        then_gives points (leads_then points one.leads other.leads)
        (gives_integer points (suc (max (value_depth left) (value_depth right))) (λ register. O.Difference register code.4 code.2 code.3) I.Long code.8 (omega arith))
    value_gives (T.And left right) mode deep few from to lowered code =
        logical_gives points (suc (max (value_depth left) (value_depth right))) (suc (value_depth left)) (suc (value_depth right)) true (value_code Kept left) (value_code Kept right) (omega (arith, deep)) (omega (arith, deep))
        (value_gives left Kept (omega (arith, deep)) few.0) (value_gives right Kept (omega (arith, deep)) few.1) from to lowered code
    value_gives (T.Or left right) mode deep few from to lowered code =
        logical_gives points (suc (max (value_depth left) (value_depth right))) (suc (value_depth left)) (suc (value_depth right)) false (value_code Kept left) (value_code Kept right) (omega (arith, deep)) (omega (arith, deep))
        (value_gives left Kept (omega (arith, deep)) few.0) (value_gives right Kept (omega (arith, deep)) few.1) from to lowered code
    value_gives (T.Conditional condition taken otherwise) mode deep few from to lowered code =
        let tested = value_gives condition Kept (omega (arith, deep)) few.0.0 from code.0 (AsInteger code.5 code.4) code.8 in
        let tested_few = tested.few in
        let branch = point points code.0.at (O.Branch code.5 code.4 (suc code.0.at) (suc code.2.at)) code.9 (omega (arith, deep, tested_few)) in
        let one = value_gives taken Kept (omega (arith, deep)) few.0.1 (behind code.0) code.1 code.6 code.10 in
        let one_few = one.few in
        let joined = joins_gives points (suc (max (value_depth condition) (max (value_depth taken) (value_depth otherwise)))) code.6 code.1 code.2 lowered (omega (arith, deep, one_few)) code.11 in
        let jump = point points code.2.at (O.Jump to.at) code.12 (omega arith) in
        let other = value_gives otherwise Kept (omega (arith, deep)) few.1 (behind code.2) code.3 code.7 code.13 in
        let other_few = other.few in
        let last = joins_with_leads points lowered code.7 code.3 to (omega (arith, deep, other_few)) code.14 in
        record {
          leads = leads_then points tested.leads (leads_then points branch (leads_then points one.leads (leads_then points joined.leads (leads_then points jump (leads_then points other.leads last)))));
          few = joined.few;
        }
    value_gives (T.AddressOf place object) mode deep few from to lowered code =
        let one = object_gives object (is_address mode) (is_followed mode) (omega (arith, deep)) few from code.0 code.1 code.2 in
        let low = one.few in
        then_gives points one.leads (takes_gives points (suc (suc (object_depth object))) mode code.1 code.0 to lowered (omega (arith, deep)) (omega (arith, low)) code.3)
    value_gives (T.AddressOfFunction function) mode deep few from to lowered code =
        then_gives points (designator_leads function (omega (arith, deep)) few from code.0 code.1 code.2 code.3) (addresses_gives points (suc (suc (designator_depth function))) code.1 code.2 code.0 to lowered code.4)
    value_gives (T.Cast operand) mode deep few from to lowered code =
        at_most points (suc (suc (value_depth operand))) (omega arith) (value_gives operand (cast_mode mode) (omega (arith, deep)) few from to lowered code)
    value_gives (T.CastVoid operand) mode deep few from to lowered code =
        told (suc (suc (value_depth operand))) AsNothing code.2 (λ low. omega arith) (value_gives operand Dropped (omega (arith, deep)) few from to code.0 code.1)
    value_gives (T.Assign place object operand) mode deep few from to lowered code =
        assign_gives points (suc (max (object_depth object) (value_depth operand))) (suc (object_depth object)) (suc (value_depth operand)) (is_used mode) (register_home scope object)
        (object_code (not (is_pure scope operand)) object) (value_code Kept operand) (omega (arith, deep)) (omega (arith, deep))
        (object_gives object false (not (is_pure scope operand)) (omega (arith, deep)) few.0) (value_gives operand Kept (omega (arith, deep)) few.1) from to lowered code
    value_gives (T.AssignArithmetic op place object_type int_type object operand) mode deep few from to lowered code =
        compound_gives points (suc (max (object_depth object) (value_depth operand))) (suc (object_depth object)) (suc (value_depth operand)) (is_used mode) (register_home scope object)
        (object_code (not (is_pure scope operand)) object) (value_code Kept operand) object_type (compound_tree op object_type int_type) (omega (arith, deep)) (omega (arith, deep)) (λ register tree. omega arith)
        (object_gives object false (not (is_pure scope operand)) (omega (arith, deep)) few.0) (value_gives operand Kept (omega (arith, deep)) few.1) from to lowered code
    value_gives (T.AssignMoved is_minus place object number) mode deep few from to lowered code =
        let both = pointer_gives points (suc (max (object_depth object) (value_depth number))) (suc (object_depth object)) (suc (value_depth number)) (register_home scope object) is_minus
        (object_code (not (is_pure scope number)) object) (value_code Kept number) (omega (arith, deep)) (omega (arith, deep))
        (object_gives object false (not (is_pure scope number)) (omega (arith, deep)) few.0) (value_gives number Kept (omega (arith, deep)) few.1) from to code.0 lowered code.1 in
        record { leads = both.leads; few = both.new_few }
    value_gives (T.StepInteger stepping place n object) mode deep few from to lowered code =
        stepping_gives points (suc (object_depth object)) (suc (object_depth object)) (is_used mode) stepping n (register_home scope object) (object_code false object) (omega (arith, deep))
        (object_gives object false false (omega (arith, deep)) few) from to lowered code
    value_gives (T.StepPointer stepping place object) mode deep few from to lowered code =
        let both = pointer_gives points (suc (object_depth object)) (suc (object_depth object)) 1 (register_home scope object) (not (is_up stepping)) (object_code false object) (OneCode points)
        (omega (arith, deep)) (omega arith) (object_gives object false false (omega (arith, deep)) few) one_gives from to code.0 code.1 code.2 in
        gives points (if gives_old stepping then code.0 else code.1) code.3 both.leads (either (gives_old stepping) code.0 code.1 both.old_few both.new_few)
      where
        either : (b : Bool) (old new : Lowered) → lowered_operands old ≤ suc (suc (object_depth object)) → lowered_operands new ≤ suc (suc (object_depth object))
            → lowered_operands (if b then old else new) ≤ suc (suc (object_depth object))
        either true old new one other = one
        either false old new one other = other

        one_gives : Part points 1 (OneCode points)
        one_gives from to lowered code = gives points (AsInteger I.Int (Constant (pos 1))) code.1 (stays points code.0) (omega arith)
    value_gives (T.Call used place function c_type arguments) mode deep few from to lowered code =
        let called = designator_leads function (omega (arith, deep)) few.0.0 from code.0 code.2 code.3 code.5 in
        let given = arguments_pass arguments (omega (arith, deep)) few.0.1 (with_call code.0) code.1 code.4 code.6 in
        let passed = given.passed in
        let low = few.1 in
        let call = emits points (O.Call code.0.counts.calls code.2 code.4) code.7 (omega (arith, passed, low)) in
        gives points (call_gives used c_type code.0.counts.calls) code.8 (leads_then points called (leads_then points given.leads call))
        (called_few (suc (max (designator_depth function) (values_depth arguments))) used c_type code.0.counts.calls)
    value_gives (T.LibraryCall function groups place arguments) mode deep few from to lowered code = library_gives function arguments (omega (arith, deep)) few from to lowered code

    library_gives : (function : LibraryFunction) (arguments : Values) → suc (values_depth arguments) ≤ greatest_depth → ValuesFew arguments
        → Part points (suc (suc (values_depth arguments))) (LibraryCode program points scope function arguments)
    library_gives L.Malloc (T.MoreValues size T.NoValues) deep few from to lowered code =
        let one = value_gives size Kept (omega (arith, deep)) few.0 (with_call from) code.0 (AsInteger code.1 code.2) code.3 in
        let low = one.few in
        gives points (AsPointer (R.Call from.counts.calls) Void) code.5 (leads_then points one.leads (emits points (O.Allocate from.counts.calls code.2) code.4 (omega (arith, deep, low)))) (omega arith)
    library_gives L.Free (T.MoreValues pointer T.NoValues) deep few from to lowered code =
        let one = value_gives pointer Kept (omega (arith, deep)) few.0 (with_call from) code.0 (AsPointer code.2 code.1) code.3 in
        gives points AsNothing code.5 (leads_then points one.leads (emits points (O.Free from.counts.calls code.2) code.4 (omega arith))) (omega arith)
    library_gives L.GetChar T.NoValues deep few from to lowered code =
        gives points (AsInteger I.Int (Held (R.Call from.counts.calls))) code.1 (emits points {from = with_call from} (O.GetChar from.counts.calls) code.0 (omega arith)) (omega arith)
    library_gives L.PutChar (T.MoreValues v T.NoValues) deep few from to lowered code =
        let one = value_gives v Kept (omega (arith, deep)) few.0 (with_call from) code.0 (AsInteger code.1 code.2) code.3 in
        let low = one.few in
        gives points (AsInteger I.Int (Held (R.Call from.counts.calls))) code.5 (leads_then points one.leads (emits points (O.PutChar from.counts.calls code.2) code.4 (omega (arith, deep, low)))) (omega arith)
    library_gives L.Exit (T.MoreValues status T.NoValues) deep few from to lowered code =
        let one = value_gives status Kept (omega (arith, deep)) few.0 (with_call from) code.0 (AsInteger code.1 code.2) code.3 in
        let low = one.few in
        gives points AsNothing code.5 (leads_then points one.leads (emits points (O.Exit code.2) code.4 (omega (arith, deep, low)))) (omega arith)
    library_gives function arguments deep few from to lowered code = absurd code

    arguments_pass : (arguments : Values) → suc (values_depth arguments) ≤ greatest_depth → ValuesFew arguments → (from to : Spot) (registers : List Register) → ArgumentsCode program points scope arguments from to registers
        → Passes points from.at to.at (count_values arguments) registers
    arguments_pass T.NoValues deep few from to registers code = record { leads = stays points code.0; passed = ap length code.1 }
    arguments_pass (T.MoreValues first others) deep few from to registers code =
        let one = value_gives first Kept (omega (arith, deep)) few.0 (with_argument from) code.0 code.2 code.4 in
        let low = one.few in
        let written = writes_leads points (argument from) code.2 code.0 code.1 (omega (arith, deep, low)) code.5 in
        let rest = arguments_pass others (omega (arith, deep)) few.1 code.1 to code.3 code.6 in
        record { leads = leads_then points one.leads (leads_then points written rest.leads); passed = ap length code.7 ∙ ap suc rest.passed }

    designator_leads : (function : Designator) → suc (designator_depth function) ≤ greatest_depth → DesignatorFew function → (from to : Spot) (callee : Callee) (own : CType) → DesignatorCode program points scope function from to callee own
        → Leads points from.at to.at
    designator_leads (T.Function name) deep few from to callee own code = stays points code.2
    designator_leads (T.GroupedFunction inner) deep few from to callee own code = designator_leads inner (omega (arith, deep)) few from to callee own code
    designator_leads (T.PointedFunction place pointer) deep few from to callee own code = (value_gives pointer Kept (omega (arith, deep)) few from to (AsPointer code.0 own) code.1).leads
    designator_leads (T.ThroughPointer place pointer) deep few from to callee own code = (value_gives pointer Kept (omega (arith, deep)) few from to (AsPointer code.0 own) code.1).leads

    pub object_gives : (object : Object) (is_kept followed : Bool) → suc (object_depth object) ≤ greatest_depth → ObjectFew object → Part points (suc (object_depth object)) (ObjectCode program points scope is_kept followed object)
    object_gives (T.Local number) is_kept followed deep few from to lowered code = gives points (AsObject (path_from (AtLocal code.0.local)) code.0.c_type) code.4 (stays points code.3) (omega arith)
    object_gives (T.Global name) is_kept followed deep few from to lowered code = gives points (AsObject (path_from (AtGlobal code.0)) code.1.c_type) code.4 (stays points code.3) (omega arith)
    object_gives (T.Literal place bytes) is_kept followed deep few from to lowered code = gives points (AsObject (path_from (AtLiteral code.0)) (literal_type bytes)) code.4 (stays points code.3) (omega arith)
    object_gives (T.GroupedObject place inner) is_kept followed deep few from to lowered code =
        at_most points (suc (suc (object_depth inner))) (omega arith) (object_gives inner is_kept followed (omega (arith, deep)) few from to lowered code)
    object_gives (T.Pointed place pointer) is_kept followed deep few from to lowered code =
        told (suc (suc (value_depth pointer))) (pointed_by is_kept code.0) code.2 (λ low. pointed_few (suc (suc (value_depth pointer))) is_kept code.0 (omega (arith, low)))
        (value_gives pointer (pointed_mode is_kept followed) (omega (arith, deep)) few from to code.0 code.1)
    object_gives (T.Element place pointer number) is_kept followed deep few from to lowered code =
        let one = value_gives pointer (Row (followed || not (is_pure scope number))) (omega (arith, deep)) few.0 from code.0 code.2 code.5 in
        let other = value_gives number Kept (omega (arith, deep)) few.1 code.0 code.1 (AsInteger code.3 code.4) code.6 in
        let first = one.few in
        let second = other.few in
        then_gives points (leads_then points one.leads other.leads)
        (indexes_gives points (suc (max (value_depth pointer) (value_depth number))) is_kept followed code.2 code.4 code.1 to lowered (omega (arith, deep)) (omega (arith, first)) (omega (arith, second)) code.7)
    object_gives (T.ElementOf place number pointer) is_kept followed deep few from to lowered code =
        let one = value_gives number Kept (omega (arith, deep)) few.0 from code.0 (AsInteger code.3 code.4) code.7 in
        let kept = keeps_gives points true (value_depth number) code.4 code.5 code.0 code.1 one.few (omega (arith, deep)) code.8 in
        let other = value_gives pointer (Row followed) (omega (arith, deep)) few.1 code.1 code.2 code.6 code.9 in
        let first = kept.few in
        let second = other.few in
        then_gives points (leads_then points one.leads (leads_then points kept.leads other.leads))
        (indexes_gives points (suc (max (value_depth number) (value_depth pointer))) is_kept false code.6 code.5 code.2 to lowered (omega (arith, deep)) (omega (arith, second)) (omega (arith, first)) code.10)
    object_gives (T.MemberOf place object number) is_kept followed deep few from to lowered code =
        told (suc (suc (object_depth object))) (AsObject (then_step code.0 (Member number)) code.2) code.5 (λ low. path_then (suc (suc (object_depth object))) code.0 (Member number) (omega (arith, low)) (omega arith))
        (object_gives object false followed (omega (arith, deep)) few from to (AsObject code.0 code.1) code.3)
    object_gives (T.PointedMember place pointer number) is_kept followed deep few from to lowered code =
        let one = value_gives pointer (Behind followed) (omega (arith, deep)) few from to code.0 code.4 in
        let low = subst (λ found. lowered_operands found ≤ suc (value_depth pointer)) code.5 (pointed_few (suc (value_depth pointer)) false code.0 one.few) in
        gives points (AsObject (then_step code.1 (Member number)) code.3) code.7 one.leads (path_then (suc (suc (value_depth pointer))) code.1 (Member number) (omega (arith, low)) (omega arith))
