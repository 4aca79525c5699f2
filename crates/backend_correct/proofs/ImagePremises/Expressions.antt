-- The code of an expression weighs no more than its nodes are worth, and what it names is there.
use Rattle.std.proofs.Common.{◌≡◌, ℕ, suc, ◌+◌, ◌*◌, ◌≤◌, ◌<◌, Bool, true, false, not, ◌||◌, List, [], ◌∷◌, length, Some, pos, sym, ap, subst, arith}
use Rattle.std.specs.Prelude.{if◌then◌else◌, bytes_eq}
use Rattle.std.proofs.lemmas.Option.{none-some, same_Some}
use Rattle.c_num.specs.declared.BinOp.TheVariants as B
use Rattle.c_num.specs.declared.IntType.TheVariants as I
use Rattle.c_typed.specs.declared.typed.LibraryFunction.{LibraryFunction}
use Rattle.c_typed.specs.declared.typed.LibraryFunction.TheVariants as L
use Rattle.c_typed.specs.Types.{CType, Void, Integer, Pointer, Array, Struct, Function, literal_type}
use Rattle.c_typed.specs.Typed as T
use Rattle.c_typed.specs.Typed.{FunctionDef, Program, Value, Values, Object, Designator}
use Rattle.c_typed.specs.TypedNodes.{value_nodes, object_nodes, designator_nodes, values_nodes}
use Rattle.tac_ir.specs.declared.register.Register.{Register}
use Rattle.tac_ir.specs.declared.register.Register.TheVariants as R
use Rattle.tac_ir.specs.Code.{Constant, Held, Convert, Complement, Not, Arithmetic, Compare, AtLocal, AtGlobal, AtLiteral, Member, Callee, Op}
use Rattle.tac_ir.specs.Code as O
use Rattle.tac_build.specs.Homes.{Scope, register_home, is_pure}
use Rattle.tac_build.specs.Spots.{Spot, behind, with_call, with_argument, argument, Lowered, AsInteger, AsPointer, AsObject, AsNothing, Mode, Kept, Dropped, Behind, Row, is_used, is_followed, is_address, cast_mode, pointed_mode}
use Rattle.tac_build.specs.Code.{PartCode, function_number, path_from, then_step, compound_tree, is_up, gives_old, pointed_by, call_gives, OneCode, ValueCode, LibraryCode, ArgumentsCode, DesignatorCode, ObjectCode}
use Rattle.backend_correct.specs.Weights.{lowered_weight}
use Rattle.backend_correct.specs.Naming.{CalleeThere}
use Rattle.backend_correct.proofs.ImagePremises.Leading.{Leads, both, leads_then, loosened, stays, point, emits, spares, gives_integer, gives_pointer}
use Rattle.backend_correct.proofs.ImagePremises.Parts.{path_then, within, keeps_gives, writes_leads, joins_gives, joins_with_leads, decays_gives, takes_gives, addresses_gives, moves_gives, indexes_gives}
use Rattle.backend_correct.proofs.Forms.{Part, spared, read_gives, moved_gives, assign_gives, compound_gives, pointer_gives, stepping_gives, logical_gives}

-- ---- names

-- a function that is found is one of those
pub number_low : (number : ℕ) (defs : List FunctionDef) (name : List ℕ) (found : ℕ) → function_number number defs name ≡ Some found → found < number + length defs
number_low number [] name found is = absurd (none-some found is)
number_low number (first ∷ others) name found is = by (bytes_eq first.name name) (number_low (suc number) others name found) is
  where
    by : (b : Bool) → (function_number (suc number) others name ≡ Some found → found < suc number + length others) → (if b then Some number else function_number (suc number) others name) ≡ Some found
        → found < number + length (first ∷ others)
    by true later is = let same = same_Some number found is in omega (arith, same)
    by false later is = let low = later is in omega (arith, low)

-- ---- what expressions come to

pointed_weight : (is_kept : Bool) (found : Lowered) → lowered_weight (pointed_by is_kept found) ≤ lowered_weight found
pointed_weight false (AsPointer register target) = omega arith
pointed_weight false (AsInteger int_type tree) = omega arith
pointed_weight false (AsObject path own) = omega arith
pointed_weight false AsNothing = omega arith
pointed_weight true found = omega arith

called_weight : (used : Bool) (own : CType) (site : ℕ) → lowered_weight (call_gives used own site) ≤ 2
called_weight true (Function (Integer int_type) parameters) site = omega arith
called_weight true (Function (Pointer target) parameters) site = omega arith
called_weight true (Function Void parameters) site = omega arith
called_weight true (Function (Array element count) parameters) site = omega arith
called_weight true (Function (Struct tag) parameters) site = omega arith
called_weight true (Function (Function result others) parameters) site = omega arith
called_weight true Void site = omega arith
called_weight true (Integer int_type) site = omega arith
called_weight true (Pointer target) site = omega arith
called_weight true (Array element count) site = omega arith
called_weight true (Struct tag) site = omega arith
called_weight false own site = omega arith

either_weight : (b : Bool) (old new : Lowered) → lowered_weight old ≤ 2 → lowered_weight new ≤ 2 → lowered_weight (if b then old else new) ≤ 2
either_weight true old new one other = one
either_weight false old new one other = other

-- code of what is called
record GivesCallee (functions : ℕ) (points : List Op) (nodes : ℕ) (from to : Spot) (called : Callee) : Type 0 where
  leads : Leads functions points (100 * nodes) 0 from.at to.at
  callee : CalleeThere functions called

module _ (program : Program) (points : List Op) (scope : Scope) where
  abbrev count : ℕ
  count = length program.functions

  abbrev Low : Spot → Type 0
  Low to = to.at < length points

  abbrev value_code : Mode → Value → PartCode
  value_code mode v = ValueCode program points scope mode v

  abbrev object_code : Bool → Object → PartCode
  object_code followed object = ObjectCode program points scope false followed object

  one_gives : Part count points 22 (OneCode points)
  one_gives from to lowered code = spares count points (AsInteger I.Int (Constant (pos 1))) lowered 22 code.1 (omega arith) (stays count points (Low to) code.0)

  mutual
    pub value_gives : (v : Value) (mode : Mode) → Part count points (100 * value_nodes v) (value_code mode v)
    value_gives (T.Constant n z) mode from to lowered code = spares count points (AsInteger n (Constant z)) lowered 100 code.1 (omega arith) (stays count points (Low to) code.0)
    value_gives T.NullPointer mode from to lowered code = spared count points lowered 100 (omega arith) (gives_pointer count points from to lowered O.Null Void code tt)
    value_gives (T.Grouped inner) mode from to lowered code = within count points (100 * suc (value_nodes inner)) (omega arith) (value_gives inner mode from to lowered code)
    value_gives (T.Read place object) mode from to lowered code =
        within count points (100 * suc (object_nodes object)) (omega arith)
        (read_gives count points (100 * object_nodes object) 0 (register_home scope object) (object_code false object) (object_gives object false false) from to lowered code)
    value_gives (T.Decay place object) mode from to lowered code =
        let one = object_gives object false (is_followed mode) from code.0 (AsObject code.1 (Array code.2 code.3)) code.4 in
        spared count points lowered (100 * suc (object_nodes object)) (omega arith) (leads_then count points one (decays_gives count points mode code.1 code.2 code.3 code.0 to lowered code.5))
    value_gives (T.FunctionValue function) mode from to lowered code =
        let one = designator_gives function from code.0 code.1 code.2 code.3 in
        spared count points lowered (100 * suc (designator_nodes function)) (omega arith) (leads_then count points one.leads (addresses_gives count points code.1 code.2 code.0 to lowered one.callee code.4))
    value_gives (T.Converted n operand) mode from to lowered code =
        spares count points (AsInteger n (Convert n code.1)) lowered (100 * suc (value_nodes operand)) code.3 (omega arith) (value_gives operand Kept from to (AsInteger code.0 code.1) code.2)
    value_gives (T.Repointed place target operand) mode from to lowered code =
        let one = value_gives operand Kept from code.0 (AsPointer code.1 code.2) code.3 in
        spared count points lowered (100 * suc (value_nodes operand)) (omega arith)
        (leads_then count points one (gives_pointer count points code.0 to lowered (λ register. O.Repoint register target code.1) target code.4 tt))
    value_gives (T.MadeNull target operand) mode from to lowered code =
        let one = value_gives operand Dropped from code.0 code.1 code.2 in
        spared count points lowered (100 * suc (value_nodes operand)) (omega arith) (leads_then count points one (gives_pointer count points code.0 to lowered O.Null target code.3 tt))
    value_gives (T.Tested place operand) mode from to lowered code =
        let one = value_gives operand Kept from code.0 (AsPointer code.1 code.2) code.3 in
        spared count points lowered (100 * suc (value_nodes operand)) (omega arith)
        (leads_then count points one (gives_integer count points code.0 to lowered (λ register. O.Test register code.1) I.Int code.4 tt))
    value_gives (T.Plus operand) mode from to lowered code = within count points (100 * suc (value_nodes operand)) (omega arith) (value_gives operand Kept from to lowered code)
    value_gives (T.Minus place n operand) mode from to lowered code =
        spares count points (AsInteger n (Arithmetic B.Sub n (Constant (pos 0)) code.1)) lowered (100 * suc (value_nodes operand)) code.3 (omega arith) (value_gives operand Kept from to (AsInteger code.0 code.1) code.2)
    value_gives (T.Complement n operand) mode from to lowered code =
        spares count points (AsInteger n (Complement n code.1)) lowered (100 * suc (value_nodes operand)) code.3 (omega arith) (value_gives operand Kept from to (AsInteger code.0 code.1) code.2)
    value_gives (T.Not operand) mode from to lowered code =
        spares count points (AsInteger I.Int (Not code.0 code.1)) lowered (100 * suc (value_nodes operand)) code.3 (omega arith) (value_gives operand Kept from to (AsInteger code.0 code.1) code.2)
    value_gives (T.Arithmetic op place n left right) mode from to lowered code =
        let one = value_gives left Kept from code.0 (AsInteger code.5 code.2) code.7 in
        let kept = keeps_gives count points (not (is_pure scope right)) code.2 code.3 code.0 code.1 code.8 in
        let other = value_gives right Kept code.1 to (AsInteger code.6 code.4) code.9 in
        spares count points (AsInteger n (Arithmetic op n code.3 code.4)) lowered (100 * suc (value_nodes left + value_nodes right)) code.10 (omega arith)
        (leads_then count points one (leads_then count points kept other))
    value_gives (T.Compare relation left right) mode from to lowered code =
        let one = value_gives left Kept from code.0 (AsInteger code.5 code.2) code.7 in
        let kept = keeps_gives count points (not (is_pure scope right)) code.2 code.3 code.0 code.1 code.8 in
        let other = value_gives right Kept code.1 to (AsInteger code.6 code.4) code.9 in
        spares count points (AsInteger I.Int (Compare relation code.5 code.3 code.4)) lowered (100 * suc (value_nodes left + value_nodes right)) code.10 (omega arith)
        (leads_then count points one (leads_then count points kept other))
    value_gives (T.ComparePointers relation place left right) mode from to lowered code =
        let one = value_gives left Kept from code.0 (AsPointer code.2 code.4) code.6 in
        let other = value_gives right Kept code.0 code.1 (AsPointer code.3 code.5) code.7 in
        spared count points lowered (100 * suc (value_nodes left + value_nodes right)) (omega arith)
        (leads_then count points one (leads_then count points other (gives_integer count points code.1 to lowered (λ register. O.ComparePointers register relation code.2 code.3) I.Int code.8 tt)))
    value_gives (T.PointerPlus place pointer number) mode from to lowered code =
        within count points (100 * suc (value_nodes pointer + value_nodes number)) (omega arith)
        (moved_gives count points (100 * value_nodes pointer) (100 * value_nodes number) false (value_code Kept pointer) (value_code Kept number) (value_gives pointer Kept) (value_gives number Kept) from to lowered code)
    value_gives (T.NumberPlus place number pointer) mode from to lowered code =
        let one = value_gives number Kept from code.0 (AsInteger code.5 code.3) code.8 in
        let kept = keeps_gives count points true code.3 code.4 code.0 code.1 code.9 in
        let other = value_gives pointer Kept code.1 code.2 (AsPointer code.6 code.7) code.10 in
        let moved = moves_gives count points code.6 code.7 false code.4 code.2 to lowered code.11 in
        spared count points lowered (100 * suc (value_nodes number + value_nodes pointer)) (omega arith) (leads_then count points one (leads_then count points kept (leads_then count points other moved)))
    value_gives (T.PointerMinus place pointer number) mode from to lowered code =
        within count points (100 * suc (value_nodes pointer + value_nodes number)) (omega arith)
        (moved_gives count points (100 * value_nodes pointer) (100 * value_nodes number) true (value_code Kept pointer) (value_code Kept number) (value_gives pointer Kept) (value_gives number Kept) from to lowered code)
    value_gives (T.PointerDifference place left right) mode from to lowered code =
        let one = value_gives left Kept from code.0 (AsPointer code.2 code.4) code.6 in
        let other = value_gives right Kept code.0 code.1 (AsPointer code.3 code.5) code.7 in
        spared count points lowered (100 * suc (value_nodes left + value_nodes right)) (omega arith)
        (leads_then count points one (leads_then count points other (gives_integer count points code.1 to lowered (λ register. O.Difference register code.4 code.2 code.3) I.Long code.8 tt)))
    value_gives (T.And left right) mode from to lowered code =
        within count points (100 * suc (value_nodes left + value_nodes right)) (omega arith)
        (logical_gives count points (100 * value_nodes left) (100 * value_nodes right) true (value_code Kept left) (value_code Kept right) (value_gives left Kept) (value_gives right Kept) from to lowered code)
    value_gives (T.Or left right) mode from to lowered code =
        within count points (100 * suc (value_nodes left + value_nodes right)) (omega arith)
        (logical_gives count points (100 * value_nodes left) (100 * value_nodes right) false (value_code Kept left) (value_code Kept right) (value_gives left Kept) (value_gives right Kept) from to lowered code)
    value_gives (T.Conditional condition taken otherwise) mode from to lowered code =
        let tested = value_gives condition Kept from code.0 (AsInteger code.5 code.4) code.8 in
        let other = value_gives otherwise Kept (behind code.2) code.3 code.7 code.13 in
        let right = leads_then count points other (joins_with_leads count points lowered code.7 code.3 to code.14) in
        let past = both count points (point count points (Low to) code.2.at (O.Jump to.at) code.12 (λ low. low)) right in
        let one = value_gives taken Kept (behind code.0) code.1 code.6 code.10 in
        let left = leads_then count points one (leads_then count points (joins_gives count points code.6 code.1 code.2 lowered code.11) past) in
        let branch = point count points (Low to) code.0.at (O.Branch code.5 code.4 (suc code.0.at) (suc code.2.at)) code.9 (λ low. (omega (arith, low, left.order), omega (arith, low, right.order))) in
        spared count points lowered (100 * suc (value_nodes condition + (value_nodes taken + value_nodes otherwise))) (omega arith) (leads_then count points tested (both count points branch left))
    value_gives (T.AddressOf place object) mode from to lowered code =
        let one = object_gives object (is_address mode) (is_followed mode) from code.0 code.1 code.2 in
        spared count points lowered (100 * suc (object_nodes object)) (omega arith) (leads_then count points one (takes_gives count points mode code.1 code.0 to lowered code.3))
    value_gives (T.AddressOfFunction function) mode from to lowered code =
        let one = designator_gives function from code.0 code.1 code.2 code.3 in
        spared count points lowered (100 * suc (designator_nodes function)) (omega arith) (leads_then count points one.leads (addresses_gives count points code.1 code.2 code.0 to lowered one.callee code.4))
    value_gives (T.Cast operand) mode from to lowered code = within count points (100 * suc (value_nodes operand)) (omega arith) (value_gives operand (cast_mode mode) from to lowered code)
    value_gives (T.CastVoid operand) mode from to lowered code = spares count points AsNothing lowered (100 * suc (value_nodes operand)) code.2 (omega arith) (value_gives operand Dropped from to code.0 code.1)
    value_gives (T.Assign place object operand) mode from to lowered code =
        within count points (100 * suc (object_nodes object + value_nodes operand)) (omega arith)
        (assign_gives count points (100 * object_nodes object) (100 * value_nodes operand) (is_used mode) (register_home scope object) (object_code (not (is_pure scope operand)) object) (value_code Kept operand)
        (object_gives object false (not (is_pure scope operand))) (value_gives operand Kept) from to lowered code)
    value_gives (T.AssignArithmetic op place object_type int_type object operand) mode from to lowered code =
        within count points (100 * suc (object_nodes object + value_nodes operand)) (omega arith)
        (compound_gives count points (100 * object_nodes object) (100 * value_nodes operand) (is_used mode) (register_home scope object) (object_code (not (is_pure scope operand)) object) (value_code Kept operand)
        object_type (compound_tree op object_type int_type) (λ register tree. omega arith) (object_gives object false (not (is_pure scope operand))) (value_gives operand Kept) from to lowered code)
    value_gives (T.AssignMoved is_minus place object number) mode from to lowered code =
        let steps = pointer_gives count points (100 * object_nodes object) (100 * value_nodes number) (register_home scope object) is_minus (object_code (not (is_pure scope number)) object) (value_code Kept number)
        (object_gives object false (not (is_pure scope number))) (value_gives number Kept) from to code.0 lowered code.1 in
        let low = steps.new_weight in
        spared count points lowered (100 * suc (object_nodes object + value_nodes number)) (omega (arith, low)) steps.leads
    value_gives (T.StepInteger stepping place n object) mode from to lowered code =
        within count points (100 * suc (object_nodes object)) (omega arith)
        (stepping_gives count points (100 * object_nodes object) 0 (is_used mode) stepping n (register_home scope object) (object_code false object) (object_gives object false false) from to lowered code)
    value_gives (T.StepPointer stepping place object) mode from to lowered code =
        let steps = pointer_gives count points (100 * object_nodes object) 22 (register_home scope object) (not (is_up stepping)) (object_code false object) (OneCode points)
        (object_gives object false false) one_gives from to code.0 code.1 code.2 in
        let low = either_weight (gives_old stepping) code.0 code.1 steps.old_weight steps.new_weight in
        spares count points (if gives_old stepping then code.0 else code.1) lowered (100 * suc (object_nodes object)) code.3 (omega (arith, low)) steps.leads
    value_gives (T.Call used place function c_type arguments) mode from to lowered code =
        let one = designator_gives function from code.0 code.2 code.3 code.5 in
        let given = arguments_give arguments (with_call code.0) code.1 code.4 code.6 in
        let call = emits count points (Low to) code.1 to (O.Call code.0.counts.calls code.2 code.4) code.7 (λ low. one.callee) in
        let low = called_weight used c_type code.0.counts.calls in
        spares count points (call_gives used c_type code.0.counts.calls) lowered (100 * suc (designator_nodes function + values_nodes arguments)) code.8 (omega (arith, low))
        (leads_then count points one.leads (leads_then count points given call))
    value_gives (T.LibraryCall function groups place arguments) mode from to lowered code =
        within count points (100 * suc (values_nodes arguments)) (omega arith) (library_gives function arguments from to lowered code)

    library_gives : (function : LibraryFunction) (arguments : Values) → Part count points (100 * values_nodes arguments + 80) (LibraryCode program points scope function arguments)
    library_gives L.Malloc (T.MoreValues size T.NoValues) from to lowered code =
        let one = value_gives size Kept (with_call from) code.0 (AsInteger code.1 code.2) code.3 in
        let last = emits count points (Low to) code.0 to (O.Allocate from.counts.calls code.2) code.4 (λ low. tt) in
        spares count points (AsPointer (R.Call from.counts.calls) Void) lowered (100 * (value_nodes size + 0) + 80) code.5 (omega arith) (leads_then count points one last)
    library_gives L.Free (T.MoreValues pointer T.NoValues) from to lowered code =
        let one = value_gives pointer Kept (with_call from) code.0 (AsPointer code.2 code.1) code.3 in
        let last = emits count points (Low to) code.0 to (O.Free from.counts.calls code.2) code.4 (λ low. tt) in
        spares count points AsNothing lowered (100 * (value_nodes pointer + 0) + 80) code.5 (omega arith) (leads_then count points one last)
    library_gives L.GetChar T.NoValues from to lowered code =
        let last = emits count points (Low to) (with_call from) to (O.GetChar from.counts.calls) code.0 (λ low. tt) in
        spares count points (AsInteger I.Int (Held (R.Call from.counts.calls))) lowered 80 code.1 (omega arith) last
    library_gives L.PutChar (T.MoreValues v T.NoValues) from to lowered code =
        let one = value_gives v Kept (with_call from) code.0 (AsInteger code.1 code.2) code.3 in
        let last = emits count points (Low to) code.0 to (O.PutChar from.counts.calls code.2) code.4 (λ low. tt) in
        spares count points (AsInteger I.Int (Held (R.Call from.counts.calls))) lowered (100 * (value_nodes v + 0) + 80) code.5 (omega arith) (leads_then count points one last)
    library_gives L.Exit (T.MoreValues status T.NoValues) from to lowered code =
        let one = value_gives status Kept (with_call from) code.0 (AsInteger code.1 code.2) code.3 in
        let last = emits count points (Low to) code.0 to (O.Exit code.2) code.4 (λ low. tt) in
        spares count points AsNothing lowered (100 * (value_nodes status + 0) + 80) code.5 (omega arith) (leads_then count points one last)
    library_gives function arguments from to lowered code = absurd code

    arguments_give : (arguments : Values) (from to : Spot) (registers : List Register) → ArgumentsCode program points scope arguments from to registers
        → Leads count points (100 * values_nodes arguments) (2 * length registers) from.at to.at
    arguments_give T.NoValues from to registers code =
        let none = ap (λ (all : List Register). length all) code.1 in
        loosened count points 0 (2 * length registers) (omega (arith, none)) (stays count points (Low to) code.0)
    arguments_give (T.MoreValues first others) from to registers code =
        let one = value_gives first Kept (with_argument from) code.0 code.2 code.4 in
        let written = writes_leads count points (code.1.at < length points) (argument from) code.2 code.0 code.1 code.5 in
        let rest = arguments_give others code.1 to code.3 code.6 in
        let more = ap (λ (all : List Register). length all) code.7 in
        loosened count points (100 * (value_nodes first + values_nodes others)) (2 * length registers) (omega (arith, more)) (leads_then count points one (leads_then count points written rest))

    designator_gives : (function : Designator) (from to : Spot) (callee : Callee) (own : CType) → DesignatorCode program points scope function from to callee own
        → GivesCallee count points (designator_nodes function) from to callee
    designator_gives (T.Function name) from to callee own code = record {
      leads = loosened count points 100 0 (omega arith) (stays count points (Low to) code.2);
      callee = subst (CalleeThere count) (sym code.3) (let low = number_low 0 program.functions name code.0 code.1 in omega (arith, low));
    }
    designator_gives (T.GroupedFunction inner) from to callee own code =
        let one = designator_gives inner from to callee own code in
        record { leads = loosened count points (100 * suc (designator_nodes inner)) 0 (omega arith) one.leads; callee = one.callee }
    designator_gives (T.PointedFunction place pointer) from to callee own code = record {
      leads = loosened count points (100 * suc (value_nodes pointer)) 0 (omega arith) (value_gives pointer Kept from to (AsPointer code.0 own) code.1);
      callee = subst (CalleeThere count) (sym code.2) tt;
    }
    designator_gives (T.ThroughPointer place pointer) from to callee own code = record {
      leads = loosened count points (100 * suc (value_nodes pointer)) 0 (omega arith) (value_gives pointer Kept from to (AsPointer code.0 own) code.1);
      callee = subst (CalleeThere count) (sym code.2) tt;
    }

    pub object_gives : (object : Object) (is_kept followed : Bool) → Part count points (100 * object_nodes object) (ObjectCode program points scope is_kept followed object)
    object_gives (T.Local number) is_kept followed from to lowered code =
        spares count points (AsObject (path_from (AtLocal code.0.local)) code.0.c_type) lowered 100 code.4 (omega arith) (stays count points (Low to) code.3)
    object_gives (T.Global name) is_kept followed from to lowered code =
        spares count points (AsObject (path_from (AtGlobal code.0)) code.1.c_type) lowered 100 code.4 (omega arith) (stays count points (Low to) code.3)
    object_gives (T.Literal place bytes) is_kept followed from to lowered code =
        spares count points (AsObject (path_from (AtLiteral code.0)) (literal_type bytes)) lowered 100 code.4 (omega arith) (stays count points (Low to) code.3)
    object_gives (T.GroupedObject place inner) is_kept followed from to lowered code = within count points (100 * suc (object_nodes inner)) (omega arith) (object_gives inner is_kept followed from to lowered code)
    object_gives (T.Pointed place pointer) is_kept followed from to lowered code =
        let low = pointed_weight is_kept code.0 in
        spares count points (pointed_by is_kept code.0) lowered (100 * suc (value_nodes pointer)) code.2 (omega (arith, low)) (value_gives pointer (pointed_mode is_kept followed) from to code.0 code.1)
    object_gives (T.Element place pointer number) is_kept followed from to lowered code =
        let one = value_gives pointer (Row (followed || not (is_pure scope number))) from code.0 code.2 code.5 in
        let other = value_gives number Kept code.0 code.1 (AsInteger code.3 code.4) code.6 in
        spared count points lowered (100 * suc (value_nodes pointer + value_nodes number)) (omega arith)
        (leads_then count points one (leads_then count points other (indexes_gives count points is_kept followed code.2 code.4 code.1 to lowered code.7)))
    object_gives (T.ElementOf place number pointer) is_kept followed from to lowered code =
        let one = value_gives number Kept from code.0 (AsInteger code.3 code.4) code.7 in
        let kept = keeps_gives count points true code.4 code.5 code.0 code.1 code.8 in
        let other = value_gives pointer (Row followed) code.1 code.2 code.6 code.9 in
        spared count points lowered (100 * suc (value_nodes number + value_nodes pointer)) (omega arith)
        (leads_then count points one (leads_then count points kept (leads_then count points other (indexes_gives count points is_kept false code.6 code.5 code.2 to lowered code.10))))
    object_gives (T.MemberOf place object number) is_kept followed from to lowered code =
        let more = path_then code.0 (Member number) in
        spares count points (AsObject (then_step code.0 (Member number)) code.2) lowered (100 * suc (object_nodes object)) code.5 (omega (arith, more)) (object_gives object false followed from to (AsObject code.0 code.1) code.3)
    object_gives (T.PointedMember place pointer number) is_kept followed from to lowered code =
        let more = path_then code.1 (Member number) in
        let low = pointed_weight false code.0 in
        let same = ap lowered_weight code.5 in
        spares count points (AsObject (then_step code.1 (Member number)) code.3) lowered (100 * suc (value_nodes pointer)) code.7 (omega (arith, more, low, same)) (value_gives pointer (Behind followed) from to code.0 code.4)
