-- The code of an expression names fewer than two registers for each node of its tree, and places no local in memory.
use Rattle.std.proofs.Common.{ℕ, suc, ◌+◌, ◌*◌, ◌≤◌, Bool, true, false, not, List, refl, arith}
use Rattle.c_typed.specs.declared.typed.LibraryFunction.{LibraryFunction}
use Rattle.c_typed.specs.declared.typed.LibraryFunction.TheVariants as L
use Rattle.c_typed.specs.Types.{CType, Array}
use Rattle.c_typed.specs.Typed as T
use Rattle.c_typed.specs.Typed.{Program, Value, Values, Object, Designator}
use Rattle.c_typed.specs.TypedNodes.{value_nodes, object_nodes, designator_nodes, values_nodes}
use Rattle.tac_ir.specs.declared.register.Register.{Register}
use Rattle.tac_ir.specs.Code.{Callee, Op}
use Rattle.tac_build.specs.Homes.{Scope, register_home, is_pure}
use Rattle.tac_build.specs.Spots.{Spot, behind, with_call, with_argument, argument, Lowered, AsInteger, AsPointer, AsObject, Mode, Kept, Dropped, Behind, Row, is_used, is_followed, is_address, cast_mode, pointed_mode}
use Rattle.tac_build.specs.Code.{PartCode, compound_tree, is_up, OneCode, ValueCode, LibraryCode, ArgumentsCode, DesignatorCode, ObjectCode}
use Rattle.backend_correct.proofs.Named.{Names, Fewer, names_then, loosened, fewer, stays, point, names_call, names_argument, gives_integer, gives_pointer, keeps_names, writes_names, joins_names, joins_with_names, decays_names, takes_names, addresses_names, indexes_names, read_names, moved_names, assign_names, compound_names, pointer_names, stepping_names, logical_names}

some_nodes : (object : Object) → 1 ≤ object_nodes object
some_nodes (T.Local number) = omega arith
some_nodes (T.Global name) = omega arith
some_nodes (T.Literal place bytes) = omega arith
some_nodes (T.GroupedObject place inner) = omega arith
some_nodes (T.Pointed place pointer) = omega arith
some_nodes (T.Element place pointer number) = omega arith
some_nodes (T.ElementOf place number pointer) = omega arith
some_nodes (T.MemberOf place object number) = omega arith
some_nodes (T.PointedMember place pointer number) = omega arith

-- one more node
one_more : (nodes : ℕ) {most : ℕ} {from mid to : Spot} → most ≤ 2 → Fewer nodes from mid → Names most 0 mid to → Fewer (suc nodes) from to
one_more nodes less few names = fewer (suc nodes) (omega (arith, less)) (names_then few names)

same_code : (nodes : ℕ) {from to : Spot} → Fewer nodes from to → Fewer (suc nodes) from to
same_code nodes few = fewer (suc nodes) (omega arith) few

-- a node over two parts, with what is named between them and behind them
over_two : (a b : ℕ) {j k : ℕ} {from mid next last to : Spot} → j + k ≤ 3 → Fewer a from mid → Names j 0 mid next → Fewer b next last → Names k 0 last to → Fewer (suc (a + b)) from to
over_two a b less one between other names = fewer (suc (a + b)) (omega (arith, less)) (names_then one (names_then between (names_then other names)))

module _ (program : Program) (points : List Op) (scope : Scope) where
  abbrev value_code : Mode → Value → PartCode
  value_code mode v = ValueCode program points scope mode v

  abbrev object_code : Bool → Object → PartCode
  object_code followed object = ObjectCode program points scope false followed object

  mutual
    pub value_fewer : (v : Value) (mode : Mode) (from to : Spot) (lowered : Lowered) → ValueCode program points scope mode v from to lowered → Fewer (value_nodes v) from to
    value_fewer (T.Constant n z) mode from to lowered code = fewer 1 (omega arith) (stays code.0)
    value_fewer T.NullPointer mode from to lowered code = fewer 1 (omega arith) (gives_pointer code.1)
    value_fewer (T.Grouped inner) mode from to lowered code = same_code (value_nodes inner) (value_fewer inner mode from to lowered code)
    value_fewer (T.Read place object) mode from to lowered code =
        read_names points (register_home scope object) (object_nodes object) (object_code false object) (object_fewer object false false) from to lowered code
    value_fewer (T.Decay place object) mode from to lowered code =
        one_more (object_nodes object) (omega arith) (object_fewer object false (is_followed mode) from code.0 (AsObject code.1 (Array code.2 code.3)) code.4) (decays_names points mode code.1 code.2 code.3 code.0 to lowered code.5)
    value_fewer (T.FunctionValue function) mode from to lowered code =
        one_more (designator_nodes function) (omega arith) (designator_fewer function from code.0 code.1 code.2 code.3) (addresses_names points code.1 code.2 code.0 to lowered code.4)
    value_fewer (T.Converted n operand) mode from to lowered code = same_code (value_nodes operand) (value_fewer operand Kept from to (AsInteger code.0 code.1) code.2)
    value_fewer (T.Repointed place target operand) mode from to lowered code =
        one_more (value_nodes operand) (omega arith) (value_fewer operand Kept from code.0 (AsPointer code.1 code.2) code.3) (gives_pointer code.4.1)
    value_fewer (T.MadeNull target operand) mode from to lowered code = one_more (value_nodes operand) (omega arith) (value_fewer operand Dropped from code.0 code.1 code.2) (gives_pointer code.3.1)
    value_fewer (T.Tested place operand) mode from to lowered code = one_more (value_nodes operand) (omega arith) (value_fewer operand Kept from code.0 (AsPointer code.1 code.2) code.3) (gives_integer code.4.1)
    value_fewer (T.Plus operand) mode from to lowered code = same_code (value_nodes operand) (value_fewer operand Kept from to lowered code)
    value_fewer (T.Minus place n operand) mode from to lowered code = same_code (value_nodes operand) (value_fewer operand Kept from to (AsInteger code.0 code.1) code.2)
    value_fewer (T.Complement n operand) mode from to lowered code = same_code (value_nodes operand) (value_fewer operand Kept from to (AsInteger code.0 code.1) code.2)
    value_fewer (T.Not operand) mode from to lowered code = same_code (value_nodes operand) (value_fewer operand Kept from to (AsInteger code.0 code.1) code.2)
    value_fewer (T.Arithmetic op place n left right) mode from to lowered code =
        over_two (value_nodes left) (value_nodes right) {k = 0} (omega arith) (value_fewer left Kept from code.0 (AsInteger code.5 code.2) code.7) (keeps_names points (not (is_pure scope right)) code.2 code.3 code.0 code.1 code.8)
        (value_fewer right Kept code.1 to (AsInteger code.6 code.4) code.9) (stays refl)
    value_fewer (T.Compare relation left right) mode from to lowered code =
        over_two (value_nodes left) (value_nodes right) {k = 0} (omega arith) (value_fewer left Kept from code.0 (AsInteger code.5 code.2) code.7) (keeps_names points (not (is_pure scope right)) code.2 code.3 code.0 code.1 code.8)
        (value_fewer right Kept code.1 to (AsInteger code.6 code.4) code.9) (stays refl)
    value_fewer (T.ComparePointers relation place left right) mode from to lowered code =
        over_two (value_nodes left) (value_nodes right) {j = 0} (omega arith) (value_fewer left Kept from code.0 (AsPointer code.2 code.4) code.6) (stays refl) (value_fewer right Kept code.0 code.1 (AsPointer code.3 code.5) code.7) (gives_integer code.8.1)
    value_fewer (T.PointerPlus place pointer number) mode from to lowered code =
        moved_names points false (value_nodes pointer) (value_nodes number) (value_code Kept pointer) (value_code Kept number) (value_fewer pointer Kept) (value_fewer number Kept) from to lowered code
    value_fewer (T.NumberPlus place number pointer) mode from to lowered code =
        over_two (value_nodes number) (value_nodes pointer) (omega arith) (value_fewer number Kept from code.0 (AsInteger code.5 code.3) code.8) (keeps_names points true code.3 code.4 code.0 code.1 code.9)
        (value_fewer pointer Kept code.1 code.2 (AsPointer code.6 code.7) code.10) (gives_pointer code.11.1)
    value_fewer (T.PointerMinus place pointer number) mode from to lowered code =
        moved_names points true (value_nodes pointer) (value_nodes number) (value_code Kept pointer) (value_code Kept number) (value_fewer pointer Kept) (value_fewer number Kept) from to lowered code
    value_fewer (T.PointerDifference place left right) mode from to lowered code =
        over_two (value_nodes left) (value_nodes right) {j = 0} (omega arith) (value_fewer left Kept from code.0 (AsPointer code.2 code.4) code.6) (stays refl) (value_fewer right Kept code.0 code.1 (AsPointer code.3 code.5) code.7) (gives_integer code.8.1)
    value_fewer (T.And left right) mode from to lowered code =
        logical_names points true (value_nodes left) (value_nodes right) (value_code Kept left) (value_code Kept right) (value_fewer left Kept) (value_fewer right Kept) from to lowered code
    value_fewer (T.Or left right) mode from to lowered code =
        logical_names points false (value_nodes left) (value_nodes right) (value_code Kept left) (value_code Kept right) (value_fewer left Kept) (value_fewer right Kept) from to lowered code
    value_fewer (T.Conditional condition taken otherwise) mode from to lowered code =
        fewer (suc (value_nodes condition + (value_nodes taken + value_nodes otherwise))) (omega arith)
        (names_then ((value_fewer condition Kept from code.0 (AsInteger code.5 code.4) code.8)) (names_then (point {to = behind code.0} refl)
        (names_then ((value_fewer taken Kept (behind code.0) code.1 code.6 code.10)) (names_then (joins_names points code.6 code.1 code.2 lowered code.11)
        (names_then (point {to = behind code.2} refl) (names_then ((value_fewer otherwise Kept (behind code.2) code.3 code.7 code.13)) (joins_with_names points lowered code.7 code.3 to code.14)))))))
    value_fewer (T.AddressOf place object) mode from to lowered code =
        one_more (object_nodes object) (omega arith) (object_fewer object (is_address mode) (is_followed mode) from code.0 code.1 code.2) (takes_names points mode code.1 code.0 to lowered code.3)
    value_fewer (T.AddressOfFunction function) mode from to lowered code =
        one_more (designator_nodes function) (omega arith) (designator_fewer function from code.0 code.1 code.2 code.3) (addresses_names points code.1 code.2 code.0 to lowered code.4)
    value_fewer (T.Cast operand) mode from to lowered code = same_code (value_nodes operand) (value_fewer operand (cast_mode mode) from to lowered code)
    value_fewer (T.CastVoid operand) mode from to lowered code = same_code (value_nodes operand) (value_fewer operand Dropped from to code.0 code.1)
    value_fewer (T.Assign place object operand) mode from to lowered code =
        assign_names points (is_used mode) (register_home scope object) (object_nodes object) (value_nodes operand) (object_code (not (is_pure scope operand)) object) (value_code Kept operand)
        (object_fewer object false (not (is_pure scope operand))) (value_fewer operand Kept) from to lowered code
    value_fewer (T.AssignArithmetic op place object_type int_type object operand) mode from to lowered code =
        compound_names points (is_used mode) (register_home scope object) (object_nodes object) (value_nodes operand) (object_code (not (is_pure scope operand)) object) (value_code Kept operand)
        object_type (compound_tree op object_type int_type) (object_fewer object false (not (is_pure scope operand))) (value_fewer operand Kept) from to lowered code
    value_fewer (T.AssignMoved is_minus place object number) mode from to lowered code =
        let some = some_nodes object in
        fewer (suc (object_nodes object + value_nodes number)) (omega (arith, some))
        (pointer_names points (register_home scope object) is_minus (object_nodes object) (2 * value_nodes number) 1 (object_code (not (is_pure scope number)) object) (value_code Kept number)
        some (object_fewer object false (not (is_pure scope number))) (λ start end found inner. value_fewer number Kept start end found inner) from to code.0 lowered code.1)
    value_fewer (T.StepInteger stepping place n object) mode from to lowered code =
        stepping_names points (is_used mode) stepping n (register_home scope object) (object_nodes object) (object_code false object) (object_fewer object false false) from to lowered code
    value_fewer (T.StepPointer stepping place object) mode from to lowered code =
        fewer (suc (object_nodes object)) (omega arith)
        (pointer_names points (register_home scope object) (not (is_up stepping)) (object_nodes object) 0 0 (object_code false object) (OneCode points)
        (some_nodes object) (object_fewer object false false) (λ start end found one. stays one.0) from to code.0 code.1 code.2)
    value_fewer (T.Call used place function c_type arguments) mode from to lowered code =
        fewer (suc (designator_nodes function + values_nodes arguments)) (omega arith)
        (names_then ((designator_fewer function from code.0 code.2 code.3 code.5)) (names_then (names_call code.0)
        (names_then (arguments_names arguments (with_call code.0) code.1 code.4 code.6) (point code.7.1))))
    value_fewer (T.LibraryCall function groups place arguments) mode from to lowered code = library_fewer function arguments from to lowered code

    library_fewer : (function : LibraryFunction) (arguments : Values) (from to : Spot) (lowered : Lowered) → LibraryCode program points scope function arguments from to lowered → Fewer (suc (values_nodes arguments)) from to
    library_fewer L.Malloc (T.MoreValues size T.NoValues) from to lowered code =
        fewer (suc (value_nodes size + 0)) (omega arith) (names_then (names_call from) (names_then ((value_fewer size Kept (with_call from) code.0 (AsInteger code.1 code.2) code.3)) (point code.4.1)))
    library_fewer L.Free (T.MoreValues pointer T.NoValues) from to lowered code =
        fewer (suc (value_nodes pointer + 0)) (omega arith) (names_then (names_call from) (names_then ((value_fewer pointer Kept (with_call from) code.0 (AsPointer code.2 code.1) code.3)) (point code.4.1)))
    library_fewer L.GetChar T.NoValues from to lowered code = fewer 1 (omega arith) (names_then (names_call from) (point code.0.1))
    library_fewer L.PutChar (T.MoreValues v T.NoValues) from to lowered code =
        fewer (suc (value_nodes v + 0)) (omega arith) (names_then (names_call from) (names_then ((value_fewer v Kept (with_call from) code.0 (AsInteger code.1 code.2) code.3)) (point code.4.1)))
    library_fewer L.Exit (T.MoreValues status T.NoValues) from to lowered code =
        fewer (suc (value_nodes status + 0)) (omega arith) (names_then (names_call from) (names_then ((value_fewer status Kept (with_call from) code.0 (AsInteger code.1 code.2) code.3)) (point code.4.1)))
    library_fewer function arguments from to lowered code = absurd code

    -- an argument's own register is told from its value's
    arguments_names : (arguments : Values) (from to : Spot) (registers : List Register) → ArgumentsCode program points scope arguments from to registers → Names (2 * values_nodes arguments) 0 from to
    arguments_names T.NoValues from to registers code = stays code.0
    arguments_names (T.MoreValues first others) from to registers code =
        loosened (2 * (value_nodes first + values_nodes others)) 0 (omega arith)
        (names_then (names_argument from) (names_then (value_fewer first Kept (with_argument from) code.0 code.2 code.4)
        (names_then (writes_names points (argument from) code.2 code.0 code.1 code.5) (arguments_names others code.1 to code.3 code.6))))

    designator_fewer : (function : Designator) (from to : Spot) (callee : Callee) (own : CType) → DesignatorCode program points scope function from to callee own → Fewer (designator_nodes function) from to
    designator_fewer (T.Function name) from to callee own code = fewer 1 (omega arith) (stays code.2)
    designator_fewer (T.GroupedFunction inner) from to callee own code = same_code (designator_nodes inner) (designator_fewer inner from to callee own code)
    designator_fewer (T.PointedFunction place pointer) from to callee own code = same_code (value_nodes pointer) (value_fewer pointer Kept from to (AsPointer code.0 own) code.1)
    designator_fewer (T.ThroughPointer place pointer) from to callee own code = same_code (value_nodes pointer) (value_fewer pointer Kept from to (AsPointer code.0 own) code.1)

    pub object_fewer : (object : Object) (is_kept followed : Bool) (from to : Spot) (lowered : Lowered) → ObjectCode program points scope is_kept followed object from to lowered → Fewer (object_nodes object) from to
    object_fewer (T.Local number) is_kept followed from to lowered code = fewer 1 (omega arith) (stays code.3)
    object_fewer (T.Global name) is_kept followed from to lowered code = fewer 1 (omega arith) (stays code.3)
    object_fewer (T.Literal place bytes) is_kept followed from to lowered code = fewer 1 (omega arith) (stays code.3)
    object_fewer (T.GroupedObject place inner) is_kept followed from to lowered code = same_code (object_nodes inner) (object_fewer inner is_kept followed from to lowered code)
    object_fewer (T.Pointed place pointer) is_kept followed from to lowered code = same_code (value_nodes pointer) (value_fewer pointer (pointed_mode is_kept followed) from to code.0 code.1)
    object_fewer (T.Element place pointer number) is_kept followed from to lowered code =
        over_two (value_nodes pointer) (value_nodes number) {j = 0} (omega arith) (value_fewer pointer _ from code.0 code.2 code.5) (stays refl) (value_fewer number Kept code.0 code.1 (AsInteger code.3 code.4) code.6)
        (indexes_names points is_kept followed code.2 code.4 code.1 to lowered code.7)
    object_fewer (T.ElementOf place number pointer) is_kept followed from to lowered code =
        over_two (value_nodes number) (value_nodes pointer) (omega arith) (value_fewer number Kept from code.0 (AsInteger code.3 code.4) code.7) (keeps_names points true code.4 code.5 code.0 code.1 code.8)
        (value_fewer pointer (Row followed) code.1 code.2 code.6 code.9) (indexes_names points is_kept false code.6 code.5 code.2 to lowered code.10)
    object_fewer (T.MemberOf place object number) is_kept followed from to lowered code = same_code (object_nodes object) (object_fewer object false followed from to (AsObject code.0 code.1) code.3)
    object_fewer (T.PointedMember place pointer number) is_kept followed from to lowered code = same_code (value_nodes pointer) (value_fewer pointer (Behind followed) from to code.0 code.4)
