-- The code of an expression calls by name only functions of the program, and has its own sites.
use Rattle.std.proofs.Common.{◌≡◌, ℕ, suc, ◌+◌, ◌<◌, Bool, true, false, not, ◌||◌, List, [], ◌∷◌, length, Some, refl, sym, subst, arith}
use Rattle.std.specs.Prelude.{if◌then◌else◌, bytes_eq}
use Rattle.std.proofs.lemmas.Option.{none-some, same_Some}
use Rattle.c_num.specs.declared.IntType.TheVariants as I
use Rattle.c_typed.specs.declared.typed.LibraryFunction.{LibraryFunction}
use Rattle.c_typed.specs.declared.typed.LibraryFunction.TheVariants as L
use Rattle.c_typed.specs.Types.{CType, Void, Array}
use Rattle.c_typed.specs.Typed as T
use Rattle.c_typed.specs.Typed.{Program, FunctionDef, Value, Values, Object, Designator}
use Rattle.tac_ir.specs.declared.register.Register.{Register}
use Rattle.tac_ir.specs.Code.{Callee}
use Rattle.tac_ir.specs.Code as O
use Rattle.tac_build.specs.Homes.{Scope, register_home, is_pure}
use Rattle.tac_build.specs.Spots.{Spot, behind, with_call, with_argument, argument, AsInteger, AsPointer, AsObject, Mode, Kept, Dropped, Behind, Row, is_used, is_followed, is_address, cast_mode, pointed_mode}
use Rattle.tac_build.specs.Code.{PartCode, function_number, compound_tree, is_up, OneCode, ValueCode, LibraryCode, ArgumentsCode, DesignatorCode, ObjectCode}
use Rattle.dsa_bottom_up.proofs.LoweredCalls.Leading.{CalleeBelow, Spans, Part, leads_then, nothing, skips_site, stays, point, emits, emits_site, gives_integer, gives_pointer}
use Rattle.dsa_bottom_up.proofs.LoweredCalls.Parts.{keeps_spans, writes_spans, joins_spans, joins_with_spans, decays_spans, takes_spans, addresses_spans, moves_spans, indexes_spans, read_spans, moved_spans, assign_spans, compound_spans, pointer_spans, stepping_spans, logical_spans}

-- ---- names

-- a function of this name is one of those that are defined
pub number_below : (first : ℕ) (defs : List FunctionDef) (name : List ℕ) (number : ℕ) → function_number first defs name ≡ Some number → number < first + length defs
number_below first [] name number is = absurd (none-some number is)
number_below first (def ∷ defs) name number is = by (bytes_eq def.name name) (number_below (suc first) defs name number) is
  where
    by : (b : Bool) → (function_number (suc first) defs name ≡ Some number → number < suc first + length defs) → (if b then Some first else function_number (suc first) defs name) ≡ Some number
        → number < first + length (def ∷ defs)
    by true later is = let same = same_Some first number is in omega (arith, same)
    by false later is = let rest = later is in omega (arith, rest)

-- ---- forms

module _ (program : Program) (points : List O.Op) (scope : Scope) where
  abbrev count : ℕ
  count = length program.functions

  abbrev value_code : Mode → Value → PartCode
  value_code mode v = ValueCode program points scope mode v

  abbrev object_code : Bool → Object → PartCode
  object_code followed object = ObjectCode program points scope false followed object

  callee_below : (function : Designator) (from to : Spot) (callee : Callee) (own : CType) → DesignatorCode program points scope function from to callee own → CalleeBelow count callee
  callee_below (T.Function name) from to callee own code =
      let below = number_below 0 program.functions name code.0 code.1 in
      let low : code.0 < count = omega (arith, below) in
      subst (CalleeBelow count) (sym code.3) low
  callee_below (T.GroupedFunction inner) from to callee own code = callee_below inner from to callee own code
  callee_below (T.PointedFunction place pointer) from to callee own code = subst (CalleeBelow count) (sym code.2) tt
  callee_below (T.ThroughPointer place pointer) from to callee own code = subst (CalleeBelow count) (sym code.2) tt

  one_spans : Part points count (OneCode points)
  one_spans from to lowered code = stays points count from to code.0

  mutual
    pub value_spans : (v : Value) (mode : Mode) → Part points count (value_code mode v)
    value_spans (T.Constant n z) mode from to lowered code = stays points count from to code.0
    value_spans T.NullPointer mode from to lowered code = gives_pointer points count from to lowered O.Null Void code refl
    value_spans (T.Grouped inner) mode from to lowered code = value_spans inner mode from to lowered code
    value_spans (T.Read place object) mode from to lowered code =
        read_spans points count (register_home scope object) (object_code false object) (object_spans object false false) from to lowered code
    value_spans (T.Decay place object) mode from to lowered code =
        leads_then points count (object_spans object false (is_followed mode) from code.0 (AsObject code.1 (Array code.2 code.3)) code.4)
        (decays_spans points count mode code.1 code.2 code.3 code.0 to lowered code.5)
    value_spans (T.FunctionValue function) mode from to lowered code =
        leads_then points count (designator_spans function from code.0 code.1 code.2 code.3) (addresses_spans points count code.1 code.2 code.0 to lowered code.4)
    value_spans (T.Converted n operand) mode from to lowered code = value_spans operand Kept from to (AsInteger code.0 code.1) code.2
    value_spans (T.Repointed place target operand) mode from to lowered code =
        leads_then points count (value_spans operand Kept from code.0 (AsPointer code.1 code.2) code.3)
        (gives_pointer points count code.0 to lowered (λ register. O.Repoint register target code.1) target code.4 refl)
    value_spans (T.MadeNull target operand) mode from to lowered code =
        leads_then points count (value_spans operand Dropped from code.0 code.1 code.2) (gives_pointer points count code.0 to lowered O.Null target code.3 refl)
    value_spans (T.Tested place operand) mode from to lowered code =
        leads_then points count (value_spans operand Kept from code.0 (AsPointer code.1 code.2) code.3)
        (gives_integer points count code.0 to lowered (λ register. O.Test register code.1) I.Int code.4 refl)
    value_spans (T.Plus operand) mode from to lowered code = value_spans operand Kept from to lowered code
    value_spans (T.Minus place n operand) mode from to lowered code = value_spans operand Kept from to (AsInteger code.0 code.1) code.2
    value_spans (T.Complement n operand) mode from to lowered code = value_spans operand Kept from to (AsInteger code.0 code.1) code.2
    value_spans (T.Not operand) mode from to lowered code = value_spans operand Kept from to (AsInteger code.0 code.1) code.2
    value_spans (T.Arithmetic op place n left right) mode from to lowered code =
        leads_then points count (value_spans left Kept from code.0 (AsInteger code.5 code.2) code.7)
        (leads_then points count (keeps_spans points count (not (is_pure scope right)) code.2 code.3 code.0 code.1 code.8)
        (value_spans right Kept code.1 to (AsInteger code.6 code.4) code.9))
    value_spans (T.Compare relation left right) mode from to lowered code =
        leads_then points count (value_spans left Kept from code.0 (AsInteger code.5 code.2) code.7)
        (leads_then points count (keeps_spans points count (not (is_pure scope right)) code.2 code.3 code.0 code.1 code.8)
        (value_spans right Kept code.1 to (AsInteger code.6 code.4) code.9))
    value_spans (T.ComparePointers relation place left right) mode from to lowered code =
        leads_then points count (value_spans left Kept from code.0 (AsPointer code.2 code.4) code.6)
        (leads_then points count (value_spans right Kept code.0 code.1 (AsPointer code.3 code.5) code.7)
        (gives_integer points count code.1 to lowered (λ register. O.ComparePointers register relation code.2 code.3) I.Int code.8 refl))
    value_spans (T.PointerPlus place pointer number) mode from to lowered code =
        moved_spans points count false (value_code Kept pointer) (value_code Kept number) (value_spans pointer Kept) (value_spans number Kept) from to lowered code
    value_spans (T.NumberPlus place number pointer) mode from to lowered code =
        leads_then points count (value_spans number Kept from code.0 (AsInteger code.5 code.3) code.8)
        (leads_then points count (keeps_spans points count true code.3 code.4 code.0 code.1 code.9)
        (leads_then points count (value_spans pointer Kept code.1 code.2 (AsPointer code.6 code.7) code.10)
        (moves_spans points count code.6 code.7 false code.4 code.2 to lowered code.11)))
    value_spans (T.PointerMinus place pointer number) mode from to lowered code =
        moved_spans points count true (value_code Kept pointer) (value_code Kept number) (value_spans pointer Kept) (value_spans number Kept) from to lowered code
    value_spans (T.PointerDifference place left right) mode from to lowered code =
        leads_then points count (value_spans left Kept from code.0 (AsPointer code.2 code.4) code.6)
        (leads_then points count (value_spans right Kept code.0 code.1 (AsPointer code.3 code.5) code.7)
        (gives_integer points count code.1 to lowered (λ register. O.Difference register code.4 code.2 code.3) I.Long code.8 refl))
    value_spans (T.And left right) mode from to lowered code =
        logical_spans points count true (value_code Kept left) (value_code Kept right) (value_spans left Kept) (value_spans right Kept) from to lowered code
    value_spans (T.Or left right) mode from to lowered code =
        logical_spans points count false (value_code Kept left) (value_code Kept right) (value_spans left Kept) (value_spans right Kept) from to lowered code
    value_spans (T.Conditional condition taken otherwise) mode from to lowered code =
        leads_then points count (value_spans condition Kept from code.0 (AsInteger code.5 code.4) code.8)
        (leads_then points count (point points count code.0 (O.Branch code.5 code.4 (suc code.0.at) (suc code.2.at)) code.9 refl)
        (leads_then points count (value_spans taken Kept (behind code.0) code.1 code.6 code.10)
        (leads_then points count (joins_spans points count code.6 code.1 code.2 lowered code.11)
        (leads_then points count (point points count code.2 (O.Jump to.at) code.12 refl)
        (leads_then points count (value_spans otherwise Kept (behind code.2) code.3 code.7 code.13)
        (joins_with_spans points count lowered code.7 code.3 to code.14))))))
    value_spans (T.AddressOf place object) mode from to lowered code =
        leads_then points count (object_spans object (is_address mode) (is_followed mode) from code.0 code.1 code.2) (takes_spans points count mode code.1 code.0 to lowered code.3)
    value_spans (T.AddressOfFunction function) mode from to lowered code =
        leads_then points count (designator_spans function from code.0 code.1 code.2 code.3) (addresses_spans points count code.1 code.2 code.0 to lowered code.4)
    value_spans (T.Cast operand) mode from to lowered code = value_spans operand (cast_mode mode) from to lowered code
    value_spans (T.CastVoid operand) mode from to lowered code = value_spans operand Dropped from to code.0 code.1
    value_spans (T.Assign place object operand) mode from to lowered code =
        assign_spans points count (is_used mode) (register_home scope object) (object_code (not (is_pure scope operand)) object) (value_code Kept operand)
        (object_spans object false (not (is_pure scope operand))) (value_spans operand Kept) from to lowered code
    value_spans (T.AssignArithmetic op place object_type int_type object operand) mode from to lowered code =
        compound_spans points count (is_used mode) (register_home scope object) (object_code (not (is_pure scope operand)) object) (value_code Kept operand) object_type (compound_tree op object_type int_type)
        (object_spans object false (not (is_pure scope operand))) (value_spans operand Kept) from to lowered code
    value_spans (T.AssignMoved is_minus place object number) mode from to lowered code =
        pointer_spans points count (register_home scope object) is_minus (object_code (not (is_pure scope number)) object) (value_code Kept number)
        (object_spans object false (not (is_pure scope number))) (value_spans number Kept) from to code.0 lowered code.1
    value_spans (T.StepInteger stepping place n object) mode from to lowered code =
        stepping_spans points count (is_used mode) stepping n (register_home scope object) (object_code false object) (object_spans object false false) from to lowered code
    value_spans (T.StepPointer stepping place object) mode from to lowered code =
        pointer_spans points count (register_home scope object) (not (is_up stepping)) (object_code false object) (OneCode points) (object_spans object false false) one_spans from to code.0 code.1 code.2
    value_spans (T.Call used place function c_type arguments) mode from to lowered code =
        leads_then points count (designator_spans function from code.0 code.2 code.3 code.5)
        (emits_site points count code.1 to code.0.counts.calls (O.Call code.0.counts.calls code.2 code.4) (arguments_span arguments (with_call code.0) code.1 code.4 code.6) code.7 refl
        (callee_below function from code.0 code.2 code.3 code.5))
    value_spans (T.LibraryCall function groups place arguments) mode from to lowered code = library_spans function arguments from to lowered code

    library_spans : (function : LibraryFunction) (arguments : Values) → Part points count (LibraryCode program points scope function arguments)
    library_spans L.Malloc (T.MoreValues size T.NoValues) from to lowered code =
        emits_site points count code.0 to from.counts.calls (O.Allocate from.counts.calls code.2) (value_spans size Kept (with_call from) code.0 (AsInteger code.1 code.2) code.3) code.4 refl tt
    library_spans L.Free (T.MoreValues pointer T.NoValues) from to lowered code =
        emits_site points count code.0 to from.counts.calls (O.Free from.counts.calls code.2) (value_spans pointer Kept (with_call from) code.0 (AsPointer code.2 code.1) code.3) code.4 refl tt
    library_spans L.GetChar T.NoValues from to lowered code =
        emits_site points count (with_call from) to from.counts.calls (O.GetChar from.counts.calls) (nothing points count from.at (suc from.counts.calls)) code.0 refl tt
    library_spans L.PutChar (T.MoreValues v T.NoValues) from to lowered code =
        emits_site points count code.0 to from.counts.calls (O.PutChar from.counts.calls code.2) (value_spans v Kept (with_call from) code.0 (AsInteger code.1 code.2) code.3) code.4 refl tt
    library_spans L.Exit (T.MoreValues status T.NoValues) from to lowered code =
        skips_site points count (leads_then points count (value_spans status Kept (with_call from) code.0 (AsInteger code.1 code.2) code.3) (emits points count code.0 to (O.Exit code.2) code.4 refl))
    library_spans function arguments from to lowered code = absurd code

    arguments_span : (arguments : Values) (from to : Spot) (registers : List Register) → ArgumentsCode program points scope arguments from to registers → Spans points count from to
    arguments_span T.NoValues from to registers code = stays points count from to code.0
    arguments_span (T.MoreValues first others) from to registers code =
        leads_then points count (value_spans first Kept (with_argument from) code.0 code.2 code.4)
        (leads_then points count (writes_spans points count (argument from) code.2 code.0 code.1 code.5) (arguments_span others code.1 to code.3 code.6))

    designator_spans : (function : Designator) (from to : Spot) (callee : Callee) (own : CType) → DesignatorCode program points scope function from to callee own → Spans points count from to
    designator_spans (T.Function name) from to callee own code = stays points count from to code.2
    designator_spans (T.GroupedFunction inner) from to callee own code = designator_spans inner from to callee own code
    designator_spans (T.PointedFunction place pointer) from to callee own code = value_spans pointer Kept from to (AsPointer code.0 own) code.1
    designator_spans (T.ThroughPointer place pointer) from to callee own code = value_spans pointer Kept from to (AsPointer code.0 own) code.1

    pub object_spans : (object : Object) (is_kept followed : Bool) → Part points count (ObjectCode program points scope is_kept followed object)
    object_spans (T.Local number) is_kept followed from to lowered code = stays points count from to code.3
    object_spans (T.Global name) is_kept followed from to lowered code = stays points count from to code.3
    object_spans (T.Literal place bytes) is_kept followed from to lowered code = stays points count from to code.3
    object_spans (T.GroupedObject place inner) is_kept followed from to lowered code = object_spans inner is_kept followed from to lowered code
    object_spans (T.Pointed place pointer) is_kept followed from to lowered code = value_spans pointer (pointed_mode is_kept followed) from to code.0 code.1
    object_spans (T.Element place pointer number) is_kept followed from to lowered code =
        leads_then points count (value_spans pointer (Row (followed || not (is_pure scope number))) from code.0 code.2 code.5)
        (leads_then points count (value_spans number Kept code.0 code.1 (AsInteger code.3 code.4) code.6)
        (indexes_spans points count is_kept followed code.2 code.4 code.1 to lowered code.7))
    object_spans (T.ElementOf place number pointer) is_kept followed from to lowered code =
        leads_then points count (value_spans number Kept from code.0 (AsInteger code.3 code.4) code.7)
        (leads_then points count (keeps_spans points count true code.4 code.5 code.0 code.1 code.8)
        (leads_then points count (value_spans pointer (Row followed) code.1 code.2 code.6 code.9)
        (indexes_spans points count is_kept false code.6 code.5 code.2 to lowered code.10)))
    object_spans (T.MemberOf place object number) is_kept followed from to lowered code = object_spans object false followed from to (AsObject code.0 code.1) code.3
    object_spans (T.PointedMember place pointer number) is_kept followed from to lowered code = value_spans pointer (Behind followed) from to code.0 code.4
