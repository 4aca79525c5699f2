-- From one spot an expression has one code: it leads to one spot, comes to one thing, and has the same points.
use Rattle.std.proofs.Common.{◌≡◌, ℕ, suc, Bool, true, false, not, ◌||◌, List, ◌∷◌, Some, pos, refl, sym, ap, ◌∙◌}
use Rattle.std.specs.Prelude.{if◌then◌else◌}
use Rattle.std.proofs.Math.Path.{transport}
use Rattle.std.proofs.lemmas.Option.{same_Some}
use Rattle.c_num.specs.declared.IntType.TheVariants as I
use Rattle.c_num.specs.declared.BinOp.TheVariants as B
use Rattle.c_typed.specs.declared.typed.LibraryFunction.{LibraryFunction}
use Rattle.c_typed.specs.declared.typed.LibraryFunction.TheVariants as L
use Rattle.c_typed.specs.Types.{CType, Void, Array, literal_type}
use Rattle.c_typed.specs.Typed as T
use Rattle.c_typed.specs.Typed.{Program, Value, Values, Object, Designator}
use Rattle.tac_ir.specs.declared.register.Register.{Register}
use Rattle.tac_ir.specs.declared.register.Register.TheVariants as R
use Rattle.tac_ir.specs.Code.{Constant, Held, Convert, Complement, Not, Arithmetic, Compare, AtLocal, AtGlobal, AtLiteral, Member, Path, Callee, Known, Through, Op}
use Rattle.tac_ir.specs.Code as O
use Rattle.tac_build.specs.Homes.{Scope, register_home, is_pure}
use Rattle.tac_build.specs.Spots.{Spot, behind, with_call, with_argument, argument, AsInteger, AsPointer, AsObject, Mode, Kept, Dropped, Behind, Row, is_used, is_followed, is_address, cast_mode, pointed_mode}
use Rattle.tac_build.specs.Code.{PartCode, path_from, then_step, compound_tree, is_up, gives_old, type_of_member, pointed_by, call_gives, Writes, Joins, JoinsWith, Decays, TakesAddress, Addresses, MovesPointer, Indexes, OneCode, ValueCode, LibraryCode, ArgumentsCode, DesignatorCode, ObjectCode}
use Rattle.dsa_bottom_up.proofs.CodeIsOne.Agreeing.{Ends, Gives, Single, agrees_then, ends_then, gives_then, point, stays, emits, gives_integer, gives_pointer}
use Rattle.dsa_bottom_up.proofs.Lowering.{type_in, tree_in, register_in, target_in, path_in, object_in, element_in, count_in}
use Rattle.dsa_bottom_up.proofs.CodeIsOne.Parts.{keeps_same, writes_same, joins_same, joins_with_same, decays_same, takes_same, addresses_same, moves_same, indexes_same, read_same, moved_same, assign_same, compound_same, pointer_same, stepping_same, logical_same}

module _ (program : Program) (first second : List Op) (scope : Scope) where
  abbrev value_code : List Op → Mode → Value → PartCode
  value_code points mode v = ValueCode program points scope mode v

  abbrev object_code : List Op → Bool → Object → PartCode
  object_code points followed object = ObjectCode program points scope false followed object

  -- what is called, and its type
  record Designates (from to end : Spot) (callee other : Callee) (own c_type : CType) : Type 0 where
    ends : Ends first second from to end
    named : other ≡ callee
    typed : c_type ≡ own

  one_same : Single first second (OneCode first) (OneCode second)
  one_same from to begin end lowered given start code again = record { ends = stays first second from to begin end start code.0 again.0; is = again.1 ∙ sym code.1 }

  -- a member of an object
  member_same : (path other : Path) (number : ℕ) (own object c_type member : CType) → AsObject other object ≡ AsObject path own → type_of_member program.structs own number ≡ Some c_type
      → type_of_member program.structs object number ≡ Some member → AsObject (then_step other (Member number)) member ≡ AsObject (then_step path (Member number)) c_type
  member_same path other number own object c_type member found code again =
      let types = same_Some member c_type (sym again ∙ (λ i. type_of_member program.structs (object_in (found i)) number) ∙ code) in
      λ i. AsObject (then_step (path_in (found i)) (Member number)) (types i)

  mutual
    pub value_same : (v : Value) (mode : Mode) → Single first second (value_code first mode v) (value_code second mode v)
    value_same (T.Constant n z) mode from to begin end lowered given start code again = record { ends = stays first second from to begin end start code.0 again.0; is = again.1 ∙ sym code.1 }
    value_same T.NullPointer mode from to begin end lowered given start code again = gives_pointer first second O.Null O.Null Void Void from to begin end lowered given start refl refl code again
    value_same (T.Grouped inner) mode from to begin end lowered given start code again = value_same inner mode from to begin end lowered given start code again
    value_same (T.Read place object) mode from to begin end lowered given start code again =
        read_same first second (register_home scope object) (object_code first false object) (object_code second false object) (object_same object false false) from to begin end lowered given start code again
    value_same (T.Decay place object) mode from to begin end lowered given start code again =
        let found = object_same object false (is_followed mode) from code.0 begin again.0 (AsObject code.1 (Array code.2 code.3)) (AsObject again.1 (Array again.2 again.3)) start code.4 again.4 in
        gives_then first second found.ends (decays_same first second mode code.1 code.2 code.3 code.0 to again.0 end lowered given found.ends.same code.5
        (transport (λ i. Decays second mode (path_in (found.is i)) (element_in (object_in (found.is i))) (count_in (object_in (found.is i))) again.0 end given) again.5))
    value_same (T.FunctionValue function) mode from to begin end lowered given start code again =
        let found = designator_same function from code.0 begin again.0 code.1 again.1 code.2 again.2 start code.3 again.3 in
        gives_then first second found.ends (addresses_same first second code.1 code.2 code.0 to again.0 end lowered given found.ends.same code.4
        (transport (λ i. Addresses second (found.named i) (found.typed i) again.0 end given) again.4))
    value_same (T.Converted n operand) mode from to begin end lowered given start code again =
        let made = value_same operand Kept from to begin end (AsInteger code.0 code.1) (AsInteger again.0 again.1) start code.2 again.2 in
        record { ends = made.ends; is = again.3 ∙ (λ i. AsInteger n (Convert n (tree_in (made.is i)))) ∙ sym code.3 }
    value_same (T.Repointed place target operand) mode from to begin end lowered given start code again =
        let made = value_same operand Kept from code.0 begin again.0 (AsPointer code.1 code.2) (AsPointer again.1 again.2) start code.3 again.3 in
        gives_then first second made.ends (gives_pointer first second (λ register. O.Repoint register target code.1) (λ register. O.Repoint register target again.1) target target code.0 to again.0 end lowered given
        made.ends.same (λ i register. O.Repoint register target (register_in (made.is i))) refl code.4 again.4)
    value_same (T.MadeNull target operand) mode from to begin end lowered given start code again =
        let made = value_same operand Dropped from code.0 begin again.0 code.1 again.1 start code.2 again.2 in
        gives_then first second made.ends (gives_pointer first second O.Null O.Null target target code.0 to again.0 end lowered given made.ends.same refl refl code.3 again.3)
    value_same (T.Tested place operand) mode from to begin end lowered given start code again =
        let made = value_same operand Kept from code.0 begin again.0 (AsPointer code.1 code.2) (AsPointer again.1 again.2) start code.3 again.3 in
        gives_then first second made.ends (gives_integer first second (λ register. O.Test register code.1) (λ register. O.Test register again.1) I.Int I.Int code.0 to again.0 end lowered given
        made.ends.same (λ i register. O.Test register (register_in (made.is i))) refl code.4 again.4)
    value_same (T.Plus operand) mode from to begin end lowered given start code again = value_same operand Kept from to begin end lowered given start code again
    value_same (T.Minus place n operand) mode from to begin end lowered given start code again =
        let made = value_same operand Kept from to begin end (AsInteger code.0 code.1) (AsInteger again.0 again.1) start code.2 again.2 in
        record { ends = made.ends; is = again.3 ∙ (λ i. AsInteger n (Arithmetic B.Sub n (Constant (pos 0)) (tree_in (made.is i)))) ∙ sym code.3 }
    value_same (T.Complement n operand) mode from to begin end lowered given start code again =
        let made = value_same operand Kept from to begin end (AsInteger code.0 code.1) (AsInteger again.0 again.1) start code.2 again.2 in
        record { ends = made.ends; is = again.3 ∙ (λ i. AsInteger n (Complement n (tree_in (made.is i)))) ∙ sym code.3 }
    value_same (T.Not operand) mode from to begin end lowered given start code again =
        let made = value_same operand Kept from to begin end (AsInteger code.0 code.1) (AsInteger again.0 again.1) start code.2 again.2 in
        record { ends = made.ends; is = again.3 ∙ (λ i. AsInteger I.Int (Not (type_in (made.is i)) (tree_in (made.is i)))) ∙ sym code.3 }
    value_same (T.Arithmetic op place n left right) mode from to begin end lowered given start code again =
        let one = value_same left Kept from code.0 begin again.0 (AsInteger code.5 code.2) (AsInteger again.5 again.2) start code.7 again.7 in
        let kept = keeps_same first second (not (is_pure scope right)) code.2 again.2 code.3 again.3 code.0 code.1 again.0 again.1 one.ends.same (ap tree_in one.is) code.8 again.8 in
        let other = value_same right Kept code.1 to again.1 end (AsInteger code.6 code.4) (AsInteger again.6 again.4) kept.ends.same code.9 again.9 in
        record { ends = ends_then first second one.ends (ends_then first second kept.ends other.ends); is = again.10 ∙ (λ i. AsInteger n (Arithmetic op n (kept.is i) (tree_in (other.is i)))) ∙ sym code.10 }
    value_same (T.Compare relation left right) mode from to begin end lowered given start code again =
        let one = value_same left Kept from code.0 begin again.0 (AsInteger code.5 code.2) (AsInteger again.5 again.2) start code.7 again.7 in
        let kept = keeps_same first second (not (is_pure scope right)) code.2 again.2 code.3 again.3 code.0 code.1 again.0 again.1 one.ends.same (ap tree_in one.is) code.8 again.8 in
        let other = value_same right Kept code.1 to again.1 end (AsInteger code.6 code.4) (AsInteger again.6 again.4) kept.ends.same code.9 again.9 in
        record {
          ends = ends_then first second one.ends (ends_then first second kept.ends other.ends);
          is = again.10 ∙ (λ i. AsInteger I.Int (Compare relation (type_in (one.is i)) (kept.is i) (tree_in (other.is i)))) ∙ sym code.10;
        }
    value_same (T.ComparePointers relation place left right) mode from to begin end lowered given start code again =
        let one = value_same left Kept from code.0 begin again.0 (AsPointer code.2 code.4) (AsPointer again.2 again.4) start code.6 again.6 in
        let other = value_same right Kept code.0 code.1 again.0 again.1 (AsPointer code.3 code.5) (AsPointer again.3 again.5) one.ends.same code.7 again.7 in
        gives_then first second one.ends (gives_then first second other.ends
        (gives_integer first second (λ register. O.ComparePointers register relation code.2 code.3) (λ register. O.ComparePointers register relation again.2 again.3) I.Int I.Int code.1 to again.1 end lowered given
        other.ends.same (λ i register. O.ComparePointers register relation (register_in (one.is i)) (register_in (other.is i))) refl code.8 again.8))
    value_same (T.PointerPlus place pointer number) mode from to begin end lowered given start code again =
        moved_same first second false (value_code first Kept pointer) (value_code first Kept number) (value_code second Kept pointer) (value_code second Kept number) (value_same pointer Kept) (value_same number Kept)
        from to begin end lowered given start code again
    value_same (T.NumberPlus place number pointer) mode from to begin end lowered given start code again =
        let one = value_same number Kept from code.0 begin again.0 (AsInteger code.5 code.3) (AsInteger again.5 again.3) start code.8 again.8 in
        let kept = keeps_same first second true code.3 again.3 code.4 again.4 code.0 code.1 again.0 again.1 one.ends.same (ap tree_in one.is) code.9 again.9 in
        let other = value_same pointer Kept code.1 code.2 again.1 again.2 (AsPointer code.6 code.7) (AsPointer again.6 again.7) kept.ends.same code.10 again.10 in
        gives_then first second one.ends (gives_then first second kept.ends (gives_then first second other.ends
        (moves_same first second code.6 code.7 false code.4 code.2 to again.2 end lowered given other.ends.same code.11
        (transport (λ i. MovesPointer second (register_in (other.is i)) (target_in (other.is i)) false (kept.is i) again.2 end given) again.11))))
    value_same (T.PointerMinus place pointer number) mode from to begin end lowered given start code again =
        moved_same first second true (value_code first Kept pointer) (value_code first Kept number) (value_code second Kept pointer) (value_code second Kept number) (value_same pointer Kept) (value_same number Kept)
        from to begin end lowered given start code again
    value_same (T.PointerDifference place left right) mode from to begin end lowered given start code again =
        let one = value_same left Kept from code.0 begin again.0 (AsPointer code.2 code.4) (AsPointer again.2 again.4) start code.6 again.6 in
        let other = value_same right Kept code.0 code.1 again.0 again.1 (AsPointer code.3 code.5) (AsPointer again.3 again.5) one.ends.same code.7 again.7 in
        gives_then first second one.ends (gives_then first second other.ends
        (gives_integer first second (λ register. O.Difference register code.4 code.2 code.3) (λ register. O.Difference register again.4 again.2 again.3) I.Long I.Long code.1 to again.1 end lowered given
        other.ends.same (λ i register. O.Difference register (target_in (one.is i)) (register_in (one.is i)) (register_in (other.is i))) refl code.8 again.8))
    value_same (T.And left right) mode from to begin end lowered given start code again =
        logical_same first second true (value_code first Kept left) (value_code first Kept right) (value_code second Kept left) (value_code second Kept right) (value_same left Kept) (value_same right Kept)
        from to begin end lowered given start code again
    value_same (T.Or left right) mode from to begin end lowered given start code again =
        logical_same first second false (value_code first Kept left) (value_code first Kept right) (value_code second Kept left) (value_code second Kept right) (value_same left Kept) (value_same right Kept)
        from to begin end lowered given start code again
    value_same (T.Conditional condition taken otherwise) mode from to begin end lowered given start code again =
        let tested = value_same condition Kept from code.0 begin again.0 (AsInteger code.5 code.4) (AsInteger again.5 again.4) start code.8 again.8 in
        let one = value_same taken Kept (behind code.0) code.1 (behind again.0) again.1 code.6 again.6 (λ i. behind (tested.ends.same i)) code.10 again.10 in
        let joined = joins_same first second code.6 code.1 code.2 again.1 again.2 lowered given one.ends.same code.11 (transport (λ i. Joins second (one.is i) again.1 again.2 given) again.11) in
        let other = value_same otherwise Kept (behind code.2) code.3 (behind again.2) again.3 code.7 again.7 (λ i. behind (joined.ends.same i)) code.13 again.13 in
        let met = joins_with_same first second lowered code.7 code.3 to again.3 end other.ends.same code.14 (transport (λ i. JoinsWith second (joined.is i) (other.is i) again.3 end) again.14) in
        let branched = point first second code.0.at again.0.at (O.Branch code.5 code.4 (suc code.0.at) (suc code.2.at)) (O.Branch again.5 again.4 (suc again.0.at) (suc again.2.at)) (λ i. (tested.ends.same i).at)
        (λ i. O.Branch (type_in (tested.is i)) (tree_in (tested.is i)) (suc (tested.ends.same i).at) (suc (joined.ends.same i).at)) code.9 again.9 in
        let jumped = point first second code.2.at again.2.at (O.Jump to.at) (O.Jump end.at) (λ i. (joined.ends.same i).at) (λ i. O.Jump (met.same i).at) code.12 again.12 in
        record {
          ends = record {
            same = met.same;
            agrees = agrees_then first second tested.ends.agrees (agrees_then first second branched (agrees_then first second one.ends.agrees (agrees_then first second joined.ends.agrees
                (agrees_then first second jumped (agrees_then first second other.ends.agrees met.agrees)))));
          };
          is = joined.is;
        }
    value_same (T.AddressOf place object) mode from to begin end lowered given start code again =
        let found = object_same object (is_address mode) (is_followed mode) from code.0 begin again.0 code.1 again.1 start code.2 again.2 in
        gives_then first second found.ends (takes_same first second mode code.1 code.0 to again.0 end lowered given found.ends.same code.3
        (transport (λ i. TakesAddress second mode (found.is i) again.0 end given) again.3))
    value_same (T.AddressOfFunction function) mode from to begin end lowered given start code again =
        let found = designator_same function from code.0 begin again.0 code.1 again.1 code.2 again.2 start code.3 again.3 in
        gives_then first second found.ends (addresses_same first second code.1 code.2 code.0 to again.0 end lowered given found.ends.same code.4
        (transport (λ i. Addresses second (found.named i) (found.typed i) again.0 end given) again.4))
    value_same (T.Cast operand) mode from to begin end lowered given start code again = value_same operand (cast_mode mode) from to begin end lowered given start code again
    value_same (T.CastVoid operand) mode from to begin end lowered given start code again =
        let made = value_same operand Dropped from to begin end code.0 again.0 start code.1 again.1 in
        record { ends = made.ends; is = again.2 ∙ sym code.2 }
    value_same (T.Assign place object operand) mode from to begin end lowered given start code again =
        assign_same first second (is_used mode) (register_home scope object) (object_code first (not (is_pure scope operand)) object) (value_code first Kept operand)
        (object_code second (not (is_pure scope operand)) object) (value_code second Kept operand) (object_same object false (not (is_pure scope operand))) (value_same operand Kept)
        from to begin end lowered given start code again
    value_same (T.AssignArithmetic op place object_type n object operand) mode from to begin end lowered given start code again =
        compound_same first second (is_used mode) (register_home scope object) (object_code first (not (is_pure scope operand)) object) (value_code first Kept operand)
        (object_code second (not (is_pure scope operand)) object) (value_code second Kept operand) object_type (compound_tree op object_type n) (object_same object false (not (is_pure scope operand)))
        (value_same operand Kept) from to begin end lowered given start code again
    value_same (T.AssignMoved is_minus place object number) mode from to begin end lowered given start code again =
        let moved = pointer_same first second (register_home scope object) is_minus (object_code first (not (is_pure scope number)) object) (value_code first Kept number)
        (object_code second (not (is_pure scope number)) object) (value_code second Kept number) (object_same object false (not (is_pure scope number))) (value_same number Kept)
        from to begin end code.0 lowered again.0 given start code.1 again.1 in
        record { ends = moved.ends; is = moved.after }
    value_same (T.StepInteger stepping place n object) mode from to begin end lowered given start code again =
        stepping_same first second (is_used mode) stepping n (register_home scope object) (object_code first false object) (object_code second false object) (object_same object false false)
        from to begin end lowered given start code again
    value_same (T.StepPointer stepping place object) mode from to begin end lowered given start code again =
        let moved = pointer_same first second (register_home scope object) (not (is_up stepping)) (object_code first false object) (OneCode first) (object_code second false object) (OneCode second)
        (object_same object false false) one_same from to begin end code.0 code.1 again.0 again.1 start code.2 again.2 in
        record { ends = moved.ends; is = again.3 ∙ (λ i. if gives_old stepping then moved.before i else moved.after i) ∙ sym code.3 }
    value_same (T.Call used place function c_type arguments) mode from to begin end lowered given start code again =
        let found = designator_same function from code.0 begin again.0 code.2 again.2 code.3 again.3 start code.5 again.5 in
        let passed = arguments_same arguments (with_call code.0) code.1 (with_call again.0) again.1 code.4 again.4 (λ i. with_call (found.ends.same i)) code.6 again.6 in
        let called = emits first second code.1 to again.1 end (O.Call code.0.counts.calls code.2 code.4) (O.Call again.0.counts.calls again.2 again.4) passed.ends.same
        (λ i. O.Call (found.ends.same i).counts.calls (found.named i) (passed.is i)) code.7 again.7 in
        record {
          ends = record { same = called.same; agrees = agrees_then first second found.ends.agrees (agrees_then first second passed.ends.agrees called.agrees) };
          is = again.8 ∙ (λ i. call_gives used c_type (found.ends.same i).counts.calls) ∙ sym code.8;
        }
    value_same (T.LibraryCall function groups place arguments) mode from to begin end lowered given start code again = library_same function arguments from to begin end lowered given start code again

    library_same : (function : LibraryFunction) (arguments : Values) → Single first second (LibraryCode program first scope function arguments) (LibraryCode program second scope function arguments)
    library_same L.Malloc (T.MoreValues size T.NoValues) from to begin end lowered given start code again =
        let made = value_same size Kept (with_call from) code.0 (with_call begin) again.0 (AsInteger code.1 code.2) (AsInteger again.1 again.2) (λ i. with_call (start i)) code.3 again.3 in
        let asked = emits first second code.0 to again.0 end (O.Allocate from.counts.calls code.2) (O.Allocate begin.counts.calls again.2) made.ends.same
        (λ i. O.Allocate (start i).counts.calls (tree_in (made.is i))) code.4 again.4 in
        record {
          ends = record { same = asked.same; agrees = agrees_then first second made.ends.agrees asked.agrees };
          is = again.5 ∙ (λ i. AsPointer (R.Call (start i).counts.calls) Void) ∙ sym code.5;
        }
    library_same L.Free (T.MoreValues pointer T.NoValues) from to begin end lowered given start code again =
        let made = value_same pointer Kept (with_call from) code.0 (with_call begin) again.0 (AsPointer code.2 code.1) (AsPointer again.2 again.1) (λ i. with_call (start i)) code.3 again.3 in
        let asked = emits first second code.0 to again.0 end (O.Free from.counts.calls code.2) (O.Free begin.counts.calls again.2) made.ends.same
        (λ i. O.Free (start i).counts.calls (register_in (made.is i))) code.4 again.4 in
        record { ends = record { same = asked.same; agrees = agrees_then first second made.ends.agrees asked.agrees }; is = again.5 ∙ sym code.5 }
    library_same L.GetChar T.NoValues from to begin end lowered given start code again =
        let asked = emits first second (with_call from) to (with_call begin) end (O.GetChar from.counts.calls) (O.GetChar begin.counts.calls) (λ i. with_call (start i)) (λ i. O.GetChar (start i).counts.calls) code.0 again.0 in
        record { ends = record { same = asked.same; agrees = asked.agrees }; is = again.1 ∙ (λ i. AsInteger I.Int (Held (R.Call (start i).counts.calls))) ∙ sym code.1 }
    library_same L.PutChar (T.MoreValues v T.NoValues) from to begin end lowered given start code again =
        let made = value_same v Kept (with_call from) code.0 (with_call begin) again.0 (AsInteger code.1 code.2) (AsInteger again.1 again.2) (λ i. with_call (start i)) code.3 again.3 in
        let asked = emits first second code.0 to again.0 end (O.PutChar from.counts.calls code.2) (O.PutChar begin.counts.calls again.2) made.ends.same
        (λ i. O.PutChar (start i).counts.calls (tree_in (made.is i))) code.4 again.4 in
        record {
          ends = record { same = asked.same; agrees = agrees_then first second made.ends.agrees asked.agrees };
          is = again.5 ∙ (λ i. AsInteger I.Int (Held (R.Call (start i).counts.calls))) ∙ sym code.5;
        }
    library_same L.Exit (T.MoreValues status T.NoValues) from to begin end lowered given start code again =
        let made = value_same status Kept (with_call from) code.0 (with_call begin) again.0 (AsInteger code.1 code.2) (AsInteger again.1 again.2) (λ i. with_call (start i)) code.3 again.3 in
        let asked = emits first second code.0 to again.0 end (O.Exit code.2) (O.Exit again.2) made.ends.same (λ i. O.Exit (tree_in (made.is i))) code.4 again.4 in
        record { ends = record { same = asked.same; agrees = agrees_then first second made.ends.agrees asked.agrees }; is = again.5 ∙ sym code.5 }
    library_same function arguments from to begin end lowered given start code again = absurd code

    arguments_same : (arguments : Values) (from to begin end : Spot) (registers others : List Register) → begin ≡ from → ArgumentsCode program first scope arguments from to registers
        → ArgumentsCode program second scope arguments begin end others → Gives first second from to end registers others
    arguments_same T.NoValues from to begin end registers others start code again = record { ends = stays first second from to begin end start code.0 again.0; is = again.1 ∙ sym code.1 }
    arguments_same (T.MoreValues one more) from to begin end registers others start code again =
        let made = value_same one Kept (with_argument from) code.0 (with_argument begin) again.0 code.2 again.2 (λ i. with_argument (start i)) code.4 again.4 in
        let written = writes_same first second (argument from) code.2 code.0 code.1 again.0 again.1 made.ends.same code.5 (transport (λ i. Writes second (argument (start i)) (made.is i) again.0 again.1) again.5) in
        let rest = arguments_same more code.1 to again.1 end code.3 again.3 written.same code.6 again.6 in
        record {
          ends = record { same = rest.ends.same; agrees = agrees_then first second made.ends.agrees (agrees_then first second written.agrees rest.ends.agrees) };
          is = again.7 ∙ (λ i. argument (start i) ∷ rest.is i) ∙ sym code.7;
        }

    designator_same : (function : Designator) (from to begin end : Spot) (callee other : Callee) (own c_type : CType) → begin ≡ from → DesignatorCode program first scope function from to callee own
        → DesignatorCode program second scope function begin end other c_type → Designates from to end callee other own c_type
    designator_same (T.Function name) from to begin end callee other own c_type start code again =
        let numbers = same_Some again.0 code.0 (sym again.1 ∙ code.1) in
        record {
          ends = stays first second from to begin end start code.2 again.2;
          named = again.3 ∙ ap Known numbers ∙ sym code.3;
          typed = same_Some c_type own (sym again.4 ∙ code.4);
        }
    designator_same (T.GroupedFunction inner) from to begin end callee other own c_type start code again = designator_same inner from to begin end callee other own c_type start code again
    designator_same (T.PointedFunction place pointer) from to begin end callee other own c_type start code again =
        let made = value_same pointer Kept from to begin end (AsPointer code.0 own) (AsPointer again.0 c_type) start code.1 again.1 in
        record { ends = made.ends; named = again.2 ∙ (λ i. Through (register_in (made.is i)) (target_in (made.is i))) ∙ sym code.2; typed = ap target_in made.is }
    designator_same (T.ThroughPointer place pointer) from to begin end callee other own c_type start code again =
        let made = value_same pointer Kept from to begin end (AsPointer code.0 own) (AsPointer again.0 c_type) start code.1 again.1 in
        record { ends = made.ends; named = again.2 ∙ (λ i. Through (register_in (made.is i)) (target_in (made.is i))) ∙ sym code.2; typed = ap target_in made.is }

    pub object_same : (object : Object) (is_kept followed : Bool) → Single first second (ObjectCode program first scope is_kept followed object) (ObjectCode program second scope is_kept followed object)
    object_same (T.Local number) is_kept followed from to begin end lowered given start code again =
        let homes = same_Some again.0 code.0 (sym again.1 ∙ code.1) in
        record { ends = stays first second from to begin end start code.3 again.3; is = again.4 ∙ (λ i. AsObject (path_from (AtLocal (homes i).local)) (homes i).c_type) ∙ sym code.4 }
    object_same (T.Global name) is_kept followed from to begin end lowered given start code again =
        let found = same_Some (again.0, again.1) (code.0, code.1) (sym again.2 ∙ code.2) in
        record { ends = stays first second from to begin end start code.3 again.3; is = again.4 ∙ (λ i. AsObject (path_from (AtGlobal (found i).0)) (found i).1.c_type) ∙ sym code.4 }
    object_same (T.Literal place bytes) is_kept followed from to begin end lowered given start code again =
        let found = same_Some (again.0, again.1) (code.0, code.1) (sym again.2 ∙ code.2) in
        record { ends = stays first second from to begin end start code.3 again.3; is = again.4 ∙ (λ i. AsObject (path_from (AtLiteral (found i).0)) (literal_type bytes)) ∙ sym code.4 }
    object_same (T.GroupedObject place inner) is_kept followed from to begin end lowered given start code again = object_same inner is_kept followed from to begin end lowered given start code again
    object_same (T.Pointed place pointer) is_kept followed from to begin end lowered given start code again =
        let made = value_same pointer (pointed_mode is_kept followed) from to begin end code.0 again.0 start code.1 again.1 in
        record { ends = made.ends; is = again.2 ∙ (λ i. pointed_by is_kept (made.is i)) ∙ sym code.2 }
    object_same (T.Element place pointer number) is_kept followed from to begin end lowered given start code again =
        let one = value_same pointer (Row (followed || not (is_pure scope number))) from code.0 begin again.0 code.2 again.2 start code.5 again.5 in
        let other = value_same number Kept code.0 code.1 again.0 again.1 (AsInteger code.3 code.4) (AsInteger again.3 again.4) one.ends.same code.6 again.6 in
        gives_then first second one.ends (gives_then first second other.ends (indexes_same first second is_kept followed code.2 code.4 code.1 to again.1 end lowered given other.ends.same code.7
        (transport (λ i. Indexes second is_kept followed (one.is i) (tree_in (other.is i)) again.1 end given) again.7)))
    object_same (T.ElementOf place number pointer) is_kept followed from to begin end lowered given start code again =
        let one = value_same number Kept from code.0 begin again.0 (AsInteger code.3 code.4) (AsInteger again.3 again.4) start code.7 again.7 in
        let kept = keeps_same first second true code.4 again.4 code.5 again.5 code.0 code.1 again.0 again.1 one.ends.same (ap tree_in one.is) code.8 again.8 in
        let other = value_same pointer (Row followed) code.1 code.2 again.1 again.2 code.6 again.6 kept.ends.same code.9 again.9 in
        gives_then first second one.ends (gives_then first second kept.ends (gives_then first second other.ends
        (indexes_same first second is_kept false code.6 code.5 code.2 to again.2 end lowered given other.ends.same code.10
        (transport (λ i. Indexes second is_kept false (other.is i) (kept.is i) again.2 end given) again.10))))
    object_same (T.MemberOf place object number) is_kept followed from to begin end lowered given start code again =
        let found = object_same object false followed from to begin end (AsObject code.0 code.1) (AsObject again.0 again.1) start code.3 again.3 in
        record { ends = found.ends; is = again.5 ∙ member_same code.0 again.0 number code.1 again.1 code.2 again.2 found.is code.4 again.4 ∙ sym code.5 }
    object_same (T.PointedMember place pointer number) is_kept followed from to begin end lowered given start code again =
        let made = value_same pointer (Behind followed) from to begin end code.0 again.0 start code.4 again.4 in
        record { ends = made.ends; is = again.7 ∙ member_same code.1 again.1 number code.2 again.2 code.3 again.3 (sym again.5 ∙ (λ i. pointed_by false (made.is i)) ∙ code.5) code.6 again.6 ∙ sym code.7 }
