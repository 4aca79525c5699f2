-- The code of operators on pointers.
use Rattle.std.proofs.Common.{◌≡◌, ℕ, suc, ◌+◌, [], ◌∷◌, ◌++◌, ◌≤◌, ◌<◌, Bool, true, false, not, ◌&&◌, ◌||◌, if◌then◌else◌, List, Option, Some, ℤ, neg_ℤ, refl, sym, ap, ◌∙◌, subst, arith}
use Rattle.std.proofs.lemmas.Bool.{and_parts, not-true}
use Rattle.run_theory.specs.declared.place.Pos.{Pos}
use Rattle.c_num.specs.declared.IntType.TheVariants as I
use Rattle.c_num.specs.declared.Relation.{Relation}
use Rattle.c_typed.specs.Types.{CType, Integer, Pointer, int, same_type, is_function, is_integer, is_pointer, is_void_pointer}
use Rattle.c_typed.specs.Layouts.{is_complete}
use Rattle.c_typed.proofs.Same.{same_type-true}
use Rattle.c_typed.specs.Typed as T
use Rattle.c_typed.specs.Typed.{Value, Program}
use Rattle.c_typed.specs.Expressions.{is_conversion, is_pointer_to_complete, are_comparable, repoints as is_repointed, given_two, moved, type_of}
use Rattle.c_typed.specs.Sizes.{makes, is_storable}
use Rattle.c_typed.specs.Programs.{IsWellTyped}
use Rattle.ref_semantics.specs.Values as V
use Rattle.ref_semantics.specs.Values.{LocalObject, Scalar, IntegerValue, NullValue, integer_of}
use Rattle.ref_semantics.specs.Store as S
use Rattle.ref_semantics.specs.Store.{Then, give, tick, ◌>>=◌}
use Rattle.ref_semantics.specs.Pointers.{tested, repointed, added, is_equality, compared_pointers, difference}
use Rattle.ref_semantics.specs.Meaning.{Calls, value}
use Rattle.ref_semantics.specs.First.{around_of}
use Rattle.ref_semantics.specs.Sound.{PointsTo, Sound}
use Rattle.ref_semantics.specs.Keeping.{CallsKeep}
use Rattle.c_typed.proofs.Splitting.{other_parts, first_parts, both_parts}
use Rattle.tac_ir.specs.Code.{Op, Tac, Held}
use Rattle.tac_ir.specs.Code as O
use Rattle.tac_ir.specs.Values as M
use Rattle.tac_ir.specs.Values.{Objects, OfActivation}
use Rattle.tac_ir.specs.declared.register.Local.{Local}
use Rattle.tac_ir.specs.Trees.{Registers, with_register, computes, integer_in, tree_nodes, truth}
use Rattle.tac_ir.specs.Pointers.{is_null}
use Rattle.tac_ir.specs.States.{State, write}
use Rattle.tac_ir.specs.Meaning.{execute}
use Rattle.tac_ir.specs.Costs.{more_cost}
use Rattle.tac_ir.specs.Events.{Crossed}
use Rattle.tac_ir.proofs.Seen.{seen_crossed}
use Rattle.tac_build.specs.Homes.{Scope}
use Rattle.tac_build.specs.Spots.{Spot, behind, with_expression, expression, temporary, Lowered, AsInteger, AsPointer, Mode, Kept, Dropped}
use Rattle.tac_build.specs.Code.{HasOp, ValueCode, MovedCode}
use Rattle.tac_build.specs.Forms.{scope_types, context_of, SpotGrows, Names}
use Rattle.tac_simulation.specs.Standing.{Placement, Frame, ScalarStands, MemoryStands, LoweredStands, At, surroundings}
use Rattle.tac_simulation.proofs.Paths.{Passage as Passing, Passes, Does, comes, stepped}
use Rattle.tac_simulation.proofs.Spotting.{Runs, kept_write, written_there, before_at, around_is}
use Rattle.tac_simulation.proofs.Alive.{LivesBefore}
use Rattle.tac_simulation.proofs.Changing.{at_changed}
use Rattle.tac_simulation.proofs.Repointing.{repointed_is}
use Rattle.tac_build.proofs.Named.{gives_integer, value_named}
use Rattle.tac_build.proofs.Naming.{grows_then}
use Rattle.tac_build.proofs.Forms.{value_form}
use Rattle.tac_simulation.proofs.Evaluating.{AtSpot, Came, ComesToValue, ValueDoes, value_units, laid_by, left_for, stood}
use Rattle.tac_simulation.proofs.Combining.{ticked, then_value}
use Rattle.tac_simulation.proofs.Unchanged.{keeps_fewer, keeps_then}
use Rattle.tac_simulation.proofs.Tested.{tested_is}
use Rattle.c_typed.specs.Sizes.{are_filled}
use Rattle.tac_simulation.proofs.Equality.{ComparedBoth, equality_is}
use Rattle.tac_simulation.proofs.InRow.{order_is, difference_is}
use Rattle.tac_simulation.proofs.Guarding.{guarded_does, from_same, tested_guards, compared_guards, difference_guards, repointed_guards}
use Rattle.tac_simulation.proofs.Pointing.{pointer_lasts, keeps_integer, puts_integer, puts_pointer, then_pointer, then_pointers, moves_pointer}

-- a test of whether both are of one kind
same_kind : (b c : Bool) → (if b then c else not c) ≡ true → b ≡ c
same_kind true c h = sym h
same_kind false c h = sym (not-true c h)

pointer_is : {t u : CType} → Pointer t ≡ Pointer u → t ≡ u
pointer_is e = cc

-- no conversion leaves six ticks
pub left_six : (tree : Value) → is_conversion tree ≡ false → left_for tree ≡ 6
left_six tree is = ap (λ (b : Bool). if b then 3 else 6) is

module _ (tac : Tac) (program : Program) (calls : Calls) (worth : ℕ) (points : List Op) (placement : Placement) (hidden : ℕ → Option V.Content) (frame : Frame) (scope : Scope)
    (runs : Runs tac program points frame) (well : IsWellTyped program) (keep : CallsKeep program calls)
    (filled : are_filled program.structs ≡ true) where
  abbrev moved_type : Value → Value → Option CType
  moved_type pointer number = given_two (type_of (context_of program scope) pointer) (type_of (context_of program scope) number) (moved program.structs)

  abbrev Follows : Value → Type 0
  Follows tree = ValueDoes tac program calls worth points placement hidden frame scope tree

  -- a point writes what stands for a pointer, and changes objects of the heap
  changes : {start : State} {n lag lag' slack slack' : ℕ} (s : S.State) (objects : S.Objects) (state : State) (objects' : Objects) (target : CType) (held : M.Value) (op : Op) (mode : Mode) (from mid to : Spot) (lowered : Lowered)
      (before : Registers) (answer : Scalar) → Passing tac worth start state n s.units lag slack → Came tac program calls worth points placement hidden frame scope from mid before s state → Sound (context_of program scope) s
      → HasOp points mid.at op → execute tac (surroundings program frame) op state ≡ write (expression mid) held (record state { objects = objects' }) → SpotGrows from mid → to ≡ behind (with_expression mid)
      → lowered ≡ AsPointer (expression mid) target → MemoryStands program placement objects objects' → LivesBefore s.objects objects → ((number : ℕ) → objects (LocalObject number) ≡ s.objects (LocalObject number))
      → ((activation : ℕ) (local : Local) → objects' (OfActivation activation local) ≡ state.objects (OfActivation activation local)) → ScalarStands program objects placement answer held → lag ≤ lag' → slack' + more_cost op < slack
      → Does tac worth start n lag' slack' (ComesToValue tac program calls worth points placement hidden frame scope mode from to lowered before) (Then answer (record s { objects = objects }))
  changes s objects state objects' target held op mode from mid to lowered before answer p came sound has does grows next is memory lives locals_are own_are stands more less =
      let registers = with_register (expression mid) (Some held) state.running.registers in
      let trace = state.trace ++ Crossed state.running.at (suc state.running.at) ∷ [] in
      let last : State = record state { running = record state.running { registers = registers; at = suc state.running.at }; objects = objects'; trace = trace; paid = 0 } in
      let passes : Passes tac op state (record state { running = record state.running { registers = registers; at = suc state.running.at }; objects = objects'; trace = trace; paid = 0 }) = record {
        before = before_at tac program points placement hidden frame scope runs mid.at op s state has came.there;
        does = ap (λ around. execute tac around op state) (around_is tac program points placement hidden frame scope runs mid.at s state came.there) ∙ does;
      } in
      let at : At program placement hidden frame scope (suc mid.at) (record s { objects = objects })
      (record state { running = record state.running { registers = registers; at = suc state.running.at }; objects = objects'; trace = trace; paid = 0 }) =
      at_changed program placement hidden frame scope s state sound objects objects' memory (λ name given. lives name) (λ number below. locals_are number) (λ local. own_are frame.number local) registers (λ local. refl)
      mid.at s.next_heap state.next_heap s.input state.input s.trace trace came.there.stands.heap came.there.stands.input
      (seen_crossed state.trace state.running.at (suc state.running.at) ∙ came.there.stands.trace) came.there in
      comes answer (record s { objects = objects }) last (stepped p passes more less) (
        record {
          there = subst (λ (spot : Spot). At program placement hidden frame scope spot.at (record s { objects = objects }) last) (sym next) at;
          kept = λ other named. kept_write from.counts (expression mid) (Some held) state.running.registers grows.expressions other named ∙ came.kept other named;
        },
        stood mode _ (subst (λ l. LoweredStands program mode frame placement objects registers l answer) (sym is) (held, written_there (expression mid) (Some held) state.running.registers, stands)),
      )

  pub tests : (place : Pos) (operand : Value) → Follows operand → Follows (T.Tested place operand)
  tests place operand follows mode from to lowered t code typed small start n lag slack s state p at =
      let parts = other_parts (type_of (context_of program scope) operand) (λ u. is_pointer u && not (is_conversion operand)) int t typed in
      let six = left_six operand (not-true (is_conversion operand) (and_parts (is_pointer parts.0) (not (is_conversion operand)) parts.2).1) in
      let laid = ap laid_by code.4.2 in
      let grows = (value_named program points scope operand Kept from code.0 (AsPointer code.1 code.2) code.3).grows in
      then_pointer tac program calls worth points placement hidden frame scope runs well keep operand follows (tested place) from code.0 code.1 code.2 parts.0 code.3 parts.1 small s state p at (omega arith) (λ scalar s' state' p' came keeps has.
      guarded_does (tested place scalar s') (tested_guards place scalar s') (λ answer after e.
      let is = tested_is program placement s' state'.objects came.there.stands.memory place code.2 scalar has.held answer after has.typed has.stands e in
      from_same answer s' after is.same
      (puts_integer tac program calls worth points placement hidden frame scope runs well keep (λ register. O.Test register code.1) I.Int (truth (not (is_null has.held))) mode from code.0 to lowered state.running.registers answer s' state'
      p' came.there came.kept grows code.4 (rw (has.holds, is.alive) refl) is.answer_is (omega arith) (omega (arith, six, laid)))))

  pub made_null : (target : CType) (operand : Value) → Follows operand → Follows (T.MadeNull target operand)
  made_null target operand follows mode from to lowered t code typed small start n lag slack s state p at =
      let parts = other_parts (type_of (context_of program scope) operand) (λ u. (is_integer u || is_void_pointer u) && not (is_conversion operand)) (Pointer target) t typed in
      let six = left_six operand (not-true (is_conversion operand) (and_parts (is_integer parts.0 || is_void_pointer parts.0) (not (is_conversion operand)) parts.2).1) in
      let laid = ap laid_by code.3.2 in
      let grows = (value_named program points scope operand Dropped from code.0 code.1 code.2).grows in
      then_value tac program calls worth points placement hidden frame scope runs well keep operand follows (λ a. give NullValue) Dropped from code.0 code.1 parts.0 code.2 parts.1 small s state p at (omega arith) (λ scalar s' state' p' came keeps has.
      puts_pointer tac program calls worth points placement hidden frame scope runs well keep O.Null target M.NoAddress mode from code.0 to lowered state.running.registers NullValue s' state'
      p' came.0.there came.0.kept grows code.3 refl refl (omega arith) (omega (arith, six, laid)))

  pub compares : (relation : Relation) (place : Pos) (left right : Value) → Follows left → Follows right → Follows (T.ComparePointers relation place left right)
  compares relation place left right follows follows' mode from to lowered t code typed small start n lag slack s state p at =
      let parts = both_parts (type_of (context_of program scope) left) (type_of (context_of program scope) right) (are_comparable relation) int t typed in
      let sizes = and_parts (makes (is_storable program.structs) left) (makes (is_storable program.structs) right) small in
      let laid = ap laid_by code.8.2 in
      let grows = grows_then (value_named program points scope left Kept from code.0 (AsPointer code.2 code.4) code.6).grows (value_named program points scope right Kept code.0 code.1 (AsPointer code.3 code.5) code.7).grows in
      ticked tac program calls worth points placement hidden frame scope runs well keep
      (value (around_of program) calls left >>= λ x. value (around_of program) calls right >>= λ y. compared_pointers (around_of program) relation place x y) from.at s state p at (omega arith) (λ units p' at'.
      then_pointers tac program calls worth points placement hidden frame scope runs well keep left right follows follows' (compared_pointers (around_of program) relation place)
      from code.0 code.1 code.2 code.3 code.4 code.5 parts.a parts.b code.6 code.7 parts.left parts.right sizes.0 sizes.1 (record s { units = units }) state p' at' (omega arith) (λ x y s' state' p'' came keeps has has'.
      guarded_does (compared_pointers (around_of program) relation place x y s') (compared_guards (around_of program) relation place x y s') (λ answer after e.
      let is = compared_is s' state' keeps.sound came.there.stands.memory code.4 code.5 x y has.held has'.held answer after (is_equality relation) refl has.typed has'.typed has.stands has'.stands e in
      from_same answer s' after is.same
      (puts_integer tac program calls worth points placement hidden frame scope runs well keep (λ register. O.ComparePointers register relation code.2 code.3) I.Int (truth is.test) mode from code.1 to lowered state.running.registers
      answer s' state' p'' came.there came.kept grows code.8 (rw (has.holds, is.alive, has'.holds, is.alive', is.test_is) refl) is.answer_is (omega arith) (omega (arith, laid))))))
    where
      compared_is : (s : S.State) (state : State) → Sound (context_of program scope) s → MemoryStands program placement s.objects state.objects → (target target' : CType) (x y : Scalar) (held held' : M.Value)
          (answer : Scalar) (after : S.State) (b : Bool) → is_equality relation ≡ b → PointsTo program s target x → PointsTo program s target' y → ScalarStands program s.objects placement x held → ScalarStands program s.objects placement y held'
          → compared_pointers (around_of program) relation place x y s ≡ Then answer after → ComparedBoth (surroundings program frame) s after state.objects relation answer held held'
      compared_is s state sound memory target target' x y held held' answer after true is typed typed' stands stands' e =
          equality_is program well filled placement (scope_types scope) s sound state.objects memory (surroundings program frame) refl relation place target target' x y held held' answer after is typed typed' stands stands' e
      compared_is s state sound memory target target' x y held held' answer after false is typed typed' stands stands' e =
          order_is program well filled placement (scope_types scope) s sound state.objects memory (surroundings program frame) refl relation place target target' x y held held' answer after is typed typed' stands stands' e

  pub differences : (place : Pos) (left right : Value) → Follows left → Follows right → Follows (T.PointerDifference place left right)
  differences place left right follows follows' mode from to lowered t code typed small start n lag slack s state p at =
      let parts = both_parts (type_of (context_of program scope) left) (type_of (context_of program scope) right) (λ a b. is_pointer_to_complete program.structs a && same_type a b) (Integer I.Long) t typed in
      let holds = and_parts (is_pointer_to_complete program.structs parts.a) (same_type parts.a parts.b) parts.holds in
      let sizes = and_parts (makes (is_storable program.structs) left) (makes (is_storable program.structs) right) small in
      let laid = ap laid_by code.8.2 in
      let grows = grows_then (value_named program points scope left Kept from code.0 (AsPointer code.2 code.4) code.6).grows (value_named program points scope right Kept code.0 code.1 (AsPointer code.3 code.5) code.7).grows in
      let first : parts.a ≡ Pointer code.4 = value_form program points scope left Kept parts.a from code.0 (AsPointer code.2 code.4) parts.left code.6 in
      let second : parts.b ≡ Pointer code.5 = value_form program points scope right Kept parts.b code.0 code.1 (AsPointer code.3 code.5) parts.right code.7 in
      let complete : is_complete program.structs code.4 ≡ true = subst (λ u. is_pointer_to_complete program.structs u ≡ true) first holds.0 in
      let alike : code.5 ≡ code.4 = pointer_is (sym second ∙ sym (same_type-true parts.a parts.b holds.1) ∙ first) in
      ticked tac program calls worth points placement hidden frame scope runs well keep
      (value (around_of program) calls left >>= λ x. value (around_of program) calls right >>= λ y. difference place x y) from.at s state p at (omega arith) (λ units p' at'.
      then_pointers tac program calls worth points placement hidden frame scope runs well keep left right follows follows' (difference place)
      from code.0 code.1 code.2 code.3 code.4 code.5 parts.a parts.b code.6 code.7 parts.left parts.right sizes.0 sizes.1 (record s { units = units }) state p' at' (omega arith) (λ x y s' state' p'' came keeps has has'.
      guarded_does (difference place x y s') (difference_guards place x y s') (λ answer after e.
      let is = difference_is program well filled placement (scope_types scope) s' keeps.sound state'.objects came.there.stands.memory (surroundings program frame) refl place code.4 x y has.held has'.held
      answer after complete has.typed (subst (λ u. PointsTo program s' u y) alike has'.typed) has.stands has'.stands e in
      from_same answer s' after is.1
      (puts_integer tac program calls worth points placement hidden frame scope runs well keep (λ register. O.Difference register code.4 code.2 code.3) I.Long is.0 mode from code.1 to lowered state.running.registers
      answer s' state' p'' came.there came.kept grows code.8 (rw (has.holds, has'.holds, is.4) refl) is.2 (omega arith) (omega (arith, laid))))))

  moved_form : (place : Pos) (is_minus : Bool) (amount : Scalar → ℤ) → ((z : ℤ) → (if is_minus then neg_ℤ z else z) ≡ amount (IntegerValue z)) → (pointer number : Value) → Follows pointer → Follows number
      → (mode : Mode) (from to : Spot) (lowered : Lowered) (t : CType) → MovedCode points is_minus (ValueCode program points scope Kept pointer) (ValueCode program points scope Kept number) from to lowered
      → moved_type pointer number ≡ Some t → (makes (is_storable program.structs) pointer && makes (is_storable program.structs) number) ≡ true
      → (start : State) (n lag slack : ℕ) (s : S.State) (state : State) → Passing tac worth start state n s.units lag slack → AtSpot tac program calls worth points placement hidden frame scope from.at s state
      → Does tac worth start n (lag + (1 + value_units pointer + value_units number)) (slack + (laid_by lowered + 6)) (ComesToValue tac program calls worth points placement hidden frame scope mode from to lowered state.running.registers)
      (tick (value (around_of program) calls pointer >>= λ x. value (around_of program) calls number >>= λ y. added place x (amount y)) s)
  moved_form place is_minus amount amount_is pointer number follows follows' mode from to lowered t code typed small start n lag slack s state p at =
      let parts = first_parts (type_of (context_of program scope) pointer) (type_of (context_of program scope) number) (λ a b. is_pointer_to_complete program.structs a && is_integer b) t typed in
      let holds = and_parts (is_pointer_to_complete program.structs t) (is_integer parts.b) parts.holds in
      let sizes = and_parts (makes (is_storable program.structs) pointer) (makes (is_storable program.structs) number) small in
      let laid = ap laid_by code.8.2 in
      let one = value_named program points scope pointer Kept from code.0 (AsPointer code.2 code.3) code.6 in
      let grows = grows_then one.grows (value_named program points scope number Kept code.0 code.1 (AsInteger code.4 code.5) code.7).grows in
      let first : t ≡ Pointer code.3 = value_form program points scope pointer Kept t from code.0 (AsPointer code.2 code.3) parts.left code.6 in
      let complete : is_complete program.structs code.3 ≡ true = subst (λ u. is_pointer_to_complete program.structs u ≡ true) first holds.0 in
      ticked tac program calls worth points placement hidden frame scope runs well keep
      (value (around_of program) calls pointer >>= λ x. value (around_of program) calls number >>= λ y. added place x (amount y)) from.at s state p at (omega arith) (λ units p1 at1.
      then_pointer tac program calls worth points placement hidden frame scope runs well keep pointer follows (λ x. value (around_of program) calls number >>= λ y. added place x (amount y))
      from code.0 code.2 code.3 t code.6 parts.left sizes.0 (record s { units = units }) state p1 at1 (omega arith) (λ x s1 state1 p2 came keeps has.
      then_value tac program calls worth points placement hidden frame scope runs well keep number follows' (λ y. added place x (amount y)) Kept code.0 code.1 (AsInteger code.4 code.5) parts.b code.7 parts.right sizes.1
      s1 state1 p2 (record { stands = came.there; sound = keeps.sound }) (omega arith) (λ y s2 state2 p3 came1 keeps1 has1.
      moves_pointer tac program calls worth points placement hidden frame scope runs well keep place is_minus code.2 code.3 code.5 came1.1.0 (amount y) mode from code.1 to lowered state.running.registers x s2 state2 p3
      (record { there = came1.0.there; kept = keeps_then from.counts state.running.registers state1.running.registers state2.running.registers came.kept (keeps_fewer state1.running.registers state2.running.registers one.grows came1.0.kept) })
      keeps1.sound grows code.8 complete (pointer_lasts program placement (scope_types scope) code.0.counts code.2 code.3 x s1 s2 state1 state2 keeps1 came1.0.kept one.named has) came1.1.2
      (amount_is came1.1.0 ∙ ap amount (sym came1.1.1)) (omega arith) (omega (arith, laid)))))

  pub adds : (place : Pos) (pointer number : Value) → Follows pointer → Follows number → Follows (T.PointerPlus place pointer number)
  adds place pointer number follows follows' mode from to lowered t code typed small start n lag slack s state p at =
      moved_form place false (λ y. integer_of y) (λ z. refl) pointer number follows follows' mode from to lowered t code typed small start n lag slack s state p at

  pub subtracts : (place : Pos) (pointer number : Value) → Follows pointer → Follows number → Follows (T.PointerMinus place pointer number)
  subtracts place pointer number follows follows' mode from to lowered t code typed small start n lag slack s state p at =
      moved_form place true (λ y. neg_ℤ (integer_of y)) (λ z. refl) pointer number follows follows' mode from to lowered t code typed small start n lag slack s state p at

  pub number_adds : (place : Pos) (number pointer : Value) → Follows number → Follows pointer → Follows (T.NumberPlus place number pointer)
  number_adds place number pointer follows follows' mode from to lowered t code typed small start n lag slack s state p at =
      let parts = first_parts (type_of (context_of program scope) pointer) (type_of (context_of program scope) number) (λ a b. is_pointer_to_complete program.structs a && is_integer b) t typed in
      let holds = and_parts (is_pointer_to_complete program.structs t) (is_integer parts.b) parts.holds in
      let sizes = and_parts (makes (is_storable program.structs) number) (makes (is_storable program.structs) pointer) small in
      let laid = ap laid_by code.11.2 in
      let nodes = ap tree_nodes code.9.2 in
      let one = value_named program points scope number Kept from code.0 (AsInteger code.5 code.3) code.8 in
      let two : Names code.0 code.1 (AsInteger I.Int (Held (temporary code.0))) = gives_integer {own = I.Int} code.9.1 refl in
      let three = value_named program points scope pointer Kept code.1 code.2 (AsPointer code.6 code.7) code.10 in
      let grows = grows_then one.grows (grows_then two.grows three.grows) in
      let first : t ≡ Pointer code.7 = value_form program points scope pointer Kept t code.1 code.2 (AsPointer code.6 code.7) parts.left code.10 in
      let complete : is_complete program.structs code.7 ≡ true = subst (λ u. is_pointer_to_complete program.structs u ≡ true) first holds.0 in
      ticked tac program calls worth points placement hidden frame scope runs well keep
      (value (around_of program) calls number >>= λ y. value (around_of program) calls pointer >>= λ x. added place x (integer_of y)) from.at s state p at (omega arith) (λ units p1 at1.
      then_value tac program calls worth points placement hidden frame scope runs well keep number follows (λ y. value (around_of program) calls pointer >>= λ x. added place x (integer_of y)) Kept from code.0 (AsInteger code.5 code.3) parts.b
      code.8 parts.right sizes.0 (record s { units = units }) state p1 at1 (omega arith) (λ y s1 state1 p2 came keeps has.
      keeps_integer tac program calls worth points placement hidden frame scope runs well keep code.3 code.4 came.1.0 code.0 code.1 s1 state1 (slack + 15) p2 (record { stands = came.0.there; sound = keeps.sound }) code.9 came.1.2 (omega arith)
      (λ state2 p3 at2 kept there.
      then_pointer tac program calls worth points placement hidden frame scope runs well keep pointer follows' (λ x. added place x (integer_of y))
      code.1 code.2 code.6 code.7 t code.10 parts.left sizes.1 s1 state2 p3 at2 (omega arith) (λ x s2 state3 p4 came1 keeps1 has1.
      moves_pointer tac program calls worth points placement hidden frame scope runs well keep place false code.6 code.7 code.4 came.1.0 (integer_of y) mode from code.2 to lowered state.running.registers x s2 state3 p4
      (record {
        there = came1.there;
        kept = keeps_then from.counts state.running.registers state1.running.registers state3.running.registers came.0.kept
            (keeps_then from.counts state1.running.registers state2.running.registers state3.running.registers (keeps_fewer state1.running.registers state2.running.registers one.grows kept)
            (keeps_fewer state2.running.registers state3.running.registers (grows_then one.grows two.grows) came1.kept));
      })
      keeps1.sound grows code.11 complete has1 (ap (computes state3.running.registers) code.9.2 ∙ ap integer_in (came1.kept (temporary code.0) two.named ∙ there))
      (ap integer_of (sym came.1.1)) (omega arith) (omega (arith, laid, nodes))))))

  pub repoints : (place : Pos) (target : CType) (operand : Value) → Follows operand → Follows (T.Repointed place target operand)
  repoints place target operand follows mode from to lowered t code typed small start n lag slack s state p at =
      let parts = other_parts (type_of (context_of program scope) operand) (λ u. is_repointed u target && not (is_conversion operand)) (Pointer target) t typed in
      let holds = and_parts (is_repointed parts.0 target) (not (is_conversion operand)) parts.2 in
      let six = left_six operand (not-true (is_conversion operand) holds.1) in
      let sizes = and_parts (is_storable program.structs target) (makes (is_storable program.structs) operand) small in
      let laid = ap laid_by code.4.2 in
      let grows = (value_named program points scope operand Kept from code.0 (AsPointer code.1 code.2) code.3).grows in
      let form : parts.0 ≡ Pointer code.2 = value_form program points scope operand Kept parts.0 from code.0 (AsPointer code.1 code.2) parts.1 code.3 in
      let kind : is_function target ≡ is_function code.2 = same_kind (is_function target) (is_function code.2) (subst (λ u. is_repointed u target ≡ true) form holds.0) in
      then_pointer tac program calls worth points placement hidden frame scope runs well keep operand follows (repointed (around_of program) place target) from code.0 code.1 code.2 parts.0 code.3 parts.1 sizes.1 s state p at (omega arith)
      (λ scalar s1 state1 p1 came keeps has.
      guarded_does (repointed (around_of program) place target scalar s1) (repointed_guards (around_of program) place target scalar s1) (λ answer after e.
      let is = repointed_is program well placement (scope_types scope) s1 keeps.sound state1 came.there.stands.memory (surroundings program frame) refl target (expression code.0) place code.2 scalar has.held answer after kind has.typed has.stands e in
      from_same answer (record s1 { objects = after.objects }) after is.after_is
      (changes s1 after.objects state1 is.objects target has.held (O.Repoint (expression code.0) target code.1) mode from code.0 to lowered state.running.registers answer p1 came keeps.sound
      code.4.0 (rw (has.holds, is.alive) is.done) grows code.4.1 code.4.2 is.memory is.lives is.locals_are is.own_are is.value (omega arith) (omega (arith, six, laid)))))
