-- The code that reads a pointer, moves it and writes it, in a local or in memory.
use Rattle.std.proofs.Common.{◌≡◌, ℕ, suc, ◌+◌, ◌*◌, ◌≤◌, ◌<◌, Bool, true, false, if◌then◌else◌, List, Option, Some, neg_ℤ, refl, sym, ap, ◌∙◌, subst, arith}
use Rattle.run_theory.specs.declared.place.Pos.{Pos}
use Rattle.run_theory.specs.declared.ends.UbKind.TheVariants as Ub
use Rattle.c_typed.specs.Types.{CType, Void, Integer, Pointer, Array, Struct, Function}
use Rattle.c_typed.specs.Layouts.{is_complete}
use Rattle.c_typed.specs.Typed.{Program}
use Rattle.c_typed.specs.Context.{Context}
use Rattle.c_typed.specs.Programs.{IsWellTyped}
use Rattle.ref_semantics.specs.Values as V
use Rattle.ref_semantics.specs.Values.{Place, Scalar, LocalObject, object_place}
use Rattle.ref_semantics.specs.Store as S
use Rattle.ref_semantics.specs.Store.{Outcome, Then, Eval, continue_with, undefined}
use Rattle.ref_semantics.specs.Pointers.{read, write, added}
use Rattle.ref_semantics.specs.Meaning.{Calls}
use Rattle.ref_semantics.specs.First.{around_of}
use Rattle.ref_semantics.specs.Sound.{HasType, Sound}
use Rattle.ref_semantics.specs.Keeping.{CallsKeep, IsElement}
use Rattle.ref_semantics.proofs.Lasting.{element_lasts}
use Rattle.ref_semantics.proofs.Pointing.{added_keeps}
use Rattle.tac_ir.specs.declared.register.Local.{Local}
use Rattle.tac_ir.specs.declared.register.Register.{Register}
use Rattle.tac_ir.specs.declared.register.Register.TheVariants as R
use Rattle.tac_ir.specs.Code.{Op, Tac, Tree, Path}
use Rattle.tac_ir.specs.Code as O
use Rattle.tac_ir.specs.Values as M
use Rattle.tac_ir.specs.Trees.{computes, tree_nodes}
use Rattle.tac_ir.specs.Costs.{path_cost}
use Rattle.tac_ir.specs.States.{State}
use Rattle.tac_build.specs.Homes.{Home, Scope}
use Rattle.tac_build.specs.Spots.{Spot, behind, with_expression, expression, Lowered, AsPointer, AsObject, Mode, Kept}
use Rattle.tac_simulation.proofs.Evaluating.{laid_by}
use Rattle.tac_build.specs.Code.{HasOp, ReadsLocal, Loads, MovesPointer, Stores, Writes, StepsLocal, StepsObject}
use Rattle.tac_build.specs.Forms.{scope_types, context_of, PathNamed, TreeNamed, IsNamed}
use Rattle.tac_simulation.specs.Standing.{Placement, Frame, KeepsBefore, At, ScalarStands, PathStands, LoweredStands, surroundings}
use Rattle.tac_simulation.proofs.Paths.{Stand, Passage as Passing, Does, stray}
use Rattle.tac_simulation.proofs.Spotting.{Runs, kept_write, written_there, with_written}
use Rattle.tac_simulation.proofs.Alive.{value_lasts}
use Rattle.tac_build.proofs.Naming.{lowered_later, behind_grows, expression_grows, grows_then}
use Rattle.tac_simulation.proofs.Unchanged.{tree_same, keeps_fewer, keeps_then}
use Rattle.tac_simulation.proofs.Adding.{added_is}
use Rattle.tac_simulation.proofs.Guarding.{Guards, goes, strays, added_guards}
use Rattle.tac_simulation.proofs.Going.{writes}
use Rattle.tac_simulation.proofs.Lasting.{value_later}
use Rattle.tac_simulation.proofs.Assigning.{IsHome, own_at, own_lives, local_holds}
use Rattle.tac_simulation.proofs.Assigned.{local_write, writes_local}
use Rattle.tac_simulation.proofs.Compounded.{own_read, then_own}
use Rattle.tac_simulation.proofs.Stored.{then_read, with_read, was_read}
use Rattle.tac_simulation.proofs.StoredForms.{KeepsNamed, kept_named, named_before_keeps, path_keeps, then_store}

pointer_parts : {a b : Register} {t u : CType} → AsPointer a t ≡ AsPointer b u → (a ≡ b) × (t ≡ u)
pointer_parts e = (cc, cc)

target_is : {t u : CType} → Pointer t ≡ Pointer u → t ≡ u
target_is e = cc

-- where a premise may fail, and the evaluation goes on
guarded_then : {A B : Type 0} {tac : Tac} {worth : ℕ} {Stands : Stand B} {start : State} {n lag slack : ℕ} (next : A → Eval B) (outcome : Outcome A) → Guards outcome
    → ((value : A) (s : S.State) → outcome ≡ Then value s → Does tac worth start n lag slack Stands (next value s)) → Does tac worth start n lag slack Stands (continue_with next outcome)
guarded_then next _ (goes value s) rest = rest value s refl
guarded_then next _ (strays kind here s) rest = stray kind here s

-- the spot behind one new expression
abbrev pub further_spot : Spot → Spot
further_spot spot = behind (with_expression spot)

module _ (points : List Op) where
  -- the point that moves, and what the pointers come to
  pub record Moving (from last : Spot) (target : CType) (is_minus : Bool) (number : Tree) (old new : Lowered) : Type 0 where
    pub move : HasOp points (suc from.at) (O.Move (expression (further_spot from)) (expression from) target is_minus number)
    pub last_is : last ≡ further_spot (further_spot from)
    pub old_is : old ≡ AsPointer (expression from) target
    pub new_is : new ≡ AsPointer (expression (further_spot from)) target

  moving : (from mid last : Spot) (register : Register) (target own : CType) (is_minus : Bool) (number : Tree) (old new : Lowered) → mid ≡ further_spot from → old ≡ AsPointer (expression from) own → old ≡ AsPointer register target
      → MovesPointer points register target is_minus number mid last new → Moving from last own is_minus number old new
  moving from mid last register target own is_minus number old new next is is' code =
      let parts = pointer_parts (sym is' ∙ is) in
      record {
        move = subst (λ r. HasOp points (suc from.at) (O.Move (expression (further_spot from)) r own is_minus number)) parts.0
            (subst (λ u. HasOp points (suc from.at) (O.Move (expression (further_spot from)) register u is_minus number)) parts.1
            (subst (λ (spot : Spot). HasOp points spot.at (O.Move (expression spot) register target is_minus number)) next code.0));
        last_is = code.1 ∙ ap further_spot next;
        old_is = is;
        new_is = code.2 ∙ ap (λ (spot : Spot). AsPointer (expression spot) target) next ∙ ap (AsPointer (expression (further_spot from))) parts.1;
      }

  -- the point that reads a local
  reads_pointer : (local : Local) (is_object : Bool) (own target : CType) (from mid : Spot) (old : Lowered) → own ≡ Pointer target → ReadsLocal points (record { local = local; is_object = is_object; c_type = own }) from mid old
      → HasOp points from.at (O.Copy (expression from) (R.Local local)) × (mid ≡ further_spot from) × (old ≡ AsPointer (expression from) target)
  reads_pointer local is_object (Pointer t) target from mid old is code = (code.0, code.1, code.2 ∙ ap (AsPointer (expression from)) (target_is is))
  reads_pointer local is_object (Integer int_type) target from mid old is code = absurd (cc)
  reads_pointer local is_object Void target from mid old is code = absurd code
  reads_pointer local is_object (Array element count) target from mid old is code = absurd code
  reads_pointer local is_object (Struct tag) target from mid old is code = absurd code
  reads_pointer local is_object (Function result parameters) target from mid old is code = absurd code

  -- the point that reads an object
  loads_pointer : (own target : CType) (path : Path) (from mid : Spot) (old : Lowered) → own ≡ Pointer target → Loads points own path from mid old
      → HasOp points from.at (O.Load (expression from) own path) × (mid ≡ further_spot from) × (old ≡ AsPointer (expression from) target)
  loads_pointer (Pointer t) target path from mid old is code = (code.0, code.1, code.2 ∙ ap (AsPointer (expression from)) (target_is is))
  loads_pointer (Integer int_type) target path from mid old is code = absurd (cc)
  loads_pointer Void target path from mid old is code = absurd code
  loads_pointer (Array element count) target path from mid old is code = absurd code
  loads_pointer (Struct tag) target path from mid old is code = absurd code
  loads_pointer (Function result parameters) target path from mid old is code = absurd code

module _ (tac : Tac) (program : Program) (calls : Calls) (worth : ℕ) (points : List Op) (placement : Placement) (hidden : ℕ → Option V.Content) (frame : Frame) (scope : Scope)
    (runs : Runs tac program points frame) (well : IsWellTyped program) (keep : CallsKeep program calls) where
  abbrev around : Context
  around = context_of program scope

  -- behind a point that moves a pointer
  pub record Moved (start : State) (n left lag slack : ℕ) (from : Spot) (target : CType) (answer : Scalar) (further : M.Value) (s : S.State) (before : State) : Type 0 where
    pub passing : Passing tac worth start (with_written tac program points placement hidden frame scope runs (expression (further_spot from)) further before) n left lag slack
    pub there : At program placement hidden frame scope (further_spot (further_spot from)).at s (with_written tac program points placement hidden frame scope runs (expression (further_spot from)) further before)
    pub stands : ScalarStands program s.objects placement answer further
    pub has : HasType program s (Pointer target) answer

  -- a pointer that was read is moved, and the evaluation goes on
  pub then_moved : {B : Type 0} {Stands' : Stand B} {start : State} {n lag lag' slack slack' : ℕ} (between : ℕ) (here : Pos) (next : Scalar → Eval B) (from last : Spot) (target : CType) (is_minus : Bool) (number : Tree) (old new : Lowered) (z amount : _) (a : Scalar) (held : M.Value) (s : S.State) (state : State)
      → Moving points from last target is_minus number old new → Passing tac worth start state n s.units lag slack → At program placement hidden frame scope (suc from.at) s state → Sound around s
      → state.running.registers (expression from) ≡ Some held → ScalarStands program s.objects placement a held → HasType program s (Pointer target) a → is_complete program.structs target ≡ true
      → computes state.running.registers number ≡ Some z → (if is_minus then neg_ℤ z else z) ≡ amount → between + tree_nodes number < slack
      → ((answer : Scalar) (further : M.Value) → Moved start n s.units lag between from target answer further s state → Does tac worth start n lag' slack' Stands' (next answer s))
      → Does tac worth start n lag' slack' Stands' (continue_with next (added here a amount s))
  then_moved {B} {Stands'} {start} {n} {lag} {lag'} {slack} {slack'} between here next from last target is_minus number old new z amount a held s state code p h sound holds stands typed complete is amount_is less rest =
      guarded_then next (added here a amount s) (added_guards here a amount s) (λ answer after e.
      let both = added_is program well placement (scope_types scope) s sound state.objects h.stands.memory (surroundings program frame) refl here target a amount held answer after complete typed stands e in
      let has = ((added_keeps program well (scope_types scope) s sound here target a amount complete typed).gives answer after e).1 in
      let w = writes tac program worth points placement hidden frame scope runs between (O.Move (expression (further_spot from)) (expression from) target is_minus number) (expression (further_spot from)) both.further (suc from.at) s state p h code.move
      (rw (holds, both.alive, is, amount_is, both.moves) refl) tt less in
      subst (λ u. Does tac worth start n lag' slack' Stands' (next answer u)) (sym both.same)
      (rest answer both.further (record { passing = w.passing; there = w.there; stands = both.stands; has = subst (λ u. HasType program u (Pointer target) answer) both.same has })))

  -- behind the code that steps a pointer
  pub record Stepped (mode : Mode) (from to : Spot) (old new : Lowered) (a c : Scalar) (s' : S.State) (before after : State) : Type 0 where
    pub there : At program placement hidden frame scope to.at s' after
    pub kept : KeepsBefore from.counts before.running.registers after.running.registers
    pub old_stands : LoweredStands program mode frame placement s'.objects after.running.registers old a
    pub new_stands : LoweredStands program mode frame placement s'.objects after.running.registers new c

  -- a pointer in a local is read, moved and written, and the evaluation goes on
  pub then_stepped_local : {B : Type 0} {Stands' : Stand B} {start : State} {n lag lag' slack slack' : ℕ} (between : ℕ) (here : Pos) (further : Scalar → Outcome Scalar → Outcome B) (mode : Mode) (home : Home) (locals_number : ℕ) (from to : Spot) (target t : CType) (is_minus : Bool) (number : Tree)
      (old new : Lowered) (z amount : _) (s : S.State) (state : State)
      → StepsLocal points home is_minus number from to old new → Passing tac worth start state n s.units lag slack → At program placement hidden frame scope from.at s state → Sound around s
      → home.is_object ≡ false → IsHome scope s.locals home locals_number → home.c_type ≡ Pointer target → is_complete program.structs target ≡ true → IsElement program s (Pointer target) (object_place (LocalObject locals_number) home.c_type)
      → computes state.running.registers number ≡ Some z → TreeNamed from.counts number → (if is_minus then neg_ℤ z else z) ≡ amount → between + tree_nodes number + 3 ≤ slack
      → ((a c : Scalar) (s' : S.State) (after : State) → Passing tac worth start after n s'.units lag between → Stepped mode from to old new a c s' state after → Does tac worth start n lag' slack' Stands' (further a (Then c s')))
      → Does tac worth start n lag' slack' Stands' (continue_with (λ a. λ u. continue_with (λ c. λ v. further a (write (around_of program) here (object_place (LocalObject locals_number) home.c_type) c v)) (added here a amount u)) (read (around_of program) here (object_place (LocalObject locals_number) home.c_type) s))
  then_stepped_local {B} {Stands'} {start} {n} {lag} {lag'} {slack} {slack'} between here further mode home locals_number from to target t is_minus number old new z amount s state code p h sound own in_scope is_pointer complete element is named amount_is less rest =
      let place = object_place (LocalObject locals_number) home.c_type in
      let reads = reads_pointer points home.local home.is_object home.c_type target from code.0 old is_pointer code.4 in
      let m = moving points from code.0 code.1 code.2 code.3 target is_minus number old new reads.1 reads.2 code.5 code.6 in
      let last = further_spot (further_spot from) in
      let last_code : Writes points (R.Local home.local) (AsPointer (expression (further_spot from)) target) last to =
      subst (λ l. Writes points (R.Local home.local) l last to) m.new_is (subst (λ spot. Writes points (R.Local home.local) new spot to) m.last_is code.7) in
      then_own tac program calls worth points placement hidden frame scope runs well keep here (λ a. λ u. continue_with (λ c. λ v. further a (write (around_of program) here place c v)) (added here a amount u)) from.at home locals_number (Pointer target) s state h sound own in_scope refl element
      (λ a value holds stands h1 keeps has.
      let s1 = own_read s in
      let w = writes tac program worth points placement hidden frame scope runs (between + tree_nodes number + 2) (O.Copy (expression from) (R.Local home.local)) (expression from) value from.at s1 state p h1 reads.0 (rw holds refl) tt (omega arith) in
      let state1 = with_written tac program points placement hidden frame scope runs (expression from) value state in
      let kept1 : KeepsNamed from.counts state.running.registers state1.running.registers = kept_named from.counts (expression from) (Some value) state.running.registers (omega arith) tt in
      then_moved (between + 1) here (λ c. λ v. further a (write (around_of program) here place c v)) from code.1 target is_minus number old new z amount a value s1 state1 m w.passing w.there keeps.sound
      (written_there (expression from) (Some value) state.running.registers) stands has complete (tree_same (IsNamed from.counts) state.running.registers state1.running.registers kept1 number named ∙ is) amount_is (omega arith) (λ c moved_value moved.
      let state2 = with_written tac program points placement hidden frame scope runs (expression (further_spot from)) moved_value state1 in
      let held = own_at tac program points placement hidden frame scope runs last.at home locals_number s1 state2 own in_scope moved.there in
      let lives = own_lives tac program points placement hidden frame scope runs home locals_number s1 state2.running.registers c held in
      let there2 : state2.running.registers (expression (further_spot from)) ≡ Some moved_value = written_there (expression (further_spot from)) (Some moved_value) state1.running.registers in
      let l = writes_local tac program calls worth points placement hidden frame scope runs well keep between (O.Copy (R.Local home.local) (expression (further_spot from))) last.at home locals_number c moved_value s1 state2 moved.passing moved.there last_code.0 (rw there2 refl) own in_scope moved.stands (omega arith) in
      let after = with_written tac program points placement hidden frame scope runs (R.Local home.local) moved_value state2 in
      let s2 = local_holds locals_number c s1 in
      let kept2 : KeepsBefore from.counts state1.running.registers state2.running.registers = kept_write from.counts (expression (further_spot from)) (Some moved_value) state1.running.registers (omega arith) in
      let kept3 : KeepsBefore last.counts state2.running.registers after.running.registers = kept_write last.counts (R.Local home.local) (Some moved_value) state2.running.registers tt in
      let first : after.running.registers (expression from) ≡ Some value =
      kept3 (expression from) (omega arith) ∙ kept_write (further_spot from).counts (expression (further_spot from)) (Some moved_value) state1.running.registers (omega arith) (expression from) (omega arith) ∙ written_there (expression from) (Some value) state.running.registers in
      subst (λ outcome. Does tac worth start n lag' slack' Stands' (further a outcome)) (sym (local_write program here home locals_number held.held c s1 held.content))
      (rest a c s2 after l.passing (record {
        there = subst (λ (spot : Spot). At program placement hidden frame scope spot.at s2 after) (sym last_code.1) l.there;
        kept = keeps_then from.counts state.running.registers state1.running.registers after.running.registers (named_before_keeps from.counts state.running.registers state1.running.registers kept1)
            (keeps_then from.counts state1.running.registers state2.running.registers after.running.registers kept2 (kept_write from.counts (R.Local home.local) (Some moved_value) state2.running.registers tt));
        old_stands = subst (λ x. LoweredStands program mode frame placement s2.objects after.running.registers x a) (sym m.old_is) (value, first, value_lasts program placement s1.objects s2.objects lives a value stands);
        new_stands = subst (λ x. LoweredStands program mode frame placement s2.objects after.running.registers x c) (sym m.new_is)
            (moved_value, (kept3 (expression (further_spot from)) (omega arith) ∙ there2), value_lasts program placement s1.objects s2.objects lives c moved_value moved.stands);
      }))))

  -- a pointer in memory is read, moved and written, and the evaluation goes on
  pub then_stepped_object : {B : Type 0} {Stands' : Stand B} {start : State} {n lag lag' slack slack' : ℕ} (between : ℕ) (here : Pos) (further : Scalar → Outcome Scalar → Outcome B) (mode : Mode) (from to : Spot) (path : Path) (own target : CType) (place : Place) (is_minus : Bool) (number : Tree)
      (old new : Lowered) (z amount : _) (s : S.State) (state : State)
      → StepsObject points path own is_minus number from to old new → ((a : Scalar) (u : S.State) → further a (undefined Ub.U06 here u) ≡ undefined Ub.U06 here u)
      → Passing tac worth start state n s.units lag slack → At program placement hidden frame scope from.at s state → Sound around s
      → PathStands program frame placement state.running.registers path own place → PathNamed from.counts path → own ≡ Pointer target → is_complete program.structs target ≡ true → IsElement program s (Pointer target) place
      → computes state.running.registers number ≡ Some z → TreeNamed from.counts number → (if is_minus then neg_ℤ z else z) ≡ amount → between + 2 * path_cost path + tree_nodes number + 6 ≤ slack
      → ((a c : Scalar) (s' : S.State) (after : State) → Passing tac worth start after n s'.units lag between → Stepped mode from to old new a c s' state after → Does tac worth start n lag' slack' Stands' (further a (Then c s')))
      → Does tac worth start n lag' slack' Stands' (continue_with (λ a. λ u. continue_with (λ c. λ v. further a (write (around_of program) here place c v)) (added here a amount u)) (read (around_of program) here place s))
  then_stepped_object {B} {Stands'} {start} {n} {lag} {lag'} {slack} {slack'} between here further mode from to path own target place is_minus number old new z amount s state code stopped p h sound stands path_named own_is complete element is named amount_is less rest =
      let reads = loads_pointer points own target path from code.0 old own_is code.4 in
      let m = moving points from code.0 code.1 code.2 code.3 target is_minus number old new reads.1 reads.2 code.5 code.6 in
      let last = further_spot (further_spot from) in
      let last_code : Stores points false path own new last to new = subst (λ spot. Stores points false path own new spot to new) m.last_is code.7 in
      let one = grows_then (expression_grows from) (behind_grows (with_expression from)) in
      let grows = grows_then one (grows_then (expression_grows (further_spot from)) (behind_grows (with_expression (further_spot from)))) in
      then_read tac program worth points placement hidden frame scope runs well (between + path_cost path + tree_nodes number + 5) here (λ a. λ u. continue_with (λ c. λ v. further a (write (around_of program) here place c v)) (added here a amount u)) (expression from) from.at (Pointer target) own path place s state p h sound stands own_is refl element reads.0 tt (omega (arith, less))
      (λ object a value r.
      let s1 = was_read place.name s in
      let state1 = with_read (expression from) value object state in
      let kept1 : KeepsNamed from.counts state.running.registers state1.running.registers = kept_named from.counts (expression from) (Some value) state.running.registers (omega arith) tt in
      then_moved (between + path_cost path + 4) here (λ c. λ v. further a (write (around_of program) here place c v)) from code.1 target is_minus number old new z amount a value s1 state1 m r.passing r.there r.keeps.sound
      (written_there (expression from) (Some value) state.running.registers) r.stands r.has complete (tree_same (IsNamed from.counts) state.running.registers state1.running.registers kept1 number named ∙ is) amount_is (omega arith) (λ c moved_value moved.
      let state2 = with_written tac program points placement hidden frame scope runs (expression (further_spot from)) moved_value state1 in
      let there2 : state2.running.registers (expression (further_spot from)) ≡ Some moved_value = written_there (expression (further_spot from)) (Some moved_value) state1.running.registers in
      let kept2 : KeepsNamed from.counts state1.running.registers state2.running.registers = kept_named from.counts (expression (further_spot from)) (Some moved_value) state1.running.registers (omega arith) tt in
      then_store tac program calls worth points placement hidden frame scope runs well keep between here (further a) false mode last to path own (Pointer target) place new new c s1 state2 last_code (stopped a s1) moved.passing moved.there r.keeps.sound
      (path_keeps program frame placement from.counts state1.running.registers state2.running.registers kept2 path own place path_named (path_keeps program frame placement from.counts state.running.registers state1.running.registers kept1 path own place path_named stands))
      (lowered_later grows (AsObject path own) path_named) own_is refl (element_lasts program r.keeps.later (Pointer target) place element)
      (subst (λ x. LoweredStands program Kept frame placement s1.objects state2.running.registers x c) (sym m.new_is) (moved_value, there2, moved.stands)) moved.has
      (let laid = ap laid_by m.new_is in omega (arith, laid)) (λ s2 after p2 stored keeps2.
      rest a c s2 after p2 (record {
        there = stored.there;
        kept = keeps_then from.counts state.running.registers state1.running.registers after.running.registers (named_before_keeps from.counts state.running.registers state1.running.registers kept1)
            (keeps_then from.counts state1.running.registers state2.running.registers after.running.registers (named_before_keeps from.counts state1.running.registers state2.running.registers kept2)
            (keeps_fewer state2.running.registers after.running.registers grows (named_before_keeps last.counts state2.running.registers after.running.registers stored.named)));
        old_stands = subst (λ x. LoweredStands program mode frame placement s2.objects after.running.registers x a) (sym m.old_is) (
          value,
          (stored.named (expression from) (omega arith) ∙ kept_write (further_spot from).counts (expression (further_spot from)) (Some moved_value) state1.running.registers (omega arith) (expression from) (omega arith)
              ∙ written_there (expression from) (Some value) state.running.registers),
          value_later program placement s1 s2 keeps2.later (Pointer target) a value refl r.has r.stands,
        );
        new_stands = stored.stands;
      }))))
