-- Pointers in registers: an operand comes to one, it is kept while other code runs, and a point gives what an operator makes of it.
use Rattle.std.proofs.Common.{◌≡◌, ℕ, ◌+◌, ◌≤◌, ◌<◌, Bool, true, if◌then◌else◌, List, Option, Some, ℤ, neg_ℤ, refl, sym, ap, ◌∙◌, subst, arith}
use Rattle.run_theory.specs.declared.place.Pos.{Pos}
use Rattle.c_num.specs.declared.IntType.{IntType}
use Rattle.c_typed.specs.Types.{CType, Pointer}
use Rattle.c_typed.specs.Layouts.{is_complete}
use Rattle.c_typed.specs.Typed.{Value, Program}
use Rattle.c_typed.specs.Expressions.{type_of}
use Rattle.c_typed.specs.Programs.{IsWellTyped}
use Rattle.c_typed.specs.Sizes.{makes, is_storable}
use Rattle.ref_semantics.specs.Values as V
use Rattle.ref_semantics.specs.Values.{Scalar, IntegerValue}
use Rattle.ref_semantics.specs.Store as S
use Rattle.ref_semantics.specs.Store.{Outcome, Then, Eval, continue_with}
use Rattle.ref_semantics.specs.Pointers.{added}
use Rattle.ref_semantics.specs.Meaning.{Calls, value}
use Rattle.ref_semantics.specs.First.{around_of}
use Rattle.ref_semantics.specs.Sound.{HasType, PointsTo, Sound}
use Rattle.ref_semantics.specs.Keeping.{Keeps, CallsKeep}
use Rattle.ref_semantics.proofs.Lasting.{type_lasts, keeps_trans}
use Rattle.tac_ir.specs.declared.program.Counts.{Counts}
use Rattle.tac_ir.specs.declared.register.Register.{Register}
use Rattle.tac_ir.specs.Code.{Op, Tac, Tree, Held}
use Rattle.tac_ir.specs.Code as O
use Rattle.tac_ir.specs.Values as M
use Rattle.tac_ir.specs.Trees.{Registers, integer_in, computes, tree_nodes}
use Rattle.tac_ir.specs.Costs.{more_cost}
use Rattle.tac_ir.specs.States.{State, write}
use Rattle.tac_ir.specs.Meaning.{execute}
use Rattle.tac_build.specs.Homes.{Scope}
use Rattle.tac_build.specs.Spots.{Spot, temporary, expression, Lowered, AsInteger, AsPointer, Mode, Kept}
use Rattle.tac_build.specs.Code.{KeepsTree as KeepsTree, GivesInteger, GivesPointer, MovesPointer, ValueCode}
use Rattle.tac_simulation.specs.Standing.{Placement, Frame, ScalarStands, KeepsBefore, At, surroundings}
use Rattle.tac_build.specs.Forms.{IsBefore, scope_types, context_of, SpotGrows}
use Rattle.tac_simulation.proofs.Paths.{Stand, Passage as Passing, Passes, Does, eased, stepped}
use Rattle.tac_simulation.proofs.Spotting.{Runs, kept_write, written_there, before_at, with_written, at_written}
use Rattle.tac_build.proofs.Forms.{value_form}
use Rattle.tac_build.proofs.Named.{value_named}
use Rattle.tac_simulation.proofs.Unchanged.{keeps_fewer, keeps_then}
use Rattle.tac_simulation.proofs.Lasting.{value_later}
use Rattle.tac_simulation.proofs.Adding.{added_is}
use Rattle.tac_simulation.proofs.Guarding.{guarded_does, from_same, added_guards}
use Rattle.tac_simulation.proofs.Combining.{puts, then_value}
use Rattle.tac_simulation.proofs.Evaluating

-- a register holds what stands for a pointer to a type
pub record HasPointer (program : Program) (placement : Placement) (register : Register) (target : CType) (scalar : Scalar) (s : S.State) (state : State) : Type 0 where
  pub held : M.Value
  pub holds : state.running.registers register ≡ Some held
  pub stands : ScalarStands program s.objects placement scalar held
  pub typed : PointsTo program s target scalar

-- it is kept while other code runs
pub pointer_lasts : (program : Program) (placement : Placement) (locals : List CType) (counts : Counts) (register : Register) (target : CType) (scalar : Scalar) (s s' : S.State) (state state' : State)
    → Keeps (record { program = program; locals = locals }) s s' → KeepsBefore counts state.running.registers state'.running.registers → IsBefore counts register
    → HasPointer program placement register target scalar s state → HasPointer program placement register target scalar s' state'
pointer_lasts program placement locals counts register target scalar s s' state state' keeps kept named has = record {
  held = has.held;
  holds = kept register named ∙ has.holds;
  stands = value_later program placement s s' keeps.later (Pointer target) scalar has.held refl has.typed has.stands;
  typed = type_lasts program keeps.later (Pointer target) scalar has.typed;
}

module _ (tac : Tac) (program : Program) (calls : Calls) (worth : ℕ) (points : List Op) (placement : Placement) (hidden : ℕ → Option V.Content) (frame : Frame) (scope : Scope)
    (runs : Runs tac program points frame) (well : IsWellTyped program) (keep : CallsKeep program calls) where
  -- a point gives an integer
  pub puts_integer : {start : State} {n lag lag' slack slack' : ℕ} (op : Register → Op) (own : IntType) (z : ℤ) (mode : Mode) (from mid to : Spot) (lowered : Lowered) (before : Registers) (answer : Scalar) (s : S.State) (state : State)
      → Passing tac worth start state n s.units lag slack → At program placement hidden frame scope mid.at s state → KeepsBefore from.counts before state.running.registers → SpotGrows from mid
      → GivesInteger points op own mid to lowered → execute tac (surroundings program frame) (op (temporary mid)) state ≡ write (temporary mid) (M.Number z) state → answer ≡ IntegerValue z
      → lag ≤ lag' → slack' + more_cost (op (temporary mid)) < slack
      → Does tac worth start n lag' slack' (Evaluating.ComesToValue tac program calls worth points placement hidden frame scope mode from to lowered before) (Then answer s)
  puts_integer op own z mode from mid to lowered before answer s state p at kept grows code does is more less =
      puts tac program calls worth points placement hidden frame scope runs well keep (op (temporary mid)) (temporary mid) (M.Number z) mode from mid to lowered (AsInteger own (Held (temporary mid))) before answer s state p at kept
      code.0 does grows.temporaries tt (ap (λ (spot : Spot). spot.at) code.1) code.2 (z, is, ap integer_in (written_there (temporary mid) (Some (M.Number z)) state.running.registers)) more less

  -- a point gives a pointer
  pub puts_pointer : {start : State} {n lag lag' slack slack' : ℕ} (op : Register → Op) (target : CType) (held : M.Value) (mode : Mode) (from mid to : Spot) (lowered : Lowered) (before : Registers) (answer : Scalar) (s : S.State) (state : State)
      → Passing tac worth start state n s.units lag slack → At program placement hidden frame scope mid.at s state → KeepsBefore from.counts before state.running.registers → SpotGrows from mid
      → GivesPointer points op target mid to lowered → execute tac (surroundings program frame) (op (expression mid)) state ≡ write (expression mid) held state → ScalarStands program s.objects placement answer held
      → lag ≤ lag' → slack' + more_cost (op (expression mid)) < slack
      → Does tac worth start n lag' slack' (Evaluating.ComesToValue tac program calls worth points placement hidden frame scope mode from to lowered before) (Then answer s)
  puts_pointer op target held mode from mid to lowered before answer s state p at kept grows code does stands more less =
      puts tac program calls worth points placement hidden frame scope runs well keep (op (expression mid)) (expression mid) held mode from mid to lowered (AsPointer (expression mid) target) before answer s state p at kept
      code.0 does grows.expressions tt (ap (λ (spot : Spot). spot.at) code.1) code.2 (held, written_there (expression mid) (Some held) state.running.registers, stands) more less

  -- an operand comes to a pointer
  pub then_pointer : {B : Type 0} {Stands : Stand B} {start : State} {n lag lag' slack slack' : ℕ} (tree : Value) → Evaluating.ValueDoes tac program calls worth points placement hidden frame scope tree → (next : Scalar → Eval B)
      → (from mid : Spot) (register : Register) (target : CType) (t : CType) → ValueCode program points scope Kept tree from mid (AsPointer register target) → type_of (context_of program scope) tree ≡ Some t
      → makes (is_storable program.structs) tree ≡ true
      → (s : S.State) (state : State) → Passing tac worth start state n s.units lag slack → Evaluating.AtSpot tac program calls worth points placement hidden frame scope from.at s state → lag + Evaluating.value_units tree ≤ lag'
      → ((scalar : Scalar) (s' : S.State) (state' : State) → Passing tac worth start state' n s'.units (lag + Evaluating.value_units tree) (slack + Evaluating.left_for tree)
      → Evaluating.Came tac program calls worth points placement hidden frame scope from mid state.running.registers s' state' → Keeps (context_of program scope) s s' → HasPointer program placement register target scalar s' state'
      → Does tac worth start n lag' slack' Stands (next scalar s'))
      → Does tac worth start n lag' slack' Stands (continue_with next (value (around_of program) calls tree s))
  then_pointer tree does next from mid register target t code typed small s state p at more rest =
      then_value tac program calls worth points placement hidden frame scope runs well keep tree does next Kept from mid (AsPointer register target) t code typed small s state p at more
      (λ scalar s' state' p' came keeps has.
      let is : t ≡ Pointer target = value_form program points scope tree Kept t from mid (AsPointer register target) typed code in
      rest scalar s' state' (eased p' (omega arith) (omega arith)) came.0 keeps (record { held = came.1.0; holds = came.1.1; stands = came.1.2; typed = subst (λ u. HasType program s' u scalar) is has }))

  -- two operands come to pointers
  pub then_pointers : {B : Type 0} {Stands : Stand B} {start : State} {n lag lag' slack slack' : ℕ} (left right : Value) → Evaluating.ValueDoes tac program calls worth points placement hidden frame scope left
      → Evaluating.ValueDoes tac program calls worth points placement hidden frame scope right → (next : Scalar → Scalar → Eval B)
      → (from mid next_spot : Spot) (a b : Register) (own other : CType) (t u : CType) → ValueCode program points scope Kept left from mid (AsPointer a own) → ValueCode program points scope Kept right mid next_spot (AsPointer b other)
      → type_of (context_of program scope) left ≡ Some t → type_of (context_of program scope) right ≡ Some u → makes (is_storable program.structs) left ≡ true → makes (is_storable program.structs) right ≡ true
      → (s : S.State) (state : State) → Passing tac worth start state n s.units lag slack → Evaluating.AtSpot tac program calls worth points placement hidden frame scope from.at s state
      → lag + Evaluating.value_units left + Evaluating.value_units right ≤ lag'
      → ((x y : Scalar) (s' : S.State) (state' : State) → Passing tac worth start state' n s'.units (lag + Evaluating.value_units left + Evaluating.value_units right) slack
      → Evaluating.Came tac program calls worth points placement hidden frame scope from next_spot state.running.registers s' state' → Keeps (context_of program scope) s s'
      → HasPointer program placement a own x s' state' → HasPointer program placement b other y s' state' → Does tac worth start n lag' slack' Stands (next x y s'))
      → Does tac worth start n lag' slack' Stands (continue_with (λ x. λ state. continue_with (next x) (value (around_of program) calls right state)) (value (around_of program) calls left s))
  then_pointers left right does does' next from mid next_spot a b own other t u code code' typed typed' small small' s state p at more rest =
      let first = value_named program points scope left Kept from mid (AsPointer a own) code in
      then_pointer left does (λ x. λ state. continue_with (next x) (value (around_of program) calls right state)) from mid a own t code typed small s state p at (omega (arith, more)) (λ x s' state' p' came keeps has.
      then_pointer right does' (next x) mid next_spot b other u code' typed' small' s' state' p' (record { stands = came.there; sound = keeps.sound }) (omega (arith, more)) (λ y s'' state'' p'' came' keeps' has'.
      rest x y s'' state'' (eased p'' (omega arith) (omega arith))
      (record { there = came'.there; kept = keeps_then from.counts state.running.registers state'.running.registers state''.running.registers came.kept (keeps_fewer state'.running.registers state''.running.registers first.grows came'.kept) })
      (keeps_trans keeps keeps') (pointer_lasts program placement (scope_types scope) mid.counts a own x s' s'' state' state'' keeps' came'.kept first.named has) has'))

  -- a register holds an integer while other code runs
  pub keeps_integer : {A : Type 0} {Stands : Stand A} {outcome : Outcome A} {start : State} {n lag lag' slack slack' : ℕ} (tree kept : Tree) (z : ℤ) (first mid : Spot) (s : S.State) (state : State) (left : ℕ)
      → Passing tac worth start state n s.units lag slack → Evaluating.AtSpot tac program calls worth points placement hidden frame scope first.at s state → KeepsTree points true tree first mid kept
      → computes state.running.registers tree ≡ Some z → left + tree_nodes tree < slack
      → ((state' : State) → Passing tac worth start state' n s.units lag left → Evaluating.AtSpot tac program calls worth points placement hidden frame scope mid.at s state'
      → KeepsBefore first.counts state.running.registers state'.running.registers → state'.running.registers (temporary first) ≡ Some (M.Number z) → Does tac worth start n lag' slack' Stands outcome)
      → Does tac worth start n lag' slack' Stands outcome
  keeps_integer {start = start} {n} {lag} {lag'} {slack} {slack'} tree kept z first mid s state left p at code is less rest =
      let written = with_written tac program points placement hidden frame scope runs (temporary first) (M.Number z) state in
      let passes : Passes tac (O.Assign (temporary first) tree) state (with_written tac program points placement hidden frame scope runs (temporary first) (M.Number z) state) = record {
        before = before_at tac program points placement hidden frame scope runs first.at (O.Assign (temporary first) tree) s state code.0 at.stands;
        does = rw is refl;
      } in
      rest written (stepped p passes (omega arith) less)
      (record {
        stands = subst (λ (spot : Spot). At program placement hidden frame scope spot.at s (with_written tac program points placement hidden frame scope runs (temporary first) (M.Number z) state)) (sym code.1)
            (at_written tac program points placement hidden frame scope runs first.at (temporary first) (M.Number z) s state tt at.stands);
        sound = at.sound;
      })
      (kept_write first.counts (temporary first) (Some (M.Number z)) state.running.registers (omega arith))
      (written_there (temporary first) (Some (M.Number z)) state.running.registers)

  -- a point moves a pointer
  pub moves_pointer : {start : State} {n lag lag' slack slack' : ℕ} (place : Pos) (is_minus : Bool) (register : Register) (target : CType) (tree : Tree) (z amount : ℤ) (mode : Mode) (from mid to : Spot) (lowered : Lowered) (before : Registers)
      (pointer : Scalar) (s : S.State) (state : State) → Passing tac worth start state n s.units lag slack → Evaluating.Came tac program calls worth points placement hidden frame scope from mid before s state
      → Sound (context_of program scope) s → SpotGrows from mid → MovesPointer points register target is_minus tree mid to lowered → is_complete program.structs target ≡ true
      → HasPointer program placement register target pointer s state → computes state.running.registers tree ≡ Some z → (if is_minus then neg_ℤ z else z) ≡ amount → lag ≤ lag' → slack' + tree_nodes tree < slack
      → Does tac worth start n lag' slack' (Evaluating.ComesToValue tac program calls worth points placement hidden frame scope mode from to lowered before) (added place pointer amount s)
  moves_pointer place is_minus register target tree z amount mode from mid to lowered before pointer s state p came sound grows code complete has is amount_is more less =
      guarded_does (added place pointer amount s) (added_guards place pointer amount s) (λ answer after e.
      let moved = added_is program well placement (scope_types scope) s sound state.objects came.there.stands.memory (surroundings program frame) refl place target pointer amount has.held answer after complete has.typed has.stands e in
      from_same answer s after moved.same
      (puts_pointer (λ to. O.Move to register target is_minus tree) target moved.further mode from mid to lowered before answer s state p came.there came.kept grows code
      (rw (has.holds, moved.alive, is, amount_is, moved.moves) refl) moved.stands more less))
