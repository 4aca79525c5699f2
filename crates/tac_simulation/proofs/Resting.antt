-- A pure operand's code makes no step, so that registers keep what they hold; and trees that are kept where more code follows.
use Rattle.std.proofs.Common.{◌≡◌, ℕ, ◌+◌, ◌*◌, ◌≤◌, Bool, true, false, List, Option, Some, ℤ, refl, sym, ap, ◌∙◌, subst, arith}
use Rattle.std.proofs.lemmas.Bool.{true≢false}
use Rattle.c_typed.specs.Types.{CType}
use Rattle.c_typed.specs.Typed.{Value, Program}
use Rattle.c_typed.specs.Expressions.{type_of}
use Rattle.c_typed.specs.Programs.{IsWellTyped}
use Rattle.c_typed.specs.Sizes.{makes, is_storable}
use Rattle.ref_semantics.specs.Values as V
use Rattle.ref_semantics.specs.Values.{Scalar}
use Rattle.ref_semantics.specs.Store as S
use Rattle.ref_semantics.specs.Store.{Outcome, Eval, continue_with}
use Rattle.ref_semantics.specs.Meaning.{Calls, value}
use Rattle.ref_semantics.specs.First.{around_of}
use Rattle.ref_semantics.specs.Sound.{HasType}
use Rattle.ref_semantics.specs.Keeping.{Keeps, CallsKeep}
use Rattle.ref_semantics.proofs.ValuesKeep.{value_keeps}
use Rattle.tac_ir.specs.Code.{Op, Tac, Tree}
use Rattle.tac_ir.specs.Code as O
use Rattle.tac_ir.specs.Values.{Number}
use Rattle.tac_ir.specs.Trees.{Registers, computes, integer_in, tree_nodes}
use Rattle.tac_ir.specs.States.{State, write}
use Rattle.tac_ir.specs.Meaning.{execute}
use Rattle.tac_build.specs.Homes.{Scope, is_pure}
use Rattle.tac_build.specs.Spots.{Spot, Lowered, Mode, temporary}
use Rattle.tac_build.specs.Code as C
use Rattle.tac_build.specs.Code.{ValueCode}
use Rattle.tac_build.specs.Forms.{scope_types, context_of}
use Rattle.tac_simulation.specs.Standing.{Placement, Frame, KeepsBefore, At, surroundings}
use Rattle.tac_simulation.proofs.Paths.{Stand, Passage as Passing, Passes, Does, comes, stops, stepped, eased, eases, allows}
use Rattle.tac_simulation.proofs.Spotting.{Runs, written_there, kept_same, kept_write, before_at, around_is, with_written, at_written}
use Rattle.tac_simulation.proofs.Evaluating
use Rattle.tac_simulation.proofs.Evaluating.{ValueDoes, laid_by, left_for, value_units}

module _ (tac : Tac) (program : Program) (calls : Calls) (worth : ℕ) (points : List Op) (placement : Placement) (hidden : ℕ → Option V.Content) (frame : Frame) (scope : Scope)
    (runs : Runs tac program points frame) (well : IsWellTyped program) (keep : CallsKeep program calls) where
  -- it comes to a value, and where the expression is pure, registers hold what they held
  abbrev pub RestsAt : Bool → Mode → Spot → Spot → Lowered → Registers → Stand Scalar
  RestsAt pure mode from to lowered before scalar s state =
      Evaluating.ComesToValue tac program calls worth points placement hidden frame scope mode from to lowered before scalar s state × (pure ≡ true → state.running.registers ≡ before)

  abbrev pub ValueRestsIf : Bool → Value → Type 0
  ValueRestsIf pure tree =
      (mode : Mode) (from to : Spot) (lowered : Lowered) (t : CType) → ValueCode program points scope mode tree from to lowered → type_of (context_of program scope) tree ≡ Some t → makes (is_storable program.structs) tree ≡ true
      → (start : State) (n lag slack : ℕ) (s : S.State) (state : State) → Passing tac worth start state n s.units lag slack → Evaluating.AtSpot tac program calls worth points placement hidden frame scope from.at s state
      → Does tac worth start n (lag + value_units tree) (slack + (laid_by lowered + left_for tree)) (RestsAt pure mode from to lowered state.running.registers) (value (around_of program) calls tree s)

  -- what is shown of operands
  abbrev pub ValueRests : Value → Type 0
  ValueRests tree = ValueRestsIf (is_pure scope tree) tree

  -- where it isn't pure, nothing more is asked
  pub rests_of : (tree : Value) → ValueDoes tac program calls worth points placement hidden frame scope tree → (is_pure scope tree ≡ true → ValueRestsIf true tree) → ValueRests tree
  rests_of tree follows pure = by (is_pure scope tree) refl
    where
      by : (b : Bool) → is_pure scope tree ≡ b → ValueRestsIf b tree
      by true e = pure e
      by false e = λ mode from to lowered t code typed small start n lag slack s state p h.
          allows (follows mode from to lowered t code typed small start n lag slack s state p h) (λ scalar s' state' came. (came, λ never. absurd (true≢false (sym never))))

  -- an operand comes to its value, and the evaluation goes on
  pub then_rests : {B : Type 0} {Stands : Stand B} {start : State} {n lag lag' slack slack' : ℕ} (tree : Value) → ValueRests tree → (next : Scalar → Eval B)
      → (mode : Mode) (from to : Spot) (lowered : Lowered) (t : CType) → ValueCode program points scope mode tree from to lowered → type_of (context_of program scope) tree ≡ Some t → makes (is_storable program.structs) tree ≡ true
      → (s : S.State) (state : State) → Passing tac worth start state n s.units lag slack → Evaluating.AtSpot tac program calls worth points placement hidden frame scope from.at s state → lag + value_units tree ≤ lag'
      → ((scalar : Scalar) (s' : S.State) (state' : State) → Passing tac worth start state' n s'.units (lag + value_units tree) (slack + (laid_by lowered + left_for tree))
      → RestsAt (is_pure scope tree) mode from to lowered state.running.registers scalar s' state' → Keeps (context_of program scope) s s' → HasType program s' t scalar
      → Does tac worth start n lag' slack' Stands (next scalar s'))
      → Does tac worth start n lag' slack' Stands (continue_with next (value (around_of program) calls tree s))
  then_rests {B} {Stands} {start} {n} {lag} {lag'} {slack} {slack'} tree does next mode from to lowered t code typed small s state p at more rest =
      by (value (around_of program) calls tree s) refl (does mode from to lowered t code typed small start n lag slack s state p at)
    where
      by : (outcome : Outcome Scalar) → value (around_of program) calls tree s ≡ outcome
          → Does tac worth start n (lag + value_units tree) (slack + (laid_by lowered + left_for tree)) (RestsAt (is_pure scope tree) mode from to lowered state.running.registers) outcome
          → Does tac worth start n lag' slack' Stands (continue_with next outcome)
      by _ e (comes scalar s' state' p' comes_to) =
          let keeps = value_keeps program well calls keep (scope_types scope) tree small t typed s at.sound scalar s' e in
          rest scalar s' state' p' comes_to keeps.0 keeps.1
      by _ e (stops answer s' a) = let same : Does tac worth start n (lag + value_units tree) slack' Stands (S.Stopped answer s') = stops answer s' a in eases same more (omega arith)

  -- A tree is kept: what it comes to, and what has changed.
  pub record KeptTree (flag : Bool) (from to : Spot) (kept : Tree) (z : ℤ) (start : State) (n units lag slack : ℕ) (s : S.State) (state : State) : Type 0 where
    pub after : State
    pub path : Passing tac worth start after n units lag slack
    pub there : At program placement hidden frame scope to.at s after
    pub keeps : KeepsBefore from.counts state.running.registers after.running.registers
    pub computed : computes after.running.registers kept ≡ Some z
    pub rests : flag ≡ false → after.running.registers ≡ state.running.registers

  -- a tree is kept in a temporary where more code follows, and is the tree itself elsewhere
  pub keeps_tree : {start : State} {n units lag : ℕ} (base : ℕ) (flag : Bool) (tree kept : Tree) (z : ℤ) (from to : Spot) (s : S.State) (state : State) → C.KeepsTree points flag tree from to kept
      → Passing tac worth start state n units lag (base + (2 * tree_nodes tree + 5)) → At program placement hidden frame scope from.at s state → computes state.running.registers tree ≡ Some z
      → KeptTree flag from to kept z start n units lag (base + (2 * tree_nodes kept + 2)) s state
  keeps_tree base false tree kept z from to s state code p h is =
      let same : tree_nodes kept ≡ tree_nodes tree = ap tree_nodes code.1 in
      record {
        after = state;
        path = eased p (omega arith) (omega (arith, same));
        there = subst (λ (spot : Spot). At program placement hidden frame scope spot.at s state) (sym code.0) h;
        keeps = kept_same from.counts state.running.registers;
        computed = subst (λ k. computes state.running.registers k ≡ Some z) (sym code.1) is;
        rests = λ e. refl;
      }
  keeps_tree base true tree kept z from to s state code p h is =
      let one : tree_nodes kept ≡ 1 = ap tree_nodes code.2 in
      let does : execute tac (surroundings program frame) (O.Assign (temporary from) tree) state ≡ write (temporary from) (Number z) state = rw is refl in
      let passes : Passes tac (O.Assign (temporary from) tree) state (with_written tac program points placement hidden frame scope runs (temporary from) (Number z) state) = record {
        before = before_at tac program points placement hidden frame scope runs from.at (O.Assign (temporary from) tree) s state code.0 h;
        does = ap (λ around. execute tac around (O.Assign (temporary from) tree) state) (around_is tac program points placement hidden frame scope runs from.at s state h) ∙ does;
      } in
      record {
        after = with_written tac program points placement hidden frame scope runs (temporary from) (Number z) state;
        path = stepped p passes (omega arith) (omega (arith, one));
        there = subst (λ there. At program placement hidden frame scope there s (with_written tac program points placement hidden frame scope runs (temporary from) (Number z) state)) (sym (ap (λ (spot : Spot). spot.at) code.1))
            (at_written tac program points placement hidden frame scope runs from.at (temporary from) (Number z) s state tt h);
        keeps = kept_write from.counts (temporary from) (Some (Number z)) state.running.registers (omega arith);
        computed = subst (λ k. computes (with_written tac program points placement hidden frame scope runs (temporary from) (Number z) state).running.registers k ≡ Some z) (sym code.2)
            (ap integer_in (written_there (temporary from) (Some (Number z)) state.running.registers));
        rests = λ e. absurd (true≢false e);
      }
