-- Points at which code goes on elsewhere, and trees that a temporary holds.
use Rattle.std.proofs.Common.{◌≡◌, ℕ, suc, ◌+◌, ◌*◌, ◌≤◌, ◌<◌, Bool, true, false, not, if◌then◌else◌, List, [], ◌∷◌, ◌++◌, Option, Some, ℤ, refl, sym, ap, ◌∙◌, subst, arith}
use Rattle.c_num.specs.declared.IntType.{IntType}
use Rattle.c_num.specs.Types.{is_value}
use Rattle.c_typed.specs.Values.{not_zero}
use Rattle.c_typed.specs.Typed.{Program}
use Rattle.ref_semantics.specs.Values as V
use Rattle.ref_semantics.specs.Store as S
use Rattle.tac_ir.specs.declared.register.Register.{Register}
use Rattle.tac_ir.specs.Code.{Op, Tac, Tree}
use Rattle.tac_ir.specs.Code as O
use Rattle.tac_ir.specs.Values as M
use Rattle.tac_ir.specs.Events.{Crossed}
use Rattle.tac_ir.specs.Costs.{more_cost}
use Rattle.tac_ir.specs.States.{State, write, go_to}
use Rattle.tac_ir.specs.Meaning.{execute}
use Rattle.tac_ir.specs.Trees.{Registers, with_register, computes, tree_nodes, is_zero, integer_in}
use Rattle.tac_ir.proofs.Seen.{seen_crossed}
use Rattle.tac_build.specs.Homes.{Scope}
use Rattle.tac_build.specs.Spots.{Spot, temporary}
use Rattle.tac_build.specs.Code.{HasOp, KeepsTree}
use Rattle.tac_build.specs.Forms.{IsBefore}
use Rattle.tac_simulation.specs.Standing.{Placement, Frame, At, KeepsBefore, surroundings}
use Rattle.tac_simulation.proofs.Paths.{Passage as Passing, Passes, stepped, eased}
use Rattle.tac_simulation.proofs.Spotting.{Runs, IsNoLocal, kept_write, kept_same, written_there, before_at, around_is, with_written, at_written}

-- the state at another point
abbrev pub gone : ℕ → State → State
gone at state = record state { running = record state.running { at = at }; trace = state.trace ++ Crossed state.running.at at ∷ []; paid = 0 }

-- a tree has a node
pub some_node : (tree : Tree) → 1 ≤ tree_nodes tree
some_node (O.Constant z) = omega arith
some_node (O.Held register) = omega arith
some_node (O.Convert int_type operand) = omega arith
some_node (O.Complement int_type operand) = omega arith
some_node (O.Not int_type operand) = omega arith
some_node (O.Arithmetic op int_type left right) = omega arith
some_node (O.Compare relation int_type left right) = omega arith

module _ (tac : Tac) (program : Program) (worth : ℕ) (points : List Op) (placement : Placement) (hidden : ℕ → Option V.Content) (frame : Frame) (scope : Scope) (runs : Runs tac program points frame) where
  pub at_gone : (at to : ℕ) (s : S.State) (t : State) → At program placement hidden frame scope at s t → At program placement hidden frame scope to s (gone to t)
  at_gone at to s t h = record {
    stands = record { input = h.stands.input; heap = h.stands.heap; trace = seen_crossed t.trace t.running.at to ∙ h.stands.trace; memory = h.stands.memory; placed = h.stands.placed; unchanged = h.stands.unchanged };
    homes = h.homes;
    own = record { there = h.own.there; in_scope = h.own.in_scope };
    point = refl;
    owner = h.owner;
    number = h.number;
    callers = h.callers;
    paid = refl;
  }

  -- behind a point that writes a value
  pub record Written (start : State) (n left lag slack : ℕ) (at : ℕ) (register : Register) (written : M.Value) (s : S.State) (before : State) : Type 0 where
    pub passing : Passing tac worth start (with_written tac program points placement hidden frame scope runs register written before) n left lag slack
    pub there : At program placement hidden frame scope (suc at) s (with_written tac program points placement hidden frame scope runs register written before)

  pub writes : {start : State} {n left lag slack : ℕ} (slack' : ℕ) (op : Op) (register : Register) (written : M.Value) (at : ℕ) (s : S.State) (state : State)
      → Passing tac worth start state n left lag slack → At program placement hidden frame scope at s state → HasOp points at op
      → execute tac (surroundings program frame) op state ≡ write register written state → IsNoLocal register → slack' + more_cost op < slack
      → Written start n left lag slack' at register written s state
  writes slack' op register written at s state p h has does new less =
      let passes : Passes tac op state (with_written tac program points placement hidden frame scope runs register written state) = record {
        before = before_at tac program points placement hidden frame scope runs at op s state has h;
        does = ap (λ around. execute tac around op state) (around_is tac program points placement hidden frame scope runs at s state h) ∙ does;
      } in
      record { passing = stepped p passes (omega arith) less; there = at_written tac program points placement hidden frame scope runs at register written s state new h }

  -- behind a point that goes elsewhere
  pub record Gone (start : State) (n left lag slack : ℕ) (to : ℕ) (s : S.State) (before : State) : Type 0 where
    pub passing : Passing tac worth start (gone to before) n left lag slack
    pub there : At program placement hidden frame scope to s (gone to before)

  pub goes : {start : State} {n left lag slack : ℕ} (slack' : ℕ) (op : Op) (to at : ℕ) (s : S.State) (state : State)
      → Passing tac worth start state n left lag slack → At program placement hidden frame scope at s state → HasOp points at op
      → execute tac (surroundings program frame) op state ≡ go_to to state → slack' + more_cost op < slack
      → Gone start n left lag slack' to s state
  goes slack' op to at s state p h has does less =
      let passes : Passes tac op state (gone to state) = record {
        before = before_at tac program points placement hidden frame scope runs at op s state has h;
        does = ap (λ around. execute tac around op state) (around_is tac program points placement hidden frame scope runs at s state h) ∙ does;
      } in
      record { passing = stepped p passes (omega arith) less; there = at_gone at to s state h }

  -- a jump
  pub jumps : {start : State} {n left lag slack : ℕ} (slack' : ℕ) (to at : ℕ) (s : S.State) (state : State) → Passing tac worth start state n left lag slack → At program placement hidden frame scope at s state
      → HasOp points at (O.Jump to) → slack' < slack → Gone start n left lag slack' to s state
  jumps slack' to at s state p h has less = goes slack' (O.Jump to) to at s state p h has refl (omega arith)

  -- a branch goes one way where its condition isn't 0, and the other where it is
  pub branches : {start : State} {n left lag slack : ℕ} (slack' : ℕ) (own : IntType) (tree : Tree) (holds fails at : ℕ) (z : ℤ) (test : Bool) (s : S.State) (state : State)
      → Passing tac worth start state n left lag slack → At program placement hidden frame scope at s state → HasOp points at (O.Branch own tree holds fails)
      → computes state.running.registers tree ≡ Some z → is_value own z ≡ true → not_zero z ≡ test → slack' + tree_nodes tree < slack
      → Gone start n left lag slack' (if test then holds else fails) s state
  branches slack' own tree holds fails at z test s state p h has is fits tests less =
      goes slack' (O.Branch own tree holds fails) (if test then holds else fails) at s state p h has (by (is_zero z) refl) less
    where
      by : (b : Bool) → is_zero z ≡ b → execute tac (surroundings program frame) (O.Branch own tree holds fails) state ≡ go_to (if test then holds else fails) state
      by true e = let off : test ≡ false = sym tests ∙ ap not e in rw (is, fits, e, off) refl
      by false e = let on : test ≡ true = sym tests ∙ ap not e in rw (is, fits, e, on) refl

  -- an integer comes to a register
  pub assigns : {start : State} {n left lag slack : ℕ} (slack' : ℕ) (register : Register) (tree : Tree) (at : ℕ) (z : ℤ) (s : S.State) (state : State)
      → Passing tac worth start state n left lag slack → At program placement hidden frame scope at s state → HasOp points at (O.Assign register tree)
      → computes state.running.registers tree ≡ Some z → IsNoLocal register → slack' + tree_nodes tree < slack
      → Written start n left lag slack' at register (M.Number z) s state
  assigns slack' register tree at z s state p h has is new less = writes slack' (O.Assign register tree) register (M.Number z) at s state p h has (rw is refl) new less

  -- A tree that is used later, where the code of the operand stands between: a temporary holds it, or it stands as it is.
  pub record Kept (follows : Bool) (start : State) (n left lag slack : ℕ) (from to : Spot) (kept : Tree) (z : ℤ) (s : S.State) (before : Registers) : Type 0 where
    pub state : State
    pub passing : Passing tac worth start state n left lag (slack + 2 * tree_nodes kept)
    pub there : At program placement hidden frame scope to.at s state
    pub keeps : KeepsBefore from.counts before state.running.registers
    pub computed : computes state.running.registers kept ≡ Some z
    pub held : follows ≡ true → (register : Register) × (kept ≡ O.Held register) × IsBefore to.counts register

  pub keeps_tree : (follows : Bool) {start : State} {n left lag : ℕ} (slack : ℕ) (from to : Spot) (tree kept : Tree) (z : ℤ) (s : S.State) (state : State)
      → Passing tac worth start state n left lag (slack + 2 + 2 * tree_nodes tree) → At program placement hidden frame scope from.at s state → KeepsTree points follows tree from to kept
      → computes state.running.registers tree ≡ Some z → Kept follows start n left lag slack from to kept z s state.running.registers
  keeps_tree true slack from to tree kept z s state p h code is =
      let some = some_node tree in
      let nodes : tree_nodes kept ≡ 1 = ap tree_nodes code.2 in
      let w = assigns (slack + 2 * tree_nodes kept) (temporary from) tree from.at z s state p h code.0 is tt (omega (arith, some, nodes)) in
      record {
        state = with_written tac program points placement hidden frame scope runs (temporary from) (M.Number z) state;
        passing = w.passing;
        there = subst (λ (spot : Spot). At program placement hidden frame scope spot.at s (with_written tac program points placement hidden frame scope runs (temporary from) (M.Number z) state)) (sym code.1) w.there;
        keeps = kept_write from.counts (temporary from) (Some (M.Number z)) state.running.registers (omega arith);
        computed = ap (computes (with_register (temporary from) (Some (M.Number z)) state.running.registers)) code.2 ∙ ap integer_in (written_there (temporary from) (Some (M.Number z)) state.running.registers);
        held = λ follows. (temporary from, code.2, subst (λ (spot : Spot). IsBefore spot.counts (temporary from)) (sym code.1) (omega arith));
      }
  keeps_tree false slack from to tree kept z s state p h code is = record {
    state = state;
    passing = eased p (omega arith) (let nodes = ap tree_nodes code.1 in omega (arith, nodes));
    there = subst (λ (spot : Spot). At program placement hidden frame scope spot.at s state) (sym code.0) h;
    keeps = kept_same from.counts state.running.registers;
    computed = ap (computes state.running.registers) code.1 ∙ is;
    held = λ follows. absurd (cc);
  }
