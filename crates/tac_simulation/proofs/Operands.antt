-- Integers as operands: one comes to its value, and its tree stands while the code of the next one runs.
use Rattle.std.proofs.Common.{◌≡◌, ℕ, ◌+◌, ◌*◌, ◌≤◌, Bool, true, false, not, List, Option, Some, ℤ, refl, sym, ap, ◌∙◌, subst, arith}
use Rattle.c_num.specs.declared.IntType.{IntType}
use Rattle.c_num.specs.Types.{is_value}
use Rattle.c_typed.specs.Types.{CType}
use Rattle.c_typed.specs.Typed.{Value, Program}
use Rattle.c_typed.specs.Context.{Context}
use Rattle.c_typed.specs.Expressions.{type_of}
use Rattle.c_typed.specs.Programs.{IsWellTyped}
use Rattle.c_typed.specs.Sizes.{makes, is_storable}
use Rattle.ref_semantics.specs.Values as V
use Rattle.ref_semantics.specs.Values.{Scalar, IntegerValue}
use Rattle.ref_semantics.specs.Store as S
use Rattle.ref_semantics.specs.Store.{Outcome, Stopped, Eval, ◌>>=◌, continue_with}
use Rattle.ref_semantics.specs.Meaning.{Calls, value}
use Rattle.ref_semantics.specs.First.{around_of}
use Rattle.ref_semantics.specs.Sound.{Sound}
use Rattle.ref_semantics.specs.Keeping.{CallsKeep}
use Rattle.ref_semantics.proofs.ValuesKeep.{value_keeps}
use Rattle.tac_ir.specs.declared.register.Register.{Register}
use Rattle.tac_ir.specs.Code.{Op, Tac, Tree}
use Rattle.tac_ir.specs.Code as O
use Rattle.tac_ir.specs.States.{State}
use Rattle.tac_ir.specs.Trees.{computes, tree_nodes, integer_in}
use Rattle.tac_build.specs.Homes.{Scope, is_pure}
use Rattle.tac_build.specs.Spots.{Spot, with_temporary, AsInteger, Kept}
use Rattle.tac_build.specs.Code.{ValueCode, KeepsTree}
use Rattle.tac_build.specs.Forms.{IsBefore, scope_types, context_of, SpotGrows}
use Rattle.tac_simulation.specs.Standing.{Placement, Frame, KeepsBefore, At}
use Rattle.tac_simulation.proofs.Spotting.{Runs}
use Rattle.tac_simulation.proofs.Evaluating.{ValueDoes, AtSpot, Came, ComesToValue, value_units, left_for}
use Rattle.tac_simulation.proofs.PureRests.{Rests}
use Rattle.tac_simulation.proofs.Going.{keeps_tree}
use Rattle.tac_simulation.proofs.Paths.{Stand, Passage as Passing, Does, comes, stops, slower, eases, allows}
use Rattle.tac_simulation.proofs.Constants.{left_most}
use Rattle.tac_build.proofs.Forms.{value_form}
use Rattle.tac_build.proofs.Named.{value_named}
use Rattle.tac_build.proofs.Naming.{stays, grows_to, grows_then, temporary_grows, behind_grows}
use Rattle.tac_simulation.proofs.Unchanged.{keeps_fewer, keeps_then}
use Rattle.tac_simulation.proofs.Integers.{integer_fits}

pub keeps_grows : (points : List Op) (follows : Bool) (tree kept : Tree) (from to : Spot) → KeepsTree points follows tree from to kept → SpotGrows from to
keeps_grows points false tree kept from to code = grows_to code.0 (stays from)
keeps_grows points true tree kept from to code = grows_to code.1 (grows_then (temporary_grows from) (behind_grows (with_temporary from)))

module _ (tac : Tac) (program : Program) (calls : Calls) (worth : ℕ) (points : List Op) (placement : Placement) (hidden : ℕ → Option V.Content) (frame : Frame) (scope : Scope)
    (runs : Runs tac program points frame) (well : IsWellTyped program) (keep : CallsKeep program calls) where
  abbrev Follows : Value → Type 0
  Follows tree = ValueDoes tac program calls worth points placement hidden frame scope tree

  abbrev around : Context
  around = context_of program scope

  -- an operand comes to an integer of its type, and more is known of the state behind its code
  pub then_also : {B : Type 0} {Stands : Stand B} {start : State} {n lag' slack' : ℕ} (lag slack : ℕ) (Also : State → Type 0) (tree : Value) (next : Scalar → Eval B)
      → (from to : Spot) (own : IntType) (a : Tree) (t : CType) → ValueCode program points scope Kept tree from to (AsInteger own a) → type_of around tree ≡ Some t → makes (is_storable program.structs) tree ≡ true
      → (s : S.State) (state : State) → Sound around s
      → Does tac worth start n (lag + value_units tree) (slack + (2 * tree_nodes a + left_for tree)) (λ scalar s' state'. ComesToValue tac program calls worth points placement hidden frame scope Kept from to (AsInteger own a) state.running.registers scalar s' state' × Also state') (value (around_of program) calls tree s)
      → lag + value_units tree ≤ lag'
      → ((z : ℤ) (s' : S.State) (state' : State) → Passing tac worth start state' n s'.units (lag + value_units tree) (slack + (2 * tree_nodes a + left_for tree))
      → Came tac program calls worth points placement hidden frame scope from to state.running.registers s' state' → Sound around s' → computes state'.running.registers a ≡ Some z → is_value own z ≡ true → Also state'
      → Does tac worth start n lag' slack' Stands (next (IntegerValue z) s'))
      → Does tac worth start n lag' slack' Stands (continue_with next (value (around_of program) calls tree s))
  then_also {B} {Stands} {start} {n} {lag'} {slack'} lag slack Also tree next from to own a t code typed small s state sound does more rest =
      by (value (around_of program) calls tree s) refl does
    where
      by : (outcome : Outcome Scalar) → value (around_of program) calls tree s ≡ outcome
          → Does tac worth start n (lag + value_units tree) (slack + (2 * tree_nodes a + left_for tree)) (λ scalar s' state'. ComesToValue tac program calls worth points placement hidden frame scope Kept from to (AsInteger own a) state.running.registers scalar s' state' × Also state') outcome
          → Does tac worth start n lag' slack' Stands (continue_with next outcome)
      by _ e (comes scalar s' state' p' came) =
          let keeps = value_keeps program well calls keep (scope_types scope) tree small t typed s sound scalar s' e in
          let is = value_form program points scope tree Kept t from to (AsInteger own a) typed code in
          subst (λ x. Does tac worth start n lag' slack' Stands (next x s')) (sym came.0.1.1)
          (rest came.0.1.0 s' state' p' came.0.0 keeps.0.sound came.0.1.2 (integer_fits program s' t own scalar came.0.1.0 is came.0.1.1 keeps.1) came.1)
      by _ e (stops answer s' a) = let same : Does tac worth start n (lag + value_units tree) slack' Stands (S.Stopped answer s') = stops answer s' a in eases same more (omega arith)

  -- the next operand comes to its value, and the tree before it still computes the same
  pub then_right : {B : Type 0} {Stands : Stand B} {start : State} {n lag lag' slack slack' : ℕ} (right : Value) → Follows right → Rests tac program calls worth points placement hidden frame scope right → (next : Scalar → Eval B)
      → (from to : Spot) (own : IntType) (kept b : Tree) (x : ℤ) (t : CType) → ValueCode program points scope Kept right from to (AsInteger own b) → type_of around right ≡ Some t → makes (is_storable program.structs) right ≡ true
      → (s : S.State) (state : State) → Passing tac worth start state n s.units lag slack → AtSpot tac program calls worth points placement hidden frame scope from.at s state
      → computes state.running.registers kept ≡ Some x → (not (is_pure scope right) ≡ true → (register : Register) × (kept ≡ O.Held register) × IsBefore from.counts register) → lag + value_units right ≤ lag'
      → ((z : ℤ) (s' : S.State) (state' : State) → Passing tac worth start state' n s'.units (lag + value_units right) (slack + (2 * tree_nodes b + left_for right))
      → Came tac program calls worth points placement hidden frame scope from to state.running.registers s' state' → Sound around s' → computes state'.running.registers kept ≡ Some x → computes state'.running.registers b ≡ Some z → is_value own z ≡ true
      → Does tac worth start n lag' slack' Stands (next (IntegerValue z) s'))
      → Does tac worth start n lag' slack' Stands (continue_with next (value (around_of program) calls right s))
  then_right {B} {Stands} {start} {n} {lag} {lag'} {slack} {slack'} right follows rests next from to own kept b x t code typed small s state p at is held more rest = by (is_pure scope right) refl
    where
      by : (pure : Bool) → is_pure scope right ≡ pure → Does tac worth start n lag' slack' Stands (continue_with next (value (around_of program) calls right s))
      by true e =
          then_also {slack' = slack'} lag slack (λ state'. state'.running.registers ≡ state.running.registers) right next from to own b t code typed small s state at.sound
          (rests e Kept from to (AsInteger own b) t code typed small start n lag slack s state p at) more
          (λ z s' state' p' came sound there fits same. rest z s' state' p' came sound (ap (λ registers. computes registers kept) same ∙ is) there fits)
      by false e =
          then_also {slack' = slack'} lag slack (λ state'. Unit {0}) right next from to own b t code typed small s state at.sound
          (allows (follows Kept from to (AsInteger own b) t code typed small start n lag slack s state p at) (λ scalar s' state' came. (came, tt))) more
          (λ z s' state' p' came sound there fits also. let waits = held (ap not e) in
          let same : computes state'.running.registers kept ≡ computes state.running.registers kept =
          ap (computes state'.running.registers) waits.1 ∙ ap integer_in (came.kept waits.0 waits.2) ∙ sym (ap (computes state.running.registers) waits.1) in
          rest z s' state' p' came sound (same ∙ is) there fits)

  -- two operands, the left one first
  pub two_operands : {B : Type 0} {Stands : Stand B} {start : State} {n lag lag' slack slack' : ℕ} (left right : Value) → Follows left → Follows right → Rests tac program calls worth points placement hidden frame scope right → (next : Scalar → Scalar → Eval B)
      → (from mid between to : Spot) (own other : IntType) (a kept b : Tree) (t u : CType) → ValueCode program points scope Kept left from mid (AsInteger own a) → KeepsTree points (not (is_pure scope right)) a mid between kept
      → ValueCode program points scope Kept right between to (AsInteger other b) → type_of around left ≡ Some t → type_of around right ≡ Some u → makes (is_storable program.structs) left ≡ true → makes (is_storable program.structs) right ≡ true
      → (s : S.State) (state : State) → Passing tac worth start state n s.units lag slack → AtSpot tac program calls worth points placement hidden frame scope from.at s state → lag + value_units left + value_units right ≤ lag'
      → ((x y : ℤ) (s' : S.State) (state' : State) → Passing tac worth start state' n s'.units (lag + value_units left + value_units right) (slack + 1 + 2 * tree_nodes kept + (2 * tree_nodes b + left_for right))
      → At program placement hidden frame scope to.at s' state' → KeepsBefore from.counts state.running.registers state'.running.registers
      → computes state'.running.registers kept ≡ Some x → computes state'.running.registers b ≡ Some y → is_value own x ≡ true → is_value other y ≡ true
      → Does tac worth start n lag' slack' Stands (next (IntegerValue x) (IntegerValue y) s'))
      → Does tac worth start n lag' slack' Stands (continue_with (λ x. value (around_of program) calls right >>= next x) (value (around_of program) calls left s))
  two_operands {B} {Stands} {start} {n} {lag} {lag'} {slack} {slack'} left right follows follows' rests next from mid between to own other a kept b t u code keeps code' typed typed' small small' s state p at more rest =
      then_also {slack' = slack'} lag slack (λ state'. Unit {0}) left (λ x. value (around_of program) calls right >>= next x) from mid own a t code typed small s state at.sound
      (allows (follows Kept from mid (AsInteger own a) t code typed small start n lag slack s state p at) (λ scalar s' state' came. (came, tt))) (omega arith)
      (λ x s' state' p' came sound is fits also.
      let least = left_most left in
      let k = keeps_tree tac program worth points placement hidden frame scope runs (not (is_pure scope right)) (slack + 1) mid between a kept x s' state' (slower (slack + 1 + 2 + 2 * tree_nodes a) p' (omega (arith, least))) came.there keeps is in
      then_right {slack' = slack'} right follows' rests (next (IntegerValue x)) between to other kept b x u code' typed' small' s' k.state k.passing (record { stands = k.there; sound = sound }) k.computed k.held more
      (λ y s'' state'' p'' came' sound' is' is'' fits'.
      let first = value_named program points scope left Kept from mid (AsInteger own a) code in
      let second = keeps_grows points (not (is_pure scope right)) a kept mid between keeps in
      let one = keeps_then mid.counts state'.running.registers k.state.running.registers state''.running.registers k.keeps (keeps_fewer k.state.running.registers state''.running.registers second came'.kept) in
      let all = keeps_then from.counts state.running.registers state'.running.registers state''.running.registers came.kept (keeps_fewer state'.running.registers state''.running.registers first.grows one) in
      rest x y s'' state'' p'' came'.there all is' is'' fits fits'))
