-- The code of `&&` and `||`.
use Rattle.std.proofs.Common.{◌≡◌, ℕ, suc, ◌+◌, ◌≤◌, ◌<◌, Bool, true, false, ◌&&◌, if◌then◌else◌, List, Option, Some, ℤ, pos, refl, sym, ap, ◌∙◌, arith}
use Rattle.std.proofs.lemmas.Bool.{and_parts}
use Rattle.c_num.specs.declared.IntType.{IntType}
use Rattle.c_num.specs.declared.IntType.TheVariants as I
use Rattle.c_num.specs.Types.{is_value}
use Rattle.c_typed.specs.Values.{not_zero}
use Rattle.c_typed.specs.Types.{CType, int, is_integer}
use Rattle.c_typed.specs.Typed as T
use Rattle.c_typed.specs.Typed.{Value, Program}
use Rattle.c_typed.specs.Context.{Context}
use Rattle.c_typed.specs.Expressions.{type_of}
use Rattle.c_typed.specs.Programs.{IsWellTyped}
use Rattle.c_typed.specs.Sizes.{makes, is_storable}
use Rattle.ref_semantics.specs.Values as V
use Rattle.ref_semantics.specs.Values.{IntegerValue}
use Rattle.ref_semantics.specs.Store as S
use Rattle.ref_semantics.specs.Store.{Then, ◌>>=◌, continue_with, give}
use Rattle.ref_semantics.specs.Pointers as P
use Rattle.ref_semantics.specs.Meaning.{Calls, value, is_true}
use Rattle.ref_semantics.specs.First.{around_of}
use Rattle.ref_semantics.specs.Sound.{Sound}
use Rattle.ref_semantics.specs.Keeping.{CallsKeep}
use Rattle.c_typed.proofs.Splitting.{Both, both_parts}
use Rattle.tac_ir.specs.Code.{Op, Tac, Tree}
use Rattle.tac_ir.specs.Code as O
use Rattle.tac_ir.specs.Values as M
use Rattle.tac_ir.specs.States.{State}
use Rattle.tac_ir.specs.Trees.{Registers, computes, tree_nodes, truth, integer_in}
use Rattle.tac_build.specs.Homes.{Scope}
use Rattle.tac_build.specs.Spots.{Spot, behind, with_temporary, temporary, Lowered, AsInteger, Kept, Mode}
use Rattle.tac_build.specs.Code.{HasOp, ValueCode, truth_tree}
use Rattle.tac_build.specs.Forms.{context_of, SpotGrows}
use Rattle.tac_simulation.specs.Standing.{Placement, Frame, KeepsBefore, At}
use Rattle.tac_simulation.proofs.Spotting.{Runs, kept_write, written_there, with_written}
use Rattle.tac_simulation.proofs.Evaluating.{ValueDoes, AtSpot, ComesToValue, value_units, laid_by, left_for}
use Rattle.tac_simulation.proofs.Paths.{Passage as Passing, Does, slower}
use Rattle.tac_simulation.proofs.Combining.{ticked, puts, has_come}
use Rattle.tac_simulation.proofs.Constants.{left_most}
use Rattle.tac_build.proofs.Named.{value_named}
use Rattle.tac_build.proofs.Naming.{grows_then, temporary_grows}
use Rattle.tac_simulation.proofs.Unchanged.{keeps_fewer, keeps_then}
use Rattle.tac_simulation.proofs.Computing.{truth_is, computes_truth}
use Rattle.tac_simulation.proofs.Going.{gone, some_node, branches, jumps, assigns}
use Rattle.tac_simulation.proofs.Integers.{then_integer}

module _ (tac : Tac) (program : Program) (calls : Calls) (worth : ℕ) (points : List Op) (placement : Placement) (hidden : ℕ → Option V.Content) (frame : Frame) (scope : Scope)
    (runs : Runs tac program points frame) (well : IsWellTyped program) (keep : CallsKeep program calls) where
  abbrev Follows : Value → Type 0
  Follows tree = ValueDoes tac program calls worth points placement hidden frame scope tree

  abbrev around : Context
  around = context_of program scope

  -- the left operand decides
  left_decides : {start : State} {n lag lag' slack slack' : ℕ} (z : ℤ) (b : Bool) (mode : Mode) (from last to : Spot) (lowered : Lowered) (before : Registers) (s : S.State) (state : State)
      → Passing tac worth start state n s.units lag slack → At program placement hidden frame scope (suc (suc last.at)) s state → KeepsBefore from.counts before state.running.registers
      → HasOp points (suc (suc last.at)) (O.Assign (temporary from) (O.Constant z)) → to ≡ behind (behind (behind last)) → lowered ≡ AsInteger I.Int (O.Held (temporary from)) → z ≡ truth b → lag ≤ lag' → slack' + 1 < slack
      → Does tac worth start n lag' slack' (ComesToValue tac program calls worth points placement hidden frame scope mode from to lowered before) (Then (P.truth b) s)
  left_decides z b mode from last to lowered before s state p at kept has next is same more less =
      puts tac program calls worth points placement hidden frame scope runs well keep (O.Assign (temporary from) (O.Constant z)) (temporary from) (M.Number z) mode from (behind (behind last)) to lowered (AsInteger I.Int (O.Held (temporary from))) before (P.truth b) s state p at kept has refl (omega arith) tt
      (ap (λ (spot : Spot). spot.at) next) is (z, truth_is b ∙ ap IntegerValue (sym same), ap integer_in (written_there (temporary from) (Some (M.Number z)) state.running.registers)) more less

  -- the right operand decides
  right_decides : {start : State} {n lag lag' slack slack' : ℕ} (right : Value) → Follows right → (mode : Mode) (from test last to : Spot) (lowered : Lowered) (other : IntType) (b : Tree) (u : CType) (before : Registers) (s : S.State) (state : State)
      → ValueCode program points scope Kept right (behind test) last (AsInteger other b) → type_of around right ≡ Some u → makes (is_storable program.structs) right ≡ true
      → HasOp points last.at (O.Assign (temporary from) (truth_tree other b)) → HasOp points (suc last.at) (O.Jump to.at) → lowered ≡ AsInteger I.Int (O.Held (temporary from)) → SpotGrows from test
      → Passing tac worth start state n s.units lag slack → AtSpot tac program calls worth points placement hidden frame scope (suc test.at) s state → KeepsBefore from.counts before state.running.registers → lag + value_units right ≤ lag' → slack' ≤ slack
      → Does tac worth start n lag' slack' (ComesToValue tac program calls worth points placement hidden frame scope mode from to lowered before) (continue_with (λ b. give (P.truth (is_true b))) (value (around_of program) calls right s))
  right_decides {start} {n} {lag} {lag'} {slack} {slack'} right follows mode from test last to lowered other b u before s state code typed small assign jump is grows p at kept more less =
      then_integer tac program calls worth points placement hidden frame scope runs well keep {slack' = slack'} right follows (λ b. give (P.truth (is_true b))) (behind test) last other b u code typed small s state p at more (λ z s' state' p' came sound computed fits.
      let least = left_most right in
      let some = some_node b in
      let w = assigns tac program worth points placement hidden frame scope runs (slack + tree_nodes b) (temporary from) (truth_tree other b) last.at (truth (not_zero z)) s' state' p' came.there assign
      (computes_truth state'.running.registers other b z computed fits) tt (omega (arith, least)) in
      let written = with_written tac program points placement hidden frame scope runs (temporary from) (M.Number (truth (not_zero z))) state' in
      let j = jumps tac program worth points placement hidden frame scope runs slack to.at (suc last.at) s' written w.passing w.there jump (omega (arith, some)) in
      has_come tac program calls worth points placement hidden frame scope runs well keep mode from to to lowered (AsInteger I.Int (O.Held (temporary from))) before (P.truth (not_zero z)) s' (gone to.at written) j.passing j.there
      (keeps_then from.counts before state.running.registers written.running.registers kept
      (keeps_then from.counts state.running.registers state'.running.registers written.running.registers (keeps_fewer state.running.registers state'.running.registers grows came.kept)
      (kept_write from.counts (temporary from) (Some (M.Number (truth (not_zero z)))) state'.running.registers (omega arith))))
      refl is (truth (not_zero z), truth_is (not_zero z), ap integer_in (written_there (temporary from) (Some (M.Number (truth (not_zero z)))) state'.running.registers)) (omega arith) less)

  pub ands : (left right : Value) → Follows left → Follows right → Follows (T.And left right)
  ands left right follows follows' mode from to lowered t code typed small start n lag slack s state p at =
      ticked tac program calls worth points placement hidden frame scope runs well keep (value (around_of program) calls left >>= λ a. if is_true a then (value (around_of program) calls right >>= λ b. give (P.truth (is_true b))) else give (P.truth false)) from.at s state p at (omega arith) (λ left' p' at'.
      then_integer tac program calls worth points placement hidden frame scope runs well keep left follows (λ a. if is_true a then (value (around_of program) calls right >>= λ b. give (P.truth (is_true b))) else give (P.truth false))
      (with_temporary from) code.0 code.4 code.2 parts.a code.6 parts.left sizes.0 (record s { units = left' }) state p' at' (omega arith) (λ z s' state' p'' came sound is fits.
      by z s' state' (slower (slack + 12 + tree_nodes code.2) p'' (let least = left_most left in let some = some_node code.2 in omega (arith, least, some))) came.there sound is fits (keeps_fewer state.running.registers state'.running.registers (temporary_grows from) came.kept) (not_zero z) refl))
    where
      sizes : (makes (is_storable program.structs) left ≡ true) × (makes (is_storable program.structs) right ≡ true)
      sizes = and_parts (makes (is_storable program.structs) left) (makes (is_storable program.structs) right) small

      parts : Both (type_of around left) (type_of around right) (λ a b. is_integer a && is_integer b) int t
      parts = both_parts (type_of around left) (type_of around right) (λ a b. is_integer a && is_integer b) int t typed

      grows : SpotGrows from code.0
      grows = grows_then (temporary_grows from) (value_named program points scope left Kept (with_temporary from) code.0 (AsInteger code.4 code.2) code.6).grows

      by : (z : ℤ) (s' : S.State) (state' : State) → Passing tac worth start state' n s'.units (suc lag + value_units left) (slack + 12 + tree_nodes code.2) → At program placement hidden frame scope code.0.at s' state' → Sound around s'
          → computes state'.running.registers code.2 ≡ Some z → is_value code.4 z ≡ true → KeepsBefore from.counts state.running.registers state'.running.registers → (test : Bool) → not_zero z ≡ test
          → Does tac worth start n (lag + value_units (T.And left right)) (slack + (laid_by lowered + left_for (T.And left right))) (ComesToValue tac program calls worth points placement hidden frame scope mode from to lowered state.running.registers) ((if test then (value (around_of program) calls right >>= λ b. give (P.truth (is_true b))) else give (P.truth false)) s')
      by z s' state' p' there sound is fits kept true e =
          let g = branches tac program worth points placement hidden frame scope runs (slack + 11) code.4 code.2 _ _ code.0.at z true s' state' p' there code.7 is fits e (omega arith) in
          right_decides right follows' mode from code.0 code.1 to lowered code.5 code.3 parts.b state.running.registers s' (gone (suc code.0.at) state') code.8 parts.right sizes.1 code.9 code.10 code.12 grows g.passing
          (record { stands = g.there; sound = sound }) kept (omega arith) (let laid = ap laid_by code.12 in omega (arith, laid))
      by z s' state' p' there sound is fits kept false e =
          let g = branches tac program worth points placement hidden frame scope runs (slack + 11) code.4 code.2 _ _ code.0.at z false s' state' p' there code.7 is fits e (omega arith) in
          left_decides (pos 0) false mode from code.1 to lowered state.running.registers s' (gone (suc (suc code.1.at)) state') g.passing g.there kept code.11.0 code.11.1 code.12 refl (omega arith) (let laid = ap laid_by code.12 in omega (arith, laid))

  pub ors : (left right : Value) → Follows left → Follows right → Follows (T.Or left right)
  ors left right follows follows' mode from to lowered t code typed small start n lag slack s state p at =
      ticked tac program calls worth points placement hidden frame scope runs well keep (value (around_of program) calls left >>= λ a. if is_true a then give (P.truth true) else (value (around_of program) calls right >>= λ b. give (P.truth (is_true b)))) from.at s state p at (omega arith) (λ left' p' at'.
      then_integer tac program calls worth points placement hidden frame scope runs well keep left follows (λ a. if is_true a then give (P.truth true) else (value (around_of program) calls right >>= λ b. give (P.truth (is_true b))))
      (with_temporary from) code.0 code.4 code.2 parts.a code.6 parts.left sizes.0 (record s { units = left' }) state p' at' (omega arith) (λ z s' state' p'' came sound is fits.
      by z s' state' (slower (slack + 12 + tree_nodes code.2) p'' (let least = left_most left in let some = some_node code.2 in omega (arith, least, some))) came.there sound is fits (keeps_fewer state.running.registers state'.running.registers (temporary_grows from) came.kept) (not_zero z) refl))
    where
      sizes : (makes (is_storable program.structs) left ≡ true) × (makes (is_storable program.structs) right ≡ true)
      sizes = and_parts (makes (is_storable program.structs) left) (makes (is_storable program.structs) right) small

      parts : Both (type_of around left) (type_of around right) (λ a b. is_integer a && is_integer b) int t
      parts = both_parts (type_of around left) (type_of around right) (λ a b. is_integer a && is_integer b) int t typed

      grows : SpotGrows from code.0
      grows = grows_then (temporary_grows from) (value_named program points scope left Kept (with_temporary from) code.0 (AsInteger code.4 code.2) code.6).grows

      by : (z : ℤ) (s' : S.State) (state' : State) → Passing tac worth start state' n s'.units (suc lag + value_units left) (slack + 12 + tree_nodes code.2) → At program placement hidden frame scope code.0.at s' state' → Sound around s'
          → computes state'.running.registers code.2 ≡ Some z → is_value code.4 z ≡ true → KeepsBefore from.counts state.running.registers state'.running.registers → (test : Bool) → not_zero z ≡ test
          → Does tac worth start n (lag + value_units (T.Or left right)) (slack + (laid_by lowered + left_for (T.Or left right))) (ComesToValue tac program calls worth points placement hidden frame scope mode from to lowered state.running.registers) ((if test then give (P.truth true) else (value (around_of program) calls right >>= λ b. give (P.truth (is_true b)))) s')
      by z s' state' p' there sound is fits kept true e =
          let g = branches tac program worth points placement hidden frame scope runs (slack + 11) code.4 code.2 _ _ code.0.at z true s' state' p' there code.7 is fits e (omega arith) in
          left_decides (pos 1) true mode from code.1 to lowered state.running.registers s' (gone (suc (suc code.1.at)) state') g.passing g.there kept code.11.0 code.11.1 code.12 refl (omega arith) (let laid = ap laid_by code.12 in omega (arith, laid))
      by z s' state' p' there sound is fits kept false e =
          let g = branches tac program worth points placement hidden frame scope runs (slack + 11) code.4 code.2 _ _ code.0.at z false s' state' p' there code.7 is fits e (omega arith) in
          right_decides right follows' mode from code.0 code.1 to lowered code.5 code.3 parts.b state.running.registers s' (gone (suc code.0.at) state') code.8 parts.right sizes.1 code.9 code.10 code.12 grows g.passing
          (record { stands = g.there; sound = sound }) kept (omega arith) (let laid = ap laid_by code.12 in omega (arith, laid))
