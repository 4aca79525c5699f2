-- The code of `?:`.
use Rattle.std.proofs.Common.{◌≡◌, ℕ, suc, ◌+◌, ◌≤◌, Bool, true, false, ◌&&◌, if◌then◌else◌, List, Option, Some, ℤ, refl, sym, ap, subst, arith}
use Rattle.std.proofs.lemmas.Bool.{and_parts}
use Rattle.c_num.specs.Types.{is_value}
use Rattle.c_typed.specs.Values.{not_zero}
use Rattle.c_typed.specs.Types.{CType, same_type, is_integer}
use Rattle.c_typed.specs.Typed as T
use Rattle.c_typed.specs.Typed.{Value, Program}
use Rattle.c_typed.specs.Context.{Context}
use Rattle.c_typed.specs.Expressions.{where_holds, given_two, type_of}
use Rattle.c_typed.specs.Programs.{IsWellTyped}
use Rattle.c_typed.specs.Sizes.{makes, is_storable}
use Rattle.ref_semantics.specs.Values as V
use Rattle.ref_semantics.specs.Values.{Scalar}
use Rattle.ref_semantics.specs.Store as S
use Rattle.ref_semantics.specs.Store.{Outcome, Then, ◌>>=◌}
use Rattle.ref_semantics.specs.Meaning.{Calls, value, is_true}
use Rattle.ref_semantics.specs.First.{around_of}
use Rattle.ref_semantics.specs.Sound.{Sound}
use Rattle.ref_semantics.specs.Keeping.{CallsKeep}
use Rattle.c_typed.proofs.Splitting.{First, given_parts, first_parts}
use Rattle.tac_ir.specs.Code.{Op, Tac}
use Rattle.tac_ir.specs.Code as O
use Rattle.tac_ir.specs.Values as M
use Rattle.tac_ir.specs.States.{State}
use Rattle.tac_ir.specs.Trees.{Registers, computes, tree_nodes, integer_in}
use Rattle.tac_build.specs.Homes.{Scope}
use Rattle.tac_build.specs.Spots.{Spot, behind, with_temporary, with_expression, temporary, expression, Lowered, AsInteger, AsPointer, AsObject, AsNothing, Kept, Mode}
use Rattle.tac_build.specs.Code.{HasOp, Joins, JoinsWith}
use Rattle.tac_build.specs.Forms.{context_of, SpotGrows}
use Rattle.tac_simulation.specs.Standing.{Placement, Frame, KeepsBefore, At, LoweredStands}
use Rattle.tac_simulation.proofs.Spotting.{Runs, kept_write, written_there, with_written}
use Rattle.tac_simulation.proofs.Evaluating.{ValueDoes, ComesToValue, value_units, laid_by, left_for}
use Rattle.tac_simulation.proofs.Paths.{Stand, Passage as Passing, Does, comes, stops, slower, eases}
use Rattle.tac_simulation.proofs.Combining.{ticked, puts, has_come}
use Rattle.tac_simulation.proofs.Constants.{left_most}
use Rattle.tac_build.proofs.Named.{value_named}
use Rattle.tac_build.proofs.Naming.{grows_to, grows_then, temporary_grows, expression_grows, behind_grows, stays}
use Rattle.tac_simulation.proofs.Unchanged.{keeps_fewer, keeps_then}
use Rattle.tac_simulation.proofs.Going.{gone, some_node, branches, jumps, assigns, writes}
use Rattle.tac_simulation.proofs.Integers.{then_integer}

-- ways meet in a new register, or in none
joins_grows : (points : List Op) (one : Lowered) (first joined : Spot) (lowered : Lowered) → Joins points one first joined lowered → SpotGrows first joined
joins_grows points (AsInteger int_type tree) first joined lowered code = grows_to code.1 (grows_then (temporary_grows first) (behind_grows (with_temporary first)))
joins_grows points (AsPointer pointer target) first joined lowered code = grows_to code.1 (grows_then (expression_grows first) (behind_grows (with_expression first)))
joins_grows points AsNothing first joined lowered code = grows_to code.0 (stays first)
joins_grows points (AsObject path own) first joined lowered code = absurd code

joins_laid : (points : List Op) (one : Lowered) (first joined : Spot) (lowered : Lowered) → Joins points one first joined lowered → laid_by lowered ≤ 2
joins_laid points (AsInteger int_type tree) first joined lowered code = let laid = ap laid_by code.2 in omega (arith, laid)
joins_laid points (AsPointer pointer target) first joined lowered code = let laid = ap laid_by code.2 in omega (arith, laid)
joins_laid points AsNothing first joined lowered code = let laid = ap laid_by code.1 in omega (arith, laid)
joins_laid points (AsObject path own) first joined lowered code = absurd code

-- an evaluation is at its end, and the code goes on
ends_with : {tac : Tac} {worth : ℕ} {A : Type 0} {Stands Stands' : Stand A} {start : State} {n lag lag' slack slack' : ℕ} {outcome : Outcome A} → Does tac worth start n lag slack Stands outcome → lag ≤ lag'
    → ((a : A) (s : S.State) (state : State) → Passing tac worth start state n s.units lag slack → Stands a s state → Does tac worth start n lag' slack' Stands' (Then a s)) → Does tac worth start n lag' slack' Stands' outcome
ends_with (comes a s state p stands) more rest = rest a s state p stands
ends_with {tac} {worth} {A} {Stands} {Stands'} {start} {n} {lag} {lag'} {slack} {slack'} (stops answer s a) more rest = let same : Does tac worth start n lag slack' Stands' (S.Stopped answer s) = stops answer s a in eases same more (omega arith)

module _ (tac : Tac) (program : Program) (calls : Calls) (worth : ℕ) (points : List Op) (placement : Placement) (hidden : ℕ → Option V.Content) (frame : Frame) (scope : Scope)
    (runs : Runs tac program points frame) (well : IsWellTyped program) (keep : CallsKeep program calls) where
  abbrev Follows : Value → Type 0
  Follows tree = ValueDoes tac program calls worth points placement hidden frame scope tree

  abbrev around : Context
  around = context_of program scope

  -- the first way comes to a register, and goes on behind the second one
  first_way : {start : State} {n lag lag' : ℕ} (slack' : ℕ) (one : Lowered) (mode : Mode) (from first joined to : Spot) (lowered : Lowered) (before : Registers) (scalar : Scalar) (s : S.State) (state : State)
      → Passing tac worth start state n s.units lag (slack' + 2 + laid_by one) → At program placement hidden frame scope first.at s state → KeepsBefore from.counts before state.running.registers
      → LoweredStands program Kept frame placement s.objects state.running.registers one scalar → Joins points one first joined lowered → HasOp points joined.at (O.Jump to.at) → SpotGrows from first → lag ≤ lag'
      → Does tac worth start n lag' slack' (ComesToValue tac program calls worth points placement hidden frame scope mode from to lowered before) (Then scalar s)
  first_way slack' (AsInteger int_type tree) mode from first joined to lowered before scalar s state p at kept stands joins jump grows more =
      let some = some_node tree in
      let w = assigns tac program worth points placement hidden frame scope runs (slack' + 1) (temporary first) tree first.at stands.0 s state p at joins.0 stands.2 tt (omega (arith, some)) in
      let written = with_written tac program points placement hidden frame scope runs (temporary first) (M.Number stands.0) state in
      let j = jumps tac program worth points placement hidden frame scope runs slack' to.at joined.at s written w.passing (subst (λ (spot : Spot). At program placement hidden frame scope spot.at s written) (sym joins.1) w.there) jump (omega arith) in
      has_come tac program calls worth points placement hidden frame scope runs well keep mode from to to lowered (AsInteger int_type (O.Held (temporary first))) before scalar s (gone to.at written) j.passing j.there
      (keeps_then from.counts before state.running.registers written.running.registers kept (kept_write from.counts (temporary first) (Some (M.Number stands.0)) state.running.registers grows.temporaries))
      refl joins.2 (stands.0, stands.1, ap integer_in (written_there (temporary first) (Some (M.Number stands.0)) state.running.registers)) more (omega arith)
  first_way slack' (AsPointer pointer target) mode from first joined to lowered before scalar s state p at kept stands joins jump grows more =
      let held = stands.1 in
      let w = writes tac program worth points placement hidden frame scope runs (slack' + 1) (O.Copy (expression first) pointer) (expression first) stands.0 first.at s state p at joins.0 (rw held refl) tt (omega arith) in
      let written = with_written tac program points placement hidden frame scope runs (expression first) stands.0 state in
      let j = jumps tac program worth points placement hidden frame scope runs slack' to.at joined.at s written w.passing (subst (λ (spot : Spot). At program placement hidden frame scope spot.at s written) (sym joins.1) w.there) jump (omega arith) in
      has_come tac program calls worth points placement hidden frame scope runs well keep mode from to to lowered (AsPointer (expression first) target) before scalar s (gone to.at written) j.passing j.there
      (keeps_then from.counts before state.running.registers written.running.registers kept (kept_write from.counts (expression first) (Some stands.0) state.running.registers grows.expressions))
      refl joins.2 (stands.0, written_there (expression first) (Some stands.0) state.running.registers, stands.2) more (omega arith)
  first_way slack' AsNothing mode from first joined to lowered before scalar s state p at kept stands joins jump grows more =
      let j = jumps tac program worth points placement hidden frame scope runs slack' to.at joined.at s state p (subst (λ (spot : Spot). At program placement hidden frame scope spot.at s state) (sym joins.0) at) jump (omega arith) in
      has_come tac program calls worth points placement hidden frame scope runs well keep mode from to to lowered AsNothing before scalar s (gone to.at state) j.passing j.there kept refl joins.1 tt more (omega arith)
  first_way slack' (AsObject path own) mode from first joined to lowered before scalar s state p at kept stands joins jump grows more = absurd joins

  -- the second way comes to the same register
  second_way : {start : State} {n lag lag' : ℕ} (slack' : ℕ) (one other : Lowered) (mode : Mode) (from first joined second to : Spot) (lowered : Lowered) (before : Registers) (scalar : Scalar) (s : S.State) (state : State)
      → Passing tac worth start state n s.units lag (slack' + 2 + laid_by other) → At program placement hidden frame scope second.at s state → KeepsBefore from.counts before state.running.registers
      → LoweredStands program Kept frame placement s.objects state.running.registers other scalar → Joins points one first joined lowered → JoinsWith points lowered other second to → SpotGrows from first → lag ≤ lag'
      → Does tac worth start n lag' slack' (ComesToValue tac program calls worth points placement hidden frame scope mode from to lowered before) (Then scalar s)
  second_way slack' (AsInteger int_type tree) (AsInteger own b) mode from first joined second to lowered before scalar s state p at kept stands joins with grows more =
      let emits : HasOp points second.at (O.Assign (temporary first) b) × (to ≡ behind second) = subst (λ l. JoinsWith points l (AsInteger own b) second to) joins.2 with in
      let some = some_node b in
      let is = stands.2 in
      puts tac program calls worth points placement hidden frame scope runs well keep (O.Assign (temporary first) b) (temporary first) (M.Number stands.0) mode from second to lowered (AsInteger int_type (O.Held (temporary first))) before scalar s state p at kept emits.0 (rw is refl) grows.temporaries tt
      (ap (λ (spot : Spot). spot.at) emits.1) joins.2 (stands.0, stands.1, ap integer_in (written_there (temporary first) (Some (M.Number stands.0)) state.running.registers)) more (omega (arith, some))
  second_way slack' (AsPointer pointer target) (AsPointer register own) mode from first joined second to lowered before scalar s state p at kept stands joins with grows more =
      let emits : HasOp points second.at (O.Copy (expression first) register) × (to ≡ behind second) = subst (λ l. JoinsWith points l (AsPointer register own) second to) joins.2 with in
      let held = stands.1 in
      puts tac program calls worth points placement hidden frame scope runs well keep (O.Copy (expression first) register) (expression first) stands.0 mode from second to lowered (AsPointer (expression first) target) before scalar s state p at kept emits.0 (rw held refl) grows.expressions tt
      (ap (λ (spot : Spot). spot.at) emits.1) joins.2 (stands.0, written_there (expression first) (Some stands.0) state.running.registers, stands.2) more (omega arith)
  second_way slack' AsNothing AsNothing mode from first joined second to lowered before scalar s state p at kept stands joins with grows more =
      let next : to ≡ second = subst (λ l. JoinsWith points l AsNothing second to) joins.1 with in
      has_come tac program calls worth points placement hidden frame scope runs well keep mode from second to lowered AsNothing before scalar s state p at kept next joins.1 tt more (omega arith)
  second_way slack' (AsInteger int_type tree) (AsPointer register own) mode from first joined second to lowered before scalar s state p at kept stands joins with grows more = absurd (subst (λ l. JoinsWith points l (AsPointer register own) second to) joins.2 with)
  second_way slack' (AsInteger int_type tree) (AsObject path own) mode from first joined second to lowered before scalar s state p at kept stands joins with grows more = absurd (subst (λ l. JoinsWith points l (AsObject path own) second to) joins.2 with)
  second_way slack' (AsInteger int_type tree) AsNothing mode from first joined second to lowered before scalar s state p at kept stands joins with grows more = absurd (subst (λ l. JoinsWith points l AsNothing second to) joins.2 with)
  second_way slack' (AsPointer pointer target) (AsInteger own b) mode from first joined second to lowered before scalar s state p at kept stands joins with grows more = absurd (subst (λ l. JoinsWith points l (AsInteger own b) second to) joins.2 with)
  second_way slack' (AsPointer pointer target) (AsObject path own) mode from first joined second to lowered before scalar s state p at kept stands joins with grows more = absurd (subst (λ l. JoinsWith points l (AsObject path own) second to) joins.2 with)
  second_way slack' (AsPointer pointer target) AsNothing mode from first joined second to lowered before scalar s state p at kept stands joins with grows more = absurd (subst (λ l. JoinsWith points l AsNothing second to) joins.2 with)
  second_way slack' AsNothing (AsInteger own b) mode from first joined second to lowered before scalar s state p at kept stands joins with grows more = absurd (subst (λ l. JoinsWith points l (AsInteger own b) second to) joins.1 with)
  second_way slack' AsNothing (AsPointer register own) mode from first joined second to lowered before scalar s state p at kept stands joins with grows more = absurd (subst (λ l. JoinsWith points l (AsPointer register own) second to) joins.1 with)
  second_way slack' AsNothing (AsObject path own) mode from first joined second to lowered before scalar s state p at kept stands joins with grows more = absurd (subst (λ l. JoinsWith points l (AsObject path own) second to) joins.1 with)
  second_way slack' (AsObject path c_type) other mode from first joined second to lowered before scalar s state p at kept stands joins with grows more = absurd joins

  pub conditionals : (condition taken otherwise : Value) → Follows condition → Follows taken → Follows otherwise → Follows (T.Conditional condition taken otherwise)
  conditionals condition taken otherwise follows follows' follows'' mode from to lowered t code typed small start n lag slack s state p at =
      ticked tac program calls worth points placement hidden frame scope runs well keep (value (around_of program) calls condition >>= λ c. if is_true c then value (around_of program) calls taken else value (around_of program) calls otherwise) from.at s state p at (omega arith) (λ left' p' at'.
      then_integer tac program calls worth points placement hidden frame scope runs well keep condition follows (λ c. if is_true c then value (around_of program) calls taken else value (around_of program) calls otherwise)
      from code.0 code.5 code.4 tested.0 code.8 tested.1 sizes'.0 (record s { units = left' }) state p' at' (omega arith) (λ z s' state' p'' came sound is fits.
      by z s' state' (slower (slack + 12 + tree_nodes code.4) p'' (let least = left_most condition in let some = some_node code.4 in omega (arith, least, some))) came.there sound is fits came.kept (not_zero z) refl))
    where
      sizes : ((makes (is_storable program.structs) condition && makes (is_storable program.structs) taken) ≡ true) × (makes (is_storable program.structs) otherwise ≡ true)
      sizes = and_parts (makes (is_storable program.structs) condition && makes (is_storable program.structs) taken) (makes (is_storable program.structs) otherwise) small

      sizes' : (makes (is_storable program.structs) condition ≡ true) × (makes (is_storable program.structs) taken ≡ true)
      sizes' = and_parts (makes (is_storable program.structs) condition) (makes (is_storable program.structs) taken) sizes.0

      tested : (c : CType) × (type_of around condition ≡ Some c) × (given_two (type_of around taken) (type_of around otherwise) (λ a b. where_holds (is_integer c && same_type a b) a) ≡ Some t)
      tested = given_parts (type_of around condition) (λ c. given_two (type_of around taken) (type_of around otherwise) (λ a b. where_holds (is_integer c && same_type a b) a)) t typed

      parts : First (type_of around taken) (type_of around otherwise) (λ a b. is_integer tested.0 && same_type a b) t
      parts = first_parts (type_of around taken) (type_of around otherwise) (λ a b. is_integer tested.0 && same_type a b) t tested.2

      grows : SpotGrows from code.0
      grows = (value_named program points scope condition Kept from code.0 (AsInteger code.5 code.4) code.8).grows

      grows' : SpotGrows from code.1
      grows' = grows_then grows (grows_then (behind_grows code.0) (value_named program points scope taken Kept (behind code.0) code.1 code.6 code.10).grows)

      grows'' : SpotGrows from code.2
      grows'' = grows_then grows' (joins_grows points code.6 code.1 code.2 lowered code.11)

      by : (z : ℤ) (s' : S.State) (state' : State) → Passing tac worth start state' n s'.units (suc lag + value_units condition) (slack + 12 + tree_nodes code.4) → At program placement hidden frame scope code.0.at s' state' → Sound around s'
          → computes state'.running.registers code.4 ≡ Some z → is_value code.5 z ≡ true → KeepsBefore from.counts state.running.registers state'.running.registers → (test : Bool) → not_zero z ≡ test
          → Does tac worth start n (lag + value_units (T.Conditional condition taken otherwise)) (slack + (laid_by lowered + left_for (T.Conditional condition taken otherwise))) (ComesToValue tac program calls worth points placement hidden frame scope mode from to lowered state.running.registers)
          ((if test then value (around_of program) calls taken else value (around_of program) calls otherwise) s')
      by z s' state' p' there sound is fits kept true e =
          let g = branches tac program worth points placement hidden frame scope runs (slack + 11) code.5 code.4 (suc code.0.at) (suc code.2.at) code.0.at z true s' state' p' there code.9 is fits e (omega arith) in
          ends_with (follows' Kept (behind code.0) code.1 code.6 t code.10 parts.left sizes'.1 start n (suc lag + value_units condition) (slack + 11) s' (gone (suc code.0.at) state') g.passing (record { stands = g.there; sound = sound })) (omega arith)
          (λ scalar s'' state'' p'' came.
          let laid = joins_laid points code.6 code.1 code.2 lowered code.11 in
          first_way (slack + (laid_by lowered + 6)) code.6 mode from code.1 code.2 to lowered state.running.registers scalar s'' state'' (slower (slack + (laid_by lowered + 6) + 2 + laid_by code.6) p'' (let least = left_most taken in omega (arith, least, laid)))
          came.0.there (keeps_then from.counts state.running.registers state'.running.registers state''.running.registers kept (keeps_fewer state'.running.registers state''.running.registers grows came.0.kept)) came.1 code.11 code.12 grows' (omega arith))
      by z s' state' p' there sound is fits kept false e =
          let g = branches tac program worth points placement hidden frame scope runs (slack + 11) code.5 code.4 (suc code.0.at) (suc code.2.at) code.0.at z false s' state' p' there code.9 is fits e (omega arith) in
          ends_with (follows'' Kept (behind code.2) code.3 code.7 parts.b code.13 parts.right sizes.1 start n (suc lag + value_units condition) (slack + 11) s' (gone (suc code.2.at) state') g.passing (record { stands = g.there; sound = sound })) (omega arith)
          (λ scalar s'' state'' p'' came.
          let laid = joins_laid points code.6 code.1 code.2 lowered code.11 in
          second_way (slack + (laid_by lowered + 6)) code.6 code.7 mode from code.1 code.2 code.3 to lowered state.running.registers scalar s'' state'' (slower (slack + (laid_by lowered + 6) + 2 + laid_by code.7) p'' (let least = left_most otherwise in omega (arith, least, laid)))
          came.0.there (keeps_then from.counts state.running.registers state'.running.registers state''.running.registers kept (keeps_fewer state'.running.registers state''.running.registers grows'' came.0.kept)) came.1 code.11 code.14 grows' (omega arith))
