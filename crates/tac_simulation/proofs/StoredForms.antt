-- The code of assignments to objects in memory.
use Rattle.std.proofs.Common.{◌≡◌, ℕ, suc, ◌+◌, ◌*◌, ◌≤◌, Bool, true, false, not, ◌&&◌, List, Option, Some, None, refl, sym, ap, ◌∙◌, subst, arith}
use Rattle.std.proofs.lemmas.Bool.{and_parts, cond-false}
use Rattle.run_theory.specs.declared.place.Pos.{Pos}
use Rattle.run_theory.specs.declared.ends.UbKind.TheVariants as Ub
use Rattle.c_typed.specs.Types.{CType, same_type}
use Rattle.c_typed.specs.Typed as T
use Rattle.c_typed.specs.Typed.{Value, Object, Program}
use Rattle.c_typed.proofs.Same.{same_type-true}
use Rattle.c_typed.specs.Context.{Context}
use Rattle.c_typed.specs.Expressions.{is_scalar, type_of, type_of_object}
use Rattle.c_typed.specs.Programs.{IsWellTyped}
use Rattle.c_typed.specs.Sizes.{makes, object_makes, is_storable}
use Rattle.ref_semantics.specs.Values as V
use Rattle.ref_semantics.specs.Values.{Place, Scalar}
use Rattle.ref_semantics.specs.Store as S
use Rattle.ref_semantics.specs.Store.{Outcome, Then, Eval, ◌>>=◌, continue_with, undefined, offset_of}
use Rattle.ref_semantics.specs.Pointers.{write}
use Rattle.ref_semantics.specs.Meaning.{Calls, value, find}
use Rattle.ref_semantics.specs.First.{around_of}
use Rattle.ref_semantics.specs.Sound.{HasType, Sound}
use Rattle.ref_semantics.specs.Keeping.{Keeps, CallsKeep, IsElement}
use Rattle.ref_semantics.proofs.ValuesKeep.{value_keeps}
use Rattle.c_typed.proofs.Splitting.{first_parts}
use Rattle.ref_semantics.proofs.Lasting.{element_lasts}
use Rattle.tac_ir.specs.declared.program.Counts.{Counts}
use Rattle.tac_ir.specs.declared.register.Register.{Register}
use Rattle.tac_ir.specs.declared.register.Register.TheVariants as R
use Rattle.tac_ir.specs.Code.{Op, Tac, Path}
use Rattle.tac_ir.specs.Code as O
use Rattle.tac_ir.specs.Values as M
use Rattle.tac_ir.specs.Trees.{Registers, with_register, same_register, integer_in}
use Rattle.tac_ir.specs.Objects.{leads}
use Rattle.tac_ir.specs.Costs.{path_cost}
use Rattle.tac_ir.specs.States.{State}
use Rattle.tac_build.specs.Homes.{Scope, is_pure}
use Rattle.tac_build.specs.Spots.{Spot, temporary, Lowered, AsInteger, AsPointer, AsObject, AsNothing, Mode, Kept, is_used}
use Rattle.tac_build.specs.Code.{Stores, AssignCode, ValueCode, ObjectCode}
use Rattle.tac_build.specs.Forms.{IsBefore, scope_types, context_of, IsNamed, PathNamed}
use Rattle.tac_simulation.specs.Standing.{Placement, Frame, KeepsBefore, At, ScalarStands, PathStands, LoweredStands, surroundings}
use Rattle.tac_simulation.proofs.Paths.{Stand, Passage as Passing, Does, comes, allows, eased}
use Rattle.tac_simulation.proofs.Spotting.{Runs, IsFrom, IsNoLocal, no_local, kept_write, written_there, with_written}
use Rattle.tac_simulation.proofs.Evaluating.{ValueDoes, FindDoes, AtSpot, ComesToValue, value_units, laid_by, left_for, stood}
use Rattle.tac_simulation.proofs.Combining.{ticked}
use Rattle.tac_simulation.proofs.Constants.{left_most}
use Rattle.tac_simulation.proofs.Alive.{value_lasts}
use Rattle.tac_build.proofs.Named.{value_named, object_named}
use Rattle.tac_build.proofs.Naming.{lowered_later, path_more, before_named}
use Rattle.tac_simulation.proofs.Unchanged.{object_leads, path_same, keeps_fewer, keeps_then}
use Rattle.tac_build.proofs.Forms.{object_form}
use Rattle.tac_simulation.proofs.Resting.{ValueRests}
use Rattle.tac_simulation.proofs.Going.{assigns}
use Rattle.tac_simulation.proofs.Finding.{then_find}
use Rattle.tac_simulation.proofs.Stored.{then_write, with_stored, was_stored}
use Rattle.tac_simulation.proofs.Assigned.{then_does}

-- a register that is named keeps what it holds where a new one is written, a local's too
pub kept_named : (counts : Counts) (written : Register) (held : Option M.Value) (registers : Registers) → IsFrom counts written → IsNoLocal written → (register : Register) → IsNamed counts register
    → with_register written held registers register ≡ registers register
kept_named counts written held registers new apart (R.Local local) named = cond-false (same_register written (R.Local local)) held (registers (R.Local local)) (no_local written local apart)
kept_named counts written held registers new apart (R.Call number) named = kept_write counts written held registers new (R.Call number) named
kept_named counts written held registers new apart (R.Argument number) named = kept_write counts written held registers new (R.Argument number) named
kept_named counts written held registers new apart (R.Expression number) named = kept_write counts written held registers new (R.Expression number) named
kept_named counts written held registers new apart (R.Temporary number) named = kept_write counts written held registers new (R.Temporary number) named

-- what the value of an assignment will cost
pub stores_laid : (points : List Op) (used : Bool) (path : Path) (own : CType) (given : Lowered) (from to : Spot) (lowered : Lowered) → Stores points used path own given from to lowered → laid_by lowered ≤ 2
stores_laid points true path own (AsInteger int_type tree) from to lowered code = let laid = ap laid_by code.2 in omega (arith, laid)
stores_laid points false path own (AsInteger int_type tree) from to lowered code = let laid = ap laid_by code.1 in omega (arith, laid)
stores_laid points true path own (AsPointer register target) from to lowered code = let laid = ap laid_by code.1 in omega (arith, laid)
stores_laid points false path own (AsPointer register target) from to lowered code = let laid = ap laid_by code.1 in omega (arith, laid)
stores_laid points true path own (AsObject p c) from to lowered code = absurd code
stores_laid points false path own (AsObject p c) from to lowered code = absurd code
stores_laid points true path own AsNothing from to lowered code = absurd code
stores_laid points false path own AsNothing from to lowered code = absurd code

-- what is named keeps
abbrev pub KeepsNamed : Counts → Registers → Registers → Type 0
KeepsNamed counts before after = (register : Register) → IsNamed counts register → after register ≡ before register

pub named_before_keeps : (counts : Counts) (before after : Registers) → KeepsNamed counts before after → KeepsBefore counts before after
named_before_keeps counts before after keeps register named = keeps register (before_named counts register named)

module _ (program : Program) (frame : Frame) (placement : Placement) (counts : Counts) (before after : Registers) (keeps : KeepsNamed counts before after) where
  pub path_keeps : (path : Path) (own : CType) (place : Place) → PathNamed counts path → PathStands program frame placement before path own place → PathStands program frame placement after path own place
  path_keeps path own place named stands =
      (stands.0, stands.1, path_same (IsNamed counts) before after keeps (surroundings program frame) path (path_more (IsNamed counts) (IsNamed counts) (λ r h. h) (IsBefore counts) (IsNamed counts) (before_named counts) path named) ∙ stands.2, stands.3)

module _ (tac : Tac) (program : Program) (calls : Calls) (worth : ℕ) (points : List Op) (placement : Placement) (hidden : ℕ → Option V.Content) (frame : Frame) (scope : Scope)
    (runs : Runs tac program points frame) (well : IsWellTyped program) (keep : CallsKeep program calls) where
  abbrev Follows : Value → Type 0
  Follows tree = ValueDoes tac program calls worth points placement hidden frame scope tree

  abbrev around : Context
  around = context_of program scope

  -- an operand comes to its value while a path is kept, and the evaluation goes on
  pub then_operand : {B : Type 0} {Stands : Stand B} {start : State} {n lag lag' slack slack' : ℕ} (object : Object) (tree : Value) → Follows tree → ValueRests tac program calls worth points placement hidden frame scope runs well keep tree → (next : Scalar → Eval B)
      → (first from to : Spot) (path : Path) (own : CType) (place : Place) (lowered : Lowered) (t : CType) → ObjectCode program points scope false (not (is_pure scope tree)) object first from (AsObject path own)
      → ValueCode program points scope Kept tree from to lowered → type_of around tree ≡ Some t → makes (is_storable program.structs) tree ≡ true
      → (s : S.State) (state : State) → PathStands program frame placement state.running.registers path own place
      → Passing tac worth start state n s.units lag slack → AtSpot tac program calls worth points placement hidden frame scope from.at s state → lag + value_units tree ≤ lag'
      → ((scalar : Scalar) (s' : S.State) (state' : State) → Passing tac worth start state' n s'.units (lag + value_units tree) (slack + (laid_by lowered + left_for tree))
      → ComesToValue tac program calls worth points placement hidden frame scope Kept from to lowered state.running.registers scalar s' state' → Keeps around s s' → HasType program s' t scalar
      → PathStands program frame placement state'.running.registers path own place
      → Does tac worth start n lag' slack' Stands (next scalar s'))
      → Does tac worth start n lag' slack' Stands (continue_with next (value (around_of program) calls tree s))
  then_operand {B} {Stands} {start} {n} {lag} {lag'} {slack} {slack'} object tree follows rests next first from to path own place lowered t object_code code typed small s state stands p at more rest =
      then_does (value (around_of program) calls tree) next s (by (is_pure scope tree) refl) more (λ scalar s' state' e p' came.
      let keeps = value_keeps program well calls keep (scope_types scope) tree small t typed s at.sound scalar s' e in
      rest scalar s' state' p' came.0 keeps.0 keeps.1 (stands.0, stands.1, came.1 ∙ stands.2, stands.3))
    where
      by : (pure : Bool) → is_pure scope tree ≡ pure → Does tac worth start n (lag + value_units tree) (slack + (laid_by lowered + left_for tree))
          (λ scalar s' state'. ComesToValue tac program calls worth points placement hidden frame scope Kept from to lowered state.running.registers scalar s' state' × (leads (surroundings program frame) state'.running.registers path ≡ leads (surroundings program frame) state.running.registers path))
          (value (around_of program) calls tree s)
      by true e = allows (rests Kept from to lowered t code typed small start n lag slack s state p at) (λ scalar s' state' came. (came.0, ap (λ registers. leads (surroundings program frame) registers path) (came.1 e)))
      by false e = allows (follows Kept from to lowered t code typed small start n lag slack s state p at) (λ scalar s' state' came. (
        came,
        object_leads program points scope (surroundings program frame) state.running.registers state'.running.registers object false first from path own
            (subst (λ b. ObjectCode program points scope false b object first from (AsObject path own)) (ap not e) object_code) came.0.kept,
      ))

  -- behind the code that stores a value
  pub record Behind (used : Bool) (mode : Mode) (from to : Spot) (lowered : Lowered) (scalar : Scalar) (s : S.State) (before after : State) : Type 0 where
    pub there : At program placement hidden frame scope to.at s after
    pub named : KeepsNamed from.counts before.running.registers after.running.registers
    pub stands : LoweredStands program mode frame placement s.objects after.running.registers lowered scalar

  -- a value that has come to its end is stored, and the evaluation goes on
  pub then_store : {B : Type 0} {Stands' : Stand B} {start : State} {n lag lag' slack slack' : ℕ} (between : ℕ) (here : Pos) (further : Outcome Scalar → Outcome B) (used : Bool) (mode : Mode) (from to : Spot) (path : Path) (own t : CType) (place : Place) (given : Lowered) (lowered : Lowered) (scalar : Scalar) (s : S.State) (state : State)
      → Stores points used path own given from to lowered → further (undefined Ub.U06 here s) ≡ undefined Ub.U06 here s
      → Passing tac worth start state n s.units lag slack → At program placement hidden frame scope from.at s state → Sound around s
      → PathStands program frame placement state.running.registers path own place → PathNamed from.counts path → own ≡ t → is_scalar t ≡ true → IsElement program s t place
      → LoweredStands program Kept frame placement s.objects state.running.registers given scalar → HasType program s t scalar → 2 * (between + 3 + path_cost path) + laid_by given ≤ 2 * slack
      → ((s' : S.State) (after : State) → Passing tac worth start after n s'.units lag between → Behind used mode from to lowered scalar s' state after → Keeps around s s' → Does tac worth start n lag' slack' Stands' (further (Then scalar s')))
      → Does tac worth start n lag' slack' Stands' (further (write (around_of program) here place scalar s))
  then_store {B} {Stands'} {start} {n} {lag} {lag'} {slack} {slack'} between here further true mode from to path own t place (AsInteger int_type tree) lowered scalar s state code stopped p h sound stands named same is_scalar_type element value_stands typed less rest =
      let z = value_stands.0 in
      let w = assigns tac program worth points placement hidden frame scope runs (between + path_cost path + 2) (temporary from) tree from.at z s state p h code.0 value_stands.2 tt (omega (arith, less)) in
      let keeps : KeepsNamed from.counts state.running.registers (with_register (temporary from) (Some (M.Number z)) state.running.registers) =
      kept_named from.counts (temporary from) (Some (M.Number z)) state.running.registers (omega arith) tt in
      let middle = with_written tac program points placement hidden frame scope runs (temporary from) (M.Number z) state in
      let there : with_register (temporary from) (Some (M.Number z)) state.running.registers (temporary from) ≡ Some (M.Number z) = written_there (temporary from) (Some (M.Number z)) state.running.registers in
      then_write tac program worth points placement hidden frame scope runs well between here further (O.IntegerOperand (O.Held (temporary from))) (suc from.at) t own path place scalar (M.Number z) s middle stopped w.passing w.there sound
      (path_keeps program frame placement from.counts state.running.registers middle.running.registers keeps path own place named stands) same is_scalar_type element code.1.0 (rw there refl)
      (subst (λ x. ScalarStands program s.objects placement x (M.Number z)) (sym value_stands.1) refl) typed (omega arith) (λ object wrote.
      let after = with_stored object (offset_of (around_of program) place) (M.Number z) middle in
      let s' = was_stored place.name (offset_of (around_of program) place) scalar s in
      rest s' after wrote.passing (record {
        there = subst (λ (spot : Spot). At program placement hidden frame scope spot.at s' after) (sym code.1.1) wrote.there;
        named = keeps;
        stands = subst (λ l. LoweredStands program mode frame placement s'.objects after.running.registers l scalar) (sym code.2) (z, value_stands.1, ap integer_in there);
      }) wrote.keeps)
  then_store {B} {Stands'} {start} {n} {lag} {lag'} {slack} {slack'} between here further false mode from to path own t place (AsInteger int_type tree) lowered scalar s state code stopped p h sound stands named same is_scalar_type element value_stands typed less rest =
      let z = value_stands.0 in
      then_write tac program worth points placement hidden frame scope runs well between here further (O.IntegerOperand tree) from.at t own path place scalar (M.Number z) s state stopped p h sound
      stands same is_scalar_type element code.0.0 (rw value_stands.2 refl)
      (subst (λ x. ScalarStands program s.objects placement x (M.Number z)) (sym value_stands.1) refl) typed (omega (arith, less)) (λ object wrote.
      let after = with_stored object (offset_of (around_of program) place) (M.Number z) state in
      let s' = was_stored place.name (offset_of (around_of program) place) scalar s in
      rest s' after wrote.passing (record {
        there = subst (λ (spot : Spot). At program placement hidden frame scope spot.at s' after) (sym code.0.1) wrote.there;
        named = λ register is. refl;
        stands = subst (λ l. LoweredStands program mode frame placement s'.objects after.running.registers l scalar) (sym code.1) tt;
      }) wrote.keeps)
  then_store {B} {Stands'} {start} {n} {lag} {lag'} {slack} {slack'} between here further used mode from to path own t place (AsPointer register target) lowered scalar s state code stopped p h sound stands named same is_scalar_type element value_stands typed less rest = by used code
    where
      pointer_stored : Stores points false path own (AsPointer register target) from to lowered → Does tac worth start n lag' slack' Stands' (further (write (around_of program) here place scalar s))
      pointer_stored code' =
          then_write tac program worth points placement hidden frame scope runs well between here further (O.PointerOperand register) from.at t own path place scalar value_stands.0 s state stopped p h sound
          stands same is_scalar_type element code'.0.0 value_stands.1 value_stands.2 typed (omega (arith, less)) (λ object wrote.
          let after = with_stored object (offset_of (around_of program) place) value_stands.0 state in
          let s' = was_stored place.name (offset_of (around_of program) place) scalar s in
          rest s' after wrote.passing (record {
            there = subst (λ (spot : Spot). At program placement hidden frame scope spot.at s' after) (sym code'.0.1) wrote.there;
            named = λ other is. refl;
            stands = subst (λ l. LoweredStands program mode frame placement s'.objects after.running.registers l scalar) (sym code'.1)
                (value_stands.0, value_stands.1, value_lasts program placement s.objects s'.objects wrote.lives scalar value_stands.0 value_stands.2);
          }) wrote.keeps)

      by : (b : Bool) → Stores points b path own (AsPointer register target) from to lowered → Does tac worth start n lag' slack' Stands' (further (write (around_of program) here place scalar s))
      by true code' = pointer_stored code'
      by false code' = pointer_stored code'
  then_store between here further true mode from to path own t place (AsObject p' c) lowered scalar s state code stopped p h sound stands named same is_scalar_type element value_stands typed less rest = absurd code
  then_store between here further false mode from to path own t place (AsObject p' c) lowered scalar s state code stopped p h sound stands named same is_scalar_type element value_stands typed less rest = absurd code
  then_store between here further true mode from to path own t place AsNothing lowered scalar s state code stopped p h sound stands named same is_scalar_type element value_stands typed less rest = absurd code
  then_store between here further false mode from to path own t place AsNothing lowered scalar s state code stopped p h sound stands named same is_scalar_type element value_stands typed less rest = absurd code

  -- `o = v`, where o is in memory
  pub assigns_object : (place : Pos) (object : Object) (operand : Value) → FindDoes tac program calls worth points placement hidden frame scope object → Follows operand → ValueRests tac program calls worth points placement hidden frame scope runs well keep operand
      → (mode : Mode) (from to : Spot) (lowered : Lowered) (t : CType) → AssignCode points (is_used mode) None (ObjectCode program points scope false (not (is_pure scope operand)) object) (ValueCode program points scope Kept operand) from to lowered
      → type_of around (T.Assign place object operand) ≡ Some t → makes (is_storable program.structs) (T.Assign place object operand) ≡ true
      → (start : State) (n lag slack : ℕ) (s : S.State) (state : State) → Passing tac worth start state n s.units lag slack → AtSpot tac program calls worth points placement hidden frame scope from.at s state
      → Does tac worth start n (lag + value_units (T.Assign place object operand)) (slack + (laid_by lowered + 6)) (ComesToValue tac program calls worth points placement hidden frame scope mode from to lowered state.running.registers)
      (value (around_of program) calls (T.Assign place object operand) s)
  assigns_object place object operand finds follows rests mode from to lowered t code typed small start n lag slack s state p at =
      let parts = first_parts (type_of_object around object) (type_of around operand) (λ a b. is_scalar a && same_type a b) t typed in
      let tests = and_parts (is_scalar t) (same_type t parts.b) parts.holds in
      let sizes = and_parts (object_makes (is_storable program.structs) object) (makes (is_storable program.structs) operand) small in
      let followed = not (is_pure scope operand) in
      let some : 3 ≤ left_for operand = left_most operand in
      ticked tac program calls worth points placement hidden frame scope runs well keep (find (around_of program) calls object >>= λ q. value (around_of program) calls operand >>= λ a. write (around_of program) place q a) from.at s state p at (omega arith) (λ left p1 at1.
      then_find tac program calls worth points placement hidden frame scope runs well keep object finds (λ q. value (around_of program) calls operand >>= λ a. write (around_of program) place q a) followed from code.0 code.2 code.3 t code.5 parts.left sizes.0
      (record s { units = left }) state p1 at1 (omega arith) (λ q s2 state2 p2 came keeps element.
      let names = object_named program points scope object false followed from code.0 (AsObject code.2 code.3) code.5 in
      then_operand object operand follows rests (λ a. write (around_of program) place q a) from code.0 code.1 code.2 code.3 q code.4 parts.b code.5 code.6 parts.right sizes.1 s2 state2 came.1 p2 (record { stands = came.0.there; sound = keeps.sound }) (omega arith)
      (λ scalar s3 state3 p3 came3 keeps3 has path_stands.
      let later = value_named program points scope operand Kept code.0 code.1 code.4 code.6 in
      then_store (slack + (laid_by lowered + 6)) place (λ outcome. outcome) (is_used mode) mode code.1 to code.2 code.3 t q code.4 lowered scalar s3 state3 code.7 refl p3 came3.0.there keeps3.sound path_stands
      (lowered_later later.grows (AsObject code.2 code.3) names.named) (sym (object_form program points scope object false followed t from code.0 (AsObject code.2 code.3) parts.left code.5)) tests.0
      (element_lasts program keeps3.later t q element) came3.1 (subst (λ u. HasType program s3 u scalar) (sym (same_type-true t parts.b tests.1)) has)
      (let laid = stores_laid points (is_used mode) code.2 code.3 code.4 code.1 to lowered code.7 in omega (arith, laid, some))
      (λ s4 after p4 stored keeps4.
      comes scalar s4 after (eased p4 (omega arith) (omega arith)) (
        record {
          there = stored.there;
          kept = keeps_then from.counts state.running.registers state2.running.registers after.running.registers came.0.kept (keeps_fewer state2.running.registers after.running.registers names.grows
              (keeps_then code.0.counts state2.running.registers state3.running.registers after.running.registers came3.0.kept (keeps_fewer state3.running.registers after.running.registers later.grows
              (named_before_keeps code.1.counts state3.running.registers after.running.registers stored.named))));
        },
        stood mode _ stored.stands,
      )))))
