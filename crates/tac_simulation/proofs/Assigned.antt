-- The code of assignments to locals in registers.
use Rattle.std.proofs.Common.{◌≡◌, ℕ, suc, ◌+◌, ◌≤◌, ◌<◌, true, false, not, ◌&&◌, List, Option, Some, refl, sym, ap, ◌∙◌, subst, arith}
use Rattle.std.proofs.lemmas.Bool.{and_parts}
use Rattle.run_theory.specs.declared.place.Pos.{Pos}
use Rattle.c_typed.specs.Types.{CType, same_type}
use Rattle.c_typed.specs.Typed as T
use Rattle.c_typed.specs.Typed.{Value, Object, Program}
use Rattle.c_typed.specs.Context.{Context}
use Rattle.c_typed.specs.Expressions.{is_scalar, type_of, type_of_object}
use Rattle.c_typed.specs.Programs.{IsWellTyped}
use Rattle.c_typed.specs.Sizes.{makes, object_makes, is_storable}
use Rattle.ref_semantics.specs.Values as V
use Rattle.ref_semantics.specs.Values.{Place, Scalar, LocalObject, object_place}
use Rattle.ref_semantics.specs.Store as S
use Rattle.ref_semantics.specs.Store.{Outcome, Then, Eval, ◌>>=◌, continue_with, offset_of}
use Rattle.ref_semantics.specs.Pointers.{write}
use Rattle.ref_semantics.specs.Meaning.{Calls, value, find}
use Rattle.ref_semantics.specs.First.{around_of}
use Rattle.ref_semantics.specs.Keeping.{CallsKeep, IsElement}
use Rattle.ref_semantics.proofs.ValuesKeep.{find_keeps}
use Rattle.c_typed.proofs.Splitting.{first_parts}
use Rattle.tac_ir.specs.declared.register.Register.{Register}
use Rattle.tac_ir.specs.declared.register.Register.TheVariants as R
use Rattle.tac_ir.specs.Code.{Op, Tac}
use Rattle.tac_ir.specs.Code as O
use Rattle.tac_ir.specs.Values as M
use Rattle.tac_ir.specs.Trees.{Registers, with_register, integer_in}
use Rattle.tac_ir.specs.Costs.{more_cost}
use Rattle.tac_ir.specs.States.{State, write as write_register}
use Rattle.tac_ir.specs.Meaning.{execute}
use Rattle.tac_build.specs.Homes.{Home, Scope, register_home, is_pure}
use Rattle.tac_build.specs.Spots.{Spot, Lowered, AsInteger, AsPointer, AsObject, AsNothing, Mode, Kept, is_used}
use Rattle.tac_build.specs.Code.{HasOp, WritesLocal, AssignCode, ValueCode, ObjectCode}
use Rattle.tac_build.specs.Forms.{scope_types, context_of, LoweredNamed}
use Rattle.tac_simulation.specs.Standing.{Placement, Frame, KeepsBefore, At, ScalarStands, LoweredStands, surroundings}
use Rattle.tac_simulation.proofs.Paths.{Stand, Passage as Passing, Passes, Does, comes, stops, stepped, eased, eases, slower}
use Rattle.tac_simulation.proofs.Spotting.{Runs, kept_write, written_there, before_at, around_is, with_written}
use Rattle.tac_simulation.proofs.Evaluating.{ValueDoes, AtSpot, ComesToValue, value_units, object_units, laid_by, left_for, stood}
use Rattle.tac_simulation.proofs.Combining.{ticked, then_value}
use Rattle.tac_simulation.proofs.Constants.{left_most}
use Rattle.tac_simulation.proofs.Alive.{value_lasts}
use Rattle.tac_build.proofs.Named.{value_named}
use Rattle.tac_simulation.proofs.Assigning.{IsHome, own_at, own_lives, local_holds, at_local_written, is_home, same_length}
use Rattle.tac_simulation.proofs.Finding.{finds_local}

-- an evaluation comes to its value, and the next one goes on
pub then_does : {tac : Tac} {worth : ℕ} {A B : Type 0} {Stands : Stand A} {Stands' : Stand B} {start : State} {n lag lag' slack slack' : ℕ} (eval : Eval A) (next : A → Eval B) (s : S.State)
    → Does tac worth start n lag slack Stands (eval s) → lag ≤ lag'
    → ((a : A) (s' : S.State) (state : State) → eval s ≡ Then a s' → Passing tac worth start state n s'.units lag slack → Stands a s' state → Does tac worth start n lag' slack' Stands' (next a s'))
    → Does tac worth start n lag' slack' Stands' (continue_with next (eval s))
then_does {tac} {worth} {A} {B} {Stands} {Stands'} {start} {n} {lag} {lag'} {slack} {slack'} eval next s does more rest = by (eval s) refl does
  where
    by : (outcome : Outcome A) → eval s ≡ outcome → Does tac worth start n lag slack Stands outcome → Does tac worth start n lag' slack' Stands' (continue_with next outcome)
    by _ e (comes a s' state p stands) = rest a s' state e p stands
    by _ e (stops answer s' a) = let same : Does tac worth start n lag slack' Stands' (S.Stopped answer s') = stops answer s' a in eases same more (omega arith)

-- a local as it is written
pub local_write : (program : Program) (here : Pos) (home : Home) (number : ℕ) (held : ℕ → Option Scalar) (scalar : Scalar) (s : S.State) → s.objects (LocalObject number) ≡ V.Elements false home.c_type 1 held
    → write (around_of program) here (object_place (LocalObject number) home.c_type) scalar s ≡ Then scalar (local_holds number scalar s)
local_write program here home number held scalar s is =
    let first : offset_of (around_of program) (object_place (LocalObject number) home.c_type) ≡ 0 = omega arith in
    rw (first, is) refl

module _ (tac : Tac) (program : Program) (calls : Calls) (worth : ℕ) (points : List Op) (placement : Placement) (hidden : ℕ → Option V.Content) (frame : Frame) (scope : Scope)
    (runs : Runs tac program points frame) (well : IsWellTyped program) (keep : CallsKeep program calls) where
  abbrev pub FollowsValue : Value → Type 0
  FollowsValue tree = ValueDoes tac program calls worth points placement hidden frame scope tree

  abbrev pub around : Context
  around = context_of program scope

  -- a local in a register is found, and the evaluation goes on: no point is passed
  pub then_local : {B : Type 0} {Stands : Stand B} {start : State} {n lag lag' slack slack' : ℕ} (object : Object) (home : Home) → register_home scope object ≡ Some home → (next : Place → Eval B)
      → (at : ℕ) (t : CType) → type_of_object around object ≡ Some t → object_makes (is_storable program.structs) object ≡ true
      → (s : S.State) (state : State) → Passing tac worth start state n s.units lag slack → AtSpot tac program calls worth points placement hidden frame scope at s state → lag + object_units object ≤ lag'
      → ((number : ℕ) (s' : S.State) → Passing tac worth start state n s'.units (lag + object_units object) (slack + 6) → AtSpot tac program calls worth points placement hidden frame scope at s' state
      → IsHome scope s'.locals home number → home.is_object ≡ false → IsElement program s' t (object_place (LocalObject number) home.c_type)
      → Does tac worth start n lag' slack' Stands (next (object_place (LocalObject number) home.c_type) s'))
      → Does tac worth start n lag' slack' Stands (continue_with next (find (around_of program) calls object s))
  then_local {B} {Stands} {start} {n} {lag} {lag'} {slack} {slack'} object home is next at t typed small s state p h more rest =
      then_does (find (around_of program) calls object) next s (finds_local tac program calls worth points placement hidden frame scope runs well keep object home is at start n lag slack s state p h) more (λ place s' state' e p' found.
      let keeps = find_keeps program well calls keep (scope_types scope) object small t typed s h.sound place s' e in
      let p'' : Passing tac worth start state' n s'.units (lag + object_units object) (slack + 6) = slower (slack + 6) p' (omega arith) in
      let there : AtSpot tac program calls worth points placement hidden frame scope at s' state = subst (λ u. AtSpot tac program calls worth points placement hidden frame scope at s' u) found.same found.there in
      subst (λ q. Does tac worth start n lag' slack' Stands (next q s')) (sym found.place_is)
      (rest found.number s' (subst (λ u. Passing tac worth start u n s'.units (lag + object_units object) (slack + 6)) found.same p'') there
      (is_home scope s'.locals found.index home found.number (same_length program placement frame.number s'.objects state.running.registers scope s'.locals there.stands.homes) found.home_is found.name_is) found.is_register
      (subst (λ q. IsElement program s' t q) found.place_is keeps.1)))

  -- behind a point that writes a local on both sides
  pub record LocalWritten (start : State) (n left lag slack : ℕ) (at : ℕ) (home : Home) (number : ℕ) (scalar : Scalar) (written : M.Value) (s : S.State) (before : State) : Type 0 where
    pub passing : Passing tac worth start (with_written tac program points placement hidden frame scope runs (R.Local home.local) written before) n left lag slack
    pub there : At program placement hidden frame scope (suc at) (local_holds number scalar s) (with_written tac program points placement hidden frame scope runs (R.Local home.local) written before)

  pub writes_local : {start : State} {n left lag slack : ℕ} (slack' : ℕ) (op : Op) (at : ℕ) (home : Home) (number : ℕ) (scalar : Scalar) (written : M.Value) (s : S.State) (state : State)
      → Passing tac worth start state n left lag slack → At program placement hidden frame scope at s state → HasOp points at op
      → execute tac (surroundings program frame) op state ≡ write_register (R.Local home.local) written state → home.is_object ≡ false → IsHome scope s.locals home number
      → ScalarStands program s.objects placement scalar written → slack' + more_cost op < slack
      → LocalWritten start n left lag slack' at home number scalar written s state
  writes_local slack' op at home number scalar written s state p h has does own is stands less =
      let passes : Passes tac op state (with_written tac program points placement hidden frame scope runs (R.Local home.local) written state) = record {
        before = before_at tac program points placement hidden frame scope runs at op s state has h;
        does = ap (λ around. execute tac around op state) (around_is tac program points placement hidden frame scope runs at s state h) ∙ does;
      } in
      record { passing = stepped p passes (omega arith) less; there = at_local_written tac program points placement hidden frame scope runs at home number scalar written s state own is stands h }

  -- a local in a register is written, on both sides, and is the value
  pub puts_local : {start : State} {n lag lag' slack slack' : ℕ} (here : Pos) (op : Op) (home : Home) (number : ℕ) (written : M.Value) (mode : Mode) (from mid to : Spot) (lowered found : Lowered) (before : Registers) (scalar : Scalar) (s : S.State) (state : State)
      → Passing tac worth start state n s.units lag slack → At program placement hidden frame scope mid.at s state → KeepsBefore from.counts before state.running.registers
      → HasOp points mid.at op → execute tac (surroundings program frame) op state ≡ write_register (R.Local home.local) written state → home.is_object ≡ false → IsHome scope s.locals home number
      → ScalarStands program s.objects placement scalar written → to.at ≡ suc mid.at → lowered ≡ found
      → LoweredStands program mode frame placement (local_holds number scalar s).objects (with_register (R.Local home.local) (Some written) state.running.registers) found scalar → lag ≤ lag' → slack' + more_cost op < slack
      → Does tac worth start n lag' slack' (ComesToValue tac program calls worth points placement hidden frame scope mode from to lowered before) (write (around_of program) here (object_place (LocalObject number) home.c_type) scalar s)
  puts_local {start} {n} {lag} {lag'} {slack} {slack'} here op home number written mode from mid to lowered found before scalar s state p at kept has does own is stands next same found_stands more less =
      let held = own_at tac program points placement hidden frame scope runs mid.at home number s state own is at in
      let w = writes_local slack' op mid.at home number scalar written s state p at has does own is stands less in
      let after = with_written tac program points placement hidden frame scope runs (R.Local home.local) written state in
      subst (λ outcome. Does tac worth start n lag' slack' (ComesToValue tac program calls worth points placement hidden frame scope mode from to lowered before) outcome) (sym (local_write program here home number held.held scalar s held.content))
      (comes scalar (local_holds number scalar s) after (eased w.passing more (omega arith)) (
        record {
          there = subst (λ there. At program placement hidden frame scope there (local_holds number scalar s) after) (sym next) w.there;
          kept = λ other named. kept_write from.counts (R.Local home.local) (Some written) state.running.registers tt other named ∙ kept other named;
        },
        stood mode _ (subst (λ l. LoweredStands program mode frame placement (local_holds number scalar s).objects after.running.registers l scalar) (sym same) found_stands),
      ))

  -- a value that has come to its end is written
  pub gives_local : {start : State} {n lag lag' slack : ℕ} (slack' : ℕ) (here : Pos) (home : Home) (number : ℕ) (given : Lowered) (mode : Mode) (from mid to : Spot) (lowered : Lowered) (before : Registers) (scalar : Scalar) (s : S.State) (state : State)
      → WritesLocal points home given mid to lowered
      → ((register : Register) (target : CType) → given ≡ AsPointer register target → with_register (R.Local home.local) (state.running.registers register) state.running.registers register ≡ state.running.registers register)
      → Passing tac worth start state n s.units lag slack → At program placement hidden frame scope mid.at s state → KeepsBefore from.counts before state.running.registers
      → home.is_object ≡ false → IsHome scope s.locals home number → LoweredStands program Kept frame placement s.objects state.running.registers given scalar
      → lag ≤ lag' → slack' + 8 + laid_by given < slack
      → Does tac worth start n lag' (slack' + (laid_by lowered + 6)) (ComesToValue tac program calls worth points placement hidden frame scope mode from to lowered before) (write (around_of program) here (object_place (LocalObject number) home.c_type) scalar s)
  gives_local slack' here home number (AsInteger int_type tree) mode from mid to lowered before scalar s state code apart p at kept own is stands more less =
      puts_local here (O.Assign (R.Local home.local) tree) home number (M.Number stands.0) mode from mid to lowered (AsInteger int_type (O.Held (R.Local home.local))) before scalar s state p at kept code.0.0 (rw stands.2 refl) own is
      (subst (λ x. ScalarStands program s.objects placement x (M.Number stands.0)) (sym stands.1) refl) (ap (λ (spot : Spot). spot.at) code.0.1) code.1
      (stands.0, stands.1, ap integer_in (written_there (R.Local home.local) (Some (M.Number stands.0)) state.running.registers)) more (let laid = ap laid_by code.1 in omega (arith, laid, less))
  gives_local slack' here home number (AsPointer register target) mode from mid to lowered before scalar s state code apart p at kept own is stands more less =
      let held = own_at tac program points placement hidden frame scope runs mid.at home number s state own is at in
      let lives = own_lives tac program points placement hidden frame scope runs home number s state.running.registers scalar held in
      puts_local here (O.Copy (R.Local home.local) register) home number stands.0 mode from mid to lowered (AsPointer register target) before scalar s state p at kept code.0.0 (rw stands.1 refl) own is
      stands.2 (ap (λ (spot : Spot). spot.at) code.0.1) code.1
      (stands.0, (ap (λ v. with_register (R.Local home.local) v state.running.registers register) (sym stands.1) ∙ apart register target refl ∙ stands.1), value_lasts program placement s.objects (local_holds number scalar s).objects lives scalar stands.0 stands.2)
      more (let laid = ap laid_by code.1 in omega (arith, laid, less))
  gives_local slack' here home number (AsObject path own_type) mode from mid to lowered before scalar s state code apart p at kept own is stands more less = absurd code.0
  gives_local slack' here home number AsNothing mode from mid to lowered before scalar s state code apart p at kept own is stands more less = absurd code.0

  -- `x = v`, where x is a local in a register
  pub assigns_local : (place : Pos) (object : Object) (operand : Value) → FollowsValue operand → (home : Home) → register_home scope object ≡ Some home
      → (mode : Mode) (from to : Spot) (lowered : Lowered) (t : CType) → AssignCode points (is_used mode) (Some home) (ObjectCode program points scope false (not (is_pure scope operand)) object) (ValueCode program points scope Kept operand) from to lowered
      → type_of around (T.Assign place object operand) ≡ Some t → makes (is_storable program.structs) (T.Assign place object operand) ≡ true
      → (start : State) (n lag slack : ℕ) (s : S.State) (state : State) → Passing tac worth start state n s.units lag slack → AtSpot tac program calls worth points placement hidden frame scope from.at s state
      → Does tac worth start n (lag + value_units (T.Assign place object operand)) (slack + (laid_by lowered + 6)) (ComesToValue tac program calls worth points placement hidden frame scope mode from to lowered state.running.registers)
      (value (around_of program) calls (T.Assign place object operand) s)
  assigns_local place object operand follows home is mode from to lowered t code typed small start n lag slack s state p at =
      let parts = first_parts (type_of_object around object) (type_of around operand) (λ a b. is_scalar a && same_type a b) t typed in
      let sizes = and_parts (object_makes (is_storable program.structs) object) (makes (is_storable program.structs) operand) small in
      ticked tac program calls worth points placement hidden frame scope runs well keep (find (around_of program) calls object >>= λ q. value (around_of program) calls operand >>= λ a. write (around_of program) place q a) from.at s state p at (omega arith) (λ left p1 at1.
      then_local object home is (λ q. value (around_of program) calls operand >>= λ a. write (around_of program) place q a) from.at t parts.left sizes.0 (record s { units = left }) state p1 at1 (omega arith) (λ number s2 p2 at2 in_scope own element.
      then_value tac program calls worth points placement hidden frame scope runs well keep operand follows (λ a. write (around_of program) place (object_place (LocalObject number) home.c_type) a) Kept from code.0 code.1 parts.b code.2 parts.right sizes.1 s2 state p2 at2 (omega arith) (λ scalar s3 state3 p3 came keeps has.
      let named = value_named program points scope operand Kept from code.0 code.1 code.2 in
      let some : 3 ≤ left_for operand = left_most operand in
      gives_local slack place home number code.1 mode from code.0 to lowered state.running.registers scalar s3 state3 code.3
      (λ register target e. kept_write code.0.counts (R.Local home.local) (state3.running.registers register) state3.running.registers tt register (subst (λ l. LoweredNamed code.0.counts l) e named.named))
      p3 came.0.there came.0.kept own (subst (λ locals. IsHome scope locals home number) (sym keeps.locals) in_scope) came.1 (omega arith) (omega (arith, some)))))
