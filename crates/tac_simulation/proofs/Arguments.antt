-- Arguments come to registers of their own, in their order: each leaves ticks by its type.
use Rattle.std.proofs.Common.{◌≡◌, ℕ, ◌+◌, ◌≤◌, ◌<◌, true, List, [], ◌∷◌, Option, Some, refl, sym, ap, ◌∙◌, subst, arith}
use Rattle.std.proofs.lemmas.Bool.{and_parts}
use Rattle.std.proofs.lemmas.Option.{same_Some}
use Rattle.c_typed.specs.Types.{CType, CTypes, NoTypes, MoreTypes, Pointer}
use Rattle.c_typed.specs.Typed as T
use Rattle.c_typed.specs.Typed.{Value, Values, Designator, Program}
use Rattle.c_typed.specs.Expressions.{is_scalar, type_of, types_of, type_of_designator}
use Rattle.c_typed.specs.Programs.{IsWellTyped}
use Rattle.c_typed.specs.Sizes.{makes, all_make, designator_makes, is_storable}
use Rattle.ref_semantics.specs.Values as V
use Rattle.ref_semantics.specs.Values.{Scalar}
use Rattle.ref_semantics.specs.Store as S
use Rattle.ref_semantics.specs.Store.{Outcome, Eval, ◌>>=◌, give, continue_with}
use Rattle.ref_semantics.specs.Meaning.{Calls, values, designated}
use Rattle.ref_semantics.specs.First.{around_of}
use Rattle.ref_semantics.specs.Sound.{HasType, HaveTypes}
use Rattle.ref_semantics.specs.Keeping.{Keeps, CallsKeep}
use Rattle.ref_semantics.proofs.ValuesKeep.{values_keep, designated_keeps}
use Rattle.c_typed.proofs.Splitting.{two_parts}
use Rattle.tac_ir.specs.declared.register.Register.{Register}
use Rattle.tac_ir.specs.Code.{Op, Callee, Tac}
use Rattle.tac_ir.specs.Code as O
use Rattle.tac_ir.specs.Values as M
use Rattle.tac_ir.specs.Costs.{more_cost}
use Rattle.tac_ir.specs.States.{State, write, given}
use Rattle.tac_ir.specs.Meaning.{execute}
use Rattle.tac_build.specs.Homes.{Scope}
use Rattle.tac_build.specs.Spots.{Spot, behind, with_argument, argument, Lowered, AsInteger, AsPointer, AsObject, AsNothing, Kept}
use Rattle.tac_build.specs.Code.{HasOp, Writes, ArgumentsCode, DesignatorCode}
use Rattle.tac_build.specs.Forms.{scope_types, context_of, HasForm, SpotGrows}
use Rattle.tac_simulation.specs.Standing.{Placement, Frame, At, ScalarStands, LoweredStands, surroundings}
use Rattle.tac_simulation.proofs.Paths.{Stand, Passage as Passing, Does, comes, stops, stepped, eased, eases}
use Rattle.tac_simulation.proofs.Spotting.{Runs, kept_same, kept_write, written_there, before_at, around_is, with_written, at_written}
use Rattle.tac_simulation.proofs.Evaluating
use Rattle.tac_simulation.proofs.Evaluating.{laid_by, passed_ticks, all_passed_ticks, value_units, values_units, designator_units}
use Rattle.tac_build.proofs.Naming.{grows_then, grows_to, behind_grows, argument_grows, before_more}
use Rattle.tac_build.proofs.Named.{value_named}
use Rattle.tac_build.proofs.Forms.{value_form}
use Rattle.tac_simulation.proofs.Lasting.{holds_later}
use Rattle.tac_simulation.proofs.Going.{some_node}
use Rattle.tac_simulation.proofs.Combining.{then_value}
use Rattle.tac_simulation.proofs.Constants.{left_most}

module _ (tac : Tac) (program : Program) (calls : Calls) (worth : ℕ) (points : List Op) (placement : Placement) (hidden : ℕ → Option V.Content) (frame : Frame) (scope : Scope)
    (runs : Runs tac program points frame) (well : IsWellTyped program) (keep : CallsKeep program calls) where
  abbrev Follows : Value → Type 0
  Follows tree = Evaluating.ValueDoes tac program calls worth points placement hidden frame scope tree

  abbrev Passed : Values → Type 0
  Passed trees = Evaluating.ArgumentsDo tac program calls worth points placement hidden frame scope trees

  abbrev Leads : Designator → Type 0
  Leads tree = Evaluating.DesignatorDoes tac program calls worth points placement hidden frame scope tree

  abbrev Spotted : ℕ → S.State → State → Type 0
  Spotted at s state = Evaluating.AtSpot tac program calls worth points placement hidden frame scope at s state

  abbrev written_state : Register → M.Value → State → State
  written_state register value state = with_written tac program points placement hidden frame scope runs register value state

  -- ---- what goes on behind a part

  -- a point writes a register, and the code goes on
  pub writes_on : {start : State} {n lag slack : ℕ} (slack' : ℕ) (op : Op) (register : Register) (written : M.Value) (at : ℕ) (s : S.State) (state : State)
      → Passing tac worth start state n s.units lag slack → At program placement hidden frame scope at s state → HasOp points at op
      → execute tac (surroundings program frame) op state ≡ write register written state → slack' + more_cost op < slack
      → Passing tac worth start (written_state register written state) n s.units lag slack'
  writes_on slack' op register written at s state p h has does less =
      stepped p (record {
        before = before_at tac program points placement hidden frame scope runs at op s state has h;
        does = ap (λ around. execute tac around op state) (around_is tac program points placement hidden frame scope runs at s state h) ∙ does;
      }) (omega arith) less

  pub then_values : {B : Type 0} {Stands : Stand B} {start : State} {n lag lag' slack slack' : ℕ} (trees : Values) → Passed trees → (next : List Scalar → Eval B)
      → (from to : Spot) (registers : List Register) (types : CTypes) → ArgumentsCode program points scope trees from to registers → types_of (context_of program scope) trees ≡ Some types → all_make (is_storable program.structs) trees ≡ true
      → (s : S.State) (state : State) → Passing tac worth start state n s.units lag slack → Spotted from.at s state → lag + values_units trees ≤ lag'
      → ((scalars : List Scalar) (s' : S.State) (state' : State) → Passing tac worth start state' n s'.units (lag + values_units trees) (slack + all_passed_ticks types)
      → Evaluating.ComesToArguments tac program calls worth points placement hidden frame scope from to registers state.running.registers scalars s' state' → Keeps (context_of program scope) s s' → HaveTypes program s' types scalars
      → Does tac worth start n lag' slack' Stands (next scalars s'))
      → Does tac worth start n lag' slack' Stands (continue_with next (values (around_of program) calls trees s))
  then_values {B} {Stands} {start} {n} {lag} {lag'} {slack} {slack'} trees does next from to registers types code typed small s state p at more rest =
      by (values (around_of program) calls trees s) refl (does from to registers types code typed small start n lag slack s state p at)
    where
      by : (outcome : Outcome (List Scalar)) → values (around_of program) calls trees s ≡ outcome
          → Does tac worth start n (lag + values_units trees) (slack + all_passed_ticks types) (Evaluating.ComesToArguments tac program calls worth points placement hidden frame scope from to registers state.running.registers) outcome
          → Does tac worth start n lag' slack' Stands (continue_with next outcome)
      by _ e (comes scalars s' state' p' comes_to) =
          let keeps = values_keep program well calls keep (scope_types scope) trees small types typed s at.sound scalars s' e in
          rest scalars s' state' p' comes_to keeps.0 keeps.1
      by _ e (stops answer s' a) = let same : Does tac worth start n (lag + values_units trees) slack' Stands (S.Stopped answer s') = stops answer s' a in eases same more (omega arith)

  pub then_designated : {B : Type 0} {Stands : Stand B} {start : State} {n lag lag' slack slack' : ℕ} (tree : Designator) → Leads tree → (next : Scalar → Eval B)
      → (from to : Spot) (callee : Callee) (c_type t : CType) → DesignatorCode program points scope tree from to callee c_type → type_of_designator (context_of program scope) tree ≡ Some t → designator_makes (is_storable program.structs) tree ≡ true
      → (s : S.State) (state : State) → Passing tac worth start state n s.units lag slack → Spotted from.at s state → lag + designator_units tree ≤ lag'
      → ((scalar : Scalar) (s' : S.State) (state' : State) → Passing tac worth start state' n s'.units (lag + designator_units tree) (slack + 3)
      → Evaluating.ComesToCallee tac program calls worth points placement hidden frame scope from to callee state.running.registers scalar s' state' → Keeps (context_of program scope) s s' → HasType program s' (Pointer t) scalar
      → Does tac worth start n lag' slack' Stands (next scalar s'))
      → Does tac worth start n lag' slack' Stands (continue_with next (designated (around_of program) calls tree s))
  then_designated {B} {Stands} {start} {n} {lag} {lag'} {slack} {slack'} tree does next from to callee c_type t code typed small s state p at more rest =
      by (designated (around_of program) calls tree s) refl (does from to callee c_type t code typed small start n lag slack s state p at)
    where
      by : (outcome : Outcome Scalar) → designated (around_of program) calls tree s ≡ outcome
          → Does tac worth start n (lag + designator_units tree) (slack + 3) (Evaluating.ComesToCallee tac program calls worth points placement hidden frame scope from to callee state.running.registers) outcome
          → Does tac worth start n lag' slack' Stands (continue_with next outcome)
      by _ e (comes scalar s' state' p' comes_to) =
          let keeps = designated_keeps program well calls keep (scope_types scope) tree small t typed s at.sound scalar s' e in
          rest scalar s' state' p' comes_to keeps.0 keeps.1
      by _ e (stops answer s' a) = let same : Does tac worth start n (lag + designator_units tree) slack' Stands (S.Stopped answer s') = stops answer s' a in eases same more (omega arith)

  -- ---- what a value comes to is written to a register

  pub record Written (register : Register) (lowered : Lowered) (t : CType) (mid next : Spot) (a : Scalar) (objects : S.Objects) (state : State) : Type 0 where
    pub op : Op
    pub value : M.Value
    pub has : HasOp points mid.at op
    pub does : execute tac (surroundings program frame) op state ≡ write register value state
    pub next_is : next ≡ behind mid
    pub stands : ScalarStands program objects placement a value
    pub cost : passed_ticks t + more_cost op < laid_by lowered + 3
    pub scalar : is_scalar t ≡ true

  pub is_written : (register : Register) (lowered : Lowered) (t : CType) (mid next : Spot) (a : Scalar) (objects : S.Objects) (state : State) → HasForm Kept lowered t → Writes points register lowered mid next
      → LoweredStands program Kept frame placement objects state.running.registers lowered a → Written register lowered t mid next a objects state
  is_written register (AsInteger own tree) t mid next a objects state form code stands = record {
    op = O.Assign register tree;
    value = M.Number stands.0;
    has = code.0;
    does = ap (λ found. given found state (λ z. write register (M.Number z) state)) stands.2;
    next_is = code.1;
    stands = subst (λ scalar. ScalarStands program objects placement scalar (M.Number stands.0)) (sym stands.1) refl;
    cost = subst (λ u. passed_ticks u + more_cost (O.Assign register tree) < laid_by (AsInteger own tree) + 3) (sym form) (let some = some_node tree in omega (arith, some));
    scalar = subst (λ u. is_scalar u ≡ true) (sym form) refl;
  }
  is_written register (AsPointer pointer target) t mid next a objects state form code stands = record {
    op = O.Copy register pointer;
    value = stands.0;
    has = code.0;
    does = ap (λ found. given found state (λ value. write register value state)) stands.1;
    next_is = code.1;
    stands = stands.2;
    cost = subst (λ u. passed_ticks u + more_cost (O.Copy register pointer) < laid_by (AsPointer pointer target) + 3) (sym form) (omega arith);
    scalar = subst (λ u. is_scalar u ≡ true) (sym form) refl;
  }
  is_written register (AsObject path own) t mid next a objects state form code stands = absurd code
  is_written register AsNothing t mid next a objects state form code stands = absurd code

  -- ---- arguments

  pub no_arguments : Passed T.NoValues
  no_arguments from to registers types code typed small start n lag slack s state p at =
      comes [] s state (eased p (omega arith) (subst (λ us. slack + all_passed_ticks us ≤ slack) (same_Some NoTypes types typed) (omega arith))) (
        record { there = subst (λ (spot : Spot). At program placement hidden frame scope spot.at s state) (sym code.0) at.stands; kept = kept_same from.counts state.running.registers },
        subst (λ rs. Evaluating.AllHold tac program calls worth points placement hidden frame scope s.objects state.running.registers rs []) (sym code.1) tt,
      )

  pub more_arguments : (first : Value) (others : Values) → Follows first → Passed others → Passed (T.MoreValues first others)
  more_arguments first others one rest from to registers types code typed small start n lag slack s state p at =
      let sizes = and_parts (makes (is_storable program.structs) first) (all_make (is_storable program.structs) others) small in
      let parts = two_parts (type_of (context_of program scope) first) (types_of (context_of program scope) others) (λ t types. Some (MoreTypes t types)) types typed in
      let form = value_form program points scope first Kept parts.a (with_argument from) code.0 code.2 parts.left code.4 in
      let named = value_named program points scope first Kept (with_argument from) code.0 code.2 code.4 in
      let left = left_most first in
      then_value tac program calls worth points placement hidden frame scope runs well keep first one (λ a. values (around_of program) calls others >>= λ given. give (a ∷ given)) Kept (with_argument from) code.0 code.2 parts.a code.4 parts.left sizes.0
      s state p (record { stands = at.stands; sound = at.sound }) (omega arith) (λ a s1 state1 p1 come keeps holds.
      let w = is_written (argument from) code.2 parts.a code.0 code.1 a s1.objects state1 form code.5 come.1 in
      let state2 = written_state (argument from) w.value state1 in
      let grows : SpotGrows (with_argument from) code.1 = grows_then named.grows (grows_to w.next_is (behind_grows code.0)) in
      let p2 : Passing tac worth start state2 n s1.units (lag + value_units first) (slack + passed_ticks parts.a) =
      writes_on (slack + passed_ticks parts.a) w.op (argument from) w.value code.0.at s1 state1 p1 come.0.there w.has w.does (let cost = w.cost in omega (arith, cost, left)) in
      let there : At program placement hidden frame scope code.1.at s1 state2 =
      subst (λ (spot : Spot). At program placement hidden frame scope spot.at s1 state2) (sym w.next_is)
      (at_written tac program points placement hidden frame scope runs code.0.at (argument from) w.value s1 state1 tt come.0.there) in
      then_values others rest (λ given. give (a ∷ given)) code.1 to code.3 parts.b code.6 parts.right sizes.1 s1 state2 p2 (record { stands = there; sound = keeps.sound }) (omega arith) (λ scalars s2 state3 p3 come2 keeps2 hold2.
      comes (a ∷ scalars) s2 state3 (eased p3 (omega arith) (subst (λ us. slack + all_passed_ticks us ≤ slack + passed_ticks parts.a + all_passed_ticks parts.b) (same_Some (MoreTypes parts.a parts.b) types parts.gave) (omega arith))) (
        record {
          there = come2.0.there;
          kept = λ register before. come2.0.kept register (before_more (grows_then (argument_grows from) grows) register before)
              ∙ (kept_write from.counts (argument from) (Some w.value) state1.running.registers (omega arith) register before ∙ come.0.kept register (before_more (argument_grows from) register before));
        },
        subst (λ rs. Evaluating.AllHold tac program calls worth points placement hidden frame scope s2.objects state3.running.registers rs (a ∷ scalars)) (sym code.7)
            (let holds2 = holds_later program placement s1 s2 keeps2.later parts.a a (state2.running.registers (argument from)) w.scalar holds (w.value, written_there (argument from) (Some w.value) state1.running.registers, w.stands) in
            ((holds2.0, come2.0.kept (argument from) (let more = grows.arguments in omega (arith, more)) ∙ holds2.1, holds2.2), come2.1)),
      )))
