-- Objects are read on both sides.
use Rattle.std.proofs.Common.{◌≡◌, ℕ, suc, ◌+◌, ◌*◌, ◌≤◌, Bool, true, false, List, [], ◌∷◌, ◌++◌, Option, Some, None, ℤ, refl, sym, ap, ◌∙◌, subst, arith}
use Rattle.std.proofs.lemmas.Bool.{true≢false}
use Rattle.std.proofs.lemmas.List.{append-nil}
use Rattle.std.proofs.lemmas.Option.{none-some, same_Some}
use Rattle.run_theory.specs.declared.place.Pos.{Pos}
use Rattle.run_theory.specs.declared.ends.UbKind.TheVariants as Ub
use Rattle.run_theory.specs.Runs.{Loaded}
use Rattle.c_num.specs.declared.IntType.{IntType}
use Rattle.c_typed.specs.Types.{CType, Void, Integer, Pointer, Array, Struct, Function}
use Rattle.c_typed.specs.Typed as T
use Rattle.c_typed.specs.Typed.{Value, Object, Program, GlobalDef, LiteralDef}
use Rattle.c_typed.specs.Expressions.{is_scalar, type_of_object}
use Rattle.c_typed.specs.Programs.{IsWellTyped}
use Rattle.c_typed.specs.Sizes.{object_makes, is_storable}
use Rattle.ref_semantics.specs.Values as V
use Rattle.ref_semantics.specs.Values.{Name, Heap, GlobalObject, LiteralObject, LocalObject, Place, Scalar, IntegerValue, NullValue, FunctionValue, PointerValue, RawPointer, object_place}
use Rattle.ref_semantics.specs.Store as S
use Rattle.ref_semantics.specs.Store.{Outcome, Then, Eval, premise, continue_with, is_dead, offset_of, scalar_at, scalar_or}
use Rattle.ref_semantics.specs.Meaning.{Calls, value, find}
use Rattle.ref_semantics.specs.Pointers.{loaded, read, access}
use Rattle.ref_semantics.specs.First.{around_of}
use Rattle.ref_semantics.specs.Rows.{LeafAt}
use Rattle.ref_semantics.specs.Sound.{HasType, Sound}
use Rattle.ref_semantics.specs.Keeping.{Keeps, CallsKeep, IsElement}
use Rattle.c_typed.proofs.Splitting.{same_parts}
use Rattle.ref_semantics.proofs.Storing.{read_keeps}
use Rattle.ref_semantics.proofs.ValuesKeep.{find_keeps}
use Rattle.tac_ir.specs.declared.register.Register.{Register}
use Rattle.tac_ir.specs.declared.register.Register.TheVariants as R
use Rattle.tac_ir.specs.Code.{Op, Tac, Path, Held}
use Rattle.tac_ir.specs.Code as O
use Rattle.tac_ir.specs.Events.{TacEvent, ReadFrom, seen}
use Rattle.tac_ir.specs.Values as M
use Rattle.tac_ir.specs.Values.{Number, Address}
use Rattle.tac_ir.specs.Objects.{fits, leads, stands_at, held_at}
use Rattle.tac_ir.specs.Trees.{Registers, integer_in, with_register}
use Rattle.tac_ir.specs.Costs.{path_cost}
use Rattle.tac_ir.specs.States as A
use Rattle.tac_ir.specs.States.{State, write}
use Rattle.tac_ir.specs.Meaning.{execute, load}
use Rattle.tac_ir.proofs.Seen.{seen_append}
use Rattle.tac_ir.specs.First.{named_global, placed_literal}
use Rattle.tac_build.specs.Homes.{Home, Scope, register_home}
use Rattle.tac_build.specs.Spots.{Spot, temporary, expression, Lowered, AsInteger, AsPointer, AsObject, AsNothing, Mode}
use Rattle.tac_build.specs.Code.{HasOp, ReadsLocal, Loads, ReadCode, ObjectCode}
use Rattle.tac_simulation.specs.Comparing.{ticks_per_unit}
use Rattle.tac_build.specs.Forms.{scope_types, context_of, HasForm, SpotGrows}
use Rattle.tac_simulation.specs.Standing.{Placement, Frame, StateStands, KeepsBefore, At, HomeStands, image, global_object, literal_object, HoldsFor, ScalarStands, LoweredStands, PathStands, surroundings}
use Rattle.tac_simulation.proofs.Paths.{Stand, Passage as Passing, Passes, Does, comes, stops, stepped, eased, eases, stray}
use Rattle.tac_simulation.proofs.Spotting.{Runs, IsFrom, IsNoLocal, kept_same, kept_write, written_there, before_at, around_is, with_written, at_written}
use Rattle.tac_simulation.proofs.Evaluating
use Rattle.tac_simulation.proofs.Evaluating.{ValueDoes, laid_by, object_units, stood}
use Rattle.tac_simulation.proofs.Combining.{puts, has_come}
use Rattle.tac_build.proofs.Forms.{value_form, object_form}
use Rattle.tac_simulation.proofs.Accessing.{access_stands, read_stands}
use Rattle.tac_simulation.proofs.Fitting.{stands_fits}
use Rattle.tac_simulation.proofs.Placing.{placed}
use Rattle.tac_simulation.proofs.Placing as Placing
use Rattle.tac_simulation.proofs.Leading.{found_home}
use Rattle.tac_build.proofs.Named.{object_named}
use Rattle.tac_simulation.proofs.Unchanged.{keeps_fewer, keeps_then}
use Rattle.tac_simulation.proofs.Finding.{Finds, FoundLocal, finds_local, then_find, unless_does}

-- ---- what reading gives

-- an object is read where it is alive and holds something
pub read_is : (program : Program) (here : Pos) (place : Place) (s : S.State) (scalar : Scalar) → is_dead (s.objects place.name) ≡ false → scalar_at (around_of program) (s.objects place.name) place ≡ Some scalar
    → read (around_of program) here place s ≡ Then scalar (record s { trace = s.trace ++ access Loaded place.name })
read_is program here place s scalar lives holds = ap (λ (b : Bool). S.unless here (premise b Ub.U06 ∷ []) (loaded here place.name (scalar_at (around_of program) (s.objects place.name) place)) s) lives
    ∙ ap (λ found. loaded here place.name found s) holds

pub read_does : {tac : Tac} {worth : ℕ} {StateStands : Stand Scalar} {start : State} {n lag slack : ℕ} (program : Program) (here : Pos) (place : Place) (s : S.State)
    → ((scalar : Scalar) → is_dead (s.objects place.name) ≡ false → scalar_at (around_of program) (s.objects place.name) place ≡ Some scalar
    → Does tac worth start n lag slack StateStands (Then scalar (record s { trace = s.trace ++ access Loaded place.name })))
    → Does tac worth start n lag slack StateStands (read (around_of program) here place s)
read_does {tac} {worth} {StateStands} {start} {n} {lag} {slack} program here place s next =
    unless_does here (premise (is_dead (s.objects place.name)) Ub.U06 ∷ []) (loaded here place.name (scalar_at (around_of program) (s.objects place.name) place)) s (λ none.
    by none.0 (scalar_at (around_of program) (s.objects place.name) place) refl)
  where
    by : is_dead (s.objects place.name) ≡ false → (found : Option Scalar) → scalar_at (around_of program) (s.objects place.name) place ≡ found → Does tac worth start n lag slack StateStands (loaded here place.name found s)
    by lives (Some scalar) e = next scalar lives e
    by lives None e = stray Ub.U04 here s

pub typed_integer : (program : Program) (s : S.State) (own : IntType) (scalar : Scalar) → HasType program s (Integer own) scalar → (z : ℤ) × (scalar ≡ IntegerValue z)
typed_integer program s own (IntegerValue z) typed = (z, refl)
typed_integer program s own NullValue typed = absurd typed
typed_integer program s own (FunctionValue name) typed = absurd typed
typed_integer program s own (PointerValue place) typed = absurd typed
typed_integer program s own (RawPointer number) typed = absurd typed

-- an integer in a register is what a tree computes from it
pub held_integer : (program : Program) (objects : S.Objects) (placement : Placement) (scalar : Scalar) (held : Option M.Value) (z : ℤ) → scalar ≡ IntegerValue z → HoldsFor program objects placement scalar held → integer_in held ≡ Some z
held_integer program objects placement scalar held z is holds =
    let stands : holds.0 ≡ Number z = subst (λ x. ScalarStands program objects placement x holds.0) is holds.2 in
    ap integer_in (holds.1 ∙ ap Some stands)

first_offset : (size : ℕ) → 0 + 0 * size ≡ 0
first_offset size = omega arith

plain : (held : Option Scalar) (t : CType) → scalar_or held false t ≡ held
plain None t = refl
plain (Some scalar) t = refl

-- what is loaded
abbrev pub loaded_as : CType → Register → Lowered
loaded_as (Integer own) register = AsInteger own (Held register)
loaded_as (Pointer target) register = AsPointer register target
loaded_as t register = AsNothing

-- a load to a new register
pub record LoadsTo (points : List Op) (t : CType) (path : Path) (from to : Spot) (lowered : Lowered) : Type 0 where
  pub register : Register
  pub has : HasOp points from.at (O.Load register t path)
  pub next : to.at ≡ suc from.at
  pub is : lowered ≡ loaded_as t register
  pub new : IsFrom from.counts register
  pub no_local : IsNoLocal register

pub loads_to : (points : List Op) (t : CType) (path : Path) (from to : Spot) (lowered : Lowered) → Loads points t path from to lowered → LoadsTo points t path from to lowered
loads_to points (Integer own) path from to lowered code =
    record { register = temporary from; has = code.0; next = ap (λ (spot : Spot). spot.at) code.1; is = code.2; new = omega arith; no_local = tt }
loads_to points (Pointer target) path from to lowered code =
    record { register = expression from; has = code.0; next = ap (λ (spot : Spot). spot.at) code.1; is = code.2; new = omega arith; no_local = tt }
loads_to points Void path from to lowered code = absurd code
loads_to points (Array element count) path from to lowered code = absurd code
loads_to points (Struct tag) path from to lowered code = absurd code
loads_to points (Function result parameters) path from to lowered code = absurd code

module _ (tac : Tac) (program : Program) (calls : Calls) (worth : ℕ) (points : List Op) (placement : Placement) (hidden : ℕ → Option V.Content) (frame : Frame) (scope : Scope)
    (runs : Runs tac program points frame) (well : IsWellTyped program) (keep : CallsKeep program calls) where
  -- the same is seen on both sides
  pub at_emitted : (at : ℕ) (events : _) (events' : List TacEvent) (s : S.State) (t : State) → seen events' ≡ events → At program placement hidden frame scope at s t
      → At program placement hidden frame scope at (record s { trace = s.trace ++ events }) (record t { trace = t.trace ++ events' })
  at_emitted at events events' s t same h = record {
    stands = record { input = h.stands.input; heap = h.stands.heap; trace = seen_append t.trace events' ∙ ap (λ trace. trace ++ seen events') h.stands.trace ∙ ap (λ more. s.trace ++ more) same; memory = h.stands.memory; placed = h.stands.placed; unchanged = h.stands.unchanged };
    homes = h.homes;
    own = record { there = h.own.there; in_scope = h.own.in_scope };
    point = h.point;
    owner = h.owner;
    number = h.number;
    callers = h.callers;
    paid = h.paid;
  }

  -- nothing is seen of a local
  pub at_unseen : (at : ℕ) (s : S.State) (t : State) → At program placement hidden frame scope at s t → At program placement hidden frame scope at (record s { trace = s.trace ++ [] }) t
  at_unseen at s t h = record {
    stands = record { input = h.stands.input; heap = h.stands.heap; trace = h.stands.trace ∙ sym (append-nil s.trace); memory = h.stands.memory; placed = h.stands.placed; unchanged = h.stands.unchanged };
    homes = h.homes;
    own = record { there = h.own.there; in_scope = h.own.in_scope };
    point = h.point;
    owner = h.owner;
    number = h.number;
    callers = h.callers;
    paid = h.paid;
  }

  -- a local in a register is found, and the evaluation goes on
  pub then_local : {B : Type 0} {StateStands : Stand B} {start : State} {n lag lag' slack slack' : ℕ} (tree : Object) (next : Place → Eval B) (home : Home) → register_home scope tree ≡ Some home → (at : ℕ) (t : CType)
      → type_of_object (context_of program scope) tree ≡ Some t → object_makes (is_storable program.structs) tree ≡ true
      → (s : S.State) (state : State) → Passing tac worth start state n s.units lag slack → Evaluating.AtSpot tac program calls worth points placement hidden frame scope at s state → lag + object_units tree ≤ lag'
      → ((place : Place) (s' : S.State) (state' : State) → Passing tac worth start state' n s'.units (lag + object_units tree) (ticks_per_unit + slack)
      → FoundLocal tac program calls worth points placement hidden frame scope runs well keep at home state place s' state' → Keeps (context_of program scope) s s' → IsElement program s' t place
      → Does tac worth start n lag' slack' StateStands (next place s'))
      → Does tac worth start n lag' slack' StateStands (continue_with next (find (around_of program) calls tree s))
  then_local {B} {StateStands} {start} {n} {lag} {lag'} {slack} {slack'} tree next home is at t typed small s state p h more rest =
      by (find (around_of program) calls tree s) refl (finds_local tac program calls worth points placement hidden frame scope runs well keep tree home is at start n lag slack s state p h)
    where
      by : (outcome : Outcome Place) → find (around_of program) calls tree s ≡ outcome
          → Does tac worth start n (lag + object_units tree) (ticks_per_unit + slack) (FoundLocal tac program calls worth points placement hidden frame scope runs well keep at home state) outcome
          → Does tac worth start n lag' slack' StateStands (continue_with next outcome)
      by _ e (comes place s' state' p' found) =
          let keeps = find_keeps program well calls keep (scope_types scope) tree small t typed s h.sound place s' e in
          rest place s' state' p' found keeps.0 keeps.1
      by _ e (stops answer s' a) = let same : Does tac worth start n (lag + object_units tree) slack' StateStands (S.Stopped answer s') = stops answer s' a in eases same more (omega arith)

  -- ---- locals in registers

  home_value : {start : State} {n lag : ℕ} (slack : ℕ) (mode : Mode) (from to : Spot) (lowered : Lowered) (before : Registers) (own : CType) (local : _) (is_object : Bool) (t : CType) (scalar : Scalar) (s : S.State) (state : State)
      → Passing tac worth start state n s.units lag (ticks_per_unit + slack) → At program placement hidden frame scope from.at s state → KeepsBefore from.counts before state.running.registers
      → ReadsLocal points (record { local = local; is_object = is_object; c_type = own }) from to lowered → HasForm mode lowered t → HasType program s t scalar
      → HoldsFor program s.objects placement scalar (state.running.registers (R.Local local))
      → Does tac worth start n lag (slack + (laid_by lowered + 6)) (Evaluating.ComesToValue tac program calls worth points placement hidden frame scope mode from to lowered before) (Then scalar s)
  home_value slack mode from to lowered before (Integer own) local is_object t scalar s state p at kept code form typed holds =
      let is : t ≡ Integer own = subst (λ l. HasForm mode l t) code.1 form in
      let integer = typed_integer program s own scalar (subst (λ c. HasType program s c scalar) is typed) in
      has_come tac program calls worth points placement hidden frame scope runs well keep mode from from to lowered (AsInteger own (Held (R.Local local))) before scalar s state p at kept code.0 code.1
      (integer.0, integer.1, held_integer program s.objects placement scalar (state.running.registers (R.Local local)) integer.0 integer.1 holds) (omega arith) (let laid = ap laid_by code.1 in omega (arith, laid))
  home_value slack mode from to lowered before (Pointer target) local is_object t scalar s state p at kept code form typed holds =
      puts tac program calls worth points placement hidden frame scope runs well keep (O.Copy (expression from) (R.Local local)) (expression from) holds.0 mode from from to lowered (AsPointer (expression from) target) before scalar s state p at kept
      code.0 (ap (λ held. A.given held state (λ value. write (expression from) value state)) holds.1) (omega arith) tt (ap (λ (spot : Spot). spot.at) code.1) code.2
      (holds.0, written_there (expression from) (Some holds.0) state.running.registers, holds.2) (omega arith) (let laid = ap laid_by code.2 in omega (arith, laid))
  home_value slack mode from to lowered before Void local is_object t scalar s state p at kept code form typed holds = absurd code
  home_value slack mode from to lowered before (Array element count) local is_object t scalar s state p at kept code form typed holds = absurd code
  home_value slack mode from to lowered before (Struct tag) local is_object t scalar s state p at kept code form typed holds = absurd code
  home_value slack mode from to lowered before (Function result parameters) local is_object t scalar s state p at kept code form typed holds = absurd code

  -- what the register of a local holds
  pub register_holds : (objects : S.Objects) (registers : Registers) (home : Home) (number : ℕ) (b : Bool) → b ≡ false → HomeStands program placement frame.number objects registers (record home { is_object = b }) number
      → (held : ℕ → Option Scalar) × (objects (LocalObject number) ≡ V.Elements false home.c_type 1 held) × ((scalar : Scalar) → held 0 ≡ Some scalar → HoldsFor program objects placement scalar (registers (R.Local home.local)))
  register_holds objects registers home number false e stands = (stands.1.0, stands.1.1, stands.1.2)
  register_holds objects registers home number true e stands = absurd (true≢false e)

  pub local_read : {start : State} {n lag : ℕ} (slack : ℕ) (here : Pos) (mode : Mode) (from to : Spot) (lowered : Lowered) (home : Home) (t : CType) (place : Place) (s : S.State) (before state : State)
      → Passing tac worth start state n s.units lag (ticks_per_unit + slack) → FoundLocal tac program calls worth points placement hidden frame scope runs well keep from.at home before place s state
      → ReadsLocal points home from to lowered → HasForm mode lowered t → is_scalar t ≡ true → IsElement program s t place
      → Does tac worth start n lag (slack + (laid_by lowered + 6)) (Evaluating.ComesToValue tac program calls worth points placement hidden frame scope mode from to lowered before.running.registers) (read (around_of program) here place s)
  local_read {start} {n} {lag} slack here mode from to lowered home t place s before state p found code form scalar_type element =
      let home' = found_home program placement frame.number state.running.registers s scope s.locals found.there.stands.homes found.there.sound.locals found.index home found.home_is in
      let object = object_place (LocalObject home'.number) home.c_type in
      let name_is : LocalObject found.number ≡ LocalObject home'.number = same_Some _ _ (sym found.name_is ∙ home'.name_is) in
      let place_is : place ≡ object_place (LocalObject home'.number) home.c_type = found.place_is ∙ ap (λ name. object_place name home.c_type) name_is in
      let register = register_holds s.objects state.running.registers home home'.number home.is_object found.is_register home'.stands in
      let held : scalar_at (around_of program) (s.objects (LocalObject home'.number)) (object_place (LocalObject home'.number) home.c_type) ≡ register.0 0
      = ap (λ content. scalar_at (around_of program) content (object_place (LocalObject home'.number) home.c_type)) register.1
      ∙ ap (λ k. scalar_or (register.0 k) false home.c_type) (first_offset (S.size_of (around_of program) home.c_type)) ∙ plain (register.0 0) home.c_type in
      let kept : KeepsBefore from.counts before.running.registers state.running.registers = subst (λ (x : State). KeepsBefore from.counts before.running.registers x.running.registers) (sym found.same) (kept_same from.counts before.running.registers) in
      subst (λ p. Does tac worth start n lag (slack + (laid_by lowered + 6)) (Evaluating.ComesToValue tac program calls worth points placement hidden frame scope mode from to lowered before.running.registers) (read (around_of program) here p s))
      (sym place_is)
      (read_does program here (object_place (LocalObject home'.number) home.c_type) s (λ scalar lives holds.
      let after : S.State = record s { trace = s.trace ++ [] } in
      let typed = (read_keeps program well (scope_types scope) s found.there.sound here t (object_place (LocalObject home'.number) home.c_type) scalar_type (subst (IsElement program s t) place_is element)).gives scalar (record s { trace = s.trace ++ [] })
      (read_is program here (object_place (LocalObject home'.number) home.c_type) s scalar lives holds) in
      home_value slack mode from to lowered before.running.registers home.c_type home.local home.is_object t scalar (record s { trace = s.trace ++ [] }) state p (at_unseen from.at s state found.there.stands) kept code form typed.1 (register.2 scalar (sym held ∙ holds))))

  -- ---- objects in memory

  -- what is seen of an access is the same on both sides
  pub same_access : (name : Name) (object : M.Object) (s : S.State) (state : State) → StateStands program placement hidden s state → image program placement name ≡ Some object → seen (A.access ReadFrom object) ≡ access Loaded name
  same_access (Heap number) object s state stands is = ap (λ o. seen (A.access ReadFrom o)) (sym (same_Some (M.OfHeap number) object is))
  same_access (GlobalObject name) object s state stands is = by (named_global 0 program.globals name) is
    where
      by : (found : Option (ℕ × GlobalDef)) → global_object found ≡ Some object → seen (A.access ReadFrom object) ≡ []
      by None is = absurd (none-some object is)
      by (Some found) is = ap (λ o. seen (A.access ReadFrom o)) (sym (same_Some (M.OfGlobal found.0) object is))
  same_access (LiteralObject place) object s state stands is = by (placed_literal 0 program.literals place) is
    where
      by : (found : Option (ℕ × LiteralDef)) → literal_object found ≡ Some object → seen (A.access ReadFrom object) ≡ []
      by None is = absurd (none-some object is)
      by (Some found) is = ap (λ o. seen (A.access ReadFrom o)) (sym (same_Some (M.OfLiteral found.0) object is))
  same_access (LocalObject number) object s state stands is =
      let where_is = (stands.placed number object is).1 in
      ap (λ o. seen (A.access ReadFrom o)) where_is.2

  loaded_less : (own : CType) (register : Register) → laid_by (loaded_as own register) ≤ 2
  loaded_less (Integer own) register = omega arith
  loaded_less (Pointer target) register = omega arith
  loaded_less Void register = omega arith
  loaded_less (Array element count) register = omega arith
  loaded_less (Struct tag) register = omega arith
  loaded_less (Function result parameters) register = omega arith

  -- what is loaded stands for what is read
  loaded_stands : (mode : Mode) (s : S.State) (own t : CType) (register : Register) (registers : Registers) (scalar : Scalar) (value : M.Value) → t ≡ own → HasType program s t scalar → ScalarStands program s.objects placement scalar value
      → LoweredStands program mode frame placement s.objects (with_register register (Some value) registers) (loaded_as own register) scalar
  loaded_stands mode s (Integer own) t register registers scalar value is typed stands =
      let integer = typed_integer program s own scalar (subst (λ c. HasType program s c scalar) is typed) in
      (integer.0, integer.1, held_integer program s.objects placement scalar (with_register register (Some value) registers register) integer.0 integer.1 (value, written_there register (Some value) registers, stands))
  loaded_stands mode s (Pointer target) t register registers scalar value is typed stands = (value, written_there register (Some value) registers, stands)
  loaded_stands mode s Void t register registers scalar value is typed stands = tt
  loaded_stands mode s (Array element count) t register registers scalar value is typed stands = tt
  loaded_stands mode s (Struct tag) t register registers scalar value is typed stands = tt
  loaded_stands mode s (Function result parameters) t register registers scalar value is typed stands = tt

  pub load_value : {start : State} {n lag : ℕ} (slack : ℕ) (here : Pos) (mode : Mode) (from mid to : Spot) (lowered : Lowered) (before : Registers) (path : Path) (own t : CType) (place : Place) (s : S.State) (state : State)
      → Passing tac worth start state n s.units lag (slack + (2 * path_cost path + 10)) → At program placement hidden frame scope mid.at s state → Sound (context_of program scope) s → KeepsBefore from.counts before state.running.registers
      → SpotGrows from mid → Loads points own path mid to lowered → t ≡ own → PathStands program frame placement state.running.registers path own place → IsElement program s t place → is_scalar t ≡ true
      → Does tac worth start n lag (slack + (laid_by lowered + 6)) (Evaluating.ComesToValue tac program calls worth points placement hidden frame scope mode from to lowered before) (read (around_of program) here place s)
  load_value {start} {n} {lag} slack here mode from mid to lowered before path own t place s state p h sound kept grows code is leads_to element scalar_type =
      read_does program here place s (λ scalar lives holds.
      let memory = h.stands.memory in
      let at = placed program well placement (scope_types scope) s sound state.objects memory place (Address leads_to.0 leads_to.1) element.place_stands lives
      (Placing.stands_at program well placement (scope_types scope) s sound state.objects memory place leads_to.0 leads_to.1 leads_to.3.0 leads_to.3.1) in
      let same : leads_to.0 ≡ at.object = same_Some _ _ (sym leads_to.3.0 ∙ at.is_image) in
      let found : leads (surroundings program frame) state.running.registers path ≡ Some (record { object = at.object; inner = record { offset = offset_of (around_of program) place; c_type = own } })
      = leads_to.2 ∙ (λ i. Some (record { object = same i; inner = record { offset = leads_to.3.1 i; c_type = own } })) in
      let leaf : LeafAt program.structs at.typed.c_type at.typed.count (offset_of (around_of program) place) t
      = record { row = place.row; index = place.index; is_row = at.typed.row; within = element.within; is_own = element.is_own; scalar = scalar_type; stands = refl } in
      let accessible : stands_at program.structs own (offset_of (around_of program) place) (state.objects at.object) ≡ true
      = subst (λ c. stands_at program.structs c (offset_of (around_of program) place) (state.objects at.object) ≡ true) is (access_stands program well placement s state.objects memory t place at.object at.is_image at.typed leaf) in
      let held = read_stands program well placement s state.objects memory t place at.object at.is_image at.typed leaf scalar holds element.is_own in
      let typed = (read_keeps program well (scope_types scope) s sound here t place scalar_type element).gives scalar (record s { trace = s.trace ++ access Loaded place.name }) (read_is program here place s scalar lives holds) in
      let fitting : fits own held.0 ≡ true = subst (λ c. fits c held.0 ≡ true) is (stands_fits program s.objects placement (record s { trace = s.trace ++ access Loaded place.name }) t scalar held.0 scalar_type typed.1 held.2) in
      let to_load = loads_to points own path mid to lowered code in
      let does : execute tac (surroundings program frame) (O.Load to_load.register own path) state ≡ write to_load.register held.0 (record state { trace = state.trace ++ A.access ReadFrom at.object })
      = ap (λ reached. A.given reached state (load (surroundings program frame) to_load.register own state)) found
      ∙ ap (λ (b : Bool). A.unless_lost b state (A.given (held_at (offset_of (around_of program) place) (state.objects at.object)) state (λ value. A.unless_lost (fits own value) state (write to_load.register value (A.emit (A.access ReadFrom at.object) state))))) accessible
      ∙ ap (λ value. A.given value state (λ value'. A.unless_lost (fits own value') state (write to_load.register value' (A.emit (A.access ReadFrom at.object) state)))) held.1
      ∙ ap (λ (b : Bool). A.unless_lost b state (write to_load.register held.0 (A.emit (A.access ReadFrom at.object) state))) fitting in
      let passes : Passes tac (O.Load to_load.register own path) state (with_written tac program points placement hidden frame scope runs to_load.register held.0 (record state { trace = state.trace ++ A.access ReadFrom at.object })) = record {
        before = before_at tac program points placement hidden frame scope runs mid.at (O.Load to_load.register own path) s state to_load.has h;
        does = ap (λ around. execute tac around (O.Load to_load.register own path) state) (around_is tac program points placement hidden frame scope runs mid.at s state h) ∙ does;
      } in
      let there = at_written tac program points placement hidden frame scope runs mid.at to_load.register held.0 (record s { trace = s.trace ++ access Loaded place.name }) (record state { trace = state.trace ++ A.access ReadFrom at.object }) to_load.no_local
      (at_emitted mid.at (access Loaded place.name) (A.access ReadFrom at.object) s state (same_access place.name at.object s state h.stands at.is_image) h) in
      let laid = ap laid_by to_load.is in
      let less = loaded_less own to_load.register in
      comes scalar (record s { trace = s.trace ++ access Loaded place.name }) (with_written tac program points placement hidden frame scope runs to_load.register held.0 (record state { trace = state.trace ++ A.access ReadFrom at.object }))
      (stepped p passes (omega arith) (omega (arith, laid, less))) (
        record {
          there = subst (λ point. At program placement hidden frame scope point (record s { trace = s.trace ++ access Loaded place.name })
              (with_written tac program points placement hidden frame scope runs to_load.register held.0 (record state { trace = state.trace ++ A.access ReadFrom at.object }))) (sym to_load.next) there;
          kept = keeps_then from.counts before state.running.registers (with_register to_load.register (Some held.0) state.running.registers) kept
              (keeps_fewer state.running.registers (with_register to_load.register (Some held.0) state.running.registers) grows (kept_write mid.counts to_load.register (Some held.0) state.running.registers to_load.new));
        },
        stood mode _ (subst (λ l. LoweredStands program mode frame placement s.objects (with_register to_load.register (Some held.0) state.running.registers) l scalar) (sym to_load.is)
            (loaded_stands mode (record s { trace = s.trace ++ access Loaded place.name }) own t to_load.register state.running.registers scalar held.0 is typed.1 held.2)),
      ))

  pub reads : (here : Pos) (object : Object) → Finds tac program calls worth points placement hidden frame scope runs well keep object → ValueDoes tac program calls worth points placement hidden frame scope (T.Read here object)
  reads here object finds mode from to lowered t code typed small start n lag slack s state p h = by (register_home scope object) refl code
    where
      parts : (type_of_object (context_of program scope) object ≡ Some t) × (is_scalar t ≡ true)
      parts = same_parts (type_of_object (context_of program scope) object) is_scalar t typed

      by : (home : Option Home) → register_home scope object ≡ home → ReadCode points home (ObjectCode program points scope false false object) from to lowered
          → Does tac worth start n (lag + object_units object) (slack + (laid_by lowered + 6)) (Evaluating.ComesToValue tac program calls worth points placement hidden frame scope mode from to lowered state.running.registers)
          (continue_with (read (around_of program) here) (find (around_of program) calls object s))
      by (Some home) e code' =
          then_local object (read (around_of program) here) home e from.at t parts.0 small s state p h (omega arith) (λ place s' state' q found keeps element.
          local_read slack here mode from to lowered home t place s' state state' q found code' (value_form program points scope (T.Read here object) mode t from to lowered typed code) parts.1 element)
      by None e code' =
          let is = object_form program points scope object false false t from code'.0 (AsObject code'.1 code'.2) parts.0 code'.3 in
          let grows = (object_named program points scope object false false from code'.0 (AsObject code'.1 code'.2) code'.3).grows in
          then_find tac program calls worth points placement hidden frame scope runs well keep object finds (read (around_of program) here) false from code'.0 code'.1 code'.2 t code'.3 parts.0 small s state p h (omega arith)
          (λ place s' state' q came keeps element.
          load_value slack here mode from code'.0 to lowered state.running.registers code'.1 code'.2 t place s' state' (eased q (omega arith) (omega arith)) came.0.there keeps.sound came.0.kept grows code'.4 is came.1 element parts.1)
