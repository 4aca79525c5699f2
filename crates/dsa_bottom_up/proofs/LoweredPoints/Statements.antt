-- The code of well typed statements stands.
use Rattle.std.proofs.Common.{◌≡◌, ℕ, suc, ◌<◌, Bool, true, false, ◌&&◌, List, [], ◌∷◌, ◌++◌, Option, Some, None, is_some, refl, sym, ap, subst, ◌∙◌, ne_eqb, eq-eqb, arith}
use Rattle.std.specs.Prelude.{if◌then◌else◌}
use Rattle.std.proofs.lemmas.Bool.{false≢true, and_parts, cond-true, lt-ltb}
use Rattle.std.proofs.lemmas.Option.{none-some}
use Rattle.c_num.specs.declared.IntType.{IntType}
use Rattle.c_num.specs.declared.IntType.TheVariants as I
use Rattle.c_num.specs.declared.Relation.TheVariants as relations
use Rattle.c_typed.specs.Types.{CType, Void, Integer, Pointer, Array, Struct, Function, same_type, is_integer}
use Rattle.c_typed.specs.Layouts.{StructDef, is_complete}
use Rattle.c_typed.specs.Typed as T
use Rattle.c_typed.specs.Typed.{Value, Stmt, Block, SwitchItems, LocalDef, ForStart, Program}
use Rattle.c_typed.specs.Context.{Context, with_local}
use Rattle.c_typed.specs.Expressions.{is_scalar, type_of}
use Rattle.c_typed.specs.Sizes.{makes, any_makes, local_makes, locals_make, start_makes, stmt_makes, block_makes, items_make, is_small, fills, is_storable}
use Rattle.c_typed.specs.Statements.{Within, in_loop, in_switch, holds_for, is_expression, is_condition, is_of_type, if_any, is_local, are_locals, with_locals, is_start, with_start, is_label, is_stmt, is_block, are_items}
use Rattle.tac_ir.specs.declared.register.Local.{Local}
use Rattle.tac_ir.specs.declared.register.Local.TheVariants as L
use Rattle.tac_ir.specs.declared.register.Register.{Register}
use Rattle.tac_ir.specs.declared.register.Register.TheVariants as R
use Rattle.tac_ir.specs.Code.{Constant, Held, Compare, AtLocal, IntegerOperand, PointerOperand, LocalObject, Tac}
use Rattle.tac_ir.specs.Code as O
use Rattle.tac_ir.specs.Values.{same_local}
use Rattle.tac_ir.specs.Layouts.{Inner}
use Rattle.tac_ir.specs.Objects.{own_type, whole}
use Rattle.tac_ir.specs.States.{Owner}
use Rattle.tac_build.specs.Homes.{Home, Scope, lies_in_memory}
use Rattle.tac_build.specs.Spots.{Spot, behind, with_variable, with_temporary, temporary, Lowered, AsInteger, AsPointer, AsObject, AsNothing, Mode, Kept, Dropped}
use Rattle.tac_build.specs.Code.{HasOp, Emits, path_from, ValueCode}
use Rattle.tac_build.specs.StatementCode.{Ways, Begins, with_home, FirstCode, LocalCode, LocalsCode, StartCode, BranchCode, TestCode, StepCode, ReturnCode, StmtCode, BlockCode, SwitchCode}
use Rattle.tac_build.specs.Forms.{scope_types, context_of}
use Rattle.heap_graph.specs.Parts.{slots_of}
use Rattle.heap_graph.specs.Targets.{elements_of}
use Rattle.graph_unification.specs.Standing.{HasSlot, AccessStands}
use Rattle.dsa_bottom_up.proofs.Slots.{filling_slots}
use Rattle.dsa_bottom_up.proofs.Paths.{IsOf, access_stands}
use Rattle.dsa_bottom_up.proofs.LoweredPoints.Leading.{HaveObjects, IsVariableBelow, AreBelow, HaveSlots, AreSound, Fits, Found, Spans, Comes, leads_then, nothing, stays, temporary_spans, point, emits, told}
use Rattle.dsa_bottom_up.proofs.LoweredPoints.Parts.{writes}
use Rattle.dsa_bottom_up.proofs.LoweredPoints.Expressions.{HomeStands, ScopeStands, value_comes}

-- ---- lists of objects

pub have_front : (own front back : List LocalObject) → HaveObjects own (front ++ back) → HaveObjects own front
have_front own [] back have = tt
have_front own (first ∷ others) back have = (have.0, have_front own others back have.1)

pub have_last : (own objects : List LocalObject) (one : LocalObject) → HaveObjects own (objects ++ one ∷ []) → own_type own one.local ≡ whole one.c_type
have_last own [] one have = have.0
have_last own (first ∷ others) one have = have_last own others one have.1

-- what is found in front stays so
found_front : (front back : List LocalObject) (local : Local) (inner : Inner) → own_type front local ≡ Some inner → own_type (front ++ back) local ≡ Some inner
found_front [] back local inner is = absurd (none-some inner is)
found_front (first ∷ others) back local inner is = by (same_local first.local local) is (λ e. found_front others back local inner e)
  where
    by : (b : Bool) → (if b then whole first.c_type else own_type others local) ≡ Some inner → (own_type others local ≡ Some inner → own_type (others ++ back) local ≡ Some inner)
        → (if b then whole first.c_type else own_type (others ++ back) local) ≡ Some inner
    by true e rest = e
    by false e rest = rest e

found_behind : (front back : List LocalObject) (local : Local) → own_type front local ≡ None → own_type (front ++ back) local ≡ own_type back local
found_behind [] back local is = refl
found_behind (first ∷ others) back local is = by (same_local first.local local) is (λ e. found_behind others back local e)
  where
    by : (b : Bool) → (if b then whole first.c_type else own_type others local) ≡ None → (own_type others local ≡ None → own_type (others ++ back) local ≡ own_type back local)
        → (if b then whole first.c_type else own_type (others ++ back) local) ≡ own_type back local
    by true e rest = absurd (none-some (record { offset = 0; c_type = first.c_type }) (sym e))
    by false e rest = rest e

have_more : (own back objects : List LocalObject) → HaveObjects own objects → HaveObjects (own ++ back) objects
have_more own back [] have = tt
have_more own back (first ∷ others) have = (found_front own back first.local (record { offset = 0; c_type = first.c_type }) have.0, have_more own back others have.1)

have_both : (own front back : List LocalObject) → HaveObjects own front → HaveObjects own back → HaveObjects own (front ++ back)
have_both own [] back one other = other
have_both own (first ∷ others) back one other = (one.0, have_both own others back one.1 other)

same_local-refl : (local : Local) → same_local local local ≡ true
same_local-refl (L.Parameter number) = eq-eqb number number refl
same_local-refl (L.Variable number) = eq-eqb number number refl

-- an object of a local that none has before
pub have_new : (objects : List LocalObject) (one : LocalObject) → own_type objects one.local ≡ None → HaveObjects objects objects → HaveObjects (objects ++ one ∷ []) (objects ++ one ∷ [])
have_new objects one new have =
    let last : own_type (objects ++ one ∷ []) one.local ≡ whole one.c_type =
    found_behind objects (one ∷ []) one.local new ∙ cond-true (same_local one.local one.local) (whole one.c_type) None (same_local-refl one.local) in
    have_both (objects ++ one ∷ []) objects (one ∷ []) (have_more objects (one ∷ []) objects have) (last, tt)

-- a variable with a number that none has
none_above : (count : ℕ) (objects : List LocalObject) → AreBelow count objects → own_type objects (L.Variable count) ≡ None
none_above count [] below = refl
none_above count (first ∷ others) below = by first.local below.0 (none_above count others below.1)
  where
    other : (number : ℕ) → number < count → (b : Bool) → same_local (L.Variable number) (L.Variable count) ≡ b → b ≡ false
    other number less b is = sym is ∙ ne_eqb number count (λ e. omega (arith, e, less))

    by : (local : Local) → IsVariableBelow count local → own_type others (L.Variable count) ≡ None → (if same_local local (L.Variable count) then whole first.c_type else own_type others (L.Variable count)) ≡ None
    by (L.Parameter number) less rest = rest
    by (L.Variable number) less rest = ap (λ b. if b then whole first.c_type else own_type others (L.Variable count)) (other number less (same_local (L.Variable number) (L.Variable count)) refl) ∙ rest

more_below : (count : ℕ) (objects : List LocalObject) → AreBelow count objects → AreBelow (suc count) objects
more_below count [] below = tt
more_below count (first ∷ others) below = (by first.local below.0, more_below count others below.1)
  where
    by : (local : Local) → IsVariableBelow count local → IsVariableBelow (suc count) local
    by (L.Parameter number) less = tt
    by (L.Variable number) less = omega (arith, less)

below_new : (count : ℕ) (objects : List LocalObject) (one : LocalObject) → AreBelow count objects → IsVariableBelow count one.local → AreBelow count (objects ++ one ∷ [])
below_new count [] one below last = (last, tt)
below_new count (first ∷ others) one below last = (below.0, below_new count others one below.1 last)

slots_new : (structs : List StructDef) (objects : List LocalObject) (one : LocalObject) → HaveSlots structs objects → HasSlot structs one.c_type → HaveSlots structs (objects ++ one ∷ [])
slots_new structs [] one have last = (last, tt)
slots_new structs (first ∷ others) one have last = (have.0, slots_new structs others one have.1 last)

-- an object more
pub sound_new : (structs : List StructDef) (count : ℕ) (objects : List LocalObject) (one : LocalObject) → own_type objects one.local ≡ None → IsVariableBelow count one.local → HasSlot structs one.c_type
    → AreSound structs count objects → AreSound structs count (objects ++ one ∷ [])
sound_new structs count objects one new below slot sound = record {
  have = have_new objects one new sound.have;
  below = below_new count objects one sound.below below;
  slots = slots_new structs objects one sound.slots slot;
}

-- a variable more
sound_more : (structs : List StructDef) (count : ℕ) (objects : List LocalObject) → AreSound structs count objects → AreSound structs (suc count) objects
sound_more structs count objects sound = record { have = sound.have; below = more_below count objects sound.below; slots = sound.slots }

-- ---- types

-- elements have as many slots as their array
pub elements_slots : (structs : List StructDef) (t : CType) → slots_of structs (elements_of t) ≡ slots_of structs t
elements_slots structs Void = refl
elements_slots structs (Integer int_type) = refl
elements_slots structs (Pointer target) = refl
elements_slots structs (Array element count) = refl
elements_slots structs (Struct tag) = refl
elements_slots structs (Function result parameters) = refl

holds_typed : (test : CType → Bool) (found : Option CType) → holds_for test found ≡ true → (t : CType) × (found ≡ Some t)
holds_typed test None h = absurd (false≢true h)
holds_typed test (Some t) h = (t, refl)

some_typed : (found : Option CType) → is_some found ≡ true → (t : CType) × (found ≡ Some t)
some_typed None h = absurd (false≢true h)
some_typed (Some t) h = (t, refl)

module _ (program : Program) (tac : Tac) (owner : Owner) (function : O.Function) (its : IsOf program tac owner function) where
  abbrev points : List O.Op
  points = function.points

  abbrev allowed : CType → Bool
  allowed = is_storable program.structs

  abbrev pub Leads : Spot → Spot → Type 0
  Leads from to = Spans tac owner function (Unit {0}) from to

  abbrev pub FitsAt : Spot → Type 0
  FitsAt spot = Fits tac owner function spot

  -- the locals in scope stand, where the function fits a spot
  abbrev pub Scoped : Spot → Scope → Type 0
  Scoped spot scope = FitsAt spot → ScopeStands tac owner function scope

  pub on : {from mid to : Spot} → Leads from mid → Leads mid to → Leads from to
  on one other = leads_then tac owner function (Unit {0}) one other

  later : {from to : Spot} (scope : Scope) → Leads from to → Scoped from scope → Scoped to scope
  later scope led known end = known (led.fits end)

  value_leads : (scope : Scope) (v : Value) (mode : Mode) (from to : Spot) (lowered : Lowered) → ValueCode program points scope mode v from to lowered → ((t : CType) × (type_of (context_of program scope) v ≡ Some t))
      → makes allowed v ≡ true → Scoped from scope → Comes tac owner function (Unit {0}) from to lowered
  value_leads scope v mode from to lowered code typed make known =
      let one = value_comes program tac owner function its scope v mode typed make from to lowered code in
      record { spans = told one.spans known; found = λ end none. one.found end (known (one.spans.fits end)) }

  -- ---- locals

  -- a local begins to live
  module _ (from : Spot) (own : CType) (slot : HasSlot tac.structs own) where
    abbrev home_with : Bool → Home
    home_with b = record { local = L.Variable from.counts.variables; is_object = b; c_type = own }

    new_leads : (b : Bool) → Leads from (with_home (home_with b) (with_variable from))
    new_leads true = record {
      order = omega arith;
      fits = λ end.
          let most = end.variables in
          record { variables = omega (arith, most); calls = end.calls; arguments = end.arguments; expressions = end.expressions; own = have_front function.objects from.objects (record { local = L.Variable from.counts.variables; c_type = own } ∷ []) end.own };
      sound = λ begin.
          let one : LocalObject = record { local = L.Variable from.counts.variables; c_type = own } in
          sound_new tac.structs (suc from.counts.variables) from.objects one (none_above from.counts.variables from.objects begin.below) (omega arith) slot (sound_more tac.structs from.counts.variables from.objects begin);
      stand = λ end none number op low high there. absurd (omega (arith, low, high));
    }
    new_leads false = record {
      order = omega arith;
      fits = λ end. let most = end.variables in record { variables = omega (arith, most); calls = end.calls; arguments = end.arguments; expressions = end.expressions; own = end.own };
      sound = λ begin. sound_more tac.structs from.counts.variables from.objects begin;
      stand = λ end none number op low high there. absurd (omega (arith, low, high));
    }

    new_stands : (b : Bool) → FitsAt (with_home (home_with b) (with_variable from)) → HomeStands tac owner function (home_with b)
    new_stands true end = have_last function.objects from.objects (record { local = L.Variable from.counts.variables; c_type = own }) end.own
    new_stands false end = let most = end.variables in lt-ltb from.counts.variables function.counts.variables (omega (arith, most))

  begins_leads : (home : Home) (given : Lowered) (from to : Spot) → Begins points home given from to → is_scalar home.c_type ≡ true → (FitsAt from → HomeStands tac owner function home) → (FitsAt from → Found tac owner function given)
      → Leads from to
  begins_leads home given from to code scalar own found = by home.is_object given code own found
    where
      stored : own_type function.objects home.local ≡ whole home.c_type → AccessStands tac owner function (path_from (AtLocal home.local))
      stored is =
          access_stands tac owner function its.here its.made its.filled (path_from (AtLocal home.local)) home.c_type
          (record { base = (record { offset = 0; c_type = home.c_type }, is); own = home.c_type; is = is; steps = refl }) scalar

      by : (b : Bool) (given : Lowered) → Begins points (record home { is_object = b }) given from to → (FitsAt from → HomeStands tac owner function (record home { is_object = b })) → (FitsAt from → Found tac owner function given)
          → Leads from to
      by false given code own found = writes program tac owner function (Unit {0}) its (R.Local home.local) given from to code (λ end none. own end) (λ end none. found end)
      by true (AsInteger int_type tree) code own found =
          emits tac owner function (Unit {0}) from to (O.Store (path_from (AtLocal home.local)) home.c_type (IntegerOperand tree)) code (λ end none. (tt, stored (own end)))
      by true (AsPointer pointer target) code own found =
          emits tac owner function (Unit {0}) from to (O.Store (path_from (AtLocal home.local)) home.c_type (PointerOperand pointer)) code (λ end none. ((λ is_data null. found end), stored (own end)))
      by true (AsObject path c_type) code own found = absurd code
      by true AsNothing code own found = absurd code

  -- a local is in scope, with its first value
  record Opens (from to : Spot) (scope inner : Scope) (around : Context) : Type 0 where
    leads : Leads from to
    known : Scoped from scope → Scoped to inner
    context : context_of program inner ≡ around

  first_leads : (scope : Scope) (home : Home) (first : Option Value) (from to : Spot) → FirstCode program points (home ∷ scope) home first from to
      → if_any (λ v. is_scalar home.c_type && is_of_type (context_of program (home ∷ scope)) home.c_type v) first ≡ true → any_makes allowed first ≡ true → Scoped from (home ∷ scope) → Leads from to
  first_leads scope home None from to code typed make known = stays tac owner function (Unit {0}) from to code
  first_leads scope home (Some v) from to code typed make known =
      let parts = and_parts (is_scalar home.c_type) (is_of_type (context_of program (home ∷ scope)) home.c_type v) typed in
      let one = value_leads (home ∷ scope) v Kept from code.0 code.1 code.2 (holds_typed (same_type home.c_type) (type_of (context_of program (home ∷ scope)) v) parts.1) make known in
      on one.spans (begins_leads home code.1 code.0 to code.3 parts.0 (λ end. (known (one.spans.fits end)).0) (λ end. one.found end tt))

  pub local_slot : (own : CType) → is_complete program.structs own ≡ true → allowed own ≡ true → HasSlot tac.structs own
  local_slot own complete fill =
      let some = filling_slots tac.structs its.filled own (subst (λ structs. fills structs own ≡ true) (sym its.structs) (and_parts (is_small program.structs own) (fills program.structs own) fill).1) (subst (λ structs. is_complete structs own ≡ true) (sym its.structs) complete) in
      let same = elements_slots tac.structs own in
      omega (arith, some, same)

  local_opens : (scope : Scope) (local : LocalDef) (is_taken : Bool) (from to : Spot) (home : Home) → LocalCode program points scope local is_taken from to home → is_local (context_of program scope) local ≡ true
      → local_makes allowed local ≡ true → Scoped from scope → Opens from to scope (home ∷ scope) (with_local local.c_type (context_of program scope))
  local_opens scope local is_taken from to home code typed make known =
      let parts = and_parts (is_complete program.structs local.c_type) _ typed in
      let made = and_parts (allowed local.c_type) (any_makes allowed local.first) make in
      let slot = local_slot local.c_type parts.0 made.0 in
      let in_memory = lies_in_memory local.c_type is_taken in
      let same : local.c_type ≡ home.c_type = sym (ap (λ (h : Home). h.c_type) code.0) in
      let front : Leads from (with_home home (with_variable from)) = subst (λ h. Leads from (with_home h (with_variable from))) (sym code.0) (new_leads from local.c_type slot in_memory) in
      let own : FitsAt (with_home home (with_variable from)) → HomeStands tac owner function home =
      subst (λ h. FitsAt (with_home h (with_variable from)) → HomeStands tac owner function h) (sym code.0) (new_stands from local.c_type slot in_memory) in
      let opened : Scoped (with_home home (with_variable from)) (home ∷ scope) = λ end. (own end, known (front.fits end)) in
      let rest = first_leads scope home local.first (with_home home (with_variable from)) to code.1
      (subst (λ t. if_any (λ v. is_scalar t && is_of_type (record { program = program; locals = t ∷ scope_types scope }) t v) local.first ≡ true) same parts.1) made.1 opened in
      record {
        leads = on front rest;
        known = λ outer end. opened (rest.fits end);
        context = ap (λ t. record { program = program; locals = t ∷ scope_types scope }) (sym same);
      }

  locals_open : (scope : Scope) (is_taken : ℕ → Bool) (locals : List LocalDef) (from to : Spot) (inner : Scope) → LocalsCode program points scope is_taken locals from to inner → are_locals (context_of program scope) locals ≡ true
      → locals_make allowed locals ≡ true → Scoped from scope → Opens from to scope inner (with_locals locals (context_of program scope))
  locals_open scope is_taken [] from to inner code typed make known = record {
    leads = stays tac owner function (Unit {0}) from to code.0;
    known = λ outer end. subst (ScopeStands tac owner function) (sym code.1) (outer (subst FitsAt code.0 end));
    context = ap (context_of program) code.1;
  }
  locals_open scope is_taken (first ∷ others) from to inner code typed make known =
      let parts = and_parts (is_local (context_of program scope) first) (are_locals (with_local first.c_type (context_of program scope)) others) typed in
      let made = and_parts (local_makes allowed first) (locals_make allowed others) make in
      let one = local_opens scope first _ from code.0 code.1 code.2 parts.0 made.0 known in
      let rest = locals_open (code.1 ∷ scope) is_taken others code.0 to inner code.3 (subst (λ around. are_locals around others ≡ true) (sym one.context) parts.1) made.1 (one.known known) in
      record {
        leads = on one.leads rest.leads;
        known = λ outer. rest.known (one.known outer);
        context = rest.context ∙ ap (with_locals others) one.context;
      }

  start_opens : (scope : Scope) (is_taken : ℕ → Bool) (begin : ForStart) (from to : Spot) (inner : Scope) → StartCode program points scope is_taken begin from to inner → is_start (context_of program scope) begin ≡ true
      → start_makes allowed begin ≡ true → Scoped from scope → Opens from to scope inner (with_start begin (context_of program scope))
  start_opens scope is_taken T.StartNothing from to inner code typed make known = record {
    leads = stays tac owner function (Unit {0}) from to code.0;
    known = λ outer end. subst (ScopeStands tac owner function) (sym code.1) (outer (subst FitsAt code.0 end));
    context = ap (context_of program) code.1;
  }
  start_opens scope is_taken (T.StartValue v) from to inner code typed make known =
      let one = value_leads scope v Dropped from to code.0 code.1 (some_typed (type_of (context_of program scope) v) typed) make known in
      record { leads = one.spans; known = λ outer end. subst (ScopeStands tac owner function) (sym code.2) (outer (one.spans.fits end)); context = ap (context_of program) code.2 }
  start_opens scope is_taken (T.StartLocals locals) from to inner code typed make known = locals_open scope is_taken locals from to inner code typed make known

  -- ---- conditions

  branch_leads : (scope : Scope) (condition : Value) (from to : Spot) (holds fails : ℕ) → BranchCode program points scope condition from to holds fails → is_condition (context_of program scope) condition ≡ true
      → makes allowed condition ≡ true → Scoped from scope → Leads from to
  branch_leads scope condition from to holds fails code typed make known =
      on (value_leads scope condition Kept from code.0 (AsInteger code.1 code.2) code.3 (holds_typed is_integer (type_of (context_of program scope) condition) typed) make known).spans
      (emits tac owner function (Unit {0}) code.0 to (O.Branch code.1 code.2 holds fails) code.4 (λ end none. tt))

  test_leads : (scope : Scope) (condition : Option Value) (from to : Spot) (holds fails : ℕ) → TestCode program points scope condition from to holds fails → if_any (is_condition (context_of program scope)) condition ≡ true
      → any_makes allowed condition ≡ true → Scoped from scope → Leads from to
  test_leads scope None from to holds fails code typed make known = emits tac owner function (Unit {0}) from to (O.Jump holds) code (λ end none. tt)
  test_leads scope (Some condition) from to holds fails code typed make known = branch_leads scope condition from to holds fails code typed make known

  step_leads : (scope : Scope) (step : Option Value) (from to : Spot) → StepCode program points scope step from to → if_any (is_expression (context_of program scope)) step ≡ true → any_makes allowed step ≡ true → Scoped from scope
      → Leads from to
  step_leads scope None from to code typed make known = stays tac owner function (Unit {0}) from to code
  step_leads scope (Some v) from to code typed make known = (value_leads scope v Dropped from to code.0 code.1 (some_typed (type_of (context_of program scope) v) typed) make known).spans

  return_leads : (given : Lowered) (from to : Spot) → ReturnCode program points given from to → (FitsAt from → Found tac owner function given) → Leads from to
  return_leads (AsInteger own tree) from to code found = emits tac owner function (Unit {0}) from to (O.Return (Some (IntegerOperand tree))) code (λ end none. tt)
  return_leads (AsPointer pointer target) from to code found = emits tac owner function (Unit {0}) from to (O.Return (Some (PointerOperand pointer))) code (λ end none null. found end)
  return_leads (AsObject path own) from to code found = absurd code
  return_leads AsNothing from to code found = absurd code

  jump : (from : Spot) (to : ℕ) → HasOp points from.at (O.Jump to) → Leads from (behind from)
  jump from to stands = point tac owner function (Unit {0}) from (O.Jump to) stands (λ end none. tt)

  jumps : (from to : Spot) (at : ℕ) → Emits points (O.Jump at) from to → Leads from to
  jumps from to at code = emits tac owner function (Unit {0}) from to (O.Jump at) code (λ end none. tt)

  -- ---- statements

  -- items of a `switch` and the tests of their labels
  record LeadsItems (from to : Spot) (tests last : ℕ) : Type 0 where
    leads : Leads from to
    tested : (spot : Spot) → Leads (record spot { at = tests }) (record spot { at = last })

  mutual
    pub stmt_leads : (tree : Stmt) (scope : Scope) (within : Within) (from to : Spot) (ways : Ways program points) → StmtCode program points scope tree from to ways → is_stmt (context_of program scope) within tree ≡ true
        → stmt_makes allowed tree ≡ true → Scoped from scope → Leads from to
    stmt_leads (T.BlockStmt items) scope within from to ways code typed make known = block_leads items scope within from to ways code typed make known
    stmt_leads T.Empty scope within from to ways code typed make known = stays tac owner function (Unit {0}) from to code
    stmt_leads (T.Expression v) scope within from to ways code typed make known = (value_leads scope v Dropped from to code.0 code.1 (some_typed (type_of (context_of program scope) v) typed) make known).spans
    stmt_leads (T.If condition taken) scope within from to ways code typed make known =
        let parts = and_parts (is_condition (context_of program scope) condition) (is_stmt (context_of program scope) within taken) typed in
        let made = and_parts (makes allowed condition) (stmt_makes allowed taken) make in
        let one = branch_leads scope condition from code.0 code.0.at to.at code.1 parts.0 made.0 known in
        on one (stmt_leads taken scope within code.0 to ways code.2 parts.1 made.1 (later scope one known))
    stmt_leads (T.IfElse condition taken otherwise) scope within from to ways code typed make known =
        let parts = and_parts (is_condition (context_of program scope) condition && is_stmt (context_of program scope) within taken) (is_stmt (context_of program scope) within otherwise) typed in
        let front = and_parts (is_condition (context_of program scope) condition) (is_stmt (context_of program scope) within taken) parts.0 in
        let made = and_parts (makes allowed condition && stmt_makes allowed taken) (stmt_makes allowed otherwise) make in
        let first = and_parts (makes allowed condition) (stmt_makes allowed taken) made.0 in
        let one = branch_leads scope condition from code.0 code.0.at (suc code.1.at) code.2 front.0 first.0 known in
        let two = on one (stmt_leads taken scope within code.0 code.1 ways code.3 front.1 first.1 (later scope one known)) in
        let three = on two (jump code.1 to.at code.4) in
        on three (stmt_leads otherwise scope within (behind code.1) to ways code.5 parts.1 made.1 (later scope three known))
    stmt_leads (T.While condition body) scope within from to ways code typed make known =
        let parts = and_parts (is_condition (context_of program scope) condition) (is_stmt (context_of program scope) (in_loop within) body) typed in
        let made = and_parts (makes allowed condition) (stmt_makes allowed body) make in
        let one = on (branch_leads scope condition from code.0 (suc code.0.at) code.0.at code.2 parts.0 made.0 known) (jump code.0 to.at code.3) in
        on one
        (on (stmt_leads body scope (in_loop within) (behind code.0) code.1 (record { broken = code.0.at; continued = from.at }) code.4 parts.1 made.1 (later scope one known)) (jumps code.1 to from.at code.5))
    stmt_leads (T.DoWhile body condition) scope within from to ways code typed make known =
        let parts = and_parts (is_stmt (context_of program scope) (in_loop within) body) (is_condition (context_of program scope) condition) typed in
        let made = and_parts (stmt_makes allowed body) (makes allowed condition) make in
        let front = on (jump from (suc (suc (suc from.at))) code.1) (on (jump (behind from) to.at code.2) (jump (behind (behind from)) code.0.at code.3)) in
        let two =
        on front (stmt_leads body scope (in_loop within) (behind (behind (behind from))) code.0 (record { broken = suc from.at; continued = suc (suc from.at) }) code.4 parts.0 made.0 (later scope front known)) in
        on two (branch_leads scope condition code.0 to (suc (suc (suc from.at))) (suc from.at) code.5 parts.1 made.1 (later scope two known))
    stmt_leads (T.For begin condition step body) scope within from to ways code typed make known =
        let around = with_start begin (context_of program scope) in
        let parts = and_parts (is_start (context_of program scope) begin && if_any (is_condition around) condition && if_any (is_expression around) step) (is_stmt around (in_loop within) body) typed in
        let front = and_parts (is_start (context_of program scope) begin && if_any (is_condition around) condition) (if_any (is_expression around) step) parts.0 in
        let first = and_parts (is_start (context_of program scope) begin) (if_any (is_condition around) condition) front.0 in
        let made = and_parts (start_makes allowed begin && any_makes allowed condition && any_makes allowed step) (stmt_makes allowed body) make in
        let made_front = and_parts (start_makes allowed begin && any_makes allowed condition) (any_makes allowed step) made.0 in
        let made_first = and_parts (start_makes allowed begin) (any_makes allowed condition) made_front.0 in
        let open_start = start_opens scope _ begin from code.0 code.4 code.5 first.0 made_first.0 known in
        let inner = open_start.known known in
        let same = sym open_start.context in
        let one =
        on (test_leads code.4 condition code.0 code.1 (suc code.2.at) code.1.at code.6 (subst (λ context. if_any (is_condition context) condition ≡ true) same first.1) made_first.1 inner) (jump code.1 to.at code.7) in
        let two =
        on one
        (on (step_leads code.4 step (behind code.1) code.2 code.8 (subst (λ context. if_any (is_expression context) step ≡ true) same front.1) made_front.1 (later code.4 one inner)) (jump code.2 code.0.at code.9)) in
        let three =
        on two
        (stmt_leads body code.4 (in_loop within) (behind code.2) code.3 (record { broken = code.1.at; continued = suc code.1.at }) code.10 (subst (λ context. is_stmt context (in_loop within) body ≡ true) same parts.1) made.1
        (later code.4 two inner)) in
        on open_start.leads (on three (jumps code.3 to (suc code.1.at) code.11))
    stmt_leads (T.Switch v items) scope within from to ways code typed make known =
        let parts = and_parts (is_condition (context_of program scope) v) _ typed in
        let made = and_parts (makes allowed v) (items_make allowed items) make in
        let first = behind (with_temporary code.0) in
        let one = (value_leads scope v Kept from code.0 (AsInteger code.2 code.3) code.7 (holds_typed is_integer (type_of (context_of program scope) v) parts.0) made.0 known).spans in
        let two =
        on one
        (on (temporary_spans tac owner function (Unit {0}) code.0)
        (on (point tac owner function (Unit {0}) (with_temporary code.0) (O.Assign (temporary code.0) code.3) code.8 (λ end none. tt)) (on (jump first (suc code.1.at) code.9) (jump (behind first) to.at code.10)))) in
        let inside = items_lead items scope (in_switch within) _ code.2 (R.Temporary code.0.counts.temporaries) (suc code.1.at) (behind (behind first)) code.1 code.5 code.4
        (record { broken = suc (suc code.0.at); continued = ways.continued }) code.11 parts.1 made.1 (later scope two known) in
        on two
        (on inside.leads (on (jump code.1 (suc (suc code.0.at)) code.12) (on (inside.tested code.1) (jumps (record code.1 { at = code.5 }) to code.6 code.14))))
    stmt_leads T.Break scope within from to ways code typed make known = jumps from to ways.broken code
    stmt_leads T.Continue scope within from to ways code typed make known = jumps from to ways.continued code
    stmt_leads (T.Return None) scope within from to ways code typed make known = emits tac owner function (Unit {0}) from to (O.Return None) code (λ end none. tt)
    stmt_leads (T.Return (Some v)) scope within from to ways code typed make known =
        let parts = and_parts (is_scalar within.result) (is_of_type (context_of program scope) within.result v) typed in
        let one = value_leads scope v Kept from code.0 code.1 code.2 (holds_typed (same_type within.result) (type_of (context_of program scope) v) parts.1) make known in
        on one.spans (return_leads code.1 code.0 to code.3 (λ end. one.found end tt))

    pub block_leads : (items : Block) (scope : Scope) (within : Within) (from to : Spot) (ways : Ways program points) → BlockCode program points scope items from to ways → is_block (context_of program scope) within items ≡ true
        → block_makes allowed items ≡ true → Scoped from scope → Leads from to
    block_leads T.Close scope within from to ways code typed make known = stays tac owner function (Unit {0}) from to code
    block_leads (T.Declare local others) scope within from to ways code typed make known =
        let parts = and_parts (is_local (context_of program scope) local) (is_block (with_local local.c_type (context_of program scope)) within others) typed in
        let made = and_parts (local_makes allowed local) (block_makes allowed others) make in
        let one = local_opens scope local _ from code.0 code.1 code.2 parts.0 made.0 known in
        on one.leads (block_leads others (code.1 ∷ scope) within code.0 to ways code.3 (subst (λ around. is_block around within others ≡ true) (sym one.context) parts.1) made.1 (one.known known))
    block_leads (T.Perform one others) scope within from to ways code typed make known =
        let parts = and_parts (is_stmt (context_of program scope) within one) (is_block (context_of program scope) within others) typed in
        let made = and_parts (stmt_makes allowed one) (block_makes allowed others) make in
        let first = stmt_leads one scope within from code.0 ways code.1 parts.0 made.0 known in
        on first (block_leads others scope within code.0 to ways code.2 parts.1 made.1 (later scope first known))

    items_lead : (items : SwitchItems) (scope : Scope) (within : Within) (labels : Option IntType) (own : IntType) (switched : Register) (tests : ℕ) (from to : Spot) (last : ℕ) (default : Option ℕ) (ways : Ways program points)
        → SwitchCode program points scope items own switched tests from to last default ways → are_items (context_of program scope) within labels items ≡ true → items_make allowed items ≡ true → Scoped from scope
        → LeadsItems from to tests last
    items_lead T.SwitchEnd scope within labels own switched tests from to last default ways code typed make known = record {
      leads = stays tac owner function (Unit {0}) from to code.0;
      tested = λ spot. subst (λ end. Leads (record spot { at = tests }) (record spot { at = end })) (sym code.1) (nothing tac owner function (Unit {0}) (record spot { at = tests }));
    }
    items_lead (T.Case label others) scope within labels own switched tests from to last default ways code typed make known =
        let parts = and_parts (is_label labels label) (are_items (context_of program scope) within labels others) typed in
        let rest = items_lead others scope within labels own switched (suc tests) from to last default ways code.1 parts.1 make known in
        record {
          leads = rest.leads;
          tested = λ spot.
              on (point tac owner function (Unit {0}) (record spot { at = tests }) (O.Branch I.Int (Compare relations.Eq own (Held switched) (Constant label)) from.at (suc tests)) code.0 (λ end none. tt)) (rest.tested spot);
        }
    items_lead (T.Default others) scope within labels own switched tests from to last default ways code typed make known =
        items_lead others scope within labels own switched tests from to last code.0 ways code.2 typed make known
    items_lead (T.SwitchStmt one others) scope within labels own switched tests from to last default ways code typed make known =
        let parts = and_parts (is_stmt (context_of program scope) within one) (are_items (context_of program scope) within labels others) typed in
        let made = and_parts (stmt_makes allowed one) (items_make allowed others) make in
        let first = stmt_leads one scope within from code.0 ways code.1 parts.0 made.0 known in
        let rest = items_lead others scope within labels own switched tests code.0 to last default ways code.2 parts.1 made.1 (later scope first known) in
        record { leads = on first rest.leads; tested = rest.tested }
