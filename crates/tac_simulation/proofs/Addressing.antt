-- Addresses of objects are taken on both sides.
use Rattle.std.proofs.Common.{◌≡◌, ℕ, zero, suc, ◌+◌, Bool, true, false, not, List, Option, Some, pos, refl, sym, ap, ◌∙◌, subst, zero-le, arith}
use Rattle.std.proofs.lemmas.Option.{same_Some}
use Rattle.run_theory.specs.declared.place.Pos.{Pos}
use Rattle.c_typed.specs.Types.{CType, Pointer, Array, is_function, literal_type}
use Rattle.c_typed.specs.Typed as T
use Rattle.c_typed.specs.Typed.{Value, Object, Program}
use Rattle.c_typed.specs.Expressions.{type_of, type_of_object, pointed, first_element}
use Rattle.c_typed.specs.Programs.{IsWellTyped}
use Rattle.c_typed.specs.Sizes.{object_makes, is_storable}
use Rattle.ref_semantics.specs.Values as V
use Rattle.ref_semantics.specs.Values.{GlobalObject, LiteralObject, Place, Scalar, IntegerValue, NullValue, FunctionValue, PointerValue, RawPointer, object_place}
use Rattle.ref_semantics.specs.Store as S
use Rattle.ref_semantics.specs.Store.{Outcome, Then, Eval, give, continue_with, tick, spend, member_at, decayed, is_dead, offset_of}
use Rattle.ref_semantics.specs.Meaning.{Calls, named, value, find, address}
use Rattle.ref_semantics.specs.Pointers.{accessed}
use Rattle.ref_semantics.specs.First.{around_of}
use Rattle.ref_semantics.specs.Sound.{HasType, IsPlace, Sound}
use Rattle.ref_semantics.specs.Keeping.{CallsKeep}
use Rattle.ref_semantics.proofs.Operating.{decay_type}
use Rattle.c_typed.proofs.Splitting.{held_parts, given_parts}
use Rattle.ref_semantics.proofs.ValuesKeep.{address_keeps}
use Rattle.tac_ir.specs.Code.{Op, Tac, Path, AtLocal, AtGlobal, AtLiteral, Constant, Member, Element}
use Rattle.tac_ir.specs.Code as O
use Rattle.tac_ir.specs.Values.{Address}
use Rattle.tac_ir.specs.Objects.{leads, is_place}
use Rattle.tac_ir.specs.Trees.{Registers}
use Rattle.tac_ir.specs.Costs.{path_cost}
use Rattle.tac_ir.specs.States as A
use Rattle.tac_ir.specs.States.{State, write}
use Rattle.tac_ir.specs.Meaning as X
use Rattle.tac_build.specs.Homes.{Scope}
use Rattle.tac_build.specs.Spots.{Spot, expression, Lowered, AsInteger, AsPointer, AsObject, AsNothing, Mode, Kept, Dropped, Behind, Row, is_followed, is_address, pointed_mode}
use Rattle.tac_build.specs.Code.{path_from, then_step, pointed_by, GivesPointer, Decays, TakesAddress, ValueCode, ObjectCode}
use Rattle.tac_simulation.specs.Comparing.{ticks_per_unit}
use Rattle.tac_build.specs.Forms.{scope_types, context_of, SpotGrows}
use Rattle.tac_simulation.specs.Standing.{Placement, Frame, KeepsBefore, At, IsAlive, WhereAlive, MemoryStands, PathStands, LoweredStands, surroundings}
use Rattle.tac_simulation.proofs.Paths.{Passage as Passing, Does, comes, stops, eased, eases, allows, bind}
use Rattle.tac_simulation.proofs.Spotting.{Runs, written_there}
use Rattle.tac_simulation.proofs.Evaluating
use Rattle.tac_simulation.proofs.Evaluating.{ValueDoes, laid_by, left_for, object_units, value_units}
use Rattle.tac_simulation.proofs.Combining.{ticked, puts, has_come}
use Rattle.tac_simulation.proofs.Constants.{left_most}
use Rattle.tac_build.proofs.Forms.{object_form}
use Rattle.tac_build.proofs.Named.{object_named}
use Rattle.tac_simulation.proofs.Placing as Placing
use Rattle.tac_simulation.proofs.Placing.{placed, place_at}
use Rattle.tac_simulation.proofs.Leading.{cost_then}
use Rattle.tac_simulation.proofs.Finding.{Finds, then_find}
use Rattle.tac_simulation.proofs.Reaching.{pointed_less, pointer_leads}
use Rattle.tac_simulation.proofs.Indexing.{row_leads}

pub lives_is : (content : V.Content) → IsAlive content → is_dead content ≡ false
lives_is V.Dead alive = absurd alive
lives_is (V.Raw size) alive = refl
lives_is (V.Elements is_static c_type count held) alive = refl

pub always : {A : Type 0} (content : V.Content) → A → WhereAlive content A
always V.Dead a = tt
always (V.Raw size) a = a
always (V.Elements is_static c_type count held) a = a

pub where_lives : (content : V.Content) (A : Type 0) → (is_dead content ≡ false → A) → WhereAlive content A
where_lives V.Dead A one = tt
where_lives (V.Raw size) A one = one refl
where_lives (V.Elements is_static c_type count held) A one = one refl

-- ---- evaluations one after another

pub tick_then : {A B : Type 0} (rest : Eval A) (next : A → Eval B) (s : S.State) → continue_with next (tick rest s) ≡ tick (λ u. continue_with next (rest u)) s
tick_then {A} {B} rest next s = by s.units
  where
    by : (units : ℕ) → continue_with next (spend rest units s) ≡ spend (λ u. continue_with next (rest u)) units s
    by zero = refl
    by (suc units) = refl

pub given_then : {A B C : Type 0} (first : A → B) (second : B → C) (outcome : Outcome A) → continue_with (λ b. give (second b)) (continue_with (λ a. give (first a)) outcome) ≡ continue_with (λ a. give (second (first a))) outcome
given_then first second (Then a s) = refl
given_then first second (S.Stopped answer s) = refl

pub twice_then : {A B C D : Type 0} (rest : A → Eval B) (first : B → C) (second : C → D) (outcome : Outcome A)
    → continue_with (λ c. give (second c)) (continue_with (λ a v. continue_with (λ b. give (first b)) (rest a v)) outcome) ≡ continue_with (λ a v. continue_with (λ b. give (second (first b))) (rest a v)) outcome
twice_then rest first second (Then a s) = given_then first second (rest a s)
twice_then rest first second (S.Stopped answer s) = refl

module _ (tac : Tac) (program : Program) (calls : Calls) (worth : ℕ) (points : List Op) (placement : Placement) (hidden : ℕ → Option V.Content) (frame : Frame) (scope : Scope)
    (runs : Runs tac program points frame) (well : IsWellTyped program) (keep : CallsKeep program calls) where
  -- a point takes the address of a place in a living object
  pub takes_address : {start : State} {n lag : ℕ} (slack : ℕ) (mode : Mode) (from mid to : Spot) (lowered : Lowered) (before : Registers) (path : Path) (own target : CType) (place : Place) (s : S.State) (state : State)
      → Passing tac worth start state n s.units lag (slack + (path_cost path + 7)) → At program placement hidden frame scope mid.at s state → Sound (context_of program scope) s → KeepsBefore from.counts before state.running.registers
      → SpotGrows from mid → GivesPointer points (λ register. O.AddressOf register path) target mid to lowered → PathStands program frame placement state.running.registers path own place → IsPlace program s place → IsAlive (s.objects place.name)
      → Does tac worth start n lag (slack + (laid_by lowered + 6)) (Evaluating.ComesToValue tac program calls worth points placement hidden frame scope mode from to lowered before) (Then (PointerValue place) s)
  takes_address {start} {n} {lag} slack mode from mid to lowered before path own target place s state p h sound kept grows code leads_to is_in alive =
      let memory = h.stands.memory in
      let at = placed program well placement (scope_types scope) s sound state.objects memory place (Address leads_to.0 leads_to.1) is_in (lives_is (s.objects place.name) alive)
      (Placing.stands_at program well placement (scope_types scope) s sound state.objects memory place leads_to.0 leads_to.1 leads_to.3.0 leads_to.3.1) in
      let same : leads_to.0 ≡ at.object = same_Some _ _ (sym leads_to.3.0 ∙ at.is_image) in
      let found : leads (surroundings program frame) state.running.registers path ≡ Some (record { object = at.object; inner = record { offset = offset_of (around_of program) place; c_type = own } })
      = leads_to.2 ∙ (λ i. Some (record { object = same i; inner = record { offset = leads_to.3.1 i; c_type = own } })) in
      let there : is_place program.structs state.objects at.object (offset_of (around_of program) place) ≡ true
      = place_at program well placement (scope_types scope) s sound state.objects memory place at.object at.typed place.index at.typed.index in
      puts tac program calls worth points placement hidden frame scope runs well keep (O.AddressOf (expression mid) path) (expression mid) (Address at.object (offset_of (around_of program) place)) mode from mid to lowered
      (AsPointer (expression mid) target) before (PointerValue place) s state p h kept code.0
      (ap (λ reached. A.given reached state (X.address (surroundings program frame) (expression mid) state)) found
      ∙ ap (λ (b : Bool). A.unless_lost b state (write (expression mid) (Address at.object (offset_of (around_of program) place)) state)) there)
      (omega (arith, grows.expressions)) tt (ap (λ (spot : Spot). spot.at) code.1) code.2 (
        Address at.object (offset_of (around_of program) place),
        written_there (expression mid) (Some (Address at.object (offset_of (around_of program) place))) state.running.registers,
        Placing.stands_at program well placement (scope_types scope) s sound state.objects memory place at.object (offset_of (around_of program) place) at.is_image refl,
      )
      (omega arith) (let laid = ap laid_by code.2 in omega (arith, laid))

  -- ---- arrays

  -- what an array is needed for
  decayed_does : {start : State} {n lag : ℕ} (slack : ℕ) (mode : Mode) (from mid to : Spot) (lowered : Lowered) (path : Path) (element : CType) (count : ℕ) (before : Registers) (place : Place) (s : S.State) (state : State)
      → Passing tac worth start state n s.units lag (slack + (laid_by (AsObject path (Array element count)) + 10)) → At program placement hidden frame scope mid.at s state → Sound (context_of program scope) s
      → KeepsBefore from.counts before state.running.registers → SpotGrows from mid → Decays points mode path element count mid to lowered → place.row.c_type ≡ Array element count
      → PathStands program frame placement state.running.registers path (Array element count) place
      → PathStands program frame placement state.running.registers (then_step path (Element (Constant (pos 0)))) element (decayed (around_of program) place)
      → IsPlace program s (decayed (around_of program) place) → IsAlive (s.objects place.name)
      → Does tac worth start n lag (slack + (laid_by lowered + 6)) (Evaluating.ComesToValue tac program calls worth points placement hidden frame scope mode from to lowered before) (Then (PointerValue (decayed (around_of program) place)) s)
  decayed_does slack Kept from mid to lowered path element count before place s state p h sound kept grows code own leads_to first is_in alive =
      let cost = cost_then path (Element (Constant (pos 0))) in
      takes_address slack Kept from mid to lowered before (then_step path (Element (Constant (pos 0)))) element element (decayed (around_of program) place) s state (eased p (omega arith) (omega (arith, cost))) h sound kept grows code first is_in alive
  decayed_does slack Dropped from mid to lowered path element count before place s state p h sound kept grows code own leads_to first is_in alive =
      let cost = cost_then path (Element (Constant (pos 0))) in
      takes_address slack Dropped from mid to lowered before (then_step path (Element (Constant (pos 0)))) element element (decayed (around_of program) place) s state (eased p (omega arith) (omega (arith, cost))) h sound kept grows code first is_in alive
  decayed_does slack (Behind followed) from mid to lowered path element count before place s state p h sound kept grows code own leads_to first is_in alive =
      has_come tac program calls worth points placement hidden frame scope runs well keep (Behind followed) from mid to lowered (AsObject (then_step path (Element (Constant (pos 0)))) element) before (PointerValue (decayed (around_of program) place)) s state p h kept
      code.0 code.1 (always (s.objects place.name) first) (omega arith) (let laid = ap laid_by code.1 in let cost = cost_then path (Element (Constant (pos 0))) in omega (arith, laid, cost))
  decayed_does slack (Row followed) from mid to lowered path element count before place s state p h sound kept grows code own leads_to first is_in alive =
      has_come tac program calls worth points placement hidden frame scope runs well keep (Row followed) from mid to lowered (AsObject path (Array element count)) before (PointerValue (decayed (around_of program) place)) s state p h kept
      code.0 code.1 (place, refl, own, always (s.objects place.name) leads_to) (omega arith) (let laid = ap laid_by code.1 in omega (arith, laid))

  pub decays : (here : Pos) (object : Object) → Finds tac program calls worth points placement hidden frame scope runs well keep object → ValueDoes tac program calls worth points placement hidden frame scope (T.Decay here object)
  decays here object finds mode from to lowered t code typed small start n lag slack s state p h =
      let parts = given_parts (type_of_object (context_of program scope) object) first_element t typed in
      let is = object_form program points scope object false (is_followed mode) parts.0 from code.0 (AsObject code.1 (Array code.2 code.3)) parts.1 code.4 in
      let grows = (object_named program points scope object false (is_followed mode) from code.0 (AsObject code.1 (Array code.2 code.3)) code.4).grows in
      let pointer_is = held_parts (not (is_function code.2)) (Pointer code.2) t (subst (λ u. first_element u ≡ Some t) is parts.2) in
      then_find tac program calls worth points placement hidden frame scope runs well keep object finds (λ place. give (PointerValue (decayed (around_of program) place))) (is_followed mode) from code.0 code.1 (Array code.2 code.3) parts.0 code.4 parts.1 small
      s state p h (omega arith) (λ place s' state' q came keeps element.
      let own = element.is_own ∙ is in
      let first = row_leads tac program calls worth points placement hidden frame scope runs well keep state'.running.registers code.1 code.2 code.3 (Constant (pos 0)) place (pos 0) 0 own came.1 refl refl zero-le in
      let pointer = subst (λ u. HasType program s' u (PointerValue (decayed (around_of program) place))) (sym pointer_is.1) (decay_type program s' well parts.0 t place parts.2 element) in
      decayed_does slack mode from code.0 to lowered code.1 code.2 code.3 state.running.registers place s' state' q came.0.there keeps.sound came.0.kept grows code.5 own came.1 first pointer.1 came.2)

  -- ---- addresses of objects

  abbrev pub Addresses : Object → Type 0
  Addresses tree = Evaluating.AddressDoes tac program calls worth points placement hidden frame scope tree

  -- the address of what is found
  found_address : (is_kept followed : Bool) (from to : Spot) (path : Path) (c_type : CType) (before : Registers) (place : Place) (s : S.State) (state : State)
      → Evaluating.ComesToPlace tac program calls worth points placement hidden frame scope from to path c_type before place s state
      → Evaluating.ComesToValue tac program calls worth points placement hidden frame scope (pointed_mode is_kept followed) from to (AsObject path c_type) before (PointerValue place) s state
  found_address true followed from to path c_type before place s state came = (came.0, (place, refl, came.2, came.1))
  found_address false followed from to path c_type before place s state came = (came.0, always (s.objects place.name) came.1)

  -- an address that is the object's, once that is found
  by_finding : (tree : Object) → Finds tac program calls worth points placement hidden frame scope runs well keep tree → (is_kept followed : Bool) (from to : Spot) (lowered : Lowered) (path : Path) (c_type t : CType)
      → lowered ≡ AsObject path c_type → ObjectCode program points scope false followed tree from to (AsObject path c_type) → type_of_object (context_of program scope) tree ≡ Some t → object_makes (is_storable program.structs) tree ≡ true
      → (start : State) (n lag slack : ℕ) (s : S.State) (state : State) → Passing tac worth start state n s.units lag slack → Evaluating.AtSpot tac program calls worth points placement hidden frame scope from.at s state
      → Does tac worth start n (lag + object_units tree) (slack + (laid_by lowered + 6)) (Evaluating.ComesToValue tac program calls worth points placement hidden frame scope (pointed_mode is_kept followed) from to lowered state.running.registers)
      (continue_with (λ place. give (PointerValue place)) (find (around_of program) calls tree s))
  by_finding tree finds is_kept followed from to lowered path c_type t is code typed small start n lag slack s state p h =
      subst (λ l. Does tac worth start n (lag + object_units tree) (slack + (laid_by l + 6)) (Evaluating.ComesToValue tac program calls worth points placement hidden frame scope (pointed_mode is_kept followed) from to l state.running.registers)
      (continue_with (λ place. give (PointerValue place)) (find (around_of program) calls tree s))) (sym is)
      (bind (λ place. give (PointerValue place)) (finds followed from to path c_type t code typed small start n lag slack s state p h) (omega arith)
      (λ place s' state' q came. comes (PointerValue place) s' state' (eased q (omega arith) (omega arith)) (found_address is_kept followed from to path c_type state.running.registers place s' state' came)))

  pub local_addresses : (index : ℕ) → Finds tac program calls worth points placement hidden frame scope runs well keep (T.Local index) → Addresses (T.Local index)
  local_addresses index finds is_kept followed from to lowered t code typed small start n lag slack s state p h =
      by_finding (T.Local index) finds is_kept followed from to lowered (path_from (AtLocal code.0.local)) code.0.c_type t code.4 (code.0, code.1, code.2, code.3, refl) typed small start n lag slack s state p h

  pub global_addresses : (name : List ℕ) → Finds tac program calls worth points placement hidden frame scope runs well keep (T.Global name) → Addresses (T.Global name)
  global_addresses name finds is_kept followed from to lowered t code typed small start n lag slack s state p h =
      subst (λ outcome. Does tac worth start n (lag + 1) (slack + (laid_by lowered + 6)) (Evaluating.ComesToValue tac program calls worth points placement hidden frame scope (pointed_mode is_kept followed) from to lowered state.running.registers) outcome)
      (tick_then (named (GlobalObject name)) (λ place. give (PointerValue place)) s)
      (by_finding (T.Global name) finds is_kept followed from to lowered (path_from (AtGlobal code.0)) code.1.c_type t code.4 (code.0, code.1, code.2, code.3, refl) typed small start n lag slack s state p h)

  pub literal_addresses : (here : Pos) (bytes : List ℕ) → Finds tac program calls worth points placement hidden frame scope runs well keep (T.Literal here bytes) → Addresses (T.Literal here bytes)
  literal_addresses here bytes finds is_kept followed from to lowered t code typed small start n lag slack s state p h =
      subst (λ outcome. Does tac worth start n (lag + 1) (slack + (laid_by lowered + 6)) (Evaluating.ComesToValue tac program calls worth points placement hidden frame scope (pointed_mode is_kept followed) from to lowered state.running.registers) outcome)
      (tick_then (give (object_place (LiteralObject here) (literal_type bytes))) (λ place. give (PointerValue place)) s)
      (by_finding (T.Literal here bytes) finds is_kept followed from to lowered (path_from (AtLiteral code.0)) (literal_type bytes) t code.4 (code.0, code.1, code.2, code.3, refl) typed small start n lag slack s state p h)

  pub grouped_addresses : (here : Pos) (inner : Object) → Addresses inner → Addresses (T.GroupedObject here inner)
  grouped_addresses here inner addresses is_kept followed from to lowered t code typed small start n lag slack s state p h =
      ticked tac program calls worth points placement hidden frame scope runs well keep (address (around_of program) calls inner) from.at s state p h (omega arith) (λ left p' h'.
      eases (addresses is_kept followed from to lowered t code typed small start n (suc lag) (ticks_per_unit + slack) (record s { units = left }) state p' h') (omega arith) (omega arith))

  pub member_addresses : (here : Pos) (object : Object) (number : ℕ) → Finds tac program calls worth points placement hidden frame scope runs well keep (T.MemberOf here object number) → Addresses (T.MemberOf here object number)
  member_addresses here object number finds is_kept followed from to lowered t code typed small start n lag slack s state p h =
      subst (λ outcome. Does tac worth start n (lag + (1 + object_units object)) (slack + (laid_by lowered + 6)) (Evaluating.ComesToValue tac program calls worth points placement hidden frame scope (pointed_mode is_kept followed) from to lowered state.running.registers) outcome)
      (tick_then (λ u. continue_with (λ place. give (member_at (around_of program) place number)) (find (around_of program) calls object u)) (λ place. give (PointerValue place)) s
      ∙ (λ i. tick (λ u. given_then (λ place. member_at (around_of program) place number) PointerValue (find (around_of program) calls object u) i) s))
      (by_finding (T.MemberOf here object number) finds is_kept followed from to lowered (then_step code.0 (Member number)) code.2 t code.5 (code.0, code.1, code.2, code.3, code.4, refl) typed small start n lag slack s state p h)

  pub pointed_member_addresses : (here : Pos) (pointer : Value) (number : ℕ) → Finds tac program calls worth points placement hidden frame scope runs well keep (T.PointedMember here pointer number)
      → Addresses (T.PointedMember here pointer number)
  pointed_member_addresses here pointer number finds is_kept followed from to lowered t code typed small start n lag slack s state p h =
      subst (λ outcome. Does tac worth start n (lag + (1 + value_units pointer)) (slack + (laid_by lowered + 6)) (Evaluating.ComesToValue tac program calls worth points placement hidden frame scope (pointed_mode is_kept followed) from to lowered state.running.registers) outcome)
      (tick_then (λ u. continue_with (λ a v. continue_with (λ place. give (member_at (around_of program) place number)) (accessed here a v)) (value (around_of program) calls pointer u)) (λ place. give (PointerValue place)) s
      ∙ (λ i. tick (λ u. twice_then (λ a v. accessed here a v) (λ place. member_at (around_of program) place number) PointerValue (value (around_of program) calls pointer u) i) s))
      (by_finding (T.PointedMember here pointer number) finds is_kept followed from to lowered (then_step code.1 (Member number)) code.3 t code.7 (code.0, code.1, code.2, code.3, code.4, code.5, code.6, refl) typed small start n lag slack s state p h)

  -- what a pointer points to, where that is used at once
  behind_pointer : (followed : Bool) (s : S.State) (state : State) (found : Lowered) (scalar : Scalar) → MemoryStands program placement s.objects state.objects
      → LoweredStands program (Behind followed) frame placement s.objects state.running.registers found scalar → LoweredStands program (Behind followed) frame placement s.objects state.running.registers (pointed_by false found) scalar
  behind_pointer followed s state (AsInteger own tree) scalar memory stands = stands
  behind_pointer followed s state (AsObject path own) scalar memory stands = stands
  behind_pointer followed s state AsNothing scalar memory stands = tt
  behind_pointer followed s state (AsPointer register target) (IntegerValue z) memory stands = tt
  behind_pointer followed s state (AsPointer register target) NullValue memory stands = tt
  behind_pointer followed s state (AsPointer register target) (FunctionValue name) memory stands = tt
  behind_pointer followed s state (AsPointer register target) (RawPointer number) memory stands = tt
  behind_pointer followed s state (AsPointer register target) (PointerValue place) memory stands =
      where_lives (s.objects place.name) _ (λ lives. pointer_leads tac program calls worth points placement hidden frame scope runs well keep s state register target place memory lives stands)

  pub pointed_addresses : (here : Pos) (pointer : Value) → ValueDoes tac program calls worth points placement hidden frame scope pointer → Addresses (T.Pointed here pointer)
  pointed_addresses here pointer follows is_kept followed from to lowered t code typed small start n lag slack s state p h =
      let parts = given_parts (type_of (context_of program scope) pointer) (pointed program.structs) t typed in
      let left = left_most pointer in
      ticked tac program calls worth points placement hidden frame scope runs well keep (value (around_of program) calls pointer) from.at s state p h (omega arith) (λ units p' h'.
      by units is_kept code.0 parts.0 parts.1 code.1 code.2 (follows (pointed_mode is_kept followed) from to code.0 parts.0 code.1 parts.1 small start n (suc lag) (ticks_per_unit + slack) (record s { units = units }) state p' h'))
    where
      by : (units : ℕ) (is_kept : Bool) (found : Lowered) (own : CType) → type_of (context_of program scope) pointer ≡ Some own → ValueCode program points scope (pointed_mode is_kept followed) pointer from to found → lowered ≡ pointed_by is_kept found
          → Does tac worth start n (suc lag + value_units pointer) (ticks_per_unit + slack + (laid_by found + left_for pointer)) (Evaluating.ComesToValue tac program calls worth points placement hidden frame scope (pointed_mode is_kept followed) from to found state.running.registers)
          (value (around_of program) calls pointer (record s { units = units }))
          → Does tac worth start n (lag + (1 + value_units pointer)) (slack + (laid_by lowered + 6)) (Evaluating.ComesToValue tac program calls worth points placement hidden frame scope (pointed_mode is_kept followed) from to lowered state.running.registers)
          (value (around_of program) calls pointer (record s { units = units }))
      by units true found own typed code is does =
          let laid = ap laid_by is in
          let left = left_most pointer in
          eases (allows does (λ scalar s' state' came. (came.0, subst (λ l. LoweredStands program Kept frame placement s'.objects state'.running.registers l scalar) (sym is) came.1))) (omega arith) (omega (arith, laid, left))
      by units false found own typed code is does =
          let laid = ap laid_by is in
          let less = pointed_less found in
          let left = left_most pointer in
          eases (allows does (λ scalar s' state' came. (
            came.0,
            subst (λ l. LoweredStands program (Behind followed) frame placement s'.objects state'.running.registers l scalar) (sym is)
                (behind_pointer followed s' state' found scalar came.0.there.stands.memory came.1),
          ))) (omega arith) (omega (arith, laid, less, left))

  -- ---- addresses as values

  -- an address is kept as a value, or its object is used at once
  taken : {start : State} {n lag : ℕ} (slack : ℕ) (mode : Mode) (from mid to : Spot) (found lowered : Lowered) (before : Registers) (u : CType) (scalar : Scalar) (s : S.State) (state : State)
      → Passing tac worth start state n s.units lag (slack + (laid_by found + 22))
      → Evaluating.ComesToValue tac program calls worth points placement hidden frame scope (pointed_mode (is_address mode) (is_followed mode)) from mid found before scalar s state → Sound (context_of program scope) s
      → HasType program s (Pointer u) scalar → SpotGrows from mid → TakesAddress points mode found mid to lowered
      → Does tac worth start n lag (slack + (laid_by lowered + 6)) (Evaluating.ComesToValue tac program calls worth points placement hidden frame scope mode from to lowered before) (Then scalar s)
  taken {start} {n} {lag} slack (Behind followed) from mid to found lowered before u scalar s state p came sound typed grows code =
      has_come tac program calls worth points placement hidden frame scope runs well keep (Behind followed) from mid to lowered found before scalar s state p came.0.there came.0.kept code.0 code.1 came.1 (omega arith)
      (let laid = ap laid_by code.1 in omega (arith, laid))
  taken {start} {n} {lag} slack Kept from mid to (AsObject path own) lowered before u scalar s state p came sound typed grows code =
      subst (λ x. Does tac worth start n lag (slack + (laid_by lowered + 6)) (Evaluating.ComesToValue tac program calls worth points placement hidden frame scope Kept from to lowered before) (Then x s)) (sym came.1.1)
      (takes_address slack Kept from mid to lowered before path own own came.1.0 s state (eased p (omega arith) (omega arith)) came.0.there sound came.0.kept grows code came.1.3 (subst (λ x. HasType program s (Pointer u) x) came.1.1 typed).1 came.1.2)
  taken {start} {n} {lag} slack Kept from mid to (AsInteger own tree) lowered before u scalar s state p came sound typed grows code =
      has_come tac program calls worth points placement hidden frame scope runs well keep Kept from mid to lowered (AsInteger own tree) before scalar s state p came.0.there came.0.kept code.0 code.1 came.1 (omega arith)
      (let laid = ap laid_by code.1 in omega (arith, laid))
  taken {start} {n} {lag} slack Kept from mid to (AsPointer register target) lowered before u scalar s state p came sound typed grows code =
      has_come tac program calls worth points placement hidden frame scope runs well keep Kept from mid to lowered (AsPointer register target) before scalar s state p came.0.there came.0.kept code.0 code.1 came.1 (omega arith)
      (let laid = ap laid_by code.1 in omega (arith, laid))
  taken {start} {n} {lag} slack Kept from mid to AsNothing lowered before u scalar s state p came sound typed grows code =
      has_come tac program calls worth points placement hidden frame scope runs well keep Kept from mid to lowered AsNothing before scalar s state p came.0.there came.0.kept code.0 code.1 came.1 (omega arith)
      (let laid = ap laid_by code.1 in omega (arith, laid))
  taken {start} {n} {lag} slack Dropped from mid to (AsObject path own) lowered before u scalar s state p came sound typed grows code =
      subst (λ x. Does tac worth start n lag (slack + (laid_by lowered + 6)) (Evaluating.ComesToValue tac program calls worth points placement hidden frame scope Dropped from to lowered before) (Then x s)) (sym came.1.1)
      (takes_address slack Dropped from mid to lowered before path own own came.1.0 s state (eased p (omega arith) (omega arith)) came.0.there sound came.0.kept grows code came.1.3 (subst (λ x. HasType program s (Pointer u) x) came.1.1 typed).1 came.1.2)
  taken {start} {n} {lag} slack Dropped from mid to (AsInteger own tree) lowered before u scalar s state p came sound typed grows code =
      has_come tac program calls worth points placement hidden frame scope runs well keep Dropped from mid to lowered (AsInteger own tree) before scalar s state p came.0.there came.0.kept code.0 code.1 came.1 (omega arith)
      (let laid = ap laid_by code.1 in omega (arith, laid))
  taken {start} {n} {lag} slack Dropped from mid to (AsPointer register target) lowered before u scalar s state p came sound typed grows code =
      has_come tac program calls worth points placement hidden frame scope runs well keep Dropped from mid to lowered (AsPointer register target) before scalar s state p came.0.there came.0.kept code.0 code.1 came.1 (omega arith)
      (let laid = ap laid_by code.1 in omega (arith, laid))
  taken {start} {n} {lag} slack Dropped from mid to AsNothing lowered before u scalar s state p came sound typed grows code =
      has_come tac program calls worth points placement hidden frame scope runs well keep Dropped from mid to lowered AsNothing before scalar s state p came.0.there came.0.kept code.0 code.1 came.1 (omega arith)
      (let laid = ap laid_by code.1 in omega (arith, laid))
  taken {start} {n} {lag} slack (Row followed) from mid to (AsObject path own) lowered before u scalar s state p came sound typed grows code =
      subst (λ x. Does tac worth start n lag (slack + (laid_by lowered + 6)) (Evaluating.ComesToValue tac program calls worth points placement hidden frame scope (Row followed) from to lowered before) (Then x s)) (sym came.1.1)
      (takes_address slack (Row followed) from mid to lowered before path own own came.1.0 s state (eased p (omega arith) (omega arith)) came.0.there sound came.0.kept grows code came.1.3 (subst (λ x. HasType program s (Pointer u) x) came.1.1 typed).1 came.1.2)
  taken {start} {n} {lag} slack (Row followed) from mid to (AsInteger own tree) lowered before u scalar s state p came sound typed grows code =
      has_come tac program calls worth points placement hidden frame scope runs well keep (Row followed) from mid to lowered (AsInteger own tree) before scalar s state p came.0.there came.0.kept code.0 code.1 came.1 (omega arith)
      (let laid = ap laid_by code.1 in omega (arith, laid))
  taken {start} {n} {lag} slack (Row followed) from mid to (AsPointer register target) lowered before u scalar s state p came sound typed grows code =
      has_come tac program calls worth points placement hidden frame scope runs well keep (Row followed) from mid to lowered (AsPointer register target) before scalar s state p came.0.there came.0.kept code.0 code.1 came.1 (omega arith)
      (let laid = ap laid_by code.1 in omega (arith, laid))
  taken {start} {n} {lag} slack (Row followed) from mid to AsNothing lowered before u scalar s state p came sound typed grows code =
      has_come tac program calls worth points placement hidden frame scope runs well keep (Row followed) from mid to lowered AsNothing before scalar s state p came.0.there came.0.kept code.0 code.1 came.1 (omega arith)
      (let laid = ap laid_by code.1 in omega (arith, laid))

  pub address_values : (here : Pos) (object : Object) → Addresses object → ValueDoes tac program calls worth points placement hidden frame scope (T.AddressOf here object)
  address_values here object addresses mode from to lowered t code typed small start n lag slack s state p h =
      let parts = given_parts (type_of_object (context_of program scope) object) (λ u. Some (Pointer u)) t typed in
      let grows = (object_named program points scope object (is_address mode) (is_followed mode) from code.0 code.1 code.2).grows in
      ticked tac program calls worth points placement hidden frame scope runs well keep (address (around_of program) calls object) from.at s state p h (omega arith) (λ units p' h'.
      by (record s { units = units }) h' parts.0 parts.1 grows (address (around_of program) calls object (record s { units = units })) refl
      (addresses (is_address mode) (is_followed mode) from code.0 code.1 parts.0 code.2 parts.1 small start n (suc lag) (ticks_per_unit + slack) (record s { units = units }) state p' h'))
    where
      by : (s1 : S.State) → Evaluating.AtSpot tac program calls worth points placement hidden frame scope from.at s1 state → (u : CType) → type_of_object (context_of program scope) object ≡ Some u → SpotGrows from code.0
          → (outcome : Outcome Scalar) → address (around_of program) calls object s1 ≡ outcome
          → Does tac worth start n (suc lag + object_units object) (ticks_per_unit + slack + (laid_by code.1 + 6))
          (Evaluating.ComesToValue tac program calls worth points placement hidden frame scope (pointed_mode (is_address mode) (is_followed mode)) from code.0 code.1 state.running.registers) outcome
          → Does tac worth start n (lag + (1 + object_units object)) (slack + (laid_by lowered + 6)) (Evaluating.ComesToValue tac program calls worth points placement hidden frame scope mode from to lowered state.running.registers) outcome
      by s1 h1 u typed_as grows _ e (comes scalar s' state' q came) =
          let keeps = address_keeps program well calls keep (scope_types scope) object small u typed_as s1 h1.sound scalar s' e in
          taken slack mode from code.0 to code.1 lowered state.running.registers u scalar s' state' (eased q (omega arith) (omega arith)) came keeps.0.sound keeps.1 grows code.3
      by s1 h1 u typed_as grows _ e (stops answer s' a) =
          let same : Does tac worth start n (suc lag + object_units object) (slack + (laid_by lowered + 6)) (Evaluating.ComesToValue tac program calls worth points placement hidden frame scope mode from to lowered state.running.registers) (S.Stopped answer s')
          = stops answer s' a in
          eases same (omega arith) (omega arith)
