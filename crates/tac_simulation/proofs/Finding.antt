-- The objects of expressions are found on both sides.
use Rattle.std.proofs.Common.{◌≡◌, ℕ, suc, ◌+◌, ◌*◌, ◌≤◌, Bool, true, false, if◌then◌else◌, List, [], ◌∷◌, Option, Some, None, refl, sym, ap, ◌∙◌, subst, arith}
use Rattle.std.proofs.lemmas.Bool.{false≢true}
use Rattle.std.proofs.lemmas.Option.{none-some, same_Some}
use Rattle.std.proofs.lemmas.Slice.Eq.{bytes_eq-Decides}
use Rattle.std.specs.Prelude.{bytes_eq}
use Rattle.run_theory.specs.declared.place.Pos.{Pos}
use Rattle.run_theory.specs.declared.ends.UbKind.TheVariants as Ub
use Rattle.c_typed.specs.Types.{CType, literal_type}
use Rattle.c_typed.specs.Typed as T
use Rattle.c_typed.specs.Typed.{Value, Object, Program}
use Rattle.c_typed.specs.Context.{literal_bytes}
use Rattle.c_typed.specs.Expressions.{type_of_object}
use Rattle.c_typed.specs.Expressions as W
use Rattle.c_typed.specs.Programs.{IsWellTyped}
use Rattle.c_typed.specs.Sizes.{object_makes, is_storable}
use Rattle.ref_semantics.specs.Values as V
use Rattle.ref_semantics.specs.Values.{LocalObject, GlobalObject, LiteralObject, Place, Scalar, PointerValue, object_place, place_of, is_end}
use Rattle.ref_semantics.specs.Store as S
use Rattle.ref_semantics.specs.Store.{Outcome, Then, Eval, Premise, premise, unless, give, undefined, continue_with, offset_of, member_at, is_dead_pointer, is_null_pointer}
use Rattle.ref_semantics.specs.Meaning.{Calls, value, find, address, local_name, local_place, named}
use Rattle.ref_semantics.specs.Pointers.{accessed}
use Rattle.ref_semantics.specs.First.{around_of}
use Rattle.ref_semantics.specs.Keeping.{Keeps, CallsKeep, IsElement}
use Rattle.ref_semantics.proofs.Lasting.{NoneFails}
use Rattle.c_typed.proofs.Splitting.{given_parts, other_parts}
use Rattle.ref_semantics.proofs.ValuesKeep.{find_keeps}
use Rattle.tac_ir.specs.Code.{Op, Tac, Path, AtLocal, AtGlobal, AtLiteral, Member}
use Rattle.tac_ir.specs.Code as O
use Rattle.tac_ir.specs.declared.register.Local.{Local}
use Rattle.tac_ir.specs.Values.{OfActivation, OfGlobal, OfLiteral, Typed, same_local}
use Rattle.tac_ir.specs.Layouts as M
use Rattle.tac_ir.specs.Layouts.{Inner}
use Rattle.tac_ir.specs.Objects.{own_type, whole, leads}
use Rattle.tac_ir.specs.Trees.{Registers}
use Rattle.tac_ir.specs.States.{State}
use Rattle.tac_build.specs.Homes.{Home, Scope, home_of, in_register, register_home, home_behind}
use Rattle.tac_build.specs.Spots.{Spot, Lowered, AsInteger, AsPointer, AsObject, AsNothing}
use Rattle.tac_build.specs.Code.{path_from, then_step, ObjectCode}
use Rattle.tac_build.specs.Forms.{scope_types, context_of}
use Rattle.tac_simulation.specs.Comparing.{ticks_per_unit}
use Rattle.tac_simulation.specs.Standing.{Placement, Frame, KeepsBefore, IsAlive, ContentStands, At, HomeStands, surroundings, global_object, literal_object, PathStands}
use Rattle.tac_simulation.proofs.Paths.{Stand, Passage as Passing, Does, comes, stops, eased, eases, bind, stray, chosen}
use Rattle.tac_simulation.proofs.Spotting.{Runs, kept_same}
use Rattle.tac_simulation.proofs.Evaluating
use Rattle.tac_simulation.proofs.Evaluating.{FindDoes, laid_by, object_units, value_units}
use Rattle.tac_simulation.proofs.Combining.{ticked}
use Rattle.tac_build.proofs.Forms.{object_form}
use Rattle.tac_simulation.proofs.Parts.{member_place}
use Rattle.tac_simulation.proofs.Leading.{cost_then, leads_then, found_home, local_is, named_is, global_there, literal_there}

-- where no premise fails
pub unless_does : {A : Type 0} {tac : Tac} {worth : ℕ} {Stands : Stand A} {from : State} {n lag slack : ℕ} (here : Pos) (premises : List Premise) (rest : Eval A) (s : S.State)
    → (NoneFails premises → Does tac worth from n lag slack Stands (rest s)) → Does tac worth from n lag slack Stands (unless here premises rest s)
unless_does here [] rest s one = one tt
unless_does here (first ∷ others) rest s one =
    chosen first.fails (undefined first.kind here) (unless here others rest) s (λ fails. stray first.kind here s) (λ holds. unless_does here others rest s (λ all. one (holds, all)))

-- an object of a function begins where it begins
own_begins : (own : List O.LocalObject) (local : Local) (inner : Inner) → own_type own local ≡ Some inner → inner.offset ≡ 0
own_begins [] local inner is = absurd (none-some inner is)
own_begins (first ∷ others) local inner is = by (same_local first.local local) is (own_begins others local inner)
  where
    by : (b : Bool) → (if b then whole first.c_type else own_type others local) ≡ Some inner → (own_type others local ≡ Some inner → inner.offset ≡ 0) → inner.offset ≡ 0
    by true e rest = ap (λ (i : Inner). i.offset) (sym (same_Some (record { offset = 0; c_type = first.c_type }) inner e))
    by false e rest = rest e

inner_is : (inner : Inner) (c_type : CType) → inner.offset ≡ 0 → inner.c_type ≡ c_type → ◌≡◌ {A = Inner} inner (record { offset = 0; c_type = c_type })
inner_is inner c_type begins is = λ i. record { offset = begins i; c_type = is i }

register_found : (found : Option Home) (home : Home) → in_register found ≡ Some home → (found ≡ Some home) × (home.is_object ≡ false)
register_found None home is = absurd (none-some home is)
register_found (Some found) home is = by found.is_object refl is
  where
    by : (b : Bool) → found.is_object ≡ b → (if b then None else Some found) ≡ Some home → (Some found ≡ Some home) × (home.is_object ≡ false)
    by true e is = absurd (none-some home is)
    by false e is = (is, ap (λ (h : Home). h.is_object) (sym (same_Some found home is)) ∙ e)

-- what objects come to is equal where they are
pub object_type : (path other : Path) (own c_type : CType) → AsObject path own ≡ AsObject other c_type → own ≡ c_type
object_type path other own c_type e = cc

begins : (size : ℕ) → 0 ≡ 0 + 0 * size
begins size = omega arith

module _ (tac : Tac) (program : Program) (calls : Calls) (worth : ℕ) (points : List Op) (placement : Placement) (hidden : ℕ → Option V.Content) (frame : Frame) (scope : Scope)
    (runs : Runs tac program points frame) (well : IsWellTyped program) (keep : CallsKeep program calls) where
  -- ---- locals in registers

  -- The place of a local in a register, in its home: no step was made.
  pub record FoundLocal (at : ℕ) (home : Home) (before : State) (place : Place) (s : S.State) (state : State) : Type 0 where
    pub same : state ≡ before
    pub there : Evaluating.AtSpot tac program calls worth points placement hidden frame scope at s state
    pub index : ℕ
    pub home_is : home_of scope index ≡ Some home
    pub is_register : home.is_object ≡ false
    pub number : ℕ
    pub name_is : local_name s.locals index ≡ Some (LocalObject number)
    pub place_is : place ≡ object_place (LocalObject number) home.c_type

  abbrev pub FindsLocal : Object → Type 0
  FindsLocal tree = (home : Home) → register_home scope tree ≡ Some home → (at : ℕ) (start : State) (n lag slack : ℕ) (s : S.State) (state : State) → Passing tac worth start state n s.units lag slack
      → Evaluating.AtSpot tac program calls worth points placement hidden frame scope at s state
      → Does tac worth start n (lag + object_units tree) (ticks_per_unit + slack) (FoundLocal at home state) (find (around_of program) calls tree s)

  -- a pointer to such a place
  abbrev pub FoundPointer : ℕ → Home → State → Stand Scalar
  FoundPointer at home before scalar s state = (place : Place) × (scalar ≡ PointerValue place) × FoundLocal at home before place s state

  abbrev PointsToLocal : Value → Type 0
  PointsToLocal tree = (home : Home) → home_behind scope tree ≡ Some home → (at : ℕ) (start : State) (n lag slack : ℕ) (s : S.State) (state : State) → Passing tac worth start state n s.units lag slack
      → Evaluating.AtSpot tac program calls worth points placement hidden frame scope at s state
      → Does tac worth start n (lag + value_units tree) (ticks_per_unit + slack) (FoundPointer at home state) (value (around_of program) calls tree s)

  abbrev AddressesLocal : Object → Type 0
  AddressesLocal tree = (home : Home) → register_home scope tree ≡ Some home → (at : ℕ) (start : State) (n lag slack : ℕ) (s : S.State) (state : State) → Passing tac worth start state n s.units lag slack
      → Evaluating.AtSpot tac program calls worth points placement hidden frame scope at s state
      → Does tac worth start n (lag + object_units tree) (ticks_per_unit + slack) (FoundPointer at home state) (address (around_of program) calls tree s)

  place_of_local : (index : ℕ) → FindsLocal (T.Local index)
  place_of_local index home is at start n lag slack s state p h =
      let register = register_found (home_of scope index) home is in
      ticked tac program calls worth points placement hidden frame scope runs well keep (local_place index) at s state p h (omega arith) (λ left p' h'.
      let found = found_home program placement frame.number state.running.registers s scope s.locals h.stands.homes h.sound.locals index home register.0 in
      let place = object_place (LocalObject found.number) home.c_type in
      subst (λ outcome. Does tac worth start n (lag + 1) (ticks_per_unit + slack) (FoundLocal at home state) outcome)
      (sym (local_is (record s { units = left }) index found.number home.c_type found.held found.name_is found.holds))
      (comes place (record s { units = left }) state (eased p' (omega arith) (omega arith))
      (record { same = refl; there = h'; index = index; home_is = register.0; is_register = register.1; number = found.number; name_is = found.name_is; place_is = refl })))

  -- the place to which such a pointer points
  accessed_local : {start : State} {n lag slack : ℕ} (here : Pos) (at : ℕ) (home : Home) (before : State) (scalar : Scalar) (s : S.State) (state : State) → Passing tac worth start state n s.units lag slack
      → FoundPointer at home before scalar s state → Does tac worth start n lag slack (FoundLocal at home before) (accessed here scalar s)
  accessed_local {start} {n} {lag} {slack} here at home before scalar s state p found =
      unless_does here (premise (is_dead_pointer s.objects scalar) Ub.U06 ∷ premise (is_null_pointer scalar) Ub.U05 ∷ premise (is_end (place_of scalar)) Ub.U07 ∷ []) (give (place_of scalar)) s (λ none.
      comes (place_of scalar) s state p (subst (λ place. FoundLocal at home before place s state) (sym (ap place_of found.1)) found.2))

  mutual
    pub finds_local : (tree : Object) → FindsLocal tree
    finds_local (T.Local index) home is at start n lag slack s state p h = place_of_local index home is at start n lag slack s state p h
    finds_local (T.GroupedObject place inner) home is at start n lag slack s state p h =
        ticked tac program calls worth points placement hidden frame scope runs well keep (find (around_of program) calls inner) at s state p h (omega arith) (λ left p' h'.
        eases (finds_local inner home is at start n (suc lag) (ticks_per_unit + slack) (record s { units = left }) state p' h') (omega arith) (omega arith))
    finds_local (T.Pointed place pointer) home is at start n lag slack s state p h =
        ticked tac program calls worth points placement hidden frame scope runs well keep (λ t. continue_with (accessed place) (value (around_of program) calls pointer t)) at s state p h (omega arith) (λ left p' h'.
        bind (accessed place) (points_local pointer home is at start n (suc lag) (ticks_per_unit + slack) (record s { units = left }) state p' h') (omega arith)
        (λ scalar s' state' q found. eases (accessed_local place at home state scalar s' state' q found) (omega arith) (omega arith)))
    finds_local (T.Global name) home is at start n lag slack s state p h = absurd (none-some home is)
    finds_local (T.Literal place bytes) home is at start n lag slack s state p h = absurd (none-some home is)
    finds_local (T.Element place pointer number) home is at start n lag slack s state p h = absurd (none-some home is)
    finds_local (T.ElementOf place number pointer) home is at start n lag slack s state p h = absurd (none-some home is)
    finds_local (T.MemberOf place object number) home is at start n lag slack s state p h = absurd (none-some home is)
    finds_local (T.PointedMember place pointer number) home is at start n lag slack s state p h = absurd (none-some home is)

    points_local : (tree : Value) → PointsToLocal tree
    points_local (T.Grouped inner) home is at start n lag slack s state p h =
        ticked tac program calls worth points placement hidden frame scope runs well keep (value (around_of program) calls inner) at s state p h (omega arith) (λ left p' h'.
        eases (points_local inner home is at start n (suc lag) (ticks_per_unit + slack) (record s { units = left }) state p' h') (omega arith) (omega arith))
    points_local (T.AddressOf place object) home is at start n lag slack s state p h =
        ticked tac program calls worth points placement hidden frame scope runs well keep (address (around_of program) calls object) at s state p h (omega arith) (λ left p' h'.
        eases (addresses_local object home is at start n (suc lag) (ticks_per_unit + slack) (record s { units = left }) state p' h') (omega arith) (omega arith))
    points_local tree home is at start n lag slack s state p h = absurd (none-some home is)

    addresses_local : (tree : Object) → AddressesLocal tree
    addresses_local (T.Local index) home is at start n lag slack s state p h =
        bind (λ place. give (PointerValue place)) (place_of_local index home is at start n lag slack s state p h) (omega arith)
        (λ place s' state' q found. comes (PointerValue place) s' state' q (place, refl, found))
    addresses_local (T.GroupedObject place inner) home is at start n lag slack s state p h =
        ticked tac program calls worth points placement hidden frame scope runs well keep (address (around_of program) calls inner) at s state p h (omega arith) (λ left p' h'.
        eases (addresses_local inner home is at start n (suc lag) (ticks_per_unit + slack) (record s { units = left }) state p' h') (omega arith) (omega arith))
    addresses_local (T.Pointed place pointer) home is at start n lag slack s state p h =
        ticked tac program calls worth points placement hidden frame scope runs well keep (value (around_of program) calls pointer) at s state p h (omega arith) (λ left p' h'.
        eases (points_local pointer home is at start n (suc lag) (ticks_per_unit + slack) (record s { units = left }) state p' h') (omega arith) (omega arith))
    addresses_local (T.Global name) home is at start n lag slack s state p h = absurd (none-some home is)
    addresses_local (T.Literal place bytes) home is at start n lag slack s state p h = absurd (none-some home is)
    addresses_local (T.Element place pointer number) home is at start n lag slack s state p h = absurd (none-some home is)
    addresses_local (T.ElementOf place number pointer) home is at start n lag slack s state p h = absurd (none-some home is)
    addresses_local (T.MemberOf place object number) home is at start n lag slack s state p h = absurd (none-some home is)
    addresses_local (T.PointedMember place pointer number) home is at start n lag slack s state p h = absurd (none-some home is)

  -- ---- objects in memory

  abbrev pub Finds : Object → Type 0
  Finds tree = FindDoes tac program calls worth points placement hidden frame scope tree

  -- what code comes to leads to a place
  abbrev pub LeadsTo : Registers → Place → Lowered → Type 0
  LeadsTo registers place (AsObject path c_type) = PathStands program frame placement registers path c_type place
  LeadsTo registers place (AsInteger own tree) = ⊥
  LeadsTo registers place (AsPointer register target) = ⊥
  LeadsTo registers place AsNothing = ⊥

  -- a path already leads to the place
  pub has_found : {start : State} {n lag lag' slack slack' : ℕ} (from mid to : Spot) (path : Path) (c_type : CType) (found : Lowered) (before : Registers) (place : Place) (s : S.State) (state : State)
      → Passing tac worth start state n s.units lag slack → At program placement hidden frame scope mid.at s state → KeepsBefore from.counts before state.running.registers → to ≡ mid → AsObject path c_type ≡ found
      → LeadsTo state.running.registers place found → IsAlive (s.objects place.name) → lag ≤ lag' → slack' ≤ slack
      → Does tac worth start n lag' slack' (Evaluating.ComesToPlace tac program calls worth points placement hidden frame scope from to path c_type before) (Then place s)
  has_found from mid to path c_type found before place s state p at kept next is leads alive more less =
      comes place s state (eased p more less) (
        record { there = subst (λ (spot : Spot). At program placement hidden frame scope spot.at s state) (sym next) at; kept = kept },
        subst (LeadsTo state.running.registers place) (sym is) leads,
        alive,
      )

  -- an object is found, and the evaluation goes on
  pub then_find : {B : Type 0} {Stands : Stand B} {start : State} {n lag lag' slack slack' : ℕ} (tree : Object) → Finds tree → (next : Place → Eval B)
      → (followed : Bool) (from to : Spot) (path : Path) (c_type t : CType) → ObjectCode program points scope false followed tree from to (AsObject path c_type) → type_of_object (context_of program scope) tree ≡ Some t
      → object_makes (is_storable program.structs) tree ≡ true
      → (s : S.State) (state : State) → Passing tac worth start state n s.units lag slack → Evaluating.AtSpot tac program calls worth points placement hidden frame scope from.at s state → lag + object_units tree ≤ lag'
      → ((place : Place) (s' : S.State) (state' : State) → Passing tac worth start state' n s'.units (lag + object_units tree) (slack + (laid_by (AsObject path c_type) + 10))
      → Evaluating.ComesToPlace tac program calls worth points placement hidden frame scope from to path c_type state.running.registers place s' state' → Keeps (context_of program scope) s s' → IsElement program s' t place
      → Does tac worth start n lag' slack' Stands (next place s'))
      → Does tac worth start n lag' slack' Stands (continue_with next (find (around_of program) calls tree s))
  then_find {B} {Stands} {start} {n} {lag} {lag'} {slack} {slack'} tree does next followed from to path c_type t code typed small s state p at more rest =
      by (find (around_of program) calls tree s) refl (does followed from to path c_type t code typed small start n lag slack s state p at)
    where
      by : (outcome : Outcome Place) → find (around_of program) calls tree s ≡ outcome
          → Does tac worth start n (lag + object_units tree) (slack + (laid_by (AsObject path c_type) + 10)) (Evaluating.ComesToPlace tac program calls worth points placement hidden frame scope from to path c_type state.running.registers) outcome
          → Does tac worth start n lag' slack' Stands (continue_with next outcome)
      by _ e (comes place s' state' p' comes_to) =
          let keeps = find_keeps program well calls keep (scope_types scope) tree small t typed s at.sound place s' e in
          rest place s' state' p' comes_to keeps.0 keeps.1
      by _ e (stops answer s' a) = let same : Does tac worth start n (lag + object_units tree) slack' Stands (S.Stopped answer s') = stops answer s' a in eases same more (omega arith)

  -- the object of a local in memory
  in_memory : (objects : S.Objects) (registers : Registers) (home : Home) (number : ℕ) (b : Bool) → b ≡ true → HomeStands program placement frame.number objects registers (record home { is_object = b }) number
      → placement number ≡ Some (OfActivation frame.number home.local)
  in_memory objects registers home number true e stands = stands
  in_memory objects registers home number false e stands = absurd (false≢true e)

  -- it has the type of the local
  own_is : (at number : ℕ) (home : Home) (held : ℕ → Option Scalar) (s : S.State) (state : State) → At program placement hidden frame scope at s state → placement number ≡ Some (OfActivation frame.number home.local)
      → s.objects (LocalObject number) ≡ V.Elements false home.c_type 1 held → own_type frame.objects home.local ≡ Some (record { offset = 0; c_type = home.c_type })
  own_is at number home held s state h placed holds =
      let found = (h.own.in_scope number home.local placed (subst IsAlive (sym holds) tt)).1 in
      let there = h.own.there home.local found.0 found.1 in
      let stands = subst (λ content. ContentStands program s.objects placement content (state.objects (OfActivation frame.number home.local))) holds (h.stands.memory.contents (LocalObject number) (OfActivation frame.number home.local) placed) in
      let typed : Typed found.0.c_type 1 there.0 ≡ Typed home.c_type 1 stands.0 = sym there.1 ∙ stands.1 in
      let same : found.0.c_type ≡ home.c_type = cc in
      found.1 ∙ ap Some (inner_is found.0 home.c_type (own_begins frame.objects home.local found.0 found.1) same)

  pub locals : (index : ℕ) → Finds (T.Local index)
  locals index followed from to path c_type t code typed small start n lag slack s state p h =
      let home = code.0 in
      ticked tac program calls worth points placement hidden frame scope runs well keep (local_place index) from.at s state p h (omega arith) (λ left p' h'.
      let found = found_home program placement frame.number state.running.registers s scope s.locals h.stands.homes h.sound.locals index home code.1 in
      let place = object_place (LocalObject found.number) home.c_type in
      let placed : placement found.number ≡ Some (OfActivation frame.number home.local) = in_memory s.objects state.running.registers home found.number home.is_object code.2 found.stands in
      let leads_to : leads (surroundings program frame) state.running.registers (path_from (AtLocal home.local)) ≡ Some (record { object = OfActivation frame.number home.local; inner = record { offset = 0; c_type = home.c_type } })
      = rw (own_is from.at found.number home found.held s state h.stands placed found.holds) refl in
      subst (λ outcome. Does tac worth start n (lag + 1) (slack + (laid_by (AsObject path c_type) + 10)) (Evaluating.ComesToPlace tac program calls worth points placement hidden frame scope from to path c_type state.running.registers) outcome)
      (sym (local_is (record s { units = left }) index found.number home.c_type found.held found.name_is found.holds))
      (has_found from from to path c_type (AsObject (path_from (AtLocal home.local)) home.c_type) state.running.registers place (record s { units = left }) state p' h'.stands (kept_same from.counts state.running.registers) code.3 code.4
      (OfActivation frame.number home.local, 0, leads_to, (placed, begins (S.size_of (around_of program) home.c_type))) (subst IsAlive (sym found.holds) tt) (omega arith) (let laid = ap laid_by code.4 in omega (arith, laid))))

  pub globals : (name : List ℕ) → Finds (T.Global name)
  globals name followed from to path c_type t code typed small start n lag slack s state p h =
      let global = code.1 in
      let typed_as : t ≡ global.c_type = object_form program points scope (T.Global name) false followed t from to (AsObject path c_type) typed code ∙ object_type path (path_from (AtGlobal code.0)) c_type global.c_type code.4 in
      ticked tac program calls worth points placement hidden frame scope runs well keep (named (GlobalObject name)) from.at s state p h (omega arith) (λ left p' h'.
      let object = h.sound.globals name t typed in
      let leads_to : leads (surroundings program frame) state.running.registers (path_from (AtGlobal code.0)) ≡ Some (record { object = OfGlobal code.0; inner = record { offset = 0; c_type = global.c_type } })
      = rw (global_there program.globals name code.0 global code.2) refl in
      subst (λ outcome. Does tac worth start n (lag + 1) (slack + (laid_by (AsObject path c_type) + 10)) (Evaluating.ComesToPlace tac program calls worth points placement hidden frame scope from to path c_type state.running.registers) outcome)
      (sym (named_is (record s { units = left }) (GlobalObject name) true t object.0 object.1))
      (has_found from from to path c_type (AsObject (path_from (AtGlobal code.0)) global.c_type) state.running.registers (object_place (GlobalObject name) t) (record s { units = left }) state p' h'.stands
      (kept_same from.counts state.running.registers) code.3 code.4
      (OfGlobal code.0, 0, leads_to, (ap global_object code.2, begins (S.size_of (around_of program) t))) (subst IsAlive (sym object.1) tt) (omega arith) (let laid = ap laid_by code.4 in omega (arith, laid))))

  pub literals : (place : Pos) (bytes : List ℕ) → Finds (T.Literal place bytes)
  literals here bytes followed from to path c_type t code typed small start n lag slack s state p h =
      let place = object_place (LiteralObject here) (literal_type bytes) in
      let parts = other_parts (literal_bytes program.literals here) (λ listed. bytes_eq listed bytes) (literal_type bytes) t typed in
      let listed : literal_bytes program.literals here ≡ Some bytes = parts.1 ∙ ap Some ((bytes_eq-Decides parts.0 bytes).0 parts.2) in
      let there = literal_there program.literals here code.0 code.1 bytes code.2 listed in
      let leads_to : leads (surroundings program frame) state.running.registers (path_from (AtLiteral code.0)) ≡ Some (record { object = OfLiteral code.0; inner = record { offset = 0; c_type = literal_type bytes } })
      = rw (there.0, there.1) refl in
      ticked tac program calls worth points placement hidden frame scope runs well keep (give place) from.at s state p h (omega arith) (λ left p' h'.
      has_found from from to path c_type (AsObject (path_from (AtLiteral code.0)) (literal_type bytes)) state.running.registers place (record s { units = left }) state p' h'.stands
      (kept_same from.counts state.running.registers) code.3 code.4
      (OfLiteral code.0, 0, leads_to, (ap literal_object code.2, begins (S.size_of (around_of program) (literal_type bytes)))) (subst IsAlive (sym (h.sound.literals here bytes listed).1) tt) (omega arith) (let laid = ap laid_by code.4 in omega (arith, laid)))

  pub grouped : (here : Pos) (inner : Object) → Finds inner → Finds (T.GroupedObject here inner)
  grouped here inner finds followed from to path c_type t code typed small start n lag slack s state p h =
      ticked tac program calls worth points placement hidden frame scope runs well keep (find (around_of program) calls inner) from.at s state p h (omega arith) (λ left p' h'.
      eases (finds followed from to path c_type t code typed small start n (suc lag) (ticks_per_unit + slack) (record s { units = left }) state p' h') (omega arith) (omega arith))

  -- the member of a place to which a path leads
  pub member_leads : (registers : Registers) (path : Path) (own c_type u t : CType) (place : Place) (number : ℕ) → PathStands program frame placement registers path own place → place.row.c_type ≡ u → u ≡ own
      → W.member_of program.structs number u ≡ Some t → t ≡ c_type → PathStands program frame placement registers (then_step path (Member number)) c_type (member_at (around_of program) place number)
  member_leads registers path own c_type u t place number stands is_own same typed same' =
      let at = member_place (around_of program) place number c_type (subst (λ v. W.member_of program.structs number v ≡ Some c_type) (sym is_own) (typed ∙ ap Some same')) in
      let further : M.member_of program.structs number (record { offset = stands.1; c_type = own }) ≡ Some (record { offset = offset_of (around_of program) (member_at (around_of program) place number); c_type = c_type })
      = subst (λ v. M.member_of program.structs number (record { offset = stands.1; c_type = v }) ≡ Some (record { offset = offset_of (around_of program) (member_at (around_of program) place number); c_type = c_type })) (is_own ∙ same)
      (subst (λ k. M.member_of program.structs number (record { offset = k; c_type = place.row.c_type }) ≡ Some (record { offset = offset_of (around_of program) (member_at (around_of program) place number); c_type = c_type })) (sym stands.3.1) at.reached) in (
        stands.0,
        offset_of (around_of program) (member_at (around_of program) place number),
        leads_then (surroundings program frame) registers path (Member number) stands.0 (record { offset = stands.1; c_type = own }) (record { offset = offset_of (around_of program) (member_at (around_of program) place number); c_type = c_type }) stands.2 further,
        (stands.3.0, refl),
      )

  pub members : (here : Pos) (object : Object) (number : ℕ) → Finds object → Finds (T.MemberOf here object number)
  members here object number finds followed from to path c_type t code typed small start n lag slack s state p h =
      let parts = given_parts (type_of_object (context_of program scope) object) (W.member_of program.structs number) t typed in
      let found = code.0 in
      let own = code.1 in
      let same : parts.0 ≡ own = object_form program points scope object false followed parts.0 from to (AsObject code.0 code.1) parts.1 code.3 in
      let same' : t ≡ code.2 = object_form program points scope (T.MemberOf here object number) false followed t from to (AsObject path c_type) typed code ∙ object_type path (then_step code.0 (Member number)) c_type code.2 code.5 in
      ticked tac program calls worth points placement hidden frame scope runs well keep (λ u. continue_with (λ place. give (member_at (around_of program) place number)) (find (around_of program) calls object u)) from.at s state p h (omega arith) (λ left p' h'.
      then_find object finds (λ place. give (member_at (around_of program) place number)) followed from to code.0 code.1 parts.0 code.3 parts.1 small (record s { units = left }) state p' h' (omega arith)
      (λ place s' state' q came keeps element.
      has_found from to to path c_type (AsObject (then_step code.0 (Member number)) code.2) state.running.registers (member_at (around_of program) place number) s' state' q came.0.there came.0.kept refl code.5
      (member_leads state'.running.registers code.0 code.1 code.2 parts.0 t place number came.1 element.is_own same parts.2 same') came.2 (omega arith)
      (let laid = ap laid_by code.5 in let cost = cost_then code.0 (Member number) in omega (arith, laid, cost))))
