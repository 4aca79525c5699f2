-- The code of library calls (C17 7.21.7, 7.22.3, 7.22.4.4).
use Rattle.std.proofs.Common.{◌≡◌, ℕ, zero, suc, ◌+◌, ◌≤◌, ◌<◌, ◌==◌, ◌||◌, not, Bool, true, false, List, [], ◌∷◌, ◌++◌, Option, Some, None, ℤ, pos, negsuc, refl, sym, ap, ◌∙◌, subst, arith}
use Rattle.std.proofs.lemmas.Bool.{false≢true, not-false, and_parts}
use Rattle.std.proofs.lemmas.Option.{none-some, same_Some}
use Rattle.run_theory.specs.declared.place.Pos.{Pos}
use Rattle.run_theory.specs.declared.ends.UbKind.TheVariants as Ub
use Rattle.run_theory.specs.Runs.{Trace, Move, To, Halt, Freed, Output, Allocated, Over, Ended}
use Rattle.c_num.specs.declared.IntType.TheVariants as I
use Rattle.c_num.specs.Conversion.{bits_of}
use Rattle.c_num.specs.Types.{is_value}
use Rattle.c_typed.specs.declared.typed.LibraryFunction.{LibraryFunction}
use Rattle.c_typed.specs.declared.typed.LibraryFunction.TheVariants as L
use Rattle.c_typed.specs.Types.{CType, CTypes, Void, Integer, NoTypes, MoreTypes, Pointer, same_type, same_types}
use Rattle.c_typed.specs.Typed as T
use Rattle.c_typed.specs.Typed.{Value, Values, Program}
use Rattle.c_typed.specs.Expressions.{given, given_two, library_result, type_of}
use Rattle.c_typed.specs.Programs.{IsWellTyped}
use Rattle.c_typed.specs.Sizes.{makes, is_storable}
use Rattle.ref_semantics.specs.Values as V
use Rattle.ref_semantics.specs.Values.{Name, Heap, GlobalObject, LiteralObject, LocalObject, Scalar, IntegerValue, NullValue, FunctionValue, PointerValue, RawPointer, integer_of}
use Rattle.ref_semantics.specs.Store as S
use Rattle.ref_semantics.specs.Store.{TypeEnvironment, Outcome, Then, Stopped, Eval, ◌>>=◌, give, continue_with, ticks, premise, is_dead, offset_of}
use Rattle.ref_semantics.specs.Pointers.{access}
use Rattle.ref_semantics.specs.Library as Library
use Rattle.ref_semantics.specs.Library.{next_byte, allocated, is_heap, is_unfreeable, freed, library}
use Rattle.ref_semantics.specs.Meaning.{Calls, value, values}
use Rattle.ref_semantics.specs.First.{around_of}
use Rattle.ref_semantics.specs.Sound.{HasType}
use Rattle.ref_semantics.specs.Keeping.{CallsKeep}
use Rattle.c_typed.proofs.Same.{same_type-true}
use Rattle.c_typed.proofs.Splitting.{held_parts, given_parts, two_parts}
use Rattle.tac_ir.specs.declared.register.Local.{Local}
use Rattle.tac_ir.specs.declared.register.Register.TheVariants as R
use Rattle.tac_ir.specs.Code.{Op, Tac, Held}
use Rattle.tac_ir.specs.Code as O
use Rattle.tac_ir.specs.Values as M
use Rattle.tac_ir.specs.Values.{OfHeap, OfGlobal, OfLiteral, OfActivation, Objects}
use Rattle.tac_ir.specs.Events.{Crossed, Wrote, Released, seen}
use Rattle.tac_ir.specs.Trees.{Registers, with_register, integer_in}
use Rattle.tac_ir.specs.Objects.{is_there}
use Rattle.tac_ir.specs.Costs.{more_cost}
use Rattle.tac_ir.specs.Calls.{next_char, after_next, allocate, natural_of, free}
use Rattle.tac_ir.specs.States as States
use Rattle.tac_ir.specs.States.{State, go_on, emit, store_content, unless_lost, write}
use Rattle.tac_ir.specs.Meaning.{execute}
use Rattle.tac_ir.proofs.Seen.{seen_crossed, seen_emitted}
use Rattle.tac_build.specs.Homes.{Scope}
use Rattle.tac_build.specs.Spots.{Spot, with_call, Lowered, AsInteger, AsPointer, AsNothing, Mode, Kept}
use Rattle.tac_build.specs.Code.{HasOp}
use Rattle.tac_build.specs.Forms.{scope_types, context_of}
use Rattle.tac_simulation.specs.Comparing.{ticks_per_unit}
use Rattle.tac_simulation.specs.Standing.{Placement, Frame, KeepsBefore, At, IsAlive, LoweredStands, surroundings}
use Rattle.tac_simulation.proofs.Paths.{Stand, Passage as Passing, Does, Passes, comes, stops, stepped, eased, ends_seen}
use Rattle.tac_simulation.proofs.Spotting.{Runs, kept_write, written_there, before_at, around_is}
use Rattle.tac_simulation.proofs.Evaluating
use Rattle.tac_simulation.proofs.Evaluating.{ValueDoes, laid_by, values_units}
use Rattle.tac_build.proofs.Naming.{call_grows, before_more}
use Rattle.tac_build.proofs.Forms.{value_form}
use Rattle.tac_simulation.proofs.Answered.{past, gave}
use Rattle.tac_simulation.proofs.Equality.{neither_of}
use Rattle.tac_simulation.proofs.Guarding.{Guards, goes, strays, guarded_does, unless_guards}
use Rattle.tac_simulation.proofs.Freeing.{freed_is}
use Rattle.tac_simulation.proofs.Allocating.{allocated_is, apart_placement}
use Rattle.tac_simulation.proofs.Combining.{ticked, then_value}
use Rattle.tac_simulation.proofs.Constants.{left_most}
use Rattle.tac_simulation.proofs.Changing.{at_changed}

-- ---- what the reference's library does

-- one argument
once : (next : List Scalar → Eval Scalar) (outcome : Outcome Scalar)
    → continue_with next (continue_with (λ a. give [] >>= λ given. give (a ∷ given)) outcome) ≡ continue_with (λ a. next (a ∷ [])) outcome
once next (Then a s) = refl
once next (Stopped answer s) = refl

one_type : (first : Option CType) (rule : CTypes → Option CType) (t : CType) → given (given_two first (Some NoTypes) (λ u types. Some (MoreTypes u types))) rule ≡ Some t → (u : CType) × (first ≡ Some u)
one_type first rule t typed =
    let types = given_parts (given_two first (Some NoTypes) (λ u types. Some (MoreTypes u types))) rule t typed in
    let parts = two_parts first (Some NoTypes) (λ u types. Some (MoreTypes u types)) types.0 types.1 in
    (parts.a, parts.left)

-- the size of an allocation is an unsigned long
size_type : (first : Option CType) (t : CType) → given (given_two first (Some NoTypes) (λ u types. Some (MoreTypes u types))) (library_result L.Malloc) ≡ Some t → first ≡ Some (Integer I.ULong)
size_type (Some u) t typed =
    let same = (held_parts (same_types (MoreTypes (Integer I.ULong) NoTypes) (MoreTypes u NoTypes)) (Pointer Void) t typed).0 in
    ap Some (sym (same_type-true (Integer I.ULong) u (and_parts (same_type (Integer I.ULong) u) (same_types NoTypes NoTypes) same).0))
size_type None t typed = absurd (none-some t typed)

allocated_guards : (size : ℕ) (s : S.State) → Guards (allocated size s)
allocated_guards zero s = goes NullValue s
allocated_guards (suc size) s =
    goes (RawPointer s.next_heap) (record s { objects = S.with_content (Heap s.next_heap) (V.Raw (suc size)) s.objects; next_heap = suc s.next_heap; trace = s.trace ++ Allocated s.next_heap (suc size) ∷ [] })

abbrev frees : Name → Eval Scalar
frees name = S.store_content name V.Dead (S.emit (access Freed name) (give NullValue))

freed_guards : (around : TypeEnvironment) (here : Pos) (pointer : Scalar) (s : S.State) → Guards (freed around here pointer s)
freed_guards around here (IntegerValue z) s = strays Ub.U11 here s
freed_guards around here NullValue s = goes NullValue s
freed_guards around here (FunctionValue name) s = strays Ub.U11 here s
freed_guards around here (PointerValue place) s =
    unless_guards here (premise (is_unfreeable around s.objects (PointerValue place)) Ub.U11 ∷ []) (frees place.name) s
    (goes NullValue (record s { objects = S.with_content place.name V.Dead s.objects; trace = s.trace ++ access Freed place.name }))
freed_guards around here (RawPointer number) s =
    unless_guards here (premise (is_unfreeable around s.objects (RawPointer number)) Ub.U11 ∷ []) (frees (Heap number)) s
    (goes NullValue (record s { objects = S.with_content (Heap number) V.Dead s.objects; trace = s.trace ++ access Freed (Heap number) }))

-- what is freed is no local
frees_local : (name : Name) (s after : S.State) (answer : Scalar) (number : ℕ) → is_heap name ≡ true → frees name s ≡ Then answer after → after.objects (LocalObject number) ≡ s.objects (LocalObject number)
frees_local (Heap heap) s after answer number is e =
    ap (λ (last : S.State). last.objects (LocalObject number)) (gave NullValue answer (record s { objects = S.with_content (Heap heap) V.Dead s.objects; trace = s.trace ++ access Freed (Heap heap) }) after e).1
frees_local (GlobalObject name) s after answer number is e = absurd (false≢true is)
frees_local (LiteralObject place) s after answer number is e = absurd (false≢true is)
frees_local (LocalObject other) s after answer number is e = absurd (false≢true is)

freed_local : (around : TypeEnvironment) (here : Pos) (pointer : Scalar) (s after : S.State) (answer : Scalar) (number : ℕ) → freed around here pointer s ≡ Then answer after
    → after.objects (LocalObject number) ≡ s.objects (LocalObject number)
freed_local around here (IntegerValue z) s after answer number e = absurd (cc)
freed_local around here NullValue s after answer number e = ap (λ (last : S.State). last.objects (LocalObject number)) (gave NullValue answer s after e).1
freed_local around here (FunctionValue name) s after answer number e = absurd (cc)
freed_local around here (PointerValue place) s after answer number e =
    let first = past here (not (is_heap place.name) || (is_dead (s.objects place.name) || not (offset_of around place == 0))) Ub.U11 [] (frees place.name) s answer after e in
    let outer = neither_of (not (is_heap place.name)) (is_dead (s.objects place.name) || not (offset_of around place == 0)) first.0 in
    frees_local place.name s after answer number (not-false (is_heap place.name) outer.0) first.1
freed_local around here (RawPointer heap) s after answer number e =
    frees_local (Heap heap) s after answer number refl (past here (is_dead (s.objects (Heap heap))) Ub.U11 [] (frees (Heap heap)) s answer after e).1

next_is : (s : S.State) → next_byte s ≡ Then (IntegerValue (next_char s.input)) (record s { input = after_next s.input })
next_is s = by s.units s.input s.trace s.objects s.locals s.next_local s.next_heap
  where
    by : (units : ℕ) (input : List ℕ) (trace : Trace) (objects : S.Objects) (locals : List ℕ) (next_local next_heap : ℕ)
        → next_byte (record { units = units; input = input; trace = trace; objects = objects; locals = locals; next_local = next_local; next_heap = next_heap })
        ≡ Then (IntegerValue (next_char input)) (record { units = units; input = after_next input; trace = trace; objects = objects; locals = locals; next_local = next_local; next_heap = next_heap })
    by units [] trace objects locals next_local next_heap = refl
    by units (byte ∷ input) trace objects locals next_local next_heap = refl

-- ---- what the code's library does

same_natural : (z : ℤ) → natural_of z ≡ Library.natural_of z
same_natural (pos n) = refl
same_natural (negsuc n) = refl

abbrev objects_after : Move State → Objects
objects_after (To state) = state.objects
objects_after (Halt final state) = state.objects

-- an activation's objects are no allocations
allocate_own : (site size : ℕ) (state : State) (activation : ℕ) (local : Local) → objects_after (allocate site size state) (OfActivation activation local) ≡ state.objects (OfActivation activation local)
allocate_own site zero state activation local = refl
allocate_own site (suc size) state activation local = refl

free_own : (site : ℕ) (held : M.Value) (state : State) (activation : ℕ) (local : Local) → objects_after (free site held state) (OfActivation activation local) ≡ state.objects (OfActivation activation local)
free_own site (M.Number z) state activation local = refl
free_own site M.NoAddress state activation local = refl
free_own site (M.Code function) state activation local = refl
free_own site (M.Address (OfHeap number) zero) state activation local = by (is_there (state.objects (OfHeap number)))
  where
    by : (b : Bool) → objects_after (unless_lost b state (go_on (emit (Released site number ∷ []) (store_content (OfHeap number) M.Absent state)))) (OfActivation activation local) ≡ state.objects (OfActivation activation local)
    by true = refl
    by false = refl
free_own site (M.Address (OfHeap number) (suc offset)) state activation local = refl
free_own site (M.Address (OfGlobal number) offset) state activation local = refl
free_own site (M.Address (OfLiteral number) offset) state activation local = refl
free_own site (M.Address (OfActivation number other) offset) state activation local = refl

module _ (tac : Tac) (program : Program) (calls : Calls) (worth : ℕ) (points : List Op) (placement : Placement) (hidden : ℕ → Option V.Content) (frame : Frame) (scope : Scope)
    (runs : Runs tac program points frame) (well : IsWellTyped program) (keep : CallsKeep program calls) where
  abbrev Follows : Value → Type 0
  Follows tree = ValueDoes tac program calls worth points placement hidden frame scope tree

  abbrev pub EachFollows : Values → Type 0
  EachFollows T.NoValues = Unit {0}
  EachFollows (T.MoreValues first others) = Follows first × EachFollows others

  abbrev Spotted : ℕ → S.State → State → Type 0
  Spotted at s state = Evaluating.AtSpot tac program calls worth points placement hidden frame scope at s state

  -- a unit for each pair of parentheses
  many_ticked : {A : Type 0} {Stands : Stand A} {start : State} {n lag lag' slack slack' : ℕ} (groups : ℕ) (rest : Eval A) (at : ℕ) (s : S.State) (state : State)
      → Passing tac worth start state n s.units lag slack → Spotted at s state → lag + groups ≤ lag'
      → ((left : ℕ) → Passing tac worth start state n left (lag + groups) slack → Spotted at (record s { units = left }) state → Does tac worth start n lag' slack' Stands (rest (record s { units = left })))
      → Does tac worth start n lag' slack' Stands (ticks groups rest s)
  many_ticked zero rest at s state p h more next = next s.units (eased p (omega arith) (omega arith)) h
  many_ticked {lag = lag} {slack = slack} (suc groups) rest at s state p h more next =
      ticked tac program calls worth points placement hidden frame scope runs well keep (ticks groups rest) at s state p h (omega arith) (λ left p' h'.
      many_ticked {lag = suc lag} {slack = slack} groups rest at (record s { units = left }) state (eased p' (omega arith) (omega arith)) h' (omega arith) (λ left' p'' h''. next left' (eased p'' (omega arith) (omega arith)) h''))

  -- the units of the call for itself, of its parentheses and of the name that is called
  begins : {Stands : Stand Scalar} {start : State} {n lag lag' slack slack' : ℕ} (function : LibraryFunction) (groups : ℕ) (place : Pos) (arguments : Values) (at : ℕ) (s : S.State) (state : State)
      → Passing tac worth start state n s.units lag slack → Spotted at s state → lag + (2 + groups) ≤ lag'
      → ((left : ℕ) → Passing tac worth start state n left (lag + (2 + groups)) (ticks_per_unit + slack) → Spotted at (record s { units = left }) state
      → Does tac worth start n lag' slack' Stands ((values (around_of program) calls arguments >>= λ given. library (around_of program) function place given) (record s { units = left })))
      → Does tac worth start n lag' slack' Stands (value (around_of program) calls (T.LibraryCall function groups place arguments) s)
  begins {lag = lag} {slack = slack} function groups place arguments at s state p h more next =
      let inner : Eval Scalar = values (around_of program) calls arguments >>= λ given. library (around_of program) function place given in
      ticked tac program calls worth points placement hidden frame scope runs well keep (ticks groups (S.tick inner)) at s state p h (omega arith) (λ left p1 h1.
      many_ticked {lag = suc lag} {slack = ticks_per_unit + slack} groups (S.tick inner) at (record s { units = left }) state p1 h1 (omega arith) (λ left2 p2 h2.
      ticked tac program calls worth points placement hidden frame scope runs well keep inner at (record s { units = left2 }) state p2 h2 (omega arith) (λ left3 p3 h3.
      next left3 (eased p3 (omega arith) (omega arith)) h3)))

  -- a point is the last of a form
  pub finishes : {start : State} {n lag lag' slack slack' : ℕ} (op : Op) (mode : Mode) (from mid to : Spot) (lowered found : Lowered) (before : Registers) (answer : Scalar) (s after : S.State) (state last : State)
      → Passing tac worth start state n s.units lag slack → At program placement hidden frame scope mid.at s state → HasOp points mid.at op → execute tac (surroundings program frame) op state ≡ To last
      → after.units ≡ s.units → At program placement hidden frame scope (suc mid.at) after last → KeepsBefore from.counts before last.running.registers → to.at ≡ suc mid.at → lowered ≡ found
      → LoweredStands program mode frame placement after.objects last.running.registers found answer → lag ≤ lag' → slack' + more_cost op < slack
      → Does tac worth start n lag' slack' (Evaluating.ComesToValue tac program calls worth points placement hidden frame scope mode from to lowered before) (Then answer after)
  finishes {start} {n} {lag' = lag'} {slack' = slack'} op mode from mid to lowered found before answer s after state last p h has does units there kept next is stands more less =
      let passes : Passes tac op state last = record {
        before = before_at tac program points placement hidden frame scope runs mid.at op s state has h;
        does = ap (λ around. execute tac around op state) (around_is tac program points placement hidden frame scope runs mid.at s state h) ∙ does;
      } in
      comes answer after last (subst (λ left. Passing tac worth start last n left lag' slack') (sym units) (stepped p passes more less)) (
        record { there = subst (λ where_it_is. At program placement hidden frame scope where_it_is after last) (sym next) there; kept = kept },
        Evaluating.stood mode _ (subst (λ l. LoweredStands program mode frame placement after.objects last.running.registers l answer) (sym is) stands),
      )

  pub allocates : (size : Value) (groups : ℕ) (place : Pos) → Follows size → Follows (T.LibraryCall L.Malloc groups place (T.MoreValues size T.NoValues))
  allocates size groups place follows mode from to lowered t code typed small start n lag slack s state p at =
      let first = one_type (type_of (context_of program scope) size) (library_result L.Malloc) t typed in
      let form : first.0 ≡ Integer I.ULong = same_Some first.0 (Integer I.ULong) (sym first.1 ∙ size_type (type_of (context_of program scope) size) t typed) in
      let least = left_most size in
      begins L.Malloc groups place (T.MoreValues size T.NoValues) from.at s state p at (omega arith) (λ left p1 at1.
      subst (λ outcome. Does tac worth start n (lag + (2 + groups + values_units (T.MoreValues size T.NoValues))) (slack + (laid_by lowered + 6))
      (Evaluating.ComesToValue tac program calls worth points placement hidden frame scope mode from to lowered state.running.registers) outcome)
      (sym (once (library (around_of program) L.Malloc place) (value (around_of program) calls size (record s { units = left })))) (
      then_value tac program calls worth points placement hidden frame scope runs well keep size follows (λ a. library (around_of program) L.Malloc place (a ∷ [])) Kept (with_call from) code.0 (AsInteger code.1 code.2) first.0
      code.3 first.1 (and_parts (makes (is_storable program.structs) size) true small).0 (record s { units = left }) state p1 (record { stands = at1.stands; sound = at1.sound }) (omega arith) (λ a s1 state1 p2 come keeps holds.
      guarded_does (allocated (Library.natural_of (integer_of a)) s1) (allocated_guards (Library.natural_of (integer_of a)) s1) (λ answer after e.
      let stands = come.0.there.stands in
      let both = allocated_is program placement (scope_types scope) s1 keeps.sound state1 stands.memory (apart_placement program placement hidden s1 state1 stands) stands.heap from.counts.calls (Library.natural_of (integer_of a)) answer after e in
      let registers = with_register (R.Call from.counts.calls) (Some both.held) state1.running.registers in
      let last = record state1 {
        running = record state1.running { registers = registers; at = suc state1.running.at };
        objects = both.objects;
        next_heap = both.next_heap;
        trace = (state1.trace ++ both.events) ++ Crossed state1.running.at (suc state1.running.at) ∷ [];
        paid = 0;
      } in
      let fits : is_value I.ULong come.1.0 ≡ true = subst (HasType program s1 (Integer I.ULong)) come.1.1 (subst (λ u. HasType program s1 u a) form holds) in
      let size_is : natural_of come.1.0 ≡ Library.natural_of (integer_of a) = same_natural come.1.0 ∙ ap (λ v. Library.natural_of (integer_of v)) (sym come.1.1) in
      let there : At program placement hidden frame scope (suc code.0.at) after last =
      subst (λ (end : S.State). At program placement hidden frame scope (suc code.0.at) end last) (sym both.after_is)
      (at_changed program placement hidden frame scope s1 state1 keeps.sound after.objects both.objects both.memory
      (λ name was alive. subst IsAlive (both.others name was) alive)
      (λ number was. both.others (LocalObject number) was)
      (λ local. sym (ap (λ move. objects_after move (OfActivation frame.number local)) both.done) ∙ allocate_own from.counts.calls (Library.natural_of (integer_of a)) state1 frame.number local)
      registers (λ local. refl)
      code.0.at both.next_heap both.next_heap s1.input state1.input (s1.trace ++ seen both.events) last.trace refl stands.input
      (seen_emitted state1.trace both.events state1.running.at (suc state1.running.at) ∙ ap (λ trace. trace ++ seen both.events) stands.trace) come.0.there) in
      finishes (O.Allocate from.counts.calls code.2) mode from code.0 to lowered (AsPointer (R.Call from.counts.calls) Void) state.running.registers answer s1 after state1 last p2 come.0.there code.4.0
      (ap (λ found. States.given found state1 (λ z. unless_lost (is_value I.ULong z) state1 (allocate from.counts.calls (natural_of z) state1))) come.1.2
      ∙ (ap (λ b. unless_lost b state1 (allocate from.counts.calls (natural_of come.1.0) state1)) fits ∙ (ap (λ k. allocate from.counts.calls k state1) size_is ∙ both.done)))
      (ap (λ (end : S.State). end.units) both.after_is) there
      (λ register before. kept_write from.counts (R.Call from.counts.calls) (Some both.held) state1.running.registers (omega arith) register before ∙ come.0.kept register (before_more (call_grows from) register before))
      (ap (λ (spot : Spot). spot.at) code.4.1) code.5
      (both.held, written_there (R.Call from.counts.calls) (Some both.held) state1.running.registers, both.value)
      (omega arith) (let laid = ap laid_by code.5 in omega (arith, laid, least))))))

  pub frees_one : (pointer : Value) (groups : ℕ) (place : Pos) → Follows pointer → Follows (T.LibraryCall L.Free groups place (T.MoreValues pointer T.NoValues))
  frees_one pointer groups place follows mode from to lowered t code typed small start n lag slack s state p at =
      let first = one_type (type_of (context_of program scope) pointer) (library_result L.Free) t typed in
      let form : first.0 ≡ Pointer code.1 = value_form program points scope pointer Kept first.0 (with_call from) code.0 (AsPointer code.2 code.1) first.1 code.3 in
      let least = left_most pointer in
      begins L.Free groups place (T.MoreValues pointer T.NoValues) from.at s state p at (omega arith) (λ left p1 at1.
      subst (λ outcome. Does tac worth start n (lag + (2 + groups + values_units (T.MoreValues pointer T.NoValues))) (slack + (laid_by lowered + 6))
      (Evaluating.ComesToValue tac program calls worth points placement hidden frame scope mode from to lowered state.running.registers) outcome)
      (sym (once (library (around_of program) L.Free place) (value (around_of program) calls pointer (record s { units = left })))) (
      then_value tac program calls worth points placement hidden frame scope runs well keep pointer follows (λ a. library (around_of program) L.Free place (a ∷ [])) Kept (with_call from) code.0 (AsPointer code.2 code.1) first.0
      code.3 first.1 (and_parts (makes (is_storable program.structs) pointer) true small).0 (record s { units = left }) state p1 (record { stands = at1.stands; sound = at1.sound }) (omega arith) (λ a s1 state1 p2 come keeps holds.
      guarded_does (freed (around_of program) place a s1) (freed_guards (around_of program) place a s1) (λ answer after e.
      let stands = come.0.there.stands in
      let both = freed_is program placement s1 state1 stands.memory from.counts.calls place code.1 a come.1.0 answer after (subst (λ u. HasType program s1 u a) form holds) come.1.2 e in
      let last = record state1 {
        running = record state1.running { at = suc state1.running.at };
        objects = both.objects;
        trace = (state1.trace ++ both.events) ++ Crossed state1.running.at (suc state1.running.at) ∷ [];
        paid = 0;
      } in
      let there : At program placement hidden frame scope (suc code.0.at) after last =
      subst (λ (end : S.State). At program placement hidden frame scope (suc code.0.at) end last) (sym both.after_is)
      (at_changed program placement hidden frame scope s1 state1 keeps.sound after.objects both.objects both.memory
      (λ name was alive. both.lives name alive)
      (λ number was. freed_local (around_of program) place a s1 after answer number e)
      (λ local. sym (ap (λ move. objects_after move (OfActivation frame.number local)) both.done) ∙ free_own from.counts.calls come.1.0 state1 frame.number local)
      state1.running.registers (λ local. refl)
      code.0.at s1.next_heap state1.next_heap s1.input state1.input (s1.trace ++ seen both.events) last.trace stands.heap stands.input
      (seen_emitted state1.trace both.events state1.running.at (suc state1.running.at) ∙ ap (λ trace. trace ++ seen both.events) stands.trace) come.0.there) in
      finishes (O.Free from.counts.calls code.2) mode from code.0 to lowered AsNothing state.running.registers answer s1 after state1 last p2 come.0.there code.4.0
      (ap (λ found. States.given found state1 (λ held. free from.counts.calls held state1)) come.1.1 ∙ both.done)
      (ap (λ (end : S.State). end.units) both.after_is) there
      (λ register before. come.0.kept register (before_more (call_grows from) register before))
      (ap (λ (spot : Spot). spot.at) code.4.1) code.5 tt
      (omega arith) (let laid = ap laid_by code.5 in omega (arith, laid, least))))))

  pub reads_input : (groups : ℕ) (place : Pos) → Follows (T.LibraryCall L.GetChar groups place T.NoValues)
  reads_input groups place mode from to lowered t code typed small start n lag slack s state p at =
      begins L.GetChar groups place T.NoValues from.at s state p at (omega arith) (λ left p1 at1.
      let s1 : S.State = record s { units = left } in
      subst (λ outcome. Does tac worth start n (lag + (2 + groups + 0)) (slack + (laid_by lowered + 6))
      (Evaluating.ComesToValue tac program calls worth points placement hidden frame scope mode from to lowered state.running.registers) outcome)
      (sym (next_is s1)) (
      let stands = at1.stands.stands in
      let held = M.Number (next_char state.input) in
      let registers = with_register (R.Call from.counts.calls) (Some held) state.running.registers in
      let last = record state {
        running = record state.running { registers = registers; at = suc state.running.at };
        input = after_next state.input;
        trace = state.trace ++ Crossed state.running.at (suc state.running.at) ∷ [];
        paid = 0;
      } in
      let there : At program placement hidden frame scope (suc from.at) (record s1 { input = after_next s1.input }) last =
      at_changed program placement hidden frame scope s1 state at1.sound s1.objects state.objects stands.memory (λ name was alive. alive) (λ number was. refl) (λ local. refl) registers (λ local. refl)
      from.at s1.next_heap state.next_heap (after_next s1.input) (after_next state.input) s1.trace last.trace stands.heap (ap after_next stands.input)
      (seen_crossed state.trace state.running.at (suc state.running.at) ∙ stands.trace) at1.stands in
      finishes (O.GetChar from.counts.calls) mode from (with_call from) to lowered (AsInteger I.Int (Held (R.Call from.counts.calls))) state.running.registers (IntegerValue (next_char s1.input)) s1 (record s1 { input = after_next s1.input })
      state last p1 at1.stands code.0.0 refl refl there
      (λ register before. kept_write from.counts (R.Call from.counts.calls) (Some held) state.running.registers (omega arith) register before)
      (ap (λ (spot : Spot). spot.at) code.0.1) code.1
      (next_char s1.input, refl, ap integer_in (written_there (R.Call from.counts.calls) (Some held) state.running.registers) ∙ ap (λ input. Some (next_char input)) stands.input)
      (omega arith) (let laid = ap laid_by code.1 in omega (arith, laid))))

  pub writes_byte : (byte : Value) (groups : ℕ) (place : Pos) → Follows byte → Follows (T.LibraryCall L.PutChar groups place (T.MoreValues byte T.NoValues))
  writes_byte byte groups place follows mode from to lowered t code typed small start n lag slack s state p at =
      let first = one_type (type_of (context_of program scope) byte) (library_result L.PutChar) t typed in
      let least = left_most byte in
      begins L.PutChar groups place (T.MoreValues byte T.NoValues) from.at s state p at (omega arith) (λ left p1 at1.
      subst (λ outcome. Does tac worth start n (lag + (2 + groups + values_units (T.MoreValues byte T.NoValues))) (slack + (laid_by lowered + 6))
      (Evaluating.ComesToValue tac program calls worth points placement hidden frame scope mode from to lowered state.running.registers) outcome)
      (sym (once (library (around_of program) L.PutChar place) (value (around_of program) calls byte (record s { units = left })))) (
      then_value tac program calls worth points placement hidden frame scope runs well keep byte follows (λ a. library (around_of program) L.PutChar place (a ∷ [])) Kept (with_call from) code.0 (AsInteger code.1 code.2) first.0
      code.3 first.1 (and_parts (makes (is_storable program.structs) byte) true small).0 (record s { units = left }) state p1 (record { stands = at1.stands; sound = at1.sound }) (omega arith) (λ a s1 state1 p2 come keeps holds.
      subst (λ b. Does tac worth start n (lag + (2 + groups + values_units (T.MoreValues byte T.NoValues))) (slack + (laid_by lowered + 6))
      (Evaluating.ComesToValue tac program calls worth points placement hidden frame scope mode from to lowered state.running.registers) (library (around_of program) L.PutChar place (b ∷ []) s1))
      (sym come.1.1) (
      let stands = come.0.there.stands in
      let out : ℕ = bits_of I.UChar come.1.0 in
      let held = M.Number (pos out) in
      let registers = with_register (R.Call from.counts.calls) (Some held) state1.running.registers in
      let after : S.State = record s1 { trace = s1.trace ++ Output out ∷ [] } in
      let last = record state1 {
        running = record state1.running { registers = registers; at = suc state1.running.at };
        trace = (state1.trace ++ Wrote out ∷ []) ++ Crossed state1.running.at (suc state1.running.at) ∷ [];
        paid = 0;
      } in
      let there : At program placement hidden frame scope (suc code.0.at) after last =
      at_changed program placement hidden frame scope s1 state1 keeps.sound s1.objects state1.objects stands.memory (λ name was alive. alive) (λ number was. refl) (λ local. refl) registers (λ local. refl)
      code.0.at s1.next_heap state1.next_heap s1.input state1.input after.trace last.trace stands.heap stands.input
      (seen_emitted state1.trace (Wrote out ∷ []) state1.running.at (suc state1.running.at) ∙ ap (λ trace. trace ++ Output out ∷ []) stands.trace) come.0.there in
      finishes (O.PutChar from.counts.calls code.2) mode from code.0 to lowered (AsInteger I.Int (Held (R.Call from.counts.calls))) state.running.registers (IntegerValue (pos out)) s1 after state1 last p2 come.0.there code.4.0
      (ap (λ found. States.given found state1 (λ z. write (R.Call from.counts.calls) (M.Number (pos (bits_of I.UChar z))) (emit (Wrote (bits_of I.UChar z) ∷ []) state1))) come.1.2)
      refl there
      (λ register before. kept_write from.counts (R.Call from.counts.calls) (Some held) state1.running.registers (omega arith) register before ∙ come.0.kept register (before_more (call_grows from) register before))
      (ap (λ (spot : Spot). spot.at) code.4.1) code.5
      (pos out, refl, ap integer_in (written_there (R.Call from.counts.calls) (Some held) state1.running.registers))
      (omega arith) (let laid = ap laid_by code.5 in omega (arith, laid, least))))))

  pub exits : (status : Value) (groups : ℕ) (place : Pos) → Follows status → Follows (T.LibraryCall L.Exit groups place (T.MoreValues status T.NoValues))
  exits status groups place follows mode from to lowered t code typed small start n lag slack s state p at =
      let first = one_type (type_of (context_of program scope) status) (library_result L.Exit) t typed in
      let least = left_most status in
      begins L.Exit groups place (T.MoreValues status T.NoValues) from.at s state p at (omega arith) (λ left p1 at1.
      subst (λ outcome. Does tac worth start n (lag + (2 + groups + values_units (T.MoreValues status T.NoValues))) (slack + (laid_by lowered + 6))
      (Evaluating.ComesToValue tac program calls worth points placement hidden frame scope mode from to lowered state.running.registers) outcome)
      (sym (once (library (around_of program) L.Exit place) (value (around_of program) calls status (record s { units = left })))) (
      then_value tac program calls worth points placement hidden frame scope runs well keep status follows (λ a. library (around_of program) L.Exit place (a ∷ [])) Kept (with_call from) code.0 (AsInteger code.1 code.2) first.0
      code.3 first.1 (and_parts (makes (is_storable program.structs) status) true small).0 (record s { units = left }) state p1 (record { stands = at1.stands; sound = at1.sound }) (omega arith) (λ a s1 state1 p2 come keeps holds.
      subst (λ b. Does tac worth start n (lag + (2 + groups + values_units (T.MoreValues status T.NoValues))) (slack + (laid_by lowered + 6))
      (Evaluating.ComesToValue tac program calls worth points placement hidden frame scope mode from to lowered state.running.registers) (library (around_of program) L.Exit place (b ∷ []) s1))
      (sym come.1.1) (
      let final = Ended (bits_of I.UChar come.1.0) in
      let p3 : Passing tac worth start state1 n s1.units (lag + (2 + groups + values_units (T.MoreValues status T.NoValues))) (more_cost (O.Exit code.2) + 1) = eased p2 (omega arith) (omega (arith, least)) in
      stops (Over final s1.trace) s1
      (ends_seen p3 (record {
        before = before_at tac program points placement hidden frame scope runs code.0.at (O.Exit code.2) s1 state1 code.4.0 come.0.there;
        does = ap (λ found. States.given found state1 (λ z. Halt (Ended (bits_of I.UChar z)) state1)) come.1.2;
      }) (omega arith) come.0.there.stands.trace tt)))))

  -- a call of the library whose arguments follow
  pub library_calls : (function : LibraryFunction) (groups : ℕ) (place : Pos) (arguments : Values) → EachFollows arguments → Follows (T.LibraryCall function groups place arguments)
  library_calls L.Malloc groups place (T.MoreValues size T.NoValues) each = allocates size groups place each.0
  library_calls L.Free groups place (T.MoreValues pointer T.NoValues) each = frees_one pointer groups place each.0
  library_calls L.GetChar groups place T.NoValues each = reads_input groups place
  library_calls L.PutChar groups place (T.MoreValues byte T.NoValues) each = writes_byte byte groups place each.0
  library_calls L.Exit groups place (T.MoreValues status T.NoValues) each = exits status groups place each.0
  library_calls function groups place arguments each = λ mode from to lowered t code. absurd code
