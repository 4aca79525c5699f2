-- Pointers that are compared for equality on both sides.
use Rattle.std.proofs.Common.{◌≡◌, ◌==◌, ◌&&◌, ◌||◌, not, if◌then◌else◌, Bool, true, false, [], ◌∷◌, Some, None, List, refl, sym, ap, ◌∙◌, subst, eqb-true}
use Rattle.std.proofs.lemmas.Bool.{false≢true, true≢false}
use Rattle.run_theory.specs.declared.place.Pos.{Pos}
use Rattle.run_theory.specs.declared.ends.UbKind.TheVariants as Ub
use Rattle.c_num.specs.declared.Relation.{Relation}
use Rattle.c_num.specs.declared.Relation.TheVariants as R
use Rattle.c_typed.specs.Types.{CType}
use Rattle.c_typed.specs.Typed.{Program}
use Rattle.c_typed.specs.Programs.{IsWellTyped}
use Rattle.ref_semantics.specs.Values.{Scalar, IntegerValue, NullValue, FunctionValue, PointerValue, RawPointer, place_of}
use Rattle.ref_semantics.specs.Store as S
use Rattle.ref_semantics.specs.Store.{Then, give, premise, unless, offset_of, is_dead_pointer}
use Rattle.ref_semantics.specs.Pointers as P
use Rattle.ref_semantics.specs.Pointers.{is_into_object, is_past, is_end_beside, is_equality, compared_pointers}
use Rattle.ref_semantics.specs.First.{around_of}
use Rattle.ref_semantics.specs.Sound.{PointsTo, Sound}
use Rattle.tac_ir.specs.Trees.{truth}
use Rattle.tac_ir.specs.Values.{Value, Objects, same_object}
use Rattle.tac_ir.specs.Objects.{Surroundings, extent_of}
use Rattle.tac_ir.specs.Pointers as C
use Rattle.tac_ir.specs.Pointers.{is_alive, compared}
use Rattle.tac_simulation.specs.Standing.{Placement, ScalarStands, MemoryStands}
use Rattle.tac_simulation.proofs.Looking.{looked_at_alive}
use Rattle.tac_simulation.proofs.Numbers.{same_numbers}
use Rattle.c_typed.specs.Sizes.{are_filled}
use Rattle.tac_simulation.proofs.Answered.{past, gave, typed_pointer}
use Rattle.tac_simulation.proofs.Tested.{truth_integer}
use Rattle.tac_simulation.proofs.Into.{Into, into, alike}

pub neither_of : (p q : Bool) → (p || q) ≡ false → (p ≡ false) × (q ≡ false)
neither_of true q h = absurd (true≢false h)
neither_of false q h = (refl, h)

-- what two tests that hold leave
pub both_hold : (p q r : Bool) → p ≡ true → q ≡ true → (p && (q && r)) ≡ false → r ≡ false
both_hold true true r e e' h = h
both_hold true false r e e' h = absurd (false≢true e')
both_hold false q r e e' h = absurd (false≢true e)

chosen : {A : Type 0} (p q : Bool) (a b : A) → p ≡ true → q ≡ true → (if p && q then a else b) ≡ a
chosen true true a b e e' = refl
chosen true false a b e e' = absurd (false≢true e')
chosen false q a b e e' = absurd (false≢true e)

not_past : (e p : Bool) → (e ≡ true → p ≡ true) → p ≡ false → e ≡ false
not_past true p implies is = absurd (true≢false (sym (implies refl) ∙ is))
not_past false p implies is = refl

-- places in objects that are one on both sides or on none, where neither is an end beside the other
equal_by : (one same : Bool) (alike : Bool) (e e' p p' : Bool) → one ≡ same → (e ≡ true → p ≡ true) → (e' ≡ true → p' ≡ true) → (not same && (p || p')) ≡ false
    → (if one then Some alike else if e || e' then None else Some false) ≡ Some (same && alike)
equal_by true true alike e e' p p' is end end' beside = refl
equal_by false true alike e e' p p' is end end' beside = absurd (false≢true is)
equal_by true false alike e e' p p' is end end' beside = absurd (true≢false is)
equal_by false false alike e e' p p' is end end' beside =
    let neither = neither_of p p' beside in
    by e e' (not_past e p end neither.0) (not_past e' p' end' neither.1)
  where
    by : (e e' : Bool) → e ≡ false → e' ≡ false → (if e || e' then None else Some false) ≡ Some false
    by false false is is' = refl
    by false true is is' = absurd (true≢false is')
    by true e' is is' = absurd (true≢false is)

-- what is compared on both sides
pub record ComparedBoth (around : Surroundings) (s after : S.State) (objects' : Objects) (relation : Relation) (answer : Scalar) (held held' : Value) : Type 0 where
  pub same : after ≡ s
  pub alive : is_alive objects' held ≡ true
  pub alive' : is_alive objects' held' ≡ true
  pub test : Bool
  pub test_is : compared around objects' relation held held' ≡ Some test
  pub answer_is : answer ≡ IntegerValue (truth test)

module _ (program : Program) (well : IsWellTyped program) (filled : are_filled program.structs ≡ true) (placement : Placement) (locals : List CType) (s : S.State)
    (sound : Sound (record { program = program; locals = locals }) s) (objects' : Objects) (memory : MemoryStands program placement s.objects objects')
    (around : Surroundings) (same : around.structs ≡ program.structs) where
  two : {x x' y y' : Value} → x ≡ x' → y ≡ y' → C.are_equal around objects' x y ≡ C.are_equal around objects' x' y'
  two e e' = λ i. C.are_equal around objects' (e i) (e' i)

  both_into : (a b : Scalar) (x y : Value) → is_into_object a ≡ true → is_into_object b ≡ true → is_end_beside a b ≡ false
      → Into program well filled placement locals s sound objects' memory a x → Into program well filled placement locals s sound objects' memory b y
      → C.are_equal around objects' x y ≡ Some (P.are_equal (around_of program) a b)
  both_into a b x y is is' beside at at' =
      let i = offset_of (around_of program) (place_of a) in
      let j = offset_of (around_of program) (place_of b) in
      two at.value_is at'.value_is
      ∙ equal_by (same_object at.object at'.object) (P.same_object a b) (i == j) (C.is_end around objects' at.object i) (C.is_end around objects' at'.object j) (is_past a) (is_past b)
      (alike program well filled placement locals s sound objects' memory (place_of a).name (place_of b).name at.object at'.object at.is_image at'.is_image at.alive at'.alive)
      (λ e. at.end (subst (λ structs. extent_of structs (objects' at.object) ≡ i) same (eqb-true (extent_of around.structs (objects' at.object)) i e)))
      (λ e. at'.end (subst (λ structs. extent_of structs (objects' at'.object) ≡ j) same (eqb-true (extent_of around.structs (objects' at'.object)) j e)))
      (both_hold (is_into_object a) (is_into_object b) (not (P.same_object a b) && (is_past a || is_past b)) is is' beside)
      ∙ ap (λ (b : Bool). Some b) (sym (chosen (is_into_object a) (is_into_object b) (P.same_object a b && (i == j)) (P.same_function a b) is is'))

  equal_is : (target target' : CType) (a b : Scalar) (x y : Value) → PointsTo program s target a → PointsTo program s target' b → is_dead_pointer s.objects a ≡ false → is_dead_pointer s.objects b ≡ false
      → is_end_beside a b ≡ false → ScalarStands program s.objects placement a x → ScalarStands program s.objects placement b y → C.are_equal around objects' x y ≡ Some (P.are_equal (around_of program) a b)
  equal_is target target' a b x y typed typed' lives lives' beside stands stands' = by a b typed typed' lives lives' beside stands stands'
    where
      at : (target : CType) (a : Scalar) (x : Value) → is_into_object a ≡ true → PointsTo program s target a → is_dead_pointer s.objects a ≡ false → ScalarStands program s.objects placement a x
          → Into program well filled placement locals s sound objects' memory a x
      at target a x is typed lives stands = into program well filled placement locals s sound objects' memory target a x is typed lives stands

      by : (a b : Scalar) → PointsTo program s target a → PointsTo program s target' b → is_dead_pointer s.objects a ≡ false → is_dead_pointer s.objects b ≡ false → is_end_beside a b ≡ false
          → ScalarStands program s.objects placement a x → ScalarStands program s.objects placement b y → C.are_equal around objects' x y ≡ Some (P.are_equal (around_of program) a b)
      by (IntegerValue z) b typed typed' lives lives' beside stands stands' = absurd typed
      by NullValue (IntegerValue z) typed typed' lives lives' beside stands stands' = absurd typed'
      by (FunctionValue f) (IntegerValue z) typed typed' lives lives' beside stands stands' = absurd typed'
      by (PointerValue p) (IntegerValue z) typed typed' lives lives' beside stands stands' = absurd typed'
      by (RawPointer n) (IntegerValue z) typed typed' lives lives' beside stands stands' = absurd typed'
      by NullValue NullValue typed typed' lives lives' beside stands stands' = two stands stands'
      by NullValue (FunctionValue g) typed typed' lives lives' beside stands stands' = two stands stands'.2
      by NullValue (PointerValue q) typed typed' lives lives' beside stands stands' = two stands (at target' (PointerValue q) y refl typed' lives' stands').value_is
      by NullValue (RawPointer m) typed typed' lives lives' beside stands stands' = two stands (at target' (RawPointer m) y refl typed' lives' stands').value_is
      by (FunctionValue f) NullValue typed typed' lives lives' beside stands stands' = two stands.2 stands'
      by (FunctionValue f) (FunctionValue g) typed typed' lives lives' beside stands stands' =
          two stands.2 stands'.2 ∙ ap (λ (b : Bool). Some b) (same_numbers program.functions f g stands.0 stands'.0 stands.1 stands'.1)
      by (FunctionValue f) (PointerValue q) typed typed' lives lives' beside stands stands' = two stands.2 (at target' (PointerValue q) y refl typed' lives' stands').value_is
      by (FunctionValue f) (RawPointer m) typed typed' lives lives' beside stands stands' = two stands.2 (at target' (RawPointer m) y refl typed' lives' stands').value_is
      by (PointerValue p) NullValue typed typed' lives lives' beside stands stands' = two (at target (PointerValue p) x refl typed lives stands).value_is stands'
      by (PointerValue p) (FunctionValue g) typed typed' lives lives' beside stands stands' = two (at target (PointerValue p) x refl typed lives stands).value_is stands'.2
      by (RawPointer n) NullValue typed typed' lives lives' beside stands stands' = two (at target (RawPointer n) x refl typed lives stands).value_is stands'
      by (RawPointer n) (FunctionValue g) typed typed' lives lives' beside stands stands' = two (at target (RawPointer n) x refl typed lives stands).value_is stands'.2
      by (PointerValue p) (PointerValue q) typed typed' lives lives' beside stands stands' =
          both_into (PointerValue p) (PointerValue q) x y refl refl beside (at target (PointerValue p) x refl typed lives stands) (at target' (PointerValue q) y refl typed' lives' stands')
      by (PointerValue p) (RawPointer m) typed typed' lives lives' beside stands stands' =
          both_into (PointerValue p) (RawPointer m) x y refl refl beside (at target (PointerValue p) x refl typed lives stands) (at target' (RawPointer m) y refl typed' lives' stands')
      by (RawPointer n) (PointerValue q) typed typed' lives lives' beside stands stands' =
          both_into (RawPointer n) (PointerValue q) x y refl refl beside (at target (RawPointer n) x refl typed lives stands) (at target' (PointerValue q) y refl typed' lives' stands')
      by (RawPointer n) (RawPointer m) typed typed' lives lives' beside stands stands' =
          both_into (RawPointer n) (RawPointer m) x y refl refl beside (at target (RawPointer n) x refl typed lives stands) (at target' (RawPointer m) y refl typed' lives' stands')

  pub equality_is : (relation : Relation) (here : Pos) (target target' : CType) (a b : Scalar) (held held' : Value) (answer : Scalar) (after : S.State) → is_equality relation ≡ true
      → PointsTo program s target a → PointsTo program s target' b → ScalarStands program s.objects placement a held → ScalarStands program s.objects placement b held'
      → compared_pointers (around_of program) relation here a b s ≡ Then answer after → ComparedBoth around s after objects' relation answer held held'
  equality_is relation here target target' a b held held' answer after equality typed typed' stands stands' e = by relation equality e
    where
      last : (relation : Relation) (found : Scalar) → (is_dead_pointer s.objects a || is_dead_pointer s.objects b) ≡ false
          → unless here (premise (is_end_beside a b) Ub.U09 ∷ []) (give found) s ≡ Then answer after
          → ((C.are_equal around objects' held held' ≡ Some (P.are_equal (around_of program) a b)) → (test : Bool) × (compared around objects' relation held held' ≡ Some test) × (found ≡ IntegerValue (truth test)))
          → ComparedBoth around s after objects' relation answer held held'
      last relation found alive e tests =
          let lives = neither_of (is_dead_pointer s.objects a) (is_dead_pointer s.objects b) alive in
          let second = past here (is_end_beside a b) Ub.U09 [] (give found) s answer after e in
          let third = gave found answer s after second.1 in
          let test = tests (equal_is target target' a b held held' typed typed' lives.0 lives.1 second.0 stands stands') in
          record {
            same = third.1;
            alive = looked_at_alive program placement s.objects objects' memory a held (typed_pointer program s target a typed) lives.0 stands;
            alive' = looked_at_alive program placement s.objects objects' memory b held' (typed_pointer program s target' b typed') lives.1 stands';
            test = test.0;
            test_is = test.1;
            answer_is = third.0 ∙ test.2;
          }

      by : (relation : Relation) → is_equality relation ≡ true → compared_pointers (around_of program) relation here a b s ≡ Then answer after → ComparedBoth around s after objects' relation answer held held'
      by R.Eq equality e =
          let first = past here (is_dead_pointer s.objects a || is_dead_pointer s.objects b) Ub.U06 (premise (is_end_beside a b) Ub.U09 ∷ []) (give (P.truth (P.are_equal (around_of program) a b))) s answer after e in
          last R.Eq (P.truth (P.are_equal (around_of program) a b)) first.0 first.1 (λ is. (P.are_equal (around_of program) a b, is, truth_integer (P.are_equal (around_of program) a b)))
      by R.Ne equality e =
          let first = past here (is_dead_pointer s.objects a || is_dead_pointer s.objects b) Ub.U06 (premise (is_end_beside a b) Ub.U09 ∷ []) (give (P.truth (not (P.are_equal (around_of program) a b)))) s answer after e in
          last R.Ne (P.truth (not (P.are_equal (around_of program) a b))) first.0 first.1 (λ is. (not (P.are_equal (around_of program) a b), rw is refl, truth_integer (not (P.are_equal (around_of program) a b))))
      by R.Lt equality e = absurd (false≢true equality)
      by R.Le equality e = absurd (false≢true equality)
      by R.Gt equality e = absurd (false≢true equality)
      by R.Ge equality e = absurd (false≢true equality)
