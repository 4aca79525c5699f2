-- What pointers to allocations, converted, point to.
use Rattle.std.proofs.Common.{◌≡◌, ℕ, ◌/◌, ◌%◌, Bool, true, false, not, ◌==◌, if◌then◌else◌, is_some, unwrap_or, List, [], ◌∷◌, Option, Some, None, Result, Ok, Err, refl, sym, ap, subst, ◌∙◌}
use Rattle.std.proofs.lemmas.Bool.{false≢true}
use Rattle.indexmap.specs.IndexMap.{IndexMap, get, get_by}
use Rattle.run_theory.specs.declared.place.Pos.{Pos}
use Rattle.run_theory.specs.declared.ends.UbKind.TheVariants as Ub
use Rattle.c_typed.specs.Types.{CType, same_type, is_like_void}
use Rattle.c_typed.specs.Table.{Interned, type_in}
use Rattle.c_typed.proofs.Same.{same_type-true}
use Rattle.ref_semantics.specs.Values.{Heap, Scalar, PointerValue, Place, Content, Dead, Raw, Elements, whole_row, first_of_row}
use Rattle.ref_semantics.specs.Store.{TypeEnvironment, State, Eval, give, with_objects, with_content, store_content, premise, unless, is_dead_pointer, size_of}
use Rattle.ref_semantics.specs.Pointers.{of_allocation, retyped, repointed}
use Rattle.ref_meaning.specs.declared.value.Name as memory_name
use Rattle.ref_meaning.specs.declared.object.Content as memory_content
use Rattle.ref_meaning.specs.declared.object.Content.TheVariants as C
use Rattle.ref_meaning.specs.declared.object.Elements as memory_elements
use Rattle.ref_meaning.specs.Fitting.{ElementsStand}
use Rattle.ref_meaning.specs.RefStore.Views.{same_memory}
use Rattle.ref_meaning.specs.declared.store.Store.{Store}
use Rattle.ref_meaning.specs.declared.value.Stop.{Stop}
use Rattle.ref_meaning.specs.declared.value.Stop.TheVariants as T
use Rattle.ref_meaning.specs.RefStore.Holding.{At, CallGives, left, EvaluatesTo, IsUndefined, AllHeld, ContentIs, dead, raw, elements}
use Rattle.ref_meaning.specs.contracts.value.NamePartialEq.TheImpl.{eq-value}
use Rattle.ref_meaning.proofs.Giving.{undefined-here}
use Rattle.ref_meaning.proofs.Names.{get_name}

-- ---- parts of a number of bytes

pub parts-some : (b : Bool) (n count : ℕ) → Some count ≡ (if b then Some n else None) → (b ≡ true) × (count ≡ n)
parts-some true n count e = (refl, ap (λ o. unwrap_or o 0) e)
parts-some false n count e = absurd (false≢true (sym (ap is_some e)))

pub parts-none : (b : Bool) (n : ℕ) → is_some (if b then Some n else None) ≡ false → b ≡ false
parts-none true n e = e
parts-none false n e = refl

-- ---- what an object holds, by what is found

abbrev pub Told : Interned → Option memory_content.Content → Content → Type 0
Told table None content = content ≡ Dead
Told table (Some (C.Raw size)) content = content ≡ Raw size
Told table (Some (C.Elements some)) content =
    (held : ℕ → Option Scalar) × (content ≡ Elements some.is_static (type_in table some.c_type) some.count held) × ElementsStand table some.c_type some.count

told : (table : Interned) (memory : Option memory_content.Content) (content : Content) → ContentIs table memory content → Told table memory content
told table memory content dead = refl
told table memory content (raw size) = refl
told table memory content (elements some held stands all) = (held, refl, stands)

pub found_told : {S : Type 0} (table : Interned) (m : IndexMap memory_name.Name memory_content.Content S) (name : memory_name.Name) (found : Option memory_content.Content) (content : Content) → found ≡ get eq-value.it m name
    → ContentIs table (get_by (same_memory name) m) content → Told table found content
found_told table m name found content e holds = told table found content (subst (λ memory. ContentIs table memory content) (sym (e ∙ get_name m name)) holds)

-- an allocation that gets a type
pub fresh : (table : Interned) (c_type : CType) (count : ℕ) (made : memory_elements.Elements) → made.is_static ≡ false → type_in table made.c_type ≡ c_type → made.count ≡ count → ElementsStand table made.c_type made.count
    → AllHeld table made.held (λ offset. None) → ContentIs table (Some (C.Elements made)) (Elements false c_type count (λ offset. None))
fresh table c_type count made is_static is_type is_count stands none =
    subst (λ content. ContentIs table (Some (C.Elements made)) content) (λ i. Elements (is_static i) (is_type i) (is_count i) (λ offset. None))
    (elements made (λ offset. None) stands none)

-- ---- an allocation gets a type

abbrev pub typed : TypeEnvironment → Pos → CType → ℕ → Eval Scalar
typed around here target number = with_objects (λ objects. of_allocation around here target number (objects (Heap number)))

module _ (around : TypeEnvironment) (here : Pos) (target : CType) (number : ℕ) (s : State) where
  pub typed-dead : s.objects (Heap number) ≡ Dead → IsUndefined (typed around here target number) s Ub.U06 here
  typed-dead e = undefined-here (typed around here target number) s Ub.U06 here (λ units input i. of_allocation around here target number (e i) (left units input s))

  module _ (is_static : Bool) (c_type : CType) (count : ℕ) (held : ℕ → Option Scalar) (e : s.objects (Heap number) ≡ Elements is_static c_type count held) where
    pub typed-other : same_type c_type target ≡ false → IsUndefined (typed around here target number) s Ub.U12 here
    typed-other other = undefined-here (typed around here target number) s Ub.U12 here
        (λ units input. (λ i. of_allocation around here target number (e i) (left units input s))
        ∙ (λ i. unless here (premise (not (other i)) Ub.U12 ∷ []) (give (PointerValue (first_of_row (Heap number) (whole_row c_type count)))) (left units input s)))

    pub typed-same : same_type c_type target ≡ true → EvaluatesTo (typed around here target number) s (PointerValue (first_of_row (Heap number) (whole_row target count))) s
    typed-same same = λ units input.
        (λ i. of_allocation around here target number (e i) (left units input s))
        ∙ (λ i. unless here (premise (not (same i)) Ub.U12 ∷ []) (give (PointerValue (first_of_row (Heap number) (whole_row (same_type-true c_type target same i) count)))) (left units input s))

  module _ (size own : ℕ) (e : s.objects (Heap number) ≡ Raw size) (is : size_of around target ≡ own) where
    abbrev typed_by : Bool → ℕ → Eval Scalar
    typed_by odd count = unless here (premise odd Ub.U13 ∷ []) (store_content (Heap number) (Elements false target count (λ offset. None)) (give (PointerValue (first_of_row (Heap number) (whole_row target count)))))

    raw-typed : (units : ℕ) (input : List ℕ) → typed around here target number (left units input s) ≡ typed_by (not (size % own == 0)) (size / own) (left units input s)
    raw-typed units input =
        (λ i. of_allocation around here target number (e i) (left units input s))
        ∙ (λ i. typed_by (not (size % is i == 0)) (size / is i) (left units input s))

    pub typed-odd : (size % own == 0) ≡ false → IsUndefined (typed around here target number) s Ub.U13 here
    typed-odd odd = undefined-here (typed around here target number) s Ub.U13 here
        (λ units input. raw-typed units input ∙ (λ i. typed_by (not (odd i)) (size / own) (left units input s)))

    pub typed-fresh : (size % own == 0) ≡ true → EvaluatesTo (typed around here target number) s (PointerValue (first_of_row (Heap number) (whole_row target (size / own))))
        (record s { objects = with_content (Heap number) (Elements false target (size / own) (λ offset. None)) s.objects })
    typed-fresh even = λ units input. raw-typed units input ∙ (λ i. typed_by (not (even i)) (size / own) (left units input s))

-- ---- conversions

abbrev repointed_by : TypeEnvironment → Pos → CType → Scalar → Bool → Bool → Eval Scalar
repointed_by around here target value gone void = unless here (premise gone Ub.U06 ∷ []) (if void then give value else retyped around here target value)

module _ (around : TypeEnvironment) (here : Pos) (target : CType) (value : Scalar) (s : State) where
  pub repointed-dead : is_dead_pointer s.objects value ≡ true → IsUndefined (repointed around here target value) s Ub.U06 here
  repointed-dead gone = undefined-here (repointed around here target value) s Ub.U06 here
      (λ units input i. repointed_by around here target value (gone i) (is_like_void around.completed target) (left units input s))

  module _ (gone : is_dead_pointer s.objects value ≡ false) where
    pub repointed-void : is_like_void around.completed target ≡ true → EvaluatesTo (repointed around here target value) s value s
    repointed-void void = λ units input i. repointed_by around here target value (gone i) (void i) (left units input s)

    -- it does what the type makes of it
    pub repointed-typed : is_like_void around.completed target ≡ false → (units : ℕ) (input : List ℕ) → repointed around here target value (left units input s) ≡ retyped around here target value (left units input s)
    repointed-typed void = λ units input i. repointed_by around here target value (gone i) (void i) (left units input s)

  module _ (gone : is_dead_pointer s.objects value ≡ false) (void : is_like_void around.completed target ≡ false) (place : Place) (is : value ≡ PointerValue place) where
    through : (units : ℕ) (input : List ℕ) → repointed around here target value (left units input s) ≡ retyped around here target (PointerValue place) (left units input s)
    through units input = repointed-typed gone void units input ∙ (λ i. retyped around here target (is i) (left units input s))

    pub repointed-other : same_type place.row.c_type target ≡ false → IsUndefined (repointed around here target value) s Ub.U12 here
    repointed-other other = undefined-here (repointed around here target value) s Ub.U12 here
        (λ units input. through units input ∙ (λ i. unless here (premise (not (other i)) Ub.U12 ∷ []) (give (PointerValue place)) (left units input s)))

    pub repointed-same : same_type place.row.c_type target ≡ true → EvaluatesTo (repointed around here target value) s value s
    repointed-same same = λ units input.
        through units input ∙ (λ i. unless here (premise (not (same i)) Ub.U12 ∷ []) (give (PointerValue place)) (left units input s)) ∙ (λ i. give (sym is i) (left units input s))

-- a call gives what an evaluation comes to that does the same
pub gives-as : {A B : Type 0} (around : TypeEnvironment) (old new : Store) (base : ℕ) (view : B → A) (first second : Eval A) (result : Result B Stop)
    → ((state : State) → At around old base state → (units : ℕ) (input : List ℕ) → first (left units input state) ≡ second (left units input state)) → CallGives around old new base view second result → CallGives around old new base view first result
gives-as around old new base view first second (Ok value) same gives = λ state at.
    let one = gives state at in
    record { after = one.after; does = λ units input. same state at units input ∙ one.does units input; at = one.at; quiet = one.quiet }
gives-as around old new base view first second (Err (T.Undefined kind place)) same gives = λ state at.
    let one = gives state at in
    record { there = one.there; is = λ units input. same state at units input ∙ one.is units input; quiet = one.quiet }
gives-as around old new base view first second (Err T.OutOfMemory) same gives = gives
