-- What operators on pointers give in words stands for what they give on values.
use Rattle.std.proofs.Common.{◌≡◌, ℕ, suc, ◌+◌, ◌%◌, ◌^◌, ◌<◌, ◌≤◌, ◌⊎◌, inl, inr, ◌==◌, Bool, true, false, not, ◌&&◌, ◌||◌, if◌then◌else◌, Option, Some, None, ℤ, pos, negsuc, neg_ℤ, ◌+ℤ◌, ◌-ℤ◌, ◌*ℤ◌, ◌<ℤ◌, int_eq, int_lt, int_le, int_div, refl, sym, ap, ap₂, ◌∙◌, subst, eqb-true, eq-eqb, leb-true, arith}
use Rattle.std.specs.Prelude.{nat_le, nat_lt}
use Rattle.std.proofs.Math.Nat.{mod-eq_of_lt, div-zero}
use Rattle.std.proofs.lemmas.Int.{ints}
use Rattle.std.proofs.lemmas.Bool.{true≢false, false≢true, false_from_ne_true, ne_eqb, and_parts}
use Rattle.std.proofs.lemmas.Bool.Decides.{Decides-int_eq}
use Rattle.c_num.specs.declared.Relation.{Relation}
use Rattle.c_num.specs.declared.Relation.TheVariants as R
use Rattle.c_num.specs.declared.IntType.TheVariants as I
use Rattle.c_num.specs.declared.BinOp.TheVariants as B
use Rattle.c_num.specs.Types.{IsValue, is_value}
use Rattle.c_num.specs.Conversion.{convert_to, word_of}
use Rattle.c_num.specs.Arith.{quotient, wrapped, compare_of}
use Rattle.c_num.proofs.Conversions.{convert_to-same, word_is}
use Rattle.c_num.proofs.Outcomes.{le_from_test, test_from_le, is_value-Decides, wrapped_value}
use Rattle.c_typed.specs.Types.{CType}
use Rattle.tac_ir.specs.Values.{Object, same_object, Value, Number, NoAddress, Code, Address, Objects}
use Rattle.tac_ir.specs.Layouts.{size_of}
use Rattle.tac_ir.specs.Objects.{Surroundings, offset_moved, is_there, extent_of, is_place}
use Rattle.tac_ir.specs.Trees.{truth}
use Rattle.tac_ir.specs.Pointers.{is_alive, is_null, moved_pointer, difference, is_end, are_equal, in_order, compared}
use Rattle.pool_isa.specs.Machine.{value_in, binary_word, compared_word}
use Rattle.pool_ir.specs.Words.{truth_word, moved_by, moved_back}
use Rattle.pool_rewrite.specs.Standing.{MemoryMap, Stands, AreApart}
use Rattle.pool_simulation.specs.Placed.{KeepsOffsets, addresses_end, Placed, IsInside}
use Rattle.pool_simulation.proofs.WordValues.{word, word_of-value, value_in-word}
use Rattle.pool_simulation.proofs.TreeWords.{truth_stands}
use Rattle.pool_simulation.proofs.Around.{offset_sum, moves_by, moves_back}
use Rattle.pool_simulation.proofs.SameObjects.{same_object-true, same_object-refl}
use Rattle.pool_simulation.proofs.SizesEnd.{size_ends}

-- ---- tests on words

equal_words : (x y : ℕ) → x ≡ y → int_eq (pos x) (pos y) ≡ true
equal_words x y e = (Decides-int_eq (pos x) (pos y)).1 (ap pos e)

different_words : (x y : ℕ) → (x ≡ y → ⊥) → int_eq (pos x) (pos y) ≡ false
different_words x y differ = false_from_ne_true (int_eq (pos x) (pos y)) (λ e. differ (cc ((Decides-int_eq (pos x) (pos y)).0 e)))

-- two words are the same where two numbers are
same_test : (x y i j : ℕ) → (x ≡ y → i ≡ j) → (i ≡ j → x ≡ y) → int_eq (pos x) (pos y) ≡ (i == j)
same_test x y i j there back = by (i == j) refl
  where
    by : (b : Bool) → (i == j) ≡ b → int_eq (pos x) (pos y) ≡ b
    by true e = equal_words x y (back (eqb-true i j e))
    by false e = different_words x y (λ same. true≢false (sym (eq-eqb i j (there same)) ∙ e))

same_numbers : (address i j : ℕ) → int_eq (pos (address + i)) (pos (address + j)) ≡ int_eq (pos i) (pos j)
same_numbers address i j = same_test (address + i) (address + j) i j (λ e. omega (arith, e)) (λ e. omega (arith, e)) ∙ sym (same_test i j i j (λ e. e) (λ e. e))

same_tests : (p q : Bool) → (p ≡ true → q ≡ true) → (q ≡ true → p ≡ true) → p ≡ q
same_tests true q there back = sym (there refl)
same_tests false true there back = back refl
same_tests false false there back = refl

lt_from_test : (a b : ℤ) → int_lt a b ≡ true → a <ℤ b
lt_from_test a b e = omega (arith, ints)

test_from_lt : (a b : ℤ) → a <ℤ b → int_lt a b ≡ true
test_from_lt a b h = sym (omega (arith, ints))

lt_words : (address i j : ℕ) → int_lt (pos (address + i)) (pos (address + j)) ≡ int_lt (pos i) (pos j)
lt_words address i j =
    same_tests (int_lt (pos (address + i)) (pos (address + j))) (int_lt (pos i) (pos j))
    (λ e. let lt = lt_from_test (pos (address + i)) (pos (address + j)) e in test_from_lt (pos i) (pos j) (omega (arith, ints)))
    (λ e. let lt = lt_from_test (pos i) (pos j) e in test_from_lt (pos (address + i)) (pos (address + j)) (omega (arith, ints)))

le_words : (address i j : ℕ) → int_le (pos (address + i)) (pos (address + j)) ≡ int_le (pos i) (pos j)
le_words address i j =
    same_tests (int_le (pos (address + i)) (pos (address + j))) (int_le (pos i) (pos j))
    (λ e. let le = le_from_test (pos (address + i)) (pos (address + j)) e in test_from_le (pos i) (pos j) (omega (arith, ints)))
    (λ e. let le = le_from_test (pos i) (pos j) e in test_from_le (pos (address + i)) (pos (address + j)) (omega (arith, ints)))

-- places in one object are in the order of their offsets
in_order_words : (relation : Relation) (address i j : ℕ) → compare_of relation (pos (address + i)) (pos (address + j)) ≡ compare_of relation (pos i) (pos j)
in_order_words R.Eq address i j = same_numbers address i j
in_order_words R.Ne address i j = ap not (same_numbers address i j)
in_order_words R.Lt address i j = lt_words address i j
in_order_words R.Le address i j = le_words address i j
in_order_words R.Gt address i j = lt_words address j i
in_order_words R.Ge address i j = le_words address j i

-- words that are compared as unsigned ones are compared as numbers
long_word : (x : ℕ) → x < 2 ^ 64 → value_in I.ULong x ≡ pos x
long_word x fits = convert_to-same I.ULong (pos x) (record { least = omega (arith, ints); greatest = omega (arith, ints) })

compared_numbers : (relation : Relation) (x y : ℕ) → x < 2 ^ 64 → y < 2 ^ 64 → compared_word relation I.ULong x y ≡ truth_word (compare_of relation (pos x) (pos y))
compared_numbers relation x y fits fits' = ap₂ (λ a b. truth_word (compare_of relation a b)) (long_word x fits) (long_word y fits')

-- the difference of places in one object, in elements of a size
long_small : (x : ℕ) → x < 2 ^ 63 → IsValue I.Long (pos x)
long_small x small = record { least = omega (arith, ints); greatest = omega (arith, ints) }

long_value : (x : ℕ) → x < 2 ^ 63 → value_in I.Long x ≡ pos x
long_value x small = convert_to-same I.Long (pos x) (long_small x small)

wrapped_difference : (address i j : ℕ) → address + i < 2 ^ 63 → address + j < 2 ^ 63 → wrapped B.Sub I.Long (pos (address + i)) (pos (address + j)) ≡ pos i -ℤ pos j
wrapped_difference address i j small small' =
    let x = pos (address + i) in
    let y = pos (address + j) in
    let d : x -ℤ y ≡ pos i -ℤ pos j = omega (arith, ints) in
    sym (wrapped_value B.Sub I.Long x y) ∙ ap₂ (λ a b. convert_to I.Long (a -ℤ b)) (convert_to-same I.Long x (long_small (address + i) small)) (convert_to-same I.Long y (long_small (address + j) small'))
    ∙ ap (convert_to I.Long) d ∙ convert_to-same I.Long (pos i -ℤ pos j) (small_difference i j (omega (arith, small)) (omega (arith, small')))
  where
    small_difference : (i j : ℕ) → i < 2 ^ 63 → j < 2 ^ 63 → IsValue I.Long (pos i -ℤ pos j)
    small_difference i j less less' = record { least = omega (arith, ints); greatest = omega (arith, ints) }

-- a quotient by 0 is 0 in both definitions
quotient_is : (d : ℤ) (size : ℕ) → quotient d (pos size) ≡ int_div d (pos size)
quotient_is d size = by (int_eq (pos size) (pos 0)) refl
  where
    by : (b : Bool) → int_eq (pos size) (pos 0) ≡ b → (if b then pos 0 else int_div d (pos size)) ≡ int_div d (pos size)
    by false e = refl
    by true e = sym (ap (int_div d) ((Decides-int_eq (pos size) (pos 0)).0 e) ∙ none d)
      where
        none : (d : ℤ) → int_div d (pos 0) ≡ pos 0
        none (pos n) = ap pos (div-zero n)
        none (negsuc n) = ap (λ m. neg_ℤ (pos m)) (div-zero (suc n))

wrapped_quotient : (d : ℤ) (size : ℕ) → IsValue I.Long d → size < 2 ^ 63 → IsValue I.Long (int_div d (pos size)) → wrapped B.Div I.Long d (pos size) ≡ int_div d (pos size)
wrapped_quotient d size is small is' =
    sym (wrapped_value B.Div I.Long d (pos size)) ∙ ap₂ (λ a b. convert_to I.Long (quotient a b)) (convert_to-same I.Long d is) (convert_to-same I.Long (pos size) (long_small size small))
    ∙ ap (convert_to I.Long) (quotient_is d size) ∙ convert_to-same I.Long (int_div d (pos size)) is'

difference_word : (address i j size : ℕ) → address + i < 2 ^ 63 → address + j < 2 ^ 63 → size < 2 ^ 63 → IsValue I.Long (int_div (pos i -ℤ pos j) (pos size))
    → binary_word B.Div I.Long (binary_word B.Sub I.Long (address + i) (address + j)) size ≡ word (int_div (pos i -ℤ pos j) (pos size))
difference_word address i j size small small' less is =
    let d = pos i -ℤ pos j in
    let d_is : IsValue I.Long d = record { least = omega (arith, ints); greatest = omega (arith, ints) } in
    let first : binary_word B.Sub I.Long (address + i) (address + j) ≡ word d =
    ap₂ (λ a b. word_of I.Long (wrapped B.Sub I.Long a b)) (long_value (address + i) small) (long_value (address + j) small')
    ∙ ap (word_of I.Long) (wrapped_difference address i j small small') ∙ word_is I.Long d d_is in
    ap (λ w. binary_word B.Div I.Long w size) first
    ∙ ap₂ (λ a b. word_of I.Long (wrapped B.Div I.Long a b)) (value_in-word I.Long d d_is) (long_value size less)
    ∙ ap (word_of I.Long) (wrapped_quotient d size d_is less is) ∙ word_is I.Long (int_div d (pos size)) is

-- ---- pointers

module _ (around : Surroundings) (objects : Objects) (memory : MemoryMap) (placed : Placed around.structs memory objects) (keeps : KeepsOffsets memory) where
  -- where a word points that stands for a place in an object that is there
  pub record PointsAt (object : Object) (offset word : ℕ) : Type 0 where
    pub address : ℕ
    pub address_is : memory.address object ≡ Some address
    pub least : 1 ≤ address
    pub most : address + extent_of around.structs (objects object) ≤ addresses_end
    pub word_is : word ≡ address + offset

  pub points_at : (object : Object) (offset word : ℕ) → Stands objects memory (Address object offset) word → is_there (objects object) ≡ true → PointsAt object offset word
  points_at object offset word stands there =
      let own = placed.there object there in
      let place = stands there in
      let same : place.0 ≡ own.0 = cc (sym place.1 ∙ own.1) in
      record {
        address = own.0;
        address_is = own.1;
        least = own.2;
        most = own.3;
        word_is = place.2 ∙ ap₂ ◌+◌ same (keeps object offset);
      }

  -- ---- tests

  -- the word of a pointer that may be looked at is 0 where it is null
  pub null_stands : (value : Value) (word : ℕ) → Stands objects memory value word → is_alive objects value ≡ true → (word == 0) ≡ is_null value
  null_stands (Number z) word stands alive = absurd (false≢true alive)
  null_stands NoAddress word stands alive = eq-eqb word 0 stands
  null_stands (Code function) word stands alive = ne_eqb word 0 (λ e. omega (arith, stands, e))
  null_stands (Address object offset) word stands alive = let at = points_at object offset word stands alive in let word_is = at.word_is in let least = at.least in ne_eqb word 0 (λ e. omega (arith, word_is, least, e))

  pub test_stands : (value : Value) (word : ℕ) → Stands objects memory value word → is_alive objects value ≡ true → Stands objects memory (Number (truth (not (is_null value)))) (truth_word (not (word == 0)))
  test_stands value word stands alive = ap (λ b. truth_word (not b)) (null_stands value word stands alive) ∙ truth_stands (not (is_null value))

  -- ---- places that move

  -- what a place comes to that moves
  record Further (object : Object) (offset : ℕ) (element : CType) (z : ℤ) (value : Value) : Type 0 where
    further : ℕ
    sum : pos offset +ℤ z *ℤ pos (size_of around.structs element) ≡ pos further
    there : is_there (objects object) ≡ true
    inside : further ≤ extent_of around.structs (objects object)
    value_is : Address object further ≡ value

  moved_some : (element : CType) (z : ℤ) (object : Object) (offset : ℕ) (value : Value) → moved_pointer around objects element z (Address object offset) ≡ Some value → Further object offset element z value
  moved_some element z object offset value e = by (offset_moved offset (z *ℤ pos (size_of around.structs element))) refl e
    where
      found : Option ℕ → Option Value
      found None = None
      found (Some further) = if is_place around.structs objects object further then Some (Address object further) else None

      by : (o : Option ℕ) → offset_moved offset (z *ℤ pos (size_of around.structs element)) ≡ o → found o ≡ Some value → Further object offset element z value
      by None is e = absurd (cc)
      by (Some further) is e = tested (is_place around.structs objects object further) refl e
        where
          tested : (b : Bool) → is_place around.structs objects object further ≡ b → (if b then Some (Address object further) else None) ≡ Some value → Further object offset element z value
          tested true place e =
              let parts = and_parts (is_there (objects object)) (nat_le further (extent_of around.structs (objects object))) place in
              record {
                further = further;
                sum = offset_sum offset further (z *ℤ pos (size_of around.structs element)) is;
                there = parts.0;
                inside = leb-true further (extent_of around.structs (objects object)) parts.1;
                value_is = cc;
              }
          tested false place e = absurd (cc)

  -- a word that comes to a place in an object stands for a pointer to it
  lands : (object : Object) (offset word target further : ℕ) (at : PointsAt object offset word) → further ≤ extent_of around.structs (objects object) → target ≡ (at.address + further) % 2 ^ 64
      → Stands objects memory (Address object further) target
  lands object offset word target further at inside is there =
      let most = at.most in
      (at.address, at.address_is, is ∙ mod-eq_of_lt (omega (arith, most, inside)) ∙ ap (λ n. at.address + n) (sym (keeps object further)))

  pub move_stands : (element : CType) (is_minus : Bool) (z : ℤ) (value moved : Value) (pointer : ℕ) → Stands objects memory value pointer
      → moved_pointer around objects element (if is_minus then neg_ℤ z else z) value ≡ Some moved
      → Stands objects memory moved (if is_minus then moved_back pointer (size_of around.structs element) (word z) else moved_by pointer (size_of around.structs element) (word z))
  move_stands element is_minus z (Address object offset) moved pointer stands e = by is_minus e
    where
      by : (b : Bool) → moved_pointer around objects element (if b then neg_ℤ z else z) (Address object offset) ≡ Some moved
          → Stands objects memory moved (if b then moved_back pointer (size_of around.structs element) (word z) else moved_by pointer (size_of around.structs element) (word z))
      by true e =
          let own = moved_some element (neg_ℤ z) object offset moved e in
          let at = points_at object offset pointer stands own.there in
          subst (λ v. Stands objects memory v (moved_back pointer (size_of around.structs element) (word z))) own.value_is
          (lands object offset pointer (moved_back pointer (size_of around.structs element) (word z)) own.further at own.inside
          (moves_back pointer at.address offset own.further (size_of around.structs element) (ap (λ n. n % 2 ^ 64) at.word_is) z own.sum))
      by false e =
          let own = moved_some element z object offset moved e in
          let at = points_at object offset pointer stands own.there in
          subst (λ v. Stands objects memory v (moved_by pointer (size_of around.structs element) (word z))) own.value_is
          (lands object offset pointer (moved_by pointer (size_of around.structs element) (word z)) own.further at own.inside
          (moves_by pointer at.address offset own.further (size_of around.structs element) (ap (λ n. n % 2 ^ 64) at.word_is) z own.sum))
  move_stands element is_minus z (Number n) moved pointer stands e = absurd (cc)
  move_stands element is_minus z NoAddress moved pointer stands e = absurd (cc)
  move_stands element is_minus z (Code function) moved pointer stands e = absurd (cc)

  pub move_inside : (element : CType) (z : ℤ) (value moved : Value) → moved_pointer around objects element z value ≡ Some moved → IsInside around.structs objects moved
  move_inside element z (Address object offset) moved e = let own = moved_some element z object offset moved e in subst (IsInside around.structs objects) own.value_is (λ there. own.inside)
  move_inside element z (Number n) moved e = absurd (cc)
  move_inside element z NoAddress moved e = absurd (cc)
  move_inside element z (Code function) moved e = absurd (cc)

  -- ---- comparisons

  -- a pointer that may be looked at has a word that is not too great
  alive_fits : (value : Value) (word : ℕ) → Stands objects memory value word → is_alive objects value ≡ true → IsInside around.structs objects value → word < 2 ^ 64
  alive_fits (Number z) word stands alive inside = absurd (false≢true alive)
  alive_fits NoAddress word stands alive inside = omega (arith, stands)
  alive_fits (Code function) word stands alive inside = omega (arith, stands, inside)
  alive_fits (Address object offset) word stands alive inside =
      let at = points_at object offset word stands alive in
      let within = inside alive in
      let word_is = at.word_is in
      let most = at.most in
      omega (arith, word_is, most, within)

  -- what equality tells of two places
  equal_places : (a b : Object) (i j x y : ℕ) (same : Bool) → PointsAt a i x → PointsAt b j y → i ≤ extent_of around.structs (objects a) → j ≤ extent_of around.structs (objects b)
      → is_there (objects a) ≡ true → is_there (objects b) ≡ true → are_equal around objects (Address a i) (Address b j) ≡ Some same → int_eq (pos x) (pos y) ≡ same
  equal_places a b i j x y same at at' inside inside' there there' e = by (same_object a b) refl e
    where
      beside : (a ≡ b) ⊎ AreApart at.address (extent_of around.structs (objects a)) at'.address (extent_of around.structs (objects b)) → same_object a b ≡ false
          → (extent_of around.structs (objects a) == i) ≡ false → (extent_of around.structs (objects b) == j) ≡ false → x ≡ y → ⊥
      beside (inl one) two end end' is = true≢false (sym (subst (λ o. same_object a o ≡ true) one (same_object-refl a)) ∙ two)
      beside (inr apart) two end end' is =
          let short : i < extent_of around.structs (objects a) = shorter (extent_of around.structs (objects a)) i inside end in
          let short' : j < extent_of around.structs (objects b) = shorter (extent_of around.structs (objects b)) j inside' end' in
          clash apart short short' (sym at.word_is ∙ is ∙ at'.word_is)
        where
          shorter : (extent offset : ℕ) → offset ≤ extent → (extent == offset) ≡ false → offset < extent
          shorter extent offset inside end = let differ : extent ≡ offset → ⊥ = λ e. true≢false (sym (eq-eqb extent offset e) ∙ end) in omega (arith, inside, differ)

          clash : AreApart at.address (extent_of around.structs (objects a)) at'.address (extent_of around.structs (objects b)) → i < extent_of around.structs (objects a) → j < extent_of around.structs (objects b)
              → at.address + i ≡ at'.address + j → ⊥
          clash (inl before) short short' is = omega (arith, before, short, is)
          clash (inr behind) short short' is = omega (arith, behind, short', is)

      ends : (p q : Bool) → is_end around objects a i ≡ p → is_end around objects b j ≡ q → same_object a b ≡ false → (if p || q then None else Some false) ≡ Some same → int_eq (pos x) (pos y) ≡ same
      ends false false end end' two e =
          different_words x y (beside (placed.apart a b at.address at'.address there there' at.address_is at'.address_is) two end end') ∙ cc
      ends false true end end' two e = absurd (cc)
      ends true q end end' two e = absurd (cc)

      by : (s : Bool) → same_object a b ≡ s → (if s then Some (i == j) else if is_end around objects a i || is_end around objects b j then None else Some false) ≡ Some same → int_eq (pos x) (pos y) ≡ same
      by true one e =
          let object : a ≡ b = same_object-true a b one in
          let address : at.address ≡ at'.address = cc (sym at.address_is ∙ ap memory.address object ∙ at'.address_is) in
          let word_is = at.word_is in
          let word_is' = at'.word_is in
          same_test x y i j (λ e. omega (arith, word_is, word_is', address, e)) (λ e. omega (arith, word_is, word_is', address, e)) ∙ cc
      by false two e = ends (is_end around objects a i) (is_end around objects b j) refl refl two e

  -- what it tells of two pointers
  equal_stands : (a b : Value) (x y : ℕ) (same : Bool) → Stands objects memory a x → Stands objects memory b y → is_alive objects a ≡ true → is_alive objects b ≡ true
      → IsInside around.structs objects a → IsInside around.structs objects b → are_equal around objects a b ≡ Some same → int_eq (pos x) (pos y) ≡ same
  equal_stands (Number z) b x y same stands stands' alive alive' inside inside' e = absurd (false≢true alive)
  equal_stands NoAddress (Number z) x y same stands stands' alive alive' inside inside' e = absurd (false≢true alive')
  equal_stands NoAddress NoAddress x y same stands stands' alive alive' inside inside' e = equal_words x y (stands ∙ sym stands') ∙ cc
  equal_stands NoAddress (Code g) x y same stands stands' alive alive' inside inside' e = different_words x y (λ is. omega (arith, stands, stands', is)) ∙ cc
  equal_stands NoAddress (Address b j) x y same stands stands' alive alive' inside inside' e =
      let at' = points_at b j y stands' alive' in
      let word_is' = at'.word_is in
      let least' = at'.least in
      different_words x y (λ is. omega (arith, stands, word_is', least', is)) ∙ cc
  equal_stands (Code f) (Number z) x y same stands stands' alive alive' inside inside' e = absurd (false≢true alive')
  equal_stands (Code f) NoAddress x y same stands stands' alive alive' inside inside' e = different_words x y (λ is. omega (arith, stands, stands', is)) ∙ cc
  equal_stands (Code f) (Code g) x y same stands stands' alive alive' inside inside' e =
      same_test x y f g (λ is. omega (arith, stands, stands', is)) (λ is. omega (arith, stands, stands', is)) ∙ cc
  equal_stands (Code f) (Address b j) x y same stands stands' alive alive' inside inside' e =
      let at' = points_at b j y stands' alive' in
      let within' = inside' alive' in
      let word_is' = at'.word_is in
      let most' = at'.most in
      different_words x y (λ is. omega (arith, stands, word_is', most', within', is)) ∙ cc
  equal_stands (Address a i) (Number z) x y same stands stands' alive alive' inside inside' e = absurd (false≢true alive')
  equal_stands (Address a i) NoAddress x y same stands stands' alive alive' inside inside' e =
      let at = points_at a i x stands alive in
      let word_is = at.word_is in
      let least = at.least in
      different_words x y (λ is. omega (arith, stands', word_is, least, is)) ∙ cc
  equal_stands (Address a i) (Code g) x y same stands stands' alive alive' inside inside' e =
      let at = points_at a i x stands alive in
      let within = inside alive in
      let word_is = at.word_is in
      let most = at.most in
      different_words x y (λ is. omega (arith, stands', word_is, most, within, is)) ∙ cc
  equal_stands (Address a i) (Address b j) x y same stands stands' alive alive' inside inside' e =
      equal_places a b i j x y same (points_at a i x stands alive) (points_at b j y stands' alive') (inside alive) (inside' alive') alive alive' e

  -- what an order tells: the places are in one object
  order_stands : (relation : Relation) (a b : Value) (x y : ℕ) (test : Bool) → Stands objects memory a x → Stands objects memory b y → is_alive objects a ≡ true → is_alive objects b ≡ true
      → in_order relation a b ≡ Some test → compare_of relation (pos x) (pos y) ≡ test
  order_stands relation (Address a i) (Address b j) x y test stands stands' alive alive' e = by (same_object a b) refl e
    where
      by : (s : Bool) → same_object a b ≡ s → (if s then Some (compare_of relation (pos i) (pos j)) else None) ≡ Some test → compare_of relation (pos x) (pos y) ≡ test
      by true one e =
          let at = points_at a i x stands alive in
          let at' = points_at b j y stands' alive' in
          let address : at'.address ≡ at.address = cc (sym at'.address_is ∙ ap memory.address (sym (same_object-true a b one)) ∙ at.address_is) in
          ap₂ (λ m n. compare_of relation (pos m) (pos n)) at.word_is (at'.word_is ∙ ap (λ n. n + j) address) ∙ in_order_words relation at.address i j ∙ cc
      by false two e = absurd (cc)
  order_stands relation (Address a i) (Number z) x y test stands stands' alive alive' e = absurd (cc)
  order_stands relation (Address a i) NoAddress x y test stands stands' alive alive' e = absurd (cc)
  order_stands relation (Address a i) (Code g) x y test stands stands' alive alive' e = absurd (cc)
  order_stands relation (Number z) b x y test stands stands' alive alive' e = absurd (cc)
  order_stands relation NoAddress b x y test stands stands' alive alive' e = absurd (cc)
  order_stands relation (Code f) b x y test stands stands' alive alive' e = absurd (cc)

  -- words of pointers compare as the pointers do
  compared_alike : (relation : Relation) (a b : Value) (x y : ℕ) (test : Bool) → Stands objects memory a x → Stands objects memory b y → is_alive objects a ≡ true → is_alive objects b ≡ true
      → IsInside around.structs objects a → IsInside around.structs objects b → compared around objects relation a b ≡ Some test → compare_of relation (pos x) (pos y) ≡ test
  compared_alike R.Eq a b x y test stands stands' alive alive' inside inside' e = equal_stands a b x y test stands stands' alive alive' inside inside' e
  compared_alike R.Ne a b x y test stands stands' alive alive' inside inside' e = by (are_equal around objects a b) refl e
    where
      other : Option Bool → Option Bool
      other None = None
      other (Some same) = Some (not same)

      by : (o : Option Bool) → are_equal around objects a b ≡ o → other o ≡ Some test → not (int_eq (pos x) (pos y)) ≡ test
      by None is e = absurd (cc)
      by (Some same) is e = ap not (equal_stands a b x y same stands stands' alive alive' inside inside' is) ∙ cc
  compared_alike R.Lt a b x y test stands stands' alive alive' inside inside' e = order_stands R.Lt a b x y test stands stands' alive alive' e
  compared_alike R.Le a b x y test stands stands' alive alive' inside inside' e = order_stands R.Le a b x y test stands stands' alive alive' e
  compared_alike R.Gt a b x y test stands stands' alive alive' inside inside' e = order_stands R.Gt a b x y test stands stands' alive alive' e
  compared_alike R.Ge a b x y test stands stands' alive alive' inside inside' e = order_stands R.Ge a b x y test stands stands' alive alive' e

  pub compare_stands : (relation : Relation) (a b : Value) (x y : ℕ) (test : Bool) → Stands objects memory a x → Stands objects memory b y → is_alive objects a ≡ true → is_alive objects b ≡ true
      → IsInside around.structs objects a → IsInside around.structs objects b → compared around objects relation a b ≡ Some test → Stands objects memory (Number (truth test)) (compared_word relation I.ULong x y)
  compare_stands relation a b x y test stands stands' alive alive' inside inside' e =
      compared_numbers relation x y (alive_fits a x stands alive inside) (alive_fits b y stands' alive' inside')
      ∙ ap truth_word (compared_alike relation a b x y test stands stands' alive alive' inside inside' e) ∙ truth_stands test

  -- ---- differences

  pub difference_stands : (element : CType) (a b value : Value) (x y : ℕ) → Stands objects memory a x → Stands objects memory b y → IsInside around.structs objects a → IsInside around.structs objects b
      → difference around objects element a b ≡ Some value → Stands objects memory value (binary_word B.Div I.Long (binary_word B.Sub I.Long x y) (size_of around.structs element))
  difference_stands element (Address a i) (Address b j) value x y stands stands' inside inside' e =
      by (same_object a b && (is_there (objects a) && (nat_lt 0 (size_of around.structs element) && is_value I.Long (int_div (pos i -ℤ pos j) (pos (size_of around.structs element)))))) refl e
    where
      by : (t : Bool) → (same_object a b && (is_there (objects a) && (nat_lt 0 (size_of around.structs element) && is_value I.Long (int_div (pos i -ℤ pos j) (pos (size_of around.structs element)))))) ≡ t
          → (if t then Some (Number (int_div (pos i -ℤ pos j) (pos (size_of around.structs element)))) else None) ≡ Some value
          → Stands objects memory value (binary_word B.Div I.Long (binary_word B.Sub I.Long x y) (size_of around.structs element))
      by true test e =
          let size = size_of around.structs element in
          let z = int_div (pos i -ℤ pos j) (pos size) in
          let parts = and_parts (same_object a b) (is_there (objects a) && (nat_lt 0 size && is_value I.Long z)) test in
          let parts' = and_parts (is_there (objects a)) (nat_lt 0 size && is_value I.Long z) parts.1 in
          let parts'' = and_parts (nat_lt 0 size) (is_value I.Long z) parts'.1 in
          let one : a ≡ b = same_object-true a b parts.0 in
          let there' : is_there (objects b) ≡ true = subst (λ o. is_there (objects o) ≡ true) one parts'.0 in
          let at = points_at a i x stands parts'.0 in
          let at' = points_at b j y stands' there' in
          let address : at'.address ≡ at.address = cc (sym at'.address_is ∙ ap memory.address (sym one) ∙ at.address_is) in
          let within = inside parts'.0 in
          let within' = inside' there' in
          let most = at.most in
          let most' = at'.most in
          let ends = size_ends around.structs element in
          let same : Number z ≡ value = cc in
          subst (λ v. Stands objects memory v (binary_word B.Div I.Long (binary_word B.Sub I.Long x y) size)) same
          (ap₂ (λ m n. binary_word B.Div I.Long (binary_word B.Sub I.Long m n) size) at.word_is (at'.word_is ∙ ap (λ n. n + j) address)
          ∙ difference_word at.address i j size (omega (arith, most, within)) (omega (arith, most', within', address)) (omega (arith, ends)) ((is_value-Decides I.Long z).0 parts''.1)
          ∙ sym (word_of-value z))
      by false test e = absurd (cc)
  difference_stands element (Address a i) (Number n) value x y stands stands' inside inside' e = absurd (cc)
  difference_stands element (Address a i) NoAddress value x y stands stands' inside inside' e = absurd (cc)
  difference_stands element (Address a i) (Code g) value x y stands stands' inside inside' e = absurd (cc)
  difference_stands element (Number n) b value x y stands stands' inside inside' e = absurd (cc)
  difference_stands element NoAddress b value x y stands stands' inside inside' e = absurd (cc)
  difference_stands element (Code f) b value x y stands stands' inside inside' e = absurd (cc)

  pub difference_inside : (element : CType) (a b value : Value) → difference around objects element a b ≡ Some value → IsInside around.structs objects value
  difference_inside element (Address a i) (Address b j) value e =
      by (same_object a b && (is_there (objects a) && (nat_lt 0 (size_of around.structs element) && is_value I.Long (int_div (pos i -ℤ pos j) (pos (size_of around.structs element)))))) e
    where
      by : (t : Bool) → (if t then Some (Number (int_div (pos i -ℤ pos j) (pos (size_of around.structs element)))) else None) ≡ Some value → IsInside around.structs objects value
      by true e = let same : Number (int_div (pos i -ℤ pos j) (pos (size_of around.structs element))) ≡ value = cc in subst (IsInside around.structs objects) same tt
      by false e = absurd (cc)
  difference_inside element (Address a i) (Number n) value e = absurd (cc)
  difference_inside element (Address a i) NoAddress value e = absurd (cc)
  difference_inside element (Address a i) (Code g) value e = absurd (cc)
  difference_inside element (Number n) b value e = absurd (cc)
  difference_inside element NoAddress b value e = absurd (cc)
  difference_inside element (Code f) b value e = absurd (cc)
