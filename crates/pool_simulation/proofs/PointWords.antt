-- Points that write to registers: where three-address code goes on, the code with pools writes a word that stands for what it writes.
use Rattle.std.proofs.Common.{◌≡◌, ℕ, ◌+◌, ◌-◌, ◌*◌, ◌%◌, ◌^◌, ◌<◌, ◌≤◌, ◌==◌, Bool, true, false, not, if◌then◌else◌, List, [], ◌∷◌, map, Option, Some, None, ℤ, pos, neg_ℤ, refl, sym, ap, ◌∙◌, subst, leb-true, leb-false, ltb-true, arith}
use Rattle.std.specs.Prelude.{nat_le, nat_lt, slice_get}
use Rattle.std.proofs.lemmas.Bool.{false≢true, and_parts}
use Rattle.run_theory.specs.Runs.{Move, To}
use Rattle.c_num.specs.declared.IntType.{IntType}
use Rattle.c_num.specs.declared.IntType.TheVariants as I
use Rattle.c_num.specs.declared.BinOp.TheVariants as B
use Rattle.c_num.specs.declared.Relation.{Relation}
use Rattle.c_num.specs.Types.{is_value}
use Rattle.c_num.specs.Conversion.{bits_of}
use Rattle.c_typed.specs.Types.{CType}
use Rattle.c_typed.specs.Layouts.{layouts}
use Rattle.tac_ir.specs.declared.register.Register.{Register}
use Rattle.tac_ir.specs.declared.register.Register.TheVariants as Registers
use Rattle.tac_ir.specs.Values.{Object, Value, Number, NoAddress, Code, Address, Content, Absent, Untyped, Typed, Objects, with_content}
use Rattle.tac_ir.specs.Events.{Wrote, ReadFrom, WroteTo}
use Rattle.tac_ir.specs.Layouts.{size_of, leaves_in, leaves_by_tag}
use Rattle.tac_ir.specs.Objects.{Surroundings, is_there, extent_of, is_place, fits, is_leaf, stands_at, held_at, holding, Reached, leads}
use Rattle.tac_ir.specs.Trees.{Registers, computes, is_zero, truth}
use Rattle.tac_ir.specs.States as T
use Rattle.tac_ir.specs.States.{given, unless_lost, write, emit, go_to, go_on, store_content, access}
use Rattle.tac_ir.specs.Pointers.{is_alive, is_null, moved_pointer, difference, compared, typed_content, repoint}
use Rattle.tac_ir.specs.Calls.{all_held, next_char}
use Rattle.tac_ir.specs.Meaning.{value_of, looked_at, load, store, address, truth_value, execute}
use Rattle.tac_ir.specs.Code.{Tree, Path, Operand, LocalObject, Tac}
use Rattle.tac_ir.specs.Code as O
use Rattle.pool_isa.specs.Machine.{input_word, binary_word, compared_word}
use Rattle.pool_ir.specs.Code.{FrameLayout, PoolCode}
use Rattle.pool_ir.specs.Words.{Words, truth_word, word_in, operand_word, moved_by, moved_back}
use Rattle.pool_ir.specs.States as P
use Rattle.pool_ir.specs.Memory.{path_address}
use Rattle.pool_ir.specs.Meaning as M
use Rattle.pool_rewrite.specs.Plan.{FunctionPlan}
use Rattle.pool_rewrite.specs.Rewriting.{path_of, op_of}
use Rattle.pool_rewrite.specs.Standing.{MemoryMap, PlaceStands, Stands, WordsStand}
use Rattle.pool_simulation.specs.Placed.{KeepsOffsets, around_in, BasesStand, Placed, IsInside, AreInside, Lasts, Written, Found}
use Rattle.pool_simulation.proofs.WordValues.{word_of-value, word-of_byte, input_word-next}
use Rattle.pool_simulation.proofs.TreeWords.{tree_word, tree_stands, byte_stands, branch_stands, operand_stands}
use Rattle.pool_simulation.proofs.PathWords.{path_leads}
use Rattle.pool_simulation.proofs.PointerWords.{test_stands, move_stands, move_inside, compare_stands, difference_stands, difference_inside}
use Rattle.pool_simulation.proofs.LastingWords.{lasts_same, lasts_typed, stands_lasts, inside_lasts}

-- ---- where three-address code goes on

given_to : {A : Type 0} (found : Option A) (state to : T.State) (next : A → Move T.State) → given found state next ≡ To to → (a : A) × (found ≡ Some a) × (next a ≡ To to)
given_to None state to next e = absurd (cc)
given_to (Some a) state to next e = (a, refl, e)

unless_to : (holds : Bool) (state to : T.State) (next : Move T.State) → unless_lost holds state next ≡ To to → (holds ≡ true) × (next ≡ To to)
unless_to true state to next e = (refl, e)
unless_to false state to next e = absurd (cc)

looked_to : (register : Register) (state to : T.State) (next : Value → Move T.State) → looked_at register state next ≡ To to
    → (value : Value) × (state.running.registers register ≡ Some value) × (is_alive state.objects value ≡ true) × (next value ≡ To to)
looked_to register state to next e =
    let found = given_to (state.running.registers register) state to (λ value. unless_lost (is_alive state.objects value) state (next value)) e in
    let alive = unless_to (is_alive state.objects found.0) state to (next found.0) found.2 in
    (found.0, found.1, alive.0, alive.1)

truth_some : (test : Option Bool) (value : Value) → truth_value test ≡ Some value → (b : Bool) × (test ≡ Some b) × (Number (truth b) ≡ value)
truth_some None value e = absurd (cc)
truth_some (Some b) value e = (b, refl, cc)

place_parts : (around : Surroundings) (objects : Objects) (object : Object) (offset : ℕ) → is_place around.structs objects object offset ≡ true → (is_there (objects object) ≡ true) × (offset ≤ extent_of around.structs (objects object))
place_parts around objects object offset place =
    let parts = and_parts (is_there (objects object)) (nat_le offset (extent_of around.structs (objects object))) place in
    (parts.0, leb-true offset (extent_of around.structs (objects object)) parts.1)

-- a scalar that stands in an object lies in it
scalar_inside : (around : Surroundings) (scalar : CType) (offset : ℕ) (content : Content) → stands_at around.structs scalar offset content ≡ true → (is_there content ≡ true) × (offset < extent_of around.structs content)
scalar_inside around scalar offset Absent e = absurd (false≢true e)
scalar_inside around scalar offset (Untyped size) e = absurd (false≢true e)
scalar_inside around scalar offset (Typed c_type count held) e =
    (refl, in_object (leaves_in (layouts around.structs) (leaves_by_tag around.structs) c_type (offset % size_of around.structs c_type)) (nat_lt offset (count * size_of around.structs c_type)) refl e)
  where
    in_object : (leaf : Option CType) (b : Bool) → nat_lt offset (count * size_of around.structs c_type) ≡ b → is_leaf (if b then leaf else None) scalar ≡ true → offset < count * size_of around.structs c_type
    in_object leaf true less e = ltb-true offset (count * size_of around.structs c_type) less
    in_object leaf false less e = absurd (false≢true e)

-- a word that is a place stands for a pointer to it
place_at : (memory : MemoryMap) → KeepsOffsets memory → (object : Object) (offset own target : ℕ) → memory.address object ≡ Some own → target ≡ own + offset → PlaceStands memory object offset target
place_at memory keeps object offset own target is e = (own, is, e ∙ ap (λ n. own + n) (sym (keeps object offset)))

-- ---- points that read no memory

module _ (tac : Tac) (plan : FunctionPlan) (own : List LocalObject) (frame : FrameLayout) (activation : ℕ) (memory : MemoryMap) (keeps : KeepsOffsets memory) (code : PoolCode) (state next : T.State) (state' : P.State)
    (placed : Placed tac.structs memory state.objects) (stand : WordsStand state.objects memory state.running.registers state'.running.words)
    (inside : AreInside tac.structs state.objects state.running.registers) where
  abbrev around : Surroundings
  around = around_in tac own activation

  -- a point, with the register to which it writes
  abbrev pub Writes : O.Op → Register → Type 0
  Writes op to = execute tac (around_in tac own activation) op state ≡ To next → Written tac.structs memory to state next code state' (M.execute code (op_of tac plan own frame op) state')

  pub assign_written : (to : Register) (tree : Tree) → Writes (O.Assign to tree) to
  assign_written to tree e =
      let found = given_to (computes state.running.registers tree) state next (λ z. write to (Number z) state) e in
      record {
        value = Number found.0;
        word = word_in state'.running.words tree;
        does = found.2;
        also = refl;
        stands = tree_stands state.objects memory state.running.registers state'.running.words tree found.0 stand found.1;
        inside = tt;
      }

  pub null_written : (to : Register) → Writes (O.Null to) to
  null_written to e = record { value = NoAddress; word = 0; does = e; also = refl; stands = refl; inside = tt }

  pub function_written : (to : Register) (function : ℕ) → function < 2 ^ 47 → Writes (O.FunctionAddress to function) to
  function_written to function small e =
      let found = given_to (slice_get tac.functions function) state next (λ known. write to (Code function) state) e in
      record { value = Code function; word = M.function_word function; does = found.2; also = refl; stands = refl; inside = small }

  pub copy_written : (to from : Register) → Writes (O.Copy to from) to
  copy_written to from e =
      let found = given_to (state.running.registers from) state next (λ value. write to value state) e in
      record {
        value = found.0;
        word = state'.running.words from;
        does = found.2;
        also = refl;
        stands = stand from found.0 found.1;
        inside = inside from found.0 found.1;
      }

  pub test_written : (to pointer : Register) → Writes (O.Test to pointer) to
  test_written to pointer e =
      let found = looked_to pointer state next (λ value. write to (Number (truth (not (is_null value)))) state) e in
      record {
        value = Number (truth (not (is_null found.0)));
        word = truth_word (not (state'.running.words pointer == 0));
        does = found.3;
        also = refl;
        stands = test_stands around state.objects memory placed keeps found.0 (state'.running.words pointer) (stand pointer found.0 found.1) found.2;
        inside = tt;
      }

  pub move_written : (to pointer : Register) (element : CType) (is_minus : Bool) (number : Tree) → Writes (O.Move to pointer element is_minus number) to
  move_written to pointer element is_minus number e =
      let looked = looked_to pointer state next (λ value. given (computes state.running.registers number) state (λ z.
      given (moved_pointer around state.objects element (if is_minus then neg_ℤ z else z) value) state (λ further. write to further state))) e in
      let amount = given_to (computes state.running.registers number) state next (λ z.
      given (moved_pointer around state.objects element (if is_minus then neg_ℤ z else z) looked.0) state (λ further. write to further state)) looked.3 in
      let moved = given_to (moved_pointer around state.objects element (if is_minus then neg_ℤ amount.0 else amount.0) looked.0) state next (λ further. write to further state) amount.2 in
      let size = size_of tac.structs element in
      let pointer_word = state'.running.words pointer in
      record {
        value = moved.0;
        word = if is_minus then moved_back pointer_word size (word_in state'.running.words number) else moved_by pointer_word size (word_in state'.running.words number);
        does = moved.2;
        also = refl;
        stands = subst (λ n. Stands state.objects memory moved.0 (if is_minus then moved_back pointer_word size n else moved_by pointer_word size n))
            (sym (tree_word state.objects memory state.running.registers state'.running.words stand number amount.0 amount.1))
            (move_stands around state.objects memory placed keeps element is_minus amount.0 looked.0 moved.0 pointer_word (stand pointer looked.0 looked.1) moved.1);
        inside = move_inside around state.objects memory placed keeps element (if is_minus then neg_ℤ amount.0 else amount.0) looked.0 moved.0 moved.1;
      }

  pub difference_written : (to : Register) (element : CType) (left right : Register) → Writes (O.Difference to element left right) to
  difference_written to element left right e =
      let first = given_to (state.running.registers left) state next (λ a. given (state.running.registers right) state (λ b. given (difference around state.objects element a b) state (λ value. write to value state))) e in
      let second = given_to (state.running.registers right) state next (λ b. given (difference around state.objects element first.0 b) state (λ value. write to value state)) first.2 in
      let found = given_to (difference around state.objects element first.0 second.0) state next (λ value. write to value state) second.2 in
      let x = state'.running.words left in
      let y = state'.running.words right in
      record {
        value = found.0;
        word = binary_word B.Div I.Long (binary_word B.Sub I.Long x y) (size_of tac.structs element);
        does = found.2;
        also = refl;
        stands = difference_stands around state.objects memory placed keeps element first.0 second.0 found.0 x y (stand left first.0 first.1) (stand right second.0 second.1)
            (inside left first.0 first.1) (inside right second.0 second.1) found.1;
        inside = difference_inside around state.objects memory placed keeps element first.0 second.0 found.0 found.1;
      }

  pub compare_written : (to : Register) (relation : Relation) (left right : Register) → Writes (O.ComparePointers to relation left right) to
  compare_written to relation left right e =
      let first = looked_to left state next (λ a. looked_at right state (λ b. given (truth_value (compared around state.objects relation a b)) state (λ value. write to value state))) e in
      let second = looked_to right state next (λ b. given (truth_value (compared around state.objects relation first.0 b)) state (λ value. write to value state)) first.3 in
      let found = given_to (truth_value (compared around state.objects relation first.0 second.0)) state next (λ value. write to value state) second.3 in
      let test = truth_some (compared around state.objects relation first.0 second.0) found.0 found.1 in
      let x = state'.running.words left in
      let y = state'.running.words right in
      record {
        value = Number (truth test.0);
        word = compared_word relation I.ULong x y;
        does = subst (λ v. write to v state ≡ To next) (sym test.2) found.2;
        also = refl;
        stands = compare_stands around state.objects memory placed keeps relation first.0 second.0 x y test.0 (stand left first.0 first.1) (stand right second.0 second.1) first.2 second.2
            (inside left first.0 first.1) (inside right second.0 second.1) test.1;
        inside = tt;
      }

  -- ---- paths

  module _ (bases : BasesStand tac own frame activation state.objects memory state'.running.start) where
    -- where an access or an address begins
    found_at : (path : Path) (reached : Reached) → leads around state.running.registers path ≡ Some reached → is_there (state.objects reached.object) ≡ true
        → reached.inner.offset ≤ extent_of tac.structs (state.objects reached.object) → Found tac own frame activation memory path state state'.running reached
    found_at path reached e there within =
        let led = path_leads tac own frame activation state.objects memory state.running.registers state'.running keeps stand bases path reached e there in
        let own_place = placed.there reached.object there in
        let same : led.0 ≡ own_place.0 = cc (sym led.1 ∙ own_place.1) in
        let most = own_place.3 in
        record {
          leads_to = e;
          there = there;
          inside = within;
          address = led.0;
          address_is = led.1;
          path_is = led.2.exact (omega (arith, most, within, same));
        }

    pub address_written : (to : Register) (path : Path) → Writes (O.AddressOf to path) to
    address_written to path e =
        let found = given_to (leads around state.running.registers path) state next (address around to state) e in
        let reached = found.0 in
        let placed_there = unless_to (is_place tac.structs state.objects reached.object reached.inner.offset) state next (write to (Address reached.object reached.inner.offset) state) found.2 in
        let parts = place_parts around state.objects reached.object reached.inner.offset placed_there.0 in
        let at = found_at path reached found.1 parts.0 parts.1 in
        record {
          value = Address reached.object reached.inner.offset;
          word = path_address state'.running (path_of tac own frame path);
          does = placed_there.1;
          also = refl;
          stands = λ there. place_at memory keeps reached.object reached.inner.offset at.address (path_address state'.running (path_of tac own frame path)) at.address_is at.path_is;
          inside = λ there. parts.1;
        }

    -- a load reads a scalar that stands in an object
    pub load_found : (to : Register) (scalar : CType) (path : Path) → execute tac (around_in tac own activation) (O.Load to scalar path) state ≡ To next
        → (reached : Reached) × (value : Value) × Found tac own frame activation memory path state state'.running reached × (stands_at tac.structs scalar reached.inner.offset (state.objects reached.object) ≡ true)
        × (held_at reached.inner.offset (state.objects reached.object) ≡ Some value) × (fits scalar value ≡ true) × (write to value (emit (access ReadFrom reached.object) state) ≡ To next)
    load_found to scalar path e =
        let found = given_to (leads around state.running.registers path) state next (load around to scalar state) e in
        let reached = found.0 in
        let content = state.objects reached.object in
        let leaf = unless_to (stands_at tac.structs scalar reached.inner.offset content) state next
        (given (held_at reached.inner.offset content) state (λ value. unless_lost (fits scalar value) state (write to value (emit (access ReadFrom reached.object) state)))) found.2 in
        let held = given_to (held_at reached.inner.offset content) state next (λ value. unless_lost (fits scalar value) state (write to value (emit (access ReadFrom reached.object) state))) leaf.1 in
        let fit = unless_to (fits scalar held.0) state next (write to held.0 (emit (access ReadFrom reached.object) state)) held.2 in
        let parts = scalar_inside around scalar reached.inner.offset content leaf.0 in
        let less = parts.1 in
        (reached, held.0, found_at path reached found.1 parts.0 (omega (arith, less)), leaf.0, held.1, fit.0, fit.1)

    -- a store writes one
    pub store_found : (path : Path) (scalar : CType) (operand : Operand) → execute tac (around_in tac own activation) (O.Store path scalar operand) state ≡ To next
        → (reached : Reached) × (value : Value) × Found tac own frame activation memory path state state'.running reached × (stands_at tac.structs scalar reached.inner.offset (state.objects reached.object) ≡ true)
        × (value_of state.running.registers operand ≡ Some value) × Stands state.objects memory value (operand_word state'.running.words operand)
        × (go_on (emit (access WroteTo reached.object) (store_content reached.object (holding reached.inner.offset value (state.objects reached.object)) state)) ≡ To next)
    store_found path scalar operand e =
        let stored = given_to (value_of state.running.registers operand) state next (λ value. given (leads around state.running.registers path) state (store around scalar value state)) e in
        let found = given_to (leads around state.running.registers path) state next (store around scalar stored.0 state) stored.2 in
        let reached = found.0 in
        let content = state.objects reached.object in
        let leaf = unless_to (stands_at tac.structs scalar reached.inner.offset content) state next
        (go_on (emit (access WroteTo reached.object) (store_content reached.object (holding reached.inner.offset stored.0 content) state))) found.2 in
        let parts = scalar_inside around scalar reached.inner.offset content leaf.0 in
        let less = parts.1 in (
          reached,
          stored.0,
          found_at path reached found.1 parts.0 (omega (arith, less)),
          leaf.0,
          stored.1,
          operand_stands state.objects memory state.running.registers state'.running.words operand stored.0 stand stored.1,
          leaf.1,
        )

  -- ---- allocations that get a type

  -- a pointer is converted: the word stays, while an allocation may get a type
  pub repoint_written : (to : Register) (target : CType) (from : Register) → execute tac (around_in tac own activation) (O.Repoint to target from) state ≡ To next
      → (objects : Objects) × (value : Value) × Lasts tac.structs state.objects objects × (write to value (record state { objects = objects }) ≡ To next)
      × (state.running.registers from ≡ Some value) × (M.execute code (op_of tac plan own frame (O.Repoint to target from)) state' ≡ P.write code to (state'.running.words from) state')
      × Stands objects memory value (state'.running.words from) × IsInside tac.structs objects value
  repoint_written to target from e =
      let looked = looked_to from state next (λ value. repoint around target to value state) e in
      let done = by looked.0 looked.3 in (
        done.0,
        looked.0,
        done.1,
        done.2,
        looked.1,
        refl,
        stands_lasts tac.structs state.objects done.0 done.1 memory looked.0 (state'.running.words from) (stand from looked.0 looked.1),
        inside_lasts tac.structs state.objects done.0 done.1 looked.0 (inside from looked.0 looked.1),
      )
    where
      by : (value : Value) → repoint (around_in tac own activation) target to value state ≡ To next → (objects : Objects) × Lasts tac.structs state.objects objects × (write to value (record state { objects = objects }) ≡ To next)
      by (Address object offset) e =
          let typed = given_to (typed_content (around_in tac own activation) target (state.objects object)) state next (λ content. write to (Address object offset) (store_content object content state)) e in
          (with_content object typed.0 state.objects, lasts_typed (around_in tac own activation) state.objects target object typed.0 typed.1, typed.2)
      by (Number z) e = (state.objects, lasts_same tac.structs state.objects, e)
      by NoAddress e = (state.objects, lasts_same tac.structs state.objects, e)
      by (Code function) e = (state.objects, lasts_same tac.structs state.objects, e)

  -- ---- branches, and bytes

  -- a branch goes to the same point
  pub branch_goes : (int_type : IntType) (condition : Tree) (holds fails : ℕ) → execute tac (around_in tac own activation) (O.Branch int_type condition holds fails) state ≡ To next
      → (to : ℕ) × (go_to to state ≡ To next) × (M.execute code (op_of tac plan own frame (O.Branch int_type condition holds fails)) state' ≡ P.go_to code to state')
  branch_goes int_type condition holds fails e =
      let found = given_to (computes state.running.registers condition) state next (λ z. unless_lost (is_value int_type z) state (if is_zero z then go_to fails state else go_to holds state)) e in
      let fits = unless_to (is_value int_type found.0) state next (if is_zero found.0 then go_to fails state else go_to holds state) found.2 in
      let same = branch_stands state.objects memory state.running.registers state'.running.words int_type condition found.0 stand found.1 fits.0 in
      (if is_zero found.0 then fails else holds, by (is_zero found.0) fits.1, ap (λ (b : Bool). P.go_to code (if b then fails else holds) state') same)
    where
      by : (b : Bool) → (if b then go_to fails state else go_to holds state) ≡ To next → go_to (if b then fails else holds) state ≡ To next
      by true e = e
      by false e = e

  -- a byte is written to the output
  pub put_char_found : (site : ℕ) (tree : Tree) → execute tac (around_in tac own activation) (O.PutChar site tree) state ≡ To next
      → (z : ℤ) × (computes state.running.registers tree ≡ Some z) × (write (Registers.Call site) (Number (pos (bits_of I.UChar z))) (emit (Wrote (bits_of I.UChar z) ∷ []) state) ≡ To next)
      × (word_in state'.running.words tree % 256 ≡ bits_of I.UChar z) × Stands state.objects memory (Number (pos (bits_of I.UChar z))) (word_in state'.running.words tree % 256)
  put_char_found site tree e =
      let found = given_to (computes state.running.registers tree) state next (λ z. write (Registers.Call site) (Number (pos (bits_of I.UChar z))) (emit (Wrote (bits_of I.UChar z) ∷ []) state)) e in
      let byte = byte_stands state.objects memory state.running.registers state'.running.words tree found.0 stand found.1 in
      (found.0, found.1, found.2, byte, byte ∙ sym (word-of_byte found.0) ∙ sym (word_of-value (pos (bits_of I.UChar found.0))))

-- what getchar gives
pub char_stands : (objects : Objects) (memory : MemoryMap) (input : List ℕ) → Stands objects memory (Number (next_char input)) (input_word input)
char_stands objects memory input = input_word-next input ∙ sym (word_of-value (next_char input))

-- ---- calls

-- the word of a function names it
pub named_stands : (function : ℕ) → M.named_by (M.function_word function) ≡ Some function
named_stands function = by (nat_le (2 ^ 48 + 1) (M.function_word function)) refl
  where
    by : (b : Bool) → nat_le (2 ^ 48 + 1) (M.function_word function) ≡ b → (if b then Some (M.function_word function - (2 ^ 48 + 1)) else None) ≡ Some function
    by true e = ap Some (omega arith)
    by false e = absurd (let less : M.function_word function < 2 ^ 48 + 1 = leb-false (2 ^ 48 + 1) (M.function_word function) e in omega (arith, less))

-- the words of arguments, one by one
pub data AllStand (objects : Objects) (memory : MemoryMap) : List Value → List ℕ → Type 0 where
  none : AllStand objects memory [] []
  more : (value : Value) (word : ℕ) (values : List Value) (words : List ℕ) → Stands objects memory value word → AllStand objects memory values words → AllStand objects memory (value ∷ values) (word ∷ words)

pub arguments_stand : (objects : Objects) (memory : MemoryMap) (registers : Registers) (words : Words) (arguments : List Register) (values : List Value) → WordsStand objects memory registers words
    → all_held registers arguments ≡ Some values → AllStand objects memory values (map words arguments)
arguments_stand objects memory registers words [] values stand e = let same : [] ≡ values = cc in subst (λ v. AllStand objects memory v []) same none
arguments_stand objects memory registers words (first ∷ others) values stand e =
    by (registers first) (all_held registers others) refl e (λ rest is. arguments_stand objects memory registers words others rest stand is)
  where
    both : Option Value → Option (List Value) → Option (List Value)
    both (Some value) (Some values) = Some (value ∷ values)
    both _ _ = None

    by : (held : Option Value) (rest : Option (List Value)) → registers first ≡ held → both held rest ≡ Some values → ((found : List Value) → rest ≡ Some found → AllStand objects memory found (map words others))
        → AllStand objects memory values (words first ∷ map words others)
    by (Some value) (Some found) is e stand_rest =
        let same : value ∷ found ≡ values = cc in
        subst (λ v. AllStand objects memory v (words first ∷ map words others)) same (more value (words first) found (map words others) (stand first value is) (stand_rest found refl))
    by (Some value) None is e stand_rest = absurd (cc)
    by None rest is e stand_rest = absurd (cc)
