-- Counts of a group are the same where the same is told of the functions outside to which its calls may come.
use Rattle.std.proofs.Common.{◌≡◌, ℕ, zero, suc, ◌+◌, ◌<◌, ◌||◌, ◌&&◌, Bool, true, false, cond, List, [], ◌∷◌, length, Some, refl, sym, ap, ◌∙◌, arith}
use Rattle.std.specs.Prelude.{slice_get}
use Rattle.std.specs.List.{list_any}
use Rattle.tac_ir.specs.declared.register.Register.{Register}
use Rattle.tac_ir.specs.Code as O
use Rattle.tac_ir.specs.Code.{Base, Callee, Op, Tac}
use Rattle.tac_ir.specs.States.{Owner, InStart, function_of, points_of}
use Rattle.tac_ir.specs.Targets.{is_target}
use Rattle.heap_graph.specs.Graphs.{Name, OfGlobal, OfLiteral}
use Rattle.dsa_local.specs.Mentioned.{op_begins, is_global, is_literal}
use Rattle.dsa_inlining.specs.Counting.{count_below, total, any_below, Outside, comes_out, copies_to, copies_of, call_tells, mentions, is_mentioned, copies_in, globals_counted, literals_counted, group_count, start_count, first_global, first_literal}

-- ---- lists

pub total_same : {X : Type 0} (of other : X → ℕ) (xs : List X) → ((at : ℕ) (x : X) → slice_get xs at ≡ Some x → of x ≡ other x) → total of xs ≡ total other xs
total_same of other [] same = refl
total_same of other (x ∷ xs) same = λ i. same 0 x refl i + total_same of other xs (λ at y is. same (suc at) y is) i

pub any_same : {X : Type 0} (test other : X → Bool) (xs : List X) → ((at : ℕ) (x : X) → slice_get xs at ≡ Some x → test x ≡ other x) → list_any test xs ≡ list_any other xs
any_same test other [] same = refl
any_same test other (x ∷ xs) same = λ i. same 0 x refl i || any_same test other xs (λ at y is. same (suc at) y is) i

pub count_same : (count : ℕ) (test other : ℕ → Bool) → ((number : ℕ) → test number ≡ other number) → count_below count test ≡ count_below count other
count_same zero test other same = refl
count_same (suc count) test other same = λ i. cond (same count i) (suc (count_same count test other same i)) (count_same count test other same i)

any_below_same : (count : ℕ) (test other : ℕ → Bool) → ((number : ℕ) → number < count → test number ≡ other number) → any_below count test ≡ any_below count other
any_below_same zero test other same = refl
any_below_same (suc count) test other same = λ i. same count (omega arith) i || any_below_same count test other (λ number less. same number (omega (arith, less))) i

-- ---- what is told of functions outside

-- of those to which a call may come
pub record CallAgrees (tac : Tac) (one two : Outside) (callee : Callee) : Type 0 where
  pub is_out : (called : ℕ) → called < length tac.functions → one.is_out called ≡ two.is_out called
  pub escaping : (called : ℕ) → called < length tac.functions → comes_out tac one callee called ≡ true → one.escaping called ≡ two.escaping called
  pub globals : (called place : ℕ) → called < length tac.functions → comes_out tac one callee called ≡ true → one.tells called (OfGlobal place) ≡ two.tells called (OfGlobal place)
  pub literals : (called place : ℕ) → called < length tac.functions → comes_out tac one callee called ≡ true → one.tells called (OfLiteral place) ≡ two.tells called (OfLiteral place)

-- so it is of the calls of these owners
abbrev pub OwnersAgree : Tac → Outside → Outside → List Owner → Type 0
OwnersAgree tac one two owners =
    (place : ℕ) (owner : Owner) → slice_get owners place ≡ Some owner → (at site : ℕ) (callee : Callee) (arguments : List Register) → slice_get (points_of (function_of tac owner)) at ≡ Some (O.Call site callee arguments)
    → CallAgrees tac one two callee

module _ (tac : Tac) (one two : Outside) where
  comes_same : (callee : Callee) → CallAgrees tac one two callee → (called : ℕ) → called < length tac.functions → comes_out tac one callee called ≡ comes_out tac two callee called
  comes_same callee agrees called less = ap (λ b. is_target tac callee called && b) (agrees.is_out called less)

  copies_same : (callee : Callee) → CallAgrees tac one two callee → (count : ℕ) → ((called : ℕ) → called < count → called < length tac.functions) → copies_to tac one count callee ≡ copies_to tac two count callee
  copies_same callee agrees zero within = refl
  copies_same callee agrees (suc count) within =
      λ i. here (comes_out tac one callee count) refl i + copies_same callee agrees count (λ called less. within called (omega (arith, less))) i
    where
      here : (b : Bool) → comes_out tac one callee count ≡ b → cond (comes_out tac one callee count) (one.escaping count) 0 ≡ cond (comes_out tac two callee count) (two.escaping count) 0
      here true e =
          (λ i. cond (comes_same callee agrees count (within count (omega arith)) i) (agrees.escaping count (within count (omega arith)) e i) 0)
      here false e =
          ap (λ b. cond b (one.escaping count) 0) e ∙ sym (ap (λ b. cond b (two.escaping count) 0) (sym (comes_same callee agrees count (within count (omega arith))) ∙ e))

  tells_same : (callee : Callee) → CallAgrees tac one two callee → (name : Name) → ((called : ℕ) → called < length tac.functions → comes_out tac one callee called ≡ true → one.tells called name ≡ two.tells called name)
      → any_below (length tac.functions) (λ number. comes_out tac one callee number && one.tells number name) ≡ any_below (length tac.functions) (λ number. comes_out tac two callee number && two.tells number name)
  tells_same callee agrees name same =
      any_below_same (length tac.functions) (λ number. comes_out tac one callee number && one.tells number name) (λ number. comes_out tac two callee number && two.tells number name)
      (λ called less. by called less (comes_out tac one callee called) refl)
    where
      by : (called : ℕ) → called < length tac.functions → (b : Bool) → comes_out tac one callee called ≡ b → (comes_out tac one callee called && one.tells called name) ≡ (comes_out tac two callee called && two.tells called name)
      by called less true e = λ i. comes_same callee agrees called less i && same called less e i
      by called less false e = ap (λ b. b && one.tells called name) e ∙ sym (ap (λ b. b && two.tells called name) (sym (comes_same callee agrees called less) ∙ e))

  -- ---- points

  abbrev OpAgrees : Op → Type 0
  OpAgrees op = (site : ℕ) (callee : Callee) (arguments : List Register) → op ≡ O.Call site callee arguments → CallAgrees tac one two callee

  copies_of_same : (op : Op) → OpAgrees op → copies_of tac one op ≡ copies_of tac two op
  copies_of_same (O.Call site callee arguments) agrees = copies_same callee (agrees site callee arguments refl) (length tac.functions) (λ called less. less)
  copies_of_same O.Reserved agrees = refl
  copies_of_same (O.Jump to) agrees = refl
  copies_of_same (O.Branch int_type condition holds fails) agrees = refl
  copies_of_same (O.Assign to tree) agrees = refl
  copies_of_same (O.Null to) agrees = refl
  copies_of_same (O.FunctionAddress to function) agrees = refl
  copies_of_same (O.Copy to from) agrees = refl
  copies_of_same (O.Test to pointer) agrees = refl
  copies_of_same (O.Move to pointer element is_minus number) agrees = refl
  copies_of_same (O.Difference to element left right) agrees = refl
  copies_of_same (O.ComparePointers to relation left right) agrees = refl
  copies_of_same (O.Repoint to target from) agrees = refl
  copies_of_same (O.AddressOf to path) agrees = refl
  copies_of_same (O.Load to scalar path) agrees = refl
  copies_of_same (O.Store path scalar value) agrees = refl
  copies_of_same (O.Allocate site size) agrees = refl
  copies_of_same (O.Free site pointer) agrees = refl
  copies_of_same (O.GetChar site) agrees = refl
  copies_of_same (O.PutChar site value) agrees = refl
  copies_of_same (O.Exit status) agrees = refl
  copies_of_same (O.Return value) agrees = refl

  -- a name that calls tell of
  abbrev IsStatic : Name → Type 0
  IsStatic name = (callee : Callee) → CallAgrees tac one two callee → (called : ℕ) → called < length tac.functions → comes_out tac one callee called ≡ true → one.tells called name ≡ two.tells called name

  global_static : (number : ℕ) → IsStatic (OfGlobal number)
  global_static number callee agrees called less comes = agrees.globals called number less comes

  literal_static : (number : ℕ) → IsStatic (OfLiteral number)
  literal_static number callee agrees called less comes = agrees.literals called number less comes

  call_tells_same : (name : Name) → IsStatic name → (op : Op) → OpAgrees op → call_tells tac one name op ≡ call_tells tac two name op
  call_tells_same name static (O.Call site callee arguments) agrees = let its = agrees site callee arguments refl in tells_same callee its name (static callee its)
  call_tells_same name static O.Reserved agrees = refl
  call_tells_same name static (O.Jump to) agrees = refl
  call_tells_same name static (O.Branch int_type condition holds fails) agrees = refl
  call_tells_same name static (O.Assign to tree) agrees = refl
  call_tells_same name static (O.Null to) agrees = refl
  call_tells_same name static (O.FunctionAddress to function) agrees = refl
  call_tells_same name static (O.Copy to from) agrees = refl
  call_tells_same name static (O.Test to pointer) agrees = refl
  call_tells_same name static (O.Move to pointer element is_minus number) agrees = refl
  call_tells_same name static (O.Difference to element left right) agrees = refl
  call_tells_same name static (O.ComparePointers to relation left right) agrees = refl
  call_tells_same name static (O.Repoint to target from) agrees = refl
  call_tells_same name static (O.AddressOf to path) agrees = refl
  call_tells_same name static (O.Load to scalar path) agrees = refl
  call_tells_same name static (O.Store path scalar value) agrees = refl
  call_tells_same name static (O.Allocate site size) agrees = refl
  call_tells_same name static (O.Free site pointer) agrees = refl
  call_tells_same name static (O.GetChar site) agrees = refl
  call_tells_same name static (O.PutChar site value) agrees = refl
  call_tells_same name static (O.Exit status) agrees = refl
  call_tells_same name static (O.Return value) agrees = refl

  -- ---- owners

  module _ (owners : List Owner) (agree : OwnersAgree tac one two owners) where
    at_op : (place : ℕ) (owner : Owner) → slice_get owners place ≡ Some owner → (at : ℕ) (op : Op) → slice_get (points_of (function_of tac owner)) at ≡ Some op → OpAgrees op
    at_op place owner is at op there site callee arguments same = agree place owner is at site callee arguments (there ∙ ap Some same)

    copies_in_same : total (copies_in tac one) owners ≡ total (copies_in tac two) owners
    copies_in_same =
        total_same (copies_in tac one) (copies_in tac two) owners
        (λ place owner is. total_same (copies_of tac one) (copies_of tac two) (points_of (function_of tac owner)) (λ at op there. copies_of_same op (at_op place owner is at op there)))

    mentioned_same : (begins : Base → Bool) (name : Name) → IsStatic name → is_mentioned tac one begins name owners ≡ is_mentioned tac two begins name owners
    mentioned_same begins name static =
        any_same (λ owner. list_any (mentions tac one begins name) (points_of (function_of tac owner))) (λ owner. list_any (mentions tac two begins name) (points_of (function_of tac owner))) owners
        (λ place owner is.
        any_same (mentions tac one begins name) (mentions tac two begins name) (points_of (function_of tac owner))
        (λ at op there. ap (λ b. op_begins begins op || b) (call_tells_same name static op (at_op place owner is at op there))))

    globals_same : (beside : ℕ → Bool) → globals_counted tac one beside owners ≡ globals_counted tac two beside owners
    globals_same beside =
        count_same (length tac.globals) (λ number. beside number || is_mentioned tac one (is_global number) (OfGlobal number) owners) (λ number. beside number || is_mentioned tac two (is_global number) (OfGlobal number) owners)
        (λ number. ap (λ b. beside number || b) (mentioned_same (is_global number) (OfGlobal number) (global_static number)))

    literals_same : (beside : ℕ → Bool) → literals_counted tac one beside owners ≡ literals_counted tac two beside owners
    literals_same beside =
        count_same (length tac.literals) (λ number. beside number || is_mentioned tac one (is_literal number) (OfLiteral number) owners)
        (λ number. beside number || is_mentioned tac two (is_literal number) (OfLiteral number) owners)
        (λ number. ap (λ b. beside number || b) (mentioned_same (is_literal number) (OfLiteral number) (literal_static number)))

    pub group_count_same : (own : ℕ) → group_count tac one own owners ≡ group_count tac two own owners
    group_count_same own = λ i. own + (copies_in_same i + (globals_same (λ number. false) i + literals_same (λ number. false) i))

  pub start_count_same : OwnersAgree tac one two (InStart ∷ []) → (own : ℕ) → start_count tac one own ≡ start_count tac two own
  start_count_same agree own = λ i.
      own + (copies_in_same (InStart ∷ []) agree i + (globals_same (InStart ∷ []) agree (first_global tac) i + literals_same (InStart ∷ []) agree (first_literal tac) i))
