-- What the functions of the library come to.
use Rattle.std.proofs.Common.{◌≡◌, ℕ, zero, suc, ◌≤◌, ◌<◌, List, [], ◌∷◌, ◌++◌, length, map, take, reverse, Option, Some, None, Result, Ok, Err, ℤ, pos, refl, sym, ap, subst, ◌∙◌, arith, append_assoc}
use Rattle.std.proofs.lemmas.List.{length-reverse}
use Rattle.std.proofs.lemmas.Option.{none-some, same_Some}
use Rattle.std.specs.Result.{IsErrAnd}
use Rattle.run_theory.specs.declared.place.Pos.{Pos}
use Rattle.run_theory.specs.Runs.{Output, output_of}
use Rattle.run_theory.proofs.Traces.{output_of-append}
use Rattle.pcc_outside.specs.Outside.{Adds}
use Rattle.c_typed.specs.declared.typed.LibraryFunction.{LibraryFunction}
use Rattle.c_typed.specs.declared.typed.LibraryFunction.TheVariants as L
use Rattle.c_typed.specs.Table.{Interned}
use Rattle.ref_semantics.specs.Values.{Scalar, IntegerValue, NullValue}
use Rattle.ref_semantics.specs.Store.{TypeEnvironment, State, Then, Eval, give}
use Rattle.ref_semantics.specs.Library.{next_byte, written, library}
use Rattle.ref_meaning.specs.declared.store.Store.{Store}
use Rattle.ref_meaning.specs.declared.value.Scalar as memory_scalar
use Rattle.ref_meaning.specs.declared.value.Scalar.TheVariants as M
use Rattle.ref_meaning.specs.declared.value.Stop.{Stop}
use Rattle.ref_meaning.specs.declared.value.Stop.TheVariants as T
use Rattle.ref_meaning.specs.RefStore.Views.{scalar_in}
use Rattle.ref_meaning.specs.RefStore.Holding.{At, CallGives, left}
use Rattle.ref_meaning.specs.declared.run.RefRun.{RefRun}
use Rattle.ref_meaning.specs.declared.run.Halt.{Halt}
use Rattle.ref_meaning.specs.Views.{table_of, around_run, newest}
use Rattle.ref_meaning.specs.Moving.{IsNext, IsTold, halt_of}
use Rattle.ref_meaning.specs.Calling.{only_of, ComesTold, Evaluates, Remains}

-- ---- arguments

pub only-is : (given : List Scalar) (a : Scalar) → only_of given ≡ Some a → given ≡ a ∷ []
only-is [] a e = absurd (none-some a e)
only-is (first ∷ []) a e = ap (λ x. x ∷ []) (same_Some first a e)
only-is (first ∷ (second ∷ others)) a e = absurd (none-some a e)

pub several-only : (given : List Scalar) → (length given ≡ 1 → ⊥) → None ≡ only_of given
several-only [] several = refl
several-only (first ∷ []) several = absurd (several refl)
several-only (first ∷ (second ∷ others)) several = refl

length-mapped : {X Y : Type 0} (f : X → Y) (items : List X) → length (map f items) ≡ length items
length-mapped f [] = refl
length-mapped f (first ∷ others) = omega (arith, length-mapped f others)

length-taken : {X : Type 0} (count : ℕ) (items : List X) → count ≤ length items → length (take count items) ≡ count
length-taken zero items there = refl
length-taken (suc n) [] there = absurd (omega (arith, there))
length-taken (suc n) (first ∷ others) there = omega (arith, length-taken n others (omega (arith, there)))

pub length-newest : (table : Interned) (count : ℕ) (operands : List memory_scalar.Scalar) → count ≤ length operands → length (newest table count operands) ≡ count
length-newest table count operands there =
    length-mapped (scalar_in table) (reverse (take count operands)) ∙ (length-reverse (take count operands) ∙ length-taken count operands there)

-- ---- what reads and writes nothing

told-still : (base input : List ℕ) (old new : State) (is_left told : Option (List ℕ)) → IsTold base input old is_left told → output_of new.trace ≡ output_of old.trace → IsTold base input new is_left told
told-still base input old new is_left told so quiet = (so.0, so.1 ∙ ap (λ bytes. Some (base ++ bytes)) (sym quiet))

pub null-evaluates : (old : RefRun) (eval : Eval Scalar) (is_left told : Option (List ℕ)) → eval ≡ give NullValue → Evaluates old old eval (Ok M.Null) is_left told is_left told
null-evaluates old eval is_left told is =
    subst (λ (e : Eval Scalar). Evaluates old old e (Ok M.Null) is_left told is_left told) (sym is)
    (λ base input state at so. record { after = state; rest = input; does = λ units. refl; at = at; told = so })

-- a call on the store
pub gives-evaluates : {B : Type 0} (old : RefRun) (mid : Store) (view : B → Scalar) (eval : Eval Scalar) (is_left told : Option (List ℕ)) (done : B) (value : memory_scalar.Scalar) → view done ≡ scalar_in (table_of old) value
    → CallGives (around_run old) old.store mid old.base view eval (Ok done) → Evaluates old (record old { store = mid }) eval (Ok value) is_left told is_left told
gives-evaluates old mid view eval is_left told done value is gives = λ base input state at so.
    let comes = gives state at in
    record {
      after = comes.after;
      rest = input;
      does = λ units. comes.does units input ∙ ap (λ a. Then a (left units input comes.after)) is;
      at = comes.at;
      told = told-still base input state comes.after is_left told so comes.quiet;
    }

pub gives-remains : {B : Type 0} (old : RefRun) (mid : Store) (view : B → Scalar) (eval : Eval Scalar) (done : B) → CallGives (around_run old) old.store mid old.base view eval (Ok done) → Remains old (record old { store = mid })
gives-remains old mid view eval done gives = λ state at. ((gives state at).after, (gives state at).at)

pub stops-evaluates : {B : Type 0} (old : RefRun) (mid : Store) (view : B → Scalar) (eval : Eval Scalar) (is_left told : Option (List ℕ)) (stop : Stop) (result : Result memory_scalar.Scalar Halt) → IsErrAnd result (λ e. e ≡ halt_of stop)
    → CallGives (around_run old) old.store mid old.base view eval (Err stop) → Evaluates old (record old { store = mid }) eval result is_left told is_left told
stops-evaluates old mid view eval is_left told stop (Ok value) same gives = absurd same
stops-evaluates {B = B} old mid view eval is_left told stop (Err halt) same gives =
    subst (λ (h : Halt). Evaluates old (record old { store = mid }) eval (Err h) is_left told is_left told) (sym same) (by stop gives)
  where
    by : (s : Stop) → CallGives {B = B} (around_run old) old.store mid old.base view eval (Err s) → Evaluates old (record old { store = mid }) eval (Err (halt_of s)) is_left told is_left told
    by (T.Undefined kind place) gives = λ base input state at so.
        let is = gives state at in
        record { there = is.there; rest = input; is = λ units. is.is units input; told = told-still base input state is.there is_left told so is.quiet }
    by T.OutOfMemory gives = record { at = gives; unread = refl; unwritten = refl }

-- ---- `putchar`

abbrev behind : State → ℕ → State
behind state byte = record state { trace = state.trace ++ (Output byte ∷ []) }

pub written-evaluates : (old : RefRun) (byte : ℕ) (value : ℤ) (is_left told told' : Option (List ℕ)) → value ≡ pos byte → Adds told (byte ∷ []) told' → Evaluates old old (written byte) (Ok (M.Integer value)) is_left told is_left told'
written-evaluates old byte value is_left told told' is adds = λ base input state at so. record {
  after = behind state byte;
  rest = input;
  does = λ units. ap (λ z. Then (IntegerValue z) (left units input (behind state byte))) (sym is);
  at = record { structs = at.structs; completed = at.completed; objects = at.objects; locals = at.locals; next_local = at.next_local; next_heap = at.next_heap };
  told = (so.0, more base state so.1);
}
  where
    more : (base : List ℕ) (state : State) → told ≡ Some (base ++ output_of state.trace) → told' ≡ Some (base ++ output_of (state.trace ++ (Output byte ∷ [])))
    more base state so =
        subst (λ t. Adds t (byte ∷ []) told') so adds
        ∙ ap Some (append_assoc base (output_of state.trace) (byte ∷ []) ∙ ap (λ bytes. base ++ bytes) (sym (output_of-append state.trace (Output byte ∷ []))))

-- ---- `getchar`

next-comes : (old : RefRun) (value : ℤ) (is_left told : Option (List ℕ)) (base input : List ℕ) (state : State) → At (around_run old) old.store old.base state → told ≡ Some (base ++ output_of state.trace) → IsNext input value is_left
    → ComesTold old old next_byte base input state (IntegerValue value) is_left told
next-comes old value is_left told base [] state at so next =
    record { after = state; rest = []; does = λ units. ap (λ z. Then (IntegerValue z) (left units [] state)) (sym next.0); at = at; told = (next.1, so) }
next-comes old value is_left told base (byte ∷ rest) state at so next =
    record { after = state; rest = rest; does = λ units. ap (λ z. Then (IntegerValue z) (left units rest state)) (sym next.0); at = at; told = (next.1, so) }

pub next-evaluates : (old : RefRun) (read value : ℤ) (is_left is_left' told : Option (List ℕ)) → value ≡ read → ((there : List ℕ) → is_left ≡ Some there → IsNext there read is_left')
    → Evaluates old old next_byte (Ok (M.Integer value)) is_left told is_left' told
next-evaluates old read value is_left is_left' told is next = λ base input state at so.
    subst (λ z. ComesTold old old next_byte base input state (IntegerValue z) is_left' told) (sym is) (next-comes old read is_left' told base input state at so.1 (next input so.0))

-- ---- without an only argument

pub without-null : (around : TypeEnvironment) (function : LibraryFunction) (here : Pos) (given : List Scalar) → (function ≡ L.GetChar → ⊥) → only_of given ≡ None → library around function here given ≡ give NullValue
without-null around L.Malloc here [] other none = refl
without-null around L.Malloc here (a ∷ []) other none = absurd (none-some a (sym none))
without-null around L.Malloc here (a ∷ (b ∷ others)) other none = refl
without-null around L.Free here [] other none = refl
without-null around L.Free here (a ∷ []) other none = absurd (none-some a (sym none))
without-null around L.Free here (a ∷ (b ∷ others)) other none = refl
without-null around L.PutChar here [] other none = refl
without-null around L.PutChar here (a ∷ []) other none = absurd (none-some a (sym none))
without-null around L.PutChar here (a ∷ (b ∷ others)) other none = refl
without-null around L.Exit here [] other none = refl
without-null around L.Exit here (a ∷ []) other none = absurd (none-some a (sym none))
without-null around L.Exit here (a ∷ (b ∷ others)) other none = refl
without-null around L.GetChar here given other none = absurd (other refl)

pub several-null : (around : TypeEnvironment) (here : Pos) (given : List Scalar) → 0 < length given → library around L.GetChar here given ≡ give NullValue
several-null around here [] some = absurd (omega (arith, some))
several-null around here (a ∷ others) some = refl

pub none-next : (around : TypeEnvironment) (here : Pos) (given : List Scalar) → length given ≡ 0 → library around L.GetChar here given ≡ next_byte
none-next around here [] none = refl
none-next around here (a ∷ others) none = absurd (omega (arith, none))
