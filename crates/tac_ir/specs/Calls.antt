-- Calls and the library (C17 6.5.2.2, 6.8.6.4, 7.21.7, 7.22.3).
use Rattle.std.specs.Prelude.{ℕ, zero, suc, ◌==◌, nat_lt, Bool, false, if◌then◌else◌, List, [], ◌∷◌, ◌++◌, length, slice_get, Option, Some, None, ℤ, pos, negsuc}
use Rattle.run_theory.specs.Runs.{DepthReached, Move, To, Halt}
use Rattle.c_num.specs.declared.IntType.TheVariants as I
use Rattle.c_num.specs.Conversion.{bits_of}
use Rattle.c_typed.specs.Types.{CType, same_type}
use Rattle.tac_ir.specs.declared.register.Local.TheVariants as L
use Rattle.tac_ir.specs.declared.register.Register.{Register}
use Rattle.tac_ir.specs.declared.register.Register.TheVariants as Registers
use Rattle.tac_ir.specs.Values.{OfHeap, OfActivation, Value, NoAddress, Code, Address, Absent, Untyped, Typed, Objects, with_content}
use Rattle.tac_ir.specs.Events.{Entered, Left, Made, Released}
use Rattle.tac_ir.specs.Trees.{Registers, no_registers, with_register}
use Rattle.tac_ir.specs.Objects.{Surroundings, is_there}
use Rattle.tac_ir.specs.States.{InFunction, Activation, State, lost, go_on, write, emit, store_content, unless_lost}
use Rattle.tac_ir.specs.Code.{Callee, Known, Through, LocalObject, Function, Tac}

-- ---- calls

-- the objects of an activation, which hold nothing yet
abbrev pub opened : Surroundings → ℕ → List LocalObject → Objects → Objects
opened around activation [] objects = objects
opened around activation (first ∷ others) objects =
    with_content (OfActivation activation first.local) (Typed first.c_type 1 (λ offset. None)) (opened around activation others objects)

-- an activation's objects are there no more
abbrev pub closed : ℕ → Objects → Objects
closed activation objects (OfActivation number local) = if number == activation then Absent else objects (OfActivation number local)
closed activation objects object = objects object

-- what registers hold, of which each has to hold something
abbrev pub all_held : Registers → List Register → Option (List Value)
all_held registers [] = Some []
all_held registers (first ∷ others) = by (registers first) (all_held registers others)
  where
    by : Option Value → Option (List Value) → Option (List Value)
    by (Some value) (Some values) = Some (value ∷ values)
    by _ _ = None

-- the arguments in the registers of the parameters
abbrev pub parameters_from : ℕ → List Value → Registers
parameters_from number [] = no_registers
parameters_from number (value ∷ values) = with_register (Registers.Local (L.Parameter number)) (Some value) (parameters_from (suc number) values)

-- calls nest so deep at most (this project's rule)
unfoldable pub greatest_depth : ℕ
greatest_depth = 10000

abbrev pub enter : Surroundings → ℕ → ℕ → Function → List Value → State → State
enter around site number function values state =
    record state {
      running = record { owner = InFunction number; number = state.next_activation; registers = parameters_from 0 values; at = 0 };
      callers = (site, state.running) ∷ state.callers;
      objects = opened around state.next_activation function.objects state.objects;
      next_activation = suc state.next_activation;
      trace = state.trace ++ Entered site number ∷ [];
      paid = 0;
    }

-- `start` waits for the first call, which is of `main`
abbrev pub call : Surroundings → ℕ → ℕ → Option Function → List Value → State → Move State
call around site number None values state = lost state
call around site number (Some function) values state =
    unless_lost (length values == function.parameters) state
    (if nat_lt (length state.callers) greatest_depth then To (enter around site number function values state) else Halt DepthReached state)

abbrev pub has_type : CType → Surroundings → Option Function → Bool
has_type c_type around None = false
has_type c_type around (Some function) = same_type (function.c_type) c_type

-- the function that is called, where it is one of the type
abbrev pub called : Tac → Surroundings → Registers → Callee → Option ℕ
called tac around registers (Known function) = Some function
called tac around registers (Through pointer c_type) = by (registers pointer)
  where
    by : Option Value → Option ℕ
    by (Some (Code number)) = if has_type c_type around (slice_get tac.functions number) then Some number else None
    by _ = None

-- what a function gives, to the register of the call, behind which its caller goes on
abbrev pub leave : Option Value → State → Move State
leave value state = by state.callers
  where
    by : List (ℕ × Activation) → Move State
    by [] = lost state
    by ((site, caller) ∷ callers) =
        go_on (record state {
          running = record caller { registers = with_register (Registers.Call site) value caller.registers };
          callers = callers;
          objects = closed state.running.number state.objects;
          trace = state.trace ++ Left ∷ [];
        })

-- ---- the library

-- what getchar gives: the next byte as an unsigned char, or -1 at the end of the input (C17 7.21.7.6)
abbrev pub next_char : List ℕ → ℤ
next_char [] = negsuc 0
next_char (byte ∷ input) = pos (bits_of I.UChar (pos byte))

abbrev pub after_next : List ℕ → List ℕ
after_next [] = []
after_next (byte ∷ input) = input

abbrev pub allocate : ℕ → ℕ → State → Move State
allocate site zero state = write (Registers.Call site) NoAddress state
allocate site (suc size) state =
    write (Registers.Call site) (Address (OfHeap state.next_heap) 0)
    (emit (Made site state.next_heap (suc size) ∷ []) (store_content (OfHeap state.next_heap) (Untyped (suc size)) (record state { next_heap = suc state.next_heap })))

abbrev pub natural_of : ℤ → ℕ
natural_of (pos n) = n
natural_of (negsuc n) = 0

-- no more than the beginning of a living allocation is freed
abbrev pub free : ℕ → Value → State → Move State
free site NoAddress state = go_on state
free site (Address (OfHeap number) zero) state =
    unless_lost (is_there (state.objects (OfHeap number))) state (go_on (emit (Released site number ∷ []) (store_content (OfHeap number) Absent state)))
free site value state = lost state
