-- The first states are in step: the objects that live as long as the program stand in the globals, and nothing else is there yet; and so are
-- those after the actions at the entry of `start`.
use Rattle.std.proofs.Common.{◌≡◌, ℕ, ◌+◌, ◌-◌, ◌^◌, ◌<◌, ◌≤◌, true, List, [], ◌++◌, length, replicate, Option, Some, None, refl, ap, ◌∙◌, arith, append-nil}
use Rattle.std.specs.Prelude.{slice_get, option_map}
use Rattle.std.proofs.lemmas.Bool.{false≢true}
use Rattle.std.proofs.lemmas.List.{length-replicate}
use Rattle.std.proofs.lemmas.Option.{none-some}
use Rattle.run_theory.specs.Runs.{To}
use Rattle.c_typed.specs.Types.{literal_type}
use Rattle.c_typed.specs.Typed.{GlobalDef, LiteralDef}
use Rattle.slab_space.specs.Needs.{at_start}
use Rattle.tac_ir.specs.Values as V
use Rattle.tac_ir.specs.Values.{OfHeap, OfGlobal, OfLiteral, OfActivation, Value, Number, NoAddress, Code, Address}
use Rattle.tac_ir.specs.Objects.{is_there}
use Rattle.tac_ir.specs.First.{first_held, characters, global_content, literal_content, first_objects, initial}
use Rattle.tac_ir.specs.States as T
use Rattle.tac_ir.specs.States.{InStart}
use Rattle.tac_ir.specs.Code.{Tac}
use Rattle.tac_ir.proofs.Activations.{stacked_first}
use Rattle.pool_isa.specs.Machine.{globals_start}
use Rattle.pool_ir.specs.States as P
use Rattle.pool_ir.specs.Memory.{number_at}
use Rattle.pool_ir.specs.Meaning as M
use Rattle.pool_rewrite.specs.Plan.{Plan}
use Rattle.pool_rewrite.specs.Placing.{statics_size}
use Rattle.pool_rewrite.specs.Rewriting.{static_address, first_contents}
use Rattle.pool_simulation.specs.FirstValues.{IsInFirst, HasFirstValues, MapsStatics}
use Rattle.pool_simulation.specs.Placed.{IsInside}
use Rattle.pool_simulation.specs.InStep.{frame_for, address_in, memory_in, IsOld, IsOf, greatest_frame, Fits, InStep}
use Rattle.pool_simulation.proofs.FirstBytes.{read_at}
use Rattle.pool_simulation.proofs.LiteralBytes.{length-first_contents}
use Rattle.pool_simulation.proofs.FirstObjects.{IsStatic, IsNumbered, exact_by_fit, first_inside, first_static, first_numbered, contents_stand, globals_number}
use Rattle.pool_simulation.proofs.FrameRanges.{none_before}
use Rattle.pool_simulation.specs.Serving.{code_of, Serves}
use Rattle.pool_simulation.proofs.Locking.{Related}
use Rattle.pool_simulation.proofs.Actions.{with_pools, actions_done}

-- ---- what is there

-- a pointer into an object that lives as long as the program names one that was made before
static_old : (state : T.State) (value : Value) → IsStatic value → IsOld state value
static_old state (Number z) static = tt
static_old state NoAddress static = tt
static_old state (Code function) static = tt
static_old state (Address (OfHeap number) offset) static = absurd static
static_old state (Address (OfGlobal number) offset) static = tt
static_old state (Address (OfLiteral number) offset) static = tt
static_old state (Address (OfActivation activation local) offset) static = absurd static

inside_first : (tac : Tac) → length tac.functions < 2 ^ 47 → (value : Value) → IsInFirst tac value → IsNumbered tac value → IsInside tac.structs (first_objects tac) value
inside_first tac few (Number z) is numbered = tt
inside_first tac few NoAddress is numbered = tt
inside_first tac few (Code function) is numbered = omega (arith, few, numbered)
inside_first tac few (Address object offset) is numbered = is

global_is_of : (tac : Tac) (found : Option GlobalDef) → IsOf (option_map (λ (global : GlobalDef). global.c_type) found) (global_content tac found)
global_is_of tac None = refl
global_is_of tac (Some global) = (first_held tac global.c_type global.first, refl)

literal_is_of : (found : Option LiteralDef) → IsOf (option_map (λ (literal : LiteralDef). literal_type literal.bytes) found) (literal_content found)
literal_is_of None = refl
literal_is_of (Some literal) = (characters literal.bytes, refl)

frame_below : (long size : ℕ) → long ≡ size → size ≤ greatest_frame → 2 ^ 40 + long ≤ 2 ^ 44
frame_below long size same most = omega (arith, same, most)

-- ---- the first states

module _ (tac : Tac) (plan : Plan) (keeps : Fits tac plan) (slabs index : ℕ) (input : List ℕ) where
  abbrev state : T.State
  state = initial tac input

  abbrev machine : P.State
  machine = M.initial (code_of tac plan) slabs index input

  contents_long : length (first_contents tac) ≡ statics_size tac
  contents_long = length-first_contents tac (exact_by_fit tac keeps.statics)

  -- the bytes of the globals are the first contents, and no others
  globals_are : machine.globals ≡ first_contents tac
  globals_are =
      let none : statics_size tac - length (first_contents tac) ≡ 0 = omega (arith, contents_long) in
      ap (λ (count : ℕ). first_contents tac ++ replicate count 0) none ∙ append-nil (first_contents tac)

  globals_long : length machine.globals ≡ statics_size tac
  globals_long = ap (λ (bytes : List ℕ). length bytes) globals_are ∙ contents_long

  frame_long : length machine.running.bytes ≡ (frame_for tac plan InStart).size
  frame_long = length-replicate {A = ℕ} (frame_for tac plan InStart).size 0

  maps : MapsStatics tac (memory_in tac plan state machine)
  maps = record { address = mapped; moved = λ object offset there. refl; slot = λ object offset own there. refl }
    where
      mapped : (object : V.Object) → is_there (first_objects tac object) ≡ true → address_in tac plan state machine object ≡ Some (static_address tac object)
      mapped (OfHeap number) there = absurd (false≢true there)
      mapped (OfGlobal number) there = refl
      mapped (OfLiteral number) there = refl
      mapped (OfActivation activation local) there = absurd (false≢true there)

  reads : (at size : ℕ) → 1 ≤ size → at + size ≤ statics_size tac → number_at machine (globals_start + at) size ≡ Some (read_at (first_contents tac) at size)
  reads at size some le =
      globals_number machine at size (none_before machine.running [] (globals_start + at) size refl (low (statics_size tac) le keeps.statics)) (high (length machine.globals) (statics_size tac) globals_long le)
      ∙ ap (λ (bytes : List ℕ). Some (read_at bytes at size)) globals_are
    where
      low : (all : ℕ) → at + size ≤ all → globals_start + all ≤ 2 ^ 40 → globals_start + at < 2 ^ 40
      low all le room = omega (arith, some, le, room)

      high : (long all : ℕ) → long ≡ all → at + size ≤ all → at + size ≤ long
      high long all same le = omega (arith, same, le)

  module _ (values : HasFirstValues tac) (few : slabs ≤ 2 ^ 32) where
    starts_in_step : InStep tac plan slabs state machine
    starts_in_step =
        record {
          running = record {
            owner = refl;
            at = refl;
            kept = refl;
            words = λ register value is. absurd (none-some value is);
            inside = λ register value is. absurd (none-some value is);
            old = λ register value is. absurd (none-some value is);
            long = frame_long;
          };
          callers = tt;
          owned = λ activation local there. absurd (false≢true there);
          globals = λ number. global_is_of tac (slice_get tac.globals number);
          literals = λ number. literal_is_of (slice_get tac.literals number);
          allocations = λ number there. absurd (false≢true there);
          contents = contents_stand tac keeps.statics keeps.functions (memory_in tac plan state machine) maps machine values reads;
          inside = λ object offset value is. inside_first tac keeps.functions value (first_inside tac values object offset value is) (first_numbered tac object offset value is);
          old = λ object offset value is. static_old state value (first_static tac object offset value is);
          regions = record {
            globals = omega (arith, keeps.statics, globals_long);
            frames = refl;
            below = frame_below (length machine.running.bytes) (frame_for tac plan InStart).size frame_long (keeps.frames InStart);
            heap = record { slabs = slabs; sizes = []; few = few; placed = at_start index; kinds = tt };
          };
          low = omega arith;
          slabs_are = refl;
          needed = refl;
          statics = globals_long;
          next = refl;
          input = refl;
          trace = refl;
          paid = refl;
        }

-- ---- where runs begin

-- Where the code with pools begins, once the actions at entry are done.
pub record Begins (tac : Tac) (plan : Plan) (slabs : ℕ) (serves : Serves tac plan slabs) (index : ℕ) (input : List ℕ) : Type 0 where
  pub first : P.State
  pub begins : M.from_start (code_of tac plan) (M.initial (code_of tac plan) slabs index input) ≡ To first
  pub related : Related tac plan slabs serves (initial tac input) first

pub run_begins : (tac : Tac) (plan : Plan) (slabs : ℕ) (serves : Serves tac plan slabs) → HasFirstValues tac → tac.start.objects ≡ [] → (index : ℕ) → slabs ≤ 2 ^ 32 → (input : List ℕ)
    → Begins tac plan slabs serves index input
run_begins tac plan slabs serves values none index few input =
    let fresh = M.initial (code_of tac plan) slabs index input in
    let stacked = stacked_first tac input none in
    let acted = actions_done tac plan slabs serves.kinds (initial tac input) stacked plan.start.entering fresh (starts_in_step tac plan serves.fits slabs index input values few) (serves.starts index input) in
    let first = with_pools acted.descriptors acted.pools acted.trace fresh in
    record { first = first; begins = acted.goes To; related = (stacked, acted.in_step, serves.first index input first (acted.goes To) acted.in_step) }
