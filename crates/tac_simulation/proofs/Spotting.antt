-- How code at a spot goes on: a unit is spent, a point is passed, a register is written.
use Rattle.std.proofs.Common.{◌≡◌, ℕ, suc, ◌≤◌, ◌<◌, ◌==◌, Bool, true, false, List, [], ◌∷◌, ◌++◌, Option, Some, refl, ap, ◌∙◌, ne_eqb, eq-eqb, arith}
use Rattle.std.specs.Prelude.{slice_get}
use Rattle.std.proofs.lemmas.Bool.{cond-false, cond-true}
use Rattle.run_theory.specs.Runs.{To}
use Rattle.c_typed.specs.Typed.{Program}
use Rattle.ref_semantics.specs.Values as V
use Rattle.ref_semantics.specs.Store as S
use Rattle.tac_ir.specs.declared.program.Counts.{Counts}
use Rattle.tac_ir.specs.declared.register.Local.{Local}
use Rattle.tac_ir.specs.declared.register.Register.{Register}
use Rattle.tac_ir.specs.declared.register.Register.TheVariants as R
use Rattle.tac_ir.specs.Code.{Op, Function, Tac}
use Rattle.tac_ir.specs.Values.{Value}
use Rattle.tac_ir.specs.Events.{Crossed}
use Rattle.tac_ir.specs.Trees.{Registers, with_register, same_register}
use Rattle.tac_ir.specs.States.{State, function_of, points_of, objects_of, around_of, write}
use Rattle.tac_ir.proofs.Seen.{seen_crossed}
use Rattle.tac_build.specs.Homes.{Home, Scope}
use Rattle.tac_build.specs.Code.{HasOp, function_number}
use Rattle.tac_build.specs.Forms.{IsBefore}
use Rattle.tac_simulation.specs.Standing.{Placement, Frame, HomeStands, HomesStand, At, KeepsBefore, surroundings}
use Rattle.tac_simulation.proofs.Memory.{same_local-refl}
use Rattle.tac_simulation.proofs.Paths.{Before, before_op}

-- the points and objects are those of the activation's function, static objects those of the program, and functions that have a number are there
pub record Runs (tac : Tac) (program : Program) (points : List Op) (frame : Frame) : Type 0 where
  pub points_are : points_of (function_of tac frame.owner) ≡ points
  pub objects_are : objects_of (function_of tac frame.owner) ≡ frame.objects
  pub structs : tac.structs ≡ program.structs
  pub globals : tac.globals ≡ program.globals
  pub literals : tac.literals ≡ program.literals
  pub known : (number : ℕ) (name : List ℕ) → function_number 0 program.functions name ≡ Some number → (function : Function) × (slice_get tac.functions number ≡ Some function)

-- ---- registers

-- a register that no spot has named before; locals are none of those that spots name
abbrev pub IsFrom : Counts → Register → Type 0
IsFrom counts (R.Local local) = Unit {0}
IsFrom counts (R.Call number) = counts.calls ≤ number
IsFrom counts (R.Argument number) = counts.arguments ≤ number
IsFrom counts (R.Expression number) = counts.expressions ≤ number
IsFrom counts (R.Temporary number) = counts.temporaries ≤ number

apart : (number other : ℕ) → number < other → (other == number) ≡ false
apart number other less = ne_eqb other number (λ e. omega (arith, e))

other_register : (counts : Counts) (written other : Register) → IsFrom counts written → IsBefore counts other → same_register written other ≡ false
other_register counts written (R.Local local) new before = absurd before
other_register counts (R.Local local) (R.Call number) new before = refl
other_register counts (R.Local local) (R.Argument number) new before = refl
other_register counts (R.Local local) (R.Expression number) new before = refl
other_register counts (R.Local local) (R.Temporary number) new before = refl
other_register counts (R.Call n) (R.Call number) new before = apart number n (omega (arith, new, before))
other_register counts (R.Call n) (R.Argument number) new before = refl
other_register counts (R.Call n) (R.Expression number) new before = refl
other_register counts (R.Call n) (R.Temporary number) new before = refl
other_register counts (R.Argument n) (R.Call number) new before = refl
other_register counts (R.Argument n) (R.Argument number) new before = apart number n (omega (arith, new, before))
other_register counts (R.Argument n) (R.Expression number) new before = refl
other_register counts (R.Argument n) (R.Temporary number) new before = refl
other_register counts (R.Expression n) (R.Call number) new before = refl
other_register counts (R.Expression n) (R.Argument number) new before = refl
other_register counts (R.Expression n) (R.Expression number) new before = apart number n (omega (arith, new, before))
other_register counts (R.Expression n) (R.Temporary number) new before = refl
other_register counts (R.Temporary n) (R.Call number) new before = refl
other_register counts (R.Temporary n) (R.Argument number) new before = refl
other_register counts (R.Temporary n) (R.Expression number) new before = refl
other_register counts (R.Temporary n) (R.Temporary number) new before = apart number n (omega (arith, new, before))

same_register-refl : (register : Register) → same_register register register ≡ true
same_register-refl (R.Local local) = same_local-refl local
same_register-refl (R.Call number) = eq-eqb number number refl
same_register-refl (R.Argument number) = eq-eqb number number refl
same_register-refl (R.Expression number) = eq-eqb number number refl
same_register-refl (R.Temporary number) = eq-eqb number number refl

-- what is written is there
pub written_there : (register : Register) (value : Option Value) (registers : Registers) → with_register register value registers register ≡ value
written_there register value registers = cond-true (same_register register register) value (registers register) (same_register-refl register)

-- what was named before keeps what it holds
pub kept_write : (counts : Counts) (written : Register) (value : Option Value) (registers : Registers) → IsFrom counts written → KeepsBefore counts registers (with_register written value registers)
kept_write counts written value registers new register before = cond-false (same_register written register) value (registers register) (other_register counts written register new before)

pub kept_same : (counts : Counts) (registers : Registers) → KeepsBefore counts registers registers
kept_same counts registers register before = refl

-- more is named at a later spot
pub record CountsGrow (from to : Counts) : Type 0 where
  pub calls : from.calls ≤ to.calls
  pub arguments : from.arguments ≤ to.arguments
  pub expressions : from.expressions ≤ to.expressions
  pub temporaries : from.temporaries ≤ to.temporaries

pub before_later : (from to : Counts) → CountsGrow from to → (register : Register) → IsBefore from register → IsBefore to register
before_later from to later (R.Local local) before = before
before_later from to later (R.Call number) before = omega (arith, later.calls, before)
before_later from to later (R.Argument number) before = omega (arith, later.arguments, before)
before_later from to later (R.Expression number) before = omega (arith, later.expressions, before)
before_later from to later (R.Temporary number) before = omega (arith, later.temporaries, before)

pub kept_later : (from to : Counts) (first second third : Registers) → CountsGrow from to → KeepsBefore from first second → KeepsBefore to second third → KeepsBefore from first third
kept_later from to first second third later one other register before = other register (before_later from to later register before) ∙ one register before

-- ---- homes

-- a register that is none of a local's
abbrev pub IsNoLocal : Register → Type 0
IsNoLocal (R.Local local) = ⊥
IsNoLocal register = Unit {0}

pub no_local : (written : Register) (local : Local) → IsNoLocal written → same_register written (R.Local local) ≡ false
no_local (R.Local other) local new = absurd new
no_local (R.Call number) local new = refl
no_local (R.Argument number) local new = refl
no_local (R.Expression number) local new = refl
no_local (R.Temporary number) local new = refl

module _ (program : Program) (placement : Placement) (activation : ℕ) (objects : S.Objects) (before after : Registers) (same : (local : Local) → after (R.Local local) ≡ before (R.Local local)) where
  home_same : (home : Home) (number : ℕ) → HomeStands program placement activation objects before home number → HomeStands program placement activation objects after home number
  home_same home number stands = by home.is_object stands
    where
      by : (b : Bool) → HomeStands program placement activation objects before (record home { is_object = b }) number → HomeStands program placement activation objects after (record home { is_object = b }) number
      by true stands = stands
      by false stands = (stands.0, (stands.1.0, stands.1.1, λ scalar is. let holds = stands.1.2 scalar is in (holds.0, same home.local ∙ holds.1, holds.2)))

  pub homes_same : (scope : Scope) (locals : List ℕ) → HomesStand program placement activation objects before scope locals → HomesStand program placement activation objects after scope locals
  homes_same [] [] stands = tt
  homes_same (home ∷ scope) (newest ∷ others) stands = (home_same home newest stands.0, homes_same scope others stands.1, stands.2)
  homes_same [] (newest ∷ others) stands = absurd stands
  homes_same (home ∷ scope) [] stands = absurd stands

-- ---- states

module _ (tac : Tac) (program : Program) (points : List Op) (placement : Placement) (hidden : ℕ → Option V.Content) (frame : Frame) (scope : Scope) (runs : Runs tac program points frame) where
  -- a unit is spent
  pub at_units : (at : ℕ) (s : S.State) (t : State) (left : ℕ) → At program placement hidden frame scope at s t → At program placement hidden frame scope at (record s { units = left }) t
  at_units at s t left h = record {
    stands = record { input = h.stands.input; heap = h.stands.heap; trace = h.stands.trace; memory = h.stands.memory; placed = h.stands.placed; unchanged = h.stands.unchanged };
    homes = h.homes;
    own = record { there = h.own.there; in_scope = h.own.in_scope };
    point = h.point;
    owner = h.owner;
    number = h.number;
    callers = h.callers;
    paid = h.paid;
  }

  -- the code is before a point that stands there
  pub before_at : (at : ℕ) (op : Op) (s : S.State) (t : State) → HasOp points at op → At program placement hidden frame scope at s t → Before tac op t
  before_at at op s t has h = before_op tac points frame.owner at op t runs.points_are has h.owner h.point h.paid

  -- what the activation is run with
  pub around_is : (at : ℕ) (s : S.State) (t : State) → At program placement hidden frame scope at s t → around_of tac t.running ≡ surroundings program frame
  around_is at s t h =
      let own : objects_of (function_of tac t.running.owner) ≡ frame.objects = ap (λ owner. objects_of (function_of tac owner)) h.owner ∙ runs.objects_are in
      rw (own, h.number, runs.structs, runs.globals, runs.literals) refl

  -- a state that goes on with a value in a register
  abbrev pub with_written : Register → Value → State → State
  with_written register value t =
      record t {
        running = record t.running { registers = with_register register (Some value) t.running.registers; at = suc t.running.at };
        trace = t.trace ++ Crossed t.running.at (suc t.running.at) ∷ [];
        paid = 0;
      }

  pub write_goes : (register : Register) (value : Value) (t : State) → write register value t ≡ To (with_written register value t)
  write_goes register value t = refl

  pub at_written : (at : ℕ) (register : Register) (value : Value) (s : S.State) (t : State) → IsNoLocal register → At program placement hidden frame scope at s t → At program placement hidden frame scope (suc at) s (with_written register value t)
  at_written at register value s t new h = record {
    stands = record { input = h.stands.input; heap = h.stands.heap; trace = seen_crossed t.trace t.running.at (suc t.running.at) ∙ h.stands.trace; memory = h.stands.memory; placed = h.stands.placed; unchanged = h.stands.unchanged };
    homes = homes_same program placement frame.number s.objects t.running.registers (with_register register (Some value) t.running.registers)
        (λ local. cond-false (same_register register (R.Local local)) (Some value) (t.running.registers (R.Local local)) (no_local register local new)) scope s.locals h.homes;
    own = record { there = h.own.there; in_scope = h.own.in_scope };
    point = ap suc h.point;
    owner = h.owner;
    number = h.number;
    callers = h.callers;
    paid = refl;
  }
