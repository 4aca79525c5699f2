-- What a point that looks at pointers does, where its registers hold them.
use Rattle.std.proofs.Common.{◌≡◌, ℕ, not, Bool, true, Option, Some, ℤ, ap, ◌∙◌}
use Rattle.run_theory.specs.Runs.{Move}
use Rattle.c_num.specs.declared.IntType.TheVariants as I
use Rattle.c_num.specs.declared.Relation.{Relation}
use Rattle.c_num.specs.Types.{is_value}
use Rattle.c_typed.specs.Types.{CType}
use Rattle.tac_ir.specs.declared.register.Register.{Register}
use Rattle.tac_ir.specs.Values.{Value, Number}
use Rattle.tac_ir.specs.Trees.{computes, truth}
use Rattle.tac_ir.specs.Objects.{Surroundings}
use Rattle.tac_ir.specs.States.{State, write, given, unless_lost}
use Rattle.tac_ir.specs.Pointers.{is_alive, is_null, difference, compared, repoint}
use Rattle.tac_ir.specs.Calls.{allocate, natural_of, free}
use Rattle.tac_ir.specs.Code.{Tree, Tac}
use Rattle.tac_ir.specs.Code as O
use Rattle.tac_ir.specs.Meaning.{looked_at, truth_value, execute}

given_is : {A : Type 0} (found : Option A) (a : A) (state : State) (next : A → Move State) → found ≡ Some a → given found state next ≡ next a
given_is found a state next e = ap (λ o. given o state next) e

pub looked_is : (register : Register) (held : Value) (state : State) (next : Value → Move State) → state.running.registers register ≡ Some held → is_alive state.objects held ≡ true
    → looked_at register state next ≡ next held
looked_is register held state next e alive =
    given_is (state.running.registers register) held state (λ value. unless_lost (is_alive state.objects value) state (next value)) e ∙ ap (λ b. unless_lost b state (next held)) alive

module _ (tac : Tac) (around : Surroundings) (state : State) where
  pub tests : (to pointer : Register) (held : Value) → state.running.registers pointer ≡ Some held → is_alive state.objects held ≡ true
      → execute tac around (O.Test to pointer) state ≡ write to (Number (truth (not (is_null held)))) state
  tests to pointer held e alive = looked_is pointer held state (λ value. write to (Number (truth (not (is_null value)))) state) e alive

  pub compares : (to : Register) (relation : Relation) (left right : Register) (held held' : Value) (test : Bool) → state.running.registers left ≡ Some held → state.running.registers right ≡ Some held'
      → is_alive state.objects held ≡ true → is_alive state.objects held' ≡ true → compared around state.objects relation held held' ≡ Some test
      → execute tac around (O.ComparePointers to relation left right) state ≡ write to (Number (truth test)) state
  compares to relation left right held held' test e e' alive alive' is =
      looked_is left held state (λ a. looked_at right state (λ b. given (truth_value (compared around state.objects relation a b)) state (λ value. write to value state))) e alive
      ∙ looked_is right held' state (λ b. given (truth_value (compared around state.objects relation held b)) state (λ value. write to value state)) e' alive'
      ∙ ap (λ found. given (truth_value found) state (λ value. write to value state)) is

  pub subtracts : (to : Register) (element : CType) (left right : Register) (held held' value : Value) → state.running.registers left ≡ Some held → state.running.registers right ≡ Some held'
      → difference around state.objects element held held' ≡ Some value → execute tac around (O.Difference to element left right) state ≡ write to value state
  subtracts to element left right held held' value e e' is =
      given_is (state.running.registers left) held state (λ a. given (state.running.registers right) state (λ b. given (difference around state.objects element a b) state (λ value. write to value state))) e
      ∙ given_is (state.running.registers right) held' state (λ b. given (difference around state.objects element held b) state (λ value. write to value state)) e'
      ∙ given_is (difference around state.objects element held held') value state (λ value. write to value state) is

  pub repoints : (to : Register) (target : CType) (from : Register) (held : Value) → state.running.registers from ≡ Some held → is_alive state.objects held ≡ true
      → execute tac around (O.Repoint to target from) state ≡ repoint around target to held state
  repoints to target from held e alive = looked_is from held state (λ value. repoint around target to value state) e alive

  pub frees : (site : ℕ) (pointer : Register) (held : Value) → state.running.registers pointer ≡ Some held → execute tac around (O.Free site pointer) state ≡ free site held state
  frees site pointer held e = given_is (state.running.registers pointer) held state (λ value. free site value state) e

  pub allocates : (site : ℕ) (size : Tree) (z : ℤ) → computes state.running.registers size ≡ Some z → is_value I.ULong z ≡ true → execute tac around (O.Allocate site size) state ≡ allocate site (natural_of z) state
  allocates site size z e is =
      given_is (computes state.running.registers size) z state (λ z. unless_lost (is_value I.ULong z) state (allocate site (natural_of z) state)) e
      ∙ ap (λ b. unless_lost b state (allocate site (natural_of z) state)) is
