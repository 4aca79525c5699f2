-- What is read of variables outside functions and of literals in memory, and of the function that is called.
use Rattle.std.proofs.Common.{◌≡◌, ℕ, zero, suc, ◌<◌, List, [], ◌∷◌, length, option_map, Some, None, sym, ap, ◌∙◌, arith}
use Rattle.std.specs.Prelude.{slice_get}
use Rattle.std.proofs.lemmas.List.{length-map}
use Rattle.std.proofs.lemmas.Option.{none-some, slice_get-map}
use Rattle.c_typed.specs.Types.{literal_type}
use Rattle.c_typed.specs.declared.definition.GlobalDef as memory_global
use Rattle.c_typed.specs.declared.definition.LiteralDef as memory_literal
use Rattle.c_typed.specs.Table.{type_in}
use Rattle.c_typed.specs.DefinitionViews.{global_in, literal_of, LiteralsStand}
use Rattle.tac_ir.specs.declared.program.Tac as memory_tac
use Rattle.tac_ir.specs.Objects.{literal_object}
use Rattle.tac_ir.specs.Views.{tac_of}
use Rattle.heap_graph.specs.Points.{type_of_inner}
use Rattle.graph_unification.proofs.FoundStatics.{literal_known}

-- one below the length is there
not_past : {X : Type 0} (xs : List X) (i : ℕ) → slice_get xs i ≡ None → i < length xs → ⊥
not_past [] i none less = omega (arith, less)
not_past (x ∷ xs) zero none less = none-some x (sym none)
not_past (x ∷ xs) (suc i) none less = not_past xs i none (omega (arith, less))

module _ (tac : memory_tac.Tac) (number : ℕ) where
  pub global_there : (found : memory_global.GlobalDef) → slice_get tac.globals.items number ≡ Some found → slice_get (tac_of tac).globals number ≡ Some (global_in tac.types found)
  global_there found is = slice_get-map (global_in tac.types) tac.globals.items number ∙ ap (option_map (global_in tac.types)) is

  pub no_global : slice_get tac.globals.items number ≡ None → number < length (tac_of tac).globals → ⊥
  no_global none less = let long = length-map tac.globals.items (global_in tac.types) in not_past tac.globals.items number none (omega (arith, less, long))

  pub no_literal : slice_get tac.literals.items number ≡ None → number < length (tac_of tac).literals → ⊥
  no_literal none less = let long = length-map tac.literals.items literal_of in not_past tac.literals.items number none (omega (arith, less, long))

  module _ (found : memory_literal.LiteralDef) (is : slice_get tac.literals.items number ≡ Some found) (stand : LiteralsStand tac.types tac.literals.items) where
    pub literal_there : slice_get (tac_of tac).literals number ≡ Some (literal_of found)
    literal_there = slice_get-map literal_of tac.literals.items number ∙ ap (option_map literal_of) is

    pub literal_is : type_in tac.types found.c_type ≡ literal_type (literal_of found).bytes
    literal_is = literal_known tac.types tac.literals.items number found stand is ∙ ap (λ o. type_of_inner (literal_object o)) literal_there
