-- Types of variables outside functions and of literals.
use Rattle.std.proofs.Common.{◌≡◌, ℕ, zero, suc, List, [], ◌∷◌, map, length, Option, Some, None, option_map, Bor, option_copied, refl, sym, ap, ◌∙◌}
use Rattle.std.specs.Prelude.{slice_get}
use Rattle.std.specs.Slice.{IsItemAt}
use Rattle.std.proofs.lemmas.Option.{none-some, same_Some, slice_get-map, slice_get_read, slice_get_past}
use Rattle.c_typed.specs.declared.definition.GlobalDef.{GlobalDef}
use Rattle.c_typed.specs.declared.definition.LiteralDef.{LiteralDef}
use Rattle.c_typed.specs.Types.{Void}
use Rattle.c_typed.specs.Table.{Interned, type_in}
use Rattle.c_typed.specs.DefinitionViews.{global_in, literal_of, LiteralsStand}
use Rattle.c_typed.proofs.Grown.{void_stands}
use Rattle.tac_ir.specs.Objects.{global_type, literal_object}
use Rattle.heap_graph.specs.Points.{type_of_inner}

-- what is found of a slice
pub got : {X : Type 0} (xs : List X) (number : ℕ) (found : Option (Bor X)) → IsItemAt xs number found → slice_get xs number ≡ option_copied found
got xs number (Some x) h = slice_get_read xs (length xs) number x.now refl h.3.0 h.1
got xs number None h = slice_get_past xs number h.3

is_void : (table : Interned) → type_in table (record { 0 = 0 }) ≡ Void
is_void table = (void_stands table (record { 0 = 0 }) refl).1

pub no_global : (table : Interned) (globals : List GlobalDef) (n : ℕ) → slice_get globals n ≡ None → type_in table (record { 0 = 0 }) ≡ type_of_inner (global_type (slice_get (map (global_in table) globals) n))
no_global table globals n none = is_void table ∙ sym (ap (λ found. type_of_inner (global_type found)) (slice_get-map (global_in table) globals n ∙ ap (option_map (global_in table)) none))

pub no_literal : (table : Interned) (literals : List LiteralDef) (n : ℕ) → slice_get literals n ≡ None → type_in table (record { 0 = 0 }) ≡ type_of_inner (literal_object (slice_get (map literal_of literals) n))
no_literal table literals n none = is_void table ∙ sym (ap (λ found. type_of_inner (literal_object found)) (slice_get-map literal_of literals n ∙ ap (option_map literal_of) none))

-- the type of a literal is told by its bytes
pub literal_known : (table : Interned) (literals : List LiteralDef) (n : ℕ) (literal : LiteralDef) → LiteralsStand table literals → slice_get literals n ≡ Some literal
    → type_in table literal.c_type ≡ type_of_inner (literal_object (slice_get (map literal_of literals) n))
literal_known table [] n literal stand is = absurd (none-some literal is)
literal_known table (first ∷ others) zero literal stand is = ap (λ (l : LiteralDef). type_in table l.c_type) (sym (same_Some first literal is)) ∙ stand.0.1
literal_known table (first ∷ others) (suc n) literal stand is = literal_known table others n literal stand.1 is
