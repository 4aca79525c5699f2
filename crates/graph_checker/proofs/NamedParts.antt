-- What names and places are found for are objects of the program.
use Rattle.std.proofs.Common.{◌≡◌, ℕ, suc, ◌+◌, Bool, true, false, if◌then◌else◌, List, [], ◌∷◌, Option, Some, None, option_map, refl, sym, ap, ◌∙◌, arith}
use Rattle.std.specs.Prelude.{slice_get, bytes_eq}
use Rattle.std.proofs.lemmas.Option.{none-some, same_Some}
use Rattle.run_theory.specs.declared.place.Pos.{Pos}
use Rattle.c_typed.specs.Places.{is_same_place}
use Rattle.c_typed.specs.Typed.{GlobalDef, LiteralDef}
use Rattle.tac_ir.specs.declared.program.Tac as memory_tac
use Rattle.tac_ir.specs.First.{named_global, placed_literal}
use Rattle.tac_ir.specs.Objects.{global_type, literal_object}
use Rattle.tac_ir.specs.Views.{tac_of}
use Rattle.heap_graph.specs.Closed as F
use Rattle.heap_graph.specs.Points.{type_of_inner}
use Rattle.heap_graph.specs.declared.frozen.FrozenGraph.{FrozenGraph}
use Rattle.heap_graph.specs.Frozen.{static_in}
use Rattle.heap_graph.specs.TargetParts.Parts.{global_part, literal_part}
use Rattle.graph_checker.specs.Values.{alone, nothing}

nothing_found : {A B : Type 0} (f : A → B) (x : Option A) → None ≡ option_map f x → x ≡ None
nothing_found f None is = refl
nothing_found f (Some x) is = absurd (none-some (f x) is)

-- ---- variables

global_read : (from : ℕ) (globals : List GlobalDef) (name : List ℕ) (n : ℕ) → Some n ≡ option_map (λ found. found.0) (named_global from globals name)
    → (k : ℕ) × (global : GlobalDef) × (n ≡ from + k) × (slice_get globals k ≡ Some global) × (named_global from globals name ≡ Some (n, global))
global_read from [] name n is = absurd (none-some n (sym is))
global_read from (first ∷ others) name n is = by (bytes_eq first.name name) is (global_read (suc from) others name n)
  where
    by : (t : Bool) → Some n ≡ option_map (λ found. found.0) (if t then Some (from, first) else named_global (suc from) others name)
        → (Some n ≡ option_map (λ found. found.0) (named_global (suc from) others name)
        → (k : ℕ) × (global : GlobalDef) × (n ≡ suc from + k) × (slice_get others k ≡ Some global) × (named_global (suc from) others name ≡ Some (n, global)))
        → (k : ℕ) × (global : GlobalDef) × (n ≡ from + k) × (slice_get (first ∷ others) k ≡ Some global)
        × ((if t then Some (from, first) else named_global (suc from) others name) ≡ Some (n, global))
    by true is rest = let same : n ≡ from = same_Some n from is in (0, first, omega (arith, same), refl, λ i. Some (sym same i, first))
    by false is rest = let more = rest is in let number = more.2 in (suc more.0, more.1, omega (arith, number), more.3, more.4)

module _ (tac : memory_tac.Tac) (start : FrozenGraph) where
  pub global_found : (name : List ℕ) (n : ℕ) → Some n ≡ option_map (λ found. found.0) (named_global 0 (tac_of tac).globals name)
      → global_part (tac_of tac) start n ≡ F.global_part (alone tac start) (named_global 0 (tac_of tac).globals name)
  global_found name n is =
      let read = global_read 0 (tac_of tac).globals name n is in
      let number : n ≡ read.0 = omega (arith, read.2) in
      let here : slice_get (tac_of tac).globals n ≡ Some read.1 = ap (slice_get (tac_of tac).globals) number ∙ read.3 in
      ap (λ found. record { target = static_in start.globals n; c_type = type_of_inner (global_type found) }) here
      ∙ sym (ap (F.global_part (alone tac start)) read.4)

  pub global_missing : (name : List ℕ) → None ≡ option_map (λ found. found.0) (named_global 0 (tac_of tac).globals name)
      → nothing ≡ F.global_part (alone tac start) (named_global 0 (tac_of tac).globals name)
  global_missing name is = sym (ap (F.global_part (alone tac start)) (nothing_found (λ found. found.0) (named_global 0 (tac_of tac).globals name) is))

-- ---- literals

literal_read : (from : ℕ) (literals : List LiteralDef) (place : Pos) (n : ℕ) → Some n ≡ option_map (λ found. found.0) (placed_literal from literals place)
    → (k : ℕ) × (literal : LiteralDef) × (n ≡ from + k) × (slice_get literals k ≡ Some literal) × (placed_literal from literals place ≡ Some (n, literal))
literal_read from [] place n is = absurd (none-some n (sym is))
literal_read from (first ∷ others) place n is = by (is_same_place first.place place) is (literal_read (suc from) others place n)
  where
    by : (t : Bool) → Some n ≡ option_map (λ found. found.0) (if t then Some (from, first) else placed_literal (suc from) others place)
        → (Some n ≡ option_map (λ found. found.0) (placed_literal (suc from) others place)
        → (k : ℕ) × (literal : LiteralDef) × (n ≡ suc from + k) × (slice_get others k ≡ Some literal) × (placed_literal (suc from) others place ≡ Some (n, literal)))
        → (k : ℕ) × (literal : LiteralDef) × (n ≡ from + k) × (slice_get (first ∷ others) k ≡ Some literal)
        × ((if t then Some (from, first) else placed_literal (suc from) others place) ≡ Some (n, literal))
    by true is rest = let same : n ≡ from = same_Some n from is in (0, first, omega (arith, same), refl, λ i. Some (sym same i, first))
    by false is rest = let more = rest is in let number = more.2 in (suc more.0, more.1, omega (arith, number), more.3, more.4)

module _ (tac : memory_tac.Tac) (start : FrozenGraph) where
  pub literal_found : (place : Pos) (n : ℕ) → Some n ≡ option_map (λ found. found.0) (placed_literal 0 (tac_of tac).literals place)
      → literal_part (tac_of tac) start n ≡ F.literal_part (alone tac start) (placed_literal 0 (tac_of tac).literals place)
  literal_found place n is =
      let read = literal_read 0 (tac_of tac).literals place n is in
      let number : n ≡ read.0 = omega (arith, read.2) in
      let here : slice_get (tac_of tac).literals n ≡ Some read.1 = ap (slice_get (tac_of tac).literals) number ∙ read.3 in
      ap (λ found. record { target = static_in start.literals n; c_type = type_of_inner (literal_object found) }) here
      ∙ sym (ap (F.literal_part (alone tac start)) read.4)

  pub literal_missing : (place : Pos) → None ≡ option_map (λ found. found.0) (placed_literal 0 (tac_of tac).literals place)
      → nothing ≡ F.literal_part (alone tac start) (placed_literal 0 (tac_of tac).literals place)
  literal_missing place is = sym (ap (F.literal_part (alone tac start)) (nothing_found (λ found. found.0) (placed_literal 0 (tac_of tac).literals place) is))
