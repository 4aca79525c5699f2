-- What first values ask.
use Rattle.std.proofs.Common.{◌≡◌, ℕ, suc, Bool, true, false, List, [], ◌∷◌, ◌++◌, drop, length, get_or, ◌<◌, zero, Option, refl, arith, sym, ap, ◌∙◌}
use Rattle.std.specs.Prelude.{◌&&◌, ◌||◌, ◌==◌, not}
use Rattle.std.specs.List.{list_any}
use Rattle.std.proofs.lemmas.Bool.{true≢false, and_parts}
use Rattle.c_num.specs.declared.IntType.{IntType}
use Rattle.c_typed.specs.declared.part.Part.{Part}
use Rattle.c_typed.specs.declared.definition.First as memory_first
use Rattle.c_typed.specs.Values.{Held, FirstPlace}
use Rattle.c_typed.specs.DefinitionViews.{characters_held, first_of, all_first}
use Rattle.heap_graph.specs.Graphs.{Target}
use Rattle.heap_graph.specs.Targets as T
use Rattle.heap_graph.specs.Targets.{has_target, same_target, at_target, edge_at, implies}
use Rattle.heap_graph.specs.Closed.{Family, in_start, first_part, static_part, is_moved, place_closed, constant_closed, held_closed, all_held_closed}
use Rattle.graph_checker.specs.Values.{is_stored}

regroup : (a b c : Bool) → (a && (b && c)) ≡ ((a && b) && c)
regroup true b c = refl
regroup false b c = refl

and_true : (a : Bool) → (a && true) ≡ a
and_true true = refl
and_true false = refl

once : (a : Bool) → (a && a) ≡ a
once true = refl
once false = refl

both : (a b c : Bool) → a ≡ true → b ≡ true → c ≡ (a && (b && c))
both a b c first second = λ i. sym first i && (sym second i && c)

module _ (family : Family) (global : T.Part) where
  pub held_more : (first others : List Held) → all_held_closed family global (first ++ others) ≡ (all_held_closed family global first && all_held_closed family global others)
  held_more [] others = refl
  held_more (held ∷ first) others =
      ap (λ b. held_closed family global held && b) (held_more first others)
      ∙ regroup (held_closed family global held) (all_held_closed family global first) (all_held_closed family global others)

  pub one_held : (held : Held) → all_held_closed family global (held ∷ []) ≡ held_closed family global held
  one_held held = and_true (held_closed family global held)

  character : (a b : Bool) → (a && (b && true)) ≡ (a && b)
  character a b = ap (λ c. a && c) (and_true b)

  -- characters ask that the variable is written
  pub characters_stored : (steps : List Part) (int_type : IntType) (index byte : ℕ) (bytes : List ℕ) → all_held_closed family global (characters_held steps int_type index (byte ∷ bytes)) ≡ is_stored family global
  characters_stored steps int_type index byte [] =
      and_true _ ∙ character (has_target global.target) (at_target (in_start family) global.target (λ node shift. node.flags.modified))
  characters_stored steps int_type index byte (next ∷ bytes) =
      (λ i. character (has_target global.target) (at_target (in_start family) global.target (λ node shift. node.flags.modified)) i && characters_stored steps int_type (suc index) next bytes i)
      ∙ once (is_stored family global)

  pub text_told : (steps : List Part) (int_type : IntType) (bytes : List ℕ) → (length bytes == 0) ≡ false → all_held_closed family global (characters_held steps int_type 0 bytes) ≡ is_stored family global
  text_told steps int_type [] some = absurd (true≢false some)
  text_told steps int_type (byte ∷ bytes) some = characters_stored steps int_type 0 byte bytes

  -- the values from a number on
  pub all_from : (firsts : List memory_first.First) (n m : ℕ) (first : memory_first.First) → n < length firsts → first ≡ get_or firsts n first → m ≡ suc n
      → all_held_closed family global (all_first (drop n firsts)) ≡ (all_held_closed family global (first_of first) && all_held_closed family global (all_first (drop m firsts)))
  all_from [] n m first lt is next = absurd (omega (arith, lt))
  all_from (own ∷ others) zero m first lt is next =
      held_more (first_of own) (all_first others)
      ∙ (λ i. all_held_closed family global (first_of (sym is i)) && all_held_closed family global (all_first (drop (sym next i) (own ∷ others))))
  all_from (own ∷ others) (suc n) m first lt is next =
      all_from others n (suc n) first (omega (arith, lt)) is refl ∙ ap (λ k. all_held_closed family global (first_of first) && all_held_closed family global (all_first (drop k (own ∷ others)))) (sym next)

  pub held_told : (held : Held) (result : Bool) → is_stored family global ≡ true
      → result ≡ constant_closed family (edge_at (in_start family) (first_part family held.leaf.steps global).target) held.value → result ≡ held_closed family global held
  held_told held result stored is =
      let parts = and_parts (has_target global.target) (at_target (in_start family) global.target (λ node shift. node.flags.modified)) stored in
      is ∙ both (has_target global.target) (at_target (in_start family) global.target (λ node shift. node.flags.modified)) _ parts.0 parts.1

pub place_told : (family : Family) (edge : Option Target) (place : FirstPlace) (root : T.Part) (result : Bool) → root ≡ static_part family place.root → has_target root.target ≡ true
    → same_target edge (first_part family place.steps root).target ≡ true
    → result ≡ at_target (in_start family) root.target (λ node shift. implies (list_any (is_moved family) place.steps || not (place.index == 0)) node.flags.array) → result ≡ place_closed family edge place
place_told family edge place root result of there here is =
    is ∙ (both (has_target root.target) (same_target edge (first_part family place.steps root).target) _ there here
    ∙ ap (λ (r : T.Part). has_target r.target && (same_target edge (first_part family place.steps r).target
    && at_target (in_start family) r.target (λ node shift. implies (list_any (is_moved family) place.steps || not (place.index == 0)) node.flags.array))) of)
