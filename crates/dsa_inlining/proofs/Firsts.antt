-- What first values mention, one after another.
use Rattle.std.proofs.Common.{◌≡◌, ℕ, suc, ◌+◌, ◌<◌, ◌≤◌, ◌==◌, ◌&&◌, ◌||◌, Bool, true, false, List, [], ◌∷◌, ◌++◌, map, drop, length, get_or, Option, Some, None, refl, sym, ap, ◌∙◌, arith}
use Rattle.std.specs.Prelude.{option_map}
use Rattle.std.specs.List.{list_any}
use Rattle.std.proofs.lemmas.Bool.{true≢false}
use Rattle.std.proofs.lemmas.List.{drop_more, drop_all}
use Rattle.std.proofs.lemmas.Option.{none-some, same_Some}
use Rattle.c_num.specs.declared.IntType.{IntType}
use Rattle.c_typed.specs.declared.part.Part.{Part}
use Rattle.c_typed.specs.declared.definition.First as memory_first
use Rattle.c_typed.specs.declared.definition.GlobalDef as memory_global
use Rattle.c_typed.specs.Table.{Interned}
use Rattle.c_typed.specs.Values.{Held}
use Rattle.c_typed.specs.Typed.{GlobalDef, LiteralDef}
use Rattle.c_typed.specs.DefinitionViews.{characters_held, first_of, all_first, global_in}
use Rattle.tac_ir.specs.Code.{Base, AtGlobal, AtLiteral, Tac}
use Rattle.heap_graph.specs.Graphs.{Name, OfRegister, OfResult, OfObject, OfGlobal, OfLiteral, OfCopy}
use Rattle.graph_unification.specs.GraphPremises.First.{global_base, literal_base}
use Rattle.dsa_inlining.specs.declared.mentions.Mentions.{Mentions}
use Rattle.dsa_inlining.specs.Counting.{begins_at, has_values, held_at}
use Rattle.dsa_inlining.specs.Tallies.{Adds, begins}
use Rattle.dsa_inlining.specs.FirstValues.{is_own, values_mention, first_names}
use Rattle.dsa_inlining.proofs.MarkSteps.{or_false, or_assoc}
use Rattle.dsa_inlining.proofs.GroupCounts.Adding.{adds_nothing, adds_both, adds_same}

-- ---- objects that are named

pub global_named : (test : Base → Bool) (found : Option (ℕ × GlobalDef)) (number : ℕ) → Some number ≡ option_map (λ found. found.0) found → test (AtGlobal number) ≡ begins_at test (global_base found)
global_named test None number is = absurd (none-some number (sym is))
global_named test (Some found) number is = ap (λ n. test (AtGlobal n)) (same_Some number found.0 is)

pub global_unnamed : (test : Base → Bool) (found : Option (ℕ × GlobalDef)) → None ≡ option_map (λ found. found.0) found → begins_at test (global_base found) ≡ false
global_unnamed test None is = refl
global_unnamed test (Some found) is = absurd (none-some found.0 is)

pub literal_named : (test : Base → Bool) (found : Option (ℕ × LiteralDef)) (number : ℕ) → Some number ≡ option_map (λ found. found.0) found → test (AtLiteral number) ≡ begins_at test (literal_base found)
literal_named test None number is = absurd (none-some number (sym is))
literal_named test (Some found) number is = ap (λ n. test (AtLiteral n)) (same_Some number found.0 is)

pub literal_unnamed : (test : Base → Bool) (found : Option (ℕ × LiteralDef)) → None ≡ option_map (λ found. found.0) found → begins_at test (literal_base found) ≡ false
literal_unnamed test None is = refl
literal_unnamed test (Some found) is = absurd (none-some found.0 is)

-- the variable's own mark is that of its name
own_begins : (number : ℕ) (name : Name) → begins name (AtGlobal number) ≡ is_own name number
own_begins number (OfRegister owner register) = refl
own_begins number (OfResult owner) = refl
own_begins number (OfObject owner local) = refl
own_begins number (OfGlobal other) = refl
own_begins number (OfLiteral other) = refl
own_begins number (OfCopy other) = refl

-- ---- values of one variable

any_append : (test : Held → Bool) (values more : List Held) → list_any test (values ++ more) ≡ (list_any test values || list_any test more)
any_append test [] more = refl
any_append test (held ∷ values) more = ap (λ t. test held || t) (any_append test values more) ∙ sym (or_assoc (test held) (list_any test values) (list_any test more))

module _ (tac : Tac) (number : ℕ) where
  values_append : (values more : List Held) (name : Name) → (values_mention tac number values name || values_mention tac number more name) ≡ values_mention tac number (values ++ more) name
  values_append [] more name = refl
  values_append (held ∷ values) more name =
      by (is_own name number) (held_at tac (begins name) held) (list_any (held_at tac (begins name)) values) (has_values more) (list_any (held_at tac (begins name)) more)
      ∙ ap (λ t. is_own name number || (held_at tac (begins name) held || t)) (sym (any_append (held_at tac (begins name)) values more))
    where
      by : (own first values some more : Bool) → ((own || (first || values)) || ((some && own) || more)) ≡ (own || (first || (values || more)))
      by true first values some more = refl
      by false true values some more = refl
      by false false true some more = refl
      by false false false true more = refl
      by false false false false more = refl

  -- one scalar
  pub one_value : (held : Held) (name : Name) → (begins name (AtGlobal number) || held_at tac (begins name) held) ≡ values_mention tac number (held ∷ []) name
  one_value held name = λ i. own_begins number name i || sym (or_false (held_at tac (begins name) held)) i

  -- characters point nowhere
  characters_point : (test : Base → Bool) (steps : List Part) (int_type : IntType) (index : ℕ) (bytes : List ℕ) → list_any (held_at tac test) (characters_held steps int_type index bytes) ≡ false
  characters_point test steps int_type index [] = refl
  characters_point test steps int_type index (byte ∷ bytes) = characters_point test steps int_type (suc index) bytes

  pub text_mentions : (steps : List Part) (int_type : IntType) (bytes : List ℕ) → (length bytes == 0) ≡ false → (name : Name)
      → begins name (AtGlobal number) ≡ values_mention tac number (characters_held steps int_type 0 bytes) name
  text_mentions steps int_type [] some name = absurd (true≢false some)
  text_mentions steps int_type (byte ∷ bytes) some name =
      own_begins number name ∙ (sym (or_false (is_own name number)) ∙ ap (λ t. is_own name number || t) (sym (characters_point (begins name) steps int_type 1 bytes)))

  module _ (firsts : List memory_first.First) (start : Mentions) where
    pub record ValuesLeft (i : ℕ) (now : Mentions) : Type 0 where
      pub to : (final : Mentions) → Adds (values_mention tac number (all_first (drop i firsts))) now final → Adds (values_mention tac number (all_first firsts)) start final

    pub values_start : ValuesLeft 0 start
    values_start = record { to = λ final adds. adds }

    pub values_more : (i : ℕ) (first : memory_first.First) → first ≡ get_or firsts i first → i < length firsts → (now mid : Mentions)
        → Adds (values_mention tac number (first_of first)) now mid → ValuesLeft i now → ValuesLeft (i + 1) mid
    values_more i first is within now mid adds left = record {
      to = λ final rest. left.to final
          (adds_same (λ name. values_mention tac number (first_of first) name || values_mention tac number (all_first (drop (i + 1) firsts)) name) (values_mention tac number (all_first (drop i firsts))) now final
          (λ name. values_append (first_of first) (all_first (drop (i + 1) firsts)) name ∙ ap (λ l. values_mention tac number (all_first l) name) (sym split))
          (adds_both (values_mention tac number (first_of first)) (values_mention tac number (all_first (drop (i + 1) firsts))) now mid final adds rest));
    }
      where
        split : drop i firsts ≡ first ∷ drop (i + 1) firsts
        split = drop_more firsts i first within ∙ ap (λ y. y ∷ drop (i + 1) firsts) (sym is)

    pub values_end : (i : ℕ) (now : Mentions) → length firsts ≤ i → ValuesLeft i now → Adds (values_mention tac number (all_first firsts)) start now
    values_end i now out left =
        left.to now (adds_nothing (values_mention tac number (all_first (drop i firsts))) now (λ name. ap (λ l. values_mention tac number (all_first l) name) (drop_all i firsts out)))

-- ---- all variables

module _ (tac : Tac) (table : Interned) (globals : List memory_global.GlobalDef) (start : Mentions) where
  pub record GlobalsLeft (i : ℕ) (now : Mentions) : Type 0 where
    pub to : (final : Mentions) → Adds (first_names tac i (map (global_in table) (drop i globals))) now final → Adds (first_names tac 0 (map (global_in table) globals)) start final

  pub globals_start : GlobalsLeft 0 start
  globals_start = record { to = λ final adds. adds }

  pub globals_more : (i : ℕ) (global : memory_global.GlobalDef) → global ≡ get_or globals i global → i < length globals → (now mid : Mentions)
      → Adds (values_mention tac i (all_first global.first.items)) now mid → GlobalsLeft i now → GlobalsLeft (i + 1) mid
  globals_more i global is within now mid adds left = record {
    to = λ final rest. left.to final
        (adds_same (λ name. values_mention tac i (all_first global.first.items) name || first_names tac (i + 1) (map (global_in table) (drop (i + 1) globals)) name)
        (first_names tac i (map (global_in table) (drop i globals))) now final
        (λ name. one name ∙ ap (λ l. first_names tac i (map (global_in table) l) name) (sym split))
        (adds_both (values_mention tac i (all_first global.first.items)) (first_names tac (i + 1) (map (global_in table) (drop (i + 1) globals))) now mid final adds rest));
  }
    where
      split : drop i globals ≡ global ∷ drop (i + 1) globals
      split = drop_more globals i global within ∙ ap (λ y. y ∷ drop (i + 1) globals) (sym is)

      next : i + 1 ≡ suc i
      next = omega arith

      one : (name : Name) → (values_mention tac i (all_first global.first.items) name || first_names tac (i + 1) (map (global_in table) (drop (i + 1) globals)) name)
          ≡ first_names tac i (map (global_in table) (global ∷ drop (i + 1) globals)) name
      one name =
          ap (λ n. values_mention tac i (all_first global.first.items) name || first_names tac n (map (global_in table) (drop (i + 1) globals)) name) next
          ∙ or_assoc (has_values (all_first global.first.items) && is_own name i) (list_any (held_at tac (begins name)) (all_first global.first.items))
          (first_names tac (suc i) (map (global_in table) (drop (i + 1) globals)) name)

  pub globals_end : (i : ℕ) (now : Mentions) → length globals ≤ i → GlobalsLeft i now → Adds (first_names tac 0 (map (global_in table) globals)) start now
  globals_end i now out left =
      left.to now (adds_nothing (first_names tac i (map (global_in table) (drop i globals))) now (λ name. ap (λ l. first_names tac i (map (global_in table) l) name) (drop_all i globals out)))
