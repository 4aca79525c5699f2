-- The numbers of a line are in their ranges.
use Rattle.std.proofs.Common.{◌≡◌, ◌^◌, ◌≤◌, ℕ, Bool, cond, true, false, refl, sym, subst, arith, List, [], ◌∷◌, Option, Some, None, codes}
use Rattle.std.specs.Option.{option_map_or}
use Rattle.std.specs.Str.{bytes_eq}
use Rattle.std.proofs.lemmas.Bool.{leb-true}
use Rattle.clap.specs.Walk.{Text}
use Rattle.clap.proofs.WalkLemmas.{both}
use Rattle.pcc_words.specs.declared.line.Line.{Line as CodeLine}
use Rattle.pcc_words.specs.declared.line.Line.TheVariants as code
use Rattle.pcc_words.specs.Line.{Limits, Line, NoCommand, NoLine, Build, Exec, Run, Ref, Graph, Choice, Part, Setting, Slabs, Index, Steps, build_choices, exec_choices, run_choices, graph_choices, build_line, command_line, default_of, exec_line, graph_line, limits_in, line_from, line_of, most_of, name_of, number_in, number_of, part_at, ref_line, run_line, words_joined}
use Rattle.pcc_words.specs.Seen.{HasRanges, line_seen}
use Rattle.pcc_words.proofs.WordNumbers.{AllGood, GoodIf, good_at, good_words}

abbrev IsWithin : ℕ → ℕ → Type 0
IsWithin most number = (1 ≤ number) × (number ≤ most)

default_within : (s : Setting) → IsWithin (most_of s) (default_of s)
default_within Slabs = (omega arith, omega arith)
default_within Index = (omega arith, omega arith)
default_within Steps = (omega arith, omega arith)

number_within : (s : Setting) (parts : List Part) → AllGood parts → IsWithin (most_of s) (number_in s parts)
number_within s parts all = go (part_at (name_of s) parts) refl
  where
    go : (o : Option Text) → part_at (name_of s) parts ≡ o → IsWithin (most_of s) (option_map_or number_of o (default_of s))
    go None e = default_within s
    go (Some t) e =
        let outer = both _ _ (good_at s t parts all e) in
        let inner = both _ _ outer.1 in
        let range = both _ _ inner.1 in
        (leb-true _ _ range.0, leb-true _ _ range.1)

-- ---- lines

abbrev AreWithin : Limits → Type 0
AreWithin limits = IsWithin 1048576 limits.slabs × IsWithin 4294967295 limits.index

abbrev IsRanged : Line → Type 0
IsRanged NoCommand = Unit {0}
IsRanged NoLine = Unit {0}
IsRanged (Build file limits one_pool) = AreWithin limits
IsRanged (Exec file limits one_pool steps) = AreWithin limits × IsWithin (2 ^ 62) steps
IsRanged (Run file steps) = IsWithin (2 ^ 62) steps
IsRanged (Ref file steps) = IsWithin (2 ^ 62) steps
IsRanged (Graph file) = Unit {0}

limits_within : (parts : List Part) → AllGood parts → AreWithin (limits_in parts)
limits_within parts all = (number_within Slabs parts all, number_within Index parts all)

steps_within : (parts : List Part) → AllGood parts → IsWithin (2 ^ 62) (number_in Steps parts)
steps_within parts all = number_within Steps parts all

module _ (make : List Part → Text → Line) (ranged : (parts : List Part) (file : Text) → AllGood parts → IsRanged (make parts file)) where
  from_ranged : (r : Option (List Part)) → GoodIf r → IsRanged (line_from make r)
  from_ranged None good = tt
  from_ranged (Some parts) good = go (part_at (codes "file") parts)
    where
      go : (o : Option Text) → IsRanged (option_map_or (make parts) o NoLine)
      go None = tt
      go (Some file) = ranged parts file good

  command_ranged : (choices : List Choice) (words : List Text) → IsRanged (command_line make choices words)
  command_ranged choices words = from_ranged (words_joined choices words None []) (good_words choices words None [] tt)

either_ranged : (b : Bool) (one other : Line) → IsRanged one → IsRanged other → IsRanged (cond b one other)
either_ranged true one other is is_other = is
either_ranged false one other is is_other = is_other

line_ranged : (words : List Text) → IsRanged (line_of words)
line_ranged [] = tt
line_ranged (name ∷ []) = tt
line_ranged (name ∷ command ∷ words) =
    either_ranged (bytes_eq (codes "build") command) _ _ (command_ranged build_line (λ parts file all. limits_within parts all) build_choices words)
    (either_ranged (bytes_eq (codes "exec") command) _ _ (command_ranged exec_line (λ parts file all. (limits_within parts all, steps_within parts all)) exec_choices words)
    (either_ranged (bytes_eq (codes "run") command) _ _ (command_ranged run_line (λ parts file all. steps_within parts all) run_choices words)
    (either_ranged (bytes_eq (codes "ref") command) _ _ (command_ranged ref_line (λ parts file all. steps_within parts all) run_choices words)
    (either_ranged (bytes_eq (codes "graph") command) _ _ (command_ranged graph_line (λ parts file all. tt) graph_choices words) tt))))

seen_ranged : (line : CodeLine) → IsRanged (line_seen line) → HasRanges line
seen_ranged code.NoCommand is = tt
seen_ranged code.NoLine is = tt
seen_ranged (code.Build file limits one_pool) is = record { slabs = is.0; index = is.1 }
seen_ranged (code.Exec file limits one_pool steps) is = (record { slabs = is.0.0; index = is.0.1 }, is.1)
seen_ranged (code.Run file steps) is = is
seen_ranged (code.Ref file steps) is = is
seen_ranged (code.Graph file) is = tt

pub has_ranges : (line : CodeLine) (words : List Text) → line_seen line ≡ line_of words → HasRanges line
has_ranges line words says = seen_ranged line (subst (λ l. IsRanged l) (sym says) (line_ranged words))
