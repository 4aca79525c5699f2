-- The rule of a flag, by the steps that make it.
use Rattle.std.proofs.Common.{◌≡◌, ◌∙◌, false, [], ◌∷◌, Bor, Option, Some, None, ap, ap₂, codes}
use Rattle.std.specs.Prelude.{IsSomeAnd}
use Rattle.clap.specs.Walk.{Rule, Text, rule_of}
use Rattle.clap.specs.Simple.{new_rule}
use Rattle.clap.specs.declared.builder.action.ArgAction.TheVariants.{Set}
use Rattle.clap.specs.declared.builder.arg.Arg.{Arg}
use Rattle.clap.specs.declared.builder.range.ValueRange.{ValueRange}
use Rattle.clap.specs.declared.builder.texts.Texts.TheVariants.{One}
use Rattle.pcc_words.specs.Clap.{flag_rule}

abbrev no_values : ValueRange
no_values = record { start_inclusive = 0; end_inclusive = 0 }

pub range_is : (range : Option ValueRange) → IsSomeAnd range (λ r. r ≡ no_values) → range ≡ Some no_values
range_is None h = absurd h
range_is (Some r) h = ap (λ x. Some x) h

module _ (arg counted acting long start : Arg) (name value : Bor Text) (missing : arg ≡ record counted { default_missing_vals = One value })
    (others : counted ≡ record acting { num_vals = counted.num_vals }) (acts : acting ≡ record long { action = Some Set }) (named : long ≡ record start { long = Some name }) where
  pub flag_rule_is : counted.num_vals ≡ Some no_values → value.now ≡ codes "true" → rule_of start ≡ new_rule name.now → rule_of arg ≡ flag_rule name.now
  flag_rule_is range given is =
      ap rule_of missing
      ∙ ap (λ (a : Arg). record (rule_of a) { missing = value.now ∷ [] }) others
      ∙ ap₂ (λ (a : Arg) (r : Option ValueRange). record (rule_of a) { range = r; missing = value.now ∷ [] }) acts range
      ∙ ap (λ (a : Arg). record (rule_of a) { action = Some Set; range = Some no_values; missing = value.now ∷ [] }) named
      ∙ ap₂ (λ (r : Rule) (v : Text). record r { long = Some name.now; action = Some Set; range = Some no_values; missing = v ∷ [] }) is given

  pub flag_local : start.global ≡ false → arg.global ≡ false
  flag_local is =
      ap (λ (a : Arg). a.global) missing ∙ ap (λ (a : Arg). a.global) others ∙ ap (λ (a : Arg). a.global) acts ∙ ap (λ (a : Arg). a.global) named ∙ is
