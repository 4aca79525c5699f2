-- The rule of an option with a number, by the steps that make it.
use Rattle.std.proofs.Common.{◌≡◌, ◌∙◌, ℕ, false, Bor, Option, Some, ap, ap₂}
use Rattle.clap.specs.Walk.{Rule, Text, rule_of}
use Rattle.clap.specs.Simple.{new_rule}
use Rattle.clap.specs.declared.builder.arg.Arg.{Arg}
use Rattle.clap.specs.declared.builder.value_parser.ValueParser.{ValueParser}
use Rattle.clap.specs.declared.builder.value_parser.ValueParser.TheVariants.{Unsigned}
use Rattle.pcc_words.specs.Clap.{number_rule}

module _ (arg long start : Arg) (name : Bor Text) (others : arg ≡ record long { value_parser = arg.value_parser }) (named : long ≡ record start { long = Some name }) where
  pub number_rule_is : (most : ℕ) → arg.value_parser ≡ Some (Unsigned 1 most) → rule_of start ≡ new_rule name.now → rule_of arg ≡ number_rule name.now most
  number_rule_is most parser is =
      ap rule_of others ∙ ap₂ (λ (l : Arg) (p : Option ValueParser). record (rule_of l) { parser = p }) named parser
      ∙ ap (λ (r : Rule). record r { long = Some name.now; parser = Some (Unsigned 1 most) }) is

  pub stays_local : start.global ≡ false → arg.global ≡ false
  stays_local is = ap (λ (a : Arg). a.global) others ∙ ap (λ (a : Arg). a.global) named ∙ is
