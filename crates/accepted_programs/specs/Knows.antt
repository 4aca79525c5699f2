-- What is known of a part of a text, where it is known.
use Rattle.std.specs.Prelude.{List, [], ◌∷◌, Option, Some, None}
use Rattle.c_rules.specs.Known.{Checked}

-- what is known has this property
abbrev pub IfKnown : {A : Type 0} → (A → Type 0) → Option A → Type 0
IfKnown kind None = Unit {0}
IfKnown kind (Some a) = kind a

pub record Knows {A : Type 0} (kind : A → Type 0) (checked : Checked A) : Type 0 where
  pub holds : IfKnown kind checked.known

-- each of a list has it
abbrev pub Every : {A : Type 0} → (A → Type 0) → List A → Type 0
Every kind [] = Unit {0}
Every kind (first ∷ others) = kind first × Every kind others
