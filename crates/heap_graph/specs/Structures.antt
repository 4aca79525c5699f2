-- Structures as a table of types keeps them: each is made of older ones.
use Rattle.std.specs.Prelude.{◌≡◌, ◌<◌, true, List, [], ◌∷◌, length, None}
use Rattle.c_typed.specs.Layouts.{StructDef, layouts, struct_layout, members_by_tag, greatest}
use Rattle.c_typed.specs.Inside.{are_sized}

-- It has a new tag, its members are of object types whose sizes are known, and it has fewer slots and members than can be counted.
pub record IsMade (older : List StructDef) (newest : StructDef) : Type 0 where
  pub fresh : members_by_tag older newest.tag ≡ None
  pub sized : are_sized older newest.members ≡ true
  pub few : (struct_layout (layouts older) newest.members).slots < greatest
  pub countable : length newest.members < greatest

abbrev pub AreMade : List StructDef → Type 0
AreMade [] = Unit {0}
AreMade (newest ∷ older) = IsMade older newest × AreMade older
