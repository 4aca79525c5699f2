-- Literals whose types stand for arrays, while the table of types grows.
use Rattle.std.proofs.Common.{List, [], ◌∷◌, ◌++◌, ◌∙◌}
use Rattle.c_typed.specs.declared.definition.LiteralDef as memory_literal
use Rattle.c_typed.specs.Table.{Interned, Grows}
use Rattle.c_typed.specs.DefinitionViews.{LiteralStands, LiteralsStand}
use Rattle.c_typed.proofs.Grown.{stays}

pub literals_stay : (old new : Interned) → Grows old new → (literals : List memory_literal.LiteralDef) → LiteralsStand old literals → LiteralsStand new literals
literals_stay old new grows [] h = tt
literals_stay old new grows (first ∷ others) h =
    let kept = stays old new grows first.c_type h.0.0 in
    ((kept.0, kept.1 ∙ h.0.1), literals_stay old new grows others h.1)

pub literals_more : (table : Interned) (literals : List memory_literal.LiteralDef) (one : memory_literal.LiteralDef) → LiteralsStand table literals → LiteralStands table one → LiteralsStand table (literals ++ one ∷ [])
literals_more table [] one h k = (k, tt)
literals_more table (first ∷ others) one h k = (h.0, literals_more table others one h.1 k)
