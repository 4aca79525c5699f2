-- The literals that stand in a tree of the grammar's rows.
use Rattle.std.specs.Prelude.{◌≡◌, List, [], ◌∷◌, ◌++◌}
use Rattle.c_grammar.specs.Table.{Alone, Then, Node}
use Rattle.c_grammar.specs.Forms.{Production}
use Rattle.c_grammar.specs.Leaves.{Leaf}
use Rattle.c_reader.specs.Grammar.{Parse}
use Rattle.c_typed.specs.Typed.{LiteralDef}

-- Each of these literals stands at the place of a leaf of the tree, in the order of the leaves.
pub data LiteralsStand : List LiteralDef → Parse → Type 0 where
  no_literal : {parse : Parse} → LiteralsStand [] parse
  literal : {leaf : Leaf} (one : LiteralDef) → one.place ≡ leaf.place → LiteralsStand (one ∷ []) (Alone leaf)
  in_row : {literals : List LiteralDef} {form : Production} {parts : Parse} → LiteralsStand literals parts → LiteralsStand literals (Node form parts)
  in_first : {literals : List LiteralDef} {first others : Parse} → LiteralsStand literals first → LiteralsStand literals (Then first others)
  in_others : {literals : List LiteralDef} {first others : Parse} → LiteralsStand literals others → LiteralsStand literals (Then first others)
  in_both : {literals more : List LiteralDef} {first others : Parse} → LiteralsStand literals first → LiteralsStand more others → LiteralsStand (literals ++ more) (Then first others)
  regrouped : (literals more last : List LiteralDef) {parse : Parse} → LiteralsStand (literals ++ (more ++ last)) parse → LiteralsStand (literals ++ more ++ last) parse
