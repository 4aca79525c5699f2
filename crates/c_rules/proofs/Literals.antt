-- The literals of a text: those in operands of `sizeof` too, wherever these stand.
use Rattle.std.specs.Prelude.{◌≡◌, ℕ, List, [], ◌∷◌, Some, None, codes, refl}
use Rattle.run_theory.specs.declared.place.Pos.{Pos}
use Rattle.c_num.specs.declared.IntType.TheVariants as I
use Rattle.c_syntax.specs.Trees
use Rattle.c_typed.specs.Typed.{LiteralDef}
use Rattle.c_rules.specs.Elaborated.{literals_in_items}

abbrev at_place : ℕ → ℕ → Pos
at_place line column = record { line = line; column = column }

abbrev name : List ℕ → Pos → Trees.NameTree
name bytes place = record { bytes = bytes; place = place }

abbrev words : Pos → Trees.SimpleTree → Trees.WordsTree
words place simple = record { place = place; words = simple }

-- int a[sizeof "abc"]; int f(char b[sizeof "d"]) { return sizeof(char[sizeof "e"]); }
abbrev items : List Trees.ItemTree
items =
    Trees.Declaration (Trees.Plain (words (at_place 1 1) (Trees.IntegerWords I.Int)))
    (record { declarator = Trees.Declarator 0 (Trees.DeclaredName (name (codes "a") (at_place 1 5))) (Trees.ArraySuffix (Trees.ArrayLength (Trees.SizeofExpr (at_place 1 7) (Trees.Literal (codes "abc") (at_place 1 14)))) Trees.NoSuffixes); init = None } ∷ [])
    ∷ Trees.Function (Trees.Plain (words (at_place 1 22) (Trees.IntegerWords I.Int)))
    (Trees.Declarator 0 (Trees.DeclaredName (name (codes "f") (at_place 1 26))) (Trees.FunctionSuffix (Trees.Parameter (words (at_place 1 28) (Trees.IntegerWords I.Char)) (Trees.Declared (Trees.Declarator 0 (Trees.DeclaredName (name (codes "b") (at_place 1 33))) (Trees.ArraySuffix (Trees.ArrayLength (Trees.SizeofExpr (at_place 1 35) (Trees.Literal (codes "d") (at_place 1 42)))) Trees.NoSuffixes))) Trees.NoParameters) Trees.NoSuffixes))
    (at_place 1 48)
    (Trees.Perform (Trees.Return (at_place 1 50) (Some (Trees.SizeofType (at_place 1 57) (Trees.TypeName (words (at_place 1 64) (Trees.IntegerWords I.Char)) (Trees.Declared (Trees.Declarator 0 Trees.NoName (Trees.ArraySuffix (Trees.ArrayLength (Trees.SizeofExpr (at_place 1 69) (Trees.Literal (codes "e") (at_place 1 76)))) Trees.NoSuffixes))))))) Trees.Close)
    ∷ []

abbrev literal : List ℕ → Pos → LiteralDef
literal bytes place = record { place = place; bytes = bytes }

each-counts : literals_in_items items ≡ literal (codes "abc") (at_place 1 14) ∷ literal (codes "d") (at_place 1 42) ∷ literal (codes "e") (at_place 1 76) ∷ []
each-counts = refl
