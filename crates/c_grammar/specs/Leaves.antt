-- What the grammar sees of tokens: each is a leaf, of a kind.
use Rattle.std.specs.Prelude.{List, [], ◌∷◌, map}
use Rattle.run_theory.specs.declared.place.Pos.{Pos}
use Rattle.run_theory.specs.Places.{first_place}
use Rattle.c_grammar.specs.declared.kind.Kind.{Kind}
use Rattle.c_grammar.specs.declared.kind.Kind.TheVariants as K
use Rattle.c_num.specs.declared.IntType.TheVariants.{Int}
use Rattle.c_grammar.specs.declared.token.Lexeme.{Lexeme}
use Rattle.c_grammar.specs.declared.token.Lexeme.TheVariants as L
use Rattle.c_grammar.specs.declared.token.Token.{Token}

-- a token without its span
pub record Leaf : Type 0 where
  pub lexeme : Lexeme
  pub place : Pos

abbrev pub leaf_of : Token → Leaf
leaf_of token = record { lexeme = token.lexeme; place = token.place }

abbrev pub leaves_of : List Token → List Leaf
leaves_of tokens = map leaf_of tokens

abbrev pub kind_of_lexeme : Lexeme → Kind
kind_of_lexeme (L.Fixed kind) = kind
kind_of_lexeme (L.Name bytes) = K.Name
kind_of_lexeme (L.Integer value int_type) = K.Integer
kind_of_lexeme (L.Character byte) = K.Character
kind_of_lexeme (L.Literal bytes) = K.Literal
kind_of_lexeme L.EndOfText = K.End

abbrev pub kind_of : Leaf → Kind
kind_of leaf = kind_of_lexeme leaf.lexeme

-- ---- a leaf of each kind

abbrev pub sample_lexeme : Kind → Lexeme
sample_lexeme K.Name = L.Name (97 ∷ [])
sample_lexeme K.Integer = L.Integer 0 Int
sample_lexeme K.Character = L.Character 97
sample_lexeme K.Literal = L.Literal []
sample_lexeme K.End = L.EndOfText
sample_lexeme kind = L.Fixed kind

abbrev pub sample : Kind → Leaf
sample kind = record { lexeme = sample_lexeme kind; place = first_place }
