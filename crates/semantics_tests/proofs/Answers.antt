-- What programs do by the reference, each of which has one undefined operation or none, and how many units they spend.
use Rattle.std.specs.Prelude.{◌≡◌, ℕ, List, [], ◌∷◌, Option, Some, None, codes, refl}
use Rattle.run_theory.specs.declared.place.Pos.{Pos}
use Rattle.c_num.specs.declared.IntType.TheVariants as I
use Rattle.c_num.specs.Conversion.{convert_to}
use Rattle.c_num.specs.Arith.{outcome_of, negated_of, complement_of}
use Rattle.c_syntax.specs.declared.operator.PrefixOperator.TheVariants as P
use Rattle.c_syntax.specs.declared.operator.BinaryOperator.TheVariants as B
use Rattle.c_syntax.specs.declared.operator.AssignOperator.TheVariants as A
use Rattle.c_syntax.specs.Trees
use Rattle.run_theory.specs.declared.ends.UbKind.TheVariants as Ub
use Rattle.run_theory.specs.Runs.{Trace, Output, output_of, Answer, Going, Over, Ended, Undefined}
use Rattle.c_rules.specs.Programs.{refusal}
use Rattle.c_rules.specs.Elaborated.{typed_of}
use Rattle.ref_semantics.specs.Meaning.{bodies_within, greatest_depth}
use Rattle.ref_semantics.specs.First.{reference, spent}

-- an answer with what was written alone
abbrev outputs : List ℕ → Trace
outputs [] = []
outputs (byte ∷ bytes) = Output byte ∷ outputs bytes

abbrev shown : Answer → Answer
shown (Going trace) = Going (outputs (output_of trace))
shown (Over final trace) = Over final (outputs (output_of trace))

abbrev at_place : ℕ → ℕ → Pos
at_place line column = record { line = line; column = column }

abbrev name : List ℕ → Pos → Trees.NameTree
name bytes place = record { bytes = bytes; place = place }

abbrev words : Pos → Trees.SimpleTree → Trees.WordsTree
words place simple = record { place = place; words = simple }

abbrev init_declarator : Trees.DeclaratorTree → Option Trees.InitTree → Trees.InitDeclaratorTree
init_declarator declarator init = record { declarator = declarator; init = init }

abbrev declaration : Trees.WordsTree → List Trees.InitDeclaratorTree → Trees.DeclarationTree
declaration w declarators = record { words = w; declarators = declarators }

abbrev members : Trees.WordsTree → List Trees.DeclaratorTree → Trees.MemberTree
members w declarators = record { words = w; declarators = declarators }

abbrev program : List Trees.ItemTree → Pos → Trees.ProgramTree
program items end = record { items = items; end = end }

-- int a = '\377' == -1; int main(void){return 0;}
abbrev s012 : Trees.ProgramTree
s012 = (program ((Trees.Declaration (Trees.Plain (words (at_place 1 1) (Trees.IntegerWords I.Int))) ((init_declarator (Trees.Declarator 0 (Trees.DeclaredName (name (codes "a") (at_place 1 5))) Trees.NoSuffixes) (Some (Trees.InitValue (Trees.Binary B.Equal (Trees.Character 255 (at_place 1 9)) (Trees.Prefix P.Minus (at_place 1 19) (Trees.Integer 1 I.Int (at_place 1 20))))))) ∷ [])) ∷ (Trees.Function (Trees.Plain (words (at_place 1 23) (Trees.IntegerWords I.Int))) (Trees.Declarator 0 (Trees.DeclaredName (name (codes "main") (at_place 1 27))) (Trees.FunctionSuffix (Trees.Parameter (words (at_place 1 32) Trees.VoidWord) Trees.NoDeclarator Trees.NoParameters) Trees.NoSuffixes)) (at_place 1 37) (Trees.Perform (Trees.Return (at_place 1 38) (Some (Trees.Integer 0 I.Int (at_place 1 45)))) Trees.Close)) ∷ []) (at_place 1 48))

s012-accepted : refusal s012 ≡ None
unfolding convert_to outcome_of negated_of complement_of
s012-accepted = refl

s012-answer : shown (reference (typed_of s012) [] 53) ≡ Over (Ended 0) ([])
unfolding convert_to outcome_of negated_of complement_of bodies_within greatest_depth
s012-answer = refl

s012-units : spent (typed_of s012) [] 53 ≡ 3
unfolding convert_to outcome_of negated_of complement_of bodies_within greatest_depth
s012-units = refl

-- int a = 0xF+1; int main(void){return 0;}
abbrev s016 : Trees.ProgramTree
s016 = (program ((Trees.Declaration (Trees.Plain (words (at_place 1 1) (Trees.IntegerWords I.Int))) ((init_declarator (Trees.Declarator 0 (Trees.DeclaredName (name (codes "a") (at_place 1 5))) Trees.NoSuffixes) (Some (Trees.InitValue (Trees.Binary B.Add (Trees.Integer 15 I.Int (at_place 1 9)) (Trees.Integer 1 I.Int (at_place 1 13)))))) ∷ [])) ∷ (Trees.Function (Trees.Plain (words (at_place 1 16) (Trees.IntegerWords I.Int))) (Trees.Declarator 0 (Trees.DeclaredName (name (codes "main") (at_place 1 20))) (Trees.FunctionSuffix (Trees.Parameter (words (at_place 1 25) Trees.VoidWord) Trees.NoDeclarator Trees.NoParameters) Trees.NoSuffixes)) (at_place 1 30) (Trees.Perform (Trees.Return (at_place 1 31) (Some (Trees.Integer 0 I.Int (at_place 1 38)))) Trees.Close)) ∷ []) (at_place 1 41))

s016-accepted : refusal s016 ≡ None
unfolding convert_to outcome_of negated_of complement_of
s016-accepted = refl

s016-answer : shown (reference (typed_of s016) [] 53) ≡ Over (Ended 0) ([])
unfolding convert_to outcome_of negated_of complement_of bodies_within greatest_depth
s016-answer = refl

s016-units : spent (typed_of s016) [] 53 ≡ 3
unfolding convert_to outcome_of negated_of complement_of bodies_within greatest_depth
s016-units = refl

-- long a = 18446744073709551615u; int main(void){return 0;}
abbrev s022 : Trees.ProgramTree
s022 = (program ((Trees.Declaration (Trees.Plain (words (at_place 1 1) (Trees.IntegerWords I.Long))) ((init_declarator (Trees.Declarator 0 (Trees.DeclaredName (name (codes "a") (at_place 1 6))) Trees.NoSuffixes) (Some (Trees.InitValue (Trees.Integer 18446744073709551615 I.ULong (at_place 1 10))))) ∷ [])) ∷ (Trees.Function (Trees.Plain (words (at_place 1 33) (Trees.IntegerWords I.Int))) (Trees.Declarator 0 (Trees.DeclaredName (name (codes "main") (at_place 1 37))) (Trees.FunctionSuffix (Trees.Parameter (words (at_place 1 42) Trees.VoidWord) Trees.NoDeclarator Trees.NoParameters) Trees.NoSuffixes)) (at_place 1 47) (Trees.Perform (Trees.Return (at_place 1 48) (Some (Trees.Integer 0 I.Int (at_place 1 55)))) Trees.Close)) ∷ []) (at_place 1 58))

s022-accepted : refusal s022 ≡ None
unfolding convert_to outcome_of negated_of complement_of
s022-accepted = refl

s022-answer : shown (reference (typed_of s022) [] 53) ≡ Over (Ended 0) ([])
unfolding convert_to outcome_of negated_of complement_of bodies_within greatest_depth
s022-answer = refl

s022-units : spent (typed_of s022) [] 53 ≡ 3
unfolding convert_to outcome_of negated_of complement_of bodies_within greatest_depth
s022-units = refl

-- long a = 1lu + 1UL + 1Lu; int main(void){return 0;}
abbrev s027 : Trees.ProgramTree
s027 = (program ((Trees.Declaration (Trees.Plain (words (at_place 1 1) (Trees.IntegerWords I.Long))) ((init_declarator (Trees.Declarator 0 (Trees.DeclaredName (name (codes "a") (at_place 1 6))) Trees.NoSuffixes) (Some (Trees.InitValue (Trees.Binary B.Add (Trees.Binary B.Add (Trees.Integer 1 I.ULong (at_place 1 10)) (Trees.Integer 1 I.ULong (at_place 1 16))) (Trees.Integer 1 I.ULong (at_place 1 22)))))) ∷ [])) ∷ (Trees.Function (Trees.Plain (words (at_place 1 27) (Trees.IntegerWords I.Int))) (Trees.Declarator 0 (Trees.DeclaredName (name (codes "main") (at_place 1 31))) (Trees.FunctionSuffix (Trees.Parameter (words (at_place 1 36) Trees.VoidWord) Trees.NoDeclarator Trees.NoParameters) Trees.NoSuffixes)) (at_place 1 41) (Trees.Perform (Trees.Return (at_place 1 42) (Some (Trees.Integer 0 I.Int (at_place 1 49)))) Trees.Close)) ∷ []) (at_place 1 52))

s027-accepted : refusal s027 ≡ None
unfolding convert_to outcome_of negated_of complement_of
s027-accepted = refl

s027-answer : shown (reference (typed_of s027) [] 53) ≡ Over (Ended 0) ([])
unfolding convert_to outcome_of negated_of complement_of bodies_within greatest_depth
s027-answer = refl

s027-units : spent (typed_of s027) [] 53 ≡ 3
unfolding convert_to outcome_of negated_of complement_of bodies_within greatest_depth
s027-units = refl

-- #include <stdio.h> # include <stdlib.h> #include<stddef.h> int main(void){return 0;}
abbrev s028 : Trees.ProgramTree
s028 = (program ((Trees.Function (Trees.Plain (words (at_place 4 2) (Trees.IntegerWords I.Int))) (Trees.Declarator 0 (Trees.DeclaredName (name (codes "main") (at_place 4 6))) (Trees.FunctionSuffix (Trees.Parameter (words (at_place 4 11) Trees.VoidWord) Trees.NoDeclarator Trees.NoParameters) Trees.NoSuffixes)) (at_place 4 16) (Trees.Perform (Trees.Return (at_place 4 17) (Some (Trees.Integer 0 I.Int (at_place 4 24)))) Trees.Close)) ∷ []) (at_place 4 27))

s028-accepted : refusal s028 ≡ None
unfolding convert_to outcome_of negated_of complement_of
s028-accepted = refl

s028-answer : shown (reference (typed_of s028) [] 53) ≡ Over (Ended 0) ([])
unfolding convert_to outcome_of negated_of complement_of bodies_within greatest_depth
s028-answer = refl

s028-units : spent (typed_of s028) [] 53 ≡ 3
unfolding convert_to outcome_of negated_of complement_of bodies_within greatest_depth
s028-units = refl

-- /* x #define y */ int main(void){return 0;}
abbrev s034 : Trees.ProgramTree
s034 = (program ((Trees.Function (Trees.Plain (words (at_place 2 14) (Trees.IntegerWords I.Int))) (Trees.Declarator 0 (Trees.DeclaredName (name (codes "main") (at_place 2 18))) (Trees.FunctionSuffix (Trees.Parameter (words (at_place 2 23) Trees.VoidWord) Trees.NoDeclarator Trees.NoParameters) Trees.NoSuffixes)) (at_place 2 28) (Trees.Perform (Trees.Return (at_place 2 29) (Some (Trees.Integer 0 I.Int (at_place 2 36)))) Trees.Close)) ∷ []) (at_place 2 39))

s034-accepted : refusal s034 ≡ None
unfolding convert_to outcome_of negated_of complement_of
s034-accepted = refl

s034-answer : shown (reference (typed_of s034) [] 53) ≡ Over (Ended 0) ([])
unfolding convert_to outcome_of negated_of complement_of bodies_within greatest_depth
s034-answer = refl

s034-units : spent (typed_of s034) [] 53 ≡ 3
unfolding convert_to outcome_of negated_of complement_of bodies_within greatest_depth
s034-units = refl

-- long unsigned const int x; int short signed y; char unsigned const z; int main(void){return 0;}
abbrev s048 : Trees.ProgramTree
s048 = (program ((Trees.Declaration (Trees.Plain (words (at_place 1 1) (Trees.IntegerWords I.ULong))) ((init_declarator (Trees.Declarator 0 (Trees.DeclaredName (name (codes "x") (at_place 1 25))) Trees.NoSuffixes) None) ∷ [])) ∷ (Trees.Declaration (Trees.Plain (words (at_place 1 28) (Trees.IntegerWords I.Short))) ((init_declarator (Trees.Declarator 0 (Trees.DeclaredName (name (codes "y") (at_place 1 45))) Trees.NoSuffixes) None) ∷ [])) ∷ (Trees.Declaration (Trees.Plain (words (at_place 1 48) (Trees.IntegerWords I.UChar))) ((init_declarator (Trees.Declarator 0 (Trees.DeclaredName (name (codes "z") (at_place 1 68))) Trees.NoSuffixes) None) ∷ [])) ∷ (Trees.Function (Trees.Plain (words (at_place 1 71) (Trees.IntegerWords I.Int))) (Trees.Declarator 0 (Trees.DeclaredName (name (codes "main") (at_place 1 75))) (Trees.FunctionSuffix (Trees.Parameter (words (at_place 1 80) Trees.VoidWord) Trees.NoDeclarator Trees.NoParameters) Trees.NoSuffixes)) (at_place 1 85) (Trees.Perform (Trees.Return (at_place 1 86) (Some (Trees.Integer 0 I.Int (at_place 1 93)))) Trees.Close)) ∷ []) (at_place 1 96))

s048-accepted : refusal s048 ≡ None
unfolding convert_to outcome_of negated_of complement_of
s048-accepted = refl

s048-answer : shown (reference (typed_of s048) [] 53) ≡ Over (Ended 0) ([])
unfolding convert_to outcome_of negated_of complement_of bodies_within greatest_depth
s048-answer = refl

s048-units : spent (typed_of s048) [] 53 ≡ 3
unfolding convert_to outcome_of negated_of complement_of bodies_within greatest_depth
s048-units = refl

-- int f(int (x), int (*)(int), int (int), int [3], int *const *p); int main(void){return 0;}
abbrev s063 : Trees.ProgramTree
s063 = (program ((Trees.Declaration (Trees.Plain (words (at_place 1 1) (Trees.IntegerWords I.Int))) ((init_declarator (Trees.Declarator 0 (Trees.DeclaredName (name (codes "f") (at_place 1 5))) (Trees.FunctionSuffix (Trees.Parameter (words (at_place 1 7) (Trees.IntegerWords I.Int)) (Trees.Declared (Trees.Declarator 0 (Trees.Nested (Trees.Declarator 0 (Trees.DeclaredName (name (codes "x") (at_place 1 12))) Trees.NoSuffixes)) Trees.NoSuffixes)) (Trees.Parameter (words (at_place 1 16) (Trees.IntegerWords I.Int)) (Trees.Declared (Trees.Declarator 0 (Trees.Nested (Trees.Declarator 1 Trees.NoName Trees.NoSuffixes)) (Trees.FunctionSuffix (Trees.Parameter (words (at_place 1 24) (Trees.IntegerWords I.Int)) Trees.NoDeclarator Trees.NoParameters) Trees.NoSuffixes))) (Trees.Parameter (words (at_place 1 30) (Trees.IntegerWords I.Int)) (Trees.Declared (Trees.Declarator 0 Trees.NoName (Trees.FunctionSuffix (Trees.Parameter (words (at_place 1 35) (Trees.IntegerWords I.Int)) Trees.NoDeclarator Trees.NoParameters) Trees.NoSuffixes))) (Trees.Parameter (words (at_place 1 41) (Trees.IntegerWords I.Int)) (Trees.Declared (Trees.Declarator 0 Trees.NoName (Trees.ArraySuffix (Trees.ArrayLength (Trees.Integer 3 I.Int (at_place 1 46))) Trees.NoSuffixes))) (Trees.Parameter (words (at_place 1 50) (Trees.IntegerWords I.Int)) (Trees.Declared (Trees.Declarator 2 (Trees.DeclaredName (name (codes "p") (at_place 1 62))) Trees.NoSuffixes)) Trees.NoParameters))))) Trees.NoSuffixes)) None) ∷ [])) ∷ (Trees.Function (Trees.Plain (words (at_place 1 66) (Trees.IntegerWords I.Int))) (Trees.Declarator 0 (Trees.DeclaredName (name (codes "main") (at_place 1 70))) (Trees.FunctionSuffix (Trees.Parameter (words (at_place 1 75) Trees.VoidWord) Trees.NoDeclarator Trees.NoParameters) Trees.NoSuffixes)) (at_place 1 80) (Trees.Perform (Trees.Return (at_place 1 81) (Some (Trees.Integer 0 I.Int (at_place 1 88)))) Trees.Close)) ∷ []) (at_place 1 91))

s063-accepted : refusal s063 ≡ None
unfolding convert_to outcome_of negated_of complement_of
s063-accepted = refl

s063-answer : shown (reference (typed_of s063) [] 53) ≡ Over (Ended 0) ([])
unfolding convert_to outcome_of negated_of complement_of bodies_within greatest_depth
s063-answer = refl

s063-units : spent (typed_of s063) [] 53 ≡ 3
unfolding convert_to outcome_of negated_of complement_of bodies_within greatest_depth
s063-units = refl

-- int main(void) { int a; a = a ? a = 1 : 2; }
abbrev s076 : Trees.ProgramTree
s076 = (program ((Trees.Function (Trees.Plain (words (at_place 1 1) (Trees.IntegerWords I.Int))) (Trees.Declarator 0 (Trees.DeclaredName (name (codes "main") (at_place 1 5))) (Trees.FunctionSuffix (Trees.Parameter (words (at_place 1 10) Trees.VoidWord) Trees.NoDeclarator Trees.NoParameters) Trees.NoSuffixes)) (at_place 1 16) (Trees.Declare (declaration (words (at_place 1 18) (Trees.IntegerWords I.Int)) ((init_declarator (Trees.Declarator 0 (Trees.DeclaredName (name (codes "a") (at_place 1 22))) Trees.NoSuffixes) None) ∷ [])) (Trees.Perform (Trees.Expression (Trees.Assign A.Assign (Trees.Named (name (codes "a") (at_place 1 25))) (Trees.Conditional (Trees.Named (name (codes "a") (at_place 1 29))) (Trees.Assign A.Assign (Trees.Named (name (codes "a") (at_place 1 33))) (Trees.Integer 1 I.Int (at_place 1 37))) (Trees.Integer 2 I.Int (at_place 1 41))))) Trees.Close))) ∷ []) (at_place 1 45))

s076-accepted : refusal s076 ≡ None
unfolding convert_to outcome_of negated_of complement_of
s076-accepted = refl

s076-answer : shown (reference (typed_of s076) [] 56) ≡ Over (Undefined Ub.U04 (at_place 1 29)) ([])
unfolding convert_to outcome_of negated_of complement_of bodies_within greatest_depth
s076-answer = refl

s076-units : spent (typed_of s076) [] 56 ≡ 6
unfolding convert_to outcome_of negated_of complement_of bodies_within greatest_depth
s076-units = refl

-- int main() { }
abbrev s087 : Trees.ProgramTree
s087 = (program ((Trees.Function (Trees.Plain (words (at_place 1 1) (Trees.IntegerWords I.Int))) (Trees.Declarator 0 (Trees.DeclaredName (name (codes "main") (at_place 1 5))) (Trees.FunctionSuffix Trees.NoParameters Trees.NoSuffixes)) (at_place 1 12) Trees.Close) ∷ []) (at_place 1 15))

s087-accepted : refusal s087 ≡ None
unfolding convert_to outcome_of negated_of complement_of
s087-accepted = refl

s087-answer : shown (reference (typed_of s087) [] 51) ≡ Over (Ended 0) ([])
unfolding convert_to outcome_of negated_of complement_of bodies_within greatest_depth
s087-answer = refl

s087-units : spent (typed_of s087) [] 51 ≡ 1
unfolding convert_to outcome_of negated_of complement_of bodies_within greatest_depth
s087-units = refl

-- struct s *g(void); int f(struct s *p); int main(void){return 0;}
abbrev s091 : Trees.ProgramTree
s091 = (program ((Trees.Declaration (Trees.Plain (words (at_place 1 1) (Trees.StructTag (name (codes "s") (at_place 1 8))))) ((init_declarator (Trees.Declarator 1 (Trees.DeclaredName (name (codes "g") (at_place 1 11))) (Trees.FunctionSuffix (Trees.Parameter (words (at_place 1 13) Trees.VoidWord) Trees.NoDeclarator Trees.NoParameters) Trees.NoSuffixes)) None) ∷ [])) ∷ (Trees.Declaration (Trees.Plain (words (at_place 1 20) (Trees.IntegerWords I.Int))) ((init_declarator (Trees.Declarator 0 (Trees.DeclaredName (name (codes "f") (at_place 1 24))) (Trees.FunctionSuffix (Trees.Parameter (words (at_place 1 26) (Trees.StructTag (name (codes "s") (at_place 1 33)))) (Trees.Declared (Trees.Declarator 1 (Trees.DeclaredName (name (codes "p") (at_place 1 36))) Trees.NoSuffixes)) Trees.NoParameters) Trees.NoSuffixes)) None) ∷ [])) ∷ (Trees.Function (Trees.Plain (words (at_place 1 40) (Trees.IntegerWords I.Int))) (Trees.Declarator 0 (Trees.DeclaredName (name (codes "main") (at_place 1 44))) (Trees.FunctionSuffix (Trees.Parameter (words (at_place 1 49) Trees.VoidWord) Trees.NoDeclarator Trees.NoParameters) Trees.NoSuffixes)) (at_place 1 54) (Trees.Perform (Trees.Return (at_place 1 55) (Some (Trees.Integer 0 I.Int (at_place 1 62)))) Trees.Close)) ∷ []) (at_place 1 65))

s091-accepted : refusal s091 ≡ None
unfolding convert_to outcome_of negated_of complement_of
s091-accepted = refl

s091-answer : shown (reference (typed_of s091) [] 53) ≡ Over (Ended 0) ([])
unfolding convert_to outcome_of negated_of complement_of bodies_within greatest_depth
s091-answer = refl

s091-units : spent (typed_of s091) [] 53 ≡ 3
unfolding convert_to outcome_of negated_of complement_of bodies_within greatest_depth
s091-units = refl

-- int x; int x; extern int x; int main(void){return 0;}
abbrev s096 : Trees.ProgramTree
s096 = (program ((Trees.Declaration (Trees.Plain (words (at_place 1 1) (Trees.IntegerWords I.Int))) ((init_declarator (Trees.Declarator 0 (Trees.DeclaredName (name (codes "x") (at_place 1 5))) Trees.NoSuffixes) None) ∷ [])) ∷ (Trees.Declaration (Trees.Plain (words (at_place 1 8) (Trees.IntegerWords I.Int))) ((init_declarator (Trees.Declarator 0 (Trees.DeclaredName (name (codes "x") (at_place 1 12))) Trees.NoSuffixes) None) ∷ [])) ∷ (Trees.Declaration (Trees.Plain (words (at_place 1 22) (Trees.IntegerWords I.Int))) ((init_declarator (Trees.Declarator 0 (Trees.DeclaredName (name (codes "x") (at_place 1 26))) Trees.NoSuffixes) None) ∷ [])) ∷ (Trees.Function (Trees.Plain (words (at_place 1 29) (Trees.IntegerWords I.Int))) (Trees.Declarator 0 (Trees.DeclaredName (name (codes "main") (at_place 1 33))) (Trees.FunctionSuffix (Trees.Parameter (words (at_place 1 38) Trees.VoidWord) Trees.NoDeclarator Trees.NoParameters) Trees.NoSuffixes)) (at_place 1 43) (Trees.Perform (Trees.Return (at_place 1 44) (Some (Trees.Integer 0 I.Int (at_place 1 51)))) Trees.Close)) ∷ []) (at_place 1 54))

s096-accepted : refusal s096 ≡ None
unfolding convert_to outcome_of negated_of complement_of
s096-accepted = refl

s096-answer : shown (reference (typed_of s096) [] 53) ≡ Over (Ended 0) ([])
unfolding convert_to outcome_of negated_of complement_of bodies_within greatest_depth
s096-answer = refl

s096-units : spent (typed_of s096) [] 53 ≡ 3
unfolding convert_to outcome_of negated_of complement_of bodies_within greatest_depth
s096-units = refl

-- struct exit { int free; }; int main(void){return 0;}
abbrev s105 : Trees.ProgramTree
s105 = (program ((Trees.Declaration (Trees.StructBody (at_place 1 1) (name (codes "exit") (at_place 1 8)) ((members (words (at_place 1 15) (Trees.IntegerWords I.Int)) ((Trees.Declarator 0 (Trees.DeclaredName (name (codes "free") (at_place 1 19))) Trees.NoSuffixes) ∷ [])) ∷ [])) ([])) ∷ (Trees.Function (Trees.Plain (words (at_place 1 28) (Trees.IntegerWords I.Int))) (Trees.Declarator 0 (Trees.DeclaredName (name (codes "main") (at_place 1 32))) (Trees.FunctionSuffix (Trees.Parameter (words (at_place 1 37) Trees.VoidWord) Trees.NoDeclarator Trees.NoParameters) Trees.NoSuffixes)) (at_place 1 42) (Trees.Perform (Trees.Return (at_place 1 43) (Some (Trees.Integer 0 I.Int (at_place 1 50)))) Trees.Close)) ∷ []) (at_place 1 53))

s105-accepted : refusal s105 ≡ None
unfolding convert_to outcome_of negated_of complement_of
s105-accepted = refl

s105-answer : shown (reference (typed_of s105) [] 53) ≡ Over (Ended 0) ([])
unfolding convert_to outcome_of negated_of complement_of bodies_within greatest_depth
s105-answer = refl

s105-units : spent (typed_of s105) [] 53 ≡ 3
unfolding convert_to outcome_of negated_of complement_of bodies_within greatest_depth
s105-units = refl

-- int a[] = {1,2,3}; int b[sizeof a == 12]; char s[] = "abc"; int c[sizeof s - 3]; int main(void){return 0;}
abbrev s124 : Trees.ProgramTree
s124 = (program ((Trees.Declaration (Trees.Plain (words (at_place 1 1) (Trees.IntegerWords I.Int))) ((init_declarator (Trees.Declarator 0 (Trees.DeclaredName (name (codes "a") (at_place 1 5))) (Trees.ArraySuffix Trees.NoLength Trees.NoSuffixes)) (Some (Trees.InitList (at_place 1 11) (Trees.Inits (Trees.InitValue (Trees.Integer 1 I.Int (at_place 1 12))) (Trees.Inits (Trees.InitValue (Trees.Integer 2 I.Int (at_place 1 14))) (Trees.Inits (Trees.InitValue (Trees.Integer 3 I.Int (at_place 1 16))) Trees.NoInits)))))) ∷ [])) ∷ (Trees.Declaration (Trees.Plain (words (at_place 1 20) (Trees.IntegerWords I.Int))) ((init_declarator (Trees.Declarator 0 (Trees.DeclaredName (name (codes "b") (at_place 1 24))) (Trees.ArraySuffix (Trees.ArrayLength (Trees.Binary B.Equal (Trees.SizeofExpr (at_place 1 26) (Trees.Named (name (codes "a") (at_place 1 33)))) (Trees.Integer 12 I.Int (at_place 1 38)))) Trees.NoSuffixes)) None) ∷ [])) ∷ (Trees.Declaration (Trees.Plain (words (at_place 1 43) (Trees.IntegerWords I.Char))) ((init_declarator (Trees.Declarator 0 (Trees.DeclaredName (name (codes "s") (at_place 1 48))) (Trees.ArraySuffix Trees.NoLength Trees.NoSuffixes)) (Some (Trees.InitValue (Trees.Literal (97 ∷ 98 ∷ 99 ∷ []) (at_place 1 54))))) ∷ [])) ∷ (Trees.Declaration (Trees.Plain (words (at_place 1 61) (Trees.IntegerWords I.Int))) ((init_declarator (Trees.Declarator 0 (Trees.DeclaredName (name (codes "c") (at_place 1 65))) (Trees.ArraySuffix (Trees.ArrayLength (Trees.Binary B.Subtract (Trees.SizeofExpr (at_place 1 67) (Trees.Named (name (codes "s") (at_place 1 74)))) (Trees.Integer 3 I.Int (at_place 1 78)))) Trees.NoSuffixes)) None) ∷ [])) ∷ (Trees.Function (Trees.Plain (words (at_place 1 82) (Trees.IntegerWords I.Int))) (Trees.Declarator 0 (Trees.DeclaredName (name (codes "main") (at_place 1 86))) (Trees.FunctionSuffix (Trees.Parameter (words (at_place 1 91) Trees.VoidWord) Trees.NoDeclarator Trees.NoParameters) Trees.NoSuffixes)) (at_place 1 96) (Trees.Perform (Trees.Return (at_place 1 97) (Some (Trees.Integer 0 I.Int (at_place 1 104)))) Trees.Close)) ∷ []) (at_place 1 107))

s124-accepted : refusal s124 ≡ None
unfolding convert_to outcome_of negated_of complement_of
s124-accepted = refl

s124-answer : shown (reference (typed_of s124) [] 53) ≡ Over (Ended 0) ([])
unfolding convert_to outcome_of negated_of complement_of bodies_within greatest_depth
s124-answer = refl

s124-units : spent (typed_of s124) [] 53 ≡ 3
unfolding convert_to outcome_of negated_of complement_of bodies_within greatest_depth
s124-units = refl

-- int f(int a[]); int main(void){return 0;}
abbrev s127 : Trees.ProgramTree
s127 = (program ((Trees.Declaration (Trees.Plain (words (at_place 1 1) (Trees.IntegerWords I.Int))) ((init_declarator (Trees.Declarator 0 (Trees.DeclaredName (name (codes "f") (at_place 1 5))) (Trees.FunctionSuffix (Trees.Parameter (words (at_place 1 7) (Trees.IntegerWords I.Int)) (Trees.Declared (Trees.Declarator 0 (Trees.DeclaredName (name (codes "a") (at_place 1 11))) (Trees.ArraySuffix Trees.NoLength Trees.NoSuffixes))) Trees.NoParameters) Trees.NoSuffixes)) None) ∷ [])) ∷ (Trees.Function (Trees.Plain (words (at_place 1 17) (Trees.IntegerWords I.Int))) (Trees.Declarator 0 (Trees.DeclaredName (name (codes "main") (at_place 1 21))) (Trees.FunctionSuffix (Trees.Parameter (words (at_place 1 26) Trees.VoidWord) Trees.NoDeclarator Trees.NoParameters) Trees.NoSuffixes)) (at_place 1 31) (Trees.Perform (Trees.Return (at_place 1 32) (Some (Trees.Integer 0 I.Int (at_place 1 39)))) Trees.Close)) ∷ []) (at_place 1 42))

s127-accepted : refusal s127 ≡ None
unfolding convert_to outcome_of negated_of complement_of
s127-accepted = refl

s127-answer : shown (reference (typed_of s127) [] 53) ≡ Over (Ended 0) ([])
unfolding convert_to outcome_of negated_of complement_of bodies_within greatest_depth
s127-answer = refl

s127-units : spent (typed_of s127) [] 53 ≡ 3
unfolding convert_to outcome_of negated_of complement_of bodies_within greatest_depth
s127-units = refl

-- int main(void) { int (*p)(void) = (void *)0; int (*q)(void) = NULL; return p == q; }
abbrev s150 : Trees.ProgramTree
s150 = (program ((Trees.Function (Trees.Plain (words (at_place 1 1) (Trees.IntegerWords I.Int))) (Trees.Declarator 0 (Trees.DeclaredName (name (codes "main") (at_place 1 5))) (Trees.FunctionSuffix (Trees.Parameter (words (at_place 1 10) Trees.VoidWord) Trees.NoDeclarator Trees.NoParameters) Trees.NoSuffixes)) (at_place 1 16) (Trees.Declare (declaration (words (at_place 1 18) (Trees.IntegerWords I.Int)) ((init_declarator (Trees.Declarator 0 (Trees.Nested (Trees.Declarator 1 (Trees.DeclaredName (name (codes "p") (at_place 1 24))) Trees.NoSuffixes)) (Trees.FunctionSuffix (Trees.Parameter (words (at_place 1 27) Trees.VoidWord) Trees.NoDeclarator Trees.NoParameters) Trees.NoSuffixes)) (Some (Trees.InitValue (Trees.Cast (at_place 1 35) (Trees.TypeName (words (at_place 1 36) Trees.VoidWord) (Trees.Declared (Trees.Declarator 1 Trees.NoName Trees.NoSuffixes))) (Trees.Integer 0 I.Int (at_place 1 43)))))) ∷ [])) (Trees.Declare (declaration (words (at_place 1 46) (Trees.IntegerWords I.Int)) ((init_declarator (Trees.Declarator 0 (Trees.Nested (Trees.Declarator 1 (Trees.DeclaredName (name (codes "q") (at_place 1 52))) Trees.NoSuffixes)) (Trees.FunctionSuffix (Trees.Parameter (words (at_place 1 55) Trees.VoidWord) Trees.NoDeclarator Trees.NoParameters) Trees.NoSuffixes)) (Some (Trees.InitValue (Trees.Null (at_place 1 63))))) ∷ [])) (Trees.Perform (Trees.Return (at_place 1 69) (Some (Trees.Binary B.Equal (Trees.Named (name (codes "p") (at_place 1 76))) (Trees.Named (name (codes "q") (at_place 1 81)))))) Trees.Close)))) ∷ []) (at_place 1 85))

s150-accepted : refusal s150 ≡ None
unfolding convert_to outcome_of negated_of complement_of
s150-accepted = refl

s150-answer : shown (reference (typed_of s150) [] 58) ≡ Over (Ended 1) ([])
unfolding convert_to outcome_of negated_of complement_of bodies_within greatest_depth
s150-answer = refl

s150-units : spent (typed_of s150) [] 58 ≡ 8
unfolding convert_to outcome_of negated_of complement_of bodies_within greatest_depth
s150-units = refl

-- int main(void) { int *p = NULL; void *q = NULL; return p == q; }
abbrev s153 : Trees.ProgramTree
s153 = (program ((Trees.Function (Trees.Plain (words (at_place 1 1) (Trees.IntegerWords I.Int))) (Trees.Declarator 0 (Trees.DeclaredName (name (codes "main") (at_place 1 5))) (Trees.FunctionSuffix (Trees.Parameter (words (at_place 1 10) Trees.VoidWord) Trees.NoDeclarator Trees.NoParameters) Trees.NoSuffixes)) (at_place 1 16) (Trees.Declare (declaration (words (at_place 1 18) (Trees.IntegerWords I.Int)) ((init_declarator (Trees.Declarator 1 (Trees.DeclaredName (name (codes "p") (at_place 1 23))) Trees.NoSuffixes) (Some (Trees.InitValue (Trees.Null (at_place 1 27))))) ∷ [])) (Trees.Declare (declaration (words (at_place 1 33) Trees.VoidWord) ((init_declarator (Trees.Declarator 1 (Trees.DeclaredName (name (codes "q") (at_place 1 39))) Trees.NoSuffixes) (Some (Trees.InitValue (Trees.Null (at_place 1 43))))) ∷ [])) (Trees.Perform (Trees.Return (at_place 1 49) (Some (Trees.Binary B.Equal (Trees.Named (name (codes "p") (at_place 1 56))) (Trees.Named (name (codes "q") (at_place 1 61)))))) Trees.Close)))) ∷ []) (at_place 1 65))

s153-accepted : refusal s153 ≡ None
unfolding convert_to outcome_of negated_of complement_of
s153-accepted = refl

s153-answer : shown (reference (typed_of s153) [] 57) ≡ Over (Ended 1) ([])
unfolding convert_to outcome_of negated_of complement_of bodies_within greatest_depth
s153-answer = refl

s153-units : spent (typed_of s153) [] 57 ≡ 7
unfolding convert_to outcome_of negated_of complement_of bodies_within greatest_depth
s153-units = refl

-- int main(void) { (int *)0; (int *)(void *)0; (long)'a'; }
abbrev s174 : Trees.ProgramTree
s174 = (program ((Trees.Function (Trees.Plain (words (at_place 1 1) (Trees.IntegerWords I.Int))) (Trees.Declarator 0 (Trees.DeclaredName (name (codes "main") (at_place 1 5))) (Trees.FunctionSuffix (Trees.Parameter (words (at_place 1 10) Trees.VoidWord) Trees.NoDeclarator Trees.NoParameters) Trees.NoSuffixes)) (at_place 1 16) (Trees.Perform (Trees.Expression (Trees.Cast (at_place 1 18) (Trees.TypeName (words (at_place 1 19) (Trees.IntegerWords I.Int)) (Trees.Declared (Trees.Declarator 1 Trees.NoName Trees.NoSuffixes))) (Trees.Integer 0 I.Int (at_place 1 25)))) (Trees.Perform (Trees.Expression (Trees.Cast (at_place 1 28) (Trees.TypeName (words (at_place 1 29) (Trees.IntegerWords I.Int)) (Trees.Declared (Trees.Declarator 1 Trees.NoName Trees.NoSuffixes))) (Trees.Cast (at_place 1 35) (Trees.TypeName (words (at_place 1 36) Trees.VoidWord) (Trees.Declared (Trees.Declarator 1 Trees.NoName Trees.NoSuffixes))) (Trees.Integer 0 I.Int (at_place 1 43))))) (Trees.Perform (Trees.Expression (Trees.Cast (at_place 1 46) (Trees.TypeName (words (at_place 1 47) (Trees.IntegerWords I.Long)) Trees.NoDeclarator) (Trees.Character 97 (at_place 1 52)))) Trees.Close)))) ∷ []) (at_place 1 58))

s174-accepted : refusal s174 ≡ None
unfolding convert_to outcome_of negated_of complement_of
s174-accepted = refl

s174-answer : shown (reference (typed_of s174) [] 61) ≡ Over (Ended 0) ([])
unfolding convert_to outcome_of negated_of complement_of bodies_within greatest_depth
s174-answer = refl

s174-units : spent (typed_of s174) [] 61 ≡ 11
unfolding convert_to outcome_of negated_of complement_of bodies_within greatest_depth
s174-units = refl

-- struct s {int a; int b[2];} x; int *p = &x.b[1]; int *q = (&x)->b; void *v = &x; int main(void){return 0;}
abbrev s183 : Trees.ProgramTree
s183 = (program ((Trees.Declaration (Trees.StructBody (at_place 1 1) (name (codes "s") (at_place 1 8)) ((members (words (at_place 1 11) (Trees.IntegerWords I.Int)) ((Trees.Declarator 0 (Trees.DeclaredName (name (codes "a") (at_place 1 15))) Trees.NoSuffixes) ∷ [])) ∷ (members (words (at_place 1 18) (Trees.IntegerWords I.Int)) ((Trees.Declarator 0 (Trees.DeclaredName (name (codes "b") (at_place 1 22))) (Trees.ArraySuffix (Trees.ArrayLength (Trees.Integer 2 I.Int (at_place 1 24))) Trees.NoSuffixes)) ∷ [])) ∷ [])) ((init_declarator (Trees.Declarator 0 (Trees.DeclaredName (name (codes "x") (at_place 1 29))) Trees.NoSuffixes) None) ∷ [])) ∷ (Trees.Declaration (Trees.Plain (words (at_place 1 32) (Trees.IntegerWords I.Int))) ((init_declarator (Trees.Declarator 1 (Trees.DeclaredName (name (codes "p") (at_place 1 37))) Trees.NoSuffixes) (Some (Trees.InitValue (Trees.Prefix P.Address (at_place 1 41) (Trees.Index (Trees.Member (Trees.Named (name (codes "x") (at_place 1 42))) (name (codes "b") (at_place 1 44))) (Trees.Integer 1 I.Int (at_place 1 46))))))) ∷ [])) ∷ (Trees.Declaration (Trees.Plain (words (at_place 1 50) (Trees.IntegerWords I.Int))) ((init_declarator (Trees.Declarator 1 (Trees.DeclaredName (name (codes "q") (at_place 1 55))) Trees.NoSuffixes) (Some (Trees.InitValue (Trees.PointerMember (Trees.Parenthesized (at_place 1 59) (Trees.Prefix P.Address (at_place 1 60) (Trees.Named (name (codes "x") (at_place 1 61))))) (name (codes "b") (at_place 1 65)))))) ∷ [])) ∷ (Trees.Declaration (Trees.Plain (words (at_place 1 68) Trees.VoidWord)) ((init_declarator (Trees.Declarator 1 (Trees.DeclaredName (name (codes "v") (at_place 1 74))) Trees.NoSuffixes) (Some (Trees.InitValue (Trees.Prefix P.Address (at_place 1 78) (Trees.Named (name (codes "x") (at_place 1 79))))))) ∷ [])) ∷ (Trees.Function (Trees.Plain (words (at_place 1 82) (Trees.IntegerWords I.Int))) (Trees.Declarator 0 (Trees.DeclaredName (name (codes "main") (at_place 1 86))) (Trees.FunctionSuffix (Trees.Parameter (words (at_place 1 91) Trees.VoidWord) Trees.NoDeclarator Trees.NoParameters) Trees.NoSuffixes)) (at_place 1 96) (Trees.Perform (Trees.Return (at_place 1 97) (Some (Trees.Integer 0 I.Int (at_place 1 104)))) Trees.Close)) ∷ []) (at_place 1 107))

s183-accepted : refusal s183 ≡ None
unfolding convert_to outcome_of negated_of complement_of
s183-accepted = refl

s183-answer : shown (reference (typed_of s183) [] 53) ≡ Over (Ended 0) ([])
unfolding convert_to outcome_of negated_of complement_of bodies_within greatest_depth
s183-answer = refl

s183-units : spent (typed_of s183) [] 53 ≡ 3
unfolding convert_to outcome_of negated_of complement_of bodies_within greatest_depth
s183-units = refl

-- int main(void) { switch ((char)1) { case 0: case 256: ; } }
abbrev s201 : Trees.ProgramTree
s201 = (program ((Trees.Function (Trees.Plain (words (at_place 1 1) (Trees.IntegerWords I.Int))) (Trees.Declarator 0 (Trees.DeclaredName (name (codes "main") (at_place 1 5))) (Trees.FunctionSuffix (Trees.Parameter (words (at_place 1 10) Trees.VoidWord) Trees.NoDeclarator Trees.NoParameters) Trees.NoSuffixes)) (at_place 1 16) (Trees.Perform (Trees.Switch (at_place 1 18) (Trees.Cast (at_place 1 26) (Trees.TypeName (words (at_place 1 27) (Trees.IntegerWords I.Char)) Trees.NoDeclarator) (Trees.Integer 1 I.Int (at_place 1 32))) (Trees.Case (at_place 1 37) (Trees.Integer 0 I.Int (at_place 1 42)) (Trees.Case (at_place 1 45) (Trees.Integer 256 I.Int (at_place 1 50)) (Trees.SwitchStmt (Trees.Empty (at_place 1 55)) Trees.SwitchEnd)))) Trees.Close)) ∷ []) (at_place 1 60))

s201-accepted : refusal s201 ≡ None
unfolding convert_to outcome_of negated_of complement_of
s201-accepted = refl

s201-answer : shown (reference (typed_of s201) [] 56) ≡ Over (Ended 0) ([])
unfolding convert_to outcome_of negated_of complement_of bodies_within greatest_depth
s201-answer = refl

s201-units : spent (typed_of s201) [] 56 ≡ 6
unfolding convert_to outcome_of negated_of complement_of bodies_within greatest_depth
s201-units = refl

-- int f(void); int f(void); int main(void){return 0;}
abbrev s207 : Trees.ProgramTree
s207 = (program ((Trees.Declaration (Trees.Plain (words (at_place 1 1) (Trees.IntegerWords I.Int))) ((init_declarator (Trees.Declarator 0 (Trees.DeclaredName (name (codes "f") (at_place 1 5))) (Trees.FunctionSuffix (Trees.Parameter (words (at_place 1 7) Trees.VoidWord) Trees.NoDeclarator Trees.NoParameters) Trees.NoSuffixes)) None) ∷ [])) ∷ (Trees.Declaration (Trees.Plain (words (at_place 1 14) (Trees.IntegerWords I.Int))) ((init_declarator (Trees.Declarator 0 (Trees.DeclaredName (name (codes "f") (at_place 1 18))) (Trees.FunctionSuffix (Trees.Parameter (words (at_place 1 20) Trees.VoidWord) Trees.NoDeclarator Trees.NoParameters) Trees.NoSuffixes)) None) ∷ [])) ∷ (Trees.Function (Trees.Plain (words (at_place 1 27) (Trees.IntegerWords I.Int))) (Trees.Declarator 0 (Trees.DeclaredName (name (codes "main") (at_place 1 31))) (Trees.FunctionSuffix (Trees.Parameter (words (at_place 1 36) Trees.VoidWord) Trees.NoDeclarator Trees.NoParameters) Trees.NoSuffixes)) (at_place 1 41) (Trees.Perform (Trees.Return (at_place 1 42) (Some (Trees.Integer 0 I.Int (at_place 1 49)))) Trees.Close)) ∷ []) (at_place 1 52))

s207-accepted : refusal s207 ≡ None
unfolding convert_to outcome_of negated_of complement_of
s207-accepted = refl

s207-answer : shown (reference (typed_of s207) [] 53) ≡ Over (Ended 0) ([])
unfolding convert_to outcome_of negated_of complement_of bodies_within greatest_depth
s207-answer = refl

s207-units : spent (typed_of s207) [] 53 ≡ 3
unfolding convert_to outcome_of negated_of complement_of bodies_within greatest_depth
s207-units = refl

-- int a = 0 && 1/0; int main(void){return 0;}
abbrev s214 : Trees.ProgramTree
s214 = (program ((Trees.Declaration (Trees.Plain (words (at_place 1 1) (Trees.IntegerWords I.Int))) ((init_declarator (Trees.Declarator 0 (Trees.DeclaredName (name (codes "a") (at_place 1 5))) Trees.NoSuffixes) (Some (Trees.InitValue (Trees.Binary B.And (Trees.Integer 0 I.Int (at_place 1 9)) (Trees.Binary B.Divide (Trees.Integer 1 I.Int (at_place 1 14)) (Trees.Integer 0 I.Int (at_place 1 16))))))) ∷ [])) ∷ (Trees.Function (Trees.Plain (words (at_place 1 19) (Trees.IntegerWords I.Int))) (Trees.Declarator 0 (Trees.DeclaredName (name (codes "main") (at_place 1 23))) (Trees.FunctionSuffix (Trees.Parameter (words (at_place 1 28) Trees.VoidWord) Trees.NoDeclarator Trees.NoParameters) Trees.NoSuffixes)) (at_place 1 33) (Trees.Perform (Trees.Return (at_place 1 34) (Some (Trees.Integer 0 I.Int (at_place 1 41)))) Trees.Close)) ∷ []) (at_place 1 44))

s214-accepted : refusal s214 ≡ None
unfolding convert_to outcome_of negated_of complement_of
s214-accepted = refl

s214-answer : shown (reference (typed_of s214) [] 53) ≡ Over (Ended 0) ([])
unfolding convert_to outcome_of negated_of complement_of bodies_within greatest_depth
s214-answer = refl

s214-units : spent (typed_of s214) [] 53 ≡ 3
unfolding convert_to outcome_of negated_of complement_of bodies_within greatest_depth
s214-units = refl

-- int x; int *p = &x + 1; int main(void){return 0;}
abbrev s219 : Trees.ProgramTree
s219 = (program ((Trees.Declaration (Trees.Plain (words (at_place 1 1) (Trees.IntegerWords I.Int))) ((init_declarator (Trees.Declarator 0 (Trees.DeclaredName (name (codes "x") (at_place 1 5))) Trees.NoSuffixes) None) ∷ [])) ∷ (Trees.Declaration (Trees.Plain (words (at_place 1 8) (Trees.IntegerWords I.Int))) ((init_declarator (Trees.Declarator 1 (Trees.DeclaredName (name (codes "p") (at_place 1 13))) Trees.NoSuffixes) (Some (Trees.InitValue (Trees.Binary B.Add (Trees.Prefix P.Address (at_place 1 17) (Trees.Named (name (codes "x") (at_place 1 18)))) (Trees.Integer 1 I.Int (at_place 1 22)))))) ∷ [])) ∷ (Trees.Function (Trees.Plain (words (at_place 1 25) (Trees.IntegerWords I.Int))) (Trees.Declarator 0 (Trees.DeclaredName (name (codes "main") (at_place 1 29))) (Trees.FunctionSuffix (Trees.Parameter (words (at_place 1 34) Trees.VoidWord) Trees.NoDeclarator Trees.NoParameters) Trees.NoSuffixes)) (at_place 1 39) (Trees.Perform (Trees.Return (at_place 1 40) (Some (Trees.Integer 0 I.Int (at_place 1 47)))) Trees.Close)) ∷ []) (at_place 1 50))

s219-accepted : refusal s219 ≡ None
unfolding convert_to outcome_of negated_of complement_of
s219-accepted = refl

s219-answer : shown (reference (typed_of s219) [] 53) ≡ Over (Ended 0) ([])
unfolding convert_to outcome_of negated_of complement_of bodies_within greatest_depth
s219-answer = refl

s219-units : spent (typed_of s219) [] 53 ≡ 3
unfolding convert_to outcome_of negated_of complement_of bodies_within greatest_depth
s219-units = refl

-- int main(void) { return -(2147483647 + 1); }
abbrev s223 : Trees.ProgramTree
s223 = (program ((Trees.Function (Trees.Plain (words (at_place 1 1) (Trees.IntegerWords I.Int))) (Trees.Declarator 0 (Trees.DeclaredName (name (codes "main") (at_place 1 5))) (Trees.FunctionSuffix (Trees.Parameter (words (at_place 1 10) Trees.VoidWord) Trees.NoDeclarator Trees.NoParameters) Trees.NoSuffixes)) (at_place 1 16) (Trees.Perform (Trees.Return (at_place 1 18) (Some (Trees.Prefix P.Minus (at_place 1 25) (Trees.Parenthesized (at_place 1 26) (Trees.Binary B.Add (Trees.Integer 2147483647 I.Int (at_place 1 27)) (Trees.Integer 1 I.Int (at_place 1 40))))))) Trees.Close)) ∷ []) (at_place 1 45))

s223-accepted : refusal s223 ≡ None
unfolding convert_to outcome_of negated_of complement_of
s223-accepted = refl

s223-answer : shown (reference (typed_of s223) [] 57) ≡ Over (Undefined Ub.U01 (at_place 1 27)) ([])
unfolding convert_to outcome_of negated_of complement_of bodies_within greatest_depth
s223-answer = refl

s223-units : spent (typed_of s223) [] 57 ≡ 7
unfolding convert_to outcome_of negated_of complement_of bodies_within greatest_depth
s223-units = refl

-- int main(void) { return 1 / 0; }
abbrev s226 : Trees.ProgramTree
s226 = (program ((Trees.Function (Trees.Plain (words (at_place 1 1) (Trees.IntegerWords I.Int))) (Trees.Declarator 0 (Trees.DeclaredName (name (codes "main") (at_place 1 5))) (Trees.FunctionSuffix (Trees.Parameter (words (at_place 1 10) Trees.VoidWord) Trees.NoDeclarator Trees.NoParameters) Trees.NoSuffixes)) (at_place 1 16) (Trees.Perform (Trees.Return (at_place 1 18) (Some (Trees.Binary B.Divide (Trees.Integer 1 I.Int (at_place 1 25)) (Trees.Integer 0 I.Int (at_place 1 29))))) Trees.Close)) ∷ []) (at_place 1 33))

s226-accepted : refusal s226 ≡ None
unfolding convert_to outcome_of negated_of complement_of
s226-accepted = refl

s226-answer : shown (reference (typed_of s226) [] 55) ≡ Over (Undefined Ub.U02 (at_place 1 25)) ([])
unfolding convert_to outcome_of negated_of complement_of bodies_within greatest_depth
s226-answer = refl

s226-units : spent (typed_of s226) [] 55 ≡ 5
unfolding convert_to outcome_of negated_of complement_of bodies_within greatest_depth
s226-units = refl

-- int main(void) { return 2147483647 + 1; }
abbrev s228 : Trees.ProgramTree
s228 = (program ((Trees.Function (Trees.Plain (words (at_place 1 1) (Trees.IntegerWords I.Int))) (Trees.Declarator 0 (Trees.DeclaredName (name (codes "main") (at_place 1 5))) (Trees.FunctionSuffix (Trees.Parameter (words (at_place 1 10) Trees.VoidWord) Trees.NoDeclarator Trees.NoParameters) Trees.NoSuffixes)) (at_place 1 16) (Trees.Perform (Trees.Return (at_place 1 18) (Some (Trees.Binary B.Add (Trees.Integer 2147483647 I.Int (at_place 1 25)) (Trees.Integer 1 I.Int (at_place 1 38))))) Trees.Close)) ∷ []) (at_place 1 42))

s228-accepted : refusal s228 ≡ None
unfolding convert_to outcome_of negated_of complement_of
s228-accepted = refl

s228-answer : shown (reference (typed_of s228) [] 55) ≡ Over (Undefined Ub.U01 (at_place 1 25)) ([])
unfolding convert_to outcome_of negated_of complement_of bodies_within greatest_depth
s228-answer = refl

s228-units : spent (typed_of s228) [] 55 ≡ 5
unfolding convert_to outcome_of negated_of complement_of bodies_within greatest_depth
s228-units = refl

-- int main(void) { int x = 2147483647; x++; }
abbrev s229 : Trees.ProgramTree
s229 = (program ((Trees.Function (Trees.Plain (words (at_place 1 1) (Trees.IntegerWords I.Int))) (Trees.Declarator 0 (Trees.DeclaredName (name (codes "main") (at_place 1 5))) (Trees.FunctionSuffix (Trees.Parameter (words (at_place 1 10) Trees.VoidWord) Trees.NoDeclarator Trees.NoParameters) Trees.NoSuffixes)) (at_place 1 16) (Trees.Declare (declaration (words (at_place 1 18) (Trees.IntegerWords I.Int)) ((init_declarator (Trees.Declarator 0 (Trees.DeclaredName (name (codes "x") (at_place 1 22))) Trees.NoSuffixes) (Some (Trees.InitValue (Trees.Integer 2147483647 I.Int (at_place 1 26))))) ∷ [])) (Trees.Perform (Trees.Expression (Trees.PostIncrement (Trees.Named (name (codes "x") (at_place 1 38))))) Trees.Close))) ∷ []) (at_place 1 44))

s229-accepted : refusal s229 ≡ None
unfolding convert_to outcome_of negated_of complement_of
s229-accepted = refl

s229-answer : shown (reference (typed_of s229) [] 55) ≡ Over (Undefined Ub.U01 (at_place 1 38)) ([])
unfolding convert_to outcome_of negated_of complement_of bodies_within greatest_depth
s229-answer = refl

s229-units : spent (typed_of s229) [] 55 ≡ 5
unfolding convert_to outcome_of negated_of complement_of bodies_within greatest_depth
s229-units = refl

-- int main(void) { char x = 127; x++; return x == -128; }
abbrev s231 : Trees.ProgramTree
s231 = (program ((Trees.Function (Trees.Plain (words (at_place 1 1) (Trees.IntegerWords I.Int))) (Trees.Declarator 0 (Trees.DeclaredName (name (codes "main") (at_place 1 5))) (Trees.FunctionSuffix (Trees.Parameter (words (at_place 1 10) Trees.VoidWord) Trees.NoDeclarator Trees.NoParameters) Trees.NoSuffixes)) (at_place 1 16) (Trees.Declare (declaration (words (at_place 1 18) (Trees.IntegerWords I.Char)) ((init_declarator (Trees.Declarator 0 (Trees.DeclaredName (name (codes "x") (at_place 1 23))) Trees.NoSuffixes) (Some (Trees.InitValue (Trees.Integer 127 I.Int (at_place 1 27))))) ∷ [])) (Trees.Perform (Trees.Expression (Trees.PostIncrement (Trees.Named (name (codes "x") (at_place 1 32))))) (Trees.Perform (Trees.Return (at_place 1 37) (Some (Trees.Binary B.Equal (Trees.Named (name (codes "x") (at_place 1 44))) (Trees.Prefix P.Minus (at_place 1 49) (Trees.Integer 128 I.Int (at_place 1 50)))))) Trees.Close)))) ∷ []) (at_place 1 56))

s231-accepted : refusal s231 ≡ None
unfolding convert_to outcome_of negated_of complement_of
s231-accepted = refl

s231-answer : shown (reference (typed_of s231) [] 60) ≡ Over (Ended 1) ([])
unfolding convert_to outcome_of negated_of complement_of bodies_within greatest_depth
s231-answer = refl

s231-units : spent (typed_of s231) [] 60 ≡ 10
unfolding convert_to outcome_of negated_of complement_of bodies_within greatest_depth
s231-units = refl

-- int main(void) { return (-2147483647-1) % -1; }
abbrev s232 : Trees.ProgramTree
s232 = (program ((Trees.Function (Trees.Plain (words (at_place 1 1) (Trees.IntegerWords I.Int))) (Trees.Declarator 0 (Trees.DeclaredName (name (codes "main") (at_place 1 5))) (Trees.FunctionSuffix (Trees.Parameter (words (at_place 1 10) Trees.VoidWord) Trees.NoDeclarator Trees.NoParameters) Trees.NoSuffixes)) (at_place 1 16) (Trees.Perform (Trees.Return (at_place 1 18) (Some (Trees.Binary B.Remainder (Trees.Parenthesized (at_place 1 25) (Trees.Binary B.Subtract (Trees.Prefix P.Minus (at_place 1 26) (Trees.Integer 2147483647 I.Int (at_place 1 27))) (Trees.Integer 1 I.Int (at_place 1 38)))) (Trees.Prefix P.Minus (at_place 1 43) (Trees.Integer 1 I.Int (at_place 1 44)))))) Trees.Close)) ∷ []) (at_place 1 48))

s232-accepted : refusal s232 ≡ None
unfolding convert_to outcome_of negated_of complement_of
s232-accepted = refl

s232-answer : shown (reference (typed_of s232) [] 60) ≡ Over (Undefined Ub.U01 (at_place 1 25)) ([])
unfolding convert_to outcome_of negated_of complement_of bodies_within greatest_depth
s232-answer = refl

s232-units : spent (typed_of s232) [] 60 ≡ 10
unfolding convert_to outcome_of negated_of complement_of bodies_within greatest_depth
s232-units = refl

-- int main(void) { return 1 << 32; }
abbrev s234 : Trees.ProgramTree
s234 = (program ((Trees.Function (Trees.Plain (words (at_place 1 1) (Trees.IntegerWords I.Int))) (Trees.Declarator 0 (Trees.DeclaredName (name (codes "main") (at_place 1 5))) (Trees.FunctionSuffix (Trees.Parameter (words (at_place 1 10) Trees.VoidWord) Trees.NoDeclarator Trees.NoParameters) Trees.NoSuffixes)) (at_place 1 16) (Trees.Perform (Trees.Return (at_place 1 18) (Some (Trees.Binary B.ShiftLeft (Trees.Integer 1 I.Int (at_place 1 25)) (Trees.Integer 32 I.Int (at_place 1 30))))) Trees.Close)) ∷ []) (at_place 1 35))

s234-accepted : refusal s234 ≡ None
unfolding convert_to outcome_of negated_of complement_of
s234-accepted = refl

s234-answer : shown (reference (typed_of s234) [] 55) ≡ Over (Undefined Ub.U03 (at_place 1 25)) ([])
unfolding convert_to outcome_of negated_of complement_of bodies_within greatest_depth
s234-answer = refl

s234-units : spent (typed_of s234) [] 55 ≡ 5
unfolding convert_to outcome_of negated_of complement_of bodies_within greatest_depth
s234-units = refl

-- int main(void) { return 1 << -1; }
abbrev s235 : Trees.ProgramTree
s235 = (program ((Trees.Function (Trees.Plain (words (at_place 1 1) (Trees.IntegerWords I.Int))) (Trees.Declarator 0 (Trees.DeclaredName (name (codes "main") (at_place 1 5))) (Trees.FunctionSuffix (Trees.Parameter (words (at_place 1 10) Trees.VoidWord) Trees.NoDeclarator Trees.NoParameters) Trees.NoSuffixes)) (at_place 1 16) (Trees.Perform (Trees.Return (at_place 1 18) (Some (Trees.Binary B.ShiftLeft (Trees.Integer 1 I.Int (at_place 1 25)) (Trees.Prefix P.Minus (at_place 1 30) (Trees.Integer 1 I.Int (at_place 1 31)))))) Trees.Close)) ∷ []) (at_place 1 35))

s235-accepted : refusal s235 ≡ None
unfolding convert_to outcome_of negated_of complement_of
s235-accepted = refl

s235-answer : shown (reference (typed_of s235) [] 56) ≡ Over (Undefined Ub.U03 (at_place 1 25)) ([])
unfolding convert_to outcome_of negated_of complement_of bodies_within greatest_depth
s235-answer = refl

s235-units : spent (typed_of s235) [] 56 ≡ 6
unfolding convert_to outcome_of negated_of complement_of bodies_within greatest_depth
s235-units = refl

-- int main(void) { return -1 << 1; }
abbrev s237 : Trees.ProgramTree
s237 = (program ((Trees.Function (Trees.Plain (words (at_place 1 1) (Trees.IntegerWords I.Int))) (Trees.Declarator 0 (Trees.DeclaredName (name (codes "main") (at_place 1 5))) (Trees.FunctionSuffix (Trees.Parameter (words (at_place 1 10) Trees.VoidWord) Trees.NoDeclarator Trees.NoParameters) Trees.NoSuffixes)) (at_place 1 16) (Trees.Perform (Trees.Return (at_place 1 18) (Some (Trees.Binary B.ShiftLeft (Trees.Prefix P.Minus (at_place 1 25) (Trees.Integer 1 I.Int (at_place 1 26))) (Trees.Integer 1 I.Int (at_place 1 31))))) Trees.Close)) ∷ []) (at_place 1 35))

s237-accepted : refusal s237 ≡ None
unfolding convert_to outcome_of negated_of complement_of
s237-accepted = refl

s237-answer : shown (reference (typed_of s237) [] 56) ≡ Over (Undefined Ub.U03 (at_place 1 25)) ([])
unfolding convert_to outcome_of negated_of complement_of bodies_within greatest_depth
s237-answer = refl

s237-units : spent (typed_of s237) [] 56 ≡ 6
unfolding convert_to outcome_of negated_of complement_of bodies_within greatest_depth
s237-units = refl

-- int main(void) { return (1u << 31) >> 31; }
abbrev s238 : Trees.ProgramTree
s238 = (program ((Trees.Function (Trees.Plain (words (at_place 1 1) (Trees.IntegerWords I.Int))) (Trees.Declarator 0 (Trees.DeclaredName (name (codes "main") (at_place 1 5))) (Trees.FunctionSuffix (Trees.Parameter (words (at_place 1 10) Trees.VoidWord) Trees.NoDeclarator Trees.NoParameters) Trees.NoSuffixes)) (at_place 1 16) (Trees.Perform (Trees.Return (at_place 1 18) (Some (Trees.Binary B.ShiftRight (Trees.Parenthesized (at_place 1 25) (Trees.Binary B.ShiftLeft (Trees.Integer 1 I.UInt (at_place 1 26)) (Trees.Integer 31 I.Int (at_place 1 32)))) (Trees.Integer 31 I.Int (at_place 1 39))))) Trees.Close)) ∷ []) (at_place 1 44))

s238-accepted : refusal s238 ≡ None
unfolding convert_to outcome_of negated_of complement_of
s238-accepted = refl

s238-answer : shown (reference (typed_of s238) [] 58) ≡ Over (Ended 1) ([])
unfolding convert_to outcome_of negated_of complement_of bodies_within greatest_depth
s238-answer = refl

s238-units : spent (typed_of s238) [] 58 ≡ 8
unfolding convert_to outcome_of negated_of complement_of bodies_within greatest_depth
s238-units = refl

-- int main(void) { int x; return x + 1; }
abbrev s240 : Trees.ProgramTree
s240 = (program ((Trees.Function (Trees.Plain (words (at_place 1 1) (Trees.IntegerWords I.Int))) (Trees.Declarator 0 (Trees.DeclaredName (name (codes "main") (at_place 1 5))) (Trees.FunctionSuffix (Trees.Parameter (words (at_place 1 10) Trees.VoidWord) Trees.NoDeclarator Trees.NoParameters) Trees.NoSuffixes)) (at_place 1 16) (Trees.Declare (declaration (words (at_place 1 18) (Trees.IntegerWords I.Int)) ((init_declarator (Trees.Declarator 0 (Trees.DeclaredName (name (codes "x") (at_place 1 22))) Trees.NoSuffixes) None) ∷ [])) (Trees.Perform (Trees.Return (at_place 1 25) (Some (Trees.Binary B.Add (Trees.Named (name (codes "x") (at_place 1 32))) (Trees.Integer 1 I.Int (at_place 1 36))))) Trees.Close))) ∷ []) (at_place 1 40))

s240-accepted : refusal s240 ≡ None
unfolding convert_to outcome_of negated_of complement_of
s240-accepted = refl

s240-answer : shown (reference (typed_of s240) [] 54) ≡ Over (Undefined Ub.U04 (at_place 1 32)) ([])
unfolding convert_to outcome_of negated_of complement_of bodies_within greatest_depth
s240-answer = refl

s240-units : spent (typed_of s240) [] 54 ≡ 4
unfolding convert_to outcome_of negated_of complement_of bodies_within greatest_depth
s240-units = refl

-- int main(void) { int x; return (x); }
abbrev s310 : Trees.ProgramTree
s310 = (program ((Trees.Function (Trees.Plain (words (at_place 1 1) (Trees.IntegerWords I.Int))) (Trees.Declarator 0 (Trees.DeclaredName (name (codes "main") (at_place 1 5))) (Trees.FunctionSuffix (Trees.Parameter (words (at_place 1 10) Trees.VoidWord) Trees.NoDeclarator Trees.NoParameters) Trees.NoSuffixes)) (at_place 1 16) (Trees.Declare (declaration (words (at_place 1 18) (Trees.IntegerWords I.Int)) ((init_declarator (Trees.Declarator 0 (Trees.DeclaredName (name (codes "x") (at_place 1 22))) Trees.NoSuffixes) None) ∷ [])) (Trees.Perform (Trees.Return (at_place 1 25) (Some (Trees.Parenthesized (at_place 1 32) (Trees.Named (name (codes "x") (at_place 1 33)))))) Trees.Close))) ∷ []) (at_place 1 37))

s310-accepted : refusal s310 ≡ None
unfolding convert_to outcome_of negated_of complement_of
s310-accepted = refl

s310-answer : shown (reference (typed_of s310) [] 54) ≡ Over (Undefined Ub.U04 (at_place 1 33)) ([])
unfolding convert_to outcome_of negated_of complement_of bodies_within greatest_depth
s310-answer = refl

s310-units : spent (typed_of s310) [] 54 ≡ 4
unfolding convert_to outcome_of negated_of complement_of bodies_within greatest_depth
s310-units = refl

-- int main(void) { int x; return ((x)) + 1; }
abbrev s311 : Trees.ProgramTree
s311 = (program ((Trees.Function (Trees.Plain (words (at_place 1 1) (Trees.IntegerWords I.Int))) (Trees.Declarator 0 (Trees.DeclaredName (name (codes "main") (at_place 1 5))) (Trees.FunctionSuffix (Trees.Parameter (words (at_place 1 10) Trees.VoidWord) Trees.NoDeclarator Trees.NoParameters) Trees.NoSuffixes)) (at_place 1 16) (Trees.Declare (declaration (words (at_place 1 18) (Trees.IntegerWords I.Int)) ((init_declarator (Trees.Declarator 0 (Trees.DeclaredName (name (codes "x") (at_place 1 22))) Trees.NoSuffixes) None) ∷ [])) (Trees.Perform (Trees.Return (at_place 1 25) (Some (Trees.Binary B.Add (Trees.Parenthesized (at_place 1 32) (Trees.Parenthesized (at_place 1 33) (Trees.Named (name (codes "x") (at_place 1 34))))) (Trees.Integer 1 I.Int (at_place 1 40))))) Trees.Close))) ∷ []) (at_place 1 44))

s311-accepted : refusal s311 ≡ None
unfolding convert_to outcome_of negated_of complement_of
s311-accepted = refl

s311-answer : shown (reference (typed_of s311) [] 58) ≡ Over (Undefined Ub.U04 (at_place 1 34)) ([])
unfolding convert_to outcome_of negated_of complement_of bodies_within greatest_depth
s311-answer = refl

-- int main(void) { int x; x++; }
abbrev s241 : Trees.ProgramTree
s241 = (program ((Trees.Function (Trees.Plain (words (at_place 1 1) (Trees.IntegerWords I.Int))) (Trees.Declarator 0 (Trees.DeclaredName (name (codes "main") (at_place 1 5))) (Trees.FunctionSuffix (Trees.Parameter (words (at_place 1 10) Trees.VoidWord) Trees.NoDeclarator Trees.NoParameters) Trees.NoSuffixes)) (at_place 1 16) (Trees.Declare (declaration (words (at_place 1 18) (Trees.IntegerWords I.Int)) ((init_declarator (Trees.Declarator 0 (Trees.DeclaredName (name (codes "x") (at_place 1 22))) Trees.NoSuffixes) None) ∷ [])) (Trees.Perform (Trees.Expression (Trees.PostIncrement (Trees.Named (name (codes "x") (at_place 1 25))))) Trees.Close))) ∷ []) (at_place 1 31))

s241-accepted : refusal s241 ≡ None
unfolding convert_to outcome_of negated_of complement_of
s241-accepted = refl

s241-answer : shown (reference (typed_of s241) [] 54) ≡ Over (Undefined Ub.U04 (at_place 1 25)) ([])
unfolding convert_to outcome_of negated_of complement_of bodies_within greatest_depth
s241-answer = refl

s241-units : spent (typed_of s241) [] 54 ≡ 4
unfolding convert_to outcome_of negated_of complement_of bodies_within greatest_depth
s241-units = refl

-- int main(void) { int *p = malloc(4); return *p; }
abbrev s243 : Trees.ProgramTree
s243 = (program ((Trees.Function (Trees.Plain (words (at_place 1 1) (Trees.IntegerWords I.Int))) (Trees.Declarator 0 (Trees.DeclaredName (name (codes "main") (at_place 1 5))) (Trees.FunctionSuffix (Trees.Parameter (words (at_place 1 10) Trees.VoidWord) Trees.NoDeclarator Trees.NoParameters) Trees.NoSuffixes)) (at_place 1 16) (Trees.Declare (declaration (words (at_place 1 18) (Trees.IntegerWords I.Int)) ((init_declarator (Trees.Declarator 1 (Trees.DeclaredName (name (codes "p") (at_place 1 23))) Trees.NoSuffixes) (Some (Trees.InitValue (Trees.Call (Trees.Named (name (codes "malloc") (at_place 1 27))) (at_place 1 33) (Trees.Argument (Trees.Integer 4 I.Int (at_place 1 34)) Trees.NoArguments))))) ∷ [])) (Trees.Perform (Trees.Return (at_place 1 38) (Some (Trees.Prefix P.Dereference (at_place 1 45) (Trees.Named (name (codes "p") (at_place 1 46)))))) Trees.Close))) ∷ []) (at_place 1 50))

s243-accepted : refusal s243 ≡ None
unfolding convert_to outcome_of negated_of complement_of
s243-accepted = refl

s243-answer : shown (reference (typed_of s243) [] 57) ≡ Over (Undefined Ub.U04 (at_place 1 45)) ([])
unfolding convert_to outcome_of negated_of complement_of bodies_within greatest_depth
s243-answer = refl

s243-units : spent (typed_of s243) [] 57 ≡ 7
unfolding convert_to outcome_of negated_of complement_of bodies_within greatest_depth
s243-units = refl

-- int main(void) { int *p = NULL; return *p; }
abbrev s244 : Trees.ProgramTree
s244 = (program ((Trees.Function (Trees.Plain (words (at_place 1 1) (Trees.IntegerWords I.Int))) (Trees.Declarator 0 (Trees.DeclaredName (name (codes "main") (at_place 1 5))) (Trees.FunctionSuffix (Trees.Parameter (words (at_place 1 10) Trees.VoidWord) Trees.NoDeclarator Trees.NoParameters) Trees.NoSuffixes)) (at_place 1 16) (Trees.Declare (declaration (words (at_place 1 18) (Trees.IntegerWords I.Int)) ((init_declarator (Trees.Declarator 1 (Trees.DeclaredName (name (codes "p") (at_place 1 23))) Trees.NoSuffixes) (Some (Trees.InitValue (Trees.Null (at_place 1 27))))) ∷ [])) (Trees.Perform (Trees.Return (at_place 1 33) (Some (Trees.Prefix P.Dereference (at_place 1 40) (Trees.Named (name (codes "p") (at_place 1 41)))))) Trees.Close))) ∷ []) (at_place 1 45))

s244-accepted : refusal s244 ≡ None
unfolding convert_to outcome_of negated_of complement_of
s244-accepted = refl

s244-answer : shown (reference (typed_of s244) [] 55) ≡ Over (Undefined Ub.U05 (at_place 1 40)) ([])
unfolding convert_to outcome_of negated_of complement_of bodies_within greatest_depth
s244-answer = refl

s244-units : spent (typed_of s244) [] 55 ≡ 5
unfolding convert_to outcome_of negated_of complement_of bodies_within greatest_depth
s244-units = refl

-- int main(void) { int *p = NULL; return &p[0] == p; }
abbrev s246 : Trees.ProgramTree
s246 = (program ((Trees.Function (Trees.Plain (words (at_place 1 1) (Trees.IntegerWords I.Int))) (Trees.Declarator 0 (Trees.DeclaredName (name (codes "main") (at_place 1 5))) (Trees.FunctionSuffix (Trees.Parameter (words (at_place 1 10) Trees.VoidWord) Trees.NoDeclarator Trees.NoParameters) Trees.NoSuffixes)) (at_place 1 16) (Trees.Declare (declaration (words (at_place 1 18) (Trees.IntegerWords I.Int)) ((init_declarator (Trees.Declarator 1 (Trees.DeclaredName (name (codes "p") (at_place 1 23))) Trees.NoSuffixes) (Some (Trees.InitValue (Trees.Null (at_place 1 27))))) ∷ [])) (Trees.Perform (Trees.Return (at_place 1 33) (Some (Trees.Binary B.Equal (Trees.Prefix P.Address (at_place 1 40) (Trees.Index (Trees.Named (name (codes "p") (at_place 1 41))) (Trees.Integer 0 I.Int (at_place 1 43)))) (Trees.Named (name (codes "p") (at_place 1 49)))))) Trees.Close))) ∷ []) (at_place 1 53))

s246-accepted : refusal s246 ≡ None
unfolding convert_to outcome_of negated_of complement_of
s246-accepted = refl

s246-answer : shown (reference (typed_of s246) [] 58) ≡ Over (Undefined Ub.U17 (at_place 1 41)) ([])
unfolding convert_to outcome_of negated_of complement_of bodies_within greatest_depth
s246-answer = refl

s246-units : spent (typed_of s246) [] 58 ≡ 8
unfolding convert_to outcome_of negated_of complement_of bodies_within greatest_depth
s246-units = refl

-- int main(void) { int *p = NULL; return &*p == p; }
abbrev s247 : Trees.ProgramTree
s247 = (program ((Trees.Function (Trees.Plain (words (at_place 1 1) (Trees.IntegerWords I.Int))) (Trees.Declarator 0 (Trees.DeclaredName (name (codes "main") (at_place 1 5))) (Trees.FunctionSuffix (Trees.Parameter (words (at_place 1 10) Trees.VoidWord) Trees.NoDeclarator Trees.NoParameters) Trees.NoSuffixes)) (at_place 1 16) (Trees.Declare (declaration (words (at_place 1 18) (Trees.IntegerWords I.Int)) ((init_declarator (Trees.Declarator 1 (Trees.DeclaredName (name (codes "p") (at_place 1 23))) Trees.NoSuffixes) (Some (Trees.InitValue (Trees.Null (at_place 1 27))))) ∷ [])) (Trees.Perform (Trees.Return (at_place 1 33) (Some (Trees.Binary B.Equal (Trees.Prefix P.Address (at_place 1 40) (Trees.Prefix P.Dereference (at_place 1 41) (Trees.Named (name (codes "p") (at_place 1 42))))) (Trees.Named (name (codes "p") (at_place 1 47)))))) Trees.Close))) ∷ []) (at_place 1 51))

s247-accepted : refusal s247 ≡ None
unfolding convert_to outcome_of negated_of complement_of
s247-accepted = refl

s247-answer : shown (reference (typed_of s247) [] 58) ≡ Over (Ended 1) ([])
unfolding convert_to outcome_of negated_of complement_of bodies_within greatest_depth
s247-answer = refl

s247-units : spent (typed_of s247) [] 58 ≡ 8
unfolding convert_to outcome_of negated_of complement_of bodies_within greatest_depth
s247-units = refl

-- struct s {int a; int b;}; int main(void) { struct s *p = NULL; return &p->b != NULL; }
abbrev s249 : Trees.ProgramTree
s249 = (program ((Trees.Declaration (Trees.StructBody (at_place 1 1) (name (codes "s") (at_place 1 8)) ((members (words (at_place 1 11) (Trees.IntegerWords I.Int)) ((Trees.Declarator 0 (Trees.DeclaredName (name (codes "a") (at_place 1 15))) Trees.NoSuffixes) ∷ [])) ∷ (members (words (at_place 1 18) (Trees.IntegerWords I.Int)) ((Trees.Declarator 0 (Trees.DeclaredName (name (codes "b") (at_place 1 22))) Trees.NoSuffixes) ∷ [])) ∷ [])) ([])) ∷ (Trees.Function (Trees.Plain (words (at_place 1 27) (Trees.IntegerWords I.Int))) (Trees.Declarator 0 (Trees.DeclaredName (name (codes "main") (at_place 1 31))) (Trees.FunctionSuffix (Trees.Parameter (words (at_place 1 36) Trees.VoidWord) Trees.NoDeclarator Trees.NoParameters) Trees.NoSuffixes)) (at_place 1 42) (Trees.Declare (declaration (words (at_place 1 44) (Trees.StructTag (name (codes "s") (at_place 1 51)))) ((init_declarator (Trees.Declarator 1 (Trees.DeclaredName (name (codes "p") (at_place 1 54))) Trees.NoSuffixes) (Some (Trees.InitValue (Trees.Null (at_place 1 58))))) ∷ [])) (Trees.Perform (Trees.Return (at_place 1 64) (Some (Trees.Binary B.NotEqual (Trees.Prefix P.Address (at_place 1 71) (Trees.PointerMember (Trees.Named (name (codes "p") (at_place 1 72))) (name (codes "b") (at_place 1 75)))) (Trees.Null (at_place 1 80))))) Trees.Close))) ∷ []) (at_place 1 87))

s249-accepted : refusal s249 ≡ None
unfolding convert_to outcome_of negated_of complement_of
s249-accepted = refl

s249-answer : shown (reference (typed_of s249) [] 57) ≡ Over (Undefined Ub.U05 (at_place 1 72)) ([])
unfolding convert_to outcome_of negated_of complement_of bodies_within greatest_depth
s249-answer = refl

s249-units : spent (typed_of s249) [] 57 ≡ 7
unfolding convert_to outcome_of negated_of complement_of bodies_within greatest_depth
s249-units = refl

-- int main(void) { int *p = malloc(4); free(p); return p == NULL; }
abbrev s250 : Trees.ProgramTree
s250 = (program ((Trees.Function (Trees.Plain (words (at_place 1 1) (Trees.IntegerWords I.Int))) (Trees.Declarator 0 (Trees.DeclaredName (name (codes "main") (at_place 1 5))) (Trees.FunctionSuffix (Trees.Parameter (words (at_place 1 10) Trees.VoidWord) Trees.NoDeclarator Trees.NoParameters) Trees.NoSuffixes)) (at_place 1 16) (Trees.Declare (declaration (words (at_place 1 18) (Trees.IntegerWords I.Int)) ((init_declarator (Trees.Declarator 1 (Trees.DeclaredName (name (codes "p") (at_place 1 23))) Trees.NoSuffixes) (Some (Trees.InitValue (Trees.Call (Trees.Named (name (codes "malloc") (at_place 1 27))) (at_place 1 33) (Trees.Argument (Trees.Integer 4 I.Int (at_place 1 34)) Trees.NoArguments))))) ∷ [])) (Trees.Perform (Trees.Expression (Trees.Call (Trees.Named (name (codes "free") (at_place 1 38))) (at_place 1 42) (Trees.Argument (Trees.Named (name (codes "p") (at_place 1 43))) Trees.NoArguments))) (Trees.Perform (Trees.Return (at_place 1 47) (Some (Trees.Binary B.Equal (Trees.Named (name (codes "p") (at_place 1 54))) (Trees.Null (at_place 1 59))))) Trees.Close)))) ∷ []) (at_place 1 66))

s250-accepted : refusal s250 ≡ None
unfolding convert_to outcome_of negated_of complement_of
s250-accepted = refl

s250-answer : shown (reference (typed_of s250) [] 62) ≡ Over (Undefined Ub.U06 (at_place 1 54)) ([])
unfolding convert_to outcome_of negated_of complement_of bodies_within greatest_depth
s250-answer = refl

s250-units : spent (typed_of s250) [] 62 ≡ 12
unfolding convert_to outcome_of negated_of complement_of bodies_within greatest_depth
s250-units = refl

-- int main(void) { int *p = malloc(4); free(p); void *q = p; return 0; }
abbrev s252 : Trees.ProgramTree
s252 = (program ((Trees.Function (Trees.Plain (words (at_place 1 1) (Trees.IntegerWords I.Int))) (Trees.Declarator 0 (Trees.DeclaredName (name (codes "main") (at_place 1 5))) (Trees.FunctionSuffix (Trees.Parameter (words (at_place 1 10) Trees.VoidWord) Trees.NoDeclarator Trees.NoParameters) Trees.NoSuffixes)) (at_place 1 16) (Trees.Declare (declaration (words (at_place 1 18) (Trees.IntegerWords I.Int)) ((init_declarator (Trees.Declarator 1 (Trees.DeclaredName (name (codes "p") (at_place 1 23))) Trees.NoSuffixes) (Some (Trees.InitValue (Trees.Call (Trees.Named (name (codes "malloc") (at_place 1 27))) (at_place 1 33) (Trees.Argument (Trees.Integer 4 I.Int (at_place 1 34)) Trees.NoArguments))))) ∷ [])) (Trees.Perform (Trees.Expression (Trees.Call (Trees.Named (name (codes "free") (at_place 1 38))) (at_place 1 42) (Trees.Argument (Trees.Named (name (codes "p") (at_place 1 43))) Trees.NoArguments))) (Trees.Declare (declaration (words (at_place 1 47) Trees.VoidWord) ((init_declarator (Trees.Declarator 1 (Trees.DeclaredName (name (codes "q") (at_place 1 53))) Trees.NoSuffixes) (Some (Trees.InitValue (Trees.Named (name (codes "p") (at_place 1 57)))))) ∷ [])) (Trees.Perform (Trees.Return (at_place 1 60) (Some (Trees.Integer 0 I.Int (at_place 1 67)))) Trees.Close))))) ∷ []) (at_place 1 71))

s252-accepted : refusal s252 ≡ None
unfolding convert_to outcome_of negated_of complement_of
s252-accepted = refl

s252-answer : shown (reference (typed_of s252) [] 59) ≡ Over (Undefined Ub.U06 (at_place 1 57)) ([])
unfolding convert_to outcome_of negated_of complement_of bodies_within greatest_depth
s252-answer = refl

s252-units : spent (typed_of s252) [] 59 ≡ 9
unfolding convert_to outcome_of negated_of complement_of bodies_within greatest_depth
s252-units = refl

-- int main(void) { int *p = malloc(4); free(p); if (p) ; }
abbrev s253 : Trees.ProgramTree
s253 = (program ((Trees.Function (Trees.Plain (words (at_place 1 1) (Trees.IntegerWords I.Int))) (Trees.Declarator 0 (Trees.DeclaredName (name (codes "main") (at_place 1 5))) (Trees.FunctionSuffix (Trees.Parameter (words (at_place 1 10) Trees.VoidWord) Trees.NoDeclarator Trees.NoParameters) Trees.NoSuffixes)) (at_place 1 16) (Trees.Declare (declaration (words (at_place 1 18) (Trees.IntegerWords I.Int)) ((init_declarator (Trees.Declarator 1 (Trees.DeclaredName (name (codes "p") (at_place 1 23))) Trees.NoSuffixes) (Some (Trees.InitValue (Trees.Call (Trees.Named (name (codes "malloc") (at_place 1 27))) (at_place 1 33) (Trees.Argument (Trees.Integer 4 I.Int (at_place 1 34)) Trees.NoArguments))))) ∷ [])) (Trees.Perform (Trees.Expression (Trees.Call (Trees.Named (name (codes "free") (at_place 1 38))) (at_place 1 42) (Trees.Argument (Trees.Named (name (codes "p") (at_place 1 43))) Trees.NoArguments))) (Trees.Perform (Trees.If (at_place 1 47) (Trees.Named (name (codes "p") (at_place 1 51))) (Trees.Empty (at_place 1 54))) Trees.Close)))) ∷ []) (at_place 1 57))

s253-accepted : refusal s253 ≡ None
unfolding convert_to outcome_of negated_of complement_of
s253-accepted = refl

s253-answer : shown (reference (typed_of s253) [] 60) ≡ Over (Undefined Ub.U06 (at_place 1 51)) ([])
unfolding convert_to outcome_of negated_of complement_of bodies_within greatest_depth
s253-answer = refl

s253-units : spent (typed_of s253) [] 60 ≡ 10
unfolding convert_to outcome_of negated_of complement_of bodies_within greatest_depth
s253-units = refl

-- int main(void) { int *p; { int x; p = &x; } return *p; }
abbrev s255 : Trees.ProgramTree
s255 = (program ((Trees.Function (Trees.Plain (words (at_place 1 1) (Trees.IntegerWords I.Int))) (Trees.Declarator 0 (Trees.DeclaredName (name (codes "main") (at_place 1 5))) (Trees.FunctionSuffix (Trees.Parameter (words (at_place 1 10) Trees.VoidWord) Trees.NoDeclarator Trees.NoParameters) Trees.NoSuffixes)) (at_place 1 16) (Trees.Declare (declaration (words (at_place 1 18) (Trees.IntegerWords I.Int)) ((init_declarator (Trees.Declarator 1 (Trees.DeclaredName (name (codes "p") (at_place 1 23))) Trees.NoSuffixes) None) ∷ [])) (Trees.Perform (Trees.BlockStmt (at_place 1 26) (Trees.Declare (declaration (words (at_place 1 28) (Trees.IntegerWords I.Int)) ((init_declarator (Trees.Declarator 0 (Trees.DeclaredName (name (codes "x") (at_place 1 32))) Trees.NoSuffixes) None) ∷ [])) (Trees.Perform (Trees.Expression (Trees.Assign A.Assign (Trees.Named (name (codes "p") (at_place 1 35))) (Trees.Prefix P.Address (at_place 1 39) (Trees.Named (name (codes "x") (at_place 1 40)))))) Trees.Close))) (Trees.Perform (Trees.Return (at_place 1 45) (Some (Trees.Prefix P.Dereference (at_place 1 52) (Trees.Named (name (codes "p") (at_place 1 53)))))) Trees.Close)))) ∷ []) (at_place 1 57))

s255-accepted : refusal s255 ≡ None
unfolding convert_to outcome_of negated_of complement_of
s255-accepted = refl

s255-answer : shown (reference (typed_of s255) [] 60) ≡ Over (Undefined Ub.U06 (at_place 1 52)) ([])
unfolding convert_to outcome_of negated_of complement_of bodies_within greatest_depth
s255-answer = refl

s255-units : spent (typed_of s255) [] 60 ≡ 10
unfolding convert_to outcome_of negated_of complement_of bodies_within greatest_depth
s255-units = refl

-- int main(void) { int a[3]; return a[3]; }
abbrev s256 : Trees.ProgramTree
s256 = (program ((Trees.Function (Trees.Plain (words (at_place 1 1) (Trees.IntegerWords I.Int))) (Trees.Declarator 0 (Trees.DeclaredName (name (codes "main") (at_place 1 5))) (Trees.FunctionSuffix (Trees.Parameter (words (at_place 1 10) Trees.VoidWord) Trees.NoDeclarator Trees.NoParameters) Trees.NoSuffixes)) (at_place 1 16) (Trees.Declare (declaration (words (at_place 1 18) (Trees.IntegerWords I.Int)) ((init_declarator (Trees.Declarator 0 (Trees.DeclaredName (name (codes "a") (at_place 1 22))) (Trees.ArraySuffix (Trees.ArrayLength (Trees.Integer 3 I.Int (at_place 1 24))) Trees.NoSuffixes)) None) ∷ [])) (Trees.Perform (Trees.Return (at_place 1 28) (Some (Trees.Index (Trees.Named (name (codes "a") (at_place 1 35))) (Trees.Integer 3 I.Int (at_place 1 37))))) Trees.Close))) ∷ []) (at_place 1 42))

s256-accepted : refusal s256 ≡ None
unfolding convert_to outcome_of negated_of complement_of
s256-accepted = refl

s256-answer : shown (reference (typed_of s256) [] 55) ≡ Over (Undefined Ub.U07 (at_place 1 35)) ([])
unfolding convert_to outcome_of negated_of complement_of bodies_within greatest_depth
s256-answer = refl

s256-units : spent (typed_of s256) [] 55 ≡ 5
unfolding convert_to outcome_of negated_of complement_of bodies_within greatest_depth
s256-units = refl

-- int main(void) { int a[3]; return a[-1]; }
abbrev s258 : Trees.ProgramTree
s258 = (program ((Trees.Function (Trees.Plain (words (at_place 1 1) (Trees.IntegerWords I.Int))) (Trees.Declarator 0 (Trees.DeclaredName (name (codes "main") (at_place 1 5))) (Trees.FunctionSuffix (Trees.Parameter (words (at_place 1 10) Trees.VoidWord) Trees.NoDeclarator Trees.NoParameters) Trees.NoSuffixes)) (at_place 1 16) (Trees.Declare (declaration (words (at_place 1 18) (Trees.IntegerWords I.Int)) ((init_declarator (Trees.Declarator 0 (Trees.DeclaredName (name (codes "a") (at_place 1 22))) (Trees.ArraySuffix (Trees.ArrayLength (Trees.Integer 3 I.Int (at_place 1 24))) Trees.NoSuffixes)) None) ∷ [])) (Trees.Perform (Trees.Return (at_place 1 28) (Some (Trees.Index (Trees.Named (name (codes "a") (at_place 1 35))) (Trees.Prefix P.Minus (at_place 1 37) (Trees.Integer 1 I.Int (at_place 1 38)))))) Trees.Close))) ∷ []) (at_place 1 43))

s258-accepted : refusal s258 ≡ None
unfolding convert_to outcome_of negated_of complement_of
s258-accepted = refl

s258-answer : shown (reference (typed_of s258) [] 56) ≡ Over (Undefined Ub.U08 (at_place 1 35)) ([])
unfolding convert_to outcome_of negated_of complement_of bodies_within greatest_depth
s258-answer = refl

s258-units : spent (typed_of s258) [] 56 ≡ 6
unfolding convert_to outcome_of negated_of complement_of bodies_within greatest_depth
s258-units = refl

-- int main(void) { int a[3]; return *(a + 4); }
abbrev s259 : Trees.ProgramTree
s259 = (program ((Trees.Function (Trees.Plain (words (at_place 1 1) (Trees.IntegerWords I.Int))) (Trees.Declarator 0 (Trees.DeclaredName (name (codes "main") (at_place 1 5))) (Trees.FunctionSuffix (Trees.Parameter (words (at_place 1 10) Trees.VoidWord) Trees.NoDeclarator Trees.NoParameters) Trees.NoSuffixes)) (at_place 1 16) (Trees.Declare (declaration (words (at_place 1 18) (Trees.IntegerWords I.Int)) ((init_declarator (Trees.Declarator 0 (Trees.DeclaredName (name (codes "a") (at_place 1 22))) (Trees.ArraySuffix (Trees.ArrayLength (Trees.Integer 3 I.Int (at_place 1 24))) Trees.NoSuffixes)) None) ∷ [])) (Trees.Perform (Trees.Return (at_place 1 28) (Some (Trees.Prefix P.Dereference (at_place 1 35) (Trees.Parenthesized (at_place 1 36) (Trees.Binary B.Add (Trees.Named (name (codes "a") (at_place 1 37))) (Trees.Integer 4 I.Int (at_place 1 41))))))) Trees.Close))) ∷ []) (at_place 1 46))

s259-accepted : refusal s259 ≡ None
unfolding convert_to outcome_of negated_of complement_of
s259-accepted = refl

s259-answer : shown (reference (typed_of s259) [] 57) ≡ Over (Undefined Ub.U08 (at_place 1 37)) ([])
unfolding convert_to outcome_of negated_of complement_of bodies_within greatest_depth
s259-answer = refl

s259-units : spent (typed_of s259) [] 57 ≡ 7
unfolding convert_to outcome_of negated_of complement_of bodies_within greatest_depth
s259-units = refl

-- int main(void) { int a[3]; return &a[4] == a; }
abbrev s261 : Trees.ProgramTree
s261 = (program ((Trees.Function (Trees.Plain (words (at_place 1 1) (Trees.IntegerWords I.Int))) (Trees.Declarator 0 (Trees.DeclaredName (name (codes "main") (at_place 1 5))) (Trees.FunctionSuffix (Trees.Parameter (words (at_place 1 10) Trees.VoidWord) Trees.NoDeclarator Trees.NoParameters) Trees.NoSuffixes)) (at_place 1 16) (Trees.Declare (declaration (words (at_place 1 18) (Trees.IntegerWords I.Int)) ((init_declarator (Trees.Declarator 0 (Trees.DeclaredName (name (codes "a") (at_place 1 22))) (Trees.ArraySuffix (Trees.ArrayLength (Trees.Integer 3 I.Int (at_place 1 24))) Trees.NoSuffixes)) None) ∷ [])) (Trees.Perform (Trees.Return (at_place 1 28) (Some (Trees.Binary B.Equal (Trees.Prefix P.Address (at_place 1 35) (Trees.Index (Trees.Named (name (codes "a") (at_place 1 36))) (Trees.Integer 4 I.Int (at_place 1 38)))) (Trees.Named (name (codes "a") (at_place 1 44)))))) Trees.Close))) ∷ []) (at_place 1 48))

s261-accepted : refusal s261 ≡ None
unfolding convert_to outcome_of negated_of complement_of
s261-accepted = refl

s261-answer : shown (reference (typed_of s261) [] 57) ≡ Over (Undefined Ub.U08 (at_place 1 36)) ([])
unfolding convert_to outcome_of negated_of complement_of bodies_within greatest_depth
s261-answer = refl

s261-units : spent (typed_of s261) [] 57 ≡ 7
unfolding convert_to outcome_of negated_of complement_of bodies_within greatest_depth
s261-units = refl

-- int main(void) { int a[3]; return &a[3] == a + 3; }
abbrev s262 : Trees.ProgramTree
s262 = (program ((Trees.Function (Trees.Plain (words (at_place 1 1) (Trees.IntegerWords I.Int))) (Trees.Declarator 0 (Trees.DeclaredName (name (codes "main") (at_place 1 5))) (Trees.FunctionSuffix (Trees.Parameter (words (at_place 1 10) Trees.VoidWord) Trees.NoDeclarator Trees.NoParameters) Trees.NoSuffixes)) (at_place 1 16) (Trees.Declare (declaration (words (at_place 1 18) (Trees.IntegerWords I.Int)) ((init_declarator (Trees.Declarator 0 (Trees.DeclaredName (name (codes "a") (at_place 1 22))) (Trees.ArraySuffix (Trees.ArrayLength (Trees.Integer 3 I.Int (at_place 1 24))) Trees.NoSuffixes)) None) ∷ [])) (Trees.Perform (Trees.Return (at_place 1 28) (Some (Trees.Binary B.Equal (Trees.Prefix P.Address (at_place 1 35) (Trees.Index (Trees.Named (name (codes "a") (at_place 1 36))) (Trees.Integer 3 I.Int (at_place 1 38)))) (Trees.Binary B.Add (Trees.Named (name (codes "a") (at_place 1 44))) (Trees.Integer 3 I.Int (at_place 1 48)))))) Trees.Close))) ∷ []) (at_place 1 52))

s262-accepted : refusal s262 ≡ None
unfolding convert_to outcome_of negated_of complement_of
s262-accepted = refl

s262-answer : shown (reference (typed_of s262) [] 60) ≡ Over (Ended 1) ([])
unfolding convert_to outcome_of negated_of complement_of bodies_within greatest_depth
s262-answer = refl

s262-units : spent (typed_of s262) [] 60 ≡ 10
unfolding convert_to outcome_of negated_of complement_of bodies_within greatest_depth
s262-units = refl

-- int main(void) { int a[2][3]; return &a[0][2] < &a[1][0]; }
abbrev s264 : Trees.ProgramTree
s264 = (program ((Trees.Function (Trees.Plain (words (at_place 1 1) (Trees.IntegerWords I.Int))) (Trees.Declarator 0 (Trees.DeclaredName (name (codes "main") (at_place 1 5))) (Trees.FunctionSuffix (Trees.Parameter (words (at_place 1 10) Trees.VoidWord) Trees.NoDeclarator Trees.NoParameters) Trees.NoSuffixes)) (at_place 1 16) (Trees.Declare (declaration (words (at_place 1 18) (Trees.IntegerWords I.Int)) ((init_declarator (Trees.Declarator 0 (Trees.DeclaredName (name (codes "a") (at_place 1 22))) (Trees.ArraySuffix (Trees.ArrayLength (Trees.Integer 2 I.Int (at_place 1 24))) (Trees.ArraySuffix (Trees.ArrayLength (Trees.Integer 3 I.Int (at_place 1 27))) Trees.NoSuffixes))) None) ∷ [])) (Trees.Perform (Trees.Return (at_place 1 31) (Some (Trees.Binary B.Less (Trees.Prefix P.Address (at_place 1 38) (Trees.Index (Trees.Index (Trees.Named (name (codes "a") (at_place 1 39))) (Trees.Integer 0 I.Int (at_place 1 41))) (Trees.Integer 2 I.Int (at_place 1 44)))) (Trees.Prefix P.Address (at_place 1 49) (Trees.Index (Trees.Index (Trees.Named (name (codes "a") (at_place 1 50))) (Trees.Integer 1 I.Int (at_place 1 52))) (Trees.Integer 0 I.Int (at_place 1 55))))))) Trees.Close))) ∷ []) (at_place 1 60))

s264-accepted : refusal s264 ≡ None
unfolding convert_to outcome_of negated_of complement_of
s264-accepted = refl

s264-answer : shown (reference (typed_of s264) [] 65) ≡ Over (Undefined Ub.U09 (at_place 1 38)) ([])
unfolding convert_to outcome_of negated_of complement_of bodies_within greatest_depth
s264-answer = refl

s264-units : spent (typed_of s264) [] 65 ≡ 15
unfolding convert_to outcome_of negated_of complement_of bodies_within greatest_depth
s264-units = refl

-- int main(void) { int a[3]; int b[3]; return a < b; }
abbrev s265 : Trees.ProgramTree
s265 = (program ((Trees.Function (Trees.Plain (words (at_place 1 1) (Trees.IntegerWords I.Int))) (Trees.Declarator 0 (Trees.DeclaredName (name (codes "main") (at_place 1 5))) (Trees.FunctionSuffix (Trees.Parameter (words (at_place 1 10) Trees.VoidWord) Trees.NoDeclarator Trees.NoParameters) Trees.NoSuffixes)) (at_place 1 16) (Trees.Declare (declaration (words (at_place 1 18) (Trees.IntegerWords I.Int)) ((init_declarator (Trees.Declarator 0 (Trees.DeclaredName (name (codes "a") (at_place 1 22))) (Trees.ArraySuffix (Trees.ArrayLength (Trees.Integer 3 I.Int (at_place 1 24))) Trees.NoSuffixes)) None) ∷ [])) (Trees.Declare (declaration (words (at_place 1 28) (Trees.IntegerWords I.Int)) ((init_declarator (Trees.Declarator 0 (Trees.DeclaredName (name (codes "b") (at_place 1 32))) (Trees.ArraySuffix (Trees.ArrayLength (Trees.Integer 3 I.Int (at_place 1 34))) Trees.NoSuffixes)) None) ∷ [])) (Trees.Perform (Trees.Return (at_place 1 38) (Some (Trees.Binary B.Less (Trees.Named (name (codes "a") (at_place 1 45))) (Trees.Named (name (codes "b") (at_place 1 49)))))) Trees.Close)))) ∷ []) (at_place 1 53))

s265-accepted : refusal s265 ≡ None
unfolding convert_to outcome_of negated_of complement_of
s265-accepted = refl

s265-answer : shown (reference (typed_of s265) [] 55) ≡ Over (Undefined Ub.U09 (at_place 1 45)) ([])
unfolding convert_to outcome_of negated_of complement_of bodies_within greatest_depth
s265-answer = refl

s265-units : spent (typed_of s265) [] 55 ≡ 5
unfolding convert_to outcome_of negated_of complement_of bodies_within greatest_depth
s265-units = refl

-- int main(void) { int a[3]; int b[3]; return a - b; }
abbrev s267 : Trees.ProgramTree
s267 = (program ((Trees.Function (Trees.Plain (words (at_place 1 1) (Trees.IntegerWords I.Int))) (Trees.Declarator 0 (Trees.DeclaredName (name (codes "main") (at_place 1 5))) (Trees.FunctionSuffix (Trees.Parameter (words (at_place 1 10) Trees.VoidWord) Trees.NoDeclarator Trees.NoParameters) Trees.NoSuffixes)) (at_place 1 16) (Trees.Declare (declaration (words (at_place 1 18) (Trees.IntegerWords I.Int)) ((init_declarator (Trees.Declarator 0 (Trees.DeclaredName (name (codes "a") (at_place 1 22))) (Trees.ArraySuffix (Trees.ArrayLength (Trees.Integer 3 I.Int (at_place 1 24))) Trees.NoSuffixes)) None) ∷ [])) (Trees.Declare (declaration (words (at_place 1 28) (Trees.IntegerWords I.Int)) ((init_declarator (Trees.Declarator 0 (Trees.DeclaredName (name (codes "b") (at_place 1 32))) (Trees.ArraySuffix (Trees.ArrayLength (Trees.Integer 3 I.Int (at_place 1 34))) Trees.NoSuffixes)) None) ∷ [])) (Trees.Perform (Trees.Return (at_place 1 38) (Some (Trees.Binary B.Subtract (Trees.Named (name (codes "a") (at_place 1 45))) (Trees.Named (name (codes "b") (at_place 1 49)))))) Trees.Close)))) ∷ []) (at_place 1 53))

s267-accepted : refusal s267 ≡ None
unfolding convert_to outcome_of negated_of complement_of
s267-accepted = refl

s267-answer : shown (reference (typed_of s267) [] 55) ≡ Over (Undefined Ub.U10 (at_place 1 45)) ([])
unfolding convert_to outcome_of negated_of complement_of bodies_within greatest_depth
s267-answer = refl

s267-units : spent (typed_of s267) [] 55 ≡ 5
unfolding convert_to outcome_of negated_of complement_of bodies_within greatest_depth
s267-units = refl

-- int main(void) { int *p = NULL; return p - p; }
abbrev s268 : Trees.ProgramTree
s268 = (program ((Trees.Function (Trees.Plain (words (at_place 1 1) (Trees.IntegerWords I.Int))) (Trees.Declarator 0 (Trees.DeclaredName (name (codes "main") (at_place 1 5))) (Trees.FunctionSuffix (Trees.Parameter (words (at_place 1 10) Trees.VoidWord) Trees.NoDeclarator Trees.NoParameters) Trees.NoSuffixes)) (at_place 1 16) (Trees.Declare (declaration (words (at_place 1 18) (Trees.IntegerWords I.Int)) ((init_declarator (Trees.Declarator 1 (Trees.DeclaredName (name (codes "p") (at_place 1 23))) Trees.NoSuffixes) (Some (Trees.InitValue (Trees.Null (at_place 1 27))))) ∷ [])) (Trees.Perform (Trees.Return (at_place 1 33) (Some (Trees.Binary B.Subtract (Trees.Named (name (codes "p") (at_place 1 40))) (Trees.Named (name (codes "p") (at_place 1 44)))))) Trees.Close))) ∷ []) (at_place 1 48))

s268-accepted : refusal s268 ≡ None
unfolding convert_to outcome_of negated_of complement_of
s268-accepted = refl

s268-answer : shown (reference (typed_of s268) [] 56) ≡ Over (Undefined Ub.U10 (at_place 1 40)) ([])
unfolding convert_to outcome_of negated_of complement_of bodies_within greatest_depth
s268-answer = refl

s268-units : spent (typed_of s268) [] 56 ≡ 6
unfolding convert_to outcome_of negated_of complement_of bodies_within greatest_depth
s268-units = refl

-- int main(void) { int *p = malloc(8); free(p + 1); }
abbrev s270 : Trees.ProgramTree
s270 = (program ((Trees.Function (Trees.Plain (words (at_place 1 1) (Trees.IntegerWords I.Int))) (Trees.Declarator 0 (Trees.DeclaredName (name (codes "main") (at_place 1 5))) (Trees.FunctionSuffix (Trees.Parameter (words (at_place 1 10) Trees.VoidWord) Trees.NoDeclarator Trees.NoParameters) Trees.NoSuffixes)) (at_place 1 16) (Trees.Declare (declaration (words (at_place 1 18) (Trees.IntegerWords I.Int)) ((init_declarator (Trees.Declarator 1 (Trees.DeclaredName (name (codes "p") (at_place 1 23))) Trees.NoSuffixes) (Some (Trees.InitValue (Trees.Call (Trees.Named (name (codes "malloc") (at_place 1 27))) (at_place 1 33) (Trees.Argument (Trees.Integer 8 I.Int (at_place 1 34)) Trees.NoArguments))))) ∷ [])) (Trees.Perform (Trees.Expression (Trees.Call (Trees.Named (name (codes "free") (at_place 1 38))) (at_place 1 42) (Trees.Argument (Trees.Binary B.Add (Trees.Named (name (codes "p") (at_place 1 43))) (Trees.Integer 1 I.Int (at_place 1 47))) Trees.NoArguments))) Trees.Close))) ∷ []) (at_place 1 52))

s270-accepted : refusal s270 ≡ None
unfolding convert_to outcome_of negated_of complement_of
s270-accepted = refl

s270-answer : shown (reference (typed_of s270) [] 60) ≡ Over (Undefined Ub.U11 (at_place 1 38)) ([])
unfolding convert_to outcome_of negated_of complement_of bodies_within greatest_depth
s270-answer = refl

s270-units : spent (typed_of s270) [] 60 ≡ 10
unfolding convert_to outcome_of negated_of complement_of bodies_within greatest_depth
s270-units = refl

-- int main(void) { int x; free(&x); }
abbrev s271 : Trees.ProgramTree
s271 = (program ((Trees.Function (Trees.Plain (words (at_place 1 1) (Trees.IntegerWords I.Int))) (Trees.Declarator 0 (Trees.DeclaredName (name (codes "main") (at_place 1 5))) (Trees.FunctionSuffix (Trees.Parameter (words (at_place 1 10) Trees.VoidWord) Trees.NoDeclarator Trees.NoParameters) Trees.NoSuffixes)) (at_place 1 16) (Trees.Declare (declaration (words (at_place 1 18) (Trees.IntegerWords I.Int)) ((init_declarator (Trees.Declarator 0 (Trees.DeclaredName (name (codes "x") (at_place 1 22))) Trees.NoSuffixes) None) ∷ [])) (Trees.Perform (Trees.Expression (Trees.Call (Trees.Named (name (codes "free") (at_place 1 25))) (at_place 1 29) (Trees.Argument (Trees.Prefix P.Address (at_place 1 30) (Trees.Named (name (codes "x") (at_place 1 31)))) Trees.NoArguments))) Trees.Close))) ∷ []) (at_place 1 36))

s271-accepted : refusal s271 ≡ None
unfolding convert_to outcome_of negated_of complement_of
s271-accepted = refl

s271-answer : shown (reference (typed_of s271) [] 56) ≡ Over (Undefined Ub.U11 (at_place 1 25)) ([])
unfolding convert_to outcome_of negated_of complement_of bodies_within greatest_depth
s271-answer = refl

s271-units : spent (typed_of s271) [] 56 ≡ 6
unfolding convert_to outcome_of negated_of complement_of bodies_within greatest_depth
s271-units = refl

-- int main(void) { void *p = malloc(4); free(p); free(p); }
abbrev s273 : Trees.ProgramTree
s273 = (program ((Trees.Function (Trees.Plain (words (at_place 1 1) (Trees.IntegerWords I.Int))) (Trees.Declarator 0 (Trees.DeclaredName (name (codes "main") (at_place 1 5))) (Trees.FunctionSuffix (Trees.Parameter (words (at_place 1 10) Trees.VoidWord) Trees.NoDeclarator Trees.NoParameters) Trees.NoSuffixes)) (at_place 1 16) (Trees.Declare (declaration (words (at_place 1 18) Trees.VoidWord) ((init_declarator (Trees.Declarator 1 (Trees.DeclaredName (name (codes "p") (at_place 1 24))) Trees.NoSuffixes) (Some (Trees.InitValue (Trees.Call (Trees.Named (name (codes "malloc") (at_place 1 28))) (at_place 1 34) (Trees.Argument (Trees.Integer 4 I.Int (at_place 1 35)) Trees.NoArguments))))) ∷ [])) (Trees.Perform (Trees.Expression (Trees.Call (Trees.Named (name (codes "free") (at_place 1 39))) (at_place 1 43) (Trees.Argument (Trees.Named (name (codes "p") (at_place 1 44))) Trees.NoArguments))) (Trees.Perform (Trees.Expression (Trees.Call (Trees.Named (name (codes "free") (at_place 1 48))) (at_place 1 52) (Trees.Argument (Trees.Named (name (codes "p") (at_place 1 53))) Trees.NoArguments))) Trees.Close)))) ∷ []) (at_place 1 58))

s273-accepted : refusal s273 ≡ None
unfolding convert_to outcome_of negated_of complement_of
s273-accepted = refl

s273-answer : shown (reference (typed_of s273) [] 62) ≡ Over (Undefined Ub.U11 (at_place 1 48)) ([])
unfolding convert_to outcome_of negated_of complement_of bodies_within greatest_depth
s273-answer = refl

s273-units : spent (typed_of s273) [] 62 ≡ 12
unfolding convert_to outcome_of negated_of complement_of bodies_within greatest_depth
s273-units = refl

-- int main(void) { int x; long *p = (long *)&x; }
abbrev s274 : Trees.ProgramTree
s274 = (program ((Trees.Function (Trees.Plain (words (at_place 1 1) (Trees.IntegerWords I.Int))) (Trees.Declarator 0 (Trees.DeclaredName (name (codes "main") (at_place 1 5))) (Trees.FunctionSuffix (Trees.Parameter (words (at_place 1 10) Trees.VoidWord) Trees.NoDeclarator Trees.NoParameters) Trees.NoSuffixes)) (at_place 1 16) (Trees.Declare (declaration (words (at_place 1 18) (Trees.IntegerWords I.Int)) ((init_declarator (Trees.Declarator 0 (Trees.DeclaredName (name (codes "x") (at_place 1 22))) Trees.NoSuffixes) None) ∷ [])) (Trees.Declare (declaration (words (at_place 1 25) (Trees.IntegerWords I.Long)) ((init_declarator (Trees.Declarator 1 (Trees.DeclaredName (name (codes "p") (at_place 1 31))) Trees.NoSuffixes) (Some (Trees.InitValue (Trees.Cast (at_place 1 35) (Trees.TypeName (words (at_place 1 36) (Trees.IntegerWords I.Long)) (Trees.Declared (Trees.Declarator 1 Trees.NoName Trees.NoSuffixes))) (Trees.Prefix P.Address (at_place 1 43) (Trees.Named (name (codes "x") (at_place 1 44)))))))) ∷ [])) Trees.Close))) ∷ []) (at_place 1 48))

s274-accepted : refusal s274 ≡ None
unfolding convert_to outcome_of negated_of complement_of
s274-accepted = refl

s274-answer : shown (reference (typed_of s274) [] 54) ≡ Over (Undefined Ub.U12 (at_place 1 35)) ([])
unfolding convert_to outcome_of negated_of complement_of bodies_within greatest_depth
s274-answer = refl

s274-units : spent (typed_of s274) [] 54 ≡ 4
unfolding convert_to outcome_of negated_of complement_of bodies_within greatest_depth
s274-units = refl

-- int main(void) { int a[3]; int (*p)[3] = (int (*)[3])a; }
abbrev s276 : Trees.ProgramTree
s276 = (program ((Trees.Function (Trees.Plain (words (at_place 1 1) (Trees.IntegerWords I.Int))) (Trees.Declarator 0 (Trees.DeclaredName (name (codes "main") (at_place 1 5))) (Trees.FunctionSuffix (Trees.Parameter (words (at_place 1 10) Trees.VoidWord) Trees.NoDeclarator Trees.NoParameters) Trees.NoSuffixes)) (at_place 1 16) (Trees.Declare (declaration (words (at_place 1 18) (Trees.IntegerWords I.Int)) ((init_declarator (Trees.Declarator 0 (Trees.DeclaredName (name (codes "a") (at_place 1 22))) (Trees.ArraySuffix (Trees.ArrayLength (Trees.Integer 3 I.Int (at_place 1 24))) Trees.NoSuffixes)) None) ∷ [])) (Trees.Declare (declaration (words (at_place 1 28) (Trees.IntegerWords I.Int)) ((init_declarator (Trees.Declarator 0 (Trees.Nested (Trees.Declarator 1 (Trees.DeclaredName (name (codes "p") (at_place 1 34))) Trees.NoSuffixes)) (Trees.ArraySuffix (Trees.ArrayLength (Trees.Integer 3 I.Int (at_place 1 37))) Trees.NoSuffixes)) (Some (Trees.InitValue (Trees.Cast (at_place 1 42) (Trees.TypeName (words (at_place 1 43) (Trees.IntegerWords I.Int)) (Trees.Declared (Trees.Declarator 0 (Trees.Nested (Trees.Declarator 1 Trees.NoName Trees.NoSuffixes)) (Trees.ArraySuffix (Trees.ArrayLength (Trees.Integer 3 I.Int (at_place 1 51))) Trees.NoSuffixes)))) (Trees.Named (name (codes "a") (at_place 1 54))))))) ∷ [])) Trees.Close))) ∷ []) (at_place 1 58))

s276-accepted : refusal s276 ≡ None
unfolding convert_to outcome_of negated_of complement_of
s276-accepted = refl

s276-answer : shown (reference (typed_of s276) [] 53) ≡ Over (Undefined Ub.U12 (at_place 1 42)) ([])
unfolding convert_to outcome_of negated_of complement_of bodies_within greatest_depth
s276-answer = refl

s276-units : spent (typed_of s276) [] 53 ≡ 3
unfolding convert_to outcome_of negated_of complement_of bodies_within greatest_depth
s276-units = refl

-- int main(void) { int a[3]; int (*p)[3] = (int (*)[3])&a; return sizeof *p; }
abbrev s277 : Trees.ProgramTree
s277 = (program ((Trees.Function (Trees.Plain (words (at_place 1 1) (Trees.IntegerWords I.Int))) (Trees.Declarator 0 (Trees.DeclaredName (name (codes "main") (at_place 1 5))) (Trees.FunctionSuffix (Trees.Parameter (words (at_place 1 10) Trees.VoidWord) Trees.NoDeclarator Trees.NoParameters) Trees.NoSuffixes)) (at_place 1 16) (Trees.Declare (declaration (words (at_place 1 18) (Trees.IntegerWords I.Int)) ((init_declarator (Trees.Declarator 0 (Trees.DeclaredName (name (codes "a") (at_place 1 22))) (Trees.ArraySuffix (Trees.ArrayLength (Trees.Integer 3 I.Int (at_place 1 24))) Trees.NoSuffixes)) None) ∷ [])) (Trees.Declare (declaration (words (at_place 1 28) (Trees.IntegerWords I.Int)) ((init_declarator (Trees.Declarator 0 (Trees.Nested (Trees.Declarator 1 (Trees.DeclaredName (name (codes "p") (at_place 1 34))) Trees.NoSuffixes)) (Trees.ArraySuffix (Trees.ArrayLength (Trees.Integer 3 I.Int (at_place 1 37))) Trees.NoSuffixes)) (Some (Trees.InitValue (Trees.Cast (at_place 1 42) (Trees.TypeName (words (at_place 1 43) (Trees.IntegerWords I.Int)) (Trees.Declared (Trees.Declarator 0 (Trees.Nested (Trees.Declarator 1 Trees.NoName Trees.NoSuffixes)) (Trees.ArraySuffix (Trees.ArrayLength (Trees.Integer 3 I.Int (at_place 1 51))) Trees.NoSuffixes)))) (Trees.Prefix P.Address (at_place 1 54) (Trees.Named (name (codes "a") (at_place 1 55)))))))) ∷ [])) (Trees.Perform (Trees.Return (at_place 1 58) (Some (Trees.SizeofExpr (at_place 1 65) (Trees.Prefix P.Dereference (at_place 1 72) (Trees.Named (name (codes "p") (at_place 1 73))))))) Trees.Close)))) ∷ []) (at_place 1 77))

s277-accepted : refusal s277 ≡ None
unfolding convert_to outcome_of negated_of complement_of
s277-accepted = refl

s277-answer : shown (reference (typed_of s277) [] 56) ≡ Over (Ended 12) ([])
unfolding convert_to outcome_of negated_of complement_of bodies_within greatest_depth
s277-answer = refl

s277-units : spent (typed_of s277) [] 56 ≡ 6
unfolding convert_to outcome_of negated_of complement_of bodies_within greatest_depth
s277-units = refl

-- int main(void) { void *v = malloc(8); int *p = v; int *q = v; return p == q; }
abbrev s279 : Trees.ProgramTree
s279 = (program ((Trees.Function (Trees.Plain (words (at_place 1 1) (Trees.IntegerWords I.Int))) (Trees.Declarator 0 (Trees.DeclaredName (name (codes "main") (at_place 1 5))) (Trees.FunctionSuffix (Trees.Parameter (words (at_place 1 10) Trees.VoidWord) Trees.NoDeclarator Trees.NoParameters) Trees.NoSuffixes)) (at_place 1 16) (Trees.Declare (declaration (words (at_place 1 18) Trees.VoidWord) ((init_declarator (Trees.Declarator 1 (Trees.DeclaredName (name (codes "v") (at_place 1 24))) Trees.NoSuffixes) (Some (Trees.InitValue (Trees.Call (Trees.Named (name (codes "malloc") (at_place 1 28))) (at_place 1 34) (Trees.Argument (Trees.Integer 8 I.Int (at_place 1 35)) Trees.NoArguments))))) ∷ [])) (Trees.Declare (declaration (words (at_place 1 39) (Trees.IntegerWords I.Int)) ((init_declarator (Trees.Declarator 1 (Trees.DeclaredName (name (codes "p") (at_place 1 44))) Trees.NoSuffixes) (Some (Trees.InitValue (Trees.Named (name (codes "v") (at_place 1 48)))))) ∷ [])) (Trees.Declare (declaration (words (at_place 1 51) (Trees.IntegerWords I.Int)) ((init_declarator (Trees.Declarator 1 (Trees.DeclaredName (name (codes "q") (at_place 1 56))) Trees.NoSuffixes) (Some (Trees.InitValue (Trees.Named (name (codes "v") (at_place 1 60)))))) ∷ [])) (Trees.Perform (Trees.Return (at_place 1 63) (Some (Trees.Binary B.Equal (Trees.Named (name (codes "p") (at_place 1 70))) (Trees.Named (name (codes "q") (at_place 1 75)))))) Trees.Close))))) ∷ []) (at_place 1 79))

s279-accepted : refusal s279 ≡ None
unfolding convert_to outcome_of negated_of complement_of
s279-accepted = refl

s279-answer : shown (reference (typed_of s279) [] 60) ≡ Over (Ended 1) ([])
unfolding convert_to outcome_of negated_of complement_of bodies_within greatest_depth
s279-answer = refl

s279-units : spent (typed_of s279) [] 60 ≡ 10
unfolding convert_to outcome_of negated_of complement_of bodies_within greatest_depth
s279-units = refl

-- int main(void) { void *v = malloc(8); int *p = v; long *q = v; }
abbrev s280 : Trees.ProgramTree
s280 = (program ((Trees.Function (Trees.Plain (words (at_place 1 1) (Trees.IntegerWords I.Int))) (Trees.Declarator 0 (Trees.DeclaredName (name (codes "main") (at_place 1 5))) (Trees.FunctionSuffix (Trees.Parameter (words (at_place 1 10) Trees.VoidWord) Trees.NoDeclarator Trees.NoParameters) Trees.NoSuffixes)) (at_place 1 16) (Trees.Declare (declaration (words (at_place 1 18) Trees.VoidWord) ((init_declarator (Trees.Declarator 1 (Trees.DeclaredName (name (codes "v") (at_place 1 24))) Trees.NoSuffixes) (Some (Trees.InitValue (Trees.Call (Trees.Named (name (codes "malloc") (at_place 1 28))) (at_place 1 34) (Trees.Argument (Trees.Integer 8 I.Int (at_place 1 35)) Trees.NoArguments))))) ∷ [])) (Trees.Declare (declaration (words (at_place 1 39) (Trees.IntegerWords I.Int)) ((init_declarator (Trees.Declarator 1 (Trees.DeclaredName (name (codes "p") (at_place 1 44))) Trees.NoSuffixes) (Some (Trees.InitValue (Trees.Named (name (codes "v") (at_place 1 48)))))) ∷ [])) (Trees.Declare (declaration (words (at_place 1 51) (Trees.IntegerWords I.Long)) ((init_declarator (Trees.Declarator 1 (Trees.DeclaredName (name (codes "q") (at_place 1 57))) Trees.NoSuffixes) (Some (Trees.InitValue (Trees.Named (name (codes "v") (at_place 1 61)))))) ∷ [])) Trees.Close)))) ∷ []) (at_place 1 65))

s280-accepted : refusal s280 ≡ None
unfolding convert_to outcome_of negated_of complement_of
s280-accepted = refl

s280-answer : shown (reference (typed_of s280) [] 56) ≡ Over (Undefined Ub.U12 (at_place 1 61)) ([])
unfolding convert_to outcome_of negated_of complement_of bodies_within greatest_depth
s280-answer = refl

s280-units : spent (typed_of s280) [] 56 ≡ 6
unfolding convert_to outcome_of negated_of complement_of bodies_within greatest_depth
s280-units = refl

-- int main(void) { int (*p)(void) = NULL; return p(); }
abbrev s282 : Trees.ProgramTree
s282 = (program ((Trees.Function (Trees.Plain (words (at_place 1 1) (Trees.IntegerWords I.Int))) (Trees.Declarator 0 (Trees.DeclaredName (name (codes "main") (at_place 1 5))) (Trees.FunctionSuffix (Trees.Parameter (words (at_place 1 10) Trees.VoidWord) Trees.NoDeclarator Trees.NoParameters) Trees.NoSuffixes)) (at_place 1 16) (Trees.Declare (declaration (words (at_place 1 18) (Trees.IntegerWords I.Int)) ((init_declarator (Trees.Declarator 0 (Trees.Nested (Trees.Declarator 1 (Trees.DeclaredName (name (codes "p") (at_place 1 24))) Trees.NoSuffixes)) (Trees.FunctionSuffix (Trees.Parameter (words (at_place 1 27) Trees.VoidWord) Trees.NoDeclarator Trees.NoParameters) Trees.NoSuffixes)) (Some (Trees.InitValue (Trees.Null (at_place 1 35))))) ∷ [])) (Trees.Perform (Trees.Return (at_place 1 41) (Some (Trees.Call (Trees.Named (name (codes "p") (at_place 1 48))) (at_place 1 49) Trees.NoArguments))) Trees.Close))) ∷ []) (at_place 1 54))

s282-accepted : refusal s282 ≡ None
unfolding convert_to outcome_of negated_of complement_of
s282-accepted = refl

s282-answer : shown (reference (typed_of s282) [] 55) ≡ Over (Undefined Ub.U15 (at_place 1 48)) ([])
unfolding convert_to outcome_of negated_of complement_of bodies_within greatest_depth
s282-answer = refl

s282-units : spent (typed_of s282) [] 55 ≡ 5
unfolding convert_to outcome_of negated_of complement_of bodies_within greatest_depth
s282-units = refl

-- int main(void) { int (*p)(void) = NULL; return (*p)(); }
abbrev s283 : Trees.ProgramTree
s283 = (program ((Trees.Function (Trees.Plain (words (at_place 1 1) (Trees.IntegerWords I.Int))) (Trees.Declarator 0 (Trees.DeclaredName (name (codes "main") (at_place 1 5))) (Trees.FunctionSuffix (Trees.Parameter (words (at_place 1 10) Trees.VoidWord) Trees.NoDeclarator Trees.NoParameters) Trees.NoSuffixes)) (at_place 1 16) (Trees.Declare (declaration (words (at_place 1 18) (Trees.IntegerWords I.Int)) ((init_declarator (Trees.Declarator 0 (Trees.Nested (Trees.Declarator 1 (Trees.DeclaredName (name (codes "p") (at_place 1 24))) Trees.NoSuffixes)) (Trees.FunctionSuffix (Trees.Parameter (words (at_place 1 27) Trees.VoidWord) Trees.NoDeclarator Trees.NoParameters) Trees.NoSuffixes)) (Some (Trees.InitValue (Trees.Null (at_place 1 35))))) ∷ [])) (Trees.Perform (Trees.Return (at_place 1 41) (Some (Trees.Call (Trees.Parenthesized (at_place 1 48) (Trees.Prefix P.Dereference (at_place 1 49) (Trees.Named (name (codes "p") (at_place 1 50))))) (at_place 1 52) Trees.NoArguments))) Trees.Close))) ∷ []) (at_place 1 57))

s283-accepted : refusal s283 ≡ None
unfolding convert_to outcome_of negated_of complement_of
s283-accepted = refl

s283-answer : shown (reference (typed_of s283) [] 57) ≡ Over (Undefined Ub.U15 (at_place 1 48)) ([])
unfolding convert_to outcome_of negated_of complement_of bodies_within greatest_depth
s283-answer = refl

s283-units : spent (typed_of s283) [] 57 ≡ 7
unfolding convert_to outcome_of negated_of complement_of bodies_within greatest_depth
s283-units = refl

-- struct o; struct o *g(void) { return malloc(3); } int main(void) { struct o *p = g(); free(p); return 0; }
abbrev s285 : Trees.ProgramTree
s285 = (program ((Trees.Declaration (Trees.Plain (words (at_place 1 1) (Trees.StructTag (name (codes "o") (at_place 1 8))))) ([])) ∷ (Trees.Function (Trees.Plain (words (at_place 1 11) (Trees.StructTag (name (codes "o") (at_place 1 18))))) (Trees.Declarator 1 (Trees.DeclaredName (name (codes "g") (at_place 1 21))) (Trees.FunctionSuffix (Trees.Parameter (words (at_place 1 23) Trees.VoidWord) Trees.NoDeclarator Trees.NoParameters) Trees.NoSuffixes)) (at_place 1 29) (Trees.Perform (Trees.Return (at_place 1 31) (Some (Trees.Call (Trees.Named (name (codes "malloc") (at_place 1 38))) (at_place 1 44) (Trees.Argument (Trees.Integer 3 I.Int (at_place 1 45)) Trees.NoArguments)))) Trees.Close)) ∷ (Trees.Function (Trees.Plain (words (at_place 1 51) (Trees.IntegerWords I.Int))) (Trees.Declarator 0 (Trees.DeclaredName (name (codes "main") (at_place 1 55))) (Trees.FunctionSuffix (Trees.Parameter (words (at_place 1 60) Trees.VoidWord) Trees.NoDeclarator Trees.NoParameters) Trees.NoSuffixes)) (at_place 1 66) (Trees.Declare (declaration (words (at_place 1 68) (Trees.StructTag (name (codes "o") (at_place 1 75)))) ((init_declarator (Trees.Declarator 1 (Trees.DeclaredName (name (codes "p") (at_place 1 78))) Trees.NoSuffixes) (Some (Trees.InitValue (Trees.Call (Trees.Named (name (codes "g") (at_place 1 82))) (at_place 1 83) Trees.NoArguments)))) ∷ [])) (Trees.Perform (Trees.Expression (Trees.Call (Trees.Named (name (codes "free") (at_place 1 87))) (at_place 1 91) (Trees.Argument (Trees.Named (name (codes "p") (at_place 1 92))) Trees.NoArguments))) (Trees.Perform (Trees.Return (at_place 1 96) (Some (Trees.Integer 0 I.Int (at_place 1 103)))) Trees.Close)))) ∷ []) (at_place 1 107))

s285-accepted : refusal s285 ≡ None
unfolding convert_to outcome_of negated_of complement_of
s285-accepted = refl

s285-answer : shown (reference (typed_of s285) [] 64) ≡ Over (Ended 0) ([])
unfolding convert_to outcome_of negated_of complement_of bodies_within greatest_depth
s285-answer = refl

s285-units : spent (typed_of s285) [] 64 ≡ 14
unfolding convert_to outcome_of negated_of complement_of bodies_within greatest_depth
s285-units = refl

-- struct o; struct o *g(void) { return malloc(8); } int main(void) { int *p = (int *)g(); p[1] = 7; return p[1]; }
abbrev s286 : Trees.ProgramTree
s286 = (program ((Trees.Declaration (Trees.Plain (words (at_place 1 1) (Trees.StructTag (name (codes "o") (at_place 1 8))))) ([])) ∷ (Trees.Function (Trees.Plain (words (at_place 1 11) (Trees.StructTag (name (codes "o") (at_place 1 18))))) (Trees.Declarator 1 (Trees.DeclaredName (name (codes "g") (at_place 1 21))) (Trees.FunctionSuffix (Trees.Parameter (words (at_place 1 23) Trees.VoidWord) Trees.NoDeclarator Trees.NoParameters) Trees.NoSuffixes)) (at_place 1 29) (Trees.Perform (Trees.Return (at_place 1 31) (Some (Trees.Call (Trees.Named (name (codes "malloc") (at_place 1 38))) (at_place 1 44) (Trees.Argument (Trees.Integer 8 I.Int (at_place 1 45)) Trees.NoArguments)))) Trees.Close)) ∷ (Trees.Function (Trees.Plain (words (at_place 1 51) (Trees.IntegerWords I.Int))) (Trees.Declarator 0 (Trees.DeclaredName (name (codes "main") (at_place 1 55))) (Trees.FunctionSuffix (Trees.Parameter (words (at_place 1 60) Trees.VoidWord) Trees.NoDeclarator Trees.NoParameters) Trees.NoSuffixes)) (at_place 1 66) (Trees.Declare (declaration (words (at_place 1 68) (Trees.IntegerWords I.Int)) ((init_declarator (Trees.Declarator 1 (Trees.DeclaredName (name (codes "p") (at_place 1 73))) Trees.NoSuffixes) (Some (Trees.InitValue (Trees.Cast (at_place 1 77) (Trees.TypeName (words (at_place 1 78) (Trees.IntegerWords I.Int)) (Trees.Declared (Trees.Declarator 1 Trees.NoName Trees.NoSuffixes))) (Trees.Call (Trees.Named (name (codes "g") (at_place 1 84))) (at_place 1 85) Trees.NoArguments))))) ∷ [])) (Trees.Perform (Trees.Expression (Trees.Assign A.Assign (Trees.Index (Trees.Named (name (codes "p") (at_place 1 89))) (Trees.Integer 1 I.Int (at_place 1 91))) (Trees.Integer 7 I.Int (at_place 1 96)))) (Trees.Perform (Trees.Return (at_place 1 99) (Some (Trees.Index (Trees.Named (name (codes "p") (at_place 1 106))) (Trees.Integer 1 I.Int (at_place 1 108))))) Trees.Close)))) ∷ []) (at_place 1 113))

s286-accepted : refusal s286 ≡ None
unfolding convert_to outcome_of negated_of complement_of
s286-accepted = refl

s286-answer : shown (reference (typed_of s286) [] 69) ≡ Over (Ended 7) ([])
unfolding convert_to outcome_of negated_of complement_of bodies_within greatest_depth
s286-answer = refl

s286-units : spent (typed_of s286) [] 69 ≡ 19
unfolding convert_to outcome_of negated_of complement_of bodies_within greatest_depth
s286-units = refl

-- int d; int f(void) { d = d * 10 + 1; return 0; } int g(void) { d = d * 10 + 2; return 0; } int main(void) { f() + g() * f(); return d - 100; }
abbrev s288 : Trees.ProgramTree
s288 = (program ((Trees.Declaration (Trees.Plain (words (at_place 1 1) (Trees.IntegerWords I.Int))) ((init_declarator (Trees.Declarator 0 (Trees.DeclaredName (name (codes "d") (at_place 1 5))) Trees.NoSuffixes) None) ∷ [])) ∷ (Trees.Function (Trees.Plain (words (at_place 1 8) (Trees.IntegerWords I.Int))) (Trees.Declarator 0 (Trees.DeclaredName (name (codes "f") (at_place 1 12))) (Trees.FunctionSuffix (Trees.Parameter (words (at_place 1 14) Trees.VoidWord) Trees.NoDeclarator Trees.NoParameters) Trees.NoSuffixes)) (at_place 1 20) (Trees.Perform (Trees.Expression (Trees.Assign A.Assign (Trees.Named (name (codes "d") (at_place 1 22))) (Trees.Binary B.Add (Trees.Binary B.Multiply (Trees.Named (name (codes "d") (at_place 1 26))) (Trees.Integer 10 I.Int (at_place 1 30))) (Trees.Integer 1 I.Int (at_place 1 35))))) (Trees.Perform (Trees.Return (at_place 1 38) (Some (Trees.Integer 0 I.Int (at_place 1 45)))) Trees.Close))) ∷ (Trees.Function (Trees.Plain (words (at_place 1 50) (Trees.IntegerWords I.Int))) (Trees.Declarator 0 (Trees.DeclaredName (name (codes "g") (at_place 1 54))) (Trees.FunctionSuffix (Trees.Parameter (words (at_place 1 56) Trees.VoidWord) Trees.NoDeclarator Trees.NoParameters) Trees.NoSuffixes)) (at_place 1 62) (Trees.Perform (Trees.Expression (Trees.Assign A.Assign (Trees.Named (name (codes "d") (at_place 1 64))) (Trees.Binary B.Add (Trees.Binary B.Multiply (Trees.Named (name (codes "d") (at_place 1 68))) (Trees.Integer 10 I.Int (at_place 1 72))) (Trees.Integer 2 I.Int (at_place 1 77))))) (Trees.Perform (Trees.Return (at_place 1 80) (Some (Trees.Integer 0 I.Int (at_place 1 87)))) Trees.Close))) ∷ (Trees.Function (Trees.Plain (words (at_place 1 92) (Trees.IntegerWords I.Int))) (Trees.Declarator 0 (Trees.DeclaredName (name (codes "main") (at_place 1 96))) (Trees.FunctionSuffix (Trees.Parameter (words (at_place 1 101) Trees.VoidWord) Trees.NoDeclarator Trees.NoParameters) Trees.NoSuffixes)) (at_place 1 107) (Trees.Perform (Trees.Expression (Trees.Binary B.Add (Trees.Call (Trees.Named (name (codes "f") (at_place 1 109))) (at_place 1 110) Trees.NoArguments) (Trees.Binary B.Multiply (Trees.Call (Trees.Named (name (codes "g") (at_place 1 115))) (at_place 1 116) Trees.NoArguments) (Trees.Call (Trees.Named (name (codes "f") (at_place 1 121))) (at_place 1 122) Trees.NoArguments)))) (Trees.Perform (Trees.Return (at_place 1 126) (Some (Trees.Binary B.Subtract (Trees.Named (name (codes "d") (at_place 1 133))) (Trees.Integer 100 I.Int (at_place 1 137))))) Trees.Close))) ∷ []) (at_place 1 143))

s288-accepted : refusal s288 ≡ None
unfolding convert_to outcome_of negated_of complement_of
s288-accepted = refl

s288-answer : shown (reference (typed_of s288) [] 97) ≡ Over (Ended 21) ([])
unfolding convert_to outcome_of negated_of complement_of bodies_within greatest_depth
s288-answer = refl

s288-units : spent (typed_of s288) [] 97 ≡ 47
unfolding convert_to outcome_of negated_of complement_of bodies_within greatest_depth
s288-units = refl

-- int main(void) { int x = 1; x = x++ + x++; return x; }
abbrev s289 : Trees.ProgramTree
s289 = (program ((Trees.Function (Trees.Plain (words (at_place 1 1) (Trees.IntegerWords I.Int))) (Trees.Declarator 0 (Trees.DeclaredName (name (codes "main") (at_place 1 5))) (Trees.FunctionSuffix (Trees.Parameter (words (at_place 1 10) Trees.VoidWord) Trees.NoDeclarator Trees.NoParameters) Trees.NoSuffixes)) (at_place 1 16) (Trees.Declare (declaration (words (at_place 1 18) (Trees.IntegerWords I.Int)) ((init_declarator (Trees.Declarator 0 (Trees.DeclaredName (name (codes "x") (at_place 1 22))) Trees.NoSuffixes) (Some (Trees.InitValue (Trees.Integer 1 I.Int (at_place 1 26))))) ∷ [])) (Trees.Perform (Trees.Expression (Trees.Assign A.Assign (Trees.Named (name (codes "x") (at_place 1 29))) (Trees.Binary B.Add (Trees.PostIncrement (Trees.Named (name (codes "x") (at_place 1 33)))) (Trees.PostIncrement (Trees.Named (name (codes "x") (at_place 1 39))))))) (Trees.Perform (Trees.Return (at_place 1 44) (Some (Trees.Named (name (codes "x") (at_place 1 51))))) Trees.Close)))) ∷ []) (at_place 1 55))

s289-accepted : refusal s289 ≡ None
unfolding convert_to outcome_of negated_of complement_of
s289-accepted = refl

s289-answer : shown (reference (typed_of s289) [] 62) ≡ Over (Ended 3) ([])
unfolding convert_to outcome_of negated_of complement_of bodies_within greatest_depth
s289-answer = refl

s289-units : spent (typed_of s289) [] 62 ≡ 12
unfolding convert_to outcome_of negated_of complement_of bodies_within greatest_depth
s289-units = refl

-- int main(void) { void *v = malloc(8); int *p = v; return v < (void *)(p + 1); }
abbrev s290 : Trees.ProgramTree
s290 = (program ((Trees.Function (Trees.Plain (words (at_place 1 1) (Trees.IntegerWords I.Int))) (Trees.Declarator 0 (Trees.DeclaredName (name (codes "main") (at_place 1 5))) (Trees.FunctionSuffix (Trees.Parameter (words (at_place 1 10) Trees.VoidWord) Trees.NoDeclarator Trees.NoParameters) Trees.NoSuffixes)) (at_place 1 16) (Trees.Declare (declaration (words (at_place 1 18) Trees.VoidWord) ((init_declarator (Trees.Declarator 1 (Trees.DeclaredName (name (codes "v") (at_place 1 24))) Trees.NoSuffixes) (Some (Trees.InitValue (Trees.Call (Trees.Named (name (codes "malloc") (at_place 1 28))) (at_place 1 34) (Trees.Argument (Trees.Integer 8 I.Int (at_place 1 35)) Trees.NoArguments))))) ∷ [])) (Trees.Declare (declaration (words (at_place 1 39) (Trees.IntegerWords I.Int)) ((init_declarator (Trees.Declarator 1 (Trees.DeclaredName (name (codes "p") (at_place 1 44))) Trees.NoSuffixes) (Some (Trees.InitValue (Trees.Named (name (codes "v") (at_place 1 48)))))) ∷ [])) (Trees.Perform (Trees.Return (at_place 1 51) (Some (Trees.Binary B.Less (Trees.Named (name (codes "v") (at_place 1 58))) (Trees.Cast (at_place 1 62) (Trees.TypeName (words (at_place 1 63) Trees.VoidWord) (Trees.Declared (Trees.Declarator 1 Trees.NoName Trees.NoSuffixes))) (Trees.Parenthesized (at_place 1 70) (Trees.Binary B.Add (Trees.Named (name (codes "p") (at_place 1 71))) (Trees.Integer 1 I.Int (at_place 1 75)))))))) Trees.Close)))) ∷ []) (at_place 1 80))

s290-accepted : refusal s290 ≡ None
unfolding convert_to outcome_of negated_of complement_of
s290-accepted = refl

s290-answer : shown (reference (typed_of s290) [] 100) ≡ Over (Ended 1) ([])
unfolding convert_to outcome_of negated_of complement_of bodies_within greatest_depth
s290-answer = refl

-- int main(void) { void *v = malloc(8); int *p = v; return (void *)(p + 1) <= v; }
abbrev s291 : Trees.ProgramTree
s291 = (program ((Trees.Function (Trees.Plain (words (at_place 1 1) (Trees.IntegerWords I.Int))) (Trees.Declarator 0 (Trees.DeclaredName (name (codes "main") (at_place 1 5))) (Trees.FunctionSuffix (Trees.Parameter (words (at_place 1 10) Trees.VoidWord) Trees.NoDeclarator Trees.NoParameters) Trees.NoSuffixes)) (at_place 1 16) (Trees.Declare (declaration (words (at_place 1 18) Trees.VoidWord) ((init_declarator (Trees.Declarator 1 (Trees.DeclaredName (name (codes "v") (at_place 1 24))) Trees.NoSuffixes) (Some (Trees.InitValue (Trees.Call (Trees.Named (name (codes "malloc") (at_place 1 28))) (at_place 1 34) (Trees.Argument (Trees.Integer 8 I.Int (at_place 1 35)) Trees.NoArguments))))) ∷ [])) (Trees.Declare (declaration (words (at_place 1 39) (Trees.IntegerWords I.Int)) ((init_declarator (Trees.Declarator 1 (Trees.DeclaredName (name (codes "p") (at_place 1 44))) Trees.NoSuffixes) (Some (Trees.InitValue (Trees.Named (name (codes "v") (at_place 1 48)))))) ∷ [])) (Trees.Perform (Trees.Return (at_place 1 51) (Some (Trees.Binary B.LessEqual (Trees.Cast (at_place 1 58) (Trees.TypeName (words (at_place 1 59) Trees.VoidWord) (Trees.Declared (Trees.Declarator 1 Trees.NoName Trees.NoSuffixes))) (Trees.Parenthesized (at_place 1 66) (Trees.Binary B.Add (Trees.Named (name (codes "p") (at_place 1 67))) (Trees.Integer 1 I.Int (at_place 1 71))))) (Trees.Named (name (codes "v") (at_place 1 77)))))) Trees.Close)))) ∷ []) (at_place 1 81))

s291-accepted : refusal s291 ≡ None
unfolding convert_to outcome_of negated_of complement_of
s291-accepted = refl

s291-answer : shown (reference (typed_of s291) [] 100) ≡ Over (Ended 0) ([])
unfolding convert_to outcome_of negated_of complement_of bodies_within greatest_depth
s291-answer = refl

-- int main(void) { int *p = NULL; p--; }
abbrev s292 : Trees.ProgramTree
s292 = (program ((Trees.Function (Trees.Plain (words (at_place 1 1) (Trees.IntegerWords I.Int))) (Trees.Declarator 0 (Trees.DeclaredName (name (codes "main") (at_place 1 5))) (Trees.FunctionSuffix (Trees.Parameter (words (at_place 1 10) Trees.VoidWord) Trees.NoDeclarator Trees.NoParameters) Trees.NoSuffixes)) (at_place 1 16) (Trees.Declare (declaration (words (at_place 1 18) (Trees.IntegerWords I.Int)) ((init_declarator (Trees.Declarator 1 (Trees.DeclaredName (name (codes "p") (at_place 1 23))) Trees.NoSuffixes) (Some (Trees.InitValue (Trees.Null (at_place 1 27))))) ∷ [])) (Trees.Perform (Trees.Expression (Trees.PostDecrement (Trees.Named (name (codes "p") (at_place 1 33))))) Trees.Close))) ∷ []) (at_place 1 39))

s292-accepted : refusal s292 ≡ None
unfolding convert_to outcome_of negated_of complement_of
s292-accepted = refl

s292-answer : shown (reference (typed_of s292) [] 100) ≡ Over (Undefined Ub.U17 (at_place 1 33)) ([])
unfolding convert_to outcome_of negated_of complement_of bodies_within greatest_depth
s292-answer = refl

-- int main(void) { int *p = NULL; p - 1; }
abbrev s293 : Trees.ProgramTree
s293 = (program ((Trees.Function (Trees.Plain (words (at_place 1 1) (Trees.IntegerWords I.Int))) (Trees.Declarator 0 (Trees.DeclaredName (name (codes "main") (at_place 1 5))) (Trees.FunctionSuffix (Trees.Parameter (words (at_place 1 10) Trees.VoidWord) Trees.NoDeclarator Trees.NoParameters) Trees.NoSuffixes)) (at_place 1 16) (Trees.Declare (declaration (words (at_place 1 18) (Trees.IntegerWords I.Int)) ((init_declarator (Trees.Declarator 1 (Trees.DeclaredName (name (codes "p") (at_place 1 23))) Trees.NoSuffixes) (Some (Trees.InitValue (Trees.Null (at_place 1 27))))) ∷ [])) (Trees.Perform (Trees.Expression (Trees.Binary B.Subtract (Trees.Named (name (codes "p") (at_place 1 33))) (Trees.Integer 1 I.Int (at_place 1 37)))) Trees.Close))) ∷ []) (at_place 1 41))

s293-accepted : refusal s293 ≡ None
unfolding convert_to outcome_of negated_of complement_of
s293-accepted = refl

s293-answer : shown (reference (typed_of s293) [] 100) ≡ Over (Undefined Ub.U17 (at_place 1 33)) ([])
unfolding convert_to outcome_of negated_of complement_of bodies_within greatest_depth
s293-answer = refl

-- int main(void) { int *p = NULL; -1 + p; }
abbrev s294 : Trees.ProgramTree
s294 = (program ((Trees.Function (Trees.Plain (words (at_place 1 1) (Trees.IntegerWords I.Int))) (Trees.Declarator 0 (Trees.DeclaredName (name (codes "main") (at_place 1 5))) (Trees.FunctionSuffix (Trees.Parameter (words (at_place 1 10) Trees.VoidWord) Trees.NoDeclarator Trees.NoParameters) Trees.NoSuffixes)) (at_place 1 16) (Trees.Declare (declaration (words (at_place 1 18) (Trees.IntegerWords I.Int)) ((init_declarator (Trees.Declarator 1 (Trees.DeclaredName (name (codes "p") (at_place 1 23))) Trees.NoSuffixes) (Some (Trees.InitValue (Trees.Null (at_place 1 27))))) ∷ [])) (Trees.Perform (Trees.Expression (Trees.Binary B.Add (Trees.Prefix P.Minus (at_place 1 33) (Trees.Integer 1 I.Int (at_place 1 34))) (Trees.Named (name (codes "p") (at_place 1 38))))) Trees.Close))) ∷ []) (at_place 1 42))

s294-accepted : refusal s294 ≡ None
unfolding convert_to outcome_of negated_of complement_of
s294-accepted = refl

s294-answer : shown (reference (typed_of s294) [] 100) ≡ Over (Undefined Ub.U17 (at_place 1 33)) ([])
unfolding convert_to outcome_of negated_of complement_of bodies_within greatest_depth
s294-answer = refl

-- int main(void) { int *p = NULL; p -= 1; }
abbrev s295 : Trees.ProgramTree
s295 = (program ((Trees.Function (Trees.Plain (words (at_place 1 1) (Trees.IntegerWords I.Int))) (Trees.Declarator 0 (Trees.DeclaredName (name (codes "main") (at_place 1 5))) (Trees.FunctionSuffix (Trees.Parameter (words (at_place 1 10) Trees.VoidWord) Trees.NoDeclarator Trees.NoParameters) Trees.NoSuffixes)) (at_place 1 16) (Trees.Declare (declaration (words (at_place 1 18) (Trees.IntegerWords I.Int)) ((init_declarator (Trees.Declarator 1 (Trees.DeclaredName (name (codes "p") (at_place 1 23))) Trees.NoSuffixes) (Some (Trees.InitValue (Trees.Null (at_place 1 27))))) ∷ [])) (Trees.Perform (Trees.Expression (Trees.Assign A.Subtract (Trees.Named (name (codes "p") (at_place 1 33))) (Trees.Integer 1 I.Int (at_place 1 38)))) Trees.Close))) ∷ []) (at_place 1 42))

s295-accepted : refusal s295 ≡ None
unfolding convert_to outcome_of negated_of complement_of
s295-accepted = refl

s295-answer : shown (reference (typed_of s295) [] 100) ≡ Over (Undefined Ub.U17 (at_place 1 33)) ([])
unfolding convert_to outcome_of negated_of complement_of bodies_within greatest_depth
s295-answer = refl

-- int main(void) { int *p = NULL; &p[-1]; }
abbrev s296 : Trees.ProgramTree
s296 = (program ((Trees.Function (Trees.Plain (words (at_place 1 1) (Trees.IntegerWords I.Int))) (Trees.Declarator 0 (Trees.DeclaredName (name (codes "main") (at_place 1 5))) (Trees.FunctionSuffix (Trees.Parameter (words (at_place 1 10) Trees.VoidWord) Trees.NoDeclarator Trees.NoParameters) Trees.NoSuffixes)) (at_place 1 16) (Trees.Declare (declaration (words (at_place 1 18) (Trees.IntegerWords I.Int)) ((init_declarator (Trees.Declarator 1 (Trees.DeclaredName (name (codes "p") (at_place 1 23))) Trees.NoSuffixes) (Some (Trees.InitValue (Trees.Null (at_place 1 27))))) ∷ [])) (Trees.Perform (Trees.Expression (Trees.Prefix P.Address (at_place 1 33) (Trees.Index (Trees.Named (name (codes "p") (at_place 1 34))) (Trees.Prefix P.Minus (at_place 1 36) (Trees.Integer 1 I.Int (at_place 1 37)))))) Trees.Close))) ∷ []) (at_place 1 42))

s296-accepted : refusal s296 ≡ None
unfolding convert_to outcome_of negated_of complement_of
s296-accepted = refl

s296-answer : shown (reference (typed_of s296) [] 100) ≡ Over (Undefined Ub.U17 (at_place 1 34)) ([])
unfolding convert_to outcome_of negated_of complement_of bodies_within greatest_depth
s296-answer = refl

-- int main(void) { char *p = malloc(-1); &p[(p + 18446744073709551615ul) - p]; return 5; }
abbrev s297 : Trees.ProgramTree
s297 = (program ((Trees.Function (Trees.Plain (words (at_place 1 1) (Trees.IntegerWords I.Int))) (Trees.Declarator 0 (Trees.DeclaredName (name (codes "main") (at_place 1 5))) (Trees.FunctionSuffix (Trees.Parameter (words (at_place 1 10) Trees.VoidWord) Trees.NoDeclarator Trees.NoParameters) Trees.NoSuffixes)) (at_place 1 16) (Trees.Declare (declaration (words (at_place 1 18) (Trees.IntegerWords I.Char)) ((init_declarator (Trees.Declarator 1 (Trees.DeclaredName (name (codes "p") (at_place 1 24))) Trees.NoSuffixes) (Some (Trees.InitValue (Trees.Call (Trees.Named (name (codes "malloc") (at_place 1 28))) (at_place 1 34) (Trees.Argument (Trees.Prefix P.Minus (at_place 1 35) (Trees.Integer 1 I.Int (at_place 1 36))) Trees.NoArguments))))) ∷ [])) (Trees.Perform (Trees.Expression (Trees.Prefix P.Address (at_place 1 40) (Trees.Index (Trees.Named (name (codes "p") (at_place 1 41))) (Trees.Binary B.Subtract (Trees.Parenthesized (at_place 1 43) (Trees.Binary B.Add (Trees.Named (name (codes "p") (at_place 1 44))) (Trees.Integer 18446744073709551615 I.ULong (at_place 1 48)))) (Trees.Named (name (codes "p") (at_place 1 74))))))) (Trees.Perform (Trees.Return (at_place 1 78) (Some (Trees.Integer 5 I.Int (at_place 1 85)))) Trees.Close)))) ∷ []) (at_place 1 89))

s297-accepted : refusal s297 ≡ None
unfolding convert_to outcome_of negated_of complement_of
s297-accepted = refl

s297-answer : shown (reference (typed_of s297) [] 100) ≡ Over (Undefined Ub.U10 (at_place 1 43)) ([])
unfolding convert_to outcome_of negated_of complement_of bodies_within greatest_depth
s297-answer = refl
