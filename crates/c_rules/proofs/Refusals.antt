-- What programs of one fault each are refused for, and that those without any are accepted.
use Rattle.std.specs.Prelude.{◌≡◌, ℕ, List, [], ◌∷◌, Option, Some, None, codes, refl}
use Rattle.run_theory.specs.declared.place.Pos.{Pos}
use Rattle.c_num.specs.declared.IntType.TheVariants as I
use Rattle.c_num.specs.Conversion.{convert_to}
use Rattle.c_num.specs.Arith.{outcome_of, negated_of, complement_of}
use Rattle.c_syntax.specs.declared.operator.PrefixOperator.TheVariants as P
use Rattle.c_syntax.specs.declared.operator.BinaryOperator.TheVariants as B
use Rattle.c_syntax.specs.declared.operator.AssignOperator.TheVariants as A
use Rattle.c_syntax.specs.Trees
use Rattle.c_rules.specs.declared.rule.TypeRule.TheVariants as T
use Rattle.c_rules.specs.Programs.{refusal}

abbrev at_place : ℕ → ℕ → Pos
at_place line column = record { line = line; column = column }

abbrev name : List ℕ → Pos → Trees.NameTree
name bytes place = record { bytes = bytes; place = place }

abbrev words : Pos → Trees.SimpleTree → Trees.WordsTree
words place simple = record { place = place; words = simple }

abbrev init_declarator : Trees.DeclaratorTree → Option Trees.InitTree → Trees.InitDeclaratorTree
init_declarator declarator init = record { declarator = declarator; init = init }

abbrev declaration : Trees.WordsTree → List Trees.InitDeclaratorTree → Trees.DeclarationTree
declaration w declarators = record { words = w; declarators = declarators }

abbrev members : Trees.WordsTree → List Trees.DeclaratorTree → Trees.MemberTree
members w declarators = record { words = w; declarators = declarators }

abbrev program : List Trees.ItemTree → Pos → Trees.ProgramTree
program items end = record { items = items; end = end }

-- int main;
abbrev s084 : Trees.ProgramTree
s084 = (program ((Trees.Declaration (Trees.Plain (words (at_place 1 1) (Trees.IntegerWords I.Int))) ((init_declarator (Trees.Declarator 0 (Trees.DeclaredName (name (codes "main") (at_place 1 5))) Trees.NoSuffixes) None) ∷ [])) ∷ []) (at_place 1 10))

s084-refused : refusal s084 ≡ Some (record { kind = T.T02; place = at_place 1 5 })
unfolding convert_to outcome_of negated_of complement_of
s084-refused = refl

-- void main(void) {}
abbrev s085 : Trees.ProgramTree
s085 = (program ((Trees.Function (Trees.Plain (words (at_place 1 1) Trees.VoidWord)) (Trees.Declarator 0 (Trees.DeclaredName (name (codes "main") (at_place 1 6))) (Trees.FunctionSuffix (Trees.Parameter (words (at_place 1 11) Trees.VoidWord) Trees.NoDeclarator Trees.NoParameters) Trees.NoSuffixes)) (at_place 1 17) Trees.Close) ∷ []) (at_place 1 19))

s085-refused : refusal s085 ≡ Some (record { kind = T.T02; place = at_place 1 6 })
unfolding convert_to outcome_of negated_of complement_of
s085-refused = refl

-- int main(void) { return x; }
abbrev s088 : Trees.ProgramTree
s088 = (program ((Trees.Function (Trees.Plain (words (at_place 1 1) (Trees.IntegerWords I.Int))) (Trees.Declarator 0 (Trees.DeclaredName (name (codes "main") (at_place 1 5))) (Trees.FunctionSuffix (Trees.Parameter (words (at_place 1 10) Trees.VoidWord) Trees.NoDeclarator Trees.NoParameters) Trees.NoSuffixes)) (at_place 1 16) (Trees.Perform (Trees.Return (at_place 1 18) (Some (Trees.Named (name (codes "x") (at_place 1 25))))) Trees.Close)) ∷ []) (at_place 1 29))

s088-refused : refusal s088 ≡ Some (record { kind = T.T03; place = at_place 1 25 })
unfolding convert_to outcome_of negated_of complement_of
s088-refused = refl

-- int f(struct s *p); int main(void){return 0;}
abbrev s090 : Trees.ProgramTree
s090 = (program ((Trees.Declaration (Trees.Plain (words (at_place 1 1) (Trees.IntegerWords I.Int))) ((init_declarator (Trees.Declarator 0 (Trees.DeclaredName (name (codes "f") (at_place 1 5))) (Trees.FunctionSuffix (Trees.Parameter (words (at_place 1 7) (Trees.StructTag (name (codes "s") (at_place 1 14)))) (Trees.Declared (Trees.Declarator 1 (Trees.DeclaredName (name (codes "p") (at_place 1 17))) Trees.NoSuffixes)) Trees.NoParameters) Trees.NoSuffixes)) None) ∷ [])) ∷ (Trees.Function (Trees.Plain (words (at_place 1 21) (Trees.IntegerWords I.Int))) (Trees.Declarator 0 (Trees.DeclaredName (name (codes "main") (at_place 1 25))) (Trees.FunctionSuffix (Trees.Parameter (words (at_place 1 30) Trees.VoidWord) Trees.NoDeclarator Trees.NoParameters) Trees.NoSuffixes)) (at_place 1 35) (Trees.Perform (Trees.Return (at_place 1 36) (Some (Trees.Integer 0 I.Int (at_place 1 43)))) Trees.Close)) ∷ []) (at_place 1 46))

s090-refused : refusal s090 ≡ Some (record { kind = T.T03; place = at_place 1 14 })
unfolding convert_to outcome_of negated_of complement_of
s090-refused = refl

-- int f(int a) { int a; return 0; } int main(void){return 0;}
abbrev s093 : Trees.ProgramTree
s093 = (program ((Trees.Function (Trees.Plain (words (at_place 1 1) (Trees.IntegerWords I.Int))) (Trees.Declarator 0 (Trees.DeclaredName (name (codes "f") (at_place 1 5))) (Trees.FunctionSuffix (Trees.Parameter (words (at_place 1 7) (Trees.IntegerWords I.Int)) (Trees.Declared (Trees.Declarator 0 (Trees.DeclaredName (name (codes "a") (at_place 1 11))) Trees.NoSuffixes)) Trees.NoParameters) Trees.NoSuffixes)) (at_place 1 14) (Trees.Declare (declaration (words (at_place 1 16) (Trees.IntegerWords I.Int)) ((init_declarator (Trees.Declarator 0 (Trees.DeclaredName (name (codes "a") (at_place 1 20))) Trees.NoSuffixes) None) ∷ [])) (Trees.Perform (Trees.Return (at_place 1 23) (Some (Trees.Integer 0 I.Int (at_place 1 30)))) Trees.Close))) ∷ (Trees.Function (Trees.Plain (words (at_place 1 35) (Trees.IntegerWords I.Int))) (Trees.Declarator 0 (Trees.DeclaredName (name (codes "main") (at_place 1 39))) (Trees.FunctionSuffix (Trees.Parameter (words (at_place 1 44) Trees.VoidWord) Trees.NoDeclarator Trees.NoParameters) Trees.NoSuffixes)) (at_place 1 49) (Trees.Perform (Trees.Return (at_place 1 50) (Some (Trees.Integer 0 I.Int (at_place 1 57)))) Trees.Close)) ∷ []) (at_place 1 60))

s093-refused : refusal s093 ≡ Some (record { kind = T.T04; place = at_place 1 20 })
unfolding convert_to outcome_of negated_of complement_of
s093-refused = refl

-- int f(int a, int a); int main(void){return 0;}
abbrev s094 : Trees.ProgramTree
s094 = (program ((Trees.Declaration (Trees.Plain (words (at_place 1 1) (Trees.IntegerWords I.Int))) ((init_declarator (Trees.Declarator 0 (Trees.DeclaredName (name (codes "f") (at_place 1 5))) (Trees.FunctionSuffix (Trees.Parameter (words (at_place 1 7) (Trees.IntegerWords I.Int)) (Trees.Declared (Trees.Declarator 0 (Trees.DeclaredName (name (codes "a") (at_place 1 11))) Trees.NoSuffixes)) (Trees.Parameter (words (at_place 1 14) (Trees.IntegerWords I.Int)) (Trees.Declared (Trees.Declarator 0 (Trees.DeclaredName (name (codes "a") (at_place 1 18))) Trees.NoSuffixes)) Trees.NoParameters)) Trees.NoSuffixes)) None) ∷ [])) ∷ (Trees.Function (Trees.Plain (words (at_place 1 22) (Trees.IntegerWords I.Int))) (Trees.Declarator 0 (Trees.DeclaredName (name (codes "main") (at_place 1 26))) (Trees.FunctionSuffix (Trees.Parameter (words (at_place 1 31) Trees.VoidWord) Trees.NoDeclarator Trees.NoParameters) Trees.NoSuffixes)) (at_place 1 36) (Trees.Perform (Trees.Return (at_place 1 37) (Some (Trees.Integer 0 I.Int (at_place 1 44)))) Trees.Close)) ∷ []) (at_place 1 47))

s094-refused : refusal s094 ≡ Some (record { kind = T.T04; place = at_place 1 18 })
unfolding convert_to outcome_of negated_of complement_of
s094-refused = refl

-- int x = 1; int x = 1; int main(void){return 0;}
abbrev s097 : Trees.ProgramTree
s097 = (program ((Trees.Declaration (Trees.Plain (words (at_place 1 1) (Trees.IntegerWords I.Int))) ((init_declarator (Trees.Declarator 0 (Trees.DeclaredName (name (codes "x") (at_place 1 5))) Trees.NoSuffixes) (Some (Trees.InitValue (Trees.Integer 1 I.Int (at_place 1 9))))) ∷ [])) ∷ (Trees.Declaration (Trees.Plain (words (at_place 1 12) (Trees.IntegerWords I.Int))) ((init_declarator (Trees.Declarator 0 (Trees.DeclaredName (name (codes "x") (at_place 1 16))) Trees.NoSuffixes) (Some (Trees.InitValue (Trees.Integer 1 I.Int (at_place 1 20))))) ∷ [])) ∷ (Trees.Function (Trees.Plain (words (at_place 1 23) (Trees.IntegerWords I.Int))) (Trees.Declarator 0 (Trees.DeclaredName (name (codes "main") (at_place 1 27))) (Trees.FunctionSuffix (Trees.Parameter (words (at_place 1 32) Trees.VoidWord) Trees.NoDeclarator Trees.NoParameters) Trees.NoSuffixes)) (at_place 1 37) (Trees.Perform (Trees.Return (at_place 1 38) (Some (Trees.Integer 0 I.Int (at_place 1 45)))) Trees.Close)) ∷ []) (at_place 1 48))

s097-refused : refusal s097 ≡ Some (record { kind = T.T04; place = at_place 1 16 })
unfolding convert_to outcome_of negated_of complement_of
s097-refused = refl

-- int f(); int f(void); int f(int); int main(void){return 0;}
abbrev s099 : Trees.ProgramTree
s099 = (program ((Trees.Declaration (Trees.Plain (words (at_place 1 1) (Trees.IntegerWords I.Int))) ((init_declarator (Trees.Declarator 0 (Trees.DeclaredName (name (codes "f") (at_place 1 5))) (Trees.FunctionSuffix Trees.NoParameters Trees.NoSuffixes)) None) ∷ [])) ∷ (Trees.Declaration (Trees.Plain (words (at_place 1 10) (Trees.IntegerWords I.Int))) ((init_declarator (Trees.Declarator 0 (Trees.DeclaredName (name (codes "f") (at_place 1 14))) (Trees.FunctionSuffix (Trees.Parameter (words (at_place 1 16) Trees.VoidWord) Trees.NoDeclarator Trees.NoParameters) Trees.NoSuffixes)) None) ∷ [])) ∷ (Trees.Declaration (Trees.Plain (words (at_place 1 23) (Trees.IntegerWords I.Int))) ((init_declarator (Trees.Declarator 0 (Trees.DeclaredName (name (codes "f") (at_place 1 27))) (Trees.FunctionSuffix (Trees.Parameter (words (at_place 1 29) (Trees.IntegerWords I.Int)) Trees.NoDeclarator Trees.NoParameters) Trees.NoSuffixes)) None) ∷ [])) ∷ (Trees.Function (Trees.Plain (words (at_place 1 35) (Trees.IntegerWords I.Int))) (Trees.Declarator 0 (Trees.DeclaredName (name (codes "main") (at_place 1 39))) (Trees.FunctionSuffix (Trees.Parameter (words (at_place 1 44) Trees.VoidWord) Trees.NoDeclarator Trees.NoParameters) Trees.NoSuffixes)) (at_place 1 49) (Trees.Perform (Trees.Return (at_place 1 50) (Some (Trees.Integer 0 I.Int (at_place 1 57)))) Trees.Close)) ∷ []) (at_place 1 60))

s099-refused : refusal s099 ≡ Some (record { kind = T.T04; place = at_place 1 27 })
unfolding convert_to outcome_of negated_of complement_of
s099-refused = refl

-- struct s {int x;}; struct s {int x;}; int main(void){return 0;}
abbrev s100 : Trees.ProgramTree
s100 = (program ((Trees.Declaration (Trees.StructBody (at_place 1 1) (name (codes "s") (at_place 1 8)) ((members (words (at_place 1 11) (Trees.IntegerWords I.Int)) ((Trees.Declarator 0 (Trees.DeclaredName (name (codes "x") (at_place 1 15))) Trees.NoSuffixes) ∷ [])) ∷ [])) ([])) ∷ (Trees.Declaration (Trees.StructBody (at_place 1 20) (name (codes "s") (at_place 1 27)) ((members (words (at_place 1 30) (Trees.IntegerWords I.Int)) ((Trees.Declarator 0 (Trees.DeclaredName (name (codes "x") (at_place 1 34))) Trees.NoSuffixes) ∷ [])) ∷ [])) ([])) ∷ (Trees.Function (Trees.Plain (words (at_place 1 39) (Trees.IntegerWords I.Int))) (Trees.Declarator 0 (Trees.DeclaredName (name (codes "main") (at_place 1 43))) (Trees.FunctionSuffix (Trees.Parameter (words (at_place 1 48) Trees.VoidWord) Trees.NoDeclarator Trees.NoParameters) Trees.NoSuffixes)) (at_place 1 53) (Trees.Perform (Trees.Return (at_place 1 54) (Some (Trees.Integer 0 I.Int (at_place 1 61)))) Trees.Close)) ∷ []) (at_place 1 64))

s100-refused : refusal s100 ≡ Some (record { kind = T.T04; place = at_place 1 27 })
unfolding convert_to outcome_of negated_of complement_of
s100-refused = refl

-- int malloc; int main(void){return 0;}
abbrev s102 : Trees.ProgramTree
s102 = (program ((Trees.Declaration (Trees.Plain (words (at_place 1 1) (Trees.IntegerWords I.Int))) ((init_declarator (Trees.Declarator 0 (Trees.DeclaredName (name (codes "malloc") (at_place 1 5))) Trees.NoSuffixes) None) ∷ [])) ∷ (Trees.Function (Trees.Plain (words (at_place 1 13) (Trees.IntegerWords I.Int))) (Trees.Declarator 0 (Trees.DeclaredName (name (codes "main") (at_place 1 17))) (Trees.FunctionSuffix (Trees.Parameter (words (at_place 1 22) Trees.VoidWord) Trees.NoDeclarator Trees.NoParameters) Trees.NoSuffixes)) (at_place 1 27) (Trees.Perform (Trees.Return (at_place 1 28) (Some (Trees.Integer 0 I.Int (at_place 1 35)))) Trees.Close)) ∷ []) (at_place 1 38))

s102-refused : refusal s102 ≡ Some (record { kind = T.T04; place = at_place 1 5 })
unfolding convert_to outcome_of negated_of complement_of
s102-refused = refl

-- void free(void *p) {} int main(void){return 0;}
abbrev s103 : Trees.ProgramTree
s103 = (program ((Trees.Function (Trees.Plain (words (at_place 1 1) Trees.VoidWord)) (Trees.Declarator 0 (Trees.DeclaredName (name (codes "free") (at_place 1 6))) (Trees.FunctionSuffix (Trees.Parameter (words (at_place 1 11) Trees.VoidWord) (Trees.Declared (Trees.Declarator 1 (Trees.DeclaredName (name (codes "p") (at_place 1 17))) Trees.NoSuffixes)) Trees.NoParameters) Trees.NoSuffixes)) (at_place 1 20) Trees.Close) ∷ (Trees.Function (Trees.Plain (words (at_place 1 23) (Trees.IntegerWords I.Int))) (Trees.Declarator 0 (Trees.DeclaredName (name (codes "main") (at_place 1 27))) (Trees.FunctionSuffix (Trees.Parameter (words (at_place 1 32) Trees.VoidWord) Trees.NoDeclarator Trees.NoParameters) Trees.NoSuffixes)) (at_place 1 37) (Trees.Perform (Trees.Return (at_place 1 38) (Some (Trees.Integer 0 I.Int (at_place 1 45)))) Trees.Close)) ∷ []) (at_place 1 48))

s103-refused : refusal s103 ≡ Some (record { kind = T.T04; place = at_place 1 6 })
unfolding convert_to outcome_of negated_of complement_of
s103-refused = refl

-- void x; int main(void){return 0;}
abbrev s106 : Trees.ProgramTree
s106 = (program ((Trees.Declaration (Trees.Plain (words (at_place 1 1) Trees.VoidWord)) ((init_declarator (Trees.Declarator 0 (Trees.DeclaredName (name (codes "x") (at_place 1 6))) Trees.NoSuffixes) None) ∷ [])) ∷ (Trees.Function (Trees.Plain (words (at_place 1 9) (Trees.IntegerWords I.Int))) (Trees.Declarator 0 (Trees.DeclaredName (name (codes "main") (at_place 1 13))) (Trees.FunctionSuffix (Trees.Parameter (words (at_place 1 18) Trees.VoidWord) Trees.NoDeclarator Trees.NoParameters) Trees.NoSuffixes)) (at_place 1 23) (Trees.Perform (Trees.Return (at_place 1 24) (Some (Trees.Integer 0 I.Int (at_place 1 31)))) Trees.Close)) ∷ []) (at_place 1 34))

s106-refused : refusal s106 ≡ Some (record { kind = T.T05; place = at_place 1 6 })
unfolding convert_to outcome_of negated_of complement_of
s106-refused = refl

-- void a[3]; int main(void){return 0;}
abbrev s108 : Trees.ProgramTree
s108 = (program ((Trees.Declaration (Trees.Plain (words (at_place 1 1) Trees.VoidWord)) ((init_declarator (Trees.Declarator 0 (Trees.DeclaredName (name (codes "a") (at_place 1 6))) (Trees.ArraySuffix (Trees.ArrayLength (Trees.Integer 3 I.Int (at_place 1 8))) Trees.NoSuffixes)) None) ∷ [])) ∷ (Trees.Function (Trees.Plain (words (at_place 1 12) (Trees.IntegerWords I.Int))) (Trees.Declarator 0 (Trees.DeclaredName (name (codes "main") (at_place 1 16))) (Trees.FunctionSuffix (Trees.Parameter (words (at_place 1 21) Trees.VoidWord) Trees.NoDeclarator Trees.NoParameters) Trees.NoSuffixes)) (at_place 1 26) (Trees.Perform (Trees.Return (at_place 1 27) (Some (Trees.Integer 0 I.Int (at_place 1 34)))) Trees.Close)) ∷ []) (at_place 1 37))

s108-refused : refusal s108 ≡ Some (record { kind = T.T05; place = at_place 1 6 })
unfolding convert_to outcome_of negated_of complement_of
s108-refused = refl

-- struct s a[3]; int main(void){return 0;}
abbrev s109 : Trees.ProgramTree
s109 = (program ((Trees.Declaration (Trees.Plain (words (at_place 1 1) (Trees.StructTag (name (codes "s") (at_place 1 8))))) ((init_declarator (Trees.Declarator 0 (Trees.DeclaredName (name (codes "a") (at_place 1 10))) (Trees.ArraySuffix (Trees.ArrayLength (Trees.Integer 3 I.Int (at_place 1 12))) Trees.NoSuffixes)) None) ∷ [])) ∷ (Trees.Function (Trees.Plain (words (at_place 1 16) (Trees.IntegerWords I.Int))) (Trees.Declarator 0 (Trees.DeclaredName (name (codes "main") (at_place 1 20))) (Trees.FunctionSuffix (Trees.Parameter (words (at_place 1 25) Trees.VoidWord) Trees.NoDeclarator Trees.NoParameters) Trees.NoSuffixes)) (at_place 1 30) (Trees.Perform (Trees.Return (at_place 1 31) (Some (Trees.Integer 0 I.Int (at_place 1 38)))) Trees.Close)) ∷ []) (at_place 1 41))

s109-refused : refusal s109 ≡ Some (record { kind = T.T05; place = at_place 1 10 })
unfolding convert_to outcome_of negated_of complement_of
s109-refused = refl

-- struct s {int f(void);}; int main(void){return 0;}
abbrev s111 : Trees.ProgramTree
s111 = (program ((Trees.Declaration (Trees.StructBody (at_place 1 1) (name (codes "s") (at_place 1 8)) ((members (words (at_place 1 11) (Trees.IntegerWords I.Int)) ((Trees.Declarator 0 (Trees.DeclaredName (name (codes "f") (at_place 1 15))) (Trees.FunctionSuffix (Trees.Parameter (words (at_place 1 17) Trees.VoidWord) Trees.NoDeclarator Trees.NoParameters) Trees.NoSuffixes)) ∷ [])) ∷ [])) ([])) ∷ (Trees.Function (Trees.Plain (words (at_place 1 26) (Trees.IntegerWords I.Int))) (Trees.Declarator 0 (Trees.DeclaredName (name (codes "main") (at_place 1 30))) (Trees.FunctionSuffix (Trees.Parameter (words (at_place 1 35) Trees.VoidWord) Trees.NoDeclarator Trees.NoParameters) Trees.NoSuffixes)) (at_place 1 40) (Trees.Perform (Trees.Return (at_place 1 41) (Some (Trees.Integer 0 I.Int (at_place 1 48)))) Trees.Close)) ∷ []) (at_place 1 51))

s111-refused : refusal s111 ≡ Some (record { kind = T.T05; place = at_place 1 15 })
unfolding convert_to outcome_of negated_of complement_of
s111-refused = refl

-- struct s x; struct s {int y;}; int main(void){return 0;}
abbrev s112 : Trees.ProgramTree
s112 = (program ((Trees.Declaration (Trees.Plain (words (at_place 1 1) (Trees.StructTag (name (codes "s") (at_place 1 8))))) ((init_declarator (Trees.Declarator 0 (Trees.DeclaredName (name (codes "x") (at_place 1 10))) Trees.NoSuffixes) None) ∷ [])) ∷ (Trees.Declaration (Trees.StructBody (at_place 1 13) (name (codes "s") (at_place 1 20)) ((members (words (at_place 1 23) (Trees.IntegerWords I.Int)) ((Trees.Declarator 0 (Trees.DeclaredName (name (codes "y") (at_place 1 27))) Trees.NoSuffixes) ∷ [])) ∷ [])) ([])) ∷ (Trees.Function (Trees.Plain (words (at_place 1 32) (Trees.IntegerWords I.Int))) (Trees.Declarator 0 (Trees.DeclaredName (name (codes "main") (at_place 1 36))) (Trees.FunctionSuffix (Trees.Parameter (words (at_place 1 41) Trees.VoidWord) Trees.NoDeclarator Trees.NoParameters) Trees.NoSuffixes)) (at_place 1 46) (Trees.Perform (Trees.Return (at_place 1 47) (Some (Trees.Integer 0 I.Int (at_place 1 54)))) Trees.Close)) ∷ []) (at_place 1 57))

s112-refused : refusal s112 ≡ Some (record { kind = T.T05; place = at_place 1 10 })
unfolding convert_to outcome_of negated_of complement_of
s112-refused = refl

-- int main(void) { return sizeof(void); }
abbrev s114 : Trees.ProgramTree
s114 = (program ((Trees.Function (Trees.Plain (words (at_place 1 1) (Trees.IntegerWords I.Int))) (Trees.Declarator 0 (Trees.DeclaredName (name (codes "main") (at_place 1 5))) (Trees.FunctionSuffix (Trees.Parameter (words (at_place 1 10) Trees.VoidWord) Trees.NoDeclarator Trees.NoParameters) Trees.NoSuffixes)) (at_place 1 16) (Trees.Perform (Trees.Return (at_place 1 18) (Some (Trees.SizeofType (at_place 1 25) (Trees.TypeName (words (at_place 1 32) Trees.VoidWord) Trees.NoDeclarator)))) Trees.Close)) ∷ []) (at_place 1 40))

s114-refused : refusal s114 ≡ Some (record { kind = T.T05; place = at_place 1 32 })
unfolding convert_to outcome_of negated_of complement_of
s114-refused = refl

-- int x { } int main(void){return 0;}
abbrev s115 : Trees.ProgramTree
s115 = (program ((Trees.Function (Trees.Plain (words (at_place 1 1) (Trees.IntegerWords I.Int))) (Trees.Declarator 0 (Trees.DeclaredName (name (codes "x") (at_place 1 5))) Trees.NoSuffixes) (at_place 1 7) Trees.Close) ∷ (Trees.Function (Trees.Plain (words (at_place 1 11) (Trees.IntegerWords I.Int))) (Trees.Declarator 0 (Trees.DeclaredName (name (codes "main") (at_place 1 15))) (Trees.FunctionSuffix (Trees.Parameter (words (at_place 1 20) Trees.VoidWord) Trees.NoDeclarator Trees.NoParameters) Trees.NoSuffixes)) (at_place 1 25) (Trees.Perform (Trees.Return (at_place 1 26) (Some (Trees.Integer 0 I.Int (at_place 1 33)))) Trees.Close)) ∷ []) (at_place 1 36))

s115-refused : refusal s115 ≡ Some (record { kind = T.T05; place = at_place 1 5 })
unfolding convert_to outcome_of negated_of complement_of
s115-refused = refl

-- int f(int, void); int main(void){return 0;}
abbrev s117 : Trees.ProgramTree
s117 = (program ((Trees.Declaration (Trees.Plain (words (at_place 1 1) (Trees.IntegerWords I.Int))) ((init_declarator (Trees.Declarator 0 (Trees.DeclaredName (name (codes "f") (at_place 1 5))) (Trees.FunctionSuffix (Trees.Parameter (words (at_place 1 7) (Trees.IntegerWords I.Int)) Trees.NoDeclarator (Trees.Parameter (words (at_place 1 12) Trees.VoidWord) Trees.NoDeclarator Trees.NoParameters)) Trees.NoSuffixes)) None) ∷ [])) ∷ (Trees.Function (Trees.Plain (words (at_place 1 19) (Trees.IntegerWords I.Int))) (Trees.Declarator 0 (Trees.DeclaredName (name (codes "main") (at_place 1 23))) (Trees.FunctionSuffix (Trees.Parameter (words (at_place 1 28) Trees.VoidWord) Trees.NoDeclarator Trees.NoParameters) Trees.NoSuffixes)) (at_place 1 33) (Trees.Perform (Trees.Return (at_place 1 34) (Some (Trees.Integer 0 I.Int (at_place 1 41)))) Trees.Close)) ∷ []) (at_place 1 44))

s117-refused : refusal s117 ≡ Some (record { kind = T.T05; place = at_place 1 12 })
unfolding convert_to outcome_of negated_of complement_of
s117-refused = refl

-- int f(void)[3]; int main(void){return 0;}
abbrev s118 : Trees.ProgramTree
s118 = (program ((Trees.Declaration (Trees.Plain (words (at_place 1 1) (Trees.IntegerWords I.Int))) ((init_declarator (Trees.Declarator 0 (Trees.DeclaredName (name (codes "f") (at_place 1 5))) (Trees.FunctionSuffix (Trees.Parameter (words (at_place 1 7) Trees.VoidWord) Trees.NoDeclarator Trees.NoParameters) (Trees.ArraySuffix (Trees.ArrayLength (Trees.Integer 3 I.Int (at_place 1 13))) Trees.NoSuffixes))) None) ∷ [])) ∷ (Trees.Function (Trees.Plain (words (at_place 1 17) (Trees.IntegerWords I.Int))) (Trees.Declarator 0 (Trees.DeclaredName (name (codes "main") (at_place 1 21))) (Trees.FunctionSuffix (Trees.Parameter (words (at_place 1 26) Trees.VoidWord) Trees.NoDeclarator Trees.NoParameters) Trees.NoSuffixes)) (at_place 1 31) (Trees.Perform (Trees.Return (at_place 1 32) (Some (Trees.Integer 0 I.Int (at_place 1 39)))) Trees.Close)) ∷ []) (at_place 1 42))

s118-refused : refusal s118 ≡ Some (record { kind = T.T05; place = at_place 1 5 })
unfolding convert_to outcome_of negated_of complement_of
s118-refused = refl

-- int main(void) { int f(void); }
abbrev s120 : Trees.ProgramTree
s120 = (program ((Trees.Function (Trees.Plain (words (at_place 1 1) (Trees.IntegerWords I.Int))) (Trees.Declarator 0 (Trees.DeclaredName (name (codes "main") (at_place 1 5))) (Trees.FunctionSuffix (Trees.Parameter (words (at_place 1 10) Trees.VoidWord) Trees.NoDeclarator Trees.NoParameters) Trees.NoSuffixes)) (at_place 1 16) (Trees.Declare (declaration (words (at_place 1 18) (Trees.IntegerWords I.Int)) ((init_declarator (Trees.Declarator 0 (Trees.DeclaredName (name (codes "f") (at_place 1 22))) (Trees.FunctionSuffix (Trees.Parameter (words (at_place 1 24) Trees.VoidWord) Trees.NoDeclarator Trees.NoParameters) Trees.NoSuffixes)) None) ∷ [])) Trees.Close)) ∷ []) (at_place 1 32))

s120-refused : refusal s120 ≡ Some (record { kind = T.T05; place = at_place 1 22 })
unfolding convert_to outcome_of negated_of complement_of
s120-refused = refl

-- int a[]; int main(void){return 0;}
abbrev s121 : Trees.ProgramTree
s121 = (program ((Trees.Declaration (Trees.Plain (words (at_place 1 1) (Trees.IntegerWords I.Int))) ((init_declarator (Trees.Declarator 0 (Trees.DeclaredName (name (codes "a") (at_place 1 5))) (Trees.ArraySuffix Trees.NoLength Trees.NoSuffixes)) None) ∷ [])) ∷ (Trees.Function (Trees.Plain (words (at_place 1 10) (Trees.IntegerWords I.Int))) (Trees.Declarator 0 (Trees.DeclaredName (name (codes "main") (at_place 1 14))) (Trees.FunctionSuffix (Trees.Parameter (words (at_place 1 19) Trees.VoidWord) Trees.NoDeclarator Trees.NoParameters) Trees.NoSuffixes)) (at_place 1 24) (Trees.Perform (Trees.Return (at_place 1 25) (Some (Trees.Integer 0 I.Int (at_place 1 32)))) Trees.Close)) ∷ []) (at_place 1 35))

s121-refused : refusal s121 ≡ Some (record { kind = T.T06; place = at_place 1 5 })
unfolding convert_to outcome_of negated_of complement_of
s121-refused = refl

-- int a[-1]; int main(void){return 0;}
abbrev s123 : Trees.ProgramTree
s123 = (program ((Trees.Declaration (Trees.Plain (words (at_place 1 1) (Trees.IntegerWords I.Int))) ((init_declarator (Trees.Declarator 0 (Trees.DeclaredName (name (codes "a") (at_place 1 5))) (Trees.ArraySuffix (Trees.ArrayLength (Trees.Prefix P.Minus (at_place 1 7) (Trees.Integer 1 I.Int (at_place 1 8)))) Trees.NoSuffixes)) None) ∷ [])) ∷ (Trees.Function (Trees.Plain (words (at_place 1 12) (Trees.IntegerWords I.Int))) (Trees.Declarator 0 (Trees.DeclaredName (name (codes "main") (at_place 1 16))) (Trees.FunctionSuffix (Trees.Parameter (words (at_place 1 21) Trees.VoidWord) Trees.NoDeclarator Trees.NoParameters) Trees.NoSuffixes)) (at_place 1 26) (Trees.Perform (Trees.Return (at_place 1 27) (Some (Trees.Integer 0 I.Int (at_place 1 34)))) Trees.Close)) ∷ []) (at_place 1 37))

s123-refused : refusal s123 ≡ Some (record { kind = T.T06; place = at_place 1 5 })
unfolding convert_to outcome_of negated_of complement_of
s123-refused = refl

-- int a[2][] = {{1}}; int main(void){return 0;}
abbrev s126 : Trees.ProgramTree
s126 = (program ((Trees.Declaration (Trees.Plain (words (at_place 1 1) (Trees.IntegerWords I.Int))) ((init_declarator (Trees.Declarator 0 (Trees.DeclaredName (name (codes "a") (at_place 1 5))) (Trees.ArraySuffix (Trees.ArrayLength (Trees.Integer 2 I.Int (at_place 1 7))) (Trees.ArraySuffix Trees.NoLength Trees.NoSuffixes))) (Some (Trees.InitList (at_place 1 14) (Trees.Inits (Trees.InitList (at_place 1 15) (Trees.Inits (Trees.InitValue (Trees.Integer 1 I.Int (at_place 1 16))) Trees.NoInits)) Trees.NoInits)))) ∷ [])) ∷ (Trees.Function (Trees.Plain (words (at_place 1 21) (Trees.IntegerWords I.Int))) (Trees.Declarator 0 (Trees.DeclaredName (name (codes "main") (at_place 1 25))) (Trees.FunctionSuffix (Trees.Parameter (words (at_place 1 30) Trees.VoidWord) Trees.NoDeclarator Trees.NoParameters) Trees.NoSuffixes)) (at_place 1 35) (Trees.Perform (Trees.Return (at_place 1 36) (Some (Trees.Integer 0 I.Int (at_place 1 43)))) Trees.Close)) ∷ []) (at_place 1 46))

s126-refused : refusal s126 ≡ Some (record { kind = T.T06; place = at_place 1 5 })
unfolding convert_to outcome_of negated_of complement_of
s126-refused = refl

-- int f(int a[0]); int main(void){return 0;}
abbrev s129 : Trees.ProgramTree
s129 = (program ((Trees.Declaration (Trees.Plain (words (at_place 1 1) (Trees.IntegerWords I.Int))) ((init_declarator (Trees.Declarator 0 (Trees.DeclaredName (name (codes "f") (at_place 1 5))) (Trees.FunctionSuffix (Trees.Parameter (words (at_place 1 7) (Trees.IntegerWords I.Int)) (Trees.Declared (Trees.Declarator 0 (Trees.DeclaredName (name (codes "a") (at_place 1 11))) (Trees.ArraySuffix (Trees.ArrayLength (Trees.Integer 0 I.Int (at_place 1 13))) Trees.NoSuffixes))) Trees.NoParameters) Trees.NoSuffixes)) None) ∷ [])) ∷ (Trees.Function (Trees.Plain (words (at_place 1 18) (Trees.IntegerWords I.Int))) (Trees.Declarator 0 (Trees.DeclaredName (name (codes "main") (at_place 1 22))) (Trees.FunctionSuffix (Trees.Parameter (words (at_place 1 27) Trees.VoidWord) Trees.NoDeclarator Trees.NoParameters) Trees.NoSuffixes)) (at_place 1 32) (Trees.Perform (Trees.Return (at_place 1 33) (Some (Trees.Integer 0 I.Int (at_place 1 40)))) Trees.Close)) ∷ []) (at_place 1 43))

s129-refused : refusal s129 ≡ Some (record { kind = T.T06; place = at_place 1 11 })
unfolding convert_to outcome_of negated_of complement_of
s129-refused = refl

-- int main(void) { int a[3]; return -a; }
abbrev s130 : Trees.ProgramTree
s130 = (program ((Trees.Function (Trees.Plain (words (at_place 1 1) (Trees.IntegerWords I.Int))) (Trees.Declarator 0 (Trees.DeclaredName (name (codes "main") (at_place 1 5))) (Trees.FunctionSuffix (Trees.Parameter (words (at_place 1 10) Trees.VoidWord) Trees.NoDeclarator Trees.NoParameters) Trees.NoSuffixes)) (at_place 1 16) (Trees.Declare (declaration (words (at_place 1 18) (Trees.IntegerWords I.Int)) ((init_declarator (Trees.Declarator 0 (Trees.DeclaredName (name (codes "a") (at_place 1 22))) (Trees.ArraySuffix (Trees.ArrayLength (Trees.Integer 3 I.Int (at_place 1 24))) Trees.NoSuffixes)) None) ∷ [])) (Trees.Perform (Trees.Return (at_place 1 28) (Some (Trees.Prefix P.Minus (at_place 1 35) (Trees.Named (name (codes "a") (at_place 1 36)))))) Trees.Close))) ∷ []) (at_place 1 40))

s130-refused : refusal s130 ≡ Some (record { kind = T.T07; place = at_place 1 36 })
unfolding convert_to outcome_of negated_of complement_of
s130-refused = refl

-- int main(void) { int *p; switch (p) {} }
abbrev s132 : Trees.ProgramTree
s132 = (program ((Trees.Function (Trees.Plain (words (at_place 1 1) (Trees.IntegerWords I.Int))) (Trees.Declarator 0 (Trees.DeclaredName (name (codes "main") (at_place 1 5))) (Trees.FunctionSuffix (Trees.Parameter (words (at_place 1 10) Trees.VoidWord) Trees.NoDeclarator Trees.NoParameters) Trees.NoSuffixes)) (at_place 1 16) (Trees.Declare (declaration (words (at_place 1 18) (Trees.IntegerWords I.Int)) ((init_declarator (Trees.Declarator 1 (Trees.DeclaredName (name (codes "p") (at_place 1 23))) Trees.NoSuffixes) None) ∷ [])) (Trees.Perform (Trees.Switch (at_place 1 26) (Trees.Named (name (codes "p") (at_place 1 34))) Trees.SwitchEnd) Trees.Close))) ∷ []) (at_place 1 41))

s132-refused : refusal s132 ≡ Some (record { kind = T.T07; place = at_place 1 34 })
unfolding convert_to outcome_of negated_of complement_of
s132-refused = refl

-- int main(void) { int *p; p += p; }
abbrev s133 : Trees.ProgramTree
s133 = (program ((Trees.Function (Trees.Plain (words (at_place 1 1) (Trees.IntegerWords I.Int))) (Trees.Declarator 0 (Trees.DeclaredName (name (codes "main") (at_place 1 5))) (Trees.FunctionSuffix (Trees.Parameter (words (at_place 1 10) Trees.VoidWord) Trees.NoDeclarator Trees.NoParameters) Trees.NoSuffixes)) (at_place 1 16) (Trees.Declare (declaration (words (at_place 1 18) (Trees.IntegerWords I.Int)) ((init_declarator (Trees.Declarator 1 (Trees.DeclaredName (name (codes "p") (at_place 1 23))) Trees.NoSuffixes) None) ∷ [])) (Trees.Perform (Trees.Expression (Trees.Assign A.Add (Trees.Named (name (codes "p") (at_place 1 26))) (Trees.Named (name (codes "p") (at_place 1 31))))) Trees.Close))) ∷ []) (at_place 1 35))

s133-refused : refusal s133 ≡ Some (record { kind = T.T07; place = at_place 1 31 })
unfolding convert_to outcome_of negated_of complement_of
s133-refused = refl

-- struct s {int a;} x; int main(void) { if (x) ; return 0; }
abbrev s135 : Trees.ProgramTree
s135 = (program ((Trees.Declaration (Trees.StructBody (at_place 1 1) (name (codes "s") (at_place 1 8)) ((members (words (at_place 1 11) (Trees.IntegerWords I.Int)) ((Trees.Declarator 0 (Trees.DeclaredName (name (codes "a") (at_place 1 15))) Trees.NoSuffixes) ∷ [])) ∷ [])) ((init_declarator (Trees.Declarator 0 (Trees.DeclaredName (name (codes "x") (at_place 1 19))) Trees.NoSuffixes) None) ∷ [])) ∷ (Trees.Function (Trees.Plain (words (at_place 1 22) (Trees.IntegerWords I.Int))) (Trees.Declarator 0 (Trees.DeclaredName (name (codes "main") (at_place 1 26))) (Trees.FunctionSuffix (Trees.Parameter (words (at_place 1 31) Trees.VoidWord) Trees.NoDeclarator Trees.NoParameters) Trees.NoSuffixes)) (at_place 1 37) (Trees.Perform (Trees.If (at_place 1 39) (Trees.Named (name (codes "x") (at_place 1 43))) (Trees.Empty (at_place 1 46))) (Trees.Perform (Trees.Return (at_place 1 48) (Some (Trees.Integer 0 I.Int (at_place 1 55)))) Trees.Close))) ∷ []) (at_place 1 59))

s135-refused : refusal s135 ≡ Some (record { kind = T.T08; place = at_place 1 43 })
unfolding convert_to outcome_of negated_of complement_of
s135-refused = refl

-- struct s {int a;} x; int main(void) { return !x; }
abbrev s136 : Trees.ProgramTree
s136 = (program ((Trees.Declaration (Trees.StructBody (at_place 1 1) (name (codes "s") (at_place 1 8)) ((members (words (at_place 1 11) (Trees.IntegerWords I.Int)) ((Trees.Declarator 0 (Trees.DeclaredName (name (codes "a") (at_place 1 15))) Trees.NoSuffixes) ∷ [])) ∷ [])) ((init_declarator (Trees.Declarator 0 (Trees.DeclaredName (name (codes "x") (at_place 1 19))) Trees.NoSuffixes) None) ∷ [])) ∷ (Trees.Function (Trees.Plain (words (at_place 1 22) (Trees.IntegerWords I.Int))) (Trees.Declarator 0 (Trees.DeclaredName (name (codes "main") (at_place 1 26))) (Trees.FunctionSuffix (Trees.Parameter (words (at_place 1 31) Trees.VoidWord) Trees.NoDeclarator Trees.NoParameters) Trees.NoSuffixes)) (at_place 1 37) (Trees.Perform (Trees.Return (at_place 1 39) (Some (Trees.Prefix P.Not (at_place 1 46) (Trees.Named (name (codes "x") (at_place 1 47)))))) Trees.Close)) ∷ []) (at_place 1 51))

s136-refused : refusal s136 ≡ Some (record { kind = T.T08; place = at_place 1 47 })
unfolding convert_to outcome_of negated_of complement_of
s136-refused = refl

-- int main(void) { 5 = 1; }
abbrev s138 : Trees.ProgramTree
s138 = (program ((Trees.Function (Trees.Plain (words (at_place 1 1) (Trees.IntegerWords I.Int))) (Trees.Declarator 0 (Trees.DeclaredName (name (codes "main") (at_place 1 5))) (Trees.FunctionSuffix (Trees.Parameter (words (at_place 1 10) Trees.VoidWord) Trees.NoDeclarator Trees.NoParameters) Trees.NoSuffixes)) (at_place 1 16) (Trees.Perform (Trees.Expression (Trees.Assign A.Assign (Trees.Integer 5 I.Int (at_place 1 18)) (Trees.Integer 1 I.Int (at_place 1 22)))) Trees.Close)) ∷ []) (at_place 1 26))

s138-refused : refusal s138 ≡ Some (record { kind = T.T09; place = at_place 1 18 })
unfolding convert_to outcome_of negated_of complement_of
s138-refused = refl

-- int main(void) { int a[2]; int b[2]; a = b; }
abbrev s139 : Trees.ProgramTree
s139 = (program ((Trees.Function (Trees.Plain (words (at_place 1 1) (Trees.IntegerWords I.Int))) (Trees.Declarator 0 (Trees.DeclaredName (name (codes "main") (at_place 1 5))) (Trees.FunctionSuffix (Trees.Parameter (words (at_place 1 10) Trees.VoidWord) Trees.NoDeclarator Trees.NoParameters) Trees.NoSuffixes)) (at_place 1 16) (Trees.Declare (declaration (words (at_place 1 18) (Trees.IntegerWords I.Int)) ((init_declarator (Trees.Declarator 0 (Trees.DeclaredName (name (codes "a") (at_place 1 22))) (Trees.ArraySuffix (Trees.ArrayLength (Trees.Integer 2 I.Int (at_place 1 24))) Trees.NoSuffixes)) None) ∷ [])) (Trees.Declare (declaration (words (at_place 1 28) (Trees.IntegerWords I.Int)) ((init_declarator (Trees.Declarator 0 (Trees.DeclaredName (name (codes "b") (at_place 1 32))) (Trees.ArraySuffix (Trees.ArrayLength (Trees.Integer 2 I.Int (at_place 1 34))) Trees.NoSuffixes)) None) ∷ [])) (Trees.Perform (Trees.Expression (Trees.Assign A.Assign (Trees.Named (name (codes "a") (at_place 1 38))) (Trees.Named (name (codes "b") (at_place 1 42))))) Trees.Close)))) ∷ []) (at_place 1 46))

s139-refused : refusal s139 ≡ Some (record { kind = T.T09; place = at_place 1 38 })
unfolding convert_to outcome_of negated_of complement_of
s139-refused = refl

-- int main(void) { &5; }
abbrev s141 : Trees.ProgramTree
s141 = (program ((Trees.Function (Trees.Plain (words (at_place 1 1) (Trees.IntegerWords I.Int))) (Trees.Declarator 0 (Trees.DeclaredName (name (codes "main") (at_place 1 5))) (Trees.FunctionSuffix (Trees.Parameter (words (at_place 1 10) Trees.VoidWord) Trees.NoDeclarator Trees.NoParameters) Trees.NoSuffixes)) (at_place 1 16) (Trees.Perform (Trees.Expression (Trees.Prefix P.Address (at_place 1 18) (Trees.Integer 5 I.Int (at_place 1 19)))) Trees.Close)) ∷ []) (at_place 1 23))

s141-refused : refusal s141 ≡ Some (record { kind = T.T09; place = at_place 1 18 })
unfolding convert_to outcome_of negated_of complement_of
s141-refused = refl

-- int main(void) { main = 0; }
abbrev s142 : Trees.ProgramTree
s142 = (program ((Trees.Function (Trees.Plain (words (at_place 1 1) (Trees.IntegerWords I.Int))) (Trees.Declarator 0 (Trees.DeclaredName (name (codes "main") (at_place 1 5))) (Trees.FunctionSuffix (Trees.Parameter (words (at_place 1 10) Trees.VoidWord) Trees.NoDeclarator Trees.NoParameters) Trees.NoSuffixes)) (at_place 1 16) (Trees.Perform (Trees.Expression (Trees.Assign A.Assign (Trees.Named (name (codes "main") (at_place 1 18))) (Trees.Integer 0 I.Int (at_place 1 25)))) Trees.Close)) ∷ []) (at_place 1 29))

s142-refused : refusal s142 ≡ Some (record { kind = T.T09; place = at_place 1 18 })
unfolding convert_to outcome_of negated_of complement_of
s142-refused = refl

-- int main(void) { int x; int *p = x; }
abbrev s144 : Trees.ProgramTree
s144 = (program ((Trees.Function (Trees.Plain (words (at_place 1 1) (Trees.IntegerWords I.Int))) (Trees.Declarator 0 (Trees.DeclaredName (name (codes "main") (at_place 1 5))) (Trees.FunctionSuffix (Trees.Parameter (words (at_place 1 10) Trees.VoidWord) Trees.NoDeclarator Trees.NoParameters) Trees.NoSuffixes)) (at_place 1 16) (Trees.Declare (declaration (words (at_place 1 18) (Trees.IntegerWords I.Int)) ((init_declarator (Trees.Declarator 0 (Trees.DeclaredName (name (codes "x") (at_place 1 22))) Trees.NoSuffixes) None) ∷ [])) (Trees.Declare (declaration (words (at_place 1 25) (Trees.IntegerWords I.Int)) ((init_declarator (Trees.Declarator 1 (Trees.DeclaredName (name (codes "p") (at_place 1 30))) Trees.NoSuffixes) (Some (Trees.InitValue (Trees.Named (name (codes "x") (at_place 1 34)))))) ∷ [])) Trees.Close))) ∷ []) (at_place 1 38))

s144-refused : refusal s144 ≡ Some (record { kind = T.T10; place = at_place 1 34 })
unfolding convert_to outcome_of negated_of complement_of
s144-refused = refl

-- int main(void) { int x; long *p = &x; }
abbrev s145 : Trees.ProgramTree
s145 = (program ((Trees.Function (Trees.Plain (words (at_place 1 1) (Trees.IntegerWords I.Int))) (Trees.Declarator 0 (Trees.DeclaredName (name (codes "main") (at_place 1 5))) (Trees.FunctionSuffix (Trees.Parameter (words (at_place 1 10) Trees.VoidWord) Trees.NoDeclarator Trees.NoParameters) Trees.NoSuffixes)) (at_place 1 16) (Trees.Declare (declaration (words (at_place 1 18) (Trees.IntegerWords I.Int)) ((init_declarator (Trees.Declarator 0 (Trees.DeclaredName (name (codes "x") (at_place 1 22))) Trees.NoSuffixes) None) ∷ [])) (Trees.Declare (declaration (words (at_place 1 25) (Trees.IntegerWords I.Long)) ((init_declarator (Trees.Declarator 1 (Trees.DeclaredName (name (codes "p") (at_place 1 31))) Trees.NoSuffixes) (Some (Trees.InitValue (Trees.Prefix P.Address (at_place 1 35) (Trees.Named (name (codes "x") (at_place 1 36))))))) ∷ [])) Trees.Close))) ∷ []) (at_place 1 40))

s145-refused : refusal s145 ≡ Some (record { kind = T.T10; place = at_place 1 35 })
unfolding convert_to outcome_of negated_of complement_of
s145-refused = refl

-- int f(int *p) {return 0;} int main(void) { return f(1); }
abbrev s147 : Trees.ProgramTree
s147 = (program ((Trees.Function (Trees.Plain (words (at_place 1 1) (Trees.IntegerWords I.Int))) (Trees.Declarator 0 (Trees.DeclaredName (name (codes "f") (at_place 1 5))) (Trees.FunctionSuffix (Trees.Parameter (words (at_place 1 7) (Trees.IntegerWords I.Int)) (Trees.Declared (Trees.Declarator 1 (Trees.DeclaredName (name (codes "p") (at_place 1 12))) Trees.NoSuffixes)) Trees.NoParameters) Trees.NoSuffixes)) (at_place 1 15) (Trees.Perform (Trees.Return (at_place 1 16) (Some (Trees.Integer 0 I.Int (at_place 1 23)))) Trees.Close)) ∷ (Trees.Function (Trees.Plain (words (at_place 1 27) (Trees.IntegerWords I.Int))) (Trees.Declarator 0 (Trees.DeclaredName (name (codes "main") (at_place 1 31))) (Trees.FunctionSuffix (Trees.Parameter (words (at_place 1 36) Trees.VoidWord) Trees.NoDeclarator Trees.NoParameters) Trees.NoSuffixes)) (at_place 1 42) (Trees.Perform (Trees.Return (at_place 1 44) (Some (Trees.Call (Trees.Named (name (codes "f") (at_place 1 51))) (at_place 1 52) (Trees.Argument (Trees.Integer 1 I.Int (at_place 1 53)) Trees.NoArguments)))) Trees.Close)) ∷ []) (at_place 1 58))

s147-refused : refusal s147 ≡ Some (record { kind = T.T10; place = at_place 1 53 })
unfolding convert_to outcome_of negated_of complement_of
s147-refused = refl

-- struct s {int a;} x; struct s y; int main(void) { x = y; return 0; }
abbrev s148 : Trees.ProgramTree
s148 = (program ((Trees.Declaration (Trees.StructBody (at_place 1 1) (name (codes "s") (at_place 1 8)) ((members (words (at_place 1 11) (Trees.IntegerWords I.Int)) ((Trees.Declarator 0 (Trees.DeclaredName (name (codes "a") (at_place 1 15))) Trees.NoSuffixes) ∷ [])) ∷ [])) ((init_declarator (Trees.Declarator 0 (Trees.DeclaredName (name (codes "x") (at_place 1 19))) Trees.NoSuffixes) None) ∷ [])) ∷ (Trees.Declaration (Trees.Plain (words (at_place 1 22) (Trees.StructTag (name (codes "s") (at_place 1 29))))) ((init_declarator (Trees.Declarator 0 (Trees.DeclaredName (name (codes "y") (at_place 1 31))) Trees.NoSuffixes) None) ∷ [])) ∷ (Trees.Function (Trees.Plain (words (at_place 1 34) (Trees.IntegerWords I.Int))) (Trees.Declarator 0 (Trees.DeclaredName (name (codes "main") (at_place 1 38))) (Trees.FunctionSuffix (Trees.Parameter (words (at_place 1 43) Trees.VoidWord) Trees.NoDeclarator Trees.NoParameters) Trees.NoSuffixes)) (at_place 1 49) (Trees.Perform (Trees.Expression (Trees.Assign A.Assign (Trees.Named (name (codes "x") (at_place 1 51))) (Trees.Named (name (codes "y") (at_place 1 55))))) (Trees.Perform (Trees.Return (at_place 1 58) (Some (Trees.Integer 0 I.Int (at_place 1 65)))) Trees.Close))) ∷ []) (at_place 1 69))

s148-refused : refusal s148 ≡ Some (record { kind = T.T10; place = at_place 1 55 })
unfolding convert_to outcome_of negated_of complement_of
s148-refused = refl

-- int main(void) { int *p; long *q; return p == q; }
abbrev s151 : Trees.ProgramTree
s151 = (program ((Trees.Function (Trees.Plain (words (at_place 1 1) (Trees.IntegerWords I.Int))) (Trees.Declarator 0 (Trees.DeclaredName (name (codes "main") (at_place 1 5))) (Trees.FunctionSuffix (Trees.Parameter (words (at_place 1 10) Trees.VoidWord) Trees.NoDeclarator Trees.NoParameters) Trees.NoSuffixes)) (at_place 1 16) (Trees.Declare (declaration (words (at_place 1 18) (Trees.IntegerWords I.Int)) ((init_declarator (Trees.Declarator 1 (Trees.DeclaredName (name (codes "p") (at_place 1 23))) Trees.NoSuffixes) None) ∷ [])) (Trees.Declare (declaration (words (at_place 1 26) (Trees.IntegerWords I.Long)) ((init_declarator (Trees.Declarator 1 (Trees.DeclaredName (name (codes "q") (at_place 1 32))) Trees.NoSuffixes) None) ∷ [])) (Trees.Perform (Trees.Return (at_place 1 35) (Some (Trees.Binary B.Equal (Trees.Named (name (codes "p") (at_place 1 42))) (Trees.Named (name (codes "q") (at_place 1 47)))))) Trees.Close)))) ∷ []) (at_place 1 51))

s151-refused : refusal s151 ≡ Some (record { kind = T.T11; place = at_place 1 42 })
unfolding convert_to outcome_of negated_of complement_of
s151-refused = refl

-- int main(void) { int *p = NULL; void *q = NULL; return p < q; }
abbrev s154 : Trees.ProgramTree
s154 = (program ((Trees.Function (Trees.Plain (words (at_place 1 1) (Trees.IntegerWords I.Int))) (Trees.Declarator 0 (Trees.DeclaredName (name (codes "main") (at_place 1 5))) (Trees.FunctionSuffix (Trees.Parameter (words (at_place 1 10) Trees.VoidWord) Trees.NoDeclarator Trees.NoParameters) Trees.NoSuffixes)) (at_place 1 16) (Trees.Declare (declaration (words (at_place 1 18) (Trees.IntegerWords I.Int)) ((init_declarator (Trees.Declarator 1 (Trees.DeclaredName (name (codes "p") (at_place 1 23))) Trees.NoSuffixes) (Some (Trees.InitValue (Trees.Null (at_place 1 27))))) ∷ [])) (Trees.Declare (declaration (words (at_place 1 33) Trees.VoidWord) ((init_declarator (Trees.Declarator 1 (Trees.DeclaredName (name (codes "q") (at_place 1 39))) Trees.NoSuffixes) (Some (Trees.InitValue (Trees.Null (at_place 1 43))))) ∷ [])) (Trees.Perform (Trees.Return (at_place 1 49) (Some (Trees.Binary B.Less (Trees.Named (name (codes "p") (at_place 1 56))) (Trees.Named (name (codes "q") (at_place 1 60)))))) Trees.Close)))) ∷ []) (at_place 1 64))

s154-refused : refusal s154 ≡ Some (record { kind = T.T11; place = at_place 1 56 })
unfolding convert_to outcome_of negated_of complement_of
s154-refused = refl

-- int main(void) { return main < main; }
abbrev s156 : Trees.ProgramTree
s156 = (program ((Trees.Function (Trees.Plain (words (at_place 1 1) (Trees.IntegerWords I.Int))) (Trees.Declarator 0 (Trees.DeclaredName (name (codes "main") (at_place 1 5))) (Trees.FunctionSuffix (Trees.Parameter (words (at_place 1 10) Trees.VoidWord) Trees.NoDeclarator Trees.NoParameters) Trees.NoSuffixes)) (at_place 1 16) (Trees.Perform (Trees.Return (at_place 1 18) (Some (Trees.Binary B.Less (Trees.Named (name (codes "main") (at_place 1 25))) (Trees.Named (name (codes "main") (at_place 1 32)))))) Trees.Close)) ∷ []) (at_place 1 39))

s156-refused : refusal s156 ≡ Some (record { kind = T.T11; place = at_place 1 25 })
unfolding convert_to outcome_of negated_of complement_of
s156-refused = refl

-- int main(void) { int *p = NULL; return 1 - p; }
abbrev s157 : Trees.ProgramTree
s157 = (program ((Trees.Function (Trees.Plain (words (at_place 1 1) (Trees.IntegerWords I.Int))) (Trees.Declarator 0 (Trees.DeclaredName (name (codes "main") (at_place 1 5))) (Trees.FunctionSuffix (Trees.Parameter (words (at_place 1 10) Trees.VoidWord) Trees.NoDeclarator Trees.NoParameters) Trees.NoSuffixes)) (at_place 1 16) (Trees.Declare (declaration (words (at_place 1 18) (Trees.IntegerWords I.Int)) ((init_declarator (Trees.Declarator 1 (Trees.DeclaredName (name (codes "p") (at_place 1 23))) Trees.NoSuffixes) (Some (Trees.InitValue (Trees.Null (at_place 1 27))))) ∷ [])) (Trees.Perform (Trees.Return (at_place 1 33) (Some (Trees.Binary B.Subtract (Trees.Integer 1 I.Int (at_place 1 40)) (Trees.Named (name (codes "p") (at_place 1 44)))))) Trees.Close))) ∷ []) (at_place 1 48))

s157-refused : refusal s157 ≡ Some (record { kind = T.T11; place = at_place 1 40 })
unfolding convert_to outcome_of negated_of complement_of
s157-refused = refl

-- struct s {int a;} x; int main(void) { x; return 0; }
abbrev s159 : Trees.ProgramTree
s159 = (program ((Trees.Declaration (Trees.StructBody (at_place 1 1) (name (codes "s") (at_place 1 8)) ((members (words (at_place 1 11) (Trees.IntegerWords I.Int)) ((Trees.Declarator 0 (Trees.DeclaredName (name (codes "a") (at_place 1 15))) Trees.NoSuffixes) ∷ [])) ∷ [])) ((init_declarator (Trees.Declarator 0 (Trees.DeclaredName (name (codes "x") (at_place 1 19))) Trees.NoSuffixes) None) ∷ [])) ∷ (Trees.Function (Trees.Plain (words (at_place 1 22) (Trees.IntegerWords I.Int))) (Trees.Declarator 0 (Trees.DeclaredName (name (codes "main") (at_place 1 26))) (Trees.FunctionSuffix (Trees.Parameter (words (at_place 1 31) Trees.VoidWord) Trees.NoDeclarator Trees.NoParameters) Trees.NoSuffixes)) (at_place 1 37) (Trees.Perform (Trees.Expression (Trees.Named (name (codes "x") (at_place 1 39)))) (Trees.Perform (Trees.Return (at_place 1 42) (Some (Trees.Integer 0 I.Int (at_place 1 49)))) Trees.Close))) ∷ []) (at_place 1 53))

s159-refused : refusal s159 ≡ Some (record { kind = T.T19; place = at_place 1 39 })
unfolding convert_to outcome_of negated_of complement_of
s159-refused = refl

-- int main(void) { int x; x(); }
abbrev s160 : Trees.ProgramTree
s160 = (program ((Trees.Function (Trees.Plain (words (at_place 1 1) (Trees.IntegerWords I.Int))) (Trees.Declarator 0 (Trees.DeclaredName (name (codes "main") (at_place 1 5))) (Trees.FunctionSuffix (Trees.Parameter (words (at_place 1 10) Trees.VoidWord) Trees.NoDeclarator Trees.NoParameters) Trees.NoSuffixes)) (at_place 1 16) (Trees.Declare (declaration (words (at_place 1 18) (Trees.IntegerWords I.Int)) ((init_declarator (Trees.Declarator 0 (Trees.DeclaredName (name (codes "x") (at_place 1 22))) Trees.NoSuffixes) None) ∷ [])) (Trees.Perform (Trees.Expression (Trees.Call (Trees.Named (name (codes "x") (at_place 1 25))) (at_place 1 26) Trees.NoArguments)) Trees.Close))) ∷ []) (at_place 1 31))

s160-refused : refusal s160 ≡ Some (record { kind = T.T12; place = at_place 1 25 })
unfolding convert_to outcome_of negated_of complement_of
s160-refused = refl

-- int main(void) { return main(1); }
abbrev s162 : Trees.ProgramTree
s162 = (program ((Trees.Function (Trees.Plain (words (at_place 1 1) (Trees.IntegerWords I.Int))) (Trees.Declarator 0 (Trees.DeclaredName (name (codes "main") (at_place 1 5))) (Trees.FunctionSuffix (Trees.Parameter (words (at_place 1 10) Trees.VoidWord) Trees.NoDeclarator Trees.NoParameters) Trees.NoSuffixes)) (at_place 1 16) (Trees.Perform (Trees.Return (at_place 1 18) (Some (Trees.Call (Trees.Named (name (codes "main") (at_place 1 25))) (at_place 1 29) (Trees.Argument (Trees.Integer 1 I.Int (at_place 1 30)) Trees.NoArguments)))) Trees.Close)) ∷ []) (at_place 1 35))

s162-refused : refusal s162 ≡ Some (record { kind = T.T13; place = at_place 1 25 })
unfolding convert_to outcome_of negated_of complement_of
s162-refused = refl

-- int main(void) { exit(); }
abbrev s163 : Trees.ProgramTree
s163 = (program ((Trees.Function (Trees.Plain (words (at_place 1 1) (Trees.IntegerWords I.Int))) (Trees.Declarator 0 (Trees.DeclaredName (name (codes "main") (at_place 1 5))) (Trees.FunctionSuffix (Trees.Parameter (words (at_place 1 10) Trees.VoidWord) Trees.NoDeclarator Trees.NoParameters) Trees.NoSuffixes)) (at_place 1 16) (Trees.Perform (Trees.Expression (Trees.Call (Trees.Named (name (codes "exit") (at_place 1 18))) (at_place 1 22) Trees.NoArguments)) Trees.Close)) ∷ []) (at_place 1 27))

s163-refused : refusal s163 ≡ Some (record { kind = T.T13; place = at_place 1 18 })
unfolding convert_to outcome_of negated_of complement_of
s163-refused = refl

-- int main(void) { void *p; *p; }
abbrev s165 : Trees.ProgramTree
s165 = (program ((Trees.Function (Trees.Plain (words (at_place 1 1) (Trees.IntegerWords I.Int))) (Trees.Declarator 0 (Trees.DeclaredName (name (codes "main") (at_place 1 5))) (Trees.FunctionSuffix (Trees.Parameter (words (at_place 1 10) Trees.VoidWord) Trees.NoDeclarator Trees.NoParameters) Trees.NoSuffixes)) (at_place 1 16) (Trees.Declare (declaration (words (at_place 1 18) Trees.VoidWord) ((init_declarator (Trees.Declarator 1 (Trees.DeclaredName (name (codes "p") (at_place 1 24))) Trees.NoSuffixes) None) ∷ [])) (Trees.Perform (Trees.Expression (Trees.Prefix P.Dereference (at_place 1 27) (Trees.Named (name (codes "p") (at_place 1 28))))) Trees.Close))) ∷ []) (at_place 1 32))

s165-refused : refusal s165 ≡ Some (record { kind = T.T14; place = at_place 1 27 })
unfolding convert_to outcome_of negated_of complement_of
s165-refused = refl

-- int main(void) { int x; x[1]; }
abbrev s166 : Trees.ProgramTree
s166 = (program ((Trees.Function (Trees.Plain (words (at_place 1 1) (Trees.IntegerWords I.Int))) (Trees.Declarator 0 (Trees.DeclaredName (name (codes "main") (at_place 1 5))) (Trees.FunctionSuffix (Trees.Parameter (words (at_place 1 10) Trees.VoidWord) Trees.NoDeclarator Trees.NoParameters) Trees.NoSuffixes)) (at_place 1 16) (Trees.Declare (declaration (words (at_place 1 18) (Trees.IntegerWords I.Int)) ((init_declarator (Trees.Declarator 0 (Trees.DeclaredName (name (codes "x") (at_place 1 22))) Trees.NoSuffixes) None) ∷ [])) (Trees.Perform (Trees.Expression (Trees.Index (Trees.Named (name (codes "x") (at_place 1 25))) (Trees.Integer 1 I.Int (at_place 1 27)))) Trees.Close))) ∷ []) (at_place 1 32))

s166-refused : refusal s166 ≡ Some (record { kind = T.T14; place = at_place 1 25 })
unfolding convert_to outcome_of negated_of complement_of
s166-refused = refl

-- struct s; struct s *p; int main(void) { p++; return p->x; } struct s {int x;};
abbrev s168 : Trees.ProgramTree
s168 = (program ((Trees.Declaration (Trees.Plain (words (at_place 1 1) (Trees.StructTag (name (codes "s") (at_place 1 8))))) ([])) ∷ (Trees.Declaration (Trees.Plain (words (at_place 1 11) (Trees.StructTag (name (codes "s") (at_place 1 18))))) ((init_declarator (Trees.Declarator 1 (Trees.DeclaredName (name (codes "p") (at_place 1 21))) Trees.NoSuffixes) None) ∷ [])) ∷ (Trees.Function (Trees.Plain (words (at_place 1 24) (Trees.IntegerWords I.Int))) (Trees.Declarator 0 (Trees.DeclaredName (name (codes "main") (at_place 1 28))) (Trees.FunctionSuffix (Trees.Parameter (words (at_place 1 33) Trees.VoidWord) Trees.NoDeclarator Trees.NoParameters) Trees.NoSuffixes)) (at_place 1 39) (Trees.Perform (Trees.Expression (Trees.PostIncrement (Trees.Named (name (codes "p") (at_place 1 41))))) (Trees.Perform (Trees.Return (at_place 1 46) (Some (Trees.PointerMember (Trees.Named (name (codes "p") (at_place 1 53))) (name (codes "x") (at_place 1 56))))) Trees.Close))) ∷ (Trees.Declaration (Trees.StructBody (at_place 1 61) (name (codes "s") (at_place 1 68)) ((members (words (at_place 1 71) (Trees.IntegerWords I.Int)) ((Trees.Declarator 0 (Trees.DeclaredName (name (codes "x") (at_place 1 75))) Trees.NoSuffixes) ∷ [])) ∷ [])) ([])) ∷ []) (at_place 1 79))

s168-refused : refusal s168 ≡ Some (record { kind = T.T14; place = at_place 1 41 })
unfolding convert_to outcome_of negated_of complement_of
s168-refused = refl

-- int main(void) { int x; x.y; }
abbrev s169 : Trees.ProgramTree
s169 = (program ((Trees.Function (Trees.Plain (words (at_place 1 1) (Trees.IntegerWords I.Int))) (Trees.Declarator 0 (Trees.DeclaredName (name (codes "main") (at_place 1 5))) (Trees.FunctionSuffix (Trees.Parameter (words (at_place 1 10) Trees.VoidWord) Trees.NoDeclarator Trees.NoParameters) Trees.NoSuffixes)) (at_place 1 16) (Trees.Declare (declaration (words (at_place 1 18) (Trees.IntegerWords I.Int)) ((init_declarator (Trees.Declarator 0 (Trees.DeclaredName (name (codes "x") (at_place 1 22))) Trees.NoSuffixes) None) ∷ [])) (Trees.Perform (Trees.Expression (Trees.Member (Trees.Named (name (codes "x") (at_place 1 25))) (name (codes "y") (at_place 1 27)))) Trees.Close))) ∷ []) (at_place 1 31))

s169-refused : refusal s169 ≡ Some (record { kind = T.T15; place = at_place 1 25 })
unfolding convert_to outcome_of negated_of complement_of
s169-refused = refl

-- struct s {int a;} x; int main(void) { return x.b; }
abbrev s171 : Trees.ProgramTree
s171 = (program ((Trees.Declaration (Trees.StructBody (at_place 1 1) (name (codes "s") (at_place 1 8)) ((members (words (at_place 1 11) (Trees.IntegerWords I.Int)) ((Trees.Declarator 0 (Trees.DeclaredName (name (codes "a") (at_place 1 15))) Trees.NoSuffixes) ∷ [])) ∷ [])) ((init_declarator (Trees.Declarator 0 (Trees.DeclaredName (name (codes "x") (at_place 1 19))) Trees.NoSuffixes) None) ∷ [])) ∷ (Trees.Function (Trees.Plain (words (at_place 1 22) (Trees.IntegerWords I.Int))) (Trees.Declarator 0 (Trees.DeclaredName (name (codes "main") (at_place 1 26))) (Trees.FunctionSuffix (Trees.Parameter (words (at_place 1 31) Trees.VoidWord) Trees.NoDeclarator Trees.NoParameters) Trees.NoSuffixes)) (at_place 1 37) (Trees.Perform (Trees.Return (at_place 1 39) (Some (Trees.Member (Trees.Named (name (codes "x") (at_place 1 46))) (name (codes "b") (at_place 1 48))))) Trees.Close)) ∷ []) (at_place 1 52))

s171-refused : refusal s171 ≡ Some (record { kind = T.T15; place = at_place 1 46 })
unfolding convert_to outcome_of negated_of complement_of
s171-refused = refl

-- int main(void) { int *p; return (int)p; }
abbrev s172 : Trees.ProgramTree
s172 = (program ((Trees.Function (Trees.Plain (words (at_place 1 1) (Trees.IntegerWords I.Int))) (Trees.Declarator 0 (Trees.DeclaredName (name (codes "main") (at_place 1 5))) (Trees.FunctionSuffix (Trees.Parameter (words (at_place 1 10) Trees.VoidWord) Trees.NoDeclarator Trees.NoParameters) Trees.NoSuffixes)) (at_place 1 16) (Trees.Declare (declaration (words (at_place 1 18) (Trees.IntegerWords I.Int)) ((init_declarator (Trees.Declarator 1 (Trees.DeclaredName (name (codes "p") (at_place 1 23))) Trees.NoSuffixes) None) ∷ [])) (Trees.Perform (Trees.Return (at_place 1 26) (Some (Trees.Cast (at_place 1 33) (Trees.TypeName (words (at_place 1 34) (Trees.IntegerWords I.Int)) Trees.NoDeclarator) (Trees.Named (name (codes "p") (at_place 1 38)))))) Trees.Close))) ∷ []) (at_place 1 42))

s172-refused : refusal s172 ≡ Some (record { kind = T.T16; place = at_place 1 33 })
unfolding convert_to outcome_of negated_of complement_of
s172-refused = refl

-- int main(void) { (void *)main; }
abbrev s175 : Trees.ProgramTree
s175 = (program ((Trees.Function (Trees.Plain (words (at_place 1 1) (Trees.IntegerWords I.Int))) (Trees.Declarator 0 (Trees.DeclaredName (name (codes "main") (at_place 1 5))) (Trees.FunctionSuffix (Trees.Parameter (words (at_place 1 10) Trees.VoidWord) Trees.NoDeclarator Trees.NoParameters) Trees.NoSuffixes)) (at_place 1 16) (Trees.Perform (Trees.Expression (Trees.Cast (at_place 1 18) (Trees.TypeName (words (at_place 1 19) Trees.VoidWord) (Trees.Declared (Trees.Declarator 1 Trees.NoName Trees.NoSuffixes))) (Trees.Named (name (codes "main") (at_place 1 26))))) Trees.Close)) ∷ []) (at_place 1 33))

s175-refused : refusal s175 ≡ Some (record { kind = T.T16; place = at_place 1 18 })
unfolding convert_to outcome_of negated_of complement_of
s175-refused = refl

-- struct s {int a;} x; int main(void) { (struct s)x; return 0; }
abbrev s177 : Trees.ProgramTree
s177 = (program ((Trees.Declaration (Trees.StructBody (at_place 1 1) (name (codes "s") (at_place 1 8)) ((members (words (at_place 1 11) (Trees.IntegerWords I.Int)) ((Trees.Declarator 0 (Trees.DeclaredName (name (codes "a") (at_place 1 15))) Trees.NoSuffixes) ∷ [])) ∷ [])) ((init_declarator (Trees.Declarator 0 (Trees.DeclaredName (name (codes "x") (at_place 1 19))) Trees.NoSuffixes) None) ∷ [])) ∷ (Trees.Function (Trees.Plain (words (at_place 1 22) (Trees.IntegerWords I.Int))) (Trees.Declarator 0 (Trees.DeclaredName (name (codes "main") (at_place 1 26))) (Trees.FunctionSuffix (Trees.Parameter (words (at_place 1 31) Trees.VoidWord) Trees.NoDeclarator Trees.NoParameters) Trees.NoSuffixes)) (at_place 1 37) (Trees.Perform (Trees.Expression (Trees.Cast (at_place 1 39) (Trees.TypeName (words (at_place 1 40) (Trees.StructTag (name (codes "s") (at_place 1 47)))) Trees.NoDeclarator) (Trees.Named (name (codes "x") (at_place 1 49))))) (Trees.Perform (Trees.Return (at_place 1 52) (Some (Trees.Integer 0 I.Int (at_place 1 59)))) Trees.Close))) ∷ []) (at_place 1 63))

s177-refused : refusal s177 ≡ Some (record { kind = T.T16; place = at_place 1 39 })
unfolding convert_to outcome_of negated_of complement_of
s177-refused = refl

-- int x; int y = x; int main(void){return 0;}
abbrev s178 : Trees.ProgramTree
s178 = (program ((Trees.Declaration (Trees.Plain (words (at_place 1 1) (Trees.IntegerWords I.Int))) ((init_declarator (Trees.Declarator 0 (Trees.DeclaredName (name (codes "x") (at_place 1 5))) Trees.NoSuffixes) None) ∷ [])) ∷ (Trees.Declaration (Trees.Plain (words (at_place 1 8) (Trees.IntegerWords I.Int))) ((init_declarator (Trees.Declarator 0 (Trees.DeclaredName (name (codes "y") (at_place 1 12))) Trees.NoSuffixes) (Some (Trees.InitValue (Trees.Named (name (codes "x") (at_place 1 16)))))) ∷ [])) ∷ (Trees.Function (Trees.Plain (words (at_place 1 19) (Trees.IntegerWords I.Int))) (Trees.Declarator 0 (Trees.DeclaredName (name (codes "main") (at_place 1 23))) (Trees.FunctionSuffix (Trees.Parameter (words (at_place 1 28) Trees.VoidWord) Trees.NoDeclarator Trees.NoParameters) Trees.NoSuffixes)) (at_place 1 33) (Trees.Perform (Trees.Return (at_place 1 34) (Some (Trees.Integer 0 I.Int (at_place 1 41)))) Trees.Close)) ∷ []) (at_place 1 44))

s178-refused : refusal s178 ≡ Some (record { kind = T.T17; place = at_place 1 16 })
unfolding convert_to outcome_of negated_of complement_of
s178-refused = refl

-- int main(void) { int n = 3; int a[n]; }
abbrev s180 : Trees.ProgramTree
s180 = (program ((Trees.Function (Trees.Plain (words (at_place 1 1) (Trees.IntegerWords I.Int))) (Trees.Declarator 0 (Trees.DeclaredName (name (codes "main") (at_place 1 5))) (Trees.FunctionSuffix (Trees.Parameter (words (at_place 1 10) Trees.VoidWord) Trees.NoDeclarator Trees.NoParameters) Trees.NoSuffixes)) (at_place 1 16) (Trees.Declare (declaration (words (at_place 1 18) (Trees.IntegerWords I.Int)) ((init_declarator (Trees.Declarator 0 (Trees.DeclaredName (name (codes "n") (at_place 1 22))) Trees.NoSuffixes) (Some (Trees.InitValue (Trees.Integer 3 I.Int (at_place 1 26))))) ∷ [])) (Trees.Declare (declaration (words (at_place 1 29) (Trees.IntegerWords I.Int)) ((init_declarator (Trees.Declarator 0 (Trees.DeclaredName (name (codes "a") (at_place 1 33))) (Trees.ArraySuffix (Trees.ArrayLength (Trees.Named (name (codes "n") (at_place 1 35)))) Trees.NoSuffixes)) None) ∷ [])) Trees.Close))) ∷ []) (at_place 1 40))

s180-refused : refusal s180 ≡ Some (record { kind = T.T17; place = at_place 1 35 })
unfolding convert_to outcome_of negated_of complement_of
s180-refused = refl

-- int main(void) { int n; switch (1) { case n: ; } }
abbrev s181 : Trees.ProgramTree
s181 = (program ((Trees.Function (Trees.Plain (words (at_place 1 1) (Trees.IntegerWords I.Int))) (Trees.Declarator 0 (Trees.DeclaredName (name (codes "main") (at_place 1 5))) (Trees.FunctionSuffix (Trees.Parameter (words (at_place 1 10) Trees.VoidWord) Trees.NoDeclarator Trees.NoParameters) Trees.NoSuffixes)) (at_place 1 16) (Trees.Declare (declaration (words (at_place 1 18) (Trees.IntegerWords I.Int)) ((init_declarator (Trees.Declarator 0 (Trees.DeclaredName (name (codes "n") (at_place 1 22))) Trees.NoSuffixes) None) ∷ [])) (Trees.Perform (Trees.Switch (at_place 1 25) (Trees.Integer 1 I.Int (at_place 1 33)) (Trees.Case (at_place 1 38) (Trees.Named (name (codes "n") (at_place 1 43))) (Trees.SwitchStmt (Trees.Empty (at_place 1 46)) Trees.SwitchEnd))) Trees.Close))) ∷ []) (at_place 1 51))

s181-refused : refusal s181 ≡ Some (record { kind = T.T17; place = at_place 1 43 })
unfolding convert_to outcome_of negated_of complement_of
s181-refused = refl

-- int x; int y = &x != NULL; int main(void){return 0;}
abbrev s184 : Trees.ProgramTree
s184 = (program ((Trees.Declaration (Trees.Plain (words (at_place 1 1) (Trees.IntegerWords I.Int))) ((init_declarator (Trees.Declarator 0 (Trees.DeclaredName (name (codes "x") (at_place 1 5))) Trees.NoSuffixes) None) ∷ [])) ∷ (Trees.Declaration (Trees.Plain (words (at_place 1 8) (Trees.IntegerWords I.Int))) ((init_declarator (Trees.Declarator 0 (Trees.DeclaredName (name (codes "y") (at_place 1 12))) Trees.NoSuffixes) (Some (Trees.InitValue (Trees.Binary B.NotEqual (Trees.Prefix P.Address (at_place 1 16) (Trees.Named (name (codes "x") (at_place 1 17)))) (Trees.Null (at_place 1 22)))))) ∷ [])) ∷ (Trees.Function (Trees.Plain (words (at_place 1 28) (Trees.IntegerWords I.Int))) (Trees.Declarator 0 (Trees.DeclaredName (name (codes "main") (at_place 1 32))) (Trees.FunctionSuffix (Trees.Parameter (words (at_place 1 37) Trees.VoidWord) Trees.NoDeclarator Trees.NoParameters) Trees.NoSuffixes)) (at_place 1 42) (Trees.Perform (Trees.Return (at_place 1 43) (Some (Trees.Integer 0 I.Int (at_place 1 50)))) Trees.Close)) ∷ []) (at_place 1 53))

s184-refused : refusal s184 ≡ Some (record { kind = T.T17; place = at_place 1 16 })
unfolding convert_to outcome_of negated_of complement_of
s184-refused = refl

-- int x = {1}; int main(void){return 0;}
abbrev s186 : Trees.ProgramTree
s186 = (program ((Trees.Declaration (Trees.Plain (words (at_place 1 1) (Trees.IntegerWords I.Int))) ((init_declarator (Trees.Declarator 0 (Trees.DeclaredName (name (codes "x") (at_place 1 5))) Trees.NoSuffixes) (Some (Trees.InitList (at_place 1 9) (Trees.Inits (Trees.InitValue (Trees.Integer 1 I.Int (at_place 1 10))) Trees.NoInits)))) ∷ [])) ∷ (Trees.Function (Trees.Plain (words (at_place 1 14) (Trees.IntegerWords I.Int))) (Trees.Declarator 0 (Trees.DeclaredName (name (codes "main") (at_place 1 18))) (Trees.FunctionSuffix (Trees.Parameter (words (at_place 1 23) Trees.VoidWord) Trees.NoDeclarator Trees.NoParameters) Trees.NoSuffixes)) (at_place 1 28) (Trees.Perform (Trees.Return (at_place 1 29) (Some (Trees.Integer 0 I.Int (at_place 1 36)))) Trees.Close)) ∷ []) (at_place 1 39))

s186-refused : refusal s186 ≡ Some (record { kind = T.T18; place = at_place 1 9 })
unfolding convert_to outcome_of negated_of complement_of
s186-refused = refl

-- struct s {int a;}; struct s x = 1; int main(void){return 0;}
abbrev s187 : Trees.ProgramTree
s187 = (program ((Trees.Declaration (Trees.StructBody (at_place 1 1) (name (codes "s") (at_place 1 8)) ((members (words (at_place 1 11) (Trees.IntegerWords I.Int)) ((Trees.Declarator 0 (Trees.DeclaredName (name (codes "a") (at_place 1 15))) Trees.NoSuffixes) ∷ [])) ∷ [])) ([])) ∷ (Trees.Declaration (Trees.Plain (words (at_place 1 20) (Trees.StructTag (name (codes "s") (at_place 1 27))))) ((init_declarator (Trees.Declarator 0 (Trees.DeclaredName (name (codes "x") (at_place 1 29))) Trees.NoSuffixes) (Some (Trees.InitValue (Trees.Integer 1 I.Int (at_place 1 33))))) ∷ [])) ∷ (Trees.Function (Trees.Plain (words (at_place 1 36) (Trees.IntegerWords I.Int))) (Trees.Declarator 0 (Trees.DeclaredName (name (codes "main") (at_place 1 40))) (Trees.FunctionSuffix (Trees.Parameter (words (at_place 1 45) Trees.VoidWord) Trees.NoDeclarator Trees.NoParameters) Trees.NoSuffixes)) (at_place 1 50) (Trees.Perform (Trees.Return (at_place 1 51) (Some (Trees.Integer 0 I.Int (at_place 1 58)))) Trees.Close)) ∷ []) (at_place 1 61))

s187-refused : refusal s187 ≡ Some (record { kind = T.T18; place = at_place 1 33 })
unfolding convert_to outcome_of negated_of complement_of
s187-refused = refl

-- int a[2] = 1; int main(void){return 0;}
abbrev s189 : Trees.ProgramTree
s189 = (program ((Trees.Declaration (Trees.Plain (words (at_place 1 1) (Trees.IntegerWords I.Int))) ((init_declarator (Trees.Declarator 0 (Trees.DeclaredName (name (codes "a") (at_place 1 5))) (Trees.ArraySuffix (Trees.ArrayLength (Trees.Integer 2 I.Int (at_place 1 7))) Trees.NoSuffixes)) (Some (Trees.InitValue (Trees.Integer 1 I.Int (at_place 1 12))))) ∷ [])) ∷ (Trees.Function (Trees.Plain (words (at_place 1 15) (Trees.IntegerWords I.Int))) (Trees.Declarator 0 (Trees.DeclaredName (name (codes "main") (at_place 1 19))) (Trees.FunctionSuffix (Trees.Parameter (words (at_place 1 24) Trees.VoidWord) Trees.NoDeclarator Trees.NoParameters) Trees.NoSuffixes)) (at_place 1 29) (Trees.Perform (Trees.Return (at_place 1 30) (Some (Trees.Integer 0 I.Int (at_place 1 37)))) Trees.Close)) ∷ []) (at_place 1 40))

s189-refused : refusal s189 ≡ Some (record { kind = T.T18; place = at_place 1 12 })
unfolding convert_to outcome_of negated_of complement_of
s189-refused = refl

-- char a[2] = "ab"; char b[2] = "abc"; int main(void){return 0;}
abbrev s190 : Trees.ProgramTree
s190 = (program ((Trees.Declaration (Trees.Plain (words (at_place 1 1) (Trees.IntegerWords I.Char))) ((init_declarator (Trees.Declarator 0 (Trees.DeclaredName (name (codes "a") (at_place 1 6))) (Trees.ArraySuffix (Trees.ArrayLength (Trees.Integer 2 I.Int (at_place 1 8))) Trees.NoSuffixes)) (Some (Trees.InitValue (Trees.Literal (97 ∷ 98 ∷ []) (at_place 1 13))))) ∷ [])) ∷ (Trees.Declaration (Trees.Plain (words (at_place 1 19) (Trees.IntegerWords I.Char))) ((init_declarator (Trees.Declarator 0 (Trees.DeclaredName (name (codes "b") (at_place 1 24))) (Trees.ArraySuffix (Trees.ArrayLength (Trees.Integer 2 I.Int (at_place 1 26))) Trees.NoSuffixes)) (Some (Trees.InitValue (Trees.Literal (97 ∷ 98 ∷ 99 ∷ []) (at_place 1 31))))) ∷ [])) ∷ (Trees.Function (Trees.Plain (words (at_place 1 38) (Trees.IntegerWords I.Int))) (Trees.Declarator 0 (Trees.DeclaredName (name (codes "main") (at_place 1 42))) (Trees.FunctionSuffix (Trees.Parameter (words (at_place 1 47) Trees.VoidWord) Trees.NoDeclarator Trees.NoParameters) Trees.NoSuffixes)) (at_place 1 52) (Trees.Perform (Trees.Return (at_place 1 53) (Some (Trees.Integer 0 I.Int (at_place 1 60)))) Trees.Close)) ∷ []) (at_place 1 63))

s190-refused : refusal s190 ≡ Some (record { kind = T.T18; place = at_place 1 31 })
unfolding convert_to outcome_of negated_of complement_of
s190-refused = refl

-- int main(void) { int a[2] = {1,2}; }
abbrev s192 : Trees.ProgramTree
s192 = (program ((Trees.Function (Trees.Plain (words (at_place 1 1) (Trees.IntegerWords I.Int))) (Trees.Declarator 0 (Trees.DeclaredName (name (codes "main") (at_place 1 5))) (Trees.FunctionSuffix (Trees.Parameter (words (at_place 1 10) Trees.VoidWord) Trees.NoDeclarator Trees.NoParameters) Trees.NoSuffixes)) (at_place 1 16) (Trees.Declare (declaration (words (at_place 1 18) (Trees.IntegerWords I.Int)) ((init_declarator (Trees.Declarator 0 (Trees.DeclaredName (name (codes "a") (at_place 1 22))) (Trees.ArraySuffix (Trees.ArrayLength (Trees.Integer 2 I.Int (at_place 1 24))) Trees.NoSuffixes)) (Some (Trees.InitList (at_place 1 29) (Trees.Inits (Trees.InitValue (Trees.Integer 1 I.Int (at_place 1 30))) (Trees.Inits (Trees.InitValue (Trees.Integer 2 I.Int (at_place 1 32))) Trees.NoInits))))) ∷ [])) Trees.Close)) ∷ []) (at_place 1 37))

s192-refused : refusal s192 ≡ Some (record { kind = T.T18; place = at_place 1 29 })
unfolding convert_to outcome_of negated_of complement_of
s192-refused = refl

-- int main(void) { int x = {1}; }
abbrev s193 : Trees.ProgramTree
s193 = (program ((Trees.Function (Trees.Plain (words (at_place 1 1) (Trees.IntegerWords I.Int))) (Trees.Declarator 0 (Trees.DeclaredName (name (codes "main") (at_place 1 5))) (Trees.FunctionSuffix (Trees.Parameter (words (at_place 1 10) Trees.VoidWord) Trees.NoDeclarator Trees.NoParameters) Trees.NoSuffixes)) (at_place 1 16) (Trees.Declare (declaration (words (at_place 1 18) (Trees.IntegerWords I.Int)) ((init_declarator (Trees.Declarator 0 (Trees.DeclaredName (name (codes "x") (at_place 1 22))) Trees.NoSuffixes) (Some (Trees.InitList (at_place 1 26) (Trees.Inits (Trees.InitValue (Trees.Integer 1 I.Int (at_place 1 27))) Trees.NoInits)))) ∷ [])) Trees.Close)) ∷ []) (at_place 1 32))

s193-refused : refusal s193 ≡ Some (record { kind = T.T18; place = at_place 1 26 })
unfolding convert_to outcome_of negated_of complement_of
s193-refused = refl

-- struct s {int a;}; int f(struct s x); int main(void){return 0;}
abbrev s195 : Trees.ProgramTree
s195 = (program ((Trees.Declaration (Trees.StructBody (at_place 1 1) (name (codes "s") (at_place 1 8)) ((members (words (at_place 1 11) (Trees.IntegerWords I.Int)) ((Trees.Declarator 0 (Trees.DeclaredName (name (codes "a") (at_place 1 15))) Trees.NoSuffixes) ∷ [])) ∷ [])) ([])) ∷ (Trees.Declaration (Trees.Plain (words (at_place 1 20) (Trees.IntegerWords I.Int))) ((init_declarator (Trees.Declarator 0 (Trees.DeclaredName (name (codes "f") (at_place 1 24))) (Trees.FunctionSuffix (Trees.Parameter (words (at_place 1 26) (Trees.StructTag (name (codes "s") (at_place 1 33)))) (Trees.Declared (Trees.Declarator 0 (Trees.DeclaredName (name (codes "x") (at_place 1 35))) Trees.NoSuffixes)) Trees.NoParameters) Trees.NoSuffixes)) None) ∷ [])) ∷ (Trees.Function (Trees.Plain (words (at_place 1 39) (Trees.IntegerWords I.Int))) (Trees.Declarator 0 (Trees.DeclaredName (name (codes "main") (at_place 1 43))) (Trees.FunctionSuffix (Trees.Parameter (words (at_place 1 48) Trees.VoidWord) Trees.NoDeclarator Trees.NoParameters) Trees.NoSuffixes)) (at_place 1 53) (Trees.Perform (Trees.Return (at_place 1 54) (Some (Trees.Integer 0 I.Int (at_place 1 61)))) Trees.Close)) ∷ []) (at_place 1 64))

s195-refused : refusal s195 ≡ Some (record { kind = T.T19; place = at_place 1 35 })
unfolding convert_to outcome_of negated_of complement_of
s195-refused = refl

-- struct s {int a;}; struct s (*g)(void); int main(void){return 0;}
abbrev s196 : Trees.ProgramTree
s196 = (program ((Trees.Declaration (Trees.StructBody (at_place 1 1) (name (codes "s") (at_place 1 8)) ((members (words (at_place 1 11) (Trees.IntegerWords I.Int)) ((Trees.Declarator 0 (Trees.DeclaredName (name (codes "a") (at_place 1 15))) Trees.NoSuffixes) ∷ [])) ∷ [])) ([])) ∷ (Trees.Declaration (Trees.Plain (words (at_place 1 20) (Trees.StructTag (name (codes "s") (at_place 1 27))))) ((init_declarator (Trees.Declarator 0 (Trees.Nested (Trees.Declarator 1 (Trees.DeclaredName (name (codes "g") (at_place 1 31))) Trees.NoSuffixes)) (Trees.FunctionSuffix (Trees.Parameter (words (at_place 1 34) Trees.VoidWord) Trees.NoDeclarator Trees.NoParameters) Trees.NoSuffixes)) None) ∷ [])) ∷ (Trees.Function (Trees.Plain (words (at_place 1 41) (Trees.IntegerWords I.Int))) (Trees.Declarator 0 (Trees.DeclaredName (name (codes "main") (at_place 1 45))) (Trees.FunctionSuffix (Trees.Parameter (words (at_place 1 50) Trees.VoidWord) Trees.NoDeclarator Trees.NoParameters) Trees.NoSuffixes)) (at_place 1 55) (Trees.Perform (Trees.Return (at_place 1 56) (Some (Trees.Integer 0 I.Int (at_place 1 63)))) Trees.Close)) ∷ []) (at_place 1 66))

s196-refused : refusal s196 ≡ Some (record { kind = T.T19; place = at_place 1 31 })
unfolding convert_to outcome_of negated_of complement_of
s196-refused = refl

-- int main(void) { switch (1) { continue; } }
abbrev s198 : Trees.ProgramTree
s198 = (program ((Trees.Function (Trees.Plain (words (at_place 1 1) (Trees.IntegerWords I.Int))) (Trees.Declarator 0 (Trees.DeclaredName (name (codes "main") (at_place 1 5))) (Trees.FunctionSuffix (Trees.Parameter (words (at_place 1 10) Trees.VoidWord) Trees.NoDeclarator Trees.NoParameters) Trees.NoSuffixes)) (at_place 1 16) (Trees.Perform (Trees.Switch (at_place 1 18) (Trees.Integer 1 I.Int (at_place 1 26)) (Trees.SwitchStmt (Trees.Continue (at_place 1 31)) Trees.SwitchEnd)) Trees.Close)) ∷ []) (at_place 1 44))

s198-refused : refusal s198 ≡ Some (record { kind = T.T20; place = at_place 1 31 })
unfolding convert_to outcome_of negated_of complement_of
s198-refused = refl

-- int main(void) { switch (1) { case 1: break; case 0+1: ; } }
abbrev s199 : Trees.ProgramTree
s199 = (program ((Trees.Function (Trees.Plain (words (at_place 1 1) (Trees.IntegerWords I.Int))) (Trees.Declarator 0 (Trees.DeclaredName (name (codes "main") (at_place 1 5))) (Trees.FunctionSuffix (Trees.Parameter (words (at_place 1 10) Trees.VoidWord) Trees.NoDeclarator Trees.NoParameters) Trees.NoSuffixes)) (at_place 1 16) (Trees.Perform (Trees.Switch (at_place 1 18) (Trees.Integer 1 I.Int (at_place 1 26)) (Trees.Case (at_place 1 31) (Trees.Integer 1 I.Int (at_place 1 36)) (Trees.SwitchStmt (Trees.Break (at_place 1 39)) (Trees.Case (at_place 1 46) (Trees.Binary B.Add (Trees.Integer 0 I.Int (at_place 1 51)) (Trees.Integer 1 I.Int (at_place 1 53))) (Trees.SwitchStmt (Trees.Empty (at_place 1 56)) Trees.SwitchEnd))))) Trees.Close)) ∷ []) (at_place 1 61))

s199-refused : refusal s199 ≡ Some (record { kind = T.T21; place = at_place 1 46 })
unfolding convert_to outcome_of negated_of complement_of
s199-refused = refl

-- int main(void) { switch (1u) { case -1: case 4294967295: ; } }
abbrev s202 : Trees.ProgramTree
s202 = (program ((Trees.Function (Trees.Plain (words (at_place 1 1) (Trees.IntegerWords I.Int))) (Trees.Declarator 0 (Trees.DeclaredName (name (codes "main") (at_place 1 5))) (Trees.FunctionSuffix (Trees.Parameter (words (at_place 1 10) Trees.VoidWord) Trees.NoDeclarator Trees.NoParameters) Trees.NoSuffixes)) (at_place 1 16) (Trees.Perform (Trees.Switch (at_place 1 18) (Trees.Integer 1 I.UInt (at_place 1 26)) (Trees.Case (at_place 1 32) (Trees.Prefix P.Minus (at_place 1 37) (Trees.Integer 1 I.Int (at_place 1 38))) (Trees.Case (at_place 1 41) (Trees.Integer 4294967295 I.Long (at_place 1 46)) (Trees.SwitchStmt (Trees.Empty (at_place 1 58)) Trees.SwitchEnd)))) Trees.Close)) ∷ []) (at_place 1 63))

s202-refused : refusal s202 ≡ Some (record { kind = T.T21; place = at_place 1 41 })
unfolding convert_to outcome_of negated_of complement_of
s202-refused = refl

-- int main(void) { return; }
abbrev s204 : Trees.ProgramTree
s204 = (program ((Trees.Function (Trees.Plain (words (at_place 1 1) (Trees.IntegerWords I.Int))) (Trees.Declarator 0 (Trees.DeclaredName (name (codes "main") (at_place 1 5))) (Trees.FunctionSuffix (Trees.Parameter (words (at_place 1 10) Trees.VoidWord) Trees.NoDeclarator Trees.NoParameters) Trees.NoSuffixes)) (at_place 1 16) (Trees.Perform (Trees.Return (at_place 1 18) None) Trees.Close)) ∷ []) (at_place 1 27))

s204-refused : refusal s204 ≡ Some (record { kind = T.T22; place = at_place 1 18 })
unfolding convert_to outcome_of negated_of complement_of
s204-refused = refl

-- int f(void); int main(void) { return f(); }
abbrev s205 : Trees.ProgramTree
s205 = (program ((Trees.Declaration (Trees.Plain (words (at_place 1 1) (Trees.IntegerWords I.Int))) ((init_declarator (Trees.Declarator 0 (Trees.DeclaredName (name (codes "f") (at_place 1 5))) (Trees.FunctionSuffix (Trees.Parameter (words (at_place 1 7) Trees.VoidWord) Trees.NoDeclarator Trees.NoParameters) Trees.NoSuffixes)) None) ∷ [])) ∷ (Trees.Function (Trees.Plain (words (at_place 1 14) (Trees.IntegerWords I.Int))) (Trees.Declarator 0 (Trees.DeclaredName (name (codes "main") (at_place 1 18))) (Trees.FunctionSuffix (Trees.Parameter (words (at_place 1 23) Trees.VoidWord) Trees.NoDeclarator Trees.NoParameters) Trees.NoSuffixes)) (at_place 1 29) (Trees.Perform (Trees.Return (at_place 1 31) (Some (Trees.Call (Trees.Named (name (codes "f") (at_place 1 38))) (at_place 1 39) Trees.NoArguments))) Trees.Close)) ∷ []) (at_place 1 44))

s205-refused : refusal s205 ≡ Some (record { kind = T.T23; place = at_place 1 38 })
unfolding convert_to outcome_of negated_of complement_of
s205-refused = refl

-- int main(void) { return malloc == NULL; }
abbrev s208 : Trees.ProgramTree
s208 = (program ((Trees.Function (Trees.Plain (words (at_place 1 1) (Trees.IntegerWords I.Int))) (Trees.Declarator 0 (Trees.DeclaredName (name (codes "main") (at_place 1 5))) (Trees.FunctionSuffix (Trees.Parameter (words (at_place 1 10) Trees.VoidWord) Trees.NoDeclarator Trees.NoParameters) Trees.NoSuffixes)) (at_place 1 16) (Trees.Perform (Trees.Return (at_place 1 18) (Some (Trees.Binary B.Equal (Trees.Named (name (codes "malloc") (at_place 1 25))) (Trees.Null (at_place 1 35))))) Trees.Close)) ∷ []) (at_place 1 42))

s208-refused : refusal s208 ≡ Some (record { kind = T.T23; place = at_place 1 25 })
unfolding convert_to outcome_of negated_of complement_of
s208-refused = refl

-- int main(void) { (*putchar)('x'); }
abbrev s210 : Trees.ProgramTree
s210 = (program ((Trees.Function (Trees.Plain (words (at_place 1 1) (Trees.IntegerWords I.Int))) (Trees.Declarator 0 (Trees.DeclaredName (name (codes "main") (at_place 1 5))) (Trees.FunctionSuffix (Trees.Parameter (words (at_place 1 10) Trees.VoidWord) Trees.NoDeclarator Trees.NoParameters) Trees.NoSuffixes)) (at_place 1 16) (Trees.Perform (Trees.Expression (Trees.Call (Trees.Parenthesized (at_place 1 18) (Trees.Prefix P.Dereference (at_place 1 19) (Trees.Named (name (codes "putchar") (at_place 1 20))))) (at_place 1 28) (Trees.Argument (Trees.Character 120 (at_place 1 29)) Trees.NoArguments))) Trees.Close)) ∷ []) (at_place 1 36))

s210-refused : refusal s210 ≡ Some (record { kind = T.T23; place = at_place 1 20 })
unfolding convert_to outcome_of negated_of complement_of
s210-refused = refl

-- int a[1/0]; int main(void){return 0;}
abbrev s211 : Trees.ProgramTree
s211 = (program ((Trees.Declaration (Trees.Plain (words (at_place 1 1) (Trees.IntegerWords I.Int))) ((init_declarator (Trees.Declarator 0 (Trees.DeclaredName (name (codes "a") (at_place 1 5))) (Trees.ArraySuffix (Trees.ArrayLength (Trees.Binary B.Divide (Trees.Integer 1 I.Int (at_place 1 7)) (Trees.Integer 0 I.Int (at_place 1 9)))) Trees.NoSuffixes)) None) ∷ [])) ∷ (Trees.Function (Trees.Plain (words (at_place 1 13) (Trees.IntegerWords I.Int))) (Trees.Declarator 0 (Trees.DeclaredName (name (codes "main") (at_place 1 17))) (Trees.FunctionSuffix (Trees.Parameter (words (at_place 1 22) Trees.VoidWord) Trees.NoDeclarator Trees.NoParameters) Trees.NoSuffixes)) (at_place 1 27) (Trees.Perform (Trees.Return (at_place 1 28) (Some (Trees.Integer 0 I.Int (at_place 1 35)))) Trees.Close)) ∷ []) (at_place 1 38))

s211-refused : refusal s211 ≡ Some (record { kind = T.T24; place = at_place 1 7 })
unfolding convert_to outcome_of negated_of complement_of
s211-refused = refl

-- int a = 1 << 31; int main(void){return 0;}
abbrev s213 : Trees.ProgramTree
s213 = (program ((Trees.Declaration (Trees.Plain (words (at_place 1 1) (Trees.IntegerWords I.Int))) ((init_declarator (Trees.Declarator 0 (Trees.DeclaredName (name (codes "a") (at_place 1 5))) Trees.NoSuffixes) (Some (Trees.InitValue (Trees.Binary B.ShiftLeft (Trees.Integer 1 I.Int (at_place 1 9)) (Trees.Integer 31 I.Int (at_place 1 14)))))) ∷ [])) ∷ (Trees.Function (Trees.Plain (words (at_place 1 18) (Trees.IntegerWords I.Int))) (Trees.Declarator 0 (Trees.DeclaredName (name (codes "main") (at_place 1 22))) (Trees.FunctionSuffix (Trees.Parameter (words (at_place 1 27) Trees.VoidWord) Trees.NoDeclarator Trees.NoParameters) Trees.NoSuffixes)) (at_place 1 32) (Trees.Perform (Trees.Return (at_place 1 33) (Some (Trees.Integer 0 I.Int (at_place 1 40)))) Trees.Close)) ∷ []) (at_place 1 43))

s213-refused : refusal s213 ≡ Some (record { kind = T.T24; place = at_place 1 9 })
unfolding convert_to outcome_of negated_of complement_of
s213-refused = refl

-- int a = 1 + 1/0; int main(void){return 0;}
abbrev s216 : Trees.ProgramTree
s216 = (program ((Trees.Declaration (Trees.Plain (words (at_place 1 1) (Trees.IntegerWords I.Int))) ((init_declarator (Trees.Declarator 0 (Trees.DeclaredName (name (codes "a") (at_place 1 5))) Trees.NoSuffixes) (Some (Trees.InitValue (Trees.Binary B.Add (Trees.Integer 1 I.Int (at_place 1 9)) (Trees.Binary B.Divide (Trees.Integer 1 I.Int (at_place 1 13)) (Trees.Integer 0 I.Int (at_place 1 15))))))) ∷ [])) ∷ (Trees.Function (Trees.Plain (words (at_place 1 18) (Trees.IntegerWords I.Int))) (Trees.Declarator 0 (Trees.DeclaredName (name (codes "main") (at_place 1 22))) (Trees.FunctionSuffix (Trees.Parameter (words (at_place 1 27) Trees.VoidWord) Trees.NoDeclarator Trees.NoParameters) Trees.NoSuffixes)) (at_place 1 32) (Trees.Perform (Trees.Return (at_place 1 33) (Some (Trees.Integer 0 I.Int (at_place 1 40)))) Trees.Close)) ∷ []) (at_place 1 43))

s216-refused : refusal s216 ≡ Some (record { kind = T.T24; place = at_place 1 9 })
unfolding convert_to outcome_of negated_of complement_of
s216-refused = refl

-- int a[3]; int *p = &a[4]; int main(void){return 0;}
abbrev s217 : Trees.ProgramTree
s217 = (program ((Trees.Declaration (Trees.Plain (words (at_place 1 1) (Trees.IntegerWords I.Int))) ((init_declarator (Trees.Declarator 0 (Trees.DeclaredName (name (codes "a") (at_place 1 5))) (Trees.ArraySuffix (Trees.ArrayLength (Trees.Integer 3 I.Int (at_place 1 7))) Trees.NoSuffixes)) None) ∷ [])) ∷ (Trees.Declaration (Trees.Plain (words (at_place 1 11) (Trees.IntegerWords I.Int))) ((init_declarator (Trees.Declarator 1 (Trees.DeclaredName (name (codes "p") (at_place 1 16))) Trees.NoSuffixes) (Some (Trees.InitValue (Trees.Prefix P.Address (at_place 1 20) (Trees.Index (Trees.Named (name (codes "a") (at_place 1 21))) (Trees.Integer 4 I.Int (at_place 1 23))))))) ∷ [])) ∷ (Trees.Function (Trees.Plain (words (at_place 1 27) (Trees.IntegerWords I.Int))) (Trees.Declarator 0 (Trees.DeclaredName (name (codes "main") (at_place 1 31))) (Trees.FunctionSuffix (Trees.Parameter (words (at_place 1 36) Trees.VoidWord) Trees.NoDeclarator Trees.NoParameters) Trees.NoSuffixes)) (at_place 1 41) (Trees.Perform (Trees.Return (at_place 1 42) (Some (Trees.Integer 0 I.Int (at_place 1 49)))) Trees.Close)) ∷ []) (at_place 1 52))

s217-refused : refusal s217 ≡ Some (record { kind = T.T24; place = at_place 1 20 })
unfolding convert_to outcome_of negated_of complement_of
s217-refused = refl

-- int x; int *p = &x + 2; int main(void){return 0;}
abbrev s220 : Trees.ProgramTree
s220 = (program ((Trees.Declaration (Trees.Plain (words (at_place 1 1) (Trees.IntegerWords I.Int))) ((init_declarator (Trees.Declarator 0 (Trees.DeclaredName (name (codes "x") (at_place 1 5))) Trees.NoSuffixes) None) ∷ [])) ∷ (Trees.Declaration (Trees.Plain (words (at_place 1 8) (Trees.IntegerWords I.Int))) ((init_declarator (Trees.Declarator 1 (Trees.DeclaredName (name (codes "p") (at_place 1 13))) Trees.NoSuffixes) (Some (Trees.InitValue (Trees.Binary B.Add (Trees.Prefix P.Address (at_place 1 17) (Trees.Named (name (codes "x") (at_place 1 18)))) (Trees.Integer 2 I.Int (at_place 1 22)))))) ∷ [])) ∷ (Trees.Function (Trees.Plain (words (at_place 1 25) (Trees.IntegerWords I.Int))) (Trees.Declarator 0 (Trees.DeclaredName (name (codes "main") (at_place 1 29))) (Trees.FunctionSuffix (Trees.Parameter (words (at_place 1 34) Trees.VoidWord) Trees.NoDeclarator Trees.NoParameters) Trees.NoSuffixes)) (at_place 1 39) (Trees.Perform (Trees.Return (at_place 1 40) (Some (Trees.Integer 0 I.Int (at_place 1 47)))) Trees.Close)) ∷ []) (at_place 1 50))

s220-refused : refusal s220 ≡ Some (record { kind = T.T24; place = at_place 1 17 })
unfolding convert_to outcome_of negated_of complement_of
s220-refused = refl

-- int main(void) { switch (1) { case 1 << 40: ; } }
abbrev s222 : Trees.ProgramTree
s222 = (program ((Trees.Function (Trees.Plain (words (at_place 1 1) (Trees.IntegerWords I.Int))) (Trees.Declarator 0 (Trees.DeclaredName (name (codes "main") (at_place 1 5))) (Trees.FunctionSuffix (Trees.Parameter (words (at_place 1 10) Trees.VoidWord) Trees.NoDeclarator Trees.NoParameters) Trees.NoSuffixes)) (at_place 1 16) (Trees.Perform (Trees.Switch (at_place 1 18) (Trees.Integer 1 I.Int (at_place 1 26)) (Trees.Case (at_place 1 31) (Trees.Binary B.ShiftLeft (Trees.Integer 1 I.Int (at_place 1 36)) (Trees.Integer 40 I.Int (at_place 1 41))) (Trees.SwitchStmt (Trees.Empty (at_place 1 45)) Trees.SwitchEnd))) Trees.Close)) ∷ []) (at_place 1 50))

s222-refused : refusal s222 ≡ Some (record { kind = T.T24; place = at_place 1 36 })
unfolding convert_to outcome_of negated_of complement_of
s222-refused = refl

-- int main(void) { int x; *x = y; }
abbrev s225 : Trees.ProgramTree
s225 = (program ((Trees.Function (Trees.Plain (words (at_place 1 1) (Trees.IntegerWords I.Int))) (Trees.Declarator 0 (Trees.DeclaredName (name (codes "main") (at_place 1 5))) (Trees.FunctionSuffix (Trees.Parameter (words (at_place 1 10) Trees.VoidWord) Trees.NoDeclarator Trees.NoParameters) Trees.NoSuffixes)) (at_place 1 16) (Trees.Declare (declaration (words (at_place 1 18) (Trees.IntegerWords I.Int)) ((init_declarator (Trees.Declarator 0 (Trees.DeclaredName (name (codes "x") (at_place 1 22))) Trees.NoSuffixes) None) ∷ [])) (Trees.Perform (Trees.Expression (Trees.Assign A.Assign (Trees.Prefix P.Dereference (at_place 1 25) (Trees.Named (name (codes "x") (at_place 1 26)))) (Trees.Named (name (codes "y") (at_place 1 30))))) Trees.Close))) ∷ []) (at_place 1 34))

s225-refused : refusal s225 ≡ Some (record { kind = T.T14; place = at_place 1 25 })
unfolding convert_to outcome_of negated_of complement_of
s225-refused = refl

-- int main(void) { int (*p)(void) = (void *)NULL; return 0; }
abbrev s230 : Trees.ProgramTree
s230 = (program ((Trees.Function (Trees.Plain (words (at_place 1 1) (Trees.IntegerWords I.Int))) (Trees.Declarator 0 (Trees.DeclaredName (name (codes "main") (at_place 1 5))) (Trees.FunctionSuffix (Trees.Parameter (words (at_place 1 10) Trees.VoidWord) Trees.NoDeclarator Trees.NoParameters) Trees.NoSuffixes)) (at_place 1 16) (Trees.Declare (declaration (words (at_place 1 18) (Trees.IntegerWords I.Int)) ((init_declarator (Trees.Declarator 0 (Trees.Nested (Trees.Declarator 1 (Trees.DeclaredName (name (codes "p") (at_place 1 24))) Trees.NoSuffixes)) (Trees.FunctionSuffix (Trees.Parameter (words (at_place 1 27) Trees.VoidWord) Trees.NoDeclarator Trees.NoParameters) Trees.NoSuffixes)) (Some (Trees.InitValue (Trees.Cast (at_place 1 35) (Trees.TypeName (words (at_place 1 36) Trees.VoidWord) (Trees.Declared (Trees.Declarator 1 Trees.NoName Trees.NoSuffixes))) (Trees.Null (at_place 1 43)))))) ∷ [])) (Trees.Perform (Trees.Return (at_place 1 49) (Some (Trees.Integer 0 I.Int (at_place 1 56)))) Trees.Close))) ∷ []) (at_place 1 59))

s230-refused : refusal s230 ≡ Some (record { kind = T.T10; place = at_place 1 35 })
unfolding convert_to outcome_of negated_of complement_of
s230-refused = refl

-- int main(void) { int (*p)(void) = (void *)0; return; }
abbrev s231 : Trees.ProgramTree
s231 = (program ((Trees.Function (Trees.Plain (words (at_place 1 1) (Trees.IntegerWords I.Int))) (Trees.Declarator 0 (Trees.DeclaredName (name (codes "main") (at_place 1 5))) (Trees.FunctionSuffix (Trees.Parameter (words (at_place 1 10) Trees.VoidWord) Trees.NoDeclarator Trees.NoParameters) Trees.NoSuffixes)) (at_place 1 16) (Trees.Declare (declaration (words (at_place 1 18) (Trees.IntegerWords I.Int)) ((init_declarator (Trees.Declarator 0 (Trees.Nested (Trees.Declarator 1 (Trees.DeclaredName (name (codes "p") (at_place 1 24))) Trees.NoSuffixes)) (Trees.FunctionSuffix (Trees.Parameter (words (at_place 1 27) Trees.VoidWord) Trees.NoDeclarator Trees.NoParameters) Trees.NoSuffixes)) (Some (Trees.InitValue (Trees.Cast (at_place 1 35) (Trees.TypeName (words (at_place 1 36) Trees.VoidWord) (Trees.Declared (Trees.Declarator 1 Trees.NoName Trees.NoSuffixes))) (Trees.Integer 0 I.Int (at_place 1 43)))))) ∷ [])) (Trees.Perform (Trees.Return (at_place 1 46) None) Trees.Close))) ∷ []) (at_place 1 54))

s231-refused : refusal s231 ≡ Some (record { kind = T.T22; place = at_place 1 46 })
unfolding convert_to outcome_of negated_of complement_of
s231-refused = refl

-- int f(void); int y = f(); int main(void) { return 0; }
abbrev s232 : Trees.ProgramTree
s232 = (program ((Trees.Declaration (Trees.Plain (words (at_place 1 1) (Trees.IntegerWords I.Int))) ((init_declarator (Trees.Declarator 0 (Trees.DeclaredName (name (codes "f") (at_place 1 5))) (Trees.FunctionSuffix (Trees.Parameter (words (at_place 1 7) Trees.VoidWord) Trees.NoDeclarator Trees.NoParameters) Trees.NoSuffixes)) None) ∷ [])) ∷ (Trees.Declaration (Trees.Plain (words (at_place 1 14) (Trees.IntegerWords I.Int))) ((init_declarator (Trees.Declarator 0 (Trees.DeclaredName (name (codes "y") (at_place 1 18))) Trees.NoSuffixes) (Some (Trees.InitValue (Trees.Call (Trees.Named (name (codes "f") (at_place 1 22))) (at_place 1 23) Trees.NoArguments)))) ∷ [])) ∷ (Trees.Function (Trees.Plain (words (at_place 1 27) (Trees.IntegerWords I.Int))) (Trees.Declarator 0 (Trees.DeclaredName (name (codes "main") (at_place 1 31))) (Trees.FunctionSuffix (Trees.Parameter (words (at_place 1 36) Trees.VoidWord) Trees.NoDeclarator Trees.NoParameters) Trees.NoSuffixes)) (at_place 1 42) (Trees.Perform (Trees.Return (at_place 1 44) (Some (Trees.Integer 0 I.Int (at_place 1 51)))) Trees.Close)) ∷ []) (at_place 1 54))

s232-refused : refusal s232 ≡ Some (record { kind = T.T17; place = at_place 1 22 })
unfolding convert_to outcome_of negated_of complement_of
s232-refused = refl

-- int f(void); int main(void) { return (int)f; }
abbrev s233 : Trees.ProgramTree
s233 = (program ((Trees.Declaration (Trees.Plain (words (at_place 1 1) (Trees.IntegerWords I.Int))) ((init_declarator (Trees.Declarator 0 (Trees.DeclaredName (name (codes "f") (at_place 1 5))) (Trees.FunctionSuffix (Trees.Parameter (words (at_place 1 7) Trees.VoidWord) Trees.NoDeclarator Trees.NoParameters) Trees.NoSuffixes)) None) ∷ [])) ∷ (Trees.Function (Trees.Plain (words (at_place 1 14) (Trees.IntegerWords I.Int))) (Trees.Declarator 0 (Trees.DeclaredName (name (codes "main") (at_place 1 18))) (Trees.FunctionSuffix (Trees.Parameter (words (at_place 1 23) Trees.VoidWord) Trees.NoDeclarator Trees.NoParameters) Trees.NoSuffixes)) (at_place 1 29) (Trees.Perform (Trees.Return (at_place 1 31) (Some (Trees.Cast (at_place 1 38) (Trees.TypeName (words (at_place 1 39) (Trees.IntegerWords I.Int)) Trees.NoDeclarator) (Trees.Named (name (codes "f") (at_place 1 43)))))) Trees.Close)) ∷ []) (at_place 1 46))

s233-refused : refusal s233 ≡ Some (record { kind = T.T16; place = at_place 1 38 })
unfolding convert_to outcome_of negated_of complement_of
s233-refused = refl
