-- The elaboration of programs with every form is well typed.
use Rattle.std.specs.Prelude.{◌≡◌, ℕ, true, List, [], ◌∷◌, Option, Some, None, codes, refl}
use Rattle.run_theory.specs.declared.place.Pos.{Pos}
use Rattle.c_num.specs.declared.IntType.TheVariants as I
use Rattle.c_num.specs.Conversion.{convert_to}
use Rattle.c_num.specs.Arith.{outcome_of, negated_of, complement_of}
use Rattle.c_syntax.specs.declared.operator.PrefixOperator.TheVariants as P
use Rattle.c_syntax.specs.declared.operator.BinaryOperator.TheVariants as B
use Rattle.c_syntax.specs.declared.operator.AssignOperator.TheVariants as A
use Rattle.c_syntax.specs.Trees
use Rattle.c_rules.specs.Programs.{refusal}
use Rattle.c_rules.specs.Elaborated.{typed_of}
use Rattle.c_typed.specs.Programs.{is_well_typed}

abbrev at_place : ℕ → ℕ → Pos
at_place line column = record { line = line; column = column }

abbrev name : List ℕ → Pos → Trees.NameTree
name bytes place = record { bytes = bytes; place = place }

abbrev words : Pos → Trees.SimpleTree → Trees.WordsTree
words place simple = record { place = place; words = simple }

abbrev init_declarator : Trees.DeclaratorTree → Option Trees.InitTree → Trees.InitDeclaratorTree
init_declarator declarator init = record { declarator = declarator; init = init }

abbrev declaration : Trees.WordsTree → List Trees.InitDeclaratorTree → Trees.DeclarationTree
declaration w declarators = record { words = w; declarators = declarators }

abbrev members : Trees.WordsTree → List Trees.DeclaratorTree → Trees.MemberTree
members w declarators = record { words = w; declarators = declarators }

abbrev program : List Trees.ItemTree → Pos → Trees.ProgramTree
program items end = record { items = items; end = end }

-- int main(void){int a = 5; unsigned b = 3u; char c = 'x'; long d = -7l; short e = +2; unsigned char f = 1; unsigned short g = 2; unsigned long h = ~9ul; a = a + b * c - d / e % f; b <<= 2; h >>= g; a ^= b & c | d; a = a < b; a = b >= c && !d || e == f; a += 3; c++; --d; a = a ? b : c; (void)a; a = (char)(a); exit(a); return sizeof a + sizeof(int) == EOF;}
abbrev program_1 : Trees.ProgramTree
program_1 = (program ((Trees.Function (Trees.Plain (words (at_place 1 1) (Trees.IntegerWords I.Int))) (Trees.Declarator 0 (Trees.DeclaredName (name (codes "main") (at_place 1 5))) (Trees.FunctionSuffix (Trees.Parameter (words (at_place 1 10) Trees.VoidWord) Trees.NoDeclarator Trees.NoParameters) Trees.NoSuffixes)) (at_place 1 15) (Trees.Declare (declaration (words (at_place 1 16) (Trees.IntegerWords I.Int)) ((init_declarator (Trees.Declarator 0 (Trees.DeclaredName (name (codes "a") (at_place 1 20))) Trees.NoSuffixes) (Some (Trees.InitValue (Trees.Integer 5 I.Int (at_place 1 24))))) ∷ [])) (Trees.Declare (declaration (words (at_place 1 27) (Trees.IntegerWords I.UInt)) ((init_declarator (Trees.Declarator 0 (Trees.DeclaredName (name (codes "b") (at_place 1 36))) Trees.NoSuffixes) (Some (Trees.InitValue (Trees.Integer 3 I.UInt (at_place 1 40))))) ∷ [])) (Trees.Declare (declaration (words (at_place 1 44) (Trees.IntegerWords I.Char)) ((init_declarator (Trees.Declarator 0 (Trees.DeclaredName (name (codes "c") (at_place 1 49))) Trees.NoSuffixes) (Some (Trees.InitValue (Trees.Character 120 (at_place 1 53))))) ∷ [])) (Trees.Declare (declaration (words (at_place 1 58) (Trees.IntegerWords I.Long)) ((init_declarator (Trees.Declarator 0 (Trees.DeclaredName (name (codes "d") (at_place 1 63))) Trees.NoSuffixes) (Some (Trees.InitValue (Trees.Prefix P.Minus (at_place 1 67) (Trees.Integer 7 I.Long (at_place 1 68)))))) ∷ [])) (Trees.Declare (declaration (words (at_place 1 72) (Trees.IntegerWords I.Short)) ((init_declarator (Trees.Declarator 0 (Trees.DeclaredName (name (codes "e") (at_place 1 78))) Trees.NoSuffixes) (Some (Trees.InitValue (Trees.Prefix P.Plus (at_place 1 82) (Trees.Integer 2 I.Int (at_place 1 83)))))) ∷ [])) (Trees.Declare (declaration (words (at_place 1 86) (Trees.IntegerWords I.UChar)) ((init_declarator (Trees.Declarator 0 (Trees.DeclaredName (name (codes "f") (at_place 1 100))) Trees.NoSuffixes) (Some (Trees.InitValue (Trees.Integer 1 I.Int (at_place 1 104))))) ∷ [])) (Trees.Declare (declaration (words (at_place 1 107) (Trees.IntegerWords I.UShort)) ((init_declarator (Trees.Declarator 0 (Trees.DeclaredName (name (codes "g") (at_place 1 122))) Trees.NoSuffixes) (Some (Trees.InitValue (Trees.Integer 2 I.Int (at_place 1 126))))) ∷ [])) (Trees.Declare (declaration (words (at_place 1 129) (Trees.IntegerWords I.ULong)) ((init_declarator (Trees.Declarator 0 (Trees.DeclaredName (name (codes "h") (at_place 1 143))) Trees.NoSuffixes) (Some (Trees.InitValue (Trees.Prefix P.Complement (at_place 1 147) (Trees.Integer 9 I.ULong (at_place 1 148)))))) ∷ [])) (Trees.Perform (Trees.Expression (Trees.Assign A.Assign (Trees.Named (name (codes "a") (at_place 1 153))) (Trees.Binary B.Subtract (Trees.Binary B.Add (Trees.Named (name (codes "a") (at_place 1 157))) (Trees.Binary B.Multiply (Trees.Named (name (codes "b") (at_place 1 161))) (Trees.Named (name (codes "c") (at_place 1 165))))) (Trees.Binary B.Remainder (Trees.Binary B.Divide (Trees.Named (name (codes "d") (at_place 1 169))) (Trees.Named (name (codes "e") (at_place 1 173)))) (Trees.Named (name (codes "f") (at_place 1 177))))))) (Trees.Perform (Trees.Expression (Trees.Assign A.ShiftLeft (Trees.Named (name (codes "b") (at_place 1 180))) (Trees.Integer 2 I.Int (at_place 1 186)))) (Trees.Perform (Trees.Expression (Trees.Assign A.ShiftRight (Trees.Named (name (codes "h") (at_place 1 189))) (Trees.Named (name (codes "g") (at_place 1 195))))) (Trees.Perform (Trees.Expression (Trees.Assign A.BitXor (Trees.Named (name (codes "a") (at_place 1 198))) (Trees.Binary B.BitOr (Trees.Binary B.BitAnd (Trees.Named (name (codes "b") (at_place 1 203))) (Trees.Named (name (codes "c") (at_place 1 207)))) (Trees.Named (name (codes "d") (at_place 1 211)))))) (Trees.Perform (Trees.Expression (Trees.Assign A.Assign (Trees.Named (name (codes "a") (at_place 1 214))) (Trees.Binary B.Less (Trees.Named (name (codes "a") (at_place 1 218))) (Trees.Named (name (codes "b") (at_place 1 222)))))) (Trees.Perform (Trees.Expression (Trees.Assign A.Assign (Trees.Named (name (codes "a") (at_place 1 225))) (Trees.Binary B.Or (Trees.Binary B.And (Trees.Binary B.GreaterEqual (Trees.Named (name (codes "b") (at_place 1 229))) (Trees.Named (name (codes "c") (at_place 1 234)))) (Trees.Prefix P.Not (at_place 1 239) (Trees.Named (name (codes "d") (at_place 1 240))))) (Trees.Binary B.Equal (Trees.Named (name (codes "e") (at_place 1 245))) (Trees.Named (name (codes "f") (at_place 1 250))))))) (Trees.Perform (Trees.Expression (Trees.Assign A.Add (Trees.Named (name (codes "a") (at_place 1 253))) (Trees.Integer 3 I.Int (at_place 1 258)))) (Trees.Perform (Trees.Expression (Trees.PostIncrement (Trees.Named (name (codes "c") (at_place 1 261))))) (Trees.Perform (Trees.Expression (Trees.Prefix P.Decrement (at_place 1 266) (Trees.Named (name (codes "d") (at_place 1 268))))) (Trees.Perform (Trees.Expression (Trees.Assign A.Assign (Trees.Named (name (codes "a") (at_place 1 271))) (Trees.Conditional (Trees.Named (name (codes "a") (at_place 1 275))) (Trees.Named (name (codes "b") (at_place 1 279))) (Trees.Named (name (codes "c") (at_place 1 283)))))) (Trees.Perform (Trees.Expression (Trees.Cast (at_place 1 286) (Trees.TypeName (words (at_place 1 287) Trees.VoidWord) Trees.NoDeclarator) (Trees.Named (name (codes "a") (at_place 1 292))))) (Trees.Perform (Trees.Expression (Trees.Assign A.Assign (Trees.Named (name (codes "a") (at_place 1 295))) (Trees.Cast (at_place 1 299) (Trees.TypeName (words (at_place 1 300) (Trees.IntegerWords I.Char)) Trees.NoDeclarator) (Trees.Parenthesized (at_place 1 305) (Trees.Named (name (codes "a") (at_place 1 306))))))) (Trees.Perform (Trees.Expression (Trees.Call (Trees.Named (name (codes "exit") (at_place 1 310))) (at_place 1 314) (Trees.Argument (Trees.Named (name (codes "a") (at_place 1 315))) Trees.NoArguments))) (Trees.Perform (Trees.Return (at_place 1 319) (Some (Trees.Binary B.Equal (Trees.Binary B.Add (Trees.SizeofExpr (at_place 1 326) (Trees.Named (name (codes "a") (at_place 1 333)))) (Trees.SizeofType (at_place 1 337) (Trees.TypeName (words (at_place 1 344) (Trees.IntegerWords I.Int)) Trees.NoDeclarator))) (Trees.EndOfFile (at_place 1 352))))) Trees.Close))))))))))))))))))))))) ∷ []) (at_place 1 357))

program_1-accepted : refusal program_1 ≡ None
unfolding convert_to outcome_of negated_of complement_of
program_1-accepted = refl

program_1-typed : is_well_typed (typed_of program_1) ≡ true
unfolding convert_to outcome_of negated_of complement_of
program_1-typed = refl

-- int main(void){int c; while ((c = getchar()) != -1) { if (c == 32) continue; else putchar(c); } do { c--; } while (c > 3); for (int i = 0; i < 3; i++) { if (i) break; } for (c = 1; ; ) { break; } switch (c) { case 1: case 'a': c = 2; break; default: ; } ; return 0;}
abbrev program_2 : Trees.ProgramTree
program_2 = (program ((Trees.Function (Trees.Plain (words (at_place 1 1) (Trees.IntegerWords I.Int))) (Trees.Declarator 0 (Trees.DeclaredName (name (codes "main") (at_place 1 5))) (Trees.FunctionSuffix (Trees.Parameter (words (at_place 1 10) Trees.VoidWord) Trees.NoDeclarator Trees.NoParameters) Trees.NoSuffixes)) (at_place 1 15) (Trees.Declare (declaration (words (at_place 1 16) (Trees.IntegerWords I.Int)) ((init_declarator (Trees.Declarator 0 (Trees.DeclaredName (name (codes "c") (at_place 1 20))) Trees.NoSuffixes) None) ∷ [])) (Trees.Perform (Trees.While (at_place 1 23) (Trees.Binary B.NotEqual (Trees.Parenthesized (at_place 1 30) (Trees.Assign A.Assign (Trees.Named (name (codes "c") (at_place 1 31))) (Trees.Call (Trees.Named (name (codes "getchar") (at_place 1 35))) (at_place 1 42) Trees.NoArguments))) (Trees.Prefix P.Minus (at_place 1 49) (Trees.Integer 1 I.Int (at_place 1 50)))) (Trees.BlockStmt (at_place 1 53) (Trees.Perform (Trees.IfElse (at_place 1 55) (Trees.Binary B.Equal (Trees.Named (name (codes "c") (at_place 1 59))) (Trees.Integer 32 I.Int (at_place 1 64))) (Trees.Continue (at_place 1 68)) (Trees.Expression (Trees.Call (Trees.Named (name (codes "putchar") (at_place 1 83))) (at_place 1 90) (Trees.Argument (Trees.Named (name (codes "c") (at_place 1 91))) Trees.NoArguments)))) Trees.Close))) (Trees.Perform (Trees.Do (at_place 1 97) (Trees.BlockStmt (at_place 1 100) (Trees.Perform (Trees.Expression (Trees.PostDecrement (Trees.Named (name (codes "c") (at_place 1 102))))) Trees.Close)) (Trees.Binary B.Greater (Trees.Named (name (codes "c") (at_place 1 116))) (Trees.Integer 3 I.Int (at_place 1 120)))) (Trees.Perform (Trees.For (at_place 1 124) (Trees.ForDeclaration (declaration (words (at_place 1 129) (Trees.IntegerWords I.Int)) ((init_declarator (Trees.Declarator 0 (Trees.DeclaredName (name (codes "i") (at_place 1 133))) Trees.NoSuffixes) (Some (Trees.InitValue (Trees.Integer 0 I.Int (at_place 1 137))))) ∷ []))) (Some (Trees.Binary B.Less (Trees.Named (name (codes "i") (at_place 1 140))) (Trees.Integer 3 I.Int (at_place 1 144)))) (Some (Trees.PostIncrement (Trees.Named (name (codes "i") (at_place 1 147))))) (Trees.BlockStmt (at_place 1 152) (Trees.Perform (Trees.If (at_place 1 154) (Trees.Named (name (codes "i") (at_place 1 158))) (Trees.Break (at_place 1 161))) Trees.Close))) (Trees.Perform (Trees.For (at_place 1 170) (Trees.ForExpression (Trees.Assign A.Assign (Trees.Named (name (codes "c") (at_place 1 175))) (Trees.Integer 1 I.Int (at_place 1 179)))) None None (Trees.BlockStmt (at_place 1 186) (Trees.Perform (Trees.Break (at_place 1 188)) Trees.Close))) (Trees.Perform (Trees.Switch (at_place 1 197) (Trees.Named (name (codes "c") (at_place 1 205))) (Trees.Case (at_place 1 210) (Trees.Integer 1 I.Int (at_place 1 215)) (Trees.Case (at_place 1 218) (Trees.Character 97 (at_place 1 223)) (Trees.SwitchStmt (Trees.Expression (Trees.Assign A.Assign (Trees.Named (name (codes "c") (at_place 1 228))) (Trees.Integer 2 I.Int (at_place 1 232)))) (Trees.SwitchStmt (Trees.Break (at_place 1 235)) (Trees.Default (at_place 1 242) (Trees.SwitchStmt (Trees.Empty (at_place 1 251)) Trees.SwitchEnd))))))) (Trees.Perform (Trees.Empty (at_place 1 255)) (Trees.Perform (Trees.Return (at_place 1 257) (Some (Trees.Integer 0 I.Int (at_place 1 264)))) Trees.Close))))))))) ∷ []) (at_place 1 267))

program_2-accepted : refusal program_2 ≡ None
unfolding convert_to outcome_of negated_of complement_of
program_2-accepted = refl

program_2-typed : is_well_typed (typed_of program_2) ≡ true
unfolding convert_to outcome_of negated_of complement_of
program_2-typed = refl

-- struct t { int q; }; struct s { int v; struct s *next; int row[3]; struct t in; }; struct u; struct u *opaque; int g = 4; int *pg = &g; char text[] = "ab"; char *lit = "abc"; struct s one = { 1, NULL, { 1, 2 }, { 7 } }; int (*fp)(int); int f(int a) { return a + 1; } int (*table[2])(int) = { f, 0 }; void nothing(void) { return; } void *raw(void) { return malloc(8); } int main(void){struct s *p = malloc(sizeof(struct s)); p->v = 1; p->next = NULL; (*p).row[1] = 2; 1[p->row] = p->in.q; int *q = &p->row[0]; q++; q = q + 1; q = 1 + q; q = q - 1; q += 1; q -= 1; long n = q - p->row; if (q == NULL || p != raw() || q < p->row) n = 0; void *v = p; if (v) free(v); free(0); p = v ? p : v; p = (struct s *)v; q = &*q; int *z = &(g); fp = f; fp = &f; fp = *f; n = fp(2) + (*fp)(3) + f(4); nothing(); char *t = "abc"; putchar(t[0]); putchar("xyz"[1]); putchar(*lit); struct s loc; loc.v = 3; int grid[2][3]; grid[1][2] = 4; q = grid[0]; opaque = v; v = opaque; n = table[0](1); (void)0; (v); return !p;}
abbrev program_3 : Trees.ProgramTree
program_3 = (program ((Trees.Declaration (Trees.StructBody (at_place 1 1) (name (codes "t") (at_place 1 8)) ((members (words (at_place 1 12) (Trees.IntegerWords I.Int)) ((Trees.Declarator 0 (Trees.DeclaredName (name (codes "q") (at_place 1 16))) Trees.NoSuffixes) ∷ [])) ∷ [])) ([])) ∷ (Trees.Declaration (Trees.StructBody (at_place 1 22) (name (codes "s") (at_place 1 29)) ((members (words (at_place 1 33) (Trees.IntegerWords I.Int)) ((Trees.Declarator 0 (Trees.DeclaredName (name (codes "v") (at_place 1 37))) Trees.NoSuffixes) ∷ [])) ∷ (members (words (at_place 1 40) (Trees.StructTag (name (codes "s") (at_place 1 47)))) ((Trees.Declarator 1 (Trees.DeclaredName (name (codes "next") (at_place 1 50))) Trees.NoSuffixes) ∷ [])) ∷ (members (words (at_place 1 56) (Trees.IntegerWords I.Int)) ((Trees.Declarator 0 (Trees.DeclaredName (name (codes "row") (at_place 1 60))) (Trees.ArraySuffix (Trees.ArrayLength (Trees.Integer 3 I.Int (at_place 1 64))) Trees.NoSuffixes)) ∷ [])) ∷ (members (words (at_place 1 68) (Trees.StructTag (name (codes "t") (at_place 1 75)))) ((Trees.Declarator 0 (Trees.DeclaredName (name (codes "in") (at_place 1 77))) Trees.NoSuffixes) ∷ [])) ∷ [])) ([])) ∷ (Trees.Declaration (Trees.Plain (words (at_place 1 84) (Trees.StructTag (name (codes "u") (at_place 1 91))))) ([])) ∷ (Trees.Declaration (Trees.Plain (words (at_place 1 94) (Trees.StructTag (name (codes "u") (at_place 1 101))))) ((init_declarator (Trees.Declarator 1 (Trees.DeclaredName (name (codes "opaque") (at_place 1 104))) Trees.NoSuffixes) None) ∷ [])) ∷ (Trees.Declaration (Trees.Plain (words (at_place 1 112) (Trees.IntegerWords I.Int))) ((init_declarator (Trees.Declarator 0 (Trees.DeclaredName (name (codes "g") (at_place 1 116))) Trees.NoSuffixes) (Some (Trees.InitValue (Trees.Integer 4 I.Int (at_place 1 120))))) ∷ [])) ∷ (Trees.Declaration (Trees.Plain (words (at_place 1 123) (Trees.IntegerWords I.Int))) ((init_declarator (Trees.Declarator 1 (Trees.DeclaredName (name (codes "pg") (at_place 1 128))) Trees.NoSuffixes) (Some (Trees.InitValue (Trees.Prefix P.Address (at_place 1 133) (Trees.Named (name (codes "g") (at_place 1 134))))))) ∷ [])) ∷ (Trees.Declaration (Trees.Plain (words (at_place 1 137) (Trees.IntegerWords I.Char))) ((init_declarator (Trees.Declarator 0 (Trees.DeclaredName (name (codes "text") (at_place 1 142))) (Trees.ArraySuffix Trees.NoLength Trees.NoSuffixes)) (Some (Trees.InitValue (Trees.Literal (97 ∷ 98 ∷ []) (at_place 1 151))))) ∷ [])) ∷ (Trees.Declaration (Trees.Plain (words (at_place 1 157) (Trees.IntegerWords I.Char))) ((init_declarator (Trees.Declarator 1 (Trees.DeclaredName (name (codes "lit") (at_place 1 163))) Trees.NoSuffixes) (Some (Trees.InitValue (Trees.Literal (97 ∷ 98 ∷ 99 ∷ []) (at_place 1 169))))) ∷ [])) ∷ (Trees.Declaration (Trees.Plain (words (at_place 1 176) (Trees.StructTag (name (codes "s") (at_place 1 183))))) ((init_declarator (Trees.Declarator 0 (Trees.DeclaredName (name (codes "one") (at_place 1 185))) Trees.NoSuffixes) (Some (Trees.InitList (at_place 1 191) (Trees.Inits (Trees.InitValue (Trees.Integer 1 I.Int (at_place 1 193))) (Trees.Inits (Trees.InitValue (Trees.Null (at_place 1 196))) (Trees.Inits (Trees.InitList (at_place 1 202) (Trees.Inits (Trees.InitValue (Trees.Integer 1 I.Int (at_place 1 204))) (Trees.Inits (Trees.InitValue (Trees.Integer 2 I.Int (at_place 1 207))) Trees.NoInits))) (Trees.Inits (Trees.InitList (at_place 1 212) (Trees.Inits (Trees.InitValue (Trees.Integer 7 I.Int (at_place 1 214))) Trees.NoInits)) Trees.NoInits))))))) ∷ [])) ∷ (Trees.Declaration (Trees.Plain (words (at_place 1 221) (Trees.IntegerWords I.Int))) ((init_declarator (Trees.Declarator 0 (Trees.Nested (Trees.Declarator 1 (Trees.DeclaredName (name (codes "fp") (at_place 1 227))) Trees.NoSuffixes)) (Trees.FunctionSuffix (Trees.Parameter (words (at_place 1 231) (Trees.IntegerWords I.Int)) Trees.NoDeclarator Trees.NoParameters) Trees.NoSuffixes)) None) ∷ [])) ∷ (Trees.Function (Trees.Plain (words (at_place 1 237) (Trees.IntegerWords I.Int))) (Trees.Declarator 0 (Trees.DeclaredName (name (codes "f") (at_place 1 241))) (Trees.FunctionSuffix (Trees.Parameter (words (at_place 1 243) (Trees.IntegerWords I.Int)) (Trees.Declared (Trees.Declarator 0 (Trees.DeclaredName (name (codes "a") (at_place 1 247))) Trees.NoSuffixes)) Trees.NoParameters) Trees.NoSuffixes)) (at_place 1 250) (Trees.Perform (Trees.Return (at_place 1 252) (Some (Trees.Binary B.Add (Trees.Named (name (codes "a") (at_place 1 259))) (Trees.Integer 1 I.Int (at_place 1 263))))) Trees.Close)) ∷ (Trees.Declaration (Trees.Plain (words (at_place 1 268) (Trees.IntegerWords I.Int))) ((init_declarator (Trees.Declarator 0 (Trees.Nested (Trees.Declarator 1 (Trees.DeclaredName (name (codes "table") (at_place 1 274))) (Trees.ArraySuffix (Trees.ArrayLength (Trees.Integer 2 I.Int (at_place 1 280))) Trees.NoSuffixes))) (Trees.FunctionSuffix (Trees.Parameter (words (at_place 1 284) (Trees.IntegerWords I.Int)) Trees.NoDeclarator Trees.NoParameters) Trees.NoSuffixes)) (Some (Trees.InitList (at_place 1 291) (Trees.Inits (Trees.InitValue (Trees.Named (name (codes "f") (at_place 1 293)))) (Trees.Inits (Trees.InitValue (Trees.Integer 0 I.Int (at_place 1 296))) Trees.NoInits))))) ∷ [])) ∷ (Trees.Function (Trees.Plain (words (at_place 1 301) Trees.VoidWord)) (Trees.Declarator 0 (Trees.DeclaredName (name (codes "nothing") (at_place 1 306))) (Trees.FunctionSuffix (Trees.Parameter (words (at_place 1 314) Trees.VoidWord) Trees.NoDeclarator Trees.NoParameters) Trees.NoSuffixes)) (at_place 1 320) (Trees.Perform (Trees.Return (at_place 1 322) None) Trees.Close)) ∷ (Trees.Function (Trees.Plain (words (at_place 1 332) Trees.VoidWord)) (Trees.Declarator 1 (Trees.DeclaredName (name (codes "raw") (at_place 1 338))) (Trees.FunctionSuffix (Trees.Parameter (words (at_place 1 342) Trees.VoidWord) Trees.NoDeclarator Trees.NoParameters) Trees.NoSuffixes)) (at_place 1 348) (Trees.Perform (Trees.Return (at_place 1 350) (Some (Trees.Call (Trees.Named (name (codes "malloc") (at_place 1 357))) (at_place 1 363) (Trees.Argument (Trees.Integer 8 I.Int (at_place 1 364)) Trees.NoArguments)))) Trees.Close)) ∷ (Trees.Function (Trees.Plain (words (at_place 1 370) (Trees.IntegerWords I.Int))) (Trees.Declarator 0 (Trees.DeclaredName (name (codes "main") (at_place 1 374))) (Trees.FunctionSuffix (Trees.Parameter (words (at_place 1 379) Trees.VoidWord) Trees.NoDeclarator Trees.NoParameters) Trees.NoSuffixes)) (at_place 1 384) (Trees.Declare (declaration (words (at_place 1 385) (Trees.StructTag (name (codes "s") (at_place 1 392)))) ((init_declarator (Trees.Declarator 1 (Trees.DeclaredName (name (codes "p") (at_place 1 395))) Trees.NoSuffixes) (Some (Trees.InitValue (Trees.Call (Trees.Named (name (codes "malloc") (at_place 1 399))) (at_place 1 405) (Trees.Argument (Trees.SizeofType (at_place 1 406) (Trees.TypeName (words (at_place 1 413) (Trees.StructTag (name (codes "s") (at_place 1 420)))) Trees.NoDeclarator)) Trees.NoArguments))))) ∷ [])) (Trees.Perform (Trees.Expression (Trees.Assign A.Assign (Trees.PointerMember (Trees.Named (name (codes "p") (at_place 1 425))) (name (codes "v") (at_place 1 428))) (Trees.Integer 1 I.Int (at_place 1 432)))) (Trees.Perform (Trees.Expression (Trees.Assign A.Assign (Trees.PointerMember (Trees.Named (name (codes "p") (at_place 1 435))) (name (codes "next") (at_place 1 438))) (Trees.Null (at_place 1 445)))) (Trees.Perform (Trees.Expression (Trees.Assign A.Assign (Trees.Index (Trees.Member (Trees.Parenthesized (at_place 1 451) (Trees.Prefix P.Dereference (at_place 1 452) (Trees.Named (name (codes "p") (at_place 1 453))))) (name (codes "row") (at_place 1 456))) (Trees.Integer 1 I.Int (at_place 1 460))) (Trees.Integer 2 I.Int (at_place 1 465)))) (Trees.Perform (Trees.Expression (Trees.Assign A.Assign (Trees.Index (Trees.Integer 1 I.Int (at_place 1 468)) (Trees.PointerMember (Trees.Named (name (codes "p") (at_place 1 470))) (name (codes "row") (at_place 1 473)))) (Trees.Member (Trees.PointerMember (Trees.Named (name (codes "p") (at_place 1 480))) (name (codes "in") (at_place 1 483))) (name (codes "q") (at_place 1 486))))) (Trees.Declare (declaration (words (at_place 1 489) (Trees.IntegerWords I.Int)) ((init_declarator (Trees.Declarator 1 (Trees.DeclaredName (name (codes "q") (at_place 1 494))) Trees.NoSuffixes) (Some (Trees.InitValue (Trees.Prefix P.Address (at_place 1 498) (Trees.Index (Trees.PointerMember (Trees.Named (name (codes "p") (at_place 1 499))) (name (codes "row") (at_place 1 502))) (Trees.Integer 0 I.Int (at_place 1 506))))))) ∷ [])) (Trees.Perform (Trees.Expression (Trees.PostIncrement (Trees.Named (name (codes "q") (at_place 1 510))))) (Trees.Perform (Trees.Expression (Trees.Assign A.Assign (Trees.Named (name (codes "q") (at_place 1 515))) (Trees.Binary B.Add (Trees.Named (name (codes "q") (at_place 1 519))) (Trees.Integer 1 I.Int (at_place 1 523))))) (Trees.Perform (Trees.Expression (Trees.Assign A.Assign (Trees.Named (name (codes "q") (at_place 1 526))) (Trees.Binary B.Add (Trees.Integer 1 I.Int (at_place 1 530)) (Trees.Named (name (codes "q") (at_place 1 534)))))) (Trees.Perform (Trees.Expression (Trees.Assign A.Assign (Trees.Named (name (codes "q") (at_place 1 537))) (Trees.Binary B.Subtract (Trees.Named (name (codes "q") (at_place 1 541))) (Trees.Integer 1 I.Int (at_place 1 545))))) (Trees.Perform (Trees.Expression (Trees.Assign A.Add (Trees.Named (name (codes "q") (at_place 1 548))) (Trees.Integer 1 I.Int (at_place 1 553)))) (Trees.Perform (Trees.Expression (Trees.Assign A.Subtract (Trees.Named (name (codes "q") (at_place 1 556))) (Trees.Integer 1 I.Int (at_place 1 561)))) (Trees.Declare (declaration (words (at_place 1 564) (Trees.IntegerWords I.Long)) ((init_declarator (Trees.Declarator 0 (Trees.DeclaredName (name (codes "n") (at_place 1 569))) Trees.NoSuffixes) (Some (Trees.InitValue (Trees.Binary B.Subtract (Trees.Named (name (codes "q") (at_place 1 573))) (Trees.PointerMember (Trees.Named (name (codes "p") (at_place 1 577))) (name (codes "row") (at_place 1 580))))))) ∷ [])) (Trees.Perform (Trees.If (at_place 1 585) (Trees.Binary B.Or (Trees.Binary B.Or (Trees.Binary B.Equal (Trees.Named (name (codes "q") (at_place 1 589))) (Trees.Null (at_place 1 594))) (Trees.Binary B.NotEqual (Trees.Named (name (codes "p") (at_place 1 602))) (Trees.Call (Trees.Named (name (codes "raw") (at_place 1 607))) (at_place 1 610) Trees.NoArguments))) (Trees.Binary B.Less (Trees.Named (name (codes "q") (at_place 1 616))) (Trees.PointerMember (Trees.Named (name (codes "p") (at_place 1 620))) (name (codes "row") (at_place 1 623))))) (Trees.Expression (Trees.Assign A.Assign (Trees.Named (name (codes "n") (at_place 1 628))) (Trees.Integer 0 I.Int (at_place 1 632))))) (Trees.Declare (declaration (words (at_place 1 635) Trees.VoidWord) ((init_declarator (Trees.Declarator 1 (Trees.DeclaredName (name (codes "v") (at_place 1 641))) Trees.NoSuffixes) (Some (Trees.InitValue (Trees.Named (name (codes "p") (at_place 1 645)))))) ∷ [])) (Trees.Perform (Trees.If (at_place 1 648) (Trees.Named (name (codes "v") (at_place 1 652))) (Trees.Expression (Trees.Call (Trees.Named (name (codes "free") (at_place 1 655))) (at_place 1 659) (Trees.Argument (Trees.Named (name (codes "v") (at_place 1 660))) Trees.NoArguments)))) (Trees.Perform (Trees.Expression (Trees.Call (Trees.Named (name (codes "free") (at_place 1 664))) (at_place 1 668) (Trees.Argument (Trees.Integer 0 I.Int (at_place 1 669)) Trees.NoArguments))) (Trees.Perform (Trees.Expression (Trees.Assign A.Assign (Trees.Named (name (codes "p") (at_place 1 673))) (Trees.Conditional (Trees.Named (name (codes "v") (at_place 1 677))) (Trees.Named (name (codes "p") (at_place 1 681))) (Trees.Named (name (codes "v") (at_place 1 685)))))) (Trees.Perform (Trees.Expression (Trees.Assign A.Assign (Trees.Named (name (codes "p") (at_place 1 688))) (Trees.Cast (at_place 1 692) (Trees.TypeName (words (at_place 1 693) (Trees.StructTag (name (codes "s") (at_place 1 700)))) (Trees.Declared (Trees.Declarator 1 Trees.NoName Trees.NoSuffixes))) (Trees.Named (name (codes "v") (at_place 1 704)))))) (Trees.Perform (Trees.Expression (Trees.Assign A.Assign (Trees.Named (name (codes "q") (at_place 1 707))) (Trees.Prefix P.Address (at_place 1 711) (Trees.Prefix P.Dereference (at_place 1 712) (Trees.Named (name (codes "q") (at_place 1 713))))))) (Trees.Declare (declaration (words (at_place 1 716) (Trees.IntegerWords I.Int)) ((init_declarator (Trees.Declarator 1 (Trees.DeclaredName (name (codes "z") (at_place 1 721))) Trees.NoSuffixes) (Some (Trees.InitValue (Trees.Prefix P.Address (at_place 1 725) (Trees.Parenthesized (at_place 1 726) (Trees.Named (name (codes "g") (at_place 1 727)))))))) ∷ [])) (Trees.Perform (Trees.Expression (Trees.Assign A.Assign (Trees.Named (name (codes "fp") (at_place 1 731))) (Trees.Named (name (codes "f") (at_place 1 736))))) (Trees.Perform (Trees.Expression (Trees.Assign A.Assign (Trees.Named (name (codes "fp") (at_place 1 739))) (Trees.Prefix P.Address (at_place 1 744) (Trees.Named (name (codes "f") (at_place 1 745)))))) (Trees.Perform (Trees.Expression (Trees.Assign A.Assign (Trees.Named (name (codes "fp") (at_place 1 748))) (Trees.Prefix P.Dereference (at_place 1 753) (Trees.Named (name (codes "f") (at_place 1 754)))))) (Trees.Perform (Trees.Expression (Trees.Assign A.Assign (Trees.Named (name (codes "n") (at_place 1 757))) (Trees.Binary B.Add (Trees.Binary B.Add (Trees.Call (Trees.Named (name (codes "fp") (at_place 1 761))) (at_place 1 763) (Trees.Argument (Trees.Integer 2 I.Int (at_place 1 764)) Trees.NoArguments)) (Trees.Call (Trees.Parenthesized (at_place 1 769) (Trees.Prefix P.Dereference (at_place 1 770) (Trees.Named (name (codes "fp") (at_place 1 771))))) (at_place 1 774) (Trees.Argument (Trees.Integer 3 I.Int (at_place 1 775)) Trees.NoArguments))) (Trees.Call (Trees.Named (name (codes "f") (at_place 1 780))) (at_place 1 781) (Trees.Argument (Trees.Integer 4 I.Int (at_place 1 782)) Trees.NoArguments))))) (Trees.Perform (Trees.Expression (Trees.Call (Trees.Named (name (codes "nothing") (at_place 1 786))) (at_place 1 793) Trees.NoArguments)) (Trees.Declare (declaration (words (at_place 1 797) (Trees.IntegerWords I.Char)) ((init_declarator (Trees.Declarator 1 (Trees.DeclaredName (name (codes "t") (at_place 1 803))) Trees.NoSuffixes) (Some (Trees.InitValue (Trees.Literal (97 ∷ 98 ∷ 99 ∷ []) (at_place 1 807))))) ∷ [])) (Trees.Perform (Trees.Expression (Trees.Call (Trees.Named (name (codes "putchar") (at_place 1 814))) (at_place 1 821) (Trees.Argument (Trees.Index (Trees.Named (name (codes "t") (at_place 1 822))) (Trees.Integer 0 I.Int (at_place 1 824))) Trees.NoArguments))) (Trees.Perform (Trees.Expression (Trees.Call (Trees.Named (name (codes "putchar") (at_place 1 829))) (at_place 1 836) (Trees.Argument (Trees.Index (Trees.Literal (120 ∷ 121 ∷ 122 ∷ []) (at_place 1 837)) (Trees.Integer 1 I.Int (at_place 1 843))) Trees.NoArguments))) (Trees.Perform (Trees.Expression (Trees.Call (Trees.Named (name (codes "putchar") (at_place 1 848))) (at_place 1 855) (Trees.Argument (Trees.Prefix P.Dereference (at_place 1 856) (Trees.Named (name (codes "lit") (at_place 1 857)))) Trees.NoArguments))) (Trees.Declare (declaration (words (at_place 1 863) (Trees.StructTag (name (codes "s") (at_place 1 870)))) ((init_declarator (Trees.Declarator 0 (Trees.DeclaredName (name (codes "loc") (at_place 1 872))) Trees.NoSuffixes) None) ∷ [])) (Trees.Perform (Trees.Expression (Trees.Assign A.Assign (Trees.Member (Trees.Named (name (codes "loc") (at_place 1 877))) (name (codes "v") (at_place 1 881))) (Trees.Integer 3 I.Int (at_place 1 885)))) (Trees.Declare (declaration (words (at_place 1 888) (Trees.IntegerWords I.Int)) ((init_declarator (Trees.Declarator 0 (Trees.DeclaredName (name (codes "grid") (at_place 1 892))) (Trees.ArraySuffix (Trees.ArrayLength (Trees.Integer 2 I.Int (at_place 1 897))) (Trees.ArraySuffix (Trees.ArrayLength (Trees.Integer 3 I.Int (at_place 1 900))) Trees.NoSuffixes))) None) ∷ [])) (Trees.Perform (Trees.Expression (Trees.Assign A.Assign (Trees.Index (Trees.Index (Trees.Named (name (codes "grid") (at_place 1 904))) (Trees.Integer 1 I.Int (at_place 1 909))) (Trees.Integer 2 I.Int (at_place 1 912))) (Trees.Integer 4 I.Int (at_place 1 917)))) (Trees.Perform (Trees.Expression (Trees.Assign A.Assign (Trees.Named (name (codes "q") (at_place 1 920))) (Trees.Index (Trees.Named (name (codes "grid") (at_place 1 924))) (Trees.Integer 0 I.Int (at_place 1 929))))) (Trees.Perform (Trees.Expression (Trees.Assign A.Assign (Trees.Named (name (codes "opaque") (at_place 1 933))) (Trees.Named (name (codes "v") (at_place 1 942))))) (Trees.Perform (Trees.Expression (Trees.Assign A.Assign (Trees.Named (name (codes "v") (at_place 1 945))) (Trees.Named (name (codes "opaque") (at_place 1 949))))) (Trees.Perform (Trees.Expression (Trees.Assign A.Assign (Trees.Named (name (codes "n") (at_place 1 957))) (Trees.Call (Trees.Index (Trees.Named (name (codes "table") (at_place 1 961))) (Trees.Integer 0 I.Int (at_place 1 967))) (at_place 1 969) (Trees.Argument (Trees.Integer 1 I.Int (at_place 1 970)) Trees.NoArguments)))) (Trees.Perform (Trees.Expression (Trees.Cast (at_place 1 974) (Trees.TypeName (words (at_place 1 975) Trees.VoidWord) Trees.NoDeclarator) (Trees.Integer 0 I.Int (at_place 1 980)))) (Trees.Perform (Trees.Expression (Trees.Parenthesized (at_place 1 983) (Trees.Named (name (codes "v") (at_place 1 984))))) (Trees.Perform (Trees.Return (at_place 1 988) (Some (Trees.Prefix P.Not (at_place 1 995) (Trees.Named (name (codes "p") (at_place 1 996)))))) Trees.Close)))))))))))))))))))))))))))))))))))))))))) ∷ []) (at_place 1 999))

program_3-accepted : refusal program_3 ≡ None
unfolding convert_to outcome_of negated_of complement_of
program_3-accepted = refl

program_3-typed : is_well_typed (typed_of program_3) ≡ true
unfolding convert_to outcome_of negated_of complement_of
program_3-typed = refl

-- int f(int *p, void *q, int (*g)(void)); int h(void) { return 1; } int f(int *p, void *q, int (*g)(void)) { return p == q && g == h && g() == 1; } int main(void) { int x[4]; return f(x, x + 1, h) + f(NULL, 0, 0) + (NULL == 0) + (0 == (void *)0); }
abbrev program_4 : Trees.ProgramTree
program_4 = (program ((Trees.Declaration (Trees.Plain (words (at_place 1 1) (Trees.IntegerWords I.Int))) ((init_declarator (Trees.Declarator 0 (Trees.DeclaredName (name (codes "f") (at_place 1 5))) (Trees.FunctionSuffix (Trees.Parameter (words (at_place 1 7) (Trees.IntegerWords I.Int)) (Trees.Declared (Trees.Declarator 1 (Trees.DeclaredName (name (codes "p") (at_place 1 12))) Trees.NoSuffixes)) (Trees.Parameter (words (at_place 1 15) Trees.VoidWord) (Trees.Declared (Trees.Declarator 1 (Trees.DeclaredName (name (codes "q") (at_place 1 21))) Trees.NoSuffixes)) (Trees.Parameter (words (at_place 1 24) (Trees.IntegerWords I.Int)) (Trees.Declared (Trees.Declarator 0 (Trees.Nested (Trees.Declarator 1 (Trees.DeclaredName (name (codes "g") (at_place 1 30))) Trees.NoSuffixes)) (Trees.FunctionSuffix (Trees.Parameter (words (at_place 1 33) Trees.VoidWord) Trees.NoDeclarator Trees.NoParameters) Trees.NoSuffixes))) Trees.NoParameters))) Trees.NoSuffixes)) None) ∷ [])) ∷ (Trees.Function (Trees.Plain (words (at_place 1 41) (Trees.IntegerWords I.Int))) (Trees.Declarator 0 (Trees.DeclaredName (name (codes "h") (at_place 1 45))) (Trees.FunctionSuffix (Trees.Parameter (words (at_place 1 47) Trees.VoidWord) Trees.NoDeclarator Trees.NoParameters) Trees.NoSuffixes)) (at_place 1 53) (Trees.Perform (Trees.Return (at_place 1 55) (Some (Trees.Integer 1 I.Int (at_place 1 62)))) Trees.Close)) ∷ (Trees.Function (Trees.Plain (words (at_place 1 67) (Trees.IntegerWords I.Int))) (Trees.Declarator 0 (Trees.DeclaredName (name (codes "f") (at_place 1 71))) (Trees.FunctionSuffix (Trees.Parameter (words (at_place 1 73) (Trees.IntegerWords I.Int)) (Trees.Declared (Trees.Declarator 1 (Trees.DeclaredName (name (codes "p") (at_place 1 78))) Trees.NoSuffixes)) (Trees.Parameter (words (at_place 1 81) Trees.VoidWord) (Trees.Declared (Trees.Declarator 1 (Trees.DeclaredName (name (codes "q") (at_place 1 87))) Trees.NoSuffixes)) (Trees.Parameter (words (at_place 1 90) (Trees.IntegerWords I.Int)) (Trees.Declared (Trees.Declarator 0 (Trees.Nested (Trees.Declarator 1 (Trees.DeclaredName (name (codes "g") (at_place 1 96))) Trees.NoSuffixes)) (Trees.FunctionSuffix (Trees.Parameter (words (at_place 1 99) Trees.VoidWord) Trees.NoDeclarator Trees.NoParameters) Trees.NoSuffixes))) Trees.NoParameters))) Trees.NoSuffixes)) (at_place 1 106) (Trees.Perform (Trees.Return (at_place 1 108) (Some (Trees.Binary B.And (Trees.Binary B.And (Trees.Binary B.Equal (Trees.Named (name (codes "p") (at_place 1 115))) (Trees.Named (name (codes "q") (at_place 1 120)))) (Trees.Binary B.Equal (Trees.Named (name (codes "g") (at_place 1 125))) (Trees.Named (name (codes "h") (at_place 1 130))))) (Trees.Binary B.Equal (Trees.Call (Trees.Named (name (codes "g") (at_place 1 135))) (at_place 1 136) Trees.NoArguments) (Trees.Integer 1 I.Int (at_place 1 142)))))) Trees.Close)) ∷ (Trees.Function (Trees.Plain (words (at_place 1 147) (Trees.IntegerWords I.Int))) (Trees.Declarator 0 (Trees.DeclaredName (name (codes "main") (at_place 1 151))) (Trees.FunctionSuffix (Trees.Parameter (words (at_place 1 156) Trees.VoidWord) Trees.NoDeclarator Trees.NoParameters) Trees.NoSuffixes)) (at_place 1 162) (Trees.Declare (declaration (words (at_place 1 164) (Trees.IntegerWords I.Int)) ((init_declarator (Trees.Declarator 0 (Trees.DeclaredName (name (codes "x") (at_place 1 168))) (Trees.ArraySuffix (Trees.ArrayLength (Trees.Integer 4 I.Int (at_place 1 170))) Trees.NoSuffixes)) None) ∷ [])) (Trees.Perform (Trees.Return (at_place 1 174) (Some (Trees.Binary B.Add (Trees.Binary B.Add (Trees.Binary B.Add (Trees.Call (Trees.Named (name (codes "f") (at_place 1 181))) (at_place 1 182) (Trees.Argument (Trees.Named (name (codes "x") (at_place 1 183))) (Trees.Argument (Trees.Binary B.Add (Trees.Named (name (codes "x") (at_place 1 186))) (Trees.Integer 1 I.Int (at_place 1 190))) (Trees.Argument (Trees.Named (name (codes "h") (at_place 1 193))) Trees.NoArguments)))) (Trees.Call (Trees.Named (name (codes "f") (at_place 1 198))) (at_place 1 199) (Trees.Argument (Trees.Null (at_place 1 200)) (Trees.Argument (Trees.Integer 0 I.Int (at_place 1 206)) (Trees.Argument (Trees.Integer 0 I.Int (at_place 1 209)) Trees.NoArguments))))) (Trees.Parenthesized (at_place 1 214) (Trees.Binary B.Equal (Trees.Null (at_place 1 215)) (Trees.Integer 0 I.Int (at_place 1 223))))) (Trees.Parenthesized (at_place 1 228) (Trees.Binary B.Equal (Trees.Integer 0 I.Int (at_place 1 229)) (Trees.Cast (at_place 1 234) (Trees.TypeName (words (at_place 1 235) Trees.VoidWord) (Trees.Declared (Trees.Declarator 1 Trees.NoName Trees.NoSuffixes))) (Trees.Integer 0 I.Int (at_place 1 242)))))))) Trees.Close))) ∷ []) (at_place 1 247))

program_4-accepted : refusal program_4 ≡ None
unfolding convert_to outcome_of negated_of complement_of
program_4-accepted = refl

program_4-typed : is_well_typed (typed_of program_4) ≡ true
unfolding convert_to outcome_of negated_of complement_of
program_4-typed = refl
