-- A program that a text spells declares members in its structures, and has a value in its lists of first values: its grammar has no rows
-- without them.
use Rattle.std.proofs.Common.{◌≡◌, Bool, true, false, ◌&&◌, ◌||◌, List, ◌∷◌, Some, is_some, ◌⊎◌, inl, inr, refl, sym, ap, subst}
use Rattle.std.proofs.lemmas.Bool.{false≢true, and_from}
use Rattle.run_theory.specs.declared.place.Pos.{Pos}
use Rattle.c_grammar.specs.Table.{Alone, Nothing, Then, Node}
use Rattle.c_grammar.specs.declared.words.Words.TheVariants.{FullType}
use Rattle.c_grammar.specs.Forms
use Rattle.c_grammar.specs.Forms.{Sort, Production}
use Rattle.c_grammar.specs.Leaves.{Leaf}
use Rattle.c_syntax.specs.Trees
use Rattle.c_syntax.specs.Trees.{BaseTree, DeclaratorTree, ItemTree, ProgramTree}
use Rattle.c_rules.specs.Expressions.{declared_name, direct_name}
use Rattle.c_reader.specs.Grammar.{Parse}
use Rattle.c_reader.specs.Shapes.{declarator_of, direct_of, init_of, first_value_of, declarators_of, member_declarators_of, member_of, more_members_of, struct_of, base_from, body_of, declared_of, tail_of, item_of, items_of, program_of}
use Rattle.c_reader.specs.ProgramReadings.{IsProgram}
use Rattle.accepted_programs.specs.Rows.{IsOf, Filled, row_of}
use Rattle.accepted_programs.proofs.Filling.{is_of}
use Rattle.accepted_programs.specs.Given.{some_named, declares_member, base_given, first_given, firsts_given, items_given, IsGiven}

-- ---- the rows of a sort

abbrev is_declarator : Sort → Bool
is_declarator Forms.Declarator = true
is_declarator _ = false

abbrev is_direct : Sort → Bool
is_direct Forms.Direct = true
is_direct _ = false

abbrev is_member : Sort → Bool
is_member Forms.MemberSort = true
is_member _ = false

declarator_form : (form : Production) → Forms.sort_of form ≡ Forms.Declarator → form ≡ Forms.DeclaratorRow
declarator_form Forms.DeclaratorRow e = refl
declarator_form _ e = absurd (false≢true (ap is_declarator e))

direct_form : (form : Production) → Forms.sort_of form ≡ Forms.Direct → (form ≡ Forms.DirectName) ⊎ (form ≡ Forms.DirectNested)
direct_form Forms.DirectName e = inl refl
direct_form Forms.DirectNested e = inr refl
direct_form _ e = absurd (false≢true (ap is_direct e))

member_form : (form : Production) → Forms.sort_of form ≡ Forms.MemberSort → form ≡ Forms.MemberRow
member_form Forms.MemberRow e = refl
member_form _ e = absurd (false≢true (ap is_member e))

-- ---- declarators have names

abbrev IsNamed : Parse → Type 0
IsNamed parse = is_some (declared_name (declarator_of parse)) ≡ true

abbrev IsDirect : Parse → Type 0
IsDirect parse = is_some (direct_name (direct_of parse)) ≡ true

either_named : (form : Production) (parts : Parse) → (form ≡ Forms.DirectName) ⊎ (form ≡ Forms.DirectNested) → (Filled (row_of Forms.DirectName) parts → IsDirect (Node Forms.DirectName parts))
    → (Filled (row_of Forms.DirectNested) parts → IsDirect (Node Forms.DirectNested parts)) → Filled (row_of form) parts → IsDirect (Node form parts)
either_named form parts (inl e) one other is = subst (λ (f : Production). Filled (row_of f) parts → IsDirect (Node f parts)) (sym e) one is
either_named form parts (inr e) one other is = subst (λ (f : Production). Filled (row_of f) parts → IsDirect (Node f parts)) (sym e) other is

name_named : (parts : Parse) → Filled (row_of Forms.DirectName) parts → IsDirect (Node Forms.DirectName parts)
name_named (Then (Alone name) others) is = refl
name_named (Then Nothing others) is = absurd is.0
name_named (Then (Then a b) others) is = absurd is.0
name_named (Then (Node a b) others) is = absurd is.0
name_named (Alone a) is = absurd is
name_named Nothing is = absurd is
name_named (Node a b) is = absurd is

mutual
  declarator_named : (parse : Parse) → IsOf Forms.Declarator parse → IsNamed parse
  declarator_named (Alone leaf) is = absurd is
  declarator_named Nothing is = absurd is
  declarator_named (Then a b) is = absurd is
  declarator_named (Node form parts) is = subst (λ (f : Production). Filled (row_of f) parts → IsNamed (Node f parts)) (sym (declarator_form form is.0)) (row_named parts) is.1

  row_named : (parts : Parse) → Filled (row_of Forms.DeclaratorRow) parts → IsNamed (Node Forms.DeclaratorRow parts)
  row_named (Then stars (Then direct Nothing)) is = direct_named direct is.1.0
  row_named (Then stars (Then direct (Alone a))) is = absurd is.1.1
  row_named (Then stars (Then direct (Then a b))) is = absurd is.1.1
  row_named (Then stars (Then direct (Node a b))) is = absurd is.1.1
  row_named (Then stars (Alone a)) is = absurd is.1
  row_named (Then stars Nothing) is = absurd is.1
  row_named (Then stars (Node a b)) is = absurd is.1
  row_named (Alone a) is = absurd is
  row_named Nothing is = absurd is
  row_named (Node a b) is = absurd is

  direct_named : (parse : Parse) → IsOf Forms.Direct parse → IsDirect parse
  direct_named (Alone leaf) is = absurd is
  direct_named Nothing is = absurd is
  direct_named (Then a b) is = absurd is
  direct_named (Node form parts) is = either_named form parts (direct_form form is.0) (name_named parts) (nested_named parts) is.1

  nested_named : (parts : Parse) → Filled (row_of Forms.DirectNested) parts → IsDirect (Node Forms.DirectNested parts)
  nested_named (Then opening (Then declarator others)) is = declarator_named declarator is.1.0
  nested_named (Then opening (Alone a)) is = absurd is.1
  nested_named (Then opening Nothing) is = absurd is.1
  nested_named (Then opening (Node a b)) is = absurd is.1
  nested_named (Alone a) is = absurd is
  nested_named Nothing is = absurd is
  nested_named (Node a b) is = absurd is

-- ---- members

or_left : (a b : Bool) → a ≡ true → (a || b) ≡ true
or_left true b e = refl
or_left false b e = absurd (false≢true e)

abbrev HasName : Parse → Type 0
HasName parse = some_named (member_of parse).declarators ≡ true

declares_one : (parts : Parse) → Filled (row_of Forms.MemberRow) parts → HasName (Node Forms.MemberRow parts)
declares_one (Then base (Then declarator (Then others Nothing))) is =
    or_left (is_some (declared_name (declarator_of declarator))) (some_named (member_declarators_of others)) (declarator_named declarator is.1.0)
declares_one (Then base (Then declarator (Then others (Alone a)))) is = absurd is.1.1.1
declares_one (Then base (Then declarator (Then others (Then a b)))) is = absurd is.1.1.1
declares_one (Then base (Then declarator (Then others (Node a b)))) is = absurd is.1.1.1
declares_one (Then base (Then declarator (Alone a))) is = absurd is.1.1
declares_one (Then base (Then declarator Nothing)) is = absurd is.1.1
declares_one (Then base (Then declarator (Node a b))) is = absurd is.1.1
declares_one (Then base (Alone a)) is = absurd is.1
declares_one (Then base Nothing) is = absurd is.1
declares_one (Then base (Node a b)) is = absurd is.1
declares_one (Alone a) is = absurd is
declares_one Nothing is = absurd is
declares_one (Node a b) is = absurd is

member_named : (parse : Parse) → IsOf Forms.MemberSort parse → HasName parse
member_named (Alone leaf) is = absurd is
member_named Nothing is = absurd is
member_named (Then a b) is = absurd is
member_named (Node form parts) is = subst (λ (f : Production). Filled (row_of f) parts → HasName (Node f parts)) (sym (member_form form is.0)) (declares_one parts) is.1

struct_given : (place : Pos) (name : Leaf) (sort : Sort) (parse : Parse) → IsOf sort parse → base_given (struct_of place name parse) ≡ true
struct_given place name sort (Node Forms.Members (Then opening (Then member (Then others Nothing)))) is =
    or_left (some_named (member_of member).declarators) (declares_member (more_members_of others)) (member_named member is.1.1.0)
struct_given place name sort _ is = refl

from_given : (place : Pos) (sort : Sort) (parse : Parse) → IsOf sort parse → base_given (base_from place parse) ≡ true
from_given place sort (Node (Forms.BaseWord own words kind next) (Then word (Then others Nothing))) is = from_given place (Forms.Base own next) others is.1.1.0
from_given place sort (Node (Forms.BaseStruct true) (Then word (Then (Alone name) (Then members others)))) is = struct_given place name Forms.MembersOpt members is.1.1.1.0
from_given place sort (Node (Forms.BaseStruct false) (Then word (Then (Alone name) (Then members others)))) is = struct_given place name (Forms.Base false FullType) members is.1.1.1.0
from_given place sort _ is = refl

-- ---- first values

init_given : (parse : Parse) → first_given (Some (init_of parse)) ≡ true
init_given (Node Forms.InitValue (Then value Nothing)) = refl
init_given (Node Forms.InitList (Then (Alone opening) (Then init (Then others Nothing)))) = refl
init_given _ = refl

value_given : (parse : Parse) → first_given (first_value_of parse) ≡ true
value_given (Node Forms.Value (Then equal (Then init Nothing))) = init_given init
value_given _ = refl

declarators_given : (parse : Parse) → firsts_given (declarators_of parse) ≡ true
declarators_given (Node Forms.DeclarationNext (Then comma (Then declarator (Then value (Then others Nothing))))) =
    and_from (first_given (first_value_of value)) (firsts_given (declarators_of others)) (value_given value) (declarators_given others)
declarators_given _ = refl

-- ---- items

abbrev item_given : ItemTree → Bool
item_given (Trees.Declaration base declarators) = base_given base && firsts_given declarators
item_given (Trees.Function base declarator place body) = base_given base

first_item : (item : ItemTree) (items : List ItemTree) → item_given item ≡ true → items_given items ≡ true → items_given (item ∷ items) ≡ true
first_item (Trees.Declaration base declarators) items one others = and_from (base_given base && firsts_given declarators) (items_given items) one others
first_item (Trees.Function base declarator place body) items one others = and_from (base_given base) (items_given items) one others

alone_given : (base : BaseTree) → base_given base ≡ true → (base_given base && true) ≡ true
alone_given base given = and_from (base_given base) true given refl

body_given : (base : BaseTree) → base_given base ≡ true → (declarator : DeclaratorTree) (parse : Parse) → item_given (body_of base declarator parse) ≡ true
body_given base given declarator (Node Forms.BodyRow (Then (Alone opening) (Then items Nothing))) = given
body_given base given declarator _ = alone_given base given

declared_given : (base : BaseTree) → base_given base ≡ true → (parse : Parse) → item_given (declared_of base parse) ≡ true
declared_given base given (Node Forms.DeclaredRow (Then declarator (Then (Node Forms.FunctionBody (Then body Nothing)) Nothing))) = body_given base given (declarator_of declarator) body
declared_given base given (Node Forms.DeclaredRow (Then declarator (Then (Node Forms.DeclaredValues (Then value (Then others Nothing))) Nothing))) =
    and_from (base_given base) (first_given (first_value_of value) && firsts_given (declarators_of others)) given
    (and_from (first_given (first_value_of value)) (firsts_given (declarators_of others)) (value_given value) (declarators_given others))
declared_given base given _ = alone_given base given

tail_given : (base : BaseTree) → base_given base ≡ true → (parse : Parse) → item_given (tail_of base parse) ≡ true
tail_given base given (Node Forms.TailTyped (Then consts (Then declared Nothing))) = declared_given base given declared
tail_given base given _ = alone_given base given

one_given : (sort : Sort) (parse : Parse) → IsOf sort parse → item_given (item_of parse) ≡ true
one_given sort (Node (Forms.Storage kind) (Then word (Then item Nothing))) is = one_given Forms.Item item is.1.1.0
one_given sort (Node Forms.ItemStruct (Then (Alone word) (Then (Alone name) (Then members (Then others Nothing))))) is =
    tail_given (struct_of word.place name members) (struct_given word.place name Forms.MembersOpt members is.1.1.1.0) others
one_given sort (Node (Forms.ItemTyped kind next) (Then (Alone word) (Then base (Then declared Nothing)))) is =
    declared_given (base_from word.place base) (from_given word.place (Forms.Base true next) base is.1.1.0) declared
one_given sort _ is = refl

all_given : (sort : Sort) (parse : Parse) → IsOf sort parse → items_given (items_of parse) ≡ true
all_given sort (Node Forms.OneItem (Then item (Then others Nothing))) is = first_item (item_of item) (items_of others) (one_given Forms.Item item is.1.0) (all_given Forms.Items others is.1.1.0)
all_given sort _ is = refl

program_given : (parse : Parse) → IsOf Forms.Program parse → items_given (program_of parse).items ≡ true
program_given (Node Forms.WholeProgram (Then items (Then (Alone end) Nothing))) is = all_given Forms.Items items is.1.0
program_given _ is = refl

pub spelled_given : (leaves : List Leaf) (program : ProgramTree) → IsProgram leaves program → IsGiven program
spelled_given leaves program is = subst (λ (p : ProgramTree). items_given p.items ≡ true) is.shape (program_given is.accepted.tree (is_of is.accepted.spelled))
