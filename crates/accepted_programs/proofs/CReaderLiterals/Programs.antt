-- The literals of a program that is read from a text are found at their places.
use Rattle.std.proofs.Common.{◌≡◌, ℕ, List, [], ◌∷◌, ◌++◌, refl, sym, subst, append_assoc}
use Rattle.run_theory.specs.declared.place.Pos.{Pos}
use Rattle.run_theory.specs.Places.{first_place}
use Rattle.c_grammar.specs.Table.{Alone, Nothing, Then, Node, leaves}
use Rattle.c_grammar.specs.Forms
use Rattle.c_grammar.specs.Leaves.{Leaf}
use Rattle.c_lexer.specs.Tokens.{Divides}
use Rattle.c_syntax.specs.Trees
use Rattle.c_syntax.specs.Trees.{BaseTree, ItemTree}
use Rattle.c_typed.specs.Typed.{LiteralDef}
use Rattle.c_rules.specs.Elaborated.{literals_in_declarator, literals_in_first, literals_in_declarators, literals_in_block, literals_in_each, literals_in_members, literals_in_base, literals_in_items}
use Rattle.c_rules.specs.Fitting.{AreListed}
use Rattle.c_reader.specs.Grammar.{Parse}
use Rattle.c_reader.specs.Shapes.{declarator_of, first_value_of, declarators_of, block_of, member_declarators_of, member_of, more_members_of, struct_of, base_from, declared_of, tail_of, item_of, items_of, program_of, body_of}
use Rattle.c_reader.specs.ProgramReadings.{IsProgram}
use Rattle.accepted_programs.specs.Literals.{LiteralsStand, no_literal, in_row, in_first, in_others, in_both, regrouped}
use Rattle.accepted_programs.proofs.Rising.{leaves_rise}
use Rattle.accepted_programs.proofs.Listed.{rising_listed}
use Rattle.accepted_programs.proofs.Carried.{held_rise}
use Rattle.accepted_programs.proofs.CReaderLiterals.Expressions.{declarator_held}
use Rattle.accepted_programs.proofs.CReaderLiterals.Statements.{first_value_held, declarators_held, block_held}

member_declarators_held : (parse : Parse) → LiteralsStand (literals_in_each (member_declarators_of parse)) parse
member_declarators_held (Node Forms.MemberNext (Then comma (Then declarator (Then others Nothing)))) = in_row (in_others (in_both (declarator_held declarator) (in_first (member_declarators_held others))))
member_declarators_held _ = no_literal

member_held : (parse : Parse) → LiteralsStand (literals_in_each (member_of parse).declarators) parse
member_held (Node Forms.MemberRow (Then base (Then declarator (Then others Nothing)))) = in_row (in_others (in_both (declarator_held declarator) (in_first (member_declarators_held others))))
member_held _ = no_literal

more_members_held : (parse : Parse) → LiteralsStand (literals_in_members (more_members_of parse)) parse
more_members_held (Node Forms.MembersNext (Then member (Then others Nothing))) = in_row (in_both (member_held member) (in_first (more_members_held others)))
more_members_held _ = no_literal

struct_held : (place : Pos) (name : Leaf) (parse : Parse) → LiteralsStand (literals_in_base (struct_of place name parse)) parse
struct_held place name (Node Forms.Members (Then opening (Then member (Then others Nothing)))) = in_row (in_others (in_both (member_held member) (in_first (more_members_held others))))
struct_held place name _ = no_literal

base_held : (place : Pos) (parse : Parse) → LiteralsStand (literals_in_base (base_from place parse)) parse
base_held place (Node (Forms.BaseWord own words kind next) (Then word (Then others Nothing))) = in_row (in_others (in_first (base_held place others)))
base_held place (Node (Forms.BaseStruct own) (Then word (Then (Alone name) (Then members others)))) = in_row (in_others (in_others (in_first (struct_held place name members))))
base_held place _ = no_literal

abbrev literals_in_item : ItemTree → List LiteralDef
literals_in_item (Trees.Declaration base declarators) = literals_in_base base ++ literals_in_declarators declarators
literals_in_item (Trees.Function base declarator place body) = literals_in_base base ++ literals_in_declarator declarator ++ literals_in_block body

first_item : (item : ItemTree) (items : List ItemTree) → literals_in_items (item ∷ items) ≡ literals_in_item item ++ literals_in_items items
first_item (Trees.Declaration base declarators) items = refl
first_item (Trees.Function base declarator place body) items = refl

-- Behind the literals of the base, those of the item stand in this tree.
record HoldsBehind (base : BaseTree) (item : ItemTree) (parse : Parse) : Type 0 where
  more : List LiteralDef
  holds : LiteralsStand more parse
  together : literals_in_base base ++ more ≡ literals_in_item item

-- The same of a body behind a declarator.
record BodyHolds (base : BaseTree) (declarator body : Parse) : Type 0 where
  more : List LiteralDef
  holds : LiteralsStand more (Node Forms.DeclaredRow (Then declarator (Then (Node Forms.FunctionBody (Then body Nothing)) Nothing)))
  together : literals_in_base base ++ more ≡ literals_in_item (body_of base (declarator_of declarator) body)

body_held : (base : BaseTree) (declarator body : Parse) → BodyHolds base declarator body
body_held base declarator (Node Forms.BodyRow (Then (Alone opening) (Then items Nothing))) = record {
  more = literals_in_declarator (declarator_of declarator) ++ literals_in_block (block_of items);
  holds = in_row (in_both (declarator_held declarator) (in_first (in_row (in_first (in_row (in_others (in_first (block_held items))))))));
  together = sym (append_assoc (literals_in_base base) (literals_in_declarator (declarator_of declarator)) (literals_in_block (block_of items)));
}
body_held base declarator _ = record { more = []; holds = no_literal; together = refl }

declared_held : (base : BaseTree) (parse : Parse) → HoldsBehind base (declared_of base parse) parse
declared_held base (Node Forms.DeclaredRow (Then declarator (Then (Node Forms.FunctionBody (Then body Nothing)) Nothing))) =
    let held = body_held base declarator body in
    record { more = held.more; holds = held.holds; together = held.together }
declared_held base (Node Forms.DeclaredRow (Then declarator (Then (Node Forms.DeclaredValues (Then value (Then others Nothing))) Nothing))) = record {
  more = literals_in_declarator (declarator_of declarator) ++ literals_in_first (first_value_of value) ++ literals_in_declarators (declarators_of others);
  holds = in_row (regrouped (literals_in_declarator (declarator_of declarator)) (literals_in_first (first_value_of value)) (literals_in_declarators (declarators_of others))
      (in_both (declarator_held declarator) (in_first (in_row (in_both (first_value_held value) (in_first (declarators_held others)))))));
  together = refl;
}
declared_held base _ = record { more = []; holds = no_literal; together = refl }

tail_held : (base : BaseTree) (parse : Parse) → HoldsBehind base (tail_of base parse) parse
tail_held base (Node Forms.TailTyped (Then consts (Then declared Nothing))) =
    let held = declared_held base declared in
    record { more = held.more; holds = in_row (in_others (in_first held.holds)); together = held.together }
tail_held base _ = record { more = []; holds = no_literal; together = refl }

item_held : (parse : Parse) → LiteralsStand (literals_in_item (item_of parse)) parse
item_held (Node (Forms.Storage kind) (Then word (Then item Nothing))) = in_row (in_others (in_first (item_held item)))
item_held (Node Forms.ItemStruct (Then (Alone word) (Then (Alone name) (Then members (Then others Nothing))))) =
    let held = tail_held (struct_of word.place name members) others in
    subst (λ literals. LiteralsStand literals (Node Forms.ItemStruct (Then (Alone word) (Then (Alone name) (Then members (Then others Nothing)))))) held.together
    (in_row (in_others (in_others (in_both (struct_held word.place name members) (in_first held.holds)))))
item_held (Node (Forms.ItemTyped kind next) (Then (Alone word) (Then base (Then declared Nothing)))) =
    let held = declared_held (base_from word.place base) declared in
    subst (λ literals. LiteralsStand literals (Node (Forms.ItemTyped kind next) (Then (Alone word) (Then base (Then declared Nothing))))) held.together
    (in_row (in_others (in_both (base_held word.place base) (in_first held.holds))))
item_held _ = no_literal

items_held : (parse : Parse) → LiteralsStand (literals_in_items (items_of parse)) parse
items_held (Node Forms.OneItem (Then item (Then others Nothing))) =
    subst (λ literals. LiteralsStand literals (Node Forms.OneItem (Then item (Then others Nothing)))) (sym (first_item (item_of item) (items_of others)))
    (in_row (in_both (item_held item) (in_first (items_held others))))
items_held _ = no_literal

program_held : (parse : Parse) → LiteralsStand (literals_in_items (program_of parse).items) parse
program_held (Node Forms.WholeProgram (Then items (Then (Alone end) Nothing))) = in_row (in_first (items_held items))
program_held _ = no_literal

-- where the leaves of a tree are those of a text
pub parse_literals_apart : (text : List ℕ) (parse : Parse) → Divides first_place text (leaves parse) → AreListed (literals_in_items (program_of parse).items) (literals_in_items (program_of parse).items)
parse_literals_apart text parse divides =
    rising_listed first_place (literals_in_items (program_of parse).items) (held_rise (literals_in_items (program_of parse).items) parse (program_held parse) first_place (leaves_rise text (leaves parse) divides))

-- The literals of a program that a text spells are found at their places.
pub literals_apart : (text : List ℕ) (leaves : List Leaf) (program : Trees.ProgramTree) → Divides first_place text leaves → IsProgram leaves program
    → AreListed (literals_in_items program.items) (literals_in_items program.items)
literals_apart text leaves program divides is = subst (λ (p : Trees.ProgramTree). AreListed (literals_in_items p.items) (literals_in_items p.items)) is.shape
    (parse_literals_apart text is.accepted.tree (subst (Divides first_place text) (sym is.accepted.same_leaves) divides))
