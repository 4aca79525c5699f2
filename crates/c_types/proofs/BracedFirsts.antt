-- Initializers in braces, by the type that they initialize.
use Rattle.std.proofs.Common.{◌≡◌, ℕ, ◌+◌, ◌-◌, false, if◌then◌else◌, List, [], ◌∷◌, ◌++◌, length, take, Option, Some, None, option_map, is_some, Vec, Global, Bor, refl, sym, ap, ◌∙◌, arith, length-append, take_at}
use Rattle.std.proofs.lemmas.Bool.{false≢true}
use Rattle.std.proofs.lemmas.Option.{none-some, same_Some}
use Rattle.run_theory.specs.declared.place.Pos.{Pos}
use Rattle.c_syntax.specs.declared.declaration.Init.{Init}
use Rattle.c_syntax.specs.declared.declaration.Init.TheVariants as I
use Rattle.c_syntax.specs.Trees as Trees
use Rattle.c_syntax.specs.Trees.{ExprTree, InitsTree}
use Rattle.c_syntax.specs.Views.{init_tree, inits_of}
use Rattle.c_syntax.proofs.SyntaxRows.{init_tree-list}
use Rattle.c_typed.specs.declared.c_type.CType as number
use Rattle.c_typed.specs.declared.c_type.StructId as tag
use Rattle.c_typed.specs.declared.part.Part.{Part}
use Rattle.c_typed.specs.declared.part.Part.TheVariants as Parts
use Rattle.c_typed.specs.Types as Types
use Rattle.c_typed.specs.Types.{CType}
use Rattle.c_typed.specs.Layouts.{MemberDef}
use Rattle.c_typed.specs.Values.{Held}
use Rattle.c_typed.specs.Table.{Interned, type_in, known_in, Grows, TagStands, tag_in, structs_in, members_of, IsMemberType}
use Rattle.c_typed.specs.DefinitionViews.{all_first}
use Rattle.c_typed.proofs.Grown.{tag_stays}
use Rattle.c_rules.specs.Names.{Scope}
use Rattle.c_types_state.specs.Finding.{each_in}
use Rattle.c_rules.specs.Initializers as rules
use Rattle.c_rules.specs.Elaborated as elaborated
use Rattle.c_types.specs.declared.initializers.Target.{Target}
use Rattle.c_rules.specs.NamedItems.{named_in_init, named_in_inits}
use Rattle.c_types.specs.FirstValues.{HoldsFirst}

-- a literal alone is no text where it is none, or the elements are no characters
pub no_text-literal : (element : CType) (tree : ExprTree) → rules.literal_alone (Trees.InitValue tree) ≡ None → rules.is_text element (Trees.Inits (Trees.InitValue tree) Trees.NoInits) ≡ false
no_text-literal element (Trees.Literal own place) e = absurd (none-some own (sym e))
no_text-literal element _ e = refl

pub no_text-element : (element : CType) (tree : ExprTree) → Types.is_character element ≡ false → rules.is_text element (Trees.Inits (Trees.InitValue tree) Trees.NoInits) ≡ false
no_text-element element (Trees.Literal own place) e = e
no_text-element element _ e = refl

module _ (scope : Scope) (place : Pos) (element : CType) (n : ℕ) where
  pub braced-elements-found : (inits : InitsTree) → rules.is_text element inits ≡ false → rules.elements_first scope element n inits ≡ rules.first_of scope (Some (Types.Array element n)) (Trees.InitList place inits)
  braced-elements-found inits text =
      sym (ap (λ b. if b then rules.text_first scope element n inits else rules.elements_first scope element n inits) text)

  pub braced-elements-held : (steps : List Part) (index : ℕ) (inits : InitsTree) → rules.is_text element inits ≡ false
      → elaborated.elements_held scope (elaborated.within steps (Parts.Elements index)) 0 element n inits ≡ elaborated.held_of scope steps index (Some (Types.Array element n)) (Trees.InitList place inits)
  braced-elements-held steps index inits text =
      sym (ap (λ b. if b then elaborated.text_list scope steps index element n inits else elaborated.elements_held scope (elaborated.within steps (Parts.Elements index)) 0 element n inits) text)

-- what was found of one in braces, and no text
pub no_literal-none : {B : Type 0} (o : Option (Bor B)) → is_some o ≡ false → option_map (λ (b : Bor B). b.now) o ≡ None
no_literal-none None e = refl
no_literal-none (Some b) e = absurd (false≢true (sym e))

-- ---- steps that were taken back

pub popped : {A : Type 0} (all old new : List A) (x : A) (n : ℕ) → all ≡ old ++ x ∷ [] → length all ≡ n → new ≡ take (n - 1) all → new ≡ old
popped all old new x n is len taken =
    let behind : length all ≡ length old + 1 = ap length is ∙ length-append old (x ∷ []) in
    taken ∙ ap (take (n - 1)) is ∙ take_at old (x ∷ []) (n - 1) (omega arith)

-- the row within, one step further
pub held-within : {held : List Held} {old pushed mid new : Target} → pushed.first.items ≡ old.first.items → HoldsFirst held pushed mid → new.parts.items ≡ old.parts.items → new.first.items ≡ mid.first.items → HoldsFirst held old new
held-within {held = held} same holds parts first =
    record { parts = parts; first = ap all_first first ∙ holds.first ∙ ap (λ firsts. all_first firsts ++ held) same }

-- ---- members

pub member-none : (table : Interned) (member : Option MemberDef) (found : Option (Option number.CType)) → IsMemberType table member found → found ≡ None → member ≡ None
member-none table None found h e = refl
member-none table (Some member) None h e = absurd h
member-none table (Some member) (Some t) h e = absurd (none-some t (sym e))

pub record AMember (table : Interned) (member : Option MemberDef) (t : Option number.CType) : Type 0 where
  pub its : MemberDef
  pub is : member ≡ Some its
  pub means : each_in type_in table t ≡ its.c_type

known-each : (table : Interned) (t : Option number.CType) → each_in type_in table t ≡ known_in table.tags table.entries t
known-each table None = refl
known-each table (Some t) = refl

pub member-some : (table : Interned) (member : Option MemberDef) (found : Option (Option number.CType)) (t : Option number.CType) → IsMemberType table member found → found ≡ Some t → AMember table member t
member-some table None None t h e = absurd (none-some t e)
member-some table None (Some t') t h e = absurd h
member-some table (Some member) None t h e = absurd h
member-some table (Some member) (Some t') t h e = record { its = member; is = refl; means = ap (each_in type_in table) (sym (same_Some t' t e)) ∙ known-each table t' ∙ h.0 }

-- they are the same while a table grows
pub same_members : (old new : Interned) → Grows old new → (id : tag.StructId) → TagStands old id → members_of (structs_in new) (Types.Struct (tag_in new id)) ≡ members_of (structs_in old) (Types.Struct (tag_in old id))
same_members old new grows id stands = λ i. members_of (grows.structs i) (Types.Struct ((tag_stays old new grows id stands).1 i))

-- ---- a tree that is a list

module _ (scope : Scope) (c_type : Option number.CType) (x : number.CType) (init : Init) (place : Pos) (inits : Vec Init Global) (slice : List Init) (table : Interned) (some : c_type ≡ Some x) (is : init ≡ I.List place inits) (same : slice ≡ inits.items) where
  listed : Trees.InitList place (inits_of slice) ≡ init_tree init
  listed = sym (ap init_tree is ∙ init_tree-list place inits ∙ ap (λ (l : List Init). Trees.InitList place (inits_of l)) (sym same))

  pub listed-found : rules.first_of scope (Some (type_in table x)) (Trees.InitList place (inits_of slice)) ≡ rules.first_of scope (each_in type_in table c_type) (init_tree init)
  listed-found = λ i. rules.first_of scope (each_in type_in table (sym some i)) (listed i)

  pub listed-named : named_in_inits scope (inits_of slice) ≡ named_in_init scope (init_tree init)
  listed-named = λ i. named_in_init scope (listed i)

  pub listed-held : (steps : List Part) (index : ℕ) → elaborated.held_of scope steps index (Some (type_in table x)) (Trees.InitList place (inits_of slice)) ≡ elaborated.held_of scope steps index (each_in type_in table c_type) (init_tree init)
  listed-held steps index = λ i. elaborated.held_of scope steps index (each_in type_in table (sym some i)) (listed i)
