-- First values stand in the variable that they initialize.
use Rattle.std.proofs.Common.{◌≡◌, ℕ, zero, suc, ◌+◌, ◌<◌, ◌≤◌, Bool, true, false, cond, List, [], ◌∷◌, length, slice_get, Option, Some, None, refl, ap, ◌∙◌, ◌++◌, arith, nat_le, nat_lt, length-append}
use Rattle.std.proofs.lemmas.Bool.{true≢false, leb-true, ltb-true}
use Rattle.c_syntax.specs.Trees
use Rattle.c_syntax.specs.Trees.{ExprTree, InitTree, InitsTree}
use Rattle.c_typed.specs.declared.part.Part.{Part}
use Rattle.c_typed.specs.declared.part.Part.TheVariants as Parts
use Rattle.c_typed.specs.Types.{CType, Void, Integer, Pointer, Array, Struct, Function, is_character}
use Rattle.c_typed.specs.Layouts.{MemberDef, members_by_tag, known_members, member_type}
use Rattle.c_typed.specs.Values.{Held}
use Rattle.c_typed.specs.Typed.{Program}
use Rattle.c_rules.specs.Names.{Scope}
use Rattle.c_rules.specs.Known.{Checked, Known, as_value}
use Rattle.c_rules.specs.Operators as rules
use Rattle.c_rules.specs.Expressions.{expr, place_of}
use Rattle.c_rules.specs.Initializers.{is_text, members_of, first_of, value_first, text_first, elements_first, members_first}
use Rattle.c_rules.specs.Elaborated.{literals_in, literals_in_init, literals_in_inits, scalar_of, scalar_held, held_at, within, bytes_held, text_held, value_held, held_of, text_list, elements_held, members_held}
use Rattle.c_typed.specs.Context.{Context}
use Rattle.c_typed.specs.Expressions.{is_scalar}
use Rattle.c_typed.specs.Programs.{all_held}
use Rattle.c_rules.specs.Fitting.{Fits, AreListed, ValueFits}
use Rattle.c_rules.proofs.ExpressionsFit.{value_fits}
use Rattle.c_rules.proofs.Nothing.{both_none, listed_both}
use Rattle.c_rules.proofs.FirstRows.{AtRow, at_element, at_member, held_one, held_both, characters_fit}
use Rattle.c_rules.proofs.FirstValues.{scalar_is_first}

-- ---- members from a number on

abbrev from_number : List MemberDef → ℕ → List MemberDef
from_number members zero = members
from_number [] (suc number) = []
from_number (first ∷ others) (suc number) = from_number others number

number_at : (all : List MemberDef) (number : ℕ) (member : MemberDef) (members : List MemberDef) → from_number all number ≡ member ∷ members → slice_get all number ≡ Some member
number_at [] zero member members e = cc
number_at (first ∷ others) zero member members e = ap first_one e
  where
    first_one : List MemberDef → Option MemberDef
    first_one [] = None
    first_one (one ∷ more) = Some one
number_at [] (suc number) member members e = cc
number_at (first ∷ others) (suc number) member members e = number_at others number member members e

number_next : (all : List MemberDef) (number : ℕ) (member : MemberDef) (members : List MemberDef) → from_number all number ≡ member ∷ members → from_number all (suc number) ≡ members
number_next [] zero member members e = cc
number_next (first ∷ others) zero member members e = ap behind_one e
  where
    behind_one : List MemberDef → List MemberDef
    behind_one [] = []
    behind_one (one ∷ more) = more
number_next [] (suc number) member members e = cc
number_next (first ∷ others) (suc number) member members e = number_next others number member members e

module _ (program : Program) (scope : Scope) (fit : Fits scope (record { program = program; locals = [] })) (whole : CType) where
  abbrev around : Context
  around = record { program = program; locals = [] }

  -- ---- values

  abbrev value_known : ExprTree → Checked Known
  value_known value = as_value (place_of value) (expr scope value)

  scalar_fits : (steps : List Part) (index : ℕ) (c_type : CType) → AtRow program whole steps index c_type → (value : ExprTree) → AreListed program.literals (literals_in value) → (value_known value).found ≡ []
      → all_held program whole (scalar_held scope steps index c_type (value_known value).known) ≡ true
  scalar_fits steps index c_type row value listed none =
      ap (λ k. all_held program whole (scalar_held scope steps index c_type k)) found.1 ∙ by (rules.fits c_type found.0) refl
    where
      found : (known : Known) × ((value_known value).known ≡ Some known) × ValueFits around known
      found = value_fits scope around fit (place_of value) value listed none

      by : (b : Bool) → rules.fits c_type found.0 ≡ b → all_held program whole (cond b (held_at steps index (scalar_of scope c_type found.0)) []) ≡ true
      by false e = refl
      by true e =
          let first = scalar_is_first program around refl scope fit.completed c_type found.0 found.2 e in
          held_one program whole steps index c_type (scalar_of scope c_type found.0) row first.0 first.1

  none_held : (steps : List Part) (index : ℕ) (c_type : CType) → is_scalar c_type ≡ false → (known : Option Known) → all_held program whole (scalar_held scope steps index c_type known) ≡ true
  none_held steps index c_type other None = refl
  none_held steps index Void other (Some known) = refl
  none_held steps index (Integer int_type) other (Some known) = absurd (true≢false other)
  none_held steps index (Pointer target) other (Some known) = absurd (true≢false other)
  none_held steps index (Array element n) other (Some known) = refl
  none_held steps index (Struct tag) other (Some known) = refl
  none_held steps index (Function result types) other (Some known) = refl

  held_fits : (n : ℕ) (bytes : List ℕ) → length bytes ≤ n → length (bytes_held n bytes) ≤ n
  held_fits n bytes le = by (nat_lt (length bytes) n) refl
    where
      by : (b : Bool) → nat_lt (length bytes) n ≡ b → length (cond b (bytes ++ 0 ∷ []) bytes) ≤ n
      by false e = le
      by true e = omega (arith, length-append bytes (0 ∷ []), ltb-true (length bytes) n e)

  text_fits : (steps : List Part) (index : ℕ) (element : CType) (n : ℕ) → AtRow program whole steps index (Array element n) → (bytes : List ℕ)
      → all_held program whole (cond (is_character element) (text_held steps index element n bytes) []) ≡ true
  text_fits steps index Void n row bytes = refl
  text_fits steps index (Pointer target) n row bytes = refl
  text_fits steps index (Array inner m) n row bytes = refl
  text_fits steps index (Struct tag) n row bytes = refl
  text_fits steps index (Function result types) n row bytes = refl
  text_fits steps index (Integer int_type) n row bytes = by (is_character (Integer int_type)) (nat_le (length bytes) n) refl
    where
      characters : List Held
      characters = Rattle.c_typed.specs.DefinitionViews.characters_held (within steps (Parts.Elements index)) int_type 0 (bytes_held n bytes)

      by : (b c : Bool) → nat_le (length bytes) n ≡ c → all_held program whole (cond b (cond c characters []) []) ≡ true
      by false c e = refl
      by true false e = refl
      by true true e =
          let under : length (bytes_held n bytes) ≤ n = held_fits n bytes (leb-true (length bytes) n e) in
          characters_fit program whole (within steps (Parts.Elements index)) int_type n (λ i lt. at_element program whole steps index (Integer int_type) n row i lt) 0 (bytes_held n bytes) (omega arith)

  array_fits : (steps : List Part) (index : ℕ) (element : CType) (n : ℕ) → AtRow program whole steps index (Array element n) → (value : ExprTree) → all_held program whole (value_held scope steps index (Array element n) value) ≡ true
  array_fits steps index element n row (Trees.Literal bytes place) = text_fits steps index element n row bytes
  array_fits steps index element n row (Trees.Named name) = none_held steps index (Array element n) refl (value_known (Trees.Named name)).known
  array_fits steps index element n row (Trees.Integer value int_type place) = none_held steps index (Array element n) refl (value_known (Trees.Integer value int_type place)).known
  array_fits steps index element n row (Trees.Character byte place) = none_held steps index (Array element n) refl (value_known (Trees.Character byte place)).known
  array_fits steps index element n row (Trees.Null place) = none_held steps index (Array element n) refl (value_known (Trees.Null place)).known
  array_fits steps index element n row (Trees.EndOfFile place) = none_held steps index (Array element n) refl (value_known (Trees.EndOfFile place)).known
  array_fits steps index element n row (Trees.Parenthesized place inner) = none_held steps index (Array element n) refl (value_known (Trees.Parenthesized place inner)).known
  array_fits steps index element n row (Trees.Index array number) = none_held steps index (Array element n) refl (value_known (Trees.Index array number)).known
  array_fits steps index element n row (Trees.Call function open_place arguments) = none_held steps index (Array element n) refl (value_known (Trees.Call function open_place arguments)).known
  array_fits steps index element n row (Trees.Member object member) = none_held steps index (Array element n) refl (value_known (Trees.Member object member)).known
  array_fits steps index element n row (Trees.PointerMember pointer member) = none_held steps index (Array element n) refl (value_known (Trees.PointerMember pointer member)).known
  array_fits steps index element n row (Trees.PostIncrement operand) = none_held steps index (Array element n) refl (value_known (Trees.PostIncrement operand)).known
  array_fits steps index element n row (Trees.PostDecrement operand) = none_held steps index (Array element n) refl (value_known (Trees.PostDecrement operand)).known
  array_fits steps index element n row (Trees.Prefix operator place operand) = none_held steps index (Array element n) refl (value_known (Trees.Prefix operator place operand)).known
  array_fits steps index element n row (Trees.SizeofExpr place operand) = none_held steps index (Array element n) refl (value_known (Trees.SizeofExpr place operand)).known
  array_fits steps index element n row (Trees.SizeofType place type_name) = none_held steps index (Array element n) refl (value_known (Trees.SizeofType place type_name)).known
  array_fits steps index element n row (Trees.Cast place type_name operand) = none_held steps index (Array element n) refl (value_known (Trees.Cast place type_name operand)).known
  array_fits steps index element n row (Trees.Binary operator left right) = none_held steps index (Array element n) refl (value_known (Trees.Binary operator left right)).known
  array_fits steps index element n row (Trees.Conditional condition taken otherwise) = none_held steps index (Array element n) refl (value_known (Trees.Conditional condition taken otherwise)).known
  array_fits steps index element n row (Trees.Assign operator object value) = none_held steps index (Array element n) refl (value_known (Trees.Assign operator object value)).known

  value_holds : (steps : List Part) (index : ℕ) (c_type : CType) → AtRow program whole steps index c_type → (value : ExprTree) → AreListed program.literals (literals_in value) → value_first scope c_type value ≡ []
      → all_held program whole (value_held scope steps index c_type value) ≡ true
  value_holds steps index (Array element n) row value listed e = array_fits steps index element n row value
  value_holds steps index Void row value listed e = none_held steps index Void refl (value_known value).known
  value_holds steps index (Struct tag) row value listed e = none_held steps index (Struct tag) refl (value_known value).known
  value_holds steps index (Function result types) row value listed e = none_held steps index (Function result types) refl (value_known value).known
  value_holds steps index (Integer int_type) row value listed e = scalar_fits steps index (Integer int_type) row value listed (both_none (value_known value).found _ e).0
  value_holds steps index (Pointer target) row value listed e = scalar_fits steps index (Pointer target) row value listed (both_none (value_known value).found _ e).0

  text_holds : (steps : List Part) (index : ℕ) (element : CType) (n : ℕ) → AtRow program whole steps index (Array element n) → (inits : InitsTree) → all_held program whole (text_list scope steps index element n inits) ≡ true
  text_holds steps index element n row Trees.NoInits = refl
  text_holds steps index element n row (Trees.Inits (Trees.InitValue value) Trees.NoInits) = array_fits steps index element n row value
  text_holds steps index element n row (Trees.Inits (Trees.InitValue value) (Trees.Inits init others)) = refl
  text_holds steps index element n row (Trees.Inits (Trees.InitList place inits) others) = refl

  -- ---- initializers

  mutual
    pub init_holds : (steps : List Part) (index : ℕ) (c_type : CType) → AtRow program whole steps index c_type → (init : InitTree) → AreListed program.literals (literals_in_init init) → first_of scope (Some c_type) init ≡ []
        → all_held program whole (held_of scope steps index (Some c_type) init) ≡ true
    init_holds steps index c_type row (Trees.InitValue value) listed e = value_holds steps index c_type row value listed e
    init_holds steps index Void row (Trees.InitList place inits) listed e = refl
    init_holds steps index (Integer int_type) row (Trees.InitList place inits) listed e = refl
    init_holds steps index (Pointer target) row (Trees.InitList place inits) listed e = refl
    init_holds steps index (Function result types) row (Trees.InitList place inits) listed e = refl
    init_holds steps index (Array element n) row (Trees.InitList place inits) listed e =
        by (is_text element inits) e (λ none. elements_hold (within steps (Parts.Elements index)) 0 element n n (λ i lt. at_element program whole steps index element n row i lt) (omega arith) inits listed none)
      where
        by : (b : Bool) → cond b (text_first scope element n inits) (elements_first scope element n inits) ≡ []
            → (elements_first scope element n inits ≡ [] → all_held program whole (elements_held scope (within steps (Parts.Elements index)) 0 element n inits) ≡ true)
            → all_held program whole (cond b (text_list scope steps index element n inits) (elements_held scope (within steps (Parts.Elements index)) 0 element n inits)) ≡ true
        by true none rest = text_holds steps index element n row inits
        by false none rest = rest none
    init_holds steps index (Struct tag) row (Trees.InitList place inits) listed e =
        by (members_by_tag scope.structs tag) refl e (λ members all_is none. members_hold steps index tag row members 0 members all_is refl inits listed none)
      where
        by : (o : Option (List MemberDef)) → members_by_tag scope.structs tag ≡ o → members_first scope (members_of o) inits ≡ []
            → ((members : List MemberDef) → known_members (members_by_tag program.structs tag) ≡ members → members_first scope members inits ≡ [] → all_held program whole (members_held scope steps index 0 members inits) ≡ true)
            → all_held program whole (members_held scope steps index 0 (members_of o) inits) ≡ true
        by None is none rest = no_members inits
          where
            no_members : (trees : InitsTree) → all_held program whole (members_held scope steps index 0 [] trees) ≡ true
            no_members Trees.NoInits = refl
            no_members (Trees.Inits init others) = refl
        by (Some members) is none rest = rest members (ap known_members (fit.structs tag members is)) none

    elements_hold : (steps : List Part) (index : ℕ) (element : CType) (n all : ℕ) → ((i : ℕ) → i < all → AtRow program whole steps i element) → index + n ≡ all → (inits : InitsTree) → AreListed program.literals (literals_in_inits inits)
        → elements_first scope element n inits ≡ [] → all_held program whole (elements_held scope steps index element n inits) ≡ true
    elements_hold steps index element zero all row sum Trees.NoInits listed e = refl
    elements_hold steps index element (suc n) all row sum Trees.NoInits listed e = refl
    elements_hold steps index element zero all row sum (Trees.Inits init others) listed e = refl
    elements_hold steps index element (suc n) all row sum (Trees.Inits init others) listed e =
        let parts = both_none (first_of scope (Some element) init) (elements_first scope element n others) e in
        let literals = listed_both program.literals (literals_in_init init) (literals_in_inits others) listed in
        held_both program whole (held_of scope steps index (Some element) init) (elements_held scope steps (suc index) element n others)
        (init_holds steps index element (row index (omega arith)) init literals.0 parts.0)
        (elements_hold steps (suc index) element n all row (omega arith) others literals.1 parts.1)

    members_hold : (steps : List Part) (index : ℕ) (tag : List ℕ) → AtRow program whole steps index (Struct tag) → (all : List MemberDef) (number : ℕ) (members : List MemberDef) → known_members (members_by_tag program.structs tag) ≡ all
        → from_number all number ≡ members → (inits : InitsTree) → AreListed program.literals (literals_in_inits inits) → members_first scope members inits ≡ [] → all_held program whole (members_held scope steps index number members inits) ≡ true
    members_hold steps index tag row all number [] all_is from Trees.NoInits listed e = refl
    members_hold steps index tag row all number (member ∷ members) all_is from Trees.NoInits listed e = refl
    members_hold steps index tag row all number [] all_is from (Trees.Inits init others) listed e = refl
    members_hold steps index tag row all number (member ∷ members) all_is from (Trees.Inits init others) listed e =
        let parts = both_none (first_of scope member.c_type init) (members_first scope members others) e in
        let literals = listed_both program.literals (literals_in_init init) (literals_in_inits others) listed in
        held_both program whole (held_of scope (within steps (Parts.Member index number)) 0 member.c_type init) (members_held scope steps index (suc number) members others)
        (by member.c_type refl parts.0 (λ c_type at none. init_holds (within steps (Parts.Member index number)) 0 c_type at init literals.0 none))
        (members_hold steps index tag row all (suc number) members all_is (number_next all number member members from) others literals.1 parts.1)
      where
        by : (known : Option CType) → member.c_type ≡ known → first_of scope known init ≡ []
            → ((c_type : CType) → AtRow program whole (within steps (Parts.Member index number)) 0 c_type → first_of scope (Some c_type) init ≡ [] → all_held program whole (held_of scope (within steps (Parts.Member index number)) 0 (Some c_type) init) ≡ true)
            → all_held program whole (held_of scope (within steps (Parts.Member index number)) 0 known init) ≡ true
        by None is none rest = refl
        by (Some c_type) is none rest =
            rest c_type (at_member program whole steps index tag number c_type row (ap (λ m. member_type (slice_get m number)) all_is ∙ ap member_type (number_at all number member members from) ∙ is)) none
