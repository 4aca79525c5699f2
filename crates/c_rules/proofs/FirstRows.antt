-- The rows of scalars in an object, and first values that stand in them.
use Rattle.std.proofs.Common.{◌≡◌, ℕ, suc, ◌+◌, ◌<◌, ◌≤◌, Bool, true, false, ◌&&◌, cond, List, [], ◌∷◌, ◌++◌, length, slice_get, Option, Some, None, ℤ, pos, refl, ap, ◌∙◌, arith, nat_lt}
use Rattle.std.proofs.lemmas.Bool.{and_from, and_parts, lt-ltb}
use Rattle.c_num.specs.declared.IntType.{IntType}
use Rattle.c_num.specs.Types.{is_value}
use Rattle.c_num.specs.Conversion.{convert_to}
use Rattle.c_num.proofs.Conversions.{convert_to-in_range}
use Rattle.c_num.proofs.Outcomes.{is_value-Decides}
use Rattle.c_typed.specs.declared.part.Part.{Part}
use Rattle.c_typed.specs.declared.part.Part.TheVariants as Parts
use Rattle.c_typed.specs.Types.{CType, Integer, Array, Struct}
use Rattle.c_typed.specs.Layouts.{StructDef, members_by_tag, known_members, member_type}
use Rattle.c_typed.specs.Values.{FirstScalar, IntegerValue, Held}
use Rattle.c_typed.specs.DefinitionViews.{characters_held}
use Rattle.c_typed.specs.Typed.{Program}
use Rattle.c_rules.specs.Elaborated.{held_at, within}
use Rattle.c_typed.specs.Expressions.{given, is_scalar}
use Rattle.c_typed.specs.Programs.{RowType, one_of, row_within, row_at, is_first, is_held, all_held}

-- ---- one step more

given_all : {A : Type 0} (o : Option A) → given o Some ≡ o
given_all None = refl
given_all (Some a) = refl

given_twice : {A B C : Type 0} (o : Option A) (f : A → Option B) (g : B → Option C) → given o (λ a. given (f a) g) ≡ given (given o f) g
given_twice None f g = refl
given_twice (Some a) f g = refl

pub row_more : (structs : List StructDef) (row : RowType) (steps : List Part) (step : Part) → row_at structs row (steps ++ step ∷ []) ≡ given (row_at structs row steps) (λ r. row_within structs r step)
row_more structs row [] step = given_all (row_within structs row step)
row_more structs row (first ∷ steps) step =
    (λ i. given (row_within structs row first) (λ inner. row_more structs inner steps step i))
    ∙ given_twice (row_within structs row first) (λ inner. row_at structs inner steps) (λ r. row_within structs r step)

-- ---- rows

pub value_in_range : (int_type : IntType) (z : ℤ) → is_value int_type (convert_to int_type z) ≡ true
value_in_range int_type z = (is_value-Decides int_type (convert_to int_type z)).1 (convert_to-in_range int_type z)

abbrev held_by : Program → Held → Option RowType → Bool
held_by program held None = false
held_by program held (Some row) = nat_lt held.leaf.index row.count && is_scalar row.element && is_first program row.element held.value

module _ (program : Program) (whole : CType) where
  -- an element of this type, in the row to which the steps lead
  pub record AtRow (steps : List Part) (index : ℕ) (c_type : CType) : Type 0 where
    pub count : ℕ
    pub row : row_at program.structs (one_of whole) steps ≡ Some (record { element = c_type; count = count })
    pub under : nat_lt index count ≡ true

  pub at_start : AtRow [] 0 whole
  at_start = record { count = 1; row = refl; under = refl }

  pub at_element : (steps : List Part) (index : ℕ) (element : CType) (n : ℕ) → AtRow steps index (Array element n) → (i : ℕ) → i < n → AtRow (within steps (Parts.Elements index)) i element
  at_element steps index element n at i lt =
      record {
        count = n;
        row = row_more program.structs (one_of whole) steps (Parts.Elements index) ∙ ap (λ o. given o (λ r. row_within program.structs r (Parts.Elements index))) at.row
            ∙ ap (λ b. cond b (Some (record { element = element; count = n })) None) at.under;
        under = lt-ltb i n lt;
      }

  pub at_member : (steps : List Part) (index : ℕ) (tag : List ℕ) (number : ℕ) (c_type : CType) → AtRow steps index (Struct tag)
      → member_type (slice_get (known_members (members_by_tag program.structs tag)) number) ≡ Some c_type → AtRow (within steps (Parts.Member index number)) 0 c_type
  at_member steps index tag number c_type at is =
      record {
        count = 1;
        row = row_more program.structs (one_of whole) steps (Parts.Member index number) ∙ ap (λ o. given o (λ r. row_within program.structs r (Parts.Member index number))) at.row
            ∙ ap (λ b. cond b (given (member_type (slice_get (known_members (members_by_tag program.structs tag)) number)) (λ t. Some (one_of t))) None) at.under
            ∙ ap (λ o. given o (λ t. Some (one_of t))) is;
        under = refl;
      }

  pub held_one : (steps : List Part) (index : ℕ) (c_type : CType) (value : FirstScalar) → AtRow steps index c_type → is_scalar c_type ≡ true → is_first program c_type value ≡ true
      → all_held program whole (held_at steps index value) ≡ true
  held_one steps index c_type value at scalar first = and_from (is_held program whole held) true one refl
    where
      held : Held
      held = record { leaf = record { steps = steps; index = index }; value = value }

      one : is_held program whole held ≡ true
      one = ap (held_by program held) at.row
          ∙ and_from (nat_lt index at.count && is_scalar c_type) (is_first program c_type value) (and_from (nat_lt index at.count) (is_scalar c_type) at.under scalar) first

  pub held_both : (some others : List Held) → all_held program whole some ≡ true → all_held program whole others ≡ true → all_held program whole (some ++ others) ≡ true
  held_both [] others first rest = rest
  held_both (held ∷ some) others first rest =
      let parts = and_parts (is_held program whole held) (all_held program whole some) first in
      and_from (is_held program whole held) (all_held program whole (some ++ others)) parts.0 (held_both some others parts.1 rest)

  pub characters_fit : (steps : List Part) (int_type : IntType) (n : ℕ) → ((i : ℕ) → i < n → AtRow steps i (Integer int_type)) → (index : ℕ) (bytes : List ℕ) → index + length bytes ≤ n
      → all_held program whole (characters_held steps int_type index bytes) ≡ true
  characters_fit steps int_type n at index [] le = refl
  characters_fit steps int_type n at index (byte ∷ bytes) le =
      let long : length (byte ∷ bytes) ≡ suc (length bytes) = refl in
      held_both (held_at steps index (IntegerValue (convert_to int_type (pos byte)))) (characters_held steps int_type (suc index) bytes)
      (held_one steps index (Integer int_type) (IntegerValue (convert_to int_type (pos byte))) (at index (omega arith)) refl (value_in_range int_type (pos byte)))
      (characters_fit steps int_type n at (suc index) bytes (omega arith))
