-- Typed trees of first values' expressions, which are kept one after another.
use Rattle.std.proofs.Common.{◌≡◌, List, [], ◌∷◌, ◌++◌, map, Option, refl, sym, ap, subst, ◌∙◌}
use Rattle.std.proofs.Common.{append-nil, append_assoc}
use Rattle.c_syntax.specs.Trees.{InitTree, InitsTree, Inits}
use Rattle.c_typed.specs.declared.typed.Value as memory_value
use Rattle.c_typed.specs.Typed.{Value}
use Rattle.c_typed.specs.Table.{Interned, Grows}
use Rattle.c_typed.specs.Views.{value_in, ValueStands, ValuesStand}
use Rattle.c_typed.proofs.Grown.{stays}
use Rattle.c_typed.proofs.TypedStays.{TypesStay, value_keeps}
use Rattle.c_rules.specs.declared.violation.Violation.{Violation}
use Rattle.c_rules.specs.Names.{Scope}
use Rattle.c_types_state.specs.NameTables.{State}
use Rattle.c_types.specs.InitialValues.{AddsValues, init_values, inits_values}

-- ---- none, one, and two behind each other

pub adds-none : (table : Interned) (values : List memory_value.Value) → AddsValues [] table values values
adds-none table values = record { added = []; is = sym (append-nil values); stand = tt; means = refl }

pub adds-one : {table : Interned} {old new : List memory_value.Value} {own : Value} (value pushed : memory_value.Value) → pushed ≡ value → new ≡ old ++ pushed ∷ [] → ValueStands table value → value_in table value ≡ own → AddsValues (own ∷ []) table old new
adds-one {old = old} value pushed same is stands means = record { added = value ∷ []; is = is ∙ ap (λ v. old ++ v ∷ []) same; stand = (stands, tt); means = ap (λ v. v ∷ []) means }

-- the same by other words
pub adds-same : {table : Interned} {old new : List memory_value.Value} {values values' : List Value} → values ≡ values' → AddsValues values table old new → AddsValues values' table old new
adds-same same adds = record { added = adds.added; is = adds.is; stand = adds.stand; means = adds.means ∙ same }

module _ (old new : Interned) (keeps : TypesStay old new) where
  all_keep : (vs : List memory_value.Value) → ValuesStand old vs → ValuesStand new vs × (map (value_in new) vs ≡ map (value_in old) vs)
  all_keep [] h = (tt, refl)
  all_keep (first ∷ others) h =
      let kept = value_keeps old new keeps first h.0 in
      let rest = all_keep others h.1 in
      ((kept.0, rest.0), λ i. kept.1 i ∷ rest.1 i)

  -- they stay where the types do
  pub adds-keep : {values : List Value} {before after : List memory_value.Value} → AddsValues values old before after → AddsValues values new before after
  adds-keep adds =
      let kept = all_keep adds.added adds.stand in
      record { added = adds.added; is = adds.is; stand = kept.0; means = kept.1 ∙ adds.means }

pub adds-grow : {old new : Interned} → Grows old new → {values : List Value} {before after : List memory_value.Value} → AddsValues values old before after → AddsValues values new before after
adds-grow {old = old} {new = new} grows adds = adds-keep old new (stays old new grows) adds

module _ (table : Interned) where
  both_stand : (xs ys : List memory_value.Value) → ValuesStand table xs → ValuesStand table ys → ValuesStand table (xs ++ ys)
  both_stand [] ys h h' = h'
  both_stand (x ∷ xs) ys h h' = (h.0, both_stand xs ys h.1 h')

  both_mean : (xs ys : List memory_value.Value) → map (value_in table) (xs ++ ys) ≡ map (value_in table) xs ++ map (value_in table) ys
  both_mean [] ys = refl
  both_mean (x ∷ xs) ys = ap (λ more. value_in table x ∷ more) (both_mean xs ys)

  pub adds-two : {xs ys : List Value} {one two three : List memory_value.Value} → AddsValues xs table one two → AddsValues ys table two three → AddsValues (xs ++ ys) table one three
  adds-two {one = one} first second =
      record {
        added = first.added ++ second.added;
        is = second.is ∙ ap (λ l. l ++ second.added) first.is ∙ append_assoc one first.added second.added;
        stand = both_stand first.added second.added first.stand second.stand;
        means = both_mean first.added second.added ∙ (λ i. first.means i ++ second.means i);
      }

-- and the types may become more between
pub adds-then : {xs ys : List Value} {t u : Interned} {one two three : List memory_value.Value} → AddsValues xs t one two → TypesStay t u → AddsValues ys u two three → AddsValues (xs ++ ys) u one three
adds-then {t = t} {u = u} first keeps second = adds-two u (adds-keep t u keeps first) second

-- what was noted changes no type
pub adds-noted : (s u : State) (least : Option Violation) {values : List Value} {old new : List memory_value.Value} → u ≡ record s { least = least } → AddsValues values s.table old new → AddsValues values u.table old new
adds-noted s u least {values = values} {old = old} {new = new} noted adds = subst (λ (state : State). AddsValues values state.table old new) (sym noted) adds

-- ---- loops

-- what was kept so far, and then what is left, is what all keep
pub record ValuesFar (all left : List Value) (table : Interned) (old new : List memory_value.Value) : Type 0 where
  pub kept : List Value
  pub adds : AddsValues kept table old new
  pub is : kept ++ left ≡ all

pub kept-none : (all : List Value) (table : Interned) (values : List memory_value.Value) → ValuesFar all all table values values
kept-none all table values = record { kept = []; adds = adds-none table values; is = refl }

pub kept-more : (one : List Value) {all left : List Value} {t u : Interned} {old mid new : List memory_value.Value} → ValuesFar all (one ++ left) t old mid → TypesStay t u → AddsValues one u mid new → ValuesFar all left u old new
kept-more one {left = left} far keeps adds = record { kept = far.kept ++ one; adds = adds-then far.adds keeps adds; is = append_assoc far.kept one left ∙ far.is }

-- one initializer, and those behind it
pub kept-init : (init : InitTree) (rest : InitsTree) {here now : Scope} {all : List Value} {t u : Interned} {old mid new : List memory_value.Value} → now ≡ here → ValuesFar all (inits_values here (Inits init rest)) t old mid → Grows t u → AddsValues (init_values now init) u mid new
    → ValuesFar all (inits_values here rest) u old new
kept-init init rest {here = here} {t = t} {u = u} same far grows adds = kept-more (init_values here init) far (stays t u grows) (adds-same (ap (λ scope. init_values scope init) same) adds)

-- all that were left
pub kept-rest : (rest : InitsTree) {here now : Scope} {all : List Value} {t u : Interned} {old mid new : List memory_value.Value} → now ≡ here → ValuesFar all (inits_values here rest) t old mid → Grows t u → AddsValues (inits_values now rest) u mid new → AddsValues all u old new
kept-rest rest {t = t} {u = u} same far grows adds = adds-same far.is (adds-then far.adds (stays t u grows) (adds-same (ap (λ scope. inits_values scope rest) same) adds))

-- none is left
pub kept-all : {all : List Value} {table : Interned} {old new : List memory_value.Value} → ValuesFar all [] table old new → AddsValues all table old new
kept-all far = adds-same (sym (append-nil far.kept) ∙ far.is) far.adds

-- ---- the whole

-- where there were none before, these are all
module _ {values : List Value} {table : Interned} {kept : List memory_value.Value} (adds : AddsValues values table [] kept) where
  pub all-mean : map (value_in table) kept ≡ values
  all-mean = ap (map (value_in table)) adds.is ∙ adds.means

  pub all-stand : ValuesStand table kept
  all-stand = subst (ValuesStand table) (sym adds.is) adds.stand
