-- Types that were named, one after another.
use Rattle.std.proofs.Common.{◌≡◌, List, [], ◌∷◌, ◌++◌, map, Option, refl, sym, ap, subst, ◌∙◌}
use Rattle.std.proofs.Common.{append-nil, append_assoc}
use Rattle.c_typed.specs.Table.{Interned, Grows}
use Rattle.c_typed.proofs.Grown.{stays}
use Rattle.c_rules.specs.Names.{Scope}
use Rattle.c_rules.specs.Known.{Checked}
use Rattle.c_types_state.specs.Finding.{Finds}
use Rattle.c_types_expressions.specs.declared.pass.NamedType as memory_named
use Rattle.c_types_expressions.specs.declared.pass.Pass.{Pass}
use Rattle.c_rules.specs.Named.{NamedType}
use Rattle.c_types_expressions.specs.Passes.{named_type, AllNamedStand, Names, Passes}

-- none
pub names-none : (table : Interned) (named : List memory_named.NamedType) → Names [] table named named
names-none table named = record { added = []; is = sym (append-nil named); stand = tt; means = refl }

-- they stay while the table grows
module _ (old new : Interned) (grows : Grows old new) where
  all_stay : (xs : List memory_named.NamedType) → AllNamedStand old xs → AllNamedStand new xs × (map (named_type new) xs ≡ map (named_type old) xs)
  all_stay [] h = (tt, refl)
  all_stay (x ∷ xs) h =
      let first = stays old new grows x.c_type h.0 in
      let others = all_stay xs h.1 in
      ((first.0, others.0), λ i. record { place = x.place; c_type = first.1 i } ∷ others.1 i)

  pub names-grow : {named : List NamedType} {before after : List memory_named.NamedType} → Names named old before after → Names named new before after
  names-grow names =
      let kept = all_stay names.added names.stand in
      record { added = names.added; is = names.is; stand = kept.0; means = kept.1 ∙ names.means }

-- one after another
module _ (table : Interned) where
  both_stand : (xs ys : List memory_named.NamedType) → AllNamedStand table xs → AllNamedStand table ys → AllNamedStand table (xs ++ ys)
  both_stand [] ys h h' = h'
  both_stand (x ∷ xs) ys h h' = (h.0, both_stand xs ys h.1 h')

  both_mean : (xs ys : List memory_named.NamedType) → map (named_type table) (xs ++ ys) ≡ map (named_type table) xs ++ map (named_type table) ys
  both_mean [] ys = refl
  both_mean (x ∷ xs) ys = ap (λ more. named_type table x ∷ more) (both_mean xs ys)

  pub names-then : {xs ys : List NamedType} {one two three : List memory_named.NamedType} → Names xs table one two → Names ys table two three → Names (xs ++ ys) table one three
  names-then {xs = xs} {ys = ys} {one = one} first second =
      record {
        added = first.added ++ second.added;
        is = second.is ∙ ap (λ l. l ++ second.added) first.is ∙ append_assoc one first.added second.added;
        stand = both_stand first.added second.added first.stand second.stand;
        means = both_mean first.added second.added ∙ (λ i. first.means i ++ second.means i);
      }

-- those of a part, and what is named behind it
pub names-two : (xs : List NamedType) (ys : Scope → List NamedType) (t u : Interned) (now here : Scope) {one two three : List memory_named.NamedType} → Names xs t one two → Grows t u → now ≡ here → Names (ys now) u two three → Names (xs ++ ys here) u one three
names-two xs ys t u now here {two = two} {three = three} first grows same second =
    names-then u (names-grow t u grows first) (subst (λ scope. Names (ys scope) u two three) same second)

-- a pass over a part, and what is made of it without a name
pub passes-made : {A B A' B' : Type 0} {Is : Interned → B → A → Type 0} {Is' : Interned → B' → A' → Type 0} {part : Checked A} {whole : Checked A'} {named : List NamedType} {s t u : Pass} {r : Option B} {r' : Option B'} → Passes Is part named s t r → Grows t.checker.table u.checker.table → u.named.items ≡ t.named.items → Finds Is' whole s.checker u.checker r' → Passes Is' whole named s u r'
passes-made {named = named} {s = s} {t = t} {u = u} first grows same finds =
    record {
      finds = finds;
      names = subst (λ items. Names named u.checker.table s.named.items items) (sym same) (names-grow t.checker.table u.checker.table grows first.names);
    }

-- what names nothing
pub passes-plain : {A B : Type 0} {Is : Interned → B → A → Type 0} {whole : Checked A} {s t : Pass} {r : Option B} → Finds Is whole s.checker t.checker r → t.named.items ≡ s.named.items → Passes Is whole [] s t r
passes-plain {s = s} {t = t} finds same =
    record { finds = finds; names = subst (λ items. Names [] t.checker.table s.named.items items) (sym same) (names-none t.checker.table s.named.items) }
