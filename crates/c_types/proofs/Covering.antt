-- Passes over parts of a text, one after another.
use Rattle.std.proofs.Common.{◌≡◌, List, [], ◌∷◌, ◌++◌, Option, Some, refl, sym, ap, subst, ◌∙◌}
use Rattle.std.proofs.Common.{append-nil}
use Rattle.c_typed.specs.Table.{Interned, Grows}
use Rattle.c_typed.proofs.Grown.{grows_refl, grows_trans}
use Rattle.c_rules.specs.declared.violation.Violation.{Violation}
use Rattle.c_rules.specs.Names.{Scope}
use Rattle.c_rules.specs.Known.{Checked}
use Rattle.c_types_state.specs.NameTables.{State, scope_of, ScopeGrows}
use Rattle.c_types_state.specs.Finding.{Finds, noted, lesser}
use Rattle.c_types_state.specs.Staying.{Stays}
use Rattle.c_types_expressions.specs.declared.pass.Pass.{Pass}
use Rattle.c_rules.specs.Named.{NamedType}
use Rattle.c_types_expressions.specs.Passes.{Names, Passes}
use Rattle.c_types_expressions.proofs.Naming.{names-none, names-grow, names-then}
use Rattle.c_types.specs.Made.{Covers, Makes, IsBoth}

-- ---- violations, one list behind another

pub noted-append : (least : Option Violation) (xs ys : List Violation) → noted least (xs ++ ys) ≡ noted (noted least xs) ys
noted-append least [] ys = refl
noted-append least (x ∷ xs) ys = noted-append (lesser least x) xs ys

-- ---- a pass over nothing, over one part, and over two

-- where nothing is done
pub covers-none : (s : Pass) → Covers [] [] (scope_of s.checker) s s
covers-none s = record { grows = grows_refl s.checker.table; scope = refl; least = refl; names = names-none s.checker.table s.named.items }

-- the same violations, types and scope by other words
pub covers-same : {found found' : List Violation} {named named' : List NamedType} {there there' : Scope} {s t : Pass} → found ≡ found' → named ≡ named' → there ≡ there' → Covers found named there s t → Covers found' named' there' s t
covers-same {s = s} {t = t} e e' e'' covers =
    record {
      grows = covers.grows;
      scope = covers.scope ∙ e'';
      least = covers.least ∙ ap (noted s.checker.least) e;
      names = subst (λ ns. Names ns t.checker.table s.named.items t.named.items) e' covers.names;
    }

-- two parts, the second of which begins in the scope behind the first
pub covers-then : {found : List Violation} {named : List NamedType} {there : Scope} (found' : Scope → List Violation) (named' : Scope → List NamedType) (there' : Scope → Scope) {s t u : Pass}
    → Covers found named there s t → Covers (found' (scope_of t.checker)) (named' (scope_of t.checker)) (there' (scope_of t.checker)) t u → Covers (found ++ found' there) (named ++ named' there) (there' there) s u
covers-then {found = found} {named = named} {there = there} found' named' there' {s = s} {t = t} {u = u} first second =
    record {
      grows = grows_trans s.checker.table t.checker.table u.checker.table first.grows second.grows;
      scope = second.scope ∙ ap there' first.scope;
      least = second.least ∙ (λ i. noted (first.least i) (found' (first.scope i))) ∙ sym (noted-append s.checker.least found (found' there));
      names = names-then u.checker.table (names-grow t.checker.table u.checker.table second.grows first.names)
          (subst (λ scope. Names (named' scope) u.checker.table t.named.items u.named.items) first.scope second.names);
    }

-- two parts, of which the second neither violates nor names anything new by the scope
pub covers-two : {found found' : List Violation} {named named' : List NamedType} {there there' : Scope} {s t u : Pass} → Covers found named there s t → Covers found' named' there' t u → Covers (found ++ found') (named ++ named') there' s u
covers-two {found' = found'} {named' = named'} {there' = there'} first second = covers-then (λ _. found') (λ _. named') (λ _. there') first second

-- a part of which it is known what rules find of it
pub covers-passes : {A B : Type 0} {Is : Interned → B → A → Type 0} {part : Checked A} {named : List NamedType} {s t : Pass} {r : Option B} → Passes Is part named s t r → Covers part.found named (scope_of s.checker) s t
covers-passes passes = record { grows = passes.finds.grows; scope = passes.finds.scope; least = passes.finds.least; names = passes.names }

-- rules that name nothing
pub covers-finds : {A B : Type 0} {Is : Interned → B → A → Type 0} {part : Checked A} {s t : Pass} {r : Option B} → Finds Is part s.checker t.checker r → t.named.items ≡ s.named.items → Covers part.found [] (scope_of s.checker) s t
covers-finds {s = s} {t = t} finds same =
    record { grows = finds.grows; scope = finds.scope; least = finds.least; names = subst (λ items. Names [] t.checker.table s.named.items items) (sym same) (names-none t.checker.table s.named.items) }

-- violations that were noted, and nothing else
pub covers-noted : {s t : Pass} (found : List Violation) → t.checker ≡ record s.checker { least = noted s.checker.least found } → t.named.items ≡ s.named.items → Covers found [] (scope_of s.checker) s t
covers-noted {s = s} {t = t} found is same =
    let noted_there : State = record s.checker { least = noted s.checker.least found } in
    record {
      grows = subst (λ (state : State). Grows s.checker.table state.table) (sym is) (grows_refl s.checker.table);
      scope = ap scope_of is;
      least = λ i. (is i).least;
      names = subst (λ items. Names [] t.checker.table s.named.items items) (sym same) (names-none t.checker.table s.named.items);
    }

-- another scope
pub covers-leads : {s t : Pass} {there : Scope} → ScopeGrows there s.checker t.checker → t.named.items ≡ s.named.items → Covers [] [] there s t
covers-leads {s = s} {t = t} leads same =
    record {
      grows = subst (λ (table : Interned). Grows s.checker.table table) (sym leads.table) (grows_refl s.checker.table);
      scope = leads.scope;
      least = leads.least;
      names = subst (λ items. Names [] t.checker.table s.named.items items) (sym same) (names-none t.checker.table s.named.items);
    }

-- types that were named, and nothing else
pub covers-named : {s t : Pass} {named : List NamedType} → t.checker ≡ s.checker → Names named s.checker.table s.named.items t.named.items → Covers [] named (scope_of s.checker) s t
covers-named {s = s} {t = t} {named = named} same names =
    record {
      grows = subst (λ (state : State). Grows s.checker.table state.table) (sym same) (grows_refl s.checker.table);
      scope = ap scope_of same;
      least = λ i. (same i).least;
      names = subst (λ (state : State). Names named state.table s.named.items t.named.items) (sym same) names;
    }

-- nothing is found or named on the one side
pub covers-right : {found : List Violation} {named : List NamedType} {there : Scope} {s t : Pass} → Covers (found ++ []) (named ++ []) there s t → Covers found named there s t
covers-right {found = found} {named = named} covers = covers-same (append-nil found) (append-nil named) refl covers

-- ---- what is made

module _ {A B : Type 0} {Is : Interned → B → A → Type 0} where
  -- of a part for which rules give it in every case
  pub makes-passes : {found : List Violation} {a : A} {named : List NamedType} {s t : Pass} {b : B} → Passes Is (record { found = found; known = Some a }) named s t (Some b) → Makes Is found a named (scope_of s.checker) s t b
  makes-passes passes = record { covers = covers-passes passes; made = passes.finds.known }

  pub makes-same : {found found' : List Violation} {a a' : A} {named named' : List NamedType} {there there' : Scope} {s t : Pass} {b : B} → found ≡ found' → a ≡ a' → named ≡ named' → there ≡ there' → Makes Is found a named there s t b → Makes Is found' a' named' there' s t b
  makes-same {t = t} {b = b} e ea e' e'' makes =
      record { covers = covers-same e e' e'' makes.covers; made = subst (λ x. Is t.checker.table b x) ea makes.made }

  -- what was made stays while the pass goes on
  pub makes-then : Stays Is → {found : List Violation} {a : A} {named : List NamedType} {there : Scope} (found' : Scope → List Violation) (named' : Scope → List NamedType) (there' : Scope → Scope) {s t u : Pass} {b : B}
      → Makes Is found a named there s t b → Covers (found' (scope_of t.checker)) (named' (scope_of t.checker)) (there' (scope_of t.checker)) t u → Makes Is (found ++ found' there) a (named ++ named' there) (there' there) s u b
  makes-then stay {a = a} found' named' there' {t = t} {u = u} {b = b} first second =
      record { covers = covers-then found' named' there' first.covers second; made = stay t.checker.table u.checker.table second.grows b a first.made }

  -- and is made behind another part
  pub makes-behind : {found : List Violation} {named : List NamedType} {there : Scope} (found' : Scope → List Violation) (made : Scope → A) (named' : Scope → List NamedType) (there' : Scope → Scope) {s t u : Pass} {b : B}
      → Covers found named there s t → Makes Is (found' (scope_of t.checker)) (made (scope_of t.checker)) (named' (scope_of t.checker)) (there' (scope_of t.checker)) t u b → Makes Is (found ++ found' there) (made there) (named ++ named' there) (there' there) s u b
  makes-behind found' made named' there' {u = u} {b = b} first second =
      record { covers = covers-then found' named' there' first second.covers; made = subst (λ scope. Is u.checker.table b (made scope)) first.scope second.made }

  -- something else is made of it
  module _ {A' B' : Type 0} {Is' : Interned → B' → A' → Type 0} where
    pub makes-of : {found : List Violation} {a : A} {a' : A'} {named : List NamedType} {there : Scope} {s t : Pass} {b : B} {b' : B'} → (Is t.checker.table b a → Is' t.checker.table b' a') → Makes Is found a named there s t b → Makes Is' found a' named there s t b'
    makes-of f makes = record { covers = makes.covers; made = f makes.made }

    -- two that are made, one after another
    pub makes-both : Stays Is → {found : List Violation} {a : A} {named : List NamedType} {there : Scope} (found' : Scope → List Violation) (made : Scope → A') (named' : Scope → List NamedType) (there' : Scope → Scope) {s t u : Pass} {b : B} {b' : B'}
        → Makes Is found a named there s t b → Makes Is' (found' (scope_of t.checker)) (made (scope_of t.checker)) (named' (scope_of t.checker)) (there' (scope_of t.checker)) t u b'
        → Makes (IsBoth Is Is') (found ++ found' there) (a, made there) (named ++ named' there) (there' there) s u (b, b')
    makes-both stay {a = a} found' made named' there' {t = t} {u = u} {b = b} {b' = b'} first second =
        record {
          covers = covers-then found' named' there' first.covers second.covers;
          made = (stay t.checker.table u.checker.table second.covers.grows b a first.made, subst (λ scope. Is' u.checker.table b' (made scope)) first.covers.scope second.made);
        }

-- a pair stays
pub stays-both : {A B A' B' : Type 0} {Is : Interned → B → A → Type 0} {Is' : Interned → B' → A' → Type 0} → Stays Is → Stays Is' → Stays (IsBoth Is Is')
stays-both stay stay' old new grows b a h = (stay old new grows b.0 a.0 h.0, stay' old new grows b.1 a.1 h.1)
