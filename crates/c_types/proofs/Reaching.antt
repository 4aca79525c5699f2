-- A pass over a part that may complete a structure, and a pass behind it.
use Rattle.std.proofs.Common.{◌≡◌, Bool, true, false, if◌then◌else◌, List, [], ◌∷◌, ◌++◌, Option, Some, None, refl, sym, ap, subst, ◌∙◌}
use Rattle.c_syntax.specs.Trees
use Rattle.c_syntax.specs.Trees.{BaseTree}
use Rattle.c_typed.specs.declared.c_type.CType as number
use Rattle.c_typed.specs.Types.{CType}
use Rattle.c_typed.specs.Layouts.{members_by_tag}
use Rattle.c_typed.specs.Table.{Interned, Grows, Stands, type_in}
use Rattle.c_typed.specs.Typed.{GlobalDef, FunctionDef}
use Rattle.c_typed.proofs.Grown.{grows_trans, stays}
use Rattle.c_rules.specs.declared.violation.Violation.{Violation}
use Rattle.c_rules.specs.Names.{Scope}
use Rattle.c_types_state.specs.NameTables.{scope_of}
use Rattle.c_types_state.specs.Finding.{AllStand, each_in, noted}
use Rattle.c_rules.specs.Programs.{base_type, is_completed_before, all_members}
use Rattle.c_types_expressions.specs.declared.pass.Pass.{Pass}
use Rattle.c_rules.specs.Named.{NamedType}
use Rattle.c_types_expressions.specs.Passes.{Names}
use Rattle.c_types_expressions.proofs.Naming.{names-grow, names-then}
use Rattle.c_types.specs.declared.defined.Defined.{Defined}
use Rattle.c_types.specs.Made.{Covers, Reaches, without_structs, IsOptionalType}
use Rattle.c_types.specs.Outside.{IsOutside, HasDefined}
use Rattle.c_types.proofs.Covering.{noted-append}
use Rattle.c_types.proofs.TypesStaying.{globals_stay, functions_stay}
use Rattle.c_typed.proofs.TypedStays.{TypesStay}

-- ---- one that completes none

pub grows-without : {old new : Interned} → Grows old new → Grows (without_structs old) (without_structs new)
grows-without grows = record { entries = grows.entries; tags = grows.tags; structs = refl }

pub reaches-covers : {found : List Violation} {named : List NamedType} {there : Scope} {s t : Pass} → Covers found named there s t → Reaches found named there s t
reaches-covers covers = record { grows = grows-without covers.grows; scope = covers.scope; least = covers.least; names = covers.names }

-- the same violations, types and scope by other words
pub reaches-same : {found found' : List Violation} {named named' : List NamedType} {there there' : Scope} {s t : Pass} → found ≡ found' → named ≡ named' → there ≡ there' → Reaches found named there s t → Reaches found' named' there' s t
reaches-same {s = s} {t = t} e e' e'' reaches =
    record {
      grows = reaches.grows;
      scope = reaches.scope ∙ e'';
      least = reaches.least ∙ ap (noted s.checker.least) e;
      names = subst (λ ns. Names ns t.checker.table s.named.items t.named.items) e' reaches.names;
    }

-- and a part behind it, which begins in the scope behind it
pub reaches-then-covers : {found : List Violation} {named : List NamedType} {there : Scope} (found' : Scope → List Violation) (named' : Scope → List NamedType) (there' : Scope → Scope) {s t u : Pass}
    → Reaches found named there s t → Covers (found' (scope_of t.checker)) (named' (scope_of t.checker)) (there' (scope_of t.checker)) t u → Reaches (found ++ found' there) (named ++ named' there) (there' there) s u
reaches-then-covers {found = found} {named = named} {there = there} found' named' there' {s = s} {t = t} {u = u} first second =
    record {
      grows = grows_trans (without_structs s.checker.table) (without_structs t.checker.table) (without_structs u.checker.table) first.grows (grows-without second.grows);
      scope = second.scope ∙ ap there' first.scope;
      least = second.least ∙ (λ i. noted (first.least i) (found' (first.scope i))) ∙ sym (noted-append s.checker.least found (found' there));
      names = names-then u.checker.table (names-grow t.checker.table u.checker.table second.grows first.names)
          (subst (λ scope. Names (named' scope) u.checker.table t.named.items u.named.items) first.scope second.names);
    }

-- ---- types stay

pub reaches-types : {found : List Violation} {named : List NamedType} {there : Scope} {s t : Pass} → Reaches found named there s t → TypesStay s.checker.table t.checker.table
reaches-types {s = s} {t = t} reaches type h = stays (without_structs s.checker.table) (without_structs t.checker.table) reaches.grows type h

-- and what was defined
pub defined-stays : (old new : Interned) → TypesStay old new → (defined : Defined) (globals : List GlobalDef) (functions : List FunctionDef) → HasDefined old defined globals functions → HasDefined new defined globals functions
defined-stays old new keeps defined globals functions has =
    let variables = globals_stay old new keeps defined.globals has.globals_stand in
    let bodies = functions_stay old new keeps defined.functions.items has.functions_stand in
    record {
      globals_stand = variables.0;
      functions_stand = bodies.0;
      globals = variables.1 ∙ has.globals;
      functions = bodies.1 ∙ has.functions;
    }

-- ---- a base

-- a type that was made of it stands, and for what is known
pub base-made : (table : Interned) (made : Option number.CType) (known : Option CType) → IsOptionalType table made known → AllStand Stands table made × (each_in type_in table made ≡ known)
base-made table None None h = (tt, refl)
base-made table None (Some c_type) h = absurd h
base-made table (Some t) None h = absurd h
base-made table (Some t) (Some c_type) h = (h.0, ap Some h.1)

-- it declares no locals
pub base-outside : (scope : Scope) (base : BaseTree) → IsOutside scope → IsOutside (base_type scope base).scope
base-outside scope (Trees.Plain words) h = h
base-outside scope (Trees.StructBody place name members) h = by (is_completed_before (members_by_tag scope.structs name.bytes))
  where
    by : (b : Bool) → IsOutside (if b then scope else record scope { structs = record { tag = name.bytes; members = (all_members scope members []).members } ∷ scope.structs })
    by true = h
    by false = h
