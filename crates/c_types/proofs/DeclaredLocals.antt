-- Declarations in blocks: one declarator, and those of a declaration one after another.
use Rattle.std.proofs.Common.{◌≡◌, [], ◌++◌, Option, Some, None, refl, sym, ap, subst, ◌∙◌}
use Rattle.std.proofs.Common.{append-nil, unwrap_or}
use Rattle.run_theory.specs.declared.place.Pos.{Pos}
use Rattle.c_syntax.specs.Trees.{NameTree, DeclaratorTree, InitTree}
use Rattle.c_typed.specs.declared.c_type.CType as number
use Rattle.c_typed.specs.declared.typed.Value as memory_value
use Rattle.c_typed.specs.declared.statement.LocalDef as memory_local
use Rattle.c_typed.specs.Types.{CType}
use Rattle.c_typed.specs.Kept.{IsObject}
use Rattle.c_typed.specs.Table.{Interned, Grows, Stands, type_in}
use Rattle.c_typed.specs.StatementViews.{optional_value_in, OptionalStands}
use Rattle.c_typed.proofs.Grown.{stays, void_stands}
use Rattle.c_rules.specs.Names.{Scope}
use Rattle.c_rules.specs.Known.{Checked, with_known}
use Rattle.c_rules.specs.Expressions.{declared_type, Required}
use Rattle.c_rules.specs.Statements.{object_type, local_clash, with_declared, optional_first}
use Rattle.c_rules.specs.Elaborated.{first_local, type_or_void}
use Rattle.c_types_state.specs.NameTables.{State, scope_of}
use Rattle.c_types_state.specs.Finding.{Finds, AllStand, IsType, IsOption, each_in}
use Rattle.c_types_state.proofs.Findings.{seen-known}
use Rattle.c_types_expressions.specs.declared.pass.Pass.{Pass}
use Rattle.c_rules.specs.Named.{named_at, named_in_declarator}
use Rattle.c_types_expressions.specs.Passes.{Names, Passes}
use Rattle.c_types_expressions.specs.Derived.{element_rule, IsElement}
use Rattle.c_types_expressions.proofs.Passing.{passes-one, with_checker}
use Rattle.c_rules.specs.NamedItems.{named_in_first}
use Rattle.c_types.specs.Made.{Covers, Makes, IsOptionalValue, IsLocal}
use Rattle.c_types.proofs.Covering.{covers-then, covers-same, covers-passes, covers-named, makes-same, makes-behind, makes-of}

-- ---- types that may be missing

pub all-stay : (old new : Interned) → Grows old new → (t : Option number.CType) → AllStand Stands old t → AllStand Stands new t × (each_in type_in new t ≡ each_in type_in old t)
all-stay old new grows None h = (tt, refl)
all-stay old new grows (Some t) h =
    let kept = stays old new grows t h in
    (kept.0, ap Some kept.1)

pub element-stands : (table : Interned) (t : Option number.CType) (k : Option CType) → IsOption (IsElement table) t k → AllStand Stands table t
element-stands table None k h = tt
element-stands table (Some t) None h = absurd h
element-stands table (Some t) (Some k) h = h.0.stands

or-void : (table : Interned) (void : number.CType) → void.0 ≡ 0 → (t : Option number.CType) → AllStand Stands table t → Stands table (unwrap_or t void) × (type_in table (unwrap_or t void) ≡ type_or_void (each_in type_in table t))
or-void table void e None h = void_stands table void e
or-void table void e (Some t) h = (h, refl)

-- ---- one declarator

module _ (base : Option CType) (declarator : DeclaratorTree) (init : Option InitTree) where
  abbrev own_of : Scope → Pos → Checked CType
  own_of scope here = object_type scope here (declared_type scope here Required base declarator)

  -- what is made of it, by its name and its place
  abbrev pub MakesLocal : Option NameTree → Pos → Pass → Pass → memory_local.LocalDef → Type 0
  MakesLocal name here s t local =
      let scope = scope_of s.checker in
      let own = own_of scope here in
      let behind = with_declared name own.known scope in
      Makes IsLocal ((own.found ++ local_clash scope name) ++ optional_first behind own.known init) (record { c_type = type_or_void own.known; first = first_local behind own.known init }) ((named_in_declarator scope declarator ++ named_at here own.known) ++ named_in_first behind init) behind s t local

  module _ (name : Option NameTree) (here : Pos) {s0 s1 s3 s4 : Pass} {c2 : State} {declared own : Option number.CType}
      (first : Passes IsType (declared_type (scope_of s0.checker) here Required base declarator) (named_in_declarator (scope_of s0.checker) declarator) s0 s1 declared)
      (second : Finds IsElement (with_known (each_in type_in s1.checker.table declared) (element_rule (scope_of s1.checker) here)) s1.checker c2 own)
      (same : s3.checker ≡ c2) (names : Names (named_at here (each_in type_in c2.table own)) c2.table s1.named.items s3.named.items)
      (third : Covers (local_clash (scope_of s3.checker) name) [] (with_declared name (each_in type_in s3.checker.table own) (scope_of s3.checker)) s3 s4) where
    own_passes : Passes IsElement (own_of (scope_of s0.checker) here) (named_in_declarator (scope_of s0.checker) declarator) s0 (with_checker s1 c2) own
    own_passes = passes-one Stands type_in (λ scope. declared_type scope here Required base declarator) (λ scope. element_rule scope here) (λ scope. named_in_declarator scope declarator) first second

    own_known : each_in type_in s3.checker.table own ≡ (own_of (scope_of s0.checker) here).known
    own_known = ap (λ (state : State). each_in type_in state.table own) same ∙ seen-known IsObject type_in c2.table own _ own_passes.finds.known

    own_stands : AllStand Stands s3.checker.table own
    own_stands = subst (λ (state : State). AllStand Stands state.table own) (sym same) (element-stands c2.table own _ own_passes.finds.known)

    pub own-stands : AllStand Stands s4.checker.table own
    own-stands = (all-stay s3.checker.table s4.checker.table third.grows own own_stands).0

    own_behind : each_in type_in s4.checker.table own ≡ (own_of (scope_of s0.checker) here).known
    own_behind = (all-stay s3.checker.table s4.checker.table third.grows own own_stands).1 ∙ own_known

    covers_declared : Covers ((own_of (scope_of s0.checker) here).found ++ local_clash (scope_of s0.checker) name) (named_in_declarator (scope_of s0.checker) declarator ++ named_at here (own_of (scope_of s0.checker) here).known) (with_declared name (own_of (scope_of s0.checker) here).known (scope_of s0.checker)) s0 s4
    covers_declared =
        let scope = scope_of s0.checker in
        let its = own_of scope here in
        let known : each_in type_in c2.table own ≡ its.known = seen-known IsObject type_in c2.table own _ own_passes.finds.known in
        let one = covers-then (λ _. []) (λ _. named_at here (each_in type_in c2.table own)) (λ scope. scope) (covers-passes own_passes) (covers-named {s = with_checker s1 c2} {t = s3} same names) in
        let two = covers-same (append-nil its.found) (λ i. named_in_declarator scope declarator ++ named_at here (known i)) refl one in
        let three = covers-then (λ scope. local_clash scope name) (λ _. []) (λ scope. with_declared name (each_in type_in s3.checker.table own) scope) two third in
        covers-same refl (append-nil _) (λ i. with_declared name (own_known i) scope) three

    pub makes-local : {s5 : Pass} {value : Option memory_value.Value} (local : memory_local.LocalDef) (void : number.CType) → void.0 ≡ 0 → local.c_type ≡ unwrap_or own void → local.first ≡ value
        → Makes IsOptionalValue (optional_first (scope_of s4.checker) (each_in type_in s4.checker.table own) init) (first_local (scope_of s4.checker) (each_in type_in s4.checker.table own) init) (named_in_first (scope_of s4.checker) init) (scope_of s4.checker) s4 s5 value
        → MakesLocal name here s0 s5 local
    makes-local {s5 = s5} {value = value} local void e is_type is_first last =
        let known = (own_of (scope_of s0.checker) here).known in
        let last' = makes-same (λ i. optional_first (scope_of s4.checker) (own_behind i) init) (λ i. first_local (scope_of s4.checker) (own_behind i) init) refl refl last in
        let whole = makes-behind (λ scope. optional_first scope known init) (λ scope. first_local scope known init) (λ scope. named_in_first scope init) (λ scope. scope) covers_declared last' in
        let kept = all-stay s4.checker.table s5.checker.table last.covers.grows own own-stands in
        let its = or-void s5.checker.table void e own kept.0 in
        makes-of
        (λ h. (
          (subst (λ (t : number.CType). Stands s5.checker.table t) (sym is_type) its.0, subst (λ (v : Option memory_value.Value). OptionalStands s5.checker.table v) (sym is_first) h.0),
          (λ i. record {
            c_type = (ap (type_in s5.checker.table) is_type ∙ its.1 ∙ ap type_or_void (kept.1 ∙ own_behind)) i;
            first = (ap (optional_value_in s5.checker.table) is_first ∙ h.1) i;
          }),
        ))
        whole
