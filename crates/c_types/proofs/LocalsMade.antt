-- The locals of a declaration, one after another.
use Rattle.std.proofs.Common.{◌≡◌, List, [], ◌∷◌, ◌++◌, map, Option, Vec, refl, sym, ap, subst, ◌∙◌}
use Rattle.std.proofs.Common.{append-nil, append_assoc}
use Rattle.run_theory.specs.declared.place.Pos.{Pos}
use Rattle.c_syntax.specs.Trees.{InitDeclaratorTree}
use Rattle.c_typed.specs.declared.c_type.CType as number
use Rattle.c_typed.specs.declared.statement.LocalDef as memory_local
use Rattle.c_typed.specs.declared.statement.BlockItem as memory_item
use Rattle.c_typed.specs.declared.statement.BlockItem.TheVariants as B
use Rattle.c_typed.specs.Types.{CType}
use Rattle.c_typed.specs.Typed as typed
use Rattle.c_typed.specs.Table.{Interned, Stands, type_in}
use Rattle.c_typed.specs.StatementViews.{local_in, LocalStands, LocalsStand, block_in, BlockStands}
use Rattle.c_typed.proofs.StatementsStay.{locals_stay}
use Rattle.c_rules.specs.declared.violation.Violation.{Violation}
use Rattle.c_rules.specs.Names.{Scope}
use Rattle.c_rules.specs.Expressions.{words_type}
use Rattle.c_rules.specs.Statements.{declare_local, declare_locals}
use Rattle.c_rules.specs.Elaborated.{local_of, locals_of, declare_each}
use Rattle.c_types_state.specs.NameTables.{State, scope_of}
use Rattle.c_types_state.specs.Finding.{Finds, AllStand, IsType, each_in}
use Rattle.c_types_state.proofs.Findings.{seen-known}
use Rattle.c_types_expressions.specs.declared.pass.Pass.{Pass}
use Rattle.c_types_expressions.proofs.Giving.{stands-now}
use Rattle.c_types_expressions.proofs.Passing.{with_checker}
use Rattle.c_rules.specs.NamedItems.{named_in_local, named_in_locals}
use Rattle.c_types.specs.Made.{Makes, IsLocal, IsLocals, AddsItems}
use Rattle.c_types.proofs.Covering.{covers-then, covers-same, covers-finds}
use Rattle.c_types.proofs.DeclaredLocals.{all-stay}

-- ---- one more declarator

module _ (place : Pos) (base : Option CType) (d : InitDeclaratorTree) where
  more-scope : (ds : List InitDeclaratorTree) (scope : Scope) → (declare_locals place base (ds ++ d ∷ []) scope).scope ≡ (declare_local place base d (declare_locals place base ds scope).scope).scope
  more-scope [] scope = refl
  more-scope (first ∷ ds) scope = more-scope ds (declare_local place base first scope).scope

  more-found : (ds : List InitDeclaratorTree) (scope : Scope) → (declare_locals place base (ds ++ d ∷ []) scope).found ≡ (declare_locals place base ds scope).found ++ (declare_local place base d (declare_locals place base ds scope).scope).found
  more-found [] scope = append-nil _
  more-found (first ∷ ds) scope =
      let one = declare_local place base first scope in
      ap (λ xs. one.found ++ xs) (more-found ds one.scope) ∙ sym (append_assoc one.found (declare_locals place base ds one.scope).found _)

  more-named : (ds : List InitDeclaratorTree) (scope : Scope) → named_in_locals place base (ds ++ d ∷ []) scope ≡ named_in_locals place base ds scope ++ named_in_local place base d (declare_locals place base ds scope).scope
  more-named [] scope = append-nil _
  more-named (first ∷ ds) scope =
      let one = declare_local place base first scope in
      ap (λ xs. named_in_local place base first scope ++ xs) (more-named ds one.scope) ∙ sym (append_assoc (named_in_local place base first scope) (named_in_locals place base ds one.scope) _)

  more-locals : (ds : List InitDeclaratorTree) (scope : Scope) → locals_of place base (ds ++ d ∷ []) scope ≡ locals_of place base ds scope ++ local_of place base d (declare_locals place base ds scope).scope ∷ []
  more-locals [] scope = refl
  more-locals (first ∷ ds) scope = ap (λ ls. local_of place base first scope ∷ ls) (more-locals ds (declare_local place base first scope).scope)

module _ (table : Interned) (local : memory_local.LocalDef) where
  more-stand : (locals : List memory_local.LocalDef) → LocalsStand table locals → LocalStands table local → LocalsStand table (locals ++ local ∷ [])
  more-stand [] h one = (one, tt)
  more-stand (first ∷ locals) h one = (h.0, more-stand locals h.1 one)

  more-seen : (locals : List memory_local.LocalDef) → map (local_in table) (locals ++ local ∷ []) ≡ map (local_in table) locals ++ local_in table local ∷ []
  more-seen [] = refl
  more-seen (first ∷ locals) = ap (λ ls. local_in table first ∷ ls) (more-seen locals)

-- ---- those so far

-- what was made of these declarators, and the type of the words still stands
pub record LocalsSoFar {Z : Type 0} (words : List Violation) (place : Pos) (base : Option CType) (ds : List InitDeclaratorTree) (t : Option number.CType) (old new : Pass) (locals : Vec memory_local.LocalDef Z) : Type 0 where
  pub makes : Makes IsLocals (words ++ (declare_locals place base ds (scope_of old.checker)).found) (locals_of place base ds (scope_of old.checker)) (named_in_locals place base ds (scope_of old.checker)) (declare_locals place base ds (scope_of old.checker)).scope old new locals
  pub stands : AllStand Stands new.checker.table t
  pub known : each_in type_in new.checker.table t ≡ base

module _ {Z : Type 0} (place : Pos) where
  pub so_far-none : {s : Pass} {c1 : State} {t : Option number.CType} (words : _) (locals : Vec memory_local.LocalDef Z) → locals.items ≡ [] → Finds IsType (words_type (scope_of s.checker) words) s.checker c1 t → LocalsSoFar (words_type (scope_of s.checker) words).found place (words_type (scope_of s.checker) words).known [] t s (with_checker s c1) locals
  so_far-none {s = s} {c1 = c1} {t = t} words locals e finds =
      record {
        makes = record {
          covers = covers-same (sym (append-nil (words_type (scope_of s.checker) words).found)) refl refl (covers-finds {s = s} {t = with_checker s c1} finds refl);
          made = (subst (λ (ls : List memory_local.LocalDef). LocalsStand c1.table ls) (sym e) tt, ap (map (local_in c1.table)) e);
        };
        stands = stands-now Stands type_in finds;
        known = seen-known Stands type_in c1.table t (words_type (scope_of s.checker) words).known finds.known;
      }

  pub so_far-more : {words : List Violation} {base : Option CType} {t : Option number.CType} {old now new : Pass} (ds : List InitDeclaratorTree) (d : InitDeclaratorTree) (locals locals' : Vec memory_local.LocalDef Z) (local : memory_local.LocalDef) → locals'.items ≡ locals.items ++ local ∷ []
      → LocalsSoFar words place base ds t old now locals
      → Makes IsLocal (declare_local place (each_in type_in now.checker.table t) d (scope_of now.checker)).found (local_of place (each_in type_in now.checker.table t) d (scope_of now.checker)) (named_in_local place (each_in type_in now.checker.table t) d (scope_of now.checker)) (declare_local place (each_in type_in now.checker.table t) d (scope_of now.checker)).scope now new local
      → LocalsSoFar words place base (ds ++ d ∷ []) t old new locals'
  so_far-more {words = words} {base = base} {t = t} {old = old} {now = now} {new = new} ds d locals locals' local e far one =
      let scope = scope_of old.checker in
      let all = declare_locals place base ds scope in
      let one' = subst (λ (base : Option CType). Makes IsLocal (declare_local place base d (scope_of now.checker)).found (local_of place base d (scope_of now.checker)) (named_in_local place base d (scope_of now.checker)) (declare_local place base d (scope_of now.checker)).scope now new local) far.known one in
      let covers = covers-then (λ scope. (declare_local place base d scope).found) (λ scope. named_in_local place base d scope) (λ scope. (declare_local place base d scope).scope) far.makes.covers one'.covers in
      let table = new.checker.table in
      let kept = locals_stay now.checker.table table one'.covers.grows locals.items far.makes.made.0 in
      let types = all-stay now.checker.table table one'.covers.grows t far.stands in
      let its : local_in table local ≡ local_of place base d all.scope = one'.made.1 ∙ ap (λ (scope : Scope). local_of place base d scope) far.makes.covers.scope in
      record {
        makes = record {
          covers = covers-same (append_assoc words all.found _ ∙ ap (λ xs. words ++ xs) (sym (more-found place base d ds scope))) (sym (more-named place base d ds scope)) (sym (more-scope place base d ds scope)) covers;
          made = (
            subst (λ (ls : List memory_local.LocalDef). LocalsStand table ls) (sym e) (more-stand table local locals.items kept.0 one'.made.0),
            ap (map (local_in table)) e ∙ more-seen table local locals.items ∙ (λ i. (kept.1 ∙ far.makes.made.1) i ++ its i ∷ []) ∙ sym (more-locals place base d ds scope),
          );
        };
        stands = types.0;
        known = types.1 ∙ far.known;
      }

-- ---- as items of a block

items-stand : (table : Interned) (locals : List memory_local.LocalDef) → LocalsStand table locals → BlockStands table (map B.Local locals)
items-stand table [] h = tt
items-stand table (first ∷ locals) h = (h.0, items-stand table locals h.1)

items-mean : (table : Interned) (locals : List memory_local.LocalDef) (more : List memory_item.BlockItem) → block_in table (map B.Local locals ++ more) ≡ declare_each (map (local_in table) locals) (block_in table more)
items-mean table [] more = refl
items-mean table (first ∷ locals) more = ap (λ (rest : typed.Block). typed.Declare (local_in table first) rest) (items-mean table locals more)

pub adds-locals : {table : Interned} {old new : List memory_item.BlockItem} {ls : List typed.LocalDef} (locals : List memory_local.LocalDef) → LocalsStand table locals → map (local_in table) locals ≡ ls → new ≡ old ++ map B.Local locals → AddsItems (declare_each ls) table old new
adds-locals {table = table} locals h e is =
    record { added = map B.Local locals; is = is; stand = items-stand table locals h; means = λ more. items-mean table locals more ∙ ap (λ ls. declare_each ls (block_in table more)) e }
