-- What is told of the names of a group is told where its graph goes on.
use Rattle.std.proofs.Common.{◌≡◌, ℕ, Bool, true, false, List, length, Some, refl, sym, ap, subst, ◌∙◌, ◌⊎◌, inl, inr}
use Rattle.std.specs.Prelude.{slice_get, ◌&&◌}
use Rattle.std.proofs.lemmas.Bool.{false≢true, and_parts, lt-ltb}
use Rattle.std.proofs.lemmas.Option.{same_Some, slice_get_within}
use Rattle.c_typed.specs.Types.{CType, literal_type}
use Rattle.c_typed.specs.Layouts.{StructDef}
use Rattle.c_typed.specs.Typed.{GlobalDef, LiteralDef}
use Rattle.tac_ir.specs.Code.{Function, Tac}
use Rattle.tac_ir.specs.States.{Owner}
use Rattle.heap_graph.specs.Graphs.{Flags, Node, Name, OfObject, OfGlobal, OfLiteral, Graph}
use Rattle.heap_graph.specs.Structures.{AreMade}
use Rattle.heap_graph.specs.Targets.{has_target, at_target, is_array, elements_of, implies, flags_kept, marks_kept}
use Rattle.heap_graph.specs.Closed.{is_name}
use Rattle.heap_graph.specs.Merging.{IsSound}
use Rattle.heap_graph.proofs.MapsCompose.{at_some, at_from, target_in}
use Rattle.graph_unification.proofs.Staying.{implied_holds, image_of, certain_kept, held_kept}
use Rattle.graph_unification.proofs.NameKeys.{name_cases}
use Rattle.graph_unification.specs.Adding.{AddsMissing, Added, Had}
use Rattle.graph_unification.specs.GraphNames.First.{object_node, static_flags, formal_at}
use Rattle.graph_unification.specs.Going.{GoesOn}
use Rattle.graph_unification.proofs.Goes.{missing_goes}
use Rattle.graph_unification.proofs.Kept.{names_kept}
use Rattle.dsa_local.specs.Mentioned.{is_among}
use Rattle.dsa_local.specs.Told.{IsObject, FunctionTold, GlobalTold, LiteralTold, StaticsTold, OnlyNames, NamesTold, SameNames}
use Rattle.dsa_local.proofs.Telling.{certain_has, object_of_node}

-- ---- flags

-- what is told of flags is told of more flags
abbrev pub FlagStays : (Flags → Bool) → Type 0
FlagStays has_flag = (a b : Flags) → marks_kept a b ≡ true → has_flag a ≡ true → has_flag b ≡ true

-- what is kept of flags, each by itself
pub record EachKept (a b : Flags) : Type 0 where
  pub stack : implies a.stack b.stack ≡ true
  pub global : implies a.global b.global ≡ true
  pub array : implies a.array b.array ≡ true

pub each_kept : (a b : Flags) → flags_kept a b ≡ true → EachKept a b
each_kept a b h =
    let last = implies a.modified b.modified && implies a.read b.read in
    let stack = and_parts (implies a.stack b.stack) (implies a.global b.global && (implies a.array b.array && last)) (and_parts (implies a.heap b.heap) _ h).1 in
    let global = and_parts (implies a.global b.global) (implies a.array b.array && last) stack.1 in
    record { stack = stack.0; global = global.0; array = (and_parts (implies a.array b.array) last global.1).0 }

marks_each : (a b : Flags) → marks_kept a b ≡ true → EachKept a b
marks_each a b h = each_kept a b (and_parts (implies a.certain b.certain) (flags_kept a b) h).1

stack_stays : FlagStays (λ flags. flags.stack)
stack_stays a b h = implied_holds a.stack b.stack (marks_each a b h).stack

global_stays : FlagStays (λ flags. flags.global)
global_stays a b h = implied_holds a.global b.global (marks_each a b h).global

array_stays : (asked : Bool) → FlagStays (λ flags. implies asked flags.array)
array_stays true a b h is = implied_holds a.array b.array (marks_each a b h).array is
array_stays false a b h is = refl

module _ (structs : List StructDef) (made : AreMade structs) (old new : Graph) (sound : IsSound structs old) (goes : GoesOn structs old new) where
  flag_kept : (name : Name) (has_flag : Flags → Bool) → FlagStays has_flag → has_target (old.targets name) ≡ true → at_target old (old.targets name) (λ node shift. has_flag node.flags) ≡ true
      → at_target new (new.targets name) (λ node shift. has_flag node.flags) ≡ true
  flag_kept name has_flag stays has h =
      let i = image_of structs made old new goes.map sound goes.maps name has in
      let holds : Node → ℕ → Bool = λ node shift. has_flag node.flags in
      let was : has_flag i.node.flags ≡ true = sym (at_some old i.target holds i.node i.is) ∙ (ap (λ t. at_target old t holds) (sym i.at) ∙ h) in
      ap (λ t. at_target new t holds) i.now ∙ at_from new (target_in goes.map i.target i.image) holds i.image i.image_is (stays i.node.flags i.image.flags i.marks was)

  -- an object stays one
  pub object_kept : (name : Name) (c_type : CType) (has_flag : Flags → Bool) → FlagStays has_flag → IsObject structs old c_type has_flag (old.targets name) → IsObject structs new c_type has_flag (new.targets name)
  object_kept name c_type has_flag stays its =
      let has = certain_has old (old.targets name) its.certain in
      record {
        certain = certain_kept structs made old new goes.map sound goes.maps name its.certain;
        part = held_kept structs made old new goes.map sound goes.maps name (elements_of c_type) has its.part;
        flag = flag_kept name has_flag stays has its.flag;
        array = flag_kept name (λ flags. implies (is_array c_type) flags.array) (array_stays (is_array c_type)) has its.array;
      }

-- ---- names

module _ (tac : Tac) (made : AreMade tac.structs) (old new : Graph) (sound : IsSound tac.structs old) (goes : GoesOn tac.structs old new) where
  pub function_kept : (owner : Owner) (function : Function) → FunctionTold tac old owner function → FunctionTold tac new owner function
  function_kept owner function its = record {
    names = names_kept tac made old new sound goes owner function its.names;
    formals = λ called same number c_type is pointer. certain_kept tac.structs made old new goes.map sound goes.maps (formal_at owner number) (its.formals called same number c_type is pointer);
    locals = λ local inner is. object_kept tac.structs made old new sound goes (OfObject owner local) inner.c_type (λ flags. flags.stack) stack_stays (its.locals local inner is);
  }

  -- where it had a target before
  pub global_kept : (number : ℕ) → (has_target (new.targets (OfGlobal number)) ≡ true → has_target (old.targets (OfGlobal number)) ≡ true) → GlobalTold tac old number → GlobalTold tac new number
  global_kept number had its = λ global is has. object_kept tac.structs made old new sound goes (OfGlobal number) global.c_type (λ flags. flags.global) global_stays (its global is (had has))

  pub literal_kept : (number : ℕ) → (has_target (new.targets (OfLiteral number)) ≡ true → has_target (old.targets (OfLiteral number)) ≡ true) → LiteralTold tac old number → LiteralTold tac new number
  literal_kept number had its = λ literal is has. object_kept tac.structs made old new sound goes (OfLiteral number) (literal_type literal.bytes) (λ flags. flags.global) global_stays (its literal is (had has))

  -- where the same names have targets
  pub statics_kept : SameNames old new → StaticsTold tac old → StaticsTold tac new
  statics_kept same its = record {
    globals = λ number. global_kept number (λ has. sym (same (OfGlobal number) refl) ∙ has) (its.globals number);
    literals = λ number. literal_kept number (λ has. sym (same (OfLiteral number) refl) ∙ has) (its.literals number);
  }

  pub told_kept : (owners : List Owner) → SameNames old new → NamesTold tac owners old → NamesTold tac owners new
  told_kept owners same its = record {
    functions = λ owner function among there. function_kept owner function (its.functions owner function among there);
    statics = statics_kept same its.statics;
    only = λ name own has. its.only name own (sym (same name own) ∙ has);
  }

-- ---- a variable outside functions or a literal that is mentioned later

missing_others : (old new : Graph) (name : Name) (node : Node) → AddsMissing old new name node → (other : Name) → (other ≡ name → ⊥) → new.targets other ≡ old.targets other
missing_others old new name node (Added adds) other differs = adds.names other differs
missing_others old new name node (Had target is same) other differs = ap (λ (g : Graph). g.targets other) same

only_missing : (tac : Tac) (owners : List Owner) (old new : Graph) (name : Name) (node : Node) → AddsMissing old new name node → is_name tac (λ owner. is_among owner owners) name ≡ true
    → OnlyNames tac owners old → OnlyNames tac owners new
only_missing tac owners old new name node adds its only other own has = by (name_cases name other)
  where
    by : (other ≡ name) ⊎ (other ≡ name → ⊥) → is_name tac (λ owner. is_among owner owners) other ≡ true
    by (inl same) = subst (λ n. is_name tac (λ owner. is_among owner owners) n ≡ true) (sym same) its
    by (inr differs) = only other own (ap has_target (sym (missing_others old new name node adds other differs)) ∙ has)

-- it is told of, and all other names as before
module _ (tac : Tac) (made : AreMade tac.structs) (owners : List Owner) (old new : Graph) (sound : IsSound tac.structs old) where
  object_missing : (name : Name) (c_type : CType) → AddsMissing old new name (object_node c_type (static_flags c_type))
      → (has_target (old.targets name) ≡ true → IsObject tac.structs old c_type (λ flags. flags.global) (old.targets name)) → IsObject tac.structs new c_type (λ flags. flags.global) (new.targets name)
  object_missing name c_type (Added adds) before =
      object_of_node tac.structs made new name adds.number c_type (static_flags c_type) (λ flags. flags.global) adds.target adds.at refl refl refl
  object_missing name c_type (Had target is same) before =
      object_kept tac.structs made old new sound (missing_goes tac.structs made old new name (object_node c_type (static_flags c_type)) sound (Had target is same)) name c_type (λ flags. flags.global) global_stays
      (before (ap has_target is))

  pub global_told : (number : ℕ) (global : GlobalDef) → slice_get tac.globals number ≡ Some global → AddsMissing old new (OfGlobal number) (object_node global.c_type (static_flags global.c_type))
      → NamesTold tac owners old → NamesTold tac owners new
  global_told number global is adds told = record {
    functions = λ owner function among there. function_kept tac made old new sound goes owner function (told.functions owner function among there);
    statics = record {
      globals = λ other. of_global other (name_cases (OfGlobal number) (OfGlobal other));
      literals = λ other. literal_kept tac made old new sound goes other
          (λ has. ap has_target (sym (missing_others old new (OfGlobal number) node adds (OfLiteral other) (λ same. not_global other same))) ∙ has) (told.statics.literals other);
    };
    only = only_missing tac owners old new (OfGlobal number) node adds (lt-ltb number (length tac.globals) (slice_get_within tac.globals number global is)) told.only;
  }
    where
      node : Node
      node = object_node global.c_type (static_flags global.c_type)

      goes : GoesOn tac.structs old new
      goes = missing_goes tac.structs made old new (OfGlobal number) node sound adds

      is_global_name : Name → Bool
      is_global_name (OfGlobal n) = true
      is_global_name name = false

      not_global : (n : ℕ) → OfLiteral n ≡ OfGlobal number → ⊥
      not_global n e = false≢true (ap is_global_name e)

      number_in : Name → ℕ
      number_in (OfGlobal n) = n
      number_in name = 0

      of_global : (other : ℕ) → (OfGlobal other ≡ OfGlobal number) ⊎ (OfGlobal other ≡ OfGlobal number → ⊥) → GlobalTold tac new other
      of_global other (inr differs) =
          global_kept tac made old new sound goes other (λ has. ap has_target (sym (missing_others old new (OfGlobal number) node adds (OfGlobal other) differs)) ∙ has) (told.statics.globals other)
      of_global other (inl same) = subst (GlobalTold tac new) (sym (ap number_in same)) (λ its there has.
          subst (λ (d : GlobalDef). IsObject tac.structs new d.c_type (λ flags. flags.global) (new.targets (OfGlobal number))) (same_Some global its (sym is ∙ there))
          (object_missing (OfGlobal number) global.c_type adds (told.statics.globals number global is)))

  pub literal_told : (number : ℕ) (literal : LiteralDef) → slice_get tac.literals number ≡ Some literal
      → AddsMissing old new (OfLiteral number) (object_node (literal_type literal.bytes) (static_flags (literal_type literal.bytes))) → NamesTold tac owners old → NamesTold tac owners new
  literal_told number literal is adds told = record {
    functions = λ owner function among there. function_kept tac made old new sound goes owner function (told.functions owner function among there);
    statics = record {
      globals = λ other. global_kept tac made old new sound goes other
          (λ has. ap has_target (sym (missing_others old new (OfLiteral number) node adds (OfGlobal other) (λ same. not_literal other same))) ∙ has) (told.statics.globals other);
      literals = λ other. of_literal other (name_cases (OfLiteral number) (OfLiteral other));
    };
    only = only_missing tac owners old new (OfLiteral number) node adds (lt-ltb number (length tac.literals) (slice_get_within tac.literals number literal is)) told.only;
  }
    where
      node : Node
      node = object_node (literal_type literal.bytes) (static_flags (literal_type literal.bytes))

      goes : GoesOn tac.structs old new
      goes = missing_goes tac.structs made old new (OfLiteral number) node sound adds

      is_literal_name : Name → Bool
      is_literal_name (OfLiteral n) = true
      is_literal_name name = false

      not_literal : (n : ℕ) → OfGlobal n ≡ OfLiteral number → ⊥
      not_literal n e = false≢true (ap is_literal_name e)

      number_in : Name → ℕ
      number_in (OfLiteral n) = n
      number_in name = 0

      of_literal : (other : ℕ) → (OfLiteral other ≡ OfLiteral number) ⊎ (OfLiteral other ≡ OfLiteral number → ⊥) → LiteralTold tac new other
      of_literal other (inr differs) =
          literal_kept tac made old new sound goes other (λ has. ap has_target (sym (missing_others old new (OfLiteral number) node adds (OfLiteral other) differs)) ∙ has) (told.statics.literals other)
      of_literal other (inl same) = subst (LiteralTold tac new) (sym (ap number_in same)) (λ its there has.
          subst (λ (d : LiteralDef). IsObject tac.structs new (literal_type d.bytes) (λ flags. flags.global) (new.targets (OfLiteral number))) (same_Some literal its (sym is ∙ there))
          (object_missing (OfLiteral number) (literal_type literal.bytes) adds (told.statics.literals number literal is)))
