-- What is made of a declarator outside functions.
use Rattle.std.proofs.Common.{◌≡◌, Bool, false, List, [], ◌∷◌, ◌++◌, Option, Some, None, Vec, Global, refl, sym, ap, subst, ◌∙◌}
use Rattle.std.proofs.Common.{append-nil, option_map, is_some}
use Rattle.run_theory.specs.declared.place.Pos.{Pos}
use Rattle.c_syntax.specs.declared.declaration.Init as memory_init
use Rattle.c_syntax.specs.Views.{init_tree}
use Rattle.c_syntax.specs.Trees.{NameTree, InitTree, InitDeclaratorTree}
use Rattle.c_typed.specs.declared.c_type.CType as number
use Rattle.c_typed.specs.declared.typed.Value as memory_value
use Rattle.c_typed.specs.declared.definition.First as memory_first
use Rattle.c_typed.specs.Types
use Rattle.c_typed.specs.Types.{CType}
use Rattle.c_typed.specs.Typed.{GlobalDef}
use Rattle.c_typed.specs.Table.{Interned, Stands, type_in}
use Rattle.c_typed.specs.DefinitionViews.{all_first}
use Rattle.c_typed.proofs.Grown.{stays}
use Rattle.c_rules.specs.Names.{Scope}
use Rattle.c_rules.specs.declared.rule.TypeRule.TheVariants as T
use Rattle.c_rules.specs.Known.{Checked, given, with_known, unless}
use Rattle.c_rules.specs.Expressions.{LengthRole, declared_type, declared_name}
use Rattle.c_rules.specs.Initializers.{first_of}
use Rattle.c_rules.specs.Programs.{Filed, declare_outside, role_of, has_first, first_rules, file_declarator, file_declarators}
use Rattle.c_rules.specs.Elaborated.{held_of, first_held, global_of, declared_global, declared_globals, each_global}
use Rattle.c_types_state.specs.NameTables.{State, scope_of}
use Rattle.c_types_state.specs.Finding.{Finds, AllStand, IsType, each_in, noted}
use Rattle.c_types_state.proofs.Findings.{seen-known, finds-also, finds-give}
use Rattle.c_types_expressions.specs.declared.pass.Pass.{Pass}
use Rattle.c_rules.specs.Named.{NamedType, named_at, named_in_declarator}
use Rattle.c_types_expressions.specs.Passes.{Names, Passes}
use Rattle.c_types_expressions.proofs.Giving.{stands-now}
use Rattle.c_types_expressions.proofs.Passing.{passes-one, with_checker}
use Rattle.c_types.specs.declared.defined.Defined.{Defined}
use Rattle.c_types.specs.declared.initializers.Target.{Target}
use Rattle.c_rules.specs.NamedItems.{named_in_init, named_in_first, named_in_file_declarator, named_in_file_declarators}
use Rattle.c_types.specs.Made.{Covers, Makes, IsFirst}
use Rattle.c_types.specs.FirstValues.{HoldsFirst}
use Rattle.c_types.specs.InitialValues.{AddsValues, optional_values, declarator_values, declarators_values}
use Rattle.c_types.specs.Outside.{HasDefined, outside_rule, body_rule}
use Rattle.c_types.proofs.Covering.{covers-none, covers-then, covers-same, covers-passes, covers-named, makes-same, makes-behind}
use Rattle.c_types.proofs.Filed.{each_stays}
use Rattle.c_types.proofs.KeptValues.{ValuesFar, adds-same, kept-more, kept-all}
use Rattle.c_types.proofs.DefinedStays.{Defines, defined_stays, each_global-append}

-- ---- a name that is declared

module _ (part : Scope → Checked CType) (rule : Scope → CType → Checked CType) (ns : Scope → List NamedType) (name : NameTree) (has_init has_body : Bool) where
  abbrev pub own_of : Scope → Checked CType
  own_of scope = given (part scope) (rule scope)

  abbrev pub filed_of : Scope → Filed
  filed_of scope = declare_outside name (own_of scope).known has_init has_body scope

  module _ {s0 s1 s3 s4 : Pass} {c2 : State} {declared own : Option number.CType}
      (first : Passes IsType (part (scope_of s0.checker)) (ns (scope_of s0.checker)) s0 s1 declared)
      (second : Finds IsType (with_known (each_in type_in s1.checker.table declared) (rule (scope_of s1.checker))) s1.checker c2 own)
      (same : s3.checker ≡ c2) (names : Names (named_at name.place (each_in type_in c2.table own)) c2.table s1.named.items s3.named.items)
      (third : Covers (declare_outside name (each_in type_in s3.checker.table own) has_init has_body (scope_of s3.checker)).found [] (declare_outside name (each_in type_in s3.checker.table own) has_init has_body (scope_of s3.checker)).scope s3 s4) where
    own_passes : Passes IsType (own_of (scope_of s0.checker)) (ns (scope_of s0.checker)) s0 (with_checker s1 c2) own
    own_passes = passes-one Stands type_in part rule ns first second

    own_now : each_in type_in c2.table own ≡ (own_of (scope_of s0.checker)).known
    own_now = seen-known Stands type_in c2.table own _ own_passes.finds.known

    own_known : each_in type_in s3.checker.table own ≡ (own_of (scope_of s0.checker)).known
    own_known = ap (λ (state : State). each_in type_in state.table own) same ∙ own_now

    own_stands : AllStand Stands s3.checker.table own
    own_stands = subst (λ (state : State). AllStand Stands state.table own) (sym same) (stands-now Stands type_in own_passes.finds)

    -- its type still stands
    pub outside-stands : AllStand Stands s4.checker.table own
    outside-stands = (each_stays s3.checker.table s4.checker.table third.grows own own_stands).0

    pub outside-known : each_in type_in s4.checker.table own ≡ (own_of (scope_of s0.checker)).known
    outside-known = (each_stays s3.checker.table s4.checker.table third.grows own own_stands).1 ∙ own_known

    -- and this was gone over
    pub outside-covers : Covers ((own_of (scope_of s0.checker)).found ++ (filed_of (scope_of s0.checker)).found) (ns (scope_of s0.checker) ++ named_at name.place (own_of (scope_of s0.checker)).known) (filed_of (scope_of s0.checker)).scope s0 s4
    outside-covers =
        let scope = scope_of s0.checker in
        let its = own_of scope in
        let one = covers-then (λ _. []) (λ _. named_at name.place (each_in type_in c2.table own)) (λ scope. scope) (covers-passes own_passes) (covers-named {s = with_checker s1 c2} {t = s3} same names) in
        let two = covers-same (append-nil its.found) (λ i. ns scope ++ named_at name.place (own_now i)) refl one in
        let filed : Scope → Filed = λ scope. declare_outside name (each_in type_in s3.checker.table own) has_init has_body scope in
        let three = covers-then (λ scope. (filed scope).found) (λ _. []) (λ scope. (filed scope).scope) two third in
        covers-same (λ i. its.found ++ (declare_outside name (own_known i) has_init has_body scope).found) (append-nil _) (λ i. (declare_outside name (own_known i) has_init has_body scope).scope) three

-- a type that was found stands, and stays
module _ {s t : State} {part : Checked CType} {own : Option number.CType} (finds : Finds IsType part s t own) where
  pub found-stands : AllStand Stands t.table own
  found-stands = stands-now Stands type_in finds

  pub found-kept : {u : State} → u ≡ t → AllStand Stands u.table own
  found-kept {u = u} same = subst (λ (state : State). AllStand Stands state.table own) (sym same) found-stands

-- a type that has a body is noted where it is no function, and stays
pub body-found : {s t : State} (here : Pos) (asked : Option number.CType) (c_type : number.CType) (is_function : Bool) → asked ≡ Some c_type → AllStand Stands s.table asked → is_function ≡ Types.is_function (type_in s.table c_type)
    → t ≡ record s { least = noted s.least (unless is_function T.T05 here) } → Finds IsType (with_known (each_in type_in s.table asked) (body_rule here)) s t (Some c_type)
body-found {s = s} {t = t} here asked c_type is_function is stands same told =
    let violations = unless (Types.is_function (type_in s.table c_type)) T.T05 here in
    let there : State = record s { least = noted s.least violations } in
    let stand : Stands s.table c_type = subst (AllStand Stands s.table) is stands in
    subst (λ (asked : Option number.CType). Finds IsType (with_known (each_in type_in s.table asked) (body_rule here)) s t (Some c_type)) (sym is)
    (subst (λ (state : State). Finds IsType (body_rule here (type_in s.table c_type)) s state (Some c_type)) (sym (told ∙ ap (λ b. record s { least = noted s.least (unless b T.T05 here) }) same))
    (finds-also {t = there} violations refl (finds-give (stand, refl))))

-- ---- first values

-- none
pub first-none : {s : Pass} {Z : Type 0} (first : Vec memory_first.First Z) → first.items ≡ [] → Makes IsFirst [] [] [] (scope_of s.checker) s s first
first-none {s = s} first none = record { covers = covers-none s; made = ap all_first none }

-- those of an initializer
pub first-some : {s t : Pass} (c_type : Option CType) (init : InitTree) (target target' : Target) → target.parts.items ≡ [] → target.first.items ≡ []
    → Covers (first_of (scope_of s.checker) c_type init) (named_in_init (scope_of s.checker) init) (scope_of s.checker) s t
    → HoldsFirst (held_of (scope_of s.checker) target.parts.items 0 c_type init) target target'
    → Makes IsFirst (first_of (scope_of s.checker) c_type init) (held_of (scope_of s.checker) [] 0 c_type init) (named_in_init (scope_of s.checker) init) (scope_of s.checker) s t target'.first
first-some {s = s} c_type init target target' no_parts no_first covers holds =
    record {
      covers = covers;
      made = holds.first ∙ (λ i. all_first (no_first i) ++ held_of (scope_of s.checker) (no_parts i) 0 c_type init);
    }

-- ---- a declarator

pub has_first-some : (init : Option memory_init.Init) → is_some init ≡ has_first (option_map init_tree init)
has_first-some None = refl
has_first-some (Some init) = refl

module _ (base : Option CType) (tree : InitDeclaratorTree) (name : NameTree) where
  abbrev type_part : Scope → Checked CType
  type_part scope = declared_type scope name.place (role_of tree.init) base tree.declarator

  abbrev outside_part : Scope → CType → Checked CType
  outside_part scope = outside_rule scope name.place

  abbrev type_names : Scope → List NamedType
  type_names scope = named_in_declarator scope tree.declarator

  abbrev its_type : Scope → Checked CType
  its_type scope = own_of type_part outside_part type_names name (has_first tree.init) false scope

  abbrev its_file : Scope → Filed
  its_file scope = filed_of type_part outside_part type_names name (has_first tree.init) false scope

  module _ (role : LengthRole) (has_init : Bool) (same_role : role ≡ role_of tree.init) (same_init : has_init ≡ has_first tree.init) {s0 s1 s3 s4 : Pass} {c2 : State} {declared own : Option number.CType}
      (first : Passes IsType (declared_type (scope_of s0.checker) name.place role base tree.declarator) (named_in_declarator (scope_of s0.checker) tree.declarator) s0 s1 declared)
      (second : Finds IsType (with_known (each_in type_in s1.checker.table declared) (outside_rule (scope_of s1.checker) name.place)) s1.checker c2 own)
      (same : s3.checker ≡ c2) (names : Names (named_at name.place (each_in type_in c2.table own)) c2.table s1.named.items s3.named.items)
      (third : Covers (declare_outside name (each_in type_in s3.checker.table own) has_init false (scope_of s3.checker)).found [] (declare_outside name (each_in type_in s3.checker.table own) has_init false (scope_of s3.checker)).scope s3 s4) where
    first' : Passes IsType (type_part (scope_of s0.checker)) (type_names (scope_of s0.checker)) s0 s1 declared
    first' = subst (λ (role : LengthRole). Passes IsType (declared_type (scope_of s0.checker) name.place role base tree.declarator) (type_names (scope_of s0.checker)) s0 s1 declared) same_role first

    third' : Covers (declare_outside name (each_in type_in s3.checker.table own) (has_first tree.init) false (scope_of s3.checker)).found [] (declare_outside name (each_in type_in s3.checker.table own) (has_first tree.init) false (scope_of s3.checker)).scope s3 s4
    third' = subst (λ (b : Bool). Covers (declare_outside name (each_in type_in s3.checker.table own) b false (scope_of s3.checker)).found [] (declare_outside name (each_in type_in s3.checker.table own) b false (scope_of s3.checker)).scope s3 s4) same_init third

    pub declared-stands : AllStand Stands s4.checker.table own
    declared-stands = outside-stands type_part outside_part type_names name (has_first tree.init) false first' second same names third'

    declared_known : each_in type_in s4.checker.table own ≡ (its_type (scope_of s0.checker)).known
    declared_known = outside-known type_part outside_part type_names name (has_first tree.init) false first' second same names third'

    declared_covers : Covers ((its_type (scope_of s0.checker)).found ++ (its_file (scope_of s0.checker)).found) (type_names (scope_of s0.checker) ++ named_at name.place (its_type (scope_of s0.checker)).known) (its_file (scope_of s0.checker)).scope s0 s4
    declared_covers = outside-covers type_part outside_part type_names name (has_first tree.init) false first' second same names third'

    -- its expressions that were kept
    pub declarator-keeps : (s5 : Pass) {before after : List memory_value.Value} → AddsValues (optional_values (scope_of s4.checker) tree.init) s5.checker.table before after → AddsValues (declarator_values (scope_of s0.checker) base tree (Some name)) s5.checker.table before after
    declarator-keeps s5 adds = adds-same (ap (λ scope. optional_values scope tree.init) declared_covers.scope) adds

    module _ {s5 : Pass} {values : Vec memory_first.First Global}
        (makes : Makes IsFirst (first_rules (scope_of s4.checker) (each_in type_in s4.checker.table own) tree.init) (first_held (scope_of s4.checker) (each_in type_in s4.checker.table own) tree.init) (named_in_first (scope_of s4.checker) tree.init) (scope_of s4.checker) s4 s5 values) where
      whole : Makes IsFirst (file_declarator (scope_of s0.checker) name.place base tree (Some name)).found (first_held (file_declarator (scope_of s0.checker) name.place base tree (Some name)).scope (its_type (scope_of s0.checker)).known tree.init) (named_in_file_declarator (scope_of s0.checker) base tree (Some name)) (file_declarator (scope_of s0.checker) name.place base tree (Some name)).scope s0 s5 values
      whole =
          let known = (its_type (scope_of s0.checker)).known in
          makes-behind (λ scope. first_rules scope known tree.init) (λ scope. first_held scope known tree.init) (λ scope. named_in_first scope tree.init) (λ scope. scope) declared_covers
          (makes-same (λ i. first_rules (scope_of s4.checker) (declared_known i) tree.init) (λ i. first_held (scope_of s4.checker) (declared_known i) tree.init) refl refl makes)

      pub declarator-covers : (place : Pos) → Covers (file_declarator (scope_of s0.checker) place base tree (Some name)).found (named_in_file_declarator (scope_of s0.checker) base tree (Some name)) (file_declarator (scope_of s0.checker) place base tree (Some name)).scope s0 s5
      declarator-covers place = whole.covers

      pub declarator-stands : AllStand Stands s5.checker.table own
      declarator-stands = (each_stays s4.checker.table s5.checker.table makes.covers.grows own declared-stands).0

      pub declarator-defines : (old new : Defined) → Defines s5.checker.table old s5.checker.table new (global_of name (each_in type_in s5.checker.table own) (all_first values.items)) → Defines s0.checker.table old s5.checker.table new (declared_global (scope_of s0.checker) base tree (Some name))
      declarator-defines old new defines globals functions h =
          let known = (each_stays s4.checker.table s5.checker.table makes.covers.grows own declared-stands).1 ∙ declared_known in
          subst (λ (more : List GlobalDef). HasDefined s5.checker.table new (each_global globals more) functions) (λ i. global_of name (known i) (whole.made i))
          (defines globals functions (defined_stays s0.checker.table s5.checker.table whole.covers.grows old globals functions h))

-- ---- declarators, one after another

-- What is covered and defined of the declarators that are left is covered and defined of all.
pub record FilesFar (base : Option CType) (t : Option number.CType) (all : List InitDeclaratorTree) (old : Pass) (defined : Defined) (left : List InitDeclaratorTree) (now : Pass) (defined_now : Defined) : Type 0 where
  pub stands : AllStand Stands now.checker.table t
  pub known : each_in type_in now.checker.table t ≡ base
  pub covers : (place : Pos) (new : Pass) → Covers (file_declarators (scope_of now.checker) place base left).found (named_in_file_declarators (scope_of now.checker) place base left) (file_declarators (scope_of now.checker) place base left).scope now new
      → Covers (file_declarators (scope_of old.checker) place base all).found (named_in_file_declarators (scope_of old.checker) place base all) (file_declarators (scope_of old.checker) place base all).scope old new
  pub defines : (place : Pos) (table : Interned) (defined_new : Defined) → Defines now.checker.table defined_now table defined_new (declared_globals (scope_of now.checker) place base left) → Defines old.checker.table defined table defined_new (declared_globals (scope_of old.checker) place base all)

pub files-start : (t : Option number.CType) (all : List InitDeclaratorTree) (old : Pass) (defined : Defined) → AllStand Stands old.checker.table t → FilesFar (each_in type_in old.checker.table t) t all old defined all old defined
files-start t all old defined stands =
    record {
      stands = stands;
      known = refl;
      covers = λ place new behind. behind;
      defines = λ place table defined_new behind. behind;
    }

pub files-more : {base : Option CType} {t : Option number.CType} {all : List InitDeclaratorTree} {old now new : Pass} {defined defined_now defined_new : Defined} (left rest : List InitDeclaratorTree) (d : InitDeclaratorTree) → left ≡ d ∷ rest
    → ((place : Pos) → Covers (file_declarator (scope_of now.checker) place (each_in type_in now.checker.table t) d (declared_name d.declarator)).found (named_in_file_declarator (scope_of now.checker) (each_in type_in now.checker.table t) d (declared_name d.declarator)) (file_declarator (scope_of now.checker) place (each_in type_in now.checker.table t) d (declared_name d.declarator)).scope now new)
    → Defines now.checker.table defined_now new.checker.table defined_new (declared_global (scope_of now.checker) (each_in type_in now.checker.table t) d (declared_name d.declarator))
    → FilesFar base t all old defined left now defined_now → FilesFar base t all old defined rest new defined_new
files-more {base = base} {t = t} {all = all} {old = old} {now = now} {new = new} {defined = defined} {defined_now = defined_now} {defined_new = defined_new} left rest d is one defines far =
    let scope = scope_of now.checker in
    let name = declared_name d.declarator in
    let one' : (place : Pos) → Covers (file_declarator scope place base d name).found (named_in_file_declarator scope base d name) (file_declarator scope place base d name).scope now new =
    λ place. subst (λ (base : Option CType). Covers (file_declarator scope place base d name).found (named_in_file_declarator scope base d name) (file_declarator scope place base d name).scope now new) far.known (one place) in
    let defines' : Defines now.checker.table defined_now new.checker.table defined_new (declared_global scope base d name) =
    subst (λ (base : Option CType). Defines now.checker.table defined_now new.checker.table defined_new (declared_global scope base d name)) far.known defines in
    let grows = (one' (record { line = 1; column = 1 })).grows in
    let kept = each_stays now.checker.table new.checker.table grows t far.stands in
    record {
      stands = kept.0;
      known = kept.1 ∙ far.known;
      covers = λ place last behind. far.covers place last
          (subst (λ (left : List InitDeclaratorTree). Covers (file_declarators scope place base left).found (named_in_file_declarators scope place base left) (file_declarators scope place base left).scope now last) (sym is)
          (covers-then (λ scope. (file_declarators scope place base rest).found) (λ scope. named_in_file_declarators scope place base rest) (λ scope. (file_declarators scope place base rest).scope) (one' place) behind));
      defines = λ place table defined_last behind. far.defines place table defined_last
          (subst (λ (left : List InitDeclaratorTree). Defines now.checker.table defined_now table defined_last (declared_globals scope place base left)) (sym is)
          (λ globals functions h.
          let mine = declared_global scope base d name in
          let others = declared_globals (file_declarator scope place base d name).scope place base rest in
          subst (λ (variables : List GlobalDef). HasDefined table defined_last variables functions) (sym (each_global-append globals mine others))
          (subst (λ (scope : Scope). HasDefined table defined_last (each_global (each_global globals mine) (declared_globals scope place base rest)) functions) (one' place).scope
          (behind (each_global globals mine) functions (defines' globals functions h)))));
    }

module _ {base : Option CType} {t : Option number.CType} {all : List InitDeclaratorTree} {old now : Pass} {defined defined_now : Defined} (left : List InitDeclaratorTree) (is : left ≡ []) (far : FilesFar base t all old defined left now defined_now) where
  pub files-covers : (place : Pos) → Covers (file_declarators (scope_of old.checker) place base all).found (named_in_file_declarators (scope_of old.checker) place base all) (file_declarators (scope_of old.checker) place base all).scope old now
  files-covers place = far.covers place now
      (subst (λ (left : List InitDeclaratorTree). Covers (file_declarators (scope_of now.checker) place base left).found (named_in_file_declarators (scope_of now.checker) place base left) (file_declarators (scope_of now.checker) place base left).scope now now) (sym is) (covers-none now))

  pub files-defines : (place : Pos) → Defines old.checker.table defined now.checker.table defined_now (declared_globals (scope_of old.checker) place base all)
  files-defines place = far.defines place now.checker.table defined_now
      (subst (λ (left : List InitDeclaratorTree). Defines now.checker.table defined_now now.checker.table defined_now (declared_globals (scope_of now.checker) place base left)) (sym is) (λ globals functions h. h))

-- what was kept of the declarators so far, and then of those that are left, is what is kept of all
abbrev pub FilesKept : Option CType → List InitDeclaratorTree → Pass → List memory_value.Value → List InitDeclaratorTree → Pass → List memory_value.Value → Type 0
FilesKept base all old before left now here =
    (place : Pos) → ValuesFar (declarators_values (scope_of old.checker) place base all) (declarators_values (scope_of now.checker) place base left) now.checker.table before here

module _ (base : Option CType) (t : Option number.CType) (all : List InitDeclaratorTree) (old now new : Pass) {before here after : List memory_value.Value} where
  pub kept-declarator : (left rest : List InitDeclaratorTree) (d : InitDeclaratorTree) → left ≡ d ∷ rest → each_in type_in now.checker.table t ≡ base
      → ((place : Pos) → Covers (file_declarator (scope_of now.checker) place (each_in type_in now.checker.table t) d (declared_name d.declarator)).found (named_in_file_declarator (scope_of now.checker) (each_in type_in now.checker.table t) d (declared_name d.declarator)) (file_declarator (scope_of now.checker) place (each_in type_in now.checker.table t) d (declared_name d.declarator)).scope now new)
      → AddsValues (declarator_values (scope_of now.checker) (each_in type_in now.checker.table t) d (declared_name d.declarator)) new.checker.table here after
      → FilesKept base all old before left now here → FilesKept base all old before rest new after
  kept-declarator left rest d is known one adds far place =
      let scope = scope_of now.checker in
      let name = declared_name d.declarator in
      let covers = one place in
      let behind : scope_of new.checker ≡ (file_declarator scope place base d name).scope = covers.scope ∙ ap (λ (base : Option CType). (file_declarator scope place base d name).scope) known in
      subst (λ (there : Scope). ValuesFar (declarators_values (scope_of old.checker) place base all) (declarators_values there place base rest) new.checker.table before after) (sym behind)
      (kept-more (declarator_values scope base d name)
      (subst (λ (left : List InitDeclaratorTree). ValuesFar (declarators_values (scope_of old.checker) place base all) (declarators_values scope place base left) now.checker.table before here) is (far place))
      (stays now.checker.table new.checker.table covers.grows)
      (adds-same (ap (λ (base : Option CType). declarator_values scope base d name) known) adds))

pub kept-declarators : (base : Option CType) (all : List InitDeclaratorTree) (old now : Pass) {before here : List memory_value.Value} (left : List InitDeclaratorTree) → left ≡ [] → FilesKept base all old before left now here
    → (place : Pos) → AddsValues (declarators_values (scope_of old.checker) place base all) now.checker.table before here
kept-declarators base all old now {before = before} {here = here} left none far place =
    kept-all (subst (λ (left : List InitDeclaratorTree). ValuesFar (declarators_values (scope_of old.checker) place base all) (declarators_values (scope_of now.checker) place base left) now.checker.table before here) none (far place))
