-- The whole program fits what is known at each place outside functions, and in each function where its body begins.
use Rattle.std.proofs.Common.{◌≡◌, ℕ, true, ◌||◌, List, [], slice_get, Some, is_some, refl, sym, ap, subst, ◌∙◌}
use Rattle.std.proofs.lemmas.Option.{same_Some}
use Rattle.c_typed.specs.Types.{CType, Void, Integer, Pointer, Array, Struct, Function, is_function}
use Rattle.c_typed.specs.Names.{contains}
use Rattle.c_typed.specs.Layouts.{StructDef, MemberDef, is_complete, members_by_tag, member_type}
use Rattle.c_typed.specs.Typed.{Program}
use Rattle.c_rules.specs.Names.{Scope, FileName, LocalName, file_name, locals_in}
use Rattle.c_typed.specs.Context.{global_type, function_type}
use Rattle.c_typed.specs.Programs.{all_listed}
use Rattle.c_rules.specs.Proper.{is_proper}
use Rattle.c_rules.specs.Fitting.{Fits, LocalsFit, OuterFits}
use Rattle.c_rules.proofs.Structures.{Keeps, complete_kept, tagged_fit, member_fits, typed_fits, member_has_type}
use Rattle.c_rules.proofs.Outside.{file_type, type_in, Later, Good, EntryFits}
use Rattle.c_rules.proofs.Completed.{listed_tag}
use Rattle.c_rules.proofs.Declarations.{object_only, IsDefined}

-- what is so of the whole program, by the place behind all its items
pub record Whole (program : Program) (end : Scope) : Type 0 where
  pub good : Good end
  pub structs : program.structs ≡ end.structs
  pub completed : end.completed ≡ program.completed
  pub listed : all_listed program.completed program.structs ≡ true
  pub globals : (name : List ℕ) → global_type program.globals name ≡ object_only (file_type end.file name)
  pub functions : (name : List ℕ) → contains end.defined name ≡ true → IsDefined program.functions end.file name

-- the same but for locals
pub record SameOutside (scope inside : Scope) : Type 0 where
  pub structs : scope.structs ≡ inside.structs
  pub file : scope.file ≡ inside.file
  pub completed : scope.completed ≡ inside.completed
  pub defined : scope.defined ≡ inside.defined

outer_fits : (defined : List (List ℕ)) (program : Program) (name : List ℕ) (c_type : CType)
    → (contains defined name ≡ true → function_type program.functions name ≡ Some c_type)
    → global_type program.globals name ≡ object_only (Some c_type) → (is_function c_type || is_complete program.structs c_type) ≡ true → OuterFits defined program name c_type
outer_fits defined program name Void function global complete = (global, complete)
outer_fits defined program name (Integer int_type) function global complete = (global, complete)
outer_fits defined program name (Pointer target) function global complete = (global, complete)
outer_fits defined program name (Array element n) function global complete = (global, complete)
outer_fits defined program name (Struct tag) function global complete = (global, complete)
outer_fits defined program name (Function result parameters) function global complete = function

either_complete : (older newer : List StructDef) → Keeps older newer → (c_type : CType) → (is_function c_type || is_complete older c_type) ≡ true → (is_function c_type || is_complete newer c_type) ≡ true
either_complete older newer keeps Void e = e
either_complete older newer keeps (Integer int_type) e = refl
either_complete older newer keeps (Pointer target) e = refl
either_complete older newer keeps (Array element n) e = refl
either_complete older newer keeps (Struct tag) e = complete_kept older newer keeps (Struct tag) e
either_complete older newer keeps (Function result parameters) e = refl

module _ (program : Program) (end : Scope) (whole : Whole program end) where
  pub keeps_structs : (scope : Scope) → Later scope end → Keeps scope.structs program.structs
  keeps_structs scope later tag members e = ap (λ s. members_by_tag s tag) whole.structs ∙ later.structs tag members e

  pub outside_fits : (scope : Scope) → Good scope → Later scope end → (name : List ℕ) (entry : FileName) (c_type : CType) → file_name scope.file name ≡ Some entry → entry.c_type ≡ Some c_type
      → OuterFits scope.defined program name c_type × (is_proper c_type ≡ true)
  outside_fits scope good later name entry c_type at is =
      (outer_fits scope.defined program name c_type function (whole.globals name ∙ ap object_only end_type) (subst (λ (t : CType). (is_function t || is_complete program.structs t) ≡ true) same complete), ap is_proper (sym same) ∙ fit.proper)
    where
      fit : EntryFits scope.structs name entry.c_type
      fit = good.file name entry at

      same : fit.c_type ≡ c_type
      same = same_Some fit.c_type c_type (sym fit.is ∙ is)

      end_type : file_type end.file name ≡ Some c_type
      end_type = later.file name c_type (ap type_in at ∙ is)

      function : contains scope.defined name ≡ true → function_type program.functions name ≡ Some c_type
      function inside =
          let found = whole.functions name (ap (λ d. contains d name) (sym later.defined) ∙ inside) in
          found.1 ∙ sym found.2 ∙ end_type

      complete : (is_function fit.c_type || is_complete program.structs fit.c_type) ≡ true
      complete = either_complete scope.structs program.structs (keeps_structs scope later) fit.c_type fit.complete

  pub fits_at : (scope : Scope) → Good scope → Later scope end → (inside : Scope) → SameOutside scope inside → (locals : List CType) → LocalsFit program.structs (locals_in inside) locals
      → Fits inside (record { program = program; locals = locals })
  fits_at scope good later inside same locals local_fits =
      record {
        structs = λ tag members e. keeps_structs scope later tag members (ap (λ s. members_by_tag s tag) same.structs ∙ e);
        completed = sym same.completed ∙ later.completed ∙ whole.completed;
        never = λ tag never. listed_tag program.completed program.structs whole.listed tag (ap (λ c. contains c tag) (sym (sym same.completed ∙ later.completed ∙ whole.completed)) ∙ never);
        members = λ tag members number c_type at is. typed tag members number c_type at is;
        typed_members = λ tag members number member at is.
            member_has_type scope.structs member.c_type (member_fits scope.structs members (tagged_fit scope.structs good.structs tag members (ap (λ s. members_by_tag s tag) same.structs ∙ at)) number member is);
        locals = local_fits;
        outer = outer;
        known = known;
      }
    where
      typed : (tag : List ℕ) (members : List MemberDef) (number : ℕ) (c_type : CType) → members_by_tag program.structs tag ≡ Some members → member_type (slice_get members number) ≡ Some c_type
          → (is_complete program.structs c_type ≡ true) × (is_proper c_type ≡ true)
      typed tag members number c_type at is =
          let fit = typed_fits end.structs members (tagged_fit end.structs whole.good.structs tag members (ap (λ s. members_by_tag s tag) (sym whole.structs) ∙ at)) number c_type is in
          (ap (λ s. is_complete s c_type) whole.structs ∙ fit.0, fit.1)

      outer : (name : List ℕ) (entry : FileName) (c_type : CType) → file_name inside.file name ≡ Some entry → entry.c_type ≡ Some c_type → OuterFits inside.defined program name c_type × (is_proper c_type ≡ true)
      outer name entry c_type at is =
          subst (λ (d : List (List ℕ)). OuterFits d program name c_type × (is_proper c_type ≡ true)) same.defined
          (outside_fits scope good later name entry c_type (ap (λ f. file_name f name) same.file ∙ at) is)

      known : (name : List ℕ) (entry : FileName) → file_name inside.file name ≡ Some entry → is_some entry.c_type ≡ true
      known name entry at = ap is_some (good.file name entry (ap (λ f. file_name f name) same.file ∙ at)).is

  -- outside of functions there are no locals
  pub fits_outside : (scope : Scope) → Good scope → Later scope end → Fits scope (record { program = program; locals = [] })
  fits_outside scope good later =
      fits_at scope good later scope (record { structs = refl; file = refl; completed = refl; defined = refl }) [] (subst (λ (l : List LocalName). LocalsFit program.structs l []) (sym good.locals) tt)
