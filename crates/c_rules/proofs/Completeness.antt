-- What is complete at a place of the text is so in the program, and stands for something.
use Rattle.std.proofs.Common.{◌≡◌, true, false, not, List, Option, Some, None, refl, ap, sym, ◌∙◌}
use Rattle.std.proofs.lemmas.Bool.{false≢true}
use Rattle.c_typed.specs.Names.{contains}
use Rattle.c_typed.specs.Types.{CType, Void, Integer, Pointer, Array, Struct, Function, is_integer, is_function, is_like_void}
use Rattle.c_typed.specs.Layouts.{StructDef, MemberDef, is_complete, members_by_tag, has_members}
use Rattle.c_rules.specs.Names.{Scope}
use Rattle.c_rules.specs.Operators
use Rattle.c_rules.specs.Operators.{target_of}
use Rattle.c_typed.specs.Context.{Context}
use Rattle.c_typed.specs.Expressions.{is_pointer_to_complete, pointed, element}
use Rattle.c_rules.specs.Fitting.{Fits}
use Rattle.c_rules.proofs.TypeSteps.{holds_is, bool_case}

-- the members of what has some
pub members_of : (option : Option (List MemberDef)) → has_members option ≡ true → (members : List MemberDef) × (option ≡ Some members)
members_of (Some members) has = (members, refl)
members_of None has = absurd (false≢true has)

pub complete_stays : (scope : Scope) (around : Context) → Fits scope around → (t : CType) → is_complete scope.structs t ≡ true → is_complete around.program.structs t ≡ true
complete_stays scope around fits (Integer n) complete = refl
complete_stays scope around fits (Pointer target) complete = refl
complete_stays scope around fits (Array element n) complete = refl
complete_stays scope around fits (Struct tag) complete = let found = members_of (members_by_tag scope.structs tag) complete in ap has_members (fits.structs tag found.0 found.1)
complete_stays scope around fits Void complete = absurd (false≢true complete)
complete_stays scope around fits (Function result parameters) complete = absurd (false≢true complete)

-- what is complete is not treated as void
pub not_like_void : (scope : Scope) (around : Context) → Fits scope around → (t : CType) → is_complete around.program.structs t ≡ true → is_like_void around.program.completed t ≡ true → ⊥
not_like_void scope around fits (Struct tag) complete like =
    bool_case (contains around.program.completed tag)
    (λ inside. false≢true (sym (ap not inside) ∙ like))
    (λ outside. false≢true (sym (ap has_members (fits.never tag (ap (λ completed. contains completed tag) fits.completed ∙ outside))) ∙ complete))
not_like_void scope around fits Void complete like = false≢true complete
not_like_void scope around fits t complete like = false≢true like

pub pointer_stays : (scope : Scope) (around : Context) → Fits scope around → (t : CType) → Operators.is_pointer_to_complete scope t ≡ true → is_pointer_to_complete around.program.structs t ≡ true
pointer_stays scope around fits (Pointer target) complete = complete_stays scope around fits target complete
pointer_stays scope around fits t complete = absurd (false≢true complete)

-- ---- what a pointer to complete objects points to

pub target_complete : (structs : List StructDef) (t : CType) → is_pointer_to_complete structs t ≡ true → is_complete structs (target_of t) ≡ true
target_complete structs (Pointer target) complete = complete
target_complete structs t complete = absurd (false≢true complete)

pub pointed_is : (structs : List StructDef) (t : CType) → is_pointer_to_complete structs t ≡ true → pointed structs t ≡ Some (target_of t)
pointed_is structs (Pointer target) complete = holds_is (is_complete structs target) target complete
pointed_is structs t complete = absurd (false≢true complete)

pub element_is : (structs : List StructDef) (t n : CType) → is_pointer_to_complete structs t ≡ true → is_integer n ≡ true → element structs t n ≡ Some (target_of t)
element_is structs t (Integer n) complete integer = pointed_is structs t complete
element_is structs t n complete integer = absurd (false≢true integer)

pub complete_no_function : (structs : List StructDef) (t : CType) → is_complete structs t ≡ true → is_function t ≡ false
complete_no_function structs (Function result parameters) complete = absurd (false≢true complete)
complete_no_function structs Void complete = refl
complete_no_function structs (Integer n) complete = refl
complete_no_function structs (Pointer target) complete = refl
complete_no_function structs (Array element n) complete = refl
complete_no_function structs (Struct tag) complete = refl
