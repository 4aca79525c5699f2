-- Names outside functions, and what a later place of the text still knows.
use Rattle.std.proofs.Common.{◌≡◌, ℕ, Bool, true, false, not, ◌&&◌, ◌||◌, cond, List, [], ◌∷◌, Option, Some, None, bytes_eq, codes, refl, sym, ap, subst, ◌∙◌}
use Rattle.std.proofs.lemmas.Bool.{true≢false, or_parts, not-true}
use Rattle.std.proofs.lemmas.Option.{none-some, same_Some}
use Rattle.run_theory.specs.declared.place.Pos.{Pos}
use Rattle.c_syntax.specs.Trees.{NameTree}
use Rattle.c_typed.specs.Types.{CType, Function, NoTypes, int, same_type, is_function}
use Rattle.c_typed.specs.declared.typed.LibraryFunction.{LibraryFunction}
use Rattle.c_typed.specs.Layouts.{StructDef, is_complete}
use Rattle.c_typed.proofs.Same.{same_type-true}
use Rattle.c_rules.specs.declared.rule.TypeRule.TheVariants as T
use Rattle.c_rules.specs.Names.{Scope, FileName, file_name, with_file_name, Outer, is_library, locals_in, local_meaning, file_meaning, library_meaning, library_named}
use Rattle.c_rules.specs.Known.{unless}
use Rattle.c_rules.specs.Programs.{Filed, declare_outside, differs, known_first, again_clash, joined_name, main_clash}
use Rattle.c_rules.specs.Proper.{is_proper}
use Rattle.c_rules.proofs.Answering.{HaveTypes, has_type}
use Rattle.c_rules.proofs.Nothing.{three_none, unless_none, same_name, name_itself}
use Rattle.c_rules.proofs.Structures.{Keeps, StructsFit, complete_kept, tagged_fit, member_fits, member_has_type}

-- ---- the type of a name

abbrev pub type_in : Option FileName → Option CType
type_in None = None
type_in (Some entry) = entry.c_type

abbrev pub file_type : List FileName → List ℕ → Option CType
file_type file name = type_in (file_name file name)

-- the entry of a name in the place of the same name
pub entered_itself : (entry : FileName) (file : List FileName) (name : List ℕ) → bytes_eq entry.name name ≡ true → file_name (with_file_name entry file) name ≡ Some entry
entered_itself entry [] name same = ap (λ b. cond b (Some entry) None) same
entered_itself entry (first ∷ others) name same = by (bytes_eq first.name entry.name) refl (entered_itself entry others name same)
  where
    is : entry.name ≡ name
    is = same_name entry.name name same

    by : (b : Bool) → bytes_eq first.name entry.name ≡ b → file_name (with_file_name entry others) name ≡ Some entry
        → file_name (cond b (entry ∷ others) (first ∷ with_file_name entry others)) name ≡ Some entry
    by true eq rest = ap (λ b. cond b (Some entry) (file_name others name)) same
    by false eq rest = ap (λ b. cond b (Some first) (file_name (with_file_name entry others) name)) (sym (ap (bytes_eq first.name) is) ∙ eq) ∙ rest

pub entered_other : (entry : FileName) (file : List FileName) (name : List ℕ) → bytes_eq entry.name name ≡ false → file_name (with_file_name entry file) name ≡ file_name file name
entered_other entry [] name other = ap (λ b. cond b (Some entry) None) other
entered_other entry (first ∷ others) name other = by (bytes_eq first.name entry.name) refl (entered_other entry others name other)
  where
    by : (b : Bool) → bytes_eq first.name entry.name ≡ b → file_name (with_file_name entry others) name ≡ file_name others name
        → file_name (cond b (entry ∷ others) (first ∷ with_file_name entry others)) name ≡ cond (bytes_eq first.name name) (Some first) (file_name others name)
    by true eq rest =
        let apart : bytes_eq first.name name ≡ false = ap (λ n. bytes_eq n name) (same_name first.name entry.name eq) ∙ other in
        ap (λ b. cond b (Some entry) (file_name others name)) other ∙ sym (ap (λ b. cond b (Some first) (file_name others name)) apart)
    by false eq rest = ap (cond (bytes_eq first.name name) (Some first)) rest

-- ---- what stays

-- what is known at the one place is known at the other
pub record Later (before after : Scope) : Type 0 where
  pub structs : Keeps before.structs after.structs
  pub file : (name : List ℕ) (c_type : CType) → file_type before.file name ≡ Some c_type → file_type after.file name ≡ Some c_type
  pub completed : before.completed ≡ after.completed
  pub defined : before.defined ≡ after.defined

pub later_same : (scope : Scope) → Later scope scope
later_same scope = record { structs = λ tag members e. e; file = λ name c_type e. e; completed = refl; defined = refl }

pub later_both : (one two three : Scope) → Later one two → Later two three → Later one three
later_both one two three first second =
    record {
      structs = λ tag members e. second.structs tag members (first.structs tag members e);
      file = λ name c_type e. second.file name c_type (first.file name c_type e);
      completed = first.completed ∙ second.completed;
      defined = first.defined ∙ second.defined;
    }

-- ---- what is so at each place outside functions

-- `main` has its type
abbrev pub IsMain : List ℕ → CType → Type 0
IsMain name c_type = bytes_eq name (codes "main") ≡ true → same_type c_type (Function int NoTypes) ≡ true

-- a name outside functions has a proper type, that of a function or of a complete object, and is no library function's
pub record EntryFits (structs : List StructDef) (name : List ℕ) (known : Option CType) : Type 0 where
  pub c_type : CType
  pub is : known ≡ Some c_type
  pub proper : is_proper c_type ≡ true
  pub complete : (is_function c_type || is_complete structs c_type) ≡ true
  pub main : IsMain name c_type
  pub apart : is_library name ≡ false

pub record Good (scope : Scope) : Type 0 where
  pub locals : locals_in scope ≡ []
  pub structs : StructsFit scope.structs
  pub file : (name : List ℕ) (entry : FileName) → file_name scope.file name ≡ Some entry → EntryFits scope.structs name entry.c_type

entry_kept : (older newer : List StructDef) → Keeps older newer → (name : List ℕ) (known : Option CType) → EntryFits older name known → EntryFits newer name known
entry_kept older newer keeps name known fit = record { c_type = fit.c_type; is = fit.is; proper = fit.proper; complete = by fit.c_type fit.complete; main = fit.main; apart = fit.apart }
  where
    by : (c_type : CType) → (is_function c_type || is_complete older c_type) ≡ true → (is_function c_type || is_complete newer c_type) ≡ true
    by (Function result parameters) e = refl
    by c_type e = by_test (is_function c_type) (is_complete older c_type) (is_complete newer c_type) (complete_kept older newer keeps c_type) e
      where
        by_test : (f a b : Bool) → (a ≡ true → b ≡ true) → (f || a) ≡ true → (f || b) ≡ true
        by_test true a b implies h = refl
        by_test false a b implies h = implies h

-- with more structures
pub good_within : (before after : Scope) → Good before → Keeps before.structs after.structs → StructsFit after.structs → locals_in after ≡ [] → after.file ≡ before.file → Good after
good_within before after good keeps structs locals same =
    record {
      locals = locals;
      structs = structs;
      file = λ name entry at. entry_kept before.structs after.structs keeps name entry.c_type (good.file name entry (sym (ap (λ f. file_name f name) same) ∙ at));
    }

-- names and members have types
library_has : (function : Option LibraryFunction) → has_type (library_meaning function) ≡ true
library_has None = refl
library_has (Some function) = refl

pub good_types : (scope : Scope) → Good scope → HaveTypes scope
good_types scope good =
    record {
      names = λ name. ap (λ l. has_type (local_meaning l name (file_meaning (file_name scope.file name) name))) good.locals ∙ by name (file_name scope.file name) (good.file name);
      members = λ tag members number member at is. member_has_type scope.structs member.c_type (member_fits scope.structs members (tagged_fit scope.structs good.structs tag members at) number member is);
    }
  where
    by : (name : List ℕ) (entry : Option FileName) → ((found : FileName) → entry ≡ Some found → EntryFits scope.structs name found.c_type) → has_type (file_meaning entry name) ≡ true
    by name None fits = library_has (library_named name)
    by name (Some entry) fits = ap (λ k. has_type (Outer k)) (fits entry refl).is

-- ---- a name that is declared

pub joined_bytes : (old : Option FileName) (entry : FileName) → (joined_name old entry).name ≡ entry.name
joined_bytes None entry = refl
joined_bytes (Some old) entry = refl

joined_keeps : (old : Option FileName) (entry : FileName) (c_type : CType) → type_in old ≡ Some c_type → (joined_name old entry).c_type ≡ Some c_type
joined_keeps None entry c_type e = absurd (none-some c_type e)
joined_keeps (Some old) entry c_type e = ap (λ k. known_first k entry.c_type) e

same_again : (a b : CType) (others : Bool) → not (differs (Some a) (Some b) || others) ≡ true → a ≡ b
same_again a b others e = by (same_type a b) refl (or_parts (differs (Some a) (Some b)) others (not-true (differs (Some a) (Some b) || others) e)).0
  where
    by : (same : Bool) → same_type a b ≡ same → not same ≡ false → a ≡ b
    by true is h = same_type-true a b is
    by false is h = absurd (true≢false h)

-- with the type that it had
pub joined_type : (structs : List StructDef) (name : List ℕ) (old : Option FileName) (entry : FileName) (c_type : CType) → entry.c_type ≡ Some c_type
    → ((known : FileName) → old ≡ Some known → EntryFits structs name known.c_type) → (here : Pos) → again_clash here old entry ≡ [] → (joined_name old entry).c_type ≡ Some c_type
joined_type structs name None entry c_type is fits here e = is
joined_type structs name (Some old) entry c_type is fits here e =
    let fit = fits old refl in
    let others : Bool = (old.has_init && entry.has_init) || (old.has_body && entry.has_body) in
    let passed = unless_none (not (differs old.c_type entry.c_type || others)) T.T04 here e in
    let same : fit.c_type ≡ c_type = same_again fit.c_type c_type others (sym (λ i. not (differs (fit.is i) (is i) || others)) ∙ passed) in
    ap (λ k. known_first k entry.c_type) fit.is ∙ ap Some same

-- a name with its type, as it is declared
pub record Declared (before : Scope) (filed : Filed) (name : NameTree) (known : Option CType) (c_type : CType) : Type 0 where
  pub is : known ≡ Some c_type
  pub proper : is_proper c_type ≡ true
  pub complete : (is_function c_type || is_complete before.structs c_type) ≡ true
  pub good : Good filed.scope
  pub later : Later before filed.scope
  pub declares : file_type filed.scope.file name.bytes ≡ Some c_type

is_main_name : (name : NameTree) (c_type : CType) → main_clash name (Some c_type) ≡ [] → IsMain name.bytes c_type
is_main_name name c_type e same = unless_none (same_type c_type (Function int NoTypes)) T.T02 name.place (sym (ap (λ b. cond b (unless (same_type c_type (Function int NoTypes)) T.T02 name.place) []) same) ∙ e)

pub declared : (scope : Scope) → Good scope → (name : NameTree) (known : Option CType) (has_init has_body : Bool) (c_type : CType) → known ≡ Some c_type → is_proper c_type ≡ true
    → (is_function c_type || is_complete scope.structs c_type) ≡ true → (declare_outside name known has_init has_body scope).found ≡ []
    → Declared scope (declare_outside name known has_init has_body scope) name known c_type
declared scope good name known has_init has_body c_type is proper complete e =
    record { is = is; proper = proper; complete = complete; good = record { locals = good.locals; structs = good.structs; file = file }; later = later; declares = declares }
  where
    entry : FileName
    entry = record { name = name.bytes; c_type = known; has_init = has_init; has_body = has_body }

    old : Option FileName
    old = file_name scope.file name.bytes

    joined : FileName
    joined = joined_name old entry

    newer : List FileName
    newer = with_file_name joined scope.file

    parts : (unless (not (is_library name.bytes)) T.T04 name.place ≡ []) × (main_clash name known ≡ []) × (again_clash name.place old entry ≡ [])
    parts = three_none (unless (not (is_library name.bytes)) T.T04 name.place) (main_clash name known) (again_clash name.place old entry) e

    bytes : joined.name ≡ name.bytes
    bytes = joined_bytes old entry

    itself : bytes_eq joined.name name.bytes ≡ true
    itself = ap (λ n. bytes_eq n name.bytes) bytes ∙ name_itself name.bytes

    typed : joined.c_type ≡ Some c_type
    typed = joined_type scope.structs name.bytes old entry c_type is (good.file name.bytes) name.place parts.2

    declares : file_type newer name.bytes ≡ Some c_type
    declares = ap type_in (entered_itself joined scope.file name.bytes itself) ∙ typed

    fits : EntryFits scope.structs name.bytes joined.c_type
    fits = record {
      c_type = c_type;
      is = typed;
      proper = proper;
      complete = complete;
      main = is_main_name name c_type (sym (ap (main_clash name) is) ∙ parts.1);
      apart = not-true (is_library name.bytes) (unless_none (not (is_library name.bytes)) T.T04 name.place parts.0);
    }

    file : (n : List ℕ) (found : FileName) → file_name newer n ≡ Some found → EntryFits scope.structs n found.c_type
    file n found at = by (bytes_eq joined.name n) refl
      where
        by : (b : Bool) → bytes_eq joined.name n ≡ b → EntryFits scope.structs n found.c_type
        by true same =
            let whole : joined ≡ found = same_Some joined found (sym (entered_itself joined scope.file n same) ∙ at) in
            let named : name.bytes ≡ n = sym bytes ∙ same_name joined.name n same in
            subst (λ (x : List ℕ). EntryFits scope.structs x found.c_type) named (subst (λ (x : FileName). EntryFits scope.structs name.bytes x.c_type) whole fits)
        by false other = good.file n found (sym (entered_other joined scope.file n other) ∙ at)

    stays : (n : List ℕ) (t : CType) → file_type scope.file n ≡ Some t → file_type newer n ≡ Some t
    stays n t at = by (bytes_eq joined.name n) refl
      where
        by : (b : Bool) → bytes_eq joined.name n ≡ b → file_type newer n ≡ Some t
        by true same =
            let named : n ≡ name.bytes = sym (same_name joined.name n same) ∙ bytes in
            ap type_in (entered_itself joined scope.file n same) ∙ joined_keeps old entry t (sym (ap (file_type scope.file) named) ∙ at)
        by false other = ap type_in (entered_other joined scope.file n other) ∙ at

    later : Later scope (declare_outside name known has_init has_body scope).scope
    later = record { structs = λ tag members h. h; file = stays; completed = refl; defined = refl }
