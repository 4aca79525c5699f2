-- What is marked of the locals that a typed tree takes, by the tree in memory.
use Rattle.std.proofs.Common.{◌≡◌, ℕ, ◌+◌, ◌<◌, Bool, false, true, not, ◌&&◌, ◌||◌, List, ◌∷◌, length, get_or, drop, sym, ap, subst, ◌∙◌}
use Rattle.std.proofs.lemmas.List.{drop_more}
use Rattle.c_typed.specs.declared.typed.Value.{Value}
use Rattle.c_typed.specs.declared.typed.Object.{Object}
use Rattle.c_typed.specs.declared.typed.Designator.{Designator}
use Rattle.c_typed.specs.Table.{Interned}
use Rattle.c_typed.specs.Views.{value_in, object_in, designator_in, values_in}
use Rattle.tac_build.specs.Homes.{takes, takes_in, takes_called, takes_any, names_local}
use Rattle.tac_build.specs.declared.addressed.Search.{Search}
use Rattle.tac_build.specs.Marks.{Marks}
use Rattle.tac_build.proofs.Marking.{marks_none}

abbrev pub of_value : Interned → Bool → Value → ℕ → Bool
of_value table behind value number = takes behind number (value_in table value)

abbrev pub of_object : Interned → Object → ℕ → Bool
of_object table object number = takes_in number (object_in table object)

abbrev pub of_called : Interned → Designator → ℕ → Bool
of_called table function number = takes_called number (designator_in table function)

abbrev pub of_values : Interned → List Value → ℕ → Bool
of_values table values number = takes_any number (values_in table values)

abbrev pub of_both : Interned → Value → Value → ℕ → Bool
of_both table first second number = takes false number (value_in table first) || takes false number (value_in table second)

abbrev pub of_assigned : Interned → Object → Value → ℕ → Bool
of_assigned table object value number = takes_in number (object_in table object) || takes false number (value_in table value)

-- the next of the items that are left
pub next_left : {X : Type 0} (items : List X) (here : ℕ) (item : X) → here < length items → item ≡ get_or items here item → drop here items ≡ item ∷ drop (here + 1) items
next_left items here item within is = drop_more items here item within ∙ ap (λ first. first ∷ drop (here + 1) items) (sym is)

-- ---- the address of an object, which is kept or not

abbrev pub of_address : Interned → Bool → Object → ℕ → Bool
of_address table behind object number = not behind && names_local number (object_in table object)

pub marks_kept : (table : Interned) (old new : Search) (behind : Bool) (read object : Object) → behind ≡ false → read ≡ object
    → Marks old new (λ number. names_local number (object_in table read)) → Marks old new (of_address table behind object)
marks_kept table old new behind read object kept is marks =
    subst (λ f. Marks old new f) ((λ i. λ number. names_local number (object_in table (is i))) ∙ (λ i. of_address table (sym kept i) object)) marks

pub marks_behind : (table : Interned) (old : Search) (behind : Bool) (object : Object) → behind ≡ true → Marks old old (of_address table behind object)
marks_behind table old behind object is = subst (λ f. Marks old old f) (λ i. of_address table (sym is i) object) (marks_none old)
