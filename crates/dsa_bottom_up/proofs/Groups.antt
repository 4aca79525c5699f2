-- Programs of the same code have the same groups, so that a program has one list of them.
use Rattle.std.proofs.Common.{◌≡◌, ℕ, List}
use Rattle.c_typed.specs.Types.{CType}
use Rattle.c_typed.specs.Typed.{Program}
use Rattle.tac_ir.specs.Code.{Tac}
use Rattle.tac_build.specs.ProgramCode.{Code}
use Rattle.tac_ir.specs.Groups.{Calls, by_call, in_class, Reaches, itself, through, AreGroups}
use Rattle.tac_ir.proofs.Groups.{groups_are_one}
use Rattle.dsa_bottom_up.specs.Same.{SameCode, renamed}
use Rattle.dsa_bottom_up.proofs.CodeIsOne.Programs.{code_is_one, same_held}

-- calls don't tell the name and the type of `start`
calls_too : (tac : Tac) (name : List ℕ) (c_type : CType) (caller called : ℕ) → Calls tac caller called → Calls (renamed name c_type tac) caller called
calls_too tac name c_type caller called (by_call callee made reached) =
    by_call callee (record { function = made.function; is = made.is; at = made.at; site = made.site; arguments = made.arguments; point = made.point }) reached
calls_too tac name c_type caller called (in_class other pointer own made one two) =
    in_class other pointer own (record { function = made.function; is = made.is; at = made.at; site = made.site; arguments = made.arguments; point = made.point }) one two

reaches_too : (tac : Tac) (name : List ℕ) (c_type : CType) (caller last : ℕ) → Reaches tac caller last → Reaches (renamed name c_type tac) caller last
reaches_too tac name c_type first last (itself function) = itself function
reaches_too tac name c_type first last (through caller called end call more) = through caller called end (calls_too tac name c_type caller called call) (reaches_too tac name c_type called end more)

renamed_groups : (tac : Tac) (name : List ℕ) (c_type : CType) (groups : List (List ℕ)) → AreGroups tac groups → AreGroups (renamed name c_type tac) groups
renamed_groups tac name c_type groups are = record {
  all = are.all;
  only = are.only;
  once = are.once;
  ascending = are.ascending;
  together = λ before after group a b is inside both.
      are.together before after group a b is inside (reaches_too (renamed name c_type tac) tac.start.name tac.start.c_type a b both.0, reaches_too (renamed name c_type tac) tac.start.name tac.start.c_type b a both.1);
  apart = λ before after group a b is one other.
      let both = are.apart before after group a b is one other in
      (reaches_too tac name c_type a b both.0, reaches_too tac name c_type b a both.1);
  ready = λ before after group is caller called inside call. are.ready before after group is caller called inside (calls_too (renamed name c_type tac) tac.start.name tac.start.c_type caller called call);
  next = λ before after group other before_other after_other is behind ready.
      are.next before after group other before_other after_other is behind (λ caller called inside call. ready caller called inside (calls_too tac name c_type caller called call));
}

pub same_groups : (a b : Tac) (groups : List (List ℕ)) → SameCode a b → AreGroups b groups → AreGroups a groups
same_groups a b groups same are = same_held a b same (λ tac. AreGroups tac groups) (λ tac name c_type held. renamed_groups tac name c_type groups held) are

pub one_list_of_groups : (program : Program) (a b : Tac) (groups others : List (List ℕ)) → Code program a → Code program b → AreGroups a groups → AreGroups b others → groups ≡ others
one_list_of_groups program a b groups others one two are too = groups_are_one a groups others are (same_groups a b others (code_is_one program a b one two) too)
