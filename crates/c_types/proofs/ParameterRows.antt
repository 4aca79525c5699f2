-- A parameter of array type is a pointer: how long the array is doesn't count, but what its elements are.
use Rattle.std.specs.Prelude.{◌≡◌, ℕ, [], Option, Some, None, codes, refl}
use Rattle.run_theory.specs.declared.place.Pos.{Pos}
use Rattle.c_num.specs.declared.IntType.TheVariants as I
use Rattle.c_num.specs.Conversion.{convert_to}
use Rattle.c_syntax.specs.Trees
use Rattle.c_typed.specs.Layouts.{layouts}
use Rattle.c_rules.specs.Names.{Scope}
use Rattle.c_rules.specs.Named.{named_in_parameters}
use Rattle.c_types.specs.Limits.{first_excess, excess_count, size_of}

abbrev at_place : ℕ → ℕ → Pos
at_place line column = record { line = line; column = column }

abbrev nowhere : Scope
nowhere = record { tags = []; completed = []; defined = []; structs = []; file = []; inner = []; outer = [] }

-- char a[suffixes], behind `int f(`
abbrev one : Trees.SuffixesTree → Trees.ParametersTree
one suffixes =
    Trees.Parameter (record { place = at_place 1 7; words = Trees.IntegerWords I.Char })
    (Trees.Declared (Trees.Declarator 0 (Trees.DeclaredName (record { bytes = codes "a"; place = at_place 1 12 })) suffixes)) Trees.NoParameters

abbrev of_length : ℕ → Trees.SuffixesTree → Trees.SuffixesTree
of_length n others = Trees.ArraySuffix (Trees.ArrayLength (Trees.Integer n I.Int (at_place 1 14))) others

abbrev greatest : Trees.SuffixesTree → Option ℕ
greatest suffixes = excess_count (first_excess (size_of (layouts [])) 1048576 (named_in_parameters nowhere (one suffixes)))

-- char a[1048577]
the-array-is-none : greatest (of_length 1048577 Trees.NoSuffixes) ≡ None
unfolding convert_to
the-array-is-none = refl

-- char a[2][1048577]
its-elements-count : greatest (of_length 2 (of_length 1048577 Trees.NoSuffixes)) ≡ Some 1048577
unfolding convert_to
its-elements-count = refl
