-- The line that is read from what `clap` found.
use Rattle.std.specs.Prelude.{ℕ, ◌^◌, ◌&&◌, Bool, nat_lt, List, codes, Option, Some, None, if◌then◌else◌}
use Rattle.std.specs.Option.{option_map_or}
use Rattle.std.specs.Str.{bytes_eq}
use Rattle.std.specs.Str.Parse.{without_leading_plus}
use Rattle.clap.specs.Walk.{Row, Text, first_of, has_row, one_of}
use Rattle.pcc_words.specs.Line.{Limits, Line, NoCommand, NoLine, Build, Exec, Run, Ref, Graph, Flag, OnePool, Setting, Slabs, Index, Steps, name_of, flag_name, default_of, is_numeral, number_of}

-- a text that Rust reads as an unsigned number of so many bits
abbrev pub is_unsigned : ℕ → Text → Bool
is_unsigned bits text = is_numeral (without_leading_plus text) && nat_lt (number_of text) (2 ^ bits)

abbrev pub number_or : ℕ → ℕ → Text → ℕ
number_or bits default text = if is_unsigned bits text then number_of text else default

-- the number of an option, or its default
abbrev pub found_number : ℕ → Setting → List Row → ℕ
found_number bits setting rows = option_map_or (number_or bits (default_of setting)) (one_of (name_of setting) rows) (default_of setting)

abbrev pub limits_found : List Row → Limits
limits_found rows = record { slabs = found_number 32 Slabs rows; index = found_number 32 Index rows }

-- whether the flag was given
abbrev pub flag_found : Flag → List Row → Bool
flag_found flag rows = has_row (flag_name flag) rows

abbrev pub file_line : Text → List Row → Text → Line
file_line name rows file =
    if bytes_eq name (codes "build") then Build file (limits_found rows) (flag_found OnePool rows)
    else if bytes_eq name (codes "exec") then Exec file (limits_found rows) (flag_found OnePool rows) (found_number 64 Steps rows)
    else if bytes_eq name (codes "run") then Run file (found_number 64 Steps rows)
    else if bytes_eq name (codes "ref") then Ref file (found_number 64 Steps rows)
    else if bytes_eq name (codes "graph") then Graph file
    else NoCommand

abbrev pub found_line : Option (Text × List Row) → Line
found_line None = NoCommand
found_line (Some found) = option_map_or (file_line found.0 found.1) (first_of (codes "file") found.1) NoLine
