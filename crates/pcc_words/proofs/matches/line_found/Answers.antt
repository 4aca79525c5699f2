use Rattle.std.proofs.Common.{◌∙◌, sym, ap, codes, Option, Bor}
use Rattle.std.specs.Prelude.{option_map}
use Rattle.clap.specs.Walk.{Text, rows_of}
use Rattle.clap.specs.Words.{found_of, subcommand_rows_of}
use Rattle.clap.proofs.WalkLemmas.{first_value-rows}
use Rattle.pcc_words.specs.Line.{Build, Exec, Run, Ref, OnePool}
use Rattle.pcc_words.specs.Found.{file_line, flag_found, limits_found}
use Rattle.pcc_words.proofs.FoundLine.{no_command, sub_is, with_file, with_none}
use Rattle.pcc_words.proofs.matches.line_found.Goals as goal

pub returns-in_default-get_str : goal.returns-in_default-get_str
returns-in_default-get_str c =
    let found = found_of c.in-Some.found.now in
    with_none (subcommand_rows_of c.args.matches.now) c.in-Some.name.now (rows_of found)
    (sub_is c.args.matches.now c.in-Some.name.now (rows_of found) c.in-Some.ensures.name c.in-Some.ensures.rows)
    (sym (first_value-rows found (codes "file")) ∙ sym c.get_str.ensures ∙ ap (λ (o : Option (Bor Text)). option_map (λ (s : Bor Text). s.now) o) c.in_default-get_str.is)

pub returns-in-build : goal.returns-in-build
returns-in-build c =
    let found = found_of c.in-Some.found.now in
    let name = c.in-Some.name.now in
    let file = c.in-Some-get_str.file.now in
    ap (λ l. Build file l c.one_pool_in.result) c.limits_in.ensures
    ∙ ap (λ b. Build file (limits_found (rows_of found)) b) c.one_pool_in.ensures
    ∙ sym (ap (λ (n : Text). file_line n (rows_of found) file) c.in-build.is)
    ∙ with_file (subcommand_rows_of c.args.matches.now) name file (rows_of found)
    (sub_is c.args.matches.now name (rows_of found) c.in-Some.ensures.name c.in-Some.ensures.rows)
    (sym (first_value-rows found (codes "file")) ∙ sym c.get_str.ensures ∙ ap (λ (o : Option (Bor Text)). option_map (λ (s : Bor Text). s.now) o) c.in-Some-get_str.is)

pub returns-in-exec : goal.returns-in-exec
returns-in-exec c =
    let found = found_of c.in-Some.found.now in
    let name = c.in-Some.name.now in
    let file = c.in-Some-get_str.file.now in
    ap (λ l. Exec file l c.one_pool_in-in-exec.result c.steps_in.result) c.limits_in-in-exec.ensures
    ∙ ap (λ b. Exec file (limits_found (rows_of found)) b c.steps_in.result) c.one_pool_in-in-exec.ensures
    ∙ ap (λ n. Exec file (limits_found (rows_of found)) (flag_found OnePool (rows_of found)) n) c.steps_in.ensures
    ∙ sym (ap (λ (n : Text). file_line n (rows_of found) file) c.in-exec.is)
    ∙ with_file (subcommand_rows_of c.args.matches.now) name file (rows_of found)
    (sub_is c.args.matches.now name (rows_of found) c.in-Some.ensures.name c.in-Some.ensures.rows)
    (sym (first_value-rows found (codes "file")) ∙ sym c.get_str.ensures ∙ ap (λ (o : Option (Bor Text)). option_map (λ (s : Bor Text). s.now) o) c.in-Some-get_str.is)

pub returns-in-run : goal.returns-in-run
returns-in-run c =
    let found = found_of c.in-Some.found.now in
    let name = c.in-Some.name.now in
    let file = c.in-Some-get_str.file.now in
    ap (λ n. Run file n) c.steps_in-in-run.ensures
    ∙ sym (ap (λ (n : Text). file_line n (rows_of found) file) c.in-run.is)
    ∙ with_file (subcommand_rows_of c.args.matches.now) name file (rows_of found)
    (sub_is c.args.matches.now name (rows_of found) c.in-Some.ensures.name c.in-Some.ensures.rows)
    (sym (first_value-rows found (codes "file")) ∙ sym c.get_str.ensures ∙ ap (λ (o : Option (Bor Text)). option_map (λ (s : Bor Text). s.now) o) c.in-Some-get_str.is)

pub returns-in-ref : goal.returns-in-ref
returns-in-ref c =
    let found = found_of c.in-Some.found.now in
    let name = c.in-Some.name.now in
    let file = c.in-Some-get_str.file.now in
    ap (λ n. Ref file n) c.steps_in-in-ref.ensures
    ∙ sym (ap (λ (n : Text). file_line n (rows_of found) file) c.in-ref.is)
    ∙ with_file (subcommand_rows_of c.args.matches.now) name file (rows_of found)
    (sub_is c.args.matches.now name (rows_of found) c.in-Some.ensures.name c.in-Some.ensures.rows)
    (sym (first_value-rows found (codes "file")) ∙ sym c.get_str.ensures ∙ ap (λ (o : Option (Bor Text)). option_map (λ (s : Bor Text). s.now) o) c.in-Some-get_str.is)

pub returns-in-graph : goal.returns-in-graph
returns-in-graph c =
    let found = found_of c.in-Some.found.now in
    let name = c.in-Some.name.now in
    let file = c.in-Some-get_str.file.now in
    sym (ap (λ (n : Text). file_line n (rows_of found) file) c.in-graph.is)
    ∙ with_file (subcommand_rows_of c.args.matches.now) name file (rows_of found)
    (sub_is c.args.matches.now name (rows_of found) c.in-Some.ensures.name c.in-Some.ensures.rows)
    (sym (first_value-rows found (codes "file")) ∙ sym c.get_str.ensures ∙ ap (λ (o : Option (Bor Text)). option_map (λ (s : Bor Text). s.now) o) c.in-Some-get_str.is)

pub returns-in_default-name : goal.returns-in_default-name
returns-in_default-name c =
    let found = found_of c.in-Some.found.now in
    let name = c.in-Some.name.now in
    let file = c.in-Some-get_str.file.now in
    no_command name (rows_of found) file c.in_default-name.not-build c.in_default-name.not-exec c.in_default-name.not-run c.in_default-name.not-ref c.in_default-name.not-graph
    ∙ with_file (subcommand_rows_of c.args.matches.now) name file (rows_of found)
    (sub_is c.args.matches.now name (rows_of found) c.in-Some.ensures.name c.in-Some.ensures.rows)
    (sym (first_value-rows found (codes "file")) ∙ sym c.get_str.ensures ∙ ap (λ (o : Option (Bor Text)). option_map (λ (s : Bor Text). s.now) o) c.in-Some-get_str.is)
