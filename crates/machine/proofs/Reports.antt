-- The rows of a report, one after another.
use Rattle.std.proofs.Common.{◌≡◌, ℕ, suc, ◌+◌, ◌<◌, ◌≤◌, List, ◌∷◌, ◌++◌, length, get_or, drop, map, Option, None, refl, sym, ap, ◌∙◌, append_assoc, arith}
use Rattle.std.proofs.lemmas.List.{drop_all, drop_more, append-nil}
use Rattle.slab_space.specs.declared.kind.PoolKind.{PoolKind}
use Rattle.image_form.specs.declared.image.Function.{Function}
use Rattle.image_form.specs.Form.{function_of}
use Rattle.pool_isa.specs.declared.instr.Instr.{Instr}
use Rattle.pool_isa.specs.declared.instr.Instr.TheVariants as instrs
use Rattle.pool_isa.specs.declared.site.Site.{Site}
use Rattle.pool_isa.specs.Tally.{Tally}
use Rattle.machine.specs.declared.report.ReportRow.{ReportRow}
use Rattle.machine.specs.Heaps.{row_of, kind_at, code_rows, function_rows}

module _ (tally : Tally) (kinds : List PoolKind) where
  -- an instruction that makes no pools
  pub no_kind : (instr : Instr) → ((kind : ℕ) → instr ≡ instrs.PoolInit kind → ⊥) → kind_at kinds instr ≡ None
  no_kind (instrs.PoolInit kind) other = absurd (other kind refl)
  no_kind _ other = refl

  -- The rows so far, with those that follow, stay the same.
  pub row_next : (function : ℕ) (rows rows' all : List ReportRow) (code : List Instr) (place : ℕ) (default instr : Instr) (kind : Option PoolKind) → place < length code → get_or code place default ≡ instr → kind_at kinds instr ≡ kind
      → rows' ≡ rows ++ row_of tally kinds (record { function = function; place = place }) kind → rows ++ code_rows tally kinds function place (drop place code) ≡ all
      → rows' ++ code_rows tally kinds function (place + 1) (drop (place + 1) code) ≡ all
  row_next function rows rows' all code place default instr kind lt is found new before =
      let site : Site = record { function = function; place = place } in
      let rest = drop (place + 1) code in
      let next : place + 1 ≡ suc place = omega arith in
      let split : drop place code ≡ instr ∷ rest = drop_more code place default lt ∙ ap (λ x. x ∷ rest) is in
      ap (λ r. r ++ code_rows tally kinds function (place + 1) rest) new ∙ append_assoc rows (row_of tally kinds site kind) (code_rows tally kinds function (place + 1) rest)
      ∙ ap (λ n. rows ++ (row_of tally kinds site kind ++ code_rows tally kinds function n rest)) next ∙ ap (λ k. rows ++ (row_of tally kinds site k ++ code_rows tally kinds function (suc place) rest)) (sym found)
      ∙ ap (λ c. rows ++ code_rows tally kinds function place c) (sym split) ∙ before

  pub rows_end : (function : ℕ) (rows all : List ReportRow) (code : List Instr) (place : ℕ) → length code ≤ place → rows ++ code_rows tally kinds function place (drop place code) ≡ all → rows ≡ all
  rows_end function rows all code place le before = sym (append-nil rows) ∙ ap (λ c. rows ++ code_rows tally kinds function place c) (sym (drop_all place code le)) ∙ before

  -- The same of the functions.
  pub function_next : (rows rows' all : List ReportRow) (functions : List Function) (number : ℕ) (function : Function) → number < length functions → function ≡ get_or functions number function
      → rows' ≡ rows ++ code_rows tally kinds number 0 function.code.items → rows ++ function_rows tally kinds number (map function_of (drop number functions)) ≡ all
      → rows' ++ function_rows tally kinds (number + 1) (map function_of (drop (number + 1) functions)) ≡ all
  function_next rows rows' all functions number function lt is new before =
      let own = code_rows tally kinds number 0 function.code.items in
      let rest = map function_of (drop (number + 1) functions) in
      let next : number + 1 ≡ suc number = omega arith in
      let split : drop number functions ≡ function ∷ drop (number + 1) functions = drop_more functions number function lt ∙ ap (λ x. x ∷ drop (number + 1) functions) (sym is) in
      ap (λ r. r ++ function_rows tally kinds (number + 1) rest) new ∙ append_assoc rows own (function_rows tally kinds (number + 1) rest)
      ∙ ap (λ n. rows ++ (own ++ function_rows tally kinds n rest)) next ∙ ap (λ fs. rows ++ function_rows tally kinds number (map function_of fs)) (sym split) ∙ before

  pub functions_end : (rows all : List ReportRow) (functions : List Function) (number : ℕ) → length functions ≤ number → rows ++ function_rows tally kinds number (map function_of (drop number functions)) ≡ all → rows ≡ all
  functions_end rows all functions number le before = sym (append-nil rows) ∙ ap (λ fs. rows ++ function_rows tally kinds number (map function_of fs)) (sym (drop_all number functions le)) ∙ before
