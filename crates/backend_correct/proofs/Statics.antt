-- The static objects of an accepted program take no more bytes than their limit.
use Rattle.std.proofs.Common.{◌≡◌, ℕ, suc, ◌+◌, ◌*◌, ◌≤◌, List, [], ◌∷◌, length, map, sym, subst, arith}
use Rattle.c_typed.specs.Types.{literal_type}
use Rattle.c_typed.specs.Layouts.{StructDef, Layout, aligned, layouts, layout_of}
use Rattle.c_typed.specs.Typed.{GlobalDef, LiteralDef, Program}
use Rattle.c_types.specs.Limits.{rounded, globals_size, literals_size}
use Rattle.tac_ir.specs.Code.{Tac}
use Rattle.tac_build.specs.ProgramCode.{Code}
use Rattle.pool_rewrite.specs.Placing.{static_layouts, statics_size}
use Rattle.backend_correct.proofs.Aligned.{layout_aligns, whole_size, AreAligned, end_within, both_aligned, both_whole}
use Rattle.backend_correct.proofs.Limited.{greatest_statics, static_sum, IsLimited}

module _ (structs : List StructDef) where
  abbrev global_layouts : List GlobalDef → List Layout
  global_layouts globals = map (λ (global : GlobalDef). layout_of structs global.c_type) globals

  abbrev literal_layouts : List LiteralDef → List Layout
  literal_layouts literals = map (λ (literal : LiteralDef). layout_of structs (literal_type literal.bytes)) literals

  globals_aligned : (globals : List GlobalDef) → AreAligned (global_layouts globals)
  globals_aligned [] = tt
  globals_aligned (first ∷ others) = (layout_aligns structs first.c_type, globals_aligned others)

  literals_aligned : (literals : List LiteralDef) → AreAligned (literal_layouts literals)
  literals_aligned [] = tt
  literals_aligned (first ∷ others) = (layout_aligns structs (literal_type first.bytes), literals_aligned others)

  -- the limit counts each size rounded up
  globals_whole : (globals : List GlobalDef) → globals_size (layouts structs) globals ≤ greatest_statics → whole_size (global_layouts globals) ≤ globals_size (layouts structs) globals
  globals_whole [] h = omega arith
  globals_whole (first ∷ others) h =
      let exact = static_sum (rounded (layouts structs) first.c_type) (globals_size (layouts structs) others) h in
      let sum = exact.sum in
      let rest = globals_whole others exact.second in
      omega (arith, sum, rest)

  literals_whole : (literals : List LiteralDef) → literals_size literals ≤ greatest_statics → whole_size (literal_layouts literals) ≤ literals_size literals
  literals_whole [] h = omega arith
  literals_whole (first ∷ others) h =
      let exact = static_sum (aligned 8 (suc (length first.bytes))) (literals_size others) h in
      let sum = exact.sum in
      let rest = literals_whole others exact.second in
      omega (arith, sum, rest)

statics_within : (program : Program) (tac : Tac) → Code program tac → IsLimited program → statics_size tac ≤ globals_size (layouts program.structs) program.globals + literals_size program.literals
statics_within program tac code limited =
    let globals = global_layouts tac.structs tac.globals in
    let literals = literal_layouts tac.structs tac.literals in
    let ends = end_within (static_layouts tac) 0 0 (both_aligned globals literals (globals_aligned tac.structs tac.globals) (literals_aligned tac.structs tac.literals)) (omega arith) in
    let exact = static_sum (globals_size (layouts program.structs) program.globals) (literals_size program.literals) limited.statics in
    let same_globals : whole_size globals ≡ whole_size (global_layouts program.structs program.globals) = λ i. whole_size (global_layouts (code.structs i) (code.globals i)) in
    let same_literals : whole_size literals ≡ whole_size (literal_layouts program.structs program.literals) = λ i. whole_size (literal_layouts (code.structs i) (code.literals i)) in
    by (statics_size tac) (whole_size (static_layouts tac)) (whole_size globals) (whole_size literals) (globals_size (layouts program.structs) program.globals) (literals_size program.literals) ends (both_whole globals literals)
    (subst (λ size. size ≤ globals_size (layouts program.structs) program.globals) (sym same_globals) (globals_whole program.structs program.globals exact.first))
    (subst (λ size. size ≤ literals_size program.literals) (sym same_literals) (literals_whole program.structs program.literals exact.second))
  where
    by : (size whole first second one other : ℕ) → size ≤ 8 * 0 + whole → whole ≡ first + second → first ≤ one → second ≤ other → size ≤ one + other
    by size whole first second one other most is low less = omega (arith, most, is, low, less)

pub statics_small : (program : Program) (tac : Tac) → Code program tac → IsLimited program → statics_size tac ≤ 1073741824
statics_small program tac code limited =
    let within = statics_within program tac code limited in
    let sum = (static_sum (globals_size (layouts program.structs) program.globals) (literals_size program.literals) limited.statics).sum in
    let low = limited.statics in
    by (statics_size tac) (globals_size (layouts program.structs) program.globals + literals_size program.literals) within (subst (λ size. size ≤ greatest_statics) sum low)
  where
    by : (size most : ℕ) → size ≤ most → most ≤ greatest_statics → size ≤ 1073741824
    by size most low less = omega (arith, low, less)
