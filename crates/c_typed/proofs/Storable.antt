-- Types that are small and filled are both.
use Rattle.std.proofs.Common.{◌≡◌, Bool, true, false, ◌&&◌, List, [], ◌∷◌, Option, Some, None, refl}
use Rattle.std.proofs.lemmas.Bool.{and_parts, and_from}
use Rattle.c_typed.specs.Types.{CType, literal_type}
use Rattle.c_typed.specs.Typed as T
use Rattle.c_typed.specs.Typed.{Value, Object, Designator, Values, Stmt, Block, SwitchItems, LocalDef, ForStart, GlobalDef, LiteralDef, FunctionDef, Program}
use Rattle.c_typed.specs.Sizes.{makes, all_make, object_makes, designator_makes, any_makes, local_makes, locals_make, start_makes, stmt_makes, block_makes, items_make, functions_make, globals_make, literals_make, program_makes, is_small, fills, HasSmallTypes, IsFilled, HasStorableTypes}

module _ (one other : CType → Bool) where
  abbrev both : CType → Bool
  both t = one t && other t

  -- two parts, each of which makes both kinds
  joined : (a b a' b' c d : Bool) → (a && b) ≡ true → (a' && b') ≡ true → (a ≡ true → a' ≡ true → c ≡ true) → (b ≡ true → b' ≡ true → d ≡ true) → (c && d) ≡ true
  joined a b a' b' c d first second left right =
      let p = and_parts a b first in
      let q = and_parts a' b' second in
      and_from c d (left p.0 q.0) (right p.1 q.1)

  -- a value of one kind and of another is of both
  abbrev Both : Value → Type 0
  Both v = makes one v ≡ true → makes other v ≡ true → makes both v ≡ true

  two : (a b : Value) → Both a → Both b → (makes one a && makes one b) ≡ true → (makes other a && makes other b) ≡ true → (makes both a && makes both b) ≡ true
  two a b left right h k = joined (makes one a) (makes one b) (makes other a) (makes other b) (makes both a) (makes both b) h k left right

  stored : (o : Object) (v : Value) → (object_makes one o ≡ true → object_makes other o ≡ true → object_makes both o ≡ true) → Both v
      → (object_makes one o && makes one v) ≡ true → (object_makes other o && makes other v) ≡ true → (object_makes both o && makes both v) ≡ true
  stored o v left right h k = joined (object_makes one o) (makes one v) (object_makes other o) (makes other v) (object_makes both o) (makes both v) h k left right

  tested : (v : Value) (s : Stmt) → Both v → (stmt_makes one s ≡ true → stmt_makes other s ≡ true → stmt_makes both s ≡ true)
      → (makes one v && stmt_makes one s) ≡ true → (makes other v && stmt_makes other s) ≡ true → (makes both v && stmt_makes both s) ≡ true
  tested v s left right h k = joined (makes one v) (stmt_makes one s) (makes other v) (stmt_makes other s) (makes both v) (stmt_makes both s) h k left right

  mutual
    value_both : (v : Value) → makes one v ≡ true → makes other v ≡ true → makes both v ≡ true
    value_both (T.Constant int_type z) h k = refl
    value_both T.NullPointer h k = refl
    value_both (T.Grouped inner) h k = value_both inner h k
    value_both (T.Read place object) h k = object_both object h k
    value_both (T.Decay place object) h k = object_both object h k
    value_both (T.FunctionValue function) h k = designator_both function h k
    value_both (T.Converted int_type value) h k = value_both value h k
    value_both (T.Repointed place target value) h k =
        joined (one target) (makes one value) (other target) (makes other value) (both target) (makes both value) h k (and_from (one target) (other target)) (value_both value)
    value_both (T.MadeNull target value) h k = value_both value h k
    value_both (T.Tested place value) h k = value_both value h k
    value_both (T.Plus operand) h k = value_both operand h k
    value_both (T.Minus place int_type operand) h k = value_both operand h k
    value_both (T.Complement int_type operand) h k = value_both operand h k
    value_both (T.Not operand) h k = value_both operand h k
    value_both (T.Arithmetic op place int_type left right) h k = two left right (value_both left) (value_both right) h k
    value_both (T.Compare relation left right) h k = two left right (value_both left) (value_both right) h k
    value_both (T.ComparePointers relation place left right) h k = two left right (value_both left) (value_both right) h k
    value_both (T.PointerPlus place pointer number) h k = two pointer number (value_both pointer) (value_both number) h k
    value_both (T.NumberPlus place number pointer) h k = two number pointer (value_both number) (value_both pointer) h k
    value_both (T.PointerMinus place pointer number) h k = two pointer number (value_both pointer) (value_both number) h k
    value_both (T.PointerDifference place left right) h k = two left right (value_both left) (value_both right) h k
    value_both (T.And left right) h k = two left right (value_both left) (value_both right) h k
    value_both (T.Or left right) h k = two left right (value_both left) (value_both right) h k
    value_both (T.Conditional condition taken otherwise) h k =
        joined (makes one condition && makes one taken) (makes one otherwise) (makes other condition && makes other taken) (makes other otherwise) (makes both condition && makes both taken) (makes both otherwise)
        h k (two condition taken (value_both condition) (value_both taken)) (value_both otherwise)
    value_both (T.AddressOf place object) h k = object_both object h k
    value_both (T.AddressOfFunction function) h k = designator_both function h k
    value_both (T.Cast value) h k = value_both value h k
    value_both (T.CastVoid value) h k = value_both value h k
    value_both (T.Assign place object value) h k = stored object value (object_both object) (value_both value) h k
    value_both (T.AssignArithmetic op place object_type int_type object value) h k = stored object value (object_both object) (value_both value) h k
    value_both (T.AssignMoved is_minus place object number) h k = stored object number (object_both object) (value_both number) h k
    value_both (T.StepInteger stepping place int_type object) h k = object_both object h k
    value_both (T.StepPointer stepping place object) h k = object_both object h k
    value_both (T.Call is_used place function c_type arguments) h k =
        joined (designator_makes one function) (all_make one arguments) (designator_makes other function) (all_make other arguments) (designator_makes both function) (all_make both arguments)
        h k (designator_both function) (values_both arguments)
    value_both (T.LibraryCall function groups place arguments) h k = values_both arguments h k

    values_both : (vs : Values) → all_make one vs ≡ true → all_make other vs ≡ true → all_make both vs ≡ true
    values_both T.NoValues h k = refl
    values_both (T.MoreValues first others) h k =
        joined (makes one first) (all_make one others) (makes other first) (all_make other others) (makes both first) (all_make both others) h k (value_both first) (values_both others)

    object_both : (o : Object) → object_makes one o ≡ true → object_makes other o ≡ true → object_makes both o ≡ true
    object_both (T.Local number) h k = refl
    object_both (T.Global name) h k = refl
    object_both (T.Literal place bytes) h k = refl
    object_both (T.GroupedObject place inner) h k = object_both inner h k
    object_both (T.Pointed place pointer) h k = value_both pointer h k
    object_both (T.Element place pointer number) h k = two pointer number (value_both pointer) (value_both number) h k
    object_both (T.ElementOf place number pointer) h k = two number pointer (value_both number) (value_both pointer) h k
    object_both (T.MemberOf place object number) h k = object_both object h k
    object_both (T.PointedMember place pointer number) h k = value_both pointer h k

    designator_both : (d : Designator) → designator_makes one d ≡ true → designator_makes other d ≡ true → designator_makes both d ≡ true
    designator_both (T.Function name) h k = refl
    designator_both (T.GroupedFunction inner) h k = designator_both inner h k
    designator_both (T.PointedFunction place pointer) h k = value_both pointer h k
    designator_both (T.ThroughPointer place pointer) h k = value_both pointer h k

  any_both : (v : Option Value) → any_makes one v ≡ true → any_makes other v ≡ true → any_makes both v ≡ true
  any_both None h k = refl
  any_both (Some value) h k = value_both value h k

  local_both : (l : LocalDef) → local_makes one l ≡ true → local_makes other l ≡ true → local_makes both l ≡ true
  local_both l h k =
      joined (one l.c_type) (any_makes one l.first) (other l.c_type) (any_makes other l.first) (both l.c_type) (any_makes both l.first) h k (and_from (one l.c_type) (other l.c_type)) (any_both l.first)

  locals_both : (ls : List LocalDef) → locals_make one ls ≡ true → locals_make other ls ≡ true → locals_make both ls ≡ true
  locals_both [] h k = refl
  locals_both (first ∷ others) h k =
      joined (local_makes one first) (locals_make one others) (local_makes other first) (locals_make other others) (local_makes both first) (locals_make both others) h k (local_both first) (locals_both others)

  start_both : (s : ForStart) → start_makes one s ≡ true → start_makes other s ≡ true → start_makes both s ≡ true
  start_both T.StartNothing h k = refl
  start_both (T.StartValue value) h k = value_both value h k
  start_both (T.StartLocals locals) h k = locals_both locals h k

  mutual
    stmt_both : (s : Stmt) → stmt_makes one s ≡ true → stmt_makes other s ≡ true → stmt_makes both s ≡ true
    stmt_both (T.BlockStmt items) h k = block_both items h k
    stmt_both T.Empty h k = refl
    stmt_both (T.Expression value) h k = value_both value h k
    stmt_both (T.If condition taken) h k = tested condition taken (value_both condition) (stmt_both taken) h k
    stmt_both (T.IfElse condition taken otherwise) h k =
        joined (makes one condition && stmt_makes one taken) (stmt_makes one otherwise) (makes other condition && stmt_makes other taken) (stmt_makes other otherwise) (makes both condition && stmt_makes both taken) (stmt_makes both otherwise)
        h k (tested condition taken (value_both condition) (stmt_both taken)) (stmt_both otherwise)
    stmt_both (T.While condition body) h k = tested condition body (value_both condition) (stmt_both body) h k
    stmt_both (T.DoWhile body condition) h k =
        joined (stmt_makes one body) (makes one condition) (stmt_makes other body) (makes other condition) (stmt_makes both body) (makes both condition) h k (stmt_both body) (value_both condition)
    stmt_both (T.For start condition step body) h k =
        joined (start_makes one start && any_makes one condition && any_makes one step) (stmt_makes one body)
        (start_makes other start && any_makes other condition && any_makes other step) (stmt_makes other body)
        (start_makes both start && any_makes both condition && any_makes both step) (stmt_makes both body) h k
        (λ h' k'. joined (start_makes one start && any_makes one condition) (any_makes one step) (start_makes other start && any_makes other condition) (any_makes other step)
        (start_makes both start && any_makes both condition) (any_makes both step) h' k'
        (λ h'' k''. joined (start_makes one start) (any_makes one condition) (start_makes other start) (any_makes other condition) (start_makes both start) (any_makes both condition) h'' k''
        (start_both start) (any_both condition)) (any_both step))
        (stmt_both body)
    stmt_both (T.Switch value items) h k =
        joined (makes one value) (items_make one items) (makes other value) (items_make other items) (makes both value) (items_make both items) h k (value_both value) (items_both items)
    stmt_both T.Break h k = refl
    stmt_both T.Continue h k = refl
    stmt_both (T.Return value) h k = any_both value h k

    block_both : (b : Block) → block_makes one b ≡ true → block_makes other b ≡ true → block_makes both b ≡ true
    block_both T.Close h k = refl
    block_both (T.Declare local others) h k =
        joined (local_makes one local) (block_makes one others) (local_makes other local) (block_makes other others) (local_makes both local) (block_makes both others) h k (local_both local) (block_both others)
    block_both (T.Perform stmt others) h k =
        joined (stmt_makes one stmt) (block_makes one others) (stmt_makes other stmt) (block_makes other others) (stmt_makes both stmt) (block_makes both others) h k (stmt_both stmt) (block_both others)

    items_both : (s : SwitchItems) → items_make one s ≡ true → items_make other s ≡ true → items_make both s ≡ true
    items_both T.SwitchEnd h k = refl
    items_both (T.Case label others) h k = items_both others h k
    items_both (T.Default others) h k = items_both others h k
    items_both (T.SwitchStmt stmt others) h k =
        joined (stmt_makes one stmt) (items_make one others) (stmt_makes other stmt) (items_make other others) (stmt_makes both stmt) (items_make both others) h k (stmt_both stmt) (items_both others)

  functions_both : (fs : List FunctionDef) → functions_make one fs ≡ true → functions_make other fs ≡ true → functions_make both fs ≡ true
  functions_both [] h k = refl
  functions_both (first ∷ others) h k =
      joined (block_makes one first.body) (functions_make one others) (block_makes other first.body) (functions_make other others) (block_makes both first.body) (functions_make both others)
      h k (block_both first.body) (functions_both others)

  globals_both : (gs : List GlobalDef) → globals_make one gs ≡ true → globals_make other gs ≡ true → globals_make both gs ≡ true
  globals_both [] h k = refl
  globals_both (first ∷ others) h k =
      joined (one first.c_type) (globals_make one others) (other first.c_type) (globals_make other others) (both first.c_type) (globals_make both others)
      h k (and_from (one first.c_type) (other first.c_type)) (globals_both others)

  literals_both : (ls : List LiteralDef) → literals_make one ls ≡ true → literals_make other ls ≡ true → literals_make both ls ≡ true
  literals_both [] h k = refl
  literals_both (first ∷ others) h k =
      joined (one (literal_type first.bytes)) (literals_make one others) (other (literal_type first.bytes)) (literals_make other others) (both (literal_type first.bytes)) (literals_make both others)
      h k (and_from (one (literal_type first.bytes)) (other (literal_type first.bytes))) (literals_both others)

  pub program_both : (p : Program) → program_makes one p ≡ true → program_makes other p ≡ true → program_makes (λ t. one t && other t) p ≡ true
  program_both p h k =
      joined (globals_make one p.globals && literals_make one p.literals) (functions_make one p.functions)
      (globals_make other p.globals && literals_make other p.literals) (functions_make other p.functions)
      (globals_make both p.globals && literals_make both p.literals) (functions_make both p.functions) h k
      (λ h' k'. joined (globals_make one p.globals) (literals_make one p.literals) (globals_make other p.globals) (literals_make other p.literals) (globals_make both p.globals) (literals_make both p.literals) h' k'
      (globals_both p.globals) (literals_both p.literals))
      (functions_both p.functions)

pub storable_types : (program : Program) → HasSmallTypes program → IsFilled program → HasStorableTypes program
storable_types program small filled = (filled.0, program_both (is_small program.structs) (fills program.structs) program small filled.1)
