-- The store before a program runs, while first values are not stored yet.
use Rattle.std.specs.Prelude.{true, [], Option, Some, None}
use Rattle.c_typed.specs.Types.{CType}
use Rattle.c_typed.specs.Typed.{Program}
use Rattle.ref_semantics.specs.Values.{GlobalObject, LiteralObject, Content, Dead, Elements}
use Rattle.ref_semantics.specs.Store.{Objects}
use Rattle.ref_semantics.specs.First.{around_of, type_of_global, literal_at, literal_content, first_state}
use Rattle.ref_meaning.specs.declared.store.Store.{Store}
use Rattle.ref_meaning.specs.RefStore.Holding.{At}

abbrev pub unfilled : Option CType → Content
unfilled (Some c_type) = Elements true c_type 1 (λ offset. None)
unfilled None = Dead

-- the variables outside functions, all of them zero or null, and the literals
abbrev pub unfilled_objects : Program → Objects
unfilled_objects program (GlobalObject name) = unfilled (type_of_global program.globals name)
unfilled_objects program (LiteralObject place) = literal_content (literal_at program.literals place)
unfilled_objects program _ = Dead

abbrev pub IsUnfilled : Program → Store → Type 0
IsUnfilled program store = At (around_of program) store 0 (record (first_state program [] 0) { objects = unfilled_objects program })
