use Rattle.std.proofs.lemmas.Result.{IfOk-weaker}
use Rattle.graph_checker.proofs.Decided.{fails_by}
use Rattle.graph_checker.proofs.sound.are_names_sound.Goals as goal

pub returns-then-not-names_are_slots : goal.returns-then-not-names_are_slots
returns-then-not-names_are_slots c = λ table. fails_by c.names_are_slots.result (c.names_are_slots.ensures table) (λ sound. sound.slots) c.if-not-names_are_slots.true

pub returns : goal.returns
returns c =
    IfOk-weaker c.names_are_own.result _ _
    (λ own is. λ table.
    ((λ t. record { slots = (c.names_are_slots.ensures table).0 c.if-not-names_are_slots.false; own = (is table).0 t }), (λ sound. (is table).1 sound.own)))
    c.names_are_own.ensures
