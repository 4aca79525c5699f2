-- What a run's answer becomes.
use Rattle.image_form.specs.declared.image.MachineLimits.{MachineLimits}
use Rattle.pool_isa.specs.Ranges.{IsWithin}
use Rattle.machine.specs.declared.ends.RunEnd.{RunEnd}
use Rattle.machine.specs.declared.ends.RunEnd.TheVariants as E
use Rattle.pcc_words.specs.declared.status.Status.{Status}
use Rattle.pcc_words.specs.declared.status.Status.TheVariants as S
use Rattle.ref_meaning.specs.declared.run.RefEnd.{RefEnd}
use Rattle.ref_meaning.specs.declared.run.RefEnd.TheVariants as R

-- limits that an image may have
abbrev pub AreInRange : MachineLimits → Type 0
AreInRange limits = IsWithin 1 1048576 limits.slabs × IsWithin 1 4294967295 limits.index

-- the answer of the machine's run as the answer of the command
abbrev pub status_seen : RunEnd → Status
status_seen (E.Ended status) = S.Program status
status_seen E.Depth = S.Depth
status_seen E.HeapExhausted = S.HeapExhausted
status_seen E.IndexExhausted = S.IndexExhausted
status_seen E.StepsSpent = S.StepsSpent
status_seen (E.Trapped kind) = S.Trapped kind
status_seen E.ReadFault = S.ReadFault
status_seen E.WriteFault = S.WriteFault
status_seen E.OutOfMemory = S.OutOfMemory

-- the answer of the reference's run as the answer of the command
abbrev pub end_seen : RefEnd → Status
end_seen (R.Ended status) = S.Program status
end_seen R.Depth = S.Depth
end_seen (R.Undefined kind place) = S.Undefined kind place
end_seen R.StepsSpent = S.StepsSpent
end_seen R.ReadFault = S.ReadFault
end_seen R.WriteFault = S.WriteFault
end_seen R.OutOfMemory = S.OutOfMemory
