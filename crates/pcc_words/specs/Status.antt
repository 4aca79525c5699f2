-- The exit status of the program for each answer.
use Rattle.std.specs.Prelude.{ℕ}
use Rattle.pcc_words.specs.declared.status.Status.{Status}
use Rattle.pcc_words.specs.declared.status.Status.TheVariants as S

abbrev pub exit_status_of : Status → ℕ
exit_status_of (S.Program status) = status
exit_status_of S.Done = 0
exit_status_of (S.Usage kind) = 240
exit_status_of (S.Refused refusal) = 241
exit_status_of S.SourceTooLong = 242
exit_status_of S.ImageTooLong = 243
exit_status_of (S.BadImage at) = 244
exit_status_of (S.Undefined kind place) = 245
exit_status_of (S.Trapped kind) = 246
exit_status_of S.Depth = 247
exit_status_of S.HeapExhausted = 248
exit_status_of S.IndexExhausted = 249
exit_status_of S.StepsSpent = 250
exit_status_of S.ReadFault = 251
exit_status_of S.WriteFault = 252
exit_status_of S.OutOfMemory = 253
