-- What a clause reads of the sources and sinks of the host.
use Rattle.std.specs.Prelude.{ℕ}
use Rattle.pcc_outside.specs.declared.host.StdSource.{StdSource}
use Rattle.pcc_outside.specs.declared.host.StdSink.{StdSink}

-- the reader that a source reads from
abbrev pub source_reader : {R : Type 0} → StdSource R → R
source_reader source = source.reader

-- how many of its calls have failed
abbrev pub source_faults : {R : Type 0} → StdSource R → ℕ
source_faults source = source.faults

-- the writer that a sink writes to
abbrev pub sink_writer : {W : Type 0} → StdSink W → W
sink_writer sink = sink.writer

-- how many of its calls have failed
abbrev pub sink_faults : {W : Type 0} → StdSink W → ℕ
sink_faults sink = sink.faults
