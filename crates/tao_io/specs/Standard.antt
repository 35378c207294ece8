-- What a source over a reader of std, and a sink over a writer of std, are made of.
use Rattle.std.specs.Prelude.{ℕ}
use Rattle.tao_io.specs.declared.standard.StdSource.{StdSource}
use Rattle.tao_io.specs.declared.standard.StdSink.{StdSink}

-- the reader that a source reads from
abbrev pub reader_of : {R : Type 0} → StdSource R → R
reader_of s = s.reader

-- how often the reader failed
abbrev pub read_faults : {R : Type 0} → StdSource R → ℕ
read_faults s = s.faults

-- the writer that a sink writes to
abbrev pub writer_of : {W : Type 0} → StdSink W → W
writer_of s = s.writer

-- how often the writer failed, or took none of a piece that isn't empty
abbrev pub write_faults : {W : Type 0} → StdSink W → ℕ
write_faults s = s.faults
