-- The wrappers of readers and writers of std, for contracts.
use Rattle.std.specs.Prelude.{ℕ, Bool, List, Option}
use Rattle.lotos_device.specs.DeviceStates.{SinkState, SourceState}
use Rattle.lotos_device.specs.declared.device.FromRead.{FromRead}
use Rattle.lotos_device.specs.declared.device.FromWrite.{FromWrite}

-- the reader that is wrapped as a source
abbrev pub wrapped_reader : {R : Type 0} → FromRead R → R
wrapped_reader source = source.inner

-- whether a read of a wrapped reader has failed
abbrev pub reader_failed : {R : Type 0} → FromRead R → Bool
reader_failed source = source.failed

-- how many bytes a wrapped reader has given
abbrev pub reader_given : {R : Type 0} → FromRead R → ℕ
reader_given source = source.given

-- the writer that is wrapped as a sink
abbrev pub wrapped_writer : {W : Type 0} → FromWrite W → W
wrapped_writer sink = sink.inner

-- whether a write or a flush of a wrapped writer has failed
abbrev pub writer_failed : {W : Type 0} → FromWrite W → Bool
writer_failed sink = sink.failed

-- the state of a source, if these bytes remain for its reader
abbrev pub source_of : {R : Type 0} → (R → Option (List ℕ)) → FromRead R → SourceState
source_of left source =
    record { remaining = left (wrapped_reader source); given = reader_given source; has_failed = reader_failed source }

-- the state of a sink, if these bytes were written to its writer
abbrev pub sink_of : {W : Type 0} → (W → Option (List ℕ)) → FromWrite W → SinkState
sink_of got sink = record { written = got (wrapped_writer sink); has_failed = writer_failed sink }
