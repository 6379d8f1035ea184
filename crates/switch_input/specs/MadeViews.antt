-- What a number makes, as files.
use Rattle.std.specs.Fmt.{decimal}
use Rattle.spec_base.specs.Files.{File}
use Rattle.trace_gen.specs.declared.made.MadeTrace.{MadeTrace}

-- a trace, named by the number of its port
abbrev pub file_by_port : MadeTrace → File
file_by_port trace = (decimal trace.port, trace.bytes.items)
