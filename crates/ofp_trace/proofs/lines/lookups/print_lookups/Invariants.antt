use Rattle.std.proofs.Common.{◌≡◌, ◌++◌, take, string_bytes}
use Rattle.std.specs.List.{flat_map}
use Rattle.spec_tools.specs.TraceTexts.{lookup_line}
use Rattle.dump_lines.specs.Live.{live_in}
use Rattle.ofp_trace.proofs.lines.lookups.print_lookups.Given as goal

-- the lines of the lookups so far
abbrev pub invariant-lookups : goal.invariant-lookups
invariant-lookups l =
    string_bytes l.out ≡ string_bytes l.fn.out ++ flat_map (lookup_line (live_in l.rules)) (take l.lookup-index l.lookups)
