use Rattle.exec_laws.proofs.checksums.Actions.{pushed-same, popped-same}
use Rattle.exec_laws.proofs.checksums.tags.tags_change_nothing_that_is_covered.Goals as goal

pub returns-clause-push_header : goal.returns-clause-push_header
returns-clause-push_header c tpid tci frame typed room = (pushed-same tpid tci frame typed room).header

pub returns-clause-push_transport : goal.returns-clause-push_transport
returns-clause-push_transport c tpid tci frame typed room = (pushed-same tpid tci frame typed room).transport

pub returns-clause-pop_header : goal.returns-clause-pop_header
returns-clause-pop_header c frame single = (popped-same frame single).header

pub returns-clause-pop_transport : goal.returns-clause-pop_transport
returns-clause-pop_transport c frame single = (popped-same frame single).transport
