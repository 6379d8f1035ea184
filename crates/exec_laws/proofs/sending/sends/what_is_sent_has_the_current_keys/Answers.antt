use Rattle.exec_laws.proofs.sending.Sent.{sent-ports, sent-made, sent-turned, sent-keys, sent-short}
use Rattle.exec_laws.proofs.sending.sends.what_is_sent_has_the_current_keys.Goals as goal

pub returns-clause-ports : goal.returns-clause-ports
returns-clause-ports c = sent-ports

pub returns-clause-made : goal.returns-clause-made
returns-clause-made c sw port frame push came = sent-made port frame came sw push

pub returns-clause-field_by_field : goal.returns-clause-field_by_field
returns-clause-field_by_field c sw port frame push came none = sent-turned port frame came sw push none

pub returns-clause-as_a_whole : goal.returns-clause-as_a_whole
returns-clause-as_a_whole c sw port frame push came none headers = sent-keys port frame came sw push none headers

pub returns-clause-short : goal.returns-clause-short
returns-clause-short c = sent-short
