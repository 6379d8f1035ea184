-- A tag as the definitions have it.
use Rattle.spec_xlate.specs.Tags as tags
use Rattle.named_fields.specs.declared.tags.VlanTag.{VlanTag}

abbrev pub tag_view : VlanTag → tags.VlanTag
tag_view t = record { tpid = t.tpid; tci = t.tci }
