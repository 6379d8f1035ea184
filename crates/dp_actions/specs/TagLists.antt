-- Tags as the definitions have them, and the actions that push them.
use Rattle.std.specs.Prelude.{List, [], map}
use Rattle.spec_actions.specs.declared.action.DpAction.{DpAction}
use Rattle.spec_actions.specs.declared.action.DpAction.TheVariants.{PushVlan}
use Rattle.spec_xlate.specs.Tags as tags
use Rattle.named_fields.specs.declared.tags.VlanTag.{VlanTag}
use Rattle.named_fields.specs.TagViews.{tag_view}
use Rattle.dp_actions.specs.declared.key_tags.KeyTags.{KeyTags}
use Rattle.dp_actions.specs.declared.key_tags.KeyTags.TheVariants.{None, One, Two}

abbrev pub tag_list : List VlanTag → List tags.VlanTag
tag_list ts = map tag_view ts

abbrev pub tags_in : KeyTags → List tags.VlanTag
tags_in None = []
tags_in (One ts) = tag_list ts
tags_in (Two ts) = tag_list ts

abbrev pub pushing : List VlanTag → List DpAction
pushing ts = map (λ (t : VlanTag). PushVlan t.tpid t.tci) ts
