-- The numbers of a key as one thing. What a header gives to a key is proved field by field; a list of 37 numbers that
-- stands in each goal makes that slow.
use Rattle.std.specs.Prelude.{ℕ, List}
use Rattle.ovs_fields.specs.declared.key.Key.{Key}
use Rattle.ovs_fields.specs.Packed.{numbers}

unfoldable pub folded : Key → List ℕ
folded key = numbers key
