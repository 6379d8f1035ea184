use Rattle.std.proofs.Common.{refl}
use Rattle.address_prefixes.proofs.tracker.LookLaws.{adds_apart}
use Rattle.address_prefixes.proofs.tracker.look.with_apart.Goals as goal

pub returns : goal.returns
returns c w x ps apart some = adds_apart w x c.args.common c.args.found _ ps refl c.max.ensures apart some
