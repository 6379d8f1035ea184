use Rattle.std.proofs.Common.{◌≡◌, ◌≤◌, length}
use Rattle.spec_frames.specs.declared.headers.Fragment.TheVariants.{Whole}
use Rattle.spec_frames.specs.Ipv6.{and_after, upper_layer, most_extensions}
use Rattle.frame_keys.proofs.headers.Chain.{rest}
use Rattle.frame_keys.proofs.headers.ipv6.upper_layer.Given as goal

abbrev pub invariant-extensions : goal.invariant-extensions
invariant-extensions l = record {
  near : l.upper.at ≤ length l.frame;
  not_later : and_after l.upper.fragment Whole ≡ l.upper.fragment;
  so_far : rest l.upper l.room l.frame l.end ≡ upper_layer most_extensions l.frame l.end l.number l.at;
}

abbrev pub decreases-extensions : goal.decreases-extensions
decreases-extensions l = l.room
