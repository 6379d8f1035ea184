use Rattle.std.proofs.Common.{Result, Ok, Err}
use Rattle.std.specs.Result.{OnErr}
use Rattle.spec_keys.specs.declared.field_id.FieldId.TheVariants.{NwSrc, NwDst, Ipv6Src, Ipv6Dst}
use Rattle.ovs_fields.specs.Packed.{numbers, bits}
use Rattle.address_prefixes.proofs.AddressLaws.{ipv4_more, ipv6_more}
use Rattle.address_prefixes.proofs.PairLaws.{pair_wide, pair_widths, more_widths, pair_few, pair_alike, pair_in_and_out, pair_there}
use Rattle.address_prefixes.proofs.address_prefixes.AddressPrefixes.insert.Goals as goal

-- what holds anyway, holds where there is an error
in_error : {T E P : Type 0} (r : Result T E) → P → OnErr r P
in_error (Ok x) p = tt
in_error (Err e) p = p

pub insert_pair-requires-clause-widths : goal.insert_pair-requires-clause-widths
insert_pair-requires-clause-widths c = pair_widths c.new-prefixes.result.ipv4 c.args.self.now.ipv4 NwSrc NwDst (bits c.args.matching.now.mask) c.new-prefixes.ensures.ipv4 (pair_wide c.args.self.now.ipv4 NwSrc NwDst c.requires.0 c.requires.1.ipv4)

pub insert_pair-requires-clause-few : goal.insert_pair-requires-clause-few
insert_pair-requires-clause-few c = pair_few c.args.self.now.ipv4 NwSrc NwDst c.requires.0 c.requires.1.ipv4 c.requires.2

pub returns-in_err-insert_pair-clause-err : goal.returns-in_err-insert_pair-clause-err
returns-in_err-insert_pair-clause-err c =
    in_error c.from_residual.result (λ rs is. record { ipv4 = pair_alike c.args.self.now.ipv4 c.insert_pair.new.pair NwSrc NwDst rs is.ipv4 c.in_err-insert_pair.ensures.err; ipv6 = is.ipv6 })

pub insert_pair-requires-2-clause-widths : goal.insert_pair-requires-2-clause-widths
insert_pair-requires-2-clause-widths c = pair_widths c.new-prefixes.result.ipv6 c.args.self.now.ipv6 Ipv6Src Ipv6Dst (bits c.args.matching.now.mask) c.new-prefixes.ensures.ipv6 (pair_wide c.args.self.now.ipv6 Ipv6Src Ipv6Dst c.requires.0 c.requires.1.ipv6)

pub insert_pair-requires-2-clause-few : goal.insert_pair-requires-2-clause-few
insert_pair-requires-2-clause-few c = pair_few c.args.self.now.ipv6 Ipv6Src Ipv6Dst c.requires.0 c.requires.1.ipv6 c.requires.2

pub returns-in-Ok-clause-ok : goal.returns-in-Ok-clause-ok
returns-in-Ok-clause-ok c rs all r are is one = record {
  ipv4 = ipv4_more c.args.matching.now c.new-prefixes.result c.new-prefixes.ensures r is c.args.self.now.ipv4 c.insert_pair.new.pair rs all are.ipv4 c.in_ok-insert_pair.ensures.ok one;
  ipv6 = ipv6_more c.args.matching.now c.new-prefixes.result c.new-prefixes.ensures r is c.args.self.now.ipv6 c.insert_pair-2.new.pair rs all are.ipv6 c.in-Ok.ensures.ok one;
}

pub remove_pair-requires-clause-widths : goal.remove_pair-requires-clause-widths
remove_pair-requires-clause-widths c =
    let are = pair_widths c.new-prefixes.result.ipv4 c.args.self.now.ipv4 NwSrc NwDst (bits c.args.matching.now.mask) c.new-prefixes.ensures.ipv4 (pair_wide c.args.self.now.ipv4 NwSrc NwDst c.requires.0 c.requires.1.ipv4) in
    more_widths c.new-prefixes.result.ipv4 (numbers c.args.matching.now.key) c.new-prefixes.result.ipv4.src.field c.new-prefixes.result.ipv4.dst.field c.args.self.now.ipv4 c.insert_pair.new.pair c.in_ok-insert_pair.ensures.ok are

pub remove_pair-requires-clause-there : goal.remove_pair-requires-clause-there
remove_pair-requires-clause-there c = pair_there c.new-prefixes.result.ipv4 (numbers c.args.matching.now.key) c.args.self.now.ipv4 c.insert_pair.new.pair c.in_ok-insert_pair.ensures.ok

pub returns-in-Err-clause-err : goal.returns-in-Err-clause-err
returns-in-Err-clause-err c rs is = record {
  ipv4 = pair_alike c.args.self.now.ipv4 c.remove_pair.new.pair NwSrc NwDst rs is.ipv4
      (pair_in_and_out c.new-prefixes.result.ipv4 (numbers c.args.matching.now.key) c.args.self.now.ipv4 c.insert_pair.new.pair c.remove_pair.new.pair c.in_ok-insert_pair.ensures.ok c.remove_pair.ensures);
  ipv6 = pair_alike c.args.self.now.ipv6 c.insert_pair-2.new.pair Ipv6Src Ipv6Dst rs is.ipv6 c.in-Err.ensures.err;
}
