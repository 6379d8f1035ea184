use Rattle.masked_map.proofs.fields.CompactFieldsPartialEq.eq.Goals as goal

pub returns : goal.returns
returns c = c.are_same.ensures c.args.self.now c.args.other.now c.of.ensures.fits c.of-2.ensures.fits c.of.ensures.words c.of-2.ensures.words
