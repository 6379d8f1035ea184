use Rattle.text_numbers.proofs.Places.{first_place}
use Rattle.text_numbers.proofs.numbers.place_of.Goals as goal

pub returns : goal.returns
returns c = first_place c.args.byte c.args.text.now c.memchr.result c.memchr.ensures
