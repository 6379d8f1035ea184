use Rattle.std.proofs.Common.{◌≡◌, ◌++◌, drop, string_bytes}
use Rattle.text_numbers.specs.Added.{IsPrefix}
use Rattle.field_text.specs.CommaLists.{after_commas}
use Rattle.field_text.proofs.listing.print_others.Given as goal

abbrev pub invariant-others : goal.invariant-others
invariant-others g l = record {
  so_far : string_bytes l.out ++ after_commas g.P.ItemPrinter.text (drop l.item-index l.others) ≡ string_bytes l.fn.out ++ after_commas g.P.ItemPrinter.text l.others;
  kept : IsPrefix (string_bytes l.fn.out) (string_bytes l.out);
}
