-- The tries of two addresses, as rules come and go.
use Rattle.std.proofs.Common.{◌≡◌, ℕ, ◌+◌, ◌^◌, ◌<◌, List, length, map, sym, ap, ◌∙◌}
use Rattle.spec_keys.specs.declared.field_id.FieldId.{FieldId}
use Rattle.spec_keys.specs.Fields.{width_of}
use Rattle.spec_keys.specs.Keys.{masked}
use Rattle.spec_tables.specs.Rules.{Rule}
use Rattle.table_laws.specs.Members.{Among}
use Rattle.address_prefixes.specs.declared.pair.PairPrefixes.{PairPrefixes}
use Rattle.address_prefixes.specs.Pairs.{PairTries, src_of, dst_of, ArePrefixesOf, HaveWidths, AreTriesOf, AreFew, HaveOnceMore, AreAlike, AreThere}
use Rattle.address_prefixes.specs.RuleLists.{HasOneMore}
use Rattle.address_prefixes.proofs.TrieLaws.{trie_more, trie_less, trie_has, once_there, in_and_out, trie_alike, trie_few, trie_same}

module _ (src dst : FieldId) (r : Rule) (key : List ℕ) (p : PairPrefixes) (own : ArePrefixesOf p src dst r.matching.mask) (normalised : masked r.matching.key r.matching.mask ≡ r.matching.key) (of_key : r.matching.key ≡ key) where
  pub pair_more : (old new : PairTries) (rs all : List Rule) → AreTriesOf old src dst rs → HaveOnceMore p key old new → HasOneMore r rs all → AreTriesOf new src dst all
  pair_more old new rs all is more one = record {
    src = trie_more src r key p.src own.src normalised of_key (src_of old) (src_of new) rs all is.src more.src one;
    dst = trie_more dst r key p.dst own.dst normalised of_key (dst_of old) (dst_of new) rs all is.dst more.dst one;
  }

  pub pair_less : (old new : PairTries) (rs left : List Rule) → AreTriesOf old src dst rs → HaveOnceMore p key new old → HasOneMore r left rs → AreTriesOf new src dst left
  pair_less old new rs left is more one = record {
    src = trie_less src r key p.src own.src normalised of_key (src_of old) (src_of new) rs left is.src more.src one;
    dst = trie_less dst r key p.dst own.dst normalised of_key (dst_of old) (dst_of new) rs left is.dst more.dst one;
  }

  pub pair_has : (t : PairTries) (rs : List Rule) → AreTriesOf t src dst rs → Among r rs → AreThere p key t
  pair_has t rs is m = record {
    src = trie_has src r key p.src own.src normalised of_key (src_of t) rs is.src m;
    dst = trie_has dst r key p.dst own.dst normalised of_key (dst_of t) rs is.dst m;
  }

pub pair_there : (p : PairPrefixes) (key : List ℕ) (old new : PairTries) → HaveOnceMore p key old new → AreThere p key new
pair_there p key old new more = record { src = once_there p.src.field p.src.length key (src_of old) (src_of new) more.src; dst = once_there p.dst.field p.dst.length key (dst_of old) (dst_of new) more.dst }

pub pair_in_and_out : (p : PairPrefixes) (key : List ℕ) (old mid new : PairTries) → HaveOnceMore p key old mid → HaveOnceMore p key new mid → AreAlike old new
pair_in_and_out p key old mid new more less = record {
  src = in_and_out p.src.field p.src.length key (src_of old) (src_of mid) (src_of new) more.src less.src;
  dst = in_and_out p.dst.field p.dst.length key (dst_of old) (dst_of mid) (dst_of new) more.dst less.dst;
}

pub pair_alike : (old new : PairTries) (src dst : FieldId) (rs : List Rule) → AreTriesOf old src dst rs → AreAlike old new → AreTriesOf new src dst rs
pair_alike old new src dst rs is alike = record { src = trie_alike (src_of old) (src_of new) src rs is.src alike.src; dst = trie_alike (dst_of old) (dst_of new) dst rs is.dst alike.dst }

pub pair_few : (t : PairTries) (src dst : FieldId) (rs : List Rule) → AreTriesOf t src dst rs → length rs + 1 < 2 ^ 32 → AreFew t
pair_few t src dst rs is few = record { src = trie_few (src_of t) src rs is.src few; dst = trie_few (dst_of t) dst rs is.dst few }

pub pair_same : {X : Type 0} (g h : X → Rule) → ((x : X) → (g x).matching ≡ (h x).matching) → (t : PairTries) (src dst : FieldId) (xs : List X) → AreTriesOf t src dst (map g xs) → AreTriesOf t src dst (map h xs)
pair_same g h same t src dst xs is = record { src = trie_same g h same (src_of t) src xs is.src; dst = trie_same g h same (dst_of t) dst xs is.dst }

pub pair_wide : (t : PairTries) (src dst : FieldId) (rs : List Rule) → AreTriesOf t src dst rs → HaveWidths t src dst
pair_wide t src dst rs is = record { src = is.src.width_is; dst = is.dst.width_is }

-- they are as wide as the fields whose prefixes a mask has
pub pair_widths : (p : PairPrefixes) (t : PairTries) (src dst : FieldId) (mask : List ℕ) → ArePrefixesOf p src dst mask → HaveWidths t src dst → HaveWidths t p.src.field p.dst.field
pair_widths p t src dst mask of are = record { src = are.src ∙ ap width_of (sym of.src.field_is); dst = are.dst ∙ ap width_of (sym of.dst.field_is) }

-- they stay as wide
pub more_widths : (p : PairPrefixes) (key : List ℕ) (src dst : FieldId) (old new : PairTries) → HaveOnceMore p key old new → HaveWidths old src dst → HaveWidths new src dst
more_widths p key src dst old new more are = record { src = more.src.same_width ∙ are.src; dst = more.dst.same_width ∙ are.dst }
