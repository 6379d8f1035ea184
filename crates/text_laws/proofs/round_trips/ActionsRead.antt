-- An action that is read can be spelled, but for a write whose bits no value names.
use Rattle.std.proofs.Common.{◌≡◌, ℕ, ◌+◌, ◌-◌, ◌*◌, ◌%◌, ◌<◌, ◌≤◌, ◌^◌, Bool, true, false, cond, List, [], ◌∷◌, length, drop, refl, sym, subst, ap, ◌∙◌, arith, bit_and, Option, Some, None, Result, Ok, Err, eqb-true, eq-eqb, le-leb, lt-ltb, pow_pos, pow_mono}
use Rattle.std.specs.Prelude.{not, ◌==◌, nat_le, nat_lt}
use Rattle.std.specs.List.{slice_split}
use Rattle.std.specs.Option.{option_map, option_and_then, ok_or}
use Rattle.std.proofs.lemmas.Bool.{and_parts, both_ways, leb-true, ltb-true}
use Rattle.std.proofs.lemmas.Bool.Decides.{nat_tests}
use Rattle.std.proofs.Math.Nat.{mod-eq_of_lt}
use Rattle.std.proofs.lemmas.Nat.{and_le_r, and_mask, and_block, shl_below}
use Rattle.spec_base.specs.Bits.{all_bits}
use Rattle.spec_actions.specs.declared.named_field.NamedField.{NamedField}
use Rattle.spec_actions.specs.declared.named_field.NamedField.TheVariants as field
use Rattle.spec_actions.specs.declared.action.Slice.{Slice}
use Rattle.spec_actions.specs.declared.action.OfAction.{OfAction}
use Rattle.spec_actions.specs.declared.action.OfAction.TheVariants.{Output, OutputField, Resubmit, Goto, Set, Move, PushVlan, SetVid, SetPcp}
use Rattle.spec_actions.specs.Named.{named, is_printed_alone}
use Rattle.spec_actions.specs.Sound.{is_written, is_sound, is_sound_slice, last_table, last_vid, last_pcp}
use Rattle.spec_keys.specs.Protocols.{is_tag_type}
use Rattle.spec_flow_text.specs.Characters.{dot, comma, right_bracket}
use Rattle.spec_flow_text.specs.Numbers.{where_found, split_once, strip_prefix, number_upto, last_port, nonzero}
use Rattle.spec_flow_text.specs.declared.names.ActionName.{ActionName}
use Rattle.spec_flow_text.specs.declared.names.ActionName.TheVariants as action
use Rattle.spec_flow_text.specs.declared.fault.TextFault.{TextFault}
use Rattle.spec_flow_text.specs.declared.fault.TextFault.TheVariants as fault
use Rattle.spec_flow_text.specs.Names.{field_named, reserved_port_named, begins_with_digit}
use Rattle.spec_flow_text.specs.Values.{Bits, value_of, whole_value}
use Rattle.spec_flow_text.specs.Items.{◌>>=◌, Word, column, unless}
use Rattle.spec_flow_text.specs.Actions.{argument, argument_of, alone, arrow_argument, no_field, field_in, written_field, slice_name, value_or_fault, greatest_number, slice, whole_slice, bits_in, bracketed, bits_between, bit_number, sound_slice, slice_after, slice_of, slice_width, load_of, port_of, load, has_tag_bit, set_of, set_field, move, modify, number_argument, tag_type, push_vlan, reserved, output_field, output_to, output, table_of_arguments, inside_brackets, with_port, resubmit, after_name, skipping, is_respellable, goto_item}
use Rattle.text_laws.specs.Spelled.{is_spellable, is_goto}
use Rattle.text_laws.proofs.ItemTexts.{IsInText}
use Rattle.text_laws.proofs.values.WithinLaws.{chained, mapped}
use Rattle.text_laws.proofs.round_trips.PartsRead.{ReadRanges, IsValue, IsNoFragment, value_read, whole_read}
use Rattle.text_laws.proofs.round_trips.StatableParts.{and_twice}
use Rattle.text_laws.proofs.round_trips.LinesRead.{ok_chained}
use Rattle.text_laws.proofs.round_trips.TextNames.{named_in_text}

-- an action other than `goto_table` that can be spelled where a value of its field can name its bits
abbrev pub IsWellMade : OfAction → Type 0
IsWellMade (Set f value mask) = (is_sound (Set f value mask) ≡ true) × (bit_and value mask ≡ value)
IsWellMade (Goto table) = ⊥
IsWellMade a = is_spellable a ≡ true

pub no_goto : (a : OfAction) → IsWellMade a → is_goto a ≡ false
no_goto (Goto table) h = absurd h
no_goto (Output port) h = refl
no_goto a h = refl

pub well_made : (a : OfAction) → IsWellMade a → is_respellable a ≡ true → is_spellable a ≡ true
well_made (Set f value mask) h again = rw (h.0, again) (eq-eqb (bit_and value mask) value h.1)
well_made (Goto table) h again = absurd h
well_made (Output port) h again = h
well_made a h again = h

-- what is read of a word is one action, which is well made, or a fault
abbrev pub MakesWell : Result OfAction TextFault → Type 0
MakesWell r = (a : OfAction) → r ≡ Ok a → IsWellMade a

pub some_ok : {A : Type 0} (o : Option A) (e : TextFault) (a : A) → ok_or o e ≡ Ok a → o ≡ Some a
some_ok None e a h = cc
some_ok (Some b) e a h = cc

pub passes : (t : Bool) (e : TextFault) (b : Bool) → unless t e ≡ Ok b → t ≡ true
passes true e b h = refl
passes false e b h = cc

-- ---- ports and tables

port_made : ReadRanges → (text : List ℕ) (a : OfAction) → port_of text ≡ Some a → IsWellMade a
unfolding port_of
port_made r text a h =
    let n = mapped (option_and_then nonzero (number_upto last_port text)) (λ n. Output n) a h in
    let m = chained (number_upto last_port text) nonzero n.0 n.1 in
    subst IsWellMade n.2 (by_test m.0 n.0 (m.0 == 0) refl (r.numbers last_port text m.0 m.1) m.2)
  where
    by_test : (m n : ℕ) (t : Bool) → (m == 0) ≡ t → m ≤ last_port → cond t None (Some m) ≡ Some n → IsWellMade (Output n)
    by_test m n true e le h = cc
    by_test m n false e le h =
        let same : m ≡ n = cc in
        let some : 0 < m = grind (arith, nat_tests) in
        subst (λ k. IsWellMade (Output k)) same (rw (lt-ltb 0 m some, le-leb m last_port le) refl)

number_read : ReadRanges → (most : ℕ) (w : Word) (n : ℕ) → number_argument most w ≡ Ok n → n ≤ most
unfolding number_argument
number_read r most w n h =
    let a = ok_chained (argument w) _ n h in
    r.numbers most a.0.text n (some_ok (number_upto most a.0.text) (fault.BadValue (column a.0)) n a.2)

pub vid_made : ReadRanges → (w : Word) → MakesWell (number_argument last_vid w >>= (λ n. Ok (SetVid n)))
vid_made r w a h =
    let n = ok_chained (number_argument last_vid w) (λ n. Ok (SetVid n)) a h in
    let same : SetVid n.0 ≡ a = cc in
    subst IsWellMade same (le-leb n.0 last_vid (number_read r last_vid w n.0 n.1))

pub pcp_made : ReadRanges → (w : Word) → MakesWell (number_argument last_pcp w >>= (λ n. Ok (SetPcp n)))
pcp_made r w a h =
    let n = ok_chained (number_argument last_pcp w) (λ n. Ok (SetPcp n)) a h in
    let same : SetPcp n.0 ≡ a = cc in
    subst IsWellMade same (le-leb n.0 last_pcp (number_read r last_pcp w n.0 n.1))

pub goto_made : ReadRanges → (last : Bool) (w : Word) (a : OfAction) → goto_item last w ≡ Ok a → (is_spellable a ≡ true) × (last ≡ true)
unfolding goto_item
goto_made r last w a h =
    let n = ok_chained (number_argument last_table w) _ a h in
    by_test last n.0 (number_read r last_table w n.0 n.1) n.2
  where
    by_test : (t : Bool) (n : ℕ) → n ≤ last_table → cond t (Ok (Goto n)) (Err (fault.Syntax (column w))) ≡ Ok a → (is_spellable a ≡ true) × (t ≡ true)
    by_test true n le h = let same : Goto n ≡ a = cc in (subst (λ x. is_spellable x ≡ true) same (le-leb n last_table le), refl)
    by_test false n le h = cc

table_made : ReadRanges → (w inside : Word) (arguments : List (List ℕ)) → MakesWell (table_of_arguments w inside arguments)
table_made r w inside ([] ∷ []) a h = cc
table_made r w inside ([] ∷ [] ∷ []) a h = cc
table_made r w inside ([] ∷ (c ∷ cs) ∷ []) a h =
    let n = mapped (number_upto last_table (c ∷ cs)) (λ n. Resubmit n) a (some_ok (option_map (λ n. Resubmit n) (number_upto last_table (c ∷ cs))) (fault.BadValue (column (skipping 1 inside))) a h) in
    subst IsWellMade n.2 (le-leb n.0 last_table (r.numbers last_table (c ∷ cs) n.0 n.1))
table_made r w inside [] a h = cc
table_made r w inside ((c ∷ cs) ∷ rest) a h = cc
table_made r w inside ([] ∷ [] ∷ t ∷ rest) a h = cc
table_made r w inside ([] ∷ (c ∷ cs) ∷ t ∷ rest) a h = cc

pub resubmit_made : ReadRanges → (w : Word) → MakesWell (resubmit w)
unfolding resubmit
resubmit_made r w a h = by_brackets (inside_brackets (after_name w)) (with_port w (argument_of w)) h
  where
    by_brackets : (o : Option Word) (e : TextFault) → where_found o (λ inside. table_of_arguments w inside (slice_split (λ c. c == comma) inside.text)) (Err e) ≡ Ok a → IsWellMade a
    by_brackets None e h = cc
    by_brackets (Some inside) e h = table_made r w inside (slice_split (λ c. c == comma) inside.text) a h

-- ---- fields and slices

found_field : (w name : Word) (f : NamedField) → written_field w name ≡ Ok f → is_written f ≡ true
unfolding written_field
found_field w name f h =
    let g = ok_chained (field_in w name) _ f h in
    by_test g.0 (is_written g.0) refl g.2
  where
    by_test : (g : NamedField) (t : Bool) → is_written g ≡ t → cond t (Ok g) (Err (fault.Unsupported (column w))) ≡ Ok f → is_written f ≡ true
    by_test g true e h = let same : g ≡ f = cc in subst (λ x. is_written x ≡ true) same e
    by_test g false e h = cc

field_in_text : (w name : Word) (f : NamedField) → field_in w name ≡ Ok f → IsInText f
unfolding field_in
field_in_text w name f h = named_in_text name.text f (some_ok (field_named name.text) (no_field w name) f h)

written_in_text : (w name : Word) (f : NamedField) → written_field w name ≡ Ok f → IsInText f
unfolding written_field
written_in_text w name f h =
    let g = ok_chained (field_in w name) _ f h in
    by_test g.0 (is_written g.0) (field_in_text w name g.0 g.1) g.2
  where
    by_test : (g : NamedField) (t : Bool) → IsInText g → cond t (Ok g) (Err (fault.Unsupported (column w))) ≡ Ok f → IsInText f
    by_test g true i h = let same : g ≡ f = cc in subst IsInText same i
    by_test g false i h = cc

abbrev IsSlice : NamedField → Slice → Type 0
IsSlice f s = (is_sound_slice s ≡ true) × (s.name ≡ f)

whole_sound : (f : NamedField) → IsInText f → is_sound_slice (whole_slice f) ≡ true
whole_sound field.VlanTpid h = h
whole_sound field.VlanTci2 h = h
whole_sound field.VlanTpid2 h = h
whole_sound f h = refl

between_name : (f : NamedField) (parts : List ℕ × List ℕ) (s : Slice) → bits_between f parts ≡ Some s → s.name ≡ f
unfolding bits_between
between_name f parts s h =
    let low = chained (bit_number parts.0) _ s h in
    let upper = chained (strip_prefix (dot ∷ []) parts.1) _ s low.2 in
    let high = mapped (bit_number upper.0) (slice f low.0) s upper.2 in
    ap (λ (x : Slice). x.name) (sym high.2)

bits_name : (f : NamedField) (text : List ℕ) (s : Slice) → bits_in f text ≡ Some s → s.name ≡ f
unfolding bits_in
bits_name f [] s h = let same : whole_slice f ≡ s = cc in ap (λ (x : Slice). x.name) (sym same)
bits_name f (c ∷ cs) s h = by_cut (split_once dot (c ∷ cs)) h
  where
    by_cut : (o : Option (List ℕ × List ℕ)) → where_found o (bits_between f) (option_map (λ n. slice f n n) (bit_number (c ∷ cs))) ≡ Some s → s.name ≡ f
    by_cut None h = let n = mapped (bit_number (c ∷ cs)) (λ n. slice f n n) s h in ap (λ (x : Slice). x.name) (sym n.2)
    by_cut (Some parts) h = between_name f parts s h

bracketed_name : (f : NamedField) (parts : List ℕ × List ℕ) (s : Slice) → bracketed f parts ≡ Some s → s.name ≡ f
bracketed_name f parts s h = by_test (length parts.1 == 0) h
  where
    by_test : (t : Bool) → cond t (bits_in f parts.0) None ≡ Some s → s.name ≡ f
    by_test true h = bits_name f parts.0 s h
    by_test false h = cc

kept_sound : (s u : Slice) → sound_slice s ≡ Some u → (is_sound_slice u ≡ true) × (s ≡ u)
kept_sound s u h = by_test (is_sound_slice s) refl h
  where
    by_test : (t : Bool) → is_sound_slice s ≡ t → cond t (Some s) None ≡ Some u → (is_sound_slice u ≡ true) × (s ≡ u)
    by_test true e h = let same : s ≡ u = cc in (subst (λ x. is_sound_slice x ≡ true) same e, same)
    by_test false e h = cc

after_sound : (f : NamedField) (text : List ℕ) (s : Slice) → IsInText f → slice_after f text ≡ Some s → IsSlice f s
unfolding slice_after
after_sound f [] s in_text h = let same : whole_slice f ≡ s = cc in subst (IsSlice f) same (whole_sound f in_text, refl)
after_sound f (c ∷ cs) s in_text h =
    let u = chained (option_and_then (bracketed f) (split_once right_bracket cs)) sound_slice s h in
    let parts = chained (split_once right_bracket cs) (bracketed f) u.0 u.1 in
    let k = kept_sound u.0 s u.2 in
    (k.0, subst (λ (x : Slice). x.name ≡ f) k.1 (bracketed_name f parts.0 u.0 parts.2))

slice_read : (f : NamedField) (w : Word) (s : Slice) → IsInText f → slice_of f w ≡ Ok s → IsSlice f s
unfolding slice_of
slice_read f w s in_text h = after_sound f (drop (length (slice_name w).text) w.text) s in_text (some_ok (slice_after f (drop (length (slice_name w).text) w.text)) (fault.BadValue (column w)) s h)

-- ---- writes

under_all : (w n : ℕ) → n ≤ all_bits w → n < 2 ^ w
under_all w n le = omega (arith, pow_pos w)

written_most : (f : NamedField) → is_written f ≡ true → IsNoFragment f
written_most field.IpFrag h = absurd (both_ways false refl h)
written_most f h = tt

set_made : (f : NamedField) (b : Bits) → is_written f ≡ true → IsValue f b → IsWellMade (set_of f b)
set_made f b written h =
    let mask = under_all (named f).bits b.mask h.mask in
    let value : bit_and b.value b.mask < 2 ^ (named f).bits = omega (arith, and_le_r b.value b.mask, mask) in
    (rw (written, lt-ltb (bit_and b.value b.mask) (2 ^ (named f).bits) value, lt-ltb b.mask (2 ^ (named f).bits) mask) refl, and_twice b.value b.mask)

pub set_field_made : ReadRanges → (w : Word) → MakesWell (set_field w)
unfolding set_field
set_field_made r w a h =
    let ends = ok_chained (arrow_argument w) _ a h in
    let f = ok_chained (written_field w ends.0.1) _ a ends.2 in
    let b = ok_chained (value_or_fault ends.0.0 (value_of f.0 ends.0.0.text)) _ a f.2 in
    let tagged = ok_chained (unless (has_tag_bit f.0 b.0) (fault.BadValue (column ends.0.0))) (λ t. Ok (set_of f.0 b.0)) a b.2 in
    let written = found_field w ends.0.1 f.0 f.1 in
    let value = value_read r f.0 ends.0.0.text b.0 (written_most f.0 written) (some_ok (value_of f.0 ends.0.0.text) (fault.BadValue (column ends.0.0)) b.0 b.1) in
    let same : set_of f.0 b.0 ≡ a = cc in
    subst IsWellMade same (set_made f.0 b.0 written value)

pub modify_made : ReadRanges → (f : NamedField) (w : Word) → is_written f ≡ true → MakesWell (modify f w)
unfolding modify
modify_made r f w written a h =
    let x = ok_chained (argument w) _ a h in
    let b = mapped (whole_value f x.0.text) (set_of f) a (some_ok (option_map (set_of f) (whole_value f x.0.text)) (fault.BadValue (column x.0)) a x.2) in
    subst IsWellMade b.2 (set_made f b.0 written (whole_read r f x.0.text b.0 b.1))

-- a number below a power of two, moved to the left together with a mask
shifted_within : (n w l : ℕ) → n < 2 ^ w → bit_and (n * 2 ^ l) (all_bits w * 2 ^ l) ≡ n * 2 ^ l
shifted_within n w l lt =
    let pos = pow_pos l in
    let less : n % 2 ^ w ≡ n = mod-eq_of_lt lt in
    let block = and_block l n (all_bits w) 0 0 pos pos in
    let left : n * 2 ^ l + 0 ≡ n * 2 ^ l = omega arith in
    let right : all_bits w * 2 ^ l + 0 ≡ all_bits w * 2 ^ l = omega arith in
    let both : bit_and (n * 2 ^ l) (all_bits w * 2 ^ l) ≡ bit_and n (all_bits w) * 2 ^ l + bit_and 0 0 = rw (← left, ← right) block in
    both ∙ (rw (and_mask n w, less) left)

load_bits : (f : NamedField) (s : Slice) (n : ℕ) → is_sound_slice s ≡ true → n < 2 ^ slice_width s → n * 2 ^ s.low < 2 ^ (named s.name).bits
load_bits f s n sound lt =
    let p = and_parts (nat_le s.low s.high) (nat_lt s.high (named s.name).bits) (and_parts (not (is_printed_alone s.name)) _ sound).1 in
    let ordered = leb-true s.low s.high p.0 in
    let within = ltb-true s.high (named s.name).bits p.1 in
    let below : n * 2 ^ s.low < 2 ^ (slice_width s + s.low) = shl_below n (slice_width s) s.low lt in
    let most : 2 ^ (slice_width s + s.low) ≤ 2 ^ (named s.name).bits = pow_mono (omega (arith, ordered, within)) in
    omega (arith, below, most)

load_well : (f : NamedField) (s : Slice) (n : ℕ) → is_written f ≡ true → IsSlice f s → n < 2 ^ slice_width s → IsWellMade (load_of s n)
load_well f s n written h lt =
    let name : is_written s.name ≡ true = subst (λ x. is_written x ≡ true) (sym h.1) written in
    let value = load_bits f s n h.0 lt in
    let most : all_bits (slice_width s) < 2 ^ slice_width s = omega (arith, pow_pos (slice_width s)) in
    let mask = load_bits f s (all_bits (slice_width s)) h.0 most in
    (rw (name, lt-ltb (n * 2 ^ s.low) (2 ^ (named s.name).bits) value, lt-ltb (all_bits (slice_width s) * 2 ^ s.low) (2 ^ (named s.name).bits) mask) refl, shifted_within n (slice_width s) s.low lt)

pub load_made : (w : Word) → MakesWell (load w)
unfolding load
load_made w a h =
    let ends = ok_chained (arrow_argument w) _ a h in
    let f = ok_chained (written_field w (slice_name ends.0.1)) _ a ends.2 in
    let n = ok_chained (value_or_fault ends.0.0 (number_upto greatest_number ends.0.0.text)) _ a f.2 in
    let s = ok_chained (slice_of f.0 ends.0.1) _ a n.2 in
    let fits = ok_chained (unless (nat_lt n.0 (2 ^ slice_width s.0)) (fault.BadValue (column ends.0.0))) (λ t. Ok (load_of s.0 n.0)) a s.2 in
    let lt = ltb-true n.0 (2 ^ slice_width s.0) (passes (nat_lt n.0 (2 ^ slice_width s.0)) (fault.BadValue (column ends.0.0)) fits.0 fits.1) in
    let same : load_of s.0 n.0 ≡ a = cc in
    subst IsWellMade same (load_well f.0 s.0 n.0 (found_field w (slice_name ends.0.1) f.0 f.1) (slice_read f.0 ends.0.1 s.0 (written_in_text w (slice_name ends.0.1) f.0 f.1) s.1) lt)

less_width : (a b c d : ℕ) → (a - b + 1 == c - d + 1) ≡ true → (a - b == c - d) ≡ true
less_width a b c d h =
    let e = eqb-true (a - b + 1) (c - d + 1) h in
    let same : a - b ≡ c - d = omega (arith, e) in
    eq-eqb (a - b) (c - d) same

pub move_made : (w : Word) → MakesWell (move w)
unfolding move
move_made w a h =
    let ends = ok_chained (arrow_argument w) _ a h in
    let f = ok_chained (field_in w (slice_name ends.0.0)) _ a ends.2 in
    let g = ok_chained (written_field w (slice_name ends.0.1)) _ a f.2 in
    let s = ok_chained (slice_of f.0 ends.0.0) _ a g.2 in
    let t = ok_chained (slice_of g.0 ends.0.1) _ a s.2 in
    let equal = ok_chained (unless (slice_width s.0 == slice_width t.0) (fault.BadValue (column ends.0.1))) (λ x. Ok (Move s.0 t.0)) a t.2 in
    let widths = less_width s.0.high s.0.low t.0.high t.0.low (passes (slice_width s.0 == slice_width t.0) (fault.BadValue (column ends.0.1)) equal.0 equal.1) in
    let source = slice_read f.0 ends.0.0 s.0 (field_in_text w (slice_name ends.0.0) f.0 f.1) s.1 in
    let target = slice_read g.0 ends.0.1 t.0 (written_in_text w (slice_name ends.0.1) g.0 g.1) t.1 in
    let written : is_written t.0.name ≡ true = subst (λ x. is_written x ≡ true) (sym target.1) (found_field w (slice_name ends.0.1) g.0 g.1) in
    let same : Move s.0 t.0 ≡ a = cc in
    subst IsWellMade same (rw (source.0, target.0, written) widths)

-- ---- outputs and tags

output_field_made : (w x : Word) → MakesWell (output_field w x)
output_field_made w x a h =
    let f = ok_chained (field_in w (slice_name x)) (λ f. slice_of f x >>= (λ s. Ok (OutputField s))) a h in
    let s = ok_chained (slice_of f.0 x) (λ s. Ok (OutputField s)) a f.2 in
    let same : OutputField s.0 ≡ a = cc in
    subst IsWellMade same (slice_read f.0 x s.0 (field_in_text w (slice_name x) f.0 f.1) s.1).0

reserved_made : (name : ActionName) → IsWellMade (reserved name)
reserved_made action.All = refl
reserved_made action.Flood = refl
reserved_made name = refl

output_to_made : ReadRanges → (w x : Word) → MakesWell (output_to w x)
output_to_made r w x a h = by_digit (begins_with_digit x.text) h
  where
    by_name : (o : Option ActionName) → where_found o (λ name. Ok (reserved name)) (output_field w x) ≡ Ok a → IsWellMade a
    by_name None h = output_field_made w x a h
    by_name (Some name) h = let same : reserved name ≡ a = cc in subst IsWellMade same (reserved_made name)

    by_digit : (t : Bool) → cond t (value_or_fault x (port_of x.text)) (where_found (reserved_port_named x.text) (λ name. Ok (reserved name)) (output_field w x)) ≡ Ok a → IsWellMade a
    by_digit true h = port_made r x.text a (some_ok (port_of x.text) (fault.BadValue (column x)) a h)
    by_digit false h = by_name (reserved_port_named x.text) h

pub output_made : ReadRanges → (w : Word) → MakesWell (output w)
unfolding output
output_made r w a h = let x = ok_chained (argument w) (output_to w) a h in output_to_made r w x.0 a x.2

pub port_item_made : ReadRanges → (w : Word) → MakesWell (value_or_fault w (port_of w.text))
port_item_made r w a h = port_made r w.text a (some_ok (port_of w.text) (fault.BadValue (column w)) a h)

tag_type_made : (n tpid : ℕ) → tag_type n ≡ Some tpid → is_tag_type tpid ≡ true
tag_type_made n tpid h = by_test (is_tag_type n) refl h
  where
    by_test : (t : Bool) → is_tag_type n ≡ t → cond t (Some n) None ≡ Some tpid → is_tag_type tpid ≡ true
    by_test true e h = let same : n ≡ tpid = cc in subst (λ k. is_tag_type k ≡ true) same e
    by_test false e h = cc

pub push_made : (w : Word) → MakesWell (push_vlan w)
unfolding push_vlan
push_made w a h =
    let x = ok_chained (argument w) _ a h in
    let found = option_and_then tag_type (number_upto (all_bits 16) x.0.text) in
    let tpid = mapped found (λ tpid. PushVlan tpid) a (some_ok (option_map (λ tpid. PushVlan tpid) found) (fault.BadValue (column x.0)) a x.2) in
    let n = chained (number_upto (all_bits 16) x.0.text) tag_type tpid.0 tpid.1 in
    subst IsWellMade tpid.2 (tag_type_made n.0 tpid.0 n.2)

pub alone_made : (w : Word) (x : OfAction) → IsWellMade x → MakesWell (alone w x)
alone_made w x well a h = by_test (length (after_name w).text == 0) h
  where
    by_test : (t : Bool) → cond t (Ok x) (Err (fault.Syntax (column w))) ≡ Ok a → IsWellMade a
    by_test true h = let same : x ≡ a = cc in subst IsWellMade same well
    by_test false h = cc
