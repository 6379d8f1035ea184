-- Worked rows: mirrors files.
use Rattle.std.specs.Prelude.{◌≡◌, ℕ, Bool, true, false, List, [], ◌∷◌, ◌++◌, replicate, Ok, Err, codes, refl}
use Rattle.spec_flow_text.specs.Numbers.{digits_upto, decimal_upto}
use Rattle.spec_flow_text.specs.declared.fault.TextFault.TheVariants.{Syntax, UnknownName, BadValue, Repeated}
use Rattle.spec_flow_text.specs.Items.{words}
use Rattle.spec_input.specs.declared.fault.FileFault.{FileFault}
use Rattle.spec_input.specs.declared.fault.FileFault.TheVariants.{Line, LineTooLong, TooManyMirrors}
use Rattle.spec_input.specs.Lines.{with_next, with_lines}
use Rattle.spec_input.specs.Mirrors.{Mirror, nothing_selected, port_in, with_port, with_valued, with_bare, with_item, with_items, mirror_in, with_line, mirrors_in}

-- of a switch with ports 1, 2 and 70
abbrev says : List ℕ → List Mirror → Type 0
says bytes mirrors = mirrors_in (1 ∷ 2 ∷ 70 ∷ []) bytes ≡ Ok mirrors

abbrev fails : List ℕ → FileFault → Type 0
fails bytes fault = mirrors_in (1 ∷ 2 ∷ 70 ∷ []) bytes ≡ Err fault

abbrev selects : List ℕ → List ℕ → Bool → Mirror
selects src dst all = record { src = src; dst = dst; all = all }

each_item_has_its_part :
    says (codes "select_src_port=1\nselect_dst_port=2\nselect_all\n") (selects (1 ∷ []) [] false ∷ selects [] (2 ∷ []) false ∷ selects [] [] true ∷ [])
unfolding mirrors_in with_lines with_line mirror_in with_items with_item with_bare with_valued with_port port_in words decimal_upto digits_upto
each_item_has_its_part = refl

a_mirror_may_have_several_of_each :
    says (codes "select_src_port=70,select_dst_port=2 select_all\t,select_src_port=1\r\n") (selects (70 ∷ 1 ∷ []) (2 ∷ []) true ∷ [])
unfolding mirrors_in with_lines with_line mirror_in with_items with_item with_bare with_valued with_port port_in words decimal_upto digits_upto
a_mirror_may_have_several_of_each = refl

a_port_may_be_of_both_kinds : says (codes "select_src_port=2,select_dst_port=2") (selects (2 ∷ []) (2 ∷ []) false ∷ [])
unfolding mirrors_in with_lines with_line mirror_in with_items with_item with_bare with_valued with_port port_in words decimal_upto digits_upto
a_port_may_be_of_both_kinds = refl

blank_lines_and_comments_say_nothing : says (codes "\n \t\r# select_all\n,select_all#,what\n\n") (selects [] [] true ∷ [])
unfolding mirrors_in with_lines with_line mirror_in with_items with_item with_bare with_valued with_port port_in words decimal_upto digits_upto
blank_lines_and_comments_say_nothing = refl

-- it isn't blank, and it has no item
a_line_of_commas_is_a_mirror_of_nothing : says (codes " ,, # select_all") (nothing_selected ∷ [])
unfolding mirrors_in with_lines with_line mirror_in with_items with_item with_bare with_valued with_port port_in words decimal_upto digits_upto
a_line_of_commas_is_a_mirror_of_nothing = refl

another_name_is_told_at_it :
    (fails (codes "\nselect_vlan=5") (Line 2 (UnknownName 1))) × ((fails (codes "select_all,Select_all") (Line 1 (UnknownName 12)))
    × ((fails (codes "=1") (Line 1 (UnknownName 1))) × (fails (codes "select_src_port:1") (Line 1 (UnknownName 1)))))
unfolding mirrors_in with_lines with_line mirror_in with_items with_item with_bare with_valued with_port port_in words decimal_upto digits_upto
another_name_is_told_at_it = (refl, (refl, (refl, refl)))

a_value_that_is_missing_is_told_at_the_name :
    (fails (codes " select_src_port") (Line 1 (Syntax 2))) × ((fails (codes "select_src_port=") (Line 1 (Syntax 1)))
    × ((fails (codes "select_all select_dst_port= 1") (Line 1 (Syntax 12))) × (fails (codes "select_dst_port") (Line 1 (Syntax 1)))))
unfolding mirrors_in with_lines with_line mirror_in with_items with_item with_bare with_valued with_port port_in words decimal_upto digits_upto
a_value_that_is_missing_is_told_at_the_name = (refl, (refl, (refl, refl)))

a_value_that_does_not_belong_is_told_at_the_name :
    (fails (codes "select_all=1") (Line 1 (Syntax 1))) × ((fails (codes "select_all=") (Line 1 (Syntax 1)))
    × (fails (codes "select_all,select_all=true") (Line 1 (Syntax 12))))
unfolding mirrors_in with_lines with_line mirror_in with_items with_item with_bare with_valued with_port port_in words decimal_upto digits_upto
a_value_that_does_not_belong_is_told_at_the_name = (refl, (refl, refl))

a_port_that_the_switch_lacks_is_told_at_the_value :
    (fails (codes "select_src_port=9") (Line 1 (BadValue 17))) × ((fails (codes "select_all, select_dst_port=3") (Line 1 (BadValue 29)))
    × ((fails (codes "select_src_port=0") (Line 1 (BadValue 17))) × (fails (codes "select_src_port=65537") (Line 1 (BadValue 17)))))
unfolding mirrors_in with_lines with_line mirror_in with_items with_item with_bare with_valued with_port port_in words decimal_upto digits_upto
a_port_that_the_switch_lacks_is_told_at_the_value = (refl, (refl, (refl, refl)))

a_port_is_decimal_without_leading_zeros :
    (fails (codes "select_src_port=01") (Line 1 (BadValue 17))) × ((fails (codes "select_src_port=0x1") (Line 1 (BadValue 17)))
    × ((fails (codes "select_src_port=+1") (Line 1 (BadValue 17))) × (fails (codes "select_src_port=1=1") (Line 1 (BadValue 17)))))
unfolding mirrors_in with_lines with_line mirror_in with_items with_item with_bare with_valued with_port port_in words decimal_upto digits_upto
a_port_is_decimal_without_leading_zeros = (refl, (refl, (refl, refl)))

an_item_that_stands_again_is_told_at_it :
    (fails (codes "select_src_port=1,select_src_port=2,select_src_port=1") (Line 1 (Repeated 37)))
    × ((fails (codes "select_dst_port=70 select_dst_port=70") (Line 1 (Repeated 20)))
    × (fails (codes "select_all,select_all") (Line 1 (Repeated 12))))
unfolding mirrors_in with_lines with_line mirror_in with_items with_item with_bare with_valued with_port port_in words decimal_upto digits_upto
an_item_that_stands_again_is_told_at_it = (refl, (refl, refl))

-- the bytes of a line are tested before its items, and those of a comment aren't
a_byte_that_is_not_ascii_is_told_at_it :
    (fails (codes "what," ++ 128 ∷ []) (Line 1 (Syntax 6))) × ((fails (32 ∷ 200 ∷ []) (Line 1 (Syntax 2)))
    × (says (codes "select_all #" ++ 255 ∷ []) (selects [] [] true ∷ [])))
unfolding mirrors_in with_lines with_line mirror_in with_items with_item with_bare with_valued with_port port_in words decimal_upto digits_upto
a_byte_that_is_not_ascii_is_told_at_it = (refl, (refl, refl))

the_first_line_with_a_fault_decides :
    (fails (codes "select_all\nselect_src_port=9\nwhat") (Line 2 (BadValue 17))) × (fails (codes "what\nselect_src_port=9") (Line 1 (UnknownName 1)))
unfolding mirrors_in with_lines with_line mirror_in with_items with_item with_bare with_valued with_port port_in words decimal_upto digits_upto
the_first_line_with_a_fault_decides = (refl, refl)

in_a_line_the_first_item_with_a_fault_decides :
    (fails (codes "select_src_port=9,what") (Line 1 (BadValue 17))) × (fails (codes "what,select_src_port=9") (Line 1 (UnknownName 1)))
unfolding mirrors_in with_lines with_line mirror_in with_items with_item with_bare with_valued with_port port_in words decimal_upto digits_upto
in_a_line_the_first_item_with_a_fault_decides = (refl, refl)

-- the length of a line is tested before all else, also of a blank one
a_line_has_at_most_4096_bytes :
    (with_next (with_line []) 1 (replicate 4096 32) [] ≡ Ok []) × ((with_next (with_line []) 1 (replicate 4097 32) [] ≡ Err LineTooLong)
    × (with_next (with_line []) 1 (replicate 4097 120) (replicate 16 nothing_selected) ≡ Err LineTooLong))
unfolding with_line mirror_in with_items with_item with_bare words
a_line_has_at_most_4096_bytes = (refl, (refl, refl))

-- how many mirrors there are is tested before the items of one more; a blank line is none
no_more_than_16_mirrors_are_read :
    (with_line [] 17 (codes "what") (replicate 16 nothing_selected) ≡ Err TooManyMirrors)
    × ((with_line [] 17 (codes "what") (replicate 15 nothing_selected) ≡ Err (Line 17 (UnknownName 1)))
    × (with_line [] 17 (codes " # select_all") (replicate 16 nothing_selected) ≡ Ok (replicate 16 nothing_selected)))
unfolding with_line mirror_in with_items with_item with_bare with_valued with_port port_in words
no_more_than_16_mirrors_are_read = (refl, (refl, refl))
