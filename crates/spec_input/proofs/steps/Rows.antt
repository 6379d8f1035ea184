-- Worked rows: steps files.
use Rattle.std.specs.Prelude.{◌≡◌, ℕ, List, [], ◌∷◌, replicate, Ok, Err, codes, refl}
use Rattle.spec_case.specs.declared.run_step.RunStep.{RunStep}
use Rattle.spec_case.specs.declared.run_step.RunStep.TheVariants.{Edit, Rx, Snap, Settle, Sweep, Check, Put, Swept, Open}
use Rattle.spec_flow_text.specs.Numbers.{digits_upto, decimal_upto, number_upto}
use Rattle.spec_flow_text.specs.declared.fault.TextFault.{TextFault}
use Rattle.spec_flow_text.specs.declared.fault.TextFault.TheVariants.{Syntax, UnknownName, BadValue}
use Rattle.spec_flow_text.specs.Items.{words}
use Rattle.spec_input.specs.declared.fault.FileFault.{FileFault}
use Rattle.spec_input.specs.declared.fault.FileFault.TheVariants.{Line, LineTooLong, TooManySteps}
use Rattle.spec_input.specs.Lines.{with_next, with_lines}
use Rattle.spec_input.specs.Steps.{number_in, port_in, step_in, with_words, with_line, steps_of}

-- of a switch with ports 2 and 70
abbrev says : List ℕ → List RunStep → Type 0
says bytes steps = steps_of (2 ∷ 70 ∷ []) bytes ≡ Ok steps

abbrev fails : List ℕ → FileFault → Type 0
fails bytes fault = steps_of (2 ∷ 70 ∷ []) bytes ≡ Err fault

each_step_has_its_word :
    says (codes "edit\nrx 2\nsnap 2 3\nsettle 70 4\nsweep 70\ncheck 2 5\nput 2 6\nswept 70\nopen 2\n")
    (Edit ∷ Rx 2 ∷ Snap 2 3 ∷ Settle 70 4 ∷ Sweep 70 ∷ Check 2 5 ∷ Put 2 6 ∷ Swept 70 ∷ Open 2 ∷ [])
unfolding steps_of with_lines with_line with_words step_in port_in number_in words decimal_upto digits_upto number_upto
each_step_has_its_word = refl

blank_lines_and_comments_say_nothing :
    says (codes "\n \t # rx\n\t rx \t 2#edit\nedit") (Rx 2 ∷ Edit ∷ [])
unfolding steps_of with_lines with_line with_words step_in port_in number_in words decimal_upto digits_upto number_upto
blank_lines_and_comments_say_nothing = refl

abbrev line_fails : List ℕ × TextFault → Type 0
line_fails row = fails row.0 (Line 1 row.1)

an_unknown_first_word_is_told_at_it :
    (fails (codes "edit\n\n  rxx 2") (Line 3 (UnknownName 3)))
    × ((fails (codes "Edit") (Line 1 (UnknownName 1))) × (fails (codes "edit\r") (Line 1 (UnknownName 1))))
unfolding steps_of with_lines with_line with_words step_in port_in number_in words decimal_upto digits_upto number_upto
an_unknown_first_word_is_told_at_it = (refl, (refl, refl))

too_few_or_too_many_words_are_told_at_the_first :
    (fails (codes " edit 2") (Line 1 (Syntax 2))) × ((fails (codes "rx") (Line 1 (Syntax 1)))
    × ((fails (codes "rx 2 2") (Line 1 (Syntax 1))) × ((fails (codes "snap 2") (Line 1 (Syntax 1)))
    × ((fails (codes "put x y z") (Line 1 (Syntax 1))) × (fails (codes "edit \r") (Line 1 (Syntax 1)))))))
unfolding steps_of with_lines with_line with_words step_in port_in number_in words decimal_upto digits_upto number_upto
too_few_or_too_many_words_are_told_at_the_first = (refl, (refl, (refl, (refl, (refl, refl)))))

values_are_read_from_left_to_right :
    (fails (codes "rx 3") (Line 1 (BadValue 4))) × ((fails (codes "snap 3 0") (Line 1 (BadValue 6)))
    × ((fails (codes "snap 2 0") (Line 1 (BadValue 8))) × ((fails (codes "rx 02") (Line 1 (BadValue 4)))
    × ((fails (codes "put 2 01") (Line 1 (BadValue 7))) × ((fails (codes "put 2 4294967296") (Line 1 (BadValue 7)))
    × ((fails (codes "put 2 0x1") (Line 1 (BadValue 7))) × (says (codes "put 2 4294967295") (Put 2 4294967295 ∷ []))))))))
unfolding steps_of with_lines with_line with_words step_in port_in number_in words decimal_upto digits_upto number_upto
values_are_read_from_left_to_right = (refl, (refl, (refl, (refl, (refl, (refl, (refl, refl)))))))

-- the length of a line is tested before its words
a_line_has_at_most_4096_bytes :
    (with_next (with_line []) 1 (replicate 4096 32) [] ≡ Ok []) × ((with_next (with_line []) 1 (replicate 4097 32) [] ≡ Err LineTooLong)
    × (with_next (with_line []) 1 (replicate 4097 120) [] ≡ Err LineTooLong))
unfolding with_line with_words step_in words
a_line_has_at_most_4096_bytes = (refl, (refl, refl))

-- how many steps there are is tested before the first word of one more
no_more_than_131072_steps_are_read : with_line [] 9 (codes "what") (replicate 131072 Edit) ≡ Err TooManySteps
unfolding with_line with_words step_in words
no_more_than_131072_steps_are_read = refl
