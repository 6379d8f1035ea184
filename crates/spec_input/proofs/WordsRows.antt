-- Worked rows: the words of the command line.
use Rattle.std.specs.Prelude.{◌≡◌, ℕ, List, [], ◌∷◌, ◌++◌, Option, Some, None, true, false, codes, map, refl}
use Rattle.std.specs.List.{range_with_len}
use Rattle.std.specs.Option.{option_map}
use Rattle.std.specs.Fmt.{digits, decimal}
use Rattle.clap.specs.Faults.{is_simple_and_free}
use Rattle.clap.specs.declared.builder.value_parser.Reading.{Reading}
use Rattle.clap.specs.declared.parser.matches.ValueSource.{ValueSource}
use Rattle.clap.proofs.OnLiterals.{clap_on_literals}
use Rattle.spec_flow_text.specs.Numbers.{digits_upto, decimal_upto}
use Rattle.spec_input.specs.Words.{Command, Input, FilesNamed, Files, Made, PortWord, app, port_number, port_word, new_port, port_words, ports_of, files_in, command_in, command_of}

-- of this command `clap` says exactly which words it takes, and what they say
the_command_is_simple : is_simple_and_free app ≡ true
the_command_is_simple = refl

abbrev word : ℕ → List ℕ → PortWord
word port file = record { port = port; file = file }

abbrev command : ℕ → ℕ → Input → Command
command workers limit input = record { workers = workers; flow_limit = limit; input = input }

abbrev says : List (List ℕ) → Command → Type 0
says words said = command_of words ≡ Some said

abbrev refused : List (List ℕ) → Type 0
refused words = command_of words ≡ None

-- what these names say, where nothing is given beside edits and traces
abbrev named : List ℕ → List ℕ → List PortWord → FilesNamed
named edits out ports = record { edits = edits; steps = None; mirrors = None; out = out; netflow = false; ports = ports }

-- one port of these names
abbrev one : FilesNamed
one = named (codes "e") (codes "o") (word 1 (codes "a") ∷ [])

abbrev one_port : Option (List ℕ) → Input
one_port steps = Files (record one { steps = steps })

names_and_ports_stand_in_order :
    (says (codes "e" ∷ codes "o" ∷ codes "1=a=b" ∷ codes "2=" ∷ []) (command 0 8192 (Files (named (codes "e") (codes "o") (word 1 (codes "a=b") ∷ word 2 [] ∷ [])))))
    × (says (codes "e" ∷ codes "o" ∷ codes "65279=" ∷ []) (command 0 8192 (Files (named (codes "e") (codes "o") (word 65279 [] ∷ [])))))
unfolding command_of command_in files_in port_words new_port port_word port_number decimal_upto digits_upto clap_on_literals
names_and_ports_stand_in_order = (refl, refl)

options_stand_anywhere :
    (says (codes "--workers" ∷ codes "16" ∷ codes "e" ∷ codes "--flow-limit=1" ∷ codes "o" ∷ codes "1=a" ∷ []) (command 16 1 (one_port None)))
    × (says (codes "e" ∷ codes "o" ∷ codes "1=a" ∷ codes "--steps" ∷ codes "s" ∷ codes "--workers=0" ∷ []) (command 0 8192 (one_port (Some (codes "s")))))
unfolding command_of command_in files_in port_words new_port port_word port_number decimal_upto digits_upto clap_on_literals
options_stand_anywhere = (refl, refl)

flows_are_written_where_the_flag_stands :
    (says (codes "--netflow" ∷ codes "e" ∷ codes "o" ∷ codes "1=a" ∷ []) (command 0 8192 (Files (record one { netflow = true }))))
    × ((says (codes "e" ∷ codes "o" ∷ codes "1=a" ∷ codes "--netflow" ∷ codes "--workers=2" ∷ []) (command 2 8192 (Files (record one { netflow = true }))))
    × ((refused (codes "--netflow=x" ∷ codes "e" ∷ codes "o" ∷ codes "1=a" ∷ []))
    × ((refused (codes "--netflow=true" ∷ codes "e" ∷ codes "o" ∷ codes "1=a" ∷ []))
    × (refused (codes "--netflow" ∷ codes "--netflow" ∷ codes "e" ∷ codes "o" ∷ codes "1=a" ∷ [])))))
unfolding command_of command_in files_in port_words new_port port_word port_number decimal_upto digits_upto clap_on_literals
flows_are_written_where_the_flag_stands = (refl, (refl, (refl, (refl, refl))))

mirrors_may_be_given :
    (says (codes "--mirrors" ∷ codes "m" ∷ codes "e" ∷ codes "o" ∷ codes "1=a" ∷ []) (command 0 8192 (Files (record one { mirrors = Some (codes "m") }))))
    × ((says (codes "e" ∷ codes "--mirrors=m" ∷ codes "--steps=s" ∷ codes "o" ∷ codes "--netflow" ∷ codes "1=a" ∷ [])
    (command 0 8192 (Files (record one { steps = Some (codes "s"); mirrors = Some (codes "m"); netflow = true }))))
    × ((says (codes "--workers=3" ∷ codes "--mirrors=m" ∷ codes "e" ∷ codes "o" ∷ codes "1=a" ∷ []) (command 3 8192 (Files (record one { mirrors = Some (codes "m") }))))
    × ((refused (codes "--mirrors" ∷ [] ∷ codes "e" ∷ codes "o" ∷ codes "1=a" ∷ []))
    × ((refused (codes "--mirrors=" ∷ codes "e" ∷ codes "o" ∷ codes "1=a" ∷ []))
    × (refused (codes "--mirrors=m" ∷ codes "--mirrors=m" ∷ codes "e" ∷ codes "o" ∷ codes "1=a" ∷ []))))))
unfolding command_of command_in files_in port_words new_port port_word port_number decimal_upto digits_upto clap_on_literals
mirrors_may_be_given = (refl, (refl, (refl, (refl, (refl, refl)))))

after_two_hyphens_words_are_names :
    says (codes "--" ∷ codes "--steps" ∷ codes "-o" ∷ codes "1=-a" ∷ []) (command 0 8192 (Files (named (codes "--steps") (codes "-o") (word 1 (codes "-a") ∷ []))))
unfolding command_of command_in files_in port_words new_port port_word port_number decimal_upto digits_upto clap_on_literals
after_two_hyphens_words_are_names = refl

a_number_makes_the_input :
    (says (codes "--generate" ∷ codes "7" ∷ []) (command 0 8192 (Made 7)))
    × (says (codes "--flow-limit" ∷ codes "65536" ∷ codes "--generate=4294967295" ∷ codes "--workers" ∷ codes "2" ∷ []) (command 2 65536 (Made 4294967295)))
unfolding command_of command_in files_in port_words new_port port_word port_number decimal_upto digits_upto clap_on_literals
a_number_makes_the_input = (refl, refl)

numbers_have_their_ranges :
    (refused (codes "--workers" ∷ codes "17" ∷ codes "e" ∷ codes "o" ∷ codes "1=" ∷ []))
    × ((refused (codes "--workers" ∷ codes "02" ∷ codes "e" ∷ codes "o" ∷ codes "1=" ∷ []))
    × ((refused (codes "--flow-limit" ∷ codes "0" ∷ codes "e" ∷ codes "o" ∷ codes "1=" ∷ []))
    × ((refused (codes "--flow-limit" ∷ codes "65537" ∷ codes "e" ∷ codes "o" ∷ codes "1=" ∷ []))
    × ((refused (codes "--generate" ∷ codes "4294967296" ∷ [])) × (refused (codes "--generate=" ∷ []))))))
unfolding command_of command_in files_in port_words new_port port_word port_number decimal_upto digits_upto clap_on_literals
numbers_have_their_ranges = (refl, (refl, (refl, (refl, (refl, refl)))))

ports_differ_and_are_from_1_to_65279 :
    (refused (codes "e" ∷ codes "o" ∷ codes "1=a" ∷ codes "1=" ∷ [])) × ((refused (codes "e" ∷ codes "o" ∷ codes "0=a" ∷ []))
    × ((refused (codes "e" ∷ codes "o" ∷ codes "65280=a" ∷ [])) × ((refused (codes "e" ∷ codes "o" ∷ codes "01=a" ∷ []))
    × ((refused (codes "e" ∷ codes "o" ∷ codes "1" ∷ [])) × ((refused (codes "e" ∷ codes "o" ∷ []))
    × (refused (codes "e" ∷ [])))))))
unfolding command_of command_in files_in port_words new_port port_word port_number decimal_upto digits_upto clap_on_literals
ports_differ_and_are_from_1_to_65279 = (refl, (refl, (refl, (refl, (refl, (refl, refl))))))

-- what these ports say, after EDITS and OUT
abbrev says_ports : List (List ℕ) → List PortWord → Type 0
says_ports ports words = says (codes "e" ∷ codes "o" ∷ ports) (command 0 8192 (Files (named (codes "e") (codes "o") words)))

any_port_may_have_a_trace :
    (says_ports (codes "1=" ∷ codes "2=a" ∷ []) (word 1 [] ∷ word 2 (codes "a") ∷ []))
    × ((says_ports (codes "2=a" ∷ codes "1=b" ∷ []) (word 2 (codes "a") ∷ word 1 (codes "b") ∷ []))
    × (says_ports (codes "1=" ∷ []) (word 1 [] ∷ [])))
unfolding command_of command_in files_in port_words new_port port_word port_number decimal_upto digits_upto clap_on_literals
any_port_may_have_a_trace = (refl, (refl, refl))

-- the words of so many ports without traces
abbrev ports_upto : ℕ → List (List ℕ)
ports_upto n = map (λ port. decimal port ++ codes "=") (range_with_len 1 n)

a_switch_has_at_most_32_ports :
    (says_ports (ports_upto 32) (map (λ port. word port []) (range_with_len 1 32)))
    × (refused (codes "e" ∷ codes "o" ∷ ports_upto 33))
unfolding command_of command_in files_in digits port_words new_port port_word port_number decimal_upto digits_upto clap_on_literals
a_switch_has_at_most_32_ports = (refl, refl)

-- a TRACE without a word is no port, whatever stands beside it
a_switch_has_a_port : (source : Option ValueSource) (reading : Reading)
    → ports_of (record { id = codes "TRACE"; values = []; count = None; source = source; reading = reading } ∷ []) ≡ None
unfolding clap_on_literals
a_switch_has_a_port source reading = refl

-- a port is a decimal number from 1 to 65279, without zeros before other digits
abbrev ports_and_what_they_are : List (List ℕ × Option ℕ)
ports_and_what_they_are =
    (codes "1", Some 1) ∷ (codes "10", Some 10) ∷ (codes "65279", Some 65279) ∷ (codes "65280", None) ∷
    (codes "0", None) ∷ (codes "01", None) ∷ (codes "00", None) ∷ (codes "0010", None) ∷ (codes "", None) ∷
    (codes "+1", None) ∷ (codes " 1", None) ∷ (codes "1 ", None) ∷ (codes "a", None) ∷ (codes "0x1", None) ∷ []

a_port_is_a_decimal_number_without_leading_zeros :
    map (λ row. port_word (row.0 ++ codes "=a")) ports_and_what_they_are
    ≡ map (λ row. option_map (λ port. word port (codes "a")) row.1) ports_and_what_they_are
unfolding port_word port_number decimal_upto digits_upto
a_port_is_a_decimal_number_without_leading_zeros = refl

names_are_not_empty :
    (refused ([] ∷ codes "o" ∷ codes "1=" ∷ [])) × ((refused (codes "e" ∷ [] ∷ codes "1=" ∷ []))
    × (refused (codes "--steps=" ∷ codes "e" ∷ codes "o" ∷ codes "1=" ∷ [])))
unfolding command_of command_in files_in port_words new_port port_word port_number decimal_upto digits_upto clap_on_literals
names_are_not_empty = (refl, (refl, refl))

-- a word that begins with a hyphen is no name and no port
a_hyphen_begins_an_option :
    (refused (codes "-e" ∷ codes "o" ∷ codes "1=a" ∷ [])) × ((refused (codes "e" ∷ codes "-o" ∷ codes "1=a" ∷ []))
    × ((refused (codes "e" ∷ codes "o" ∷ codes "-1=a" ∷ [])) × (refused (codes "e" ∷ codes "o" ∷ codes "1=a" ∷ codes "-2=a" ∷ []))))
unfolding command_of command_in files_in port_words new_port port_word port_number decimal_upto digits_upto clap_on_literals
a_hyphen_begins_an_option = (refl, (refl, (refl, refl)))

what_cannot_stand_together :
    (refused (codes "--workers=1" ∷ codes "--steps=s" ∷ codes "e" ∷ codes "o" ∷ codes "1=" ∷ []))
    × ((refused (codes "--generate=7" ∷ codes "e" ∷ [])) × ((refused (codes "--generate=7" ∷ codes "--steps=s" ∷ []))
    × ((refused (codes "--generate=7" ∷ codes "--netflow" ∷ [])) × ((refused (codes "--generate=7" ∷ codes "--mirrors=m" ∷ []))
    × (refused (codes "--workers=1" ∷ codes "--workers=1" ∷ codes "e" ∷ codes "o" ∷ codes "1=" ∷ []))))))
unfolding command_of command_in files_in port_words new_port port_word port_number decimal_upto digits_upto clap_on_literals
what_cannot_stand_together = (refl, (refl, (refl, (refl, (refl, refl)))))

unknown_options_and_requests_for_help_are_refused :
    (refused (codes "--trace" ∷ codes "e" ∷ codes "o" ∷ codes "1=" ∷ [])) × ((refused (codes "--help" ∷ [])) × ((refused (codes "-h" ∷ []))
    × ((refused (codes "--steps" ∷ [])) × (refused []))))
unfolding command_of command_in files_in port_words new_port port_word port_number decimal_upto digits_upto clap_on_literals
unknown_options_and_requests_for_help_are_refused = (refl, (refl, (refl, (refl, refl))))
