-- The fields of `mod_dl_src` and its kin can be written.
use Rattle.std.proofs.Common.{◌≡◌, ℕ, Bool, true, false, List, [], ◌∷◌, Option, Some, None, IsTrue, refl}
use Rattle.std.specs.Prelude.{if◌then◌else◌, bytes_eq}
use Rattle.std.specs.List.{list_all}
use Rattle.std.specs.Option.{option_or}
use Rattle.std.proofs.lemmas.Bool.{and_parts}
use Rattle.spec_flow_text.specs.declared.names.ActionName.{ActionName}
use Rattle.spec_flow_text.specs.declared.names.ActionName.TheVariants.{Port}
use Rattle.spec_flow_text.specs.Names.{meaning_of, in_upper_case, reserved_ports, actions_by_name, begins_with_digit, is_action_left_out, action_left_out, reserved_port_named, action_named}
use Rattle.action_text.specs.ActionsRead.{names_written}

-- what holds of each meaning in a table
abbrev Holds : (ActionName → Bool) → Option ActionName → Type 0
Holds p None = Unit {0}
Holds p (Some name) = IsTrue (p name)

of_meaning : (p : ActionName → Bool) (table : List (List ℕ × ActionName)) (text : List ℕ) → IsTrue (list_all (λ (row : List ℕ × ActionName). p row.1) table) → Holds p (meaning_of table text)
of_meaning p [] text all = tt
of_meaning p (row ∷ rows) text all =
    let parts = and_parts (p row.1) (list_all (λ (r : List ℕ × ActionName). p r.1) rows) all in
    at (bytes_eq row.0 text) refl parts.0 (of_meaning p rows text parts.1)
  where
    at : (t : Bool) → bytes_eq row.0 text ≡ t → IsTrue (p row.1) → Holds p (meaning_of rows text) → Holds p (meaning_of (row ∷ rows) text)
    at true e here later = rw e here
    at false e here later = rw e later

of_either : (p : ActionName → Bool) (a b : Option ActionName) → Holds p a → Holds p b → Holds p (option_or a b)
of_either p None b ha hb = hb
of_either p (Some name) b ha hb = ha

of_left_out : (known : Bool) → Holds names_written (action_left_out known)
of_left_out true = refl
of_left_out false = tt

of_reserved : (text : List ℕ) → Holds names_written (reserved_port_named text)
unfolding reserved_port_named
of_reserved text =
    of_either names_written (meaning_of reserved_ports text) (meaning_of (in_upper_case reserved_ports) text)
    (of_meaning names_written reserved_ports text refl) (of_meaning names_written (in_upper_case reserved_ports) text refl)

of_digit : (t : Bool) (o : Option ActionName) → Holds names_written o → Holds names_written (if t then Some Port else o)
of_digit true o h = refl
of_digit false o h = h

of_names : (text : List ℕ) → Holds names_written (action_named text)
unfolding action_named
of_names text =
    of_digit (begins_with_digit text) (option_or (reserved_port_named text) (option_or (meaning_of actions_by_name text) (action_left_out (is_action_left_out text))))
    (of_either names_written (reserved_port_named text) (option_or (meaning_of actions_by_name text) (action_left_out (is_action_left_out text))) (of_reserved text)
    (of_either names_written (meaning_of actions_by_name text) (action_left_out (is_action_left_out text)) (of_meaning names_written actions_by_name text refl) (of_left_out (is_action_left_out text))))

pub mods_are_written : (text : List ℕ) (name : ActionName) → Some name ≡ action_named text → IsTrue (names_written name)
mods_are_written text name e = rw (← e) at (of_names text)
